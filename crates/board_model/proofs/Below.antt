-- A board by what stands below it answers and leaves, call by call, what its image does.
use Rattle.std.proofs.Common.{◌≡◌, ℕ, List, sym, refl, Option}
use Rattle.datasheet.proofs.Machines.{means}
use Rattle.board_model.specs.Images.{Image}
use Rattle.board_model.specs.Beneath.{Standing}
use Rattle.board_model.specs.Calls.{BoardCall, size, fence, read, write, after, answer, answers, run, after_below, answer_below, answers_below, run_below}
use Rattle.board_model.proofs.Standing.{image_written}

module _ {G P : Type 0} {shows : G → Image} {put : G → ℕ → List ℕ → G} {byte_at : G → P → Option ℕ} {stands : G → ℕ → P} (below : Standing shows put byte_at stands) where
  pub shows_after : (g : G) (c : BoardCall) → shows (after_below shows put g c) ≡ after (shows g) c
  shows_after g size = refl
  shows_after g (fence start count) = refl
  shows_after g (read start count) = refl
  shows_after g (write start bs) = image_written below start bs refl refl refl

  pub by_image : (g : G) (calls : List BoardCall) →
      (answers (shows g) calls ≡ answers_below shows put g calls) × (run (shows g) calls ≡ shows (run_below shows put g calls))
  by_image g calls =
      means after answer (after_below shows put) (answer_below shows put) shows (λ h rest. Unit {0})
      (λ h c rest u. (tt, sym (shows_after h c), refl)) g calls tt
