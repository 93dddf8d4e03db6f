-- A board run by what stands below the board: it is the run by the image, and alters no byte that no accepted write names.
use Rattle.std.proofs.Common.{◌≡◌, ℕ, ◌+◌, ◌*◌, Bool, true, false, cond, leb, List, [], ◌∷◌, length, Option, Ok, Err, Result, inl, sym, refl, ap, ap₂, ◌∙◌, subst, arith}
use Rattle.std.specs.List.{flat_map}
use Rattle.datasheet.specs.declared.refusal.Refusal.{Refusal}
use Rattle.datasheet.specs.declared.refusal.Refusal.TheVariants.{ShortBuffer}
use Rattle.datasheet.specs.Machines.{left_by}
use Rattle.board_model.specs.Images.{Image}
use Rattle.board_model.specs.Results.{write_result, if_accepted}
use Rattle.board_model.specs.Beneath.{Standing}
use Rattle.board_model.specs.Calls.{BoardCall, size, fence, read, write, BoardAnswer, done, answer_of, answer, after, after_below}
use Rattle.board_model.proofs.Below.{shows_after, by_image}
use Rattle.board.specs.declared.ReadBoard.{Ghosts}
use Rattle.script.specs.declared.run.Counts.{Counts}
use Rattle.script.specs.Steps.{board_kinds}
use Rattle.script.specs.Reading.{Reading, reads, stops, read_script}
use Rattle.script.specs.Replies.{board_answer_bytes}
use Rattle.script.specs.Machines.{replies, board_machine, machine_below}
use Rattle.script.specs.Runs.{Outcome, CameTo, refusing, playing, outcome_of, board_outcome, outcome_below}
use Rattle.script.specs.Kept.{NamedBy, unless_refused, accepted, KeepsBeneath}
use Rattle.script.proofs.Fences.{more_named}

module _ {G P : Type 0} {shows : G → Image} {put : G → ℕ → List ℕ → G} {byte_at : G → P → Option ℕ} {stands : G → ℕ → P} (below : Standing shows put byte_at stands) where
  -- ## One call

  stands_after : (g : G) (c : BoardCall) (cell : ℕ) → stands (after_below shows put g c) cell ≡ stands g cell
  stands_after g size cell = refl
  stands_after g (fence start count) cell = refl
  stands_after g (read start count) cell = refl
  stands_after g (write start bytes) cell = go (write_result (shows g) start bytes) refl
    where
      go : (r : Result (Unit {0}) Refusal) → write_result (shows g) start bytes ≡ r → stands (if_accepted r (put g start bytes) g) cell ≡ stands g cell
      go (Ok u) ok = below.stays g start bytes cell ok
      go (Err e) ok = refl

  -- a place at which no cell stands that the call names, if it is accepted
  left_alone : (g : G) (c : BoardCall) (rest : List BoardCall) (place : P) →
      ((cell : ℕ) → NamedBy (unless_refused (answer (shows g) c) c rest) cell → place ≡ stands g cell → ⊥) →
      byte_at (after_below shows put g c) place ≡ byte_at g place
  left_alone g size rest place out = refl
  left_alone g (fence start count) rest place out = refl
  left_alone g (read start count) rest place out = refl
  left_alone g (write start bytes) rest place out = go (write_result (shows g) start bytes) refl out
    where
      go : (r : Result (Unit {0}) Refusal) → write_result (shows g) start bytes ≡ r →
          ((cell : ℕ) → NamedBy (unless_refused (answer_of (λ _. done) r) (write start bytes) rest) cell → place ≡ stands g cell → ⊥) →
          byte_at (if_accepted r (put g start bytes) g) place ≡ byte_at g place
      go (Ok u) ok out = below.only g start bytes place ok (λ k h e. out (start + k) (inl (omega arith, omega arith)) e)
      go (Err e) ok out = refl

  -- ## All calls of a run

  run_alone : (g : G) (calls : List BoardCall) (place : P) →
      ((cell : ℕ) → NamedBy (accepted (shows g) calls) cell → place ≡ stands g cell → ⊥) →
      byte_at (left_by (after_below shows put) g calls) place ≡ byte_at g place
  run_alone g [] place out = refl
  run_alone g (c ∷ calls) place out =
      let rest = accepted (after (shows g) c) calls in
      run_alone (after_below shows put g c) calls place
      (λ cell n e.
      out cell (more_named (answer (shows g) c) c rest cell (subst (λ (i : Image). NamedBy (accepted i calls) cell) (shows_after below g c) n)) (e ∙ stands_after g c cell))
      ∙ left_alone g c rest place out

  -- ## The run

  -- an outcome by the image that is left
  abbrev seen : Outcome G → Outcome Image
  seen o = record { result = o.result; left = shows o.left; buffer = o.buffer }

  seen_played : (g : G) (calls : List BoardCall) (buffer : List ℕ) (fits : Bool) →
      seen (cond fits (playing board_kinds (machine_below shows put) g calls (replies (machine_below shows put) g calls) buffer) (refusing ShortBuffer g buffer))
      ≡ cond fits (playing board_kinds board_machine (shows g) calls (replies board_machine (shows g) calls) buffer) (refusing ShortBuffer (shows g) buffer)
  seen_played g calls buffer false = refl
  seen_played g calls buffer true =
      ap₂
      (λ (told : List BoardAnswer) (i : Image).
      record {
        result = (playing board_kinds board_machine (shows g) calls (flat_map board_answer_bytes told) buffer).result;
        left = i;
        buffer = (playing board_kinds board_machine (shows g) calls (flat_map board_answer_bytes told) buffer).buffer;
      })
      (sym (by_image below g calls).0) (sym (by_image below g calls).1)

  seen_outcome : (g : G) (script buffer : List ℕ) → seen (outcome_below shows put g script buffer) ≡ board_outcome (shows g) script buffer
  seen_outcome g script buffer = go (read_script board_kinds script)
    where
      go : (k : Reading BoardCall) → seen (outcome_of board_kinds (machine_below shows put) k g buffer) ≡ outcome_of board_kinds board_machine k (shows g) buffer
      go (stops e) = refl
      go (reads calls) = seen_played g calls buffer (leb (9 * length calls) (length buffer))

  -- a run that came to the one came to the other
  pub came_by_image : {r : Result Counts Refusal} {i j : Image} {g h : G} {bytes : List ℕ} (script buffer : List ℕ) → i ≡ shows g → j ≡ shows h →
      CameTo (outcome_below shows put g script buffer) r h bytes → CameTo (board_outcome i script buffer) r j bytes
  came_by_image {i = i} {g = g} script buffer shown after came =
      let same : seen (outcome_below shows put g script buffer) ≡ board_outcome i script buffer =
      seen_outcome g script buffer ∙ ap (λ (k : Image). board_outcome k script buffer) (sym shown) in
      record {
        result = came.result ∙ ap (λ (o : Outcome Image). o.result) same;
        left = after ∙ ap shows came.left ∙ ap (λ (o : Outcome Image). o.left) same;
        buffer = came.buffer ∙ ap (λ (o : Outcome Image). o.buffer) same;
      }

  pub run_keeps : (g : G) (script buffer : List ℕ) (calls : List BoardCall) (place : P) → read_script board_kinds script ≡ reads calls →
      ((cell : ℕ) → NamedBy (accepted (shows g) calls) cell → place ≡ stands g cell → ⊥) →
      byte_at (outcome_below shows put g script buffer).left place ≡ byte_at g place
  run_keeps g script buffer calls place is out =
      ap (λ (k : Reading BoardCall). byte_at (outcome_of board_kinds (machine_below shows put) k g buffer).left place) is
      ∙ go (leb (9 * length calls) (length buffer))
    where
      go : (fits : Bool) →
          byte_at
          (cond fits (playing board_kinds (machine_below shows put) g calls (replies (machine_below shows put) g calls) buffer) (refusing ShortBuffer g buffer)).left
          place
          ≡ byte_at g place
      go true = run_alone g calls place out
      go false = refl

pub keeps_beneath : {B : Type 0} (build : Ghosts B) → KeepsBeneath build
keeps_beneath build = run_keeps build.standing
