-- The laws of equality, from the law of chips and the laws of boards.
use Rattle.std.proofs.Common.{◌≡◌, ◌↔◌, List, sym, ap, ◌∙◌}
use Rattle.datasheet.specs.Alike.{Alike}
use Rattle.chip_laws.proofs.Apart.{told_apart, told_apart_whole}
use Rattle.board_model.specs.Images.{Image}
use Rattle.board_model.specs.Calls.{BoardCall, Sendable, Readable, answers}
use Rattle.board_model.proofs.Told.{told_apart as images-apart}
use Rattle.board_model.proofs.SizesAndReads.{read_apart}
use Rattle.board_model.proofs.Below.{by_image}
use Rattle.board.specs.declared.ReadBoard.{Ghosts}
use Rattle.board_equality.specs.Builds.{answers_of}
use Rattle.board_equality.specs.Law.{Equality, Agreement}

-- a board answers what its image is answered
as_image : {B : Type 0} (build : Ghosts B) (b : B) (calls : List BoardCall) → answers (build.image b) calls ≡ answers_of build b calls
as_image build b calls =
    ap (λ (i : Image). answers i calls) (build.shown b) ∙ (by_image build.standing (build.beneath b) calls).0

-- what two boards are told apart by, by what their images are
module _ {P Q : Type 0} (p : Ghosts P) (q : Ghosts Q) (a : P) (b : Q) where
  by_images : {E : Type 0} (Can : BoardCall → Type 0) → E ↔ Alike Can answers answers (p.image a) (q.image b) → E ↔ Alike Can (answers_of p) (answers_of q) a b
  by_images Can told = (
    λ same calls can. sym (as_image p a calls) ∙ told.0 same calls can ∙ as_image q b calls,
    λ alike. told.1 (λ calls can. as_image p a calls ∙ alike calls can ∙ sym (as_image q b calls)),
  )

pub agreement : {P Q : Type 0} (p : Ghosts P) (q : Ghosts Q) → Agreement p q
agreement p q a b = by_images p q a b Readable (read_apart (p.image a) (q.image b) (p.few a) (q.few b))

pub equality : {P Q : Type 0} (p : Ghosts P) (q : Ghosts Q) → Equality p q
equality p q =
    record {
      chips = told_apart_whole;
      kept-chips = told_apart;
      boards = λ a b. by_images p q a b Sendable (images-apart (p.image a) (q.image b) (p.few a) (q.few b));
    }
