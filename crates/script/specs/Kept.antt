-- The laws of what a board run leaves alone.
use Rattle.std.specs.Prelude.{◌≡◌, ℕ, ◌+◌, ◌<◌, ◌≤◌, ◌⊎◌, true, List, [], ◌∷◌, length}
use Rattle.board_model.specs.Images.{Image, part}
use Rattle.board_model.specs.Calls.{BoardCall, size, fence, read, write, BoardAnswer, refused, after, answer}
use Rattle.board.specs.declared.ReadBoard.{Ghosts}
use Rattle.script.specs.Steps.{board_kinds}
use Rattle.script.specs.Reading.{reads, read_script}
use Rattle.script.specs.Runs.{board_outcome, outcome_below}

-- as many cells, each fenced or free as before, and each fenced cell with its byte
abbrev pub FencedKept : Image → Image → Type 0
FencedKept [] [] = Unit {0}
FencedKept [] (d ∷ new) = ⊥
FencedKept (c ∷ old) [] = ⊥
FencedKept (c ∷ old) (d ∷ new) =
    (d.fenced ≡ c.fenced) × (c.fenced ≡ true → d.byte ≡ c.byte) × FencedKept old new

-- Whatever the script is, a board run leaves the number of cells, their fences, and the bytes of the fenced
-- ones.
abbrev pub KeepsFenced : Type 0
KeepsFenced = (i : Image) (script buffer : List ℕ) → FencedKept i (board_outcome i script buffer).left

-- a call is a write in whose range the place lies
abbrev pub Names : BoardCall → ℕ → Type 0
Names size place = ⊥
Names (fence start count) place = ⊥
Names (read start count) place = ⊥
Names (write start bytes) place = (start ≤ place) × (place < start + length bytes)

abbrev pub NamedBy : List BoardCall → ℕ → Type 0
NamedBy [] place = ⊥
NamedBy (c ∷ calls) place = Names c place ⊎ NamedBy calls place

-- a call before these, unless it was refused
abbrev pub unless_refused : BoardAnswer → BoardCall → List BoardCall → List BoardCall
unless_refused (refused number) call rest = rest
unless_refused _ call rest = call ∷ rest

-- those of some calls, made one after the other, that are not refused
abbrev pub accepted : Image → List BoardCall → List BoardCall
accepted i [] = []
accepted i (c ∷ calls) = unless_refused (answer i c) c (accepted (after i c) calls)

-- A cell that no accepted write of a script names is left as it is.
abbrev pub KeepsUnnamed : Type 0
KeepsUnnamed =
    (i : Image) (script buffer : List ℕ) (calls : List BoardCall) (place : ℕ) →
    read_script board_kinds script ≡ reads calls → (NamedBy (accepted i calls) place → ⊥) →
    part (board_outcome i script buffer).left place 1 ≡ part i place 1

-- Over any board, so over any pile of layers, no byte below alters but those of the cells that the accepted
-- writes of a script name. `build` says of boards of this build what stands below them, g is what does; a script
-- with a fault is refused, and a refused run leaves all of it.
abbrev pub KeepsBeneath : {B : Type 0} → Ghosts B → Type 0
KeepsBeneath build =
    (g : build.Beneath) (script buffer : List ℕ) (calls : List BoardCall) (place : build.Place) →
    read_script board_kinds script ≡ reads calls →
    ((cell : ℕ) → NamedBy (accepted (build.shows g) calls) cell → place ≡ build.stands g cell → ⊥) →
    build.byte_at (outcome_below build.shows build.put g script buffer).left place ≡ build.byte_at g place
