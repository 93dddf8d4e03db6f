-- What each call of a board answers, and what it leaves. A range that does not lie in the image is refused by
-- 4, and a write to a range with a fenced cell by 5; 4 comes before 5, and a refusal leaves everything.
use Rattle.std.specs.Prelude.{ℕ, ◌+◌, if◌then◌else◌, List, length, Some, None, Ok, Err, Option, Result, nat_le}
use Rattle.datasheet.specs.declared.refusal.Refusal.{Refusal}
use Rattle.datasheet.specs.declared.refusal.Refusal.TheVariants.{OutOfRange, Fenced}
use Rattle.board_model.specs.Images.{Image, inside, part, bytes_of, fence_in, overwritten}

-- the test of a range of count places from start on, for a board of so many cells
abbrev pub range_result : ℕ → ℕ → ℕ → Result (Unit {0}) Refusal
range_result size start count = if nat_le (start + count) size then Ok tt else Err OutOfRange

-- the fence question
abbrev pub fence_result : Image → ℕ → ℕ → Result (Option ℕ) Refusal
fence_result i start count = if inside i start count then Ok (fence_in i start count) else Err OutOfRange

-- a read of count cells
abbrev pub read_result : Image → ℕ → ℕ → Result (Unit {0}) Refusal
read_result i start count = range_result (length i) start count

-- the caller's buffer after a read: filled, or as it was
abbrev pub read_into : Image → ℕ → List ℕ → List ℕ
read_into i start buffer =
    if inside i start (length buffer) then bytes_of (part i start (length buffer)) else buffer

-- a write goes through if its range has no fence
abbrev pub unless_fenced : Option ℕ → Result (Unit {0}) Refusal
unless_fenced None = Ok tt
unless_fenced (Some place) = Err Fenced

abbrev pub write_result : Image → ℕ → List ℕ → Result (Unit {0}) Refusal
write_result i start bytes =
    if inside i start (length bytes) then unless_fenced (fence_in i start (length bytes)) else Err OutOfRange

-- the new one if the call was accepted, else the old one
abbrev pub if_accepted : {X : Type 0} → Result (Unit {0}) Refusal → X → X → X
if_accepted (Ok u) new old = new
if_accepted (Err e) new old = old

-- the image after a write
abbrev pub written : Image → ℕ → List ℕ → Image
written i start bytes = if_accepted (write_result i start bytes) (overwritten i start bytes) i
