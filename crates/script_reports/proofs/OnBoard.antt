-- What the board of a chip is when power comes, and what the chip holds when the run ends.
use Rattle.std.proofs.Common.{◌≡◌, ℕ, ◌+◌, ◌*◌, ◌<◌, Bool, true, false, cond, leb, List, [], ◌∷◌, ◌++◌, map, length, take, drop, Ok, Err, Result, sym, refl, ap, ap₂, ◌∙◌, arith}
use Rattle.std.proofs.lemmas.Bool.{eqb-true}
use Rattle.std.proofs.lemmas.List.{map-append, take-append-drop}
use Rattle.std.proofs.lemmas.Nat.{pow_pos}
use Rattle.datasheet.specs.declared.registers.Registers.{Registers}
use Rattle.datasheet.specs.declared.sheet.Sheet.{Sheet}
use Rattle.datasheet.specs.declared.refusal.Refusal.{Refusal}
use Rattle.datasheet.specs.declared.refusal.Refusal.TheVariants.{ShortBuffer}
use Rattle.datasheet.specs.Sheets.{cells, fits, density_of}
use Rattle.datasheet.specs.Records.{Record}
use Rattle.datasheet.specs.Calls.{ChipState, powered}
use Rattle.datasheet.specs.Protection.{first_protected}
use Rattle.datasheet.specs.Kept.{bounded}
use Rattle.datasheet.proofs.Machines.{keeps}
use Rattle.spi_model.specs.Meanings.{made}
use Rattle.board_model.specs.declared.Cell.{Cell}
use Rattle.board_model.specs.Images.{Image, bytes_of, free, overwritten, fenced}
use Rattle.board_model.specs.Results.{if_accepted, write_result, written}
use Rattle.board_model.specs.Calls.{BoardCall, size, fence, read, write, after, run}
use Rattle.board_model.proofs.Cells.{length_overwritten}
use Rattle.spi_bus.specs.Behind.{behind_chip}
use Rattle.spi_driver.specs.Drives.{chip_image, image_of}
use Rattle.spi_driver.proofs.Cells.{image_length}
use Rattle.script.specs.Steps.{board_kinds}
use Rattle.script.specs.Reading.{Reading, reads, stops, read_script}
use Rattle.script.specs.Runs.{outcome_of, playing, refusing, board_outcome}
use Rattle.script.specs.Machines.{replies, board_machine}
use Rattle.script_reports.specs.Shown.{shown_behind, shown_of}

-- at the beginning
pub begins : {c : ChipState Registers} {s : Sheet} {memory : List ℕ} {stored : ℕ} → c ≡ powered s memory stored → fits s memory ≡ true →
    image_of (made bounded true c) ≡ shown_of s memory stored
begins {s = s} {memory = memory} {stored = stored} e fit =
    ap (λ (c : ChipState Registers). image_of (made bounded true c)) e ∙ ap (λ (f : Bool). cond f (shown_of s memory stored) []) fit

-- no call changes the number of cells
length_written : (i : Image) (start : ℕ) (bytes : List ℕ) → length (written i start bytes) ≡ length i
length_written i start bytes = go (write_result i start bytes)
  where
    go : (r : Result (Unit {0}) Refusal) → length (if_accepted r (overwritten i start bytes) i) ≡ length i
    go (Ok u) = length_overwritten i start bytes
    go (Err e) = refl

length_after : (i : Image) (c : BoardCall) → length (after i c) ≡ length i
length_after i size = refl
length_after i (fence start count) = refl
length_after i (read start count) = refl
length_after i (write start bytes) = length_written i start bytes

length_run : (i : Image) (calls : List BoardCall) → length (run i calls) ≡ length i
length_run i calls = keeps after (λ j rest. length j ≡ length i) (λ j c rest e. length_after j c ∙ e) i calls refl

length_read : (i : Image) (buffer : List ℕ) (k : Reading BoardCall) → length (outcome_of board_kinds board_machine k i buffer).left ≡ length i
length_read i buffer (stops e) = refl
length_read i buffer (reads calls) = go (leb (9 * length calls) (length buffer))
  where
    go : (f : Bool) →
        length (cond f (playing board_kinds board_machine i calls (replies board_machine i calls) buffer) (refusing ShortBuffer i buffer)).left ≡ length i
    go true = length_run i calls
    go false = refl

length_left : (i : Image) (script buffer : List ℕ) → length (board_outcome i script buffer).left ≡ length i
length_left i script buffer = length_read i buffer (read_script board_kinds script)

-- the bytes of the cells of a chip are its memory
marked_bytes : (f : ℕ → Cell) → ((b : ℕ) → (f b).byte ≡ b) → (xs : List ℕ) → bytes_of (map f xs) ≡ xs
marked_bytes f h [] = refl
marked_bytes f h (x ∷ xs) = ap₂ (λ (b : ℕ) (bs : List ℕ). b ∷ bs) (h x) (marked_bytes f h xs)

chip_bytes : (s : Sheet) (r : Record) → bytes_of (chip_image s r) ≡ r.memory
chip_bytes s r =
    let k = first_protected s r in
    map-append (λ (c : Cell). c.byte) (map free (take k r.memory)) (map fenced (drop k r.memory))
    ∙ ap₂ (λ (xs ys : List ℕ). xs ++ ys) (marked_bytes free (λ b. refl) (take k r.memory)) (marked_bytes fenced (λ b. refl) (drop k r.memory))
    ∙ take-append-drop k r.memory

shown_bytes : (f : Bool) (s : Sheet) (r : Record) (left : Image) → cond f (chip_image s r) [] ≡ left → 0 < length left → r.memory ≡ bytes_of left
shown_bytes true s r left e some = sym (chip_bytes s r) ∙ ap bytes_of e
shown_bytes false s r left e some = absurd (omega (arith, ap length e))

-- at the end
pub ends : (c : ChipState Registers) (s : Sheet) (memory : List ℕ) (stored : ℕ) (i : Image) (script buffer : List ℕ) → fits s memory ≡ true → i ≡ shown_of s memory stored →
    shown_behind (behind_chip c) ≡ (board_outcome i script buffer).left → c.rec.memory ≡ bytes_of (board_outcome (shown_of s memory stored) script buffer).left
ends c s memory stored i script buffer fit begun left =
    let cells_there = eqb-true (length memory) (cells s) fit in
    let some = pow_pos (10 + density_of s.t) in
    let long = image_length s (record { memory = memory; stored = stored; latch = false; asleep = false }) in
    shown_bytes c.fitted c.sheet c.rec _ left (omega (arith, cells_there, some, long, ap length begun, length_left i script buffer))
    ∙ ap (λ (j : Image). bytes_of (board_outcome j script buffer).left) begun
