-- What a visit to a chip comes to: its sheet and stored bits are given by numbers, its memory and the answer
-- buffer are lent.
use Rattle.std.specs.Prelude.{◌≡◌, ℕ, Bool, true, false, if◌then◌else◌, List, Ok, Err, Result}
use Rattle.datasheet.specs.declared.sheet.Sheet.{Sheet}
use Rattle.datasheet.specs.declared.sheet.Marks.{Marks}
use Rattle.datasheet.specs.declared.refusal.Refusal.{Refusal}
use Rattle.datasheet.specs.declared.refusal.Refusal.TheVariants.{MemoryLength}
use Rattle.datasheet.specs.Sheets.{fits, Made}
use Rattle.datasheet.specs.Records.{stored_bits}
use Rattle.datasheet.specs.Chips.{whole}
use Rattle.datasheet.specs.Calls.{ChipState, powered}
use Rattle.chip.specs.declared.chip.ParkedChip.{ParkedChip}
use Rattle.board_model.specs.Images.{Image, bytes_of}
use Rattle.board_model.specs.Layers.{dumped}
use Rattle.script.specs.Runs.{Outcome, outcome, board_outcome, read_outcome}
use Rattle.script_reports.specs.declared.Report.{Report}
use Rattle.script_reports.specs.Reports.{report_of}
use Rattle.script_reports.specs.Shown.{shown_of}

-- the report, what the lent memory holds, and what the answer buffer holds
pub record Visit : Type 0 where
  pub report : Report
  pub memory : List ℕ
  pub answers : List ℕ

-- a refused visit changes nothing
abbrev pub refused : Refusal → ℕ → List ℕ → List ℕ → Visit
refused e stored memory answers =
    record { report = report_of (Err e) stored; memory = memory; answers = answers }

-- the chip run on a chip of this sheet, by the rules over the full list of bits
abbrev pub on_chip : Sheet → ℕ → List ℕ → List ℕ → List ℕ → Visit
on_chip s stored memory script answers =
    let o : Outcome (ChipState (List Bool)) = outcome whole (powered s memory stored) script answers in
    record { report = report_of o.result o.left.rec.stored; memory = o.left.rec.memory; answers = o.buffer }

-- the board run on the board that a driver makes of it, whose image is the chip's memory; no write changes
-- the stored bits
abbrev pub on_board : Sheet → ℕ → List ℕ → List ℕ → List ℕ → Visit
on_board s stored memory script answers =
    let o : Outcome Image = board_outcome (shown_of s memory stored) script answers in
    record { report = report_of o.result stored; memory = bytes_of o.left; answers = o.buffer }

-- the run over a dump, which is left as it is and has no stored bits
abbrev pub on_dump : List ℕ → List ℕ → List ℕ → Visit
on_dump memory script answers =
    let o : Outcome Image = read_outcome (dumped memory) script answers in
    record { report = report_of o.result 0; memory = memory; answers = o.buffer }

-- a visit is refused where there is no sheet, then where the memory does not fit it; else the run decides.
-- Bits 1 and 0 of the stored byte are dropped
abbrev pub visited : (Sheet → ℕ → List ℕ → List ℕ → List ℕ → Visit) →
    Result Sheet Refusal → ℕ → List ℕ → List ℕ → List ℕ → Visit
visited run (Err e) stored memory script answers = refused e (stored_bits stored) memory answers
visited run (Ok s) stored memory script answers =
    let kept : ℕ = stored_bits stored in
    if fits s memory then run s kept memory script answers else refused MemoryLength kept memory answers

-- why a chip of the sheet that was made is not powered over this memory
abbrev pub Refuses : List ℕ → Result Sheet Refusal → Refusal → Type 0
Refuses memory (Err e') e = e ≡ e'
Refuses memory (Ok s) e = (fits s memory ≡ false) × (e ≡ MemoryLength)

-- what a visit comes to, by t and f, the marks and the given status byte of the chip
abbrev pub Visits : (Sheet → ℕ → List ℕ → List ℕ → List ℕ → Visit) →
    ℕ → ℕ → Marks → ℕ → List ℕ → List ℕ → List ℕ → Visit → Type 0
Visits run t f marks status memory script answers v =
    (made : Result Sheet Refusal) × Made t f marks made × (v ≡ visited run made status memory script answers)

-- the chip that is parked for a visit, or the refusal
abbrev pub Parks : ℕ → ℕ → Marks → ℕ → List ℕ → Result ParkedChip Refusal → Type 0
Parks t f marks status memory (Ok parked) =
    Made t f marks (Ok parked.sheet)
    × (fits parked.sheet memory ≡ true)
    × (parked.stored.bits ≡ stored_bits status)
Parks t f marks status memory (Err e) =
    (made : Result Sheet Refusal) × Made t f marks made × (Refuses memory made e)
