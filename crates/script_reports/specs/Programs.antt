-- The two script programs: what each writes of the bytes that it reads.
use Rattle.std.specs.Prelude.{ℕ, ◌/◌, ◌%◌, if◌then◌else◌, List, [], ◌∷◌, ◌++◌, take, drop, replicate, ◌==◌}
use Rattle.std.proofs.Common.{lit≤}
use Rattle.datasheet.specs.declared.sheet.Sheet.{Sheet}
use Rattle.datasheet.specs.declared.part.Part.TheVariants.{Mb85rs64vy}
use Rattle.datasheet.specs.Parts.{density, marks}
use Rattle.script_reports.specs.declared.Report.{Report}
use Rattle.script_reports.specs.declared.programs.Target.{Target}
use Rattle.script_reports.specs.declared.programs.Target.TheVariants.{Pins, Board}
use Rattle.script_reports.specs.Visits.{Visit, on_chip, on_board}

-- ## What it is run on

-- an MB85RS64VY with t 03h and f 02h; its status is 0
abbrev pub sheet : Sheet
sheet =
    record {
      t = density Mb85rs64vy;
      f = 0x02;
      marks = marks Mb85rs64vy;
      known = (lit≤ tt, lit≤ tt);
      bytes = (lit≤ tt, lit≤ tt);
    }

-- and its 8,192 cells are zero
unfoldable pub memory : List ℕ
memory = replicate 8192 0

-- the script is the first 4,096 bytes that are read
abbrev pub script_in : List ℕ → List ℕ
script_in input = take 4096 input

-- the run of a script on the pins of the chip, or on the board that a driver makes of it, with this answer
-- buffer
unfoldable pub visit : Target → List ℕ → List ℕ → Visit
visit Pins script buffer = on_chip sheet 0 memory script buffer
visit Board script buffer = on_board sheet 0 memory script buffer

-- the answer buffer has nine bytes for each byte of the script, since a step has one byte at least
unfoldable pub buffer : List ℕ
buffer = replicate 36864 0

-- ## What is written

-- of a script with a fault: 7Eh, the number of the refusal, and the place of the kind byte in two bytes, the
-- higher first
abbrev pub fault_bytes : Report → List ℕ
fault_bytes report = 0x7E ∷ report.refusal % 256 ∷ report.place / 256 % 256 ∷ report.place % 256 ∷ []

-- of a script that was run: the bytes of its answers
abbrev pub written : Visit → List ℕ
written v = if v.report.refusal == 0 then take v.report.«answer_bytes» v.answers else fault_bytes v.report

unfoldable pub output : Target → List ℕ → List ℕ
output target input = written (visit target (script_in input) buffer)

-- the whole buffer then: its answers, and the zeros behind them; of a script with a fault the four bytes, and the
-- zeros behind them
abbrev pub left_in : Visit → List ℕ
left_in v = if v.report.refusal == 0 then v.answers else fault_bytes v.report ++ drop 4 v.answers

unfoldable pub buffer_left : Target → List ℕ → List ℕ
buffer_left target input = left_in (visit target (script_in input) buffer)
