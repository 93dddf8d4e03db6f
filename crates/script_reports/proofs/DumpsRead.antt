-- A dump of a chip's memory has the bytes of the board over the chip, and so answers sizes and reads as it does.
use Rattle.std.proofs.Common.{◌≡◌, ℕ, true, false, List, length, take, Err, Ok, Result, sym, refl, ap, ◌∙◌, arith}
use Rattle.std.proofs.lemmas.List.{take_all}
use Rattle.datasheet.specs.declared.sheet.Sheet.{Sheet}
use Rattle.datasheet.specs.declared.refusal.Refusal.{Refusal}
use Rattle.datasheet.specs.Sheets.{fits}
use Rattle.datasheet.specs.Protection.{first_protected}
use Rattle.datasheet.specs.Records.{Record}
use Rattle.board_model.specs.Images.{most, bytes_of}
use Rattle.board_model.specs.Layers.{dumped}
use Rattle.board_model.proofs.Dumps.{bytes_fenced}
use Rattle.board_model.proofs.Fenced.{cells_bytes, cells_length}
use Rattle.script.specs.declared.run.Counts.{Counts}
use Rattle.script.proofs.ReadRuns.{runs_as_board}
use Rattle.spi_driver.specs.Standing.{few_by}
use Rattle.script_reports.specs.Reports.{report_of}
use Rattle.script_reports.specs.Shown.{shown_of}
use Rattle.script_reports.specs.DumpOfChip.{AnswersAsChip}

module _ (s : Sheet) (memory : List ℕ) (stored : ℕ) (fit : fits s memory ≡ true) where
  abbrev resting : Record
  resting = record { memory = memory; stored = stored; latch = false; asleep = false }

  shown_bytes : bytes_of (shown_of s memory stored) ≡ memory
  shown_bytes = cells_bytes (first_protected s resting) memory

  same_bytes : bytes_of (dumped memory) ≡ bytes_of (shown_of s memory stored)
  same_bytes =
      let few = few_by true s resting (sym fit) in
      let many : length (shown_of s memory stored) ≡ length memory = cells_length (first_protected s resting) memory in
      bytes_fenced (take most memory) ∙ take_all most memory (omega arith) ∙ sym shown_bytes

report_without : (r : Result Counts Refusal) (stored : ℕ) → report_of r 0 ≡ record (report_of r stored) { stored = 0 }
report_without (Ok counts) stored = refl
report_without (Err e) stored = refl

pub answers_as_chip : AnswersAsChip
answers_as_chip s memory stored script answers calls fit is =
    let same = runs_as_board.as_board (dumped memory) (shown_of s memory stored) script answers calls (same_bytes s memory stored fit) is in
    (same.1, ap (λ (r : Result Counts Refusal). report_of r 0) same.0 ∙ report_without _ stored)
