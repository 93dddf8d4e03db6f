-- The law of dumps of chips.
use Rattle.std.specs.Prelude.{◌≡◌, ℕ, true, List}
use Rattle.datasheet.specs.declared.sheet.Sheet.{Sheet}
use Rattle.datasheet.specs.Sheets.{fits}
use Rattle.board_model.specs.Calls.{BoardCall}
use Rattle.script.specs.Steps.{read_kinds}
use Rattle.script.specs.Reading.{reads, read_script}
use Rattle.script_reports.specs.Visits.{Visit, on_board, on_dump}

-- A script of sizes and reads gets from a dump of a chip's memory what it gets from the board over the chip, whatever
-- that protects: the same answers, and the same report but for the stored bits, which a dump does not have.
abbrev pub AnswersAsChip : Type 0
AnswersAsChip =
    (s : Sheet) (memory : List ℕ) (stored : ℕ) (script answers : List ℕ) (calls : List BoardCall) →
    fits s memory ≡ true → read_script read_kinds script ≡ reads calls →
    let dump : Visit = on_dump memory script answers in
    let chip : Visit = on_board s stored memory script answers in
    (dump.answers ≡ chip.answers) × (dump.report ≡ record chip.report { stored = 0 })
