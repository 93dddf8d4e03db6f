-- A visit: a parked chip is powered over lent memory, and a script is run on it.
use Rattle.std.specs.Prelude.{ℕ, Bool, List}
use Rattle.datasheet.specs.Chips.{whole}
use Rattle.datasheet.specs.Calls.{ChipState, powered}
use Rattle.chip.specs.declared.chip.ParkedChip.{ParkedChip}
use Rattle.script.specs.Runs.{Outcome, outcome}

-- its outcome, by the rules over the full list of bits
abbrev pub visit_outcome : ParkedChip → List ℕ → List ℕ → List ℕ → Outcome (ChipState (List Bool))
visit_outcome parked memory script buffer = outcome whole (powered parked.sheet memory parked.stored.bits) script buffer
