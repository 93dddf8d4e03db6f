use Rattle.std.proofs.Common.{◌≡◌, drop}
use Rattle.datasheet.specs.Calls.{run}
use Rattle.datasheet.specs.Kept.{bounded}
use Rattle.chip.specs.Views.{chip_of}
use Rattle.spi_driver.specs.Left.{samples}
use Rattle.spi_driver.proofs.transfers.put_all.Given as goal

abbrev pub invariant-loop-byte : goal.invariant-loop-byte
invariant-loop-byte l =
    (run bounded (chip_of l.chip) (samples (drop l.byte-index l.before)) ≡ run bounded (chip_of l.initial.chip) (samples l.initial.before))
    × (l.chip.sheet ≡ l.initial.chip.sheet)
    × (l.chip.memory.ghost_name ≡ l.initial.chip.memory.ghost_name)
