use Rattle.std.proofs.Common.{ap, ◌∙◌, rules}
use Rattle.datasheet.specs.declared.registers.Registers.{Registers}
use Rattle.spi_model.specs.Buses.{Bus}
use Rattle.spi_bus.specs.Ways.{wp_of}
use Rattle.spi_driver.specs.Left.{left_in}
use Rattle.spi_driver.specs.Transfers.{transferred}
use Rattle.spi_driver.proofs.ByRules.{found_kept, kept_transferred, parked_so}
use Rattle.spi_driver.proofs.transfers.transfer.Goals as goal

pub returns-clause-comes : goal.returns-clause-comes
returns-clause-comes c =
    let s = c.args.parked.sheet in
    let memory = c.args.memory.now in
    let stored = c.args.parked.stored.bits in
    let before = c.args.before.now in
    let start = c.args.start in
    let bytes = c.args.bytes.now in
    let buffer = c.args.buffer.now in
    let found = found_kept s memory stored before (wp_of c.args.way) _ _ c.power-chip.ensures.state c.put_all.ensures.state in
    let left = left_in s memory stored before (wp_of c.args.way) in
    let did = c.work_over-outcome.ensures.does.0
    ∙ ap (λ (b : Bus Registers). transferred b start bytes buffer) found
    ∙ kept_transferred left start bytes buffer in
    parked_so left start bytes buffer did (search rules) c.power_off.ensures.stored
