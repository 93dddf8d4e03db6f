use Rattle.std.proofs.Common.{rules, List, length, ◌++◌, sym, ap, ap₂, ◌∙◌}
use Rattle.datasheet.specs.declared.registers.Registers.{Registers}
use Rattle.datasheet.specs.Machines.{left_by}
use Rattle.datasheet.proofs.Machines.{left_behind}
use Rattle.spi_model.specs.declared.bus_call.BusCall.{BusCall}
use Rattle.spi_model.specs.Buses.{Bus}
use Rattle.spi_driver.specs.Drives.{calm, after_write}
use Rattle.spi_driver.specs.Sessions.{probing, read_calls, write_calls}
use Rattle.spi_driver.specs.Transfers.{transfer_calls}
use Rattle.spi_driver.proofs.transfers.WriteAndReadBusWork.carry_out.Goals as goal

pub returns-clause-traced : goal.returns-clause-traced
unfolding transfer_calls
returns-clause-traced g c =
    let asked = c.args.self in
    let n = length c.args.buffer.now in
    let trace = g.B.SpiBus.trace c.args.bus.now in
    let traced = g.B.SpiBus.traced in
    let made : Bus Registers = calm (g.B.SpiBus.meaning c.args.bus.now) in
    let writes : List BusCall = write_calls made asked.start asked.bytes.now in
    let reads : List BusCall = read_calls (after_write made asked.start asked.bytes.now) asked.start n in
    let found = c.new-driver.ensures.bus in
    let wrote = c.write-written.ensures.bus ∙ ap (λ (b : Bus Registers). after_write b asked.start asked.bytes.now) found in
    let first = c.new-driver.ensures.exchanged in
    let second = c.write-written.ensures.exchanged
    ∙ ap₂ (λ (t : g.B.SpiBus.Trace) (b : Bus Registers). left_by traced t (write_calls b asked.start asked.bytes.now)) first found in
    let third = c.read-read.ensures.exchanged
    ∙ ap₂ (λ (t : g.B.SpiBus.Trace) (b : Bus Registers). left_by traced t (read_calls b asked.start n)) second wrote in
    let all = third ∙ sym (left_behind traced trace probing (writes ++ reads) ∙ left_behind traced (left_by traced trace probing) writes reads) in
    search rules
