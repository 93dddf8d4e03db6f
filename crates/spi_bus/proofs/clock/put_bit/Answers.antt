use Rattle.std.proofs.Common.{rules}
use Rattle.datasheet.specs.Calls.{put}
use Rattle.datasheet.specs.Kept.{bounded}
use Rattle.spi_model.proofs.Pieces.{bit_parts, bit_read}
use Rattle.spi_bus.proofs.clock.put_bit.Goals as goal

pub returns : goal.returns
returns g c =
    let setting = c.args.setting in
    let b = c.args.bit in
    let before = g.P.Pins.chip c.args.pins.now in
    let chip = bit_parts (put bounded) setting.mode setting.wp b before setting.waits in
    let trace = bit_parts g.P.Pins.traced setting.mode setting.wp b (g.P.Pins.trace c.args.pins.now) setting.waits in
    let read = bit_read bounded setting.mode setting.wp before setting.waits b in
    search rules
