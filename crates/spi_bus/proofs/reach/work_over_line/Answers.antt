use Rattle.std.proofs.Common.{rules, ap}
use Rattle.datasheet.specs.declared.registers.Registers.{Registers}
use Rattle.spi_model.specs.Buses.{Bus}
use Rattle.spi_bus.proofs.Traces.{line_reaches}
use Rattle.spi_bus.proofs.reach.work_over_line.Goals as goal

pub returns-clause-put : goal.returns-clause-put
returns-clause-put g c =
    let begun = c.new-line.ensures in
    let calls = ap (λ (b : Bus Registers). g.W.BusWork.calls c.args.work b c.args.buffer.now) begun.made in
    let did = line_reaches g.P.Pins.traced (g.P.Pins.chip c.args.pins.now) (g.P.Pins.trace c.args.pins.now) _ _ calls c.new-line.result c.carry_out.new.bus
    (λ p. g.P.Pins.chip p.now) (λ p. g.P.Pins.trace p.now) c.args.setting begun.setting begun.put begun.in_session begun.traced c.carry_out.ensures.traced in
    let reached = did.0 in
    search rules

pub returns-clause-traced : goal.returns-clause-traced
returns-clause-traced g c =
    let begun = c.new-line.ensures in
    let calls = ap (λ (b : Bus Registers). g.W.BusWork.calls c.args.work b c.args.buffer.now) begun.made in
    let did = line_reaches g.P.Pins.traced (g.P.Pins.chip c.args.pins.now) (g.P.Pins.trace c.args.pins.now) _ _ calls c.new-line.result c.carry_out.new.bus
    (λ p. g.P.Pins.chip p.now) (λ p. g.P.Pins.trace p.now) c.args.setting begun.setting begun.put begun.in_session begun.traced c.carry_out.ensures.traced in
    let reached = did.1 in
    search rules
