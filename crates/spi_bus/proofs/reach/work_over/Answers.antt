use Rattle.std.proofs.Common.{rules, ap}
use Rattle.datasheet.specs.declared.registers.Registers.{Registers}
use Rattle.spi_model.specs.Buses.{Bus}
use Rattle.spi_bus.proofs.Traces.{stepped_reaches}
use Rattle.spi_bus.proofs.reach.work_over.Goals as goal

pub returns-in-Stepped-clause-put : goal.returns-in-Stepped-clause-put
returns-in-Stepped-clause-put g c =
    let begun = c.new-bus.ensures in
    let calls = ap (λ (b : Bus Registers). g.W.BusWork.calls c.args.work b c.args.buffer.now) begun.made in
    let did = stepped_reaches g.C.Pins.traced (g.C.Pins.chip c.args.chip.now) (g.C.Pins.trace c.args.chip.now) _ _ calls c.new-bus.result c.carry_out.new.bus
    (λ p. g.C.Pins.chip p.now) (λ p. g.C.Pins.trace p.now) c.in-Stepped.wp begun.wp begun.put begun.in_session begun.traced c.carry_out.ensures.traced in
    let is = c.in-Stepped.is in
    let reached = did.0 in
    search rules

pub returns-in-Stepped-clause-traced : goal.returns-in-Stepped-clause-traced
returns-in-Stepped-clause-traced g c =
    let begun = c.new-bus.ensures in
    let calls = ap (λ (b : Bus Registers). g.W.BusWork.calls c.args.work b c.args.buffer.now) begun.made in
    let did = stepped_reaches g.C.Pins.traced (g.C.Pins.chip c.args.chip.now) (g.C.Pins.trace c.args.chip.now) _ _ calls c.new-bus.result c.carry_out.new.bus
    (λ p. g.C.Pins.chip p.now) (λ p. g.C.Pins.trace p.now) c.in-Stepped.wp begun.wp begun.put begun.in_session begun.traced c.carry_out.ensures.traced in
    let is = c.in-Stepped.is in
    let reached = did.1 in
    search rules
