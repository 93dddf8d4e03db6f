use Rattle.std.proofs.Common.{Bool, sym, ap, ap₂, ◌∙◌, arith}
use Rattle.datasheet.specs.declared.registers.Registers.{Registers}
use Rattle.datasheet.specs.Calls.{ChipState}
use Rattle.datasheet.specs.Kept.{bounded}
use Rattle.chip_laws.proofs.Rolls.{rolls_over}
use Rattle.spi_model.specs.declared.mode.Mode.TheVariants.{Mode0}
use Rattle.spi_model.specs.declared.bus_call.BusCall.TheVariants.{Exchange}
use Rattle.spi_model.specs.Puts.{puts}
use Rattle.spi_model.specs.SteppedBytes.{whole_bytes}
use Rattle.spi_model.specs.Lines.{call_samples}
use Rattle.spi_model.specs.Meanings.{kept_of}
use Rattle.spi_model.proofs.Aligned.{byte_leaves_whole}
use Rattle.spi_model.proofs.SteppedBuses.{stepped_as_put}
use Rattle.spi_model.proofs.SteppedBytes.{byte_at_once}
use Rattle.spi_bus.specs.Views.{stepped_bus_of}
use Rattle.spi_bus.proofs.Meant.{rests, meant, told}
use Rattle.spi_bus.proofs.stepped.SteppedBusSpiBus.exchange.Goals as goal

pub invariant_of-self : goal.invariant_of-self
invariant_of-self g c =
    let bus = c.args.self.now in
    let line = stepped_bus_of g.C.Pins.chip bus in
    let did = stepped_as_put line bus.wp c.args.byte bus.at_rest bus.aligned c.if-self.true in
    record {
      at_rest = rests Mode0 bus.wp 0 line c.args.byte bus.at_rest c.if-self.true _ (c.step.ensures.state ∙ did.0);
      aligned =
          ap (λ (d : ChipState Registers). whole_bytes (kept_of bounded d)) (c.step.ensures.state ∙ did.0)
          ∙ byte_leaves_whole Mode0 bus.wp 0 line c.args.byte (omega (arith, c.ranges.byte)) bus.at_rest bus.aligned c.if-self.true;
    }

pub returns-then-self-clause-read : goal.returns-then-self-clause-read
returns-then-self-clause-read g c =
    let bus = c.args.self.now in
    let line = stepped_bus_of g.C.Pins.chip bus in
    let did = stepped_as_put line bus.wp c.args.byte bus.at_rest bus.aligned c.if-self.true in
    told Mode0 bus.wp 0 line c.args.byte bus.at_rest c.if-self.true _ (c.step.ensures.read ∙ did.1)

pub returns-then-self-clause-after : goal.returns-then-self-clause-after
returns-then-self-clause-after g c =
    let bus = c.args.self.now in
    let line = stepped_bus_of g.C.Pins.chip bus in
    let did = stepped_as_put line bus.wp c.args.byte bus.at_rest bus.aligned c.if-self.true in
    meant Mode0 bus.wp 0 line c.args.byte bus.at_rest c.if-self.true _ (c.step.ensures.state ∙ did.0)

pub returns-then-self-clause-traced : goal.returns-then-self-clause-traced
returns-then-self-clause-traced g c =
    let bus = c.args.self.now in
    let line = stepped_bus_of g.C.Pins.chip bus in
    let did = stepped_as_put line bus.wp c.args.byte bus.at_rest bus.aligned c.if-self.true in
    let put = c.step.ensures.state ∙ did.0
    ∙ ap (λ (t : Bool). puts bounded line.chip (call_samples Mode0 bus.wp 0 t (Exchange c.args.byte))) (sym c.if-self.true) in
    ap₂ (λ (d : ChipState Registers) (t : g.C.Pins.Trace). record { mode = Mode0; waits = 0; wp = bus.wp; line = record { chip = d; in_session = bus.in_session }; pins = t })
    put c.step.ensures.traced

pub returns-then-self-clause-law : goal.returns-then-self-clause-law
returns-then-self-clause-law g c = byte_at_once

pub returns-else-self-clause-law : goal.returns-else-self-clause-law
returns-else-self-clause-law g c = byte_at_once

pub returns-then-self-clause-rolls : goal.returns-then-self-clause-rolls
returns-then-self-clause-rolls g c = rolls_over

pub returns-else-self-clause-rolls : goal.returns-else-self-clause-rolls
returns-else-self-clause-rolls g c = rolls_over
