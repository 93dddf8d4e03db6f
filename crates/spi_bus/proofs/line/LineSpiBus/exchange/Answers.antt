use Rattle.std.proofs.Common.{ap, ◌∙◌, arith}
use Rattle.datasheet.specs.declared.registers.Registers.{Registers}
use Rattle.datasheet.specs.Calls.{ChipState}
use Rattle.datasheet.specs.Kept.{bounded}
use Rattle.spi_model.specs.SteppedBytes.{whole_bytes}
use Rattle.spi_model.specs.Meanings.{kept_of}
use Rattle.spi_model.proofs.Aligned.{byte_leaves_whole}
use Rattle.spi_bus.specs.Views.{line_of}
use Rattle.spi_bus.proofs.Meant.{rests, meant, told}
use Rattle.spi_bus.proofs.line.LineSpiBus.exchange.Goals as goal

pub invariant_of-self : goal.invariant_of-self
invariant_of-self g c =
    let line = c.args.self.now in
    record {
      at_rest = rests line.setting.mode line.setting.wp line.setting.waits (line_of g.P.Pins.chip line) c.args.byte line.at_rest c.if-self.true _ c.put_byte.ensures.chip;
      aligned =
          ap (λ (d : ChipState Registers). whole_bytes (kept_of bounded d)) c.put_byte.ensures.chip
          ∙ byte_leaves_whole line.setting.mode line.setting.wp line.setting.waits (line_of g.P.Pins.chip line) c.args.byte (omega (arith, c.ranges.byte)) line.at_rest line.aligned c.if-self.true;
    }

pub returns-then-self-clause-read : goal.returns-then-self-clause-read
returns-then-self-clause-read g c =
    let line = c.args.self.now in
    told line.setting.mode line.setting.wp line.setting.waits (line_of g.P.Pins.chip line) c.args.byte line.at_rest c.if-self.true _ c.put_byte.ensures.read

pub returns-then-self-clause-after : goal.returns-then-self-clause-after
returns-then-self-clause-after g c =
    let line = c.args.self.now in
    meant line.setting.mode line.setting.wp line.setting.waits (line_of g.P.Pins.chip line) c.args.byte line.at_rest c.if-self.true _ c.put_byte.ensures.chip
