use Rattle.std.proofs.Common.{◌≡◌, ℕ, suc, ◌+◌, ◌-◌, ◌*◌, ◌^◌, ◌<◌, [], ◌∷◌, sym, ap, ◌∙◌, subst, arith, rules}
use Rattle.datasheet.specs.Bits.{bit, bit_at, bits_of}
use Rattle.datasheet.specs.Levels.{read_as}
use Rattle.datasheet.specs.Calls.{put}
use Rattle.datasheet.specs.Kept.{bounded}
use Rattle.spi_model.specs.Puts.{tracing, puts}
use Rattle.spi_model.specs.Samples.{rest, bit_samples, bits_samples}
use Rattle.spi_model.specs.Lines.{byte_read}
use Rattle.spi_model.proofs.Clock.{over}
use Rattle.spi_model.proofs.Pieces.{bits_more}
use Rattle.spi_bus.proofs.Reading.{reads_more, read_below}
use Rattle.spi_bus.proofs.clock.put_byte.Goals as goal

pub loop-taken-preserved : goal.loop-taken-preserved
loop-taken-preserved g c =
    let mode = c.args.setting.mode in
    let wp = c.args.setting.wp in
    let waits = c.args.setting.waits in
    let byte = c.args.byte in
    let taken = c.loop-taken.taken in
    let i = 8 - (taken + 1) in
    let is : 8 - taken ≡ suc i = omega arith in
    let at : 7 - taken ≡ i = omega arith in
    let now = g.P.Pins.chip c.loop-taken.pins in
    let after = g.P.Pins.chip c.put_bit.new.pins in
    let trace = g.P.Pins.trace c.loop-taken.pins in
    let after-trace = g.P.Pins.trace c.put_bit.new.pins in
    let did = c.put_bit.ensures in
    let inv = c.loop-taken.invariant in
    let read = c.loop-taken.read in
    let r = c.put_bit.result in
    let bit-is : c.from.result ≡ bit (read_as r) = search rules in
    let chip = subst (λ (k : ℕ). after ≡ puts bounded now (bit_samples mode wp waits (bit_at k byte))) at did.chip in
    let traced = subst (λ (k : ℕ). after-trace ≡ tracing g.P.Pins.traced trace (bit_samples mode wp waits (bit_at k byte))) at did.traced in
    let heard = subst (λ (k : ℕ). over bounded now (rest mode) (bit_samples mode wp waits (bit_at k byte)) ≡ r ∷ []) at did.read in (
      sym (bits_more (put bounded) mode wp waits now after i byte chip)
          ∙ ap (λ (k : ℕ). puts bounded now (bits_samples mode wp waits (bits_of k byte))) (sym is)
          ∙ inv.0,
      ap (λ (k : ℕ). (2 * read + k) * 2 ^ i + byte_read bounded mode wp after (bits_samples mode wp waits (bits_of i byte))) bit-is
          ∙ reads_more mode wp waits now after i byte r read _ chip heard
          (ap (λ (k : ℕ). read * 2 ^ k + byte_read bounded mode wp now (bits_samples mode wp waits (bits_of k byte))) (sym is) ∙ inv.1),
      subst (λ (k : ℕ). 2 * read + k < 2 ^ (taken + 1)) (sym bit-is) (read_below read taken (read_as r) inv.2),
      sym (bits_more g.P.Pins.traced mode wp waits trace after-trace i byte traced)
          ∙ ap (λ (k : ℕ). tracing g.P.Pins.traced trace (bits_samples mode wp waits (bits_of k byte))) (sym is)
          ∙ inv.3,
      did.lent ∙ inv.4,
    )

pub returns : goal.returns
returns g c =
    let mode = c.args.setting.mode in
    let wp = c.args.setting.wp in
    let waits = c.args.setting.waits in
    let byte = c.args.byte in
    let none : 8 - c.loop-taken.taken ≡ 0 = omega arith in
    let now = g.P.Pins.chip c.loop-taken.pins in
    let inv = c.loop-taken.invariant in
    let read = c.loop-taken.read in
    let all = ap (λ (k : ℕ). read * 2 ^ k + byte_read bounded mode wp now (bits_samples mode wp waits (bits_of k byte))) (sym none) ∙ inv.1 in
    record {
      chip = ap (λ (k : ℕ). puts bounded now (bits_samples mode wp waits (bits_of k byte))) (sym none) ∙ inv.0;
      read = let one : read ≡ read * 2 ^ 0 + 0 = omega arith in one ∙ all;
      traced = ap (λ (k : ℕ). tracing g.P.Pins.traced (g.P.Pins.trace c.loop-taken.pins) (bits_samples mode wp waits (bits_of k byte))) (sym none) ∙ inv.3;
      lent = inv.4;
    }
