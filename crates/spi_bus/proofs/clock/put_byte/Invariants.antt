use Rattle.std.proofs.Common.{◌≡◌, ◌+◌, ◌-◌, ◌*◌, ◌^◌, ◌<◌}
use Rattle.datasheet.specs.Bits.{bits_of}
use Rattle.datasheet.specs.Kept.{bounded}
use Rattle.spi_model.specs.Puts.{tracing, puts}
use Rattle.spi_model.specs.Samples.{bits_samples, byte_samples}
use Rattle.spi_model.specs.Lines.{byte_read}
use Rattle.spi_bus.proofs.clock.put_byte.Given as goal

abbrev pub invariant-loop-taken : goal.invariant-loop-taken
invariant-loop-taken g l =
    (puts bounded (g.P.Pins.chip l.pins) (bits_samples l.setting.mode l.setting.wp l.setting.waits (bits_of (8 - l.taken) l.byte))
    ≡ puts bounded (g.P.Pins.chip l.initial.pins) (byte_samples l.setting.mode l.setting.wp l.setting.waits l.byte))
    × (l.read * 2 ^ (8 - l.taken)
    + byte_read bounded l.setting.mode l.setting.wp (g.P.Pins.chip l.pins) (bits_samples l.setting.mode l.setting.wp l.setting.waits (bits_of (8 - l.taken) l.byte))
    ≡ byte_read bounded l.setting.mode l.setting.wp (g.P.Pins.chip l.initial.pins) (byte_samples l.setting.mode l.setting.wp l.setting.waits l.byte))
    × (l.read < 2 ^ l.taken)
    × (tracing g.P.Pins.traced (g.P.Pins.trace l.pins) (bits_samples l.setting.mode l.setting.wp l.setting.waits (bits_of (8 - l.taken) l.byte))
    ≡ tracing g.P.Pins.traced (g.P.Pins.trace l.initial.pins) (byte_samples l.setting.mode l.setting.wp l.setting.waits l.byte))
    × (g.P.Pins.lent l.pins ≡ g.P.Pins.lent l.initial.pins)
