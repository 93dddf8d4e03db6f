use Rattle.std.proofs.Common.{◌≡◌, ◌-◌}
use Rattle.datasheet.specs.Kept.{bounded}
use Rattle.spi_model.specs.Puts.{tracing, puts}
use Rattle.spi_model.specs.Samples.{holding}
use Rattle.spi_bus.proofs.clock.pause.Given as goal

abbrev pub invariant-loop-i : goal.invariant-loop-i
invariant-loop-i g l =
    (puts bounded (g.P.Pins.chip l.pins) (holding l.setting.mode l.setting.wp (l.setting.waits - l._i) l.bit)
    ≡ puts bounded (g.P.Pins.chip l.initial.pins) (holding l.setting.mode l.setting.wp l.setting.waits l.bit))
    × (tracing g.P.Pins.traced (g.P.Pins.trace l.pins) (holding l.setting.mode l.setting.wp (l.setting.waits - l._i) l.bit)
    ≡ tracing g.P.Pins.traced (g.P.Pins.trace l.initial.pins) (holding l.setting.mode l.setting.wp l.setting.waits l.bit))
    × (g.P.Pins.lent l.pins ≡ g.P.Pins.lent l.initial.pins)
