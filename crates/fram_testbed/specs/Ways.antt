-- How the chip of a transfer is reached, by two numbers.
use Rattle.std.specs.Prelude.{◌≡◌, ℕ, true, if◌then◌else◌, ◌==◌, ◌≢◌}
use Rattle.spi_model.specs.declared.mode.Mode.TheVariants.{Mode0, Mode3}
use Rattle.spi_model.specs.Lines.{waits_of}
use Rattle.spi_bus.specs.declared.reach.Way.{Way}
use Rattle.spi_bus.specs.declared.reach.Way.TheVariants.{Stepped, Line}

-- at 0 stepped by bytes, at 1 over a line in mode 0, else over a line in mode 3, with so many held samples;
-- WP is high
abbrev pub WayBy : ℕ → ℕ → Way → Type 0
WayBy code held (Stepped wp) = (code ≡ 0) × (wp ≡ true)
WayBy code held (Line setting) =
    (code ≢ 0)
    × (setting.mode ≡ (if code == 1 then Mode0 else Mode3))
    × (setting.waits ≡ waits_of held)
    × (setting.wp ≡ true)
