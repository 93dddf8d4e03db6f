-- How a chip is reached.
use Rattle.std.specs.Prelude.{ℕ, Bool, false, List, ◌∷◌}
use Rattle.datasheet.specs.declared.sample.Sample.{Sample}
use Rattle.datasheet.specs.Chips.{whole}
use Rattle.datasheet.specs.Calls.{powered}
use Rattle.chip.specs.declared.chip.ParkedChip.{ParkedChip}
use Rattle.spi_model.specs.declared.mode.Mode.TheVariants.{Mode0}
use Rattle.spi_model.specs.declared.bus_call.BusCall.{BusCall}
use Rattle.spi_model.specs.Samples.{rises}
use Rattle.spi_model.specs.Buses.{Bus}
use Rattle.spi_model.specs.Lines.{line_samples}
use Rattle.spi_model.specs.Meanings.{made}
use Rattle.spi_model.specs.SteppedChips.{stepped_samples}
use Rattle.spi_bus.specs.declared.setting.Setting.{Setting}
use Rattle.spi_bus.specs.declared.reach.Way.{Way}
use Rattle.spi_bus.specs.declared.reach.Way.TheVariants.{Stepped, Line}

-- the level of WP on the way
abbrev pub wp_of : Way → Bool
wp_of (Stepped wp) = wp
wp_of (Line setting) = setting.wp

-- the samples that reach the pins when a line is made and these calls are made over it: CS rises, then those
-- of the calls
abbrev pub line_puts : Setting → List BusCall → List Sample
line_puts setting calls =
    rises setting.mode setting.wp ∷ line_samples setting.mode setting.wp setting.waits false calls

-- on this way; of a chip that is stepped by bytes CS alone is moved, as in mode 0
abbrev pub way_puts : Way → List BusCall → List Sample
way_puts (Stepped wp) calls = rises Mode0 wp ∷ stepped_samples wp false calls
way_puts (Line setting) calls = line_puts setting calls

-- the samples that do to the chip what is done on this way: a byte taken at once does what its samples do
abbrev pub way_samples : Way → List BusCall → List Sample
way_samples (Stepped wp) calls = rises Mode0 wp ∷ line_samples Mode0 wp 0 false calls
way_samples (Line setting) calls = line_puts setting calls

-- the bus that is made on this way over a parked chip, which is powered over this memory
abbrev pub bus_made : ParkedChip → List ℕ → Way → Bus (List Bool)
bus_made parked memory way = made whole (wp_of way) (powered parked.sheet memory parked.stored.bits)
