-- What the buses of the code are and mean, by the chips behind their pins, and what they were given.
use Rattle.std.specs.Prelude.{ℕ, Bool}
use Rattle.datasheet.specs.declared.registers.Registers.{Registers}
use Rattle.datasheet.specs.Calls.{ChipState}
use Rattle.datasheet.specs.Kept.{bounded}
use Rattle.spi_model.specs.Buses.{Bus}
use Rattle.spi_model.specs.Lines.{AtLine}
use Rattle.spi_model.specs.Meanings.{meaning_of}
use Rattle.spi_model.specs.declared.mode.Mode.{Mode}
use Rattle.spi_model.specs.declared.mode.Mode.TheVariants.{Mode0}
use Rattle.spi_bus.specs.Traces.{BusTrace}
use Rattle.spi_bus.specs.declared.stepped.SteppedBus.{SteppedBus}
use Rattle.spi_bus.specs.declared.line.Line.{Line}

-- a line's chip, and whether a session is open
abbrev pub line_of : {P : Type 0} (chip : P → ChipState Registers) {g : _} → Line P g → AtLine Registers
line_of chip l = record { chip = chip l.pins; in_session = l.in_session }

abbrev pub line_meaning : {P : Type 0} (chip : P → ChipState Registers) {g : _} → Line P g → Bus Registers
line_meaning chip l = meaning_of bounded l.setting.wp (line_of chip l)

-- what is kept of its calls, by what its pins keep of their samples
abbrev pub line_trace : {P T : Type 0} (chip : P → ChipState Registers) (trace : P → T) {g : _} →
    Line P g → BusTrace T
line_trace chip trace l =
    record {
      mode = l.setting.mode;
      waits = l.setting.waits;
      wp = l.setting.wp;
      line = line_of chip l;
      pins = trace l.pins;
    }

-- what it was given: mode, held samples and WP, and what its pins were given
abbrev pub line_lent : {P L : Type 0} (lent : P → L) {g : _} → Line P g → Mode × ℕ × Bool × L
line_lent lent l = (l.setting.mode, l.setting.waits, l.setting.wp, lent l.pins)

-- ## A chip stepped by bytes

abbrev pub stepped_bus_of : {C : Type 0} (chip : C → ChipState Registers) {g : _} →
    SteppedBus C g → AtLine Registers
stepped_bus_of chip b = record { chip = chip b.chip; in_session = b.in_session }

abbrev pub stepped_meaning : {C : Type 0} (chip : C → ChipState Registers) {g : _} →
    SteppedBus C g → Bus Registers
stepped_meaning chip b = meaning_of bounded b.wp (stepped_bus_of chip b)

-- what is kept of its calls: it moves the pins as a line in mode 0 with no held samples
abbrev pub stepped_trace : {C T : Type 0} (chip : C → ChipState Registers) (trace : C → T) {g : _} →
    SteppedBus C g → BusTrace T
stepped_trace chip trace b =
    record {
      mode = Mode0;
      waits = 0;
      wp = b.wp;
      line = stepped_bus_of chip b;
      pins = trace b.chip;
    }

abbrev pub stepped_lent : {C L : Type 0} (lent : C → L) {g : _} → SteppedBus C g → Bool × L
stepped_lent lent b = (b.wp, lent b.chip)
