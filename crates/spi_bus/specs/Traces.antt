-- What a bus over pins keeps of the calls that are made over it.
use Rattle.std.specs.Prelude.{ℕ, Bool}
use Rattle.datasheet.specs.declared.registers.Registers.{Registers}
use Rattle.datasheet.specs.declared.sample.Sample.{Sample}
use Rattle.datasheet.specs.Kept.{bounded}
use Rattle.spi_model.specs.declared.mode.Mode.{Mode}
use Rattle.spi_model.specs.declared.bus_call.BusCall.{BusCall}
use Rattle.spi_model.specs.Puts.{tracing}
use Rattle.spi_model.specs.Lines.{AtLine, call_samples, line_after}
use Rattle.spi_model.specs.SteppedChips.{cs_samples}

-- how it moves the pins: mode, held samples and WP; its chip, and whether it has a session open; and a T, which
-- is whatever is kept of the samples that were put to its pins
pub record BusTrace (T : Type 0) : Type 0 where
  pub mode : Mode
  pub waits : ℕ
  pub wp : Bool
  pub line : AtLine Registers
  pub pins : T

-- one call more, where `traced` says what a sample makes of a T
module _ {T : Type 0} (traced : T → Sample → T) where
  -- on a line: the samples of the call are put
  abbrev pub line_traced : BusTrace T → BusCall → BusTrace T
  line_traced t x =
      record t {
        line = line_after bounded t.mode t.wp t.waits t.line x;
        pins = tracing traced t.pins (call_samples t.mode t.wp t.waits t.line.in_session x);
      }

  -- on a chip stepped by bytes: it is left as by those samples, of which those of CS alone are put
  abbrev pub stepped_traced : BusTrace T → BusCall → BusTrace T
  stepped_traced t x =
      record t {
        line = line_after bounded t.mode t.wp t.waits t.line x;
        pins = tracing traced t.pins (cs_samples t.wp t.line.in_session x);
      }
