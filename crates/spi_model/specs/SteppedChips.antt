-- A chip stepped by bytes: a byte at once, in the place of the sixteen samples of its rises and falls.
use Rattle.std.specs.Prelude.{ℕ, Bool, false, if◌then◌else◌, not, ◌&&◌, List, [], ◌∷◌, ◌++◌}
use Rattle.datasheet.specs.declared.registers.Registers.{Registers}
use Rattle.datasheet.specs.declared.sheet.Sheet.{Sheet}
use Rattle.datasheet.specs.declared.level.Level.TheVariants.{HighZ}
use Rattle.datasheet.specs.declared.sample.Sample.{Sample}
use Rattle.datasheet.specs.Records.{Record}
use Rattle.datasheet.specs.Courses.{runs}
use Rattle.datasheet.specs.Chips.{PinState, deselected, selected}
use Rattle.datasheet.specs.Calls.{ChipState}
use Rattle.datasheet.specs.Kept.{bounded}
use Rattle.datasheet.specs.Machines.{left_by, answered_by}
use Rattle.spi_model.specs.declared.mode.Mode.TheVariants.{Mode0}
use Rattle.spi_model.specs.Puts.{puts}
use Rattle.spi_model.specs.Samples.{byte_samples}
use Rattle.spi_model.specs.Moments.{Moment}
use Rattle.spi_model.specs.SteppedBytes.{whole_bytes, step_byte, read_byte}
use Rattle.spi_model.specs.declared.bus_call.BusCall.{BusCall}
use Rattle.spi_model.specs.declared.bus_call.BusCall.TheVariants.{Select, Exchange, Deselect}
use Rattle.spi_model.specs.declared.bus_answer.BusAnswer.{BusAnswer}
use Rattle.spi_model.specs.declared.bus_answer.BusAnswer.TheVariants.{Done, Read}
use Rattle.spi_model.specs.Lines.{AtLine, open_after, call_samples, byte_read, line_after}
use Rattle.spi_model.specs.Meanings.{chip_at}

-- whether a byte can be taken at once: the chip is fitted, SCK rests low, and its session runs and has whole
-- bytes
abbrev pub ready_at : Bool → PinState Registers → Bool
ready_at fitted deselected = false
ready_at fitted (selected o) = fitted && (not o.sck && (runs o.course && whole_bytes o.kept))

abbrev pub ready : ChipState Registers → Bool
ready c = ready_at c.fitted c.pins

-- a chip that is ready is left as by the samples of the byte in mode 0; any other is left as it is
abbrev pub stepped_by : ChipState Registers → Bool → ℕ → ChipState Registers
stepped_by c wp x = if ready c then puts bounded c (byte_samples Mode0 wp 0 x) else c

-- the byte that is read at their rises; elsewhere FFh
abbrev pub step_read : ChipState Registers → Bool → ℕ → ℕ
step_read c wp x = if ready c then byte_read bounded Mode0 wp c (byte_samples Mode0 wp 0 x) else 0xFF

-- ## Lists of calls over a chip that is stepped by bytes

module _ (wp : Bool) where
  -- the chip after a call: CS falls and rises as in mode 0, and no pin moves while a byte is exchanged
  abbrev pub stepped_after : AtLine Registers → BusCall → AtLine Registers
  stepped_after l Select = line_after bounded Mode0 wp 0 l Select
  stepped_after l (Exchange x) = record l { chip = if l.in_session then stepped_by l.chip wp x else l.chip }
  stepped_after l Deselect = line_after bounded Mode0 wp 0 l Deselect

  abbrev pub stepped_answer : AtLine Registers → BusCall → BusAnswer
  stepped_answer l Select = Done
  stepped_answer l (Exchange x) = Read (if l.in_session then step_read l.chip wp x else 0xFF)
  stepped_answer l Deselect = Done

  abbrev pub stepped_run : AtLine Registers → List BusCall → AtLine Registers
  stepped_run = left_by stepped_after

  abbrev pub stepped_answers : AtLine Registers → List BusCall → List BusAnswer
  stepped_answers = answered_by stepped_after stepped_answer

  -- the samples of a call, from whether a session is open: those of CS alone
  abbrev pub cs_samples : Bool → BusCall → List Sample
  cs_samples o Select = call_samples Mode0 wp 0 o Select
  cs_samples o (Exchange x) = []
  cs_samples o Deselect = call_samples Mode0 wp 0 o Deselect

  -- all samples of a list of calls, in order
  abbrev pub stepped_samples : Bool → List BusCall → List Sample
  stepped_samples o [] = []
  stepped_samples o (x ∷ xs) = cs_samples o x ++ stepped_samples (open_after o x) xs

-- ## The same at once

-- a fitted chip in a session that runs, SCK low, at this moment
abbrev pub settled_at : Sheet → Moment Registers → ChipState Registers
settled_at s m = chip_at Mode0 s m m.so

-- the moment that a chip is at
abbrev pub moment_at : Record → PinState Registers → Moment Registers
moment_at r deselected = record { rec = r; kept = bounded.begin; so = HighZ }
moment_at r (selected o) = record { rec = r; kept = o.kept; so = o.so }

abbrev pub stepped_once : ChipState Registers → Bool → ℕ → ChipState Registers
stepped_once c wp x =
    if ready c then settled_at c.sheet (step_byte c.sheet wp (moment_at c.rec c.pins) x) else c

abbrev pub read_once : ChipState Registers → ℕ
read_once c = if ready c then read_byte c.sheet (moment_at c.rec c.pins) else 0xFF
