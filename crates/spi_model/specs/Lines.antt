-- A line at the pins: the samples of each call, what they make of the chip, and what is read in them.
use Rattle.std.specs.Prelude.{ℕ, min, Bool, true, false, if◌then◌else◌, List, [], ◌∷◌, ◌++◌}
use Rattle.datasheet.specs.declared.sample.Sample.{Sample}
use Rattle.datasheet.specs.Chips.{Keeping}
use Rattle.datasheet.specs.Calls.{ChipState}
use Rattle.datasheet.specs.Machines.{left_by, answered_by}
use Rattle.spi_model.specs.declared.mode.Mode.{Mode}
use Rattle.spi_model.specs.declared.bus_call.BusCall.{BusCall}
use Rattle.spi_model.specs.declared.bus_call.BusCall.TheVariants.{Select, Exchange, Deselect}
use Rattle.spi_model.specs.declared.bus_answer.BusAnswer.{BusAnswer}
use Rattle.spi_model.specs.declared.bus_answer.BusAnswer.TheVariants.{Done, Read}
use Rattle.spi_model.specs.Puts.{puts, shown_by}
use Rattle.spi_model.specs.Samples.{rest, falls, rises, byte_samples, at_rises}
use Rattle.spi_model.specs.Reads.{read_off}

-- the samples that hold before every bit: 0 to 7, more count as 7
abbrev pub waits_of : ℕ → ℕ
waits_of n = min n 7

-- a line's chip, and whether the line has a session open; the pins of a blank chip do not say it, since it
-- changes nothing
pub record AtLine (S : Type 0) : Type 0 where
  pub chip : ChipState S
  pub in_session : Bool

-- whether a session is open after a call
abbrev pub open_after : Bool → BusCall → Bool
open_after o Select = true
open_after o (Exchange x) = o
open_after o Deselect = false

module _ (mode : Mode) (wp : Bool) (waits : ℕ) where
  -- the samples of a call, from whether a session is open: a select that begins one and a deselect that ends
  -- one put one each, an exchange in one those of its byte, and every other call none
  abbrev pub call_samples : Bool → BusCall → List Sample
  call_samples false Select = falls mode wp ∷ []
  call_samples true Select = []
  call_samples true (Exchange x) = byte_samples mode wp waits x
  call_samples false (Exchange x) = []
  call_samples true Deselect = rises mode wp ∷ []
  call_samples false Deselect = []

  -- all samples of a list of calls, in order
  abbrev pub line_samples : Bool → List BusCall → List Sample
  line_samples o [] = []
  line_samples o (x ∷ xs) = call_samples o x ++ line_samples (open_after o x) xs

module _ (K : Keeping) (mode : Mode) (wp : Bool) where
  -- making a line puts one sample with CS high
  abbrev pub line_made : ChipState K.Kept → AtLine K.Kept
  line_made c = record { chip = puts K c (rises mode wp ∷ []); in_session = false }

  -- the byte read in these samples, in a session
  abbrev pub byte_read : ChipState K.Kept → List Sample → ℕ
  byte_read c xs = read_off (at_rises (rest mode) xs (shown_by K c xs))

  module _ (waits : ℕ) where
    -- the chip after a call
    abbrev pub line_after : AtLine K.Kept → BusCall → AtLine K.Kept
    line_after l x =
        record {
          chip = puts K l.chip (call_samples mode wp waits l.in_session x);
          in_session = open_after l.in_session x;
        }

    -- the byte that an exchange answers; with no open session FFh
    abbrev pub line_read : AtLine K.Kept → ℕ → ℕ
    line_read l x = if l.in_session then byte_read l.chip (byte_samples mode wp waits x) else 0xFF

    abbrev pub line_answer : AtLine K.Kept → BusCall → BusAnswer
    line_answer l Select = Done
    line_answer l (Exchange x) = Read (line_read l x)
    line_answer l Deselect = Done

    -- lists of calls
    abbrev pub line_run : AtLine K.Kept → List BusCall → AtLine K.Kept
    line_run = left_by line_after

    abbrev pub line_answers : AtLine K.Kept → List BusCall → List BusAnswer
    line_answers = answered_by line_after line_answer
