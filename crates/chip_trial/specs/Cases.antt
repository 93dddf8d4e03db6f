-- What a row of the trial table holds.
use Rattle.std.specs.Prelude.{ℕ, List, map}
use Rattle.datasheet.specs.declared.part.Part.{Part}
use Rattle.chip_trial.specs.declared.Hold.{Hold}
use Rattle.chip_trial.specs.declared.Hold.TheVariants.{High, Amid, LowAtTheStart}
use Rattle.chip_trial.specs.declared.TrialSession.{TrialSession}
use Rattle.chip_trial.specs.declared.Change.{Change}
use Rattle.chip_trial.specs.declared.PinCase.{PinCase}
use Rattle.chip_trial.specs.declared.WindowCase.{WindowCase}
use Rattle.chip_trial.specs.declared.Case.{Case}
use Rattle.chip_trial.specs.declared.Case.TheVariants.{Pins, Window}

-- what HOLD does in a session: it stays high; behind so many bits samples are put in which it falls and is let go; or it
-- is low when CS falls with SCK low, and is let go with SCK high
pub data Held : Type 0 where
  unheld : Held
  amid : ℕ → List ℕ → Held
  low_at_the_start : Held

-- a session put to the pins in SPI mode 0: the first `bits` bits of the bytes, and what HOLD does in it
pub record Sent : Type 0 where
  pub bytes : List ℕ
  pub bits : ℕ
  pub hold : Held

-- at the pins: the part, powered over a memory of zeros with these stored bits; the sessions that are sent to it
-- first; the last session, and the bytes that must be read in it; and the cells that must have changed then
pub record PinRow : Type 0 where
  pub part : Part
  pub stored : ℕ
  pub before : List Sent
  pub last : Sent
  pub seen : List ℕ
  pub changed : List Change

-- a row: at the pins, or of a window
pub data Row : Type 0 where
  pins : PinRow → Row
  window : WindowCase → Row

-- ## The rows of the code

abbrev pub held_of : Hold → Held
held_of High = unheld
held_of (Amid behind samples) = amid behind samples.now
held_of LowAtTheStart = low_at_the_start

abbrev pub sent_of : TrialSession → Sent
sent_of s = record { bytes = s.bytes.now; bits = s.bits; hold = held_of s.hold }

abbrev pub pin_row_of : PinCase → PinRow
pin_row_of c =
    record {
      part = c.part;
      stored = c.stored;
      before = map sent_of c.before.now;
      last = sent_of c.last;
      seen = c.seen.now;
      changed = c.changed.now;
    }

abbrev pub row_of : Case → Row
row_of (Pins c) = pins (pin_row_of c)
row_of (Window c) = window c
