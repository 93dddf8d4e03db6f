-- Power, blank chips, and what every list of calls is answered.
use Rattle.std.specs.Prelude.{ℕ, Bool, false, if◌then◌else◌, List, Ok, Err, Result}
use Rattle.datasheet.specs.declared.sheet.Sheet.{Sheet}
use Rattle.datasheet.specs.declared.level.Level.{Level}
use Rattle.datasheet.specs.declared.level.Level.TheVariants.{HighZ}
use Rattle.datasheet.specs.declared.sample.Sample.{Sample}
use Rattle.datasheet.specs.declared.refusal.Refusal.{Refusal}
use Rattle.datasheet.specs.Numbers.{Byte}
use Rattle.datasheet.specs.Refusals.{refusal_number}
use Rattle.datasheet.specs.Sheets.{fits}
use Rattle.datasheet.specs.Records.{Record}
use Rattle.datasheet.specs.Samples.{sample_of}
use Rattle.datasheet.specs.Machines.{left_by, answered_by}
use Rattle.datasheet.specs.Chips.{Keeping, PinState, deselected, Turn, judged, output}

-- a chip that has power: its sheet; whether it is fitted; its record, which of a blank chip is no more than
-- the lent memory and the stored bits; and its pins
pub record ChipState (S : Type 0) : Type 0 where
  pub sheet : Sheet
  pub fitted : Bool
  pub rec : Record
  pub pins : PinState S

-- a chip just powered, over this memory and with these stored bits: fitted if the memory fits the sheet, else
-- blank; WEL and the sleep mark are 0 and the chip is deselected
abbrev pub powered : {S : Type 0} → Sheet → List ℕ → ℕ → ChipState S
powered s memory stored =
    record {
      sheet = s;
      fitted = fits s memory;
      rec = record { memory = memory; stored = stored; latch = false; asleep = false };
      pins = deselected;
    }

-- power taken away and given back over the same memory
abbrev pub cycled : {S : Type 0} → ChipState S → ChipState S
cycled c = powered c.sheet c.rec.memory c.rec.stored

-- SO of a chip; a blank chip's is always high-Z
abbrev pub so : {S : Type 0} → ChipState S → Level
so c = if c.fitted then output c.pins else HighZ

-- the calls: a sample, by its byte, and a power cycle
pub data ChipCall : Type 0 where
  sample : ℕ → ChipCall
  cycle : ChipCall

-- what can be sent: a sample is a byte
abbrev pub Sendable : ChipCall → Type 0
Sendable (sample byte) = Byte byte
Sendable cycle = Unit {0}

-- the answers: SO, done, or a refusal's number
pub data ChipAnswer : Type 0 where
  shows : Level → ChipAnswer
  done : ChipAnswer
  refused : ℕ → ChipAnswer

-- what a sample call's result is as an answer
abbrev pub answer_of : Result Level Refusal → ChipAnswer
answer_of (Ok l) = shows l
answer_of (Err e) = refused (refusal_number e)

module _ (K : Keeping) where
  -- a chip after a sample of these levels; a blank chip changes nothing
  abbrev pub put : ChipState K.Kept → Sample → ChipState K.Kept
  put c x =
      let next : Turn K.Kept = judged K c.sheet c.rec c.pins x in
      if c.fitted then record c { rec = next.rec; pins = next.pins } else c

  -- the chip after a byte was put to its pins; a byte that is no sample counts for nothing
  abbrev pub sampled_as : ChipState K.Kept → Result Sample Refusal → ChipState K.Kept
  sampled_as c (Ok x) = put c x
  sampled_as c (Err e) = c

  abbrev pub sampled : ChipState K.Kept → ℕ → ChipState K.Kept
  sampled c byte = sampled_as c (sample_of byte)

  -- its answer: SO after the sample, or the refusal
  abbrev pub answered_as : ChipState K.Kept → Result Sample Refusal → Result Level Refusal
  answered_as c (Ok x) = Ok (so (put c x))
  answered_as c (Err e) = Err e

  abbrev pub answered : ChipState K.Kept → ℕ → Result Level Refusal
  answered c byte = answered_as c (sample_of byte)

  -- what a call leaves
  abbrev pub after : ChipState K.Kept → ChipCall → ChipState K.Kept
  after c (sample byte) = sampled c byte
  after c cycle = cycled c

  -- what a call is answered
  abbrev pub answer : ChipState K.Kept → ChipCall → ChipAnswer
  answer c (sample byte) = answer_of (answered c byte)
  answer c cycle = done

  -- what a list of calls leaves, made one after the other
  abbrev pub run : ChipState K.Kept → List ChipCall → ChipState K.Kept
  run = left_by after

  -- what it is answered
  abbrev pub answers : ChipState K.Kept → List ChipCall → List ChipAnswer
  answers = answered_by after answer
