-- The samples that a line puts, for each call of a bus, and what it reads in them.
use Rattle.std.specs.Prelude.{ℕ, zero, suc, Bool, true, false, not, List, [], ◌∷◌, ◌++◌, replicate}
use Rattle.std.specs.List.{flat_map}
use Rattle.datasheet.specs.declared.level.Level.{Level}
use Rattle.datasheet.specs.declared.sample.Sample.{Sample}
use Rattle.datasheet.specs.Bits.{bits_of}
use Rattle.datasheet.specs.Chips.{Keeping}
use Rattle.datasheet.specs.Calls.{ChipState, so, put}
use Rattle.spi_model.specs.declared.mode.Mode.{Mode}
use Rattle.spi_model.specs.declared.mode.Mode.TheVariants.{Mode0, Mode3}

-- SCK at rest: low in mode 0, high in mode 3
abbrev pub rest : Mode → Bool
rest Mode0 = false
rest Mode3 = true

module _ (mode : Mode) (wp : Bool) where
  -- ## CS

  -- CS at this level, with SI low, HOLD high and SCK at rest
  abbrev pub chip_select : Bool → Sample
  chip_select cs = record { cs = cs; sck = rest mode; si = false; wp = wp; hold = true }

  -- CS falls: a session begins
  abbrev pub falls : Sample
  falls = chip_select false

  -- CS rises: the session ends
  abbrev pub rises : Sample
  rises = chip_select true

  -- ## A byte

  -- in a session, with SI at a bit
  abbrev pub clock : Bool → Bool → Bool → Sample
  clock b sck hold = record { cs = false; sck = sck; si = b; wp = wp; hold = hold }

  -- samples that hold: HOLD low, SCK at rest; behind them one that releases HOLD, if there were any
  abbrev pub holding : ℕ → Bool → List Sample
  holding n b = replicate n (clock b (rest mode) false)

  abbrev pub releasing : ℕ → Bool → List Sample
  releasing zero b = []
  releasing (suc n) b = clock b (rest mode) true ∷ []

  -- what comes before the clock of a bit: samples that hold, and the one that releases HOLD
  abbrev pub pausing : ℕ → Bool → List Sample
  pausing n b = holding n b ++ releasing n b

  -- SCK away from rest and back: a rise and a fall in mode 0, a fall and a rise in mode 3
  abbrev pub clocking : Bool → List Sample
  clocking b = clock b (not (rest mode)) true ∷ clock b (rest mode) true ∷ []

  -- one bit, with so many samples that hold before it
  abbrev pub bit_samples : ℕ → Bool → List Sample
  bit_samples n b = pausing n b ++ clocking b

  abbrev pub bits_samples : ℕ → List Bool → List Sample
  bits_samples n = flat_map (bit_samples n)

  -- the eight bits of a byte, the highest first
  abbrev pub byte_samples : ℕ → ℕ → List Sample
  byte_samples n x = bits_samples n (bits_of 8 x)

  -- ## A session

  abbrev pub bytes_samples : ℕ → List ℕ → List Sample
  bytes_samples n = flat_map (byte_samples n)

  -- CS falls, the bytes, CS rises
  abbrev pub session_samples : ℕ → List ℕ → List Sample
  session_samples n xs = falls ∷ (bytes_samples n xs ++ rises ∷ [])

-- ## What is read

-- SO is read in a sample in which SCK rises; the first two levels are the last and the new one of SCK
abbrev pub read_at : Bool → Bool → Level → List Level → List Level
read_at false true so ls = so ∷ ls
read_at false false so ls = ls
read_at true true so ls = ls
read_at true false so ls = ls

-- what SO shows at the rises of SCK, from the samples and what it shows after each; SCK was at this level
-- before
abbrev pub at_rises : Bool → List Sample → List Level → List Level
at_rises sck [] [] = []
at_rises sck [] (l ∷ ls) = []
at_rises sck (x ∷ xs) [] = []
at_rises sck (x ∷ xs) (l ∷ ls) = read_at sck x.sck l (at_rises x.sck xs ls)

-- of the two samples of a bit's clock, SCK rises in the first in mode 0 and in the second in mode 3
abbrev pub at_rise : Mode → Level → Level → Level
at_rise Mode0 first second = first
at_rise Mode3 first second = second

-- what SO shows at the rise of a bit's clock
abbrev pub clock_shows : (K : Keeping) → Mode → Bool → ChipState K.Kept → Bool → Level
clock_shows K mode wp c b =
    let away : ChipState K.Kept = put K c (clock mode wp b (not (rest mode)) true) in
    at_rise mode (so away) (so (put K away (clock mode wp b (rest mode) true)))
