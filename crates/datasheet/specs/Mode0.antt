-- A session put to the pins in SPI mode 0, WP and HOLD high: SCK rests low, each bit is a rise and a fall.
use Rattle.std.specs.Prelude.{ℕ, Bool, true, if◌then◌else◌, List, [], ◌∷◌, ◌++◌}
use Rattle.datasheet.specs.Levels.{read_as}
use Rattle.datasheet.specs.Bits.{bits_of}
use Rattle.datasheet.specs.Calls.{ChipCall, ChipCall.sample, ChipAnswer, shows, done, refused}

-- the bits of a list of bytes
abbrev pub bits_of_bytes : List ℕ → List Bool
bits_of_bytes [] = []
bits_of_bytes (x ∷ xs) = bits_of 8 x ++ bits_of_bytes xs

-- a rise and a fall for each bit, with SI at the bit; then CS high
abbrev pub clocks : List Bool → List ChipCall
clocks [] = sample 0x19 ∷ []
clocks (b ∷ bs) = sample (if b then 0x1E else 0x1A) ∷ sample (if b then 0x1C else 0x18) ∷ clocks bs

-- CS low, the bits, CS high
abbrev pub session : List Bool → List ChipCall
session bits = sample 0x18 ∷ clocks bits

-- the bit that is read off SO, from an answer; what shows nothing is read as high-Z is
abbrev pub bit_read : ChipAnswer → Bool
bit_read (shows level) = read_as level
bit_read done = true
bit_read (refused n) = true

-- the bits read at the rises, from the answers to such a session
abbrev pub read_at_rises : List ChipAnswer → List Bool
read_at_rises [] = []
read_at_rises (a ∷ []) = []
read_at_rises (a ∷ r ∷ []) = []
read_at_rises (a ∷ r ∷ (f ∷ rest)) = bit_read r ∷ read_at_rises (f ∷ rest)
