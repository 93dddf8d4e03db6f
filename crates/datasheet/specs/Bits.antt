-- Bits and numbers. A list of bits stands for a number with its highest bit first, the order in which SI and
-- SO carry bits.
use Rattle.std.specs.Prelude.{ℕ, zero, suc, ◌+◌, ◌*◌, ◌/◌, ◌%◌, ◌^◌, Bool, true, false, List, [], ◌∷◌, length, take, drop, ◌==◌}

-- a bit as a number
abbrev pub bit : Bool → ℕ
bit true = 1
bit false = 0

-- the number that a list of bits stands for
abbrev pub number : List Bool → ℕ
number [] = 0
number (b ∷ bs) = bit b * 2 ^ length bs + number bs

-- bit i of a number; bit 0 is the lowest
abbrev pub bit_at : ℕ → ℕ → Bool
bit_at i x = (x / 2 ^ i) % 2 == 1

-- the low k bits of a number
abbrev pub bits_of : ℕ → ℕ → List Bool
bits_of zero x = []
bits_of (suc k) x = bit_at k x ∷ bits_of k x

-- the byte whose eight bits follow the first i bits of a list
abbrev pub byte_after : ℕ → List Bool → ℕ
byte_after i bits = number (take 8 (drop i bits))
