-- The record of a fitted chip: all that it has while no session is open.
use Rattle.std.specs.Prelude.{ℕ, ◌+◌, ◌-◌, ◌*◌, ◌%◌, Bool, true, false, List, slice_set}
use Rattle.datasheet.specs.Bits.{bit, bit_at}

-- memory: its cells, a byte each
-- stored: the stored status bits 7 to 2 as a byte, its bits 1 and 0 being 0; 7 is WPEN, 3 is BP1, 2 is BP0
-- latch: the write latch WEL
-- asleep: the sleep mark
pub record Record : Type 0 where
  pub memory : List ℕ
  pub stored : ℕ
  pub latch : Bool
  pub asleep : Bool

-- the status byte: the stored bits, then WEL as bit 1, then 0
abbrev pub status : Record → ℕ
status r = r.stored + 2 * bit r.latch

-- WPEN
abbrev pub wpen : Record → Bool
wpen r = bit_at 7 r.stored

-- bits 7 to 2 of a byte
abbrev pub stored_bits : ℕ → ℕ
stored_bits x = x - x % 4

-- the record with WEL at b
abbrev pub latched : Bool → Record → Record
latched b r = record r { latch = b }

-- with bits 7 to 2 of x stored
abbrev pub storing : ℕ → Record → Record
storing x r = record r { stored = stored_bits x }

-- with x in cell a
abbrev pub writing : ℕ → ℕ → Record → Record
writing a x r = record r { memory = slice_set r.memory a x }

-- fallen asleep: WEL is cleared
abbrev pub falling_asleep : Record → Record
falling_asleep r = record r { latch = false; asleep = true }

-- awake again
abbrev pub waking : Record → Record
waking r = record r { asleep = false }
