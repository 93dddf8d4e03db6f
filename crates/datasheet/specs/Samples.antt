-- A sample: one reading of the five input pins, as a byte.
use Rattle.std.specs.Prelude.{ℕ, ◌+◌, ◌*◌, if◌then◌else◌, Ok, Err, Result, nat_lt}
use Rattle.datasheet.specs.declared.sample.Sample.{Sample}
use Rattle.datasheet.specs.declared.refusal.Refusal.{Refusal}
use Rattle.datasheet.specs.declared.refusal.Refusal.TheVariants.{NotASample}
use Rattle.datasheet.specs.Bits.{bit, bit_at}

-- the levels of a sample byte: bit 0 is CS, bit 1 SCK, bit 2 SI, bit 3 WP, bit 4 HOLD; 1 is high
abbrev pub levels : ℕ → Sample
levels x = record { cs = bit_at 0 x; sck = bit_at 1 x; si = bit_at 2 x; wp = bit_at 3 x; hold = bit_at 4 x }

-- a byte as a sample: one with a bit 5, 6 or 7 is refused
abbrev pub sample_of : ℕ → Result Sample Refusal
sample_of x = if nat_lt x 32 then Ok (levels x) else Err NotASample

-- the byte of a sample
abbrev pub byte_of : Sample → ℕ
byte_of x = bit x.cs + 2 * bit x.sck + 4 * bit x.si + 8 * bit x.wp + 16 * bit x.hold
