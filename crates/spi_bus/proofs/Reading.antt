-- A byte read bit by bit, the highest first: read so far, and i bits are left.
use Rattle.std.proofs.Common.{◌≡◌, ℕ, suc, ◌+◌, ◌*◌, ◌^◌, ◌<◌, Bool, true, false, List, [], ◌∷◌, sym, ap, ◌∙◌, mul_assoc, mul_comm, add-mul, arith}
use native.Mathlib.Nat.{pow-succ'}
use Rattle.datasheet.specs.declared.registers.Registers.{Registers}
use Rattle.datasheet.specs.declared.level.Level.{Level}
use Rattle.datasheet.specs.declared.sample.Sample.{Sample}
use Rattle.datasheet.specs.Bits.{bit, bit_at, bits_of}
use Rattle.datasheet.specs.Levels.{read_as}
use Rattle.datasheet.specs.Calls.{ChipState}
use Rattle.datasheet.specs.Kept.{bounded}
use Rattle.spi_model.specs.declared.mode.Mode.{Mode}
use Rattle.spi_model.specs.Puts.{puts}
use Rattle.spi_model.specs.Samples.{rest, bit_samples, bits_samples}
use Rattle.spi_model.specs.Lines.{byte_read}
use Rattle.spi_model.proofs.Clock.{over}
use Rattle.spi_model.proofs.Pieces.{read_more}

bit_small : (r : Bool) → bit r < 2
bit_small true = omega arith
bit_small false = omega arith

-- one bit more
folded : (read r p n m total : ℕ) → read * (2 * p) + n ≡ total → n ≡ r * p + m → (2 * read + r) * p + m ≡ total
folded read r p n m total e q =
    let a = add-mul (2 * read) r p in
    let b = mul_assoc 2 read p in
    let d : read * (2 * p) ≡ 2 * (read * p) = sym (mul_assoc read 2 p) ∙ ap (λ (k : ℕ). k * p) (mul_comm read 2) ∙ b in
    omega arith

module _ (mode : Mode) (wp : Bool) (n : ℕ) (c d : ChipState Registers) (i x : ℕ) (r : Level) where
  abbrev left : ChipState Registers → ℕ → ℕ
  left y k = byte_read bounded mode wp y (bits_samples mode wp n (bits_of k x))

  abbrev first : List Sample
  first = bit_samples mode wp n (bit_at i x)

  pub reads_more : (read total : ℕ) → d ≡ puts bounded c first → over bounded c (rest mode) first ≡ r ∷ [] →
      read * 2 ^ suc i + left c (suc i) ≡ total → (2 * read + bit (read_as r)) * 2 ^ i + left d i ≡ total
  reads_more read total e q h =
      let p : 2 ^ suc i ≡ 2 * 2 ^ i = omega arith in
      folded read (bit (read_as r)) (2 ^ i) (left c (suc i)) (left d i) total (rw p at h) (read_more bounded mode wp n c d i x r e q)

pub read_below : (read taken : ℕ) (r : Bool) → read < 2 ^ taken → 2 * read + bit r < 2 ^ (taken + 1)
read_below read taken r l =
    let p : 2 ^ (taken + 1) ≡ 2 * 2 ^ taken = ap (λ (k : ℕ). 2 ^ k) (omega arith) ∙ pow-succ' 2 taken in
    let b = bit_small r in
    omega arith
