-- Numbers and bit lists: the number of a list, the bits of a number, and windows of a list that grows by one bit.
use Rattle.std.proofs.Common.{◌≡◌, ℕ, zero, suc, ◌+◌, ◌-◌, ◌*◌, ◌/◌, ◌%◌, ◌^◌, ◌<◌, ◌≤◌, Bool, true, false, eqb, ◌⊎◌, List, [], ◌∷◌, ◌++◌, length, take, drop, sym, refl, ap, ◌∙◌, inl, inr, lt_of_lt_of_le, mod-eq_of_lt, one-add, arith, pow_mono}
use native.Mathlib.Nat.{mod-one}
use Rattle.std.proofs.lemmas.List.{length_push, length-append, length-take, length-drop, take-append-drop, take_all, take-append-le, drop-append-le}
use Rattle.std.proofs.lemmas.Nat.{mod_low, mod-pow-add, pow-add, pow_below}
use Rattle.std.proofs.lemmas.Bool.{cases_lt}
use Rattle.datasheet.specs.Bits.{bit, bits_of, number, byte_after}

-- the number of a list of bits
pub number_append : (xs ys : List Bool) → number (xs ++ ys) ≡ number xs * 2 ^ length ys + number ys
number_append [] ys = omega arith
number_append (b ∷ xs) ys =
    let h = number_append xs ys in
    let p : 2 ^ length (xs ++ ys) ≡ 2 ^ length xs * 2 ^ length ys = simp (length-append, pow-add) in
    rw (p, h) (omega arith)

pub number_push : (bs : List Bool) (b : Bool) → number (bs ++ b ∷ []) ≡ 2 * number bs + bit b
number_push bs b = number_append bs (b ∷ []) ∙ omega arith

pub number_lt : (bs : List Bool) → number bs < 2 ^ length bs
number_lt [] = omega arith
number_lt (b ∷ bs) = go b (number_lt bs)
  where
    go : (t : Bool) → number bs < 2 ^ length bs → bit t * 2 ^ length bs + number bs < 2 ^ suc (length bs)
    go true h = omega arith
    go false h = omega arith

pub byte_after_lt : (i : ℕ) (bits : List Bool) → byte_after i bits < 256
byte_after_lt i bits =
    let h : length (take 8 (drop i bits)) ≤ 8 = simp length-take (omega arith) in
    lt_of_lt_of_le (number_lt (take 8 (drop i bits))) (pow_mono h)

-- the byte of the last eight bits
pub last_byte : (bits : List Bool) → byte_after (length bits - 8) bits ≡ number bits % 256
last_byte bits = go (cases_lt (length bits) 8)
  where
    go : (length bits < 8) ⊎ (8 ≤ length bits) → byte_after (length bits - 8) bits ≡ number bits % 256
    go (inl h) =
        let z : length bits - 8 ≡ 0 = omega arith in
        let l = number_lt bits in
        let m = pow_below (length bits) 8 h in
        rw (z, take_all 8 bits (omega arith)) (sym (mod-eq_of_lt (omega arith)))
    go (inr h) =
        let i = length bits - 8 in
        let front = take i bits in
        let back = drop i bits in
        let n : length back ≡ 8 = simp length-drop (omega arith) in
        let l : number back < 2 ^ 8 = rw n at (number_lt back) in
        let e = rw (take-append-drop i bits, n) at (number_append front back) in
        rw (take_all 8 back (omega arith), e) (sym (mod_low (number front) 8 (number back) l))

-- the bits of a number
bit_mod : (y : ℕ) → bit (eqb (y % 2) 1) ≡ y % 2
bit_mod y = grind arith

pub length_bits_of : (k x : ℕ) → length (bits_of k x) ≡ k
length_bits_of zero x = refl
length_bits_of (suc k) x = ap suc (length_bits_of k x)

pub number_bits_of : (k x : ℕ) → number (bits_of k x) ≡ x % 2 ^ k
number_bits_of zero x = sym (mod-one x)
number_bits_of (suc k) x =
    rw (length_bits_of k x, bit_mod (x / 2 ^ k), number_bits_of k x, ← one-add k) (sym (mod-pow-add x 1 k))

-- the window of k bits behind the first j, of a list that grows by one bit
module _ (j k : ℕ) (bits : List Bool) (b : Bool) where
  pub window_more : j ≤ length bits → length bits < j + k → take k (drop j (bits ++ b ∷ [])) ≡ take k (drop j bits) ++ b ∷ []
  window_more g h =
      let n : length (drop j bits) < k = simp length-drop (omega arith) in
      rw (drop-append-le j bits (b ∷ []) g, take_all k (drop j bits) (omega arith))
      (take_all k (drop j bits ++ b ∷ []) (simp length_push (omega arith)))

  pub window_kept : j + k ≤ length bits → take k (drop j (bits ++ b ∷ [])) ≡ take k (drop j bits)
  window_kept h =
      rw (drop-append-le j bits (b ∷ []) (omega arith))
      (take-append-le k (drop j bits) (b ∷ []) (simp length-drop (omega arith)))
