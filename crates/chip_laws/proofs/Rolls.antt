-- Where READ, FSTRD and WRITE roll over, the remainder of the sum is kept, and nothing else.
use Rattle.std.proofs.Common.{◌≡◌, ℕ, zero, suc, ◌+◌, ◌-◌, ◌/◌, ◌%◌, ◌<◌, Bool, eqb, ◌⊎◌, List, [], ◌∷◌, ◌++◌, length, sym, refl, ap, ap₂, ◌∙◌, subst, inl, inr, mod-lt, mod-eq_of_lt, pow_pos, arith, Some}
use native.Mathlib.Nat.{mod-add-mod, mod_self}
use Rattle.std.proofs.lemmas.Bool.{cond_both, eqb-true, eqb-false}
use Rattle.datasheet.specs.declared.sheet.Sheet.{Sheet}
use Rattle.datasheet.specs.declared.command.Command.{Command}
use Rattle.datasheet.specs.declared.command.Command.TheVariants.{Read, Fstrd}
use Rattle.datasheet.specs.Bits.{byte_after}
use Rattle.datasheet.specs.Sheets.{density_of, cells}
use Rattle.datasheet.specs.Records.{Record}
use Rattle.datasheet.specs.Commands.{first_data}
use Rattle.datasheet.specs.Places.{next_place, places_on}
use Rattle.datasheet.specs.Sessions.{command, address, data_bytes, cell_at}
use Rattle.datasheet.specs.Rises.{effect}
use Rattle.datasheet.specs.Falls.{shown, data_shown}
use Rattle.datasheet.specs.Chips.{PinState, deselected, selected, whole}
use Rattle.datasheet.specs.Calls.{answers, run}
use Rattle.datasheet.specs.Kept.{kept_pins}
use Rattle.chip_laws.specs.ByDivision.{cell_by_division, by_division}
use Rattle.chip_laws.specs.Laws.{SumFits, CounterFits, InByte, RollsOver}
use Rattle.chip_laws.proofs.Bits.{number_bits_of}
use Rattle.chip_laws.proofs.Follow.{enough}

-- ## Places

some_cells : (s : Sheet) → 0 < cells s
some_cells s = pow_pos (10 + density_of s.t)

-- the address is a place
address_lt : (s : Sheet) (bits : List Bool) → address s bits < cells s
address_lt s bits = mod-lt _ (some_cells s)

-- from a place, so many bytes on
places_mod : (s : Sheet) (a k : ℕ) → a < cells s → places_on s a k ≡ (a + k) % cells s
places_mod s a zero h = sym (mod-eq_of_lt (omega arith)) ∙ ap (λ n. n % cells s) (omega arith)
places_mod s a (suc k) h =
    ap (next_place s) (places_mod s a k h) ∙ mod-add-mod (a + k) (cells s) 1 ∙ ap (λ n. n % cells s) (omega arith)

from_address : (s : Sheet) (bits : List Bool) (k : ℕ) → places_on s (address s bits) k ≡ (address s bits + k) % cells s
from_address s bits k = places_mod s (address s bits) k (address_lt s bits)

-- ## Sums

sum_fits : (s : Sheet) (place : ℕ) → place < cells s → SumFits s place
sum_fits s place h =
    record {
      cell = h;
      sum = omega arith;
      kept =
          cond_both (eqb (place + 1) m) 0 (place + 1) (λ n. (place + 1) % m ≡ n)
          (λ e. ap (λ n. n % m) (eqb-true (place + 1) m e) ∙ mod_self m)
          (λ e. let g = eqb-false (place + 1) m e in mod-eq_of_lt (omega arith));
      register = number_bits_of (10 + density_of s.t) (place + 1);
    }
  where
    m : ℕ
    m = cells s

listed_fit : (s : Sheet) (bits : List Bool) (k : ℕ) → SumFits s (places_on s (address s bits) k)
listed_fit s bits k = sum_fits s _ (subst (λ n. n < cells s) (sym (from_address s bits k)) (mod-lt _ (some_cells s)))

counter_fits : (s : Sheet) (p : PinState (List Bool)) → CounterFits s (kept_pins s p)
counter_fits s deselected = tt
counter_fits s (selected o) = listed_fit s o.kept (data_bytes (first_data (command s o.kept)) o.kept)

-- ## Sessions

cell_is : (s : Sheet) (from : ℕ) (bits : List Bool) (k : ℕ) → data_bytes from bits ≡ k →
    cell_at s from bits ≡ (address s bits + k) % cells s
cell_is s from bits k e = ap (places_on s (address s bits)) e ∙ from_address s bits k

shows_cells : (s : Sheet) (c : Command) (r : Record) (n a : ℕ) → (c ≡ Read) ⊎ (c ≡ Fstrd) →
    shown s (Some c) r n a ≡ data_shown (first_data (Some c)) r n a
shows_cells s c r n a (inl p) = subst (λ d. shown s (Some d) r n a ≡ data_shown (first_data (Some d)) r n a) (sym p) refl
shows_cells s c r n a (inr p) = subst (λ d. shown s (Some d) r n a ≡ data_shown (first_data (Some d)) r n a) (sym p) refl

in_byte : (first k n : ℕ) → InByte first k n → (n - first) / 8 ≡ k
in_byte first k n h =
    let from = h.0 in
    let below = h.1 in
    omega arith

-- ## No answer alters

by_one : (s : Sheet) (from : ℕ) (bits : List Bool) → cell_at s from bits ≡ cell_by_division s from bits
by_one s from bits = from_address s bits (data_bytes from bits)

-- the rules with each cell on its way from the one definition to the other
abbrev same_keeping : whole ≡ by_division
same_keeping i =
    record whole {
      rises = λ s wp r bits b.
          let next : List Bool = bits ++ b ∷ [] in
          effect s (command s next) wp r (length next) (by_one s 32 next i) (byte_after (length next - 8) next);
      shows = λ s r bits.
          shown s (command s bits) r (length bits) (by_one s (first_data (command s bits)) bits i);
    }

-- ## The law

pub rolls_over : RollsOver
rolls_over =
    record {
      remainder = λ s place. refl;
      listed = listed_fit;
      counted = λ c calls.
          let d = run whole c calls in
          subst (λ e. CounterFits e.sheet e.pins) (sym (enough c calls).1) (counter_fits d.sheet d.pins);
      places = from_address;
      shown = λ s c r bits k h e b.
          let n = length bits in
          let first = first_data (Some c) in
          ap (λ d. shown s d r n (cell_at s (first_data d) bits)) e
          ∙ ap (shown s (Some c) r n) (cell_is s first bits k (in_byte first k n b))
          ∙ shows_cells s c r n ((address s bits + k) % cells s) h;
      written = λ s wp r bits k e l.
          let x = byte_after (length bits - 8) bits in
          ap₂ (λ d a. effect s d wp r (length bits) a x) e (cell_is s 32 bits k (omega arith));
      unaltered = λ c calls. ((λ i. answers (same_keeping i) c calls), (λ i. run (same_keeping i) c calls));
    }
