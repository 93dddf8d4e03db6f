-- What a bounded chip keeps of a session follows the session bit by bit, and the rules read no more of it.
use Rattle.std.proofs.Common.{◌≡◌, ℕ, ◌+◌, ◌-◌, ◌*◌, ◌/◌, ◌%◌, ◌<◌, ◌≤◌, Bool, true, false, cond, ltb, leb, ◌⊎◌, List, [], ◌∷◌, ◌++◌, length, take, drop, sym, refl, ap, ◌∙◌, inl, inr, add-one, arith, Some, None, Option}
use native.Mathlib.Nat.{zero-mod, mod-add-div', add-mul-mod_self_right}
use Rattle.std.proofs.lemmas.List.{length_push, drop_all}
use Rattle.std.proofs.lemmas.Bool.{cases_lt, lt-ltb, le-ltb}
use Rattle.datasheet.specs.declared.sheet.Sheet.{Sheet}
use Rattle.datasheet.specs.declared.command.Command.{Command}
use Rattle.datasheet.specs.declared.command.Command.TheVariants.{Write}
use Rattle.datasheet.specs.declared.registers.Registers.{Registers}
use Rattle.datasheet.specs.Bits.{bit, number, byte_after}
use Rattle.datasheet.specs.Sheets.{cells}
use Rattle.datasheet.specs.Records.{Record}
use Rattle.datasheet.specs.Commands.{command_of, command_at, first_data}
use Rattle.datasheet.specs.Places.{next_place, places_on}
use Rattle.datasheet.specs.Sessions.{command, address, data_bytes, cell_at}
use Rattle.datasheet.specs.Rises.{effect, after_rise}
use Rattle.datasheet.specs.Falls.{shown, after_fall}
use Rattle.datasheet.specs.Ends.{ended, after_end}
use Rattle.datasheet.specs.Kept.{counted, kept, cleared, turns, moved, taken, rise_kept, fall_kept, end_kept}
use Rattle.chip_laws.proofs.Bits.{byte_after_lt, number_push, last_byte, window_more, window_kept}

-- the bit counter
counted_more : (n : ℕ) → counted (n + 1) ≡ cond (leb 47 (counted n)) 40 (counted n + 1)
counted_more n = grind arith

counted_ltb : (n k : ℕ) → k ≤ 40 → ltb (counted n) k ≡ ltb n k
counted_ltb n k h = grind arith

-- the op-code
code_more : (bits : List Bool) (b : Bool) →
    byte_after 0 (bits ++ b ∷ [])
    ≡ cond (ltb (counted (length bits)) 8) ((2 * byte_after 0 bits + bit b) % 256) (byte_after 0 bits)
code_more bits b =
    go (length bits) (byte_after 0 bits) (byte_after 0 (bits ++ b ∷ []))
    (λ h. ap number (window_more 0 8 bits b (omega arith) h) ∙ number_push (take 8 bits) b)
    (λ h. ap number (window_kept 0 8 bits b h))
    (byte_after_lt 0 (bits ++ b ∷ []))
  where
    go : (n x y : ℕ) → (n < 8 → y ≡ 2 * x + bit b) → (8 ≤ n → y ≡ x) → y < 256 →
        y ≡ cond (ltb (counted n) 8) ((2 * x + bit b) % 256) x
    go n x y p q l = grind arith

-- the shift register
shift_more : (bits : List Bool) (b : Bool) → number (bits ++ b ∷ []) % 256 ≡ (2 * (number bits % 256) + bit b) % 256
shift_more bits b = rw (number_push bits b) (omega arith)

-- the address
address_early : (s : Sheet) (bits : List Bool) → length bits ≤ 8 → address s bits ≡ 0
address_early s bits h = rw (drop_all 8 bits h) (zero-mod (cells s))

pub double_mod : (x y m : ℕ) → (2 * x + y) % m ≡ (2 * (x % m) + y) % m
double_mod x y m =
    let p : 2 * x + y ≡ 2 * (x % m) + y + 2 * (x / m) * m = omega (arith, mod-add-div' x m) in
    rw p (add-mul-mod_self_right (2 * (x % m) + y) (2 * (x / m)) m)

address_more : (s : Sheet) (bits : List Bool) (b : Bool) → 8 ≤ length bits → length bits < 24 →
    address s (bits ++ b ∷ []) ≡ (2 * address s bits + bit b) % cells s
address_more s bits b g h =
    let w = take 16 (drop 8 bits) in
    rw (window_more 8 16 bits b g h, number_push w b) (double_mod (number w) (bit b) (cells s))

address_kept : (s : Sheet) (bits : List Bool) (b : Bool) → 24 ≤ length bits → address s (bits ++ b ∷ []) ≡ address s bits
address_kept s bits b h = rw (window_kept 8 16 bits b h)

-- the command
pub command_kept : (s : Sheet) (bits : List Bool) (b : Bool) → 8 ≤ length bits → command s (bits ++ b ∷ []) ≡ command s bits
command_kept s bits b h =
    rw (window_kept 0 8 bits b h, le-ltb (length bits) 8 h, le-ltb (length (bits ++ b ∷ [])) 8 (simp length_push (omega arith)))

command_counted : (s : Sheet) (n c : ℕ) → command_at s (counted n) c ≡ command_at s n c
command_counted s n c = ap (λ (t : Bool). cond t None (command_of s c)) (counted_ltb n 8 (omega arith))

-- the address counter
turned : (c : Option Command) (n : ℕ) →
    (n + 1 - first_data c) / 8 ≡ cond (turns (first_data c) (counted n)) ((n - first_data c) / 8 + 1) ((n - first_data c) / 8)
turned c n = grind arith

one_on : (s : Sheet) (g : Bool) (a k : ℕ) →
    places_on s a (cond g (k + 1) k) ≡ cond g (next_place s (places_on s a k)) (places_on s a k)
one_on s true a k = ap (places_on s a) (add-one k)
one_on s false a k = refl

cell_early : (s : Sheet) (c : Option Command) (bits : List Bool) → length bits ≤ 24 → cell_at s (first_data c) bits ≡ address s bits
cell_early s c bits h =
    let z : data_bytes (first_data c) bits ≡ 0 = grind arith in
    ap (places_on s (address s bits)) z

place_more : (s : Sheet) (bits : List Bool) (b : Bool) →
    cell_at s (first_data (command s (bits ++ b ∷ []))) (bits ++ b ∷ []) ≡ moved s (kept s bits) b
place_more s bits b =
    rw (counted_ltb n 8 (omega arith), counted_ltb n 24 (omega arith))
    (go (command s bits) (command s bits') (command_kept s bits b) (length_push bits b) (cases_lt n 8) (cases_lt n 24))
  where
    bits' : List Bool
    bits' = bits ++ b ∷ []

    n : ℕ
    n = length bits

    place : Option Command → ℕ
    place c = cell_at s (first_data c) bits

    go : (c c' : Option Command) → (8 ≤ n → c' ≡ c) → length bits' ≡ n + 1 → (n < 8) ⊎ (8 ≤ n) → (n < 24) ⊎ (24 ≤ n) →
        cell_at s (first_data c') bits'
        ≡ cond (ltb n 8) (place c)
        (cond (ltb n 24) ((2 * place c + bit b) % cells s)
        (cond (turns (first_data c) (counted n)) (next_place s (place c)) (place c)))
    go c c' k l (inl e) f =
        rw (lt-ltb n 8 e, cell_early s c bits (omega arith), cell_early s c' bits' (omega arith))
        (address_early s bits' (omega arith) ∙ sym (address_early s bits (omega arith)))
    go c c' k l (inr e) (inl f) =
        rw (le-ltb n 8 e, lt-ltb n 24 f, cell_early s c bits (omega arith), cell_early s c' bits' (omega arith))
        (address_more s bits b e f)
    go c c' k l (inr e) (inr f) =
        rw (le-ltb n 8 e, le-ltb n 24 f, k e, address_kept s bits b f, l, turned c n)
        (one_on s (turns (first_data c) (counted n)) (address s bits) ((n - first_data c) / 8))

-- no bit, and one bit more
pub kept_none : (s : Sheet) → kept s [] ≡ cleared
kept_none s i =
    let p = cell_early s None [] (omega arith) ∙ address_early s [] (omega arith) in
    record { count = 0; code = 0; place = p i; shift = 0 }

pub kept_more : (s : Sheet) (bits : List Bool) (b : Bool) → kept s (bits ++ b ∷ []) ≡ taken s (kept s bits) b
kept_more s bits b i =
    record {
      count = (ap counted (length_push bits b) ∙ counted_more (length bits)) i;
      code = code_more bits b i;
      place = place_more s bits b i;
      shift = shift_more bits b i;
    }

-- the rules read no more of the number of bits than the bit counter
effect_same : (s : Sheet) (c : Option Command) (wp : Bool) (r : Record) (n a a' x : ℕ) → (c ≡ Some Write → 32 ≤ n → n % 8 ≡ 0 → a ≡ a') →
    effect s c wp r (counted n) a x ≡ effect s c wp r n a' x
effect_same s c wp r n a a' x h = grind arith

shown_same : (s : Sheet) (c : Option Command) (r : Record) (n a : ℕ) → shown s c r (counted n) a ≡ shown s c r n a
shown_same s c r n a = grind arith

ended_same : (s : Sheet) (c : Option Command) (r : Record) (n : ℕ) → ended s c r (counted n) ≡ ended s c r n
ended_same s c r n = grind arith

-- the cell of the data byte that the next bit completes
write_cell : (s : Sheet) (bits : List Bool) (b : Bool) →
    let bits' = bits ++ b ∷ [] in
    command s bits' ≡ Some Write → 32 ≤ length bits' → length bits' % 8 ≡ 0 → (kept s bits).place ≡ cell_at s 32 bits'
write_cell s bits b c e f =
    let l = length_push bits b in
    let w : command s bits ≡ Some Write = sym (command_kept s bits b (omega arith)) ∙ c in
    let q : (length bits - 24) / 8 ≡ (length (bits ++ b ∷ []) - 32) / 8 = omega arith in
    rw (w, q, address_kept s bits b (omega arith))

-- so what is kept says what each edge and the end do
pub rise_same : (s : Sheet) (wp : Bool) (r : Record) (bits : List Bool) (b : Bool) →
    rise_kept s wp r (kept s bits) b ≡ after_rise s wp r (bits ++ b ∷ [])
rise_same s wp r bits b =
    let bits' = bits ++ b ∷ [] in
    let n = length bits' in
    let a = (kept s bits).place in
    ap (λ (k : Registers). effect s (command_at s k.count k.code) wp r k.count a k.shift) (sym (kept_more s bits b))
    ∙ rw (command_counted s n (byte_after 0 bits'), last_byte bits')
    (effect_same s (command s bits') wp r n a (cell_at s 32 bits') (number bits' % 256) (write_cell s bits b))

pub fall_same : (s : Sheet) (r : Record) (bits : List Bool) → fall_kept s r (kept s bits) ≡ after_fall s r bits
fall_same s r bits =
    rw (command_counted s (length bits) (byte_after 0 bits)) (shown_same s (command s bits) r (length bits) (kept s bits).place)

pub end_same : (s : Sheet) (r : Record) (bits : List Bool) → end_kept s r (kept s bits) ≡ after_end s r bits
end_same s r bits =
    rw (command_counted s (length bits) (byte_after 0 bits)) (ended_same s (command s bits) r (length bits))
