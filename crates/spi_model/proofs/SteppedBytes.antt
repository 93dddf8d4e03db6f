-- In a session of whole bytes a byte can be taken at once: by the registers, only the last bit of a byte counts.
use Rattle.std.proofs.Common.{◌≡◌, ℕ, zero, suc, ◌+◌, ◌-◌, ◌*◌, ◌/◌, ◌%◌, ◌^◌, ◌<◌, ◌≤◌, min, Bool, true, false, cond, ◌&&◌, eqb, ltb, leb, List, [], ◌∷◌, ◌++◌, length, map, replicate, take, sym, refl, ap, ◌∙◌, ap₂, add-mul, arith, Some, None, Option}
use native.Mathlib.Nat.{pow-succ', zero-div, mod-mod_of_dvd, dvd-mul_right}
use Rattle.std.proofs.lemmas.Nat.{field_of, shr-shr, pow-add}
use Rattle.std.proofs.lemmas.Bool.{ltb-false, leb-true, leb-false, cond_both}
use Rattle.std.proofs.lemmas.Bool.Decides.{Decides-below_and}
use Rattle.datasheet.specs.declared.registers.Registers.{Registers}
use Rattle.datasheet.specs.declared.sheet.Sheet.{Sheet}
use Rattle.datasheet.specs.declared.command.Command.{Command}
use Rattle.datasheet.specs.declared.command.Command.TheVariants.{Rdsr, Read, Rdid, Fstrd}
use Rattle.datasheet.specs.declared.level.Level.{Level}
use Rattle.datasheet.specs.declared.level.Level.TheVariants.{HighZ}
use Rattle.datasheet.specs.Bits.{bit, bit_at, bits_of, number}
use Rattle.datasheet.specs.Levels.{read_as, driven}
use Rattle.datasheet.specs.Sheets.{cells, identity}
use Rattle.datasheet.specs.Records.{Record, status}
use Rattle.datasheet.specs.Commands.{command_at, command_of, first_data}
use Rattle.datasheet.specs.Places.{next_place}
use Rattle.datasheet.specs.Rises.{effect}
use Rattle.datasheet.specs.Falls.{shown}
use Rattle.datasheet.specs.Chips.{falling}
use Rattle.datasheet.specs.Kept.{bounded, taken, turns, fall_kept}
use Rattle.chip_laws.proofs.Bits.{number_bits_of}
use Rattle.chip_laws.proofs.Simulation.{double_mod}
use Rattle.spi_model.specs.Moments.{Moment, after_bit, after_bits, reads}
use Rattle.spi_model.specs.Reads.{read_off}
use Rattle.spi_model.specs.SteppedBytes.{taken_byte, record_after, shown_byte, drives_byte, step_byte, levels_read, read_byte}
use Rattle.spi_model.specs.Laws.{ByteAtOnce}

-- ## The byte that is shown

-- the low eight bits of a number; eight equal bits; a bit that is driven
bit_at_mod : (j y : ℕ) → j < 8 → bit_at j (y % 256) ≡ bit_at j y
bit_at_mod j y h =
    let p : 8 ≡ 1 + (7 - j) + j = omega arith in
    let q = mod-mod_of_dvd 2 (y / 2 ^ j) (dvd-mul_right 2 (2 ^ (7 - j))) in
    ap (λ z. eqb (z % 2) 1) (ap (λ e. y % 2 ^ e / 2 ^ j) p ∙ field_of y (1 + (7 - j)) j)
    ∙ rw (pow-add 2 1 (7 - j)) (ap (λ z. eqb z 1) q)

bit_at_same : (b : Bool) (j : ℕ) → j < 8 → bit_at j (255 * bit b) ≡ b
bit_at_same false j h = rw (zero-div (2 ^ j))
bit_at_same true j h =
    (Decides-below_and (λ j. bit_at j 255) (λ j. bit_at j 255 ≡ true) ones (λ j. (λ e. e, λ e. e)) refl (λ j. refl) 8).0 refl j h
  where
    ones : ℕ → Bool
    ones zero = true
    ones (suc j) = bit_at j 255 && ones j

read_as_driven : (t : Bool) → read_as (driven t) ≡ t
read_as_driven t = grind arith

read_as_bits : (bs : List Bool) → map read_as (map driven bs) ≡ bs
read_as_bits [] = refl
read_as_bits (b ∷ bs) = ap₂ ◌∷◌ (read_as_driven b) (read_as_bits bs)

-- a byte that is not driven is FFh
undriven_ones : (s : Sheet) (c : Option Command) (r : Record) (n a : ℕ) → drives_byte c n ≡ false → shown_byte s c r n a ≡ 255
undriven_ones s c r n a e = grind arith

-- a level that is driven to a bit, or high-Z
abbrev pub driven_if : Bool → Bool → Level
driven_if d b = cond d (driven b) HighZ

-- after m bits, of which n are whole bytes, the bit shown is the next one of the byte that is shown
module _ (n m : ℕ) (f : n % 8 ≡ 0) (g : n ≤ m) (h : m < n + 8) where
  abbrev j : ℕ
  j = n + 7 - m

  data_bit : (t y : ℕ) → t % 8 ≡ 0 → t ≤ n → bit_at (7 - (m - t) % 8) y ≡ bit_at j (y % 256)
  data_bit t y z l =
      let k : 7 - (m - t) % 8 ≡ n + 7 - m = omega arith in
      rw k (sym (bit_at_mod j y (omega arith)))

  cell_level : (t y : ℕ) → t % 8 ≡ 0 →
      cond (leb t m) (driven (bit_at (7 - (m - t) % 8) y)) HighZ ≡ driven_if (leb t n) (bit_at j (cond (leb t n) (y % 256) 255))
  cell_level t y z = go _ (λ k. driven (bit_at j k)) (λ l. ap driven (data_bit t y z l))
    where
      go : (l : Level) (b : ℕ → Level) → (t ≤ n → l ≡ b (y % 256)) →
          cond (leb t m) l HighZ ≡ cond (leb t n) (b (cond (leb t n) (y % 256) 255)) HighZ
      go l b p = grind arith

  id_bit : (y : ℕ) → 8 ≤ n →
      bit_at (31 - min (m - 8) 31) y ≡ bit_at j (cond (leb n 32) (y / 2 ^ (32 - n) % 256) (255 * (y % 2)))
  id_bit y e =
      cond_both (leb n 32) (y / 2 ^ (32 - n) % 256) (255 * (y % 2))
      (λ z. bit_at (31 - min (m - 8) 31) y ≡ bit_at j z)
      (λ t.
      let l = leb-true n 32 t in
      let k : 31 - min (m - 8) 31 ≡ 32 - n + (n + 7 - m) = omega arith in
      rw (k, bit_at_mod j (y / 2 ^ (32 - n)) (omega arith), shr-shr y (32 - n) j) refl)
      (λ t.
      let l = leb-false n 32 t in
      let k : 31 - min (m - 8) 31 ≡ 0 = omega arith in
      let p : 255 * (y % 2) ≡ 255 * bit (bit_at 0 y) = grind arith in
      rw (k, p) (sym (bit_at_same (bit_at 0 y) j (omega arith))))

  command_level : (s : Sheet) (c : Option Command) (r : Record) (a : ℕ) → 8 ≤ n →
      shown s c r m a ≡ driven_if (drives_byte c n) (bit_at j (shown_byte s c r n a))
  command_level s (Some Rdsr) r a e = ap driven (data_bit 8 (status r) refl e)
  command_level s (Some Rdid) r a e = ap driven (id_bit (identity s) e)
  command_level s (Some Read) r a e = cell_level 24 _ refl
  command_level s (Some Fstrd) r a e = cell_level 32 _ refl
  command_level s _ r a e = refl

  pub shown_level : (s : Sheet) (code : ℕ) (r : Record) (a : ℕ) →
      let c : Option Command = command_at s n code in
      shown s c r m a ≡ driven_if (drives_byte c n) (bit_at j (shown_byte s c r n a))
  shown_level s code r a =
      cond_both (ltb n 8) None (command_of s code) (λ c. shown s c r m a ≡ driven_if (drives_byte c n) (bit_at j (shown_byte s c r n a)))
      (λ e. refl) (λ e. command_level s (command_of s code) r a (ltb-false n 8 e))

  -- so it is read, driven or not
  pub shown_bit : (s : Sheet) (code : ℕ) (r : Record) (a : ℕ) →
      let c : Option Command = command_at s n code in
      read_as (shown s c r m a) ≡ bit_at j (shown_byte s c r n a)
  shown_bit s code r a =
      let c : Option Command = command_at s n code in
      ap read_as (shown_level s code r a) ∙ go (drives_byte c n) (shown_byte s c r n a) (undriven_ones s c r n a)
    where
      go : (d : Bool) (y : ℕ) → (d ≡ false → y ≡ 255) → read_as (driven_if d (bit_at j y)) ≡ bit_at j y
      go true y p = read_as_driven (bit_at j y)
      go false y p = sym (ap (bit_at j) (p refl) ∙ bit_at_same true j (omega arith))

-- ## The rules within a byte

-- the cell counts only for data
effect_cell : (s : Sheet) (c : Option Command) (wp : Bool) (r : Record) (n a a' x : ℕ) → (32 ≤ n → a ≡ a') →
    effect s c wp r n a x ≡ effect s c wp r n a' x
effect_cell s c wp r n a a' x h = grind arith

shown_cell : (s : Sheet) (c : Option Command) (r : Record) (n a a' : ℕ) → (24 ≤ n → a ≡ a') → shown s c r n a ≡ shown s c r n a'
shown_cell s c r n a a' h = grind arith

-- only the last bit of a byte changes the record, and none the sleep mark
effect_mid : (s : Sheet) (c : Option Command) (wp : Bool) (r : Record) (n a x : ℕ) → (n % 8 ≡ 0 → ⊥) → effect s c wp r n a x ≡ r
effect_mid s c wp r n a x h = grind arith

effect_asleep : (s : Sheet) (c : Option Command) (wp : Bool) (r : Record) (n a x : ℕ) → (effect s c wp r n a x).asleep ≡ r.asleep
effect_asleep s c wp r n a x = grind arith

-- ## The registers

-- bits pushed into a register that counts modulo m
abbrev push : ℕ → Bool → ℕ → ℕ
push m b p = (2 * p + bit b) % m

abbrev pushes : ℕ → ℕ → List Bool → ℕ
pushes m p [] = p
pushes m p (b ∷ bs) = pushes m (push m b p) bs

pushed : (m p : ℕ) (bs : List Bool) → pushes m (p % m) bs ≡ (p * 2 ^ length bs + number bs) % m
pushed m p [] = ap (λ z. z % m) (omega arith)
pushed m p (b ∷ bs) =
    ap (λ z. pushes m z bs) (sym (double_mod p (bit b) m)) ∙ pushed m (2 * p + bit b) bs
    ∙ ap (λ z. z % m) (go p (bit b) (length bs) (number bs))
  where
    go : (p b n z : ℕ) → (2 * p + b) * 2 ^ n + z ≡ p * 2 ^ suc n + (b * 2 ^ n + z)
    go p b n z = rw (add-mul (2 * p) b (2 ^ n), pow-succ' 2 n) (omega arith)

pushed_byte : (m p x : ℕ) → x < 256 → pushes m p (bits_of 8 x) ≡ (256 * p + x) % m
pushed_byte m p x h =
    pushed m (2 * p + bit (bit_at 7 x)) (bits_of 7 x) ∙ ap (λ z. z % m) (omega (arith, number_bits_of 8 x))

-- what is kept after some bits of a byte, but not the last
abbrev within : Sheet → Registers → List Bool → Registers
within s k bs =
    record {
      count = k.count + length bs;
      code = cond (ltb k.count 8) (pushes 256 k.code bs) k.code;
      place = cond (ltb k.count 8) k.place (cond (ltb k.count 24) (pushes (cells s) k.place bs) k.place);
      shift = pushes 256 k.shift bs;
    }

same : (k k' : Registers) → k.count ≡ k'.count → k.code ≡ k'.code → k.place ≡ k'.place → k.shift ≡ k'.shift → k ≡ k'
same k k' p q u v i = record { count = p i; code = q i; place = u i; shift = v i }

within_none : (s : Sheet) (k : Registers) → k ≡ within s k []
within_none s k = same _ _ (omega arith) (grind arith) (grind arith) refl

-- the bits of a data byte leave the cell to its last one
within_place : (s : Sheet) (k : Registers) (bs : List Bool) → 32 ≤ cond (leb 40 k.count) 40 (k.count + 8) →
    (within s k bs).place ≡ k.place
within_place s k bs h = grind arith

-- a bit that is not the last of its byte leaves the command, and what is shown in the byte
module _ (s : Sheet) (k : Registers) (b : Bool) (h : k.count % 8 < 7) (g : k.count < 48) where
  abbrev next : Registers
  next = taken s k b

  count_mid : next.count ≡ k.count + 1
  count_mid = grind arith

  command_mid : command_at s next.count next.code ≡ command_at s k.count k.code
  command_mid = go (command_of s) k.count k.code _ h
    where
      go : (f : ℕ → Option Command) (n x y : ℕ) → n % 8 < 7 →
          cond (ltb (cond (leb 47 n) 40 (n + 1)) 8) None (f (cond (ltb n 8) y x)) ≡ cond (ltb n 8) None (f x)
      go f n x y h = grind arith

  place_mid : next.place ≡ (within s k (b ∷ [])).place
  place_mid = go k.count (first_data (command_at s k.count k.code)) k.place _ _ h
    where
      go : (n f p x y : ℕ) → n % 8 < 7 →
          cond (ltb n 8) p (cond (ltb n 24) x (cond (turns f n) y p)) ≡ cond (ltb n 8) p (cond (ltb n 24) x p)
      go n f p x y h = grind arith

  shown_mid : (r : Record) (n : ℕ) → n / 8 ≡ k.count / 8 →
      shown s (command_at s next.count next.code) r n next.place ≡ shown s (command_at s k.count k.code) r n k.place
  shown_mid r n e = rw (command_mid, place_mid) (shown_cell s _ r n _ _ (λ l. grind arith))

  within_more : (bs : List Bool) → within s next bs ≡ within s k (b ∷ bs)
  within_more bs = rw place_mid (same _ _ (grind arith) (grind arith) (grind arith) refl)

-- the last bit completes the byte
module _ (s : Sheet) (k : Registers) (x : ℕ) (e : k.count % 8 ≡ 0) (f : k.count ≤ 40) (h : x < 256) where
  byte : (p : ℕ) → pushes 256 p (bits_of 8 x) ≡ x
  byte p = pushed_byte 256 p x h ∙ omega arith

  within_last : taken s (within s k (take 7 (bits_of 8 x))) (bit_at 0 x) ≡ taken_byte s k x
  within_last =
      same _ _ (grind arith) (code k.count k.code _ _ (push 256 (bit_at 0 x)) e (byte k.code))
      (place k.count k.place _ _ _ _ (push (cells s) (bit_at 0 x)) (next_place s) e
      (pushed_byte (cells s) k.place x h) (turn (command_of s) k.count k.code _ e))
      (byte k.shift)
    where
      code : (n c d y : ℕ) (f : ℕ → ℕ) → n % 8 ≡ 0 → f d ≡ y →
          let c' : ℕ = cond (ltb n 8) d c in
          cond (ltb (n + 7) 8) (f c') c' ≡ cond (ltb n 8) y c
      code n c d y f e z = grind arith

      turn : (f : ℕ → Option Command) (n c d : ℕ) → n % 8 ≡ 0 → 24 ≤ n →
          turns (first_data (cond (ltb (n + 7) 8) None (f (cond (ltb n 8) d c)))) (n + 7)
          ≡ leb (first_data (cond (ltb n 8) None (f c))) n
      turn f n c d e l = grind arith

      place : (n p q y : ℕ) (t t' : Bool) (f g : ℕ → ℕ) → n % 8 ≡ 0 → f q ≡ y → (24 ≤ n → t' ≡ t) →
          let p' : ℕ = cond (ltb n 8) p (cond (ltb n 24) q p) in
          cond (ltb (n + 7) 8) p' (cond (ltb (n + 7) 24) (f p') (cond t' (g p') p'))
          ≡ cond (ltb n 8) p (cond (ltb n 24) y (cond t (g p) p))
      place n p q y t t' f g e z l = grind arith

-- ## Bit by bit

module _ (s : Sheet) (wp : Bool) (memory : List ℕ) (stored : ℕ) (latch : Bool) where
  -- a chip that is awake, and between two bits; and any chip behind a fall
  abbrev rec : Record
  rec = record { memory = memory; stored = stored; latch = latch; asleep = false }

  abbrev at : Registers → Level → Moment Registers
  at k l = record { rec = rec; kept = k; so = l }

  abbrev after : Record → Registers → Moment Registers
  after r k = record { rec = r; kept = k; so = falling bounded s r k }

  -- a bit within a byte changes the registers, and all but the last do no more
  bit_mid : (k : Registers) (l : Level) (b : Bool) → k.count % 8 < 7 → k.count < 48 →
      after_bit bounded s wp (at k l) b ≡ after rec (taken s k b)
  bit_mid k l b h g =
      let p : (taken s k b).count % 8 ≡ 0 → ⊥ = λ e. omega (arith, count_mid s k b h g) in
      ap (λ (r : Record). after r (taken s k b)) (effect_mid s _ wp rec _ _ _ p)

  bits_mid : (k : Registers) (l : Level) (bs : List Bool) (b : Bool) → k.count % 8 + length bs ≡ 7 → k.count < 48 →
      after_bits bounded s wp (at k l) (bs ++ b ∷ []) ≡ after_bit bounded s wp (at (within s k bs) HighZ) b
  bits_mid k l [] b h g = ap (λ (k : Registers). after_bit bounded s wp (at k HighZ) b) (within_none s k)
  bits_mid k l (c ∷ bs) b h g =
      let p = count_mid s k c (omega arith) g in
      ap (λ m. after_bits bounded s wp m (bs ++ b ∷ [])) (bit_mid k l c (omega arith) g)
      ∙ bits_mid (taken s k c) _ bs b (omega arith) (omega arith)
      ∙ ap (λ (k : Registers). after_bit bounded s wp (at k HighZ) b) (within_more s k c (omega arith) g bs)

  -- y is the byte that is shown behind n bits, if one is driven
  abbrev Shows : ℕ → Bool → ℕ → Registers → Type 0
  Shows n d y k =
      (m : ℕ) → n ≤ m → m < n + 8 →
      shown s (command_at s k.count k.code) rec m k.place ≡ driven_if d (bit_at (n + 7 - m) y)

  -- the levels of the low bits of a byte
  abbrev levels : Bool → ℕ → ℕ → List Level
  levels d i y = cond d (map driven (bits_of i y)) (replicate i HighZ)

  one_level : (d : Bool) (i y : ℕ) → driven_if d (bit_at i y) ∷ levels d i y ≡ levels d (suc i) y
  one_level true i y = refl
  one_level false i y = refl

  no_level : (d : Bool) (y : ℕ) → [] ≡ levels d 0 y
  no_level true y = refl
  no_level false y = refl

  reads_mid : (n : ℕ) (d : Bool) (y : ℕ) (k : Registers) (l : Level) (b : Bool) (bs : List Bool) →
      n % 8 ≡ 0 → n ≤ 40 → n ≤ k.count → k.count + length bs ≡ n + 7 → Shows n d y k →
      reads bounded s wp (after_bit bounded s wp (at k l) b) bs ≡ levels d (length bs) y
  reads_mid n d y k l b [] e f g h q = no_level d y
  reads_mid n d y k l b (c ∷ bs) e f g h q =
      let u : k.count % 8 < 7 = omega arith in
      let k' : Registers = taken s k b in
      let p = count_mid s k b u (omega arith) in
      let q' : Shows n d y k' = λ m v w. shown_mid s k b u (omega arith) rec m (omega arith) ∙ q m v w in
      ap (λ m. reads bounded s wp m (c ∷ bs)) (bit_mid k l b u (omega arith))
      ∙ ap₂ ◌∷◌ (q' k'.count (omega arith) (omega arith) ∙ ap (λ i. driven_if d (bit_at i y)) (omega arith))
      (reads_mid n d y k' (fall_kept s rec k') c bs e f (omega arith) (omega arith) q')
      ∙ one_level d (length bs) y

  -- the byte is taken by its last bit
  taken_awake : (k : Registers) (l : Level) (x : ℕ) → k.count % 8 ≡ 0 → k.count ≤ 40 → x < 256 →
      after_bits bounded s wp (at k l) (bits_of 8 x) ≡ step_byte s wp (at k l) x
  taken_awake k l x e f h =
      let bs : List Bool = take 7 (bits_of 8 x) in
      let place : ℕ = (within s k bs).place in
      let next : Registers = taken_byte s k x in
      let c : Option Command = command_at s next.count next.code in
      let r : Record = record_after s wp rec k x in
      bits_mid k l bs (bit_at 0 x) (omega arith) (omega arith)
      ∙ ap (λ (t : Registers). after (effect s (command_at s t.count t.code) wp rec t.count place t.shift) t)
      (within_last s k x e f h)
      ∙ ap (λ (r : Record). after r next) (effect_cell s c wp rec next.count place k.place x (within_place s k bs))
      ∙ ap (λ (t : Bool). record { rec = r; kept = next; so = cond t HighZ (fall_kept s r next) })
      (effect_asleep s c wp rec next.count k.place x)

  -- and one is read
  module _ (k : Registers) (l : Level) (e : k.count % 8 ≡ 0) (f : k.count ≤ 40) where
    abbrev c : Option Command
    c = command_at s k.count k.code

    abbrev y : ℕ
    y = shown_byte s c rec k.count k.place

    levels_awake : (x : ℕ) → reads bounded s wp (at k l) (bits_of 8 x) ≡ levels_read s (at k l)
    levels_awake x =
        let q : Shows k.count (drives_byte c k.count) y k = λ m g h. shown_level k.count m e g h s k.code rec k.place in
        ap (λ ls. l ∷ ls) (reads_mid k.count (drives_byte c k.count) y k l (bit_at 7 x) (bits_of 7 x) e f (omega arith) (omega arith) q)

    read_awake : read_off (levels_read s (at k l)) ≡ read_byte s (at k l)
    read_awake = go (drives_byte c k.count) y (undriven_ones s c rec k.count k.place)
      where
        go : (d : Bool) (z : ℕ) → (d ≡ false → z ≡ 255) → read_off (l ∷ levels d 7 z) ≡ 128 * bit (read_as l) + z % 128
        go true z p = ap (λ bs. number (read_as l ∷ bs)) (read_as_bits (bits_of 7 z)) ∙ ap (λ n. bit (read_as l) * 128 + n) (number_bits_of 7 z) ∙ omega arith
        go false z p = let ones = p refl in omega arith

-- asleep nothing is taken, and ones are read behind the first bit
pub byte_at_once : ByteAtOnce
byte_at_once s wp m x w h = go m.rec.asleep
  where
    e : m.kept.count % 8 ≡ 0
    e = grind arith

    f : m.kept.count ≤ 40
    f = grind arith

    go : (a : Bool) →
        let r : Record = record { memory = m.rec.memory; stored = m.rec.stored; latch = m.rec.latch; asleep = a } in
        let o : Moment Registers = record { rec = r; kept = m.kept; so = m.so } in
        (after_bits bounded s wp o (bits_of 8 x) ≡ step_byte s wp o x)
        × (reads bounded s wp o (bits_of 8 x) ≡ levels_read s o)
        × (read_off (levels_read s o) ≡ read_byte s o)
    go true = (refl, refl, omega arith)
    go false = (
      taken_awake s wp m.rec.memory m.rec.stored m.rec.latch m.kept m.so x e f h,
      levels_awake s wp m.rec.memory m.rec.stored m.rec.latch m.kept m.so e f x,
      read_awake s wp m.rec.memory m.rec.stored m.rec.latch m.kept m.so e f,
    )
