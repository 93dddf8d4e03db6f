-- Whole sessions of a bus, for a driver: what their bytes read, and how they leave the bus.
use Rattle.std.proofs.Common.{◌≡◌, ℕ, suc, ◌+◌, ◌*◌, ◌/◌, ◌%◌, ◌^◌, ◌<◌, ◌≤◌, Bool, true, false, not, ◌&&◌, cond, leb, List, [], ◌∷◌, ◌++◌, length, slice_index, slice_set, take, drop, replicate, Some, None, Option, sym, refl, ap, ◌∙◌, ap₂, subst, mod-eq_of_lt, arith, drop-cons, append_assoc, add-zero, take-append-drop, take-suc-set, drop-set-lt, length-set}
use Rattle.std.proofs.Math.Nat.{mod-add-mod}
use Rattle.std.proofs.lemmas.Nat.{mul-mod_second}
use Rattle.datasheet.specs.declared.registers.Registers.{Registers}
use Rattle.datasheet.specs.declared.sheet.Sheet.{Sheet}
use Rattle.datasheet.specs.declared.command.Command.{Command}
use Rattle.datasheet.specs.Bits.{bit}
use Rattle.datasheet.specs.Sheets.{cells, identity}
use Rattle.datasheet.specs.Records.{Record, waking}
use Rattle.datasheet.specs.Protection.{first_protected, may_write}
use Rattle.datasheet.specs.Commands.{command_at}
use Rattle.datasheet.specs.Rises.{effect}
use Rattle.datasheet.specs.Ends.{ended}
use Rattle.datasheet.specs.Chips.{closed}
use Rattle.datasheet.specs.Kept.{bounded}
use Rattle.spi_model.specs.SteppedBytes.{whole_bytes, taken_byte, record_after}
use Rattle.spi_model.specs.Buses.{Bus, selected, exchanged, read, deselected}
use Rattle.spi_driver.proofs.BytesMoved.{within, showing, exchanged_is, read_is, awake, Phase, onward, reading, writing, reads_on, reads_cell, writes_on}
use Rattle.board_model.specs.Layers.{patched}
use Rattle.spi_driver.specs.Exchanges.{all_exchanged, all_read}
use Rattle.spi_driver.specs.Drives.{calmed, calm}

-- a fitted chip awake, no session open
abbrev pub rested : Sheet → Bool → List ℕ → ℕ → Bool → Bus Registers
rested s wp memory stored w = record { sheet = s; wp = wp; fitted = true; rec = awake memory stored w; session = None }

-- after a select and these bytes
abbrev pub sent : Bus Registers → List ℕ → Bus Registers
sent b xs = all_exchanged bounded (selected bounded b) xs

-- ## Bytes

-- no rise changes the sleep mark, and a byte more leaves whole bytes
effect_asleep : (s : Sheet) (c : Option Command) (wp : Bool) (r : Record) (n a x : ℕ) → (effect s c wp r n a x).asleep ≡ r.asleep
effect_asleep s c wp r n a x = grind arith

taken_whole : (s : Sheet) (k : Registers) (x : ℕ) → whole_bytes k ≡ true → whole_bytes (taken_byte s k x) ≡ true
taken_whole s k x h = grind arith

-- all of these are bytes
abbrev Small : List ℕ → Type 0
Small [] = Unit {0}
Small (x ∷ xs) = (x < 256) × Small xs

small_of : (xs : List ℕ) → ((i : ℕ) → slice_index xs i < 256) → Small xs
small_of [] h = tt
small_of (x ∷ xs) h = (h 0, small_of xs (λ (i : ℕ). h (suc i)))

-- what bytes read and leave in a session of an awake chip, one by one
module _ (s : Sheet) (wp : Bool) where
  abbrev kept_after : Registers → List ℕ → Registers
  kept_after k [] = k
  kept_after k (x ∷ xs) = kept_after (taken_byte s k x) xs

  abbrev recorded : Record → Registers → List ℕ → Record
  recorded r k [] = r
  recorded r k (x ∷ xs) = recorded (record_after s wp r k x) (taken_byte s k x) xs

  abbrev shown_with : Record → Registers → List ℕ → List ℕ
  shown_with r k [] = []
  shown_with r k (x ∷ xs) = showing s r k ∷ shown_with (record_after s wp r k x) (taken_byte s k x) xs

  bytes_taken : (xs : List ℕ) → Small xs → (r : Record) (k : Registers) → r.asleep ≡ false → whole_bytes k ≡ true →
      (all_exchanged bounded (within s wp r k) xs ≡ within s wp (recorded r k xs) (kept_after k xs))
      × (all_read bounded (within s wp r k) xs ≡ shown_with r k xs)
  bytes_taken [] h r k a w = (refl, refl)
  bytes_taken (x ∷ xs) h r k a w =
      let e = exchanged_is s wp r k x w h.0 a in
      let next = taken_byte s k x in
      let t = bytes_taken xs h.1 (record_after s wp r k x) next (effect_asleep s (command_at s next.count next.code) wp r next.count k.place x ∙ a) (taken_whole s k x w) in (
        ap (λ (b : Bus Registers). all_exchanged bounded b xs) e ∙ t.0,
        ap₂ (λ (y : ℕ) (ys : List ℕ). y ∷ ys) (read_is s wp r k x w h.0 a) (ap (λ (b : Bus Registers). all_read bounded b xs) e ∙ t.1),
      )

-- ## Commands of one byte

module _ (s : Sheet) (wp : Bool) (memory : List ℕ) (stored : ℕ) where
  pub enabled : (w : Bool) → deselected bounded (sent (rested s wp memory stored w) (0x06 ∷ [])) ≡ rested s wp memory stored true
  enabled w = ap (deselected bounded) (exchanged_is s wp (awake memory stored w) bounded.begin 0x06 refl (omega arith) refl)

  pub disabled : (w : Bool) → deselected bounded (sent (rested s wp memory stored w) (0x04 ∷ [])) ≡ rested s wp memory stored false
  disabled w = ap (deselected bounded) (exchanged_is s wp (awake memory stored w) bounded.begin 0x04 refl (omega arith) refl)

-- ## A bus brought to rest

-- the end of a session changes neither memory nor stored bits
abbrev calmly : Record → Record
calmly r = calmed r r.memory

ended_kept : (s : Sheet) (c : Option Command) (r : Record) (n : ℕ) → calmly (ended s c r n) ≡ calmly r
ended_kept s c r n = grind arith

closed_kept : (s : Sheet) (r : Record) (k : Registers) → calmly (closed bounded s r k) ≡ calmly r
closed_kept s r k = go r.asleep
  where
    go : (a : Bool) → calmly (cond a (waking r) (ended s (command_at s k.count k.code) r k.count)) ≡ calmly r
    go true = refl
    go false = ended_kept s (command_at s k.count k.code) r k.count

module _ (s : Sheet) (wp : Bool) where
  abbrev bus : Bool → Record → Option Registers → Bus Registers
  bus f r o = record { sheet = s; wp = wp; fitted = f; rec = r; session = o }

  -- an empty session, which wakes the chip, and one of WRDI
  abbrev woken : Bus Registers → Bus Registers
  woken b = deselected bounded (exchanged bounded (selected bounded (deselected bounded (selected bounded b))) 0x04)

  from_none : (memory : List ℕ) (stored : ℕ) (w a : Bool) →
      woken (bus true (record { memory = memory; stored = stored; latch = w; asleep = a }) None) ≡ rested s wp memory stored false
  from_none memory stored w true = disabled s wp memory stored w
  from_none memory stored w false = disabled s wp memory stored w

  brought : (f : Bool) (r : Record) (o : Option Registers) → woken (deselected bounded (bus f r o)) ≡ calm (bus f r o)
  brought true r None = from_none r.memory r.stored r.latch r.asleep
  brought true r (Some k) =
      let q = closed bounded s r k in
      from_none q.memory q.stored q.latch q.asleep ∙ ap (λ (x : Record). bus true x None) (closed_kept s r k)
  brought false r None = refl
  brought false r (Some k) = refl

-- ends any session, wakes the chip, clears the latch
pub settles : (b : Bus Registers) →
    deselected bounded (exchanged bounded (selected bounded (deselected bounded (selected bounded (deselected bounded b)))) 0x04) ≡ calm b
settles b = brought b.sheet b.wp b.fitted b.rec b.session

-- what a calm bus over a fitted chip is
pub calm_rested : (b : Bus Registers) → b.fitted ≡ true → calm b ≡ rested b.sheet b.wp b.rec.memory b.rec.stored false
calm_rested b e = go b.fitted e
  where
    go : (f : Bool) → f ≡ true →
        bus b.sheet b.wp f (cond f (calmly b.rec) b.rec) None ≡ rested b.sheet b.wp b.rec.memory b.rec.stored false
    go true e = refl
    go false e = absurd (cc)

-- ## A blank chip

module _ (s : Sheet) (wp : Bool) (r : Record) where
  blank_on : (k : Registers) (xs : List ℕ) →
      (all_exchanged bounded (bus s wp false r (Some k)) xs ≡ bus s wp false r (Some k))
      × (all_read bounded (bus s wp false r (Some k)) xs ≡ replicate (length xs) 0xFF)
  blank_on k [] = (refl, refl)
  blank_on k (x ∷ xs) =
      let t = blank_on k xs in (t.0, ap (λ (ys : List ℕ). 0xFF ∷ ys) t.1)

  blank_any : (f : Bool) (o : Option Registers) (xs : List ℕ) → f ≡ false →
      (all_read bounded (selected bounded (bus s wp f r o)) xs ≡ replicate (length xs) 0xFF)
      × (deselected bounded (sent (bus s wp f r o) xs) ≡ calm (bus s wp f r o))
  blank_any true o xs e = absurd (cc)
  blank_any false None xs e = let t = blank_on bounded.begin xs in (t.1, ap (deselected bounded) t.0)
  blank_any false (Some k) xs e = let t = blank_on k xs in (t.1, ap (deselected bounded) t.0)

pub blank_read : (b : Bus Registers) (xs : List ℕ) → b.fitted ≡ false → all_read bounded (selected bounded b) xs ≡ replicate (length xs) 0xFF
blank_read b xs e = (blank_any b.sheet b.wp b.rec b.fitted b.session xs e).0

pub blank_left : (b : Bus Registers) (xs : List ℕ) → b.fitted ≡ false → deselected bounded (sent b xs) ≡ calm b
blank_left b xs e = (blank_any b.sheet b.wp b.rec b.fitted b.session xs e).1

-- ## The ID and the status

abbrev id_bytes : List ℕ
id_bytes = 0x9F ∷ 0 ∷ 0 ∷ 0 ∷ 0 ∷ []

id_small : Small id_bytes
id_small = (omega arith, (omega arith, (omega arith, (omega arith, (omega arith, tt)))))

status_small : Small (0x05 ∷ 0 ∷ [])
status_small = (omega arith, (omega arith, tt))

id_first : (s : Sheet) → identity s / 2 ^ 24 % 256 ≡ 0x04
id_first s = omega (arith, s.bytes)

id_second : (s : Sheet) → identity s / 2 ^ 16 % 256 ≡ 0x7F
id_second s = omega (arith, s.bytes)

id_third : (s : Sheet) → identity s / 2 ^ 8 % 256 ≡ s.t
id_third s = omega (arith, s.bytes)

id_fourth : (s : Sheet) → identity s / 2 ^ 0 % 256 ≡ s.f
id_fourth s = omega (arith, s.bytes)

module _ (s : Sheet) (wp : Bool) (memory : List ℕ) (stored : ℕ) where
  pub identified : all_read bounded (selected bounded (rested s wp memory stored false)) (0x9F ∷ 0 ∷ 0 ∷ 0 ∷ 0 ∷ []) ≡ 0xFF ∷ 0x04 ∷ 0x7F ∷ s.t ∷ s.f ∷ []
  identified =
      (bytes_taken s wp id_bytes id_small (awake memory stored false) bounded.begin refl refl).1
      ∙ ap₂ (λ (a b : ℕ). 0xFF ∷ a ∷ b ∷ identity s / 2 ^ 8 % 256 ∷ identity s / 2 ^ 0 % 256 ∷ []) (id_first s) (id_second s)
      ∙ ap₂ (λ (a b : ℕ). 0xFF ∷ 0x04 ∷ 0x7F ∷ a ∷ b ∷ []) (id_third s) (id_fourth s)

  pub identified_left : deselected bounded (sent (rested s wp memory stored false) (0x9F ∷ 0 ∷ 0 ∷ 0 ∷ 0 ∷ [])) ≡ rested s wp memory stored false
  identified_left =
      ap (deselected bounded) (bytes_taken s wp id_bytes id_small (awake memory stored false) bounded.begin refl refl).0

  pub status_read : all_read bounded (selected bounded (rested s wp memory stored false)) (0x05 ∷ 0 ∷ []) ≡ 0xFF ∷ stored % 256 ∷ []
  status_read =
      (bytes_taken s wp (0x05 ∷ 0 ∷ []) status_small (awake memory stored false) bounded.begin refl refl).1
      ∙ (let e : stored + 2 * bit false ≡ stored = omega arith in ap (λ (a : ℕ). 0xFF ∷ a % 256 ∷ []) e)

  pub status_left : deselected bounded (sent (rested s wp memory stored false) (0x05 ∷ 0 ∷ [])) ≡ rested s wp memory stored false
  status_left =
      ap (deselected bounded) (bytes_taken s wp (0x05 ∷ 0 ∷ []) status_small (awake memory stored false) bounded.begin refl refl).0

-- ## Cells read

-- the address counter, after two bytes were shifted in, and one cell on
address : (n hi lo : ℕ) → (256 * ((256 * 0 + hi) % n) + lo) % n ≡ (256 * hi + lo) % n
address n hi lo =
    let z : 256 * 0 + hi ≡ hi = omega arith in
    ap (λ (h : ℕ). (256 * (h % n) + lo) % n) z
    ∙ sym (mod-add-mod (256 * (hi % n)) n lo)
    ∙ ap (λ (h : ℕ). (h + lo) % n) (mul-mod_second 256 hi n)
    ∙ mod-add-mod (256 * hi) n lo

one_on : (n a : ℕ) → (a % n + 1) % n ≡ suc a % n
one_on n a = mod-add-mod a n 1 ∙ ap (λ (b : ℕ). b % n) (omega arith)

module _ (s : Sheet) (wp : Bool) (memory : List ℕ) (stored : ℕ) where
  -- in a READ session that has come to cell a
  abbrev at : Phase → ℕ → ℕ → Bus Registers
  at p a y = reading s wp memory stored false p (a % cells s) y

  read_end : (p : Phase) (a y : ℕ) → deselected bounded (at p a y) ≡ rested s wp memory stored false
  read_end Phase.first a y = refl
  read_end Phase.second a y = refl
  read_end Phase.later a y = refl

  read_begun : (hi lo : ℕ) → hi < 256 → lo < 256 →
      sent (rested s wp memory stored false) (0x03 ∷ hi ∷ lo ∷ []) ≡ at Phase.first (256 * hi + lo) lo
  read_begun hi lo h l =
      (bytes_taken s wp (0x03 ∷ hi ∷ lo ∷ []) (omega arith, (h, (l, tt))) (awake memory stored false) bounded.begin refl refl).0
      ∙ ap (λ (a : ℕ). reading s wp memory stored false Phase.first a lo) (address (cells s) hi lo)

  module _ (size : length memory ≡ cells s) (bytes : (i : ℕ) → slice_index memory i < 256) where
    read_one : (p : Phase) (a y x : ℕ) → x < 256 → a < cells s → read bounded (at p a y) x ≡ slice_index memory a
    read_one p a y x h l =
        reads_cell s wp memory stored false p (a % cells s) y x h ∙ mod-eq_of_lt (bytes (a % cells s)) ∙ ap (slice_index memory) (mod-eq_of_lt l)

    -- the cells from a on are read, and the chip is left as it was
    abbrev Reads : ℕ → Bus Registers → List ℕ → Type 0
    Reads a b xs =
        (all_read bounded b xs ≡ take (length xs) (drop a memory))
        × (deselected bounded (all_exchanged bounded b xs) ≡ rested s wp memory stored false)

    reads_all : (xs : List ℕ) → Small xs → (p : Phase) (a y : ℕ) → a + length xs ≤ cells s → Reads a (at p a y) xs
    reads_all [] h p a y l = (refl, read_end p a y)
    reads_all (x ∷ xs) h p a y l =
        let g : a + suc (length xs) ≤ cells s = l in
        let lt : a < length memory = omega arith in
        let go : exchanged bounded (at p a y) x ≡ at (onward p) (suc a) x =
        reads_on s wp memory stored false p (a % cells s) y x h.0
        ∙ ap (λ (k : ℕ). reading s wp memory stored false (onward p) k x) (one_on (cells s) a) in
        let rest = reads_all xs h.1 (onward p) (suc a) x (omega arith) in (
          ap₂ (λ (v : ℕ) (vs : List ℕ). v ∷ vs) (read_one p a y x h.0 (omega arith))
              (ap (λ (b : Bus Registers). all_read bounded b xs) go ∙ rest.0)
              ∙ sym (ap (take (suc (length xs))) (drop-cons memory a 0 lt)),
          ap (λ (b : Bus Registers). deselected bounded (all_exchanged bounded b xs)) go ∙ rest.1,
        )

    cells_both : (hi lo : ℕ) (xs : List ℕ) → hi < 256 → lo < 256 → ((i : ℕ) → slice_index xs i < 256) → 256 * hi + lo + length xs ≤ cells s →
        Reads (256 * hi + lo) (sent (rested s wp memory stored false) (0x03 ∷ hi ∷ lo ∷ [])) xs
    cells_both hi lo xs h l k f =
        subst (λ (b : Bus Registers). Reads (256 * hi + lo) b xs) (sym (read_begun hi lo h l))
        (reads_all xs (small_of xs k) Phase.first (256 * hi + lo) lo f)

    pub cells_read : (hi lo : ℕ) (xs : List ℕ) → hi < 256 → lo < 256 → ((i : ℕ) → slice_index xs i < 256) → 256 * hi + lo + length xs ≤ cells s →
        all_read bounded (sent (rested s wp memory stored false) (0x03 ∷ hi ∷ lo ∷ [])) xs ≡ take (length xs) (drop (256 * hi + lo) memory)
    cells_read hi lo xs h l k f = (cells_both hi lo xs h l k f).0

    pub cells_left : (hi lo : ℕ) (xs : List ℕ) → hi < 256 → lo < 256 → ((i : ℕ) → slice_index xs i < 256) → 256 * hi + lo + length xs ≤ cells s →
        deselected bounded (all_exchanged bounded (sent (rested s wp memory stored false) (0x03 ∷ hi ∷ lo ∷ [])) xs) ≡ rested s wp memory stored false
    cells_left hi lo xs h l k f = (cells_both hi lo xs h l k f).1

-- ## Cells written

fence_within : (s : Sheet) (r : Record) → first_protected s r ≤ cells s
fence_within s r = grind arith

-- a cell before the fence may be written
may : (s : Sheet) (memory : List ℕ) (stored a : ℕ) → a < first_protected s (awake memory stored true) → may_write s (awake memory stored true) a ≡ true
may s memory stored a h = go (first_protected s (awake memory stored true)) h
  where
    go : (n : ℕ) → a < n → (true && not (leb n a)) ≡ true
    go n h = grind arith

-- a byte put into a cell, and the rest behind it
patched_first : (memory : List ℕ) (a x : ℕ) (xs : List ℕ) → a < length memory →
    patched (slice_set memory a x) (suc a) xs ≡ patched memory a (x ∷ xs)
patched_first memory a x xs h =
    let e : suc a + length xs ≡ a + suc (length xs) = omega arith in
    ap₂ (λ (front back : List ℕ). front ++ (xs ++ back)) (take-suc-set memory a x h) (drop-set-lt (suc a + length xs) memory a x (omega arith))
    ∙ append_assoc (take a memory) (x ∷ []) (xs ++ drop (suc a + length xs) memory)
    ∙ ap (λ (n : ℕ). take a memory ++ (x ∷ (xs ++ drop n memory))) e

patched_none : (memory : List ℕ) (a : ℕ) → patched memory a [] ≡ memory
patched_none memory a = ap (λ (n : ℕ). take a memory ++ drop n memory) (add-zero a) ∙ take-append-drop a memory

module _ (s : Sheet) (wp : Bool) (stored : ℕ) where
  abbrev end : List ℕ → Bool → Bus Registers
  end memory drop = bus s wp true (cond drop (awake memory stored false) (awake memory stored true)) None

  dropped : (memory : List ℕ) (drop : Bool) → end memory drop ≡ rested s wp memory stored (not drop)
  dropped memory true = refl
  dropped memory false = refl

  write_end : (memory : List ℕ) (p : Phase) (a y : ℕ) →
      deselected bounded (writing s wp memory stored p a y) ≡ rested s wp memory stored (not s.marks.drop)
  write_end memory Phase.first a y = dropped memory s.marks.drop
  write_end memory Phase.second a y = dropped memory s.marks.drop
  write_end memory Phase.later a y = dropped memory s.marks.drop

  -- of the record it asks for the stored bits alone
  abbrev fence : ℕ
  fence = first_protected s (awake [] stored true)

  -- in a WRITE session that has come to cell a
  abbrev come : List ℕ → Phase → ℕ → ℕ → Bus Registers
  come memory p a y = writing s wp memory stored p (a % cells s) y

  abbrev Writes : List ℕ → ℕ → Bus Registers → List ℕ → Type 0
  Writes memory a b xs =
      deselected bounded (all_exchanged bounded b xs) ≡ rested s wp (patched memory a xs) stored (not s.marks.drop)

  writes_all : (xs : List ℕ) → Small xs → (memory : List ℕ) → length memory ≡ cells s → (p : Phase) (a y : ℕ) → a + length xs ≤ fence →
      Writes memory a (come memory p a y) xs
  writes_all [] h memory size p a y l =
      write_end memory p (a % cells s) y ∙ ap (λ (m : List ℕ). rested s wp m stored (not s.marks.drop)) (sym (patched_none memory a))
  writes_all (x ∷ xs) h memory size p a y l =
      let g : a + suc (length xs) ≤ fence = l in
      let f = fence_within s (awake [] stored true) in
      let e : a % cells s ≡ a = mod-eq_of_lt (omega arith) in
      let one : come memory p a y ≡ writing s wp memory stored p a y = ap (λ (k : ℕ). writing s wp memory stored p k y) e in
      let go : exchanged bounded (come memory p a y) x ≡ come (slice_set memory a x) (onward p) (suc a) x =
      ap (λ (b : Bus Registers). exchanged bounded b x) one
      ∙ writes_on s wp memory stored p a y x h.0 (may s memory stored a (omega arith))
      ∙ ap (λ (k : ℕ). writing s wp (slice_set memory a x) stored (onward p) (k % cells s) x) (omega arith) in
      ap (λ (b : Bus Registers). deselected bounded (all_exchanged bounded b xs)) go
      ∙ writes_all xs h.1 (slice_set memory a x) (length-set memory a x ∙ size) (onward p) (suc a) x (omega arith)
      ∙ ap (λ (m : List ℕ). rested s wp m stored (not s.marks.drop)) (patched_first memory a x xs (omega arith))

  write_begun : (memory : List ℕ) (hi lo : ℕ) → hi < 256 → lo < 256 →
      sent (rested s wp memory stored true) (0x02 ∷ hi ∷ lo ∷ []) ≡ come memory Phase.first (256 * hi + lo) lo
  write_begun memory hi lo h l =
      (bytes_taken s wp (0x02 ∷ hi ∷ lo ∷ []) (omega arith, (h, (l, tt))) (awake memory stored true) bounded.begin refl refl).0
      ∙ ap (λ (a : ℕ). writing s wp memory stored Phase.first a lo) (address (cells s) hi lo)

module _ (s : Sheet) (wp : Bool) (memory : List ℕ) (stored : ℕ) (size : length memory ≡ cells s) where
  -- bytes put before the first protected cell; the latch falls where the sheet says so
  pub cells_written : (hi lo : ℕ) (xs : List ℕ) → hi < 256 → lo < 256 → ((i : ℕ) → slice_index xs i < 256) →
      256 * hi + lo + length xs ≤ first_protected s (awake memory stored true) →
      deselected bounded (all_exchanged bounded (sent (rested s wp memory stored true) (0x02 ∷ hi ∷ lo ∷ [])) xs)
      ≡ rested s wp (patched memory (256 * hi + lo) xs) stored (not s.marks.drop)
  cells_written hi lo xs h l k f =
      ap (λ (b : Bus Registers). deselected bounded (all_exchanged bounded b xs)) (write_begun s wp stored memory hi lo h l)
      ∙ writes_all s wp stored xs (small_of xs k) memory size Phase.first (256 * hi + lo) lo f
