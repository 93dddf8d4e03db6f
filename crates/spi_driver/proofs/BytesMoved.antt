-- What bytes do to a bus over a fitted chip that is awake, in a session of whole bytes.
use Rattle.std.proofs.Common.{◌≡◌, ℕ, ◌+◌, ◌-◌, ◌*◌, ◌%◌, ◌<◌, Bool, true, false, cond, List, slice_index, slice_set, refl, ap, ◌∙◌, ap₂, Some, Option, arith}
use Rattle.datasheet.specs.declared.registers.Registers.{Registers}
use Rattle.datasheet.specs.declared.sheet.Sheet.{Sheet}
use Rattle.datasheet.specs.declared.command.Command.{Command}
use Rattle.datasheet.specs.declared.level.Level.TheVariants.{HighZ}
use Rattle.datasheet.specs.Bits.{bit, bit_at}
use Rattle.datasheet.specs.Levels.{read_as}
use Rattle.datasheet.specs.Records.{Record}
use Rattle.datasheet.specs.Protection.{may_write}
use Rattle.datasheet.specs.Commands.{command_at}
use Rattle.datasheet.specs.Places.{next_place}
use Rattle.datasheet.specs.Kept.{bounded, fall_kept}
use Rattle.spi_model.specs.Moments.{Moment}
use Rattle.spi_model.specs.Reads.{read_off}
use Rattle.spi_model.specs.SteppedBytes.{whole_bytes, taken_byte, record_after, shown_byte, read_byte}
use Rattle.spi_model.specs.Buses.{Bus, moment_in, exchanged, read}
use Rattle.spi_model.proofs.SteppedBytes.{byte_at_once, shown_bit}

-- a bus over a fitted chip with this kept of its session
abbrev pub within : Sheet → Bool → Record → Registers → Bus Registers
within s wp r k = record { sheet = s; wp = wp; fitted = true; rec = r; session = Some k }

-- the whole byte that is shown
abbrev pub showing : Sheet → Record → Registers → ℕ
showing s r k = shown_byte s (command_at s k.count k.code) r k.count k.place

shown_small : (s : Sheet) (c : Option Command) (r : Record) (n a : ℕ) → shown_byte s c r n a < 256
shown_small s c r n a = grind arith

top_bit : (y : ℕ) → y < 256 → 128 * bit (bit_at 7 y) + y % 128 ≡ y
top_bit y h = grind arith

-- ## One byte

module _ (s : Sheet) (wp : Bool) (r : Record) (k : Registers) (x : ℕ) (whole : whole_bytes k ≡ true) (small : x < 256) where
  abbrev now : Moment Registers
  now = moment_in bounded (within s wp r k) k

  abbrev next : Bool → Moment Registers
  next a =
      cond a (record { rec = r; kept = k; so = HighZ })
      (record {
        rec = record_after s wp r k x;
        kept = taken_byte s k x;
        so = fall_kept s (record_after s wp r k x) (taken_byte s k x);
      })

  pub exchanged_is : r.asleep ≡ false → exchanged bounded (within s wp r k) x ≡ within s wp (record_after s wp r k x) (taken_byte s k x)
  exchanged_is a =
      ap (λ (m : Moment Registers). within s wp m.rec m.kept) ((byte_at_once s wp now x whole small).0 ∙ ap next a)

  count_whole : k.count % 8 ≡ 0
  count_whole = grind arith

  read_shown : r.asleep ≡ false → read_byte s now ≡ showing s r k
  read_shown a =
      let n = k.count in
      let seven : n + 7 - n ≡ 7 = omega arith in
      let so : read_as now.so ≡ bit_at 7 (showing s r k) =
      ap (λ (t : Bool). read_as (cond t HighZ (fall_kept s r k))) a
      ∙ shown_bit n n count_whole (omega arith) (omega arith) s k.code r k.place
      ∙ ap (λ (i : ℕ). bit_at i (showing s r k)) seven in
      ap₂ (λ (t u : Bool). 128 * bit t + cond u 127 (showing s r k % 128)) so a
      ∙ top_bit (showing s r k) (shown_small s (command_at s n k.code) r n k.place)

  pub read_is : r.asleep ≡ false → read bounded (within s wp r k) x ≡ showing s r k
  read_is a =
      let did = byte_at_once s wp now x whole small in
      ap read_off did.1 ∙ did.2 ∙ read_shown a

-- ## Sessions of a chip that is awake

abbrev pub awake : List ℕ → ℕ → Bool → Record
awake memory stored w = record { memory = memory; stored = stored; latch = w; asleep = false }

-- how far the bit counter has come: to the first, the second, or a later data byte
pub data Phase : Type 0 where
  first : Phase
  second : Phase
  later : Phase

abbrev pub bits_in : Phase → ℕ
bits_in first = 24
bits_in second = 32
bits_in later = 40

abbrev pub onward : Phase → Phase
onward first = second
onward second = later
onward later = later

-- in a session with this op-code, come to cell a
abbrev pub kept_at : Phase → ℕ → ℕ → ℕ → Registers
kept_at p code a x = record { count = bits_in p; code = code; place = a; shift = x }

module _ (s : Sheet) (wp : Bool) where
  pub whole_at : (p : Phase) (code a x : ℕ) → whole_bytes (kept_at p code a x) ≡ true
  whole_at first code a x = refl
  whole_at second code a x = refl
  whole_at later code a x = refl

  -- READ goes on
  module _ (memory : List ℕ) (stored : ℕ) (w : Bool) where
    abbrev pub reading : Phase → ℕ → ℕ → Bus Registers
    reading p a y = within s wp (awake memory stored w) (kept_at p 3 a y)

    pub reads_on : (p : Phase) (a y x : ℕ) → x < 256 → exchanged bounded (reading p a y) x ≡ reading (onward p) (next_place s a) x
    reads_on first a y x h = exchanged_is s wp (awake memory stored w) (kept_at first 3 a y) x refl h refl
    reads_on second a y x h = exchanged_is s wp (awake memory stored w) (kept_at second 3 a y) x refl h refl
    reads_on later a y x h = exchanged_is s wp (awake memory stored w) (kept_at later 3 a y) x refl h refl

    pub reads_cell : (p : Phase) (a y x : ℕ) → x < 256 → read bounded (reading p a y) x ≡ slice_index memory a % 256
    reads_cell first a y x h = read_is s wp (awake memory stored w) (kept_at first 3 a y) x refl h refl
    reads_cell second a y x h = read_is s wp (awake memory stored w) (kept_at second 3 a y) x refl h refl
    reads_cell later a y x h = read_is s wp (awake memory stored w) (kept_at later 3 a y) x refl h refl

  -- WRITE goes on, in cells that may be written
  abbrev pub writing : List ℕ → ℕ → Phase → ℕ → ℕ → Bus Registers
  writing memory stored p a y = within s wp (awake memory stored true) (kept_at p 2 a y)

  module _ (memory : List ℕ) (stored : ℕ) where
    pub writes_on : (p : Phase) (a y x : ℕ) → x < 256 → may_write s (awake memory stored true) a ≡ true →
        exchanged bounded (writing memory stored p a y) x ≡ writing (slice_set memory a x) stored (onward p) (next_place s a) x
    writes_on p a y x h may = go p
      where
        to : Phase → Bool → Bus Registers
        to q t =
            within s wp (cond t (awake (slice_set memory a x) stored true) (awake memory stored true)) (kept_at q 2 (next_place s a) x)

        go : (q : Phase) → exchanged bounded (writing memory stored q a y) x ≡ writing (slice_set memory a x) stored (onward q) (next_place s a) x
        go first = exchanged_is s wp (awake memory stored true) (kept_at first 2 a y) x refl h refl ∙ ap (to second) may
        go second = exchanged_is s wp (awake memory stored true) (kept_at second 2 a y) x refl h refl ∙ ap (to later) may
        go later = exchanged_is s wp (awake memory stored true) (kept_at later 2 a y) x refl h refl ∙ ap (to later) may
