-- The image of a driver: it is as long as the memory, its bytes are those of the memory, and bytes put into the memory are
-- bytes put into the image.
use Rattle.std.proofs.Common.{◌≡◌, ℕ, zero, suc, ◌+◌, ◌-◌, ◌≤◌, max, Bool, true, false, cond, ◌&&◌, ltb, leb, List, [], ◌∷◌, length, take, drop, Some, None, Option, Ok, Err, Result, sym, refl, ap, ◌∙◌, inl, inr, arith, leb-true}
use Rattle.std.specs.Prelude.{nat_lt, nat_le}
use Rattle.std.proofs.lemmas.List.{drop-map, take-map, length-take, length-drop}
use Rattle.std.proofs.lemmas.Bool.Decides.{nat_tests, leb_tells}
use Rattle.board_model.specs.declared.Cell.{Cell}
use Rattle.board_model.specs.Images.{Image, bytes_of, part, first_fenced, fence_in, overwritten, free, fenced}
use Rattle.board_model.specs.Results.{range_result, fence_result, read_result, read_into, unless_fenced, write_result, if_accepted, written}
use Rattle.board_model.proofs.Cells.{range_inside, refused_by}
use Rattle.board_model.specs.Layers.{patched}
use Rattle.board_model.proofs.Fenced.{fenced_from, cells_length, cells_bytes, cells_none, cells_patched}
use Rattle.datasheet.specs.declared.refusal.Refusal.{Refusal}
use Rattle.datasheet.specs.declared.refusal.Refusal.TheVariants.{OutOfRange, Fenced}
use Rattle.datasheet.specs.declared.sheet.Sheet.{Sheet}
use Rattle.datasheet.specs.Records.{Record}
use Rattle.datasheet.specs.Protection.{first_protected}
use Rattle.spi_model.specs.Buses.{Bus}
use Rattle.spi_driver.specs.Drives.{chip_image, image_of, calmed, calm, memory_by, after_write}

-- ## The cells of a memory, fenced from a place on

cells_take : (n k : ℕ) (xs : List ℕ) → take n (fenced_from k xs) ≡ fenced_from k (take n xs)
cells_take zero zero xs = refl
cells_take zero (suc k) xs = refl
cells_take (suc n) zero [] = refl
cells_take (suc n) zero (x ∷ xs) = ap (λ t. fenced x ∷ t) (cells_take n zero xs)
cells_take (suc n) (suc k) [] = refl
cells_take (suc n) (suc k) (x ∷ xs) = ap (λ t. free x ∷ t) (cells_take n k xs)

cells_drop : (n k : ℕ) (xs : List ℕ) → drop n (fenced_from k xs) ≡ fenced_from (k - n) (drop n xs)
cells_drop zero k xs = let e : k - 0 ≡ k = omega arith in rw e
cells_drop (suc n) zero [] = sym (cells_none (0 - suc n))
cells_drop (suc n) zero (x ∷ xs) = let e : 0 - suc n ≡ 0 - n = omega arith in rw e (cells_drop n zero xs)
cells_drop (suc n) (suc k) [] = sym (cells_none (suc k - suc n))
cells_drop (suc n) (suc k) (x ∷ xs) = let e : suc k - suc n ≡ k - n = omega arith in rw e (cells_drop n k xs)

-- the fence question
cells_fence : (at k : ℕ) (xs : List ℕ) → first_fenced at (fenced_from k xs) ≡ cond (ltb k (length xs)) (Some (at + k)) None
cells_fence at zero [] = refl
cells_fence at zero (x ∷ xs) = grind (arith, nat_tests)
cells_fence at (suc k) [] = grind (arith, nat_tests)
cells_fence at (suc k) (x ∷ xs) =
    let e : at + 1 + k ≡ at + suc k = omega arith in
    let f : ltb (suc k) (suc (length xs)) ≡ ltb k (length xs) = grind (arith, nat_tests) in
    rw f (rw e at (cells_fence (at + 1) k xs))

fence_place : (k start count : ℕ) →
    cond (ltb (k - start) count) (Some (start + (k - start))) None ≡ cond (nat_lt 0 count && nat_lt k (start + count)) (Some (max start k)) None
fence_place k start count = grind (arith, nat_tests)

cells_part_fence : (k start count : ℕ) (xs : List ℕ) → start + count ≤ length xs →
    fence_in (fenced_from k xs) start count ≡ cond (nat_lt 0 count && nat_lt k (start + count)) (Some (max start k)) None
cells_part_fence k start count xs h =
    let e : length (take count (drop start xs)) ≡ count = simp (length-take, length-drop) (omega arith) in
    rw (cells_drop start k xs, cells_take count (k - start) (drop start xs), cells_fence start (k - start) (take count (drop start xs)), e) (fence_place k start count)

-- ## The image of a chip

pub image_length : (s : Sheet) (r : Record) → length (chip_image s r) ≡ length r.memory
image_length s r = cells_length (first_protected s r) r.memory

pub part_bytes : (s : Sheet) (r : Record) (start count : ℕ) → bytes_of (part (chip_image s r) start count) ≡ take count (drop start r.memory)
part_bytes s r start count =
    sym (take-map (λ (c : Cell). c.byte) count (drop start (chip_image s r)))
    ∙ ap (take count) (sym (drop-map (λ (c : Cell). c.byte) start (chip_image s r)) ∙ ap (drop start) (cells_bytes (first_protected s r) r.memory))

pub part_fence : (s : Sheet) (r : Record) (start count : ℕ) → start + count ≤ length r.memory →
    fence_in (chip_image s r) start count
    ≡ cond (nat_lt 0 count && nat_lt (first_protected s r) (start + count)) (Some (max start (first_protected s r))) None
part_fence s r start count h = cells_part_fence (first_protected s r) start count r.memory h

pub image_patched : (s : Sheet) (r : Record) (start : ℕ) (bytes : List ℕ) → start + length bytes ≤ length r.memory →
    chip_image s (record { memory = patched r.memory start bytes; stored = r.stored; latch = r.latch; asleep = r.asleep })
    ≡ overwritten (chip_image s r) start bytes
image_patched s r start bytes h = cells_patched (first_protected s r) start r.memory bytes h

-- ## The image of a driver

-- by whether the chip is fitted
abbrev shown : Bool → Sheet → Record → Image
shown f s r = cond f (chip_image s r) []

calm_by : (f : Bool) (s : Sheet) (r : Record) → shown f s (cond f (calmed r r.memory) r) ≡ shown f s r
calm_by true s r = refl
calm_by false s r = refl

pub calm_image : {S : Type 0} (b : Bus S) → image_of (calm b) ≡ image_of b
calm_image b = calm_by b.fitted b.sheet b.rec

-- an accepted write lies inside
accepted_inside : {u : Unit {0}} (lies : Bool) (o : Option ℕ) →
    ◌≡◌ {A = Result (Unit {0}) Refusal} (Ok u) (cond lies (unless_fenced o) (Err OutOfRange)) → lies ≡ true
accepted_inside true o e = refl
accepted_inside false o e = absurd (cc)

accepted_fits : {u : Unit {0}} (i : Image) (start : ℕ) (bytes : List ℕ) → Ok u ≡ write_result i start bytes → start + length bytes ≤ length i
accepted_fits i start bytes e =
    leb-true (start + length bytes) (length i) (accepted_inside (leb (start + length bytes) (length i)) (fence_in i start (length bytes)) e)

-- a chip after a write that was answered so
write_chip : (s : Sheet) (r : Record) (start : ℕ) (bytes : List ℕ) (w : Result (Unit {0}) Refusal) → w ≡ write_result (chip_image s r) start bytes →
    chip_image s (record r { memory = memory_by w r.memory start bytes }) ≡ if_accepted w (overwritten (chip_image s r) start bytes) (chip_image s r)
write_chip s r start bytes (Ok u) e =
    let fits = accepted_fits (chip_image s r) start bytes e in
    let long = image_length s r in
    image_patched s r start bytes (omega arith)
write_chip s r start bytes (Err x) e = refl

write_none : (start : ℕ) (bytes : List ℕ) (w : Result (Unit {0}) Refusal) → [] ≡ if_accepted w (overwritten [] start bytes) []
write_none zero bytes (Ok u) = refl
write_none (suc start) bytes (Ok u) = refl
write_none start bytes (Err x) = refl

write_by : (f : Bool) (s : Sheet) (r : Record) (start : ℕ) (bytes : List ℕ) →
    shown f s (record r { memory = memory_by (write_result (shown f s r) start bytes) r.memory start bytes }) ≡ written (shown f s r) start bytes
write_by true s r start bytes = write_chip s r start bytes (write_result (chip_image s r) start bytes) refl
write_by false s r start bytes = write_none start bytes (write_result [] start bytes)

pub write_image : {S : Type 0} (b : Bus S) (start : ℕ) (bytes : List ℕ) → image_of (after_write b start bytes) ≡ written (image_of b) start bytes
write_image b start bytes = write_by b.fitted b.sheet b.rec start bytes

-- ## Its calls, for a driver of so many cells

pub fitted_size : {S : Type 0} (b : Bus S) → b.fitted ≡ true → length (image_of b) ≡ length b.rec.memory
fitted_size b e = rw e (image_length b.sheet b.rec)

pub blank_size : {S : Type 0} (b : Bus S) → b.fitted ≡ false → length (image_of b) ≡ 0
blank_size b e = rw e

-- the fence question in a range inside
fence_by : (f : Bool) (s : Sheet) (r : Record) (start count : ℕ) → start + count ≤ length (shown f s r) →
    fence_in (shown f s r) start count
    ≡ cond (nat_lt 0 count && nat_lt (first_protected s r) (start + count)) (Some (max start (first_protected s r))) None
fence_by true s r start count h = let long = image_length s r in part_fence s r start count (omega arith)
fence_by false s r start count h = let e : start ≡ 0 = omega arith in let f : count ≡ 0 = omega arith in rw (e, f)

-- the bytes of a range inside
bytes_by : (f : Bool) (s : Sheet) (r : Record) (start count : ℕ) → start + count ≤ length (shown f s r) →
    bytes_of (part (shown f s r) start count) ≡ take count (drop start r.memory)
bytes_by true s r start count h = part_bytes s r start count
bytes_by false s r start count h = let e : start ≡ 0 = omega arith in let f : count ≡ 0 = omega arith in rw (e, f)

pub fence_value : {S : Type 0} (b : Bus S) (size start count : ℕ) → length (image_of b) ≡ size →
    fence_result (image_of b) start count
    ≡ cond (nat_le (start + count) size)
    (Ok (cond (nat_lt 0 count && nat_lt (first_protected b.sheet b.rec) (start + count)) (Some (max start (first_protected b.sheet b.rec))) None)) (Err OutOfRange)
fence_value b size start count e =
    elim (leb_tells (start + count) size) [
      | inl p ↦ rw (e, p.0) (ap Ok (fence_by b.fitted b.sheet b.rec start count (omega (arith, p.1))))
      | inr p ↦ rw (e, p.0)
    ]

pub read_value : {S : Type 0} (b : Bus S) (size start n : ℕ) → length (image_of b) ≡ size → read_result (image_of b) start n ≡ range_result size start n
read_value b size start n e = rw e

unless_place : (t : Bool) (place : ℕ) → unless_fenced (cond t (Some place) None) ≡ cond t (Err Fenced) (Ok tt)
unless_place true place = refl
unless_place false place = refl

pub write_value : {S : Type 0} (b : Bus S) (size start : ℕ) (bytes : List ℕ) → length (image_of b) ≡ size →
    write_result (image_of b) start bytes
    ≡ cond (nat_le (start + length bytes) size)
    (cond (nat_lt 0 (length bytes) && nat_lt (first_protected b.sheet b.rec) (start + length bytes)) (Err Fenced) (Ok tt)) (Err OutOfRange)
write_value b size start bytes e =
    let first : ℕ = first_protected b.sheet b.rec in
    elim (leb_tells (start + length bytes) size) [
      | inl p ↦ rw (e, p.0) (ap unless_fenced (fence_by b.fitted b.sheet b.rec start (length bytes) (omega (arith, p.1)))
          ∙ unless_place (nat_lt 0 (length bytes) && nat_lt first (start + length bytes)) (max start first))
      | inr p ↦ rw (e, p.0)
    ]

-- a buffer after a read
pub read_image : {S : Type 0} (b : Bus S) (size start : ℕ) (buffer : List ℕ) → length (image_of b) ≡ size →
    read_into (image_of b) start buffer
    ≡ cond (nat_le (start + length buffer) size) (take (length buffer) (drop start b.rec.memory)) buffer
read_image b size start buffer e =
    elim (leb_tells (start + length buffer) size) [
      | inl p ↦ rw (e, p.0) (bytes_by b.fitted b.sheet b.rec start (length buffer) (omega (arith, p.1)))
      | inr p ↦ rw (e, p.0)
    ]

-- by a range that lies in the chip
pub read_inside : {S : Type 0} (b : Bus S) → b.fitted ≡ true → (start : ℕ) (buffer : List ℕ) → start + length buffer ≤ length b.rec.memory →
    read_into (image_of b) start buffer ≡ take (length buffer) (drop start b.rec.memory)
read_inside b f start buffer h =
    elim (leb_tells (start + length buffer) (length b.rec.memory)) [
      | inl p ↦ read_image b (length b.rec.memory) start buffer (fitted_size b f) ∙ rw p.0
      | inr p ↦ absurd (omega (arith, p.1))
    ]

-- where the range is not refused, and where it is
module _ {S : Type 0} {u : Unit {0}} (b : Bus S) (size start : ℕ) (e : length (image_of b) ≡ size) where
  pub fence_accepted : (count : ℕ) → Ok u ≡ range_result size start count →
      fence_result (image_of b) start count
      ≡ Ok (cond (nat_lt 0 count && nat_lt (first_protected b.sheet b.rec) (start + count)) (Some (max start (first_protected b.sheet b.rec))) None)
  fence_accepted count lies = fence_value b size start count e ∙ rw (range_inside size start count lies)

  pub read_accepted : (buffer : List ℕ) → Ok u ≡ range_result size start (length buffer) →
      read_into (image_of b) start buffer ≡ take (length buffer) (drop start b.rec.memory)
  read_accepted buffer lies = read_image b size start buffer e ∙ rw (range_inside size start (length buffer) lies)

  pub write_accepted : (bytes : List ℕ) → Ok u ≡ range_result size start (length bytes) →
      write_result (image_of b) start bytes
      ≡ cond (nat_lt 0 (length bytes) && nat_lt (first_protected b.sheet b.rec) (start + length bytes)) (Err Fenced) (Ok tt)
  write_accepted bytes lies = write_value b size start bytes e ∙ rw (range_inside size start (length bytes) lies)

module _ {S : Type 0} {x : Refusal} (b : Bus S) (size start : ℕ) (e : length (image_of b) ≡ size) where
  pub fence_refused : (count : ℕ) → Err x ≡ range_result size start count → fence_result (image_of b) start count ≡ Err x
  fence_refused count out =
      let o = refused_by (leb (start + count) size) tt out in
      fence_value b size start count e ∙ rw (o.0, o.1)

  pub read_refused : (buffer : List ℕ) → Err x ≡ range_result size start (length buffer) → read_into (image_of b) start buffer ≡ buffer
  read_refused buffer out =
      let o = refused_by (leb (start + length buffer) size) tt out in
      read_image b size start buffer e ∙ rw o.0

  pub write_refused : (bytes : List ℕ) → Err x ≡ range_result size start (length bytes) → write_result (image_of b) start bytes ≡ Err x
  write_refused bytes out =
      let o = refused_by (leb (start + length bytes) size) tt out in
      write_value b size start bytes e ∙ rw (o.0, o.1)
