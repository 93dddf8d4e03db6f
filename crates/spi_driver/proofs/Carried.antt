-- What the bus calls of a driver do to a bus over a fitted chip, and what is read in them.
use Rattle.std.proofs.Common.{◌≡◌, ℕ, zero, suc, ◌+◌, ◌-◌, ◌^◌, ◌<◌, ◌≤◌, Bool, true, false, cond, ◌&&◌, nat_le, nat_lt, List, [], ◌∷◌, ◌++◌, length, take, drop, slice_index, None, Option, Ok, Err, Result, sym, refl, ap, ◌∙◌, add-zero, true-eqb, eqb, arith}
use Rattle.std.proofs.lemmas.Bool.{leb-true}
use Rattle.std.proofs.lemmas.Bool.Decides.{nat_tests}
use Rattle.std.proofs.lemmas.List.{append_assoc, length-append, length-replicate, length-take-le, length-drop, take-append-drop}
use Rattle.std.proofs.Math.Seq.{drop-append_seam, drop-length}
use Rattle.datasheet.specs.declared.registers.Registers.{Registers}
use Rattle.datasheet.specs.declared.refusal.Refusal.{Refusal}
use Rattle.datasheet.specs.declared.refusal.Refusal.TheVariants.{OutOfRange, Fenced}
use Rattle.datasheet.specs.declared.sheet.Sheet.{Sheet}
use Rattle.datasheet.specs.Sheets.{cells, density_of}
use Rattle.datasheet.specs.Records.{Record}
use Rattle.datasheet.specs.Kept.{bounded}
use Rattle.datasheet.specs.Memory.{SoundMemory}
use Rattle.datasheet.specs.Protection.{first_protected}
use Rattle.datasheet.specs.Machines.{left_by}
use Rattle.datasheet.proofs.Machines.{left_behind, answered_behind}
use Rattle.spi_model.specs.declared.bus_call.BusCall.{BusCall}
use Rattle.spi_model.specs.declared.bus_call.BusCall.TheVariants.{Deselect}
use Rattle.spi_model.specs.declared.bus_answer.BusAnswer.{BusAnswer}
use Rattle.spi_model.specs.declared.bus_answer.BusAnswer.TheVariants.{Done, Read}
use Rattle.spi_model.specs.Buses.{Bus, becoming, selected, exchanged, read, deselected, after, answer, run, answers, session_calls}
use Rattle.spi_model.specs.Lines.{open_after}
use Rattle.board_model.specs.Results.{read_result, write_result}
use Rattle.board_model.proofs.Cells.{range_fits}
use Rattle.board_model.specs.Layers.{patched}
use Rattle.spi_driver.specs.Exchanges.{exchanges, all_exchanged, all_read}
use Rattle.spi_driver.specs.Drives.{chip_image, image_of, calm, calmed, memory_by, after_write}
use Rattle.spi_driver.specs.Sessions.{zeros, address_of, asking_status, reading, writing, probing, surveying, if_done, read_calls, write_calls}
use Rattle.spi_driver.specs.Transfers.{transfer_calls}
use Rattle.spi_driver.specs.Carried.{bytes_read, last}
use Rattle.spi_driver.proofs.Cells.{image_length, write_value}
use Rattle.spi_driver.proofs.WholeSessions.{sent, settles}
use Rattle.spi_driver.proofs.Asked.{identity_left, status_same}
use Rattle.spi_driver.proofs.Moved.{read_filled, read_left, write_left}

-- ## A session

bytes_left : (b : Bus Registers) (xs : List ℕ) → run bounded b (exchanges xs) ≡ all_exchanged bounded b xs
bytes_left b [] = refl
bytes_left b (x ∷ xs) = bytes_left (exchanged bounded b x) xs

session_left : (b : Bus Registers) (xs : List ℕ) → run bounded b (session_calls xs) ≡ deselected bounded (sent b xs)
session_left b xs =
    left_behind (after bounded) (selected bounded b) (exchanges xs) (Deselect ∷ [])
    ∙ ap (deselected bounded) (bytes_left (selected bounded b) xs)

session_end : (b : Bus Registers) (xs : List ℕ) → bytes_read (answers bounded b (exchanges xs ++ Deselect ∷ [])) ≡ all_read bounded b xs
session_end b [] = refl
session_end b (x ∷ xs) = ap (λ (ys : List ℕ). read bounded b x ∷ ys) (session_end (exchanged bounded b x) xs)

session_read : (b : Bus Registers) (xs : List ℕ) → bytes_read (answers bounded b (session_calls xs)) ≡ all_read bounded (selected bounded b) xs
session_read b xs = session_end (selected bounded b) xs

read_behind : (xs ys : List BusAnswer) → bytes_read (xs ++ ys) ≡ bytes_read xs ++ bytes_read ys
read_behind [] ys = refl
read_behind (Done ∷ xs) ys = read_behind xs ys
read_behind (Read x ∷ xs) ys = ap (λ (zs : List ℕ). x ∷ zs) (read_behind xs ys)

last_behind : (xs ys : List ℕ) → last (length ys) (xs ++ ys) ≡ ys
last_behind xs ys =
    let both = length-append xs ys in
    let e : length (xs ++ ys) - length ys ≡ length xs = omega arith in
    ap (λ (n : ℕ). drop n (xs ++ ys)) e ∙ drop-append_seam xs ys

last_past : (n : ℕ) (xs : List ℕ) (a b c : ℕ) (ys : List ℕ) → length ys ≡ n → last n (xs ++ (a ∷ b ∷ c ∷ ys)) ≡ ys
last_past n xs a b c ys e =
    ap (λ (k : ℕ). last k (xs ++ (a ∷ b ∷ c ∷ ys))) (sym e)
    ∙ ap (last (length ys)) (sym (append_assoc xs (a ∷ b ∷ c ∷ []) ys))
    ∙ last_behind (xs ++ (a ∷ b ∷ c ∷ [])) ys

last_none : (xs : List ℕ) → last 0 xs ≡ []
last_none xs =
    let e : length xs - 0 ≡ length xs = omega arith in
    ap (λ (n : ℕ). drop n xs) e ∙ drop-length xs

-- ## The sessions of a driver

calm_twice : (b : Bus Registers) → calm b ≡ calm (calm b)
calm_twice b = go b.fitted
  where
    go : (f : Bool) → becoming b (cond f (calmed b.rec b.rec.memory) b.rec) None
        ≡ becoming b (cond f (calmed (cond f (calmed b.rec b.rec.memory) b.rec) (cond f (calmed b.rec b.rec.memory) b.rec).memory) (cond f (calmed b.rec b.rec.memory) b.rec)) None
    go true = refl
    go false = refl

module _ (b : Bus Registers) where
  probed_left : run bounded b probing ≡ calm b
  probed_left =
      ap (λ (d : Bus Registers). deselected bounded (sent d (0x9F ∷ 0 ∷ 0 ∷ 0 ∷ 0 ∷ []))) (settles b)
      ∙ identity_left (calm b) (calm_twice b)

  surveyed_left : run bounded b (surveying b) ≡ calm b
  surveyed_left =
      left_behind (after bounded) b probing (cond b.fitted asking_status [])
      ∙ ap (λ (d : Bus Registers). run bounded d (cond b.fitted asking_status [])) probed_left
      ∙ asked b.fitted
    where
      asked : (f : Bool) → run bounded (calm b) (cond f asking_status []) ≡ calm b
      asked true = status_same (calm b) (calm_twice b)
      asked false = refl

-- ## No session is left open

module _ {S : Type 0} (b : Bus S) where
  surveyed_closed : (o : Bool) → left_by open_after o (surveying b) ≡ false
  surveyed_closed o = left_behind open_after o probing (cond b.fitted asking_status []) ∙ asked b.fitted
    where
      asked : (f : Bool) → left_by open_after false (cond f asking_status []) ≡ false
      asked true = refl
      asked false = refl

  read_closed : (start n : ℕ) (o : Bool) → left_by open_after o (read_calls b start n) ≡ false
  read_closed start n o =
      left_behind open_after o (surveying b) (if_done (read_result (image_of b) start n) n (reading start n))
      ∙ ap (λ (p : Bool). left_by open_after p (if_done (read_result (image_of b) start n) n (reading start n))) (surveyed_closed o)
      ∙ done (read_result (image_of b) start n) n
    where
      sending : (xs : List ℕ) → left_by open_after true (exchanges xs ++ Deselect ∷ []) ≡ false
      sending [] = refl
      sending (x ∷ xs) = sending xs

      done : (u : Result (Unit {0}) Refusal) (k : ℕ) → left_by open_after false (if_done u k (reading start n)) ≡ false
      done (Err e) k = refl
      done (Ok u) zero = refl
      done (Ok u) (suc k) = sending (zeros n)

pub ends_closed : {S : Type 0} (b : Bus S) (start : ℕ) (bytes : List ℕ) (n : ℕ) → left_by open_after false (transfer_calls b start bytes n) ≡ false
unfolding transfer_calls
ends_closed b start bytes n =
    let made = calm b in
    let reads = read_calls (after_write made start bytes) start n in
    left_behind open_after false probing (write_calls made start bytes ++ reads)
    ∙ left_behind open_after false (write_calls made start bytes) reads
    ∙ read_closed (after_write made start bytes) start n (left_by open_after false (write_calls made start bytes))

-- ## A write and a read

few : (d : ℕ) → d ≤ 5 → 2 ^ (10 + d) ≤ 32768
few zero h = omega arith
few (suc zero) h = omega arith
few (suc (suc zero)) h = omega arith
few (suc (suc (suc zero))) h = omega arith
few (suc (suc (suc (suc zero)))) h = omega arith
few (suc (suc (suc (suc (suc zero))))) h = omega arith
few (suc (suc (suc (suc (suc (suc d)))))) h = absurd (omega arith)

zeros_length : (n : ℕ) → length (zeros n) ≡ n
zeros_length n = length-replicate n 0

zeros_small : (n i : ℕ) → slice_index (zeros n) i < 256
zeros_small zero i = omega arith
zeros_small (suc n) zero = omega arith
zeros_small (suc n) (suc i) = zeros_small n i

-- an accepted write has its range before the first protected cell
accepted : (t w : Bool) (u : Unit {0}) → cond t (cond w (Err Fenced) (Ok tt)) (Err OutOfRange) ≡ Ok u → (t ≡ true) × (w ≡ false)
accepted true false u e = (refl, refl)
accepted true true u e = absurd (cc)
accepted false w u e = absurd (cc)

unfenced : (f k n : ℕ) → 0 < n → (nat_lt 0 n && nat_lt f k) ≡ false → k ≤ f
unfenced f k n some e = grind (arith, nat_tests)

-- of a fitted chip
module _ (s : Sheet) (wp : Bool) (r : Record) (o : Option Registers) (m : SoundMemory s true r.memory) (start : ℕ) where
  abbrev b : Bus Registers
  b = record { sheet = s; wp = wp; fitted = true; rec = r; session = o }

  low : (n : ℕ) → 0 < n → start + n ≤ length r.memory → start < 65536
  low n some inside =
      let size = true-eqb (length r.memory) (cells s) m.fit in
      let most = few (density_of s.t) s.known.1 in
      omega arith

  module _ (bytes : List ℕ) (are : (i : ℕ) → slice_index bytes i < 256) where
    -- how the bus is left by this result
    abbrev left_so : Result (Unit {0}) Refusal → Bus Registers
    left_so u = becoming b (calmed r (memory_by u r.memory start bytes)) None

    put_in : start + length bytes ≤ first_protected s r → start < 65536 → run bounded (calm b) (writing start bytes) ≡ left_so (Ok tt)
    put_in free small =
        let first : Bus Registers = deselected bounded (sent (calm b) (0x06 ∷ [])) in
        let address : List ℕ = address_of start in
        left_behind (after bounded) first (session_calls (0x02 ∷ (address ++ bytes))) (session_calls (0x04 ∷ []))
        ∙ ap (λ (d : Bus Registers). deselected bounded (sent d (0x04 ∷ []))) (session_left first (0x02 ∷ (address ++ bytes)))
        ∙ write_left (calm b) refl refl m start small bytes are free

    tests : {u : Unit {0}} → write_result (chip_image s r) start bytes ≡ Ok u →
        (nat_le (start + length bytes) (length (chip_image s r)) ≡ true)
        × ((nat_lt 0 (length bytes) && nat_lt (first_protected s r) (start + length bytes)) ≡ false)
    tests {u = u} h = accepted _ _ u (sym (write_value b (length (chip_image s r)) start bytes refl) ∙ h)

    pub write_inside : {u : Unit {0}} → write_result (chip_image s r) start bytes ≡ Ok u → start + length bytes ≤ length r.memory
    write_inside h =
        let inside = leb-true (start + length bytes) (length (chip_image s r)) (tests h).0 in
        let long = image_length s r in
        omega arith

    written_by : (xs : List ℕ) → xs ≡ bytes → (u : Result (Unit {0}) Refusal) → write_result (chip_image s r) start bytes ≡ u →
        run bounded (calm b) (if_done u (length xs) (writing start bytes)) ≡ left_so u
    written_by xs same (Err e) h = refl
    written_by [] same (Ok u) h =
        ap (λ (ys : List ℕ). becoming b (calmed r ys) None)
        (sym (ap (λ (k : ℕ). take start r.memory ++ drop k r.memory) (add-zero start) ∙ take-append-drop start r.memory)
        ∙ ap (patched r.memory start) same)
    written_by (x ∷ xs) same (Ok u) h =
        let n : length bytes ≡ suc (length xs) = sym (ap length same) in
        let some : 0 < length bytes = omega arith in
        put_in (unfenced (first_protected s r) (start + length bytes) (length bytes) some (tests h).1) (low (length bytes) some (write_inside h))

    pub write_calls_left : run bounded b (write_calls b start bytes) ≡ after_write (calm b) start bytes
    write_calls_left =
        let u = write_result (chip_image s r) start bytes in
        left_behind (after bounded) b (surveying b) (if_done u (length bytes) (writing start bytes))
        ∙ ap (λ (d : Bus Registers). run bounded d (if_done u (length bytes) (writing start bytes))) (surveyed_left b)
        ∙ written_by bytes refl u refl

  module _ (n : ℕ) (inside : start + n ≤ length r.memory) (small : start < 65536) where
    there : start + length (zeros n) ≤ length r.memory
    there = rw (zeros_length n) inside

    taken_left : run bounded (calm b) (reading start n) ≡ calm b
    taken_left =
        session_left (calm b) (0x03 ∷ (address_of start ++ zeros n))
        ∙ read_left (calm b) refl refl m start small (zeros n) (zeros_small n) there

    taken_read : (xs : List ℕ) → last n (xs ++ bytes_read (answers bounded (calm b) (reading start n))) ≡ take n (drop start r.memory)
    taken_read xs =
        let ys : List ℕ = all_read bounded (sent (calm b) (0x03 ∷ address_of start)) (zeros n) in
        let filled : ys ≡ take n (drop start r.memory) =
        read_filled (calm b) refl refl m start small (zeros n) (zeros_small n) there
        ∙ ap (λ (k : ℕ). take k (drop start r.memory)) (zeros_length n) in
        let behind = length-drop start r.memory in
        let long : length (take n (drop start r.memory)) ≡ n = length-take-le n (drop start r.memory) (omega arith) in
        ap (λ (zs : List ℕ). last n (xs ++ zs)) (session_read (calm b) (0x03 ∷ (address_of start ++ zeros n)))
        ∙ last_past n xs _ _ _ ys (ap length filled ∙ long)
        ∙ filled

  read_inside : {u : Unit {0}} (n : ℕ) → read_result (chip_image s r) start n ≡ Ok u → start + n ≤ length r.memory
  read_inside n h =
      let fits = range_fits (length (chip_image s r)) start n (sym h) in
      let long = image_length s r in
      omega arith

  read_by : (n : ℕ) (u : Result (Unit {0}) Refusal) → read_result (chip_image s r) start n ≡ u →
      run bounded (calm b) (if_done u n (reading start n)) ≡ calm b
  read_by n (Err e) h = refl
  read_by zero (Ok u) h = refl
  read_by (suc n) (Ok u) h =
      let inside = read_inside (suc n) h in
      taken_left (suc n) inside (low (suc n) (omega arith) inside)

  pub read_calls_left : (n : ℕ) → run bounded b (read_calls b start n) ≡ calm b
  read_calls_left n =
      let u = read_result (chip_image s r) start n in
      left_behind (after bounded) b (surveying b) (if_done u n (reading start n))
      ∙ ap (λ (d : Bus Registers). run bounded d (if_done u n (reading start n))) (surveyed_left b)
      ∙ read_by n u refl

  pub read_calls_read : (n : ℕ) → read_result (chip_image s r) start n ≡ Ok tt → (xs : List ℕ) →
      last n (xs ++ bytes_read (answers bounded b (read_calls b start n))) ≡ take n (drop start r.memory)
  read_calls_read zero h xs = last_none (xs ++ bytes_read (answers bounded b (read_calls b start zero)))
  read_calls_read (suc n) h xs =
      let inside = read_inside (suc n) h in
      let first : List BusAnswer = answers bounded b (surveying b) in
      let second : List BusAnswer = answers bounded (calm b) (reading start (suc n)) in
      ap (λ (u : Result (Unit {0}) Refusal). last (suc n) (xs ++ bytes_read (answers bounded b (surveying b ++ if_done u (suc n) (reading start (suc n)))))) h
      ∙ ap (λ (ys : List BusAnswer). last (suc n) (xs ++ bytes_read ys))
      (answered_behind (after bounded) (answer bounded) b (surveying b) (reading start (suc n))
      ∙ ap (λ (d : Bus Registers). first ++ answers bounded d (reading start (suc n))) (surveyed_left b))
      ∙ ap (λ (ys : List ℕ). last (suc n) (xs ++ ys)) (read_behind first second)
      ∙ ap (last (suc n)) (sym (append_assoc xs (bytes_read first) (bytes_read second)))
      ∙ taken_read (suc n) inside (low (suc n) (omega arith) inside) (xs ++ bytes_read first)

-- ## Both

small_append : (xs ys : List ℕ) → ((i : ℕ) → slice_index xs i < 256) → ((i : ℕ) → slice_index ys i < 256) → (i : ℕ) → slice_index (xs ++ ys) i < 256
small_append [] ys h k i = k i
small_append (x ∷ xs) ys h k zero = h 0
small_append (x ∷ xs) ys h k (suc i) = small_append xs ys (λ (j : ℕ). h (suc j)) k i

small_take : (n : ℕ) (xs : List ℕ) → ((i : ℕ) → slice_index xs i < 256) → (i : ℕ) → slice_index (take n xs) i < 256
small_take zero xs h i = omega arith
small_take (suc n) [] h i = omega arith
small_take (suc n) (x ∷ xs) h zero = h 0
small_take (suc n) (x ∷ xs) h (suc i) = small_take n xs (λ (j : ℕ). h (suc j)) i

small_drop : (n : ℕ) (xs : List ℕ) → ((i : ℕ) → slice_index xs i < 256) → (i : ℕ) → slice_index (drop n xs) i < 256
small_drop zero xs h i = h i
small_drop (suc n) [] h i = omega arith
small_drop (suc n) (x ∷ xs) h i = small_drop n xs (λ (j : ℕ). h (suc j)) i

-- a memory that fits stays so when bytes are put into it
patched_sound : (s : Sheet) (memory : List ℕ) (start : ℕ) (bytes : List ℕ) → SoundMemory s true memory → ((i : ℕ) → slice_index bytes i < 256) →
    start + length bytes ≤ length memory → SoundMemory s true (patched memory start bytes)
patched_sound s memory start bytes m are inside =
    let k : ℕ = start + length bytes in
    let front = length-take-le start memory (omega arith) in
    let back = length-drop k memory in
    let all = length-append (take start memory) (bytes ++ drop k memory) in
    let rest = length-append bytes (drop k memory) in
    let same : length (patched memory start bytes) ≡ length memory = omega arith in
    record {
      fit = m.fit ∙ ap (λ (n : ℕ). eqb n (cells s)) (sym same);
      bytes =
          small_append (take start memory) (bytes ++ drop k memory) (small_take start memory m.bytes)
          (small_append bytes (drop k memory) are (small_drop k memory m.bytes));
    }

module _ (s : Sheet) (wp : Bool) (r : Record) (m : SoundMemory s true r.memory) (start : ℕ) (bytes : List ℕ)
    (are : (i : ℕ) → slice_index bytes i < 256) (n : ℕ) where
  abbrev found : Bus Registers
  found = b s wp r None m start

  -- the memory that the write leaves
  abbrev memory_left : List ℕ
  memory_left = memory_by (write_result (chip_image s r) start bytes) r.memory start bytes

  sound_left : (u : Result (Unit {0}) Refusal) → write_result (chip_image s r) start bytes ≡ u → SoundMemory s true (memory_by u r.memory start bytes)
  sound_left (Err e) h = m
  sound_left (Ok u) h = patched_sound s r.memory start bytes m are (write_inside s wp r None m start bytes are h)

  sound : SoundMemory s true memory_left
  sound = sound_left (write_result (chip_image s r) start bytes) refl

  -- behind the write
  before_read : run bounded found (probing ++ write_calls (calm found) start bytes) ≡ after_write (calm found) start bytes
  before_read =
      left_behind (after bounded) found probing (write_calls (calm found) start bytes)
      ∙ ap (λ (d : Bus Registers). run bounded d (write_calls (calm found) start bytes)) (probed_left found)
      ∙ write_calls_left s wp (calmed r r.memory) None m start bytes are

  abbrev reads_then : List BusCall
  reads_then = read_calls (after_write (calm found) start bytes) start n

  grouped : transfer_calls found start bytes n ≡ (probing ++ write_calls (calm found) start bytes) ++ reads_then
  unfolding transfer_calls
  grouped = sym (append_assoc probing (write_calls (calm found) start bytes) reads_then)

  pub transfer_left : run bounded found (transfer_calls found start bytes n) ≡ after_write (calm found) start bytes
  transfer_left =
      ap (run bounded found) grouped
      ∙ left_behind (after bounded) found (probing ++ write_calls (calm found) start bytes) reads_then
      ∙ ap (λ (d : Bus Registers). run bounded d reads_then) before_read
      ∙ read_calls_left s wp (calmed r memory_left) None sound start n

  pub transfer_read : read_result (image_of (after_write (calm found) start bytes)) start n ≡ Ok tt →
      last n (bytes_read (answers bounded found (transfer_calls found start bytes n))) ≡ take n (drop start memory_left)
  transfer_read h =
      let first : List BusAnswer = answers bounded found (probing ++ write_calls (calm found) start bytes) in
      ap (λ (xs : List BusCall). last n (bytes_read (answers bounded found xs))) grouped
      ∙ ap (λ (as' : List BusAnswer). last n (bytes_read as'))
      (answered_behind (after bounded) (answer bounded) found (probing ++ write_calls (calm found) start bytes) reads_then
      ∙ ap (λ (d : Bus Registers). first ++ answers bounded d reads_then) before_read)
      ∙ ap (last n) (read_behind first (answers bounded (after_write (calm found) start bytes) reads_then))
      ∙ read_calls_read s wp (calmed r memory_left) None sound start n h (bytes_read first)
