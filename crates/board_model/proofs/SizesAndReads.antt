-- What sizes and reads tell of an image: its bytes and how many they are, and nothing of its fences.
use Rattle.std.proofs.Common.{◌≡◌, ◌↔◌, ℕ, ◌+◌, ◌<◌, ◌≤◌, true, List, [], ◌∷◌, map, length, take, drop, get_or, All, refl, sym, ap, ◌∙◌, arith, le-leb}
use Rattle.std.proofs.lemmas.List.{take-map, drop-map, length-map, ext_get_or, drop_more}
use Rattle.std.proofs.lemmas.List.Elements.{All-nil, All-cons, All-head, All-tail}
use Rattle.datasheet.specs.Alike.{Alike}
use Rattle.board_model.specs.declared.Cell.{Cell}
use Rattle.board_model.specs.Images.{Image, most, part, bytes_of}
use Rattle.board_model.specs.Results.{read_result, read_into}
use Rattle.board_model.specs.Calls.{BoardCall, size, fence, read, write, reads_only, Readable, bytes, answer, answers, run}

-- a part, by what is looked at of a cell
part_is : {X : Type 0} (f : Cell → X) (i : Image) (start count : ℕ) → map f (part i start count) ≡ take count (drop start (map f i))
part_is f i start count = sym (take-map f count (drop start i)) ∙ ap (take count) (sym (drop-map f start i))

pub part_bytes : (i : Image) (start count : ℕ) → bytes_of (part i start count) ≡ take count (drop start (bytes_of i))
part_bytes = part_is (λ c. c.byte)

-- two images of the same bytes
module _ (i j : Image) (same : bytes_of i ≡ bytes_of j) where
  pub same_size : length i ≡ length j
  same_size = let e : length (bytes_of i) ≡ length (bytes_of j) = ap length same in simp length-map at e

  pub same_part : (s n : ℕ) → bytes_of (part i s n) ≡ bytes_of (part j s n)
  same_part s n = part_bytes i s n ∙ ap (λ (bs : List ℕ). take n (drop s bs)) same ∙ sym (part_bytes j s n)

  pub same_result : (s n : ℕ) → read_result i s n ≡ read_result j s n
  same_result s n = rw same_size refl

  pub same_into : (s : ℕ) (buffer : List ℕ) → read_into i s buffer ≡ read_into j s buffer
  same_into s buffer = rw (same_size, same_part s (length buffer)) refl

-- ## The law

-- a call that is a size or a read
abbrev pub ReadsOnly : BoardCall → Type 0
ReadsOnly call = reads_only call ≡ true

-- a list of them alters nothing, and is answered by the bytes
pub left_same : (i : Image) (calls : List BoardCall) → All ReadsOnly calls → run i calls ≡ i
left_same i [] only = refl
left_same i (size ∷ calls) only = left_same i calls (All-tail ReadsOnly size calls only)
left_same i (fence s n ∷ calls) only = let no = All-head ReadsOnly (fence s n) calls only in absurd (cc)
left_same i (read s n ∷ calls) only = left_same i calls (All-tail ReadsOnly (read s n) calls only)
left_same i (write s bs ∷ calls) only = let no = All-head ReadsOnly (write s bs) calls only in absurd (cc)

module _ (i j : Image) (same : bytes_of i ≡ bytes_of j) where
  pub same_answers : (calls : List BoardCall) → All ReadsOnly calls → answers i calls ≡ answers j calls
  same_answers [] only = refl
  same_answers (size ∷ calls) only = rw (same_size i j same, same_answers calls (All-tail ReadsOnly size calls only)) refl
  same_answers (fence s n ∷ calls) only = let no = All-head ReadsOnly (fence s n) calls only in absurd (cc)
  same_answers (read s n ∷ calls) only = rw (same_size i j same, same_part i j same s n, same_answers calls (All-tail ReadsOnly (read s n) calls only)) refl
  same_answers (write s bs ∷ calls) only = let no = All-head ReadsOnly (write s bs) calls only in absurd (cc)

-- what can be sent to a reading board is a size or a read, and can be sent to any board
pub only_reads : (calls : List BoardCall) → All Readable calls → All ReadsOnly calls
only_reads [] can = All-nil ReadsOnly
only_reads (c ∷ calls) can = All-cons ReadsOnly c calls (All-head Readable c calls can).0 (only_reads calls (All-tail Readable c calls can))

read_one : (i : Image) (k : ℕ) → k < length i → answer i (read k 1) ≡ bytes (get_or (bytes_of i) k 0 ∷ [])
read_one i k h =
    let lies : k < length (bytes_of i) = simp length-map (omega arith) in
    let one : bytes_of (part i k 1) ≡ get_or (bytes_of i) k 0 ∷ [] = part_bytes i k 1 ∙ rw (drop_more (bytes_of i) k 0) in
    rw (le-leb (k + 1) (length i) (omega arith), one)

-- one call alone
alone : (c : BoardCall) → Readable c → All Readable (c ∷ [])
alone c h = All-cons Readable c [] h (All-nil Readable)

module _ (i j : Image) (few : length i ≤ most) (same : Alike Readable answers answers i j) where
  told_size : length i ≡ length j
  told_size = let h = same (size ∷ []) (alone size (refl, tt)) in cc

  told_byte : (k : ℕ) → k < length (bytes_of i) → get_or (bytes_of i) k 0 ≡ get_or (bytes_of j) k 0
  told_byte k h =
      let here : k < length i = simp length-map at h in
      let there : k < length j = omega (arith, told_size) in
      let s = same (read k 1 ∷ []) (alone (read k 1) (refl, (omega arith, omega arith))) in
      cc (read_one i k here, read_one j k there)

  told_bytes : bytes_of i ≡ bytes_of j
  told_bytes =
      let long : length (bytes_of i) ≡ length (bytes_of j) = simp length-map told_size in
      ext_get_or 0 (bytes_of i) (bytes_of j) long told_byte

pub read_apart : (i j : Image) → length i ≤ most → length j ≤ most → (bytes_of i ≡ bytes_of j) ↔ Alike Readable answers answers i j
read_apart i j few many = (λ e calls can. same_answers i j e calls (only_reads calls can), λ same. told_bytes i j few same)
