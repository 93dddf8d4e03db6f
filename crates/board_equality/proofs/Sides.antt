-- Images by their bytes and their fences, front by front.
use Rattle.std.proofs.Common.{◌≡◌, ℕ, Bool, cond, replicate, ◌++◌, suc, ◌+◌, ◌-◌, ◌<◌, ◌≤◌, true, false, List, [], ◌∷◌, map, length, take, drop, Some, None, Ok, Option, sym, refl, ap, ◌∙◌, min, arith, take-add}
use Rattle.std.proofs.lemmas.Bool.{le-leb}
use Rattle.std.proofs.lemmas.List.{drop-map, take_all, take_min, take_rest, take-append-drop, length-drop, length-map}
use Rattle.board_model.specs.declared.Cell.{Cell}
use Rattle.board_model.specs.Images.{Image, part, bytes_of, first_fenced, fence_in}
use Rattle.board_model.specs.Results.{fence_result, read_into}
use Rattle.board_model.proofs.Told.{same_cell}
use Rattle.board_model.proofs.SizesAndReads.{part_bytes}
use Rattle.board_equality.specs.Sides.{fences_of}

-- the place of the first fence, by the fences alone, where the first of them stands at this place
abbrev first_true : ℕ → List Bool → Option ℕ
first_true at [] = None
first_true at (b ∷ bs) = cond b (Some at) (first_true (at + 1) bs)

by_fences : (at : ℕ) (cs : List Cell) → first_fenced at cs ≡ first_true at (fences_of cs)
by_fences at [] = refl
by_fences at (c ∷ cs) = rw (by_fences (at + 1) cs)

-- the fences up to the first, and the fences where there is none
up_to : (at : ℕ) (bs : List Bool) (f : ℕ) → first_true at bs ≡ Some f → (at ≤ f) × (f < at + length bs) × (take (suc (f - at)) bs ≡ replicate (f - at) false ++ true ∷ [])
up_to at [] f e = let z : ◌≡◌ {A = ℕ} 0 1 = cc in absurd (omega arith)
up_to at (true ∷ bs) f e =
    let z : at ≡ f = cc in
    let n : f - at ≡ 0 = omega arith in
    (omega arith, omega arith, rw n)
up_to at (false ∷ bs) f e =
    let h = up_to (at + 1) bs f e in
    let n : f - at ≡ suc (f - (at + 1)) = omega (arith, h.0) in
    (omega (arith, h.0), omega (arith, h.1), rw n (ap (λ r. false ∷ r) h.2))

none_at : (at : ℕ) (bs : List Bool) → first_true at bs ≡ None → bs ≡ replicate (length bs) false
none_at at [] e = refl
none_at at (true ∷ bs) e = cc
none_at at (false ∷ bs) e = ap (λ r. false ∷ r) (none_at (at + 1) bs e)

-- both sides the same: the same image
pub sides_same : (i j : Image) → fences_of i ≡ fences_of j → bytes_of i ≡ bytes_of j → i ≡ j
sides_same [] [] e f = refl
sides_same [] (d ∷ ds) e f = cc
sides_same (c ∷ cs) [] e f = cc
sides_same (c ∷ cs) (d ∷ ds) e f = cc (sides_same cs ds (cc) (cc), same_cell c d (cc) (cc))

-- a front that is the whole
all_of : {X : Type 0} (f : Cell → X) (i : Image) (k : ℕ) → length i ≤ k → take k (map f i) ≡ map f i
all_of f i k h = take_all k (map f i) (simp length-map (omega arith))

-- one chunk of bytes more, and the last
module _ (i j : Image) (start count : ℕ) (before : take start (bytes_of i) ≡ take start (bytes_of j)) (here : bytes_of (part i start count) ≡ bytes_of (part j start count)) where
  pub chunk_more : take (start + count) (bytes_of i) ≡ take (start + count) (bytes_of j)
  chunk_more =
      cc (part_bytes i start count, part_bytes j start count, take-add start count (bytes_of i), take-add start count (bytes_of j))

  pub chunk_last : length i ≤ start + count → length j ≤ start + count → bytes_of i ≡ bytes_of j
  chunk_last h l = cc (chunk_more, all_of (λ c. c.byte) i (start + count) h, all_of (λ c. c.byte) j (start + count) l)

-- the answer of a fence question that was not refused
pub asked : (i : Image) (start n : ℕ) (o : Option ℕ) → fence_result i start n ≡ Ok o → start + n ≤ length i → o ≡ fence_in i start n
asked i start n o told h =
    let e : fence_result i start n ≡ Ok (fence_in i start n) = rw (le-leb (start + n) (length i) h) in
    cc

-- the first fence from `start` on, by the fences alone
ahead : (i : Image) (start : ℕ) → fence_in i start (length i - start) ≡ first_true start (drop start (fences_of i))
ahead i start =
    by_fences start (part i start (length i - start)) ∙ ap (λ (cs : List Cell). first_true start (fences_of cs)) (take_rest i start) ∙ ap (first_true start) (sym (drop-map (λ c. c.fenced) start i))

-- what it tells of two boards of one size whose fences are the same up to `start`
module _ (i j : Image) (start size : ℕ) (long : length i ≡ size) (wide : length j ≡ size) (h : start ≤ size) where
  -- a fence lies ahead
  pub hop_within : (f : ℕ) → Some f ≡ fence_in i start (size - start) → (start ≤ f) × (f < size)
  hop_within f e =
      let u = up_to start (drop start (fences_of i)) f (cc (ahead i start)) in
      let l : length (drop start (fences_of i)) ≡ size - start = simp (length-drop, length-map) (omega arith) in
      (u.0, omega (arith, u.1))

  -- a fence at the same place: the fences are the same past it
  pub hop : (f : ℕ) → take start (fences_of i) ≡ take start (fences_of j) → Some f ≡ fence_in i start (size - start) → Some f ≡ fence_in j start (size - start) →
      take (f + 1) (fences_of i) ≡ take (f + 1) (fences_of j)
  hop f before e g =
      let u = up_to start (drop start (fences_of i)) f (cc (ahead i start)) in
      let v = up_to start (drop start (fences_of j)) f (cc (ahead j start)) in
      let n : start + suc (f - start) ≡ f + 1 = omega (arith, u.0) in
      cc (u.2, v.2, take-add start (suc (f - start)) (fences_of i), take-add start (suc (f - start)) (fences_of j))

  -- no fence ahead: the fences are the same
  pub hop_none : take start (fences_of i) ≡ take start (fences_of j) → None ≡ fence_in i start (size - start) → None ≡ fence_in j start (size - start) → fences_of i ≡ fences_of j
  hop_none before e g =
      let u = none_at start (drop start (fences_of i)) (cc (ahead i start)) in
      let v = none_at start (drop start (fences_of j)) (cc (ahead j start)) in
      let l : length (drop start (fences_of i)) ≡ length (drop start (fences_of j)) = simp (length-drop, length-map) (omega arith) in
      cc (u, v, take-append-drop start (fences_of i), take-append-drop start (fences_of j))

  -- the same fences: the same first one
  pub hop_same : fences_of i ≡ fences_of j → fence_in i start (size - start) ≡ fence_in j start (size - start)
  hop_same e = cc (ahead i start, ahead j start)

pub ruleset hops = (asked, hop, hop_within, hop_none, hop_same)

-- what a read of a chunk left: the image from `start` on, as far as `reach`
pub chunk_is : (i : Image) (start reach : ℕ) (buffer out : List ℕ) → out ≡ read_into i start buffer → length buffer ≡ min reach (length i - start) → start ≤ length i →
    out ≡ bytes_of (part i start reach)
chunk_is i start reach buffer out told l h =
    let e : out ≡ bytes_of (part i start (length buffer)) = told ∙ rw (le-leb (start + length buffer) (length i) (omega (arith, l))) in
    let n : length buffer ≡ min reach (length (drop start i)) = l ∙ ap (min reach) (sym (length-drop start i)) in
    e ∙ ap bytes_of (ap (λ (m : ℕ). take m (drop start i)) n ∙ take_min reach (drop start i))
