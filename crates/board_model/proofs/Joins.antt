-- Two lists and two images, one after the other: what a range of both is in each, and what bytes put into both leave.
use Rattle.std.proofs.Common.{◌≡◌, ℕ, zero, suc, ◌+◌, ◌-◌, ◌<◌, ◌≤◌, min, true, false, cond, List, [], ◌∷◌, ◌++◌, length, take, drop, Some, None, Option, Ok, sym, refl, ap, ◌∙◌, inl, inr, add-zero, arith, le-leb, leb-true}
use native.Mathlib.Nat.{zero-sub, sub-zero}
use Rattle.std.proofs.lemmas.List.{length-take, length-drop, length-append}
use Rattle.std.proofs.lemmas.Bool.Decides.{leb_tells}
use Rattle.std.specs.Option.{option_map, option_or}
use Rattle.board_model.specs.declared.Cell.{Cell}
use Rattle.board_model.specs.Images.{Image, most, inside, part, first_fenced, fence_in, overlaid, overwritten}
use Rattle.board_model.specs.Results.{write_result}
use Rattle.board_model.specs.Layers.{joined, front_of}
use Rattle.board_model.proofs.Cells.{part_take, drop_min, take_min, shift_fence, take_overwritten}

-- equations of both
pub at_both : {X Y Z : Type 0} {x x' : X} {y y' : Y} (f : X → Y → Z) → x ≡ x' → y ≡ y' → f x y ≡ f x' y'
at_both f p q = λ i. f (p i) (q i)

-- ## Two lists, one after the other

drop_join : {X : Type 0} (s : ℕ) (xs ys : List X) → drop s (xs ++ ys) ≡ drop s xs ++ drop (s - length xs) ys
drop_join zero xs ys = ap (λ (k : ℕ). xs ++ drop k ys) (sym (zero-sub (length xs)))
drop_join (suc s) [] ys = ap (λ (k : ℕ). drop k ys) (sym (sub-zero (suc s)))
drop_join (suc s) (x ∷ xs) ys =
    let e : s - length xs ≡ suc s - suc (length xs) = omega arith in
    drop_join s xs ys ∙ ap (λ (k : ℕ). drop s xs ++ drop k ys) e

take_join : {X : Type 0} (n : ℕ) (xs ys : List X) → take n (xs ++ ys) ≡ take n xs ++ take (n - length xs) ys
take_join zero xs ys = ap (λ (k : ℕ). take k ys) (sym (zero-sub (length xs)))
take_join (suc n) [] ys = ap (λ (k : ℕ). take k ys) (sym (sub-zero (suc n)))
take_join (suc n) (x ∷ xs) ys =
    let e : n - length xs ≡ suc n - suc (length xs) = omega arith in
    ap (λ t. x ∷ t) (take_join n xs ys ∙ ap (λ (k : ℕ). take n xs ++ take k ys) e)

-- ## A range that lies in both

pub length_joined : (a b : Image) → length (joined a b) ≡ min most (length a + length b)
length_joined a b = simp (length-take, length-append)

pub join_few : (a b : Image) → length (joined a b) ≤ most
join_few a b = let e = length_joined a b in omega arith

pub join_shown : {a x b y : Image} → a ≡ x → b ≡ y → joined a b ≡ joined x y
join_shown = at_both joined

pub in_both : (a b : Image) (s n : ℕ) → inside (joined a b) s n ≡ true → (s + n ≤ most) × (s + n ≤ length a + length b)
in_both a b s n t =
    let h = leb-true (s + n) (length (joined a b)) t in let e = length_joined a b in (omega arith, omega arith)

pub in_first : (a : Image) (s n : ℕ) → inside a (min s (length a)) (front_of a s n) ≡ true
in_first a s n = le-leb (min s (length a) + min n (length a - s)) (length a) (omega arith)

pub in_second : (a b : Image) (s n : ℕ) → inside (joined a b) s n ≡ true → inside b (s - length a) (n - (length a - s)) ≡ true
in_second a b s n t =
    let h = in_both a b s n t in
    let k = h.1 in
    le-leb (s - length a + (n - (length a - s))) (length b) (omega arith)

front_part : (a : Image) (s n : ℕ) → part a (min s (length a)) (front_of a s n) ≡ part a s n
front_part a s n =
    let e : min n (length a - s) ≡ min n (length (drop s a)) = ap (min n) (sym (length-drop s a)) in
    ap (take (min n (length a - s))) (drop_min s a) ∙ ap (λ (k : ℕ). take k (drop s a)) e ∙ take_min n (drop s a)

pub part_join : (a b : Image) (s n : ℕ) → s + n ≤ most →
    part (joined a b) s n ≡ part a (min s (length a)) (front_of a s n) ++ part b (s - length a) (n - (length a - s))
part_join a b s n h =
    part_take most s n (a ++ b) h
    ∙ ap (take n) (drop_join s a b)
    ∙ take_join n (drop s a) (drop (s - length a) b)
    ∙ ap (λ (k : ℕ). part a s n ++ take (n - k) (drop (s - length a) b)) (length-drop s a)
    ∙ ap (λ (t : List Cell). t ++ part b (s - length a) (n - (length a - s))) (sym (front_part a s n))

-- ## The fence question

fenced_join : (k : ℕ) (xs ys : List Cell) → first_fenced k (xs ++ ys) ≡ option_or (first_fenced k xs) (first_fenced (k + length xs) ys)
fenced_join k [] ys = ap (λ (j : ℕ). first_fenced j ys) (sym (add-zero k))
fenced_join k (c ∷ xs) ys =
    elim c.fenced as (λ f. cond f (Some k) (first_fenced (k + 1) (xs ++ ys)) ≡ option_or (cond f (Some k) (first_fenced (k + 1) xs)) (first_fenced (k + suc (length xs)) ys)) [
      | true ↦ refl
      | false ↦ (let e : k + 1 + length xs ≡ k + suc (length xs) = omega arith in
          fenced_join (k + 1) xs ys ∙ ap (λ (j : ℕ). option_or (first_fenced (k + 1) xs) (first_fenced j ys)) e)
    ]

-- an empty part has no fence, wherever it lies
fenced_none : (j k : ℕ) (a : Image) (s n : ℕ) → n ≡ 0 → first_fenced j (part a s n) ≡ first_fenced k (part a s n)
fenced_none j k a s n e = ap (λ (m : ℕ). first_fenced j (part a s m)) e ∙ sym (ap (λ (m : ℕ). first_fenced k (part a s m)) e)

-- the first fence of a range is that of its front, or else that of its back, as many places on as the first image has
pub fence_join : (a b : Image) (s n : ℕ) → inside (joined a b) s n ≡ true →
    fence_in (joined a b) s n ≡ option_or (fence_in a (min s (length a)) (front_of a s n)) (option_map (λ j. length a + j) (fence_in b (s - length a) (n - (length a - s))))
fence_join a b s n t =
    let h = in_both a b s n t in
    let h0 = h.0 in
    let h1 = h.1 in
    let at = min s (length a) in
    let front = min n (length a - s) in
    let next = s - length a in
    let back = n - (length a - s) in
    let x = part a at front in
    let y = part b next back in
    let lx : length x ≡ front = simp (length-take, length-drop) (omega arith) in
    let ex : first_fenced s x ≡ first_fenced at x =
    elim (leb_tells s (length a)) [
      | inl p ↦ (let q = p.1 in let e : s ≡ min s (length a) = omega arith in ap (λ (k : ℕ). first_fenced k x) e)
      | inr p ↦ (let q = p.1 in let e : min n (length a - s) ≡ 0 = omega arith in fenced_none s at a at front e)
    ] in
    let ey : first_fenced (s + length x) y ≡ first_fenced (length a + next) y =
    elim (leb_tells n (length a - s)) [
      | inl p ↦ (let q = p.1 in let e : n - (length a - s) ≡ 0 = omega arith in fenced_none (s + length x) (length a + next) b next back e)
      | inr p ↦ (let q = p.1 in let e : s + length x ≡ length a + (s - length a) = omega arith in ap (λ (k : ℕ). first_fenced k y) e)
    ] in
    ap (first_fenced s) (part_join a b s n h0)
    ∙ fenced_join s x y
    ∙ ap (λ (o : Option ℕ). option_or o (first_fenced (s + length x) y)) ex
    ∙ ap (λ (o : Option ℕ). option_or (first_fenced at x) o) (ey ∙ shift_fence (length a) next y)

-- a fenced place lies in its list
pub fenced_below : (k : ℕ) (cs : List Cell) (p : ℕ) → first_fenced k cs ≡ Some p → p < k + length cs
fenced_below k [] p = λ e. let z : ◌≡◌ {A = ℕ} 0 1 = cc in absurd (omega arith)
fenced_below k (c ∷ cs) p =
    elim c.fenced as (λ f. cond f (Some k) (first_fenced (k + 1) cs) ≡ Some p → p < k + suc (length cs)) [
      | true ↦ (λ e. let h : k ≡ p = cc in omega arith)
      | false ↦ (λ e. let h = fenced_below (k + 1) cs p e in omega arith)
    ]

-- ## Bytes put

overlaid_nil : (ys : List Cell) → overlaid ys [] ≡ ys
overlaid_nil [] = refl
overlaid_nil (c ∷ ys) = refl

overlaid_join : (xs ys : List Cell) (bs : List ℕ) → overlaid (xs ++ ys) bs ≡ overlaid xs bs ++ overlaid ys (drop (length xs) bs)
overlaid_join [] ys bs = refl
overlaid_join (c ∷ xs) ys [] = ap (λ t. c ∷ (xs ++ t)) (sym (overlaid_nil ys))
overlaid_join (c ∷ xs) ys (b ∷ bs) = ap (λ t. record { byte = b; fenced = c.fenced } ∷ t) (overlaid_join xs ys bs)

overwritten_join : (xs ys : Image) (s : ℕ) (bs : List ℕ) →
    overwritten (xs ++ ys) s bs ≡ overwritten xs s bs ++ overwritten ys (s - length xs) (drop (length xs - s) bs)
overwritten_join xs ys zero bs =
    overlaid_join xs ys bs
    ∙ ap (λ (k : ℕ). overlaid xs bs ++ overwritten ys zero (drop k bs)) (sym (sub-zero (length xs)))
    ∙ ap (λ (k : ℕ). overlaid xs bs ++ overwritten ys k (drop (length xs - zero) bs)) (sym (zero-sub (length xs)))
overwritten_join [] ys (suc s) bs =
    ap (λ (k : ℕ). overwritten ys (suc s) (drop k bs)) (sym (zero-sub (suc s)))
    ∙ ap (λ (k : ℕ). overwritten ys k (drop (zero - suc s) bs)) (sym (sub-zero (suc s)))
overwritten_join (c ∷ xs) ys (suc s) bs =
    let e : s - length xs ≡ suc s - suc (length xs) = omega arith in
    let f : length xs - s ≡ suc (length xs) - suc s = omega arith in
    ap (λ t. c ∷ t) (overwritten_join xs ys s bs
    ∙ ap (λ (k : ℕ). overwritten xs s bs ++ overwritten ys k (drop (length xs - s) bs)) e
    ∙ ap (λ (k : ℕ). overwritten xs s bs ++ overwritten ys (suc s - suc (length xs)) (drop k bs)) f)

overlaid_take : (xs : List Cell) (bs : List ℕ) (k : ℕ) → min (length bs) (length xs) ≤ k → overlaid xs (take k bs) ≡ overlaid xs bs
overlaid_take [] bs k h = refl
overlaid_take (c ∷ xs) [] zero h = refl
overlaid_take (c ∷ xs) [] (suc k) h = refl
overlaid_take (c ∷ xs) (b ∷ bs) zero h = absurd (omega arith)
overlaid_take (c ∷ xs) (b ∷ bs) (suc k) h = ap (λ t. record { byte = b; fenced = c.fenced } ∷ t) (overlaid_take xs bs k (omega arith))

front_written : (a : Image) (s : ℕ) (bs : List ℕ) → overwritten a s (take (front_of a s (length bs)) bs) ≡ overwritten a s bs
front_written a s bs =
    let h : min (length bs) (length (drop s a)) ≤ min (length bs) (length a - s) = simp length-drop (omega arith) in
    ap (λ (t : List Cell). take s a ++ t) (overlaid_take (drop s a) bs (front_of a s (length bs)) h)

-- a place past the end of an image is as its end
pub written_min : (a : Image) (s : ℕ) (bs : List ℕ) → overwritten a (min s (length a)) bs ≡ overwritten a s bs
written_min a s bs =
    ap (λ (t : List Cell). t ++ overlaid (drop (min s (length a)) a) bs) (take_min s a)
    ∙ ap (λ (t : List Cell). take s a ++ overlaid t bs) (drop_min s a)

back_bytes : (a : Image) (s : ℕ) (bs : List ℕ) → drop (front_of a s (length bs)) bs ≡ drop (length a - s) bs
back_bytes a s bs =
    let e : min (length bs) (length a - s) ≡ min (length a - s) (length bs) = omega arith in
    ap (λ (k : ℕ). drop k bs) e ∙ drop_min (length a - s) bs

-- bytes put across the seam are bytes put into each
pub join_overwritten : (a b : Image) (s : ℕ) (bs : List ℕ) →
    joined (overwritten a s (take (front_of a s (length bs)) bs)) (overwritten b (s - length a) (drop (front_of a s (length bs)) bs)) ≡ overwritten (joined a b) s bs
join_overwritten a b s bs =
    ap (λ (t : Image). joined t (overwritten b (s - length a) (drop (front_of a s (length bs)) bs))) (front_written a s bs)
    ∙ ap (λ (t : List ℕ). joined (overwritten a s bs) (overwritten b (s - length a) t)) (back_bytes a s bs)
    ∙ ap (take most) (sym (overwritten_join a b s bs))
    ∙ take_overwritten most s (a ++ b) bs

-- ## A write

pub write_inside : (i : Image) (s n : ℕ) (bs : List ℕ) → length bs ≡ n → inside i s n ≡ true → fence_in i s n ≡ None → write_result i s bs ≡ Ok tt
write_inside i s n bs e t f = simp (e, t, f)

pub length_front : (a : Image) (s : ℕ) (bs : List ℕ) → length (take (front_of a s (length bs)) bs) ≡ front_of a s (length bs)
length_front a s bs = simp length-take (omega arith)

pub length_back : (a : Image) (s : ℕ) (bs : List ℕ) → length (drop (front_of a s (length bs)) bs) ≡ length bs - (length a - s)
length_back a s bs = simp length-drop (omega arith)
