-- Facts of images that the proofs of several boards share.
use Rattle.std.proofs.Common.{◌≡◌, ℕ, zero, suc, ◌+◌, ◌≤◌, min, Bool, true, false, cond, leb, List, [], ◌∷◌, length, take, drop, Some, None, Option, Ok, Err, Result, sym, refl, ap, ◌∙◌, inl, inr, add_assoc, suc-add, zero-add, arith, leb-true}
use Rattle.std.proofs.lemmas.List.{length-take, length-drop, length-append, take-take, take_all, drop_all}
use Rattle.std.proofs.lemmas.Bool.Decides.{leb_tells}
use Rattle.std.specs.Option.{option_map, MatchOption, IsSomeAnd}
use Rattle.datasheet.specs.declared.refusal.Refusal.{Refusal}
use Rattle.datasheet.specs.declared.refusal.Refusal.TheVariants.{OutOfRange}
use Rattle.board_model.specs.declared.Cell.{Cell}
use Rattle.board_model.specs.Images.{Image, first_fenced, overlaid, overwritten}
use Rattle.board_model.specs.Results.{range_result, unless_fenced}

-- ## Lists

-- a range of a front of a list
pub part_take : {X : Type 0} (l s n : ℕ) (xs : List X) → s + n ≤ l → take n (drop s (take l xs)) ≡ take n (drop s xs)
part_take l zero n xs h = take-take n l xs (omega arith)
part_take zero (suc s) n xs h = absurd (omega arith)
part_take (suc l) (suc s) n [] h = refl
part_take (suc l) (suc s) n (x ∷ xs) h = part_take l s n xs (omega arith)

-- no more can be dropped or taken than there is
min_length : {X Y : Type 0} (f : ℕ → Y) (n : ℕ) (xs : List X) → (length xs ≤ n → f (length xs) ≡ f n) → f (min n (length xs)) ≡ f n
min_length f n xs past =
    elim (leb_tells n (length xs)) [
      | inl p ↦ (let h = p.1 in let e : min n (length xs) ≡ n = omega arith in ap f e)
      | inr p ↦ (let h = p.1 in let e : min n (length xs) ≡ length xs = omega arith in ap f e ∙ past (omega arith))
    ]

pub drop_min : {X : Type 0} (n : ℕ) (xs : List X) → drop (min n (length xs)) xs ≡ drop n xs
drop_min n xs = min_length (λ (k : ℕ). drop k xs) n xs (λ h. drop_all (length xs) xs (omega arith) ∙ sym (drop_all n xs h))

pub take_min : {X : Type 0} (n : ℕ) (xs : List X) → take (min n (length xs)) xs ≡ take n xs
take_min n xs = min_length (λ (k : ℕ). take k xs) n xs (λ h. take_all (length xs) xs (omega arith) ∙ sym (take_all n xs h))

-- ## The fence question

-- the places of a list that stands b places on
pub shift_fence : (b k : ℕ) (cs : List Cell) → first_fenced (b + k) cs ≡ option_map (λ j. b + j) (first_fenced k cs)
shift_fence b k [] = refl
shift_fence b k (c ∷ cs) =
    elim c.fenced as (λ f. cond f (Some (b + k)) (first_fenced (b + k + 1) cs) ≡ option_map (λ j. b + j) (cond f (Some k) (first_fenced (k + 1) cs))) [
      | true ↦ refl
      | false ↦ rw (add_assoc b k 1) (shift_fence b (k + 1) cs)
    ]

-- where a list stands plays no part in whether it has a fence
pub same_fenced : (j k : ℕ) (cs : List Cell) → unless_fenced (first_fenced j cs) ≡ unless_fenced (first_fenced k cs)
same_fenced j k [] = refl
same_fenced j k (c ∷ cs) =
    elim c.fenced as (λ f. unless_fenced (cond f (Some j) (first_fenced (j + 1) cs)) ≡ unless_fenced (cond f (Some k) (first_fenced (k + 1) cs))) [
      | true ↦ refl
      | false ↦ same_fenced (j + 1) (k + 1) cs
    ]

-- ## Bytes put

pub length_overlaid : (cs : List Cell) (bs : List ℕ) → length (overlaid cs bs) ≡ length cs
length_overlaid [] bs = refl
length_overlaid (c ∷ cs) [] = refl
length_overlaid (c ∷ cs) (b ∷ bs) = ap suc (length_overlaid cs bs)

pub length_overwritten : (i : Image) (s : ℕ) (bs : List ℕ) → length (overwritten i s bs) ≡ length i
length_overwritten i s bs = simp (length-append, length_overlaid, length-take, length-drop) (omega arith)

take_overlaid : (l : ℕ) (cs : List Cell) (bs : List ℕ) → take l (overlaid cs bs) ≡ overlaid (take l cs) bs
take_overlaid zero cs bs = refl
take_overlaid (suc l) [] bs = refl
take_overlaid (suc l) (c ∷ cs) [] = refl
take_overlaid (suc l) (c ∷ cs) (b ∷ bs) = ap (λ t. record { byte = b; fenced = c.fenced } ∷ t) (take_overlaid l cs bs)

-- a front of an image with bytes put
pub take_overwritten : (l s : ℕ) (i : Image) (bs : List ℕ) → take l (overwritten i s bs) ≡ overwritten (take l i) s bs
take_overwritten l zero i bs = take_overlaid l i bs
take_overwritten zero (suc s) i bs = refl
take_overwritten (suc l) (suc s) [] bs = refl
take_overwritten (suc l) (suc s) (c ∷ i) bs = ap (λ t. c ∷ t) (take_overwritten l s i bs)

-- what lies from place b on of an image with bytes put further on
pub drop_overwritten : (b s : ℕ) (i : Image) (bs : List ℕ) → b ≤ length i → drop b (overwritten i (b + s) bs) ≡ overwritten (drop b i) s bs
drop_overwritten zero s i bs h = rw (zero-add s)
drop_overwritten (suc b) s [] bs h = absurd (omega arith)
drop_overwritten (suc b) s (c ∷ i) bs h = rw (suc-add b s) (drop_overwritten b s i bs (omega arith))

-- ## What an answer tells of the test of a range

pub accepted_by : {A : Type 0} {x y : A} (b : Bool) → ◌≡◌ {A = Result A Refusal} (Ok x) (cond b (Ok y) (Err OutOfRange)) → (b ≡ true) × (x ≡ y)
accepted_by true e = (refl, cc)
accepted_by false e = absurd (cc)

pub refused_by : {A : Type 0} {x : Refusal} (b : Bool) (y : A) → ◌≡◌ {A = Result A Refusal} (Err x) (cond b (Ok y) (Err OutOfRange)) → (b ≡ false) × (x ≡ OutOfRange)
refused_by true y e = absurd (cc)
refused_by false y e = (refl, cc)

-- a range that is not refused lies in a board of this size
pub range_inside : {u : Unit {0}} (size s n : ℕ) → Ok u ≡ range_result size s n → leb (s + n) size ≡ true
range_inside size s n e = (accepted_by (leb (s + n) size) e).0

pub range_fits : {u : Unit {0}} (size s n : ℕ) → Ok u ≡ range_result size s n → s + n ≤ size
range_fits size s n e = leb-true (s + n) size (range_inside size s n e)

-- ## A place told by another

-- what `map` gives of an Option, where the closure gives f x for x
pub option_mapped : {A B : Type 0} (P : A → B → Type 0) (f : A → B) (o : Option A) (r : Option B) → ((x : A) (y : B) → P x y → y ≡ f x) →
    MatchOption o (r ≡ None) (λ x. IsSomeAnd r (P x)) → r ≡ option_map f o
option_mapped P f None r h m = m
option_mapped P f (Some x) None h m = absurd m
option_mapped P f (Some x) (Some y) h m = ap Some (h x y m)
