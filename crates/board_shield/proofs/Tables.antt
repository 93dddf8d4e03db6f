-- The table of a shield: a range more, a range widened, and the first place that a range has.
use Rattle.std.proofs.Common.{◌≡◌, ℕ, zero, suc, ◌+◌, ◌-◌, ◌<◌, ◌≤◌, min, Bool, true, false, cond, ◌||◌, ◌&&◌, ltb, ◌⊎◌, List, [], ◌∷◌, length, get_or, take, set, max, fold, is_some, Some, None, Option, sym, refl, ap, ◌∙◌, inl, inr, arith, lt-ltb}
use Rattle.std.proofs.Math.Seq.{take-set-lt}
use Rattle.std.proofs.lemmas.Bool.{cases_lt}
use Rattle.std.proofs.Math.Bool.{or-false}
use Rattle.std.specs.Bool.{then_some}
use Rattle.std.specs.List.{list_any, filter_map, reduce, cons_option}
use Rattle.std.proofs.lemmas.List.{length-take-le, get_or-take}
use Rattle.board_model.specs.declared.Range.{Range}
use Rattle.board_model.specs.Layers.{has, covered, widened}
use Rattle.board_shield.specs.Shields.{widened_at, first_covered, earlier}

-- ## A range widened

pub widens : (xs : List Range) (used i by : ℕ) → length xs ≡ 8 → used ≤ 8 → i < used →
    take used (set xs i (widened (get_or xs i (record { start = 0; count = 0 })) by)) ≡ widened_at (take used xs) i by
widens xs used i by long few h =
    let l : length (take used xs) ≡ used = length-take-le used xs (omega arith) in
    let t : ltb i (length (take used xs)) ≡ true = rw l (lt-ltb i used h) in
    rw (t, get_or-take) (take-set-lt used xs i _ h)

-- ## The first place that a range has

-- no range has a place from this one on and below that one
abbrev Clear : List Range → ℕ → ℕ → Type 0
Clear ranges from to = (place : ℕ) → from ≤ place → place < to → covered ranges place ≡ false

-- what is clear up to a place that a range has is found there
first_found : (xs : List Range) (count start free : ℕ) → free < count → Clear xs start (start + free) → covered xs (start + free) ≡ true →
    first_covered xs start count ≡ Some (start + free)
first_found xs zero start free h c f = absurd (omega arith)
first_found xs (suc count) start zero h c f =
    let z : start + 0 ≡ start = omega arith in
    rw z (let g : covered xs start ≡ true = rw z at f in rw g)
first_found xs (suc count) start (suc free) h c f =
    let n : start + suc free ≡ start + 1 + free = omega arith in
    let g : covered xs start ≡ false = c start (omega arith) (omega arith) in
    let i = first_found xs count (start + 1) free (omega arith) (λ k from to. c k (omega arith) (omega arith)) (rw n at f) in
    rw (n, g) i

none_found : (xs : List Range) (count start : ℕ) → Clear xs start (start + count) → first_covered xs start count ≡ None
none_found xs zero start c = refl
none_found xs (suc count) start c =
    let g : covered xs start ≡ false = c start (omega arith) (omega arith) in
    rw g (none_found xs count (start + 1) (λ k from to. c k (omega arith) (omega arith)))

-- of one range: the later of its start and the start of those asked for, if it is among both
one_clear : (r : Range) (s first : ℕ) → first ≡ max r.start s → Clear (r ∷ []) s first
one_clear r s first e place from to = let h : place < r.start = omega arith in grind arith

one_past : (r : Range) (s n first : ℕ) → first ≡ max r.start s → r.count ≤ first - r.start → Clear (r ∷ []) s (s + n)
one_past r s n first e h place from to = let k : place < r.start + r.count → place < r.start = λ z. omega arith in grind arith

pub shared_first : (r : Range) (s n first : ℕ) (both : Bool) → first ≡ max r.start s → both ≡ (ltb (first - r.start) r.count && ltb (first - s) n) →
    then_some both first ≡ first_covered (r ∷ []) s n
shared_first r s n first both e is = go (cases_lt (first - r.start) r.count) (cases_lt (first - s) n)
  where
    go : (first - r.start < r.count) ⊎ (r.count ≤ first - r.start) → (first - s < n) ⊎ (n ≤ first - s) → then_some both first ≡ first_covered (r ∷ []) s n
    go (inl h) (inl k) =
        let t : both ≡ true = grind arith in
        let z : s + (first - s) ≡ first = omega arith in
        let c : covered (r ∷ []) first ≡ true = grind arith in
        rw t (sym (rw z at (first_found (r ∷ []) n s (first - s) k (rw z (one_clear r s first e)) (rw z c))))
    go (inr h) _ =
        let t : both ≡ false = grind arith in
        rw t (sym (none_found (r ∷ []) n s (one_past r s n first e h)))
    go _ (inr k) =
        let t : both ≡ false = grind arith in
        rw t (sym (none_found (r ∷ []) n s (λ place from to. one_clear r s first e place from (omega arith))))

-- ## The first place that one of some ranges has

pub cover_late : (rs : List Range) (n at f : ℕ) → first_covered rs at n ≡ Some f → at ≤ f
cover_late rs zero at f e = absurd (cc)
cover_late rs (suc n) at f e = go (covered rs at) e (cover_late rs n (at + 1) f)
  where
    go : (b : Bool) → cond b (Some at) (first_covered rs (at + 1) n) ≡ Some f → (first_covered rs (at + 1) n ≡ Some f → at + 1 ≤ f) → at ≤ f
    go true e h = let z : at ≡ f = cc in omega arith
    go false e h = let k = h e in omega arith

-- what lies at a place is earlier than what lies further on
pub earlier_step : (at : ℕ) (a b : Bool) (x more rest : Option ℕ) → ((f : ℕ) → more ≡ Some f → at ≤ f) → ((f : ℕ) → rest ≡ Some f → at ≤ f) →
    x ≡ earlier more rest → cond (a || b) (Some at) x ≡ earlier (cond a (Some at) more) (cond b (Some at) rest)
earlier_step at true true x more rest p q e = ap Some (omega arith)
earlier_step at true false x more None p q e = refl
earlier_step at true false x more (Some f) p q e = let h = q f refl in ap Some (omega arith)
earlier_step at false true x None rest p q e = refl
earlier_step at false true x (Some f) rest p q e = let h = p f refl in ap Some (omega arith)
earlier_step at false false x more rest p q e = e

-- it is the first of one of them, or the first of the others, whichever is earlier
covered_earlier : (r : Range) (rs : List Range) (n at : ℕ) → first_covered (r ∷ rs) at n ≡ earlier (first_covered (r ∷ []) at n) (first_covered rs at n)
covered_earlier r rs zero at = refl
covered_earlier r rs (suc n) at =
    rw (or-false (has r at))
    (earlier_step at (has r at) (covered rs at) _ (first_covered (r ∷ []) (at + 1) n) (first_covered rs (at + 1) n)
    (λ f e. let k = cover_late (r ∷ []) n (at + 1) f e in omega arith) (λ f e. let k = cover_late rs n (at + 1) f e in omega arith) (covered_earlier r rs n (at + 1)))

fold_min : (a b : ℕ) (xs : List ℕ) → fold min (min a b) xs ≡ min a (fold min b xs)
fold_min a b [] = refl
fold_min a b (x ∷ xs) = let e : min (min a b) x ≡ min a (min b x) = omega arith in ap (λ (k : ℕ). fold min k xs) e ∙ fold_min a (min b x) xs

least_earlier : (o : Option ℕ) (xs : List ℕ) → reduce min (cons_option o xs) ≡ earlier o (reduce min xs)
least_earlier None xs = refl
least_earlier (Some a) [] = refl
least_earlier (Some a) (x ∷ xs) = ap Some (fold_min a x xs)

-- so it is the least of the first places of each
pub least_covered : (rs : List Range) (s n : ℕ) → reduce min (filter_map (λ r. first_covered (r ∷ []) s n) rs) ≡ first_covered rs s n
least_covered [] s n = sym (none_found [] n s (λ place from to. refl))
least_covered (r ∷ rs) s n =
    least_earlier (first_covered (r ∷ []) s n) (filter_map (λ r. first_covered (r ∷ []) s n) rs)
    ∙ ap (earlier (first_covered (r ∷ []) s n)) (least_covered rs s n)
    ∙ sym (covered_earlier r rs n s)

-- one of them has a place if there is a first
pub any_covered : (rs : List Range) (s n : ℕ) → list_any (λ (r : Range). is_some (first_covered (r ∷ []) s n)) rs ≡ is_some (first_covered rs s n)
any_covered [] s n = ap is_some (sym (none_found [] n s (λ place from to. refl)))
any_covered (r ∷ rs) s n =
    ap (λ (b : Bool). is_some (first_covered (r ∷ []) s n) || b) (any_covered rs s n)
    ∙ either (first_covered (r ∷ []) s n) (first_covered rs s n)
    ∙ ap is_some (sym (covered_earlier r rs n s))
  where
    either : (a b : Option ℕ) → (is_some a || is_some b) ≡ is_some (earlier a b)
    either None b = refl
    either (Some x) None = refl
    either (Some x) (Some y) = refl
