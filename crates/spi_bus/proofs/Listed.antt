-- A list gone through one by one, where each element is replaced by its answer: the first i are answered.
use Rattle.std.proofs.Common.{◌≡◌, ℕ, ◌+◌, ◌<◌, ◌≤◌, List, [], ◌∷◌, ◌++◌, length, get_or, take, drop, set, sym, ap, ◌∙◌, ap₂, arith}
use Rattle.std.proofs.lemmas.List.{append_assoc, append-nil, take_all, take_more_set, drop-set-lt, at_drop_more, at_drop_all}

-- what goes through a list: a state, what an element makes of it and is answered, and the same for lists
pub record Going {M X : Type 0} (after : M → X → M) (answer : M → X → X) (run : M → List X → M) (answers : M → List X → List X) : Type 0 where
  pub stays : (m : M) → run m [] ≡ m
  pub runs : (m : M) (x : X) (xs : List X) → run m (x ∷ xs) ≡ run (after m x) xs
  pub ends : (m : M) → answers m [] ≡ []
  pub answered : (m : M) (x : X) (xs : List X) → answers m (x ∷ xs) ≡ answer m x ∷ answers (after m x) xs

module _ {M X : Type 0} (after : M → X → M) (answer : M → X → X) (run : M → List X → M) (answers : M → List X → List X)
    (goes : Going after answer run answers) where
  -- one more, whose answer is put in its place or not
  module _ (b d : M) (xs : List X) (i : ℕ) (x : X) (l : i < length xs) (then : d ≡ after b (get_or xs i x)) where
    pub one_on : (end : M) → run b (drop i xs) ≡ end → run d (drop (i + 1) xs) ≡ end
    one_on end h =
        ap (λ (y : M). run y (drop (i + 1) xs)) then
        ∙ sym (goes.runs b (get_or xs i x) (drop (i + 1) xs)) ∙ sym (at_drop_more (run b) xs i x l) ∙ h

    -- put in its place or not, it is behind
    pub one_past : (a : X) (end : M) → run b (drop i xs) ≡ end → run d (drop (i + 1) (set xs i a)) ≡ end
    one_past a end h = ap (run d) (drop-set-lt (i + 1) xs i a (omega arith)) ∙ one_on end h

    module _ (a : X) (is : a ≡ answer b (get_or xs i x)) where
      left : drop (i + 1) (set xs i a) ≡ drop (i + 1) xs
      left = drop-set-lt (i + 1) xs i a (omega arith)

      pub one_more : (end : M) → run b (drop i xs) ≡ end → run d (drop (i + 1) (set xs i a)) ≡ end
      one_more = one_past a

      pub one_answered : (all : List X) → take i xs ++ answers b (drop i xs) ≡ all →
          take (i + 1) (set xs i a) ++ answers d (drop (i + 1) (set xs i a)) ≡ all
      one_answered all h =
          ap₂ (λ (zs ys : List X). zs ++ answers d ys) (take_more_set xs i a l) left
          ∙ append_assoc (take i xs) (a ∷ []) (answers d (drop (i + 1) xs))
          ∙ ap₂ (λ (y : X) (z : M). take i xs ++ y ∷ answers z (drop (i + 1) xs)) is then
          ∙ ap (λ (ys : List X). take i xs ++ ys) (sym (goes.answered b (get_or xs i x) (drop (i + 1) xs)) ∙ sym (at_drop_more (answers b) xs i x l))
          ∙ h

  -- none is left
  module _ (b : M) (xs : List X) (i : ℕ) (l : length xs ≤ i) where
    pub all_made : (end : M) → run b (drop i xs) ≡ end → b ≡ end
    all_made end h = sym (goes.stays b) ∙ sym (at_drop_all (run b) xs i l) ∙ h

    pub all_answered : (all : List X) → take i xs ++ answers b (drop i xs) ≡ all → xs ≡ all
    all_answered all h =
        sym (append-nil xs)
        ∙ ap₂ (λ (ys zs : List X). ys ++ zs) (sym (take_all i xs l)) (sym (at_drop_all (answers b) xs i l ∙ goes.ends b))
        ∙ h
