-- What holds of every list of calls, from what holds of one call. What is said before a call may speak of the calls that are
-- to come: of it and of those behind it.
use Rattle.std.proofs.Common.{◌≡◌, List, [], ◌∷◌, ◌++◌, map, refl, ap, ◌∙◌, ap₂}
use Rattle.std.proofs.lemmas.List.{map-id}
use Rattle.datasheet.specs.Machines.{left_by, answered_by}

-- What every call keeps, every list of calls keeps.
module _ {X C : Type 0} (after : X → C → X) (Keeps : X → List C → Type 0)
    (one : (x : X) (c : C) (cs : List C) → Keeps x (c ∷ cs) → Keeps (after x c) cs) where
  pub keeps : (x : X) (cs : List C) → Keeps x cs → Keeps (left_by after x cs) []
  keeps x [] h = h
  keeps x (c ∷ cs) h = keeps (after x c) cs (one x c cs h)

-- Two things that take calls, where each call of the one stands for a call of the other: if these two calls keep a relation
-- between the things, and under it the answers are the same in other words, then so it is with every list of calls.
module _ {X Y C D A B : Type 0} (after : X → C → X) (answer : X → C → A) (other_after : Y → D → Y) (other_answer : Y → D → B)
    (call : D → C) (told : B → A) (Related : X → Y → List D → Type 0)
    (one : (x : X) (y : Y) (d : D) (ds : List D) → Related x y (d ∷ ds) →
    Related (after x (call d)) (other_after y d) ds × (answer x (call d) ≡ told (other_answer y d))) where
  pub simulates : (x : X) (y : Y) (ds : List D) → Related x y ds →
      Related (left_by after x (map call ds)) (left_by other_after y ds) []
      × (answered_by after answer x (map call ds) ≡ map told (answered_by other_after other_answer y ds))
  simulates x y [] h = (h, refl)
  simulates x y (d ∷ ds) h =
      let did = one x y d ds h in
      let rest = simulates (after x (call d)) (other_after y d) ds did.0 in
      (rest.0, ap₂ ◌∷◌ did.1 rest.1)

-- The same of two things that take the same calls and give the same answers, where the one is what the other means. What that
-- needs of the other is `Fine`, which every call must keep.
module _ {X Y C A : Type 0} (after : X → C → X) (answer : X → C → A) (other_after : Y → C → Y) (other_answer : Y → C → A)
    (meaning : Y → X) (Fine : Y → List C → Type 0)
    (one : (y : Y) (c : C) (cs : List C) → Fine y (c ∷ cs) →
    Fine (other_after y c) cs × (after (meaning y) c ≡ meaning (other_after y c)) × (answer (meaning y) c ≡ other_answer y c)) where
  abbrev Means : X → Y → List C → Type 0
  Means x y cs = Fine y cs × (x ≡ meaning y)

  call_means : (x : X) (y : Y) (c : C) (cs : List C) → Means x y (c ∷ cs) → Means (after x c) (other_after y c) cs × (answer x c ≡ other_answer y c)
  call_means x y c cs h =
      let did = one y c cs h.0 in
      ((did.0, ap (λ (z : X). after z c) h.1 ∙ did.1), ap (λ (z : X). answer z c) h.1 ∙ did.2)

  pub means : (y : Y) (cs : List C) → Fine y cs →
      (answered_by after answer (meaning y) cs ≡ answered_by other_after other_answer y cs)
      × (left_by after (meaning y) cs ≡ meaning (left_by other_after y cs))
  means y cs h =
      let same = simulates after answer other_after other_answer (λ (c : C). c) (λ (a : A). a) Means call_means (meaning y) y cs (h, refl) in
      (simp map-id at same.1, simp map-id at same.0.1)

-- What answers each call by the call alone answers a list of them so.
module _ {X C A : Type 0} (after : X → C → X) (answer : C → A) where
  pub alone : (x : X) (cs : List C) → answered_by after (λ x c. answer c) x cs ≡ map answer cs
  alone x [] = refl
  alone x (c ∷ cs) = ap (λ (as' : List A). answer c ∷ as') (alone (after x c) cs)

-- A list of calls and another behind it.
module _ {X C : Type 0} (after : X → C → X) where
  pub left_behind : (x : X) (cs ds : List C) → left_by after x (cs ++ ds) ≡ left_by after (left_by after x cs) ds
  left_behind x [] ds = refl
  left_behind x (c ∷ cs) ds = left_behind (after x c) cs ds

  pub answered_behind : {A : Type 0} (answer : X → C → A) (x : X) (cs ds : List C) →
      answered_by after answer x (cs ++ ds) ≡ answered_by after answer x cs ++ answered_by after answer (left_by after x cs) ds
  answered_behind answer x [] ds = refl
  answered_behind answer x (c ∷ cs) ds = ap (λ (as' : List _). answer x c ∷ as') (answered_behind answer (after x c) cs ds)
