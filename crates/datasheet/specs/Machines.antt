-- What takes calls, one after the other: what a list of them leaves, and what it is answered.
use Rattle.std.specs.Prelude.{List, [], ◌∷◌}

module _ {X C : Type 0} (after : X → C → X) where
  -- what a list of calls leaves
  abbrev pub left_by : X → List C → X
  left_by x [] = x
  left_by x (c ∷ cs) = left_by (after x c) cs

  -- what it is answered
  abbrev pub answered_by : {A : Type 0} → (X → C → A) → X → List C → List A
  answered_by answer x [] = []
  answered_by answer x (c ∷ cs) = answer x c ∷ answered_by answer (after x c) cs
