-- The law of reading: what a script is. A row of steps is their bytes, one behind the other.
use Rattle.std.specs.Prelude.{◌≡◌, ℕ, ◌+◌, ◌<◌, ◌↔◌, List, [], ◌∷◌, ◌++◌, map, length, Some, None, slice_index}
use Rattle.std.specs.List.{concat}
use Rattle.datasheet.specs.declared.refusal.Refusal.TheVariants.{UnknownKind, ShortStep}
use Rattle.script.specs.Steps.{Kinds}
use Rattle.script.specs.Reading.{reads, stops, read_script}

module _ {C : Type 0} (kinds : Kinds C) where
  -- a whole step: a kind that the run knows, then a body of its length
  abbrev pub IsStep : List ℕ → Type 0
  IsStep bytes = (body : ℕ) × (kinds.body (slice_index bytes 0) ≡ Some body) × (length bytes ≡ 1 + body)

  -- whole steps
  abbrev pub AreSteps : List (List ℕ) → Type 0
  AreSteps [] = Unit {0}
  AreSteps (s ∷ steps) = IsStep s × AreSteps steps

  -- behind a row of whole steps stands a kind that the run does not know, at this place
  abbrev pub UnknownAt : List ℕ → ℕ → Type 0
  UnknownAt script place =
      (steps : List (List ℕ)) × (kind : ℕ) × (rest : List ℕ)
      × AreSteps steps × (script ≡ concat steps ++ kind ∷ rest) × (place ≡ length (concat steps))
      × (kinds.body kind ≡ None)

  -- behind a row of whole steps stands a kind that the run knows, at this place, and the script ends inside
  -- its body
  abbrev pub ShortAt : List ℕ → ℕ → Type 0
  ShortAt script place =
      (steps : List (List ℕ)) × (kind : ℕ) × (rest : List ℕ) × (body : ℕ)
      × AreSteps steps × (script ≡ concat steps ++ kind ∷ rest) × (place ≡ length (concat steps))
      × (kinds.body kind ≡ Some body) × (length rest < body)

  -- A script is read as these calls exactly if it is a row of whole steps that stand for them. It is refused
  -- with a place exactly if a fault stands at that place behind a row of whole steps.
  pub record ReadsExactly : Type 0 where
    pub whole : (script : List ℕ) (calls : List C) →
        (read_script kinds script ≡ reads calls)
        ↔ ((steps : List (List ℕ)) × AreSteps steps × (script ≡ concat steps) × (calls ≡ map kinds.call steps))
    pub unknown : (script : List ℕ) (place : ℕ) →
        (read_script kinds script ≡ stops (UnknownKind place)) ↔ UnknownAt script place
    pub short : (script : List ℕ) (place : ℕ) →
        (read_script kinds script ≡ stops (ShortStep place)) ↔ ShortAt script place
