-- The whole script is read first, kind before length, and its first fault decides.
use Rattle.std.specs.Prelude.{ℕ, zero, suc, ◌-◌, List, [], ◌∷◌, ◌++◌, length, Ok, Err, Result}
use Rattle.datasheet.specs.declared.refusal.Refusal.{Refusal}
use Rattle.datasheet.specs.declared.refusal.Refusal.TheVariants.{UnknownKind, ShortStep}
use Rattle.script.specs.Steps.{Kinds, First, step, unknown, short, first}

-- all calls of a script, or the refusal for its first fault, with the place of the kind byte
pub data Reading (C : Type 0) : Type 0 where
  reads : List C → Reading C
  stops : Refusal → Reading C

-- on from the step that was read at this place, or stop there
abbrev pub follow : {C : Type 0} → First C → ℕ → (C → List ℕ → Reading C) → Reading C
follow (step call rest) place on = on call rest
follow unknown place on = stops (UnknownKind place)
follow short place on = stops (ShortStep place)

module _ {C : Type 0} (kinds : Kinds C) where
  -- at most `most` more steps from the rest of a script of `total` bytes; `past` has the calls read so far
  abbrev pub read_from : ℕ → List C → ℕ → List ℕ → Reading C
  read_from zero past total rest = reads past
  read_from (suc most) past total [] = reads past
  read_from (suc most) past total (b ∷ rest) =
      follow (first kinds (b ∷ rest)) (total - length (b ∷ rest))
      (λ call rest'. read_from most (past ++ call ∷ []) total rest')

  -- a script has no more steps than bytes
  abbrev pub read_script : List ℕ → Reading C
  read_script script = read_from (length script) [] (length script) script

-- the number of steps, or the refusal
abbrev pub counted : {C : Type 0} → Reading C → Result ℕ Refusal
counted (reads calls) = Ok (length calls)
counted (stops e) = Err e
