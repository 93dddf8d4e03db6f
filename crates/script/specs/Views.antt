-- Steps and answers of the code, in the terms of the reading.
use Rattle.std.specs.Prelude.{◌≡◌, ℕ, List, [], ◌∷◌, length, take, drop, Ok, Err, Result, Some, None, Option}
use Rattle.std.specs.Borrow.{Bor}
use Rattle.datasheet.specs.declared.refusal.Refusal.{Refusal}
use Rattle.script.specs.declared.run.steps.Fault.{Fault}
use Rattle.script.specs.declared.run.steps.Fault.TheVariants.{UnknownKind, ShortStep}
use Rattle.script.specs.declared.run.steps.Steps.{Steps}
use Rattle.script.specs.declared.run.Answers.{Answers}
use Rattle.script.specs.Steps.{Kinds, First, step, unknown, short}
use Rattle.script.specs.Reading.{Reading, reads, stops, read_from}

-- what was found at the beginning of a script, its step as the call that it stands for
abbrev pub first_of : {S C : Type 0} → (S → C) → Result (S × Bor (List ℕ)) Fault → First C
first_of call (Ok p) = step (call p.0) p.1.now
first_of call (Err UnknownKind) = unknown
first_of call (Err ShortStep) = short

-- what the rest of a script is read as; the place of a fault counts from the beginning of the script
abbrev pub left : {X C : Type 0} → Kinds C → Steps X → Reading C
left kinds steps = read_from kinds (length steps.rest.now) [] (length steps.script.now) steps.rest.now

-- a call read in front of the rest
abbrev pub ahead : {C : Type 0} → C → Reading C → Reading C
ahead call (reads calls) = reads (call ∷ calls)
ahead call (stops e) = stops e

-- the first of the steps that are left comes, or the refusal that stops the reading, and nothing behind it
module _ {X S C : Type 0} (call : S → C) (kinds : Kinds C) where
  abbrev pub GivesStep : Steps X → Option (Result S Refusal) → Steps X → Type 0
  GivesStep old None new = (left kinds old ≡ reads []) × (left kinds new ≡ reads [])
  GivesStep old (Some (Ok s)) new = left kinds old ≡ ahead (call s) (left kinds new)
  GivesStep old (Some (Err e)) new = (left kinds old ≡ stops e) × (left kinds new ≡ reads [])

-- the bytes of the answers that a buffer holds
abbrev pub given : Answers → List ℕ
given answers = take answers.used answers.buffer.now

-- the rest of the buffer behind them
abbrev pub free : Answers → List ℕ
free answers = drop answers.used answers.buffer.now
