-- The number by which each refusal is known, and the place that two of them answer.
use Rattle.std.specs.Prelude.{ℕ, Some, None, Option}
use Rattle.datasheet.specs.declared.refusal.Refusal.{Refusal}
use Rattle.datasheet.specs.declared.refusal.Refusal.TheVariants.{NoSheet, MemoryLength, NotASample, OutOfRange, Fenced, UnknownId, ShieldFull, UnknownKind, ShortStep, ShortBuffer}

abbrev pub refusal_number : Refusal → ℕ
refusal_number NoSheet = 1
refusal_number MemoryLength = 2
refusal_number NotASample = 3
refusal_number OutOfRange = 4
refusal_number Fenced = 5
refusal_number UnknownId = 6
refusal_number ShieldFull = 7
refusal_number (UnknownKind place) = 8
refusal_number (ShortStep place) = 9
refusal_number ShortBuffer = 10

-- the place that a refusal answers besides its number: that of the kind byte of the step at fault
abbrev pub refusal_place : Refusal → Option ℕ
refusal_place (UnknownKind place) = Some place
refusal_place (ShortStep place) = Some place
refusal_place _ = None
