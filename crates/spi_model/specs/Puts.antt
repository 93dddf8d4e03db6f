-- Samples put one after the other.
use Rattle.std.specs.Prelude.{List}
use Rattle.datasheet.specs.declared.level.Level.{Level}
use Rattle.datasheet.specs.declared.sample.Sample.{Sample}
use Rattle.datasheet.specs.Machines.{left_by, answered_by}
use Rattle.datasheet.specs.Chips.{Keeping}
use Rattle.datasheet.specs.Calls.{ChipState, so, put}

-- what they lead to, where f says what a sample makes of a T: of a chip, or of what is kept of the samples
abbrev pub tracing : {T : Type 0} → (T → Sample → T) → T → List Sample → T
tracing = left_by

module _ (K : Keeping) where
  -- what they make of a chip, by the rules of the pins
  abbrev pub puts : ChipState K.Kept → List Sample → ChipState K.Kept
  puts c xs = tracing (put K) c xs

  -- what SO shows after each of them
  abbrev pub shown_by : ChipState K.Kept → List Sample → List Level
  shown_by = answered_by (put K) (λ c x. so (put K c x))
