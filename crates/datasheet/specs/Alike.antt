-- What nothing that can be sent tells apart.
use Rattle.std.specs.Prelude.{◌≡◌, List, All}

-- two things, of one kind or of two, that take the same calls; given are which calls can be sent, and of each thing
-- what it answers a list of calls: every list of calls that can be sent gets equal answers from both
abbrev pub Alike : {X Y C A : Type 0} → (C → Type 0) → (X → List C → List A) → (Y → List C → List A) → X → Y → Type 0
Alike {C = C} Sendable answers other_answers x y =
    (calls : List C) → All Sendable calls → answers x calls ≡ other_answers y calls
