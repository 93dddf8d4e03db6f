-- The turns of a bus: calls, each with the place of its answer beside it.
use Rattle.std.specs.Prelude.{List, [], ◌∷◌, map, Some, None}
use Rattle.datasheet.specs.Chips.{Keeping}
use Rattle.spi_model.specs.declared.bus_call.BusCall.{BusCall}
use Rattle.spi_model.specs.declared.bus_answer.BusAnswer.{BusAnswer}
use Rattle.spi_model.specs.declared.bus_turn.BusTurn.{BusTurn}
use Rattle.spi_model.specs.Buses.{Bus, answers}

-- a call that is not made yet
abbrev pub unanswered : BusCall → BusTurn
unanswered x = record { call = x; answer = None }

-- the calls of turns, whether these have their answers or not
abbrev pub calls_of : List BusTurn → List BusCall
calls_of ts = map (λ (t : BusTurn). t.call) ts

-- calls, each with its answer beside it
abbrev pub answered : List BusCall → List BusAnswer → List BusTurn
answered [] [] = []
answered [] (a ∷ as') = []
answered (x ∷ xs) [] = []
answered (x ∷ xs) (a ∷ as') = record { call = x; answer = Some a } ∷ answered xs as'

module _ (K : Keeping) where
  -- what a list of calls comes to, made one after the other: all its calls, with all their answers
  abbrev pub turns_made : Bus K.Kept → List BusCall → List BusTurn
  turns_made b xs = answered xs (answers K b xs)
