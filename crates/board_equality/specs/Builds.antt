-- What a board answers, whatever it is built of.
use Rattle.std.specs.Prelude.{List}
use Rattle.board.specs.declared.ReadBoard.{Ghosts}
use Rattle.board_model.specs.Calls.{BoardCall, BoardAnswer, answers_below}

-- what a board is answered a list of calls, made one after the other; `build` says of a board of this build what stands
-- below it, which image it shows of that, and what an accepted write puts there
abbrev pub answers_of : {B : Type 0} → Ghosts B → B → List BoardCall → List BoardAnswer
answers_of build board calls = answers_below build.shows build.put (build.beneath board) calls
