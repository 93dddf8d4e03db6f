-- A pile of dumps: a window over a shield of one range over a join of two dumps.
use Rattle.std.specs.Prelude.{ℕ, List}
use Rattle.board_model.specs.declared.Range.{Range}
use Rattle.board_model.specs.Images.{Image}
use Rattle.board_model.specs.Layers.{joined, dumped}
use Rattle.board_trial.specs.Piles.{piled}

abbrev pub dump_pile : Range → ℕ → ℕ → List ℕ → List ℕ → Image
dump_pile fenced offset count lower upper = piled fenced offset count (joined (dumped lower) (dumped upper))
