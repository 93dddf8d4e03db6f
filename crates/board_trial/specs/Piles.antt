-- A pile of three: a window over a shield of one range over a board.
use Rattle.std.specs.Prelude.{ℕ, ◌+◌, [], ◌∷◌}
use Rattle.board_model.specs.declared.Range.{Range}
use Rattle.board_model.specs.Images.{Image}
use Rattle.board_model.specs.Layers.{windowed, base_of, shielded, stopped}

-- the shield's image
abbrev pub fenced_by : Range → Image → Image
fenced_by fenced i = shielded (stopped fenced ∷ []) i

-- the window's
abbrev pub piled : Range → ℕ → ℕ → Image → Image
piled fenced offset count i = windowed offset count (fenced_by fenced i)

-- the cell of the lowest board where the pile's cell lies
abbrev pub cell_in : Range → ℕ → Image → ℕ → ℕ
cell_in fenced offset i cell = base_of offset (fenced_by fenced i) + cell
