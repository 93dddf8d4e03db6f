-- An image: what a board means, its cells in order.
use Rattle.std.specs.Prelude.{ℕ, ◌+◌, Bool, true, false, if◌then◌else◌, List, [], ◌∷◌, ◌++◌, map, length, take, drop, Some, None, Option, nat_le}
use Rattle.board_model.specs.declared.Cell.{Cell}

abbrev pub Image : Type 0
Image = List Cell

-- the most cells that a board has
abbrev pub most : ℕ
most = 1048576

-- a range of count places from start on lies in the image
abbrev pub inside : Image → ℕ → ℕ → Bool
inside i start count = nat_le (start + count) (length i)

-- the cells of that range
abbrev pub part : Image → ℕ → ℕ → List Cell
part i start count = take count (drop start i)

-- the bytes of some cells
abbrev pub bytes_of : List Cell → List ℕ
bytes_of cs = map (λ c. c.byte) cs

-- the place of the first fenced cell, where the first cell of the list stands at this place
abbrev pub first_fenced : ℕ → List Cell → Option ℕ
first_fenced at [] = None
first_fenced at (c ∷ cs) = if c.fenced then Some at else first_fenced (at + 1) cs

-- the first fenced place in a range
abbrev pub fence_in : Image → ℕ → ℕ → Option ℕ
fence_in i start count = first_fenced start (part i start count)

-- cells that take bytes from the first one on, and keep their fences
abbrev pub overlaid : List Cell → List ℕ → List Cell
overlaid [] bytes = []
overlaid (c ∷ cs) [] = c ∷ cs
overlaid (c ∷ cs) (b ∷ bytes) = record { byte = b; fenced = c.fenced } ∷ overlaid cs bytes

-- an image with bytes put from start on
abbrev pub overwritten : Image → ℕ → List ℕ → Image
overwritten i start bytes = take start i ++ overlaid (drop start i) bytes

-- a free cell
abbrev pub free : ℕ → Cell
free byte = record { byte = byte; fenced = false }

-- a fenced cell
abbrev pub fenced : ℕ → Cell
fenced byte = record { byte = byte; fenced = true }
