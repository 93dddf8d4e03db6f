-- Plain memory as a board.
use Rattle.std.specs.Prelude.{ℕ, List}
use Rattle.board_model.specs.Images.{Image}
use Rattle.board_model.specs.Results.{write_result, if_accepted}
use Rattle.board_model.specs.Layers.{plain, patched}
use Rattle.board.specs.declared.plain.Plain.{Plain}

abbrev pub plain_image : Plain → Image
plain_image p = plain p.memory.now

-- the lent memory after a write to the board over it; bytes past the limit are in no range
abbrev pub memory_after : List ℕ → ℕ → List ℕ → List ℕ
memory_after memory start bytes =
    if_accepted (write_result (plain memory) start bytes) (patched memory start bytes) memory
