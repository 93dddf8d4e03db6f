-- What stands below a window: what stands below its board. A write goes on from where the window begins.
use Rattle.std.specs.Prelude.{ℕ, ◌+◌, List, Option}
use Rattle.board_model.specs.Images.{Image}
use Rattle.board_model.specs.Layers.{windowed, base_of}

-- all that stands below, with the window's bounds
pub record WindowBeneath (G : Type 0) : Type 0 where
  pub offset : ℕ
  pub count : ℕ
  pub below : G

module _ {G : Type 0} (shows : G → Image) where
  abbrev pub window_shows : WindowBeneath G → Image
  window_shows g = windowed g.offset g.count (shows g.below)

  -- where a cell of the window lies in the board below
  abbrev pub cell_below : WindowBeneath G → ℕ → ℕ
  cell_below g cell = base_of g.offset (shows g.below) + cell

  abbrev pub window_put : (G → ℕ → List ℕ → G) → WindowBeneath G → ℕ → List ℕ → WindowBeneath G
  window_put put g start bytes = record g { below = put g.below (cell_below g start) bytes }

  abbrev pub window_stands : {P : Type 0} → (G → ℕ → P) → WindowBeneath G → ℕ → P
  window_stands stands g cell = stands g.below (cell_below g cell)

abbrev pub window_byte_at : {G P : Type 0} → (G → P → Option ℕ) → WindowBeneath G → P → Option ℕ
window_byte_at byte_at g place = byte_at g.below place
