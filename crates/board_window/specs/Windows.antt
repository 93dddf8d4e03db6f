-- What a window of the code shows of the board below, and what it was given.
use Rattle.std.specs.Prelude.{ℕ}
use Rattle.board_model.specs.Images.{Image}
use Rattle.board_model.specs.Layers.{windowed}
use Rattle.board_model.specs.WindowBeneath.{WindowBeneath}
use Rattle.board_window.specs.declared.Window.{Window}

abbrev pub window_image : {B : Type 0} → (B → Image) → Window B → Image
window_image image w = windowed w.offset w.count (image w.below)

abbrev pub window_lent : {B L : Type 0} → (B → L) → Window B → ℕ × ℕ × L
window_lent lent w = (w.offset, w.count, lent w.below)

-- all that stands below, with the window's bounds
abbrev pub window_beneath : {B G : Type 0} → (B → G) → Window B → WindowBeneath G
window_beneath beneath w = record { offset = w.offset; count = w.count; below = beneath w.below }
