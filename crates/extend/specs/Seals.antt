-- A sealed board: its cells, all of them fenced.
use Rattle.std.specs.Prelude.{true, map}
use Rattle.board_model.specs.declared.Cell.{Cell}
use Rattle.board_model.specs.Images.{Image}
use Rattle.extend.specs.declared.sealed.Sealed.{Sealed}

-- a cell with a fence
abbrev pub fence : Cell → Cell
fence c = record { byte = c.byte; fenced = true }

abbrev pub all_fenced : Image → Image
all_fenced i = map fence i

abbrev pub sealed_image : {B : Type 0} → (B → Image) → Sealed B → Image
sealed_image image s = all_fenced (image s.below)

abbrev pub sealed_lent : {B L : Type 0} → (B → L) → Sealed B → L
sealed_lent lent s = lent s.below

abbrev pub sealed_beneath : {B G : Type 0} → (B → G) → Sealed B → G
sealed_beneath beneath s = beneath s.below

abbrev pub sealed_shows : {G : Type 0} → (G → Image) → G → Image
sealed_shows shows g = all_fenced (shows g)
