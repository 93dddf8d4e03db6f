-- What is always so of a chip's memory, whatever was put to the chip.
use Rattle.std.specs.Prelude.{◌≡◌, ℕ, ◌<◌, Bool, List, slice_index}
use Rattle.datasheet.specs.declared.sheet.Sheet.{Sheet}
use Rattle.datasheet.specs.Sheets.{fits}

-- it holds bytes, and the chip is fitted exactly if it has as many as its sheet says
pub record SoundMemory (s : Sheet) (fitted : Bool) (memory : List ℕ) : Type 0 where
  pub fit : fitted ≡ fits s memory
  pub bytes : (i : ℕ) → slice_index memory i < 256
