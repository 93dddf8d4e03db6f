-- The parts whose data sheets the model follows.
use Rattle.std.specs.Prelude.{◌≡◌, ℕ}
use Rattle.datasheet.specs.declared.part.Part.{Part}
use Rattle.datasheet.specs.declared.part.Part.TheVariants.{Mb85rs64vy, Mb85rs128ty, Mb85rs256b}
use Rattle.datasheet.specs.declared.sheet.Sheet.{Sheet}
use Rattle.datasheet.specs.declared.sheet.Marks.{Marks}
use Rattle.datasheet.specs.Sheets.{third_byte, marks64vy, marks128ty, marks256b}

-- the density d of a part
abbrev pub density : Part → ℕ
density Mb85rs64vy = 3
density Mb85rs128ty = 4
density Mb85rs256b = 5

-- its marks
abbrev pub marks : Part → Marks
marks Mb85rs64vy = marks64vy
marks Mb85rs128ty = marks128ty
marks Mb85rs256b = marks256b

-- the sheet of a part; the upper bits of its third ID byte, and its fourth, are the caller's
pub record SheetOf (part : Part) (upper f : ℕ) (s : Sheet) : Type 0 where
  pub third : s.t ≡ third_byte upper (density part)
  pub fourth : s.f ≡ f
  pub marked : s.marks ≡ marks part
