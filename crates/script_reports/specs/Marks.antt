-- The marks of a sheet as bytes.
use Rattle.std.specs.Prelude.{ℕ, Bool, not, ◌==◌}
use Rattle.datasheet.specs.declared.sheet.Marks.{Marks}

-- a mark is no at 0 and yes at any other value
abbrev pub mark : ℕ → Bool
mark n = not (n == 0)

abbrev pub marks_by : ℕ → ℕ → ℕ → Marks
marks_by drop sleep fast = record { drop = mark drop; sleep = mark sleep; fast = mark fast }
