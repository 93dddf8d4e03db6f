-- The byte that is read off SO.
use Rattle.std.specs.Prelude.{ℕ, List, map}
use Rattle.datasheet.specs.declared.level.Level.{Level}
use Rattle.datasheet.specs.Bits.{number}
use Rattle.datasheet.specs.Levels.{read_as}

-- from what SO shows at the rises of its bits, the highest bit first; high-Z is read as 1
abbrev pub read_off : List Level → ℕ
read_off levels = number (map read_as levels)
