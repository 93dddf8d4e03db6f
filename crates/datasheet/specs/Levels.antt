-- The levels of the pin SO, their numbers and their names.
use Rattle.std.specs.Prelude.{ℕ, Bool, true, false, List, codes}
use Rattle.datasheet.specs.declared.level.Level.{Level}
use Rattle.datasheet.specs.declared.level.Level.TheVariants.{Low, High, HighZ}

-- the number by which a level is known
abbrev pub level_number : Level → ℕ
level_number Low = 0
level_number High = 1
level_number HighZ = 2

-- the text that names a level, by its codes
abbrev pub level_name : Level → List ℕ
level_name Low = codes "low"
level_name High = codes "high"
level_name HighZ = codes "high-Z"

-- SO driven to a bit
abbrev pub driven : Bool → Level
driven true = High
driven false = Low

-- the bit that is read off SO; high-Z is read as 1
abbrev pub read_as : Level → Bool
read_as Low = false
read_as High = true
read_as HighZ = true
