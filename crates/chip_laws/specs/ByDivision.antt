-- The cell by one division: for the law alone that says that no answer alters by it.
use Rattle.std.specs.Prelude.{ℕ, ◌+◌, ◌-◌, ◌%◌, Bool, List, [], ◌∷◌, ◌++◌, length}
use Rattle.datasheet.specs.declared.sheet.Sheet.{Sheet}
use Rattle.datasheet.specs.Bits.{byte_after}
use Rattle.datasheet.specs.Sheets.{cells}
use Rattle.datasheet.specs.Commands.{first_data}
use Rattle.datasheet.specs.Sessions.{command, address, data_bytes}
use Rattle.datasheet.specs.Rises.{effect}
use Rattle.datasheet.specs.Falls.{shown}
use Rattle.datasheet.specs.Chips.{Keeping, whole}

-- the cell that the session has come to, by one division: the address and all whole data bytes, modulo the number of
-- cells
abbrev pub cell_by_division : Sheet → ℕ → List Bool → ℕ
cell_by_division s from bits = (address s bits + data_bytes from bits) % cells s

-- the rules over the full list of bits, but for this cell
abbrev pub by_division : Keeping
by_division =
    record whole {
      rises = λ s wp r bits b.
          let next : List Bool = bits ++ b ∷ [] in
          effect s (command s next) wp r (length next) (cell_by_division s 32 next) (byte_after (length next - 8) next);
      shows = λ s r bits.
          shown s (command s bits) r (length bits) (cell_by_division s (first_data (command s bits)) bits);
    }
