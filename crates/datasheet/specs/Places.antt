-- A place: the cell at which an address counter stands. It alone is kept, and no count of how often it rolled over.
use Rattle.std.specs.Prelude.{ℕ, zero, suc, ◌+◌, ◌%◌}
use Rattle.datasheet.specs.declared.sheet.Sheet.{Sheet}
use Rattle.datasheet.specs.Sheets.{cells}

-- the place one byte on: the address is incremented, and from the most significant address it rolls over to the
-- starting address, cell 0; so of the sum the remainder is kept, and the quotient dropped
abbrev pub next_place : Sheet → ℕ → ℕ
next_place s place = (place + 1) % cells s

-- so many times the place one byte on
abbrev pub places_on : Sheet → ℕ → ℕ → ℕ
places_on s place zero = place
places_on s place (suc k) = next_place s (places_on s place k)
