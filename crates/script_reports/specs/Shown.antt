-- The board of a chip.
use Rattle.std.specs.Prelude.{ℕ, false, if◌then◌else◌, List, []}
use Rattle.datasheet.specs.declared.sheet.Sheet.{Sheet}
use Rattle.spi_bus.specs.Behind.{Behind}
use Rattle.board_model.specs.Images.{Image}
use Rattle.spi_driver.specs.Drives.{chip_image}

-- the cells of the chip behind a bus; of a blank chip none
abbrev pub shown_behind : Behind → Image
shown_behind c = if c.fitted then chip_image c.sheet c.rec else []

-- the cells of a chip of this sheet just powered, over memory that fits it
abbrev pub shown_of : Sheet → List ℕ → ℕ → Image
shown_of s memory stored =
    chip_image s (record { memory = memory; stored = stored; latch = false; asleep = false })
