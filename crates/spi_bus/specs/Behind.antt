-- What stands behind a bus: its chip, but for the pins and the session.
use Rattle.std.specs.Prelude.{Bool}
use Rattle.datasheet.specs.declared.sheet.Sheet.{Sheet}
use Rattle.datasheet.specs.Records.{Record}
use Rattle.datasheet.specs.Calls.{ChipState}
use Rattle.spi_model.specs.Buses.{Bus}

pub record Behind : Type 0 where
  pub sheet : Sheet
  pub fitted : Bool
  pub rec : Record

-- behind a bus
abbrev pub behind_bus : {S : Type 0} → Bus S → Behind
behind_bus b = record { sheet = b.sheet; fitted = b.fitted; rec = b.rec }

-- behind pins
abbrev pub behind_chip : {S : Type 0} → ChipState S → Behind
behind_chip c = record { sheet = c.sheet; fitted = c.fitted; rec = c.rec }
