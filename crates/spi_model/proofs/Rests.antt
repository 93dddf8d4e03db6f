-- How a bus leaves the pins is a fact, with no more than one proof.
use Rattle.std.proofs.Common.{Bool}
use Rattle.std.proofs.Props.{props}
use Rattle.datasheet.specs.declared.sheet.Sheet.{Sheet}
use Rattle.datasheet.specs.Records.{Record}
use Rattle.datasheet.specs.Chips.{Keeping, PinState, deselected, selected}
use Rattle.spi_model.specs.declared.mode.Mode.{Mode}
use Rattle.spi_model.specs.Meanings.{PinsAt}

pub pins_at_prop : (K : Keeping) (mode : Mode) (s : Sheet) (r : Record) (p : PinState K.Kept) (o : Bool) → IsProp (PinsAt K mode s r p o)
pins_at_prop K mode s r deselected o = hlevel props
pins_at_prop K mode s r (selected x) o = hlevel props
