-- What the driver of the code shows and was given.
use Rattle.std.specs.Prelude.{ℕ}
use Rattle.datasheet.specs.declared.registers.Registers.{Registers}
use Rattle.spi_model.specs.Buses.{Bus}
use Rattle.board_model.specs.Images.{Image}
use Rattle.spi_driver.specs.Drives.{image_of}
use Rattle.spi_driver.specs.Beneath.{DriverBeneath}
use Rattle.spi_driver.specs.declared.driver.Driver.{Driver}

abbrev pub driver_image : {B : Type 0} (meaning : B → Bus Registers) {g : _} → Driver B g → Image
driver_image meaning d = image_of (meaning d.bus)

abbrev pub driver_lent : {B L : Type 0} (meaning : B → Bus Registers) (lent : B → L) {g : _} → Driver B g → ℕ × L
driver_lent meaning lent d = ((meaning d.bus).rec.stored, lent d.bus)

-- all that stands below it
abbrev pub driver_beneath : {B L : Type 0} (meaning : B → Bus Registers) (lent : B → L) {g : _} → Driver B g → DriverBeneath L
driver_beneath meaning lent d = record { bus = meaning d.bus; lent = lent d.bus }
