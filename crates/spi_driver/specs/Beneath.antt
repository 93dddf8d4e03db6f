-- What stands below a driver: what its bus means, and what that was given.
use Rattle.std.specs.Prelude.{ℕ, List, Option, slice_get}
use Rattle.datasheet.specs.declared.registers.Registers.{Registers}
use Rattle.spi_model.specs.Buses.{Bus}
use Rattle.board_model.specs.Images.{Image}
use Rattle.board_model.specs.Layers.{patched}
use Rattle.spi_driver.specs.Drives.{image_of, with_memory}

pub record DriverBeneath (L : Type 0) : Type 0 where
  pub bus : Bus Registers
  pub lent : L

module _ {L : Type 0} where
  abbrev pub driver_shows : DriverBeneath L → Image
  driver_shows g = image_of g.bus

  -- the bytes of an accepted write are put into the chip's memory
  abbrev pub driver_put : DriverBeneath L → ℕ → List ℕ → DriverBeneath L
  driver_put g start bytes =
      record g { bus = with_memory g.bus (patched g.bus.rec.memory start bytes) }

  -- a place is one of the chip's memory, and each cell's byte stands at its own
  abbrev pub driver_byte_at : DriverBeneath L → ℕ → Option ℕ
  driver_byte_at g place = slice_get g.bus.rec.memory place
