-- A bus goes through the bytes that are exchanged.
use Rattle.std.proofs.Common.{refl}
use Rattle.datasheet.specs.Kept.{bounded}
use Rattle.spi_model.specs.Buses.{exchanged, read}
use Rattle.spi_bus.proofs.Listed.{Going}
use Rattle.spi_driver.specs.Exchanges.{all_exchanged, all_read}

pub goes : Going (exchanged bounded) (read bounded) (all_exchanged bounded) (all_read bounded)
goes = record { stays = λ m. refl; runs = λ m x xs. refl; ends = λ m. refl; answered = λ m x xs. refl }
