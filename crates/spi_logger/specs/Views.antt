-- What a logger of the code has logged.
use Rattle.std.specs.Borrow.{GName}
use Rattle.spi_logger.specs.Logged.{Logged}
use Rattle.spi_logger.specs.declared.Logger.{Logger}

abbrev pub logged_by : {P : Type 0} → Logger P → Logged
logged_by p = record { buffer = p.buffer.now; count = p.count }

-- what it was given
abbrev pub logger_lent : {P L : Type 0} → (P → L) → Logger P → GName × L
logger_lent lent p = (p.buffer.ghost_name, lent p.pins)
