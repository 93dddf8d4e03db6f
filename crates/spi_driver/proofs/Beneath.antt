-- What stands below a driver after a write, by what its bus means then.
use Rattle.std.proofs.Common.{◌≡◌, ℕ, List, Ok, Err, Result}
use Rattle.datasheet.specs.declared.refusal.Refusal.{Refusal}
use Rattle.datasheet.specs.declared.registers.Registers.{Registers}
use Rattle.spi_model.specs.Buses.{Bus}
use Rattle.board_model.specs.Results.{write_result, if_accepted}
use Rattle.spi_driver.specs.Drives.{image_of, with_memory, memory_by, after_write}
use Rattle.spi_driver.specs.Beneath.{DriverBeneath, driver_put}

pub put_below : {L : Type 0} (b : Bus Registers) (start : ℕ) (bytes : List ℕ) {l m : L} {c : Bus Registers} → c ≡ after_write b start bytes → m ≡ l →
    ◌≡◌ {A = DriverBeneath L} (record { bus = c; lent = m })
    (if_accepted (write_result (image_of b) start bytes) (driver_put (record { bus = b; lent = l }) start bytes) (record { bus = b; lent = l }))
put_below {L} b start bytes {l} {m} {c} left same = go (write_result (image_of b) start bytes) left
  where
    go : (r : Result (Unit {0}) Refusal) → c ≡ with_memory b (memory_by r b.rec.memory start bytes) →
        ◌≡◌ {A = DriverBeneath L} (record { bus = c; lent = m })
        (if_accepted r (driver_put (record { bus = b; lent = l }) start bytes) (record { bus = b; lent = l }))
    go (Ok u) e = λ i. record { bus = e i; lent = same i }
    go (Err x) e = λ i. record { bus = e i; lent = same i }
