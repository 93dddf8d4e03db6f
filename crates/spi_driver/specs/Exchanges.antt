-- Bytes exchanged one after the other in a session of a bus.
use Rattle.std.specs.Prelude.{ℕ, List, map}
use Rattle.datasheet.specs.Chips.{Keeping}
use Rattle.datasheet.specs.Machines.{left_by, answered_by}
use Rattle.spi_model.specs.declared.bus_call.BusCall.{BusCall}
use Rattle.spi_model.specs.declared.bus_call.BusCall.TheVariants.{Exchange}
use Rattle.spi_model.specs.Buses.{Bus, exchanged, read}

-- the calls that exchange them
abbrev pub exchanges : List ℕ → List BusCall
exchanges xs = map (λ (x : ℕ). Exchange x) xs

module _ (K : Keeping) where
  -- the bus after them
  abbrev pub all_exchanged : Bus K.Kept → List ℕ → Bus K.Kept
  all_exchanged = left_by (exchanged K)

  -- the bytes that are read with them
  abbrev pub all_read : Bus K.Kept → List ℕ → List ℕ
  all_read = answered_by (exchanged K) (read K)
