-- What a write and the read behind it come to.
use Rattle.std.specs.Prelude.{ℕ, List, ◌++◌, length}
use Rattle.datasheet.specs.Records.{Record}
use Rattle.spi_model.specs.declared.bus_call.BusCall.{BusCall}
use Rattle.spi_model.specs.Buses.{Bus}
use Rattle.board_model.specs.Results.{read_result, read_into, write_result}
use Rattle.spi_driver.specs.declared.transfers.TransferOutcome.{TransferOutcome}
use Rattle.spi_driver.specs.Drives.{image_of, calm, after_write}
use Rattle.spi_driver.specs.Sessions.{probing, read_calls, write_calls}

-- what both are answered, what the buffer holds, and what is seen of the record that is left
pub record Transferred (Seen : Type 0) : Type 0 where
  pub outcome : TransferOutcome
  pub buffer : List ℕ
  pub left : Seen

-- through a driver over a bus: it is made, bytes are written, then the buffer is filled from the same start
unfoldable pub transferred_to : {S Seen : Type 0} → (Record → Seen) → Bus S → ℕ → List ℕ → List ℕ → Transferred Seen
transferred_to seen b start bytes buffer =
    let made = calm b in
    let after = after_write made start bytes in
    record {
      outcome = record { written = write_result (image_of made) start bytes; read = read_result (image_of after) start (length buffer) };
      buffer = read_into (image_of after) start buffer;
      left = seen after.rec;
    }

-- its bus calls: the driver is made, writes, and reads so many cells, each by what the bus means then
unfoldable pub transfer_calls : {S : Type 0} → Bus S → ℕ → List ℕ → ℕ → List BusCall
transfer_calls b start bytes count =
    let made = calm b in
    probing ++ (write_calls made start bytes ++ read_calls (after_write made start bytes) start count)

-- with power on the whole record is seen
abbrev pub transferred : {S : Type 0} → Bus S → ℕ → List ℕ → List ℕ → Transferred Record
transferred = transferred_to (λ (r : Record). r)

-- of a parked chip its memory and its stored bits
abbrev pub transferred_parked : {S : Type 0} → Bus S → ℕ → List ℕ → List ℕ → Transferred (List ℕ × ℕ)
transferred_parked = transferred_to (λ (r : Record). (r.memory, r.stored))
