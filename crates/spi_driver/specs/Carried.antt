-- The samples of a transfer carry it out at the pins of the chip.
use Rattle.std.specs.Prelude.{◌≡◌, ℕ, ◌-◌, ◌<◌, Bool, false, List, [], ◌∷◌, length, drop, slice_index, Ok}
use Rattle.datasheet.specs.Chips.{deselected, whole}
use Rattle.datasheet.specs.Calls.{ChipState}
use Rattle.datasheet.specs.Kept.{bounded, kept_chip}
use Rattle.chip_laws.specs.Laws.{Fitted}
use Rattle.spi_model.specs.declared.mode.Mode.{Mode}
use Rattle.spi_model.specs.declared.bus_call.BusCall.{BusCall}
use Rattle.spi_model.specs.declared.bus_answer.BusAnswer.{BusAnswer}
use Rattle.spi_model.specs.declared.bus_answer.BusAnswer.TheVariants.{Done, Read}
use Rattle.spi_model.specs.Puts.{puts}
use Rattle.spi_model.specs.Samples.{rises}
use Rattle.spi_model.specs.Buses.{Bus}
use Rattle.spi_model.specs.Lines.{line_made, line_samples, line_answers}
use Rattle.spi_model.specs.Meanings.{made}
use Rattle.board_model.specs.Images.{bytes_of, part}
use Rattle.board_model.specs.Results.{read_result}
use Rattle.spi_driver.specs.Drives.{image_of, calm, after_write}
use Rattle.spi_driver.specs.Transfers.{transfer_calls}

-- the bytes that are read by a list of calls, in order
abbrev pub bytes_read : List BusAnswer → List ℕ
bytes_read [] = []
bytes_read (Done ∷ as') = bytes_read as'
bytes_read (Read x ∷ as') = x ∷ bytes_read as'

-- the last n of them
abbrev pub last : ℕ → List ℕ → List ℕ
last n xs = drop (length xs - n) xs

-- Bytes are written to any fitted chip, in whatever state it is, and so many cells read from the same start,
-- over a line in either mode, with any number of held samples. By the rules over the full list of bits, the
-- samples put to its pins leave the chip deselected, with the record that the write leaves: the bytes of an
-- accepted write in its memory, else the memory as it was. And what is read off SO at the rises of the bytes
-- that are exchanged last, as many as the cells of an accepted read, are those cells.
unfoldable pub CarriedOut : Type 0
CarriedOut =
    (mode : Mode) (wp : Bool) (waits : ℕ) (c : ChipState (List Bool))
    (start : ℕ) (bytes : List ℕ) (count : ℕ) →
    Fitted c → ((i : ℕ) → slice_index bytes i < 256) →
    let left : Bus (List Bool) = after_write (calm (made whole wp c)) start bytes in
    let calls : List BusCall = transfer_calls (made whole wp c) start bytes count in
    (transfer_calls (made bounded wp (kept_chip c)) start bytes count ≡ calls)
    × (puts whole c (rises mode wp ∷ line_samples mode wp waits false calls)
    ≡ record c { rec = left.rec; pins = deselected })
    × (read_result (image_of left) start count ≡ Ok tt →
    last count (bytes_read (line_answers whole mode wp waits (line_made whole mode wp c) calls))
    ≡ bytes_of (part (image_of left) start count))
