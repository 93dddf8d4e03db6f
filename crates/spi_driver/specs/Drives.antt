-- What a driver shows of the chip behind its bus, and how it leaves the bus.
use Rattle.std.specs.Prelude.{ℕ, false, if◌then◌else◌, ◌&&◌, ◌==◌, List, [], ◌∷◌, ◌++◌, map, take, drop, slice_index, None, Ok, Err, Result}
use Rattle.datasheet.specs.declared.sheet.Sheet.{Sheet}
use Rattle.datasheet.specs.declared.refusal.Refusal.{Refusal}
use Rattle.datasheet.specs.declared.refusal.Refusal.TheVariants.{UnknownId}
use Rattle.datasheet.specs.Sheets.{density_of, is_sheet}
use Rattle.datasheet.specs.Records.{Record}
use Rattle.datasheet.specs.Protection.{first_protected}
use Rattle.datasheet.specs.declared.registers.Registers.{Registers}
use Rattle.datasheet.specs.Kept.{bounded}
use Rattle.spi_model.specs.Buses.{Bus, becoming, selected}
use Rattle.board_model.specs.Images.{Image, free, fenced}
use Rattle.board_model.specs.Results.{write_result}
use Rattle.board_model.specs.Layers.{patched}
use Rattle.spi_driver.specs.Exchanges.{all_read}

-- ## What it shows

-- the cells of a chip: its memory in order, the protected cells fenced, which are those from the first
-- protected one on
abbrev pub chip_image : Sheet → Record → Image
chip_image s r =
    map free (take (first_protected s r) r.memory) ++ map fenced (drop (first_protected s r) r.memory)

-- the image of a driver over a bus: the cells of its chip; of a blank chip none
abbrev pub image_of : {S : Type 0} → Bus S → Image
image_of b = if b.fitted then chip_image b.sheet b.rec else []

-- a record awake, the latch 0, with this memory; the stored bits stay
abbrev pub calmed : Record → List ℕ → Record
calmed r memory = record { memory = memory; stored = r.stored; latch = false; asleep = false }

-- no session is open, and the chip, if it is fitted, is awake and its latch 0
abbrev pub calm : {S : Type 0} → Bus S → Bus S
calm b = becoming b (if b.fitted then calmed b.rec b.rec.memory else b.rec) None

-- the bytes that are read by RDID from a bus whose sessions have ended and whose chip is awake: the first is
-- read with the op-code
abbrev pub identity_of : Bus Registers → List ℕ
identity_of b = all_read bounded (selected bounded (calm b)) (0x9F ∷ 0 ∷ 0 ∷ 0 ∷ 0 ∷ [])

-- the density by the bytes of an ID, which come behind the byte that is read with the op-code: the ID is
-- known if it is 04h, 7Fh and a t with d from 1 to 5
abbrev pub density_by : List ℕ → Result ℕ Refusal
density_by id =
    let t : ℕ = slice_index id 3 in
    if slice_index id 1 == 0x04 && (slice_index id 2 == 0x7F && is_sheet t)
    then Ok (density_of t)
    else Err UnknownId

-- the probe question: d, or the refusal where the ID is not known, which is that of a blank chip
abbrev pub probed : {S : Type 0} → Bus S → Result ℕ Refusal
probed b = if b.fitted then Ok (density_of b.sheet.t) else Err UnknownId

-- ## A write

-- the same bus with this memory behind it
abbrev pub with_memory : {S : Type 0} → Bus S → List ℕ → Bus S
with_memory b memory = record b { rec = record b.rec { memory = memory } }

-- the memory after a write that was accepted or refused
abbrev pub memory_by : Result (Unit {0}) Refusal → List ℕ → ℕ → List ℕ → List ℕ
memory_by (Ok u) memory start bytes = patched memory start bytes
memory_by (Err e) memory start bytes = memory

-- an accepted write puts its bytes into the cells from start on, and changes nothing else; a refused one
-- changes nothing
abbrev pub after_write : {S : Type 0} → Bus S → ℕ → List ℕ → Bus S
after_write b start bytes = with_memory b (memory_by (write_result (image_of b) start bytes) b.rec.memory start bytes)
