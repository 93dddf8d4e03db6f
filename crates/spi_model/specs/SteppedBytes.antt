-- A byte at a time: what a whole byte does to a chip that keeps the registers of a session of whole bytes.
use Rattle.std.specs.Prelude.{ℕ, ◌+◌, ◌-◌, ◌*◌, ◌/◌, ◌%◌, ◌^◌, Bool, true, false, if◌then◌else◌, not, ◌&&◌, ◌==◌, List, ◌∷◌, map, replicate, nat_le, nat_lt, slice_index, Some, None, Option}
use Rattle.datasheet.specs.declared.registers.Registers.{Registers}
use Rattle.datasheet.specs.declared.sheet.Sheet.{Sheet}
use Rattle.datasheet.specs.declared.command.Command.{Command}
use Rattle.datasheet.specs.declared.command.Command.TheVariants.{Rdsr, Read, Rdid, Fstrd}
use Rattle.datasheet.specs.declared.level.Level.{Level}
use Rattle.datasheet.specs.declared.level.Level.TheVariants.{HighZ}
use Rattle.datasheet.specs.Bits.{bit, bits_of}
use Rattle.datasheet.specs.Levels.{driven, read_as}
use Rattle.datasheet.specs.Sheets.{cells, identity}
use Rattle.datasheet.specs.Records.{Record, status}
use Rattle.datasheet.specs.Commands.{first_data}
use Rattle.datasheet.specs.Places.{next_place}
use Rattle.datasheet.specs.Rises.{effect}
use Rattle.datasheet.specs.Kept.{command_in, fall_kept}
use Rattle.spi_model.specs.Moments.{Moment}

-- whether a session has a whole number of bytes, by its bit counter
abbrev pub whole_bytes : Registers → Bool
whole_bytes k = k.count % 8 == 0 && nat_le k.count 40

-- an open session has a whole number of bytes
abbrev pub whole_session : Option Registers → Bool
whole_session None = true
whole_session (Some k) = whole_bytes k

-- the registers after one byte more: the first byte is the op-code, the next two go into the address counter,
-- and each whole data byte moves it to the place one byte on
abbrev pub taken_byte : Sheet → Registers → ℕ → Registers
taken_byte s k x =
    record {
      count = if nat_le 40 k.count then 40 else k.count + 8;
      code = if nat_lt k.count 8 then x else k.code;
      place =
          if nat_lt k.count 8 then k.place
          else if nat_lt k.count 24 then (256 * k.place + x) % cells s
          else if nat_le (first_data (command_in s k)) k.count then next_place s k.place
          else k.place;
      shift = x;
    }

-- the byte of cell a that is shown with it after n bits, where the data begin after `first` bits
abbrev pub data_byte : ℕ → Record → ℕ → ℕ → ℕ
data_byte first r n a = if nat_le first n then slice_index r.memory a % 256 else 0xFF

-- the byte that is shown with it, after n bits, by command; a is the cell that the session has come to
abbrev pub shown_byte : Sheet → Option Command → Record → ℕ → ℕ → ℕ
shown_byte s (Some Rdsr) r n a = status r % 256
shown_byte s (Some Rdid) r n a =
    if nat_le n 32 then identity s / 2 ^ (32 - n) % 256
    -- the last bit holds
    else 255 * (identity s % 2)
shown_byte s (Some Read) r n a = data_byte 24 r n a
shown_byte s (Some Fstrd) r n a = data_byte 32 r n a
shown_byte s _ r n a = 0xFF

-- whether that byte is driven; elsewhere SO is high-Z, which is read as FFh
abbrev pub drives_byte : Option Command → ℕ → Bool
drives_byte (Some Rdsr) n = true
drives_byte (Some Rdid) n = true
drives_byte (Some Read) n = nat_le 24 n
drives_byte (Some Fstrd) n = nat_le 32 n
drives_byte _ n = false

module _ (s : Sheet) where
  -- the record after the byte: only its last bit changes it
  abbrev pub record_after : Bool → Record → Registers → ℕ → Record
  record_after wp r k x =
      let next : Registers = taken_byte s k x in
      effect s (command_in s next) wp r next.count k.place x

  -- a chip in a session after one byte more; a session that began asleep takes nothing and drives nothing
  abbrev pub step_byte : Bool → Moment Registers → ℕ → Moment Registers
  step_byte wp m x =
      let rec : Record = record_after wp m.rec m.kept x in
      let kept : Registers = taken_byte s m.kept x in
      if m.rec.asleep then record m { so = HighZ }
      else record { rec = rec; kept = kept; so = fall_kept s rec kept }

  -- what SO shows at the eight rises of a byte: at the first what it shows before, at the others the low
  -- seven bits of the byte that is shown, or high-Z where none is driven
  abbrev pub levels_read : Moment Registers → List Level
  levels_read m =
      let c : Option Command = command_in s m.kept in
      let n : ℕ = m.kept.count in
      let shown : ℕ = shown_byte s c m.rec n m.kept.place in
      m.so ∷ (if not m.rec.asleep && drives_byte c n then map driven (bits_of 7 shown) else replicate 7 HighZ)

  -- the byte that is read off them: its highest bit is what SO shows before the first rise
  abbrev pub read_byte : Moment Registers → ℕ
  read_byte m =
      let shown : ℕ = shown_byte s (command_in s m.kept) m.rec m.kept.count m.kept.place in
      128 * bit (read_as m.so) + (if m.rec.asleep then 127 else shown % 128)
