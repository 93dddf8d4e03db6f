-- The op-code table.
use Rattle.std.specs.Prelude.{ℕ, Bool, true, if◌then◌else◌, ◌&&◌, List, [], ◌∷◌, ◌==◌, nat_lt, Some, None, Option}
use Rattle.datasheet.specs.declared.sheet.Sheet.{Sheet}
use Rattle.datasheet.specs.declared.sheet.Marks.{Marks}
use Rattle.datasheet.specs.declared.command.Command.{Command}
use Rattle.datasheet.specs.declared.command.Command.TheVariants.{Wren, Wrdi, Rdsr, Wrsr, Read, Write, Rdid, Fstrd, Sleep}

-- a row of the table: an op-code, its command, and whether the sheet has it
pub record OpCode : Type 0 where
  pub code : ℕ
  pub command : Command
  pub had : Bool

abbrev pub row : ℕ → Command → Bool → OpCode
row code command had = record { code = code; command = command; had = had }

-- the table of a sheet with these marks: some op-codes need a mark
abbrev pub table : Marks → List OpCode
table marks =
    row 0x06 Wren true
    ∷ row 0x04 Wrdi true
    ∷ row 0x05 Rdsr true
    ∷ row 0x01 Wrsr true
    ∷ row 0x03 Read true
    ∷ row 0x02 Write true
    ∷ row 0x9F Rdid true
    ∷ row 0x0B Fstrd marks.fast
    ∷ row 0xB9 Sleep marks.sleep
    ∷ []

-- the command of the first row with this op-code that the sheet has; an op-code that it lacks is no command
abbrev pub looked_up : List OpCode → ℕ → Option Command
looked_up [] code = None
looked_up (row ∷ rows) code = if row.had && code == row.code then Some row.command else looked_up rows code

-- the command of an op-code
abbrev pub command_of : Sheet → ℕ → Option Command
command_of s code = looked_up (table s.marks) code

-- the command of a session of n bits whose op-code is code: none before the op-code is whole
abbrev pub command_at : Sheet → ℕ → ℕ → Option Command
command_at s n code = if nat_lt n 8 then None else command_of s code

-- the number of bits before the first data bit, of a command with an address; FSTRD has a dummy byte besides
abbrev pub first_data : Option Command → ℕ
first_data (Some Fstrd) = 32
first_data _ = 24
