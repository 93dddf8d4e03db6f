-- What a rise of SCK does, which takes SI as the next bit.
use Rattle.std.specs.Prelude.{ℕ, ◌-◌, ◌%◌, Bool, true, false, if◌then◌else◌, ◌&&◌, List, length, ◌==◌, nat_le, Some, Option}
use Rattle.datasheet.specs.declared.sheet.Sheet.{Sheet}
use Rattle.datasheet.specs.declared.command.Command.{Command}
use Rattle.datasheet.specs.declared.command.Command.TheVariants.{Wren, Wrdi, Wrsr, Write}
use Rattle.datasheet.specs.Bits.{byte_after}
use Rattle.datasheet.specs.Records.{Record, latched, storing, writing}
use Rattle.datasheet.specs.Protection.{may_write, may_store}
use Rattle.datasheet.specs.Sessions.{command, cell_at}

-- whether bit n completes a data byte of WRITE: n = 32 + 8k for data byte k, counted from 0
abbrev pub completes : ℕ → Bool
completes n = nat_le 32 n && n % 8 == 0

-- the record after bit n, by command; WP is at wp in that sample, x is the byte of the last eight bits, and a
-- the cell of the data byte that they are
abbrev pub effect : Sheet → Option Command → Bool → Record → ℕ → ℕ → ℕ → Record
effect s (Some Wren) wp r n a x = if n == 8 then latched true r else r
effect s (Some Wrdi) wp r n a x = if n == 8 then latched false r else r
effect s (Some Wrsr) wp r n a x = if n == 16 && may_store wp r then storing x r else r
effect s (Some Write) wp r n a x = if completes n && may_write s r a then writing a x r else r
effect s _ wp r n a x = r

-- the record after the rise that made the session these bits
abbrev pub after_rise : Sheet → Bool → Record → List Bool → Record
after_rise s wp r bits =
    effect s (command s bits) wp r (length bits) (cell_at s 32 bits) (byte_after (length bits - 8) bits)
