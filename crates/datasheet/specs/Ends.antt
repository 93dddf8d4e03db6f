-- What the end of a session does.
use Rattle.std.specs.Prelude.{ℕ, Bool, false, if◌then◌else◌, List, length, ◌==◌, Some, Option}
use Rattle.datasheet.specs.declared.sheet.Sheet.{Sheet}
use Rattle.datasheet.specs.declared.command.Command.{Command}
use Rattle.datasheet.specs.declared.command.Command.TheVariants.{Wrsr, Write, Sleep}
use Rattle.datasheet.specs.Records.{Record, latched, falling_asleep}
use Rattle.datasheet.specs.Sessions.{command}

-- the record after the end of a session of n bits, by command
abbrev pub ended : Sheet → Option Command → Record → ℕ → Record
-- with the mark drop, WRSR and WRITE clear WEL
ended s (Some Wrsr) r n = if s.marks.drop then latched false r else r
ended s (Some Write) r n = if s.marks.drop then latched false r else r
-- SLEEP with exactly 8 bits sets the sleep mark
ended s (Some Sleep) r n = if n == 8 then falling_asleep r else r
-- no other command does anything
ended s _ r n = r

-- the record after the end of a session of these bits
abbrev pub after_end : Sheet → Record → List Bool → Record
after_end s r bits = ended s (command s bits) r (length bits)
