-- What a chip of the code holds, in the terms of the rules.
use Rattle.std.specs.Prelude.{ℕ, List}
use Rattle.datasheet.specs.Records.{Record}
use Rattle.chip.specs.declared.status.Status.{Status}

-- the record with these cells
abbrev pub held : List ℕ → Status → Record
held memory s = record { memory = memory; stored = s.stored.bits; latch = s.latch; asleep = s.asleep }
