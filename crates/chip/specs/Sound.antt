-- The memory of a chip of the code is sound, by what its type says.
use Rattle.std.proofs.Common.{refl}
use Rattle.datasheet.specs.Memory.{SoundMemory}
use Rattle.datasheet.specs.Sheets.{fits}
use Rattle.chip.specs.declared.chip.Chip.{Chip}

pub sound : (c : Chip) → SoundMemory c.sheet (fits c.sheet c.memory.now) c.memory.now
sound c = record { fit = refl; bytes = c.bytes }
