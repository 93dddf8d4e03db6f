-- The steps of the code, as the calls that they stand for.
use Rattle.std.specs.Prelude.{[], ◌∷◌}
use Rattle.datasheet.specs.Calls.{ChipCall, ChipCall.sample, cycle}
use Rattle.board_model.specs.Calls.{BoardCall, size, fence, read, write}
use Rattle.script.specs.declared.run.chips.ChipStep.{ChipStep}
use Rattle.script.specs.declared.run.chips.ChipStep.TheVariants.{Sample, PowerCycle}
use Rattle.script.specs.declared.run.reads.ReadStep.{ReadStep}
use Rattle.script.specs.declared.run.reads.ReadStep.TheVariants.{Size, ReadEight}
use Rattle.script.specs.declared.run.boards.BoardStep.{BoardStep}
use Rattle.script.specs.declared.run.boards.BoardStep.TheVariants.{Read, Fence, WriteEight, WriteOne}

abbrev pub chip_call_of : ChipStep → ChipCall
chip_call_of (Sample byte) = sample byte
chip_call_of PowerCycle = cycle

abbrev pub read_call_of : ReadStep → BoardCall
read_call_of Size = size
read_call_of (ReadEight start) = read start 8

abbrev pub board_call_of : BoardStep → BoardCall
board_call_of (Read step) = read_call_of step
board_call_of (Fence start) = fence start 8
board_call_of (WriteEight start bytes) = write start bytes.now
board_call_of (WriteOne start byte) = write start (byte.now ∷ [])
