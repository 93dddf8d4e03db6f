-- What a row of the trial table says: of a chip by the rules over the full list of bits, of a window by its
-- image.
use Rattle.std.specs.Prelude.{ℕ, ◌+◌, ◌*◌, Bool, ◌&&◌, List, [], ◌∷◌, ◌++◌, map, length, take, drop, replicate, ◌==◌, slice_set}
use Rattle.std.proofs.Common.{lit≤}
use Rattle.std.specs.Str.{bytes_eq}
use Rattle.datasheet.specs.declared.part.Part.{Part}
use Rattle.datasheet.specs.declared.part.Part.TheVariants.{Mb85rs64vy, Mb85rs128ty, Mb85rs256b}
use Rattle.datasheet.specs.declared.sheet.Sheet.{Sheet}
use Rattle.datasheet.specs.Bits.{bit}
use Rattle.datasheet.specs.Parts.{density, marks}
use Rattle.datasheet.specs.Sheets.{cells}
use Rattle.datasheet.specs.Machines.{left_by}
use Rattle.datasheet.specs.Chips.{whole}
use Rattle.datasheet.specs.Calls.{ChipState, ChipCall, ChipCall.sample, ChipAnswer, powered, run, answers}
use Rattle.datasheet.specs.Mode0.{bits_of_bytes, session, read_at_rises}
use Rattle.board_model.specs.Layers.{plain, windowed}
use Rattle.chip_trial.specs.declared.Change.{Change}
use Rattle.chip_trial.specs.declared.WindowCase.{WindowCase}
use Rattle.chip_trial.specs.Cases.{Held, unheld, amid, low_at_the_start, Sent, PinRow, Row, pins, window}

-- the sheets of the parts, the upper bits of t 0; f is 09h for MB85RS256B, by its sheet, else 02h
abbrev pub sheet_of : Part → Sheet
sheet_of Mb85rs64vy =
    record {
      t = density Mb85rs64vy;
      f = 0x02;
      marks = marks Mb85rs64vy;
      known = (lit≤ tt, lit≤ tt);
      bytes = (lit≤ tt, lit≤ tt);
    }
sheet_of Mb85rs128ty =
    record {
      t = density Mb85rs128ty;
      f = 0x02;
      marks = marks Mb85rs128ty;
      known = (lit≤ tt, lit≤ tt);
      bytes = (lit≤ tt, lit≤ tt);
    }
sheet_of Mb85rs256b =
    record {
      t = density Mb85rs256b;
      f = 0x09;
      marks = marks Mb85rs256b;
      known = (lit≤ tt, lit≤ tt);
      bytes = (lit≤ tt, lit≤ tt);
    }

-- a memory of zeros
abbrev pub zeros : Part → List ℕ
zeros part = replicate (cells (sheet_of part)) 0

-- the bits of a session
abbrev pub bits_sent : Sent → List Bool
bits_sent s = take s.bits (bits_of_bytes s.bytes)

-- HOLD low when CS falls with SCK low, and let go with SCK high
abbrev pub low_then_let_go : List ChipCall
low_then_let_go = sample 0x08 ∷ sample 0x0A ∷ sample 0x1A ∷ []

-- the samples of a session, with those in which HOLD is low and is let go among them
abbrev pub with_hold : Held → List ChipCall → List ChipCall
with_hold unheld calls = calls
with_hold (amid n samples) calls = take (1 + 2 * n) calls ++ (map sample samples ++ drop (1 + 2 * n) calls)
with_hold low_at_the_start calls = low_then_let_go ++ calls

-- of their answers, those to the samples of the session itself
abbrev pub without_hold : Held → List ChipAnswer → List ChipAnswer
without_hold unheld shown = shown
without_hold (amid n samples) shown = take (1 + 2 * n) shown ++ drop (1 + 2 * n + length samples) shown
without_hold low_at_the_start shown = drop (length low_then_let_go) shown

abbrev pub samples_sent : Sent → List ChipCall
samples_sent s = with_hold s.hold (session (bits_sent s))

-- the chip after a session
abbrev pub sent_to : ChipState (List Bool) → Sent → ChipState (List Bool)
sent_to c s = run whole c (samples_sent s)

-- the chip after these sessions
abbrev pub all_sent_to : ChipState (List Bool) → List Sent → ChipState (List Bool)
all_sent_to = left_by sent_to

-- a memory after these changes
abbrev pub changed_by : List ℕ → List Change → List ℕ
changed_by = left_by (λ memory x. slice_set memory x.cell x.byte)

-- the chip of a row before its last session
abbrev pub ready : PinRow → ChipState (List Bool)
ready r = all_sent_to (powered (sheet_of r.part) (zeros r.part) r.stored) r.before

-- the bits that are read in the last session
abbrev pub bits_read : PinRow → List Bool
bits_read r = read_at_rises (without_hold r.last.hold (answers whole (ready r) (samples_sent r.last)))

-- the memory after the last session
abbrev pub memory_left : PinRow → List ℕ
memory_left r = (sent_to (ready r) r.last).rec.memory

-- the bits that are read are those of the bytes that must be seen, and the memory has the changes of the row
-- and no other; two bits are compared as numbers
abbrev pub right_pins : PinRow → Bool
right_pins r =
    bytes_eq (map bit (bits_read r)) (map bit (take r.last.bits (bits_of_bytes r.seen)))
    && bytes_eq (memory_left r) (changed_by (zeros r.part) r.changed)

-- the window of a row, over so many cells of plain memory, has the size of the row
abbrev pub right_window : WindowCase → Bool
right_window r = length (windowed r.offset r.count (plain (replicate r.cells 0))) == r.size

abbrev pub right : Row → Bool
right (pins r) = right_pins r
right (window r) = right_window r
