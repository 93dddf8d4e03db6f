-- The laws of the bus.
use Rattle.std.specs.Prelude.{◌≡◌, ℕ, ◌%◌, ◌<◌, Bool, true, false, List, [], ◌∷◌, map, length, Some, None, Option}
use Rattle.datasheet.specs.declared.registers.Registers.{Registers}
use Rattle.datasheet.specs.declared.sheet.Sheet.{Sheet}
use Rattle.datasheet.specs.declared.level.Level.{Level}
use Rattle.datasheet.specs.declared.sample.Sample.{Sample}
use Rattle.datasheet.specs.Bits.{bits_of}
use Rattle.datasheet.specs.Samples.{byte_of}
use Rattle.datasheet.specs.Chips.{Keeping, in_spoiled, whole}
use Rattle.datasheet.specs.Calls.{ChipState, ChipCall, ChipCall.sample, shows, run as run_calls, answers as answers_calls}
use Rattle.datasheet.specs.Kept.{kept, bounded}
use Rattle.spi_model.specs.declared.mode.Mode.{Mode}
use Rattle.spi_model.specs.declared.mode.Mode.TheVariants.{Mode0}
use Rattle.spi_model.specs.declared.bus_call.BusCall.{BusCall}
use Rattle.spi_model.specs.declared.bus_call.BusCall.TheVariants.{Select, Exchange, Deselect}
use Rattle.spi_model.specs.declared.bus_answer.BusAnswer.{BusAnswer}
use Rattle.spi_model.specs.declared.bus_answer.BusAnswer.TheVariants.{Done, Read}
use Rattle.spi_model.specs.Puts.{puts, shown_by}
use Rattle.spi_model.specs.Samples.{rest, byte_samples, at_rises, session_samples}
use Rattle.spi_model.specs.Moments.{Moment, after_bits, reads}
use Rattle.spi_model.specs.Reads.{read_off}
use Rattle.spi_model.specs.SteppedBytes.{whole_bytes, step_byte, levels_read, read_byte}
use Rattle.spi_model.specs.SteppedChips.{stepped_run, stepped_answers}
use Rattle.spi_model.specs.Buses.{Bus, after, answer, run, answers, session_calls}
use Rattle.spi_model.specs.Lines.{AtLine, line_made, line_after, line_answer, line_run, line_answers, line_samples}
use Rattle.spi_model.specs.Meanings.{chip_at, kept_of, made, meaning_of, next_read, AtRest}

-- A chip to which samples are put by their bytes, in a list of calls, gives the same answers and becomes the
-- same chip.
abbrev pub AsCalls : Keeping → Type 0
AsCalls K =
    (c : ChipState K.Kept) (xs : List Sample) →
    let calls : List ChipCall = map (λ (x : Sample). sample (byte_of x)) xs in
    (run_calls K c calls ≡ puts K c xs) × (answers_calls K c calls ≡ map shows (shown_by K c xs))

-- ## A byte

-- A byte is what the rules of the pins do at the rises and falls of its bits. A fitted chip is in a session,
-- SCK at rest and HOLD high, with any record, any session and any level of SO, of which m.so is what the next
-- rise reads: then, in both modes and with any number of held samples, the samples of a byte take its eight
-- bits, and what SO shows at the rises are the levels that are read. From any other state the sample that
-- makes a line leads there.
abbrev pub ByteAtPins : Keeping → Type 0
ByteAtPins K =
    (mode : Mode) (wp : Bool) (waits : ℕ) (s : Sheet) (m : Moment K.Kept) (so : Level) (x : ℕ) →
    next_read K mode s m.rec m.kept so ≡ m.so →
    let xs : List Sample = byte_samples mode wp waits x in
    let after : Moment K.Kept = after_bits K s wp m (bits_of 8 x) in
    ((now : Level)
    × (puts K (chip_at mode s m so) xs ≡ chip_at mode s after now)
    × (next_read K mode s after.rec after.kept now ≡ after.so))
    × (at_rises (rest mode) xs (shown_by K (chip_at mode s m so) xs) ≡ reads K s wp m (bits_of 8 x))

-- In a session of whole bytes a byte can be taken at once: its eight bits, one after the other, lead to the
-- same chip, SO shows the same levels at their rises, and so the same byte is read.
abbrev pub ByteAtOnce : Type 0
ByteAtOnce =
    (s : Sheet) (wp : Bool) (m : Moment Registers) (x : ℕ) → whole_bytes m.kept ≡ true → x < 256 →
    (after_bits bounded s wp m (bits_of 8 x) ≡ step_byte s wp m x)
    × (reads bounded s wp m (bits_of 8 x) ≡ levels_read s m)
    × (read_off (levels_read s m) ≡ read_byte s m)

-- ## Calls

-- A sample with CS high makes a bus of a chip, whatever state it is in: any session of it has ended.
abbrev pub Makes : Keeping → Type 0
Makes K =
    (mode : Mode) (wp : Bool) (c : ChipState K.Kept) →
    AtRest K mode (line_made K mode wp c) × (meaning_of K wp (line_made K mode wp c) ≡ made K wp c)

-- Each call at the pins does to what a line means what the call of a bus does, answers what that answers, and
-- leaves the pins at rest, as it found them.
abbrev pub Follows : Keeping → Type 0
Follows K =
    (mode : Mode) (wp : Bool) (waits : ℕ) (l : AtLine K.Kept) (x : BusCall) → AtRest K mode l →
    AtRest K mode (line_after K mode wp waits l x)
    × (meaning_of K wp (line_after K mode wp waits l x) ≡ after K (meaning_of K wp l) x)
    × (line_answer K mode wp waits l x ≡ answer K (meaning_of K wp l) x)

-- ## Lists of calls

-- From any state of the chip: a line that is made over it and makes any list of calls answers what a bus over
-- the chip answers, and leads to what that means. So its records are those of the bus.
abbrev pub LineIsBus : Keeping → Type 0
LineIsBus K =
    (mode : Mode) (wp : Bool) (waits : ℕ) (c : ChipState K.Kept) (xs : List BusCall) →
    (line_answers K mode wp waits (line_made K mode wp c) xs ≡ answers K (made K wp c) xs)
    × (meaning_of K wp (line_run K mode wp waits (line_made K mode wp c) xs) ≡ run K (made K wp c) xs)

-- Two lines that mean the same, each clocked in its own way, give equal answers to every list of calls, and
-- come to mean the same: so their records are equal too.
abbrev pub Same : Keeping → Type 0
Same K =
    (mode other : Mode) (wp : Bool) (waits pauses : ℕ) (l m : AtLine K.Kept) (xs : List BusCall) →
    AtRest K mode l → AtRest K other m → meaning_of K wp l ≡ meaning_of K wp m →
    (line_answers K mode wp waits l xs ≡ line_answers K other wp pauses m xs)
    × (meaning_of K wp (line_run K mode wp waits l xs) ≡ meaning_of K wp (line_run K other wp pauses m xs))

-- A line never spoils a session: made over a fitted chip in any state, in either mode and with any number of held
-- samples, it leaves no session of its chip spoiled, just made and after each list of calls.
abbrev pub NeverSpoils : Keeping → Type 0
NeverSpoils K =
    (mode : Mode) (wp : Bool) (waits : ℕ) (c : ChipState K.Kept) (xs : List BusCall) → c.fitted ≡ true →
    in_spoiled (line_run K mode wp waits (line_made K mode wp c) xs).chip.pins ≡ false

-- every byte that is sent is one
abbrev pub Bytes : List BusCall → Type 0
Bytes [] = Unit {0}
Bytes (Select ∷ xs) = Bytes xs
Bytes (Exchange x ∷ xs) = (x < 256) × Bytes xs
Bytes (Deselect ∷ xs) = Bytes xs

-- Both buses mean the same: a chip stepped by bytes and a line, in either mode and with any number of held
-- samples, that mean the same, give equal answers to every list of calls, and come to mean the same: so their
-- records are equal too.
abbrev pub BothBuses : Type 0
BothBuses =
    (mode : Mode) (wp : Bool) (waits : ℕ) (b l : AtLine Registers) (xs : List BusCall) → Bytes xs →
    AtRest bounded Mode0 b → whole_bytes (kept_of bounded b.chip) ≡ true → AtRest bounded mode l →
    meaning_of bounded wp b ≡ meaning_of bounded wp l →
    (stepped_answers wp b xs ≡ line_answers bounded mode wp waits l xs)
    × (meaning_of bounded wp (stepped_run wp b xs)
    ≡ meaning_of bounded wp (line_run bounded mode wp waits l xs))

-- The samples of a whole session, whatever the chip is and does: CS falls, the bytes are clocked, CS rises.
abbrev pub SessionSamples : Type 0
SessionSamples =
    (mode : Mode) (wp : Bool) (waits : ℕ) (bytes : List ℕ) →
    line_samples mode wp waits false (session_calls bytes) ≡ session_samples mode wp waits bytes

-- ## A blank chip

-- the answers of a chip whose SO is never driven: an exchange reads FFh
abbrev pub undriven : BusCall → BusAnswer
undriven Select = Done
undriven (Exchange x) = Read 0xFF
undriven Deselect = Done

-- A blank chip answers FFh to every exchange, and no list of calls changes its record.
abbrev pub BlankReadsOnes : Keeping → Type 0
BlankReadsOnes K =
    (b : Bus K.Kept) (xs : List BusCall) → b.fitted ≡ false →
    (answers K b xs ≡ map undriven xs) × ((run K b xs).rec ≡ b.rec)

-- ## What is kept of a session

abbrev pub kept_session : Sheet → Option (List Bool) → Option Registers
kept_session s None = None
kept_session s (Some bits) = Some (kept s bits)

abbrev pub kept_bus : Bus (List Bool) → Bus Registers
kept_bus b =
    record {
      sheet = b.sheet;
      wp = b.wp;
      fitted = b.fitted;
      rec = b.rec;
      session = kept_session b.sheet b.session;
    }

-- What a bus keeps of a session is enough: every list of calls gets the same answers as by the rules over the
-- full list of bits, and leads to the same record, and to a session of which the same is kept.
abbrev pub BusKeepsEnough : Type 0
BusKeepsEnough =
    (b : Bus (List Bool)) (xs : List BusCall) →
    (answers bounded (kept_bus b) xs ≡ answers whole b xs)
    × (run bounded (kept_bus b) xs ≡ kept_bus (run whole b xs))

-- a session of whole bytes, or none
abbrev pub WholeBytes : Option (List Bool) → Type 0
WholeBytes None = Unit {0}
WholeBytes (Some bits) = length bits % 8 ≡ 0

-- A session on a bus always has a whole number of bytes.
abbrev pub StaysWhole : Type 0
StaysWhole =
    (b : Bus (List Bool)) (xs : List BusCall) → WholeBytes b.session → WholeBytes (run whole b xs).session
