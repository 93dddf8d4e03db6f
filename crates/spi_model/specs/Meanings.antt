-- What a bus over a chip means.
use Rattle.std.specs.Prelude.{◌≡◌, Bool, true, false, if◌then◌else◌, Some, None}
use Rattle.datasheet.specs.declared.sheet.Sheet.{Sheet}
use Rattle.datasheet.specs.declared.level.Level.{Level}
use Rattle.datasheet.specs.declared.course.Course.TheVariants.{Running}
use Rattle.datasheet.specs.Records.{Record}
use Rattle.datasheet.specs.Chips.{Keeping, OpenSession, PinState, deselected, selected, falling, closed_in}
use Rattle.datasheet.specs.Calls.{ChipState}
use Rattle.spi_model.specs.declared.mode.Mode.{Mode}
use Rattle.spi_model.specs.declared.mode.Mode.TheVariants.{Mode0, Mode3}
use Rattle.spi_model.specs.Moments.{Moment}
use Rattle.spi_model.specs.Samples.{rest}
use Rattle.spi_model.specs.Buses.{Bus}
use Rattle.spi_model.specs.Lines.{AtLine}

-- an open session that runs, SCK at rest, of which this is kept, while SO shows so
abbrev pub session_at : {S : Type 0} → Mode → S → Level → OpenSession S
session_at mode k so = record { sck = rest mode; course = Running; kept = k; so = so }

-- a fitted chip in such a session
abbrev pub chip_at : {S : Type 0} → Mode → Sheet → Moment S → Level → ChipState S
chip_at mode s m so =
    record { sheet = s; fitted = true; rec = m.rec; pins = selected (session_at mode m.kept so) }

module _ (K : Keeping) where
  -- the record after the end of the session, if one is open; a blank chip's stays
  abbrev pub record_ended : ChipState K.Kept → PinState K.Kept → Record
  record_ended c deselected = c.rec
  record_ended c (selected o) = if c.fitted then closed_in K c.sheet o.course c.rec o.kept else c.rec

  -- a bus that is made over a chip: any session of it has ended
  abbrev pub made : Bool → ChipState K.Kept → Bus K.Kept
  made wp c =
      record { sheet = c.sheet; wp = wp; fitted = c.fitted; rec = record_ended c c.pins; session = None }

  -- what is kept of the session of these pins
  abbrev pub kept_in : PinState K.Kept → K.Kept
  kept_in deselected = K.begin
  kept_in (selected o) = o.kept

  -- of a chip's session; a blank chip takes no bit
  abbrev pub kept_of : ChipState K.Kept → K.Kept
  kept_of c = if c.fitted then kept_in c.pins else K.begin

  abbrev pub meaning_of : Bool → AtLine K.Kept → Bus K.Kept
  meaning_of wp l =
      record {
        sheet = l.chip.sheet;
        wp = wp;
        fitted = l.chip.fitted;
        rec = l.chip.rec;
        session = if l.in_session then Some (kept_of l.chip) else None;
      }

  -- ## How a bus leaves the pins of a fitted chip

  -- the level that the next rise reads: in mode 0 what SO shows, in mode 3 what the fall before that rise
  -- sets it to
  abbrev pub next_read : Mode → Sheet → Record → K.Kept → Level → Level
  next_read Mode0 s r k so = so
  next_read Mode3 s r k so = falling K s r k

  -- with a session open CS is low, the session runs, SCK is at rest, and the next rise reads what a fall sets SO to;
  -- with none CS is high
  abbrev pub PinsAt : Mode → Sheet → Record → PinState K.Kept → Bool → Type 0
  PinsAt mode s r deselected in_session = in_session ≡ false
  PinsAt mode s r (selected o) in_session =
      (in_session ≡ true) × (o.sck ≡ rest mode) × (o.course ≡ Running)
      × (next_read mode s r o.kept o.so ≡ falling K s r o.kept)

  abbrev pub AtRest : Mode → AtLine K.Kept → Type 0
  AtRest mode l = l.chip.fitted ≡ true → PinsAt mode l.chip.sheet l.chip.rec l.chip.pins l.in_session
