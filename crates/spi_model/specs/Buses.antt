-- What a bus means, and what select, exchange and deselect do to it.
use Rattle.std.specs.Prelude.{ℕ, Bool, if◌then◌else◌, List, [], ◌∷◌, ◌++◌, map, Some, None, Option}
use Rattle.datasheet.specs.declared.sheet.Sheet.{Sheet}
use Rattle.datasheet.specs.Bits.{bits_of}
use Rattle.datasheet.specs.Records.{Record}
use Rattle.datasheet.specs.Chips.{Keeping, falling, closed}
use Rattle.datasheet.specs.Machines.{left_by, answered_by}
use Rattle.spi_model.specs.declared.bus_call.BusCall.{BusCall}
use Rattle.spi_model.specs.declared.bus_call.BusCall.TheVariants.{Select, Exchange, Deselect}
use Rattle.spi_model.specs.declared.bus_answer.BusAnswer.{BusAnswer}
use Rattle.spi_model.specs.declared.bus_answer.BusAnswer.TheVariants.{Done, Read}
use Rattle.spi_model.specs.Moments.{Moment, after_bits, reads}
use Rattle.spi_model.specs.Reads.{read_off}

-- one chip, fitted or blank, with its record (of a blank chip no more than the lent memory and the stored
-- bits); what is kept of its session, if one is open; and a fixed level of WP. S is what is kept: all bits,
-- or what the rules still read of them
pub record Bus (S : Type 0) : Type 0 where
  pub sheet : Sheet
  pub wp : Bool
  pub fitted : Bool
  pub rec : Record
  pub session : Option S

-- the same bus with this record and session
abbrev pub becoming : {S : Type 0} → Bus S → Record → Option S → Bus S
becoming b r o = record b { rec = r; session = o }

module _ (K : Keeping) where
  -- its chip in a session between two bytes: SO shows what a fall sets it to
  abbrev pub moment_in : Bus K.Kept → K.Kept → Moment K.Kept
  moment_in b k = record { rec = b.rec; kept = k; so = falling K b.sheet b.rec k }

  -- ## By session

  abbrev pub selected_in : Bus K.Kept → Option K.Kept → Bus K.Kept
  selected_in b None = becoming b b.rec (Some K.begin)
  selected_in b (Some k) = b

  abbrev pub exchanged_in : Bus K.Kept → Option K.Kept → ℕ → Bus K.Kept
  exchanged_in b None x = b
  exchanged_in b (Some k) x =
      let after : Moment K.Kept = after_bits K b.sheet b.wp (moment_in b k) (bits_of 8 x) in
      if b.fitted then becoming b after.rec (Some after.kept) else b

  abbrev pub read_in : Bus K.Kept → Option K.Kept → ℕ → ℕ
  read_in b None x = 0xFF
  read_in b (Some k) x =
      if b.fitted then read_off (reads K b.sheet b.wp (moment_in b k) (bits_of 8 x)) else 0xFF

  abbrev pub deselected_in : Bus K.Kept → Option K.Kept → Bus K.Kept
  deselected_in b None = b
  deselected_in b (Some k) = becoming b (if b.fitted then closed K b.sheet b.rec k else b.rec) None

  -- ## The calls

  -- select begins a session if none is open
  abbrev pub selected : Bus K.Kept → Bus K.Kept
  selected b = selected_in b b.session

  -- exchange takes the eight bits of a byte; with no open session, and in a blank chip, nothing changes
  abbrev pub exchanged : Bus K.Kept → ℕ → Bus K.Kept
  exchanged b x = exchanged_in b b.session x

  -- it answers the byte that is read off SO at the eight rises; with no open session, and from a blank chip,
  -- FFh
  abbrev pub read : Bus K.Kept → ℕ → ℕ
  read b x = read_in b b.session x

  -- deselect ends the session if there is one
  abbrev pub deselected : Bus K.Kept → Bus K.Kept
  deselected b = deselected_in b b.session

  -- ## Lists of calls

  -- what a call leaves
  abbrev pub after : Bus K.Kept → BusCall → Bus K.Kept
  after b Select = selected b
  after b (Exchange x) = exchanged b x
  after b Deselect = deselected b

  -- its answer: that it is done, or the byte that is read
  abbrev pub answer : Bus K.Kept → BusCall → BusAnswer
  answer b Select = Done
  answer b (Exchange x) = Read (read b x)
  answer b Deselect = Done

  -- what a list of calls leaves, made one after the other, and what it is answered
  abbrev pub run : Bus K.Kept → List BusCall → Bus K.Kept
  run = left_by after

  abbrev pub answers : Bus K.Kept → List BusCall → List BusAnswer
  answers = answered_by after answer

-- the calls of a session in which these bytes are sent
abbrev pub session_calls : List ℕ → List BusCall
session_calls xs = Select ∷ (map (λ (x : ℕ). Exchange x) xs ++ Deselect ∷ [])
