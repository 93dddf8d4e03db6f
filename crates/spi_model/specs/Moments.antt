-- What bits do to a chip in a session, by its record and its session alone: each is a rise of SCK, which
-- takes it, and a fall, which sets SO.
use Rattle.std.specs.Prelude.{Bool, List}
use Rattle.datasheet.specs.declared.sheet.Sheet.{Sheet}
use Rattle.datasheet.specs.declared.level.Level.{Level}
use Rattle.datasheet.specs.Records.{Record}
use Rattle.datasheet.specs.Machines.{left_by, answered_by}
use Rattle.datasheet.specs.Chips.{Keeping, rising, keeping, falling}

-- a chip in a session, between two bits: its record, what is kept of the session, and what SO shows
pub record Moment (S : Type 0) : Type 0 where
  pub rec : Record
  pub kept : S
  pub so : Level

module _ (K : Keeping) (s : Sheet) (wp : Bool) where
  -- after one bit more
  abbrev pub after_bit : Moment K.Kept → Bool → Moment K.Kept
  after_bit m b =
      let rec : Record = rising K s wp m.rec m.kept b in
      let kept : K.Kept = keeping K s m.rec m.kept b in
      record { rec = rec; kept = kept; so = falling K s rec kept }

  -- after several bits more
  abbrev pub after_bits : Moment K.Kept → List Bool → Moment K.Kept
  after_bits = left_by after_bit

  -- what SO shows at their rises, where it is read
  abbrev pub reads : Moment K.Kept → List Bool → List Level
  reads = answered_by after_bit (λ m b. m.so)
