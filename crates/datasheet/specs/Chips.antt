-- The pins of a fitted chip: how a sample is judged by the last sample and the session together. This is the
-- same whatever is kept of a session's bits, so it is written once, over a `Keeping`. `whole` keeps every bit
-- and is the rules.
use Rattle.std.specs.Prelude.{Bool, false, if◌then◌else◌, not, ◌&&◌, List, [], ◌∷◌, ◌++◌}
use Rattle.datasheet.specs.declared.sheet.Sheet.{Sheet}
use Rattle.datasheet.specs.declared.level.Level.{Level}
use Rattle.datasheet.specs.declared.level.Level.TheVariants.{HighZ}
use Rattle.datasheet.specs.declared.course.Course.{Course}
use Rattle.datasheet.specs.declared.course.Course.TheVariants.{Running, Held, Spoiled}
use Rattle.datasheet.specs.declared.sample.Sample.{Sample}
use Rattle.datasheet.specs.Records.{Record, waking}
use Rattle.datasheet.specs.Rises.{after_rise}
use Rattle.datasheet.specs.Falls.{after_fall}
use Rattle.datasheet.specs.Ends.{after_end}
use Rattle.datasheet.specs.Courses.{runs, is_spoiled, course_after}

-- what is kept of a session, and the rules that read it
pub record Keeping : Type 1 where
  pub Kept : Type 0
  -- no bit taken
  pub begin : Kept
  -- one bit more
  pub more : Sheet → Kept → Bool → Kept
  -- the record after a rise that takes this bit, with WP at this level
  pub rises : Sheet → Bool → Record → Kept → Bool → Record
  -- SO after a fall
  pub shows : Sheet → Record → Kept → Level
  -- the record after the end of the session
  pub ends : Sheet → Record → Kept → Record

-- every bit is kept, the first bit first
abbrev pub whole : Keeping
whole =
    record {
      Kept = List Bool;
      begin = [];
      more = λ s bits b. bits ++ b ∷ [];
      rises = λ s wp r bits b. after_rise s wp r (bits ++ b ∷ []);
      shows = after_fall;
      ends = after_end;
    }

-- an open session: the last level of SCK, its course, what is kept of its bits, and what SO shows while it
-- runs; CS was low
pub record OpenSession (S : Type 0) : Type 0 where
  pub sck : Bool
  pub course : Course
  pub kept : S
  pub so : Level

-- deselected: CS was high; or selected, in an open session
pub data PinState (S : Type 0) : Type 0 where
  deselected : PinState S
  selected : OpenSession S → PinState S

-- what a sample leaves: the record and the pins
pub record Turn (S : Type 0) : Type 0 where
  pub rec : Record
  pub pins : PinState S

abbrev pub turn : {S : Type 0} → Record → PinState S → Turn S
turn r p = record { rec = r; pins = p }

module _ (K : Keeping) (s : Sheet) where
  -- ## What a session does, in a chip that is awake and in one that it found asleep

  -- the record after a rise that takes this bit, with WP at this level, and what is kept then; asleep nothing
  -- is taken
  abbrev pub rising : Bool → Record → K.Kept → Bool → Record
  rising wp r k b = if r.asleep then r else K.rises s wp r k b

  abbrev pub keeping : Record → K.Kept → Bool → K.Kept
  keeping r k b = if r.asleep then k else K.more s k b

  -- what a fall sets SO to; asleep SO is not driven
  abbrev pub falling : Record → K.Kept → Level
  falling r k = if r.asleep then HighZ else K.shows s r k

  -- the record after the end of the session, which wakes a sleeping chip and does no more there
  abbrev pub closed : Record → K.Kept → Record
  closed r k = if r.asleep then waking r else K.ends s r k

  -- the same by the course of the session: the end of a spoiled one acts as for no command, so that all it can
  -- do is to wake a sleeping chip
  abbrev pub closed_in : Course → Record → K.Kept → Record
  closed_in Running r k = closed r k
  closed_in (Held sck) r k = closed r k
  closed_in Spoiled r k = waking r

  -- ## A sample

  -- a session that runs on, SCK at the level sck in the last sample: `now` is the session at the levels of the
  -- new sample x
  abbrev pub edge : Record → Bool → OpenSession K.Kept → Sample → Turn K.Kept
  edge r sck now x =
      -- a rise takes SI as the next bit, and leaves SO
      if not sck && x.sck
      then turn (rising x.wp r now.kept x.si) (selected (record now { kept = keeping r now.kept x.si }))
      -- a fall sets SO, and takes nothing
      else if sck && not x.sck
      then turn r (selected (record now { so = falling r now.kept }))
      -- SCK as before does nothing
      else turn r (selected now)

  -- the new sample x, judged by the last one and the session together
  abbrev pub judged : Record → PinState K.Kept → Sample → Turn K.Kept
  judged r deselected x =
      -- deselected, and still so
      if x.cs then turn r deselected
      -- a session begins with no bit taken, held if HOLD is low; SO is high-Z, and no clock edge counts
      else turn r (selected (record { sck = x.sck; course = course_after Running x; kept = K.begin; so = HighZ }))
  judged r (selected last) x =
      let now : OpenSession K.Kept = record last { sck = x.sck; course = course_after last.course x } in
      -- the session ends
      if x.cs then turn (closed_in last.course r last.kept) deselected
      -- it ran, and HOLD is high: an edge of SCK counts
      else if runs last.course && x.hold then edge r last.sck now x
      -- HOLD low, just released, or a spoiled session: none does
      else turn r (selected now)

-- SO: high-Z while deselected, while HOLD is low, and in a spoiled session; when a session runs again it shows
-- what it showed before
abbrev pub output : {S : Type 0} → PinState S → Level
output deselected = HighZ
output (selected o) = if runs o.course then o.so else HighZ

-- whether there is a spoiled session
abbrev pub in_spoiled : {S : Type 0} → PinState S → Bool
in_spoiled deselected = false
in_spoiled (selected o) = is_spoiled o.course
