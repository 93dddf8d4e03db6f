-- A chip that keeps only the registers of a session gives the same answers as one that keeps every bit.
use Rattle.std.proofs.Common.{◌≡◌, Bool, List, sym, refl, ap, ◌∙◌, arith}
use Rattle.datasheet.specs.declared.sheet.Sheet.{Sheet}
use Rattle.datasheet.specs.declared.sample.Sample.{Sample}
use Rattle.datasheet.specs.declared.registers.Registers.{Registers}
use Rattle.datasheet.specs.Records.{Record}
use Rattle.datasheet.specs.Samples.{levels}
use Rattle.datasheet.specs.Chips.{Keeping, OpenSession, PinState, deselected, selected, Turn, turn, whole, judged}
use Rattle.datasheet.specs.Calls.{ChipState, so, ChipCall, ChipCall.sample, cycle, put, after, answer}
use Rattle.datasheet.specs.Kept.{kept, kept_pins, kept_chip, bounded}
use Rattle.datasheet.proofs.Machines.{means}
use Rattle.chip_laws.specs.Laws.{Enough}
use Rattle.chip_laws.proofs.Simulation.{kept_none, kept_more, rise_same, fall_same, end_same}

-- Two ways to keep a session, where of the same bits L keeps what f makes of what K keeps: a sample in an open session does the
-- same, if each rule does at this session.
module _ (K L : Keeping) (s : Sheet) (f : K.Kept → L.Kept) where
  abbrev pins_by : PinState K.Kept → PinState L.Kept
  pins_by deselected = deselected
  pins_by (selected o) = selected (record { sck = o.sck; course = o.course; kept = f o.kept; so = o.so })

  abbrev turn_by : Turn K.Kept → Turn L.Kept
  turn_by t = turn t.rec (pins_by t.pins)

  judged_by : (r : Record) (o : OpenSession K.Kept) (x : Sample) →
      L.rises s x.wp r (f o.kept) x.si ≡ K.rises s x.wp r o.kept x.si →
      L.more s (f o.kept) x.si ≡ f (K.more s o.kept x.si) →
      L.shows s r (f o.kept) ≡ K.shows s r o.kept →
      L.ends s r (f o.kept) ≡ K.ends s r o.kept →
      judged L s r (pins_by (selected o)) x ≡ turn_by (judged K s r (selected o) x)
  judged_by r o x a b c d = grind arith

-- a sample
abbrev kept_turn : Sheet → Turn (List Bool) → Turn Registers
kept_turn s t = turn t.rec (kept_pins s t.pins)

judged_same : (s : Sheet) (r : Record) (p : PinState (List Bool)) (x : Sample) →
    judged bounded s r (kept_pins s p) x ≡ kept_turn s (judged whole s r p x)
judged_same s r deselected x = let h = kept_none s in grind arith
judged_same s r (selected o) x =
    judged_by whole bounded s (kept s) r o x
    (rise_same s x.wp r o.kept x.si) (sym (kept_more s o.kept x.si)) (fall_same s r o.kept) (end_same s r o.kept)

put_same : (c : ChipState (List Bool)) (x : Sample) → put bounded (kept_chip c) x ≡ kept_chip (put whole c x)
put_same c x = let h = judged_same c.sheet c.rec c.pins x in grind arith

so_same : (c : ChipState (List Bool)) → so (kept_chip c) ≡ so c
so_same c = grind arith

-- a call
module _ (c : ChipState (List Bool)) where
  after_same : (x : ChipCall) → after bounded (kept_chip c) x ≡ kept_chip (after whole c x)
  after_same (sample byte) = let h = put_same c (levels byte) in grind arith
  after_same cycle = refl

  answer_same : (x : ChipCall) → answer bounded (kept_chip c) x ≡ answer whole c x
  answer_same (sample byte) = let h = ap so (put_same c (levels byte)) ∙ so_same (put whole c (levels byte)) in grind arith
  answer_same cycle = refl

pub enough : Enough
enough c calls =
    means (after bounded) (answer bounded) (after whole) (answer whole) kept_chip (λ d rest. Unit {0})
    (λ d x rest h. (tt, after_same d x, answer_same d x)) c calls tt
