-- What a bus keeps of a session is enough.
use Rattle.std.proofs.Common.{◌≡◌, ℕ, Bool, true, false, cond, List, [], ◌∷◌, ◌++◌, Some, None, Option, sym, refl, ap, ◌∙◌, ap₂}
use Rattle.datasheet.specs.declared.registers.Registers.{Registers}
use Rattle.datasheet.specs.declared.sheet.Sheet.{Sheet}
use Rattle.datasheet.specs.declared.level.Level.{Level}
use Rattle.datasheet.specs.declared.level.Level.TheVariants.{HighZ}
use Rattle.datasheet.specs.Bits.{bits_of}
use Rattle.datasheet.specs.Records.{Record, waking}
use Rattle.datasheet.specs.Chips.{whole, rising, keeping, falling}
use Rattle.datasheet.specs.Kept.{kept, taken, bounded}
use Rattle.datasheet.proofs.Machines.{means}
use Rattle.chip_laws.proofs.Simulation.{kept_none, kept_more, rise_same, fall_same, end_same}
use Rattle.spi_model.specs.declared.bus_call.BusCall.{BusCall}
use Rattle.spi_model.specs.declared.bus_call.BusCall.TheVariants.{Select, Exchange, Deselect}
use Rattle.spi_model.specs.declared.bus_answer.BusAnswer.TheVariants.{Read}
use Rattle.spi_model.specs.Moments.{Moment, after_bit, after_bits, reads}
use Rattle.spi_model.specs.Reads.{read_off}
use Rattle.spi_model.specs.Buses.{Bus, moment_in, after, answer}
use Rattle.spi_model.specs.Laws.{kept_bus, BusKeepsEnough}

module _ (s : Sheet) (wp : Bool) where
  -- a chip in a session, with what is kept of it
  abbrev kept_moment : Moment (List Bool) → Moment Registers
  kept_moment m = record { rec = m.rec; kept = kept s m.kept; so = m.so }

  falling_same : (r : Record) (bits : List Bool) → falling bounded s r (kept s bits) ≡ falling whole s r bits
  falling_same r bits = ap (cond r.asleep HighZ) (fall_same s r bits)

  rising_same : (r : Record) (bits : List Bool) (b : Bool) → rising bounded s wp r (kept s bits) b ≡ rising whole s wp r bits b
  rising_same r bits b = ap (cond r.asleep r) (rise_same s wp r bits b)

  keeping_same : (r : Record) (bits : List Bool) (b : Bool) → keeping bounded s r (kept s bits) b ≡ kept s (keeping whole s r bits b)
  keeping_same r bits b = go r.asleep
    where
      go : (a : Bool) → cond a (kept s bits) (taken s (kept s bits) b) ≡ kept s (cond a bits (bits ++ b ∷ []))
      go true = refl
      go false = sym (kept_more s bits b)

  bit_same : (m : Moment (List Bool)) (b : Bool) → after_bit bounded s wp (kept_moment m) b ≡ kept_moment (after_bit whole s wp m b)
  bit_same m b =
      ap₂ (λ (r : Record) (k : Registers). record { rec = r; kept = k; so = falling bounded s r k })
      (rising_same m.rec m.kept b) (keeping_same m.rec m.kept b)
      ∙ (λ i. record {
        rec = rising whole s wp m.rec m.kept b;
        kept = kept s (keeping whole s m.rec m.kept b);
        so = falling_same (rising whole s wp m.rec m.kept b) (keeping whole s m.rec m.kept b) i;
      })

  bits_same : (m : Moment (List Bool)) (bs : List Bool) →
      (reads bounded s wp (kept_moment m) bs ≡ reads whole s wp m bs)
      × (after_bits bounded s wp (kept_moment m) bs ≡ kept_moment (after_bits whole s wp m bs))
  bits_same m bs =
      means (after_bit bounded s wp) (λ n b. n.so) (after_bit whole s wp) (λ n b. n.so) kept_moment (λ n rest. Unit {0})
      (λ n b rest h. (tt, bit_same n b, refl)) m bs tt

  -- ## The calls

  abbrev bus : {S : Type 0} → Bool → Record → Option S → Bus S
  bus f r o = record { sheet = s; wp = wp; fitted = f; rec = r; session = o }

  module _ (r : Record) (bits : List Bool) where
    -- the chip of a bus in a session
    abbrev moment : Moment (List Bool)
    moment = moment_in whole (bus true r (Some bits)) bits

    moment_same : moment_in bounded (bus true r (Some (kept s bits))) (kept s bits) ≡ kept_moment moment
    moment_same i = record { rec = r; kept = kept s bits; so = falling_same r bits i }

    took_same : (x : ℕ) →
        after bounded (bus true r (Some (kept s bits))) (Exchange x) ≡ kept_bus (after whole (bus true r (Some bits)) (Exchange x))
    took_same x =
        ap (λ (m : Moment Registers). bus true (after_bits bounded s wp m (bits_of 8 x)).rec (Some (after_bits bounded s wp m (bits_of 8 x)).kept)) moment_same
        ∙ ap (λ (m : Moment Registers). bus true m.rec (Some m.kept)) (bits_same moment (bits_of 8 x)).1

    read_same : (x : ℕ) → answer bounded (bus true r (Some (kept s bits))) (Exchange x) ≡ answer whole (bus true r (Some bits)) (Exchange x)
    read_same x =
        ap (λ (m : Moment Registers). Read (read_off (reads bounded s wp m (bits_of 8 x)))) moment_same
        ∙ ap (λ (ls : List Level). Read (read_off ls)) (bits_same moment (bits_of 8 x)).0

  after_same : (f : Bool) (r : Record) (o : Option (List Bool)) (x : BusCall) →
      after bounded (kept_bus (bus f r o)) x ≡ kept_bus (after whole (bus f r o) x)
  after_same f r None Select = ap (λ (k : Registers). bus f r (Some k)) (sym (kept_none s))
  after_same f r (Some bits) Select = refl
  after_same f r None (Exchange x) = refl
  after_same true r (Some bits) (Exchange x) = took_same r bits x
  after_same false r (Some bits) (Exchange x) = refl
  after_same f r None Deselect = refl
  after_same true r (Some bits) Deselect = ap (λ (q : Record). bus true (cond r.asleep (waking r) q) None) (end_same s r bits)
  after_same false r (Some bits) Deselect = refl

  answer_same : (f : Bool) (r : Record) (o : Option (List Bool)) (x : BusCall) →
      answer bounded (kept_bus (bus f r o)) x ≡ answer whole (bus f r o) x
  answer_same f r o Select = refl
  answer_same f r None (Exchange x) = refl
  answer_same true r (Some bits) (Exchange x) = read_same r bits x
  answer_same false r (Some bits) (Exchange x) = refl
  answer_same f r o Deselect = refl

pub bus_keeps_enough : BusKeepsEnough
bus_keeps_enough b xs =
    means (after bounded) (answer bounded) (after whole) (answer whole) kept_bus (λ d rest. Unit {0})
    (λ d x rest h. (tt, after_same d.sheet d.wp d.fitted d.rec d.session x, answer_same d.sheet d.wp d.fitted d.rec d.session x))
    b xs tt
