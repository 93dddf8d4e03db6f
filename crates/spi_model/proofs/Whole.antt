-- A session on a bus always has a whole number of bytes.
use Rattle.std.proofs.Common.{◌≡◌, ℕ, suc, ◌+◌, ◌-◌, ◌%◌, Bool, true, false, cond, List, [], ◌∷◌, ◌++◌, length, Some, None, Option, refl, ◌∙◌, arith}
use Rattle.std.proofs.lemmas.List.{length_push}
use Rattle.datasheet.specs.declared.sheet.Sheet.{Sheet}
use Rattle.datasheet.specs.declared.command.Command.{Command}
use Rattle.datasheet.specs.Bits.{bits_of, byte_after}
use Rattle.datasheet.specs.Records.{Record}
use Rattle.datasheet.specs.Sessions.{command, cell_at}
use Rattle.datasheet.specs.Rises.{effect, after_rise}
use Rattle.datasheet.specs.Chips.{whole}
use Rattle.datasheet.proofs.Machines.{keeps}
use Rattle.spi_model.specs.declared.bus_call.BusCall.{BusCall}
use Rattle.spi_model.specs.declared.bus_call.BusCall.TheVariants.{Select, Exchange, Deselect}
use Rattle.spi_model.specs.Moments.{Moment, after_bit, after_bits}
use Rattle.spi_model.specs.Buses.{Bus, moment_in, after}
use Rattle.spi_model.specs.Laws.{WholeBytes, StaysWhole}

-- no rise changes the sleep mark
effect_asleep : (s : Sheet) (c : Option Command) (wp : Bool) (r : Record) (n a x : ℕ) → (effect s c wp r n a x).asleep ≡ r.asleep
effect_asleep s c wp r n a x = grind arith

rise_asleep : (s : Sheet) (wp : Bool) (r : Record) (bits : List Bool) → (after_rise s wp r bits).asleep ≡ r.asleep
rise_asleep s wp r bits = effect_asleep s (command s bits) wp r (length bits) (cell_at s 32 bits) (byte_after (length bits - 8) bits)

module _ (s : Sheet) (wp : Bool) where
  -- how many bits a session has more after so many: none in a chip that sleeps
  abbrev more : Bool → ℕ → ℕ
  more a n = cond a 0 n

  kept_length : (m : Moment (List Bool)) (a : Bool) → m.rec.asleep ≡ a → (bs : List Bool) →
      length (after_bits whole s wp m bs).kept ≡ length m.kept + more a (length bs)
  kept_length m true e [] = omega arith
  kept_length m false e [] = omega arith
  kept_length m true e (b ∷ bs) =
      let t = kept_length (after_bit whole s wp m b) true (simp e) bs in
      let k : length (after_bit whole s wp m b).kept ≡ length m.kept = simp e in
      omega arith
  kept_length m false e (b ∷ bs) =
      let t = kept_length (after_bit whole s wp m b) false (simp e (rise_asleep s wp m.rec (m.kept ++ b ∷ []) ∙ e)) bs in
      let k : length (after_bit whole s wp m b).kept ≡ length m.kept + 1 = simp e (length_push m.kept b) in
      let g : length (b ∷ bs) ≡ suc (length bs) = refl in
      omega arith

  eight_more : (a : Bool) (n k : ℕ) → n ≡ k + more a 8 → k % 8 ≡ 0 → n % 8 ≡ 0
  eight_more true n k e h = omega arith
  eight_more false n k e h = omega arith

  abbrev bus : Bool → Record → Option (List Bool) → Bus (List Bool)
  bus f r o = record { sheet = s; wp = wp; fitted = f; rec = r; session = o }

  after_whole : (f : Bool) (r : Record) (o : Option (List Bool)) (x : BusCall) → WholeBytes o → WholeBytes (after whole (bus f r o) x).session
  after_whole f r None Select h = refl
  after_whole f r (Some bits) Select h = h
  after_whole f r None (Exchange x) h = tt
  after_whole true r (Some bits) (Exchange x) h =
      eight_more r.asleep _ (length bits) (kept_length (moment_in whole (bus true r (Some bits)) bits) r.asleep refl (bits_of 8 x)) h
  after_whole false r (Some bits) (Exchange x) h = h
  after_whole f r None Deselect h = tt
  after_whole true r (Some bits) Deselect h = tt
  after_whole false r (Some bits) Deselect h = tt

pub stays_whole : StaysWhole
stays_whole b xs h =
    keeps (after whole) (λ d rest. WholeBytes d.session)
    (λ d x rest g. after_whole d.sheet d.wp d.fitted d.rec d.session x g) b xs h
