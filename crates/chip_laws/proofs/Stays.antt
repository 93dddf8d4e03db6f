-- A fitted chip stays fitted, and a chip of the same sheet; so what is powered over a memory that fits it is fitted, whatever is
-- sent to it.
use Rattle.std.proofs.Common.{◌≡◌, ℕ, ◌-◌, ◌<◌, Bool, true, false, List, [], ◌∷◌, ◌++◌, length, get_or, set, sym, refl, ◌∙◌, arith, true-eqb, Option}
use Rattle.std.proofs.lemmas.List.{length-set, get_or-set_same, get_or-set_other, get_or_past}
use Rattle.datasheet.specs.declared.sheet.Sheet.{Sheet}
use Rattle.datasheet.specs.declared.command.Command.{Command}
use Rattle.datasheet.specs.declared.sample.Sample.{Sample}
use Rattle.datasheet.specs.Sheets.{cells}
use Rattle.datasheet.specs.Records.{Record, stored_bits}
use Rattle.datasheet.specs.Sessions.{command, cell_at}
use Rattle.datasheet.specs.Bits.{byte_after}
use Rattle.datasheet.specs.Commands.{command_at}
use Rattle.datasheet.specs.Rises.{effect}
use Rattle.datasheet.specs.Ends.{ended}
use Rattle.datasheet.specs.Samples.{levels}
use Rattle.datasheet.specs.Chips.{Keeping, PinState, deselected, selected, whole, judged}
use Rattle.datasheet.specs.Calls.{ChipState, ChipCall, ChipCall.sample, cycle, powered, after}
use Rattle.datasheet.specs.Pasts.{Past, chip_now}
use Rattle.datasheet.specs.Kept.{bounded, taken}
use Rattle.datasheet.proofs.Machines.{keeps}
use Rattle.chip_laws.specs.Laws.{Fitted, StaysFitted}
use Rattle.chip_laws.proofs.Bits.{byte_after_lt}

-- the record of a fitted chip of this sheet
abbrev pub Good : Sheet → Record → Type 0
Good s r = Fitted {S = Unit {0}} (record { sheet = s; fitted = true; rec = r; pins = deselected })

pub good : {S : Type 0} (c : ChipState S) → Fitted c → Good c.sheet c.rec
good c f = grind arith

-- a byte put into a cell, and the rules
pub cell_byte : (m : List ℕ) (a x i : ℕ) → x < 256 → ((j : ℕ) → get_or m j 0 < 256) → get_or (set m a x) i 0 < 256
cell_byte m a x i h f = let g = f i in grind (arith, get_or-set_same, get_or-set_other, get_or_past, length-set)

effect_good : (s : Sheet) (c : Option Command) (wp : Bool) (r : Record) (n a x : ℕ) →
    x < 256 → r.asleep ≡ false → Good s r → Good s (effect s c wp r n a x)
effect_good s c wp r n a x h e f = let k = λ (i : ℕ). cell_byte r.memory a x i h f.bytes in grind (arith, length-set)

ended_good : (s : Sheet) (c : Option Command) (r : Record) (n : ℕ) → Good s r → Good s (ended s c r n)
ended_good s c r n f = grind arith

-- a chip stays fitted if what is kept of a session does to its record only what a fitted chip can do
module _ (K : Keeping)
    (rises-good : (s : Sheet) (wp : Bool) (r : Record) (k : K.Kept) (b : Bool) →
    r.asleep ≡ false → Good s r → Good s (K.rises s wp r k b))
    (ends-good : (s : Sheet) (r : Record) (k : K.Kept) → Good s r → Good s (K.ends s r k)) where
  judged_good : (s : Sheet) (r : Record) (p : PinState K.Kept) (x : Sample) → Good s r → Good s (judged K s r p x).rec
  judged_good s r deselected x f = grind arith
  judged_good s r (selected o) x f =
      let rises : r.asleep ≡ false → Good s (K.rises s x.wp r o.kept x.si) = λ e. rises-good s x.wp r o.kept x.si e f in
      let ends = ends-good s r o.kept f in
      grind arith

  -- a fitted chip of this sheet
  abbrev Stays : Sheet → ChipState K.Kept → Type 0
  Stays s c = Fitted c × (c.sheet ≡ s)

  after_stays : (c : ChipState K.Kept) (x : ChipCall) → Fitted c → Stays c.sheet (after K c x)
  after_stays c (sample byte) f =
      let h = judged_good c.sheet c.rec c.pins (levels byte) (good c f) in
      grind arith
  after_stays c cycle f = grind arith

  run_stays : StaysFitted K
  run_stays c calls f =
      keeps (after K) (λ d rest. Stays c.sheet d)
      (λ d x rest h. let g = after_stays d x h.0 in (g.0, g.1 ∙ h.1)) c calls (f, refl)

pub stays_fitted_whole : StaysFitted whole
stays_fitted_whole =
    run_stays whole
    (λ s wp r bits b. let k = bits ++ b ∷ [] in
    let i = length k - 8 in
    effect_good s (command s k) wp r (length k) (cell_at s 32 k) (byte_after i k) (byte_after_lt i k))
    (λ s r bits. ended_good s (command s bits) r (length bits))

pub stays_fitted : StaysFitted bounded
stays_fitted =
    run_stays bounded
    (λ s wp r k b. let t = taken s k b in
    effect_good s (command_at s t.count t.code) wp r t.count k.place t.shift (omega arith))
    (λ s r k. ended_good s (command_at s k.count k.code) r k.count)

-- ## A chip with a past

-- a chip powered over a memory that fits it is fitted
powered_fitted : {S : Type 0} (s : Sheet) (a : Past s) → Fitted {S = S} (powered s a.memory (stored_bits a.status))
powered_fitted s a =
    record {
      fit = a.memory_fits;
      size = true-eqb (length a.memory) (cells s) (sym a.memory_fits);
      bytes = λ i. let h = a.memory_is i 0 in grind (arith, get_or_past);
      stored-byte = omega (arith, a.status_is);
      stored-high = omega arith;
      still = λ e. refl;
    }

-- and stays so, whatever was sent to it
pub past_fitted : (K : Keeping) → StaysFitted K → (s : Sheet) (a : Past s) → Fitted (chip_now K a) × ((chip_now K a).sheet ≡ s)
past_fitted K stays s a = stays (powered s a.memory (stored_bits a.status)) a.sent (powered_fitted s a)
