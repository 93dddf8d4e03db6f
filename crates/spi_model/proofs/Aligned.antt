-- A byte more leaves a session of whole bytes.
use Rattle.std.proofs.Common.{◌≡◌, ℕ, ◌<◌, Bool, true, false, cond, Some, None, sym, refl, ap, ◌∙◌, subst, arith}
use Rattle.datasheet.specs.declared.registers.Registers.{Registers}
use Rattle.datasheet.specs.declared.sheet.Sheet.{Sheet}
use Rattle.datasheet.specs.declared.level.Level.{Level}
use Rattle.datasheet.specs.Records.{Record}
use Rattle.datasheet.specs.Chips.{OpenSession, PinState, deselected, selected, falling}
use Rattle.datasheet.specs.Calls.{ChipState}
use Rattle.datasheet.specs.Kept.{bounded}
use Rattle.spi_model.specs.declared.mode.Mode.{Mode}
use Rattle.spi_model.specs.Puts.{puts}
use Rattle.spi_model.specs.Samples.{rest, byte_samples}
use Rattle.spi_model.specs.Moments.{Moment}
use Rattle.spi_model.specs.SteppedBytes.{whole_bytes, whole_session, taken_byte, step_byte}
use Rattle.spi_model.specs.Lines.{AtLine}
use Rattle.spi_model.specs.Meanings.{session_at, kept_of, next_read, AtRest}
use Rattle.spi_model.proofs.SteppedBytes.{byte_at_once}
use Rattle.spi_model.proofs.Calls.{unlike, at_rest, byte_at_pins, blank_puts}

-- where one is open
pub session_whole : (o : Bool) (k : Registers) → whole_bytes k ≡ true → whole_session (cond o (Some k) None) ≡ true
session_whole true k h = h
session_whole false k h = refl

taken_whole : (s : Sheet) (k : Registers) (x : ℕ) → whole_bytes k ≡ true → whole_bytes (taken_byte s k x) ≡ true
taken_whole s k x h = grind arith

-- a session that began asleep takes nothing
pub step_whole : (s : Sheet) (wp : Bool) (m : Moment Registers) (x : ℕ) → whole_bytes m.kept ≡ true → whole_bytes (step_byte s wp m x).kept ≡ true
step_whole s wp m x h = go m.rec.asleep _ _ refl refl
  where
    go : (a : Bool) (n p : Moment Registers) → n.kept ≡ m.kept → p.kept ≡ taken_byte s m.kept x → whole_bytes (cond a n p).kept ≡ true
    go true n p d e = ap whole_bytes d ∙ h
    go false n p d e = ap whole_bytes e ∙ taken_whole s m.kept x h

module _ (mode : Mode) (wp : Bool) (waits : ℕ) (s : Sheet) (r : Record) (x : ℕ) (small : x < 256) where
  abbrev line : Bool → PinState Registers → Bool → AtLine Registers
  line f p o = record { chip = record { sheet = s; fitted = f; rec = r; pins = p }; in_session = o }

  abbrev Whole : ChipState Registers → Type 0
  Whole c = whole_bytes (kept_of bounded c) ≡ true

  abbrev Leaves : ChipState Registers → Type 0
  Leaves c = Whole (puts bounded c (byte_samples mode wp waits x))

  within : (k : Registers) (so : Level) → next_read bounded mode s r k so ≡ falling bounded s r k → whole_bytes k ≡ true →
      Leaves (line true (selected (session_at mode k so)) true).chip
  within k so e h =
      let m : Moment Registers = record { rec = r; kept = k; so = falling bounded s r k } in
      let did = byte_at_pins bounded mode wp waits s m so x e in
      let at-once = ap (λ (n : Moment Registers). whole_bytes n.kept) (byte_at_once s wp m x h small).0 ∙ step_whole s wp m x h in
      subst Whole (sym did.0.1) at-once

  any : (f : Bool) (p : PinState Registers) (o : Bool) → AtRest bounded mode (line f p o) → Whole (line f p o).chip → o ≡ true → Leaves (line f p o).chip
  any false p o rest whole e = subst Whole (sym (blank_puts bounded s r p (byte_samples mode wp waits x))) refl
  any true deselected o rest whole e = absurd (unlike (sym (rest refl) ∙ e))
  any true (selected x) o rest whole e =
      let at = rest refl in
      subst (λ (y : OpenSession Registers). Leaves (line true (selected y) o).chip) (sym (at_rest mode x at.1 at.2))
      (within x.kept x.so at.3 whole)

pub byte_leaves_whole : (mode : Mode) (wp : Bool) (waits : ℕ) (l : AtLine Registers) (x : ℕ) → x < 256 →
    AtRest bounded mode l → whole_bytes (kept_of bounded l.chip) ≡ true → l.in_session ≡ true →
    whole_bytes (kept_of bounded (puts bounded l.chip (byte_samples mode wp waits x))) ≡ true
byte_leaves_whole mode wp waits l x small rest whole e = any mode wp waits l.chip.sheet l.chip.rec x small l.chip.fitted l.chip.pins l.in_session rest whole e
