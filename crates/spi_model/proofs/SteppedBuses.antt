-- In a session of whole bytes, stepping a chip by a byte is putting its samples in mode 0; so a chip stepped by bytes is a line in
-- mode 0 with no held samples, and lists of calls over both buses get the same answers.
use Rattle.std.proofs.Common.{◌≡◌, ℕ, Bool, true, false, cond, List, [], ◌∷◌, sym, refl, ap, ◌∙◌, subst}
use Rattle.datasheet.specs.declared.registers.Registers.{Registers}
use Rattle.datasheet.specs.declared.sheet.Sheet.{Sheet}
use Rattle.datasheet.specs.Bits.{bits_of}
use Rattle.datasheet.specs.Records.{Record}
use Rattle.datasheet.specs.Chips.{OpenSession, PinState, deselected, selected}
use Rattle.datasheet.specs.Calls.{ChipState}
use Rattle.datasheet.specs.Kept.{bounded}
use Rattle.datasheet.proofs.Machines.{means}
use Rattle.spi_model.specs.declared.mode.Mode.TheVariants.{Mode0}
use Rattle.spi_model.specs.declared.bus_call.BusCall.{BusCall}
use Rattle.spi_model.specs.declared.bus_call.BusCall.TheVariants.{Select, Exchange, Deselect}
use Rattle.spi_model.specs.declared.bus_answer.BusAnswer.TheVariants.{Read}
use Rattle.spi_model.specs.Puts.{puts}
use Rattle.spi_model.specs.Samples.{byte_samples}
use Rattle.spi_model.specs.Reads.{read_off}
use Rattle.spi_model.specs.SteppedBytes.{whole_bytes}
use Rattle.spi_model.specs.Lines.{AtLine, byte_read, line_after, line_answer, line_run, line_answers}
use Rattle.spi_model.specs.Meanings.{session_at, kept_of, meaning_of, AtRest}
use Rattle.spi_model.specs.SteppedChips.{stepped_by, step_read, stepped_after, stepped_answer, stepped_run, stepped_answers}
use Rattle.spi_model.specs.Laws.{Bytes, BothBuses}
use Rattle.spi_model.proofs.Calls.{unlike, at_rest, blank_puts, blank_over, follows_bounded, same}
use Rattle.spi_model.proofs.Aligned.{byte_leaves_whole}

module _ (s : Sheet) (r : Record) (wp : Bool) (x : ℕ) where
  abbrev line : Bool → PinState Registers → Bool → AtLine Registers
  line f p o = record { chip = record { sheet = s; fitted = f; rec = r; pins = p }; in_session = o }

  abbrev Stepped : ChipState Registers → Type 0
  Stepped c =
      (stepped_by c wp x ≡ puts bounded c (byte_samples Mode0 wp 0 x))
      × (step_read c wp x ≡ byte_read bounded Mode0 wp c (byte_samples Mode0 wp 0 x))

  blank_steps : (p : PinState Registers) → Stepped (line false p true).chip
  blank_steps deselected =
      (sym (blank_puts bounded s r deselected (byte_samples Mode0 wp 0 x)), sym (ap read_off (blank_over bounded s r deselected Mode0 wp 0 (bits_of 8 x))))
  blank_steps (selected o) =
      (sym (blank_puts bounded s r (selected o) (byte_samples Mode0 wp 0 x)), sym (ap read_off (blank_over bounded s r (selected o) Mode0 wp 0 (bits_of 8 x))))

  any : (f : Bool) (p : PinState Registers) (o : Bool) → AtRest bounded Mode0 (line f p o) → whole_bytes (kept_of bounded (line f p o).chip) ≡ true → o ≡ true →
      Stepped (line f p o).chip
  any false p o rest whole e = blank_steps p
  any true deselected o rest whole e = absurd (unlike (sym (rest refl) ∙ e))
  any true (selected p) o rest whole e =
      let at = rest refl in
      let c : ChipState Registers = (line true (selected (session_at Mode0 p.kept p.so)) o).chip in
      subst (λ (q : OpenSession Registers). Stepped (line true (selected q) o).chip) (sym (at_rest Mode0 p at.1 at.2)) (
        ap (λ (t : Bool). cond t (puts bounded c (byte_samples Mode0 wp 0 x)) c) whole,
        ap (λ (t : Bool). cond t (byte_read bounded Mode0 wp c (byte_samples Mode0 wp 0 x)) 0xFF) whole,
      )

pub stepped_as_put : (l : AtLine Registers) (wp : Bool) (x : ℕ) → AtRest bounded Mode0 l → whole_bytes (kept_of bounded l.chip) ≡ true → l.in_session ≡ true →
    (stepped_by l.chip wp x ≡ puts bounded l.chip (byte_samples Mode0 wp 0 x))
    × (step_read l.chip wp x ≡ byte_read bounded Mode0 wp l.chip (byte_samples Mode0 wp 0 x))
stepped_as_put l wp x rest whole e = any l.chip.sheet l.chip.rec wp x l.chip.fitted l.chip.pins l.in_session rest whole e

-- ## Lists of calls

module _ (wp : Bool) where
  abbrev Whole : AtLine Registers → Type 0
  Whole l = whole_bytes (kept_of bounded l.chip) ≡ true

  -- what is to be shown of a call
  abbrev SameCall : AtLine Registers → BusCall → Type 0
  SameCall l x =
      Whole (line_after bounded Mode0 wp 0 l x)
      × (stepped_after wp l x ≡ line_after bounded Mode0 wp 0 l x)
      × (stepped_answer wp l x ≡ line_answer bounded Mode0 wp 0 l x)

  call : (l : AtLine Registers) (x : BusCall) → Bytes (x ∷ []) → AtRest bounded Mode0 l → Whole l → SameCall l x
  call l x small rest whole = by l.chip.sheet l.chip.fitted l.chip.rec l.chip.pins l.in_session x small rest whole
    where
      at : Sheet → Bool → Record → PinState Registers → Bool → AtLine Registers
      at s f r p o = record { chip = record { sheet = s; fitted = f; rec = r; pins = p }; in_session = o }

      by : (s : Sheet) (f : Bool) (r : Record) (p : PinState Registers) (o : Bool) (x : BusCall) → Bytes (x ∷ []) →
          AtRest bounded Mode0 (at s f r p o) → Whole (at s f r p o) → SameCall (at s f r p o) x
      by s f r p true Select small rest whole = (whole, refl, refl)
      by s false r p false Select small rest whole = (refl, refl, refl)
      by s true r deselected false Select small rest whole = (refl, refl, refl)
      by s true r (selected p) false Select small rest whole = absurd (unlike (rest refl).0)
      by s f r p false (Exchange x) small rest whole = (whole, refl, refl)
      by s f r p true (Exchange x) small rest whole =
          let did = stepped_as_put (at s f r p true) wp x rest whole refl in (
            byte_leaves_whole Mode0 wp 0 (at s f r p true) x small.0 rest whole refl,
            ap (λ (c : ChipState Registers). record { chip = c; in_session = true }) did.0,
            ap (λ (y : ℕ). Read y) did.1,
          )
      by s false r p true Deselect small rest whole = (refl, refl, refl)
      by s true r deselected true Deselect small rest whole = (refl, refl, refl)
      by s true r (selected p) true Deselect small rest whole = (refl, refl, refl)
      by s f r p false Deselect small rest whole = (whole, refl, refl)

  first_byte : (x : BusCall) (xs : List BusCall) → Bytes (x ∷ xs) → Bytes (x ∷ []) × Bytes xs
  first_byte Select xs h = (tt, h)
  first_byte (Exchange x) xs h = ((h.0, tt), h.1)
  first_byte Deselect xs h = (tt, h)

  lists : (l : AtLine Registers) (xs : List BusCall) → Bytes xs → AtRest bounded Mode0 l → Whole l →
      (stepped_answers wp l xs ≡ line_answers bounded Mode0 wp 0 l xs) × (stepped_run wp l xs ≡ line_run bounded Mode0 wp 0 l xs)
  lists l xs small rest whole =
      means (stepped_after wp) (stepped_answer wp) (line_after bounded Mode0 wp 0) (line_answer bounded Mode0 wp 0) (λ m. m)
      (λ m ys. Bytes ys × AtRest bounded Mode0 m × Whole m)
      (λ m x ys h.
      let parts = first_byte x ys h.0 in
      let did = call m x parts.0 h.1 h.2 in
      ((parts.1, (follows_bounded Mode0 wp 0 m x h.1).0, did.0), did.1, did.2))
      l xs (small, rest, whole)

pub both_buses : BothBuses
both_buses mode wp waits b l xs small rest whole rests e =
    let as-line = lists wp b xs small rest whole in
    let lines = same bounded follows_bounded Mode0 mode wp 0 waits b l xs rest rests e in (
      as-line.0 ∙ lines.0,
      ap (meaning_of bounded wp) as-line.1 ∙ lines.1,
    )
