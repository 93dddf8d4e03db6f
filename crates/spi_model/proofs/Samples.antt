-- What a line does in a list of calls, its samples do to the chip; where it has no session open, a fitted chip is deselected;
-- and a line never spoils a session.
use Rattle.std.proofs.Common.{◌≡◌, ℕ, Bool, true, false, List, [], ◌∷◌, sym, refl, ap, ◌∙◌, subst, arith}
use Rattle.datasheet.specs.declared.sheet.Sheet.{Sheet}
use Rattle.datasheet.specs.declared.sample.Sample.{Sample}
use Rattle.datasheet.specs.Records.{Record}
use Rattle.datasheet.specs.Courses.{is_spoiled}
use Rattle.datasheet.specs.Chips.{Keeping, PinState, deselected, selected, in_spoiled}
use Rattle.datasheet.specs.Calls.{ChipState, put}
use Rattle.datasheet.specs.Machines.{left_by}
use Rattle.datasheet.proofs.Machines.{keeps, left_behind}
use Rattle.spi_model.specs.declared.mode.Mode.{Mode}
use Rattle.spi_model.specs.declared.bus_call.BusCall.{BusCall}
use Rattle.spi_model.specs.Puts.{puts}
use Rattle.spi_model.specs.Samples.{rises}
use Rattle.spi_model.specs.Lines.{AtLine, open_after, call_samples, line_made, line_after, line_run, line_samples}
use Rattle.spi_model.specs.Meanings.{PinsAt, AtRest}
use Rattle.spi_model.specs.Laws.{Follows, NeverSpoils}
use Rattle.spi_model.proofs.Calls.{unlike, makes}

module _ (K : Keeping) (mode : Mode) (wp : Bool) (waits : ℕ) where
  pub as_samples : (l : AtLine K.Kept) (xs : List BusCall) →
      line_run K mode wp waits l xs
      ≡ record { chip = puts K l.chip (line_samples mode wp waits l.in_session xs); in_session = left_by open_after l.in_session xs }
  as_samples l [] = refl
  as_samples l (x ∷ xs) =
      let o : Bool = open_after l.in_session x in
      as_samples (line_after K mode wp waits l x) xs
      ∙ ap (λ (c : ChipState K.Kept). record { chip = c; in_session = left_by open_after o xs })
      (sym (left_behind (put K) l.chip (call_samples mode wp waits l.in_session x) (line_samples mode wp waits o xs)))

  pub stays_at_rest : Follows K → (c : ChipState K.Kept) (xs : List BusCall) → AtRest K mode (line_run K mode wp waits (line_made K mode wp c) xs)
  stays_at_rest follow c xs =
      keeps (line_after K mode wp waits) (λ l rest. AtRest K mode l) (λ l x rest h. (follow mode wp waits l x h).0)
      (line_made K mode wp c) xs (makes K mode wp c).0

  -- no session of the line is open, so none of its chip
  closed_pins : (s : Sheet) (r : Record) (p : PinState K.Kept) (o : Bool) → PinsAt K mode s r p o → o ≡ false → p ≡ deselected
  closed_pins s r deselected o h e = refl
  closed_pins s r (selected q) o h e = absurd (unlike (sym e ∙ h.0))

  -- a line that is made and makes calls that leave no session open leaves a fitted chip deselected
  pub deselects : Follows K → (c : ChipState K.Kept) (xs : List BusCall) → left_by open_after false xs ≡ false →
      let d : ChipState K.Kept = puts K c (rises mode wp ∷ line_samples mode wp waits false xs) in
      d.fitted ≡ true → d.pins ≡ deselected
  deselects follow c xs closed fitted =
      let at_end = as_samples (line_made K mode wp c) xs in
      let rest = subst (AtRest K mode) at_end (stays_at_rest follow c xs) fitted in
      let d : ChipState K.Kept = puts K c (rises mode wp ∷ line_samples mode wp waits false xs) in
      closed_pins d.sheet d.rec d.pins (left_by open_after false xs) rest closed

module _ (K : Keeping) where
  stays_fitted : (c : ChipState K.Kept) (xs : List Sample) → c.fitted ≡ true → (puts K c xs).fitted ≡ true
  stays_fitted c xs f = keeps (put K) (λ d rest. d.fitted ≡ true) (λ d x rest h. grind arith) c xs f

  -- a session between two calls of a line runs
  runs_on : (mode : Mode) (s : Sheet) (r : Record) (p : PinState K.Kept) (o : Bool) → PinsAt K mode s r p o → in_spoiled p ≡ false
  runs_on mode s r deselected o h = refl
  runs_on mode s r (selected q) o h = ap is_spoiled h.2

  pub never_spoils : Follows K → NeverSpoils K
  never_spoils follow mode wp waits c xs f =
      let l = line_run K mode wp waits (line_made K mode wp c) xs in
      let made = line_made K mode wp c in
      let fitted = ap (λ (m : AtLine K.Kept). m.chip.fitted) (as_samples K mode wp waits made xs) ∙ stays_fitted c (rises mode wp ∷ line_samples mode wp waits false xs) f in
      runs_on mode l.chip.sheet l.chip.rec l.chip.pins l.in_session (stays_at_rest K mode wp waits follow c xs fitted)
