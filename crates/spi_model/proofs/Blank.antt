-- A blank chip answers FFh to every exchange, and keeps its record.
use Rattle.std.proofs.Common.{◌≡◌, Bool, true, false, Some, None, Option, refl, ◌∙◌, rules}
use Rattle.datasheet.specs.declared.sheet.Sheet.{Sheet}
use Rattle.datasheet.specs.Records.{Record}
use Rattle.datasheet.specs.Chips.{Keeping}
use Rattle.datasheet.proofs.Machines.{keeps, means, alone}
use Rattle.spi_model.specs.declared.bus_call.BusCall.{BusCall}
use Rattle.spi_model.specs.declared.bus_call.BusCall.TheVariants.{Select, Exchange, Deselect}
use Rattle.spi_model.specs.Buses.{Bus, after, answer}
use Rattle.spi_model.specs.Laws.{undriven, BlankReadsOnes}

module _ (K : Keeping) where
  -- what is to be shown of a call
  abbrev Silent : Bus K.Kept → BusCall → Type 0
  Silent b x = ((after K b x).fitted ≡ b.fitted) × ((after K b x).rec ≡ b.rec) × (answer K b x ≡ undriven x)

  call : (s : Sheet) (wp : Bool) (r : Record) (o : Option K.Kept) (x : BusCall) →
      Silent (record { sheet = s; wp = wp; fitted = false; rec = r; session = o }) x
  call s wp r None Select = (refl, refl, refl)
  call s wp r (Some k) Select = (refl, refl, refl)
  call s wp r None (Exchange x) = (refl, refl, refl)
  call s wp r (Some k) (Exchange x) = (refl, refl, refl)
  call s wp r None Deselect = (refl, refl, refl)
  call s wp r (Some k) Deselect = (refl, refl, refl)

  any : (s : Sheet) (wp f : Bool) (r : Record) (o : Option K.Kept) (x : BusCall) → f ≡ false →
      Silent (record { sheet = s; wp = wp; fitted = f; rec = r; session = o }) x
  any s wp false r o x e = call s wp r o x
  any s wp true r o x e = absurd (search rules)

  pub blank_reads_ones : BlankReadsOnes K
  blank_reads_ones b xs e =
      let did : (d : Bus K.Kept) (x : BusCall) → d.fitted ≡ false → Silent d x = λ d x f. any d.sheet d.wp d.fitted d.rec d.session x f in (
        (means (after K) (answer K) (after K) (λ d x. undriven x) (λ d. d) (λ d rest. d.fitted ≡ false)
            (λ d x rest f. let now = did d x f in (now.0 ∙ f, refl, now.2)) b xs e).0
            ∙ alone (after K) undriven b xs,
        (keeps (after K) (λ d rest. (d.fitted ≡ false) × (d.rec ≡ b.rec))
            (λ d x rest h. let now = did d x h.0 in (now.0 ∙ h.0, now.1 ∙ h.1)) b xs (e, refl)).1,
      )
