-- What a list of calls over a bus over pins leaves of what is kept of them.
use Rattle.std.proofs.Common.{◌≡◌, ℕ, Bool, false, List, [], ◌∷◌, sym, refl, ap, ap₂, ◌∙◌}
use Rattle.datasheet.specs.declared.registers.Registers.{Registers}
use Rattle.datasheet.specs.declared.sample.Sample.{Sample}
use Rattle.datasheet.specs.Calls.{ChipState}
use Rattle.datasheet.specs.Kept.{bounded}
use Rattle.datasheet.specs.Machines.{left_by}
use Rattle.datasheet.proofs.Machines.{left_behind}
use Rattle.spi_model.specs.declared.mode.Mode.{Mode}
use Rattle.spi_model.specs.declared.mode.Mode.TheVariants.{Mode0}
use Rattle.spi_model.specs.declared.bus_call.BusCall.{BusCall}
use Rattle.spi_model.specs.Puts.{tracing, puts}
use Rattle.spi_model.specs.Samples.{rises}
use Rattle.spi_model.specs.Lines.{AtLine, open_after, call_samples, line_made, line_run, line_samples}
use Rattle.spi_model.specs.SteppedChips.{cs_samples, stepped_samples}
use Rattle.spi_model.proofs.Samples.{as_samples}
use Rattle.spi_bus.specs.declared.line.Line.{Line}
use Rattle.spi_bus.specs.declared.stepped.SteppedBus.{SteppedBus}
use Rattle.spi_bus.specs.declared.setting.Setting.{Setting}
use Rattle.spi_bus.specs.declared.reach.Way.TheVariants.{Stepped}
use Rattle.spi_bus.specs.Views.{line_trace, stepped_trace}
use Rattle.spi_bus.specs.Ways.{line_puts, way_puts, way_samples}
use Rattle.spi_bus.specs.Traces.{BusTrace, line_traced, stepped_traced}

module _ {T : Type 0} (traced : T → Sample → T) where
  -- the line after these calls, when these samples have reached the pins
  abbrev moved : BusTrace T → List BusCall → List Sample → BusTrace T
  moved t xs samples =
      record t { line = line_run bounded t.mode t.wp t.waits t.line xs; pins = tracing traced t.pins samples }

  pub line_left : (t : BusTrace T) (xs : List BusCall) →
      left_by (line_traced traced) t xs ≡ moved t xs (line_samples t.mode t.wp t.waits t.line.in_session xs)
  line_left t [] = refl
  line_left t (x ∷ xs) =
      let o : Bool = t.line.in_session in
      let next : BusTrace T = line_traced traced t x in
      line_left next xs
      ∙ ap (λ (p : T). record next { line = line_run bounded t.mode t.wp t.waits next.line xs; pins = p })
      (sym (left_behind traced t.pins (call_samples t.mode t.wp t.waits o x) (line_samples t.mode t.wp t.waits (open_after o x) xs)))

  pub stepped_left : (t : BusTrace T) (xs : List BusCall) →
      left_by (stepped_traced traced) t xs ≡ moved t xs (stepped_samples t.wp t.line.in_session xs)
  stepped_left t [] = refl
  stepped_left t (x ∷ xs) =
      let o : Bool = t.line.in_session in
      let next : BusTrace T = stepped_traced traced t x in
      stepped_left next xs
      ∙ ap (λ (p : T). record next { line = line_run bounded t.mode t.wp t.waits next.line xs; pins = p })
      (sym (left_behind traced t.pins (cs_samples t.wp o x) (stepped_samples t.wp (open_after o x) xs)))

  -- ## From the making on

  module _ (mode : Mode) (wp : Bool) (waits : ℕ) (c : ChipState Registers) (p : T) where
    -- just made, over this chip, where this was kept of the samples before
    abbrev new : BusTrace T
    new =
        record {
          mode = mode;
          waits = waits;
          wp = wp;
          line = line_made bounded mode wp c;
          pins = tracing traced p (rises mode wp ∷ []);
        }

    begun : (t : BusTrace T) → t.mode ≡ mode → t.waits ≡ waits → t.wp ≡ wp → t.line.chip ≡ puts bounded c (rises mode wp ∷ []) →
        t.line.in_session ≡ false → t.pins ≡ tracing traced p (rises mode wp ∷ []) → t ≡ new
    begun t m n w d o q i = record { mode = m i; waits = n i; wp = w i; line = record { chip = d i; in_session = o i }; pins = q i }

    module _ (xs : List BusCall) where
      abbrev samples : List Sample
      samples = rises mode wp ∷ line_samples mode wp waits false xs

      reached : (u : BusTrace T) (pins : List Sample) → u ≡ moved new xs pins → u.line.chip ≡ puts bounded c samples
      reached u pins e =
          ap (λ (t : BusTrace T). t.line.chip) e
          ∙ ap (λ (l : AtLine Registers). l.chip) (as_samples bounded mode wp waits (line_made bounded mode wp c) xs)

      line_did : (u : BusTrace T) → u ≡ left_by (line_traced traced) new xs →
          (u.line.chip ≡ puts bounded c samples) × (u.pins ≡ tracing traced p samples)
      line_did u e =
          let all = e ∙ line_left new xs in
          (reached u (line_samples mode wp waits false xs) all, ap (λ (t : BusTrace T). t.pins) all)

      stepped_did : (u : BusTrace T) → u ≡ left_by (stepped_traced traced) new xs →
          (u.line.chip ≡ puts bounded c samples) × (u.pins ≡ tracing traced p (rises mode wp ∷ stepped_samples wp false xs))
      stepped_did u e =
          let all = e ∙ stepped_left new xs in
          (reached u (stepped_samples wp false xs) all, ap (λ (t : BusTrace T). t.pins) all)

-- ## In the words of the code

module _ {T : Type 0} (traced : T → Sample → T) (c : ChipState Registers) (p : T) (xs ys : List BusCall) (same : xs ≡ ys) where
  -- what a line was and came to, which was made over this chip and made these calls
  pub line_reaches : {P : Type 0} {g : _} (l m : Line P g) (chip : P → ChipState Registers) (trace : P → T) (s : Setting) → l.setting ≡ s →
      chip l.pins ≡ puts bounded c (rises s.mode s.wp ∷ []) → l.in_session ≡ false → trace l.pins ≡ tracing traced p (rises s.mode s.wp ∷ []) →
      line_trace chip trace m ≡ left_by (line_traced traced) (line_trace chip trace l) xs →
      (chip m.pins ≡ puts bounded c (line_puts s ys)) × (trace m.pins ≡ tracing traced p (line_puts s ys))
  line_reaches l m chip trace s set put closed kept did =
      let start = begun traced s.mode s.wp s.waits c p (line_trace chip trace l)
      (ap (λ (x : Setting). x.mode) set) (ap (λ (x : Setting). x.waits) set) (ap (λ (x : Setting). x.wp) set) put closed kept in
      line_did traced s.mode s.wp s.waits c p ys (line_trace chip trace m)
      (did ∙ ap₂ (λ (t : BusTrace T) (zs : List BusCall). left_by (line_traced traced) t zs) start same)

  -- the same of a bus over a chip that is stepped by bytes
  pub stepped_reaches : {C : Type 0} {g : _} (l m : SteppedBus C g) (chip : C → ChipState Registers) (trace : C → T) (wp : Bool) → l.wp ≡ wp →
      chip l.chip ≡ puts bounded c (rises Mode0 wp ∷ []) → l.in_session ≡ false → trace l.chip ≡ tracing traced p (rises Mode0 wp ∷ []) →
      stepped_trace chip trace m ≡ left_by (stepped_traced traced) (stepped_trace chip trace l) xs →
      (chip m.chip ≡ puts bounded c (way_samples (Stepped wp) ys)) × (trace m.chip ≡ tracing traced p (way_puts (Stepped wp) ys))
  stepped_reaches l m chip trace wp set put closed kept did =
      let start = begun traced Mode0 wp 0 c p (stepped_trace chip trace l) refl refl set put closed kept in
      stepped_did traced Mode0 wp 0 c p ys (stepped_trace chip trace m)
      (did ∙ ap₂ (λ (t : BusTrace T) (zs : List BusCall). left_by (stepped_traced traced) t zs) start same)
