-- The samples of a transfer carry it out at the pins of any fitted chip, by the rules over the full list of bits.
use Rattle.std.proofs.Common.{◌≡◌, ℕ, ◌<◌, Bool, true, false, cond, List, ◌∷◌, length, slice_index, Option, Ok, sym, refl, ap, ◌∙◌, subst, arith}
use Rattle.std.proofs.lemmas.Bool.{eq-eqb}
use Rattle.datasheet.specs.declared.registers.Registers.{Registers}
use Rattle.datasheet.specs.declared.course.Course.{Course}
use Rattle.datasheet.specs.declared.course.Course.TheVariants.{Running, Held, Spoiled}
use Rattle.datasheet.specs.declared.sheet.Sheet.{Sheet}
use Rattle.datasheet.specs.declared.command.Command.{Command}
use Rattle.datasheet.specs.Records.{Record, waking}
use Rattle.datasheet.specs.Sessions.{command}
use Rattle.datasheet.specs.Ends.{ended}
use Rattle.datasheet.specs.Memory.{SoundMemory}
use Rattle.datasheet.specs.Chips.{PinState, deselected, selected, whole, closed, closed_in}
use Rattle.datasheet.specs.Calls.{ChipState}
use Rattle.datasheet.specs.Kept.{bounded}
use Rattle.spi_model.specs.declared.mode.Mode.{Mode}
use Rattle.spi_model.specs.declared.bus_call.BusCall.{BusCall}
use Rattle.spi_model.specs.declared.bus_answer.BusAnswer.{BusAnswer}
use Rattle.spi_model.specs.Puts.{puts}
use Rattle.spi_model.specs.Samples.{rises}
use Rattle.spi_model.specs.Buses.{Bus, run}
use Rattle.spi_model.specs.Lines.{AtLine, line_made, line_run, line_answers, line_samples}
use Rattle.spi_model.specs.Meanings.{made, meaning_of}
use Rattle.spi_model.proofs.Calls.{follows_whole, follows_bounded, line_is_bus}
use Rattle.spi_model.proofs.Keeps.{bus_keeps_enough}
use Rattle.spi_model.proofs.Samples.{as_samples, deselects}
use Rattle.spi_bus.specs.declared.setting.Setting.{Setting}
use Rattle.spi_bus.specs.Ways.{line_puts}
use Rattle.board_model.specs.Results.{read_result}
use Rattle.board_model.specs.Images.{bytes_of, part}
use Rattle.spi_driver.specs.Drives.{image_of, calm, after_write}
use Rattle.spi_driver.specs.Transfers.{transfer_calls}
use Rattle.spi_driver.specs.Carried.{bytes_read, last, CarriedOut}
use Rattle.spi_driver.proofs.Cells.{part_bytes}
use Rattle.spi_driver.proofs.ByRules.{kept_calls}
use Rattle.spi_driver.proofs.Carried.{ends_closed, transfer_left, transfer_read}

-- the end of a session leaves the memory
ended_memory : (s : Sheet) (c : Option Command) (r : Record) (n : ℕ) → (ended s c r n).memory ≡ r.memory
ended_memory s c r n = grind arith

closed_memory : (s : Sheet) (r : Record) (bits : List Bool) → (closed whole s r bits).memory ≡ r.memory
closed_memory s r bits = go r.asleep
  where
    go : (a : Bool) → (cond a (waking r) (ended s (command s bits) r (length bits))).memory ≡ r.memory
    go true = refl
    go false = ended_memory s (command s bits) r (length bits)

closed_in_memory : (s : Sheet) (course : Course) (r : Record) (bits : List Bool) → (closed_in whole s course r bits).memory ≡ r.memory
closed_in_memory s Running r bits = closed_memory s r bits
closed_in_memory s (Held sck) r bits = closed_memory s r bits
closed_in_memory s Spoiled r bits = refl

module _ (mode : Mode) (wp : Bool) (waits : ℕ) (start : ℕ) (bytes : List ℕ) (count : ℕ) (are : (i : ℕ) → slice_index bytes i < 256) where
  -- what is to be shown of a chip
  abbrev Holds : ChipState (List Bool) → Type 0
  Holds c =
      let left : Bus (List Bool) = after_write (calm (made whole wp c)) start bytes in
      let calls : List BusCall = transfer_calls (made whole wp c) start bytes count in
      (puts whole c (rises mode wp ∷ line_samples mode wp waits false calls) ≡ record c { rec = left.rec; pins = deselected })
      × (read_result (image_of left) start count ≡ Ok tt →
      last count (bytes_read (line_answers whole mode wp waits (line_made whole mode wp c) calls)) ≡ bytes_of (part (image_of left) start count))

  module _ (s : Sheet) (r : Record) (p : PinState (List Bool)) where
    abbrev chip : ChipState (List Bool)
    chip = record { sheet = s; fitted = true; rec = r; pins = p }

    memory_same : (q : PinState (List Bool)) → (made whole wp (record { sheet = s; fitted = true; rec = r; pins = q })).rec.memory ≡ r.memory
    memory_same deselected = refl
    memory_same (selected o) = closed_in_memory s o.course r o.kept

    fitted_holds : SoundMemory s true r.memory → Holds chip
    unfolding transfer_calls
    fitted_holds sound =
        let b : Bus (List Bool) = made whole wp chip in
        let m : SoundMemory s true b.rec.memory = subst (SoundMemory s true) (sym (memory_same p)) sound in
        let calls : List BusCall = transfer_calls b start bytes count in
        let line : AtLine (List Bool) = line_run whole mode wp waits (line_made whole mode wp chip) calls in
        let enough = bus_keeps_enough b calls in
        let law = line_is_bus whole follows_whole mode wp waits chip calls in
        let kept = sym enough.1 ∙ transfer_left s wp b.rec m start bytes are count in
        let means : meaning_of whole wp line ≡ run whole b calls = law.1 in
        let left : Bus (List Bool) = after_write (calm b) start bytes in
        let reached = ap (λ (l : AtLine (List Bool)). l.chip) (as_samples whole mode wp waits (line_made whole mode wp chip) calls) in
        let is_fitted : line.chip.fitted ≡ true = ap (λ (d : Bus (List Bool)). d.fitted) means ∙ ap (λ (d : Bus Registers). d.fitted) kept in
        let is_sheet : line.chip.sheet ≡ s = ap (λ (d : Bus (List Bool)). d.sheet) means ∙ ap (λ (d : Bus Registers). d.sheet) kept in
        let is_rec : line.chip.rec ≡ left.rec = ap (λ (d : Bus (List Bool)). d.rec) means ∙ ap (λ (d : Bus Registers). d.rec) kept in
        let is_pins = deselects whole mode wp waits follows_whole chip calls (ends_closed b start bytes count)
        (ap (λ (d : ChipState (List Bool)). d.fitted) (sym reached) ∙ is_fitted) in
        let on_line : line.chip.pins ≡ deselected = ap (λ (d : ChipState (List Bool)). d.pins) reached ∙ is_pins in (
          sym reached ∙ (λ i. record { sheet = is_sheet i; fitted = is_fitted i; rec = is_rec i; pins = on_line i }),
          λ h.
              ap (λ (as' : List BusAnswer). last count (bytes_read as')) (law.0 ∙ sym enough.0)
              ∙ transfer_read s wp b.rec m start bytes are count h
              ∙ sym (part_bytes s left.rec start count),
        )

pub carried_out : CarriedOut
unfolding CarriedOut
carried_out mode wp waits c start bytes count fitted are =
    let sound : SoundMemory c.sheet true c.rec.memory = record { fit = sym (eq-eqb _ _ fitted.size); bytes = fitted.bytes } in
    let holds = subst (λ (f : Bool). Holds mode wp waits start bytes count are (record c { fitted = f })) (sym fitted.fit)
    (fitted_holds mode wp waits start bytes count are c.sheet c.rec c.pins sound) in
    (kept_calls wp c start bytes count, holds.0, holds.1)

-- a fitted chip is deselected behind a transfer
pub transfer_deselects : (s : Setting) (c d : ChipState Registers) (start : ℕ) (bytes : List ℕ) (count : ℕ) →
    d ≡ puts bounded c (line_puts s (transfer_calls (made bounded s.wp c) start bytes count)) → d.fitted ≡ true → d.pins ≡ deselected
transfer_deselects s c d start bytes count put fitted =
    let b : Bus Registers = made bounded s.wp c in
    let calls : List BusCall = transfer_calls b start bytes count in
    ap (λ (e : ChipState Registers). e.pins) put
    ∙ deselects bounded s.mode s.wp s.waits follows_bounded c calls (ends_closed b start bytes count)
    (ap (λ (e : ChipState Registers). e.fitted) (sym put) ∙ fitted)
