-- What a transfer comes to, by the rules over the full list of bits.
use Rattle.std.proofs.Common.{◌≡◌, ℕ, Bool, cond, List, None, refl, ap, ◌∙◌}
use Rattle.datasheet.specs.declared.registers.Registers.{Registers}
use Rattle.datasheet.specs.declared.course.Course.{Course}
use Rattle.datasheet.specs.declared.course.Course.TheVariants.{Running, Held, Spoiled}
use Rattle.datasheet.specs.declared.sheet.Sheet.{Sheet}
use Rattle.datasheet.specs.Records.{Record, waking}
use Rattle.datasheet.specs.Chips.{PinState, PinState.deselected, PinState.selected, whole, closed_in}
use Rattle.datasheet.specs.Calls.{ChipState, powered, run}
use Rattle.datasheet.specs.Kept.{bounded, kept, kept_chip}
use Rattle.chip_laws.proofs.Follow.{enough}
use Rattle.chip_laws.proofs.Simulation.{end_same}
use Rattle.spi_model.specs.Buses.{Bus}
use Rattle.spi_model.specs.Meanings.{made}
use Rattle.spi_model.specs.Laws.{kept_bus}
use Rattle.spi_driver.specs.Left.{samples, left_in}
use Rattle.spi_driver.specs.declared.transfers.TransferOutcome.{TransferOutcome}
use Rattle.spi_driver.specs.Transfers.{Transferred, transferred_to, transferred, transferred_parked, transfer_calls}

-- the end of a session of which this is kept
closed_kept : (s : Sheet) (course : Course) (r : Record) (bits : List Bool) →
    closed_in bounded s course r (kept s bits) ≡ closed_in whole s course r bits
closed_kept s Running r bits = ap (cond r.asleep (waking r)) (end_same s r bits)
closed_kept s (Held sck) r bits = ap (cond r.asleep (waking r)) (end_same s r bits)
closed_kept s Spoiled r bits = refl

-- a bus made over a chip that keeps what is needed
made_kept : (wp : Bool) (s : Sheet) (f : Bool) (r : Record) (p : PinState (List Bool)) →
    let d : ChipState (List Bool) = record { sheet = s; fitted = f; rec = r; pins = p } in
    made bounded wp (kept_chip d) ≡ kept_bus (made whole wp d)
made_kept wp s f r deselected = refl
made_kept wp s f r (selected o) =
    ap (λ (q : Record). record { sheet = s; wp = wp; fitted = f; rec = cond f q r; session = None }) (closed_kept s o.course r o.kept)

-- from power on, through these samples, to the bus of a line
pub found_kept : (s : Sheet) (memory : List ℕ) (stored : ℕ) (before : List ℕ) (wp : Bool) (c e : ChipState Registers) →
    c ≡ powered s memory stored → e ≡ run bounded c (samples before) → made bounded wp e ≡ kept_bus (left_in s memory stored before wp)
unfolding left_in
found_kept s memory stored before wp c e h k =
    let fresh : ChipState (List Bool) = powered s memory stored in
    let left : ChipState (List Bool) = run whole fresh (samples before) in
    ap (made bounded wp) (k ∙ ap (λ (d : ChipState Registers). run bounded d (samples before)) h ∙ (enough fresh (samples before)).1)
    ∙ made_kept wp left.sheet left.fitted left.rec left.pins

-- what is kept of a session does not change what a transfer comes to
pub kept_transferred : (b : Bus (List Bool)) (start : ℕ) (bytes buffer : List ℕ) → transferred (kept_bus b) start bytes buffer ≡ transferred b start bytes buffer
unfolding transferred_to
kept_transferred b start bytes buffer = refl

-- nor which calls it makes
pub kept_calls : (wp : Bool) (c : ChipState (List Bool)) (start : ℕ) (bytes : List ℕ) (count : ℕ) →
    transfer_calls (made bounded wp (kept_chip c)) start bytes count ≡ transfer_calls (made whole wp c) start bytes count
unfolding transfer_calls
kept_calls wp c start bytes count = ap (λ (b : Bus Registers). transfer_calls b start bytes count) (made_kept wp c.sheet c.fitted c.rec c.pins)

-- what is seen of a transfer when the chip is parked behind it
pub parked_so : {S : Type 0} {outcome : TransferOutcome} {filled memory : List ℕ} {stored : ℕ} {rec : Record} (b : Bus S) (start : ℕ) (bytes buffer : List ℕ) →
    ◌≡◌ {A = Transferred Record} (record { outcome = outcome; buffer = filled; left = rec }) (transferred b start bytes buffer) →
    memory ≡ rec.memory → stored ≡ rec.stored →
    ◌≡◌ {A = Transferred (List ℕ × ℕ)} (record { outcome = outcome; buffer = filled; left = (memory, stored) }) (transferred_parked b start bytes buffer)
unfolding transferred_to
parked_so {outcome = outcome} {filled = filled} b start bytes buffer did same kept =
    (λ i. record { outcome = outcome; buffer = filled; left = (same i, kept i) })
    ∙ ap (λ (t : Transferred Record). record { outcome = t.outcome; buffer = t.buffer; left = (t.left.memory, t.left.stored) }) did
