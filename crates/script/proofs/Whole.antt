-- The run of a chip that keeps no more of a session than it needs is the run by the rules over the full list of bits.
use Rattle.std.proofs.Common.{◌≡◌, ℕ, ◌*◌, Bool, true, false, cond, leb, List, length, refl, ap, ap₂, ◌∙◌, Ok, Err, Result}
use Rattle.std.specs.List.{flat_map}
use Rattle.datasheet.specs.declared.registers.Registers.{Registers}
use Rattle.datasheet.specs.declared.sheet.Sheet.{Sheet}
use Rattle.datasheet.specs.declared.refusal.Refusal.TheVariants.{ShortBuffer}
use Rattle.datasheet.specs.declared.refusal.Refusal.{Refusal}
use Rattle.datasheet.specs.declared.sample.Sample.{Sample}
use Rattle.datasheet.specs.Samples.{sample_of}
use Rattle.datasheet.specs.Chips.{Keeping, Turn, judged, whole}
use Rattle.datasheet.specs.Calls.{ChipState, ChipCall, ChipCall.sample, cycle, ChipAnswer, powered, after, sampled, sampled_as}
use Rattle.datasheet.proofs.Machines.{keeps}
use Rattle.datasheet.specs.Kept.{bounded, kept_chip}
use Rattle.chip_laws.proofs.Follow.{enough}
use Rattle.script.specs.Steps.{chip_kinds}
use Rattle.script.specs.Reading.{Reading, reads, stops, read_script}
use Rattle.script.specs.Replies.{answer_bytes}
use Rattle.script.specs.Machines.{replies, chip_machine}
use Rattle.script.specs.Runs.{Outcome, refusing, playing, outcome_of, outcome}

-- an outcome with what is kept of its chip
abbrev pub kept_outcome : Outcome (ChipState (List Bool)) → Outcome (ChipState Registers)
kept_outcome o = record { result = o.result; left = kept_chip o.left; buffer = o.buffer }

kept_playing : (c : ChipState (List Bool)) (calls : List ChipCall) (buffer : List ℕ) (fits : Bool) →
    cond fits (playing chip_kinds (chip_machine bounded) (kept_chip c) calls (replies (chip_machine bounded) (kept_chip c) calls) buffer) (refusing ShortBuffer (kept_chip c) buffer)
    ≡ kept_outcome (cond fits (playing chip_kinds (chip_machine whole) c calls (replies (chip_machine whole) c calls) buffer) (refusing ShortBuffer c buffer))
kept_playing c calls buffer false = refl
kept_playing c calls buffer true =
    let same = enough c calls in
    ap₂
    (λ (told : List ChipAnswer) (d : ChipState Registers).
    record {
      result = (playing chip_kinds (chip_machine whole) c calls (flat_map answer_bytes told) buffer).result;
      left = d;
      buffer = (playing chip_kinds (chip_machine whole) c calls (flat_map answer_bytes told) buffer).buffer;
    })
    same.0 same.1

pub same_kept : (c : ChipState (List Bool)) (script buffer : List ℕ) → outcome bounded (kept_chip c) script buffer ≡ kept_outcome (outcome whole c script buffer)
same_kept c script buffer = go (read_script chip_kinds script)
  where
    go : (k : Reading ChipCall) →
        outcome_of chip_kinds (chip_machine bounded) k (kept_chip c) buffer ≡ kept_outcome (outcome_of chip_kinds (chip_machine whole) k c buffer)
    go (stops e) = refl
    go (reads calls) = kept_playing c calls buffer (leb (9 * length calls) (length buffer))

-- the same of a run that begins at power on
pub from_power : {c : ChipState Registers} {s : Sheet} {memory : List ℕ} {stored : ℕ} (script buffer : List ℕ) → c ≡ powered s memory stored →
    outcome bounded c script buffer ≡ kept_outcome (outcome whole (powered s memory stored) script buffer)
from_power {s = s} {memory = memory} {stored = stored} script buffer begun =
    ap (λ (x : ChipState Registers). outcome bounded x script buffer) begun ∙ same_kept (powered s memory stored) script buffer

-- whatever a script puts to a chip, it stays a chip of its sheet
put_sheet : (K : Keeping) (c : ChipState K.Kept) (byte : ℕ) → (sampled K c byte).sheet ≡ c.sheet
put_sheet K c byte = go (sample_of byte)
  where
    put_in : (fitted : Bool) (next : Turn K.Kept) → (cond fitted (record c { rec = next.rec; pins = next.pins }) c).sheet ≡ c.sheet
    put_in true next = refl
    put_in false next = refl

    go : (r : Result Sample Refusal) → (sampled_as K c r).sheet ≡ c.sheet
    go (Ok x) = put_in c.fitted (judged K c.sheet c.rec c.pins x)
    go (Err e) = refl

call_sheet : (K : Keeping) (c : ChipState K.Kept) (call : ChipCall) → (after K c call).sheet ≡ c.sheet
call_sheet K c (sample byte) = put_sheet K c byte
call_sheet K c cycle = refl

pub one_sheet : (K : Keeping) (c : ChipState K.Kept) (script buffer : List ℕ) → (outcome K c script buffer).left.sheet ≡ c.sheet
one_sheet K c script buffer = go (read_script chip_kinds script)
  where
    played : (calls : List ChipCall) (fits : Bool) →
        (cond fits (playing chip_kinds (chip_machine K) c calls (replies (chip_machine K) c calls) buffer) (refusing ShortBuffer c buffer)).left.sheet ≡ c.sheet
    played calls true = keeps (after K) (λ d rest. d.sheet ≡ c.sheet) (λ d call rest e. call_sheet K d call ∙ e) c calls refl
    played calls false = refl

    go : (k : Reading ChipCall) → (outcome_of chip_kinds (chip_machine K) k c buffer).left.sheet ≡ c.sheet
    go (stops e) = refl
    go (reads calls) = played calls (leb (9 * length calls) (length buffer))
