-- A visit that was not refused before it began.
use Rattle.std.proofs.Common.{◌≡◌, ℕ, Bool, true, cond, List, Ok, ap, sym, ◌∙◌}
use Rattle.datasheet.specs.declared.sheet.Sheet.{Sheet}
use Rattle.datasheet.specs.declared.sheet.Marks.{Marks}
use Rattle.datasheet.specs.declared.refusal.Refusal.TheVariants.{MemoryLength}
use Rattle.datasheet.specs.Sheets.{fits, Made}
use Rattle.datasheet.specs.Records.{stored_bits}
use Rattle.script_reports.specs.Visits.{Visit, Visits, refused}

-- what fits and has its stored bits goes
pub goes_by : {V : Type 0} (going : ℕ → V) (refusing : V) {fit : Bool} {stored dropped : ℕ} {v : V} → fit ≡ true → stored ≡ dropped → v ≡ going stored →
    v ≡ cond fit (going dropped) refusing
goes_by going refusing {dropped = dropped} is same v = v ∙ ap going same ∙ sym (ap (λ (b : Bool). cond b (going dropped) refusing) is)

pub goes : (run : Sheet → ℕ → List ℕ → List ℕ → List ℕ → Visit) {t f : ℕ} {marks : Marks} {status : ℕ} {memory script answers : List ℕ} {v : Visit} (s : Sheet) (stored : ℕ) →
    Made t f marks (Ok s) → fits s memory ≡ true → stored ≡ stored_bits status → v ≡ run s stored memory script answers →
    Visits run t f marks status memory script answers v
goes run {status = status} {memory = memory} {script = script} {answers = answers} s stored made fit dropped is =
    (Ok s, made, goes_by (λ (n : ℕ). run s n memory script answers) (refused MemoryLength (stored_bits status) memory answers) fit dropped is)
