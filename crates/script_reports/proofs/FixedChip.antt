-- What the script programs run their script on is the chip of their definition.
use Rattle.std.proofs.Common.{◌≡◌, ℕ, zero, suc, ◌%◌, ◌<◌, ◌≤◌, Bool, true, cond, List, length, take, min, replicate, Ok, Err, refl, sym, ap, ap₂, ◌∙◌, nat_eq, ◌++◌, drop}
use Rattle.std.proofs.Props.{props}
use Rattle.std.proofs.lemmas.List.{length-replicate, take_min}
use Rattle.std.proofs.Math.Dec.{eqb-suc-zero}
use mathlib.Core.HLevel.{is_prop→PathP}
use Rattle.datasheet.specs.declared.sheet.Sheet.{Sheet}
use Rattle.datasheet.specs.declared.sheet.Marks.{Marks}
use Rattle.datasheet.specs.declared.refusal.Refusal.TheVariants.{MemoryLength}
use Rattle.datasheet.specs.Sheets.{fits, marks64vy}
use Rattle.script_reports.specs.Visits.{Visit, Visits, visited, refused}
use Rattle.script_reports.specs.declared.Report.{Report}
use Rattle.script_reports.specs.declared.programs.Target.{Target}
use Rattle.script_reports.specs.Programs.{sheet, memory, visit, buffer, fault_bytes, output, buffer_left}

-- two sheets with the same ID bytes and marks are one
same_sheet : (s r : Sheet) → s.t ≡ r.t → s.f ≡ r.f → s.marks ≡ r.marks → s ≡ r
same_sheet s r t f m = λ i.
    record {
      t = t i;
      f = f i;
      marks = m i;
      known = is_prop→PathP (λ j. (1 ≤ t j % 32) × (t j % 32 ≤ 5)) (λ j. hlevel props) s.known r.known i;
      bytes = is_prop→PathP (λ j. (t j < 256) × (f j < 256)) (λ j. hlevel props) s.bytes r.bytes i;
    }

-- the cells that are lent
pub zeros : replicate 8192 0 ≡ memory
unfolding memory
zeros = refl

fit : fits sheet memory ≡ true
unfolding memory
fit = ap (λ (n : ℕ). nat_eq n 8192) (length-replicate {A = ℕ} 8192 0)

-- a visit to the chip of these numbers, over memory of zeros
pub fixed : (run : Sheet → ℕ → List ℕ → List ℕ → List ℕ → Visit) {t f : ℕ} {marks : Marks} {cells script buffer : List ℕ} {v : Visit} →
    t ≡ 3 → f ≡ 2 → marks ≡ marks64vy → cells ≡ memory → Visits run t f marks 0 cells script buffer v → v ≡ run sheet 0 memory script buffer
fixed run {cells = cells} {script = script} {buffer = buffer} third fourth marked cleared (Ok s, made, is) =
    let one = same_sheet s sheet (made.1 ∙ third) (made.2 ∙ fourth) (made.3 ∙ marked) in
    is
    ∙ ap (λ (r : Sheet). visited run (Ok r) 0 cells script buffer) one
    ∙ ap (λ (m : List ℕ). visited run (Ok sheet) 0 m script buffer) cleared
    ∙ ap (λ (b : Bool). cond b (run sheet 0 memory script buffer) (refused MemoryLength 0 memory buffer)) fit
fixed run third fourth marked cleared (Err e, made, is) = cc

-- what is chosen where a number is not 0
pick : (n : ℕ) → (n ≡ 0 → ⊥) → (xs ys : List ℕ) → cond (nat_eq n 0) xs ys ≡ ys
pick zero some xs ys = absurd (some refl)
pick (suc n) some xs ys = ap (λ (b : Bool). cond b xs ys) (eqb-suc-zero n)

-- what is written of a run: its report r, the front of the answer buffer that it left, and the script that was taken off the input
module _ (target : Target) (input : List ℕ) {script answers filled : List ℕ} {r : Report} (taken : script ≡ take (min 4096 (length input)) input)
    (before : answers ≡ replicate 36864 0) (report : r ≡ (visit target script answers).report) (left : filled ≡ (visit target script answers).answers) where
  run_is : visit target script answers ≡ visit target (take 4096 input) buffer
  unfolding buffer
  run_is = ap₂ (visit target) (taken ∙ take_min 4096 input) before

  pub told : r.refusal ≡ 0 → take r.«answer_bytes» filled ≡ output target input
  unfolding output
  told none =
      let v = visit target (take 4096 input) buffer in
      let same = report ∙ ap (λ (w : Visit). w.report) run_is in
      let zero : v.report.refusal ≡ 0 = sym (ap (λ (q : Report). q.refusal) same) ∙ none in
      ap₂ (λ (n : ℕ) (bytes : List ℕ). take n bytes) (ap (λ (q : Report). q.«answer_bytes») same) (left ∙ ap (λ (w : Visit). w.answers) run_is)
      ∙ sym (ap (λ (n : ℕ). cond (nat_eq n 0) (take v.report.«answer_bytes» v.answers) (fault_bytes v.report)) zero)

  pub refused_told : (r.refusal ≡ 0 → ⊥) → fault_bytes r ≡ output target input
  unfolding output
  refused_told some =
      let v = visit target (take 4096 input) buffer in
      let same = report ∙ ap (λ (w : Visit). w.report) run_is in
      ap fault_bytes same
      ∙ sym (pick v.report.refusal (λ none. some (ap (λ (q : Report). q.refusal) same ∙ none)) (take v.report.«answer_bytes» v.answers) (fault_bytes v.report))

  pub told_left : r.refusal ≡ 0 → filled ≡ buffer_left target input
  unfolding buffer_left
  told_left none =
      let v = visit target (take 4096 input) buffer in
      let same = report ∙ ap (λ (w : Visit). w.report) run_is in
      let zero : v.report.refusal ≡ 0 = sym (ap (λ (q : Report). q.refusal) same) ∙ none in
      left ∙ ap (λ (w : Visit). w.answers) run_is
      ∙ sym (ap (λ (n : ℕ). cond (nat_eq n 0) v.answers (fault_bytes v.report ++ drop 4 v.answers)) zero)

  pub refused_left : (r.refusal ≡ 0 → ⊥) → fault_bytes r ++ drop 4 filled ≡ buffer_left target input
  unfolding buffer_left
  refused_left some =
      let v = visit target (take 4096 input) buffer in
      let same = report ∙ ap (λ (w : Visit). w.report) run_is in
      ap₂ (λ (q : Report) (xs : List ℕ). fault_bytes q ++ drop 4 xs) same (left ∙ ap (λ (w : Visit). w.answers) run_is)
      ∙ sym (pick v.report.refusal (λ none. some (ap (λ (q : Report). q.refusal) same ∙ none)) v.answers (fault_bytes v.report ++ drop 4 v.answers))
