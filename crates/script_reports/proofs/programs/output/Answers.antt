use borrow.Rule.Slice.PartMut.{post_of}
use Rattle.std.proofs.Common.{ℕ, List, ◌++◌, replicate, ap, ◌∙◌}
use Rattle.std.specs.Prelude.{take}
use Rattle.script_reports.proofs.FixedChip.{told, refused_told, told_left, refused_left}
use Rattle.script_reports.proofs.programs.output.Goals as goal

pub returns-then-report-ne0-clause-written : goal.returns-then-report-ne0-clause-written
returns-then-report-ne0-clause-written c =
    let run = c.run-report.ensures in
    let input = c.args.input.now in
    let cleared = c.fill.ensures.after (λ y e. e) ∙ ap (λ (n : ℕ). replicate n 0) c.told-buffer in
    let is = refused_told c.args.target input (ap (λ (n : ℕ). take n input) c.min.ensures) cleared run.report run.answers c.if-report-ne0.true in
    ap (λ (xs : List ℕ). take 4 (xs ++ post_of 0 4 c.run-report.new.answers)) (c.copy_from_slice.ensures.after ∙ c.fault_bytes.ensures) ∙ is

pub returns-clause-written : goal.returns-clause-written
returns-clause-written c =
    let run = c.run-report.ensures in
    let input = c.args.input.now in
    let cleared = c.fill.ensures.after (λ y e. e) ∙ ap (λ (n : ℕ). replicate n 0) c.told-buffer in
    told c.args.target input (ap (λ (n : ℕ). take n input) c.min.ensures) cleared run.report run.answers c.if-report-ne0.false

pub returns-then-report-ne0-clause-buffer : goal.returns-then-report-ne0-clause-buffer
returns-then-report-ne0-clause-buffer c =
    let run = c.run-report.ensures in
    let input = c.args.input.now in
    let cleared = c.fill.ensures.after (λ y e. e) ∙ ap (λ (n : ℕ). replicate n 0) c.told-buffer in
    let is = refused_left c.args.target input (ap (λ (n : ℕ). take n input) c.min.ensures) cleared run.report run.answers c.if-report-ne0.true in
    ap (λ (xs : List ℕ). xs ++ post_of 0 4 c.run-report.new.answers) (c.copy_from_slice.ensures.after ∙ c.fault_bytes.ensures) ∙ is

pub returns-clause-buffer : goal.returns-clause-buffer
returns-clause-buffer c =
    let run = c.run-report.ensures in
    let input = c.args.input.now in
    let cleared = c.fill.ensures.after (λ y e. e) ∙ ap (λ (n : ℕ). replicate n 0) c.told-buffer in
    told_left c.args.target input (ap (λ (n : ℕ). take n input) c.min.ensures) cleared run.report run.answers c.if-report-ne0.false
