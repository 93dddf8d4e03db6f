-- The report of a run.
use Rattle.std.specs.Prelude.{ℕ, Ok, Err, Result}
use Rattle.std.specs.Option.{unwrap_or}
use Rattle.datasheet.specs.declared.refusal.Refusal.{Refusal}
use Rattle.datasheet.specs.Refusals.{refusal_number, refusal_place}
use Rattle.script.specs.declared.run.Counts.{Counts}
use Rattle.script_reports.specs.declared.Report.{Report}

-- the counts of a run, or the number of its refusal and its place, 0 where it has none; and the stored bits
-- afterwards
abbrev pub report_of : Result Counts Refusal → ℕ → Report
report_of (Ok counts) stored =
    record { refusal = 0; place = 0; steps = counts.steps; «answer_bytes» = counts.bytes; stored = stored }
report_of (Err e) stored =
    let place : ℕ = unwrap_or (refusal_place e) 0 in
    record { refusal = refusal_number e; place = place; steps = 0; «answer_bytes» = 0; stored = stored }
