use Rattle.std.proofs.Common.{◌≡◌, ◌+◌, ◌≤◌, length}
use Rattle.script.specs.Reading.{read_script, counted}
use Rattle.script.specs.Views.{left}
use Rattle.script.proofs.Ahead.{counted_from}
use Rattle.script.proofs.run.steps.count_steps.Given as goal

abbrev pub invariant-loop-step : goal.invariant-loop-step
invariant-loop-step g l =
    (l.steps + length l.step-iterator.rest.now ≤ length l.script)
    × (counted_from l.steps (left g.X.Runs.kinds l.step-iterator) ≡ counted (read_script g.X.Runs.kinds l.script))
