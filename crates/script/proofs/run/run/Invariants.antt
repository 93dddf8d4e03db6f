use Rattle.std.proofs.Common.{◌≡◌}
use Rattle.script.specs.Views.{left, given, free}
use Rattle.script.proofs.Going.{Going}
use Rattle.script.proofs.run.run.Given as goal

abbrev pub invariant-loop-step : goal.invariant-loop-step
invariant-loop-step g l =
    Going g.X.Runs.kinds g.X.Runs.machine (g.X.Runs.state l.initial.on) l.script l.initial.answers.buffer.now l.steps (g.X.Runs.state l.on) (given l.answers) (free l.answers) (left g.X.Runs.kinds l.step-iterator)
    × (g.X.Runs.lent l.on ≡ g.X.Runs.lent l.initial.on)
    × (l.answers.buffer.ghost_name ≡ l.initial.answers.buffer.ghost_name)
