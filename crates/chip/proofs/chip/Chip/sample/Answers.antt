use Rattle.chip_laws.proofs.Follow.{enough}
use Rattle.chip_laws.proofs.Rolls.{rolls_over}
use Rattle.chip.proofs.chip.Chip.sample.Goals as goal

pub returns-in_err-sample-clause-enough : goal.returns-in_err-sample-clause-enough
returns-in_err-sample-clause-enough c = enough

pub returns-clause-enough : goal.returns-clause-enough
returns-clause-enough c = enough

pub returns-in_err-sample-clause-rolls : goal.returns-in_err-sample-clause-rolls
returns-in_err-sample-clause-rolls c = rolls_over

pub returns-clause-rolls : goal.returns-clause-rolls
returns-clause-rolls c = rolls_over
