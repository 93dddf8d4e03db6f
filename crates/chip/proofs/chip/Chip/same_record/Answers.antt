use Rattle.std.proofs.Common.{rules}
use Rattle.chip.proofs.Laws.{told}
use Rattle.chip.proofs.chip.Chip.same_record.Goals as goal

pub returns-then-eq-clause-untold : goal.returns-then-eq-clause-untold
returns-then-eq-clause-untold c = told c.args.self.now c.args.other.now _ (search rules)

pub returns-else-eq-clause-untold : goal.returns-else-eq-clause-untold
returns-else-eq-clause-untold c = told c.args.self.now c.args.other.now _ (search rules)
