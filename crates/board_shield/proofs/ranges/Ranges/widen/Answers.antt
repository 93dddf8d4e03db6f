use Rattle.std.proofs.Common.{arith, rules}
use Rattle.board_shield.proofs.Tables.{widens}
use Rattle.board_shield.proofs.ranges.Ranges.widen.Goals as goal

pub returns-clause-after : goal.returns-clause-after
returns-clause-after c =
    let t = c.args.self.now in
    let w = widens t.ranges t.used c.args.i c.args.by t.eight t.few (omega arith) in
    search rules
