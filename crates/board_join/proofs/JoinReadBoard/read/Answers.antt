use Rattle.std.proofs.Common.{◌∙◌}
use Rattle.board_join.proofs.Halves.{parts, read_answered, read_join}
use Rattle.board_join.proofs.JoinReadBoard.read.Goals as goal

pub returns-clause-answer : goal.returns-clause-answer
returns-clause-answer g c =
    let told = c.in_ok-cut.ensures in
    let h = parts told.cut told.first told.second in
    let split = c.split_at_mut-front.ensures in
    c.read-2.ensures.answer ∙ read_answered c.args.buffer.now h split.front split.back

pub returns-clause-filled : goal.returns-clause-filled
returns-clause-filled g c =
    let told = c.in_ok-cut.ensures in
    let h = parts told.cut told.first told.second in
    let split = c.split_at_mut-front.ensures in
    read_join c.args.buffer.now h split.front split.back c.read.ensures.filled c.read-2.ensures.filled
