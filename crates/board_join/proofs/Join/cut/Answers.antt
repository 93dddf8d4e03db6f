use Rattle.std.proofs.Common.{ap, ◌∙◌, Err, arith}
use Rattle.std.proofs.lemmas.Result.{err_from_is_err_and}
use Rattle.board_model.proofs.Joins.{length_joined}
use Rattle.board_join.proofs.Halves.{cut_done, cut_refused}
use Rattle.board_join.proofs.Join.cut.Goals as goal

pub returns-in_err-check_range-clause-cut : goal.returns-in_err-check_range-clause-cut
returns-in_err-check_range-clause-cut g c =
    let a = g.A.ReadBoard.image c.args.self.now.first in
    let b = g.B.ReadBoard.image c.args.self.now.second in
    let e = length_joined a b in
    let p = err_from_is_err_and c.from_residual.result c.from_residual.ensures.1 in
    p.1 ∙ ap Err p.2 ∙ cut_refused a b c.args.start c.args.count (omega arith) c.in_err-check_range.ensures

pub returns-clause-cut : goal.returns-clause-cut
returns-clause-cut g c =
    let a = g.A.ReadBoard.image c.args.self.now.first in
    let b = g.B.ReadBoard.image c.args.self.now.second in
    let e = length_joined a b in
    cut_done a b c.args.start c.args.count (omega arith) c.in_ok-check_range.ensures c.size-seam.ensures.answer c.min-at.ensures c.min-ahead.ensures
