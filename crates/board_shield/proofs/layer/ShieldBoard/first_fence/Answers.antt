use Rattle.std.proofs.Common.{Ok, Err, Option, ap, ◌∙◌}
use Rattle.std.proofs.lemmas.Result.{err_from_is_err_and}
use Rattle.board_shield.specs.Shields.{earlier}
use Rattle.board_shield.specs.Tables.{ranges_of}
use Rattle.board_shield.proofs.Covers.{fence_answer, fence_refused}
use Rattle.board_shield.proofs.layer.ShieldBoard.first_fence.Goals as goal

pub returns-in_err-below-clause-answer : goal.returns-in_err-below-clause-answer
returns-in_err-below-clause-answer g c =
    let s = c.args.self.now in
    let p = err_from_is_err_and c.from_residual.result c.from_residual.ensures.1 in
    p.1 ∙ ap Err p.2 ∙ fence_refused (ranges_of s.ranges) (g.B.ReadBoard.image s.below) c.args.start c.args.count _ c.in_err-below.ensures.answer

pub returns-clause-answer : goal.returns-clause-answer
returns-clause-answer g c =
    let s = c.args.self.now in
    let below = c.in_ok-below.below in
    ap Ok (c.earlier.ensures ∙ ap (λ (o : Option _). earlier o below) c.first_in.ensures)
    ∙ fence_answer (ranges_of s.ranges) (g.B.ReadBoard.image s.below) c.args.start c.args.count below c.in_ok-below.ensures.answer
