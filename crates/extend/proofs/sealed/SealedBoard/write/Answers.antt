use Rattle.std.proofs.Common.{ap, sym, ◌∙◌}
use Rattle.extend.specs.Seals.{all_fenced}
use Rattle.extend.proofs.Sealing.{left_sealed, stays_sealed, refused_sealed, has_some}
use Rattle.extend.proofs.sealed.SealedBoard.write.Goals as goal

pub returns-then-is_empty-clause-after : goal.returns-then-is_empty-clause-after
returns-then-is_empty-clause-after g c =
    ap all_fenced c.size.ensures.same
    ∙ left_sealed (all_fenced (g.B.ReadBoard.image c.args.self.now.below)) c.args.start c.args.bytes.now (sym c.is_empty.ensures ∙ c.if-is_empty.true)

pub returns-else-is_empty-clause-answer : goal.returns-else-is_empty-clause-answer
returns-else-is_empty-clause-answer g c =
    refused_sealed (g.B.ReadBoard.image c.args.self.now.below) _ c.args.start c.args.bytes.now c.size.ensures.answer c.in_ok-check_range.ensures
    (has_some c.args.bytes.now (sym c.is_empty.ensures ∙ c.if-is_empty.false))

pub returns-else-is_empty-clause-after : goal.returns-else-is_empty-clause-after
returns-else-is_empty-clause-after g c =
    ap all_fenced c.size.ensures.same
    ∙ stays_sealed (g.B.ReadBoard.image c.args.self.now.below) _ c.args.start c.args.bytes.now c.size.ensures.answer c.in_ok-check_range.ensures
    (has_some c.args.bytes.now (sym c.is_empty.ensures ∙ c.if-is_empty.false))
