use Rattle.std.proofs.Common.{sym, ap, is_some, ◌∙◌}
use Rattle.board_model.proofs.Standing.{image_written}
use Rattle.board_model.proofs.Joins.{join_shown}
use Rattle.board_join.proofs.Halves.{parts, second_told, free, write_answered, write_refused}
use Rattle.board_model.proofs.JoinBeneath.{join_standing}
use Rattle.board_join.proofs.Parted.{both_left, both_kept}
use Rattle.board_join.proofs.JoinBoard.write.Goals as goal

pub returns-in_err-behind : goal.returns-in_err-behind
returns-in_err-behind g c =
    let told = c.in_ok-cut.ensures in
    let h = parts told.cut told.first told.second in
    absurd (second_told h c.in_err-behind.ensures.answer)

pub returns : goal.returns
returns g c =
    let w = c.args.self.now in
    let told = c.in_ok-cut.ensures in
    let h = parts told.cut told.first told.second in
    let f = free h c.first_fence.ensures.same c.first_fence-2.ensures.same c.in_ok-ahead.ensures.answer c.in_ok-behind.ensures.answer (c.if-is_some.ensures ∙ ap is_some c.or.ensures) in
    let bs = c.args.bytes.now in
    let split = c.split_at.ensures in
    let below =
    both_left bs f split.front split.back g.A.ReadBoard.shows g.A.ReadBoard.put g.B.ReadBoard.put (g.A.ReadBoard.shown w.first)
    (c.first_fence.ensures.beneath ∙ told.beneath_first) (c.first_fence-2.ensures.beneath ∙ told.beneath_second) c.write.ensures.beneath c.write-2.ensures.beneath in
    record {
      answer = c.write-2.ensures.answer ∙ write_answered bs f split.front split.back;
      after = image_written (join_standing g.A.ReadBoard.standing g.B.ReadBoard.standing) c.args.start bs (join_shown (g.A.ReadBoard.shown w.first) (g.B.ReadBoard.shown w.second)) (join_shown (g.A.ReadBoard.shown _) (g.B.ReadBoard.shown _)) below;
      beneath = below;
      lent = λ i. ((c.write.ensures.lent ∙ c.first_fence.ensures.lent ∙ told.lent_first) i, (c.write-2.ensures.lent ∙ c.first_fence-2.ensures.lent ∙ told.lent_second) i);
    }

pub returns-then-is_some : goal.returns-then-is_some
returns-then-is_some g c =
    let w = c.args.self.now in
    let told = c.in_ok-cut.ensures in
    let h = parts told.cut told.first told.second in
    let bs = c.args.bytes.now in
    let ahead = c.in_ok-ahead.ensures.answer in
    let behind = c.in_ok-behind.ensures.answer in
    let some = c.if-is_some.ensures ∙ ap is_some c.or.ensures in
    let refused = write_refused bs h ahead behind some in
    let below = both_kept _ refused (c.first_fence.ensures.beneath ∙ told.beneath_first) (c.first_fence-2.ensures.beneath ∙ told.beneath_second) in
    record {
      answer = sym refused;
      after = image_written (join_standing g.A.ReadBoard.standing g.B.ReadBoard.standing) c.args.start bs (join_shown (g.A.ReadBoard.shown w.first) (g.B.ReadBoard.shown w.second)) (join_shown (g.A.ReadBoard.shown _) (g.B.ReadBoard.shown _)) below;
      beneath = below;
      lent = λ i. ((c.first_fence.ensures.lent ∙ told.lent_first) i, (c.first_fence-2.ensures.lent ∙ told.lent_second) i);
    }
