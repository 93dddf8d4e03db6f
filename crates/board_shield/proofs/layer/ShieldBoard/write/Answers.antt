use Rattle.std.proofs.Common.{◌+◌, Err, leb, length, sym, refl, ap, ◌∙◌}
use Rattle.std.proofs.lemmas.Result.{err_from_is_err_and}
use Rattle.board_model.specs.Images.{Image}
use Rattle.board_model.specs.Results.{write_result}
use Rattle.board_model.specs.Layers.{shielded}
use Rattle.board_model.proofs.Cells.{range_inside}
use Rattle.board_model.proofs.Standing.{image_written}
use Rattle.board_model.proofs.ShieldBeneath.{shield_standing}
use Rattle.board_shield.specs.Tables.{ranges_of}
use Rattle.board_shield.proofs.Covers.{outside, own_fenced, passed}
use Rattle.board_shield.proofs.Through.{shield_left, shield_kept}
use Rattle.board_shield.proofs.layer.ShieldBoard.write.Goals as goal

-- the range does not lie in the board below
pub returns-in_err-check_range : goal.returns-in_err-check_range
returns-in_err-check_range g c =
    let w = c.args.self.now in
    let rs = ranges_of w.ranges in
    let i = g.B.ReadBoard.image w.below in
    let at = c.args.start in
    let bs = c.args.bytes.now in
    let did = c.size.ensures in
    let p = err_from_is_err_and c.from_residual.result c.from_residual.ensures.1 in
    let refused = outside rs i at bs c.size.result _ did.answer c.in_err-check_range.ensures in
    let below = shield_kept g.B.ReadBoard.put rs i at bs refl did.beneath refused in
    record {
      answer = p.1 ∙ ap Err p.2 ∙ sym refused;
      after = image_written (shield_standing g.B.ReadBoard.standing) at bs (ap (shielded rs) (g.B.ReadBoard.shown w.below)) (ap (shielded rs) (g.B.ReadBoard.shown _)) below;
      beneath = below;
      lent = λ j. (w.ranges, did.lent j);
    }

-- a range of the shield has one of the cells
pub returns-then-has_any : goal.returns-then-has_any
returns-then-has_any g c =
    let w = c.args.self.now in
    let rs = ranges_of w.ranges in
    let i = g.B.ReadBoard.image w.below in
    let at = c.args.start in
    let bs = c.args.bytes.now in
    let did = c.size.ensures in
    let t = ap (leb (at + length bs)) (sym did.answer) ∙ range_inside c.size.result at (length bs) c.in_ok-check_range.ensures in
    let refused = own_fenced rs i at bs t (sym c.has_any.ensures ∙ c.if-has_any.true) in
    let below = shield_kept g.B.ReadBoard.put rs i at bs refl did.beneath refused in
    record {
      answer = sym refused;
      after = image_written (shield_standing g.B.ReadBoard.standing) at bs (ap (shielded rs) (g.B.ReadBoard.shown w.below)) (ap (shielded rs) (g.B.ReadBoard.shown _)) below;
      beneath = below;
      lent = λ j. (w.ranges, did.lent j);
    }

-- the board below decides
pub returns : goal.returns
returns g c =
    let w = c.args.self.now in
    let rs = ranges_of w.ranges in
    let i = g.B.ReadBoard.image w.below in
    let at = c.args.start in
    let bs = c.args.bytes.now in
    let did = c.size.ensures in
    let wrote = c.write.ensures in
    let t = ap (leb (at + length bs)) (sym did.answer) ∙ range_inside c.size.result at (length bs) c.in_ok-check_range.ensures in
    let through = passed rs i at bs t (sym c.has_any.ensures ∙ c.if-has_any.false) in
    let below = shield_left g.B.ReadBoard.put rs i at bs refl did.beneath through did.same wrote.beneath in
    record {
      answer = wrote.answer ∙ ap (λ (j : Image). write_result j at bs) did.same ∙ sym through;
      after = image_written (shield_standing g.B.ReadBoard.standing) at bs (ap (shielded rs) (g.B.ReadBoard.shown w.below)) (ap (shielded rs) (g.B.ReadBoard.shown _)) below;
      beneath = below;
      lent = λ j. (w.ranges, (wrote.lent ∙ did.lent) j);
    }
