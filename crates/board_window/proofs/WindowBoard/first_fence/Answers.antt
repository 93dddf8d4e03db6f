use Rattle.std.proofs.Common.{rules}
use Rattle.board_model.proofs.Windows.{found_low, fence_here}
use Rattle.board_window.proofs.WindowBoard.first_fence.Goals as goal

-- the closure asks that the place lie at the base or after it, besides what holds of its captures
pub map-requires : goal.map-requires
map-requires g c =
    let w = c.args.self.now in
    let low = found_low w.offset w.count c.args.start c.args.count (g.B.ReadBoard.image w.below) c.in_ok-base.ensures.base c.in_ok-base.ensures.below c.in_ok-found.ensures.answer in
    λ place is _ _ _ _ _. low place is

pub returns-clause-answer : goal.returns-clause-answer
returns-clause-answer g c =
    let w = c.args.self.now in
    fence_here w.offset w.count c.args.start c.args.count (g.B.ReadBoard.image w.below) c.in_ok-base.ensures.base c.in_ok-base.ensures.below _ (λ place at told. search rules) c.in_ok-found.ensures.answer c.map.ensures.cases
