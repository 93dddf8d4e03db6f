use Rattle.std.proofs.Common.{arith, rules}
use Rattle.board_join.proofs.Halves.{parts, second_told, fence_ahead, fence_behind, place_few}
use Rattle.board_join.proofs.JoinBoard.first_fence.Goals as goal

pub returns-then-is_some-clause-answer : goal.returns-then-is_some-clause-answer
returns-then-is_some-clause-answer g c =
    let told = c.in_ok-cut.ensures in
    let h = parts told.cut told.first told.second in
    fence_ahead h c.in_ok-ahead.ensures.answer c.if-is_some.ensures

pub returns-in_err-behind-clause-answer : goal.returns-in_err-behind-clause-answer
returns-in_err-behind-clause-answer g c =
    let told = c.in_ok-cut.ensures in
    let h = parts told.cut told.first told.second in
    absurd (second_told h c.in_err-behind.ensures.answer)

-- the closure asks that the sum fit, besides what holds of its captures
pub map-requires : goal.map-requires
map-requires g c =
    let told = c.in_ok-cut.ensures in
    let h = parts {s = c.args.start} {n = c.args.count} told.cut told.first told.second in
    λ at is _ _ _ _ _. let few = place_few h c.in_ok-behind.ensures.answer at is in omega arith

pub returns-clause-answer : goal.returns-clause-answer
returns-clause-answer g c =
    let told = c.in_ok-cut.ensures in
    let h = parts told.cut told.first told.second in
    fence_behind h _ (λ place at told. search rules) c.in_ok-ahead.ensures.answer c.if-is_some.ensures c.in_ok-behind.ensures.answer c.map.ensures.cases
