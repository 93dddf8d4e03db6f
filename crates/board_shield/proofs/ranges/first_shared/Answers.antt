use Rattle.std.proofs.Common.{◌≡◌, ◌-◌, ◌&&◌, ltb, ◌∙◌, le-ltb, lt-ltb}
use Rattle.board_shield.proofs.Tables.{shared_first}
use Rattle.board_shield.proofs.ranges.first_shared.Goals.{then-first-one, else-first-one}
use Rattle.board_shield.proofs.ranges.first_shared.Goals as goal

pub returns : goal.returns
returns c =
    let one = c.args.one.now in
    let other = c.args.other.now in
    let first = c.max-first.result in
    let both : c.if-first-one.shared ≡ (ltb (first - one.start) one.count && ltb (first - other.start) other.count) =
    elim c.if-first-one.branch [
      | then-first-one w ↦ rw (lt-ltb (first - one.start) one.count w.if-first-one.true) w.shared-is
      | else-first-one w ↦ rw (le-ltb (first - one.start) one.count w.if-first-one.false) (w.shared-is ∙ le-ltb (first - one.start) one.count w.if-first-one.false)
    ] in
    c.then_some.ensures ∙ shared_first one other.start other.count first c.if-first-one.shared c.max-first.ensures both
