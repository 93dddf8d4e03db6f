use Rattle.std.proofs.Common.{length, ap, ◌∙◌, arith}
use Rattle.std.proofs.lemmas.Grind.{common_steps}
use Rattle.datasheet.specs.Machines.{left_by}
use Rattle.board_model.specs.Results.{write_result}
use Rattle.spi_driver.specs.Drives.{image_of}
use Rattle.spi_driver.specs.Sessions.{writing}
use Rattle.spi_driver.proofs.Cells.{write_image}
use Rattle.spi_driver.proofs.Answered.{is_held, fenced_result, fenced_left, free_result, written_left, nothing_left}
use Rattle.spi_driver.proofs.Traced.{refused_more, done_more}
use Rattle.spi_driver.proofs.Beneath.{put_below}
use Rattle.spi_driver.proofs.driver.DriverBoard.write.Goals as goal

pub returns-then-is_some-clause-answer : goal.returns-then-is_some-clause-answer
returns-then-is_some-clause-answer g c =
    fenced_result (g.B.SpiBus.meaning c.args.self.now.bus) _ _ c.args.start c.survey-found.ensures.size c.survey-found.ensures.free c.args.bytes.now
    c.in_ok-check_range.ensures (is_held _ _ _ _ c.first_fence.ensures c.is_some.ensures ∙ c.if-is_some.true)

pub returns-then-is_some-clause-bus : goal.returns-then-is_some-clause-bus
returns-then-is_some-clause-bus g c =
    c.survey-found.ensures.same
    ∙ fenced_left (g.B.SpiBus.meaning c.args.self.now.bus) _ _ c.args.start c.survey-found.ensures.size c.survey-found.ensures.free c.args.bytes.now
    c.in_ok-check_range.ensures (is_held _ _ _ _ c.first_fence.ensures c.is_some.ensures ∙ c.if-is_some.true)

pub returns-then-is_some-clause-after : goal.returns-then-is_some-clause-after
returns-then-is_some-clause-after g c =
    ap image_of (c.survey-found.ensures.same
    ∙ fenced_left (g.B.SpiBus.meaning c.args.self.now.bus) _ _ c.args.start c.survey-found.ensures.size c.survey-found.ensures.free c.args.bytes.now
    c.in_ok-check_range.ensures (is_held _ _ _ _ c.first_fence.ensures c.is_some.ensures ∙ c.if-is_some.true))
    ∙ write_image (g.B.SpiBus.meaning c.args.self.now.bus) c.args.start c.args.bytes.now

pub returns-then-not-is_empty-clause-answer : goal.returns-then-not-is_empty-clause-answer
returns-then-not-is_empty-clause-answer g c =
    free_result (g.B.SpiBus.meaning c.args.self.now.bus) _ _ c.args.start c.survey-found.ensures.size c.survey-found.ensures.free c.args.bytes.now
    c.in_ok-check_range.ensures (is_held _ _ _ _ c.first_fence.ensures c.is_some.ensures ∙ c.if-is_some.false)

pub returns-then-not-is_empty-clause-bus : goal.returns-then-not-is_empty-clause-bus
returns-then-not-is_empty-clause-bus g c =
    written_left (g.B.SpiBus.meaning c.args.self.now.bus) _ _ c.args.start c.survey-found.ensures.size c.survey-found.ensures.free c.args.bytes.now
    c.in_ok-check_range.ensures (is_held _ _ _ _ c.first_fence.ensures c.is_some.ensures ∙ c.if-is_some.false)
    _ _ c.survey-found.ensures.same c.write_cells.ensures.after

pub returns-then-not-is_empty-clause-after : goal.returns-then-not-is_empty-clause-after
returns-then-not-is_empty-clause-after g c =
    ap image_of (written_left (g.B.SpiBus.meaning c.args.self.now.bus) _ _ c.args.start c.survey-found.ensures.size c.survey-found.ensures.free
    c.args.bytes.now c.in_ok-check_range.ensures (is_held _ _ _ _ c.first_fence.ensures c.is_some.ensures ∙ c.if-is_some.false)
    _ _ c.survey-found.ensures.same c.write_cells.ensures.after)
    ∙ write_image (g.B.SpiBus.meaning c.args.self.now.bus) c.args.start c.args.bytes.now

pub returns-else-not-is_empty-clause-after : goal.returns-else-not-is_empty-clause-after
returns-else-not-is_empty-clause-after g c =
    ap image_of (c.survey-found.ensures.same
    ∙ nothing_left (g.B.SpiBus.meaning c.args.self.now.bus) _ _ c.args.start c.survey-found.ensures.size c.survey-found.ensures.free c.args.bytes.now
    c.in_ok-check_range.ensures (is_held _ _ _ _ c.first_fence.ensures c.is_some.ensures ∙ c.if-is_some.false) (grind (arith, common_steps)))
    ∙ write_image (g.B.SpiBus.meaning c.args.self.now.bus) c.args.start c.args.bytes.now

pub returns-then-is_some-clause-exchanged : goal.returns-then-is_some-clause-exchanged
returns-then-is_some-clause-exchanged g c =
    let b = g.B.SpiBus.meaning c.args.self.now.bus in
    let bytes = c.args.bytes.now in
    refused_more g.B.SpiBus.traced b (g.B.SpiBus.trace c.args.self.now.bus) _ (writing c.args.start bytes) (write_result (image_of b) c.args.start bytes) (length bytes)
    (fenced_result b _ _ c.args.start c.survey-found.ensures.size c.survey-found.ensures.free bytes
    c.in_ok-check_range.ensures (is_held _ _ _ _ c.first_fence.ensures c.is_some.ensures ∙ c.if-is_some.true))
    c.survey-found.ensures.traced

pub returns-then-not-is_empty-clause-exchanged : goal.returns-then-not-is_empty-clause-exchanged
returns-then-not-is_empty-clause-exchanged g c =
    let b = g.B.SpiBus.meaning c.args.self.now.bus in
    let bytes = c.args.bytes.now in
    done_more g.B.SpiBus.traced b (g.B.SpiBus.trace c.args.self.now.bus) _ (writing c.args.start bytes) (write_result (image_of b) c.args.start bytes) (length bytes)
    (free_result b _ _ c.args.start c.survey-found.ensures.size c.survey-found.ensures.free bytes
    c.in_ok-check_range.ensures (is_held _ _ _ _ c.first_fence.ensures c.is_some.ensures ∙ c.if-is_some.false))
    (grind (arith, common_steps))
    (c.write_cells.ensures.traced ∙ ap (λ t. left_by g.B.SpiBus.traced t (writing c.args.start bytes)) c.survey-found.ensures.traced)

pub returns-then-is_some-clause-beneath : goal.returns-then-is_some-clause-beneath
returns-then-is_some-clause-beneath g c =
    put_below (g.B.SpiBus.meaning c.args.self.now.bus) c.args.start c.args.bytes.now (returns-then-is_some-clause-bus g c) c.survey-found.ensures.lent

pub returns-then-not-is_empty-clause-beneath : goal.returns-then-not-is_empty-clause-beneath
returns-then-not-is_empty-clause-beneath g c =
    put_below (g.B.SpiBus.meaning c.args.self.now.bus) c.args.start c.args.bytes.now (returns-then-not-is_empty-clause-bus g c)
    (c.write_cells.ensures.lent ∙ c.survey-found.ensures.lent)
