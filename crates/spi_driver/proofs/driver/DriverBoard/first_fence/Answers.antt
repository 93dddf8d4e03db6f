use Rattle.std.proofs.Common.{rules}
use Rattle.spi_driver.proofs.Answered.{fence_answer}
use Rattle.spi_driver.proofs.driver.DriverBoard.first_fence.Goals as goal

pub returns-clause-answer : goal.returns-clause-answer
returns-clause-answer g c =
    let b = g.B.SpiBus.meaning c.args.self.now.bus in
    let found = c.survey-cells.ensures in
    let answer = fence_answer b c.survey-cells.result.size c.survey-cells.result.free c.args.start found.size found.free c.args.count c.in_ok-check_range.ensures in
    search rules
