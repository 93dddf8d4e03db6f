use Rattle.std.proofs.Common.{ap, ◌∙◌}
use Rattle.datasheet.specs.Machines.{left_by}
use Rattle.spi_driver.specs.Sessions.{asking_status}
use Rattle.spi_driver.proofs.Surveyed.{few_cells, is_fitted, size_is, size_found, stored_is}
use Rattle.spi_driver.proofs.Traced.{blank_by, surveyed, surveyed_blank}
use Rattle.spi_driver.proofs.survey.survey.Goals as goal

pub returns-in-Ok-clause-size : goal.returns-in-Ok-clause-size
returns-in-Ok-clause-size g c =
    size_found (g.B.SpiBus.meaning c.args.bus.now) c.in-Ok.d c.in-Ok.ensures.small c.in-Ok.ensures.answer (g.B.SpiBus.sound c.args.bus.now)

pub returns-in-Ok-clause-free : goal.returns-in-Ok-clause-free
returns-in-Ok-clause-free g c =
    let b = g.B.SpiBus.meaning c.args.bus.now in
    let did = c.in-Ok.ensures in
    λ e. c.first_protected-free.ensures b.sheet b.rec
    (size_is b c.in-Ok.d did.small did.answer)
    (stored_is b c.in-Ok.d did.small did.answer _ _ did.after c.read_status.ensures.fitted)

pub returns-in-Ok-clause-few : goal.returns-in-Ok-clause-few
returns-in-Ok-clause-few g c = few_cells c.in-Ok.d c.in-Ok.ensures.small

pub returns-in-Ok-clause-traced : goal.returns-in-Ok-clause-traced
returns-in-Ok-clause-traced g c =
    let b = g.B.SpiBus.meaning c.args.bus.now in
    let did = c.in-Ok.ensures in
    surveyed g.B.SpiBus.traced b (g.B.SpiBus.trace c.args.bus.now) _ (is_fitted b c.in-Ok.d did.small did.answer)
    (c.read_status.ensures.traced ∙ ap (λ t. left_by g.B.SpiBus.traced t asking_status) did.traced)

pub returns-in-Err-clause-traced : goal.returns-in-Err-clause-traced
returns-in-Err-clause-traced g c =
    let b = g.B.SpiBus.meaning c.args.bus.now in
    surveyed_blank g.B.SpiBus.traced b (g.B.SpiBus.trace c.args.bus.now) _ (blank_by b c.in-Err.ensures.answer) c.in-Err.ensures.traced
