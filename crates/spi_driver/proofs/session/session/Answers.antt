use Rattle.std.proofs.Common.{ap, ◌∙◌}
use Rattle.datasheet.specs.Machines.{left_by}
use Rattle.spi_model.specs.declared.bus_call.BusCall.TheVariants.{Deselect}
use Rattle.spi_driver.specs.Exchanges.{exchanges}
use Rattle.spi_driver.proofs.Traced.{session_traced}
use Rattle.spi_driver.proofs.session.session.Goals as goal

pub returns-clause-traced : goal.returns-clause-traced
returns-clause-traced g c =
    let traced = g.B.SpiBus.traced in
    c.deselect.ensures.traced
    ∙ ap (λ t. traced t Deselect) (c.exchange_all.ensures.traced ∙ ap (λ t. left_by traced t (exchanges c.args.bytes.now)) c.select.ensures.traced)
    ∙ session_traced traced (g.B.SpiBus.trace c.args.bus.now) c.args.bytes.now
