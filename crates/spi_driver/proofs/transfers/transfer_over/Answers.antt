use Rattle.spi_driver.proofs.AtPins.{transfer_deselects}
use Rattle.spi_driver.proofs.transfers.transfer_over.Goals as goal

pub returns-clause-session : goal.returns-clause-session
returns-clause-session g c =
    transfer_deselects c.args.setting (g.P.Pins.chip c.args.pins.now) _ c.args.start c.args.bytes.now _ c.work_over_line.ensures.put
