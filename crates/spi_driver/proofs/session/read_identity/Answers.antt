use Rattle.std.proofs.Common.{◌∙◌}
use Rattle.spi_driver.proofs.Asked.{identity_left}
use Rattle.spi_driver.proofs.session.read_identity.Goals as goal

pub returns-clause-same : goal.returns-clause-same
returns-clause-same g c = c.session.ensures.after ∙ identity_left (g.B.SpiBus.meaning c.args.bus.now) c.requires
