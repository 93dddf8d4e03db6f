use Rattle.std.proofs.Common.{◌∙◌}
use Rattle.spi_driver.proofs.Asked.{status_is, status_same}
use Rattle.spi_driver.proofs.session.read_status.Goals as goal

pub returns-clause-fitted : goal.returns-clause-fitted
returns-clause-fitted g c = λ e. status_is (g.B.SpiBus.meaning c.args.bus.now) c.requires e _ c.session.ensures.read

pub returns-clause-same : goal.returns-clause-same
returns-clause-same g c = c.session.ensures.after ∙ status_same (g.B.SpiBus.meaning c.args.bus.now) c.requires
