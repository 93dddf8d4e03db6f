use Rattle.std.proofs.Common.{[], ◌∷◌, ap, ◌∙◌}
use Rattle.datasheet.specs.declared.registers.Registers.{Registers}
use Rattle.datasheet.specs.Kept.{bounded}
use Rattle.spi_model.specs.Buses.{Bus, selected}
use Rattle.spi_driver.specs.Exchanges.{all_read}
use Rattle.spi_driver.specs.Drives.{density_by}
use Rattle.spi_driver.proofs.Known.{id_known}
use Rattle.spi_driver.proofs.survey.probe.Goals as goal

pub returns-clause-by_id : goal.returns-clause-by_id
returns-clause-by_id g c =
    c.density.ensures.answer
    ∙ ap density_by
    (c.read_identity.ensures.asked
    ∙ ap (λ (d : Bus Registers). all_read bounded (selected bounded d) (0x9F ∷ 0 ∷ 0 ∷ 0 ∷ 0 ∷ [])) c.settle.ensures.after)

pub returns-clause-answer : goal.returns-clause-answer
returns-clause-answer g c = returns-clause-by_id g c ∙ id_known (g.B.SpiBus.meaning c.args.bus.now)
