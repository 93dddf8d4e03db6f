use Rattle.std.proofs.Common.{◌≡◌, drop}
use Rattle.datasheet.specs.Kept.{bounded}
use Rattle.datasheet.specs.Machines.{left_by}
use Rattle.spi_driver.specs.Exchanges.{exchanges, all_exchanged}
use Rattle.spi_driver.proofs.session.send.Given as goal

abbrev pub invariant-loop-byte : goal.invariant-loop-byte
invariant-loop-byte g l =
    (all_exchanged bounded (g.B.SpiBus.meaning l.bus) (drop l.byte-index l.bytes)
    ≡ all_exchanged bounded (g.B.SpiBus.meaning l.initial.bus) l.initial.bytes)
    × (left_by g.B.SpiBus.traced (g.B.SpiBus.trace l.bus) (exchanges (drop l.byte-index l.bytes))
    ≡ left_by g.B.SpiBus.traced (g.B.SpiBus.trace l.initial.bus) (exchanges l.initial.bytes))
    × (g.B.SpiBus.lent l.bus ≡ g.B.SpiBus.lent l.initial.bus)
