use Rattle.std.proofs.Common.{◌≡◌, ◌++◌, take, drop}
use Rattle.datasheet.specs.Kept.{bounded}
use Rattle.datasheet.specs.Machines.{left_by}
use Rattle.spi_driver.specs.Exchanges.{exchanges, all_exchanged, all_read}
use Rattle.spi_driver.proofs.session.exchange_all.Given as goal

abbrev pub invariant-loop-i : goal.invariant-loop-i
invariant-loop-i g l =
    (take l.i l.bytes ++ all_read bounded (g.B.SpiBus.meaning l.bus) (drop l.i l.bytes)
    ≡ all_read bounded (g.B.SpiBus.meaning l.initial.bus) l.initial.bytes)
    × (all_exchanged bounded (g.B.SpiBus.meaning l.bus) (drop l.i l.bytes)
    ≡ all_exchanged bounded (g.B.SpiBus.meaning l.initial.bus) l.initial.bytes)
    × (left_by g.B.SpiBus.traced (g.B.SpiBus.trace l.bus) (exchanges (drop l.i l.bytes))
    ≡ left_by g.B.SpiBus.traced (g.B.SpiBus.trace l.initial.bus) (exchanges l.initial.bytes))
    × (g.B.SpiBus.lent l.bus ≡ g.B.SpiBus.lent l.initial.bus)
