use Rattle.std.proofs.Common.{◌≡◌, ◌++◌, take, drop}
use Rattle.datasheet.specs.Kept.{bounded}
use Rattle.datasheet.specs.Machines.{left_by}
use Rattle.spi_model.specs.Buses.{run}
use Rattle.spi_model.specs.Turns.{calls_of, turns_made}
use Rattle.spi_bus.proofs.calls.perform.Given as goal

abbrev pub invariant-loop-i : goal.invariant-loop-i
invariant-loop-i g l =
    (take l.i l.turns ++ turns_made bounded (g.B.SpiBus.meaning l.bus) (calls_of (drop l.i l.turns))
    ≡ turns_made bounded (g.B.SpiBus.meaning l.initial.bus) (calls_of l.initial.turns))
    × (run bounded (g.B.SpiBus.meaning l.bus) (calls_of (drop l.i l.turns))
    ≡ run bounded (g.B.SpiBus.meaning l.initial.bus) (calls_of l.initial.turns))
    × (left_by g.B.SpiBus.traced (g.B.SpiBus.trace l.bus) (calls_of (drop l.i l.turns))
    ≡ left_by g.B.SpiBus.traced (g.B.SpiBus.trace l.initial.bus) (calls_of l.initial.turns))
    × (g.B.SpiBus.lent l.bus ≡ g.B.SpiBus.lent l.initial.bus)
