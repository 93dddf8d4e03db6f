use Rattle.std.proofs.Common.{◌∙◌, arith}
use Rattle.spi_bus.proofs.Listed.{one_more, one_answered, all_made, all_answered}
use Rattle.spi_driver.proofs.Exchanged.{goes}
use Rattle.spi_driver.proofs.Traced.{one_replaced, all_sent}
use Rattle.spi_driver.proofs.session.exchange_all.Goals as goal

pub loop-i-preserved : goal.loop-i-preserved
loop-i-preserved g c =
    let bus = g.B.SpiBus.meaning c.loop-i.bus in
    let inv = c.loop-i.invariant in
    let did = c.exchange.ensures in (
      one_answered _ _ _ _ goes bus _ c.loop-i.bytes c.loop-i.i _ (omega arith) did.after _ did.read _ inv.0,
      one_more _ _ _ _ goes bus _ c.loop-i.bytes c.loop-i.i _ (omega arith) did.after _ did.read _ inv.1,
      one_replaced g.B.SpiBus.traced (g.B.SpiBus.trace c.loop-i.bus) _ c.loop-i.bytes c.loop-i.i _ (omega arith) did.traced _ inv.2 _,
      did.lent ∙ inv.3,
    )

pub returns-clause-read : goal.returns-clause-read
returns-clause-read g c = all_answered _ _ _ _ goes (g.B.SpiBus.meaning c.loop-i.bus) c.loop-i.bytes c.loop-i.i (omega arith) _ c.loop-i.invariant.0

pub returns-clause-after : goal.returns-clause-after
returns-clause-after g c = all_made _ _ _ _ goes (g.B.SpiBus.meaning c.loop-i.bus) c.loop-i.bytes c.loop-i.i (omega arith) _ c.loop-i.invariant.1

pub returns-clause-traced : goal.returns-clause-traced
returns-clause-traced g c = all_sent g.B.SpiBus.traced (g.B.SpiBus.trace c.loop-i.bus) c.loop-i.bytes c.loop-i.i (omega arith) _ c.loop-i.invariant.2
