use Rattle.std.proofs.Common.{◌∙◌, arith}
use Rattle.spi_bus.proofs.Listed.{one_on, all_made}
use Rattle.spi_driver.proofs.Exchanged.{goes}
use Rattle.spi_driver.proofs.Traced.{one_sent, all_sent}
use Rattle.spi_driver.proofs.session.send.Goals as goal

pub loop-byte-preserved : goal.loop-byte-preserved
loop-byte-preserved g c =
    let inv = c.loop-byte.invariant in
    let did = c.exchange.ensures in (
      one_on _ _ _ _ goes (g.B.SpiBus.meaning c.loop-byte.bus) _ c.args.bytes.now c.loop-byte.byte-index _ (omega arith) did.after _ inv.0,
      one_sent g.B.SpiBus.traced (g.B.SpiBus.trace c.loop-byte.bus) _ c.args.bytes.now c.loop-byte.byte-index _ (omega arith) did.traced _ inv.1,
      did.lent ∙ inv.2,
    )

pub returns-clause-after : goal.returns-clause-after
returns-clause-after g c = all_made _ _ _ _ goes (g.B.SpiBus.meaning c.loop-byte.bus) c.args.bytes.now c.loop-byte.byte-index (omega arith) _ c.loop-byte.invariant.0

pub returns-clause-traced : goal.returns-clause-traced
returns-clause-traced g c = all_sent g.B.SpiBus.traced (g.B.SpiBus.trace c.loop-byte.bus) c.args.bytes.now c.loop-byte.byte-index (omega arith) _ c.loop-byte.invariant.1
