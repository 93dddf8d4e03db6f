use Rattle.spi_driver.proofs.Moved.{write_left}
use Rattle.spi_driver.proofs.Traced.{write_traced}
use Rattle.spi_driver.proofs.session.write_cells.Goals as goal

pub returns-clause-after : goal.returns-clause-after
returns-clause-after g c =
    let b = g.B.SpiBus.meaning c.args.bus.now in
    let did = write_left b c.requires.calm c.requires.fitted (g.B.SpiBus.sound c.args.bus.now) c.args.start c.requires.small c.args.bytes.now c.send.ensures.bytes c.requires.free in
    let first = c.set_latch.ensures.after in
    let second = c.address.ensures.after in
    let third = c.send.ensures.after in
    let fourth = c.deselect.ensures.after in
    let last = c.clear_latch.ensures.after in
    cc

pub returns-clause-traced : goal.returns-clause-traced
returns-clause-traced g c =
    let did = write_traced g.B.SpiBus.traced (g.B.SpiBus.trace c.args.bus.now) c.args.start c.args.bytes.now in
    let first = c.set_latch.ensures.traced in
    let second = c.address.ensures.traced in
    let third = c.send.ensures.traced in
    let fourth = c.deselect.ensures.traced in
    let last = c.clear_latch.ensures.traced in
    cc
