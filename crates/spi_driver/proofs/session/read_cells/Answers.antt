use Rattle.std.proofs.Common.{ℕ, ◌+◌, ◌≤◌, length, take, drop, List, sym, ap, ◌∙◌, ap₂, subst}
use Rattle.datasheet.specs.declared.registers.Registers.{Registers}
use Rattle.datasheet.specs.Kept.{bounded}
use Rattle.datasheet.specs.Machines.{left_by}
use Rattle.spi_model.specs.declared.bus_call.BusCall.TheVariants.{Deselect}
use Rattle.spi_model.specs.Buses.{Bus, deselected}
use Rattle.spi_driver.specs.Exchanges.{exchanges, all_exchanged, all_read}
use Rattle.spi_driver.proofs.Cells.{read_inside}
use Rattle.spi_driver.proofs.Moved.{read_filled, read_left}
use Rattle.spi_driver.proofs.Traced.{read_traced}
use Rattle.spi_driver.proofs.session.read_cells.Goals as goal

pub returns-clause-filled : goal.returns-clause-filled
returns-clause-filled g c =
    let b = g.B.SpiBus.meaning c.args.bus.now in
    let xs = c.fill.new.self in
    let inside = subst (λ (n : ℕ). c.args.start + n ≤ length b.rec.memory) (sym c.fill.ensures.len) c.requires.inside in
    c.exchange_all.ensures.read
    ∙ ap (λ (d : Bus Registers). all_read bounded d xs) c.address.ensures.after
    ∙ read_filled b c.requires.calm c.requires.fitted (g.B.SpiBus.sound c.args.bus.now) c.args.start c.requires.small xs c.exchange_all.ensures.bytes inside
    ∙ ap (λ (n : ℕ). take n (drop c.args.start b.rec.memory)) c.fill.ensures.len
    ∙ sym (read_inside b c.requires.fitted c.args.start c.args.buffer.now c.requires.inside)

pub returns-clause-same : goal.returns-clause-same
returns-clause-same g c =
    let b = g.B.SpiBus.meaning c.args.bus.now in
    let xs = c.fill.new.self in
    let inside = subst (λ (n : ℕ). c.args.start + n ≤ length b.rec.memory) (sym c.fill.ensures.len) c.requires.inside in
    c.deselect.ensures.after
    ∙ ap (deselected bounded) (c.exchange_all.ensures.after ∙ ap (λ (d : Bus Registers). all_exchanged bounded d xs) c.address.ensures.after)
    ∙ read_left b c.requires.calm c.requires.fitted (g.B.SpiBus.sound c.args.bus.now) c.args.start c.requires.small xs c.exchange_all.ensures.bytes inside

pub returns-clause-traced : goal.returns-clause-traced
returns-clause-traced g c =
    let traced = g.B.SpiBus.traced in
    let filled = c.fill.ensures.after (λ y e. e) in
    c.deselect.ensures.traced
    ∙ ap (λ t. traced t Deselect)
    (c.exchange_all.ensures.traced ∙ ap₂ (λ t (xs : List ℕ). left_by traced t (exchanges xs)) c.address.ensures.traced filled)
    ∙ read_traced traced (g.B.SpiBus.trace c.args.bus.now) c.args.start (length c.args.buffer.now)
