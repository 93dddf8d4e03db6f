use Rattle.std.proofs.Common.{ap, ◌∙◌, rules}
use Rattle.datasheet.specs.declared.registers.Registers.{Registers}
use Rattle.datasheet.specs.Records.{Record}
use Rattle.datasheet.specs.Calls.{ChipState}
use Rattle.datasheet.specs.Kept.{bounded}
use Rattle.chip.specs.Views.{chip_of}
use Rattle.spi_model.specs.Buses.{run}
use Rattle.spi_model.specs.Turns.{calls_of, answered, turns_made}
use Rattle.spi_model.specs.Meanings.{made}
use Rattle.spi_bus.specs.Behind.{Behind}
use Rattle.spi_bus.specs.Ways.{wp_of}
use Rattle.spi_bus.proofs.ByRules.{sheet_kept, rec_by_rules, answers_by_rules}
use Rattle.spi_bus.proofs.visits.visit.Goals as goal

pub returns-clause-stored : goal.returns-clause-stored
returns-clause-stored c =
    let way = c.args.way in
    let calls = calls_of c.args.turns.now in
    let rec = ap (λ (left : Behind). left.rec) c.work_over.ensures.does.1
    ∙ ap (λ (d : ChipState Registers). (run bounded (made bounded (wp_of way) d) calls).rec) c.power-chip.ensures.state
    ∙ rec_by_rules c.args.parked.sheet c.args.memory.now c.args.parked.stored.bits (wp_of way) calls in
    c.power_off.ensures.stored ∙ ap (λ (r : Record). r.stored) rec

pub returns-clause-memory : goal.returns-clause-memory
returns-clause-memory c =
    let way = c.args.way in
    let calls = calls_of c.args.turns.now in
    let rec = ap (λ (left : Behind). left.rec) c.work_over.ensures.does.1
    ∙ ap (λ (d : ChipState Registers). (run bounded (made bounded (wp_of way) d) calls).rec) c.power-chip.ensures.state
    ∙ rec_by_rules c.args.parked.sheet c.args.memory.now c.args.parked.stored.bits (wp_of way) calls in
    let memory = ap (λ (r : Record). r.memory) rec in
    search rules

pub returns-clause-turns : goal.returns-clause-turns
returns-clause-turns c =
    let way = c.args.way in
    let calls = calls_of c.args.turns.now in
    c.work_over.ensures.does.0
    ∙ ap (λ (d : ChipState Registers). turns_made bounded (made bounded (wp_of way) d) calls) c.power-chip.ensures.state
    ∙ ap (answered calls) (answers_by_rules c.args.parked.sheet c.args.memory.now c.args.parked.stored.bits (wp_of way) calls)

pub returns-clause-sheet : goal.returns-clause-sheet
returns-clause-sheet c =
    let way = c.args.way in
    c.power_off.ensures.sheet
    ∙ ap (λ (left : Behind). left.sheet) c.work_over.ensures.does.1
    ∙ sheet_kept (made bounded (wp_of way) (chip_of c.power-chip.result)) (calls_of c.args.turns.now)
    ∙ ap (λ (d : ChipState Registers). d.sheet) c.power-chip.ensures.state
