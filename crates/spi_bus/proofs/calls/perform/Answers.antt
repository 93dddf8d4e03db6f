use Rattle.std.proofs.Common.{◌<◌, List, length, get_or, Some, refl, ap, ◌∙◌, arith}
use Rattle.datasheet.specs.declared.registers.Registers.{Registers}
use Rattle.datasheet.specs.Kept.{bounded}
use Rattle.datasheet.specs.Machines.{left_by}
use Rattle.spi_model.specs.declared.bus_call.BusCall.{BusCall}
use Rattle.spi_model.specs.declared.bus_call.BusCall.TheVariants.{Select}
use Rattle.spi_model.specs.declared.bus_answer.BusAnswer.{BusAnswer}
use Rattle.spi_model.specs.declared.bus_turn.BusTurn.{BusTurn}
use Rattle.spi_model.specs.Buses.{Bus, after, answer, run}
use Rattle.spi_model.specs.Turns.{unanswered, calls_of, turns_made}
use Rattle.spi_bus.proofs.Listed.{Going, one_past, one_more, one_answered, all_made, all_answered}
use Rattle.spi_bus.proofs.calls.perform.Goals as goal

-- what the call of a turn leaves, and the turn with its answer; the same of a list of turns
abbrev after_turn : Bus Registers → BusTurn → Bus Registers
after_turn b t = after bounded b t.call

abbrev turn_made : Bus Registers → BusTurn → BusTurn
turn_made b t = record { call = t.call; answer = Some (answer bounded b t.call) }

abbrev run_turns : Bus Registers → List BusTurn → Bus Registers
run_turns b ts = run bounded b (calls_of ts)

abbrev made_turns : Bus Registers → List BusTurn → List BusTurn
made_turns b ts = turns_made bounded b (calls_of ts)

-- a bus goes through the turns
goes : Going after_turn turn_made run_turns made_turns
goes = record { stays = λ m. refl; runs = λ m x xs. refl; ends = λ m. refl; answered = λ m x xs. refl }

-- and what is kept of the calls
module _ {T : Type 0} (traced : T → BusCall → T) where
  abbrev traced_turn : T → BusTurn → T
  traced_turn t turn = traced t turn.call

  abbrev traced_turns : T → List BusTurn → T
  traced_turns t ts = left_by traced t (calls_of ts)

  leaves : Going traced_turn (λ t turn. turn) traced_turns (λ t turns. turns)
  leaves = record { stays = λ m. refl; runs = λ m x xs. refl; ends = λ m. refl; answered = λ m x xs. refl }

pub loop-i-preserved : goal.loop-i-preserved
loop-i-preserved g c =
    let bus = g.B.SpiBus.meaning c.loop-i.bus in
    let inv = c.loop-i.invariant in
    let did = c.make_call.ensures in
    let inside : c.loop-i.i < length c.loop-i.turns = omega arith in
    let turn : BusTurn = get_or c.loop-i.turns c.loop-i.i (unanswered Select) in
    let made = ap (λ (a : BusAnswer). record { call = turn.call; answer = Some a }) did.answer in (
      one_answered _ _ _ _ goes bus _ c.loop-i.turns c.loop-i.i _ inside did.after _ made _ inv.0,
      one_more _ _ _ _ goes bus _ c.loop-i.turns c.loop-i.i _ inside did.after _ made _ inv.1,
      one_past _ _ _ _ (leaves g.B.SpiBus.traced) (g.B.SpiBus.trace c.loop-i.bus) _ c.loop-i.turns c.loop-i.i _ inside did.traced _ _ inv.2,
      did.lent ∙ inv.3,
    )

pub returns-clause-turns : goal.returns-clause-turns
returns-clause-turns g c = all_answered _ _ _ _ goes (g.B.SpiBus.meaning c.loop-i.bus) c.loop-i.turns c.loop-i.i (omega arith) _ c.loop-i.invariant.0

pub returns-clause-after : goal.returns-clause-after
returns-clause-after g c = all_made _ _ _ _ goes (g.B.SpiBus.meaning c.loop-i.bus) c.loop-i.turns c.loop-i.i (omega arith) _ c.loop-i.invariant.1

pub returns-clause-traced : goal.returns-clause-traced
returns-clause-traced g c =
    all_made _ _ _ _ (leaves g.B.SpiBus.traced) (g.B.SpiBus.trace c.loop-i.bus) c.loop-i.turns c.loop-i.i (omega arith) _ c.loop-i.invariant.2
