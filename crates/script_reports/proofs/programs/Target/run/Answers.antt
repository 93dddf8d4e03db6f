use Rattle.std.proofs.Common.{ap, sym, ◌∙◌}
use Rattle.script_reports.specs.Programs.{visit}
use Rattle.script_reports.specs.Visits.{Visit, on_chip, on_board}
use Rattle.script_reports.proofs.FixedChip.{fixed, zeros}
use Rattle.script_reports.proofs.programs.Target.run.Goals as goal

pub returns-in-Pins-clause-report : goal.returns-in-Pins-clause-report
unfolding visit
returns-in-Pins-clause-report c =
    let part = c.of-t.ensures in
    ap (λ (v : Visit). v.report) (fixed on_chip part.third part.fourth part.marked zeros c.chip_report.ensures.visit ∙ sym (ap (λ t. visit t c.args.script.now c.args.answers.now) c.in-Pins.is))

pub returns-in-Pins-clause-answers : goal.returns-in-Pins-clause-answers
unfolding visit
returns-in-Pins-clause-answers c =
    let part = c.of-t.ensures in
    ap (λ (v : Visit). v.answers) (fixed on_chip part.third part.fourth part.marked zeros c.chip_report.ensures.visit ∙ sym (ap (λ t. visit t c.args.script.now c.args.answers.now) c.in-Pins.is))

pub returns-in-Board-clause-report : goal.returns-in-Board-clause-report
unfolding visit
returns-in-Board-clause-report c =
    let part = c.of-t.ensures in
    ap (λ (v : Visit). v.report) (fixed on_board part.third part.fourth part.marked zeros c.board_report.ensures.visit ∙ sym (ap (λ t. visit t c.args.script.now c.args.answers.now) c.in-Board.is))

pub returns-in-Board-clause-answers : goal.returns-in-Board-clause-answers
unfolding visit
returns-in-Board-clause-answers c =
    let part = c.of-t.ensures in
    ap (λ (v : Visit). v.answers) (fixed on_board part.third part.fourth part.marked zeros c.board_report.ensures.visit ∙ sym (ap (λ t. visit t c.args.script.now c.args.answers.now) c.in-Board.is))
