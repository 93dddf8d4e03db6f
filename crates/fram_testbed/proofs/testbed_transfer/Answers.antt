use Rattle.std.proofs.Common.{ℕ, Ok, ap, subst, rules}
use Rattle.datasheet.specs.Records.{stored_bits}
use Rattle.datasheet.specs.Sheets.{Made}
use Rattle.datasheet.specs.declared.sheet.Marks.{Marks}
use Rattle.datasheet.specs.declared.refusal.Refusal.TheVariants.{MemoryLength}
use Rattle.script_reports.proofs.Parked.{goes_by}
use Rattle.fram_testbed.specs.Transfers.{refused, told, through}
use Rattle.fram_testbed.proofs.testbed_transfer.Goals as goal

pub returns-in-Ok : goal.returns-in-Ok
returns-in-Ok c =
    let memory = c.args.memory.now in
    let buffer = c.args.buffer.now in
    let done = ap told c.transfer.ensures.comes in (
      Ok c.in-Ok.parked.sheet,
      subst (λ (m : Marks). Made c.args.t c.args.f m (Ok c.in-Ok.parked.sheet)) c.marks.ensures c.in-Ok.ensures.0,
      goes_by (λ (n : ℕ). through c.in-Ok.parked.sheet n memory c.args.before.now c.args.start c.args.bytes.now buffer)
          (refused MemoryLength (stored_bits c.args.stored) memory buffer) c.in-Ok.ensures.1 c.in-Ok.ensures.2 (search rules),
    )
