use Rattle.std.proofs.Common.{sym, ◌∙◌}
use Rattle.extend.proofs.Sealing.{same_read}
use Rattle.extend.proofs.sealed.SealedReadBoard.read.Goals as goal

pub returns-clause-filled : goal.returns-clause-filled
returns-clause-filled g c =
    c.read.ensures.filled ∙ sym (same_read (g.B.ReadBoard.image c.args.self.now.below) c.args.start c.args.buffer.now)
