use Rattle.std.proofs.Common.{rules}
use Rattle.script.proofs.run.boards.OnBoardRuns.carry_out.Goals as goal

pub returns-in-Ok-clause-given : goal.returns-in-Ok-clause-given
returns-in-Ok-clause-given g c = let e = g.B.ReadBoard.shown c.args.self.now.board in search rules

pub returns-in-Ok-write-clause-state : goal.returns-in-Ok-write-clause-state
returns-in-Ok-write-clause-state g c = let e = g.B.ReadBoard.shown c.args.self.now.board in search rules

pub returns-in-Ok-write-clause-given : goal.returns-in-Ok-write-clause-given
returns-in-Ok-write-clause-given g c = let e = g.B.ReadBoard.shown c.args.self.now.board in search rules

pub returns-in-Ok-write-clause-free : goal.returns-in-Ok-write-clause-free
returns-in-Ok-write-clause-free g c = let e = g.B.ReadBoard.shown c.args.self.now.board in search rules

pub returns-in-Err-write-clause-state : goal.returns-in-Err-write-clause-state
returns-in-Err-write-clause-state g c = let e = g.B.ReadBoard.shown c.args.self.now.board in search rules

pub returns-in-Err-write-clause-given : goal.returns-in-Err-write-clause-given
returns-in-Err-write-clause-given g c = let e = g.B.ReadBoard.shown c.args.self.now.board in search rules

pub returns-in-Err-write-clause-free : goal.returns-in-Err-write-clause-free
returns-in-Err-write-clause-free g c = let e = g.B.ReadBoard.shown c.args.self.now.board in search rules

pub returns-in-Err-write-clause-few : goal.returns-in-Err-write-clause-few
returns-in-Err-write-clause-few g c = let e = g.B.ReadBoard.shown c.args.self.now.board in search rules

pub returns-in-Err-write-2-clause-given : goal.returns-in-Err-write-2-clause-given
returns-in-Err-write-2-clause-given g c = let e = g.B.ReadBoard.shown c.args.self.now.board in search rules

pub returns-in-Read-clause-free : goal.returns-in-Read-clause-free
returns-in-Read-clause-free g c = let e = g.B.ReadBoard.shown c.args.self.now.board in search rules
