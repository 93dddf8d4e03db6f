use Rattle.std.proofs.lemmas.Bool.Decides.{Decides-like}
use Rattle.board_equality.proofs.Whole.{agreement}
use Rattle.board_equality.proofs.reading.agree.Goals as goal

pub returns-clause-untold : goal.returns-clause-untold
returns-clause-untold g c = let told = agreement g.P.ReadBoard g.Q.ReadBoard _ _ in Decides-like _ told.0 told.1 c.same_reading.ensures.exact

pub returns-clause-law : goal.returns-clause-law
returns-clause-law g c = agreement g.P.ReadBoard g.Q.ReadBoard
