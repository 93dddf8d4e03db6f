use Rattle.std.proofs.lemmas.Bool.Decides.{Decides-like}
use Rattle.board_equality.proofs.Whole.{equality}
use Rattle.board_equality.proofs.both.compare.Goals as goal

pub returns-clause-boards_untold : goal.returns-clause-boards_untold
returns-clause-boards_untold g c =
    let told = (equality g.P.ReadBoard g.Q.ReadBoard).boards _ _ in Decides-like _ told.0 told.1 c.same_image-boards.ensures.exact

pub returns-clause-law : goal.returns-clause-law
returns-clause-law g c = equality g.P.ReadBoard g.Q.ReadBoard
