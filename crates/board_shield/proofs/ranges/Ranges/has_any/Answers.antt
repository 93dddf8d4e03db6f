use Rattle.std.proofs.Common.{[], ◌∷◌, is_some, ◌∙◌, rules}
use Rattle.std.proofs.lemmas.Iterator.{YieldsList-from_slice}
use Rattle.std.proofs.lemmas.Iterator.Search.{any_from_yields_List}
use Rattle.board_model.specs.declared.Range.{Range}
use Rattle.board_shield.specs.Shields.{first_covered}
use Rattle.board_shield.specs.Tables.{ranges_of}
use Rattle.board_shield.proofs.Tables.{any_covered}
use Rattle.board_shield.proofs.ranges.Ranges.has_any.Goals as goal

pub returns : goal.returns
returns c =
    let start = c.args.asked.start in
    let count = c.args.asked.count in
    any_from_yields_List (λ (r : Range). is_some (first_covered (r ∷ []) start count)) _ _ c.any.result c.any.ensures.ran (YieldsList-from_slice (ranges_of c.args.self.now) (cc)) (λ x b q k. search rules)
    ∙ any_covered (ranges_of c.args.self.now) start count
