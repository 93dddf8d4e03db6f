use Rattle.std.proofs.Common.{[], ◌∷◌, sym, ◌∙◌, rules}
use Rattle.std.proofs.lemmas.Iterator.{YieldsList-from_slice}
use Rattle.std.proofs.lemmas.Iterator.Consumers.{YieldsList-from_filter_map, min_from_yields_List}
use Rattle.std.proofs.lemmas.Iterator.Adapters.{option_map_id}
use Rattle.board_model.specs.declared.Range.{Range}
use Rattle.board_shield.specs.Shields.{first_covered}
use Rattle.board_shield.specs.Tables.{ranges_of}
use Rattle.board_shield.proofs.Tables.{least_covered}
use Rattle.board_shield.proofs.ranges.Ranges.first_in.Goals as goal

pub returns : goal.returns
returns c =
    let start = c.args.asked.start in
    let count = c.args.asked.count in
    sym (option_map_id c.min.result)
    ∙ min_from_yields_List c.filter_map.result c.min.result c.min.ensures.ran
    (YieldsList-from_filter_map {s = c.filter_map.result} _ (λ (r : Range). first_covered (r ∷ []) start count) (YieldsList-from_slice (ranges_of c.args.self.now) (cc)) c.filter_map.ensures.closure (λ x r q k. search rules))
    ∙ least_covered (ranges_of c.args.self.now) start count
