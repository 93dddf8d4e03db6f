use Rattle.std.proofs.Common.{◌≡◌, ℕ, List, rules, arith, take, replicate, length}
use Rattle.board_model.specs.Images.{bytes_of, part}
use Rattle.std.proofs.lemmas.Slice.Eq.{slice_eq-Decides}
use Rattle.std.proofs.lemmas.Bool.Decides.{Decides-eqb}
use Rattle.board_equality.proofs.Sides.{chunk_is}
use Rattle.board_equality.proofs.boards.Pair.same_chunk.Goals as goal

pub returns-clause-exact : goal.returns-clause-exact
returns-clause-exact g c =
    let pair = c.args.self.now in
    let fresh : List ℕ = take c.min-count.result (replicate 32 0) in
    let l : length fresh ≡ c.min-count.result = search rules in
    let a : c.read.new.buffer ≡ bytes_of (part (g.P.ReadBoard.image pair.left) c.args.start 32) =
    chunk_is _ _ 32 fresh _ c.read.ensures.filled (search rules) (omega arith) in
    let b : c.read-2.new.buffer ≡ bytes_of (part (g.Q.ReadBoard.image pair.right) c.args.start 32) =
    chunk_is _ _ 32 fresh _ c.read-2.ensures.filled (search rules) (omega arith) in
    let d = slice_eq-Decides Decides-eqb c.read.new.buffer c.read-2.new.buffer _ c.eq.ensures in
    search rules
