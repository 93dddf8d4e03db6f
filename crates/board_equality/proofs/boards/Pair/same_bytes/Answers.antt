use Rattle.std.proofs.Common.{rules, arith}
use Rattle.board_model.proofs.SizesAndReads.{part_bytes}
use Rattle.board_equality.proofs.Sides.{chunk_more, chunk_last}
use Rattle.board_equality.proofs.boards.Pair.same_bytes.Goals as goal

pub returns-then-not-same_chunk-clause-exact : goal.returns-then-not-same_chunk-clause-exact
returns-then-not-same_chunk-clause-exact g c =
    (λ z. cc, λ z. cc (c.same_chunk.ensures.exact.1 (cc (part_bytes _ c.loop-start.start 32, z))))

pub loop-start-preserved : goal.loop-start-preserved
loop-start-preserved g c = search (rules, chunk_more)

pub returns-else-not-same_chunk-clause-exact : goal.returns-else-not-same_chunk-clause-exact
returns-else-not-same_chunk-clause-exact g c = (
  λ z. chunk_last _ _ c.loop-start.start 32 c.loop-start.invariant.so_far (cc (c.same_chunk.ensures.exact.0 c.if-not-same_chunk.false)) (omega arith) (omega arith),
  λ z. cc,
)
