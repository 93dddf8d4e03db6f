use Rattle.std.proofs.Common.{length, refl, arith}
use Rattle.board.proofs.Bare.{fits_memory, write_done, write_left, memory_left}
use Rattle.board.proofs.plain.PlainBoard.write.Goals as goal

pub slice_bounds-copy_from_slice-end : goal.slice_bounds-copy_from_slice-end
slice_bounds-copy_from_slice-end c =
    let fits = fits_memory c.args.self.now.memory.now c.args.start (length c.args.bytes.now) c.cells.ensures c.in_ok-check_range.ensures in
    omega arith

pub returns : goal.returns
returns c =
    let m = c.args.self.now.memory.now in
    let s = c.args.start in
    let bytes = c.args.bytes.now in
    let all = c.cells.ensures in
    let lies = c.in_ok-check_range.ensures in
    let copied = c.copy_from_slice.ensures.after in
    record {
      answer = write_done m s bytes all lies;
      after = write_left m s bytes all lies copied;
      lent = refl;
      beneath = memory_left m s bytes all lies copied;
    }
