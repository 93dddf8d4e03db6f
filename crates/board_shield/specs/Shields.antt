-- A range widened among others, and the first place that ranges have.
use Rattle.std.specs.Prelude.{ℕ, zero, suc, ◌+◌, min, if◌then◌else◌, List, length, Some, None, Option, nat_lt, slice_index_or, slice_set}
use Rattle.board_model.specs.declared.Range.{Range}
use Rattle.board_model.specs.Layers.{covered, widened}

-- the ranges with range i widened, if there is one
abbrev pub widened_at : List Range → ℕ → ℕ → List Range
widened_at ranges i by =
    let old : Range = slice_index_or ranges i (record { start = 0; count = 0 }) in
    if nat_lt i (length ranges) then slice_set ranges i (widened old by) else ranges

-- the first of count places from this one on that a range has
abbrev pub first_covered : List Range → ℕ → ℕ → Option ℕ
first_covered ranges at zero = None
first_covered ranges at (suc count) =
    if covered ranges at then Some at else first_covered ranges (at + 1) count

-- the earlier of two places
abbrev pub earlier : Option ℕ → Option ℕ → Option ℕ
earlier None o = o
earlier (Some a) None = Some a
earlier (Some a) (Some b) = Some (min a b)
