-- The table of a shield as a list.
use Rattle.std.specs.Prelude.{List, take}
use Rattle.board_model.specs.declared.Range.{Range}
use Rattle.board_shield.specs.declared.ranges.Ranges.{Ranges}

-- the ranges that count
abbrev pub ranges_of : Ranges → List Range
ranges_of t = take t.used t.ranges
