-- The layers as functions on images.
use Rattle.std.specs.Prelude.{ℕ, ◌+◌, ◌-◌, min, Bool, false, ◌&&◌, ◌||◌, if◌then◌else◌, List, [], ◌∷◌, ◌++◌, map, length, take, drop, Ok, Err, Result, nat_le, nat_lt}
use Rattle.datasheet.specs.declared.refusal.Refusal.{Refusal}
use Rattle.datasheet.specs.declared.refusal.Refusal.TheVariants.{OutOfRange}
use Rattle.board_model.specs.declared.Cell.{Cell}
use Rattle.board_model.specs.declared.Range.{Range}
use Rattle.board_model.specs.Images.{Image, most, inside, free, fenced}

-- plain memory: its first 1,048,576 bytes, all free
abbrev pub plain : List ℕ → Image
plain memory = map free (take most memory)

-- a dump, memory that nobody may write: its first 1,048,576 bytes, all fenced
abbrev pub dumped : List ℕ → Image
dumped memory = map fenced (take most memory)

-- a memory with bytes put from start on
abbrev pub patched : List ℕ → ℕ → List ℕ → List ℕ
patched memory start bytes = take start memory ++ (bytes ++ drop (start + length bytes) memory)

-- a window from an offset, of a length: the cells that exist there
abbrev pub windowed : ℕ → ℕ → Image → Image
windowed offset count i = take count (drop offset i)

-- where a window begins in the image below: its offset, or the end of an image that is shorter
abbrev pub base_of : ℕ → Image → ℕ
base_of offset i = min offset (length i)

-- where the window begins in the board below, for a range of it; refused by 4 if the range does not lie in
-- the window
abbrev pub base_result : ℕ → ℕ → Image → ℕ → ℕ → Result ℕ Refusal
base_result offset cells i start count =
    if inside (windowed offset cells i) start count then Ok (base_of offset i) else Err OutOfRange

-- a join: the cells of both in order, cut
abbrev pub joined : Image → Image → Image
joined a b = take most (a ++ b)

-- how many of a range's places lie in the first board
abbrev pub front_of : Image → ℕ → ℕ → ℕ
front_of a start count = min count (length a - start)

-- whether a range has a place
abbrev pub has : Range → ℕ → Bool
has r place = nat_le r.start place && nat_lt place (r.start + r.count)

-- whether one of some ranges has a place
abbrev pub covered : List Range → ℕ → Bool
covered [] place = false
covered (r ∷ ranges) place = has r place || covered ranges place

-- a shield: the cells that its ranges have are fenced besides those below; the first cell of the list stands
-- at this place
abbrev pub shielded_from : ℕ → List Range → List Cell → List Cell
shielded_from at ranges [] = []
shielded_from at ranges (c ∷ cs) =
    record { byte = c.byte; fenced = c.fenced || covered ranges at } ∷ shielded_from (at + 1) ranges cs

abbrev pub shielded : List Range → Image → Image
shielded ranges i = shielded_from 0 ranges i

-- a range as a shield keeps it: its count stops at 1,048,576
abbrev pub stopped : Range → Range
stopped r = record { start = r.start; count = min r.count most }

-- a range with `by` more places
abbrev pub widened : Range → ℕ → Range
widened r by = stopped (record { start = r.start; count = r.count + by })
