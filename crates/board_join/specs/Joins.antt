-- What a join shows of the two boards below, and where a range of it lies in each.
use Rattle.std.specs.Prelude.{ℕ, ◌-◌, min, if◌then◌else◌, length, Ok, Err, Result}
use Rattle.datasheet.specs.declared.refusal.Refusal.{Refusal}
use Rattle.datasheet.specs.declared.refusal.Refusal.TheVariants.{OutOfRange}
use Rattle.board_model.specs.Images.{Image, inside}
use Rattle.board_model.specs.Layers.{joined, front_of}
use Rattle.board_model.specs.JoinBeneath.{JoinBeneath}
use Rattle.board_join.specs.declared.Join.{Join}
use Rattle.board_join.specs.declared.Cut.{Cut}

abbrev pub join_image : {A B : Type 0} → (A → Image) → (B → Image) → Join A B → Image
join_image image_a image_b j = joined (image_a j.first) (image_b j.second)

abbrev pub join_lent : {A B K L : Type 0} → (A → K) → (B → L) → Join A B → K × L
join_lent lent_a lent_b j = (lent_a j.first, lent_b j.second)

-- all that stands below both
abbrev pub join_beneath : {A B F S : Type 0} → (A → F) → (B → S) → Join A B → JoinBeneath F S
join_beneath beneath_a beneath_b j =
    record { first = beneath_a j.first; second = beneath_b j.second }

-- where a range of the join lies in the two boards: the size of the first, and its parts in the first and in
-- the second
abbrev pub cut_of : Image → ℕ → ℕ → Cut
cut_of a start count = record {
  seam = length a;
  front = record { start = min start (length a); count = front_of a start count };
  back = record { start = start - length a; count = count - (length a - start) };
}

-- that, or refused by 4 if the range does not lie in the join
abbrev pub cut_result : Image → Image → ℕ → ℕ → Result Cut Refusal
cut_result a b start count =
    if inside (joined a b) start count then Ok (cut_of a start count) else Err OutOfRange
