-- What a shield shows of the board below, and what it was given.
use Rattle.board_model.specs.Images.{Image}
use Rattle.board_model.specs.Layers.{shielded}
use Rattle.board_model.specs.ShieldBeneath.{ShieldBeneath}
use Rattle.board_shield.specs.declared.layer.Shield.{Shield}
use Rattle.board_shield.specs.declared.ranges.Ranges.{Ranges}
use Rattle.board_shield.specs.Tables.{ranges_of}

abbrev pub shield_image : {B : Type 0} → (B → Image) → Shield B → Image
shield_image image s = shielded (ranges_of s.ranges) (image s.below)

-- its whole table, the places too that no range is in
abbrev pub shield_lent : {B L : Type 0} → (B → L) → Shield B → Ranges × L
shield_lent lent s = (s.ranges, lent s.below)

-- all that stands below, with the shield's ranges
abbrev pub shield_beneath : {B G : Type 0} → (B → G) → Shield B → ShieldBeneath G
shield_beneath beneath s = record { ranges = ranges_of s.ranges; below = beneath s.below }
