-- What stands below a shield: what stands below its board. An accepted write goes on as it is.
use Rattle.std.specs.Prelude.{ℕ, List, Option}
use Rattle.board_model.specs.declared.Range.{Range}
use Rattle.board_model.specs.Images.{Image}
use Rattle.board_model.specs.Layers.{shielded}

-- all that stands below, with the shield's ranges
pub record ShieldBeneath (G : Type 0) : Type 0 where
  pub ranges : List Range
  pub below : G

module _ {G : Type 0} where
  abbrev pub shield_shows : (G → Image) → ShieldBeneath G → Image
  shield_shows shows g = shielded g.ranges (shows g.below)

  abbrev pub shield_put : (G → ℕ → List ℕ → G) → ShieldBeneath G → ℕ → List ℕ → ShieldBeneath G
  shield_put put g start bytes = record g { below = put g.below start bytes }

  abbrev pub shield_byte_at : {P : Type 0} → (G → P → Option ℕ) → ShieldBeneath G → P → Option ℕ
  shield_byte_at byte_at g place = byte_at g.below place

  abbrev pub shield_stands : {P : Type 0} → (G → ℕ → P) → ShieldBeneath G → ℕ → P
  shield_stands stands g cell = stands g.below cell
