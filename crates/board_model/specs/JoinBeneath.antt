-- What stands below a join: what stands below its two boards. A write puts into the first the bytes that lie in
-- it, and into the second those behind them.
use Rattle.std.specs.Prelude.{ℕ, ◌-◌, min, if◌then◌else◌, List, length, take, drop, Option, nat_lt}
use Rattle.board_model.specs.Images.{Image}
use Rattle.board_model.specs.Layers.{joined, front_of}

pub record JoinBeneath (F S : Type 0) : Type 0 where
  pub first : F
  pub second : S

-- a place below the first board, or one below the second
pub data JoinPlace (P Q : Type 0) : Type 0 where
  in_first : P → JoinPlace P Q
  in_second : Q → JoinPlace P Q

module _ {F S : Type 0} where
  abbrev pub join_shows : (F → Image) → (S → Image) → JoinBeneath F S → Image
  join_shows shows_a shows_b g = joined (shows_a g.first) (shows_b g.second)

  abbrev pub join_put : (F → Image) → (F → ℕ → List ℕ → F) → (S → ℕ → List ℕ → S) →
      JoinBeneath F S → ℕ → List ℕ → JoinBeneath F S
  join_put shows_a put_a put_b g start bytes =
      let seam : ℕ = length (shows_a g.first) in
      let front : ℕ = front_of (shows_a g.first) start (length bytes) in
      record {
        first = put_a g.first (min start seam) (take front bytes);
        second = put_b g.second (start - seam) (drop front bytes);
      }

  module _ {P Q : Type 0} where
    abbrev pub join_byte_at : (F → P → Option ℕ) → (S → Q → Option ℕ) → JoinBeneath F S → JoinPlace P Q → Option ℕ
    join_byte_at byte_at_a byte_at_b g (in_first place) = byte_at_a g.first place
    join_byte_at byte_at_a byte_at_b g (in_second place) = byte_at_b g.second place

    -- the first cells stand below the first board, those behind them below the second
    abbrev pub join_stands : (F → Image) → (F → ℕ → P) → (S → ℕ → Q) → JoinBeneath F S → ℕ → JoinPlace P Q
    join_stands shows_a stands_a stands_b g cell =
        let seam : ℕ = length (shows_a g.first) in
        if nat_lt cell seam
        then in_first (stands_a g.first cell)
        else in_second (stands_b g.second (cell - seam))
