-- The law of the trial table.
use Rattle.std.specs.Prelude.{◌≡◌, true, List, [], ◌∷◌}
use Rattle.chip_trial.specs.Cases.{Row}
use Rattle.chip_trial.specs.Rows.{right}
use Rattle.chip_trial.specs.Table.{table}

-- every one of these rows is right
abbrev pub EveryRight : List Row → Type 0
EveryRight [] = Unit {0}
EveryRight (r ∷ rows) = (right r ≡ true) × EveryRight rows

-- By the definitions each chip of the table shows and keeps, and each window has, what its row says.
pub record TableRight : Type 0 where
  pub every : EveryRight table
