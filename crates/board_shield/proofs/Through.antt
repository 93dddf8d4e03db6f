-- What stands below a shield after a write, one that it let through and one that it refused.
use Rattle.std.proofs.Common.{◌≡◌, ℕ, List, Ok, Err, Result, ap, ◌∙◌}
use Rattle.datasheet.specs.declared.refusal.Refusal.{Refusal}
use Rattle.board_model.specs.declared.Range.{Range}
use Rattle.board_model.specs.Images.{Image}
use Rattle.board_model.specs.Results.{write_result, if_accepted}
use Rattle.board_model.specs.Layers.{shielded}
use Rattle.board_model.specs.ShieldBeneath.{ShieldBeneath, shield_put}

module _ {G : Type 0} (put : G → ℕ → List ℕ → G) (rs : List Range) (i : Image) (s : ℕ) (bs : List ℕ) {rs' : List Range} {g g' : G} (ranges : rs' ≡ rs) (same : g' ≡ g) where
  pub shield_left : {i' : Image} {new : G} → write_result (shielded rs i) s bs ≡ write_result i s bs → i' ≡ i → new ≡ if_accepted (write_result i' s bs) (put g' s bs) g' →
      ◌≡◌ {A = ShieldBeneath G} (record { ranges = rs'; below = new })
      (if_accepted (write_result (shielded rs i) s bs) (shield_put put (record { ranges = rs; below = g }) s bs) (record { ranges = rs; below = g }))
  shield_left {i'} {new} through shown left = rw through (go (write_result i s bs) (left ∙ ap (λ (x : Image). if_accepted (write_result x s bs) (put g' s bs) g') shown))
    where
      go : (r : Result (Unit {0}) Refusal) → new ≡ if_accepted r (put g' s bs) g' →
          ◌≡◌ {A = ShieldBeneath G} (record { ranges = rs'; below = new })
          (if_accepted r (shield_put put (record { ranges = rs; below = g }) s bs) (record { ranges = rs; below = g }))
      go (Ok u) e = λ j. record { ranges = ranges j; below = (e ∙ ap (λ x. put x s bs) same) j }
      go (Err x) e = λ j. record { ranges = ranges j; below = (e ∙ same) j }

  -- and after one that it refused
  pub shield_kept : {x : Refusal} → write_result (shielded rs i) s bs ≡ Err x →
      ◌≡◌ {A = ShieldBeneath G} (record { ranges = rs'; below = g' })
      (if_accepted (write_result (shielded rs i) s bs) (shield_put put (record { ranges = rs; below = g }) s bs) (record { ranges = rs; below = g }))
  shield_kept refused = rw refused (λ j. record { ranges = ranges j; below = same j })
