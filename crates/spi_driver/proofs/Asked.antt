-- Sessions that ask a chip that is calm, and leave it so.
use Rattle.std.proofs.Common.{◌≡◌, ℕ, ◌%◌, Bool, true, false, List, [], ◌∷◌, slice_index, sym, refl, ap, ◌∙◌}
use Rattle.datasheet.specs.declared.registers.Registers.{Registers}
use Rattle.datasheet.specs.Kept.{bounded}
use Rattle.spi_model.specs.Buses.{Bus, selected, deselected}
use Rattle.spi_driver.specs.Exchanges.{all_read}
use Rattle.spi_driver.specs.Drives.{calm}
use Rattle.spi_driver.proofs.WholeSessions.{rested, sent, calm_rested, identified_left, status_read, status_left, blank_left}

module _ (b : Bus Registers) (h : b ≡ calm b) where
  abbrev at_rest : Bus Registers
  at_rest = rested b.sheet b.wp b.rec.memory b.rec.stored false

  pub is_rested : b.fitted ≡ true → b ≡ at_rest
  is_rested e = h ∙ calm_rested b e

  -- fitted or blank
  left_so : (xs : List ℕ) → deselected bounded (sent at_rest xs) ≡ at_rest → (f : Bool) → b.fitted ≡ f → deselected bounded (sent b xs) ≡ b
  left_so xs e true f =
      ap (λ (d : Bus Registers). deselected bounded (sent d xs)) (is_rested f) ∙ e ∙ sym (is_rested f)
  left_so xs e false f = blank_left b xs f ∙ sym h

  pub identity_left : deselected bounded (sent b (0x9F ∷ 0 ∷ 0 ∷ 0 ∷ 0 ∷ [])) ≡ b
  identity_left =
      left_so (0x9F ∷ 0 ∷ 0 ∷ 0 ∷ 0 ∷ []) (identified_left b.sheet b.wp b.rec.memory b.rec.stored) b.fitted refl

  pub status_is : b.fitted ≡ true → (xs : List ℕ) → xs ≡ all_read bounded (selected bounded b) (0x05 ∷ 0 ∷ []) → slice_index xs 1 ≡ b.rec.stored % 256
  status_is e xs r =
      ap (λ (ys : List ℕ). slice_index ys 1)
      (r ∙ ap (λ (d : Bus Registers). all_read bounded (selected bounded d) (0x05 ∷ 0 ∷ [])) (is_rested e) ∙ status_read b.sheet b.wp b.rec.memory b.rec.stored)

  pub status_same : deselected bounded (sent b (0x05 ∷ 0 ∷ [])) ≡ b
  status_same = left_so (0x05 ∷ 0 ∷ []) (status_left b.sheet b.wp b.rec.memory b.rec.stored) b.fitted refl
