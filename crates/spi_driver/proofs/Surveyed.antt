-- What a driver finds of a chip whose ID is known.
use Rattle.std.proofs.Common.{◌≡◌, ℕ, zero, suc, ◌+◌, ◌*◌, ◌%◌, ◌^◌, ◌≤◌, Bool, true, false, cond, length, Ok, Err, Result, sym, refl, ap, ◌∙◌, true-eqb, arith, rules}
use Rattle.datasheet.specs.declared.registers.Registers.{Registers}
use Rattle.datasheet.specs.declared.refusal.Refusal.{Refusal}
use Rattle.datasheet.specs.declared.refusal.Refusal.TheVariants.{UnknownId}
use Rattle.datasheet.specs.Sheets.{cells, density_of}
use Rattle.datasheet.specs.Memory.{SoundMemory}
use Rattle.spi_model.specs.Buses.{Bus}
use Rattle.spi_driver.specs.Drives.{image_of, probed, calmed, calm}
use Rattle.spi_driver.proofs.Cells.{fitted_size}

-- the number of cells by the density
shifted : (d : ℕ) → d ≤ 5 → 1024 * 2 ^ d % 18446744073709551616 ≡ 2 ^ (10 + d)
shifted zero h = refl
shifted (suc zero) h = refl
shifted (suc (suc zero)) h = refl
shifted (suc (suc (suc zero))) h = refl
shifted (suc (suc (suc (suc zero)))) h = refl
shifted (suc (suc (suc (suc (suc zero))))) h = refl
shifted (suc (suc (suc (suc (suc (suc d)))))) h = absurd (omega arith)

pub few_cells : (d : ℕ) → d ≤ 5 → 1024 * 2 ^ d % 18446744073709551616 ≤ 32768
few_cells zero h = omega arith
few_cells (suc zero) h = omega arith
few_cells (suc (suc zero)) h = omega arith
few_cells (suc (suc (suc zero))) h = omega arith
few_cells (suc (suc (suc (suc zero)))) h = omega arith
few_cells (suc (suc (suc (suc (suc zero))))) h = omega arith
few_cells (suc (suc (suc (suc (suc (suc d)))))) h = absurd (omega arith)

module _ (b : Bus Registers) (d : ℕ) (small : d ≤ 5) (known : Ok d ≡ probed b) where
  is_known : (f : Bool) (t : ℕ) → ◌≡◌ {A = Result ℕ Refusal} (Ok d) (cond f (Ok (density_of t)) (Err UnknownId)) → (f ≡ true) × (d ≡ density_of t)
  is_known true t e = (refl, search rules)
  is_known false t e = absurd (search rules)

  pub is_fitted : b.fitted ≡ true
  is_fitted = (is_known b.fitted b.sheet.t known).0

  -- the number of cells
  pub size_is : 1024 * 2 ^ d % 18446744073709551616 ≡ cells b.sheet
  size_is = shifted d small ∙ ap (λ (k : ℕ). 2 ^ (10 + k)) (is_known b.fitted b.sheet.t known).1

  pub size_found : SoundMemory b.sheet b.fitted b.rec.memory → 1024 * 2 ^ d % 18446744073709551616 ≡ length (image_of b)
  size_found m = size_is ∙ sym (fitted_size b is_fitted ∙ true-eqb (length b.rec.memory) (cells b.sheet) (sym (sym m.fit ∙ is_fitted)))

  -- the stored bits of a bus brought to rest
  pub stored_is : (c : Bus Registers) (status : ℕ) → c ≡ calm b → (c.fitted ≡ true → status ≡ c.rec.stored % 256) → status ≡ b.rec.stored % 256
  stored_is c status e h =
      h (ap (λ (x : Bus Registers). x.fitted) e ∙ is_fitted)
      ∙ ap (λ (x : Bus Registers). x.rec.stored % 256) e
      ∙ ap (λ (f : Bool). (cond f (calmed b.rec b.rec.memory) b.rec).stored % 256) is_fitted
