-- The ID of a chip is known exactly if the chip is fitted.
use Rattle.std.proofs.Common.{◌≡◌, ℕ, Bool, true, false, cond, List, [], ◌∷◌, Ok, Err, sym, refl, ap, ◌∙◌, arith}
use Rattle.datasheet.specs.declared.registers.Registers.{Registers}
use Rattle.datasheet.specs.declared.sheet.Sheet.{Sheet}
use Rattle.datasheet.specs.declared.refusal.Refusal.TheVariants.{UnknownId}
use Rattle.datasheet.specs.Sheets.{density_of, is_sheet}
use Rattle.datasheet.specs.Kept.{bounded}
use Rattle.spi_model.specs.Buses.{Bus, selected}
use Rattle.spi_driver.specs.Exchanges.{all_read}
use Rattle.spi_driver.specs.Drives.{calm, identity_of, density_by, probed}
use Rattle.spi_driver.proofs.WholeSessions.{calm_rested, identified, blank_read}

sheet_known : (s : Sheet) → is_sheet s.t ≡ true
sheet_known s =
    let h = s.known in
    grind arith

abbrev ids : List ℕ
ids = 0x9F ∷ 0 ∷ 0 ∷ 0 ∷ 0 ∷ []

pub id_known : (b : Bus Registers) → density_by (identity_of b) ≡ probed b
id_known b = go b.fitted refl
  where
    go : (f : Bool) → b.fitted ≡ f → density_by (identity_of b) ≡ probed b
    go true e =
        ap density_by (ap (λ (d : Bus Registers). all_read bounded (selected bounded d) ids) (calm_rested b e) ∙ identified b.sheet b.wp b.rec.memory b.rec.stored)
        ∙ ap (λ (t : Bool). cond t (Ok (density_of b.sheet.t)) (Err UnknownId)) (sheet_known b.sheet)
        ∙ ap (λ (f : Bool). cond f (Ok (density_of b.sheet.t)) (Err UnknownId)) (sym e)
    go false e =
        ap density_by (blank_read (calm b) ids e)
        ∙ ap (λ (f : Bool). cond f (Ok (density_of b.sheet.t)) (Err UnknownId)) (sym e)
