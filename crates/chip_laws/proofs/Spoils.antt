-- A spoiled session changes nothing, and SO shows high-Z in it, until CS rises.
use Rattle.std.proofs.Common.{◌≡◌, true, false, [], ◌∷◌, refl, ◌∙◌, ap₂, arith}
use Rattle.std.proofs.lemmas.List.Elements.{All-head, All-tail}
use Rattle.datasheet.specs.declared.level.Level.TheVariants.{HighZ}
use Rattle.datasheet.specs.declared.sample.Sample.{Sample}
use Rattle.datasheet.specs.Chips.{Keeping, in_spoiled}
use Rattle.datasheet.specs.Calls.{ChipState, so, put}
use Rattle.chip_laws.specs.Laws.{SpoiledIsIdle}

module _ (K : Keeping) where
  -- a sample with CS low
  one : (c : ChipState K.Kept) (x : Sample) → in_spoiled c.pins ≡ true → x.cs ≡ false →
      ((put K c x).rec ≡ c.rec) × (in_spoiled (put K c x).pins ≡ true) × (so (put K c x) ≡ HighZ)
  one c x h l = grind arith

  pub spoiled_is_idle : SpoiledIsIdle K
  spoiled_is_idle c [] h l = (refl, h, refl)
  spoiled_is_idle c (x ∷ xs) h l =
      let did = one c x h (All-head (λ (y : Sample). y.cs ≡ false) x xs l) in
      let rest = spoiled_is_idle (put K c x) xs did.1 (All-tail (λ (y : Sample). y.cs ≡ false) x xs l) in
      (rest.0 ∙ did.0, rest.1, ap₂ ◌∷◌ did.2 rest.2)
