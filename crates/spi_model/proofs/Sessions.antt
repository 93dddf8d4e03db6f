-- The samples of a whole session.
use Rattle.std.proofs.Common.{◌≡◌, ℕ, Bool, true, List, [], ◌∷◌, ◌++◌, map, sym, refl, ap, ◌∙◌}
use Rattle.std.proofs.lemmas.List.{append_assoc}
use Rattle.datasheet.specs.declared.sample.Sample.{Sample}
use Rattle.spi_model.specs.declared.mode.Mode.{Mode}
use Rattle.spi_model.specs.declared.bus_call.BusCall.TheVariants.{Exchange, Deselect}
use Rattle.spi_model.specs.Samples.{falls, rises, byte_samples, bytes_samples}
use Rattle.spi_model.specs.Lines.{line_samples}
use Rattle.spi_model.specs.Laws.{SessionSamples}

module _ (mode : Mode) (wp : Bool) (n : ℕ) where
  -- the samples of the bytes that are left, and of the end
  bytes_left : (xs : List ℕ) →
      line_samples mode wp n true (map (λ (x : ℕ). Exchange x) xs ++ Deselect ∷ []) ≡ bytes_samples mode wp n xs ++ rises mode wp ∷ []
  bytes_left [] = refl
  bytes_left (x ∷ xs) =
      ap (λ (ys : List Sample). byte_samples mode wp n x ++ ys) (bytes_left xs)
      ∙ sym (append_assoc (byte_samples mode wp n x) (bytes_samples mode wp n xs) (rises mode wp ∷ []))

pub session_samples : SessionSamples
session_samples mode wp n xs = ap (λ (ys : List Sample). falls mode wp ∷ ys) (bytes_left mode wp n xs)
