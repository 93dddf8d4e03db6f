-- The facts that a sealed board gives of what stands below it, proved: code cites its own crate's specs alone.
use Rattle.std.proofs.Common.{◌≡◌, ℕ, ◌≤◌, List, [], ◌∷◌, length, Option, refl, sym, ap, ◌∙◌}
use Rattle.std.specs.Prelude.{slice_get}
use Rattle.std.proofs.lemmas.List.{length-map}
use Rattle.board_model.specs.declared.Cell.{Cell}
use Rattle.board_model.specs.Images.{Image, most, bytes_of}
use Rattle.board_model.specs.Beneath.{Standing}
use Rattle.board_model.proofs.Dumps.{closed_put}
use Rattle.extend.specs.Seals.{fence, all_fenced, sealed_shows}

pub same_bytes : (cs : List Cell) → bytes_of (all_fenced cs) ≡ bytes_of cs
same_bytes [] = refl
same_bytes (c ∷ cs) = ap (λ t. c.byte ∷ t) (same_bytes cs)

pub sealed_few : (i : Image) → length i ≤ most → length (all_fenced i) ≤ most
sealed_few i h = simp length-map h

module _ {G P : Type 0} {shows : G → Image} {put : G → ℕ → List ℕ → G} {byte_at : G → P → Option ℕ} {stands : G → ℕ → P} (below : Standing shows put byte_at stands) where
  pub sealed_standing : Standing (sealed_shows shows) (λ g _ _. g) byte_at stands
  sealed_standing = record {
    holds = λ g cell byte e. below.holds g cell byte (ap (λ (bs : List ℕ). slice_get bs cell) (sym (same_bytes (shows g))) ∙ e);
    puts = λ g s bs ok. closed_put fence (λ c. refl) (shows g) s bs ok;
    only = λ g s bs place ok out. refl;
    stays = λ g s bs cell ok. refl;
  }
