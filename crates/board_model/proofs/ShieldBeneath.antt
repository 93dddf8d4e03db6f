-- What stands below a shield.
use Rattle.std.proofs.Common.{ℕ, List, Option, sym, ap, ◌∙◌}
use Rattle.std.specs.Prelude.{slice_get}
use Rattle.board_model.specs.Images.{Image}
use Rattle.board_model.specs.Beneath.{Standing}
use Rattle.board_model.specs.Layers.{shielded}
use Rattle.board_model.specs.ShieldBeneath.{shield_shows, shield_put, shield_byte_at, shield_stands}
use Rattle.board_model.proofs.Shields.{bytes_shield, overwritten_shield, accepted_below}

module _ {G P : Type 0} {shows : G → Image} {put : G → ℕ → List ℕ → G} {byte_at : G → P → Option ℕ} {stands : G → ℕ → P} (below : Standing shows put byte_at stands) where
  pub shield_standing : Standing (shield_shows shows) (shield_put put) (shield_byte_at byte_at) (shield_stands stands)
  shield_standing = record {
    holds = λ g cell byte e. below.holds g.below cell byte (ap (λ (bs : List ℕ). slice_get bs cell) (sym (bytes_shield g.ranges 0 (shows g.below))) ∙ e);
    puts = λ g s bs ok. ap (shielded g.ranges) (below.puts g.below s bs (accepted_below g.ranges (shows g.below) s bs ok)) ∙ sym (overwritten_shield g.ranges (shows g.below) s bs);
    only = λ g s bs place ok out. below.only g.below s bs place (accepted_below g.ranges (shows g.below) s bs ok) out;
    stays = λ g s bs cell ok. below.stays g.below s bs cell (accepted_below g.ranges (shows g.below) s bs ok);
  }
