-- What stands below a window.
use Rattle.std.proofs.Common.{◌≡◌, ℕ, ◌+◌, ◌<◌, min, List, length, take, drop, Some, Ok, Err, Option, Result, sym, refl, ap, ◌∙◌, add_assoc, arith}
use Rattle.std.specs.Prelude.{slice_get}
use Rattle.std.proofs.lemmas.List.{length-map, drop-map, take-map}
use Rattle.std.proofs.lemmas.Option.{slice_get_within}
use Rattle.datasheet.specs.declared.refusal.Refusal.{Refusal}
use Rattle.board_model.specs.Images.{Image, bytes_of, overwritten}
use Rattle.board_model.specs.Results.{write_result, if_accepted}
use Rattle.board_model.specs.Beneath.{byte_of, Standing}
use Rattle.board_model.specs.Layers.{windowed, base_of, base_result}
use Rattle.board_model.proofs.Cells.{length_overwritten}
use Rattle.board_model.proofs.Standing.{accepted_write, get_take, get_drop}
use Rattle.board_model.specs.WindowBeneath.{WindowBeneath, cell_below, window_shows, window_put, window_stands, window_byte_at}
use Rattle.board_model.proofs.Windows.{lies_base, win_answer, win_overwritten}

-- the byte of a cell of a window is that of the cell below
byte_windowed : (o l : ℕ) (i : Image) (k b : ℕ) → byte_of (windowed o l i) k ≡ Some b → byte_of i (base_of o i + k) ≡ Some b
byte_windowed o l i k b e =
    let in_front : slice_get (take l (drop o (bytes_of i))) k ≡ Some b =
    ap (λ (bs : List ℕ). slice_get bs k) (ap (take l) (drop-map (λ c. c.byte) o i) ∙ take-map (λ c. c.byte) l (drop o i)) ∙ e in
    let there : slice_get (bytes_of i) (o + k) ≡ Some b = sym (get_drop o (bytes_of i) k) ∙ get_take l (drop o (bytes_of i)) k b in_front in
    let h = slice_get_within (bytes_of i) (o + k) b there in
    let long : length (bytes_of i) ≡ length i = simp length-map in
    let at : base_of o i + k ≡ o + k = omega arith in
    ap (byte_of i) at ∙ there

module _ {G P : Type 0} {shows : G → Image} {put : G → ℕ → List ℕ → G} {byte_at : G → P → Option ℕ} {stands : G → ℕ → P} (below : Standing shows put byte_at stands) where
  module _ (g : WindowBeneath G) (s : ℕ) (bs : List ℕ) (ok : write_result (window_shows shows g) s bs ≡ Ok tt) where
    lies : Ok (base_of g.offset (shows g.below)) ≡ base_result g.offset g.count (shows g.below) s (length bs)
    lies = rw ((accepted_write (window_shows shows g) s bs ok).0) refl

    -- the board below accepts the write that goes on
    goes_on : write_result (shows g.below) (cell_below shows g s) bs ≡ Ok tt
    goes_on = win_answer g.offset g.count s (shows g.below) bs lies refl ∙ ok

    win_puts : window_shows shows (window_put shows put g s bs) ≡ overwritten (window_shows shows g) s bs
    win_puts = ap (windowed g.offset g.count) (below.puts g.below (cell_below shows g s) bs goes_on) ∙ win_overwritten g.offset g.count s (shows g.below) bs lies refl

    win_only : (place : P) → ((k : ℕ) → k < length bs → place ≡ window_stands shows stands g (s + k) → ⊥) →
        byte_at (put g.below (cell_below shows g s) bs) place ≡ byte_at g.below place
    win_only place out =
        below.only g.below (cell_below shows g s) bs place goes_on
        (λ k h e. out k h (e ∙ ap (stands g.below) (add_assoc (base_of g.offset (shows g.below)) s k)))

    win_stays : (cell : ℕ) → window_stands shows stands (window_put shows put g s bs) cell ≡ window_stands shows stands g cell
    win_stays cell =
        let new = put g.below (cell_below shows g s) bs in
        let same : base_of g.offset (shows new) ≡ base_of g.offset (shows g.below) =
        ap (base_of g.offset) (below.puts g.below (cell_below shows g s) bs goes_on) ∙ ap (min g.offset) (length_overwritten (shows g.below) (cell_below shows g s) bs) in
        ap (λ (b : ℕ). stands new (b + cell)) same ∙ below.stays g.below (cell_below shows g s) bs (cell_below shows g cell) goes_on

  pub window_standing : Standing (window_shows shows) (window_put shows put) (window_byte_at byte_at) (window_stands shows stands)
  window_standing = record {
    holds = λ g cell byte e. below.holds g.below (cell_below shows g cell) byte (byte_windowed g.offset g.count (shows g.below) cell byte e);
    puts = win_puts;
    only = λ g s bs place ok. win_only g s bs ok place;
    stays = λ g s bs cell ok. win_stays g s bs ok cell;
  }

-- what stands below after a write that goes on from the window's beginning
module _ {b : ℕ} {x : Image} (o l s : ℕ) (i : Image) (bs : List ℕ) (lies : Ok b ≡ base_result o l i s (length bs)) (below : x ≡ i) where
  pub win_put : {G : Type 0} (shows : G → Image) (put : G → ℕ → List ℕ → G) {g h new : G} → h ≡ g → i ≡ shows g →
      new ≡ if_accepted (write_result x (b + s) bs) (put h (b + s) bs) h →
      ◌≡◌ {A = WindowBeneath G} (record { offset = o; count = l; below = new })
      (if_accepted (write_result (windowed o l i) s bs) (window_put shows put (record { offset = o; count = l; below = g }) s bs) (record { offset = o; count = l; below = g }))
  win_put {G} shows put {g} {h} {new} same shown left = go (write_result x (b + s) bs) (write_result (windowed o l i) s bs) (win_answer o l s i bs lies below) left
    where
      with_below : G → WindowBeneath G
      with_below y = record { offset = o; count = l; below = y }

      at : b ≡ base_of o (shows g)
      at = (lies_base o l s (length bs) i lies).1 ∙ ap (base_of o) shown

      go : (r q : Result (Unit {0}) Refusal) → r ≡ q → new ≡ if_accepted r (put h (b + s) bs) h →
          with_below new ≡ if_accepted q (window_put shows put (with_below g) s bs) (with_below g)
      go (Ok v) (Ok u) e p = ap with_below (p ∙ ap (λ t. put t (b + s) bs) same ∙ ap (λ (k : ℕ). put g (k + s) bs) at)
      go (Err v) (Err w) e p = ap with_below (p ∙ same)
      go (Ok v) (Err w) e p = absurd (cc)
      go (Err v) (Ok u) e p = absurd (cc)
