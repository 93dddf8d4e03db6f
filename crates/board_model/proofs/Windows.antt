-- Facts of a window on an image.
use Rattle.std.proofs.Common.{◌≡◌, ℕ, ◌+◌, ◌-◌, ◌≤◌, min, true, List, length, take, drop, Some, None, Ok, Option, sym, refl, ap, ◌∙◌, arith, le-leb, leb-true}
use Rattle.std.proofs.lemmas.List.{length-take, length-drop, drop-drop}
use Rattle.std.specs.Option.{option_map, MatchOption, IsSomeAnd}
use Rattle.board_model.specs.Images.{Image, most, inside, part, fence_in, overwritten}
use Rattle.board_model.specs.Results.{fence_result, read_into, write_result}
use Rattle.board_model.specs.Layers.{windowed, base_of, base_result}
use Rattle.board_model.proofs.Cells.{part_take, drop_min, shift_fence, same_fenced, length_overwritten, take_overwritten, drop_overwritten, accepted_by, option_mapped}

-- a window begins at its base
based : (o l : ℕ) (i : Image) → windowed o l i ≡ windowed (base_of o i) l i
based o l i = ap (take l) (sym (drop_min o i))

pub window_few : (o l : ℕ) (i : Image) → length i ≤ most → length (windowed o l i) ≤ most
window_few o l i h = simp (length-take, length-drop) (omega arith)

pub length_windowed : (o l : ℕ) (i : Image) → length (windowed o l i) ≡ min l (length i - o)
length_windowed o l i = simp (length-take, length-drop)

-- a range inside the window lies in the window's size, and in the image below
in_size : (o l s n : ℕ) (i : Image) → inside (windowed o l i) s n ≡ true → s + n ≤ min l (length i - o)
in_size o l s n i t = let h = leb-true (s + n) (length (windowed o l i)) t in omega (arith, length_windowed o l i)

win_part : (o l s n : ℕ) (i : Image) → s + n ≤ l → part (windowed o l i) s n ≡ part i (base_of o i + s) n
win_part o l s n i h =
    ap (λ (w : Image). part w s n) (based o l i) ∙ part_take l s n (drop (base_of o i) i) h ∙ ap (take n) (drop-drop s (base_of o i) i)

-- what a call below says holds of an image and a base that are equal
both : {C : Type 0} (f : Image → ℕ → C) {x y : Image} {m n : ℕ} → x ≡ y → m ≡ n → f x m ≡ f y n
both f {x} {y} {m} {n} p q = ap (λ (z : Image). f z m) p ∙ ap (λ (k : ℕ). f y k) q

-- ## A range that lies in the window, and the board below shows x, asked from the window's base b on

pub lies_base : {b : ℕ} (o l s n : ℕ) (i : Image) → Ok b ≡ base_result o l i s n → (inside (windowed o l i) s n ≡ true) × (b ≡ base_of o i)
lies_base o l s n i e = accepted_by (inside (windowed o l i) s n) e

module _ {b : ℕ} {x : Image} (o l s n : ℕ) (i : Image) (lies : Ok b ≡ base_result o l i s n) (below : x ≡ i) where
  win_inside : inside (windowed o l i) s n ≡ true
  win_inside = (lies_base o l s n i lies).0

  below_inside : inside x (b + s) n ≡ true
  below_inside =
      let e = (lies_base o l s n i lies).1 in
      let h = in_size o l s n i win_inside in
      rw (below, e) (le-leb (base_of o i + s + n) (length i) (omega arith))

  same_part : part x (b + s) n ≡ part (windowed o l i) s n
  same_part =
      let e = (lies_base o l s n i lies).1 in
      let h = in_size o l s n i win_inside in
      rw (below, e) (sym (win_part o l s n i (omega arith)))

  -- the board below answers the fence question with its own places
  fence_told : {found : Option ℕ} → Ok found ≡ fence_result x (b + s) n → found ≡ option_map (λ j. b + j) (fence_in (windowed o l i) s n)
  fence_told answer =
      let there : fence_result x (b + s) n ≡ Ok (option_map (λ j. b + j) (fence_in (windowed o l i) s n)) =
      simp (below_inside, same_part) (ap Ok (shift_fence b s (part (windowed o l i) s n))) in
      cc

  pub found_low : {found : Option ℕ} → Ok found ≡ fence_result x (b + s) n → (place : ℕ) → found ≡ Some place → b ≤ place
  found_low answer = go (fence_in (windowed o l i) s n) (fence_told answer)
    where
      go : {found : Option ℕ} (here : Option ℕ) → found ≡ option_map (λ j. b + j) here → (place : ℕ) → found ≡ Some place → b ≤ place
      go None e place is = absurd (cc)
      go (Some j) e place is = let h : b + j ≡ place = cc in omega arith

  -- the window answers with places of its own, as many before those as the window begins after
  pub fence_here : {found here : Option ℕ} (P : ℕ → ℕ → Type 0) → ((place at : ℕ) → P place at → at ≡ place - b) → Ok found ≡ fence_result x (b + s) n →
      MatchOption found (here ≡ None) (λ place. IsSomeAnd here (P place)) → Ok here ≡ fence_result (windowed o l i) s n
  fence_here {found} {here} P f answer m =
      let there : fence_result (windowed o l i) s n ≡ Ok (fence_in (windowed o l i) s n) = simp win_inside in
      let here-is = option_mapped P (λ (place : ℕ). place - b) found here f m in
      ap Ok (here-is ∙ ap (option_map (λ (place : ℕ). place - b)) (fence_told answer) ∙ back (fence_in (windowed o l i) s n)) ∙ sym there
    where
      back : (o : Option ℕ) → option_map (λ (place : ℕ). place - b) (option_map (λ (j : ℕ). b + j) o) ≡ o
      back None = refl
      back (Some j) = ap Some (omega arith)

module _ {b : ℕ} {x : Image} (o l s : ℕ) (i : Image) (bs : List ℕ) (lies : Ok b ≡ base_result o l i s (length bs)) (below : x ≡ i) where
  -- a buffer after a read
  pub win_filled : read_into x (b + s) bs ≡ read_into (windowed o l i) s bs
  win_filled = simp (win_inside o l s (length bs) i lies below, below_inside o l s (length bs) i lies below, same_part o l s (length bs) i lies below)

  pub win_answer : write_result x (b + s) bs ≡ write_result (windowed o l i) s bs
  win_answer =
      simp (win_inside o l s (length bs) i lies below, below_inside o l s (length bs) i lies below, same_part o l s (length bs) i lies below)
      (same_fenced (b + s) s (part (windowed o l i) s (length bs)))

  pub win_overwritten : windowed o l (overwritten x (b + s) bs) ≡ overwritten (windowed o l i) s bs
  win_overwritten =
      let base = base_of o i in
      let new = overwritten i (base + s) bs in
      let e : base_of o new ≡ base = ap (min o) (length_overwritten i (base + s) bs) in
      rw (below, (lies_base o l s (length bs) i lies).1) (
      based o l new
      ∙ ap (λ (k : ℕ). windowed k l new) e
      ∙ ap (take l) (drop_overwritten base s i bs (omega arith))
      ∙ take_overwritten l s (drop base i) bs
      ∙ ap (λ (w : Image). overwritten w s bs) (sym (based o l i)))
