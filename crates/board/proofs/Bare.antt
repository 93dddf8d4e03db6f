-- Plain memory: its image has no fence, and bytes put into it are bytes put into the image.
use Rattle.std.proofs.Common.{◌≡◌, ℕ, ◌+◌, ◌-◌, ◌≤◌, min, true, List, [], ◌∷◌, ◌++◌, map, length, take, drop, None, Ok, refl, ap, ap₂, ◌∙◌, arith}
use borrow.Rule.Slice.PartMut.{post_of, Post-is}
use Rattle.std.proofs.lemmas.List.{drop-map, take-map, length-map, length-take}
use Rattle.board_model.specs.Images.{most, inside, first_fenced, fence_in, free}
use Rattle.board_model.specs.Results.{range_result, fence_result, read_into, write_result, written}
use Rattle.board_model.specs.Layers.{plain, patched}
use Rattle.board_model.proofs.Cells.{range_inside, range_fits}
use Rattle.board_model.proofs.Plains.{bytes_free, patched_plain}
use Rattle.board.specs.Plains.{memory_after}

none_fenced : (at : ℕ) (bs : List ℕ) → first_fenced at (map free bs) ≡ None
none_fenced at [] = refl
none_fenced at (b ∷ bs) = none_fenced (at + 1) bs

no_fence : (memory : List ℕ) (s n : ℕ) → fence_in (plain memory) s n ≡ None
no_fence memory s n = simp (drop-map, take-map) (none_fenced s (take n (drop s (take most memory))))

-- ## The calls, where the range is not refused

module _ {u : Unit {0}} {cells : List ℕ} (memory : List ℕ) (s n : ℕ) (all : cells ≡ take most memory) (lies : Ok u ≡ range_result (length cells) s n) where
  plain_inside : inside (plain memory) s n ≡ true
  plain_inside = simp (length-map, ← all) (range_inside (length cells) s n lies)

  pub fits_memory : s + n ≤ min most (length memory)
  fits_memory = let h = range_fits (length cells) s n lies in let e = length-take most memory in let l = ap length all in omega arith

  pub fence_none : Ok None ≡ fence_result (plain memory) s n
  fence_none = rw (plain_inside, no_fence memory s n)

-- a buffer after a copy out of that part of the cells
pub read_filled : {u : Unit {0}} {out : List ℕ} (cells : List ℕ) (s : ℕ) (buffer : List ℕ) → Ok u ≡ range_result (length cells) s (length buffer) →
    out ≡ take (s + length buffer - s) (drop s cells) → out ≡ read_into (map free cells) s buffer
read_filled cells s buffer lies copied =
    let k : s + length buffer - s ≡ length buffer = omega arith in
    let h : inside (map free cells) s (length buffer) ≡ true = simp length-map (range_inside (length cells) s (length buffer) lies) in
    rw h (copied ∙ simp (k, drop-map, take-map, bytes_free))

module _ {u : Unit {0}} {cells : List ℕ} (memory : List ℕ) (s : ℕ) (bs : List ℕ) (all : cells ≡ take most memory) (lies : Ok u ≡ range_result (length cells) s (length bs)) where
  -- the memory after a copy into that part of it
  copied_in : {new : List ℕ} → new ≡ bs → take s memory ++ (new ++ post_of s (s + length bs - s) memory) ≡ patched memory s bs
  copied_in copied =
      let up : s ≤ s + length bs = omega arith in
      ap₂ (λ (part rest : List ℕ). take s memory ++ (part ++ rest)) copied (Post-is s (s + length bs) memory up)

  pub write_done : Ok tt ≡ write_result (plain memory) s bs
  write_done = rw (plain_inside memory s (length bs) all lies, no_fence memory s (length bs))

  pub memory_left : {new : List ℕ} → new ≡ bs → take s memory ++ (new ++ post_of s (s + length bs - s) memory) ≡ memory_after memory s bs
  memory_left copied = rw (plain_inside memory s (length bs) all lies, no_fence memory s (length bs)) (copied_in copied)

  pub write_left : {new : List ℕ} → new ≡ bs → plain (take s memory ++ (new ++ post_of s (s + length bs - s) memory)) ≡ written (plain memory) s bs
  write_left copied =
      let h = fits_memory memory s (length bs) all lies in
      rw (plain_inside memory s (length bs) all lies, no_fence memory s (length bs)) (ap plain (copied_in copied) ∙ patched_plain most s memory bs (omega arith) (omega arith))
