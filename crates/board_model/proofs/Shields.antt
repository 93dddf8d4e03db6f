-- What a shield shows of an image: as many cells, the same bytes, and each fence that stands there.
use Rattle.std.proofs.Common.{◌≡◌, ℕ, zero, suc, ◌+◌, ◌≤◌, Bool, true, false, cond, ◌||◌, leb, List, [], ◌∷◌, length, take, drop, Some, None, Ok, sym, refl, ap, ◌∙◌, add-zero, arith}
use Rattle.board_model.specs.declared.Cell.{Cell}
use Rattle.board_model.specs.declared.Range.{Range}
use Rattle.board_model.specs.Images.{Image, most, inside, part, bytes_of, first_fenced, fence_in, overlaid, overwritten}
use Rattle.board_model.specs.Results.{write_result}
use Rattle.board_model.specs.Layers.{covered, shielded_from, shielded}
use Rattle.board_model.proofs.Standing.{accepted_write}

module _ (rs : List Range) where
  -- ## Lists

  pub length_shield : (at : ℕ) (cs : List Cell) → length (shielded_from at rs cs) ≡ length cs
  length_shield at [] = refl
  length_shield at (c ∷ cs) = ap suc (length_shield (at + 1) cs)

  take_shield : (n at : ℕ) (cs : List Cell) → take n (shielded_from at rs cs) ≡ shielded_from at rs (take n cs)
  take_shield zero at cs = refl
  take_shield (suc n) at [] = refl
  take_shield (suc n) at (c ∷ cs) = ap (λ t. record { byte = c.byte; fenced = c.fenced || covered rs at } ∷ t) (take_shield n (at + 1) cs)

  drop_shield : (n at : ℕ) (cs : List Cell) → drop n (shielded_from at rs cs) ≡ shielded_from (at + n) rs (drop n cs)
  drop_shield zero at cs = rw (add-zero at)
  drop_shield (suc n) at [] = refl
  drop_shield (suc n) at (c ∷ cs) = let e : at + 1 + n ≡ at + suc n = omega arith in drop_shield n (at + 1) cs ∙ ap (λ (k : ℕ). shielded_from k rs (drop n cs)) e

  pub part_shield : (i : Image) (s n : ℕ) → part (shielded rs i) s n ≡ shielded_from s rs (part i s n)
  part_shield i s n = let e : 0 + s ≡ s = omega arith in ap (take n) (drop_shield s 0 i ∙ ap (λ (k : ℕ). shielded_from k rs (drop s i)) e) ∙ take_shield n s (drop s i)

  pub bytes_shield : (at : ℕ) (cs : List Cell) → bytes_of (shielded_from at rs cs) ≡ bytes_of cs
  bytes_shield at [] = refl
  bytes_shield at (c ∷ cs) = ap (λ t. c.byte ∷ t) (bytes_shield (at + 1) cs)

  overlaid_shield : (at : ℕ) (cs : List Cell) (bs : List ℕ) → overlaid (shielded_from at rs cs) bs ≡ shielded_from at rs (overlaid cs bs)
  overlaid_shield at [] bs = refl
  overlaid_shield at (c ∷ cs) [] = refl
  overlaid_shield at (c ∷ cs) (b ∷ bs) = ap (λ t. record { byte = b; fenced = c.fenced || covered rs at } ∷ t) (overlaid_shield (at + 1) cs bs)

  overwritten_from : (s at : ℕ) (i : Image) (bs : List ℕ) → overwritten (shielded_from at rs i) s bs ≡ shielded_from at rs (overwritten i s bs)
  overwritten_from zero at i bs = overlaid_shield at i bs
  overwritten_from (suc s) at [] bs = refl
  overwritten_from (suc s) at (c ∷ i) bs = ap (λ t. record { byte = c.byte; fenced = c.fenced || covered rs at } ∷ t) (overwritten_from s (at + 1) i bs)

  pub overwritten_shield : (i : Image) (s : ℕ) (bs : List ℕ) → overwritten (shielded rs i) s bs ≡ shielded rs (overwritten i s bs)
  overwritten_shield i s bs = overwritten_from s 0 i bs

  pub inside_shield : (i : Image) (s n : ℕ) → inside (shielded rs i) s n ≡ inside i s n
  inside_shield i s n = ap (leb (s + n)) (length_shield 0 i)

  pub shield_few : (i : Image) → length i ≤ most → length (shielded rs i) ≤ most
  shield_few i h = rw (length_shield 0 i) h

  -- a range that the shield has without a fence has none below
  no_fence : (at : ℕ) (cs : List Cell) → first_fenced at (shielded_from at rs cs) ≡ None → first_fenced at cs ≡ None
  no_fence at [] e = refl
  no_fence at (c ∷ cs) e = go c.fenced (covered rs at) e (no_fence (at + 1) cs)
    where
      go : (f by : Bool) → cond (f || by) (Some at) (first_fenced (at + 1) (shielded_from (at + 1) rs cs)) ≡ None →
          (first_fenced (at + 1) (shielded_from (at + 1) rs cs) ≡ None → first_fenced (at + 1) cs ≡ None) → cond f (Some at) (first_fenced (at + 1) cs) ≡ None
      go true by e behind = absurd (cc)
      go false true e behind = absurd (cc)
      go false false e behind = behind e

  pub accepted_below : (i : Image) (s : ℕ) (bs : List ℕ) → write_result (shielded rs i) s bs ≡ Ok tt → write_result i s bs ≡ Ok tt
  accepted_below i s bs ok =
      let said = accepted_write (shielded rs i) s bs ok in
      let free : fence_in i s (length bs) ≡ None = no_fence s (part i s (length bs)) (ap (first_fenced s) (sym (part_shield i s (length bs))) ∙ said.1) in
      rw (sym (inside_shield i s (length bs)) ∙ said.0, free) refl
