-- A sealed image has the size and the bytes of the one below; each of its places is fenced.
use Rattle.std.proofs.Common.{◌≡◌, ℕ, ◌<◌, true, false, eqb, true-eqb, List, [], ◌∷◌, length, Some, Ok, Err, Result, refl, sym, ap, ◌∙◌, arith}
use Rattle.std.proofs.lemmas.List.{drop-map, take-map, length-map}
use Rattle.datasheet.specs.declared.refusal.Refusal.{Refusal}
use Rattle.datasheet.specs.declared.refusal.Refusal.TheVariants.{Fenced}
use Rattle.board_model.specs.Images.{Image, inside, overwritten}
use Rattle.board_model.specs.Results.{range_result, fence_result, read_into, write_result, if_accepted, written}
use Rattle.board_model.proofs.Cells.{range_inside, range_fits}
use Rattle.extend.specs.Seals.{fence, all_fenced}
use Rattle.board_model.proofs.Dumps.{fence_first, nothing_put}
use Rattle.extend.specs.SealedFacts.{same_bytes}

pub same_read : (i : Image) (s : ℕ) (buffer : List ℕ) → read_into (all_fenced i) s buffer ≡ read_into i s buffer
same_read i s buffer = simp (length-map, drop-map, take-map, same_bytes) refl

either_way : (r : Result (Unit {0}) Refusal) (i : Image) → if_accepted r i i ≡ i
either_way (Ok u) i = refl
either_way (Err e) i = refl

pub written_nothing : (i : Image) (s : ℕ) → written i s [] ≡ i
written_nothing i s = ap (λ (j : Image). if_accepted (write_result i s []) j i) (nothing_put s i) ∙ either_way (write_result i s []) i

module _ {u : Unit {0}} (i : Image) (size s n : ℕ) (sized : size ≡ length i) (lies : Ok u ≡ range_result size s n) where
  lies_inside : inside (all_fenced i) s n ≡ true
  lies_inside = simp (length-map, ← sized) (range_inside size s n lies)

  pub some_fence : 0 < n → Ok (Some s) ≡ fence_result (all_fenced i) s n
  some_fence h =
      let f = range_fits size s n lies in
      rw (lies_inside, fence_first fence (λ c. refl) i s n h (omega arith)) refl

module _ {u : Unit {0}} (i : Image) (size s : ℕ) (bs : List ℕ) (sized : size ≡ length i) (lies : Ok u ≡ range_result size s (length bs)) where
  pub refused_sealed : 0 < length bs → Err Fenced ≡ write_result (all_fenced i) s bs
  refused_sealed h =
      let f = range_fits size s (length bs) lies in
      rw (lies_inside i size s (length bs) sized lies, fence_first fence (λ c. refl) i s (length bs) h (omega arith)) refl

  pub stays_sealed : 0 < length bs → all_fenced i ≡ written (all_fenced i) s bs
  stays_sealed h = ap (λ r. if_accepted r (overwritten (all_fenced i) s bs) (all_fenced i)) (refused_sealed h)

pub left_sealed : (i : Image) (s : ℕ) (bs : List ℕ) → eqb (length bs) 0 ≡ true → i ≡ written i s bs
left_sealed i s [] h = sym (written_nothing i s)
left_sealed i s (b ∷ bs) h = absurd (let e : length (b ∷ bs) ≡ 0 = true-eqb (length (b ∷ bs)) 0 (sym h) in omega arith)

pub has_some : (bs : List ℕ) → eqb (length bs) 0 ≡ false → 0 < length bs
has_some [] h = absurd (cc)
has_some (b ∷ bs) h = omega arith
