-- Plain memory: bytes put into it are bytes put into its image, and no other byte alters.
use Rattle.std.proofs.Common.{◌≡◌, ℕ, zero, suc, ◌+◌, ◌<◌, ◌≤◌, min, List, [], ◌∷◌, ◌++◌, map, length, take, drop, Ok, sym, refl, ap, ◌∙◌, suc-add, arith, leb-true}
use native.Mathlib.Numerals.{unary_clauses}
use Rattle.std.specs.Prelude.{slice_get}
use Rattle.std.proofs.lemmas.List.{length-map, length-take}
use Rattle.board_model.specs.Images.{most, bytes_of, overlaid, overwritten, free}
use Rattle.board_model.specs.Results.{write_result}
use Rattle.board_model.specs.Beneath.{Standing}
use Rattle.board_model.specs.Layers.{plain, patched}
use Rattle.board_model.proofs.Standing.{accepted_write, get_take}

pub bytes_free : (bs : List ℕ) → bytes_of (map free bs) ≡ bs
bytes_free [] = refl
bytes_free (b ∷ bs) = ap (λ t. b ∷ t) (bytes_free bs)

-- bytes put into the memory, as far as the limit lets them be seen
overlaid_free : (xs bs : List ℕ) → length bs ≤ length xs → overlaid (map free xs) bs ≡ map free (bs ++ drop (length bs) xs)
overlaid_free [] [] h = refl
overlaid_free [] (b ∷ bs) h = absurd (omega arith)
overlaid_free (x ∷ xs) [] h = refl
overlaid_free (x ∷ xs) (b ∷ bs) h = ap (λ t. free b ∷ t) (overlaid_free xs bs (omega arith))

take_front : (bs memory : List ℕ) (l : ℕ) → length bs ≤ l → length bs ≤ length memory → take l (bs ++ drop (length bs) memory) ≡ bs ++ drop (length bs) (take l memory)
take_front [] memory l h k = refl
take_front (b ∷ bs) [] l h k = absurd (omega arith)
take_front (b ∷ bs) (x ∷ memory) zero h k = absurd (omega arith)
take_front (b ∷ bs) (x ∷ memory) (suc l) h k = ap (λ t. b ∷ t) (take_front bs memory l (omega arith) (omega arith))

pub patched_plain : (l s : ℕ) (memory bs : List ℕ) → s + length bs ≤ l → s + length bs ≤ length memory →
    map free (take l (patched memory s bs)) ≡ overwritten (map free (take l memory)) s bs
patched_plain l zero memory bs h k =
    let z : 0 + length bs ≡ length bs = omega arith in
    ap (λ (n : ℕ). map free (take l (bs ++ drop n memory))) z ∙ ap (map free) (take_front bs memory l (omega arith) (omega arith))
    ∙ sym (overlaid_free (take l memory) bs (simp length-take (omega arith)))
patched_plain l (suc s) [] bs h k = absurd (omega arith)
patched_plain zero (suc s) (x ∷ memory) bs h k = absurd (omega arith)
patched_plain (suc l) (suc s) (x ∷ memory) bs h k =
    rw (suc-add s (length bs)) (ap (λ t. free x ∷ t) (patched_plain l s memory bs (omega arith) (omega arith)))

-- ## What stands below

pub plain_few : (memory : List ℕ) → length (plain memory) ≤ most
plain_few memory = simp (length-map, length-take) (omega arith)

-- bytes put into a memory alter no byte but those from the start on
pub patched_only : (memory : List ℕ) (s : ℕ) (bs : List ℕ) (place : ℕ) → s + length bs ≤ length memory →
    ((k : ℕ) → k < length bs → place ≡ s + k → ⊥) → slice_get (patched memory s bs) place ≡ slice_get memory place
patched_only [] zero [] place h out = refl
patched_only [] zero (b ∷ bs) place h out = absurd (omega arith)
patched_only [] (suc s) bs place h out = absurd (omega arith)
patched_only (x ∷ memory) zero [] place h out = refl
patched_only (x ∷ memory) zero (b ∷ bs) zero h out = absurd (out 0 (omega arith) refl)
patched_only (x ∷ memory) zero (b ∷ bs) (suc place) h out =
    simp unary_clauses (patched_only memory zero bs place (omega arith) (λ k l e. out (suc k) (omega arith) (omega arith)))
patched_only (x ∷ memory) (suc s) bs zero h out = refl
patched_only (x ∷ memory) (suc s) bs (suc place) h out =
    rw (suc-add s (length bs)) (patched_only memory s bs place (omega arith) (λ k l e. out k l (omega arith)))

put_fits : (memory : List ℕ) (s : ℕ) (bs : List ℕ) → write_result (plain memory) s bs ≡ Ok tt → s + length bs ≤ min most (length memory)
put_fits memory s bs ok =
    let h = leb-true (s + length bs) (length (plain memory)) (accepted_write (plain memory) s bs ok).0 in
    let l : length (plain memory) ≡ min most (length memory) = simp (length-map, length-take) in
    omega arith

pub plain_standing : Standing plain patched slice_get (λ _ cell. cell)
plain_standing = record {
  holds = λ memory cell byte e. get_take most memory cell byte (ap (λ (bs : List ℕ). slice_get bs cell) (sym (bytes_free (take most memory))) ∙ e);
  puts = λ memory s bs ok. let h = put_fits memory s bs ok in patched_plain most s memory bs (omega arith) (omega arith);
  only = λ memory s bs place ok out. let h = put_fits memory s bs ok in patched_only memory s bs place (omega arith) out;
  stays = λ memory s bs cell ok. refl;
}
