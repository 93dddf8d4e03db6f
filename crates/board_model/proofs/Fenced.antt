-- The cells of a memory, fenced from a place on: they are as many, have its bytes, and bytes put into it are put into them.
use Rattle.std.proofs.Common.{◌≡◌, ℕ, zero, suc, ◌+◌, ◌≤◌, List, [], ◌∷◌, ◌++◌, map, length, take, drop, refl, sym, ap, ◌∙◌, suc-add, arith}
use Rattle.board_model.specs.declared.Cell.{Cell}
use Rattle.board_model.specs.Images.{bytes_of, overlaid, overwritten, free, fenced}
use Rattle.board_model.specs.Layers.{patched}

abbrev pub fenced_from : ℕ → List ℕ → List Cell
fenced_from k xs = map free (take k xs) ++ map fenced (drop k xs)

pub cells_length : (k : ℕ) (xs : List ℕ) → length (fenced_from k xs) ≡ length xs
cells_length zero [] = refl
cells_length zero (x ∷ xs) = ap suc (cells_length zero xs)
cells_length (suc k) [] = refl
cells_length (suc k) (x ∷ xs) = ap suc (cells_length k xs)

pub cells_bytes : (k : ℕ) (xs : List ℕ) → bytes_of (fenced_from k xs) ≡ xs
cells_bytes zero [] = refl
cells_bytes zero (x ∷ xs) = ap (λ t. x ∷ t) (cells_bytes zero xs)
cells_bytes (suc k) [] = refl
cells_bytes (suc k) (x ∷ xs) = ap (λ t. x ∷ t) (cells_bytes k xs)

pub cells_none : (k : ℕ) → fenced_from k [] ≡ []
cells_none zero = refl
cells_none (suc k) = refl

-- bytes put
cells_overlaid : (k : ℕ) (xs bs : List ℕ) → length bs ≤ length xs → overlaid (fenced_from k xs) bs ≡ fenced_from k (bs ++ drop (length bs) xs)
cells_overlaid k [] [] h = rw (cells_none k)
cells_overlaid k [] (b ∷ bs) h = absurd (omega arith)
cells_overlaid zero (x ∷ xs) [] h = refl
cells_overlaid (suc k) (x ∷ xs) [] h = refl
cells_overlaid zero (x ∷ xs) (b ∷ bs) h = ap (λ t. fenced b ∷ t) (cells_overlaid zero xs bs (omega arith))
cells_overlaid (suc k) (x ∷ xs) (b ∷ bs) h = ap (λ t. free b ∷ t) (cells_overlaid k xs bs (omega arith))

pub cells_patched : (k start : ℕ) (xs bs : List ℕ) → start + length bs ≤ length xs → fenced_from k (patched xs start bs) ≡ overwritten (fenced_from k xs) start bs
cells_patched k zero xs bs h =
    let e : 0 + length bs ≡ length bs = omega arith in
    ap (λ (n : ℕ). fenced_from k (bs ++ drop n xs)) e ∙ sym (cells_overlaid k xs bs (omega arith))
cells_patched k (suc start) [] bs h = absurd (omega arith)
cells_patched zero (suc start) (x ∷ xs) bs h = rw (suc-add start (length bs)) (ap (λ t. fenced x ∷ t) (cells_patched zero start xs bs (omega arith)))
cells_patched (suc k) (suc start) (x ∷ xs) bs h = rw (suc-add start (length bs)) (ap (λ t. free x ∷ t) (cells_patched k start xs bs (omega arith)))
