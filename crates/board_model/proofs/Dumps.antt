-- Images that are fenced throughout, the dump's among them: a write that they accept has no bytes.
use Rattle.std.proofs.Common.{◌≡◌, ℕ, zero, suc, ◌+◌, ◌<◌, ◌≤◌, true, List, [], ◌∷◌, map, length, take, drop, Some, None, Option, Ok, refl, sym, ap, ◌∙◌, arith, leb-true}
use Rattle.std.specs.Prelude.{slice_get}
use Rattle.std.proofs.lemmas.List.{length-map, length-take}
use Rattle.board_model.specs.declared.Cell.{Cell}
use Rattle.board_model.specs.Images.{Image, most, bytes_of, first_fenced, fence_in, overwritten, fenced}
use Rattle.board_model.specs.Results.{write_result}
use Rattle.board_model.specs.Beneath.{Standing}
use Rattle.board_model.specs.Layers.{plain, dumped}
use Rattle.board_model.proofs.Standing.{accepted_write, get_take}
use Rattle.board_model.proofs.Plains.{bytes_free}

-- no bytes put
pub nothing_put : (s : ℕ) (i : Image) → overwritten i s [] ≡ i
nothing_put zero [] = refl
nothing_put zero (c ∷ i) = refl
nothing_put (suc s) [] = refl
nothing_put (suc s) (c ∷ i) = ap (λ t. c ∷ t) (nothing_put s i)

-- an image made cell by cell, each of them fenced
module _ {X : Type 0} (made : X → Cell) (closed : (x : X) → (made x).fenced ≡ true) where
  -- the first place of a range that has one
  fenced_at : (at s k : ℕ) (xs : List X) → s < length xs → first_fenced at (take (suc k) (drop s (map made xs))) ≡ Some at
  fenced_at at s k [] h = absurd (omega arith)
  fenced_at at zero k (x ∷ xs) h = rw (closed x) refl
  fenced_at at (suc s) k (x ∷ xs) h = fenced_at at s k xs (omega arith)

  pub fence_first : (xs : List X) (s n : ℕ) → 0 < n → s + n ≤ length xs → fence_in (map made xs) s n ≡ Some s
  fence_first xs s zero h k = absurd (omega arith)
  fence_first xs s (suc n) h k = fenced_at s s n xs (omega arith)

  -- a write that is accepted has no bytes
  empty_write : (xs : List X) (s : ℕ) (bs : List ℕ) → write_result (map made xs) s bs ≡ Ok tt → bs ≡ []
  empty_write xs s [] ok = refl
  empty_write xs s (b ∷ bs) ok =
      let said = accepted_write (map made xs) s (b ∷ bs) ok in
      let lies : s + length (b ∷ bs) ≤ length xs = simp length-map at (leb-true (s + length (b ∷ bs)) (length (map made xs)) said.0) in
      let fence : ◌≡◌ {A = Option ℕ} (Some s) None = sym (fence_first xs s (length (b ∷ bs)) (omega arith) (omega arith)) ∙ said.1 in
      absurd (cc)

  -- and so it puts nothing
  pub closed_put : (xs : List X) (s : ℕ) (bs : List ℕ) → write_result (map made xs) s bs ≡ Ok tt → map made xs ≡ overwritten (map made xs) s bs
  closed_put xs s bs ok = sym (ap (overwritten (map made xs) s) (empty_write xs s bs ok) ∙ nothing_put s (map made xs))

-- ## The dump

pub bytes_fenced : (bs : List ℕ) → bytes_of (map fenced bs) ≡ bs
bytes_fenced [] = refl
bytes_fenced (b ∷ bs) = ap (λ t. b ∷ t) (bytes_fenced bs)

pub dump_few : (memory : List ℕ) → length (dumped memory) ≤ most
dump_few memory = simp (length-map, length-take) (omega arith)

pub dump_standing : Standing dumped (λ memory _ _. memory) slice_get (λ _ cell. cell)
dump_standing = record {
  holds = λ memory cell byte e. get_take most memory cell byte (ap (λ (bs : List ℕ). slice_get bs cell) (sym (bytes_fenced (take most memory))) ∙ e);
  puts = λ memory s bs ok. closed_put fenced (λ b. refl) (take most memory) s bs ok;
  only = λ memory s bs place ok out. refl;
  stays = λ memory s bs cell ok. refl;
}

-- it has the bytes of a board over that memory
pub dump_bytes : (memory : List ℕ) → bytes_of (plain memory) ≡ bytes_of (dumped memory)
dump_bytes memory = bytes_free (take most memory) ∙ sym (bytes_fenced (take most memory))
