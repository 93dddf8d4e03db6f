-- What an accepted write says, and where the bytes of parts of a list stand: for the proofs of what stands below boards.
use Rattle.std.proofs.Common.{◌≡◌, ℕ, zero, suc, ◌+◌, ◌-◌, ◌<◌, ◌≤◌, Bool, true, false, cond, List, [], ◌∷◌, ◌++◌, length, take, drop, Some, None, Option, Ok, Err, Result, refl, sym, ap, ◌∙◌, arith}
use Rattle.std.specs.Prelude.{slice_get}
use Rattle.datasheet.specs.declared.refusal.Refusal.{Refusal}
use Rattle.datasheet.specs.declared.refusal.Refusal.TheVariants.{OutOfRange}
use Rattle.board_model.specs.Images.{Image, inside, fence_in, overwritten}
use Rattle.board_model.specs.Results.{unless_fenced, write_result, if_accepted, written}
use Rattle.board_model.specs.Beneath.{Standing}

-- the range of an accepted write lies in the image, and has no fence
pub accepted_write : (i : Image) (s : ℕ) (bs : List ℕ) → write_result i s bs ≡ Ok tt → (inside i s (length bs) ≡ true) × (fence_in i s (length bs) ≡ None)
accepted_write i s bs = go (inside i s (length bs)) (fence_in i s (length bs))
  where
    go : (b : Bool) (o : Option ℕ) → cond b (unless_fenced o) (Err OutOfRange) ≡ Ok tt → (b ≡ true) × (o ≡ None)
    go true None e = (refl, refl)
    go true (Some x) e = absurd (cc)
    go false o e = absurd (cc)

-- what stands at a place of a front of a list stands there in the list
pub get_take : {X : Type 0} (l : ℕ) (xs : List X) (k : ℕ) (x : X) → slice_get (take l xs) k ≡ Some x → slice_get xs k ≡ Some x
get_take zero xs k x e = absurd (cc)
get_take (suc l) [] k x e = e
get_take (suc l) (y ∷ xs) zero x e = e
get_take (suc l) (y ∷ xs) (suc k) x e = get_take l xs k x e

-- what stands at a place of the rest of a list stands further on in the list
pub get_drop : {X : Type 0} (n : ℕ) (xs : List X) (k : ℕ) → slice_get (drop n xs) k ≡ slice_get xs (n + k)
get_drop zero xs k = let e : k ≡ 0 + k = omega arith in ap (slice_get xs) e
get_drop (suc n) [] k = refl
get_drop (suc n) (x ∷ xs) k = let e : suc (n + k) ≡ suc n + k = omega arith in get_drop n xs k ∙ ap (slice_get (x ∷ xs)) e

-- what stands at a place of two lists, one after the other, stands in the first or in the second
pub get_first : {X : Type 0} (xs ys : List X) (k : ℕ) → k < length xs → slice_get (xs ++ ys) k ≡ slice_get xs k
get_first [] ys k h = absurd (omega arith)
get_first (x ∷ xs) ys zero h = refl
get_first (x ∷ xs) ys (suc k) h = get_first xs ys k (omega arith)

pub get_second : {X : Type 0} (xs ys : List X) (k : ℕ) → length xs ≤ k → slice_get (xs ++ ys) k ≡ slice_get ys (k - length xs)
get_second [] ys k h = let e : k ≡ k - 0 = omega arith in ap (slice_get ys) e
get_second (x ∷ xs) ys zero h = absurd (omega arith)
get_second (x ∷ xs) ys (suc k) h = let e : k - length xs ≡ suc k - suc (length xs) = omega arith in get_second xs ys k (omega arith) ∙ ap (slice_get ys) e

-- what a board shows after a write, by what stands below it then
module _ {G P : Type 0} {shows : G → Image} {put : G → ℕ → List ℕ → G} {byte_at : G → P → Option ℕ} {stands : G → ℕ → P} (below : Standing shows put byte_at stands) where
  pub image_written : {i j : Image} {g h : G} (s : ℕ) (bs : List ℕ) → i ≡ shows g → j ≡ shows h → h ≡ if_accepted (write_result i s bs) (put g s bs) g → j ≡ written i s bs
  image_written {i} {j} {g} {h} s bs shown after left = go (write_result i s bs) refl left
    where
      go : (r : Result (Unit {0}) Refusal) → write_result i s bs ≡ r → h ≡ if_accepted r (put g s bs) g → j ≡ if_accepted r (overwritten i s bs) i
      go (Ok u) ok e =
          let accepted : write_result (shows g) s bs ≡ Ok tt = ap (λ (x : Image). write_result x s bs) (sym shown) ∙ ok in
          after ∙ ap shows e ∙ below.puts g s bs accepted ∙ ap (λ (x : Image). overwritten x s bs) (sym shown)
      go (Err x) ok e = after ∙ ap shows e ∙ sym shown
