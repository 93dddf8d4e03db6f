-- What stands below a join.
use Rattle.std.proofs.Common.{◌≡◌, ℕ, ◌+◌, ◌-◌, ◌<◌, ◌≤◌, min, true, cond, ltb, List, ◌++◌, length, take, drop, Some, None, Option, Ok, ◌⊎◌, inl, inr, sym, refl, ap, ◌∙◌, arith, lt-ltb, le-ltb}
use Rattle.std.specs.Prelude.{slice_get}
use Rattle.std.specs.Option.{option_map, option_or}
use Rattle.std.proofs.lemmas.Bool.{cases_lt}
use Rattle.std.proofs.lemmas.List.{length-map, map-append, take-map, length-take, length-drop}
use Rattle.board_model.specs.Images.{Image, most, inside, bytes_of, fence_in, overwritten}
use Rattle.board_model.specs.Results.{write_result}
use Rattle.board_model.specs.Beneath.{byte_of, Standing}
use Rattle.board_model.specs.Layers.{joined, front_of}
use Rattle.board_model.proofs.Cells.{length_overwritten}
use Rattle.board_model.proofs.Standing.{accepted_write, get_take, get_first, get_second}
use Rattle.board_model.specs.JoinBeneath.{JoinBeneath, JoinPlace, in_first, in_second, join_shows, join_put, join_byte_at, join_stands}
use Rattle.board_model.proofs.Joins.{at_both, in_first as in_first_part, in_second as in_second_part, fence_join, write_inside, length_front, length_back, written_min, join_overwritten}

-- no fence in either part
none_of_both : (f : ℕ → ℕ) (o p : Option ℕ) → option_or o (option_map f p) ≡ None → (o ≡ None) × (p ≡ None)
none_of_both f None None e = (refl, refl)
none_of_both f None (Some x) e = absurd (cc)
none_of_both f (Some x) p e = absurd (cc)

-- the byte of a cell of two images, one after the other
both_bytes : (a b : Image) (cell byte : ℕ) → byte_of (joined a b) cell ≡ Some byte → slice_get (bytes_of a ++ bytes_of b) cell ≡ Some byte
both_bytes a b cell byte e =
    ap (λ (bs : List ℕ). slice_get bs cell) (sym (map-append (λ c. c.byte) a b))
    ∙ get_take most (bytes_of (a ++ b)) cell byte (ap (λ (bs : List ℕ). slice_get bs cell) (take-map (λ c. c.byte) most (a ++ b)) ∙ e)

byte_first : (a b : Image) (cell byte : ℕ) → cell < length a → byte_of (joined a b) cell ≡ Some byte → byte_of a cell ≡ Some byte
byte_first a b cell byte h e =
    let long : length (bytes_of a) ≡ length a = simp length-map in
    sym (get_first (bytes_of a) (bytes_of b) cell (omega arith)) ∙ both_bytes a b cell byte e

byte_second : (a b : Image) (cell byte : ℕ) → length a ≤ cell → byte_of (joined a b) cell ≡ Some byte → byte_of b (cell - length a) ≡ Some byte
byte_second a b cell byte h e =
    let long : length (bytes_of a) ≡ length a = simp length-map in
    ap (λ (n : ℕ). byte_of b (cell - n)) (sym long) ∙ sym (get_second (bytes_of a) (bytes_of b) cell (omega arith)) ∙ both_bytes a b cell byte e

module _ {F S P Q : Type 0} {shows_a : F → Image} {put_a : F → ℕ → List ℕ → F} {byte_at_a : F → P → Option ℕ} {stands_a : F → ℕ → P}
    {shows_b : S → Image} {put_b : S → ℕ → List ℕ → S} {byte_at_b : S → Q → Option ℕ} {stands_b : S → ℕ → Q}
    (first : Standing shows_a put_a byte_at_a stands_a) (second : Standing shows_b put_b byte_at_b stands_b) where
  join_holds : (g : JoinBeneath F S) (cell byte : ℕ) → byte_of (join_shows shows_a shows_b g) cell ≡ Some byte →
      join_byte_at byte_at_a byte_at_b g (join_stands shows_a stands_a stands_b g cell) ≡ Some byte
  join_holds g cell byte e = go (cases_lt cell (length (shows_a g.first)))
    where
      go : (cell < length (shows_a g.first)) ⊎ (length (shows_a g.first) ≤ cell) → join_byte_at byte_at_a byte_at_b g (join_stands shows_a stands_a stands_b g cell) ≡ Some byte
      go (inl h) = rw (lt-ltb cell (length (shows_a g.first)) h) (first.holds g.first cell byte (byte_first (shows_a g.first) (shows_b g.second) cell byte h e))
      go (inr h) =
          rw (le-ltb cell (length (shows_a g.first)) h)
          (second.holds g.second (cell - length (shows_a g.first)) byte (byte_second (shows_a g.first) (shows_b g.second) cell byte h e))

  module _ (g : JoinBeneath F S) (s : ℕ) (bs : List ℕ) (ok : write_result (join_shows shows_a shows_b g) s bs ≡ Ok tt) where
    abbrev a : Image
    a = shows_a g.first

    abbrev b : Image
    b = shows_b g.second

    abbrev front : List ℕ
    front = take (front_of a s (length bs)) bs

    abbrev back : List ℕ
    back = drop (front_of a s (length bs)) bs

    lies : inside (joined a b) s (length bs) ≡ true
    lies = (accepted_write (joined a b) s bs ok).0

    none : (fence_in a (min s (length a)) (front_of a s (length bs)) ≡ None) × (fence_in b (s - length a) (length bs - (length a - s)) ≡ None)
    none = none_of_both (λ j. length a + j) _ _ (sym (fence_join a b s (length bs) lies) ∙ (accepted_write (joined a b) s bs ok).1)

    ok_first : write_result a (min s (length a)) front ≡ Ok tt
    ok_first = write_inside a (min s (length a)) (front_of a s (length bs)) front (length_front a s bs) (in_first_part a s (length bs)) none.0

    ok_second : write_result b (s - length a) back ≡ Ok tt
    ok_second = write_inside b (s - length a) (length bs - (length a - s)) back (length_back a s bs) (in_second_part a b s (length bs) lies) none.1

    join_puts : join_shows shows_a shows_b (join_put shows_a put_a put_b g s bs) ≡ overwritten (joined a b) s bs
    join_puts =
        at_both joined (first.puts g.first (min s (length a)) front ok_first ∙ written_min a s front) (second.puts g.second (s - length a) back ok_second)
        ∙ join_overwritten a b s bs

    stands_first : (cell : ℕ) → cell < length a → join_stands shows_a stands_a stands_b g cell ≡ in_first (stands_a g.first cell)
    stands_first cell h = rw (lt-ltb cell (length a) h) refl

    stands_second : (cell : ℕ) → length a ≤ cell → join_stands shows_a stands_a stands_b g cell ≡ in_second (stands_b g.second (cell - length a))
    stands_second cell h = rw (le-ltb cell (length a) h) refl

    join_only : (place : JoinPlace P Q) → ((k : ℕ) → k < length bs → place ≡ join_stands shows_a stands_a stands_b g (s + k) → ⊥) →
        join_byte_at byte_at_a byte_at_b (join_put shows_a put_a put_b g s bs) place ≡ join_byte_at byte_at_a byte_at_b g place
    join_only (in_first place) out =
        first.only g.first (min s (length a)) front place ok_first
        (λ k h e.
        let l : length front ≡ min (min (length bs) (length a - s)) (length bs) = length-take (front_of a s (length bs)) bs in
        let here : min s (length a) + k ≡ s + k = omega arith in
        out k (omega arith) (ap in_first (e ∙ ap (stands_a g.first) here) ∙ sym (stands_first (s + k) (omega arith))))
    join_only (in_second place) out =
        second.only g.second (s - length a) back place ok_second
        (λ k h e.
        let l : length back ≡ length bs - min (length bs) (length a - s) = length-drop (front_of a s (length bs)) bs in
        let here : s - length a + k ≡ s + (length a - s + k) - length a = omega arith in
        out (length a - s + k) (omega arith) (ap in_second (e ∙ ap (stands_b g.second) here) ∙ sym (stands_second (s + (length a - s + k)) (omega arith))))

    join_stays : (cell : ℕ) → join_stands shows_a stands_a stands_b (join_put shows_a put_a put_b g s bs) cell ≡ join_stands shows_a stands_a stands_b g cell
    join_stays cell =
        let seam : length (shows_a (put_a g.first (min s (length a)) front)) ≡ length a =
        ap length (first.puts g.first (min s (length a)) front ok_first) ∙ length_overwritten a (min s (length a)) front in
        ap (λ (n : ℕ). cond (ltb cell n) (in_first (stands_a (put_a g.first (min s (length a)) front) cell)) (in_second (stands_b (put_b g.second (s - length a) back) (cell - n)))) seam
        ∙ at_both (λ (x : P) (y : Q). cond (ltb cell (length a)) (in_first x) (in_second y))
        (first.stays g.first (min s (length a)) front cell ok_first) (second.stays g.second (s - length a) back (cell - length a) ok_second)

  pub join_standing : Standing (join_shows shows_a shows_b) (join_put shows_a put_a put_b) (join_byte_at byte_at_a byte_at_b) (join_stands shows_a stands_a stands_b)
  join_standing = record {
    holds = join_holds;
    puts = join_puts;
    only = λ g s bs place ok. join_only g s bs ok place;
    stays = λ g s bs cell ok. join_stays g s bs ok cell;
  }
