-- What stands below the two boards of a join after a write.
use Rattle.std.proofs.Common.{◌≡◌, ℕ, ◌-◌, min, List, length, take, drop, Err, Result, sym, ap, ap₂, ◌∙◌}
use Rattle.datasheet.specs.declared.refusal.Refusal.{Refusal}
use Rattle.datasheet.specs.declared.refusal.Refusal.TheVariants.{Fenced}
use Rattle.board_model.specs.Images.{Image}
use Rattle.board_model.specs.Results.{write_result, if_accepted}
use Rattle.board_model.specs.Layers.{joined, front_of}
use Rattle.board_model.specs.JoinBeneath.{JoinBeneath, join_put}
use Rattle.board_model.proofs.Joins.{at_both}
use Rattle.board_join.specs.declared.Cut.{Cut}
use Rattle.board_join.proofs.Halves.{Free, first_put, second_put, both_put}

-- after their parts of a write that was accepted
module _ {a' b' a b : Image} {s : ℕ} {cut : Cut} {front back : List ℕ} (bs : List ℕ) (h : Free a' b' a b s (length bs) cut)
    (f : front ≡ take cut.front.count bs) (k : back ≡ drop cut.front.count bs) where
  put_first : {G : Type 0} (put : G → ℕ → List ℕ → G) {g g' new : G} → g' ≡ g →
      new ≡ if_accepted (write_result a' cut.front.start front) (put g' cut.front.start front) g' →
      new ≡ put g (min s (length a)) (take (front_of a s (length bs)) bs)
  put_first {G} put {g} {g'} same left =
      left
      ∙ ap (λ (r : Result (Unit {0}) Refusal). if_accepted r (put g' cut.front.start front) g') (first_put bs h f k)
      ∙ ap (λ (x : G). put x cut.front.start front) same
      ∙ ap₂ (put g) (ap (λ (c : Cut). c.front.start) h.parts.parted) (f ∙ ap (λ (c : Cut). take c.front.count bs) h.parts.parted)

  put_second : {G : Type 0} (put : G → ℕ → List ℕ → G) {g g' new : G} → g' ≡ g →
      new ≡ if_accepted (write_result b' cut.back.start back) (put g' cut.back.start back) g' →
      new ≡ put g (s - length a) (drop (front_of a s (length bs)) bs)
  put_second {G} put {g} {g'} same left =
      left
      ∙ ap (λ (r : Result (Unit {0}) Refusal). if_accepted r (put g' cut.back.start back) g') (second_put bs h f k)
      ∙ ap (λ (x : G). put x cut.back.start back) same
      ∙ ap₂ (put g) (ap (λ (c : Cut). c.back.start) h.parts.parted) (k ∙ ap (λ (c : Cut). drop c.front.count bs) h.parts.parted)

  pub both_left : {F S : Type 0} (shows : F → Image) (put_a : F → ℕ → List ℕ → F) (put_b : S → ℕ → List ℕ → S) {x x' new : F} {y y' more : S} →
      a ≡ shows x → x' ≡ x → y' ≡ y →
      new ≡ if_accepted (write_result a' cut.front.start front) (put_a x' cut.front.start front) x' →
      more ≡ if_accepted (write_result b' cut.back.start back) (put_b y' cut.back.start back) y' →
      ◌≡◌ {A = JoinBeneath F S} (record { first = new; second = more })
      (if_accepted (write_result (joined a b) s bs) (join_put shows put_a put_b (record { first = x; second = y }) s bs) (record { first = x; second = y }))
  both_left {F} {S} shows put_a put_b {x} {y = y} shown same-x same-y left-x left-y =
      at_both (λ (p : F) (q : S). record { first = p; second = q }) (put_first put_a same-x left-x) (put_second put_b same-y left-y)
      ∙ ap
      (λ (i : Image).
      record {
        first = put_a x (min s (length i)) (take (front_of i s (length bs)) bs);
        second = put_b y (s - length i) (drop (front_of i s (length bs)) bs);
      })
      shown
      ∙ sym (ap
      (λ (r : Result (Unit {0}) Refusal). if_accepted r (join_put shows put_a put_b (record { first = x; second = y }) s bs) (record { first = x; second = y }))
      (both_put bs h f k))

-- and after one that was refused
pub both_kept : {F S : Type 0} {r : Result (Unit {0}) Refusal} (after : JoinBeneath F S) {x x' : F} {y y' : S} → r ≡ Err Fenced → x' ≡ x → y' ≡ y →
    ◌≡◌ {A = JoinBeneath F S} (record { first = x'; second = y' }) (if_accepted r after (record { first = x; second = y }))
both_kept {F} {S} after {x} {y = y} refused same-x same-y =
    at_both (λ (p : F) (q : S). record { first = p; second = q }) same-x same-y
    ∙ sym (ap (λ (r : Result (Unit {0}) Refusal). if_accepted r after (record { first = x; second = y })) refused)
