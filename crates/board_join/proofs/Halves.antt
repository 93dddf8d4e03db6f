-- What the two boards of a join answer for their parts of a range that lies in the join, and what the join answers by it.
use Rattle.std.proofs.Common.{◌≡◌, ℕ, ◌+◌, ◌-◌, ◌<◌, ◌≤◌, min, true, false, List, ◌++◌, length, take, drop, is_some, Some, None, Ok, Err, Option, Result, sym, refl, ap, ◌∙◌, arith}
use Rattle.std.proofs.lemmas.List.{length-take, map-append}
use Rattle.std.specs.Option.{option_map, option_or, MatchOption, IsSomeAnd}
use Rattle.datasheet.specs.declared.refusal.Refusal.{Refusal}
use Rattle.datasheet.specs.declared.refusal.Refusal.TheVariants.{Fenced}
use Rattle.board_model.specs.declared.Cell.{Cell}
use Rattle.board_model.specs.Images.{Image, most, inside, part, bytes_of, fence_in}
use Rattle.board_model.specs.Results.{range_result, fence_result, read_result, read_into, unless_fenced, write_result, if_accepted}
use Rattle.board_model.specs.Layers.{joined, front_of}
use Rattle.board_model.proofs.Cells.{accepted_by, refused_by, range_inside, option_mapped}
use Rattle.board_join.specs.declared.Cut.{Cut}
use Rattle.board_join.specs.Joins.{cut_of, cut_result}
use Rattle.board_model.proofs.Joins.{at_both, in_both, in_first, in_second, part_join, fence_join, fenced_below, write_inside, length_front, length_back}

-- ## Accepted or refused

ok_is : {X : Type 0} {x y : X} → ◌≡◌ {A = Result X Refusal} (Ok x) (Ok y) → x ≡ y
ok_is e = cc

never : {X : Type 0} {x : Refusal} {y : X} → ◌≡◌ {A = Result X Refusal} (Err x) (Ok y) → ⊥
never e = let z : ◌≡◌ {A = ℕ} 0 1 = cc in omega arith

fence_inside : (i : Image) (s n : ℕ) (o : Option ℕ) → inside i s n ≡ true → o ≡ fence_in i s n → Ok o ≡ fence_result i s n
fence_inside i s n o t e = simp (t, e)

read_inside : (i : Image) (s n : ℕ) → inside i s n ≡ true → read_result i s n ≡ Ok tt
read_inside i s n t = simp t

decided : {r q : Result (Unit {0}) Refusal} (new old : Image) → r ≡ q → if_accepted r new old ≡ if_accepted q new old
decided new old e = ap (λ (x : Result (Unit {0}) Refusal). if_accepted x new old) e

-- ## A first fence, of one part or the other

or_some : (o p : Option ℕ) → true ≡ is_some o → option_or o p ≡ o
or_some None p e = let z : ◌≡◌ {A = ℕ} 0 1 = cc in absurd (omega arith)
or_some (Some x) p e = refl

or_none : (o p : Option ℕ) → false ≡ is_some o → option_or o p ≡ p
or_none None p e = refl
or_none (Some x) p e = let z : ◌≡◌ {A = ℕ} 0 1 = cc in absurd (omega arith)

-- a fence in neither, or in one
none_told : (o p : Option ℕ) → false ≡ is_some (option_or o p) → (o ≡ None) × (p ≡ None)
none_told None None e = (refl, refl)
none_told None (Some x) e = absurd (cc)
none_told (Some x) p e = absurd (cc)

fence_refuses : (l : ℕ) (o p : Option ℕ) → true ≡ is_some (option_or o p) → unless_fenced (option_or o (option_map (λ (j : ℕ). l + j) p)) ≡ Err Fenced
fence_refuses l None None e = absurd (cc)
fence_refuses l None (Some x) e = refl
fence_refuses l (Some y) p e = refl

-- ## A range that lies in the join, where a' and b' are what the boards show when they are asked

pub record Parts (a' b' a b : Image) (s n : ℕ) (cut : Cut) : Type 0 where
  pub first : a' ≡ a
  pub second : b' ≡ b
  pub lies : inside (joined a b) s n ≡ true
  pub parted : cut ≡ cut_of a s n

-- what `cut` tells if the range was not refused by the size of the join, or was
pub cut_done : {u : Unit {0}} {size seam at ahead : ℕ} (a b : Image) (s n : ℕ) → size ≡ length (joined a b) → Ok u ≡ range_result size s n →
    seam ≡ length a → at ≡ min s seam → ahead ≡ min n (seam - at) →
    Ok (record { seam = seam; front = record { start = at; count = ahead }; back = record { start = s - at; count = n - ahead } }) ≡ cut_result a b s n
cut_done {u} {size} {seam} {at} {ahead} a b s n e told x y z =
    let t = range_inside size s n told in
    let y' : at ≡ min s (length a) = omega arith in
    let z' : ahead ≡ front_of a s n = omega arith in
    let v : s - at ≡ s - length a = omega arith in
    let w : n - ahead ≡ n - (length a - s) = omega arith in
    let same : ◌≡◌ {A = Cut} (record { seam = seam; front = record { start = at; count = ahead }; back = record { start = s - at; count = n - ahead } }) (cut_of a s n) =
    (λ i. record { seam = x i; front = record { start = y' i; count = z' i }; back = record { start = v i; count = w i } }) in
    ap Ok same ∙ rw (rw e at t)

pub cut_refused : {x : Refusal} {size : ℕ} (a b : Image) (s n : ℕ) → size ≡ length (joined a b) → Err x ≡ range_result size s n → Err x ≡ cut_result a b s n
cut_refused a b s n e told = let t = refused_by (inside (joined a b) s n) tt (rw e at told) in rw (t.0, t.1)

pub parts : {a' b' a b : Image} {s n : ℕ} {cut : Cut} → Ok cut ≡ cut_result a b s n → a' ≡ a → b' ≡ b → Parts a' b' a b s n cut
parts {a = a} {b = b} {s = s} {n = n} told p q = let t = accepted_by (inside (joined a b) s n) told in record { first = p; second = q; lies = t.0; parted = t.1 }

-- so it is with boards that show the same later
later : {a'' b'' a' b' a b : Image} {s n : ℕ} {cut : Cut} → Parts a' b' a b s n cut → a'' ≡ a' → b'' ≡ b' → Parts a'' b'' a b s n cut
later h e f = record { first = e ∙ h.first; second = f ∙ h.second; lies = h.lies; parted = h.parted }

-- ## The fence question

module _ {a' b' a b : Image} {s n : ℕ} {cut : Cut} (h : Parts a' b' a b s n cut) where
  first_result : fence_result a' cut.front.start cut.front.count ≡ Ok (fence_in a (min s (length a)) (front_of a s n))
  first_result = simp (h.first, h.parted, in_first a s n)

  second_result : fence_result b' cut.back.start cut.back.count ≡ Ok (fence_in b (s - length a) (n - (length a - s)))
  second_result = simp (h.second, h.parted, in_second a b s n h.lies)

  -- the second board does not refuse
  pub second_told : {x : Refusal} → Err x ≡ fence_result b' cut.back.start cut.back.count → ⊥
  second_told e = never (e ∙ second_result)

  -- a fence in the front answers for the range
  pub fence_ahead : {o : Option ℕ} → Ok o ≡ fence_result a' cut.front.start cut.front.count → true ≡ is_some o → Ok o ≡ fence_result (joined a b) s n
  fence_ahead {o} x some =
      let m = option_map (λ (j : ℕ). length a + j) (fence_in b (s - length a) (n - (length a - s))) in
      fence_inside (joined a b) s n o h.lies (sym (fence_join a b s n h.lies ∙ ap (λ (v : Option ℕ). option_or v m) (sym (ok_is (x ∙ first_result))) ∙ or_some o m some))

  -- the first fence by what both boards answer
  fence_said : {o r : Option ℕ} → Ok o ≡ fence_result a' cut.front.start cut.front.count → Ok r ≡ fence_result b' cut.back.start cut.back.count →
      fence_in (joined a b) s n ≡ option_or o (option_map (λ (j : ℕ). length a + j) r)
  fence_said x y =
      fence_join a b s n h.lies
      ∙ at_both (λ (v w : Option ℕ). option_or v (option_map (λ (j : ℕ). length a + j) w)) (sym (ok_is (x ∙ first_result))) (sym (ok_is (y ∙ second_result)))

  -- without a fence in the front the back answers, with the seam added to its place
  pub fence_behind : {o r here : Option ℕ} (P : ℕ → ℕ → Type 0) → ((place at : ℕ) → P place at → at ≡ cut.seam + place) →
      Ok o ≡ fence_result a' cut.front.start cut.front.count → false ≡ is_some o → Ok r ≡ fence_result b' cut.back.start cut.back.count →
      MatchOption r (here ≡ None) (λ place. IsSomeAnd here (P place)) → Ok here ≡ fence_result (joined a b) s n
  fence_behind {o} {r} {here} P f x none y m =
      let e = fence_said x y ∙ or_none o (option_map (λ (j : ℕ). length a + j) r) none in
      fence_inside (joined a b) s n here h.lies
      (option_mapped P (λ (j : ℕ). cut.seam + j) r here f m ∙ ap (λ (c : Cut). option_map (λ (j : ℕ). c.seam + j) r) h.parted ∙ sym e)

  -- a place of the second board lies in the join
  pub place_few : {r : Option ℕ} → Ok r ≡ fence_result b' cut.back.start cut.back.count → (at : ℕ) → r ≡ Some at → cut.seam + at < most
  place_few y at is =
      let e = fenced_below (s - length a) (part b (s - length a) (n - (length a - s))) at (sym (ok_is (y ∙ second_result)) ∙ is) in
      let l : length (part b (s - length a) (n - (length a - s))) ≤ n - (length a - s) = simp length-take (omega arith) in
      let i = (in_both a b s n h.lies).0 in
      let m = ap (λ (c : Cut). c.seam) h.parted in
      omega arith

-- ## A read into a buffer

filled : (i : Image) (s n : ℕ) (buffer : List ℕ) → length buffer ≡ n → inside i s n ≡ true → read_into i s buffer ≡ bytes_of (part i s n)
filled i s n buffer e t = simp (e, t)

module _ {a' b' a b : Image} {s : ℕ} {cut : Cut} {front back : List ℕ} (buffer : List ℕ) (h : Parts a' b' a b s (length buffer) cut)
    (f : front ≡ take cut.front.count buffer) (k : back ≡ drop cut.front.count buffer) where
  -- the second board does not refuse
  pub read_answered : read_result b' cut.back.start (length back) ≡ read_result (joined a b) s (length buffer)
  read_answered =
      let i : inside b' cut.back.start (length back) ≡ true = simp (k, h.second, h.parted, length_back a s buffer, in_second a b s (length buffer) h.lies) in
      read_inside b' cut.back.start (length back) i ∙ sym (read_inside (joined a b) s (length buffer) h.lies)

  -- both parts of the buffer
  pub read_join : {head tail : List ℕ} → head ≡ read_into a' cut.front.start front → tail ≡ read_into b' cut.back.start back → head ++ tail ≡ read_into (joined a b) s buffer
  read_join p q =
      let n = length buffer in
      let u : read_into a' cut.front.start front ≡ bytes_of (part a (min s (length a)) (front_of a s n)) =
      rw (f, h.first, h.parted) (filled a (min s (length a)) (front_of a s n) (take (front_of a s n) buffer) (length_front a s buffer) (in_first a s n)) in
      let v : read_into b' cut.back.start back ≡ bytes_of (part b (s - length a) (n - (length a - s))) =
      rw (k, h.second, h.parted) (filled b (s - length a) (n - (length a - s)) (drop (front_of a s n) buffer) (length_back a s buffer) (in_second a b s n h.lies)) in
      at_both (λ (x y : List ℕ). x ++ y) (p ∙ u) (q ∙ v)
      ∙ sym (filled (joined a b) s n buffer refl h.lies ∙ ap bytes_of (part_join a b s n (in_both a b s n h.lies).0) ∙ map-append (λ (c : Cell). c.byte) (part a (min s (length a)) (front_of a s n)) (part b (s - length a) (n - (length a - s))))

-- ## A write of bytes

-- a range without a fence
pub record Free (a' b' a b : Image) (s n : ℕ) (cut : Cut) : Type 0 where
  pub parts : Parts a' b' a b s n cut
  pub ahead : fence_in a (min s (length a)) (front_of a s n) ≡ None
  pub behind : fence_in b (s - length a) (n - (length a - s)) ≡ None

-- such is one of which neither board told a fence, where a'' and b'' are what they show after that
pub free : {a'' b'' a' b' a b : Image} {s n : ℕ} {cut : Cut} {o r : Option ℕ} → Parts a' b' a b s n cut → a'' ≡ a' → b'' ≡ b' →
    Ok o ≡ fence_result a' cut.front.start cut.front.count → Ok r ≡ fence_result b' cut.back.start cut.back.count → false ≡ is_some (option_or o r) → Free a'' b'' a b s n cut
free h e f x y none =
    let nones = none_told _ _ none in
    record {
      parts = later h e f;
      ahead = sym (ok_is (x ∙ first_result h)) ∙ nones.0;
      behind = sym (ok_is (y ∙ second_result h)) ∙ nones.1;
    }

module _ {a' b' a b : Image} {s : ℕ} {cut : Cut} {front back : List ℕ} (bs : List ℕ) (h : Free a' b' a b s (length bs) cut)
    (f : front ≡ take cut.front.count bs) (k : back ≡ drop cut.front.count bs) where
  pub first_put : write_result a' cut.front.start front ≡ Ok tt
  first_put =
      rw (f, h.parts.first, h.parts.parted)
      (write_inside a (min s (length a)) (front_of a s (length bs)) (take (front_of a s (length bs)) bs) (length_front a s bs) (in_first a s (length bs)) h.ahead)

  pub second_put : write_result b' cut.back.start back ≡ Ok tt
  second_put =
      rw (k, h.parts.second, h.parts.parted)
      (write_inside b (s - length a) (length bs - (length a - s)) (drop (front_of a s (length bs)) bs) (length_back a s bs) (in_second a b s (length bs) h.parts.lies) h.behind)

  pub both_put : write_result (joined a b) s bs ≡ Ok tt
  both_put =
      write_inside (joined a b) s (length bs) bs refl h.parts.lies
      (fence_join a b s (length bs) h.parts.lies ∙ at_both (λ (v w : Option ℕ). option_or v (option_map (λ (j : ℕ). length a + j) w)) h.ahead h.behind)

  -- the second board does not refuse
  pub write_answered : write_result b' cut.back.start back ≡ write_result (joined a b) s bs
  write_answered = second_put ∙ sym both_put

-- a fence in either part refuses the write
module _ {a' b' a b : Image} {s : ℕ} {cut : Cut} {o r : Option ℕ} (bs : List ℕ) (h : Parts a' b' a b s (length bs) cut)
    (x : Ok o ≡ fence_result a' cut.front.start cut.front.count) (y : Ok r ≡ fence_result b' cut.back.start cut.back.count) (some : true ≡ is_some (option_or o r)) where
  pub write_refused : write_result (joined a b) s bs ≡ Err Fenced
  write_refused =
      let m : write_result (joined a b) s bs ≡ unless_fenced (fence_in (joined a b) s (length bs)) = simp h.lies in
      m ∙ ap unless_fenced (fence_said h x y) ∙ fence_refuses (length a) o r some
