-- What a shield shows, by the image below it.
use Rattle.std.proofs.Common.{◌≡◌, ℕ, ◌+◌, ◌≤◌, Bool, true, false, cond, leb, List, [], ◌∷◌, length, is_some, Some, None, Ok, Err, Option, Result, sym, refl, ap, ◌∙◌, arith, leb-true}
use Rattle.std.proofs.lemmas.List.{length-take, length-drop}
use Rattle.datasheet.specs.declared.refusal.Refusal.{Refusal}
use Rattle.datasheet.specs.declared.refusal.Refusal.TheVariants.{Fenced}
use Rattle.board_model.specs.declared.Cell.{Cell}
use Rattle.board_model.specs.declared.Range.{Range}
use Rattle.board_model.specs.Images.{Image, inside, part, bytes_of, first_fenced, fence_in}
use Rattle.board_model.specs.Results.{range_result, fence_result, read_result, read_into, unless_fenced, write_result}
use Rattle.board_model.specs.Layers.{covered, shielded_from, shielded}
use Rattle.board_model.proofs.Cells.{accepted_by, refused_by}
use Rattle.board_shield.specs.Shields.{first_covered, earlier}
use Rattle.board_model.proofs.Shields.{length_shield, part_shield, bytes_shield, inside_shield}
use Rattle.board_shield.proofs.Tables.{cover_late, earlier_step}
use Rattle.std.proofs.Math.Bool.{or_comm}

module _ (rs : List Range) where
  -- ## The first fence: the earlier of the shield's and the board's

  fence_late : (at f : ℕ) (cs : List Cell) → first_fenced at cs ≡ Some f → at ≤ f
  fence_late at f [] e = let z : ◌≡◌ {A = ℕ} 0 1 = cc in absurd (omega arith)
  fence_late at f (c ∷ cs) e = go c.fenced e (fence_late (at + 1) f cs)
    where
      go : (b : Bool) → cond b (Some at) (first_fenced (at + 1) cs) ≡ Some f → (first_fenced (at + 1) cs ≡ Some f → at + 1 ≤ f) → at ≤ f
      go true e h = let z : at ≡ f = cc in omega arith
      go false e h = let k = h e in omega arith

  pub fence_shield : (at : ℕ) (cs : List Cell) → first_fenced at (shielded_from at rs cs) ≡ earlier (first_covered rs at (length cs)) (first_fenced at cs)
  fence_shield at [] = refl
  fence_shield at (c ∷ cs) =
      rw (or_comm c.fenced (covered rs at))
      (earlier_step at (covered rs at) c.fenced _ (first_covered rs (at + 1) (length cs)) (first_fenced (at + 1) cs)
      (λ f e. let k = cover_late rs (length cs) (at + 1) f e in omega arith) (λ f e. let k = fence_late (at + 1) f cs e in omega arith) (fence_shield (at + 1) cs))

  -- ## The calls

  fence_in_range : (i : Image) (s n : ℕ) → inside i s n ≡ true → fence_in (shielded rs i) s n ≡ earlier (first_covered rs s n) (fence_in i s n)
  fence_in_range i s n t =
      let h = leb-true (s + n) (length i) t in
      let l : length (part i s n) ≡ n = simp (length-take, length-drop) (omega arith) in
      ap (first_fenced s) (part_shield rs i s n) ∙ fence_shield s (part i s n) ∙ ap (λ (k : ℕ). earlier (first_covered rs s k) (fence_in i s n)) l

  -- the fence question, by what the board below answered
  pub fence_answer : (i : Image) (s n : ℕ) (found : Option ℕ) → Ok found ≡ fence_result i s n →
      Ok (earlier (first_covered rs s n) found) ≡ fence_result (shielded rs i) s n
  fence_answer i s n found e =
      let t = accepted_by (inside i s n) e in
      rw (inside_shield rs i s n, t.0, fence_in_range i s n t.0) (ap (λ (o : Option ℕ). Ok (earlier (first_covered rs s n) o)) t.1)

  pub fence_refused : (i : Image) (s n : ℕ) (x : Refusal) → ◌≡◌ {A = Result (Option ℕ) Refusal} (Err x) (fence_result i s n) →
      ◌≡◌ {A = Result (Option ℕ) Refusal} (Err x) (fence_result (shielded rs i) s n)
  fence_refused i s n x e = let t = refused_by (inside i s n) (fence_in i s n) e in rw (inside_shield rs i s n, t.0, t.1) refl

  pub read_same : (i : Image) (s n : ℕ) → read_result i s n ≡ read_result (shielded rs i) s n
  read_same i s n = rw (inside_shield rs i s n) refl

  pub into_same : (i : Image) (s : ℕ) (buffer : List ℕ) → read_into i s buffer ≡ read_into (shielded rs i) s buffer
  into_same i s buffer =
      let n = length buffer in
      let b : bytes_of (part (shielded rs i) s n) ≡ bytes_of (part i s n) = ap bytes_of (part_shield rs i s n) ∙ bytes_shield rs s (part i s n) in
      rw (inside_shield rs i s n, b) refl

  pub size_same : (i : Image) → length i ≡ length (shielded rs i)
  size_same i = sym (length_shield rs 0 i)

  -- a write, by what the shield answers to the fence question: it refuses, or the board below decides
  pub write_refused : (i : Image) (s : ℕ) (bs : List ℕ) (x : Refusal) → Err x ≡ fence_result (shielded rs i) s (length bs) → write_result (shielded rs i) s bs ≡ Err x
  write_refused i s bs x told = let t = refused_by (inside (shielded rs i) s (length bs)) (fence_in (shielded rs i) s (length bs)) told in rw (t.0, t.1) refl

  pub fenced : {o : Option ℕ} (i : Image) (s : ℕ) (bs : List ℕ) → Ok o ≡ fence_result (shielded rs i) s (length bs) → true ≡ is_some o →
      write_result (shielded rs i) s bs ≡ Err Fenced
  fenced i s bs told some =
      let t = accepted_by (inside (shielded rs i) s (length bs)) told in
      rw t.0 (go (fence_in (shielded rs i) s (length bs)) (some ∙ ap is_some t.1))
    where
      go : (f : Option ℕ) → true ≡ is_some f → unless_fenced f ≡ Err Fenced
      go None e = absurd (cc)
      go (Some x) e = refl

  -- a write, by the range and by the shield's own ranges: they refuse, or the board below decides
  pub outside : (i : Image) (s : ℕ) (bs : List ℕ) (size : ℕ) (x : Refusal) → size ≡ length i → ◌≡◌ {A = Result (Unit {0}) Refusal} (Err x) (range_result size s (length bs)) →
      write_result (shielded rs i) s bs ≡ Err x
  outside i s bs size x is told =
      let t = refused_by (leb (s + length bs) size) tt told in
      write_refused i s bs x (rw (inside_shield rs i s (length bs), sym is, t.0, t.1) refl)

  pub own_fenced : (i : Image) (s : ℕ) (bs : List ℕ) → inside i s (length bs) ≡ true → is_some (first_covered rs s (length bs)) ≡ true →
      write_result (shielded rs i) s bs ≡ Err Fenced
  own_fenced i s bs t some =
      let n = length bs in
      let told : Ok (fence_in (shielded rs i) s n) ≡ fence_result (shielded rs i) s n = rw (inside_shield rs i s n, t) refl in
      fenced i s bs told (go (first_covered rs s n) (fence_in i s n) some ∙ ap is_some (sym (fence_in_range i s n t)))
    where
      go : (x y : Option ℕ) → is_some x ≡ true → true ≡ is_some (earlier x y)
      go None y e = absurd (cc)
      go (Some x) None e = refl
      go (Some x) (Some y) e = refl

  pub passed : (i : Image) (s : ℕ) (bs : List ℕ) → inside i s (length bs) ≡ true → is_some (first_covered rs s (length bs)) ≡ false →
      write_result (shielded rs i) s bs ≡ write_result i s bs
  passed i s bs t none =
      rw (inside_shield rs i s (length bs), t, fence_in_range i s (length bs) t) (go (first_covered rs s (length bs)) (fence_in i s (length bs)) none)
    where
      go : (x y : Option ℕ) → is_some x ≡ false → unless_fenced (earlier x y) ≡ unless_fenced y
      go None y e = refl
      go (Some x) y e = absurd (cc)
