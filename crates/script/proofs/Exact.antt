-- A script is read as calls exactly if it is a row of whole steps that stand for them, and refused exactly for its first fault.
use Rattle.std.proofs.Common.{◌≡◌, ℕ, zero, suc, ◌+◌, ◌-◌, ◌≤◌, Bool, true, false, leb, List, [], ◌∷◌, ◌++◌, map, length, get_or, take, drop, Some, None, Option, sym, refl, ap, ◌∙◌, subst, append_assoc, append-nil, arith, length-append, length-drop}
use Rattle.std.specs.List.{concat}
use Rattle.std.proofs.lemmas.List.Folds.{concat-append}
use Rattle.std.proofs.lemmas.List.{take-append-drop, length-take-le, get_or-take, get_or_append_left}
use Rattle.std.proofs.Math.Seq.{take-append_seam, drop-append_seam}
use Rattle.datasheet.specs.declared.refusal.Refusal.{Refusal}
use Rattle.datasheet.specs.declared.refusal.Refusal.TheVariants.{UnknownKind, ShortStep}
use Rattle.script.specs.Steps.{Kinds, step, first}
use Rattle.script.specs.Reading.{Reading, reads, stops, read_script}
use Rattle.script.specs.Views.{ahead}
use Rattle.script.specs.Laws.{IsStep, AreSteps, UnknownAt, ShortAt, ReadsExactly}
use Rattle.script.proofs.Ahead.{rest_read, row_ahead, ahead_reads, ahead_stops, step_ahead, unknown_first, short_first}
use Rattle.script.proofs.Found.{whole_step, unknown_kind, short_step}

module _ {C : Type 0} (kinds : Kinds C) where
  -- what a whole step in front is read as
  first_step : (s rest : List ℕ) → IsStep kinds s → step (kinds.call s) rest ≡ first kinds (s ++ rest)
  first_step s rest (body, knows, long) =
      whole_step kinds body (s ++ rest) rest (kinds.call s)
      (ap kinds.body (get_or_append_left s rest 0 0 (omega (arith, long))) ∙ knows)
      (omega (arith, long, length-append s rest))
      (ap kinds.call (sym (take-append_seam s rest) ∙ ap (λ (n : ℕ). take n (s ++ rest)) long))
      (sym (drop-append_seam s rest) ∙ ap (λ (n : ℕ). drop n (s ++ rest)) long)

  -- whole steps at the front are read as their calls
  row_read : (total : ℕ) (steps : List (List ℕ)) (rest : List ℕ) → AreSteps kinds steps →
      rest_read kinds total (concat steps ++ rest) ≡ row_ahead (map kinds.call steps) (rest_read kinds total rest)
  row_read total [] rest are = refl
  row_read total (s ∷ steps) rest (is, are) =
      ap (rest_read kinds total) (append_assoc s (concat steps) rest)
      ∙ step_ahead kinds total (s ++ (concat steps ++ rest)) (concat steps ++ rest) (kinds.call s) (first_step s (concat steps ++ rest) is)
      ∙ ap (ahead (kinds.call s)) (row_read total steps rest are)

  read_behind : (all rest : List ℕ) (steps : List (List ℕ)) → AreSteps kinds steps → all ≡ concat steps ++ rest →
      read_script kinds all ≡ row_ahead (map kinds.call steps) (rest_read kinds (length all) rest)
  read_behind all rest steps are e = ap (rest_read kinds (length all)) e ∙ row_read (length all) steps rest are

  -- a fault behind whole steps stops the reading
  fault_read : (all rest : List ℕ) (steps : List (List ℕ)) (e : Refusal) → AreSteps kinds steps → rest_read kinds (length all) rest ≡ stops e → all ≡ concat steps ++ rest →
      read_script kinds all ≡ stops e
  fault_read all rest steps e are is at = read_behind all rest steps are at ∙ ap (row_ahead (map kinds.call steps)) is ∙ ahead_stops (map kinds.call steps) e

  place_is : (all rest : List ℕ) (steps : List (List ℕ)) (place : ℕ) → all ≡ concat steps ++ rest → place ≡ length (concat steps) → length all - length rest ≡ place
  place_is all rest steps place e at = omega (arith, ap length e, length-append (concat steps) rest)

  -- what a script is, for each way to read it
  data Is (script : List ℕ) : Reading C → Type 0 where
    whole : (steps : List (List ℕ)) → AreSteps kinds steps → script ≡ concat steps → Is script (reads (map kinds.call steps))
    odd : {place : ℕ} → UnknownAt kinds script place → Is script (stops (UnknownKind place))
    cut : {place : ℕ} → ShortAt kinds script place → Is script (stops (ShortStep place))

  is_whole : {script : List ℕ} {calls : List C} → Is script (reads calls) → (steps : List (List ℕ)) × AreSteps kinds steps × (script ≡ concat steps) × (calls ≡ map kinds.call steps)
  is_whole (whole steps are e) = (steps, are, e, refl)

  is_odd : {script : List ℕ} {place : ℕ} → Is script (stops (UnknownKind place)) → UnknownAt kinds script place
  is_odd (odd h) = h

  is_cut : {script : List ℕ} {place : ℕ} → Is script (stops (ShortStep place)) → ShortAt kinds script place
  is_cut (cut h) = h

  -- what it is decides how it is read
  is_read : {script : List ℕ} {r : Reading C} → Is script r → read_script kinds script ≡ r
  is_read {script} (whole steps are e) =
      read_behind script [] steps are (e ∙ sym (append-nil (concat steps))) ∙ ahead_reads (map kinds.call steps) [] ∙ ap reads (append-nil (map kinds.call steps))
  is_read {script} (odd {place} (steps, kind, rest, are, e, at, knows)) =
      fault_read script (kind ∷ rest) steps (UnknownKind place) are
      (unknown_first kinds (length script) (kind ∷ rest) (unknown_kind kinds (kind ∷ rest) knows) (omega arith)
      ∙ ap (λ (n : ℕ). stops (UnknownKind n)) (place_is script (kind ∷ rest) steps place e at)) e
  is_read {script} (cut {place} (steps, kind, rest, body, are, e, at, knows, few)) =
      fault_read script (kind ∷ rest) steps (ShortStep place) are
      (short_first kinds (length script) (kind ∷ rest) (short_step kinds body (kind ∷ rest) knows (omega (arith, few))) (omega arith)
      ∙ ap (λ (n : ℕ). stops (ShortStep n)) (place_is script (kind ∷ rest) steps place e at)) e

  -- every script is one of the three
  row_more : (past : List (List ℕ)) (s rest : List ℕ) → concat past ++ (s ++ rest) ≡ concat (past ++ s ∷ []) ++ rest
  row_more past s rest = rw (concat-append past (s ∷ []), append-nil s, append_assoc (concat past) s rest)

  are_more : (past : List (List ℕ)) (s : List ℕ) → AreSteps kinds past → IsStep kinds s → AreSteps kinds (past ++ s ∷ [])
  are_more [] s are is = (is, tt)
  are_more (t ∷ past) s (is_t, are) is = (is_t, are_more past s are is)

  take_first : (n kind : ℕ) (rest : List ℕ) → get_or (take (1 + n) (kind ∷ rest)) 0 0 ≡ kind
  take_first n kind rest = get_or-take (1 + n) (kind ∷ rest) 0 0 (omega arith)

  abbrev Known : List ℕ → Type 0
  Known script = (r : Reading C) × Is script r

  -- a step more, if the script has it whole
  with_body : {script : List ℕ} (past : List (List ℕ)) (kind : ℕ) (rest : List ℕ) → AreSteps kinds past → script ≡ concat past ++ kind ∷ rest →
      (body : ℕ) → kinds.body kind ≡ Some body → (long : Bool) → leb (1 + body) (length (kind ∷ rest)) ≡ long →
      ((past' : List (List ℕ)) (rest' : List ℕ) → AreSteps kinds past' → script ≡ concat past' ++ rest' → length rest' ≤ length rest → Known script) → Known script
  with_body past kind rest are e body knows false few on = (_, cut (past, kind, rest, body, are, e, refl, knows, grind arith))
  with_body past kind rest are e body knows true long on =
      let s = take (1 + body) (kind ∷ rest) in
      let more = drop (1 + body) (kind ∷ rest) in
      on (past ++ s ∷ []) more
      (are_more past s are (body, ap kinds.body (take_first body kind rest) ∙ knows, length-take-le (1 + body) (kind ∷ rest) (grind arith)))
      (e ∙ ap (λ (t : List ℕ). concat past ++ t) (sym (take-append-drop (1 + body) (kind ∷ rest))) ∙ row_more past s more)
      (omega (arith, length-drop (1 + body) (kind ∷ rest)))

  by_kind : {script : List ℕ} (past : List (List ℕ)) (kind : ℕ) (rest : List ℕ) → AreSteps kinds past → script ≡ concat past ++ kind ∷ rest →
      (o : Option ℕ) → kinds.body kind ≡ o →
      ((past' : List (List ℕ)) (rest' : List ℕ) → AreSteps kinds past' → script ≡ concat past' ++ rest' → length rest' ≤ length rest → Known script) → Known script
  by_kind past kind rest are e None knows on = (_, odd (past, kind, rest, are, e, refl, knows))
  by_kind past kind rest are e (Some body) knows on = with_body past kind rest are e body knows (leb (1 + body) (length (kind ∷ rest))) refl on

  what_is : {script : List ℕ} (most : ℕ) (past : List (List ℕ)) (rest : List ℕ) → AreSteps kinds past → script ≡ concat past ++ rest → length rest ≤ most → Known script
  what_is most past [] are e few = (_, whole past are (e ∙ append-nil (concat past)))
  what_is zero past (kind ∷ rest) are e few = absurd (omega arith)
  what_is (suc most) past (kind ∷ rest) are e few =
      by_kind past kind rest are e (kinds.body kind) refl (λ past' rest' are' e' few'. what_is most past' rest' are' e' (omega (arith, few, few')))

  read_is : (script : List ℕ) {r : Reading C} → read_script kinds script ≡ r → Is script r
  read_is script e = let w = what_is (length script) [] script tt refl (omega arith) in subst (Is script) (sym (is_read w.1) ∙ e) w.1

  pub reads_exactly : ReadsExactly kinds
  reads_exactly =
      record {
        whole = λ script calls. ((λ e. is_whole (read_is script e)), (λ h. is_read (subst (λ (cs : List C). Is script (reads cs)) (sym h.3) (whole h.0 h.1 h.2))));
        unknown = λ script place. ((λ e. is_odd (read_is script e)), (λ h. is_read (odd h)));
        short = λ script place. ((λ e. is_cut (read_is script e)), (λ h. is_read (cut h)));
      }
