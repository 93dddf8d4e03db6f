-- What is read behind calls that were read before.
use Rattle.std.proofs.Common.{◌≡◌, ℕ, zero, suc, ◌+◌, ◌-◌, ◌<◌, ◌≤◌, List, [], ◌∷◌, ◌++◌, length, get_or, append-nil, Ok, Err, Result, Some, None, Option, sym, refl, ap, ◌∙◌, arith, length-drop}
use Rattle.datasheet.specs.declared.refusal.Refusal.{Refusal}
use Rattle.datasheet.specs.declared.refusal.Refusal.TheVariants.{UnknownKind, ShortStep}
use Rattle.script.specs.Steps.{Kinds, First, step, unknown, short, first, step_of}
use Rattle.script.specs.Reading.{Reading, reads, stops, follow, read_from, counted}
use Rattle.script.specs.Views.{ahead}

-- all calls of a row read in front of the rest
abbrev pub row_ahead : {C : Type 0} → List C → Reading C → Reading C
row_ahead [] k = k
row_ahead (call ∷ calls) k = ahead call (row_ahead calls k)

pub ahead_reads : {C : Type 0} (past calls : List C) → row_ahead past (reads calls) ≡ reads (past ++ calls)
ahead_reads [] calls = refl
ahead_reads (x ∷ past) calls = ap (ahead x) (ahead_reads past calls)

pub ahead_stops : {C : Type 0} (past : List C) (e : _) → row_ahead past (stops e) ≡ stops e
ahead_stops [] e = refl
ahead_stops (x ∷ past) e = ap (ahead x) (ahead_stops past e)

pub ahead_more : {C : Type 0} (past : List C) (call : C) (k : Reading C) → row_ahead (past ++ call ∷ []) k ≡ row_ahead past (ahead call k)
ahead_more [] call k = refl
ahead_more (x ∷ past) call k = ap (ahead x) (ahead_more past call k)

-- a script is shorter behind its first step
shorter_by : {C : Type 0} (body : Option ℕ) (by : List ℕ → C) (script : List ℕ) (call : C) (rest : List ℕ) →
    step call rest ≡ step_of body by script → length rest < length script
shorter_by None by script call rest e = grind arith
shorter_by (Some n) by script call rest e = grind (arith, length-drop)

shorter : {C : Type 0} (kinds : Kinds C) (script : List ℕ) (call : C) (rest : List ℕ) → step call rest ≡ first kinds script → length rest < length script
shorter kinds script = shorter_by (kinds.body (get_or script 0 0)) kinds.call script

module _ {C : Type 0} (kinds : Kinds C) where
  -- the calls read before stand in front of what is read from here on
  past_follow : (most : ℕ) (past : List C) (total place : ℕ) (p : First C) →
      ((calls : List C) (rest : List ℕ) → read_from kinds most calls total rest ≡ row_ahead calls (read_from kinds most [] total rest)) →
      follow p place (λ call rest. read_from kinds most (past ++ call ∷ []) total rest) ≡ row_ahead past (follow p place (λ call rest. read_from kinds most (call ∷ []) total rest))
  past_follow most past total place (step call rest) h =
      h (past ++ call ∷ []) rest ∙ ahead_more past call (read_from kinds most [] total rest) ∙ ap (row_ahead past) (sym (h (call ∷ []) rest))
  past_follow most past total place unknown h = sym (ahead_stops past _)
  past_follow most past total place short h = sym (ahead_stops past _)

  pub past_first : (most : ℕ) (past : List C) (total : ℕ) (rest : List ℕ) → read_from kinds most past total rest ≡ row_ahead past (read_from kinds most [] total rest)
  past_first zero past total rest = sym (ahead_reads past [] ∙ ap reads (append-nil past))
  past_first (suc most) past total [] = sym (ahead_reads past [] ∙ ap reads (append-nil past))
  past_first (suc most) past total (b ∷ rest) = past_follow most past total _ (first kinds (b ∷ rest)) (λ calls r. past_first most calls total r)

  -- a bound above the number of bytes changes nothing
  same_follow : (m n : ℕ) (past : List C) (total place : ℕ) (p : First C) →
      ((call : C) (rest : List ℕ) → step call rest ≡ p → read_from kinds m (past ++ call ∷ []) total rest ≡ read_from kinds n (past ++ call ∷ []) total rest) →
      follow p place (λ call rest. read_from kinds m (past ++ call ∷ []) total rest) ≡ follow p place (λ call rest. read_from kinds n (past ++ call ∷ []) total rest)
  same_follow m n past total place (step call rest) h = h call rest refl
  same_follow m n past total place unknown h = refl
  same_follow m n past total place short h = refl

  same_bound : (m n : ℕ) (past : List C) (total : ℕ) (rest : List ℕ) → length rest ≤ m → length rest ≤ n → read_from kinds m past total rest ≡ read_from kinds n past total rest
  same_bound zero zero past total [] h k = refl
  same_bound zero (suc n) past total [] h k = refl
  same_bound (suc m) zero past total [] h k = refl
  same_bound (suc m) (suc n) past total [] h k = refl
  same_bound zero n past total (b ∷ rest) h k = absurd (omega arith)
  same_bound (suc m) zero past total (b ∷ rest) h k = absurd (omega arith)
  same_bound (suc m) (suc n) past total (b ∷ rest) h k =
      same_follow m n past total _ (first kinds (b ∷ rest))
      (λ call r e. let l = shorter kinds (b ∷ rest) call r e in same_bound m n (past ++ call ∷ []) total r (omega (arith, l)) (omega (arith, l)))

  -- what the rest of a script of `total` bytes is read as
  abbrev pub rest_read : ℕ → List ℕ → Reading C
  rest_read total rest = read_from kinds (length rest) [] total rest

  -- a step that stands in front is read first
  pub step_ahead : (total : ℕ) (script rest : List ℕ) (call : C) → step call rest ≡ first kinds script → rest_read total script ≡ ahead call (rest_read total rest)
  step_ahead total [] rest call e = absurd (let l = shorter kinds [] call rest e in omega (arith, l))
  step_ahead total (b ∷ script) rest call e =
      sym (ap (λ (p : First C). follow p (total - length (b ∷ script)) (λ call rest. read_from kinds (length script) (call ∷ []) total rest)) e)
      ∙ past_first (length script) (call ∷ []) total rest
      ∙ ap (ahead call) (let l = shorter kinds (b ∷ script) call rest e in same_bound (length script) (length rest) [] total rest (omega (arith, l)) (omega arith))

  -- where none stands there, the reading stops
  pub unknown_first : (total : ℕ) (script : List ℕ) → unknown ≡ first kinds script → 1 ≤ length script → rest_read total script ≡ stops (UnknownKind (total - length script))
  unknown_first total [] e h = absurd (omega arith)
  unknown_first total (b ∷ rest) e h = sym (ap (λ (p : First C). follow p (total - length (b ∷ rest)) (λ call rest'. read_from kinds (length rest) (call ∷ []) total rest')) e)

  pub short_first : (total : ℕ) (script : List ℕ) → short ≡ first kinds script → 1 ≤ length script → rest_read total script ≡ stops (ShortStep (total - length script))
  short_first total [] e h = absurd (omega arith)
  short_first total (b ∷ rest) e h = sym (ap (λ (p : First C). follow p (total - length (b ∷ rest)) (λ call rest'. read_from kinds (length rest) (call ∷ []) total rest')) e)

-- what comes first of a script
pub ruleset coming = (step_ahead, unknown_first, short_first)

-- the number of steps, with n behind already
abbrev pub counted_from : {C : Type 0} → ℕ → Reading C → Result ℕ Refusal
counted_from n (reads calls) = Ok (n + length calls)
counted_from n (stops e) = Err e

pub counted_all : {C : Type 0} (k : Reading C) → counted_from 0 k ≡ counted k
counted_all (reads calls) = ap Ok (omega arith)
counted_all (stops e) = refl

pub counted_more : {C : Type 0} (n : ℕ) (call : C) (k : Reading C) → counted_from n (ahead call k) ≡ counted_from (n + 1) k
counted_more n call (reads calls) = ap Ok (omega arith)
counted_more n call (stops e) = refl

pub ruleset counting = (counted_all, counted_more)
