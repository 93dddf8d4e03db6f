-- A board run leaves the fences, the bytes of the fenced cells, and the cells that no write names.
use Rattle.std.proofs.Common.{◌≡◌, ℕ, zero, suc, ◌+◌, ◌*◌, ◌<◌, ◌≤◌, Bool, true, false, cond, leb, List, [], ◌∷◌, ◌++◌, length, take, drop, Some, None, Option, Ok, Err, Result, inl, inr, sym, refl, ap, ◌∙◌, subst, arith}
use Rattle.std.proofs.lemmas.List.{take-append-drop}
use Rattle.datasheet.specs.declared.refusal.Refusal.{Refusal}
use Rattle.datasheet.specs.declared.refusal.Refusal.TheVariants.{OutOfRange, ShortBuffer}
use Rattle.board_model.specs.declared.Cell.{Cell}
use Rattle.board_model.specs.Images.{Image, inside, part, first_fenced, fence_in, overlaid, overwritten}
use Rattle.board_model.specs.Results.{unless_fenced, if_accepted, write_result}
use Rattle.board_model.specs.Calls.{BoardCall, size, fence, read, write, BoardAnswer, cells, place as told-place, bytes as told-bytes, done, refused, answer_of, answer, after, run}
use Rattle.datasheet.proofs.Machines.{keeps}
use Rattle.script.specs.Steps.{board_kinds}
use Rattle.script.specs.Reading.{Reading, reads, stops, read_script}
use Rattle.script.specs.Machines.{replies, board_machine}
use Rattle.script.specs.Runs.{outcome_of, playing, refusing}
use Rattle.script.specs.Kept.{FencedKept, KeepsFenced, NamedBy, unless_refused, accepted, KeepsUnnamed}

kept_same : (i : Image) → FencedKept i i
kept_same [] = tt
kept_same (c ∷ i) = (refl, (λ h. refl), kept_same i)

kept_on : (a b c : Image) → FencedKept a b → FencedKept b c → FencedKept a c
kept_on [] [] [] h k = tt
kept_on [] [] (z ∷ c) h k = absurd k
kept_on [] (y ∷ b) c h k = absurd h
kept_on (x ∷ a) [] c h k = absurd h
kept_on (x ∷ a) (y ∷ b) [] h k = absurd k
kept_on (x ∷ a) (y ∷ b) (z ∷ c) (f, bytes, h) (g, more, k) = (g ∙ f, (λ (e : x.fenced ≡ true). more (f ∙ e) ∙ bytes e), kept_on a b c h k)

kept_behind : (front a b : Image) → FencedKept a b → FencedKept (front ++ a) (front ++ b)
kept_behind [] a b h = h
kept_behind (c ∷ front) a b h = (refl, (λ e. refl), kept_behind front a b h)

-- of a range with no fence
free_first : (f : Bool) (at : ℕ) (o : Option ℕ) → cond f (Some at) o ≡ None → (f ≡ false) × (o ≡ None)
free_first false at o e = (refl, e)
free_first true at o e = absurd (grind arith)

kept_overlaid : (at : ℕ) (cs : List Cell) (bytes : List ℕ) → first_fenced at (take (length bytes) cs) ≡ None → FencedKept cs (overlaid cs bytes)
kept_overlaid at [] bytes e = tt
kept_overlaid at (c ∷ cs) [] e = kept_same (c ∷ cs)
kept_overlaid at (c ∷ cs) (b ∷ bytes) e =
    let free = free_first c.fenced at (first_fenced (at + 1) (take (length bytes) cs)) e in
    (refl, (λ (h : c.fenced ≡ true). absurd (bools (sym h ∙ free.0))), kept_overlaid (at + 1) cs bytes free.1)
  where
    bools : true ≡ false → ⊥
    bools h = grind arith

kept_written : (i : Image) (start : ℕ) (bytes : List ℕ) (lies : Bool) (o : Option ℕ) → o ≡ fence_in i start (length bytes) →
    FencedKept i (if_accepted (cond lies (unless_fenced o) (Err OutOfRange)) (overwritten i start bytes) i)
kept_written i start bytes false o e = kept_same i
kept_written i start bytes true (Some place) e = kept_same i
kept_written i start bytes true None e =
    subst (λ (j : Image). FencedKept j (overwritten i start bytes)) (take-append-drop start i)
    (kept_behind (take start i) (drop start i) (overlaid (drop start i) bytes) (kept_overlaid start (drop start i) bytes (sym e)))

kept_after : (i : Image) (c : BoardCall) → FencedKept i (after i c)
kept_after i size = kept_same i
kept_after i (fence start count) = kept_same i
kept_after i (read start count) = kept_same i
kept_after i (write start bytes) = kept_written i start bytes (inside i start (length bytes)) (fence_in i start (length bytes)) refl

kept_run : (i : Image) (calls : List BoardCall) → FencedKept i (run i calls)
kept_run i calls = keeps after (λ j rest. FencedKept i j) (λ j c rest h. kept_on i j (after j c) h (kept_after j c)) i calls (kept_same i)

left_kept : (i : Image) (buffer : List ℕ) (k : Reading BoardCall) → FencedKept i (outcome_of board_kinds board_machine k i buffer).left
left_kept i buffer (stops e) = kept_same i
left_kept i buffer (reads calls) = go (leb (9 * length calls) (length buffer))
  where
    go : (f : Bool) →
        FencedKept i (cond f (playing board_kinds board_machine i calls (replies board_machine i calls) buffer) (refusing ShortBuffer i buffer)).left
    go true = kept_run i calls
    go false = kept_same i

pub keeps_fenced : KeepsFenced
keeps_fenced i script buffer = left_kept i buffer (read_script board_kinds script)

-- a place that a write does not name
unnamed_overlaid : (cs : List Cell) (bytes : List ℕ) (place : ℕ) → (place < length bytes → ⊥) → take 1 (drop place (overlaid cs bytes)) ≡ take 1 (drop place cs)
unnamed_overlaid [] bytes place h = refl
unnamed_overlaid (c ∷ cs) [] place h = refl
unnamed_overlaid (c ∷ cs) (b ∷ bytes) zero h = absurd (h (omega arith))
unnamed_overlaid (c ∷ cs) (b ∷ bytes) (suc place) h = unnamed_overlaid cs bytes place (λ k. h (omega (arith, k)))

unnamed_overwritten : (start : ℕ) (i : Image) (bytes : List ℕ) (place : ℕ) → ((start ≤ place) × (place < start + length bytes) → ⊥) →
    take 1 (drop place (overwritten i start bytes)) ≡ take 1 (drop place i)
unnamed_overwritten zero i bytes place h = unnamed_overlaid i bytes place (λ k. h (omega arith, omega (arith, k)))
unnamed_overwritten (suc start) [] bytes place h = refl
unnamed_overwritten (suc start) (c ∷ i) bytes zero h = refl
unnamed_overwritten (suc start) (c ∷ i) bytes (suc place) h =
    unnamed_overwritten start i bytes place (λ k. h (omega (arith, k.0), omega (arith, k.1)))

-- what the calls behind name is named with the first call too
pub more_named : (a : BoardAnswer) (c : BoardCall) (rest : List BoardCall) (place : ℕ) → NamedBy rest place → NamedBy (unless_refused a c rest) place
more_named (cells n) c rest place h = inr h
more_named (told-place p) c rest place h = inr h
more_named (told-bytes bs) c rest place h = inr h
more_named done c rest place h = inr h
more_named (refused n) c rest place h = h

unnamed_after : (i : Image) (c : BoardCall) (rest : List BoardCall) (at : ℕ) → (NamedBy (unless_refused (answer i c) c rest) at → ⊥) → part (after i c) at 1 ≡ part i at 1
unnamed_after i size rest at h = refl
unnamed_after i (fence start count) rest at h = refl
unnamed_after i (read start count) rest at h = refl
unnamed_after i (write start bs) rest at h = go (write_result i start bs) h
  where
    go : (r : Result (Unit {0}) Refusal) → (NamedBy (unless_refused (answer_of (λ _. done) r) (write start bs) rest) at → ⊥) →
        part (if_accepted r (overwritten i start bs) i) at 1 ≡ part i at 1
    go (Ok u) out = unnamed_overwritten start i bs at (λ k. out (inl k))
    go (Err e) out = refl

unnamed_run : (i : Image) (calls : List BoardCall) (at : ℕ) → (NamedBy (accepted i calls) at → ⊥) → part (run i calls) at 1 ≡ part i at 1
unnamed_run i [] at h = refl
unnamed_run i (c ∷ calls) at h =
    unnamed_run (after i c) calls at (λ n. h (more_named (answer i c) c (accepted (after i c) calls) at n))
    ∙ unnamed_after i c (accepted (after i c) calls) at h

pub keeps_unnamed : KeepsUnnamed
keeps_unnamed i script buffer calls place is h =
    ap (λ (k : Reading BoardCall). part (outcome_of board_kinds board_machine k i buffer).left place 1) is
    ∙ go (leb (9 * length calls) (length buffer))
  where
    go : (f : Bool) →
        part (cond f (playing board_kinds board_machine i calls (replies board_machine i calls) buffer) (refusing ShortBuffer i buffer)).left place 1
        ≡ part i place 1
    go true = unnamed_run i calls place h
    go false = refl

pub ruleset fences = (keeps_fenced, keeps_unnamed)
