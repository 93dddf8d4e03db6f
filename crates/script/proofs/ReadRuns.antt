-- The run over a reading board leaves the image, and comes to what the run over any board of the same bytes comes to.
use Rattle.std.proofs.Common.{◌≡◌, ℕ, ◌*◌, Bool, true, false, cond, leb, List, [], ◌∷◌, map, length, get_or, All, Some, refl, ap, ◌∙◌, subst, sym, arith}
use Rattle.std.specs.List.{flat_map}
use Rattle.std.proofs.lemmas.List.Elements.{All-nil, All-cons, All-head, All-tail}
use Rattle.datasheet.specs.declared.refusal.Refusal.TheVariants.{ShortBuffer}
use Rattle.board_model.specs.Images.{Image}
use Rattle.board_model.specs.Calls.{BoardCall, BoardAnswer, reads_only, answers}
use Rattle.board_model.proofs.SizesAndReads.{ReadsOnly, left_same, same_answers}
use Rattle.script.specs.Steps.{board_body, board_call, board_kinds, read_body, read_kinds}
use Rattle.script.specs.Reading.{Reading, reads, stops, read_script}
use Rattle.script.specs.Replies.{board_answer_bytes}
use Rattle.script.specs.Machines.{replies, board_machine}
use Rattle.script.specs.Laws.{AreSteps}
use Rattle.script.specs.Runs.{Outcome, refusing, playing, outcome_of, read_outcome}
use Rattle.script.specs.ReadRuns.{RunsAsBoard}
use Rattle.script.proofs.Exact.{reads_exactly}

-- a kind that the run knows: the board run knows it too, and its call is a size or a read
known : (kind body : ℕ) → read_body kind ≡ Some body → board_body kind ≡ Some body
known kind body knows = grind arith

only_call : (bytes : List ℕ) (body : ℕ) → read_body (get_or bytes 0 0) ≡ Some body → reads_only (board_call bytes) ≡ true
only_call bytes body knows = grind arith

are_board : (steps : List (List ℕ)) → AreSteps read_kinds steps → AreSteps board_kinds steps
are_board [] are = tt
are_board (s ∷ steps) ((body, knows, long), are) = ((body, known (get_or s 0 0) body knows, long), are_board steps are)

only_calls : (steps : List (List ℕ)) → AreSteps read_kinds steps → All ReadsOnly (map board_call steps)
only_calls [] are = All-nil ReadsOnly
only_calls (s ∷ steps) ((body, knows, long), are) = All-cons ReadsOnly (board_call s) (map board_call steps) (only_call s body knows) (only_calls steps are)

-- a script that the run reads is read by the board run, as the same sizes and reads
read_by_both : (script : List ℕ) (calls : List BoardCall) → read_script read_kinds script ≡ reads calls → (read_script board_kinds script ≡ reads calls) × All ReadsOnly calls
read_by_both script calls e =
    let (steps, are, is, stand) = ((reads_exactly read_kinds).whole script calls).0 e in
    (((reads_exactly board_kinds).whole script calls).1 (steps, are_board steps are, is, stand), subst (All ReadsOnly) (sym stand) (only_calls steps are))

only_kind : (bytes : List ℕ) (body : ℕ) → board_body (get_or bytes 0 0) ≡ Some body → reads_only (board_call bytes) ≡ true → read_body (get_or bytes 0 0) ≡ Some body
only_kind bytes body knows only = grind arith

are_read : (steps : List (List ℕ)) → AreSteps board_kinds steps → All ReadsOnly (map board_call steps) → AreSteps read_kinds steps
are_read [] are only = tt
are_read (s ∷ steps) ((body, knows, long), are) only = ((body, only_kind s body knows (All-head ReadsOnly (board_call s) (map board_call steps) only), long), are_read steps are (All-tail ReadsOnly (board_call s) (map board_call steps) only))

read_back : (script : List ℕ) (calls : List BoardCall) → read_script board_kinds script ≡ reads calls → All ReadsOnly calls → read_script read_kinds script ≡ reads calls
read_back script calls e only =
    let (steps, are, is, stand) = ((reads_exactly board_kinds).whole script calls).0 e in
    ((reads_exactly read_kinds).whole script calls).1 (steps, are_read steps are (subst (All ReadsOnly) stand only), is, stand)

-- what is left of a run of sizes and reads
left_by_reads : (i : Image) (calls : List BoardCall) (buffer : List ℕ) → All ReadsOnly calls → (outcome_of board_kinds board_machine (reads calls) i buffer).left ≡ i
left_by_reads i calls buffer only = go (leb (9 * length calls) (length buffer))
  where
    go : (fits : Bool) → (cond fits (playing board_kinds board_machine i calls (replies board_machine i calls) buffer) (refusing ShortBuffer i buffer)).left ≡ i
    go true = left_same i calls only
    go false = refl

leaves : (i : Image) (script buffer : List ℕ) → (read_outcome i script buffer).left ≡ i
leaves i script buffer = go (read_script read_kinds script) refl
  where
    go : (k : Reading BoardCall) → read_script read_kinds script ≡ k → (outcome_of board_kinds board_machine k i buffer).left ≡ i
    go (stops e) is = refl
    go (reads calls) is = left_by_reads i calls buffer (read_by_both script calls is).1

-- the same calls, answered alike
module _ (i j : Image) (calls : List BoardCall) (buffer : List ℕ) (alike : answers i calls ≡ answers j calls) where
  abbrev came : Image → Bool → Outcome Image
  came k fits = cond fits (playing board_kinds board_machine k calls (replies board_machine k calls) buffer) (refusing ShortBuffer k buffer)

  same_result : (fits : Bool) → (came i fits).result ≡ (came j fits).result
  same_result false = refl
  same_result true = ap (λ (told : List BoardAnswer). (playing board_kinds board_machine i calls (flat_map board_answer_bytes told) buffer).result) alike

  same_buffer : (fits : Bool) → (came i fits).buffer ≡ (came j fits).buffer
  same_buffer false = refl
  same_buffer true = ap (λ (told : List BoardAnswer). (playing board_kinds board_machine i calls (flat_map board_answer_bytes told) buffer).buffer) alike

pub runs_as_board : RunsAsBoard
runs_as_board = record {
  known = λ script calls. (read_by_both script calls, λ both. read_back script calls both.0 both.1);
  leaves = leaves;
  as_board = λ i j script buffer calls same is.
      let both = read_by_both script calls is in
      let alike = same_answers i j same calls both.1 in
      let fits = leb (9 * length calls) (length buffer) in
      let here = ap (λ (k : Reading BoardCall). outcome_of board_kinds board_machine k i buffer) is in
      let there = ap (λ (k : Reading BoardCall). outcome_of board_kinds board_machine k j buffer) both.0 in (
        ap (λ (o : Outcome Image). o.result) here ∙ same_result i j calls buffer alike fits ∙ sym (ap (λ (o : Outcome Image). o.result) there),
        ap (λ (o : Outcome Image). o.buffer) here ∙ same_buffer i j calls buffer alike fits ∙ sym (ap (λ (o : Outcome Image). o.buffer) there),
        ap (λ (o : Outcome Image). o.left) there ∙ left_by_reads j calls buffer both.1,
      );
}
