-- A step found at the beginning of a script.
use Rattle.std.proofs.Common.{◌≡◌, ℕ, ◌+◌, ◌<◌, ◌≤◌, List, length, get_or, take, drop, Some, None, arith}
use Rattle.script.specs.Steps.{Kinds, step, unknown, short, first}

module _ {C : Type 0} (kinds : Kinds C) where
  pub whole_step : (body : ℕ) (script rest : List ℕ) (call : C) → kinds.body (get_or script 0 0) ≡ Some body → 1 + body ≤ length script →
      call ≡ kinds.call (take (1 + body) script) → rest ≡ drop (1 + body) script → step call rest ≡ first kinds script
  whole_step body script rest call kind long is behind = grind arith

  pub unknown_kind : (script : List ℕ) → kinds.body (get_or script 0 0) ≡ None → unknown ≡ first kinds script
  unknown_kind script kind = grind arith

  pub short_step : (body : ℕ) (script : List ℕ) → kinds.body (get_or script 0 0) ≡ Some body → length script < 1 + body → short ≡ first kinds script
  short_step body script kind few = grind arith
