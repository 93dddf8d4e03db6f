-- Two images are equal exactly when no list of calls that can be sent tells them apart: size gives the length, and two calls
-- at a place its cell.
use Rattle.std.proofs.Common.{◌≡◌, ℕ, ◌+◌, ◌<◌, ◌≤◌, Bool, true, false, cond, [], ◌∷◌, length, get_or, All, Some, None, refl, ap, arith, le-leb}
use Rattle.std.proofs.lemmas.List.{ext_get_or, drop_more}
use Rattle.std.proofs.lemmas.List.Elements.{All-nil, All-cons}
use Rattle.datasheet.specs.Numbers.{MachineNumber}
use Rattle.datasheet.specs.Alike.{Alike}
use Rattle.board_model.specs.declared.Cell.{Cell}
use Rattle.board_model.specs.Images.{Image, most, inside, part, free}
use Rattle.board_model.specs.Calls.{BoardCall, size, fence, read, Sendable, place, bytes, answer, answers}
use Rattle.board_model.specs.Laws.{ToldApart}

abbrev none : Cell
none = free 0

part_one : (i : Image) (k : ℕ) → k < length i → part i k 1 ≡ get_or i k none ∷ []
part_one i k h = rw (drop_more i k none)

inside_one : (i : Image) (k : ℕ) → k < length i → inside i k 1 ≡ true
inside_one i k h = le-leb (k + 1) (length i) (omega arith)

read_one : (i : Image) (k : ℕ) → k < length i → answer i (read k 1) ≡ bytes ((get_or i k none).byte ∷ [])
read_one i k h = rw (inside_one i k h, part_one i k h)

fence_one : (i : Image) (k : ℕ) → k < length i → answer i (fence k 1) ≡ place (cond (get_or i k none).fenced (Some k) None)
fence_one i k h = rw (inside_one i k h, part_one i k h)

same_fence : (k : ℕ) (a b : Bool) → place (cond a (Some k) None) ≡ place (cond b (Some k) None) → a ≡ b
same_fence k true true e = refl
same_fence k false false e = refl
same_fence k true false e = cc
same_fence k false true e = cc

pub same_cell : (a b : Cell) → a.byte ≡ b.byte → a.fenced ≡ b.fenced → a ≡ b
same_cell a b e f i = record { byte = e i; fenced = f i }

-- one call alone, which can be sent
alone : (c : BoardCall) → Sendable c → All Sendable (c ∷ [])
alone c h = All-cons Sendable c [] h (All-nil Sendable)

-- the size, and a read and a fence question of one cell
module _ (i j : Image) (few : length i ≤ most) (same : Alike Sendable answers answers i j) where
  same_size : length i ≡ length j
  same_size = let h = same (size ∷ []) (alone size tt) in cc

  module _ (k : ℕ) (h : k < length i) where
    here : k < length j
    here = omega (arith, same_size)

    can : MachineNumber k × MachineNumber 1
    can = (omega arith, omega arith)

    same_byte : (get_or i k none).byte ≡ (get_or j k none).byte
    same_byte = let s = same (read k 1 ∷ []) (alone (read k 1) can) in cc (read_one i k h, read_one j k here)

    same_fenced : (get_or i k none).fenced ≡ (get_or j k none).fenced
    same_fenced =
        let s = same (fence k 1 ∷ []) (alone (fence k 1) can) in
        same_fence k (get_or i k none).fenced (get_or j k none).fenced (cc (fence_one i k h, fence_one j k here))

    same_here : get_or i k none ≡ get_or j k none
    same_here = same_cell (get_or i k none) (get_or j k none) same_byte same_fenced

pub told_apart : ToldApart
told_apart i j few many =
    (λ e calls can. ap (λ k. answers k calls) e, λ same. ext_get_or none i j (same_size i j few same) (same_here i j few same))
