-- The answers of a driver, and how it leaves its bus, by what it has found: the number of cells and the first protected one.
use Rattle.std.proofs.Common.{◌≡◌, ℕ, zero, suc, ◌+◌, ◌<◌, ◌≤◌, max, Bool, true, false, cond, ◌&&◌, nat_lt, List, [], ◌∷◌, ◌++◌, length, take, drop, Some, None, Option, Ok, Err, Result, sym, refl, ap, ◌∙◌, arith}
use Rattle.std.specs.Option.{is_some}
use Rattle.std.proofs.lemmas.List.{take-append-drop}
use Rattle.datasheet.specs.declared.registers.Registers.{Registers}
use Rattle.datasheet.specs.declared.refusal.Refusal.{Refusal}
use Rattle.datasheet.specs.declared.refusal.Refusal.TheVariants.{Fenced}
use Rattle.datasheet.specs.Protection.{first_protected}
use Rattle.spi_model.specs.Buses.{Bus}
use Rattle.board_model.specs.Results.{range_result, fence_result, write_result}
use Rattle.board_model.proofs.Cells.{range_fits}
use Rattle.board_model.specs.Layers.{patched}
use Rattle.spi_driver.specs.Drives.{image_of, with_memory, memory_by, after_write}
use Rattle.spi_driver.proofs.Cells.{blank_size, fence_accepted, write_accepted}

-- a test that decides whether there is a place
pub is_held : (w : Bool) (p : ℕ) (o : Option ℕ) (t : Bool) → o ≡ cond w (Some p) None → t ≡ is_some o → w ≡ t
is_held true p o t e h = sym (h ∙ ap is_some e)
is_held false p o t e h = sym (h ∙ ap is_some e)

module _ (b : Bus Registers) (size free start : ℕ) (sizes : size ≡ length (image_of b))
    (frees : b.fitted ≡ true → free ≡ first_protected b.sheet b.rec) where
  abbrev fp : ℕ
  fp = first_protected b.sheet b.rec

  -- a chip that has cells is fitted
  pub is_there : (n : ℕ) → 0 < n → start + n ≤ size → b.fitted ≡ true
  is_there n some inside = go b.fitted refl
    where
      go : (f : Bool) → b.fitted ≡ f → b.fitted ≡ true
      go true e = e
      go false e =
          let none = blank_size b e in
          absurd (omega arith)

  abbrev holds : ℕ → ℕ → Bool
  holds place count = nat_lt 0 count && nat_lt place (start + count)

  same_fence : (count : ℕ) → start + count ≤ size → holds free count ≡ holds fp count
  same_fence zero inside = refl
  same_fence (suc n) inside = ap (λ (k : ℕ). holds k (suc n)) (frees (is_there (suc n) (omega arith) inside))

  same_place : (count : ℕ) → start + count ≤ size → cond (holds free count) (Some (max start free)) None ≡ cond (holds fp count) (Some (max start fp)) None
  same_place zero inside = refl
  same_place (suc n) inside = ap (λ (k : ℕ). cond (holds k (suc n)) (Some (max start k)) None) (frees (is_there (suc n) (omega arith) inside))

  pub fence_answer : {u : Unit {0}} (count : ℕ) → Ok u ≡ range_result size start count →
      Ok (cond (holds free count) (Some (max start free)) None) ≡ fence_result (image_of b) start count
  fence_answer count lies =
      sym (fence_accepted b size start (sym sizes) count lies ∙ ap (λ (o : Option ℕ). Ok o) (sym (same_place count (range_fits size start count lies))))

  module _ {u : Unit {0}} (bytes : List ℕ) (lies : Ok u ≡ range_result size start (length bytes)) where
    result_is : write_result (image_of b) start bytes ≡ cond (holds free (length bytes)) (Err Fenced) (Ok tt)
    result_is =
        write_accepted b size start (sym sizes) bytes lies
        ∙ ap (λ (t : Bool). cond t (Err Fenced) (Ok tt)) (sym (same_fence (length bytes) (range_fits size start (length bytes) lies)))

    -- how the bus is left after a write with this result
    abbrev left_so : Result (Unit {0}) Refusal → Bus Registers
    left_so r = with_memory b (memory_by r b.rec.memory start bytes)

    module _ (w : holds free (length bytes) ≡ true) where
      pub fenced_result : Err Fenced ≡ write_result (image_of b) start bytes
      fenced_result = sym (result_is ∙ ap (λ (t : Bool). cond t (Err Fenced) (Ok tt)) w)

      pub fenced_left : b ≡ after_write b start bytes
      fenced_left = ap left_so fenced_result

    module _ (w : holds free (length bytes) ≡ false) where
      pub free_result : Ok tt ≡ write_result (image_of b) start bytes
      free_result = sym (result_is ∙ ap (λ (t : Bool). cond t (Err Fenced) (Ok tt)) w)

      -- the bytes were put into the cells
      pub written_left : (c d : Bus Registers) → c ≡ b → d ≡ with_memory c (patched c.rec.memory start bytes) → d ≡ after_write b start bytes
      written_left c d e h = h ∙ ap (λ (x : Bus Registers). with_memory x (patched x.rec.memory start bytes)) e ∙ ap left_so free_result

      -- there were none
      pub nothing_left : length bytes ≡ 0 → b ≡ after_write b start bytes
      nothing_left none = ap (with_memory b) (sym (unpatched bytes none)) ∙ ap left_so free_result
        where
          unpatched : (xs : List ℕ) → length xs ≡ 0 → patched b.rec.memory start xs ≡ b.rec.memory
          unpatched [] e = ap (λ (k : ℕ). take start b.rec.memory ++ drop k b.rec.memory) (omega arith) ∙ take-append-drop start b.rec.memory
          unpatched (x ∷ xs) e = absurd (omega arith)
