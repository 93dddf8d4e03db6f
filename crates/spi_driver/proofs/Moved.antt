-- READ and WRITE sessions of a bus over a fitted chip that is calm.
use Rattle.std.proofs.Common.{◌≡◌, ℕ, ◌+◌, ◌*◌, ◌/◌, ◌%◌, ◌<◌, ◌≤◌, Bool, true, false, not, cond, List, [], ◌∷◌, length, take, drop, slice_index, None, sym, ap, ◌∙◌, ap₂, true-eqb, arith}
use Rattle.datasheet.specs.declared.registers.Registers.{Registers}
use Rattle.datasheet.specs.Kept.{bounded}
use Rattle.datasheet.specs.Sheets.{cells}
use Rattle.datasheet.specs.Protection.{first_protected}
use Rattle.datasheet.specs.Memory.{SoundMemory}
use Rattle.spi_model.specs.Buses.{Bus, becoming, deselected}
use Rattle.board_model.specs.Layers.{patched}
use Rattle.spi_driver.specs.Exchanges.{all_exchanged, all_read}
use Rattle.spi_driver.specs.Drives.{calm, calmed, with_memory}
use Rattle.spi_driver.proofs.Asked.{is_rested}
use Rattle.spi_driver.proofs.WholeSessions.{rested, sent, cells_read, cells_left, cells_written, enabled, disabled}

-- the two bytes of an address
split : (start : ℕ) → 256 * (start / 256) + start % 256 ≡ start
split start = omega arith

high_small : (start : ℕ) → start < 65536 → start / 256 < 256
high_small start h = omega arith

low_small : (start : ℕ) → start % 256 < 256
low_small start = omega arith

module _ (b : Bus Registers) (h : b ≡ calm b) (e : b.fitted ≡ true) (m : SoundMemory b.sheet b.fitted b.rec.memory) (start : ℕ) (small : start < 65536)
    (xs : List ℕ) (bytes : (i : ℕ) → slice_index xs i < 256) where
  size : length b.rec.memory ≡ cells b.sheet
  size = true-eqb (length b.rec.memory) (cells b.sheet) (sym (sym m.fit ∙ e))

  abbrev rest : Bool → Bus Registers
  rest w = rested b.sheet b.wp b.rec.memory b.rec.stored w

  so_held : (memory : List ℕ) → becoming b (calmed b.rec memory) None ≡ with_memory b memory
  so_held memory =
      ap (λ (f : Bool). becoming b (record (cond f (calmed b.rec b.rec.memory) b.rec) { memory = memory }) None) (sym e)
      ∙ ap (λ (d : Bus Registers). with_memory d memory) (sym h)

  -- after the op-code and the address
  abbrev addressed : Bus Registers → ℕ → Bus Registers
  addressed d code = sent d (code ∷ start / 256 ∷ start % 256 ∷ [])

  module _ (inside : start + length xs ≤ length b.rec.memory) where
    fits : 256 * (start / 256) + start % 256 + length xs ≤ cells b.sheet
    fits =
        let a = split start in
        let c = size in
        omega arith

    pub read_filled : all_read bounded (addressed b 0x03) xs ≡ take (length xs) (drop start b.rec.memory)
    read_filled =
        ap (λ (d : Bus Registers). all_read bounded (addressed d 0x03) xs) (is_rested b h e)
        ∙ cells_read b.sheet b.wp b.rec.memory b.rec.stored size m.bytes (start / 256) (start % 256) xs (high_small start small) (low_small start) bytes fits
        ∙ ap (λ (k : ℕ). take (length xs) (drop k b.rec.memory)) (split start)

    pub read_left : deselected bounded (all_exchanged bounded (addressed b 0x03) xs) ≡ b
    read_left =
        ap (λ (d : Bus Registers). deselected bounded (all_exchanged bounded (addressed d 0x03) xs)) (is_rested b h e)
        ∙ cells_left b.sheet b.wp b.rec.memory b.rec.stored size m.bytes (start / 256) (start % 256) xs (high_small start small) (low_small start) bytes fits
        ∙ sym (is_rested b h e)

  module _ (free : start + length xs ≤ first_protected b.sheet b.rec) where
    fits_free : 256 * (start / 256) + start % 256 + length xs ≤ first_protected b.sheet b.rec
    fits_free =
        let a = split start in
        omega arith

    -- the latch is set, the bytes are written, and the latch is cleared
    pub write_left :
        deselected bounded (sent (deselected bounded (all_exchanged bounded (addressed (deselected bounded (sent b (0x06 ∷ []))) 0x02) xs)) (0x04 ∷ []))
        ≡ with_memory b (patched b.rec.memory start xs)
    write_left =
        let end = λ (d : Bus Registers). deselected bounded (sent (deselected bounded (all_exchanged bounded (addressed (deselected bounded (sent d (0x06 ∷ []))) 0x02) xs)) (0x04 ∷ [])) in
        let mid = λ (d : Bus Registers). deselected bounded (sent (deselected bounded (all_exchanged bounded (addressed d 0x02) xs)) (0x04 ∷ [])) in
        ap end (is_rested b h e)
        ∙ ap mid (enabled b.sheet b.wp b.rec.memory b.rec.stored false)
        ∙ ap (λ (d : Bus Registers). deselected bounded (sent d (0x04 ∷ [])))
        (cells_written b.sheet b.wp b.rec.memory b.rec.stored size (start / 256) (start % 256) xs (high_small start small) (low_small start) bytes fits_free)
        ∙ disabled b.sheet b.wp (patched b.rec.memory (256 * (start / 256) + start % 256) xs) b.rec.stored (not b.sheet.marks.drop)
        ∙ ap₂ (λ (k : ℕ) (f : Bool). record { sheet = b.sheet; wp = b.wp; fitted = f; rec = calmed b.rec (patched b.rec.memory k xs); session = None }) (split start) (sym e)
        ∙ so_held (patched b.rec.memory start xs)
