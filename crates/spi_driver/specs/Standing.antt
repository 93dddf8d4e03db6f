-- The facts that a driver gives of its cells and of what stands below it, proved: code cites its own crate's specs alone.
use Rattle.std.proofs.Common.{◌≡◌, ℕ, zero, suc, ◌+◌, ◌^◌, ◌≤◌, Bool, true, false, cond, List, [], length, Some, Ok, sym, refl, ap, ◌∙◌, arith, leb-true, true-eqb}
use Rattle.std.specs.Prelude.{slice_get}
use Rattle.datasheet.specs.declared.registers.Registers.{Registers}
use Rattle.datasheet.specs.declared.sheet.Sheet.{Sheet}
use Rattle.datasheet.specs.Sheets.{density_of, cells, fits}
use Rattle.datasheet.specs.Memory.{SoundMemory}
use Rattle.datasheet.specs.Records.{Record}
use Rattle.datasheet.specs.Protection.{first_protected}
use Rattle.spi_model.specs.Buses.{Bus}
use Rattle.board_model.specs.Images.{Image, most, overwritten}
use Rattle.board_model.specs.Results.{write_result}
use Rattle.board_model.specs.Beneath.{byte_of, Standing}
use Rattle.board_model.specs.Layers.{patched}
use Rattle.board_model.proofs.Standing.{accepted_write}
use Rattle.board_model.proofs.Plains.{patched_only}
use Rattle.board_model.proofs.Fenced.{cells_length, cells_bytes, cells_patched}
use Rattle.spi_driver.specs.Drives.{chip_image, image_of}
use Rattle.spi_driver.specs.Beneath.{DriverBeneath, driver_shows, driver_put, driver_byte_at}

-- the image, by whether the chip is fitted
abbrev shown : Bool → Sheet → Record → Image
shown f s r = cond f (chip_image s r) []

-- ## At most 1,048,576 cells

power_small : (d : ℕ) → d ≤ 5 → 2 ^ (10 + d) ≤ 32768
power_small zero h = omega arith
power_small (suc zero) h = omega arith
power_small (suc (suc zero)) h = omega arith
power_small (suc (suc (suc zero))) h = omega arith
power_small (suc (suc (suc (suc zero)))) h = omega arith
power_small (suc (suc (suc (suc (suc zero))))) h = omega arith
power_small (suc (suc (suc (suc (suc (suc d)))))) h = absurd (omega arith)

pub few_by : (f : Bool) (s : Sheet) (r : Record) → f ≡ fits s r.memory → length (shown f s r) ≤ most
few_by false s r e = omega arith
few_by true s r e =
    let small = power_small (density_of s.t) s.known.1 in
    let long : length r.memory ≡ cells s = true-eqb (length r.memory) (cells s) e in
    let many = cells_length (first_protected s r) r.memory in
    omega arith

pub driver_few : (b : Bus Registers) → SoundMemory b.sheet b.fitted b.rec.memory → length (image_of b) ≤ most
driver_few b sound = few_by b.fitted b.sheet b.rec sound.fit

-- ## What stands below

holds_by : (f : Bool) (s : Sheet) (r : Record) (cell byte : ℕ) → byte_of (shown f s r) cell ≡ Some byte → slice_get r.memory cell ≡ Some byte
holds_by true s r cell byte e = ap (λ (bs : List ℕ). slice_get bs cell) (sym (cells_bytes (first_protected s r) r.memory)) ∙ e
holds_by false s r cell byte e = absurd (cc)

-- no more cells are shown than the memory has bytes
shown_long : (f : Bool) (s : Sheet) (r : Record) → length (shown f s r) ≤ length r.memory
shown_long true s r = let many = cells_length (first_protected s r) r.memory in omega arith
shown_long false s r = omega arith

put_fits : (f : Bool) (s : Sheet) (r : Record) (start : ℕ) (bytes : List ℕ) → write_result (shown f s r) start bytes ≡ Ok tt → start + length bytes ≤ length r.memory
put_fits f s r start bytes ok =
    let lies = leb-true (start + length bytes) (length (shown f s r)) (accepted_write (shown f s r) start bytes ok).0 in
    let long = shown_long f s r in
    omega arith

puts_by : (f : Bool) (s : Sheet) (r : Record) (start : ℕ) (bytes : List ℕ) → start + length bytes ≤ length r.memory →
    shown f s (record r { memory = patched r.memory start bytes }) ≡ overwritten (shown f s r) start bytes
puts_by true s r start bytes h = cells_patched (first_protected s r) start r.memory bytes h
puts_by false s r zero bytes h = refl
puts_by false s r (suc start) bytes h = refl

pub driver_standing : {L : Type 0} → Standing {G = DriverBeneath L} driver_shows driver_put driver_byte_at (λ _ cell. cell)
driver_standing = record {
  holds = λ g cell byte e. holds_by g.bus.fitted g.bus.sheet g.bus.rec cell byte e;
  puts = λ g start bytes ok. puts_by g.bus.fitted g.bus.sheet g.bus.rec start bytes (put_fits g.bus.fitted g.bus.sheet g.bus.rec start bytes ok);
  only = λ g start bytes place ok out. patched_only g.bus.rec.memory start bytes place (put_fits g.bus.fitted g.bus.sheet g.bus.rec start bytes ok) out;
  stays = λ g start bytes cell ok. refl;
}
