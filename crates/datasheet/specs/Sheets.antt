-- The sheet: what one kind of chip is.
use Rattle.std.specs.Prelude.{◌≡◌, ℕ, ◌+◌, ◌-◌, ◌*◌, ◌%◌, ◌^◌, Bool, true, false, ◌&&◌, List, length, Ok, Err, Result, ◌==◌, nat_le}
use Rattle.datasheet.specs.declared.refusal.Refusal.{Refusal}
use Rattle.datasheet.specs.declared.refusal.Refusal.TheVariants.{NoSheet}
use Rattle.datasheet.specs.declared.sheet.Sheet.{Sheet}
use Rattle.datasheet.specs.declared.sheet.Marks.{Marks}

-- d, the low five bits of the third ID byte t
abbrev pub density_of : ℕ → ℕ
density_of t = t % 32

-- whether there is a sheet with this third ID byte: d is from 1 to 5
abbrev pub is_sheet : ℕ → Bool
is_sheet t = nat_le 1 (density_of t) && nat_le (density_of t) 5

-- a part's third ID byte: the upper three bits are the caller's, the low five are the part's d
abbrev pub third_byte : ℕ → ℕ → ℕ
third_byte upper d = upper - upper % 32 + d

-- the number of cells of the chip, 2^p with p = 10 + d
abbrev pub cells : Sheet → ℕ
cells s = 2 ^ (10 + density_of s.t)

-- whether a memory fits the chip: it has exactly as many bytes as the chip has cells
abbrev pub fits : Sheet → List ℕ → Bool
fits s memory = length memory == cells s

-- the ID: the bytes 04h, 7Fh, t and f, as one number of 32 bits
abbrev pub identity : Sheet → ℕ
identity s = ((0x04 * 256 + 0x7F) * 256 + s.t) * 256 + s.f

-- the marks of the three parts
abbrev pub marks64vy : Marks
marks64vy = record { drop = false; sleep = true; fast = false }

abbrev pub marks128ty : Marks
marks128ty = record { drop = false; sleep = true; fast = false }

abbrev pub marks256b : Marks
marks256b = record { drop = true; sleep = false; fast = true }

-- making a sheet: r is the sheet with these ID bytes and marks, or the refusal where there is none
abbrev pub Made : ℕ → ℕ → Marks → Result Sheet Refusal → Type 0
Made t f marks (Ok s) = (is_sheet t ≡ true) × (s.t ≡ t) × (s.f ≡ f) × (s.marks ≡ marks)
Made t f marks (Err e) = (is_sheet t ≡ false) × (e ≡ NoSheet)
