-- What was done with a chip before.
use Rattle.std.specs.Prelude.{◌≡◌, ℕ, true, List, All}
use Rattle.datasheet.specs.declared.sheet.Sheet.{Sheet}
use Rattle.datasheet.specs.Numbers.{Byte}
use Rattle.datasheet.specs.Sheets.{fits}
use Rattle.datasheet.specs.Records.{stored_bits}
use Rattle.datasheet.specs.Chips.{Keeping}
use Rattle.datasheet.specs.Calls.{ChipState, ChipCall, powered, run}

-- all that was done with a fitted chip of this sheet until now: it was parked with a status byte, of which bits 7 to 2
-- are stored; powered over a memory of as many bytes as the sheet has cells; and put samples and power cycles
pub record Past (s : Sheet) : Type 0 where
  pub status : ℕ
  pub memory : List ℕ
  pub sent : List ChipCall
  pub status_is : Byte status
  pub memory_is : All Byte memory
  pub memory_fits : fits s memory ≡ true

-- the chip now
abbrev pub chip_now : (K : Keeping) → {s : Sheet} → Past s → ChipState K.Kept
chip_now K {s} a = run K (powered s a.memory (stored_bits a.status)) a.sent
