-- What a write and a read through a driver come to.
use Rattle.std.specs.Prelude.{◌≡◌, ℕ, true, if◌then◌else◌, List, Ok, Err, Result}
use Rattle.datasheet.specs.declared.sheet.Sheet.{Sheet}
use Rattle.datasheet.specs.declared.sheet.Marks.{Marks}
use Rattle.datasheet.specs.declared.refusal.Refusal.{Refusal}
use Rattle.datasheet.specs.declared.refusal.Refusal.TheVariants.{MemoryLength}
use Rattle.datasheet.specs.Refusals.{refusal_number}
use Rattle.datasheet.specs.Sheets.{fits, Made}
use Rattle.datasheet.specs.Records.{stored_bits}
use Rattle.spi_driver.specs.Left.{left_in}
use Rattle.spi_driver.specs.Transfers.{Transferred, transferred_parked}
use Rattle.fram_testbed.specs.declared.Transfer.{Transfer}

-- 0, or the number of the refusal
abbrev pub number_of : Result (Unit {0}) Refusal → ℕ
number_of (Ok u) = 0
number_of (Err e) = refusal_number e

-- what is answered, what the lent memory holds, and what the buffer holds
pub record Done : Type 0 where
  pub transfer : Transfer
  pub memory : List ℕ
  pub buffer : List ℕ

-- a refused transfer changes nothing
abbrev pub refused : Refusal → ℕ → List ℕ → List ℕ → Done
refused e stored memory buffer =
    record {
      transfer = record { refusal = refusal_number e; written = 0; read = 0; stored = stored };
      memory = memory;
      buffer = buffer;
    }

-- a transfer that was not refused
abbrev pub told : Transferred (List ℕ × ℕ) → Done
told t =
    record {
      transfer = record { refusal = 0; written = number_of t.outcome.written; read = number_of t.outcome.read; stored = t.left.1 };
      memory = t.left.0;
      buffer = t.buffer;
    }

-- a write of bytes and a read into the buffer from the same start, of a chip of this sheet that these samples
-- left, WP being high
abbrev pub through : Sheet → ℕ → List ℕ → List ℕ → ℕ → List ℕ → List ℕ → Done
through s stored memory before start bytes buffer = told (transferred_parked (left_in s memory stored before true) start bytes buffer)

-- it is refused where there is no sheet, then where the memory does not fit it
abbrev pub testbed_transferred : Result Sheet Refusal → ℕ → List ℕ → List ℕ → ℕ → List ℕ → List ℕ → Done
testbed_transferred (Err e) status memory before start bytes buffer = refused e (stored_bits status) memory buffer
testbed_transferred (Ok s) status memory before start bytes buffer =
    let stored : ℕ = stored_bits status in
    if fits s memory
    then through s stored memory before start bytes buffer
    else refused MemoryLength stored memory buffer

-- by t and f, the marks and the given status byte of the chip
abbrev pub Transfers : ℕ → ℕ → Marks → ℕ → List ℕ → List ℕ → ℕ → List ℕ → List ℕ → Done → Type 0
Transfers t f marks status memory before start bytes buffer done =
    (made : Result Sheet Refusal) × Made t f marks made
    × (done ≡ testbed_transferred made status memory before start bytes buffer)
