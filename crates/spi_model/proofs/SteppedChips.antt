-- A byte taken at once is what the rules of the pins do to its eight rises and falls.
use Rattle.std.proofs.Common.{◌≡◌, ℕ, ◌<◌, Bool, true, false, cond, refl, ap, ◌∙◌}
use Rattle.datasheet.specs.declared.registers.Registers.{Registers}
use Rattle.datasheet.specs.declared.sheet.Sheet.{Sheet}
use Rattle.datasheet.specs.Bits.{bits_of}
use Rattle.datasheet.specs.declared.level.Level.{Level}
use Rattle.datasheet.specs.declared.course.Course.{Course}
use Rattle.datasheet.specs.declared.course.Course.TheVariants.{Running, Held, Spoiled}
use Rattle.datasheet.specs.Records.{Record}
use Rattle.datasheet.specs.Chips.{PinState, deselected, selected}
use Rattle.datasheet.specs.Calls.{ChipState}
use Rattle.datasheet.specs.Kept.{bounded}
use Rattle.spi_model.specs.declared.mode.Mode.TheVariants.{Mode0}
use Rattle.spi_model.specs.Puts.{puts}
use Rattle.spi_model.specs.Samples.{byte_samples}
use Rattle.spi_model.specs.Moments.{Moment, after_bits}
use Rattle.spi_model.specs.Reads.{read_off}
use Rattle.spi_model.specs.SteppedBytes.{whole_bytes, step_byte, read_byte}
use Rattle.spi_model.specs.Lines.{byte_read}
use Rattle.spi_model.specs.SteppedChips.{settled_at, stepped_by, step_read, stepped_once, read_once}
use Rattle.spi_model.proofs.SteppedBytes.{byte_at_once}
use Rattle.spi_model.proofs.Clock.{chip_in, bits_puts, bits_over, bits_next}

module _ (s : Sheet) (wp : Bool) (m : Moment Registers) (x : ℕ) (h : whole_bytes m.kept ≡ true) (l : x < 256) where
  abbrev then : Moment Registers
  then = after_bits bounded s wp m (bits_of 8 x)

  puts_at_once : puts bounded (settled_at s m) (byte_samples Mode0 wp 0 x) ≡ settled_at s (step_byte s wp m x)
  puts_at_once =
      bits_puts bounded s Mode0 wp 0 m.rec m.kept m.so (bits_of 8 x)
      ∙ ap (chip_in bounded s Mode0 wp 0 then) (bits_next bounded s Mode0 wp 0 m.rec m.kept m.so (bits_of 8 x))
      ∙ ap (settled_at s) (byte_at_once s wp m x h l).0

  read_at_once : byte_read bounded Mode0 wp (settled_at s m) (byte_samples Mode0 wp 0 x) ≡ read_byte s m
  read_at_once =
      ap read_off (bits_over bounded s Mode0 wp 0 m.rec m.kept m.so (bits_of 8 x)) ∙ ap read_off (byte_at_once s wp m x h l).1 ∙ (byte_at_once s wp m x h l).2

-- what is chosen where a test holds may be told by that
cond_same : {A : Type 0} {a b : A} (w : Bool) (c : A) → (w ≡ true → a ≡ b) → cond w a c ≡ cond w b c
cond_same true c h = h refl
cond_same false c h = refl

-- whatever state the chip is in; over its parts, so that a tactic can find them in the chip that it looks at
module _ (s : Sheet) (r : Record) (wp : Bool) (x : ℕ) (l : x < 256) where
  abbrev chip : Bool → PinState Registers → ChipState Registers
  chip f p = record { sheet = s; fitted = f; rec = r; pins = p }

  -- in a fitted chip with a session, by the last level of SCK and the course
  module _ (k : Registers) (so : Level) where
    abbrev within : Bool → Course → ChipState Registers
    within sck course = chip true (selected (record { sck = sck; course = course; kept = k; so = so }))

    stepped_within : (sck : Bool) (course : Course) → stepped_by (within sck course) wp x ≡ stepped_once (within sck course) wp x
    stepped_within true course = refl
    stepped_within false (Held l) = refl
    stepped_within false Spoiled = refl
    stepped_within false Running =
        cond_same (whole_bytes k) (within false Running) (λ e. puts_at_once s wp (record { rec = r; kept = k; so = so }) x e l)

    read_within : (sck : Bool) (course : Course) → step_read (within sck course) wp x ≡ read_once (within sck course)
    read_within true course = refl
    read_within false (Held l) = refl
    read_within false Spoiled = refl
    read_within false Running =
        cond_same (whole_bytes k) 0xFF (λ e. read_at_once s wp (record { rec = r; kept = k; so = so }) x e l)

  pub stepped_by_once : (f : Bool) (p : PinState Registers) → stepped_by (chip f p) wp x ≡ stepped_once (chip f p) wp x
  stepped_by_once f deselected = refl
  stepped_by_once false (selected o) = refl
  stepped_by_once true (selected o) = stepped_within o.kept o.so o.sck o.course

  pub step_read_once : (f : Bool) (p : PinState Registers) → step_read (chip f p) wp x ≡ read_once (chip f p)
  step_read_once f deselected = refl
  step_read_once false (selected o) = refl
  step_read_once true (selected o) = read_within o.kept o.so o.sck o.course

-- a byte at once does what its samples in mode 0 do, and reads what is read in them
pub ruleset once = (stepped_by_once, step_read_once)
