-- What a list of calls comes to, by the rules over the full list of bits.
use Rattle.std.proofs.Common.{◌≡◌, ℕ, Bool, true, false, List, Some, None, Option, refl, ap, ◌∙◌}
use Rattle.datasheet.specs.declared.registers.Registers.{Registers}
use Rattle.datasheet.specs.declared.sheet.Sheet.{Sheet}
use Rattle.datasheet.specs.Chips.{whole}
use Rattle.datasheet.specs.Calls.{ChipState, powered}
use Rattle.datasheet.specs.Kept.{bounded}
use Rattle.datasheet.proofs.Machines.{keeps}
use Rattle.spi_model.specs.declared.bus_call.BusCall.{BusCall}
use Rattle.spi_model.specs.declared.bus_call.BusCall.TheVariants.{Select, Exchange, Deselect}
use Rattle.spi_model.specs.Buses.{Bus, after, run, answers}
use Rattle.spi_model.specs.Meanings.{made}
use Rattle.spi_model.proofs.Keeps.{bus_keeps_enough}

-- no call changes the sheet
after_sheet : (b : Bus Registers) (x : BusCall) → (after bounded b x).sheet ≡ b.sheet
after_sheet b x = by b.session b.fitted x
  where
    by : (o : Option Registers) (f : Bool) (y : BusCall) →
        (after bounded (record { sheet = b.sheet; wp = b.wp; fitted = f; rec = b.rec; session = o }) y).sheet ≡ b.sheet
    by None f Select = refl
    by (Some k) f Select = refl
    by None f (Exchange y) = refl
    by (Some k) true (Exchange y) = refl
    by (Some k) false (Exchange y) = refl
    by None f Deselect = refl
    by (Some k) f Deselect = refl

pub sheet_kept : (b : Bus Registers) (xs : List BusCall) → (run bounded b xs).sheet ≡ b.sheet
sheet_kept b xs = keeps (after bounded) (λ d rest. d.sheet ≡ b.sheet) (λ d x rest e. after_sheet d x ∙ e) b xs refl

-- from power on: what is kept of a session is enough
module _ (s : Sheet) (memory : List ℕ) (stored : ℕ) (wp : Bool) (xs : List BusCall) where
  abbrev fresh : ChipState (List Bool)
  fresh = powered s memory stored

  pub rec_by_rules : (run bounded (made bounded wp (powered s memory stored)) xs).rec ≡ (run whole (made whole wp fresh) xs).rec
  rec_by_rules = ap (λ (b : Bus Registers). b.rec) (bus_keeps_enough (made whole wp fresh) xs).1

  pub answers_by_rules : answers bounded (made bounded wp (powered s memory stored)) xs ≡ answers whole (made whole wp fresh) xs
  answers_by_rules = (bus_keeps_enough (made whole wp fresh) xs).0
