-- The laws of chips, as the contracts of the code name them.
use Rattle.std.proofs.Common.{◌≡◌, Bool, Decides, length, sym, ap, true-eqb}
use Rattle.std.proofs.lemmas.Bool.Decides.{Decides-like}
use Rattle.datasheet.specs.Sheets.{cells}
use Rattle.datasheet.specs.Alike.{Alike}
use Rattle.datasheet.specs.Calls.{Sendable, answers}
use Rattle.datasheet.specs.Chips.{whole}
use Rattle.datasheet.specs.Kept.{bounded}
use Rattle.chip_laws.specs.Laws.{Fitted, StaysFitted, SpoiledIsIdle, ToldApart}
use Rattle.chip_laws.proofs.Apart.{fitted_apart, told_apart, told_apart_whole}
use Rattle.chip_laws.proofs.Stays.{stays_fitted, stays_fitted_whole}
use Rattle.chip_laws.proofs.Spoils.{spoiled_is_idle}
use Rattle.chip.specs.declared.chip.Chip.{Chip}
use Rattle.chip.specs.Views.{chip_of, record_of, pins_of, Resting}

-- a resting chip is fitted, by what its type says
fitted : (c : Chip) → Resting c → Fitted (chip_of c)
fitted c h =
    record {
      fit = h.0;
      size = true-eqb (length c.memory.now) (cells c.sheet) (sym h.0);
      bytes = c.bytes;
      stored-byte = c.status.stored.byte;
      stored-high = c.status.stored.high;
      still = c.status.still;
    }

-- two resting chips of one sheet: whether their records are equal is whether no list of calls tells them apart
pub told : (a b : Chip) (r : Bool) → Decides r (record_of a ≡ record_of b) →
    Resting a → Resting b → a.sheet ≡ b.sheet → Decides r (Alike Sendable (answers bounded) (answers bounded) (chip_of a) (chip_of b))
told a b r d ha hb e =
    let t = fitted_apart (chip_of a) (chip_of b) (fitted a ha) (fitted b hb) (ap pins_of ha.1) (ap pins_of hb.1) e in
    Decides-like r t.0 t.1 d

-- the law of chips, by the rules and as the code keeps a session
pub apart : (ToldApart whole) × (ToldApart bounded)
apart = (told_apart_whole, told_apart)

-- a fitted chip stays fitted, by the rules and as the code keeps a session
pub stays : (StaysFitted whole) × (StaysFitted bounded)
stays = (stays_fitted_whole, stays_fitted)

-- a spoiled session changes nothing, by the rules and as the code keeps a session
pub idle : (SpoiledIsIdle whole) × (SpoiledIsIdle bounded)
idle = (spoiled_is_idle whole, spoiled_is_idle bounded)
