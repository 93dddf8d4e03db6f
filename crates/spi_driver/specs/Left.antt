-- A chip reached through a driver over a bus, from whatever state it was left in.
use Rattle.std.specs.Prelude.{ℕ, Bool, List, map}
use Rattle.datasheet.specs.declared.sheet.Sheet.{Sheet}
use Rattle.datasheet.specs.Chips.{whole}
use Rattle.datasheet.specs.Calls.{ChipCall, ChipCall.sample, powered, run}
use Rattle.spi_model.specs.Buses.{Bus}
use Rattle.spi_model.specs.Meanings.{made}

-- samples by their bytes, as calls of a chip
abbrev pub samples : List ℕ → List ChipCall
samples bytes = map (λ (byte : ℕ). sample byte) bytes

-- what a bus means that is made over a chip which was powered and then put these samples, by the rules over the
-- full list of bits: they may have left it in a session, asleep, or with its latch set
unfoldable pub left_in : Sheet → List ℕ → ℕ → List ℕ → Bool → Bus (List Bool)
left_in s memory stored before wp = made whole wp (run whole (powered s memory stored) (samples before))
