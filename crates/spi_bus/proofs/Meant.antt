-- What a byte put at the pins does to what a line means.
use Rattle.std.proofs.Common.{◌≡◌, ℕ, Bool, true, cond, sym, ap, ◌∙◌, subst}
use Rattle.datasheet.specs.declared.registers.Registers.{Registers}
use Rattle.datasheet.specs.Calls.{ChipState}
use Rattle.datasheet.specs.Kept.{bounded}
use Rattle.spi_model.specs.declared.mode.Mode.{Mode}
use Rattle.spi_model.specs.declared.bus_call.BusCall.TheVariants.{Exchange}
use Rattle.spi_model.specs.declared.bus_answer.BusAnswer.{BusAnswer}
use Rattle.spi_model.specs.declared.bus_answer.BusAnswer.TheVariants.{Done, Read}
use Rattle.spi_model.specs.Puts.{puts}
use Rattle.spi_model.specs.Samples.{byte_samples}
use Rattle.spi_model.specs.Buses.{exchanged, read}
use Rattle.spi_model.specs.Lines.{AtLine, call_samples, line_after, byte_read}
use Rattle.spi_model.specs.Meanings.{meaning_of, AtRest}
use Rattle.spi_model.proofs.Calls.{follows_bounded}

-- the byte of an answer
abbrev byte_in : BusAnswer → ℕ
byte_in (Read x) = x
byte_in Done = 0

module _ (mode : Mode) (wp : Bool) (waits : ℕ) (l : AtLine Registers) (x : ℕ) (rest : AtRest bounded mode l) (o : l.in_session ≡ true) where
  module _ (d : ChipState Registers) (e : d ≡ puts bounded l.chip (byte_samples mode wp waits x)) where
    abbrev after : AtLine Registers
    after = record { chip = d; in_session = l.in_session }

    did : after ≡ line_after bounded mode wp waits l (Exchange x)
    did =
        ap (λ (c : ChipState Registers). record { chip = c; in_session = l.in_session })
        (e ∙ ap (λ (t : Bool). puts bounded l.chip (call_samples mode wp waits t (Exchange x))) (sym o))

    pub rests : AtRest bounded mode after
    rests = subst (AtRest bounded mode) (sym did) (follows_bounded mode wp waits l (Exchange x) rest).0

    pub meant : meaning_of bounded wp after ≡ exchanged bounded (meaning_of bounded wp l) x
    meant = ap (meaning_of bounded wp) did ∙ (follows_bounded mode wp waits l (Exchange x) rest).1

  pub told : (r : ℕ) → r ≡ byte_read bounded mode wp l.chip (byte_samples mode wp waits x) → r ≡ read bounded (meaning_of bounded wp l) x
  told r e =
      e ∙ ap (λ (t : Bool). cond t (byte_read bounded mode wp l.chip (byte_samples mode wp waits x)) 0xFF) (sym o) ∙ ap byte_in (follows_bounded mode wp waits l (Exchange x) rest).2
