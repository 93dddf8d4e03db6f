-- Each call at the pins does to what a line means what the call of a bus does; and so does any list of them.
use Rattle.std.proofs.Common.{◌≡◌, ℕ, zero, suc, Bool, true, false, cond, List, [], ◌∷◌, ◌++◌, sym, refl, ap, ◌∙◌, subst, rules}
use Rattle.datasheet.specs.declared.sheet.Sheet.{Sheet}
use Rattle.datasheet.specs.declared.level.Level.{Level}
use Rattle.datasheet.specs.declared.level.Level.TheVariants.{HighZ}
use Rattle.datasheet.specs.declared.sample.Sample.{Sample}
use Rattle.datasheet.specs.declared.course.Course.TheVariants.{Running}
use Rattle.datasheet.specs.Bits.{bits_of}
use Rattle.datasheet.specs.Records.{Record}
use Rattle.datasheet.specs.Chips.{Keeping, OpenSession, PinState, PinState.deselected, PinState.selected, whole, falling}
use Rattle.datasheet.specs.Calls.{ChipState, put}
use Rattle.datasheet.specs.Kept.{bounded}
use Rattle.datasheet.proofs.Machines.{keeps, means}
use Rattle.spi_model.specs.declared.mode.Mode.{Mode}
use Rattle.spi_model.specs.declared.mode.Mode.TheVariants.{Mode0, Mode3}
use Rattle.spi_model.specs.declared.bus_call.BusCall.{BusCall}
use Rattle.spi_model.specs.declared.bus_call.BusCall.TheVariants.{Select, Exchange, Deselect}
use Rattle.spi_model.specs.declared.bus_answer.BusAnswer.TheVariants.{Read}
use Rattle.spi_model.specs.Puts.{puts}
use Rattle.spi_model.specs.Samples.{rest, holding, releasing, clocking, bits_samples, byte_samples}
use Rattle.spi_model.specs.Moments.{Moment, after_bit, after_bits, reads}
use Rattle.spi_model.specs.Reads.{read_off}
use Rattle.spi_model.specs.Buses.{Bus, moment_in, after, answer, run, answers}
use Rattle.spi_model.specs.Lines.{AtLine, line_made, line_after, line_answer, line_run, line_answers}
use Rattle.spi_model.specs.Meanings.{session_at, chip_at, made, meaning_of, next_read, AtRest}
use Rattle.spi_model.specs.Laws.{ByteAtPins, Follows, Makes, LineIsBus, Same}
use Rattle.spi_model.proofs.Clock.{over, still, parts, so_left, bits_puts, bits_over, bits_next}

pub unlike : false ≡ true → ⊥
unlike e = search rules

-- an open session that runs, with SCK at rest
pub at_rest : {S : Type 0} (mode : Mode) (o : OpenSession S) → o.sck ≡ rest mode → o.course ≡ Running → o ≡ session_at mode o.kept o.so
at_rest mode o e f i = record o { sck = e i; course = f i }

-- ## A byte

pub byte_at_pins : (K : Keeping) → ByteAtPins K
byte_at_pins K mode wp n s m so x e =
    let start = λ (l : Level). after_bits K s wp (record { rec = m.rec; kept = m.kept; so = l }) (bits_of 8 x) in
    let now = so_left K s mode wp n m.rec m.kept so (bits_of 8 x) in
    let put = bits_puts K s mode wp n m.rec m.kept so (bits_of 8 x) ∙ ap (λ (l : Level). chip_at mode s (start l) now) e in
    let read = bits_over K s mode wp n m.rec m.kept so (bits_of 8 x) ∙ ap (λ (l : Level). reads K s wp (record { rec = m.rec; kept = m.kept; so = l }) (bits_of 8 x)) e in
    let next = subst (λ (l : Level). next_read K mode s (start l).rec (start l).kept now ≡ (start l).so) e (bits_next K s mode wp n m.rec m.kept so (bits_of 8 x)) in
    ((now, put, next), read)

-- behind a fall SO shows what it was set to
bits_settled : (K : Keeping) (s : Sheet) (wp : Bool) (m : Moment K.Kept) (bits : List Bool) →
    m.so ≡ falling K s m.rec m.kept → (after_bits K s wp m bits).so ≡ falling K s (after_bits K s wp m bits).rec (after_bits K s wp m bits).kept
bits_settled K s wp m bits e = keeps (after_bit K s wp) (λ n rest. n.so ≡ falling K s n.rec n.kept) (λ n b rest h. refl) m bits e

-- ## A blank chip

module _ (K : Keeping) (s : Sheet) (r : Record) (p : PinState K.Kept) where
  abbrev pub blank : ChipState K.Kept
  blank = record { sheet = s; fitted = false; rec = r; pins = p }

  -- it changes nothing
  pub blank_puts : (xs : List Sample) → puts K blank xs ≡ blank
  blank_puts xs = keeps (put K) (λ c rest. c ≡ blank) (λ c x rest e. ap (λ d. put K d x) e) blank xs refl

  module _ (mode : Mode) (wp : Bool) (n : ℕ) where
    -- SO is high-Z at every rise
    blank_holds : (b : Bool) (i : ℕ) (ys : List Sample) →
        over K blank (rest mode) (holding mode wp i b ++ ys) ≡ over K blank (rest mode) ys
    blank_holds b zero ys = refl
    blank_holds b (suc i) ys = still (rest mode) _ _ ∙ blank_holds b i ys

    blank_releases : (b : Bool) (i : ℕ) (ys : List Sample) →
        over K blank (rest mode) (releasing mode wp i b ++ ys) ≡ over K blank (rest mode) ys
    blank_releases b zero ys = refl
    blank_releases b (suc i) ys = still (rest mode) _ _

    blank_clock : (other : Mode) (b : Bool) (ys : List Sample) →
        over K blank (rest other) (clocking other wp b ++ ys) ≡ HighZ ∷ over K blank (rest other) ys
    blank_clock Mode0 b ys = refl
    blank_clock Mode3 b ys = refl

    abbrev pub undriven : List Bool → List Level
    undriven [] = []
    undriven (b ∷ bs) = HighZ ∷ undriven bs

    pub blank_over : (bs : List Bool) → over K blank (rest mode) (bits_samples mode wp n bs) ≡ undriven bs
    blank_over [] = refl
    blank_over (b ∷ bs) =
        ap (over K blank (rest mode)) (parts mode wp n b (bits_samples mode wp n bs))
        ∙ blank_holds b n _
        ∙ blank_releases b n _
        ∙ blank_clock mode b (bits_samples mode wp n bs)
        ∙ ap (λ (ls : List Level). HighZ ∷ ls) (blank_over bs)

-- ## Calls

-- where no fall shows anything before the first bit
module _ (K : Keeping) (quiet : (s : Sheet) (r : Record) → K.shows s r K.begin ≡ HighZ) where
  dark : (s : Sheet) (r : Record) (a : Bool) → HighZ ≡ cond a HighZ (K.shows s r K.begin)
  dark s r true = refl
  dark s r false = sym (quiet s r)

  module _ (s : Sheet) (wp : Bool) (n : ℕ) where
    abbrev line : Bool → Record → PinState K.Kept → Bool → AtLine K.Kept
    line f r p o = record { chip = record { sheet = s; fitted = f; rec = r; pins = p }; in_session = o }

    -- what is to be shown of a call
    abbrev Holds : Mode → AtLine K.Kept → BusCall → Type 0
    Holds mode l x =
        AtRest K mode (line_after K mode wp n l x)
        × (meaning_of K wp (line_after K mode wp n l x) ≡ after K (meaning_of K wp l) x)
        × (line_answer K mode wp n l x ≡ answer K (meaning_of K wp l) x)

    -- a fitted chip with no within session
    begins : (mode : Mode) (r : Record) → next_read K mode s r K.begin HighZ ≡ falling K s r K.begin
    begins Mode0 r = dark s r r.asleep
    begins Mode3 r = refl

    away : (mode : Mode) (r : Record) (x : BusCall) → Holds mode (line true r deselected false) x
    away mode r Select = (λ e. (refl, refl, refl, begins mode r), refl, refl)
    away mode r (Exchange x) = (λ e. refl, refl, refl)
    away mode r Deselect = (λ e. refl, refl, refl)

    -- a fitted chip in a session, between two bytes
    module _ (mode : Mode) (r : Record) (k : K.Kept) (so : Level) (h : next_read K mode s r k so ≡ falling K s r k) where
      abbrev within : AtLine K.Kept
      within = line true r (selected (session_at mode k so)) true

      byte : (x : ℕ) → Holds mode within (Exchange x)
      byte x =
          let m : Moment K.Kept = moment_in K (meaning_of K wp within) k in
          let did = byte_at_pins K mode wp n s m so x h in
          let after : Moment K.Kept = after_bits K s wp m (bits_of 8 x) in
          let now = did.0.0 in
          let settled = did.0.2 ∙ bits_settled K s wp m (bits_of 8 x) refl in
          let back : ChipState K.Kept → AtLine K.Kept = λ c. record { chip = c; in_session = true } in (
            subst (λ (c : ChipState K.Kept). AtRest K mode (back c)) (sym did.0.1) (λ e. (refl, refl, refl, settled)),
            ap (λ (c : ChipState K.Kept). meaning_of K wp (back c)) did.0.1,
            ap (λ (ls : List Level). Read (read_off ls)) did.1,
          )

      inside : (x : BusCall) → Holds mode within x
      inside Select = (λ e. (refl, refl, refl, h), refl, refl)
      inside (Exchange x) = byte x
      inside Deselect = (λ e. refl, refl, refl)

    -- a blank chip
    blank_call : (mode : Mode) (r : Record) (p : PinState K.Kept) (o : Bool) (x : BusCall) → Holds mode (line false r p o) x
    blank_call mode r p true Select = (λ e. absurd (unlike e), refl, refl)
    blank_call mode r p false Select = (λ e. absurd (unlike e), refl, refl)
    blank_call mode r p false (Exchange x) = (λ e. absurd (unlike e), refl, refl)
    blank_call mode r p true (Exchange x) =
        let same = blank_puts K s r p (byte_samples mode wp n x) in
        let back : ChipState K.Kept → AtLine K.Kept = λ c. record { chip = c; in_session = true } in (
          subst (λ (c : ChipState K.Kept). AtRest K mode (back c)) (sym same) (λ e. absurd (unlike e)),
          ap (λ (c : ChipState K.Kept). meaning_of K wp (back c)) same,
          ap (λ (ls : List Level). Read (read_off ls)) (blank_over K s r p mode wp n (bits_of 8 x)),
        )
    blank_call mode r p true Deselect = (λ e. absurd (unlike e), refl, refl)
    blank_call mode r p false Deselect = (λ e. absurd (unlike e), refl, refl)

    any : (mode : Mode) (f : Bool) (r : Record) (p : PinState K.Kept) (o : Bool) (x : BusCall) → AtRest K mode (line f r p o) → Holds mode (line f r p o) x
    any mode false r p o x h = blank_call mode r p o x
    any mode true r deselected false x h = away mode r x
    any mode true r deselected true x h = absurd (unlike (sym (h refl)))
    any mode true r (selected o) false x h = absurd (unlike (h refl).0)
    any mode true r (selected o) true x h =
        let e = h refl in
        subst (λ (p : OpenSession K.Kept). Holds mode (line true r (selected p) true) x) (sym (at_rest mode o e.1 e.2))
        (inside mode r o.kept o.so e.3 x)

  follows : Follows K
  follows mode wp n l x h = any l.chip.sheet wp n mode l.chip.fitted l.chip.rec l.chip.pins l.in_session x h

-- a chip that CS high has deselected
pub makes : (K : Keeping) → Makes K
makes K mode wp c = any c.sheet c.fitted c.rec c.pins
  where
    any : (s : Sheet) (f : Bool) (r : Record) (p : PinState K.Kept) →
        let c : ChipState K.Kept = record { sheet = s; fitted = f; rec = r; pins = p } in
        AtRest K mode (line_made K mode wp c) × (meaning_of K wp (line_made K mode wp c) ≡ made K wp c)
    any s true r deselected = (λ e. refl, refl)
    any s true r (selected o) = (λ e. refl, refl)
    any s false r deselected = (λ e. absurd (unlike e), refl)
    any s false r (selected o) = (λ e. absurd (unlike e), refl)

-- ## Lists of calls

module _ (K : Keeping) (follow : Follows K) where
  -- any list of calls is that of a bus
  lists : (mode : Mode) (wp : Bool) (n : ℕ) (l : AtLine K.Kept) (xs : List BusCall) → AtRest K mode l →
      (answers K (meaning_of K wp l) xs ≡ line_answers K mode wp n l xs)
      × (run K (meaning_of K wp l) xs ≡ meaning_of K wp (line_run K mode wp n l xs))
  lists mode wp n l xs h =
      means (after K) (answer K) (line_after K mode wp n) (line_answer K mode wp n) (meaning_of K wp) (λ m rest. AtRest K mode m)
      (λ m x rest g. let f = follow mode wp n m x g in (f.0, sym f.1, sym f.2)) l xs h

  pub line_is_bus : LineIsBus K
  line_is_bus mode wp n c xs =
      let made-so = makes K mode wp c in
      let t = lists mode wp n (line_made K mode wp c) xs made-so.0 in (
        sym t.0 ∙ ap (λ (b : Bus K.Kept). answers K b xs) made-so.1,
        sym t.1 ∙ ap (λ (b : Bus K.Kept). run K b xs) made-so.1,
      )

  pub same : Same K
  same mode other wp n i l m xs g h e =
      let t = lists mode wp n l xs g in
      let u = lists other wp i m xs h in (
        sym t.0 ∙ ap (λ (b : Bus K.Kept). answers K b xs) e ∙ u.0,
        sym t.1 ∙ ap (λ (b : Bus K.Kept). run K b xs) e ∙ u.1,
      )

pub follows_whole : Follows whole
follows_whole = follows whole (λ s r. refl)

pub follows_bounded : Follows bounded
follows_bounded = follows bounded (λ s r. refl)
