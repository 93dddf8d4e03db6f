-- What the samples of bits do to a chip in a session, and what is read in them.
use Rattle.std.proofs.Common.{◌≡◌, ℕ, zero, suc, Bool, true, false, List, [], ◌∷◌, ◌++◌, sym, refl, ap, ◌∙◌, subst}
use Rattle.std.proofs.lemmas.List.{append_assoc}
use Rattle.datasheet.specs.declared.sheet.Sheet.{Sheet}
use Rattle.datasheet.specs.declared.level.Level.{Level}
use Rattle.datasheet.specs.declared.course.Course.{Course}
use Rattle.datasheet.specs.declared.course.Course.TheVariants.{Running, Held}
use Rattle.datasheet.specs.declared.sample.Sample.{Sample}
use Rattle.datasheet.specs.Records.{Record}
use Rattle.datasheet.specs.Chips.{Keeping, selected, rising, keeping, falling}
use Rattle.datasheet.specs.Calls.{ChipState, put}
use Rattle.spi_model.specs.declared.mode.Mode.{Mode}
use Rattle.spi_model.specs.declared.mode.Mode.TheVariants.{Mode0, Mode3}
use Rattle.spi_model.specs.Puts.{puts, shown_by}
use Rattle.spi_model.specs.Samples.{rest, clock, holding, releasing, pausing, clocking, bit_samples, bits_samples, read_at, at_rises}
use Rattle.spi_model.specs.Meanings.{next_read}
use Rattle.spi_model.specs.Moments.{Moment, after_bit, after_bits, reads}

-- no rise, nothing read
pub still : (sck : Bool) (l : Level) (ls : List Level) → read_at sck sck l ls ≡ ls
still true l ls = refl
still false l ls = refl

-- the parts of a bit's samples, and what follows them
pub parts : (mode : Mode) (wp : Bool) (n : ℕ) (b : Bool) (ys : List Sample) →
    bit_samples mode wp n b ++ ys ≡ holding mode wp n b ++ (releasing mode wp n b ++ (clocking mode wp b ++ ys))
parts mode wp n b ys =
    append_assoc (pausing mode wp n b) (clocking mode wp b) ys
    ∙ append_assoc (holding mode wp n b) (releasing mode wp n b) (clocking mode wp b ++ ys)

module _ (K : Keeping) where
  -- what is read in samples, SCK having been at this level
  abbrev pub over : ChipState K.Kept → Bool → List Sample → List Level
  over c sck xs = at_rises sck xs (shown_by K c xs)

  -- ## A fitted chip

  module _ (s : Sheet) (mode : Mode) (wp : Bool) where
    -- in a session, SCK at rest
    abbrev pub chip_at : Record → Course → K.Kept → Level → ChipState K.Kept
    chip_at r course k l = record { sheet = s; fitted = true; rec = r; pins = selected (record { sck = rest mode; course = course; kept = k; so = l }) }

    abbrev pub moment_at : Record → K.Kept → Level → Moment K.Kept
    moment_at r k l = record { rec = r; kept = k; so = next_read K mode s r k l }

    -- what SO shows after the clock of a bit
    abbrev pub left : Mode → Record → K.Kept → Bool → Level
    left Mode0 r k b = falling K s (rising K s wp r k b) (keeping K s r k b)
    left Mode3 r k b = falling K s r k

  -- HOLD is released with SCK at the level at which it fell: the session runs again
  resumes : (s : Sheet) (mode : Mode) (wp b : Bool) (r : Record) (k : K.Kept) (l : Level) →
      put K (chip_at s mode wp r (Held (rest mode)) k l) (clock mode wp b (rest mode) true) ≡ chip_at s mode wp r Running k l
  resumes s Mode0 wp b r k l = refl
  resumes s Mode3 wp b r k l = refl

  module _ (s : Sheet) (mode : Mode) (wp : Bool) where
    module _ (b : Bool) (r : Record) (k : K.Kept) (l : Level) where
      abbrev held : ChipState K.Kept
      held = chip_at s mode wp r (Held (rest mode)) k l

      abbrev running : ChipState K.Kept
      running = chip_at s mode wp r Running k l

      -- samples that hold change nothing more
      holds_puts : (n : ℕ) (ys : List Sample) → puts K held (holding mode wp n b ++ ys) ≡ puts K held ys
      holds_puts zero ys = refl
      holds_puts (suc n) ys = holds_puts n ys

      holds_over : (n : ℕ) (ys : List Sample) → over held (rest mode) (holding mode wp n b ++ ys) ≡ over held (rest mode) ys
      holds_over zero ys = refl
      holds_over (suc n) ys = still (rest mode) _ _ ∙ holds_over n ys

      -- the samples that hold and the one that releases change nothing and read nothing
      paused_puts : (n : ℕ) (ys : List Sample) →
          puts K running (holding mode wp n b ++ (releasing mode wp n b ++ ys)) ≡ puts K running ys
      paused_puts zero ys = refl
      paused_puts (suc n) ys =
          holds_puts n (clock mode wp b (rest mode) true ∷ ys) ∙ ap (λ (c : ChipState K.Kept). puts K c ys) (resumes s mode wp b r k l)

      paused_over : (n : ℕ) (ys : List Sample) →
          over running (rest mode) (holding mode wp n b ++ (releasing mode wp n b ++ ys)) ≡ over running (rest mode) ys
      paused_over zero ys = refl
      paused_over (suc n) ys =
          still (rest mode) _ _
          ∙ holds_over n (clock mode wp b (rest mode) true ∷ ys)
          ∙ still (rest mode) _ _
          ∙ ap (λ (c : ChipState K.Kept). over c (rest mode) ys) (resumes s mode wp b r k l)

  -- SCK away from rest and back
  module _ (s : Sheet) (wp b : Bool) (r : Record) (k : K.Kept) (l : Level) (ys : List Sample) where
    abbrev clocked : Mode → ChipState K.Kept
    clocked mode = chip_at s mode wp (rising K s wp r k b) Running (keeping K s r k b) (left s mode wp mode r k b)

    clock_puts : (mode : Mode) → puts K (chip_at s mode wp r Running k l) (clocking mode wp b ++ ys) ≡ puts K (clocked mode) ys
    clock_puts Mode0 = refl
    clock_puts Mode3 = refl

    clock_over : (mode : Mode) →
        over (chip_at s mode wp r Running k l) (rest mode) (clocking mode wp b ++ ys)
        ≡ next_read K mode s r k l ∷ over (clocked mode) (rest mode) ys
    clock_over Mode0 = refl
    clock_over Mode3 = refl

  module _ (s : Sheet) (mode : Mode) (wp : Bool) (n : ℕ) where
    -- one bit
    bit_puts : (r : Record) (k : K.Kept) (l : Level) (b : Bool) (ys : List Sample) →
        puts K (chip_at s mode wp r Running k l) (bit_samples mode wp n b ++ ys)
        ≡ puts K (chip_at s mode wp (rising K s wp r k b) Running (keeping K s r k b) (left s mode wp mode r k b)) ys
    bit_puts r k l b ys =
        ap (puts K (chip_at s mode wp r Running k l)) (parts mode wp n b ys)
        ∙ paused_puts s mode wp b r k l n (clocking mode wp b ++ ys)
        ∙ clock_puts s wp b r k l ys mode

    bit_over : (r : Record) (k : K.Kept) (l : Level) (b : Bool) (ys : List Sample) →
        over (chip_at s mode wp r Running k l) (rest mode) (bit_samples mode wp n b ++ ys)
        ≡ next_read K mode s r k l
        ∷ over (chip_at s mode wp (rising K s wp r k b) Running (keeping K s r k b) (left s mode wp mode r k b)) (rest mode) ys
    bit_over r k l b ys =
        ap (over (chip_at s mode wp r Running k l) (rest mode)) (parts mode wp n b ys)
        ∙ paused_over s mode wp b r k l n (clocking mode wp b ++ ys)
        ∙ clock_over s wp b r k l ys mode

    -- it is a bit more
    bit_moment : (other : Mode) (r : Record) (k : K.Kept) (l : Level) (b : Bool) →
        after_bit K s wp (moment_at s other wp r k l) b
        ≡ moment_at s other wp (rising K s wp r k b) (keeping K s r k b) (left s other wp other r k b)
    bit_moment Mode0 r k l b = refl
    bit_moment Mode3 r k l b = refl

    -- several bits
    abbrev pub so_left : Record → K.Kept → Level → List Bool → Level
    so_left r k l [] = l
    so_left r k l (b ∷ bs) = so_left (rising K s wp r k b) (keeping K s r k b) (left s mode wp mode r k b) bs

    -- the chip in a session at this moment, SO showing l
    abbrev pub chip_in : Moment K.Kept → Level → ChipState K.Kept
    chip_in m l = chip_at s mode wp m.rec Running m.kept l

    pub bits_puts : (r : Record) (k : K.Kept) (l : Level) (bs : List Bool) →
        puts K (chip_at s mode wp r Running k l) (bits_samples mode wp n bs)
        ≡ chip_in (after_bits K s wp (moment_at s mode wp r k l) bs) (so_left r k l bs)
    bits_puts r k l [] = refl
    bits_puts r k l (b ∷ bs) =
        let r' = rising K s wp r k b in
        let k' = keeping K s r k b in
        let l' = left s mode wp mode r k b in
        bit_puts r k l b (bits_samples mode wp n bs)
        ∙ bits_puts r' k' l' bs
        ∙ ap (λ (m : Moment K.Kept). chip_in (after_bits K s wp m bs) (so_left r' k' l' bs)) (sym (bit_moment mode r k l b))

    pub bits_over : (r : Record) (k : K.Kept) (l : Level) (bs : List Bool) →
        over (chip_at s mode wp r Running k l) (rest mode) (bits_samples mode wp n bs) ≡ reads K s wp (moment_at s mode wp r k l) bs
    bits_over r k l [] = refl
    bits_over r k l (b ∷ bs) =
        let r' = rising K s wp r k b in
        let k' = keeping K s r k b in
        let l' = left s mode wp mode r k b in
        bit_over r k l b (bits_samples mode wp n bs)
        ∙ ap (λ (ls : List Level). next_read K mode s r k l ∷ ls)
        (bits_over r' k' l' bs ∙ ap (λ (m : Moment K.Kept). reads K s wp m bs) (sym (bit_moment mode r k l b)))

    -- what the next rise reads then
    pub bits_next : (r : Record) (k : K.Kept) (l : Level) (bs : List Bool) →
        let m : Moment K.Kept = after_bits K s wp (moment_at s mode wp r k l) bs in
        next_read K mode s m.rec m.kept (so_left r k l bs) ≡ m.so
    bits_next r k l [] = refl
    bits_next r k l (b ∷ bs) =
        let r' = rising K s wp r k b in
        let k' = keeping K s r k b in
        let l' = left s mode wp mode r k b in
        let e = λ (m : Moment K.Kept).
        next_read K mode s (after_bits K s wp m bs).rec (after_bits K s wp m bs).kept (so_left r' k' l' bs) ≡ (after_bits K s wp m bs).so in
        subst e (sym (bit_moment mode r k l b)) (bits_next r' k' l' bs)
