-- Lists of samples in pieces: what they make of a chip, and what is read in them.
use Rattle.std.proofs.Common.{◌≡◌, ℕ, zero, suc, ◌+◌, ◌-◌, ◌*◌, ◌^◌, ◌<◌, ◌≤◌, Bool, true, false, List, [], ◌∷◌, ◌++◌, length, sym, refl, ap, ◌∙◌, ap₂, arith}
use Rattle.std.proofs.lemmas.List.{append_assoc, length-map}
use Rattle.datasheet.specs.declared.level.Level.{Level}
use Rattle.datasheet.specs.declared.sample.Sample.{Sample}
use Rattle.datasheet.specs.Bits.{bit, bit_at, bits_of}
use Rattle.datasheet.specs.Levels.{read_as}
use Rattle.datasheet.specs.Chips.{Keeping}
use Rattle.datasheet.specs.Calls.{ChipState, so, put}
use Rattle.chip_laws.proofs.Bits.{length_bits_of}
use Rattle.spi_model.specs.declared.mode.Mode.{Mode}
use Rattle.spi_model.specs.declared.mode.Mode.TheVariants.{Mode0, Mode3}
use Rattle.spi_model.specs.Puts.{tracing, puts}
use Rattle.spi_model.specs.Samples.{rest, clock, holding, releasing, pausing, clocking, bit_samples, bits_samples, read_at, clock_shows}
use Rattle.spi_model.specs.Reads.{read_off}
use Rattle.spi_model.proofs.Clock.{over, still}

-- ## What they lead to

module _ {T : Type 0} (f : T → Sample → T) where
  pub tracing_append : (t : T) (xs ys : List Sample) → tracing f t (xs ++ ys) ≡ tracing f (tracing f t xs) ys
  tracing_append t [] ys = refl
  tracing_append t (x ∷ xs) ys = tracing_append (f t x) xs ys

  module _ (mode : Mode) (wp b : Bool) (t : T) where
    -- before the clock of a bit
    abbrev pub paused : ℕ → T
    paused n = tracing f t (pausing mode wp n b)

    pub bit_parts : (n : ℕ) → tracing f t (bit_samples mode wp n b) ≡ tracing f (paused n) (clocking mode wp b)
    bit_parts n = tracing_append t (pausing mode wp n b) (clocking mode wp b)

    -- samples that hold, put one by one: i of n
    pub holding_more : (n i : ℕ) → i < n →
        tracing f t (holding mode wp (n - i) b) ≡ tracing f (f t (clock mode wp b (rest mode) false)) (holding mode wp (n - (i + 1)) b)
    holding_more n i h =
        let e : n - i ≡ suc (n - (i + 1)) = omega arith in
        ap (λ (k : ℕ). tracing f t (holding mode wp k b)) e

    pub holding_all : (n i : ℕ) → n ≤ i → tracing f t (holding mode wp (n - i) b) ≡ t
    holding_all n i h =
        let e : n - i ≡ 0 = omega arith in
        ap (λ (k : ℕ). tracing f t (holding mode wp k b)) e

    pub released : (n : ℕ) → 0 < n → f (tracing f t (holding mode wp n b)) (clock mode wp b (rest mode) true) ≡ paused n
    released zero h = absurd (omega arith)
    released (suc n) h = sym (tracing_append t (holding mode wp (suc n) b) (releasing mode wp (suc n) b))

    pub not_held : (n : ℕ) → n ≤ 0 → t ≡ paused n
    not_held zero h = refl
    not_held (suc n) h = absurd (omega arith)

  -- bits, put one by one
  pub bits_more : (mode : Mode) (wp : Bool) (n : ℕ) (t u : T) (i x : ℕ) → u ≡ tracing f t (bit_samples mode wp n (bit_at i x)) →
      tracing f t (bits_samples mode wp n (bits_of (suc i) x)) ≡ tracing f u (bits_samples mode wp n (bits_of i x))
  bits_more mode wp n t u i x e =
      tracing_append t (bit_samples mode wp n (bit_at i x)) (bits_samples mode wp n (bits_of i x))
      ∙ ap (λ (v : T). tracing f v (bits_samples mode wp n (bits_of i x))) (sym e)

-- ## What is read in them

-- SCK after samples
abbrev last_sck : Bool → List Sample → Bool
last_sck sck [] = sck
last_sck sck (x ∷ xs) = last_sck x.sck xs

last_append : (sck : Bool) (xs ys : List Sample) → last_sck sck (xs ++ ys) ≡ last_sck (last_sck sck xs) ys
last_append sck [] ys = refl
last_append sck (x ∷ xs) ys = last_append x.sck xs ys

read_append : (sck new : Bool) (l : Level) (as' bs : List Level) → read_at sck new l (as' ++ bs) ≡ read_at sck new l as' ++ bs
read_append false true l as' bs = refl
read_append false false l as' bs = refl
read_append true true l as' bs = refl
read_append true false l as' bs = refl

module _ (K : Keeping) where
  over_append : (c : ChipState K.Kept) (sck : Bool) (xs ys : List Sample) →
      over K c sck (xs ++ ys) ≡ over K c sck xs ++ over K (puts K c xs) (last_sck sck xs) ys
  over_append c sck [] ys = refl
  over_append c sck (x ∷ xs) ys =
      ap (read_at sck x.sck (so (put K c x))) (over_append (put K c x) x.sck xs ys)
      ∙ read_append sck x.sck (so (put K c x)) (over K (put K c x) x.sck xs) (over K (puts K (put K c x) xs) (last_sck x.sck xs) ys)

  module _ (mode : Mode) (wp : Bool) where
    -- a bit ends with SCK at rest
    last_rest : (n : ℕ) (b : Bool) → last_sck (rest mode) (bit_samples mode wp n b) ≡ rest mode
    last_rest n b = last_append (rest mode) (pausing mode wp n b) (clocking mode wp b)

    -- what is read in a bit and in what follows it
    pub over_bit : (c : ChipState K.Kept) (n : ℕ) (b : Bool) (ys : List Sample) →
        over K c (rest mode) (bit_samples mode wp n b ++ ys)
        ≡ over K c (rest mode) (bit_samples mode wp n b) ++ over K (puts K c (bit_samples mode wp n b)) (rest mode) ys
    over_bit c n b ys =
        over_append c (rest mode) (bit_samples mode wp n b) ys
        ∙ ap (λ (t : Bool). over K c (rest mode) (bit_samples mode wp n b) ++ over K (puts K c (bit_samples mode wp n b)) t ys) (last_rest n b)

    -- the samples that hold read nothing
    holding_over : (c : ChipState K.Kept) (n : ℕ) (b : Bool) (ys : List Sample) →
        over K c (rest mode) (holding mode wp n b ++ ys) ≡ over K (puts K c (holding mode wp n b)) (rest mode) ys
    holding_over c zero b ys = refl
    holding_over c (suc n) b ys = still (rest mode) _ _ ∙ holding_over (put K c (clock mode wp b (rest mode) false)) n b ys

    releasing_over : (c : ChipState K.Kept) (n : ℕ) (b : Bool) (ys : List Sample) →
        over K c (rest mode) (releasing mode wp n b ++ ys) ≡ over K (puts K c (releasing mode wp n b)) (rest mode) ys
    releasing_over c zero b ys = refl
    releasing_over c (suc n) b ys = still (rest mode) _ _

    paused_over : (c : ChipState K.Kept) (n : ℕ) (b : Bool) →
        over K c (rest mode) (bit_samples mode wp n b) ≡ over K (paused (put K) mode wp b c n) (rest mode) (clocking mode wp b)
    paused_over c n b =
        ap (over K c (rest mode)) (append_assoc (holding mode wp n b) (releasing mode wp n b) (clocking mode wp b))
        ∙ holding_over c n b (releasing mode wp n b ++ clocking mode wp b)
        ∙ releasing_over (puts K c (holding mode wp n b)) n b (clocking mode wp b)
        ∙ ap (λ (d : ChipState K.Kept). over K d (rest mode) (clocking mode wp b)) (sym (tracing_append (put K) c (holding mode wp n b) (releasing mode wp n b)))

  clock_over : (mode : Mode) (wp : Bool) (c : ChipState K.Kept) (b : Bool) →
      over K c (rest mode) (clocking mode wp b) ≡ clock_shows K mode wp c b ∷ []
  clock_over Mode0 wp c b = refl
  clock_over Mode3 wp c b = refl

  pub bit_read : (mode : Mode) (wp : Bool) (c : ChipState K.Kept) (n : ℕ) (b : Bool) →
      over K c (rest mode) (bit_samples mode wp n b) ≡ clock_shows K mode wp (paused (put K) mode wp b c n) b ∷ []
  bit_read mode wp c n b = paused_over mode wp c n b ∙ clock_over mode wp (paused (put K) mode wp b c n) b

  -- as many bits are read as are put
  pub bits_length : (mode : Mode) (wp : Bool) (n : ℕ) (c : ChipState K.Kept) (bs : List Bool) →
      length (over K c (rest mode) (bits_samples mode wp n bs)) ≡ length bs
  bits_length mode wp n c [] = refl
  bits_length mode wp n c (b ∷ bs) =
      ap length (over_bit mode wp c n b (bits_samples mode wp n bs))
      ∙ ap (λ (xs : List Level). length (xs ++ over K (puts K c (bit_samples mode wp n b)) (rest mode) (bits_samples mode wp n bs))) (bit_read mode wp c n b)
      ∙ ap suc (bits_length mode wp n (puts K c (bit_samples mode wp n b)) bs)

  module _ (mode : Mode) (wp : Bool) (n : ℕ) (c d : ChipState K.Kept) (i x : ℕ) where
    abbrev left : ℕ → List Sample
    left k = bits_samples mode wp n (bits_of k x)

    abbrev first : List Sample
    first = bit_samples mode wp n (bit_at i x)

    -- the number that is read, one bit of it known
    pub read_more : (r : Level) → d ≡ puts K c first → over K c (rest mode) first ≡ r ∷ [] →
        read_off (over K c (rest mode) (left (suc i))) ≡ bit (read_as r) * 2 ^ i + read_off (over K d (rest mode) (left i))
    read_more r e q =
        ap read_off (over_bit mode wp c n (bit_at i x) (left i))
        ∙ ap₂ (λ (y : ChipState K.Kept) (ls : List Level). read_off (ls ++ over K y (rest mode) (left i))) (sym e) q
        ∙ ap (λ (k : ℕ). bit (read_as r) * 2 ^ k + read_off (over K d (rest mode) (left i)))
        (length-map (over K d (rest mode) (left i)) read_as ∙ bits_length mode wp n d (bits_of i x) ∙ length_bits_of i x)
