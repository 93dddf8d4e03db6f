-- Samples put by their bytes, in a list of calls.
use Rattle.std.proofs.Common.{◌≡◌, ℕ, ◌/◌, ◌%◌, ◌<◌, Bool, true, false, cond, eqb, ltb, Ok, Err, Result, refl, ap, ◌∙◌, arith}
use Rattle.std.proofs.lemmas.Bool.{lt-ltb}
use Rattle.datasheet.specs.declared.refusal.Refusal.{Refusal}
use Rattle.datasheet.specs.declared.refusal.Refusal.TheVariants.{NotASample}
use Rattle.datasheet.specs.declared.sample.Sample.{Sample}
use Rattle.datasheet.specs.Bits.{bit}
use Rattle.datasheet.specs.Samples.{sample_of, levels, byte_of}
use Rattle.datasheet.specs.Chips.{Keeping}
use Rattle.datasheet.specs.Calls.{ChipState, ChipCall.sample, shows, answer_of, so, sampled_as, answered_as, put, after, answer}
use Rattle.datasheet.proofs.Machines.{simulates}
use Rattle.spi_model.specs.Laws.{AsCalls}

-- ## The byte of a sample stands for its levels

bit_small : (b : Bool) → bit b < 2
bit_small true = omega arith
bit_small false = omega arith

bit_back : (b : Bool) → eqb (bit b) 1 ≡ b
bit_back true = refl
bit_back false = refl

module _ (x : Sample) where
  digit : (i : ℕ) (b : Bool) → byte_of x / i % 2 ≡ bit b → eqb (byte_of x / i % 2) 1 ≡ b
  digit i b e = ap (λ (n : ℕ). eqb n 1) e ∙ bit_back b

  levels_back : levels (byte_of x) ≡ x
  levels_back i =
      let a = bit_small x.cs in
      let b = bit_small x.sck in
      let c = bit_small x.si in
      let d = bit_small x.wp in
      let e = bit_small x.hold in
      record {
        cs = digit 1 x.cs (omega arith) i;
        sck = digit 2 x.sck (omega arith) i;
        si = digit 4 x.si (omega arith) i;
        wp = digit 8 x.wp (omega arith) i;
        hold = digit 16 x.hold (omega arith) i;
      }

  legal : ltb (byte_of x) 32 ≡ true
  legal =
      lt-ltb _ 32 (omega (arith, bit_small x.cs, bit_small x.sck, bit_small x.si, bit_small x.wp, bit_small x.hold))

  byte_back : sample_of (byte_of x) ≡ Ok x
  byte_back =
      ap (λ (t : Bool). cond t (Ok (levels (byte_of x))) (Err NotASample)) legal ∙ ap (λ (y : Sample). Ok y) levels_back

-- ## The calls

module _ (K : Keeping) where
  put_as_call : (c d : ChipState K.Kept) (x : Sample) → c ≡ d →
      (after K c (sample (byte_of x)) ≡ put K d x) × (answer K c (sample (byte_of x)) ≡ shows (so (put K d x)))
  put_as_call c d x same =
      let e = byte_back x in (
        ap (sampled_as K c) e ∙ ap (λ (y : ChipState K.Kept). put K y x) same,
        ap (λ (y : Result Sample Refusal). answer_of (answered_as K c y)) e ∙ ap (λ (y : ChipState K.Kept). shows (so (put K y x))) same,
      )

  pub put_as_calls : AsCalls K
  put_as_calls c xs =
      simulates (after K) (answer K) (put K) (λ d x. so (put K d x)) (λ x. sample (byte_of x)) shows (λ d e rest. d ≡ e)
      (λ d e x rest same. put_as_call d e x same) c c xs refl
