-- Two deselected fitted chips of one sheet have equal records exactly when no list of calls that can be sent tells them apart.
use Rattle.std.proofs.Common.{◌≡◌, ℕ, ◌+◌, ◌-◌, ◌%◌, ◌^◌, ◌<◌, ◌≤◌, ◌↔◌, Bool, true, false, cond, eqb, List, [], ◌∷◌, ◌++◌, length, get_or, All, take, drop, sym, refl, ap, ◌∙◌, subst, lt_trans, mod-eq_of_lt, arith, Option}
use Rattle.std.proofs.lemmas.Nat.{pow_below}
use Rattle.std.proofs.lemmas.List.{ext_get_or, length_push}
use Rattle.std.proofs.lemmas.List.Elements.{All-nil, All-cons}
use Rattle.datasheet.specs.declared.sheet.Sheet.{Sheet}
use Rattle.datasheet.specs.declared.command.Command.{Command}
use Rattle.datasheet.specs.declared.level.Level.{Level}
use Rattle.datasheet.specs.declared.level.Level.TheVariants.{HighZ}
use Rattle.datasheet.specs.declared.course.Course.TheVariants.{Running}
use Rattle.datasheet.specs.Bits.{bits_of, number, byte_after}
use Rattle.datasheet.specs.Levels.{driven}
use Rattle.datasheet.specs.Sheets.{cells}
use Rattle.datasheet.specs.Records.{Record, status, waking}
use Rattle.datasheet.specs.Sessions.{command, cell_at}
use Rattle.datasheet.specs.Rises.{effect, after_rise}
use Rattle.datasheet.specs.Falls.{after_fall}
use Rattle.datasheet.specs.Alike.{Alike}
use Rattle.datasheet.specs.Chips.{Keeping, deselected, selected, whole}
use Rattle.datasheet.specs.Calls.{ChipState, ChipCall, ChipCall.sample, Sendable, ChipAnswer, shows, answers}
use Rattle.datasheet.specs.Pasts.{chip_now}
use Rattle.datasheet.specs.Mode0.{clocks, session, bit_read, read_at_rises}
use Rattle.datasheet.specs.Kept.{bounded}
use Rattle.chip_laws.specs.Laws.{Fitted, StaysFitted, ToldApart}
use Rattle.chip_laws.proofs.Bits.{number_bits_of}
use Rattle.chip_laws.proofs.Simulation.{command_kept}
use Rattle.chip_laws.proofs.Follow.{enough}
use Rattle.chip_laws.proofs.Stays.{Good, good, past_fitted, stays_fitted_whole, stays_fitted}

-- ## Sessions that change nothing

-- a command that only reads
abbrev Reads : Sheet → Option Command → Type 0
Reads s c = (wp : Bool) (r : Record) (n a x : ℕ) → effect s c wp r n a x ≡ r

-- after these bits, no rise that takes one of the bits bs changes the record
abbrev Quiet : Sheet → Record → List Bool → List Bool → Type 0
Quiet s r bits [] = Unit {0}
Quiet s r bits (b ∷ bs) = (after_rise s true r (bits ++ b ∷ []) ≡ r) × Quiet s r (bits ++ b ∷ []) bs

quiet_late : (s : Sheet) (r : Record) (bits bs : List Bool) → 8 ≤ length bits → Reads s (command s bits) → Quiet s r bits bs
quiet_late s r bits [] h k = tt
quiet_late s r bits (b ∷ bs) h k =
    let bits' = bits ++ b ∷ [] in
    let k' = subst (Reads s) (sym (command_kept s bits b h)) k in (
      k' true r (length bits') (cell_at s 32 bits') (byte_after (length bits' - 8) bits'),
      quiet_late s r bits' bs (simp length_push (omega arith)) k',
    )

quiet : (s : Sheet) (r : Record) (code : ℕ) (bs : List Bool) →
    Reads s (command s (bits_of 8 code)) → Quiet s r [] (bits_of 8 code ++ bs)
quiet s r code bs k =
    (refl, (refl, (refl, (refl, (refl, (refl, (refl, (k true r 8 _ _, quiet_late s r (bits_of 8 code) bs (omega arith) k))))))))

-- what is read at the rises of such bits, from a chip that is awake
abbrev reading : Sheet → Record → List Bool → Level → List Bool → List Bool
reading s r bits l [] = []
reading s r bits l (b ∷ bs) = bit_read (shows l) ∷ reading s r (bits ++ b ∷ []) (after_fall s r (bits ++ b ∷ [])) bs

module _ (s : Sheet) (r : Record) where
  abbrev selected_at : List Bool → Level → ChipState (List Bool)
  selected_at bits l = record { sheet = s; fitted = true; rec = waking r; pins = selected (record { sck = false; course = Running; kept = bits; so = l }) }

  clocked : (bits : List Bool) (l : Level) (b : Bool) (xs : List ChipCall) →
      let bits' = bits ++ b ∷ [] in
      let l' = after_fall s (waking r) bits' in
      after_rise s true (waking r) bits' ≡ waking r →
      answers whole (selected_at bits l) (sample (cond b 0x1E 0x1A) ∷ sample (cond b 0x1C 0x18) ∷ xs)
      ≡ shows l ∷ shows l' ∷ answers whole (selected_at bits' l') xs
  clocked bits l true xs q = rw q
  clocked bits l false xs q = rw q

  hears : (a : ChipAnswer) (bits : List Bool) (l : Level) (bs : List Bool) → Quiet s (waking r) bits bs →
      read_at_rises (a ∷ answers whole (selected_at bits l) (clocks bs)) ≡ reading s (waking r) bits l bs
  hears a bits l [] q = refl
  hears a bits l (b ∷ bs) q =
      let bits' = bits ++ b ∷ [] in
      let l' = after_fall s (waking r) bits' in
      ap (λ (xs : List ChipAnswer). read_at_rises (a ∷ xs)) (clocked bits l b (clocks bs) q.0)
      ∙ ap (λ (xs : List Bool). bit_read (shows l) ∷ xs) (hears (shows l') bits' l' bs q.1)

bit_is_read : (t : Bool) → bit_read (shows (driven t)) ≡ t
bit_is_read true = refl
bit_is_read false = refl

-- RDSR reads the status, and READ with the sixteen address bits of i reads a cell
abbrev rdsr : List Bool
rdsr = bits_of 8 5 ++ bits_of 8 0

abbrev read : ℕ → List Bool
read i = bits_of 8 3 ++ (bits_of 16 i ++ bits_of 8 0)

reading_status : (s : Sheet) (r : Record) → take 8 (drop 8 (reading s r [] HighZ rdsr)) ≡ bits_of 8 (status r)
reading_status s r = simp bit_is_read

reading_cell : (s : Sheet) (r : Record) (i : ℕ) →
    take 8 (drop 24 (reading s r [] HighZ (read i)))
    ≡ bits_of 8 (get_or r.memory (number (bits_of 16 i) % cells s) 0)
reading_cell s r i = simp bit_is_read

-- ## What three lists of calls tell

abbrev resting : {S : Type 0} → Sheet → Record → ChipState S
resting s r = record { sheet = s; fitted = true; rec = r; pins = deselected }

-- the byte that is read after the first i bits of a session
abbrev seen : ℕ → List ChipAnswer → ℕ
seen i xs = byte_after i (read_at_rises xs)

-- a session of no bits wakes a sleeping chip, and does nothing to one that is awake
abbrev wake : List ChipCall → List ChipCall
wake xs = sample 0x18 ∷ sample 0x19 ∷ xs

module _ (s : Sheet) (r : Record) (f : Good s r) where
  sees : (i v : ℕ) (bs : List Bool) → Quiet s (waking r) [] bs →
      take 8 (drop i (reading s (waking r) [] HighZ bs)) ≡ bits_of 8 v → v < 256 →
      seen i (answers whole (resting s (waking r)) (session bs)) ≡ v
  sees i v bs q e h =
      ap (byte_after i) (hears s r (shows HighZ) [] HighZ bs q) ∙ ap number e ∙ number_bits_of 8 v ∙ mod-eq_of_lt h

  woken : (xs : List ChipCall) → drop 2 (answers whole (resting s r) (wake xs)) ≡ answers whole (resting s (waking r)) xs
  woken xs =
      let w : cond r.asleep (waking r) r ≡ waking r = grind arith in
      ap (λ (q : Record). answers whole (resting s q) xs) w

  status_seen : seen 8 (answers whole (resting s (waking r)) (session rdsr)) ≡ status r
  status_seen =
      sees 8 (status r) rdsr (quiet s (waking r) 5 (bits_of 8 0) (λ wp q n a x. refl))
      (reading_status s (waking r)) (grind arith)

  -- in a sleeping chip SO stays high-Z and reads as 1
  asleep_seen : (a : Bool) →
      let q : Record = record { memory = r.memory; stored = r.stored; latch = r.latch; asleep = a } in
      eqb (seen 8 (answers whole (resting s q) (session rdsr))) 255 ≡ a
  asleep_seen true = refl
  asleep_seen false = rw status_seen (grind arith)

  place_is : (i : ℕ) → i < cells s → number (bits_of 16 i) % cells s ≡ i
  place_is i l =
      let b : cells s < 2 ^ 16 = pow_below (10 + s.t % 32) 16 (omega (arith, s.known)) in
      rw (number_bits_of 16 i, mod-eq_of_lt (lt_trans l b)) (mod-eq_of_lt l)

  cell_seen : (i : ℕ) → i < cells s → seen 24 (answers whole (resting s (waking r)) (session (read i))) ≡ get_or r.memory i 0
  cell_seen i l =
      sees 24 (get_or r.memory i 0) (read i) (quiet s (waking r) 3 (bits_of 16 i ++ bits_of 8 0) (λ wp q n a x. refl))
      (reading_cell s (waking r) i ∙ ap (λ (j : ℕ). bits_of 8 (get_or r.memory j 0)) (place_is i l)) (f.bytes i)

-- ## These lists can be sent

can_sample : (byte : ℕ) (xs : List ChipCall) → byte < 256 → All Sendable xs → All Sendable (sample byte ∷ xs)
can_sample byte xs = All-cons Sendable (sample byte) xs

can_clock : (bs : List Bool) → All Sendable (clocks bs)
can_clock [] = can_sample 0x19 [] (omega arith) (All-nil Sendable)
can_clock (true ∷ bs) = can_sample 0x1E (sample 0x1C ∷ clocks bs) (omega arith) (can_sample 0x1C (clocks bs) (omega arith) (can_clock bs))
can_clock (false ∷ bs) = can_sample 0x1A (sample 0x18 ∷ clocks bs) (omega arith) (can_sample 0x18 (clocks bs) (omega arith) (can_clock bs))

can_send : (bs : List Bool) → All Sendable (session bs)
can_send bs = can_sample 0x18 (clocks bs) (omega arith) (can_clock bs)

can_wake : (xs : List ChipCall) → All Sendable xs → All Sendable (wake xs)
can_wake xs h = can_sample 0x18 (sample 0x19 ∷ xs) (omega arith) (can_sample 0x19 xs (omega arith) h)

-- ## The law

-- nothing that can be sent tells these chips of one sheet apart, by the rules over the full list of bits
abbrev Untold : Sheet → Record → Record → Type 0
Untold s r q = Alike Sendable (answers whole) (answers whole) (resting s r) (resting s q)

module _ (s : Sheet) (r q : Record) (f : Good s r) (g : Good s q) (h : Untold s r q) where
  awake_alike : Untold s (waking r) (waking q)
  awake_alike xs can = sym (woken s r f xs) ∙ ap (drop 2) (h (wake xs) (can_wake xs can)) ∙ woken s q g xs

  same_asleep : r.asleep ≡ q.asleep
  same_asleep =
      sym (asleep_seen s r f r.asleep)
      ∙ ap (λ (xs : List ChipAnswer). eqb (seen 8 xs) 255) (h (session rdsr) (can_send rdsr))
      ∙ asleep_seen s q g q.asleep

  same_status : status r ≡ status q
  same_status = sym (status_seen s r f) ∙ ap (seen 8) (awake_alike (session rdsr) (can_send rdsr)) ∙ status_seen s q g

  same_memory : r.memory ≡ q.memory
  same_memory =
      ext_get_or 0 r.memory q.memory (f.size ∙ sym g.size)
      (λ i l. let k : i < cells s = rw f.size at l in
      sym (cell_seen s r f i k) ∙ ap (seen 24) (awake_alike (session (read i)) (can_send (read i))) ∙ cell_seen s q g i k)

  same : r ≡ q
  same =
      let a = same_asleep in
      let b = same_status in
      let c = same_memory in
      grind arith

-- the law, of fitted chips of one sheet
abbrev pub FittedToldApart : Keeping → Type 0
FittedToldApart K =
    (c d : ChipState K.Kept) → Fitted c → Fitted d → c.pins ≡ deselected → d.pins ≡ deselected → c.sheet ≡ d.sheet →
    (c.rec ≡ d.rec) ↔ Alike Sendable (answers K) (answers K) c d

-- from chips at rest to any two deselected chips of one sheet
module _ (K : Keeping)
    (told : (s : Sheet) (r q : Record) → Good s r → Good s q →
    Alike Sendable (answers K) (answers K) (resting s r) (resting s q) → r ≡ q) where
  at_rest : (s : Sheet) (c : ChipState K.Kept) → c.sheet ≡ s → c.fitted ≡ true → c.pins ≡ deselected →
      c ≡ resting s c.rec
  at_rest s c e f p i = record { sheet = e i; fitted = f i; rec = c.rec; pins = p i }

  apart : FittedToldApart K
  apart c d f g p o e =
      let s = c.sheet in
      let x = at_rest s c refl f.fit p in
      let y = at_rest s d (sym e) g.fit o in (
        λ h calls can. ap (λ (z : ChipState K.Kept). answers K z calls) (x ∙ ap (resting s) h ∙ sym y),
        λ h. told s c.rec d.rec (good c f) (rw e (good d g)) (rw (x, y) at h),
      )

fitted_apart_whole : FittedToldApart whole
fitted_apart_whole = apart whole same

pub fitted_apart : FittedToldApart bounded
fitted_apart =
    apart bounded
    (λ s r q f g h. same s r q f g (λ calls can.
    sym (enough (resting s r) calls).0 ∙ h calls can ∙ (enough (resting s q) calls).0))

-- and so of chips of one sheet with any past
module _ (K : Keeping) (stays : StaysFitted K) (told : FittedToldApart K) where
  past_apart : ToldApart K
  past_apart s a b p q =
      let f = past_fitted K stays s a in
      let g = past_fitted K stays s b in
      told (chip_now K a) (chip_now K b) f.0 g.0 p q (f.1 ∙ sym g.1)

pub told_apart_whole : ToldApart whole
told_apart_whole = past_apart whole stays_fitted_whole fitted_apart_whole

pub told_apart : ToldApart bounded
told_apart = past_apart bounded stays_fitted fitted_apart
