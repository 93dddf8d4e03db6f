-- The laws of the chip, over whole runs.
use Rattle.std.specs.Prelude.{◌≡◌, ℕ, ◌+◌, ◌-◌, ◌*◌, ◌%◌, ◌<◌, ◌≤◌, Bool, true, false, if◌then◌else◌, ◌==◌, ◌↔◌, ◌⊎◌, List, length, replicate, All, slice_index, Some}
use Rattle.datasheet.specs.declared.command.Command.{Command}
use Rattle.datasheet.specs.declared.command.Command.TheVariants.{Read, Write, Fstrd}
use Rattle.datasheet.specs.declared.registers.Registers.{Registers}
use Rattle.datasheet.specs.declared.sheet.Sheet.{Sheet}
use Rattle.datasheet.specs.declared.level.Level.TheVariants.{HighZ}
use Rattle.datasheet.specs.declared.sample.Sample.{Sample}
use Rattle.datasheet.specs.Bits.{number, bits_of, byte_after}
use Rattle.datasheet.specs.Sheets.{density_of, cells}
use Rattle.datasheet.specs.Records.{Record}
use Rattle.datasheet.specs.Commands.{first_data}
use Rattle.datasheet.specs.Places.{next_place, places_on}
use Rattle.datasheet.specs.Sessions.{command, address}
use Rattle.datasheet.specs.Rises.{effect, after_rise}
use Rattle.datasheet.specs.Falls.{data_shown, after_fall}
use Rattle.datasheet.specs.Machines.{left_by, answered_by}
use Rattle.datasheet.specs.Alike.{Alike}
use Rattle.datasheet.specs.Chips.{Keeping, PinState, deselected, selected, in_spoiled, whole}
use Rattle.datasheet.specs.Calls.{ChipState, so, ChipCall, Sendable, put, answers, run}
use Rattle.datasheet.specs.Pasts.{Past, chip_now}
use Rattle.datasheet.specs.Kept.{kept_chip, bounded}
use Rattle.chip_laws.specs.ByDivision.{by_division}

-- What a bounded chip keeps of a session is enough: from any state, every list of calls gets the same answers
-- as by the rules over the full list of bits, and leads to the same record and pins, of which the same is
-- kept.
abbrev pub Enough : Type 0
Enough =
    (c : ChipState (List Bool)) (calls : List ChipCall) →
    (answers bounded (kept_chip c) calls ≡ answers whole c calls)
    × (run bounded (kept_chip c) calls ≡ kept_chip (run whole c calls))

-- the sum at a place, of which the remainder is the place one byte on: the place is that of a cell, so the sum is at
-- most 2^p; the remainder is the sum itself, or 0 where it is 2^p; and a register of p bits, its carry dropped, holds
-- the same
pub record SumFits (s : Sheet) (place : ℕ) : Type 0 where
  pub cell : place < cells s
  pub sum : place + 1 ≤ cells s
  pub kept : next_place s place ≡ (if place + 1 == cells s then 0 else place + 1)
  pub register : number (bits_of (10 + density_of s.t) (place + 1)) ≡ next_place s place

-- so it is where the address counter of an open session stands
abbrev pub CounterFits : Sheet → PinState Registers → Type 0
CounterFits s deselected = Unit {0}
CounterFits s (selected o) = SumFits s o.kept.place

-- of n bits taken, the next one is in data byte k, where data byte 0 begins after `first` bits
abbrev pub InByte : ℕ → ℕ → ℕ → Type 0
InByte first k n = (first + 8 * k ≤ n) × (n < first + 8 * (k + 1))

-- Where READ, FSTRD and WRITE roll over, the remainder of the sum is kept, and nothing else.
pub record RollsOver : Type 0 where
  -- the place one byte on is the remainder of the place plus one
  pub remainder : (s : Sheet) (place : ℕ) → next_place s place ≡ (place + 1) % cells s
  -- no sum for a place passes 2^p: not in the list of a session's bits, from its address on; nor in the registers of a
  -- chip, from any state, after any list of calls
  pub listed : (s : Sheet) (bits : List Bool) (k : ℕ) → SumFits s (places_on s (address s bits) k)
  pub counted :
      (c : ChipState (List Bool)) (calls : List ChipCall) →
      let d : ChipState Registers = run bounded (kept_chip c) calls in
      CounterFits d.sheet d.pins
  -- any number k of bytes on from the address a, the place is (a + k) mod 2^p
  pub places :
      (s : Sheet) (bits : List Bool) (k : ℕ) →
      places_on s (address s bits) k ≡ (address s bits + k) % cells s
  -- so in READ and FSTRD data byte k is that of cell (a + k) mod 2^p, and in WRITE it goes there
  pub shown :
      (s : Sheet) (c : Command) (r : Record) (bits : List Bool) (k : ℕ) → (c ≡ Read) ⊎ (c ≡ Fstrd) →
      let first : ℕ = first_data (Some c) in
      command s bits ≡ Some c → InByte first k (length bits) →
      after_fall s r bits ≡ data_shown first r (length bits) ((address s bits + k) % cells s)
  pub written :
      (s : Sheet) (wp : Bool) (r : Record) (bits : List Bool) (k : ℕ) →
      command s bits ≡ Some Write → length bits ≡ first_data (Some Write) + 8 * (k + 1) →
      after_rise s wp r bits
      ≡ effect s (Some Write) wp r (length bits) ((address s bits + k) % cells s)
      (byte_after (length bits - 8) bits)
  -- no answer alters, and no record: by the cell by one division every list of calls, from any state, is answered the
  -- same, and leads to the same
  pub unaltered :
      (c : ChipState (List Bool)) (calls : List ChipCall) →
      (answers whole c calls ≡ answers by_division c calls) × (run whole c calls ≡ run by_division c calls)

-- a fitted chip: its memory has as many cells as its sheet says, a byte each; its stored bits are a byte
-- whose bits 1 and 0 are 0; and if it sleeps, its latch is 0
pub record Fitted {S : Type 0} (c : ChipState S) : Type 0 where
  pub fit : c.fitted ≡ true
  pub size : length c.rec.memory ≡ cells c.sheet
  pub bytes : (i : ℕ) → slice_index c.rec.memory i < 256
  pub stored-byte : c.rec.stored < 256
  pub stored-high : c.rec.stored % 4 ≡ 0
  pub still : c.rec.asleep ≡ true → c.rec.latch ≡ false

-- Whatever is put to a fitted chip, it stays fitted, and a chip of the same sheet; so a sleeping chip always
-- has its latch at 0.
abbrev pub StaysFitted : Keeping → Type 0
StaysFitted K =
    (c : ChipState K.Kept) (calls : List ChipCall) → Fitted c →
    Fitted (run K c calls) × ((run K c calls).sheet ≡ c.sheet)

-- Any two fitted chips of one sheet that are deselected now, whatever was sent to them before, have equal records
-- exactly when no list of samples and power cycles tells them apart; a refusal is an answer.
abbrev pub ToldApart : Keeping → Type 0
ToldApart K =
    (s : Sheet) (a b : Past s) →
    let c : ChipState K.Kept = chip_now K a in
    let d : ChipState K.Kept = chip_now K b in
    c.pins ≡ deselected → d.pins ≡ deselected →
    (c.rec ≡ d.rec) ↔ Alike Sendable (answers K) (answers K) c d

-- A spoiled session changes nothing: whatever samples follow, until CS rises, the record stays, that is the memory, the
-- stored bits, the latch and the sleep mark; the session stays spoiled; and SO shows high-Z.
abbrev pub SpoiledIsIdle : Keeping → Type 0
SpoiledIsIdle K =
    (c : ChipState K.Kept) (xs : List Sample) → in_spoiled c.pins ≡ true → All (λ (x : Sample). x.cs ≡ false) xs →
    ((left_by (put K) c xs).rec ≡ c.rec)
    × (in_spoiled (left_by (put K) c xs).pins ≡ true)
    × (answered_by (put K) (λ d x. so (put K d x)) c xs ≡ replicate (length xs) HighZ)
