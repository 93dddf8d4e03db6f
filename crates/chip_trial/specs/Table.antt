-- The trial table.
use Rattle.std.specs.Prelude.{ℕ, List, [], ◌∷◌}
use Rattle.datasheet.specs.declared.part.Part.TheVariants.{Mb85rs64vy, Mb85rs256b}
use Rattle.chip_trial.specs.declared.Change.{Change}
use Rattle.chip_trial.specs.declared.WindowCase.{WindowCase}
use Rattle.chip_trial.specs.Cases.{unheld, amid, low_at_the_start, Sent, PinRow, Row, pins, window}

-- ## The sessions

-- so many bits of these bytes
abbrev pub bits_of : ℕ → List ℕ → Sent
bits_of n bytes = record { bytes = bytes; bits = n; hold = unheld }

-- a session in which HOLD falls behind so many bits with SCK low, and is let go with SCK high; then SCK falls
abbrev pub let_go_behind : ℕ → Sent → Sent
let_go_behind n s = record s { hold = amid n (0x08 ∷ 0x0A ∷ 0x1A ∷ 0x18 ∷ []) }

-- one in which HOLD falls in the sample of a rise behind so many bits, and is let go with SCK low
abbrev pub let_go_low_behind : ℕ → Sent → Sent
let_go_low_behind n s = record s { hold = amid n (0x0A ∷ 0x18 ∷ []) }

-- one in which it falls so, SCK moves, and it is released at the level of its fall; then SCK falls
abbrev pub held_behind : ℕ → Sent → Sent
held_behind n s = record s { hold = amid n (0x0A ∷ 0x08 ∷ 0x1A ∷ 0x18 ∷ []) }

-- one in which HOLD falls behind so many bits, and CS rises in the sample that lets it go at the other level
abbrev pub ended_at_release : ℕ → Sent → Sent
ended_at_release n s = record s { hold = amid n (0x08 ∷ 0x1B ∷ []) }

-- one in which HOLD is low when CS falls, and is let go at the other level of SCK
abbrev pub low_when_begun : Sent → Sent
low_when_begun s = record s { hold = low_at_the_start }

abbrev pub wren : Sent
wren = bits_of 8 (0x06 ∷ [])

abbrev pub rdsr : Sent
rdsr = bits_of 16 (0x05 ∷ 0 ∷ [])

-- WRSR with the data byte 8Ch
abbrev pub wrsr_8C : Sent
wrsr_8C = bits_of 16 (0x01 ∷ 0x8C ∷ [])

-- so many bits of a WRITE of AAh and BBh at the place of these two bytes
abbrev pub write_bits : ℕ → ℕ → ℕ → Sent
write_bits n high low = bits_of n (0x02 ∷ high ∷ low ∷ 0xAA ∷ 0xBB ∷ [])

-- a READ of two cells at the place of these two bytes
abbrev pub read_two : ℕ → ℕ → Sent
read_two high low = bits_of 40 (0x03 ∷ high ∷ low ∷ 0 ∷ 0 ∷ [])

-- so many bits of SLEEP and a byte of zeros behind it
abbrev pub sleep_bits : ℕ → List ℕ → Sent
sleep_bits n behind = bits_of n (0xB9 ∷ behind)

-- ## The rows

-- a cell that must hold this byte
abbrev pub now_holds : ℕ → ℕ → Change
now_holds cell byte = record { cell = cell; byte = byte }

-- WREN, WRSR 8Ch, RDSR: the latch stays on an MB85RS64VY
abbrev pub latch_kept : PinRow
latch_kept =
    record {
      part = Mb85rs64vy;
      stored = 0;
      before = wren ∷ wrsr_8C ∷ [];
      last = rdsr;
      seen = 0xFF ∷ 0x8E ∷ [];
      changed = [];
    }

-- and falls on an MB85RS256B
abbrev pub latch_dropped : PinRow
latch_dropped =
    record {
      part = Mb85rs256b;
      stored = 0;
      before = wren ∷ wrsr_8C ∷ [];
      last = rdsr;
      seen = 0xFF ∷ 0x8C ∷ [];
      changed = [];
    }

-- WRITE of two bytes at the last cell: the second goes to cell 0
abbrev pub rolls_over : PinRow
rolls_over =
    record {
      part = Mb85rs64vy;
      stored = 0;
      before = wren ∷ write_bits 40 0x1F 0xFF ∷ [];
      last = read_two 0x1F 0xFF;
      seen = 0xFF ∷ 0xFF ∷ 0xFF ∷ 0xAA ∷ 0xBB ∷ [];
      changed = now_holds 0x1FFF 0xAA ∷ now_holds 0 0xBB ∷ [];
    }

-- WRITE across the edge of a protected quarter: the cell behind the edge is unchanged
abbrev pub protected_edge : PinRow
protected_edge =
    record {
      part = Mb85rs64vy;
      stored = 0x04;
      before = wren ∷ write_bits 40 0x17 0xFF ∷ [];
      last = read_two 0x17 0xFF;
      seen = 0xFF ∷ 0xFF ∷ 0xFF ∷ 0xAA ∷ 0 ∷ [];
      changed = now_holds 0x17FF 0xAA ∷ [];
    }

-- fifteen data bits change one cell
abbrev pub fifteen_bits : PinRow
fifteen_bits =
    record {
      part = Mb85rs64vy;
      stored = 0;
      before = wren ∷ write_bits 39 0x00 0x10 ∷ [];
      last = read_two 0x00 0x10;
      seen = 0xFF ∷ 0xFF ∷ 0xFF ∷ 0xAA ∷ 0 ∷ [];
      changed = now_holds 0x0010 0xAA ∷ [];
    }

-- seven bits of WREN leave the latch 0
abbrev pub seven_bits : PinRow
seven_bits =
    record {
      part = Mb85rs64vy;
      stored = 0;
      before = bits_of 7 (0x06 ∷ []) ∷ [];
      last = rdsr;
      seen = 0xFF ∷ 0x00 ∷ [];
      changed = [];
    }

-- SLEEP with nine bits does not sleep
abbrev pub nine_bits : PinRow
nine_bits =
    record {
      part = Mb85rs64vy;
      stored = 0;
      before = sleep_bits 9 (0 ∷ []) ∷ [];
      last = rdsr;
      seen = 0xFF ∷ 0x00 ∷ [];
      changed = [];
    }

-- asleep, RDSR answers FF FF
abbrev pub asleep : PinRow
asleep =
    record {
      part = Mb85rs64vy;
      stored = 0;
      before = sleep_bits 8 [] ∷ [];
      last = rdsr;
      seen = 0xFF ∷ 0xFF ∷ [];
      changed = [];
    }

-- a second RDSR answers FF 00
abbrev pub awake_again : PinRow
awake_again =
    record {
      part = Mb85rs64vy;
      stored = 0;
      before = sleep_bits 8 [] ∷ rdsr ∷ [];
      last = rdsr;
      seen = 0xFF ∷ 0x00 ∷ [];
      changed = [];
    }

-- HOLD let go at the other level of SCK inside an op-code: WREN does not set the latch
abbrev pub let_go_in_op_code : PinRow
let_go_in_op_code =
    record {
      part = Mb85rs64vy;
      stored = 0;
      before = let_go_behind 4 wren ∷ [];
      last = rdsr;
      seen = 0xFF ∷ 0x00 ∷ [];
      changed = [];
    }

-- inside an address: WRITE writes nothing
abbrev pub let_go_in_address : PinRow
let_go_in_address =
    record {
      part = Mb85rs64vy;
      stored = 0;
      before = wren ∷ let_go_behind 16 (write_bits 40 0x00 0x10) ∷ [];
      last = read_two 0x00 0x10;
      seen = 0xFF ∷ 0xFF ∷ 0xFF ∷ 0 ∷ 0 ∷ [];
      changed = [];
    }

-- inside the second data byte of WRITE: the first stands, and the second is not written
abbrev pub let_go_in_data : PinRow
let_go_in_data =
    record {
      part = Mb85rs64vy;
      stored = 0;
      before = wren ∷ let_go_behind 36 (write_bits 40 0x00 0x10) ∷ [];
      last = read_two 0x00 0x10;
      seen = 0xFF ∷ 0xFF ∷ 0xFF ∷ 0xAA ∷ 0 ∷ [];
      changed = now_holds 0x0010 0xAA ∷ [];
    }

-- while RDSR shows the status: SO is high-Z from there on
abbrev pub let_go_in_status : PinRow
let_go_in_status =
    record {
      part = Mb85rs64vy;
      stored = 0;
      before = wren ∷ [];
      last = let_go_behind 12 rdsr;
      seen = 0xFF ∷ 0x0F ∷ [];
      changed = [];
    }

-- behind the eight bits of SLEEP: the chip does not sleep
abbrev pub let_go_behind_sleep : PinRow
let_go_behind_sleep =
    record {
      part = Mb85rs64vy;
      stored = 0;
      before = let_go_behind 8 (sleep_bits 8 []) ∷ [];
      last = rdsr;
      seen = 0xFF ∷ 0x00 ∷ [];
      changed = [];
    }

-- in a session that began asleep: its end wakes the chip
abbrev pub let_go_asleep : PinRow
let_go_asleep =
    record {
      part = Mb85rs64vy;
      stored = 0;
      before = sleep_bits 8 [] ∷ let_go_behind 4 rdsr ∷ [];
      last = rdsr;
      seen = 0xFF ∷ 0x00 ∷ [];
      changed = [];
    }

-- behind a WRSR on an MB85RS256B: the byte is stored, and the latch stays
abbrev pub let_go_behind_wrsr : PinRow
let_go_behind_wrsr =
    record {
      part = Mb85rs256b;
      stored = 0;
      before = wren ∷ let_go_behind 16 wrsr_8C ∷ [];
      last = rdsr;
      seen = 0xFF ∷ 0x8E ∷ [];
      changed = [];
    }

-- HOLD low when CS falls, and let go at the other level of SCK: WREN does not set the latch
abbrev pub low_when_cs_falls : PinRow
low_when_cs_falls =
    record {
      part = Mb85rs64vy;
      stored = 0;
      before = low_when_begun wren ∷ [];
      last = rdsr;
      seen = 0xFF ∷ 0x00 ∷ [];
      changed = [];
    }

-- HOLD falls in the sample of a rise and is let go with SCK low: WREN does not set the latch
abbrev pub let_go_low : PinRow
let_go_low =
    record {
      part = Mb85rs64vy;
      stored = 0;
      before = let_go_low_behind 7 wren ∷ [];
      last = rdsr;
      seen = 0xFF ∷ 0x00 ∷ [];
      changed = [];
    }

-- HOLD falls so, SCK moves meanwhile, and HOLD is released at the level of its fall: WREN sets the latch
abbrev pub held_and_released : PinRow
held_and_released =
    record {
      part = Mb85rs64vy;
      stored = 0;
      before = held_behind 4 wren ∷ [];
      last = rdsr;
      seen = 0xFF ∷ 0x02 ∷ [];
      changed = [];
    }

-- CS rises in the sample that lets HOLD go at the other level, behind the eight bits of SLEEP: the session ends as ever,
-- and the chip sleeps
abbrev pub cs_rises_at_release : PinRow
cs_rises_at_release =
    record {
      part = Mb85rs64vy;
      stored = 0;
      before = ended_at_release 8 (sleep_bits 8 []) ∷ [];
      last = rdsr;
      seen = 0xFF ∷ 0xFF ∷ [];
      changed = [];
    }

-- inside the second data byte of a WRITE on an MB85RS256B: the first stands, and the latch stays
abbrev pub let_go_in_write : PinRow
let_go_in_write =
    record {
      part = Mb85rs256b;
      stored = 0;
      before = wren ∷ let_go_behind 36 (write_bits 40 0x00 0x10) ∷ [];
      last = rdsr;
      seen = 0xFF ∷ 0x02 ∷ [];
      changed = now_holds 0x0010 0xAA ∷ [];
    }

-- of eight cells, three are left behind cell 5
abbrev pub three_left : WindowCase
three_left = record { cells = 8; offset = 5; count = 10; size = 3 }

-- none is left behind the last
abbrev pub none_left : WindowCase
none_left = record { cells = 8; offset = 8; count = 10; size = 0 }

-- ## The table

abbrev pub table : List Row
table =
    pins latch_kept ∷ pins latch_dropped ∷ pins rolls_over ∷ pins protected_edge ∷ pins fifteen_bits
    ∷ pins seven_bits ∷ pins nine_bits ∷ pins asleep ∷ pins awake_again
    ∷ pins let_go_in_op_code ∷ pins let_go_in_address ∷ pins let_go_in_data ∷ pins let_go_in_status
    ∷ pins let_go_behind_sleep ∷ pins let_go_asleep ∷ pins let_go_behind_wrsr ∷ pins low_when_cs_falls
    ∷ pins let_go_low ∷ pins held_and_released ∷ pins cs_rises_at_release ∷ pins let_go_in_write
    ∷ window three_left ∷ window none_left ∷ []
