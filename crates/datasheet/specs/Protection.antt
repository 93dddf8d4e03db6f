-- What may be written.
use Rattle.std.specs.Prelude.{ℕ, ◌-◌, ◌/◌, ◌%◌, Bool, if◌then◌else◌, not, ◌&&◌, ◌==◌, nat_le}
use Rattle.datasheet.specs.declared.sheet.Sheet.{Sheet}
use Rattle.datasheet.specs.Sheets.{cells}
use Rattle.datasheet.specs.Records.{Record, wpen}

-- BP1 and BP0 as a number: 0 for 00, 1 for 01, 2 for 10, 3 for 11
abbrev pub block_protect : Record → ℕ
block_protect r = r.stored / 4 % 4

-- the first protected cell, all after it being protected too
abbrev pub first_protected : Sheet → Record → ℕ
first_protected s r =
    -- 00: no cell is protected
    if block_protect r == 0 then cells s
    -- 01: the upper quarter of the cells
    else if block_protect r == 1 then cells s - cells s / 4
    -- 10: the upper half
    else if block_protect r == 2 then cells s / 2
    -- 11: all
    else 0

abbrev pub protected : Sheet → Record → ℕ → Bool
protected s r a = nat_le (first_protected s r) a

-- WRITE may put a byte into cell a: WEL is 1 and the cell is not protected
abbrev pub may_write : Sheet → Record → ℕ → Bool
may_write s r a = r.latch && not (protected s r a)

-- WRSR may store at this level of WP: WEL is 1, and not both WPEN is 1 and WP is low
abbrev pub may_store : Bool → Record → Bool
may_store wp r = r.latch && not (wpen r && not wp)
