-- The numbers that a call can take.
use Rattle.std.specs.Prelude.{ℕ, ◌^◌, ◌<◌}

-- a byte
abbrev pub Byte : ℕ → Type 0
Byte n = n < 256

-- a machine number: it has 64 bits
abbrev pub MachineNumber : ℕ → Type 0
MachineNumber n = n < 2 ^ 64
