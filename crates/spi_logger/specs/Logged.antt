-- What a logger keeps: the samples, one behind the other in a buffer, as far as that has room.
use Rattle.std.specs.Prelude.{ℕ, ◌+◌, if◌then◌else◌, List, length, nat_lt, slice_set}
use Rattle.datasheet.specs.declared.sample.Sample.{Sample}

pub record Logged : Type 0 where
  pub buffer : List Sample
  pub count : ℕ

-- one sample more
abbrev pub logging : Logged → Sample → Logged
logging t x =
    if nat_lt t.count (length t.buffer)
    then record { buffer = slice_set t.buffer t.count x; count = t.count + 1 }
    else t
