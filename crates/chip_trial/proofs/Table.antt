-- Every row of the table is right: the checker computes it.
use Rattle.std.proofs.Common.{refl}
use Rattle.chip_trial.specs.Laws.{TableRight}

pub table_right : TableRight
table_right = record { every = (refl, (refl, (refl, (refl, (refl, (refl, (refl, (refl, (refl, (refl, (refl, (refl, (refl, (refl, (refl, (refl, (refl, (refl, (refl, (refl, (refl, (refl, (refl, tt))))))))))))))))))))))) }
