-- No ground has the number 0, which says that there is none.
use Rattle.std.proofs.Common.{◌<◌, arith}
use Rattle.std.proofs.lemmas.Grind.{common_steps}
use Rattle.refusal.specs.declared.Refusal.{Refusal}
use Rattle.refusal.specs.Number.{number_of}

pub some_number : (r : Refusal) → 0 < number_of r
some_number r = grind (arith, common_steps)
