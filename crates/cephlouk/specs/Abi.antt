-- The number of the exported functions and of the layouts that they take and answer.
use Rattle.std.specs.Prelude.{ℕ}

abbrev pub abi : ℕ
abi = 1
