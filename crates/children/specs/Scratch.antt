-- Where the columns of the scratch array begin.
use Rattle.std.specs.Prelude.{List, ℕ, ◌+◌, ◌*◌}
use Rattle.numbers.specs.Lists.{at}
use Rattle.numbers.specs.Limits.{max_tasks}
use Rattle.children.specs.declared.scratch.Column.{Column}
use Rattle.children.specs.declared.scratch.Column.TheVariants.{First, Sibling, Queue, SubtreePeak, Head, After}

-- a column has an entry for every task and one for nobody
abbrev pub tall : ℕ
tall = max_tasks + 1

abbrev pub first : ℕ
first = 0

abbrev pub sibling : ℕ
sibling = tall

abbrev pub queue : ℕ
queue = 2 * tall

abbrev pub subtree_peak : ℕ
subtree_peak = 3 * tall

abbrev pub head : ℕ
head = 4 * tall

abbrev pub after : ℕ
after = 5 * tall

abbrev pub cells : ℕ
cells = 6 * tall

abbrev pub base_of : Column → ℕ
base_of First = first
base_of Sibling = sibling
base_of Queue = queue
base_of SubtreePeak = subtree_peak
base_of Head = head
base_of After = after

-- the entry of a task in a column
abbrev pub field : ℕ → List ℕ → ℕ → ℕ
field column w i = at w (column + i)
