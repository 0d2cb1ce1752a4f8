-- Lists of numbers, and lists indexed by a task's number.
use Rattle.std.specs.Prelude.{Bool, true, false, cond, not, ◌&&◌, ◌||◌, List, [], ◌∷◌, ℕ, suc, max, ◌<◌, eqb, get_or}

-- the entry of task i. Entry 0 belongs to nobody: tasks are numbered from 1
abbrev pub at : List ℕ → ℕ → ℕ
at l i = get_or l i 0

-- every entry is a byte
abbrev pub AllBytes : List ℕ → Type 0
AllBytes l = (k : ℕ) → at l k < 256

-- i stands in the list
unfoldable pub mem : ℕ → List ℕ → Bool
mem i [] = false
mem i (x ∷ xs) = eqb i x || mem i xs

-- the first entry that passes the test, 0 where there is none
unfoldable pub first : (ℕ → Bool) → List ℕ → ℕ
first test [] = 0
first test (x ∷ xs) = elim (test x) [ true ↦ x | false ↦ first test xs ]

-- each entry passes the test
unfoldable pub every : (ℕ → Bool) → List ℕ → Bool
every test [] = true
every test (x ∷ later) = test x && every test later

-- no entry stands twice
unfoldable pub distinct : List ℕ → Bool
distinct [] = true
distinct (x ∷ later) = not (mem x later) && distinct later

-- where i first stands, counted from 0; the list's length where it does not
unfoldable pub place : ℕ → List ℕ → ℕ
place i [] = 0
place i (x ∷ xs) = cond (eqb i x) 0 (suc (place i xs))

-- the largest entry
unfoldable pub largest : List ℕ → ℕ
largest [] = 0
largest (x ∷ xs) = max x (largest xs)
