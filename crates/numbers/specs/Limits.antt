-- "Limits: n is 1 to 1,024; p is 1 to 64; work and out are 0 to 65,535; M is any unsigned 32-bit number, 0 included", and a start
-- list "of at least 64 entries".
use Rattle.std.specs.Prelude.{ℕ}

-- the most tasks (steps) of a plan
abbrev pub max_tasks : ℕ
max_tasks = 1024

-- the most processors (stations)
abbrev pub max_processors : ℕ
max_processors = 64

-- the largest count of work and of out
abbrev pub max_count : ℕ
max_count = 65535

-- the most places of a store: the largest memory bound M
abbrev pub max_bound : ℕ
max_bound = 4294967295

-- the fewest entries of a start list that is accepted
abbrev pub least_starts : ℕ
least_starts = 64
