-- What an accepted command does to the plan.
use Rattle.std.specs.Prelude.{cond, List, [], ◌∷◌, ◌++◌, ℕ, suc, ◌-◌, eqb, length, set, replicate}
use Rattle.books.specs.Kind.{Kind, chilled, Each, of, each, put}
use Rattle.numbers.specs.Lists.{at}
use Rattle.tree.specs.Peak.{Peaked}
use Rattle.rules.specs.Phase
use Rattle.books.specs.Standing
use Rattle.rules.specs.State.{Store, State, root_of, needs_in, store_of}
use Rattle.format.specs.Command.{Command, plan, task, activation, execution, begin, done, fetch, places}
use Rattle.rules.specs.Grounds.{no_execution, peaks_of, no_peaks}
use Rattle.books.specs.Booking.{Terms, Books, Climbed, activate, starts, start, dispatch}

-- what an accepted command leaves: the plan, the tasks that it starts, in order, the peaks with their tasks (BEGIN only) and the offers
-- (DONE only)
pub record Outcome : Type 0 where
  pub state : State
  pub started : List ℕ
  pub peaks : Each Peaked
  pub offers : ℕ

-- "PLAN: drop the old plan, open a new one"
unfoldable pub opened : ℕ → ℕ → ℕ → State
opened n p bound =
    record {
      phase = Phase.steps;
      size = n;
      processors = p;
      parents = 0 ∷ [];
      activation = [];
      execution = [];
      standings = [];
      stores = each (λ k. record { bound = bound; works = 0 ∷ []; outs = 0 ∷ []; booked = [] });
    }

-- a store with the counts of one task more
abbrev pub with_counts : Store → ℕ → ℕ → Store
with_counts store work out =
    record {
      bound = store.bound;
      works = store.works ++ (work ∷ []);
      outs = store.outs ++ (out ∷ []);
      booked = store.booked;
    }

-- "STEP: the next step; the first is step 1"; "the n-th leads to orders"
unfoldable pub with_task : State → ℕ → ℕ → ℕ → State
with_task s parent work out =
    record {
      phase = cond (eqb (length s.parents) s.size) Phase.orders Phase.steps;
      size = s.size;
      processors = s.processors;
      parents = s.parents ++ (parent ∷ []);
      activation = s.activation;
      execution = s.execution;
      standings = s.standings;
      stores = each (λ k. with_counts (store_of s k) work out);
    }

-- the plan with other orders
unfoldable pub with_orders : State → List ℕ → List ℕ → State
with_orders s act exec =
    record {
      phase = s.phase;
      size = s.size;
      processors = s.processors;
      parents = s.parents;
      activation = act;
      execution = exec;
      standings = s.standings;
      stores = s.stores;
    }

-- "with the activation order used for both", where no 04 was given
unfoldable pub execution_order : State → List ℕ
execution_order s = cond (no_execution s) s.activation s.execution

-- the plan with both orders: "Once it is accepted the execution order counts as complete"
unfoldable pub completed : State → State
completed s = with_orders s s.activation (execution_order s)

-- a store with other booked trays
abbrev pub with_booked : Store → List ℕ → Store
with_booked store b = record { bound = store.bound; works = store.works; outs = store.outs; booked = b }

-- the plan in a phase of its day, with other standings and booked trays
unfoldable pub with_books : State → ℕ → List ℕ → Each (List ℕ) → State
with_books s phase st b =
    record {
      phase = phase;
      size = s.size;
      processors = s.processors;
      parents = s.parents;
      activation = s.activation;
      execution = s.execution;
      standings = st;
      stores = each (λ k. with_booked (store_of s k) (of b k));
    }

-- the books of a plan
abbrev pub books_of : State → Books
books_of s = record { standings = s.standings; booked = each (λ k. (store_of s k).booked) }

-- a store with other places
abbrev pub with_places : Store → ℕ → Store
with_places store bound = record { bound = bound; works = store.works; outs = store.outs; booked = store.booked }

-- the plan with other stores
abbrev pub with_stores : State → Each Store → State
with_stores s stores =
    record {
      phase = s.phase;
      size = s.size;
      processors = s.processors;
      parents = s.parents;
      activation = s.activation;
      execution = s.execution;
      standings = s.standings;
      stores = stores;
    }

-- the plan with other places of each store
unfoldable pub with_bounds : State → (Kind → ℕ) → State
with_bounds s bound = with_stores s (each (λ k. with_places (store_of s k) (bound k)))

-- the plan with other places of the cold room alone
unfoldable pub with_bound : State → ℕ → State
with_bound s bound = with_stores s (put chilled (with_places s.stores.chilled bound) s.stores)

-- a store of the plan as booking finds it
abbrev pub terms_by : State → Store → Terms
terms_by s store = record { bound = store.bound; need = needs_in s store; out = at store.outs }

abbrev pub terms_of : State → Kind → Terms
terms_of s k = terms_by s (store_of s k)

-- what booking ahead makes of the books
unfoldable pub ahead : State → Books → Books
ahead s = activate s.size (at s.parents) (terms_of s) s.activation

-- stations that run no task
unfoldable pub free : (n processors : ℕ) → List ℕ → ℕ
free n processors st = processors - Standing.count n (at st) Standing.running

-- the tasks that start then, in order
unfoldable pub begun : State → Books → List ℕ
begun s k =
    starts s.size (at s.parents) s.execution (free s.size s.processors k.standings) k.standings

-- booking ahead and starting, the end of BEGIN, of DONE and of 08
unfoldable pub proceed : State → ℕ → Books → Each Peaked → ℕ → Outcome
proceed s phase k peaks offers =
    record {
      state = with_books s phase (start (begun s (ahead s k)) (ahead s k).standings) (ahead s k).booked;
      started = begun s (ahead s k);
      peaks = peaks;
      offers = offers;
    }

-- at BEGIN every task waits; "each step has a figure of booked trays, 0 at BEGIN"
unfoldable pub fresh : ℕ → Books
fresh n = record { standings = replicate (suc n) Standing.waiting; booked = each (λ _. replicate (suc n) 0) }

-- the standings once task j has ended
unfoldable pub ended_standings : State → ℕ → List ℕ
ended_standings s j = set s.standings j Standing.finished

-- sharing out the booked trays of task j
unfoldable pub shared : State → ℕ → Climbed
shared s j =
    dispatch s.size (at s.parents) (terms_of s) (at (ended_standings s j)) (books_of s).booked j

-- the books once task j has ended and its booked trays are shared out
unfoldable pub ended : State → ℕ → Books
ended s j = record { standings = ended_standings s j; booked = each (λ k. (of (shared s j).share k).booked) }

-- when the root ends "the phase is a new one, ready"
unfoldable pub phase_after : State → ℕ → ℕ
phase_after s j = cond (eqb (at s.parents j) 0) Phase.ready Phase.running

-- the plan once its trolley is fetched: FETCH "frees it", the out of the root, "and leads to over"
unfoldable pub unloaded : State → State
unloaded s = with_books s Phase.over s.standings (each (λ k. set (store_of s k).booked (root_of s) 0))

-- a command that starts nothing
abbrev pub plain : State → Outcome
plain s = record { state = s; started = []; peaks = no_peaks; offers = 0 }

-- "BEGIN books ahead and starts. DONE shares out, books ahead and starts. Nothing else books or starts", but for 08: "then booking ahead
-- and starting follow", by the new bound, "with no offers"
unfoldable pub obey : State → Command → Outcome
obey s (plan n p bound) = plain (opened n p bound)
obey s (task parent work out) = plain (with_task s parent work out)
obey s (activation i) = plain (with_orders s (s.activation ++ (i ∷ [])) s.execution)
obey s (execution i) = plain (with_orders s s.activation (s.execution ++ (i ∷ [])))
obey s begin = proceed (completed s) Phase.running (fresh s.size) (peaks_of s) 0
obey s (done j) = proceed s (phase_after s j) (ended s j) no_peaks (length (shared s j).offered)
obey s fetch = plain (unloaded s)
obey s (places bound) = proceed (with_bound s bound) Phase.running (books_of s) no_peaks 0
