-- Starting task by task: what the loop keeps, that starts the first ready task in each turn.
use mathlib.Core.Path.{◌≡◌, refl, sym, ap, ◌∙◌}
use mathlib.Core.List.{List, [], ◌∷◌, ◌++◌, append-nil}
use Rattle.std.specs.Prelude.{None, Some}
use Prim.Native.Nat.{ℕ, zero, suc, ◌+◌, ◌-◌, ◌≤◌, ◌<◌}
use native.Mathlib.Omega.{arith}
use lib.ListN.{length, take, set, length-append}
use lib.Seq.{append_snoc}
use Rattle.numbers.specs.Lists.{at, first}
use Rattle.books.specs.Standing.{running}
use Rattle.books.specs.Booking.{Books, ready, starts, start}
use Rattle.rules.specs.Answer.{front}
use Rattle.books.proofs.Branches.{starts_none, starts-one}
use Rattle.words.specs.Contents.{Contents}
use Rattle.words.specs.Marks.{Marked, FirstMarked}
use Rattle.store.specs.Rows.{books, execution_of}
use Rattle.store.specs.Kept.{Kept, SamePlan}
use Rattle.store.proofs.Same.{same_refl, same-trans}
use Rattle.store.proofs.Ready.{placed-task}
use Rattle.starting.specs.Started.{MayRun, OneStarted, MayStart, started_of, Started}
use Rattle.starting.proofs.Running.{place_in}
use Rattle.starting.proofs.Choosing.{none-ready, place-ready, chosen-first}

-- nobody starts where no processor is free, or nobody is ready; else the first that is
starts-full : (n : ℕ) (par : ℕ → ℕ) (execution : List ℕ) (free : ℕ) (st : List ℕ) → free ≡ 0 → starts n par execution free st ≡ []
unfolding starts
starts-full n par execution free st e = rw e

starts-nobody :
    (n : ℕ) (par : ℕ → ℕ) (execution : List ℕ) (free : ℕ) (st : List ℕ)
    → first (ready n par st) execution ≡ 0
    → starts n par execution free st ≡ []
unfolding starts
starts-nobody n par execution zero st e = refl
starts-nobody n par execution (suc free) st e = starts_none n par execution free st e

starts_first :
    (n : ℕ) (par : ℕ → ℕ) (execution : List ℕ) (free : ℕ) (st : List ℕ) (x : ℕ)
    → first (ready n par st) execution ≡ x
    → 1 ≤ x
    → starts n par execution (suc free) st ≡ x ∷ starts n par execution free (set st x running)
starts_first n par execution free st zero e h = absurd (omega arith)
starts_first n par execution free st (suc i) e h = starts-one n par execution free st i e

-- one task more
start-more : (l st : List ℕ) (x : ℕ) → start (l ++ (x ∷ [])) st ≡ set (start l st) x running
unfolding start
start-more [] st x = refl
start-more (y ∷ l) st x = start-more l (set st y running) x

front-more :
    (l list : List ℕ) (x : ℕ) → length l < length list → front (l ++ (x ∷ [])) list ≡ set (front l list) (length l) x
unfolding front
front-more [] [] x h = absurd (omega arith)
front-more [] (y ∷ list) x h = refl
front-more (z ∷ l) [] x h = absurd (omega arith)
front-more (z ∷ l) (y ∷ list) x h = ap (λ (m : List ℕ). z ∷ m) (front-more l list x (omega arith))

-- from c₀ on so many tasks are started, and those that start from c on are the rest
pub record StartLoop (c₀ : Contents) (list₀ : List ℕ) (c : Contents) (list : List ℕ) (count : ℕ) : Type 0 where
  pub done : List ℕ
  pub kept : Kept c
  pub same : SamePlan c₀ c
  pub books : books c ≡ record { standings = start done (books c₀).standings; booked = (books c₀).booked }
  pub whole : started_of c₀ ≡ done ++ started_of c
  pub counted : count ≡ length done
  pub listed : list ≡ front done list₀
  pub run : c.active ≡ c₀.active + count

module _ {c₀ : Contents} {list₀ : List ℕ} (m : MayStart c₀ list₀) where
  -- nobody is started at first
  pub none_yet : StartLoop c₀ list₀ c₀ list₀ 0
  unfolding front start
  none_yet =
      record {
        done = [];
        kept = m.kept;
        same = same_refl c₀;
        books = refl;
        whole = refl;
        counted = refl;
        listed = refl;
        run = omega arith;
      }

  module _ {c : Contents} {list : List ℕ} {count : ℕ} (g : StartLoop c₀ list₀ c list count) where
    -- the words of the ready set are those of a set
    pub marked : Marked c
    marked = record { test = _; marks = g.kept.cached.marks }

    -- where nobody starts any more, all are started
    ended : started_of c ≡ [] → Started c₀ c list₀ list count
    ended rest =
        let all : started_of c₀ ≡ g.done = g.whole ∙ ap (λ (l : List ℕ). g.done ++ l) rest ∙ append-nil g.done in
        record {
          kept = g.kept;
          same = g.same;
          books = g.books ∙ ap (λ (l : List ℕ). record { standings = start l (books c₀).standings; booked = (books c₀).booked }) (sym all);
          counted = g.counted ∙ ap length (sym all);
          listed = g.listed ∙ ap (λ (l : List ℕ). front l list₀) (sym all);
        }

    -- no processor is free
    pub no-processor : c₀.processors ≤ c₀.active + count → Started c₀ c list₀ list count
    no-processor full =
        let p = g.same.processors in
        let a = g.run in
        ended
        (starts-full c.size (at c.parents) (execution_of c) (c.processors - c.active) (books c).standings (omega arith))

    -- nobody is ready
    pub nobody-ready : FirstMarked c None → Started c₀ c list₀ list count
    nobody-ready none =
        ended
        (starts-nobody c.size (at c.parents) (execution_of c) (c.processors - c.active) (books c).standings
        (none-ready g.kept none))

    -- else the task at the place runs
    module _ {place : ℕ} (found : FirstMarked c (Some place)) where
      pub may-run : MayRun place c
      may-run = record { kept = g.kept; ready = place-ready g.kept found }

      module _ (free : c₀.active + count < c₀.processors) where
        module _ {c' : Contents} {task : ℕ} (ran : OneStarted place c c' task) where
          -- those that start from c on: the task, and those that start from then on
          rest : started_of c ≡ task ∷ started_of c'
          rest =
              let t = placed-task g.kept.cached.placed place (place_in may-run) in
              let e = ran.chosen in
              let p = g.same.processors in
              let a = g.run in
              let s = ran.same in
              let one_fewer : c.processors - c.active ≡ suc (c.processors - (c.active + 1)) = omega arith in
              let later : ℕ → List ℕ → List ℕ = starts c.size (at c.parents) (execution_of c) in
              ap (λ (f : ℕ). later f (books c).standings) one_fewer
              ∙ starts_first c.size (at c.parents) (execution_of c) (c.processors - (c.active + 1)) (books c).standings task
              (chosen-first g.kept found ∙ sym e) (omega (arith, t.low))
              ∙ ap (λ (l : List ℕ). task ∷ l)
              (sym
              (λ z.
              starts (s.size z) (at (s.parents z)) (take (s.size z) (s.execution z)) (s.processors z - ran.active z)
              (ran.books z).standings))

          pub next : StartLoop c₀ list₀ c' (set list count task) (count + 1)
          next =
              let longer : length (g.done ++ (task ∷ [])) ≡ length g.done + 1 = length-append g.done (task ∷ []) in
              let n = g.counted in
              let a = g.run in
              let r = ran.active in
              let k = m.few in
              let l = m.room in
              record {
                done = g.done ++ (task ∷ []);
                kept = ran.kept;
                same = same-trans g.same ran.same;
                books =
                    ran.books
                    ∙ ap (λ (b : Books). record { standings = set b.standings task running; booked = b.booked }) g.books
                    ∙ ap (λ (v : List ℕ). record { standings = v; booked = (books c₀).booked })
                    (sym (start-more g.done (books c₀).standings task));
                whole =
                    g.whole ∙ ap (λ (v : List ℕ). g.done ++ v) rest ∙ sym (append_snoc g.done task (started_of c'));
                counted = omega arith;
                listed =
                    rw (g.listed, g.counted) (sym (front-more g.done list₀ task (omega arith)));
                run = omega arith;
              }
