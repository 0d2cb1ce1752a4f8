-- Laws of the tasks that are reached: they are all tasks just where the chain of parents of each reaches the root, and then the tasks
-- form a tree.
use mathlib.Core.Path.{◌≡◌, sym, ap, ◌∙◌}
use mathlib.Core.Bool.{true}
use mathlib.Core.List.{List, ◌∷◌}
use mathlib.Core.Logic.{⊎_elim}
use Prim.Native.Nat.{ℕ, zero, suc, ◌-◌, ◌<◌}
use native.Mathlib.Omega.{arith}
use lib.ListN.{length}
use Rattle.numbers.specs.Sums.{Task, within}
use Rattle.numbers.specs.Lists.{at, mem, every, place}
use Rattle.tree.specs.Tree.{chain, Tree, up}
use Rattle.numbers.proofs.Tests.{same_or_not}
use Rattle.tree.proofs.Orders.{nobody, mem-rest, mem-at, every-within, place-lt, place_at, place_of, length-all, all_in}
use Rattle.tree.proofs.Tree.{chain-none, chain_more}
use Rattle.survey.specs.Checks.{Parented}
use Rattle.words.proofs.Views.{part_at}
use Rattle.children.specs.Scratch.{queue, field}
use Rattle.finding.specs.Reaching.{reached_in, ReachedFrom}
use Rattle.finding.specs.Arranging.{Queued}

module _ (n : ℕ) (par : ℕ → ℕ) (root : ℕ) (l : List ℕ) (r : ReachedFrom n par root l) where
  pub root_in : mem root l ≡ true
  root_in = ap (λ (x : ℕ). mem x l) (sym r.begins.1) ∙ mem-at l 0 r.begins.0

  inside : every (λ i. within i n) l ≡ true
  inside = every-within n l r.tasks

  -- whoever's chain reaches the root is reached
  chain-in : Parented n par → (most i : ℕ) → Task n i → mem root (chain most par i) ≡ true → mem i l ≡ true
  unfolding chain
  chain-in p zero i t m = absurd (nobody root m)
  chain-in p (suc most) i t m =
      let more : mem root (i ∷ chain most par (par i)) ≡ true
      = sym (ap (mem root) (chain_more most par i (λ z. omega arith))) ∙ m in
      ⊎_elim (λ (q : root ≡ i). rw q at root_in)
      (λ d.
      let later = mem-rest root i (chain most par (par i)) more d in
      ⊎_elim
      (λ (z : par i ≡ 0).
      absurd (nobody root (sym (ap (mem root) (ap (chain most par) z ∙ chain-none most par)) ∙ later)))
      (λ o.
      let low = p.inside i t in
      r.closed i t (chain-in p most (par i) (record { low = omega arith; high = low }) later))
      (same_or_not (par i) 0))
      (same_or_not root i)

  -- so all tasks are, where each chain does
  pub all-reached : Parented n par → ((i : ℕ) → Task n i → up n par root i ≡ true) → length l ≡ n
  all-reached p each = length-all n l inside r.once (λ i t. chain-in p n i t (each i t))

  -- where all tasks are reached
  module _ (p : Parented n par) (top : par root ≡ 0) (whole : length l ≡ n) where
    each_in : (i : ℕ) → Task n i → mem i l ≡ true
    each_in = all_in n l inside r.once whole

    -- those reached later rank lower
    abbrev pub rank : ℕ → ℕ
    rank x = n - suc (place x l)

    not_root : (i : ℕ) → (par i ≡ 0 → ⊥) → i ≡ root → ⊥
    not_root i d q = d (ap par q ∙ top)

    pub reached-tree : Tree n par rank
    reached-tree =
        record {
          within = p.inside;
          rises = λ i t d.
              (let less = (r.behind i (each_in i t) (not_root i d)).1 in
              let inside = place-lt i l (each_in i t) in
              omega arith);
          below = λ i t. omega arith;
        }

  -- and stand in the queue as `arrange` asks
  pub queued :
      (p : Parented n par) (top : par root ≡ 0) (whole : length l ≡ n) (w : List ℕ)
      → l ≡ reached_in w n
      → Queued n (rank p top whole) w
  queued p top whole w e =
      let entry : (k : ℕ) → k < n → field queue w k ≡ at l k
      = λ k h. sym (ap (λ (m : List ℕ). at m k) e ∙ sym (part_at queue n w k h)) in
      record {
        tasks = λ k h. rw (entry k h) (r.tasks (at l k) (mem-at l k (omega arith)));
        each = λ c t.
            (let there = place-lt c l (each_in p top whole c t) in
            let h : place c l < n = omega arith in
            (place c l, h, entry (place c l) h ∙ place_at c l (each_in p top whole c t)));
        falls = λ k m h b.
            (let at-k = ap (λ (x : ℕ). place x l) (entry k (omega arith)) ∙ place_of l k r.once (omega arith) in
            let at-m = ap (λ (x : ℕ). place x l) (entry m b) ∙ place_of l m r.once (omega arith) in
            omega arith);
      }
