-- One asking: it is refused and changes nothing, or its command has no ground against it and is obeyed.
use mathlib.Core.Path.{◌≡◌, refl, sym, ap, ◌∙◌}
use mathlib.Core.Bool.{Bool, true, false, cond}
use mathlib.Core.Logic.{⊎_elim}
use mathlib.Core.List.{List, [], ◌++◌, map}
use Prim.Native.Nat.{ℕ, ◌≤◌}
use native.Mathlib.Omega.{arith}
use lib.Dec.{eqb, ltb}
use lib.ListN.{length, take, drop}
use lib.Seq.{take-append_seam}
use borrow.Author.Tests.{eqb-true, eqb-false, ne_eqb, ltb-false}
use Rattle.numbers.specs.Limits.{least_starts}
use Rattle.rules.specs.State.{State}
use Rattle.format.specs.Command.{Command, Decoded, refused, read, decode}
use Rattle.rules.specs.Grounds.{ground_for}
use Rattle.rules.specs.Obey.{obey}
use Rattle.rules.specs.Answer.{Asking, Answered, refuse, front, accept, judge, respond, command}
use Rattle.rules.specs.Day.{started, accepted, reported, events}
use Rattle.numbers.proofs.Tests.{decide}
use Rattle.format.proofs.Bytes.{Counts, decode-counts}
use Rattle.rules.proofs.Formed.{Accepted, no-ground}

-- a refusal
pub record Refused (s : State) (a : Asking) : Type 0 where
  pub not-accepted : accepted s a ≡ false
  pub answered : command s a ≡ refuse (command s a).answer.number s a.list
  pub unchanged : (command s a).state ≡ s

-- an acceptance
pub record Obeyed (s : State) (a : Asking) (c : Command) (used : ℕ) : Type 0 where
  pub decoded : decode a.stream a.place ≡ read c used
  pub granted : Accepted s c
  pub is-accepted : accepted s a ≡ true
  pub listed : least_starts ≤ length a.list
  pub answered : command s a ≡ accept (obey s c) used a.list
  pub after : (command s a).state ≡ (obey s c).state
  pub happens : events s a ≡ reported (read c used) ++ map started (obey s c).started

pub data Step (s : State) (a : Asking) : Type 0 where
  is-refused : Refused s a → Step s a
  is-obeyed : (c : Command) (used : ℕ) → Obeyed s a c used → Step s a

-- an answer that refuses
refusing : (s : State) (a : Asking) (k : ℕ) → (k ≡ 0 → ⊥) → command s a ≡ refuse k s a.list → Step s a
unfolding accepted refuse
refusing s a k d e =
    is-refused
    (record {
      not-accepted = ap (λ (r : Answered). eqb r.answer.number 0) e ∙ ne_eqb k 0 d;
      answered = e ∙ ap (λ (v : ℕ). refuse v s a.list) (sym (ap (λ (r : Answered). r.answer.number) e));
      unchanged = ap (λ (r : Answered). r.state) e;
    })

-- an answer that accepts
accepting :
    (s : State) (a : Asking) (c : Command) (used : ℕ)
    → ltb (length a.list) least_starts ≡ false
    → decode a.stream a.place ≡ read c used
    → ground_for s c ≡ 0
    → command s a ≡ accept (obey s c) used a.list
    → Step s a
unfolding accepted accept front events
accepting s a c used long d g e =
    let yes-accepted : accepted s a ≡ true = ap (λ (r : Answered). eqb r.answer.number 0) e in
    is-obeyed c used
    (record {
      decoded = d;
      granted = no-ground s c g;
      is-accepted = yes-accepted;
      listed = ltb-false (length a.list) least_starts long;
      answered = e;
      after = ap (λ (r : Answered). r.state) e;
      happens =
          ap
          (λ (t : Bool).
          cond t
          (reported (decode a.stream a.place) ++ map started (take (command s a).answer.starts (command s a).list))
          [])
          yes-accepted
          ∙ ap (λ (x : Decoded). reported x ++ map started (take (command s a).answer.starts (command s a).list)) d
          ∙ ap (λ (r : Answered). reported (read c used) ++ map started (take r.answer.starts r.list)) e
          ∙ ap (λ (l : List ℕ). reported (read c used) ++ map started l)
          (take-append_seam (obey s c).started (drop (length (obey s c).started) a.list));
    })

-- the branches of an answer
short-list : (s : State) (a : Asking) → ltb (length a.list) least_starts ≡ true → command s a ≡ refuse 10 s a.list
unfolding command respond
short-list s a e = rw e

not-decoded :
    (s : State) (a : Asking) (k : ℕ)
    → ltb (length a.list) least_starts ≡ false
    → decode a.stream a.place ≡ refused k
    → command s a ≡ refuse k s a.list
unfolding command respond
not-decoded s a k e d = rw (e, d)

judged :
    (s : State) (a : Asking) (c : Command) (used : ℕ)
    → ltb (length a.list) least_starts ≡ false
    → decode a.stream a.place ≡ read c used
    → command s a ≡ judge s c used a.list
unfolding command respond
judged s a c used e d = rw (e, d)

judged-well :
    (s : State) (c : Command) (used : ℕ) (list : List ℕ)
    → eqb (ground_for s c) 0 ≡ true
    → judge s c used list ≡ accept (obey s c) used list
unfolding judge
judged-well s c used list e = rw e

judged-ill :
    (s : State) (c : Command) (used : ℕ) (list : List ℕ)
    → eqb (ground_for s c) 0 ≡ false
    → judge s c used list ≡ refuse (ground_for s c) s list
unfolding judge
judged-ill s c used list e = rw e

pub step : (s : State) (a : Asking) → Step s a
step s a =
    ⊎_elim (λ (e : ltb (length a.list) least_starts ≡ true). refusing s a 10 (λ z. omega arith) (short-list s a e))
    (λ (e : ltb (length a.list) least_starts ≡ false).
    by-decoded (decode a.stream a.place) refl (decode-counts a.stream a.place) e)
    (decide (ltb (length a.list) least_starts))
  where
    by-decoded :
        (d : Decoded)
        → decode a.stream a.place ≡ d
        → Counts d
        → ltb (length a.list) least_starts ≡ false
        → Step s a
    by-decoded (refused k) d p e = refusing s a k p (not-decoded s a k e d)
    by-decoded (read c used) d p e =
        ⊎_elim
        (λ (g : eqb (ground_for s c) 0 ≡ true).
        accepting s a c used e d (eqb-true (ground_for s c) 0 g) (judged s a c used e d ∙ judged-well s c used a.list g))
        (λ (g : eqb (ground_for s c) 0 ≡ false).
        refusing s a (ground_for s c) (eqb-false (ground_for s c) 0 g) (judged s a c used e d ∙ judged-ill s c used a.list g))
        (decide (eqb (ground_for s c) 0))
