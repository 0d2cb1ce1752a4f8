-- What a writer holds grows by one text after another.
use Rattle.std.proofs.Common.{◌≡◌, ℕ, ◌+◌, ◌≤◌, List, [], ◌++◌, length, take, sym, ap, subst, ◌∙◌, arith, append-nil, append_assoc, length-append}
use Rattle.std.proofs.Math.Seq.{take-append-add, take-length}
use Rattle.std.proofs.lemmas.List.{take-append-le}
use Rattle.std.specs.Prelude.{Option, Some, None}
use Rattle.std.specs.Io.KnownBytes.{Appends}
use Rattle.pump.specs.Written.{WritesFront}

-- nothing has been written yet
pub unwritten : (held : Option (List ℕ)) → Appends held held []
unwritten None = tt
unwritten (Some xs) = sym (append-nil xs)

pub grows : (old new newer : Option (List ℕ)) (text more : List ℕ) → Appends old new text → Appends new newer more → Appends old newer (text ++ more)
grows None new newer text more e e' = tt
grows (Some xs) None newer text more e e' = absurd e
grows (Some xs) (Some ys) None text more e e' = absurd e'
grows (Some xs) (Some ys) (Some zs) text more e e' = e' ∙ ap (λ (l : List ℕ). l ++ more) e ∙ append_assoc xs text more

-- a text and the front of the next one are the front of all that is to be written
pub front-of-all : (held holds : Option (List ℕ)) (all text more rest : List ℕ) (n : ℕ)
    → all ≡ text ++ (more ++ rest)
    → n ≤ length more
    → Appends held holds (text ++ take n more)
    → WritesFront all held holds
front-of-all held holds all text more rest n e within h = (
  length text + n,
  omega (arith, ap length e, length-append text (more ++ rest), length-append more rest),
  subst (Appends held holds)
      (sym (ap (take (length text + n)) e ∙ take-append-add text (more ++ rest) n ∙ ap (λ (l : List ℕ). text ++ l) (take-append-le n more rest within))) h,
)

-- a whole text is the front of it
pub whole-front : (held holds : Option (List ℕ)) (text : List ℕ) → Appends held holds text → WritesFront text held holds
whole-front held holds text h = (length text, omega arith, subst (Appends held holds) (sym (take-length text)) h)
