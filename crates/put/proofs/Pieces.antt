-- Pieces that are put into a buffer one behind the other are one text.
use mathlib.Core.Path.{◌≡◌, sym, ap, ◌∙◌}
use mathlib.Core.List.{List, [], ◌∷◌, ◌++◌}
use Prim.Native.Nat.{ℕ, zero, suc, ◌+◌, ◌≤◌, ◌<◌}
use native.Mathlib.Omega.{arith}
use lib.ListN.{length, drop, set, length-append, length-take, length-drop, take-append-drop}
use lib.Seq.{take-nil, drop-nil, take_all, set_out}
use Rattle.put.specs.Written.{over, Written}
use Rattle.put.specs.Put.{over_from, behind, Put}

no_text : (buffer : List ℕ) → over [] buffer ≡ buffer
unfolding over
no_text buffer = simp take-nil

no_room : (place : ℕ) (text : List ℕ) → over_from place text [] ≡ []
unfolding over over_from
no_room place text = simp (take-nil, drop-nil)

joined : (place : ℕ) (a b buffer : List ℕ)
    → over_from (behind place a buffer) b (over_from place a buffer) ≡ over_from place (a ++ b) buffer
unfolding over over_from
joined place a b [] = simp no_room
joined (suc place) a b (y ∷ buffer) =
    let e : behind (suc place) a (y ∷ buffer) ≡ suc (behind place a buffer) = omega arith in
    rw e (ap (λ (l : List ℕ). y ∷ l) (joined place a b buffer))
joined zero [] b (y ∷ buffer) =
    let e : behind zero [] (y ∷ buffer) ≡ zero = omega arith in
    rw e
joined zero (x ∷ a) b (y ∷ buffer) =
    let e : behind zero (x ∷ a) (y ∷ buffer) ≡ suc (behind zero a buffer) = omega arith in
    rw e (ap (λ (l : List ℕ). x ∷ l) (joined zero a b buffer))

-- a store is a piece of one byte
stored : (place x : ℕ) (buffer : List ℕ) → set buffer place x ≡ over_from place (x ∷ []) buffer
unfolding over over_from
stored place x [] = sym (no_room place (x ∷ []))
stored zero x (y ∷ buffer) = ap (λ (l : List ℕ). x ∷ l) (sym (no_text buffer))
stored (suc place) x (y ∷ buffer) = ap (λ (l : List ℕ). y ∷ l) (stored place x buffer)

-- a byte where there is room for it, and where there is none
pub byte-in : (place x : ℕ) (buffer : List ℕ)
    → place < length buffer
    → Put (x ∷ []) place buffer (set buffer place x) (place + 1)
byte-in place x buffer room = record { bytes = stored place x buffer; ends = omega arith }

pub byte-out : (place x : ℕ) (buffer : List ℕ) → length buffer ≤ place → Put (x ∷ []) place buffer buffer place
byte-out place x buffer full =
    record { bytes = sym (set_out buffer place x full) ∙ stored place x buffer; ends = omega arith }

pub nothing : (place : ℕ) (buffer : List ℕ) → Put [] place buffer buffer place
unfolding over_from
nothing place buffer = record { bytes = simp (no_text, take-append-drop); ends = omega arith }

module _ {text : List ℕ} {place next : ℕ} {before after : List ℕ} (p : Put text place before after next) where
  -- the buffer keeps its length
  pub kept : length after ≡ length before
  unfolding over over_from
  kept = rw p.bytes (simp (length-append, length-take, length-drop) (omega arith))

  infixl 65 ◌then◌
  pub ◌then◌ : {more last : List ℕ} {end : ℕ} → Put more next after last end → Put (text ++ more) place before last end
  ◌then◌ {more} q =
      record {
        bytes = rw (q.bytes, p.bytes, p.ends) (joined place text more before);
        ends = simp length-append (omega (arith, kept));
      }

-- at the front of the buffer
pub whole : {text before after : List ℕ} {end : ℕ} → Put text 0 before after end → Written text before after end
unfolding over_from
whole p = record { bytes = p.bytes; ends = omega arith }

-- a text at the front of a buffer that has room for it: later entries stay, and the answer is its length
pub with-room : {text before after : List ℕ} {end : ℕ}
    → Put text 0 before after end
    → length text ≤ length before
    → (after ≡ text ++ drop (length text) before) × (end ≡ length text)
unfolding over over_from
with-room {text} {before} p room = (
  p.bytes ∙ ap (λ (l : List ℕ). l ++ drop (length text) before) (take_all (length before) text room),
  (let e = p.ends in omega arith),
)
