-- Pieces that are put on a page one behind the other are one text.
use Rattle.std.proofs.Common.{◌≡◌, refl, sym, ◌∙◌, List, [], ◌∷◌, ◌++◌, ℕ, ◌+◌, ◌<◌, length, take, get_or, add-one}
use lib.Seq.{take-suc}
use Rattle.put.specs.declared.Page.{Page}
use Rattle.put.specs.Pages.{Puts}
use Rattle.put.specs.Put.{Put}
use Rattle.put.proofs.Pieces as pieces

pub nothing : (page : Page) → Puts [] page page
nothing page = record { same_buffer = refl; piece = pieces.nothing _ _ }

infixl 65 ◌then◌
pub ◌then◌ : {text more : List ℕ} {before between after : Page}
    → Puts text before between
    → Puts more between after
    → Puts (text ++ more) before after
p then q =
    record {
      same_buffer = q.same_buffer ∙ p.same_buffer;
      piece = pieces.◌then◌ p.piece q.piece;
    }

-- one entry more of a list whose text goes entry by entry
pub turn : (text : List ℕ → List ℕ)
    → ((list : List ℕ) (x : ℕ) → text (list ++ (x ∷ [])) ≡ text list ++ text (x ∷ []))
    → (list : List ℕ) (i : ℕ)
    → i < length list
    → {before between after : Page}
    → Puts (text (take i list)) before between
    → Puts (text (get_or list i 0 ∷ [])) between after
    → Puts (text (take (i + 1) list)) before after
turn text grows list i more p q = rw (add-one i, take-suc list i 0, grows) (p then q)

-- a page of a buffer, from its front on: the buffer is at last as the page left it
pub from-front : {text before after : List ℕ} {name end : ℕ} {first last : Page}
    → Puts text first last
    → first.buffer.ghost_name ≡ name
    → first.buffer.now ≡ before
    → first.place ≡ 0
    → (name ≡ last.buffer.ghost_name → after ≡ last.buffer.now)
    → end ≡ last.place
    → Put text 0 before after end
from-front p same_buffer unwritten at_place lent place =
    rw (lent (sym (p.same_buffer ∙ same_buffer)), place) (rw (unwritten, at_place) at p.piece)
