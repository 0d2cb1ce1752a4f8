-- A text written to the front of a buffer that may have too little room for it.
use Rattle.std.specs.Prelude.{◌≡◌, List, ◌++◌, ℕ, min, length, take, drop}

-- the text at the front of a buffer, as much of it as there is room for; later entries stay
unfoldable pub over : List ℕ → List ℕ → List ℕ
over text buffer = take (length buffer) text ++ drop (length text) buffer

-- the buffer before and after, and the number of bytes written
pub record Written (text before after : List ℕ) (end : ℕ) : Type 0 where
  pub bytes : after ≡ over text before
  pub ends : end ≡ min (length text) (length before)
