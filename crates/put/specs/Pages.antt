-- A piece of a text, put on a page.
use Rattle.std.specs.Prelude.{◌≡◌, List, ℕ}
use Rattle.put.specs.declared.Page.{Page}
use Rattle.put.specs.Put.{Put}

-- the page before and after: it stays that of the same buffer
pub record Puts (text : List ℕ) (before after : Page) : Type 0 where
  pub same_buffer : after.buffer.ghost_name ≡ before.buffer.ghost_name
  pub piece : Put text before.place before.buffer.now after.buffer.now after.place
