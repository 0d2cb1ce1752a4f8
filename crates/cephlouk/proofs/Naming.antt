-- Laws of the commands that plain numbers name.
use mathlib.Core.Path.{◌≡◌, refl, sym, ap, ◌∙◌}
use mathlib.Core.Bool.{cond}
use mathlib.Core.List.{List}
use mathlib.Core.Option.{Option, none, some}
use Prim.Native.Nat.{ℕ, ◌≤◌, ◌<◌}
use lib.Dec.{ltb}
use lib.ListN.{length}
use borrow.Author.Tests.{lt-ltb, le-ltb}
use Rattle.format.specs.Command.{Command, plan, task, activation, execution, begin, done, fetch, places, bytes, Decoded, refused, read}
use Rattle.streams.specs.Write.{Wrote, untouched, at_front}
use Rattle.cephlouk.specs.declared.command.FlatCommand.{FlatCommand}
use Rattle.cephlouk.specs.FlatCommand.{flat_command, named, known, encode, EveryNameHolds}

pub every-name-holds : EveryNameHolds
unfolding named
every-name-holds (plan n p bound) = refl
every-name-holds (task parent work out) = refl
every-name-holds (activation i) = refl
every-name-holds (execution i) = refl
every-name-holds begin = refl
every-name-holds (done i) = refl
every-name-holds fetch = refl
every-name-holds (places bound) = refl

-- what is written of a command that is known, by how many bytes it has
unfoldable written : Decoded → List ℕ → Wrote
written (refused k) list = untouched k list
written (read c used) list = cond (ltb (length list) used) (untouched 11 list) (at_front (bytes c) list)

encode-known : (f : FlatCommand) (list : List ℕ) → encode f list ≡ written (known (named f)) list
unfolding encode written known
encode-known f list = go (named f) where
  go : (m : Option Command)
      → elim m [
        | none ↦ untouched 2 list
        | some c ↦ cond (ltb (length list) (length (bytes c))) (untouched 11 list) (at_front (bytes c) list)
      ]
      ≡ written (known m) list
  go none = refl
  go (some c) = refl

module _ (f : FlatCommand) (list : List ℕ) where
  told_is : (d : Decoded) → d ≡ known (named f) → encode f list ≡ written d list
  told_is d e = encode-known f list ∙ sym (ap (λ (x : Decoded). written x list) e)

  -- the equations of `encode`: the byte is unknown, the list is too short, and the command is written
  pub encode-unknown : (k : ℕ) → refused k ≡ known (named f) → encode f list ≡ untouched k list
  unfolding written
  encode-unknown k e = told_is (refused k) e

  pub encode-short : (c : Command) (used : ℕ)
      → read c used ≡ known (named f)
      → length list < used
      → encode f list ≡ untouched 11 list
  unfolding written
  encode-short c used e short = rw (told_is (read c used) e, lt-ltb _ _ short)

  pub encode-whole : (c : Command) (used : ℕ)
      → read c used ≡ known (named f)
      → used ≤ length list
      → encode f list ≡ at_front (bytes c) list
  unfolding written
  encode-whole c used e room = rw (told_is (read c used) e, le-ltb _ _ room)

-- a command that is known is told with as many bytes as it has
told : Decoded → ℕ
told (refused k) = 0
told (read c used) = used

sized : Decoded → ℕ
sized (refused k) = 0
sized (read c used) = length (bytes c)

pub known-sized : (m : Option Command) (c : Command) (used : ℕ) → read c used ≡ known m → used ≡ length (bytes c)
unfolding known told sized
known-sized none c used e = ap told e ∙ sym (ap sized e)
known-sized (some d) c used e = ap told e ∙ sym (ap sized e)
