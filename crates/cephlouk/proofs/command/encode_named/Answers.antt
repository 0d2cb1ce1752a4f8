-- `encode_named` meets its contract: 2, then 11, and else the bytes of the command at the front.
use Rattle.std.proofs.Common.{rules, arith, sym, ap₂, ℕ, List, ◌∙◌}
use Rattle.std.proofs.lemmas.Result.{err_from_is_err_and}
use Rattle.rules.specs.Answer.{front}
use Rattle.streams.specs.Write as writing
use Rattle.put.proofs.Pieces.{with-room}
use Rattle.put.proofs.Pages.{from-front}
use Rattle.cephlouk.proofs.Naming.{encode-unknown, encode-short, encode-whole, known-sized}
use Rattle.cephlouk.proofs.command.encode_named.Goals as goal

-- the byte is unknown
pub returns-in_err-read : goal.returns-in_err-read
unfolding writing.untouched
returns-in_err-read c =
    let p = err_from_is_err_and c.from_residual.result c.from_residual.ensures.1 in
    rw (p.1, p.2) (sym (encode-unknown _ _ _ c.in_err-read.ensures))

-- the list is too short
pub returns-then-list-read : goal.returns-then-list-read
unfolding writing.untouched
returns-then-list-read c = sym (encode-short _ _ _ _ c.in_ok-read.ensures c.if-list-read.true)

pub returns : goal.returns
unfolding writing.at_front front
returns c =
    let size = known-sized _ _ _ c.in_ok-read.ensures in
    let page = c.new-page.ensures in
    let put = from-front c.encode.ensures page.same_buffer page.unwritten page.at_place (search rules) c.place.ensures in
    let room = with-room put (omega (arith, c.if-list-read.false, size)) in
    ap₂ (λ (count : ℕ) (list : List ℕ). record { number = 0; count = count; list = list }) room.1 room.0
    ∙ sym (encode-whole _ _ _ _ c.in_ok-read.ensures c.if-list-read.false)
