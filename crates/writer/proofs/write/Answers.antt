-- `write` meets its contract: 3, then 11, and else the written plan at the front.
use Rattle.std.proofs.Common.{rules, arith, ◌≡◌, ◌+◌, ◌*◌, ℕ, List, sym, ap, ap₂, ◌∙◌}
use Rattle.streams.specs.Instance.{instance_of}
use Rattle.rules.specs.Answer.{front}
use Rattle.streams.specs.Write as writing
use Rattle.streams.proofs.Written.{every-write-holds, write-early, write-short, write-whole}
use Rattle.words.specs.Contents.{contents}
use Rattle.answer.specs.Meaning.{plan_of}
use Rattle.put.proofs.Pieces.{with-room}
use Rattle.put.proofs.Pages.{from-front}
use Rattle.writer.specs.Writing.{WholePlan}
use Rattle.writer.proofs.write.Goals as goal

-- the room that is tested
room-is : (w : List ℕ) (n : ℕ) → n ≡ (contents w).size → 8 + 13 * n ≡ writing.written_length (instance_of (plan_of w))
unfolding writing.written_length
room-is w n is = ap (λ (n : ℕ). 8 + 13 * n) is

-- an order is not complete
pub returns-then-not-is_whole : goal.returns-then-not-is_whole
unfolding writing.untouched
returns-then-not-is_whole c = sym (write-early _ _ (sym c.is_whole.ensures ∙ c.if-not-is_whole.true))

-- the list is too short
pub returns-then-list-n : goal.returns-then-list-n
unfolding writing.untouched contents
returns-then-list-n c =
    let e = room-is c.args.plan.now.words c.cell-n.result c.cell-n.ensures in
    sym (write-short _ _ (sym c.is_whole.ensures ∙ c.if-not-is_whole.false) (omega (arith, e, c.if-list-n.true)))

pub returns : goal.returns
unfolding writing.at_front front contents
returns c =
    let whole = sym c.is_whole.ensures ∙ c.if-not-is_whole.false in
    let e = room-is c.args.plan.now.words c.cell-n.result c.cell-n.ensures in
    let long = (every-write-holds.plans _ c.requires.reached whole).sized in
    let room = with-room (from-front c.write_whole.ensures c.new-page.ensures.same_buffer c.new-page.ensures.unwritten c.new-page.ensures.at_place (search rules) c.place.ensures) (omega (arith, e, long, c.if-list-n.false)) in
    ap₂ (λ (count : ℕ) (list : List ℕ). record { number = 0; count = count; list = list }) room.1 room.0
    ∙ sym (write-whole _ _ whole (omega (arith, e, c.if-list-n.false)))
