use Rattle.desk.proofs.Ranking.{Writing}
use Rattle.desk.proofs.room.write_order.Given as goal

abbrev pub invariant-loop-place : goal.invariant-loop-place
invariant-loop-place l = Writing l.activation l.fn.room.words l.room.words l.place
