use Rattle.words.specs.Contents.{contents}
use Rattle.desk.proofs.Ranking.{Seen}
use Rattle.desk.proofs.room.is_distinct.Given as goal

abbrev pub invariant-loop-place : goal.invariant-loop-place
invariant-loop-place l = Seen l.activation (contents l.room.words).ranks l.place
