use Rattle.shuffle.specs.Round.{round}
use Rattle.shuffle.specs.Hash.{mask, scramble}
use Rattle.shuffle.specs.Walks.{steps, Going}
use Rattle.shuffle.proofs.point.Point.hashed.Given as goal

abbrev pub invariant-loop-x : goal.invariant-loop-x
invariant-loop-x l = Going (round (mask l.self.size) l.self.key) l.self.size 65536 l.x (scramble l.self.key l.self.size l.self.number)

abbrev pub decreases-loop-x : goal.decreases-loop-x
decreases-loop-x l = steps (round (mask l.self.size) l.self.key) l.self.size 65536 l.x
