use Rattle.std.proofs.Common.{◌≤◌}
use Rattle.shuffle.specs.Hash.{mask}
use Rattle.shuffle.specs.Inverses.{unround}
use Rattle.shuffle.specs.Turns.{unturn}
use Rattle.shuffle.specs.Walks.{steps, Going}
use Rattle.shuffle.specs.Hashes.{unscramble}
use Rattle.shuffle.proofs.point.Point.hash_back.Given as goal

abbrev pub invariant-loop-x : goal.invariant-loop-x
invariant-loop-x l =
    record {
      under : l.x ≤ mask l.self.size;
      going : Going (unround (mask l.self.size) l.self.key) l.self.size 65536 l.x (unscramble l.self.key l.self.size (unturn l.self.key l.self.size l.self.number));
    }

abbrev pub decreases-loop-x : goal.decreases-loop-x
decreases-loop-x l = steps (unround (mask l.self.size) l.self.key) l.self.size 65536 l.x
