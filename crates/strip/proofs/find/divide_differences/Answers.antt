use Rattle.std.proofs.Common.{arith}
use Rattle.strip.proofs.InPlace.{slopes_placed}
use Rattle.strip.proofs.find.divide_differences.Goals as goal

pub returns : goal.returns
returns g c =
    slopes_placed (g.R.Ring.ring c.args.ring.now) (g.R.Dividing.inverse c.args.ring.now) c.args.x c.args.v c.args.wishes.now c.args.values.now c.loop-k.values
    (omega arith) (omega arith) (λ k h. c.loop-k.invariant.0 k (omega arith))
