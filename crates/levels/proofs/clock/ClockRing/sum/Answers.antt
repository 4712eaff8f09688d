use native.Mathlib.Nat.{add-mod}
use Rattle.levels.proofs.clock.ClockRing.sum.Goals as goal

pub returns : goal.returns
returns c = let e = add-mod c.args.a c.args.b c.args.self.now.count in record { value = cc }
