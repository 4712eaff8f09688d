use Rattle.levels.specs.Modular.{mod_mul}
use Rattle.levels.proofs.clock.ClockRing.product.Goals as goal

pub returns : goal.returns
returns c = let e = mod_mul c.args.a c.args.b c.args.self.now.count in record { value = cc }
