use Rattle.std.proofs.Common.{arith}
use Rattle.std.proofs.lemmas.Bool.Decides.{nat_tests}
use Rattle.strip.specs.Labels.{index}
use Rattle.strip.proofs.labels.Labels.level.Goals as goal

pub returns : goal.returns
unfolding index
returns g c = let counts = c.args.self.now.counts in (grind (arith, nat_tests), cc)
