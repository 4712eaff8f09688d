use Rattle.std.proofs.Common.{◌-◌}
use Rattle.strength.proofs.checked.Checked.+first_failure.Given as goal

abbrev pub decreases-first_failure : goal.decreases-first_failure
decreases-first_failure g l = l.self.now.claim.factors - l.low
