use Rattle.algebra.proofs.Base.{counts}
use Rattle.algebra.proofs.digits_stand.Goals as goal

pub returns : goal.returns
returns c = counts
