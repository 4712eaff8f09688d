use Rattle.design.proofs.Sums.{sum_laws}
use Rattle.design.proofs.sums_stand.Goals as goal

pub returns : goal.returns
returns c = sum_laws
