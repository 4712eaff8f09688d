use Rattle.design.proofs.Checks.{designs_exist}
use Rattle.design.proofs.designs_exist.Goals as goal

pub returns : goal.returns
returns c = designs_exist
