use Rattle.design.proofs.Exchanges.{coverage}
use Rattle.design.proofs.coverage_stands.Goals as goal

pub returns : goal.returns
returns c = coverage
