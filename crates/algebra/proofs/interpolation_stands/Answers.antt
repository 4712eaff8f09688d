use Rattle.algebra.proofs.Unique.{interpolates}
use Rattle.algebra.proofs.interpolation_stands.Goals as goal

pub returns : goal.returns
returns c = interpolates
