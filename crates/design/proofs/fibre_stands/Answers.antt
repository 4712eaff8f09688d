use Rattle.design.proofs.Effects.{fibre}
use Rattle.design.proofs.fibre_stands.Goals as goal

pub returns : goal.returns
returns c = fibre
