use Rattle.design.proofs.Effects.{effect}
use Rattle.design.proofs.effect_stands.Goals as goal

pub returns : goal.returns
returns c = effect
