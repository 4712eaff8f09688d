use Rattle.std.proofs.Common.{refl}
use Rattle.shuffle.specs.Round.{fold}
use Rattle.shuffle.proofs.rounds.Rounds.fold.Goals as goal

pub returns : goal.returns
unfolding fold
returns c = refl
