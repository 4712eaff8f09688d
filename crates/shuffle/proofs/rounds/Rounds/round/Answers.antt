use Rattle.shuffle.specs.Round.{shift, step1, step2, step3, step4, step5, round}
use Rattle.shuffle.proofs.rounds.Rounds.round.Goals as goal

pub returns : goal.returns
unfolding shift step1 step2 step3 step4 step5 round
returns c = cc
