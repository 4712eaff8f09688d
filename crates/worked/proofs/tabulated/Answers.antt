use Rattle.std.proofs.Common.{rules}
use lib.Count.{count_leading_zeros}
use Rattle.levels.specs.Polynomials.{remainder, divided, multiplied, degree}
use Rattle.shuffle.specs.Round.{shift, fold, step1, step2, step3, step4, step5, round}
use Rattle.shuffle.specs.Walk.{until}
use Rattle.shuffle.specs.Hash.{mask, scramble}
use Rattle.strip.specs.Labels.{index, value_at, level_at, sublevel_at, fine_at}
use Rattle.worked.proofs.tabulated.Goals as goal

pub returns : goal.returns
unfolding count_leading_zeros mask shift fold step1 step2 step3 step4 step5 round until scramble remainder divided multiplied degree index value_at level_at sublevel_at fine_at
returns c = search rules
