use Rattle.std.proofs.Common.{◌+◌, ◌≤◌}
use Rattle.strip_trial.proofs.closing.Tally.of.Given as goal

-- no label is counted twice
abbrev pub invariant-loop-word : goal.invariant-loop-word
invariant-loop-word l = l.waiting + (l.out + l.graded) ≤ l.word-index
