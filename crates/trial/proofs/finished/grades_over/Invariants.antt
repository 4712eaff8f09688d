use Rattle.std.proofs.Common.{◌≡◌, ◌*◌, ◌≤◌, pos}
use Rattle.strip.specs.Labels.{level}
use Rattle.design.specs.Designs.{sum_at}
use Rattle.trial.specs.Finished.{grade_of}
use Rattle.trial.proofs.finished.grades_over.Given as goal

-- the grades of the labels so far
abbrev pub invariant-loop-label : goal.invariant-loop-label
invariant-loop-label g l =
    (pos l.sum ≡ sum_at l.label (level l.labels.plan (g.R.Ring.ring l.labels.ring.now) (g.S.Shuffler.ways l.labels.shuffler.now)) l.factor l.wanted (grade_of l.words))
    × (l.sum ≤ l.label * 65536)
