use Rattle.std.proofs.Common.{◌≡◌, ℕ, ◌<◌, get_or}
use Rattle.strip.specs.Labels.{cell_at}
use Rattle.strip.specs.Rows.{blank}
use Rattle.strip.proofs.labels.Labels.write_row.Given as goal

-- the cells before the factor are written
abbrev pub invariant-loop-factor : goal.invariant-loop-factor
invariant-loop-factor g l =
    (j : ℕ) → j < l.factor → get_or l.row j blank ≡ cell_at l.self.plan (g.R.Ring.ring l.self.ring.now) (g.S.Shuffler.ways l.self.shuffler.now) l.n j
