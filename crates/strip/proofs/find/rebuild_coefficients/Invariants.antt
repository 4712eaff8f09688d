use Rattle.std.proofs.Common.{◌≡◌, ℕ, ◌+◌, ◌<◌, ◌≤◌, get_or}
use Rattle.strip.proofs.find.rebuild_coefficients.Given as goal

abbrev pub invariant-loop-k : goal.invariant-loop-k
invariant-loop-k g l =
    let R = g.R.Ring.ring l.ring in
    ((j : ℕ) → j + 1 < l.k → get_or l.values j 0 ≡ R.difference (get_or l.initial.values j 0) (R.product l.x (get_or l.initial.values (j + 1) 0)))
    × ((j : ℕ) → l.k ≤ j + 1 → get_or l.values j 0 ≡ get_or l.initial.values j 0)
