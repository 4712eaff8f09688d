use Rattle.std.proofs.Common.{◌≡◌, ℕ, ◌<◌, ◌≤◌, get_or}
use Rattle.strip.specs.Labels.{point}
use Rattle.strip.specs.Wishes.{factor_of}
use Rattle.strip.proofs.find.divide_differences.Given as goal

abbrev pub invariant-loop-k : goal.invariant-loop-k
invariant-loop-k g l =
    let R = g.R.Ring.ring l.ring in
    ((j : ℕ) → j < l.k → get_or l.values j 0 ≡ R.product (R.difference (get_or l.initial.values j 0) l.v) (g.R.Dividing.inverse l.ring (R.difference (point (factor_of l.wishes j)) l.x)))
    × ((j : ℕ) → l.k ≤ j → get_or l.values j 0 ≡ get_or l.initial.values j 0)
