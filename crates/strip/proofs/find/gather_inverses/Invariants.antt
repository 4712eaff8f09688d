use Rattle.std.proofs.Common.{◌≡◌, ℕ, ◌<◌}
use Rattle.strip.proofs.find.gather_inverses.Given as goal

abbrev pub invariant-loop-a : goal.invariant-loop-a
invariant-loop-a g l =
    let R = g.R.Ring.ring l.ring in
    (a : ℕ) → a < l.a → 0 < a → a < R.count → R.product a (g.R.Dividing.inverse l.ring a) ≡ R.one
