use Rattle.std.proofs.Common.{◌<◌, sym, subst, arith}
use native.Mathlib.Nat.{one-le-pow}
use Rattle.book.proofs.shape.Book.open.Goals as goal

pub invariant_of-result : goal.invariant_of-result
invariant_of-result c = record { below = subst (λ n. 0 < n) (sym c.args.plan.sized) (one-le-pow c.args.plan.strength c.args.plan.levels (omega arith)) }
