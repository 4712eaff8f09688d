use Rattle.std.proofs.Common.{◌≡◌, suc, length, get_or, ap, subst, add-one, arith}
use Rattle.strip.proofs.InPlace.{rebuild_placed}
use Rattle.strip.proofs.find.rebuild_coefficients.Goals as goal

pub returns : goal.returns
returns g c v q e =
    let R = g.R.Ring.ring c.args.ring.now in
    let ys = c.loop-k.values in
    let len : length c.args.values.now ≡ suc (length q) = ap length e in
    rebuild_placed R c.args.x v q ys (omega arith)
    (λ k h. subst (λ xs. get_or ys k 0 ≡ R.difference (get_or xs k 0) (R.product c.args.x (get_or xs (suc k) 0))) e
    (subst (λ m. get_or ys k 0 ≡ R.difference (get_or c.args.values.now k 0) (R.product c.args.x (get_or c.args.values.now m 0))) (add-one k) (c.loop-k.invariant.0 k (omega arith))))
    (subst (λ xs. get_or ys (length q) 0 ≡ get_or xs (length q) 0) e (c.loop-k.invariant.1 (length q) (omega arith)))
