use Rattle.std.proofs.Common.{◌≡◌, ◌<◌, sym, subst}
use Rattle.strip.specs.Labels.{level_at}
use Rattle.strip.proofs.Bounds.{level_below}
use Rattle.strip.proofs.labels.Labels.level_at.Goals as goal

pub returns : goal.returns
unfolding level_at
returns g c =
    let S = c.args.self.now in
    let R = S.ring.now in
    let W = S.shuffler.now in
    let value : c.out.result ≡ level_at S.plan (g.R.Ring.ring R) (g.S.Shuffler.ways W) c.args.n c.args.factor = cc in
    record {
      value = value;
      below = subst (λ z. z < S.plan.levels) (sym value) (level_below S.plan (g.met.R.Ring.laws R) (g.met.S.Shuffler.shuffles W) S.counts c.args.n c.args.factor);
    }
