use Rattle.std.proofs.Common.{◌≡◌, ◌/◌, ◌<◌, sym, subst}
use Rattle.strip.specs.Labels.{sublevel_at}
use Rattle.strip.proofs.Bounds.{sublevel_below}
use Rattle.strip.proofs.labels.Labels.sublevel_at.Goals as goal

pub returns : goal.returns
unfolding sublevel_at
returns g c =
    let S = c.args.self.now in
    let value : c.out.result ≡ sublevel_at S.plan (g.S.Shuffler.ways S.shuffler.now) c.args.n c.args.factor = cc in
    record {
      value = value;
      below = subst (λ z. z < S.plan.labels / S.plan.levels) (sym value)
          (sublevel_below S.plan (g.met.S.Shuffler.shuffles S.shuffler.now) c.args.n c.args.factor c.requires.placed);
    }
