use Rattle.std.proofs.Common.{◌≡◌, sym, subst}
use Rattle.strip.specs.Names.{Located}
use Rattle.strip.proofs.Bounds.{size_positive}
use Rattle.strip.proofs.Locating.{place_of, located}
use Rattle.strip.proofs.labels.Labels.label_at.Goals as goal

pub nonzero_div-fine : goal.nonzero_div-fine
nonzero_div-fine g c = size_positive c.args.self.now.plan

pub nonzero_rem-fine : goal.nonzero_rem-fine
nonzero_rem-fine g c = size_positive c.args.self.now.plan

pub returns : goal.returns
returns g c =
    let S = c.args.self.now in
    let R = g.R.Ring.ring S.ring.now in
    let W = g.S.Shuffler.ways S.shuffler.now in
    let label : c.back.result ≡ W.back S.plan.seed S.plan.labels (place_of S.plan R W c.args.factor c.args.fine) = cc in
    subst (λ i. Located S.plan R W c.args.factor c.args.fine i) (sym label)
    (located S.plan (g.met.R.Ring.laws S.ring.now) (g.met.S.Shuffler.shuffles S.shuffler.now) S.counts c.args.factor c.args.fine c.requires.placed)
