use Rattle.strip.proofs.Finding.{names}
use Rattle.strip.proofs.Locating.{names_fine}
use Rattle.strip.proofs.labels.Labels.orthogonal.Goals as goal

pub returns : goal.returns
returns g c =
    let S = c.args.self.now in
    let L = g.met.R.Ring.laws S.ring.now in
    let M = g.met.S.Shuffler.shuffles S.shuffler.now in
    record {
      names = names S.plan L M S.counts (g.R.Dividing.inverse S.ring.now) c.gather_inverses.ensures;
      fine = names_fine S.plan L M S.counts;
    }
