use Rattle.std.proofs.Common.{◌≡◌, get_or, subst, arith}
use Rattle.strip.specs.Labels.{index, cell_at}
use Rattle.strip.specs.Rows.{blank}
use Rattle.strip.proofs.Writing.{row_written}
use Rattle.strip.proofs.labels.Labels.write_row.Goals as goal

pub returns : goal.returns
unfolding index
returns g c =
    let S = c.args.self.now in
    let W = g.S.Shuffler.ways S.shuffler.now in
    let ys = c.loop-factor.row in
    row_written c.args.label c.args.row.now ys c.requires.sized (omega (arith, c.requires.sized))
    (λ j h. subst (λ n. get_or ys j blank ≡ cell_at S.plan (g.R.Ring.ring S.ring.now) W n j) c.out-n.ensures (c.loop-factor.invariant j (omega arith)))
