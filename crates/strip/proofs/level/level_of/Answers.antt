use Rattle.std.proofs.Common.{◌≡◌}
use Rattle.refusal.specs.Table.{Answers}
use Rattle.strip.specs.Faults.{strip_slip}
use Rattle.strip.specs.Labels.{level}
use Rattle.strip.specs.Rows.{level_rows}
use Rattle.strip.proofs.Parts.{by_parts}
use Rattle.strip.proofs.level.level_of.Goals as goal

pub returns : goal.returns
returns g c =
    let L = c.in_ok-of.field-0 in
    by_parts (λ p r s. Answers strip_slip (level_rows p (g.R.Ring.ring r) c.args.label c.args.factor) (λ a. a ≡ level p (g.R.Ring.ring r) (g.S.Shuffler.ways s) c.args.label c.args.factor) c.level.result)
    c.args.plan L.plan c.args.ring.now L.ring.now c.args.shuffler.now L.shuffler.now c.in_ok-of.ensures.1 c.level.ensures
