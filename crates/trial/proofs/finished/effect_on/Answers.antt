use Rattle.std.proofs.Common.{◌≡◌, length, ◌-ℤ◌, ◌∙◌, ap₂, arith, w64, to_z, of_z, rules}
use Rattle.strip.specs.Names.{Exact}
use Rattle.strip.proofs.Parts.{by_parts}
use Rattle.book.specs.Standings.{standings}
use Rattle.strip_design.proofs.Runs.{count_same}
use Rattle.trial.specs.Finished.{grade_of, effect_over}
use Rattle.trial.proofs.Shares.{clear_over, shares_over}
use Rattle.trial.proofs.finished.effect_on.Goals as goal

pub returns : goal.returns
returns g c =
    let P = c.args.plan in
    let ring = c.args.ring.now in
    let shuffler = c.args.shuffler.now in
    let R = g.R.Ring.ring ring in
    let W = g.S.Shuffler.ways shuffler in
    let L = c.in_ok-labels.labels in
    let o = c.in_ok-labels.ensures in
    let ws = c.args.words.now in
    let v = to_z w64 (of_z w64 c.signed_difference.result) in
    let kept : v ≡ c.signed_difference.result = search rules in
    let exact = by_parts (λ p r s. Exact p (g.R.Ring.ring r) (g.S.Shuffler.ways s)) P L.plan ring L.ring.now shuffler L.shuffler.now o.1 c.orthogonal.ensures in
    let value = by_parts (λ p r s. v ≡ effect_over p (g.R.Ring.ring r) (g.S.Shuffler.ways s) (grade_of ws) c.args.factor c.args.a c.args.b)
    P L.plan ring L.ring.now shuffler L.shuffler.now o.1 (kept ∙ c.signed_difference.ensures ∙ ap₂ ◌-ℤ◌ c.grades_over-high.ensures.value c.grades_over-low.ensures.value) in (
      clear_over P R (length ws) (standings ws) c.args.factor c.args.a c.args.b o.0 c.in_ok-graded.ensures.0 (omega arith) (omega arith) (omega arith),
      shares_over P R W (g.met.R.Ring.laws ring) (g.met.S.Shuffler.shuffles shuffler) (count_same P R o.0) exact (grade_of ws) c.args.factor c.args.a c.args.b (omega arith) (omega arith) (omega arith) v value,
    )
