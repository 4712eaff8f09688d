use Rattle.std.proofs.Common.{◌≡◌, ℕ, ◌+◌, ◌-◌, ◌*◌, take, drop, sym, subst, arith}
use borrow.Rule.Slice.PartMut.{put_mid}
use Rattle.std.proofs.lemmas.Bool.Decides.{nat_tests}
use Rattle.strip.specs.Rows.{Written}
use Rattle.strip.proofs.Parts.{by_parts}
use Rattle.strip.proofs.Writing.{part_written}
use Rattle.strip.proofs.cell.Strip.rows.Goals as goal

pub returns : goal.returns
returns g c =
    let S = c.args.self.now in
    let L = c.in_ok-labels.labels in
    let xs = c.args.table.now in
    let ys = c.write_rows.new.part in
    let first : ℕ = c.args.first in
    let count : ℕ = c.args.count in
    let start : ℕ = c.args.start in
    let cells : ℕ = count * S.plan.factors in
    let size : start + cells - start ≡ cells = omega arith in
    let W = Written S.plan (g.R.Ring.ring S.ring) (g.S.Shuffler.ways S.shuffler) in
    let written = by_parts (λ p r s. Written p (g.R.Ring.ring r) (g.S.Shuffler.ways s) first count 0 (take (start + cells - start) (drop start xs)) ys)
    S.plan L.plan S.ring L.ring.now S.shuffler L.shuffler.now c.in_ok-labels.ensures.1 c.write_rows.ensures in
    record {
      answer = (
        grind (arith, nat_tests),
        subst (λ z. W first count start xs (put_mid start z xs ys)) (sym size)
            (part_written first count start xs ys (omega arith) (subst (λ z. W first count 0 (take z (drop start xs)) ys) size written)),
      );
      same = tt;
    }
