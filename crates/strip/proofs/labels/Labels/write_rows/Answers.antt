use Rattle.std.proofs.Common.{◌≡◌, ℕ, ◌+◌, ◌-◌, ◌*◌, ◌≤◌, take, drop, sym, subst, mul-le-mul_right, add-mul, one-mul, zero-add, arith}
use borrow.Rule.Slice.PartMut.{put_mid}
use Rattle.strip.specs.Rows.{Written}
use Rattle.strip.proofs.Writing.{rows_more, part_written}
use Rattle.strip.proofs.labels.Labels.write_rows.Goals as goal

pub loop-k-preserved : goal.loop-k-preserved
loop-k-preserved g c =
    let S = c.args.self.now in
    let d : ℕ = S.plan.factors in
    let k : ℕ = c.loop-k.k in
    let first : ℕ = c.args.first in
    let xs = c.loop-k.part in
    let row = c.write_row.new.row in
    let one : k * d + d - k * d ≡ 1 * d = omega (arith, one-mul d) in
    let room : (k + 1) * d ≤ c.args.count * d = mul-le-mul_right d (omega arith) in
    let fits : k * d + 1 * d ≤ c.args.count * d = omega (arith, add-mul k 1 d) in
    let W = Written S.plan (g.R.Ring.ring S.ring.now) (g.S.Shuffler.ways S.shuffler.now) in
    let own : W (first + k) 1 (k * d) xs (put_mid (k * d) (1 * d) xs row) =
    part_written (first + k) 1 (k * d) xs row (omega (arith, c.requires.sized)) (subst (λ z. W (first + k) 1 0 (take z (drop (k * d) xs)) row) one c.write_row.ensures) in
    subst (λ z. W first (k + 1) 0 c.args.part.now (put_mid (k * d) z xs row)) (sym one)
    (rows_more first k 0 c.args.part.now xs (put_mid (k * d) (1 * d) xs row) c.loop-k.invariant
    (subst (λ z. W (first + k) 1 z xs (put_mid (k * d) (1 * d) xs row)) (sym (zero-add (k * d))) own))
