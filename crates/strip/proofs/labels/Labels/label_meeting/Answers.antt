use Rattle.std.proofs.Common.{◌≡◌, ℕ, List, ◌++◌, length, take, drop, sym, ap, ◌∙◌, subst, arith}
use Rattle.std.proofs.Math.Seq.{take-append_seam}
use Rattle.std.specs.List.{refill}
use Rattle.algebra.specs.Interpolation.{interp}
use Rattle.algebra.specs.Digits.{number}
use Rattle.strip.specs.Names.{Named}
use Rattle.strip.specs.Wishes.{points_of}
use Rattle.strip.proofs.Finding.{place_for, place_fits, named}
use Rattle.strip.proofs.labels.Labels.label_meeting.Goals as goal

-- what is written over a whole list is what it holds then
written_back : (xs ys : List ℕ) → length ys ≡ length xs → refill (length xs) xs ys ≡ ys
written_back xs ys e = ap (λ n. take n (ys ++ drop (length ys) xs)) (sym e) ∙ take-append_seam ys (drop (length ys) xs)

pub number-place-requires : goal.number-place-requires
number-place-requires g c =
    let S = c.args.self.now in
    let R = g.R.Ring.ring S.ring.now in
    let W = g.S.Shuffler.ways S.shuffler.now in
    let inv = g.R.Dividing.inverse S.ring.now in
    let ws = c.args.wishes.now in
    let place : number S.plan.levels c.as_slice.result.now ≡ place_for S.plan R inv W ws =
    ap (number S.plan.levels) (c.as_slice.ensures.value ∙ written_back c.wished_values-coefficients.result.items c.interpolate.new.values (omega (arith, ap length c.as_mut_slice.ensures.value)) ∙ c.interpolate.ensures ∙ ap (interp R inv (points_of ws)) (c.as_mut_slice.ensures.value ∙ c.wished_values-coefficients.ensures)) in
    let fits = place_fits S.plan (g.met.R.Ring.laws S.ring.now) (g.met.S.Shuffler.shuffles S.shuffler.now) c.args.self.now.counts inv c.gather_inverses.ensures ws c.requires.chosen in
    (omega (arith, S.plan.several), omega (arith, S.plan.short))

pub returns : goal.returns
returns g c =
    let S = c.args.self.now in
    let R = g.R.Ring.ring S.ring.now in
    let W = g.S.Shuffler.ways S.shuffler.now in
    let inv = g.R.Dividing.inverse S.ring.now in
    let ws = c.args.wishes.now in
    let place : c.number-place.result ≡ place_for S.plan R inv W ws =
    c.number-place.ensures ∙ ap (number S.plan.levels) (c.as_slice.ensures.value ∙ written_back c.wished_values-coefficients.result.items c.interpolate.new.values (omega (arith, ap length c.as_mut_slice.ensures.value)) ∙ c.interpolate.ensures ∙ ap (interp R inv (points_of ws)) (c.as_mut_slice.ensures.value ∙ c.wished_values-coefficients.ensures)) in
    let label : c.back.result ≡ W.back S.plan.seed S.plan.labels (place_for S.plan R inv W ws) = cc in
    subst (λ i. Named S.plan R W ws i) (sym label)
    (named S.plan (g.met.R.Ring.laws S.ring.now) (g.met.S.Shuffler.shuffles S.shuffler.now) c.args.self.now.counts inv c.gather_inverses.ensures ws c.requires.chosen)
