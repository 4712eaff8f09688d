use Rattle.std.proofs.Common.{◌≡◌, ℕ, ◌+◌, ◌/◌, ◌^◌, sym, refl, ap, ◌∙◌, pow-suc, div-one, add-one}
use native.Mathlib.Nat.{pow-zero, div-div-eq-div-mul}
use Rattle.levels.specs.Rings.{Arithmetic}
use Rattle.strip.specs.Labels.{digit, power, value_at}
use Rattle.strip.proofs.label.value.Goals as goal

-- one term more
value_next : (R : Arithmetic) (l n x : ℕ) → R.sum (value_at R l n x) (R.product (digit R.count n l) (power R x l)) ≡ value_at R (l + 1) n x
unfolding value_at
value_next R l n x = sym (ap (λ k. value_at R k n x) (add-one l))

power_next : (R : Arithmetic) (l x : ℕ) → R.product (power R x l) x ≡ power R x (l + 1)
power_next R l x = sym (ap (power R x) (add-one l))

rest_next : (s n l : ℕ) → n / s ^ l / s ≡ n / s ^ (l + 1)
rest_next s n l = div-div-eq-div-mul n (s ^ l) s ∙ ap (λ z. n / z) (sym (pow-suc s l) ∙ ap (λ z. s ^ z) (sym (add-one l)))

pub loop-l-init : goal.loop-l-init
unfolding value_at
loop-l-init g c = (refl, c.one-power.ensures.value, sym (ap (λ z. c.args.n / z) (pow-zero c.count-s.result) ∙ div-one c.args.n))

pub loop-l-preserved : goal.loop-l-preserved
loop-l-preserved g c =
    let R : Arithmetic = g.R.Ring.ring c.args.ring.now in
    let l : ℕ = c.loop-l._l in
    let n : ℕ = c.args.n in
    let x : ℕ = c.args.x in
    let v = value_next R l n x in
    let p = power_next R l x in
    let r = rest_next c.count-s.result n l in
    (cc, cc, cc)
