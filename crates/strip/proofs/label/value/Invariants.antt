use Rattle.std.proofs.Common.{◌≡◌, ◌/◌, ◌^◌}
use Rattle.strip.specs.Labels.{power, value_at}
use Rattle.strip.proofs.label.value.Given as goal

abbrev pub invariant-loop-l : goal.invariant-loop-l
invariant-loop-l g l =
    let R = g.R.Ring.ring l.ring in
    (l.total ≡ value_at R l._l l.n l.x) × (l.power ≡ power R l.x l._l) × (l.rest ≡ l.n / l.s ^ l._l)
