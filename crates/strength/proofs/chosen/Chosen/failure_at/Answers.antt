use Rattle.std.proofs.Common.{◌≡◌, ◌^◌, length, refl, arith}
use Rattle.strength.proofs.Balance.{bits_fit, none_off, first_off}
use Rattle.strength.proofs.chosen.Chosen.failure_at.Goals as goal

pub bits_of-requires-clause-fits : goal.bits_of-requires-clause-fits
bits_of-requires-clause-fits g c =
    bits_fit c.args.self.now.checked.now.accepted c.args.self.now.choice

pub returns-in_err-m : goal.returns-in_err-m
returns-in_err-m g c =
    let Q = c.args.self.now.checked.now.claim in
    let long : length c.count_runs.new.counters ≡ Q.levels ^ Q.strength = omega arith in
    rw c.from_residual.ensures
    (none_off c.args.self.now.checked.now.accepted c.args.self.now.choice c.count_runs.new.counters long c.count_runs.ensures c.in_err-m.ensures)

pub returns : goal.returns
returns g c =
    let Q = c.args.self.now.checked.now.claim in
    let long : length c.count_runs.new.counters ≡ Q.levels ^ Q.strength = omega arith in
    first_off c.args.self.now.checked.now.accepted c.args.self.now.choice c.count_runs.new.counters long c.count_runs.ensures c.in_ok-m.m _ c.in_ok-m.ensures c.bits_of.ensures refl refl
