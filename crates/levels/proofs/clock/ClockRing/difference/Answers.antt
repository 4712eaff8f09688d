use Rattle.std.proofs.Common.{◌-◌, ◌%◌}
use native.Mathlib.Nat.{mod-add-mod}
use Rattle.levels.proofs.clock.ClockRing.difference.Goals as goal

pub returns : goal.returns
returns c =
    let s = c.args.self.now.count in
    let e = mod-add-mod c.args.a s (s - c.args.b % s) in
    record { value = cc }
