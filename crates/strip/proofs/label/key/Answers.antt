use Rattle.std.proofs.Common.{◌+◌, ◌*◌, ◌^◌}
use Rattle.std.proofs.lemmas.Nat.{mul-mod_first}
use Rattle.strip.proofs.label.key.Goals as goal

pub returns : goal.returns
returns c = mul-mod_first (c.args.seed * (c.args.factor + 1)) c.args.constant (2 ^ 32)
