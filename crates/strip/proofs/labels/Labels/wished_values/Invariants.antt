use Rattle.std.proofs.Common.{◌≡◌, map, take}
use Rattle.strip.specs.Labels.{level_key}
use Rattle.strip.proofs.labels.Labels.wished_values.Given as goal

abbrev pub invariant-loop-wish : goal.invariant-loop-wish
invariant-loop-wish g l =
    l.values.items ≡ map (λ w. (g.S.Shuffler.ways l.self.shuffler.now).back (level_key l.self.plan.seed w.factor) l.self.plan.levels w.level) (take l.wish-index l.wishes)
