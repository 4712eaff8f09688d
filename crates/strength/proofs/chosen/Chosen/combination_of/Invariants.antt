use Rattle.std.proofs.Common.{◌≡◌, map, get_or, take}
use Rattle.std.specs.Int.Digits.{number_from_digits}
use Rattle.strength.proofs.chosen.Chosen.combination_of.Given as goal

abbrev pub invariant-loop-column : goal.invariant-loop-column
invariant-loop-column g l =
    l.n ≡ number_from_digits l.self.checked.now.claim.levels (take l.column-index (map (λ c. get_or (map g.C.Levelled.level l.run) c 0) l.self.columns.now))
