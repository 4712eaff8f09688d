use Rattle.std.proofs.Common.{◌≡◌, ◌+◌, map, sym, subst, rules, arith, MatchOption}
use Rattle.std.proofs.lemmas.Grind.{common_steps}
use Rattle.strength.specs.Verdicts.{Even, Fails}
use Rattle.strength.specs.Steps.{Begun, Search}
use Rattle.strength.proofs.Choosing.{begun_on, begun_more, whole, too_few, first_here, on}
use Rattle.strength.proofs.checked.Checked.+first_failure.Goals as goal

pub returns-then-missing-eq0-clause-answer : goal.returns-then-missing-eq0-clause-answer
returns-then-missing-eq0-clause-answer g t c =
    let Q = c.args.self.now.claim in
    let cells = map g.C.Levelled.level c.args.self.now.table.now in
    whole Q cells c.args.chosen.now.items c.args.low (omega (arith, c.requires.begun.within)) c.failure_at.result
    (subst (λ cs. MatchOption c.failure_at.result (Even Q cells cs) (λ f. Fails Q cells cs f)) c.as_slice.ensures.value c.failure_at.ensures)

pub returns-then-self-low-clause-answer : goal.returns-then-self-low-clause-answer
returns-then-self-low-clause-answer g t c =
    too_few c.args.self.now.claim (map g.C.Levelled.level c.args.self.now.table.now) c.args.chosen.now.items c.args.low c.requires.begun.within (omega arith)

pub first_failure-failure-requires : goal.first_failure-failure-requires
first_failure-failure-requires g t c κs within =
    let begun = begun_more c.requires.begun (omega arith) (omega arith) in
    search rules

pub returns-then-is_some-clause-answer : goal.returns-then-is_some-clause-answer
returns-then-is_some-clause-answer g t c =
    let Q = c.args.self.now.claim in
    let cells = map g.C.Levelled.level c.args.self.now.table.now in
    first_here Q cells c.args.chosen.now.items c.args.low c.first_failure-failure.result (search rules) (omega arith)
    (rw c.push.ensures.items at c.first_failure-failure.ensures.answer)

pub first_failure-requires : goal.first_failure-requires
first_failure-requires g t c κs within =
    let kept : c.pop.new.self.items ≡ c.args.chosen.now.items = grind (arith, common_steps) in
    let begun : Begun c.args.self.now.claim c.pop.new.self.items (c.args.low + 1) = subst (λ cs. Begun c.args.self.now.claim cs (c.args.low + 1)) (sym kept) (begun_on c.requires.begun (omega arith)) in
    search rules

pub returns-clause-answer : goal.returns-clause-answer
returns-clause-answer g t c =
    let Q = c.args.self.now.claim in
    let cells = map g.C.Levelled.level c.args.self.now.table.now in
    let kept : c.pop.new.self.items ≡ c.args.chosen.now.items = grind (arith, common_steps) in
    on Q cells c.args.chosen.now.items c.args.low (omega arith) c.first_failure-failure.result c.if-is_some.ensures
    (rw c.push.ensures.items at c.first_failure-failure.ensures.answer)
    c.first_failure.result (subst (λ cs. Search Q cells cs (c.args.low + 1) c.first_failure.result) kept c.first_failure.ensures.answer)
