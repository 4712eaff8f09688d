use Rattle.std.proofs.Common.{◌≡◌, ℕ, ◌+◌, ◌*◌, ◌^◌, ◌<◌, [], ◌∷◌, ◌++◌, drop, eqb, map, length, get_or, set, sym, ap, ◌∙◌, subst, arith}
use Rattle.std.proofs.lemmas.List.{length_push}
use Rattle.strength.specs.Steps.{combination, counted}
use Rattle.strength.proofs.Rows.{run_lt, run_levels, run_reads, run_next, runs_over}
use Rattle.strength.proofs.Tallies.{tally_low, recount}
use Rattle.strength.proofs.chosen.Chosen.count_runs.Goals as goal

pub combination_of-requires-clause-levels : goal.combination_of-requires-clause-levels
combination_of-requires-clause-levels g c =
    let table = c.args.self.now.checked.now.table.now in
    run_levels g.C.Levelled.level table c.args.self.now.checked.now.accepted (length c.loop-run.yielded) c.loop-run.invariant.rest c.loop-run.invariant.size c.in-Some.run'.now _ c.in-Some.ensures.steps.1

pub overflow_add-counters : goal.overflow_add-counters
overflow_add-counters g c =
    let Q = c.args.self.now.checked.now.claim in
    let A = c.args.self.now.checked.now.accepted in
    let table = c.args.self.now.checked.now.table.now in
    let n : ℕ = length c.loop-run.yielded in
    let m : ℕ = c.combination_of.result in
    record {
      fits = omega (
        arith,
        c.loop-run.invariant.counts m c.combination_of.ensures.below,
        tally_low (λ run. eqb (combination Q (map g.C.Levelled.level table) c.args.self.now.columns.now run) m) n,
        c.loop-run.invariant.within,
        A.short,
      );
    }

pub loop-run-preserved : goal.loop-run-preserved
loop-run-preserved g c =
    let Q = c.args.self.now.checked.now.claim in
    let A = c.args.self.now.checked.now.accepted in
    let table = c.args.self.now.checked.now.table.now in
    let cs = c.args.self.now.columns.now in
    let xs = c.loop-run.counters in
    let n : ℕ = length c.loop-run.yielded in
    let before = c.loop-run.invariant in
    let step = c.in-Some.ensures.steps in
    let more = length_push c.loop-run.yielded c.in-Some.run' in
    let f : ℕ → ℕ = combination Q (map g.C.Levelled.level table) cs in
    let is : c.combination_of.result ≡ f n = c.combination_of.ensures.value ∙ run_reads g.C.Levelled.level table A n before.rest before.size c.in-Some.run'.now _ step.1 cs c.args.self.now.choice in
    let long : length xs ≡ Q.levels ^ Q.strength = omega arith in
    let low : f n < Q.levels ^ Q.strength = omega (arith, is, c.combination_of.ensures.below) in
    record {
      size = step.0 ∙ before.size;
      rest = sym (run_next g.C.Levelled.level table A n before.rest before.size c.in-Some.run'.now _ step.1) ∙ ap (λ z. drop (z * Q.factors) table) (sym more);
      within = omega (arith, more, run_lt g.C.Levelled.level table A n before.rest before.size c.in-Some.run'.now _ step.1);
      counts = λ m h.
          subst (λ z. get_or (set xs z (get_or xs z 0 + 1)) m 0 ≡ counted Q (map g.C.Levelled.level table) cs m (length (c.loop-run.yielded ++ c.in-Some.run' ∷ []))) (sym is)
          (recount f (Q.levels ^ Q.strength) xs n long low before.counts m h ∙ ap (counted Q (map g.C.Levelled.level table) cs m) (sym more));
    }

pub returns : goal.returns
returns g c = λ m h.
    c.loop-run.invariant.counts m h
    ∙ ap (counted c.args.self.now.checked.now.claim (map g.C.Levelled.level c.args.self.now.checked.now.table.now) c.args.self.now.columns.now m)
    (runs_over g.C.Levelled.level c.args.self.now.checked.now.table.now c.args.self.now.checked.now.accepted (length c.loop-run.yielded) c.loop-run.invariant.rest c.loop-run.invariant.size c.loop-run.invariant.within c.in-None.ensures.steps.1.0)
