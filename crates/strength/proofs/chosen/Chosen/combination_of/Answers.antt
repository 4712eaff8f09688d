use Rattle.std.proofs.Common.{ℕ, arith}
use Rattle.strength.proofs.Rows.{front_lt, front_more, front_fits, level_told}
use Rattle.strength.proofs.chosen.Chosen.combination_of.Goals as goal

pub overflow_mul-n : goal.overflow_mul-n
overflow_mul-n g c =
    let fits = front_fits c.args.self.now.checked.now.accepted c.args.self.now.choice g.C.Levelled.level c.args.run.now c.requires.sized c.requires.levels
    c.loop-column.column-index c.loop-column.n c.loop-column-test.true c.loop-column.invariant in
    record { fits = omega (arith, fits) }

pub overflow_add-n : goal.overflow_add-n
overflow_add-n g c =
    let A = c.args.self.now.checked.now.accepted in
    let C = c.args.self.now.choice in
    let k : ℕ = c.loop-column.column-index in
    let n : ℕ = c.loop-column.n in
    let h = c.loop-column-test.true in
    let e = c.loop-column.invariant in
    record {
      fits = omega (
        arith,
        front_fits A C g.C.Levelled.level c.args.run.now c.requires.sized c.requires.levels k n h e,
        level_told A C g.C.Levelled.level c.args.run.now c.requires.sized c.requires.levels k n h e c.index-run-column.result c.level.result c.index-run-column.is c.level.ensures.value,
      );
    }

pub loop-column-preserved : goal.loop-column-preserved
loop-column-preserved g c =
    let A = c.args.self.now.checked.now.accepted in
    let C = c.args.self.now.choice in
    let k : ℕ = c.loop-column.column-index in
    let n : ℕ = c.loop-column.n in
    let h = c.loop-column-test.true in
    let e = c.loop-column.invariant in
    omega (
      arith,
      level_told A C g.C.Levelled.level c.args.run.now c.requires.sized c.requires.levels k n h e c.index-run-column.result c.level.result c.index-run-column.is c.level.ensures.value,
      front_fits A C g.C.Levelled.level c.args.run.now c.requires.sized c.requires.levels k n h e,
      front_more A C g.C.Levelled.level c.args.run.now c.requires.sized c.requires.levels k n h e,
    )

pub returns-clause-below : goal.returns-clause-below
returns-clause-below g c =
    omega (
      arith,
      front_lt c.args.self.now.checked.now.accepted c.args.self.now.choice g.C.Levelled.level c.args.run.now c.requires.sized c.requires.levels c.loop-column.column-index,
      c.loop-column.invariant,
    )
