use Rattle.std.proofs.Common.{◌≡◌, ℕ, ◌*◌, ◌^◌, ◌<◌, ◌≤◌, map, length, get_or, drop}
use Rattle.std.specs.Slice.Iter.{chunks_exact_rest, chunks_exact_size}
use Rattle.strength.specs.Steps.{counted}
use Rattle.strength.proofs.chosen.Chosen.count_runs.Given as goal

abbrev pub invariant-loop-run : goal.invariant-loop-run
invariant-loop-run g l = record {
  size : chunks_exact_size l.run-iterator ≡ l.self.checked.now.claim.factors;
  rest : chunks_exact_rest l.run-iterator ≡ drop (length l.yielded * l.self.checked.now.claim.factors) l.self.checked.now.table.now;
  within : length l.yielded ≤ l.self.checked.now.claim.runs;
  counts : (m : ℕ) → m < l.self.checked.now.claim.levels ^ l.self.checked.now.claim.strength → get_or l.counters m 0 ≡ counted l.self.checked.now.claim (map g.C.Levelled.level l.self.checked.now.table.now) l.self.columns.now m (length l.yielded);
}
