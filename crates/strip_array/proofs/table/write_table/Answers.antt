use Rattle.std.proofs.Common.{◌≡◌, ◌+◌, ◌*◌, ◌≤◌, List, length, Ok, Err, Result, zero-add, arith}
use Rattle.std.proofs.lemmas.Bool.{ltb-false}
use Rattle.std.proofs.lemmas.Bool.Decides.{nat_tests}
use Rattle.refusal.specs.Table.{Answers}
use Rattle.refusal.proofs.Firsts.{none_only}
use Rattle.levels.specs.Rings.{Arithmetic, RingLaws}
use Rattle.shuffle.specs.Ways.{Ways, ShuffleLaws}
use Rattle.plan.specs.declared.shape.Plan.{Plan}
use Rattle.strip.specs.declared.cell.Cell.{Cell}
use Rattle.strip.specs.declared.fault.StripFault.{StripFault}
use Rattle.strip.specs.Faults.{strip_slip}
use Rattle.strip.specs.Names.{Exact}
use Rattle.strip.specs.Rows.{rows_rows, Written}
use Rattle.strip_array.specs.Tables.{Arrayed}
use Rattle.strip_array.proofs.Arrays.{arrayed}
use Rattle.strip_array.proofs.table.write_table.Goals as goal

-- rows that were written are the array, and a refusal stays what it is
told : (P : Plan) (R : Arithmetic) (W : Ways) → RingLaws R → ShuffleLaws W → R.count ≡ P.levels → Exact P R W → (before after : List Cell) (r : Result (Unit {0}) StripFault)
    → Answers strip_slip (rows_rows P R 0 P.labels 0 (length before)) (λ _. Written P R W 0 P.labels 0 before after) r
    → Answers strip_slip (rows_rows P R 0 P.labels 0 (length before)) (λ _. Arrayed P R W before after) r
told P R W L M counts exact before after (Ok done) h =
    let fits : 0 + P.labels * P.factors ≤ length before = ltb-false (length before) (0 + P.labels * P.factors) (none_only (rows_rows P R 0 P.labels 0 (length before)) h.0).1.0 in
    let room : P.labels * P.factors ≤ length after = omega (arith, h.1.sized, zero-add (P.labels * P.factors)) in
    (h.0, record { rows = h.1; array = arrayed P R W before after h.1 room L M counts exact })
told P R W L M counts exact before after (Err fault) h = h

pub returns : goal.returns
returns g c =
    let S = c.args.strip.now in
    let R = g.R.Ring.ring S.ring in
    let o = c.in_ok-orthogonal.ensures in
    record {
      answer = told S.plan R (g.S.Shuffler.ways S.shuffler) (g.met.R.Ring.laws S.ring) (g.met.S.Shuffler.shuffles S.shuffler) (grind (arith, nat_tests)) o.1 c.args.table.now c.rows.new.table c.rows.result c.rows.ensures.answer;
      same = c.rows.ensures.same;
    }
