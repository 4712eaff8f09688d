use Rattle.std.proofs.Common.{◌≡◌, None, subst, arith}
use Rattle.refusal.specs.Table.{refusal}
use Rattle.levels.specs.Choice.{meaning}
use Rattle.strip.specs.Rows.{rows_rows}
use Rattle.listing.proofs.RowCells.{cells_taken}
use Rattle.listing.proofs.listing.Listing.write_cells.Goals as goal

pub returns : goal.returns
returns c =
    let S = c.args.self.now.strip in
    let a = c.in_ok-rows.ensures.answer in (
      subst (λ n. refusal (rows_rows S.plan (meaning S.ring) c.args.label 1 0 n) ≡ None) c.requires a.0,
      cells_taken c.args.label c.args.cells.now c.rows.new.table a.1 (omega (arith, a.1.sized, S.plan.named, S.plan.few)) S.plan.factors (omega arith),
    )
