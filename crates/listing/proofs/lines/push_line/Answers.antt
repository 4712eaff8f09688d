use Rattle.listing_text.proofs.Chains.{along, stops, loop_stops, loop_ends}
use Rattle.strip.specs.Rows.{blank}
use Rattle.listing.specs.Lines.{cell_text}
use Rattle.listing.proofs.lines.push_line.Goals as goal

pub returns-in_err-push_label : goal.returns-in_err-push_label
returns-in_err-push_label c = record { text = stops _ c.from_residual.result c.from_residual.ensures.0 c.in_err-push_label.ensures.text }

pub returns-in_err-push_setting : goal.returns-in_err-push_setting
returns-in_err-push_setting c =
    record {
      text = along c.in_ok-push_label.ensures.text
          (loop_stops cell_text c.args.cells.now c.loop-cell.invariant _ blank c.loop-cell-test.true c.from_residual-in_err-push_setting.result c.from_residual-in_err-push_setting.ensures.0 c.in_err-push_setting.ensures.text);
    }

pub returns : goal.returns
returns c =
    record { text = along c.in_ok-push_label.ensures.text (along (loop_ends cell_text c.args.cells.now c.loop-cell.invariant c.loop-cell-test.false) c.push_end.ensures.text) }
