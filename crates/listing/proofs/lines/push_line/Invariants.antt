use Rattle.std.proofs.Common.{take, Ok}
use Rattle.std.specs.declared.alloc.AllocError.{AllocError}
use Rattle.listing_text.specs.Appends.{Appends}
use Rattle.listing.specs.Lines.{cells_text}
use Rattle.listing.proofs.lines.push_line.Given as goal

-- the settings so far are there
abbrev pub invariant-loop-cell : goal.invariant-loop-cell
invariant-loop-cell l = Appends {Y = AllocError} (Ok (tt {0})) l.initial.out (cells_text (take l.cell-index l.cells)) l.out
