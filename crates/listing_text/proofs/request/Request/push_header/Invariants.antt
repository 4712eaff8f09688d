use Rattle.std.proofs.Common.{take, Ok}
use Rattle.std.specs.declared.alloc.AllocError.{AllocError}
use Rattle.std.specs.List.{flat_map}
use Rattle.listing_text.specs.Appends.{Appends}
use Rattle.listing_text.specs.Texts.{spaced, numbers}
use Rattle.listing_text.proofs.request.Request.push_header.Given as goal

-- the numbers so far are there
abbrev pub invariant-loop-n : goal.invariant-loop-n
invariant-loop-n l = Appends {Y = AllocError} (Ok (tt {0})) l.initial.out (flat_map spaced (take l.n-index (numbers l.self))) l.out
