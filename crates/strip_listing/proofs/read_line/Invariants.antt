use Rattle.std.proofs.Common.{◌<◌}
use Rattle.arrayvec.specs.ArrayVec.{array_vec_len}
use Rattle.strip_listing.proofs.read_line.Given as goal

-- there is room for another byte
abbrev pub invariant-loop-byte : goal.invariant-loop-byte
invariant-loop-byte l =
    (goal.iterator-loop-byte).can_next l.byte-iterator ×
    (goal.iterator-loop-byte).is_finite l.byte-iterator ×
    (array_vec_len l.line < 55)
