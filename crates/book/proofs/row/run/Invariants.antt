use Rattle.std.proofs.Common.{◌≡◌, ◌≤◌, length, vec_items, vec_len, vec_capacity}
use Rattle.book.proofs.Playing.{Playing}
use Rattle.book.proofs.row.run.Given as goal

abbrev pub invariant-loop-call : goal.invariant-loop-call
invariant-loop-call l =
    record {
      told : vec_len l.answers ≡ l.call-index;
      room : length l.calls ≤ vec_capacity l.answers;
      playing : Playing l.fn.plan l.calls l.call-index l.book l.words (vec_items l.answers);
    }
