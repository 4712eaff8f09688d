-- What a call and an answer hold.
--   len_of       the length of the memory that a call hands in
--   is_finished  whether an answer ends a row
-- Assumes nothing.
use Rattle.std.specs.Prelude.{ℕ, Bool, true, false, Ok, Err, Result}
use Rattle.refusal.specs.declared.Slip.{Slip}
use Rattle.book.specs.declared.calls.Call.{Call}
use Rattle.book.specs.declared.calls.Call.TheVariants.{Take, Mark, Spoil, Strike, Finish}
use Rattle.book.specs.declared.calls.Answer.{Answer}
use Rattle.book.specs.declared.calls.Answer.TheVariants.{Took, Done, Finished}

abbrev pub len_of : Call → ℕ
len_of (Take len) = len
len_of (Mark len label grade) = len
len_of (Spoil len label) = len
len_of (Strike len label) = len
len_of (Finish len) = len

abbrev pub is_finished : Result Answer Slip → Bool
is_finished (Ok (Took label)) = false
is_finished (Ok Done) = false
is_finished (Ok Finished) = true
is_finished (Err slip) = false
