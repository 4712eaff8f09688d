-- What the plain book's relation and the search come to.
--   Sized     a plain book of n labels
--   OneStep   at each call a plain book has exactly one answer and one book after
--   StopLaw   where a take stops is the first label that waits or is torn
-- Assumes nothing.
use Rattle.std.specs.Prelude.{◌≡◌, ℕ, ◌<◌, ◌≤◌, List, length, Some, Result}
use Rattle.refusal.specs.declared.Slip.{Slip}
use Rattle.book.specs.declared.standing.Standing.{Standing}
use Rattle.book.specs.declared.calls.Call.{Call}
use Rattle.book.specs.declared.calls.Answer.{Answer}
use Rattle.book.specs.Search.{stop, FirstStop}
use Rattle.book.specs.Plain.{Plain, opened, Step}

pub record Sized (n : ℕ) (p : Plain) : Type 0 where
  pub labels : length p.labels ≡ n
  pub cursor : p.cursor < n

pub record OneStep : Type 0 where
  -- the opened book has its size, and a call keeps it
  pub first : (n : ℕ) → 0 < n → Sized n (opened n)
  pub kept : (n : ℕ) (p : Plain) → Sized n p → (call : Call) (a : Result Answer Slip) (q : Plain) → Step n p call a q → Sized n q
  -- there is an answer and a book after, and no second
  pub some : (n : ℕ) (p : Plain) → Sized n p → (call : Call) → (a : Result Answer Slip) × (q : Plain) × Step n p call a q
  pub only : (n : ℕ) (p : Plain) (call : Call) (a b : Result Answer Slip) (q r : Plain) → Step n p call a q → Step n p call b r → (a ≡ b) × (q ≡ r)

pub record StopLaw : Type 0 where
  pub only : (ss : List Standing) (c k : ℕ) → c ≤ length ss → stop c ss ≡ Some k → FirstStop c ss k
  pub always : (ss : List Standing) (c k : ℕ) → c ≤ length ss → FirstStop c ss k → stop c ss ≡ Some k
