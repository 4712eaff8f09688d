-- What comes of appending a text to a string.
--
--   old, new   the string before and after
--   r          the result: an error is want of memory
--
-- Assumes nothing.
use Rattle.std.specs.Prelude.{◌≡◌, ℕ, ◌+◌, ◌≤◌, true, List, ◌++◌, length, take, is_ok, string_bytes, string_len, string_capacity, Result, String}

-- the text was to be appended to `old`: `new` and the result r came of it
pub record Appends {X Y Z : Type 0} (r : Result X Y) (old : String Z) (text : List ℕ) (new : String Z) : Type 0 where
  -- all of the text is there, where the result is `Ok`
  pub whole : is_ok r ≡ true → string_bytes new ≡ string_bytes old ++ text
  -- else the first bytes of the text are, and nothing more
  pub front : (k : ℕ) × (string_bytes new ≡ string_bytes old ++ take k text)
  -- where the string has room for the text, the result is `Ok`
  pub room : string_len old + length text ≤ string_capacity old → is_ok r ≡ true
  -- the room grows only
  pub capacity : string_capacity old ≤ string_capacity new
