-- The request line: five numerals, with single spaces between them and a line feed at the end.
--
--   digit    a byte from 48 to 57, that is '0' to '9'
--   numeral  one to ten digits, leading zeros allowed, of a number below 2 ^ 32
--   32, 10   the bytes of a space and of a line feed
--
-- Assumes nothing.
use Rattle.std.specs.Prelude.{◌≡◌, ℕ, ◌+◌, ◌-◌, ◌*◌, ◌^◌, ◌<◌, ◌≤◌, List, [], ◌∷◌, ◌++◌, length, slice_index}
use Rattle.listing_text.specs.declared.request.Request.{Request}

-- the number that digits write, after those of n
abbrev pub value_after : ℕ → List ℕ → ℕ
value_after n [] = n
value_after n (c ∷ cs) = value_after (n * 10 + (c - 48)) cs

-- the digits ds write the number n
pub record Numeral (ds : List ℕ) (n : ℕ) : Type 0 where
  pub some : 0 < length ds
  pub short : length ds ≤ 10
  pub digits : (i : ℕ) → i < length ds → (48 ≤ slice_index ds i) × (slice_index ds i ≤ 57)
  pub value : value_after 0 ds ≡ n
  pub below : n < 2 ^ 32

-- the text begins with a numeral of n and the byte `end`, and `after` follows
pub record Field (end : ℕ) (text : List ℕ) (n : ℕ) (after : List ℕ) : Type 0 where
  pub ds : List ℕ
  pub numeral : Numeral ds n
  pub split : text ≡ ds ++ end ∷ after

-- the first line of the input writes the request q; `after` is what follows that line
pub record Reads (input : List ℕ) (q : Request) : Type 0 where
  pub a : List ℕ
  pub b : List ℕ
  pub c : List ℕ
  pub d : List ℕ
  pub e : List ℕ
  pub after : List ℕ
  pub levels : Numeral a q.levels
  pub strength : Numeral b q.strength
  pub factors : Numeral c q.factors
  pub seed : Numeral d q.seed
  pub shuffler : Numeral e q.shuffler
  pub known : q.shuffler ≤ 1
  pub line : input ≡ a ++ 32 ∷ (b ++ 32 ∷ (c ++ 32 ∷ (d ++ 32 ∷ (e ++ 10 ∷ after))))
