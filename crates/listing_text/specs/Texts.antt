-- The bytes of the printed lines. The numerals are decimal, without leading zeros.
--
--   32, 10, 47   the bytes of a space, a line feed and a stroke
--
-- Assumes nothing.
use Rattle.std.specs.Prelude.{ℕ, List, [], ◌∷◌, ◌++◌, codes}
use Rattle.std.specs.List.{flat_map}
use Rattle.std.specs.Fmt as written
use Rattle.listing_text.specs.declared.request.Request.{Request}

-- the digits of n: what the library writes for `{n}`
abbrev pub decimal : ℕ → List ℕ
decimal n = written.decimal n

-- a space and the digits of n
abbrev pub spaced : ℕ → List ℕ
spaced n = 32 ∷ decimal n

-- the end of a line
abbrev pub end_text : List ℕ
end_text = 10 ∷ []

-- the five numbers of a request
abbrev pub numbers : Request → List ℕ
numbers q = q.levels ∷ q.strength ∷ q.factors ∷ q.seed ∷ q.shuffler ∷ []

-- the line that repeats a request
abbrev pub header_text : Request → List ℕ
header_text q = codes "strip" ++ (flat_map spaced (numbers q) ++ end_text)

-- the label number at the front of a row
abbrev pub label_text : ℕ → List ℕ
label_text number = decimal number

-- one cell of a row
abbrev pub setting_text : ℕ → ℕ → List ℕ
setting_text level fine = spaced level ++ 47 ∷ decimal fine

-- the line of a refusal
abbrev pub refused_text : ℕ → List ℕ
refused_text number = codes "refused" ++ (spaced number ++ end_text)
