-- The words of a line: what stands between its blanks.
--
--   blank       a byte that parts words: 32, a space, or 9, a tab
--   13          the byte of a carriage return
--   Trimmed     a line, and what it is without the carriage return at its end, if it has one there
--   Only        a text of blanks alone, or of other bytes alone
--   Parted      a text that begins with a blank, or is empty
--   Next        a text, its first word, and what follows that word
--   Over        a text without a word, which is passed over to its end
--   NextNumber  a text, the number that its first word writes, and what follows that word
--   NoNumber    a text without a word, or whose first word is no numeral, and what follows that word
--
-- Assumes nothing.
use Rattle.std.specs.Prelude.{◌≡◌, ℕ, ◌<◌, Bool, true, false, ◌||◌, ◌⊎◌, List, [], ◌∷◌, ◌++◌, length, ◌==◌, ◌≢◌}
use Rattle.std.specs.List.{AllByRecursion}
use Rattle.listing_text.specs.Grammar.{Numeral}

abbrev pub is_blank : ℕ → Bool
is_blank b = b == 32 || b == 9

-- no more than one carriage return is left out
abbrev pub Trimmed : (line text : List ℕ) → Type 0
Trimmed line text =
    (line ≡ text ++ 13 ∷ []) ⊎ ((line ≡ text) × ((front : List ℕ) → line ≢ front ++ 13 ∷ []))

abbrev pub Only : Bool → List ℕ → Type 0
Only blank text = AllByRecursion (λ b. is_blank b ≡ blank) text

abbrev pub Parted : List ℕ → Type 0
Parted [] = Unit {0}
Parted (b ∷ bs) = is_blank b ≡ true

-- the word is not empty, has no blank, and goes on as far as it can
pub record Next (text word after : List ℕ) : Type 0 where
  pub blanks : List ℕ
  pub split : text ≡ blanks ++ (word ++ after)
  pub before : Only true blanks
  pub some : 0 < length word
  pub whole : Only false word
  pub parted : Parted after

pub record Over (text after : List ℕ) : Type 0 where
  pub blanks : Only true text
  pub none : after ≡ []

pub record NextNumber (text : List ℕ) (n : ℕ) (after : List ℕ) : Type 0 where
  pub word : List ℕ
  pub next : Next text word after
  pub numeral : Numeral word n

abbrev pub NoNumber : (text after : List ℕ) → Type 0
NoNumber text after =
    Over text after ⊎ ((word : List ℕ) × Next text word after × ((n : ℕ) → Numeral word n → ⊥))
