-- The number of a word's digits, read one after another. Assumes nothing.
use Rattle.std.proofs.Common.{◌≡◌, ℕ, ◌+◌, ◌-◌, ◌*◌, ◌^◌, ◌<◌, ◌≤◌, inl, inr, List, [], ◌∷◌, ◌++◌, length, get_or, take, Ok, Err, Option, Result, sym, refl, ap, ◌∙◌, arith, rules, take_all, MatchOption}
use Rattle.std.proofs.lemmas.List.{get_or-take, take_more, length-take-le}
use Rattle.std.proofs.lemmas.Str.Parse.{IsNumeralModel, numerals_by_fold, tells_by_index, digits_value_short}
use Rattle.std.specs.Char.{IsDigitOf}
use Rattle.std.specs.Int.{IsInRange}
use Rattle.std.specs.Result.{OkIff, result_ok}
use Rattle.listing_text.specs.Grammar.{value_after, Numeral}

-- each byte is a digit
abbrev pub Digits : List ℕ → Type 0
Digits bs = (i : ℕ) → i < length bs → IsInRange 48 57 (get_or bs i 0)

-- each of the first i bytes is a digit
abbrev pub DigitsTo : List ℕ → ℕ → Type 0
DigitsTo bs i = (k : ℕ) → k < i → IsInRange 48 57 (get_or bs k 0)

pub own : IsNumeralModel Digits (value_after 0)
own = numerals_by_fold _ tells_by_index value_after (search rules)

-- what is read as a decimal digit is one, of its value
pub digit_of : (b d : ℕ) → IsDigitOf b d → d < 10 → IsInRange 48 57 b × (d ≡ b - 48)
digit_of b d (inl h) low = (h.0, omega (arith, h.1))
digit_of b d (inr (inl h)) low = absurd (omega (arith, h.0, h.1, low))
digit_of b d (inr (inr h)) low = absurd (omega (arith, h.0, h.1, low))

-- one more digit
value_push : (n : ℕ) (ds : List ℕ) (c : ℕ) → value_after n (ds ++ c ∷ []) ≡ value_after n ds * 10 + (c - 48)
value_push n [] c = refl
value_push n (d ∷ ds) c = value_push (n * 10 + (d - 48)) ds c

module _ (bs : List ℕ) (i : ℕ) where
  pub value_fits : DigitsTo bs i → i ≤ length bs → i ≤ 9 → value_after 0 (take i bs) < 10 ^ 9
  value_fits digits inside nine =
      let long = length-take-le i bs inside in
      digits_value_short own (take i bs) 9 (λ k l. rw (get_or-take i bs k 0 (omega arith)) (digits k (omega arith))) (omega (arith, long))

  pub value_more : i < length bs → value_after 0 (take (i + 1) bs) ≡ value_after 0 (take i bs) * 10 + (get_or bs i 0 - 48)
  value_more h = ap (value_after 0) (take_more bs i 0 h) ∙ value_push 0 (take i bs) (get_or bs i 0)

module _ {E : Type 0} (bs : List ℕ) (some : 0 < length bs) (short : length bs ≤ 10) where
  -- v is the number of the bytes, which are digits
  whole : (digits : DigitsTo bs (length bs)) (v : ℕ) → v ≡ value_after 0 bs → (r : Result ℕ E) → OkIff r (v < 2 ^ 32) v → (o : Option ℕ) → o ≡ result_ok r → MatchOption o ((n : ℕ) → Numeral bs n → ⊥) (λ n. Numeral bs n)
  whole digits v e (Ok x) h o p =
      rw p (record { some = some; short = short; digits = digits; value = sym (h.1 ∙ e); below = omega (arith, h.0, h.1) })
  whole digits v e (Err y) h o p = rw p (λ n m. h (omega (arith, e, m.value, m.below)))

  -- the same where the first i bytes are known, and there are no more
  pub written : (i : ℕ) → length bs ≤ i → DigitsTo bs i → (v : ℕ) → v ≡ value_after 0 (take i bs) → (r : Result ℕ E) → OkIff r (v < 2 ^ 32) v → (o : Option ℕ) → o ≡ result_ok r → MatchOption o ((n : ℕ) → Numeral bs n → ⊥) (λ n. Numeral bs n)
  written i all digits v e =
      whole (λ k l. digits k (omega arith)) v (e ∙ ap (value_after 0) (take_all i bs all))
