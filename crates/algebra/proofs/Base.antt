-- Numbers below s^t and lists of t digits. Assumes nothing.
use Rattle.std.proofs.Common.{◌≡◌, ℕ, zero, suc, ◌+◌, ◌*◌, ◌/◌, ◌%◌, ◌^◌, ◌<◌, List, [], ◌∷◌, length, refl, ap, ◌∙◌, ap₂, mod-lt, mod-eq_of_lt, div-lt_iff_lt-mul, pow-suc, arith}
use native.Mathlib.Nat.{pow-zero, mod-add-div, add-mul-mod_self_left, add-mul-div_left, div-eq_of_lt}
use lib.Arith.{digits_lt}
use Rattle.std.specs.List.{AllByRecursion}
use Rattle.algebra.specs.Digits.{digits, number}
use Rattle.algebra.specs.Theorems.{Counts}

pub length_digits : (s t n : ℕ) → length (digits s t n) ≡ t
length_digits s zero n = refl
length_digits s (suc t) n = ap suc (length_digits s t (n / s))

pub codes_digits : (s t n : ℕ) → 0 < s → AllByRecursion (λ c. c < s) (digits s t n)
codes_digits s zero n low = tt
codes_digits s (suc t) n low = (mod-lt n low, codes_digits s t (n / s) low)

pub number_digits : (s t n : ℕ) → 0 < s → n < s ^ t → number s (digits s t n) ≡ n
number_digits s zero n low h = omega (arith, pow-zero s)
number_digits s (suc t) n low h =
    ap (λ z. n % s + s * z) (number_digits s t (n / s) low ((div-lt_iff_lt-mul low).1 (rw (pow-suc s t) at h))) ∙ mod-add-div n s

pub number_below : (s : ℕ) → 0 < s → (cs : List ℕ) → AllByRecursion (λ c. c < s) cs → number s cs < s ^ length cs
number_below s low [] k = omega (arith, pow-zero s)
number_below s low (c ∷ cs) k = rw (pow-suc s (length cs)) (omega (arith, digits_lt (number_below s low cs k.1) k.0))

pub digits_number : (s : ℕ) → 0 < s → (cs : List ℕ) → AllByRecursion (λ c. c < s) cs → digits s (length cs) (number s cs) ≡ cs
digits_number s low [] k = refl
digits_number s low (c ∷ cs) k =
    ap₂ ◌∷◌ (add-mul-mod_self_left c s (number s cs) ∙ mod-eq_of_lt k.0)
    (ap (digits s (length cs)) (add-mul-div_left c (number s cs) low ∙ omega (arith, div-eq_of_lt k.0)) ∙ digits_number s low cs k.1)

pub counts : Counts
counts = record { sized = length_digits; codes = codes_digits; back = number_digits; below = number_below; forth = digits_number }
