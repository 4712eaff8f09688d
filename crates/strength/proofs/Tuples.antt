-- Tuples of levels and the numbers that they write in base b, the first level highest. Assumes nothing.
use Rattle.std.proofs.Common.{◌≡◌, ℕ, zero, suc, ◌+◌, ◌*◌, ◌/◌, ◌%◌, ◌^◌, ◌<◌, true, false, ◌&&◌, eqb, List, [], ◌∷◌, ◌++◌, length, sym, refl, ap, ◌∙◌, subst, ⊎_elim, pow-suc, arith}
use native.Mathlib.Nat.{pow-zero}
use Rattle.std.specs.Int.Digits.{number_from_digits, number_from_digits_after, AllBelowBase}
use Rattle.std.proofs.lemmas.Int.Digits.{number_push}
use Rattle.std.proofs.ByRecursion.{All-push}
use Rattle.std.proofs.lemmas.List.{length_push}
use Rattle.std.proofs.lemmas.Nat.{div-mul-add, mod-mul-add, div-add-mod', div_below, mod_below}
use Rattle.std.proofs.lemmas.Bool.{eq-eqb, eqb-true, and_parts, cases_Bool, ne_eqb, both_ways}
use Rattle.strength.specs.Arrays.{same}

-- digits below the base are known from the number
digits_known : (b m n : ℕ) (xs ys : List ℕ) → AllBelowBase b xs → AllBelowBase b ys → length xs ≡ length ys → number_from_digits_after b m xs ≡ number_from_digits_after b n ys → (m ≡ n) × (xs ≡ ys)
digits_known b m n [] [] u v l e = (e, refl)
digits_known b m n [] (y ∷ ys) u v l e = absurd (omega arith)
digits_known b m n (x ∷ xs) [] u v l e = absurd (omega arith)
digits_known b m n (x ∷ xs) (y ∷ ys) u v l e =
    let rest = digits_known b (m * b + x) (n * b + y) xs ys u.1 v.1 (omega arith) e in
    let high : m ≡ n = sym (div-mul-add m b x u.0) ∙ ap (λ z. z / b) rest.0 ∙ div-mul-add n b y v.0 in
    let low : x ≡ y = sym (mod-mul-add m b x u.0) ∙ ap (λ z. z % b) rest.0 ∙ mod-mul-add n b y v.0 in
    let tail : xs ≡ ys = rest.1 in
    (high, cc)

pub same_self : (xs : List ℕ) → same xs xs ≡ true
same_self [] = refl
same_self (x ∷ xs) = ap (λ z. z && same xs xs) (eq-eqb x x refl) ∙ same_self xs

pub same_is : (xs ys : List ℕ) → same xs ys ≡ true → xs ≡ ys
same_is [] [] e = refl
same_is [] (y ∷ ys) e = absurd (both_ways false refl e)
same_is (x ∷ xs) [] e = absurd (both_ways false refl e)
same_is (x ∷ xs) (y ∷ ys) e =
    let parts = and_parts (eqb x y) (same xs ys) e in
    let head : x ≡ y = eqb-true x y parts.0 in
    let tail : xs ≡ ys = same_is xs ys parts.1 in
    cc

-- tuples are the same where their numbers are
pub same_number : (b : ℕ) (xs ys : List ℕ) → AllBelowBase b xs → AllBelowBase b ys → length xs ≡ length ys → same xs ys ≡ eqb (number_from_digits b xs) (number_from_digits b ys)
same_number b xs ys u v l = ⊎_elim yes' no' (cases_Bool (same xs ys))
  where
    yes' : same xs ys ≡ true → same xs ys ≡ eqb (number_from_digits b xs) (number_from_digits b ys)
    yes' e = e ∙ sym (eq-eqb (number_from_digits b xs) (number_from_digits b ys) (ap (number_from_digits b) (same_is xs ys e)))

    no' : same xs ys ≡ false → same xs ys ≡ eqb (number_from_digits b xs) (number_from_digits b ys)
    no' e =
        e ∙ sym (ne_eqb (number_from_digits b xs) (number_from_digits b ys) (λ n.
        let is : xs ≡ ys = (digits_known b 0 0 xs ys u v l n).1 in
        both_ways (same xs ys) e (subst (λ zs. same xs zs ≡ true) is (same_self xs))))

-- the tuple of t levels that writes m
unfoldable pub written : ℕ → ℕ → ℕ → List ℕ
written b zero m = []
written b (suc t) m = written b t (m / b) ++ m % b ∷ []

pub length_written : (b t m : ℕ) → length (written b t m) ≡ t
unfolding written
length_written b zero m = refl
length_written b (suc t) m = length_push (written b t (m / b)) (m % b) ∙ omega (arith, length_written b t (m / b))

pub under_written : (b t m : ℕ) → 0 < b → AllBelowBase b (written b t m)
unfolding written
under_written b zero m h = tt
under_written b (suc t) m h = All-push (λ d. d < b) (written b t (m / b)) (m % b) (under_written b t (m / b) h) (mod_below m b h)

pub number_written : (b t m : ℕ) → 0 < b → m < b ^ t → number_from_digits b (written b t m) ≡ m
unfolding written
number_written b zero m h l = omega (arith, pow-zero b)
number_written b (suc t) m h l =
    number_push b (written b t (m / b)) (m % b)
    ∙ ap (λ z. z * b + m % b) (number_written b t (m / b) h (div_below m b (b ^ t) h (subst (λ z. m < z) (pow-suc b t) l)))
    ∙ div-add-mod' m b
