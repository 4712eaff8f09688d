-- What the first item that passes a test is to a search upward through a list. Assumes nothing.
use Rattle.std.proofs.Common.{◌≡◌, ℕ, ◌<◌, ◌≤◌, Bool, ltb, List, length, get_or, Option, Some, None, sym, refl, ◌∙◌, arith}
use Rattle.std.proofs.lemmas.Grind.{common_steps}
use Rattle.std.specs.List.{position, position_or_len}
use Rattle.std.proofs.lemmas.List.Quantifiers.{position-Some}
use Rattle.std.proofs.lemmas.List.Sums.{fails_before_first}
use Rattle.std.specs.List.{list_any}
use Rattle.std.proofs.lemmas.Bool.{lt-ltb, le-ltb}
use Rattle.std.proofs.lemmas.List.Folds.{list_any_none, list_any_at}
use Rattle.refusal.specs.Table.{first, Sought}
use Rattle.refusal.proofs.Places.{first_none, first_here}

-- where no item passes, the place is not below the length
nowhere : {X : Type 0} (p : X → Bool) (xs : List X) → None ≡ position p xs → length xs ≤ position_or_len p xs
nowhere p xs e = grind (arith, common_steps)

-- q k is what the test says of the k-th item
pub sought_by_position : {X : Type 0} (p : X → Bool) (q : ℕ → Bool) (xs : List X) (d : X)
    → ((k : ℕ) → k < length xs → q k ≡ p (get_or xs k d))
    → (r : Option ℕ) → r ≡ position p xs → Sought q (length xs) r
sought_by_position p q xs d same None e =
    let past : length xs ≤ position_or_len p xs = nowhere p xs e in
    first_none q (length xs) (λ j l. same j l ∙ fails_before_first p xs j d (omega arith))
sought_by_position p q xs d same (Some k) e =
    let at = position-Some p xs k d (sym e) in
    (at.0, first_here q (length xs) k at.0 (λ j l. same j (omega (arith, at.0)) ∙ at.2 j l) (same k at.0 ∙ at.1))

-- some item passes exactly where the search upward ends below the length
pub any_sought : {X : Type 0} (p : X → Bool) (q : ℕ → Bool) (xs : List X) (d : X)
    → ((k : ℕ) → k < length xs → q k ≡ p (get_or xs k d))
    → list_any p xs ≡ ltb (first q (length xs)) (length xs)
any_sought p q xs d same = by (position p xs) refl
  where
    by : (r : Option ℕ) → r ≡ position p xs → list_any p xs ≡ ltb (first q (length xs)) (length xs)
    by None e =
        let past : length xs ≤ position_or_len p xs = nowhere p xs e in
        let none : first q (length xs) ≡ length xs = sought_by_position p q xs d same None e in
        list_any_none p xs (λ k x l. fails_before_first p xs k x (omega arith))
        ∙ sym (le-ltb (first q (length xs)) (length xs) (omega (arith, none)))
    by (Some k) e =
        let at = position-Some p xs k d (sym e) in
        let found = sought_by_position p q xs d same (Some k) e in
        list_any_at p xs k d at.0 at.1 ∙ sym (lt-ltb (first q (length xs)) (length xs) (omega (arith, at.0, found.1)))
