-- A stored table of all listed counts keeps a rule at each of its entries, by one test that antt computes.
-- Assumes nothing.
use Rattle.std.proofs.Common.{◌≡◌, ℕ, ◌+◌, ◌%◌, ◌<◌, Bool, true, T, eqb, List, [], get_or, sym, ap, ◌∙◌, mod-lt, arith, eqb→eq}
use Rattle.levels.specs.Counts.{listed_counts, listed_serves}
use Rattle.levels.specs.Rings.{inverse}
use Rattle.levels.specs.Residues.{residues}
use Rattle.levels.specs.Tables.{before, row_of}
use Rattle.levels.specs.Below.{all_below, at, all_of, at_of}
use Rattle.levels.specs.Modular.{listed_laws}
use Rattle.levels.specs.Inverse.{inverse_mod, all_units}

-- the table has f at every two codes of every count
abbrev pub cells_right : (ℕ → ℕ → ℕ → ℕ) → List (List ℕ) → Bool
cells_right f rows = all_of listed_counts (λ s. all_below s (λ a. all_below s (λ b. eqb (get_or (get_or rows (before listed_counts s + a) []) b 0) (f s a b))))

-- the table has the inverse at every code of every count
abbrev pub inverses_right : List ℕ → Bool
inverses_right xs = all_of listed_counts (λ s. all_below s (λ a. eqb (get_or xs (before listed_counts s + a) 0) (inverse (residues s) a)))

module _ (s : ℕ) (h : listed_serves s ≡ true) where
  below : (a : ℕ) → a % s < s
  below a = mod-lt a (omega (arith, (listed_laws s h).low))

  -- what is read of such a table for two numbers, which the operation replaces by their codes
  pub cell_right : (f : ℕ → ℕ → ℕ → ℕ) (rows : List (List ℕ)) (r k m a b : ℕ) → r ≡ get_or (get_or rows k []) m 0 → k ≡ row_of s a → m ≡ b % s → T (cells_right f rows) → f s a b ≡ f s (a % s) (b % s) → r ≡ f s a b
  cell_right f rows r k m a b er ek em t reduced =
      let square = at_of listed_counts (λ s. all_below s (λ a. all_below s (λ b. eqb (get_or (get_or rows (before listed_counts s + a) []) b 0) (f s a b)))) t s h in
      let line = at s (λ a. all_below s (λ b. eqb (get_or (get_or rows (before listed_counts s + a) []) b 0) (f s a b))) square (a % s) (below a) in
      er ∙ ap (λ i. get_or (get_or rows i []) m 0) ek ∙ ap (λ i. get_or (get_or rows (row_of s a) []) i 0) em
      ∙ eqb→eq (get_or (get_or rows (row_of s a) []) (b % s) 0) (f s (a % s) (b % s)) (at s (λ b. eqb (get_or (get_or rows (row_of s a) []) b 0) (f s (a % s) b)) line (b % s) (below b))
      ∙ sym reduced

  -- what is read of such a table for a number
  pub inverse_right : (xs : List ℕ) (r k a : ℕ) → r ≡ get_or xs k 0 → k ≡ row_of s a → T (inverses_right xs) → r ≡ inverse (residues s) a
  inverse_right xs r k a er ek t =
      let line = at_of listed_counts (λ s. all_below s (λ a. eqb (get_or xs (before listed_counts s + a) 0) (inverse (residues s) a))) t s h in
      er ∙ ap (λ i. get_or xs i 0) ek
      ∙ eqb→eq (get_or xs (row_of s a) 0) (inverse (residues s) (a % s)) (at s (λ a. eqb (get_or xs (before listed_counts s + a) 0) (inverse (residues s) a)) line (a % s) (below a))
      ∙ sym (inverse_mod (listed_laws s h) a)

  pub listed_units : T (all_units (residues s))
  listed_units = at_of listed_counts (λ s. all_units (residues s)) tt s h
