-- What follows from the laws of a shuffler. Assumes nothing.
use Rattle.std.proofs.Common.{◌≡◌, ℕ, ◌^◌, ◌<◌, sym, ap, ◌∙◌, inl, inr}
use Rattle.std.proofs.lemmas.Bool.{cases_lt}
use Rattle.shuffle.specs.Ways.{Ways, ShuffleLaws}

module _ {w : Ways} (L : ShuffleLaws w) (key n : ℕ) (fits : key < 2 ^ 32) where
  pub out_injective : (i j : ℕ) → w.out key n i ≡ w.out key n j → i ≡ j
  out_injective i j e = sym (L.back_out key n i fits) ∙ ap (w.back key n) e ∙ L.back_out key n j fits

  pub back_injective : (i j : ℕ) → w.back key n i ≡ w.back key n j → i ≡ j
  back_injective i j e = sym (L.out_back key n i fits) ∙ ap (w.out key n) e ∙ L.out_back key n j fits

  -- where the one way leads, the other leads back from
  pub back_of_out : (i j : ℕ) → w.out key n i ≡ j → w.back key n j ≡ i
  back_of_out i j e = ap (w.back key n) (sym e) ∙ L.back_out key n i fits

  pub out_of_back : (i j : ℕ) → w.back key n i ≡ j → w.out key n j ≡ i
  out_of_back i j e = ap (w.out key n) (sym e) ∙ L.out_back key n i fits

  -- only a number below the size goes below it
  pub below_of_out : (i : ℕ) → w.out key n i < n → i < n
  below_of_out i h = elim (cases_lt i n) [ inl l ↦ l | inr l ↦ rw (L.out_self key n i fits l) at h ]

  pub below_of_back : (i : ℕ) → w.back key n i < n → i < n
  below_of_back i h = elim (cases_lt i n) [ inl l ↦ l | inr l ↦ rw (L.back_self key n i fits l) at h ]
