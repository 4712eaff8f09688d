-- Any t different factors with a level each name exactly one label: the one whose digits are interpolated. Assumes nothing.
use Rattle.std.proofs.Common.{◌≡◌, ℕ, ◌^◌, ◌<◌, ◌≢◌, List, [], ◌∷◌, map, length, sym, refl, ap, ◌∙◌, subst, ap₂, arith}
use mathlib.Core.List.{head-eq_of_cons-eq, tail-eq_of_cons-eq}
use lib.ListN.{length-map}
use Rattle.std.specs.List.{AllByRecursion}
use Rattle.levels.specs.Rings.{Arithmetic, RingLaws}
use Rattle.levels.specs.Ring.{zero_code, zero-add}
use Rattle.shuffle.specs.Ways.{Ways, ShuffleLaws}
use Rattle.shuffle.proofs.Laws.{back_of_out, out_of_back}
use Rattle.plan.specs.declared.shape.Plan.{Plan}
use Rattle.algebra.specs.Polynomials.{Codes, eval}
use Rattle.algebra.specs.Units as units
use Rattle.algebra.specs.Interpolation.{interp}
use Rattle.algebra.specs.Digits.{digits, number}
use Rattle.algebra.specs.Theorems.{Takes}
use Rattle.algebra.proofs.Unique.{interpolates}
use Rattle.algebra.proofs.Base.{length_digits, codes_digits, number_digits, number_below, digits_number}
use Rattle.strip.specs.declared.wish.Wish.{Wish}
use Rattle.strip.specs.Labels.{index, point, level_key, level_at}
use Rattle.strip.specs.Names.{Apart, Chosen, Named, Names}
use Rattle.strip.specs.Wishes.{points_of, values_of}
use Rattle.strip.proofs.Bounds.{key_fits}
use Rattle.strip.proofs.Values.{value_eval}
use Rattle.strip.proofs.Locating.{index_back, back_index, index_below}

-- the place before shuffling of the label that has every wished level
abbrev pub place_for : Plan → Arithmetic → (inv : ℕ → ℕ) → Ways → List Wish → ℕ
place_for P R inv W ws = number P.levels (interp R inv (points_of ws) (values_of P W ws))

module _ (P : Plan) {R : Arithmetic} {W : Ways} (L : RingLaws R) (M : ShuffleLaws W) (counts : R.count ≡ P.levels) where
  labels_power : P.labels ≡ R.count ^ P.strength
  labels_power = P.sized ∙ ap (λ s. s ^ P.strength) (sym counts)

  points_codes : (ws : List Wish) → AllByRecursion (λ w. w.factor < P.factors) ws → Codes R (points_of ws)
  points_codes [] h = tt
  points_codes (w ∷ ws) h = (omega (arith, h.0, P.named, counts), points_codes ws h.1)

  values_codes : (ws : List Wish) → AllByRecursion (λ w. w.level < P.levels) ws → Codes R (values_of P W ws)
  values_codes [] h = tt
  values_codes (w ∷ ws) h = (
    subst (λ s. W.back (level_key P.seed w.factor) P.levels w.level < s) (sym counts) (M.back_below _ _ _ (key_fits _ P.seed w.factor) h.0),
    values_codes ws h.1,
  )

  -- different codes differ by a code other than 0
  different : (x y : ℕ) → x < R.count → y < R.count → y ≢ x → 0 < R.difference y x
  different x y hx hy ne =
      let away : R.difference y x ≢ 0 = λ e. ne (sym (L.sub_add y x hy) ∙ ap (λ z. R.sum z x) e ∙ zero-add L x hx) in
      omega arith

  module _ (inv : ℕ → ℕ) (D : units.Divides R inv) where
    apart_from : (w : Wish) (ws : List Wish) → w.factor < P.factors → AllByRecursion (λ v. v.factor < P.factors) ws → AllByRecursion (λ v. v.factor ≢ w.factor) ws
        → AllByRecursion (λ y. R.product (R.difference y (point w.factor)) (inv (R.difference y (point w.factor))) ≡ R.one) (points_of ws)
    apart_from w [] h hs ne = tt
    apart_from w (v ∷ vs) h hs ne = (
      D (R.difference v.factor w.factor)
          (different w.factor v.factor (omega (arith, P.named, counts)) (omega (arith, hs.0, P.named, counts)) ne.0)
          (L.sub_code v.factor w.factor),
      apart_from w vs h hs.1 ne.1,
    )

    points_apart : (ws : List Wish) → AllByRecursion (λ w. w.factor < P.factors) ws → Apart ws → units.Apart R inv (points_of ws)
    points_apart [] h a = tt
    points_apart (w ∷ ws) h a = (apart_from w ws h.0 h.1 a.0, points_apart ws h.1 a.1)

    -- the wished levels stand at a place exactly where its digits take the values at the points
    meets_values : (n : ℕ) (ws : List Wish) → AllByRecursion (λ w. level_at P R W n w.factor ≡ w.level) ws
        → map (eval R (digits R.count P.strength n)) (points_of ws) ≡ values_of P W ws
    unfolding level_at
    meets_values n [] h = refl
    meets_values n (w ∷ ws) h =
        ap₂ ◌∷◌
        (sym (value_eval L P.strength n (point w.factor)) ∙ sym (back_of_out M (level_key P.seed w.factor) P.levels (key_fits _ P.seed w.factor) _ _ h.0))
        (meets_values n ws h.1)

    values_meet : (n : ℕ) (ws : List Wish) → map (eval R (digits R.count P.strength n)) (points_of ws) ≡ values_of P W ws
        → AllByRecursion (λ w. level_at P R W n w.factor ≡ w.level) ws
    unfolding level_at
    values_meet n [] e = tt
    values_meet n (w ∷ ws) e = (
      out_of_back M (level_key P.seed w.factor) P.levels (key_fits _ P.seed w.factor) _ _
          (sym (value_eval L P.strength n (point w.factor) ∙ head-eq_of_cons-eq e)),
      values_meet n ws (tail-eq_of_cons-eq e),
    )

    module _ (ws : List Wish) (C : Chosen P ws) where
      coefficients : List ℕ
      coefficients = interp R inv (points_of ws) (values_of P W ws)

      many : length (points_of ws) ≡ P.strength
      many = length-map ws (λ w. point w.factor) ∙ C.sized

      takes : Takes R (points_of ws) (values_of P W ws) coefficients
      unfolding coefficients
      takes =
          interpolates.takes R L inv (points_of ws) (values_of P W ws) (points_codes ws C.factors) (values_codes ws C.levels) (points_apart ws C.factors C.apart)
          (length-map ws (λ w. point w.factor) ∙ sym (length-map ws (λ w. W.back (level_key P.seed w.factor) P.levels w.level)))

      long : length coefficients ≡ P.strength
      long = takes.sized ∙ many

      place : ℕ
      place = number R.count coefficients

      place_below : place < P.labels
      unfolding place
      place_below =
          subst (λ z. number R.count coefficients < z) (sym labels_power)
          (subst (λ t. number R.count coefficients < R.count ^ t) long (number_below R.count (zero_code L) coefficients takes.codes))

      place_digits : digits R.count P.strength place ≡ coefficients
      unfolding place
      place_digits = subst (λ t. digits R.count t (number R.count coefficients) ≡ coefficients) long (digits_number R.count (zero_code L) coefficients takes.codes)

      place_meets : AllByRecursion (λ w. level_at P R W place w.factor ≡ w.level) ws
      place_meets = values_meet place ws (ap (λ p. map (eval R p) (points_of ws)) place_digits ∙ takes.values)

      place_alone : (n : ℕ) → n < P.labels → AllByRecursion (λ w. level_at P R W n w.factor ≡ w.level) ws → n ≡ place
      unfolding place
      place_alone n h m =
          let q : List ℕ = digits R.count P.strength n in
          let same : q ≡ coefficients = interpolates.alone R L inv (points_of ws) (values_of P W ws) (points_codes ws C.factors) (points_apart ws C.factors C.apart) q coefficients
          (record { sized = length_digits R.count P.strength n ∙ sym many; codes = codes_digits R.count P.strength n (zero_code L); values = meets_values n ws m })
          takes in
          sym (number_digits R.count P.strength n (zero_code L) (subst (λ z. n < z) labels_power h)) ∙ ap (number R.count) same

      place_is : place ≡ place_for P R inv W ws
      unfolding place coefficients
      place_is = ap (λ s. number s (interp R inv (points_of ws) (values_of P W ws))) counts

      pub place_fits : place_for P R inv W ws < P.labels
      place_fits = subst (λ n. n < P.labels) place_is place_below

      pub named : Named P R W ws (W.back P.seed P.labels (place_for P R inv W ws))
      named =
          subst (λ n. Named P R W ws (W.back P.seed P.labels n)) place_is
          (record {
            below = M.back_below P.seed P.labels place P.keyed place_below;
            meets = subst (λ n. AllByRecursion (λ w. level_at P R W n w.factor ≡ w.level) ws) (sym (index_back P L M counts place)) place_meets;
            alone = λ k h m. back_index P L M counts k place (place_alone (index P W k) (index_below P L M counts k h) m);
          })

    pub names : Names P R W
    names ws C = (W.back P.seed P.labels (place_for P R inv W ws), named ws C)
