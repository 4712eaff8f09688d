-- A factor and a fine setting name exactly one label, in any ring. Assumes nothing.
use Rattle.std.proofs.Common.{◌≡◌, ℕ, zero, suc, ◌+◌, ◌-◌, ◌*◌, ◌/◌, ◌%◌, ◌<◌, sym, ap, ◌∙◌, subst, ap₂, mod-lt, mul_comm, div-lt_iff_lt-mul, div-add-mod', arith}
use lib.Arith.{digits_lt, digits_div, digits_mod}
use Rattle.levels.specs.Rings.{Arithmetic, RingLaws}
use Rattle.levels.specs.Ring.{sub_intro}
use Rattle.shuffle.specs.Ways.{Ways, ShuffleLaws}
use Rattle.shuffle.proofs.Laws.{back_of_out}
use Rattle.plan.specs.declared.shape.Plan.{Plan}
use Rattle.strip.specs.Labels.{index, point, level_key, fine_key, value_at, level_at, sublevel_at, fine_at}
use Rattle.strip.specs.Names.{Located, NamesFine}
use Rattle.strip.proofs.Bounds.{key_fits, labels_split, sublevel_below}
use Rattle.strip.proofs.Values.{value_step}

-- the place before shuffling of a label with fine setting f for factor j
abbrev pub value_of : Plan → Ways → (j f : ℕ) → ℕ
value_of P W j f = W.back (level_key P.seed j) P.levels (f / (P.labels / P.levels))

abbrev pub high_of : Plan → Ways → (j f : ℕ) → ℕ
high_of P W j f = W.back (fine_key P.seed j) (P.labels / P.levels) (f % (P.labels / P.levels))

abbrev pub rest_of : Plan → Arithmetic → Ways → (j f : ℕ) → ℕ
rest_of P R W j f = R.product (point j) (value_at R (P.strength - 1) (high_of P W j f) (point j))

abbrev pub place_of : Plan → Arithmetic → Ways → (j f : ℕ) → ℕ
place_of P R W j f = high_of P W j f * P.levels + R.difference (value_of P W j f) (rest_of P R W j f)

module _ (P : Plan) {R : Arithmetic} {W : Ways} (L : RingLaws R) (M : ShuffleLaws W) (counts : R.count ≡ P.levels) where
  pub some_levels : 0 < P.levels
  some_levels = omega (arith, P.several)

  value_split : (n x : ℕ) → value_at R P.strength n x ≡ R.sum (n % P.levels) (R.product x (value_at R (P.strength - 1) (n / P.levels) x))
  value_split n x =
      let t : suc (P.strength - 1) ≡ P.strength = omega (arith, P.strong) in
      ap (λ t. value_at R t n x) (sym t)
      ∙ subst (λ s. value_at R (suc (P.strength - 1)) n x ≡ R.sum (n % s) (R.product x (value_at R (P.strength - 1) (n / s) x))) counts (value_step L (P.strength - 1) n x)

  pub parts_exist : (f : ℕ) → f < P.labels → (f / (P.labels / P.levels) < P.levels) × (f % (P.labels / P.levels) < P.labels / P.levels)
  parts_exist f h =
      let m : ℕ = P.labels / P.levels in
      let whole : f < P.levels * m = subst (λ z. f < z) (labels_split P ∙ mul_comm m P.levels) h in
      let some : 0 < m = positive f m P.levels whole in
      ((div-lt_iff_lt-mul some).1 whole, mod-lt f some)
    where
      positive : (f m s : ℕ) → f < s * m → 0 < m
      positive f zero s q = absurd (omega arith)
      positive f (suc m) s q = omega arith

  -- label numbers and places before shuffling
  pub index_back : (n : ℕ) → index P W (W.back P.seed P.labels n) ≡ n
  unfolding index
  index_back n = M.out_back P.seed P.labels n P.keyed

  pub back_index : (k n : ℕ) → index P W k ≡ n → k ≡ W.back P.seed P.labels n
  unfolding index
  back_index k n e = sym (back_of_out M P.seed P.labels P.keyed k n e)

  pub index_below : (k : ℕ) → k < P.labels → index P W k < P.labels
  unfolding index
  index_below k h = M.out_below P.seed P.labels k P.keyed h

  module _ (j f : ℕ) (h : f < P.labels) where
    value_fits : value_of P W j f < P.levels
    value_fits = M.back_below _ _ _ (key_fits _ P.seed j) (parts_exist f h).0

    low_fits : R.difference (value_of P W j f) (rest_of P R W j f) < P.levels
    low_fits = subst (λ s. R.difference (value_of P W j f) (rest_of P R W j f) < s) counts (L.sub_code _ _)

    pub place_below : place_of P R W j f < P.labels
    place_below =
        subst (λ z. place_of P R W j f < z) (sym (labels_split P))
        (digits_lt (M.back_below _ _ _ (key_fits _ P.seed j) (parts_exist f h).1) low_fits)

    value_there : value_at R P.strength (place_of P R W j f) (point j) ≡ value_of P W j f
    value_there =
        let low : ℕ = R.difference (value_of P W j f) (rest_of P R W j f) in
        value_split (place_of P R W j f) (point j)
        ∙ ap₂ (λ a b. R.sum a (R.product (point j) (value_at R (P.strength - 1) b (point j)))) (digits_mod (high_of P W j f) low_fits) (digits_div (high_of P W j f) low_fits)
        ∙ L.sub_add (value_of P W j f) (rest_of P R W j f) (subst (λ s. value_of P W j f < s) (sym counts) value_fits)

    pub fine_there : fine_at P R W (place_of P R W j f) j ≡ f
    unfolding fine_at level_at sublevel_at
    fine_there =
        let m : ℕ = P.labels / P.levels in
        ap₂ (λ a b. a * m + b)
        (ap (W.out (level_key P.seed j) P.levels) value_there ∙ M.out_back _ _ _ (key_fits _ P.seed j))
        (ap (W.out (fine_key P.seed j) m) (digits_div (high_of P W j f) low_fits) ∙ M.out_back _ _ _ (key_fits _ P.seed j))
        ∙ div-add-mod' f m

    -- a place with that fine setting is that place
    pub place_alone : (n : ℕ) → n < P.labels → fine_at P R W n j ≡ f → n ≡ place_of P R W j f
    unfolding fine_at level_at sublevel_at
    place_alone n l e =
        let m : ℕ = P.labels / P.levels in
        let sub = sublevel_below P M n j l in
        let lev : level_at P R W n j ≡ f / m = sym (digits_div (level_at P R W n j) sub) ∙ ap (λ z. z / m) e in
        let fin : sublevel_at P W n j ≡ f % m = sym (digits_mod (level_at P R W n j) sub) ∙ ap (λ z. z % m) e in
        let value : value_at R P.strength n (point j) ≡ value_of P W j f = sym (back_of_out M (level_key P.seed j) P.levels (key_fits _ P.seed j) _ _ lev) in
        let high : n / P.levels ≡ high_of P W j f = sym (back_of_out M (fine_key P.seed j) m (key_fits _ P.seed j) _ _ fin) in
        let sums : R.sum (n % P.levels) (rest_of P R W j f) ≡ value_of P W j f =
        ap (λ b. R.sum (n % P.levels) (R.product (point j) (value_at R (P.strength - 1) b (point j)))) (sym high) ∙ sym (value_split n (point j)) ∙ value in
        let low : R.difference (value_of P W j f) (rest_of P R W j f) ≡ n % P.levels =
        sub_intro L (n % P.levels) (value_of P W j f) (rest_of P R W j f) (subst (λ s. n % P.levels < s) (sym counts) (mod-lt n some_levels)) sums in
        sym (div-add-mod' n P.levels) ∙ ap₂ (λ a b. a * P.levels + b) high (sym low)

    pub located : Located P R W j f (W.back P.seed P.labels (place_of P R W j f))
    located =
        record {
          below = M.back_below P.seed P.labels (place_of P R W j f) P.keyed place_below;
          meets = ap (λ n. fine_at P R W n j) (index_back (place_of P R W j f)) ∙ fine_there;
          alone = λ k l e. back_index k (place_of P R W j f) (place_alone (index P W k) (index_below k l) e);
        }

  pub names_fine : NamesFine P R W
  names_fine j f hj hf = (W.back P.seed P.labels (place_of P R W j f), located j f hf)
