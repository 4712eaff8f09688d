-- Values are codes, levels are below the count, and fine settings below the number of labels. Assumes nothing.
use Rattle.std.proofs.Common.{◌≡◌, ℕ, zero, suc, ◌+◌, ◌*◌, ◌/◌, ◌^◌, ◌<◌, ◌≤◌, sym, ap, ◌∙◌, subst, mod-lt, mul_comm, div-lt_iff_lt-mul, pow-suc, zero-mul, mul-div_cancel, arith, pow_pos}
use native.Mathlib.Nat.{one-le-pow}
use lib.Arith.{digits_lt}
use Rattle.levels.specs.Rings.{Arithmetic, RingLaws}
use Rattle.shuffle.specs.Ways.{Ways, ShuffleLaws}
use Rattle.plan.specs.declared.shape.Plan.{Plan}
use Rattle.strip.specs.Labels.{key, value_at, level_at, sublevel_at}

pub key_fits : (constant seed j : ℕ) → key constant seed j < 2 ^ 32
key_fits constant seed j = mod-lt _ (pow_pos 32)

pub value_code : {R : Arithmetic} → RingLaws R → (t n x : ℕ) → value_at R t n x < R.count
unfolding value_at
value_code L zero n x = omega (arith, L.low)
value_code L (suc t) n x = L.add_code _ _

-- N is N/s times s
pub labels_split : (P : Plan) → P.labels ≡ (P.labels / P.levels) * P.levels
labels_split P = split P.strength P.strong P.sized
  where
    split : (t : ℕ) → 1 ≤ t → P.labels ≡ P.levels ^ t → P.labels ≡ (P.labels / P.levels) * P.levels
    split zero h e = absurd (omega arith)
    split (suc t) h e =
        let s : ℕ = P.levels in
        let n : P.labels ≡ s ^ t * s = e ∙ pow-suc s t in
        let q : P.labels / s ≡ s ^ t = ap (λ z. z / s) n ∙ mul-div_cancel (s ^ t) (omega (arith, P.several)) in
        n ∙ ap (λ z. z * s) (sym q)

-- a level and a sub-level make a fine setting below N
pub joined_below : (P : Plan) (a b : ℕ) → a < P.levels → b < P.labels / P.levels → a * (P.labels / P.levels) + b < P.labels
joined_below P a b h k =
    subst (λ z. a * (P.labels / P.levels) + b < z) (mul_comm P.levels (P.labels / P.levels) ∙ sym (labels_split P)) (digits_lt h k)

pub sublevel_below : (P : Plan) {W : Ways} → ShuffleLaws W → (n j : ℕ) → n < P.labels → sublevel_at P W n j < P.labels / P.levels
unfolding sublevel_at
sublevel_below P M n j h =
    M.out_below _ _ _ (key_fits _ P.seed j)
    ((div-lt_iff_lt-mul (omega (arith, P.several))).1 (subst (λ z. n < z) (labels_split P) h))

pub level_below : (P : Plan) {R : Arithmetic} {W : Ways} → RingLaws R → ShuffleLaws W → R.count ≡ P.levels → (n j : ℕ) → level_at P R W n j < P.levels
unfolding level_at
level_below P {R} L M counts n j =
    M.out_below _ _ _ (key_fits _ P.seed j) (subst (λ z. value_at R P.strength n j < z) counts (value_code L P.strength n j))

-- a strip has labels, and N/s of them for each level
pub some_labels : (P : Plan) → 0 < P.labels
some_labels P = subst (λ z. 0 < z) (sym P.sized) (one-le-pow P.strength P.levels (omega (arith, P.several)))

pub size_positive : (P : Plan) → 0 < P.labels / P.levels
size_positive P = positive (P.labels / P.levels) P.levels (subst (λ z. 0 < z) (labels_split P) (some_labels P))
  where
    positive : (q s : ℕ) → 0 < q * s → 0 < q
    positive zero s h = subst (λ z. 0 < z) (zero-mul s) h
    positive (suc q) s h = omega arith
