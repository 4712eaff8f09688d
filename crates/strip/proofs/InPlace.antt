-- Interpolation in place: what stands at each index afterwards makes the list that is meant. Assumes nothing.
use Rattle.std.proofs.Common.{◌≡◌, ℕ, suc, ◌+◌, ◌<◌, List, [], ◌∷◌, ◌++◌, map, length, get_or, take, drop, refl, ap, ◌∙◌, ap₂, append-nil, arith, drop_of_length-le, take_all}
use lib.ListN.{length-map}
use borrow.Rule.Slice.PartMut.{put_mid}
use Rattle.levels.specs.Rings.{Arithmetic}
use Rattle.algebra.specs.Interpolation.{slopes, rebuild, interp}
use Rattle.algebra.proofs.Unique.{length_slopes}
use Rattle.strip.specs.declared.wish.Wish.{Wish}
use Rattle.strip.specs.Labels.{point}
use Rattle.strip.specs.Wishes.{idle, factor_of, points_of}

module _ (R : Arithmetic) (inv : ℕ → ℕ) where
  -- the slope of the k-th wish
  abbrev slope : (x v : ℕ) → List Wish → List ℕ → ℕ → ℕ
  slope x v ws vs k = R.product (R.difference (get_or vs k 0) v) (inv (R.difference (point (factor_of ws k)) x))

  pub slopes_placed : (x v : ℕ) (ws : List Wish) (vs ys : List ℕ) → length ws ≡ length vs → length ys ≡ length vs
      → ((k : ℕ) → k < length ws → get_or ys k 0 ≡ slope x v ws vs k) → ys ≡ slopes R inv x v (points_of ws) vs
  slopes_placed x v [] [] [] e f h = refl
  slopes_placed x v [] [] (y ∷ ys) e f h = absurd (omega arith)
  slopes_placed x v [] (u ∷ vs) ys e f h = absurd (omega arith)
  slopes_placed x v (w ∷ ws) [] ys e f h = absurd (omega arith)
  slopes_placed x v (w ∷ ws) (u ∷ vs) [] e f h = absurd (omega arith)
  slopes_placed x v (w ∷ ws) (u ∷ vs) (y ∷ ys) e f h =
      ap₂ ◌∷◌ (h 0 (omega arith)) (slopes_placed x v ws vs ys (omega arith) (omega arith) (λ k l. h (suc k) (omega arith)))

pub rebuild_placed : (R : Arithmetic) (x v : ℕ) (q ys : List ℕ) → length ys ≡ suc (length q)
    → ((k : ℕ) → k < length q → get_or ys k 0 ≡ R.difference (get_or (v ∷ q) k 0) (R.product x (get_or (v ∷ q) (suc k) 0)))
    → get_or ys (length q) 0 ≡ get_or (v ∷ q) (length q) 0 → ys ≡ rebuild R x v q
rebuild_placed R x v q [] e h last = absurd (omega arith)
rebuild_placed R x v [] (y ∷ []) e h last = ap (λ z. z ∷ []) last
rebuild_placed R x v [] (y ∷ (z ∷ zs)) e h last = absurd (omega arith)
rebuild_placed R x v (u ∷ q) (y ∷ ys) e h last =
    ap₂ ◌∷◌ (h 0 (omega arith)) (rebuild_placed R x u q ys (omega arith) (λ k l. h (suc k) (omega arith)) last)

-- a part that is all but the first
pub part_tail : {X : Type 0} (k : ℕ) (x : X) (xs : List X) → k ≡ length xs → take k (drop 1 (x ∷ xs)) ≡ xs
part_tail k x xs e = take_all k xs (omega arith)

pub put_tail : {X : Type 0} (k : ℕ) (x : X) (xs ys : List X) → k ≡ length xs → put_mid 1 k (x ∷ xs) ys ≡ x ∷ ys
put_tail k x xs ys e = ap (λ zs. x ∷ (ys ++ zs)) (drop_of_length-le xs (omega arith)) ∙ ap (λ zs. x ∷ zs) (append-nil ys)

-- one step of the recursion: slopes for all but the first, interpolated there, and rebuilt with the first
pub interp_placed : (R : Arithmetic) (inv : ℕ → ℕ) (ws : List Wish) (vs ds cs rs : List ℕ) (k : ℕ) → length ws ≡ length vs → k + 1 ≡ length vs
    → ds ≡ slopes R inv (point (factor_of ws 0)) (get_or vs 0 0) (points_of (take k (drop 1 ws))) (take k (drop 1 vs))
    → cs ≡ interp R inv (points_of (take k (drop 1 ws))) (take k (drop 1 (put_mid 1 k vs ds)))
    → ((v : ℕ) (q : List ℕ) → put_mid 1 k (put_mid 1 k vs ds) cs ≡ v ∷ q → rs ≡ rebuild R (point (factor_of ws 0)) v q)
    → rs ≡ interp R inv (points_of ws) vs
interp_placed R inv [] [] ds cs rs k e n d i r = absurd (omega arith)
interp_placed R inv [] (v ∷ vs) ds cs rs k e n d i r = absurd (omega arith)
interp_placed R inv (w ∷ ws) [] ds cs rs k e n d i r = absurd (omega arith)
interp_placed R inv (w ∷ ws) (v ∷ vs) ds cs rs k e n d i r =
    let x : ℕ = point w.factor in
    let tw : take k (drop 1 (w ∷ ws)) ≡ ws = part_tail k w ws (omega arith) in
    let tv : take k (drop 1 (v ∷ vs)) ≡ vs = part_tail k v vs (omega arith) in
    let ds-is : ds ≡ slopes R inv x v (points_of ws) vs = d ∙ ap₂ (λ a b. slopes R inv x v (points_of a) b) tw tv in
    let once : put_mid 1 k (v ∷ vs) ds ≡ v ∷ ds = put_tail k v vs ds (omega arith) in
    let len : k ≡ length ds = omega (arith, length_slopes R inv x v (points_of ws) vs (length-map ws (λ w. point w.factor) ∙ omega arith), length-map ws (λ w. point w.factor), ap length ds-is) in
    let cs-is : cs ≡ interp R inv (points_of ws) ds =
    i ∙ ap₂ (λ a b. interp R inv (points_of a) b) tw (ap (λ zs. take k (drop 1 zs)) once ∙ part_tail k v ds len) in
    let twice : put_mid 1 k (put_mid 1 k (v ∷ vs) ds) cs ≡ v ∷ cs = ap (λ zs. put_mid 1 k zs cs) once ∙ put_tail k v ds cs len in
    r v cs twice ∙ ap (rebuild R x v) (cs-is ∙ ap (interp R inv (points_of ws)) ds-is)

-- the list whose k-th entry is f of the k-th wish
pub map_placed : (f : Wish → ℕ) (ws : List Wish) (ys : List ℕ) → length ws ≡ length ys → ((k : ℕ) → k < length ws → get_or ys k 0 ≡ f (get_or ws k idle)) → ys ≡ map f ws
map_placed f [] [] e h = refl
map_placed f [] (y ∷ ys) e h = absurd (omega arith)
map_placed f (w ∷ ws) [] e h = absurd (omega arith)
map_placed f (w ∷ ws) (y ∷ ys) e h = ap₂ ◌∷◌ (h 0 (omega arith)) (map_placed f ws ys (omega arith) (λ k l. h (suc k) (omega arith)))
