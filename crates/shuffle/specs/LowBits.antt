-- On the low k bits each step of a round can be undone. Assumes nothing.
use Rattle.std.specs.Prelude.{◌≡◌, ℕ, ◌+◌, ◌-◌, ◌*◌, ◌/◌, ◌%◌, ◌^◌, ◌<◌, ◌≤◌, bit_and, bit_xor}
use Rattle.std.proofs.Common.{sym, ap, subst, ◌∙◌, mod-lt, mod-eq_of_lt, div-add-mod', add-mul, mul_right_comm, mul_assoc, mul_comm, one-mul, lt_of_le_of_lt, lt_of_lt_of_le, div-le_self, arith, pow_pos, pow_mono, shr-shr}
use Rattle.std.proofs.Math.Nat.{mod-mod, mul-add-mod_self_right, div-eq_of_lt}
use Rattle.std.proofs.lemmas.Nat.{xor_mod, xor_shr, xor_lt, and_mask}
use Rattle.std.specs.Int.Bits.{xor_assoc, xor_self, xor_zero_r}
use Rattle.std.proofs.Math.Pow.{mod-mod-pow}
use Rattle.shuffle.specs.Round.{times, shift, fold}

-- f and g see only the low k bits, and there each undoes the other
pub record Undo (k : ℕ) (f g : ℕ → ℕ) : Type 0 where
  pub f_low : (x y : ℕ) → x % 2 ^ k ≡ y % 2 ^ k → f x % 2 ^ k ≡ f y % 2 ^ k
  pub g_low : (x y : ℕ) → x % 2 ^ k ≡ y % 2 ^ k → g x % 2 ^ k ≡ g y % 2 ^ k
  pub gf : (x : ℕ) → g (f x) % 2 ^ k ≡ x % 2 ^ k
  pub fg : (x : ℕ) → f (g x) % 2 ^ k ≡ x % 2 ^ k

pub flip : {k : ℕ} {f g : ℕ → ℕ} → Undo k f g → Undo k g f
flip u = record { f_low = u.g_low; g_low = u.f_low; gf = u.fg; fg = u.gf }

-- one step after another
pub after : {k : ℕ} {f g f' g' : ℕ → ℕ} → Undo k f g → Undo k f' g' → Undo k (λ x. f' (f x)) (λ x. g (g' x))
after {k} {f} {g} {f'} {g'} u v =
    record {
      f_low = λ x y e. v.f_low (f x) (f y) (u.f_low x y e);
      g_low = λ x y e. u.g_low (g' x) (g' y) (v.g_low x y e);
      gf = λ x. u.g_low (g' (f' (f x))) (f x) (v.gf (f x)) ∙ u.gf x;
      fg = λ x. v.f_low (f (g (g' x))) (g' x) (u.fg (g' x)) ∙ v.fg x;
    }

-- a step that is the same on the low k bits
pub alike : {k : ℕ} {f g f' : ℕ → ℕ} → Undo k f g → ((x : ℕ) → f' x % 2 ^ k ≡ f x % 2 ^ k) → Undo k f' g
alike {k} {f} {g} {f'} u same =
    record {
      f_low = λ x y e. same x ∙ u.f_low x y e ∙ sym (same y);
      g_low = u.g_low;
      gf = λ x. u.g_low (f' x) (f x) (same x) ∙ u.gf x;
      fg = λ x. same (g x) ∙ u.fg x;
    }

-- a step is undone if the step done twice is
pub halve : {k : ℕ} {f g h : ℕ → ℕ} → ((x y : ℕ) → x % 2 ^ k ≡ y % 2 ^ k → f x % 2 ^ k ≡ f y % 2 ^ k)
    → ((x : ℕ) → f (f x) % 2 ^ k ≡ h x % 2 ^ k) → Undo k h g → Undo k f (λ x. f (g x))
halve {k} {f} {g} {h} low twice u =
    record {
      f_low = low;
      g_low = λ x y e. low (g x) (g y) (u.g_low x y e);
      gf = λ x.
          let z : ℕ = g x in
          let x-is : x % 2 ^ k ≡ f (f z) % 2 ^ k = sym (twice z ∙ u.fg x) in
          let fx-is : f x % 2 ^ k ≡ h (f z) % 2 ^ k = low x (f (f z)) x-is ∙ twice (f z) in
          let gfx-is : g (f x) % 2 ^ k ≡ f z % 2 ^ k = u.g_low (f x) (h (f z)) fx-is ∙ u.gf (f z) in
          low (g (f x)) (f z) gfx-is ∙ sym x-is;
      fg = λ x. twice (g x) ∙ u.fg x;
    }

-- ---- exclusive or

xor_twice : (x c : ℕ) → bit_xor (bit_xor x c) c ≡ x
xor_twice x c = rw (xor_assoc x c c, xor_self c, xor_zero_r x)

pub xor_undo : (k c : ℕ) → Undo k (λ x. bit_xor x c) (λ x. bit_xor x c)
xor_undo k c =
    record { f_low = low; g_low = low; gf = λ x. ap (λ z. z % 2 ^ k) (xor_twice x c); fg = λ x. ap (λ z. z % 2 ^ k) (xor_twice x c) }
  where
    low : (x y : ℕ) → x % 2 ^ k ≡ y % 2 ^ k → bit_xor x c % 2 ^ k ≡ bit_xor y c % 2 ^ k
    low x y e = xor_mod x c k ∙ ap (λ z. bit_xor z (c % 2 ^ k)) e ∙ sym (xor_mod y c k)

-- ---- a product by an odd number

low32 : (n k : ℕ) → k ≤ 32 → n % 2 ^ 32 % 2 ^ k ≡ n % 2 ^ k
low32 n k h = let e : (32 - k) + k ≡ 32 = omega arith in subst (λ (m : ℕ). n % 2 ^ m % 2 ^ k ≡ n % 2 ^ k) e (mod-mod-pow n (32 - k) k)

mul_low : (x c m : ℕ) → x * c % m ≡ (x % m) * c % m
mul_low x c m =
    ap (λ z. z * c % m) (sym (div-add-mod' x m))
    ∙ ap (λ z. z % m) (add-mul (x / m * m) (x % m) c ∙ ap (λ z. z + x % m * c) (mul_right_comm (x / m) m c))
    ∙ mul-add-mod_self_right (x / m * c) m (x % m * c)

times_low : (k c x y : ℕ) → k ≤ 32 → x % 2 ^ k ≡ y % 2 ^ k → times c x % 2 ^ k ≡ times c y % 2 ^ k
times_low k c x y h e =
    low32 (x * c) k h ∙ mul_low x c (2 ^ k) ∙ ap (λ z. z * c % 2 ^ k) e ∙ sym (mul_low y c (2 ^ k)) ∙ sym (low32 (y * c) k h)

times_back : (k c d x : ℕ) → k ≤ 32 → c * d % 2 ^ 32 ≡ 1 → times d (times c x) % 2 ^ k ≡ x % 2 ^ k
times_back k c d x h one =
    low32 (x * c % 2 ^ 32 * d) k h
    ∙ mul_low (x * c % 2 ^ 32) d (2 ^ k)
    ∙ ap (λ z. z * d % 2 ^ k) (low32 (x * c) k h)
    ∙ sym (mul_low (x * c) d (2 ^ k))
    ∙ ap (λ z. z % 2 ^ k) (mul_assoc x c d ∙ mul_comm x (c * d))
    ∙ mul_low (c * d) x (2 ^ k)
    ∙ ap (λ z. z * x % 2 ^ k) (sym (low32 (c * d) k h) ∙ ap (λ z. z % 2 ^ k) one)
    ∙ sym (mul_low 1 x (2 ^ k))
    ∙ ap (λ z. z % 2 ^ k) (one-mul x)

pub times_undo : (k c d : ℕ) → k ≤ 32 → c * d % 2 ^ 32 ≡ 1 → Undo k (times c) (times d)
times_undo k c d h one =
    record {
      f_low = λ x y e. times_low k c x y h e;
      g_low = λ x y e. times_low k d x y h e;
      gf = λ x. times_back k c d x h one;
      fg = λ x. times_back k d c x h (ap (λ z. z % 2 ^ 32) (mul_comm d c) ∙ one);
    }

-- ---- the shifts

fold_is : (k m x : ℕ) → fold (2 ^ k - 1) m x % 2 ^ k ≡ shift m (x % 2 ^ k)
unfolding fold shift
fold_is k m x =
    xor_mod x (bit_and x (2 ^ k - 1) / 2 ^ m) k
    ∙ ap (λ z. bit_xor (x % 2 ^ k) (z / 2 ^ m % 2 ^ k)) (and_mask x k)
    ∙ ap (bit_xor (x % 2 ^ k)) (mod-eq_of_lt (lt_of_le_of_lt (div-le_self (x % 2 ^ k) (2 ^ m)) (mod-lt x (pow_pos k))))

shift_twice : (m z : ℕ) → shift m (shift m z) ≡ shift (m + m) z
unfolding shift
shift_twice m z =
    ap (bit_xor (bit_xor z (z / 2 ^ m))) (xor_shr z (z / 2 ^ m) m ∙ ap (bit_xor (z / 2 ^ m)) (shr-shr z m m))
    ∙ sym (xor_assoc (bit_xor z (z / 2 ^ m)) (z / 2 ^ m) (z / 2 ^ (m + m)))
    ∙ ap (λ y. bit_xor y (z / 2 ^ (m + m))) (xor_twice z (z / 2 ^ m))

shift_gone : (k m z : ℕ) → k ≤ m → z < 2 ^ k → shift m z ≡ z
unfolding shift
shift_gone k m z h l = ap (bit_xor z) (div-eq_of_lt (lt_of_lt_of_le l (pow_mono h))) ∙ xor_zero_r z

fold_low : (k m x y : ℕ) → x % 2 ^ k ≡ y % 2 ^ k → fold (2 ^ k - 1) m x % 2 ^ k ≡ fold (2 ^ k - 1) m y % 2 ^ k
fold_low k m x y e = fold_is k m x ∙ ap (shift m) e ∙ sym (fold_is k m y)

fold_twice : (k m x : ℕ) → fold (2 ^ k - 1) m (fold (2 ^ k - 1) m x) % 2 ^ k ≡ fold (2 ^ k - 1) (m + m) x % 2 ^ k
fold_twice k m x =
    fold_is k m (fold (2 ^ k - 1) m x) ∙ ap (shift m) (fold_is k m x) ∙ shift_twice m (x % 2 ^ k) ∙ sym (fold_is k (m + m) x)

-- a shift of half the bits or more undoes itself
pub fold_self : (k m : ℕ) → k ≤ m + m → Undo k (fold (2 ^ k - 1) m) (fold (2 ^ k - 1) m)
fold_self k m h = record { f_low = fold_low k m; g_low = fold_low k m; gf = back; fg = back }
  where
    back : (x : ℕ) → fold (2 ^ k - 1) m (fold (2 ^ k - 1) m x) % 2 ^ k ≡ x % 2 ^ k
    back x = fold_twice k m x ∙ fold_is k (m + m) x ∙ shift_gone k (m + m) (x % 2 ^ k) h (mod-lt x (pow_pos k))

pub fold_half : (k m : ℕ) {g : ℕ → ℕ} → Undo k (fold (2 ^ k - 1) (m + m)) g → Undo k (fold (2 ^ k - 1) m) (λ x. fold (2 ^ k - 1) m (g x))
fold_half k m u = halve (fold_low k m) (fold_twice k m) u

shift_lt : (k m z : ℕ) → z < 2 ^ k → shift m z < 2 ^ k
unfolding shift
shift_lt k m z l = xor_lt k z (z / 2 ^ m) l (lt_of_le_of_lt (div-le_self z (2 ^ m)) l)

last_is : (k x : ℕ) → shift 5 (bit_and x (2 ^ k - 1)) ≡ shift 5 (x % 2 ^ k)
last_is k x = ap (shift 5) (and_mask x k)

pub last_lt : (k x : ℕ) → shift 5 (bit_and x (2 ^ k - 1)) < 2 ^ k
last_lt k x = rw (last_is k x) (shift_lt k 5 (x % 2 ^ k) (mod-lt x (pow_pos k)))

-- a mask and then a shift is undone as the fold is
pub last_undo : (k : ℕ) {g : ℕ → ℕ} → Undo k (fold (2 ^ k - 1) 5) g → Undo k (λ x. shift 5 (bit_and x (2 ^ k - 1))) g
last_undo k u = alike u (λ x. mod-eq_of_lt (last_lt k x) ∙ last_is k x ∙ sym (fold_is k 5 x))

mask_low : (k x : ℕ) → bit_and x (2 ^ k - 1) % 2 ^ k ≡ x % 2 ^ k
mask_low k x = ap (λ z. z % 2 ^ k) (and_mask x k) ∙ mod-mod x (2 ^ k)

-- a mask changes nothing
pub mask_undo : (k : ℕ) → Undo k (λ x. x) (λ x. bit_and x (2 ^ k - 1))
mask_undo k = record { f_low = λ x y e. e; g_low = λ x y e. mask_low k x ∙ e ∙ sym (mask_low k y); gf = mask_low k; fg = mask_low k }
