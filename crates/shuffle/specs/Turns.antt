-- A turn is a permutation. Assumes nothing.
use Rattle.std.specs.Prelude.{◌≡◌, ℕ, suc, ◌+◌, ◌-◌, ◌*◌, ◌/◌, ◌%◌, ◌<◌, ◌≤◌}
use Rattle.std.proofs.Common.{sym, ap, ◌∙◌, mod-lt, mod-eq_of_lt, div-add-mod', suc-mul, arith}
use Rattle.std.proofs.Math.Nat.{mod-add-mod, add-mod_right, add-mul-mod_self_right}
use Rattle.shuffle.specs.Keyed.{preimage, turn}
use Rattle.shuffle.specs.Perms.{Perm, preimage_is}

-- the rest of the way round
abbrev pub unturn : ℕ → ℕ → ℕ → ℕ
unturn key n i = (i + (n - key % n)) % n

turned : (key n i : ℕ) → 0 < n → i + key + (n - key % n) ≡ i + suc (key / n) * n
turned key n i h = let l : key % n < n = mod-lt key h in omega (arith, div-add-mod' key n, suc-mul (key / n) n)

out_back : (key n i : ℕ) → i < n → unturn key n (turn key n i) ≡ i
out_back key n i h =
    mod-add-mod (i + key) n (n - key % n)
    ∙ ap (λ z. z % n) (turned key n i (omega arith))
    ∙ add-mul-mod_self_right i (suc (key / n)) n ∙ mod-eq_of_lt h

back_out : (key n i : ℕ) → i < n → turn key n (unturn key n i) ≡ i
back_out key n i h =
    mod-add-mod (i + (n - key % n)) n key
    ∙ ap (λ z. z % n) (let e : i + (n - key % n) + key ≡ i + key + (n - key % n) = omega arith in e ∙ turned key n i (omega arith))
    ∙ add-mul-mod_self_right i (suc (key / n)) n ∙ mod-eq_of_lt h

pub turn_perm : (key n : ℕ) → Perm n (turn key n) (unturn key n)
turn_perm key n =
    record {
      f_lt = λ i h. mod-lt (i + key) (omega arith);
      g_lt = λ i h. mod-lt (i + (n - key % n)) (omega arith);
      gf = out_back key n;
      fg = back_out key n;
    }

pub unturn_is : (key n i : ℕ) → i < n → preimage (turn key n) n i ≡ unturn key n i
unturn_is key n i h = preimage_is (turn_perm key n) i h

-- the same without a second remainder
module _ (key n i : ℕ) (h : i < n) where
  turn_lt : key % n < n
  turn_lt = mod-lt key (omega arith)

  pub unturn_up : i < key % n → i + (n - key % n) ≡ preimage (turn key n) n i
  unturn_up l = sym (unturn_is key n i h ∙ mod-eq_of_lt (omega (arith, turn_lt)))

  pub unturn_down : key % n ≤ i → i - key % n ≡ preimage (turn key n) n i
  unturn_down l =
      let e : i + (n - key % n) ≡ i - key % n + n = omega (arith, turn_lt) in
      sym (unturn_is key n i h ∙ ap (λ z. z % n) e ∙ add-mod_right (i - key % n) n ∙ mod-eq_of_lt (omega arith))
