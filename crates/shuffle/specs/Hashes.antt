-- The hash is a permutation, and it is what the relation `Hashed` says. Assumes nothing.
use Rattle.std.specs.Prelude.{◌≡◌, ℕ, ◌+◌, ◌-◌, ◌%◌, ◌^◌, ◌<◌, ◌≤◌, refl}
use Rattle.std.proofs.Common.{sym, ap, subst, ◌∙◌, arith, pow_mono}
use Rattle.shuffle.specs.Keyed.{preimage}
use Rattle.shuffle.specs.Round.{round}
use Rattle.shuffle.specs.Walk.{First, until}
use Rattle.shuffle.specs.Hash.{Hashed, mask, scramble, hash}
use Rattle.shuffle.specs.Inverses.{unround}
use Rattle.shuffle.specs.Perms.{Perm, flip, after, preimage_is}
use Rattle.shuffle.specs.Rounds.{round_perm}
use Rattle.shuffle.specs.Walks.{walks, walk_same, walk_perm, Going}
use Rattle.shuffle.specs.Masks.{digits, digits_few, mask_is, mask_smallest, smallest_same}
use Rattle.shuffle.specs.Turns.{unturn, turn_perm}

-- the inverse rounds, at least one, until below n
unfoldable pub unscramble : ℕ → ℕ → ℕ → ℕ
unscramble key n i = until (unround (mask n) key) n 65536 (unround (mask n) key i)

module _ (key n : ℕ) (hk : key < 2 ^ 32) (h : 0 < n) (l : n ≤ 65536) where
  pub ones : (k : ℕ) × (k ≤ 16) × (mask n ≡ 2 ^ k - 1)
  ones = ((digits n h l).0, digits_few n h l, mask_is n h l)

  pub covers : n ≤ mask n + 1
  covers = omega (arith, mask_is n h l, (digits n h l).2)

  -- the turn back leads below the size, and so under the mask
  pub turned_under : (i : ℕ) → i < n → unturn key n i ≤ mask n
  turned_under i hi = omega (arith, (turn_perm key n).g_lt i hi, covers)

  few : mask n + 1 ≤ 65536
  few = let p : 2 ^ ones.0 ≤ 65536 = pow_mono {j = 16} ones.1 in omega (arith, ones.2)

  pub rounds : Perm (mask n + 1) (round (mask n) key) (unround (mask n) key)
  rounds = round_perm (mask n) key ones hk

  -- one inverse round on, and still at most the mask
  pub unround_is : (x : ℕ) → x ≤ mask n → preimage (round (mask n) key) (mask n + 1) x ≡ unround (mask n) key x
  unround_is x hx = preimage_is rounds x (omega arith)

  pub unround_le : (x : ℕ) → x ≤ mask n → unround (mask n) key x ≤ mask n
  unround_le x hx = omega (arith, rounds.g_lt x (omega arith))

  scramble_perm : Perm n (scramble key n) (unscramble key n)
  unfolding scramble unscramble
  scramble_perm = walk_perm rounds 65536 n few covers

  pub hash_perm : Perm n (hash key n) (λ i. unscramble key n (unturn key n i))
  hash_perm = after scramble_perm (turn_perm key n)

  -- what the loops begin with
  pub out_going : (i : ℕ) → i < n → Going (round (mask n) key) n 65536 (round (mask n) key i) (scramble key n i)
  unfolding scramble
  out_going i hi = walks rounds 65536 n few covers i hi

  pub back_going : (i : ℕ) → i < n → Going (unround (mask n) key) n 65536 (unround (mask n) key i) (unscramble key n i)
  unfolding unscramble
  back_going i hi = walks (flip rounds) 65536 n few covers i hi

-- the function is the hash
pub hash_stands : (key n i : ℕ) → key < 2 ^ 32 → n ≤ 65536 → i < n → Hashed key n i (hash key n i)
hash_stands key n i hk l hi =
    let h : 0 < n = omega arith in
    let g = out_going key n hk h l i hi in
    record {
      w = mask n;
      smallest = mask_smallest n h l;
      y = scramble key n i;
      first = (g.0, g.2);
      value = refl;
    }

-- a number has one hash
pub hashed_same : (key n i r s : ℕ) → Hashed key n i r → Hashed key n i s → r ≡ s
hashed_same key n i r s a b =
    let e : a.w ≡ b.w = smallest_same a.smallest b.smallest in
    let first : First (round b.w key) n (round b.w key i) a.y =
    subst (λ v. First (round v key) n (round v key i) a.y) e a.first in
    a.value ∙ ap (λ y. (y + key) % n) (walk_same first.1 b.first.1) ∙ sym b.value
