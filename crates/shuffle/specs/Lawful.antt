-- The shufflers keep the laws. Assumes nothing.
use Rattle.std.specs.Prelude.{◌≡◌, ℕ, ◌^◌, ◌<◌, ◌≤◌}
use Rattle.std.proofs.Common.{inl, inr, arith}
use Rattle.std.proofs.lemmas.Bool.{cases_lt}
use Rattle.std.proofs.lemmas.Bool.Decides.{nat_tests}
use Rattle.shuffle.specs.declared.any.AnyShuffler.{AnyShuffler}
use Rattle.shuffle.specs.declared.any.AnyShuffler.TheVariants.{Turn, Hash}
use Rattle.shuffle.specs.Ways.{ShuffleLaws}
use Rattle.shuffle.specs.Keyed.{within, preimage, ways_by, turn, turn_ways}
use Rattle.shuffle.specs.Hash.{Hashed, hash, hash_ways}
use Rattle.shuffle.specs.Choice.{ways_of}
use Rattle.shuffle.specs.Perms.{Perm, flip, by_preimage}
use Rattle.shuffle.specs.Turns.{unturn, turn_perm}
use Rattle.shuffle.specs.Hashes.{unscramble, hash_perm, hash_stands}

-- ---- the numbers that are their own image, and the others
module _ (f : ℕ → ℕ → ℕ → ℕ) (key n i : ℕ) where
  within_self : n ≤ i → within f key n i ≡ i
  within_self h = grind (arith, nat_tests)

  within_large : 65536 < n → within f key n i ≡ i
  within_large h = grind (arith, nat_tests)

  pub within_at : i < n → n ≤ 65536 → within f key n i ≡ f key n i
  within_at h l = grind (arith, nat_tests)

-- f and g, at each key and size, are permutations that undo each other
abbrev Perms : (f g : ℕ → ℕ → ℕ → ℕ) → Type 0
Perms f g = (key n : ℕ) → key < 2 ^ 32 → n ≤ 65536 → Perm n (f key n) (g key n)

module _ (f g : ℕ → ℕ → ℕ → ℕ) (u : Perms f g) (key n i : ℕ) (hk : key < 2 ^ 32) where
  within_lt : i < n → within f key n i < n
  within_lt h =
      elim (cases_lt 65536 n) [
        | inl l ↦ rw (within_large f key n i l) h
        | inr l ↦ rw (within_at f key n i h l) ((u key n hk l).f_lt i h)
      ]

  within_back : within g key n (within f key n i) ≡ i
  within_back =
      elim (cases_lt i n) [
        | inr h ↦ rw (within_self f key n i h, within_self g key n i h)
        | inl h ↦ elim (cases_lt 65536 n) [
          | inl l ↦ rw (within_large f key n i l, within_large g key n i l)
          | inr l ↦ rw (within_at f key n i h l, within_at g key n (f key n i) ((u key n hk l).f_lt i h) l) ((u key n hk l).gf i h)
        ]
      ]

-- a keyed permutation makes a shuffler
pub keyed_laws : (f g : ℕ → ℕ → ℕ → ℕ) → Perms f g → ShuffleLaws (ways_by f)
keyed_laws f g u =
    let p : ℕ → ℕ → ℕ → ℕ = λ key n i. preimage (f key n) n i in
    let out : Perms f p = λ key n hk l. by_preimage (u key n hk l) in
    let back : Perms p f = λ key n hk l. flip (out key n hk l) in
    record {
      out_self = λ key n i hk. within_self f key n i;
      back_self = λ key n i hk. within_self p key n i;
      out_large = λ key n i hk. within_large f key n i;
      back_large = λ key n i hk. within_large p key n i;
      out_below = within_lt f p out;
      back_below = within_lt p f back;
      back_out = within_back f p out;
      out_back = within_back p f back;
    }

pub turn_laws : ShuffleLaws turn_ways
turn_laws = keyed_laws turn unturn (λ key n hk l. turn_perm key n)

hash_perms : Perms hash (λ key n i. unscramble key n (unturn key n i))
hash_perms key n hk l =
    elim (cases_lt 0 n) [
      | inl h ↦ hash_perm key n hk h l
      | inr h ↦ record {
        f_lt = λ i hi. absurd (omega arith);
        g_lt = λ i hi. absurd (omega arith);
        gf = λ i hi. absurd (omega arith);
        fg = λ i hi. absurd (omega arith);
      }
    ]

pub hash_laws : ShuffleLaws hash_ways
hash_laws = keyed_laws hash (λ key n i. unscramble key n (unturn key n i)) hash_perms

pub any_laws : (a : AnyShuffler) → ShuffleLaws (ways_of a)
any_laws Turn = turn_laws
any_laws Hash = hash_laws

-- the hash's way out, below the size, is the hash
pub out_stands : (key n i : ℕ) → key < 2 ^ 32 → i < n → n ≤ 65536 → Hashed key n i (hash_ways.out key n i)
out_stands key n i hk h l = rw (within_at hash key n i h l) (hash_stands key n i hk l h)
