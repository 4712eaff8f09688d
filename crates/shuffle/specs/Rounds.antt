-- A round is a permutation of the numbers below 2 ^ k, and `unround` undoes it. Assumes nothing.
use Rattle.std.specs.Prelude.{◌≡◌, ℕ, ◌+◌, ◌-◌, ◌*◌, ◌/◌, ◌%◌, ◌^◌, ◌<◌, ◌≤◌, T, bit_or, nat_eq, slice_index, refl}
use Rattle.std.proofs.Common.{sym, ap, subst, ◌∙◌, mod-lt, mod-eq_of_lt, arith, eqb→eq, pow_pos, shr_lt, shr-shr}
use Rattle.std.proofs.Math.Nat.{max-eq_left}
use Rattle.std.specs.Int.Bits.{or_step, mask_lt}
use Rattle.shuffle.specs.Round.{fold, step1, step2, step3, step4, step5, round}
use Rattle.shuffle.specs.LowBits.{Undo, after, xor_undo, times_undo, fold_self, fold_half, last_undo, last_lt, mask_undo}
use Rattle.shuffle.specs.Table.{every, at}
use Rattle.shuffle.specs.Inverses.{inverses, inverse, back1, back2, back3, back4, back5, unround}
use Rattle.shuffle.specs.Perms.{Perm}

-- ---- the odd factor 1 | (p >> 27)

odd_is : (x : ℕ) → bit_or 1 x ≡ x / 2 * 2 + 1
odd_is x = or_step 1 x ∙ ap (λ z. x / 2 * 2 + z) (max-eq_left (let h : x % 2 < 2 = mod-lt x (omega arith) in omega arith))

-- each entry of the table is the inverse of its odd number
table : T (every (λ j d. nat_eq ((j * 2 + 1) * d % 2 ^ 32) 1) 0 inverses)
table = tt

inverse_is : (p : ℕ) → p < 2 ^ 32 → bit_or 1 (p / 2 ^ 27) * inverse p % 2 ^ 32 ≡ 1
inverse_is p h =
    ap (λ z. z * slice_index inverses (p / 2 ^ 28) % 2 ^ 32) (odd_is (p / 2 ^ 27) ∙ ap (λ z. z * 2 + 1) (shr-shr p 27 1))
    ∙ eqb→eq _ 1 (at (λ j d. nat_eq ((j * 2 + 1) * d % 2 ^ 32) 1) inverses table (p / 2 ^ 28) (shr_lt 4 28 h))

-- ---- the steps of a round, undone, for up to 16 bits
module _ (k : ℕ) (h : k ≤ 16) where
  fold8 : Undo k (fold (2 ^ k - 1) 8) (fold (2 ^ k - 1) 8)
  fold8 = fold_self k 8 h

  fold4 : Undo k (fold (2 ^ k - 1) 4) (λ x. fold (2 ^ k - 1) 4 (fold (2 ^ k - 1) 8 x))
  fold4 = fold_half k 4 fold8

  fold2 : Undo k (fold (2 ^ k - 1) 2) (λ x. fold (2 ^ k - 1) 2 (fold (2 ^ k - 1) 4 (fold (2 ^ k - 1) 8 x)))
  fold2 = fold_half k 2 fold4

  fold1 : Undo k (fold (2 ^ k - 1) 1) (λ x. fold (2 ^ k - 1) 1 (fold (2 ^ k - 1) 2 (fold (2 ^ k - 1) 4 (fold (2 ^ k - 1) 8 x))))
  fold1 = fold_half k 1 fold2

  fold5 : Undo k (fold (2 ^ k - 1) 5) (λ x. fold (2 ^ k - 1) 5 (fold (2 ^ k - 1) 10 x))
  fold5 = fold_half k 5 (fold_self k 10 (omega arith))

  few : k ≤ 32
  few = omega arith

  undo1 : (p : ℕ) → Undo k (step1 (2 ^ k - 1) p) (back1 (2 ^ k - 1) p)
  unfolding step1 back1
  undo1 p = after (after (after (xor_undo k p) (times_undo k 0xe170893d 0x3e779615 few refl)) (xor_undo k (p / 2 ^ 16))) fold4

  undo2 : (p : ℕ) → Undo k (step2 (2 ^ k - 1) p) (back2 (2 ^ k - 1) p)
  unfolding step2 back2
  undo2 p = after (after (after (xor_undo k (p / 2 ^ 8)) (times_undo k 0x0929eb3f 0xf95384bf few refl)) (xor_undo k (p / 2 ^ 23))) fold1

  undo3 : (p : ℕ) → p < 2 ^ 32 → Undo k (step3 (2 ^ k - 1) p) (back3 (2 ^ k - 1) p)
  unfolding step3 back3
  undo3 p l =
      after (after (times_undo k (bit_or 1 (p / 2 ^ 27)) (inverse p) few (inverse_is p l)) (times_undo k 0x6935fa69 0xae4f35d9 few refl))
      (fold_self k 11 (omega arith))

  undo4 : Undo k (step4 (2 ^ k - 1)) (back4 (2 ^ k - 1))
  unfolding step4 back4
  undo4 = after (after (after (times_undo k 0x74dcb303 0xf247cfab few refl) fold2) (times_undo k 0x9e501cc3 0x21ae73eb few refl)) fold2

  undo5 : Undo k (step5 (2 ^ k - 1)) (back5 (2 ^ k - 1))
  unfolding step5 back5
  undo5 = after (times_undo k 0xc860a3df 0xcef8d81f few refl) (last_undo k fold5)

  undo : (p : ℕ) → p < 2 ^ 32 → Undo k (round (2 ^ k - 1) p) (unround (2 ^ k - 1) p)
  unfolding round unround
  undo p l = after (mask_undo k) (after (after (after (after (undo1 p) (undo2 p)) (undo3 p l)) undo4) undo5)

  round_lt : (p x : ℕ) → round (2 ^ k - 1) p x < 2 ^ k
  unfolding round step5
  round_lt p x = last_lt k _

  unround_lt : (p x : ℕ) → unround (2 ^ k - 1) p x < 2 ^ k
  unfolding unround
  unround_lt p x = mask_lt _ k

  -- on numbers of k bits the low k bits are all
  perm : (p : ℕ) → p < 2 ^ 32 → Perm (2 ^ k) (round (2 ^ k - 1) p) (unround (2 ^ k - 1) p)
  perm p l =
      record {
        f_lt = λ x lx. round_lt p x;
        g_lt = λ x lx. unround_lt p x;
        gf = λ x lx. sym (mod-eq_of_lt (unround_lt p _)) ∙ (undo p l).gf x ∙ mod-eq_of_lt lx;
        fg = λ x lx. sym (mod-eq_of_lt (round_lt p _)) ∙ (undo p l).fg x ∙ mod-eq_of_lt lx;
      }

-- a round permutes the numbers up to a mask of at most 16 bits
pub round_perm : (w p : ℕ) → ((k : ℕ) × (k ≤ 16) × (w ≡ 2 ^ k - 1)) → p < 2 ^ 32 → Perm (w + 1) (round w p) (unround w p)
round_perm w p ones l =
    let k : ℕ = ones.0 in
    let whole : w + 1 ≡ 2 ^ k = omega (arith, ones.2, pow_pos k) in
    rw whole (subst (λ z. Perm (2 ^ k) (round z p) (unround z p)) (sym ones.2) (perm k ones.1 p l))
