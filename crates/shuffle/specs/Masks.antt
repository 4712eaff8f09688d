-- The mask of a size: 2 ^ k - 1 for the smallest k that serves. Assumes nothing.
use Rattle.std.specs.Prelude.{◌≡◌, ℕ, suc, ◌+◌, ◌-◌, ◌*◌, ◌%◌, ◌^◌, ◌<◌, ◌≤◌}
use Rattle.std.proofs.Common.{ap, inl, inr, one-mul, pow-suc, mod-eq_of_lt, le_antisymm, arith, pow_pos, pow_mono}
use Rattle.std.specs.Int.Count.{count_leading_zeros}
use Rattle.std.proofs.lemmas.Nat.{leading_length}
use Rattle.std.proofs.lemmas.Bool.{cases_lt}
use Rattle.shuffle.specs.Hash.{Smallest, mask}

-- the powers of 2 rise with their exponents
below_pow : (j k : ℕ) → 2 ^ j < 2 ^ suc k → j ≤ k
below_pow j k h =
    elim (cases_lt k j) [
      | inr l ↦ l
      | inl l ↦ absurd (let p : 2 ^ suc k ≤ 2 ^ j = pow_mono l in omega arith)
    ]

-- how many digits n - 1 has: at most 16, and no fewer give a mask
pub digits : (n : ℕ) → 0 < n → n ≤ 65536
    → (k : ℕ) × (count_leading_zeros 32 (n - 1) + k ≡ 32) × (n ≤ 2 ^ k) × ((j : ℕ) → n - 1 ≤ 2 ^ j - 1 → k ≤ j)
digits n h l =
    let d = leading_length 32 (n - 1) (omega arith) in
    (d.0, d.1, omega (arith, d.2), λ j hj. below_pow d.0 j (omega (arith, d.3, pow-suc 2 j, pow_pos j)))

pub digits_few : (n : ℕ) (h : 0 < n) (l : n ≤ 65536) → (digits n h l).0 ≤ 16
digits_few n h l = (digits n h l).3 16 (omega arith)

pub bits_few : (n : ℕ) → 0 < n → n ≤ 65536 → 32 - count_leading_zeros 32 (n - 1) ≤ 16
bits_few n h l = omega (arith, (digits n h l).1, digits_few n h l)

-- a one shifted so far keeps its place in 32 bits
pub one_shifted : (n : ℕ) → 0 < n → n ≤ 65536
    → 1 * 2 ^ (32 - count_leading_zeros 32 (n - 1)) % 2 ^ 32 ≡ 2 ^ (32 - count_leading_zeros 32 (n - 1))
one_shifted n h l =
    let p : 2 ^ (32 - count_leading_zeros 32 (n - 1)) ≤ 65536 = pow_mono {j = 16} (bits_few n h l) in
    rw (one-mul (2 ^ (32 - count_leading_zeros 32 (n - 1)))) (mod-eq_of_lt (omega arith))

pub mask_is : (n : ℕ) (h : 0 < n) (l : n ≤ 65536) → mask n ≡ 2 ^ (digits n h l).0 - 1
unfolding mask
mask_is n h l =
    let d = digits n h l in
    let e : 32 - count_leading_zeros 32 (n - 1) ≡ d.0 = omega (arith, d.1) in
    ap (λ k. 2 ^ k - 1) e

pub mask_smallest : (n : ℕ) → 0 < n → n ≤ 65536 → Smallest (n - 1) (mask n)
mask_smallest n h l =
    let d = digits n h l in
    record {
      form = (d.0, mask_is n h l);
      covers = omega (arith, mask_is n h l, d.2);
      least = λ j hj. let p : 2 ^ d.0 ≤ 2 ^ j = pow_mono (d.3 j hj) in omega (arith, mask_is n h l);
    }

-- there is one smallest
pub smallest_same : {m w v : ℕ} → Smallest m w → Smallest m v → w ≡ v
smallest_same {m} {w} {v} a b =
    le_antisymm
    (rw b.form.1 (a.least b.form.0 (rw b.form.1 at b.covers)))
    (rw a.form.1 (b.least a.form.0 (rw a.form.1 at a.covers)))
