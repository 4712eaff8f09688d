-- Of m + 1 numbers below m two are equal. Assumes nothing.
use Rattle.std.specs.Prelude.{◌≡◌, ℕ, zero, suc, ◌<◌, ◌≤◌, cond, ◌⊎◌, ◌==◌, ◌≢◌}
use Rattle.std.proofs.Common.{inl, inr, zero-le, arith}
use Rattle.std.proofs.lemmas.Bool.{cases_eq}
use Rattle.std.proofs.lemmas.Bool.Decides.{nat_tests}

-- some number up to m where h is v, or none
seek : (h : ℕ → ℕ) (v m : ℕ) → ((i : ℕ) × (i ≤ m) × (h i ≡ v)) ⊎ ((i : ℕ) → i ≤ m → h i ≢ v)
seek h v zero =
    elim (cases_eq (h 0) v) [
      | inl e ↦ inl (0, zero-le, e)
      | inr ne ↦ inr (λ i l e. let z : i ≡ 0 = omega arith in ne (rw z at e))
    ]
seek h v (suc m) =
    elim (cases_eq (h (suc m)) v) [
      | inl e ↦ inl (suc m, omega arith, e)
      | inr ne ↦ elim (seek h v m) [
        | inl f ↦ inl (f.0, omega (arith, f.1), f.2)
        | inr none ↦ inr (λ i l e. elim (cases_eq i (suc m)) [
          | inl z ↦ ne (rw z at e)
          | inr other ↦ none i (omega arith) e
        ])
      ]
    ]

-- v in the place of m
swap : ℕ → ℕ → ℕ → ℕ
swap m v x = cond (x == m) v x

swap_lt : (m v x : ℕ) → v < suc m → x < suc m → (x ≢ v) → swap m v x < m
unfolding swap
swap_lt m v x hv hx ne = grind (arith, nat_tests)

swap_inj : (m v x y : ℕ) → (x ≢ v) → (y ≢ v) → swap m v x ≡ swap m v y → x ≡ y
unfolding swap
swap_inj m v x y nx ny e = grind (arith, nat_tests)

abbrev pub Twice : ℕ → (ℕ → ℕ) → Type 0
Twice m h = (i : ℕ) × (j : ℕ) × (i < j) × (j ≤ m) × (h i ≡ h j)

pub pigeon : (m : ℕ) (h : ℕ → ℕ) → ((i : ℕ) → i ≤ m → h i < m) → Twice m h
pigeon zero h b = absurd (let z : h 0 < 0 = b 0 zero-le in omega arith)
pigeon (suc m) h b =
    elim (seek h (h (suc m)) m) [
      | inl f ↦ (f.0, suc m, omega (arith, f.1), omega arith, f.2)
      | inr none ↦
          let v : ℕ = h (suc m) in
          let t : Twice m (λ i. swap m v (h i)) =
          pigeon m (λ i. swap m v (h i)) (λ i l. swap_lt m v (h i) (b (suc m) (omega arith)) (b i (omega arith)) (none i l)) in
          (t.0, t.1, t.2, omega (arith, t.3), swap_inj m v (h t.0) (h t.1) (none t.0 (omega (arith, t.2, t.3))) (none t.1 t.3) t.4)
    ]
