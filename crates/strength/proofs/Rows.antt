-- What a run of cells of any kind writes at the columns of a choice, one column after another, and that the runs of a table
-- follow one another. Assumes nothing.
use Rattle.std.proofs.Common.{◌≡◌, ℕ, ◌+◌, ◌*◌, ◌^◌, ◌<◌, ◌≤◌, List, [], ◌∷◌, ◌++◌, map, length, get_or, take, drop, sym, refl, ap, ◌∙◌, arith, length-take, length-append, length-drop, ⊎_elim}
use native.Mathlib.Nat.{pow-le-pow_right}
use lib.ListN.{length-map}
use Rattle.std.specs.List.{AllByRecursion}
use Rattle.std.specs.Int.Digits.{number_from_digits, AllBelowBase}
use Rattle.std.proofs.lemmas.Int.Digits.{number_lt, number_more}
use Rattle.std.proofs.ByRecursion.{All-map, All-get_or, All-from_get_or, All-weaker, All-take}
use Rattle.std.proofs.lemmas.List.{get_or-map, get_or-drop, get_or_append_left, map-append, drop-map, drop-drop}
use Rattle.std.proofs.Math.Seq.{drop-append_seam}
use Rattle.std.proofs.Math.Nat.{mul-le-mul_left}
use Rattle.std.proofs.lemmas.Bool.{cases_lt}
use Rattle.strength.specs.declared.claim.Claim.{Claim}
use Rattle.strength.specs.Refusals.{Accepted}
use Rattle.strength.specs.Arrays.{at}
use Rattle.strength.specs.Verdicts.{Choice}
use Rattle.strength.specs.Steps.{read, combination}

module _ {Q : Claim} {cells : List ℕ} (A : Accepted Q cells) {cs : List ℕ} (C : Choice Q cs) {X : Type 0} (f : X → ℕ) (run : List X) (sized : length run ≡ Q.factors) (under : AllByRecursion (λ l. l < Q.levels) (map f run)) where
  -- the levels at the columns
  abbrev digits : List ℕ
  digits = map (λ c. get_or (map f run) c 0) cs

  digits_under : AllBelowBase Q.levels digits
  digits_under =
      All-map (λ l. l < Q.levels) (λ c. get_or (map f run) c 0) cs
      (All-weaker (λ c. c < Q.factors) (λ c. get_or (map f run) c 0 < Q.levels) (λ c h. All-get_or (λ l. l < Q.levels) (map f run) c 0 (omega (arith, length-map run f)) under) cs C.below)

  -- what the first of them write
  pub front_lt : (k : ℕ) → number_from_digits Q.levels (take k digits) < Q.levels ^ Q.strength
  front_lt k =
      let short : length (take k digits) ≤ Q.strength = simp length-take (omega (arith, length-map cs (λ c. get_or (map f run) c 0), C.many)) in
      let few : Q.levels ^ length (take k digits) ≤ Q.levels ^ Q.strength = pow-le-pow_right (omega (arith, A.several)) short in
      omega (arith, number_lt Q.levels (take k digits) (All-take (λ l. l < Q.levels) k digits digits_under))

  -- a column more, where its cell holds x and x has level l
  module _ (k n : ℕ) (h : k < length cs) (e : n ≡ number_from_digits Q.levels (take k digits)) where
    pub front_more : n * Q.levels + get_or (map f run) (get_or cs k 0) 0 ≡ number_from_digits Q.levels (take (k + 1) digits)
    front_more =
        ap (λ z. n * Q.levels + z) (sym (get_or-map (λ c. get_or (map f run) c 0) cs k 0 0 h))
        ∙ ap (λ z. z * Q.levels + get_or digits k 0) e
        ∙ sym (number_more Q.levels digits k (omega (arith, length-map cs (λ c. get_or (map f run) c 0))))

    pub front_fits : n * Q.levels + get_or (map f run) (get_or cs k 0) 0 < 65536
    front_fits = omega (arith, front_more, front_lt (k + 1), A.small)

    pub level_told : (x : X) (l : ℕ) → x ≡ get_or run (get_or cs k 0) x → l ≡ f x → l ≡ get_or (map f run) (get_or cs k 0) 0
    level_told x l is tells =
        tells ∙ ap f is ∙ sym (get_or-map f run (get_or cs k 0) x 0 (omega (arith, sized, All-get_or (λ c. c < Q.factors) cs k 0 h C.below)))

map_alike : {P : ℕ → Type 0} {p q : ℕ → ℕ} → ((c : ℕ) → P c → p c ≡ q c) → (cs : List ℕ) → AllByRecursion P cs → map p cs ≡ map q cs
map_alike h [] a = refl
map_alike {P} {p} {q} h (c ∷ cs) a =
    let head : p c ≡ q c = h c a.0 in
    let tail : map p cs ≡ map q cs = map_alike h cs a.1 in
    cc

-- run n stands at the head of what the n runs before it leave
module _ {Q : Claim} {X : Type 0} (f : X → ℕ) (table : List X) (A : Accepted Q (map f table)) (n : ℕ) {left : List X} (begins : left ≡ drop (n * Q.factors) table) {size : ℕ} (whole : size ≡ Q.factors) (run rest : List X) (step : (left ≡ run ++ rest) × (length run ≡ size)) where
  is : drop (n * Q.factors) table ≡ run ++ rest
  is = sym begins ∙ step.0

  sized : length run ≡ Q.factors
  sized = step.1 ∙ whole

  stands : n * Q.factors + Q.factors ≤ Q.runs * Q.factors
  stands =
      omega (arith, A.sized, A.strong, A.meets, length-map table f, sized, simp length-drop at (ap length is), length-append run rest)

  pub run_lt : n < Q.runs
  run_lt = ⊎_elim (λ h. h) (λ h. absurd (omega (arith, stands, mul-le-mul_left Q.factors h, A.strong, A.meets))) (cases_lt n Q.runs)

  cell_is : (c : ℕ) → c < Q.factors → get_or (map f run) c 0 ≡ at Q (map f table) n c
  cell_is c h =
      let cells : drop (n * Q.factors) (map f table) ≡ map f run ++ map f rest = drop-map f (n * Q.factors) table ∙ ap (map f) is ∙ map-append f run rest in
      sym (get_or_append_left (map f run) (map f rest) 0 c (omega (arith, length-map run f)))
      ∙ sym (ap (λ zs. get_or zs c 0) cells)
      ∙ get_or-drop (n * Q.factors) (map f table) c 0

  pub run_levels : AllByRecursion (λ l. l < Q.levels) (map f run)
  run_levels =
      All-from_get_or (λ l. l < Q.levels) (map f run) 0
      (λ c h.
      let low : c < Q.factors = omega (arith, length-map run f) in
      omega (arith, cell_is c low, All-get_or (λ l. l < Q.levels) (map f table) (n * Q.factors + c) 0 (omega (arith, stands, A.sized)) A.levels))

  pub run_reads : (cs : List ℕ) → Choice Q cs → read Q (map f run) cs ≡ combination Q (map f table) cs n
  run_reads cs C = ap (number_from_digits Q.levels) (map_alike cell_is cs C.below)

  pub run_next : drop ((n + 1) * Q.factors) table ≡ rest
  run_next =
      ap (λ z. drop z table) (omega arith) ∙ sym (drop-drop (length run) (n * Q.factors) table) ∙ ap (drop (length run)) is ∙ drop-append_seam run rest

-- where no whole run is left, all have come
pub runs_over : {Q : Claim} {X : Type 0} (f : X → ℕ) (table : List X) → Accepted Q (map f table) → (n : ℕ) {left : List X} → left ≡ drop (n * Q.factors) table → {size : ℕ} → size ≡ Q.factors → n ≤ Q.runs → length left < size → n ≡ Q.runs
runs_over {Q} f table A n begins whole h short = ⊎_elim more (λ l. omega arith) (cases_lt n Q.runs)
  where
    more : n < Q.runs → n ≡ Q.runs
    more l = absurd (omega (arith, mul-le-mul_left Q.factors l, A.sized, length-map table f, simp length-drop at (ap length begins)))
