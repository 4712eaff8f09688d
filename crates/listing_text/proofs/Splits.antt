-- Where a numeral ends: the bytes before its end are digits, and the end is none. Assumes nothing.
use Rattle.std.proofs.Common.{◌≡◌, ℕ, ◌+◌, ◌<◌, ◌≤◌, List, ◌∷◌, ◌++◌, length, get_or, take, drop, Option, sym, refl, ap, ◌∙◌, subst, ◌⊎◌, ⊎_elim, arith, length-append, take-append-drop, MatchOption, Some, None}
use Rattle.std.proofs.lemmas.List.{append_cancel_left, get_or_at, get_or_append_left, get_or-take, length-take-le, take_at, drop_more}
use Rattle.std.proofs.str.Laws.{order}
use Rattle.listing_text.specs.Grammar.{value_after, Numeral, Field}

-- no byte of the first i is `end`
abbrev pub Before : ℕ → List ℕ → ℕ → Type 0
Before end bs i = (k : ℕ) → k < i → get_or bs k 0 ≡ end → ⊥

-- the first byte `end` stands at i
abbrev pub FirstAt : ℕ → List ℕ → ℕ → Type 0
FirstAt end bs i = (i < length bs) × (get_or bs i 0 ≡ end) × Before end bs i

-- the first `end` of the first m bytes is that of all
pub first_near : (end : ℕ) (bs : List ℕ) (m i : ℕ) → m ≤ length bs → FirstAt end (take m bs) i → FirstAt end bs i
first_near end bs m i within first =
    let near : i < m = omega (arith, first.0, length-take-le m bs within) in
    (omega (arith, near, within), sym (get_or-take m bs i 0 near) ∙ first.1, λ k l at_k. first.2 k l (get_or-take m bs k 0 (omega (arith, l, near)) ∙ at_k))

module _ {end n : ℕ} {bs after : List ℕ} (f : Field end bs n after) where
  at_end : get_or bs (length f.ds) 0 ≡ end
  at_end = ap (λ l. get_or l (length f.ds) 0) f.split ∙ get_or_at f.ds end after 0 _ refl

  within : length f.ds < length bs
  within = omega (arith, ap length f.split, length-append f.ds (end ∷ after))

  -- the end of a numeral is among the first eleven bytes
  pub not_before : (m : ℕ) → m ≤ length bs → 11 ≤ m ⊎ (length bs ≤ m) → Before end (take m bs) (length (take m bs)) → ⊥
  not_before m inside far none =
      let near : length f.ds < m = ⊎_elim (λ h. omega (arith, h, f.numeral.short)) (λ h. omega (arith, h, within)) far in
      none (length f.ds) (omega (arith, near, length-take-le m bs inside)) (get_or-take m bs (length f.ds) 0 near ∙ at_end)

  module _ (low : end < 48) where
    digits_before : Before end bs (length f.ds)
    digits_before k l is =
        let same = ap (λ bs. get_or bs k 0) f.split ∙ get_or_append_left f.ds (end ∷ after) 0 k l in
        omega (arith, f.numeral.digits k l, same, is)

    -- the numeral is what stands before the first end
    pub word_is : (i : ℕ) → FirstAt end bs i → take i bs ≡ f.ds
    word_is i first =
        let same : length f.ds ≡ i = ⊎_elim (λ h. absurd (first.2 (length f.ds) h at_end)) (λ h. ⊎_elim (λ l. absurd (digits_before i l first.1)) (λ l. omega (arith, h, l)) (order i (length f.ds))) (order (length f.ds) i) in
        ap (take i) f.split ∙ take_at f.ds (end ∷ after) i same

    pub first_at : FirstAt end bs (length f.ds)
    first_at = (within, at_end, digits_before)

-- the numeral of the bytes before the first end is the answer
pub answer : (end : ℕ) (bs : List ℕ) (i : ℕ) → end < 48 → FirstAt end bs i → (word : List ℕ) → word ≡ take i bs → (after : List ℕ) → after ≡ drop (i + 1) bs → (o : Option ℕ) → MatchOption o ((n : ℕ) → Numeral word n → ⊥) (λ n. Numeral word n) → MatchOption o ((n : ℕ) (after : List ℕ) → Field end bs n after → ⊥) (λ n. Field end bs n after)
answer end bs i low first word w after a (Some n) h = record {
  ds = take i bs;
  numeral = subst (λ ds. Numeral ds n) w h;
  split = sym (take-append-drop i bs) ∙ ap (λ l. take i bs ++ l) (drop_more bs i 0 first.0 ∙ ap (λ b. b ∷ drop (i + 1) bs) first.1 ∙ ap (λ l. end ∷ l) (sym a));
}
answer end bs i low first word w after a None h = λ n rest f. h n (subst (λ ds. Numeral ds n) (sym (w ∙ word_is f low i first)) f.numeral)

-- a text has one field at its front
same_fields : {end m n : ℕ} {bs r s : List ℕ} → end < 48 → Field end bs m r → Field end bs n s → (m ≡ n) × (r ≡ s)
same_fields {end = end} {bs = bs} {r = r} {s = s} low f g =
    let k = length f.ds in
    let same : f.ds ≡ g.ds = sym (word_is f low k (first_at f low)) ∙ word_is g low k (first_at f low) in
    let rest : end ∷ r ≡ end ∷ s = append_cancel_left f.ds (end ∷ r) (end ∷ s) (sym f.split ∙ g.split ∙ ap (λ l. l ++ end ∷ s) (sym same)) in
    (sym f.numeral.value ∙ ap (value_after 0) same ∙ g.numeral.value, ap (drop 1) rest)

pub same_field : {end m n : ℕ} {bs cs r s : List ℕ} → end < 48 → bs ≡ cs → Field end bs m r → Field end cs n s → (m ≡ n) × (r ≡ s)
same_field {end = end} {m = m} {r = r} low e f g = same_fields low (subst (λ l. Field end l m r) e f) g
