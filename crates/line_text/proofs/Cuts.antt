-- A text cut behind its leading blanks, and what is left cut behind the bytes up to the next blank. Assumes nothing.
use Rattle.std.proofs.Common.{◌≡◌, ℕ, ◌<◌, ◌≤◌, Bool, true, false, List, [], ◌∷◌, ◌++◌, length, get_or, take, drop, sym, refl, ap, ◌∙◌, subst, arith}
use Rattle.std.proofs.lemmas.List.{length-drop, take_all, drop_all, drop_more, take-append-drop}
use Rattle.std.proofs.lemmas.List.{length-take-le, get_or-take}
use Rattle.std.proofs.lemmas.List.Elements.{All-from_get_or, recursion_from_All}
use Rattle.line_text.specs.Words.{is_blank, Only, Parted, Next, Over}

-- the first n bytes are blanks, or are not, and the next byte, if there is one, is of the other kind
abbrev pub Run : Bool → List ℕ → ℕ → Type 0
Run blank text n = (n ≤ length text) × ((k : ℕ) → k < n → is_blank (get_or text k 0) ≡ blank) × (n < length text → is_blank (get_or text n 0) ≡ blank → ⊥)

only : (blank : Bool) (text : List ℕ) (n : ℕ) → Run blank text n → Only blank (take n text)
only blank text n r =
    let P : ℕ → Type 0 = λ b. is_blank b ≡ blank in
    recursion_from_All P (take n text) (All-from_get_or P (take n text) 0 (λ k l. let h = length-take-le n text r.0 in rw (get_or-take n text k 0 (omega arith)) (r.1 k (omega arith))))

is_blank_lem : (b : ℕ) → (is_blank b ≡ false → ⊥) → is_blank b ≡ true
is_blank_lem b = by_cases (is_blank b)
  where
    by_cases : (t : Bool) → (t ≡ false → ⊥) → t ≡ true
    by_cases true other = refl
    by_cases false other = absurd (other refl)

-- what is left behind n bytes begins with the byte at n
first : (text : List ℕ) (n b : ℕ) (bs : List ℕ) → b ∷ bs ≡ drop n text → (n < length text) × (b ≡ get_or text n 0)
first text n b bs e =
    let l : n < length text = omega (arith, ap length e, length-drop n text) in let more = drop_more text n 0 l in (l, (cc))

parted : (text : List ℕ) (n : ℕ) → Run false text n → (after : List ℕ) → after ≡ drop n text → Parted after
parted text n r [] e = tt
parted text n r (b ∷ bs) e = let f = first text n b bs e in is_blank_lem b (λ h. r.2 f.0 (ap is_blank (sym f.1) ∙ h))

module _ (text : List ℕ) (m n : ℕ) (blanks : Run true text m) where
  -- m blanks, and then n other bytes
  pub found : (rest word after : List ℕ) → rest ≡ drop m text → Run false rest n → word ≡ take n rest → after ≡ drop n rest → 0 < length word → Next text word after
  found rest word after back others this that some =
      record {
        blanks = take m text;
        split = sym (take-append-drop m text) ∙ ap (λ l. take m text ++ l) (sym back ∙ sym (take-append-drop n rest) ∙ (cc));
        before = only true text m blanks;
        some = some;
        whole = rw this (only false rest n others);
        parted = parted rest n others after that;
      }

  -- m blanks, and then no other byte
  pub used : (rest after : List ℕ) → rest ≡ drop m text → Run false rest n → after ≡ drop n rest → n ≡ 0 → Over text after
  used [] after back others that none =
      record {
        blanks = subst (Only true) (take_all m text (omega (arith, ap length back, length-drop m text))) (only true text m blanks);
        none = that ∙ drop_all n [] (omega arith);
      }
  used (b ∷ bs) after back others that none =
      let f = first text m b bs back in
      let blank = is_blank_lem b (λ h. others.2 (omega arith) (ap (λ k. is_blank (get_or (b ∷ bs) k 0)) none ∙ h)) in
      absurd (blanks.2 f.0 (ap is_blank (sym f.1) ∙ blank))
