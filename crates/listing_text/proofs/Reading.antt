-- A line writes one request, and its first 55 bytes decide it. Assumes nothing.
use Rattle.std.proofs.Common.{◌≡◌, ℕ, ◌+◌, ◌-◌, ◌≤◌, List, [], ◌∷◌, ◌++◌, length, take, drop, sym, refl, ap, ◌∙◌, subst, append_assoc, append-nil, arith, length-append, take-append-drop}
use lib.Seq.{take-append-add}
use Rattle.std.proofs.lemmas.Fmt.{decimal_nonempty, length-decimal-le, digits_decimal, digits_value-decimal}
use Rattle.listing_text.proofs.Numerals.{own}
use Rattle.listing_text.proofs.Splits.{same_field}
use Rattle.listing_text.specs.declared.request.Request.{Request}
use Rattle.listing_text.specs.Grammar.{Numeral, Field, Reads}
use Rattle.listing_text.specs.Texts.{decimal, header_text}

-- the bytes of a line, and what follows
abbrev line : List ℕ → List ℕ → List ℕ → List ℕ → List ℕ → List ℕ → List ℕ
line a b c d e after = a ++ 32 ∷ (b ++ 32 ∷ (c ++ 32 ∷ (d ++ 32 ∷ (e ++ 10 ∷ after))))

line_more : (a b c d e x y : List ℕ) → line a b c d e x ++ y ≡ line a b c d e (x ++ y)
line_more a b c d e x y = simp append_assoc

-- a text that has no field is not one that has
pub stuck : {end n : ℕ} {bs cs after : List ℕ} → bs ≡ cs → ((m : ℕ) (r : List ℕ) → Field end bs m r → ⊥) → Field end cs n after → ⊥
stuck {end = end} {n = n} {after = after} e none f = none n after (subst (λ l. Field end l n after) (sym e) f)

module _ {i : List ℕ} {q : Request} (h : Reads i q) where
  -- the line, field by field
  pub levels_field : Field 32 i q.levels (h.b ++ 32 ∷ (h.c ++ 32 ∷ (h.d ++ 32 ∷ (h.e ++ 10 ∷ h.after))))
  levels_field = record { ds = h.a; numeral = h.levels; split = h.line }

  pub strength_field : Field 32 (h.b ++ 32 ∷ (h.c ++ 32 ∷ (h.d ++ 32 ∷ (h.e ++ 10 ∷ h.after)))) q.strength (h.c ++ 32 ∷ (h.d ++ 32 ∷ (h.e ++ 10 ∷ h.after)))
  strength_field = record { ds = h.b; numeral = h.strength; split = refl }

  pub factors_field : Field 32 (h.c ++ 32 ∷ (h.d ++ 32 ∷ (h.e ++ 10 ∷ h.after))) q.factors (h.d ++ 32 ∷ (h.e ++ 10 ∷ h.after))
  factors_field = record { ds = h.c; numeral = h.factors; split = refl }

  pub seed_field : Field 32 (h.d ++ 32 ∷ (h.e ++ 10 ∷ h.after)) q.seed (h.e ++ 10 ∷ h.after)
  seed_field = record { ds = h.d; numeral = h.seed; split = refl }

  pub shuffler_field : Field 10 (h.e ++ 10 ∷ h.after) q.shuffler h.after
  shuffler_field = record { ds = h.e; numeral = h.shuffler; split = refl }

  -- fields that were read are those of the line
  module _ {k : ℕ} {r : List ℕ} (f : Field 32 i k r) where
    pub levels_same : (k ≡ q.levels) × (r ≡ h.b ++ 32 ∷ (h.c ++ 32 ∷ (h.d ++ 32 ∷ (h.e ++ 10 ∷ h.after))))
    levels_same = same_field (omega arith) refl f levels_field

    module _ {l : ℕ} {s : List ℕ} (g : Field 32 r l s) where
      pub strength_same : (l ≡ q.strength) × (s ≡ h.c ++ 32 ∷ (h.d ++ 32 ∷ (h.e ++ 10 ∷ h.after)))
      strength_same = same_field (omega arith) levels_same.1 g strength_field

      module _ {m : ℕ} {t : List ℕ} (j : Field 32 s m t) where
        pub factors_same : (m ≡ q.factors) × (t ≡ h.d ++ 32 ∷ (h.e ++ 10 ∷ h.after))
        factors_same = same_field (omega arith) strength_same.1 j factors_field

        module _ {n : ℕ} {u : List ℕ} (o : Field 32 t n u) where
          pub seed_same : (n ≡ q.seed) × (u ≡ h.e ++ 10 ∷ h.after)
          seed_same = same_field (omega arith) factors_same.1 o seed_field

          pub shuffler_same : {p : ℕ} {v : List ℕ} → Field 10 u p v → p ≡ q.shuffler
          shuffler_same w = (same_field (omega arith) seed_same.1 w shuffler_field).0

-- five fields, of which the last is 0 or 1, are a request
pub joined : {i r s t u v : List ℕ} (q : Request) → Field 32 i q.levels r → Field 32 r q.strength s → Field 32 s q.factors t → Field 32 t q.seed u → Field 10 u q.shuffler v → q.shuffler ≤ 1 → Reads i q
joined {v = v} q f g j o w known = record {
  a = f.ds;
  b = g.ds;
  c = j.ds;
  d = o.ds;
  e = w.ds;
  after = v;
  levels = f.numeral;
  strength = g.numeral;
  factors = j.numeral;
  seed = o.numeral;
  shuffler = w.numeral;
  known = known;
  line = f.split ∙ ap (λ l. f.ds ++ 32 ∷ l) (g.split ∙ ap (λ l. g.ds ++ 32 ∷ l) (j.split ∙ ap (λ l. j.ds ++ 32 ∷ l) (o.split ∙ ap (λ l. o.ds ++ 32 ∷ l) w.split)));
}

pub unique : (i : List ℕ) (p q : Request) → Reads i p → Reads i q → p ≡ q
unique i p q g h =
    let f1 = levels_field g in
    let f2 = strength_field g in
    let f3 = factors_field g in
    let f4 = seed_field g in
    let e1 = (levels_same h f1).0 in
    let e2 = (strength_same h f1 f2).0 in
    let e3 = (factors_same h f1 f2 f3).0 in
    let e4 = (seed_same h f1 f2 f3 f4).0 in
    let e5 = shuffler_same h f1 f2 f3 f4 (shuffler_field g) in
    λ x. record { levels = e1 x; strength = e2 x; factors = e3 x; seed = e4 x; shuffler = e5 x }

-- a line is read whatever follows it
follows : {i : List ℕ} {q : Request} (h : Reads i q) (j after : List ℕ) → j ≡ line h.a h.b h.c h.d h.e after → Reads j q
follows h j after is = record {
  a = h.a;
  b = h.b;
  c = h.c;
  d = h.d;
  e = h.e;
  after = after;
  levels = h.levels;
  strength = h.strength;
  factors = h.factors;
  seed = h.seed;
  shuffler = h.shuffler;
  known = h.known;
  line = is;
}

-- so long is a line at most
short : {i : List ℕ} {q : Request} (h : Reads i q) → length (line h.a h.b h.c h.d h.e []) ≤ 55
short h =
    simp length-append (omega (arith, h.levels.short, h.strength.short, h.factors.short, h.seed.short, h.shuffler.short))

pub decided : (i : List ℕ) (q : Request) → (Reads i q → Reads (take 55 i) q) × (Reads (take 55 i) q → Reads i q)
decided i q = (
  λ h.
      let whole = line h.a h.b h.c h.d h.e [] in
      let room : 55 ≡ length whole + (55 - length whole) = omega (arith, short h) in
      follows h (take 55 i) (take (55 - length whole) h.after)
      (ap (λ n. take n i) room ∙ ap (take (length whole + (55 - length whole))) (h.line ∙ sym (line_more h.a h.b h.c h.d h.e [] h.after))
      ∙ take-append-add whole h.after (55 - length whole) ∙ line_more h.a h.b h.c h.d h.e [] (take (55 - length whole) h.after)),
  λ h.
      follows h i (h.after ++ drop 55 i)
      (sym (take-append-drop 55 i) ∙ ap (λ l. l ++ drop 55 i) h.line ∙ line_more h.a h.b h.c h.d h.e h.after (drop 55 i)),
)

-- a number that some digits write is written without leading zeros too
numeral_decimal : {ds : List ℕ} {n : ℕ} → Numeral ds n → Numeral (decimal n) n
numeral_decimal {n = n} h =
    let small = h.below in
    record {
      some = decimal_nonempty n (omega arith);
      short = length-decimal-le 10 n (omega arith) (omega arith) (omega arith);
      digits = digits_decimal own n (omega arith);
      value = digits_value-decimal own n (omega arith);
      below = small;
    }

spaces_line : (a b c d e : List ℕ) → (a ++ 32 ∷ (b ++ 32 ∷ (c ++ 32 ∷ (d ++ 32 ∷ (e ++ []))))) ++ 10 ∷ [] ≡ line a b c d e []
spaces_line a b c d e = simp (append-nil, append_assoc)

-- the header is a request line after its first word
pub repeats : {i : List ℕ} (q : Request) → Reads i q → Reads (drop 6 (header_text q)) q
repeats q h = record {
  a = decimal q.levels;
  b = decimal q.strength;
  c = decimal q.factors;
  d = decimal q.seed;
  e = decimal q.shuffler;
  after = [];
  levels = numeral_decimal h.levels;
  strength = numeral_decimal h.strength;
  factors = numeral_decimal h.factors;
  seed = numeral_decimal h.seed;
  shuffler = numeral_decimal h.shuffler;
  known = h.known;
  line = spaces_line (decimal q.levels) (decimal q.strength) (decimal q.factors) (decimal q.seed) (decimal q.shuffler);
}
