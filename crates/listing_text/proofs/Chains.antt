-- One text appended after another. Assumes nothing.
use Rattle.std.proofs.Common.{◌≡◌, ℕ, ◌+◌, ◌<◌, ◌≤◌, true, cond, List, [], ◌++◌, length, get_or, take, min, is_ok, is_err, Ok, Err, string_bytes, string_len, string_capacity, Result, String, sym, refl, ap, ◌∙◌, subst, append_assoc, append-nil, arith, length-append, take-append-drop, take_all}
use lib.Seq.{take-append-add, take-length}
use Rattle.std.proofs.lemmas.List.{flat_map_more, take_more, drop_more, take_min, take-append-le}
use Rattle.std.proofs.lemmas.Grind.{flat_map-append}
use Rattle.std.specs.declared.alloc.AllocError.{AllocError}
use Rattle.std.specs.List.{flat_map}
use Rattle.listing_text.specs.Appends.{Appends}

-- a front of a text is a front of a longer one
longer : (a b : List ℕ) (k : ℕ) → take k a ≡ take (min k (length a)) (a ++ b)
longer a b k =
    sym (take_min k a) ∙ sym (take-append-le (min k (length a)) a b (omega arith))

fails : {X Y : Type 0} (r : Result X Y) → is_err r ≡ true → is_ok r ≡ true → ⊥
fails r e ok = grind arith

-- what `push_str` says of one text
pub pushed : {Z : Type 0} (old new : String Z) (r : Result (Unit {0}) AllocError) (text : List ℕ) → string_bytes new ≡ cond (is_ok r) (string_bytes old ++ text) (string_bytes old) → string_capacity old ≤ string_capacity new → (string_len old + length text ≤ string_capacity old → is_ok r ≡ true) → Appends r old text new
pushed old new (Ok x) text bytes grows room =
    record { whole = λ _. bytes; front = (length text, bytes ∙ ap (λ l. string_bytes old ++ l) (sym (take-length text))); room = room; capacity = grows }
pushed old new (Err y) text bytes grows room =
    record { whole = λ ok. absurd (fails {X = Unit {0}} (Err y) refl ok); front = (0, bytes ∙ sym (append-nil (string_bytes old))); room = room; capacity = grows }

-- before a loop that appends
pub starts : {X Y Z : Type 0} {x : X} {s : String Z} → Appends {Y = Y} (Ok x) s [] s
starts {s = s} = record { whole = λ _. sym (append-nil (string_bytes s)); front = (0, sym (append-nil (string_bytes s))); room = λ _. refl; capacity = omega arith }

module _ {X Y Z : Type 0} {old new : String Z} {a : List ℕ} where
  -- the first text is all there, and the second was to follow
  pub along : {P Q : Type 0} {mid : String Z} {b : List ℕ} {x : P} {r : Result X Y} → Appends {Y = Q} (Ok x) old a mid → Appends r mid b new → Appends r old (a ++ b) new
  along {mid = mid} {b = b} p q =
      let first = p.whole refl in
      let long = ap length first ∙ length-append (string_bytes old) a in
      record {
        whole = λ ok. q.whole ok ∙ ap (λ l. l ++ b) first ∙ append_assoc (string_bytes old) a b;
        front = (
          length a + q.front.0,
          q.front.1 ∙ ap (λ l. l ++ take q.front.0 b) first ∙ append_assoc (string_bytes old) a (take q.front.0 b)
              ∙ ap (λ l. string_bytes old ++ l) (sym (take-append-add a b q.front.0)),
        );
        room = λ h. q.room (omega (arith, long, p.capacity, length-append a b, old.bytes.ok.0, mid.bytes.ok.0));
        capacity = omega (arith, p.capacity, q.capacity);
      }

  -- memory ran out in the first text
  pub stops : {P Q : Type 0} {y : Q} (rest : List ℕ) (r : Result X Y) → is_err r ≡ true → Appends {X = P} (Err y) old a new → Appends r old (a ++ rest) new
  stops {P = P} {y = y} rest r e p =
      record {
        whole = λ ok. absurd (fails r e ok);
        front = (min p.front.0 (length a), p.front.1 ∙ ap (λ l. string_bytes old ++ l) (longer a rest p.front.0));
        room = λ h. absurd (fails {X = P} (Err y) refl (p.room (omega (arith, length-append a rest))));
        capacity = p.capacity;
      }

-- a loop that appends a text for each element of xs
module _ {A X Y Z : Type 0} (f : A → List ℕ) (xs : List A) {i : ℕ} {old mid : String Z} {x : X} (so_far : Appends {Y = Y} (Ok x) old (flat_map f (take i xs)) mid) where
  pub loop_more : {P Q : Type 0} {new : String Z} {r : Result P Q} (d : A) → i < length xs → Appends r mid (f (get_or xs i d)) new → Appends r old (flat_map f (take (i + 1) xs)) new
  loop_more {new = new} {r = r} d h p = subst (λ l. Appends r old l new) (flat_map_more f [] (take i xs) (get_or xs i d) ∙ ap (flat_map f) (sym (take_more xs i d h))) (along so_far p)

  pub loop_stops : {P Q V W : Type 0} {new : String Z} {y : W} (rest : List ℕ) (d : A) → i < length xs → (r : Result P Q) → is_err r ≡ true → Appends {X = V} (Err y) mid (f (get_or xs i d)) new → Appends r old (flat_map f xs ++ rest) new
  loop_stops {new = new} rest d h r e p =
      let whole = sym (take-append-drop i xs) ∙ ap (λ l. take i xs ++ l) (drop_more xs i d h) in
      let text = ap (λ l. flat_map f l ++ rest) whole ∙ ap (λ l. l ++ rest) (flat_map-append f (take i xs) _) ∙ append_assoc (flat_map f (take i xs)) _ rest ∙ ap (λ l. flat_map f (take i xs) ++ l) (append_assoc (f (get_or xs i d)) _ rest) in
      subst (λ l. Appends r old l new) (sym text) (along so_far (stops _ r e p))

  pub loop_ends : length xs ≤ i → Appends {Y = Y} (Ok x) old (flat_map f xs) mid
  loop_ends h = subst (λ l. Appends {Y = Y} (Ok x) old (flat_map f l) mid) (take_all i xs h) so_far
