-- Rows of the plain book, put together. Assumes nothing.
use Rattle.std.proofs.Common.{◌≡◌, ℕ, zero, suc, ◌<◌, Bool, true, false, ◌||◌, List, [], ◌∷◌, ◌++◌, map, length, get_or, take, None, MatchBool, sym, refl, ap, ◌∙◌, subst, inl, inr, arith, Result}
use mathlib.Core.Bool.{or-false}
use Rattle.std.proofs.lemmas.Bool.{or_parts, or_from, eqb-true}
use Rattle.std.proofs.lemmas.Bool.Decides.{when_false}
use Rattle.refusal.specs.Table.{refusal}
use Rattle.refusal.specs.declared.Slip.{Slip}
use Rattle.book.specs.declared.calls.Call.{Call}
use Rattle.book.specs.declared.calls.Call.TheVariants.{Take, Mark, Spoil, Strike, Finish}
use Rattle.book.specs.declared.calls.Answer.{Answer}
use Rattle.book.specs.Calls.{is_finished}
use Rattle.book.specs.Conditions.{finishing}
use Rattle.book.specs.Plain.{Plain, stand, conditions, Step}
use Rattle.book.specs.Rows.{Row, finishes}
use Rattle.book.specs.Laws.{Sized}
use Rattle.book.proofs.Lines.{fits_call}
use Rattle.book.proofs.Steps.{step_kept}

-- a row that no finish ended, and one from the book that it leaves
pub row_append : (n : ℕ) (p m q : Plain) (calls rest : List Call) (told more : List (Result Answer Slip)) → Row n p calls told m → finishes told ≡ false → Row n m rest more q → Row n p (calls ++ rest) (told ++ more) q
row_append n p m q [] rest [] more r f s = rw r s
row_append n p m q [] rest (a ∷ told) more r f s = absurd r
row_append n p m q (call ∷ calls) rest [] more r f s = absurd r
row_append n p m q (call ∷ calls) rest (a ∷ told) more r f s =
    let parts = or_parts (is_finished a) (finishes told) f in
    let tail = when_false ((told ≡ []) × (r.0 ≡ m)) (Row n r.0 calls told m) parts.0 r.2 in
    (r.0, r.1, rw parts.0 (row_append n r.0 m q calls rest told more tail parts.1 s))

-- one call, and one that ends the row
pub row_one : (n : ℕ) (p q : Plain) (call : Call) (a : Result Answer Slip) → is_finished a ≡ false → Step n p call a q → Row n p (call ∷ []) (a ∷ []) q
row_one n p q call a e s = (q, s, rw e refl)

pub row_last : (n : ℕ) (p q : Plain) (call : Call) (rest : List Call) (a : Result Answer Slip) → is_finished a ≡ true → Step n p call a q → Row n p (call ∷ rest) (a ∷ []) q
row_last n p q call rest a e s = (q, s, rw e (refl, refl))

pub finishes_push : (told : List (Result Answer Slip)) (a : Result Answer Slip) → finishes told ≡ false → finishes (told ++ a ∷ []) ≡ is_finished a
finishes_push [] a e = or-false (is_finished a)
finishes_push (b ∷ told) a e =
    let parts = or_parts (is_finished b) (finishes told) e in
    ap (λ x. x || finishes (told ++ a ∷ [])) parts.0 ∙ finishes_push told a parts.1

-- the book before turn k of a row, and the step that it makes there
pub record Turn (n : ℕ) (p : Plain) (calls : List Call) (told : List (Result Answer Slip)) (k : ℕ) (call : Call) (answer : Result Answer Slip) : Type 0 where
  pub before : Plain
  pub after : Plain
  pub row : Row n p (take k calls) (take k told) before
  pub open_yet : finishes (take k told) ≡ false
  pub step : Step n before (get_or calls k call) (get_or told k answer) after

turn_in : (b : Bool) (n : ℕ) (p q : Plain) (call : Call) (calls : List Call) (a : Result Answer Slip) (told : List (Result Answer Slip)) (k : ℕ) (d : Call) (e : Result Answer Slip) → is_finished a ≡ b → (m : Plain) → Step n p call a m → MatchBool b ((told ≡ []) × (m ≡ q)) (Row n m calls told q) → k < length told → (Row n m calls told q → Turn n m calls told k d e) → Turn n p (call ∷ calls) (a ∷ told) (suc k) d e
turn_in true n p q call calls a told k d e f m s w h more = absurd (omega (arith, ap length w.0))
turn_in false n p q call calls a told k d e f m s w h more =
    let t = more w in
    record { before = t.before; after = t.after; row = (m, s, rw f t.row); open_yet = or_from (is_finished a) (finishes (take k told)) f t.open_yet; step = t.step }

pub turn_at : (n : ℕ) (p q : Plain) (calls : List Call) (told : List (Result Answer Slip)) → Row n p calls told q → (k : ℕ) → k < length told → (d : Call) (e : Result Answer Slip) → Turn n p calls told k d e
turn_at n p q [] [] r k h d e = absurd (omega arith)
turn_at n p q [] (a ∷ told) r k h d e = absurd r
turn_at n p q (call ∷ calls) [] r k h d e = absurd r
turn_at n p q (call ∷ calls) (a ∷ told) r zero h d e = record { before = p; after = r.0; row = refl; open_yet = refl; step = r.1 }
turn_at n p q (call ∷ calls) (a ∷ told) r (suc k) h d e =
    turn_in (is_finished a) n p q call calls a told k d e refl r.0 r.1 r.2 (omega arith) (λ t. turn_at n r.0 q calls told t k (omega arith) d e)

-- a row keeps the size of its book
pub row_kept : (n : ℕ) (p q : Plain) (calls : List Call) (told : List (Result Answer Slip)) → Sized n p → Row n p calls told q → Sized n q
row_kept n p q [] [] s r = subst (Sized n) r s
row_kept n p q [] (a ∷ told) s r = absurd r
row_kept n p q (call ∷ calls) [] s r = absurd r
row_kept n p q (call ∷ calls) (a ∷ told) s r =
    kept_in (is_finished a) (step_kept n p s call a r.0 r.1) r.2 (λ m t. row_kept n r.0 q calls told m t)
  where
    kept_in : (b : Bool) → Sized n r.0 → MatchBool b ((told ≡ []) × (r.0 ≡ q)) (Row n r.0 calls told q) → (Sized n r.0 → Row n r.0 calls told q → Sized n q) → Sized n q
    kept_in true m w more = subst (Sized n) w.1 m
    kept_in false m w more = more m w

not_last : {P : Type 0} {a b : Result Answer Slip} → a ≡ b → is_finished b ≡ false → is_finished a ≡ true → P
not_last same f e = cc (ap is_finished same)

-- a call that ends a row is a finish that no row of the table refuses, and it leaves the book as it was
finish_step : (n : ℕ) (p q : Plain) (call : Call) (a : Result Answer Slip) → is_finished a ≡ true → Step n p call a q → (len : ℕ) × (call ≡ Finish len) × (refusal (conditions n p (Finish len)) ≡ None) × (q ≡ p)
finish_step n p q call a e (inl s) = not_last s.answer refl e
finish_step n p q (Take len) a e (inr s) = not_last s.does.2 refl e
finish_step n p q (Mark len label grade) a e (inr s) = not_last s.does.0 refl e
finish_step n p q (Spoil len label) a e (inr s) = not_last s.does.0 refl e
finish_step n p q (Strike len label) a e (inr s) = not_last s.does.0 refl e
finish_step n p q (Finish len) a e (inr s) = (len, refl, s.clear, s.does.1)

-- a row that a finish ended leaves a book that no row of the table at a finish refuses
pub row_finished : (n : ℕ) (p q : Plain) (calls : List Call) (told : List (Result Answer Slip)) → Row n p calls told q → finishes told ≡ true → refusal (finishing n n (map stand q.labels)) ≡ None
row_finished n p q [] [] r e = cc
row_finished n p q [] (a ∷ told) r e = absurd r
row_finished n p q (call ∷ calls) [] r e = absurd r
row_finished n p q (call ∷ calls) (a ∷ told) r e =
    over (is_finished a) refl r.2 e (λ t f. row_finished n r.0 q calls told t f)
  where
    over : (b : Bool) → is_finished a ≡ b → MatchBool b ((told ≡ []) × (r.0 ≡ q)) (Row n r.0 calls told q) → (b || finishes told) ≡ true → (Row n r.0 calls told q → finishes told ≡ true → refusal (finishing n n (map stand q.labels)) ≡ None) → refusal (finishing n n (map stand q.labels)) ≡ None
    over true is w f more =
        let s = finish_step n p r.0 call a is r.1 in
        let fits : s.0 ≡ n = eqb-true s.0 n (fits_call n p.cursor (map stand p.labels) (Finish s.0) s.2) in
        subst (λ x. refusal (finishing n n (map stand x.labels)) ≡ None) (sym s.3 ∙ w.1) (subst (λ (k : ℕ). refusal (finishing n k (map stand p.labels)) ≡ None) fits s.2)
    over false is w f more = more w f
