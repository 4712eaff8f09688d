-- Rows written one after the other, and rows written into a part that was lent. Assumes nothing.
use Rattle.std.proofs.Common.{◌≡◌, ℕ, ◌+◌, ◌-◌, ◌*◌, ◌<◌, ◌≤◌, List, ◌++◌, length, get_or, take, drop, sym, refl, ap, ◌∙◌, subst, ⊎_elim, add-zero, add-mul, one-mul, zero-add, zero-mul, arith, length-drop}
use lib.Arith.{digits_lt}
use borrow.Rule.Slice.PartMut.{put_mid, same_len_mid}
use Rattle.std.proofs.lemmas.List.{get_or_past, get_or_append_left, get_or-append_right, get_or-take, get_or-drop, length-take-le}
use Rattle.std.proofs.lemmas.Bool.{cases_lt}
use Rattle.levels.specs.Rings.{Arithmetic}
use Rattle.shuffle.specs.Ways.{Ways}
use Rattle.plan.specs.declared.shape.Plan.{Plan}
use Rattle.strip.specs.declared.cell.Cell.{Cell}
use Rattle.strip.specs.Labels.{index, cell_at}
use Rattle.strip.specs.Rows.{blank, Written}

module _ {P : Plan} {R : Arithmetic} {W : Ways} where
  -- nothing is written of no rows
  pub none_written : (first start : ℕ) (xs : List Cell) → Written P R W first 0 start xs xs
  none_written first start xs = record { cells = λ k j hk hj. absurd (omega arith); under = λ p h. refl; over = λ p h. refl; sized = refl }

  -- the cells of one label are one row
  pub row_written : (label : ℕ) (xs ys : List Cell) → length xs ≡ P.factors → length ys ≡ P.factors
      → ((j : ℕ) → j < P.factors → get_or ys j blank ≡ cell_at P R W (index P W label) j)
      → Written P R W label 1 0 xs ys
  row_written label xs ys x y row =
      record {
        cells = λ k j hk hj.
            let z : k ≡ 0 = omega arith in
            subst (λ k. get_or ys (0 + (k * P.factors + j)) blank ≡ cell_at P R W (index P W (label + k)) j) (sym z)
            (rw (zero-mul P.factors, zero-add j, zero-add j, add-zero label) (row j hj));
        under = λ p h. absurd (omega arith);
        over = λ p h.
            get_or_past ys p blank (omega (arith, one-mul P.factors)) ∙ sym (get_or_past xs p blank (omega (arith, one-mul P.factors)));
        sized = y ∙ sym x;
      }

  -- one row more
  pub rows_more : (first k start : ℕ) (xs ys zs : List Cell) → Written P R W first k start xs ys
      → Written P R W (first + k) 1 (start + k * P.factors) ys zs → Written P R W first (k + 1) start xs zs
  rows_more first k start xs ys zs a b =
      record {
        cells = λ m j hm hj. ⊎_elim
            (λ l. b.under (start + (m * P.factors + j)) (omega (arith, digits_lt {q = m} {m = k} {r = j} {c = P.factors} l hj)) ∙ a.cells m j l hj)
            (λ l.
            let z : m ≡ k = omega arith in
            subst (λ m. get_or zs (start + (m * P.factors + j)) blank ≡ cell_at P R W (index P W (first + m)) j) (sym z) (last j hj))
            (cases_lt m k);
        under = λ p h. b.under p (omega arith) ∙ a.under p h;
        over = λ p h.
            let more : (k + 1) * P.factors ≡ k * P.factors + 1 * P.factors = add-mul k 1 P.factors in
            b.over p (omega arith) ∙ a.over p (omega arith);
        sized = b.sized ∙ a.sized;
      }
    where
      last : (j : ℕ) → j < P.factors → get_or zs (start + (k * P.factors + j)) blank ≡ cell_at P R W (index P W (first + k)) j
      last j hj =
          let c = b.cells 0 j (omega arith) hj in
          let place : start + k * P.factors + (0 * P.factors + j) ≡ start + (k * P.factors + j) = omega (arith, zero-mul P.factors) in
          subst (λ p. get_or zs p blank ≡ cell_at P R W (index P W (first + k)) j) place (rw (add-zero (first + k)) at c)

  -- rows written into the lent part are rows of the table
  pub part_written : (first count start : ℕ) (xs ys : List Cell) → start + count * P.factors ≤ length xs
      → Written P R W first count 0 (take (count * P.factors) (drop start xs)) ys
      → Written P R W first count start xs (put_mid start (count * P.factors) xs ys)
  part_written first count start xs ys fits w =
      record {
        cells = λ k j hk hj.
            inside (k * P.factors + j) (digits_lt {q = k} {m = count} {r = j} {c = P.factors} hk hj)
            ∙ ap (λ p. get_or ys p blank) (sym (zero-add (k * P.factors + j))) ∙ w.cells k j hk hj;
        under = λ p h. get_or_append_left (take start xs) (ys ++ drop cells (drop start xs)) blank p (omega (arith, front)) ∙ get_or-take start xs p blank h;
        over = behind;
        sized = same_len_mid start cells xs ys w.sized;
      }
    where
      cells : ℕ
      cells = count * P.factors

      front : length (take start xs) ≡ start
      front = length-take-le start xs (omega arith)

      long : length ys ≡ cells
      long = w.sized ∙ length-take-le cells (drop start xs) (omega (arith, length-drop start xs))

      inside : (q : ℕ) → q < cells → get_or (put_mid start cells xs ys) (start + q) blank ≡ get_or ys q blank
      inside q h =
          get_or-append_right (take start xs) (ys ++ drop cells (drop start xs)) start (start + q) blank front (omega arith)
          ∙ ap (λ p. get_or (ys ++ drop cells (drop start xs)) p blank) (let e : start + q - start ≡ q = omega arith in e)
          ∙ get_or_append_left ys (drop cells (drop start xs)) blank q (omega (arith, long))

      behind : (p : ℕ) → start + cells ≤ p → get_or (put_mid start cells xs ys) p blank ≡ get_or xs p blank
      behind p h =
          get_or-append_right (take start xs) (ys ++ drop cells (drop start xs)) start p blank front (omega arith)
          ∙ get_or-append_right ys (drop cells (drop start xs)) cells (p - start) blank long (omega arith)
          ∙ get_or-drop cells (drop start xs) (p - start - cells) blank
          ∙ get_or-drop start xs (cells + (p - start - cells)) blank
          ∙ ap (λ q. get_or xs q blank) (let e : start + (cells + (p - start - cells)) ≡ p = omega arith in e)
