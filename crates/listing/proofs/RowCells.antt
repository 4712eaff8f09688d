-- The first cells of a table into which one row was written are that label's cells. Assumes nothing.
use Rattle.std.proofs.Common.{◌≡◌, ℕ, zero, suc, ◌+◌, ◌*◌, ◌<◌, ◌≤◌, List, [], ◌∷◌, ◌++◌, length, get_or, take, sym, refl, ap, ◌∙◌, subst, ap₂, add-zero, zero-mul, add-one, arith}
use Rattle.std.proofs.lemmas.List.{take_more}
use Rattle.levels.specs.Rings.{Arithmetic}
use Rattle.shuffle.specs.Ways.{Ways}
use Rattle.plan.specs.declared.shape.Plan.{Plan}
use Rattle.strip.specs.declared.cell.Cell.{Cell}
use Rattle.strip.specs.Labels.{index, cell_at}
use Rattle.strip.specs.Rows.{blank, Written}
use Rattle.listing.specs.Lines.{cells_of}

module _ {P : Plan} {R : Arithmetic} {W : Ways} (i : ℕ) (xs ys : List Cell) (w : Written P R W i 1 0 xs ys) (room : P.factors ≤ length ys) where
  cell_there : (j : ℕ) → j < P.factors → get_or ys j blank ≡ cell_at P R W (index P W i) j
  cell_there j h =
      let place : 0 + (0 * P.factors + j) ≡ j = omega (arith, zero-mul P.factors) in
      subst (λ p. get_or ys p blank ≡ cell_at P R W (index P W i) j) place (rw (add-zero i) at (w.cells 0 j (omega arith) h))

  pub cells_taken : (j : ℕ) → j ≤ P.factors → take j ys ≡ cells_of P R W i j
  cells_taken zero h = refl
  cells_taken (suc j) h =
      ap (λ n. take n ys) (sym (add-one j)) ∙ take_more ys j blank (omega arith)
      ∙ ap₂ (λ cs c. cs ++ c ∷ []) (cells_taken j (omega arith)) (cell_there j (omega arith))
