-- What a checker's fault tells: its number in the refusal table, the checker's layer, and its place.
-- Assumes nothing.
use Rattle.std.specs.Prelude.{ℕ}
use Rattle.refusal.specs.declared.Layer.TheVariants as layer
use Rattle.refusal.specs.declared.Slip.{Slip}
use Rattle.strength.specs.declared.fault.CheckerFault.{CheckerFault}
use Rattle.strength.specs.declared.fault.CheckerFault.TheVariants.{Levels, Factors, Strength, Size, Memory, Cell}

abbrev checked : ℕ → ℕ → Slip
checked number place = record { number = number; layer = layer.Checker; place = place }

abbrev pub checker_slip : CheckerFault → Slip
checker_slip Levels = checked 1 0
checker_slip Factors = checked 2 0
checker_slip Strength = checked 3 0
checker_slip Size = checked 5 0
checker_slip Memory = checked 6 0
checker_slip (Cell k) = checked 9 k
