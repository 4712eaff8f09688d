-- What a plan's fault tells: its number in the refusal table, the plan's layer, and place 0.
-- Assumes nothing.
use Rattle.std.specs.Prelude.{ℕ}
use Rattle.refusal.specs.declared.Layer.TheVariants as layer
use Rattle.refusal.specs.declared.Slip.{Slip}
use Rattle.plan.specs.declared.fault.PlanFault.{PlanFault}
use Rattle.plan.specs.declared.fault.PlanFault.TheVariants.{Levels, Factors, Strength, Undivided, Labels}

abbrev pub plan_number : PlanFault → ℕ
plan_number Levels = 1
plan_number Factors = 2
plan_number Strength = 3
plan_number Undivided = 4
plan_number Labels = 5

abbrev pub plan_slip : PlanFault → Slip
plan_slip f = record { number = plan_number f; layer = layer.Plan; place = 0 }
