-- What a fault of the arithmetic tells.
-- Assumes nothing.
use Rattle.refusal.specs.declared.Slip.{Slip}
use Rattle.refusal.specs.declared.Layer.TheVariants.{Arithmetic}
use Rattle.levels.specs.declared.fault.ArithmeticFault.{ArithmeticFault}
use Rattle.levels.specs.declared.fault.ArithmeticFault.TheVariants.{Unserved}

-- number 1 of the arithmetic's layer, at no place
abbrev pub told : ArithmeticFault → Slip
told Unserved = record { number = 1; layer = Arithmetic; place = 0 }
