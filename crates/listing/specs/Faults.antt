-- What a listing's fault tells: number 18 of its own, or what the fault of a lower layer tells.
--   line_fault_name  what is printed of a line that was not appended
-- Assumes nothing.
use Rattle.std.specs.Prelude.{ℕ, List, codes}
use Rattle.refusal.specs.declared.Layer.TheVariants as layer
use Rattle.refusal.specs.declared.Slip.{Slip}
use Rattle.levels.specs.Faults.{told}
use Rattle.plan.specs.Faults.{plan_slip}
use Rattle.strip.specs.Faults.{strip_slip}
use Rattle.listing.specs.declared.fault.LineFault.{LineFault}
use Rattle.listing.specs.declared.fault.LineFault.TheVariants as line
use Rattle.listing.specs.declared.fault.ListingFault.{ListingFault}
use Rattle.listing.specs.declared.fault.ListingFault.TheVariants.{Malformed, Arithmetic, Plan, Strip}

abbrev pub listing_slip : ListingFault → Slip
listing_slip Malformed = record { number = 18; layer = layer.Listing; place = 0 }
listing_slip (Arithmetic f) = told f
listing_slip (Plan f) = plan_slip f
listing_slip (Strip f) = strip_slip f

abbrev pub line_fault_name : LineFault → List ℕ
line_fault_name line.Memory = codes "no memory"
line_fault_name (line.Refused f) = codes "a row was refused"
