-- What a strip's fault tells: its number in the refusal table, the strip's layer, and its place.
-- Assumes nothing.
use Rattle.std.specs.Prelude.{ℕ}
use Rattle.refusal.specs.declared.Layer.TheVariants as layer
use Rattle.refusal.specs.declared.Slip.{Slip}
use Rattle.strip.specs.declared.fault.StripFault.{StripFault}
use Rattle.strip.specs.declared.fault.StripFault.TheVariants.{Count, Room, Labels, Label, Factor, Setting, Wishes, Repeated}

abbrev stripped : ℕ → ℕ → Slip
stripped number place = record { number = number; layer = layer.Strip; place = place }

abbrev pub strip_slip : StripFault → Slip
strip_slip Count = stripped 1 0
strip_slip Room = stripped 6 0
strip_slip Labels = stripped 7 0
strip_slip (Label label) = stripped 7 label
strip_slip (Factor k) = stripped 8 k
strip_slip (Setting k) = stripped 9 k
strip_slip Wishes = stripped 11 0
strip_slip (Repeated k) = stripped 12 k
