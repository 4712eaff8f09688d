-- What an effect's fault tells: what the strip's or the book's fault inside tells, or number 8 or 9 of the book's layer.
-- A row of calls that was not begun is a trial that was not begun.
-- Assumes nothing.
use Rattle.refusal.specs.declared.Layer.TheVariants as layer
use Rattle.refusal.specs.declared.Slip.{Slip}
use Rattle.strip.specs.Faults.{strip_slip}
use Rattle.book.specs.Faults.{book_slip}
use Rattle.book.specs.declared.row.RowFault.{RowFault}
use Rattle.book.specs.declared.row.RowFault.TheVariants as row
use Rattle.trial.specs.declared.conduct.TrialFault.{TrialFault}
use Rattle.trial.specs.declared.conduct.TrialFault.TheVariants as trial
use Rattle.trial.specs.declared.fault.EffectFault.{EffectFault}
use Rattle.trial.specs.declared.fault.EffectFault.TheVariants.{Strip, Book, Factor, Level}

abbrev pub effect_slip : EffectFault → Slip
effect_slip (Strip f) = strip_slip f
effect_slip (Book f) = book_slip f
effect_slip Factor = record { number = 8; layer = layer.Book; place = 0 }
effect_slip (Level k) = record { number = 9; layer = layer.Book; place = k }

abbrev pub row_fault : RowFault → TrialFault
row_fault row.Memory = trial.Memory
row_fault (row.Opening f) = trial.Book f
