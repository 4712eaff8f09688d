-- What a fault of the book tells: its number in the refusal table, the book's layer, and the label it speaks of, else 0.
-- Assumes nothing.
use Rattle.std.specs.Prelude.{ℕ, Bool}
use Rattle.refusal.specs.declared.Layer.TheVariants as layer
use Rattle.refusal.specs.declared.Slip.{Slip}
use Rattle.refusal.specs.Table.{Row, row}
use Rattle.book.specs.declared.fault.BookFault.{BookFault}
use Rattle.book.specs.declared.fault.BookFault.TheVariants.{Words, Label, Grade, Standing, SomeOut, Done, Ungraded, Torn}

-- a slip of the book's layer
abbrev pub slip_of : (number place : ℕ) → Slip
slip_of number place = record { number = number; layer = layer.Book; place = place }

-- a row of the table in the book's layer
abbrev pub line : (number place : ℕ) → Bool → Row
line number place holds = row number layer.Book place holds

abbrev pub book_slip : BookFault → Slip
book_slip Words = slip_of 6 0
book_slip (Label label) = slip_of 7 label
book_slip Grade = slip_of 10 0
book_slip (Standing label) = slip_of 13 label
book_slip SomeOut = slip_of 14 0
book_slip Done = slip_of 15 0
book_slip Ungraded = slip_of 16 0
book_slip (Torn label) = slip_of 17 label
