-- What is printed for an input.
--   Parsed        the request that the input's first line makes, or that it makes none
--   listing_rows  the refusal table's rows for a request: a malformed line goes before all others
--   ways_for      the shuffler that a number names: 0 the turn, 1 the hash
--   line_of       the line of a label of a listing
--   whole_of      the header and the first lines of a listing
--   Listed        the listing that a request opens
--   RowPushed     what comes of appending a label's line
--   Prints        the text is all that is printed for the input
-- Assumes nothing.
use Rattle.std.specs.Prelude.{◌≡◌, ℕ, true, cond, not, ◌⊎◌, List, [], ◌∷◌, ◌++◌, take, Some, None, Ok, Err, Option, Result, ◌==◌}
use Rattle.refusal.specs.declared.Layer.TheVariants as layer
use Rattle.refusal.specs.declared.Slip.{Slip}
use Rattle.refusal.specs.Table.{Row, row, refusal}
use Rattle.levels.specs.Counts.{clock_serves}
use Rattle.levels.specs.Choice.{meaning, arithmetic_for}
use Rattle.shuffle.specs.Ways.{Ways}
use Rattle.shuffle.specs.Keyed.{turn_ways}
use Rattle.shuffle.specs.Hash.{hash_ways}
use Rattle.shuffle.specs.Choice.{ways_of}
use Rattle.plan.specs.declared.shape.Plan.{Plan}
use Rattle.plan.specs.Plans.{plan_rows, Planned}
use Rattle.listing_text.specs.declared.request.Request.{Request}
use Rattle.listing_text.specs.Grammar.{Reads}
use Rattle.listing_text.specs.Texts.{header_text, refused_text}
use Rattle.strip.specs.Rows.{rows_rows}
use Rattle.listing.specs.Lines.{cells_of, row_text, rows_text}
use Rattle.listing.specs.Faults.{listing_slip}
use Rattle.listing.specs.declared.fault.LineFault.{LineFault}
use Rattle.listing.specs.declared.fault.LineFault.TheVariants.{Memory, Refused}
use Rattle.listing.specs.declared.listing.Listing.{Listing}

abbrev pub Parsed : List ℕ → Option Request → Type 0
Parsed input None = (q : Request) → Reads input q → ⊥
Parsed input (Some q) = Reads input q

abbrev pub listing_rows : Option Request → List Row
listing_rows None = row 18 layer.Listing 0 true ∷ []
listing_rows (Some q) = row 1 layer.Arithmetic 0 (not (clock_serves q.levels)) ∷ plan_rows q.levels q.strength q.factors

abbrev pub ways_for : ℕ → Ways
ways_for k = cond (k == 0) turn_ways hash_ways

-- the line of a label
abbrev pub line_of : Listing → ℕ → List ℕ
line_of l i = row_text i (cells_of l.strip.plan (meaning l.strip.ring) (ways_of l.strip.shuffler) i l.strip.plan.factors)

-- the header and the lines of the first n labels
abbrev pub whole_of : Listing → ℕ → List ℕ
whole_of l n = header_text l.request ++ rows_text l.strip.plan (meaning l.strip.ring) (ways_of l.strip.shuffler) n

pub record Listed (q : Option Request) (l : Listing) : Type 0 where
  pub request : q ≡ Some l.request
  pub planned : Planned l.request.levels l.request.strength l.request.factors l.request.seed l.strip.plan
  pub ring : meaning l.strip.ring ≡ arithmetic_for l.request.levels
  pub ways : ways_of l.strip.shuffler ≡ ways_for l.request.shuffler

-- a line is refused as the strip refuses its row, and want of memory leaves some front of it
abbrev pub RowPushed : Listing → ℕ → (old new : List ℕ) → Result (Unit {0}) LineFault → Type 0
RowPushed l i old new (Ok _) = (refusal (rows_rows l.strip.plan (meaning l.strip.ring) i 1 0 16) ≡ None) × (new ≡ old ++ line_of l i)
RowPushed l i old new (Err (Refused f)) = (refusal (rows_rows l.strip.plan (meaning l.strip.ring) i 1 0 16) ≡ Some (listing_slip f)) × (new ≡ old)
RowPushed l i old new (Err Memory) = (k : ℕ) × (new ≡ old ++ take k (line_of l i))

-- a refused input prints one line, and an accepted one its request and a line for each label
pub record Turned (input text : List ℕ) : Type 0 where
  pub request : Option Request
  pub parsed : Parsed input request
  pub slip : Slip
  pub given : refusal (listing_rows request) ≡ Some slip
  pub line : text ≡ refused_text slip.number

pub record Accepted (input text : List ℕ) : Type 0 where
  pub request : Request
  pub reads : Reads input request
  pub clear : refusal (listing_rows (Some request)) ≡ None
  pub plan : Plan
  pub planned : Planned request.levels request.strength request.factors request.seed plan
  pub lines : text ≡ header_text request ++ rows_text plan (arithmetic_for request.levels) (ways_for request.shuffler) plan.labels

abbrev pub Prints : List ℕ → List ℕ → Type 0
Prints input text = Turned input text ⊎ Accepted input text
