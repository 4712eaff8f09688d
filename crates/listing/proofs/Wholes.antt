-- What is appended to nothing is all that is printed, and it is what the input asks for. Assumes nothing.
use Rattle.std.proofs.Common.{◌≡◌, ℕ, List, [], ◌++◌, Some, None, Option, sym, ap, ◌∙◌, subst, ap₂, inl, inr}
use Rattle.refusal.specs.declared.Slip.{Slip}
use Rattle.refusal.specs.Table.{refusal}
use Rattle.listing_text.specs.declared.request.Request.{Request}
use Rattle.listing.specs.declared.listing.Listing.{Listing}
use Rattle.listing_text.specs.Texts.{header_text, refused_text}
use Rattle.listing.specs.declared.fault.ListingFault.{ListingFault}
use Rattle.listing.specs.Faults.{listing_slip}
use Rattle.listing.specs.Lines.{rows_text}
use Rattle.listing.specs.Listings.{Parsed, listing_rows, whole_of, Listed, Prints}

-- what is appended to nothing is the text
pub from_empty : (out empty text : List ℕ) → empty ≡ [] → out ≡ empty ++ text → out ≡ text
from_empty out empty text e a = a ∙ ap (λ xs. xs ++ text) e

pub accepted : (input text : List ℕ) (q : Option Request) (l : Listing) → Parsed input q → refusal (listing_rows q) ≡ None → Listed q l → text ≡ whole_of l l.strip.plan.labels → Prints input text
accepted input text q l p n o e =
    inr
    (record {
      request = l.request;
      reads = subst (Parsed input) o.request p;
      clear = subst (λ r. refusal (listing_rows r) ≡ None) o.request n;
      plan = l.strip.plan;
      planned = o.planned;
      lines = e ∙ ap₂ (λ R W. header_text l.request ++ rows_text l.strip.plan R W l.strip.plan.labels) o.ring o.ways;
    })

pub turned : (input text : List ℕ) (q : Option Request) (f : ListingFault) (s : Slip) → Parsed input q → refusal (listing_rows q) ≡ Some (listing_slip f) → s ≡ listing_slip f
    → text ≡ refused_text s.number → Prints input text
turned input text q f s p r e t = inl (record { request = q; parsed = p; slip = s; given = r ∙ ap Some (sym e); line = t })
