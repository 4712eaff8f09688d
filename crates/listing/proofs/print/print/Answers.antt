use Rattle.std.proofs.Common.{string_bytes, refl, ap, ◌∙◌}
use Rattle.listing_text.specs.Texts.{refused_text}
use Rattle.listing.specs.Listings.{whole_of}
use Rattle.listing.proofs.Wholes.{from_empty, accepted, turned}
use Rattle.listing.proofs.print.print.Goals as goal
use Rattle.listing.proofs.print.print.Goals.{in-Ok+in_ok-push_all-in-Ok, in-Err+in_ok-push_refused-in-Err}

pub returns : goal.returns
returns c =
    elim c.match-open.branch [
      | in-Ok+in_ok-push_all-in-Ok w ↦
          let o = w.in-Ok.ensures in
          let l = w.in-Ok.listing in
          accepted c.args.input.now (string_bytes c.match-open.out) o.0 l o.1 o.2.0 o.2.1
          (ap string_bytes w.out-is
          ∙ from_empty (string_bytes w.push_all.new.out) (string_bytes c.new-out.result) (whole_of l l.strip.plan.labels) c.new-out.ensures.bytes w.in_ok-push_all-in-Ok.ensures)
      | in-Err+in_ok-push_refused-in-Err w ↦
          let o = w.in-Err.ensures in
          turned c.args.input.now (string_bytes c.match-open.out) o.0 w.in-Err.fault w.slip.result o.1 o.2 w.slip.ensures
          (ap string_bytes w.out-is
          ∙ from_empty (string_bytes w.push_refused.new.out) (string_bytes c.new-out.result) (refused_text w.slip.result.number) c.new-out.ensures.bytes (w.in_ok-push_refused-in-Err.ensures.text.whole refl))
    ]
