use Rattle.std.proofs.Common.{Ok}
use Rattle.listing_text.proofs.Chains.{pushed, along}
use Rattle.listing_text.proofs.lines.push_spaced.Goals as goal

pub returns : goal.returns
returns c =
    let blank = c.in_ok-push_str.ensures in
    record { text = along (pushed c.args.out.now c.push_str.new.self (Ok tt) _ blank.bytes blank.capacity blank.succeeds) c.push_number.ensures.text }
