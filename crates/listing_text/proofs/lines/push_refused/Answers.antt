use Rattle.std.proofs.Common.{Ok}
use Rattle.listing_text.proofs.Chains.{pushed, along, stops}
use Rattle.listing_text.proofs.lines.push_refused.Goals as goal

pub returns-in_err-push_spaced : goal.returns-in_err-push_spaced
returns-in_err-push_spaced c =
    let word = c.in_ok-push_str.ensures in
    record { text = along (pushed c.args.out.now c.push_str.new.self (Ok tt) _ word.bytes word.capacity word.succeeds) (stops _ c.from_residual-in_err-push_spaced.result c.from_residual-in_err-push_spaced.ensures.0 c.in_err-push_spaced.ensures.text) }

pub returns : goal.returns
returns c =
    let word = c.in_ok-push_str.ensures in
    record { text = along (pushed c.args.out.now c.push_str.new.self (Ok tt) _ word.bytes word.capacity word.succeeds) (along c.in_ok-push_spaced.ensures.text c.push_end.ensures.text) }
