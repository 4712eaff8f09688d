use Rattle.std.proofs.Common.{[], ◌∷◌, Ok, Err}
use Rattle.listing_text.proofs.Chains.{pushed, along, stops}
use Rattle.listing_text.proofs.lines.push_setting.Goals as goal

pub returns-in_err-push_spaced : goal.returns-in_err-push_spaced
returns-in_err-push_spaced c = record { text = stops _ c.from_residual.result c.from_residual.ensures.0 c.in_err-push_spaced.ensures.text }

pub returns-in_err-push_str : goal.returns-in_err-push_str
returns-in_err-push_str c =
    let stroke = c.in_err-push_str.ensures in
    record { text = along c.in_ok-push_spaced.ensures.text (stops _ c.from_residual-in_err-push_str.result c.from_residual-in_err-push_str.ensures.0 (pushed c.push_spaced.new.out c.push_str.new.self (Err c.in_err-push_str.field-0.0) (47 ∷ []) stroke.bytes stroke.capacity stroke.succeeds)) }

pub returns : goal.returns
returns c =
    let stroke = c.in_ok-push_str.ensures in
    record { text = along c.in_ok-push_spaced.ensures.text (along (pushed c.push_spaced.new.out c.push_str.new.self (Ok tt) _ stroke.bytes stroke.capacity stroke.succeeds) c.push_number.ensures.text) }
