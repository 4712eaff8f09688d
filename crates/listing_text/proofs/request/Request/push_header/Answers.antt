use Rattle.std.proofs.Common.{Ok}
use Rattle.listing_text.specs.Texts.{spaced, numbers}
use Rattle.listing_text.proofs.Chains.{pushed, along, loop_more, loop_stops, loop_ends}
use Rattle.listing_text.proofs.request.Request.push_header.Goals as goal

pub loop-n-preserved : goal.loop-n-preserved
loop-n-preserved c = loop_more spaced (numbers c.args.self.now) c.loop-n.invariant 0 c.loop-n-test.true c.in_ok-push_spaced.ensures.text

pub returns-in_err-push_spaced : goal.returns-in_err-push_spaced
returns-in_err-push_spaced c =
    let word = c.in_ok-push_str.ensures in
    record {
      text = along (pushed c.args.out.now c.push_str.new.self (Ok tt) _ word.bytes word.capacity word.succeeds)
          (loop_stops spaced (numbers c.args.self.now) c.loop-n.invariant _ 0 c.loop-n-test.true c.from_residual-in_err-push_spaced.result c.from_residual-in_err-push_spaced.ensures.0 c.in_err-push_spaced.ensures.text);
    }

pub returns : goal.returns
returns c =
    let word = c.in_ok-push_str.ensures in
    record { text = along (pushed c.args.out.now c.push_str.new.self (Ok tt) _ word.bytes word.capacity word.succeeds) (along (loop_ends spaced (numbers c.args.self.now) c.loop-n.invariant c.loop-n-test.false) c.push_end.ensures.text) }
