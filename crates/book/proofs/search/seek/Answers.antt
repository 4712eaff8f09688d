use Rattle.std.proofs.Common.{◌≡◌, ◌+◌, position, option_map, rules, ◌∙◌}
use Rattle.book.specs.Standings.{standing, stops}
use Rattle.book.specs.Search.{or_else}
use Rattle.book.proofs.Upward.{stop_word}
use Rattle.book.proofs.search.seek.Goals as goal

pub returns-clause-answer : goal.returns-clause-answer
returns-clause-answer c =
    let is : c.or_else.result ≡ or_else (option_map (λ k. c.args.cursor + k) (position (λ w. stops (standing w)) c.split_at.result.1.now)) (position (λ w. stops (standing w)) c.split_at.result.0.now) = search rules in
    is ∙ rw (c.split_at.ensures.back, c.split_at.ensures.front) (stop_word c.args.words.now c.args.cursor c.requires)
