use Rattle.refusal.proofs.Firsts.{given_only, given_always, none_only, none_always}
use Rattle.refusal.proofs.table_stands.Goals as goal

pub returns : goal.returns
returns c = record { given = record { only = given_only; always = given_always }; clear = record { only = none_only; always = none_always } }
