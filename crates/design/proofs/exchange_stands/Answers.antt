use Rattle.design.proofs.Exchanges.{exchange}
use Rattle.design.proofs.exchange_stands.Goals as goal

pub returns : goal.returns
returns c = exchange
