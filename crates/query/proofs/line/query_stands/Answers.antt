use Rattle.query.proofs.Asking.{read_asks, asks_read}
use Rattle.query.proofs.line.query_stands.Goals as goal

pub returns : goal.returns
returns c = λ line q. (read_asks line q, asks_read line q)
