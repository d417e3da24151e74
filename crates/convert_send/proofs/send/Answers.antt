-- `convert_send::send` meets its contract: with the far port's Compact.
use Rattle.convert_send.proofs.Laws.{where_sent}
use Rattle.convert_send.proofs.send.Goals as goal

pub returns : goal.returns
returns c = search where_sent
