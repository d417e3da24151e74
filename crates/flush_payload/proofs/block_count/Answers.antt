-- `flush_payload::block_count` meets its contract: the byte behind the nicknames.
use borrow.Author.Rules.{rules}
use Rattle.flush_payload.proofs.block_count.Goals as goal

pub returns : goal.returns
returns c = (rw (← c.nick_bytes-k.ensures.0) c.wide.ensures.0, search rules)
