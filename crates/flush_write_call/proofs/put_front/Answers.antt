-- `flush_write_call::put_front` meets its contract: K-nicks, the nicknames and K-VLBs, one after the other.
use Rattle.flush_write_call.proofs.Laws.{front_put}
use borrow.Author.Rules.{rules}
use Rattle.flush_write_call.proofs.put_front.Goals as goal

pub returns : goal.returns
returns c =
    (front_put _ _ _ _ _ _ c.requires.0.0 c.requires.0.1 c.put_number.ensures c.copy_block.ensures c.put_number-2.ensures, search rules)
