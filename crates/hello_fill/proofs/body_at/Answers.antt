-- `hello_fill::body_at` meets its contract: what is no TLV 242 is read as a TLV 251.
use Rattle.hello_fill.proofs.Subs.{body_other}
use borrow.Author.Rules.{rules}
use Rattle.hello_fill.proofs.body_at.Goals as goal

pub returns : goal.returns
returns g c = (search body_other, search rules)
