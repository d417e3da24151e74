-- `flush_nicknames::nicknames_of` meets its contract: the ingress nickname, the only one of the list, or not one.
use Rattle.flush_nicknames.proofs.First.{one_ingress, one-listed, several_listed}
use Rattle.flush_nicknames.proofs.nicknames_of.Goals as goal

pub returns-then-nicks-eq0 : goal.returns-then-nicks-eq0
returns-then-nicks-eq0 c = search one_ingress

pub returns-then-nicks-eq2 : goal.returns-then-nicks-eq2
returns-then-nicks-eq2 c = search one-listed

pub returns : goal.returns
returns c = search several_listed
