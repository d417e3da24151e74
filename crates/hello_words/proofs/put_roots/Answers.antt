-- `hello_words::put_roots` meets its contract: return by return.
use Rattle.hello_words.proofs.Parts.{roots_empty, roots_one, roots_all}
use Rattle.hello_words.proofs.put_roots.Goals as goal

pub returns-then-n-lt1 : goal.returns-then-n-lt1
returns-then-n-lt1 c = search roots_empty

pub returns-then-n-lt2 : goal.returns-then-n-lt2
returns-then-n-lt2 c = search roots_one

pub returns : goal.returns
returns c = search roots_all
