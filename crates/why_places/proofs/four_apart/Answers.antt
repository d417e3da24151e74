-- `why_places::four_apart` meets its contract: each of the four is passed over.
use Rattle.why_places.proofs.Apart.{four_true, four_left}
use borrow.Author.Rules.{rules}
use Rattle.why_places.proofs.four_apart.Goals as goal

pub returns : goal.returns
returns c =
    λ t.
    let ((p, q), (r, s)) = four_true _ _ _ _ t in
    four_left _ _ _ (search rules) _ (search rules)
    (c.apart_at-a.ensures p)
    (c.apart_at-b.ensures q)
    (c.apart_at-c.ensures r)
    (c.apart_at-d.ensures s)
