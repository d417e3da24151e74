-- `why_places::apart_at` meets its contract: a number has its last byte.
use Rattle.why_places.proofs.Laws.{width_some, last_in}
use Rattle.why_places.proofs.Apart.{last_apart}
use Rattle.why_places.proofs.apart_at.Goals as goal

pub overflow_sub-w : goal.overflow_sub-w
overflow_sub-w c = search width_some

pub bounds-v-at : goal.bounds-v-at
bounds-v-at c = search last_in

pub returns : goal.returns
returns c = λ t. search last_apart
