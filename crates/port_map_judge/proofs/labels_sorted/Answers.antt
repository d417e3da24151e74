-- `port_map_judge::labels_sorted` meets its contract: a bad label, or what the neighbours of the sorted keys say.
use Rattle.port_map_judge.proofs.Apart.{sorted_bad, sorted_says}
use native.Mathlib.Omega.{arith}
use Rattle.port_map_judge.proofs.labels_sorted.Goals as goal

pub returns-then-not-make_keys : goal.returns-then-not-make_keys
returns-then-not-make_keys c = search sorted_bad

pub returns : goal.returns
returns c =
    let k = c.make_keys in
    sorted_says _ _ _ k.ensures c.if-not-make_keys.false (omega arith) _ c.sort.ensures _ c.keys_apart.ensures
