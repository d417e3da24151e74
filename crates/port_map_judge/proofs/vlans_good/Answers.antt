-- `port_map_judge::vlans_good` meets its contract: no bit is set at first.
use Prim.Native.Nat.{ℕ}
use lib.ListN.{length-replicate}
use Rattle.flush_marks.proofs.Bits.{zeros_none}
use Rattle.port_map_judge.specs.Meaning.{seen_bytes}
use borrow.Author.Rules.{rules}
use Rattle.port_map_judge.proofs.vlans_good.Goals as goal

pub vlans_noted-requires : goal.vlans_noted-requires
vlans_noted-requires c = (search rules, (length-replicate {A = ℕ} seen_bytes 0, zeros_none seen_bytes))
