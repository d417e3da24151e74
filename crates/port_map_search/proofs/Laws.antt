-- The numbers of a pair at an offset.
-- Assumes nothing.
use Prim.Native.Nat.{ℕ, ◌+◌, ◌≤◌}
use native.Mathlib.Omega.{arith}
use mathlib.Core.List.{List}
use mathlib.Core.Path.{◌≡◌, sym, ap, ◌∙◌}
use lib.ListN.{length, take, drop, length-drop}
use lib.Seq.{drop-drop, take-add, drop_at, length-take-le}
use Rattle.numbers.specs.Bytes.{num}
use Rattle.numbers.proofs.Lists.{part_prefix}
use Rattle.port_map.specs.Maps.{port_vlan, campus_label, pair_bytes, pair_of}
use Rattle.port_map_search.specs.Meaning.{pair_at}

-- ---- the pair at an offset

module _ (m : List ℕ) (at : ℕ) (room : at + pair_bytes ≤ length m) where
  pub vlan_is : (n : ℕ) → n ≡ num (take 2 (drop at m)) → port_vlan n ≡ (pair_at m at).vlan
  unfolding pair_of
  vlan_is n e =
      let d = length-drop at m in
      ap port_vlan (e ∙ ap num (part_prefix (drop at m) 0 2 6 (omega arith) (omega arith)))

  four : drop 2 (take 6 (drop at m)) ≡ take 4 (drop (at + 2) m)
  four =
      let d = length-drop at m in
      ap (drop 2) (take-add 2 4 (drop at m))
      ∙ drop_at (take 2 (drop at m)) (take 4 (drop 2 (drop at m))) 2 (length-take-le 2 (drop at m) (omega arith))
      ∙ ap (take 4) (drop-drop 2 at m)

  pub label_is : (n : ℕ) → n ≡ num (take 4 (drop (at + 2) m)) → campus_label n ≡ (pair_at m at).label
  unfolding pair_of
  label_is n e = ap campus_label (e ∙ sym (ap num four))
