-- The sub-TLV of an entry that is good, by its type: what the code of each type asks for, and that it puts the sub-TLV.
-- Assumes nothing.
use Prim.Native.Nat.{ℕ, zero, suc, ◌+◌, ◌*◌, ◌≤◌}
use mathlib.Core.Bool.{true}
use mathlib.Core.List.{List, [], ◌++◌}
use mathlib.Core.Path.{◌≡◌, refl, ap, ◌∙◌}
use native.Mathlib.Omega.{arith}
use lib.ListN.{length, get_or}
use Rattle.numbers.specs.Tests.{pick}
use Rattle.frame_copy.specs.Areas.{pasted}
use Rattle.hello.specs.Tlvs.{tlv_bytes}
use Rattle.hello.specs.Pieces.{Sub}
use Rattle.hello.specs.Writing.{sub_bytes}
use Rattle.hello_area.specs.Entries.{numbers_in, label_good, label_bytes, parameters_bytes, take_sub, reach, sub_at}
use Rattle.hello_entry.specs.Kinds.{count_at}
use Rattle.hello_entry.specs.Bytes.{parameters_at, label_at, record_at, number_at, run}
use Rattle.hello_entry.proofs.Shape.{sub_of, head_numbers, item_numbers, head_at, item_at, entry-alone, entry_listed, label_good_lem}
use Rattle.hello_entry.proofs.Counts.{alone_long, nicknames_few, nicknames_end, nicknames_long, trees_few, trees_end, trees_long, macs_few, macs_end, macs_long}

run_same : (f g : ℕ → List ℕ) → ((j : ℕ) → f j ≡ g j) → (w m i : ℕ) → run f w i m ≡ run g w i m
unfolding run
run_same f g h w zero i = refl
run_same f g h w (suc m) i = ap (λ (x : List ℕ). x ++ run f w (i + w) m) (h i) ∙ ap (λ (x : List ℕ). g i ++ x) (run_same f g h w m (i + w))

bytes_of : (k : ℕ) (v : List ℕ) (s : Sub) → s ≡ sub_of k v → tlv_bytes k v ≡ sub_bytes s
unfolding sub_bytes
bytes_of k v s e = rw e

-- an entry with a list
listed : (k : ℕ) (ns : List ℕ) (i : ℕ) → reach (take_sub k) ns i ≤ length ns → (k ≡ 22 → ⊥) → (h w : ℕ) (x : List ℕ) (f : ℕ → List ℕ) (m p q : ℕ) → head_numbers k ≡ h → item_numbers k ≡ w → head_at k ns i ≡ x → ((j : ℕ) → item_at k ns j ≡ f j) → i + h ≡ p → p + 1 ≡ q → m ≡ get_or ns p 0 → tlv_bytes k (x ++ run f w q m) ≡ sub_bytes (sub_at k ns i)
listed k ns i good d h w x f m p q eh ew ex ef ep eq em =
    bytes_of k (x ++ run f w q m) (sub_at k ns i)
    ((entry_listed k ns i good d).is
    ∙ rw (eh, ew, ex, ep, eq, ← em) (ap (λ (l : List ℕ). sub_of k (x ++ l)) (run_same (item_at k ns) f ef w m q)))

module _ (area : List ℕ) (i : ℕ) where
  abbrev ns : List ℕ
  ns = numbers_in area

  -- ---- Smart-Parameters

  module _ (good : reach (take_sub 22) ns i ≤ length ns) where
    pub parameters_inside : i + 2 ≤ length ns
    parameters_inside = (entry-alone 22 ns i good refl).0

    pub parameters_out : (at n : ℕ) → at + length (sub_bytes (sub_at 22 ns i)) ≤ n → at + 6 ≤ n
    parameters_out at n h = let l = alone_long 22 area i good refl in omega arith

    pub parameters_put : (o u : List ℕ) (at : ℕ) → u ≡ pasted o at (tlv_bytes 22 (parameters_bytes (parameters_at ns i))) → u ≡ pasted o at (sub_bytes (sub_at 22 ns i))
    parameters_put o u at e = e ∙ ap (pasted o at) (bytes_of 22 _ (sub_at 22 ns i) (entry-alone 22 ns i good refl).1.1)

  -- ---- nicknames

  module _ (good : reach (take_sub 6) ns i ≤ length ns) (m : ℕ) (em : m ≡ count_at 6 ns i) where
    nicknames-count : m ≡ get_or ns i 0
    unfolding count_at pick
    nicknames-count = em

    no_6 : ◌≡◌ {A = ℕ} 6 22 → ⊥
    no_6 e = omega arith

    pub nicknames_most : m ≤ 49
    nicknames_most = nicknames_few 6 area i good no_6 refl m nicknames-count

    pub nicknames-inside : i + 1 + 3 * m ≤ length ns
    nicknames-inside = let x = nicknames_end 6 area i good no_6 refl m nicknames-count in omega arith

    pub nicknames_out : (at n : ℕ) → at + length (sub_bytes (sub_at 6 ns i)) ≤ n → at + (2 + 5 * m) ≤ n
    nicknames_out at n h = let l = nicknames_long 6 area i good no_6 refl m nicknames-count in omega arith

    pub nicknames_put : (o u : List ℕ) (at : ℕ) → u ≡ pasted o at (tlv_bytes 6 (run (record_at ns) 3 (i + 1) m)) → u ≡ pasted o at (sub_bytes (sub_at 6 ns i))
    unfolding head_numbers item_numbers head_at item_at pick
    nicknames_put o u at e = e ∙ ap (pasted o at) (listed 6 ns i good no_6 0 3 [] (record_at ns) m i (i + 1) refl refl refl (λ j. refl) (omega arith) refl nicknames-count)

  -- ---- Tree Identifiers

  module _ (good : reach (take_sub 8) ns i ≤ length ns) (m : ℕ) (em : m ≡ count_at 8 ns i) where
    trees_count : m ≡ get_or ns (i + 1) 0
    unfolding count_at pick
    trees_count = em

    no_22 : ◌≡◌ {A = ℕ} 8 22 → ⊥
    no_22 e = omega arith

    not_6 : ◌≡◌ {A = ℕ} 8 6 → ⊥
    not_6 e = omega arith

    pub trees_most : m ≤ 123
    trees_most = trees_few 8 area i good no_22 not_6 refl m trees_count

    pub trees_inside : i + 2 + m ≤ length ns
    trees_inside = let x = trees_end 8 area i good no_22 not_6 refl m trees_count in omega arith

    pub trees_out : (at n : ℕ) → at + length (sub_bytes (sub_at 8 ns i)) ≤ n → at + (4 + 2 * m) ≤ n
    trees_out at n h = let l = trees_long 8 area i good no_22 not_6 refl m trees_count in omega arith

    pub trees_put : (o u : List ℕ) (at : ℕ) → u ≡ pasted o at (tlv_bytes 8 (number_at 2 ns i ++ run (number_at 2 ns) 1 (i + 2) m)) → u ≡ pasted o at (sub_bytes (sub_at 8 ns i))
    unfolding head_numbers item_numbers head_at item_at pick
    trees_put o u at e = e ∙ ap (pasted o at) (listed 8 ns i good no_22 1 1 (number_at 2 ns i) (number_at 2 ns) m (i + 1) (i + 2) refl refl refl (λ j. refl) refl (omega arith) trees_count)

  -- ---- Smart-MACs

  module _ (good : reach (take_sub 23) ns i ≤ length ns) where
    other_22 : ◌≡◌ {A = ℕ} 23 22 → ⊥
    other_22 e = omega arith

    other_6 : ◌≡◌ {A = ℕ} 23 6 → ⊥
    other_6 e = omega arith

    other_8 : ◌≡◌ {A = ℕ} 23 8 → ⊥
    other_8 e = omega arith

    pub macs_label : label_good (label_at ns i) ≡ true
    macs_label = label_good_lem 23 ns i good other_22 other_6 other_8

    module _ (m : ℕ) (em : m ≡ count_at 23 ns i) where
      macs-count : m ≡ get_or ns (i + 3) 0
      unfolding count_at pick
      macs-count = em

      pub macs_most : m ≤ 41
      macs_most = macs_few 23 area i good other_22 other_6 other_8 m macs-count

      pub macs-inside : i + 4 + m ≤ length ns
      macs-inside = let x = macs_end 23 area i good other_22 other_6 other_8 m macs-count in omega arith

      pub macs_out : (at n : ℕ) → at + length (sub_bytes (sub_at 23 ns i)) ≤ n → at + (6 + 6 * m) ≤ n
      macs_out at n h = let l = macs_long 23 area i good other_22 other_6 other_8 m macs-count in omega arith

      pub macs_put : (o u : List ℕ) (at : ℕ) → u ≡ pasted o at (tlv_bytes 23 (label_bytes (label_at ns i) ++ run (number_at 6 ns) 1 (i + 4) m)) → u ≡ pasted o at (sub_bytes (sub_at 23 ns i))
      unfolding head_numbers item_numbers head_at item_at pick
      macs_put o u at e = e ∙ ap (pasted o at) (listed 23 ns i good other_22 3 1 (label_bytes (label_at ns i)) (number_at 6 ns) m (i + 3) (i + 4) refl refl refl (λ j. refl) refl (omega arith) macs-count)
