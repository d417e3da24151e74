-- Labels and MACs that are meant, as numbers that are named.
-- Assumes nothing.
use Prim.Native.Nat.{ℕ}
use mathlib.Core.Bool.{Bool, true, false, not}
use mathlib.Core.List.{List, [], ◌∷◌}
use mathlib.Core.Path.{◌≡◌, refl, sym, ap, ◌∙◌}
use native.Mathlib.Decide.{ℕ_discrete}
use lib.Dec.{eqb}
use borrow.Author.Tests.{ne_eqb}
use Rattle.numbers.specs.Tests.{pick, both, either, any_of}
use Rattle.numbers.specs.Numberings.{fines, macs, in_blocks, in_list, in_map}
use Rattle.numbers.proofs.Truth.{either_swap}
use Rattle.table.specs.Record.{record_of, kind_of, label_of, mac_of}
use Rattle.table.specs.declared.Label.TheVariants as label
use Rattle.flush.specs.Payload.{every_type, Piece, tlv, block, stump, tlvs, pieces_of}
use Rattle.flush.specs.Meaning.{fine_in, brings_label, label_meant, mac_in, brings_mac, gathers_mac, mac_meant}
use Rattle.flush_parts.specs.Named.{named_in, named_of}
use Rattle.flush_marks.specs.Marks.{Filtered}
use Rattle.flush_marks.specs.Filters.{is_type, fine_slot, slot_addressed}
use Rattle.flush_marks.proofs.Filters.{filter-all, filtered_same}
use Rattle.flush_keys.specs.Keys.{number_in, applies_to}
use Rattle.flush_keys.specs.declared.Field.TheVariants.{Fine, Mac}
use Rattle.flush_filters.specs.Numbers.{naming_of, slot_passes}

-- ---- fine-grained labels

-- a piece brings a label as type 6, or it names it
piece_apart : (x : ℕ) (p : Piece) → brings_label every_type (label.Fine x) p ≡ either (is_type 6 p) (named_in (naming_of Fine) p x)
unfolding brings_label fine_in is_type named_in naming_of both either pick
piece_apart x (tlv k v) = go (eqb k 6) (pick (eqb k 3) (in_blocks fines x v) (pick (eqb k 4) (in_list fines x v) (pick (eqb k 5) (in_map fines x v) false)))
  where
    go : (a b : Bool) → pick a true b ≡ either a b
    go true b = refl
    go false b = refl
piece_apart x (block b) = refl
piece_apart x stump = refl

fines-apart : (x : ℕ) (ps : List Piece) → label_meant every_type ps (label.Fine x) ≡ either (any_of (is_type 6) ps) (named_of (naming_of Fine) ps x)
unfolding label_meant named_of any_of either
fines-apart x [] = refl
fines-apart x (p ∷ ps) =
    ap (λ (b : Bool). either b (any_of (brings_label every_type (label.Fine x)) ps)) (piece_apart x p)
    ∙ ap (either (either (is_type 6 p) (named_in (naming_of Fine) p x))) (fines-apart x ps)
    ∙ either_swap (is_type 6 p) (named_in (naming_of Fine) p x) (any_of (is_type 6) ps) _

not_twice : (b : Bool) → not (not b) ≡ b
not_twice true = refl
not_twice false = refl

pub fines_kept : (ps : List Piece) → any_of (is_type 6) ps ≡ false → (t a b : List ℕ) → Filtered (slot_passes Fine ps) t a b → Filtered (fine_slot ps) t a b
unfolding slot_passes fine_slot applies_to number_in either
fines_kept ps none t a b f = filtered_same _ _ t a b (λ r. rw (not_twice (eqb (kind_of (record_of r)) 0), fines-apart (label_of (record_of r)) ps, none)) f

-- ---- MACs

mac_is : (m : ℕ) (p : Piece) → brings_mac every_type m p ≡ named_in (naming_of Mac) p m
unfolding brings_mac mac_in named_in naming_of both pick
mac_is m (tlv k v) = go (ℕ_discrete k 7)
  where
    go : Dec (k ≡ 7) → pick (eqb k 7) (in_list macs m v) (pick (eqb k 8) (in_blocks macs m v) false) ≡ pick (eqb k 8) (in_blocks macs m v) (pick (eqb k 7) (in_list macs m v) false)
    go (yes e) = rw e
    go (no d) = rw (ne_eqb k 7 d)
mac_is m (block b) = refl
mac_is m stump = refl

macs_are : (m : ℕ) (ps : List Piece) → any_of (brings_mac every_type m) ps ≡ named_of (naming_of Mac) ps m
unfolding named_of any_of
macs_are m [] = refl
macs_are m (p ∷ ps) = rw (mac_is m p, macs_are m ps)

-- K-VLBs is 0
of_none : (l : List ℕ) → pieces_of 0 l ≡ tlvs l
unfolding pieces_of pick
of_none l = refl

module _ (l : List ℕ) (g : Bool) (gathered : g ≡ any_of (gathers_mac every_type) (pieces_of 0 l)) where
  pub macs_kept : g ≡ true → (t a b : List ℕ) → Filtered (slot_passes Mac (tlvs l)) t a b → Filtered (slot_addressed (tlvs l)) t a b
  unfolding slot_passes slot_addressed applies_to number_in mac_meant either
  macs_kept some t a b f = filtered_same _ _ t a b (λ r. rw (← of_none l, ← gathered, some) (sym (macs_are (mac_of (record_of r)) (pieces_of 0 l)))) f

  -- where no MAC was gathered every slot passes
  pub every_mac : g ≡ false → (t m : List ℕ) → Filtered (slot_addressed (tlvs l)) t m m
  unfolding slot_addressed mac_meant either
  every_mac none t m = rw (of_none l) at (filter-all (slot_addressed (pieces_of 0 l)) t m (λ r. rw (← gathered, none)))
