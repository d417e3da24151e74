-- Laws of the filters in a row: what the kinds that were noted say of labels and MACs, and that a slot is meant exactly if it passes all
-- filters.
-- Assumes nothing.
use Prim.Native.Nat.{ℕ}
use mathlib.Core.Bool.{Bool, true, false, not, ◌||◌}
use mathlib.Core.List.{List, [], ◌∷◌}
use mathlib.Core.Path.{◌≡◌, refl, sym, ap, ◌∙◌}
use native.Mathlib.Decide.{ℕ_discrete}
use lib.Dec.{eqb}
use borrow.Author.Tests.{eq-eqb}
use Rattle.numbers.specs.Tests.{pick, both, either, any_of}
use Rattle.numbers.proofs.Truth.{or_either, either_neither, either-all, false_true, either_passes}
use Rattle.table.specs.Record.{record_of, kind_of, label_of, mac_of, nickname_of, label_from, entry_of, unpacked, is_learned}
use Rattle.table.specs.Slots.{slots_of}
use Rattle.table.specs.declared.Label.TheVariants.{Vlan, Fine}
use Rattle.table.specs.declared.Slot.{Slot}
use Rattle.table.specs.declared.Slot.TheVariants.{Free, Spoilt, Learned, Configured}
use Rattle.table.proofs.Contents.{learned_entry_lem}
use Rattle.flush.specs.Payload.{every_type, Piece, tlv, block, stump, tlvs, pieces_of, Payload}
use Rattle.flush.specs.Meaning.{fine_in, some_mac_in, brings_label, gathers_mac, nickname_meant, label_meant, mac_meant, entry_meant}
use Rattle.flush.specs.Flush.{held_meant, slot_meant}
use Rattle.flush_payload.specs.Judging.{every_kind, list_kind, map_kind, mac_kind, of_kind, Noted}
use Rattle.flush_payload.specs.declared.Kinds.{Kinds}
use Rattle.flush_payload.proofs.Laws.{none_brought}
use Rattle.flush_vlans.specs.Vlans.{VlansNoted}
use Rattle.flush_marks.specs.Marks.{Unmarked, Filtered, Chosen}
use Rattle.flush_marks.specs.Filters.{is_type, slot_named, slot_labelled, slot_addressed, fine_slot, Within}
use Rattle.flush_marks.proofs.Filters.{filter-all, filter_unmarked, filtered_same, chosen_filtered, chosen_same}
use Rattle.flush_nicknames.specs.First.{kind_meant, fine_noted, slot_first, FirstPass}
use Rattle.flush_call.specs.Clearing.{payload_from, fine_left}

-- ---- tests of some piece

module _ (p q : Piece → Bool) where
  any_same : ((x : Piece) → p x ≡ q x) → (ps : List Piece) → any_of p ps ≡ any_of q ps
  unfolding any_of
  any_same e [] = refl
  any_same e (x ∷ ps) = rw (e x, any_same e ps)

  pub any_passes : ((x : Piece) → p x ≡ true → q x ≡ true) → (ps : List Piece) → any_of p ps ≡ true → any_of q ps ≡ true
  unfolding any_of
  any_passes e [] h = h
  any_passes e (x ∷ ps) h = either_passes (p x) (any_of p ps) (q x) (any_of q ps) (e x) (any_passes e ps) h

-- ---- what was noted

every_type_lem : (x : Piece) → of_kind every_type every_kind x ≡ is_type 6 x
unfolding of_kind is_type both
every_type_lem (tlv k v) = refl
every_type_lem (block b) = refl
every_type_lem stump = refl

-- a piece of no kind of fine-grained labels brings none
not_fine : (x : ℕ) (p : Piece) → of_kind every_type every_kind p ≡ false → of_kind every_type list_kind p ≡ false → of_kind every_type map_kind p ≡ false → brings_label every_type (Fine x) p ≡ false
unfolding of_kind brings_label fine_in both pick
not_fine x (tlv k v) a b c =
    let l = either_neither (eqb k 3) (eqb k 4) b in
    rw (a, l.0, l.1, c)
not_fine x (block b) e f g = refl
not_fine x stump e f g = refl

pub none_fine : (x : ℕ) (ps : List Piece) → any_of (of_kind every_type every_kind) ps ≡ false → any_of (of_kind every_type list_kind) ps ≡ false → any_of (of_kind every_type map_kind) ps ≡ false → any_of (brings_label every_type (Fine x)) ps ≡ false
unfolding any_of either
none_fine x [] a b c = refl
none_fine x (p ∷ ps) a b c =
    let e = either_neither (of_kind every_type every_kind p) (any_of (of_kind every_type every_kind) ps) a in
    let l = either_neither (of_kind every_type list_kind p) (any_of (of_kind every_type list_kind) ps) b in
    let m = either_neither (of_kind every_type map_kind p) (any_of (of_kind every_type map_kind) ps) c in
    rw (not_fine x p e.0 l.0 m.0) (none_fine x ps e.1 l.1 m.1)

-- a piece of all labels brings every one
pub every_fine : (x : ℕ) (p : Piece) → of_kind every_type every_kind p ≡ true → brings_label every_type (Fine x) p ≡ true
unfolding of_kind brings_label fine_in both pick
every_fine x (tlv k v) e = rw e
every_fine x (block b) e = e
every_fine x stump e = e

-- a piece of no kind of MACs gathers none
not_gathers : (p : Piece) → of_kind every_type mac_kind p ≡ false → gathers_mac every_type p ≡ false
unfolding of_kind gathers_mac some_mac_in both pick
not_gathers (tlv k v) e = let m = either_neither (eqb k 7) (eqb k 8) e in rw (m.0, m.1)
not_gathers (block b) e = refl
not_gathers stump e = refl

pub none_gathers : (ps : List Piece) → any_of (of_kind every_type mac_kind) ps ≡ false → any_of (gathers_mac every_type) ps ≡ false
unfolding any_of either
none_gathers [] e = refl
none_gathers (p ∷ ps) e =
    let m = either_neither (of_kind every_type mac_kind p) (any_of (of_kind every_type mac_kind) ps) e in
    rw (not_gathers p m.0) (none_gathers ps m.1)

of_block : (kind : ℕ → Bool) (b : List ℕ) → of_kind every_type kind (block b) ≡ false
unfolding of_kind
of_block kind b = refl

both-passed : (a b c : Bool) → both a (either (not b) (either true c)) ≡ a
unfolding both either
both-passed true true c = refl
both-passed true false c = refl
both-passed false b c = refl

either_skip : (a : Bool) → either false a ≡ a
unfolding either
either_skip a = refl

both_assoc : (a b c : Bool) → both (both a b) c ≡ both a (both b c)
unfolding both
both_assoc true b c = refl
both_assoc false b c = refl

-- ---- nickname, label and MAC

module _ (p : Payload) (ingress : ℕ) where
  not_learned : (s : Slot) → is_learned s ≡ false → held_meant every_type p ingress s ≡ false
  not_learned Free e = refl
  not_learned Spoilt e = refl
  not_learned (Learned x) e = false_true (sym e)
  not_learned (Configured x) e = refl

  pub by_learned : (r : List ℕ) (b : Bool) → is_learned (unpacked r) ≡ b → slot_meant every_type p ingress r ≡ both b (entry_meant every_type p ingress (entry_of (record_of r)))
  unfolding slot_meant entry_meant both
  by_learned r true e = ap (held_meant every_type p ingress) (learned_entry_lem r e)
  by_learned r false e = not_learned (unpacked r) e

  four_assoc : (a b c d : Bool) → both (both (both a b) c) d ≡ both a (both b (both c d))
  unfolding both
  four_assoc true true c d = refl
  four_assoc true false c d = refl
  four_assoc false b c d = refl

  pub three_tests : (r : List ℕ) → both (both (slot_named (nickname_meant ingress p.nicks) r) (slot_labelled p.pieces r)) (slot_addressed p.pieces r) ≡ slot_meant every_type p ingress r
  unfolding slot_named slot_labelled slot_addressed entry_meant entry_of
  three_tests r =
      four_assoc (is_learned (unpacked r)) (nickname_meant ingress p.nicks (nickname_of (record_of r))) (label_meant every_type p.pieces (label_from (kind_of (record_of r)) (label_of (record_of r)))) (mac_meant every_type p.pieces (mac_of (record_of r)))
      ∙ sym (by_learned r (is_learned (unpacked r)) refl)

module _ (n : ℕ) (r : List ℕ) (f : Kinds) (noted : Noted every_type n (pieces_of n r) f) where
  pub vlans_noted : VlansNoted (pieces_of n r) f
  vlans_noted = record { every = noted.every; vlans = noted.vlans }

  -- only TLVs are of a kind
  of_blocks : (kind : ℕ → Bool) → any_of (of_kind every_type kind) (pieces_of n r) ≡ true → n ≡ 0
  of_blocks kind e = go (ℕ_discrete n 0)
    where
      block_none : (b : List ℕ) → of_kind every_type kind (block b) ≡ false
      block_none b = of_block kind b

      go : Dec (n ≡ 0) → n ≡ 0
      go (yes z) = z
      go (no d) = false_true (none_brought (of_kind every_type kind) n r d block_none ∙ e)

  pieces-tlvs : n ≡ 0 → pieces_of n r ≡ tlvs r
  unfolding pieces_of pick
  pieces-tlvs z = rw (eq-eqb n 0 z)

  -- ---- fine-grained labels

  pub labels_every : f.every ≡ true → (t m : List ℕ) → Filtered (fine_left (fine_noted f) (pieces_of n r)) t m m
  unfolding fine_left fine_slot label_meant
  labels_every e t m =
      filter-all (fine_left (fine_noted f) (pieces_of n r)) t m (λ s.
      rw (any_passes _ _ (every_fine (label_of (record_of s))) (pieces_of n r) (sym noted.every ∙ e), either-all (eqb (kind_of (record_of s)) 0)) (either-all (not (fine_noted f))))

  pub labels_none : f.every ≡ false → f.lists || f.maps ≡ false → (t m : List ℕ) → Filtered (fine_left (fine_noted f) (pieces_of n r)) t m m
  unfolding fine_left either
  labels_none e h t m =
      let g : either f.lists f.maps ≡ false = sym (or_either f.lists f.maps) ∙ h in
      filter-all (fine_left (fine_noted f) (pieces_of n r)) t m (λ s. rw (e, g))

  module _ (e : f.every ≡ false) (h : f.lists || f.maps ≡ true) where
    some_kind : (a b : Bool) → f.lists ≡ a → f.maps ≡ b → either a b ≡ true → n ≡ 0
    unfolding either
    some_kind true b l m q = of_blocks list_kind (sym noted.lists ∙ l)
    some_kind false true l m q = of_blocks map_kind (sym noted.maps ∙ m)
    some_kind false false l m q = false_true q

    no_blocks : n ≡ 0
    no_blocks = some_kind _ _ refl refl (sym (or_either f.lists f.maps) ∙ h)

    pub none_every : any_of (is_type 6) (tlvs r) ≡ false
    none_every = ap (any_of (is_type 6)) (sym (pieces-tlvs no_blocks)) ∙ sym (any_same _ _ every_type_lem (pieces_of n r)) ∙ sym noted.every ∙ e

    pub labels_kept : (t a b : List ℕ) → Filtered (fine_slot (tlvs r)) t a b → Filtered (fine_left (fine_noted f) (pieces_of n r)) t a b
    unfolding fine_left either
    labels_kept t a b g =
        let q : either f.lists f.maps ≡ true = sym (or_either f.lists f.maps) ∙ h in
        filtered_same _ _ t a b (λ s. rw (e, q, pieces-tlvs no_blocks)) g

  -- ---- MACs

  pub macs_none : f.macs ≡ false → (t m : List ℕ) → Filtered (slot_addressed (pieces_of n r)) t m m
  unfolding slot_addressed mac_meant either
  macs_none e t m =
      filter-all (slot_addressed (pieces_of n r)) t m (λ s. rw (none_gathers (pieces_of n r) (sym noted.macs ∙ e)))

  pub macs_kept : f.macs ≡ true → (t a b : List ℕ) → Filtered (slot_addressed (tlvs r)) t a b → Filtered (slot_addressed (pieces_of n r)) t a b
  macs_kept e t a b g = rw (pieces-tlvs (of_blocks mac_kind (sym noted.macs ∙ e))) g

  -- ---- the label by its kind, and what is left of it

  -- all that are meant may be
  covered : (a b : Bool) → (b ≡ true → a ≡ true) → both a b ≡ b
  unfolding both
  covered true b g = refl
  covered false true g = false_true (g refl)
  covered false false g = refl

  module _ (ingress : ℕ) (nicks : List ℕ) (from count : ℕ) (t : List ℕ) (within : Within from count t) (a : List ℕ) (first : FirstPass (nickname_meant ingress nicks) (pieces_of n r) (fine_noted f) from count t a) where
    fine_exact : (x : ℕ) (b : Bool) → fine_noted f ≡ b → both (first.near x) (either (not b) (label_meant every_type (pieces_of n r) (Fine x))) ≡ label_meant every_type (pieces_of n r) (Fine x)
    unfolding both either label_meant
    fine_exact x true e = covered (first.near x) (label_meant every_type (pieces_of n r) (Fine x)) (first.all e x)
    fine_exact x false e =
        let a = either_neither f.every (either f.lists f.maps) e in
        let b = either_neither f.lists f.maps a.1 in
        rw (first.none e x) (sym (none_fine x (pieces_of n r) (sym noted.every ∙ a.0) (sym noted.lists ∙ b.0) (sym noted.maps ∙ b.1)))

    label_exact : (s : List ℕ) (b : Bool) → eqb (kind_of (record_of s)) 0 ≡ b → both (kind_meant (pieces_of n r) first.near s) (fine_left (fine_noted f) (pieces_of n r) s) ≡ slot_labelled (pieces_of n r) s
    unfolding kind_meant fine_left fine_slot slot_labelled label_from pick
    label_exact s true e = rw e (both-passed (label_meant every_type (pieces_of n r) (Vlan (label_of (record_of s)))) (fine_noted f) (label_meant every_type (pieces_of n r) (Fine (label_of (record_of s)))))
    label_exact s false e = rw (e, either_skip _) (fine_exact (label_of (record_of s)) (fine_noted f) refl)

    -- ---- a slot is meant exactly if it passes all filters

    filters_exact : (s : List ℕ) → both (both (slot_first (nickname_meant ingress nicks) (pieces_of n r) first.near s) (fine_left (fine_noted f) (pieces_of n r) s)) (slot_addressed (pieces_of n r) s) ≡ slot_meant every_type (payload_from nicks n r) ingress s
    unfolding slot_first
    filters_exact s =
        ap (λ (b : Bool). both b (slot_addressed (pieces_of n r) s)) (both_assoc (slot_named (nickname_meant ingress nicks) s) _ _ ∙ ap (both (slot_named (nickname_meant ingress nicks) s)) (label_exact s _ refl))
        ∙ three_tests (payload_from nicks n r) ingress s

    pub filters_in_row : (b : List ℕ) → Filtered (fine_left (fine_noted f) (pieces_of n r)) t a b → (c : List ℕ) → Filtered (slot_addressed (pieces_of n r)) t b c
        → Chosen (slot_meant every_type (payload_from nicks n r) ingress) from count t c
    filters_in_row b labels c macs =
        let two = chosen_filtered _ _ from count t a b within.room first.chosen labels in
        let three = chosen_filtered _ _ from count t b c within.room two macs in
        chosen_same _ _ from count t c filters_exact three

    -- where the first pass leaves no mark the others have nothing to do
    pub none_left : (g : Bool) → (g ≡ false → Unmarked a 0 (slots_of t)) → g ≡ false → Chosen (slot_meant every_type (payload_from nicks n r) ingress) from count t a
    none_left g told e = filters_in_row a (filter_unmarked _ t a (told e)) a (filter_unmarked _ t a (told e))
