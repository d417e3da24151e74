-- Laws of the small model's marks: what was noted at its types, and that the first pass tests what it means.
-- Assumes nothing.
use Prim.Native.Nat.{ℕ, zero, suc, ◌+◌, ◌*◌}
use mathlib.Core.Bool.{Bool, true, false}
use mathlib.Core.List.{List, [], ◌∷◌}
use mathlib.Core.Logic.{⊎_elim}
use mathlib.Core.Path.{◌≡◌, refl, sym, ap, ◌∙◌}
use lib.Dec.{eqb}
use lib.ListN.{length, drop, take-append-drop}
use borrow.Author.Tests.{eq-eqb}
use Rattle.numbers.specs.Tests.{pick, both, either, any_of}
use Rattle.numbers.specs.After.{on_table}
use Rattle.numbers.proofs.Truth.{both_left, both_right, either_neither, false_true}
use Rattle.table.specs.Record.{record_of, kind_of, label_of, mac_of, nickname_of, vlan_kind, label_from, entry_of, unpacked, is_learned}
use Rattle.table.specs.Slots.{slot_bytes, slots_of, slot_at, put_slot, on_slots, count_slots}
use Rattle.table.specs.declared.Label.{Label}
use Rattle.table.specs.declared.Label.TheVariants.{Fine}
use Rattle.table.specs.declared.Slot.{Slot}
use Rattle.table.specs.declared.Slot.TheVariants.{Free, Spoilt, Learned, Configured}
use Rattle.table.proofs.Contents.{learned_entry_lem}
use Rattle.flush.specs.Payload.{every_type, vlan_types, Piece, tlv, block, stump, tlv_end, tlvs_from, tlvs, pieces_of, Payload}
use Rattle.flush.specs.Meaning.{label_in, fine_in, brings_label, nickname_meant, label_meant, entry_meant}
use Rattle.flush.specs.Flush.{held_meant, slot_meant, cleared_slot, cleared_by}
use Rattle.flush.proofs.Flushing.{cleared_miss}
use Rattle.flush_payload.specs.Judging.{every_kind, list_kind, map_kind, of_kind, Noted}
use Rattle.flush_payload.specs.Judging as judging
use Rattle.flush_payload.specs.declared.Kinds.{Kinds}
use Rattle.flush_vlans.specs.Vlans.{VlansNoted}
use Rattle.flush_marks.specs.Filters.{slot_named}
use Rattle.flush_nicknames.specs.First.{kind_meant, fine_noted, slot_first, FirstPass}
use Rattle.flush_call.specs.Clearing.{payload_from}
use Rattle.flush_call.proofs.Tests.{any_passes, every_fine}
use Rattle.models.proofs.Meaning.{any_same, label_same, every_mac, small_types_lem}

-- ---- the types that both models implement

by_every : (a b c : Bool) → both (either a (either b c)) c ≡ c
unfolding both either
by_every true b c = refl
by_every false true c = refl
by_every false false true = refl
by_every false false false = refl

by_vlans : (a b c : Bool) → both (either a (either b c)) (either a b) ≡ either a b
unfolding both either
by_vlans true b c = refl
by_vlans false true c = refl
by_vlans false false true = refl
by_vlans false false false = refl

every_same : (x : Piece) → of_kind vlan_types every_kind x ≡ of_kind every_type every_kind x
unfolding of_kind both
every_same (tlv k v) = by_every (eqb k 1) (eqb k 2) (eqb k 6)
every_same (block b) = refl
every_same stump = refl

vlans_same : (x : Piece) → of_kind vlan_types judging.vlan_kind x ≡ of_kind every_type judging.vlan_kind x
unfolding of_kind both
vlans_same (tlv k v) = by_vlans (eqb k 1) (eqb k 2) (eqb k 6)
vlans_same (block b) = refl
vlans_same stump = refl

-- ---- the others

none_of : (p : Piece → Bool) → ((x : Piece) → p x ≡ false) → (ps : List Piece) → any_of p ps ≡ false
unfolding any_of either
none_of p e [] = refl
none_of p e (x ∷ ps) = rw (e x) (none_of p e ps)

-- of a type that the small model implements a test can be worked out
by_type : (k : ℕ) (y z : Bool) → (k ≡ 1 → y ≡ z) → (k ≡ 2 → y ≡ z) → (k ≡ 6 → y ≡ z) → (b : Bool) → vlan_types k ≡ b → both b y ≡ both b z
unfolding both
by_type k y z one two six true e = ⊎_elim one (λ q. ⊎_elim two six q) (small_types_lem k e)
by_type k y z one two six false e = refl

lists_none : (x : Piece) → of_kind vlan_types list_kind x ≡ false
unfolding of_kind both either
lists_none (tlv k v) = by_type k (list_kind k) false (λ e. rw e) (λ e. rw e) (λ e. rw e) (vlan_types k) refl ∙ both_false (vlan_types k)
  where
    both_false : (b : Bool) → both b false ≡ false
    both_false true = refl
    both_false false = refl
lists_none (block b) = refl
lists_none stump = refl

maps_none : (x : Piece) → of_kind vlan_types map_kind x ≡ false
unfolding of_kind both
maps_none (tlv k v) = by_type k (map_kind k) false (λ e. rw e) (λ e. rw e) (λ e. rw e) (vlan_types k) refl ∙ both_false (vlan_types k)
  where
    both_false : (b : Bool) → both b false ≡ false
    both_false true = refl
    both_false false = refl
maps_none (block b) = refl
maps_none stump = refl

fine_same : (n : ℕ) (x : Piece) → of_kind vlan_types every_kind x ≡ brings_label vlan_types (Fine n) x
unfolding of_kind brings_label fine_in pick both
fine_same n (tlv k v) = by_type k (every_kind k) (fine_in n k v) (λ e. rw e) (λ e. rw e) (λ e. rw e) (vlan_types k) refl
fine_same n (block b) = refl
fine_same n stump = refl

-- a piece of all labels brings every one
every_means : (x : ℕ) (ps : List Piece) → any_of (of_kind every_type every_kind) ps ≡ true → label_meant every_type ps (Fine x) ≡ true
unfolding label_meant
every_means x ps e = any_passes _ _ (every_fine x) ps e

-- ---- what was noted

module _ (n : ℕ) (r : List ℕ) (f : Kinds) (noted : Noted vlan_types n (pieces_of n r) f) where
  abbrev ps : List Piece
  ps = pieces_of n r

  pub vlans_noted : VlansNoted ps f
  vlans_noted = record { every = noted.every ∙ any_same _ _ every_same ps; vlans = noted.vlans ∙ any_same _ _ vlans_same ps }

  every_noted : fine_noted f ≡ f.every
  unfolding either
  every_noted =
      let lists : f.lists ≡ false = noted.lists ∙ none_of _ lists_none ps in
      let maps : f.maps ≡ false = noted.maps ∙ none_of _ maps_none ps in
      rw (lists, maps) (either_none f.every)
    where
      either_none : (a : Bool) → either a false ≡ a
      either_none true = refl
      either_none false = refl

  fine_exact : (x : ℕ) → fine_noted f ≡ label_meant vlan_types ps (Fine x)
  unfolding label_meant
  fine_exact x = every_noted ∙ noted.every ∙ any_same _ _ (fine_same x) ps

  -- all labels may be meant, or no fine-grained one
  near_exact : (nicks : ℕ → Bool) (from count : ℕ) (t m : List ℕ) (first : FirstPass nicks ps (fine_noted f) from count t m) → (x : ℕ) (b : Bool) → fine_noted f ≡ b → first.near x ≡ label_meant vlan_types ps (Fine x)
  near_exact nicks from count t m first x true e =
      first.all e x (every_means x ps (sym vlans_noted.every ∙ sym every_noted ∙ e)) ∙ sym e ∙ fine_exact x
  near_exact nicks from count t m first x false e = first.none e x ∙ sym e ∙ fine_exact x

  label_exact : (near : ℕ → Bool) → ((x : ℕ) → near x ≡ label_meant vlan_types ps (Fine x)) → (s : List ℕ) (b : Bool) → eqb (kind_of (record_of s)) vlan_kind ≡ b → kind_meant ps near s ≡ label_meant vlan_types ps (label_from (kind_of (record_of s)) (label_of (record_of s)))
  unfolding kind_meant label_from pick
  label_exact near same s true e = rw e (sym (label_same (label_of (record_of s)) ps))
  label_exact near same s false e = rw e (same (label_of (record_of s)))

  -- ---- a slot is meant exactly if it passes the first pass

  module _ (nicks : List ℕ) (ingress : ℕ) where
    abbrev p : Payload
    p = payload_from nicks n r

    not_learned : (s : Slot) → is_learned s ≡ false → held_meant vlan_types p ingress s ≡ false
    not_learned Free e = refl
    not_learned Spoilt e = refl
    not_learned (Learned x) e = false_true (sym e)
    not_learned (Configured x) e = refl

    by_learned : (s : List ℕ) (b : Bool) → is_learned (unpacked s) ≡ b → slot_meant vlan_types p ingress s ≡ both b (entry_meant vlan_types p ingress (entry_of (record_of s)))
    unfolding slot_meant entry_meant both
    by_learned s true e = ap (held_meant vlan_types p ingress) (learned_entry_lem s e)
    by_learned s false e = not_learned (unpacked s) e

    three : (a b c : Bool) → both (both a b) c ≡ both a (both b (both c true))
    unfolding both
    three true true true = refl
    three true true false = refl
    three true false c = refl
    three false b c = refl

    pub first_exact : (from count : ℕ) (t m : List ℕ) (first : FirstPass (nickname_meant ingress nicks) ps (fine_noted f) from count t m) (s : List ℕ) → slot_first (nickname_meant ingress nicks) ps first.near s ≡ slot_meant vlan_types p ingress s
    unfolding slot_first slot_named entry_meant entry_of
    first_exact from count t m first s =
        let learned : Bool = is_learned (unpacked s) in
        let named : Bool = nickname_meant ingress nicks (nickname_of (record_of s)) in
        three learned named (kind_meant ps first.near s)
        ∙ ap (λ (c : Bool). both learned (both named (both c true))) (label_exact first.near (λ x. near_exact _ from count t m first x _ refl) s _ refl)
        ∙ ap (λ (c : Bool). both learned (both named (both (label_meant vlan_types ps (label_from (kind_of (record_of s)) (label_of (record_of s)))) c))) (sym (every_mac ps (mac_of (record_of s))))
        ∙ sym (by_learned s (is_learned (unpacked s)) refl)

-- ---- TLVs of other types bring no label

abbrev none_meant : Label → List Piece → Type 0
none_meant x ps = any_of (of_kind vlan_types every_kind) ps ≡ false → any_of (of_kind vlan_types judging.vlan_kind) ps ≡ false → any_of (brings_label vlan_types x) ps ≡ false

skipped : (k : ℕ) → both (vlan_types k) (every_kind k) ≡ false → both (vlan_types k) (judging.vlan_kind k) ≡ false → vlan_types k ≡ false
unfolding either
skipped k e v =
    let six : eqb k 6 ≡ false = sym (by_every (eqb k 1) (eqb k 2) (eqb k 6)) ∙ e in
    let two = either_neither (eqb k 1) (eqb k 2) (sym (by_vlans (eqb k 1) (eqb k 2) (eqb k 6)) ∙ v) in
    rw (two.0, two.1, six)

none_case : (x : Label) (a b : Bool) (k : ℕ) (v : List ℕ) (ps : List Piece) → none_meant x ps → none_meant x (pick a [] (pick b (tlv k v ∷ ps) (stump ∷ [])))
unfolding pick any_of of_kind either brings_label
none_case x true b k v ps later e g = refl
none_case x false false k v ps later e g = refl
none_case x false true k v ps later e g =
    let every = either_neither (both (vlan_types k) (every_kind k)) _ e in
    let vlans = either_neither (both (vlan_types k) (judging.vlan_kind k)) _ g in
    rw (both_left (vlan_types k) (label_in x k v) (skipped k every.0 vlans.0)) (later every.1 vlans.1)

tlvs_none : (x : Label) (n : ℕ) (l : List ℕ) → none_meant x (tlvs_from n l)
unfolding tlvs_from any_of
tlvs_none x zero l e g = refl
tlvs_none x (suc n) l e g = none_case x _ _ _ _ (tlvs_from n (drop (tlv_end l) l)) (tlvs_none x n (drop (tlv_end l) l)) e g

module _ (n : ℕ) (r : List ℕ) (f : Kinds) (noted : Noted vlan_types n (pieces_of n r) f) (z : n ≡ 0) (every : f.every ≡ false) (vlans : f.vlans ≡ false) (nicks : List ℕ) (ingress : ℕ) where
  label_none : (x : Label) → label_meant vlan_types (pieces_of n r) x ≡ false
  unfolding label_meant pieces_of pick tlvs
  label_none x =
      let e = sym noted.every ∙ every in
      let g = sym noted.vlans ∙ vlans in
      rw (eq-eqb n 0 z) (tlvs_none x (length r) r (rw (eq-eqb n 0 z) at e) (rw (eq-eqb n 0 z) at g))

  pub slot_none : (s : List ℕ) → slot_meant vlan_types (payload_from nicks n r) ingress s ≡ false
  unfolding entry_meant
  slot_none s =
      by_learned n r f noted nicks ingress s (is_learned (unpacked s)) refl
      ∙ both_right (is_learned (unpacked s)) _ (both_right (nickname_meant ingress nicks (entry_of (record_of s)).nickname) _ (both_left _ _ (label_none (entry_of (record_of s)).label)))

-- ---- where nothing is meant nothing is cleared

put_back : (u : List ℕ) (k : ℕ) → put_slot k (slot_at k u) u ≡ u
put_back u k = rw (take-append-drop slot_bytes (drop (slot_bytes * k) u)) (take-append-drop (slot_bytes * k) u)

module _ (meant : List ℕ → Bool) (none : (s : List ℕ) → meant s ≡ false) (t : List ℕ) where
  on_none : (n : ℕ) → on_slots (cleared_slot meant) 0 n t ≡ t
  unfolding on_slots
  on_none zero = refl
  on_none (suc n) = rw (on_none n, cleared_miss meant (slot_at (0 + n) t) (none (slot_at (0 + n) t))) (put_back t (0 + n))

  count_none : (n : ℕ) → count_slots meant 0 n t ≡ 0
  unfolding count_slots pick
  count_none zero = refl
  count_none (suc n) = rw (count_none n, none (slot_at (0 + n) t))

  pub none_cleared : on_table 0 t ≡ cleared_by meant t
  unfolding cleared_by
  none_cleared = rw (on_none (slots_of t), count_none (slots_of t))
