-- Laws of clearing by a walk: what was noted of a good payload says what its pieces mean.
-- Assumes nothing.
use Prim.Native.Nat.{ℕ, zero, suc, ◌+◌}
use mathlib.Core.Bool.{Bool, true, false}
use mathlib.Core.List.{List}
use mathlib.Core.Path.{◌≡◌, refl, sym, ◌∙◌}
use lib.Dec.{eqb}
use Rattle.numbers.specs.Tests.{pick, both, either}
use Rattle.numbers.proofs.Truth.{either_neither}
use Rattle.table.specs.Record.{record_of, kind_of, label_of, mac_of, vlan_kind, label_from, entry_of, unpacked, is_learned}
use Rattle.table.specs.Slots.{slot_at, on_slots, count_slots}
use Rattle.table.specs.declared.Label.TheVariants.{Fine}
use Rattle.flush.specs.Payload.{every_type, Piece, pieces_of}
use Rattle.flush.specs.Meaning.{label_meant, mac_meant, entry_meant}
use Rattle.flush.specs.Flush.{slot_meant, cleared_slot}
use Rattle.flush_payload.specs.Judging.{Noted}
use Rattle.flush_payload.specs.declared.Kinds.{Kinds}
use Rattle.flush_marks.specs.Marks.{cleared_in, swept_in}
use Rattle.flush_walk.specs.Noted.{label_noted, mac_noted, slot_noted}
use Rattle.flush_call.specs.Clearing.{payload_from}
use Rattle.flush_call.proofs.Tests.{any_passes, every_fine, none_fine, none_gathers, by_learned}

-- ---- two tests that say the same clear the same

module _ (p q : List ℕ → Bool) (same : (r : List ℕ) → p r ≡ q r) (from : ℕ) (t : List ℕ) where
  on_same : (n : ℕ) → on_slots (cleared_slot p) from n t ≡ on_slots (cleared_slot q) from n t
  unfolding on_slots cleared_slot
  on_same zero = refl
  on_same (suc n) = rw (same (slot_at (from + n) t), on_same n)

  count_same : (n : ℕ) → count_slots p from n t ≡ count_slots q from n t
  unfolding count_slots
  count_same zero = refl
  count_same (suc n) = rw (same (slot_at (from + n) t), count_same n)

  pub swept_same : (n : ℕ) → swept_in p from n t ≡ swept_in q from n t
  unfolding swept_in cleared_in
  swept_same n = rw (on_same n, count_same n)

-- ---- what was noted

module _ (n : ℕ) (r : List ℕ) (f : Kinds) (noted : Noted every_type n (pieces_of n r) f) where
  abbrev ps : List Piece
  ps = pieces_of n r

  -- no TLV names a fine-grained label
  fine_every : (x : ℕ) → either f.lists f.maps ≡ false → (b : Bool) → f.every ≡ b → b ≡ label_meant every_type ps (Fine x)
  unfolding label_meant
  fine_every x h true e = sym (any_passes _ _ (every_fine x) ps (sym noted.every ∙ e))
  fine_every x h false e =
      let a = either_neither f.lists f.maps h in
      sym (none_fine x ps (sym noted.every ∙ e) (sym noted.lists ∙ a.0) (sym noted.maps ∙ a.1))

  label_by : (kind x : ℕ) (v some : Bool) → eqb kind vlan_kind ≡ v → either f.lists f.maps ≡ some → label_noted f ps kind x ≡ label_meant every_type ps (label_from kind x)
  unfolding label_noted label_from pick both
  label_by kind x true some e h = rw e
  label_by kind x false true e h = rw (e, h)
  label_by kind x false false e h = rw (e, h) (fine_every x h f.every refl)

  mac_by : (m : ℕ) (b : Bool) → f.macs ≡ b → mac_noted f ps m ≡ mac_meant every_type ps m
  unfolding mac_noted mac_meant pick either
  mac_by m true e = rw e
  mac_by m false e = rw (e, none_gathers ps (sym noted.macs ∙ e))

  pub noted_meant : (nicks : List ℕ) (ingress : ℕ) (s : List ℕ) → slot_noted f nicks ps ingress s ≡ slot_meant every_type (payload_from nicks n r) ingress s
  unfolding slot_noted entry_meant entry_of
  noted_meant nicks ingress s =
      rw (label_by (kind_of (record_of s)) (label_of (record_of s)) _ _ refl refl, mac_by (mac_of (record_of s)) _ refl)
      (sym (by_learned (payload_from nicks n r) ingress s (is_learned (unpacked s)) refl))
