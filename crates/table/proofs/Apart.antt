-- A table whose homes are apart stays so. A change slot by slot keeps it so if no slot passes a test that it did not pass before;
-- learning puts its entry where no other slot has its home, nor an unmarked record of its pair, nor, unmarked, any record of it.
-- Assumes nothing.
use Prim.Native.Nat.{ℕ, ◌+◌, ◌*◌, ◌<◌, ◌≤◌}
use mathlib.Core.Bool.{Bool, true, false, not}
use mathlib.Core.List.{List}
use mathlib.Core.Path.{◌≡◌, refl, sym, ap, ◌∙◌}
use native.Mathlib.Decide.{ℕ_discrete}
use native.Mathlib.Omega.{arith}
use lib.Dec.{eqb, ltb}
use lib.ListN.{length}
use borrow.Author.Tests.{eqb-true}
use Rattle.numbers.specs.Tests.{pick, both}
use Rattle.numbers.specs.After.{on_table}
use Rattle.numbers.proofs.Truth.{both_true, both_pass, not_true_false}
use Rattle.numbers.proofs.Bytes.{length-bytes_of}
use Rattle.table.specs.Record.{record_of, confidence_of, learned_state, unpacked, packed, same_label, entry_matches, home_matches, unmarked_matches, marked_matches, learned_that, configured_that, slot_that}
use Rattle.table.specs.Slots.{slot_bytes, slots_of, slot_at, put_slot, freed, on_slots, or_else, found, lowest}
use Rattle.table.specs.Table.{holds, holds_configured, holds_learned, holds_home, holds_unmarked, holds_marked}
use Rattle.table.specs.Learning.{rival_of, put_entry, cleared_pair, room_for, judged_at, free_slot, into_free, judged, learnt}
use Rattle.table.specs.Claims.{Sound, Alone, Apart, LearningKeepsApart}
use Rattle.table.specs.declared.Label.{Label}
use Rattle.table.specs.declared.Label.TheVariants.{Vlan, Fine}
use Rattle.table.specs.declared.Entry.{Entry}
use Rattle.table.specs.declared.Slot.{Slot}
use Rattle.table.specs.declared.Slot.TheVariants.{Free, Spoilt, Learned, Configured}
use Rattle.table.specs.declared.Learning.TheVariants as learning
use Rattle.table.proofs.Slots.{Keeps, length-put_slot, slot_put_same, slot_put_other, length_all_slots, slot_all_slots, lowest-within, lowest_hit, lowest_miss}
use Rattle.table.proofs.Packing.{unpack_packed, packed-length}
use Rattle.table.proofs.Contents.{unpacked-freed}
use Rattle.std.specs.Prelude.{Option, Some, None}

-- ---- one test of a slot beside another

-- f makes no slot pass that did not pass
abbrev pub Less : (List ℕ → Bool) → (List ℕ → List ℕ) → Type 0
Less p f = (r : List ℕ) → p (f r) ≡ true → p r ≡ true

-- none but slot k passes
abbrev pub OnlyAt : ℕ → (List ℕ → Bool) → List ℕ → Type 0
OnlyAt k p t = (j : ℕ) → j < slots_of t → p (slot_at j t) ≡ true → j ≡ k

module _ (p q : List ℕ → Bool) (t : List ℕ) (alone : Alone p q t) where
  alone_all_slots : (f : List ℕ → List ℕ) → Keeps f → Less p f → Less q f → Alone p q (on_slots f 0 (slots_of t) t)
  alone_all_slots f keeps lp lq i j hi hj pi qj =
      let long = length_all_slots f keeps t in
      let li : i < slots_of t = omega arith in
      let lj : j < slots_of t = omega arith in
      alone i j li lj
      (lp (slot_at i t) (ap p (sym (slot_all_slots f keeps t i li)) ∙ pi))
      (lq (slot_at j t) (ap q (sym (slot_all_slots f keeps t j lj)) ∙ qj))

  -- a record put into slot k, where no other slot clashes with it
  module _ (k : ℕ) (within : k < slots_of t) (r : List ℕ) (whole : length r ≡ slot_bytes) where
    pub alone_put : (p r ≡ true → OnlyAt k q t) → (q r ≡ true → OnlyAt k p t) → Alone p q (put_slot k r t)
    alone_put only-q only-p i j hi hj pi qj = go (ℕ_discrete i k) (ℕ_discrete j k)
      where
        room : slot_bytes * k + slot_bytes ≤ length t
        room = omega arith

        long : length (put_slot k r t) ≡ length t
        long = length-put_slot k r t room whole

        here : (s : List ℕ → Bool) (n : ℕ) → n ≡ k → s (slot_at n (put_slot k r t)) ≡ true → s r ≡ true
        here s n e h = sym (ap s (ap (λ (x : ℕ). slot_at x (put_slot k r t)) e ∙ slot_put_same k r t room whole)) ∙ h

        there : (s : List ℕ → Bool) (n : ℕ) → (n ≡ k → ⊥) → s (slot_at n (put_slot k r t)) ≡ true → s (slot_at n t) ≡ true
        there s n d h = sym (ap s (slot_put_other n k r t d room whole)) ∙ h

        li : i < slots_of t
        li = omega (arith, long)

        lj : j < slots_of t
        lj = omega (arith, long)

        go : Dec (i ≡ k) → Dec (j ≡ k) → i ≡ j
        go (yes a) (yes b) = a ∙ sym b
        go (yes a) (no b) = a ∙ sym (only-q (here p i a pi) j lj (there q j b qj))
        go (no a) (yes b) = only-p (here q j b qj) i li (there p i a pi) ∙ sym b
        go (no a) (no b) = alone i j li lj (there p i a pi) (there q j b qj)

-- ---- the tests of a slot, one from another

module _ (l : Label) (m : ℕ) where
  pub slot_unmarked : (s : Slot) → learned_that (unmarked_matches l m) s ≡ true → slot_that (entry_matches l m) s ≡ true
  slot_unmarked Free h = h
  slot_unmarked Spoilt h = h
  slot_unmarked (Learned e) h = (both_true (entry_matches l m e) (not e.multihomed) h).0
  slot_unmarked (Configured e) h = cc

  pub pair_learned : (s : Slot) → slot_that (entry_matches l m) s ≡ true → configured_that (entry_matches l m) s ≡ false → learned_that (entry_matches l m) s ≡ true
  pair_learned Free h c = h
  pair_learned Spoilt h c = h
  pair_learned (Learned e) h c = h
  pair_learned (Configured e) h c = cc

  pub slot-home : (n : ℕ) (s : Slot) → slot_that (home_matches l m n) s ≡ true → slot_that (entry_matches l m) s ≡ true
  slot-home n Free h = h
  slot-home n Spoilt h = h
  slot-home n (Learned e) h = (both_true (entry_matches l m e) (eqb n e.nickname) h).0
  slot-home n (Configured e) h = (both_true (entry_matches l m e) (eqb n e.nickname) h).0

  pub slot_marked_lem : (n : ℕ) (s : Slot) → learned_that (marked_matches l m n) s ≡ true → slot_that (home_matches l m n) s ≡ true
  slot_marked_lem n Free h = h
  slot_marked_lem n Spoilt h = h
  slot_marked_lem n (Learned e) h = (both_true (home_matches l m n e) e.multihomed h).0
  slot_marked_lem n (Configured e) h = cc

  -- a home that is neither configured nor unmarked is marked
  entry_kinds : (n : ℕ) (e : Entry) (mark : Bool) → e.multihomed ≡ mark → home_matches l m n e ≡ true → both (entry_matches l m e) (not mark) ≡ false → both (home_matches l m n e) mark ≡ true
  unfolding both
  entry_kinds n e true q h u = both_pass (home_matches l m n e) true h refl
  entry_kinds n e false q h u = let p = both_pass (entry_matches l m e) true (both_true (entry_matches l m e) (eqb n e.nickname) h).0 refl in cc

  slot_kinds : (n : ℕ) (s : Slot) → slot_that (home_matches l m n) s ≡ true → configured_that (entry_matches l m) s ≡ false → learned_that (unmarked_matches l m) s ≡ false → learned_that (marked_matches l m n) s ≡ true
  slot_kinds n Free h c u = h
  slot_kinds n Spoilt h c u = h
  slot_kinds n (Learned e) h c u = entry_kinds n e e.multihomed refl h u
  slot_kinds n (Configured e) h c u = let p = (both_true (entry_matches l m e) (eqb n e.nickname) h).0 in cc

-- ---- an entry put into a slot

label_same : (a b : Label) → same_label a b ≡ true → a ≡ b
label_same (Vlan a) (Vlan b) e = ap Vlan (eqb-true a b e)
label_same (Vlan a) (Fine b) e = cc
label_same (Fine a) (Vlan b) e = cc
label_same (Fine a) (Fine b) e = ap Fine (eqb-true a b e)

pub record SamePair (l : Label) (m : ℕ) (e : Entry) : Type 0 where
  pub label : l ≡ e.label
  pub mac : m ≡ e.mac

same_pair : (l : Label) (m : ℕ) (e : Entry) → entry_matches l m e ≡ true → SamePair l m e
unfolding entry_matches
same_pair l m e h =
    let p = both_true (same_label l e.label) (eqb m e.mac) h in
    record { label = label_same l e.label p.0; mac = eqb-true m e.mac p.1 }

not_not : (b : Bool) → not b ≡ true → b ≡ false
not_not true h = cc
not_not false h = refl

module _ (e : Entry) (sound : Sound e) where
  pub packed_pair : (l : Label) (m : ℕ) → holds l m (packed learned_state e) ≡ true → SamePair l m e
  unfolding holds
  packed_pair l m h = same_pair l m e (rw (unpack_packed e sound).0 at h)

  packed-home : (l : Label) (m n : ℕ) → holds_home l m n (packed learned_state e) ≡ true → SamePair l m e × (n ≡ e.nickname)
  unfolding holds_home
  packed-home l m n h =
      let p = both_true (entry_matches l m e) (eqb n e.nickname) (rw (unpack_packed e sound).0 at h) in
      (same_pair l m e p.0, eqb-true n e.nickname p.1)

  packed_unmarked : (l : Label) (m : ℕ) → holds_unmarked l m (packed learned_state e) ≡ true → SamePair l m e × (e.multihomed ≡ false)
  unfolding holds_unmarked
  packed_unmarked l m h =
      let p = both_true (entry_matches l m e) (not e.multihomed) (rw (unpack_packed e sound).0 at h) in
      (same_pair l m e p.0, not_not e.multihomed p.1)

  module _ (t : List ℕ) (apart : Apart t) (k : ℕ) (within : k < slots_of t) where
    apart_put : OnlyAt k (holds_home e.label e.mac e.nickname) t → OnlyAt k (holds_unmarked e.label e.mac) t
        → (e.multihomed ≡ false → OnlyAt k (holds e.label e.mac) t) → Apart (put_entry k e t)
    apart_put home unmarked pair = record {
      homes = λ l m n. alone_put (holds_home l m n) (holds_home l m n) t (apart.homes l m n) k within (packed learned_state e) (packed-length learned_state e) (homes l m n) (homes l m n);
      unmarked = λ l m. alone_put (holds_unmarked l m) (holds l m) t (apart.unmarked l m) k within (packed learned_state e) (packed-length learned_state e) (pairs l m) (lone l m);
    }
      where
        homes : (l : Label) (m n : ℕ) → holds_home l m n (packed learned_state e) ≡ true → OnlyAt k (holds_home l m n) t
        homes l m n h j b q =
            let s = packed-home l m n h in
            home j b (rw (s.0.label, s.0.mac, s.1) at q)

        pairs : (l : Label) (m : ℕ) → holds_unmarked l m (packed learned_state e) ≡ true → OnlyAt k (holds l m) t
        pairs l m h j b q =
            let s = packed_unmarked l m h in
            pair s.1 j b (rw (s.0.label, s.0.mac) at q)

        lone : (l : Label) (m : ℕ) → holds l m (packed learned_state e) ≡ true → OnlyAt k (holds_unmarked l m) t
        lone l m h j b q =
            let s = packed_pair l m h in
            unmarked j b (rw (s.label, s.mac) at q)

-- ---- a change slot by slot

-- f brings no slot a label, a MAC, a nickname or the want of a mark
pub record Lessens (f : List ℕ → List ℕ) : Type 0 where
  pub pair : (l : Label) (m : ℕ) → Less (holds l m) f
  pub home : (l : Label) (m n : ℕ) → Less (holds_home l m n) f
  pub unmarked : (l : Label) (m : ℕ) → Less (holds_unmarked l m) f

pub apart_all_slots : (f : List ℕ → List ℕ) → Keeps f → Lessens f → (t : List ℕ) → Apart t → Apart (on_slots f 0 (slots_of t) t)
apart_all_slots f keeps less t a = record {
  homes = λ l m n. alone_all_slots (holds_home l m n) (holds_home l m n) t (a.homes l m n) f keeps (less.home l m n) (less.home l m n);
  unmarked = λ l m. alone_all_slots (holds_unmarked l m) (holds l m) t (a.unmarked l m) f keeps (less.unmarked l m) (less.pair l m);
}

-- a slot that is freed or left as it was passes no test that a free slot does not pass
pub freed_less : (p : Slot → Bool) → p Free ≡ false → (b : Bool) (r : List ℕ) → p (unpacked (pick b freed r)) ≡ true → p (unpacked r) ≡ true
unfolding pick
freed_less p none true r h = let z = unpacked-freed in cc
freed_less p none false r h = h

pub freed_keeps : (b : Bool) (r : List ℕ) → length r ≡ slot_bytes → length (pick b freed r) ≡ slot_bytes
unfolding pick
freed_keeps true r h = length-bytes_of slot_bytes 0
freed_keeps false r h = h

-- the slots that a test picks are freed
module _ (f : List ℕ → List ℕ) (p : List ℕ → Bool) (is : (r : List ℕ) → f r ≡ pick (p r) freed r) where
  pub freeing_keeps : Keeps f
  freeing_keeps r h = rw (is r) (freed_keeps (p r) r h)

  pub freeing_lessens : Lessens f
  unfolding holds holds_home holds_unmarked
  freeing_lessens = record {
    pair = λ l m r h. freed_less (slot_that (entry_matches l m)) refl (p r) r (rw (is r) at h);
    home = λ l m n r h. freed_less (slot_that (home_matches l m n)) refl (p r) r (rw (is r) at h);
    unmarked = λ l m r h. freed_less (learned_that (unmarked_matches l m)) refl (p r) r (rw (is r) at h);
  }

-- ---- learning

-- no slot of the table passes
abbrev NoneIn : (List ℕ → Bool) → List ℕ → Type 0
NoneIn p t = (j : ℕ) → j < slots_of t → p (slot_at j t) ≡ false

-- what nothing passes, nothing but slot k passes
none_only : (p q : List ℕ → Bool) (t : List ℕ) (k : ℕ) → NoneIn q t → ((r : List ℕ) → p r ≡ true → q r ≡ true) → OnlyAt k p t
none_only p q t k none less j b h = let yes = less (slot_at j t) h in let no = none j b in cc

module _ (e : Entry) (sound : Sound e) (t : List ℕ) (apart : Apart t) where
  abbrev pair : List ℕ → Bool
  pair = holds e.label e.mac

  abbrev home : List ℕ → Bool
  home = holds_home e.label e.mac e.nickname

  abbrev unmarked : List ℕ → Bool
  unmarked = holds_unmarked e.label e.mac

  abbrev marked : List ℕ → Bool
  marked = holds_marked e.label e.mac e.nickname

  home_pair : (r : List ℕ) → home r ≡ true → pair r ≡ true
  unfolding holds holds_home
  home_pair r h = slot-home e.label e.mac e.nickname (unpacked r) h

  unmarked_pair : (r : List ℕ) → unmarked r ≡ true → pair r ≡ true
  unfolding holds holds_unmarked
  unmarked_pair r h = slot_unmarked e.label e.mac (unpacked r) h

  marked_home : (r : List ℕ) → marked r ≡ true → home r ≡ true
  unfolding holds_marked holds_home
  marked_home r h = slot_marked_lem e.label e.mac e.nickname (unpacked r) h

  -- into a table without the pair
  into_none : NoneIn pair t → (k : ℕ) → k < slots_of t → Apart (put_entry k e t)
  into_none none k within =
      apart_put e sound t apart k within
      (none_only home pair t k none home_pair)
      (none_only unmarked pair t k none unmarked_pair)
      (λ u. none_only pair pair t k none (λ r h. h))

  module _ (mark : e.multihomed ≡ true) where
    has_mark : e.multihomed ≡ false → ⊥
    has_mark u = let z : ◌≡◌ {A = ℕ} 0 1 = cc in omega arith

    -- over the unmarked record of the pair, which stands alone
    over_unmarked : (k : ℕ) → lowest unmarked t ≡ Some k → Apart (put_entry k e t)
    over_unmarked k q =
        let within = lowest-within unmarked t k q in
        let hit = lowest_hit unmarked t k q in
        apart_put e sound t apart k within
        (λ j b h. sym (apart.unmarked e.label e.mac k j within b hit (home_pair (slot_at j t) h)))
        (λ j b h. sym (apart.unmarked e.label e.mac k j within b hit (unmarked_pair (slot_at j t) h)))
        (λ u. absurd (has_mark u))

    module _ (none : lowest unmarked t ≡ None) where
      no_unmarked : NoneIn unmarked t
      no_unmarked = lowest_miss unmarked t none

      -- over the marked record of the same home
      over_home : (k : ℕ) → lowest marked t ≡ Some k → Apart (put_entry k e t)
      over_home k q =
          let within = lowest-within marked t k q in
          let hit = marked_home (slot_at k t) (lowest_hit marked t k q) in
          apart_put e sound t apart k within
          (λ j b h. apart.homes e.label e.mac e.nickname j k b within h hit)
          (none_only unmarked unmarked t k no_unmarked (λ r h. h))
          (λ u. absurd (has_mark u))

      -- into a free slot, where the table has neither an unmarked record of the pair nor this home
      module _ (other : lowest marked t ≡ None) (free : NoneIn (holds_configured e.label e.mac) t) where
        home_marked : (j : ℕ) → j < slots_of t → home (slot_at j t) ≡ true → marked (slot_at j t) ≡ true
        unfolding holds_home holds_configured holds_unmarked holds_marked
        home_marked j b h = slot_kinds e.label e.mac e.nickname (unpacked (slot_at j t)) h (free j b) (no_unmarked j b)

        into_marked : (k : ℕ) → k < slots_of t → Apart (put_entry k e t)
        into_marked k within =
            apart_put e sound t apart k within
            (λ j b h. let yes = home_marked j b h in let no = lowest_miss marked t other j b in cc)
            (none_only unmarked unmarked t k no_unmarked (λ r h. h))
            (λ u. absurd (has_mark u))

    over_marked : (u v : Option ℕ) (k : ℕ) → lowest unmarked t ≡ u → lowest marked t ≡ v → or_else u v ≡ Some k → Apart (put_entry k e t)
    over_marked (Some j) v k p q h = over_unmarked k (p ∙ h)
    over_marked None v k p q h = over_home p k (q ∙ h)

    fill_marked : NoneIn (holds_configured e.label e.mac) t → (u v : Option ℕ) (k : ℕ) → lowest unmarked t ≡ u → lowest marked t ≡ v → or_else u v ≡ None → k < slots_of t → Apart (put_entry k e t)
    fill_marked free (Some j) v k p q h within = let z : ◌≡◌ {A = ℕ} 0 1 = cc in absurd (omega arith)
    fill_marked free None v k p q h within = into_marked p (q ∙ h) free k within

-- the pair's learned records are freed
cleared_is : (e : Entry) (r : List ℕ) → cleared_pair e r ≡ pick (holds_learned e.label e.mac r) freed r
unfolding cleared_pair
cleared_is e r = refl

pub cleared_keeps : (e : Entry) → Keeps (cleared_pair e)
cleared_keeps e = freeing_keeps (cleared_pair e) (holds_learned e.label e.mac) (cleared_is e)

pub cleared_lessens : (e : Entry) → Lessens (cleared_pair e)
cleared_lessens e = freeing_lessens (cleared_pair e) (holds_learned e.label e.mac) (cleared_is e)

-- a slot that is not configured does not hold the pair then
cleared_none : (e : Entry) (r : List ℕ) → holds_configured e.label e.mac r ≡ false → holds e.label e.mac (cleared_pair e r) ≡ true → ⊥
unfolding holds holds_configured holds_learned cleared_pair pick
cleared_none e r c = go (learned_that (entry_matches e.label e.mac) (unpacked r)) refl
  where
    go : (b : Bool) → learned_that (entry_matches e.label e.mac) (unpacked r) ≡ b → slot_that (entry_matches e.label e.mac) (unpacked (pick b freed r)) ≡ true → ⊥
    go true q h = let f = unpacked-freed in let z : ◌≡◌ {A = ℕ} 0 1 = cc in omega arith
    go false q h = let l = pair_learned e.label e.mac (unpacked r) h c in let z : ◌≡◌ {A = ℕ} 0 1 = cc in omega arith

module _ (e : Entry) (t : List ℕ) where
  abbrev pub cleared_table : List ℕ
  cleared_table = on_slots (cleared_pair e) 0 (slots_of t) t

  cleared_length : length cleared_table ≡ length t
  cleared_length = length_all_slots (cleared_pair e) (cleared_keeps e) t

  none_left : NoneIn (holds_configured e.label e.mac) t → NoneIn (holds e.label e.mac) cleared_table
  none_left free j b =
      let long = cleared_length in
      let within : j < slots_of t = omega arith in
      not_true_false (holds e.label e.mac (slot_at j cleared_table))
      (λ h. cleared_none e (slot_at j t) (free j within) (rw (slot_all_slots (cleared_pair e) (cleared_keeps e) t j within) at h))

-- over the pair's lowest record, and into a free slot, in the table as the frame's mark leaves it
module _ (e : Entry) (sound : Sound e) (t : List ℕ) (apart : Apart t) (free : NoneIn (holds_configured e.label e.mac) t) where
  over_pair : (k : ℕ) → k < slots_of t → Apart (put_entry k e (cleared_table e t))
  over_pair k within =
      let long = cleared_length e t in
      into_none e sound (cleared_table e t) (apart_all_slots (cleared_pair e) (cleared_keeps e) (cleared_lessens e) t apart) (none_left e t free) k (omega arith)

  over_apart : (mark : Bool) → e.multihomed ≡ mark → (k : ℕ)
      → pick mark (or_else (lowest (holds_unmarked e.label e.mac) t) (lowest (holds_marked e.label e.mac e.nickname) t)) (lowest (holds e.label e.mac) t) ≡ Some k
      → Apart (put_entry k e (pick mark t (cleared_table e t)))
  unfolding pick
  over_apart true is k h = over_marked e sound t apart is _ _ k refl refl h
  over_apart false is k h = over_pair k (lowest-within (holds e.label e.mac) t k h)

  fill_apart : (mark : Bool) → e.multihomed ≡ mark → (k : ℕ) → k < slots_of t
      → pick mark (or_else (lowest (holds_unmarked e.label e.mac) t) (lowest (holds_marked e.label e.mac e.nickname) t)) (lowest (holds e.label e.mac) t) ≡ None
      → Apart (put_entry k e t)
  unfolding pick
  fill_apart true is k within h = fill_marked e sound t apart is free _ _ k refl refl h within
  fill_apart false is k within h = into_none e sound t apart (lowest_miss (holds e.label e.mac) t h) k within

  judged_at_lem : (k : ℕ) → rival_of e t ≡ Some k → Apart (judged_at k e t).table
  unfolding judged_at rival_of room_for pick
  judged_at_lem k q = weighed (ltb e.confidence (confidence_of (record_of (slot_at k t))))
    where
      weighed : (b : Bool) → Apart (pick b (on_table learning.Kept t) (on_table learning.Refreshed (put_entry k e (room_for e t)))).table
      weighed true = apart
      weighed false = over_apart e.multihomed refl k q

  filled : (p : Option ℕ) → lowest free_slot t ≡ p → rival_of e t ≡ None → Apart (into_free p e t).table
  unfolding into_free rival_of
  filled (Some k) v q = fill_apart e.multihomed refl k (lowest-within free_slot t k v) q
  filled None v q = apart

  judged-apart : (p : Option ℕ) → rival_of e t ≡ p → Apart (judged p e t).table
  unfolding judged
  judged-apart (Some k) q = judged_at_lem k q
  judged-apart None q = filled (lowest free_slot t) refl q

unless_apart : (e : Entry) → Sound e → (t : List ℕ) → Apart t → (p : Option ℕ) → lowest (holds_configured e.label e.mac) t ≡ p → Apart (pick (found p) (on_table learning.Kept t) (judged (rival_of e t) e t)).table
unfolding pick
unless_apart e sound t apart (Some k) q = apart
unless_apart e sound t apart None q = judged-apart e sound t apart (lowest_miss (holds_configured e.label e.mac) t q) (rival_of e t) refl

pub learning_apart : LearningKeepsApart
unfolding learnt
learning_apart e sound t apart = unless_apart e sound t apart (lowest (holds_configured e.label e.mac) t) refl
