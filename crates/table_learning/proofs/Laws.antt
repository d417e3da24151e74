-- Laws of learning, from facts as the code finds them.
-- Assumes nothing.
use Prim.Native.Nat.{ℕ, ◌+◌, ◌*◌, ◌<◌, ◌≤◌}
use mathlib.Core.Bool.{Bool, true, false, ◌||◌}
use mathlib.Core.List.{List}
use mathlib.Core.Path.{◌≡◌, refl, sym, ap, ◌∙◌}
use native.Mathlib.Omega.{arith}
use lib.Dec.{leb}
use lib.ListN.{length, drop}
use borrow.Author.Tests.{leb-true, lt-ltb, le-ltb}
use Rattle.numbers.specs.Tests.{pick, both}
use Rattle.numbers.specs.After.{on_table}
use Rattle.numbers.proofs.Truth.{both_pass, both_left, both_right, pick_true, pick_false}
use Rattle.table.specs.Learning.{rival_of, put_entry, cleared_pair, room_for, judged_at, free_slot, into_free, judged, learnt}
use Rattle.table.specs.Record.{record_of, confidence_of, kind_number, label_number, label_from, unpacked, is_learned, entry_matches, learned_that, slot_that}
use Rattle.table.specs.Slots.{slot_bytes, slots_of, slot_at, freed, on_slots, or_else, lowest}
use Rattle.table.specs.Table.{holds, holds_learned, holds_unmarked, holds_marked}
use Rattle.table.specs.declared.Label.{Label}
use Rattle.table.specs.declared.Label.TheVariants.{Vlan, Fine}
use Rattle.table.specs.declared.Entry.{Entry}
use Rattle.table.specs.declared.Slot.{Slot}
use Rattle.table.specs.declared.Slot.TheVariants.{Free, Spoilt, Learned, Configured}
use Rattle.table.specs.FreeSlot.{free_search}
use Rattle.table.specs.declared.FreeSearch.{FreeSearch}
use Rattle.table.specs.declared.Learning.{Learning}
use Rattle.table.specs.declared.Learning.TheVariants as learning
use Rattle.table.proofs.Slots.{lowest-within, lowest_hit, lowest_before}
use Rattle.table.proofs.Contents.{record_near, holds_near}
use Rattle.table.proofs.Apart.{slot_unmarked, slot-home, slot_marked_lem, cleared_keeps}
use Rattle.table.proofs.Once.{room_once}
use Rattle.table.proofs.Packing.{label_back}
use Rattle.table_pairs.specs.Pairs.{pair_good}
use Rattle.table_pairs.proofs.Laws.{other_round_key, holds_good}
use Rattle.table_fields.specs.Keys.{round_key_of}
use Rattle.table_rounds.specs.Rounds.{Keyed, Passed}
use Rattle.table_rounds.proofs.Laws.{kept_slots}
use Rattle.table_homes.specs.Pass.{homes_to}
use Rattle.table_homes.specs.declared.Homes.{Homes}
use Rattle.table_homes.proofs.Pass.{seen_once, seen-configured, seen_unmarked, seen_marked, seen-lowest}
use Rattle.table_learning.specs.Judging.{room_if, NoneBelow, Judges}
use Rattle.std.specs.Prelude.{Option, Some, None}

-- ---- filling a free slot

module _ (t : List ℕ) (e : Entry) (s : FreeSearch) (found : s ≡ free_search t) where
  place : s.place ≡ lowest free_slot t
  unfolding free_search
  place = ap (λ (x : FreeSearch). x.place) found

  pub free_filled : (k : ℕ) → s.place ≡ Some k → (u : List ℕ) → u ≡ put_entry k e t → on_table learning.Learned u ≡ into_free (lowest free_slot t) e t
  unfolding into_free
  free_filled k h u q = rw (← place, h, q)

  pub free_full : s.place ≡ None → on_table learning.Full t ≡ into_free (lowest free_slot t) e t
  unfolding into_free
  free_full h = rw (← place, h)

  pub free_within : (k : ℕ) → s.place ≡ Some k → slot_bytes * k + slot_bytes ≤ length t
  free_within k h = let w = lowest-within free_slot t k (sym place ∙ h) in omega arith

-- ---- clearing

slot_learned_is : (p : Entry → Bool) (s : Slot) → learned_that p s ≡ both (slot_that p s) (is_learned s)
unfolding both
slot_learned_is p Free = refl
slot_learned_is p Spoilt = refl
slot_learned_is p (Learned o) = go (p o)
  where
    go : (b : Bool) → b ≡ both b true
    go true = refl
    go false = refl
slot_learned_is p (Configured o) = sym (both_right (p o) false refl)

holds_learned_is : (l : Label) (m : ℕ) (r : List ℕ) → holds_learned l m r ≡ both (holds l m r) (is_learned (unpacked r))
unfolding holds holds_learned
holds_learned_is l m r = slot_learned_is (entry_matches l m) (unpacked r)

module _ (e : Entry) (r : List ℕ) (kind label : ℕ) (is : label_from kind label ≡ e.label) (x : Bool) (pair : x ≡ holds (label_from kind label) e.mac r) where
  same_pair : holds e.label e.mac r ≡ x
  same_pair = sym (pair ∙ rw is)

  pub clear_other : x ≡ false → r ≡ cleared_pair e r
  unfolding cleared_pair
  clear_other miss = sym (pick_false _ _ _ (holds_learned_is e.label e.mac r ∙ both_left _ _ (same_pair ∙ miss)))

  module _ (y : Bool) (learned : y ≡ is_learned (unpacked r)) where
    pub clear_configured : y ≡ false → r ≡ cleared_pair e r
    unfolding cleared_pair
    clear_configured miss = sym (pick_false _ _ _ (holds_learned_is e.label e.mac r ∙ both_right _ _ (sym learned ∙ miss)))

    pub clear_hit : x ≡ true → y ≡ true → freed ≡ cleared_pair e r
    unfolding cleared_pair
    clear_hit hit one = sym (pick_true _ _ _ (holds_learned_is e.label e.mac r ∙ both_pass _ _ (same_pair ∙ hit) (sym learned ∙ one)))

-- slots below the lowest of the pair stay as they are
pub clear_below : (e : Entry) (t : List ℕ) (k : ℕ) → k ≤ slots_of t → NoneBelow e k t → t ≡ on_slots (cleared_pair e) 0 k t
unfolding on_slots cleared_pair
clear_below e t k h none =
    kept_slots (cleared_pair e) (cleared_keeps e) t t 0 refl k (omega arith) (omega arith) (λ j low high.
    sym (pick_false _ _ _ (holds_learned_is e.label e.mac (slot_at j t) ∙ both_left _ _ (none j high))))

-- slots without the key of the pair stay as they are
module _ (e : Entry) (t u : List ℕ) (i : ℕ) (so_far : u ≡ on_slots (cleared_pair e) 0 i t) (kind label : ℕ) (small : kind ≤ 1) (is : label_from kind label ≡ e.label) where
  pub clear_past : (key : ℕ) → key ≡ round_key_of e.mac → (j : ℕ) → i ≤ j → slot_bytes * j ≤ length t → Passed (Keyed key) i j u → u ≡ on_slots (cleared_pair e) 0 j t
  clear_past key q j h room passed =
      kept_slots (cleared_pair e) (cleared_keeps e) t u i so_far j h room (λ k low high.
      clear_other e (slot_at k u) kind label is false
      (other_round_key kind label e.mac small (drop (slot_bytes * k) u) (λ z. passed k low high (z ∙ sym q))
      ∙ sym (holds_near (label_from kind label) e.mac (drop (slot_bytes * k) u)))
      refl)

-- ---- judging

pub neither : (a b : Bool) → a || b ≡ false → a ≡ false
neither true b e = e
neither false b e = refl

module _ (e : Entry) (t : List ℕ) (k count : ℕ) (j : Judges e k count t) where
  pub judge_within : slot_bytes * k + slot_bytes ≤ length t
  judge_within = let w = j.within in omega arith

  -- what holds the pair can be held
  pub judge_good : pair_good e.label e.mac ≡ true
  judge_good =
      rw (← label_back e.label)
      (holds_good (kind_number e.label) (label_number e.label) e.mac (slot_at k t) (kind_small e.label) (rw (label_back e.label) j.hit))
    where
      kind_small : (l : Label) → kind_number l ≤ 1
      kind_small (Vlan x) = omega arith
      kind_small (Fine x) = omega arith

  pub judge_room : (u : List ℕ) → u ≡ room_if (e.multihomed || leb count 1) e t → put_entry k e u ≡ put_entry k e (room_for e t)
  unfolding room_if room_for pick
  judge_room u is = rw is (go e.multihomed refl (leb count 1) refl)
    where
      once : leb count 1 ≡ true → put_entry k e (room_for e t) ≡ put_entry k e t
      once h = let few = leb-true count 1 h in let same = j.counted in room_once e t k j.within (seen_once e t (omega arith) k j.within j.hit)

      go : (mark : Bool) → e.multihomed ≡ mark → (one : Bool) → leb count 1 ≡ one → put_entry k e (pick (mark || one) t (on_slots (cleared_pair e) 0 (slots_of t) t)) ≡ put_entry k e (pick mark t (on_slots (cleared_pair e) 0 (slots_of t) t))
      go true q one h = refl
      go false q true h = sym (once h) ∙ ap (λ (b : Bool). put_entry k e (pick b t (on_slots (cleared_pair e) 0 (slots_of t) t))) q
      go false q false h = refl

  module _ (x c : ℕ) (mine : x ≡ e.confidence) (is : c ≡ confidence_of (record_of (drop (slot_bytes * k) t))) where
    here : c ≡ confidence_of (record_of (slot_at k t))
    here = is ∙ ap (λ (n : ℕ). confidence_of n) (sym (record_near (drop (slot_bytes * k) t)))

    pub judge_kept : x < c → on_table learning.Kept t ≡ judged_at k e t
    unfolding judged_at
    judge_kept h = let same = here in sym (pick_true _ _ _ (lt-ltb e.confidence (confidence_of (record_of (slot_at k t))) (omega arith)))

    pub judge_refreshed : c ≤ x → (u v : List ℕ) → u ≡ room_if (e.multihomed || leb count 1) e t → v ≡ put_entry k e u → on_table learning.Refreshed v ≡ judged_at k e t
    unfolding judged_at
    judge_refreshed h u v room put =
        let same = here in
        ap (on_table learning.Refreshed) (put ∙ judge_room u room)
        ∙ sym (pick_false _ _ _ (le-ltb e.confidence (confidence_of (record_of (slot_at k t))) (omega arith)))

-- ---- the whole

-- a record that is judged holds the pair
module _ (e : Entry) (t : List ℕ) where
  unmarked_holds : (r : List ℕ) → holds_unmarked e.label e.mac r ≡ true → holds e.label e.mac r ≡ true
  unfolding holds holds_unmarked
  unmarked_holds r h = slot_unmarked e.label e.mac (unpacked r) h

  marked_holds : (r : List ℕ) → holds_marked e.label e.mac e.nickname r ≡ true → holds e.label e.mac r ≡ true
  unfolding holds holds_marked
  marked_holds r h = slot-home e.label e.mac e.nickname (unpacked r) (slot_marked_lem e.label e.mac e.nickname (unpacked r) h)

  record Stands (mark : Bool) (k : ℕ) : Type 0 where
    within : k < slots_of t
    hit : holds e.label e.mac (slot_at k t) ≡ true
    below : mark ≡ false → NoneBelow e k t

  marked_stands : (u v : Option ℕ) (k : ℕ) → lowest (holds_unmarked e.label e.mac) t ≡ u → lowest (holds_marked e.label e.mac e.nickname) t ≡ v → or_else u v ≡ Some k → Stands true k
  marked_stands (Some i) v k p q h = record {
    within = lowest-within _ t k (p ∙ h);
    hit = unmarked_holds (slot_at k t) (lowest_hit _ t k (p ∙ h));
    below = λ no. let z : ◌≡◌ {A = ℕ} 0 1 = cc in absurd (omega arith);
  }
  marked_stands None v k p q h = record {
    within = lowest-within _ t k (q ∙ h);
    hit = marked_holds (slot_at k t) (lowest_hit _ t k (q ∙ h));
    below = λ no. let z : ◌≡◌ {A = ℕ} 0 1 = cc in absurd (omega arith);
  }

  rival_stands : (mark : Bool) (k : ℕ)
      → pick mark (or_else (lowest (holds_unmarked e.label e.mac) t) (lowest (holds_marked e.label e.mac e.nickname) t)) (lowest (holds e.label e.mac) t) ≡ Some k → Stands mark k
  unfolding pick
  rival_stands true k h = marked_stands _ _ k refl refl h
  rival_stands false k h = record { within = lowest-within _ t k h; hit = lowest_hit _ t k h; below = λ no. lowest_before _ t k h }

  module _ (h : Homes) (seen : h ≡ homes_to e (slots_of t) t) where
    rival_is : (p : Option ℕ) → p ≡ pick e.multihomed (or_else h.unmarked h.marked) h.lowest → p ≡ rival_of e t
    unfolding rival_of lowest
    rival_is p is = is ∙ rw (seen, seen_unmarked e t (slots_of t), seen_marked e t (slots_of t), seen-lowest e t (slots_of t))

    pub learn_judges : (p : Option ℕ) → p ≡ pick e.multihomed (or_else h.unmarked h.marked) h.lowest → (k : ℕ) → p ≡ Some k → Judges e k h.count t
    unfolding rival_of
    learn_judges p is k at =
        let s = rival_stands e.multihomed k (sym (rival_is p is) ∙ at) in
        record { within = s.within; hit = s.hit; counted = ap (λ (x : Homes). x.count) seen; below = s.below }

    configured_is : learnt e t ≡ pick h.configured (on_table learning.Kept t) (judged (rival_of e t) e t)
    unfolding learnt lowest
    configured_is = sym (rw (seen, seen-configured e t (slots_of t)))

    pub learn_kept : h.configured ≡ true → on_table learning.Kept t ≡ learnt e t
    learn_kept c = sym (configured_is ∙ pick_true _ _ _ c)

    module _ (c : h.configured ≡ false) (p : Option ℕ) (is : p ≡ pick e.multihomed (or_else h.unmarked h.marked) h.lowest) (r : Learning) (u : List ℕ) where
      pub learn_judged : (k : ℕ) → p ≡ Some k → on_table r u ≡ judged_at k e t → on_table r u ≡ learnt e t
      unfolding judged
      learn_judged k at q = q ∙ sym (configured_is ∙ pick_false _ _ _ c ∙ rw (← rival_is p is, at))

      pub learn_free : p ≡ None → on_table r u ≡ into_free (lowest free_slot t) e t → on_table r u ≡ learnt e t
      unfolding judged
      learn_free at q = q ∙ sym (configured_is ∙ pick_false _ _ _ c ∙ rw (← rival_is p is, at))
