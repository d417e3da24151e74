-- Laws of the pass, from facts as the code finds them.
-- Assumes nothing.
use Prim.Native.Nat.{ℕ, zero, suc, ◌+◌, ◌-◌, ◌*◌, ◌<◌, ◌≤◌}
use mathlib.Core.Bool.{Bool, true, false, not, ◌&&◌}
use mathlib.Core.List.{List}
use mathlib.Core.Path.{◌≡◌, refl, sym, ◌∙◌}
use native.Mathlib.Numerals.{add-one}
use native.Mathlib.Omega.{arith}
use lib.Dec.{eqb}
use lib.ListN.{drop}
use Rattle.numbers.specs.Tests.{pick, both}
use Rattle.numbers.proofs.Truth.{and_both, not_true_false}
use Rattle.table.specs.Record.{record_of, kind_number, label_number, label_from, unpacked, entry_matches, slot_that}
use Rattle.table.specs.Slots.{slot_bytes, slots_of, slot_at}
use Rattle.table.specs.Table.{holds}
use Rattle.table.specs.declared.Label.{Label}
use Rattle.table.specs.declared.Entry.{Entry}
use Rattle.table.specs.declared.Slot.{Slot}
use Rattle.table.specs.declared.Slot.TheVariants.{Free, Spoilt, Learned, Configured}
use Rattle.table.proofs.Packing.{label_back}
use Rattle.table.proofs.Contents.{unpacked_near, holds_near}
use Rattle.table_fields.specs.Keys.{round_key_of}
use Rattle.table_records.specs.Entries.{IsHeld}
use Rattle.table_records.proofs.Laws.{match_held}
use Rattle.table_pairs.specs.Pairs.{pair_good}
use Rattle.table_pairs.proofs.Laws.{other_round_key, holds_good}
use Rattle.table_rounds.specs.Rounds.{Keyed, Passed}
use Rattle.table_homes.specs.Pass.{no_homes, with_slot, homes_to}
use Rattle.table_homes.specs.Steps.{with_home}
use Rattle.table_homes.specs.declared.Homes.{Homes}
use Rattle.table_homes.proofs.Pass.{slot_skipped, seen_skip}

module _ (e : Entry) (k : ℕ) (s : Slot) (h : Homes) where
  pub with_free : s ≡ Free → h ≡ with_slot e k s h
  with_free q = sym (rw q (slot_skipped e k Free h refl))

  pub with_spoilt : s ≡ Spoilt → h ≡ with_slot e k s h
  with_spoilt q = sym (rw q (slot_skipped e k Spoilt h refl))

  module _ (hit : slot_that (entry_matches e.label e.mac) s ≡ true) (o : Entry) (r : Homes) where
    pub with_learned : s ≡ Learned o → r ≡ with_home k false (not o.multihomed) (eqb e.nickname o.nickname && o.multihomed) h → r ≡ with_slot e k s h
    unfolding with_home with_slot both pick
    with_learned q is =
        let here : entry_matches e.label e.mac o ≡ true = rw q at hit in
        is ∙ sym (rw (q, here, ← and_both (eqb e.nickname o.nickname) o.multihomed))

    pub with_configured : s ≡ Configured o → r ≡ with_home k true false false h → r ≡ with_slot e k s h
    unfolding with_home with_slot pick
    with_configured q is =
        let here : entry_matches e.label e.mac o ≡ true = rw q at hit in
        is ∙ sym (rw (q, here))

-- ---- the pass

-- not more records than slots
pub few_seen : (e : Entry) (t : List ℕ) (n : ℕ) → (homes_to e n t).count ≤ n
unfolding homes_to no_homes with_slot pick
few_seen e t zero = omega arith
few_seen e t (suc n) = one_more (slot_that (entry_matches e.label e.mac) (unpacked (slot_at n t))) (few_seen e t n)
  where
    one_more : (b : Bool) → (homes_to e n t).count ≤ n → (homes_to e n t).count + pick b 1 0 ≤ suc n
    one_more true h = omega arith
    one_more false h = omega arith

module _ (e : Entry) (t : List ℕ) where
  pub seen_next : (i : ℕ) (h r : Homes) → h ≡ homes_to e i t → r ≡ with_slot e i (unpacked (drop (slot_bytes * i) t)) h → r ≡ homes_to e (i + 1) t
  unfolding homes_to
  seen_next i h r so_far is = is ∙ rw (add-one i, so_far, unpacked_near (drop (slot_bytes * i) t))

  -- no slot from i to j holds the pair
  seen_none : (i j : ℕ) → i ≤ j → ((k : ℕ) → i ≤ k → k < j → holds e.label e.mac (slot_at k t) ≡ false) → homes_to e i t ≡ homes_to e j t
  seen_none i j h none =
      let far : j - i + i ≡ j = omega arith in
      sym (rw far at (seen_skip e t i (j - i) (λ k a b. none k a (omega arith))))

  near_false : (k : ℕ) → false ≡ holds e.label e.mac (drop (slot_bytes * k) t) → holds e.label e.mac (slot_at k t) ≡ false
  near_false k h = holds_near e.label e.mac (drop (slot_bytes * k) t) ∙ sym h

  module _ (kind label : ℕ) (small : kind ≤ 1) (is : label_from kind label ≡ e.label) where
    pub seen_past : (key : ℕ) → key ≡ round_key_of e.mac → (i j : ℕ) → i ≤ j → Passed (Keyed key) i j t → (r : Homes) → r ≡ homes_to e i t → r ≡ homes_to e j t
    seen_past key q i j h passed r so_far =
        so_far
        ∙ seen_none i j h (λ k a b. near_false k (rw (← is) (other_round_key kind label e.mac small (drop (slot_bytes * k) t) (λ z. passed k a b (z ∙ sym q)))))

    -- a label and a MAC that no good record can hold
    pub seen_bad : (g : Bool) → g ≡ pair_good (label_from kind label) e.mac → g ≡ false → no_homes ≡ homes_to e (slots_of t) t
    unfolding homes_to
    seen_bad g good bad = seen_none 0 (slots_of t) (omega arith) (λ k a b. not_true_false _ (λ h.
        let yes = holds_good kind label e.mac (slot_at k t) small (rw is h) in
        let z : ◌≡◌ {A = ℕ} 0 1 = cc in
        omega arith))

  -- the record of a slot that holds the pair
  pub held_here : (kind label i : ℕ) → label_from kind label ≡ e.label → (x : Bool) → x ≡ holds (label_from kind label) e.mac (drop (slot_bytes * i) t) → x ≡ true → IsHeld (record_of (drop (slot_bytes * i) t))
  held_here kind label i is x q h = match_held (label_from kind label) e.mac (drop (slot_bytes * i) t) (sym q ∙ h)

  pub hit_here : (kind label i : ℕ) → label_from kind label ≡ e.label → (x : Bool) → x ≡ holds (label_from kind label) e.mac (drop (slot_bytes * i) t) → x ≡ true → (s : Slot) → s ≡ unpacked (drop (slot_bytes * i) t) → slot_that (entry_matches e.label e.mac) s ≡ true
  unfolding holds
  hit_here kind label i is x q h s here = rw (here, ← is) (sym q ∙ h)

  pub miss_here : (kind label i : ℕ) → label_from kind label ≡ e.label → (x : Bool) → x ≡ holds (label_from kind label) e.mac (drop (slot_bytes * i) t) → x ≡ false → (h : Homes) → h ≡ with_slot e i (unpacked (drop (slot_bytes * i) t)) h
  unfolding holds
  miss_here kind label i is x q miss h = sym (slot_skipped e i (unpacked (drop (slot_bytes * i) t)) h (rw (← is) (sym q ∙ miss)))

-- the numbers of a label are its own
pub label_is : (l : Label) (k x : ℕ) → k ≡ kind_number l → x ≡ label_number l → label_from k x ≡ l
label_is l k x p q = rw (p, q) (label_back l)
