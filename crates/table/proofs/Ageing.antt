-- Ageing keeps homes apart: an aged record is free, or the same entry with fewer seconds.
-- Assumes nothing.
use Prim.Native.Nat.{ℕ, ◌-◌, ◌%◌, ◌^◌, ◌<◌}
use mathlib.Core.Bool.{Bool, true, false}
use mathlib.Core.List.{List}
use mathlib.Core.Path.{◌≡◌, refl, sym, ap, ◌∙◌}
use native.Mathlib.Omega.{arith}
use lib.Dec.{eqb, leb}
use lib.ListN.{length, drop, length-append, length-drop}
use lib.Seq.{take_at, get_or-drop}
use borrow.Author.Tests.{leb-false}
use Rattle.numbers.specs.Tests.{pick}
use Rattle.numbers.specs.Result.{check, settled, finished}
use Rattle.numbers.specs.After.{on_table}
use Rattle.numbers.specs.Bytes.{num, bytes_of}
use Rattle.numbers.proofs.Bytes.{length-bytes_of, num-bytes_of}
use Rattle.table.specs.Record.{record_bytes, record_of, mark_of, multihomed_of, state_of, kind_of, label_of, mac_of, nickname_of, confidence_of, seconds_of, label_from, entry_of, entry_good, with_mark, slot_of, unpacked, is_learned, entry_matches, home_matches, unmarked_matches, learned_that, slot_that}
use Rattle.table.specs.Slots.{slot_bytes, table_good, freed}
use Rattle.table.specs.Table.{holds, holds_home, holds_unmarked, less_seconds, aged_slot, aged}
use Rattle.table.specs.Claims.{Apart, AgeingKeepsApart}
use Rattle.table.specs.declared.Entry.{Entry}
use Rattle.table.specs.declared.Slot.{Slot}
use Rattle.table.specs.declared.Slot.TheVariants.{Free, Learned}
use Rattle.table.proofs.Slots.{Keeps}
use Rattle.table.proofs.Marks.{marked_entry}
use Rattle.table.proofs.Contents.{learned_is, slot_learned, learned_parts, learned_entry_lem, unpacked-freed}
use Rattle.table.proofs.Apart.{Lessens, apart_all_slots}
use Rattle.std.specs.Prelude.{Ok, Err}
use Rattle.numbers.specs.declared.refusals.Refusal.{Refusal}

-- the same entry with s fewer seconds
abbrev pub fewer : ℕ → Entry → Entry
fewer s e = record {
  label = e.label;
  mac = e.mac;
  nickname = e.nickname;
  confidence = e.confidence;
  seconds = e.seconds - s;
  multihomed = e.multihomed;
}

-- ---- the fields

module _ (n s : ℕ) (more : s < seconds_of n) where
  abbrev left : ℕ
  left = (n - s) % 256 ^ record_bytes

  state_left : state_of left ≡ state_of n
  state_left = omega arith

  kind_left : kind_of left ≡ kind_of n
  kind_left = omega arith

  label_left : label_of left ≡ label_of n
  label_left = omega arith

  mac_left : mac_of left ≡ mac_of n
  mac_left = omega arith

  nickname_left : nickname_of left ≡ nickname_of n
  nickname_left = omega arith

  confidence_left : confidence_of left ≡ confidence_of n
  confidence_left = omega arith

  seconds_left : seconds_of left ≡ seconds_of n - s
  seconds_left = omega arith

  entry_left : entry_of left ≡ fewer s (entry_of n)
  unfolding entry_of
  entry_left = λ i. record {
    label = label_from (kind_left i) (label_left i);
    mac = mac_left i;
    nickname = nickname_left i;
    confidence = confidence_left i;
    seconds = seconds_left i;
    multihomed = false;
  }

  good_left : entry_good (entry_of left) ≡ entry_good (entry_of n)
  unfolding entry_good
  good_left = rw entry_left refl

  slot_left : is_learned (slot_of n) ≡ true → slot_of left ≡ Learned (fewer s (entry_of n))
  slot_left h =
      slot_learned left (learned_is left ∙ rw (good_left, state_left) (sym (learned_is n) ∙ h))
      ∙ ap Learned entry_left

-- ---- a whole record

module _ (s : ℕ) (r : List ℕ) where
  record_less : record_of (less_seconds s r) ≡ (record_of r - s) % 256 ^ record_bytes
  record_less =
      ap num (take_at (bytes_of record_bytes (record_of r - s)) (drop record_bytes r) record_bytes (length-bytes_of record_bytes (record_of r - s)))
      ∙ num-bytes_of record_bytes (record_of r - s)

  mark_less : mark_of (less_seconds s r) ≡ mark_of r
  unfolding bytes_of
  mark_less = get_or-drop record_bytes r 0 0

  -- a learned record with more than s seconds: before, and s seconds later
  module _ (learned : is_learned (unpacked r) ≡ true) (more : s < seconds_of (record_of r)) where
    abbrev entry : Entry
    entry = with_mark (eqb (multihomed_of (mark_of r)) 1) (entry_of (record_of r))

    pub before_is : unpacked r ≡ Learned entry
    before_is = learned_entry_lem r learned

    pub after_is : unpacked (less_seconds s r) ≡ Learned (fewer s entry)
    unfolding unpacked
    after_is =
        let p = learned_parts r learned in
        rw (record_less, mark_less, slot_left (record_of r) s more p.0) (marked_entry (mark_of r) (fewer s (entry_of (record_of r))) p.1)

-- a test that a free slot does not pass, and that does not look at the seconds
module _ (p : Slot → Bool) (none : p Free ≡ false) (s : ℕ) (still : (e : Entry) → p (Learned (fewer s e)) ≡ p (Learned e)) where
  aged_less : (r : List ℕ) → p (unpacked (aged_slot s r)) ≡ true → p (unpacked r) ≡ true
  unfolding aged_slot pick
  aged_less r = go (is_learned (unpacked r)) (leb (seconds_of (record_of r)) s) refl refl
    where
      go : (a b : Bool) → is_learned (unpacked r) ≡ a → leb (seconds_of (record_of r)) s ≡ b → p (unpacked (pick a (pick b freed (less_seconds s r)) r)) ≡ true → p (unpacked r) ≡ true
      go true true l q h = let z = unpacked-freed in cc
      go true false l q h =
          let more = leb-false (seconds_of (record_of r)) s q in
          let before = before_is s r l more in
          let after = after_is s r l more in
          let same = still (entry s r l more) in
          cc
      go false b l q h = h

pub aged_lessens : (s : ℕ) → Lessens (aged_slot s)
unfolding holds holds_home holds_unmarked entry_matches
aged_lessens s = record {
  pair = λ l m r h. aged_less (slot_that (entry_matches l m)) refl s (λ e. refl) r h;
  home = λ l m n r h. aged_less (slot_that (home_matches l m n)) refl s (λ e. refl) r h;
  unmarked = λ l m r h. aged_less (learned_that (unmarked_matches l m)) refl s (λ e. refl) r h;
}

pub aged_keeps : (s : ℕ) → Keeps (aged_slot s)
unfolding aged_slot pick
aged_keeps s r e = go (is_learned (unpacked r)) (leb (seconds_of (record_of r)) s)
  where
    less : length (less_seconds s r) ≡ slot_bytes
    less = simp (length-append, length-bytes_of, length-drop) (omega arith)

    go : (a b : Bool) → length (pick a (pick b freed (less_seconds s r)) r) ≡ slot_bytes
    go true true = length-bytes_of slot_bytes 0
    go true false = less
    go false b = e

-- the table after a call that may be refused
pub checked : (P : List ℕ → Type 0) (b : Bool) (n : Refusal) (t u : List ℕ) → P t → P u → P (settled (λ k. on_table (Err k) t) (check b n (Ok (on_table finished u)))).table
unfolding settled check
checked P true n t u p q = q
checked P false n t u p q = p

pub ageing_apart : AgeingKeepsApart
unfolding aged
ageing_apart s t a = checked Apart (table_good t) _ t _ a (apart_all_slots (aged_slot s) (aged_keeps s) (aged_lessens s) t a)
