-- Laws of searching: what the rounds exclude; numbers that no good record can hold; the outcomes of a lookup and of the search for a
-- spoilt slot.
-- Assumes nothing.
use Prim.Native.Nat.{ℕ, ◌+◌, ◌*◌, ◌^◌, ◌<◌, ◌≤◌}
use mathlib.Core.Bool.{Bool, true, false}
use mathlib.Core.List.{List}
use mathlib.Core.Path.{◌≡◌, sym, ap, ◌∙◌}
use native.Mathlib.Decide.{ℕ_discrete}
use native.Mathlib.Omega.{arith}
use lib.Dec.{eqb}
use lib.ListN.{drop, length}
use borrow.Author.Tests.{ne_eqb}
use Rattle.numbers.specs.Tests.{pick}
use Rattle.numbers.specs.Result.{check, settled}
use Rattle.numbers.proofs.Truth.{not_true_false}
use Rattle.table.specs.Record.{record_of, nickname_of, vlan_kind, fine_kind, label_from}
use Rattle.table.specs.Slots.{slot_bytes, most_slots, table_good, first_slot, lowest}
use Rattle.table.specs.Table.{holds, place_of, nickname_at, looked_up, spoilt_slot, spoilt_at, lowest_spoilt}
use Rattle.table.specs.declared.Label.TheVariants.{Vlan, Fine}
use Rattle.table.proofs.Slots.{lowest_none, lowest-within, good_slots}
use Rattle.table.proofs.Contents.{record_near, holds_near, holds_fits}
use Rattle.table_fields.specs.Keys.{round_key_of}
use Rattle.table_pairs.specs.Pairs.{pair_good}
use Rattle.table_pairs.proofs.Laws.{other_round_key, holds_good}
use Rattle.table_rounds.specs.Rounds.{Keyed, Passed}
use Rattle.table_rounds.proofs.Laws.{past}
use Rattle.std.specs.Prelude.{Option, Some, None, Ok, Err}
use Rattle.numbers.specs.declared.refusals.Refusal.TheVariants.{TableLengthBad}

-- slots that a round excludes are passed by
pub search_past : (k x m key : ℕ) → k ≤ 1 → key ≡ round_key_of m → (t : List ℕ) (i j : ℕ) → i ≤ j → Passed (Keyed key) i j t → first_slot (holds (label_from k x) m) i t ≡ None → first_slot (holds (label_from k x) m) j t ≡ None
search_past k x m key hk e =
    past (holds (label_from k x) m) (holds_near (label_from k x) m) (Keyed key) (λ r h. other_round_key k x m hk r (λ q. h (q ∙ sym e)))

-- a label and an address that no good record can hold are nowhere
pub pair_nowhere : (k x m : ℕ) (t : List ℕ) → k ≤ 1 → (g : Bool) → g ≡ pair_good (label_from k x) m → g ≡ false → None ≡ lowest (holds (label_from k x) m) t
pair_nowhere k x m t hk g e h =
    lowest_none (holds (label_from k x) m) t (λ r. not_true_false _ (λ q. true_not_false (sym (holds_good k x m r hk q) ∙ sym e ∙ h)))
  where
    true_not_false : ◌≡◌ {A = Bool} true false → ⊥
    true_not_false p = let z : ◌≡◌ {A = ℕ} 0 1 = cc in omega arith

-- ---- a lookup of any numbers

pub other_kind : (k x m : ℕ) (t : List ℕ) → 1 < k → None ≡ place_of k x m t
unfolding place_of pick
other_kind k x m t h = rw (ne_eqb k 0 (omega arith), ne_eqb k 1 (omega arith))

pub place_from : (k x m : ℕ) (t : List ℕ) → k ≤ 1 → lowest (holds (label_from k x) m) t ≡ place_of k x m t
unfolding place_of label_from pick
place_from k x m t h = go (ℕ_discrete k 0)
  where
    go : Dec (k ≡ 0) → lowest (holds (pick (eqb k 0) (Vlan x) (Fine x)) m) t ≡ pick (eqb k 0) (lowest (holds (Vlan x) m) t) (pick (eqb k 1) (lowest (holds (Fine x) m) t) None)
    go (yes e) = rw e
    go (no e) = let o : k ≡ 1 = omega arith in rw o

pub too_large : (k x m : ℕ) (t : List ℕ) → k ≤ 1 → ((x < 2 ^ 24) × (m < 2 ^ 48) → ⊥) → None ≡ place_of k x m t
too_large k x m t hk h =
    lowest_none (holds (label_from k x) m) t (λ r. not_true_false _ (λ e. h (holds_fits k x m r hk e)))
    ∙ place_from k x m t hk

-- ---- the outcomes of a lookup

pub place_within : (k x m : ℕ) (t : List ℕ) (j : ℕ) → place_of k x m t ≡ Some j → slot_bytes * j + slot_bytes ≤ length t
unfolding place_of pick
place_within k x m t j e = go (eqb k vlan_kind) (eqb k fine_kind) e
  where
    within : (p : List ℕ → Bool) → lowest p t ≡ Some j → slot_bytes * j + slot_bytes ≤ length t
    within p h = let w = lowest-within p t j h in omega arith

    go : (a b : Bool) → pick a (lowest (holds (Vlan x) m) t) (pick b (lowest (holds (Fine x) m) t) None) ≡ Some j → slot_bytes * j + slot_bytes ≤ length t
    go true b h = within (holds (Vlan x) m) h
    go false true h = within (holds (Fine x) m) h
    go false false h = let z : ◌≡◌ {A = ℕ} 0 1 = cc in absurd (omega arith)

module _ (k x m : ℕ) (t : List ℕ) (g : Bool) (good : g ≡ table_good t) where
  pub lookup_refused : g ≡ false → Err TableLengthBad ≡ looked_up k x m t
  unfolding looked_up settled check
  lookup_refused h = rw (← good, h)

  module _ (ok : g ≡ true) (p : Option ℕ) (place : p ≡ place_of k x m t) where
    pub lookup_found : (j : ℕ) → p ≡ Some j → (n : ℕ) → n ≡ nickname_of (record_of (drop (slot_bytes * j) t)) → (Ok (Some n)) ≡ looked_up k x m t
    unfolding looked_up settled check nickname_at
    lookup_found j e n f = rw (← good, ok, ← place, e, record_near (drop (slot_bytes * j) t)) (ap (λ x. Ok (Some x)) f)

    pub lookup_none : p ≡ None → (Ok None) ≡ looked_up k x m t
    unfolding looked_up settled check nickname_at
    lookup_none e = rw (← good, ok, ← place, e)

-- ---- the outcomes of the search for a spoilt slot

module _ (t : List ℕ) (g : Bool) (good : g ≡ table_good t) where
  pub spoilt_refused : g ≡ false → Err TableLengthBad ≡ lowest_spoilt t
  unfolding lowest_spoilt settled check
  spoilt_refused h = rw (← good, h)

  module _ (ok : g ≡ true) (p : Option ℕ) (place : p ≡ lowest spoilt_slot t) where
    pub spoilt-found : (j : ℕ) → p ≡ Some j → (Ok (Some j)) ≡ lowest_spoilt t
    unfolding lowest_spoilt settled check spoilt_at
    spoilt-found j e = rw (← good, ok, ← place, e)

    pub spoilt_none : p ≡ None → (Ok None) ≡ lowest_spoilt t
    unfolding lowest_spoilt settled check spoilt_at
    spoilt_none e = rw (← good, ok, ← place, e)

    pub spoilt_fits : (j : ℕ) → p ≡ Some j → j < most_slots
    spoilt_fits j e =
        let w = lowest-within spoilt_slot t j (sym place ∙ e) in
        let few = good_slots t (sym good ∙ ok) in
        omega arith
