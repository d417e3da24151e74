-- Laws of a filter by a number: keys that were sorted mark the same slots, and the slots marked anew are those that pass.
-- Assumes nothing.
use Prim.Native.Nat.{ℕ, ◌≤◌, ◌<◌}
use mathlib.Core.Bool.{Bool, true, false, not}
use mathlib.Core.List.{List}
use mathlib.Core.Path.{◌≡◌, refl, sym, ap, ◌∙◌}
use native.Mathlib.Omega.{arith}
use lib.Dec.{eqb}
use lib.ListN.{length, take, replicate}
use lib.Seq.{length-take-le}
use Rattle.numbers.specs.Tests.{both, either, any_of}
use Rattle.numbers.specs.Numberings.{macs, bit_at}
use Rattle.numbers.proofs.Truth.{false_true}
use Rattle.table.specs.Slots.{slots_of, slot_at, most_slots}
use Rattle.flush.specs.Payload.{Piece}
use Rattle.flush_sort.specs.Sorting.{SortOf}
use Rattle.flush_parts.specs.Named.{fine_naming, named_of}
use Rattle.flush_buckets.specs.Buckets.{HasBits}
use Rattle.flush_parts.specs.Parts.{Narrow}
use Rattle.flush_parts.specs.declared.Naming.{Naming}
use Rattle.flush_marks.specs.Marks.{NoMarks, Filtered, Listed, Listing}
use Rattle.flush_marks.proofs.Bits.{zeros_none}
use Rattle.flush_marks.specs.Filters.{Filtering}
use Rattle.flush_keys.specs.Keys.{number_in, applies_to, keyed, InTable, Hit, Marked, Joined, KeysOf}
use Rattle.flush_keys.specs.declared.Field.{Field}
use Rattle.flush_keys.specs.declared.Field.TheVariants.{Fine, Mac}
use Rattle.flush_intervals.specs.Hits.{Hits}
use Rattle.flush_filters.specs.Numbers.{naming_of, slot_passes, Keyed, Kept}
use Rattle.std.specs.Prelude.{Option, None}

-- ---- keys

pub named_hits : (f : Field) (d : Naming) → d ≡ naming_of f → (ps : List Piece) (keys h u : List ℕ) → Hits (named_of d ps) keys h u → Hits (named_of (naming_of f) ps) keys h u
named_hits f d e ps keys h u g = rw (← e) g

-- what is hit from nothing
hit_alone : (q : ℕ → Bool) (keys z h : List ℕ) → ((x : ℕ) → bit_at x z ≡ false) → Hits q keys z h → Hit q keys h
unfolding either
hit_alone q keys z h none g = record { each = λ i k. g.each i k ∙ rw (none i) }

sorted_marks : (q : ℕ → Bool) (k₀ keys s u : List ℕ) → SortOf k₀ keys → Marked q keys s u → Marked q k₀ s u
sorted_marks q k₀ keys s u sort m = record { long = m.long; each = λ j. m.each j ∙ ap (either (bit_at j s)) (sym (sort.same (keyed q j))) }

pub marks_named : (q : ℕ → Bool) (k₀ keys : List ℕ) → SortOf k₀ keys → (h : List ℕ) → Hits q keys (replicate 513 0) h → (s u : List ℕ) → ((p : ℕ → Bool) → Hit p keys h → Marked p keys s u) → Marked q k₀ s u
marks_named q k₀ keys sort h hits s u collect = sorted_marks q k₀ keys s u sort (collect q (hit_alone q keys (replicate 513 0) h (zeros_none 513) hits))

-- ---- the slots that pass

pub in_table : (t m slots : List ℕ) (c : ℕ) → Filtering t m → Listed m (slots_of t) c slots → InTable t (take c slots)
in_table t m slots c f l = record { few = f.few; each = l.slots }

passed : (a b c : Bool) → either (both a (not b)) (both a (both b c)) ≡ both a (either (not b) c)
unfolding either both
passed true true c = refl
passed true false c = refl
passed false b c = refl

module _ (f : Field) (ps : List Piece) (t slots : List ℕ) where
  pub slots_keyed : (d : Naming) → d ≡ naming_of f → (z o : List ℕ) → NoMarks z → Joined (λ j. not (applies_to f (slot_at j t))) slots z o → (named : List ℕ) → HasBits (named_of d ps) named
      → (keys : List ℕ) (n : ℕ) → (n ≤ length slots) × KeysOf (λ j. applies_to f (slot_at j t)) (λ j. number_in f (slot_at j t)) slots named (take n keys) → (k : List ℕ) → length keys ≡ length k → length slots ≤ length k → Keyed f ps t slots keys n o
  unfolding either
  slots_keyed d e z o empty joined named has keys n of k same few = record {
    within = omega (arith, of.0);
    long = joined.long ∙ empty.long;
    others = λ j. joined.each j ∙ rw (empty.none j);
    named = of.1.each (named_of (naming_of f) ps) (rw (← e) has);
  }

  pub marked_anew : (m : List ℕ) → Filtering t m → ((j : ℕ) → j < slots_of t → any_of (eqb j) slots ≡ bit_at j m) → (keys : List ℕ) (n : ℕ) (o u : List ℕ) → Keyed f ps t slots keys n o
      → Marked (named_of (naming_of f) ps) (take n keys) o u → Filtered (slot_passes f ps) t m u
  unfolding slot_passes
  marked_anew m fits listed keys n o u keyed marked = record {
    long = marked.long ∙ keyed.long ∙ sym fits.long;
    each = λ j h.
        marked.each j
        ∙ rw (keyed.others j, keyed.named j, listed j h)
        (passed (bit_at j m) (applies_to f (slot_at j t)) (named_of (naming_of f) ps (number_in f (slot_at j t))));
  }

-- ---- room

pub full_room : (m : List ℕ) (n : ℕ) (s u : List ℕ) (r : Option ℕ) → Listing m n s u r → r ≡ None → length s < n
full_room m n s u r l e = let same = l.long in let less = l.full e in omega arith

pub lent_fits : (c : ℕ) (slots keys : List ℕ) → c ≤ length slots → length keys ≡ length slots → length (take c slots) ≤ length keys
lent_fits c slots keys h e = let z : length (take c slots) ≡ c = length-take-le c slots h in omega arith

pub lent_few : (n : ℕ) (k keys slots : List ℕ) → n ≤ length k → length k ≡ length keys → length keys ≡ length slots → length slots ≤ most_slots → (length (take n k) ≤ most_slots) × (length (take n k) ≤ length slots)
lent_few n k keys slots h same e few = let z : length (take n k) ≡ n = length-take-le n k h in (omega arith, omega arith)

-- ---- how the numbers are named

macs_narrow : Narrow macs
macs_narrow = record { sound = record { width = record { least = omega arith; most = omega arith; six = λ a b. refl }; modulus_some = omega arith }; modulus_le = omega arith; low_le = omega arith; high_le = omega arith }

pub naming_fine : (f : Field) → f ≡ Fine → (d : Naming) → (d ≡ fine_naming) × Narrow d.numbering → (d ≡ naming_of f) × Narrow d.numbering
unfolding naming_of
naming_fine f e d told = rw e told

pub naming_mac : (f : Field) → f ≡ Mac → (record { blocks = 8; singles = 7; mapped = false; maps = 8; numbering = macs } ≡ naming_of f) × Narrow macs
unfolding naming_of
naming_mac f e = rw e (refl, macs_narrow)

-- ---- what was kept

pub kept_none : (test : List ℕ → Bool) (t m : List ℕ) → Kept false test t m m
kept_none test t m = record { done = λ e. false_true e; same = λ e. refl }

pub kept_all : (test : List ℕ → Bool) (t before after : List ℕ) → Filtered test t before after → Kept true test t before after
kept_all test t before after f = record { done = λ e. f; same = λ e. false_true (sym e) }

-- all slots find room
pub room_for_all : (r : Bool) (test : List ℕ → Bool) (t a b : List ℕ) → Kept r test t a b → (n : ℕ) → (r ≡ false → n < slots_of t) → slots_of t ≤ n → Filtered test t a b
room_for_all true test t a b kept n full few = kept.done refl
room_for_all false test t a b kept n full few = let z = full refl in absurd (omega arith)
