-- The mark, the seconds, the entry that is learned, and what it teaches.
-- Assumes nothing.
use Prim.Native.Nat.{ℕ, ◌^◌, ◌<◌}
use mathlib.Core.Bool.{Bool, true, ◌&&◌, ◌||◌}
use mathlib.Core.List.{List}
use mathlib.Core.Path.{◌≡◌}
use native.Mathlib.Omega.{arith}
use lib.Dec.{eqb}
use borrow.Author.Tests.{eq-eqb, ne_eqb}
use Rattle.numbers.specs.Tests.{pick}
use Rattle.numbers.specs.After.{on_table}
use Rattle.numbers.proofs.Truth.{and_both, or_either}
use Rattle.table.specs.Learning.{learnt}
use Rattle.table.specs.Record.{label_number}
use Rattle.table.specs.declared.Entry.{Entry}
use Rattle.table.specs.declared.Label.{Label}
use Rattle.table.specs.declared.Learning.{Learning}
use Rattle.table.specs.declared.Learning.TheVariants.{Kept}
use Rattle.table_records.specs.Entries.{Fits}
use Rattle.frame.specs.Header.{first_reserved, second_reserved}
use Rattle.frame.specs.Settings.{settings_good, first_bit, second_bit, life_of, default_life}
use Rattle.frame.specs.declared.Settings.{Settings}
use Rattle.receive.specs.Deciding.{is_marked}
use Rattle.receive.proofs.Outcomes.{settings_fit}
use Rattle.receive_teach.specs.Meaning.{learned_of, taught_of}

-- ---- the mark

pub mark_test : (s : Settings) (h : List ℕ) (x y : ℕ) → x ≡ first_reserved h → y ≡ second_reserved h → (eqb s.multihomed first_bit && eqb x 1) || (eqb s.multihomed second_bit && eqb y 1) ≡ is_marked s h
unfolding is_marked
mark_test s h x y ex ey = rw (ex, ey, ← and_both (eqb s.multihomed first_bit) (eqb (first_reserved h) 1), ← and_both (eqb s.multihomed second_bit) (eqb (second_reserved h) 1)) (or_either _ _)

-- ---- the seconds

pub life_default : (n : ℕ) → n ≡ 0 → default_life ≡ pick (eqb n 0) default_life n
unfolding pick
life_default n h = rw (eq-eqb n 0 h)

pub life_given : (n : ℕ) → (n ≡ 0 → ⊥) → n ≡ pick (eqb n 0) default_life n
unfolding pick
life_given n h = rw (ne_eqb n 0 h)

-- what is learned fits its bits
pub learned_is : (s : Settings) (l : Label) (m n k : ℕ) (mark : Bool) → settings_good s ≡ true → label_number l < 2 ^ 24 → m < 2 ^ 48 → k ≡ life_of default_life s
    → (◌≡◌ {A = Entry} (record { label = l; mac = m; nickname = n; confidence = s.confidence; seconds = k; multihomed = mark }) (learned_of s l m n mark))
    × Fits (record { label = l; mac = m; nickname = n; confidence = s.confidence; seconds = k; multihomed = mark })
learned_is s l m n k mark set a b e =
    (rw e, record { label = a; mac = b; seconds = rw e (settings_fit default_life s (omega arith) set).1 })

-- ---- what is taught

pub taught-nothing : (own : ℕ) (e : Entry) (t : List ℕ) → e.nickname ≡ own → on_table Kept t ≡ taught_of own e t
unfolding taught_of pick
taught-nothing own e t h = rw (eq-eqb e.nickname own h)

pub taught_learns : (own : ℕ) (e : Entry) (t u : List ℕ) (how : Learning) → (e.nickname ≡ own → ⊥) → on_table how u ≡ learnt e t → on_table how u ≡ taught_of own e t
unfolding taught_of pick
taught_learns own e t u how h l = rw (ne_eqb e.nickname own h) l
