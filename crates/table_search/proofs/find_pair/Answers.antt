-- `table_search::find_pair` meets its contract: slot 0 holds the label and the address, or the lowest after it is theirs.
use Prim.Native.Nat.{ℕ, ◌≤◌, ◌<◌, ◌^◌}
use mathlib.Core.Bool.{Bool, true}
use mathlib.Core.List.{List}
use mathlib.Core.Path.{◌≡◌, refl, sym, ◌∙◌}
use native.Mathlib.Omega.{arith}
use Rattle.table.specs.Slots.{first_slot}
use Rattle.table.specs.Record.{label_from}
use Rattle.table.specs.Table.{holds}
use Rattle.table.proofs.Slots.{search_next, search_hit, search_end}
use Rattle.table_pairs.specs.Pairs.{Pair, pair_good}
use Rattle.table.proofs.Contents.{holds_near}
use Rattle.table_search.proofs.Laws.{pair_nowhere}
use borrow.Author.Rules.{rules}
use Rattle.table_search.proofs.find_pair.Goals as goal
use Rattle.std.specs.Prelude.{None}

-- a good record can hold them
pair : (kind label mac : ℕ) → (kind ≤ 1) × ((label < 2 ^ 24) × (mac < 2 ^ 48)) → (good : Bool) → good ≡ pair_good (label_from kind label) mac → good ≡ true → Pair kind label mac
pair kind label mac small good e h = record { kind_small = small.0; label_small = small.1.0; mac_small = small.1.1; good = sym e ∙ h }

-- there is none before slot 0
none : (p : List ℕ → Bool) (t : List ℕ) → first_slot p 0 t ≡ None
unfolding first_slot
none p t = refl

pub returns-then-not-pair_good : goal.returns-then-not-pair_good
returns-then-not-pair_good c =
    let a = c.args in
    pair_nowhere a.kind a.label a.mac a.t.now c.requires.0 _ c.pair_good.ensures c.if-not-pair_good.true

pub returns-then-t-lt-SLOT_BYTES : goal.returns-then-t-lt-SLOT_BYTES
returns-then-t-lt-SLOT_BYTES c =
    let a = c.args in
    search_end (holds (label_from a.kind a.label) a.mac) (holds_near (label_from a.kind a.label) a.mac) a.t.now 0 (omega arith) (omega arith) (none _ _)

pub holds_at-requires : goal.holds_at-requires
holds_at-requires c = (search rules, (c.key_of-key.ensures, pair _ _ _ c.requires _ c.pair_good.ensures c.if-not-pair_good.false))

pub returns-then-holds_at : goal.returns-then-holds_at
returns-then-holds_at c =
    let a = c.args in
    search_hit (holds (label_from a.kind a.label) a.mac) (holds_near (label_from a.kind a.label) a.mac) a.t.now 0 (none _ _) _ c.holds_at.ensures (omega arith) c.if-holds_at.true

pub find_after-requires : goal.find_after-requires
find_after-requires c =
    let a = c.args in
    let here = search_next (holds (label_from a.kind a.label) a.mac) (holds_near (label_from a.kind a.label) a.mac) a.t.now 0 (none _ _) _ c.holds_at.ensures c.if-holds_at.false in
    (omega arith, (c.key_of-key.ensures, (pair _ _ _ c.requires _ c.pair_good.ensures c.if-not-pair_good.false, here)))

pub returns : goal.returns
returns c = c.find_after.ensures
