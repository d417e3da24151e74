-- What the pass has seen, with one record more of the pair.
-- Assumes nothing.
use Rattle.std.specs.Prelude.{ℕ, ◌+◌, ◌^◌, ◌<◌, ◌≤◌, Bool, true, ◌≡◌}
use Rattle.numbers.specs.Tests.{either}
use Rattle.table.specs.Record.{label_from}
use Rattle.table.specs.declared.Entry.{Entry}
use Rattle.table_fields.specs.Keys.{key_of}
use Rattle.table_pairs.specs.Pairs.{Pair}
use Rattle.table_homes.specs.Pass.{or_here}
use Rattle.table_homes.specs.declared.Homes.{Homes}

-- a record of the pair in slot k: configured, or learned without the mark, or with it and the nickname that is asked for
unfoldable pub with_home : ℕ → Bool → Bool → Bool → Homes → Homes
with_home k configured unmarked marked h = record {
  configured = either h.configured configured;
  unmarked = or_here h.unmarked k unmarked;
  marked = or_here h.marked k marked;
  lowest = or_here h.lowest k true;
  count = h.count + 1;
}

-- the count is that of slots of a table
pub record Counts (k : ℕ) (h : Homes) : Type 0 where
  pub few : h.count ≤ k
  pub small : k < 2 ^ 61

-- the numbers of the entry's label and MAC, such as a good record can hold, and its key
pub record Sought (key kind label : ℕ) (e : Entry) : Type 0 where
  pub key_is : key ≡ key_of e.mac
  pub pair : Pair kind label e.mac
  pub label_is : label_from kind label ≡ e.label
