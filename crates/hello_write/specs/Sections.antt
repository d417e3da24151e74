-- A contents area by its sections: their sub-TLVs, and the walk over them.
-- Assumes nothing.
use Rattle.std.specs.Prelude.{ℕ, ◌+◌, ◌≤◌, List, ◌++◌, ◌≡◌, length, get_or, Ok}
use Rattle.hello.specs.Pieces.{Sub, parameters_type, smart_mac_type, nickname_type, trees_type}
use Rattle.hello.specs.Area.{take_counted}
use Rattle.hello_area.specs.Entries.{take_sub, reach, subs_at}
use Rattle.hello_put.specs.declared.Cursor.{Cursor}
use Rattle.hello_put.specs.Placing.{unopened, stepped_all}
use Rattle.hello_write.specs.declared.Walk.{Walk}
use Rattle.numbers.specs.Result.{Outcome}

-- the sub-TLVs of the section of a type whose count is the number i, and where the section ends
unfoldable pub section_at : ℕ → List ℕ → ℕ → List Sub
section_at k ns i = subs_at k ns (i + 1) (get_or ns i 0)

abbrev pub section_end : ℕ → List ℕ → ℕ → ℕ
section_end k ns i = reach (take_counted (take_sub k)) ns i

-- the sub-TLVs of the four sections, in the writer's order
unfoldable pub subs_in : List ℕ → List Sub
subs_in ns =
    section_at parameters_type ns 0
    ++ (section_at nickname_type ns (section_end parameters_type ns 0)
    ++ (section_at trees_type ns (section_end nickname_type ns (section_end parameters_type ns 0))
    ++ section_at smart_mac_type ns (section_end trees_type ns (section_end nickname_type ns (section_end parameters_type ns 0)))))

-- those of the first two
unfoldable pub front_in : List ℕ → List Sub
front_in ns = section_at parameters_type ns 0 ++ section_at nickname_type ns (section_end parameters_type ns 0)

-- the walk before the first section, and after a section
abbrev pub at_first : Walk
at_first = record { cursor = unopened; next = 0 }

unfoldable pub walked : ℕ → List ℕ → Walk → Walk
walked k ns w = record { cursor = stepped_all w.cursor (section_at k ns w.next); next = section_end k ns w.next }

-- where a walk is not past the end, its cursor is that of the sub-TLVs
pub record Follows (ns : List ℕ) (c : Cursor) (ss : List Sub) (r : Walk) : Type 0 where
  pub is : r.next ≤ length ns → r.cursor ≡ stepped_all c ss

-- where an area is not refused, its payload has the size
pub record SizeIs (ns : List ℕ) (r : Outcome ℕ) : Type 0 where
  pub is : (n : ℕ) → r ≡ Ok n → n ≡ (stepped_all unopened (subs_in ns)).at
