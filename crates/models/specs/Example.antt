-- What is not promised: a message that the full model refuses as corrupt and the small one carries out.
-- Assumes nothing.
use Rattle.std.specs.Prelude.{ℕ, false, List, [], ◌∷◌, ◌≡◌, Ok, Err}
use Rattle.numbers.specs.After.{on_table}
use Rattle.table.specs.Record.{learned_state, packed}
use Rattle.table.specs.Slots.{freed}
use Rattle.table.specs.declared.Label.TheVariants.{Vlan}
use Rattle.flush.specs.Flush.{flushed}
use Rattle.models.specs.Models.{flushed_vlan_only}
use Rattle.numbers.specs.declared.refusals.Refusal.TheVariants.{PayloadCorrupt}

-- a learned record of the sender
abbrev pub known : List ℕ
known = packed learned_state (record { label = Vlan 10; mac = 0x0200_0000_0001; nickname = 0x1234; confidence = 20; seconds = 300; multihomed = false })

-- all labels, and a MAC list of one byte
abbrev pub broken : List ℕ
broken = 0x00 ∷ 0x00 ∷ 0x06 ∷ 0x00 ∷ 0x07 ∷ 0x01 ∷ 0x00 ∷ []

-- all labels, and fine-grained blocks of one byte
abbrev pub broken_fine : List ℕ
broken_fine = 0x00 ∷ 0x00 ∷ 0x06 ∷ 0x00 ∷ 0x03 ∷ 0x01 ∷ 0x00 ∷ []

pub record NotPromised : Type 0 where
  pub full : flushed 0x1234 broken known ≡ on_table (Err PayloadCorrupt) known
  pub small : flushed_vlan_only 0x1234 broken known ≡ on_table (Ok 1) freed
  pub full_fine : flushed 0x1234 broken_fine known ≡ on_table (Err PayloadCorrupt) known
  pub small_fine : flushed_vlan_only 0x1234 broken_fine known ≡ on_table (Ok 1) freed
