-- A payload that is cut into its parts.
-- Assumes nothing.
use Rattle.std.specs.Prelude.{ℕ, ◌+◌, ◌*◌, ◌≤◌, List, ◌≡◌, length}
use Rattle.numbers.specs.Tests.{any_of}
use Rattle.flush.specs.Payload.{every_type, nick_bytes, block_count, behind, block_bytes, pieces_of, Payload}
use Rattle.flush_payload.specs.Judging.{mac_kind, of_kind}
use Rattle.flush_payload.specs.declared.Kinds.{Kinds}

-- the bytes of the nicknames, K-VLBs and the bytes behind it
abbrev pub cut : List ℕ → ℕ → List ℕ → Payload
cut nicks blocks rest = record { nicks = nicks; pieces = pieces_of blocks rest }

-- the bytes behind K-VLBs have the blocks, and it was noted whether they have TLVs of MACs
pub record GoodRest (f : Kinds) (rest : List ℕ) : Type 0 where
  pub blocks : block_bytes * f.blocks ≤ length rest
  pub macs : f.macs ≡ any_of (of_kind every_type mac_kind) (pieces_of f.blocks rest)

-- the counts of the payload l are there, and so is what was noted of it
pub record GoodParts (l : List ℕ) (f : Kinds) : Type 0 where
  pub counts : 2 + nick_bytes l ≤ length l
  pub number : f.blocks ≡ block_count l
  pub rest : GoodRest f (behind l)
