-- Worked flush messages: the two vectors of request 2026-03, and what is refused.
-- Assumes nothing.
use Rattle.std.specs.Prelude.{ℕ, List, [], ◌∷◌, map, ◌≡◌, replicate, length, Ok, Err}
use Rattle.numbers.specs.Result.{Outcome}
use Rattle.flush_write.specs.Writing.{Block, Asked, written_flush}
use Rattle.numbers.specs.declared.refusals.Refusal.TheVariants.{ListsBad}

abbrev block_from : ℕ → ℕ → Block
block_from s e = record { start = s; end = e }

abbrev asking : List ℕ → List Block → List Block → List Block → Asked
asking n v f m = record { nicks = n; vlan_blocks = v; fine_blocks = f; mac_blocks = m }

-- nickname 1234, VLANs 10 to 12; no nickname, the same VLANs and one MAC
abbrev pub asked_cases : List Asked
asked_cases =
    asking (0x1234 ∷ []) (block_from 10 12 ∷ []) [] []
    ∷ asking [] (block_from 10 12 ∷ []) [] (block_from 0x0200_0000_0001 0x0200_0000_0001 ∷ [])
    ∷ []

abbrev pub written_cases : List (Outcome (List ℕ))
written_cases =
    Ok (0x01 ∷ 0x12 ∷ 0x34 ∷ 0x01 ∷ 0x00 ∷ 0x0A ∷ 0x00 ∷ 0x0C ∷ [])
    ∷ Ok (0x00 ∷ 0x00 ∷ 0x01 ∷ 0x04 ∷ 0x00 ∷ 0x0A ∷ 0x00 ∷ 0x0C ∷ 0x08 ∷ 0x0C ∷ 0x02 ∷ 0x00 ∷ 0x00 ∷ 0x00 ∷ 0x00 ∷ 0x01 ∷ 0x02 ∷ 0x00 ∷ 0x00 ∷ 0x00 ∷ 0x00 ∷ 0x01 ∷ [])
    ∷ []

-- no label; an end below its start; VLAN 0; VLAN FFF; a label over FFFFFF; a MAC over 48 bits; 256 nicknames; 256 blocks
abbrev pub refused_asked : List Asked
refused_asked =
    asking [] [] [] (block_from 1 1 ∷ [])
    ∷ asking [] (block_from 12 10 ∷ []) [] []
    ∷ asking [] (block_from 0 10 ∷ []) [] []
    ∷ asking [] (block_from 10 0xFFF ∷ []) [] []
    ∷ asking [] [] (block_from 0 0x100_0000 ∷ []) []
    ∷ asking [] (block_from 10 12 ∷ []) [] (block_from 0 0x1_0000_0000_0000 ∷ [])
    ∷ asking (replicate 256 1) (block_from 10 12 ∷ []) [] []
    ∷ asking [] (replicate 256 (block_from 10 12)) [] []
    ∷ []

-- lengths on both sides of a full TLV: 63 and 64 VLAN blocks, 42 and 43 fine-grained, 21 and 22 of MACs
abbrev pub full_asked : List Asked
full_asked =
    asking [] (replicate 63 (block_from 10 12)) (block_from 5 5 ∷ []) []
    ∷ asking [] (replicate 64 (block_from 10 12)) (block_from 5 5 ∷ []) []
    ∷ asking [] [] (replicate 42 (block_from 10 12)) []
    ∷ asking [] [] (replicate 43 (block_from 10 12)) []
    ∷ asking [] (block_from 10 12 ∷ []) [] (replicate 21 (block_from 10 12))
    ∷ asking [] (block_from 10 12 ∷ []) [] (replicate 22 (block_from 10 12))
    ∷ []

unfoldable pub written_length : Outcome (List ℕ) → ℕ
written_length (Err n) = 0
written_length (Ok l) = length l

pub record WriterCases : Type 0 where
  pub written : map written_flush asked_cases ≡ written_cases
  pub refusals : map written_flush refused_asked ≡ replicate 8 (Err ListsBad)
  pub lengths : map (λ a. written_length (written_flush a)) full_asked ≡ 264 ∷ 270 ∷ 256 ∷ 264 ∷ 262 ∷ 276 ∷ []
