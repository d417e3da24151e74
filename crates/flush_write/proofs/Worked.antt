-- The worked messages, by computation.
-- Assumes nothing.
use mathlib.Core.Path.{◌≡◌, refl}
use lib.ListN.{replicate}
use mathlib.Core.List.{[], ◌∷◌, map, flat_map}
use Rattle.numbers.specs.Tests.{pick, both, all_of}
use Rattle.numbers.specs.Bytes.{bytes_of}
use Rattle.numbers.specs.Result.{check}
use Rattle.flush_write.specs.Writing.{block_good, blocks_good, labels_named, asked_good, block_bytes, blocks_bytes, nicks_bytes, groups_from, groups, tlv_bytes, tlvs_bytes, only_vlans, flush_bytes, written_flush}
use Rattle.flush_write.specs.Cases.{asked_cases, written_cases, refused_asked, full_asked, written_length, WriterCases}
use Rattle.std.specs.Prelude.{Err}
use Rattle.numbers.specs.declared.refusals.Refusal.TheVariants.{ListsBad}

writes : map written_flush asked_cases ≡ written_cases
unfolding flat_map pick both bytes_of check all_of block_good blocks_good labels_named asked_good block_bytes blocks_bytes nicks_bytes groups_from groups tlv_bytes tlvs_bytes only_vlans flush_bytes written_flush
writes = refl

refuses : map written_flush refused_asked ≡ replicate 8 (Err ListsBad)
unfolding flat_map pick both bytes_of check all_of block_good blocks_good labels_named asked_good block_bytes blocks_bytes nicks_bytes groups_from groups tlv_bytes tlvs_bytes only_vlans flush_bytes written_flush
refuses = refl

lengths : map (λ a. written_length (written_flush a)) full_asked ≡ 264 ∷ 270 ∷ 256 ∷ 264 ∷ 262 ∷ 276 ∷ []
unfolding written_length flat_map pick both bytes_of check all_of block_good blocks_good labels_named asked_good block_bytes blocks_bytes nicks_bytes groups_from groups tlv_bytes tlvs_bytes only_vlans flush_bytes written_flush
lengths = refl

pub writer_cases : WriterCases
writer_cases = record { written = writes; refusals = refuses; lengths = lengths }
