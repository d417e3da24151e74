-- The worked cases of 2026-01.
-- Assumes nothing.
use Rattle.std.specs.Prelude.{ℕ, List, [], ◌∷◌, ◌≡◌, take, Ok, Err}
use Rattle.numbers.specs.After.{OnBoth}
use Rattle.table.specs.Slots.{freed}
use Rattle.frame.specs.declared.Settings.{Settings}
use Rattle.receive.specs.Receive.{port_received}
use Rattle.receive.specs.Words.{read_word}
use Rattle.receive.specs.declared.ReadAnswer.{ReadAnswer}
use Rattle.ingress.specs.Ingress.{ingressing}
use Rattle.ingress.specs.declared.Given.{Given}
use Rattle.numbers.specs.Result.{Outcome}
use Rattle.numbers.specs.Refusals.{number_of}
use Rattle.numbers.specs.declared.refusals.Refusal.TheVariants.{CutShort, LabelBad, NoPair}

abbrev pub near_port : Settings
near_port = record {
  port = 0x0200_0000_00B2;
  inner = 0x0200_0000_00B3;
  nickname = 0x1234;
  compact = 0;
  confidence = 32;
  seconds = 0;
  multihomed = 0;
  smart = 0;
}

abbrev pub given : Given
given = record {
  destination = 0x0200_0000_00A1;
  source = 0x0200_0000_00B2;
  multicast = 0;
  hops = 5;
  egress = 0x0102;
  ingress = 0x1234;
}

abbrev pub map_bytes : List ℕ
map_bytes = 0x00 ∷ 0x0A ∷ 0x00 ∷ 0xAB ∷ 0xCD ∷ 0xEF ∷ []

-- tagged, its tag's first byte as given
abbrev pub native_with : ℕ → List ℕ
native_with b = 0x02 ∷ 0x00 ∷ 0x00 ∷ 0x00 ∷ 0x00 ∷ 0x0D ∷ 0x02 ∷ 0x00 ∷ 0x00 ∷ 0x00 ∷ 0x00 ∷ 0x01 ∷ 0x81 ∷ 0x00 ∷ b ∷ 0x0A ∷ 0x08 ∷ 0x00 ∷ 0x45 ∷ 0x00 ∷ []

abbrev pub untagged : List ℕ
untagged = 0x02 ∷ 0x00 ∷ 0x00 ∷ 0x00 ∷ 0x00 ∷ 0x0D ∷ 0x02 ∷ 0x00 ∷ 0x00 ∷ 0x00 ∷ 0x00 ∷ 0x01 ∷ 0x08 ∷ 0x00 ∷ 0x45 ∷ 0x00 ∷ []

abbrev pub general : List ℕ
general =
    0x02 ∷ 0x00 ∷ 0x00 ∷ 0x00 ∷ 0x00 ∷ 0xA1 ∷ 0x02 ∷ 0x00 ∷ 0x00 ∷ 0x00 ∷ 0x00 ∷ 0xB2 ∷ 0x22 ∷ 0xF3 ∷ 0x00 ∷ 0x05 ∷ 0x01 ∷ 0x02 ∷ 0x12 ∷ 0x34
    ∷ 0x02 ∷ 0x00 ∷ 0x00 ∷ 0x00 ∷ 0x00 ∷ 0x0D ∷ 0x02 ∷ 0x00 ∷ 0x00 ∷ 0x00 ∷ 0x00 ∷ 0x01 ∷ 0x89 ∷ 0x3B ∷ 0x6A ∷ 0xBC ∷ 0x89 ∷ 0x3B ∷ 0x6D ∷ 0xEF ∷ 0x08 ∷ 0x00 ∷ 0x45 ∷ 0x00 ∷ []

abbrev pub far_port : Settings
far_port = record {
  port = 0x0200_0000_00A1;
  inner = 0x0200_0000_00B1;
  nickname = 0x0102;
  compact = 1;
  confidence = 32;
  seconds = 0;
  multihomed = 0;
  smart = 0;
}

-- "Read by port ..A1, nickname 0102, one free slot, same map", with an area of 20 bytes
abbrev pub read_back : OnBoth (Outcome ReadAnswer)
read_back = port_received far_port map_bytes general freed (take 20 general)

pub record MapCases : Type 0 where
  pub plain : ingressing near_port map_bytes given (native_with 0x60) ≡ Ok general
  -- DEI is not copied
  pub dei : ingressing near_port map_bytes given (native_with 0x70) ≡ Ok general
  pub content_cut : ingressing near_port map_bytes given (take 17 (native_with 0x60)) ≡ Err CutShort
  pub tag_cut : ingressing near_port map_bytes given (take 15 (native_with 0x60)) ≡ Err CutShort
  pub no_tag : ingressing near_port map_bytes given untagged ≡ Err LabelBad
  pub no_map : ingressing near_port [] given (native_with 0x60) ≡ Err NoPair
  -- the numbers of these refusals: 6, 10 and 22
  pub cut_number : number_of CutShort ≡ 6
  pub label_number : number_of LabelBad ≡ 10
  pub pair_number : number_of NoPair ≡ 22
  -- "the native bytes, answer 0xABCDEF0100001441"
  pub answer : read_word read_back.answer ≡ 0xABCD_EF01_0000_1441
  pub native : read_back.out ≡ native_with 0x60
