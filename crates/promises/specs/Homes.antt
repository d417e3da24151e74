-- Two homes through reading (2026-12): which frames are marked, and that with the setting none learning goes on as document 01 says.
-- Assumes nothing.
use Rattle.std.specs.Prelude.{ℕ, List, [], ◌∷◌, ◌≡◌, Err}
use Rattle.table.specs.Slots.{freed}
use Rattle.table.specs.Learning.{learnt}
use Rattle.table.specs.Before.{learnt_before}
use Rattle.table.specs.Claims.{Unique}
use Rattle.frame.specs.Fields.{Fields}
use Rattle.frame.specs.declared.Settings.{Settings}
use Rattle.receive.specs.Receive.{learned_entry, received}
use Rattle.promises.specs.Cases.{far_port, p1}
use Rattle.promises.specs.Example.{out_before}
use Rattle.numbers.specs.Refusals.{number_of}
use Rattle.numbers.specs.declared.refusals.Refusal.TheVariants.{SettingsBad}

-- with the setting none, where no pair stands twice, a frame is learned as document 01 says: answer and bytes
abbrev pub NoneAsBefore : Type 0
NoneAsBefore =
    (life : ℕ) (s : Settings) (p : Fields) (t : List ℕ) → s.multihomed ≡ 0 → Unique t → learnt (learned_entry life s p) t ≡ learnt_before (learned_entry life s p) t

-- P10's Compact frame with this first byte of the header
abbrev pub frame_with : ℕ → List ℕ
frame_with bits =
    0x02 ∷ 0x00 ∷ 0x00 ∷ 0x00 ∷ 0x00 ∷ 0x0D ∷ 0x02 ∷ 0x00 ∷ 0x00 ∷ 0x00 ∷ 0x00 ∷ 0x01 ∷ 0x81 ∷ 0x00 ∷ 0x00 ∷ 0x0A ∷ 0x22 ∷ 0xF3
    ∷ bits ∷ 0x05 ∷ 0x01 ∷ 0x02 ∷ 0x12 ∷ 0x34 ∷ 0x08 ∷ 0x00 ∷ 0x45 ∷ 0x00 ∷ []

-- the port of the cases with this setting
abbrev pub port_with : ℕ → Settings
port_with bit = record {
  port = far_port.port;
  inner = far_port.inner;
  nickname = far_port.nickname;
  compact = far_port.compact;
  confidence = far_port.confidence;
  seconds = far_port.seconds;
  multihomed = bit;
  smart = 0;
}

-- P1 with the mark
abbrev pub p1_marked : List ℕ
p1_marked = 0x40 ∷ 0x00 ∷ 0x01 ∷ 0x40 ∷ 0x40 ∷ 0x00 ∷ 0x00 ∷ 0x00 ∷ 0x00 ∷ 0x22 ∷ 0x46 ∷ 0x82 ∷ 0x81 ∷ 0x2C ∷ 0x80 ∷ []

-- "0 none, 1 the first R bit, 2 the second": what is learned in a table of one free slot
abbrev pub learned_of : ℕ → ℕ → List ℕ
learned_of bit bits = (received (port_with bit) (frame_with bits) freed out_before).table

pub record MarkedRead : Type 0 where
  pub first : learned_of 1 0x20 ≡ p1_marked
  pub second : learned_of 2 0x10 ≡ p1_marked
  pub not_first : learned_of 1 0x10 ≡ p1
  pub not_second : learned_of 2 0x20 ≡ p1
  pub none : learned_of 0 0x30 ≡ p1
  pub beyond : (received (port_with 3) (frame_with 0x20) freed out_before).answer ≡ Err SettingsBad
  -- which is 1
  pub beyond_number : number_of SettingsBad ≡ 1
