-- 2026-10: "Learning seconds 0 shall mean 1,200 instead of 300. Records already in a table keep their seconds. Visitor ports want the old
-- life and now pass 300. Show that a port passing 300 behaves after the change as one passing 0 did before." After stands left of ≡, before
-- right of it: the definitions with the old default as their parameter.
-- Assumes nothing.
use Rattle.std.specs.Prelude.{ℕ, List, ◌≡◌}
use Rattle.frame.specs.declared.Settings.{Settings}
use Rattle.convert.specs.Compaction.{compacted}
use Rattle.convert.specs.Expansion.{Outer, expanded}
use Rattle.convert.specs.Sending.{sent}
use Rattle.receive.specs.Receive.{received_with, port_received}
use Rattle.promises.specs.Interchange.{Call, run_with, run}

-- what 0 meant before
abbrev pub old_life : ℕ
old_life = 300

-- a port's settings, but for the learning seconds that they pass
abbrev pub passing : ℕ → Settings → Settings
passing seconds s = record {
  port = s.port;
  inner = s.inner;
  nickname = s.nickname;
  compact = s.compact;
  confidence = s.confidence;
  seconds = seconds;
  multihomed = s.multihomed;
  smart = s.smart;
}

-- for all settings, good or not: every reading, and every list of calls from every table, with all answers, refusals, table bytes and
-- output bytes. The other calls have settings too, of which the seconds bear on refusal 1 alone.
pub record LifeAsBefore : Type 0 where
  pub reading : (s : Settings) (m f t o : List ℕ) → port_received (passing 300 s) m f t o ≡ received_with old_life (passing 0 s) m f t o
  pub calls : (s : Settings) (t : List ℕ) (cs : List Call) → run (passing 300 s) t cs ≡ run_with old_life (passing 0 s) t cs
  pub compaction : (s : Settings) (f area : List ℕ) → compacted (passing 300 s) f area ≡ compacted (passing 0 s) f area
  pub expansion : (s : Settings) (u : Outer) (f area : List ℕ) → expanded (passing 300 s) u f area ≡ expanded (passing 0 s) u f area
  pub sending : (s : Settings) (f work : List ℕ) → sent (passing 300 s) f work ≡ sent (passing 0 s) f work

-- settings that pass 10 to 8191, and those that are refused, answer and leave what they did
pub record OtherLivesStay : Type 0 where
  pub reading : (s : Settings) (m f t o : List ℕ) → (s.seconds ≡ 0 → ⊥) → port_received s m f t o ≡ received_with old_life s m f t o
  pub calls : (s : Settings) (t : List ℕ) (cs : List Call) → (s.seconds ≡ 0 → ⊥) → run s t cs ≡ run_with old_life s t cs
