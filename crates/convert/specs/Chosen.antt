-- What the choosing function shows after sending: "either a part of the working area or the received frame itself".
-- Assumes nothing.
use Rattle.std.specs.Prelude.{ℕ, List, [], ◌≡◌, length, Some, None, Ok, Err}
use Rattle.frame.specs.declared.Settings.{Settings}
use Rattle.convert.specs.Compaction.{compacted}
use Rattle.convert.specs.Sending.{sent, chosen}
use Rattle.convert.specs.Claims.{converted}
use Rattle.numbers.specs.declared.refusals.Refusal.{Refusal}

-- what the choosing function shows of the working area that sending left, or of the frame
abbrev pub shown : Settings → List ℕ → List ℕ → List ℕ
shown s f work = chosen (sent s f work).answer (sent s f work).area f

-- the frame that compaction writes, as long as the answer says; the received frame; nothing after a refusal
pub record Shows (s : Settings) (f work : List ℕ) : Type 0 where
  pub short : (n : ℕ) → (sent s f work).answer ≡ (Ok (Some n)) → (converted (compacted s f work) ≡ Ok (shown s f work)) × (length (shown s f work) ≡ n)
  pub itself : (sent s f work).answer ≡ (Ok None) → shown s f work ≡ f
  pub nothing : (n : Refusal) → (sent s f work).answer ≡ Err n → shown s f work ≡ []

abbrev pub ChosenSent : Type 0
ChosenSent = (s : Settings) (f work : List ℕ) → Shows s f work
