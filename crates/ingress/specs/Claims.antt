-- What holds of ingress, and of ingress and egress together.
-- Assumes nothing.
use Rattle.std.specs.Prelude.{ℕ, ◌+◌, ◌*◌, ◌/◌, ◌^◌, List, ◌++◌, ◌≡◌, length, take, drop, Ok, Err}
use Rattle.numbers.specs.Bytes.{AreBytes, bytes_of}
use Rattle.table.specs.declared.Label.{Label}
use Rattle.table.specs.declared.Learning.{Learning}
use Rattle.frame.specs.Header.{word_at}
use Rattle.frame.specs.Labels.{low12}
use Rattle.frame.specs.Formats.{tagged_addresses, untagged_outer}
use Rattle.frame.specs.declared.Settings.{Settings}
use Rattle.convert.specs.Compaction.{compacted}
use Rattle.convert.specs.Claims.{converted}
use Rattle.receive.specs.Receive.{port_received}
use Rattle.receive.specs.declared.ReadAnswer.TheVariants.{Delivered}
use Rattle.ingress.specs.Ingress.{ingressed}
use Rattle.ingress.specs.declared.Given.{Given}
use Rattle.numbers.specs.declared.refusals.Refusal.{Refusal}

-- demand 1: "A refusal returns its number and changes nothing: every lent area keeps its bytes"
abbrev pub IngressRefusal : Type 0
IngressRefusal =
    (s : Settings) (m : List ℕ) (u : Given) (f area : List ℕ) (n : Refusal) → (ingressed s m u f area).answer ≡ Err n → (ingressed s m u f area).area ≡ area

-- "the native frame, DEI sent as 0": priority and VLAN of the tag stay
abbrev pub without_dei : List ℕ → List ℕ
without_dei f = take untagged_outer f ++ (bytes_of 2 (word_at untagged_outer f / 2 ^ 13 * 2 ^ 13 + low12 untagged_outer f) ++ drop tagged_addresses f)

pub record RoundTrip (f out : List ℕ) (n : ℕ) : Type 0 where
  pub same_length : n ≡ length f
  pub bytes : take n out ≡ without_dei f

-- "Ingress and egress of two ports with the same map return the native frame, DEI sent as 0, for every frame that the far port delivers":
-- for all settings of both, all that the caller gives, all tables and areas. Also where the frame was compacted for the far port in
-- between
pub record MapRoundTrip : Type 0 where
  pub general : (near far : Settings) (m : List ℕ) (u : Given) (f g area t o : List ℕ) (c : Learning) (n : ℕ) (l : Label) → AreBytes f
      → converted (ingressed near m u f area) ≡ Ok g
      → (port_received far m g t o).answer ≡ (Ok (Delivered c n l))
      → RoundTrip f (port_received far m g t o).out n
  pub compact : (near far : Settings) (m : List ℕ) (u : Given) (f g h area work t o : List ℕ) (c : Learning) (n : ℕ) (l : Label) → AreBytes f
      → converted (ingressed near m u f area) ≡ Ok g
      → converted (compacted far g work) ≡ Ok h
      → (port_received far m h t o).answer ≡ (Ok (Delivered c n l))
      → RoundTrip f (port_received far m h t o).out n
