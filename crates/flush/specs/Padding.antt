-- Padding: "Links pad frames to 60 bytes" (2026-02). A payload with zero bytes after it means what it meant.
-- Assumes nothing.
use Rattle.std.specs.Prelude.{ℕ, List, ◌++◌, ◌≡◌, replicate, Ok}
use Rattle.table.specs.declared.Label.{Label}
use Rattle.flush.specs.Payload.{Types, every_type, Payload, made, payload_of}
use Rattle.flush.specs.Meaning.{nickname_meant, label_meant, mac_meant}
use Rattle.flush.specs.Flush.{flushed}

-- n zero bytes
unfoldable pub zeros : ℕ → List ℕ
zeros n = replicate n 0

-- bytes with n zero bytes after them
abbrev pub padded : ℕ → List ℕ → List ℕ
padded n l = l ++ zeros n

-- two payloads mean the same nicknames, labels and MACs
pub record SameSets (types : Types) (p q : Payload) : Type 0 where
  pub nickname : (ingress x : ℕ) → nickname_meant ingress p.nicks x ≡ nickname_meant ingress q.nicks x
  pub label : (x : Label) → label_meant types p.pieces x ≡ label_meant types q.pieces x
  pub mac : (m : ℕ) → mac_meant types p.pieces m ≡ mac_meant types q.pieces m

-- the payload l with n zero bytes after it is accepted, and means what p means
pub record Padded (types : Types) (l : List ℕ) (n : ℕ) (p : Payload) : Type 0 where
  pub accepted : payload_of types (padded n l) ≡ Ok (made (padded n l))
  pub same : SameSets types (made (padded n l)) p

-- for every payload that is accepted, every number of zero bytes and every model's types; and the flush call answers and leaves the same
pub record PaddedFlush : Type 0 where
  pub payload : (types : Types) (l : List ℕ) (p : Payload) (n : ℕ) → payload_of types l ≡ Ok p → Padded types l n p
  pub call : (ingress : ℕ) (l t : List ℕ) (p : Payload) (n : ℕ) → payload_of every_type l ≡ Ok p → flushed ingress (padded n l) t ≡ flushed ingress l t
