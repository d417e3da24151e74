-- A flush frame with zeros after it: it is read into the same fields with a longer content, of which the channel header is where it was; and
-- the payload with zeros after it clears what it cleared.
-- Assumes nothing.
use Prim.Native.Nat.{ℕ, ◌+◌, ◌-◌, ◌≤◌}
use native.Mathlib.Omega.{arith}
use mathlib.Core.Bool.{true}
use mathlib.Core.List.{List, ◌++◌}
use mathlib.Core.Path.{◌≡◌, sym, ap, ◌∙◌}
use lib.Dec.{leb}
use lib.ListN.{length, take, drop, length-append, length-drop, length-replicate}
use lib.Seq.{take-append-le, drop-append-le}
use borrow.Author.Tests.{leb-true, le-leb}
use Rattle.numbers.specs.Tests.{pick}
use Rattle.numbers.specs.Result.{and_then, settled, Outcome}
use Rattle.numbers.specs.After.{OnBoth, on_both}
use Rattle.numbers.specs.Bytes.{num}
use Rattle.numbers.proofs.Answers.{check_got, check_pass, then_got}
use Rattle.numbers.proofs.Lists.{starts_same}
use Rattle.flush.specs.Payload.{every_type, Payload, payload_of}
use Rattle.flush.specs.Flush.{clearing}
use Rattle.flush.specs.Padding.{zeros, padded}
use Rattle.flush.proofs.Padding.{padded-clearing}
use Rattle.frame.specs.Settings.{default_life}
use Rattle.frame.specs.Header.{word_at, ingress_of}
use Rattle.frame.specs.Labels.{is_channel}
use Rattle.frame.specs.Fields.{Fields}
use Rattle.frame.specs.Formats.{parsed}
use Rattle.frame.specs.declared.Settings.{Settings}
use Rattle.frame.proofs.Longer.{longer, parsed_longer}
use Rattle.receive.specs.Deciding.{channel_bytes, channel_payload, channel_good}
use Rattle.receive.specs.Receive.{channel, acted, reading, received_with, port_received}
use Rattle.receive.specs.Claims.{PaddedRead}
use Rattle.receive.specs.declared.ReadAnswer.{ReadAnswer}
use Rattle.receive.specs.declared.ReadAnswer.TheVariants.{Flushed}
use Rattle.receive.proofs.Outcomes.{reading_left, settled_left, apart}
use Rattle.std.specs.Prelude.{Ok, Err}
use Rattle.numbers.specs.declared.refusals.Refusal.{Refusal}

-- ---- a longer content

module _ (c z : List ℕ) (long : channel_bytes ≤ length c) where
  same_word : (k : ℕ) → k + 2 ≤ channel_bytes → word_at k (c ++ z) ≡ word_at k c
  same_word k h =
      let d : length (drop k c) ≡ length c - k = length-drop k c in
      ap num (ap (take 2) (drop-append-le k c z (omega arith)) ∙ take-append-le 2 (drop k c) z (omega arith))

  same_channel : is_channel (c ++ z) ≡ is_channel c
  same_channel = starts_same 0x89 0x46 (c ++ z) c (take-append-le 2 c z (omega arith))

  same_payload : channel_payload (c ++ z) ≡ channel_payload c ++ z
  same_payload = drop-append-le channel_bytes c z long

-- ---- on the fields read

module _ (s : Settings) (p : Fields) (t o : List ℕ) (x : Payload) (n : ℕ) (is : is_channel p.content ≡ true) (long : channel_bytes ≤ length p.content)
    (valid : payload_of every_type (channel_payload p.content) ≡ Ok x) where
  channel_same : channel s (longer p (zeros n)) t o ≡ channel s p t o
  unfolding channel channel_good
  channel_same =
      let l : length (p.content ++ zeros n) ≡ length p.content + length (zeros n) = length-append p.content (zeros n) in
      check_pass _ _ _ (le-leb channel_bytes (length (p.content ++ zeros n)) (omega arith))
      ∙ rw (
        same_word p.content (zeros n) long 2 (omega arith),
        same_word p.content (zeros n) long 4 (omega arith),
        same_payload p.content (zeros n) long,
        padded-clearing every_type (ingress_of p.header) (channel_payload p.content) t x n valid,
      )
      (sym (check_pass _ _ _ (le-leb channel_bytes (length p.content) long)))

  acted_same : (m : List ℕ) (life : ℕ) → acted m life s (longer p (zeros n)) t o ≡ acted m life s p t o
  unfolding acted pick
  acted_same m life = rw (same_channel p.content (zeros n) long, is, channel_same)

  reading_same : (m : List ℕ) (life : ℕ) → reading m life s (Ok (longer p (zeros n))) t o ≡ reading m life s (Ok p) t o
  unfolding reading and_then
  reading_same m life = rw (acted_same m life)

-- ---- the call

-- what a reading that answers a count read
record Carried (s : Settings) (f : List ℕ) : Type 0 where
  fields : Fields
  read : parsed s f ≡ Ok fields
  is : is_channel fields.content ≡ true
  payload : Payload
  valid : payload_of every_type (channel_payload fields.content) ≡ Ok payload

carried : (s : Settings) (m f t o : List ℕ) (k : ℕ) → (port_received s m f t o).answer ≡ (Ok (Flushed k)) → Carried s f
unfolding port_received received_with clearing
carried s m f t o k =
    settled_left (λ (a : OnBoth (Outcome ReadAnswer)). a.answer ≡ (Ok (Flushed k)) → Carried s f) (λ n. on_both (Err n) t o) (reading m default_life s (parsed s f) t o)
    (λ n e. apart cc)
    (reading_left m default_life s (parsed s f) t o _ (λ p set d q.
    record {
      onward = λ e. apart cc;
      other = λ e. apart cc;
      flushes = λ is c r e. let (x, valid, u) = then_got _ _ _ r in record { fields = p; read = q; is = is; payload = x; valid = valid };
      delivers = λ a b c q e. apart cc;
    }))

-- the payload has bytes, so the channel header is whole
channel_long : (c : List ℕ) (x : Payload) → payload_of every_type (channel_payload c) ≡ Ok x → channel_bytes ≤ length c
unfolding payload_of
channel_long c x h =
    let a = check_got (leb 1 (length (channel_payload c))) _ _ x h in
    let some = leb-true 1 (length (channel_payload c)) a.0 in
    let d : length (drop channel_bytes c) ≡ length c - channel_bytes = length-drop channel_bytes c in
    omega arith

pub padded_read : PaddedRead
unfolding port_received received_with zeros
padded_read s m f t o k n h room =
    let c = carried s m f t o k h in
    let l : length (zeros n) ≡ n = length-replicate n 0 in
    let q : parsed s (padded n f) ≡ Ok (longer c.fields (zeros n)) = parsed_longer (zeros n) s f c.fields (omega arith) c.read in
    rw (q, c.read) (ap (settled (λ (r : Refusal). on_both (Err r) t o)) (reading_same s c.fields t o c.payload n c.is (channel_long c.fields.content c.payload c.valid) c.valid m default_life))
