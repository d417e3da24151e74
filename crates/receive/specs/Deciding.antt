-- Tests "on the fields read and alike for both formats", and the channel header.
-- Assumes nothing.
use Rattle.std.specs.Prelude.{ℕ, ◌/◌, ◌%◌, ◌^◌, Bool, not, List, eqb, drop}
use Rattle.numbers.specs.Tests.{both, either}
use Rattle.numbers.specs.Bytes.{num}
use Rattle.numbers.specs.Ranges.{nickname_good}
use Rattle.frame.specs.Front.{all_egress_rbridges}
use Rattle.frame.specs.Header.{word_at, first_reserved, second_reserved, multicast_of, egress_of, ingress_of}
use Rattle.frame.specs.Settings.{first_bit, second_bit, smart_on}
use Rattle.frame.specs.Fields.{Fields}
use Rattle.frame.specs.declared.Settings.{Settings}

-- the ingress nickname is our own
abbrev pub is_own : Settings → ℕ → Bool
is_own s n = eqb n s.nickname

-- "A port with Smart Endnodes on doesn't refuse our own ingress nickname .. other ports keep 9" (2026-13)
unfoldable pub ingress_allowed : Settings → ℕ → Bool
ingress_allowed s n = either (smart_on s) (not (is_own s n))

-- refusal 9: "a nickname outside 0001 to FFBF, or ingress nickname our own"
unfoldable pub nicknames_good : Settings → List ℕ → Bool
nicknames_good s h =
    both (nickname_good (egress_of h))
    (both (nickname_good (ingress_of h)) (ingress_allowed s (ingress_of h)))

-- "Onward: M is 0 and egress is not our nickname" (document 01's own term)
unfoldable pub is_onward : Settings → List ℕ → Bool
is_onward s h = both (eqb (multicast_of h) 0) (not (eqb (egress_of h) s.nickname))

-- "A setting says which of the two R bits it is, or none": whether the frame is marked
unfoldable pub is_marked : Settings → List ℕ → Bool
is_marked s h =
    either
    (both (eqb s.multihomed first_bit) (eqb (first_reserved h) 1))
    (both (eqb s.multihomed second_bit) (eqb (second_reserved h) 1))

-- "Content: 8946, version 4 bits, protocol 12, flags 12 (not read), ERR 4, payload"
abbrev pub channel_version : List ℕ → ℕ
channel_version c = word_at 2 c / 2 ^ 12 % 2 ^ 4

abbrev pub channel_protocol : List ℕ → ℕ
channel_protocol c = word_at 2 c % 2 ^ 12

abbrev pub channel_error : List ℕ → ℕ
channel_error c = word_at 4 c % 2 ^ 4

abbrev pub channel_bytes : ℕ
channel_bytes = 6

abbrev pub channel_payload : List ℕ → List ℕ
channel_payload c = drop channel_bytes c

-- "The protocol number is that of section 3 of document 004" (RFC 8383)
abbrev pub flush_protocol : ℕ
flush_protocol = 0x009

-- refusal 14: "version or ERR not 0, or destination neither own inner address nor 01-80-C2-00-00-42"
unfoldable pub channel_good : Settings → Fields → Bool
channel_good s p =
    both (eqb (channel_version p.content) 0)
    (both (eqb (channel_error p.content) 0)
    (either (eqb (num p.dst) s.inner) (eqb (num p.dst) all_egress_rbridges)))
