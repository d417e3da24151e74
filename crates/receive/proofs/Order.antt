-- Reading is the rows of specs/Order, from top to bottom: a check is a row, and what follows it are the rows after it.
-- Assumes nothing.
use Prim.Native.Nat.{ℕ, ◌+◌, ◌*◌}
use mathlib.Core.Bool.{Bool, true, false, not}
use mathlib.Core.List.{List, [], ◌∷◌, ◌++◌}
use mathlib.Core.Path.{◌≡◌, refl, sym, ap, ◌∙◌}
use lib.Dec.{leb, eqb}
use lib.ListN.{length, drop}
use Rattle.numbers.specs.Tests.{pick, any_of}
use Rattle.numbers.specs.Result.{check, and_then, settled}
use Rattle.numbers.specs.After.{on_both}
use Rattle.numbers.specs.Bytes.{num}
use Rattle.numbers.specs.Ranges.{individual, vlan_good}
use Rattle.table.specs.Slots.{table_good}
use Rattle.flush.specs.Payload.{every_type, corrupt, nick_bytes, block_count, behind, block_bytes, pieces_of, Payload, made, payload_of}
use Rattle.flush.specs.Flush.{clearing}
use Rattle.frame.specs.Settings.{settings_good, compact_on, default_life}
use Rattle.frame.specs.Front.{trill_group, address_bytes, addresses_bytes, address_in, Front, unicast, multicast, refused_front, inner, front_of}
use Rattle.frame.specs.Header.{version_of, multicast_of, hop_count, ingress_of, fixed_bytes, header_bytes, agrees, header_length}
use Rattle.frame.specs.Labels.{ethertype_bytes, tag_bytes, fine_bytes, is_trill, is_tag, is_fine, is_channel, low12, label_length}
use Rattle.frame.specs.Fields.{Fields, least_content}
use Rattle.frame.specs.Formats.{tagged_addresses, untagged_outer, tagged_outer, frame_length_good, outer_length, general_after, general, compact_after, compact, by_front, parsed}
use Rattle.frame.specs.declared.Settings.{Settings}
use Rattle.port_map.specs.Maps.{map_good}
use Rattle.receive.specs.Deciding.{nicknames_good, is_onward, channel_bytes, channel_protocol, channel_payload, flush_protocol, channel_good}
use Rattle.receive.specs.Delivering.{native_out}
use Rattle.receive.specs.Receive.{taught, delivered_with, flushed_with, delivery, channel, acted, reading, received_with, port_received}
use Rattle.receive.specs.Order.{Row, unless, when, first_of, Outcome, outer_rows, outer_end, header_rows, address_rows, label_rows, label_end, trill_rows, content_rows, general_rows, general_parts, compact_rows, compact_parts, front_rows, front_parts, is_got, channel_rows, flushes_all, native_rows, delivers, acted_on, read_in_order, ReadsExactly}
use Rattle.receive.specs.declared.ReadAnswer.TheVariants.{Onward, OtherChannel}
use Rattle.receive.proofs.NoMap.{native_missing}
use Rattle.std.specs.Prelude.{Result, Ok, Err}
use Rattle.numbers.specs.declared.refusals.Refusal.TheVariants.{SettingsBad, TableLengthBad, FrameLengthBad, NotTrill, CutShort, VersionBad, HopsSpent, NicknameBad, LabelBad, SourceGroup, MulticastDisagrees, NotChannel, ChannelBad, PayloadCorrupt, AreaShort, MapBad, NoPair}
use Rattle.numbers.specs.declared.refusals.Refusal.{Refusal}

-- ---- rows and checks

first_append : (xs ys : List (Row Outcome)) (last : Outcome) → first_of (xs ++ ys) last ≡ first_of xs (first_of ys last)
unfolding first_of
first_append [] ys last = refl
first_append (unless b x ∷ xs) ys last = ap (λ (r : Outcome). pick b r x) (first_append xs ys last)
first_append (when b x ∷ xs) ys last = ap (λ (r : Outcome). pick b x r) (first_append xs ys last)

then-then : {A B : Type 0} (x : Result A Refusal) (f : A → Result B Refusal) (k : B → Outcome) → and_then (and_then x f) k ≡ and_then x (λ a. and_then (f a) k)
unfolding and_then
then-then (Err n) f k = refl
then-then (Ok a) f k = refl

then-check : {A : Type 0} (b : Bool) (n : Refusal) (r : Result A Refusal) (k : A → Outcome) → and_then (check b n r) k ≡ first_of (unless b (Err n) ∷ []) (and_then r k)
unfolding and_then check first_of pick
then-check true n r k = refl
then-check false n r k = refl

-- ---- the fields

outer_rows_lem : (f : List ℕ) (k : ℕ → Outcome) → and_then (outer_length f) k ≡ first_of (outer_rows f) (k (outer_end f))
unfolding outer_length and_then check first_of pick
outer_rows_lem f k = go (leb untagged_outer (length f)) (is_tag (drop addresses_bytes f)) (leb tagged_addresses (length f)) (leb tagged_outer (length f)) (is_trill (drop tagged_addresses f)) (is_trill (drop addresses_bytes f))
  where
    go : (a t b c d e : Bool)
        → and_then (check a CutShort (pick t (check b CutShort (check c CutShort (check d NotTrill (Ok tagged_outer)))) (check e NotTrill (Ok untagged_outer)))) k
        ≡ first_of (unless a (Err CutShort) ∷ pick t (unless b (Err CutShort) ∷ unless c (Err CutShort) ∷ unless d (Err NotTrill) ∷ []) (unless e (Err NotTrill) ∷ [])) (k (pick t tagged_outer untagged_outer))
    go false t b c d e = refl
    go true true false c d e = refl
    go true true true false d e = refl
    go true true true true false e = refl
    go true true true true true e = refl
    go true false b c d false = refl
    go true false b c d true = refl

header_rows_lem : (d : Front) (l : List ℕ) (k : ℕ → Outcome) → and_then (header_length d l) k ≡ first_of (header_rows d l) (k (header_bytes l))
unfolding header_length and_then check first_of pick
header_rows_lem d l k = go (leb fixed_bytes (length l)) (eqb (version_of l) 0) (agrees d (multicast_of l)) (leb (header_bytes l) (length l))
  where
    go : (a b c e : Bool)
        → and_then (check a CutShort (check b VersionBad (check c MulticastDisagrees (check e CutShort (Ok (header_bytes l)))))) k
        ≡ first_of (unless a (Err CutShort) ∷ unless b (Err VersionBad) ∷ unless c (Err MulticastDisagrees) ∷ unless e (Err CutShort) ∷ []) (k (header_bytes l))
    go false b c e = refl
    go true false c e = refl
    go true true false e = refl
    go true true true false = refl
    go true true true true = refl

label_rows_lem : (l : List ℕ) (k : ℕ → Outcome) → and_then (label_length l) k ≡ first_of (label_rows l) (k (label_end l))
unfolding label_length and_then check first_of pick
label_rows_lem l k = go (leb ethertype_bytes (length l)) (is_tag l) (leb tag_bytes (length l)) (vlan_good (low12 2 l)) (is_fine l) (leb (tag_bytes + ethertype_bytes) (length l)) (is_fine (drop tag_bytes l)) (leb fine_bytes (length l))
  where
    go : (a t b v f c g h : Bool)
        → and_then (check a CutShort (pick t (check b CutShort (check v LabelBad (Ok tag_bytes))) (check f LabelBad (check b CutShort (check c CutShort (check g LabelBad (check h CutShort (Ok fine_bytes)))))))) k
        ≡ first_of
        (unless a (Err CutShort)
        ∷ pick t (unless b (Err CutShort) ∷ unless v (Err LabelBad) ∷ [])
        (unless f (Err LabelBad) ∷ unless b (Err CutShort) ∷ unless c (Err CutShort) ∷ unless g (Err LabelBad) ∷ unless h (Err CutShort) ∷ []))
        (k (pick t tag_bytes fine_bytes))
    go false t b v f c g h = refl
    go true true false v f c g h = refl
    go true true true false f c g h = refl
    go true true true true f c g h = refl
    go true false b v false c g h = refl
    go true false false v true c g h = refl
    go true false true v true false g h = refl
    go true false true v true true false h = refl
    go true false true v true true true false = refl
    go true false true v true true true true = refl

content_rows_lem : (p : Fields) (k : Fields → Outcome) → and_then (check (leb least_content (length p.content)) CutShort (Ok p)) k ≡ first_of (content_rows p.content) (k p)
unfolding and_then
content_rows_lem p k = then-check (leb least_content (length p.content)) CutShort (Ok p) k

-- ---- the two formats

-- two addresses, and what follows them
address_rows_lem : (a : List ℕ) (r : Result Fields Refusal) (k : Fields → Outcome)
    → and_then (check (leb address_bytes (length a)) CutShort (check (leb address_bytes (length (drop address_bytes a))) CutShort r)) k ≡ first_of (address_rows a) (and_then r k)
unfolding and_then check first_of pick
address_rows_lem a r k = go (leb address_bytes (length a)) (leb address_bytes (length (drop address_bytes a)))
  where
    go : (x y : Bool) → and_then (check x CutShort (check y CutShort r)) k ≡ first_of (unless x (Err CutShort) ∷ unless y (Err CutShort) ∷ []) (and_then r k)
    go false y = refl
    go true false = refl
    go true true = refl

trill_rows_lem : (l : List ℕ) (r : Result Fields Refusal) (k : Fields → Outcome)
    → and_then (check (leb ethertype_bytes (length l)) CutShort (check (is_trill l) NotTrill r)) k ≡ first_of (trill_rows l) (and_then r k)
unfolding and_then check first_of pick
trill_rows_lem l r k = go (leb ethertype_bytes (length l)) (is_trill l)
  where
    go : (x y : Bool) → and_then (check x CutShort (check y NotTrill r)) k ≡ first_of (unless x (Err CutShort) ∷ unless y (Err NotTrill) ∷ []) (and_then r k)
    go false y = refl
    go true false = refl
    go true true = refl

-- one group of rows, and those after it
module _ (xs ys : List (Row Outcome)) (last r : Outcome) where
  then_rows : r ≡ first_of ys last → first_of xs r ≡ first_of (xs ++ ys) last
  then_rows e = ap (first_of xs) e ∙ sym (first_append xs ys last)

general_rows_lem : (d : Front) (f : List ℕ) (k : Fields → Outcome) → and_then (general d f) k ≡ first_of (general_rows f d) (k (general_parts f))
unfolding general general_after
general_rows_lem d f k =
    then-then (outer_length f) _ k
    ∙ outer_rows_lem f _
    ∙ then_rows (outer_rows f) _ _ _
    (then-then (header_length d h) _ k
    ∙ header_rows_lem d h _
    ∙ then_rows (header_rows d h) _ _ _
    (address_rows_lem a _ k
    ∙ then_rows (address_rows a) _ _ _
    (then-then (label_length l) _ k
    ∙ label_rows_lem l _
    ∙ then_rows (label_rows l) _ _ _ (content_rows_lem (general_parts f) k))))
  where
    h : List ℕ
    h = drop (outer_end f) f

    a : List ℕ
    a = drop (header_bytes h) h

    l : List ℕ
    l = drop address_bytes (drop address_bytes a)

compact_rows_lem : (f : List ℕ) (k : Fields → Outcome) → and_then (compact f) k ≡ first_of (compact_rows f) (k (compact_parts f))
unfolding compact compact_after
compact_rows_lem f k =
    address_rows_lem f _ k
    ∙ then_rows (address_rows f) _ _ _
    (then-then (label_length l) _ k
    ∙ label_rows_lem l _
    ∙ then_rows (label_rows l) _ _ _
    (trill_rows_lem y _ k
    ∙ then_rows (trill_rows y) _ _ _
    (then-then (header_length inner h) _ k
    ∙ header_rows_lem inner h _
    ∙ then_rows (header_rows inner h) _ _ _ (content_rows_lem (compact_parts f) k))))
  where
    l : List ℕ
    l = drop address_bytes (drop address_bytes f)

    y : List ℕ
    y = drop (label_end l) l

    h : List ℕ
    h = drop ethertype_bytes y

front_rows_lem : (on : Bool) (d : Front) (f : List ℕ) (k : Fields → Outcome) → and_then (by_front on d f) k ≡ first_of (front_rows on d f) (k (front_parts d f))
unfolding by_front and_then first_of pick
front_rows_lem on unicast f k = general_rows_lem unicast f k
front_rows_lem on multicast f k = general_rows_lem multicast f k
front_rows_lem on refused_front f k = refl
front_rows_lem true inner f k = compact_rows_lem f k
front_rows_lem false inner f k = refl

-- ---- on the fields read

-- a payload is read into what it is cut into, or refused with 15
payload_rows : (l : List ℕ) (k : Payload → Outcome) → and_then (payload_of every_type l) k ≡ pick (is_got (payload_of every_type l)) (k (made l)) (Err PayloadCorrupt)
unfolding payload_of and_then check pick
payload_rows l k =
    go (leb 1 (length l)) (leb (1 + nick_bytes l) (length l)) (leb (2 + nick_bytes l) (length l)) (leb (block_bytes * block_count l) (length (behind l))) (not (any_of (corrupt every_type) (pieces_of (block_count l) (behind l))))
  where
    go : (a b c d e : Bool)
        → and_then (check a PayloadCorrupt (check b PayloadCorrupt (check c PayloadCorrupt (check d PayloadCorrupt (check e PayloadCorrupt (Ok (made l))))))) k
        ≡ pick (is_got (check a PayloadCorrupt (check b PayloadCorrupt (check c PayloadCorrupt (check d PayloadCorrupt (check e PayloadCorrupt (Ok (made l)))))))) (k (made l)) (Err PayloadCorrupt)
    go false b c d e = refl
    go true false c d e = refl
    go true true false d e = refl
    go true true true false e = refl
    go true true true true false = refl
    go true true true true true = refl

module _ (m : List ℕ) (s : Settings) (p : Fields) (t o : List ℕ) where
  channel_rows_lem : channel s p t o ≡ first_of (channel_rows m s p t o) (flushes_all m s p t o)
  unfolding channel clearing check first_of pick and_then
  channel_rows_lem = go (leb channel_bytes (length p.content)) (channel_good s p) (eqb (channel_protocol p.content) flush_protocol) _ flush_rows
    where
      flush_rows : and_then (clearing every_type (ingress_of p.header) (channel_payload p.content) t) (λ c. Ok (flushed_with o c)) ≡ pick (is_got (payload_of every_type (channel_payload p.content))) (flushes_all m s p t o) (Err PayloadCorrupt)
      flush_rows = then-then (payload_of every_type (channel_payload p.content)) _ _ ∙ payload_rows (channel_payload p.content) _

      go : (a b c : Bool) (r : Outcome) → r ≡ pick (is_got (payload_of every_type (channel_payload p.content))) (flushes_all m s p t o) (Err PayloadCorrupt)
          → check a CutShort (check b ChannelBad (pick c r (Ok (on_both (Ok OtherChannel) t o))))
          ≡ first_of (unless a (Err CutShort) ∷ unless b (Err ChannelBad) ∷ unless c (Ok (on_both (Ok OtherChannel) t o)) ∷ unless (is_got (payload_of every_type (channel_payload p.content))) (Err PayloadCorrupt) ∷ []) (flushes_all m s p t o)
      go false b c r e = refl
      go true false c r e = refl
      go true true false r e = refl
      go true true true r e = e

  native_rows_lem : delivery (native_out m p) default_life s p t o ≡ first_of (native_rows m s p t o) (delivers m s p t o)
  unfolding delivery check and_then settled first_of pick
  native_rows_lem = go (trill_group (num p.dst)) (native_out m p) (native_missing m p)
    where
      go : (a : Bool) (r : Result (List ℕ) Refusal) → ((n : Refusal) → r ≡ Err n → n ≡ NoPair)
          → check (not a) NotChannel (and_then r λ b. check (leb (length b) (length o)) AreaShort (Ok (delivered_with p b o (taught default_life s p t))))
          ≡ first_of (when a (Err NotChannel) ∷ unless (is_got r) (Err NoPair) ∷ unless (leb (length (settled (λ n. []) r)) (length o)) (Err AreaShort) ∷ []) (Ok (delivered_with p (settled (λ n. []) r) o (taught default_life s p t)))
      go true r only = refl
      go false (Err n) only = ap Err (only n refl)
      go false (Ok b) only = short (leb (length b) (length o)) _
        where
          short : (c : Bool) (x : Outcome) → check c AreaShort x ≡ pick c x (Err AreaShort)
          short true x = refl
          short false x = refl

  acted_rows : acted m default_life s p t o ≡ acted_on m s p t o
  unfolding acted check first_of pick
  acted_rows = go (eqb (hop_count p.header) 0) (nicknames_good s p.header) (individual (num p.src)) (is_onward s p.header) (is_channel p.content) _ _ channel_rows_lem native_rows_lem
    where
      go : (a b c d e : Bool) (x y : Outcome) → x ≡ first_of (channel_rows m s p t o) (flushes_all m s p t o) → y ≡ first_of (native_rows m s p t o) (delivers m s p t o)
          → check (not a) HopsSpent (check b NicknameBad (check c SourceGroup (pick d (Ok (on_both (Ok Onward) t o)) (pick e x y))))
          ≡ first_of (when a (Err HopsSpent) ∷ unless b (Err NicknameBad) ∷ unless c (Err SourceGroup) ∷ when d (Ok (on_both (Ok Onward) t o)) ∷ [])
          (pick e (first_of (channel_rows m s p t o) (flushes_all m s p t o)) (first_of (native_rows m s p t o) (delivers m s p t o)))
      go true b c d e x y ex ey = refl
      go false false c d e x y ex ey = refl
      go false true false d e x y ex ey = refl
      go false true true true e x y ex ey = refl
      go false true true false true x y ex ey = ex
      go false true true false false x y ex ey = ey

-- ---- the whole

module _ (s : Settings) (m f t o : List ℕ) where
  reading_rows : reading m default_life s (parsed s f) t o ≡ read_in_order s m f t o
  unfolding reading parsed check first_of pick and_then
  reading_rows = go (settings_good s) (table_good t) (map_good m) (frame_length_good (length f))
    where
      d : Front
      d = front_of s (address_in f)

      fields : and_then (by_front (compact_on s) d f) (λ p. acted m default_life s p t o) ≡ first_of (front_rows (compact_on s) d f) (acted_on m s (front_parts d f) t o)
      fields = front_rows_lem (compact_on s) d f _ ∙ ap (first_of (front_rows (compact_on s) d f)) (acted_rows m s (front_parts d f) t o)

      go : (a b g c : Bool)
          → check a SettingsBad (check b TableLengthBad (check g MapBad (and_then (check c FrameLengthBad (by_front (compact_on s) d f)) λ p. acted m default_life s p t o)))
          ≡ first_of (unless a (Err SettingsBad) ∷ unless b (Err TableLengthBad) ∷ unless g (Err MapBad) ∷ unless c (Err FrameLengthBad) ∷ front_rows (compact_on s) d f) (acted_on m s (front_parts d f) t o)
      go false b g c = refl
      go true false g c = refl
      go true true false c = refl
      go true true true false = refl
      go true true true true = fields

pub reads_exactly : ReadsExactly
unfolding port_received received_with
reads_exactly s m f t o = ap (settled (λ n. on_both (Err n) t o)) (reading_rows s m f t o)
