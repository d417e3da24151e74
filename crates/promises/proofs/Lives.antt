-- The default bears on a reading in one place, the seconds of the entry learned: with 300 passed, and with 0 passed where 300 is the
-- default, these are 300. All else computes to the same. Lists of calls follow call by call.
-- Assumes nothing.
use Prim.Native.Nat.{ℕ}
use mathlib.Core.List.{List, [], ◌∷◌}
use mathlib.Core.Path.{◌≡◌, refl, ap}
use borrow.Author.Tests.{ne_eqb}
use Rattle.numbers.specs.Tests.{pick, both, either, between}
use Rattle.frame.specs.Settings.{addresses_good, seconds_good, numbers_good, later_good, settings_good, life_of, default_life}
use Rattle.frame.specs.Front.{front_of}
use Rattle.frame.specs.Formats.{parsed}
use Rattle.frame.specs.declared.Settings.{Settings}
use Rattle.convert.specs.Compaction.{stays_general, general_fields, compacting, compacted}
use Rattle.convert.specs.Expansion.{Outer, outer_destination, general_bytes, expanding, expanded}
use Rattle.convert.specs.Sending.{sent_fields, sending, sent}
use Rattle.receive.specs.Deciding.{is_marked, ingress_allowed, nicknames_good, is_onward, channel_good}
use Rattle.receive.specs.Receive.{learned_entry, taught, delivery, channel, acted, reading, received_with, port_received}
use Rattle.promises.specs.Interchange.{Call, read, age, lookup, spoilt, portion, Seen, seen_reading, called_with, run_with, run}
use Rattle.promises.specs.Lives.{old_life, passing, LifeAsBefore, OtherLivesStay}

-- ---- a port that passes 300

module _ (s : Settings) where
  reading_as_before : (m f t o : List ℕ) → port_received (passing 300 s) m f t o ≡ received_with old_life (passing 0 s) m f t o
  unfolding port_received received_with reading acted delivery taught channel channel_good learned_entry is_marked ingress_allowed nicknames_good is_onward parsed front_of settings_good addresses_good numbers_good later_good seconds_good pick both either between
  reading_as_before m f t o = refl

  call_as_before : (t : List ℕ) (c : Call) → called_with default_life (passing 300 s) t c ≡ called_with old_life (passing 0 s) t c
  unfolding called_with port_received
  call_as_before t (read m f o) = ap seen_reading (reading_as_before m f t o)
  call_as_before t (age n) = refl
  call_as_before t (lookup kind x m) = refl
  call_as_before t spoilt = refl
  call_as_before t (portion ingress l slot k) = refl

  calls_as_before : (t : List ℕ) (cs : List Call) → run_with default_life (passing 300 s) t cs ≡ run_with old_life (passing 0 s) t cs
  unfolding run_with
  calls_as_before t [] = refl
  calls_as_before t (c ∷ cs) = rw (call_as_before t c) (ap (λ (r : List Seen). called_with old_life (passing 0 s) t c ∷ r) (calls_as_before (called_with old_life (passing 0 s) t c).table cs))

  compaction_as_before : (f area : List ℕ) → compacted (passing 300 s) f area ≡ compacted (passing 0 s) f area
  unfolding compacted compacting general_fields stays_general front_of settings_good addresses_good numbers_good later_good seconds_good both either between
  compaction_as_before f area = refl

  expansion_as_before : (u : Outer) (f area : List ℕ) → expanded (passing 300 s) u f area ≡ expanded (passing 0 s) u f area
  unfolding expanded expanding general_bytes outer_destination front_of settings_good addresses_good numbers_good later_good seconds_good both either between
  expansion_as_before u f area = refl

  sending_as_before : (f work : List ℕ) → sent (passing 300 s) f work ≡ sent (passing 0 s) f work
  unfolding sent sending sent_fields stays_general front_of settings_good addresses_good numbers_good later_good seconds_good both either between
  sending_as_before f work = refl

pub life_as_before : LifeAsBefore
unfolding run
life_as_before = record {
  reading = reading_as_before;
  calls = calls_as_before;
  compaction = compaction_as_before;
  expansion = expansion_as_before;
  sending = sending_as_before;
}

-- ---- a port that passes another life

module _ (s : Settings) (some : s.seconds ≡ 0 → ⊥) where
  same_life : (life : ℕ) → life_of life s ≡ s.seconds
  unfolding pick
  same_life life = rw (ne_eqb s.seconds 0 some)

  reading-stays : (m f t o : List ℕ) → port_received s m f t o ≡ received_with old_life s m f t o
  unfolding port_received received_with reading acted delivery taught learned_entry
  reading-stays m f t o = rw (same_life default_life, same_life old_life)

  call_stays : (t : List ℕ) (c : Call) → called_with default_life s t c ≡ called_with old_life s t c
  unfolding called_with port_received
  call_stays t (read m f o) = ap seen_reading (reading-stays m f t o)
  call_stays t (age n) = refl
  call_stays t (lookup kind x m) = refl
  call_stays t spoilt = refl
  call_stays t (portion ingress l slot k) = refl

  calls_stay : (t : List ℕ) (cs : List Call) → run_with default_life s t cs ≡ run_with old_life s t cs
  unfolding run_with
  calls_stay t [] = refl
  calls_stay t (c ∷ cs) = rw (call_stays t c) (ap (λ (r : List Seen). called_with old_life s t c ∷ r) (calls_stay (called_with old_life s t c).table cs))

pub other_lives_stay : OtherLivesStay
unfolding run
other_lives_stay = record { reading = λ s m f t o some. reading-stays s some m f t o; calls = λ s t cs some. calls_stay s some t cs }
