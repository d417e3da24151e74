-- Room for every compaction: reading a frame never gives 16, and what compaction writes has at most 9,204 bytes, since a General frame has at
-- most 9,216 and loses its outer addresses.
-- Assumes nothing.
use Prim.Native.Nat.{ℕ, ◌-◌, ◌≤◌, ◌<◌}
use native.Mathlib.Omega.{arith}
use mathlib.Core.Bool.{Bool, true, false, not}
use mathlib.Core.List.{List}
use mathlib.Core.Logic.{◌↔◌}
use mathlib.Core.Path.{◌≡◌, refl, sym, ap}
use lib.Dec.{leb}
use lib.ListN.{length, drop, length-drop}
use borrow.Author.Tests.{leb-true, leb-false, le-leb}
use Rattle.numbers.specs.Tests.{pick}
use Rattle.numbers.specs.Result.{Outcome, check, and_then, settled}
use Rattle.numbers.specs.After.{on_area}
use Rattle.numbers.specs.Bytes.{num, laid}
use Rattle.numbers.proofs.Truth.{between_is}
use Rattle.numbers.proofs.Answers.{refused_got, check_got}
use Rattle.frame.specs.Settings.{settings_good, compact_on}
use Rattle.frame.specs.Front.{Front, unicast, multicast, refused_front, inner, address_in, front_of}
use Rattle.frame.specs.Header.{header_length}
use Rattle.frame.specs.Labels.{label_length}
use Rattle.frame.specs.Fields.{Fields}
use Rattle.frame.specs.Formats.{shortest_frame, longest_frame, frame_length_good, outer_length, general_after, general}
use Rattle.frame.specs.declared.Settings.{Settings}
use Rattle.frame.proofs.Parts.{after_outer, compact_parts, OuterIs, untagged, tagged, general_is}
use Rattle.convert.specs.Compaction.{compact_bytes, stays_general, general_only, general_frame, general_fields, compacting, compact_room, written, compacted}
use Rattle.convert.specs.Sending.{room_good, sent_fields, sending, sent}
use Rattle.convert.specs.Claims.{RoomForCompaction, SendRoom}
use Rattle.convert.proofs.Compacting.{length-parts}
use Rattle.convert.proofs.Fronts.{general_front}
use Rattle.std.specs.Prelude.{Some, None, Ok, Err}
use Rattle.numbers.specs.declared.refusals.Refusal.TheVariants.{SettingsBad, AreaShort, NotCompactable}
use Rattle.numbers.specs.declared.refusals.Refusal.{Refusal}
use Rattle.numbers.specs.Refusals.{number_of}

-- ---- 9,204 bytes hold every compacted frame

outer_least : (f : List ℕ) (o : ℕ) → OuterIs f o → 14 ≤ o
outer_least f o (untagged e d t) = omega arith
outer_least f o (tagged e d t) = omega arith

module _ (s : Settings) (f : List ℕ) where
  pub general_short : (p : Fields) → general_frame s f ≡ Ok p → length (compact_bytes p) ≤ compact_room
  unfolding compact_bytes frame_length_good
  general_short p e =
      let b = check_got _ _ _ _ e in
      let z = between_is shortest_frame longest_frame (length f) b.0 in
      let longest = z.1 in
      let i = general_is (front_of s (address_in f)) f p (general_front true (front_of s (address_in f)) f p b.1).0 in
      let least = outer_least f i.outer i.outer_is in
      let d : length (drop i.outer f) ≡ length f - i.outer = length-drop i.outer f in
      let w : length (drop i.outer f) ≡ length (after_outer p) = ap length i.whole in
      let fits = i.fits in
      let l : length (compact_parts p) ≤ compact_room = (let k = length-parts p i.good in omega arith) in
      l

  pub room_fits : (work : List ℕ) → room_good work ≡ true → (p : Fields) → general_frame s f ≡ Ok p → leb (length (compact_bytes p)) (length work) ≡ true
  unfolding room_good
  room_fits work h p e =
      let short = general_short p e in
      let long = leb-true compact_room (length work) h in
      le-leb (length (compact_bytes p)) (length work) (omega arith)

-- ---- reading never gives 16

abbrev Never16 : {A : Type 0} → Outcome A → Type 0
Never16 r = r ≡ Err AreaShort → ⊥

got_never : {A : Type 0} (a : A) → Never16 (Ok a)
got_never a e = refused_got AreaShort a (sym e)

refused_never : {A : Type 0} (n : Refusal) → (number_of n ≡ 16 → ⊥) → Never16 {A = A} (Err n)
refused_never n other e = let same : n ≡ AreaShort = cc in other (ap number_of same)

check_never : {A : Type 0} (b : Bool) (n : Refusal) (r : Outcome A) → (number_of n ≡ 16 → ⊥) → Never16 r → Never16 (check b n r)
unfolding check
check_never true n r other next = next
check_never false n r other next = refused_never n other

then_never : {A B : Type 0} (x : Outcome A) (k : A → Outcome B) → Never16 x → ((a : A) → Never16 (k a)) → Never16 (and_then x k)
unfolding and_then
then_never (Err n) k first next e = let z : n ≡ AreaShort = cc in first (ap Err z)
then_never (Ok a) k first next e = next a e

pick_never : {A : Type 0} (b : Bool) (x y : Outcome A) → Never16 x → Never16 y → Never16 (pick b x y)
unfolding pick
pick_never true x y p q = p
pick_never false x y p q = q

outer_never : (l : List ℕ) → Never16 (outer_length l)
unfolding outer_length
outer_never l =
    check_never _ _ _ (λ e. omega arith)
    (pick_never _ _ _
    (check_never _ _ _ (λ e. omega arith) (check_never _ _ _ (λ e. omega arith) (check_never _ _ _ (λ e. omega arith) (got_never _))))
    (check_never _ _ _ (λ e. omega arith) (got_never _)))

header_never : (d : Front) (l : List ℕ) → Never16 (header_length d l)
unfolding header_length
header_never d l =
    check_never _ _ _ (λ e. omega arith)
    (check_never _ _ _ (λ e. omega arith) (check_never _ _ _ (λ e. omega arith) (check_never _ _ _ (λ e. omega arith) (got_never _))))

label_never : (l : List ℕ) → Never16 (label_length l)
unfolding label_length
label_never l =
    check_never _ _ _ (λ e. omega arith)
    (pick_never _ _ _
    (check_never _ _ _ (λ e. omega arith) (check_never _ _ _ (λ e. omega arith) (got_never _)))
    (check_never _ _ _ (λ e. omega arith)
    (check_never _ _ _ (λ e. omega arith)
    (check_never _ _ _ (λ e. omega arith) (check_never _ _ _ (λ e. omega arith) (check_never _ _ _ (λ e. omega arith) (got_never _)))))))

general_never : (d : Front) (f : List ℕ) → Never16 (general d f)
unfolding general general_after
general_never d f =
    then_never (outer_length f) _ (outer_never f)
    (λ o.
    then_never (header_length d (drop o f)) _ (header_never d (drop o f))
    (λ h.
    check_never _ _ _ (λ e. omega arith)
    (check_never _ _ _ (λ e. omega arith)
    (then_never (label_length _) _ (label_never _) (λ n. check_never _ _ _ (λ e. omega arith) (got_never _))))))

only_never : (d : Front) (f : List ℕ) → Never16 (general_only d f)
unfolding general_only
only_never unicast f = general_never unicast f
only_never multicast f = general_never multicast f
only_never refused_front f = refused_never _ (λ e. omega arith)
only_never inner f = refused_never _ (λ e. omega arith)

frame_never : (s : Settings) (f : List ℕ) → Never16 (general_frame s f)
frame_never s f = check_never _ _ _ (λ e. omega arith) (only_never (front_of s (address_in f)) f)

-- ---- the two theorems

module _ (area : List ℕ) (p : Fields) where
  stays_cases : (z : Bool) → leb (length (compact_bytes p)) (length area) ≡ true
      → (settled (λ n. on_area (Err n) area) (and_then (check z NotCompactable (Ok (compact_bytes p))) λ b. written Ok b area)).answer ≡ Err AreaShort → ⊥
  unfolding settled and_then check written
  stays_cases true fits e = let q = rw fits at e in let z : ◌≡◌ {A = ℕ} 0 1 = cc in omega arith
  stays_cases false fits e = let z : ◌≡◌ {A = ℕ} 0 1 = cc in omega arith

module _ (s : Settings) (area : List ℕ) where
  compaction_cases_lem : (good : Bool) (x : Outcome Fields) → Never16 x → ((p : Fields) → x ≡ Ok p → leb (length (compact_bytes p)) (length area) ≡ true)
      → (settled (λ n. on_area (Err n) area) (and_then (and_then (check good SettingsBad x) λ p. check (not (stays_general s (num p.dst))) NotCompactable (Ok (compact_bytes p))) λ b. written Ok b area)).answer ≡ Err AreaShort → ⊥
  unfolding settled and_then check
  compaction_cases_lem false x never fits e = let z : ◌≡◌ {A = ℕ} 0 1 = cc in omega arith
  compaction_cases_lem true (Err n) never fits e = let z : n ≡ AreaShort = cc in never (ap Err z)
  compaction_cases_lem true (Ok p) never fits e = stays_cases area p (not (stays_general s (num p.dst))) (fits p refl) e

pub room_for_compaction : RoomForCompaction
unfolding compacted compacting general_fields room_good
room_for_compaction s f area room e =
    compaction_cases_lem s area (settings_good s) (general_frame s f) (frame_never s f) (room_fits s f area (le-leb compact_room (length area) room)) e

module _ (s : Settings) (on : Bool) (work : List ℕ) where
  pick_other : (z : Bool) (b : List ℕ) → (pick z (on_area (Ok (Some (length b))) (laid b work)) (on_area (Ok None) work)).answer ≡ Err AreaShort → ⊥
  unfolding pick
  pick_other true b e = let z : ◌≡◌ {A = ℕ} 0 1 = cc in omega arith
  pick_other false b e = let z : ◌≡◌ {A = ℕ} 0 1 = cc in omega arith

  sending_cases : (x : Outcome Fields) → Never16 x → (settled (λ n. on_area (Err n) work) (and_then x λ p. Ok (sent_fields on s work p))).answer ≡ Err AreaShort → ⊥
  unfolding settled and_then sent_fields
  sending_cases (Err n) never e = let z : n ≡ AreaShort = cc in never (ap Err z)
  sending_cases (Ok p) never e = pick_other _ (compact_bytes p) e

  by_room : (room : Bool) (x : Outcome Fields) → Never16 x → leb compact_room (length work) ≡ room
      → ((settled (λ n. on_area (Err n) work) (check room AreaShort (and_then x λ p. Ok (sent_fields on s work p)))).answer ≡ Err AreaShort) ↔ (length work < compact_room)
  unfolding settled check
  by_room true x never h = (λ e. absurd (sending_cases x never e), λ k. let long = leb-true compact_room (length work) h in absurd (omega arith))
  by_room false x never h = (λ e. leb-false compact_room (length work) h, λ k. refl)

pub send_room : SendRoom
unfolding sent sending room_good check
send_room s f work good = rw good (by_room s (compact_on s) work (leb compact_room (length work)) (general_frame s f) (frame_never s f) refl)
