-- The reason of a slot by what it holds. A test that decides says what the flush's own proposition says, so that the reason is cleared
-- exactly if the slot is learned and meant.
-- Assumes nothing.
use Prim.Native.Nat.{ℕ, ◌<◌, ◌≤◌}
use mathlib.Core.Bool.{Bool, true, false, not}
use mathlib.Core.Logic.{◌↔◌, inl, inr}
use mathlib.Core.Path.{◌≡◌, refl, sym, subst, ◌∙◌}
use native.Mathlib.Omega.{arith}
use Rattle.numbers.specs.Tests.{pick}
use Rattle.numbers.proofs.Truth.{false_true}
use Rattle.table.specs.declared.Entry.{Entry}
use Rattle.table.specs.declared.Slot.{Slot}
use Rattle.table.specs.declared.Slot.TheVariants as slot
use Rattle.flush.specs.Payload.{every_type, Payload}
use Rattle.flush.specs.Meaning.{nickname_meant, label_meant, mac_meant}
use Rattle.flush.specs.Sets.{NicknameMeant, LabelMeant, MacMeant, Meant}
use Rattle.flush.proofs.Sets.{nickname_agrees, label_agrees, mac_agrees}
use Rattle.why.specs.Why.{places_of, learned_reason, reason_of}
use Rattle.why.specs.Words.{reason_number}
use Rattle.why.specs.Claims.{Holds, Applies, First}
use Rattle.why.specs.declared.Places.{Places}
use Rattle.why.specs.declared.Reason.{Reason}
use Rattle.why.specs.declared.Reason.TheVariants.{Free, Spoilt, Configured, NicknameNotMeant, LabelNotMeant, MacNotMeant, Cleared}

-- ---- the order

last_reason : (r : Reason) → reason_number r ≤ 6
last_reason Free = omega arith
last_reason Spoilt = omega arith
last_reason Configured = omega arith
last_reason NicknameNotMeant = omega arith
last_reason LabelNotMeant = omega arith
last_reason MacNotMeant = omega arith
last_reason (Cleared w) = omega arith

-- a test that fails refutes what it says
refutes : {P : Type 0} (b : Bool) → (b ≡ true) ↔ P → b ≡ false → P → ⊥
refutes b says h p = false_true (sym h ∙ says.1 p)

-- a learned record has one entry
one_entry : (e f : Entry) → Holds (slot.Learned e) f → f ≡ e
one_entry e f (inl h) = cc
one_entry e f (inr h) = let z : ◌≡◌ {A = ℕ} 0 1 = cc in absurd (omega arith)

module _ (n : ℕ) (p : Payload) (ingress : ℕ) where
  abbrev IsNickname : Entry → Type 0
  IsNickname e = NicknameMeant ingress p.nicks e.nickname

  abbrev IsLabel : Entry → Type 0
  IsLabel e = LabelMeant p.pieces e.label

  abbrev IsMac : Entry → Type 0
  IsMac e = MacMeant p.pieces e.mac

  -- ---- of a learned record

  module _ (e : Entry) where
    -- what comes before the reason in the order does not apply
    none_before : (r : Reason) → (3 < reason_number r → IsNickname e) → (4 < reason_number r → IsLabel e) → (5 < reason_number r → IsMac e)
        → (q : Reason) → reason_number q < reason_number r → Applies p ingress (slot.Learned e) q → ⊥
    none_before r x y z Free h a = let z : ◌≡◌ {A = ℕ} 0 1 = cc in omega arith
    none_before r x y z Spoilt h a = let z : ◌≡◌ {A = ℕ} 0 1 = cc in omega arith
    none_before r x y z Configured h (f, a) = let z : ◌≡◌ {A = ℕ} 0 1 = cc in omega arith
    none_before r x y z NicknameNotMeant h (f, has, miss) = miss (subst IsNickname (sym (one_entry e f has)) (x h))
    none_before r x y z LabelNotMeant h (f, has, miss) = miss (subst IsLabel (sym (one_entry e f has)) (y h))
    none_before r x y z MacNotMeant h (f, has, miss) = miss (subst IsMac (sym (one_entry e f has)) (z h))
    none_before r x y z (Cleared w) h a = let m = last_reason r in omega arith

    by_tests : (a b c : Bool) → nickname_meant ingress p.nicks e.nickname ≡ a → label_meant every_type p.pieces e.label ≡ b → mac_meant every_type p.pieces e.mac ≡ c
        → First p ingress (slot.Learned e) (pick (not a) NicknameNotMeant (pick (not b) LabelNotMeant (pick (not c) MacNotMeant (Cleared (places_of n p e)))))
    unfolding pick
    by_tests false b c x y z = record {
      applies = (e, inl refl, refutes _ (nickname_agrees ingress p.nicks e.nickname) x);
      none_earlier = none_before NicknameNotMeant (λ h. absurd (omega arith)) (λ h. absurd (omega arith)) (λ h. absurd (omega arith));
    }
    by_tests true false c x y z = record {
      applies = (e, inl refl, refutes _ (label_agrees p.pieces e.label) y);
      none_earlier = none_before LabelNotMeant (λ h. (nickname_agrees ingress p.nicks e.nickname).0 x) (λ h. absurd (omega arith)) (λ h. absurd (omega arith));
    }
    by_tests true true false x y z = record {
      applies = (e, inl refl, refutes _ (mac_agrees p.pieces e.mac) z);
      none_earlier = none_before MacNotMeant (λ h. (nickname_agrees ingress p.nicks e.nickname).0 x) (λ h. (label_agrees p.pieces e.label).0 y) (λ h. absurd (omega arith));
    }
    by_tests true true true x y z =
        let nickname = (nickname_agrees ingress p.nicks e.nickname).0 x in
        let label = (label_agrees p.pieces e.label).0 y in
        let mac = (mac_agrees p.pieces e.mac).0 z in
        record {
          applies = (e, refl, record { nickname = nickname; label = label; mac = mac });
          none_earlier = none_before (Cleared (places_of n p e)) (λ h. nickname) (λ h. label) (λ h. mac);
        }

    learned_first : First p ingress (slot.Learned e) (learned_reason n p ingress e)
    unfolding learned_reason
    learned_first = by_tests _ _ _ refl refl refl

    -- what is meant is cleared
    learned_cleared : Meant p ingress e → learned_reason n p ingress e ≡ Cleared (places_of n p e)
    unfolding learned_reason pick
    learned_cleared m =
        rw (
          (nickname_agrees ingress p.nicks e.nickname).1 m.nickname,
          (label_agrees p.pieces e.label).1 m.label,
          (mac_agrees p.pieces e.mac).1 m.mac,
        )

  -- ---- of any slot

  pub reason_first : (s : Slot) → First p ingress s (reason_of n p ingress s)
  reason_first slot.Free = record { applies = refl; none_earlier = λ q h. absurd (omega arith) }
  reason_first slot.Spoilt = record { applies = refl; none_earlier = none }
    where
      none : (q : Reason) → reason_number q < 1 → Applies p ingress slot.Spoilt q → ⊥
      none Free h a = let z : ◌≡◌ {A = ℕ} 0 1 = cc in omega arith
      none Spoilt h a = omega arith
      none Configured h a = omega arith
      none NicknameNotMeant h a = omega arith
      none LabelNotMeant h a = omega arith
      none MacNotMeant h a = omega arith
      none (Cleared w) h a = omega arith
  reason_first (slot.Learned e) = learned_first e
  reason_first (slot.Configured e) = record { applies = (e, refl); none_earlier = none }
    where
      none : (q : Reason) → reason_number q < 2 → Applies p ingress (slot.Configured e) q → ⊥
      none Free h a = let z : ◌≡◌ {A = ℕ} 0 1 = cc in omega arith
      none Spoilt h a = let z : ◌≡◌ {A = ℕ} 0 1 = cc in omega arith
      none Configured h a = omega arith
      none NicknameNotMeant h a = omega arith
      none LabelNotMeant h a = omega arith
      none MacNotMeant h a = omega arith
      none (Cleared w) h a = omega arith

  pub meant_cleared : (s : Slot) (e : Entry) → s ≡ slot.Learned e → Meant p ingress e → reason_of n p ingress s ≡ Cleared (places_of n p e)
  meant_cleared s e h m = rw h (learned_cleared e m)

  -- the reason cleared tells that the slot is learned and meant, and by what
  pub cleared_meant : (s : Slot) (w : Places) → reason_of n p ingress s ≡ Cleared w → (e : Entry) × (s ≡ slot.Learned e) × Meant p ingress e × (w ≡ places_of n p e)
  cleared_meant s w h =
      let (e, learned, m) = subst (Applies p ingress s) h (reason_first s).applies in
      let c = meant_cleared s e learned m in
      (e, learned, m, (cc))
