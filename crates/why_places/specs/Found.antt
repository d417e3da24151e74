-- What a walk answers: the place of the first that brings a match, or none; "meant" is "some place".
-- Assumes nothing.
use Rattle.std.specs.Prelude.{ℕ, suc, Bool, List, [], ◌∷◌, Option, Some, None}
use Rattle.numbers.specs.Tests.{pick}
use Rattle.table.specs.declared.Label.{Label}
use Rattle.flush.specs.Payload.{every_type, Piece}
use Rattle.flush.specs.Meaning.{nickname_meant, label_meant, mac_meant}
use Rattle.why.specs.Why.{nickname_match, label_match, mac_match}
use Rattle.why.specs.declared.NicknameMatch.{NicknameMatch}
use Rattle.why.specs.declared.LabelMatch.{LabelMatch}
use Rattle.why.specs.declared.MacMatch.{MacMatch}

-- the first element that passes the test, counted on from k
unfoldable pub first_from : {A : Type 0} → (A → Bool) → ℕ → List A → Option ℕ
first_from p k [] = None
first_from p k (x ∷ xs) = pick (p x) (Some k) (first_from p (suc k) xs)

unfoldable pub nickname_found : ℕ → List ℕ → ℕ → Option NicknameMatch
nickname_found ingress nicks x = pick (nickname_meant ingress nicks x) (Some (nickname_match nicks x)) None

unfoldable pub label_found : ℕ → List Piece → Label → Option LabelMatch
label_found n ps x = pick (label_meant every_type ps x) (Some (label_match n ps x)) None

unfoldable pub mac_found : List Piece → ℕ → Option MacMatch
mac_found ps m = pick (mac_meant every_type ps m) (Some (mac_match ps m)) None
