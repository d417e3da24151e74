-- The reason as the word of the C boundary.
-- Assumes nothing.
use Rattle.std.specs.Prelude.{ℕ, ◌+◌, ◌*◌, ◌^◌, Ok, Err}
use Rattle.numbers.specs.Numberings.{at_most}
use Rattle.why.specs.declared.NicknameMatch.{NicknameMatch}
use Rattle.why.specs.declared.NicknameMatch.TheVariants.{Sender, Listed}
use Rattle.why.specs.declared.LabelMatch.{LabelMatch}
use Rattle.why.specs.declared.LabelMatch.TheVariants as label
use Rattle.why.specs.declared.MacMatch.{MacMatch}
use Rattle.why.specs.declared.MacMatch.TheVariants as mac
use Rattle.why.specs.declared.Reason.{Reason}
use Rattle.why.specs.declared.Reason.TheVariants.{Free, Spoilt, Configured, NicknameNotMeant, LabelNotMeant, MacNotMeant, Cleared}
use Rattle.numbers.specs.Result.{Outcome}
use Rattle.numbers.specs.Refusals.{number_of}

-- the place of a reason in the order of the request
abbrev pub reason_number : Reason → ℕ
reason_number Free = 0
reason_number Spoilt = 1
reason_number Configured = 2
reason_number NicknameNotMeant = 3
reason_number LabelNotMeant = 4
reason_number MacNotMeant = 5
reason_number (Cleared w) = 6

-- the largest place that 22 bits show: only a payload of over 8 MB, which no frame carries, has more TLVs
abbrev pub most_shown : ℕ
most_shown = 4194303

-- a place over it shows as that
abbrev pub shown : ℕ → ℕ
shown k = at_most most_shown k

-- bits 8..15 the place of the nickname, 16 the sender
abbrev pub nickname_bits : NicknameMatch → ℕ
nickname_bits Sender = 2 ^ 16
nickname_bits (Listed k) = k * 2 ^ 8

-- bit 17 the place counts TLVs, 18..39 the place
abbrev pub label_bits : LabelMatch → ℕ
label_bits (label.Block k) = shown k * 2 ^ 18
label_bits (label.Tlv k) = 2 ^ 17 + shown k * 2 ^ 18

-- bits 40..61 the place, 63 every MAC
abbrev pub mac_bits : MacMatch → ℕ
mac_bits mac.Every = 2 ^ 63
mac_bits (mac.Tlv k) = shown k * 2 ^ 40

-- of a cleared record what brought it
abbrev pub reason_bits : Reason → ℕ
reason_bits Free = 0
reason_bits Spoilt = 0
reason_bits Configured = 0
reason_bits NicknameNotMeant = 0
reason_bits LabelNotMeant = 0
reason_bits MacNotMeant = 0
reason_bits (Cleared w) = nickname_bits w.nickname + label_bits w.label + mac_bits w.mac

-- 64 free, 65 spoilt, 66 configured, 67 nickname, 68 label, 69 MAC not meant, 70 cleared
abbrev pub why_word : Outcome Reason → ℕ
why_word (Err r) = number_of r
why_word (Ok r) = 64 + reason_number r + reason_bits r
