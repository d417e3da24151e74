-- Each outcome of sending, from facts as the code finds them.
-- Assumes nothing.
use Prim.Native.Nat.{ℕ, ◌≤◌, ◌<◌}
use mathlib.Core.Bool.{Bool, true, false, not}
use mathlib.Core.List.{List}
use mathlib.Core.Path.{◌≡◌, sym, ap}
use lib.ListN.{length, take, drop}
use borrow.Author.Tests.{le-leb, lt-leb}
use Rattle.numbers.specs.Tests.{pick, both}
use Rattle.numbers.specs.Result.{check, and_then, settled, Outcome}
use Rattle.numbers.specs.After.{OnArea, on_area, area_as}
use Rattle.numbers.specs.Bytes.{num}
use Rattle.frame.specs.Settings.{settings_good, compact_on}
use Rattle.frame.specs.Front.{front_of}
use Rattle.frame.specs.declared.Settings.{Settings}
use Rattle.frame_fields.specs.Meaning.{front_at}
use Rattle.frame_parse.specs.Meaning.{fields_in, parsed_as, Reads}
use Rattle.frame_parse.specs.declared.Parts.{Parts}
use Rattle.convert.specs.Compaction.{compact_bytes, stays_general, general_frame, compact_room}
use Rattle.convert.specs.Sending.{room_good, sent_fields, sending, sent}
use Rattle.convert.proofs.Room.{general_short}
use Rattle.convert_compact.specs.Meaning.{fields_at, compact_length, filled}
use Rattle.convert_compact.proofs.Laws.{compact_long}
use Rattle.convert_send.specs.Meaning.{sent_where}
use Rattle.std.specs.Prelude.{Option, Some, None, Ok, Err}
use Rattle.numbers.specs.declared.refusals.Refusal.TheVariants.{SettingsBad, AreaShort}
use Rattle.numbers.specs.declared.refusals.Refusal.{Refusal}

module _ (s : Settings) (f : List ℕ) where
  frame_read : (x : Outcome Parts) → Reads f (fields_at s.port f) x → parsed_as f x ≡ general_frame s f
  unfolding fields_at front_at front_of
  frame_read x r = r.fields

  -- the Compact frame of a General one has room in 9,204 bytes
  pub parts_short : (p : Parts) → Reads f (fields_at s.port f) (Ok p) → compact_length (length f) p ≤ compact_room
  parts_short p r = rw (← compact_long f p r.parts) (general_short s f (fields_in f p) (sym (frame_read (Ok p) r)))

module _ (on : Bool) (s : Settings) (f work : List ℕ) (g : Bool) (eg : g ≡ settings_good s) where
  pub send_settings : g ≡ false → on_area (Err SettingsBad) work ≡ sent_where on s f work
  unfolding sent_where sending settled check
  send_settings h = rw (← eg, h)

  module _ (ok : g ≡ true) where
    pub send_short : length work < compact_room → on_area (Err AreaShort) work ≡ sent_where on s f work
    unfolding sent_where sending settled check room_good
    send_short h = rw (← eg, ok, lt-leb compact_room (length work) h)

    module _ (room : compact_room ≤ length work) where
      pub send_refused : (n : Refusal) → Reads f (fields_at s.port f) (Err n) → on_area (Err n) work ≡ sent_where on s f work
      unfolding sent_where sending settled and_then check room_good
      send_refused n r = rw (← eg, ok, le-leb compact_room (length work) room, ← frame_read s f (Err n) r)

      module _ (p : Parts) (r : Reads f (fields_at s.port f) (Ok p)) (a : ℕ) (ea : a ≡ num (take 6 (drop p.dst_offset f))) (m : Bool) (em : m ≡ both on (not (stays_general s a))) where
        fields_got : general_frame s f ≡ Ok (fields_in f p)
        fields_got = sym (frame_read s f (Ok p) r)

        pub send_itself : m ≡ false → on_area (Ok None) work ≡ sent_where on s f work
        unfolding sent_where sending sent_fields settled and_then check room_good pick
        send_itself h = rw (← eg, ok, le-leb compact_room (length work) room, fields_got, ← ea, ← em, h)

        pub send_put : m ≡ true → (n : ℕ) (o : List ℕ) → on_area n o ≡ filled (compact_bytes (fields_in f p)) work → on_area (Ok (Some n)) o ≡ sent_where on s f work
        unfolding sent_where sending sent_fields settled and_then check room_good pick
        send_put h n o ran = rw (← eg, ok, le-leb compact_room (length work) room, fields_got, ← ea, ← em, h) (ap (area_as (λ x. Ok (Some x))) ran)

-- sending tests the far port's Compact
pub where_sent : (s : Settings) (f work : List ℕ) (a : OnArea (Outcome (Option ℕ))) → a ≡ sent_where (compact_on s) s f work → a ≡ sent s f work
unfolding sent sent_where
where_sent s f work a e = e
