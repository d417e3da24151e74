-- The label, the native frame, and each outcome of delivering.
-- Assumes nothing.
use Prim.Native.Nat.{ℕ, ◌+◌, ◌-◌, ◌*◌, ◌%◌, ◌^◌, ◌<◌, ◌≤◌}
use mathlib.Core.Bool.{Bool, true, false}
use mathlib.Core.List.{List, [], ◌∷◌, ◌++◌, append_assoc, append-nil}
use mathlib.Core.Path.{◌≡◌, refl, sym, ap, ◌∙◌}
use native.Mathlib.Omega.{arith}
use lib.ListN.{length, take, drop, length-drop, length-append, take-append-drop}
use lib.Seq.{drop-drop, take-add, take-take, length-take-le}
use borrow.Author.Tests.{le-leb, lt-leb}
use Rattle.numbers.specs.Tests.{pick}
use Rattle.numbers.specs.Result.{check, and_then, settled, Outcome}
use Rattle.numbers.specs.After.{OnBoth, on_both, on_table}
use Rattle.numbers.specs.Bytes.{num, bytes_of, laid}
use Rattle.numbers.proofs.Lists.{part_prefix, starts_same}
use Rattle.table.specs.Record.{label_number}
use Rattle.table.specs.declared.Entry.{Entry}
use Rattle.table.specs.declared.Label.{Label}
use Rattle.table.specs.declared.Label.TheVariants.{Vlan, Fine}
use Rattle.table.specs.declared.Learning.{Learning}
use Rattle.frame.specs.Fields.{Fields, native_bytes}
use Rattle.frame.specs.Header.{word_at}
use Rattle.frame.specs.Front.{trill_group}
use Rattle.frame.specs.Labels.{tag_bytes, fine_bytes, is_tag, low12, label_read}
use Rattle.frame.specs.Settings.{default_life}
use Rattle.frame.specs.declared.Settings.{Settings}
use Rattle.receive.specs.Deciding.{is_marked}
use Rattle.port_map.specs.Maps.{campus_label}
use Rattle.receive.specs.Delivering.{tagged_bytes}
use Rattle.receive.specs.Receive.{learned_entry, taught, delivery}
use Rattle.receive.specs.declared.ReadAnswer.{ReadAnswer}
use Rattle.receive.specs.declared.ReadAnswer.TheVariants.{Delivered}
use Rattle.receive.proofs.Outcomes.{apart}
use Rattle.frame_parse.specs.Meaning.{fields_in, PartsOf}
use Rattle.frame_parse.specs.declared.Parts.{Parts}
use Rattle.frame_parse.proofs.Located.{label_in_frame}
use Rattle.frame_copy.specs.Areas.{pasted}
use Rattle.frame_copy.proofs.Copying.{paste_next, paste_after, paste_laid}
use Rattle.receive_decide.specs.Meaning.{ValuesOf}
use Rattle.receive_decide.specs.declared.FieldValues.{FieldValues}
use Rattle.receive_teach.specs.Meaning.{learned_of, taught_of}
use Rattle.receive_deliver.specs.Meaning.{Asks, tag_of, tag_length, is_missing, native_as, written_with, native_length}
use Rattle.receive_deliver.specs.declared.Tag.{Tag}
use Rattle.receive_deliver.specs.declared.Tag.TheVariants as tag
use Rattle.receive_deliver.specs.declared.Wanted.TheVariants as wanted
use Rattle.std.specs.Prelude.{Ok, Err}
use Rattle.numbers.specs.declared.refusals.Refusal.TheVariants.{NotChannel, AreaShort, NoPair}

-- ---- the label

kind_tag : (n : ℕ) (b : Bool) → n ≡ pick b tag_bytes fine_bytes → n ≡ tag_bytes → b ≡ true
unfolding pick
kind_tag n true e h = refl
kind_tag n false e h = absurd (omega arith)

kind_fine : (n : ℕ) (b : Bool) → n ≡ pick b tag_bytes fine_bytes → (n ≡ tag_bytes → ⊥) → (b ≡ false) × (n ≡ fine_bytes)
unfolding pick
kind_fine n true e h = absurd (h e)
kind_fine n false e h = (refl, e)

module _ (f : List ℕ) (p : Parts) (w : PartsOf f p) where
  abbrev at : ℕ
  at = p.dst_offset + 12

  pub vlan_read : (a : ℕ) → a ≡ low12 (at + 2) f → p.label_length ≡ tag_bytes → (Vlan a ≡ label_read (fields_in f p).label) × (label_number (Vlan a) < 2 ^ 24)
  unfolding label_read pick
  vlan_read a high h = (rw (label_in_frame f p w, kind_tag p.label_length (is_tag (drop at f)) w.label_kind h, drop-drop 2 at f, ← high), omega arith)

  pub low_room : (p.label_length ≡ tag_bytes → ⊥) → at + 6 + 2 ≤ length f
  low_room h =
      let n = (kind_fine p.label_length (is_tag (drop at f)) w.label_kind h).1 in
      let l = w.label-in in
      omega arith

  pub fine_read : (a c : ℕ) → a ≡ low12 (at + 2) f → c ≡ low12 (at + 6) f → (p.label_length ≡ tag_bytes → ⊥)
      → (Fine (a * 0x1000 + c) ≡ label_read (fields_in f p).label) × (label_number (Fine (a * 0x1000 + c)) < 2 ^ 24)
  unfolding label_read pick
  fine_read a c high low h =
      (rw (label_in_frame f p w, (kind_fine p.label_length (is_tag (drop at f)) w.label_kind h).0, drop-drop 2 at f, drop-drop 6 at f, ← high, ← low), omega arith)

-- ---- the tag

tag_length_lem : (g : Tag) → length (tag_of g) ≡ tag_length g
unfolding bytes_of
tag_length_lem tag.Untagged = refl
tag_length_lem (tag.Number w) = refl
tag_length_lem tag.Missing = refl

missing_as : (g : Tag) (p : Fields) → is_missing g ≡ true → native_as g p ≡ Err NoPair
missing_as tag.Untagged p h = apart cc
missing_as (tag.Number w) p h = apart cc
missing_as tag.Missing p h = refl

written_as : (g : Tag) (p : Fields) → is_missing g ≡ false → native_as g p ≡ Ok (written_with g p)
unfolding written_with native_bytes tagged_bytes
written_as tag.Untagged p h = refl
written_as (tag.Number w) p h = refl
written_as tag.Missing p h = apart cc

pub tag_none : (g : Tag) (o : List ℕ) → length (tag_of g) ≡ 0 → tag_of g ≡ [] → o ≡ pasted o 12 (tag_of g)
unfolding pasted
tag_none g o z e = rw e (sym (simp append-nil (take-append-drop 12 o)))

pub tag_untagged : (g : Tag) (o : List ℕ) → g ≡ tag.Untagged → o ≡ pasted o 12 (tag_of g)
tag_untagged g o e = rw e (tag_none tag.Untagged o refl refl)

pub tag_missing : (g : Tag) (o : List ℕ) → g ≡ tag.Missing → o ≡ pasted o 12 (tag_of g)
tag_missing g o e = rw e (tag_none tag.Missing o refl refl)

pub tag_room : (g : Tag) (w : ℕ) (o : List ℕ) → g ≡ tag.Number w → 12 + tag_length g ≤ length o → 16 ≤ length o
tag_room g w o e h = rw e at h

pub tag_written : (g : Tag) (w : ℕ) (o u e : List ℕ) → g ≡ tag.Number w → u ≡ pasted o 12 (bytes_of 2 0x8100) → e ≡ pasted u 14 (bytes_of 2 w) → 12 + tag_length g ≤ length o → e ≡ pasted o 12 (tag_of g)
unfolding bytes_of
tag_written g w o u e is first second room =
    let n = tag_room g w o is room in
    rw is (second ∙ rw first (paste_next o (0x81 ∷ 0x00 ∷ []) (bytes_of 2 w) 12 14 (omega arith) refl))

-- ---- what the label asks

module _ (f : List ℕ) (p : Parts) (w : PartsOf f p) where
  tag_front : is_tag (fields_in f p).label ≡ is_tag (drop (at f p w) f)
  tag_front =
      let a = w.label-in in
      let n = w.label in
      starts_same 0x81 0x00 _ _ (take-take 2 p.label_length (drop (at f p w) f) (omega arith))

  pub asks_nothing : p.label_length ≡ tag_bytes → Asks wanted.Nothing (fields_in f p)
  asks_nothing h = tag_front ∙ kind_tag p.label_length (is_tag (drop (at f p w) f)) w.label_kind h

  module _ (h : p.label_length ≡ tag_bytes → ⊥) where
    word_in : (k : ℕ) → k + 2 ≤ fine_bytes → word_at k (fields_in f p).label ≡ word_at (at f p w + k) f
    word_in k small =
        let n = (kind_fine p.label_length (is_tag (drop (at f p w) f)) w.label_kind h).1 in
        let l = w.label-in in
        let d = length-drop (at f p w) f in
        ap num (sym (part_prefix (drop (at f p w) f) k 2 p.label_length (omega arith) (omega arith)) ∙ ap (take 2) (drop-drop k (at f p w) f))

    pub asks_vlan : (a c : ℕ) → a ≡ low12 (at f p w + 2) f → c ≡ word_at (at f p w + 6) f → Asks (wanted.Vlan (campus_label (a * 0x1000 + c % 0x1000)) c) (fields_in f p)
    asks_vlan a c high low =
        (tag_front ∙ (kind_fine p.label_length (is_tag (drop (at f p w) f)) w.label_kind h).0, (rw (high, low, word_in 2 (omega arith), word_in 6 (omega arith)), low ∙ sym (word_in 6 (omega arith))))

-- ---- the native frame

module _ (f : List ℕ) (p : Parts) (i : PartsOf f p) where
  dst_bytes : length (take 6 (drop p.dst_offset f)) ≡ 6
  dst_bytes =
      let r = length-drop p.dst_offset f in
      let h = i.label-in in
      length-take-le 6 (drop p.dst_offset f) (omega arith)

  src_bytes : length (take 6 (drop (p.dst_offset + 6) f)) ≡ 6
  src_bytes =
      let r = length-drop (p.dst_offset + 6) f in
      let h = i.label-in in
      length-take-le 6 (drop (p.dst_offset + 6) f) (omega arith)

  -- both addresses are one piece
  both_bytes : take 12 (drop p.dst_offset f) ≡ take 6 (drop p.dst_offset f) ++ take 6 (drop (p.dst_offset + 6) f)
  both_bytes = take-add 6 6 (drop p.dst_offset f) ∙ rw (drop-drop 6 p.dst_offset f)

  pub native_written_lem : (g : Tag) (o a x u t e : List ℕ) (k : ℕ) → a ≡ take 12 (drop p.dst_offset f) → x ≡ drop p.content_offset f
      → u ≡ pasted o 0 a
      → t ≡ pasted u 12 (tag_of g)
      → k ≡ tag_length g
      → e ≡ pasted t (12 + k) x
      → e ≡ laid (written_with g (fields_in f p)) o
  unfolding written_with
  native_written_lem g o a x u t e k both content first second long third =
      let dst : List ℕ = take 6 (drop p.dst_offset f) in
      let src : List ℕ = take 6 (drop (p.dst_offset + 6) f) in
      let n : length (dst ++ src) ≡ 12 = simp (length-append, dst_bytes, src_bytes) in
      let m : length ((dst ++ src) ++ tag_of g) ≡ 12 + k = simp (length-append, dst_bytes, src_bytes, tag_length_lem g, long) in
      third
      ∙ rw (second, first, both, both_bytes, content, paste_after o (dst ++ src) (tag_of g) 12 n, paste_after o ((dst ++ src) ++ tag_of g) (drop p.content_offset f) (12 + k) m, paste_laid o (((dst ++ src) ++ tag_of g) ++ drop p.content_offset f), append_assoc (dst ++ src) (tag_of g) (drop p.content_offset f), append_assoc dst src (tag_of g ++ drop p.content_offset f))

  native_length_lem : (g : Tag) → length (written_with g (fields_in f p)) ≡ native_length g (length f) p
  unfolding written_with
  native_length_lem g =
      simp (length-append, dst_bytes, src_bytes, tag_length_lem g, length-drop p.content_offset f) (omega arith)

  -- ---- the outcomes

  module _ (s : Settings) (v : FieldValues) (w : ValuesOf (fields_in f p) v) (t o : List ℕ) where
    abbrev delivered : Tag → OnBoth (Outcome ReadAnswer)
    delivered tag = settled (λ n. on_both (Err n) t o) (delivery (native_as tag (fields_in f p)) default_life s (fields_in f p) t o)

    module _ (tag : Tag) (g : Bool) (group : g ≡ trill_group v.dst) where
      pub group_out : g ≡ true → on_both (Err NotChannel) t o ≡ delivered tag
      unfolding delivery settled check
      group_out h = rw (← w.dst, ← group, h)

      module _ (h : g ≡ false) (m : Bool) (em : m ≡ is_missing tag) where
        pub missing_out : m ≡ true → on_both (Err NoPair) t o ≡ delivered tag
        unfolding delivery settled check and_then
        missing_out y = rw (← w.dst, ← group, h, missing_as tag (fields_in f p) (sym em ∙ y))

        module _ (some : m ≡ false) (k : ℕ) (ek : k ≡ tag_length tag) where
          abbrev long : ℕ
          long = 12 + k + (length f - p.content_offset)

          its_length : length (written_with tag (fields_in f p)) ≡ long
          its_length = native_length_lem tag ∙ rw ek

          pub short_out : length o < long → on_both (Err AreaShort) t o ≡ delivered tag
          unfolding delivery settled check and_then
          short_out l = rw (← w.dst, ← group, h, written_as tag (fields_in f p) (sym em ∙ some), its_length, lt-leb long (length o) l)

          pub done : long ≤ length o
              → (label : Label) → label ≡ label_read (fields_in f p).label
              → (mark : Bool) → mark ≡ is_marked s (fields_in f p).header
              → (e : Entry) → e ≡ learned_of s label v.src v.ingress mark
              → (how : Learning) (u : List ℕ) → on_table how u ≡ taught_of s.nickname e t
              → (z : List ℕ) → z ≡ laid (written_with tag (fields_in f p)) o
              → on_both (Ok (Delivered how long label)) u z ≡ delivered tag
          unfolding delivery taught settled check and_then learned_entry taught_of
          done l label le mark ma e ee how u lu z lz =
              let eo : e.nickname ≡ v.ingress = rw ee in
              rw (← w.dst, ← group, h, written_as tag (fields_in f p) (sym em ∙ some), its_length, le-leb long (length o) l, ← le, ← w.src, ← w.ingress, ← ma, ← ee, ← eo, ← lu, lz)
