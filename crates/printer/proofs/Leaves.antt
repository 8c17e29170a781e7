-- A leaf as the first pass meets it: its events, one after the other, and the one number that tells them.
-- Assumes nothing.
use mathlib.Core.Path.{◌≡◌, refl, sym, ap, ◌∙◌}
use mathlib.Core.Bool.{Bool, false}
use mathlib.Core.List.{List, [], ◌∷◌, ◌++◌}
use Prim.Native.Nat.{ℕ, ◌+◌, ◌-◌, ◌*◌, ◌/◌, ◌%◌, ◌<◌, ◌≤◌}
use native.Mathlib.Omega.{arith}
use lib.ListN.{length, get_or, set, take, drop}
use lib.Seq.{get_or-set_same}
use Rattle.tree.specs.Tree.{map_of}
use Rattle.tree.specs.Tree.Node.{node}
use Rattle.tree.specs.Tree.Fields.{done, field}
use Rattle.tree.specs.Tree.Piece.{text, byte}
use Rattle.tree.specs.Grammar.{Sort}
use Rattle.tree.specs.Read.{byte_at, wide_at}
use Rattle.rewritten.specs.Events.{Event, events, events_fields, events_piece}
use Rattle.rewritten.specs.Events.Event.{begins, ends}
use Rattle.rewritten.specs.Pass.{folded}
use Rattle.rewritten.specs.Look.{rest_of}
use Rattle.rewritten.specs.Steps.{event_in, Onward}
use Rattle.rewritten.specs.declared.step.Cursor.{Cursor}
use Rattle.rewritten.specs.declared.step.Event.TheVariants.{Begins, Ends, Text, Byte}
use Rattle.rewritten.proofs.Marks.{by_same}
use Rattle.rewritten.proofs.MarksReader.{Reading, closed_next}
use Rattle.rewritten.proofs.Pass.{coming}
use Rattle.rewritten.proofs.Tasks as task
use Rattle.printer.specs.Text.{note_from}
use Rattle.printer.specs.Entries.{Entry, entries, entries_fields, entries_piece, collect}
use Rattle.printer.specs.Logged.{name_in_of, literal_in, entries_for, deep_by, bytes_by, Allowed}
use Rattle.printer.specs.Met.{name_kind, one_text, byte_and_texts}
use Rattle.printer.proofs.Collected.{made, node_collected}
use Rattle.printer.proofs.Recording.{Went, went_one, went_then, closing_goes}

-- ---- what they add

pub name_collected : (kind at : ℕ) (bs : List ℕ) (is : List ℕ) (o : List Entry) → folded collect (made is o) (begins at kind 1 ∷ Event.text bs ∷ ends ∷ []) ≡ made is (o ++ (Entry.node kind 1 0 ∷ Entry.text bs ∷ Entry.ends ∷ []))
unfolding events events_fields events_piece entries entries_fields entries_piece note_from map_of
name_collected kind at bs is o = node_collected (node at kind (field (text bs) done)) is o

pub literal_collected : (at b : ℕ) (xs ys : List ℕ) (is : List ℕ) (o : List Entry) → folded collect (made is o) (begins at 22 7 ∷ Event.byte b ∷ Event.text xs ∷ Event.text ys ∷ ends ∷ []) ≡ made is (o ++ (Entry.node 22 7 b ∷ Entry.quiet ∷ Entry.text xs ∷ Entry.text ys ∷ Entry.ends ∷ []))
unfolding events events_fields events_piece entries entries_fields entries_piece note_from map_of
literal_collected at b xs ys is o = node_collected (node at 22 (field (byte b) (field (text xs) (field (text ys) done)))) is o

pub name_for : (l : List ℕ) (code n : ℕ) → 9 < code → code < 13 → entries_for l code n 0 ≡ name_in_of l (name_kind code) 0 n
unfolding entries_for
name_for l code n a b = by_same code 10 (λ e. rw e refl) (λ f. by_same code 11 (λ e. rw e refl) (λ h. let e : code ≡ 12 = omega arith in rw e refl))

pub name_level : (code deep : ℕ) → 9 < code → code < 13 → deep_by code deep ≡ deep
name_level code deep a b = by_same code 10 (λ e. rw e refl) (λ f. by_same code 11 (λ e. rw e refl) (λ h. let e : code ≡ 12 = omega arith in rw e refl))

pub name_bytes_lem : (code : ℕ) → 9 < code → code < 13 → bytes_by code ≡ 2
name_bytes_lem code a b = by_same code 10 (λ e. rw e refl) (λ f. by_same code 11 (λ e. rw e refl) (λ h. let e : code ≡ 12 = omega arith in rw e refl))

pub name_allowed : (code n deep : ℕ) → 9 < code → code < 13 → n < 65535 → Allowed code n deep
name_allowed code n deep a b k = by_same code 10 (λ e. rw e k) (λ f. by_same code 11 (λ e. rw e k) (λ h. let e : code ≡ 12 = omega arith in rw e k))

pub literal_for : (l : List ℕ) (n note : ℕ) → entries_for l 13 n note ≡ literal_in l note n
unfolding entries_for
literal_for l n note = refl

-- ---- the tour over them: c is at the node, and what is found there is `what`

module _ (l fs seen : List ℕ) (c : Cursor) (frames : ℕ) (v : Bool) (g : Reading l fs seen c frames v) (short : length l ≤ 32768) (enough : 16384 ≤ frames) (rest : ℕ) (left : rest ≡ rest_of c.top) (what : ℕ) (a : task.InTask l c.at c.top what) (k : what % 16 ≡ 1) where
  -- behind its head
  head_reads : Reading l (set fs c.deep rest) seen (record { at = c.at + 2; deep = c.deep + 1; top = what / 16 * 2 }) frames v
  head_reads = task.node_reads l fs seen c frames v g what a short enough rest left k

  begins_goes : Onward l fs (set fs c.deep rest) (coming l fs c) c.at c.deep (Begins c.at (byte_at l c.at) (byte_at l (c.at + 1))) (record { at = c.at + 2; deep = c.deep + 1; top = what / 16 * 2 })
  begins_goes = task.node_goes l fs c frames g.tour what a short enough rest left k

  -- a frame is left for it
  open_room : c.deep < length fs
  open_room =
      let i : c.at + 2 ≤ length l = begins_goes.inside g.tour.inside in
      omega (arith, g.tour.size, g.tour.room, i)

  -- its end, with nothing left of it
  module _ (at : ℕ) (h : Reading l (set fs c.deep rest) seen (record { at = at; deep = c.deep + 1; top = 0 }) frames v) where
    back : rest ≡ get_or (set fs c.deep rest) (c.deep + 1 - 1) 0
    back = let e : c.deep ≡ c.deep + 1 - 1 = omega arith in sym (get_or-set_same fs c.deep rest 0 open_room) ∙ ap (λ (x : ℕ). get_or (set fs c.deep rest) x 0) e

    same_depth : c.deep + 1 - 1 ≡ c.deep
    same_depth = omega arith

    pub end_goes : Onward l (set fs c.deep rest) (set fs c.deep rest) (coming l (set fs c.deep rest) (record { at = at; deep = c.deep + 1; top = 0 })) at (c.deep + 1) Ends (record { at = at; deep = c.deep; top = rest })
    end_goes = rw same_depth at (closing_goes l (set fs c.deep rest) seen (record { at = at; deep = c.deep + 1; top = 0 }) frames v h refl (λ z. absurd (omega arith)) rest back)

    pub end_reads : Reading l (set fs c.deep rest) seen (record { at = at; deep = c.deep; top = rest }) frames v
    end_reads = rw same_depth at (closed_next l (set fs c.deep rest) seen (record { at = at; deep = c.deep + 1; top = 0 }) frames v h refl (λ z. absurd (omega arith)) rest back)

  -- ---- a name: one text

  module _ (one : what ≡ one_text) (x : ℕ) (m : task.AsField l (c.at + 2) Sort.text x) where
    abbrev inside_name : Cursor
    inside_name = record { at = c.at + 2; deep = c.deep + 1; top = 1344 }

    name_top : what / 16 * 2 ≡ 1344
    name_top = ap (λ (y : ℕ). y / 16 * 2) one

    name_reads : Reading l (set fs c.deep rest) seen inside_name frames v
    name_reads = rw name_top at head_reads

    name_in : task.InTask l (c.at + 2) 1344 x
    name_in = task.next_text l (c.at + 2) 1344 refl (λ z. absurd (omega arith)) x refl m

    pub name_none : x ≡ 0 → false ≡ v
    name_none z = task.none_reads l (set fs c.deep rest) seen inside_name frames v name_reads x name_in refl z

    module _ (coded : x % 16 ≡ 3) where
      text_goes : Onward l (set fs c.deep rest) (set fs c.deep rest) (coming l (set fs c.deep rest) inside_name) (c.at + 2) (c.deep + 1) (Text (c.at + 2 + 2) (x / 16)) (record { at = c.at + 2 + 2 + x / 16; deep = c.deep + 1; top = 0 })
      text_goes = task.text_goes l (set fs c.deep rest) inside_name frames name_reads.tour x name_in short enough 0 refl coded

      text_reads : Reading l (set fs c.deep rest) seen (record { at = c.at + 2 + 2 + x / 16; deep = c.deep + 1; top = 0 }) frames v
      text_reads = task.text_reads l (set fs c.deep rest) seen inside_name frames v name_reads x name_in short enough 0 refl coded

      pub name_inside : c.at + 2 + 2 + x / 16 ≤ length l
      name_inside = text_reads.tour.inside

      pub name_length : x / 16 ≡ wide_at l (c.at + 2)
      name_length = text_goes.stands.1

      pub name_done : Reading l (set fs c.deep rest) seen (record { at = c.at + 2 + 2 + x / 16; deep = c.deep; top = rest }) frames v
      name_done = end_reads (c.at + 2 + 2 + x / 16) text_reads

      pub name_went : Went l fs (set fs c.deep rest) c (record { at = c.at + 2 + 2 + x / 16; deep = c.deep; top = rest }) (begins c.at (byte_at l c.at) (byte_at l (c.at + 1)) ∷ Event.text (take (x / 16) (drop (c.at + 2 + 2) l)) ∷ ends ∷ [])
      name_went =
          let f : List ℕ = set fs c.deep rest in
          let d : Cursor = record { at = c.at + 2 + 2 + x / 16; deep = c.deep + 1; top = 0 } in
          let r : Cursor = record { at = c.at + 2 + 2 + x / 16; deep = c.deep; top = rest } in
          went_then l fs f f c inside_name r (event_in l (Begins c.at (byte_at l c.at) (byte_at l (c.at + 1))) ∷ []) (Event.text (take (x / 16) (drop (c.at + 2 + 2) l)) ∷ ends ∷ [])
          (went_one l fs f c inside_name (Begins c.at (byte_at l c.at) (byte_at l (c.at + 1))) (rw name_top at begins_goes))
          (went_then l f f f inside_name d r (Event.text (take (x / 16) (drop (c.at + 2 + 2) l)) ∷ []) (ends ∷ [])
          (went_one l f f inside_name d (Text (c.at + 2 + 2) (x / 16)) text_goes)
          (went_one l f f d r Ends (end_goes (c.at + 2 + 2 + x / 16) text_reads)))

  -- ---- a Literal: a byte and two texts

  module _ (three : what ≡ byte_and_texts) (b : ℕ) (m : task.AsField l (c.at + 2) (Sort.byte 1 6) b) where
    abbrev before_byte : Cursor
    before_byte = record { at = c.at + 2; deep = c.deep + 1; top = 1410663948 }

    literal_top : what / 16 * 2 ≡ 1410663948
    literal_top = ap (λ (y : ℕ). y / 16 * 2) three

    literal_reads : Reading l (set fs c.deep rest) seen before_byte frames v
    literal_reads = rw literal_top at head_reads

    byte_in_lem : task.InTask l (c.at + 2) 1410663948 b
    byte_in_lem = task.next_byte l (c.at + 2) 1410663948 refl (λ z. absurd (omega arith)) b (omega arith) (omega arith) m

    pub byte_none : b ≡ 0 → false ≡ v
    byte_none z = task.none_reads l (set fs c.deep rest) seen before_byte frames v literal_reads b byte_in_lem refl z

    module _ (coded : b % 16 ≡ 5) where
      abbrev before_first : Cursor
      before_first = record { at = c.at + 2 + 1; deep = c.deep + 1; top = 1377600 }

      byte_goes : Onward l (set fs c.deep rest) (set fs c.deep rest) (coming l (set fs c.deep rest) before_byte) (c.at + 2) (c.deep + 1) (Byte (b / 16)) before_first
      byte_goes = task.byte_goes l (set fs c.deep rest) before_byte frames literal_reads.tour b byte_in_lem short enough 1377600 refl coded

      byte_reads : Reading l (set fs c.deep rest) seen before_first frames v
      byte_reads = task.byte_reads l (set fs c.deep rest) seen before_byte frames v literal_reads b byte_in_lem short enough 1377600 refl coded

      pub byte_small : b / 16 < 256
      byte_small = byte_goes.stands.1

      module _ (x : ℕ) (p : task.AsField l (c.at + 2 + 1) Sort.text x) where
        first_in : task.InTask l (c.at + 2 + 1) 1377600 x
        first_in = task.next_text l (c.at + 2 + 1) 1377600 refl (λ z. absurd (omega arith)) x refl p

        pub first_none : x ≡ 0 → false ≡ v
        first_none z = task.none_reads l (set fs c.deep rest) seen before_first frames v byte_reads x first_in refl z

        module _ (first : x % 16 ≡ 3) where
          abbrev before_second : Cursor
          before_second = record { at = c.at + 2 + 1 + 2 + x / 16; deep = c.deep + 1; top = 1344 }

          first_goes : Onward l (set fs c.deep rest) (set fs c.deep rest) (coming l (set fs c.deep rest) before_first) (c.at + 2 + 1) (c.deep + 1) (Text (c.at + 2 + 1 + 2) (x / 16)) before_second
          first_goes = task.text_goes l (set fs c.deep rest) before_first frames byte_reads.tour x first_in short enough 1344 refl first

          first_reads : Reading l (set fs c.deep rest) seen before_second frames v
          first_reads = task.text_reads l (set fs c.deep rest) seen before_first frames v byte_reads x first_in short enough 1344 refl first

          pub first_length : x / 16 ≡ wide_at l (c.at + 2 + 1)
          first_length = first_goes.stands.1

          module _ (y : ℕ) (q : task.AsField l (c.at + 2 + 1 + 2 + x / 16) Sort.text y) where
            second_in : task.InTask l (c.at + 2 + 1 + 2 + x / 16) 1344 y
            second_in = task.next_text l (c.at + 2 + 1 + 2 + x / 16) 1344 refl (λ z. absurd (omega arith)) y refl q

            pub second_none : y ≡ 0 → false ≡ v
            second_none z = task.none_reads l (set fs c.deep rest) seen before_second frames v first_reads y second_in refl z

            module _ (second : y % 16 ≡ 3) where
              abbrev last : ℕ
              last = c.at + 2 + 1 + 2 + x / 16 + 2 + y / 16

              second_goes : Onward l (set fs c.deep rest) (set fs c.deep rest) (coming l (set fs c.deep rest) before_second) (c.at + 2 + 1 + 2 + x / 16) (c.deep + 1) (Text (c.at + 2 + 1 + 2 + x / 16 + 2) (y / 16)) (record { at = last; deep = c.deep + 1; top = 0 })
              second_goes = task.text_goes l (set fs c.deep rest) before_second frames first_reads.tour y second_in short enough 0 refl second

              second_reads : Reading l (set fs c.deep rest) seen (record { at = last; deep = c.deep + 1; top = 0 }) frames v
              second_reads = task.text_reads l (set fs c.deep rest) seen before_second frames v first_reads y second_in short enough 0 refl second

              pub literal_inside : last ≤ length l
              literal_inside = second_reads.tour.inside

              pub second_length : y / 16 ≡ wide_at l (c.at + 2 + 1 + 2 + x / 16)
              second_length = second_goes.stands.1

              pub literal_done : Reading l (set fs c.deep rest) seen (record { at = last; deep = c.deep; top = rest }) frames v
              literal_done = end_reads last second_reads

              abbrev first_event : Event
              first_event = Event.text (take (x / 16) (drop (c.at + 2 + 1 + 2) l))

              abbrev second_event : Event
              second_event = Event.text (take (y / 16) (drop (c.at + 2 + 1 + 2 + x / 16 + 2) l))

              pub literal_went : Went l fs (set fs c.deep rest) c (record { at = last; deep = c.deep; top = rest }) (begins c.at (byte_at l c.at) (byte_at l (c.at + 1)) ∷ Event.byte (b / 16) ∷ first_event ∷ second_event ∷ ends ∷ [])
              literal_went =
                  let f : List ℕ = set fs c.deep rest in
                  let d : Cursor = record { at = last; deep = c.deep + 1; top = 0 } in
                  let r : Cursor = record { at = last; deep = c.deep; top = rest } in
                  went_then l fs f f c before_byte r (begins c.at (byte_at l c.at) (byte_at l (c.at + 1)) ∷ []) (Event.byte (b / 16) ∷ first_event ∷ second_event ∷ ends ∷ [])
                  (went_one l fs f c before_byte (Begins c.at (byte_at l c.at) (byte_at l (c.at + 1))) (rw literal_top at begins_goes))
                  (went_then l f f f before_byte before_first r (Event.byte (b / 16) ∷ []) (first_event ∷ second_event ∷ ends ∷ [])
                  (went_one l f f before_byte before_first (Byte (b / 16)) byte_goes)
                  (went_then l f f f before_first before_second r (first_event ∷ []) (second_event ∷ ends ∷ [])
                  (went_one l f f before_first before_second (Text (c.at + 2 + 1 + 2) (x / 16)) first_goes)
                  (went_then l f f f before_second d r (second_event ∷ []) (ends ∷ [])
                  (went_one l f f before_second d (Text (c.at + 2 + 1 + 2 + x / 16 + 2) (y / 16)) second_goes)
                  (went_one l f f d r Ends (end_goes last second_reads)))))
