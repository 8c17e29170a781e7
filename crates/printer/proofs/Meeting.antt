-- What the first pass meets: each sort is a step of the reader, and what is kept of it is what the step adds.
-- Assumes nothing.
use Rattle.std.specs.Prelude.{Option, Some, None}
use Rattle.std.proofs.lemmas.Option.{none-some}
use mathlib.Core.Path.{◌≡◌, refl, sym, ap, ap₂, ◌∙◌}
use mathlib.Core.Bool.{Bool, true, false, cond}
use mathlib.Core.List.{List, [], ◌∷◌, ◌++◌}
use Prim.Native.Nat.{ℕ, ◌+◌, ◌-◌, ◌*◌, ◌/◌, ◌%◌, ◌<◌, ◌≤◌}
use native.Mathlib.Omega.{arith}
use lib.Dec.{eqb, ltb}
use lib.ListN.{length, get_or, set, take, drop}
use borrow.Author.Tests.{eq-eqb, ne_eqb}
use Rattle.tree.specs.Grammar.{Sort}
use Rattle.tree.specs.Read.{byte_at, wide_at}
use Rattle.rewritten.specs.Events.{Event}
use Rattle.rewritten.specs.Events.Event.{begins, ends}
use Rattle.rewritten.specs.Pass.{folded}
use Rattle.rewritten.specs.Numbers.{place_numbers, plan_numbers, map_numbers}
use Rattle.rewritten.specs.Look.{is_closed, rest_of, place_next, deeper}
use Rattle.rewritten.specs.Steps.{event_in, list_sort, Onward}
use Rattle.rewritten.specs.declared.step.Cursor.{Cursor}
use Rattle.rewritten.specs.declared.step.Event.TheVariants.{Begins, Ends, Opens, Closes, Hole, Text, Byte, Mark, Number}
use Rattle.rewritten.proofs.Marks.{by_same}
use Rattle.rewritten.proofs.MarksReader.{Reading, closed_next, ahead_twice}
use Rattle.rewritten.proofs.Pass.{coming}
use Rattle.rewritten.proofs.Tasks as task
use Rattle.printer.specs.Entries.{Entry, Made, outer, collect}
use Rattle.printer.specs.Logged.{entries_for, entries_in, entries_to, deep_by, bytes_by, Allowed}
use Rattle.printer.specs.Met.{number_of, MetField, MetNode, Leaf, Begun, MetName, MetLiteral, NodeMet, name_kind, one_text, byte_and_texts, byte_noted, MarkMet}
use Rattle.printer.specs.Stacks.{text_at_of}
use Rattle.printer.proofs.Collected.{made}
use Rattle.printer.proofs.Leaves as leaf
use Rattle.printer.proofs.Logging.{code_of, above_of, entries_of_lem}
use Rattle.printer.proofs.TextsRead.{text_read}
use Rattle.printer.proofs.Recording.{same_some, places_to, made_in_of, Went, went_one, Kept, Recording, next_more, next_opened, next_closed, closing_goes, Noted, byte_noted_lem}

by_option : {A : Type 0} (o : Option ℕ) → (o ≡ None → A) → ((k : ℕ) → o ≡ Some k → A) → A
by_option None f h = f refl
by_option (Some k) f h = h k refl

-- ---- further on

pub begun_moves : (l fs : List ℕ) (at deep top : ℕ) (r : Cursor) → at + 2 ≤ length l → r ≡ record { at = at + 2; deep = deeper fs deep; top = top } → (r.at ≤ length l) × (at + r.deep < r.at + deep)
begun_moves l fs at deep top r h e = rw e (h, go (ltb deep (length fs)))
  where
    go : (b : Bool) → at + cond b (deep + 1) deep < at + 2 + deep
    go true = omega arith
    go false = omega arith

-- ---- what the loop has, and what it has after a step

-- what it is lent
pub record Lent (places plans maps frames seen stack log : List ℕ) : Type 0 where
  pub kinds : places ≡ place_numbers
  pub fields : plans ≡ plan_numbers
  pub bits : maps ≡ map_numbers
  pub enough : 16384 ≤ length frames
  pub marks : 65536 ≤ length seen
  pub clean : (x : ℕ) → get_or seen x 0 ≡ 0
  pub depths : 16384 ≤ length stack
  pub numbers : 32768 ≤ length log

pub record Looping (l fs seen stack log : List ℕ) (r : Cursor) (frames : ℕ) (v : Bool) (count : ℕ) : Type 0 where
  pub reading : Reading l fs seen r frames v
  pub recording : Recording l fs stack log r count

abbrev pub Next : List ℕ → List ℕ → List ℕ → List ℕ → List ℕ → Cursor → ℕ → Bool → ℕ → Type 0
Next l fs seen stack log r frames v count = Looping l fs seen stack log r frames v (count + 1)

-- the number of an end fits
pub closing_fits : (b : Bool) (n : ℕ) → n ≡ cond b 8 9 → n < 4294967296
closing_fits true n e = omega arith
closing_fits false n e = omega arith

pub next_as : (l seen : List ℕ) {fs fs' stack stack' log later : List ℕ} {d r : Cursor} {frames : ℕ} {v : Bool} {count : ℕ} → r ≡ d → fs' ≡ fs → stack' ≡ stack → later ≡ log → Looping l fs seen stack log d frames v count → Looping l fs' seen stack' later r frames v count
next_as l seen a b c e n = rw (a, b, c, e) n

-- the kind and the bit map in a node's number
head_kind : (kind map : ℕ) → kind < 64 → (kind % 64 + 64 * (map % 256)) % 64 ≡ kind
head_kind kind map h = omega arith

head_map : (kind map : ℕ) → kind < 64 → map < 256 → (kind % 64 + 64 * (map % 256)) / 64 % 256 ≡ map
head_map kind map h k = let a : kind % 64 ≡ kind = omega arith in let b : map % 256 ≡ map = omega arith in rw (a, b) (omega arith)

-- ---- one number more, by its parts

module _ (l fs later stack log : List ℕ) (c d : Cursor) (count : ℕ) (es : List Event) (went : Went l fs later c d es) (w : Recording l fs stack log c count) (now : List ℕ) (m : Kept stack now c count) (code n note : ℕ) (a : code < 16) (b : n < 65536) (e : note < 256) (room : count + 1 + d.deep ≤ d.at) (inside : d.at ≤ length l) (level : deep_by code c.deep ≡ d.deep) (bytes : c.at + bytes_by code ≤ d.at) (allowed : Allowed code n c.deep) where
  abbrev v : ℕ
  v = number_of code n note

  level_by : deep_by (v % 16) c.deep ≡ d.deep
  level_by = ap (λ (x : ℕ). deep_by x c.deep) (code_of l code n note a b e) ∙ level

  bytes_by_lem : c.at + bytes_by (v % 16) ≤ d.at
  bytes_by_lem = rw (code_of l code n note a b e) bytes

  allowed_by : Allowed (v % 16) (v / 16 % 65536) c.deep
  allowed_by = rw (code_of l code n note a b e, above_of l code n note a b e) allowed

  told : (is : List ℕ) → made is (entries_to l now count ++ entries_for l code n note) ≡ made is (entries_to l now count ++ entries_in l v)
  told is = ap (λ (x : List Entry). made is (entries_to l now count ++ x)) (sym (entries_of_lem l code n note a b e))

  pub add_more : d.deep ≡ c.deep → folded collect (made_in_of l stack log c.deep count) es ≡ made (places_to l now stack c.deep) (entries_to l now count ++ entries_for l code n note) → Recording l later stack (set now count v) d (count + 1)
  add_more same is = next_more l fs later stack log c d count es went w now m v room inside level_by bytes_by_lem allowed_by same (is ∙ told (places_to l now stack c.deep))

  pub add_opened : c.deep < length stack → d.deep ≡ c.deep + 1 → folded collect (made_in_of l stack log c.deep count) es ≡ made (length (entries_to l now count) ∷ places_to l now stack c.deep) (entries_to l now count ++ entries_for l code n note) → Recording l later (set stack c.deep count) (set now count v) d (count + 1)
  add_opened h deeper is = next_opened l fs later stack log c d count es went w now m v room inside level_by bytes_by_lem allowed_by h deeper (is ∙ told (length (entries_to l now count) ∷ places_to l now stack c.deep))

  pub add_closed : d.deep ≡ c.deep - 1 → folded collect (made_in_of l stack log c.deep count) es ≡ made (outer (places_to l now stack c.deep)) (entries_to l now count ++ entries_for l code n note) → Recording l later stack (set now count v) d (count + 1)
  add_closed less is = next_closed l fs later stack log c d count es went w now m v room inside level_by bytes_by_lem allowed_by less (is ∙ told (outer (places_to l now stack c.deep)))

module _ (l fs seen stack log : List ℕ) (c : Cursor) (frames : ℕ) (v : Bool) (count : ℕ) (g : Reading l fs seen c frames v) (w : Recording l fs stack log c count) (enough : 16384 ≤ frames) (room : count + c.deep ≤ c.at) where
  at_short : c.at ≤ 32768
  at_short = omega (arith, g.tour.inside, w.short)

  at_within : c.at % 65536 ≡ c.at
  at_within = omega (arith, at_short)

  -- ---- the end of a task

  pub closed_goes : is_closed c.top ≡ true → (c.deep ≡ 0 → ⊥) → (top : ℕ) → top ≡ get_or fs (c.deep - 1) 0 → (n : ℕ) → n ≡ cond (eqb (c.top % 2) 0) 8 9 → Next l fs seen stack (set log count n) (record { at = c.at; deep = c.deep - 1; top = top }) frames v count
  unfolding folded collect entries_for
  closed_goes done some top is n e = record {
    reading = closed_next l fs seen c frames v g done some top is;
    recording =
        by_same (c.top % 2) 0
        (λ z.
        let k : n ≡ 8 = e ∙ rw (eq-eqb (c.top % 2) 0 z) refl in
        let o : Onward l fs fs (coming l fs c) c.at c.deep Ends d = rw (eq-eqb (c.top % 2) 0 z) at (closing_goes l fs seen c frames v g done some top is) in
        rw k (add_closed l fs fs stack log c d count (event_in l Ends ∷ []) (went_one l fs fs c d Ends o) w log w.kept 8 0 0 (omega arith) (omega arith) (omega arith) (omega (arith, room, some)) g.tour.inside refl (omega arith) (omega (arith, some)) refl refl))
        (λ z.
        let k : n ≡ 9 = e ∙ rw (ne_eqb (c.top % 2) 0 z) refl in
        let o : Onward l fs fs (coming l fs c) c.at c.deep Closes d = rw (ne_eqb (c.top % 2) 0 z) at (closing_goes l fs seen c frames v g done some top is) in
        rw k (add_closed l fs fs stack log c d count (event_in l Closes ∷ []) (went_one l fs fs c d Closes o) w log w.kept 9 0 0 (omega arith) (omega arith) (omega arith) (omega (arith, room, some)) g.tour.inside refl (omega arith) (omega (arith, some)) refl refl));
  }
    where
      d : Cursor
      d = record { at = c.at; deep = c.deep - 1; top = top }

  module _ (more : is_closed c.top ≡ false) (rest : ℕ) (left : rest ≡ rest_of c.top) where
    -- ---- a hole

    pub hole_goes : task.InTask l c.at c.top 7 → Next l fs seen stack (set log count 7) (record { at = c.at + 1; deep = c.deep; top = rest }) frames v count
    unfolding folded collect entries_for
    hole_goes a =
        let d : Cursor = record { at = c.at + 1; deep = c.deep; top = rest } in
        let o = task.hole_goes l fs c frames g.tour 7 a w.short enough rest left refl in
        record {
          reading = task.hole_reads l fs seen c frames v g 7 a w.short enough rest left refl;
          recording = add_more l fs fs stack log c d count (event_in l Hole ∷ []) (went_one l fs fs c d Hole o) w log w.kept 7 0 0 (omega arith) (omega arith) (omega arith) (omega (arith, room)) (o.inside g.tour.inside) refl (omega arith) tt refl refl;
        }

    -- nothing that may stand there
    none_stands : (what : ℕ) → task.InTask l c.at c.top what → (r : Option Cursor) → (what ≡ 0 → r ≡ None) → ((what ≡ 0 → ⊥) → r ≡ None → ⊥) → r ≡ None → false ≡ v
    none_stands what a r none some z = by_same what 0 (λ e. task.none_reads l fs seen c frames v g what a more e) (λ n. absurd (some n z))

    -- ---- a text

    module _ (later : List ℕ) (r : Option Cursor) (even : c.top % 2 ≡ 1 → ⊥) (class : c.top / 64 % 16 ≡ 5) (m : MetField l Sort.text c.at 3 (λ what. Leaf log later count (number_of 3 (c.at % 65536) 0) (c.at + 2 + what / 16) c.deep rest r) r) where
      text_in : task.InTask l c.at c.top m.what
      text_in = task.next_text l c.at c.top more even m.what class m.is

      pub text_refused : r ≡ None → false ≡ v
      text_refused = none_stands m.what text_in r m.none (λ n z. none-some _ (sym z ∙ (m.some n).cursor))

      pub text_goes : (r' : Cursor) → r ≡ Some r' → Next l fs seen stack later r' frames v count
      unfolding folded collect entries_for
      text_goes r' z =
          let n : m.what ≡ 0 → ⊥ = λ e. none-some r' (sym (m.none e) ∙ z) in
          let k : m.what % 16 ≡ 3 = m.coded n in
          let d : Cursor = record { at = c.at + 2 + m.what / 16; deep = c.deep; top = rest } in
          let o = task.text_goes l fs c frames g.tour m.what text_in w.short enough rest left k in
          let p : c.at % 65536 < 65536 = omega arith in
          let t : take (m.what / 16) (drop (c.at + 2) l) ≡ text_at_of l (c.at % 65536) = text_read l c.at c.at (m.what / 16) refl o.stands.1 ∙ ap (text_at_of l) (sym at_within) in
          rw (same_some r' _ (sym z ∙ (m.some n).cursor), (m.some n).logged) (record {
            reading = task.text_reads l fs seen c frames v g m.what text_in w.short enough rest left k;
            recording = add_more l fs fs stack log c d count (event_in l (Text (c.at + 2) (m.what / 16)) ∷ []) (went_one l fs fs c d (Text (c.at + 2) (m.what / 16)) o) w log w.kept 3 (c.at % 65536) 0 (omega arith) p (omega arith) (omega (arith, room)) (o.inside g.tour.inside) refl (omega arith) (omega (arith, at_within, at_short)) refl (ap (λ (x : List ℕ). made (places_to l log stack c.deep) (entries_to l log count ++ (Entry.text x ∷ []))) t);
          })

    -- ---- a number

    module _ (later : List ℕ) (r : Option Cursor) (place : ℕ) (next : place ≡ place_next l c.at c.top) (high : 33 ≤ place) (even : c.top % 2 ≡ 1 → ⊥) (class : 2 < c.top / 64 % 16 → 9 < c.top / 64 % 16) (m : MetField l Sort.number c.at 6 (λ what. Leaf log later count (number_of 6 (what / 16 % 65536) 0) (c.at + 2) c.deep rest r) r) where
      number_in : task.InTask l c.at c.top m.what
      number_in = task.next_number l c.at c.top more place next high even class m.what m.is

      pub number_refused : r ≡ None → false ≡ v
      number_refused = none_stands m.what number_in r m.none (λ n z. none-some _ (sym z ∙ (m.some n).cursor))

      pub number_goes : (r' : Cursor) → r ≡ Some r' → Next l fs seen stack later r' frames v count
      unfolding folded collect entries_for
      number_goes r' z =
          let n : m.what ≡ 0 → ⊥ = λ e. none-some r' (sym (m.none e) ∙ z) in
          let k : m.what % 16 ≡ 6 = m.coded n in
          let d : Cursor = record { at = c.at + 2; deep = c.deep; top = rest } in
          let o = task.number_goes l fs c frames g.tour m.what number_in w.short enough rest left k in
          let t : m.what / 16 ≡ m.what / 16 % 65536 = omega (arith, o.stands.1) in
          rw (same_some r' _ (sym z ∙ (m.some n).cursor), (m.some n).logged) (record {
            reading = task.number_reads l fs seen c frames v g m.what number_in w.short enough rest left k;
            recording = add_more l fs fs stack log c d count (event_in l (Number (m.what / 16)) ∷ []) (went_one l fs fs c d (Number (m.what / 16)) o) w log w.kept 6 (m.what / 16 % 65536) 0 (omega arith) (omega arith) (omega arith) (omega (arith, room)) (o.inside g.tour.inside) refl (omega arith) tt refl (ap (λ (x : ℕ). made (places_to l log stack c.deep) (entries_to l log count ++ (Entry.number x ∷ []))) t);
          })

    -- ---- a mark

    module _ (after later : List ℕ) (r : Option Cursor) (even : c.top % 2 ≡ 1 → ⊥) (class : c.top / 64 % 16 ≡ 6) (m : MetField l Sort.mark c.at 4 (λ what. MarkMet seen after log later c.at c.deep rest count what r) r) where
      mark_in_lem : task.InTask l c.at c.top m.what
      mark_in_lem = task.next_mark_lem l c.at c.top more even m.what class m.is

      by_bool : {A : Type 0} (b : Bool) → (b ≡ true → A) → (b ≡ false → A) → A
      by_bool true f h = f refl
      by_bool false f h = h refl

      pub mark_refused : r ≡ None → false ≡ v
      mark_refused z =
          by_same m.what 0
          (λ e. task.none_reads l fs seen c frames v g m.what mark_in_lem more e)
          (λ n.
          let s = m.some n in
          by_bool s.new
          (λ t. absurd (none-some _ (sym z ∙ s.cursor t)))
          (λ f. ahead_twice l fs seen c frames v g more m.what (λ _. mark_in_lem) (λ y. let k : m.what % 16 ≡ 4 = m.coded n in omega arith) w.short enough s.new s.is f))

      pub mark_goes : (r' : Cursor) → r ≡ Some r' → Next l fs after stack later r' frames v count
      unfolding folded collect entries_for
      mark_goes r' z =
          let n : m.what ≡ 0 → ⊥ = λ e. none-some r' (sym (m.none e) ∙ z) in
          let k : m.what % 16 ≡ 4 = m.coded n in
          let s = m.some n in
          let t : s.new ≡ true = by_bool s.new (λ e. e) (λ f. absurd (none-some r' (sym (s.twice f) ∙ z))) in
          let d : Cursor = record { at = c.at + 2; deep = c.deep; top = rest } in
          let o = task.mark_goes l fs c frames g.tour m.what mark_in_lem w.short enough rest left k in
          rw (same_some r' _ (sym z ∙ s.cursor t), s.logged t) (record {
            reading = task.mark_reads l fs seen c frames v g m.what mark_in_lem w.short enough rest left k s.new s.is t after (s.noted t);
            recording = add_more l fs fs stack log c d count (event_in l (Mark (m.what / 16)) ∷ []) (went_one l fs fs c d (Mark (m.what / 16)) o) w log w.kept 4 0 0 (omega arith) (omega arith) (omega arith) (omega (arith, room)) (o.inside g.tour.inside) refl (omega arith) tt refl refl;
          })

    -- ---- a byte

    module _ (later : List ℕ) (r : Option Cursor) (even : c.top % 2 ≡ 1 → ⊥) (low : 6 < c.top / 64 % 16) (high : c.top / 64 % 16 < 10) (m : MetField l (Sort.byte (c.top / 64 % 16 - 7) (c.top / 2 % 32)) c.at 5 (λ what. Leaf (byte_noted stack log c.deep (what / 16)) later count 4 (c.at + 1) c.deep rest r) r) where
      byte_in_lem : task.InTask l c.at c.top m.what
      byte_in_lem = task.next_byte l c.at c.top more even m.what low high m.is

      pub byte_refused : r ≡ None → false ≡ v
      byte_refused = none_stands m.what byte_in_lem r m.none (λ n z. none-some _ (sym z ∙ (m.some n).cursor))

      pub byte_goes : (r' : Cursor) → r ≡ Some r' → Next l fs seen stack later r' frames v count
      unfolding folded collect entries_for
      byte_goes r' z =
          let n : m.what ≡ 0 → ⊥ = λ e. none-some r' (sym (m.none e) ∙ z) in
          let k : m.what % 16 ≡ 5 = m.coded n in
          let b : ℕ = m.what / 16 in
          let d : Cursor = record { at = c.at + 1; deep = c.deep; top = rest } in
          let o = task.byte_goes l fs c frames g.tour m.what byte_in_lem w.short enough rest left k in
          let i : d.at ≤ length l = o.inside g.tour.inside in
          let f : count ≤ length log = omega (arith, room, at_short, w.kept.numbers) in
          let y : Noted l stack log (byte_noted stack log c.deep b) c count b c.deep = byte_noted_lem l stack log c count w.kept b o.stands.1 f c.deep refl in
          rw (same_some r' _ (sym z ∙ (m.some n).cursor), (m.some n).logged) (record {
            reading = task.byte_reads l fs seen c frames v g m.what byte_in_lem w.short enough rest left k;
            recording = add_more l fs fs stack log c d count (event_in l (Byte b) ∷ []) (went_one l fs fs c d (Byte b) o) w (byte_noted stack log c.deep b) y.kept 4 0 0 (omega arith) (omega arith) (omega arith) (omega (arith, room)) i refl (omega arith) tt refl (ap (λ (s : Made). made s.open_places (s.made ++ (Entry.quiet ∷ []))) (sym y.same));
          })

    -- ---- a list

    module _ (fs' stack' later : List ℕ) (r : Option Cursor) (even : c.top % 2 ≡ 1 → ⊥) (low : 2 < c.top / 64 % 16) (high : c.top / 64 % 16 < 5) (holes : Bool) (gaps : holes ≡ eqb (c.top / 64 % 16) 4) (m : MetField l (list_sort holes (c.top / 2 % 32 % 32)) c.at 2 (λ what. Begun fs fs' stack stack' log later count (number_of 2 (what / 1024 % 65536) 0) (c.at + 2) c.deep rest (what / 16 * 2 + 1) r) r) where
      list_in_lem : task.InTask l c.at c.top m.what
      list_in_lem = task.next_list l c.at c.top more even m.what low high holes gaps m.is

      pub list_refused : r ≡ None → false ≡ v
      list_refused = none_stands m.what list_in_lem r m.none (λ n z. none-some _ (sym z ∙ (m.some n).cursor))

      pub list_goes : (r' : Cursor) → r ≡ Some r' → Next l fs' seen stack' later r' frames v count
      unfolding folded collect entries_for
      list_goes r' z =
          let n : m.what ≡ 0 → ⊥ = λ e. none-some r' (sym (m.none e) ∙ z) in
          let k : m.what % 16 ≡ 2 = m.coded n in
          let b = m.some n in
          let d : Cursor = record { at = c.at + 2; deep = c.deep + 1; top = m.what / 16 * 2 + 1 } in
          let o = task.list_goes l fs c frames g.tour m.what list_in_lem w.short enough rest left k in
          let e : r' ≡ d = same_some r' _ (sym z ∙ b.cursor) ∙ ap (λ (x : ℕ). record { at = c.at + 2; deep = x; top = m.what / 16 * 2 + 1 }) (task.list_deeper l fs c frames g.tour m.what list_in_lem w.short enough k) in
          let i : d.at ≤ length l = o.inside g.tour.inside in
          let q : c.deep < length stack = omega (arith, room, i, w.short, w.kept.places, g.tour.room) in
          let t : m.what / 16 / 64 ≡ m.what / 1024 % 65536 = omega (arith, o.stands.1) in
          rw (e, b.framed, b.placed, b.logged) (record {
            reading = task.list_reads l fs seen c frames v g m.what list_in_lem w.short enough rest left k;
            recording = add_opened l fs (set fs c.deep rest) stack log c d count (event_in l (Opens (m.what / 16 / 64)) ∷ []) (went_one l fs (set fs c.deep rest) c d (Opens (m.what / 16 / 64)) o) w log w.kept 2 (m.what / 1024 % 65536) 0 (omega arith) (omega arith) (omega arith) (omega (arith, room)) i refl (omega arith) tt q refl (ap (λ (x : ℕ). made (length (entries_to l log count) ∷ places_to l log stack c.deep) (entries_to l log count ++ (Entry.opens x ∷ []))) t);
          })

    -- ---- a node

    module _ (fs' stack' later : List ℕ) (r : Option Cursor) (place : ℕ) (next : place ≡ place_next l c.at c.top) (low : place < 33) (m : MetNode l place c.at (λ what. NodeMet l fs fs' stack stack' log later c.at c.deep rest count what r) r) where
      node_in : task.InTask l c.at c.top m.what
      node_in = task.next_node l c.at c.top more place next low m.what m.is

      module _ (n : m.what ≡ 0 → ⊥) where
        node_code : m.what % 16 ≡ 1
        node_code = m.coded n

        -- one that is no leaf begins
        begun_goes : (m.some n).code ≡ None → (r' : Cursor) → r ≡ Some r' → Next l fs' seen stack' later r' frames v count
        unfolding folded collect entries_for
        begun_goes z r' u =
            let b = (m.some n).begun z in
            let d : Cursor = record { at = c.at + 2; deep = c.deep + 1; top = m.what / 16 * 2 } in
            let o = task.node_goes l fs c frames g.tour m.what node_in w.short enough rest left node_code in
            let e : r' ≡ d = same_some r' _ (sym u ∙ b.cursor) ∙ ap (λ (x : ℕ). record { at = c.at + 2; deep = x; top = m.what / 16 * 2 }) (task.node_deeper l fs c frames g.tour m.what node_in w.short enough node_code) in
            let i : d.at ≤ length l = o.inside g.tour.inside in
            let q : c.deep < length stack = omega (arith, i, w.short, w.kept.places, g.tour.room) in
            let kind : ℕ = byte_at l c.at in
            let map : ℕ = byte_at l (c.at + 1) in
            let y : kind % 64 + 64 * (map % 256) < 65536 = omega arith in
            let s : (kind % 64 + 64 * (map % 256)) % 64 ≡ kind = head_kind kind map o.stands.3 in
            let t : (kind % 64 + 64 * (map % 256)) / 64 % 256 ≡ map = head_map kind map o.stands.3 o.stands.4 in
            rw (e, b.framed, b.placed, b.logged) (record {
              reading = task.node_reads l fs seen c frames v g m.what node_in w.short enough rest left node_code;
              recording = add_opened l fs (set fs c.deep rest) stack log c d count (event_in l (Begins c.at kind map) ∷ []) (went_one l fs (set fs c.deep rest) c d (Begins c.at kind map) o) w log w.kept 1 (kind % 64 + 64 * (map % 256)) 0 (omega arith) y (omega arith) (omega (arith, room)) i refl (omega arith) tt q refl (ap₂ (λ (a b : ℕ). made (length (entries_to l log count) ∷ places_to l log stack c.deep) (entries_to l log count ++ (Entry.node a b 0 ∷ []))) (sym s) (sym t));
            })

        module _ (q : ℕ) (a : (m.some n).code ≡ Some q) (b : q ≡ 13 → ⊥) where
          abbrev name_leaf : (byte_at l c.at ≡ name_kind q) × (byte_at l (c.at + 1) ≡ 1) × (m.what ≡ one_text) × (9 < q) × (q < 13)
          name_leaf = (m.some n).leaf.name q a b

          abbrev name_met : MetName l fs fs' log later q (c.at + 2) c.deep rest count r
          name_met = ((m.some n).name q a b).1

          name_refused : r ≡ None → false ≡ v
          name_refused z = by_same name_met.what 0
              (λ e. leaf.name_none l fs seen c frames v g w.short enough rest left m.what node_in node_code name_leaf.2 name_met.what name_met.is e)
              (λ f. absurd (none-some _ (sym z ∙ (name_met.some f).cursor)))

          name_goes : (r' : Cursor) → r ≡ Some r' → Next l fs' seen stack' later r' frames v count
          name_goes r' z =
              let f : name_met.what ≡ 0 → ⊥ = λ e. none-some r' (sym (name_met.none e) ∙ z) in
              let k : name_met.what % 16 ≡ 3 = name_met.coded f in
              let x : ℕ = name_met.what in
              let code : ℕ = q in
              let s = name_met.some f in
              let p : ℕ = (c.at + 2) % 65536 in
              let u : p ≡ c.at + 2 = omega (arith, at_short) in
              let i : c.at + 2 + 2 + x / 16 ≤ length l = leaf.name_inside l fs seen c frames v g w.short enough rest left m.what node_in node_code name_leaf.2 x name_met.is k in
              let t : take (x / 16) (drop (c.at + 2 + 2) l) ≡ text_at_of l p = text_read l (c.at + 2) (c.at + 2) (x / 16) refl (leaf.name_length l fs seen c frames v g w.short enough rest left m.what node_in node_code name_leaf.2 x name_met.is k) ∙ ap (text_at_of l) (sym u) in
              let y : bytes_by code ≡ 2 = leaf.name_bytes_lem code name_leaf.3 name_leaf.4 in
              let d : Cursor = record { at = c.at + 2 + 2 + x / 16; deep = c.deep; top = rest } in
              let es : List Event = begins c.at (byte_at l c.at) (byte_at l (c.at + 1)) ∷ Event.text (take (x / 16) (drop (c.at + 2 + 2) l)) ∷ ends ∷ [] in
              next_as l seen (same_some r' _ (sym z ∙ s.cursor)) s.framed ((m.some n).name q a b).0 s.logged (record {
                reading = leaf.name_done l fs seen c frames v g w.short enough rest left m.what node_in node_code name_leaf.2 x name_met.is k;
                recording = add_more l fs (set fs c.deep rest) stack log c d count es (leaf.name_went l fs seen c frames v g w.short enough rest left m.what node_in node_code name_leaf.2 x name_met.is k) w log w.kept code p 0 (omega (arith, name_leaf.4)) (omega arith) (omega arith) (omega (arith, room)) i (leaf.name_level code c.deep name_leaf.3 name_leaf.4) (omega (arith, y)) (leaf.name_allowed code p c.deep name_leaf.3 name_leaf.4 (omega (arith, u, at_short))) refl
                    (ap₂ (λ (kind map : ℕ). folded collect (made_in_of l stack log c.deep count) (begins c.at kind map ∷ Event.text (take (x / 16) (drop (c.at + 2 + 2) l)) ∷ ends ∷ [])) name_leaf.0 name_leaf.1
                    ∙ ap (λ (bs : List ℕ). folded collect (made_in_of l stack log c.deep count) (begins c.at (name_kind code) 1 ∷ Event.text bs ∷ ends ∷ [])) t
                    ∙ leaf.name_collected (name_kind code) c.at (text_at_of l p) (places_to l log stack c.deep) (entries_to l log count)
                    ∙ ap (λ (xs : List Entry). made (places_to l log stack c.deep) (entries_to l log count ++ xs)) (sym (leaf.name_for l code p name_leaf.3 name_leaf.4)));
              })

        module _ (z : (m.some n).code ≡ Some 13) where
          abbrev literal_leaf : (byte_at l c.at ≡ 22) × (byte_at l (c.at + 1) ≡ 7) × (m.what ≡ byte_and_texts)
          literal_leaf = (m.some n).leaf.literal z

          abbrev sort_met : MetLiteral l fs fs' log later (c.at + 2) c.deep rest count r
          sort_met = ((m.some n).literal z).1

          module _ (f : sort_met.what ≡ 0 → ⊥) where
            third : (x : ℕ) → c.at + 2 + 3 + x ≡ c.at + 2 + 1 + 2 + x
            third x = omega arith

            -- the second text stands behind the first
            second_is : (h : (sort_met.some f).what ≡ 0 → ⊥) → task.AsField l (c.at + 2 + 1 + 2 + (sort_met.some f).what / 16) Sort.text ((sort_met.some f).some h).what
            second_is h = rw (third ((sort_met.some f).what / 16)) at ((sort_met.some f).some h).is

            literal_goes : (r' : Cursor) → r ≡ Some r' → Next l fs' seen stack' later r' frames v count
            literal_goes r' o =
                let first = sort_met.some f in
                let h : first.what ≡ 0 → ⊥ = λ e. none-some r' (sym (first.none e) ∙ o) in
                let second = first.some h in
                let j : second.what ≡ 0 → ⊥ = λ e. none-some r' (sym (second.none e) ∙ o) in
                let s = second.some j in
                let b : ℕ = sort_met.what in
                let x : ℕ = first.what in
                let y : ℕ = second.what in
                let kb : b % 16 ≡ 5 = sort_met.coded f in
                let kx : x % 16 ≡ 3 = first.coded h in
                let ky : y % 16 ≡ 3 = second.coded j in
                let p : ℕ = (c.at + 2 + 1) % 65536 in
                let u : p ≡ c.at + 2 + 1 = omega (arith, at_short) in
                let last : ℕ = c.at + 2 + 1 + 2 + x / 16 + 2 + y / 16 in
                let d : Cursor = record { at = last; deep = c.deep; top = rest } in
                let e : r' ≡ d = same_some r' _ (sym o ∙ s.cursor) ∙ ap (λ (q : ℕ). record { at = q + 2 + y / 16; deep = c.deep; top = rest }) (third (x / 16)) in
                let i : last ≤ length l = leaf.literal_inside l fs seen c frames v g w.short enough rest left m.what node_in node_code literal_leaf.2 b sort_met.is kb x first.is kx y (second_is h) ky in
                let small : b / 16 < 256 = leaf.byte_small l fs seen c frames v g w.short enough rest left m.what node_in node_code literal_leaf.2 b sort_met.is kb in
                let note : b / 16 ≡ b / 16 % 256 = omega (arith, small) in
                let lx : x / 16 ≡ wide_at l (c.at + 2 + 1) = leaf.first_length l fs seen c frames v g w.short enough rest left m.what node_in node_code literal_leaf.2 b sort_met.is kb x first.is kx in
                let ly : y / 16 ≡ wide_at l (c.at + 2 + 1 + 2 + x / 16) = leaf.second_length l fs seen c frames v g w.short enough rest left m.what node_in node_code literal_leaf.2 b sort_met.is kb x first.is kx y (second_is h) ky in
                let tx : take (x / 16) (drop (c.at + 2 + 1 + 2) l) ≡ text_at_of l p = text_read l (c.at + 2 + 1) (c.at + 2 + 1) (x / 16) refl lx ∙ ap (text_at_of l) (sym u) in
                let q : c.at + 2 + 1 + 2 + x / 16 ≡ p + 2 + wide_at l p = ap (λ (a : ℕ). c.at + 2 + 1 + 2 + a) lx ∙ ap (λ (a : ℕ). a + 2 + wide_at l a) (sym u) in
                let ty : take (y / 16) (drop (c.at + 2 + 1 + 2 + x / 16 + 2) l) ≡ text_at_of l (p + 2 + wide_at l p) = text_read l (c.at + 2 + 1 + 2 + x / 16) (c.at + 2 + 1 + 2 + x / 16) (y / 16) refl ly ∙ ap (text_at_of l) q in
                let es : List Event = begins c.at (byte_at l c.at) (byte_at l (c.at + 1)) ∷ Event.byte (b / 16) ∷ Event.text (take (x / 16) (drop (c.at + 2 + 1 + 2) l)) ∷ Event.text (take (y / 16) (drop (c.at + 2 + 1 + 2 + x / 16 + 2) l)) ∷ ends ∷ [] in
                next_as l seen e s.framed ((m.some n).literal z).0 s.logged (record {
                  reading = leaf.literal_done l fs seen c frames v g w.short enough rest left m.what node_in node_code literal_leaf.2 b sort_met.is kb x first.is kx y (second_is h) ky;
                  recording = add_more l fs (set fs c.deep rest) stack log c d count es (leaf.literal_went l fs seen c frames v g w.short enough rest left m.what node_in node_code literal_leaf.2 b sort_met.is kb x first.is kx y (second_is h) ky) w log w.kept 13 p (b / 16 % 256) (omega arith) (omega arith) (omega arith) (omega (arith, room)) i refl (omega arith) (omega (arith, u, at_short)) refl
                      (ap₂ (λ (kind map : ℕ). folded collect (made_in_of l stack log c.deep count) (begins c.at kind map ∷ Event.byte (b / 16) ∷ Event.text (take (x / 16) (drop (c.at + 2 + 1 + 2) l)) ∷ Event.text (take (y / 16) (drop (c.at + 2 + 1 + 2 + x / 16 + 2) l)) ∷ ends ∷ [])) literal_leaf.0 literal_leaf.1
                      ∙ ap₂ (λ (xs ys : List ℕ). folded collect (made_in_of l stack log c.deep count) (begins c.at 22 7 ∷ Event.byte (b / 16) ∷ Event.text xs ∷ Event.text ys ∷ ends ∷ [])) tx ty
                      ∙ ap (λ (a : ℕ). folded collect (made_in_of l stack log c.deep count) (begins c.at 22 7 ∷ Event.byte a ∷ Event.text (text_at_of l p) ∷ Event.text (text_at_of l (p + 2 + wide_at l p)) ∷ ends ∷ [])) note
                      ∙ leaf.literal_collected c.at (b / 16 % 256) (text_at_of l p) (text_at_of l (p + 2 + wide_at l p)) (places_to l log stack c.deep) (entries_to l log count)
                      ∙ ap (λ (xs : List Entry). made (places_to l log stack c.deep) (entries_to l log count ++ xs)) (sym (leaf.literal_for l p (b / 16 % 256))));
                })

          literal_refused : r ≡ None → false ≡ v
          literal_refused o = by_same sort_met.what 0
              (λ e. leaf.byte_none l fs seen c frames v g w.short enough rest left m.what node_in node_code literal_leaf.2 sort_met.what sort_met.is e)
              (λ f. by_same (sort_met.some f).what 0
              (λ e. leaf.first_none l fs seen c frames v g w.short enough rest left m.what node_in node_code literal_leaf.2 sort_met.what sort_met.is (sort_met.coded f) (sort_met.some f).what (sort_met.some f).is e)
              (λ h. by_same ((sort_met.some f).some h).what 0
              (λ e. leaf.second_none l fs seen c frames v g w.short enough rest left m.what node_in node_code literal_leaf.2 sort_met.what sort_met.is (sort_met.coded f) (sort_met.some f).what (sort_met.some f).is ((sort_met.some f).coded h) ((sort_met.some f).some h).what (second_is f h) e)
              (λ j. absurd (none-some _ (sym o ∙ (((sort_met.some f).some h).some j).cursor)))))

      pub node_refused : r ≡ None → false ≡ v
      node_refused z = by_same m.what 0
          (λ e. task.none_reads l fs seen c frames v g m.what node_in more e)
          (λ n. by_option (m.some n).code
          (λ e. absurd (none-some _ (sym z ∙ ((m.some n).begun e).cursor)))
          (λ k e. by_same k 13 (λ y. literal_refused n (e ∙ ap (λ (x : ℕ). Some x) y) z) (λ b. name_refused n k e b z)))

      pub node_goes : (r' : Cursor) → r ≡ Some r' → Next l fs' seen stack' later r' frames v count
      node_goes r' z =
          let n : m.what ≡ 0 → ⊥ = λ e. none-some r' (sym (m.none e) ∙ z) in
          by_option (m.some n).code
          (λ e. begun_goes n e r' z)
          (λ k e. by_same k 13
          (λ y. let d : (m.some n).code ≡ Some 13 = e ∙ ap (λ (x : ℕ). Some x) y in literal_goes n d (λ f. none-some r' (sym (((m.some n).literal d).1.none f) ∙ z)) r' z)
          (λ b. name_goes n k e b r' z))
