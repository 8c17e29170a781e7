-- The loop of the first pass: the reader's, with what is kept of what is met.
-- Assumes nothing.
use Rattle.std.specs.Prelude.{Option, Some, None}
use Rattle.std.proofs.lemmas.Option.{none-some}
use mathlib.Core.Path.{◌≡◌, refl, sym, ap, ap₂, ◌∙◌}
use mathlib.Core.Bool.{Bool, true, false}
use mathlib.Core.List.{List, [], ◌∷◌, ◌++◌, append_assoc}
use Prim.Native.Nat.{ℕ, zero, suc, ◌+◌, ◌-◌, ◌/◌, ◌%◌, ◌<◌, ◌≤◌}
use native.Mathlib.Omega.{arith}
use native.Mathlib.Decide.{dec_lt}
use native.Mathlib.Numerals.{add-one}
use lib.Dec.{eqb}
use lib.ListN.{length, get_or, set, length-set}
use lib.Seq.{get_or-set_same, get_or-set_other}
use borrow.Author.Tests.{eq-eqb, ne_eqb}
use Rattle.tree.specs.Tree.{Node}
use Rattle.tree.specs.Grammar.Stage.{rewritten}
use Rattle.tree.specs.Read.{read_tree}
use Rattle.tree.specs.Read.Got.{got}
use Rattle.rewritten.specs.Rewritten.{is_rewritten}
use Rattle.rewritten.specs.Events.{Event, events}
use Rattle.rewritten.specs.Pass.{folded}
use Rattle.rewritten.specs.Look.{is_closed}
use Rattle.rewritten.specs.Steps.{start, event_in, closing_in, step_closed, Onward}
use Rattle.rewritten.specs.declared.step.Cursor.{Cursor}
use Rattle.rewritten.specs.declared.step.Event as told
use Rattle.rewritten.proofs.Pass.{coming, onward, tour_of_tree, rest_next, rest_done}
use Rattle.rewritten.proofs.Moves.{close_some}
use Rattle.rewritten.proofs.MarksReader.{Reading, closes, closed_ends}
use Rattle.printer.specs.Entries.{entries, Made, outer, byte_inner, collect}
use Rattle.printer.specs.Logged.{entries_in, entries_to, deep_by, deep_to, bytes_by, bytes_to, Allowed, Sound, Logged, Recorded}
use Rattle.printer.specs.Met.{with_byte, byte_noted}
use Rattle.printer.proofs.Collected.{folded_append, made, node_collected}
use Rattle.printer.proofs.Logging.{entries_kept, entries_more, deep_more, bytes_more, sound_more, noted_entries, noted_length, noted_deep, noted_bytes, noted_sound}

value_or : {A : Type 0} → A → Option A → A
value_or d None = d
value_or d (Some x) = x

pub same_some : {A : Type 0} (x y : A) → Some x ≡ Some y → x ≡ y
unfolding value_or
same_some x y e = ap (value_or x) e

-- ---- the places of what is open among the entries: at each depth stands the number of its own

unfoldable pub places_to : List ℕ → List ℕ → List ℕ → ℕ → List ℕ
places_to l log stack zero = []
places_to l log stack (suc n) = length (entries_to l log (get_or stack n 0)) ∷ places_to l log stack n

-- what was made so far
abbrev pub made_in_of : List ℕ → List ℕ → List ℕ → ℕ → ℕ → Made
made_in_of l stack log deep count = made (places_to l log stack deep) (entries_to l log count)

-- other numbers and other places that tell the same
places_same : (l log later stack stack' : List ℕ) (n : ℕ) → ((d : ℕ) → d < n → length (entries_to l later (get_or stack' d 0)) ≡ length (entries_to l log (get_or stack d 0))) → places_to l later stack' n ≡ places_to l log stack n
unfolding places_to
places_same l log later stack stack' zero f = refl
places_same l log later stack stack' (suc n) f = ap₂ (λ (x : ℕ) (xs : List ℕ). x ∷ xs) (f n (omega arith)) (places_same l log later stack stack' n (λ d h. f d (omega arith)))

places_outer : (l log stack : List ℕ) (n : ℕ) → places_to l log stack (n - 1) ≡ outer (places_to l log stack n)
unfolding places_to
places_outer l log stack zero = refl
places_outer l log stack (suc n) = let e : suc n - 1 ≡ n = omega arith in ap (places_to l log stack) e

module _ (l log stack : List ℕ) (deep count v : ℕ) (opened : (d : ℕ) → d < deep → get_or stack d 0 < count) (room : count < length log) where
  -- one number more leaves the places
  more_places : places_to l (set log count v) stack deep ≡ places_to l log stack deep
  more_places = places_same l log (set log count v) stack stack deep (λ d h. ap length (entries_kept l log count v (get_or stack d 0) (omega (arith, opened d h))))

  more_made : entries_to l (set log count v) (count + 1) ≡ entries_to l log count ++ entries_in l v
  more_made = ap (entries_to l (set log count v)) (add-one count) ∙ entries_more l log count v room

  -- entries that follow
  pub made_more : made_in_of l stack (set log count v) deep (count + 1) ≡ made (places_to l log stack deep) (entries_to l log count ++ entries_in l v)
  made_more = ap₂ made more_places more_made

  -- something opens
  pub made_opened : deep < length stack → made_in_of l (set stack deep count) (set log count v) (deep + 1) (count + 1) ≡ made (length (entries_to l log count) ∷ places_to l log stack deep) (entries_to l log count ++ entries_in l v)
  unfolding places_to
  made_opened h =
      let s : List ℕ = set stack deep count in
      let g : List ℕ = set log count v in
      ap (λ (n : ℕ). made (places_to l g s n) (entries_to l g (count + 1))) (add-one deep)
      ∙ ap₂ (λ (x : ℕ) (xs : List ℕ). made (x ∷ xs) (entries_to l g (count + 1)))
      (ap (λ (i : ℕ). length (entries_to l g i)) (get_or-set_same stack deep count 0 h) ∙ ap length (entries_kept l log count v count (omega arith)))
      (places_same l log g stack s deep (λ d k. ap (λ (i : ℕ). length (entries_to l g i)) (get_or-set_other stack deep d count 0 (λ e. absurd (omega arith))) ∙ ap length (entries_kept l log count v (get_or stack d 0) (omega (arith, opened d k)))))
      ∙ ap (made (length (entries_to l log count) ∷ places_to l log stack deep)) more_made

  -- something closes
  pub made_closed : made_in_of l stack (set log count v) (deep - 1) (count + 1) ≡ made (outer (places_to l log stack deep)) (entries_to l log count ++ entries_in l v)
  made_closed = ap₂ made (places_outer l (set log count v) stack deep ∙ ap outer more_places) more_made

-- ---- some events, one after the other

-- what was to come is these events, and what is to come then
pub record After (es left : List Event) (q k : ℕ) (l later : List ℕ) (d : Cursor) : Type 0 where
  pub rest : List Event
  pub is : left ≡ es ++ rest
  pub comes : coming l later d ≡ got rest q k

abbrev pub Went : List ℕ → List ℕ → List ℕ → Cursor → Cursor → List Event → Type 0
Went l fs later c d es = (left : List Event) (q k : ℕ) → coming l fs c ≡ got left q k → After es left q k l later d

pub went_one : (l fs later : List ℕ) (c d : Cursor) (e : told.Event) → Onward l fs later (coming l fs c) c.at c.deep e d → Went l fs later c d (event_in l e ∷ [])
went_one l fs later c d e o left q k w =
    let r = rest_next l fs later c left q k w e d o in
    record { rest = r.rest; is = r.is; comes = r.comes }

pub went_then : (l fs mid later : List ℕ) (c m d : Cursor) (es more : List Event) → Went l fs mid c m es → Went l mid later m d more → Went l fs later c d (es ++ more)
went_then l fs mid later c m d es more f g left q k w =
    let a = f left q k w in
    let b = g a.rest q k a.comes in
    record { rest = b.rest; is = a.is ∙ ap (λ (x : List Event). es ++ x) b.is ∙ sym (append_assoc es more b.rest); comes = b.comes }

-- ---- what the loop keeps

pub record Left (l fs stack log : List ℕ) (c : Cursor) (count : ℕ) (t : Node) (q k : ℕ) : Type 0 where
  pub left : List Event
  pub comes : coming l fs c ≡ got left q k
  pub collected : folded collect (made_in_of l stack log c.deep count) left ≡ made [] (entries t)

-- of the arrays
pub record Kept (stack log : List ℕ) (c : Cursor) (count : ℕ) : Type 0 where
  pub places : 16384 ≤ length stack
  pub numbers : 32768 ≤ length log
  pub opened : (d : ℕ) → d < c.deep → get_or stack d 0 < count
  pub deep : deep_to log count ≡ c.deep
  pub most : bytes_to log count ≤ c.at
  pub sound : (i : ℕ) → i < count → Sound log i

pub record Recording (l fs stack log : List ℕ) (c : Cursor) (count : ℕ) : Type 0 where
  pub kept : Kept stack log c count
  pub short : length l ≤ 32768
  pub will : (t : Node) (q k : ℕ) → read_tree rewritten (length l) l ≡ got t q k → Left l fs stack log c count t q k

pub recording_start : (l fs stack log : List ℕ) → length l ≤ 32768 → 16384 ≤ length stack → 32768 ≤ length log → (c : Cursor) → c ≡ start → Recording l fs stack log c 0
unfolding places_to entries_to deep_to bytes_to
recording_start l fs stack log h a b c e = rw e (record {
  kept = record { places = a; numbers = b; opened = λ d z. absurd (omega arith); deep = refl; most = omega arith; sound = λ i z. absurd (omega arith) };
  short = h;
  will = λ t q k w. record { left = events t; comes = (tour_of_tree l fs t q k w).1; collected = node_collected t [] [] };
})

module _ (l fs later stack log : List ℕ) (c d : Cursor) (count : ℕ) (es : List Event) (went : Went l fs later c d es) (g : Recording l fs stack log c count) where
  -- what was made goes with the events
  goes_on : (stack' log' : List ℕ) → made_in_of l stack' log' d.deep (count + 1) ≡ folded collect (made_in_of l stack log c.deep count) es → (t : Node) (q k : ℕ) → read_tree rewritten (length l) l ≡ got t q k → Left l later stack' log' d (count + 1) t q k
  goes_on stack' log' same t q k w =
      let x = g.will t q k w in
      let a = went x.left q k x.comes in
      record {
        left = a.rest;
        comes = a.comes;
        collected =
            ap (λ (s : Made). folded collect s a.rest) same
            ∙ sym (folded_append collect (made_in_of l stack log c.deep count) es a.rest)
            ∙ ap (folded collect (made_in_of l stack log c.deep count)) (sym a.is)
            ∙ x.collected;
      }

  -- one number more in the numbers `now`, which may have another byte than those before
  module _ (now : List ℕ) (m : Kept stack now c count) (v : ℕ) (room : count + 1 + d.deep ≤ d.at) (inside : d.at ≤ length l) (level : deep_by (v % 16) c.deep ≡ d.deep) (bytes : c.at + bytes_by (v % 16) ≤ d.at) (allowed : Allowed (v % 16) (v / 16 % 65536) c.deep) where
    fits : count < length now
    fits = omega (arith, room, inside, g.short, m.numbers)

    next_by : (stack' : List ℕ) → length stack' ≡ length stack → ((e : ℕ) → e < d.deep → get_or stack' e 0 < count + 1) → made_in_of l stack' (set now count v) d.deep (count + 1) ≡ folded collect (made_in_of l stack log c.deep count) es → Recording l later stack' (set now count v) d (count + 1)
    next_by stack' size opened same = record {
      kept = record {
        places = omega (arith, size, m.places);
        numbers = omega (arith, length-set now count v, m.numbers);
        opened = opened;
        deep = ap (deep_to (set now count v)) (add-one count) ∙ deep_more l now count v fits ∙ ap (deep_by (v % 16)) m.deep ∙ level;
        most = omega (arith, ap (bytes_to (set now count v)) (add-one count) ∙ bytes_more l now count v fits, bytes, m.most);
        sound = λ i h. sound_more l now count v fits (rw m.deep allowed) (omega (arith, bytes, inside, m.most, g.short)) m.sound i (omega (arith, h));
      };
      short = g.short;
      will = goes_on stack' (set now count v) same;
    }

    -- what is open stays
    pub next_more : d.deep ≡ c.deep → folded collect (made_in_of l stack log c.deep count) es ≡ made (places_to l now stack c.deep) (entries_to l now count ++ entries_in l v) → Recording l later stack (set now count v) d (count + 1)
    next_more e is =
        next_by stack refl (λ x h. let a : get_or stack x 0 < count = m.opened x (omega (arith, e, h)) in omega arith)
        (ap (λ (n : ℕ). made_in_of l stack (set now count v) n (count + 1)) e ∙ made_more l now stack c.deep count v m.opened fits ∙ sym is)

    -- something opens
    pub next_opened : c.deep < length stack → d.deep ≡ c.deep + 1 → folded collect (made_in_of l stack log c.deep count) es ≡ made (length (entries_to l now count) ∷ places_to l now stack c.deep) (entries_to l now count ++ entries_in l v) → Recording l later (set stack c.deep count) (set now count v) d (count + 1)
    next_opened h e is =
        next_by (set stack c.deep count) (length-set stack c.deep count) (λ x k. here x (omega (arith, e, k)))
        (ap (λ (n : ℕ). made_in_of l (set stack c.deep count) (set now count v) n (count + 1)) e ∙ made_opened l now stack c.deep count v m.opened fits h ∙ sym is)
      where
        here : (x : ℕ) → x < c.deep + 1 → get_or (set stack c.deep count) x 0 < count + 1
        here x k = elim (dec_lt x c.deep) [
          | yes j ↦ let a : get_or (set stack c.deep count) x 0 ≡ get_or stack x 0 = get_or-set_other stack c.deep x count 0 (λ z. absurd (omega arith)) in let b : get_or stack x 0 < count = m.opened x j in omega arith
          | no j ↦ let z : x ≡ c.deep = omega arith in rw z (let a : get_or (set stack c.deep count) c.deep 0 ≡ count = get_or-set_same stack c.deep count 0 h in omega arith)
        ]

    -- something closes
    pub next_closed : d.deep ≡ c.deep - 1 → folded collect (made_in_of l stack log c.deep count) es ≡ made (outer (places_to l now stack c.deep)) (entries_to l now count ++ entries_in l v) → Recording l later stack (set now count v) d (count + 1)
    next_closed e is =
        next_by stack refl (λ x h. let a : get_or stack x 0 < count = m.opened x (omega (arith, e, h)) in omega arith)
        (ap (λ (n : ℕ). made_in_of l stack (set now count v) n (count + 1)) e ∙ made_closed l now stack c.deep count v m.opened fits ∙ sym is)

-- ---- a byte that is noted

pub record Noted (l stack log now : List ℕ) (c : Cursor) (count b deep : ℕ) : Type 0 where
  pub kept : Kept stack now c count
  pub same : made_in_of l stack now deep count ≡ made (places_to l log stack deep) (byte_inner (places_to l log stack deep) (entries_to l log count) b)

module _ (l stack log : List ℕ) (c : Cursor) (count : ℕ) (m : Kept stack log c count) (b : ℕ) (small : b < 256) (fits : count ≤ length log) where
  pub byte_noted_lem : (deep : ℕ) → deep ≡ c.deep → Noted l stack log (byte_noted stack log deep b) c count b deep
  unfolding places_to
  byte_noted_lem zero e = record { kept = m; same = refl }
  byte_noted_lem (suc n) e =
      let i : ℕ = get_or stack n 0 in
      let h : i < count = m.opened n (omega arith) in
      let f : i < length log = omega arith in
      let z : suc n - 1 ≡ n = omega arith in
      let w : byte_noted stack log (suc n) b ≡ set log i (with_byte (get_or log i 0) b) = rw (ne_eqb (suc n) 0 (λ y. absurd (omega arith))) (ap (λ (x : ℕ). set log (get_or stack x 0) (with_byte (get_or log (get_or stack x 0) 0) b)) z) in
      rw w (record {
        kept = record {
          places = m.places;
          numbers = omega (arith, length-set log i (with_byte (get_or log i 0) b), m.numbers);
          opened = m.opened;
          deep = noted_deep l log i b f small count ∙ m.deep;
          most = omega (arith, noted_bytes l log i b f small count, m.most);
          sound = λ j k. noted_sound l log i b f small j (m.sound j k);
        };
        same = ap₂ made
            (places_same l log (set log i (with_byte (get_or log i 0) b)) stack stack (suc n) (λ d k. noted_length l log i b f small (get_or stack d 0)))
            (noted_entries l log i b f small count h);
      })

-- ---- the end of a task

module _ (l fs seen : List ℕ) (c : Cursor) (frames : ℕ) (v : Bool) (g : Reading l fs seen c frames v) (done : is_closed c.top ≡ true) where
  pub closing_goes : (c.deep ≡ 0 → ⊥) → (top : ℕ) → top ≡ get_or fs (c.deep - 1) 0 → Onward l fs fs (coming l fs c) c.at c.deep (closing_in (eqb (c.top % 2) 0)) (record { at = c.at; deep = c.deep - 1; top = top })
  closing_goes n top e = onward l fs fs c (step_closed fs c.at c.deep (eqb (c.top % 2) 0)) (closes l fs seen c frames v g done) (closing_in (eqb (c.top % 2) 0)) (record { at = c.at; deep = c.deep - 1; top = top }) (sym (close_some l fs c.at c.deep top (eqb (c.top % 2) 0) n e))

  left_none : c.deep ≡ 0 → (es : List Event) (q k : ℕ) → coming l fs c ≡ got es q k → es ≡ []
  left_none z es q k w = rest_done l fs fs c es q k w (step_closed fs c.at c.deep (eqb (c.top % 2) 0)) (closes l fs seen c frames v g done) (ap (λ (x : ℕ). step_closed fs c.at x (eqb (c.top % 2) 0)) z)

  module _ (stack log : List ℕ) (count : ℕ) (w : Recording l fs stack log c count) (z : c.deep ≡ 0) where
    all_logged : (t : Node) (q k : ℕ) → read_tree rewritten (length l) l ≡ got t q k → Logged l log count t
    unfolding folded
    all_logged t q k r =
        let x = w.will t q k r in
        let y : x.left ≡ [] = left_none z x.left q k x.comes in
        let n : made_in_of l stack log c.deep count ≡ made [] (entries t) = sym (ap (folded collect (made_in_of l stack log c.deep count)) y) ∙ x.collected in
        record { entries = ap (λ (s : Made). s.made) n; sound = w.kept.sound }

    pub recorded_yes : v ≡ is_rewritten l → c.at ≡ length l → Recorded l log (Some count)
    recorded_yes e a = record {
      is = sym (eq-eqb c.at (length l) a) ∙ closed_ends l fs seen c frames v g done z ∙ e;
      logged = λ n f t q k r. let h : n ≡ count = sym (same_some count n f) in rw h (all_logged t q k r);
    }

  pub ends_early : c.deep ≡ 0 → (c.at ≡ length l → ⊥) → false ≡ v
  ends_early z n = sym (ne_eqb c.at (length l) n) ∙ closed_ends l fs seen c frames v g done z

pub recorded_no : (l log : List ℕ) → false ≡ is_rewritten l → Recorded l log None
recorded_no l log e = record { is = e; logged = λ n f. absurd (none-some n f) }
