-- How often a mark stands among events, in trees and in lists; no mark stands twice.
-- Assumes nothing.
use Prim.Native.Nat.{ℕ, zero, suc, ◌+◌, ◌<◌, ◌≤◌}
use mathlib.Core.Path.{◌≡◌, refl, sym, ap, ◌∙◌}
use mathlib.Core.List.{List, [], ◌∷◌, ◌++◌}
use mathlib.Core.Bool.{Bool, true, false, cond, ◌||◌}
use mathlib.Core.Option.{Option, none, some}
use native.Mathlib.Omega.{arith}
use lib.Dec.{eqb, ltb}
use borrow.Author.Tests.{eq-eqb, lt-ltb, eqb-true}
use Rattle.tree.specs.Tree.{Node, Fields, Piece, Items, marks, marks_fields, marks_piece, marks_items}
use Rattle.tree.specs.Tree.Node.{node}
use Rattle.tree.specs.Tree.Fields.{done, absent, field}
use Rattle.tree.specs.Tree.Piece.{one, list, text, byte, mark, number}
use Rattle.tree.specs.Tree.Items.{hole, item}
use Rattle.tree.specs.Grammar.{among}
use Rattle.tree.proofs.Sound.{never}
use Rattle.rewritten.specs.Events.{Event, events, events_fields, events_piece, events_items}
use Rattle.rewritten.specs.Events.Event.{begins, ends, opens, closes}
use Rattle.rewritten.specs.Pass.{folded}
use Rattle.rewritten.specs.Marks.{meet}
use Rattle.rewritten.specs.Rewritten.{distinct}
use Rattle.rewritten.proofs.Marks.{met_after, met_twice}
use Rattle.joining.specs.Files.{times}

pub times_append : (x : ℕ) (a b : List ℕ) → times x (a ++ b) ≡ times x a + times x b
unfolding times
times_append x [] b = omega arith
times_append x (m ∷ a) b = let e : times x (a ++ b) ≡ times x a + times x b = times_append x a b in omega arith

-- among is at least once
pub among_times : (x : ℕ) (ms : List ℕ) → among ms x ≡ ltb 0 (times x ms)
unfolding times among
among_times x [] = refl
among_times x (m ∷ ms) = go (eqb m x) (among_times x ms)
  where
    go : (b : Bool) → among ms x ≡ ltb 0 (times x ms) → (b || among ms x) ≡ ltb 0 (cond b 1 0 + times x ms)
    go true e = sym (lt-ltb 0 (1 + times x ms) (omega arith))
    go false e = let z : times x ms ≡ 0 + times x ms = omega arith in e ∙ ap (ltb 0) z

-- ---- distinct: each at most once

pub distinct_once : (ms : List ℕ) → distinct ms ≡ true → (x : ℕ) → times x ms ≤ 1
unfolding distinct times
distinct_once [] d x = omega arith
distinct_once (m ∷ ms) d x = go (among ms m) refl d (λ w. distinct_once ms w x)
  where
    rest : among ms m ≡ false → times m ms ≡ 0
    rest e = none (times m ms) (sym (among_times m ms) ∙ e)
      where
        none : (n : ℕ) → ltb 0 n ≡ false → n ≡ 0
        none zero w = refl
        none (suc n) w = never (sym w ∙ lt-ltb 0 (suc n) (omega arith))

    one : (b : Bool) → eqb m x ≡ b → times m ms ≡ 0 → times x ms ≤ 1 → cond b 1 0 + times x ms ≤ 1
    one true e z h = let w : times x ms ≡ 0 = ap (λ (y : ℕ). times y ms) (sym (eqb-true m x e)) ∙ z in omega arith
    one false e z h = omega arith

    go : (b : Bool) → among ms m ≡ b → cond b false (distinct ms) ≡ true → (distinct ms ≡ true → times x ms ≤ 1) → cond (eqb m x) 1 0 + times x ms ≤ 1
    go true e w f = never w
    go false e w f = one (eqb m x) refl (rest e) (f w)

-- a mark stands twice
pub record Twice (ms : List ℕ) : Type 0 where
  pub which : ℕ
  pub often : 2 ≤ times which ms

pub distinct_not : (ms : List ℕ) → Twice ms → distinct ms ≡ false
distinct_not ms t = go (distinct ms) refl
  where
    go : (b : Bool) → distinct ms ≡ b → distinct ms ≡ false
    go true e = let h : times t.which ms ≤ 1 = distinct_once ms e t.which in let o : 2 ≤ times t.which ms = t.often in absurd (omega arith)
    go false e = e

pub once_distinct : (ms : List ℕ) → ((x : ℕ) → times x ms ≤ 1) → distinct ms ≡ true
unfolding distinct times
once_distinct [] h = refl
once_distinct (m ∷ ms) h = go (among ms m) refl (once_distinct ms tail)
  where
    tail : (x : ℕ) → times x ms ≤ 1
    tail x = let w : cond (eqb m x) 1 0 + times x ms ≤ 1 = h x in omega arith

    go : (b : Bool) → among ms m ≡ b → distinct ms ≡ true → cond b false (distinct ms) ≡ true
    go true e r =
        let w : cond (eqb m m) 1 0 + times m ms ≤ 1 = h m in
        let o : eqb m m ≡ true = eq-eqb m m refl in
        let z : times m ms ≡ 0 = zeroed (eqb m m) o w in
        never (sym (ap (ltb 0) z) ∙ sym (among_times m ms) ∙ e)
      where
        zeroed : (b : Bool) → b ≡ true → cond b 1 0 + times m ms ≤ 1 → times m ms ≡ 0
        zeroed true o w = omega arith
        zeroed false o w = never o
    go false e r = r

-- ---- among events

unfoldable pub times_in : ℕ → List Event → ℕ
times_in x [] = 0
times_in x (begins at kind map ∷ es) = times_in x es
times_in x (ends ∷ es) = times_in x es
times_in x (opens n ∷ es) = times_in x es
times_in x (closes ∷ es) = times_in x es
times_in x (Event.hole ∷ es) = times_in x es
times_in x (Event.text bs ∷ es) = times_in x es
times_in x (Event.byte b ∷ es) = times_in x es
times_in x (Event.mark n ∷ es) = cond (eqb n x) 1 0 + times_in x es
times_in x (Event.number n ∷ es) = times_in x es

in_append : (x : ℕ) (a b : List Event) → times_in x (a ++ b) ≡ times_in x a + times_in x b
unfolding times_in
in_append x [] b = omega arith
in_append x (begins at kind map ∷ a) b = in_append x a b
in_append x (ends ∷ a) b = in_append x a b
in_append x (opens n ∷ a) b = in_append x a b
in_append x (closes ∷ a) b = in_append x a b
in_append x (Event.hole ∷ a) b = in_append x a b
in_append x (Event.text bs ∷ a) b = in_append x a b
in_append x (Event.byte c ∷ a) b = in_append x a b
in_append x (Event.mark n ∷ a) b = let e : times_in x (a ++ b) ≡ times_in x a + times_in x b = in_append x a b in omega arith
in_append x (Event.number n ∷ a) b = in_append x a b

mutual
  unfolding times_in times events events_fields events_piece events_items marks marks_fields marks_piece marks_items

  pub node_times : (x : ℕ) (n : Node) → times_in x (events n) ≡ times x (marks n)
  node_times x (node at kind fs) = let e : times_in x (events_fields fs) ≡ times x (marks_fields fs) = fields_times x fs in omega (arith, in_append x (events_fields fs) (ends ∷ []))

  fields_times : (x : ℕ) (fs : Fields) → times_in x (events_fields fs) ≡ times x (marks_fields fs)
  fields_times x done = refl
  fields_times x (absent fs) = fields_times x fs
  fields_times x (field p fs) =
      let a : times_in x (events_piece p) ≡ times x (marks_piece p) = piece_times x p in
      let b : times_in x (events_fields fs) ≡ times x (marks_fields fs) = fields_times x fs in
      omega (arith, in_append x (events_piece p) (events_fields fs), times_append x (marks_piece p) (marks_fields fs))

  piece_times : (x : ℕ) (p : Piece) → times_in x (events_piece p) ≡ times x (marks_piece p)
  piece_times x (one n) = node_times x n
  piece_times x (list is) = let e : times_in x (events_items is) ≡ times x (marks_items is) = items_times x is in omega (arith, in_append x (events_items is) (closes ∷ []))
  piece_times x (text bs) = refl
  piece_times x (byte b) = refl
  piece_times x (mark m) = refl
  piece_times x (number m) = refl

  pub items_times : (x : ℕ) (is : Items) → times_in x (events_items is) ≡ times x (marks_items is)
  items_times x Items.none = refl
  items_times x (hole is) = items_times x is
  items_times x (item n is) =
      let a : times_in x (events n) ≡ times x (marks n) = node_times x n in
      let b : times_in x (events_items is) ≡ times x (marks_items is) = items_times x is in
      omega (arith, in_append x (events n) (events_items is), times_append x (marks n) (marks_items is))

-- ---- those that were met

pub met_times : (x : ℕ) (es : List Event) (met : List ℕ) → times x (folded met_after met es) ≡ times x met + times_in x es
unfolding folded times_in times
met_times x [] met = omega arith
met_times x (begins at kind map ∷ es) met = met_times x es met
met_times x (ends ∷ es) met = met_times x es met
met_times x (opens n ∷ es) met = met_times x es met
met_times x (closes ∷ es) met = met_times x es met
met_times x (Event.hole ∷ es) met = met_times x es met
met_times x (Event.text bs ∷ es) met = met_times x es met
met_times x (Event.byte b ∷ es) met = met_times x es met
met_times x (Event.mark n ∷ es) met = let e : times x (folded met_after (n ∷ met) es) ≡ cond (eqb n x) 1 0 + times x met + times_in x es = met_times x es (n ∷ met) in omega arith
met_times x (Event.number n ∷ es) met = met_times x es met

-- with a test at each mark: where it does not fail they are those, each at most once
pub meet_times : (es : List Event) (met m : List ℕ) → folded meet (some met) es ≡ some m → (x : ℕ) → times x m ≡ times x met + times_in x es
unfolding folded meet times_in times
meet_times [] met m w x = let same : met ≡ m = cc in rw (sym same) (omega arith)
meet_times (begins at kind map ∷ es) met m w x = meet_times es met m w x
meet_times (ends ∷ es) met m w x = meet_times es met m w x
meet_times (opens n ∷ es) met m w x = meet_times es met m w x
meet_times (closes ∷ es) met m w x = meet_times es met m w x
meet_times (Event.hole ∷ es) met m w x = meet_times es met m w x
meet_times (Event.text bs ∷ es) met m w x = meet_times es met m w x
meet_times (Event.byte b ∷ es) met m w x = meet_times es met m w x
meet_times (Event.mark n ∷ es) met m w x = go (among met n) w (λ v. meet_times es (n ∷ met) m v x)
  where
    go : (b : Bool) → folded meet (cond b none (some (n ∷ met))) es ≡ some m → (folded meet (some (n ∷ met)) es ≡ some m → times x m ≡ cond (eqb n x) 1 0 + times x met + times_in x es) → times x m ≡ times x met + (cond (eqb n x) 1 0 + times_in x es)
    go true v f = let u : ◌≡◌ {A = Option (List ℕ)} none (some m) = sym (met_twice es) ∙ v in let z : ◌≡◌ {A = ℕ} 0 1 = cc in absurd (omega arith)
    go false v f = let e : times x m ≡ cond (eqb n x) 1 0 + times x met + times_in x es = f v in omega arith
meet_times (Event.number n ∷ es) met m w x = meet_times es met m w x

pub meet_once : (es : List Event) (met m : List ℕ) → folded meet (some met) es ≡ some m → ((x : ℕ) → times x met ≤ 1) → (x : ℕ) → times x m ≤ 1
unfolding folded meet times
meet_once [] met m w h x = let same : met ≡ m = cc in rw (sym same) (h x)
meet_once (begins at kind map ∷ es) met m w h x = meet_once es met m w h x
meet_once (ends ∷ es) met m w h x = meet_once es met m w h x
meet_once (opens n ∷ es) met m w h x = meet_once es met m w h x
meet_once (closes ∷ es) met m w h x = meet_once es met m w h x
meet_once (Event.hole ∷ es) met m w h x = meet_once es met m w h x
meet_once (Event.text bs ∷ es) met m w h x = meet_once es met m w h x
meet_once (Event.byte b ∷ es) met m w h x = meet_once es met m w h x
meet_once (Event.mark n ∷ es) met m w h x = go (among met n) refl w (λ v g. meet_once es (n ∷ met) m v g x)
  where
    first : among met n ≡ false → (y : ℕ) → times y (n ∷ met) ≤ 1
    first a y = pick (eqb n y) refl
      where
        none : (k : ℕ) → ltb 0 k ≡ false → k ≡ 0
        none zero v = refl
        none (suc k) v = never (sym v ∙ lt-ltb 0 (suc k) (omega arith))

        pick : (b : Bool) → eqb n y ≡ b → cond b 1 0 + times y met ≤ 1
        pick true e = let z : times y met ≡ 0 = ap (λ (k : ℕ). times k met) (sym (eqb-true n y e)) ∙ none (times n met) (sym (among_times n met) ∙ a) in omega arith
        pick false e = let z : times y met ≤ 1 = h y in omega arith

    go : (b : Bool) → among met n ≡ b → folded meet (cond b Option.none (some (n ∷ met))) es ≡ some m → (folded meet (some (n ∷ met)) es ≡ some m → ((y : ℕ) → times y (n ∷ met) ≤ 1) → times x m ≤ 1) → times x m ≤ 1
    go true a v f = let u : ◌≡◌ {A = Option (List ℕ)} Option.none (some m) = sym (met_twice es) ∙ v in let z : ◌≡◌ {A = ℕ} 0 1 = cc in absurd (omega arith)
    go false a v f = f v (first a)
meet_once (Event.number n ∷ es) met m w h x = meet_once es met m w h x

-- where it fails one stands twice
pub meet_fails : (es : List Event) (met : List ℕ) → folded meet (some met) es ≡ none → (x : ℕ) × (2 ≤ times x met + times_in x es)
unfolding folded meet times_in times
meet_fails [] met w = let z : ◌≡◌ {A = ℕ} 0 1 = cc in absurd (omega arith)
meet_fails (begins at kind map ∷ es) met w = meet_fails es met w
meet_fails (ends ∷ es) met w = meet_fails es met w
meet_fails (opens n ∷ es) met w = meet_fails es met w
meet_fails (closes ∷ es) met w = meet_fails es met w
meet_fails (Event.hole ∷ es) met w = meet_fails es met w
meet_fails (Event.text bs ∷ es) met w = meet_fails es met w
meet_fails (Event.byte b ∷ es) met w = meet_fails es met w
meet_fails (Event.mark n ∷ es) met w = go (among met n) refl w (λ v. meet_fails es (n ∷ met) v)
  where
    some_time : (k : ℕ) → ltb 0 k ≡ true → 0 < k
    some_time zero v = never v
    some_time (suc k) v = omega arith

    go : (b : Bool) → among met n ≡ b → folded meet (cond b Option.none (some (n ∷ met))) es ≡ Option.none → (folded meet (some (n ∷ met)) es ≡ Option.none → (x : ℕ) × (2 ≤ cond (eqb n x) 1 0 + times x met + times_in x es)) → (x : ℕ) × (2 ≤ times x met + (cond (eqb n x) 1 0 + times_in x es))
    go true a v f =
        let p : 0 < times n met = some_time (times n met) (sym (among_times n met) ∙ a) in
        (n, rw (eq-eqb n n refl) (omega arith))
    go false a v f = let r = f v in let o : 2 ≤ cond (eqb n r.0) 1 0 + times r.0 met + times_in r.0 es = r.1 in (r.0, omega arith)
meet_fails (Event.number n ∷ es) met w = meet_fails es met w
