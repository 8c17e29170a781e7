-- The marks that a tour meets are the tree's, in order; a table of 65,536 entries knows those that were met.
-- Assumes nothing.
use mathlib.Core.Path.{◌≡◌, refl, sym, ap, ◌∙◌}
use mathlib.Core.Bool.{Bool, true, false, cond, not, ◌||◌}
use mathlib.Core.List.{List, [], ◌∷◌, ◌++◌, append-nil}
use mathlib.Core.Option.{Option, some}
use Prim.Native.Nat.{ℕ, zero, suc, ◌<◌, ◌≤◌}
use native.Mathlib.Omega.{arith}
use native.Mathlib.Nat.{le_of_suc-le-suc}
use native.Mathlib.Decide.{dec_lt}
use lib.Dec.{eqb}
use lib.ListN.{length, get_or, set}
use lib.Seq.{get_or-set_same, get_or-set_other}
use borrow.Author.Tests.{eq-eqb, ne_eqb}
use Rattle.tree.specs.Tree.{Node, Fields, Piece, Items, marks, marks_fields, marks_piece, marks_items}
use Rattle.tree.specs.Tree.Node.{node}
use Rattle.tree.specs.Tree.Fields.{done, absent, field}
use Rattle.tree.specs.Tree.Piece.{one, list, text, byte, mark, number}
use Rattle.tree.specs.Tree.Items.{none, hole, item}
use Rattle.tree.specs.Grammar.{among}
use Rattle.rewritten.specs.Rewritten.{distinct}
use Rattle.rewritten.specs.Events.{Event, events, events_fields, events_piece, events_items}
use Rattle.rewritten.specs.Events.Event.{begins, ends, opens, closes}
use Rattle.rewritten.specs.Pass.{folded}
use Rattle.rewritten.specs.Steps.{Stands, event_in}
use Rattle.rewritten.specs.Marks.{meet, is_some, new_in, noted}
use Rattle.rewritten.specs.declared.step.Event as told
use Rattle.rewritten.specs.declared.step.Event.TheVariants.{Begins, Ends, Opens, Closes, Hole, Text, Byte, Mark, Number}
use Rattle.tree.proofs.Sound.{never}

pub by_same : {A : Type 0} (a b : ℕ) → (a ≡ b → A) → ((a ≡ b → ⊥) → A) → A
by_same a b f g = elim (dec_lt a b) [
  | yes h ↦ g (λ e. absurd (omega arith))
  | no h ↦ elim (dec_lt b a) [ yes i ↦ g (λ e. absurd (omega arith)) | no i ↦ f (omega arith) ]
]

-- ---- none of the numbers stands twice, nor among those that were met

different : List ℕ → List ℕ → Bool
different met [] = true
different met (m ∷ ms) = cond (among met m) false (different (m ∷ met) ms)

-- none of them was met
new : List ℕ → List ℕ → Bool
new met [] = true
new met (m ∷ ms) = cond (among met m) false (new met ms)

new_none : (ms : List ℕ) → new [] ms ≡ true
unfolding new among
new_none [] = refl
new_none (m ∷ ms) = new_none ms

pub same_either_way : (a b : ℕ) → eqb a b ≡ eqb b a
same_either_way a b = by_same a b (λ e. eq-eqb a b e ∙ sym (eq-eqb b a (sym e))) (λ d. ne_eqb a b d ∙ sym (ne_eqb b a (λ w. d (sym w))))

new_more : (m : ℕ) (met ms : List ℕ) → new (m ∷ met) ms ≡ cond (among ms m) false (new met ms)
unfolding new among
new_more m met [] = refl
new_more m met (x ∷ xs) = rw (new_more m met xs, same_either_way m x) (go (eqb x m) (among met x) (among xs m) (new met xs))
  where
    go : (a b c d : Bool) → cond (a || b) false (cond c false d) ≡ cond (a || c) false (cond b false d)
    go true b c d = refl
    go false true true d = refl
    go false true false d = refl
    go false false true d = refl
    go false false false d = refl

different_is : (met ms : List ℕ) → different met ms ≡ cond (new met ms) (distinct ms) false
unfolding different new distinct
different_is met [] = refl
different_is met (m ∷ ms) = rw (different_is (m ∷ met) ms, new_more m met ms) (go (among met m) (among ms m) (new met ms) (distinct ms))
  where
    go : (p q r d : Bool) → cond p false (cond (cond q false r) d false) ≡ cond (cond p false r) (cond q false d) false
    go true q r d = refl
    go false true true d = refl
    go false true false d = refl
    go false false r d = refl

-- ---- events and marks

marks_in : List Event → List ℕ
marks_in [] = []
marks_in (begins at kind map ∷ es) = marks_in es
marks_in (ends ∷ es) = marks_in es
marks_in (opens n ∷ es) = marks_in es
marks_in (closes ∷ es) = marks_in es
marks_in (Event.hole ∷ es) = marks_in es
marks_in (Event.text bs ∷ es) = marks_in es
marks_in (Event.byte b ∷ es) = marks_in es
marks_in (Event.mark n ∷ es) = n ∷ marks_in es
marks_in (Event.number n ∷ es) = marks_in es

pub met_twice : (es : List Event) → folded meet Option.none es ≡ Option.none
unfolding folded meet
met_twice [] = refl
met_twice (e ∷ es) = met_twice es

meets : (met : List ℕ) (es : List Event) → is_some (folded meet (some met) es) ≡ different met (marks_in es)
unfolding folded meet different marks_in
meets met [] = refl
meets met (begins at kind map ∷ es) = meets met es
meets met (ends ∷ es) = meets met es
meets met (opens n ∷ es) = meets met es
meets met (closes ∷ es) = meets met es
meets met (Event.hole ∷ es) = meets met es
meets met (Event.text bs ∷ es) = meets met es
meets met (Event.byte b ∷ es) = meets met es
meets met (Event.mark n ∷ es) = go (among met n) (meets (n ∷ met) es)
  where
    go : (b : Bool) → is_some (folded meet (some (n ∷ met)) es) ≡ different (n ∷ met) (marks_in es) → is_some (folded meet (cond b Option.none (some (n ∷ met))) es) ≡ cond b false (different (n ∷ met) (marks_in es))
    go true m = ap is_some (met_twice es)
    go false m = m
meets met (Event.number n ∷ es) = meets met es

marks_append : (a b : List Event) → marks_in (a ++ b) ≡ marks_in a ++ marks_in b
unfolding marks_in
marks_append [] b = refl
marks_append (begins at kind map ∷ a) b = marks_append a b
marks_append (ends ∷ a) b = marks_append a b
marks_append (opens n ∷ a) b = marks_append a b
marks_append (closes ∷ a) b = marks_append a b
marks_append (Event.hole ∷ a) b = marks_append a b
marks_append (Event.text bs ∷ a) b = marks_append a b
marks_append (Event.byte c ∷ a) b = marks_append a b
marks_append (Event.mark n ∷ a) b = ap (λ (ms : List ℕ). n ∷ ms) (marks_append a b)
marks_append (Event.number n ∷ a) b = marks_append a b

mutual
  unfolding marks_in events events_fields events_piece events_items marks marks_fields marks_piece marks_items

  marks_events : (n : Node) → marks_in (events n) ≡ marks n
  marks_events (node at kind fs) = marks_append (events_fields fs) (ends ∷ []) ∙ append-nil (marks_in (events_fields fs)) ∙ marks_fields_lem fs

  marks_fields_lem : (fs : Fields) → marks_in (events_fields fs) ≡ marks_fields fs
  marks_fields_lem done = refl
  marks_fields_lem (absent fs) = marks_fields_lem fs
  marks_fields_lem (field p fs) = marks_append (events_piece p) (events_fields fs) ∙ ap (λ (ms : List ℕ). ms ++ marks_in (events_fields fs)) (marks_piece_lem p) ∙ ap (λ (ms : List ℕ). marks_piece p ++ ms) (marks_fields_lem fs)

  marks_piece_lem : (p : Piece) → marks_in (events_piece p) ≡ marks_piece p
  marks_piece_lem (one n) = marks_events n
  marks_piece_lem (list is) = marks_append (events_items is) (closes ∷ []) ∙ append-nil (marks_in (events_items is)) ∙ marks_items_lem is
  marks_piece_lem (text bs) = refl
  marks_piece_lem (byte b) = refl
  marks_piece_lem (mark n) = refl
  marks_piece_lem (number n) = refl

  marks_items_lem : (is : Items) → marks_in (events_items is) ≡ marks_items is
  marks_items_lem none = refl
  marks_items_lem (hole is) = marks_items_lem is
  marks_items_lem (item n is) = marks_append (events n) (events_items is) ∙ ap (λ (ms : List ℕ). ms ++ marks_in (events_items is)) (marks_events n) ∙ ap (λ (ms : List ℕ). marks n ++ ms) (marks_items_lem is)

-- the pass over a tree's events finds its marks distinct exactly if they are
pub marks_distinct : (n : Node) → is_some (folded meet (some []) (events n)) ≡ distinct (marks n)
marks_distinct n = meets [] (events n) ∙ ap (different []) (marks_events n) ∙ different_is [] (marks n) ∙ rw (new_none (marks n))

-- ---- the table

pub record Knows (seen met : List ℕ) : Type 0 where
  pub size : 65536 ≤ length seen
  pub at : (x : ℕ) → x < 65536 → get_or seen x 0 ≡ cond (among met x) 1 0

pub knows_none : (seen : List ℕ) → 65536 ≤ length seen → ((x : ℕ) → get_or seen x 0 ≡ 0) → Knows seen []
unfolding among
knows_none seen s z = record { size = s; at = λ x h. z x }

-- the marks that were met after an event, if it is no mark that was met before
abbrev pub met_after : List ℕ → Event → List ℕ
met_after met (begins at kind map) = met
met_after met ends = met
met_after met (opens n) = met
met_after met closes = met
met_after met Event.hole = met
met_after met (Event.text bs) = met
met_after met (Event.byte b) = met
met_after met (Event.mark n) = n ∷ met
met_after met (Event.number n) = met

-- what the table says of a mark
looked : (n : ℕ) (seen met : List ℕ) → Knows seen met → n < 65536 → eqb (get_or seen n 0) 0 ≡ not (among met n)
looked n seen met k h = rw (k.at n h) (go (among met n))
  where
    go : (b : Bool) → eqb (cond b 1 0) 0 ≡ not b
    go true = refl
    go false = refl

module _ (l seen met : List ℕ) (at q : ℕ) (k : Knows seen met) where
  pub meets_new : (e : told.Event) → Stands l at e q → new_in seen (event_in l e) ≡ true → meet (some met) (event_in l e) ≡ some (met_after met (event_in l e))
  unfolding meet new_in
  meets_new (Begins p kind map) s t = refl
  meets_new Ends s t = refl
  meets_new (Opens n) s t = refl
  meets_new Closes s t = refl
  meets_new Hole s t = refl
  meets_new (Text p n) s t = refl
  meets_new (Byte b) s t = refl
  meets_new (Mark n) s t = go (among met n) (sym (looked n seen met k s.1) ∙ t)
    where
      go : (b : Bool) → not b ≡ true → cond b Option.none (some (n ∷ met)) ≡ some (n ∷ met)
      go true w = absurd (never w)
      go false w = refl
  meets_new (Number n) s t = refl

  pub meets_twice : (e : told.Event) → Stands l at e q → new_in seen (event_in l e) ≡ false → meet (some met) (event_in l e) ≡ Option.none
  unfolding meet new_in
  meets_twice (Begins p kind map) s t = absurd (never (sym t))
  meets_twice Ends s t = absurd (never (sym t))
  meets_twice (Opens n) s t = absurd (never (sym t))
  meets_twice Closes s t = absurd (never (sym t))
  meets_twice Hole s t = absurd (never (sym t))
  meets_twice (Text p n) s t = absurd (never (sym t))
  meets_twice (Byte b) s t = absurd (never (sym t))
  meets_twice (Mark n) s t = go (among met n) (sym (looked n seen met k s.1) ∙ t)
    where
      go : (b : Bool) → not b ≡ false → cond b Option.none (some (n ∷ met)) ≡ Option.none
      go true w = refl
      go false w = absurd (never (sym w))
  meets_twice (Number n) s t = absurd (never (sym t))

length_set : (l : List ℕ) (i v : ℕ) → length (set l i v) ≡ length l
length_set [] i v = refl
length_set (x ∷ xs) zero v = refl
length_set (x ∷ xs) (suc i) v = ap suc (length_set xs i v)

met_one : (n : ℕ) (seen met : List ℕ) → Knows seen met → n < 65536 → (x : ℕ) → x < 65536 → get_or (set seen n 1) x 0 ≡ cond (among (n ∷ met) x) 1 0
unfolding among
met_one n seen met k f x h =
    let s : 65536 ≤ length seen = k.size in
    by_same n x
    (λ e. rw (eq-eqb n x e) (ap (λ (y : ℕ). get_or (set seen n 1) y 0) (sym e) ∙ get_or-set_same seen n 1 0 (omega arith)))
    (λ d. rw (ne_eqb n x d) (get_or-set_other seen n x 1 0 (λ w. d (sym w)) ∙ k.at x h))

module _ (l seen met : List ℕ) (at q : ℕ) (k : Knows seen met) where
  pub knows_next : (e : told.Event) → Stands l at e q → Knows (noted seen (event_in l e)) (met_after met (event_in l e))
  unfolding noted
  knows_next (Begins p kind map) s = k
  knows_next Ends s = k
  knows_next (Opens n) s = k
  knows_next Closes s = k
  knows_next Hole s = k
  knows_next (Text p n) s = k
  knows_next (Byte b) s = k
  knows_next (Mark n) s = record { size = let z : 65536 ≤ length seen = k.size in let e : length (set seen n 1) ≡ length seen = length_set seen n 1 in omega arith; at = met_one n seen met k s.1 }
  knows_next (Number n) s = k

-- ---- the code of the table

pub set_past : (l : List ℕ) (i v : ℕ) → length l ≤ i → l ≡ set l i v
set_past [] i v h = refl
set_past (x ∷ xs) zero v h = absurd (omega arith)
set_past (x ∷ xs) (suc i) v h = ap (λ (l : List ℕ). x ∷ l) (set_past xs i v (le_of_suc-le-suc h))

-- ---- an event that is no mark

module _ (seen tree : List ℕ) where
  pub new_other : (e : told.Event) → ((n : ℕ) → e ≡ Mark n → ⊥) → true ≡ new_in seen (event_in tree e)
  unfolding new_in
  new_other (Begins p kind map) d = refl
  new_other Ends d = refl
  new_other (Opens n) d = refl
  new_other Closes d = refl
  new_other Hole d = refl
  new_other (Text p n) d = refl
  new_other (Byte b) d = refl
  new_other (Mark n) d = absurd (d n refl)
  new_other (Number n) d = refl

  pub noted_other : (e : told.Event) → ((n : ℕ) → e ≡ Mark n → ⊥) → seen ≡ noted seen (event_in tree e)
  unfolding noted
  noted_other (Begins p kind map) d = refl
  noted_other Ends d = refl
  noted_other (Opens n) d = refl
  noted_other Closes d = refl
  noted_other Hole d = refl
  noted_other (Text p n) d = refl
  noted_other (Byte b) d = refl
  noted_other (Mark n) d = absurd (d n refl)
  noted_other (Number n) d = refl
