-- A pass is a loop over the tour: from the root the tour is the events of the tree that the decoder gives, a step of it is a step of the pass,
-- and frames do not run out. Each pass cites these laws with its own step and answer.
-- Assumes nothing.
use mathlib.Core.Path.{◌≡◌, refl, sym, ap, ◌∙◌}
use mathlib.Core.Bool.{Bool, true, false, cond}
use mathlib.Core.List.{List, [], ◌∷◌}
use Prim.Native.Nat.{ℕ, ◌+◌, ◌-◌, ◌*◌, ◌<◌, ◌≤◌}
use native.Mathlib.Omega.{arith}
use lib.Dec.{leb, eqb}
use lib.ListN.{length}
use borrow.Author.Tests.{le-leb, lt-leb, leb-true, eq-eqb, ne_eqb}
use Rattle.tree.specs.Tree.{Node}
use Rattle.tree.specs.Grammar.{root}
use Rattle.tree.specs.Grammar.Sort.{child}
use Rattle.tree.specs.Grammar.Stage.{rewritten}
use Rattle.tree.specs.Rows.{unpacked}
use Rattle.tree.specs.Read.{Got, Refusal, mapped, accepted, read_node, read_tree, whole}
use Rattle.tree.specs.Read.Got.{got, refused}
use Rattle.tree.specs.Read.Refusal.{not_a_tree}
use Rattle.tree.proofs.Sound.{never}
use Rattle.rewritten.specs.Rewritten.{is_got}
use Rattle.rewritten.specs.Events.{Event, events}
use Rattle.rewritten.specs.Pending.{sorts, node_in_of, node_comes, piece_comes, slots_come, comes, pending, task_of, stack}
use Rattle.rewritten.specs.Steps.{start, coming_at, Stands, Took, Onward, event_in}
use Rattle.rewritten.specs.Pass.{folded, passed}
use Rattle.rewritten.specs.declared.step.Cursor.{Cursor}
use Rattle.rewritten.specs.declared.step.Event as told
use Rattle.rewritten.specs.declared.step.Event.TheVariants.{Begins, Ends, Opens, Closes, Hole, Text, Byte, Mark, Number}
use Rattle.rewritten.specs.declared.step.Step.{Step}
use Rattle.rewritten.specs.declared.step.Step.TheVariants.{Next, Done, Refused, Full}
use Rattle.rewritten.proofs.Coming.{then_nothing, piece_child}

-- what is pending at a cursor
abbrev pub coming : List ℕ → List ℕ → Cursor → Got (List Event)
coming l fs c = coming_at l fs c.at c.deep c.top

-- what is pending at the start is the events of the node that the decoder gives at the root
pub tour_is_events : (l fs : List ℕ) → coming l fs start ≡ mapped events (read_node l rewritten (length l) root 0 1)
unfolding coming_at pending stack comes task_of slots_come sorts unpacked node_comes node_in_of
tour_is_events l fs = then_nothing (piece_comes l (child root) 0 1) ∙ piece_child l root 0 1

-- an event does not end before it stands
pub stands_on : (l : List ℕ) (at : ℕ) (e : told.Event) (q : ℕ) → Stands l at e q → at ≤ q
stands_on l at (Begins p kind map) q s = let w : q ≡ at + 2 = s.5 in omega arith
stands_on l at Ends q s = let w : q ≡ at = s in omega arith
stands_on l at (Opens n) q s = let w : q ≡ at + 2 = s.2 in omega arith
stands_on l at Closes q s = let w : q ≡ at = s in omega arith
stands_on l at Hole q s = let w : q ≡ at + 1 = s.1 in omega arith
stands_on l at (Text p n) q s = let w : q ≡ p + n = s.3 in let v : p ≡ at + 2 = s.0 in omega arith
stands_on l at (Byte b) q s = let w : q ≡ at + 1 = s.2 in omega arith
stands_on l at (Mark n) q s = let w : q ≡ at + 2 = s.2 in omega arith
stands_on l at (Number n) q s = let w : q ≡ at + 2 = s.2 in omega arith

-- a step that is an event
pub onward : (l fs later : List ℕ) (c : Cursor) (r : Step) → Took l fs later (coming l fs c) c.at c.deep r → (e : told.Event) (d : Cursor) → r ≡ Next e d → Onward l fs later (coming l fs c) c.at c.deep e d
onward l fs later c r t e d w = (rw w at t).so

-- ---- what every pass keeps, and that its tour goes on

pub record Inside (l fs : List ℕ) (c : Cursor) (frames : ℕ) : Type 0 where
  pub size : length fs ≡ frames
  pub inside : c.at ≤ length l
  pub room : 2 * c.deep ≤ c.at

pub inside_start : (l fs : List ℕ) → Inside l fs start (length fs)
inside_start l fs = record { size = refl; inside = omega arith; room = omega arith }

module _ (l fs later : List ℕ) (c : Cursor) (frames : ℕ) (i : Inside l fs c frames) where
  module _ (e : told.Event) (d : Cursor) (o : Onward l fs later (coming l fs c) c.at c.deep e d) where
    pub inside_next : length later ≡ length fs → Inside l later d frames
    inside_next same = record { size = same ∙ i.size; inside = o.inside i.inside; room = o.room i.room }

    -- the measure of the loop
    pub step_falls : (length l - d.at) + d.deep < (length l - c.at) + c.deep
    step_falls = o.falls i.inside

  -- 16,384 frames are enough for every rewritten tree: a frame that is open has two bytes before the cursor
  pub frames_suffice : (r : Step) → Took l fs later (coming l fs c) c.at c.deep r → r ≡ Full → length l ≤ 32768 → 16384 ≤ frames → ⊥
  frames_suffice r t w h f =
      let full : (length fs ≤ c.deep) × (c.at + 1 < length l) × (later ≡ fs) = (rw w at t).so in
      let a : length fs ≤ c.deep = full.0 in
      let b : c.at + 1 < length l = full.1 in
      let s : length fs ≡ frames = i.size in
      let m : 2 * c.deep ≤ c.at = i.room in
      omega arith

-- ---- the state of a pass

module _ {S A : Type 0} (step : S → Event → S) (answer : S → A) (no : A) where
  -- what the pass will answer, of its state and of what is pending
  unfoldable pub concluded : List ℕ → S → Got (List Event) → A
  concluded l s (got es q k) = cond (eqb q (length l)) (answer (folded step s es)) no
  concluded l s (refused r) = no

  -- at the start it is what the pass answers of the tree
  pub concluded_start : (l fs : List ℕ) (s : S) → length l ≤ 32768 → concluded l s (coming l fs start) ≡ passed step answer no s (read_tree rewritten (length l) l)
  unfolding read_tree concluded
  concluded_start l fs s h = rw (tour_is_events l fs, le-leb (length l) 32768 h) (go (read_node l rewritten (length l) root 0 1))
    where
      at_end : (b : Bool) (n : Node) (q k : ℕ) → cond b (answer (folded step s (events n))) no ≡ passed step answer no s (accepted b (got n q k))
      at_end true n q k = refl
      at_end false n q k = refl

      go : (g : Got Node) → concluded l s (mapped events g) ≡ passed step answer no s (whole l g)
      go (got n q k) = at_end (eqb q (length l)) n q k
      go (refused r) = refl

  -- over 32,768 bytes
  pub passed_long : (l : List ℕ) (s : S) → 32768 < length l → no ≡ passed step answer no s (read_tree rewritten (length l) l)
  unfolding read_tree
  passed_long l s h = rw (lt-leb (length l) 32768 h)

  concluded_event : (l : List ℕ) (s : S) (e : Event) (g : Got (List Event)) → concluded l s (mapped (λ es. e ∷ es) g) ≡ concluded l (step s e) g
  unfolding concluded folded
  concluded_event l s e (got es q k) = refl
  concluded_event l s e (refused r) = refl

  module _ (l fs later : List ℕ) (c : Cursor) (s : S) where
    -- an event takes the state on
    pub concluded_next : (e : told.Event) (d : Cursor) → Onward l fs later (coming l fs c) c.at c.deep e d → concluded l (step s (event_in l e)) (coming l later d) ≡ concluded l s (coming l fs c)
    concluded_next e d o = sym (concluded_event l s (event_in l e) (coming l later d)) ∙ ap (concluded l s) (sym o.is)

    module _ (r : Step) (t : Took l fs later (coming l fs c) c.at c.deep r) where
      -- the end, with nothing after it
      pub concluded_whole : r ≡ Done → c.at ≡ length l → concluded l s (coming l fs c) ≡ answer s
      unfolding concluded folded
      concluded_whole w e =
          let d : (coming l fs c ≡ got [] c.at 1) × (later ≡ fs) = (rw w at t).so in
          rw (d.0, eq-eqb c.at (length l) e)

      -- bytes after the end
      pub concluded_early : r ≡ Done → (c.at ≡ length l → ⊥) → concluded l s (coming l fs c) ≡ no
      unfolding concluded
      concluded_early w e =
          let d : (coming l fs c ≡ got [] c.at 1) × (later ≡ fs) = (rw w at t).so in
          rw (d.0, ne_eqb c.at (length l) e)

      pub concluded_refused : r ≡ Refused → concluded l s (coming l fs c) ≡ no
      unfolding concluded
      concluded_refused w =
          let d : (coming l fs c ≡ refused not_a_tree) × (later ≡ fs) = (rw w at t).so in
          rw d.0

-- ---- a tour of a tree that was read before: what is pending is known to be got

abbrev events_of : Got (List Event) → List Event
events_of (got es q k) = es
events_of (refused r) = []

got_not_refused : {A : Type 0} {a : A} {q k : ℕ} {r : Refusal} → got a q k ≡ refused r → ⊥
got_not_refused e = never (sym (ap is_got e))

pub accepted_got : {A : Type 0} (b : Bool) (g : Got A) (a : A) (q k : ℕ) → accepted b g ≡ got a q k → (b ≡ true) × (g ≡ got a q k)
accepted_got true g a q k e = (refl, e)
accepted_got false g a q k e = absurd (got_not_refused (sym e))

-- from the root it is the tree's events
pub tour_of_tree : (l fs : List ℕ) (n : Node) (q k : ℕ) → read_tree rewritten (length l) l ≡ got n q k → (length l ≤ 32768) × (coming l fs start ≡ got (events n) q k)
unfolding read_tree
tour_of_tree l fs n q k e =
    let a : (leb (length l) 32768 ≡ true) × (whole l (read_node l rewritten (length l) root 0 1) ≡ got n q k) = accepted_got (leb (length l) 32768) (whole l (read_node l rewritten (length l) root 0 1)) n q k e in
    (leb-true (length l) 32768 a.0, tour_is_events l fs ∙ ap (mapped events) (whole_got (read_node l rewritten (length l) root 0 1) a.1))
  where
    whole_got : (g : Got Node) → whole l g ≡ got n q k → g ≡ got n q k
    whole_got (got m p j) w = (accepted_got (eqb p (length l)) (got m p j) n q k w).1
    whole_got (refused r) w = w

-- the rest of some events
pub record Rest (e : Event) (es : List Event) (q k : ℕ) (g : Got (List Event)) : Type 0 where
  pub rest : List Event
  pub is : es ≡ e ∷ rest
  pub comes : g ≡ got rest q k

led_rest : (e : Event) (es : List Event) (q k : ℕ) (g : Got (List Event)) → got es q k ≡ mapped (λ xs. e ∷ xs) g → Rest e es q k g
led_rest e es q k (got xs p j) w = record { rest = xs; is = same_events w; comes = same_end w }
  where
    same_events : got es q k ≡ got (e ∷ xs) p j → es ≡ e ∷ xs
    same_events v = ap events_of v

    with_rest : Got (List Event) → Got (List Event)
    with_rest (got ys p' j') = got xs p' j'
    with_rest (refused r) = refused r

    same_end : got es q k ≡ got (e ∷ xs) p j → got xs p j ≡ got xs q k
    same_end v = sym (ap with_rest v)
led_rest e es q k (refused r) w = absurd (got_not_refused w)

-- an event is the first of them
pub rest_next : (l fs later : List ℕ) (c : Cursor) (es : List Event) (q k : ℕ) → coming l fs c ≡ got es q k → (e : told.Event) (d : Cursor) → Onward l fs later (coming l fs c) c.at c.deep e d → Rest (event_in l e) es q k (coming l later d)
rest_next l fs later c es q k w e d o = led_rest (event_in l e) es q k (coming l later d) (sym w ∙ o.is)

-- at the end there are none
pub rest_done : (l fs later : List ℕ) (c : Cursor) (es : List Event) (q k : ℕ) → coming l fs c ≡ got es q k → (r : Step) → Took l fs later (coming l fs c) c.at c.deep r → r ≡ Done → es ≡ []
rest_done l fs later c es q k w r t d =
    let f : (coming l fs c ≡ got [] c.at 1) × (later ≡ fs) = (rw d at t).so in
    ap events_of (sym w ∙ f.0)

-- and the bytes are not refused
pub rest_refused : (l fs later : List ℕ) (c : Cursor) (es : List Event) (q k : ℕ) → coming l fs c ≡ got es q k → (r : Step) → Took l fs later (coming l fs c) c.at c.deep r → r ≡ Refused → ⊥
rest_refused l fs later c es q k w r t d =
    let f : (coming l fs c ≡ refused not_a_tree) × (later ≡ fs) = (rw d at t).so in
    got_not_refused (sym w ∙ f.0)
