-- Two sides, step by step: what is left of both decides as the trees do.
-- Assumes nothing.
use mathlib.Core.Path.{◌≡◌, refl, sym, ap, ap₂, subst, ◌∙◌}
use mathlib.Core.Bool.{Bool, true, false, cond, not}
use mathlib.Core.List.{List, [], ◌∷◌}
use Prim.Native.Nat.{ℕ, ◌+◌, ◌-◌, ◌<◌, ◌≤◌}
use lib.ListN.{length, get_or, get_or-eq_default, replicate}
use native.Mathlib.Decide.{dec_lt}
use Rattle.std.proofs.lemmas.List.{get_or-replicate, length-replicate}
use Rattle.std.specs.Bool.{then_some}
use Rattle.std.specs.Prelude.{nat_eq}
use lib.Pointwise.{pointwise, bytes_decides}
use native.Mathlib.Omega.{arith}
use Rattle.tree.specs.Tree.{Node}
use Rattle.tree.specs.Grammar.Stage.{rewritten}
use Rattle.tree.specs.Read.{Got, read_tree}
use Rattle.tree.specs.Read.Got.{got, refused}
use Rattle.tree.proofs.Sound.{never}
use Rattle.rewritten.specs.Rewritten.{read_rewritten, is_got, is_rewritten}
use Rattle.rewritten.specs.Events.{Event, events}
use Rattle.rewritten.specs.Steps.{start, event_in}
use Rattle.rewritten.specs.declared.step.Cursor.{Cursor}
use Rattle.rewritten.specs.declared.step.Event as told
use Rattle.rewritten.proofs.RewrittenExact.{checked_got}
use Rattle.ordering.specs.Verdicts.{or_else}
use Rattle.std.specs.Ordering.{is_ne}
use Rattle.ordering.specs.Order.{by_event, first_difference, placed_all}
use Rattle.ordering.specs.Sides.{Within, Coming, Went, Moved}
use Rattle.ordering.specs.Outcome.{is_refused, answer_of, answer_number, order_number, Answers}
use Rattle.std.specs.declared.cmp.Ordering.{Ordering}
use Rattle.std.specs.declared.cmp.Ordering.TheVariants.{Less, Equal, Greater}
use Rattle.ordering.specs.declared.side.Side.{Side}
use Rattle.std.specs.declared.option.Option.{Option}
use Rattle.std.specs.declared.option.Option.TheVariants.{Some, None}
use Rattle.ordering.proofs.TreeOrder.{order_events, equal_self}
use Rattle.ordering.proofs.Sides.{fresh, side_start}

-- ---- what was read

pub refused_either : (l k : List ℕ) → is_refused l k ≡ true → None ≡ answer_of (read_rewritten l) (read_rewritten k)
unfolding is_refused is_rewritten
refused_either l k e = go (read_rewritten l) (read_rewritten k) e
  where
    go : (g h : Got Node) → cond (is_got g) (not (is_got h)) true ≡ true → None ≡ answer_of g h
    go (got n q j) (got m p i) w = absurd (never w)
    go (got n q j) (refused r) w = refl
    go (refused r) h w = refl

both_read : (l k : List ℕ) → is_refused l k ≡ false → (is_rewritten l ≡ true) × (is_rewritten k ≡ true)
unfolding is_refused
both_read l k e = go (is_rewritten l) (is_rewritten k) e
  where
    go : (a b : Bool) → cond a (not b) true ≡ false → (a ≡ true) × (b ≡ true)
    go true true w = (refl, refl)
    go true false w = absurd (never (sym w))
    go false b w = absurd (never (sym w))

record ReadAs (l : List ℕ) : Type 0 where
  pub tree : Node
  pub end : ℕ
  pub next : ℕ
  pub is : read_rewritten l ≡ got tree end next

read_as : (l : List ℕ) → is_rewritten l ≡ true → ReadAs l
unfolding is_rewritten
read_as l e = go (read_rewritten l) refl e
  where
    go : (g : Got Node) → read_rewritten l ≡ g → is_got g ≡ true → ReadAs l
    go (got n q k) w t = record { tree = n; end = q; next = k; is = w }
    go (refused r) w t = absurd (never t)

pub answers_by : (g h : Got Node) (r : Option Ordering) → r ≡ answer_of g h → Answers g h r
answers_by g h r e = record { number = ap answer_number e; order = ap order_number e }

-- the same bytes are the same tree
pub same_answer : (l k : List ℕ) → true ≡ pointwise nat_eq l k → (a : Bool) → a ≡ is_rewritten l → then_some a Equal ≡ answer_of (read_rewritten l) (read_rewritten k)
unfolding is_rewritten
same_answer l k e a w = rw (sym ((bytes_decides l k).0 (sym e)), w) (go (read_rewritten l))
  where
    go : (g : Got Node) → then_some (is_got g) Equal ≡ answer_of g g
    go (got n q j) = ap Some (sym (equal_self n))
    go (refused r) = refl

-- ---- two sides

pub record Going (l k : List ℕ) (fs gs table places : List ℕ) (a b : Side) (answer : Option Ordering) : Type 0 where
  pub first : List Event
  pub second : List Event
  pub left : Coming l fs table a first
  pub right : Coming k gs places b second
  pub will : Some (first_difference first second) ≡ answer

pub going_start : (l k fs gs table places : List ℕ) → is_refused l k ≡ false → 16384 ≤ length fs → 16384 ≤ length gs → 65536 ≤ length table → ((x : ℕ) → get_or table x 0 ≡ 0) → 65536 ≤ length places → ((x : ℕ) → get_or places x 0 ≡ 0) → (c d : Cursor) → c ≡ start → d ≡ start → Going l k fs gs table places (fresh c) (fresh d) (answer_of (read_rewritten l) (read_rewritten k))
unfolding read_rewritten
going_start l k fs gs table places x f g t z u v c d e h =
    let y = both_read l k x in
    let m = read_as l y.0 in
    let n = read_as k y.1 in
    record {
      first = placed_all false [] (events m.tree);
      second = placed_all false [] (events n.tree);
      left = side_start l fs table m.tree m.end m.next (checked_got (read_tree rewritten (length l) l) m.tree m.end m.next m.is).0 f t z c e;
      right = side_start k gs places n.tree n.end n.next (checked_got (read_tree rewritten (length k) k) n.tree n.end n.next n.is).0 g u v d h;
      will = ap Some (sym (order_events m.tree n.tree)) ∙ sym (ap₂ answer_of m.is n.is);
    }

module _ (l k fs gs table places : List ℕ) (a b : Side) (answer : Option Ordering) (g : Going l k fs gs table places a b answer) (later after noted marked : List ℕ) (m n : Option (told.Event × Side)) (moved : Moved l later noted a g.first m) (other : Moved k after marked b g.second n) where
  met_first : (e : told.Event) (s : Side) → m ≡ Some (e, s) → Went l later noted a g.first e s
  met_first e s w = (subst (λ (x : Option (told.Event × Side)). Moved l later noted a g.first x) w moved).so

  met_second : (f : told.Event) (t : Side) → n ≡ Some (f, t) → Went k after marked b g.second f t
  met_second f t w = (subst (λ (x : Option (told.Event × Side)). Moved k after marked b g.second x) w other).so

  ended_first : m ≡ None → g.first ≡ []
  ended_first w = (subst (λ (x : Option (told.Event × Side)). Moved l later noted a g.first x) w moved).so

  ended_second : n ≡ None → g.second ≡ []
  ended_second w = (subst (λ (x : Option (told.Event × Side)). Moved k after marked b g.second x) w other).so

  decided : (es fs : List Event) → g.first ≡ es → g.second ≡ fs → Some (first_difference es fs) ≡ answer
  decided es fs w v = ap₂ (λ (xs ys : List Event). Some (first_difference xs ys)) (sym w) (sym v) ∙ g.will

  module _ (e : told.Event) (s : Side) (f : told.Event) (t : Side) (left : m ≡ Some (e, s)) (right : n ≡ Some (f, t)) where
    went : Went l later noted a g.first e s
    went = met_first e s left

    went_too : Went k after marked b g.second f t
    went_too = met_second f t right

    pub pair_falls : (length l - s.cursor.at) + s.cursor.deep < (length l - a.cursor.at) + a.cursor.deep
    pair_falls = went.falls

    module _ (v : Ordering) (by : Within l e → Within k f → v ≡ by_event (event_in l e) (event_in k f)) where
      decides : Some (or_else v (first_difference went.rest went_too.rest)) ≡ answer
      unfolding first_difference
      decides =
          ap (λ (x : Ordering). Some (or_else x (first_difference went.rest went_too.rest))) (by went.within went_too.within)
          ∙ decided (event_in l e ∷ went.rest) (event_in k f ∷ went_too.rest) went.is went_too.is

      pub pair_equal : is_ne v ≡ false → Going l k later after noted marked s t answer
      pair_equal w = record {
        first = went.rest;
        second = went_too.rest;
        left = went.then;
        right = went_too.then;
        will = go v w decides;
      }
        where
          go : (u : Ordering) → is_ne u ≡ false → Some (or_else u (first_difference went.rest went_too.rest)) ≡ answer → Some (first_difference went.rest went_too.rest) ≡ answer
          go Less i x = absurd (never (sym i))
          go Equal i x = x
          go Greater i x = absurd (never (sym i))

      pub pair_parts : is_ne v ≡ true → Some v ≡ answer
      pair_parts w = go v w decides
        where
          go : (u : Ordering) → is_ne u ≡ true → Some (or_else u (first_difference went.rest went_too.rest)) ≡ answer → Some u ≡ answer
          go Less i x = x
          go Equal i x = absurd (never i)
          go Greater i x = x

  -- one of them has ended, or both have
  pub second_ends : (e : told.Event) (s : Side) → m ≡ Some (e, s) → n ≡ None → Some Greater ≡ answer
  unfolding first_difference
  second_ends e s w v = let i = met_first e s w in decided (event_in l e ∷ i.rest) [] i.is (ended_second v)

  pub first_ends : (f : told.Event) (t : Side) → m ≡ None → n ≡ Some (f, t) → Some Less ≡ answer
  unfolding first_difference
  first_ends f t w v = let j = met_second f t v in decided [] (event_in k f ∷ j.rest) (ended_first w) j.is

  pub both_end : m ≡ None → n ≡ None → Some Equal ≡ answer
  unfolding first_difference
  both_end w v = decided [] [] (ended_first w) (ended_second v)

-- what std's `fill` leaves
pub all_zero : (n : ℕ) (xs : List ℕ) → xs ≡ replicate n 0 → (x : ℕ) → get_or xs x 0 ≡ 0
all_zero n xs e x = rw e (elim (dec_lt x n) [ yes h ↦ get_or-replicate n x 0 0 h | no h ↦ get_or-eq_default (replicate n 0) 0 {n = x} (let l : length (replicate {A = ℕ} n 0) ≡ n = length-replicate n 0 in omega arith) ])
