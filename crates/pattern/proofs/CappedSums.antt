-- Counts that stop at 65536, and sums over the items of a list as a loop makes them.
-- Assumes nothing.
use mathlib.Core.Path.{◌≡◌, refl, sym, ap, ap₂, subst, ◌∙◌}
use mathlib.Core.Bool.{Bool, true, false, cond, ◌&&◌}
use mathlib.Core.List.{List}
use Prim.Native.Nat.{ℕ, zero, suc, ◌+◌, ◌-◌, ◌<◌, ◌≤◌}
use native.Mathlib.Omega.{arith}
use lib.Dec.{eqb}
use Rattle.tree.specs.Tree.{Node, Items}
use Rattle.tree.specs.Tree.Node.{node}
use Rattle.tree.specs.Tree.Fields.{done}
use Rattle.tree.specs.Tree.Items.{none, hole, item}
use Rattle.tree.specs.Read.{byte_at}
use Rattle.tree.specs.Look.{seen, seen_as, onward, look_item, look_items, look_node}
use Rattle.lowering.specs.Parts.{gather, or_else, first, ◌+++◌}
use Rattle.pattern.specs.declared.parts.Place.{Place}
use Rattle.pattern.specs.Parts.{item_place, node_here}
use Rattle.std.specs.Prelude.{Option, Some, None}
use Rattle.std.specs.Option.{option_or}
use Rattle.pattern.specs.declared.tally.Refusal.{Refusal}
use Rattle.pattern.specs.declared.tally.Refusal.TheVariants.{NoForm, OtherForm}
use Rattle.pattern.specs.declared.tally.Tally.{Tally}
use Rattle.pattern.specs.Refusals.{refusal_number}
use Rattle.pattern.specs.Tally as tally
use Rattle.pattern.specs.Tally.{Totals, tally_values, limited, both, sum}

-- before the first turn of a loop all n are left
pub at_start : (P : ℕ → Type 0) (n : ℕ) → P n → P (n - 0)
at_start P n p = let s : n ≡ n - 0 = omega arith in subst P s p

-- ---- counts

module _ (a b : ℕ) where
  pub plus_limited : limited (limited a + b) ≡ limited (a + b)
  unfolding limited
  plus_limited = omega arith

  pub plus_right : limited (a + limited b) ≡ limited (a + b)
  unfolding limited
  plus_right = omega arith

pub plus_both : (a b : ℕ) → limited (limited a + limited b) ≡ limited (a + b)
plus_both a b = plus_limited a (limited b) ∙ plus_right a b

pub plus_assoc : (a b c : ℕ) → limited (limited (a + b) + c) ≡ limited (a + limited (b + c))
plus_assoc a b c =
    let s : a + b + c ≡ a + (b + c) = omega arith in
    plus_limited (a + b) c ∙ ap limited s ∙ sym (plus_right a (b + c))

pub plus_left : (a b : ℕ) → limited (0 + limited (a + b)) ≡ limited (a + b)
unfolding limited
plus_left a b = omega arith

pub plus_end : (a b : ℕ) → limited (limited (a + b) + 0) ≡ limited (a + b)
unfolding limited
plus_end a b = omega arith

pub plus_none : limited (0 + 0) ≡ 0
unfolding limited
plus_none = omega arith

-- the first of two refusals
pub or_refusal : (a b : Option Refusal) → refusal_number (option_or a b) ≡ or_else (refusal_number a) (refusal_number b)
unfolding or_else
or_refusal None b = refl
or_refusal (Some NoForm) b = refl
or_refusal (Some OtherForm) b = refl

pub or_assoc : (a b c : ℕ) → or_else (or_else a b) c ≡ or_else a (or_else b c)
unfolding or_else
or_assoc zero b c = refl
or_assoc (suc a) b c = refl

pub or_left : (a b : ℕ) → or_else 0 (or_else a b) ≡ or_else a b
unfolding or_else
or_left a b = refl

pub or_end : (a b : ℕ) → or_else (or_else a b) 0 ≡ or_else a b
unfolding or_else
or_end zero zero = refl
or_end zero (suc b) = refl
or_end (suc a) b = refl

pub or_none_lem : or_else 0 0 ≡ 0
unfolding or_else
or_none_lem = refl

-- ---- what can be added up

pub record Adding (A : Type 0) : Type 0 where
  pub empty : A
  pub add : A → A → A
  pub assoc : (a b c : A) → add (add a b) c ≡ add a (add b c)
  pub left : (a b : A) → add empty (add a b) ≡ add a b
  pub right : (a b : A) → add (add a b) empty ≡ add a b
  pub flat : add empty empty ≡ empty

abbrev pub refusals : Adding ℕ
refusals = record { empty = 0; add = or_else; assoc = or_assoc; left = or_left; right = or_end; flat = or_none_lem }

abbrev pub numbers : Adding ℕ
numbers = record { empty = 0; add = λ a b. limited (a + b); assoc = plus_assoc; left = plus_left; right = plus_end; flat = plus_none }

pub both_assoc : (a b c : Totals) → both (both a b) c ≡ both a (both b c)
unfolding both
both_assoc a b c = λ j. record {
  excluded = plus_assoc a.excluded b.excluded c.excluded j;
  temporaries = plus_assoc a.temporaries b.temporaries c.temporaries j;
  computed = plus_assoc a.computed b.computed c.computed j;
  refusal = or_assoc a.refusal b.refusal c.refusal j;
  objects = plus_assoc a.objects b.objects c.objects j;
  patterns = plus_assoc a.patterns b.patterns c.patterns j;
}

pub both_left : (a b : Totals) → both tally.no_tally (both a b) ≡ both a b
unfolding both
both_left a b = λ j. record {
  excluded = plus_left a.excluded b.excluded j;
  temporaries = plus_left a.temporaries b.temporaries j;
  computed = plus_left a.computed b.computed j;
  refusal = or_left a.refusal b.refusal j;
  objects = plus_left a.objects b.objects j;
  patterns = plus_left a.patterns b.patterns j;
}

pub both_right : (a b : Totals) → both (both a b) tally.no_tally ≡ both a b
unfolding both
both_right a b = λ j. record {
  excluded = plus_end a.excluded b.excluded j;
  temporaries = plus_end a.temporaries b.temporaries j;
  computed = plus_end a.computed b.computed j;
  refusal = or_end a.refusal b.refusal j;
  objects = plus_end a.objects b.objects j;
  patterns = plus_end a.patterns b.patterns j;
}

pub both_none : both tally.no_tally tally.no_tally ≡ tally.no_tally
unfolding both
both_none = λ j. record {
  excluded = plus_none j;
  temporaries = plus_none j;
  computed = plus_none j;
  refusal = or_none_lem j;
  objects = plus_none j;
  patterns = plus_none j;
}

abbrev pub tallies : Adding Totals
tallies = record { empty = tally.no_tally; add = both; assoc = both_assoc; left = both_left; right = both_right; flat = both_none }

-- the counts of the default
pub tally_empty : (t : Tally) → (t.excluded ≡ 0) × ((t.temporaries ≡ 0) × ((t.computed ≡ 0) × ((t.refusal ≡ None) × ((t.objects ≡ 0) × (t.patterns ≡ 0))))) → tally_values t ≡ tally.no_tally
tally_empty t e = λ j. record {
  excluded = e.0 j;
  temporaries = e.1.0 j;
  computed = e.1.1.0 j;
  refusal = refusal_number (e.1.1.1.0 j);
  objects = e.1.1.1.1.0 j;
  patterns = e.1.1.1.1.1 j;
}

pub both_made : (a b r : Totals) → r.excluded ≡ limited (a.excluded + b.excluded) → r.temporaries ≡ limited (a.temporaries + b.temporaries) → r.computed ≡ limited (a.computed + b.computed) → r.refusal ≡ or_else a.refusal b.refusal → r.objects ≡ limited (a.objects + b.objects) → r.patterns ≡ limited (a.patterns + b.patterns) → r ≡ both a b
unfolding both
both_made a b r e f g h i k = λ j. record { excluded = e j; temporaries = f j; computed = g j; refusal = h j; objects = i j; patterns = k j }

-- ---- sums

module _ {A : Type 0} (M : Adding A) where
  abbrev pub sum_of : (Node → A) → Items → A
  sum_of f is = sum M.empty M.add f is

  pub sum_left : (f : Node → A) (is : Items) → M.add M.empty (sum_of f is) ≡ sum_of f is
  unfolding sum
  sum_left f none = M.flat
  sum_left f (hole is) = sum_left f is
  sum_left f (item n is) = M.left (f n) (sum_of f is)

  pub sum_append : (f : Node → A) (is js : Items) → sum_of f (is +++ js) ≡ M.add (sum_of f is) (sum_of f js)
  unfolding sum ◌+++◌
  sum_append f none js = sym (sum_left f js)
  sum_append f (hole is) js = sum_append f is js
  sum_append f (item n is) js = ap (M.add (f n)) (sum_append f is js) ∙ sym (M.assoc (f n) (sum_of f is) (sum_of f js))

  -- over the lists that f gives
  pub sum_gather : (g : Node → A) (f : Node → Items) (is : Items) → sum_of g (gather f is) ≡ sum_of (λ n. sum_of g (f n)) is
  unfolding sum gather
  sum_gather g f none = refl
  sum_gather g f (hole is) = sum_gather g f is
  sum_gather g f (item n is) = sum_append g (f n) (gather f is) ∙ ap (M.add (sum_of g (f n))) (sum_gather g f is)

  -- ---- as a loop makes them: t has what went before

  -- what is left, added to t, gives the whole; and t has stopped where it should
  abbrev pub Adds : A → A → A → Type 0
  Adds t rest whole = (M.add t rest ≡ whole) × (M.add t M.empty ≡ t)

  module _ (l : List ℕ) (f : Node → A) where
    -- what an item adds, by its place in a list
    abbrev pub item_sum : Bool → ℕ → ℕ → A
    item_sum h d at = cond (h && eqb (byte_at l at) 0) M.empty (f (look_node l d at).value)

    abbrev pub list_sum : ℕ → Bool → ℕ → ℕ → A
    list_sum d h n at = sum_of f (look_items l (look_node l d) h n at).value

    item_sum_lem : (d : ℕ) (h : Bool) (at : ℕ) (is : Items) → sum_of f ((look_item l (look_node l d) h at).value is) ≡ M.add (item_sum h d at) (sum_of f is)
    unfolding look_item sum
    item_sum_lem d true at is = go (eqb (byte_at l at) 0)
      where
        go : (b : Bool) → sum_of f ((cond b (seen hole (onward l at 1)) (seen_as (λ n is. item n is) (look_node l d at))).value is) ≡ M.add (cond b M.empty (f (look_node l d at).value)) (sum_of f is)
        go true = sym (sum_left f is)
        go false = refl
    item_sum_lem d false at is = refl

    sum_split : (d : ℕ) (h : Bool) (n at : ℕ) → list_sum d h (suc n) at ≡ M.add (item_sum h d at) (list_sum d h n (look_item l (look_node l d) h at).next)
    unfolding look_items
    sum_split d h n at = item_sum_lem d h at (look_items l (look_node l d) h n (look_item l (look_node l d) h at).next).value

    pub sum_start : (d : ℕ) (h : Bool) (n at : ℕ) (t w : A) → t ≡ M.empty → list_sum d h n at ≡ w → Adds t (list_sum d h n at) w
    sum_start d h n at t w e s = (ap (λ (x : A). M.add x (list_sum d h n at)) e ∙ sum_left f _ ∙ s, rw e M.flat)

    pub sum_more : (d : ℕ) (h : Bool) (n at q : ℕ) (t x u w : A) → 0 < n → x ≡ item_sum h d at → q ≡ (look_item l (look_node l d) h at).next → u ≡ M.add t x → Adds t (list_sum d h n at) w → Adds u (list_sum d h (n - 1) q) w
    sum_more d h zero at q t x u w z e g v a = absurd (omega arith)
    sum_more d h (suc n) at q t x u w z e g v a =
        let s : suc n - 1 ≡ n = omega arith in (
          ap (λ (y : A). M.add y (list_sum d h (suc n - 1) q)) v ∙ M.assoc t x (list_sum d h (suc n - 1) q)
              ∙ ap (M.add t) (ap₂ (λ (y : A) (m : ℕ). M.add y (list_sum d h m q)) e s ∙ ap (λ (p : ℕ). M.add (item_sum h d at) (list_sum d h n p)) g ∙ sym (sum_split d h n at))
              ∙ a.0,
          ap (λ (y : A). M.add y M.empty) v ∙ M.right t x ∙ sym v,
        )

    pub sum_end : (d : ℕ) (h : Bool) (n at : ℕ) (t w : A) → n ≤ 0 → Adds t (list_sum d h n at) w → t ≡ w
    unfolding look_items sum
    sum_end d h zero at t w z a = sym a.1 ∙ a.0
    sum_end d h (suc n) at t w z a = absurd (omega arith)

    -- the same by the turns i of n that were made
    pub sum_turn : (d : ℕ) (h : Bool) (n i at q : ℕ) (t x u w : A) → i < n → x ≡ item_sum h d at → q ≡ (look_item l (look_node l d) h at).next → u ≡ M.add t x → Adds t (list_sum d h (n - i) at) w → Adds u (list_sum d h (n - (i + 1)) q) w
    sum_turn d h n i at q t x u w z e g v a =
        let s : n - i - 1 ≡ n - (i + 1) = omega arith in
        subst (λ (m : ℕ). Adds u (list_sum d h m q) w) s (sum_more d h (n - i) at q t x u w (omega arith) e g v a)

    pub sum_done : (d : ℕ) (h : Bool) (n i at : ℕ) (t w : A) → n ≤ i → Adds t (list_sum d h (n - i) at) w → t ≡ w
    sum_done d h n i at t w z a = sum_end d h (n - i) at t w (omega arith) a

    -- an item at its place, where f finds nothing in an empty node
    pub item_place_lem : (blank : (at : ℕ) → f (node at 0 done) ≡ M.empty) (d : ℕ) (h : Bool) (at : ℕ) (s : Place) (x : A) → s ≡ item_place l h d at → x ≡ f (node_here l s) → x ≡ item_sum h d at
    unfolding item_place look_node
    item_place_lem blank d h at s x e a = a ∙ ap (λ (y : Place). f (node_here l y)) e ∙ go (h && eqb (byte_at l at) 0)
      where
        go : (b : Bool) → f (look_node l (cond b 0 d) at).value ≡ cond b M.empty (f (look_node l d at).value)
        go true = blank at
        go false = refl

-- the first refusal of a list is a sum
pub first_sum : (f : Node → ℕ) (is : Items) → sum_of refusals f is ≡ first f is
unfolding sum first
first_sum f none = refl
first_sum f (hole is) = first_sum f is
first_sum f (item n is) = ap (or_else (f n)) (first_sum f is)
