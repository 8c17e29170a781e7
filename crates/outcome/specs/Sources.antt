-- Where the rest of each object of a walked target is read from (request 6): the rest of the top from the temporary of the assignment's value,
-- and that of each other object from the value's temporary of its own assignment, into which the temporary in that object's place goes.
use Rattle.std.specs.Prelude.{ℕ, ◌<◌, ◌≡◌, true}
use Rattle.tree.specs.Tree.{Node}
use Rattle.lowering.specs.Parts.{is, items_at_of}
use Rattle.lowering.specs.Made.{Context, assign, value_of}
use Rattle.lowering.specs.Patterns.{shape, properties, items_of, left_of, value, rest}
use Rattle.lowering.specs.Patterns.Shape.{object_pattern, array_pattern, default}
use Rattle.lowering.specs.Rests.{rest_value}
use Rattle.lowering.specs.Assignments.{target, assigned, is_top, from_reference, top_sequence}
use Rattle.lowering.specs.Walk.{rewrite}
use Rattle.lowering.specs.Visits.{ItemAt, PartAt, Visits}

-- q is an object with rest of the target p: p itself, or one that is come to through properties, items and the left of defaults, however deep
pub data ObjectOf : Node → Node → Type 0 where
  itself : {p : Node} → is_top p ≡ true → ObjectOf p p
  in_value : {p m q : Node} {j : ℕ} → shape p ≡ object_pattern → ItemAt (properties p) j m → ObjectOf (value m) q → ObjectOf p q
  in_item_of : {p m q : Node} {j : ℕ} → shape p ≡ array_pattern → ItemAt (items_of p) j m → ObjectOf m q → ObjectOf p q
  in_left_of : {p q : Node} → shape p ≡ default → ObjectOf (left_of p) q → ObjectOf p q

-- the walk of n at c comes to an assignment `from` at the context `outer`. Its rewriting puts `reference outer q` in the place of q and leaves
-- the assignment of q from there beside it; the walk comes to that, and takes q apart
pub record Apart (c : Context) (n q : Node) : Type 0 where
  pub outer : Context
  pub from : Node
  pub place : ℕ
  pub met : Visits c n outer from
  pub left : PartAt (rewrite outer from).result 0 place (from_reference outer q)
  pub own : Context
  pub comes : Visits c n own (from_reference outer q)
  pub taken : (rewrite own (from_reference outer q)).result ≡ top_sequence own (from_reference outer q)

pub data Sourced (c : Context) (n q : Node) : Type 0 where
  of_value : target n ≡ q → (rewrite c n).result ≡ top_sequence c n → Sourced c n q
  of_place : Apart c n q → Sourced c n q
  refused : {d : Context} {x : Node} → Visits c n d x → 0 < (rewrite d x).note.refusal → Sourced c n q

-- so it is of each object of each assignment
abbrev pub EachItsOwn : Type 0
EachItsOwn = (c : Context) (n q : Node) → is 27 n ≡ true → ObjectOf (target n) q → Sourced c n q

-- what taking apart is: what is assigned goes into the value's temporary, and the rest is read from there
abbrev pub ReadFromValue : Type 0
ReadFromValue = (d : Context) (m : Node)
    → ItemAt (items_at_of 0 (top_sequence d m)) 0 (assign (value_of d (target m)) (assigned m))
    × (j : ℕ) × ItemAt (items_at_of 0 (top_sequence d m)) j (assign (rest (target m)) (rest_value d (target m) (value_of d (target m))))
