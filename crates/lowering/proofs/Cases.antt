-- Case analysis that hands out the equation, and what tests say.
-- Assumes nothing.
use mathlib.Core.Path.{◌≡◌, refl, sym, ◌∙◌}
use mathlib.Core.Bool.{Bool, true, false, cond, ◌||◌, ◌&&◌, false≢true, true≢false}
use Prim.Native.Nat.{ℕ, zero, suc}
use native.Mathlib.Omega.{arith}
use lib.Dec.{eqb}
use Rattle.tree.specs.Tree.{Node, Piece, Items, count}
use Rattle.tree.specs.Tree.Node.{node}
use Rattle.lowering.specs.Parts.{is, kind, change, items_at_of, stands}
use Rattle.lowering.specs.Patterns.{Shape, shape}
use Rattle.lowering.specs.Patterns.Shape.{object_pattern, array_pattern, default, leaf}
use Rattle.lowering.specs.Keys.{Key, Entry, key_sort}
use Rattle.lowering.specs.Keys.Entry.{spelt, itself, omitted, saved}
use Rattle.lowering.specs.Keys.Key.{name, literal, template, private, again, other}
use Rattle.lowering.specs.Walk.{Rule, rule_of, Step, unchanged, rewritten}
use Rattle.lowering.specs.Walk.Rule.{literals, declarations, assignments, functions, arrows, catches, fors, nowhere}
use Rattle.lowering.specs.Heads.{as_function_body, as_block}
use borrow.Author.Tests.{eqb-true}
pub use borrow.Author.Tests.{not-true, not-false}
use Rattle.tree.specs.Tree.Items.{none}

pub by_test : {A : Type 0} (b : Bool) → (b ≡ true → A) → (b ≡ false → A) → A
by_test true f g = f refl
by_test false f g = g refl

pub by_number : {A : Type 0} (n : ℕ) → ((m : ℕ) → n ≡ suc m → A) → (n ≡ 0 → A) → A
by_number zero f g = g refl
by_number (suc m) f g = f m refl

pub by_shape : {A : Type 0} (s : Shape) → (s ≡ object_pattern → A) → (s ≡ array_pattern → A) → (s ≡ default → A) → (s ≡ leaf → A) → A
by_shape object_pattern f g h i = f refl
by_shape array_pattern f g h i = g refl
by_shape default f g h i = h refl
by_shape leaf f g h i = i refl

pub by_key : {A : Type 0} (s : Key) → (s ≡ name → A) → (s ≡ literal → A) → (s ≡ template → A) → (s ≡ private → A) → (s ≡ again → A) → (s ≡ other → A) → A
by_key name a b c d e f = a refl
by_key literal a b c d e f = b refl
by_key template a b c d e f = c refl
by_key private a b c d e f = d refl
by_key again a b c d e f = e refl
by_key other a b c d e f = f refl

pub by_entry : {A : Type 0} (s : Entry) → (s ≡ spelt → A) → (s ≡ itself → A) → (s ≡ omitted → A) → (s ≡ saved → A) → A
by_entry spelt a b c d = a refl
by_entry itself a b c d = b refl
by_entry omitted a b c d = c refl
by_entry saved a b c d = d refl

pub by_rule_lem : {A : Type 0} (r : Rule) → (r ≡ literals → A) → (r ≡ declarations → A) → (r ≡ assignments → A) → (r ≡ functions → A)
    → (r ≡ arrows → A) → (r ≡ catches → A) → (r ≡ fors → A) → (r ≡ nowhere → A) → A
by_rule_lem literals a b c d e f g h = a refl
by_rule_lem declarations a b c d e f g h = b refl
by_rule_lem assignments a b c d e f g h = c refl
by_rule_lem functions a b c d e f g h = d refl
by_rule_lem arrows a b c d e f g h = e refl
by_rule_lem catches a b c d e f g h = f refl
by_rule_lem fors a b c d e f g h = g refl
by_rule_lem nowhere a b c d e f g h = h refl

pub and_left : (a b : Bool) → a && b ≡ true → a ≡ true
and_left true b h = refl
and_left false b h = h

pub and_right : (a b : Bool) → a && b ≡ true → b ≡ true
and_right true b h = h
and_right false b h = absurd (false≢true h)

pub and_none : (a b : Bool) → b ≡ false → a && b ≡ false
and_none true b h = h
and_none false b h = refl

pub or_left : (a b : Bool) → a || b ≡ false → a ≡ false
or_left true b h = h
or_left false b h = refl

pub or_right : (a b : Bool) → a || b ≡ false → b ≡ false
or_right true b h = absurd (true≢false h)
or_right false b h = h

pub or_other : (a b : Bool) → a ≡ false → a || b ≡ true → b ≡ true
or_other true b h k = absurd (true≢false h)
or_other false b h k = k

pub or_first : (a b : Bool) → b ≡ false → a || b ≡ true → a ≡ true
or_first true b h k = refl
or_first false b h k = absurd (true≢false (sym k ∙ h))

-- the kind of a pattern, by its shape
pub is_kind : (k : ℕ) (n : Node) → is k n ≡ true → kind n ≡ k
unfolding is
is_kind k n e = eqb-true (kind n) k e

pub object_is : (p : Node) → shape p ≡ object_pattern → is 34 p ≡ true
unfolding shape is
object_is p e = go (eqb (kind p) 34) (eqb (kind p) 36) (eqb (kind p) 37) e
  where
    go : (a b c : Bool) → cond a object_pattern (cond b array_pattern (cond c default leaf)) ≡ object_pattern → a ≡ true
    go true b c e = refl
    go false true c e = let z : ◌≡◌ {A = ℕ} 0 1 = cc in absurd (omega arith)
    go false false true e = let z : ◌≡◌ {A = ℕ} 0 1 = cc in absurd (omega arith)
    go false false false e = let z : ◌≡◌ {A = ℕ} 0 1 = cc in absurd (omega arith)

pub array_is : (p : Node) → shape p ≡ array_pattern → is 36 p ≡ true
unfolding shape is
array_is p e = go (eqb (kind p) 34) (eqb (kind p) 36) (eqb (kind p) 37) e
  where
    go : (a b c : Bool) → cond a object_pattern (cond b array_pattern (cond c default leaf)) ≡ array_pattern → b ≡ true
    go true b c e = let z : ◌≡◌ {A = ℕ} 0 1 = cc in absurd (omega arith)
    go false true c e = refl
    go false false true e = let z : ◌≡◌ {A = ℕ} 0 1 = cc in absurd (omega arith)
    go false false false e = let z : ◌≡◌ {A = ℕ} 0 1 = cc in absurd (omega arith)

pub default_is : (p : Node) → shape p ≡ default → is 37 p ≡ true
unfolding shape is
default_is p e = go (eqb (kind p) 34) (eqb (kind p) 36) (eqb (kind p) 37) e
  where
    go : (a b c : Bool) → cond a object_pattern (cond b array_pattern (cond c default leaf)) ≡ default → c ≡ true
    go true b c e = let z : ◌≡◌ {A = ℕ} 0 1 = cc in absurd (omega arith)
    go false true c e = let z : ◌≡◌ {A = ℕ} 0 1 = cc in absurd (omega arith)
    go false false true e = refl
    go false false false e = let z : ◌≡◌ {A = ℕ} 0 1 = cc in absurd (omega arith)

pub literals_24 : (k : ℕ) → rule_of k ≡ literals → eqb k 24 ≡ true
unfolding rule_of
literals_24 k e = go (eqb k 24) (eqb k 4) (eqb k 27) (eqb k 14) (eqb k 17) (eqb k 10) (eqb k 7 || eqb k 8) e
  where
    go : (l d a f r c o : Bool) → cond l literals (cond d declarations (cond a assignments (cond f functions (cond r arrows (cond c catches (cond o fors nowhere)))))) ≡ literals → l ≡ true
    go true d a f r c o e = refl
    go false true a f r c o e = let z : ◌≡◌ {A = ℕ} 0 1 = cc in absurd (omega arith)
    go false false true f r c o e = let z : ◌≡◌ {A = ℕ} 0 1 = cc in absurd (omega arith)
    go false false false true r c o e = let z : ◌≡◌ {A = ℕ} 0 1 = cc in absurd (omega arith)
    go false false false false true c o e = let z : ◌≡◌ {A = ℕ} 0 1 = cc in absurd (omega arith)
    go false false false false false true o e = let z : ◌≡◌ {A = ℕ} 0 1 = cc in absurd (omega arith)
    go false false false false false false true e = let z : ◌≡◌ {A = ℕ} 0 1 = cc in absurd (omega arith)
    go false false false false false false false e = let z : ◌≡◌ {A = ℕ} 0 1 = cc in absurd (omega arith)

pub declarations_4 : (k : ℕ) → rule_of k ≡ declarations → eqb k 4 ≡ true
unfolding rule_of
declarations_4 k e = go (eqb k 24) (eqb k 4) (eqb k 27) (eqb k 14) (eqb k 17) (eqb k 10) (eqb k 7 || eqb k 8) e
  where
    go : (l d a f r c o : Bool) → cond l literals (cond d declarations (cond a assignments (cond f functions (cond r arrows (cond c catches (cond o fors nowhere)))))) ≡ declarations → d ≡ true
    go l true a f r c o e = refl
    go true false a f r c o e = let z : ◌≡◌ {A = ℕ} 0 1 = cc in absurd (omega arith)
    go false false true f r c o e = let z : ◌≡◌ {A = ℕ} 0 1 = cc in absurd (omega arith)
    go false false false true r c o e = let z : ◌≡◌ {A = ℕ} 0 1 = cc in absurd (omega arith)
    go false false false false true c o e = let z : ◌≡◌ {A = ℕ} 0 1 = cc in absurd (omega arith)
    go false false false false false true o e = let z : ◌≡◌ {A = ℕ} 0 1 = cc in absurd (omega arith)
    go false false false false false false true e = let z : ◌≡◌ {A = ℕ} 0 1 = cc in absurd (omega arith)
    go false false false false false false false e = let z : ◌≡◌ {A = ℕ} 0 1 = cc in absurd (omega arith)

pub function_body_is : (b : Node) → is 16 (as_function_body b) ≡ true
unfolding as_function_body is
function_body_is b = by_test (is 16 b) (λ e. rw e e) (λ e. rw e refl)

pub block_is : (b : Node) → is 2 (as_block b) ≡ true
unfolding as_block is
block_is b = by_test (is 2 b) (λ e. rw e e) (λ e. rw e refl)

pub is_changed : (i : ℕ) (f : Piece → Piece) (n : Node) (j : ℕ) → is j (change i f n) ≡ is j n
unfolding is change
is_changed i f (node at k fs) j = refl

pub shape_34 : (p : Node) → is 34 p ≡ true → shape p ≡ object_pattern
unfolding is shape
shape_34 p e = rw e refl

pub rule_4 : (n : Node) → is 4 n ≡ true → rule_of (kind n) ≡ declarations
unfolding is rule_of
rule_4 (node at k fs) e = rw (eqb-true k 4 e) refl

pub rule_27 : (n : Node) → is 27 n ≡ true → rule_of (kind n) ≡ assignments
unfolding is rule_of
rule_27 (node at k fs) e = rw (eqb-true k 27 e) refl

pub rule_14 : (n : Node) → is 14 n ≡ true → rule_of (kind n) ≡ functions
unfolding is rule_of
rule_14 (node at k fs) e = rw (eqb-true k 14 e) refl

pub rule_17 : (n : Node) → is 17 n ≡ true → rule_of (kind n) ≡ arrows
unfolding is rule_of
rule_17 (node at k fs) e = rw (eqb-true k 17 e) refl

pub rule_10 : (n : Node) → is 10 n ≡ true → rule_of (kind n) ≡ catches
unfolding is rule_of
rule_10 (node at k fs) e = rw (eqb-true k 10 e) refl

-- a step that makes nothing and leaves the node changes nothing
pub step_same : (m e : Items) (r n : Node) → m ≡ none → e ≡ none → r ≡ n
    → ◌≡◌ {A = Step} (record { note = record { refusal = 0; made = m; entry = none; excluded = e }; result = r }) (unchanged n)
step_same m e r n p q s = λ j. record { note = record { refusal = 0; made = (p) j; entry = none; excluded = (q) j }; result = (s) j }

pub rewritten_same : (m : Items) (r n : Node) → m ≡ none → r ≡ n → rewritten m r ≡ unchanged n
rewritten_same m r n p s = step_same m none r n p refl s

-- ---- keys

pub is_literal : (k : Node) → key_sort k ≡ literal → is 22 k ≡ true
unfolding key_sort
is_literal k e = go (is 38 k) (is 22 k) (is 23 k && eqb (count (items_at_of 0 k)) 1) (is 39 k) (is 20 k || (is 18 k && stands 1 k)) e
  where
    go : (a b c d f : Bool) → cond a name (cond b literal (cond c template (cond d private (cond f again other)))) ≡ literal → b ≡ true
    go true b c d f w = let z : ◌≡◌ {A = ℕ} 0 1 = cc in absurd (omega arith)
    go false true c d f w = refl
    go false false true d f w = let z : ◌≡◌ {A = ℕ} 0 1 = cc in absurd (omega arith)
    go false false false true f w = let z : ◌≡◌ {A = ℕ} 0 1 = cc in absurd (omega arith)
    go false false false false true w = let z : ◌≡◌ {A = ℕ} 0 1 = cc in absurd (omega arith)
    go false false false false false w = let z : ◌≡◌ {A = ℕ} 0 1 = cc in absurd (omega arith)
