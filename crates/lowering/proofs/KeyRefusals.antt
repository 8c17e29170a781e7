-- Keys are refused by 6 or by 11 and by nothing else, alone and as the first of several.
-- Assumes nothing.
use mathlib.Core.Path.{◌≡◌, refl}
use mathlib.Core.Bool.{Bool, true, false, cond, not, ◌&&◌}
use mathlib.Core.List.{List}
use mathlib.Core.Option.{Option, none, some}
use Prim.Native.Nat.{ℕ}
use Rattle.tree.specs.Tree.{Node, Items}
use Rattle.lowering.specs.Parts.{is, items_at_of, text_at_of, stands, same_numbers, or_else, first}
use Rattle.lowering.specs.Made.{Context}
use Rattle.lowering.specs.Patterns.{key, properties}
use Rattle.lowering.specs.Keys.{promised, literal_refusal, key_refusal, keys_refusal}
use Rattle.lowering.specs.Declarations.{lowered_in, declaration_refusal}
use Rattle.lowering.specs.Assignments.{target, top_refusal}

pub data ByKeys : ℕ → Type 0 where
  no : ByKeys 0
  six : ByKeys 6
  eleven : ByKeys 11

-- by the number, which is told
pub by_keys : {A : Type 0} (r : ℕ) → ByKeys r → (r ≡ 0 → A) → (r ≡ 6 → A) → (r ≡ 11 → A) → A
by_keys r no a b c = a refl
by_keys r six a b c = b refl
by_keys r eleven a b c = c refl

or_by : (m n : ℕ) → ByKeys m → ByKeys n → ByKeys (or_else m n)
unfolding or_else
or_by m n no h = h
or_by m n six h = six
or_by m n eleven h = eleven

pub first_by : (f : Node → ℕ) → ((n : Node) → ByKeys (f n)) → (is : Items) → ByKeys (first f is)
unfolding first
first_by f h Items.none = no
first_by f h (Items.hole is) = first_by f h is
first_by f h (Items.item n is) = or_by (f n) (first f is) (h n) (first_by f h is)

literal_by_lem : (k : Node) → ByKeys (literal_refusal k)
unfolding literal_refusal
literal_by_lem k = go (promised k)
  where
    differs : (b : Bool) → ByKeys (cond b 11 0)
    differs true = eleven
    differs false = no

    lacks : (b : Bool) → ByKeys (cond b 0 6)
    lacks true = no
    lacks false = six

    go : (o : Option (List ℕ)) → ByKeys (elim o [
      | some s ↦ cond (stands 2 k && not (same_numbers (text_at_of 2 k) s)) 11 0
      | none ↦ cond (stands 2 k) 0 6
    ])
    go (some s) = differs (stands 2 k && not (same_numbers (text_at_of 2 k) s))
    go none = lacks (stands 2 k)

pub key_by_lem : (k : Node) → ByKeys (key_refusal k)
unfolding key_refusal
key_by_lem k = go (is 22 k)
  where
    go : (b : Bool) → ByKeys (cond b (literal_refusal k) 0)
    go true = literal_by_lem k
    go false = no

pub keys_by : (p : Node) → ByKeys (keys_refusal p)
unfolding keys_refusal
keys_by p = first_by (λ q. key_refusal (key q)) (λ q. key_by_lem (key q)) (properties p)

pub declaration_by : (c : Context) (n : Node) → ByKeys (declaration_refusal c n)
unfolding declaration_refusal
declaration_by c n = first_by (λ d. first (λ p. keys_refusal p) (lowered_in c d)) (λ d. first_by (λ p. keys_refusal p) keys_by (lowered_in c d)) (items_at_of 2 n)

pub top_by : (n : Node) → ByKeys (top_refusal n)
unfolding top_refusal
top_by n = keys_by (target n)
