-- Why something is left in a result: the shapes of an input, one for each exception. Without them nothing at all is left.
use Rattle.std.specs.Prelude.{ℕ, ◌≡◌, Bool, true, false, not, ◌&&◌, ◌||◌, List}
use Rattle.tree.specs.Tree.{Node}
use Rattle.lowering.specs.Parts.{is, stands, node_at_of, items_at_of, any}
use Rattle.lowering.specs.Patterns.{properties, key, has_object_rest}
use Rattle.lowering.specs.Keys.{Key, key_sort}
use Rattle.lowering.specs.Visits.{PartAt, Stands}
use Rattle.lowering.specs.Collect.{nodes}
use Rattle.result.specs.Left.{keeps_rest, keeps, any_of, Section, Exception}

pub data Cause : Type 0 where
  -- an object rest in a rest parameter
  rest_parameter : Cause
  -- one in a parameter of a Function without body
  without_body : Cause
  -- one below an array rest
  array_rest : Cause
  -- one in a declarator without a value
  without_value : Cause
  -- a rest or a spread in a key beside an object rest, one that goes out to a temporary
  in_key : Cause
  -- one in such a key that is a Template of one quasi
  in_template : Cause

-- a declarator without a value, with an object rest
unfoldable pub lacks_value : Node → Bool
lacks_value d = not (stands 1 d) && has_object_rest (node_at_of 0 d)

abbrev pub is_other : Key → Bool
is_other Key.name = false
is_other Key.literal = false
is_other Key.template = false
is_other Key.private = false
is_other Key.again = false
is_other Key.other = true

abbrev pub is_template : Key → Bool
is_template Key.name = false
is_template Key.literal = false
is_template Key.template = true
is_template Key.private = false
is_template Key.again = false
is_template Key.other = false

-- a key of that sort with a rest or a spread in it
unfoldable pub holds_kept : (Key → Bool) → Node → Bool
holds_kept sort k = sort (key_sort k) && any_of keeps (nodes k)

-- the node has the shape. A Declaration at the head of 7 or 8 counts too
unfoldable pub shows : Cause → Node → Bool
shows Cause.rest_parameter n = (is 14 n && has_object_rest (node_at_of 4 n)) || (is 17 n && has_object_rest (node_at_of 1 n))
shows Cause.without_body n = is 14 n && (not (stands 5 n) && any (λ q. has_object_rest (node_at_of 0 q)) (items_at_of 3 n))
shows Cause.array_rest n = is 36 n && has_object_rest (node_at_of 1 n)
shows Cause.without_value n = is 4 n && any lacks_value (items_at_of 2 n)
shows Cause.in_key n = keeps_rest n && any (λ q. holds_kept is_other (key q)) (properties n)
shows Cause.in_template n = keeps_rest n && any (λ q. holds_kept is_template (key q)) (properties n)

-- x stands in n
pub data Within : Node → Node → Type 0 where
  here : {n : Node} → Within n n
  deeper : {n x y : Node} {i j : ℕ} → PartAt n i j x → Within x y → Within n y

-- no node in n has it
abbrev pub Without : Cause → Node → Type 0
Without s n = (x : Node) → Within n x → shows s x ≡ false

-- a node in n has it
pub data Occurs (s : Cause) (n : Node) : Type 0 where
  occurs : {x : Node} → Within n x → shows s x ≡ true → Occurs s n

-- the cause of an exception
abbrev pub cause_of : {a : List ℕ} {h : Node} {c : List ℕ} {x : Node} {section : Section} → Exception a h c x section → Cause
cause_of (Exception.below_array_rest e s p b) = Cause.array_rest
cause_of (Exception.rest_parameter e p b) = Cause.rest_parameter
cause_of (Exception.without_body e s q p b) = Cause.without_body
cause_of (Exception.without_value e s p b) = Cause.without_value
cause_of (Exception.in_key e p s) = Cause.in_key
cause_of (Exception.in_template e p q z s) = Cause.in_template

-- x, at the path c, is an exception in t, which stands at the path p and belongs to the section of a result of n, and its cause occurs in n
pub data Caused (n : Node) (section : Section) (p : List ℕ) (t : Node) (c : List ℕ) (x : Node) : Type 0 where
  caused : {q : List ℕ} {h : Node} → Stands p t q h → (e : Exception q h c x section) → Occurs (cause_of e) n → Caused n section p t c x
