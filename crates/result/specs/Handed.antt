-- The values that a list hands out: they are keys of the input, as they stand there.
use Rattle.std.specs.Prelude.{ℕ, ◌≡◌, Bool, true, ◌&&◌, List, [], ◌∷◌}
use Rattle.tree.specs.Tree.{Node, encode}
use Rattle.lowering.specs.Parts.{is, stands, node_at_of, same_numbers, any}
use Rattle.lowering.specs.Patterns.{properties, key}
use Rattle.lowering.specs.Visits.{ItemAt}
use Rattle.lowering.specs.Collect.{Entry, nodes}
use Rattle.result.specs.Left.{any_of}

-- v has the bytes of a key of the object pattern p
unfoldable pub has_key : Node → Node → Bool
has_key v p = is 34 p && any (λ q. same_numbers (encode (key q)) (encode v)) (properties p)

-- v has the bytes of a key of an object pattern in n
unfoldable pub is_key_of : Node → Node → Bool
is_key_of n v = any_of (has_key v) (nodes n)

-- each value of a declarator is one
abbrev pub KeysOf : Node → List Entry → Type 0
KeysOf n [] = Unit {0}
KeysOf n (e ∷ es) = ((j : ℕ) (d : Node) → ItemAt e.declarators j d → stands 1 d ≡ true → is_key_of n (node_at_of 1 d) ≡ true) × KeysOf n es
