-- The value of an object rest (document 01, 'The rewriting', Rest; SpreadPair::get_lhs_rhs).
use Rattle.std.specs.Prelude.{Bool, cond, not, ◌&&◌, [], ◌∷◌}
use Rattle.tree.specs.Tree.{Node, Items}
use Rattle.tree.specs.Tree.Items.{none, item}
use Rattle.lowering.specs.Parts.{only, is_empty, each, ◌+++◌}
use Rattle.lowering.specs.Made.{Context, call, X, E, W, K, object, array, sequence, member, declares, id_of, excluded_of}
use Rattle.lowering.specs.Patterns.{properties}
use Rattle.lowering.specs.Keys.{excluded_keys, key_temporaries, all_primitive}

-- (has_no_properties)
abbrev pub has_no_properties : Node → Bool
has_no_properties p = is_empty (properties p)

-- `keys.map(K)`
unfoldable pub mapped : Node → Node
mapped keys = call (member keys (109 ∷ 97 ∷ 112 ∷ [])) (only K)

module _ (c : Context) where
  -- whether the keys go out to a temporary of the list: all are primitive and the scope is not the root
  unfoldable pub is_hoisted : Node → Bool
  is_hoisted p = not c.root && (not (has_no_properties p) && all_primitive p)

  -- the keys as W reads them
  unfoldable pub keys_read : Node → Node
  keys_read p =
      cond (is_hoisted p) (excluded_of c p) (cond (all_primitive p) (array (excluded_keys c p)) (mapped (array (excluded_keys c p))))

  -- the value of p's rest, read from s
  unfoldable pub rest_value : Node → Node → Node
  rest_value p s =
      cond (has_no_properties p) (X (object none) (sequence (item (E s) (only s)))) (W s (keys_read p))

  -- what it adds to the list of excluded keys
  unfoldable pub excluded_for : Node → Items
  excluded_for p = cond (is_hoisted p) (only (declares (excluded_of c p) (array (excluded_keys c p)))) none

  -- the temporaries that are made for it: for keys, and for the excluded ones
  unfoldable pub rest_makes : Node → Items
  rest_makes p = each id_of (key_temporaries c p) +++ each id_of (excluded_for p)
