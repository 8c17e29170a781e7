-- Where a Literal of a result comes from: it is a node of the input, its spelling included, or a key string that the lowering made.
use Rattle.std.specs.Prelude.{◌≡◌, true, List, ◌++◌}
use Rattle.tree.specs.Tree.{Node}
use Rattle.lowering.specs.Parts.{is, text_at_of}
use Rattle.lowering.specs.Made.{string}
use Rattle.lowering.specs.Keys.{literal_text}
use Rattle.lowering.specs.Collect.{nodes, list_nodes}
use Rattle.lowering.proofs.Appearance.{In}
use Rattle.equal.specs.Canonical.{Written}

-- a string made of a key has the key's name, or the text of a Literal (Keys), as its form, and an empty spelling (Made)
pub data Origin (input : Node) : Node → Type 0 where
  found : {m : Node} → In m (nodes input) → Origin input m
  of_name : {k : Node} → In k (nodes input) → is 38 k ≡ true → Origin input (string (text_at_of 0 k))
  of_literal : {k : Node} → In k (nodes input) → is 22 k ≡ true → Origin input (string (literal_text k))

-- all nodes of a result, tree and list
unfoldable pub nodes_written : Written → List Node
nodes_written w = nodes w.tree ++ list_nodes w.entries w.excluded
