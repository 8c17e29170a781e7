-- The marks of a result, of its tree and of its list. They are distinct, unless the input has a key with a mark inside that is copied.
use Rattle.std.specs.Prelude.{ℕ, Bool, true, false, ◌&&◌, List, [], ◌∷◌, eqb}
use Rattle.tree.specs.Tree.{Node, count, marks}
use Rattle.lowering.specs.Parts.{is, items_at_of, any}
use Rattle.lowering.specs.Patterns.{properties, key}
use Rattle.lowering.specs.Collect.{nodes}
use Rattle.equal.specs.Canonical.{Written}
use Rattle.joining.specs.List.{handed}
use Rattle.joining.specs.Join.{found}
use Rattle.joining.specs.Answer.{taken, all_found_of}
use Rattle.result.specs.Left.{keeps_rest, any_of}

-- ---- the test on the input

abbrev pub has_any : List ℕ → Bool
has_any [] = false
has_any (m ∷ ms) = true

-- a Template of one quasi with a mark inside: 23 Template(quasis* exprs*?)
unfoldable pub holds_mark : Node → Bool
holds_mark k = is 23 k && (eqb (count (items_at_of 0 k)) 1 && has_any (marks k))

-- an object pattern with a rest and such a key, which stands among the keys that the rest leaves out too
unfoldable pub copies_at : Node → Bool
copies_at p = keeps_rest p && any (λ q. holds_mark (key q)) (properties p)

-- there is one in the tree
unfoldable pub copies_marks : Node → Bool
copies_marks n = any_of copies_at (nodes n)

-- ---- the marks of a result

-- tree and list
unfoldable pub result_marks : Written → List ℕ
result_marks w = taken w.tree (handed w.entries w.excluded)

-- each entry has the mark of a statement that stands in a container of the tree
unfoldable pub entries_found : Written → Bool
entries_found w = all_found_of (found w.tree) w.entries
