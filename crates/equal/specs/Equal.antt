-- When two trees are equal, and when two results are.
use Rattle.std.specs.Prelude.{ℕ, ◌≡◌, Bool, ◌&&◌, List, ◌++◌, length}
use Rattle.tree.specs.Tree.{Node, Items, wide_bytes, encode, encode_piece}
use Rattle.tree.specs.Tree.Piece.{list}
use Rattle.lowering.specs.Parts.{same_numbers}
use Rattle.lowering.specs.Collect.{Entry, over}
use Rattle.equal.specs.Canonical.{Written, canonical, canonical_written}
use Rattle.equal.specs.Unspelled.{unspelled}

-- ---- equal trees: the bytes of their canonical forms are the same. So every spelling counts, with a form or without

unfoldable pub Equal : Node → Node → Type 0
Equal m n = encode (canonical m) ≡ encode (canonical n)

-- the test
unfoldable pub is_equal : Node → Node → Bool
is_equal m n = same_numbers (encode (canonical m)) (encode (canonical n))

-- ---- equal results: tree and list, with the temporaries numbered through both

-- the bytes of a list: a count of entries, each a mark and a declarator list, then the declarator list of excluded keys
unfoldable pub entry_encoded : Entry → List ℕ
entry_encoded e = wide_bytes e.containing ++ encode_piece (list e.declarators)

unfoldable pub list_encoded : List Entry → Items → List ℕ
list_encoded es excluded = wide_bytes (length es) ++ over entry_encoded es ++ encode_piece (list excluded)

pub record EqualWritten (v w : Written) : Type 0 where
  pub trees : encode (canonical_written v).tree ≡ encode (canonical_written w).tree
  pub lists :
      list_encoded (canonical_written v).entries (canonical_written v).excluded
      ≡ list_encoded (canonical_written w).entries (canonical_written w).excluded

-- the test
unfoldable pub is_equal_written : Written → Written → Bool
is_equal_written v w =
    same_numbers (encode (canonical_written v).tree) (encode (canonical_written w).tree)
    && same_numbers
    (list_encoded (canonical_written v).entries (canonical_written v).excluded)
    (list_encoded (canonical_written w).entries (canonical_written w).excluded)

-- ---- equal as before: a Literal's spelling was disregarded where its form stands (document 01)

unfoldable pub EqualBefore : Node → Node → Type 0
EqualBefore m n = encode (unspelled (canonical m)) ≡ encode (unspelled (canonical n))

-- the test
unfoldable pub is_equal_before : Node → Node → Bool
is_equal_before m n = same_numbers (encode (unspelled (canonical m))) (encode (unspelled (canonical n)))
