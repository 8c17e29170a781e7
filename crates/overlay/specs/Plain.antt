-- The plain class of document 01, as tests of trees. The words in quotation marks are document 01's.
use Rattle.std.specs.Prelude.{ℕ, zero, suc, Bool, true, false, cond, ◌&&◌, ◌||◌, not, List, [], ◌∷◌, eqb, leb}
use Rattle.tree.specs.Tree.{Node, Fields, Piece, Items}
use Rattle.tree.specs.Tree.Node.{node}
use Rattle.tree.specs.Tree.Fields.{done, absent, field}
use Rattle.tree.specs.Tree.Piece.{one, list, text, byte, mark, number}
use Rattle.tree.specs.Tree.Items.{none, hole, item}
use Rattle.lowering.specs.Parts.{is, node_at_of, items_at_of, text_at_of}
use Rattle.overlay.specs.Objects.{same_text}
use Rattle.overlay.specs.Run.{flags, is_computed, is_written, makes}

-- ---- a test of every node of a tree

module _ (bad : Node → Bool) where
  abbrev mutual
    pub free : Node → Bool
    free (node at k fs) = not (bad (node at k fs)) && free_fields fs

    pub free_fields : Fields → Bool
    free_fields done = true
    free_fields (absent fs) = free_fields fs
    free_fields (field p fs) = free_piece p && free_fields fs

    pub free_piece : Piece → Bool
    free_piece (one n) = free n
    free_piece (list is) = free_items is
    free_piece (text bs) = true
    free_piece (byte b) = true
    free_piece (mark b) = true
    free_piece (number b) = true

    pub free_items : Items → Bool
    free_items none = true
    free_items (hole is) = free_items is
    free_items (item n is) = free n && free_items is

-- ---- "holds no object literal or pattern": no 24 and no 34 in it

abbrev pub is_object : Node → Bool
is_object n = is 24 n || is 34 n

unfoldable pub bare : Node → Bool
bare n = free is_object n

-- ---- "methods without `super` or direct `eval`"

abbrev pub begins : List ℕ → List ℕ → Bool
begins [] s = true
begins (x ∷ xs) [] = false
begins (x ∷ xs) (y ∷ ys) = eqb x y && begins xs ys

abbrev pub contains : List ℕ → List ℕ → Bool
contains t [] = begins t []
contains t (b ∷ s) = begins t (b ∷ s) || contains t s

-- a name with `super` in it, as `super[@]`, or with `Super`, as the node is called in ESTree
abbrev pub is_super_name : List ℕ → Bool
is_super_name s = contains (115 ∷ 117 ∷ 112 ∷ 101 ∷ 114 ∷ []) s || contains (83 ∷ 117 ∷ 112 ∷ 101 ∷ 114 ∷ []) s

abbrev pub eval_name : List ℕ
eval_name = 101 ∷ 118 ∷ 97 ∷ 108 ∷ []

-- 18 Reference(name' symbol+?) of `eval`, 31 Parenthesised(expr) aside
abbrev mutual
  pub is_eval : Node → Bool
  is_eval (node at k fs) = (eqb k 18 && same_text (text_at_of 0 (node at k fs)) eval_name) || (eqb k 31 && first_eval fs)

  pub first_eval : Fields → Bool
  first_eval done = false
  first_eval (absent fs) = false
  first_eval (field p fs) = piece_eval p

  pub piece_eval : Piece → Bool
  piece_eval (one n) = is_eval n
  piece_eval (list is) = false
  piece_eval (text bs) = false
  piece_eval (byte b) = false
  piece_eval (mark b) = false
  piece_eval (number b) = false

-- 33 OtherExpression(name' children*) that is `super`, and 29 Call(callee args*) of `eval` (12.3.4, direct call)
abbrev pub reaches : Node → Bool
reaches n = (is 33 n && is_super_name (text_at_of 0 n)) || (is 29 n && is_eval (node_at_of 0 n))

-- a method has the flag 4
unfoldable pub fine_method : Node → Bool
fine_method p = leb (flags p) 3 || free reaches (node_at_of 1 p)

-- ---- keys: "computed keys are expressions of the latter sort, all others 38 or a string or number Literal with its form"

-- a key that is no expression is 38 or 39
unfoldable pub fine_key : Node → Bool
fine_key p =
    let k = node_at_of 0 p in
    bare k && cond (is_computed p) (not (is 38 k) && not (is 39 k)) (is_written k)

-- ---- plain literals

abbrev pub is_done : Fields → Bool
is_done done = true
is_done (absent fs) = false
is_done (field p fs) = false

abbrev pub is_node : Piece → Bool
is_node (one n) = true
is_node (list is) = false
is_node (text bs) = false
is_node (byte b) = false
is_node (mark b) = false
is_node (number b) = false

abbrev pub is_byte : Piece → Bool
is_byte (one n) = false
is_byte (list is) = false
is_byte (text bs) = false
is_byte (byte b) = true
is_byte (mark b) = false
is_byte (number b) = false

abbrev pub is_flags : Fields → Bool
is_flags done = false
is_flags (absent fs) = false
is_flags (field p fs) = is_byte p && is_done fs

unfoldable mutual
  -- "each value or spread argument is a plain literal or holds no object literal or pattern"
  pub plain : Node → Bool
  plain (node at k fs) = cond (eqb k 24) (plain_object fs) (bare (node at k fs))

  -- 24 Object(properties*)
  pub plain_object : Fields → Bool
  plain_object done = false
  plain_object (absent fs) = false
  plain_object (field p fs) = plain_list p && is_done fs

  pub plain_list : Piece → Bool
  plain_list (one n) = false
  plain_list (list ps) = plain_parts ps
  plain_list (text bs) = false
  plain_list (byte b) = false
  plain_list (mark b) = false
  plain_list (number b) = false

  pub plain_parts : Items → Bool
  plain_parts none = true
  plain_parts (hole ps) = false
  plain_parts (item p ps) = plain_part p && plain_parts ps

  -- "spreads, values, shorthands or methods ..; no `__proto__:` key, be it a name or a string, no getter or setter": 26, or `makes`
  pub plain_part : Node → Bool
  plain_part (node at k fs) =
      cond (eqb k 26) (plain_spread fs)
      (makes (node at k fs) && (fine_key (node at k fs) && (fine_method (node at k fs) && plain_property fs)))

  -- 26 Spread(arg)
  pub plain_spread : Fields → Bool
  plain_spread done = false
  plain_spread (absent fs) = false
  plain_spread (field p fs) = plain_one p && is_done fs

  -- 25 Property(key value flags=)
  pub plain_property : Fields → Bool
  plain_property done = false
  plain_property (absent fs) = false
  plain_property (field p fs) = is_node p && plain_value_of fs

  pub plain_value_of : Fields → Bool
  plain_value_of done = false
  plain_value_of (absent fs) = false
  plain_value_of (field p fs) = plain_one p && is_flags fs

  pub plain_one : Piece → Bool
  plain_one (one n) = plain n
  plain_one (list is) = false
  plain_one (text bs) = false
  plain_one (byte b) = false
  plain_one (mark b) = false
  plain_one (number b) = false

-- ---- what every accepted tree is, as far as the law asks (proofs/AcceptedGiven.antt)

-- a statement with mark 0, which says that the rewriting made it
abbrev pub is_new : Fields → Bool
is_new done = false
is_new (absent fs) = is_new fs
is_new (field (one n) fs) = is_new fs
is_new (field (list is) fs) = is_new fs
is_new (field (text bs) fs) = is_new fs
is_new (field (byte b) fs) = is_new fs
is_new (field (mark zero) fs) = true
is_new (field (mark (suc m)) fs) = is_new fs
is_new (field (number b) fs) = is_new fs

abbrev pub has_hole : Items → Bool
has_hole none = false
has_hole (hole is) = true
has_hole (item n is) = has_hole is

-- no 20 and no 21 stands in input, and the declarators of a 4 Declaration(# kind= declarators*) are a list without holes
abbrev pub is_foreign : Node → Bool
is_foreign (node at k fs) = eqb k 20 || (eqb k 21 || (is_new fs || (eqb k 4 && has_hole (items_at_of 2 (node at k fs)))))

unfoldable pub given : Node → Bool
given n = free is_foreign n
