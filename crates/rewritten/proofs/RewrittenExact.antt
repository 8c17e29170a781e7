-- Bytes are read as a rewritten tree exactly if they are the encoding of a well-formed one with distinct marks.
-- Assumes nothing.
use mathlib.Core.Path.{◌≡◌, refl, sym, ap, ◌∙◌}
use mathlib.Core.Bool.{Bool, true, false}
use mathlib.Core.List.{List}
use Prim.Native.Nat.{ℕ, ◌+◌}
use native.Mathlib.Nat.{add_comm}
use native.Mathlib.Omega.{arith}
use lib.ListN.{length}
use Rattle.tree.specs.Tree.{Node, Fields, Piece, Items, encode, encode_piece, placed, placed_fields, placed_piece, placed_items, depth, marks, marks_fields, marks_piece, marks_items}
use Rattle.tree.specs.Tree.Node.{node}
use Rattle.tree.specs.Tree.Fields.{done, absent, field}
use Rattle.tree.specs.Tree.Piece.{one, list, text, byte, mark, number}
use Rattle.tree.specs.Tree.Items.{none, hole, item}
use Rattle.tree.specs.Grammar.Stage.{rewritten}
use Rattle.tree.specs.WellFormed.{Bytes}
use Rattle.tree.specs.Read.{Got, accepted, number_of, read_tree}
use Rattle.tree.specs.Read.Got.{got, refused}
use Rattle.tree.specs.Read.Refusal.{not_a_tree, too_deep}
use Rattle.tree.proofs.Limit.{tree_raised}
use Rattle.tree.proofs.Sound.{sound, never}
use Rattle.tree.proofs.Complete.{complete}
use Rattle.rewritten.specs.Rewritten.{distinct, checked, read_rewritten, is_got, is_rewritten, Rewritten}
use Rattle.rewritten.proofs.NeverTooDeep.{tree_never_too_deep, no_tree_too_deep}
use Rattle.rewritten.proofs.Pass.{accepted_got}

-- ---- positions have no marks

mutual
  unfolding placed placed_fields placed_piece placed_items marks marks_fields marks_piece marks_items

  pub marks_placed : (n : Node) (at : ℕ) → marks (placed n at) ≡ marks n
  marks_placed (node old kind fs) at = marks_placed_fields fs (at + 2)

  marks_placed_fields : (fs : Fields) (at : ℕ) → marks_fields (placed_fields fs at) ≡ marks_fields fs
  marks_placed_fields done at = refl
  marks_placed_fields (absent fs) at = marks_placed_fields fs at
  marks_placed_fields (field p fs) at = rw (marks_placed_piece p at, marks_placed_fields fs (at + length (encode_piece p)))

  marks_placed_piece : (p : Piece) (at : ℕ) → marks_piece (placed_piece p at) ≡ marks_piece p
  marks_placed_piece (one n) at = marks_placed n at
  marks_placed_piece (list is) at = marks_placed_items is (at + 2)
  marks_placed_piece (text bs) at = refl
  marks_placed_piece (byte b) at = refl
  marks_placed_piece (mark n) at = refl
  marks_placed_piece (number n) at = refl

  pub marks_placed_items : (is : Items) (at : ℕ) → marks_items (placed_items is at) ≡ marks_items is
  marks_placed_items none at = refl
  marks_placed_items (hole is) at = marks_placed_items is (at + 1)
  marks_placed_items (item n is) at = rw (marks_placed n at, marks_placed_items is (at + length (encode n)))

-- ---- what was checked

pub checked_got : (g : Got Node) (n : Node) (q k : ℕ) → checked g ≡ got n q k → (g ≡ got n q k) × (distinct (marks n) ≡ true)
checked_got (got m p j) n q k e =
    let both : (distinct (marks m) ≡ true) × (got m p j ≡ got n q k) = accepted_got (distinct (marks m)) (got m p j) n q k e in
    let same : m ≡ n = let w : got m p j ≡ got n q k = both.1 in cc in
    (both.1, rw (sym same) both.0)
checked_got (refused r) n q k e = absurd (never (ap is_got e))

abbrev refusal_in : Got Node → ℕ
refusal_in (got n q k) = 0
refusal_in (refused r) = number_of r

-- the answer is a tree or 3
pub never_4 : (l : List ℕ) → read_rewritten l ≡ refused too_deep → ⊥
unfolding read_rewritten
never_4 l = go (read_tree rewritten (length l) l) (no_tree_too_deep l rewritten)
  where
    not_both : (b : Bool) (n : Node) (q k : ℕ) → accepted b (got n q k) ≡ refused too_deep → ⊥
    not_both true n q k e = never (sym (ap is_got e))
    not_both false n q k e = let w : refusal_in (refused not_a_tree) ≡ refusal_in (refused too_deep) = ap refusal_in e in omega arith

    go : (g : Got Node) → (g ≡ refused too_deep → ⊥) → checked g ≡ refused too_deep → ⊥
    go (got n q k) h e = not_both (distinct (marks n)) n q k e
    go (refused r) h e = h e

-- what is read is a rewritten tree, and its encoding is the bytes
pub record Accepted (l : List ℕ) (n : Node) (q k : ℕ) : Type 0 where
  pub tree : Rewritten n
  pub bytes : encode n ≡ l
  pub positions : placed n 0 ≡ n
  pub ends : q ≡ length l
  pub next : k ≡ 1

pub rewritten_sound : (l : List ℕ) (n : Node) (q k : ℕ) → Bytes l → read_rewritten l ≡ got n q k → Accepted l n q k
unfolding read_rewritten
rewritten_sound l n q k b e =
    let c = checked_got (read_tree rewritten (length l) l) n q k e in
    let s = sound rewritten (length l) l n q k b c.0 in
    record {
      tree = record { formed = record { fits = s.well_formed.fits; marked = refl; level = omega arith; short = s.well_formed.short }; apart = c.1 };
      bytes = s.bytes;
      positions = s.positions;
      ends = s.ends;
      next = sym s.well_formed.marked;
    }

-- every rewritten tree is read as itself
pub rewritten_complete : (n : Node) → Rewritten n → read_rewritten (encode n) ≡ got (placed n 0) (length (encode n)) 1
unfolding read_rewritten
rewritten_complete n w =
    let l : List ℕ = encode n in
    let deep : read_tree rewritten (depth n + length l) l ≡ got (placed n 0) (length l) 1 = tree_raised l rewritten (length l) (depth n) (placed n 0) (length l) 1 (complete rewritten (depth n) n 1 w.formed) in
    let enough : read_tree rewritten (length l) l ≡ got (placed n 0) (length l) 1 = sym (tree_never_too_deep l rewritten (depth n)) ∙ ap (λ (d : ℕ). read_tree rewritten d l) (add_comm (length l) (depth n)) ∙ deep in
    ap checked enough ∙ ap (λ (b : Bool). accepted b (got (placed n 0) (length l) 1)) (ap distinct (marks_placed n 0) ∙ w.apart)

-- ---- the test

-- the bytes are those of some rewritten tree
pub record SomeTree (l : List ℕ) : Type 0 where
  pub tree : Node
  pub rewritten : Rewritten tree
  pub bytes : encode tree ≡ l

-- the law
pub is_rewritten_lem : (l : List ℕ) → Bytes l → (is_rewritten l ≡ true → SomeTree l) × (SomeTree l → is_rewritten l ≡ true)
unfolding is_rewritten
is_rewritten_lem l b = (
  λ t. found (read_rewritten l) refl t,
  λ s. ap (λ (bs : List ℕ). is_got (read_rewritten bs)) (sym s.bytes) ∙ ap is_got (rewritten_complete s.tree s.rewritten),
)
  where
    found : (g : Got Node) → read_rewritten l ≡ g → is_got g ≡ true → SomeTree l
    found (got n q k) e t = let a = rewritten_sound l n q k b e in record { tree = n; rewritten = a.tree; bytes = a.bytes }
    found (refused r) e t = absurd (never t)
