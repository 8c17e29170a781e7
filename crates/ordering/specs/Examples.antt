-- Pairs of trees and their order, by computation.
use Rattle.std.specs.Prelude.{◌≡◌, refl, List, [], ◌∷◌, ℕ}
use Rattle.tree.specs.Tree.{Node, Items, map_of}
use Rattle.tree.specs.Tree.Node.{node}
use Rattle.tree.specs.Tree.Fields.{done, absent, field}
use Rattle.tree.specs.Tree.Piece.{list, text, byte, mark, number}
use Rattle.tree.specs.Tree.Items.{none, hole, item}
use Rattle.lowering.specs.Collect.{except, distinct, number_in}
use Rattle.equal.specs.Canonical.{canonical, numbers, renumbered, place_of}
use Rattle.ordering.specs.Order.{order, compare}
use Rattle.std.specs.declared.cmp.Ordering.TheVariants.{Less, Equal, Greater}

abbrev temporary : ℕ → ℕ → Node
temporary n stem = node 0 20 (field (number n) (field (byte stem) done))

abbrev name : List ℕ → Node
name bs = node 0 18 (field (text bs) (absent done))

abbrev literal : ℕ → List ℕ → List ℕ → Node
literal sort spelling form = node 0 22 (field (byte sort) (field (text spelling) (field (text form) done)))

abbrev array : Items → Node
array is = node 0 32 (field (list is) done)

abbrev two : Node → Node → Node
two a b = array (item a (item b none))

abbrev three : Node → Node → Node → Node
three a b c = array (item a (item b (item c none)))

abbrev a : Node
a = name (97 ∷ [])

abbrev empty : Node
empty = node 0 1 (field (list none) done)

abbrev some : Node
some = node 0 1 (field (list (item (node 0 13 (field (mark 1) done)) none)) done)

pub record Examples : Type 0 where
  -- `[_ref1, _key1]` and `[_ref1, _key2]`: a temporary is its number, and the stem comes after it
  pub number_first : order (two (temporary 1 1) (temporary 1 4)) (two (temporary 1 1) (temporary 2 4)) ≡ Less
  pub then_stem : order (temporary 9 1) (temporary 1 2) ≡ Less
  -- `[$7, $3, $7]` and `[$1, $9, $1]`, `[$1, $9, $9]`: by first appearance
  pub seen_alike : order (three (temporary 7 1) (temporary 3 1) (temporary 7 1)) (three (temporary 1 1) (temporary 9 1) (temporary 1 1)) ≡ Equal
  pub seen_before : order (three (temporary 7 1) (temporary 3 1) (temporary 7 1)) (three (temporary 1 1) (temporary 9 1) (temporary 9 1)) ≡ Less
  -- `z` of sort 1 and `a` of sort 2: the byte before the text
  pub sort_first : order (literal 1 (122 ∷ []) (122 ∷ [])) (literal 2 (97 ∷ []) (97 ∷ [])) ≡ Less
  -- names `az` and `b`; `[,,]` and `[a]`; `[[a], z]` and `[[a, a]]`
  pub by_byte : order (name (97 ∷ 122 ∷ [])) (name (98 ∷ [])) ≡ Less
  pub hole_first : order (array (hole (hole none))) (array (item a none)) ≡ Less
  pub inner_list : order (two (array (item a none)) (name (122 ∷ []))) (array (item (two a a) none)) ≡ Less
  -- `0x10` and `16`, of one form
  pub spelling : order (literal 2 (48 ∷ 120 ∷ 49 ∷ 48 ∷ []) (49 ∷ 54 ∷ [])) (literal 2 (49 ∷ 54 ∷ []) (49 ∷ 54 ∷ [])) ≡ Less
  -- an empty Program and another
  pub empty_first : order empty some ≡ Less
  pub other_way : order some empty ≡ Greater

pub examples : Examples
unfolding order compare canonical renumbered numbers place_of distinct except number_in map_of
examples = record { number_first = refl; then_stem = refl; seen_alike = refl; seen_before = refl; sort_first = refl; by_byte = refl; hole_first = refl; inner_list = refl; spelling = refl; empty_first = refl; other_way = refl }
