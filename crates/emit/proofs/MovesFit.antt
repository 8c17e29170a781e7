-- How large the things are that are moved out of heads: no more of them than bytes, and no more bytes than a tree has. And bytes in two parts.
-- Assumes nothing.
use mathlib.Core.Path.{◌≡◌, refl, ap, ◌∙◌}
use mathlib.Core.Bool.{Bool, false}
use mathlib.Core.List.{List, [], ◌∷◌, ◌++◌}
use Prim.Native.Nat.{ℕ, zero, suc, ◌+◌, ◌≤◌}
use native.Mathlib.Omega.{arith}
use lib.ListN.{length, take, drop, length-append}
use lib.Dec.{leb}
use lib.Seq.{take-nil, drop-nil}
use Rattle.tree.specs.Tree.{Node, Items, count, encode, encode_items}
use Rattle.tree.specs.Look.{onward, look_item, look_items, look_node}
use Rattle.lowering.specs.Parts.{gather}
use Rattle.lowering.specs.Heads.{moved_from}
use Rattle.lowering.proofs.Cases.{by_test}
use Rattle.sink.specs.Machine.{part}
use Rattle.pattern.proofs.KeyCases.{items_count}
use Rattle.pattern.specs.Tally.{limited}
use Rattle.pattern.proofs.CountsFit.{limited_is, from_fits}
use Rattle.direct.specs.Moved.{number}
use Rattle.direct.proofs.MovedMade.{number_item, number_empty}
use Rattle.walk.specs.Whole.{hole_at, GoodItems, Good}
use Rattle.walk.proofs.Opened.{good_next, good_end}
use Rattle.tree.proofs.EncodedLengths.{count_short}

-- ---- how many patterns are moved out

number_count : (is : Items) → number is ≤ count is
unfolding number count
number_count Items.none = omega arith
number_count (Items.hole is) = let a = number_count is in omega arith
number_count (Items.item n is) = let a = number_count is in omega arith

-- of a Param or a Declarator
from_small : (q : Node) → number (moved_from q) ≤ length (encode q)
from_small q = let a = number_count (moved_from q) in let b = from_fits q in omega arith

-- of a list, by a bound for each of its items
gather_small : (f : Node → Items) → ((n : Node) → number (f n) ≤ length (encode n)) → (is : Items) → number (gather f is) ≤ length (encode_items is)
unfolding encode_items gather
gather_small f h Items.none = let a = number_empty f in omega arith
gather_small f h (Items.hole is) = let a = gather_small f h is in omega arith
gather_small f h (Items.item n is) =
    let a = number_item f n is in
    let b = h n in
    let c = gather_small f h is in
    let e = length-append (encode n) (encode_items is) in
    omega arith

-- ---- bytes in two parts

slice_join : (a b c : ℕ) (l : List ℕ) → a ≤ b → b ≤ c → drop a (take c l) ≡ drop a (take b l) ++ drop b (take c l)
slice_join a b c [] h k = rw (take-nil {A = ℕ} c, take-nil {A = ℕ} b, drop-nil {A = ℕ} a, drop-nil {A = ℕ} b) refl
slice_join zero zero c (x ∷ l) h k = refl
slice_join zero (suc b) zero (x ∷ l) h k = absurd (omega arith)
slice_join zero (suc b) (suc c) (x ∷ l) h k = ap (λ (xs : List ℕ). x ∷ xs) (slice_join zero b c l (omega arith) (omega arith))
slice_join (suc a) zero c (x ∷ l) h k = absurd (omega arith)
slice_join (suc a) (suc b) zero (x ∷ l) h k = absurd (omega arith)
slice_join (suc a) (suc b) (suc c) (x ∷ l) h k = slice_join a b c l (omega arith) (omega arith)

pub part_join : (a b c : ℕ) (l : List ℕ) → a ≤ b → b ≤ c → part a c l ≡ part a b l ++ part b c l
unfolding part
part_join a b c l h k = slice_join a b c l h k

module _ (t : List ℕ) where
  pub on_more : (at n : ℕ) → at ≤ length t → at ≤ onward t at n
  unfolding onward
  on_more at n h = by_test (leb (at + n) (length t)) (λ e. rw e (omega arith)) (λ e. rw e h)

  -- ---- good items are no longer than the tree

  good_node : (d : ℕ) (l : Bool) (n at : ℕ) → GoodItems t (look_node t d) (Good t d) l false (suc n) at → Good t d at
  unfolding GoodItems hole_at
  good_node d l n at g = g.0.node refl

  good_more : (d : ℕ) (l : Bool) (n at : ℕ) → GoodItems t (look_node t d) (Good t d) l false (suc n) at → GoodItems t (look_node t d) (Good t d) l false n (look_node t d at).next
  unfolding GoodItems look_item
  good_more d l n at g = g.1

  items_room : (d : ℕ) (l : Bool) (n at : ℕ) → GoodItems t (look_node t d) (Good t d) l false (suc n) at
      → at + length (encode_items (look_items t (look_node t d) false (suc n) at).value) ≤ 16384
  unfolding look_items look_item encode_items
  items_room d l zero at g =
      let a = good_end t d at (good_node d l zero at g) in
      let b = length-append (encode (look_node t d at).value) [] in
      omega arith
  items_room d l (suc n) at g =
      let q : ℕ = (look_node t d at).next in
      let x : Good t d at = good_node d l (suc n) at g in
      let a = items_room d l n q (good_more d l (suc n) at g) in
      let b : q ≡ at + length (encode (look_node t d at).value) = good_next t d at x in
      let c = length-append (encode (look_node t d at).value) (encode_items (look_items t (look_node t d) false (suc n) q).value) in
      omega arith

  items_within : (d : ℕ) (l : Bool) (n at : ℕ) → GoodItems t (look_node t d) (Good t d) l false n at → length (encode_items (look_items t (look_node t d) false n at).value) ≤ 16384
  unfolding look_items encode_items
  items_within d l zero at g = omega arith
  items_within d l (suc n) at g =
      let a = items_room d l n at g in
      omega arith

  -- ---- so nothing is cut off, and all counts are small

  pub moves_within : (d : ℕ) (l : Bool) (n at : ℕ) → GoodItems t (look_node t d) (Good t d) l false n at → number (gather moved_from (look_items t (look_node t d) false n at).value) ≤ 16384
  moves_within d l n at g =
      let a = items_within d l n at g in
      let b = gather_small moved_from from_small (look_items t (look_node t d) false n at).value in
      omega arith

  pub moves_whole : (d k : ℕ) (l : Bool) (n at : ℕ) → k ≡ limited (number (gather moved_from (look_items t (look_node t d) false n at).value))
      → GoodItems t (look_node t d) (Good t d) l false n at → k ≡ number (gather moved_from (look_items t (look_node t d) false n at).value)
  moves_whole d k l n at e g = let a = moves_within d l n at g in e ∙ limited_is _ (omega arith)

  pub count_within : (d : ℕ) (l : Bool) (n at : ℕ) → GoodItems t (look_node t d) (Good t d) l false n at → n ≤ 16384
  count_within d l n at g =
      let a = items_within d l n at g in
      let b = count_short (look_items t (look_node t d) false n at).value in
      let c = items_count t d false n at in
      omega arith
