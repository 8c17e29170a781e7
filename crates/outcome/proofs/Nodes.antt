-- The names and the helpers of the tree, by its nodes and by the events that write it.
-- Assumes nothing.
use mathlib.Core.Path.{◌≡◌, refl, sym, ap, ap₂, ◌∙◌}
use mathlib.Core.Bool.{Bool, true, false, cond, ◌&&◌, ◌||◌, or_assoc}
use mathlib.Core.List.{List, [], ◌∷◌, ◌++◌}
use Prim.Native.Nat.{ℕ, zero, suc, ◌+◌}
use native.Mathlib.Omega.{arith}
use lib.Dec.{eqb}
use lib.ListN.{length}
use borrow.Author.Tests.{eqb-true}
use Rattle.tree.specs.Tree.{Node, Fields, wide_bytes, count}
use Rattle.tree.specs.Tree.Node.{node}
use Rattle.lowering.specs.Parts.{is, number_at, piece_in}
use Rattle.lowering.specs.Walk.{Walked, WalkedFields, WalkedPiece, WalkedItems}
use Rattle.lowering.specs.Walk.Walked.{noted}
use Rattle.lowering.specs.Collect.{Name, name_of, name_at, over, new_in, new_in_piece, is_container, marked, mark_of, bare, bare_fields, bare_piece, bare_items, nodes, nodes_fields, nodes_piece, nodes_items, uses, mask_from, helper_mask}
use Rattle.lowering.proofs.Cases.{by_test}
use Rattle.lowering.proofs.ItemLaws.{over_append}
use Rattle.sink.specs.Machine.{mask_of}
use Rattle.sink.specs.Shown.{Named, Token, is_helper, uses_helper, helpers_in}
use Rattle.sink.specs.Shown.Token.{plain, temp}
use Rattle.sink.proofs.Firsts.{names_in}
use Rattle.sink.proofs.Joined.{helper_joined}
use Rattle.direct.specs.Events.{cell, later, number_in, count_in, map_in}
use Rattle.outcome.specs.Named.{Act, puts, hands_out, marks, written, named, named_fields, named_piece, named_items, plains, tokens, tokens_fields, tokens_piece, tokens_items}
use Rattle.outcome.proofs.Tokens.{Aside, hands_aside, IsTemporary, IsHelper, Formed, FormedFields, FormedPiece, FormedItems}

-- ---- names

pub names_joined : (ts us : List (Token Name)) → names_in (ts ++ us) ≡ names_in ts ++ names_in us
unfolding names_in
names_joined [] us = refl
names_joined (plain b ∷ ts) us = names_joined ts us
names_joined (temp a stem ∷ ts) us = ap (λ (x : List Name). a ∷ x) (names_joined ts us)

pub plains_names : (bs : List ℕ) → names_in (plains bs) ≡ []
unfolding names_in plains
plains_names [] = refl
plains_names (b ∷ bs) = plains_names bs

temporary_nodes : (k : ℕ) (fs : WalkedFields) → IsTemporary fs → nodes_fields (bare_fields k fs) ≡ []
unfolding bare nodes
temporary_nodes k fs h = ap (λ (x : WalkedFields). nodes_fields (bare_fields k x)) h.whole

helper_nodes : (k : ℕ) (fs : WalkedFields) → IsHelper fs → nodes_fields (bare_fields k fs) ≡ []
unfolding bare nodes
helper_nodes k fs h = ap (λ (x : WalkedFields). nodes_fields (bare_fields k x)) h.whole

one_name : (at j : ℕ) (fs : Fields) → eqb j 20 ≡ true → name_at (node at j fs) ++ over name_at [] ≡ name_of (node at j fs) ∷ []
unfolding name_at is over
one_name at j fs e = rw e refl

other_name : (at j : ℕ) (fs : Fields) → eqb j 20 ≡ false → name_at (node at j fs) ++ over name_at (nodes_fields fs) ≡ over name_at (nodes_fields fs)
unfolding name_at is
other_name at j fs e = rw e refl

mutual
  unfolding bare nodes tokens names_in over

  pub tree_names : (k : ℕ) (w : Walked) → Formed w → over name_at (nodes (bare k w)) ≡ names_in (tokens (bare k w))
  tree_names k (noted note at j fs) f =
      by_test (eqb j 20)
      (λ e.
      let n = node at j (bare_fields k fs) in
      let z = temporary_nodes k fs (f.0 e) in
      ap (λ (x : List Node). name_at n ++ over name_at x) z ∙ one_name at j (bare_fields k fs) e ∙ rw e refl)
      (λ e. rw e (other_name at j (bare_fields k fs) e ∙ names_fields_lem k fs f.2))

  names_fields_lem : (k : ℕ) (fs : WalkedFields) → FormedFields fs → over name_at (nodes_fields (bare_fields k fs)) ≡ names_in (tokens_fields (bare_fields k fs))
  names_fields_lem k WalkedFields.done f = refl
  names_fields_lem k (WalkedFields.absent fs) f = names_fields_lem k fs f
  names_fields_lem k (WalkedFields.field p fs) f =
      over_append name_at (nodes_piece (bare_piece k p)) (nodes_fields (bare_fields (k + new_in_piece p) fs))
      ∙ ap₂ (λ (x : List Name) (y : List Name). x ++ y) (names_piece_lem k p f.0) (names_fields_lem (k + new_in_piece p) fs f.1)
      ∙ sym (names_joined (tokens_piece (bare_piece k p)) (tokens_fields (bare_fields (k + new_in_piece p) fs)))

  names_piece_lem : (k : ℕ) (p : WalkedPiece) → FormedPiece p → over name_at (nodes_piece (bare_piece k p)) ≡ names_in (tokens_piece (bare_piece k p))
  names_piece_lem k (WalkedPiece.one w) f = tree_names k w f
  names_piece_lem k (WalkedPiece.list is) f =
      names_items_lem k is f ∙ ap (λ (x : List Name). x ++ names_in (tokens_items (bare_items k is))) (sym (plains_names (wide_bytes (count (bare_items k is)))))
      ∙ sym (names_joined (plains (wide_bytes (count (bare_items k is)))) (tokens_items (bare_items k is)))
  names_piece_lem k (WalkedPiece.text bs) f = sym (plains_names (wide_bytes (length bs) ++ bs))
  names_piece_lem k (WalkedPiece.byte b) f = refl
  names_piece_lem k (WalkedPiece.mark b) f = sym (plains_names (wide_bytes (marked k b)))
  names_piece_lem k (WalkedPiece.number b) f = sym (plains_names (wide_bytes b))

  names_items_lem : (k : ℕ) (is : WalkedItems) → FormedItems is → over name_at (nodes_items (bare_items k is)) ≡ names_in (tokens_items (bare_items k is))
  names_items_lem k WalkedItems.none f = refl
  names_items_lem k (WalkedItems.hole is) f = names_items_lem k is f
  names_items_lem k (WalkedItems.item w is) f =
      over_append name_at (nodes (bare k w)) (nodes_items (bare_items (k + new_in w) is))
      ∙ ap₂ (λ (x : List Name) (y : List Name). x ++ y) (tree_names k w f.0) (names_items_lem (k + new_in w) is f.1)
      ∙ sym (names_joined (tokens (bare k w)) (tokens_items (bare_items (k + new_in w) is)))

-- ---- helpers

uses_append : (h : ℕ) (ns ms : List Node) → uses h (ns ++ ms) ≡ uses h ns || uses h ms
unfolding uses
uses_append h [] ms = refl
uses_append h (n ∷ ns) ms = ap (λ (x : Bool). (is 21 n && eqb (number_at 0 n) h) || x) (uses_append h ns ms) ∙ sym (or_assoc (is 21 n && eqb (number_at 0 n) h) (uses h ns) (uses h ms))

aside_helper : (h : ℕ) (es : List Act) → Aside es → uses_helper h es ≡ false
unfolding uses_helper is_helper
aside_helper h [] k = refl
aside_helper h (Named.put b ∷ es) k = absurd k
aside_helper h (Named.helper b ∷ es) k = absurd k
aside_helper h (Named.temporary b stem ∷ es) k = absurd k
aside_helper h (Named.new_mark ∷ es) k = absurd k
aside_helper h (Named.make c a ∷ es) k = aside_helper h es k
aside_helper h (Named.listed b ∷ es) k = aside_helper h es k
aside_helper h (Named.listed_temporary c stem a ∷ es) k = aside_helper h es k
aside_helper h (Named.entry m n ∷ es) k = aside_helper h es k
aside_helper h (Named.excluded b ∷ es) k = aside_helper h es k
aside_helper h (Named.excluded_temporary c stem a ∷ es) k = aside_helper h es k
aside_helper h (Named.declarator ∷ es) k = aside_helper h es k

puts_helper : (h : ℕ) (bs : List ℕ) → uses_helper h (puts bs) ≡ false
unfolding puts uses_helper is_helper
puts_helper h [] = refl
puts_helper h (b ∷ bs) = puts_helper h bs

marks_helper : (h b : ℕ) → uses_helper h (marks b) ≡ false
unfolding marks puts uses_helper is_helper
marks_helper h zero = refl
marks_helper h (suc b) = refl

after_none : (h : ℕ) (es fs : List Act) (b : Bool) → uses_helper h es ≡ false → uses_helper h fs ≡ b → uses_helper h (es ++ fs) ≡ b
after_none h es fs b e f = helper_joined h es fs ∙ ap₂ (λ (x : Bool) (y : Bool). x || y) e f

both_helpers : (h : ℕ) (es fs : List Act) (ns ms : List Node) → uses_helper h es ≡ uses h ns → uses_helper h fs ≡ uses h ms → uses_helper h (es ++ fs) ≡ uses h (ns ++ ms)
both_helpers h es fs ns ms e f = helper_joined h es fs ∙ ap₂ (λ (x : Bool) (y : Bool). x || y) e f ∙ sym (uses_append h ns ms)

temporary_helper : (h c stem : ℕ) → uses_helper {A = Name} h (Named.temporary c stem ∷ []) ≡ false
unfolding uses_helper is_helper
temporary_helper h c stem = refl

helper_helper : (h m : ℕ) → uses_helper {A = Name} h (Named.helper m ∷ []) ≡ eqb m h || false
unfolding uses_helper is_helper
helper_helper h m = refl

helper_number : (at k j : ℕ) (fs : WalkedFields) → IsHelper fs → number_at 0 (node at j (bare_fields k fs)) ≡ number_in fs
unfolding bare number_at piece_in number_in
helper_number at k j fs h =
    ap (λ (x : WalkedFields). number_at 0 (node at j (bare_fields k x))) h.whole ∙ ap number_in (sym h.whole)

written_helper : (h at j k : ℕ) (fs : WalkedFields) (es : List Act) → (eqb j 20 ≡ true → IsTemporary fs) → (eqb j 21 ≡ true → IsHelper fs)
    → uses_helper h es ≡ uses h (nodes_fields (bare_fields k fs)) → uses_helper h (written at j fs es) ≡ uses h (node at j (bare_fields k fs) ∷ nodes_fields (bare_fields k fs))
unfolding written uses is
written_helper h at j k fs es f g e =
    by_test (eqb j 20)
    (λ t.
    let z : eqb j 21 ≡ false = ap (λ (x : ℕ). eqb x 21) (eqb-true j 20 t) in
    rw (t, z) (temporary_helper h (cell (number_in fs) at) (number_in fs) ∙ sym (ap (uses h) (temporary_nodes k fs (f t)))))
    (λ t. rw t
    (by_test (eqb j 21)
    (λ u. rw u
    (helper_helper h (number_in fs)
    ∙ ap₂ (λ (x : ℕ) (y : List Node). eqb x h || uses h y) (sym (helper_number at k j fs (g u))) (sym (helper_nodes k fs (g u)))))
    (λ u. rw u (after_none h (puts (j ∷ map_in fs ∷ [])) es (uses h (nodes_fields (bare_fields k fs))) (puts_helper h (j ∷ map_in fs ∷ [])) e))))

none_helpers : (h : ℕ) → uses_helper {A = Name} h [] ≡ uses h []
unfolding uses_helper uses
none_helpers h = refl

no_nodes : (h : ℕ) → false ≡ uses h []
unfolding uses
no_nodes h = refl

put_helper : (h b : ℕ) → uses_helper {A = Name} h (Named.put b ∷ []) ≡ false
unfolding uses_helper is_helper
put_helper h b = refl

mutual
  unfolding named bare nodes

  pub tree_helpers : (h : ℕ) (w : Walked) → Formed w → (next m k : ℕ) → uses_helper h (named next m w) ≡ uses h (nodes (bare k w))
  tree_helpers h (noted note at j fs) f next m k =
      after_none h (hands_out m note) (written at j fs (named_fields (is_container j) next m fs)) (uses h (nodes (bare k (noted note at j fs))))
      (aside_helper h (hands_out m note) (hands_aside m note))
      (written_helper h at j k fs (named_fields (is_container j) next m fs) f.0 f.1 (fields_helpers h fs f.2 (is_container j) next m k))

  fields_helpers : (h : ℕ) (fs : WalkedFields) → FormedFields fs → (l : Bool) (next m k : ℕ) → uses_helper h (named_fields l next m fs) ≡ uses h (nodes_fields (bare_fields k fs))
  fields_helpers h WalkedFields.done f l next m k = none_helpers h
  fields_helpers h (WalkedFields.absent fs) f l next m k = fields_helpers h fs f l next m k
  fields_helpers h (WalkedFields.field p fs) f l next m k =
      both_helpers h (named_piece l next m p) (named_fields l (later next (new_in_piece p)) m fs) (nodes_piece (bare_piece k p)) (nodes_fields (bare_fields (k + new_in_piece p) fs))
      (piece_helpers h p f.0 l next m k) (fields_helpers h fs f.1 l (later next (new_in_piece p)) m (k + new_in_piece p))

  piece_helpers : (h : ℕ) (p : WalkedPiece) → FormedPiece p → (l : Bool) (next m k : ℕ) → uses_helper h (named_piece l next m p) ≡ uses h (nodes_piece (bare_piece k p))
  piece_helpers h (WalkedPiece.one w) f l next m k = tree_helpers h w f next m k
  piece_helpers h (WalkedPiece.list is) f l next m k =
      after_none h (puts (wide_bytes (count_in is))) (named_items l next m is) (uses h (nodes_items (bare_items k is))) (puts_helper h (wide_bytes (count_in is))) (items_helpers h is f l next m k)
  piece_helpers h (WalkedPiece.text bs) f l next m k = puts_helper h (wide_bytes (length bs) ++ bs) ∙ no_nodes h
  piece_helpers h (WalkedPiece.byte b) f l next m k = put_helper h b ∙ no_nodes h
  piece_helpers h (WalkedPiece.mark b) f l next m k = marks_helper h b ∙ no_nodes h
  piece_helpers h (WalkedPiece.number b) f l next m k = puts_helper h (wide_bytes b) ∙ no_nodes h

  items_helpers : (h : ℕ) (is : WalkedItems) → FormedItems is → (l : Bool) (next m k : ℕ) → uses_helper h (named_items l next m is) ≡ uses h (nodes_items (bare_items k is))
  items_helpers h WalkedItems.none f l next m k = none_helpers h
  items_helpers h (WalkedItems.hole is) f l next m k =
      after_none h (Named.put 0 ∷ []) (named_items l next m is) (uses h (nodes_items (bare_items k is))) (put_helper h 0) (items_helpers h is f l next m k)
  items_helpers h (WalkedItems.item w is) f l next m k =
      both_helpers h (named next (cond l (marked next (mark_of w)) m) w) (named_items l (later next (new_in w)) m is) (nodes (bare k w)) (nodes_items (bare_items (k + new_in w) is))
      (tree_helpers h w f.0 next (cond l (marked next (mark_of w)) m) k) (items_helpers h is f.1 l (later next (new_in w)) m (k + new_in w))

pub tree_mask : (w : Walked) → Formed w → (next m k : ℕ) → mask_of (helpers_in (named next m w)) ≡ helper_mask (bare k w)
unfolding mask_of helpers_in helper_mask mask_from
tree_mask w f next m k =
    let u : ℕ → Bool = λ h. uses h (nodes (bare k w)) in
    let e1 = tree_helpers 1 w f next m k in
    let e2 = tree_helpers 2 w f next m k in
    let e3 = tree_helpers 3 w f next m k in
    let e4 = tree_helpers 4 w f next m k in
    let e5 = tree_helpers 5 w f next m k in
    rw (e1, e2, e3, e4, e5) (omega arith)
