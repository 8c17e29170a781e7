-- A tree without object rest and spread is its own result, with an empty list and no helper.
-- Assumes nothing.
use mathlib.Core.Path.{◌≡◌, refl, sym, ap, ap₂, ◌∙◌, subst}
use mathlib.Core.Bool.{Bool, true, false, cond, ◌||◌, ◌&&◌}
use mathlib.Core.List.{List, [], ◌∷◌, ◌++◌}
use Prim.Native.Nat.{ℕ, zero, suc, ◌+◌, ◌<◌}
use native.Mathlib.Omega.{arith}
use lib.Dec.{eqb}
use Rattle.tree.specs.Tree.{Node, Fields, Piece, Items, depth, encode}
use Rattle.tree.specs.Tree.Node.{node}
use Rattle.tree.specs.Grammar.Stage.{input}
use Rattle.tree.specs.Read.{read_tree}
use Rattle.tree.specs.Read.Got.{got}
use Rattle.tree.specs.WellFormed.{Bytes}
use Rattle.tree.proofs.Sound.{sound}
use Rattle.lowering.specs.Parts.{nothing, kind, is, piece_in, stands_in, as_node, as_items_of, node_at_of, items_at_of, number_at, stands, change, on_items, only, each, gather, any, or_else, first, is_empty, ◌+++◌}
use Rattle.lowering.specs.Made.{Context}
use Rattle.lowering.specs.Patterns.{shape, properties, items_of, rest, has_rest_of, left_of, value, has_nested_object_rest, has_nested_array_rest, has_object_rest}
use Rattle.lowering.specs.Literals.{literal}
use Rattle.lowering.specs.Rests.{excluded_for}
use Rattle.lowering.specs.Keys.{keys_refusal}
use Rattle.lowering.specs.Declarations.{is_lowered, declarator_makes, declarators, lowered_in, declaration, declaration_makes, declaration_excludes, declaration_refusal}
use Rattle.lowering.specs.Assignments.{is_top, target}
use Rattle.lowering.specs.Heads.{is_moved, moved_from, references, function, function_makes, arrow, arrow_makes, catch, catch_makes, declaring_head, declaring_makes, assigning_head, assigning_makes}
use Rattle.lowering.specs.Walk.{Note, Step, Walked, each_item_of, each_piece, each_field, inside, unchanged, rule_of, rewrite, step_declaration, step_assignment, step_for, within}
use Rattle.lowering.specs.Weight.{walked}
use Rattle.lowering.specs.Collect.{Visit, Name, over, new_in, new_in_piece, marked, mark_of, bare, bare_fields, bare_piece, bare_items, is_container, visits, visits_fields, visits_piece, visits_items, first_refusal, entry_at, entries, excluded_in, nodes, nodes_fields, nodes_piece, nodes_items, uses, mask_from, helper_mask, names_of, numbered, numbered_fields, numbered_piece, numbered_items, declarator_bytes, list_bytes}
use Rattle.lowering.specs.Answer.{Lent, fitted, collected, after_walk, top, in_force, after_reading, lowering}
use Rattle.lowering.proofs.Cases.{by_test, by_shape, object_is, by_rule_lem, and_none, literals_24, declarations_4, step_same, rewritten_same}
use Rattle.lowering.proofs.Falls.{walked_is}
use Rattle.lowering.proofs.Notes.{AllNotes, both}
use Rattle.lowering.specs.Table.{Admitted}
use Rattle.lowering.proofs.RefusalOrder.{reading_decides}
use Rattle.lowering.proofs.Accepted.{NoHoles, Proper, ProperFields, ProperPiece, ProperItems, accepted_good}
use Rattle.lowering.proofs.Accepted.Proper.{proper}
use Rattle.lowering.proofs.ItemLaws.{gather_none as none_in, none_empty, first_empty}
use Rattle.lowering.proofs.ChangeLaws.{change_same, list_same}

-- ---- trees without object rest and spread

mutual
  pub data Simple : Node → Type 0 where
    simple : {at k : ℕ} {fs : Fields} → (eqb k 34 ≡ true → stands_in fs 1 ≡ false) → (eqb k 24 ≡ true → any (λ p. is 26 p) (as_items_of (piece_in fs 0)) ≡ false)
        → SimpleFields fs → Simple (node at k fs)

  pub data SimpleFields : Fields → Type 0 where
    done : SimpleFields Fields.done
    absent : {fs : Fields} → SimpleFields fs → SimpleFields (Fields.absent fs)
    field : {p : Piece} {fs : Fields} → SimplePiece p → SimpleFields fs → SimpleFields (Fields.field p fs)

  pub data SimplePiece : Piece → Type 0 where
    one : {n : Node} → Simple n → SimplePiece (Piece.one n)
    list : {is : Items} → SimpleItems is → SimplePiece (Piece.list is)
    text : {bs : List ℕ} → SimplePiece (Piece.text bs)
    byte : {b : ℕ} → SimplePiece (Piece.byte b)
    mark : {b : ℕ} → SimplePiece (Piece.mark b)
    number : {b : ℕ} → SimplePiece (Piece.number b)

  pub data SimpleItems : Items → Type 0 where
    none : SimpleItems Items.none
    hole : {is : Items} → SimpleItems is → SimpleItems (Items.hole is)
    item : {n : Node} {is : Items} → Simple n → SimpleItems is → SimpleItems (Items.item n is)

-- ---- parts

simple_nothing : Simple nothing
unfolding stands_in piece_in any
simple_nothing = simple {fs = Fields.done} (λ e. refl) (λ e. refl) SimpleFields.done

piece_at : (fs : Fields) (i : ℕ) → SimpleFields fs → SimplePiece (piece_in fs i)
unfolding piece_in
piece_at Fields.done i SimpleFields.done = SimplePiece.number
piece_at (Fields.absent fs) zero (SimpleFields.absent s) = SimplePiece.number
piece_at (Fields.absent fs) (suc i) (SimpleFields.absent s) = piece_at fs i s
piece_at (Fields.field p fs) zero (SimpleFields.field q s) = q
piece_at (Fields.field p fs) (suc i) (SimpleFields.field q s) = piece_at fs i s

as_node_lem : (p : Piece) → SimplePiece p → Simple (as_node p)
as_node_lem (Piece.one n) (SimplePiece.one s) = s
as_node_lem (Piece.list is) s = simple_nothing
as_node_lem (Piece.text bs) s = simple_nothing
as_node_lem (Piece.byte b) s = simple_nothing
as_node_lem (Piece.mark b) s = simple_nothing
as_node_lem (Piece.number b) s = simple_nothing

as_items : (p : Piece) → SimplePiece p → SimpleItems (as_items_of p)
as_items (Piece.one n) s = SimpleItems.none
as_items (Piece.list is) (SimplePiece.list s) = s
as_items (Piece.text bs) s = SimpleItems.none
as_items (Piece.byte b) s = SimpleItems.none
as_items (Piece.mark b) s = SimpleItems.none
as_items (Piece.number b) s = SimpleItems.none

pub node_at : (i : ℕ) (n : Node) → Simple n → Simple (node_at_of i n)
unfolding node_at_of
node_at i (node at k fs) (simple o l s) = as_node_lem (piece_in fs i) (piece_at fs i s)

pub items_at : (i : ℕ) (n : Node) → Simple n → SimpleItems (items_at_of i n)
unfolding items_at_of
items_at i (node at k fs) (simple o l s) = as_items (piece_in fs i) (piece_at fs i s)

pub no_rest : (p : Node) → is 34 p ≡ true → Simple p → has_rest_of p ≡ false
unfolding is stands
no_rest (node at k fs) e (simple o l s) = o e

any_none : (f : Node → Bool) → ((n : Node) → Simple n → f n ≡ false) → (is : Items) → SimpleItems is → any f is ≡ false
unfolding any
any_none f h Items.none SimpleItems.none = refl
any_none f h (Items.hole is) (SimpleItems.hole s) = any_none f h is s
any_none f h (Items.item n is) (SimpleItems.item q s) = rw (h n q, any_none f h is s)

first_simple : (f : Node → ℕ) → ((n : Node) → Simple n → f n ≡ 0) → (is : Items) → SimpleItems is → first f is ≡ 0
unfolding first or_else
first_simple f h Items.none SimpleItems.none = refl
first_simple f h (Items.hole is) (SimpleItems.hole s) = first_simple f h is s
first_simple f h (Items.item n is) (SimpleItems.item q s) = rw (h n q, first_simple f h is s)

pub gather_none : (f : Node → Items) → ((n : Node) → Simple n → f n ≡ Items.none) → (is : Items) → SimpleItems is → gather f is ≡ Items.none
unfolding gather ◌+++◌
gather_none f h Items.none SimpleItems.none = refl
gather_none f h (Items.hole is) (SimpleItems.hole s) = gather_none f h is s
gather_none f h (Items.item n is) (SimpleItems.item q s) = rw (h n q) (gather_none f h is s)

-- ---- no object rest is found

pub has_none : (d : ℕ) (p : Node) → Simple p → has_nested_object_rest d p ≡ false
unfolding has_nested_object_rest
has_none zero p s = refl
has_none (suc d) p s =
    by_shape (shape p)
    (λ e. rw (e, has_nested_object_rest, no_rest p (object_is p e) s) (any_none (λ q. has_nested_object_rest d (value q)) (λ q z. has_none d (value q) (node_at 1 q z)) (properties p) (items_at 0 p s)))
    (λ e. rw (e, has_nested_object_rest, any_none (λ m. has_nested_object_rest d m) (λ m z. has_none d m z) (items_of p) (items_at 0 p s)) (has_none d (rest p) (node_at 1 p s)))
    (λ e. rw (e, has_nested_object_rest) (has_none d (left_of p) (node_at 0 p s)))
    (λ e. rw (e, has_nested_object_rest) refl)

array_none : (d : ℕ) (p : Node) → Simple p → has_nested_array_rest d p ≡ false
unfolding has_nested_array_rest
array_none zero p s = refl
array_none (suc d) p s =
    by_shape (shape p)
    (λ e. rw (e, has_nested_array_rest) (any_none (λ q. has_nested_array_rest d (value q)) (λ q z. array_none d (value q) (node_at 1 q z)) (properties p) (items_at 0 p s)))
    (λ e. rw (e, has_nested_array_rest, any_none (λ m. has_nested_array_rest d m) (λ m z. array_none d m z) (items_of p) (items_at 0 p s)) (has_none d (rest p) (node_at 1 p s)))
    (λ e. rw (e, has_nested_array_rest) (array_none d (left_of p) (node_at 0 p s)))
    (λ e. rw (e, has_nested_array_rest) refl)

-- ---- nothing is rewritten

lowered_none : (d : Node) → Simple d → is_lowered d ≡ false
unfolding is_lowered
lowered_none d s = and_none (stands 1 d) (has_object_rest (node_at_of 0 d)) (has_none (depth (node_at_of 0 d)) (node_at_of 0 d) (node_at 0 d s))

moved_none : (q : Node) → Simple q → is_moved q ≡ false
unfolding is_moved
moved_none q s = has_none (depth (node_at_of 0 q)) (node_at_of 0 q) (node_at 0 q s)

from_none : (q : Node) → Simple q → moved_from q ≡ Items.none
unfolding moved_from
from_none q s = rw (moved_none q s)

gather_same : (f : Node → Items) → ((n : Node) → Simple n → f n ≡ only n) → (is : Items) → SimpleItems is → NoHoles is → gather f is ≡ is
unfolding gather ◌+++◌ NoHoles
gather_same f h Items.none SimpleItems.none w = refl
gather_same f h (Items.hole is) (SimpleItems.hole s) w = absurd w
gather_same f h (Items.item n is) (SimpleItems.item q s) w = rw (h n q) (ap (Items.item n) (gather_same f h is s w))

pub cond_none : (b : Bool) (is : Items) → is ≡ Items.none → cond b is Items.none ≡ Items.none
cond_none true is h = h
cond_none false is h = refl

module _ (c : Context) where
  kept_declarator : (d : Node) → Simple d → declarators c d ≡ only d
  unfolding declarators
  kept_declarator d s = rw (lowered_none d s)

  lowered_in_lem : (d : Node) → Simple d → lowered_in c d ≡ Items.none
  unfolding lowered_in
  lowered_in_lem d s = rw (lowered_none d s)

  declaration_same : (n : Node) → Simple n → NoHoles (items_at_of 2 n) → declaration c n ≡ n
  unfolding declaration change items_at_of
  declaration_same (node at k fs) (simple o l s) w =
      ap (node at k)
      (change_same fs 2 (on_items (gather (declarators c)))
      (list_same (gather (declarators c)) (piece_in fs 2) (gather_same (declarators c) kept_declarator (as_items_of (piece_in fs 2)) (as_items (piece_in fs 2) (piece_at fs 2 s)) w)))

  makes_none : (n : Node) → Simple n → declaration_makes c n ≡ Items.none
  unfolding declaration_makes
  makes_none n s =
      gather_none (λ d. cond (is_lowered d) (declarator_makes c (node_at_of 0 d) (node_at_of 1 d)) Items.none) (λ d z. rw (lowered_none d z)) (items_at_of 2 n) (items_at 2 n s)

  excludes_none : (n : Node) → Simple n → declaration_excludes c n ≡ Items.none
  unfolding declaration_excludes
  excludes_none n s =
      gather_none (λ d. gather (excluded_for c) (lowered_in c d)) (λ d z. ap (gather (excluded_for c)) (lowered_in_lem d z) ∙ none_in (excluded_for c)) (items_at_of 2 n) (items_at 2 n s)

  refuses_none : (n : Node) → Simple n → declaration_refusal c n ≡ 0
  unfolding declaration_refusal
  refuses_none n s =
      first_simple (λ d. first (λ p. keys_refusal p) (lowered_in c d)) (λ d z. ap (first (λ p. keys_refusal p)) (lowered_in_lem d z) ∙ first_empty (λ p. keys_refusal p)) (items_at_of 2 n) (items_at 2 n s)

  declarations_same : (n : Node) → Simple n → NoHoles (items_at_of 2 n) → step_declaration c n ≡ unchanged n
  unfolding step_declaration
  declarations_same n s w =
      rw (refuses_none n s, step_declaration)
      (step_same (declaration_makes c n) (declaration_excludes c n) (declaration c n) n (makes_none n s) (excludes_none n s) (declaration_same n s w))

  not_top : (p : Node) → Simple p → is_top p ≡ false
  unfolding is_top
  not_top p s = by_test (is 34 p) (λ e. rw (e, no_rest p e s)) (λ e. rw e)

  assignments_same : (n : Node) → Simple n → step_assignment c n ≡ unchanged n
  unfolding step_assignment
  assignments_same n s =
      let t = node_at 1 n s in
      rw (array_none (depth (target n)) (target n) t, step_assignment, not_top (target n) t, has_none (depth (target n)) (target n) t)

  -- the heads

  moved_in : (is : Items) → SimpleItems is → gather moved_from is ≡ Items.none
  moved_in is s = gather_none moved_from from_none is s

  refs_none : references c Items.none ≡ Items.none
  unfolding each
  refs_none = refl

  heads_none : (is : Items) → SimpleItems is → references c (gather moved_from is) ≡ Items.none
  heads_none is s = ap (references c) (moved_in is s) ∙ refs_none

  function_makes_lem : (n : Node) → Simple n → function_makes c n ≡ Items.none
  unfolding function_makes
  function_makes_lem n s = cond_none (stands 5 n) (references c (gather moved_from (items_at_of 3 n))) (heads_none (items_at_of 3 n) (items_at 3 n s))

  function_same : (n : Node) → Simple n → function c n ≡ n
  unfolding function
  function_same n s = rw (and_none (stands 5 n) (any is_moved (items_at_of 3 n)) (any_none is_moved moved_none (items_at_of 3 n) (items_at 3 n s)))

  arrow_makes_lem : (n : Node) → Simple n → arrow_makes c n ≡ Items.none
  unfolding arrow_makes
  arrow_makes_lem n s = heads_none (items_at_of 0 n) (items_at 0 n s)

  arrow_same : (n : Node) → Simple n → arrow c n ≡ n
  unfolding arrow
  arrow_same n s = rw (any_none is_moved moved_none (items_at_of 0 n) (items_at 0 n s))

  catch_makes_lem : (n : Node) → Simple n → catch_makes c n ≡ Items.none
  unfolding catch_makes
  catch_makes_lem n s = ap (references c) (from_none (node_at_of 0 n) (node_at 0 n s)) ∙ refs_none

  catch_same : (n : Node) → Simple n → catch c n ≡ n
  unfolding catch
  catch_same n s = rw (moved_none (node_at_of 0 n) (node_at 0 n s))

  declaring_makes_lem : (n : Node) → Simple n → declaring_makes c n ≡ Items.none
  unfolding declaring_makes
  declaring_makes_lem n s = heads_none (items_at_of 2 (node_at_of 1 n)) (items_at 2 (node_at_of 1 n) (node_at 1 n s))

  declaring_same : (n : Node) → Simple n → declaring_head c n ≡ n
  unfolding declaring_head
  declaring_same n s = rw (any_none is_moved moved_none (items_at_of 2 (node_at_of 1 n)) (items_at 2 (node_at_of 1 n) (node_at 1 n s)))

  assigning_makes_lem : (n : Node) → Simple n → assigning_makes c n ≡ Items.none
  unfolding assigning_makes
  assigning_makes_lem n s = rw (has_none (depth (node_at_of 1 n)) (node_at_of 1 n) (node_at 1 n s))

  assigning_same : (n : Node) → Simple n → assigning_head c n ≡ n
  unfolding assigning_head
  assigning_same n s = rw (has_none (depth (node_at_of 1 n)) (node_at_of 1 n) (node_at 1 n s))

  fors_same : (n : Node) → Simple n → step_for c n ≡ unchanged n
  unfolding step_for
  fors_same n s =
      by_test (is 4 (node_at_of 1 n))
      (λ d. rw (d, step_for) (rewritten_same (declaring_makes c n) (declaring_head c n) n (declaring_makes_lem n s) (declaring_same n s)))
      (λ d. rw (d, step_for, array_none (depth (node_at_of 1 n)) (node_at_of 1 n) (node_at 1 n s)) (rewritten_same (assigning_makes c n) (assigning_head c n) n (assigning_makes_lem n s) (assigning_same n s)))

  literal_same : (n : Node) → is 24 n ≡ true → Simple n → literal n ≡ n
  unfolding literal is items_at_of
  literal_same (node at k fs) e (simple o l s) = rw (l e)

  declares_whole : (n : Node) → is 4 n ≡ true → Proper n → NoHoles (items_at_of 2 n)
  unfolding is items_at_of
  declares_whole (node at k fs) e (proper names objects holes temporary helper p) = holes e

  -- a node without object rest and spread is left as it stands
  pub rewrite_same : (n : Node) → Simple n → Proper n → rewrite c n ≡ unchanged n
  unfolding rewrite is
  rewrite_same n s p =
      by_rule_lem (rule_of (kind n))
      (λ e. rw (e, rewrite) (rewritten_same Items.none (literal n) n refl (literal_same n (literals_24 (kind n) e) s)))
      (λ e. rw (e, rewrite) (declarations_same n s (declares_whole n (declarations_4 (kind n) e) p)))
      (λ e. rw (e, rewrite) (assignments_same n s))
      (λ e. rw (e, rewrite) (rewritten_same (function_makes c n) (function c n) n (function_makes_lem n s) (function_same n s)))
      (λ e. rw (e, rewrite) (rewritten_same (arrow_makes c n) (arrow c n) n (arrow_makes_lem n s) (arrow_same n s)))
      (λ e. rw (e, rewrite) (rewritten_same (catch_makes c n) (catch c n) n (catch_makes_lem n s) (catch_same n s)))
      (λ e. rw (e, rewrite) (fors_same n s))
      (λ e. rw (e, rewrite) refl)

  walked_same : (n : Node) → Simple n → Proper n → walked c n ≡ inside (unchanged n).note (λ i j m. walked (within c n i j) m) n
  walked_same n s p =
      walked_is c n
      ∙ ap (λ (t : Step). inside t.note (λ i j m. walked (within c t.result i j) m) t.result) (rewrite_same n s p)

-- ---- the tree comes back

pub positive : (next m : ℕ) → 0 < m → marked next m ≡ m
positive next zero h = absurd (omega arith)
positive next (suc m) h = refl

mutual
  unfolding bare inside each_field each_piece each_item_of

  pub bare_same : (n : Node) → Simple n → Proper n → (c : Context) (next : ℕ) → bare next (walked c n) ≡ n
  bare_same (node at k fs) (simple o l s) (proper names objects holes temporary helper p) c next =
      ap (bare next) (walked_same c (node at k fs) (simple o l s) (proper names objects holes temporary helper p))
      ∙ ap (node at k) (fields_same fs s p c (node at k fs) 0 next)

  fields_same : (fs : Fields) → SimpleFields fs → ProperFields fs → (c : Context) (n : Node) (i next : ℕ)
      → bare_fields next (each_field (λ i j m. walked (within c n i j) m) i fs) ≡ fs
  fields_same Fields.done SimpleFields.done ProperFields.done c n i next = refl
  fields_same (Fields.absent fs) (SimpleFields.absent s) (ProperFields.absent p) c n i next = ap Fields.absent (fields_same fs s p c n (suc i) next)
  fields_same (Fields.field q fs) (SimpleFields.field t s) (ProperFields.field u p) c n i next =
      ap₂ Fields.field (piece_same q t u c n i next) (fields_same fs s p c n (suc i) (next + new_in_piece (each_piece (λ j m. walked (within c n i j) m) q)))

  piece_same : (q : Piece) → SimplePiece q → ProperPiece q → (c : Context) (n : Node) (i next : ℕ) → bare_piece next (each_piece (λ j m. walked (within c n i j) m) q) ≡ q
  piece_same (Piece.one k) (SimplePiece.one s) (ProperPiece.one p) c n i next = ap Piece.one (bare_same k s p (within c n i 0) next)
  piece_same (Piece.list is) (SimplePiece.list s) (ProperPiece.list p) c n i next = ap Piece.list (items_same is s p c n i 0 next)
  piece_same (Piece.text bs) SimplePiece.text ProperPiece.text c n i next = refl
  piece_same (Piece.byte b) SimplePiece.byte ProperPiece.byte c n i next = refl
  piece_same (Piece.mark b) SimplePiece.mark (ProperPiece.mark h) c n i next = ap Piece.mark (positive next b h)
  piece_same (Piece.number b) SimplePiece.number ProperPiece.number c n i next = refl

  items_same : (is : Items) → SimpleItems is → ProperItems is → (c : Context) (n : Node) (i j next : ℕ) → bare_items next (each_item_of (λ j m. walked (within c n i j) m) j is) ≡ is
  items_same Items.none SimpleItems.none ProperItems.none c n i j next = refl
  items_same (Items.hole is) (SimpleItems.hole s) (ProperItems.hole p) c n i j next = ap Items.hole (items_same is s p c n i (suc j) next)
  items_same (Items.item k is) (SimpleItems.item t s) (ProperItems.item u p) c n i j next =
      ap₂ Items.item (bare_same k t u (within c n i j) next) (items_same is s p c n i (suc j) (next + new_in (walked (within c n i j) k)))

-- ---- and nothing else

abbrev Silent : Note → Type 0
Silent note = (note.refusal ≡ 0) × (note.entry ≡ Items.none) × (note.excluded ≡ Items.none)

mutual
  unfolding visits inside each_field each_piece each_item_of

  quiet : (n : Node) → Simple n → Proper n → (c : Context) (next m : ℕ) → AllNotes Silent (visits next m (walked c n))
  quiet (node at k fs) (simple o l s) (proper names objects holes temporary helper p) c next m =
      subst (λ (w : Walked). AllNotes Silent (visits next m w)) (sym (walked_same c (node at k fs) (simple o l s) (proper names objects holes temporary helper p)))
      ((refl, refl, refl), quiet_fields fs s p c (node at k fs) (is_container k) 0 next m)

  quiet_fields : (fs : Fields) → SimpleFields fs → ProperFields fs → (c : Context) (n : Node) (l : Bool) (i next m : ℕ)
      → AllNotes Silent (visits_fields l next m (each_field (λ i j k. walked (within c n i j) k) i fs))
  quiet_fields Fields.done SimpleFields.done ProperFields.done c n l i next m = tt
  quiet_fields (Fields.absent fs) (SimpleFields.absent s) (ProperFields.absent p) c n l i next m = quiet_fields fs s p c n l (suc i) next m
  quiet_fields (Fields.field q fs) (SimpleFields.field t s) (ProperFields.field u p) c n l i next m =
      let e = each_piece (λ j k. walked (within c n i j) k) q in
      both Silent (visits_piece l next m e) (visits_fields l (next + new_in_piece e) m (each_field (λ i j k. walked (within c n i j) k) (suc i) fs))
      (quiet_piece q t u c n l i next m) (quiet_fields fs s p c n l (suc i) (next + new_in_piece e) m)

  quiet_piece : (q : Piece) → SimplePiece q → ProperPiece q → (c : Context) (n : Node) (l : Bool) (i next m : ℕ)
      → AllNotes Silent (visits_piece l next m (each_piece (λ j k. walked (within c n i j) k) q))
  quiet_piece (Piece.one k) (SimplePiece.one s) (ProperPiece.one p) c n l i next m = quiet k s p (within c n i 0) next m
  quiet_piece (Piece.list is) (SimplePiece.list s) (ProperPiece.list p) c n l i next m = quiet_items is s p c n l i 0 next m
  quiet_piece (Piece.text bs) SimplePiece.text ProperPiece.text c n l i next m = tt
  quiet_piece (Piece.byte b) SimplePiece.byte ProperPiece.byte c n l i next m = tt
  quiet_piece (Piece.mark b) SimplePiece.mark (ProperPiece.mark h) c n l i next m = tt
  quiet_piece (Piece.number b) SimplePiece.number ProperPiece.number c n l i next m = tt

  quiet_items : (is : Items) → SimpleItems is → ProperItems is → (c : Context) (n : Node) (l : Bool) (i j next m : ℕ)
      → AllNotes Silent (visits_items l next m (each_item_of (λ j k. walked (within c n i j) k) j is))
  quiet_items Items.none SimpleItems.none ProperItems.none c n l i j next m = tt
  quiet_items (Items.hole is) (SimpleItems.hole s) (ProperItems.hole p) c n l i j next m = quiet_items is s p c n l i (suc j) next m
  quiet_items (Items.item k is) (SimpleItems.item t s) (ProperItems.item u p) c n l i j next m =
      let w = walked (within c n i j) k in
      let a = cond l (marked next (mark_of w)) m in
      both Silent (visits next a w) (visits_items l (next + new_in w) m (each_item_of (λ j k. walked (within c n i j) k) (suc j) is))
      (quiet k t u (within c n i j) next a) (quiet_items is s p c n l i (suc j) (next + new_in w) m)

first_none : (vs : List Visit) → AllNotes Silent vs → first_refusal vs ≡ 0
unfolding first_refusal
first_none [] h = refl
first_none (v ∷ vs) h = rw (h.0.0, first_refusal) (first_none vs h.1)

entries_none : (vs : List Visit) → AllNotes Silent vs → entries vs ≡ []
unfolding entries over entry_at
entries_none [] h = refl
entries_none (v ∷ vs) h = rw (ap is_empty h.0.1 ∙ none_empty) (entries_none vs h.1)

excluded_none : (vs : List Visit) → AllNotes Silent vs → excluded_in vs ≡ Items.none
unfolding excluded_in ◌+++◌
excluded_none [] h = refl
excluded_none (v ∷ vs) h = rw h.0.2 (excluded_none vs h.1)

-- ---- no temporary is numbered, no helper is used

module _ (ns : List Name) where
  mutual
    unfolding numbered

    numbered_same : (n : Node) → Proper n → numbered ns n ≡ n
    numbered_same (node at k fs) (proper names objects holes temporary helper p) = rw temporary (ap (node at k) (numbered_fields_lem fs p))

    numbered_fields_lem : (fs : Fields) → ProperFields fs → numbered_fields ns fs ≡ fs
    numbered_fields_lem Fields.done ProperFields.done = refl
    numbered_fields_lem (Fields.absent fs) (ProperFields.absent p) = ap Fields.absent (numbered_fields_lem fs p)
    numbered_fields_lem (Fields.field q fs) (ProperFields.field u p) = ap₂ Fields.field (numbered_piece_lem q u) (numbered_fields_lem fs p)

    numbered_piece_lem : (q : Piece) → ProperPiece q → numbered_piece ns q ≡ q
    numbered_piece_lem (Piece.one n) (ProperPiece.one p) = ap Piece.one (numbered_same n p)
    numbered_piece_lem (Piece.list is) (ProperPiece.list p) = ap Piece.list (numbered_items_lem is p)
    numbered_piece_lem (Piece.text bs) ProperPiece.text = refl
    numbered_piece_lem (Piece.byte b) ProperPiece.byte = refl
    numbered_piece_lem (Piece.mark b) (ProperPiece.mark h) = refl
    numbered_piece_lem (Piece.number b) ProperPiece.number = refl

    numbered_items_lem : (is : Items) → ProperItems is → numbered_items ns is ≡ is
    numbered_items_lem Items.none ProperItems.none = refl
    numbered_items_lem (Items.hole is) (ProperItems.hole p) = ap Items.hole (numbered_items_lem is p)
    numbered_items_lem (Items.item n is) (ProperItems.item u p) = ap₂ Items.item (numbered_same n u) (numbered_items_lem is p)

module _ (h : ℕ) where
  uses_append : (xs ys : List Node) → uses h xs ≡ false → uses h ys ≡ false → uses h (xs ++ ys) ≡ false
  unfolding uses
  uses_append [] ys a b = b
  uses_append (n ∷ xs) ys a b = or_both (is 21 n && eqb (number_at 0 n) h) (uses h xs) (uses h (xs ++ ys)) a (λ z. uses_append xs ys z b)
    where
      or_both : (p q r : Bool) → p || q ≡ false → (q ≡ false → r ≡ false) → p || r ≡ false
      or_both true q r z f = z
      or_both false q r z f = f z

  mutual
    unfolding uses nodes is

    unused : (n : Node) → Proper n → uses h (nodes n) ≡ false
    unused (node at k fs) (proper names objects holes temporary helper p) = rw helper (unused_fields fs p)

    unused_fields : (fs : Fields) → ProperFields fs → uses h (nodes_fields fs) ≡ false
    unused_fields Fields.done ProperFields.done = refl
    unused_fields (Fields.absent fs) (ProperFields.absent p) = unused_fields fs p
    unused_fields (Fields.field q fs) (ProperFields.field u p) = uses_append (nodes_piece q) (nodes_fields fs) (unused_piece q u) (unused_fields fs p)

    unused_piece : (q : Piece) → ProperPiece q → uses h (nodes_piece q) ≡ false
    unused_piece (Piece.one n) (ProperPiece.one p) = unused n p
    unused_piece (Piece.list is) (ProperPiece.list p) = unused_items is p
    unused_piece (Piece.text bs) ProperPiece.text = refl
    unused_piece (Piece.byte b) ProperPiece.byte = refl
    unused_piece (Piece.mark b) (ProperPiece.mark m) = refl
    unused_piece (Piece.number b) ProperPiece.number = refl

    unused_items : (is : Items) → ProperItems is → uses h (nodes_items is) ≡ false
    unused_items Items.none ProperItems.none = refl
    unused_items (Items.hole is) (ProperItems.hole p) = unused_items is p
    unused_items (Items.item n is) (ProperItems.item u p) = uses_append (nodes n) (nodes_items is) (unused n u) (unused_items is p)

mask_none : (n : Node) → Proper n → helper_mask n ≡ 0
unfolding helper_mask mask_from
mask_none n p = rw (unused 1 n p, unused 2 n p, unused 3 n p, unused 4 n p, unused 5 n p)

-- ---- the result

empty_list : (ns : List Name) → list_bytes ns [] Items.none ≡ 0 ∷ 0 ∷ 0 ∷ 0 ∷ []
unfolding list_bytes over declarator_bytes numbered Rattle.tree.specs.Tree.count encode
empty_list ns = refl

collected_same : (o : ℕ) (s : Lent) (n : Node) → Proper n → collected o s n [] Items.none ≡ fitted s 0 o (encode n) (0 ∷ 0 ∷ 0 ∷ 0 ∷ [])
unfolding collected
collected_same o s n p =
    let ns = names_of n [] Items.none in
    rw (mask_none n p, numbered_same ns n p, empty_list ns)

walk_result : (o : ℕ) (s : Lent) (next : ℕ) (n : Node) → Simple n → Proper n → after_walk o s next (walked top n) ≡ fitted s 0 o (encode n) (0 ∷ 0 ∷ 0 ∷ 0 ∷ [])
unfolding after_walk
walk_result o s next n q p =
    let vs = visits next 0 (walked top n) in
    let a = quiet n q p top next 0 in
    rw (first_none vs a, after_walk, entries_none vs a, excluded_none vs a, bare_same n q p top next) (collected_same o s n p)

-- a tree that is accepted and has no object rest and no spread comes back as it is
pub simple_result : (limit o : ℕ) (tree : List ℕ) (s : Lent) (n : Node) (q next : ℕ) → read_tree input limit tree ≡ got n q next → Simple n → Admitted limit o s
    → lowering limit o tree s ≡ fitted s 0 (in_force o) (encode n) (0 ∷ 0 ∷ 0 ∷ 0 ∷ [])
unfolding after_reading
simple_result limit o tree s n q next e z a =
    reading_decides limit o tree s a ∙ rw e (walk_result (in_force o) s next n z (accepted_good limit tree n q next e).fine)

-- byte for byte, for the reader's trees encode to what was read
pub simple_bytes : (limit o : ℕ) (tree : List ℕ) (s : Lent) (n : Node) (q next : ℕ) → Bytes tree → read_tree input limit tree ≡ got n q next → Simple n → Admitted limit o s
    → lowering limit o tree s ≡ fitted s 0 (in_force o) tree (0 ∷ 0 ∷ 0 ∷ 0 ∷ [])
simple_bytes limit o tree s n q next b e z a =
    simple_result limit o tree s n q next e z a ∙ ap (λ (bs : List ℕ). fitted s 0 (in_force o) bs (0 ∷ 0 ∷ 0 ∷ 0 ∷ [])) (sound input limit tree n q next b e).bytes
