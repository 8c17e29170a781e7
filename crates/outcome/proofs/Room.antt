-- In a tree that fits the grammar and stands where its bytes do, each cell may be made once at most, and no cell past its bytes.
-- Assumes nothing.
use mathlib.Core.Path.{◌≡◌, refl, sym, ap, subst}
use mathlib.Core.Bool.{Bool, true, false, cond, ◌||◌}
use mathlib.Core.List.{List, ◌++◌}
use mathlib.Core.Logic.{⊎_elim}
use Prim.Native.Nat.{ℕ, zero, suc, ◌+◌, ◌<◌, ◌≤◌}
use native.Mathlib.Omega.{arith}
use lib.Dec.{eqb, leb}
use lib.ListN.{length, length-append}
use borrow.Author.Tests.{eqb-true, eqb-false, leb-true, leb-false, le-leb, lt-leb}
use Rattle.tree.specs.Tree.{Node, Fields, Piece, Items, wide_bytes, encode, encode_fields, encode_piece, encode_items, placed, placed_fields, placed_piece, placed_items}
use Rattle.tree.specs.Tree.Node.{node}
use Rattle.tree.specs.Grammar.{Sort, Field, form_at, fields_of}
use Rattle.tree.specs.Grammar.Stage.{input}
use Rattle.tree.specs.Read.{sort_in}
use Rattle.tree.specs.WellFormed.{Fits, FitFields, FitPiece, FitItems, byte_in}
use Rattle.lowering.specs.Parts.{nothing, position, kind, is, piece_in, stands_in, as_node, as_items_of, node_at_of, items_at_of}
use Rattle.lowering.specs.Assignments.{is_top}
use Rattle.lowering.specs.Declarations.{is_name_of}
use Rattle.lowering.specs.Patterns.{has_rest_of}
use Rattle.lowering.proofs.All.{AllItems}
use Rattle.lowering.proofs.Cases.{by_test, and_left}
use Rattle.lowering.proofs.Sites.{here, here_items}
use Rattle.lowering.proofs.Accepted.{on, on_later, on_most}
use Rattle.outcome.proofs.Asked.{LeadList, Known, known}
use Rattle.outcome.proofs.FittingIsGood.{Firm, FirmFields, FirmItems, fields_node, fields_items, items_firm, from_odds, same_kind, not_37, fits_good}
use Rattle.outcome.proofs.Potential.{is_pattern, gone, slot, slot_moved, slot_value, slot_top, slots, slot_values, head, heads, head_catch, head_for, aliens, resting, declaring, own, pot, pot_fields, pot_piece, pot_items, moved_less}
use Rattle.outcome.proofs.PotentialViews.{slot_34, slot_not}

module _ (x : ℕ) where
  -- ---- positions from one on

  on_step : (at : ℕ) → here x at + on x (at + 1) ≡ on x at
  unfolding here on
  on_step at =
      by_test (eqb x at)
      (λ e.
      let z : x ≡ at = eqb-true x at e in
      let u : leb (at + 1) x ≡ false = lt-leb (at + 1) x (omega arith) in
      let v : leb at x ≡ true = le-leb at x (omega arith) in
      rw (e, u, v) refl)
      (λ e.
      let z : x ≡ at → ⊥ = eqb-false x at e in
      by_test (leb at x)
      (λ f. let g : at ≤ x = leb-true at x f in let u : leb (at + 1) x ≡ true = le-leb (at + 1) x (omega arith) in rw (e, f, u) refl)
      (λ f. let g : x < at = leb-false at x f in let u : leb (at + 1) x ≡ false = lt-leb (at + 1) x (omega arith) in rw (e, f, u) refl))

  on_past : (at : ℕ) → at ≤ x → on x at ≡ 1
  unfolding on
  on_past at h = rw (le-leb at x h) refl

  on_two : (at : ℕ) → here x at + (here x (at + 1) + on x (at + 2)) ≡ on x at
  on_two at = let a = on_step at in let b = on_step (at + 1) in let e : at + 1 + 1 ≡ at + 2 = omega arith in let e' = ap (on x) e in omega arith

  -- ---- what the parents of a node may count of it

  unfoldable moved_slots : Items → ℕ
  moved_slots Items.none = 0
  moved_slots (Items.hole ds) = moved_slots ds
  moved_slots (Items.item d ds) = slot_moved x (node_at_of 0 d) + moved_slots ds

  unfoldable reserve : Node → ℕ
  reserve n =
      cond (is 34 n || is 36 n) (here x (position n) + here x (position n + 2))
      (cond (is 35 n) (here x (position n) + slot x (node_at_of 1 n))
      (cond (is 15 n || is 5 n) (slot_moved x (node_at_of 0 n))
      (cond (is 4 n) (moved_slots (items_at_of 2 n)) 0)))

  unfoldable reserve_items : Items → ℕ
  reserve_items Items.none = 0
  reserve_items (Items.hole ns) = reserve_items ns
  reserve_items (Items.item n ns) = reserve n + reserve_items ns

  unfoldable reserve_piece : Piece → ℕ
  reserve_piece (Piece.one n) = reserve n
  reserve_piece (Piece.list ns) = reserve_items ns
  reserve_piece (Piece.text bs) = 0
  reserve_piece (Piece.byte b) = 0
  reserve_piece (Piece.mark b) = 0
  reserve_piece (Piece.number b) = 0

  unfoldable reserve_fields : Fields → ℕ
  reserve_fields Fields.done = 0
  reserve_fields (Fields.absent fs) = reserve_fields fs
  reserve_fields (Fields.field p fs) = reserve_piece p + reserve_fields fs

  nothing_reserve : reserve nothing ≡ 0
  unfolding reserve is
  nothing_reserve = refl

  as_node_lem : (p : Piece) → reserve (as_node p) ≤ reserve_piece p
  unfolding reserve_piece
  as_node_lem (Piece.one n) = omega arith
  as_node_lem (Piece.list ns) = let z = nothing_reserve in omega arith
  as_node_lem (Piece.text bs) = let z = nothing_reserve in omega arith
  as_node_lem (Piece.byte b) = let z = nothing_reserve in omega arith
  as_node_lem (Piece.mark b) = let z = nothing_reserve in omega arith
  as_node_lem (Piece.number b) = let z = nothing_reserve in omega arith

  as_items : (p : Piece) → reserve_items (as_items_of p) ≤ reserve_piece p
  unfolding reserve_piece reserve_items
  as_items (Piece.one n) = omega arith
  as_items (Piece.list ns) = omega arith
  as_items (Piece.text bs) = omega arith
  as_items (Piece.byte b) = omega arith
  as_items (Piece.mark b) = omega arith
  as_items (Piece.number b) = omega arith

  piece_in_lem : (fs : Fields) (i : ℕ) → reserve_piece (piece_in fs i) ≤ reserve_fields fs
  unfolding reserve_fields piece_in reserve_piece
  piece_in_lem Fields.done i = omega arith
  piece_in_lem (Fields.absent fs) zero = omega arith
  piece_in_lem (Fields.absent fs) (suc i) = piece_in_lem fs i
  piece_in_lem (Fields.field p fs) zero = omega arith
  piece_in_lem (Fields.field p fs) (suc i) = let h = piece_in_lem fs i in omega arith

  first_two : (fs : Fields) → reserve_piece (piece_in fs 0) + reserve_piece (piece_in fs 1) ≤ reserve_fields fs
  unfolding reserve_fields piece_in reserve_piece
  first_two Fields.done = omega arith
  first_two (Fields.absent fs) = let h = piece_in_lem fs 0 in omega arith
  first_two (Fields.field p fs) = let h = piece_in_lem fs 0 in omega arith

  node_room : (i : ℕ) (fs : Fields) → reserve (as_node (piece_in fs i)) ≤ reserve_fields fs
  node_room i fs = let a = as_node_lem (piece_in fs i) in let b = piece_in_lem fs i in omega arith

  items_room : (i : ℕ) (fs : Fields) → reserve_items (as_items_of (piece_in fs i)) ≤ reserve_fields fs
  items_room i fs = let a = as_items (piece_in fs i) in let b = piece_in_lem fs i in omega arith

  both_room : (fs : Fields) → reserve_items (as_items_of (piece_in fs 0)) + reserve (as_node (piece_in fs 1)) ≤ reserve_fields fs
  both_room fs = let a = as_items (piece_in fs 0) in let b = as_node_lem (piece_in fs 1) in let c = first_two fs in omega arith

  -- ---- by kind

  reserve_at : (at k j : ℕ) (fs : Fields) → eqb k j ≡ true → reserve (node at k fs) ≡ reserve (node at j fs)
  reserve_at at k j fs e = ap (λ (m : ℕ). reserve (node at m fs)) (eqb-true k j e)

  reserve_35 : (q : Node) → is 35 q ≡ true → reserve q ≡ here x (position q) + slot x (node_at_of 1 q)
  unfolding is reserve node_at_of
  reserve_35 (node at k fs) e = reserve_at at k 35 fs e

  reserve_15 : (q : Node) → is 15 q ≡ true → reserve q ≡ slot_moved x (node_at_of 0 q)
  unfolding is reserve node_at_of
  reserve_15 (node at k fs) e = reserve_at at k 15 fs e

  reserve_5 : (d : Node) → is 5 d ≡ true → reserve d ≡ slot_moved x (node_at_of 0 d)
  unfolding is reserve node_at_of
  reserve_5 (node at k fs) e = reserve_at at k 5 fs e

  reserve_4 : (n : Node) → is 4 n ≡ true → reserve n ≡ moved_slots (items_at_of 2 n)
  unfolding is reserve items_at_of
  reserve_4 (node at k fs) e = reserve_at at k 4 fs e

  reserve_34 : (p : Node) → is 34 p ≡ true → reserve p ≡ here x (position p) + here x (position p + 2)
  unfolding is reserve
  reserve_34 (node at k fs) e = reserve_at at k 34 fs e

  reserve_36 : (p : Node) → is 36 p ≡ true → reserve p ≡ here x (position p) + here x (position p + 2)
  unfolding is reserve
  reserve_36 (node at k fs) e = reserve_at at k 36 fs e

  slot_room : (p : Node) → slot x p ≤ reserve p
  slot_room p =
      by_test (is 34 p)
      (λ e. let r = reserve_34 p e in let s = slot_34 x p e in omega arith)
      (λ e. let s = slot_not x p e in omega arith)

  moved_room : (p : Node) → slot_moved x p ≤ reserve p
  moved_room p = let s = slot_room p in let l = moved_less x p in omega arith

  slots_room : (ns : Items) → slots x ns ≤ reserve_items ns
  unfolding slots reserve_items
  slots_room Items.none = omega arith
  slots_room (Items.hole ns) = slots_room ns
  slots_room (Items.item n ns) = let a = slot_room n in let b = slots_room ns in omega arith

  values_room : (ns : Items) → AllItems (λ n. eqb 35 (kind n) ≡ true) ns → slot_values x ns + here_items x ns ≤ reserve_items ns
  unfolding slot_values here_items reserve_items
  values_room Items.none h = omega arith
  values_room (Items.hole ns) h = values_room ns h
  values_room (Items.item n ns) h = let a = reserve_35 n (same_kind 35 n h.0) in let b = values_room ns h.1 in omega arith

  head_room : (q : Node) → is 15 q ≡ true → Firm q → head x q ≤ reserve q
  unfolding head
  head_room q e f = let a = reserve_15 q e in let b = from_odds x q f in omega arith

  heads_room : (ns : Items) → AllItems (λ n. eqb 15 (kind n) ≡ true) ns → FirmItems ns → heads x ns ≤ reserve_items ns
  unfolding heads reserve_items
  heads_room Items.none h f = omega arith
  heads_room (Items.hole ns) h f = heads_room ns h f
  heads_room (Items.item n ns) h f = let a = head_room n (same_kind 15 n h.0) f.0 in let b = heads_room ns h.1 f.1 in omega arith

  declared_heads : (ds : Items) → FirmItems ds → heads x ds ≡ moved_slots ds
  unfolding heads moved_slots head
  declared_heads Items.none f = refl
  declared_heads (Items.hole ds) f = declared_heads ds f
  declared_heads (Items.item d ds) f = let a = from_odds x d f.0 in let b = declared_heads ds f.1 in omega arith

  declared_room : (ds : Items) → AllItems (λ n. eqb 5 (kind n) ≡ true) ds → (aliens x ds ≡ 0) × (moved_slots ds ≤ reserve_items ds)
  unfolding aliens moved_slots reserve_items
  declared_room Items.none h = (refl, omega arith)
  declared_room (Items.hole ds) h = declared_room ds h
  declared_room (Items.item d ds) h =
      let e = same_kind 5 d h.0 in
      let a = reserve_5 d e in
      let r = declared_room ds h.1 in
      let u = r.0 in
      let v = r.1 in
      (rw e (omega arith), omega arith)

  -- ---- one node: what it counts itself, and what it reserves

  -- an object or array pattern begins with a list, whose count is at its third byte
  unfoldable lead : ℕ → ℕ → ℕ
  lead at k = cond (eqb k 34 || eqb k 36) (here x (at + 2)) 0

  abbrev Roomy : ℕ → ℕ → Fields → Type 0
  Roomy at k fs = own x at k fs + reserve (node at k fs) ≤ reserve_fields fs + (here x at + (here x (at + 1) + lead at k))

  object_roomy : (at : ℕ) (fs : Fields) → Known 34 fs → Roomy at 34 fs
  unfolding own reserve lead is resting
  object_roomy at fs w =
      let v = values_room (as_items_of (piece_in fs 0)) (w.properties refl) in
      let i = items_room 0 fs in
      by_test (stands_in fs 1) (λ e. rw e (omega arith)) (λ e. rw e (omega arith))

  array_roomy : (at : ℕ) (fs : Fields) → Roomy at 36 fs
  unfolding own reserve lead is
  array_roomy at fs =
      let a = slots_room (as_items_of (piece_in fs 0)) in let b = slot_room (as_node (piece_in fs 1)) in let c = both_room fs in omega arith

  default_roomy : (at : ℕ) (fs : Fields) → Roomy at 37 fs
  unfolding own reserve lead is
  default_roomy at fs =
      let a = slot_room (as_node (piece_in fs 0)) in
      let b = node_room 0 fs in
      by_test (gone (as_node (piece_in fs 0))) (λ e. rw e (omega arith)) (λ e. rw e (omega arith))

  property_roomy : (at : ℕ) (fs : Fields) → Roomy at 35 fs
  unfolding own reserve lead is node_at_of
  property_roomy at fs = let a = slot_room (as_node (piece_in fs 1)) in let b = node_room 1 fs in omega arith

  param_roomy : (at : ℕ) (fs : Fields) → Roomy at 15 fs
  unfolding own reserve lead is node_at_of
  param_roomy at fs = let a = moved_room (as_node (piece_in fs 0)) in let b = node_room 0 fs in omega arith

  function_roomy : (at : ℕ) (fs : Fields) → Known 14 fs → FirmFields fs → Roomy at 14 fs
  unfolding own reserve lead is
  function_roomy at fs w f = let a = heads_room (as_items_of (piece_in fs 3)) (w.function refl) (fields_items 3 fs f) in let b = items_room 3 fs in omega arith

  arrow_roomy : (at : ℕ) (fs : Fields) → Known 17 fs → FirmFields fs → Roomy at 17 fs
  unfolding own reserve lead is
  arrow_roomy at fs w f = let a = heads_room (as_items_of (piece_in fs 0)) (w.arrow refl) (fields_items 0 fs f) in let b = items_room 0 fs in omega arith

  -- the parameter of a Catch, or none
  param_no_pattern : (q : Node) → is 15 q ≡ true → is_pattern q ≡ false
  unfolding is_pattern is
  param_no_pattern (node at k fs) e = ap (λ (m : ℕ). is_pattern (node at m fs)) (eqb-true k 15 e)

  catch_param : (q : Node) → is 15 q ≡ true → Firm q → head_catch x q ≤ reserve q
  unfolding head_catch
  catch_param q e f = rw (param_no_pattern q e) (head_room q e f)

  catch_none : (q : Node) → q ≡ nothing → Firm q → head_catch x q ≡ 0
  unfolding head_catch head is_pattern is slot_moved node_at_of piece_in
  catch_none q e f =
      let a : is_pattern q ≡ false = ap is_pattern e in
      let b : slot_moved x (node_at_of 0 q) ≡ 0 = ap (λ (n : Node). slot_moved x (node_at_of 0 n)) e in
      let c = from_odds x q f in
      rw a (omega arith)

  catch_roomy : (at : ℕ) (fs : Fields) → Known 10 fs → FirmFields fs → Roomy at 10 fs
  unfolding own reserve lead is
  catch_roomy at fs w f =
      let q = as_node (piece_in fs 0) in
      let b = node_room 0 fs in
      let g = fields_node 0 fs f in
      ⊎_elim
      (λ e. let a = catch_param q (same_kind 15 q e) g in omega arith)
      (λ e. let a = catch_none q e g in omega arith)
      (w.catch refl)

  -- the left of a ForIn or ForOf
  slot_array : (l : Node) → is 36 l ≡ true → slot x l ≡ 0
  unfolding slot is
  slot_array (node at k fs) e = ap (λ (m : ℕ). slot x (node at m fs)) (eqb-true k 36 e)

  for_room : (l : Node) → is 37 l ≡ false → Firm l → head_for x l ≤ reserve l
  unfolding head_for
  for_room l d f =
      by_test (is 4 l)
      (λ e. let a = declared_heads (items_at_of 2 l) (items_firm 2 l f) in let b = reserve_4 l e in rw e (omega arith))
      (λ e.
      by_test (is 36 l)
      (λ g. let a = slot_array l g in let b = reserve_36 l g in rw (e, g) (omega arith))
      (λ g. let a = slot_room l in rw (e, g, d) (omega arith)))

  for_in_roomy : (at : ℕ) (fs : Fields) → Known 7 fs → FirmFields fs → Roomy at 7 fs
  unfolding own reserve lead is
  for_in_roomy at fs w f =
      let a = for_room (as_node (piece_in fs 1)) (not_37 (as_node (piece_in fs 1)) (w.for refl)) (fields_node 1 fs f) in
      let b = node_room 1 fs in
      omega arith

  for_of_roomy : (at : ℕ) (fs : Fields) → Known 8 fs → FirmFields fs → Roomy at 8 fs
  unfolding own reserve lead is
  for_of_roomy at fs w f =
      let a = for_room (as_node (piece_in fs 1)) (not_37 (as_node (piece_in fs 1)) (w.for refl)) (fields_node 1 fs f) in
      let b = node_room 1 fs in
      omega arith

  top_room : (p : Node) → slot_top x p ≤ reserve p
  unfolding slot_top is_top
  top_room p =
      by_test (is_top p)
      (λ e. let a = reserve_34 p (and_left (is 34 p) (has_rest_of p) e) in rw e (omega arith))
      (λ e. rw e (omega arith))

  assignment_roomy : (at : ℕ) (fs : Fields) → Roomy at 27 fs
  unfolding own reserve lead is
  assignment_roomy at fs = let a = top_room (as_node (piece_in fs 1)) in let b = node_room 1 fs in omega arith

  -- the pattern of a Declarator
  declared_pattern : (i : Node) → is 37 i ≡ false → slot_value x i + slot_moved x i ≤ reserve i
  unfolding slot_value slot_moved is_pattern
  declared_pattern i d =
      by_test (is 34 i)
      (λ e. let a = reserve_34 i e in rw e (omega arith))
      (λ e.
      by_test (is 36 i)
      (λ g. let a = reserve_36 i g in rw (e, g) (omega arith))
      (λ g. rw (e, g, d) (omega arith)))

  declaring_less : (s : Bool) (i v : Node) → declaring x s i v ≤ slot_value x i
  unfolding declaring
  declaring_less false i v = omega arith
  declaring_less true i v = by_test (is_name_of v) (λ e. rw e (omega arith)) (λ e. rw e (omega arith))

  declarator_roomy : (at : ℕ) (fs : Fields) → Known 5 fs → Roomy at 5 fs
  unfolding own reserve lead is node_at_of
  declarator_roomy at fs w =
      let a = declared_pattern (as_node (piece_in fs 0)) (not_37 (as_node (piece_in fs 0)) w.first) in
      let b = declaring_less (stands_in fs 1) (as_node (piece_in fs 0)) (as_node (piece_in fs 1)) in
      let c = node_room 0 fs in
      omega arith

  declaration_roomy : (at : ℕ) (fs : Fields) → Known 4 fs → Roomy at 4 fs
  unfolding own reserve lead is items_at_of
  declaration_roomy at fs w =
      let r = declared_room (as_items_of (piece_in fs 2)) (w.declaration refl) in
      let u = r.0 in
      let v = r.1 in
      let b = items_room 2 fs in
      omega arith

  -- a node by its kind
  of_kind : (at k j : ℕ) (fs : Fields) → Known k fs → (Known j fs → Roomy at j fs) → eqb k j ≡ true → Roomy at k fs
  of_kind at k j fs w h e = let z : k ≡ j = eqb-true k j e in subst (λ (m : ℕ). Roomy at m fs) (sym z) (h (subst (λ (m : ℕ). Known m fs) z w))

  roomy : (at k : ℕ) (fs : Fields) → Known k fs → FirmFields fs → Roomy at k fs
  unfolding own reserve lead is
  roomy at k fs w f =
      by_test (eqb k 34) (of_kind at k 34 fs w (λ v. object_roomy at fs v))
      (λ a. by_test (eqb k 36) (of_kind at k 36 fs w (λ v. array_roomy at fs))
      (λ b. by_test (eqb k 37) (of_kind at k 37 fs w (λ v. default_roomy at fs))
      (λ c. by_test (eqb k 14) (of_kind at k 14 fs w (λ v. function_roomy at fs v f))
      (λ d. by_test (eqb k 17) (of_kind at k 17 fs w (λ v. arrow_roomy at fs v f))
      (λ e. by_test (eqb k 10) (of_kind at k 10 fs w (λ v. catch_roomy at fs v f))
      (λ g. by_test (eqb k 7) (of_kind at k 7 fs w (λ v. for_in_roomy at fs v f))
      (λ h. by_test (eqb k 8) (of_kind at k 8 fs w (λ v. for_of_roomy at fs v f))
      (λ i. by_test (eqb k 27) (of_kind at k 27 fs w (λ v. assignment_roomy at fs))
      (λ j. by_test (eqb k 5) (of_kind at k 5 fs w (λ v. declarator_roomy at fs v))
      (λ l. by_test (eqb k 4) (of_kind at k 4 fs w (λ v. declaration_roomy at fs v))
      (λ m. by_test (eqb k 35) (of_kind at k 35 fs w (λ v. property_roomy at fs))
      (λ n. by_test (eqb k 15) (of_kind at k 15 fs w (λ v. param_roomy at fs))
      (λ o. rw (a, b, c, d, e, g, h, i, j, l, m, n, o) (omega arith))))))))))))))

  -- ---- the bytes of a node are room enough for all that it counts and reserves

  -- two parts, one after the other
  join : (a b c d at : ℕ) (l m : List ℕ) → a + (b + on x (at + length l)) ≤ on x at → c + (d + on x (at + length l + length m)) ≤ on x (at + length l)
      → a + c + (b + d + on x (at + length (l ++ m))) ≤ on x at
  join a b c d at l m h k =
      let e = length-append l m in
      let f : at + length (l ++ m) ≡ at + length l + length m = omega arith in
      let g = ap (on x) f in
      omega arith

  -- a part behind one byte, and behind two
  behind_one : (a at : ℕ) (l : List ℕ) → a + on x (at + 1 + length l) ≤ on x (at + 1) → a + on x (at + suc (length l)) ≤ on x at
  behind_one a at l h =
      let f : at + suc (length l) ≡ at + 1 + length l = omega arith in
      let g = ap (on x) f in
      let o = on_later x at (at + 1) (omega arith) in
      omega arith

  behind_two : (a at : ℕ) (l : List ℕ) → a + on x (at + 2 + length l) ≤ on x (at + 2) → here x at + (here x (at + 1) + (a + on x (at + suc (suc (length l))))) ≤ on x at
  behind_two a at l h =
      let f : at + suc (suc (length l)) ≡ at + 2 + length l = omega arith in
      let g = ap (on x) f in
      let o = on_two at in
      omega arith

  -- the count of a list that stands first
  unfoldable lead_piece : ℕ → Piece → ℕ
  lead_piece at (Piece.one n) = 0
  lead_piece at (Piece.list ns) = here x at
  lead_piece at (Piece.text bs) = 0
  lead_piece at (Piece.byte b) = 0
  lead_piece at (Piece.mark b) = 0
  lead_piece at (Piece.number b) = 0

  unfoldable lead_fields : ℕ → Fields → ℕ
  lead_fields at Fields.done = 0
  lead_fields at (Fields.absent fs) = 0
  lead_fields at (Fields.field p fs) = lead_piece at p

  leads : (at : ℕ) (fs : Fields) → LeadList fs → lead_fields at fs ≡ here x at
  unfolding lead_fields lead_piece
  leads at Fields.done h = absurd h
  leads at (Fields.absent fs) h = absurd h
  leads at (Fields.field (Piece.one n) fs) h = absurd h
  leads at (Fields.field (Piece.list ns) fs) h = refl
  leads at (Fields.field (Piece.text bs) fs) h = absurd h
  leads at (Fields.field (Piece.byte b) fs) h = absurd h
  leads at (Fields.field (Piece.mark b) fs) h = absurd h
  leads at (Fields.field (Piece.number b) fs) h = absurd h

  lead_in : (at k : ℕ) (fs : Fields) → Known k fs → lead at k ≤ lead_fields (at + 2) fs
  unfolding lead
  lead_in at k fs w =
      by_test (eqb k 34)
      (λ e. let l = leads (at + 2) fs (w.object e) in rw e (omega arith))
      (λ e.
      by_test (eqb k 36)
      (λ f. let l = leads (at + 2) fs (w.array f) in rw (e, f) (omega arith))
      (λ f. rw (e, f) (omega arith)))

  list_fits : (at : ℕ) (ns : Items) → pot_items x ns + (reserve_items ns + on x (at + 2 + length (encode_items ns))) ≤ on x (at + 2)
      → pot_items x ns + (reserve_items ns + (here x at + on x (at + suc (suc (length (encode_items ns)))))) ≤ on x at
  list_fits at ns h = let t = behind_two (pot_items x ns + reserve_items ns) at (encode_items ns) (omega arith) in omega arith

  mutual
    unfolding pot reserve_fields reserve_piece reserve_items lead_fields lead_piece encode placed

    node_fits : (p at : ℕ) (n : Node) → Fits input p n → placed n at ≡ n → pot x n + (reserve n + on x (at + length (encode n))) ≤ on x at
    node_fits p at (node a k fs) (Fits.fits h r) e =
        let z : at ≡ a = cc in
        let w = known p a k fs h r in
        let m = roomy at k fs w (fits_good p (node a k fs) (Fits.fits h r)).2.1 in
        let l = lead_in at k fs w in
        let i = fields_fit 0 (at + 2) (fields_of (form_at input p k)) fs r (cc) in
        let t = behind_two (pot_fields x fs + (reserve_fields fs + lead at k)) at (encode_fields fs) (omega arith) in
        subst (λ (b : ℕ). own x b k fs + pot_fields x fs + (reserve (node b k fs) + on x (at + suc (suc (length (encode_fields fs))))) ≤ on x at) z (omega arith)

    fields_fit : (b at : ℕ) (ts : List Field) (fs : Fields) → FitFields input b ts fs → placed_fields fs at ≡ fs
        → pot_fields x fs + (reserve_fields fs + (lead_fields at fs + on x (at + length (encode_fields fs)))) ≤ on x at
    fields_fit b at ts Fields.done FitFields.done e = let o = on_later x at (at + 0) (omega arith) in omega arith
    fields_fit b at ts (Fields.absent fs) (FitFields.absent {ts = us} r) e = let i = fields_fit 0 at us fs r (cc) in omega arith
    fields_fit b at ts (Fields.field p fs) (FitFields.field {f = f} {ts = us} g r) e =
        let u = piece_fits_lem b at (sort_in f) p g (cc) in
        let v = fields_fit (byte_in p) (at + length (encode_piece p)) us fs r (cc) in
        let j = join (pot_piece x p) (reserve_piece p + lead_piece at p) (pot_fields x fs) (reserve_fields fs) at (encode_piece p) (encode_fields fs) (omega arith) (omega arith) in
        omega arith

    piece_fits_lem : (b at : ℕ) (s : Sort) (p : Piece) → FitPiece input b s p → placed_piece p at ≡ p
        → pot_piece x p + (reserve_piece p + (lead_piece at p + on x (at + length (encode_piece p)))) ≤ on x at
    piece_fits_lem b at s (Piece.one n) (FitPiece.child {p = q} f) e = let h = node_fits q at n f (cc) in omega arith
    piece_fits_lem b at s (Piece.one n) (FitPiece.chosen {p = q} {q = r} f) e = let h = node_fits (cond (eqb b 1) q r) at n f (cc) in omega arith
    piece_fits_lem b at s (Piece.list ns) (FitPiece.many {p = q} c r) e = list_fits at ns (items_fit q (at + 2) false ns r (cc))
    piece_fits_lem b at s (Piece.list ns) (FitPiece.gaps {p = q} c r) e = list_fits at ns (items_fit q (at + 2) true ns r (cc))
    piece_fits_lem b at s (Piece.text bs) (FitPiece.text l r) e = let o = on_later x at (at + length (wide_bytes (length bs) ++ bs)) (omega arith) in omega arith
    piece_fits_lem b at s (Piece.byte v) (FitPiece.byte l r m) e = let o = on_later x at (at + 1) (omega arith) in omega arith
    piece_fits_lem b at s (Piece.mark v) (FitPiece.mark l) e = let o = on_later x at (at + 2) (omega arith) in omega arith
    piece_fits_lem b at s (Piece.number v) (FitPiece.number l) e = let o = on_later x at (at + 2) (omega arith) in omega arith

    items_fit : (p at : ℕ) (h : Bool) (ns : Items) → FitItems input p h ns → placed_items ns at ≡ ns → pot_items x ns + (reserve_items ns + on x (at + length (encode_items ns))) ≤ on x at
    items_fit p at h Items.none FitItems.none e = let o = on_later x at (at + 0) (omega arith) in omega arith
    items_fit p at h (Items.hole ns) (FitItems.hole r) e =
        let i = items_fit p (at + 1) true ns r (cc) in
        let t = behind_one (pot_items x ns + reserve_items ns) at (encode_items ns) (omega arith) in
        omega arith
    items_fit p at h (Items.item n ns) (FitItems.item f r) e =
        join (pot x n) (reserve n) (pot_items x ns) (reserve_items ns) at (encode n) (encode_items ns)
        (node_fits p at n f (cc)) (items_fit p (at + length (encode n)) h ns r (cc))

-- a tree of bytes from 0 on
module _ (p : ℕ) (n : Node) (f : Fits input p n) (e : placed n 0 ≡ n) (x : ℕ) where
  -- each cell may be made once at most
  pub pot_most : pot x n ≤ 1
  pot_most = let h = node_fits x p 0 n f e in let o = on_most x 0 in omega arith

  -- and none past the bytes
  pub pot_past : length (encode n) ≤ x → pot x n ≡ 0
  pot_past l =
      let h = node_fits x p 0 n f e in
      let o = on_most x 0 in
      let u : 0 + length (encode n) ≡ length (encode n) = omega arith in
      let v = ap (on x) u in
      let w = on_past x (length (encode n)) l in
      omega arith
