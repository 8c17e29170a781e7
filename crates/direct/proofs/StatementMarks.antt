-- The mark of a statement in a container is the one it begins with, or the next if it is new.
-- Assumes nothing.
use mathlib.Core.Path.{◌≡◌, refl, sym, ap, ◌∙◌, fun_ext}
use mathlib.Core.Bool.{Bool, true, false, cond, ◌||◌, ◌&&◌, true≢false}
use Prim.Native.Nat.{ℕ, zero, suc}
use native.Mathlib.Omega.{arith}
use lib.Dec.{eqb}
use Rattle.tree.specs.Tree.{Node, Fields, Piece, Items}
use Rattle.tree.specs.Tree.Node.{node}
use Rattle.lowering.specs.Parts.{kind, is, piece_in, change_in, node_at_of, items_at_of, stands, change, on_node, on_items, change_node, change_items, each, gather, any}
use Rattle.lowering.specs.Made.{Context, reference, var_of, assigning}
use Rattle.lowering.specs.Patterns.{has_object_rest, has_array_rest_over_object_rest}
use Rattle.lowering.specs.Declarations.{declaration, declarators, declaration_refusal}
use Rattle.lowering.specs.Heads.{is_moved, moved_from, left_behind, in_body, as_function_body, as_block, function, arrow, catch, declaring_head, assigning_head}
use Rattle.lowering.specs.Walk.{Walked, inside, refuse, step_declaration, step_for, rule_of, rewrite, within}
use Rattle.lowering.specs.Refusals.{rest_below_array_rest}
use Rattle.lowering.specs.Walk.Rule.{literals, declarations, assignments, functions, arrows, catches, fors, nowhere}
use Rattle.lowering.specs.Weight.{walked}
use Rattle.lowering.specs.Collect.{marked, mark_of}
use Rattle.lowering.proofs.Cases.{by_test, by_rule_lem, literals_24, by_number}
use Rattle.lowering.proofs.Falls.{walked_is}
use Rattle.direct.specs.Events.{Place, Emit, context_of, emits}
use Rattle.direct.specs.Emit.{marking, mark_here, as_mark, start_mark, emits_item, emits_statement}
use Rattle.direct.proofs.OneLevel.{mark_done, emits_refused}

-- ---- changes of other fields

node_mark : (f : Node → Node) (p : Piece) → as_mark (on_node f p) ≡ as_mark p
unfolding on_node
node_mark f (Piece.one n) = refl
node_mark f (Piece.list ns) = refl
node_mark f (Piece.text bs) = refl
node_mark f (Piece.byte b) = refl
node_mark f (Piece.mark b) = refl
node_mark f (Piece.number b) = refl

items_mark : (f : Items → Items) (p : Piece) → as_mark (on_items f p) ≡ as_mark p
unfolding on_items
items_mark f (Piece.one n) = refl
items_mark f (Piece.list ns) = refl
items_mark f (Piece.text bs) = refl
items_mark f (Piece.byte b) = refl
items_mark f (Piece.mark b) = refl
items_mark f (Piece.number b) = refl

change_mark : (i : ℕ) (f : Piece → Piece) → ((p : Piece) → as_mark (f p) ≡ as_mark p) → (fs : Fields) → as_mark (piece_in (change_in fs i f) 0) ≡ as_mark (piece_in fs 0)
unfolding piece_in change_in
change_mark i f h Fields.done = refl
change_mark zero f h (Fields.absent fs) = refl
change_mark (suc i) f h (Fields.absent fs) = refl
change_mark zero f h (Fields.field p fs) = h p
change_mark (suc i) f h (Fields.field p fs) = refl

pub change_node_mark : (i : ℕ) (f : Node → Node) (n : Node) → start_mark (change_node i f n) ≡ start_mark n
unfolding start_mark change
change_node_mark i f (node at k fs) = change_mark i (on_node f) (node_mark f) fs

pub change_items_mark : (i : ℕ) (f : Items → Items) (n : Node) → start_mark (change_items i f n) ≡ start_mark n
unfolding start_mark change
change_items_mark i f (node at k fs) = change_mark i (on_items f) (items_mark f) fs

cond_mark : (b : Bool) (m n o : Node) → start_mark m ≡ start_mark o → start_mark n ≡ start_mark o → start_mark (cond b m n) ≡ start_mark o
cond_mark true m n o h k = h
cond_mark false m n o h k = k

module _ (c : Context) where
  function_mark : (n : Node) → start_mark (function c n) ≡ start_mark n
  unfolding function
  function_mark n =
      cond_mark (stands 5 n && any is_moved (items_at_of 3 n)) _ n n
      (change_node_mark 5 (λ b. in_body c (gather moved_from (items_at_of 3 n)) (as_function_body b)) (change_items 3 (each (left_behind c)) n) ∙ change_items_mark 3 (each (left_behind c)) n) refl

  arrow_mark : (n : Node) → start_mark (arrow c n) ≡ start_mark n
  unfolding arrow
  arrow_mark n =
      cond_mark (any is_moved (items_at_of 0 n)) _ n n
      (change_node_mark 2 (λ b. in_body c (gather moved_from (items_at_of 0 n)) (as_function_body b)) (change_items 0 (each (left_behind c)) n) ∙ change_items_mark 0 (each (left_behind c)) n) refl

  catch_mark : (n : Node) → start_mark (catch c n) ≡ start_mark n
  unfolding catch
  catch_mark n =
      cond_mark (is_moved (node_at_of 0 n)) _ n n
      (change_node_mark 1 (λ b. in_body c (moved_from (node_at_of 0 n)) (as_block b)) (change_node 0 (left_behind c) n) ∙ change_node_mark 0 (left_behind c) n) refl

  declaring_mark : (n : Node) → start_mark (declaring_head c n) ≡ start_mark n
  unfolding declaring_head
  declaring_mark n =
      cond_mark (any is_moved (items_at_of 2 (node_at_of 1 n))) _ n n
      (change_node_mark 3 (λ b. in_body c (gather moved_from (items_at_of 2 (node_at_of 1 n))) (as_block b)) (change_node 1 (λ l. change_items 2 (each (left_behind c)) l) n)
      ∙ change_node_mark 1 (λ l. change_items 2 (each (left_behind c)) l) n) refl

  assigning_mark : (n : Node) → start_mark (assigning_head c n) ≡ start_mark n
  unfolding assigning_head
  assigning_mark n =
      cond_mark (has_object_rest (node_at_of 1 n)) _ n n
      (change_node_mark 3 (λ b. change_items 1 (Items.item (assigning (node_at_of 1 n) (reference c (node_at_of 1 n)))) (as_block b)) (change_node 1 (λ l. var_of (reference c l)) n)
      ∙ change_node_mark 1 (λ l. var_of (reference c l)) n) refl

-- ---- the mark once a node is rewritten

inside_mark : (c : Place) (n : Node) (note : _) → mark_of (inside note (λ i j m. walked (within (context_of c) n i j) m) n) ≡ start_mark n
unfolding inside start_mark
inside_mark c (node at k fs) note =
    let r = node at k fs in
    mark_done (λ i j m. walked (within (context_of c) r i j) m) fs

pub mark_here_lem : (c : Place) (n : Node) → mark_here c n ≡ start_mark (rewrite (context_of c) n).result
unfolding mark_here
mark_here_lem c n = ap (λ (w : Walked). mark_of w) (walked_is (context_of c) n) ∙ inside_mark c (rewrite (context_of c) n).result (rewrite (context_of c) n).note

-- a node is refused, or begins with the mark that it had
pub data Begins (c : Context) (n : Node) : Type 0 where
  kept : start_mark (rewrite c n).result ≡ start_mark n → Begins c n
  gone : (r : ℕ) → rewrite c n ≡ refuse r → Begins c n

begins_same : (c : Place) (n : Node) → Begins (context_of c) n → emits_item true c n ≡ emits_statement c n
unfolding emits_item emits_statement marking
begins_same c n (kept e) = fun_ext (λ next. ap (λ (x : ℕ). emits (marking c (marked next x)) n next) (mark_here_lem c n ∙ e))
begins_same c n (gone r e) =
    fun_ext (λ next.
    ap (λ (f : Emit). f next)
    (emits_refused (marking c (marked next (mark_here c n))) n r e ∙ sym (emits_refused (marking c (marked next (start_mark n))) n r e)))

declaration_begins : (c : Context) (n : Node) → rule_of (kind n) ≡ declarations → Begins c n
unfolding rewrite step_declaration declaration
declaration_begins c n k =
    by_number (declaration_refusal c n)
    (λ r h. gone (suc r) (rw (k, rewrite, h, step_declaration) refl))
    (λ h. kept (rw (k, rewrite, h, step_declaration) (change_items_mark 2 (gather (declarators c)) n)))

for_begins : (c : Context) (n : Node) → rule_of (kind n) ≡ fors → Begins c n
unfolding rewrite step_for
for_begins c n k =
    by_test (is 4 (node_at_of 1 n))
    (λ d. kept (rw (k, rewrite, d, step_for) (declaring_mark c n)))
    (λ d.
    by_test (has_array_rest_over_object_rest (node_at_of 1 n))
    (λ h. gone rest_below_array_rest (rw (k, rewrite, d, step_for, h) refl))
    (λ h. kept (rw (k, rewrite, d, step_for, h) (assigning_mark c n))))

assignments_27 : (k : ℕ) → rule_of k ≡ assignments → eqb k 27 ≡ true
unfolding rule_of
assignments_27 k e = go (eqb k 24) (eqb k 4) (eqb k 27) (eqb k 14) (eqb k 17) (eqb k 10) (eqb k 7 || eqb k 8) e
  where
    go : (l d a f r c o : Bool) → cond l literals (cond d declarations (cond a assignments (cond f functions (cond r arrows (cond c catches (cond o fors nowhere)))))) ≡ assignments → a ≡ true
    go l d true f r c o e = refl
    go true d false f r c o e = let z : ◌≡◌ {A = ℕ} 0 1 = cc in absurd (omega arith)
    go false true false f r c o e = let z : ◌≡◌ {A = ℕ} 0 1 = cc in absurd (omega arith)
    go false false false true r c o e = let z : ◌≡◌ {A = ℕ} 0 1 = cc in absurd (omega arith)
    go false false false false true c o e = let z : ◌≡◌ {A = ℕ} 0 1 = cc in absurd (omega arith)
    go false false false false false true o e = let z : ◌≡◌ {A = ℕ} 0 1 = cc in absurd (omega arith)
    go false false false false false false true e = let z : ◌≡◌ {A = ℕ} 0 1 = cc in absurd (omega arith)
    go false false false false false false false e = let z : ◌≡◌ {A = ℕ} 0 1 = cc in absurd (omega arith)

begins : (c : Context) (n : Node) → is 24 n ≡ false → is 27 n ≡ false → Begins c n
unfolding rewrite is
begins c n l a =
    by_rule_lem (rule_of (kind n))
    (λ e. absurd (true≢false (sym (literals_24 (kind n) e) ∙ l)))
    (λ e. declaration_begins c n e)
    (λ e. absurd (true≢false (sym (assignments_27 (kind n) e) ∙ a)))
    (λ e. kept (rw (e, rewrite) (function_mark c n)))
    (λ e. kept (rw (e, rewrite) (arrow_mark c n)))
    (λ e. kept (rw (e, rewrite) (catch_mark c n)))
    (λ e. for_begins c n e)
    (λ e. kept (rw (e, rewrite) refl))

-- an item of a container; neither an Object nor an Assignment is a statement
pub emits_statement_lem : (c : Place) (n : Node) → is 24 n ≡ false → is 27 n ≡ false → emits_item true c n ≡ emits_statement c n
emits_statement_lem c n l a = begins_same c n (begins (context_of c) n l a)

-- any other item is at the place of the list
pub emits_item_lem : (c : Place) (n : Node) → emits_item false c n ≡ emits c n
unfolding emits_item
emits_item_lem c n = refl
