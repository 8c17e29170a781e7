-- Functions, arrows, catch clauses and the heads of loops: what is made of one lies where it lay.
-- Assumes nothing.
use mathlib.Core.Path.{◌≡◌, refl, sym, ap, subst, ◌∙◌}
use mathlib.Core.Bool.{Bool, true, false, ◌&&◌, ◌||◌, true≢false}
use mathlib.Core.List.{List, [], ◌∷◌}
use Prim.Native.Nat.{ℕ, zero, suc, ◌<◌, ◌≤◌}
use native.Mathlib.Omega.{arith}
use lib.Dec.{eqb}
use lib.ListN.{get_or}
use borrow.Author.Tests.{eqb-true, eq-eqb}
use Rattle.tree.specs.Tree.{Node, Fields, Piece, Items, depth, depth_fields}
use Rattle.tree.specs.Tree.Node.{node}
use Rattle.tree.specs.Tree.Fields.{done, field}
use Rattle.tree.specs.Tree.Piece.{list, byte}
use Rattle.tree.specs.Grammar.{Sort, Field, places, allowed, also, among, kind_of, form_in, form_at, fields_of, kinds, variants}
use Rattle.tree.specs.Grammar.Field.{must, may}
use Rattle.tree.specs.Grammar.Stage.{rewritten}
use Rattle.lowering.specs.Parts.{nothing, kind, is, node_at_of, items_at_of, stands, piece_in, stands_in, as_node, change, change_in, on_node, on_items, only, each, gather, any}
use Rattle.lowering.specs.Made.{Context, declared, reference, let_of, var_of, assigning, returning}
use Rattle.lowering.specs.Patterns.{Shape, shape, items_of, rest, has_object_rest, has_nested_object_rest}
use Rattle.lowering.specs.Patterns.Shape.{object_pattern}
use Rattle.lowering.specs.Heads.{moved, moved_pattern, is_moved, moved_from, moved_out_of, left_behind, in_front, in_body, as_function_body, as_block, function, arrow, catch, declaring_head, assigning_head}
use Rattle.lowering.proofs.Cases.{by_test, by_shape, and_left, function_body_is, block_is, is_kind}
use Rattle.lowering.proofs.All.{AllItems, other_changed, all_append, all_gather, all_cond}
use Rattle.result.proofs.PlaceRows.{widened, covers, at_places, skips, lone, form_10, form_17}
use Rattle.result.proofs.Lies as lie
use Rattle.result.specs.Left.{keeps_rest}
use Rattle.result.specs.Causes.{Cause, shows, lacks_value}
use Rattle.result.proofs.Valued.{behind_shown}
use Rattle.lowering.proofs.ChangeLaws.{stands_changed}
use Rattle.lowering.proofs.Levels.{moved_nothing, reference_bare}
use Rattle.lowering.proofs.PlaceTests.{row_at}
use Rattle.result.proofs.Lies.{Texts, is_made, made_20, make_shown, shown_of, Lies, LieFields, LiePiece, LieItems, make, changed, changed_here, may_stand, list_at, node_at, stands_at, lies_only, lies_each, lies_if, all_of}
use Rattle.result.proofs.LyingPatterns.{pattern_at, ArrayView, array_view, fields_at}
use Rattle.result.proofs.Expressions.{takes_3, temporary_lies, assign_lies}
use Rattle.result.proofs.PatternsLie.{object_whole, items_of_lem, left_whole, reference_lies}
use Rattle.result.proofs.NoRestLeft.{moved_out_lies}
use Rattle.result.proofs.KeysLie.{declares_lies}
use Rattle.result.proofs.Assignments.{declared_lies}

-- ---- patterns that are moved

abbrev pub Movable : (T : Texts) → Node → Type 0
Movable T q = Lies T 15 (moved_pattern q)

object_moved : {T : Texts} (w : Bool) (p : Node) → Lies T (pattern_at false w) p → shape p ≡ object_pattern → Movable T p
unfolding moved_pattern
object_moved w p l e = rw (e, moved_pattern) (object_whole false w p l e)

default_moved : {T : Texts} (w : Bool) (p : Node) → Lies T (pattern_at false w) p → shape p ≡ Shape.default → Movable T p
unfolding moved_pattern
default_moved w p l e = rw (e, moved_pattern) (left_whole false w p l e)

rest_moved : {T : Texts} (d : ℕ) → ((r : Node) → Lies T 15 r → AllItems (Movable T) (moved d r)) → {p : Node} → ArrayView T 18 15 p → AllItems (Movable T) (moved d (rest p))
unfolding node_at_of piece_in
rest_moved d f (ArrayView.plain a) = rw (moved_nothing d) tt
rest_moved d f (ArrayView.rested a r u) = f _ r

pub moved_lie : {T : Texts} (d : ℕ) (w : Bool) (p : Node) → Lies T (pattern_at false w) p → AllItems (Movable T) (moved d p)
unfolding moved
moved_lie zero w p l = tt
moved_lie {T = T} (suc d) w p l =
    by_shape (shape p)
    (λ e. rw (e, moved) (object_moved w p l e, tt))
    (λ e. rw (e, moved)
    (all_append (Movable T) (gather (λ x. moved d x) (items_of p)) (moved d (rest p))
    (all_gather (Lies T 18) (Movable T) (λ x. moved d x) (λ x m. moved_lie d true x m) (items_of p) (all_of (items_of_lem false w p l e)))
    (rest_moved d (λ r m. moved_lie d false r m) (array_view false w p l e))))
    (λ e. rw (e, moved) (default_moved w p l e, tt))
    (λ e. rw (e, moved) tt)

-- ---- 15 Param(pattern default?) and 5 Declarator(id init?)

abbrev pub bound_fields : List Field
bound_fields = must (Sort.child 15) ∷ may (Sort.child 3) ∷ []

-- a node with its fields changed
pub rebuilt : {T : Texts} (p j f : ℕ) (ts : List Field) → is_made j ≡ true → 0 < f → form_at rewritten p j ≡ f → fields_of f ≡ ts → {at k : ℕ} {fs gs : Fields} → Lies T p (node at k fs) → k ≡ j
    → (LieFields T 0 ts fs → LieFields T 0 ts gs) → Lies T p (node at k gs)
rebuilt {T = T} p j f ts t z e g {at = at} {fs = fs} {gs = gs} l q h =
    subst (λ (i : ℕ). Lies T p (node at i gs)) (sym q)
    (make p j f e z t (subst (λ (us : List Field). LieFields T 0 us gs) (sym g) (h (fields_at p j f ts (made_20 j t) e g l q))))

-- the same of a kind that may have a cause
rebuilt_shown : {T : Texts} (p j f : ℕ) (ts : List Field) → eqb j 20 ≡ false → 0 < f → form_at rewritten p j ≡ f → fields_of f ≡ ts → {at k : ℕ} {fs gs : Fields} → Lies T p (node at k fs) → k ≡ j
    → ((s : Cause) → shows s (node at j fs) ≡ false → shows s (node at j gs) ≡ false) → (LieFields T 0 ts fs → LieFields T 0 ts gs) → Lies T p (node at k gs)
rebuilt_shown {T = T} p j f ts t z e g {at = at} {fs = fs} {gs = gs} l q u h =
    subst (λ (i : ℕ). Lies T p (node at i gs)) (sym q)
    (make_shown p j f e z t (λ s b. u s (shown_of (subst (λ (i : ℕ). Lies T p (node at i fs)) q l) t s b)) (subst (λ (us : List Field). LieFields T 0 us gs) (sym g) (h (fields_at p j f ts t e g l q))))

node_piece : {T : Texts} (q : ℕ) (f : Node → Node) → ((n : Node) → Lies T q n → Lies T q (f n)) → (b d : ℕ) (x : Piece) → LiePiece T b (Sort.child q) x d → LiePiece T b (Sort.child q) (on_node f x) d
unfolding on_node
node_piece q f g b d x (LiePiece.child a) = LiePiece.child (g _ a)

list_piece : {T : Texts} (q : ℕ) (f : Items → Items) → ((is : Items) → LieItems T q false is → LieItems T q false (f is)) → (b d : ℕ) (x : Piece) → LiePiece T b (Sort.many q) x d → LiePiece T b (Sort.many q) (on_items f x) d
unfolding on_items
list_piece q f g b d x (LiePiece.many a) = LiePiece.many (g _ a)

module _ (p j : ℕ) (t : is_made j ≡ true) (z : 0 < j) (only_one : (k : ℕ) → 0 < form_at rewritten p k → k ≡ j) (e : form_at rewritten p j ≡ j) (g : fields_of j ≡ bound_fields) where
  bound_fields_lem : {T : Texts} {at k : ℕ} {fs : Fields} → Lies T p (node at k fs) → LieFields T 0 bound_fields fs
  bound_fields_lem {k = k} l = fields_at p j j bound_fields (made_20 j t) e g l (only_one k (may_stand l))

  pattern_of_lem : {T : Texts} (q : Node) → Lies T p q → Lies T 15 (node_at_of 0 q)
  unfolding node_at_of
  pattern_of_lem (node at k fs) l = let f = bound_fields_lem l in node_at f 0 (stands_at f 0 refl)

  moved_from_lie : {T : Texts} (q : Node) → Lies T p q → AllItems (Movable T) (moved_from q)
  unfolding moved_from
  moved_from_lie {T = T} q l = all_cond (Movable T) (is_moved q) (moved (depth (node_at_of 0 q)) (node_at_of 0 q)) Items.none (moved_lie (depth (node_at_of 0 q)) false (node_at_of 0 q) (pattern_of_lem q l)) tt

  left_behind_lies : {T : Texts} (c : Context) (q : Node) → Lies T p q → Lies T p (left_behind c q)
  unfolding left_behind change
  left_behind_lies c (node at k fs) l =
      by_test (is_moved (node at k fs))
      (λ h. rw h (rebuilt p j j bound_fields t z e g l (only_one k (may_stand l)) (λ f. changed f 0 (on_node (λ x. moved_out_of c (depth x) x)) (node_piece 15 (λ x. moved_out_of c (depth x) x) (λ n m. moved_out_lies c false (depth n) false n m (omega arith))))))
      (λ h. rw h l)

param_only : (k : ℕ) → 0 < form_at rewritten 7 k → k ≡ 15
unfolding allowed places also among kind_of
param_only k h = lone 7 15 k refl h

declarator_only : (k : ℕ) → 0 < form_at rewritten 4 k → k ≡ 5
unfolding allowed places also among kind_of
declarator_only k h = lone 4 5 k refl h

pub param_fields : {T : Texts} {at k : ℕ} {fs : Fields} → Lies T 7 (node at k fs) → LieFields T 0 bound_fields fs
unfolding form_at allowed places also among form_in kind_of fields_of kinds
param_fields l = bound_fields_lem 7 15 refl (omega arith) param_only refl refl l

param_moved : {T : Texts} (q : Node) → Lies T 7 q → AllItems (Movable T) (moved_from q)
unfolding form_at allowed places also among form_in kind_of fields_of kinds
param_moved = moved_from_lie 7 15 refl (omega arith) param_only refl refl

declarator_moved : {T : Texts} (q : Node) → Lies T 4 q → AllItems (Movable T) (moved_from q)
unfolding form_at allowed places also among form_in kind_of fields_of kinds
declarator_moved = moved_from_lie 4 5 refl (omega arith) declarator_only refl refl

param_left : {T : Texts} (c : Context) (q : Node) → Lies T 7 q → Lies T 7 (left_behind c q)
unfolding form_at allowed places also among form_in kind_of fields_of kinds
param_left = left_behind_lies 7 15 refl (omega arith) param_only refl refl

declarator_left : {T : Texts} (c : Context) (q : Node) → Lies T 4 q → Lies T 4 (left_behind c q)
unfolding form_at allowed places also among form_in kind_of fields_of kinds
declarator_left = left_behind_lies 4 5 refl (omega arith) declarator_only refl refl

-- ---- statements that are made

statement_shown : (b : ℕ) (d : Node) → lacks_value d ≡ false → (s : Cause) → shows s (node 0 4 (field (Piece.mark 0) (field (byte b) (field (list (only d)) done)))) ≡ false
unfolding shows keeps_rest is items_at_of piece_in any
statement_shown b d n Cause.rest_parameter = refl
statement_shown b d n Cause.without_body = refl
statement_shown b d n Cause.array_rest = refl
statement_shown b d n Cause.without_value = rw n refl
statement_shown b d n Cause.in_key = refl
statement_shown b d n Cause.in_template = refl

statement_made : {T : Texts} (p : ℕ) → form_at rewritten p 4 ≡ 4 → (b : ℕ) → 1 ≤ b → b ≤ 3 → {d : Node} → lacks_value d ≡ false → Lies T 4 d → Lies T p (node 0 4 (field (Piece.mark 0) (field (byte b) (field (list (only d)) done))))
unfolding fields_of kinds
statement_made p e b x y {d = d} n l =
    make_shown p 4 4 e (omega arith) refl (λ s v. statement_shown b d n s)
    (LieFields.needed (LiePiece.mark (omega arith)) (LieFields.needed (LiePiece.byte x y (omega arith)) (LieFields.needed (LiePiece.many (lies_only l)) LieFields.done)))

module _ (c : Context) where
  let_of_lies : {T : Texts} (q : Node) → Movable T q → Lies T 1 (let_of (moved_pattern q) (reference c q))
  unfolding lacks_value stands stands_in form_at allowed places also among form_in kind_of
  let_of_lies q l = statement_made 1 refl 2 (omega arith) (omega arith) refl (declares_lies c l (temporary_lies 3 takes_3 (omega arith) (omega arith)))

  declared_fine : (q : Node) → lacks_value (declared (reference c q)) ≡ false
  unfolding lacks_value stands stands_in node_at_of piece_in
  declared_fine q = reference_bare c q (depth (reference c q))

  var_of_lies : {T : Texts} (q : Node) → Lies T 21 (var_of (reference c q))
  unfolding form_at allowed places also among form_in kind_of
  var_of_lies q = statement_made 21 refl 1 (omega arith) (omega arith) (declared_fine q) (declared_lies c (reference_lies c false false q))

  assigning_lies : {T : Texts} (p : Node) → Lies T 19 p → Lies T 1 (assigning p (reference c p))
  unfolding form_at allowed places also among form_in kind_of fields_of kinds
  assigning_lies p l =
      make 1 3 3 refl (omega arith) refl
      (LieFields.needed (LiePiece.mark (omega arith)) (LieFields.needed (LiePiece.child (assign_lies 3 takes_3 l (temporary_lies 3 takes_3 (omega arith) (omega arith)))) LieFields.done))

  in_front_lies : {T : Texts} (ps body : Items) → AllItems (Movable T) ps → LieItems T 1 false body → LieItems T 1 false (in_front c ps body)
  unfolding in_front
  in_front_lies Items.none body h l = l
  in_front_lies (Items.hole ps) body h l = in_front_lies ps body h l
  in_front_lies (Items.item q ps) body h l = in_front_lies ps (Items.item (let_of (moved_pattern q) (reference c q)) body) h.1 (LieItems.item (let_of_lies q h.0) l)

returning_lies : {T : Texts} (e : Node) → Lies T 3 e → Lies T 1 (returning e)
unfolding form_at allowed places also among form_in kind_of fields_of kinds
returning_lies e l = make 1 11 11 refl (omega arith) refl (LieFields.needed (LiePiece.mark (omega arith)) (LieFields.given (LiePiece.child l) LieFields.done))

-- ---- bodies: 16 FunctionBody(directives*? body*) and 2 Block(# body*)

function_body_lem : {T : Texts} (p : ℕ) → form_at rewritten p 16 ≡ 16 → (g : Items → Items) → ((is : Items) → LieItems T 1 false is → LieItems T 1 false (g is)) → (b : Node) → Lies T p b → is 16 b ≡ true → Lies T p (change 1 (on_items g) b)
unfolding change fields_of kinds
function_body_lem p e g h (node at k fs) l q =
    rebuilt p 16 16 (may (Sort.many 10) ∷ must (Sort.many 1) ∷ []) refl (omega arith) e refl l (is_kind 16 (node at k fs) q) (λ f. changed f 1 (on_items g) (list_piece 1 g h))

block_body : {T : Texts} (p : ℕ) → form_at rewritten p 2 ≡ 2 → (g : Items → Items) → ((is : Items) → LieItems T 1 false is → LieItems T 1 false (g is)) → (b : Node) → Lies T p b → is 2 b ≡ true → Lies T p (change 1 (on_items g) b)
unfolding change fields_of kinds
block_body p e g h (node at k fs) l q =
    rebuilt p 2 2 (must Sort.mark ∷ must (Sort.many 1) ∷ []) refl (omega arith) e refl l (is_kind 2 (node at k fs) q) (λ f. changed f 1 (on_items g) (list_piece 1 g h))

-- an expression that is an arrow's body
arrow_expression : {T : Texts} (b : Node) → Lies T 9 b → is 16 b ≡ false → Lies T 3 b
unfolding covers allowed places also among form_in kind_of is
arrow_expression b l e = lie.moved 3 (at_places (skips 16) rewritten rewritten 9 3 refl (kind b) e (may_stand l)) l

as_function_body_9 : {T : Texts} (b : Node) → Lies T 9 b → Lies T 9 (as_function_body b)
unfolding as_function_body form_at allowed places also among form_in kind_of fields_of kinds
as_function_body_9 b l =
    by_test (is 16 b)
    (λ e. rw e l)
    (λ e. rw e (make 9 16 16 refl (omega arith) refl (LieFields.absent (LieFields.needed (LiePiece.many (lies_only (returning_lies b (arrow_expression b l e)))) LieFields.done))))

as_block_1 : {T : Texts} (b : Node) → Lies T 1 b → Lies T 1 (as_block b)
unfolding as_block form_at allowed places also among form_in kind_of fields_of kinds
as_block_1 b l =
    by_test (is 2 b)
    (λ e. rw e l)
    (λ e. rw e (make 1 2 2 refl (omega arith) refl (LieFields.needed (LiePiece.mark (omega arith)) (LieFields.needed (LiePiece.many (lies_if (is 13 b) (λ h. LieItems.none) (λ h. lies_only l))) LieFields.done))))

-- ---- 14 Function(# sort= name? params* rest? body?)

abbrev pub function_fields : ℕ → ℕ → List Field
function_fields low high = must Sort.mark ∷ must (Sort.byte low high) ∷ may (Sort.child 16) ∷ must (Sort.many 7) ∷ may (Sort.child 15) ∷ may (Sort.child 8) ∷ []

-- its three forms differ in the sort alone
pub data FunctionForm (f : ℕ) : Type 0 where
  function_form : {low high : ℕ} → fields_of f ≡ function_fields low high → FunctionForm f

form_among : (f : ℕ) → 0 < f → among (0 ∷ 14 ∷ 64 ∷ 65 ∷ []) f ≡ true → FunctionForm f
unfolding among fields_of kinds variants
form_among f z h =
    by_test (eqb 0 f) (λ e. let y : 0 ≡ f = eqb-true 0 f e in absurd (omega arith))
    (λ a. by_test (eqb 14 f) (λ e. subst FunctionForm (eqb-true 14 f e) (FunctionForm.function_form {low = 1} {high = 2} refl))
    (λ b. by_test (eqb 64 f) (λ e. subst FunctionForm (eqb-true 64 f e) (FunctionForm.function_form {low = 1} {high = 1} refl))
    (λ c. by_test (eqb 65 f) (λ e. subst FunctionForm (eqb-true 65 f e) (FunctionForm.function_form {low = 2} {high = 2} refl))
    (λ d. absurd (true≢false (sym h ∙ rw (a, b, c, d) refl))))))

pub function_forms : (p : ℕ) → 0 < form_at rewritten p 14 → FunctionForm (form_at rewritten p 14)
unfolding form_at allowed form_in kind_of places also among
function_forms p z = form_among (form_in (widened (get_or places p [])) 14) z (row_at (λ r. among (0 ∷ 14 ∷ 64 ∷ 65 ∷ []) (form_in (widened r) 14)) places p refl refl)

body_only : (k : ℕ) → 0 < form_at rewritten 8 k → k ≡ 16
unfolding allowed places also among kind_of
body_only k h = lone 8 16 k refl h

block_only : (k : ℕ) → 0 < form_at rewritten 5 k → k ≡ 2
unfolding allowed places also among kind_of
block_only k h = lone 5 2 k refl h

kind_is : (j : ℕ) (n : Node) → kind n ≡ j → is j n ≡ true
unfolding is
kind_is j n e = eq-eqb (kind n) j e

-- ---- a function whose parameters and body are changed

function_shown : (at : ℕ) (fs : Fields) (f g : Piece → Piece) → stands_in fs 5 ≡ true → (s : Cause) → shows s (node at 14 fs) ≡ false → shows s (node at 14 (change_in (change_in fs 3 f) 5 g)) ≡ false
unfolding shows keeps_rest is node_at_of stands
function_shown at fs f g b Cause.rest_parameter h =
    let e : piece_in (change_in (change_in fs 3 f) 5 g) 4 ≡ piece_in fs 4 = other_changed (change_in fs 3 f) 5 g 4 (λ z. omega arith) ∙ other_changed fs 3 f 4 (λ z. omega arith) in
    ap (λ x. has_object_rest (as_node x) || false) e ∙ h
function_shown at fs f g b Cause.without_body h =
    let e : stands_in (change_in (change_in fs 3 f) 5 g) 5 ≡ true = stands_changed (change_in fs 3 f) 5 g 5 ∙ stands_changed fs 3 f 5 ∙ b in
    rw e refl
function_shown at fs f g b Cause.array_rest h = refl
function_shown at fs f g b Cause.without_value h = refl
function_shown at fs f g b Cause.in_key h = refl
function_shown at fs f g b Cause.in_template h = refl

arrow_shown : (at : ℕ) (fs : Fields) (f g : Piece → Piece) → (s : Cause) → shows s (node at 17 fs) ≡ false → shows s (node at 17 (change_in (change_in fs 0 f) 2 g)) ≡ false
unfolding shows keeps_rest is node_at_of
arrow_shown at fs f g Cause.rest_parameter h =
    let e : piece_in (change_in (change_in fs 0 f) 2 g) 1 ≡ piece_in fs 1 = other_changed (change_in fs 0 f) 2 g 1 (λ z. omega arith) ∙ other_changed fs 0 f 1 (λ z. omega arith) in
    ap (λ x. has_object_rest (as_node x)) e ∙ h
arrow_shown at fs f g Cause.without_body h = refl
arrow_shown at fs f g Cause.array_rest h = refl
arrow_shown at fs f g Cause.without_value h = refl
arrow_shown at fs f g Cause.in_key h = refl
arrow_shown at fs f g Cause.in_template h = refl

module _ (c : Context) where
  in_body_8 : {T : Texts} (ps : Items) → AllItems (Movable T) ps → (b : Node) → Lies T 8 b → Lies T 8 (in_body c ps (as_function_body b))
  unfolding in_body as_function_body form_at allowed places also among form_in kind_of
  in_body_8 ps h b l =
      let e : is 16 b ≡ true = kind_is 16 b (body_only (kind b) (may_stand l)) in
      rw e (function_body_lem 8 refl (in_front c ps) (λ is m. in_front_lies c ps is h m) b l e)

  in_body_9 : {T : Texts} (ps : Items) → AllItems (Movable T) ps → (b : Node) → Lies T 9 b → Lies T 9 (in_body c ps (as_function_body b))
  unfolding in_body form_at allowed places also among form_in kind_of
  in_body_9 ps h b l = function_body_lem 9 refl (in_front c ps) (λ is m. in_front_lies c ps is h m) (as_function_body b) (as_function_body_9 b l) (function_body_is b)

  in_body_5 : {T : Texts} (ps : Items) → AllItems (Movable T) ps → (b : Node) → Lies T 5 b → Lies T 5 (in_body c ps (as_block b))
  unfolding in_body as_block form_at allowed places also among form_in kind_of
  in_body_5 ps h b l =
      let e : is 2 b ≡ true = kind_is 2 b (block_only (kind b) (may_stand l)) in
      rw e (block_body 5 refl (in_front c ps) (λ is m. in_front_lies c ps is h m) b l e)

  in_body_1 : {T : Texts} (g : Items → Items) → ((is : Items) → LieItems T 1 false is → LieItems T 1 false (g is)) → (b : Node) → Lies T 1 b → Lies T 1 (change 1 (on_items g) (as_block b))
  unfolding form_at allowed places also among form_in kind_of
  in_body_1 g h b l = block_body 1 refl g h (as_block b) (as_block_1 b l) (block_is b)

  in_block : {T : Texts} (ps : Items) → AllItems (Movable T) ps → (b : Node) → Lies T 1 b → Lies T 1 (in_body c ps (as_block b))
  unfolding in_body
  in_block ps h b l = in_body_1 (in_front c ps) (λ is m. in_front_lies c ps is h m) b l

  params_moved : {T : Texts} {q : ℕ} {h : Bool} (is : Items) → ((n : Node) → Lies T q n → AllItems (Movable T) (moved_from n)) → LieItems T q h is → AllItems (Movable T) (gather moved_from is)
  params_moved {T = T} {q = q} is f l = all_gather (Lies T q) (Movable T) moved_from f is (all_of l)

  pub function_lies : {T : Texts} (p : ℕ) (n : Node) → Lies T p n → is 14 n ≡ true → Lies T p (function c n)
  unfolding function change items_at_of stands
  function_lies {T = T} p (node at k fs) l e =
      let q : k ≡ 14 = is_kind 14 (node at k fs) e in
      let z : 0 < form_at rewritten p 14 = subst (λ (j : ℕ). 0 < form_at rewritten p j) q (may_stand l) in
      go q z (function_forms p z)
    where
      go : k ≡ 14 → 0 < form_at rewritten p 14 → FunctionForm (form_at rewritten p 14) → Lies T p (function c (node at k fs))
      go q z (FunctionForm.function_form {low = low} {high = high} g) =
          let f = fields_at p 14 (form_at rewritten p 14) (function_fields low high) refl refl g l q in
          let ps = gather moved_from (items_at_of 3 (node at k fs)) in
          by_test (stands 5 (node at k fs) && any is_moved (items_at_of 3 (node at k fs)))
          (λ h. rw h
          (rebuilt_shown p 14 (form_at rewritten p 14) (function_fields low high) refl z refl g l q
          (function_shown at fs (on_items (each (left_behind c))) (on_node (λ b. in_body c ps (as_function_body b))) (and_left (stands 5 (node at k fs)) (any is_moved (items_at_of 3 (node at k fs))) h))
          (λ f. changed
          (changed f 3 (on_items (each (left_behind c))) (list_piece 7 (each (left_behind c)) (λ is m. lies_each (left_behind c) (param_left c) m)))
          5 (on_node (λ b. in_body c ps (as_function_body b))) (node_piece 8 (λ b. in_body c ps (as_function_body b)) (in_body_8 ps (params_moved (items_at_of 3 (node at k fs)) param_moved (list_at f 3)))))))
          (λ h. rw h l)

  -- ---- 17 Arrow(params* rest? body)

  pub arrow_lies : {T : Texts} (p : ℕ) (n : Node) → Lies T p n → is 17 n ≡ true → Lies T p (arrow c n)
  unfolding arrow change items_at_of fields_of kinds
  arrow_lies p (node at k fs) l e =
      let q : k ≡ 17 = is_kind 17 (node at k fs) e in
      let g : form_at rewritten p 17 ≡ 17 = form_17 p (subst (λ (j : ℕ). 0 < form_at rewritten p j) q (may_stand l)) in
      let f = fields_at p 17 17 (must (Sort.many 7) ∷ may (Sort.child 15) ∷ must (Sort.child 9) ∷ []) refl g refl l q in
      let ps = gather moved_from (items_at_of 0 (node at k fs)) in
      by_test (any is_moved (items_at_of 0 (node at k fs)))
      (λ h. rw h
      (rebuilt_shown p 17 17 (must (Sort.many 7) ∷ may (Sort.child 15) ∷ must (Sort.child 9) ∷ []) refl (omega arith) g refl l q
      (arrow_shown at fs (on_items (each (left_behind c))) (on_node (λ b. in_body c ps (as_function_body b))))
      (λ f. changed
      (changed f 0 (on_items (each (left_behind c))) (list_piece 7 (each (left_behind c)) (λ is m. lies_each (left_behind c) (param_left c) m)))
      2 (on_node (λ b. in_body c ps (as_function_body b))) (node_piece 9 (λ b. in_body c ps (as_function_body b)) (in_body_9 ps (params_moved (items_at_of 0 (node at k fs)) param_moved (list_at f 0)))))))
      (λ h. rw h l)

  -- ---- 10 Catch(param? body)

  nothing_moved : (T : Texts) → AllItems (Movable T) (moved_from nothing)
  unfolding moved_from is_moved has_nested_object_rest node_at_of piece_in shape depth depth_fields
  nothing_moved T = tt

  param_at : {T : Texts} (fs : Fields) → LieFields T 0 (may (Sort.child 7) ∷ must (Sort.child 5) ∷ []) fs → AllItems (Movable T) (moved_from (as_node (piece_in fs 0)))
  unfolding piece_in
  param_at {T = T} fs (LieFields.absent a) = nothing_moved T
  param_at fs (LieFields.given (LiePiece.child x) a) = param_moved _ x

  pub catch_lies : {T : Texts} (p : ℕ) (n : Node) → Lies T p n → is 10 n ≡ true → Lies T p (catch c n)
  unfolding catch change node_at_of fields_of kinds
  catch_lies p (node at k fs) l e =
      let q : k ≡ 10 = is_kind 10 (node at k fs) e in
      let g : form_at rewritten p 10 ≡ 10 = form_10 p (subst (λ (j : ℕ). 0 < form_at rewritten p j) q (may_stand l)) in
      let f = fields_at p 10 10 (may (Sort.child 7) ∷ must (Sort.child 5) ∷ []) refl g refl l q in
      let ps = moved_from (node_at_of 0 (node at k fs)) in
      by_test (is_moved (node_at_of 0 (node at k fs)))
      (λ h. rw h
      (rebuilt p 10 10 (may (Sort.child 7) ∷ must (Sort.child 5) ∷ []) refl (omega arith) g refl l q
      (λ f. changed (changed f 0 (on_node (left_behind c)) (node_piece 7 (left_behind c) (param_left c)))
      1 (on_node (λ b. in_body c ps (as_block b))) (node_piece 5 (λ b. in_body c ps (as_block b)) (in_body_5 ps (param_at fs f))))))
      (λ h. rw h l)

  -- ---- 7 ForIn(# left right body) and 8 ForOf(# left right body await=?)

  -- the first four fields are alike
  abbrev pub for_fields : List Field → List Field
  for_fields ts = must Sort.mark ∷ must (Sort.child 21) ∷ must (Sort.child 3) ∷ must (Sort.child 1) ∷ ts

  declared_left : {T : Texts} (l : Node) → Lies T 21 l → is 4 l ≡ true → Lies T 21 (change 2 (on_items (each (left_behind c))) l)
  unfolding change fields_of kinds form_at allowed places also among form_in kind_of
  declared_left (node at k fs) l e =
      rebuilt_shown 21 4 4 (must Sort.mark ∷ must (Sort.byte 1 3) ∷ must (Sort.many 4) ∷ []) refl (omega arith) refl refl l (is_kind 4 (node at k fs) e) (behind_shown c at fs)
      (λ f. changed f 2 (on_items (each (left_behind c))) (list_piece 4 (each (left_behind c)) (λ is m. lies_each (left_behind c) (declarator_left c) m)))

  declared_items_lem : {T : Texts} (l : Node) → Lies T 21 l → is 4 l ≡ true → LieItems T 4 false (items_at_of 2 l)
  unfolding items_at_of fields_of kinds form_at allowed places also among form_in kind_of
  declared_items_lem (node at k fs) l e =
      list_at (fields_at 21 4 4 (must Sort.mark ∷ must (Sort.byte 1 3) ∷ must (Sort.many 4) ∷ []) refl refl refl l (is_kind 4 (node at k fs) e)) 2

  -- a head that is no Declaration is a target
  pub head_target : {T : Texts} (l : Node) → Lies T 21 l → is 4 l ≡ false → Lies T 19 l
  unfolding covers allowed places also among form_in kind_of is
  head_target l m e = lie.moved 19 (at_places (skips 4) rewritten rewritten 21 19 refl (kind l) e (may_stand m)) m

  module _ (p j : ℕ) (ts : List Field) (t : is_made j ≡ true) (z : 0 < j) (g : form_at rewritten p j ≡ j) (u : fields_of j ≡ for_fields ts) where
    pub declaring_lies : {T : Texts} {at k : ℕ} {fs : Fields} → Lies T p (node at k fs) → k ≡ j → is 4 (node_at_of 1 (node at k fs)) ≡ true → Lies T p (declaring_head c (node at k fs))
    unfolding declaring_head change node_at_of on_node
    declaring_lies {T = T} {at = at} {k = k} {fs = fs} l q d =
        let f = fields_at p j j (for_fields ts) (made_20 j t) g u l q in
        let left = node_at f 1 (stands_at f 1 refl) in
        let ps = gather moved_from (items_at_of 2 (node_at_of 1 (node at k fs))) in
        by_test (any is_moved (items_at_of 2 (node_at_of 1 (node at k fs))))
        (λ h. rw h
        (rebuilt p j j (for_fields ts) t z g u l q
        (λ f. changed (changed_here f 1 (on_node (λ x. change 2 (on_items (each (left_behind c))) x)) (left_piece_lem fs d))
        3 (on_node (λ b. in_body c ps (as_block b))) (node_piece 1 (λ b. in_body c ps (as_block b)) (in_block ps (params_moved (items_at_of 2 (node_at_of 1 (node at k fs))) declarator_moved (declared_items_lem (node_at_of 1 (node at k fs)) left d)))))))
        (λ h. rw h l)
      where
        left_piece_lem : (fs : Fields) → is 4 (as_node (piece_in fs 1)) ≡ true → (b d : ℕ) (x : Piece) → x ≡ piece_in fs 1 → LiePiece T b (Sort.child 21) x d
            → LiePiece T b (Sort.child 21) (on_node (λ x. change 2 (on_items (each (left_behind c))) x) x) d
        left_piece_lem fs e b d x y (LiePiece.child {n = n} a) = LiePiece.child (declared_left n a (rw (sym y) at e))

    pub assigning_head_lies : {T : Texts} {at k : ℕ} {fs : Fields} → Lies T p (node at k fs) → k ≡ j → is 4 (node_at_of 1 (node at k fs)) ≡ false → Lies T p (assigning_head c (node at k fs))
    unfolding assigning_head change node_at_of
    assigning_head_lies {T = T} {at = at} {k = k} {fs = fs} l q d =
        let f = fields_at p j j (for_fields ts) (made_20 j t) g u l q in
        let left = node_at_of 1 (node at k fs) in
        let m : Lies T 19 left = head_target left (node_at f 1 (stands_at f 1 refl)) d in
        by_test (has_object_rest (node_at_of 1 (node at k fs)))
        (λ h. rw h
        (rebuilt p j j (for_fields ts) t z g u l q
        (λ f. changed (changed f 1 (on_node (λ x. var_of (reference c x))) (node_piece 21 (λ x. var_of (reference c x)) (λ x y. var_of_lies c x)))
        3 (on_node (λ b. change 1 (on_items (Items.item (assigning left (reference c left)))) (as_block b)))
        (node_piece 1 (λ b. change 1 (on_items (Items.item (assigning left (reference c left)))) (as_block b))
        (λ b y. in_body_1 (Items.item (assigning left (reference c left))) (λ is k. LieItems.item (assigning_lies c left m) k) b y)))))
        (λ h. rw h l)
