-- The rules take nodes that are alike to nodes that are alike, and hand out the same.
-- Assumes nothing.
use mathlib.Core.Path.{◌≡◌, refl, sym, ap, ap₂, ◌∙◌, subst}
use mathlib.Core.Bool.{Bool, true, false, cond, ◌&&◌, true≢false, false≢true}
use mathlib.Core.List.{List, [], ◌∷◌, ◌++◌, append_assoc}
use Prim.Native.Nat.{ℕ, suc}
use lib.Dec.{eqb}
use borrow.Author.Tests.{eqb-true}
use Rattle.sink.specs.Machine.{Event}
use Rattle.tree.specs.Tree.{Node, Items, depth, encode}
use Rattle.lowering.specs.Parts.{position, kind, is, piece_in, node_at_of, items_at_of, number_at, stands, stands_in, change_items, only, each, gather, any, is_empty, ◌+++◌}
use Rattle.lowering.specs.Made.{Context, temporary, reference, declares, declared, id_of, var_of, assigning}
use Rattle.lowering.specs.Patterns.{properties, key, replaced_below, has_object_rest, has_array_rest_over_object_rest}
use Rattle.lowering.specs.Keys.{key_sort, key_temporary, key_temporaries}
use Rattle.lowering.specs.Literals.{Call, opened, closed, scan, literal}
use Rattle.lowering.specs.Declarations.{declaration, declaration_makes, declaration_excludes, declaration_refusal}
use Rattle.lowering.specs.Assignments.{target, is_top, parts_of, from_reference, top_refusal, top_sequence, top_entry, top_excludes, top_makes, nested_sequence, nested_entry, nested_makes}
use Rattle.lowering.specs.Heads.{is_moved, moved_from, moved_out_of, left_behind, in_front, in_body, as_function_body, as_block, references, function, function_makes, arrow, arrow_makes, catch, catch_makes, declaring_head, declaring_makes, assigning_head, assigning_makes}
use Rattle.lowering.specs.Walk.{Step, Rule, rewritten, unchanged, refuse, step_declaration, step_top, step_assignment, step_for, rule_of, rewrite}
use Rattle.lowering.specs.Refusals.{rest_below_array_rest}
use Rattle.lowering.specs.Walk.Rule.{literals, declarations, assignments, functions, arrows, catches, fors, nowhere}
use Rattle.lowering.proofs.All.{all_unit}
use Rattle.lowering.proofs.Cases.{by_test, by_key, by_rule_lem, shape_34, function_body_is, block_is, declarations_4, by_number}
use Rattle.direct.specs.Events.{Deed, cell, cell_of, stem_of, lists, made, handed, entered, refused, hands_out, excluded_keys as excluded_deeds}
use Rattle.direct.specs.Events.Deed.{does}
use Rattle.direct.proofs.Alike.{SameKey, same, temporaries, Alike, AlikeItems, Linked, helper_alike, nothing_alike, kind_alike, position_alike, is_alike, node_at, number_at_lem, stands_at, empty_alike, count_alike, loose, tight, only_alike, more_alike, append_alike, each_alike, gather_alike, any_alike, cond_alike, cond_items, change_node_alike, change_node_here, change_items_alike, declared_alike, assign_alike, call_alike, object_alike, sequence_alike, let_alike, var_alike, assigning_alike, returning_alike, block_alike, body_alike}
use Rattle.direct.proofs.AlikePatterns.{props, parts, below_alike, over_alike, outermost_alike, parts_alike, left_alike, keys_refusal_alike, reference_alike, temporaries_alike, replaced_alike, moved_out_alike, moved_alike, pattern_alike}
use Rattle.direct.proofs.AlikeRests.{Object, deeds_gather, value_of_alike, rest_value_alike, excluded_for_alike, excluded_for_deeds, ids_alike, declaration_alike, declaration_makes_alike, declaration_refusal_alike, declaration_excludes_deeds}
use Rattle.lowering.proofs.Clauses.{again_temporary, top_34}

-- ---- what is handed out

made_alike : {ok : Bool} {k : ℕ} {ts us : Items} → AlikeItems ok k ts us → made ts ≡ made us
unfolding made cell_of
made_alike AlikeItems.none = refl
made_alike (AlikeItems.hole is) = made_alike is
made_alike (AlikeItems.item {n = n} {m = m} {is = ts} a s is) =
    let f : ℕ → ℕ → List Deed → List Deed = λ x y z. cond (eqb x 2) z (does (Event.make (cell x y)) ∷ z) in
    ap₂ (λ (x y : ℕ). f x y (made ts)) (number_at_lem 0 a) (position_alike a) ∙ ap (f (number_at 0 m) (position m)) (made_alike is)

handed_none : handed Items.none ≡ []
unfolding handed
handed_none = refl

pub handed_append : (is js : Items) → handed (is +++ js) ≡ handed is ++ handed js
unfolding handed ◌+++◌
handed_append Items.none js = refl
handed_append (Items.hole is) js = handed_append is js
handed_append (Items.item d is) js =
    let x = lists (5 ∷ cond (stands 1 d) 3 1 ∷ []) ++ (does (Event.listed_temporary (cell_of (id_of d)) (stem_of (id_of d))) ∷ cond (stands 1 d) (lists (encode (node_at_of 1 d))) []) in
    ap (λ (y : List Deed). x ++ y) (handed_append is js) ∙ sym (append_assoc x (handed is) (handed js))

-- ---- literals

pub data AlikeCall : Bool → Call → Call → Type 0 where
  no_call : {ok : Bool} → AlikeCall ok Call.no_call Call.no_call
  call : {ok : Bool} {n m : Node} → Alike ok n m → AlikeCall ok (Call.call n) (Call.call m)

opened_alike : {ok : Bool} {c d : Call} {is js : Items} → AlikeCall ok c d → AlikeItems ok 0 is js → AlikeItems ok 0 (opened c is) (opened d js)
unfolding opened
opened_alike AlikeCall.no_call is = only_alike (object_alike is)
opened_alike (AlikeCall.call a) AlikeItems.none = only_alike a
opened_alike (AlikeCall.call a) (AlikeItems.hole is) = only_alike a
opened_alike (AlikeCall.call a) (AlikeItems.item b s is) =
    more_alike a (more_alike (object_alike AlikeItems.none) (only_alike (object_alike (more_alike b is))))

closed_alike : {ok : Bool} {c d : Call} {is js : Items} → AlikeCall ok c d → AlikeItems ok 0 is js → Alike ok (closed c is) (closed d js)
unfolding closed
closed_alike AlikeCall.no_call is = object_alike is
closed_alike (AlikeCall.call a) AlikeItems.none = a
closed_alike (AlikeCall.call a) (AlikeItems.hole is) = a
closed_alike (AlikeCall.call a) (AlikeItems.item b s is) = call_alike (helper_alike 1) (opened_alike (AlikeCall.call a) (AlikeItems.item b s is))

scan_alike : {ok : Bool} {c d : Call} {is js ps qs : Items} → AlikeCall ok c d → AlikeItems ok 0 is js → AlikeItems ok 0 ps qs → Alike ok (scan c is ps) (scan d js qs)
unfolding scan
scan_alike c b AlikeItems.none = closed_alike c b
scan_alike c b (AlikeItems.hole ps) = scan_alike c b ps
scan_alike c b (AlikeItems.item {n = n} {m = m} a s ps) =
    by_test (is 26 n)
    (λ e. rw (e, sym (is_alike 26 a) ∙ e, scan)
    (scan_alike (AlikeCall.call (call_alike (helper_alike 1) (append_alike (opened_alike c b) (only_alike (node_at 0 a))))) AlikeItems.none ps))
    (λ e. rw (e, sym (is_alike 26 a) ∙ e, scan) (scan_alike c (append_alike b (only_alike a)) ps))

pub literal_alike : {ok : Bool} {n m : Node} → Alike ok n m → Alike ok (literal n) (literal m)
unfolding literal
literal_alike {n = n} {m = m} a =
    cond_alike (any (λ p. is 26 p) (items_at_of 0 n)) (any (λ p. is 26 p) (items_at_of 0 m))
    (any_alike 0 (λ p. is 26 p) (λ p. is 26 p) (λ x y l. is_alike 26 l.0) (parts 0 a))
    (λ h. scan_alike AlikeCall.no_call AlikeItems.none (parts 0 a)) (λ h. a)

-- ---- assignments

pub top_alike : {ok : Bool} {p q : Node} → Alike ok p q → is_top p ≡ is_top q
unfolding is_top
top_alike a = ap₂ (λ (x y : Bool). x && y) (is_alike 34 a) (stands_at 1 a)

pub top_refusal_alike : {ok : Bool} {n m : Node} → Object (target n) → Alike ok n m → top_refusal n ≡ top_refusal m
unfolding top_refusal
top_refusal_alike o a = keys_refusal_alike o (node_at 1 a)

module _ (c d : Context) (root : c.root ≡ d.root) (stat : c.statement ≡ d.statement) where
  -- assignments from temporaries, and their declarators
  from_alike : {ok : Bool} {is js : Items} → AlikeItems ok 0 is js → AlikeItems ok 0 (each (from_reference c) is) (each (from_reference d) js)
  from_alike a =
      each_alike 0 0 (from_reference c) (from_reference d) (λ x y l. (assign_alike l.0 (reference_alike c d l.0), λ z. absurd (false≢true z))) a

  refs_alike : {ok : Bool} {is js : Items} → AlikeItems ok 0 is js → AlikeItems ok 0 (each (λ p. declared (reference c p)) is) (each (λ p. declared (reference d p)) js)
  refs_alike a =
      each_alike 0 0 (λ p. declared (reference c p)) (λ p. declared (reference d p)) (λ x y l. (declared_alike (reference_alike c d l.0), λ z. absurd (false≢true z))) a

  refs_handed : {ok : Bool} {is js : Items} → AlikeItems ok 0 is js → handed (each (λ p. declared (reference c p)) is) ≡ handed (each (λ p. declared (reference d p)) js)
  unfolding each handed cell_of node_at_of piece_in stands stands_in number_at
  refs_handed AlikeItems.none = refl
  refs_handed (AlikeItems.hole is) = refs_handed is
  refs_handed (AlikeItems.item a s is) =
      ap₂ (λ (x : ℕ) (y : List Deed). handed (only (declared (temporary [] 1 x))) ++ y) (position_alike a) (refs_handed is)

  top_sequence_alike : {ok : Bool} {n m : Node} → Object (target n) → Alike ok n m → Alike ok (top_sequence c n) (top_sequence d m)
  unfolding top_sequence
  top_sequence_alike {n = n} {m = m} o a =
      let p = node_at 1 a in
      let t = value_of_alike c d root p in
      sequence_alike
      (more_alike (assign_alike t (node_at 2 a))
      (more_alike (assign_alike (left_alike c d n m o p) t)
      (append_alike (from_alike (parts_alike p))
      (more_alike (assign_alike (node_at 1 p) (rest_value_alike c d root o p t))
      (cond_items c.statement d.statement stat (λ h. AlikeItems.none) (λ h. only_alike t))))))

  top_entry_alike : {ok : Bool} {n m : Node} → Object (target n) → Alike ok n m → AlikeItems ok 0 (top_entry c n) (top_entry d m)
  unfolding top_entry
  top_entry_alike o a =
      let p = node_at 1 a in
      more_alike (declared_alike (value_of_alike c d root p)) (append_alike (refs_alike (parts_alike p)) (temporaries_alike c d o p))

  key_handed : {ok : Bool} {p q : Node} → Linked ok 34 p q → SameKey (key p) (key q) → handed (key_temporary c p) ≡ handed (key_temporary d q)
  unfolding key_temporary handed cell_of node_at_of piece_in stands stands_in number_at
  key_handed {p = p} {q = q} l (same z) =
      let k : key_sort (key q) ≡ key_sort (key p) = ap key_sort (sym z) in
      by_key (key_sort (key p))
      (λ e. rw (e, k ∙ e, key_temporary, handed) refl)
      (λ e. rw (e, k ∙ e, key_temporary, handed) refl)
      (λ e. rw (e, k ∙ e, key_temporary, handed) refl)
      (λ e. rw (e, k ∙ e, key_temporary, handed) refl)
      (λ e. rw (e, k ∙ e, key_temporary, handed) refl)
      (λ e. rw (e, k ∙ e, key_temporary, handed) (ap₂ (λ (x : ℕ) (y : Node). handed (only (declares (temporary [] 4 x) y))) (position_alike l.0) z))
  key_handed {p = p} {q = q} l (temporaries e h) = rw (again_temporary (key p) e, again_temporary (key q) h, key_temporary, handed) refl

  keys_handed : {ok : Bool} {p q : Node} → Object p → Alike ok p q → handed (key_temporaries c p) ≡ handed (key_temporaries d q)
  unfolding key_temporaries
  keys_handed {p = p} o a =
      deeds_gather handed handed_none handed_append (λ x. Unit {0}) 34 (key_temporary c) (key_temporary d) (λ n m u l. key_handed l (l.1 refl)) (all_unit (properties p)) (props o a)

  top_entry_deeds : {ok : Bool} {n m : Node} → Object (target n) → Alike ok n m → handed (top_entry c n) ≡ handed (top_entry d m)
  unfolding top_entry handed cell_of node_at_of piece_in stands stands_in number_at
  top_entry_deeds {n = n} {m = m} o a =
      let p = node_at 1 a in
      ap₂ (λ (x : ℕ) (y : List Deed). handed (only (declared (temporary [] 3 x))) ++ y) (position_alike p)
      (handed_append (each (λ q. declared (reference c q)) (parts_of (target n))) (key_temporaries c (target n))
      ∙ ap₂ (λ (x y : List Deed). x ++ y) (refs_handed (parts_alike p)) (keys_handed o p)
      ∙ sym (handed_append (each (λ q. declared (reference d q)) (parts_of (target m))) (key_temporaries d (target m))))

  top_excludes_alike : {ok : Bool} {n m : Node} → Object (target n) → Alike ok n m → AlikeItems ok 0 (top_excludes c n) (top_excludes d m)
  unfolding top_excludes
  top_excludes_alike o a = excluded_for_alike c d root o (node_at 1 a)

  top_excludes_deeds : {ok : Bool} {n m : Node} → Object (target n) → Alike ok n m → excluded_deeds (top_excludes c n) ≡ excluded_deeds (top_excludes d m)
  unfolding top_excludes
  top_excludes_deeds o a = excluded_for_deeds c d root o (node_at 1 a)

  top_makes_alike : {ok : Bool} {n m : Node} → Object (target n) → Alike ok n m → AlikeItems ok 0 (top_makes c n) (top_makes d m)
  unfolding top_makes
  top_makes_alike o a = append_alike (ids_alike c d root (top_entry_alike o a)) (ids_alike c d root (top_excludes_alike o a))

  nested_sequence_alike : {ok : Bool} {n m : Node} → Alike ok n m → Alike ok (nested_sequence c n) (nested_sequence d m)
  unfolding nested_sequence
  nested_sequence_alike a =
      sequence_alike
      (more_alike (change_node_alike 1 (λ p. replaced_below c p) (λ p. replaced_below d p) (λ x y z. replaced_alike c d z) a) (from_alike (outermost_alike (node_at 1 a))))

  nested_entry_alike : {ok : Bool} {n m : Node} → Alike ok n m → AlikeItems ok 0 (nested_entry c n) (nested_entry d m)
  unfolding nested_entry
  nested_entry_alike a = refs_alike (outermost_alike (node_at 1 a))

  nested_entry_deeds : {ok : Bool} {n m : Node} → Alike ok n m → handed (nested_entry c n) ≡ handed (nested_entry d m)
  unfolding nested_entry
  nested_entry_deeds a = refs_handed (outermost_alike (node_at 1 a))

  nested_makes_alike : {ok : Bool} {n m : Node} → Alike ok n m → AlikeItems ok 0 (nested_makes c n) (nested_makes d m)
  unfolding nested_makes
  nested_makes_alike a = ids_alike c d root (nested_entry_alike a)

-- ---- heads

is_moved_alike : {ok : Bool} {q r : Node} → Alike ok q r → is_moved q ≡ is_moved r
unfolding is_moved
is_moved_alike a = below_alike (node_at 0 a)

moved_from_alike : {ok : Bool} {q r : Node} → Alike ok q r → AlikeItems ok 0 (moved_from q) (moved_from r)
unfolding moved_from
moved_from_alike {q = q} {r = r} a = cond_items (is_moved q) (is_moved r) (is_moved_alike a) (λ h. moved_alike (node_at 0 a)) (λ h. AlikeItems.none)

all_moved_alike : {ok : Bool} {is js : Items} → AlikeItems ok 0 is js → AlikeItems ok 0 (gather moved_from is) (gather moved_from js)
all_moved_alike a = gather_alike 0 0 moved_from moved_from (λ n m l. moved_from_alike l.0) a

any_moved_alike : {ok : Bool} {is js : Items} → AlikeItems ok 0 is js → any is_moved is ≡ any is_moved js
any_moved_alike a = any_alike 0 is_moved is_moved (λ n m l. is_moved_alike l.0) a

kind_not : (k j : ℕ) → eqb k j ≡ true → eqb j 34 ≡ false → eqb k 34 ≡ false
kind_not k j e h = subst (λ (x : ℕ). eqb x 34 ≡ false) (sym (eqb-true k j e)) h

function_body_alike : {ok : Bool} {b e : Node} → Alike ok b e → Alike ok (as_function_body b) (as_function_body e)
unfolding as_function_body
function_body_alike {b = b} {e = e} a = cond_alike (is 16 b) (is 16 e) (is_alike 16 a) (λ h. a) (λ h. body_alike (only_alike (returning_alike a)))

as_block_alike : {ok : Bool} {b e : Node} → Alike ok b e → Alike ok (as_block b) (as_block e)
unfolding as_block
as_block_alike {b = b} {e = e} a =
    cond_alike (is 2 b) (is 2 e) (is_alike 2 a) (λ h. a)
    (λ h. block_alike (cond_items (is 13 b) (is 13 e) (is_alike 13 a) (λ t. AlikeItems.none) (λ t. only_alike a)))

pub function_body_kind : (b : Node) → eqb (kind (as_function_body b)) 34 ≡ false
unfolding is
function_body_kind b = kind_not (kind (as_function_body b)) 16 (function_body_is b) refl

pub block_kind : (b : Node) → eqb (kind (as_block b)) 34 ≡ false
unfolding is
block_kind b = kind_not (kind (as_block b)) 2 (block_is b) refl

module _ (c d : Context) where
  left_behind_alike : {ok : Bool} {q r : Node} → Alike ok q r → Alike ok (left_behind c q) (left_behind d r)
  unfolding left_behind
  left_behind_alike {q = q} {r = r} a =
      cond_alike (is_moved q) (is_moved r) (is_moved_alike a)
      (λ h. change_node_alike 0 (λ p. moved_out_of c (depth p) p) (λ p. moved_out_of d (depth p) p) (λ x y z. moved_out_alike c d z) a) (λ h. a)

  all_left_alike : {ok : Bool} {n m : Node} (i : ℕ) → eqb (kind n) 34 ≡ false → Alike ok n m → Alike ok (change_items i (each (left_behind c)) n) (change_items i (each (left_behind d)) m)
  all_left_alike {n = n} i e a =
      change_items_alike i (each (left_behind c)) (each (left_behind d))
      (λ is js b. each_alike (kind n) (kind n) (left_behind c) (left_behind d) (λ x y l. (left_behind_alike l.0, λ z. absurd (true≢false (sym z ∙ e)))) b) a

  in_front_alike : {ok : Bool} {ps qs is js : Items} → AlikeItems ok 0 ps qs → AlikeItems ok 0 is js → AlikeItems ok 0 (in_front c ps is) (in_front d qs js)
  unfolding in_front
  in_front_alike AlikeItems.none b = b
  in_front_alike (AlikeItems.hole ps) b = in_front_alike ps b
  in_front_alike (AlikeItems.item a s ps) b = in_front_alike ps (more_alike (let_alike (pattern_alike a) (reference_alike c d a)) b)

  in_body_alike : {ok : Bool} {ps qs : Items} {b e : Node} → eqb (kind b) 34 ≡ false → AlikeItems ok 0 ps qs → Alike ok b e → Alike ok (in_body c ps b) (in_body d qs e)
  unfolding in_body
  in_body_alike {ps = ps} {qs = qs} {b = b} h l a =
      change_items_alike 1 (in_front c ps) (in_front d qs) (λ is js z. tight (kind b) h (in_front_alike l (loose (kind b) z))) a

  references_alike : {ok : Bool} {is js : Items} → AlikeItems ok 0 is js → AlikeItems ok 0 (references c is) (references d js)
  references_alike a = each_alike 0 0 (λ p. reference c p) (λ p. reference d p) (λ n m l. (reference_alike c d l.0, λ z. absurd (false≢true z))) a

  function_alike : {ok : Bool} {n m : Node} → eqb (kind n) 34 ≡ false → Alike ok n m → Alike ok (function c n) (function d m)
  unfolding function
  function_alike {n = n} {m = m} e a =
      let ps = all_moved_alike (parts 3 a) in
      cond_alike (stands 5 n && any is_moved (items_at_of 3 n)) (stands 5 m && any is_moved (items_at_of 3 m))
      (ap₂ (λ (x y : Bool). x && y) (stands_at 5 a) (any_moved_alike (parts 3 a)))
      (λ h. change_node_alike 5 (λ b. in_body c (gather moved_from (items_at_of 3 n)) (as_function_body b)) (λ b. in_body d (gather moved_from (items_at_of 3 m)) (as_function_body b))
      (λ x y z. in_body_alike (function_body_kind x) ps (function_body_alike z)) (all_left_alike 3 e a)) (λ h. a)

  function_makes_alike : {ok : Bool} {n m : Node} → Alike ok n m → AlikeItems ok 0 (function_makes c n) (function_makes d m)
  unfolding function_makes
  function_makes_alike {n = n} {m = m} a =
      cond_items (stands 5 n) (stands 5 m) (stands_at 5 a) (λ h. references_alike (all_moved_alike (parts 3 a))) (λ h. AlikeItems.none)

  arrow_alike : {ok : Bool} {n m : Node} → eqb (kind n) 34 ≡ false → Alike ok n m → Alike ok (arrow c n) (arrow d m)
  unfolding arrow
  arrow_alike {n = n} {m = m} e a =
      let ps = all_moved_alike (parts 0 a) in
      cond_alike (any is_moved (items_at_of 0 n)) (any is_moved (items_at_of 0 m)) (any_moved_alike (parts 0 a))
      (λ h. change_node_alike 2 (λ b. in_body c (gather moved_from (items_at_of 0 n)) (as_function_body b)) (λ b. in_body d (gather moved_from (items_at_of 0 m)) (as_function_body b))
      (λ x y z. in_body_alike (function_body_kind x) ps (function_body_alike z)) (all_left_alike 0 e a)) (λ h. a)

  arrow_makes_alike : {ok : Bool} {n m : Node} → Alike ok n m → AlikeItems ok 0 (arrow_makes c n) (arrow_makes d m)
  unfolding arrow_makes
  arrow_makes_alike a = references_alike (all_moved_alike (parts 0 a))

  catch_alike : {ok : Bool} {n m : Node} → Alike ok n m → Alike ok (catch c n) (catch d m)
  unfolding catch
  catch_alike {n = n} {m = m} a =
      cond_alike (is_moved (node_at_of 0 n)) (is_moved (node_at_of 0 m)) (is_moved_alike (node_at 0 a))
      (λ h. change_node_alike 1 (λ b. in_body c (moved_from (node_at_of 0 n)) (as_block b)) (λ b. in_body d (moved_from (node_at_of 0 m)) (as_block b))
      (λ x y z. in_body_alike (block_kind x) (moved_from_alike (node_at 0 a)) (as_block_alike z))
      (change_node_alike 0 (left_behind c) (left_behind d) (λ x y z. left_behind_alike z) a)) (λ h. a)

  catch_makes_alike : {ok : Bool} {n m : Node} → Alike ok n m → AlikeItems ok 0 (catch_makes c n) (catch_makes d m)
  unfolding catch_makes
  catch_makes_alike a = references_alike (moved_from_alike (node_at 0 a))

  declaring_alike : {ok : Bool} {n m : Node} → is 4 (node_at_of 1 n) ≡ true → Alike ok n m → Alike ok (declaring_head c n) (declaring_head d m)
  unfolding declaring_head is
  declaring_alike {n = n} {m = m} e a =
      let ps = all_moved_alike (parts 2 (node_at 1 a)) in
      cond_alike (any is_moved (items_at_of 2 (node_at_of 1 n))) (any is_moved (items_at_of 2 (node_at_of 1 m))) (any_moved_alike (parts 2 (node_at 1 a)))
      (λ h. change_node_alike 3 (λ b. in_body c (gather moved_from (items_at_of 2 (node_at_of 1 n))) (as_block b)) (λ b. in_body d (gather moved_from (items_at_of 2 (node_at_of 1 m))) (as_block b))
      (λ x y z. in_body_alike (block_kind x) ps (as_block_alike z))
      (change_node_here 1 (λ l. change_items 2 (each (left_behind c)) l) (λ l. change_items 2 (each (left_behind d)) l)
      (all_left_alike 2 (kind_not (kind (node_at_of 1 n)) 4 e refl) (node_at 1 a)) a)) (λ h. a)

  declaring_makes_alike : {ok : Bool} {n m : Node} → Alike ok n m → AlikeItems ok 0 (declaring_makes c n) (declaring_makes d m)
  unfolding declaring_makes
  declaring_makes_alike a = references_alike (all_moved_alike (parts 2 (node_at 1 a)))

  assigning_head_alike : {ok : Bool} {n m : Node} → Alike ok n m → Alike ok (assigning_head c n) (assigning_head d m)
  unfolding assigning_head
  assigning_head_alike {n = n} {m = m} a =
      let p = node_at 1 a in
      cond_alike (has_object_rest (node_at_of 1 n)) (has_object_rest (node_at_of 1 m)) (below_alike p)
      (λ h. change_node_alike 3 (λ b. change_items 1 (Items.item (assigning (node_at_of 1 n) (reference c (node_at_of 1 n)))) (as_block b)) (λ b. change_items 1 (Items.item (assigning (node_at_of 1 m) (reference d (node_at_of 1 m)))) (as_block b))
      (λ x y z. change_items_alike 1 (Items.item (assigning (node_at_of 1 n) (reference c (node_at_of 1 n)))) (Items.item (assigning (node_at_of 1 m) (reference d (node_at_of 1 m))))
      (λ is js b. AlikeItems.item (assigning_alike p (reference_alike c d p)) (λ w. absurd (true≢false (sym w ∙ block_kind x))) b) (as_block_alike z))
      (change_node_alike 1 (λ l. var_of (reference c l)) (λ l. var_of (reference d l)) (λ x y z. var_alike (reference_alike c d z)) a)) (λ h. a)

  assigning_makes_alike : {ok : Bool} {n m : Node} → Alike ok n m → AlikeItems ok 0 (assigning_makes c n) (assigning_makes d m)
  unfolding assigning_makes
  assigning_makes_alike {n = n} {m = m} a =
      cond_items (has_object_rest (node_at_of 1 n)) (has_object_rest (node_at_of 1 m)) (below_alike (node_at 1 a)) (λ h. only_alike (reference_alike c d (node_at 1 a))) (λ h. AlikeItems.none)

-- ---- steps

pub record AlikeStep (ok : Bool) (s t : Step) : Type 0 where
  pub result : Alike ok s.result t.result
  pub hands : (m : ℕ) → hands_out m s.note ≡ hands_out m t.note

-- a note without entry
noted_alike : {ok : Bool} (n m : Node) (a b e f : Items) → Alike ok n m → AlikeItems ok 0 a b → excluded_deeds e ≡ excluded_deeds f
    → AlikeStep ok (record { note = record { refusal = 0; made = a; entry = Items.none; excluded = e }; result = n })
    (record { note = record { refusal = 0; made = b; entry = Items.none; excluded = f }; result = m })
unfolding hands_out is_empty
noted_alike n m a b e f r h x =
    record {
      result = r;
      hands = λ k. ap₂ (λ (y z : List Deed). refused 0 ++ y ++ entered k Items.none ++ z) (made_alike h) x;
    }

entered_alike : {ok : Bool} (k : ℕ) {a b : Items} → AlikeItems ok 0 a b → handed a ≡ handed b → entered k a ≡ entered k b
unfolding entered
entered_alike k {a = a} {b = b} l h =
    ap₂ (λ (x : Bool) (y : List Deed). cond x [] y) (empty_alike l) (ap₂ (λ (x : ℕ) (y : List Deed). does (Event.entry k x) ∷ y) (count_alike l) h)

entry_alike : {ok : Bool} (n m : Node) (a b e f x y : Items) → Alike ok n m → AlikeItems ok 0 a b → AlikeItems ok 0 x y → handed x ≡ handed y → excluded_deeds e ≡ excluded_deeds f
    → AlikeStep ok (record { note = record { refusal = 0; made = a; entry = x; excluded = e }; result = n })
    (record { note = record { refusal = 0; made = b; entry = y; excluded = f }; result = m })
unfolding hands_out
entry_alike n m a b e f x y r h l z u =
    record {
      result = r;
      hands = λ k.
          ap₂ (λ (v w : List Deed). refused 0 ++ v ++ w ++ excluded_deeds e) (ap₂ (λ (v : Bool) (w : List Deed). cond v w []) (empty_alike l) (made_alike h)) (entered_alike k l z)
          ∙ ap (λ (w : List Deed). refused 0 ++ cond (is_empty y) (made b) [] ++ entered k y ++ w) u;
    }

refuse_alike : {ok : Bool} (r : ℕ) → AlikeStep ok (refuse r) (refuse r)
refuse_alike r = record { result = nothing_alike; hands = λ k. refl }

rewritten_alike : {ok : Bool} {n m : Node} {a b : Items} → AlikeItems ok 0 a b → Alike ok n m → AlikeStep ok (rewritten a n) (rewritten b m)
rewritten_alike {n = n} {m = m} {a = a} {b = b} l r = noted_alike n m a b Items.none Items.none r l refl

-- 34 has no rule
ruled : (k : ℕ) → eqb k 34 ≡ true → rule_of k ≡ nowhere
unfolding rule_of
ruled k e = rw (eqb-true k 34 e) refl

is_nowhere_lem : Rule → Bool
is_nowhere_lem literals = false
is_nowhere_lem declarations = false
is_nowhere_lem assignments = false
is_nowhere_lem functions = false
is_nowhere_lem arrows = false
is_nowhere_lem catches = false
is_nowhere_lem fors = false
is_nowhere_lem nowhere = true

not_34 : (k : ℕ) → is_nowhere_lem (rule_of k) ≡ false → eqb k 34 ≡ false
unfolding is_nowhere_lem
not_34 k h = by_test (eqb k 34) (λ e. absurd (true≢false (sym (ap is_nowhere_lem (ruled k e)) ∙ h))) (λ e. e)

module _ (c d : Context) (root : c.root ≡ d.root) (stat : c.statement ≡ d.statement) where
  declaration_step : {ok : Bool} {n m : Node} → eqb (kind n) 34 ≡ false → Alike ok n m → AlikeStep ok (step_declaration c n) (step_declaration d m)
  unfolding step_declaration
  declaration_step {n = n} {m = m} e a =
      by_number (declaration_refusal c n)
      (λ r h. rw (h, sym (declaration_refusal_alike c d root a) ∙ h, step_declaration) (refuse_alike (suc r)))
      (λ h. rw (h, sym (declaration_refusal_alike c d root a) ∙ h, step_declaration)
      (noted_alike (declaration c n) (declaration d m) (declaration_makes c n) (declaration_makes d m) (declaration_excludes c n) (declaration_excludes d m)
      (declaration_alike c d root e a) (declaration_makes_alike c d root a) (declaration_excludes_deeds c d root a)))

  top_step : {ok : Bool} {n m : Node} → Object (target n) → Alike ok n m → AlikeStep ok (step_top c n) (step_top d m)
  unfolding step_top
  top_step {n = n} {m = m} o a =
      by_number (top_refusal n)
      (λ r h. rw (h, sym (top_refusal_alike {n = n} {m = m} o a) ∙ h, step_top) (refuse_alike (suc r)))
      (λ h. rw (h, sym (top_refusal_alike {n = n} {m = m} o a) ∙ h, step_top)
      (entry_alike (top_sequence c n) (top_sequence d m) (top_makes c n) (top_makes d m) (top_excludes c n) (top_excludes d m) (top_entry c n) (top_entry d m)
      (top_sequence_alike c d root stat o a) (top_makes_alike c d root stat o a) (top_entry_alike c d root stat o a) (top_entry_deeds c d root stat o a) (top_excludes_deeds c d root stat o a)))

  nested_step : {ok : Bool} {n m : Node} → Alike ok n m
      → AlikeStep ok (record { note = record { refusal = 0; made = nested_makes c n; entry = nested_entry c n; excluded = Items.none }; result = nested_sequence c n })
      (record { note = record { refusal = 0; made = nested_makes d m; entry = nested_entry d m; excluded = Items.none }; result = nested_sequence d m })
  nested_step {n = n} {m = m} a =
      entry_alike (nested_sequence c n) (nested_sequence d m) (nested_makes c n) (nested_makes d m) Items.none Items.none (nested_entry c n) (nested_entry d m)
      (nested_sequence_alike c d root stat a) (nested_makes_alike c d root stat a) (nested_entry_alike c d root stat a) (nested_entry_deeds c d root stat a) refl

  unchanged_step : {ok : Bool} {n m : Node} → Alike ok n m → AlikeStep ok (unchanged n) (unchanged m)
  unchanged_step a = rewritten_alike AlikeItems.none a

  assignment_step : {ok : Bool} {n m : Node} → Alike ok n m → AlikeStep ok (step_assignment c n) (step_assignment d m)
  unfolding step_assignment
  assignment_step {n = n} {m = m} a =
      let t = node_at 1 a in
      by_test (has_array_rest_over_object_rest (target n))
      (λ h. rw (h, sym (over_alike t) ∙ h, step_assignment) (refuse_alike rest_below_array_rest))
      (λ h. rw (h, sym (over_alike t) ∙ h, step_assignment)
      (by_test (is_top (target n))
      (λ e. rw (e, sym (top_alike t) ∙ e, step_assignment) (top_step (shape_34 (target n) (top_34 (target n) e)) a))
      (λ e. rw (e, sym (top_alike t) ∙ e, step_assignment)
      (by_test (has_object_rest (target n))
      (λ o. rw (o, sym (below_alike t) ∙ o, step_assignment) (nested_step a))
      (λ o. rw (o, sym (below_alike t) ∙ o, step_assignment) (unchanged_step a))))))

  for_step : {ok : Bool} {n m : Node} → Alike ok n m → AlikeStep ok (step_for c n) (step_for d m)
  unfolding step_for
  for_step {n = n} {m = m} a =
      let t = node_at 1 a in
      by_test (is 4 (node_at_of 1 n))
      (λ h. rw (h, sym (is_alike 4 t) ∙ h, step_for) (rewritten_alike (declaring_makes_alike c d a) (declaring_alike c d h a)))
      (λ h. rw (h, sym (is_alike 4 t) ∙ h, step_for)
      (by_test (has_array_rest_over_object_rest (node_at_of 1 n))
      (λ e. rw (e, sym (over_alike t) ∙ e, step_for) (refuse_alike rest_below_array_rest))
      (λ e. rw (e, sym (over_alike t) ∙ e, step_for) (rewritten_alike (assigning_makes_alike c d a) (assigning_head_alike c d a)))))

  pub rewrite_alike : {ok : Bool} {n m : Node} → Alike ok n m → AlikeStep ok (rewrite c n) (rewrite d m)
  unfolding rewrite is_nowhere_lem
  rewrite_alike {n = n} {m = m} a =
      let k : (r : Rule) → rule_of (kind n) ≡ r → rule_of (kind m) ≡ r = λ r e. ap rule_of (sym (kind_alike a)) ∙ e in
      by_rule_lem (rule_of (kind n))
      (λ e. rw (e, k literals e, rewrite) (unchanged_step (literal_alike a)))
      (λ e. rw (e, k declarations e, rewrite) (declaration_step (kind_not (kind n) 4 (declarations_4 (kind n) e) refl) a))
      (λ e. rw (e, k assignments e, rewrite) (assignment_step a))
      (λ e. rw (e, k functions e, rewrite) (rewritten_alike (function_makes_alike c d a) (function_alike c d (not_34 (kind n) (ap is_nowhere_lem e)) a)))
      (λ e. rw (e, k arrows e, rewrite) (rewritten_alike (arrow_makes_alike c d a) (arrow_alike c d (not_34 (kind n) (ap is_nowhere_lem e)) a)))
      (λ e. rw (e, k catches e, rewrite) (rewritten_alike (catch_makes_alike c d a) (catch_alike c d a)))
      (λ e. rw (e, k fors e, rewrite) (for_step a))
      (λ e. rw (e, k nowhere e, rewrite) (unchanged_step a))
