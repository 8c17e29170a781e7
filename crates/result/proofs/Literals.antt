-- Object literals: what is made of one lies where it lay.
-- Assumes nothing.
use mathlib.Core.Path.{◌≡◌, refl, subst}
use mathlib.Core.Bool.{true, false}
use mathlib.Core.List.{[], ◌∷◌}
use Prim.Native.Nat.{ℕ, ◌<◌}
use Rattle.tree.specs.Tree.{Node, Items}
use Rattle.tree.specs.Tree.Node.{node}
use Rattle.tree.specs.Grammar.{Sort, Field, places, allowed, also, among, kind_of, form_in, form_at, fields_of, kinds}
use Rattle.tree.specs.Grammar.Stage.{rewritten}
use Rattle.lowering.specs.Parts.{is, node_at_of, items_at_of, only, any, ◌+++◌}
use Rattle.lowering.specs.Made.{S}
use Rattle.lowering.specs.Literals.{Call, opened, closed, scan, literal}
use Rattle.lowering.proofs.Cases.{by_test, is_kind}
use Rattle.result.proofs.Lies.{Texts, Lies, LieItems, lies_only, lies_append, may_stand, list_at, node_at, stands_at}
use Rattle.result.proofs.LyingPatterns.{fields_at}
use Rattle.result.proofs.Expressions.{Takes, takes_24, form_24, takes_13, argument, object_lies, S-lies}

-- the call so far, wherever it is put
abbrev CallLies : (T : Texts) → Call → Type 0
CallLies T Call.no_call = Unit {0}
CallLies T (Call.call m) = (q : ℕ) → Takes q → Lies T q m

opened_lies : {T : Texts} (c : Call) (ps : Items) → CallLies T c → LieItems T 12 false ps → LieItems T 13 false (opened c ps)
unfolding opened
opened_lies Call.no_call ps h l = lies_only (object_lies 13 takes_13 l)
opened_lies (Call.call m) Items.none h l = lies_only (h 13 takes_13)
opened_lies (Call.call m) (Items.hole ps) h l = lies_only (h 13 takes_13)
opened_lies (Call.call m) (Items.item p ps) h l =
    LieItems.item (h 13 takes_13) (LieItems.item (object_lies 13 takes_13 LieItems.none) (lies_only (object_lies 13 takes_13 l)))

closed_lies : {T : Texts} (p : ℕ) → Takes p → (c : Call) (ps : Items) → CallLies T c → LieItems T 12 false ps → Lies T p (closed c ps)
unfolding closed
closed_lies p t Call.no_call ps h l = object_lies p t l
closed_lies p t (Call.call m) Items.none h l = h p t
closed_lies p t (Call.call m) (Items.hole ps) h l = h p t
closed_lies p t (Call.call m) (Items.item q ps) h l = S-lies p t (opened_lies (Call.call m) (Items.item q ps) h l)

-- 26 Spread(arg)
spread_argument : {T : Texts} (n : Node) → Lies T 12 n → is 26 n ≡ true → Lies T 3 (node_at_of 0 n)
unfolding node_at_of form_at allowed places also among form_in kind_of fields_of kinds
spread_argument (node at k fs) l e =
    let f = fields_at 12 26 26 (Field.must (Sort.child 3) ∷ []) refl refl refl l (is_kind 26 (node at k fs) e) in
    node_at f 0 (stands_at f 0 refl)

scan_lies : {T : Texts} (p : ℕ) → Takes p → (c : Call) (pending : Items) {ps : Items} → CallLies T c → LieItems T 12 false pending → LieItems T 12 false ps → Lies T p (scan c pending ps)
unfolding scan
scan_lies p t c pending h a LieItems.none = closed_lies p t c pending h a
scan_lies p t c pending h a (LieItems.item {n = n} {is = ps} m l) =
    by_test (is 26 n)
    (λ e. rw (e, scan) (scan_lies p t (Call.call (S (opened c pending +++ only (node_at_of 0 n)))) Items.none
    (λ q u. S-lies q u (lies_append (opened_lies c pending h a) (lies_only (argument (spread_argument n m e))))) LieItems.none l))
    (λ e. rw (e, scan) (scan_lies p t c (pending +++ only n) h (lies_append a (lies_only m)) l))

-- 24 Object(properties*)
pub literal_lies : {T : Texts} (p : ℕ) (n : Node) → Lies T p n → is 24 n ≡ true → Lies T p (literal n)
unfolding literal items_at_of fields_of kinds
literal_lies p (node at k fs) l e =
    let q : k ≡ 24 = is_kind 24 (node at k fs) e in
    let t : Takes p = takes_24 p (subst (λ (j : ℕ). 0 < form_at rewritten p j) q (may_stand l)) in
    let f = fields_at p 24 24 (Field.must (Sort.many 12) ∷ []) refl (form_24 p t) refl l q in
    by_test (any (λ x. is 26 x) (items_at_of 0 (node at k fs)))
    (λ a. rw a (scan_lies p t Call.no_call Items.none tt LieItems.none (list_at f 0)))
    (λ a. rw a l)
