-- Every node of the tree that is written is what is left of a node that lies at a place and is settled. So no object literal of it has a spread.
-- Assumes nothing.
use mathlib.Core.Path.{◌≡◌, refl, sym, ◌∙◌}
use mathlib.Core.Bool.{Bool, true, false, cond, ◌||◌, true≢false}
use mathlib.Core.List.{List, [], ◌∷◌}
use Prim.Native.Nat.{ℕ, zero, suc, ◌<◌}
use native.Mathlib.Omega.{arith}
use lib.Dec.{eqb, ltb}
use borrow.Author.Tests.{eqb-true}
use Rattle.tree.specs.Tree.{Node, Fields, Piece, Items}
use Rattle.tree.specs.Tree.Node.{node}
use Rattle.tree.specs.Grammar.{Sort, Field, places, allowed, also, among, kind_of, form_in, form_at, fields_of, kinds}
use Rattle.tree.specs.Grammar.Field.{must}
use Rattle.tree.specs.Grammar.Stage.{rewritten}
use Rattle.lowering.specs.Parts.{kind, is, items_at_of, piece_in, as_items_of, any}
use Rattle.lowering.specs.Made.{Context}
use Rattle.lowering.specs.Visits.{ItemAt, NodeIn, FieldAt, PartAt, Stands}
use Rattle.lowering.specs.Walk.{rewrite, rule_of}
use Rattle.lowering.proofs.Cases.{by_test, or_left, or_right}
use Rattle.result.specs.Left.{keeps_spread}
use Rattle.result.proofs.Lies.{Texts, Lies, LieFields, LiePiece, LieItems, fields_of_lem, may_stand, list_at}
use Rattle.result.proofs.LyingPatterns.{fields_at}
use Rattle.result.proofs.Expressions.{takes_24, form_24}
use Rattle.result.proofs.Rules.{leaves}
use Rattle.result.proofs.Comes.{Comes, Left, ComeFields, ComePiece, ComeItems}
use Rattle.result.proofs.Settled.{Settled, settled}
use Rattle.equal.proofs.LeafParts.{holds_nodes, any_holds}

-- ---- parts

come_item : {is js : Items} → ComeItems is js → {j : ℕ} {y : Node} → ItemAt js j y → (x : Node) × ItemAt is j x × Comes x y
come_item (ComeItems.hole a) (ItemAt.behind_hole i) = let r = come_item a i in (r.0, ItemAt.behind_hole r.1, r.2)
come_item (ComeItems.item {n = n} c a) ItemAt.first = (n, ItemAt.first, c)
come_item (ComeItems.item c a) (ItemAt.behind i) = let r = come_item a i in (r.0, ItemAt.behind r.1, r.2)
come_item ComeItems.none i = elim i [ ]

come_in : {p q : Piece} → ComePiece p q → {j : ℕ} {y : Node} → NodeIn q j y → (x : Node) × NodeIn p j x × Comes x y
come_in (ComePiece.one {n = n} c) NodeIn.one = (n, NodeIn.one, c)
come_in (ComePiece.list a) (NodeIn.list i) = let r = come_item a i in (r.0, NodeIn.list r.1, r.2)
come_in ComePiece.text i = elim i [ ]
come_in ComePiece.byte i = elim i [ ]
come_in (ComePiece.mark a b) i = elim i [ ]
come_in ComePiece.number i = elim i [ ]

pub come_field : {fs gs : Fields} → ComeFields fs gs → {i j : ℕ} {y : Node} → FieldAt gs i j y → (x : Node) × FieldAt fs i j x × Comes x y
come_field (ComeFields.absent a) (FieldAt.behind_absent f) = let r = come_field a f in (r.0, FieldAt.behind_absent r.1, r.2)
come_field (ComeFields.field c a) (FieldAt.first f) = let r = come_in c f in (r.0, FieldAt.first r.1, r.2)
come_field (ComeFields.field c a) (FieldAt.behind f) = let r = come_field a f in (r.0, FieldAt.behind r.1, r.2)
come_field ComeFields.done f = elim f [ ]

pub lie_item : {T : Texts} {p : ℕ} {h : Bool} {is : Items} → LieItems T p h is → {j : ℕ} {x : Node} → ItemAt is j x → Lies T p x
lie_item (LieItems.hole a) (ItemAt.behind_hole i) = lie_item a i
lie_item (LieItems.item x a) ItemAt.first = x
lie_item (LieItems.item x a) (ItemAt.behind i) = lie_item a i
lie_item LieItems.none i = elim i [ ]

lie_in : {T : Texts} {b d : ℕ} {s : Sort} {p : Piece} → LiePiece T b s p d → {j : ℕ} {x : Node} → NodeIn p j x → (q : ℕ) × Lies T q x
lie_in (LiePiece.child {p = q} x) NodeIn.one = (q, x)
lie_in (LiePiece.chosen {b = b} {p = p} {q = q} x) NodeIn.one = (cond (eqb b 1) p q, x)
lie_in (LiePiece.many {p = q} a) (NodeIn.list i) = (q, lie_item a i)
lie_in (LiePiece.gaps {p = q} a) (NodeIn.list i) = (q, lie_item a i)
lie_in (LiePiece.text a) i = elim i [ ]
lie_in (LiePiece.byte a b c) i = elim i [ ]
lie_in (LiePiece.mark a) i = elim i [ ]
lie_in (LiePiece.number a) i = elim i [ ]

pub lie_field : {T : Texts} {b : ℕ} {ts : List Field} {fs : Fields} → LieFields T b ts fs → {i j : ℕ} {x : Node} → FieldAt fs i j x → (q : ℕ) × Lies T q x
lie_field (LieFields.absent a) (FieldAt.behind_absent f) = lie_field a f
lie_field (LieFields.needed x a) (FieldAt.first f) = lie_in x f
lie_field (LieFields.needed x a) (FieldAt.behind f) = lie_field a f
lie_field (LieFields.given x a) (FieldAt.first f) = lie_in x f
lie_field (LieFields.given x a) (FieldAt.behind f) = lie_field a f
lie_field LieFields.done f = elim f [ ]

pub or_then : (a b : Bool) → b ≡ true → a || b ≡ true
or_then true b h = refl
or_then false b h = h

pub held : {fs : Fields} {i j : ℕ} {x : Node} → FieldAt fs i j x → any_holds fs ≡ true
held (FieldAt.first NodeIn.one) = refl
held (FieldAt.first (NodeIn.list i)) = refl
held (FieldAt.behind {p = p} {fs = fs} f) = or_then (holds_nodes p) (any_holds fs) (held f)
held (FieldAt.behind_absent f) = held f

-- ---- every node

-- y is left of a node that lies at a place, and is settled
pub record From (T : Texts) (y : Node) : Type 0 where
  pub place : ℕ
  pub before : Node
  pub left : Left before y
  pub lies : Lies T place before
  pub calm : Settled before

pub from : {T : Texts} {x y : Node} → Comes x y → (p : ℕ) → Lies T p x → From T y
from (Comes.comes c {n = n} e l) p x = record { place = p; before = (rewrite c n).result; left = l; lies = (leaves c p n x).tree e; calm = settled c n p x e }

below : {T : Texts} {at k : ℕ} {gs : Fields} {i j : ℕ} {z r : Node} {p : ℕ} → FieldAt gs i j z → Left r (node at k gs) → Lies T p r → From T z
below i (Left.kept t a) l =
    let x = come_field a i in
    let q = lie_field (fields_of_lem l t).1 x.1 in
    from x.2 q.0 q.1
below i (Left.named c) l = absurd (true≢false (sym (held i)))

part_from : {T : Texts} {y z : Node} {i j : ℕ} → PartAt y i j z → From T y → From T z
part_from (PartAt.part i) f = below i f.left f.lies

pub standing : {T : Texts} {a b : List ℕ} {y z : Node} → Stands a y b z → From T y → From T z
standing Stands.here f = f
standing (Stands.onward i s) f = standing s (part_from i f)

-- ---- spreads

come_list : {fs gs : Fields} → ComeFields fs gs → (i : ℕ) → ComeItems (as_items_of (piece_in fs i)) (as_items_of (piece_in gs i))
unfolding piece_in
come_list ComeFields.done i = ComeItems.none
come_list (ComeFields.absent a) zero = ComeItems.none
come_list (ComeFields.absent a) (suc i) = come_list a i
come_list (ComeFields.field (ComePiece.one c) a) zero = ComeItems.none
come_list (ComeFields.field (ComePiece.list c) a) zero = c
come_list (ComeFields.field ComePiece.text a) zero = ComeItems.none
come_list (ComeFields.field ComePiece.byte a) zero = ComeItems.none
come_list (ComeFields.field (ComePiece.mark c d) a) zero = ComeItems.none
come_list (ComeFields.field ComePiece.number a) zero = ComeItems.none
come_list (ComeFields.field c a) (suc i) = come_list a i

pub left_kind : {r y : Node} → Left r y → kind y ≡ kind r
left_kind (Left.kept t a) = refl
left_kind (Left.named c) = refl

-- at the place of a property stand 25 and 26, which no rule changes
property_kind : (k : ℕ) → 0 < form_at rewritten 12 k → eqb k 26 ≡ false → k ≡ 25
unfolding form_at allowed places also among form_in kind_of
property_kind k h e = go (ltb k 64) (eqb 25 k) refl (eqb 26 k) refl h
  where
    go : (b d : Bool) → eqb 25 k ≡ d → (f : Bool) → eqb 26 k ≡ f → 0 < cond b (cond d 25 (cond f 26 0)) 0 → k ≡ 25
    go true true q f u z = sym (eqb-true 25 k q)
    go true false q true u z = absurd (true≢false (sym (same_26 (sym (eqb-true 26 k u))) ∙ e))
      where
        same_26 : k ≡ 26 → eqb k 26 ≡ true
        same_26 v = rw v refl
    go true false q false u z = absurd (omega arith)
    go false d q f u z = absurd (omega arith)

unchanged_25 : (c : Context) (n : Node) → kind n ≡ 25 → kind (rewrite c n).result ≡ 25
unfolding rewrite rule_of
unchanged_25 c (node at k fs) e = rw e refl

property_comes : {T : Texts} {x y : Node} → Comes x y → Lies T 12 x → is 26 x ≡ false → is 26 y ≡ false
unfolding is
property_comes (Comes.comes c {n = n} e l) m h = rw (left_kind l ∙ unchanged_25 c n (property_kind (kind n) (may_stand m) h)) refl

properties_come : {T : Texts} {h : Bool} {is js : Items} → LieItems T 12 h is → ComeItems is js → any (λ x. Rattle.lowering.specs.Parts.is 26 x) is ≡ false → any (λ x. Rattle.lowering.specs.Parts.is 26 x) js ≡ false
unfolding any
properties_come LieItems.none ComeItems.none e = refl
properties_come (LieItems.hole a) (ComeItems.hole b) e = properties_come a b e
properties_come (LieItems.item {n = n} {is = ns} x a) (ComeItems.item c b) e =
    rw (property_comes c x (or_left (Rattle.lowering.specs.Parts.is 26 n) (any (λ x. Rattle.lowering.specs.Parts.is 26 x) ns) e))
    (properties_come a b (or_right (Rattle.lowering.specs.Parts.is 26 n) (any (λ x. Rattle.lowering.specs.Parts.is 26 x) ns) e))

literal_comes : {T : Texts} {at k p : ℕ} {fs gs : Fields} → Settled (node at k fs) → Lies T p (node at k fs) → ComeFields fs gs → eqb k 24 ≡ true → any (λ x. is 26 x) (as_items_of (piece_in gs 0)) ≡ false
unfolding fields_of kinds
literal_comes {p = p} {fs = fs} (Settled.of_literal h) l a e =
    let f = fields_at p 24 24 (must (Sort.many 12) ∷ []) refl (form_24 p (takes_24 p (may_stand l))) refl l refl in
    properties_come (list_at f 0) (come_list a 0) h
literal_comes (Settled.of_declaration h) l a e = absurd (true≢false (sym e))
literal_comes (Settled.of_assignment h) l a e = absurd (true≢false (sym e))
literal_comes (Settled.of_function h) l a e = absurd (true≢false (sym e))
literal_comes (Settled.of_arrow h) l a e = absurd (true≢false (sym e))
literal_comes (Settled.of_catch h) l a e = absurd (true≢false (sym e))
literal_comes (Settled.of_for_in h) l a e = absurd (true≢false (sym e))
literal_comes (Settled.of_for_of h) l a e = absurd (true≢false (sym e))
literal_comes (Settled.of_other e₁ e₂ e₃ e₄ e₅ e₆ e₇ e₈) l a e = absurd (true≢false (sym e ∙ e₁))

spread_none : {T : Texts} {r y : Node} {p : ℕ} → Left r y → Lies T p r → Settled r → keeps_spread y ≡ false
unfolding keeps_spread is items_at_of
spread_none (Left.kept {k = k} {gs = gs} t a) l s =
    by_test (eqb k 24) (λ e. rw e (literal_comes s l a e)) (λ e. rw e refl)
spread_none (Left.named c) l s = refl

-- no object literal that stands in what is left of a node has a spread
pub no_spread : {T : Texts} {x y : Node} → Comes x y → (p : ℕ) → Lies T p x → {a b : List ℕ} {z : Node} → Stands a y b z → keeps_spread z ≡ false
no_spread c p l s = let f = standing s (from c p l) in spread_none f.left f.lies f.calm
