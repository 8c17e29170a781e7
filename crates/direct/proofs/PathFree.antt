-- What a node does depends on its place, and not on the path to it: the names of temporaries are not written.
-- Assumes nothing.
use mathlib.Core.Path.{◌≡◌, refl, sym, ap, ap₂, ◌∙◌, subst, fun_ext}
use mathlib.Core.Bool.{Bool, false, cond, ◌||◌, ◌&&◌, not, true≢false}
use mathlib.Core.List.{List, [], ◌∷◌, ◌++◌}
use Prim.Native.Nat.{ℕ, zero, suc, ◌+◌}
use native.Mathlib.Omega.{arith}
use lib.Dec.{eqb}
use Rattle.tree.specs.Tree.{Node, Fields, Piece, Items, wide_bytes}
use Rattle.lowering.specs.Parts.{is}
use Rattle.lowering.specs.Made.{Context}
use Rattle.lowering.specs.Walk.{Note, Walked, each_item_of, each_piece, each_field, inside, rewrite, opens_scope, within, walk}
use Rattle.lowering.specs.Weight.{weight, walked}
use Rattle.lowering.specs.Collect.{is_container, marked, mark_in, mark_of}
use Rattle.lowering.proofs.Cases.{by_test}
use Rattle.lowering.proofs.Falls.{walk_more}
use Rattle.direct.specs.Events.{Deed, Place, hands_out, after, number_in, count_in, map_in, written, deeds, deeds_fields, deeds_piece, deeds_items, puts, context_of, emits}
use Rattle.direct.proofs.Alike.{Alike, alike, AlikeFields, AlikePiece, AlikeItems, is_alike, kind_alike}
use Rattle.direct.proofs.AlikeRules.{rewrite_alike}

-- two walked nodes that do the same wherever they stand
pub record SameDeeds (w v : Walked) : Type 0 where
  pub does : (next m : ℕ) → deeds next m w ≡ deeds next m v
  pub begins : mark_of w ≡ mark_of v

module _ {ok : Bool} (w v : ℕ → Node → Walked) (h : (j : ℕ) (n m : Node) → Alike ok n m → SameDeeds (w j n) (v j m)) where
  count_same : {k : ℕ} {is js : Items} (j : ℕ) → AlikeItems ok k is js → count_in (each_item_of w j is) ≡ count_in (each_item_of v j js)
  unfolding each_item_of count_in
  count_same j AlikeItems.none = refl
  count_same j (AlikeItems.hole is) = ap suc (count_same (suc j) is)
  count_same j (AlikeItems.item a s is) = ap suc (count_same (suc j) is)

  items_same : {k : ℕ} {is js : Items} (j : ℕ) → AlikeItems ok k is js → (l : Bool) (next m : ℕ) → deeds_items l next m (each_item_of w j is) ≡ deeds_items l next m (each_item_of v j js)
  unfolding each_item_of deeds
  items_same j AlikeItems.none l next m = refl
  items_same j (AlikeItems.hole is) l next m = ap (λ (x : List Deed). puts (0 ∷ []) ++ x) (items_same (suc j) is l next m)
  items_same j (AlikeItems.item {n = n} {m = o} {is = is} {js = js} a s z) l next m =
      let t = h j n o a in
      let f : List Deed → List Deed = λ x. x ++ deeds_items l (after next x) m (each_item_of w (suc j) is) in
      ap (λ (x : ℕ). f (deeds next (cond l (marked next x) m) (w j n))) t.begins
      ∙ ap f (t.does next (cond l (marked next (mark_of (v j o))) m))
      ∙ ap (λ (x : List Deed). deeds next (cond l (marked next (mark_of (v j o))) m) (v j o) ++ x)
      (items_same (suc j) z l (after next (deeds next (cond l (marked next (mark_of (v j o))) m) (v j o))) m)

  piece_same : {k : ℕ} {p q : Piece} → eqb k 20 ≡ false → AlikePiece ok k p q → (l : Bool) (next m : ℕ) → deeds_piece l next m (each_piece w p) ≡ deeds_piece l next m (each_piece v q)
  unfolding each_piece deeds
  piece_same e (AlikePiece.one {n = n} {m = o} a) l next m = (h 0 n o a).does next m
  piece_same e (AlikePiece.list a) l next m = ap₂ (λ (x : ℕ) (y : List Deed). puts (wide_bytes x) ++ y) (count_same 0 a) (items_same 0 a l next m)
  piece_same e AlikePiece.text l next m = refl
  piece_same e (AlikePiece.path z) l next m = absurd (true≢false (sym z ∙ e))
  piece_same e AlikePiece.byte l next m = refl
  piece_same e AlikePiece.mark l next m = refl
  piece_same e AlikePiece.number l next m = refl

module _ {ok : Bool} (w v : ℕ → ℕ → Node → Walked) (h : (i j : ℕ) (n m : Node) → Alike ok n m → SameDeeds (w i j n) (v i j m)) where
  fields_same : {k : ℕ} {fs gs : Fields} (i : ℕ) → eqb k 20 ≡ false → AlikeFields ok k fs gs → (l : Bool) (next m : ℕ)
      → deeds_fields l next m (each_field w i fs) ≡ deeds_fields l next m (each_field v i gs)
  unfolding each_field deeds
  fields_same i e AlikeFields.done l next m = refl
  fields_same i e (AlikeFields.absent f) l next m = fields_same (suc i) e f l next m
  fields_same i e (AlikeFields.field {p = p} {q = q} {fs = fs} {gs = gs} a f) l next m =
      ap (λ (x : List Deed). x ++ deeds_fields l (after next x) m (each_field w (suc i) fs)) (piece_same (w i) (v i) (h i) e a l next m)
      ∙ ap (λ (x : List Deed). deeds_piece l next m (each_piece (v i) q) ++ x) (fields_same (suc i) e f l (after next (deeds_piece l next m (each_piece (v i) q))) m)

  map_same : {k : ℕ} {fs gs : Fields} (i : ℕ) → AlikeFields ok k fs gs → map_in (each_field w i fs) ≡ map_in (each_field v i gs)
  unfolding each_field map_in
  map_same i AlikeFields.done = refl
  map_same i (AlikeFields.absent f) = ap (λ (x : ℕ). x + x) (map_same (suc i) f)
  map_same i (AlikeFields.field a f) = ap (λ (x : ℕ). suc (x + x)) (map_same (suc i) f)

  number_same : {k : ℕ} {fs gs : Fields} → AlikeFields ok k fs gs → number_in (each_field w 0 fs) ≡ number_in (each_field v 0 gs)
  unfolding each_field each_piece number_in
  number_same AlikeFields.done = refl
  number_same (AlikeFields.absent f) = refl
  number_same (AlikeFields.field (AlikePiece.one a) f) = refl
  number_same (AlikeFields.field (AlikePiece.list a) f) = refl
  number_same (AlikeFields.field AlikePiece.text f) = refl
  number_same (AlikeFields.field (AlikePiece.path e) f) = refl
  number_same (AlikeFields.field AlikePiece.byte f) = refl
  number_same (AlikeFields.field AlikePiece.mark f) = refl
  number_same (AlikeFields.field AlikePiece.number f) = refl

  mark_same : {k : ℕ} {fs gs : Fields} → AlikeFields ok k fs gs → mark_in (each_field w 0 fs) ≡ mark_in (each_field v 0 gs)
  unfolding each_field each_piece mark_in
  mark_same AlikeFields.done = refl
  mark_same (AlikeFields.absent f) = refl
  mark_same (AlikeFields.field (AlikePiece.one a) f) = refl
  mark_same (AlikeFields.field (AlikePiece.list a) f) = refl
  mark_same (AlikeFields.field AlikePiece.text f) = refl
  mark_same (AlikeFields.field (AlikePiece.path e) f) = refl
  mark_same (AlikeFields.field AlikePiece.byte f) = refl
  mark_same (AlikeFields.field AlikePiece.mark f) = refl
  mark_same (AlikeFields.field AlikePiece.number f) = refl

  written_same : {k : ℕ} {fs gs : Fields} (at : ℕ) → AlikeFields ok k fs gs → (l : Bool) (next m : ℕ)
      → written at k (each_field w 0 fs) (deeds_fields l next m (each_field w 0 fs)) ≡ written at k (each_field v 0 gs) (deeds_fields l next m (each_field v 0 gs))
  unfolding written
  written_same {k = k} at a l next m =
      by_test (eqb k 20)
      (λ e. rw (e, number_same a) refl)
      (λ e. rw (e, number_same a, map_same 0 a, fields_same 0 e a l next m) refl)

  inside_alike : {n m : Node} (note other : Note) → ((k : ℕ) → hands_out k note ≡ hands_out k other) → Alike ok n m → SameDeeds (inside note w n) (inside other v m)
  unfolding inside deeds
  inside_alike note other e (alike {at = at} {k = k} t a) =
      record {
        does = λ next m. ap₂ (λ (x y : List Deed). x ++ y) (e m) (written_same at a (is_container k) next m);
        begins = mark_same a;
      }

-- ---- the walk

-- two contexts that differ in the path only
pub record Near (c d : Context) : Type 0 where
  pub root : c.root ≡ d.root
  pub statement : c.statement ≡ d.statement

within_near : {ok : Bool} (c d : Context) (n m : Node) (i j : ℕ) → Near c d → Alike ok n m → Near (within c n i j) (within d m i j)
unfolding within
within_near c d n m i j e a =
    record {
      root = ap₂ (λ (x : Bool) (y : ℕ). x && not (opens_scope y i)) e.root (kind_alike a);
      statement = ap₂ (λ (x y : Bool). x || y) (is_alike 3 a) (ap₂ (λ (x y : Bool). x && y) (is_alike 31 a) e.statement);
    }

walk_alike : {ok : Bool} (f : ℕ) (c d : Context) (n m : Node) → Near c d → Alike ok n m → SameDeeds (walk f c n) (walk f d m)
unfolding walk
walk_alike zero c d n m e a = record { does = λ next k. refl; begins = refl }
walk_alike (suc f) c d n m e a =
    let s = rewrite_alike c d e.root e.statement a in
    let x = (rewrite c n).result in
    let y = (rewrite d m).result in
    inside_alike (λ i j o. walk f (within c x i j) o) (λ i j o. walk f (within d y i j) o)
    (λ i j o p b. walk_alike f (within c x i j) (within d y i j) o p (within_near c d x y i j e s.result) b)
    (rewrite c n).note (rewrite d m).note s.hands s.result

pub walked_alike : {ok : Bool} (c d : Context) (n m : Node) → Near c d → Alike ok n m → SameDeeds (walked c n) (walked d m)
walked_alike c d n m e a =
    let f = weight n + weight m in
    let x : walk f c n ≡ walked c n = walk_more f c n (omega arith) in
    let y : walk f d m ≡ walked d m = walk_more f d m (omega arith) in
    subst (λ (z : Walked). SameDeeds z (walked d m)) x (subst (λ (z : Walked). SameDeeds (walk f c n) z) y (walk_alike f c d n m e a))

-- ---- places

-- the names of the temporaries in a node play no part in what it does
pub names_free : {ok : Bool} (c : Place) (n m : Node) → Alike ok n m → emits c n ≡ emits c m
unfolding emits
names_free c n m a = fun_ext (λ next. (walked_alike (context_of c) (context_of c) n m (record { root = refl; statement = refl }) a).does next c.mark)
