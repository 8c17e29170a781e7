-- Nodes that differ in nothing but the names of temporaries. What is handed out of a pattern is written as it stands, so the keys of its
-- properties are the same, or temporaries.
-- Assumes nothing.
use mathlib.Core.Path.{◌≡◌, refl, sym, ap, ap₂, ◌∙◌}
use mathlib.Core.Bool.{Bool, true, false, cond, ◌||◌, true≢false, false≢true}
use mathlib.Core.List.{List}
use Prim.Native.Nat.{ℕ, zero, suc, max}
use lib.Dec.{eqb}
use Rattle.tree.specs.Tree.{Node, Fields, Piece, Items, depth, depth_fields, depth_piece, depth_items, count}
use Rattle.tree.specs.Tree.Node.{node}
use Rattle.lowering.specs.Parts.{nothing, position, kind, is, piece_in, stands_in, change_in, drop_in, as_node, as_items_of, as_number, node_at_of, items_at_of, number_at, stands, change, on_node, on_items, change_node, change_items, without, only, each, gather, any, is_empty, ◌+++◌, or_else, first}
use Rattle.lowering.specs.Made.{temporary, helper, string, call, object, array, sequence, member, assign, declares, declared, let_of, var_of, assigning, returning, block, function_body}
use Rattle.lowering.specs.Patterns.{shape}

-- one key, or two temporaries
pub data SameKey : Node → Node → Type 0 where
  same : {n m : Node} → n ≡ m → SameKey n m
  temporaries : {n m : Node} → is 20 n ≡ true → is 20 m ≡ true → SameKey n m

-- a Temporary or a Helper without nodes and marks in it
abbrev pub SmallPiece : Piece → Type 0
SmallPiece (Piece.one n) = ⊥
SmallPiece (Piece.list ns) = ⊥
SmallPiece (Piece.text bs) = Unit {0}
SmallPiece (Piece.byte b) = Unit {0}
SmallPiece (Piece.mark b) = ⊥
SmallPiece (Piece.number b) = Unit {0}

abbrev pub Small : Fields → Type 0
Small Fields.done = Unit {0}
Small (Fields.absent fs) = Small fs
Small (Fields.field p fs) = SmallPiece p × Small fs

abbrev pub Plain : ℕ → Fields → Type 0
Plain k fs = eqb k 20 || eqb k 21 ≡ true → Small fs

-- where `ok` is true, all Temporaries and Helpers are plain
mutual
  pub data Alike : Bool → Node → Node → Type 0 where
    alike : {ok : Bool} {at k : ℕ} {fs gs : Fields} → (ok ≡ true → Plain k fs) → AlikeFields ok k fs gs → Alike ok (node at k fs) (node at k gs)

  pub data AlikeFields : Bool → ℕ → Fields → Fields → Type 0 where
    done : {ok : Bool} {k : ℕ} → AlikeFields ok k Fields.done Fields.done
    absent : {ok : Bool} {k : ℕ} {fs gs : Fields} → AlikeFields ok k fs gs → AlikeFields ok k (Fields.absent fs) (Fields.absent gs)
    field : {ok : Bool} {k : ℕ} {p q : Piece} {fs gs : Fields} → AlikePiece ok k p q → AlikeFields ok k fs gs → AlikeFields ok k (Fields.field p fs) (Fields.field q gs)

  pub data AlikePiece : Bool → ℕ → Piece → Piece → Type 0 where
    one : {ok : Bool} {k : ℕ} {n m : Node} → Alike ok n m → AlikePiece ok k (Piece.one n) (Piece.one m)
    list : {ok : Bool} {k : ℕ} {is js : Items} → AlikeItems ok k is js → AlikePiece ok k (Piece.list is) (Piece.list js)
    text : {ok : Bool} {k : ℕ} {bs : List ℕ} → AlikePiece ok k (Piece.text bs) (Piece.text bs)
    path : {ok : Bool} {k : ℕ} {bs cs : List ℕ} → eqb k 20 ≡ true → AlikePiece ok k (Piece.text bs) (Piece.text cs)
    byte : {ok : Bool} {k b : ℕ} → AlikePiece ok k (Piece.byte b) (Piece.byte b)
    mark : {ok : Bool} {k b : ℕ} → AlikePiece ok k (Piece.mark b) (Piece.mark b)
    number : {ok : Bool} {k b : ℕ} → AlikePiece ok k (Piece.number b) (Piece.number b)

  -- the items of a node of kind k
  pub data AlikeItems : Bool → ℕ → Items → Items → Type 0 where
    none : {ok : Bool} {k : ℕ} → AlikeItems ok k Items.none Items.none
    hole : {ok : Bool} {k : ℕ} {is js : Items} → AlikeItems ok k is js → AlikeItems ok k (Items.hole is) (Items.hole js)
    item : {ok : Bool} {k : ℕ} {n m : Node} {is js : Items} → Alike ok n m → (eqb k 34 ≡ true → SameKey (node_at_of 0 n) (node_at_of 0 m)) → AlikeItems ok k is js
        → AlikeItems ok k (Items.item n is) (Items.item m js)

-- two items of a node of kind k
abbrev pub Linked : Bool → ℕ → Node → Node → Type 0
Linked ok k n m = Alike ok n m × (eqb k 34 ≡ true → SameKey (node_at_of 0 n) (node_at_of 0 m))

-- ---- a node is like itself

mutual
  pub alike_refl : (n : Node) → Alike false n n
  alike_refl (node at k fs) = alike (λ e. absurd (false≢true e)) (fields_refl k fs)

  pub fields_refl : (k : ℕ) (fs : Fields) → AlikeFields false k fs fs
  fields_refl k Fields.done = AlikeFields.done
  fields_refl k (Fields.absent fs) = AlikeFields.absent (fields_refl k fs)
  fields_refl k (Fields.field p fs) = AlikeFields.field (piece_refl k p) (fields_refl k fs)

  pub piece_refl : (k : ℕ) (p : Piece) → AlikePiece false k p p
  piece_refl k (Piece.one n) = AlikePiece.one (alike_refl n)
  piece_refl k (Piece.list is) = AlikePiece.list (items_refl k is)
  piece_refl k (Piece.text bs) = AlikePiece.text
  piece_refl k (Piece.byte b) = AlikePiece.byte
  piece_refl k (Piece.mark b) = AlikePiece.mark
  piece_refl k (Piece.number b) = AlikePiece.number

  pub items_refl : (k : ℕ) (is : Items) → AlikeItems false k is is
  items_refl k Items.none = AlikeItems.none
  items_refl k (Items.hole is) = AlikeItems.hole (items_refl k is)
  items_refl k (Items.item n is) = AlikeItems.item (alike_refl n) (λ e. same refl) (items_refl k is)

pub temporary_alike : {ok : Bool} (p q : List ℕ) (stem at : ℕ) → Alike ok (temporary p stem at) (temporary q stem at)
temporary_alike p q stem at = alike {fs = Fields.field (Piece.number stem) (Fields.field (Piece.text p) Fields.done)} (λ e h. (tt, (tt, tt))) (AlikeFields.field AlikePiece.number (AlikeFields.field (AlikePiece.path refl) AlikeFields.done))

pub nothing_alike : {ok : Bool} → Alike ok nothing nothing
nothing_alike = alike (λ e h. tt) AlikeFields.done

pub helper_alike : {ok : Bool} (h : ℕ) → Alike ok (helper h) (helper h)
helper_alike h = alike {fs = Fields.field (Piece.byte h) Fields.done} (λ e z. (tt, tt)) (AlikeFields.field AlikePiece.byte AlikeFields.done)

-- ---- parts

pub kind_alike : {ok : Bool} {n m : Node} → Alike ok n m → kind n ≡ kind m
kind_alike (alike t f) = refl

pub position_alike : {ok : Bool} {n m : Node} → Alike ok n m → position n ≡ position m
position_alike (alike t f) = refl

pub is_alike : {ok : Bool} {n m : Node} (j : ℕ) → Alike ok n m → is j n ≡ is j m
unfolding is
is_alike j (alike t f) = refl

pub shape_alike : {ok : Bool} {n m : Node} → Alike ok n m → shape n ≡ shape m
unfolding shape
shape_alike (alike t f) = refl

piece_in_lem : {ok : Bool} {k : ℕ} {fs gs : Fields} (i : ℕ) → AlikeFields ok k fs gs → AlikePiece ok k (piece_in fs i) (piece_in gs i)
unfolding piece_in
piece_in_lem i AlikeFields.done = AlikePiece.number
piece_in_lem zero (AlikeFields.absent f) = AlikePiece.number
piece_in_lem (suc i) (AlikeFields.absent f) = piece_in_lem i f
piece_in_lem zero (AlikeFields.field p f) = p
piece_in_lem (suc i) (AlikeFields.field p f) = piece_in_lem i f

stands_in_lem : {ok : Bool} {k : ℕ} {fs gs : Fields} (i : ℕ) → AlikeFields ok k fs gs → stands_in fs i ≡ stands_in gs i
unfolding stands_in
stands_in_lem i AlikeFields.done = refl
stands_in_lem zero (AlikeFields.absent f) = refl
stands_in_lem (suc i) (AlikeFields.absent f) = stands_in_lem i f
stands_in_lem zero (AlikeFields.field p f) = refl
stands_in_lem (suc i) (AlikeFields.field p f) = stands_in_lem i f

as_node_lem : {ok : Bool} {k : ℕ} {p q : Piece} → AlikePiece ok k p q → Alike ok (as_node p) (as_node q)
as_node_lem (AlikePiece.one a) = a
as_node_lem (AlikePiece.list is) = nothing_alike
as_node_lem AlikePiece.text = nothing_alike
as_node_lem (AlikePiece.path e) = nothing_alike
as_node_lem AlikePiece.byte = nothing_alike
as_node_lem AlikePiece.mark = nothing_alike
as_node_lem AlikePiece.number = nothing_alike

as_items : {ok : Bool} {k : ℕ} {p q : Piece} → AlikePiece ok k p q → AlikeItems ok k (as_items_of p) (as_items_of q)
as_items (AlikePiece.one a) = AlikeItems.none
as_items (AlikePiece.list is) = is
as_items AlikePiece.text = AlikeItems.none
as_items (AlikePiece.path e) = AlikeItems.none
as_items AlikePiece.byte = AlikeItems.none
as_items AlikePiece.mark = AlikeItems.none
as_items AlikePiece.number = AlikeItems.none

pub as_number_lem : {ok : Bool} {k : ℕ} {p q : Piece} → AlikePiece ok k p q → as_number p ≡ as_number q
as_number_lem (AlikePiece.one a) = refl
as_number_lem (AlikePiece.list is) = refl
as_number_lem AlikePiece.text = refl
as_number_lem (AlikePiece.path e) = refl
as_number_lem AlikePiece.byte = refl
as_number_lem AlikePiece.mark = refl
as_number_lem AlikePiece.number = refl

pub node_at : {ok : Bool} {n m : Node} (i : ℕ) → Alike ok n m → Alike ok (node_at_of i n) (node_at_of i m)
unfolding node_at_of
node_at i (alike t f) = as_node_lem (piece_in_lem i f)

pub items_at : {ok : Bool} {n m : Node} (i : ℕ) → Alike ok n m → AlikeItems ok (kind n) (items_at_of i n) (items_at_of i m)
unfolding items_at_of
items_at i (alike t f) = as_items (piece_in_lem i f)

pub number_at_lem : {ok : Bool} {n m : Node} (i : ℕ) → Alike ok n m → number_at i n ≡ number_at i m
unfolding number_at
number_at_lem i (alike t f) = as_number_lem (piece_in_lem i f)

pub stands_at : {ok : Bool} {n m : Node} (i : ℕ) → Alike ok n m → stands i n ≡ stands i m
unfolding stands
stands_at i (alike t f) = stands_in_lem i f

mutual
  unfolding depth

  pub depth_alike : {ok : Bool} {n m : Node} → Alike ok n m → depth n ≡ depth m
  depth_alike (alike t f) = ap suc (depth_fields_lem f)

  depth_fields_lem : {ok : Bool} {k : ℕ} {fs gs : Fields} → AlikeFields ok k fs gs → depth_fields fs ≡ depth_fields gs
  depth_fields_lem AlikeFields.done = refl
  depth_fields_lem (AlikeFields.absent f) = depth_fields_lem f
  depth_fields_lem (AlikeFields.field p f) = ap₂ (λ (x y : ℕ). max x y) (depth_piece_lem p) (depth_fields_lem f)

  depth_piece_lem : {ok : Bool} {k : ℕ} {p q : Piece} → AlikePiece ok k p q → depth_piece p ≡ depth_piece q
  depth_piece_lem (AlikePiece.one a) = depth_alike a
  depth_piece_lem (AlikePiece.list is) = depth_items_lem is
  depth_piece_lem AlikePiece.text = refl
  depth_piece_lem (AlikePiece.path e) = refl
  depth_piece_lem AlikePiece.byte = refl
  depth_piece_lem AlikePiece.mark = refl
  depth_piece_lem AlikePiece.number = refl

  depth_items_lem : {ok : Bool} {k : ℕ} {is js : Items} → AlikeItems ok k is js → depth_items is ≡ depth_items js
  depth_items_lem AlikeItems.none = refl
  depth_items_lem (AlikeItems.hole is) = depth_items_lem is
  depth_items_lem (AlikeItems.item a s is) = ap₂ (λ (x y : ℕ). max x y) (depth_alike a) (depth_items_lem is)

-- ---- lists

pub empty_alike : {ok : Bool} {k : ℕ} {is js : Items} → AlikeItems ok k is js → is_empty is ≡ is_empty js
unfolding is_empty
empty_alike AlikeItems.none = refl
empty_alike (AlikeItems.hole is) = refl
empty_alike (AlikeItems.item a s is) = refl

pub count_alike : {ok : Bool} {k : ℕ} {is js : Items} → AlikeItems ok k is js → count is ≡ count js
unfolding count
count_alike AlikeItems.none = refl
count_alike (AlikeItems.hole is) = ap suc (count_alike is)
count_alike (AlikeItems.item a s is) = ap suc (count_alike is)

-- the same items in a node of another kind
pub recast : {ok : Bool} {is js : Items} (k j : ℕ) → (eqb j 34 ≡ true → eqb k 34 ≡ true) → AlikeItems ok k is js → AlikeItems ok j is js
recast k j e AlikeItems.none = AlikeItems.none
recast k j e (AlikeItems.hole is) = AlikeItems.hole (recast k j e is)
recast k j e (AlikeItems.item a s is) = AlikeItems.item a (λ h. s (e h)) (recast k j e is)

-- outside of an object pattern nothing more is asked of items
pub loose : {ok : Bool} {is js : Items} (k : ℕ) → AlikeItems ok k is js → AlikeItems ok 0 is js
loose k is = recast k 0 (λ h. absurd (false≢true h)) is

pub tight : {ok : Bool} {is js : Items} (k : ℕ) → eqb k 34 ≡ false → AlikeItems ok 0 is js → AlikeItems ok k is js
tight k e is = recast 0 k (λ h. absurd (true≢false (sym h ∙ e))) is

pub only_alike : {ok : Bool} {n m : Node} → Alike ok n m → AlikeItems ok 0 (only n) (only m)
only_alike a = AlikeItems.item a (λ h. absurd (false≢true h)) AlikeItems.none

pub more_alike : {ok : Bool} {n m : Node} {is js : Items} → Alike ok n m → AlikeItems ok 0 is js → AlikeItems ok 0 (Items.item n is) (Items.item m js)
more_alike a is = AlikeItems.item a (λ h. absurd (false≢true h)) is

pub append_alike : {ok : Bool} {k : ℕ} {is js ks ls : Items} → AlikeItems ok k is js → AlikeItems ok k ks ls → AlikeItems ok k (is +++ ks) (js +++ ls)
unfolding ◌+++◌
append_alike AlikeItems.none b = b
append_alike (AlikeItems.hole is) b = AlikeItems.hole (append_alike is b)
append_alike (AlikeItems.item a s is) b = AlikeItems.item a s (append_alike is b)

pub each_alike : {ok : Bool} {is js : Items} (k j : ℕ) (f g : Node → Node) → ((n m : Node) → Linked ok k n m → Linked ok j (f n) (g m)) → AlikeItems ok k is js → AlikeItems ok j (each f is) (each g js)
unfolding each
each_alike k j f g h AlikeItems.none = AlikeItems.none
each_alike k j f g h (AlikeItems.hole is) = AlikeItems.hole (each_alike k j f g h is)
each_alike k j f g h (AlikeItems.item {n = n} {m = m} a s is) =
    let l = h n m (a, s) in AlikeItems.item l.0 l.1 (each_alike k j f g h is)

pub gather_alike : {ok : Bool} {is js : Items} (k j : ℕ) (f g : Node → Items) → ((n m : Node) → Linked ok k n m → AlikeItems ok j (f n) (g m)) → AlikeItems ok k is js → AlikeItems ok j (gather f is) (gather g js)
unfolding gather
gather_alike k j f g h AlikeItems.none = AlikeItems.none
gather_alike k j f g h (AlikeItems.hole is) = gather_alike k j f g h is
gather_alike k j f g h (AlikeItems.item {n = n} {m = m} a s is) = append_alike (h n m (a, s)) (gather_alike k j f g h is)

pub first_alike : {ok : Bool} {is js : Items} (k : ℕ) (f g : Node → ℕ) → ((n m : Node) → Linked ok k n m → f n ≡ g m) → AlikeItems ok k is js → first f is ≡ first g js
unfolding first
first_alike k f g h AlikeItems.none = refl
first_alike k f g h (AlikeItems.hole is) = first_alike k f g h is
first_alike k f g h (AlikeItems.item {n = n} {m = m} a s is) = ap₂ or_else (h n m (a, s)) (first_alike k f g h is)

pub any_alike : {ok : Bool} {is js : Items} (k : ℕ) (f g : Node → Bool) → ((n m : Node) → Linked ok k n m → f n ≡ g m) → AlikeItems ok k is js → any f is ≡ any g js
unfolding any
any_alike k f g h AlikeItems.none = refl
any_alike k f g h (AlikeItems.hole is) = any_alike k f g h is
any_alike k f g h (AlikeItems.item {n = n} {m = m} a s is) = ap₂ (λ (x y : Bool). x || y) (h n m (a, s)) (any_alike k f g h is)

-- ---- tests

pub cond_alike : {ok : Bool} {n m x y : Node} (b d : Bool) → b ≡ d → (b ≡ true → Alike ok n x) → (b ≡ false → Alike ok m y) → Alike ok (cond b n m) (cond d x y)
cond_alike true true e f g = f refl
cond_alike true false e f g = absurd (true≢false e)
cond_alike false true e f g = absurd (false≢true e)
cond_alike false false e f g = g refl

pub cond_items : {ok : Bool} {is js ks ls : Items} {k : ℕ} (b d : Bool) → b ≡ d → (b ≡ true → AlikeItems ok k is ks) → (b ≡ false → AlikeItems ok k js ls) → AlikeItems ok k (cond b is js) (cond d ks ls)
cond_items true true e f g = f refl
cond_items true false e f g = absurd (true≢false e)
cond_items false true e f g = absurd (false≢true e)
cond_items false false e f g = g refl

-- ---- changes

-- there is no node and no list to change in a small one
small_node : (fs : Fields) (i : ℕ) (f : Node → Node) → Small fs → Small (change_in fs i (on_node f))
unfolding change_in on_node
small_node Fields.done i f h = h
small_node (Fields.absent fs) zero f h = h
small_node (Fields.absent fs) (suc i) f h = small_node fs i f h
small_node (Fields.field (Piece.one n) fs) i f h = absurd h.0
small_node (Fields.field (Piece.list ns) fs) i f h = absurd h.0
small_node (Fields.field (Piece.text bs) fs) zero f h = h
small_node (Fields.field (Piece.byte b) fs) zero f h = h
small_node (Fields.field (Piece.mark b) fs) i f h = absurd h.0
small_node (Fields.field (Piece.number b) fs) zero f h = h
small_node (Fields.field (Piece.text bs) fs) (suc i) f h = (tt, small_node fs i f h.1)
small_node (Fields.field (Piece.byte b) fs) (suc i) f h = (tt, small_node fs i f h.1)
small_node (Fields.field (Piece.number b) fs) (suc i) f h = (tt, small_node fs i f h.1)

small_items : (fs : Fields) (i : ℕ) (f : Items → Items) → Small fs → Small (change_in fs i (on_items f))
unfolding change_in on_items
small_items Fields.done i f h = h
small_items (Fields.absent fs) zero f h = h
small_items (Fields.absent fs) (suc i) f h = small_items fs i f h
small_items (Fields.field (Piece.one n) fs) i f h = absurd h.0
small_items (Fields.field (Piece.list ns) fs) i f h = absurd h.0
small_items (Fields.field (Piece.text bs) fs) zero f h = h
small_items (Fields.field (Piece.byte b) fs) zero f h = h
small_items (Fields.field (Piece.mark b) fs) i f h = absurd h.0
small_items (Fields.field (Piece.number b) fs) zero f h = h
small_items (Fields.field (Piece.text bs) fs) (suc i) f h = (tt, small_items fs i f h.1)
small_items (Fields.field (Piece.byte b) fs) (suc i) f h = (tt, small_items fs i f h.1)
small_items (Fields.field (Piece.number b) fs) (suc i) f h = (tt, small_items fs i f h.1)

small_drop : (fs : Fields) (i : ℕ) → Small fs → Small (drop_in fs i)
unfolding drop_in
small_drop Fields.done i h = h
small_drop (Fields.absent fs) zero h = h
small_drop (Fields.absent fs) (suc i) h = small_drop fs i h
small_drop (Fields.field p fs) zero h = h.1
small_drop (Fields.field p fs) (suc i) h = (h.0, small_drop fs i h.1)

change_in_lem : {ok : Bool} {k : ℕ} {fs gs : Fields} (i : ℕ) (f g : Piece → Piece) → ((p q : Piece) → AlikePiece ok k p q → AlikePiece ok k (f p) (g q)) → AlikeFields ok k fs gs
    → AlikeFields ok k (change_in fs i f) (change_in gs i g)
unfolding change_in
change_in_lem i f g h AlikeFields.done = AlikeFields.done
change_in_lem zero f g h (AlikeFields.absent fs) = AlikeFields.absent fs
change_in_lem (suc i) f g h (AlikeFields.absent fs) = AlikeFields.absent (change_in_lem i f g h fs)
change_in_lem zero f g h (AlikeFields.field {p = p} {q = q} a fs) = AlikeFields.field (h p q a) fs
change_in_lem (suc i) f g h (AlikeFields.field a fs) = AlikeFields.field a (change_in_lem i f g h fs)

drop_in_lem : {ok : Bool} {k : ℕ} {fs gs : Fields} (i : ℕ) → AlikeFields ok k fs gs → AlikeFields ok k (drop_in fs i) (drop_in gs i)
unfolding drop_in
drop_in_lem i AlikeFields.done = AlikeFields.done
drop_in_lem zero (AlikeFields.absent fs) = AlikeFields.absent fs
drop_in_lem (suc i) (AlikeFields.absent fs) = AlikeFields.absent (drop_in_lem i fs)
drop_in_lem zero (AlikeFields.field a fs) = AlikeFields.absent fs
drop_in_lem (suc i) (AlikeFields.field a fs) = AlikeFields.field a (drop_in_lem i fs)

on_node_lem : {ok : Bool} {k : ℕ} (f g : Node → Node) → ((n m : Node) → Alike ok n m → Alike ok (f n) (g m)) → (p q : Piece) → AlikePiece ok k p q → AlikePiece ok k (on_node f p) (on_node g q)
unfolding on_node
on_node_lem f g h (Piece.one n) (Piece.one m) (AlikePiece.one a) = AlikePiece.one (h n m a)
on_node_lem f g h (Piece.list is) (Piece.list js) (AlikePiece.list a) = AlikePiece.list a
on_node_lem f g h (Piece.text bs) (Piece.text cs) AlikePiece.text = AlikePiece.text
on_node_lem f g h (Piece.text bs) (Piece.text cs) (AlikePiece.path e) = AlikePiece.path e
on_node_lem f g h (Piece.byte b) (Piece.byte c) AlikePiece.byte = AlikePiece.byte
on_node_lem f g h (Piece.mark b) (Piece.mark c) AlikePiece.mark = AlikePiece.mark
on_node_lem f g h (Piece.number b) (Piece.number c) AlikePiece.number = AlikePiece.number
on_node_lem {ok = ok} {k = k} f g h (Rattle.tree.specs.Tree.one n) (Rattle.tree.specs.Tree.list js) x'' = elim x'' [ ]
on_node_lem {ok = ok} {k = k} f g h (Rattle.tree.specs.Tree.one n) (Rattle.tree.specs.Tree.text cs) x3 = elim x3 [ ]
on_node_lem {ok = ok} {k = k} f g h (Rattle.tree.specs.Tree.one n) (Rattle.tree.specs.Tree.byte c) x4 = elim x4 [ ]
on_node_lem {ok = ok} {k = k} f g h (Rattle.tree.specs.Tree.one n) (Rattle.tree.specs.Tree.mark c) x5 = elim x5 [ ]
on_node_lem {ok = ok} {k = k} f g h (Rattle.tree.specs.Tree.one n) (Rattle.tree.specs.Tree.number c) x6 = elim x6 [ ]
on_node_lem {ok = ok} {k = k} f g h (Rattle.tree.specs.Tree.list is) (Rattle.tree.specs.Tree.one m) x3 = elim x3 [ ]
on_node_lem {ok = ok} {k = k} f g h (Rattle.tree.specs.Tree.list is) (Rattle.tree.specs.Tree.text cs) x4 = elim x4 [ ]
on_node_lem {ok = ok} {k = k} f g h (Rattle.tree.specs.Tree.list is) (Rattle.tree.specs.Tree.byte c) x5 = elim x5 [ ]
on_node_lem {ok = ok} {k = k} f g h (Rattle.tree.specs.Tree.list is) (Rattle.tree.specs.Tree.mark c) x6 = elim x6 [ ]
on_node_lem {ok = ok} {k = k} f g h (Rattle.tree.specs.Tree.list is) (Rattle.tree.specs.Tree.number c) x7 = elim x7 [ ]
on_node_lem {ok = ok} {k = k} f g h (Rattle.tree.specs.Tree.text bs) (Rattle.tree.specs.Tree.one m) x4 = elim x4 [ ]
on_node_lem {ok = ok} {k = k} f g h (Rattle.tree.specs.Tree.text bs) (Rattle.tree.specs.Tree.list js) x5 = elim x5 [ ]
on_node_lem {ok = ok} {k = k} f g h (Rattle.tree.specs.Tree.text bs) (Rattle.tree.specs.Tree.byte c) x6 = elim x6 [ ]
on_node_lem {ok = ok} {k = k} f g h (Rattle.tree.specs.Tree.text bs) (Rattle.tree.specs.Tree.mark c) x7 = elim x7 [ ]
on_node_lem {ok = ok} {k = k} f g h (Rattle.tree.specs.Tree.text bs) (Rattle.tree.specs.Tree.number c) x8 = elim x8 [ ]
on_node_lem {ok = ok} {k = k} f g h (Rattle.tree.specs.Tree.byte b) (Rattle.tree.specs.Tree.one m) x5 = elim x5 [ ]
on_node_lem {ok = ok} {k = k} f g h (Rattle.tree.specs.Tree.byte b) (Rattle.tree.specs.Tree.list js) x6 = elim x6 [ ]
on_node_lem {ok = ok} {k = k} f g h (Rattle.tree.specs.Tree.byte b) (Rattle.tree.specs.Tree.text cs) x7 = elim x7 [ ]
on_node_lem {ok = ok} {k = k} f g h (Rattle.tree.specs.Tree.byte b) (Rattle.tree.specs.Tree.mark c) x8 = elim x8 [ ]
on_node_lem {ok = ok} {k = k} f g h (Rattle.tree.specs.Tree.byte b) (Rattle.tree.specs.Tree.number c) x9 = elim x9 [ ]
on_node_lem {ok = ok} {k = k} f g h (Rattle.tree.specs.Tree.mark b) (Rattle.tree.specs.Tree.one m) x6 = elim x6 [ ]
on_node_lem {ok = ok} {k = k} f g h (Rattle.tree.specs.Tree.mark b) (Rattle.tree.specs.Tree.list js) x7 = elim x7 [ ]
on_node_lem {ok = ok} {k = k} f g h (Rattle.tree.specs.Tree.mark b) (Rattle.tree.specs.Tree.text cs) x8 = elim x8 [ ]
on_node_lem {ok = ok} {k = k} f g h (Rattle.tree.specs.Tree.mark b) (Rattle.tree.specs.Tree.byte c) x9 = elim x9 [ ]
on_node_lem {ok = ok} {k = k} f g h (Rattle.tree.specs.Tree.mark b) (Rattle.tree.specs.Tree.number c) x10 = elim x10 [ ]
on_node_lem {ok = ok} {k = k} f g h (Rattle.tree.specs.Tree.number b) (Rattle.tree.specs.Tree.one m) x7 = elim x7 [ ]
on_node_lem {ok = ok} {k = k} f g h (Rattle.tree.specs.Tree.number b) (Rattle.tree.specs.Tree.list js) x8 = elim x8 [ ]
on_node_lem {ok = ok} {k = k} f g h (Rattle.tree.specs.Tree.number b) (Rattle.tree.specs.Tree.text cs) x9 = elim x9 [ ]
on_node_lem {ok = ok} {k = k} f g h (Rattle.tree.specs.Tree.number b) (Rattle.tree.specs.Tree.byte c) x10 = elim x10 [ ]
on_node_lem {ok = ok} {k = k} f g h (Rattle.tree.specs.Tree.number b) (Rattle.tree.specs.Tree.mark c) x11 = elim x11 [ ]

on_items_lem : {ok : Bool} {k : ℕ} (f g : Items → Items) → ((is js : Items) → AlikeItems ok k is js → AlikeItems ok k (f is) (g js)) → (p q : Piece) → AlikePiece ok k p q
    → AlikePiece ok k (on_items f p) (on_items g q)
unfolding on_items
on_items_lem f g h (Piece.one n) (Piece.one m) (AlikePiece.one a) = AlikePiece.one a
on_items_lem f g h (Piece.list is) (Piece.list js) (AlikePiece.list a) = AlikePiece.list (h is js a)
on_items_lem f g h (Piece.text bs) (Piece.text cs) AlikePiece.text = AlikePiece.text
on_items_lem f g h (Piece.text bs) (Piece.text cs) (AlikePiece.path e) = AlikePiece.path e
on_items_lem f g h (Piece.byte b) (Piece.byte c) AlikePiece.byte = AlikePiece.byte
on_items_lem f g h (Piece.mark b) (Piece.mark c) AlikePiece.mark = AlikePiece.mark
on_items_lem f g h (Piece.number b) (Piece.number c) AlikePiece.number = AlikePiece.number
on_items_lem {ok = ok} {k = k} f g h (Rattle.tree.specs.Tree.one n) (Rattle.tree.specs.Tree.list js) x'' = elim x'' [ ]
on_items_lem {ok = ok} {k = k} f g h (Rattle.tree.specs.Tree.one n) (Rattle.tree.specs.Tree.text cs) x3 = elim x3 [ ]
on_items_lem {ok = ok} {k = k} f g h (Rattle.tree.specs.Tree.one n) (Rattle.tree.specs.Tree.byte c) x4 = elim x4 [ ]
on_items_lem {ok = ok} {k = k} f g h (Rattle.tree.specs.Tree.one n) (Rattle.tree.specs.Tree.mark c) x5 = elim x5 [ ]
on_items_lem {ok = ok} {k = k} f g h (Rattle.tree.specs.Tree.one n) (Rattle.tree.specs.Tree.number c) x6 = elim x6 [ ]
on_items_lem {ok = ok} {k = k} f g h (Rattle.tree.specs.Tree.list is) (Rattle.tree.specs.Tree.one m) x3 = elim x3 [ ]
on_items_lem {ok = ok} {k = k} f g h (Rattle.tree.specs.Tree.list is) (Rattle.tree.specs.Tree.text cs) x4 = elim x4 [ ]
on_items_lem {ok = ok} {k = k} f g h (Rattle.tree.specs.Tree.list is) (Rattle.tree.specs.Tree.byte c) x5 = elim x5 [ ]
on_items_lem {ok = ok} {k = k} f g h (Rattle.tree.specs.Tree.list is) (Rattle.tree.specs.Tree.mark c) x6 = elim x6 [ ]
on_items_lem {ok = ok} {k = k} f g h (Rattle.tree.specs.Tree.list is) (Rattle.tree.specs.Tree.number c) x7 = elim x7 [ ]
on_items_lem {ok = ok} {k = k} f g h (Rattle.tree.specs.Tree.text bs) (Rattle.tree.specs.Tree.one m) x4 = elim x4 [ ]
on_items_lem {ok = ok} {k = k} f g h (Rattle.tree.specs.Tree.text bs) (Rattle.tree.specs.Tree.list js) x5 = elim x5 [ ]
on_items_lem {ok = ok} {k = k} f g h (Rattle.tree.specs.Tree.text bs) (Rattle.tree.specs.Tree.byte c) x6 = elim x6 [ ]
on_items_lem {ok = ok} {k = k} f g h (Rattle.tree.specs.Tree.text bs) (Rattle.tree.specs.Tree.mark c) x7 = elim x7 [ ]
on_items_lem {ok = ok} {k = k} f g h (Rattle.tree.specs.Tree.text bs) (Rattle.tree.specs.Tree.number c) x8 = elim x8 [ ]
on_items_lem {ok = ok} {k = k} f g h (Rattle.tree.specs.Tree.byte b) (Rattle.tree.specs.Tree.one m) x5 = elim x5 [ ]
on_items_lem {ok = ok} {k = k} f g h (Rattle.tree.specs.Tree.byte b) (Rattle.tree.specs.Tree.list js) x6 = elim x6 [ ]
on_items_lem {ok = ok} {k = k} f g h (Rattle.tree.specs.Tree.byte b) (Rattle.tree.specs.Tree.text cs) x7 = elim x7 [ ]
on_items_lem {ok = ok} {k = k} f g h (Rattle.tree.specs.Tree.byte b) (Rattle.tree.specs.Tree.mark c) x8 = elim x8 [ ]
on_items_lem {ok = ok} {k = k} f g h (Rattle.tree.specs.Tree.byte b) (Rattle.tree.specs.Tree.number c) x9 = elim x9 [ ]
on_items_lem {ok = ok} {k = k} f g h (Rattle.tree.specs.Tree.mark b) (Rattle.tree.specs.Tree.one m) x6 = elim x6 [ ]
on_items_lem {ok = ok} {k = k} f g h (Rattle.tree.specs.Tree.mark b) (Rattle.tree.specs.Tree.list js) x7 = elim x7 [ ]
on_items_lem {ok = ok} {k = k} f g h (Rattle.tree.specs.Tree.mark b) (Rattle.tree.specs.Tree.text cs) x8 = elim x8 [ ]
on_items_lem {ok = ok} {k = k} f g h (Rattle.tree.specs.Tree.mark b) (Rattle.tree.specs.Tree.byte c) x9 = elim x9 [ ]
on_items_lem {ok = ok} {k = k} f g h (Rattle.tree.specs.Tree.mark b) (Rattle.tree.specs.Tree.number c) x10 = elim x10 [ ]
on_items_lem {ok = ok} {k = k} f g h (Rattle.tree.specs.Tree.number b) (Rattle.tree.specs.Tree.one m) x7 = elim x7 [ ]
on_items_lem {ok = ok} {k = k} f g h (Rattle.tree.specs.Tree.number b) (Rattle.tree.specs.Tree.list js) x8 = elim x8 [ ]
on_items_lem {ok = ok} {k = k} f g h (Rattle.tree.specs.Tree.number b) (Rattle.tree.specs.Tree.text cs) x9 = elim x9 [ ]
on_items_lem {ok = ok} {k = k} f g h (Rattle.tree.specs.Tree.number b) (Rattle.tree.specs.Tree.byte c) x10 = elim x10 [ ]
on_items_lem {ok = ok} {k = k} f g h (Rattle.tree.specs.Tree.number b) (Rattle.tree.specs.Tree.mark c) x11 = elim x11 [ ]

pub change_node_alike : {ok : Bool} {n m : Node} (i : ℕ) (f g : Node → Node) → ((x y : Node) → Alike ok x y → Alike ok (f x) (g y)) → Alike ok n m → Alike ok (change_node i f n) (change_node i g m)
unfolding change
change_node_alike i f g h (alike {fs = fs} t a) = alike (λ e z. small_node fs i f (t e z)) (change_in_lem i (on_node f) (on_node g) (on_node_lem f g h) a)

-- it is enough that what is put in the place of the field is alike
here_in : {ok : Bool} {k : ℕ} {fs gs : Fields} (i : ℕ) (f g : Piece → Piece) → AlikePiece ok k (f (piece_in fs i)) (g (piece_in gs i)) → AlikeFields ok k fs gs
    → AlikeFields ok k (change_in fs i f) (change_in gs i g)
unfolding change_in piece_in
here_in i f g h AlikeFields.done = AlikeFields.done
here_in zero f g h (AlikeFields.absent fs) = AlikeFields.absent fs
here_in (suc i) f g h (AlikeFields.absent fs) = AlikeFields.absent (here_in i f g h fs)
here_in zero f g h (AlikeFields.field a fs) = AlikeFields.field h fs
here_in (suc i) f g h (AlikeFields.field a fs) = AlikeFields.field a (here_in i f g h fs)

here_node : {ok : Bool} {k : ℕ} (f g : Node → Node) (p q : Piece) → Alike ok (f (as_node p)) (g (as_node q)) → AlikePiece ok k p q → AlikePiece ok k (on_node f p) (on_node g q)
unfolding on_node
here_node f g (Piece.one n) (Piece.one m) h (AlikePiece.one a) = AlikePiece.one h
here_node f g (Piece.list is) (Piece.list js) h (AlikePiece.list a) = AlikePiece.list a
here_node f g (Piece.text bs) (Piece.text cs) h AlikePiece.text = AlikePiece.text
here_node f g (Piece.text bs) (Piece.text cs) h (AlikePiece.path e) = AlikePiece.path e
here_node f g (Piece.byte b) (Piece.byte c) h AlikePiece.byte = AlikePiece.byte
here_node f g (Piece.mark b) (Piece.mark c) h AlikePiece.mark = AlikePiece.mark
here_node f g (Piece.number b) (Piece.number c) h AlikePiece.number = AlikePiece.number
here_node {ok = ok} {k = k} f g (Rattle.tree.specs.Tree.one n) (Rattle.tree.specs.Tree.list js) h x4 = elim x4 [ ]
here_node {ok = ok} {k = k} f g (Rattle.tree.specs.Tree.one n) (Rattle.tree.specs.Tree.text cs) h x5 = elim x5 [ ]
here_node {ok = ok} {k = k} f g (Rattle.tree.specs.Tree.one n) (Rattle.tree.specs.Tree.byte c) h x6 = elim x6 [ ]
here_node {ok = ok} {k = k} f g (Rattle.tree.specs.Tree.one n) (Rattle.tree.specs.Tree.mark c) h x7 = elim x7 [ ]
here_node {ok = ok} {k = k} f g (Rattle.tree.specs.Tree.one n) (Rattle.tree.specs.Tree.number c) h x8 = elim x8 [ ]
here_node {ok = ok} {k = k} f g (Rattle.tree.specs.Tree.list is) (Rattle.tree.specs.Tree.one m) h x4 = elim x4 [ ]
here_node {ok = ok} {k = k} f g (Rattle.tree.specs.Tree.list is) (Rattle.tree.specs.Tree.text cs) h x5 = elim x5 [ ]
here_node {ok = ok} {k = k} f g (Rattle.tree.specs.Tree.list is) (Rattle.tree.specs.Tree.byte c) h x6 = elim x6 [ ]
here_node {ok = ok} {k = k} f g (Rattle.tree.specs.Tree.list is) (Rattle.tree.specs.Tree.mark c) h x7 = elim x7 [ ]
here_node {ok = ok} {k = k} f g (Rattle.tree.specs.Tree.list is) (Rattle.tree.specs.Tree.number c) h x8 = elim x8 [ ]
here_node {ok = ok} {k = k} f g (Rattle.tree.specs.Tree.text bs) (Rattle.tree.specs.Tree.one m) h x5 = elim x5 [ ]
here_node {ok = ok} {k = k} f g (Rattle.tree.specs.Tree.text bs) (Rattle.tree.specs.Tree.list js) h x6 = elim x6 [ ]
here_node {ok = ok} {k = k} f g (Rattle.tree.specs.Tree.text bs) (Rattle.tree.specs.Tree.byte c) h x7 = elim x7 [ ]
here_node {ok = ok} {k = k} f g (Rattle.tree.specs.Tree.text bs) (Rattle.tree.specs.Tree.mark c) h x8 = elim x8 [ ]
here_node {ok = ok} {k = k} f g (Rattle.tree.specs.Tree.text bs) (Rattle.tree.specs.Tree.number c) h x9 = elim x9 [ ]
here_node {ok = ok} {k = k} f g (Rattle.tree.specs.Tree.byte b) (Rattle.tree.specs.Tree.one m) h x6 = elim x6 [ ]
here_node {ok = ok} {k = k} f g (Rattle.tree.specs.Tree.byte b) (Rattle.tree.specs.Tree.list js) h x7 = elim x7 [ ]
here_node {ok = ok} {k = k} f g (Rattle.tree.specs.Tree.byte b) (Rattle.tree.specs.Tree.text cs) h x8 = elim x8 [ ]
here_node {ok = ok} {k = k} f g (Rattle.tree.specs.Tree.byte b) (Rattle.tree.specs.Tree.mark c) h x9 = elim x9 [ ]
here_node {ok = ok} {k = k} f g (Rattle.tree.specs.Tree.byte b) (Rattle.tree.specs.Tree.number c) h x10 = elim x10 [ ]
here_node {ok = ok} {k = k} f g (Rattle.tree.specs.Tree.mark b) (Rattle.tree.specs.Tree.one m) h x7 = elim x7 [ ]
here_node {ok = ok} {k = k} f g (Rattle.tree.specs.Tree.mark b) (Rattle.tree.specs.Tree.list js) h x8 = elim x8 [ ]
here_node {ok = ok} {k = k} f g (Rattle.tree.specs.Tree.mark b) (Rattle.tree.specs.Tree.text cs) h x9 = elim x9 [ ]
here_node {ok = ok} {k = k} f g (Rattle.tree.specs.Tree.mark b) (Rattle.tree.specs.Tree.byte c) h x10 = elim x10 [ ]
here_node {ok = ok} {k = k} f g (Rattle.tree.specs.Tree.mark b) (Rattle.tree.specs.Tree.number c) h x11 = elim x11 [ ]
here_node {ok = ok} {k = k} f g (Rattle.tree.specs.Tree.number b) (Rattle.tree.specs.Tree.one m) h x8 = elim x8 [ ]
here_node {ok = ok} {k = k} f g (Rattle.tree.specs.Tree.number b) (Rattle.tree.specs.Tree.list js) h x9 = elim x9 [ ]
here_node {ok = ok} {k = k} f g (Rattle.tree.specs.Tree.number b) (Rattle.tree.specs.Tree.text cs) h x10 = elim x10 [ ]
here_node {ok = ok} {k = k} f g (Rattle.tree.specs.Tree.number b) (Rattle.tree.specs.Tree.byte c) h x11 = elim x11 [ ]
here_node {ok = ok} {k = k} f g (Rattle.tree.specs.Tree.number b) (Rattle.tree.specs.Tree.mark c) h x12 = elim x12 [ ]

pub change_node_here : {ok : Bool} {n m : Node} (i : ℕ) (f g : Node → Node) → Alike ok (f (node_at_of i n)) (g (node_at_of i m)) → Alike ok n m → Alike ok (change_node i f n) (change_node i g m)
unfolding change node_at_of
change_node_here i f g h (alike {fs = fs} {gs = gs} t a) =
    alike (λ e z. small_node fs i f (t e z)) (here_in i (on_node f) (on_node g) (here_node f g (piece_in fs i) (piece_in gs i) h (piece_in_lem i a)) a)

pub change_items_alike : {ok : Bool} {n m : Node} (i : ℕ) (f g : Items → Items) → ((is js : Items) → AlikeItems ok (kind n) is js → AlikeItems ok (kind n) (f is) (g js)) → Alike ok n m
    → Alike ok (change_items i f n) (change_items i g m)
unfolding change
change_items_alike i f g h (alike {fs = fs} t a) = alike (λ e z. small_items fs i f (t e z)) (change_in_lem i (on_items f) (on_items g) (on_items_lem f g h) a)

pub without_alike : {ok : Bool} {n m : Node} (i : ℕ) → Alike ok n m → Alike ok (without i n) (without i m)
unfolding without
without_alike i (alike {fs = fs} t a) = alike (λ e z. small_drop fs i (t e z)) (drop_in_lem i a)

-- the key of a property whose value is changed
pub key_kept : (f : Piece → Piece) (q : Node) → node_at_of 0 (change 1 f q) ≡ node_at_of 0 q
unfolding node_at_of change piece_in change_in
key_kept f (node at k Fields.done) = refl
key_kept f (node at k (Fields.absent fs)) = refl
key_kept f (node at k (Fields.field p fs)) = refl

-- the key of a property in whose key's place a temporary is put
put_key : {ok : Bool} {k : ℕ} {fs gs : Fields} (t u : Node) → is 20 t ≡ true → is 20 u ≡ true → AlikeFields ok k fs gs
    → SameKey (as_node (piece_in (change_in fs 0 (on_node (λ x. t))) 0)) (as_node (piece_in (change_in gs 0 (on_node (λ x. u))) 0))
unfolding piece_in change_in on_node
put_key t u e h AlikeFields.done = same refl
put_key t u e h (AlikeFields.absent fs) = same refl
put_key t u e h (AlikeFields.field (AlikePiece.one a) fs) = temporaries e h
put_key t u e h (AlikeFields.field (AlikePiece.list a) fs) = same refl
put_key t u e h (AlikeFields.field AlikePiece.text fs) = same refl
put_key t u e h (AlikeFields.field (AlikePiece.path z) fs) = same refl
put_key t u e h (AlikeFields.field AlikePiece.byte fs) = same refl
put_key t u e h (AlikeFields.field AlikePiece.mark fs) = same refl
put_key t u e h (AlikeFields.field AlikePiece.number fs) = same refl

pub key_put : {ok : Bool} {n m : Node} (t u : Node) → is 20 t ≡ true → is 20 u ≡ true → Alike ok n m → SameKey (node_at_of 0 (change_node 0 (λ x. t) n)) (node_at_of 0 (change_node 0 (λ x. u) m))
unfolding node_at_of change
key_put t u e h (alike z a) = put_key t u e h a

-- ---- nodes that are made of parts that are alike

pub declares_alike : {ok : Bool} {a b x y : Node} → Alike ok a x → Alike ok b y → Alike ok (declares a b) (declares x y)
declares_alike a b = alike (λ e h. absurd (false≢true h)) (AlikeFields.field (AlikePiece.one a) (AlikeFields.field (AlikePiece.one b) AlikeFields.done))

pub declared_alike : {ok : Bool} {a x : Node} → Alike ok a x → Alike ok (declared a) (declared x)
declared_alike a = alike (λ e h. absurd (false≢true h)) (AlikeFields.field (AlikePiece.one a) (AlikeFields.absent AlikeFields.done))

pub assign_alike : {ok : Bool} {a b x y : Node} → Alike ok a x → Alike ok b y → Alike ok (assign a b) (assign x y)
assign_alike a b = alike (λ e h. absurd (false≢true h)) (AlikeFields.field AlikePiece.byte (AlikeFields.field (AlikePiece.one a) (AlikeFields.field (AlikePiece.one b) AlikeFields.done)))

pub call_alike : {ok : Bool} {f g : Node} {is js : Items} → Alike ok f g → AlikeItems ok 0 is js → Alike ok (call f is) (call g js)
call_alike f is = alike (λ e h. absurd (false≢true h)) (AlikeFields.field (AlikePiece.one f) (AlikeFields.field (AlikePiece.list (tight 29 refl is)) AlikeFields.done))

pub object_alike : {ok : Bool} {is js : Items} → AlikeItems ok 0 is js → Alike ok (object is) (object js)
object_alike is = alike (λ e h. absurd (false≢true h)) (AlikeFields.field (AlikePiece.list (tight 24 refl is)) AlikeFields.done)

pub array_of_alike : {ok : Bool} {is js : Items} → AlikeItems ok 0 is js → Alike ok (array is) (array js)
array_of_alike is = alike (λ e h. absurd (false≢true h)) (AlikeFields.field (AlikePiece.list (tight 32 refl is)) AlikeFields.done)

pub sequence_alike : {ok : Bool} {is js : Items} → AlikeItems ok 0 is js → Alike ok (sequence is) (sequence js)
sequence_alike is = alike (λ e h. absurd (false≢true h)) (AlikeFields.field (AlikePiece.list (tight 28 refl is)) AlikeFields.done)

pub member_alike : {ok : Bool} {a x : Node} (name : List ℕ) → Alike ok a x → Alike ok (member a name) (member x name)
member_alike name a = alike (λ e h. absurd (false≢true h)) (AlikeFields.field (AlikePiece.one a) (AlikeFields.field AlikePiece.text AlikeFields.done))

pub let_alike : {ok : Bool} {a b x y : Node} → Alike ok a x → Alike ok b y → Alike ok (let_of a b) (let_of x y)
let_alike a b =
    alike (λ e h. absurd (false≢true h)) (AlikeFields.field AlikePiece.mark (AlikeFields.field AlikePiece.byte
    (AlikeFields.field (AlikePiece.list (tight 4 refl (only_alike (declares_alike a b)))) AlikeFields.done)))

pub var_alike : {ok : Bool} {a x : Node} → Alike ok a x → Alike ok (var_of a) (var_of x)
var_alike a =
    alike (λ e h. absurd (false≢true h)) (AlikeFields.field AlikePiece.mark (AlikeFields.field AlikePiece.byte
    (AlikeFields.field (AlikePiece.list (tight 4 refl (only_alike (declared_alike a)))) AlikeFields.done)))

pub assigning_alike : {ok : Bool} {a b x y : Node} → Alike ok a x → Alike ok b y → Alike ok (assigning a b) (assigning x y)
assigning_alike a b = alike (λ e h. absurd (false≢true h)) (AlikeFields.field AlikePiece.mark (AlikeFields.field (AlikePiece.one (assign_alike a b)) AlikeFields.done))

pub returning_alike : {ok : Bool} {a x : Node} → Alike ok a x → Alike ok (returning a) (returning x)
returning_alike a = alike (λ e h. absurd (false≢true h)) (AlikeFields.field AlikePiece.mark (AlikeFields.field (AlikePiece.one a) AlikeFields.done))

pub block_alike : {ok : Bool} {is js : Items} → AlikeItems ok 0 is js → Alike ok (block is) (block js)
block_alike is = alike (λ e h. absurd (false≢true h)) (AlikeFields.field AlikePiece.mark (AlikeFields.field (AlikePiece.list (tight 2 refl is)) AlikeFields.done))

pub body_alike : {ok : Bool} {is js : Items} → AlikeItems ok 0 is js → Alike ok (function_body is) (function_body js)
body_alike is = alike (λ e h. absurd (false≢true h)) (AlikeFields.absent (AlikeFields.field (AlikePiece.list (tight 16 refl is)) AlikeFields.done))

pub string_alike : {ok : Bool} (form : List ℕ) → Alike ok (string form) (string form)
string_alike form = alike (λ e h. absurd (false≢true h)) (AlikeFields.field AlikePiece.byte (AlikeFields.field AlikePiece.text (AlikeFields.field AlikePiece.text AlikeFields.done)))
