-- What holds of every node that the walk meets: Temporaries, Helpers and References are such, the rest of an object pattern is no pattern, and
-- the key of a property is a Temporary, or has none in it and is no pattern. The views of patterns keep this.
-- Assumes nothing.
use mathlib.Core.Path.{◌≡◌, refl, sym, ap, ◌∙◌, subst}
use mathlib.Core.Bool.{Bool, true, false, cond, false≢true, true≢false}
use mathlib.Core.List.{List}
use mathlib.Core.Logic.{◌⊎◌, ⊎_elim}
use mathlib.Core.Logic.◌⊎◌.{inl}
use Prim.Native.Nat.{ℕ, zero, suc}
use native.Mathlib.Omega.{arith}
use lib.Dec.{eqb}
use borrow.Author.Tests.{eqb-true}
use Rattle.tree.specs.Tree.{Node, Fields, Piece, Items, depth}
use Rattle.tree.specs.Tree.Node.{node}
use Rattle.lowering.specs.Parts.{nothing, position, kind, is, piece_in, change_in, drop_in, as_node, as_items_of, node_at_of, items_at_of, change, on_node, on_items, change_node, change_items, without, only, each, gather, ◌+++◌}
use Rattle.lowering.specs.Made.{Context, temporary, reference, key_of}
use Rattle.lowering.specs.Patterns.{shape, properties, items_of, rest, has_rest_of, left_of, key, value, with_items, with_properties, with_values, replaced, objects_with_rest}
use Rattle.lowering.specs.Patterns.Shape.{object_pattern, array_pattern, default, leaf}
use Rattle.lowering.specs.Keys.{key_sort, kept_key, taken}
use Rattle.lowering.specs.Assignments.{nearest, parts_of, parts_replaced}
use Rattle.lowering.specs.Heads.{moved, moved_pattern, moved_out_of}
use Rattle.lowering.proofs.All.{AllItems, AllFields, Each, all_append, all_cond, all_gather, all_each, other_changed}
use Rattle.lowering.proofs.Cases.{by_test, by_shape, by_key, object_is, array_is, default_is, is_changed}
use Rattle.outcome.proofs.Scope.{IsNamed}
use Rattle.lowering.proofs.ChangeLaws.{is_without}
use Rattle.tree.proofs.Sound.{never}

-- ---- nodes without a Temporary in them

abbrev mutual
  pub Pure : Node → Type 0
  Pure (node at k fs) = (eqb k 20 ≡ false) × PureFields fs

  pub PureFields : Fields → Type 0
  PureFields Fields.done = Unit {0}
  PureFields (Fields.absent fs) = PureFields fs
  PureFields (Fields.field p fs) = PurePiece p × PureFields fs

  pub PurePiece : Piece → Type 0
  PurePiece (Piece.one n) = Pure n
  PurePiece (Piece.list is) = PureItems is
  PurePiece (Piece.text bs) = Unit {0}
  PurePiece (Piece.byte b) = Unit {0}
  PurePiece (Piece.mark b) = Unit {0}
  PurePiece (Piece.number b) = Unit {0}

  pub PureItems : Items → Type 0
  PureItems Items.none = Unit {0}
  PureItems (Items.hole is) = PureItems is
  PureItems (Items.item n is) = Pure n × PureItems is

-- ---- one node, by its kind and its fields

abbrev pub NoPart : Piece → Type 0
NoPart (Piece.one n) = ⊥
NoPart (Piece.list is) = ⊥
NoPart (Piece.text bs) = Unit {0}
NoPart (Piece.byte b) = Unit {0}
NoPart (Piece.mark b) = Unit {0}
NoPart (Piece.number b) = Unit {0}

abbrev pub NoParts : Fields → Type 0
NoParts Fields.done = Unit {0}
NoParts (Fields.absent fs) = NoParts fs
NoParts (Fields.field p fs) = NoPart p × NoParts fs

pub record IsHelping (fs : Fields) : Type 0 where
  pub which : ℕ
  pub whole : fs ≡ Fields.field (Piece.byte which) Fields.done

abbrev pub Leaf : Node → Type 0
Leaf p = shape p ≡ leaf

abbrev pub Is35 : Node → Type 0
Is35 q = is 35 q ≡ true

-- no Default
abbrev pub NotDefault : Node → Type 0
NotDefault p = is 37 p ≡ false

-- the rest of an object pattern, and its properties
abbrev pub ObjectOk : Fields → Type 0
ObjectOk fs = Leaf (as_node (piece_in fs 1)) × AllItems Is35 (as_items_of (piece_in fs 0))

abbrev pub KeyOk : Node → Type 0
KeyOk k = (is 20 k ≡ true) ⊎ (Pure k × Leaf k)

pub record Local (k : ℕ) (fs : Fields) : Type 0 where
  pub temporary : eqb k 20 ≡ true → IsNamed fs
  pub helper : eqb k 21 ≡ true → IsHelping fs
  pub reference : eqb k 18 ≡ true → NoParts fs
  pub object : eqb k 34 ≡ true → ObjectOk fs
  pub property : eqb k 35 ≡ true → KeyOk (as_node (piece_in fs 0))
  pub first : NotDefault (as_node (piece_in fs 0))

abbrev mutual
  pub Good : Node → Type 0
  Good (node at k fs) = Local k fs × GoodFields fs

  pub GoodFields : Fields → Type 0
  GoodFields Fields.done = Unit {0}
  GoodFields (Fields.absent fs) = GoodFields fs
  GoodFields (Fields.field p fs) = GoodPiece p × GoodFields fs

  pub GoodPiece : Piece → Type 0
  GoodPiece (Piece.one n) = Good n
  GoodPiece (Piece.list is) = GoodItems is
  GoodPiece (Piece.text bs) = Unit {0}
  GoodPiece (Piece.byte b) = Unit {0}
  GoodPiece (Piece.mark b) = Unit {0}
  GoodPiece (Piece.number b) = Unit {0}

  pub GoodItems : Items → Type 0
  GoodItems Items.none = Unit {0}
  GoodItems (Items.hole is) = GoodItems is
  GoodItems (Items.item n is) = Good n × GoodItems is

pub to_all : (is : Items) → GoodItems is → AllItems Good is
to_all Items.none h = tt
to_all (Items.hole is) h = to_all is h
to_all (Items.item n is) h = (h.0, to_all is h.1)

pub from_all : (is : Items) → AllItems Good is → GoodItems is
from_all Items.none h = tt
from_all (Items.hole is) h = from_all is h
from_all (Items.item n is) h = (h.0, from_all is h.1)

-- ---- parts of good nodes are good

-- a kind of which nothing is asked
pub free : (k : ℕ) (fs : Fields) → eqb k 20 ≡ false → eqb k 21 ≡ false → eqb k 18 ≡ false → eqb k 34 ≡ false → eqb k 35 ≡ false → NotDefault (as_node (piece_in fs 0)) → Local k fs
free k fs a b c d e f =
    record {
      temporary = λ z. absurd (false≢true (sym a ∙ z));
      helper = λ z. absurd (false≢true (sym b ∙ z));
      reference = λ z. absurd (false≢true (sym c ∙ z));
      object = λ z. absurd (false≢true (sym d ∙ z));
      property = λ z. absurd (false≢true (sym e ∙ z));
      first = f;
    }

pub nothing_good : Good nothing
unfolding piece_in is
nothing_good = (free 0 Fields.done refl refl refl refl refl refl, tt)

fields_all : (fs : Fields) → GoodFields fs → AllFields Good fs
fields_all Fields.done h = tt
fields_all (Fields.absent fs) h = fields_all fs h
fields_all (Fields.field (Piece.one n) fs) h = (h.0, fields_all fs h.1)
fields_all (Fields.field (Piece.list is) fs) h = (to_all is h.0, fields_all fs h.1)
fields_all (Fields.field (Piece.text bs) fs) h = (tt, fields_all fs h.1)
fields_all (Fields.field (Piece.byte b) fs) h = (tt, fields_all fs h.1)
fields_all (Fields.field (Piece.mark b) fs) h = (tt, fields_all fs h.1)
fields_all (Fields.field (Piece.number b) fs) h = (tt, fields_all fs h.1)

pub parts : (n : Node) → Good n → Each Good n
parts (node at k fs) h = fields_all fs h.1

piece_good : (fs : Fields) (i : ℕ) → GoodFields fs → GoodPiece (piece_in fs i)
unfolding piece_in
piece_good Fields.done i h = tt
piece_good (Fields.absent fs) zero h = tt
piece_good (Fields.absent fs) (suc i) h = piece_good fs i h
piece_good (Fields.field p fs) zero h = h.0
piece_good (Fields.field p fs) (suc i) h = piece_good fs i h.1

as_node_lem : (p : Piece) → GoodPiece p → Good (as_node p)
as_node_lem (Piece.one n) h = h
as_node_lem (Piece.list is) h = nothing_good
as_node_lem (Piece.text bs) h = nothing_good
as_node_lem (Piece.byte b) h = nothing_good
as_node_lem (Piece.mark b) h = nothing_good
as_node_lem (Piece.number b) h = nothing_good

as_items : (p : Piece) → GoodPiece p → GoodItems (as_items_of p)
as_items (Piece.one n) h = tt
as_items (Piece.list is) h = h
as_items (Piece.text bs) h = tt
as_items (Piece.byte b) h = tt
as_items (Piece.mark b) h = tt
as_items (Piece.number b) h = tt

pub node_good : (i : ℕ) (n : Node) → Good n → Good (node_at_of i n)
unfolding node_at_of
node_good i (node at k fs) h = as_node_lem (piece_in fs i) (piece_good fs i h.1)

pub items_good : (i : ℕ) (n : Node) → Good n → GoodItems (items_at_of i n)
unfolding items_at_of
items_good i (node at k fs) h = as_items (piece_in fs i) (piece_good fs i h.1)

pub append_good : (is js : Items) → GoodItems is → GoodItems js → GoodItems (is +++ js)
append_good is js h k = from_all (is +++ js) (all_append Good is js (to_all is h) (to_all js k))

pub gather_good : (f : Node → Items) → ((n : Node) → Good n → GoodItems (f n)) → (is : Items) → GoodItems is → GoodItems (gather f is)
gather_good f g is h = from_all (gather f is) (all_gather Good Good f (λ n k. to_all (f n) (g n k)) is (to_all is h))

pub each_good : (f : Node → Node) → ((n : Node) → Good n → Good (f n)) → (is : Items) → GoodItems is → GoodItems (each f is)
each_good f g is h = from_all (each f is) (all_each Good Good f g is (to_all is h))

-- ---- a field changed

-- what holds of a field and of what becomes of it
kept_piece : (Q : Piece → Type 0) (g : Piece → Piece) → ((p : Piece) → Q p → Q (g p)) → (fs : Fields) (i j : ℕ) → Q (piece_in fs j) → Q (piece_in (change_in fs i g) j)
unfolding piece_in change_in
kept_piece Q g f Fields.done i j h = h
kept_piece Q g f (Fields.absent fs) zero j h = h
kept_piece Q g f (Fields.absent fs) (suc i) zero h = h
kept_piece Q g f (Fields.absent fs) (suc i) (suc j) h = kept_piece Q g f fs i j h
kept_piece Q g f (Fields.field p fs) zero zero h = f p h
kept_piece Q g f (Fields.field p fs) zero (suc j) h = h
kept_piece Q g f (Fields.field p fs) (suc i) zero h = h
kept_piece Q g f (Fields.field p fs) (suc i) (suc j) h = kept_piece Q g f fs i j h

changed_fields : (g : Piece → Piece) → ((p : Piece) → GoodPiece p → GoodPiece (g p)) → (fs : Fields) (i : ℕ) → GoodFields fs → GoodFields (change_in fs i g)
unfolding change_in
changed_fields g f Fields.done i h = tt
changed_fields g f (Fields.absent fs) zero h = h
changed_fields g f (Fields.absent fs) (suc i) h = changed_fields g f fs i h
changed_fields g f (Fields.field p fs) zero h = (f p h.0, h.1)
changed_fields g f (Fields.field p fs) (suc i) h = (h.0, changed_fields g f fs i h.1)

-- where there are no parts nothing is changed
abbrev Idle : (Piece → Piece) → Type 0
Idle g = (p : Piece) → NoPart p → g p ≡ p

idle_same : (g : Piece → Piece) → Idle g → (fs : Fields) (i : ℕ) → NoParts fs → change_in fs i g ≡ fs
unfolding change_in
idle_same g f Fields.done i h = refl
idle_same g f (Fields.absent fs) zero h = refl
idle_same g f (Fields.absent fs) (suc i) h = ap Fields.absent (idle_same g f fs i h)
idle_same g f (Fields.field p fs) zero h = ap (λ (x : Piece). Fields.field x fs) (f p h.0)
idle_same g f (Fields.field p fs) (suc i) h = ap (Fields.field p) (idle_same g f fs i h.1)

pub named_parts : (fs : Fields) → IsNamed fs → NoParts fs
named_parts fs h = subst NoParts (sym h.whole) (tt, (tt, tt))

helping_parts : (fs : Fields) → IsHelping fs → NoParts fs
helping_parts fs h = subst NoParts (sym h.whole) (tt, tt)

changed_local : (g : Piece → Piece) → Idle g → (k : ℕ) (fs : Fields) (i : ℕ)
    → (eqb k 34 ≡ true → ObjectOk (change_in fs i g)) → (eqb k 35 ≡ true → KeyOk (as_node (piece_in (change_in fs i g) 0)))
    → NotDefault (as_node (piece_in (change_in fs i g) 0)) → Local k fs → Local k (change_in fs i g)
changed_local g f k fs i o p h l =
    record {
      temporary = λ e. let t = l.temporary e in subst IsNamed (sym (idle_same g f fs i (named_parts fs t))) t;
      helper = λ e. let t = l.helper e in subst IsHelping (sym (idle_same g f fs i (helping_parts fs t))) t;
      reference = λ e. let t = l.reference e in subst NoParts (sym (idle_same g f fs i t)) t;
      object = o;
      property = p;
      first = h;
    }

node_idle : (f : Node → Node) → Idle (on_node f)
unfolding on_node
node_idle f (Piece.one n) h = absurd h
node_idle f (Piece.list is) h = absurd h
node_idle f (Piece.text bs) h = refl
node_idle f (Piece.byte b) h = refl
node_idle f (Piece.mark b) h = refl
node_idle f (Piece.number b) h = refl

items_idle : (f : Items → Items) → Idle (on_items f)
unfolding on_items
items_idle f (Piece.one n) h = absurd h
items_idle f (Piece.list is) h = absurd h
items_idle f (Piece.text bs) h = refl
items_idle f (Piece.byte b) h = refl
items_idle f (Piece.mark b) h = refl
items_idle f (Piece.number b) h = refl

on_node_good : (f : Node → Node) → ((n : Node) → Good n → Good (f n)) → (p : Piece) → GoodPiece p → GoodPiece (on_node f p)
unfolding on_node
on_node_good f g (Piece.one n) h = g n h
on_node_good f g (Piece.list is) h = h
on_node_good f g (Piece.text bs) h = tt
on_node_good f g (Piece.byte b) h = tt
on_node_good f g (Piece.mark b) h = h
on_node_good f g (Piece.number b) h = tt

on_items_good : (f : Items → Items) → ((is : Items) → GoodItems is → GoodItems (f is)) → (p : Piece) → GoodPiece p → GoodPiece (on_items f p)
unfolding on_items
on_items_good f g (Piece.one n) h = h
on_items_good f g (Piece.list is) h = g is h
on_items_good f g (Piece.text bs) h = tt
on_items_good f g (Piece.byte b) h = tt
on_items_good f g (Piece.mark b) h = h
on_items_good f g (Piece.number b) h = tt

-- a view that leaves what is no pattern, and Temporaries, as they are
pub record View (f : Node → Node) : Type 0 where
  pub keeps : (n : Node) → Good n → Good (f n)
  pub fixes : (n : Node) → Leaf n → f n ≡ n
  pub simple : (n : Node) → NotDefault n → NotDefault (f n)

pub temporary_leaf : (n : Node) → is 20 n ≡ true → Leaf n
unfolding is shape
temporary_leaf (node at k fs) e = let z : k ≡ 20 = eqb-true k 20 e in ap (λ (x : ℕ). shape (node at x fs)) z

lists_kept : (f : Node → Node) (p : Piece) → AllItems Is35 (as_items_of p) → AllItems Is35 (as_items_of (on_node f p))
unfolding on_node
lists_kept f (Piece.one n) h = tt
lists_kept f (Piece.list is) h = h
lists_kept f (Piece.text bs) h = tt
lists_kept f (Piece.byte b) h = tt
lists_kept f (Piece.mark b) h = tt
lists_kept f (Piece.number b) h = tt

first_kept : (f : Node → Node) → ((n : Node) → NotDefault n → NotDefault (f n)) → (p : Piece) → NotDefault (as_node p) → NotDefault (as_node (on_node f p))
unfolding on_node
first_kept f s (Piece.one n) h = s n h
first_kept f s (Piece.list is) h = h
first_kept f s (Piece.text bs) h = h
first_kept f s (Piece.byte b) h = h
first_kept f s (Piece.mark b) h = h
first_kept f s (Piece.number b) h = h

module _ (f : Node → Node) (v : View f) where
  leaf_kept : (p : Piece) → Leaf (as_node p) → Leaf (as_node (on_node f p))
  unfolding on_node
  leaf_kept (Piece.one n) h = subst Leaf (sym (v.fixes n h)) h
  leaf_kept (Piece.list is) h = h
  leaf_kept (Piece.text bs) h = h
  leaf_kept (Piece.byte b) h = h
  leaf_kept (Piece.mark b) h = h
  leaf_kept (Piece.number b) h = h

  key_kept : (p : Piece) → KeyOk (as_node p) → KeyOk (as_node (on_node f p))
  unfolding on_node
  key_kept (Piece.one n) h = subst KeyOk (sym (v.fixes n (⊎_elim (λ t. temporary_leaf n t) (λ t. t.1) h))) h
  key_kept (Piece.list is) h = h
  key_kept (Piece.text bs) h = h
  key_kept (Piece.byte b) h = h
  key_kept (Piece.mark b) h = h
  key_kept (Piece.number b) h = h

  pub view_node : (i : ℕ) (n : Node) → Good n → Good (change_node i f n)
  unfolding change
  view_node i (node at k fs) h = (
    changed_local (on_node f) (node_idle f) k fs i
        (λ e. let o = h.0.object e in (kept_piece (λ p. Leaf (as_node p)) (on_node f) leaf_kept fs i 1 o.0, kept_piece (λ p. AllItems Is35 (as_items_of p)) (on_node f) (lists_kept f) fs i 0 o.1))
        (λ e. kept_piece (λ p. KeyOk (as_node p)) (on_node f) key_kept fs i 0 (h.0.property e))
        (kept_piece (λ p. NotDefault (as_node p)) (on_node f) (first_kept f v.simple) fs i 0 h.0.first) h.0,
    changed_fields (on_node f) (on_node_good f v.keeps) fs i h.1,
  )

-- a list of nodes changed, in any node
module _ (f : Items → Items) (g : (is : Items) → GoodItems is → GoodItems (f is)) where
  leaf_same : (p : Piece) → Leaf (as_node p) → Leaf (as_node (on_items f p))
  unfolding on_items
  leaf_same (Piece.one n) h = h
  leaf_same (Piece.list is) h = h
  leaf_same (Piece.text bs) h = h
  leaf_same (Piece.byte b) h = h
  leaf_same (Piece.mark b) h = h
  leaf_same (Piece.number b) h = h

  key_same : (p : Piece) → KeyOk (as_node p) → KeyOk (as_node (on_items f p))
  unfolding on_items
  key_same (Piece.one n) h = h
  key_same (Piece.list is) h = h
  key_same (Piece.text bs) h = h
  key_same (Piece.byte b) h = h
  key_same (Piece.mark b) h = h
  key_same (Piece.number b) h = h

  first_same : (p : Piece) → NotDefault (as_node p) → NotDefault (as_node (on_items f p))
  unfolding on_items
  first_same (Piece.one n) h = h
  first_same (Piece.list is) h = h
  first_same (Piece.text bs) h = h
  first_same (Piece.byte b) h = h
  first_same (Piece.mark b) h = h
  first_same (Piece.number b) h = h

  changed_list : (i : ℕ) (at k : ℕ) (fs : Fields) → (eqb k 34 ≡ true → AllItems Is35 (as_items_of (piece_in (change_in fs i (on_items f)) 0))) → Good (node at k fs) → Good (node at k (change_in fs i (on_items f)))
  changed_list i at k fs o h = (
    changed_local (on_items f) (items_idle f) k fs i
        (λ e. (kept_piece (λ p. Leaf (as_node p)) (on_items f) leaf_same fs i 1 (h.0.object e).0, o e))
        (λ e. kept_piece (λ p. KeyOk (as_node p)) (on_items f) key_same fs i 0 (h.0.property e))
        (kept_piece (λ p. NotDefault (as_node p)) (on_items f) first_same fs i 0 h.0.first) h.0,
    changed_fields (on_items f) (on_items_good f g) fs i h.1,
  )

  -- of a node that is no object pattern
  pub change_items_lem : (i : ℕ) (n : Node) → eqb (kind n) 34 ≡ false → Good n → Good (change_items i f n)
  unfolding change
  change_items_lem i (node at k fs) a h = changed_list i at k fs (λ e. absurd (false≢true (sym a ∙ e))) h

-- each node of a list changed; properties stay properties
module _ (f : Node → Node) (g : (n : Node) → Good n → Good (f n)) (stay : (n : Node) → Is35 n → Is35 (f n)) where
  properties_stay : (p : Piece) → AllItems Is35 (as_items_of p) → AllItems Is35 (as_items_of (on_items (each f) p))
  unfolding on_items
  properties_stay (Piece.one n) h = tt
  properties_stay (Piece.list is) h = all_each Is35 Is35 f stay is h
  properties_stay (Piece.text bs) h = tt
  properties_stay (Piece.byte b) h = tt
  properties_stay (Piece.mark b) h = tt
  properties_stay (Piece.number b) h = tt

  pub each_items : (i : ℕ) (n : Node) → Good n → Good (change_items i (each f) n)
  unfolding change
  each_items i (node at k fs) h =
      changed_list (each f) (each_good f g) i at k fs
      (λ e. kept_piece (λ p. AllItems Is35 (as_items_of p)) (on_items (each f)) properties_stay fs i 0 (h.0.object e).1) h

pub changed_35 : (i : ℕ) (f : Piece → Piece) (n : Node) → Is35 n → Is35 (change i f n)
changed_35 i f n h = is_changed i f n 35 ∙ h

-- a node of a kind of which nothing is asked, with a node changed
pub change_free : (f : Node → Node) → ((n : Node) → Good n → Good (f n)) → ((n : Node) → NotDefault n → NotDefault (f n)) → (i : ℕ) (n : Node) → eqb (kind n) 34 ≡ false → eqb (kind n) 35 ≡ false → Good n → Good (change_node i f n)
unfolding change
change_free f g s i (node at k fs) a b h = (
  changed_local (on_node f) (node_idle f) k fs i (λ e. absurd (false≢true (sym a ∙ e))) (λ e. absurd (false≢true (sym b ∙ e)))
      (kept_piece (λ p. NotDefault (as_node p)) (on_node f) (first_kept f s) fs i 0 h.0.first) h.0,
  changed_fields (on_node f) (on_node_good f g) fs i h.1,
)

-- ---- made nodes

pub temporary_good : (path : List ℕ) (stem at : ℕ) → Good (temporary path stem at)
unfolding piece_in is
temporary_good path stem at = (
  record {
    temporary = λ e. record { stem = stem; path = path; whole = refl };
    helper = λ e. never e;
    reference = λ e. never e;
    object = λ e. never e;
    property = λ e. never e;
    first = refl;
  },
  (tt, (tt, tt)),
)

pub temporary_20 : (path : List ℕ) (stem at : ℕ) → is 20 (temporary path stem at) ≡ true
unfolding is
temporary_20 path stem at = refl

-- ---- a key put in place of another

put_piece : (t : Node) → is 20 t ≡ true → (p : Piece) → KeyOk (as_node p) → KeyOk (as_node (on_node (λ k. t) p))
unfolding on_node
put_piece t e (Piece.one n) h = inl e
put_piece t e (Piece.list is) h = h
put_piece t e (Piece.text bs) h = h
put_piece t e (Piece.byte b) h = h
put_piece t e (Piece.mark b) h = h
put_piece t e (Piece.number b) h = h

key_put : (t : Node) → is 20 t ≡ true → (fs : Fields) → KeyOk (as_node (piece_in fs 0)) → KeyOk (as_node (piece_in (change_in fs 0 (on_node (λ k. t))) 0))
key_put t e fs h = kept_piece (λ p. KeyOk (as_node p)) (on_node (λ k. t)) (put_piece t e) fs 0 0 h

pub temporary_simple : (t : Node) → is 20 t ≡ true → NotDefault t
unfolding is
temporary_simple (node at k fs) e = let z : k ≡ 20 = eqb-true k 20 e in ap (λ (x : ℕ). eqb x 37) z

first_piece : (t : Node) → NotDefault t → (p : Piece) → NotDefault (as_node p) → NotDefault (as_node (on_node (λ k. t) p))
unfolding on_node
first_piece t e (Piece.one n) h = e
first_piece t e (Piece.list is) h = h
first_piece t e (Piece.text bs) h = h
first_piece t e (Piece.byte b) h = h
first_piece t e (Piece.mark b) h = h
first_piece t e (Piece.number b) h = h

first_put : (t : Node) → NotDefault t → (fs : Fields) → NotDefault (as_node (piece_in fs 0)) → NotDefault (as_node (piece_in (change_in fs 0 (on_node (λ k. t))) 0))
first_put t e fs h = kept_piece (λ p. NotDefault (as_node p)) (on_node (λ k. t)) (first_piece t e) fs 0 0 h

pub put_good : (t : Node) → is 20 t ≡ true → Good t → (q : Node) → Good q → Good (change_node 0 (λ k. t) q)
unfolding change
put_good t e g (node at k fs) h = (
  changed_local (on_node (λ m. t)) (node_idle (λ m. t)) k fs 0
      (λ z. let o = h.0.object z in (
        subst (λ (p : Piece). Leaf (as_node p)) (sym (other_changed fs 0 (on_node (λ m. t)) 1 (λ y. omega arith))) o.0,
        kept_piece (λ p. AllItems Is35 (as_items_of p)) (on_node (λ m. t)) (lists_kept (λ m. t)) fs 0 0 o.1,
      ))
      (λ z. key_put t e fs (h.0.property z))
      (first_put t (temporary_simple t e) fs h.0.first) h.0,
  changed_fields (on_node (λ m. t)) (on_node_good (λ m. t) (λ n k. g)) fs 0 h.1,
)

-- ---- a pattern without its rest

dropped_fields : (fs : Fields) (i : ℕ) → GoodFields fs → GoodFields (drop_in fs i)
unfolding drop_in
dropped_fields Fields.done i h = tt
dropped_fields (Fields.absent fs) zero h = h
dropped_fields (Fields.absent fs) (suc i) h = dropped_fields fs i h
dropped_fields (Fields.field p fs) zero h = h.1
dropped_fields (Fields.field p fs) (suc i) h = (h.0, dropped_fields fs i h.1)

dropped_rest : (fs : Fields) → Leaf (as_node (piece_in (drop_in fs 1) 1))
unfolding drop_in piece_in shape
dropped_rest Fields.done = refl
dropped_rest (Fields.absent Fields.done) = refl
dropped_rest (Fields.absent (Fields.absent fs)) = refl
dropped_rest (Fields.absent (Fields.field p fs)) = refl
dropped_rest (Fields.field q Fields.done) = refl
dropped_rest (Fields.field q (Fields.absent fs)) = refl
dropped_rest (Fields.field q (Fields.field p fs)) = refl

dropped_list : (fs : Fields) → AllItems Is35 (as_items_of (piece_in fs 0)) → AllItems Is35 (as_items_of (piece_in (drop_in fs 1) 0))
unfolding drop_in piece_in
dropped_list Fields.done h = tt
dropped_list (Fields.absent fs) h = tt
dropped_list (Fields.field p fs) h = h

dropped_first : (fs : Fields) → NotDefault (as_node (piece_in fs 0)) → NotDefault (as_node (piece_in (drop_in fs 1) 0))
unfolding drop_in piece_in
dropped_first Fields.done h = h
dropped_first (Fields.absent fs) h = h
dropped_first (Fields.field p fs) h = h

object_local : (k : ℕ) (fs : Fields) → eqb k 34 ≡ true → ObjectOk fs → NotDefault (as_node (piece_in fs 0)) → Local k fs
object_local k fs e l f =
    let z : k ≡ 34 = eqb-true k 34 e in
    record {
      temporary = λ y. never (ap (λ (x : ℕ). eqb x 20) (sym z) ∙ y);
      helper = λ y. never (ap (λ (x : ℕ). eqb x 21) (sym z) ∙ y);
      reference = λ y. never (ap (λ (x : ℕ). eqb x 18) (sym z) ∙ y);
      object = λ y. l;
      property = λ y. never (ap (λ (x : ℕ). eqb x 35) (sym z) ∙ y);
      first = f;
    }

without_good : (n : Node) → is 34 n ≡ true → Good n → Good (without 1 n)
unfolding without is
without_good (node at k fs) e h = (object_local k (drop_in fs 1) e (dropped_rest fs, dropped_list fs (h.0.object e).1) (dropped_first fs h.0.first), dropped_fields fs 1 h.1)

pub rest_leaf : (p : Node) → is 34 p ≡ true → Good p → Leaf (rest p)
unfolding node_at_of is
rest_leaf (node at k fs) e h = (h.0.object e).0

pub properties_35 : (p : Node) → is 34 p ≡ true → Good p → AllItems Is35 (properties p)
unfolding items_at_of is
properties_35 (node at k fs) e h = (h.0.object e).1

pub key_ok : (q : Node) → Is35 q → Good q → KeyOk (key q)
unfolding node_at_of is
key_ok (node at k fs) e h = h.0.property e

array_not : (p : Node) → is 36 p ≡ true → eqb (kind p) 34 ≡ false
unfolding is
array_not p e = let z : kind p ≡ 36 = eqb-true (kind p) 36 e in ap (λ (x : ℕ). eqb x 34) z

-- the kind of a pattern decides
pub leaf_simple : (p : Node) → Leaf p → NotDefault p
unfolding shape is
leaf_simple p e = go (eqb (kind p) 34) (eqb (kind p) 36) (eqb (kind p) 37) e
  where
    go : (a b c : Bool) → cond a object_pattern (cond b array_pattern (cond c default leaf)) ≡ leaf → c ≡ false
    go true b c e = let z : ◌≡◌ {A = ℕ} 0 1 = cc in absurd (omega arith)
    go false true c e = let z : ◌≡◌ {A = ℕ} 0 1 = cc in absurd (omega arith)
    go false false true e = let z : ◌≡◌ {A = ℕ} 0 1 = cc in absurd (omega arith)
    go false false false e = refl

pub object_simple : (p : Node) → is 34 p ≡ true → NotDefault p
unfolding is
object_simple p e = let z : kind p ≡ 34 = eqb-true (kind p) 34 e in ap (λ (x : ℕ). eqb x 37) z

pub array_simple : (p : Node) → is 36 p ≡ true → NotDefault p
unfolding is
array_simple p e = let z : kind p ≡ 36 = eqb-true (kind p) 36 e in ap (λ (x : ℕ). eqb x 37) z

not_default_lem : {A : Type 0} (p : Node) → NotDefault p → shape p ≡ default → A
not_default_lem p h e = absurd (true≢false (sym (default_is p e) ∙ h))

pub first_simple : (p : Node) → Good p → NotDefault (node_at_of 0 p)
unfolding node_at_of
first_simple (node at k fs) h = h.0.first

-- ---- the views

module _ (c : Context) where
  pub reference_good : (p : Node) → Good (reference c p)
  reference_good p = temporary_good c.path 1 (position p)

  pub kept_key_good : (q : Node) → Good q → Good (kept_key c q)
  unfolding kept_key
  kept_key_good q h =
      by_key (key_sort (key q))
      (λ e. rw (e, kept_key, Good) h)
      (λ e. rw (e, kept_key, Good) h)
      (λ e. rw (e, kept_key, Good) h)
      (λ e. rw (e, kept_key, Good) h)
      (λ e. rw (e, kept_key, Good) h)
      (λ e. rw (e, kept_key, Good) (put_good (key_of c q) (temporary_20 c.path 4 (position q)) (temporary_good c.path 4 (position q)) q h))

  kept_key_35 : (q : Node) → Is35 q → Is35 (kept_key c q)
  unfolding kept_key
  kept_key_35 q h =
      by_key (key_sort (key q))
      (λ e. rw (e, kept_key) h)
      (λ e. rw (e, kept_key) h)
      (λ e. rw (e, kept_key) h)
      (λ e. rw (e, kept_key) h)
      (λ e. rw (e, kept_key) h)
      (λ e. rw (e, kept_key) (changed_35 0 (on_node (λ k. key_of c q)) q h))

  pub taken_good : (p : Node) → is 34 p ≡ true → Good p → Good (taken c p)
  unfolding taken
  taken_good p e h =
      by_test (has_rest_of p)
      (λ r. rw (r, Good) (without_good (with_properties (kept_key c) p) (is_changed 0 (on_items (each (kept_key c))) p 34 ∙ e) (each_items (kept_key c) kept_key_good kept_key_35 0 p h)))
      (λ r. rw (r, Good) h)

  replaced_fixes : (d : ℕ) (p : Node) → Leaf p → replaced c d p ≡ p
  unfolding replaced
  replaced_fixes zero p l = refl
  replaced_fixes (suc d) p l = rw (l, replaced) refl

  pub reference_simple : (p : Node) → NotDefault (reference c p)
  unfolding is
  reference_simple p = refl

  pub replaced_simple : (d : ℕ) (p : Node) → NotDefault p → NotDefault (replaced c d p)
  unfolding replaced
  replaced_simple zero p h = h
  replaced_simple (suc d) p h =
      let f : Node → Node = λ v. replaced c d v in
      by_shape (shape p)
      (λ e. rw (e, replaced)
      (by_test (has_rest_of p) (λ r. rw r (reference_simple p)) (λ r. rw r (is_changed 0 (on_items (each (λ q. change_node 1 f q))) p 37 ∙ h))))
      (λ e. rw (e, replaced) (is_changed 0 (on_items (each f)) p 37 ∙ h))
      (λ e. not_default_lem p h e)
      (λ e. rw (e, replaced) h)

  replaced_good : (d : ℕ) (p : Node) → Good p → Good (replaced c d p)
  unfolding replaced
  replaced_good zero p h = h
  replaced_good (suc d) p h =
      let f : Node → Node = λ v. replaced c d v in
      let v : View f = record { keeps = replaced_good d; fixes = replaced_fixes d; simple = replaced_simple d } in
      by_shape (shape p)
      (λ e. rw (e, replaced, Good)
      (by_test (has_rest_of p)
      (λ r. rw (r, Good) (reference_good p))
      (λ r. rw (r, Good) (each_items (λ q. change_node 1 f q) (view_node f v 1) (changed_35 1 (on_node f)) 0 p h))))
      (λ e. rw (e, replaced, Good) (change_items_lem (each f) (each_good f v.keeps) 0 p (array_not p (array_is p e)) h))
      (λ e. rw (e, replaced, Good) (view_node f v 0 p h))
      (λ e. rw (e, replaced, Good) h)

  pub replaced_view : (d : ℕ) → View (λ v. replaced c d v)
  replaced_view d = record { keeps = replaced_good d; fixes = replaced_fixes d; simple = replaced_simple d }

  pub values_good : (d : ℕ) (p : Node) → Good p → Good (with_values (λ v. replaced c d v) p)
  values_good d p h = each_items (λ q. change_node 1 (λ v. replaced c d v) q) (view_node (λ v. replaced c d v) (replaced_view d) 1) (changed_35 1 (on_node (λ v. replaced c d v))) 0 p h

  -- what is found: good object patterns
  abbrev pub GoodObject : Node → Type 0
  GoodObject p = (is 34 p ≡ true) × Good p

  pub objects_good : (d : ℕ) (p : Node) → Good p → AllItems GoodObject (objects_with_rest c d p)
  unfolding objects_with_rest
  objects_good zero p h = tt
  objects_good (suc d) p h =
      by_shape (shape p)
      (λ e. rw (e, objects_with_rest, AllItems)
      (all_append GoodObject (gather (λ q. objects_with_rest c d (value q)) (properties p)) (cond (has_rest_of p) (only (with_values (λ v. replaced c d v) p)) Items.none)
      (all_gather Good GoodObject (λ q. objects_with_rest c d (value q)) (λ q g. objects_good d (value q) (node_good 1 q g)) (properties p) (to_all (properties p) (items_good 0 p h)))
      (by_test (has_rest_of p)
      (λ r. rw (r, AllItems) ((is_changed 0 (on_items (each (λ q. change_node 1 (λ v. replaced c d v) q))) p 34 ∙ object_is p e, values_good d p h), tt))
      (λ r. rw (r, AllItems) tt))))
      (λ e. rw (e, objects_with_rest, AllItems)
      (all_gather Good GoodObject (λ q. objects_with_rest c d q) (λ q g. objects_good d q g) (items_of p) (to_all (items_of p) (items_good 0 p h))))
      (λ e. rw (e, objects_with_rest, AllItems) (objects_good d (left_of p) (node_good 0 p h)))
      (λ e. rw (e, objects_with_rest, AllItems) tt)

  -- of an assignment
  nearest_values : (arrays : Bool) (d : ℕ) → ((p : Node) → Good p → AllItems GoodObject (nearest arrays d p)) → (p : Node) → Good p
      → AllItems GoodObject (gather (λ q. nearest arrays d (value q)) (properties p))
  nearest_values arrays d r p h =
      all_gather Good GoodObject (λ q. nearest arrays d (value q)) (λ q g. r (value q) (node_good 1 q g)) (properties p) (to_all (properties p) (items_good 0 p h))

  pub nearest_good : (arrays : Bool) (d : ℕ) (p : Node) → Good p → AllItems GoodObject (nearest arrays d p)
  unfolding nearest
  nearest_good arrays zero p h = tt
  nearest_good arrays (suc d) p h =
      by_shape (shape p)
      (λ e. rw (e, nearest)
      (all_cond GoodObject (has_rest_of p) (only p) (gather (λ q. nearest arrays d (value q)) (properties p)) ((object_is p e, h), tt) (nearest_values arrays d (nearest_good arrays d) p h)))
      (λ e. rw (e, nearest)
      (all_cond GoodObject arrays (gather (λ q. nearest arrays d q) (items_of p)) Items.none
      (all_gather Good GoodObject (λ q. nearest arrays d q) (λ q g. nearest_good arrays d q g) (items_of p) (to_all (items_of p) (items_good 0 p h))) tt))
      (λ e. rw (e, nearest) (nearest_good arrays d (left_of p) (node_good 0 p h)))
      (λ e. rw (e, nearest) tt)

  pub parts_good : (p : Node) → Good p → AllItems GoodObject (parts_of p)
  parts_good p h = nearest_values false (depth p) (nearest_good false (depth p)) p h

  pub parts_fixes : (d : ℕ) (p : Node) → Leaf p → parts_replaced c d p ≡ p
  unfolding parts_replaced
  parts_fixes zero p l = refl
  parts_fixes (suc d) p l = rw (l, parts_replaced) refl

  pub taken_simple : (p : Node) → NotDefault p → NotDefault (taken c p)
  unfolding taken
  taken_simple p h =
      by_test (has_rest_of p)
      (λ r. rw r (is_without (with_properties (kept_key c) p) 37 ∙ is_changed 0 (on_items (each (kept_key c))) p 37 ∙ h))
      (λ r. rw r h)

  parts_simple : (d : ℕ) (p : Node) → NotDefault p → NotDefault (parts_replaced c d p)
  unfolding parts_replaced
  parts_simple zero p h = h
  parts_simple (suc d) p h =
      let f : Node → Node = λ v. parts_replaced c d v in
      by_shape (shape p)
      (λ e. rw (e, parts_replaced)
      (by_test (has_rest_of p) (λ r. rw r (reference_simple p)) (λ r. rw r (is_changed 0 (on_items (each (λ q. change_node 1 f q))) p 37 ∙ h))))
      (λ e. rw (e, parts_replaced) h)
      (λ e. not_default_lem p h e)
      (λ e. rw (e, parts_replaced) h)

  parts_replaced_good : (d : ℕ) (p : Node) → Good p → Good (parts_replaced c d p)
  unfolding parts_replaced
  parts_replaced_good zero p h = h
  parts_replaced_good (suc d) p h =
      let f : Node → Node = λ v. parts_replaced c d v in
      let v : View f = record { keeps = parts_replaced_good d; fixes = parts_fixes d; simple = parts_simple d } in
      by_shape (shape p)
      (λ e. rw (e, parts_replaced, Good)
      (by_test (has_rest_of p)
      (λ r. rw (r, Good) (reference_good p))
      (λ r. rw (r, Good) (each_items (λ q. change_node 1 f q) (view_node f v 1) (changed_35 1 (on_node f)) 0 p h))))
      (λ e. rw (e, parts_replaced, Good) h)
      (λ e. rw (e, parts_replaced, Good) (view_node f v 0 p h))
      (λ e. rw (e, parts_replaced, Good) h)

  -- what is left of an object with rest
  pub left_good : (p : Node) → is 34 p ≡ true → Good p → Good (taken c (with_values (λ v. parts_replaced c (depth p) v) p))
  left_good p e h =
      let f : Node → Node = λ v. parts_replaced c (depth p) v in
      let v : View f = record { keeps = parts_replaced_good (depth p); fixes = parts_fixes (depth p); simple = parts_simple (depth p) } in
      taken_good (with_values f p) (is_changed 0 (on_items (each (λ q. change_node 1 f q))) p 34 ∙ e) (each_items (λ q. change_node 1 f q) (view_node f v 1) (changed_35 1 (on_node f)) 0 p h)

  moved_out_fixes : (d : ℕ) (p : Node) → Leaf p → moved_out_of c d p ≡ p
  unfolding moved_out_of
  moved_out_fixes zero p l = refl
  moved_out_fixes (suc d) p l = rw (l, moved_out_of) refl

  moved_out_simple : (d : ℕ) (p : Node) → NotDefault p → NotDefault (moved_out_of c d p)
  unfolding moved_out_of
  moved_out_simple zero p h = h
  moved_out_simple (suc d) p h =
      let f : Node → Node = λ v. moved_out_of c d v in
      by_shape (shape p)
      (λ e. rw (e, moved_out_of) (reference_simple p))
      (λ e. rw (e, moved_out_of) (is_changed 1 (on_node f) (with_items f p) 37 ∙ is_changed 0 (on_items (each f)) p 37 ∙ h))
      (λ e. not_default_lem p h e)
      (λ e. rw (e, moved_out_of) h)

  pub moved_out_good : (d : ℕ) (p : Node) → Good p → Good (moved_out_of c d p)
  unfolding moved_out_of
  moved_out_good zero p h = h
  moved_out_good (suc d) p h =
      let f : Node → Node = λ v. moved_out_of c d v in
      let v : View f = record { keeps = moved_out_good d; fixes = moved_out_fixes d; simple = moved_out_simple d } in
      by_shape (shape p)
      (λ e. rw (e, moved_out_of, Good) (reference_good p))
      (λ e. rw (e, moved_out_of, Good) (view_node f v 1 (with_items f p) (change_items_lem (each f) (each_good f v.keeps) 0 p (array_not p (array_is p e)) h)))
      (λ e. rw (e, moved_out_of, Good)
      (put_good (reference c p) (temporary_20 c.path 1 (position p)) (reference_good p) p h))
      (λ e. rw (e, moved_out_of, Good) h)

  pub moved_out_view : (d : ℕ) → View (λ v. moved_out_of c d v)
  moved_out_view d = record { keeps = moved_out_good d; fixes = moved_out_fixes d; simple = moved_out_simple d }

pub moved_good : (d : ℕ) (p : Node) → Good p → GoodItems (moved d p)
unfolding moved
moved_good zero p h = tt
moved_good (suc d) p h =
    by_shape (shape p)
    (λ e. rw (e, moved, GoodItems) (h, tt))
    (λ e. rw (e, moved, GoodItems)
    (append_good (gather (λ m. moved d m) (items_of p)) (moved d (rest p)) (gather_good (λ m. moved d m) (moved_good d) (items_of p) (items_good 0 p h)) (moved_good d (rest p) (node_good 1 p h))))
    (λ e. rw (e, moved, GoodItems) (h, tt))
    (λ e. rw (e, moved, GoodItems) tt)

pub moved_pattern_good : (p : Node) → Good p → Good (moved_pattern p)
unfolding moved_pattern
moved_pattern_good p h =
    by_shape (shape p)
    (λ e. rw (e, moved_pattern, Good) h)
    (λ e. rw (e, moved_pattern, Good) h)
    (λ e. rw (e, moved_pattern, Good) (node_good 0 p h))
    (λ e. rw (e, moved_pattern, Good) h)

pub moved_pattern_simple : (p : Node) → Good p → NotDefault (moved_pattern p)
unfolding moved_pattern
moved_pattern_simple p h =
    by_shape (shape p)
    (λ e. rw (e, moved_pattern) (object_simple p (object_is p e)))
    (λ e. rw (e, moved_pattern) (array_simple p (array_is p e)))
    (λ e. rw (e, moved_pattern) (first_simple p h))
    (λ e. rw (e, moved_pattern) (leaf_simple p e))
