-- The nodes that the rules make, by their bytes and their parts.
-- Assumes nothing.
use mathlib.Core.Path.{◌≡◌, refl, sym, ap, ◌∙◌, fun_ext}
use mathlib.Core.Bool.{Bool, true, false, ◌||◌, ◌&&◌, not, and-true, and-false}
use mathlib.Core.List.{List, [], ◌∷◌, ◌++◌}
use Prim.Native.Nat.{ℕ}
use lib.ListN.{length}
use Rattle.tree.specs.Tree.{Node, Fields, Piece, Items, wide_bytes, map_of, count}
use Rattle.tree.specs.Tree.Node.{node}
use Rattle.lowering.specs.Parts.{kind, is, piece_in, stands_in, node_at_of, items_at_of, stands, only, any}
use Rattle.lowering.specs.Made as made
use Rattle.lowering.specs.Made.{call, object, array, sequence, member, assign, string, declares, declared, let_of, var_of, assigning, returning, block}
use Rattle.lowering.specs.Patterns.{has_object_rest}
use Rattle.lowering.specs.Declarations.{is_lowered}
use Rattle.lowering.specs.Walk.{rule_of, opens_scope}
use Rattle.lowering.specs.Collect.{is_container}
use Rattle.lowering.proofs.Accepted.{NoHoles}
use Rattle.sink.specs.Machine.{Event}
use Rattle.direct.specs.Events.{Deed, Place, Emit, puts, cell, marks, context_of, emits}
use Rattle.direct.specs.Events.Deed.{does}
use Rattle.direct.specs.Emit.{say, ◌▷◌, below, inner, scoped, unused, emits_statement, emits_items, emits_piece, emits_fields, emits_parts, stays, call_head}
use Rattle.direct.proofs.Threads.{then_assoc, then_nothing, say_say}
use Rattle.direct.proofs.OneLevel.{emits_unchanged, emits_nowhere}
use Rattle.direct.proofs.RulesKeep.{literal_kept, declaration_kept}
use Rattle.direct.proofs.StatementMarks.{emits_statement_lem, emits_item_lem}

-- bytes that are joined
pub say_then : (ds es : List Deed) (e : Emit) → say ds ▷ say es ▷ e ≡ say (ds ++ es) ▷ e
say_then ds es e = sym (then_assoc (say ds) (say es) e) ∙ ap (λ (x : Emit). x ▷ e) (say_say ds es)

-- ---- the places of parts

place_is : (c : Place) (a b : Bool) → c.root && not a ≡ b → (s t : Bool) → s ≡ t
    → ◌≡◌ {A = Place} (record { root = c.root && not a; statement = s; mark = c.mark }) (record { root = b; statement = t; mark = c.mark })
place_is c a b e s t h = λ j. record { root = (e) j; statement = (h) j; mark = c.mark }

-- below a node that is no scope, no expression statement and no parentheses
pub below_inner : (c : Place) (n : Node) → ((i : ℕ) → opens_scope (kind n) i ≡ false) → is 3 n ≡ false → is 31 n ≡ false → below c n ≡ (λ i. inner c)
unfolding below inner
below_inner c n o s p =
    fun_ext (λ i. place_is c (opens_scope (kind n) i) c.root (rw (o i) (and-true c.root)) (is 3 n || (is 31 n && c.statement)) false (rw (s, p) refl))

-- below a scope
pub below_scoped : (c : Place) (n : Node) → ((i : ℕ) → opens_scope (kind n) i ≡ true) → is 3 n ≡ false → is 31 n ≡ false → below c n ≡ (λ i. scoped c)
unfolding below scoped
below_scoped c n o s p =
    fun_ext (λ i. place_is c (opens_scope (kind n) i) false (rw (o i) (and-false c.root)) (is 3 n || (is 31 n && c.statement)) false (rw (s, p) refl))

-- below an expression statement
pub below_unused : (c : Place) (n : Node) → is 3 n ≡ true → ((i : ℕ) → opens_scope (kind n) i ≡ false) → below c n ≡ (λ i. unused c)
unfolding below unused
below_unused c n s o =
    fun_ext (λ i. place_is c (opens_scope (kind n) i) c.root (rw (o i) (and-true c.root)) (is 3 n || (is 31 n && c.statement)) true (rw s refl))

-- ---- fields of nodes that are made

pub one_field : (l : Bool) (c : Place) (p : Piece) → emits_fields l c (Fields.field p Fields.done) ≡ emits_piece l c p
unfolding emits_parts
one_field l c p = then_nothing (emits_piece l c p)

pub two_fields : (l : Bool) (c : ℕ → Place) (p q : Piece)
    → emits_parts l c (Fields.field p (Fields.field q Fields.done)) ≡ emits_piece l (c 0) p ▷ emits_piece l (c 1) q
unfolding emits_parts
two_fields l c p q = ap (λ (x : Emit). emits_piece l (c 0) p ▷ x) (then_nothing (emits_piece l (c 1) q))

pub three_fields : (l : Bool) (c : ℕ → Place) (p q r : Piece)
    → emits_parts l c (Fields.field p (Fields.field q (Fields.field r Fields.done))) ≡ emits_piece l (c 0) p ▷ emits_piece l (c 1) q ▷ emits_piece l (c 2) r
unfolding emits_parts
three_fields l c p q r = ap (λ (x : Emit). emits_piece l (c 0) p ▷ emits_piece l (c 1) q ▷ x) (then_nothing (emits_piece l (c 2) r))

pub no_items : (l : Bool) (c : Place) → emits_items l c Items.none ≡ say []
unfolding emits_items
no_items l c = refl

pub more_items : (c : Place) (n : Node) (ns : Items) → emits_items false c (Items.item n ns) ≡ emits c n ▷ emits_items false c ns
unfolding emits_items
more_items c n ns = ap (λ (x : Emit). x ▷ emits_items false c ns) (emits_item_lem c n)

pub only_item : (c : Place) (n : Node) → emits_items false c (only n) ≡ emits c n
only_item c n = more_items c n Items.none ∙ ap (λ (x : Emit). emits c n ▷ x) (no_items false c) ∙ then_nothing (emits c n)

-- in a container
pub more_statements : (c : Place) (n : Node) (ns : Items) → is 24 n ≡ false → is 27 n ≡ false
    → emits_items true c (Items.item n ns) ≡ emits_statement c n ▷ emits_items true c ns
unfolding emits_items
more_statements c n ns a b = ap (λ (x : Emit). x ▷ emits_items true c ns) (emits_statement_lem c n a b)

-- ---- temporaries, helpers and calls

pub emits_temporary : (c : Place) (path : List ℕ) (stem at : ℕ) → emits c (made.temporary path stem at) ≡ say (does (Event.temporary (cell stem at) stem) ∷ [])
unfolding rule_of stays piece_in
emits_temporary c path stem at = emits_nowhere c (made.temporary path stem at) refl

pub emits_helper : (c : Place) (h : ℕ) → emits c (made.helper h) ≡ say (does (Event.helper h) ∷ [])
unfolding rule_of stays piece_in
emits_helper c h = emits_nowhere c (made.helper h) refl

pub emits_call : (c : Place) (f : Node) (xs : Items)
    → emits c (call f xs) ≡ say (puts (29 ∷ 3 ∷ [])) ▷ emits (inner c) f ▷ say (puts (wide_bytes (count xs))) ▷ emits_items false (inner c) xs
unfolding rule_of stays map_of is_container emits_piece is opens_scope
emits_call c f xs =
    emits_nowhere c (call f xs) refl
    ∙ ap (λ (x : Emit). say (puts (29 ∷ 3 ∷ [])) ▷ x)
    (two_fields false (below c (call f xs)) (Piece.one f) (Piece.list xs)
    ∙ ap (λ (d : ℕ → Place). emits (d 0) f ▷ say (puts (wide_bytes (count xs))) ▷ emits_items false (d 1) xs) (below_inner c (call f xs) (λ i. refl) refl refl))

-- a call of a helper
pub emits_help : (c : Place) (h : ℕ) (xs : Items) → emits c (call (made.helper h) xs) ≡ say (call_head h (count xs)) ▷ emits_items false (inner c) xs
emits_help c h xs =
    emits_call c (made.helper h) xs
    ∙ ap (λ (x : Emit). say (puts (29 ∷ 3 ∷ [])) ▷ x ▷ say (puts (wide_bytes (count xs))) ▷ emits_items false (inner c) xs) (emits_helper (inner c) h)
    ∙ ap (λ (x : Emit). say (puts (29 ∷ 3 ∷ [])) ▷ x) (say_then (does (Event.helper h) ∷ []) (puts (wide_bytes (count xs))) (emits_items false (inner c) xs))
    ∙ say_then (puts (29 ∷ 3 ∷ [])) (does (Event.helper h) ∷ puts (wide_bytes (count xs))) (emits_items false (inner c) xs)

two_items : (c : Place) (a b : Node) → emits_items false c (Items.item a (only b)) ≡ emits c a ▷ emits c b
two_items c a b = more_items c a (only b) ∙ ap (λ (x : Emit). emits c a ▷ x) (only_item c b)

pub emits_S : (c : Place) (xs : Items) → emits c (made.S xs) ≡ say (call_head 1 (count xs)) ▷ emits_items false (inner c) xs
emits_S c xs = emits_help c 1 xs

pub emits_X : (c : Place) (a b : Node) → emits c (made.X a b) ≡ say (call_head 2 2) ▷ emits (inner c) a ▷ emits (inner c) b
unfolding count
emits_X c a b = emits_help c 2 (Items.item a (only b)) ∙ ap (λ (x : Emit). say (call_head 2 2) ▷ x) (two_items (inner c) a b)

pub emits_E : (c : Place) (a : Node) → emits c (made.E a) ≡ say (call_head 3 1) ▷ emits (inner c) a
unfolding count
emits_E c a = emits_help c 3 (only a) ∙ ap (λ (x : Emit). say (call_head 3 1) ▷ x) (only_item (inner c) a)

pub emits_W : (c : Place) (a b : Node) → emits c (made.W a b) ≡ say (call_head 4 2) ▷ emits (inner c) a ▷ emits (inner c) b
unfolding count
emits_W c a b = emits_help c 4 (Items.item a (only b)) ∙ ap (λ (x : Emit). say (call_head 4 2) ▷ x) (two_items (inner c) a b)

-- ---- expressions

-- a node of one list, in no container
listed : (c : Place) (k : ℕ) (xs : Items) → stays c (node 0 k (Fields.field (Piece.list xs) Fields.done)) ≡ say (puts (k ∷ 1 ∷ [])) ▷ emits_fields false (inner c) (Fields.field (Piece.list xs) Fields.done)
    → stays c (node 0 k (Fields.field (Piece.list xs) Fields.done)) ≡ say (puts (k ∷ 1 ∷ wide_bytes (count xs))) ▷ emits_items false (inner c) xs
unfolding emits_piece
listed c k xs e =
    e
    ∙ ap (λ (x : Emit). say (puts (k ∷ 1 ∷ [])) ▷ x) (one_field false (inner c) (Piece.list xs))
    ∙ say_then (puts (k ∷ 1 ∷ [])) (puts (wide_bytes (count xs))) (emits_items false (inner c) xs)

pub emits_array : (c : Place) (xs : Items) → emits c (array xs) ≡ say (puts (32 ∷ 1 ∷ wide_bytes (count xs))) ▷ emits_items false (inner c) xs
unfolding rule_of stays map_of is_container is opens_scope
emits_array c xs =
    emits_nowhere c (array xs) refl
    ∙ listed c 32 xs (ap (λ (d : ℕ → Place). say (puts (32 ∷ 1 ∷ [])) ▷ emits_parts false d (Fields.field (Piece.list xs) Fields.done)) (below_inner c (array xs) (λ i. refl) refl refl))

pub emits_sequence : (c : Place) (xs : Items) → emits c (sequence xs) ≡ say (puts (28 ∷ 1 ∷ wide_bytes (count xs))) ▷ emits_items false (inner c) xs
unfolding rule_of stays map_of is_container is opens_scope
emits_sequence c xs =
    emits_nowhere c (sequence xs) refl
    ∙ listed c 28 xs (ap (λ (d : ℕ → Place). say (puts (28 ∷ 1 ∷ [])) ▷ emits_parts false d (Fields.field (Piece.list xs) Fields.done)) (below_inner c (sequence xs) (λ i. refl) refl refl))

-- an object without a spread
pub emits_object : (c : Place) (ps : Items) → any (λ p. is 26 p) ps ≡ false → emits c (object ps) ≡ say (puts (24 ∷ 1 ∷ wide_bytes (count ps))) ▷ emits_items false (inner c) ps
unfolding stays map_of is_container is opens_scope items_at_of piece_in
emits_object c ps h =
    emits_unchanged c (object ps) (literal_kept (context_of c) (object ps) refl h)
    ∙ listed c 24 ps (ap (λ (d : ℕ → Place). say (puts (24 ∷ 1 ∷ [])) ▷ emits_parts false d (Fields.field (Piece.list ps) Fields.done)) (below_inner c (object ps) (λ i. refl) refl refl))

pub emits_member : (c : Place) (a : Node) (name : List ℕ) → emits c (member a name) ≡ say (puts (30 ∷ 3 ∷ [])) ▷ emits (inner c) a ▷ say (puts (wide_bytes (length name) ++ name))
unfolding rule_of stays map_of is_container emits_piece is opens_scope
emits_member c a name =
    emits_nowhere c (member a name) refl
    ∙ ap (λ (x : Emit). say (puts (30 ∷ 3 ∷ [])) ▷ x)
    (two_fields false (below c (member a name)) (Piece.one a) (Piece.text name)
    ∙ ap (λ (d : ℕ → Place). emits (d 0) a ▷ say (puts (wide_bytes (length name) ++ name))) (below_inner c (member a name) (λ i. refl) refl refl))

pub emits_string : (c : Place) (form : List ℕ) → emits c (string form) ≡ say (puts (22 ∷ 7 ∷ 1 ∷ 0 ∷ 0 ∷ wide_bytes (length form) ++ form))
unfolding rule_of stays map_of is_container emits_piece
emits_string c form =
    emits_nowhere c (string form) refl
    ∙ ap (λ (x : Emit). say (puts (22 ∷ 7 ∷ [])) ▷ x)
    (three_fields false (below c (string form)) (Piece.byte 1) (Piece.text []) (Piece.text form)
    ∙ ap (λ (x : Emit). say (puts (1 ∷ [])) ▷ x) (say_say (puts (0 ∷ 0 ∷ [])) (puts (wide_bytes (length form) ++ form)))
    ∙ say_say (puts (1 ∷ [])) (puts (0 ∷ 0 ∷ wide_bytes (length form) ++ form)))
    ∙ say_say (puts (22 ∷ 7 ∷ [])) (puts (1 ∷ 0 ∷ 0 ∷ wide_bytes (length form) ++ form))

-- ---- declarators

pub emits_declares : (c : Place) (id init : Node) → emits c (declares id init) ≡ say (puts (5 ∷ 3 ∷ [])) ▷ emits (inner c) id ▷ emits (inner c) init
unfolding rule_of stays map_of is_container emits_piece is opens_scope
emits_declares c id init =
    emits_nowhere c (declares id init) refl
    ∙ ap (λ (x : Emit). say (puts (5 ∷ 3 ∷ [])) ▷ x)
    (two_fields false (below c (declares id init)) (Piece.one id) (Piece.one init)
    ∙ ap (λ (d : ℕ → Place). emits (d 0) id ▷ emits (d 1) init) (below_inner c (declares id init) (λ i. refl) refl refl))

pub emits_declared : (c : Place) (id : Node) → emits c (declared id) ≡ say (puts (5 ∷ 1 ∷ [])) ▷ emits (inner c) id
unfolding rule_of stays map_of is_container emits_piece emits_parts is opens_scope
emits_declared c id =
    emits_nowhere c (declared id) refl
    ∙ ap (λ (x : Emit). say (puts (5 ∷ 1 ∷ [])) ▷ x)
    (then_nothing (emits (below c (declared id) 0) id) ∙ ap (λ (d : ℕ → Place). emits (d 0) id) (below_inner c (declared id) (λ i. refl) refl refl))

-- ---- statements

-- a declaration as it stands
pub stays_declaration : (c : Place) (at m b : ℕ) (ds : Items)
    → stays c (node at 4 (Fields.field (Piece.mark m) (Fields.field (Piece.byte b) (Fields.field (Piece.list ds) Fields.done))))
    ≡ say (puts (4 ∷ 7 ∷ []) ++ (marks m ++ puts (b ∷ wide_bytes (count ds)))) ▷ emits_items false (inner c) ds
unfolding stays map_of is_container emits_piece is opens_scope
stays_declaration c at m b ds =
    let n = node at 4 (Fields.field (Piece.mark m) (Fields.field (Piece.byte b) (Fields.field (Piece.list ds) Fields.done))) in
    let e = emits_items false (inner c) ds in
    ap (λ (x : Emit). say (puts (4 ∷ 7 ∷ [])) ▷ x)
    (three_fields false (below c n) (Piece.mark m) (Piece.byte b) (Piece.list ds)
    ∙ ap (λ (d : ℕ → Place). say (marks m) ▷ say (puts (b ∷ [])) ▷ say (puts (wide_bytes (count ds))) ▷ emits_items false (d 2) ds) (below_inner c n (λ i. refl) refl refl)
    ∙ ap (λ (x : Emit). say (marks m) ▷ x) (say_then (puts (b ∷ [])) (puts (wide_bytes (count ds))) e)
    ∙ say_then (marks m) (puts (b ∷ wide_bytes (count ds))) e)
    ∙ say_then (puts (4 ∷ 7 ∷ [])) (marks m ++ puts (b ∷ wide_bytes (count ds))) e

-- the bytes of a new declaration of one declarator
abbrev pub new_declaration : ℕ → List Deed
new_declaration sort = puts (4 ∷ 7 ∷ []) ++ (does Event.new_mark ∷ puts (sort ∷ 1 ∷ 0 ∷ []))

new_declaration_lem : (c : Place) (sort : ℕ) (d : Node) → is_lowered d ≡ false
    → emits c (node 0 4 (Fields.field (Piece.mark 0) (Fields.field (Piece.byte sort) (Fields.field (Piece.list (only d)) Fields.done)))) ≡ say (new_declaration sort) ▷ emits (inner c) d
unfolding is items_at_of piece_in any NoHoles marks count
new_declaration_lem c sort d h =
    let n = node 0 4 (Fields.field (Piece.mark 0) (Fields.field (Piece.byte sort) (Fields.field (Piece.list (only d)) Fields.done))) in
    emits_unchanged c n (declaration_kept (context_of c) n refl tt (rw h refl))
    ∙ stays_declaration c 0 0 sort (only d)
    ∙ ap (λ (x : Emit). say (new_declaration sort) ▷ x) (only_item (inner c) d)

-- `let id = init` without an object rest below id
pub emits_let : (c : Place) (id init : Node) → has_object_rest id ≡ false
    → emits c (let_of id init) ≡ say (new_declaration 2 ++ puts (5 ∷ 3 ∷ [])) ▷ emits (inner c) id ▷ emits (inner c) init
unfolding is_lowered stands stands_in node_at_of piece_in inner
emits_let c id init h =
    new_declaration_lem c 2 (declares id init) h
    ∙ ap (λ (x : Emit). say (new_declaration 2) ▷ x) (emits_declares (inner c) id init)
    ∙ say_then (new_declaration 2) (puts (5 ∷ 3 ∷ [])) (emits (inner c) id ▷ emits (inner c) init)

-- `var id`
pub emits_var : (c : Place) (id : Node) → emits c (var_of id) ≡ say (new_declaration 1 ++ puts (5 ∷ 1 ∷ [])) ▷ emits (inner c) id
unfolding is_lowered stands stands_in inner
emits_var c id =
    new_declaration_lem c 1 (declared id) refl
    ∙ ap (λ (x : Emit). say (new_declaration 1) ▷ x) (emits_declared (inner c) id)
    ∙ say_then (new_declaration 1) (puts (5 ∷ 1 ∷ [])) (emits (inner c) id)

-- `left = right` as a statement: its value is not used
pub emits_assigning : (c : Place) (left right : Node)
    → emits c (assigning left right) ≡ say (puts (3 ∷ 3 ∷ []) ++ (does Event.new_mark ∷ [])) ▷ emits (unused c) (assign left right)
unfolding rule_of stays map_of is_container emits_piece is opens_scope marks
emits_assigning c left right =
    emits_nowhere c (assigning left right) refl
    ∙ ap (λ (x : Emit). say (puts (3 ∷ 3 ∷ [])) ▷ x)
    (two_fields false (below c (assigning left right)) (Piece.mark 0) (Piece.one (assign left right))
    ∙ ap (λ (d : ℕ → Place). say (does Event.new_mark ∷ []) ▷ emits (d 1) (assign left right)) (below_unused c (assigning left right) refl (λ i. refl)))
    ∙ say_then (puts (3 ∷ 3 ∷ [])) (does Event.new_mark ∷ []) (emits (unused c) (assign left right))

pub emits_returning : (c : Place) (e : Node) → emits c (returning e) ≡ say (puts (11 ∷ 3 ∷ []) ++ (does Event.new_mark ∷ [])) ▷ emits (inner c) e
unfolding rule_of stays map_of is_container emits_piece is opens_scope marks
emits_returning c e =
    emits_nowhere c (returning e) refl
    ∙ ap (λ (x : Emit). say (puts (11 ∷ 3 ∷ [])) ▷ x)
    (two_fields false (below c (returning e)) (Piece.mark 0) (Piece.one e)
    ∙ ap (λ (d : ℕ → Place). say (does Event.new_mark ∷ []) ▷ emits (d 1) e) (below_inner c (returning e) (λ i. refl) refl refl))
    ∙ say_then (puts (11 ∷ 3 ∷ [])) (does Event.new_mark ∷ []) (emits (inner c) e)

-- a Block, which is a container and a scope
pub emits_block : (c : Place) (at m : ℕ) (ns : Items)
    → emits c (node at 2 (Fields.field (Piece.mark m) (Fields.field (Piece.list ns) Fields.done)))
    ≡ say (puts (2 ∷ 3 ∷ []) ++ (marks m ++ puts (wide_bytes (count ns)))) ▷ emits_items true (scoped c) ns
unfolding rule_of stays map_of is_container emits_piece is opens_scope
emits_block c at m ns =
    let n = node at 2 (Fields.field (Piece.mark m) (Fields.field (Piece.list ns) Fields.done)) in
    let e = emits_items true (scoped c) ns in
    emits_nowhere c n refl
    ∙ ap (λ (x : Emit). say (puts (2 ∷ 3 ∷ [])) ▷ x)
    (two_fields true (below c n) (Piece.mark m) (Piece.list ns)
    ∙ ap (λ (d : ℕ → Place). say (marks m) ▷ say (puts (wide_bytes (count ns))) ▷ emits_items true (d 1) ns) (below_scoped c n (λ i. refl) refl refl)
    ∙ say_then (marks m) (puts (wide_bytes (count ns))) e)
    ∙ say_then (puts (2 ∷ 3 ∷ [])) (marks m ++ puts (wide_bytes (count ns))) e

-- one that is made
pub emits_new_block : (c : Place) (ns : Items)
    → emits c (block ns) ≡ say (puts (2 ∷ 3 ∷ []) ++ (does Event.new_mark ∷ puts (wide_bytes (count ns)))) ▷ emits_items true (scoped c) ns
unfolding marks
emits_new_block c ns = emits_block c 0 0 ns

-- a FunctionBody, a container, without directives
pub emits_body : (c : Place) (at : ℕ) (ns : Items)
    → emits c (node at 16 (Fields.absent (Fields.field (Piece.list ns) Fields.done))) ≡ say (puts (16 ∷ 2 ∷ wide_bytes (count ns))) ▷ emits_items true (inner c) ns
unfolding rule_of stays map_of is_container emits_piece emits_parts is opens_scope
emits_body c at ns =
    let n = node at 16 (Fields.absent (Fields.field (Piece.list ns) Fields.done)) in
    emits_nowhere c n refl
    ∙ ap (λ (x : Emit). say (puts (16 ∷ 2 ∷ [])) ▷ x)
    (then_nothing (say (puts (wide_bytes (count ns))) ▷ emits_items true (below c n 1) ns)
    ∙ ap (λ (d : ℕ → Place). say (puts (wide_bytes (count ns))) ▷ emits_items true (d 1) ns) (below_inner c n (λ i. refl) refl refl))
    ∙ say_then (puts (16 ∷ 2 ∷ [])) (puts (wide_bytes (count ns))) (emits_items true (inner c) ns)
