-- Functions, arrows, catches and loops with a pattern that is moved out: what they do, in byte order.
-- Assumes nothing.
use mathlib.Core.Path.{◌≡◌, refl, sym, ap, ap₂, ◌∙◌}
use mathlib.Core.Option.{Option}
use mathlib.Core.Bool.{Bool, true, false}
use mathlib.Core.List.{List, [], ◌∷◌, ◌++◌}
use Prim.Native.Nat.{ℕ}
use Rattle.tree.specs.Tree.{Node, Fields, Piece, Items, wide_bytes, map_of, count}
use Rattle.tree.specs.Tree.Node.{node}
use Rattle.lowering.specs.Parts.{position, kind, is, piece_in, stands_in, node_at_of, items_at_of, stands, change, change_in, on_node, on_items, only, each, gather, any}
use Rattle.lowering.specs.Made.{Context, var_of}
use Rattle.lowering.specs.Patterns.{has_object_rest, has_array_rest_over_object_rest}
use Rattle.lowering.specs.Heads.{is_moved, moved_from, as_function_body, as_block, function, function_makes, arrow, arrow_makes, catch, catch_makes, declaring_head, declaring_makes, assigning_head, assigning_makes}
use Rattle.lowering.specs.Walk.{rewritten, refuse, rule_of, rewrite, step_for, opens_scope}
use Rattle.lowering.specs.Refusals.{rest_below_array_rest}
use Rattle.lowering.specs.Walk.Rule.{functions, arrows, catches, fors}
use Rattle.lowering.specs.Collect.{is_container}
use Rattle.lowering.proofs.Accepted.{NoHoles}
use Rattle.sink.specs.Machine.{Event}
use Rattle.direct.specs.Events.{Deed, Place, Emit, puts, cell, marks, refused, hands_out, context_of, emits}
use Rattle.direct.specs.Events.Deed.{does, refuses}
use Rattle.direct.specs.Emit.{say, ◌▷◌, below, inner, scoped, emits_items, emits_piece, emits_fields, emits_parts, stays}
use Rattle.direct.specs.Moved.{stand_in, stand, behind, makes, body_in, block_in, target_in, given, emits_given, function_fields, arrow_fields, catch_fields, for_fields, declaration_fields, Loop}
use Rattle.direct.proofs.Threads.{then_assoc, say_nothing, then_nothing}
use Rattle.direct.proofs.OneLevel.{emits_as, emits_refused}
use Rattle.direct.proofs.MadeNodes.{say_then, below_scoped, two_fields, only_item, new_declaration, emits_var, emits_temporary}
use Rattle.direct.proofs.MovedOut.{behind_here}
use Rattle.direct.proofs.MovedMade.{hands_function, hands_arrow, hands_catch, hands_declaring, hands_assigning}
use Rattle.direct.proofs.MovedRest.{emits_declaring}
use Rattle.direct.proofs.Bodies.{body_here, inner_scoped}
use Rattle.lowering.proofs.ItemLaws.{gather_only, count_each}

-- a step with what it hands out and what it leaves named
emits_by : (c : Place) (n : Node) (ts : Items) (r : Node) (ds : List Deed) → rewrite (context_of c) n ≡ rewritten ts r → hands_out c.mark (rewritten ts r).note ≡ ds
    → emits c n ≡ say ds ▷ stays c r
emits_by c n ts r ds e h = emits_as c n (rewritten ts r) e ∙ ap (λ (x : List Deed). say x ▷ stays c r) h

given_fields_lem : (l : Bool) (c : Place) (o : Option Node) (fs : Fields) → emits_fields l c (given o fs) ≡ emits_given (emits c) o ▷ emits_fields l c fs
unfolding emits_parts emits_piece
given_fields_lem l c Option.none fs = sym (say_nothing (emits_fields l c fs))
given_fields_lem l c (Option.some n) fs = refl

last_field : (l : Bool) (c : Place) (n : Node) → emits_fields l c (Fields.field (Piece.one n) Fields.done) ≡ emits c n
unfolding emits_parts emits_piece
last_field l c n = then_nothing (emits c n)

-- params, rest and body
params_fields : (c : Place) (qs : Items) (rest : Option Node) (b : Node)
    → emits_fields false c (arrow_fields qs rest b) ≡ say (puts (wide_bytes (count qs))) ▷ emits_items false c qs ▷ emits_given (emits c) rest ▷ emits c b
unfolding emits_parts emits_piece
params_fields c qs rest b =
    ap (λ (x : Emit). (say (puts (wide_bytes (count qs))) ▷ emits_items false c qs) ▷ x)
    (given_fields_lem false c rest (Fields.field (Piece.one b) Fields.done) ∙ ap (λ (x : Emit). emits_given (emits c) rest ▷ x) (last_field false c b))
    ∙ then_assoc (say (puts (wide_bytes (count qs)))) (emits_items false c qs) (emits_given (emits c) rest ▷ emits c b)

-- ---- arrows

arrow_map : (qs rs : Items) (rest : Option Node) (b d : Node) → map_of (arrow_fields qs rest b) ≡ map_of (arrow_fields rs rest d)
unfolding map_of
arrow_map qs rs Option.none b d = refl
arrow_map qs rs (Option.some n) b d = refl

arrow_left : (c : Place) (at : ℕ) (qs : Items) (rest : Option Node) (b : Node) → any is_moved qs ≡ true
    → arrow (context_of c) (node at 17 (arrow_fields qs rest b)) ≡ node at 17 (arrow_fields (each behind qs) rest (body_in (gather moved_from qs) b))
unfolding arrow items_at_of piece_in change change_in on_node on_items body_in
arrow_left c at qs Option.none b h =
    rw h
    (ap₂ (λ (f : Node → Node) (g : Node → Node). node at 17 (arrow_fields (each f qs) Option.none (g (as_function_body b)))) (behind_here c) (body_here c (gather moved_from qs)))
arrow_left c at qs (Option.some r) b h =
    rw h
    (ap₂ (λ (f : Node → Node) (g : Node → Node). node at 17 (arrow_fields (each f qs) (Option.some r) (g (as_function_body b)))) (behind_here c) (body_here c (gather moved_from qs)))

arrow_step : (k : Context) (n : Node) → rule_of (kind n) ≡ arrows → rewrite k n ≡ rewritten (arrow_makes k n) (arrow k n)
unfolding rewrite
arrow_step k n e = rw (e, rewrite) refl

stays_arrow : (c : Place) (at : ℕ) (qs : Items) (rest : Option Node) (b : Node)
    → stays c (node at 17 (arrow_fields qs rest b))
    ≡ say (puts (17 ∷ map_of (arrow_fields qs rest b) ∷ wide_bytes (count qs))) ▷ emits_items false (scoped c) qs ▷ emits_given (emits (scoped c)) rest ▷ emits (scoped c) b
unfolding stays is_container is opens_scope
stays_arrow c at qs rest b =
    let n = node at 17 (arrow_fields qs rest b) in
    let m = map_of (arrow_fields qs rest b) in
    ap (λ (d : ℕ → Place). say (puts (17 ∷ m ∷ [])) ▷ emits_parts false d (arrow_fields qs rest b)) (below_scoped c n (λ i. refl) refl refl)
    ∙ ap (λ (x : Emit). say (puts (17 ∷ m ∷ [])) ▷ x) (params_fields (scoped c) qs rest b)
    ∙ say_then (puts (17 ∷ m ∷ [])) (puts (wide_bytes (count qs))) (emits_items false (scoped c) qs ▷ emits_given (emits (scoped c)) rest ▷ emits (scoped c) b)

pub emits_arrow : (c : Place) (at : ℕ) (qs : Items) (rest : Option Node) (b : Node) → any is_moved qs ≡ true
    → emits c (node at 17 (arrow_fields qs rest b))
    ≡ say (makes (gather moved_from qs))
    ▷ say (puts (17 ∷ map_of (arrow_fields qs rest b) ∷ wide_bytes (count qs)))
    ▷ emits_items false (scoped c) (each behind qs)
    ▷ emits_given (emits (scoped c)) rest
    ▷ emits (scoped c) (body_in (gather moved_from qs) b)
unfolding items_at_of piece_in rule_of
emits_arrow c at qs rest b h =
    let n = node at 17 (arrow_fields qs rest b) in
    let d = body_in (gather moved_from qs) b in
    let r = node at 17 (arrow_fields (each behind qs) rest d) in
    emits_by c n (arrow_makes (context_of c) n) r (makes (gather moved_from qs))
    (arrow_step (context_of c) n refl ∙ ap (rewritten (arrow_makes (context_of c) n)) (arrow_left c at qs rest b h))
    (hands_arrow c.mark (context_of c) n r)
    ∙ ap (λ (x : Emit). say (makes (gather moved_from qs)) ▷ x)
    (stays_arrow c at (each behind qs) rest d
    ∙ ap₂ (λ (x y : ℕ). say (puts (17 ∷ x ∷ wide_bytes y)) ▷ emits_items false (scoped c) (each behind qs) ▷ emits_given (emits (scoped c)) rest ▷ emits (scoped c) d)
    (arrow_map (each behind qs) qs rest d b) (count_each behind qs))

-- ---- functions with a body

function_map_lem : (m sort : ℕ) (name : Option Node) (qs rs : Items) (rest : Option Node) (b d : Node)
    → map_of (function_fields m sort name qs rest b) ≡ map_of (function_fields m sort name rs rest d)
unfolding map_of
function_map_lem m sort Option.none qs rs Option.none b d = refl
function_map_lem m sort Option.none qs rs (Option.some r) b d = refl
function_map_lem m sort (Option.some n) qs rs Option.none b d = refl
function_map_lem m sort (Option.some n) qs rs (Option.some r) b d = refl

function_left : (c : Place) (at m sort : ℕ) (name : Option Node) (qs : Items) (rest : Option Node) (b : Node) → any is_moved qs ≡ true
    → function (context_of c) (node at 14 (function_fields m sort name qs rest b))
    ≡ node at 14 (function_fields m sort name (each behind qs) rest (body_in (gather moved_from qs) b))
unfolding function stands stands_in items_at_of piece_in change change_in on_node on_items body_in
function_left c at m sort Option.none qs Option.none b h =
    rw h
    (ap₂ (λ (f : Node → Node) (g : Node → Node). node at 14 (function_fields m sort Option.none (each f qs) Option.none (g (as_function_body b))))
    (behind_here c) (body_here c (gather moved_from qs)))
function_left c at m sort Option.none qs (Option.some r) b h =
    rw h
    (ap₂ (λ (f : Node → Node) (g : Node → Node). node at 14 (function_fields m sort Option.none (each f qs) (Option.some r) (g (as_function_body b))))
    (behind_here c) (body_here c (gather moved_from qs)))
function_left c at m sort (Option.some n) qs Option.none b h =
    rw h
    (ap₂ (λ (f : Node → Node) (g : Node → Node). node at 14 (function_fields m sort (Option.some n) (each f qs) Option.none (g (as_function_body b))))
    (behind_here c) (body_here c (gather moved_from qs)))
function_left c at m sort (Option.some n) qs (Option.some r) b h =
    rw h
    (ap₂ (λ (f : Node → Node) (g : Node → Node). node at 14 (function_fields m sort (Option.some n) (each f qs) (Option.some r) (g (as_function_body b))))
    (behind_here c) (body_here c (gather moved_from qs)))

function_stands : (m sort at : ℕ) (name : Option Node) (qs : Items) (rest : Option Node) (b : Node) → stands 5 (node at 14 (function_fields m sort name qs rest b)) ≡ true
unfolding stands stands_in
function_stands m sort at Option.none qs Option.none b = refl
function_stands m sort at Option.none qs (Option.some r) b = refl
function_stands m sort at (Option.some n) qs Option.none b = refl
function_stands m sort at (Option.some n) qs (Option.some r) b = refl

pub function_params : (m sort at : ℕ) (name : Option Node) (qs : Items) (rest : Option Node) (b : Node) → items_at_of 3 (node at 14 (function_fields m sort name qs rest b)) ≡ qs
unfolding items_at_of piece_in
function_params m sort at Option.none qs rest b = refl
function_params m sort at (Option.some n) qs rest b = refl

function_step : (k : Context) (n : Node) → rule_of (kind n) ≡ functions → rewrite k n ≡ rewritten (function_makes k n) (function k n)
unfolding rewrite
function_step k n e = rw (e, rewrite) refl

stays_function : (c : Place) (at m sort : ℕ) (name : Option Node) (qs : Items) (rest : Option Node) (b : Node)
    → stays c (node at 14 (function_fields m sort name qs rest b))
    ≡ say (puts (14 ∷ map_of (function_fields m sort name qs rest b) ∷ []) ++ (marks m ++ puts (sort ∷ [])))
    ▷ emits_given (emits (scoped c)) name
    ▷ say (puts (wide_bytes (count qs)))
    ▷ emits_items false (scoped c) qs
    ▷ emits_given (emits (scoped c)) rest
    ▷ emits (scoped c) b
unfolding stays is_container is opens_scope emits_parts emits_piece
stays_function c at m sort name qs rest b =
    let fs = function_fields m sort name qs rest b in
    let n = node at 14 fs in
    let ps = say (puts (wide_bytes (count qs))) ▷ emits_items false (scoped c) qs ▷ emits_given (emits (scoped c)) rest ▷ emits (scoped c) b in
    let e = emits_given (emits (scoped c)) name ▷ ps in
    ap (λ (d : ℕ → Place). say (puts (14 ∷ map_of fs ∷ [])) ▷ emits_parts false d fs) (below_scoped c n (λ i. refl) refl refl)
    ∙ ap (λ (x : Emit). say (puts (14 ∷ map_of fs ∷ [])) ▷ say (marks m) ▷ say (puts (sort ∷ [])) ▷ x)
    (given_fields_lem false (scoped c) name (arrow_fields qs rest b) ∙ ap (λ (x : Emit). emits_given (emits (scoped c)) name ▷ x) (params_fields (scoped c) qs rest b))
    ∙ ap (λ (x : Emit). say (puts (14 ∷ map_of fs ∷ [])) ▷ x) (say_then (marks m) (puts (sort ∷ [])) e)
    ∙ say_then (puts (14 ∷ map_of fs ∷ [])) (marks m ++ puts (sort ∷ [])) e

pub emits_function : (c : Place) (at m sort : ℕ) (name : Option Node) (qs : Items) (rest : Option Node) (b : Node) → any is_moved qs ≡ true
    → emits c (node at 14 (function_fields m sort name qs rest b))
    ≡ say (makes (gather moved_from qs))
    ▷ say (puts (14 ∷ map_of (function_fields m sort name qs rest b) ∷ []) ++ (marks m ++ puts (sort ∷ [])))
    ▷ emits_given (emits (scoped c)) name
    ▷ say (puts (wide_bytes (count qs)))
    ▷ emits_items false (scoped c) (each behind qs)
    ▷ emits_given (emits (scoped c)) rest
    ▷ emits (scoped c) (body_in (gather moved_from qs) b)
unfolding rule_of
emits_function c at m sort name qs rest b h =
    let n = node at 14 (function_fields m sort name qs rest b) in
    let d = body_in (gather moved_from qs) b in
    let r = node at 14 (function_fields m sort name (each behind qs) rest d) in
    emits_by c n (function_makes (context_of c) n) r (makes (gather moved_from qs))
    (function_step (context_of c) n refl ∙ ap (rewritten (function_makes (context_of c) n)) (function_left c at m sort name qs rest b h))
    (hands_function c.mark (context_of c) n r (function_stands m sort at name qs rest b)
    ∙ ap (λ (x : Items). makes (gather moved_from x)) (function_params m sort at name qs rest b))
    ∙ ap (λ (x : Emit). say (makes (gather moved_from qs)) ▷ x)
    (stays_function c at m sort name (each behind qs) rest d
    ∙ ap₂
    (λ (x y : ℕ).
    say (puts (14 ∷ x ∷ []) ++ (marks m ++ puts (sort ∷ [])))
    ▷ emits_given (emits (scoped c)) name
    ▷ say (puts (wide_bytes y))
    ▷ emits_items false (scoped c) (each behind qs)
    ▷ emits_given (emits (scoped c)) rest
    ▷ emits (scoped c) d)
    (function_map_lem m sort name (each behind qs) qs rest d b) (count_each behind qs))

-- ---- catches

catch_left : (c : Place) (at : ℕ) (q b : Node) → is_moved q ≡ true
    → catch (context_of c) (node at 10 (catch_fields q b)) ≡ node at 10 (catch_fields (behind q) (block_in (moved_from q) b))
unfolding catch node_at_of piece_in change change_in on_node block_in
catch_left c at q b h =
    rw h (ap₂ (λ (f : Node → Node) (g : Node → Node). node at 10 (catch_fields (f q) (g (as_block b)))) (behind_here c) (body_here c (moved_from q)))

catch_step : (k : Context) (n : Node) → rule_of (kind n) ≡ catches → rewrite k n ≡ rewritten (catch_makes k n) (catch k n)
unfolding rewrite
catch_step k n e = rw (e, rewrite) refl

pub emits_catch : (c : Place) (at : ℕ) (q b : Node) → is_moved q ≡ true
    → emits c (node at 10 (catch_fields q b))
    ≡ say (makes (moved_from q)) ▷ say (puts (10 ∷ 3 ∷ [])) ▷ emits (scoped c) (behind q) ▷ emits (scoped c) (block_in (moved_from q) b)
unfolding rule_of node_at_of piece_in stays map_of is_container is opens_scope emits_piece
emits_catch c at q b h =
    let n = node at 10 (catch_fields q b) in
    let d = block_in (moved_from q) b in
    let r = node at 10 (catch_fields (behind q) d) in
    emits_by c n (catch_makes (context_of c) n) r (makes (moved_from q))
    (catch_step (context_of c) n refl ∙ ap (rewritten (catch_makes (context_of c) n)) (catch_left c at q b h))
    (hands_catch c.mark (context_of c) n r)
    ∙ ap (λ (x : Emit). say (makes (moved_from q)) ▷ say (puts (10 ∷ 3 ∷ [])) ▷ x)
    (two_fields false (below c r) (Piece.one (behind q)) (Piece.one d)
    ∙ ap (λ (e : ℕ → Place). emits (e 0) (behind q) ▷ emits (e 1) d) (below_scoped c r (λ i. refl) refl refl))

-- the same with its param as a list of one
pub emits_catch_list : (c : Place) (at : ℕ) (q b : Node) → is_moved q ≡ true
    → emits c (node at 10 (catch_fields q b))
    ≡ say (makes (gather moved_from (only q)))
    ▷ say (puts (10 ∷ 3 ∷ []))
    ▷ emits_items false (scoped c) (each behind (only q))
    ▷ emits (scoped c) (block_in (gather moved_from (only q)) b)
unfolding each
emits_catch_list c at q b h =
    emits_catch c at q b h
    ∙ ap₂ (λ (x : Items) (y : Emit). say (makes x) ▷ say (puts (10 ∷ 3 ∷ [])) ▷ y ▷ emits (scoped c) (block_in x b))
    (sym (gather_only moved_from q)) (sym (only_item (scoped c) (behind q)))

-- ---- loops

pub loop_rule : {k : ℕ} → Loop k → rule_of k ≡ fors
unfolding rule_of
loop_rule Loop.for_in = refl
loop_rule Loop.for_of = refl

-- what stands behind the body
pub no_more : (l : Bool) (c : Place) → emits_fields l c Fields.done ≡ say []
unfolding emits_parts
no_more l c = refl

pub awaits_not : (l : Bool) (c : Place) → emits_fields l c (Fields.absent Fields.done) ≡ say []
unfolding emits_parts
awaits_not l c = refl

pub awaits : (l : Bool) (c : Place) (b : ℕ) → emits_fields l c (Fields.field (Piece.byte b) Fields.done) ≡ say (puts (b ∷ []))
unfolding emits_parts emits_piece
awaits l c b = then_nothing (say (puts (b ∷ [])))

for_fields_lem : (c : Place) (ds : List Deed) (m : ℕ) (left right b : Node) (more : Fields)
    → say ds ▷ emits_fields false c (for_fields m left right b more) ≡ say (ds ++ marks m) ▷ emits c left ▷ emits c right ▷ emits c b ▷ emits_fields false c more
unfolding emits_parts emits_piece
for_fields_lem c ds m left right b more = say_then ds (marks m) (emits c left ▷ emits c right ▷ emits c b ▷ emits_fields false c more)

stays_for : (c : Place) (at : ℕ) {k : ℕ} → Loop k → (m : ℕ) (left right b : Node) (more : Fields)
    → stays c (node at k (for_fields m left right b more))
    ≡ say (puts (k ∷ map_of (for_fields m left right b more) ∷ []) ++ marks m) ▷ emits (scoped c) left ▷ emits (scoped c) right ▷ emits (scoped c) b ▷ emits_fields false (scoped c) more
unfolding stays is_container is opens_scope
stays_for c at Loop.for_in m left right b more =
    let fs = for_fields m left right b more in
    ap (λ (d : ℕ → Place). say (puts (7 ∷ map_of fs ∷ [])) ▷ emits_parts false d fs) (below_scoped c (node at 7 fs) (λ i. refl) refl refl)
    ∙ for_fields_lem (scoped c) (puts (7 ∷ map_of fs ∷ [])) m left right b more
stays_for c at Loop.for_of m left right b more =
    let fs = for_fields m left right b more in
    ap (λ (d : ℕ → Place). say (puts (8 ∷ map_of fs ∷ [])) ▷ emits_parts false d fs) (below_scoped c (node at 8 fs) (λ i. refl) refl refl)
    ∙ for_fields_lem (scoped c) (puts (8 ∷ map_of fs ∷ [])) m left right b more

for_map : (m : ℕ) (l r b x y z : Node) (more : Fields) → map_of (for_fields m l r b more) ≡ map_of (for_fields m x y z more)
unfolding map_of
for_map m l r b x y z more = refl

module _ (k : Context) (n : Node) (rule : rule_of (kind n) ≡ fors) where
  declaring_step : is 4 (node_at_of 1 n) ≡ true → rewrite k n ≡ rewritten (declaring_makes k n) (declaring_head k n)
  unfolding rewrite step_for
  declaring_step d = rw (rule, rewrite, d, step_for) refl

  assigning_step : is 4 (node_at_of 1 n) ≡ false → has_array_rest_over_object_rest (node_at_of 1 n) ≡ false → rewrite k n ≡ rewritten (assigning_makes k n) (assigning_head k n)
  unfolding rewrite step_for
  assigning_step d h = rw (rule, rewrite, d, step_for, h) refl

  refused_step : is 4 (node_at_of 1 n) ≡ false → has_array_rest_over_object_rest (node_at_of 1 n) ≡ true → rewrite k n ≡ refuse rest_below_array_rest
  unfolding rewrite step_for
  refused_step d h = rw (rule, rewrite, d, step_for, h) refl

declaring_left : (c : Place) (at k m la lm sort : ℕ) (qs : Items) (right b : Node) (more : Fields) → any is_moved qs ≡ true
    → declaring_head (context_of c) (node at k (for_fields m (node la 4 (declaration_fields lm sort qs)) right b more))
    ≡ node at k (for_fields m (node la 4 (declaration_fields lm sort (each behind qs))) right (block_in (gather moved_from qs) b) more)
unfolding declaring_head node_at_of items_at_of piece_in change change_in on_node on_items block_in
declaring_left c at k m la lm sort qs right b more h =
    rw h
    (ap₂ (λ (f : Node → Node) (g : Node → Node). node at k (for_fields m (node la 4 (declaration_fields lm sort (each f qs))) right (g (as_block b)) more))
    (behind_here c) (body_here c (gather moved_from qs)))

-- a head that declares
pub emits_declaring_head : (c : Place) (at : ℕ) {k : ℕ} → Loop k → (m la lm sort : ℕ) (qs : Items) (right b : Node) (more : Fields) → NoHoles qs → any is_moved qs ≡ true
    → emits c (node at k (for_fields m (node la 4 (declaration_fields lm sort qs)) right b more))
    ≡ say (makes (gather moved_from qs))
    ▷ say (puts (k ∷ map_of (for_fields m (node la 4 (declaration_fields lm sort qs)) right b more) ∷ []) ++ marks m)
    ▷ say (puts (4 ∷ 7 ∷ []) ++ (marks lm ++ puts (sort ∷ wide_bytes (count qs))))
    ▷ emits_items false (scoped c) (each behind qs)
    ▷ emits (scoped c) right
    ▷ emits (scoped c) (block_in (gather moved_from qs) b)
    ▷ emits_fields false (scoped c) more
unfolding node_at_of items_at_of piece_in is
emits_declaring_head c at {k = k} loop m la lm sort qs right b more w h =
    let left = node la 4 (declaration_fields lm sort qs) in
    let left' = node la 4 (declaration_fields lm sort (each behind qs)) in
    let n = node at k (for_fields m left right b more) in
    let d = block_in (gather moved_from qs) b in
    let r = node at k (for_fields m left' right d more) in
    let head = say (puts (4 ∷ 7 ∷ []) ++ (marks lm ++ puts (sort ∷ wide_bytes (count qs)))) in
    let items = emits_items false (scoped c) (each behind qs) in
    let tail = emits (scoped c) right ▷ emits (scoped c) d ▷ emits_fields false (scoped c) more in
    emits_by c n (declaring_makes (context_of c) n) r (makes (gather moved_from qs))
    (declaring_step (context_of c) n (loop_rule loop) refl
    ∙ ap (rewritten (declaring_makes (context_of c) n)) (declaring_left c at k m la lm sort qs right b more h))
    (hands_declaring c.mark (context_of c) n r)
    ∙ ap (λ (x : Emit). say (makes (gather moved_from qs)) ▷ x)
    (stays_for c at loop m left' right d more
    ∙ ap (λ (x : ℕ). say (puts (k ∷ x ∷ []) ++ marks m) ▷ emits (scoped c) left' ▷ tail) (for_map m left' right d left right b more)
    ∙ ap (λ (x : Emit). say (puts (k ∷ map_of (for_fields m left right b more) ∷ []) ++ marks m) ▷ x)
    (ap (λ (x : Emit). x ▷ tail)
    (emits_declaring (scoped c) la lm sort qs w ∙ ap (λ (p : Place). head ▷ emits_items false p (each behind qs)) (inner_scoped c))
    ∙ then_assoc head items tail))

-- ---- heads that assign

-- one with an object rest below an array rest is refused
pub emits_refused_head : (c : Place) (at : ℕ) {k : ℕ} → Loop k → (m : ℕ) (left right b : Node) (more : Fields)
    → is 4 left ≡ false → has_array_rest_over_object_rest left ≡ true
    → emits c (node at k (for_fields m left right b more)) ≡ say (refuses 5 ∷ puts (0 ∷ 0 ∷ []))
unfolding node_at_of piece_in refused
emits_refused_head c at {k = k} loop m left right b more d h =
    let n = node at k (for_fields m left right b more) in
    emits_refused c n rest_below_array_rest (refused_step (context_of c) n (loop_rule loop) d h)

assigning_left : (c : Place) (at k m : ℕ) (left right b : Node) (more : Fields) → has_object_rest left ≡ true
    → assigning_head (context_of c) (node at k (for_fields m left right b more)) ≡ node at k (for_fields m (var_of (stand_in left)) right (target_in left b) more)
unfolding assigning_head node_at_of piece_in change_in change on_node target_in
assigning_left c at k m left right b more h = rw h refl

-- any other with an object rest
pub emits_assigning_head : (c : Place) (at : ℕ) {k : ℕ} → Loop k → (m : ℕ) (left right b : Node) (more : Fields)
    → is 4 left ≡ false → has_array_rest_over_object_rest left ≡ false → has_object_rest left ≡ true
    → emits c (node at k (for_fields m left right b more))
    ≡ say (does (Event.make (cell 1 (position left))) ∷ [])
    ▷ say (puts (k ∷ map_of (for_fields m left right b more) ∷ []) ++ marks m)
    ▷ say ((new_declaration 1 ++ puts (5 ∷ 1 ∷ [])) ++ stand (position left))
    ▷ emits (scoped c) right
    ▷ emits (scoped c) (target_in left b)
    ▷ emits_fields false (scoped c) more
unfolding node_at_of piece_in
emits_assigning_head c at {k = k} loop m left right b more d a h =
    let left' = var_of (stand_in left) in
    let n = node at k (for_fields m left right b more) in
    let e = target_in left b in
    let r = node at k (for_fields m left' right e more) in
    let made = does (Event.make (cell 1 (position left))) ∷ [] in
    let var = new_declaration 1 ++ puts (5 ∷ 1 ∷ []) in
    let tail = emits (scoped c) right ▷ emits (scoped c) e ▷ emits_fields false (scoped c) more in
    emits_by c n (assigning_makes (context_of c) n) r made
    (assigning_step (context_of c) n (loop_rule loop) d a ∙ ap (rewritten (assigning_makes (context_of c) n)) (assigning_left c at k m left right b more h))
    (hands_assigning c.mark (context_of c) n r h)
    ∙ ap (λ (x : Emit). say made ▷ x)
    (stays_for c at loop m left' right e more
    ∙ ap (λ (x : ℕ). say (puts (k ∷ x ∷ []) ++ marks m) ▷ emits (scoped c) left' ▷ tail) (for_map m left' right e left right b more)
    ∙ ap (λ (x : Emit). say (puts (k ∷ map_of (for_fields m left right b more) ∷ []) ++ marks m) ▷ x ▷ tail)
    (emits_var (scoped c) (stand_in left) ∙ ap (λ (x : Emit). say var ▷ x) (emits_temporary (inner (scoped c)) [] 1 (position left)))
    ∙ ap (λ (x : Emit). say (puts (k ∷ map_of (for_fields m left right b more) ∷ []) ++ marks m) ▷ x)
    (then_assoc (say var) (say (stand (position left))) tail ∙ say_then var (stand (position left)) tail))
