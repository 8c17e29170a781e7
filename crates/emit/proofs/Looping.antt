-- The ways out of the emitters of catches and of for-in and for-of loops: what their code does is what the rules say.
-- Assumes nothing.
use mathlib.Core.Path.{◌≡◌, refl, sym, ap, ap₂, ◌∙◌, subst}
use mathlib.Core.Bool.{Bool, true, false, cond, ◌||◌, false≢true}
use mathlib.Core.List.{List, [], ◌∷◌, ◌++◌}
use Prim.Native.Nat.{ℕ, zero, suc, ◌+◌, ◌-◌, ◌/◌, ◌%◌, ◌≤◌, ◌<◌}
use native.Mathlib.Omega.{arith}
use lib.Dec.{eqb}
use lib.ListN.{length}
use borrow.Author.Tests.{eqb-true, eqb-false, eq-eqb, ne_eqb}
use Rattle.tree.specs.Tree.{Node, Fields, Piece, Items, wide_bytes, map_of, count, depth}
use Rattle.tree.specs.Tree.Node.{node}
use Rattle.tree.specs.Grammar.{Sort, Field, fields_of, kinds}
use Rattle.tree.specs.Grammar.Stage.{input}
use Rattle.tree.specs.WellFormed.{Fits}
use Rattle.tree.specs.Read.{byte_at, wide_at, sort_in}
use Rattle.tree.specs.Answer.{Peeked, Wide}
use Rattle.tree.specs.Look.{Seen, seen, onward, look_item, look_items, look_field, look_slot, look_fields, look_node}
use Rattle.tree.proofs.Look.{on_within}
use Rattle.lowering.specs.Parts.{kind, is, position, node_at_of, items_at_of, piece_in, only, each, gather, any, change, change_in, on_items}
use Rattle.lowering.specs.Made.{assign, assigning, block, temporary}
use Rattle.lowering.specs.Patterns.{shape, has_nested_object_rest, has_object_rest, has_array_rest_over_object_rest}
use Rattle.lowering.specs.Heads.{is_moved, moved_from, in_front, in_body, as_block}
use Rattle.lowering.specs.Walk.{rule_of}
use Rattle.lowering.specs.Walk.Rule.{fors}
use Rattle.lowering.specs.Collect.{is_container}
use Rattle.lowering.proofs.Cases.{by_test, or_other}
use Rattle.sink.specs.Machine.{Event, part}
use Rattle.sink.specs.Machine.Event.{new_mark}
use Rattle.pattern.specs.Tally.{limited}
use Rattle.direct.specs.Events.{Place, Emit, Deed, puts, cell, marks, context_of, emits}
use Rattle.direct.specs.Events.Deed.{does, refuses}
use Rattle.direct.specs.Emit.{say, ◌▷◌, scoped, unused, marking, start_mark, stays, emits_statement, emits_item, emits_items, emits_fields}
use Rattle.direct.specs.Assigned.{assignment_at}
use Rattle.direct.specs.Moved.{stand, stand_in, behind, makes, number, fronts, block_in, target_in, for_fields, declaration_fields, Loop}
use Rattle.direct.proofs.Threads.{then_nothing, say_say, puts_append}
use Rattle.direct.proofs.StatementMarks.{emits_statement_lem}
use Rattle.direct.proofs.HeadShapes.{for_in_fits, for_of_fits, statement_24, statement_27, statement_fits}
use Rattle.direct.proofs.HeadRules as rules
use Rattle.direct.proofs.HeadRules.{no_more, awaits_not, emits_catch_list, emits_declaring_head, emits_refused_head, emits_assigning_head, loop_rule as rule-of}
use Rattle.direct.proofs.OneLevel.{emits_unchanged}
use Rattle.direct.proofs.RulesKeep.{catch_kept, declaring_kept, assigning_kept}
use Rattle.direct.proofs.MadeNodes.{new_declaration, say_then, more_statements, emits_new_block}
use Rattle.direct.proofs.Fronts.{emits_in_front, count_in_front, marked_own}
use Rattle.direct.proofs.Bodies.{emits_assigned, emits_block_in, emits_empty_in, emits_target_block, emits_target_empty}
use Rattle.direct.proofs.SimpleCopied.{mark_bytes}
use Rattle.walk.specs.declared.modes.Mode.TheVariants as modes
use Rattle.walk.specs.Run.{Going, Does}
use Rattle.walk.specs.Whole.{hole_at, item_deeds, GoodItem, GoodItems, GoodField, GoodSlot, GoodFields, Good}
use Rattle.walk.specs.Turns.{turns_of, AllSuit, AllBind, moves_of, awaits, given_node, block_head, declaration_head}
use Rattle.walk.proofs.Running.{does_then, does_as, does_to, does_fresh}
use Rattle.walk.proofs.RefusalsWithoutMarks.{agree_say, agree_then, agree_unused}
use Rattle.walk.proofs.SpreadArguments.{does_from}
use Rattle.emit.proofs.MovedPatterns.{scoped_place}
use Rattle.walk.proofs.Opened.{look_solid, CatchOpen, LoopOpen, no_good, is_here, position_here, good_fits, good_room, declaration_open, block_open, catch_open, for_in_open, for_of_open}
use Rattle.emit.proofs.MovesFit.{moves_within, moves_whole, count_within, part_join, on_more}
use Rattle.walk.proofs.ListTurns.{turns_binding, suit_binding, suit_binding_declarators}
use Rattle.direct.specs.Views.{nameless}
use Rattle.outcome.proofs.PotentialRules.{cell_1}

module _ (t : List ℕ) where
  -- ---- ags

  pub assigned_does : {g g₁ g₂ g' : Going} (c c' : Place) (d e p m : ℕ) → m ≡ g.state.sink.mark → c' ≡ unused (marking c m) → e ≡ d
      → Does g g₁ (say (puts (3 ∷ 3 ∷ []))) → Does g₁ g₂ (say (does new_mark ∷ []))
      → (Good t e p → (false ≡ true → Good t e p) → has_array_rest_over_object_rest (look_node t e p).value ≡ false → has_object_rest (look_node t e p).value ≡ true
      → Does g₂ g' (emits c' (assignment_at 0 1 (look_node t e p).value (given_node t e false p))))
      → Good t d p → has_array_rest_over_object_rest (look_node t d p).value ≡ false → has_object_rest (look_node t d p).value ≡ true
      → Does g g' (emits_statement c (assigning (look_node t d p).value (temporary [] 1 p)))
  assigned_does c c' d e p m mk pl lv a b f good na ob =
      let v : Node = (look_node t d p).value in
      let f' : Good t d p → (false ≡ true → Good t d p) → has_array_rest_over_object_rest v ≡ false → has_object_rest v ≡ true → Does _ _ (emits (unused (marking c m)) (assign v (temporary [] 1 p))) = rw (lv, pl) at f in
      does_as
      (does_fresh (λ x. say (puts (3 ∷ 3 ∷ []) ++ (does new_mark ∷ [])) ▷ emits (unused (marking c x)) (assign v (temporary [] 1 p))) m mk
      (λ k. agree_then (agree_say (puts (3 ∷ 3 ∷ []) ++ (does new_mark ∷ []))) (agree_unused c (assign v (temporary [] 1 p)) m k))
      (does_then (does_as (does_then a b) (say_say (puts (3 ∷ 3 ∷ [])) (does new_mark ∷ []))) (f' good (λ x. absurd (false≢true x)) na ob)))
      (sym (emits_assigned c v (temporary [] 1 p)))

-- ---- heads of blocks

-- that of a Block as it stands, with a new count behind it
head_counted : (m n k : ℕ) (bs : List ℕ) → bs ≡ 2 ∷ 3 ∷ wide_bytes m → 0 < m → n ≡ k → puts bs ++ puts (wide_bytes n) ≡ puts (2 ∷ 3 ∷ []) ++ (marks m ++ puts (wide_bytes k))
head_counted m n k bs e h f =
    ap (λ (x : List ℕ). puts x ++ puts (wide_bytes n)) e
    ∙ ap₂ (λ (x : List Deed) (y : ℕ). puts (2 ∷ 3 ∷ []) ++ (x ++ puts (wide_bytes y))) (sym (mark_bytes m h)) f

-- a statement that becomes the last of a new Block
emits_last : (c : Place) (n : Node) → emits_items true c (only n) ≡ emits_item true c n
unfolding emits_items
emits_last c n = then_nothing (emits_item true c n)

made_in : (ps : Items) (b : Node) → is 2 b ≡ false → is 13 b ≡ false → block_in ps b ≡ block (in_front nameless ps (only b))
unfolding block_in in_body as_block change change_in on_items
made_in ps b h k = rw (h, k) refl

emits_item_in : (c : Place) (ps : Items) (b : Node) → is 2 b ≡ false → is 13 b ≡ false
    → emits c (block_in ps b) ≡ say (block_head (suc (number ps))) ▷ fronts (scoped c) ps ▷ emits_item true (scoped c) b
unfolding count
emits_item_in c ps b h k =
    let e : count (in_front nameless ps (only b)) ≡ suc (number ps) = count_in_front ps (only b) ∙ omega arith in
    ap (emits c) (made_in ps b h k)
    ∙ emits_new_block c (in_front nameless ps (only b))
    ∙ ap₂ (λ (x : ℕ) (y : Emit). say (block_head x) ▷ y) e
    (emits_in_front (scoped c) ps (only b) ∙ ap (λ (x : Emit). fronts (scoped c) ps ▷ x) (emits_last (scoped c) b))

target_in_lem : (p b : Node) → is 2 b ≡ false → is 13 b ≡ false → target_in p b ≡ block (Items.item (assigning p (stand_in p)) (only b))
unfolding target_in as_block change change_in on_items
target_in_lem p b h k = rw (h, k) refl

emits_item_target : (c : Place) (p b : Node) → is 2 b ≡ false → is 13 b ≡ false
    → emits c (target_in p b) ≡ say (block_head 2) ▷ emits_statement (scoped c) (assigning p (stand_in p)) ▷ emits_item true (scoped c) b
unfolding count is
emits_item_target c p b h k =
    ap (emits c) (target_in_lem p b h k)
    ∙ emits_new_block c (Items.item (assigning p (stand_in p)) (only b))
    ∙ ap (λ (y : Emit). say (block_head 2) ▷ y)
    (more_statements (scoped c) (assigning p (stand_in p)) (only b) refl refl
    ∙ ap (λ (x : Emit). emits_statement (scoped c) (assigning p (stand_in p)) ▷ x) (emits_last (scoped c) b))

module _ (t : List ℕ) where
  -- ---- a body that stays a Block: its head with a new count, what is put in front, its statements

  block_does : {g g₁ g₂ g₃ h g' : Going} (c c' : Place) (d e at q k x extra sum : ℕ) (front : Emit) (f : Node → Node)
      → ((at m : ℕ) (ns : Items) → emits c (f (node at 2 (Fields.field (Piece.mark m) (Fields.field (Piece.list ns) Fields.done))))
      ≡ say (puts (2 ∷ 3 ∷ []) ++ (marks m ++ puts (wide_bytes (count ns + extra)))) ▷ front ▷ emits_items true (scoped c) ns)
      → byte_at t at ≡ 2 → q ≡ onward t at 4 → k ≡ wide_at t q → x ≡ onward t q 2 → c' ≡ scoped c → e ≡ d - 1 → extra ≤ 16384 → sum ≡ k + extra → h ≡ g₃
      → Does g g₁ (say (puts (part at q t))) → (sum < 65536 → Does g₁ g₂ (say (puts (wide_bytes sum)))) → Does g₂ g₃ front
      → (GoodItems t (look_node t e) (Good t e) true false k x → Does h g' (emits_items true c' (look_items t (look_node t e) false k x).value))
      → Good t d at → Does g g' (emits c (f (look_node t d at).value))
  block_does c c' zero e at q k x extra sum front f law two qq kk xx cc' ee small ss hh a b o i good = no_good t at good
  block_does {h = h} {g' = g'} c c' (suc d) e at q k x extra sum front f law two qq kk xx cc' ee small ss hh a b o i good =
      let v = block_open t d at good two in
      let m : ℕ = wide_at t (onward t at 2) in
      let l : ℕ = onward t at 4 in
      let e' : e ≡ d = omega arith in
      let k' : k ≡ wide_at t l = kk ∙ ap (λ (y : ℕ). wide_at t y) qq in
      let x' : x ≡ onward t l 2 = xx ∙ ap (λ (y : ℕ). onward t y 2) qq in
      let ns : Items = (look_items t (look_node t d) false (wide_at t l) (onward t l 2)).value in
      let i' : GoodItems t (look_node t d) (Good t d) true false (wide_at t l) (onward t l 2) → Does h g' (emits_items true (scoped c) ns) = rw (e', k', x', cc') at i in
      let w : wide_at t l ≤ 16384 = count_within t d true (wide_at t l) (onward t l 2) v.list.good in
      let n : sum ≡ count ns + extra = let y = v.list.many in omega arith in
      let p : part at q t ≡ 2 ∷ 3 ∷ wide_bytes m = ap (λ (y : ℕ). part at y t) qq ∙ v.head in
      does_as (does_then a (does_then (b (omega arith)) (does_then o (does_from hh (i' v.list.good)))))
      (say_then (puts (part at q t)) (puts (wide_bytes sum)) (front ▷ emits_items true (scoped c) ns)
      ∙ ap (λ (ds : List Deed). say ds ▷ front ▷ emits_items true (scoped c) ns) (head_counted m sum (count ns + extra) (part at q t) p v.marked n)
      ∙ sym (law at m ns)
      ∙ ap (λ (s : Seen Node). emits c (f s.value)) (sym v.whole))

  block_next : (d e at q k x r : ℕ) → byte_at t at ≡ 2 → q ≡ onward t at 4 → k ≡ wide_at t q → x ≡ onward t q 2 → e ≡ d - 1
      → r ≡ (look_items t (look_node t e) false k x).next → Good t d at → r ≡ (look_node t d at).next
  block_next zero e at q k x r two qq kk xx ee rr good = no_good t at good
  block_next (suc d) e at q k x r two qq kk xx ee rr good =
      let v = block_open t d at good two in
      let e' : e ≡ d = omega arith in
      rr ∙ rw (e', xx, kk, qq) refl ∙ ap (λ (s : Seen Node). s.next) (sym v.whole)

  -- ---- any other body becomes a new Block: what is put in front, and the statement itself unless it is an Empty

  item_node : (d at : ℕ) (l : Bool) → GoodItem t (look_node t d) (Good t d) l false at → Good t d at
  unfolding hole_at
  item_node d at l g = g.node refl

  kind_is : (d at k n : ℕ) → Good t d at → Peeked t at n → n ≡ k → is k (look_node t d at).value ≡ true
  kind_is zero at k n good p e = no_good t at good
  kind_is (suc d) at k n good p e = is_here t d at k ∙ eq-eqb (byte_at t at) k (sym p.value ∙ e)

  kind_is_not : (d at k n : ℕ) → Good t d at → Peeked t at n → (n ≡ k → ⊥) → is k (look_node t d at).value ≡ false
  kind_is_not zero at k n good p e = no_good t at good
  kind_is_not (suc d) at k n good p e = is_here t d at k ∙ ne_eqb (byte_at t at) k (λ x. e (p.value ∙ x))

  -- the statement as it is written last
  last_does : {g h g' : Going} (c c' : Place) (d e at x : ℕ) → c' ≡ scoped c → e ≡ d → x ≡ at → h ≡ g
      → (GoodItem t (look_node t e) (Good t e) true false x → Does h g' (item_deeds t (look_node t e) true c' false x))
      → GoodItem t (look_node t d) (Good t d) true false at → Does g g' (emits_item true (scoped c) (look_node t d at).value)
  unfolding item_deeds hole_at
  last_does {h = h} {g' = g'} c c' d e at x cc' ee xx hh f good =
      let f' : GoodItem t (look_node t d) (Good t d) true false at → Does h g' (emits_item true (scoped c) (look_node t d at).value) = rw (ee, xx, cc') at f in
      does_from hh (f' good)

  last_next : (d e at x r : ℕ) → e ≡ d → x ≡ at → r ≡ (look_item t (look_node t e) false x).next → r ≡ (look_node t d at).next
  unfolding look_item
  last_next d e at x r ee xx rr = rr ∙ rw (ee, xx) refl

  -- ---- tbk

  -- the assignment in front
  target_front : {g g' : Going} (c c' : Place) (d e p : ℕ) → c' ≡ scoped c → e ≡ d
      → (Good t e p → has_array_rest_over_object_rest (look_node t e p).value ≡ false → has_object_rest (look_node t e p).value ≡ true
      → Does g g' (emits_statement c' (assigning (look_node t e p).value (temporary [] 1 p))))
      → Good t d p → has_array_rest_over_object_rest (look_node t d p).value ≡ false → has_object_rest (look_node t d p).value ≡ true
      → Does g g' (emits_statement (scoped c) (assigning (look_node t d p).value (stand_in (look_node t d p).value)))
  target_front {g = g} {g' = g'} c c' d e p cc' ee f good na ob =
      let f' : Good t d p → has_array_rest_over_object_rest (look_node t d p).value ≡ false → has_object_rest (look_node t d p).value ≡ true
      → Does g g' (emits_statement (scoped c) (assigning (look_node t d p).value (temporary [] 1 p))) = rw (ee, cc') at f in
      does_as (f' good na ob) (ap (λ (x : ℕ). emits_statement (scoped c) (assigning (look_node t d p).value (temporary [] 1 x))) (sym (position_here t d p)))

  pub target_block : {g g₁ g₂ g₃ h g' : Going} (c c₁ c₂ : Place) (d e₁ e₂ at p n q k s x r : ℕ)
      → Peeked t at n → n ≡ 2 → q ≡ onward t at 4 → Wide t q k → s ≡ onward t q 2 → x ≡ s → c₁ ≡ scoped c → e₁ ≡ d → c₂ ≡ scoped c → e₂ ≡ d - 1 → h ≡ g₃
      → Does g g₁ (say (puts (part at q t))) → (k + 1 < 65536 → Does g₁ g₂ (say (puts (wide_bytes (k + 1)))))
      → (Good t e₁ p → has_array_rest_over_object_rest (look_node t e₁ p).value ≡ false → has_object_rest (look_node t e₁ p).value ≡ true
      → Does g₂ g₃ (emits_statement c₁ (assigning (look_node t e₁ p).value (temporary [] 1 p))))
      → (r ≡ (look_items t (look_node t e₂) false k x).next)
      × (GoodItems t (look_node t e₂) (Good t e₂) true false k x → Does h g' (emits_items true c₂ (look_items t (look_node t e₂) false k x).value))
      → GoodItem t (look_node t d) (Good t d) true false at → Good t d p
      → has_array_rest_over_object_rest (look_node t d p).value ≡ false → has_object_rest (look_node t d p).value ≡ true
      → (r ≡ (look_node t d at).next) × Does g g' (emits c (target_in (look_node t d p).value (look_node t d at).value))
  target_block c c₁ c₂ d e₁ e₂ at p n q k s x r pk two qq wd ss xx cc₁ ee₁ cc₂ ee₂ hh a b f i body good na ob =
      let v : Node = (look_node t d p).value in
      let here : Good t d at = item_node d at true body in
      let z : byte_at t at ≡ 2 = sym pk.value ∙ two in
      let law : (at m : ℕ) (ns : Items) → emits c (target_in v (node at 2 (Fields.field (Piece.mark m) (Fields.field (Piece.list ns) Fields.done))))
      ≡ say (puts (2 ∷ 3 ∷ []) ++ (marks m ++ puts (wide_bytes (count ns + 1)))) ▷ emits_statement (scoped c) (assigning v (stand_in v)) ▷ emits_items true (scoped c) ns =
      λ at m ns. emits_target_block c v at m ns
      ∙ ap (λ (y : ℕ). say (puts (2 ∷ 3 ∷ []) ++ (marks m ++ puts (wide_bytes y))) ▷ emits_statement (scoped c) (assigning v (stand_in v)) ▷ emits_items true (scoped c) ns) (omega arith) in (
        block_next d e₂ at q k x r z qq wd.value (xx ∙ ss) ee₂ i.0 here,
        block_does c c₂ d e₂ at q k x 1 (k + 1) (emits_statement (scoped c) (assigning v (stand_in v))) (λ b. target_in v b) law z qq wd.value (xx ∙ ss) cc₂ ee₂ (omega arith) refl hh
            a b (target_front c c₁ d e₁ p cc₁ ee₁ f good na ob) i.1 here,
      )

  pub target_empty : {g g₁ g₂ g' : Going} (c c₁ : Place) (d e₁ at p n s r : ℕ)
      → Peeked t at n → n ≡ 13 → c₁ ≡ scoped c → e₁ ≡ d → s ≡ (look_node t d at).next → r ≡ s → g' ≡ g₂
      → (1 < 65536 → Does g g₁ (say (block_head 1)))
      → (Good t e₁ p → has_array_rest_over_object_rest (look_node t e₁ p).value ≡ false → has_object_rest (look_node t e₁ p).value ≡ true
      → Does g₁ g₂ (emits_statement c₁ (assigning (look_node t e₁ p).value (temporary [] 1 p))))
      → GoodItem t (look_node t d) (Good t d) true false at → Good t d p
      → has_array_rest_over_object_rest (look_node t d p).value ≡ false → has_object_rest (look_node t d p).value ≡ true
      → (r ≡ (look_node t d at).next) × Does g g' (emits c (target_in (look_node t d p).value (look_node t d at).value))
  target_empty c c₁ d e₁ at p n s r pk z cc₁ ee₁ ss rr hh a f body good na ob =
      let here : Good t d at = item_node d at true body in (
        rr ∙ ss,
        does_to hh
            (does_as (does_then (a (omega arith)) (target_front c c₁ d e₁ p cc₁ ee₁ f good na ob))
            (sym (emits_target_empty c (look_node t d p).value (look_node t d at).value (kind_is d at 13 n here pk z)))),
      )

  pub target_statement : {g g₁ g₂ h g' : Going} (c c₁ c₂ : Place) (d e₁ e₂ at p n x r : ℕ)
      → Peeked t at n → (n ≡ 2 → ⊥) → (n ≡ 13 → ⊥) → c₁ ≡ scoped c → e₁ ≡ d → c₂ ≡ scoped c → e₂ ≡ d → x ≡ at → h ≡ g₂
      → (2 < 65536 → Does g g₁ (say (block_head 2)))
      → (Good t e₁ p → has_array_rest_over_object_rest (look_node t e₁ p).value ≡ false → has_object_rest (look_node t e₁ p).value ≡ true
      → Does g₁ g₂ (emits_statement c₁ (assigning (look_node t e₁ p).value (temporary [] 1 p))))
      → (r ≡ (look_item t (look_node t e₂) false x).next)
      × (GoodItem t (look_node t e₂) (Good t e₂) true false x → Does h g' (item_deeds t (look_node t e₂) true c₂ false x))
      → GoodItem t (look_node t d) (Good t d) true false at → Good t d p
      → has_array_rest_over_object_rest (look_node t d p).value ≡ false → has_object_rest (look_node t d p).value ≡ true
      → (r ≡ (look_node t d at).next) × Does g g' (emits c (target_in (look_node t d p).value (look_node t d at).value))
  target_statement c c₁ c₂ d e₁ e₂ at p n x r pk y z cc₁ ee₁ cc₂ ee₂ xx hh a f i body good na ob =
      let here : Good t d at = item_node d at true body in (
        last_next d e₂ at x r ee₂ xx i.0,
        does_as (does_then (a (omega arith)) (does_then (target_front c c₁ d e₁ p cc₁ ee₁ f good na ob) (last_does c c₂ d e₂ at x cc₂ ee₂ xx hh i.1 body)))
            (sym (emits_item_target c (look_node t d p).value (look_node t d at).value (kind_is_not d at 2 n here pk y) (kind_is_not d at 13 n here pk z))),
      )

  -- ---- blk. The parameters or declarators are n from `first` on, seen with v levels

  -- what is put in front
  moves_front : {g g' : Going} (c c' : Place) (v e first n : ℕ) → c' ≡ scoped c → e ≡ v
      → (c' ≡ scoped c' → GoodItems t (look_node t e) (Good t e) false false n first → AllBind false (look_items t (look_node t e) false n first).value
      → Does g g' (fronts c' (gather (moves_of false) (look_items t (look_node t e) false n first).value)))
      → GoodItems t (look_node t v) (Good t v) false false n first → AllBind false (look_items t (look_node t v) false n first).value
      → Does g g' (fronts (scoped c) (gather moved_from (look_items t (look_node t v) false n first).value))
  moves_front {g = g} {g' = g'} c c' v e first n cc' ee f good all =
      let f' : GoodItems t (look_node t v) (Good t v) false false n first → AllBind false (look_items t (look_node t v) false n first).value
      → Does g g' (fronts c' (gather moved_from (look_items t (look_node t v) false n first).value)) = rw ee at (f (scoped_place c c' cc')) in
      does_as (f' good all) (ap (λ (x : Place). fronts x (gather moved_from (look_items t (look_node t v) false n first).value)) cc')

  pub moves_block : {g g₁ g₂ g₃ h g' : Going} (c c₁ c₂ : Place) (d v u e₁ e₂ at first n more kind q k s x r : ℕ)
      → u ≡ v → more ≡ limited (number (gather moved_from (look_items t (look_node t u) false n first).value))
      → Peeked t at kind → kind ≡ 2 → q ≡ onward t at 4 → Wide t q k → s ≡ onward t q 2 → x ≡ s → c₁ ≡ scoped c → e₁ ≡ u → c₂ ≡ scoped c → e₂ ≡ d - 1 → h ≡ g₃
      → Does g g₁ (say (puts (part at q t))) → (k + more < 65536 → Does g₁ g₂ (say (puts (wide_bytes (k + more)))))
      → (c₁ ≡ scoped c₁ → GoodItems t (look_node t e₁) (Good t e₁) false false n first → AllBind false (look_items t (look_node t e₁) false n first).value
      → Does g₂ g₃ (fronts c₁ (gather (moves_of false) (look_items t (look_node t e₁) false n first).value)))
      → (r ≡ (look_items t (look_node t e₂) false k x).next)
      × (GoodItems t (look_node t e₂) (Good t e₂) true false k x → Does h g' (emits_items true c₂ (look_items t (look_node t e₂) false k x).value))
      → GoodItem t (look_node t d) (Good t d) true false at
      → GoodItems t (look_node t v) (Good t v) false false n first → AllBind false (look_items t (look_node t v) false n first).value
      → (r ≡ (look_node t d at).next) × Does g g' (emits c (block_in (gather moved_from (look_items t (look_node t v) false n first).value) (look_node t d at).value))
  moves_block c c₁ c₂ d v u e₁ e₂ at first n more kind q k s x r uu mm pk two qq wd ss xx cc₁ ee₁ cc₂ ee₂ hh a b f i body good all =
      let ps : Items = gather moved_from (look_items t (look_node t v) false n first).value in
      let here : Good t d at = item_node d at true body in
      let z : byte_at t at ≡ 2 = sym pk.value ∙ two in
      let mm' : more ≡ limited (number ps) = mm ∙ ap (λ (y : ℕ). limited (number (gather moved_from (look_items t (look_node t y) false n first).value))) uu in
      let num : more ≡ number ps = moves_whole t v more false n first mm' good in
      let bound : number ps ≤ 16384 = moves_within t v false n first good in
      let law : (at m : ℕ) (ns : Items) → emits c (block_in ps (node at 2 (Fields.field (Piece.mark m) (Fields.field (Piece.list ns) Fields.done))))
      ≡ say (puts (2 ∷ 3 ∷ []) ++ (marks m ++ puts (wide_bytes (count ns + more)))) ▷ fronts (scoped c) ps ▷ emits_items true (scoped c) ns =
      λ at m ns. emits_block_in c ps at m ns
      ∙ ap (λ (y : ℕ). say (puts (2 ∷ 3 ∷ []) ++ (marks m ++ puts (wide_bytes (count ns + y)))) ▷ fronts (scoped c) ps ▷ emits_items true (scoped c) ns) (sym num) in (
        block_next d e₂ at q k x r z qq wd.value (xx ∙ ss) ee₂ i.0 here,
        block_does c c₂ d e₂ at q k x more (k + more) (fronts (scoped c) ps) (λ b. block_in ps b) law z qq wd.value (xx ∙ ss) cc₂ ee₂ (omega arith) refl hh
            a b (moves_front c c₁ v e₁ first n cc₁ (ee₁ ∙ uu) f good all) i.1 here,
      )

  pub moves_empty : {g g₁ g₂ g' : Going} (c c₁ : Place) (d v u e₁ at first n more kind s r : ℕ)
      → u ≡ v → more ≡ limited (number (gather moved_from (look_items t (look_node t u) false n first).value))
      → Peeked t at kind → kind ≡ 13 → c₁ ≡ scoped c → e₁ ≡ u → s ≡ (look_node t d at).next → r ≡ s → g' ≡ g₂
      → (more < 65536 → Does g g₁ (say (block_head more)))
      → (c₁ ≡ scoped c₁ → GoodItems t (look_node t e₁) (Good t e₁) false false n first → AllBind false (look_items t (look_node t e₁) false n first).value
      → Does g₁ g₂ (fronts c₁ (gather (moves_of false) (look_items t (look_node t e₁) false n first).value)))
      → GoodItem t (look_node t d) (Good t d) true false at
      → GoodItems t (look_node t v) (Good t v) false false n first → AllBind false (look_items t (look_node t v) false n first).value
      → (r ≡ (look_node t d at).next) × Does g g' (emits c (block_in (gather moved_from (look_items t (look_node t v) false n first).value) (look_node t d at).value))
  moves_empty c c₁ d v u e₁ at first n more kind s r uu mm pk z cc₁ ee₁ ss rr hh a f body good all =
      let ps : Items = gather moved_from (look_items t (look_node t v) false n first).value in
      let here : Good t d at = item_node d at true body in
      let mm' : more ≡ limited (number ps) = mm ∙ ap (λ (y : ℕ). limited (number (gather moved_from (look_items t (look_node t y) false n first).value))) uu in
      let num : more ≡ number ps = moves_whole t v more false n first mm' good in
      let bound : number ps ≤ 16384 = moves_within t v false n first good in (
        rr ∙ ss,
        does_to hh
            (does_as (does_then (a (omega arith)) (moves_front c c₁ v e₁ first n cc₁ (ee₁ ∙ uu) f good all))
            (ap (λ (y : ℕ). say (block_head y) ▷ fronts (scoped c) ps) num ∙ sym (emits_empty_in c ps (look_node t d at).value (kind_is d at 13 kind here pk z)))),
      )

  pub moves_statement : {g g₁ g₂ h g' : Going} (c c₁ c₂ : Place) (d v u e₁ e₂ at first n more kind x r : ℕ)
      → u ≡ v → more ≡ limited (number (gather moved_from (look_items t (look_node t u) false n first).value))
      → Peeked t at kind → (kind ≡ 2 → ⊥) → (kind ≡ 13 → ⊥) → c₁ ≡ scoped c → e₁ ≡ u → c₂ ≡ scoped c → e₂ ≡ d → x ≡ at → h ≡ g₂
      → (more + 1 < 65536 → Does g g₁ (say (block_head (more + 1))))
      → (c₁ ≡ scoped c₁ → GoodItems t (look_node t e₁) (Good t e₁) false false n first → AllBind false (look_items t (look_node t e₁) false n first).value
      → Does g₁ g₂ (fronts c₁ (gather (moves_of false) (look_items t (look_node t e₁) false n first).value)))
      → (r ≡ (look_item t (look_node t e₂) false x).next)
      × (GoodItem t (look_node t e₂) (Good t e₂) true false x → Does h g' (item_deeds t (look_node t e₂) true c₂ false x))
      → GoodItem t (look_node t d) (Good t d) true false at
      → GoodItems t (look_node t v) (Good t v) false false n first → AllBind false (look_items t (look_node t v) false n first).value
      → (r ≡ (look_node t d at).next) × Does g g' (emits c (block_in (gather moved_from (look_items t (look_node t v) false n first).value) (look_node t d at).value))
  moves_statement c c₁ c₂ d v u e₁ e₂ at first n more kind x r uu mm pk y z cc₁ ee₁ cc₂ ee₂ xx hh a f i body good all =
      let ps : Items = gather moved_from (look_items t (look_node t v) false n first).value in
      let here : Good t d at = item_node d at true body in
      let mm' : more ≡ limited (number ps) = mm ∙ ap (λ (y : ℕ). limited (number (gather moved_from (look_items t (look_node t y) false n first).value))) uu in
      let num : more ≡ number ps = moves_whole t v more false n first mm' good in
      let bound : number ps ≤ 16384 = moves_within t v false n first good in
      let next : more + 1 ≡ suc (number ps) = omega arith in (
        last_next d e₂ at x r ee₂ xx i.0,
        does_as (does_then (a (omega arith)) (does_then (moves_front c c₁ v e₁ first n cc₁ (ee₁ ∙ uu) f good all) (last_does c c₂ d e₂ at x cc₂ ee₂ xx hh i.1 body)))
            (ap (λ (y : ℕ). say (block_head y) ▷ fronts (scoped c) ps ▷ emits_item true (scoped c) (look_node t d at).value) next
            ∙ sym (emits_item_in c ps (look_node t d at).value (kind_is_not d at 2 kind here pk y) (kind_is_not d at 13 kind here pk z))),
      )

-- ---- bodies are statements, which begin with their marks

first_mark : Fields → ℕ
first_mark Fields.done = 0
first_mark (Fields.absent fs) = 0
first_mark (Fields.field (Piece.one n) fs) = 0
first_mark (Fields.field (Piece.list is) fs) = 0
first_mark (Fields.field (Piece.text bs) fs) = 0
first_mark (Fields.field (Piece.byte b) fs) = 0
first_mark (Fields.field (Piece.mark m) fs) = suc m
first_mark (Fields.field (Piece.number b) fs) = 0

marked_by : (c : Place) (n : Node) (m : ℕ) → 0 < m → start_mark n ≡ m → emits_statement c n ≡ emits (marking c m) n
marked_by c n zero h e = absurd (omega arith)
marked_by c n (suc m) h e = marked_own c n m e

module _ (t : List ℕ) where
  module _ (R : ℕ → Seen Node) (G : ℕ → Type 0) (l : Bool) where
    slot_mark : (s : Sort) (bit q m : ℕ) (fs : Fields) → first_mark ((look_slot t R s bit q).value fs) ≡ suc m → GoodSlot t R G l s bit q → (m ≡ wide_at t q) × (0 < m)
    unfolding first_mark look_slot look_field GoodSlot GoodField
    slot_mark s zero q m fs e g = absurd (omega arith)
    slot_mark (Sort.child p) (suc b) q m fs e g = absurd (omega arith)
    slot_mark (Sort.chosen p p') (suc b) q m fs e g = absurd (omega arith)
    slot_mark (Sort.many p) (suc b) q m fs e g = absurd (omega arith)
    slot_mark (Sort.gaps p) (suc b) q m fs e g = absurd (omega arith)
    slot_mark Sort.text (suc b) q m fs e g = absurd (omega arith)
    slot_mark (Sort.byte x y) (suc b) q m fs e g = absurd (omega arith)
    slot_mark Sort.mark (suc b) q m fs e g = let h : 0 < wide_at t q = g.positive (wide_at t q) refl in (omega arith, omega arith)
    slot_mark Sort.number (suc b) q m fs e g = absurd (omega arith)

    fields_mark : (ts : List Field) (map q m : ℕ) → first_mark (look_fields t R ts map q).value ≡ suc m → GoodFields t R G l ts map q → (m ≡ wide_at t q) × (0 < m)
    unfolding first_mark look_fields GoodFields
    fields_mark [] map q m e g = absurd (omega arith)
    fields_mark (f ∷ fs) map q m e g = slot_mark (sort_in f) (map % 2) q m _ e g.0

  good_mark : (d at m : ℕ) (more : Fields) (k : ℕ) → Good t (suc d) at → (look_node t (suc d) at).value ≡ node at k (Fields.field (Piece.mark m) more) → (m ≡ wide_at t (onward t at 2)) × (0 < m)
  unfolding Good look_node first_mark
  good_mark d at m more k good e =
      fields_mark (λ q. look_node t d q) (λ q. Good t d q) (is_container (byte_at t at)) (fields_of (byte_at t at)) (byte_at t (onward t at 1)) (onward t at 2) m
      (ap (λ (n : Node). first_mark (fields_from n)) e) good.below
    where
      fields_from : Node → Fields
      fields_from (node x y fs) = fs

  -- a statement as an item of a container
  item_begins : (d at m : ℕ) (more : Fields) (k : ℕ) → Good t d at → (look_node t d at).value ≡ node at k (Fields.field (Piece.mark m) more)
      → is 24 (look_node t d at).value ≡ false → is 27 (look_node t d at).value ≡ false → GoodItem t (look_node t d) (Good t d) true false at
  unfolding hole_at start_mark piece_in
  item_begins zero at m more k good e a b = no_good t at good
  item_begins (suc d) at m more k good e a b =
      let v : Node = (look_node t (suc d) at).value in
      let w = good_mark d at m more k good e in
      let s : start_mark v ≡ wide_at t (onward t at 2) = ap start_mark e ∙ w.0 in
      let pos : 0 < wide_at t (onward t at 2) = omega (arith, w.0, w.1) in
      record {
        hole = λ z. absurd (false≢true z);
        node = λ z. good;
        begins = λ z u c. emits_statement_lem c v a b ∙ marked_by c v (wide_at t (onward t at 2)) pos s;
      }

  pub statement_item : (d at : ℕ) → Good t d at → Fits input 1 (look_node t d at).value → GoodItem t (look_node t d) (Good t d) true false at
  unfolding look_node
  statement_item zero at good f = no_good t at good
  statement_item (suc d) at good f =
      let s = statement_fits f in
      item_begins (suc d) at s.mark s.more (byte_at t at) good (ap (λ (fs : Fields). node at (byte_at t at) fs) s.fields) (statement_24 (look_node t (suc d) at).value f) (statement_27 (look_node t (suc d) at).value f)

  pub block_item : (d at : ℕ) → Good t d at → is 2 (look_node t d at).value ≡ true → GoodItem t (look_node t d) (Good t d) true false at
  block_item zero at good f = no_good t at good
  block_item (suc d) at good f =
      let two : byte_at t at ≡ 2 = eqb-true (byte_at t at) 2 (sym (is_here t d at 2) ∙ f) in
      let v = block_open t d at good two in
      item_begins (suc d) at (wide_at t (onward t at 2)) _ 2 good (ap (λ (s : Seen Node). s.value) v.whole) (is_here t d at 24 ∙ rw two refl) (is_here t d at 27 ∙ rw two refl)

  -- ---- for-in and for-of loops alike

  abbrev right_at : ℕ → ℕ → ℕ
  right_at d at = (look_node t d (onward t at 4)).next

  abbrev body_at : ℕ → ℕ → ℕ
  body_at d at = (look_node t d (right_at d at)).next

  abbrev await_at : ℕ → ℕ → ℕ
  await_at d at = (look_node t d (body_at d at)).next

  record LoopSeen (d at : ℕ) : Type 0 where
    sort : ℕ
    loop : Loop sort
    seen : LoopOpen t d at sort (awaits t at)
    body : Fits input 1 (look_node t d (body_at d at)).value

  body_fits_lem : {m m' : ℕ} {l l' r r' b b' : Node} {more more' : Fields} → for_fields m l r b more ≡ for_fields m' l' r' b' more' → Fits input 1 b' → Fits input 1 b
  unfolding node_at_of piece_in
  body_fits_lem {b = b} {b' = b'} e f = let x : b ≡ b' = ap (λ (fs : Fields). node_at_of 3 (node 0 0 fs)) e in subst (λ (n : Node). Fits input 1 n) (sym x) f

  loop_seen : (d at : ℕ) → Good t (suc d) at → eqb (byte_at t at) 7 || eqb (byte_at t at) 8 ≡ true → LoopSeen d at
  unfolding awaits
  loop_seen d at good h =
      let p = good_fits t (suc d) at good in
      by_test (eqb (byte_at t at) 7)
      (λ e.
      let k : byte_at t at ≡ 7 = eqb-true (byte_at t at) 7 e in
      let o : LoopOpen t d at 7 false = for_in_open t d at good k in
      let a : false ≡ awaits t at = rw k refl in
      let f = for_in_fits (subst (λ (n : Node). Fits input p.0 n) o.whole p.1) in
      record { sort = 7; loop = Loop.for_in; seen = subst (λ (x : Bool). LoopOpen t d at 7 x) a o; body = body_fits_lem f.fields f.body_fits })
      (λ e.
      let k : byte_at t at ≡ 8 = eqb-true (byte_at t at) 8 (or_other (eqb (byte_at t at) 7) (eqb (byte_at t at) 8) e h) in
      let o : LoopOpen t d at 8 (eqb (byte_at t (onward t at 1) / 16) 1) = for_of_open t d at good k in
      let a : eqb (byte_at t (onward t at 1) / 16) 1 ≡ awaits t at = rw k refl in
      let f = for_of_fits (subst (λ (n : Node). Fits input p.0 n) o.whole p.1) in
      record { sort = 8; loop = Loop.for_of; seen = subst (λ (x : Bool). LoopOpen t d at 8 x) a o; body = body_fits_lem f.fields f.body_fits })

  -- what stands behind the body
  quiet : (c : Place) (b : Bool) (more : Fields) → more ≡ cond b (Fields.absent Fields.done) Fields.done → emits_fields false c more ≡ say []
  quiet c true more h = ap (λ (x : Fields). emits_fields false c x) h ∙ awaits_not false c
  quiet c false more h = ap (λ (x : Fields). emits_fields false c x) h ∙ no_more false c

  behind_body : (c : Place) (d at : ℕ) (s : LoopSeen d at) → say (puts (cond (awaits t at) (part (await_at d at) (onward t (await_at d at) 1) t) [])) ≡ emits_fields false c s.seen.more
  behind_body c d at s =
      by_test (awaits t at)
      (λ e.
      ap (λ (b : Bool). say (puts (cond b (part (await_at d at) (onward t (await_at d at) 1) t) []))) e
      ∙ ap (λ (bs : List ℕ). say (puts bs)) (s.seen.flag e)
      ∙ sym (rules.awaits false c (byte_at t (await_at d at)))
      ∙ ap (λ (fs : Fields). emits_fields false c fs) (sym (s.seen.awaits e)))
      (λ e.
      ap (λ (b : Bool). say (puts (cond b (part (await_at d at) (onward t (await_at d at) 1) t) []))) e
      ∙ sym (quiet c (eqb s.sort 8) s.seen.more (s.seen.plain e)))

  abbrev loop_fields : (d at : ℕ) → Fields → Fields
  loop_fields d at more = for_fields (wide_at t (onward t at 2)) (look_node t d (onward t at 4)).value (look_node t d (right_at d at)).value (look_node t d (body_at d at)).value more

  loop_head_lem : (d at : ℕ) (s : LoopSeen d at)
      → puts (part at (onward t at 4) t) ≡ puts (s.sort ∷ map_of (loop_fields d at s.seen.more) ∷ []) ++ marks (wide_at t (onward t at 2))
  loop_head_lem d at s =
      let m : ℕ = wide_at t (onward t at 2) in
      ap (λ (bs : List ℕ). puts bs) s.seen.head
      ∙ ap₂ (λ (x : ℕ) (ds : List Deed). puts (s.sort ∷ x ∷ []) ++ ds) s.seen.map (sym (mark_bytes m s.seen.marked))

  -- ---- dhd

  -- the head of the declaration, up to its declarators
  declaration_bytes : (d q : ℕ) → Good t (suc d) q → byte_at t q ≡ 4
      → puts (part q (onward t (onward t q 5) 2) t)
      ≡ puts (4 ∷ 7 ∷ []) ++ (marks (wide_at t (onward t q 2)) ++ puts (byte_at t (onward t q 4) ∷ wide_bytes (count (look_items t (look_node t d) false (wide_at t (onward t q 5)) (onward t (onward t q 5) 2)).value)))
  declaration_bytes d q good four =
      let o = declaration_open t d q good four in
      let m : ℕ = wide_at t (onward t q 2) in
      let sort : ℕ = byte_at t (onward t q 4) in
      let s : ℕ = onward t q 5 in
      let n : ℕ = wide_at t s in
      let inside : q ≤ length t = omega (arith, good_room t (suc d) q good) in
      ap (λ (bs : List ℕ). puts bs)
      (part_join q s (onward t s 2) t (on_more t q 5 inside) (on_more t s 2 (on_within t q 5))
      ∙ ap₂ (λ (x y : List ℕ). x ++ y) o.head o.list.head)
      ∙ ap₂ (λ (ds : List Deed) (x : ℕ). puts (4 ∷ 7 ∷ []) ++ (ds ++ puts (sort ∷ wide_bytes x))) (sym (mark_bytes m o.marked)) (sym o.list.many)

  -- the places of the declarators
  abbrev declarators_at : ℕ → ℕ
  declarators_at at = onward t (onward t at 4) 5

  abbrev declarators : ℕ → ℕ → Seen Items
  declarators d at = look_items t (look_node t d) false (wide_at t (declarators_at at)) (onward t (declarators_at at) 2)

  module _ (c : Place) (d at : ℕ) (good : Good t (suc (suc d)) at) (v : LoopSeen (suc d) at) (four : byte_at t (onward t at 4) ≡ 4) where
    abbrev qs : Items
    qs = (declarators d at).value

    abbrev right : Node
    right = (look_node t (suc d) (right_at (suc d) at)).value

    abbrev under : Node
    under = (look_node t (suc d) (body_at (suc d) at)).value

    abbrev mark_at : ℕ
    mark_at = wide_at t (onward t (onward t at 4) 2)

    abbrev sort_at : ℕ
    sort_at = byte_at t (onward t (onward t at 4) 4)

    declaration_is : (look_node t (suc d) (onward t at 4)).value ≡ node (onward t at 4) 4 (declaration_fields mark_at sort_at qs)
    declaration_is = ap (λ (z : Seen Node). z.value) (declaration_open t d (onward t at 4) v.seen.left four).whole

    declaring_is : (look_node t (suc (suc d)) at).value ≡ node at v.sort (for_fields (wide_at t (onward t at 2)) (node (onward t at 4) 4 (declaration_fields mark_at sort_at qs)) right under v.seen.more)
    declaring_is = v.seen.whole ∙ ap (λ (z : Node). node at v.sort (for_fields (wide_at t (onward t at 2)) z right under v.seen.more)) declaration_is

    abbrev loop_head : List Deed
    loop_head = puts (v.sort ∷ map_of (for_fields (wide_at t (onward t at 2)) (node (onward t at 4) 4 (declaration_fields mark_at sort_at qs)) right under v.seen.more) ∷ []) ++ marks (wide_at t (onward t at 2))

    abbrev declaration_head_at : List Deed
    declaration_head_at = puts (4 ∷ 7 ∷ []) ++ (marks mark_at ++ puts (sort_at ∷ wide_bytes (count qs)))

    declaring_bytes : puts (part at (onward t (declarators_at at) 2) t) ≡ loop_head ++ declaration_head_at
    declaring_bytes =
        let q : ℕ = onward t at 4 in
        let r : ℕ = onward t q 5 in
        let F : ℕ = onward t r 2 in
        let inside : at ≤ length t = omega (arith, good_room t (suc (suc d)) at good) in
        let back : q ≤ F = let y = on_more t q 5 (on_within t at 4) in let z = on_more t r 2 (on_within t q 5) in omega arith in
        ap (λ (bs : List ℕ). puts bs) (part_join at q F t (on_more t at 4 inside) back) ∙ puts_append (part at q t) (part q F t)
        ∙ ap₂ (λ (x y : List Deed). x ++ y)
        (loop_head_lem (suc d) at v
        ∙ ap (λ (z : Node). puts (v.sort ∷ map_of (for_fields (wide_at t (onward t at 2)) z right under v.seen.more) ∷ []) ++ marks (wide_at t (onward t at 2))) declaration_is)
        (declaration_bytes d q v.seen.left four)

    declaring_law : any is_moved (items_at_of 2 (node_at_of 1 (look_node t (suc (suc d)) at).value)) ≡ true
        → say (makes (gather moved_from qs)) ▷ say (puts (part at (onward t (declarators_at at) 2) t)) ▷ turns_of modes.Binding (scoped c) qs ▷ emits (scoped c) right
        ▷ emits (scoped c) (block_in (gather moved_from qs) under) ▷ say (puts (cond (awaits t at) (part (await_at (suc d) at) (onward t (await_at (suc d) at) 1) t) []))
        ≡ emits c (look_node t (suc (suc d)) at).value
    unfolding node_at_of items_at_of piece_in
    declaring_law moved =
        let ps : Items = gather moved_from qs in
        let solid = look_solid t (look_node t d) (wide_at t (declarators_at at)) (onward t (declarators_at at) 2) in
        let is : any is_moved qs ≡ true = ap (λ (z : Node). any is_moved (items_at_of 2 (node_at_of 1 z))) (sym declaring_is) ∙ moved in
        let tail : Emit = emits_items false (scoped c) (each behind qs) ▷ emits (scoped c) right ▷ emits (scoped c) (block_in ps under) ▷ emits_fields false (scoped c) v.seen.more in
        ap₂ (λ (x y : Emit). say (makes ps) ▷ say (puts (part at (onward t (declarators_at at) 2) t)) ▷ x ▷ emits (scoped c) right ▷ emits (scoped c) (block_in ps under) ▷ y)
        (turns_binding (scoped c) qs solid) (behind_body (scoped c) (suc d) at v)
        ∙ ap (λ (ds : List Deed). say (makes ps) ▷ say ds ▷ tail) declaring_bytes
        ∙ ap (λ (x : Emit). say (makes ps) ▷ x) (sym (say_then loop_head declaration_head_at tail))
        ∙ sym (emits_declaring_head c at v.loop (wide_at t (onward t at 2)) (onward t at 4) mark_at sort_at qs right under v.seen.more solid is)
        ∙ ap (λ (z : Node). emits c z) (sym declaring_is)

  -- there are levels for the parts of a loop, and of what it declares
  one_level : (d at : ℕ) → Good t d at → (k : ℕ) × (d ≡ suc k)
  one_level zero at good = no_good t at good
  one_level (suc d) at good = (d, refl)

  pub declaring_does : {g g₁ g₂ g₃ g₄ g₅ g' : Going} (c c₁ c₂ c₃ : Place) (d e u e₁ e₂ e₃ at a s n first x₀ x₁ x₂ x₃ x₄ : ℕ)
      → e ≡ d - 1 → u ≡ e - 1 → a ≡ onward t at 4 → s ≡ onward t a 5 → Wide t s n → first ≡ onward t s 2
      → c₁ ≡ scoped c → e₁ ≡ u → c₂ ≡ scoped c → e₂ ≡ e → c₃ ≡ scoped c → e₃ ≡ e → x₀ ≡ at → x₁ ≡ first
      → (GoodItems t (look_node t u) (Good t u) false false n first → AllSuit modes.Binding (look_items t (look_node t u) false n first).value
      → Does g g₁ (say (makes (gather moved_from (look_items t (look_node t u) false n first).value))))
      → Does g₁ g₂ (say (puts (part x₀ first t)))
      → (GoodItems t (look_node t e₁) (Good t e₁) false false n x₁ → AllSuit modes.Binding (look_items t (look_node t e₁) false n x₁).value
      → (x₂ ≡ (look_items t (look_node t e₁) false n x₁).next) × Does g₂ g₃ (turns_of modes.Binding c₁ (look_items t (look_node t e₁) false n x₁).value))
      → (x₃ ≡ (look_node t e₂ x₂).next) × (Good t e₂ x₂ → Does g₃ g₄ (emits c₂ (look_node t e₂ x₂).value))
      → (GoodItem t (look_node t e₃) (Good t e₃) true false x₃ → GoodItems t (look_node t (e₃ - 1)) (Good t (e₃ - 1)) false false n first
      → AllBind false (look_items t (look_node t (e₃ - 1)) false n first).value
      → (x₄ ≡ (look_node t e₃ x₃).next) × Does g₄ g₅ (emits c₃ (block_in (gather moved_from (look_items t (look_node t (e₃ - 1)) false n first).value) (look_node t e₃ x₃).value)))
      → Does g₅ g' (say (puts (cond (awaits t at) (part x₄ (onward t x₄ 1) t) [])))
      → eqb (byte_at t at) 7 || eqb (byte_at t at) 8 ≡ true → byte_at t (onward t at 4) ≡ 4 → any is_moved (items_at_of 2 (node_at_of 1 (look_node t d at).value)) ≡ true
      → Good t d at → Does g g' (emits c (look_node t d at).value)
  declaring_does {g = g} {g₁ = g₁} {g₂ = g₂} {g₃ = g₃} {g₄ = g₄} {g₅ = g₅} {g' = g'} c c₁ c₂ c₃ d₀ e u e₁ e₂ e₃ at a s n first x₀ x₁ x₂ x₃ x₄ ee uu aa ss wd ff cc₁ ee₁ cc₂ ee₂ cc₃ ee₃ xx₀ xx₁ mk cp sq nd bk aw loop four moved good =
      let up = one_level d₀ at good in
      let good₁ : Good t (suc up.0) at = subst (λ (z : ℕ). Good t z at) up.1 good in
      let below = one_level up.0 (onward t at 4) (loop_seen up.0 at good₁ loop).seen.left in
      let d : ℕ = below.0 in
      let levels : d₀ ≡ suc (suc d) = up.1 ∙ ap suc below.1 in
      let good' : Good t (suc (suc d)) at = subst (λ (z : ℕ). Good t z at) levels good in
      let moved' : any is_moved (items_at_of 2 (node_at_of 1 (look_node t (suc (suc d)) at).value)) ≡ true = subst (λ (z : ℕ). any is_moved (items_at_of 2 (node_at_of 1 (look_node t z at).value)) ≡ true) levels moved in
      let v : LoopSeen (suc d) at = loop_seen (suc d) at good' loop in
      let q : ℕ = onward t at 4 in
      let o = declaration_open t d q v.seen.left four in
      let N : ℕ = wide_at t (declarators_at at) in
      let F : ℕ = onward t (declarators_at at) 2 in
      let ns : Items = (declarators d at).value in
      let e' : e ≡ suc d = omega arith in
      let u' : u ≡ d = omega arith in
      let s' : s ≡ declarators_at at = ss ∙ ap (λ (z : ℕ). onward t z 5) aa in
      let n' : n ≡ N = wd.value ∙ ap (λ (z : ℕ). wide_at t z) s' in
      let f' : first ≡ F = ff ∙ ap (λ (z : ℕ). onward t z 2) s' in
      let suit : AllSuit modes.Binding ns = suit_binding_declarators ns o.declarators in
      let gi : GoodItems t (look_node t d) (Good t d) false false N F = o.list.good in
      let mk' : GoodItems t (look_node t d) (Good t d) false false N F → AllSuit modes.Binding ns → Does g g₁ (say (makes (gather moved_from ns))) = rw (u', n', f') at mk in
      let cp' : Does g₁ g₂ (say (puts (part at F t))) = rw (xx₀, f') at cp in
      let sq' : GoodItems t (look_node t d) (Good t d) false false N F → AllSuit modes.Binding ns
      → (x₂ ≡ (look_items t (look_node t d) false N F).next) × Does g₂ g₃ (turns_of modes.Binding (scoped c) ns) = rw (ee₁, u', n', xx₁, f', cc₁) at sq in
      let two = sq' gi suit in
      let x₂' : x₂ ≡ right_at (suc d) at = two.0 ∙ ap (λ (z : Seen Node). z.next) (sym o.whole) in
      let nd' : (x₃ ≡ body_at (suc d) at) × (Good t (suc d) (right_at (suc d) at) → Does g₃ g₄ (emits (scoped c) (look_node t (suc d) (right_at (suc d) at)).value)) = rw (ee₂, e', cc₂, x₂') at nd in
      let x₃' : x₃ ≡ body_at (suc d) at = nd'.0 in
      let e₃' : e₃ ≡ suc d = ee₃ ∙ e' in
      let l' : suc d - 1 ≡ d = omega arith in
      let bk' : GoodItem t (look_node t (suc d)) (Good t (suc d)) true false (body_at (suc d) at) → GoodItems t (look_node t d) (Good t d) false false N F → AllBind false ns
      → (x₄ ≡ await_at (suc d) at) × Does g₄ g₅ (emits (scoped c) (block_in (gather moved_from ns) (look_node t (suc d) (body_at (suc d) at)).value)) = rw (e₃', l', x₃', n', f', cc₃) at bk in
      let five = bk' (statement_item (suc d) (body_at (suc d) at) v.seen.body v.body) gi (λ z. suit) in
      let aw' : Does g₅ g' (say (puts (cond (awaits t at) (part (await_at (suc d) at) (onward t (await_at (suc d) at) 1) t) []))) = rw five.0 at aw in
      subst (λ (z : ℕ). Does g g' (emits c (look_node t z at).value)) (sym levels)
      (does_as (does_then (mk' gi suit) (does_then cp' (does_then two.1 (does_then (nd'.1 v.seen.right) (does_then five.1 aw'))))) (declaring_law c d at good' v four moved'))

  -- ---- thd

  module _ (c : Place) (d at : ℕ) (good : Good t (suc d) at) (v : LoopSeen d at) where
    abbrev target : Node
    target = (look_node t d (onward t at 4)).value

    target_is : node_at_of 1 (look_node t (suc d) at).value ≡ target
    unfolding node_at_of piece_in
    target_is = ap (λ (z : Node). node_at_of 1 z) v.seen.whole

    target_four : (byte_at t (onward t at 4) ≡ 4 → ⊥) → is 4 target ≡ false
    target_four h =
        let z = one_level d (onward t at 4) v.seen.left in
        rw z.1 (is_here t z.0 (onward t at 4) 4 ∙ ne_eqb (byte_at t (onward t at 4)) 4 h)

    -- `var` and the temporary
    var_bytes_lem : say (declaration_head 1 1) ▷ say (puts (5 ∷ 1 ∷ [])) ▷ say (does (Event.temporary (onward t at 4) 1) ∷ []) ≡ say ((new_declaration 1 ++ puts (5 ∷ 1 ∷ [])) ++ stand (position target))
    var_bytes_lem =
        ap (λ (x : ℕ). say (declaration_head 1 1) ▷ say (puts (5 ∷ 1 ∷ [])) ▷ say (does (Event.temporary x 1) ∷ [])) (sym (cell_1 (onward t at 4)))
        ∙ ap (λ (x : ℕ). say (declaration_head 1 1) ▷ say (puts (5 ∷ 1 ∷ [])) ▷ say (stand x)) (sym (position_here t d (onward t at 4)))
        ∙ say_then (new_declaration 1) (puts (5 ∷ 1 ∷ [])) (say (stand (position target)))
        ∙ say_say (new_declaration 1 ++ puts (5 ∷ 1 ∷ [])) (stand (position target))

    assigning_law : (byte_at t (onward t at 4) ≡ 4 → ⊥) → has_array_rest_over_object_rest target ≡ false → has_object_rest target ≡ true
        → say (does (Event.make (onward t at 4)) ∷ []) ▷ say (puts (part at (onward t at 4) t))
        ▷ (say (declaration_head 1 1) ▷ say (puts (5 ∷ 1 ∷ [])) ▷ say (does (Event.temporary (onward t at 4) 1) ∷ []))
        ▷ emits (scoped c) (look_node t d (right_at d at)).value ▷ emits (scoped c) (target_in target (look_node t d (body_at d at)).value)
        ▷ say (puts (cond (awaits t at) (part (await_at d at) (onward t (await_at d at) 1) t) []))
        ≡ emits c (look_node t (suc d) at).value
    assigning_law four na ob =
        let m : ℕ = wide_at t (onward t at 2) in
        let right : Emit = emits (scoped c) (look_node t d (right_at d at)).value in
        let b : Node = (look_node t d (body_at d at)).value in
        let made : ℕ → Emit = λ x. say (does (Event.make x) ∷ []) in
        ap₂ (λ (x y : Emit). made (onward t at 4) ▷ say (puts (part at (onward t at 4) t)) ▷ x ▷ right ▷ emits (scoped c) (target_in target b) ▷ y) var_bytes_lem (behind_body (scoped c) d at v)
        ∙ ap₂ (λ (x : ℕ) (ds : List Deed). made x ▷ say ds ▷ say ((new_declaration 1 ++ puts (5 ∷ 1 ∷ [])) ++ stand (position target)) ▷ right ▷ emits (scoped c) (target_in target b) ▷ emits_fields false (scoped c) v.seen.more)
        (sym (ap (λ (x : ℕ). cell 1 x) (position_here t d (onward t at 4)) ∙ cell_1 (onward t at 4))) (loop_head_lem d at v)
        ∙ sym (emits_assigning_head c at v.loop m target (look_node t d (right_at d at)).value b v.seen.more (target_four four) na ob)
        ∙ ap (λ (z : Node). emits c z) (sym v.seen.whole)

  pub assigning_does : {g g₁ g₂ g₃ g₄ g₅ h g₆ g₇ g' : Going} (c c' : Place) (d e e' at q s x₀ x₁ x₂ x₃ : ℕ)
      → e ≡ d - 1 → q ≡ onward t at 4 → c' ≡ scoped c → e' ≡ e → x₀ ≡ at → s ≡ (look_node t e q).next → x₁ ≡ s → h ≡ g₅
      → Does g g₁ (say (does (Event.make q) ∷ [])) → Does g₁ g₂ (say (puts (part x₀ q t))) → (1 < 65536 → Does g₂ g₃ (say (declaration_head 1 1)))
      → Does g₃ g₄ (say (puts (5 ∷ 1 ∷ []))) → Does g₄ g₅ (say (does (Event.temporary q 1) ∷ []))
      → (x₂ ≡ (look_node t e' x₁).next) × (Good t e' x₁ → Does h g₆ (emits c' (look_node t e' x₁).value))
      → (GoodItem t (look_node t e') (Good t e') true false x₂ → Good t e' q → has_array_rest_over_object_rest (look_node t e' q).value ≡ false → has_object_rest (look_node t e' q).value ≡ true
      → (x₃ ≡ (look_node t e' x₂).next) × Does g₆ g₇ (emits c' (target_in (look_node t e' q).value (look_node t e' x₂).value)))
      → Does g₇ g' (say (puts (cond (awaits t at) (part x₃ (onward t x₃ 1) t) [])))
      → eqb (byte_at t at) 7 || eqb (byte_at t at) 8 ≡ true → (byte_at t (onward t at 4) ≡ 4 → ⊥)
      → has_array_rest_over_object_rest (node_at_of 1 (look_node t d at).value) ≡ false → has_object_rest (node_at_of 1 (look_node t d at).value) ≡ true
      → Good t d at → Does g g' (emits c (look_node t d at).value)
  assigning_does {g = g} {g₁ = g₁} {g₂ = g₂} {g₅ = g₅} {h = h} {g₆ = g₆} {g₇ = g₇} {g' = g'} c c' d₀ e e' at q s x₀ x₁ x₂ x₃ ee qq cc' ee' xx₀ ss xx₁ hh mk cp dc pt tm nd tb aw loop four na ob good =
      let up = one_level d₀ at good in
      let d : ℕ = up.0 in
      let good' : Good t (suc d) at = subst (λ (z : ℕ). Good t z at) up.1 good in
      let v : LoopSeen d at = loop_seen d at good' loop in
      let l : ℕ = onward t at 4 in
      let e'' : e ≡ d = let z = up.1 in omega arith in
      let na' : has_array_rest_over_object_rest (look_node t d l).value ≡ false = ap (λ (z : Node). has_array_rest_over_object_rest z) (sym (target_is c d at good' v)) ∙ ap (λ (z : ℕ). has_array_rest_over_object_rest (node_at_of 1 (look_node t z at).value)) (sym up.1) ∙ na in
      let ob' : has_object_rest (look_node t d l).value ≡ true = ap (λ (z : Node). has_object_rest z) (sym (target_is c d at good' v)) ∙ ap (λ (z : ℕ). has_object_rest (node_at_of 1 (look_node t z at).value)) (sym up.1) ∙ ob in
      let mk' : Does g g₁ (say (does (Event.make l) ∷ [])) = rw qq at mk in
      let cp' : Does g₁ g₂ (say (puts (part at l t))) = rw (xx₀, qq) at cp in
      let tm' : Does _ g₅ (say (does (Event.temporary l 1) ∷ [])) = rw qq at tm in
      let x₁' : x₁ ≡ right_at d at = xx₁ ∙ ss ∙ ap₂ (λ (y z : ℕ). (look_node t y z).next) e'' qq in
      let nd' : (x₂ ≡ body_at d at) × (Good t d (right_at d at) → Does h g₆ (emits (scoped c) (look_node t d (right_at d at)).value)) = rw (ee', e'', cc', x₁') at nd in
      let tb' : GoodItem t (look_node t d) (Good t d) true false (body_at d at) → Good t d l → has_array_rest_over_object_rest (look_node t d l).value ≡ false → has_object_rest (look_node t d l).value ≡ true
      → (x₃ ≡ await_at d at) × Does g₆ g₇ (emits (scoped c) (target_in (look_node t d l).value (look_node t d (body_at d at)).value)) = rw (ee', e'', cc', qq, nd'.0) at tb in
      let last = tb' (statement_item d (body_at d at) v.seen.body v.body) v.seen.left na' ob' in
      let aw' : Does g₇ g' (say (puts (cond (awaits t at) (part (await_at d at) (onward t (await_at d at) 1) t) []))) = rw last.0 at aw in
      subst (λ (z : ℕ). Does g g' (emits c (look_node t z at).value)) (sym up.1)
      (does_as (does_then mk' (does_then cp' (does_then (does_then (dc (omega arith)) (does_then pt tm')) (does_then (does_from hh (nd'.1 v.seen.right)) (does_then last.1 aw')))))
      (assigning_law c d at good' v four na' ob'))

  -- ---- head

  loop_rule : (d at : ℕ) → LoopSeen d at → rule_of (kind (look_node t (suc d) at).value) ≡ fors
  loop_rule d at v = ap (λ (z : Node). rule_of (kind z)) v.seen.whole ∙ rule-of v.loop

  module _ (c : Place) (at : ℕ) (loop : eqb (byte_at t at) 7 || eqb (byte_at t at) 8 ≡ true) where
    declaring_stays_at : (d : ℕ) → Good t d at → byte_at t (onward t at 4) ≡ 4 → any is_moved (items_at_of 2 (node_at_of 1 (look_node t d at).value)) ≡ false
        → emits c (look_node t d at).value ≡ stays c (look_node t d at).value
    declaring_stays_at zero good four none = no_good t at good
    declaring_stays_at (suc d) good four none =
        let v : LoopSeen d at = loop_seen d at good loop in
        let z = one_level d (onward t at 4) v.seen.left in
        let is4 : is 4 (look_node t d (onward t at 4)).value ≡ true = rw z.1 (is_here t z.0 (onward t at 4) 4 ∙ eq-eqb (byte_at t (onward t at 4)) 4 four) in
        emits_unchanged c (look_node t (suc d) at).value (declaring_kept (context_of c) (look_node t (suc d) at).value (loop_rule d at v) (ap (λ (n : Node). is 4 n) (target_is c d at good v) ∙ is4) none)

    assigning_stays_at : (d : ℕ) → Good t d at → (byte_at t (onward t at 4) ≡ 4 → ⊥) → has_object_rest (node_at_of 1 (look_node t d at).value) ≡ false
        → emits c (look_node t d at).value ≡ stays c (look_node t d at).value
    assigning_stays_at zero good four none = no_good t at good
    assigning_stays_at (suc d) good four none =
        let v : LoopSeen d at = loop_seen d at good loop in
        emits_unchanged c (look_node t (suc d) at).value
        (assigning_kept (context_of c) (look_node t (suc d) at).value (loop_rule d at v) (ap (λ (n : Node). is 4 n) (target_is c d at good v) ∙ target_four c d at good v four) none)

    refused_at : (d : ℕ) → Good t d at → (byte_at t (onward t at 4) ≡ 4 → ⊥) → has_array_rest_over_object_rest (node_at_of 1 (look_node t d at).value) ≡ true
        → emits c (look_node t d at).value ≡ say (refuses 5 ∷ puts (0 ∷ 0 ∷ []))
    refused_at zero good four h = no_good t at good
    refused_at (suc d) good four h =
        let v : LoopSeen d at = loop_seen d at good loop in
        ap (λ (n : Node). emits c n) v.seen.whole
        ∙ emits_refused_head c at v.loop (wide_at t (onward t at 2)) (look_node t d (onward t at 4)).value (look_node t d (right_at d at)).value (look_node t d (body_at d at)).value v.seen.more
        (target_four c d at good v four) (ap (λ (n : Node). has_array_rest_over_object_rest n) (sym (target_is c d at good v)) ∙ h)

  module _ (c : Place) (d e at q k : ℕ) (ee : e ≡ d - 1) (qq : q ≡ onward t at 4) (pk : Peeked t q k) (loop : eqb (byte_at t at) 7 || eqb (byte_at t at) 8 ≡ true) where
    -- the left part as the code reads it
    left_part : Good t d at → (look_node t e q).value ≡ node_at_of 1 (look_node t d at).value
    left_part good =
        let up = one_level d at good in
        let good' : Good t (suc up.0) at = subst (λ (z : ℕ). Good t z at) up.1 good in
        let e' : e ≡ up.0 = let z = up.1 in omega arith in
        ap₂ (λ (y z : ℕ). (look_node t y z).value) e' qq
        ∙ sym (target_is c up.0 at good' (loop_seen up.0 at good' loop))
        ∙ ap (λ (z : ℕ). node_at_of 1 (look_node t z at).value) (sym up.1)

    left_kind : k ≡ byte_at t (onward t at 4)
    left_kind = pk.value ∙ ap (λ (z : ℕ). byte_at t z) qq

    -- it declares
    pub head_declares : {g g₁ g' : Going} (s r : ℕ) (b : Bool) → k ≡ 4 → b ≡ any is_moved (items_at_of 2 (look_node t e q).value) → b ≡ true
        → s ≡ (look_node t d at).next → r ≡ s → g' ≡ g₁
        → (eqb (byte_at t at) 7 || eqb (byte_at t at) 8 ≡ true → byte_at t (onward t at 4) ≡ 4 → any is_moved (items_at_of 2 (node_at_of 1 (look_node t d at).value)) ≡ true
        → Good t d at → Does g g₁ (emits c (look_node t d at).value))
        → (r ≡ (look_node t d at).next) × (Good t d at → Does g g' (emits c (look_node t d at).value))
    head_declares s r b kk bb b1 ss rr hh f =
        (rr ∙ ss, λ good. does_to hh (f loop (sym left_kind ∙ kk) (ap (λ (z : Node). any is_moved (items_at_of 2 z)) (sym (left_part good)) ∙ sym bb ∙ b1) good))

    pub head_keeps : {g g' : Going} (r : ℕ) (b : Bool) → k ≡ 4 → b ≡ any is_moved (items_at_of 2 (look_node t e q).value) → b ≡ false
        → (r ≡ (look_node t d at).next) × (Good t d at → Does g g' (stays c (look_node t d at).value))
        → (r ≡ (look_node t d at).next) × (Good t d at → Does g g' (emits c (look_node t d at).value))
    head_keeps r b kk bb b0 f = (
      f.0,
      λ good. does_as (f.1 good) (sym (declaring_stays_at c at loop d good (sym left_kind ∙ kk) (ap (λ (z : Node). any is_moved (items_at_of 2 z)) (sym (left_part good)) ∙ sym bb ∙ b0))),
    )

    module _ (other : k ≡ 4 → ⊥) where
      left_other : byte_at t (onward t at 4) ≡ 4 → ⊥
      left_other z = other (left_kind ∙ z)

      -- it assigns
      pub head_refuses : {g g₁ g' : Going} (s r : ℕ) (b : Bool) → b ≡ has_array_rest_over_object_rest (look_node t e q).value → b ≡ true
          → s ≡ (look_node t d at).next → r ≡ s → g' ≡ g₁ → Does g g₁ (say (refuses 5 ∷ puts (0 ∷ 0 ∷ [])))
          → (r ≡ (look_node t d at).next) × (Good t d at → Does g g' (emits c (look_node t d at).value))
      head_refuses s r b bb b1 ss rr hh f = (
        rr ∙ ss,
        λ good. does_to hh (does_as f (sym (refused_at c at loop d good left_other (ap (λ (z : Node). has_array_rest_over_object_rest z) (sym (left_part good)) ∙ sym bb ∙ b1)))),
      )

      pub head_assigns : {g g₁ g' : Going} (s r : ℕ) (b b' : Bool) → b ≡ has_array_rest_over_object_rest (look_node t e q).value → b ≡ false → b' ≡ has_object_rest (look_node t e q).value → b' ≡ true
          → s ≡ (look_node t d at).next → r ≡ s → g' ≡ g₁
          → (eqb (byte_at t at) 7 || eqb (byte_at t at) 8 ≡ true → (byte_at t (onward t at 4) ≡ 4 → ⊥) → has_array_rest_over_object_rest (node_at_of 1 (look_node t d at).value) ≡ false
          → has_object_rest (node_at_of 1 (look_node t d at).value) ≡ true → Good t d at → Does g g₁ (emits c (look_node t d at).value))
          → (r ≡ (look_node t d at).next) × (Good t d at → Does g g' (emits c (look_node t d at).value))
      head_assigns s r b b' bb b0 bb' b1 ss rr hh f = (
        rr ∙ ss,
        λ good.
            does_to hh
            (f loop left_other (ap (λ (z : Node). has_array_rest_over_object_rest z) (sym (left_part good)) ∙ sym bb ∙ b0) (ap (λ (z : Node). has_object_rest z) (sym (left_part good)) ∙ sym bb' ∙ b1) good),
      )

      pub head_stays : {g g' : Going} (r : ℕ) (b : Bool) → b ≡ has_object_rest (look_node t e q).value → b ≡ false
          → (r ≡ (look_node t d at).next) × (Good t d at → Does g g' (stays c (look_node t d at).value))
          → (r ≡ (look_node t d at).next) × (Good t d at → Does g g' (emits c (look_node t d at).value))
      head_stays r b bb b0 f =
          (f.0, λ good. does_as (f.1 good) (sym (assigning_stays_at c at loop d good left_other (ap (λ (z : Node). has_object_rest z) (sym (left_part good)) ∙ sym bb ∙ b0))))

  -- ---- cat

  -- its param as a list of one
  param_list : (d q : ℕ) → look_items t (look_node t d) false 1 q ≡ seen (only (look_node t d q).value) (look_node t d q).next
  unfolding look_items look_item
  param_list d q = refl

  param_good : (d q : ℕ) → Good t d q → GoodItems t (look_node t d) (Good t d) false false 1 q
  unfolding GoodItems hole_at
  param_good d q good = (record { hole = λ z. absurd (false≢true z); node = λ z. good; begins = λ z u c. absurd (false≢true u) }, tt)

  param_suits : (d q : ℕ) → is 15 (look_node t d q).value ≡ true → AllSuit modes.Binding (look_items t (look_node t d) false 1 q).value
  unfolding look_items look_item
  param_suits d q h = suit_binding (look_items t (look_node t d) false 1 q).value (h, tt)

  module _ (c : Place) (d at : ℕ) (v : CatchOpen t d at) where
    abbrev ones : Items
    ones = (look_items t (look_node t d) false 1 (onward t at 2)).value

    abbrev inner_block : Node
    inner_block = (look_node t d (look_node t d (onward t at 2)).next).value

    catch_law : is_moved (look_node t d (onward t at 2)).value ≡ true
        → say (makes (gather moved_from ones)) ▷ say (puts (part at (onward t at 2) t)) ▷ turns_of modes.Binding (scoped c) ones ▷ emits (scoped c) (block_in (gather moved_from ones) inner_block)
        ≡ emits c (look_node t (suc d) at).value
    catch_law moved =
        let q : Node = (look_node t d (onward t at 2)).value in
        ap₂ (λ (x : List ℕ) (y : Emit). say (makes (gather moved_from ones)) ▷ say (puts x) ▷ y ▷ emits (scoped c) (block_in (gather moved_from ones) inner_block))
        v.head (turns_binding (scoped c) ones (look_solid t (look_node t d) 1 (onward t at 2)))
        ∙ ap (λ (x : Items). say (makes (gather moved_from x)) ▷ say (puts (10 ∷ 3 ∷ [])) ▷ emits_items false (scoped c) (each behind x) ▷ emits (scoped c) (block_in (gather moved_from x) inner_block))
        (ap (λ (z : Seen Items). z.value) (param_list d (onward t at 2)))
        ∙ sym (emits_catch_list c at q inner_block moved)
        ∙ ap (λ (z : Seen Node). emits c z.value) (sym v.whole)

  pub catch_moves : {g g₁ g₂ g₃ g₄ g' : Going} (c c' : Place) (d e e' at q s x₀ x₁ x₂ x₃ r : ℕ) (f b : Bool)
      → e ≡ d - 1 → q ≡ onward t at 2 → f ≡ eqb (byte_at t (onward t at 1) % 2) 1 → f ≡ true → b ≡ is_moved (look_node t e q).value → b ≡ true
      → c' ≡ scoped c → e' ≡ e → x₀ ≡ at → x₁ ≡ q → s ≡ (look_node t d at).next → r ≡ s → g' ≡ g₄
      → (GoodItems t (look_node t e) (Good t e) false false 1 q → AllSuit modes.Binding (look_items t (look_node t e) false 1 q).value
      → Does g g₁ (say (makes (gather moved_from (look_items t (look_node t e) false 1 q).value))))
      → Does g₁ g₂ (say (puts (part x₀ q t)))
      → (GoodItems t (look_node t e') (Good t e') false false 1 x₁ → AllSuit modes.Binding (look_items t (look_node t e') false 1 x₁).value
      → (x₂ ≡ (look_items t (look_node t e') false 1 x₁).next) × Does g₂ g₃ (turns_of modes.Binding c' (look_items t (look_node t e') false 1 x₁).value))
      → (GoodItem t (look_node t e') (Good t e') true false x₂ → GoodItems t (look_node t e') (Good t e') false false 1 q → AllBind false (look_items t (look_node t e') false 1 q).value
      → (x₃ ≡ (look_node t e' x₂).next) × Does g₃ g₄ (emits c' (block_in (gather moved_from (look_items t (look_node t e') false 1 q).value) (look_node t e' x₂).value)))
      → byte_at t at ≡ 10 → (r ≡ (look_node t d at).next) × (Good t d at → Does g g' (emits c (look_node t d at).value))
  catch_moves {g = g} {g₁ = g₁} {g₂ = g₂} {g₃ = g₃} {g₄ = g₄} {g' = g'} c c' d₀ e e' at q s x₀ x₁ x₂ x₃ r f b ee qq ff f1 bb b1 cc' ee' xx₀ xx₁ ss rr hh mk cp sq bk ten = (
    rr ∙ ss,
    λ good.
        let up = one_level d₀ at good in
        let d : ℕ = up.0 in
        let l : ℕ = onward t at 2 in
        let v = catch_open t d at (subst (λ (z : ℕ). Good t z at) up.1 good) ten (sym ff ∙ f1) in
        let e'' : e ≡ d = let z = up.1 in omega arith in
        let moved : is_moved (look_node t d l).value ≡ true = ap₂ (λ (y z : ℕ). is_moved (look_node t y z).value) (sym e'') (sym qq) ∙ sym bb ∙ b1 in
        let ns : Items = (look_items t (look_node t d) false 1 l).value in
        let gi : GoodItems t (look_node t d) (Good t d) false false 1 l = param_good d l v.param in
        let suit : AllSuit modes.Binding ns = param_suits d l v.kind15 in
        let mk' : GoodItems t (look_node t d) (Good t d) false false 1 l → AllSuit modes.Binding ns → Does g g₁ (say (makes (gather moved_from ns))) = rw (e'', qq) at mk in
        let cp' : Does g₁ g₂ (say (puts (part at l t))) = rw (xx₀, qq) at cp in
        let sq' : GoodItems t (look_node t d) (Good t d) false false 1 l → AllSuit modes.Binding ns → (x₂ ≡ (look_items t (look_node t d) false 1 l).next) × Does g₂ g₃ (turns_of modes.Binding (scoped c) ns) = rw (ee', e'', xx₁, qq, cc') at sq in
        let two = sq' gi suit in
        let x₂' : x₂ ≡ (look_node t d l).next = two.0 ∙ ap (λ (z : Seen Items). z.next) (param_list d l) in
        let bk' : GoodItem t (look_node t d) (Good t d) true false (look_node t d l).next → GoodItems t (look_node t d) (Good t d) false false 1 l → AllBind false ns
        → (x₃ ≡ (look_node t d (look_node t d l).next).next) × Does g₃ g₄ (emits (scoped c) (block_in (gather moved_from ns) (look_node t d (look_node t d l).next).value)) = rw (ee', e'', x₂', qq, cc') at bk in
        let last = bk' (block_item d (look_node t d l).next v.body v.kind2) gi (λ z. suit) in
        subst (λ (z : ℕ). Does g g' (emits c (look_node t z at).value)) (sym up.1)
        (does_to hh (does_as (does_then (mk' gi suit) (does_then cp' (does_then two.1 last.1))) (catch_law c d at v moved))),
  )

  -- one that stays
  catch_stays_at : (c : Place) (d at : ℕ) → byte_at t at ≡ 10 → is_moved (node_at_of 0 (look_node t d at).value) ≡ false → Good t d at → emits c (look_node t d at).value ≡ stays c (look_node t d at).value
  catch_stays_at c zero at ten none good = no_good t at good
  catch_stays_at c (suc d) at ten none good =
      emits_unchanged c (look_node t (suc d) at).value (catch_kept (context_of c) (look_node t (suc d) at).value (is_here t d at 10 ∙ eq-eqb (byte_at t at) 10 ten) none)

  pub catch_keeps : {g g' : Going} (c : Place) (d e at q r : ℕ) (f b : Bool)
      → e ≡ d - 1 → q ≡ onward t at 2 → f ≡ eqb (byte_at t (onward t at 1) % 2) 1 → f ≡ true → b ≡ is_moved (look_node t e q).value → b ≡ false
      → (r ≡ (look_node t d at).next) × (Good t d at → Does g g' (stays c (look_node t d at).value))
      → byte_at t at ≡ 10 → (r ≡ (look_node t d at).next) × (Good t d at → Does g g' (emits c (look_node t d at).value))
  unfolding node_at_of piece_in
  catch_keeps c d₀ e at q r f b ee qq ff f1 bb b0 k ten = (
    k.0,
    λ good.
        let up = one_level d₀ at good in
        let d : ℕ = up.0 in
        let v = catch_open t d at (subst (λ (z : ℕ). Good t z at) up.1 good) ten (sym ff ∙ f1) in
        let e'' : e ≡ d = let z = up.1 in omega arith in
        let none : is_moved (node_at_of 0 (look_node t d₀ at).value) ≡ false =
        ap (λ (z : ℕ). is_moved (node_at_of 0 (look_node t z at).value)) up.1 ∙ ap (λ (z : Seen Node). is_moved (node_at_of 0 z.value)) v.whole
        ∙ ap₂ (λ (y z : ℕ). is_moved (look_node t y z).value) (sym e'') (sym qq) ∙ sym bb ∙ b0 in
        does_as (k.1 good) (sym (catch_stays_at c d₀ at ten none good)),
  )

  -- without a param
  bare_param : (d at : ℕ) → byte_at t at ≡ 10 → eqb (byte_at t (onward t at 1) % 2) 1 ≡ false → is_moved (node_at_of 0 (look_node t (suc d) at).value) ≡ false
  unfolding look_node look_fields look_slot fields_of kinds node_at_of piece_in is_moved depth has_nested_object_rest shape
  bare_param d at ten h =
      let z : byte_at t (onward t at 1) % 2 ≡ 0 = omega (arith, eqb-false (byte_at t (onward t at 1) % 2) 1 h) in
      rw (ten, z) refl

  pub catch_stays : {g g' : Going} (c : Place) (d at r : ℕ) (f : Bool) → f ≡ eqb (byte_at t (onward t at 1) % 2) 1 → f ≡ false
      → (r ≡ (look_node t d at).next) × (Good t d at → Does g g' (stays c (look_node t d at).value))
      → byte_at t at ≡ 10 → (r ≡ (look_node t d at).next) × (Good t d at → Does g g' (emits c (look_node t d at).value))
  catch_stays c d₀ at r f ff f0 k ten = (
    k.0,
    λ good.
        let up = one_level d₀ at good in
        let none : is_moved (node_at_of 0 (look_node t d₀ at).value) ≡ false = ap (λ (z : ℕ). is_moved (node_at_of 0 (look_node t z at).value)) up.1 ∙ bare_param up.0 at ten (sym ff ∙ f0) in
        does_as (k.1 good) (sym (catch_stays_at c d₀ at ten none good)),
  )

  -- a param that is moved has a level
  pub moved_level : (d at : ℕ) (b : Bool) → b ≡ is_moved (look_node t d at).value → b ≡ true → 0 < d
  unfolding look_node node_at_of piece_in is_moved depth has_nested_object_rest shape
  moved_level zero at b e h = absurd (false≢true (sym e ∙ h))
  moved_level (suc d) at b e h = omega arith
