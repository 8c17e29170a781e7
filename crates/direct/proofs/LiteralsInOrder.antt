-- Object literals: what a literal with a spread does, in the order in which it is written.
-- Assumes nothing.
use mathlib.Core.Path.{◌≡◌, refl, sym, ap, ap₂, ◌∙◌}
use mathlib.Core.Bool.{true, false, cond, false≢true}
use mathlib.Core.List.{List, [], ◌∷◌, ◌++◌, append_assoc, append-nil}
use Prim.Native.Nat.{ℕ, zero, suc, ◌+◌, ◌<◌}
use native.Mathlib.Omega.{arith}
use lib.Dec.{eqb}
use Rattle.tree.specs.Tree.{Node, Items, wide_bytes, count}
use Rattle.lowering.specs.Parts.{kind, is, node_at_of, items_at_of, only, any, ◌+++◌}
use Rattle.lowering.specs.Made.{S, object}
use Rattle.lowering.specs.Literals.{Call, opened, closed, scan, literal}
use Rattle.lowering.specs.Walk.{unchanged, rule_of, rewrite}
use Rattle.lowering.specs.Walk.Rule.{nowhere}
use Rattle.lowering.proofs.Cases.{by_test, or_left, or_right}
use Rattle.lowering.proofs.Accepted.{NoHoles}
use Rattle.direct.specs.Events.{Deed, Place, Emit, puts, context_of, emits}
use Rattle.direct.specs.Emit.{say, ◌▷◌, inner, emits_items, stays, call_head}
use Rattle.direct.specs.Literals.{is_spread, mode_next, mode_after, head_at, inner_heads, last_head, heads, run, pending_head, part, parts, spreads, no_call_of, nothing_pending, some_pending}
use Rattle.direct.proofs.Threads.{then_assoc, say_nothing, then_nothing}
use Rattle.direct.proofs.OneLevel.{emits_as, nothing_handed, emits_nowhere, emits_unchanged}
use Rattle.direct.proofs.RulesKeep.{rule_24, literal_kept}
use Rattle.direct.proofs.MadeNodes.{say_then, more_items, only_item, no_items, emits_S, emits_object}
use Rattle.direct.proofs.ListsInTurn.{items_append, holes_none, holes_only, holes_append}
use Rattle.lowering.proofs.ItemLaws.{count_append, any_behind}
use Rattle.lowering.proofs.Clauses.{scan_spread, scan_other}

-- ---- heads

-- the heads of a list that is cut in two: those of the second part, in the mode that the first ends in, come first
pub heads_append : (m : ℕ) (ps qs : Items) → inner_heads m (ps +++ qs) ≡ inner_heads (mode_after m ps) qs ++ inner_heads m ps
unfolding mode_after inner_heads ◌+++◌
heads_append m Items.none qs = sym (append-nil (inner_heads m qs))
heads_append m (Items.hole ps) qs = heads_append m ps qs
heads_append m (Items.item p ps) qs =
    let n = mode_next m p in
    ap (λ (x : List Deed). x ++ head_at m p) (heads_append n ps qs) ∙ append_assoc (inner_heads (mode_after n ps) qs) (inner_heads n ps) (head_at m p)

mode_spread : (m : ℕ) (p : Node) → is 26 p ≡ true → mode_next m p ≡ nothing_pending
unfolding mode_next
mode_spread zero p e = rw e refl
mode_spread (suc m) p e = rw e refl

heads_spread : (m : ℕ) (p : Node) (ps : Items) → is 26 p ≡ true → heads m (Items.item p ps) ≡ heads 1 ps ++ call_head 1 (cond (eqb m 2) 4 2)
unfolding heads mode_after inner_heads head_at
heads_spread m p ps e =
    let l = last_head (mode_after 1 ps) in
    rw (mode_spread m p e, e) (sym (append_assoc l (inner_heads 1 ps) (call_head 1 (cond (eqb m 2) 4 2))))

heads_other : (m : ℕ) (p : Node) (ps : Items) → is 26 p ≡ false → heads m (Items.item p ps) ≡ heads (mode_next m p) ps
unfolding heads mode_after inner_heads head_at
heads_other m p ps e =
    rw e (ap (λ (x : List Deed). last_head (mode_after (mode_next m p) ps) ++ x) (append-nil (inner_heads (mode_next m p) ps)))

mode_first : (p : Node) → is 26 p ≡ false → mode_next no_call_of p ≡ no_call_of
unfolding mode_next
mode_first p e = rw e refl

mode_more : (m : ℕ) (p : Node) → is 26 p ≡ false → mode_next (suc m) p ≡ some_pending
unfolding mode_next
mode_more m p e = rw e refl

-- ---- runs and parts

run_spread : (p : Node) (ps : Items) → is 26 p ≡ true → run (Items.item p ps) ≡ 0
unfolding run
run_spread p ps e = rw e refl

run_other : (p : Node) (ps : Items) → is 26 p ≡ false → run (Items.item p ps) ≡ suc (run ps)
unfolding run
run_other p ps e = rw e refl

-- a run is all of a list where there is no spread, and less where there is one
pub run_all_lem : (ps : Items) → NoHoles ps → any is_spread ps ≡ false → run ps ≡ count ps
unfolding run count any NoHoles
run_all_lem Items.none w h = refl
run_all_lem (Items.hole ps) w h = absurd w
run_all_lem (Items.item p ps) w h = rw (or_left (is 26 p) (any is_spread ps) h) (ap suc (run_all_lem ps w (or_right (is 26 p) (any is_spread ps) h)))

pub run_some : (ps : Items) → any is_spread ps ≡ true → run ps < count ps
unfolding run count any
run_some Items.none h = absurd (false≢true h)
run_some (Items.hole ps) h = let l = run_some ps h in omega arith
run_some (Items.item p ps) h =
    by_test (is 26 p)
    (λ e. rw e (omega arith))
    (λ e.
    let z : any is_spread ps ≡ true = rw e at h in
    let l = run_some ps z in
    rw e (omega arith))

parts_spread : (c : Place) (p : Node) (ps : Items) → is 26 p ≡ true → parts c (Items.item p ps) ≡ emits c (node_at_of 0 p) ▷ say (pending_head (run ps)) ▷ parts c ps
unfolding parts part
parts_spread c p ps e = rw e (then_assoc (emits c (node_at_of 0 p)) (say (pending_head (run ps))) (parts c ps))

parts_other : (c : Place) (p : Node) (ps : Items) → is 26 p ≡ false → parts c (Items.item p ps) ≡ emits c p ▷ parts c ps
unfolding parts part
parts_other c p ps e = rw e refl

-- ---- the scan

-- the mode behind a call
unfoldable mode_of : Items → ℕ
mode_of Items.none = nothing_pending
mode_of (Items.hole ps) = nothing_pending
mode_of (Items.item p ps) = some_pending

mode_pending : (pending : Items) (p : Node) → is 26 p ≡ false → mode_next (mode_of pending) p ≡ some_pending
unfolding mode_of
mode_pending Items.none p e = mode_more 0 p e
mode_pending (Items.hole ps) p e = mode_more 0 p e
mode_pending (Items.item q ps) p e = mode_more 1 p e

mode_added : (pending : Items) (p : Node) → NoHoles pending → mode_of (pending +++ only p) ≡ 2
unfolding mode_of ◌+++◌ NoHoles
mode_added Items.none p w = refl
mode_added (Items.hole ps) p w = absurd w
mode_added (Items.item q ps) p w = refl

count_added : (pending : Items) (p : Node) → count (pending +++ only p) ≡ suc (count pending)
unfolding count
count_added pending p = let e = count_append pending (only p) in omega arith

module _ (c : Place) where
  items_added : (pending : Items) (p : Node) → emits_items false c (pending +++ only p) ≡ emits_items false c pending ▷ emits c p
  items_added pending p = items_append false c pending (only p) ∙ ap (λ (x : Emit). emits_items false c pending ▷ x) (only_item c p)

-- {} and {pending}
module _ (c : Place) where
  empty_object : emits (inner c) (object Items.none) ≡ say (puts (24 ∷ 1 ∷ 0 ∷ 0 ∷ []))
  unfolding any count emits_items
  empty_object = emits_object (inner c) Items.none refl ∙ then_nothing (say (puts (24 ∷ 1 ∷ 0 ∷ 0 ∷ [])))

  pending_object : (ps : Items) → any is_spread ps ≡ false → emits (inner c) (object ps) ≡ say (puts (24 ∷ 1 ∷ wide_bytes (count ps))) ▷ emits_items false (inner c) ps
  unfolding inner
  pending_object ps h = emits_object (inner c) ps h

  both_objects : (p : Node) (ps : Items) → any is_spread (Items.item p ps) ≡ false
      → emits (inner c) (object Items.none) ▷ emits (inner c) (object (Items.item p ps)) ≡ say (pending_head (count (Items.item p ps))) ▷ emits_items false (inner c) (Items.item p ps)
  unfolding count pending_head
  both_objects p ps h =
      ap₂ (λ (x y : Emit). x ▷ y) empty_object (pending_object (Items.item p ps) h)
      ∙ say_then (puts (24 ∷ 1 ∷ 0 ∷ 0 ∷ [])) (puts (24 ∷ 1 ∷ wide_bytes (suc (count ps)))) (emits_items false (inner c) (Items.item p ps))

  -- what a call begins with
  opened_done : (C : Node) (E : Emit) → emits (inner c) C ≡ E → (ps : Items) → NoHoles ps → any is_spread ps ≡ false
      → emits_items false (inner c) (opened (Call.call C) ps) ≡ E ▷ say (pending_head (count ps)) ▷ emits_items false (inner c) ps
  unfolding opened NoHoles count pending_head emits_items
  opened_done C E h Items.none w z =
      only_item (inner c) C ∙ h ∙ sym (ap (λ (x : Emit). E ▷ x) (say_nothing (say [])) ∙ then_nothing E)
  opened_done C E h (Items.hole ps) w z = absurd w
  opened_done C E h (Items.item p ps) w z =
      more_items (inner c) C (Items.item (object Items.none) (only (object (Items.item p ps))))
      ∙ ap₂ (λ (x y : Emit). x ▷ y) h
      (more_items (inner c) (object Items.none) (only (object (Items.item p ps)))
      ∙ ap (λ (x : Emit). emits (inner c) (object Items.none) ▷ x) (only_item (inner c) (object (Items.item p ps)))
      ∙ both_objects p ps z)

  opened_count : (C : Node) (ps : Items) → NoHoles ps → (a : Node) → count (opened (Call.call C) ps +++ only a) ≡ cond (eqb (mode_of ps) 2) 4 2
  unfolding opened NoHoles count mode_of ◌+++◌
  opened_count C Items.none w a = refl
  opened_count C (Items.hole ps) w a = absurd w
  opened_count C (Items.item p ps) w a = refl

  -- the call that a spread ends; a call does the same at both places
  module _ (C : Node) (E : Emit) (h : emits (inner c) C ≡ E) (ps : Items) (w : NoHoles ps) (z : any is_spread ps ≡ false) (a : Node) where
    abbrev Next : Node
    Next = S (opened (Call.call C) ps +++ only a)

    abbrev Ends : Emit
    Ends = say (call_head 1 (cond (eqb (mode_of ps) 2) 4 2)) ▷ E ▷ say (pending_head (count ps)) ▷ emits_items false (inner c) ps ▷ emits (inner c) a

    arguments : emits_items false (inner c) (opened (Call.call C) ps +++ only a) ≡ E ▷ say (pending_head (count ps)) ▷ emits_items false (inner c) ps ▷ emits (inner c) a
    arguments =
        let i = emits_items false (inner c) ps in
        let s = say (pending_head (count ps)) in
        items_added (inner c) (opened (Call.call C) ps) a
        ∙ ap (λ (x : Emit). x ▷ emits (inner c) a) (opened_done C E h ps w z)
        ∙ then_assoc E (s ▷ i) (emits (inner c) a)
        ∙ ap (λ (x : Emit). E ▷ x) (then_assoc s i (emits (inner c) a))

    next_there : emits c Next ≡ Ends
    next_there =
        emits_S c (opened (Call.call C) ps +++ only a)
        ∙ ap₂ (λ (x : ℕ) (y : Emit). say (call_head 1 x) ▷ y) (opened_count C ps w a) arguments

    next_inside : emits (inner c) Next ≡ Ends
    unfolding inner
    next_inside =
        emits_S (inner c) (opened (Call.call C) ps +++ only a)
        ∙ ap₂ (λ (x : ℕ) (y : Emit). say (call_head 1 x) ▷ y) (opened_count C ps w a) arguments

  -- the rest of a scan, behind a call that does E
  abbrev Behind : Emit → Items → Items → Emit
  Behind E pending ps =
      say (heads (mode_of pending) ps) ▷ E ▷ say (pending_head (count pending + run ps)) ▷ emits_items false (inner c) pending ▷ parts (inner c) ps

  nothing_pending_lem : say (pending_head 0) ▷ say [] ≡ say []
  unfolding pending_head
  nothing_pending_lem = say_nothing (say [])

  three_opened : (C p : Node) (ps : Items) → count (opened (Call.call C) (Items.item p ps)) ≡ 3
  unfolding opened count
  three_opened C p ps = refl

  closed_done : (C : Node) (E : Emit) → emits c C ≡ E → emits (inner c) C ≡ E → (pending : Items) → NoHoles pending → any is_spread pending ≡ false
      → emits c (closed (Call.call C) pending) ≡ Behind E pending Items.none
  unfolding closed heads last_head mode_after inner_heads mode_of NoHoles count run parts
  closed_done C E h k Items.none w z =
      let n : say (pending_head 0) ▷ emits_items false (inner c) Items.none ▷ say [] ≡ say [] =
      ap (λ (x : Emit). say (pending_head 0) ▷ x) (then_nothing (emits_items false (inner c) Items.none) ∙ no_items false (inner c)) ∙ nothing_pending_lem in
      h ∙ sym (say_nothing (E ▷ say (pending_head 0) ▷ emits_items false (inner c) Items.none ▷ say []) ∙ ap (λ (x : Emit). E ▷ x) n ∙ then_nothing E)
  closed_done C E h k (Items.hole ps) w z = absurd w
  closed_done C E h k (Items.item p ps) w z =
      let i = emits_items false (inner c) (Items.item p ps) in
      let e : count (Items.item p ps) ≡ suc (count ps) + 0 = omega arith in
      emits_S c (opened (Call.call C) (Items.item p ps))
      ∙ ap₂ (λ (x : ℕ) (y : Emit). say (call_head 1 x) ▷ y) (three_opened C p ps) (opened_done C E k (Items.item p ps) w z)
      ∙ ap₂ (λ (x : ℕ) (y : Emit). say (call_head 1 3) ▷ E ▷ say (pending_head x) ▷ y) e (sym (then_nothing i))

  hole_behind : (E : Emit) (pending ps : Items) → Behind E pending ps ≡ Behind E pending (Items.hole ps)
  unfolding heads mode_after inner_heads run parts
  hole_behind E pending ps = refl

  nothing_spread : any is_spread Items.none ≡ false
  unfolding any
  nothing_spread = refl

  spread_behind : (E : Emit) (pending : Items) (p : Node) (ps : Items) → is 26 p ≡ true
      → Behind (say (call_head 1 (cond (eqb (mode_of pending) 2) 4 2)) ▷ E ▷ say (pending_head (count pending)) ▷ emits_items false (inner c) pending ▷ emits (inner c) (node_at_of 0 p)) Items.none ps
      ≡ Behind E pending (Items.item p ps)
  unfolding mode_of count
  spread_behind E pending p ps e =
      let m = eqb (mode_of pending) 2 in
      let f = say (call_head 1 (cond m 4 2)) in
      let s = say (pending_head (count pending)) in
      let i = emits_items false (inner c) pending in
      let a = emits (inner c) (node_at_of 0 p) in
      let r = parts (inner c) ps in
      let t = say (pending_head (run ps)) in
      let g = say (heads 1 ps) in
      let x : 0 + run ps ≡ run ps = omega arith in
      let y : count pending ≡ count pending + 0 = omega arith in
      -- what follows the call
      ap (λ (u : Emit). g ▷ (f ▷ E ▷ s ▷ i ▷ a) ▷ u)
      (ap₂ (λ (u : ℕ) (v : Emit). say (pending_head u) ▷ v) x (ap (λ (u : Emit). u ▷ r) (no_items false (inner c)) ∙ say_nothing r))
      -- one thing after another
      ∙ ap (λ (u : Emit). g ▷ u)
      (then_assoc f (E ▷ s ▷ i ▷ a) (t ▷ r)
      ∙ ap (λ (u : Emit). f ▷ u)
      (then_assoc E (s ▷ i ▷ a) (t ▷ r)
      ∙ ap (λ (u : Emit). E ▷ u)
      (then_assoc s (i ▷ a) (t ▷ r) ∙ ap (λ (u : Emit). s ▷ u) (then_assoc i a (t ▷ r)))))
      -- the heads are joined
      ∙ say_then (heads 1 ps) (call_head 1 (cond m 4 2)) (E ▷ s ▷ i ▷ a ▷ t ▷ r)
      ∙ ap₂ (λ (u : List Deed) (v : Emit). say u ▷ E ▷ s ▷ i ▷ v) (sym (heads_spread (mode_of pending) p ps e)) (sym (parts_spread (inner c) p ps e))
      ∙ ap (λ (u : ℕ). say (heads (mode_of pending) (Items.item p ps)) ▷ E ▷ say (pending_head u) ▷ i ▷ parts (inner c) (Items.item p ps))
      (y ∙ ap (λ (u : ℕ). count pending + u) (sym (run_spread p ps e)))

  other_behind : (E : Emit) (pending : Items) (p : Node) (ps : Items) → NoHoles pending → is 26 p ≡ false
      → Behind E (pending +++ only p) ps ≡ Behind E pending (Items.item p ps)
  other_behind E pending p ps w e =
      let i = emits_items false (inner c) pending in
      let r = parts (inner c) ps in
      let a = count_added pending p in
      let b = run_other p ps e in
      let n : count (pending +++ only p) + run ps ≡ count pending + run (Items.item p ps) = omega arith in
      let m : heads (mode_of (pending +++ only p)) ps ≡ heads (mode_of pending) (Items.item p ps) =
      ap (λ (u : ℕ). heads u ps) (mode_added pending p w ∙ sym (mode_pending pending p e)) ∙ sym (heads_other (mode_of pending) p ps e) in
      let k : emits_items false (inner c) (pending +++ only p) ▷ r ≡ i ▷ parts (inner c) (Items.item p ps) =
      ap (λ (u : Emit). u ▷ r) (items_added (inner c) pending p)
      ∙ then_assoc i (emits (inner c) p) r ∙ ap (λ (u : Emit). i ▷ u) (sym (parts_other (inner c) p ps e)) in
      ap (λ (u : List Deed). say u ▷ E ▷ say (pending_head (count (pending +++ only p) + run ps)) ▷ emits_items false (inner c) (pending +++ only p) ▷ r) m
      ∙ ap₂ (λ (u : ℕ) (v : Emit). say (heads (mode_of pending) (Items.item p ps)) ▷ E ▷ say (pending_head u) ▷ v) n k

  scan_call : (C : Node) (E : Emit) → emits c C ≡ E → emits (inner c) C ≡ E → (pending ps : Items) → NoHoles pending → any is_spread pending ≡ false
      → emits c (scan (Call.call C) pending ps) ≡ Behind E pending ps
  unfolding scan
  scan_call C E h k pending Items.none w z = closed_done C E h k pending w z
  scan_call C E h k pending (Items.hole ps) w z = scan_call C E h k pending ps w z ∙ hole_behind E pending ps
  scan_call C E h k pending (Items.item p ps) w z =
      by_test (is 26 p)
      (λ e.
      let a = node_at_of 0 p in
      ap (emits c) (scan_spread (Call.call C) pending p ps e)
      ∙ scan_call (Next C E k pending w z a) (Ends C E k pending w z a) (next_there C E k pending w z a) (next_inside C E k pending w z a) Items.none ps holes_none nothing_spread
      ∙ spread_behind E pending p ps e)
      (λ e.
      ap (emits c) (scan_other (Call.call C) pending p ps e)
      ∙ scan_call C E h k (pending +++ only p) ps (holes_append pending (only p) w (holes_only p)) (any_behind is_spread pending p z e)
      ∙ other_behind E pending p ps w e)

  -- the whole scan, before the first call
  abbrev First : Items → Items → Emit
  First pending ps =
      say (heads no_call_of ps) ▷ say (puts (24 ∷ 1 ∷ wide_bytes (count pending + run ps))) ▷ emits_items false (inner c) pending ▷ parts (inner c) ps

  first_arguments : (pending : Items) → any is_spread pending ≡ false → (a : Node)
      → emits_items false (inner c) (opened Call.no_call pending +++ only a)
      ≡ say (puts (24 ∷ 1 ∷ wide_bytes (count pending))) ▷ emits_items false (inner c) pending ▷ emits (inner c) a
  unfolding opened
  first_arguments pending z a =
      items_added (inner c) (only (object pending)) a
      ∙ ap (λ (x : Emit). x ▷ emits (inner c) a) (only_item (inner c) (object pending) ∙ pending_object pending z)
      ∙ then_assoc (say (puts (24 ∷ 1 ∷ wide_bytes (count pending)))) (emits_items false (inner c) pending) (emits (inner c) a)

  two_opened : (pending : Items) (a : Node) → count (opened Call.no_call pending +++ only a) ≡ 2
  unfolding opened count ◌+++◌
  two_opened pending a = refl

  module _ (pending : Items) (z : any is_spread pending ≡ false) (a : Node) where
    abbrev Opens : Emit
    Opens = say (call_head 1 2) ▷ say (puts (24 ∷ 1 ∷ wide_bytes (count pending))) ▷ emits_items false (inner c) pending ▷ emits (inner c) a

    first_there : emits c (S (opened Call.no_call pending +++ only a)) ≡ Opens
    first_there =
        emits_S c (opened Call.no_call pending +++ only a)
        ∙ ap₂ (λ (x : ℕ) (y : Emit). say (call_head 1 x) ▷ y) (two_opened pending a) (first_arguments pending z a)

    first_inside : emits (inner c) (S (opened Call.no_call pending +++ only a)) ≡ Opens
    unfolding inner
    first_inside =
        emits_S (inner c) (opened Call.no_call pending +++ only a)
        ∙ ap₂ (λ (x : ℕ) (y : Emit). say (call_head 1 x) ▷ y) (two_opened pending a) (first_arguments pending z a)

  spread_first : (pending : Items) (z : any is_spread pending ≡ false) (p : Node) (ps : Items) → is 26 p ≡ true
      → Behind (Opens pending z (node_at_of 0 p)) Items.none ps ≡ First pending (Items.item p ps)
  unfolding mode_of count
  spread_first pending z p ps e =
      let f = say (call_head 1 2) in
      let s = say (puts (24 ∷ 1 ∷ wide_bytes (count pending))) in
      let i = emits_items false (inner c) pending in
      let a = emits (inner c) (node_at_of 0 p) in
      let r = parts (inner c) ps in
      let t = say (pending_head (run ps)) in
      let g = say (heads 1 ps) in
      let x : 0 + run ps ≡ run ps = omega arith in
      let y : count pending ≡ count pending + 0 = omega arith in
      ap (λ (u : Emit). g ▷ (f ▷ s ▷ i ▷ a) ▷ u)
      (ap₂ (λ (u : ℕ) (v : Emit). say (pending_head u) ▷ v) x (ap (λ (u : Emit). u ▷ r) (no_items false (inner c)) ∙ say_nothing r))
      ∙ ap (λ (u : Emit). g ▷ u)
      (then_assoc f (s ▷ i ▷ a) (t ▷ r)
      ∙ ap (λ (u : Emit). f ▷ u)
      (then_assoc s (i ▷ a) (t ▷ r) ∙ ap (λ (u : Emit). s ▷ u) (then_assoc i a (t ▷ r))))
      ∙ say_then (heads 1 ps) (call_head 1 2) (s ▷ i ▷ a ▷ t ▷ r)
      ∙ ap₂ (λ (u : List Deed) (v : Emit). say u ▷ s ▷ i ▷ v) (sym (heads_spread 0 p ps e)) (sym (parts_spread (inner c) p ps e))
      ∙ ap (λ (u : ℕ). say (heads no_call_of (Items.item p ps)) ▷ say (puts (24 ∷ 1 ∷ wide_bytes u)) ▷ i ▷ parts (inner c) (Items.item p ps))
      (y ∙ ap (λ (u : ℕ). count pending + u) (sym (run_spread p ps e)))

  other_first : (pending : Items) (p : Node) (ps : Items) → is 26 p ≡ false → First (pending +++ only p) ps ≡ First pending (Items.item p ps)
  other_first pending p ps e =
      let i = emits_items false (inner c) pending in
      let r = parts (inner c) ps in
      let a = count_added pending p in
      let b = run_other p ps e in
      let n : count (pending +++ only p) + run ps ≡ count pending + run (Items.item p ps) = omega arith in
      let m : heads no_call_of ps ≡ heads no_call_of (Items.item p ps) =
      ap (λ (u : ℕ). heads u ps) (sym (mode_first p e)) ∙ sym (heads_other 0 p ps e) in
      let k : emits_items false (inner c) (pending +++ only p) ▷ r ≡ i ▷ parts (inner c) (Items.item p ps) =
      ap (λ (u : Emit). u ▷ r) (items_added (inner c) pending p)
      ∙ then_assoc i (emits (inner c) p) r ∙ ap (λ (u : Emit). i ▷ u) (sym (parts_other (inner c) p ps e)) in
      ap (λ (u : List Deed). say u ▷ say (puts (24 ∷ 1 ∷ wide_bytes (count (pending +++ only p) + run ps))) ▷ emits_items false (inner c) (pending +++ only p) ▷ r) m
      ∙ ap₂ (λ (u : ℕ) (v : Emit). say (heads no_call_of (Items.item p ps)) ▷ say (puts (24 ∷ 1 ∷ wide_bytes u)) ▷ v) n k

  closed_first : (pending : Items) → any is_spread pending ≡ false → emits c (closed Call.no_call pending) ≡ First pending Items.none
  unfolding closed heads last_head mode_after inner_heads run parts
  closed_first pending z =
      let i = emits_items false (inner c) pending in
      let y : count pending ≡ count pending + 0 = omega arith in
      emits_object c pending z
      ∙ ap₂ (λ (u : ℕ) (v : Emit). say (puts (24 ∷ 1 ∷ wide_bytes u)) ▷ v) y (sym (then_nothing i))
      ∙ sym (say_nothing (say (puts (24 ∷ 1 ∷ wide_bytes (count pending + 0))) ▷ i ▷ say []))

  hole_first : (pending ps : Items) → First pending ps ≡ First pending (Items.hole ps)
  unfolding heads mode_after inner_heads run parts
  hole_first pending ps = refl

  scan_first : (pending ps : Items) → any is_spread pending ≡ false → emits c (scan Call.no_call pending ps) ≡ First pending ps
  unfolding scan
  scan_first pending Items.none z = closed_first pending z
  scan_first pending (Items.hole ps) z = scan_first pending ps z ∙ hole_first pending ps
  scan_first pending (Items.item p ps) z =
      by_test (is 26 p)
      (λ e.
      let a = node_at_of 0 p in
      ap (emits c) (scan_spread Call.no_call pending p ps e)
      ∙ scan_call (S (opened Call.no_call pending +++ only a)) (Opens pending z a) (first_there pending z a) (first_inside pending z a) Items.none ps holes_none nothing_spread
      ∙ spread_first pending z p ps e)
      (λ e.
      ap (emits c) (scan_other Call.no_call pending p ps e)
      ∙ scan_first (pending +++ only p) ps (any_behind is_spread pending p z e)
      ∙ other_first pending p ps e)

-- ---- what a scan leaves is a call: no rule is for it

closed_call : (C : Node) → rule_of (kind C) ≡ nowhere → (pending : Items) → rule_of (kind (closed (Call.call C) pending)) ≡ nowhere
unfolding closed rule_of
closed_call C h Items.none = h
closed_call C h (Items.hole ps) = h
closed_call C h (Items.item p ps) = refl

call_rule : (xs : Items) → rule_of (kind (S xs)) ≡ nowhere
unfolding rule_of
call_rule xs = refl

called : (C : Node) → rule_of (kind C) ≡ nowhere → (pending ps : Items) → rule_of (kind (scan (Call.call C) pending ps)) ≡ nowhere
unfolding scan
called C h pending Items.none = closed_call C h pending
called C h pending (Items.hole ps) = called C h pending ps
called C h pending (Items.item p ps) =
    by_test (is 26 p)
    (λ e.
    let n = S (opened (Call.call C) pending +++ only (node_at_of 0 p)) in
    ap (λ (x : Node). rule_of (kind x)) (scan_spread (Call.call C) pending p ps e) ∙ called n (call_rule (opened (Call.call C) pending +++ only (node_at_of 0 p))) Items.none ps)
    (λ e. ap (λ (x : Node). rule_of (kind x)) (scan_other (Call.call C) pending p ps e) ∙ called C h (pending +++ only p) ps)

called_first : (pending ps : Items) → any is_spread ps ≡ true → rule_of (kind (scan Call.no_call pending ps)) ≡ nowhere
unfolding scan any
called_first pending Items.none h = absurd (false≢true h)
called_first pending (Items.hole ps) h = called_first pending ps h
called_first pending (Items.item p ps) h =
    by_test (is 26 p)
    (λ e.
    let n = S (opened Call.no_call pending +++ only (node_at_of 0 p)) in
    ap (λ (x : Node). rule_of (kind x)) (scan_spread Call.no_call pending p ps e) ∙ called n (call_rule (opened Call.no_call pending +++ only (node_at_of 0 p))) Items.none ps)
    (λ e.
    let z : any is_spread ps ≡ true = rw e at h in
    ap (λ (x : Node). rule_of (kind x)) (scan_other Call.no_call pending p ps e) ∙ called_first (pending +++ only p) ps z)

-- ---- the rule

literal_step : (c : Place) (n : Node) → is 24 n ≡ true → any is_spread (items_at_of 0 n) ≡ true
    → rewrite (context_of c) n ≡ unchanged (scan Call.no_call Items.none (items_at_of 0 n))
unfolding rewrite literal
literal_step c n k h = rw (rule_24 n k, rewrite, h) refl

-- an Object with a spread
pub emits_spreads : (c : Place) (n : Node) → is 24 n ≡ true → any is_spread (items_at_of 0 n) ≡ true → emits c n ≡ spreads c (items_at_of 0 n)
unfolding spreads count
emits_spreads c n k h =
    let ps = items_at_of 0 n in
    let r = scan Call.no_call Items.none ps in
    let x : 0 + run ps ≡ run ps = omega arith in
    emits_as c n (unchanged r) (literal_step c n k h)
    ∙ ap (λ (u : List Deed). say u ▷ stays c r) (nothing_handed c.mark r)
    ∙ say_nothing (stays c r)
    ∙ sym (emits_nowhere c r (called_first Items.none ps h))
    ∙ scan_first c Items.none ps (nothing_spread c)
    ∙ ap₂ (λ (u : ℕ) (v : Emit). say (heads no_call_of ps) ▷ say (puts (24 ∷ 1 ∷ wide_bytes u)) ▷ v) x
    (ap (λ (u : Emit). u ▷ parts (inner c) ps) (no_items false (inner c)) ∙ say_nothing (parts (inner c) ps))

-- an Object without one
pub emits_literal : (c : Place) (n : Node) → is 24 n ≡ true → any is_spread (items_at_of 0 n) ≡ false → emits c n ≡ stays c n
emits_literal c n k h = emits_unchanged c n (literal_kept (context_of c) n k h)
