-- One step of the tour, way by way: what was pending is the event and what is pending then.
-- Assumes nothing.
use mathlib.Core.Path.{◌≡◌, refl, sym, ap, subst, ◌∙◌}
use mathlib.Core.Bool.{Bool, true, false, cond}
use mathlib.Core.List.{List, [], ◌∷◌, ◌++◌}
use mathlib.Core.Option.{Option, none, some}
use Prim.Native.Nat.{ℕ, zero, suc, ◌+◌, ◌-◌, ◌*◌, ◌/◌, ◌%◌, ◌^◌, ◌<◌, ◌≤◌}
use native.Mathlib.Omega.{arith}
use native.Mathlib.Decide.{dec_lt}
use lib.Dec.{eqb, ltb}
use lib.ListN.{length, get_or, set}
use lib.Seq.{get_or-set_same, get_or-set_other}
use borrow.Author.Tests.{lt-ltb, le-ltb, eq-eqb, ne_eqb, ltb-true, eqb-true}
use Rattle.tree.specs.Grammar.{Sort, form_at, fields_of, map_ok}
use Rattle.tree.specs.Grammar.Sort.{child, chosen, many, gaps, number}
use Rattle.tree.specs.Grammar.Stage.{rewritten}
use Rattle.tree.specs.Rows.{sort_from, sort_of, fields_in_of}
use Rattle.tree.specs.Read.{Got, mapped, byte_at, wide_at, chosen_place}
use Rattle.tree.specs.Read.Got.{got, refused}
use Rattle.tree.specs.Read.Refusal.{not_a_tree}
use Rattle.tree.specs.Answer.{Peeked, Wide, got_number}
use Rattle.tree.proofs.Within.{map_byte, known}
use Rattle.rewritten.specs.Events.{Event}
use Rattle.rewritten.specs.Events.Event.{begins, opens, closes}
use Rattle.rewritten.specs.Pending.{Task, standing, sorts, and_then, node_comes, piece_comes, items_come, comes, pending, items_in, task_of, stack}
use Rattle.rewritten.specs.Pending.Task.{slots, items}
use Rattle.rewritten.specs.Steps.{Planned, coming_at, coming_fields, coming_items, coming_piece, coming_node, list_sort, step_number, step_values, StepIs, Stepped, Took, closing_in, step_closed, event_in, Stands, deep_after, frames_after}
use Rattle.rewritten.specs.Look.{Leaf, LeafSo, step_after, is_closed}
use Rattle.rewritten.specs.declared.step.Cursor.{Cursor}
use Rattle.rewritten.specs.declared.step.Event as told
use Rattle.rewritten.specs.declared.step.Event.TheVariants.{Begins, Opens, Hole}
use Rattle.rewritten.specs.declared.step.Step.{Step}
use Rattle.rewritten.specs.declared.step.Step.TheVariants.{Next, Done, Refused, Full}
use Rattle.rewritten.proofs.Coming.{led, entered, field_next, item_next, item_hole, items_plain, items_other, items_none, node_ends, list_closes, all_done, node_wrong, node_unfit, node_fits, piece_list, piece_child, piece_chosen}
use Rattle.rewritten.proofs.Frames.{sorts_none, sorts_first, row_small, planned_stands}

-- ---- frames

stack_below : (fs : List ℕ) (m v n : ℕ) → n ≤ m → stack (set fs m v) n ≡ stack fs n
unfolding stack
stack_below fs m v zero h = refl
stack_below fs m v (suc n) h =
    ap (λ (x : ℕ). task_of x ∷ stack (set fs m v) n) (get_or-set_other fs m n v 0 (λ e. absurd (omega arith)))
    ∙ ap (λ (us : List Task). task_of (get_or fs n 0) ∷ us) (stack_below fs m v n (omega arith))

stack_push : (fs : List ℕ) (n v : ℕ) → n < length fs → stack (set fs n v) (n + 1) ≡ task_of v ∷ stack fs n
unfolding stack
stack_push fs n v h =
    let e : n + 1 ≡ suc n = omega arith in
    ap (stack (set fs n v)) e
    ∙ ap (λ (x : ℕ). task_of x ∷ stack (set fs n v) n) (get_or-set_same fs n v 0 h)
    ∙ ap (λ (us : List Task). task_of v ∷ us) (stack_below fs n v n (omega arith))

task_even : (r : ℕ) → task_of (r * 2) ≡ slots (sorts (fields_in_of r))
unfolding task_of
task_even r =
    let e : r * 2 / 2 ≡ r = omega arith in
    rw (eq-eqb (r * 2 % 2) 0 (omega arith)) (ap (λ (x : ℕ). slots (sorts (fields_in_of x))) e)

task_odd : (w : ℕ) → task_of (w * 2 + 1) ≡ items_in w
unfolding task_of
task_odd w =
    let e : (w * 2 + 1) / 2 ≡ w = omega arith in
    rw (ne_eqb ((w * 2 + 1) % 2) 0 (λ z. absurd (omega arith))) (ap items_in e)

-- ---- a step by its number and its values

pub step_by : {r s : Step} → r ≡ s → StepIs r s
step_by e = record { number = ap step_number e; values = ap step_values e }

abbrev step_with : Option ℕ → Option (told.Event × Cursor) → Step
step_with n (some x) = Next x.0 x.1
step_with none none = Full
step_with (some zero) none = Done
step_with (some (suc n)) none = Refused

back : (r : Step) → step_with (step_number r) (step_values r) ≡ r
back (Next e c) = refl
back Done = refl
back Refused = refl
back Full = refl

pub step_is : {r s : Step} → StepIs r s → r ≡ s
step_is {r} {s} h = sym (back r) ∙ (λ i. step_with (h.number i) (h.values i)) ∙ back s

pub took : {l fs later : List ℕ} {g : Got (List Event)} {at deep : ℕ} {r : Step} → Stepped l fs later g at deep r → Took l fs later g at deep r
took {l} {fs} {later} {g} {at} {deep} {r} so = record { number = go r so; so = so }
  where
    go : (r : Step) → Stepped l fs later g at deep r → (n : ℕ) → step_number r ≡ some (suc n) → got_number g ≡ suc n
    go (Next e c) so n w = let z : ◌≡◌ {A = ℕ} 0 (suc n) = cc in absurd (omega arith)
    go Done so n w = let z : ◌≡◌ {A = ℕ} 0 (suc n) = cc in absurd (omega arith)
    go Refused so n w = let z : ◌≡◌ {A = ℕ} 3 (suc n) = cc in ap got_number so.0 ∙ z
    go Full so n w = let z : ◌≡◌ {A = ℕ} 0 1 = cc in absurd (omega arith)

-- ---- what is pending may be said in another way

pub took_as : {l fs later : List ℕ} {g h : Got (List Event)} {at deep : ℕ} {r : Step} → g ≡ h → Took l fs later h at deep r → Took l fs later g at deep r
took_as {l} {fs} {later} {g} {h} {at} {deep} {r} e t = subst (λ (x : Got (List Event)). Took l fs later x at deep r) (sym e) t

pub found_true : {r m b : Bool} → r ≡ m → r ≡ b → m ≡ b
found_true e t = sym e ∙ t

-- a task above all numbers of lists without items is not done
pub closed_far : (top : ℕ) → 127 < top → false ≡ is_closed top
closed_far top h = go (eqb (top % 2) 0)
  where
    go : (even : Bool) → false ≡ cond even (eqb top 0) (ltb top 128)
    go true = sym (ne_eqb top 0 (λ e. absurd (omega arith)))
    go false = sym (le-ltb top 128 (omega arith))

-- a kind that may stand there is a byte
pub enter_there : (l : List ℕ) (p at kind form : ℕ) → Peeked l at kind → form ≡ form_at rewritten p kind → (form ≡ 0 → ⊥) → at < length l
enter_there l p at kind form look found n = let h : kind < 64 = known rewritten p kind (omega arith) in look.within (omega arith)

closing_stands : (l : List ℕ) (at : ℕ) (node : Bool) → Stands l at (closing_in node) at
closing_stands l at true = refl
closing_stands l at false = refl

closing_level : (d : ℕ) (node : Bool) → d ≡ deep_after (closing_in node) (suc d)
closing_level d true = omega arith
closing_level d false = omega arith

closing_kept : (fs : List ℕ) (deep rest : ℕ) (node : Bool) → fs ≡ frames_after (closing_in node) deep rest fs
closing_kept fs deep rest true = refl
closing_kept fs deep rest false = refl

module _ (l fs : List ℕ) where
  -- ---- a node

  module _ (p at deep rest kind form : ℕ) (look : Peeked l at kind) (found : form ≡ form_at rewritten p kind) where
    form_is : form ≡ form_at rewritten p (byte_at l at)
    form_is = found ∙ ap (form_at rewritten p) look.value

    around : {g : Got (List Event)} → node_comes l p at 1 ≡ g → coming_node l fs p at deep rest ≡ and_then g (λ q j. pending l (task_of rest) (stack fs deep) q j)
    unfolding coming_node
    around e = ap (λ (x : Got (List Event)). and_then x (λ q j. pending l (task_of rest) (stack fs deep) q j)) e

    pub enter_wrong : form ≡ 0 → Took l fs fs (coming_node l fs p at deep rest) at deep Refused
    enter_wrong z = took (around (node_wrong l p at 1 (sym form_is ∙ z)), refl)

    module _ (stands : form ≡ 0 → ⊥) (map row : ℕ) (next : Peeked l (at + 1) map) (rowed : sorts (fields_in_of row) ≡ sorts (fields_of form)) where
      pub enter_unfit : map_ok (fields_of form) map ≡ false → Took l fs fs (coming_node l fs p at deep rest) at deep Refused
      enter_unfit bad = took (around (node_unfit l p at 1 kind form map look.value form_is next.value (omega arith) bad), refl)

      pub enter_inside : map_ok (fields_of form) map ≡ true → at + 1 < length l
      enter_inside ok = next.within (map_byte form map ok)

      pub plan_small : (r : ℕ) → Planned row map r → r < 1024 ^ 6
      plan_small r plan = plan.less 6 (row_small row form rowed)

      enter_seen : map_ok (fields_of form) map ≡ true → deep < length fs → (r : ℕ) → Planned row map r → Took l fs (set fs deep rest) (coming_node l fs p at deep rest) at deep (Next (Begins at kind map) (record { at = at + 2; deep = deep + 1; top = r * 2 }))
      unfolding coming_at comes
      enter_seen ok room r plan =
          let i : at + 1 < length l = enter_inside ok in
          let t : task_of (r * 2) ≡ slots (standing (fields_of form) map) = task_even r ∙ ap slots (planned_stands row map r form rowed (row_small row form rowed) plan) in
          took (record {
            is =
                around refl
                ∙ entered l (slots (standing (fields_of form) map)) (task_of rest) (stack fs deep) (begins at kind map) (at + 2) 1 (node_comes l p at 1) (node_fits l p at 1 kind form map look.value form_is next.value (omega arith) ok)
                ∙ ap (λ (x : Task). led (begins at kind map) (pending l x (task_of rest ∷ stack fs deep) (at + 2) 1)) (sym t)
                ∙ ap (λ (us : List Task). led (begins at kind map) (pending l (task_of (r * 2)) us (at + 2) 1)) (sym (stack_push fs deep rest room));
            stands = (refl, look.value, next.value, known rewritten p kind (omega arith), map_byte form map ok, refl);
            level = refl;
            rest = rest;
            kept = refl;
            inside = λ h. omega arith;
            room = λ h. omega arith;
            falls = λ h. omega arith;
          })

      pub enter_node : map_ok (fields_of form) map ≡ true → deep < length fs → (r : ℕ) → Planned row map r → Took l fs (set fs deep rest) (coming_node l fs p at deep rest) at deep (Next (Begins at (byte_at l at) (byte_at l (at + 1))) (record { at = at + 2; deep = deep + 1; top = r * 2 }))
      enter_node ok room r plan = rw (sym look.value, sym next.value) (enter_seen ok room r plan)

  pub full : (g : Got (List Event)) (at deep : ℕ) → length fs ≤ deep → at + 1 < length l → Took l fs fs g at deep Full
  full g at deep h i = took (h, i, refl)

  -- ---- a list

  module _ (p : ℕ) (h : Bool) (at deep rest n : ℕ) (wide : Wide l at n) where
    pub enter_list_missing : 65535 < n → Took l fs fs (coming_piece l fs (list_sort h (p % 32)) at deep rest) at deep Refused
    unfolding coming_piece
    enter_list_missing m =
        let v : n ≡ wide_at l at = wide.value in
        let w : piece_comes l (list_sort h (p % 32)) at 1 ≡ refused not_a_tree = piece_list l (p % 32) h at 1 ∙ rw (le-ltb (wide_at l at) 65536 (omega arith)) in
        took (ap (λ (x : Got (List Event)). and_then x (λ q j. pending l (task_of rest) (stack fs deep) q j)) w, refl)

    -- the frame of a list without its last digit
    list_task : (w low : ℕ) → w ≡ 64 * n + p % 32 * 2 + low → low ≡ cond h 1 0 → task_of (w * 2 + 1) ≡ items (p % 32) h n
    list_task w low v e = go h e
      where
        at_low : (b : ℕ) (c : Bool) → b < 2 → w ≡ 64 * n + p % 32 * 2 + b → eqb b 1 ≡ c → task_of (w * 2 + 1) ≡ items (p % 32) c n
        at_low b c s u t =
            let x : w / 2 % 32 ≡ p % 32 = omega arith in
            let y : w % 2 ≡ b = omega arith in
            let z : w / 64 ≡ n = omega arith in
            task_odd w ∙ rw (x, y, z, t)

        go : (c : Bool) → low ≡ cond c 1 0 → task_of (w * 2 + 1) ≡ items (p % 32) c n
        go true f = at_low 1 true (omega arith) (omega arith) refl
        go false f = at_low 0 false (omega arith) (omega arith) refl

    enter_counted : n ≤ 65535 → deep < length fs → (w low : ℕ) → w ≡ 64 * n + p % 32 * 2 + low → low ≡ cond h 1 0 → Took l fs (set fs deep rest) (coming_piece l fs (list_sort h (p % 32)) at deep rest) at deep (Next (Opens n) (record { at = at + 2; deep = deep + 1; top = w * 2 + 1 }))
    unfolding coming_piece coming_at comes
    enter_counted m room x low u e =
        let v : n ≡ wide_at l at = wide.value in
        let i : at + 1 < length l = wide.within (omega arith) in
        let w : piece_comes l (list_sort h (p % 32)) at 1 ≡ led (opens n) (mapped (λ es. es ++ (closes ∷ [])) (items_come l (p % 32) h n (at + 2) 1)) = rw v (piece_list l (p % 32) h at 1 ∙ rw (lt-ltb (wide_at l at) 65536 (omega arith))) in
        took (record {
          is =
              entered l (items (p % 32) h n) (task_of rest) (stack fs deep) (opens n) (at + 2) 1 (piece_comes l (list_sort h (p % 32)) at 1) w
              ∙ ap (λ (x : Task). led (opens n) (pending l x (task_of rest ∷ stack fs deep) (at + 2) 1)) (sym (list_task x low u e))
              ∙ ap (λ (us : List Task). led (opens n) (pending l (task_of (x * 2 + 1)) us (at + 2) 1)) (sym (stack_push fs deep rest room));
          stands = (v, omega arith, refl);
          level = refl;
          rest = rest;
          kept = refl;
          inside = λ z. omega arith;
          room = λ z. omega arith;
          falls = λ z. omega arith;
        })

    pub enter_list : n ≤ 65535 → deep < length fs → (w low : ℕ) → w ≡ 64 * n + p % 32 * 2 + low → low ≡ cond h 1 0 → low < 2 → Took l fs (set fs deep rest) (coming_piece l fs (list_sort h (p % 32)) at deep rest) at deep (Next (Opens (w / 64)) (record { at = at + 2; deep = deep + 1; top = w * 2 + 1 }))
    enter_list m room w low u e f = let z : w / 64 ≡ n = omega arith in rw z (enter_counted m room w low u e)

  -- ---- the end of a node or a list

  pub close_some : (at deep top : ℕ) (node : Bool) → (deep ≡ 0 → ⊥) → top ≡ get_or fs (deep - 1) 0 → Next (closing_in node) (record { at = at; deep = deep - 1; top = top }) ≡ step_closed fs at deep node
  close_some at zero top node n e = absurd (n refl)
  close_some at (suc d) top node n e =
      let s : suc d - 1 ≡ d = omega arith in
      ap (λ (x : ℕ). Next (closing_in node) (record { at = at; deep = suc d - 1; top = x })) e
      ∙ ap (λ (x : ℕ). Next (closing_in node) (record { at = at; deep = x; top = get_or fs x 0 })) s

  ended : (t : Task) (node : Bool) (at deep : ℕ) → pending l t [] at 1 ≡ got [] at 1 → ((u : Task) (us : List Task) → pending l t (u ∷ us) at 1 ≡ led (event_in l (closing_in node)) (pending l u us at 1)) → Took l fs fs (pending l t (stack fs deep) at 1) at deep (step_closed fs at deep node)
  unfolding stack coming_at
  ended t node at zero a b = took (a, refl)
  ended t node at (suc d) a b = took (record { is = b (task_of (get_or fs d 0)) (stack fs d); stands = closing_stands l at node; level = closing_level d node; rest = 0; kept = closing_kept fs (suc d) 0 node; inside = λ h. h; room = λ h. omega arith; falls = λ h. omega arith })

  pub closed_node : (at deep row : ℕ) (r : Step) → row ≡ 0 → r ≡ step_closed fs at deep true → Took l fs fs (coming_fields l fs at deep row) at deep r
  unfolding coming_fields
  closed_node at deep row r z e = rw e (took_as (ap (λ (ss : List Sort). pending l (slots ss) (stack fs deep) at 1) (sorts_none row z)) (ended (slots []) true at deep (all_done l at 1) (λ u us. node_ends l u us at 1)))

  list_done : (p : ℕ) (h : Bool) (at : ℕ) → pending l (items p h 0) [] at 1 ≡ got [] at 1
  unfolding pending comes
  list_done p h at = items_none l p h at 1

  pub closed_list : (at deep w : ℕ) (r : Step) → w < 64 → r ≡ step_closed fs at deep false → Took l fs fs (coming_items l fs at deep w) at deep r
  unfolding coming_items
  closed_list at deep w r z e =
      let n : w / 64 ≡ 0 = omega arith in
      rw e (took_as (ap (λ (x : ℕ). pending l (items (w / 2 % 32) (eqb (w % 2) 1) x) (stack fs deep) at 1) n) (ended (items (w / 2 % 32) (eqb (w % 2) 1) 0) false at deep (list_done (w / 2 % 32) (eqb (w % 2) 1) at) (λ u us. list_closes l (w / 2 % 32) (eqb (w % 2) 1) u us at 1)))

  -- ---- the next item of a list

  module _ (at deep w : ℕ) (some : 64 ≤ w) where
    items_split : items_in w ≡ items (w / 2 % 32) (eqb (w % 2) 1) (suc ((w - 64) / 64))
    items_split = let e : w / 64 ≡ suc ((w - 64) / 64) = omega arith in ap (λ (x : ℕ). items (w / 2 % 32) (eqb (w % 2) 1) x) e

    items_left : task_of ((w - 64) * 2 + 1) ≡ items (w / 2 % 32) (eqb (w % 2) 1) ((w - 64) / 64)
    items_left =
        let a : (w - 64) / 2 % 32 ≡ w / 2 % 32 = omega arith in
        let b : (w - 64) % 2 ≡ w % 2 = omega arith in
        task_odd (w - 64)
        ∙ ap (λ (x : ℕ). items x (eqb ((w - 64) % 2) 1) ((w - 64) / 64)) a
        ∙ ap (λ (x : ℕ). items (w / 2 % 32) (eqb x 1) ((w - 64) / 64)) b

    pub item_is_hole : w % 2 ≡ 1 → (b : ℕ) → Peeked l at b → b ≡ 0 → Took l fs fs (coming_items l fs at deep w) at deep (Next Hole (record { at = at + 1; deep = deep; top = (w - 64) * 2 + 1 }))
    unfolding coming_items coming_at
    item_is_hole o b look z =
        let i : at < length l = look.within (omega arith) in
        let t : eqb (w % 2) 1 ≡ true = eq-eqb (w % 2) 1 o in
        took (record {
          is =
              ap (λ (x : Task). pending l x (stack fs deep) at 1) items_split
              ∙ ap (λ (x : Bool). pending l (items (w / 2 % 32) x (suc ((w - 64) / 64))) (stack fs deep) at 1) t
              ∙ item_hole l (w / 2 % 32) ((w - 64) / 64) (stack fs deep) at 1 (sym look.value ∙ z)
              ∙ ap (λ (x : Bool). led Event.hole (pending l (items (w / 2 % 32) x ((w - 64) / 64)) (stack fs deep) (at + 1) 1)) (sym t)
              ∙ ap (λ (x : Task). led Event.hole (pending l x (stack fs deep) (at + 1) 1)) (sym items_left);
          stands = (sym look.value ∙ z, refl);
          level = refl;
          rest = 0;
          kept = refl;
          inside = λ h. omega arith;
          room = λ h. omega arith;
          falls = λ h. omega arith;
        })

    node_next : (h : Bool) → eqb (w % 2) 1 ≡ h → items_come l (w / 2 % 32) h (suc ((w - 64) / 64)) at 1 ≡ and_then (node_comes l (w / 2 % 32) at 1) (λ q j. items_come l (w / 2 % 32) h ((w - 64) / 64) q j) → coming_items l fs at deep w ≡ coming_node l fs (w / 2 % 32) at deep ((w - 64) * 2 + 1)
    unfolding coming_items coming_node
    node_next h t e =
        ap (λ (x : Task). pending l x (stack fs deep) at 1) items_split
        ∙ ap (λ (x : Bool). pending l (items (w / 2 % 32) x (suc ((w - 64) / 64))) (stack fs deep) at 1) t
        ∙ item_next l (w / 2 % 32) h ((w - 64) / 64) (stack fs deep) at 1 (node_comes l (w / 2 % 32) at 1) e
        ∙ ap (λ (x : Bool). and_then (node_comes l (w / 2 % 32) at 1) (λ q j. pending l (items (w / 2 % 32) x ((w - 64) / 64)) (stack fs deep) q j)) (sym t)
        ∙ ap (λ (x : Task). and_then (node_comes l (w / 2 % 32) at 1) (λ q j. pending l x (stack fs deep) q j)) (sym items_left)

    pub item_plain : (w % 2 ≡ 1 → ⊥) → coming_items l fs at deep w ≡ coming_node l fs (w / 2 % 32) at deep ((w - 64) * 2 + 1)
    item_plain o = node_next false (ne_eqb (w % 2) 1 o) (items_plain l (w / 2 % 32) ((w - 64) / 64) at 1)

    pub item_other : w % 2 ≡ 1 → (byte_at l at ≡ 0 → ⊥) → coming_items l fs at deep w ≡ coming_node l fs (w / 2 % 32) at deep ((w - 64) * 2 + 1)
    item_other o n = node_next true (eq-eqb (w % 2) 1 o) (items_other l (w / 2 % 32) ((w - 64) / 64) at 1 n)

  -- ---- the next field of a node

  module _ (at deep row : ℕ) (some : row ≡ 0 → ⊥) where
    pub field_first : coming_fields l fs at deep row ≡ coming_piece l fs (sort_of (row % 512)) at deep (row / 1024 * 2)
    unfolding coming_fields coming_piece
    field_first =
        ap (λ (ss : List Sort). pending l (slots ss) (stack fs deep) at 1) (sorts_first row (omega arith))
        ∙ field_next l (sort_of (row % 512)) (sorts (fields_in_of (row / 1024))) (stack fs deep) at 1
        ∙ ap (λ (x : Task). and_then (piece_comes l (sort_of (row % 512)) at 1) (λ q j. pending l x (stack fs deep) q j)) (sym (task_even (row / 1024)))

    -- the field's class is n
    pub field_class : (n : ℕ) → row % 512 / 32 ≡ n → coming_fields l fs at deep row ≡ coming_piece l fs (sort_from n (row % 512 % 32)) at deep (row / 1024 * 2)
    field_class n e = field_first ∙ ap (λ (x : ℕ). coming_piece l fs (sort_from x (row % 512 % 32)) at deep (row / 1024 * 2)) e

    as_node_lem : (s : Sort) (p : ℕ) → piece_comes l s at 1 ≡ node_comes l p at 1 → coming_piece l fs s at deep (row / 1024 * 2) ≡ coming_node l fs p at deep (row / 1024 * 2)
    unfolding coming_piece coming_node
    as_node_lem s p e = ap (λ (x : Got (List Event)). and_then x (λ q j. pending l (task_of (row / 1024 * 2)) (stack fs deep) q j)) e

    pub field_child : row % 512 / 32 ≡ 1 → coming_fields l fs at deep row ≡ coming_node l fs (row % 512 % 32) at deep (row / 1024 * 2)
    field_child e = field_class 1 e ∙ as_node_lem (child (row % 512 % 32)) (row % 512 % 32) (piece_child l (row % 512 % 32) at 1)

    pub field_chosen : row % 512 / 32 ≡ 2 → (p : ℕ) → p ≡ chosen_place l (row % 512 % 32) (row % 512 % 32 + 1) at → coming_fields l fs at deep row ≡ coming_node l fs p at deep (row / 1024 * 2)
    field_chosen e p v = field_class 2 e ∙ as_node_lem (chosen (row % 512 % 32) (row % 512 % 32 + 1)) p (piece_chosen l (row % 512 % 32) (row % 512 % 32 + 1) at 1 ∙ ap (λ (x : ℕ). node_comes l x at 1) (sym v))

    same_place : row % 512 % 32 % 32 ≡ row % 512 % 32
    same_place = omega arith

    pub field_many : row % 512 / 32 ≡ 3 → coming_fields l fs at deep row ≡ coming_piece l fs (list_sort false (row % 512 % 32 % 32)) at deep (row / 1024 * 2)
    field_many e = field_class 3 e ∙ ap (λ (x : ℕ). coming_piece l fs (many x) at deep (row / 1024 * 2)) (sym same_place)

    pub field_gaps : row % 512 / 32 ≡ 4 → coming_fields l fs at deep row ≡ coming_piece l fs (list_sort true (row % 512 % 32 % 32)) at deep (row / 1024 * 2)
    field_gaps e = field_class 4 e ∙ ap (λ (x : ℕ). coming_piece l fs (gaps x) at deep (row / 1024 * 2)) (sym same_place)

    pub field_other : number ≡ sort_of (row % 512) → coming_fields l fs at deep row ≡ coming_piece l fs number at deep (row / 1024 * 2)
    field_other c = field_first ∙ ap (λ (s : Sort). coming_piece l fs s at deep (row / 1024 * 2)) (sym c)

  -- a field that holds no node, and the task around it
  pub leaf_took : (at deep rest : ℕ) (s : Sort) (leaf : Leaf) → LeafSo l s at leaf → Took l fs fs (coming_piece l fs s at deep rest) at deep (step_after leaf deep rest)
  unfolding coming_piece coming_at
  leaf_took at deep rest s (Leaf.found e q) so =
      let a : at < q = so.2 in
      let b : q ≤ length l = so.3 in
      took (record {
        is = ap (λ (x : Got (List Event)). and_then x (λ q j. pending l (task_of rest) (stack fs deep) q j)) so.0;
        stands = so.1;
        level = sym (so.4 deep);
        rest = 0;
        kept = sym (so.5 deep 0 fs);
        inside = λ h. b;
        room = λ h. omega arith;
        falls = λ h. omega arith;
      })
  leaf_took at deep rest s Leaf.missing so = took (ap (λ (x : Got (List Event)). and_then x (λ q j. pending l (task_of rest) (stack fs deep) q j)) so, refl)

  -- ---- a node or a list

  pub top_node : (at deep top : ℕ) → top % 2 ≡ 0 → coming_at l fs at deep top ≡ coming_fields l fs at deep (top / 2)
  unfolding coming_at coming_fields task_of
  top_node at deep top z = rw (eq-eqb (top % 2) 0 z)

  pub top_list : (at deep top : ℕ) → (top % 2 ≡ 0 → ⊥) → coming_at l fs at deep top ≡ coming_items l fs at deep (top / 2)
  unfolding coming_at coming_items task_of
  top_list at deep top z = rw (ne_eqb (top % 2) 0 z)

  pub closed_top : (at deep top : ℕ) (node : Bool) (r : Step) → is_closed top ≡ true → node ≡ eqb (top % 2) 0 → r ≡ step_closed fs at deep node → Took l fs fs (coming_at l fs at deep top) at deep r
  closed_top at deep top node r c e s = elim (dec_lt 0 (top % 2)) [
    | yes o ↦
        let z : top % 2 ≡ 0 → ⊥ = λ x. absurd (omega arith) in
        let t : eqb (top % 2) 0 ≡ false = ne_eqb (top % 2) 0 z in
        let y : top < 128 = ltb-true top 128 (rw t at c) in
        took_as (top_list at deep top z) (closed_list at deep (top / 2) r (omega arith) (s ∙ ap (step_closed fs at deep) (e ∙ t)))
    | no o ↦
        let z : top % 2 ≡ 0 = omega arith in
        let t : eqb (top % 2) 0 ≡ true = eq-eqb (top % 2) 0 z in
        let y : top ≡ 0 = eqb-true top 0 (rw t at c) in
        took_as (top_node at deep top z) (closed_node at deep (top / 2) r (omega arith) (s ∙ ap (step_closed fs at deep) (e ∙ t)))
  ]
