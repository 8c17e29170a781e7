-- Functions and arrows whose parameters have patterns that are moved out, and their bodies: what the code does, one law for each way out.
-- Assumes nothing.
use mathlib.Core.Path.{◌≡◌, refl, sym, ap, ap₂, ◌∙◌, subst}
use mathlib.Core.Option.{Option}
use mathlib.Core.Bool.{Bool, true, false, cond, ◌&&◌}
use mathlib.Core.List.{List, [], ◌∷◌, ◌++◌}
use Prim.Native.Nat.{ℕ, zero, suc, ◌+◌, ◌-◌, ◌/◌, ◌%◌, ◌<◌}
use native.Mathlib.Omega.{arith}
use lib.Dec.{eqb}
use borrow.Author.Tests.{eq-eqb, eqb-true, eqb-false}
use Rattle.tree.specs.Tree.{Node, Fields, Items, wide_bytes, map_of, count}
use Rattle.tree.specs.Tree.Node.{node}
use Rattle.tree.specs.Grammar.{fields_of, kinds}
use Rattle.tree.specs.Read.{byte_at, wide_at}
use Rattle.tree.specs.Rows.{sort_of}
use Rattle.tree.specs.Look.{Seen, onward, look_items, look_field, look_slot, look_node}
use Rattle.tree.specs.Answer.{Peeked, Wide}
use Rattle.tree.proofs.Look.{on_within}
use Rattle.lowering.specs.Parts.{is, piece_in, items_at_of, stands, each, gather, any}
use Rattle.lowering.specs.Heads.{is_moved, moved_from}
use Rattle.lowering.proofs.Cases.{by_test, and_none}
use Rattle.sink.specs.Machine.{part}
use Rattle.sink.specs.Machine.Event.{new_mark}
use Rattle.pattern.specs.Tally.{limited}
use Rattle.direct.specs.Events.{Deed, Place, Emit, puts, marks, context_of, emits}
use Rattle.direct.specs.Events.Deed.{does}
use Rattle.direct.specs.Emit.{say, ◌▷◌, inner, scoped, marking, emits_items, emits_piece, stays}
use Rattle.direct.specs.Moved.{behind, makes, number, fronts, fresh, body_in, emits_given, function_fields, arrow_fields}
use Rattle.direct.proofs.Threads.{then_assoc, say_nothing, say_say}
use Rattle.direct.proofs.OneLevel.{emits_unchanged}
use Rattle.direct.proofs.RulesKeep.{function_kept, arrow_kept}
use Rattle.direct.proofs.Bodies.{emits_body_in, emits_directed_in, emits_return_in}
use Rattle.direct.proofs.HeadRules.{emits_function, emits_arrow, function_params}
use Rattle.direct.proofs.SimpleCopied.{mark_bytes}
use Rattle.walk.specs.declared.modes.Mode.TheVariants as modes
use Rattle.walk.specs.Run.{Going, Does}
use Rattle.walk.specs.Whole.{slot_deeds, GoodItems, GoodList, GoodField, GoodSlot, Good, Ruled}
use Rattle.walk.specs.Turns.{turns_of, AllSuit, AllBind}
use Rattle.walk.proofs.Running.{does_then, does_as, does_to, does_fresh}
use Rattle.walk.proofs.RefusalsWithoutMarks.{agree_say, agree_then, agree_marked}
use Rattle.walk.proofs.SpreadArguments.{does_from}
use Rattle.walk.proofs.Opened.{kind_byte, look_solid, ListOpen, BodyOpen, FunctionOpen, ArrowOpen, body_open, function_open, arrow_open, no_good, is_here, good_two}
use Rattle.walk.proofs.ListTurns.{turns_binding, suit_binding}
use Rattle.emit.proofs.MovesFit.{part_join, on_more, moves_within, moves_whole, count_within}
use Rattle.emit.proofs.MovedPatterns.{inner_place, scoped_place, kind_not, look_as, good_as, node_as, stands_as, slot_on, slot_off, Through, Slotted, Backed}
use Rattle.pattern.proofs.Fields.{stands_by, fields_stand}

module _ (t : List ℕ) where
  -- ---- the directives of a body: a list by its bit

  list_on : (R : ℕ → Seen Node) (G : ℕ → Type 0) (l : Bool) (c : Place) (bit at : ℕ) → eqb bit 1 ≡ true
      → ((look_slot t R (sort_of 96) bit at).next ≡ (look_items t R false (wide_at t at) (onward t at 2)).next)
      × (GoodList t R G l false at → GoodSlot t R G l (sort_of 96) bit at)
      × (slot_deeds t R l c (sort_of 96) bit at ≡ say (puts (wide_bytes (count (look_items t R false (wide_at t at) (onward t at 2)).value))) ▷ emits_items l c (look_items t R false (wide_at t at) (onward t at 2)).value)
  unfolding look_slot look_field GoodSlot GoodField slot_deeds emits_piece
  list_on R G l c bit at e = rw (eqb-true bit 1 e) (refl, (λ g. g), refl)

  list_off : (R : ℕ → Seen Node) (G : ℕ → Type 0) (l : Bool) (c : Place) (bit at : ℕ) → bit < 2 → eqb bit 1 ≡ false
      → ((look_slot t R (sort_of 96) bit at).next ≡ at) × GoodSlot t R G l (sort_of 96) bit at × (slot_deeds t R l c (sort_of 96) bit at ≡ say [])
  unfolding look_slot GoodSlot slot_deeds
  list_off R G l c bit at h e =
      let z : bit ≡ 0 = omega (arith, eqb-false bit 1 e) in
      rw z (refl, tt, refl)

  -- ---- a function body with new statements in front

  module _ (d at bit : ℕ) (op : BodyOpen t d at) (bit_is : bit ≡ byte_at t (onward t at 1) % 2) where
    abbrev bit1 : Bool
    bit1 = eqb (byte_at t (onward t at 1) % 2) 1

    -- where the count of statements stands
    abbrev place : ℕ
    place = cond bit1 (look_items t (look_node t d) false (wide_at t (onward t at 2)) (onward t (onward t at 2) 2)).next (onward t at 2)

    abbrev statements : Seen Items
    statements = look_items t (look_node t d) false (wide_at t place) (onward t place 2)

    stand : (b : Bool) → bit1 ≡ b → eqb bit 1 ≡ b
    stand b e = ap (λ (x : ℕ). eqb x 1) bit_is ∙ e

    directives_end : (look_slot t (look_node t d) (sort_of 96) bit (onward t at 2)).next ≡ place
    directives_end =
        by_test bit1
        (λ e. (list_on (look_node t d) (Good t d) true (record { root = false; statement = false; mark = 0 }) bit (onward t at 2) (stand true e)).0
        ∙ ap (λ (x : Bool). cond x (look_items t (look_node t d) false (wide_at t (onward t at 2)) (onward t (onward t at 2) 2)).next (onward t at 2)) (sym e))
        (λ e. (list_off (look_node t d) (Good t d) true (record { root = false; statement = false; mark = 0 }) bit (onward t at 2) (omega arith) (stand false e)).0
        ∙ ap (λ (x : Bool). cond x (look_items t (look_node t d) false (wide_at t (onward t at 2)) (onward t (onward t at 2) 2)).next (onward t at 2)) (sym e))

    directives_good : GoodSlot t (look_node t d) (Good t d) true (sort_of 96) bit (onward t at 2)
    directives_good =
        by_test bit1
        (λ e.
        let ds : ListOpen t d at true false (onward t at 2) = op.directives e in
        (list_on (look_node t d) (Good t d) true (record { root = false; statement = false; mark = 0 }) bit (onward t at 2) (stand true e)).1
        (record { head = ds.head ∙ ap (λ (n : ℕ). wide_bytes n) (sym ds.many); small = ds.small; items = ds.good }))
        (λ e. (list_off (look_node t d) (Good t d) true (record { root = false; statement = false; mark = 0 }) bit (onward t at 2) (omega arith) (stand false e)).1)

    body_end : (look_node t (suc d) at).next ≡ statements.next
    body_end = by_test bit1 (λ e. ap (λ (x : Seen Node). x.next) (op.directed e)) (λ e. ap (λ (x : Seen Node). x.next) (op.bare e))

    -- its bytes, its directives, the count, new statements, its own
    body_deeds : (c : Place) (ps : Items)
        → say (puts (part at (onward t at 2) t)) ▷ slot_deeds t (look_node t d) true (inner c) (sort_of 96) bit (onward t at 2)
        ▷ say (puts (wide_bytes (count statements.value + number ps))) ▷ fronts (inner c) ps ▷ emits_items true (inner c) statements.value
        ≡ emits c (body_in ps (look_node t (suc d) at).value)
    body_deeds c ps =
        let ns : Items = statements.value in
        let n : ℕ = count ns + number ps in
        let rest : Emit = fronts (inner c) ps ▷ emits_items true (inner c) ns in
        by_test bit1
        (λ e.
        let ds : Items = (look_items t (look_node t d) false (wide_at t (onward t at 2)) (onward t (onward t at 2) 2)).value in
        let more : Emit = say (puts (wide_bytes n)) ▷ rest in
        let s = list_on (look_node t d) (Good t d) true (inner c) bit (onward t at 2) (stand true e) in
        ap₂ (λ (bs : List ℕ) (x : Emit). say (puts bs) ▷ x ▷ more) (op.head ∙ ap (λ (x : Bool). 16 ∷ cond x 3 2 ∷ []) e) s.2
        ∙ ap (λ (x : Emit). say (puts (16 ∷ 3 ∷ [])) ▷ x) (then_assoc (say (puts (wide_bytes (count ds)))) (emits_items true (inner c) ds) more)
        ∙ sym (then_assoc (say (puts (16 ∷ 3 ∷ []))) (say (puts (wide_bytes (count ds)))) (emits_items true (inner c) ds ▷ more))
        ∙ ap (λ (x : Emit). x ▷ emits_items true (inner c) ds ▷ more) (say_say (puts (16 ∷ 3 ∷ [])) (puts (wide_bytes (count ds))))
        ∙ sym (emits_directed_in c ps at ds ns)
        ∙ ap (λ (x : Seen Node). emits c (body_in ps x.value)) (sym (op.directed e)))
        (λ e.
        let s = list_off (look_node t d) (Good t d) true (inner c) bit (onward t at 2) (omega arith) (stand false e) in
        ap₂ (λ (bs : List ℕ) (x : Emit). say (puts bs) ▷ x ▷ say (puts (wide_bytes n)) ▷ rest) (op.head ∙ ap (λ (x : Bool). 16 ∷ cond x 3 2 ∷ []) e) s.2
        ∙ ap (λ (x : Emit). say (puts (16 ∷ 2 ∷ [])) ▷ x) (say_nothing (say (puts (wide_bytes n)) ▷ rest))
        ∙ sym (then_assoc (say (puts (16 ∷ 2 ∷ []))) (say (puts (wide_bytes n))) rest)
        ∙ ap (λ (x : Emit). x ▷ rest) (say_say (puts (16 ∷ 2 ∷ [])) (puts (wide_bytes n)))
        ∙ sym (emits_body_in c ps at ns)
        ∙ ap (λ (x : Seen Node). emits c (body_in ps x.value)) (sym (op.bare e)))

  -- what is said of a body by the code that writes it
  abbrev pub Bodied : ℕ → ℕ → ℕ → ℕ → ℕ → Going → Going → Place → Type 0
  Bodied d at x first n g g' c =
      c ≡ scoped c → Good t d at → GoodItems t (look_node t d) (Good t d) false false n first → AllBind false (look_items t (look_node t d) false n first).value
      → (x ≡ (look_node t d at).next) × Does g g' (emits c (body_in (gather moved_from (look_items t (look_node t d) false n first).value) (look_node t d at).value))

  pub body_done : {g g₁ g₂ g₃ g₄ g₅ g' : Going} (c c₁ : Place) (d l e at first n more s y bit q k v z x : ℕ) → l ≡ d - 1
      → more ≡ limited (number (gather moved_from (look_items t (look_node t d) false n first).value)) → c₁ ≡ scoped c → e ≡ l → s ≡ onward t at 2 → y ≡ s → Does g g₁ (say (puts (part at s t)))
      → bit ≡ byte_at t (onward t at 1) % 2 → Slotted t 96 bit e y q g₁ g₂ true c₁ → Wide t q k → (k + more < 65536 → Does g₂ g₃ (say (puts (wide_bytes (k + more)))))
      → Backed t false d n first g₃ g₄ c → g₅ ≡ g₄ → v ≡ onward t q 2 → z ≡ v
      → (x ≡ (look_items t (look_node t e) false k z).next) × (GoodItems t (look_node t e) (Good t e) true false k z → Does g₅ g' (emits_items true c₁ (look_items t (look_node t e) false k z).value))
      → byte_at t at ≡ 16 → Bodied d at x first n g g' c
  body_done c c₁ zero l e at first n more s y bit q k v z x ll mm cc ee ss yy cp bb sl kk wd bk to vv zz is kind sc good gi binds = no_good t at good
  body_done c c₁ (suc d) l e at first n more s y bit q k v z x ll mm cc ee ss yy cp bb sl kk wd bk to vv zz is kind sc good gi binds =
      let op : BodyOpen t d at = body_open t d at good kind in
      let ps : Items = gather moved_from (look_items t (look_node t (suc d)) false n first).value in
      let ed : e ≡ d = omega arith in
      let ya : y ≡ onward t at 2 = yy ∙ ss in
      let qp : q ≡ place d at bit op bb = sl.0 ∙ rw (ed, ya) (directives_end d at bit op bb) in
      let kp : k ≡ wide_at t (place d at bit op bb) = kk.value ∙ ap (λ (x : ℕ). wide_at t x) qp in
      let zp : z ≡ onward t (place d at bit op bb) 2 = zz ∙ vv ∙ ap (λ (x : ℕ). onward t x 2) qp in
      let same = look_as t false e d k _ z _ ed kp zp in
      let gs : GoodItems t (look_node t e) (Good t e) true false k z = good_as t true false e d k _ z _ ed kp zp op.list.good in
      let mn : more ≡ number ps = moves_whole t (suc d) more false n first mm gi in
      let small : k + more < 65536 = omega (arith, count_within t e true k z gs, moves_within t (suc d) false n first gi) in
      let kn : k ≡ count (statements d at bit op bb).value = kp ∙ sym op.list.many in
      let in₁ : c₁ ≡ inner c = cc ∙ sym sc ∙ sym (inner_place c sc) in (
        is.0 ∙ ap (λ (x : Seen Items). x.next) same ∙ sym (body_end d at bit op bb),
        does_as (does_then cp (does_then (sl.1 (rw (ed, ya) (directives_good d at bit op bb))) (does_then (wd small) (does_then (bk sc gi binds) (does_from to (is.1 gs))))))
            (rw (ss, in₁, ed, ya) refl
            ∙ ap₂ (λ (x : ℕ) (f : Emit). say (puts (part at (onward t at 2) t)) ▷ slot_deeds t (look_node t d) true (inner c) (sort_of 96) bit (onward t at 2) ▷ say (puts (wide_bytes x)) ▷ f)
            (ap₂ (λ (x y : ℕ). x + y) kn mn)
            (ap₂ (λ (p : Place) (w : Seen Items). fronts p ps ▷ emits_items true (inner c) w.value) (sym (inner_place c sc)) (look_as t false d d k _ z _ refl kp zp))
            ∙ body_deeds d at bit op bb c ps),
      )

  -- an expression: a body of one return
  pub body_returned : {g g₁ g₂ g₃ g₄ g₅ g₆ g' : Going} (c c₁ : Place) (d e at first n more k m y x : ℕ) → Peeked t at k → (k ≡ 16 → ⊥)
      → more ≡ limited (number (gather moved_from (look_items t (look_node t d) false n first).value)) → Does g g₁ (say (puts (16 ∷ 2 ∷ [])))
      → (more + 1 < 65536 → Does g₁ g₂ (say (puts (wide_bytes (more + 1))))) → Backed t false d n first g₂ g₃ c → m ≡ g₃.state.sink.mark → c₁ ≡ marking c m → e ≡ d
      → Does g₃ g₄ (say (puts (11 ∷ 3 ∷ []))) → Does g₄ g₅ (say (does new_mark ∷ [])) → g₆ ≡ g₅ → y ≡ at → Ruled t e y x g₆ g' (emits c₁) → Bodied d at x first n g g' c
  body_returned c c₁ zero e at first n more k m y x p z mm a wd bk mk cc ee r₁ r₂ to yy nd sc good gi binds = no_good t at good
  body_returned {g₃ = g₃} {g' = g'} c c₁ (suc d) e at first n more k m y x p z mm a wd bk mk cc ee r₁ r₂ to yy nd sc good gi binds =
      let b : Node = (look_node t (suc d) at).value in
      let ps : Items = gather moved_from (look_items t (look_node t (suc d)) false n first).value in
      let other : is 16 b ≡ false = kind_not t d at k 16 p z in
      let mn : more ≡ number ps = moves_whole t (suc d) more false n first mm gi in
      let ms : more + 1 ≡ suc (number ps) = omega arith in
      let small : more + 1 < 65536 = omega (arith, moves_within t (suc d) false n first gi) in
      let same = node_as t e (suc d) y at ee yy in
      let own : inner c ≡ c = inner_place c sc in
      let ret : ℕ → Emit = λ m. say (puts (11 ∷ 3 ∷ []) ++ (does new_mark ∷ [])) ▷ emits (marking (inner c) m) b in
      let last : Does g₃ g' (ret m) =
      does_as (does_then (does_as (does_then r₁ r₂) (say_say (puts (11 ∷ 3 ∷ [])) (does new_mark ∷ []))) (does_from to (nd.1 (stands_as t e (suc d) y at ee yy good))))
      (ap₂ (λ (p : Place) (v : Seen Node). say (puts (11 ∷ 3 ∷ []) ++ (does new_mark ∷ [])) ▷ emits p v.value) (cc ∙ ap (λ (p : Place). marking p m) (sym own)) same) in (
        nd.0 ∙ ap (λ (v : Seen Node). v.next) same,
        does_as (does_then (does_as (does_then a (wd small)) (say_say (puts (16 ∷ 2 ∷ [])) (puts (wide_bytes (more + 1))))) (does_then (bk sc gi binds) (does_fresh ret m mk (λ j. agree_then (agree_say (puts (11 ∷ 3 ∷ []) ++ (does new_mark ∷ []))) (agree_marked (inner c) b m j)) last)))
            (ap₂ (λ (v : ℕ) (p : Place). say (puts (16 ∷ 2 ∷ wide_bytes v)) ▷ fronts p ps ▷ fresh ret) ms (sym own)
            ∙ sym (emits_return_in c ps b other)),
      )

  -- ---- a node that stands by a bit, as the definition has it

  module _ (d : ℕ) where
    abbrev given_if : Bool → ℕ → Option Node
    given_if true q = Option.some (look_node t d q).value
    given_if false q = Option.none

  given_end : (d bit at : ℕ) → bit < 2 → (look_slot t (look_node t d) (sort_of 32) bit at).next ≡ cond (eqb bit 1) (look_node t d at).next at
  given_end d bit at h =
      let c : Place = record { root = false; statement = false; mark = 0 } in
      by_test (eqb bit 1)
      (λ e. (slot_on t (look_node t d) (Good t d) false c bit at e).0 ∙ ap (λ (b : Bool). cond b (look_node t d at).next at) (sym e))
      (λ e. (slot_off t (look_node t d) (Good t d) false c bit at h e).0 ∙ ap (λ (b : Bool). cond b (look_node t d at).next at) (sym e))

  given_good : (d bit at : ℕ) → bit < 2 → (eqb bit 1 ≡ true → Good t d at) → GoodSlot t (look_node t d) (Good t d) false (sort_of 32) bit at
  given_good d bit at h g =
      let c : Place = record { root = false; statement = false; mark = 0 } in
      by_test (eqb bit 1)
      (λ e. (slot_on t (look_node t d) (Good t d) false c bit at e).1 (g e))
      (λ e. (slot_off t (look_node t d) (Good t d) false c bit at h e).1)

  given_deeds_lem : (c : Place) (d bit at : ℕ) → bit < 2 → slot_deeds t (look_node t d) false c (sort_of 32) bit at ≡ emits_given (emits c) (given_if d (eqb bit 1) at)
  given_deeds_lem c d bit at h =
      by_test (eqb bit 1)
      (λ e. (slot_on t (look_node t d) (Good t d) false c bit at e).2 ∙ ap (λ (b : Bool). emits_given (emits c) (given_if d b at)) (sym e))
      (λ e. (slot_off t (look_node t d) (Good t d) false c bit at h e).2 ∙ ap (λ (b : Bool). emits_given (emits c) (given_if d b at)) (sym e))

  -- ---- functions

  body_stands : (d at : ℕ) → byte_at t at ≡ 14 → stands 5 (look_node t (suc d) at).value ≡ eqb (byte_at t (onward t at 1) / 32 % 2) 1
  unfolding look_node stands fields_of kinds stands_by
  body_stands d at k =
      let m : ℕ = byte_at t (onward t at 1) in
      let e : m / 2 / 2 / 2 / 2 / 2 % 2 ≡ m / 32 % 2 = omega arith in
      rw k (fields_stand t (λ q. look_node t d q) (fields_of 14) m (onward t at 2) 5 ∙ ap (λ (x : ℕ). eqb x 1) e)

  -- without a pattern that is moved out, or without a body
  pub unmoved : (d at : ℕ) (b : Bool) → b ≡ any is_moved (items_at_of 3 (look_node t d at).value) → b ≡ false → stands 5 (look_node t d at).value && any is_moved (items_at_of 3 (look_node t d at).value) ≡ false
  unmoved d at b e h = and_none (stands 5 (look_node t d at).value) (any is_moved (items_at_of 3 (look_node t d at).value)) (sym e ∙ h)

  pub bodiless : (d at : ℕ) (b : Bool) → b ≡ stands 5 (look_node t d at).value → b ≡ false → stands 5 (look_node t d at).value && any is_moved (items_at_of 3 (look_node t d at).value) ≡ false
  bodiless d at b e h = ap (λ (x : Bool). x && any is_moved (items_at_of 3 (look_node t d at).value)) (sym e ∙ h)

  pub function_plain : {g g' : Going} (c : Place) (d at x : ℕ) → stands 5 (look_node t d at).value && any is_moved (items_at_of 3 (look_node t d at).value) ≡ false → Ruled t d at x g g' (stays c)
      → byte_at t at ≡ 14 → Ruled t d at x g g' (emits c)
  function_plain c zero at x h r k = (r.0, λ good. no_good t at good)
  function_plain c (suc d) at x h r k =
      let n : Node = (look_node t (suc d) at).value in
      (r.0, λ good. does_as (r.1 good) (sym (emits_unchanged c n (function_kept (context_of c) n (is_here t d at 14 ∙ eq-eqb (byte_at t at) 14 k) h))))

  pub arrow_plain : {g g' : Going} (c : Place) (d at x : ℕ) (b : Bool) → b ≡ any is_moved (items_at_of 0 (look_node t d at).value) → b ≡ false → Ruled t d at x g g' (stays c)
      → byte_at t at ≡ 17 → Ruled t d at x g g' (emits c)
  arrow_plain c zero at x b e h r k = (r.0, λ good. no_good t at good)
  arrow_plain c (suc d) at x b e h r k =
      let n : Node = (look_node t (suc d) at).value in
      (r.0, λ good. does_as (r.1 good) (sym (emits_unchanged c n (arrow_kept (context_of c) n (is_here t d at 17 ∙ eq-eqb (byte_at t at) 17 k) (sym e ∙ h)))))

  module _ (d at : ℕ) where
    -- the places of the parameters, of the rest and of the body, and the parameters
    abbrev params : ℕ
    params = cond (eqb (byte_at t (onward t at 1) / 4 % 2) 1) (look_node t d (onward t at 5)).next (onward t at 5)

    abbrev bound : Seen Items
    bound = look_items t (look_node t d) false (wide_at t params) (onward t params 2)

    abbrev written : ℕ
    written = cond (eqb (byte_at t (onward t at 1) / 16 % 2) 1) (look_node t d bound.next).next bound.next

    function_deeds : (c : Place) → FunctionOpen t d at → any is_moved (items_at_of 3 (look_node t (suc d) at).value) ≡ true
        → say (makes (gather moved_from bound.value))
        ▷ say (puts (part at (onward t at 5) t))
        ▷ slot_deeds t (look_node t d) false (scoped c) (sort_of 32) (byte_at t (onward t at 1) / 4 % 2) (onward t at 5)
        ▷ say (puts (part params (onward t params 2) t))
        ▷ turns_of modes.Binding (scoped c) bound.value
        ▷ slot_deeds t (look_node t d) false (scoped c) (sort_of 32) (byte_at t (onward t at 1) / 16 % 2) bound.next
        ▷ emits (scoped c) (body_in (gather moved_from bound.value) (look_node t d written).value)
        ≡ emits c (look_node t (suc d) at).value
    function_deeds c op h =
        let m : ℕ = wide_at t (onward t at 2) in
        let sort : ℕ = byte_at t (onward t at 4) in
        let name : Option Node = given_if d (eqb (byte_at t (onward t at 1) / 4 % 2) 1) (onward t at 5) in
        let rest : Option Node = given_if d (eqb (byte_at t (onward t at 1) / 16 % 2) 1) bound.next in
        let qs : Items = bound.value in
        let b : Node = (look_node t d written).value in
        let fs : Fields = function_fields m sort name qs rest b in
        let value : (look_node t (suc d) at).value ≡ node at 14 fs = ap (λ (x : Seen Node). x.value) op.whole in
        let some : any is_moved qs ≡ true = ap (λ (x : Items). any is_moved x) (sym (function_params m sort at name qs rest b) ∙ ap (items_at_of 3) (sym value)) ∙ h in
        let map : byte_at t (onward t at 1) ≡ map_of fs = op.map in
        let head : puts (part at (onward t at 5) t) ≡ puts (14 ∷ map_of fs ∷ []) ++ (marks m ++ puts (sort ∷ [])) =
        ap puts (op.head ∙ ap (λ (x : ℕ). 14 ∷ x ∷ wide_bytes m ++ (sort ∷ [])) map) ∙ ap (λ (x : List Deed). puts (14 ∷ map_of fs ∷ []) ++ (x ++ puts (sort ∷ []))) (sym (mark_bytes m op.marked)) in
        let body : Emit = emits (scoped c) (body_in (gather moved_from qs) b) in
        ap₂ (λ (x : List Deed) (y : Emit). say (makes (gather moved_from qs)) ▷ say x ▷ y ▷ say (puts (part params (onward t params 2) t)) ▷ turns_of modes.Binding (scoped c) qs ▷ slot_deeds t (look_node t d) false (scoped c) (sort_of 32) (byte_at t (onward t at 1) / 16 % 2) bound.next ▷ body)
        head (given_deeds_lem (scoped c) d (byte_at t (onward t at 1) / 4 % 2) (onward t at 5) (omega arith))
        ∙ ap₂ (λ (x : List ℕ) (y : Emit). say (makes (gather moved_from qs)) ▷ say (puts (14 ∷ map_of fs ∷ []) ++ (marks m ++ puts (sort ∷ []))) ▷ emits_given (emits (scoped c)) name ▷ say (puts x) ▷ y ▷ slot_deeds t (look_node t d) false (scoped c) (sort_of 32) (byte_at t (onward t at 1) / 16 % 2) bound.next ▷ body)
        (op.list.head ∙ ap (λ (x : ℕ). wide_bytes x) (sym op.list.many)) (turns_binding (scoped c) qs (look_solid t (look_node t d) (wide_at t params) (onward t params 2)))
        ∙ ap (λ (y : Emit). say (makes (gather moved_from qs)) ▷ say (puts (14 ∷ map_of fs ∷ []) ++ (marks m ++ puts (sort ∷ []))) ▷ emits_given (emits (scoped c)) name ▷ say (puts (wide_bytes (count qs))) ▷ emits_items false (scoped c) (each behind qs) ▷ y ▷ body)
        (given_deeds_lem (scoped c) d (byte_at t (onward t at 1) / 16 % 2) bound.next (omega arith))
        ∙ sym (emits_function c at m sort name qs rest b some)
        ∙ ap (emits c) (sym value)

  pub function_moved : {g g₁ g₂ g₃ g₄ g₅ g₆ g₇ g' : Going} (c c₁ : Place) (d l e at q p bits s n first y₀ y₁ y₂ y₃ y₄ y₅ z w x : ℕ) (b f : Bool)
      → b ≡ any is_moved (items_at_of 3 (look_node t d at).value) → b ≡ true → f ≡ stands 5 (look_node t d at).value → f ≡ true → l ≡ d - 1 → c₁ ≡ scoped c → e ≡ l
      → q ≡ onward t at 5 → p ≡ onward t at 1 → Peeked t p bits → s ≡ (look_slot t (look_node t l) (sort_of 32) (bits / 4 % 2) q).next → Wide t s n → first ≡ onward t s 2
      → y₀ ≡ at → (GoodItems t (look_node t l) (Good t l) false false n first → AllSuit modes.Binding (look_items t (look_node t l) false n first).value → Does g g₁ (say (makes (gather moved_from (look_items t (look_node t l) false n first).value))))
      → y₁ ≡ q → Does g₁ g₂ (say (puts (part y₀ q t))) → Slotted t 32 (bits / 4 % 2) e y₁ y₂ g₂ g₃ false c₁ → y₃ ≡ first → Does g₃ g₄ (say (puts (part y₂ first t)))
      → Through t modes.Binding e false n y₃ y₄ g₄ g₅ c₁ → Slotted t 32 (bits / 16 % 2) e y₄ y₅ g₅ g₆ false c₁ → (byte_at t y₅ ≡ 16 → Bodied e y₅ z first n g₆ g₇ c₁)
      → g' ≡ g₇ → w ≡ (look_node t d at).next → x ≡ w → byte_at t at ≡ 14 → Ruled t d at x g g' (emits c)
  function_moved c c₁ zero l e at q p bits s n first y₀ y₁ y₂ y₃ y₄ y₅ z w x b f bb bt ff ft ll cc ee qq pp bi ss nn fi h₀ mk h₁ cp sl h₃ cq sq st bd to ww xx kind = (xx ∙ ww, λ good. no_good t at good)
  function_moved c c₁ (suc d) l e at q p bits s n first y₀ y₁ y₂ y₃ y₄ y₅ z w x b f bb bt ff ft ll cc ee qq pp bi ss nn fi h₀ mk h₁ cp sl h₃ cq sq st bd to ww xx kind = (
    xx ∙ ww,
    λ good.
        let op : FunctionOpen t d at = function_open t d at good kind (sym (body_stands d at kind) ∙ sym ff ∙ ft) in
        let ld : l ≡ d = omega arith in
        let ed : e ≡ d = omega arith in
        let mm : bits ≡ byte_at t (onward t at 1) = bi.value ∙ ap (λ (x : ℕ). byte_at t x) pp in
        let sp : s ≡ params d at = ss ∙ rw (ld, mm, qq) (given_end d (byte_at t (onward t at 1) / 4 % 2) (onward t at 5) (omega arith)) in
        let np : n ≡ wide_at t (params d at) = nn.value ∙ ap (λ (x : ℕ). wide_at t x) sp in
        let fp : first ≡ onward t (params d at) 2 = fi ∙ ap (λ (x : ℕ). onward t x 2) sp in
        let q₁ : y₁ ≡ onward t at 5 = h₁ ∙ qq in
        let q₂ : y₂ ≡ params d at = sl.0 ∙ rw (ed, mm, q₁) (given_end d (byte_at t (onward t at 1) / 4 % 2) (onward t at 5) (omega arith)) in
        let q₃ : y₃ ≡ onward t (params d at) 2 = h₃ ∙ fp in
        let suit : AllSuit modes.Binding (bound d at).value = suit_binding (bound d at).value op.params in
        let goodl : GoodItems t (look_node t l) (Good t l) false false n first = good_as t false false l d n _ first _ ld np fp op.list.good in
        let goode : GoodItems t (look_node t e) (Good t e) false false n first = good_as t false false e d n _ first _ ed np fp op.list.good in
        let goody : GoodItems t (look_node t e) (Good t e) false false n y₃ = good_as t false false e d n _ y₃ _ ed np q₃ op.list.good in
        let suitl : AllSuit modes.Binding (look_items t (look_node t l) false n first).value = subst (λ (is : Seen Items). AllSuit modes.Binding is.value) (sym (look_as t false l d n _ first _ ld np fp)) suit in
        let suite : AllSuit modes.Binding (look_items t (look_node t e) false n first).value = subst (λ (is : Seen Items). AllSuit modes.Binding is.value) (sym (look_as t false e d n _ first _ ed np fp)) suit in
        let suity : AllSuit modes.Binding (look_items t (look_node t e) false n y₃).value = subst (λ (is : Seen Items). AllSuit modes.Binding is.value) (sym (look_as t false e d n _ y₃ _ ed np q₃)) suit in
        let run = sq goody suity in
        let q₄ : y₄ ≡ (bound d at).next = run.0 ∙ ap (λ (is : Seen Items). is.next) (look_as t false e d n _ y₃ _ ed np q₃) in
        let q₅ : y₅ ≡ written d at = st.0 ∙ rw (ed, mm, q₄) (given_end d (byte_at t (onward t at 1) / 16 % 2) (bound d at).next (omega arith)) in
        let b16 : byte_at t y₅ ≡ 16 = ap (λ (x : ℕ). byte_at t x) q₅ ∙ kind_byte t d (written d at) 16 op.body op.kind16 in
        let done = bd b16 (scoped_place c c₁ cc) (stands_as t e d y₅ (written d at) ed q₅ op.body) goode (λ r. suite) in
        does_to to
        (does_as (does_then (mk goodl suitl) (does_then cp (does_then (sl.1 (rw (ed, mm, q₁) (given_good d (byte_at t (onward t at 1) / 4 % 2) (onward t at 5) (omega arith) op.name))) (does_then cq (does_then run.1 (does_then (st.1 (rw (ed, mm, q₄) (given_good d (byte_at t (onward t at 1) / 16 % 2) (bound d at).next (omega arith) op.rest))) done.1))))))
        (rw (cc, q₅, q₄, q₃, q₂, q₁, h₀, fp, np, mm, ed, ld, qq) refl ∙ function_deeds d at c op (sym bb ∙ bt))),
  )

  -- ---- arrows

  module _ (d at : ℕ) where
    -- the parameters, and the place of the body
    abbrev taken : Seen Items
    taken = look_items t (look_node t d) false (wide_at t (onward t at 2)) (onward t (onward t at 2) 2)

    abbrev body : ℕ
    body = cond (eqb (byte_at t (onward t at 1) / 2 % 2) 1) (look_node t d taken.next).next taken.next

    arrow_head : Good t (suc d) at → ArrowOpen t d at → part at (onward t (onward t at 2) 2) t ≡ 17 ∷ byte_at t (onward t at 1) ∷ wide_bytes (wide_at t (onward t at 2))
    arrow_head good op =
        let two : onward t at 2 ≡ at + 2 = good_two t (suc d) at good in
        part_join at (onward t at 2) (onward t (onward t at 2) 2) t (omega arith) (on_more t (onward t at 2) 2 (on_within t at 2))
        ∙ ap₂ (λ (x y : List ℕ). x ++ y) op.head op.list.head

    arrow_deeds : (c : Place) → Good t (suc d) at → ArrowOpen t d at → any is_moved (items_at_of 0 (look_node t (suc d) at).value) ≡ true
        → say (makes (gather moved_from taken.value))
        ▷ say (puts (part at (onward t (onward t at 2) 2) t))
        ▷ turns_of modes.Binding (scoped c) taken.value
        ▷ slot_deeds t (look_node t d) false (scoped c) (sort_of 32) (byte_at t (onward t at 1) / 2 % 2) taken.next
        ▷ emits (scoped c) (body_in (gather moved_from taken.value) (look_node t d body).value)
        ≡ emits c (look_node t (suc d) at).value
    unfolding items_at_of piece_in
    arrow_deeds c good op h =
        let rest : Option Node = given_if d (eqb (byte_at t (onward t at 1) / 2 % 2) 1) taken.next in
        let qs : Items = taken.value in
        let b : Node = (look_node t d body).value in
        let value : (look_node t (suc d) at).value ≡ node at 17 (arrow_fields qs rest b) = ap (λ (x : Seen Node). x.value) op.whole in
        let some : any is_moved qs ≡ true = ap (λ (x : Node). any is_moved (items_at_of 0 x)) (sym value) ∙ h in
        let last : Emit = emits (scoped c) (body_in (gather moved_from qs) b) in
        ap₂ (λ (x : List ℕ) (y : Emit). say (makes (gather moved_from qs)) ▷ say (puts x) ▷ y ▷ slot_deeds t (look_node t d) false (scoped c) (sort_of 32) (byte_at t (onward t at 1) / 2 % 2) taken.next ▷ last)
        (arrow_head good op ∙ ap₂ (λ (x y : ℕ). 17 ∷ x ∷ wide_bytes y) op.map (sym op.list.many)) (turns_binding (scoped c) qs (look_solid t (look_node t d) (wide_at t (onward t at 2)) (onward t (onward t at 2) 2)))
        ∙ ap (λ (y : Emit). say (makes (gather moved_from qs)) ▷ say (puts (17 ∷ map_of (arrow_fields qs rest b) ∷ wide_bytes (count qs))) ▷ emits_items false (scoped c) (each behind qs) ▷ y ▷ last)
        (given_deeds_lem (scoped c) d (byte_at t (onward t at 1) / 2 % 2) taken.next (omega arith))
        ∙ sym (emits_arrow c at qs rest b some)
        ∙ ap (emits c) (sym value)

  pub arrow_moved : {g g₁ g₂ g₃ g₄ g₅ g' : Going} (c c₁ : Place) (d l e at q n first y₀ y₁ y₂ y₃ bit z w x : ℕ) (b : Bool)
      → b ≡ any is_moved (items_at_of 0 (look_node t d at).value) → b ≡ true → l ≡ d - 1 → c₁ ≡ scoped c → e ≡ l → q ≡ onward t at 2 → Wide t q n → first ≡ onward t q 2
      → y₀ ≡ at → (GoodItems t (look_node t l) (Good t l) false false n first → AllSuit modes.Binding (look_items t (look_node t l) false n first).value → Does g g₁ (say (makes (gather moved_from (look_items t (look_node t l) false n first).value))))
      → y₁ ≡ first → Does g₁ g₂ (say (puts (part y₀ first t))) → Through t modes.Binding e false n y₁ y₂ g₂ g₃ c₁ → bit ≡ byte_at t (onward t at 1) / 2 % 2 → Slotted t 32 bit e y₂ y₃ g₃ g₄ false c₁
      → Bodied e y₃ z first n g₄ g₅ c₁ → g' ≡ g₅ → w ≡ (look_node t d at).next → x ≡ w → byte_at t at ≡ 17 → Ruled t d at x g g' (emits c)
  arrow_moved c c₁ zero l e at q n first y₀ y₁ y₂ y₃ bit z w x b bb bt ll cc ee qq nn fi h₀ mk h₁ cp sq bi st bd to ww xx kind = (xx ∙ ww, λ good. no_good t at good)
  arrow_moved c c₁ (suc d) l e at q n first y₀ y₁ y₂ y₃ bit z w x b bb bt ll cc ee qq nn fi h₀ mk h₁ cp sq bi st bd to ww xx kind = (
    xx ∙ ww,
    λ good.
        let op : ArrowOpen t d at = arrow_open t d at good kind in
        let ld : l ≡ d = omega arith in
        let ed : e ≡ d = omega arith in
        let np : n ≡ wide_at t (onward t at 2) = nn.value ∙ ap (λ (x : ℕ). wide_at t x) qq in
        let fp : first ≡ onward t (onward t at 2) 2 = fi ∙ ap (λ (x : ℕ). onward t x 2) qq in
        let q₁ : y₁ ≡ onward t (onward t at 2) 2 = h₁ ∙ fp in
        let suit : AllSuit modes.Binding (taken d at).value = suit_binding (taken d at).value op.params in
        let goodl : GoodItems t (look_node t l) (Good t l) false false n first = good_as t false false l d n _ first _ ld np fp op.list.good in
        let goode : GoodItems t (look_node t e) (Good t e) false false n first = good_as t false false e d n _ first _ ed np fp op.list.good in
        let goody : GoodItems t (look_node t e) (Good t e) false false n y₁ = good_as t false false e d n _ y₁ _ ed np q₁ op.list.good in
        let suitl : AllSuit modes.Binding (look_items t (look_node t l) false n first).value = subst (λ (is : Seen Items). AllSuit modes.Binding is.value) (sym (look_as t false l d n _ first _ ld np fp)) suit in
        let suite : AllSuit modes.Binding (look_items t (look_node t e) false n first).value = subst (λ (is : Seen Items). AllSuit modes.Binding is.value) (sym (look_as t false e d n _ first _ ed np fp)) suit in
        let suity : AllSuit modes.Binding (look_items t (look_node t e) false n y₁).value = subst (λ (is : Seen Items). AllSuit modes.Binding is.value) (sym (look_as t false e d n _ y₁ _ ed np q₁)) suit in
        let run = sq goody suity in
        let q₂ : y₂ ≡ (taken d at).next = run.0 ∙ ap (λ (is : Seen Items). is.next) (look_as t false e d n _ y₁ _ ed np q₁) in
        let q₃ : y₃ ≡ body d at = st.0 ∙ rw (ed, bi, q₂) (given_end d (byte_at t (onward t at 1) / 2 % 2) (taken d at).next (omega arith)) in
        let done = bd (scoped_place c c₁ cc) (stands_as t e d y₃ (body d at) ed q₃ op.body) goode (λ r. suite) in
        does_to to
        (does_as (does_then (mk goodl suitl) (does_then cp (does_then run.1 (does_then (st.1 (rw (ed, bi, q₂) (given_good d (byte_at t (onward t at 1) / 2 % 2) (taken d at).next (omega arith) op.rest))) done.1))))
        (rw (cc, q₃, q₂, q₁, h₀, fp, np, bi, ed, ld) refl ∙ arrow_deeds d at c good op (sym bb ∙ bt))),
  )
