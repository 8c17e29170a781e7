-- The argument of a spread: where it stands, and what is known of it; and the parts of a literal, the first before the rest.
-- Assumes nothing.
use mathlib.Core.Path.{◌≡◌, refl, sym, ap, ◌∙◌, subst}
use mathlib.Core.Bool.{Bool, true, false, cond, false≢true}
use mathlib.Core.List.{List, [], ◌∷◌}
use Prim.Native.Nat.{ℕ, zero, suc, ◌-◌, ◌%◌, ◌≤◌, ◌<◌}
use native.Mathlib.Omega.{arith}
use lib.Dec.{eqb}
use borrow.Author.Tests.{eqb-true, eqb-false, eq-eqb}
use Rattle.tree.specs.Tree.{Node, Fields, Piece, Items, wide_bytes}
use Rattle.tree.specs.Tree.Node.{node}
use Rattle.tree.specs.Grammar.{Sort, fields_of, kinds, expression, property}
use Rattle.tree.specs.Read.{byte_at, wide_at}
use Rattle.tree.specs.Look.{Seen, seen, onward, look_item, look_items, look_field, look_slot, look_fields, look_node}
use Rattle.lowering.specs.Parts.{is, node_at_of, items_at_of, piece_in, any}
use Rattle.direct.specs.Events.{Place, Emit, puts, emits}
use Rattle.direct.specs.Emit.{say, ◌▷◌, inner, stays}
use Rattle.direct.proofs.Threads.{then_assoc}
use Rattle.direct.proofs.LiteralsInOrder.{emits_spreads, emits_literal}
use Rattle.lowering.specs.Collect.{is_container}
use Rattle.tree.specs.Answer.{Wide}
use Rattle.walk.proofs.LiteralHeads.{run_bound, object_fields_lem, no_object_fields}
use Rattle.walk.proofs.Emits.{good_none}
use Rattle.direct.specs.Literals.{is_spread, run, part, parts, pending_head, heads, spreads, no_call_of}
use Rattle.walk.specs.Run.{Going, Does}
use Rattle.walk.specs.Whole.{hole_at, GoodItems, GoodList, GoodFields, GoodSlot, GoodField, Good}
use Rattle.walk.proofs.Running.{does_then, does_as}

pub does_from : {g h g' : Going} {e : Emit} → h ≡ g → Does h g' e → Does g g' e
does_from {g' = g'} {e = e} k d = subst (λ (x : Going). Does x g' e) k d

module _ (t : List ℕ) where
  pub spread_fields : (R : ℕ → Seen Node) (b m q : ℕ) → b ≡ 26 → m % 2 ≡ 1 → look_fields t R (fields_of b) m q ≡ seen (Fields.field (Piece.one (R q).value) Fields.done) (R q).next
  unfolding look_fields look_slot look_field fields_of kinds
  spread_fields R b m q e f = rw (e, f) refl

  pub no_spread : (at : ℕ) {A : Type 0} → is_spread (look_node t 0 at).value ≡ true → A
  unfolding look_node is
  no_spread at h = absurd (false≢true h)

  pub spread_kind : (d at : ℕ) → is_spread (look_node t (suc d) at).value ≡ true → byte_at t at ≡ 26
  unfolding look_node is
  spread_kind d at h = eqb-true (byte_at t at) 26 h

  spread_node : (d at : ℕ) → is_spread (look_node t (suc d) at).value ≡ true → byte_at t (onward t at 1) % 2 ≡ 1
      → (look_node t (suc d) at).value ≡ node at (byte_at t at) (Fields.field (Piece.one (look_node t d (onward t at 2)).value) Fields.done)
  unfolding look_node
  spread_node d at h m =
      ap (λ (s : Seen Fields). node at (byte_at t at) s.value)
      (spread_fields (λ q. look_node t d q) (byte_at t at) (byte_at t (onward t at 1)) (onward t at 2) (spread_kind d at h) m)

  pub arg_node : (d e at q : ℕ) → is_spread (look_node t d at).value ≡ true → byte_at t (onward t at 1) % 2 ≡ 1 → q ≡ onward t at 2 → e ≡ d - 1 → (look_node t e q).value ≡ node_at_of 0 (look_node t d at).value
  unfolding node_at_of piece_in
  arg_node zero e at q h m u v = no_spread at h
  arg_node (suc d) e at q h m u v =
      let i : e ≡ d = omega arith in
      ap (λ (x : ℕ). (look_node t x q).value) i ∙ ap (λ (x : ℕ). (look_node t d x).value) u ∙ ap (λ (s : Node). node_at_of 0 s) (sym (spread_node d at h m))

  child_good : (R : ℕ → Seen Node) (G : ℕ → Type 0) (l : Bool) (b m q : ℕ) → b ≡ 26 → m % 2 ≡ 1 → GoodFields t R G l (fields_of b) m q → G q
  unfolding GoodFields GoodSlot GoodField fields_of kinds
  child_good R G l b m q e f g =
      let x : GoodFields t R G l (fields_of 26) m q = subst (λ (z : ℕ). GoodFields t R G l (fields_of z) m q) e g in
      subst (λ (z : ℕ). GoodSlot t R G l (Sort.child expression) z q) f x.0

  pub arg_good : (d e at q : ℕ) → is_spread (look_node t d at).value ≡ true → byte_at t (onward t at 1) % 2 ≡ 1 → q ≡ onward t at 2 → e ≡ d - 1 → Good t d at → Good t e q
  unfolding Good
  arg_good zero e at q h m u v g = no_spread at h
  arg_good (suc d) e at q h m u v g =
      let i : e ≡ d = omega arith in
      rw (i, u) (child_good (λ q. look_node t d q) (λ q. Good t d q) _ (byte_at t at) (byte_at t (onward t at 1)) (onward t at 2) (spread_kind d at h) m g.below)

  -- ---- the parts of a literal

  pub parts_first : (R : ℕ → Seen Node) (c : Place) (n at q : ℕ) → 0 < n → q ≡ (R at).next
      → parts c (look_items t R false n at).value ≡ part c (R at).value (run (look_items t R false (n - 1) q).value) ▷ parts c (look_items t R false (n - 1) q).value
  unfolding look_items look_item parts
  parts_first R c zero at q z e = absurd (omega arith)
  parts_first R c (suc n) at q z e =
      let s : suc n - 1 ≡ n = omega arith in
      rw (s, e) refl

  pub parts_none : (R : ℕ → Seen Node) (c : Place) (n at : ℕ) → n ≤ 0 → parts c (look_items t R false n at).value ≡ say []
  unfolding look_items parts
  parts_none R c zero at z = refl
  parts_none R c (suc n) at z = absurd (omega arith)

-- a spread: its argument, then what is pending behind it
pub part_spread : {g g₁ g' : Going} (c : Place) (p a : Node) (k r : ℕ) → is_spread p ≡ true → a ≡ node_at_of 0 p → k ≡ r → Does g g₁ (emits c a) → Does g₁ g' (say (pending_head k)) → Does g g' (part c p r)
unfolding part
part_spread c p a k r h e f d b =
    does_as (does_then d b)
    (ap (λ (x : Node). emits c x ▷ say (pending_head k)) e ∙ ap (λ (x : ℕ). emits c (node_at_of 0 p) ▷ say (pending_head x)) f
    ∙ ap (λ (x : Bool). cond x (emits c (node_at_of 0 p) ▷ say (pending_head r)) (emits c p)) (sym h))

-- any other property
pub part_other : {g g' : Going} (c : Place) (p : Node) (r : ℕ) → is_spread p ≡ false → Does g g' (emits c p) → Does g g' (part c p r)
unfolding part
part_other c p r h d = does_as d (ap (λ (x : Bool). cond x (emits c (node_at_of 0 p) ▷ say (pending_head r)) (emits c p)) (sym h))

module _ (t : List ℕ) where
  -- ---- a property, by its tests

  arg_bit : (d at : ℕ) → is_spread (look_node t d at).value ≡ true → Good t d at → byte_at t (onward t at 1) % 2 ≡ 1
  unfolding Good
  arg_bit zero at h g = no_spread t at h
  arg_bit (suc d) at h g = g.arg (eq-eqb (byte_at t at) 26 (spread_kind t d at h))

  -- a spread whose argument does not stand is no good
  pub part_plain : {g g' : Going} (c : Place) (d at r : ℕ) (b f : Bool) → b ≡ is_spread (look_node t d at).value → f ≡ eqb (byte_at t (onward t at 1) % 2) 1 → b ≡ true → f ≡ false
      → Good t d at → Does g g' (part c (look_node t d at).value r)
  part_plain c d at r b f e u h w good = absurd (eqb-false (byte_at t (onward t at 1) % 2) 1 (sym u ∙ w) (arg_bit d at (sym e ∙ h) good))

  pub part_node : {g g' : Going} (c : Place) (d at r : ℕ) (b : Bool) → b ≡ is_spread (look_node t d at).value → b ≡ false
      → (Good t d at → Does g g' (emits c (look_node t d at).value)) → Good t d at → Does g g' (part c (look_node t d at).value r)
  part_node c d at r b e h k good = part_other c (look_node t d at).value r (sym e ∙ h) (k good)

  pub part_arg : {g h g₁ g₂ g' : Going} (c c' : Place) (d e at s q x n k : ℕ) (b f : Bool) → b ≡ is_spread (look_node t d at).value → f ≡ eqb (byte_at t (onward t at 1) % 2) 1 → b ≡ true → f ≡ true
      → s ≡ onward t at 2 → q ≡ s → e ≡ d - 1 → c' ≡ c → x ≡ (look_node t d at).next → k ≡ run (look_items t (look_node t d) false n x).value → h ≡ g
      → (Good t e q → Does h g₁ (emits c' (look_node t e q).value)) → g₂ ≡ g₁ → (k < 65536 → Does g₂ g' (say (pending_head k))) → n < 65536 → Good t d at
      → Does g g' (part c (look_node t d at).value (run (look_items t (look_node t d) false n (look_node t d at).next).value))
  part_arg c c' d e at s q x n k b f i u y w a o v z xx l m₁ nd m₂ pd small good =
      let sp : is_spread (look_node t d at).value ≡ true = sym i ∙ y in
      let m : byte_at t (onward t at 1) % 2 ≡ 1 = eqb-true (byte_at t (onward t at 1) % 2) 1 (sym u ∙ w) in
      let oo : q ≡ onward t at 2 = o ∙ a in
      let kk : k ≡ run (look_items t (look_node t d) false n (look_node t d at).next).value = l ∙ ap (λ (y : ℕ). run (look_items t (look_node t d) false n y).value) xx in
      let bound : run (look_items t (look_node t d) false n x).value ≤ n = run_bound t (look_node t d) n x in
      let kz : k < 65536 = omega arith in
      part_spread c (look_node t d at).value (look_node t e q).value k _ sp (arg_node t d e at q sp m oo v) kk
      (does_from m₁ (does_as (nd (arg_good t d e at q sp m oo v good)) (ap (λ (y : Place). emits y (look_node t e q).value) z))) (does_from m₂ (pd kz))

  -- ---- a literal

  literal_view : (d at : ℕ) → byte_at t at ≡ 24 → any is_spread (items_at_of 0 (look_node t (suc d) at).value) ≡ true → byte_at t (onward t at 1) % 2 ≡ 1
  unfolding look_node items_at_of piece_in any
  literal_view d at k h = go (eqb (byte_at t (onward t at 1) % 2) 1) refl
    where
      go : (b : Bool) → eqb (byte_at t (onward t at 1) % 2) 1 ≡ b → byte_at t (onward t at 1) % 2 ≡ 1
      go true e = eqb-true (byte_at t (onward t at 1) % 2) 1 e
      go false e =
          let m : byte_at t (onward t at 1) % 2 ≡ 0 = omega (arith, eqb-false (byte_at t (onward t at 1) % 2) 1 e) in
          let z : false ≡ any is_spread (items_at_of 0 (node at (byte_at t at) (look_fields t (λ q. look_node t d q) (fields_of (byte_at t at)) (byte_at t (onward t at 1)) (onward t at 2)).value)) =
          ap (λ (s : Seen Fields). any is_spread (items_at_of 0 (node at (byte_at t at) s.value))) (sym (no_object_fields t (λ q. look_node t d q) (byte_at t at) (byte_at t (onward t at 1)) (onward t at 2) k m)) in
          absurd (false≢true (z ∙ h))

  object_node : (d at : ℕ) → byte_at t at ≡ 24 → byte_at t (onward t at 1) % 2 ≡ 1
      → (look_node t (suc d) at).value ≡ node at (byte_at t at) (Fields.field (Piece.list (look_items t (λ q. look_node t d q) false (wide_at t (onward t at 2)) (onward t (onward t at 2) 2)).value) Fields.done)
  unfolding look_node
  object_node d at k m =
      ap (λ (s : Seen Fields). node at (byte_at t at) s.value)
      (object_fields_lem t (λ q. look_node t d q) (byte_at t at) (byte_at t (onward t at 1)) (onward t at 2) k m)

  list_good : (R : ℕ → Seen Node) (G : ℕ → Type 0) (b m q : ℕ) → b ≡ 24 → m % 2 ≡ 1 → GoodFields t R G (is_container b) (fields_of b) m q → GoodList t R G false false q
  unfolding GoodFields GoodSlot GoodField fields_of kinds is_container
  list_good R G b m q e f g =
      let x : GoodFields t R G false (fields_of 24) m q = subst (λ (z : ℕ). GoodFields t R G (is_container z) (fields_of z) m q) e g in
      subst (λ (z : ℕ). GoodSlot t R G false (Sort.many property) z q) f x.0

  kind_24 : (d at : ℕ) → byte_at t at ≡ 24 → is 24 (look_node t (suc d) at).value ≡ true
  unfolding look_node is
  kind_24 d at k = eq-eqb (byte_at t at) 24 k

  pub object_plain : {g g' : Going} (c : Place) (d at : ℕ) (b : Bool) → (byte_at t at ≡ 24 → b ≡ any is_spread (items_at_of 0 (look_node t d at).value)) → b ≡ false → byte_at t at ≡ 24
      → (Good t d at → Does g g' (stays c (look_node t d at).value)) → Good t d at → Does g g' (emits c (look_node t d at).value)
  object_plain c zero at b e h k f good = good_none t zero at refl good
  object_plain c (suc d) at b e h k f good = does_as (f good) (sym (emits_literal c (look_node t (suc d) at).value (kind_24 d at k) (sym (e k) ∙ h)))

  pub object_does : {g g₁ h g' : Going} (c c' : Place) (d e at q p n x : ℕ) (b : Bool) → (byte_at t at ≡ 24 → b ≡ any is_spread (items_at_of 0 (look_node t d at).value)) → b ≡ true → byte_at t at ≡ 24 → q ≡ onward t at 2 → p ≡ onward t q 2 → Wide t q n → e ≡ d - 1 → x ≡ p
      → c' ≡ inner c → h ≡ g₁
      → (n < 65536 → Does g g₁ (say (heads no_call_of (look_items t (look_node t e) false n p).value) ▷ say (puts (24 ∷ 1 ∷ wide_bytes (run (look_items t (look_node t e) false n p).value)))))
      → (n < 65536 → GoodItems t (look_node t e) (Good t e) false false n x → Does h g' (parts c' (look_items t (look_node t e) false n x).value))
      → Good t d at → Does g g' (emits c (look_node t d at).value)
  unfolding Good is spreads items_at_of piece_in
  object_does {g₁ = g₁} {g' = g'} c c' zero e at q p n x b f h k u v w i o y z a r good = absurd good
  object_does {g₁ = g₁} {g' = g'} c c' (suc d) e at q p n x b f h k u v w i o y z a r good =
      let j : e ≡ d = omega arith in
      let m : byte_at t (onward t at 1) % 2 ≡ 1 = literal_view d at k (sym (f k) ∙ h) in
      let gl : GoodList t (λ q. look_node t d q) (λ q. Good t d q) false false (onward t at 2) = list_good (λ q. look_node t d q) (λ q. Good t d q) (byte_at t at) (byte_at t (onward t at 1)) (onward t at 2) k m good.below in
      let nn : n ≡ wide_at t (onward t at 2) = w.value ∙ ap (λ (z : ℕ). wide_at t z) u in
      let small : n < 65536 = subst (λ (z : ℕ). z < 65536) (sym nn) gl.small in
      let pp : p ≡ onward t (onward t at 2) 2 = v ∙ ap (λ (z : ℕ). onward t z 2) u in
      let gi : GoodItems t (look_node t e) (Good t e) false false n x = rw (j, nn, o, pp) gl.items in
      let ps : Items = (look_items t (look_node t e) false n p).value in
      let same : ps ≡ items_at_of 0 (look_node t (suc d) at).value = rw (j, nn, pp) refl ∙ ap (λ (z : Node). items_at_of 0 z) (sym (object_node d at k m)) in
      let last : Does g₁ g' (parts (inner c) ps) = does_as (does_from z (r small gi)) (ap (λ (y : Place). parts y (look_items t (look_node t e) false n x).value) y ∙ ap (λ (y : ℕ). parts (inner c) (look_items t (look_node t e) false n y).value) o) in
      does_as {e = (say (heads no_call_of ps) ▷ say (puts (24 ∷ 1 ∷ wide_bytes (run ps)))) ▷ parts (inner c) ps} (does_then (a small) last)
      (then_assoc (say (heads no_call_of ps)) (say (puts (24 ∷ 1 ∷ wide_bytes (run ps)))) (parts (inner c) ps)
      ∙ ap (λ (is : Items). spreads c is) same
      ∙ sym (emits_spreads c (look_node t (suc d) at).value (kind_24 d at k) (sym (f k) ∙ h)))

  -- ---- as the code has them

  pub items_next : (R : ℕ → Seen Node) (n at q : ℕ) → 0 < n → q ≡ (R at).next → (look_items t R false (n - 1) q).next ≡ (look_items t R false n at).next
  unfolding look_items look_item
  items_next R zero at q z e = absurd (omega arith)
  items_next R (suc n) at q z e =
      let s : suc n - 1 ≡ n = omega arith in
      rw (s, e) refl

  pub parts_more : (R : ℕ → Seen Node) (c : Place) (n at q : ℕ) → 0 < n → q ≡ (R at).next
      → parts c (look_items t R false n at).value ≡ part c (R at).value (run (look_items t R false (n - 1) (R at).next).value) ▷ parts c (look_items t R false (n - 1) q).value
  parts_more R c n at q z e = parts_first t R c n at q z e ∙ ap (λ (x : ℕ). part c (R at).value (run (look_items t R false (n - 1) x).value) ▷ parts c (look_items t R false (n - 1) q).value) e

  pub good_first : (R : ℕ → Seen Node) (G : ℕ → Type 0) (n at : ℕ) → 0 < n → GoodItems t R G false false n at → G at
  unfolding GoodItems hole_at
  good_first R G zero at z g = absurd (omega arith)
  good_first R G (suc n) at z g = g.0.node refl

  pub good_rest : (R : ℕ → Seen Node) (G : ℕ → Type 0) (n at q : ℕ) → 0 < n → q ≡ (R at).next → GoodItems t R G false false n at → GoodItems t R G false false (n - 1) q
  unfolding GoodItems look_item
  good_rest R G zero at q z e g = absurd (omega arith)
  good_rest R G (suc n) at q z e g =
      let s : suc n - 1 ≡ n = omega arith in
      rw (s, e) g.1

  pub levels : {g g' : Going} (e d n p : ℕ) → e ≡ d
      → (n < 65536 → Does g g' (say (heads no_call_of (look_items t (look_node t d) false n p).value) ▷ say (puts (24 ∷ 1 ∷ wide_bytes (run (look_items t (look_node t d) false n p).value)))))
      → n < 65536 → Does g g' (say (heads no_call_of (look_items t (look_node t e) false n p).value) ▷ say (puts (24 ∷ 1 ∷ wide_bytes (run (look_items t (look_node t e) false n p).value))))
  levels e d n p h k = rw h k
