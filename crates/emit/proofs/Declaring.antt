-- Declarations: the ways out of the code that writes one, declarator by declarator.
-- Assumes nothing.
use mathlib.Core.Path.{◌≡◌, refl, sym, ap, ap₂, ◌∙◌, subst}
use mathlib.Core.Bool.{Bool, true, false, cond, not}
use mathlib.Core.List.{List, [], ◌∷◌, ◌++◌}
use Rattle.std.specs.Prelude.{Option, Some, None}
use Prim.Native.Nat.{ℕ, zero, suc, ◌+◌, ◌-◌, ◌/◌, ◌%◌, ◌≤◌, ◌<◌}
use native.Mathlib.Omega.{arith}
use lib.Dec.{eqb}
use lib.ListN.{length}
use borrow.Author.Tests.{eqb-true, eq-eqb}
use Rattle.tree.specs.Tree.{Node, Fields, Items, wide_bytes, map_of, count, encode, encode_fields, encode_piece}
use Rattle.tree.specs.Tree.Node.{node}
use Rattle.tree.specs.Tree.Fields.{done, absent, field}
use Rattle.tree.specs.Tree.Piece.{one}
use Rattle.tree.specs.Grammar.{Sort, fields_of, kinds}
use Rattle.tree.specs.Read.{byte_at, wide_at}
use Rattle.tree.specs.Look.{Seen, seen, onward, look_items, look_field, look_slot, look_fields, look_node}
use Rattle.tree.specs.Answer.{Wide}
use Rattle.lowering.specs.Parts.{position, kind, is, stands_in, stands, node_at_of, items_at_of, piece_in, gather}
use Rattle.lowering.specs.Made.{Context}
use Rattle.lowering.specs.Patterns.{shape, properties, value, has_rest_of, has_object_rest}
use Rattle.lowering.specs.Patterns.Shape.{object_pattern, array_pattern}
use Rattle.lowering.specs.Rests.{has_no_properties}
use Rattle.lowering.specs.Declarations.{is_name_of, is_lowered, declarators, declaration_refusal}
use Rattle.lowering.specs.Walk.{rule_of}
use Rattle.lowering.proofs.All.{AllItems}
use Rattle.lowering.proofs.Cases.{by_test, by_shape, object_is, array_is, or_first}
use Rattle.sink.specs.Machine.{part}
use Rattle.sink.specs.Machine.Event.{temporary}
use Rattle.pattern.specs.Tally.{limited}
use Rattle.pattern.specs.declared.source.ReferenceBuilder.{ReferenceBuilder}
use Rattle.pattern.specs.declared.source.ReferenceBuilder.TheVariants.{Direct, Wanted, Held}
use Rattle.pattern.specs.Source.{Given, builder_of, read_of, place_read, after_read, Settled, Keeps}
use Rattle.pattern.proofs.SourceReads.{first_read, later_read, name_settled, settled_read}
use Rattle.walk.proofs.SourcesRead.{same_source, reads_cell}
use Rattle.pattern.proofs.CountsFit.{counted_whole, declarations_fit}
use Rattle.lowering.specs.Collect.{is_container}
use Rattle.direct.specs.Events.{Place, Emit, puts, cell, marks, context_of, emits}
use Rattle.direct.specs.Events.Deed.{does, refuses}
use Rattle.direct.specs.Emit.{say, ◌▷◌, inner, in_turn, below, stays, emits_piece, emits_parts}
use Rattle.direct.specs.Views.{object_at, object_rest_at, says_cell, emits_view}
use Rattle.direct.specs.Views.View.{replacing, taking}
use Rattle.direct.specs.Keys.{emits_rest}
use Rattle.direct.specs.Handed.{declarator_made, declarator_excludes}
use Rattle.direct.specs.Declared.{declaration_at, emits_key_value, emits_own_keys, emits_own_pattern, emits_own_rest, emits_found, emits_pattern, emits_lowered, emits_declarator, declarator_count}
use Rattle.direct.proofs.Threads.{then_assoc, say_nothing, say_say, say_puts}
use Rattle.direct.proofs.OneLevel.{emits_nowhere}
use Rattle.direct.proofs.ListsInTurn.{turn_same}
use Rattle.direct.proofs.DeclarationsByPart.{pattern_object, pattern_array, declaration_refused, declaration_done, items_at}
use Rattle.direct.proofs.DirectWaysOut.{declarator_lowered, declarator_left, lowered_name, lowered_value, own_keys_none, own_keys_some, own_pattern_none, own_pattern_some, own_rest_none, own_rest_some}
use Rattle.walk.specs.declared.modes.Deep.TheVariants.{Found}
use Rattle.walk.specs.declared.modes.Mode.TheVariants as modes
use Rattle.walk.specs.declared.views.View.TheVariants.{Replacing, Taking}
use Rattle.walk.specs.Run.{Going, Does, Clear}
use Rattle.walk.specs.Whole.{GoodItems, Good}
use Rattle.walk.specs.Turns.{view_of, turns_of, source_of, reads, start_of, cell_at, deep_suits, deep_of}
use Rattle.walk.proofs.Running.{does_then, does_nothing, does_as, does_to, clear_after, clear_still}
use Rattle.walk.proofs.KeysOnceFull as walked
use Rattle.walk.proofs.KeysOnceFull.{Quiet, own_again}
use Rattle.walk.proofs.SpreadArguments.{does_from}
use Rattle.walk.proofs.Lookups.{cell_within}
use Rattle.walk.proofs.Opened.{BinderOpen, DeclarationOpen, no_good, kind_here, is_here, position_here, good_copied, good_short, good_two, declarator_open, declaration_open}
use Rattle.walk.proofs.ListTurns.{deep_found, turns_key_value, turns_value_found, turns_declarator, suit_key_value, suit_value_found, suit_declarator}
use Rattle.emit.proofs.MovedPatterns.{as_refused}
use Rattle.emit.proofs.Finding.{object_as, level_up, lifted, rest_stands, Turned, Deep}

-- ---- places

key_value_inner : (c : Place) (q : Node) → emits_key_value (inner c) q ≡ emits_key_value c q
unfolding emits_key_value inner
key_value_inner c q = refl

properties_at : (at : ℕ) (ps : Items) (r : Node) → properties (object_rest_at at ps r) ≡ ps
unfolding items_at_of piece_in
properties_at at ps r = refl

bare_properties : (at : ℕ) (ps : Items) → properties (object_at at ps) ≡ ps
unfolding items_at_of piece_in
bare_properties at ps = refl

suits_found : (n : Node) → deep_suits Found n ≡ true
unfolding deep_suits
suits_found n = refl

first_part : (at k : ℕ) (p v : Node) → node_at_of 0 (node at k (field (one p) (field (one v) done))) ≡ p
unfolding node_at_of piece_in
first_part at k p v = refl

second_part : (at k : ℕ) (p v : Node) → node_at_of 1 (node at k (field (one p) (field (one v) done))) ≡ v
unfolding node_at_of piece_in
second_part at k p v = refl

count_is : (c : Place) (ds : Items) → declarator_count c ds ≡ count (gather (declarators (context_of c)) ds)
unfolding declarator_count
count_is c ds = refl

-- the bytes of a declaration's head
head_is : (m b k : ℕ) → 0 < m → puts (4 ∷ 7 ∷ wide_bytes m ++ (b ∷ [])) ++ puts (wide_bytes k) ≡ puts (4 ∷ 7 ∷ []) ++ (marks m ++ puts (b ∷ wide_bytes k))
unfolding marks
head_is zero b k h = absurd (omega arith)
head_is (suc m) b k h = refl

own_resting : (c : Place) (at : ℕ) (ps : Items) (r : Node) (s : Emit)
    → say (puts (5 ∷ 3 ∷ [])) ▷ emits (inner c) r ▷ emits_rest (inner c) at (properties (object_rest_at at ps r)) s ≡ emits_own_rest c (object_rest_at at ps r) s
own_resting c at ps r s = ap (λ (y : Items). say (puts (5 ∷ 3 ∷ [])) ▷ emits (inner c) r ▷ emits_rest (inner c) at y s) (properties_at at ps r) ∙ sym (own_rest_some c at ps r s)

module _ (t : List ℕ) where
  -- ---- an object without rest, one with rest

  bare_object : (d at : ℕ) (b : Bool) → b ≡ eqb (byte_at t (onward t at 1) / 2 % 2) 1 → b ≡ false → byte_at t at ≡ 34 → Good t d at → (ps : Items) × ((look_node t d at).value ≡ object_at at ps)
  bare_object zero at b bit bare k good = no_good t at good
  bare_object (suc d) at b bit bare k good =
      let o = object_as t (suc d) d d at (onward t at 2) (wide_at t (onward t at 2)) (onward t (onward t at 2) 2) (omega arith) refl refl refl refl good k in
      (_, ap (λ (y : Seen Node). y.value) (o.plain (sym bit ∙ bare)))

  -- ---- ors: the rest of an object

  pub own_rest_left : {g : Going} (c : Place) (d at : ℕ) (b : Bool) (s : Emit) (S : Type 0) → b ≡ eqb (byte_at t (onward t at 1) / 2 % 2) 1 → b ≡ false
      → (at ≡ at) × (byte_at t at ≡ 34 → Good t d at → S → Clear g (emits_own_keys c (look_node t d at).value ▷ emits_own_pattern c (look_node t d at).value s) → Does g g (emits_own_rest c (look_node t d at).value s))
  own_rest_left {g = g} c d at b s S bit bare = (
    refl,
    λ k good _ _.
        let o = bare_object d at b bit bare k good in
        does_as (does_nothing g) (sym (own_rest_none c at o.0 s) ∙ ap (λ (y : Node). emits_own_rest c y s) (sym o.1)),
  )

  pub own_rest_done : {g g₁ g₂ g₃ g₄ g' : Going} (c c₁ c₂ : Place) (d left e h at q n f p r i u s : ℕ) (b : Bool) (src : Emit) (S : Type 0) → b ≡ eqb (byte_at t (onward t at 1) / 2 % 2) 1 → b ≡ true → left ≡ d - 1
      → q ≡ onward t at 2 → Wide t q n → f ≡ onward t q 2 → r ≡ (look_items t (look_node t left) false n f).next
      → Does g g₁ (say (puts (5 ∷ 3 ∷ []))) → g₂ ≡ g₁ → i ≡ r → c₁ ≡ inner c → e ≡ left
      → (u ≡ (look_node t e i).next) × (Good t e i → Does g₂ g₃ (emits c₁ (look_node t e i).value))
      → c₂ ≡ inner c → h ≡ d
      → (p ≡ u) × (S → Good t h at → byte_at t at ≡ 34 → Clear g₃ (emits_rest c₂ at (properties (look_node t h at).value) src) → Does g₃ g₄ (emits_rest c₂ at (properties (look_node t h at).value) src))
      → g' ≡ g₄ → s ≡ at
      → Quiet src → (s ≡ at) × (byte_at t at ≡ 34 → Good t d at → S → Clear g (emits_own_keys c (look_node t d at).value ▷ emits_own_pattern c (look_node t d at).value src) → Does g g' (emits_own_rest c (look_node t d at).value src))
  own_rest_done {g₃ = g₃} c c₁ c₂ d left e h at q n f p r i u s b src S bit stood levels second many first ends head from move place₁ level given place₂ same-level last upto moved quiet = (
    moved,
    λ k good settled clear.
        let o = object_as t d left e at q n f levels level second many.value first good k in
        let ps : Items = (look_items t (look_node t e) false n f).value in
        let x : ℕ = (look_items t (look_node t e) false n f).next in
        let ii : i ≡ x = move ∙ ends ∙ ap (λ (y : ℕ). (look_items t (look_node t y) false n f).next) (sym level) in
        let value-is = ap (λ (y : Seen Node). y.value) (o.resting (sym bit ∙ stood)) in
        let target = does_from from (given.1 (subst (λ (y : ℕ). Good t e y) (sym ii) (o.rest (sym bit ∙ stood)))) in
        let again : Clear g₃ (emits_rest (inner c) at (properties (look_node t d at).value) src) =
        own_again c (look_node t d at).value (walked.object_here t d at good k) (ap (λ (y : Node). has_rest_of y) value-is ∙ rest_stands at ps _) src quiet at (clear_still (clear_still clear head) target) in
        let there = last.1 settled (subst (λ (y : ℕ). Good t y at) (sym same-level) good) k
        (subst (λ (m : Place). Clear g₃ (emits_rest m at (properties (look_node t h at).value) src)) (sym place₂)
        (subst (λ (y : ℕ). Clear g₃ (emits_rest (inner c) at (properties (look_node t y at).value) src)) (sym same-level) again)) in
        does_to upto (does_as (does_then head (does_then target there))
        (ap₂ (λ (m : Place) (y : ℕ). say (puts (5 ∷ 3 ∷ [])) ▷ emits m (look_node t e y).value ▷ emits_rest c₂ at (properties (look_node t h at).value) src) place₁ ii
        ∙ ap₂ (λ (m : Place) (y : Node). say (puts (5 ∷ 3 ∷ [])) ▷ emits (inner c) (look_node t e x).value ▷ emits_rest m at (properties y) src) place₂ (ap (λ (y : ℕ). (look_node t y at).value) same-level ∙ value-is)
        ∙ own_resting c at ps (look_node t e x).value src
        ∙ ap (λ (y : Node). emits_own_rest c y src) (sym value-is))),
  )

  -- ---- opa: its pattern

  pub own_pattern_left : {g : Going} (c : Place) (d at : ℕ) (b : Bool) (s : Emit) → b ≡ has_no_properties (look_node t d at).value → b ≡ true
      → (at ≡ at) × (byte_at t at ≡ 34 → Good t d at → Does g g (emits_own_pattern c (look_node t d at).value s))
  own_pattern_left {g = g} c d at b s test none = (refl, λ k good. does_as (does_nothing g) (sym (own_pattern_none c (look_node t d at).value s (sym test ∙ none))))

  pub own_pattern_done : {g g₁ g₂ g₃ g' : Going} (c c' : Place) (d h at i u p s : ℕ) (b : Bool) (src : Emit) → b ≡ has_no_properties (look_node t d at).value → b ≡ false
      → Does g g₁ (say (puts (5 ∷ 3 ∷ []))) → i ≡ at → c' ≡ inner c → h ≡ d
      → (Good t h i → (u ≡ (look_node t h i).next) × Does g₁ g₂ (emits_view c' (view_of Taking) (look_node t h i).value))
      → (p ≡ u) × Does g₂ g₃ src → g' ≡ g₃ → s ≡ at
      → (s ≡ at) × (byte_at t at ≡ 34 → Good t d at → Does g g' (emits_own_pattern c (look_node t d at).value src))
  unfolding view_of
  own_pattern_done c c' d h at i u p s b src test some head move place same-level view read upto moved = (
    moved,
    λ k good.
        let n : Node = (look_node t d at).value in
        let node_as : (look_node t h i).value ≡ n = ap₂ (λ (x y : ℕ). (look_node t x y).value) same-level move in
        let v = view (subst (λ (y : ℕ). Good t h y) (sym move) (subst (λ (y : ℕ). Good t y at) (sym same-level) good)) in
        does_to upto (does_as (does_then head (does_then v.1 read.1))
        (ap₂ (λ (m : Place) (y : Node). say (puts (5 ∷ 3 ∷ [])) ▷ emits_view m taking y ▷ src) place node_as ∙ sym (own_pattern_some c n src (sym test ∙ some)))),
  )

  -- ---- own: its keys, if its rest is taken, and its pattern

  pub own_plain : {g g' : Going} (c : Place) (d at s : ℕ) (b : Bool) (src : Emit) → b ≡ eqb (byte_at t (onward t at 1) / 2 % 2) 1 → b ≡ false
      → (s ≡ at) × (byte_at t at ≡ 34 → Good t d at → Does g g' (emits_own_pattern c (look_node t d at).value src))
      → (s ≡ at) × (byte_at t at ≡ 34 → Good t d at → Does g g' (emits_own_keys c (look_node t d at).value ▷ emits_own_pattern c (look_node t d at).value src))
  own_plain c d at s b src bit bare last = (
    last.0,
    λ k good.
        let o = bare_object d at b bit bare k good in
        let n : Node = (look_node t d at).value in
        does_as (last.1 k good)
        (sym (say_nothing (emits_own_pattern c n src)) ∙ ap (λ (x : Emit). x ▷ emits_own_pattern c n src) (sym (own_keys_none c at o.0) ∙ ap (λ (y : Node). emits_own_keys c y) (sym o.1))),
  )

  pub own_keyed : {g g₁ g₂ g₃ g' : Going} (c c' : Place) (d left e at q n p f u i s : ℕ) (b : Bool) (src : Emit) → b ≡ eqb (byte_at t (onward t at 1) / 2 % 2) 1 → b ≡ true
      → q ≡ onward t at 2 → Wide t q n → p ≡ onward t q 2 → f ≡ p → g₁ ≡ g → left ≡ d - 1 → e ≡ left → c' ≡ inner c
      → Turned t e false n f u modes.KeyValue c' g₁ g₂ → g₃ ≡ g₂ → i ≡ at
      → (s ≡ i) × (byte_at t i ≡ 34 → Good t d i → Does g₃ g' (emits_own_pattern c (look_node t d i).value src))
      → (s ≡ at) × (byte_at t at ≡ 34 → Good t d at → Does g g' (emits_own_keys c (look_node t d at).value ▷ emits_own_pattern c (look_node t d at).value src))
  own_keyed c c' d left e at q n p f u i s b src bit stood second many first move from levels level place keys again back last = (
    last.0 ∙ back,
    λ k good.
        let o = object_as t d left e at q n f levels level second many.value (move ∙ first) good k in
        let ps : Items = (look_items t (look_node t e) false n f).value in
        let value-is = ap (λ (y : Seen Node). y.value) (o.resting (sym bit ∙ stood)) in
        let r = keys o.goods (suit_key_value ps o.kinds) in
        let there = last.1 (ap (byte_at t) back ∙ k) (subst (λ (y : ℕ). Good t d y) (sym back) good) in
        let keys-as : turns_of modes.KeyValue c' ps ≡ emits_own_keys c (look_node t d at).value =
        ap (λ (y : Place). turns_of modes.KeyValue y ps) place ∙ turns_key_value (inner c) ps ∙ turn_same (emits_key_value (inner c)) (emits_key_value c) (key_value_inner c) ps
        ∙ sym (own_keys_some c at ps _) ∙ ap (λ (y : Node). emits_own_keys c y) (sym value-is) in
        does_as (does_then (does_from from r.1) (does_from again there))
        (ap₂ (λ (x : Emit) (y : ℕ). x ▷ emits_own_pattern c (look_node t d y).value src) keys-as back),
  )

  -- ---- pat: the declarators of a pattern

  object_here : (d at k : ℕ) → k ≡ byte_at t at → k ≡ 34 → shape (look_node t (suc d) at).value ≡ object_pattern
  unfolding shape
  object_here d at k h a =
      let u : kind (look_node t (suc d) at).value ≡ 34 = kind_here t d at ∙ sym h ∙ a in
      rw u refl

  array_here : (d at k : ℕ) → k ≡ byte_at t at → k ≡ 36 → shape (look_node t (suc d) at).value ≡ array_pattern
  unfolding shape
  array_here d at k h a =
      let u : kind (look_node t (suc d) at).value ≡ 36 = kind_here t d at ∙ sym h ∙ a in
      rw u refl

  other_pattern : (c : Place) (p : Node) (s : Emit) → (kind p ≡ 34 → ⊥) → (kind p ≡ 36 → ⊥) → emits_pattern c p s ≡ say []
  unfolding emits_pattern is
  other_pattern c p s a b =
      by_shape (shape p)
      (λ e. absurd (a (eqb-true (kind p) 34 (object_is p e))))
      (λ e. absurd (b (eqb-true (kind p) 36 (array_is p e))))
      (λ e. rw (e, emits_pattern) refl)
      (λ e. rw (e, emits_pattern) refl)

  pub pattern_other : {g : Going} (c : Place) (d at k : ℕ) (src : Emit) → k ≡ byte_at t at → (k ≡ 34 → ⊥) → (k ≡ 36 → ⊥) → Good t d at → Does g g (emits_pattern c (look_node t d at).value src)
  pattern_other c zero at k src kk a b good = no_good t at good
  pattern_other {g = g} c (suc d) at k src kk a b good =
      does_as (does_nothing g) (sym (other_pattern c (look_node t (suc d) at).value src (λ e. a (kk ∙ sym (kind_here t d at) ∙ e)) (λ e. b (kk ∙ sym (kind_here t d at) ∙ e))))

  pub pattern_array_done : {g g₁ g₂ g₃ g₄ g' : Going} (c c' : Place) (d h at k i u j p s : ℕ) (src : Emit) → k ≡ byte_at t at → k ≡ 36
      → Does g g₁ (say (puts (5 ∷ 3 ∷ []))) → i ≡ at → c' ≡ inner c → h ≡ d
      → (Good t h i → (u ≡ (look_node t h i).next) × Does g₁ g₂ (emits_view c' (view_of Replacing) (look_node t h i).value))
      → (j ≡ u) × Does g₂ g₃ src → g₄ ≡ g₃ → p ≡ at → Deep t d p s Found c g₄ g'
      → Good t d at → Does g g' (emits_pattern c (look_node t d at).value src)
  unfolding view_of
  pattern_array_done c c' zero h at k i u j p s src kk a head move place same-level view read from back found good = no_good t at good
  pattern_array_done c c' (suc d) h at k i u j p s src kk a head move place same-level view read from back found good =
      let n : Node = (look_node t (suc d) at).value in
      let node_as : (look_node t h i).value ≡ n = ap₂ (λ (x y : ℕ). (look_node t x y).value) same-level move in
      let v = view (subst (λ (y : ℕ). Good t h y) (sym move) (subst (λ (y : ℕ). Good t y at) (sym same-level) good)) in
      let r = found (subst (λ (y : ℕ). Good t (suc d) y) (sym back) good) (suits_found (look_node t (suc d) p).value) in
      does_as (does_then head (does_then v.1 (does_then read.1 (does_from from r.1))))
      (ap₂ (λ (m : Place) (y : Node). say (puts (5 ∷ 3 ∷ [])) ▷ emits_view m replacing y ▷ src ▷ deep_of Found c (look_node t (suc d) p).value) place node_as
      ∙ ap (λ (x : Emit). say (puts (5 ∷ 3 ∷ [])) ▷ emits_view (inner c) replacing n ▷ src ▷ x) (deep_found c (look_node t (suc d) p).value ∙ ap (λ (y : ℕ). emits_found c (look_node t (suc d) y).value) back)
      ∙ sym (pattern_array c n src (array_here d at k kk a)))

  pub pattern_object_done : {g g₁ g₂ g₃ g₄ g' : Going} (c c' : Place) (d left e at k q n p f i u j s : ℕ) (src : Emit) → k ≡ byte_at t at → k ≡ 34
      → q ≡ onward t at 2 → Wide t q n
      → (i ≡ at) × (byte_at t at ≡ 34 → Good t d at → Does g g₁ (emits_own_keys c (look_node t d at).value ▷ emits_own_pattern c (look_node t d at).value src))
      → p ≡ onward t q 2 → f ≡ p → g₂ ≡ g₁ → left ≡ d - 1 → e ≡ left → c' ≡ c → Turned t e false n f u (modes.Value Found) c' g₂ g₃ → g₄ ≡ g₃ → j ≡ at
      → (s ≡ j) × (byte_at t j ≡ 34 → Good t d j → Clear g₄ (emits_own_keys c (look_node t d j).value ▷ emits_own_pattern c (look_node t d j).value src) → Does g₄ g' (emits_own_rest c (look_node t d j).value src))
      → Good t d at → Does g g' (emits_pattern c (look_node t d at).value src)
  pattern_object_done {g₄ = g₄} c c' d left e at k q n p f i u j s src kk a second many own first move from levels level place values again back last good =
      let kind_is : byte_at t at ≡ 34 = sym kk ∙ a in
      let h : d ≡ suc e = level_up t d left e at levels level good in
      let o = object_as t d left e at q n f levels level second many.value (move ∙ first) good kind_is in
      let ps : Items = (look_items t (look_node t e) false n f).value in
      let w : Node = (look_node t d at).value in
      let shape_is : shape w ≡ object_pattern = rw h (object_here e at k kk a) in
      let K : Emit = emits_own_keys c w in
      let P : Emit = emits_own_pattern c w src in
      let R : Emit = emits_own_rest c w src in
      let F : Emit = in_turn (λ y. emits_found c (value y)) (properties w) in
      let r = values o.goods (suit_value_found ps o.kinds) in
      let properties_are : ps ≡ properties w =
      by_test (eqb (byte_at t (onward t at 1) / 2 % 2) 1)
      (λ b. sym (ap (λ (y : Seen Node). properties y.value) (o.resting b) ∙ properties_at at ps _))
      (λ b. sym (ap (λ (y : Seen Node). properties y.value) (o.plain b) ∙ bare_properties at ps)) in
      let clear : Clear g₄ (K ▷ P) = subst (λ (y : Going). Clear y (K ▷ P)) (sym again) (clear_still (clear_after (own.1 kind_is good)) (does_from from r.1)) in
      let there = last.1 (ap (byte_at t) back ∙ kind_is) (subst (λ (y : ℕ). Good t d y) (sym back) good)
      (subst (λ (y : ℕ). Clear g₄ (emits_own_keys c (look_node t d y).value ▷ emits_own_pattern c (look_node t d y).value src)) (sym back) clear) in
      does_as (does_then (own.1 kind_is good) (does_then (does_from from r.1) (does_from again there)))
      (ap₂ (λ (x : Emit) (y : ℕ). (K ▷ P) ▷ x ▷ emits_own_rest c (look_node t d y).value src)
      (ap (λ (y : Place). turns_of (modes.Value Found) y ps) place ∙ turns_value_found c ps ∙ ap (λ (y : Items). in_turn (λ x. emits_found c (value x)) y) properties_are) back
      ∙ then_assoc K P (F ▷ R)
      ∙ sym (pattern_object c w src shape_is))

  -- ---- low: a starting value that is a name is read again and again; anything else goes into a temporary first

  name_kind_lem : (d at : ℕ) → Good t (suc d) at → is_name_of (look_node t (suc d) at).value ≡ true → byte_at t at ≡ 18
  unfolding is_name_of Good
  name_kind_lem d at good h =
      let n : Node = (look_node t (suc d) at).value in
      eqb-true (byte_at t at) 18 (sym (is_here t d at 18) ∙ or_first (is 18 n) (is 20 n) (is_here t d at 20 ∙ good.temporary) h)

  -- 18 Reference(name' symbol+?)
  text_written : (R : ℕ → Seen Node) (l : Bool) (c : ℕ → Place) (bit q : ℕ) (fs : Fields) → emits_parts l (λ i. c (suc i)) fs ≡ say (puts (encode_fields fs))
      → emits_parts l c ((look_slot t R Sort.text bit q).value fs) ≡ say (puts (encode_fields ((look_slot t R Sort.text bit q).value fs)))
  unfolding look_slot look_field emits_parts emits_piece encode_fields encode_piece
  text_written R l c zero q fs h = h
  text_written R l c (suc bit) q fs h = ap (λ (e : Emit). emits_piece l (c 0) (look_field t R Sort.text q).value ▷ e) h ∙ say_puts (encode_piece (look_field t R Sort.text q).value) (encode_fields fs)

  number_written : (R : ℕ → Seen Node) (l : Bool) (c : ℕ → Place) (bit q : ℕ) → emits_parts l c ((look_slot t R Sort.number bit q).value Fields.done) ≡ say (puts (encode_fields ((look_slot t R Sort.number bit q).value Fields.done)))
  unfolding look_slot look_field emits_parts emits_piece encode_fields encode_piece
  number_written R l c zero q = refl
  number_written R l c (suc bit) q = say_puts (encode_piece (look_field t R Sort.number q).value) []

  name_fields : (R : ℕ → Seen Node) (l : Bool) (c : ℕ → Place) (m q : ℕ) → emits_parts l c (look_fields t R (fields_of 18) m q).value ≡ say (puts (encode_fields (look_fields t R (fields_of 18) m q).value))
  unfolding look_fields fields_of kinds
  name_fields R l c m q = text_written R l c (m % 2) q _ (number_written R l (λ i. c (suc i)) (m / 2 % 2) _)

  name_emits : (c : Place) (d at : ℕ) → byte_at t at ≡ 18 → emits c (look_node t (suc d) at).value ≡ say (puts (encode (look_node t (suc d) at).value))
  unfolding look_node rule_of stays encode
  name_emits c d at k =
      let fs : Fields = (look_fields t (λ q. look_node t d q) (fields_of 18) (byte_at t (onward t at 1)) (onward t at 2)).value in
      rw k (emits_nowhere c (node at 18 fs) refl
      ∙ ap (λ (e : Emit). say (puts (18 ∷ map_of fs ∷ [])) ▷ e) (name_fields (λ q. look_node t d q) (is_container 18) (below c (node at 18 fs)) (byte_at t (onward t at 1)) (onward t at 2)) ∙ say_puts (18 ∷ map_of fs ∷ []) (encode_fields fs))

  -- a name is copied
  pub name_copied : (c : Place) (d at : ℕ) → Good t d at → is_name_of (look_node t d at).value ≡ true → say (puts (part at (look_node t d at).next t)) ≡ emits c (look_node t d at).value
  name_copied c zero at good h = no_good t at good
  name_copied c (suc d) at good h = ap (λ (bs : List ℕ). say (puts bs)) (good_copied t (suc d) at good) ∙ sym (name_emits c d at (name_kind_lem d at good h))

  -- a value that is no name is wanted in a temporary
  value_wanted : (d at k : ℕ) → is_name_of (look_node t d at).value ≡ false → builder_of t d at k 3 false ≡ Wanted d at k 3
  unfolding builder_of
  value_wanted d at k h = rw h refl

  name_direct : (d at k : ℕ) → is_name_of (look_node t d at).value ≡ true → builder_of t d at k 3 false ≡ Direct d at
  unfolding builder_of
  name_direct d at k h = rw h refl

  abbrev is_wanted : ReferenceBuilder → ℕ
  is_wanted (Direct left at) = 0
  is_wanted (Wanted left at cell stem) = 1
  is_wanted (Held cell stem) = 0

  abbrev cell_in : ReferenceBuilder → ℕ
  cell_in (Direct left at) = 0
  cell_in (Wanted left at cell stem) = cell
  cell_in (Held cell stem) = cell

  abbrev stem_in : ReferenceBuilder → ℕ
  stem_in (Direct left at) = 0
  stem_in (Wanted left at cell stem) = stem
  stem_in (Held cell stem) = stem

  source_name : (d at k : ℕ) → is_name_of (look_node t d at).value ≡ true → source_of t (builder_of t d at k 3 false) ≡ say (puts (part at (look_node t d at).next t))
  unfolding builder_of read_of reads
  source_name d at k h = rw h refl

  source_after : (d at k : ℕ) → is_name_of (look_node t d at).value ≡ false → source_of t (after_read (builder_of t d at k 3 false)) ≡ say (does (temporary k 3) ∷ [])
  source_after d at k h = reads_cell t _ k 3 (later_read t d at k 3 h)

  pub lowered_read : {g g₁ g' : Going} (c : Place) (d id init i : ℕ) (b : ReferenceBuilder) → ((l m k s : ℕ) → b ≡ Wanted l m k s → ⊥) → g₁ ≡ g → i ≡ id
      → (Settled b → Good t d i → Does g₁ g' (emits_pattern c (look_node t d i).value (source_of t b)))
      → b ≡ builder_of t d init (cell 3 id) 3 false → Good t d id → Good t d init → Does g g' (emits_lowered c (look_node t d id).value (look_node t d init).value)
  lowered_read c d id init i b test from move pattern built good-id good-init =
      let p : Node = (look_node t d id).value in
      let v : Node = (look_node t d init).value in
      let named : is_name_of v ≡ true = by_test (is_name_of v) (λ e. e) (λ e. absurd (test _ _ _ _ (built ∙ value_wanted d init (cell 3 id) e))) in
      let read : source_of t b ≡ emits (inner c) v = ap (source_of t) built ∙ source_name d init (cell 3 id) named ∙ name_copied (inner c) d init good-init named in
      let settled : Settled b = subst (λ (x : ReferenceBuilder). Settled x) (sym built) (name_settled t d init (cell 3 id) 3 named) in
      does_as (does_from from (pattern settled (subst (λ (y : ℕ). Good t d y) (sym move) good-id)))
      (ap₂ (λ (y : ℕ) (s : Emit). emits_pattern c (look_node t d y).value s) move read ∙ sym (lowered_name c p v named))

  pub lowered_kept : {g g₁ g₂ g₃ g₄ g₅ g' : Going} (c c' : Place) (d h id init y x u i l m k s : ℕ) (r : Given) (b a : ReferenceBuilder) → b ≡ Wanted l m k s
      → Does g g₁ (say (puts (5 ∷ 3 ∷ []))) → Does g₁ g₂ (say (does (temporary k s) ∷ [])) → g₃ ≡ g₂ → y ≡ x → x ≡ place_read r → r ≡ read_of b → c' ≡ inner c → h ≡ d
      → (u ≡ (look_node t h y).next) × (Good t h y → Does g₃ g₄ (emits c' (look_node t h y).value))
      → a ≡ after_read b → g₅ ≡ g₄ → i ≡ id → (Settled a → Good t d i → Does g₅ g' (emits_pattern c (look_node t d i).value (source_of t a)))
      → b ≡ builder_of t d init (cell 3 id) 3 false → Good t d id → Good t d init → Does g g' (emits_lowered c (look_node t d id).value (look_node t d init).value)
  unfolding says_cell place_read
  lowered_kept c c' d h id init y x u i l m k s r b a test head kept from at_x stands reading place same-level given next again at-id pattern built good-id good-init =
      let p : Node = (look_node t d id).value in
      let v : Node = (look_node t d init).value in
      let named : is_name_of v ≡ false = by_test (is_name_of v) (λ e. let z : ◌≡◌ {A = ℕ} 1 0 = ap is_wanted (sym test ∙ built ∙ name_direct d init (cell 3 id) e) in absurd (omega arith)) (λ e. e) in
      let wanted : Wanted l m k s ≡ Wanted d init (cell 3 id) 3 = sym test ∙ built ∙ value_wanted d init (cell 3 id) named in
      let at-init : y ≡ init = at_x ∙ stands ∙ ap place_read (reading ∙ ap read_of built ∙ first_read t d init (cell 3 id) 3 false) in
      let cell_is : k ≡ cell 3 (position p) = ap cell_in wanted ∙ ap (cell 3) (sym (position_here t d id)) in
      let stem-is : s ≡ 3 = ap stem_in wanted in
      let read : source_of t a ≡ says_cell 3 (position p) =
      ap (source_of t) (next ∙ ap after_read built) ∙ source_after d init (cell 3 id) named ∙ ap (λ (k : ℕ). say (does (temporary (cell 3 k) 3) ∷ [])) (sym (position_here t d id)) in
      let value_done = given.1 (subst (λ (k : ℕ). Good t h k) (sym at-init) (subst (λ (k : ℕ). Good t k init) (sym same-level) good-init)) in
      let pattern_done = pattern (settled_read b a next) (subst (λ (k : ℕ). Good t d k) (sym at-id) good-id) in
      let kept-3 = does_as kept (ap (λ (z : ℕ). say (does (temporary k z) ∷ [])) stem-is) in
      does_as (does_then head (does_then kept-3 (does_then (does_from from value_done) (does_from again pattern_done))))
      (ap₂ (λ (k : ℕ) (w : Node). say (puts (5 ∷ 3 ∷ [])) ▷ say (does (temporary k 3) ∷ []) ▷ emits c' w ▷ emits_pattern c (look_node t d i).value (source_of t a)) cell_is (ap₂ (λ (m k : ℕ). (look_node t m k).value) same-level at-init)
      ∙ ap (λ (m : Place). say (puts (5 ∷ 3 ∷ [])) ▷ says_cell 3 (position p) ▷ emits m v ▷ emits_pattern c (look_node t d i).value (source_of t a)) place
      ∙ ap₂ (λ (k : ℕ) (s : Emit). say (puts (5 ∷ 3 ∷ [])) ▷ says_cell 3 (position p) ▷ emits (inner c) v ▷ emits_pattern c (look_node t d k).value s) at-id read
      ∙ sym (lowered_value c p v named))

  -- the rest, read from the builder that was handed back
  pub later_rest : {g g' : Going} (c : Place) (d at i : ℕ) (b next : ReferenceBuilder) → Keeps b next → Settled b
      → (i ≡ at) × (byte_at t at ≡ 34 → Good t d at → Settled next → Clear g (emits_own_keys c (look_node t d at).value ▷ emits_own_pattern c (look_node t d at).value (source_of t next)) → Does g g' (emits_own_rest c (look_node t d at).value (source_of t next)))
      → (i ≡ at) × (byte_at t at ≡ 34 → Good t d at → Clear g (emits_own_keys c (look_node t d at).value ▷ emits_own_pattern c (look_node t d at).value (source_of t b)) → Does g g' (emits_own_rest c (look_node t d at).value (source_of t b)))
  later_rest {g = g} c d at i b next keeps settled last =
      let n : Node = (look_node t d at).value in
      let k = keeps settled in
      let e : source_of t next ≡ source_of t b = same_source t next b k.1 in (
        last.0,
        λ h good clear. does_as (last.1 h good k.0 (subst (λ (x : Emit). Clear g (emits_own_keys c n ▷ emits_own_pattern c n x)) (sym e) clear)) (ap (emits_own_rest c n) e),
      )

  -- ---- dtor: a declarator

  -- one without a starting value, one with it
  bare_declarator : (d at : ℕ) (s : Option ℕ) → s ≡ start_of t (suc d) at → s ≡ None → eqb (byte_at t (onward t at 1) / 2 % 2) 1 ≡ false
  unfolding start_of
  bare_declarator d at s e f = go (eqb (byte_at t (onward t at 1) / 2 % 2) 1) (sym e ∙ f)
    where
      go : (b : Bool) → cond b (Some (look_node t d (onward t at 2)).next) None ≡ None → b ≡ false
      go true h = let z : ◌≡◌ {A = ℕ} 0 1 = cc in absurd (omega arith)
      go false h = refl

  abbrev value_in : Option ℕ → ℕ
  value_in (Some n) = n
  value_in None = 0

  valued_declarator : (d at init : ℕ) (s : Option ℕ) → s ≡ start_of t (suc d) at → s ≡ Some init → (eqb (byte_at t (onward t at 1) / 2 % 2) 1 ≡ true) × (init ≡ (look_node t d (onward t at 2)).next)
  unfolding start_of
  valued_declarator d at init s e f = go (eqb (byte_at t (onward t at 1) / 2 % 2) 1) (sym e ∙ f)
    where
      go : (b : Bool) → cond b (Some (look_node t d (onward t at 2)).next) None ≡ Some init → (b ≡ true) × (init ≡ (look_node t d (onward t at 2)).next)
      go true h = (refl, ap value_in (sym h))
      go false h = let z : ◌≡◌ {A = ℕ} 0 1 = cc in absurd (omega arith)

  bare_lowered : (at k : ℕ) (p : Node) → is_lowered (node at k (field (one p) (absent done))) ≡ false
  unfolding is_lowered stands stands_in
  bare_lowered at k p = refl

  valued_lowered : (at k : ℕ) (p v : Node) → is_lowered (node at k (field (one p) (field (one v) done))) ≡ has_object_rest p
  unfolding is_lowered stands stands_in node_at_of piece_in
  valued_lowered at k p v = refl

  pub declarator_bare : {g g' : Going} (c c' : Place) (d h at s : ℕ) (w : Option ℕ) → w ≡ start_of t d at → w ≡ None → c' ≡ inner c → h ≡ d
      → (s ≡ (look_node t h at).next) × (Good t h at → Does g g' (emits c' (look_node t h at).value))
      → byte_at t at ≡ 5 → Good t d at → (s ≡ (look_node t d at).next) × Does g g' (emits_declarator c (look_node t d at).value)
  declarator_bare c c' zero h at s w start none place same-level given k good = no_good t at good
  declarator_bare c c' (suc d) h at s w start none place same-level given k good =
      let o : BinderOpen t d at 5 = declarator_open t d at good k in
      let n : Node = (look_node t (suc d) at).value in
      let left : is_lowered n ≡ false = ap (λ (y : Seen Node). is_lowered y.value) (o.bare (bare_declarator d at w start none)) ∙ bare_lowered at 5 _ in (
        given.0 ∙ ap (λ (y : ℕ). (look_node t y at).next) same-level,
        does_as (given.1 (subst (λ (y : ℕ). Good t y at) (sym same-level) good))
            (ap₂ (λ (m : Place) (y : ℕ). emits m (look_node t y at).value) place same-level ∙ sym (declarator_left n c left)),
      )

  pub declarator_stays : {g g' : Going} (c c' : Place) (d left h at init id s : ℕ) (w : Option ℕ) (b : Bool) → left ≡ d - 1 → id ≡ onward t at 2 → w ≡ start_of t d at → w ≡ Some init
      → b ≡ has_object_rest (look_node t left id).value → b ≡ false → c' ≡ inner c → h ≡ d
      → (s ≡ (look_node t h at).next) × (Good t h at → Does g g' (emits c' (look_node t h at).value))
      → byte_at t at ≡ 5 → Good t d at → (s ≡ (look_node t d at).next) × Does g g' (emits_declarator c (look_node t d at).value)
  declarator_stays c c' zero left h at init id s w b levels second start some test none place same-level given k good = no_good t at good
  declarator_stays c c' (suc d) left h at init id s w b levels second start some test none place same-level given k good =
      let o : BinderOpen t d at 5 = declarator_open t d at good k in
      let n : Node = (look_node t (suc d) at).value in
      let dd : left ≡ d = omega arith in
      let left_is : is_lowered n ≡ false =
      ap (λ (y : Seen Node). is_lowered y.value) (o.valued (valued_declarator d at init w start some).0) ∙ valued_lowered at 5 _ _
      ∙ ap₂ (λ (x y : ℕ). has_object_rest (look_node t x y).value) (sym dd) (sym second) ∙ sym test ∙ none in (
        given.0 ∙ ap (λ (y : ℕ). (look_node t y at).next) same-level,
        does_as (given.1 (subst (λ (y : ℕ). Good t y at) (sym same-level) good))
            (ap₂ (λ (m : Place) (y : ℕ). emits m (look_node t y at).value) place same-level ∙ sym (declarator_left n c left_is)),
      )

  pub declarator_done : {g g₁ g' : Going} (c c' : Place) (d left e at init id q k₃ s : ℕ) (w : Option ℕ) (b : Bool) (r : ReferenceBuilder) → left ≡ d - 1 → id ≡ onward t at 2 → w ≡ start_of t d at → w ≡ Some init
      → b ≡ has_object_rest (look_node t left id).value → b ≡ true → q ≡ (look_node t left init).next
      → k₃ ≡ cell_at 3 id → r ≡ builder_of t left init k₃ 3 false → c' ≡ c → e ≡ left
      → (r ≡ builder_of t e init (cell 3 id) 3 false → Good t e id → Good t e init → Does g g₁ (emits_lowered c' (look_node t e id).value (look_node t e init).value))
      → g' ≡ g₁ → s ≡ q
      → byte_at t at ≡ 5 → Good t d at → (s ≡ (look_node t d at).next) × Does g g' (emits_declarator c (look_node t d at).value)
  declarator_done {g = g} {g₁ = g₁} c c' d left e at init id q k₃ s w b r levels second start some test yes-rest next cell_is built place level lowers upto moved k good =
      let h : d ≡ suc e = level_up t d left e at levels level good in
      let G : Good t (suc e) at = lifted t d e at h good in
      let o : BinderOpen t e at 5 = declarator_open t e at G k in
      let n : Node = (look_node t d at).value in
      let v = valued_declarator e at init w (start ∙ ap (λ (y : ℕ). start_of t y at) h) some in
      let p : Node = (look_node t e (onward t at 2)).value in
      let x : Node = (look_node t e (look_node t e (onward t at 2)).next).value in
      let whole : look_node t d at ≡ seen (node at 5 (field (one p) (field (one x) done))) (look_node t e (look_node t e (onward t at 2)).next).next = ap (λ (y : ℕ). look_node t y at) h ∙ o.valued v.0 in
      let id-as : (look_node t e id).value ≡ p = ap (λ (y : ℕ). (look_node t e y).value) second in
      let init-as : (look_node t e init).value ≡ x = ap (λ (y : ℕ). (look_node t e y).value) v.1 in
      let two : onward t at 2 ≡ at + 2 = good_two t (suc e) at G in
      let within : at + 4 ≤ 16384 = o.within in
      let small : id < 16384 = omega arith in
      let low : is_lowered n ≡ true =
      ap (λ (y : Seen Node). is_lowered y.value) whole ∙ valued_lowered at 5 p x ∙ ap₂ (λ (y z : ℕ). has_object_rest (look_node t y z).value) level (sym second) ∙ sym test ∙ yes-rest in
      let does-it = lowers (built ∙ ap₂ (λ (y z : ℕ). builder_of t y init z 3 false) (sym level) (cell_within _ _ _ cell_is small)) (subst (λ (y : ℕ). Good t e y) (sym second) o.pattern) (subst (λ (y : ℕ). Good t e y) (sym v.1) (o.value v.0)) in (
        moved ∙ next ∙ ap₂ (λ (y z : ℕ). (look_node t y z).next) (sym level) v.1 ∙ ap (λ (y : Seen Node). y.next) (sym whole),
        does_to upto (does_as does-it
            (ap₂ (λ (y z : Node). emits_lowered c' y z) id-as init-as
            ∙ ap (λ (m : Place). emits_lowered m p x) place
            ∙ ap₂ (λ (y z : Node). emits_lowered c y z) (sym (ap (λ (y : Seen Node). node_at_of 0 y.value) whole ∙ first_part at 5 p x)) (sym (ap (λ (y : Seen Node). node_at_of 1 y.value) whole ∙ second_part at 5 p x))
            ∙ sym (declarator_lowered n c low))),
      )

  -- ---- decl: a declaration

  pub declaration_refuses : {g g₁ g' : Going} (c : Place) (d at q s b : ℕ) → ((κ : Context) → b ≡ declaration_refusal κ (look_node t d at).value) → 0 < b
      → Does g g₁ (say (refuses b ∷ puts (0 ∷ 0 ∷ []))) → q ≡ (look_node t d at).next → s ≡ q → g' ≡ g₁
      → byte_at t at ≡ 4 → (s ≡ (look_node t d at).next) × (Good t d at → Does g g' (emits c (look_node t d at).value))
  declaration_refuses {g = g} {g₁ = g₁} {g' = g'} c d at q s b test lacks said next moved upto k = (moved ∙ next, go d test)
    where
      go : (d : ℕ) → ((κ : Context) → b ≡ declaration_refusal κ (look_node t d at).value) → Good t d at → Does g g' (emits c (look_node t d at).value)
      go zero test good = no_good t at good
      go (suc d) test good = does_to upto (does_as said (sym (declaration_refused c (look_node t (suc d) at).value b (is_here t d at 4 ∙ eq-eqb (byte_at t at) 4 k) lacks (sym (test (context_of c))) ∙ as_refused b lacks)))

  pub declaration_writes : {g g₁ g₂ g₃ g₄ g₅ g' : Going} (c c' : Place) (root : Bool) (d left e at i q k n p f u z s b : ℕ) → ((κ : Context) → b ≡ declaration_refusal κ (look_node t d at).value) → b ≤ 0 → root ≡ c.root
      → i ≡ at → (Good t d at → byte_at t at ≡ 4 → Does g g₁ (in_turn declarator_made (items_at_of 2 (look_node t d at).value) ▷ in_turn (declarator_excludes root) (items_at_of 2 (look_node t d at).value)))
      → q ≡ onward t at 5 → ((κ : Context) → k ≡ limited (count (gather (declarators κ) (items_at_of 2 (look_node t d at).value))))
      → Does g₁ g₂ (say (puts (part i q t))) → (k < 65536 → Does g₂ g₃ (say (puts (wide_bytes k)))) → p ≡ onward t q 2 → f ≡ p → g₄ ≡ g₃ → z ≡ (look_node t d at).next
      → left ≡ d - 1 → c' ≡ c → e ≡ left → Wide t q n → Turned t e false n f u modes.Declarator c' g₄ g₅ → s ≡ z → g' ≡ g₅
      → byte_at t at ≡ 4 → (s ≡ (look_node t d at).next) × (Good t d at → Does g g' (emits c (look_node t d at).value))
  declaration_writes c c' root d left e at i q k n p f u z s b test fine asked same hands fifth counts copied wide first move from next levels place level many items moved upto kk = (
    moved ∙ next,
    λ good.
        let h : d ≡ suc e = level_up t d left e at levels level good in
        let o : DeclarationOpen t e at = declaration_open t e at (lifted t d e at h good) kk in
        let w : Node = (look_node t d at).value in
        let m : ℕ = wide_at t (onward t at 2) in
        let x : ℕ = byte_at t (onward t at 4) in
        let ds : Items = (look_items t (look_node t e) false n f).value in
        let nn : n ≡ wide_at t (onward t at 5) = many.value ∙ ap (λ (y : ℕ). wide_at t y) fifth in
        let ff : f ≡ onward t (onward t at 5) 2 = move ∙ first ∙ ap (λ (y : ℕ). onward t y 2) fifth in
        let goods : GoodItems t (look_node t e) (Good t e) false false n f = rw (nn, ff) o.list.good in
        let kinds-are : AllItems (λ y. is 5 y ≡ true) ds = rw (nn, ff) o.declarators in
        let whole : w ≡ declaration_at at m x ds = rw (h, nn, ff) (ap (λ (y : Seen Node). y.value) o.whole) in
        let ds-are : items_at_of 2 w ≡ ds = ap (items_at_of 2) whole ∙ items_at at m x ds in
        let short : length (encode w) ≤ 16384 = good_short t d at good in
        let fit : count (gather (declarators (context_of c)) (items_at_of 2 w)) ≤ length (encode w) = declarations_fit (context_of c) 2 w in
        let k_is : k ≡ count (gather (declarators (context_of c)) (items_at_of 2 w)) = counts (context_of c) ∙ counted_whole _ (length (encode w)) fit short in
        let small : k < 65536 = omega arith in
        let k_as : k ≡ declarator_count c ds = k_is ∙ ap (λ (y : Items). count (gather (declarators (context_of c)) y)) ds-are ∙ sym (count_is c ds) in
        let M : Emit = in_turn declarator_made ds in
        let X : Emit = in_turn (declarator_excludes c.root) ds in
        let D : Emit = in_turn (emits_declarator c) ds in
        let r = items goods (suit_declarator ds kinds-are) in
        let bytes : part i q t ≡ 4 ∷ 7 ∷ wide_bytes m ++ (x ∷ []) = ap₂ (λ (y v : ℕ). part y v t) same fifth ∙ o.head in
        let head : say (puts (part i q t)) ▷ say (puts (wide_bytes k)) ≡ say (puts (4 ∷ 7 ∷ []) ++ (marks m ++ puts (x ∷ wide_bytes (declarator_count c ds)))) =
        ap₂ (λ (bs : List ℕ) (y : ℕ). say (puts bs) ▷ say (puts (wide_bytes y))) bytes k_as ∙ say_say (puts (4 ∷ 7 ∷ wide_bytes m ++ (x ∷ []))) (puts (wide_bytes (declarator_count c ds))) ∙ ap say (head_is m x (declarator_count c ds) o.marked) in
        does_to upto (does_as (does_then (hands good kk) (does_then (does_then copied (wide small)) (does_from from r.1)))
        (ap₂ (λ (y : Items) (v : Emit). (in_turn declarator_made y ▷ in_turn (declarator_excludes root) y) ▷ v ▷ turns_of modes.Declarator c' ds) ds-are head
        ∙ ap (λ (y : Bool). (M ▷ in_turn (declarator_excludes y) ds) ▷ say (puts (4 ∷ 7 ∷ []) ++ (marks m ++ puts (x ∷ wide_bytes (declarator_count c ds)))) ▷ turns_of modes.Declarator c' ds) asked
        ∙ ap (λ (v : Emit). (M ▷ X) ▷ say (puts (4 ∷ 7 ∷ []) ++ (marks m ++ puts (x ∷ wide_bytes (declarator_count c ds)))) ▷ v) (ap (λ (y : Place). turns_of modes.Declarator y ds) place ∙ turns_declarator c ds)
        ∙ then_assoc M X (say (puts (4 ∷ 7 ∷ []) ++ (marks m ++ puts (x ∷ wide_bytes (declarator_count c ds)))) ▷ D)
        ∙ sym (declaration_done c at m x ds (ap (declaration_refusal (context_of c)) (sym whole) ∙ sym (test (context_of c)) ∙ (let w : b ≡ 0 = omega arith in w)))
        ∙ ap (emits c) (sym whole))),
  )
