-- The value of an object rest and the keys that it leaves out: the ways out of the code that writes them.
-- Assumes nothing.
use mathlib.Core.Path.{◌≡◌, refl, sym, ap, ◌∙◌, subst}
use mathlib.Core.Bool.{Bool, true, false, cond}
use mathlib.Core.List.{List, [], ◌∷◌, ◌++◌}
use Prim.Native.Nat.{ℕ, zero, suc, ◌-◌, ◌/◌, ◌%◌, ◌≤◌, ◌<◌, min}
use native.Mathlib.Omega.{arith}
use lib.Dec.{eqb}
use Rattle.tree.specs.Tree.{Node, Items, wide_bytes, count}
use Rattle.tree.specs.Read.{byte_at, wide_at}
use Rattle.tree.specs.Look.{Seen, onward, look_items, look_node}
use Rattle.tree.specs.Answer.{Wide}
use Rattle.lowering.specs.Parts.{position, items_at_of, piece_in}
use Rattle.lowering.specs.Made.{Context}
use Rattle.lowering.specs.Patterns.{properties, key}
use Rattle.lowering.specs.Keys.{key_sort, all_primitive, excluded_keys, entry_of, key_text}
use Rattle.lowering.specs.Rests.{has_no_properties}
use Rattle.lowering.proofs.Cases.{by_test}
use Rattle.sink.specs.Machine.Event.{temporary, helper}
use Rattle.pattern.specs.Tally.{limited}
use Rattle.direct.specs.Events.{Place, Emit, puts, emits}
use Rattle.direct.specs.Events.Deed.{does}
use Rattle.direct.specs.Emit.{say, ◌▷◌, inner, call_head, in_turn}
use Rattle.direct.specs.Views.{says_cell, is_other, nameless}
use Rattle.direct.specs.Keys.{string_bytes_of, emits_excluded, is_private, entries, hoists, emits_keys, emits_keys_read, emits_rest}
use Rattle.direct.specs.Declared.{emits_key_value}
use Rattle.direct.proofs.Threads.{then_assoc, say_puts}
use Rattle.direct.proofs.RestValues.{excluded_spelt, excluded_itself, excluded_omitted, excluded_saved, entries_are, primitives_are, rest_none, rest_some, read_hoisted, read_inline, read_mapped}
use Rattle.walk.specs.declared.modes.Mode.TheVariants as modes
use Rattle.walk.specs.declared.look.KeyClass.{KeyClass}
use Rattle.walk.specs.declared.look.KeyClass.TheVariants.{AsString, AsItStands, LeftOut, AsTemporary}
use Rattle.walk.specs.Run.{Going, Does}
use Rattle.walk.specs.Whole.{Good, Ruled, Emitted}
use Rattle.walk.specs.Turns.{cell_at, class_entry, key_string}
use Rattle.walk.proofs.Running.{does_then, does_as, does_to, does_nothing}
use Rattle.walk.proofs.SpreadArguments.{does_from}
use Rattle.walk.proofs.Lookups.{cell_within}
use Rattle.walk.proofs.Opened.{property_key, no_good, position_here, good_within, object_open}
use Rattle.walk.proofs.ListTurns.{Sequenced, sequenced_as, turns_excluded_key, suit_excluded_key}
use Rattle.walk.proofs.Viewing.{cell_4, ruled_as}
use Rattle.lowering.specs.Keys.Entry.{spelt, itself, omitted, saved}

-- ---- the value

-- there are no properties: the source twice
pub rest_whole : {g g₁ g₂ g₃ : Going} (c : Place) (at : ℕ) (n : Node) (s : Emit) (b : Bool) → b ≡ has_no_properties n → b ≡ true
    → Does g g₁ (say (call_head 2 2 ++ (puts (24 ∷ 1 ∷ 0 ∷ 0 ∷ 28 ∷ 1 ∷ 2 ∷ 0 ∷ []) ++ call_head 3 1))) → Does g₁ g₂ s → Does g₂ g₃ s
    → Does g g₃ (emits_rest c at (properties n) s)
rest_whole c at n s b e h x y z = does_as (does_then x (does_then y z)) (sym (rest_none c at (properties n) s (sym e ∙ h)))

module _ (t : List ℕ) where
  -- the source, and the keys that are left out
  pub rest_keys : {g g₁ g₂ g₃ : Going} (c c₁ : Place) (d d₁ p : ℕ) (s : Emit) (b : Bool) → b ≡ has_no_properties (look_node t d p).value → b ≡ false → c₁ ≡ inner c → d₁ ≡ d
      → (2 < 65536 → Does g g₁ (say (call_head 4 2))) → Does g₁ g₂ s
      → (Good t d₁ p → byte_at t p ≡ 34 → Does g₂ g₃ (emits_keys_read c₁ p (properties (look_node t d₁ p).value)))
      → Good t d p → byte_at t p ≡ 34 → Does g g₃ (emits_rest c p (properties (look_node t d p).value) s)
  rest_keys {g₂ = g₂} {g₃ = g₃} c c₁ d d₁ p s b e h ec ed x y k good e34 =
      let qs : Items = properties (look_node t d p).value in
      let z : Does g₂ g₃ (emits_keys_read (inner c) p qs) =
      subst (λ (x : Place). Does g₂ g₃ (emits_keys_read x p qs)) ec
      (subst (λ (x : ℕ). Good t x p → Does g₂ g₃ (emits_keys_read c₁ p (properties (look_node t x p).value))) ed (λ good. k good e34) good) in
      does_as (does_then (x (omega arith)) (does_then y z)) (sym (rest_some c p qs s (sym e ∙ h)))

  -- ---- the keys as the helper reads them

  pub read_cell : {g g₁ : Going} (c : Place) (d p k : ℕ) (b : Bool) → b ≡ hoists c.root (properties (look_node t d p).value) → b ≡ true
      → k ≡ cell_at 2 p → Does g g₁ (say (does (temporary k 2) ∷ []))
      → Good t d p → byte_at t p ≡ 34 → Does g g₁ (emits_keys_read c p (properties (look_node t d p).value))
  unfolding says_cell
  read_cell c d p k b e h ck a good e34 =
      let small : p < 16384 = omega (arith, good_within t d p good) in
      does_as a
      (ap (λ (x : ℕ). say (does (temporary x 2) ∷ [])) (cell_within _ _ _ ck small) ∙ sym (read_hoisted c p (properties (look_node t d p).value) (sym e ∙ h)))

  -- all may be taken as strings
  pub read_strings : {g g₁ : Going} (c : Place) (d p : ℕ) (b f : Bool) → b ≡ hoists c.root (properties (look_node t d p).value) → b ≡ false
      → f ≡ all_primitive (look_node t d p).value → f ≡ true
      → (Good t d p → byte_at t p ≡ 34 → Does g g₁ (emits_keys c (properties (look_node t d p).value)))
      → Good t d p → byte_at t p ≡ 34 → Does g g₁ (emits_keys_read c p (properties (look_node t d p).value))
  read_strings c d p b f e h i j k good e34 =
      let n : Node = (look_node t d p).value in
      does_as (k good e34) (sym (read_inline c p (properties n) (sym e ∙ h) (sym (primitives_are n) ∙ sym i ∙ j)))

  -- any other are mapped
  pub read_any : {g g₁ g₂ g₃ g₄ : Going} (c : Place) (d p : ℕ) (b f : Bool) → b ≡ hoists c.root (properties (look_node t d p).value) → b ≡ false
      → f ≡ all_primitive (look_node t d p).value → f ≡ false
      → Does g g₁ (say (puts (29 ∷ 3 ∷ []))) → Does g₁ g₂ (say (puts (30 ∷ 3 ∷ [])))
      → (Good t d p → byte_at t p ≡ 34 → Does g₂ g₃ (emits_keys c (properties (look_node t d p).value)))
      → Does g₃ g₄ (say (puts (3 ∷ 0 ∷ 109 ∷ 97 ∷ 112 ∷ 1 ∷ 0 ∷ []) ++ (does (helper 5) ∷ [])))
      → Good t d p → byte_at t p ≡ 34 → Does g g₄ (emits_keys_read c p (properties (look_node t d p).value))
  read_any c d p b f e h i j x y k z good e34 =
      let n : Node = (look_node t d p).value in
      let end : Emit = say (puts (3 ∷ 0 ∷ 109 ∷ 97 ∷ 112 ∷ 1 ∷ 0 ∷ []) ++ (does (helper 5) ∷ [])) in
      let more : Emit = emits_keys c (properties n) ▷ end in
      does_as (does_then x (does_then y (does_then (k good e34) z)))
      (sym (then_assoc (say (puts (29 ∷ 3 ∷ []))) (say (puts (30 ∷ 3 ∷ []))) more)
      ∙ ap (λ (x : Emit). x ▷ more) (say_puts (29 ∷ 3 ∷ []) (30 ∷ 3 ∷ []))
      ∙ sym (read_mapped c p (properties n) (sym e ∙ h) (sym (primitives_are n) ∙ sym i ∙ j)))

  -- ---- their array

  -- the properties of a good object
  pub properties_here : (d at : ℕ) → Good t (suc d) at → byte_at t at ≡ 34
      → properties (look_node t (suc d) at).value ≡ (look_items t (look_node t d) false (wide_at t (onward t at 2)) (onward t (onward t at 2) 2)).value
  unfolding items_at_of piece_in
  properties_here d at good e34 =
      let o = object_open t d at good e34 in
      by_test (eqb (byte_at t (onward t at 1) / 2 % 2) 1)
      (λ e. ap (λ (n : Seen Node). properties n.value) (o.resting e))
      (λ e. ap (λ (n : Seen Node). properties n.value) (o.plain e))

entries_few : (qs : Items) → entries qs ≤ count qs
unfolding entries count
entries_few Items.none = omega arith
entries_few (Items.hole qs) = let h = entries_few qs in omega arith
entries_few (Items.item q qs) = go (is_private (key q)) (entries_few qs)
  where
    go : (b : Bool) → entries qs ≤ count qs → cond b (entries qs) (suc (entries qs)) ≤ suc (count qs)
    go true h = omega arith
    go false h = omega arith

module _ (t : List ℕ) where
  pub keys_does : {g g₁ g₂ g₃ g₄ g₅ : Going} (c c₁ : Place) (d d₁ p q n k f x y : ℕ) → q ≡ onward t p 2 → Wide t q n
      → ((κ : Context) → k ≡ limited (count (excluded_keys κ (look_node t d p).value))) → f ≡ onward t q 2 → x ≡ f → c₁ ≡ c → d₁ ≡ d - 1 → g₃ ≡ g₂ → g₅ ≡ g₄
      → Does g g₁ (say (puts (32 ∷ 1 ∷ []))) → (k < 65536 → Does g₁ g₂ (say (puts (wide_bytes k)))) → Sequenced t modes.ExcludedKey c₁ d₁ false n x y g₃ g₄
      → Good t d p → byte_at t p ≡ 34 → Does g g₅ (emits_keys c (properties (look_node t d p).value))
  unfolding emits_keys limited
  keys_does c c₁ zero d₁ p q n k f x y eq w ek ef ex ec ed eg eh a b sq good e34 = no_good t p good
  keys_does c c₁ (suc d) d₁ p q n k f x y eq w ek ef ex ec ed eg eh a b sq good e34 =
      let o = object_open t d p good e34 in
      let xd : d₁ ≡ d = omega arith in
      let whole : Node = (look_node t (suc d) p).value in
      let nn : n ≡ wide_at t (onward t p 2) = w.value ∙ ap (λ (z : ℕ). wide_at t z) eq in
      let ff : x ≡ onward t (onward t p 2) 2 = ex ∙ ef ∙ ap (λ (z : ℕ). onward t z 2) eq in
      let qs : Items = (look_items t (look_node t d) false (wide_at t (onward t p 2)) (onward t (onward t p 2) 2)).value in
      let here : properties whole ≡ qs = properties_here t d p good e34 in
      let few : entries qs ≤ wide_at t (onward t p 2) = subst (λ (z : ℕ). entries qs ≤ z) o.list.many (entries_few qs) in
      let kk : k ≡ min (entries qs) 65536 = ek nameless ∙ ap (λ (z : ℕ). limited z) (entries_are nameless whole ∙ ap entries here) in
      let small : k < 65536 = omega (arith, o.list.small) in
      let same : k ≡ entries qs = omega (arith, o.list.small) in
      let r = sequenced_as t false modes.ExcludedKey modes.ExcludedKey c c₁ d d₁ (wide_at t (onward t p 2)) n (onward t (onward t p 2) 2) x y refl ec xd nn ff sq o.list.good (suit_excluded_key qs o.properties) in
      let turns : Emit = in_turn (emits_excluded c) qs in
      does_to eh
      (does_as (does_then a (does_then (b small) (does_from eg (does_as r.1 (turns_excluded_key c qs)))))
      (sym (then_assoc (say (puts (32 ∷ 1 ∷ []))) (say (puts (wide_bytes k))) turns)
      ∙ ap (λ (z : Emit). z ▷ turns) (say_puts (32 ∷ 1 ∷ []) (wide_bytes k))
      ∙ ap (λ (z : ℕ). say (puts (32 ∷ 1 ∷ wide_bytes z)) ▷ turns) same
      ∙ ap (λ (z : Items). emits_keys c z) (sym here)))

-- ---- one of them, by the class of its key

module _ (k : Node) where
  string_spelt : entry_of (key_sort k) ≡ spelt → key_string k ≡ string_bytes_of (key_text k)
  unfolding key_string
  string_spelt e = rw (e, key_string) refl

module _ (c : Place) (q : Node) where
  as_string : entry_of (key_sort (key q)) ≡ spelt → say (puts (key_string (key q))) ≡ emits_excluded c q
  as_string e = ap (λ (bs : List ℕ). say (puts bs)) (string_spelt (key q) e) ∙ sym (excluded_spelt c q e)

  as_standing : entry_of (key_sort (key q)) ≡ itself → emits c (key q) ≡ emits_excluded c q
  as_standing h = sym (excluded_itself c q h)

  as_nothing : entry_of (key_sort (key q)) ≡ omitted → say [] ≡ emits_excluded c q
  as_nothing h = sym (excluded_omitted c q h)

  as_cell : entry_of (key_sort (key q)) ≡ saved → says_cell 4 (position q) ≡ emits_excluded c q
  as_cell h = sym (excluded_saved c q h)

module _ (t : List ℕ) where
  module _ (d e at k : ℕ) (ee : e ≡ d) (ek : k ≡ onward t at 2) where
    -- the same where the code looks for it
    key_at_lem : Good t (suc d) at → byte_at t at ≡ 35 → (look_node t e k).value ≡ key (look_node t (suc d) at).value
    key_at_lem good e35 = ap (λ (x : ℕ). (look_node t x k).value) ee ∙ (property_key t d at good e35 k ek).0

    key_good : Good t (suc d) at → byte_at t at ≡ 35 → Good t e k
    key_good good e35 = rw ee (property_key t d at good e35 k ek).1

  pub excluded_string : {g g₁ g₂ : Going} (c : Place) (d e at k s z : ℕ) (sort : KeyClass) → e ≡ d - 1 → k ≡ onward t at 2 → s ≡ (look_node t d at).next → z ≡ s → g₂ ≡ g₁
      → class_entry sort ≡ entry_of (key_sort (look_node t e k).value) → sort ≡ AsString
      → (Good t e k → entry_of (key_sort (look_node t e k).value) ≡ spelt → Does g g₁ (say (puts (key_string (look_node t e k).value))))
      → byte_at t at ≡ 35 → Emitted t d at z g g₂ (emits_excluded c)
  excluded_string c zero e at k s z sort ee ek es ez eg h i a e35 good = no_good t at good
  excluded_string c (suc d) e at k s z sort ee ek es ez eg h i a e35 good =
      let xe : e ≡ d = omega arith in
      let q : Node = (look_node t (suc d) at).value in
      let same : (look_node t e k).value ≡ key q = key_at_lem d e at k xe ek good e35 in
      let entry : entry_of (key_sort (look_node t e k).value) ≡ spelt = sym h ∙ ap class_entry i in (
        ez ∙ es,
        does_to eg (does_as (a (key_good d e at k xe ek good e35) entry)
            (ap (λ (x : Node). say (puts (key_string x))) same ∙ as_string c q (sym (ap (λ (x : Node). entry_of (key_sort x)) same) ∙ entry))),
      )

  pub excluded_standing : {g g₁ g₂ g₃ : Going} (c c₁ : Place) (d e d₁ at k s u r z : ℕ) (sort : KeyClass) → e ≡ d - 1 → k ≡ onward t at 2 → s ≡ (look_node t d at).next → z ≡ s
      → c₁ ≡ c → d₁ ≡ e → u ≡ k → g₁ ≡ g → g₃ ≡ g₂
      → class_entry sort ≡ entry_of (key_sort (look_node t e k).value) → sort ≡ AsItStands → Ruled t d₁ u r g₁ g₂ (emits c₁)
      → byte_at t at ≡ 35 → Emitted t d at z g g₃ (emits_excluded c)
  excluded_standing c c₁ zero e d₁ at k s u r z sort ee ek es ez ec ed eu eg eh h i a e35 good = no_good t at good
  excluded_standing c c₁ (suc d) e d₁ at k s u r z sort ee ek es ez ec ed eu eg eh h i a e35 good =
      let xe : e ≡ d = omega arith in
      let q : Node = (look_node t (suc d) at).value in
      let same : (look_node t e k).value ≡ key q = key_at_lem d e at k xe ek good e35 in
      let b = ruled_as t (λ c. emits c) c c₁ e d₁ k u r ec ed eu a in (
        ez ∙ es,
        does_to eh (does_from eg (does_as (b.1 (key_good d e at k xe ek good e35))
            (ap (λ (x : Node). emits c x) same ∙ as_standing c q (sym (ap (λ (x : Node). entry_of (key_sort x)) same) ∙ sym h ∙ ap class_entry i)))),
      )

  pub excluded_nothing : {g g₁ : Going} (c : Place) (d e at k s z : ℕ) (sort : KeyClass) → e ≡ d - 1 → k ≡ onward t at 2 → s ≡ (look_node t d at).next → z ≡ s → g₁ ≡ g
      → class_entry sort ≡ entry_of (key_sort (look_node t e k).value) → sort ≡ LeftOut
      → byte_at t at ≡ 35 → Emitted t d at z g g₁ (emits_excluded c)
  excluded_nothing c zero e at k s z sort ee ek es ez eg h i e35 good = no_good t at good
  excluded_nothing {g = g} c (suc d) e at k s z sort ee ek es ez eg h i e35 good =
      let xe : e ≡ d = omega arith in
      let q : Node = (look_node t (suc d) at).value in
      (ez ∙ es, does_to eg (does_as (does_nothing g) (as_nothing c q (sym (ap (λ (x : Node). entry_of (key_sort x)) (key_at_lem d e at k xe ek good e35)) ∙ sym h ∙ ap class_entry i))))

  pub excluded_cell : {g g₁ g₂ : Going} (c : Place) (d e at k s z : ℕ) (sort : KeyClass) → e ≡ d - 1 → k ≡ onward t at 2 → s ≡ (look_node t d at).next → z ≡ s → g₂ ≡ g₁
      → class_entry sort ≡ entry_of (key_sort (look_node t e k).value) → sort ≡ AsTemporary → Does g g₁ (say (does (temporary at 4) ∷ []))
      → byte_at t at ≡ 35 → Emitted t d at z g g₂ (emits_excluded c)
  excluded_cell c zero e at k s z sort ee ek es ez eg h i a e35 good = no_good t at good
  excluded_cell c (suc d) e at k s z sort ee ek es ez eg h i a e35 good =
      let xe : e ≡ d = omega arith in
      let q : Node = (look_node t (suc d) at).value in
      let entry : entry_of (key_sort (key q)) ≡ saved = sym (ap (λ (x : Node). entry_of (key_sort x)) (key_at_lem d e at k xe ek good e35)) ∙ sym h ∙ ap class_entry i in (
        ez ∙ es,
        does_to eg (does_as a
            (cell_4 at ∙ ap (λ (x : ℕ). says_cell 4 x) (sym (position_here t (suc d) at))
            ∙ as_cell c q entry)),
      )

  -- ---- the declarator of the temporary for a key

  pub key_value : {g g₁ g₂ g₃ g₄ g₅ : Going} (c c₁ : Place) (d e d₁ at k s u r z : ℕ) (b : Bool) → e ≡ d - 1 → k ≡ onward t at 2 → s ≡ (look_node t d at).next → z ≡ s
      → c₁ ≡ inner c → d₁ ≡ e → u ≡ k → g₃ ≡ g₂ → g₅ ≡ g₄
      → b ≡ is_other (look_node t e k).value → b ≡ true
      → Does g g₁ (say (puts (5 ∷ 3 ∷ []))) → Does g₁ g₂ (say (does (temporary at 4) ∷ [])) → Ruled t d₁ u r g₃ g₄ (emits c₁)
      → byte_at t at ≡ 35 → Emitted t d at z g g₅ (emits_key_value c)
  unfolding emits_key_value
  key_value c c₁ zero e d₁ at k s u r z b ee ek es ez ec ed eu eg eh h i x y a e35 good = no_good t at good
  key_value c c₁ (suc d) e d₁ at k s u r z b ee ek es ez ec ed eu eg eh h i x y a e35 good =
      let xe : e ≡ d = omega arith in
      let q : Node = (look_node t (suc d) at).value in
      let same : (look_node t e k).value ≡ key q = key_at_lem d e at k xe ek good e35 in
      let n = ruled_as t (λ c. emits c) (inner c) c₁ e d₁ k u r ec ed eu a in
      let wants : is_other (key q) ≡ true = sym (ap is_other same) ∙ sym h ∙ i in (
        ez ∙ es,
        does_to eh (does_as
            (does_then x (does_then
            (does_as y (cell_4 at ∙ ap (λ (x : ℕ). says_cell 4 x) (sym (position_here t (suc d) at))))
            (does_from eg (does_as (n.1 (key_good d e at k xe ek good e35)) (ap (λ (x : Node). emits (inner c) x) same)))))
            (ap (λ (w : Bool). cond w (say (puts (5 ∷ 3 ∷ [])) ▷ says_cell 4 (position q) ▷ emits (inner c) (key q)) (say [])) (sym wants))),
      )

  pub key_plain : {g g₁ : Going} (c : Place) (d e at k s z : ℕ) (b : Bool) → e ≡ d - 1 → k ≡ onward t at 2 → s ≡ (look_node t d at).next → z ≡ s → g₁ ≡ g
      → b ≡ is_other (look_node t e k).value → b ≡ false
      → byte_at t at ≡ 35 → Emitted t d at z g g₁ (emits_key_value c)
  unfolding emits_key_value
  key_plain c zero e at k s z b ee ek es ez eg h i e35 good = no_good t at good
  key_plain {g = g} c (suc d) e at k s z b ee ek es ez eg h i e35 good =
      let xe : e ≡ d = omega arith in
      let q : Node = (look_node t (suc d) at).value in
      let plain : is_other (key q) ≡ false = sym (ap is_other (key_at_lem d e at k xe ek good e35)) ∙ sym h ∙ i in (
        ez ∙ es,
        does_to eg (does_as (does_nothing g)
            (ap (λ (w : Bool). cond w (say (puts (5 ∷ 3 ∷ [])) ▷ says_cell 4 (position q) ▷ emits (inner c) (key q)) (say [])) (sym plain))),
      )
