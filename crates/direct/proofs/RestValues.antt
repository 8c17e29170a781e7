-- The value of an object rest, and the keys that it leaves out.
-- Assumes nothing.
use mathlib.Core.Path.{◌≡◌, refl, sym, ap, ap₂, ◌∙◌}
use mathlib.Core.Bool.{Bool, true, false, cond, not, ◌&&◌, ◌||◌}
use mathlib.Core.List.{List, [], ◌∷◌, ◌++◌}
use Prim.Native.Nat.{ℕ, suc}
use Rattle.tree.specs.Tree.{Node, Items, wide_bytes, count}
use Rattle.lowering.specs.Parts.{position, is, is_empty, only, each, gather, any, on_node, change_node, ◌+++◌}
use Rattle.lowering.specs.Made.{Context, object, array, sequence, member, string, excluded_of, key_of, E, X, W, K}
use Rattle.lowering.specs.Patterns.{properties, key}
use Rattle.lowering.specs.Keys.{key_sort, is_primitive, excluded_key, excluded_keys, all_primitive, entry_of, key_text}
use Rattle.lowering.specs.Rests.{mapped, is_hoisted, keys_read, rest_value}
use Rattle.lowering.proofs.Cases.{by_entry}
use Rattle.sink.specs.Machine.{Event}
use Rattle.direct.specs.Events.{Deed, Place, Emit, puts, emits}
use Rattle.direct.specs.Events.Deed.{does}
use Rattle.direct.specs.Emit.{say, ◌▷◌, inner, emits_items, call_head, in_turn}
use Rattle.direct.specs.Views.{says_cell}
use Rattle.direct.specs.Keys.{string_bytes_of, emits_excluded, is_private, entries, primitives, hoists, emits_keys, emits_keys_read, emits_rest}
use Rattle.direct.proofs.Threads.{then_assoc, then_nothing, say_say}
use Rattle.direct.proofs.Alike.{key_kept}
use Rattle.direct.proofs.MadeNodes.{say_then, more_items, only_item, no_items, emits_call, emits_X, emits_E, emits_W, emits_array, emits_object, emits_sequence, emits_member, emits_string, emits_helper}
use Rattle.direct.proofs.ListsInTurn.{items_gather, turn_same}
use Rattle.direct.proofs.ViewedPatterns.{says_cell_lem}
use Rattle.lowering.proofs.ItemLaws.{empty_each}
use Rattle.lowering.proofs.ChangeLaws.{position_changed}
use Rattle.lowering.specs.Keys.Entry.{spelt, itself, omitted, saved}

-- ---- one key

module _ (c : Place) (q : Node) where
  pub excluded_spelt : entry_of (key_sort (key q)) ≡ spelt → emits_excluded c q ≡ say (puts (string_bytes_of (key_text (key q))))
  unfolding emits_excluded
  excluded_spelt e = rw (e, emits_excluded) refl

  pub excluded_itself : entry_of (key_sort (key q)) ≡ itself → emits_excluded c q ≡ emits c (key q)
  unfolding emits_excluded
  excluded_itself e = rw (e, emits_excluded) refl

  pub excluded_omitted : entry_of (key_sort (key q)) ≡ omitted → emits_excluded c q ≡ say []
  unfolding emits_excluded
  excluded_omitted e = rw (e, emits_excluded) refl

  pub excluded_saved : entry_of (key_sort (key q)) ≡ saved → emits_excluded c q ≡ says_cell 4 (position q)
  unfolding emits_excluded
  excluded_saved e = rw (e, emits_excluded) refl

module _ (κ : Context) (q : Node) where
  pub key_spelt : entry_of (key_sort (key q)) ≡ spelt → excluded_key κ q ≡ only (string (key_text (key q)))
  unfolding excluded_key
  key_spelt e = rw (e, excluded_key) refl

  pub key_itself : entry_of (key_sort (key q)) ≡ itself → excluded_key κ q ≡ only (key q)
  unfolding excluded_key
  key_itself e = rw (e, excluded_key) refl

  pub key_omitted : entry_of (key_sort (key q)) ≡ omitted → excluded_key κ q ≡ Items.none
  unfolding excluded_key
  key_omitted e = rw (e, excluded_key) refl

  pub key_saved : entry_of (key_sort (key q)) ≡ saved → excluded_key κ q ≡ only (key_of κ q)
  unfolding excluded_key
  key_saved e = rw (e, excluded_key) refl

  pub excluded_done : (c : Place) → emits_items false c (excluded_key κ q) ≡ emits_excluded c q
  excluded_done c =
      by_entry (entry_of (key_sort (key q)))
      (λ e. ap (emits_items false c) (key_spelt e) ∙ only_item c (string (key_text (key q))) ∙ emits_string c (key_text (key q)) ∙ sym (excluded_spelt c q e))
      (λ e. ap (emits_items false c) (key_itself e) ∙ only_item c (key q) ∙ sym (excluded_itself c q e))
      (λ e. ap (emits_items false c) (key_omitted e) ∙ no_items false c ∙ sym (excluded_omitted c q e))
      (λ e. ap (emits_items false c) (key_saved e) ∙ only_item c (key_of κ q) ∙ says_cell_lem c κ.path 4 (position q) ∙ sym (excluded_saved c q e))

  -- nothing, or one entry
  entry_one : (is : Items) → count (excluded_key κ q +++ is) ≡ cond (is_private (key q)) (count is) (suc (count is))
  unfolding ◌+++◌ count is_private
  entry_one is =
      by_entry (entry_of (key_sort (key q)))
      (λ e. ap (λ (x : Items). count (x +++ is)) (key_spelt e) ∙ rw (e, is_private) refl)
      (λ e. ap (λ (x : Items). count (x +++ is)) (key_itself e) ∙ rw (e, is_private) refl)
      (λ e. ap (λ (x : Items). count (x +++ is)) (key_omitted e) ∙ rw (e, is_private) refl)
      (λ e. ap (λ (x : Items). count (x +++ is)) (key_saved e) ∙ rw (e, is_private) refl)

-- ---- all keys

pub entries_in_lem : (κ : Context) (qs : Items) → count (gather (excluded_key κ) qs) ≡ entries qs
unfolding entries gather count
entries_in_lem κ Items.none = refl
entries_in_lem κ (Items.hole qs) = entries_in_lem κ qs
entries_in_lem κ (Items.item q qs) =
    entry_one κ q (gather (excluded_key κ) qs) ∙ ap (λ (n : ℕ). cond (is_private (key q)) n (suc n)) (entries_in_lem κ qs)

pub entries_are : (κ : Context) (p : Node) → count (excluded_keys κ p) ≡ entries (properties p)
unfolding excluded_keys
entries_are κ p = entries_in_lem κ (properties p)

pub primitives_are : (p : Node) → all_primitive p ≡ primitives (properties p)
unfolding all_primitive primitives
primitives_are p = refl

pub hoisted_are : (κ : Context) (p : Node) → is_hoisted κ p ≡ hoists κ.root (properties p)
unfolding is_hoisted hoists all_primitive primitives
hoisted_are κ p = refl

pub keys_done : (c : Place) (κ : Context) (p : Node) → emits c (array (excluded_keys κ p)) ≡ emits_keys (inner c) (properties p)
unfolding emits_keys excluded_keys
keys_done c κ p =
    emits_array c (gather (excluded_key κ) (properties p))
    ∙ ap₂ (λ (n : ℕ) (e : Emit). say (puts (32 ∷ 1 ∷ wide_bytes n)) ▷ e) (entries_in_lem κ (properties p))
    (items_gather false (inner c) (excluded_key κ) (properties p)
    ∙ turn_same (λ q. emits_items false (inner c) (excluded_key κ q)) (emits_excluded (inner c)) (λ q. excluded_done κ q (inner c)) (properties p))

keys_mapped : (c : Place) (keys : Node) (e : Emit) → emits (inner c) keys ≡ e
    → emits c (mapped keys) ≡ say (puts (29 ∷ 3 ∷ 30 ∷ 3 ∷ [])) ▷ e ▷ say (puts (3 ∷ 0 ∷ 109 ∷ 97 ∷ 112 ∷ 1 ∷ 0 ∷ []) ++ (does (Event.helper 5) ∷ []))
unfolding mapped inner count
keys_mapped c keys e h =
    let name : List ℕ = 109 ∷ 97 ∷ 112 ∷ [] in
    let end : List Deed = puts (1 ∷ 0 ∷ []) ++ (does (Event.helper 5) ∷ []) in
    emits_call c (member keys name) (only K)
    ∙ ap₂ (λ (x y : Emit). say (puts (29 ∷ 3 ∷ [])) ▷ x ▷ say (puts (1 ∷ 0 ∷ [])) ▷ y)
    (emits_member (inner c) keys name ∙ ap (λ (x : Emit). say (puts (30 ∷ 3 ∷ [])) ▷ x ▷ say (puts (3 ∷ 0 ∷ name))) h)
    (only_item (inner c) K ∙ emits_helper (inner c) 5)
    ∙ ap (λ (x : Emit). say (puts (29 ∷ 3 ∷ [])) ▷ (say (puts (30 ∷ 3 ∷ [])) ▷ e ▷ say (puts (3 ∷ 0 ∷ name))) ▷ x)
    (say_say (puts (1 ∷ 0 ∷ [])) (does (Event.helper 5) ∷ []))
    ∙ ap (λ (x : Emit). say (puts (29 ∷ 3 ∷ [])) ▷ x)
    (then_assoc (say (puts (30 ∷ 3 ∷ []))) (e ▷ say (puts (3 ∷ 0 ∷ name))) (say end)
    ∙ ap (λ (x : Emit). say (puts (30 ∷ 3 ∷ [])) ▷ x)
    (then_assoc e (say (puts (3 ∷ 0 ∷ name))) (say end) ∙ ap (λ (x : Emit). e ▷ x) (say_say (puts (3 ∷ 0 ∷ name)) end)))
    ∙ say_then (puts (29 ∷ 3 ∷ [])) (puts (30 ∷ 3 ∷ [])) (e ▷ say (puts (3 ∷ 0 ∷ name) ++ end))

pub keys_read_lem : (c : Place) (κ : Context) (p : Node) → κ.root ≡ c.root → emits (inner c) (keys_read κ p) ≡ emits_keys_read (inner c) (position p) (properties p)
unfolding keys_read emits_keys_read inner
keys_read_lem c κ p r =
    let qs = properties p in
    ap₂ (λ (a b : Bool). emits (inner c) (cond a (excluded_of κ p) (cond b (array (excluded_keys κ p)) (mapped (array (excluded_keys κ p))))))
    (hoisted_are κ p ∙ ap (λ (b : Bool). hoists b qs) r) (primitives_are p)
    ∙ go (hoists c.root qs) (primitives qs)
  where
    go : (a b : Bool) → emits (inner c) (cond a (excluded_of κ p) (cond b (array (excluded_keys κ p)) (mapped (array (excluded_keys κ p)))))
        ≡ cond a (says_cell 2 (position p)) (cond b (emits_keys (inner c) (properties p))
        (say (puts (29 ∷ 3 ∷ 30 ∷ 3 ∷ [])) ▷ emits_keys (inner c) (properties p) ▷ say (puts (3 ∷ 0 ∷ 109 ∷ 97 ∷ 112 ∷ 1 ∷ 0 ∷ []) ++ (does (Event.helper 5) ∷ []))))
    go true b = says_cell_lem (inner c) κ.path 2 (position p)
    go false true = keys_done (inner c) κ p
    go false false = keys_mapped (inner c) (array (excluded_keys κ p)) (emits_keys (inner c) (properties p)) (keys_done (inner (inner c)) κ p)

-- ---- the value of the rest of p, read from s

rest_empty : (c : Place) (s : Node)
    → emits c (X (object Items.none) (sequence (Items.item (E s) (only s))))
    ≡ say (call_head 2 2 ++ (puts (24 ∷ 1 ∷ 0 ∷ 0 ∷ 28 ∷ 1 ∷ 2 ∷ 0 ∷ []) ++ call_head 3 1)) ▷ emits (inner c) s ▷ emits (inner c) s
unfolding inner count any
rest_empty c s =
    let e = emits (inner c) s in
    emits_X c (object Items.none) (sequence (Items.item (E s) (only s)))
    ∙ ap₂ (λ (x y : Emit). say (call_head 2 2) ▷ x ▷ y)
    (emits_object (inner c) Items.none refl ∙ ap (λ (x : Emit). say (puts (24 ∷ 1 ∷ 0 ∷ 0 ∷ [])) ▷ x) (no_items false (inner c)) ∙ then_nothing (say (puts (24 ∷ 1 ∷ 0 ∷ 0 ∷ []))))
    (emits_sequence (inner c) (Items.item (E s) (only s))
    ∙ ap (λ (x : Emit). say (puts (28 ∷ 1 ∷ 2 ∷ 0 ∷ [])) ▷ x)
    (more_items (inner c) (E s) (only s) ∙ ap₂ (λ (x y : Emit). x ▷ y) (emits_E (inner c) s) (only_item (inner c) s) ∙ then_assoc (say (call_head 3 1)) e e)
    ∙ say_then (puts (28 ∷ 1 ∷ 2 ∷ 0 ∷ [])) (call_head 3 1) (e ▷ e))
    ∙ ap (λ (x : Emit). say (call_head 2 2) ▷ x) (say_then (puts (24 ∷ 1 ∷ 0 ∷ 0 ∷ [])) (puts (28 ∷ 1 ∷ 2 ∷ 0 ∷ []) ++ call_head 3 1) (e ▷ e))
    ∙ say_then (call_head 2 2) (puts (24 ∷ 1 ∷ 0 ∷ 0 ∷ 28 ∷ 1 ∷ 2 ∷ 0 ∷ []) ++ call_head 3 1) (e ▷ e)

pub rest_value_lem : (c : Place) (κ : Context) (p s : Node) → κ.root ≡ c.root
    → emits c (rest_value κ p s) ≡ emits_rest c (position p) (properties p) (emits (inner c) s)
unfolding rest_value emits_rest
rest_value_lem c κ p s r = go (is_empty (properties p))
  where
    go : (b : Bool) → emits c (cond b (X (object Items.none) (sequence (Items.item (E s) (only s)))) (W s (keys_read κ p)))
        ≡ cond b (say (call_head 2 2 ++ (puts (24 ∷ 1 ∷ 0 ∷ 0 ∷ 28 ∷ 1 ∷ 2 ∷ 0 ∷ []) ++ call_head 3 1)) ▷ emits (inner c) s ▷ emits (inner c) s)
        (say (call_head 4 2) ▷ emits (inner c) s ▷ emits_keys_read (inner c) (position p) (properties p))
    go true = rest_empty c s
    go false = emits_W c s (keys_read κ p) ∙ ap (λ (x : Emit). say (call_head 4 2) ▷ emits (inner c) s ▷ x) (keys_read_lem c κ p r)

-- ---- one way each

module _ (c : Place) (at : ℕ) (qs : Items) where
  pub rest_none : (s : Emit) → is_empty qs ≡ true
      → emits_rest c at qs s ≡ say (call_head 2 2 ++ (puts (24 ∷ 1 ∷ 0 ∷ 0 ∷ 28 ∷ 1 ∷ 2 ∷ 0 ∷ []) ++ call_head 3 1)) ▷ s ▷ s
  unfolding emits_rest
  rest_none s e = rw e refl

  pub rest_some : (s : Emit) → is_empty qs ≡ false → emits_rest c at qs s ≡ say (call_head 4 2) ▷ s ▷ emits_keys_read (inner c) at qs
  unfolding emits_rest
  rest_some s e = rw e refl

  pub read_hoisted : hoists c.root qs ≡ true → emits_keys_read c at qs ≡ says_cell 2 at
  unfolding emits_keys_read
  read_hoisted e = rw e refl

  pub read_inline : hoists c.root qs ≡ false → primitives qs ≡ true → emits_keys_read c at qs ≡ emits_keys c qs
  unfolding emits_keys_read
  read_inline e h = rw (e, h) refl

  pub read_mapped : hoists c.root qs ≡ false → primitives qs ≡ false
      → emits_keys_read c at qs ≡ say (puts (29 ∷ 3 ∷ 30 ∷ 3 ∷ [])) ▷ emits_keys c qs ▷ say (puts (3 ∷ 0 ∷ 109 ∷ 97 ∷ 112 ∷ 1 ∷ 0 ∷ []) ++ (does (Event.helper 5) ∷ []))
  unfolding emits_keys_read
  read_mapped e h = rw (e, h) refl

-- ---- the values of the properties play no part

any_each : (f : Node → Bool) (g : Node → Node) → ((q : Node) → f (g q) ≡ f q) → (qs : Items) → any f (each g qs) ≡ any f qs
unfolding any each
any_each f g h Items.none = refl
any_each f g h (Items.hole qs) = any_each f g h qs
any_each f g h (Items.item q qs) = ap₂ (λ (x y : Bool). x || y) (h q) (any_each f g h qs)

pub does_each : (f : Node → Emit) (g : Node → Node) → ((q : Node) → f (g q) ≡ f q) → (qs : Items) → in_turn f (each g qs) ≡ in_turn f qs
unfolding in_turn each
does_each f g h Items.none = refl
does_each f g h (Items.hole qs) = does_each f g h qs
does_each f g h (Items.item q qs) = ap₂ (λ (x y : Emit). x ▷ y) (h q) (does_each f g h qs)

module _ (g : Node → Node) where
  pub primitives_values : (qs : Items) → primitives (each (λ q. change_node 1 g q) qs) ≡ primitives qs
  unfolding primitives
  primitives_values qs = ap not (any_each (λ q. not (is_primitive (key q))) (λ q. change_node 1 g q) (λ q. ap (λ (k : Node). not (is_primitive k)) (key_kept (on_node g) q)) qs)

  pub hoists_values : (root : Bool) (qs : Items) → hoists root (each (λ q. change_node 1 g q) qs) ≡ hoists root qs
  unfolding hoists
  hoists_values root qs = ap₂ (λ (x y : Bool). not root && (not x && y)) (empty_each (λ q. change_node 1 g q) qs) (primitives_values qs)

  pub entries_values : (qs : Items) → entries (each (λ q. change_node 1 g q) qs) ≡ entries qs
  unfolding entries each
  entries_values Items.none = refl
  entries_values (Items.hole qs) = entries_values qs
  entries_values (Items.item q qs) =
      ap₂ (λ (b : Bool) (n : ℕ). cond b n (suc n)) (ap is_private (key_kept (on_node g) q)) (entries_values qs)

  pub excluded_value : (c : Place) (q : Node) → emits_excluded c (change_node 1 g q) ≡ emits_excluded c q
  unfolding emits_excluded
  excluded_value c q =
      ap₂ (λ (at : ℕ) (k : Node).
      elim (entry_of (key_sort k)) [ spelt ↦ say (puts (string_bytes_of (key_text k))) | itself ↦ emits c k | omitted ↦ say [] | saved ↦ says_cell 4 at ]) (position_changed 1 (on_node g) q) (key_kept (on_node g) q)

  pub keys_values : (c : Place) (qs : Items) → emits_keys c (each (λ q. change_node 1 g q) qs) ≡ emits_keys c qs
  unfolding emits_keys
  keys_values c qs =
      ap₂ (λ (n : ℕ) (e : Emit). say (puts (32 ∷ 1 ∷ wide_bytes n)) ▷ e) (entries_values qs)
      (does_each (emits_excluded c) (λ q. change_node 1 g q) (λ q. excluded_value c q) qs)

  read_values_lem : (c : Place) (at : ℕ) (qs : Items) → emits_keys_read c at (each (λ q. change_node 1 g q) qs) ≡ emits_keys_read c at qs
  unfolding emits_keys_read
  read_values_lem c at qs =
      ap₂ (λ (a b : Bool). cond a (says_cell 2 at) (cond b (emits_keys c (each (λ q. change_node 1 g q) qs))
      (say (puts (29 ∷ 3 ∷ 30 ∷ 3 ∷ [])) ▷ emits_keys c (each (λ q. change_node 1 g q) qs) ▷ say (puts (3 ∷ 0 ∷ 109 ∷ 97 ∷ 112 ∷ 1 ∷ 0 ∷ []) ++ (does (Event.helper 5) ∷ [])))))
      (hoists_values c.root qs) (primitives_values qs)
      ∙ ap (λ (e : Emit). cond (hoists c.root qs) (says_cell 2 at) (cond (primitives qs) e
      (say (puts (29 ∷ 3 ∷ 30 ∷ 3 ∷ [])) ▷ e ▷ say (puts (3 ∷ 0 ∷ 109 ∷ 97 ∷ 112 ∷ 1 ∷ 0 ∷ []) ++ (does (Event.helper 5) ∷ []))))) (keys_values c qs)

  pub rest_values : (c : Place) (at : ℕ) (qs : Items) (s : Emit) → emits_rest c at (each (λ q. change_node 1 g q) qs) s ≡ emits_rest c at qs s
  unfolding emits_rest
  rest_values c at qs s =
      ap₂ (λ (b : Bool) (e : Emit). cond b (say (call_head 2 2 ++ (puts (24 ∷ 1 ∷ 0 ∷ 0 ∷ 28 ∷ 1 ∷ 2 ∷ 0 ∷ []) ++ call_head 3 1)) ▷ s ▷ s) (say (call_head 4 2) ▷ s ▷ e))
      (empty_each (λ q. change_node 1 g q) qs) (read_values_lem (inner c) at qs)
