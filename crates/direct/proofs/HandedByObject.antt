-- What declarations and assignments hand out, object by object.
-- Assumes nothing.
use mathlib.Core.Path.{◌≡◌, refl, sym, ap, ap₂, ◌∙◌}
use mathlib.Core.Bool.{Bool, true, false, cond, not, ◌&&◌, ◌||◌, false≢true}
use mathlib.Core.List.{List, [], ◌∷◌, ◌++◌, append-nil, append_assoc}
use Prim.Native.Nat.{ℕ, suc, ◌+◌}
use native.Mathlib.Omega.{arith}
use lib.Dec.{eqb}
use lib.ListN.{length}
use Rattle.tree.specs.Tree.{Node, Items, wide_bytes, map_of, count, encode, encode_items}
use Rattle.lowering.specs.Parts.{position, is, node_at_of, number_at, items_at_of, stands, stands_in, piece_in, is_empty, only, each, gather, any, on_node, change_node, ◌+++◌}
use Rattle.lowering.specs.Made.{Context, array, string, declares, declared, id_of, reference, excluded_of, value_of, key_of}
use Rattle.lowering.specs.Patterns.{properties, key, objects_below}
use Rattle.lowering.specs.Keys.{key_sort, is_primitive, excluded_key, excluded_keys, key_temporary, key_temporaries, entry_of, key_text}
use Rattle.lowering.specs.Keys.Key.{name, literal, template, private}
use Rattle.lowering.specs.Rests.{is_hoisted, excluded_for, rest_makes}
use Rattle.lowering.specs.Declarations.{is_name_of, is_lowered, source_declarator, inner_objects, declarator_makes, lowered_in, declaration_makes, declaration_excludes}
use Rattle.lowering.specs.Assignments.{target, parts_of, outermost, top_entry, top_excludes, top_makes, nested_entry, nested_makes}
use Rattle.lowering.proofs.Cases.{by_test, by_key, and_right, or_left, or_right, not-true, not-false}
use Rattle.lowering.proofs.All.{AllItems}
use Rattle.sink.specs.Machine.{Event}
use Rattle.direct.specs.Events.{Deed, Emit, cell, cell_of, stem_of, lists, excludes, made, handed, entered, excluded_keys as excluded_deeds, refused, hands_out}
use Rattle.direct.specs.Events.Deed.{does}
use Rattle.direct.specs.Emit.{say, ◌▷◌, in_turn}
use Rattle.direct.specs.Views.{View, nameless, is_other}
use Rattle.direct.specs.Views.View.{replacing, taking}
use Rattle.direct.specs.Keys.{string_bytes_of, entries, primitives, hoists}
use Rattle.direct.specs.Objects.{objects_in, reached_in, replaced_in, over_objects, over_replaced, over_parts}
use Rattle.direct.specs.Objects.Reach.{straight}
use Rattle.direct.specs.Handed.{place_made, key_made, keys_made, key_bytes, excludes_of, hands_key, hands_keys, hands_place, other_keys, places_in, parts_count, declarator_made, declarator_excludes, hands_top, hands_nested, key_bytes_of}
use Rattle.direct.proofs.Threads.{then_assoc, then_nothing, say_say}
use Rattle.direct.proofs.Alike.{key_kept}
use Rattle.direct.proofs.AlikeRests.{excluded_none, excluded_append}
use Rattle.direct.proofs.ListsInTurn.{turn_same}
use Rattle.direct.proofs.RestValues.{key_spelt, key_itself, key_omitted, entries_in_lem, hoisted_are, hoists_values, entries_values, does_each}
use Rattle.direct.proofs.ObjectsByLevel.{Keyed, objects_same_path}
use Rattle.lowering.proofs.ItemLaws.{each_gather, count_append, count_each, empty_each}
use Rattle.lowering.proofs.ChangeLaws.{position_changed}
use Rattle.direct.proofs.AlikeRules.{handed_append}

-- ---- lists of deeds, list by list

-- a list of deeds for each list of nodes, holes aside
pub record Listed (F : Items → List Deed) : Type 0 where
  pub empty : F Items.none ≡ []
  pub skips : (is : Items) → F (Items.hole is) ≡ F is
  pub joins : (is js : Items) → F (is +++ js) ≡ F is ++ F js

module _ (F : Items → List Deed) (l : Listed F) where
  pub listed_gather : (g : Node → Items) (is : Items) → say (F (gather g is)) ≡ in_turn (λ n. say (F (g n))) is
  unfolding gather in_turn
  listed_gather g Items.none = ap say l.empty
  listed_gather g (Items.hole is) = listed_gather g is
  listed_gather g (Items.item n is) =
      ap say (l.joins (g n) (gather g is)) ∙ sym (say_say (F (g n)) (F (gather g is))) ∙ ap (λ (e : Emit). say (F (g n)) ▷ e) (listed_gather g is)

  pub listed_each : (g : Node → Node) (is : Items) → say (F (each g is)) ≡ in_turn (λ n. say (F (only (g n)))) is
  unfolding each in_turn ◌+++◌
  listed_each g Items.none = ap say l.empty
  listed_each g (Items.hole is) = ap say (l.skips (each g is)) ∙ listed_each g is
  listed_each g (Items.item n is) =
      ap say (l.joins (only (g n)) (each g is)) ∙ sym (say_say (F (only (g n))) (F (each g is))) ∙ ap (λ (e : Emit). say (F (only (g n))) ▷ e) (listed_each g is)

  pub listed_append : (is js : Items) → say (F (is +++ js)) ≡ say (F is) ▷ say (F js)
  listed_append is js = ap say (l.joins is js) ∙ sym (say_say (F is) (F js))

cond_append : (b : Bool) (d : Deed) (xs bs : List Deed) → cond b (xs ++ bs) (d ∷ xs ++ bs) ≡ cond b xs (d ∷ xs) ++ bs
cond_append true d xs bs = refl
cond_append false d xs bs = refl

made_joins : (is js : Items) → made (is +++ js) ≡ made is ++ made js
unfolding made ◌+++◌
made_joins Items.none js = refl
made_joins (Items.hole is) js = made_joins is js
made_joins (Items.item t is) js =
    ap (λ (x : List Deed). cond (eqb (number_at 0 t) 2) x (does (Event.make (cell_of t)) ∷ x)) (made_joins is js) ∙ cond_append (eqb (number_at 0 t) 2) (does (Event.make (cell_of t))) (made is) (made js)

pub made_listed : Listed made
unfolding made
made_listed = record { empty = refl; skips = λ is. refl; joins = made_joins }

pub handed_listed : Listed handed
unfolding handed
handed_listed = record { empty = refl; skips = λ is. refl; joins = handed_append }

pub excluded_listed : Listed excluded_deeds
unfolding excluded_deeds
excluded_listed = record { empty = refl; skips = λ is. refl; joins = excluded_append }

-- ---- keys

module _ (κ : Context) where
  pub key_temporary_is : (q : Node) → key_temporary κ q ≡ cond (is_other (key q)) (only (declares (key_of κ q) (key q))) Items.none
  unfolding key_temporary is_other
  key_temporary_is q =
      by_key (key_sort (key q)) (λ e. rw (e, key_temporary, is_other) refl) (λ e. rw (e, key_temporary, is_other) refl) (λ e. rw (e, key_temporary, is_other) refl)
      (λ e. rw (e, key_temporary, is_other) refl) (λ e. rw (e, key_temporary, is_other) refl) (λ e. rw (e, key_temporary, is_other) refl)

  key_made_lem : (q : Node) → say (made (each id_of (key_temporary κ q))) ≡ key_made q
  unfolding key_made made each node_at_of piece_in cell_of number_at
  key_made_lem q = ap (λ (is : Items). say (made (each id_of is))) (key_temporary_is q) ∙ go (is_other (key q))
    where
      go : (b : Bool) → say (made (each id_of (cond b (only (declares (key_of κ q) (key q))) Items.none))) ≡ cond b (say (does (Event.make (cell 4 (position q))) ∷ [])) (say [])
      go true = refl
      go false = refl

  keys_made_lem : (o : Node) → say (made (each id_of (key_temporaries κ o))) ≡ keys_made o
  unfolding keys_made key_temporaries
  keys_made_lem o =
      ap (λ (is : Items). say (made is)) (each_gather id_of (key_temporary κ) (properties o))
      ∙ listed_gather made made_listed (λ q. each id_of (key_temporary κ q)) (properties o)
      ∙ turn_same (λ q. say (made (each id_of (key_temporary κ q)))) key_made key_made_lem (properties o)

  -- the temporary of excluded keys is made where they are handed out
  excluded_unmade : (o : Node) → made (each id_of (excluded_for κ o)) ≡ []
  unfolding excluded_for made each node_at_of piece_in number_at
  excluded_unmade o = go (is_hoisted κ o)
    where
      go : (b : Bool) → made (each id_of (cond b (only (declares (excluded_of κ o) (array (excluded_keys κ o)))) Items.none)) ≡ []
      go true = refl
      go false = refl

  pub rest_made : (o : Node) → say (made (rest_makes κ o)) ≡ keys_made o
  unfolding rest_makes
  rest_made o =
      listed_append made made_listed (each id_of (key_temporaries κ o)) (each id_of (excluded_for κ o))
      ∙ ap₂ (λ (e f : Emit). e ▷ f) (keys_made_lem o) (ap say (excluded_unmade o))
      ∙ then_nothing (keys_made o)

  key_handed : (q : Node) → say (handed (key_temporary κ q)) ≡ hands_key q
  unfolding hands_key handed node_at_of piece_in cell_of number_at stands stands_in
  key_handed q = ap (λ (is : Items). say (handed is)) (key_temporary_is q) ∙ go (is_other (key q))
    where
      go : (b : Bool) → say (handed (cond b (only (declares (key_of κ q) (key q))) Items.none)) ≡ cond b (say (lists (5 ∷ 3 ∷ []) ++ (does (Event.listed_temporary (cell 4 (position q)) 4) ∷ lists (encode (key q))))) (say [])
      go true = ap say (append-nil (lists (5 ∷ 3 ∷ []) ++ (does (Event.listed_temporary (cell 4 (position q)) 4) ∷ lists (encode (key q)))))
      go false = refl

  pub keys_handed : (o : Node) → say (handed (key_temporaries κ o)) ≡ hands_keys o
  unfolding hands_keys key_temporaries
  keys_handed o =
      listed_gather handed handed_listed (key_temporary κ) (properties o) ∙ turn_same (λ q. say (handed (key_temporary κ q))) hands_key key_handed (properties o)

-- ---- excluded keys

excludes_append : (bs cs : List ℕ) → excludes (bs ++ cs) ≡ excludes bs ++ excludes cs
excludes_append [] cs = refl
excludes_append (b ∷ bs) cs = ap (λ (x : List Deed). does (Event.excluded b) ∷ x) (excludes_append bs cs)

encode_append : (is js : Items) → encode_items (is +++ js) ≡ encode_items is ++ encode_items js
unfolding encode ◌+++◌
encode_append Items.none js = refl
encode_append (Items.hole is) js = ap (λ (x : List ℕ). 0 ∷ x) (encode_append is js)
encode_append (Items.item n is) js = ap (λ (x : List ℕ). encode n ++ x) (encode_append is js) ∙ sym (append_assoc (encode n) (encode_items is) (encode_items js))

primitive_in : (qs : Items) → primitives qs ≡ true → AllItems (λ q. is_primitive (key q) ≡ true) qs
unfolding primitives any
primitive_in Items.none h = tt
primitive_in (Items.hole qs) h = primitive_in qs h
primitive_in (Items.item q qs) h =
    let z : not (is_primitive (key q)) || any (λ q. not (is_primitive (key q))) qs ≡ false = not-true (not (is_primitive (key q)) || any (λ q. not (is_primitive (key q))) qs) h in (
      not-false (is_primitive (key q)) (or_left (not (is_primitive (key q))) (any (λ q. not (is_primitive (key q))) qs) z),
      primitive_in qs (rw (or_right (not (is_primitive (key q))) (any (λ q. not (is_primitive (key q))) qs) z) refl),
    )

one_bytes : (n : Node) → encode_items (only n) ≡ encode n
unfolding encode
one_bytes n = append-nil (encode n)

no_bytes : encode_items Items.none ≡ []
unfolding encode
no_bytes = refl

string_bytes : (form : List ℕ) → encode (string form) ≡ string_bytes_of form
unfolding encode map_of
string_bytes form = ap (λ (x : List ℕ). 22 ∷ 7 ∷ 1 ∷ 0 ∷ 0 ∷ x) (append-nil (wide_bytes (length form) ++ form))

-- the bytes of a key by its sort
module _ (q : Node) where
  pub bytes_name : key_sort (key q) ≡ name → string_bytes_of (key_text (key q)) ≡ key_bytes q
  unfolding key_bytes key_bytes_of
  bytes_name e = rw (e, key_bytes, key_bytes_of) refl

  pub bytes_literal : key_sort (key q) ≡ literal → string_bytes_of (key_text (key q)) ≡ key_bytes q
  unfolding key_bytes key_bytes_of
  bytes_literal e = rw (e, key_bytes, key_bytes_of) refl

  pub bytes_template : key_sort (key q) ≡ template → encode (key q) ≡ key_bytes q
  unfolding key_bytes key_bytes_of
  bytes_template e = rw (e, key_bytes, key_bytes_of) refl

  pub bytes_private : key_sort (key q) ≡ private → [] ≡ key_bytes q
  unfolding key_bytes key_bytes_of
  bytes_private e = rw (e, key_bytes, key_bytes_of) refl

-- views by name
module _ (κ : Context) (p : Node) where
  in_taking : say (made (each (λ o. reference κ o) (inner_objects κ p))) ≡ say (made (each (λ o. reference κ o) (objects_in κ taking p)))
  unfolding objects_in
  in_taking = refl

  in_replacing : say (made (gather (rest_makes κ) (objects_below κ p))) ≡ say (made (gather (rest_makes κ) (objects_in κ replacing p)))
  unfolding objects_in
  in_replacing = refl

  in_excluded_lem : say (excluded_deeds (gather (excluded_for κ) (objects_below κ p))) ≡ say (excluded_deeds (gather (excluded_for κ) (objects_in κ replacing p)))
  unfolding objects_in
  in_excluded_lem = refl

module _ (κ : Context) where
  -- the bytes of one key
  key_bytes_lem : (q : Node) → is_primitive (key q) ≡ true → encode_items (excluded_key κ q) ≡ key_bytes q
  unfolding is_primitive
  key_bytes_lem q h =
      by_key (key_sort (key q))
      (λ e. ap encode_items (key_spelt κ q (ap entry_of e)) ∙ one_bytes (string (key_text (key q))) ∙ string_bytes (key_text (key q)) ∙ bytes_name q e)
      (λ e. ap encode_items (key_spelt κ q (ap entry_of e)) ∙ one_bytes (string (key_text (key q))) ∙ string_bytes (key_text (key q)) ∙ bytes_literal q e)
      (λ e. ap encode_items (key_itself κ q (ap entry_of e)) ∙ one_bytes (key q) ∙ bytes_template q e)
      (λ e. ap encode_items (key_omitted κ q (ap entry_of e)) ∙ no_bytes ∙ bytes_private q e)
      (λ e. let z : false ≡ true = rw (e, is_primitive) at h in absurd (false≢true z))
      (λ e. let z : false ≡ true = rw (e, is_primitive) at h in absurd (false≢true z))

  keys_bytes : (qs : Items) → AllItems (λ q. is_primitive (key q) ≡ true) qs → say (excludes (encode_items (gather (excluded_key κ) qs))) ≡ in_turn (λ q. say (excludes (key_bytes q))) qs
  unfolding gather in_turn encode
  keys_bytes Items.none a = refl
  keys_bytes (Items.hole qs) a = keys_bytes qs a
  keys_bytes (Items.item q qs) a =
      ap (λ (bs : List ℕ). say (excludes bs)) (encode_append (excluded_key κ q) (gather (excluded_key κ) qs))
      ∙ ap say (excludes_append (encode_items (excluded_key κ q)) (encode_items (gather (excluded_key κ) qs)))
      ∙ sym (say_say (excludes (encode_items (excluded_key κ q))) (excludes (encode_items (gather (excluded_key κ) qs))))
      ∙ ap₂ (λ (e f : Emit). e ▷ f) (ap (λ (bs : List ℕ). say (excludes bs)) (key_bytes_lem q a.0)) (keys_bytes qs a.1)

  array_bytes : (xs : Items) → encode (array xs) ≡ 32 ∷ 1 ∷ wide_bytes (count xs) ++ encode_items xs
  unfolding encode map_of
  array_bytes xs = ap (λ (x : List ℕ). 32 ∷ 1 ∷ x) (append-nil (wide_bytes (count xs) ++ encode_items xs))

  one_excluded : (t x : Node) → excluded_deeds (only (declares t x)) ≡ does Event.declarator ∷ does (Event.excluded_temporary (cell_of t) (stem_of t)) ∷ excludes (encode x)
  unfolding excluded_deeds node_at_of piece_in
  one_excluded t x = ap (λ (y : List Deed). does Event.declarator ∷ does (Event.excluded_temporary (cell_of t) (stem_of t)) ∷ y) (append-nil (excludes (encode x)))

  cell_2 : (o : Node) → cell_of (excluded_of κ o) ≡ cell 2 (position o)
  unfolding cell_of number_at piece_in
  cell_2 o = refl

  hoisted_excludes : (o : Node) → hoists κ.root (properties o) ≡ true
      → say (excluded_deeds (only (declares (excluded_of κ o) (array (excluded_keys κ o)))))
      ≡ say (does Event.declarator ∷ does (Event.excluded_temporary (cell 2 (position o)) 2) ∷ excludes (32 ∷ 1 ∷ wide_bytes (entries (properties o))))
      ▷ in_turn (λ q. say (excludes (key_bytes q))) (properties o)
  unfolding excluded_keys hoists number_at piece_in
  hoisted_excludes o h =
      let qs = properties o in
      let xs = gather (excluded_key κ) qs in
      let head : ℕ → List Deed = λ n. does Event.declarator ∷ does (Event.excluded_temporary (cell 2 (position o)) 2) ∷ excludes (32 ∷ 1 ∷ wide_bytes n) in
      let p : primitives qs ≡ true = and_right (not (is_empty qs)) (primitives qs) (and_right (not κ.root) (not (is_empty qs) && primitives qs) h) in
      ap say (one_excluded (excluded_of κ o) (array xs))
      ∙ ap₂ (λ (x : ℕ) (bs : List ℕ). say (does Event.declarator ∷ does (Event.excluded_temporary x 2) ∷ excludes bs)) (cell_2 o) (array_bytes xs)
      ∙ sym (say_say (head (count xs)) (excludes (encode_items xs)))
      ∙ ap₂ (λ (n : ℕ) (e : Emit). say (head n) ▷ e) (entries_in_lem κ qs) (keys_bytes qs (primitive_in qs p))

  pub excluded_handed : (o : Node) → say (excluded_deeds (excluded_for κ o)) ≡ excludes_of κ.root o
  unfolding excluded_for excludes_of
  excluded_handed o =
      ap (λ (b : Bool). say (excluded_deeds (cond b (only (declares (excluded_of κ o) (array (excluded_keys κ o)))) Items.none))) (hoisted_are κ o)
      ∙ by_test (hoists κ.root (properties o)) (λ h. rw h (hoisted_excludes o h)) (λ h. rw h (ap say excluded_none))

-- ---- how many keys of an object become temporaries

key_counted : (b : Bool) (n : Node) (is : Items) → count (cond b (only n) Items.none +++ is) ≡ cond b (suc (count is)) (count is)
unfolding count ◌+++◌
key_counted true n is = refl
key_counted false n is = refl

count_keys : (κ : Context) (qs : Items) → count (gather (key_temporary κ) qs) ≡ other_keys qs
unfolding gather count other_keys
count_keys κ Items.none = refl
count_keys κ (Items.hole qs) = count_keys κ qs
count_keys κ (Items.item q qs) =
    ap (λ (is : Items). count (is +++ gather (key_temporary κ) qs)) (key_temporary_is κ q)
    ∙ key_counted (is_other (key q)) (declares (key_of κ q) (key q)) (gather (key_temporary κ) qs)
    ∙ ap (λ (n : ℕ). cond (is_other (key q)) (suc n) n) (count_keys κ qs)

pub keys_counted : (κ : Context) (p : Node) → count (key_temporaries κ p) ≡ other_keys (properties p)
unfolding key_temporaries
keys_counted κ p = count_keys κ (properties p)

pub other_values : (g : Node → Node) (qs : Items) → other_keys (each (λ q. change_node 1 g q) qs) ≡ other_keys qs
unfolding other_keys each
other_values g Items.none = refl
other_values g (Items.hole qs) = other_values g qs
other_values g (Items.item q qs) =
    ap₂ (λ (b : Bool) (n : ℕ). cond b (suc n) n) (ap is_other (key_kept (on_node g) q)) (other_values g qs)

-- ---- what is done does not look at the values of an object

pub place_keyed : Keyed place_made
unfolding place_made
place_keyed g at ps r = refl

pub keys_keyed : Keyed keys_made
unfolding keys_made key_made items_at_of piece_in
keys_keyed g at ps r =
    does_each key_made (λ q. change_node 1 g q)
    (λ q. ap₂ (λ (x : ℕ) (k : Node). cond (is_other k) (say (does (Event.make (cell 4 x)) ∷ [])) (say [])) (position_changed 1 (on_node g) q) (key_kept (on_node g) q)) ps

bytes_kept : (g : Node → Node) (q : Node) → key_bytes (change_node 1 g q) ≡ key_bytes q
unfolding key_bytes
bytes_kept g q = ap key_bytes_of (key_kept (on_node g) q)

pub excludes_keyed : (root : Bool) → Keyed (excludes_of root)
unfolding excludes_of items_at_of piece_in
excludes_keyed root g at ps r =
    ap₂ (λ (b : Bool) (n : ℕ). cond b
    (say (does Event.declarator ∷ does (Event.excluded_temporary (cell 2 at) 2) ∷ excludes (32 ∷ 1 ∷ wide_bytes n)) ▷ in_turn (λ q. say (excludes (key_bytes q))) (each (λ q. change_node 1 g q) ps))
    (say []))
    (hoists_values g root ps) (entries_values g ps)
    ∙ ap (λ (e : Emit). cond (hoists root ps) (say (does Event.declarator ∷ does (Event.excluded_temporary (cell 2 at) 2) ∷ excludes (32 ∷ 1 ∷ wide_bytes (entries ps))) ▷ e) (say []))
    (does_each (λ q. say (excludes (key_bytes q))) (λ q. change_node 1 g q) (λ q. ap (λ (bs : List ℕ). say (excludes bs)) (bytes_kept g q)) ps)

-- ---- a declaration

module _ (κ : Context) (unnamed : κ.path ≡ []) where
  pub places_made : (v : View) (p : Node) → say (made (each (λ o. reference κ o) (objects_in κ v p))) ≡ over_objects place_made v p
  unfolding over_objects place_made made cell_of number_at piece_in
  places_made v p =
      ap (λ (is : Items). say (made (each (λ o. reference κ o) is))) (objects_same_path κ nameless unnamed v p)
      ∙ listed_each made made_listed (λ o. reference κ o) (objects_in nameless v p)

  rests_made : (v : View) (p : Node) → say (made (gather (rest_makes κ) (objects_in κ v p))) ≡ over_objects keys_made v p
  unfolding over_objects
  rests_made v p =
      ap (λ (is : Items). say (made (gather (rest_makes κ) is))) (objects_same_path κ nameless unnamed v p)
      ∙ listed_gather made made_listed (rest_makes κ) (objects_in nameless v p)
      ∙ turn_same (λ o. say (made (rest_makes κ o))) keys_made (λ o. rest_made κ o) (objects_in nameless v p)

  pub objects_excluded : (v : View) (p : Node) → say (excluded_deeds (gather (excluded_for κ) (objects_in κ v p))) ≡ over_objects (excludes_of κ.root) v p
  unfolding over_objects
  objects_excluded v p =
      ap (λ (is : Items). say (excluded_deeds (gather (excluded_for κ) is))) (objects_same_path κ nameless unnamed v p)
      ∙ listed_gather excluded_deeds excluded_listed (excluded_for κ) (objects_in nameless v p)
      ∙ turn_same (λ o. say (excluded_deeds (excluded_for κ o))) (excludes_of κ.root) (λ o. excluded_handed κ o) (objects_in nameless v p)

  source_made : (p init : Node) → say (made (each id_of (source_declarator κ p init))) ≡ cond (is_name_of init) (say []) (say (does (Event.make (cell 3 (position p))) ∷ []))
  unfolding source_declarator made each cell_of number_at node_at_of piece_in
  source_made p init = go (is_name_of init)
    where
      go : (b : Bool) → say (made (each id_of (cond b Items.none (only (declares (value_of κ p) init))))) ≡ cond b (say []) (say (does (Event.make (cell 3 (position p))) ∷ []))
      go true = refl
      go false = refl

  makes_done : (p init : Node)
      → say (made (declarator_makes κ p init))
      ≡ cond (is_name_of init) (say []) (say (does (Event.make (cell 3 (position p))) ∷ [])) ▷ over_objects place_made taking p ▷ over_objects keys_made replacing p
  unfolding declarator_makes
  makes_done p init =
      let a = each id_of (source_declarator κ p init) in
      let b = each (λ o. reference κ o) (inner_objects κ p) in
      let c = gather (rest_makes κ) (objects_below κ p) in
      listed_append made made_listed a (b +++ c)
      ∙ ap₂ (λ (e f : Emit). e ▷ f) (source_made p init)
      (listed_append made made_listed b c ∙ ap₂ (λ (e f : Emit). e ▷ f) (taken_places p) (replaced_rests p))
    where
      taken_places : (p : Node) → say (made (each (λ o. reference κ o) (inner_objects κ p))) ≡ over_objects place_made taking p
      taken_places p = in_taking κ p ∙ places_made taking p

      replaced_rests : (p : Node) → say (made (gather (rest_makes κ) (objects_below κ p))) ≡ over_objects keys_made replacing p
      replaced_rests p = in_replacing κ p ∙ rests_made replacing p

  made_in : (d : Node) → say (made (cond (is_lowered d) (declarator_makes κ (node_at_of 0 d) (node_at_of 1 d)) Items.none)) ≡ declarator_made d
  unfolding declarator_made made
  made_in d = by_test (is_lowered d) (λ e. rw e (makes_done (node_at_of 0 d) (node_at_of 1 d))) (λ e. rw e refl)

  excluded_in_lem : (d : Node) → say (excluded_deeds (gather (excluded_for κ) (lowered_in κ d))) ≡ declarator_excludes κ.root d
  unfolding declarator_excludes lowered_in excluded_deeds gather
  excluded_in_lem d = by_test (is_lowered d) (λ e. rw e (in_excluded_lem κ (node_at_of 0 d) ∙ objects_excluded replacing (node_at_of 0 d))) (λ e. rw e refl)

  pub declaration_handed : (m : ℕ) (n : Node)
      → say (hands_out m (record { refusal = 0; made = declaration_makes κ n; entry = Items.none; excluded = declaration_excludes κ n }))
      ≡ in_turn declarator_made (items_at_of 2 n) ▷ in_turn (declarator_excludes κ.root) (items_at_of 2 n)
  unfolding hands_out refused entered is_empty declaration_makes declaration_excludes
  declaration_handed m n =
      let f : Node → Items = λ d. cond (is_lowered d) (declarator_makes κ (node_at_of 0 d) (node_at_of 1 d)) Items.none in
      let g : Node → Items = λ d. gather (excluded_for κ) (lowered_in κ d) in
      ap (λ (x : List Deed). say (x ++ excluded_deeds (gather g (items_at_of 2 n)))) (append-nil (made (gather f (items_at_of 2 n))))
      ∙ sym (say_say (made (gather f (items_at_of 2 n))) (excluded_deeds (gather g (items_at_of 2 n))))
      ∙ ap₂ (λ (x y : Emit). x ▷ y)
      (listed_gather made made_listed f (items_at_of 2 n) ∙ turn_same (λ d. say (made (f d))) declarator_made made_in (items_at_of 2 n))
      (listed_gather excluded_deeds excluded_listed g (items_at_of 2 n) ∙ turn_same (λ d. say (excluded_deeds (g d))) (declarator_excludes κ.root) excluded_in_lem (items_at_of 2 n))

  -- ---- an assignment to an object with rest

  entry_first : (m : ℕ) (t : Node) (ds : Items)
      → entered m (Items.item (declared t) ds) ≡ does (Event.entry m (suc (count ds))) ∷ lists (5 ∷ 1 ∷ []) ++ (does (Event.listed_temporary (cell_of t) (stem_of t)) ∷ []) ++ handed ds
  unfolding entered handed is_empty count stands stands_in node_at_of piece_in
  entry_first m t ds = refl

  cell_3 : (p : Node) → cell_of (value_of κ p) ≡ cell 3 (position p)
  unfolding cell_of number_at piece_in
  cell_3 p = refl

  place_handed : (o : Node) → say (handed (only (declared (reference κ o)))) ≡ hands_place o
  unfolding handed hands_place stands stands_in node_at_of piece_in cell_of number_at
  place_handed o = refl

  places_handed : (os : Items) → say (handed (each (λ o. declared (reference κ o)) os)) ≡ in_turn hands_place os
  places_handed os =
      let f : Node → Node = λ o. declared (reference κ o) in
      listed_each handed handed_listed f os ∙ turn_same (λ o. say (handed (only (f o)))) hands_place place_handed os

  pub top_handed : (m : ℕ) (n : Node) → parts_of (target n) ≡ reached_in straight (target n)
      → say (hands_out m (record { refusal = 0; made = top_makes κ n; entry = top_entry κ n; excluded = top_excludes κ n })) ≡ hands_top κ.root m (target n)
  unfolding hands_out refused is_empty top_entry top_excludes hands_top over_parts parts_count number_at piece_in
  top_handed m n e =
      let p = target n in
      let f : Node → Node = λ o. declared (reference κ o) in
      let os = reached_in straight p in
      let ks = key_temporaries κ p in
      let es = excluded_deeds (excluded_for κ p) in
      let N = count os + other_keys (properties p) in
      let head : ℕ → ℕ → List Deed = λ k t. does (Event.entry m (suc k)) ∷ lists (5 ∷ 1 ∷ []) ++ (does (Event.listed_temporary t 3) ∷ []) in
      let H = say (head N (cell 3 (position p))) in
      let X = excludes_of κ.root p in
      ap (λ (x : List Deed). say (x ++ es)) (entry_first m (value_of κ p) (each f (parts_of p) +++ ks))
      ∙ ap (λ (is : Items). say ((head (count (each f is +++ ks)) (cell_of (value_of κ p)) ++ handed (each f is +++ ks)) ++ es)) e
      ∙ ap₂ (λ (k t : ℕ). say ((head k t ++ handed (each f os +++ ks)) ++ es)) (counted os) (cell_3 p)
      ∙ sym (say_say (head N (cell 3 (position p)) ++ handed (each f os +++ ks)) es)
      ∙ ap₂ (λ (x y : Emit). x ▷ y)
      (sym (say_say (head N (cell 3 (position p))) (handed (each f os +++ ks)))
      ∙ ap (λ (x : Emit). H ▷ x) (listed_append handed handed_listed (each f os) ks ∙ ap₂ (λ (x y : Emit). x ▷ y) (places_handed os) (keys_handed κ p)))
      (excluded_handed κ p)
      ∙ then_assoc H (in_turn hands_place os ▷ hands_keys p) X
      ∙ ap (λ (x : Emit). H ▷ x) (then_assoc (in_turn hands_place os) (hands_keys p) X)
    where
      counted : (os : Items) → count (each (λ o. declared (reference κ o)) os +++ key_temporaries κ (target n)) ≡ count os + other_keys (properties (target n))
      counted os =
          let a = count_append (each (λ o. declared (reference κ o)) os) (key_temporaries κ (target n)) in
          let b = count_each (λ o. declared (reference κ o)) os in
          let c = keys_counted κ (target n) in
          omega arith

  -- ---- an assignment to any other target

  pub nested_handed : (m : ℕ) (n : Node) (v : View) (p : Node) → outermost (target n) ≡ replaced_in v p → is_empty (replaced_in v p) ≡ false
      → say (hands_out m (record { refusal = 0; made = nested_makes κ n; entry = nested_entry κ n; excluded = Items.none })) ≡ hands_nested v m p
  unfolding hands_out refused entered excluded_deeds nested_entry nested_makes hands_nested over_replaced places_in
  nested_handed m n v p e h =
      let f : Node → Node = λ o. declared (reference κ o) in
      let os = replaced_in v p in
      ap (λ (is : Items). say (((([] ++ cond (is_empty (each f is)) (made (each id_of (each f is))) []) ++ cond (is_empty (each f is)) [] (does (Event.entry m (count (each f is))) ∷ handed (each f is))) ++ []))) e
      ∙ ap (λ (b : Bool). say (((([] ++ cond b (made (each id_of (each f os))) []) ++ cond b [] (does (Event.entry m (count (each f os))) ∷ handed (each f os))) ++ []))) (empty_each f os ∙ h)
      ∙ ap say (append-nil (does (Event.entry m (count (each f os))) ∷ handed (each f os)))
      ∙ ap (λ (k : ℕ). say (does (Event.entry m k) ∷ handed (each f os))) (count_each f os)
      ∙ sym (say_say (does (Event.entry m (count os)) ∷ []) (handed (each f os)))
      ∙ ap (λ (x : Emit). say (does (Event.entry m (count os)) ∷ []) ▷ x) (places_handed os)
