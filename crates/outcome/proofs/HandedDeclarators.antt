-- What is handed out by the rewriting of a good node: declarators of temporaries, whose values have no Temporary in them. So the list is the
-- bytes of these declarators, a name for each temporary.
-- Assumes nothing.
use mathlib.Core.Path.{◌≡◌, refl, sym, ap, ap₂, ◌∙◌, subst}
use mathlib.Core.Bool.{Bool, true, false, cond, not, false≢true}
use mathlib.Core.List.{List, [], ◌∷◌, ◌++◌, append-nil}
use mathlib.Core.Logic.{◌⊎◌, ⊎_elim}
use mathlib.Core.Logic.◌⊎◌.{inl, inr}
use Prim.Native.Nat.{ℕ, zero, suc}
use native.Mathlib.Omega.{arith}
use borrow.Author.Tests.{not-true}
use Rattle.tree.specs.Tree.{Node, Fields, Piece, Items, wide_bytes, map_of, count, encode, encode_fields, encode_piece, encode_items, depth}
use Rattle.tree.specs.Tree.Node.{node}
use Rattle.lowering.specs.Parts.{position, kind, is, node_at_of, items_at_of, number_at, piece_in, stands, stands_in, only, each, gather, any, ◌+++◌}
use Rattle.lowering.specs.Made.{Context, temporary, reference, declares, declared, array, string, id_of}
use Rattle.lowering.specs.Patterns.{shape, properties, items_of, left_of, value, has_rest_of, key, has_object_rest, has_array_rest_over_object_rest}
use Rattle.lowering.specs.Keys.{Key, key_sort, is_primitive, all_primitive, excluded_key, excluded_keys, key_temporary, key_temporaries, key_text}
use Rattle.lowering.specs.Rests.{is_hoisted, excluded_for}
use Rattle.lowering.specs.Declarations.{is_lowered, lowered_in, declaration_excludes, declaration_refusal}
use Rattle.lowering.specs.Assignments.{is_top, target, nearest, parts_of, outermost, top_refusal, top_entry, top_excludes, nested_entry}
use Rattle.lowering.specs.Walk.{Note, rule_of, rewrite, unchanged, step_declaration, step_top, step_assignment, step_for}
use Rattle.lowering.specs.Collect.{Name, name_of}
use Rattle.lowering.proofs.All.{AllItems, both_items, all_gather, all_unit, none_passes}
use Rattle.lowering.proofs.Cases.{by_test, by_shape, by_key, by_rule_lem, not-false, by_number}
use Rattle.sink.specs.Shown.{Named, Token, list_of, keys_of, list_tokens, keys_tokens, declarator_in, declarators_in}
use Rattle.sink.specs.Shown.Token.{plain, temp}
use Rattle.direct.specs.Events.{cell_of, stem_of}
use Rattle.outcome.specs.Named
use Rattle.outcome.specs.Named.{Act, lists, excludes, handed, plains, tokens, tokens_fields, tokens_piece, tokens_items}
use Rattle.outcome.proofs.Listed.{list_append, keys_append, declarators_append}
use Rattle.outcome.proofs.GoodNodes.{Pure, PureFields, PurePiece, PureItems, KeyOk, Good, GoodObject, to_all, node_good, items_good, key_ok, objects_good}
use Rattle.outcome.proofs.PotentialViews.{Property, properties_are}
use Rattle.lowering.proofs.Clauses.{again_temporary, hoisted_primitive, top_34}

-- ---- what is handed out

pub record Valued (d : Node) : Type 0 where
  pub path : List ℕ
  pub stem : ℕ
  pub place : ℕ
  pub value : Node
  pub whole : d ≡ declares (temporary path stem place) value
  pub pure : Pure value

pub record Unvalued (d : Node) : Type 0 where
  pub path : List ℕ
  pub stem : ℕ
  pub place : ℕ
  pub whole : d ≡ declared (temporary path stem place)

abbrev pub Declares : Node → Type 0
Declares d = Valued d ⊎ Unvalued d

-- items of which each is such, and no hole
abbrev pub Full : (Node → Type 0) → Items → Type 0
Full P Items.none = Unit {0}
Full P (Items.hole is) = ⊥
Full P (Items.item n is) = P n × Full P is

module _ (P : Node → Type 0) where
  pub full_append : (is js : Items) → Full P is → Full P js → Full P (is +++ js)
  unfolding ◌+++◌
  full_append Items.none js h k = k
  full_append (Items.hole is) js h k = absurd h
  full_append (Items.item n is) js h k = (h.0, full_append is js h.1 k)

  pub full_gather : (Q : Node → Type 0) (f : Node → Items) → ((n : Node) → Q n → Full P (f n)) → (is : Items) → AllItems Q is → Full P (gather f is)
  unfolding gather
  full_gather Q f g Items.none h = tt
  full_gather Q f g (Items.hole is) h = full_gather Q f g is h
  full_gather Q f g (Items.item n is) h = full_append (f n) (gather f is) (g n h.0) (full_gather Q f g is h.1)

pub full_each : (P Q : Node → Type 0) (f : Node → Node) → ((n : Node) → Q n → P (f n)) → (is : Items) → Full Q is → Full P (each f is)
unfolding each
full_each P Q f g Items.none h = tt
full_each P Q f g (Items.hole is) h = absurd h
full_each P Q f g (Items.item n is) h = (g n h.0, full_each P Q f g is h.1)

pub full_weaker : (P Q : Node → Type 0) → ((n : Node) → P n → Q n) → (is : Items) → Full P is → Full Q is
full_weaker P Q f Items.none h = tt
full_weaker P Q f (Items.hole is) h = absurd h
full_weaker P Q f (Items.item n is) h = (f n h.0, full_weaker P Q f is h.1)

-- what a note hands out
pub record Hands (note : Note) : Type 0 where
  pub entry : Full Declares note.entry
  pub excluded : Full Valued note.excluded

-- ---- pure keys

other_not : (k : Node) → key_sort k ≡ Key.other → is 20 k ≡ false
other_not k e =
    by_test (is 20 k)
    (λ t. let y : Key.again ≡ Key.other = sym (again_temporary k t) ∙ e in let z : ◌≡◌ {A = ℕ} 0 1 = cc in absurd (omega arith))
    (λ t. t)

template_not : (k : Node) → key_sort k ≡ Key.template → is 20 k ≡ false
template_not k e =
    by_test (is 20 k)
    (λ t. let y : Key.again ≡ Key.template = sym (again_temporary k t) ∙ e in let z : ◌≡◌ {A = ℕ} 0 1 = cc in absurd (omega arith))
    (λ t. t)

pure_key : (k : Node) → is 20 k ≡ false → KeyOk k → Pure k
pure_key k e h = ⊎_elim (λ t. absurd (false≢true (sym e ∙ t))) (λ t. t.0) h

string_pure : (bs : List ℕ) → Pure (string bs)
string_pure bs = (refl, (tt, (tt, (tt, tt))))

pure_from : (is : Items) → AllItems Pure is → PureItems is
pure_from Items.none h = tt
pure_from (Items.hole is) h = pure_from is h
pure_from (Items.item n is) h = (h.0, pure_from is h.1)

array_pure : (is : Items) → PureItems is → Pure (array is)
array_pure is h = (refl, (h, tt))

not_primitive : (k : Node) → key_sort k ≡ Key.again → is_primitive k ≡ false
unfolding is_primitive
not_primitive k e = rw (e, is_primitive) refl

other_primitive : (k : Node) → key_sort k ≡ Key.other → is_primitive k ≡ false
unfolding is_primitive
other_primitive k e = rw (e, is_primitive) refl

module _ (c : Context) where
  -- ---- excluded keys

  excluded_key_pure : (q : Node) → Property q → not (is_primitive (key q)) ≡ false → AllItems Pure (excluded_key c q)
  unfolding excluded_key
  excluded_key_pure q h p =
      let k = key_ok q h.0 h.1 in
      let t = not-false (is_primitive (key q)) p in
      by_key (key_sort (key q))
      (λ e. rw (e, excluded_key, AllItems) (string_pure (key_text (key q)), tt))
      (λ e. rw (e, excluded_key, AllItems) (string_pure (key_text (key q)), tt))
      (λ e. rw (e, excluded_key, AllItems) (pure_key (key q) (template_not (key q) e) k, tt))
      (λ e. rw (e, excluded_key, AllItems) tt)
      (λ e. absurd (false≢true (sym (not_primitive (key q) e) ∙ t)))
      (λ e. absurd (false≢true (sym (other_primitive (key q) e) ∙ t)))

  excluded_keys_pure : (p : Node) → is 34 p ≡ true → Good p → all_primitive p ≡ true → PureItems (excluded_keys c p)
  unfolding excluded_keys all_primitive
  excluded_keys_pure p e h a =
      pure_from (gather (excluded_key c) (properties p))
      (all_gather (λ q. Property q × (not (is_primitive (key q)) ≡ false)) Pure (excluded_key c) (λ q g. excluded_key_pure q g.0 g.1) (properties p)
      (both_items Property (λ q. not (is_primitive (key q)) ≡ false) (λ q. Property q × (not (is_primitive (key q)) ≡ false)) (λ q u v. (u, v)) (properties p)
      (properties_are p e h) (none_passes (λ q. not (is_primitive (key q))) (properties p) (not-true (any (λ q. not (is_primitive (key q))) (properties p)) a))))

  excluded_for_full : (p : Node) → GoodObject c p → Full Valued (excluded_for c p)
  unfolding excluded_for
  excluded_for_full p h =
      by_test (is_hoisted c p)
      (λ e. rw (e, Full) (
        record {
          path = c.path;
          stem = 2;
          place = position p;
          value = array (excluded_keys c p);
          whole = refl;
          pure = array_pure (excluded_keys c p) (excluded_keys_pure p h.0 h.1 (hoisted_primitive c p e));
        },
        tt,
      ))
      (λ e. rw (e, Full) tt)

  -- ---- keys with their values

  key_temporary_full : (q : Node) → Property q → Full Declares (key_temporary c q)
  unfolding key_temporary
  key_temporary_full q h =
      by_key (key_sort (key q))
      (λ e. rw (e, key_temporary, Full) tt)
      (λ e. rw (e, key_temporary, Full) tt)
      (λ e. rw (e, key_temporary, Full) tt)
      (λ e. rw (e, key_temporary, Full) tt)
      (λ e. rw (e, key_temporary, Full) tt)
      (λ e. rw (e, key_temporary, Full)
      (inl (record { path = c.path; stem = 4; place = position q; value = key q; whole = refl; pure = pure_key (key q) (other_not (key q) e) (key_ok q h.0 h.1) }), tt))

  key_temporaries_full : (p : Node) → GoodObject c p → Full Declares (key_temporaries c p)
  unfolding key_temporaries
  key_temporaries_full p h = full_gather Declares Property (key_temporary c) key_temporary_full (properties p) (properties_are p h.0 h.1)

  -- ---- the rules

  refs_full : (ps : Items) → Full (λ p. Unit {0}) ps → Full Declares (each (λ p. declared (reference c p)) ps)
  refs_full ps h =
      full_each Declares (λ p. Unit {0}) (λ p. declared (reference c p)) (λ p u. inr (record { path = c.path; stem = 1; place = position p; whole = refl })) ps h

  -- what is found has no holes
  abbrev Any : Node → Type 0
  Any p = Unit {0}

  some_full : (b : Bool) (is js : Items) → Full Any is → Full Any js → Full Any (cond b is js)
  some_full true is js h k = h
  some_full false is js h k = k

  nearest_full : (arrays : Bool) (d : ℕ) (p : Node) → Full Any (nearest arrays d p)
  unfolding nearest
  nearest_full arrays zero p = tt
  nearest_full arrays (suc d) p =
      by_shape (shape p)
      (λ e. rw (e, nearest)
      (some_full (has_rest_of p) (only p) (gather (λ q. nearest arrays d (value q)) (properties p)) (tt, tt)
      (full_gather Any Any (λ q. nearest arrays d (value q)) (λ q u. nearest_full arrays d (value q)) (properties p) (all_unit (properties p)))))
      (λ e. rw (e, nearest)
      (some_full arrays (gather (λ q. nearest arrays d q) (items_of p)) Items.none
      (full_gather Any Any (λ q. nearest arrays d q) (λ q u. nearest_full arrays d q) (items_of p) (all_unit (items_of p))) tt))
      (λ e. rw (e, nearest) (nearest_full arrays d (left_of p)))
      (λ e. rw (e, nearest) tt)

  parts_full : (p : Node) → Full Any (parts_of p)
  parts_full p = full_gather Any Any (λ q. nearest false (depth p) (value q)) (λ q u. nearest_full false (depth p) (value q)) (properties p) (all_unit (properties p))

  top_hands : (n : Node) → is_top (target n) ≡ true → Good n → Full Declares (top_entry c n) × Full Valued (top_excludes c n)
  unfolding top_entry top_excludes
  top_hands n e h =
      let p = target n in
      let g : GoodObject c p = (top_34 p e, node_good 1 n h) in (
        (
          inr (record { path = c.path; stem = 3; place = position p; whole = refl }),
          full_append Declares (each (λ q. declared (reference c q)) (parts_of p)) (key_temporaries c p) (refs_full (parts_of p) (parts_full p)) (key_temporaries_full p g),
        ),
        excluded_for_full p g,
      )

  lowered_good : (d : Node) → Good d → AllItems (GoodObject c) (lowered_in c d)
  unfolding lowered_in
  lowered_good d h = by_test (is_lowered d) (λ e. rw (e, AllItems) (objects_good c (depth (node_at_of 0 d)) (node_at_of 0 d) (node_good 0 d h))) (λ e. rw (e, AllItems) tt)

  declaration_hands : (n : Node) → Good n → Full Valued (declaration_excludes c n)
  unfolding declaration_excludes
  declaration_hands n h =
      full_gather Valued Good (λ d. gather (excluded_for c) (lowered_in c d)) (λ d g. full_gather Valued (GoodObject c) (excluded_for c) excluded_for_full (lowered_in c d) (lowered_good d g))
      (items_at_of 2 n) (to_all (items_at_of 2 n) (items_good 2 n h))

  nested_hands : (n : Node) → Full Declares (nested_entry c n)
  unfolding nested_entry
  nested_hands n = refs_full (outermost (target n)) (nearest_full true (depth (target n)) (target n))

  quiet_hands : (r : ℕ) (made : Items) → Hands (record { refusal = r; made = made; entry = Items.none; excluded = Items.none })
  quiet_hands r made = record { entry = tt; excluded = tt }

  declarations_hand : (n : Node) → Good n → Hands (step_declaration c n).note
  unfolding step_declaration
  declarations_hand n h =
      by_number (declaration_refusal c n)
      (λ r e. rw (e, step_declaration) (quiet_hands (suc r) Items.none))
      (λ e. rw (e, step_declaration) (record { entry = tt; excluded = declaration_hands n h }))

  tops_hand : (n : Node) → is_top (target n) ≡ true → Good n → Hands (step_top c n).note
  unfolding step_top
  tops_hand n t h =
      by_number (top_refusal n)
      (λ r e. rw (e, step_top) (quiet_hands (suc r) Items.none))
      (λ e. rw (e, step_top) (let k = top_hands n t h in record { entry = k.0; excluded = k.1 }))

  assignments_hand : (n : Node) → Good n → Hands (step_assignment c n).note
  unfolding step_assignment
  assignments_hand n h =
      by_test (has_array_rest_over_object_rest (target n))
      (λ a. rw (a, step_assignment) (quiet_hands 5 Items.none))
      (λ a. rw (a, step_assignment)
      (by_test (is_top (target n))
      (λ t. rw t (tops_hand n t h))
      (λ t. rw t
      (by_test (has_object_rest (target n))
      (λ r. rw r (record { entry = nested_hands n; excluded = tt }))
      (λ r. rw r (quiet_hands 0 Items.none))))))

  fors_hand : (n : Node) → Hands (step_for c n).note
  unfolding step_for
  fors_hand n =
      by_test (is 4 (node_at_of 1 n))
      (λ d. rw (d, step_for) (record { entry = tt; excluded = tt }))
      (λ d. rw (d, step_for) (by_test (has_array_rest_over_object_rest (node_at_of 1 n)) (λ a. rw a (quiet_hands 5 Items.none)) (λ a. rw a (record { entry = tt; excluded = tt }))))

  pub rewrite_hands : (n : Node) → Good n → Hands (rewrite c n).note
  unfolding rewrite
  rewrite_hands n h =
      by_rule_lem (rule_of (kind n))
      (λ e. rw (e, rewrite) (quiet_hands 0 Items.none))
      (λ e. rw (e, rewrite) (declarations_hand n h))
      (λ e. rw (e, rewrite) (assignments_hand n h))
      (λ e. rw (e, rewrite) (record { entry = tt; excluded = tt }))
      (λ e. rw (e, rewrite) (record { entry = tt; excluded = tt }))
      (λ e. rw (e, rewrite) (record { entry = tt; excluded = tt }))
      (λ e. rw (e, rewrite) (fors_hand n))
      (λ e. rw (e, rewrite) (quiet_hands 0 Items.none))

pub unchanged_hands : (n : Node) → Hands (unchanged n).note
unchanged_hands n = record { entry = tt; excluded = tt }

-- ---- bytes of a node without Temporaries

plains_append : (bs cs : List ℕ) → plains (bs ++ cs) ≡ plains bs ++ plains cs
unfolding plains
plains_append [] cs = refl
plains_append (b ∷ bs) cs = ap (λ (x : List (Token Name)). plain b ∷ x) (plains_append bs cs)

mutual
  unfolding tokens encode plains

  pub pure_tokens : (n : Node) → Pure n → tokens n ≡ plains (encode n)
  pure_tokens (node at k fs) h = rw h.0 (ap (λ (x : List (Token Name)). plain k ∷ plain (map_of fs) ∷ x) (pure_fields fs h.1))

  pure_fields : (fs : Fields) → PureFields fs → tokens_fields fs ≡ plains (encode_fields fs)
  pure_fields Fields.done h = refl
  pure_fields (Fields.absent fs) h = pure_fields fs h
  pure_fields (Fields.field p fs) h =
      ap₂ (λ (x : List (Token Name)) (y : List (Token Name)). x ++ y) (pure_piece p h.0) (pure_fields fs h.1) ∙ sym (plains_append (encode_piece p) (encode_fields fs))

  pure_piece : (p : Piece) → PurePiece p → tokens_piece p ≡ plains (encode_piece p)
  pure_piece (Piece.one n) h = pure_tokens n h
  pure_piece (Piece.list is) h =
      ap (λ (x : List (Token Name)). plains (wide_bytes (count is)) ++ x) (pure_items is h) ∙ sym (plains_append (wide_bytes (count is)) (encode_items is))
  pure_piece (Piece.text bs) h = refl
  pure_piece (Piece.byte b) h = refl
  pure_piece (Piece.mark b) h = refl
  pure_piece (Piece.number b) h = refl

  pure_items : (is : Items) → PureItems is → tokens_items is ≡ plains (encode_items is)
  pure_items Items.none h = refl
  pure_items (Items.hole is) h = ap (λ (x : List (Token Name)). plain 0 ∷ x) (pure_items is h)
  pure_items (Items.item n is) h =
      ap₂ (λ (x : List (Token Name)) (y : List (Token Name)). x ++ y) (pure_tokens n h.0) (pure_items is h.1) ∙ sym (plains_append (encode n) (encode_items is))

-- ---- the list of such declarators

lists_tokens : (bs : List ℕ) → list_tokens (lists bs) ≡ plains bs
unfolding lists list_tokens list_of plains
lists_tokens [] = refl
lists_tokens (b ∷ bs) = ap (λ (x : List (Token Name)). plain b ∷ x) (lists_tokens bs)

excludes_tokens : (bs : List ℕ) → keys_tokens (excludes bs) ≡ plains bs
unfolding excludes keys_tokens keys_of plains
excludes_tokens [] = refl
excludes_tokens (b ∷ bs) = ap (λ (x : List (Token Name)). plain b ∷ x) (excludes_tokens bs)

excludes_none : (bs : List ℕ) → declarators_in (excludes bs) ≡ 0
unfolding excludes declarators_in declarator_in
excludes_none [] = refl
excludes_none (b ∷ bs) = let h = excludes_none bs in omega arith

-- what is handed out for one declarator
one_handed : Node → List Act
one_handed d =
    lists (5 ∷ cond (stands 1 d) 3 1 ∷ []) ++ (Named.listed_temporary (cell_of (id_of d)) (stem_of (id_of d)) (name_of (id_of d)) ∷ cond (stands 1 d) (lists (encode (node_at_of 1 d))) [])

valued_listed : (path : List ℕ) (stem at : ℕ) (v : Node) → Pure v → list_tokens (one_handed (declares (temporary path stem at) v)) ≡ tokens (declares (temporary path stem at) v)
unfolding one_handed lists list_tokens list_of tokens stands stands_in node_at_of piece_in number_at map_of
valued_listed path stem at v h =
    ap (λ (x : List (Token Name)). plain 5 ∷ plain 3 ∷ temp (name_of (temporary path stem at)) stem ∷ x) (lists_tokens (encode v) ∙ sym (pure_tokens v h) ∙ sym (append-nil (tokens v)))

unvalued_listed : (path : List ℕ) (stem at : ℕ) → list_tokens (one_handed (declared (temporary path stem at))) ≡ tokens (declared (temporary path stem at))
unfolding one_handed lists list_tokens list_of tokens stands stands_in node_at_of piece_in number_at map_of
unvalued_listed path stem at = refl

one_listed : (d : Node) → Declares d → list_tokens (one_handed d) ≡ tokens d
one_listed d h =
    ⊎_elim
    (λ v. subst (λ (x : Node). list_tokens (one_handed x) ≡ tokens x) (sym v.whole) (valued_listed v.path v.stem v.place v.value v.pure))
    (λ u. subst (λ (x : Node). list_tokens (one_handed x) ≡ tokens x) (sym u.whole) (unvalued_listed u.path u.stem u.place))
    h

pub handed_listed : (ds : Items) → Full Declares ds → list_tokens (handed ds) ≡ tokens_items ds
unfolding handed tokens one_handed list_tokens
handed_listed Items.none h = refl
handed_listed (Items.hole ds) h = absurd h
handed_listed (Items.item d ds) h =
    list_append (one_handed d) (handed ds) ∙ ap₂ (λ (x : List (Token Name)) (y : List (Token Name)). x ++ y) (one_listed d h.0) (handed_listed ds h.1)

-- ---- the excluded ones

one_excluded : Node → List Act
one_excluded d = Named.declarator ∷ Named.excluded_temporary (cell_of (id_of d)) (stem_of (id_of d)) (name_of (id_of d)) ∷ excludes (encode (node_at_of 1 d))

valued_keys : (path : List ℕ) (stem at : ℕ) (v : Node) → Pure v → keys_tokens (one_excluded (declares (temporary path stem at) v)) ≡ tokens (declares (temporary path stem at) v)
unfolding one_excluded keys_tokens keys_of tokens node_at_of piece_in number_at map_of
valued_keys path stem at v h =
    ap (λ (x : List (Token Name)). plain 5 ∷ plain 3 ∷ temp (name_of (temporary path stem at)) stem ∷ x) (excludes_tokens (encode v) ∙ sym (pure_tokens v h) ∙ sym (append-nil (tokens v)))

one_keys : (d : Node) → Valued d → keys_tokens (one_excluded d) ≡ tokens d
one_keys d v = subst (λ (x : Node). keys_tokens (one_excluded x) ≡ tokens x) (sym v.whole) (valued_keys v.path v.stem v.place v.value v.pure)

pub excluded_listed : (ds : Items) → Full Valued ds → keys_tokens (Named.excluded_keys ds) ≡ tokens_items ds
unfolding Named.excluded_keys tokens one_excluded keys_tokens
excluded_listed Items.none h = refl
excluded_listed (Items.hole ds) h = absurd h
excluded_listed (Items.item d ds) h =
    keys_append (one_excluded d) (Named.excluded_keys ds) ∙ ap₂ (λ (x : List (Token Name)) (y : List (Token Name)). x ++ y) (one_keys d h.0) (excluded_listed ds h.1)

pub excluded_counted : (ds : Items) → Full Valued ds → declarators_in (Named.excluded_keys ds) ≡ count ds
unfolding Named.excluded_keys declarators_in declarator_in count
excluded_counted Items.none h = refl
excluded_counted (Items.hole ds) h = absurd h
excluded_counted (Items.item d ds) h =
    let a = declarators_append (excludes (encode (node_at_of 1 d))) (Named.excluded_keys ds) in
    let b = excludes_none (encode (node_at_of 1 d)) in
    let k = excluded_counted ds h.1 in
    omega arith
