-- The names of the list are names of the tree.
-- Assumes nothing.
use mathlib.Core.Path.{◌≡◌, refl, sym, ap, ◌∙◌, subst}
use mathlib.Core.Bool.{Bool, cond}
use mathlib.Core.List.{List, [], ◌∷◌, ◌++◌, append-nil}
use mathlib.Core.Logic.{⊎_elim}
use mathlib.Core.Logic.◌⊎◌.{inl}
use Prim.Native.Nat.{ℕ, zero, suc, ◌+◌, ◌≤◌, ◌<◌}
use native.Mathlib.Omega.{arith}
use lib.Dec.{eqb}
use Rattle.tree.specs.Tree.{Node, Fields, Piece, Items, wide_bytes, count, encode}
use Rattle.tree.specs.Tree.Node.{node}
use Rattle.lowering.specs.Parts.{node_at_of, piece_in, is_empty, each}
use Rattle.lowering.specs.Made.{Context, temporary, declares, declared, id_of}
use Rattle.lowering.specs.Walk.{Note, Walked, WalkedFields, WalkedPiece, WalkedItems, each_item_of, each_piece, each_field, inside, rewrite, within}
use Rattle.lowering.specs.Walk.Walked.{noted}
use Rattle.lowering.specs.Weight.{weight, walked}
use Rattle.lowering.specs.Collect.{Name, name_of, same, Visit, over, entry_at, entries, excluded_in, new_in, new_in_piece, is_container, marked, mark_of, bare, bare_fields, bare_piece, bare_items, visits, visits_fields, visits_piece, visits_items, first_refusal}
use Rattle.lowering.proofs.All.{AllItems, AllPiece, AllFields, Each}
use Rattle.lowering.proofs.Notes.{AllNotes}
use Rattle.lowering.proofs.Cases.{by_test}
use Rattle.lowering.proofs.Weights.{weight_pos}
use Rattle.lowering.proofs.Falls.{falls, walked_is}
use Rattle.lowering.proofs.MadeAtSites.{times, times_append, no_ids}
use Rattle.lowering.proofs.Appearance.{In, in_first, in_second, same_is, name_self}
use Rattle.lowering.proofs.Occurs.{occurs, occurs_fields, occurs_piece, occurs_items}
use Rattle.sink.specs.Shown.{Token}
use Rattle.sink.proofs.Firsts.{names_in}
use Rattle.outcome.specs.Named.{plains, tokens, tokens_fields, tokens_piece, tokens_items}
use Rattle.outcome.proofs.Tokens.{IsTemporary, Formed, FormedFields, FormedPiece, FormedItems}
use Rattle.outcome.proofs.Scope.{both_each}
use Rattle.outcome.proofs.GoodNodes.{Pure, Good, parts}
use Rattle.outcome.proofs.GoodRules.{rewrite_good}
use Rattle.outcome.proofs.HandedDeclarators.{Hands, Declares, Valued, Full, full_append, full_weaker, pure_tokens}
use Rattle.outcome.proofs.Numbers.{Every, every_append}
use Rattle.outcome.proofs.Nodes.{names_joined, plains_names}
use Rattle.outcome.proofs.ListWritten.{machine_entry}
use Rattle.outcome.proofs.ListedStand.{Calm, CalmFields, CalmPiece, CalmItems, stays_result, rewrite_used, sum_some}
use Rattle.lowering.proofs.ItemLaws.{each_append, over_append}
use Rattle.lowering.proofs.RefusalsMet.{no_refusal, no_refusal_here}

-- ---- no refusal in the visits is none in the walk

mutual
  unfolding visits

  pub calm : (w : Walked) (next m : ℕ) → first_refusal (visits next m w) ≡ 0 → Calm w
  calm (noted note at k fs) next m h =
      let r = no_refusal_here (record { containing = m; note = note }) (visits_fields (is_container k) next m fs) h in
      (r.0, calm_fields fs (is_container k) next m r.1)

  calm_fields : (fs : WalkedFields) (l : Bool) (next m : ℕ) → first_refusal (visits_fields l next m fs) ≡ 0 → CalmFields fs
  calm_fields WalkedFields.done l next m h = tt
  calm_fields (WalkedFields.absent fs) l next m h = calm_fields fs l next m h
  calm_fields (WalkedFields.field p fs) l next m h =
      let r = no_refusal (visits_piece l next m p) (visits_fields l (next + new_in_piece p) m fs) h in
      (calm_piece p l next m r.0, calm_fields fs l (next + new_in_piece p) m r.1)

  calm_piece : (p : WalkedPiece) (l : Bool) (next m : ℕ) → first_refusal (visits_piece l next m p) ≡ 0 → CalmPiece p
  calm_piece (WalkedPiece.one w) l next m h = calm w next m h
  calm_piece (WalkedPiece.list is) l next m h = calm_items is l next m h
  calm_piece (WalkedPiece.text bs) l next m h = tt
  calm_piece (WalkedPiece.byte b) l next m h = tt
  calm_piece (WalkedPiece.mark b) l next m h = tt
  calm_piece (WalkedPiece.number b) l next m h = tt

  calm_items : (is : WalkedItems) (l : Bool) (next m : ℕ) → first_refusal (visits_items l next m is) ≡ 0 → CalmItems is
  calm_items WalkedItems.none l next m h = tt
  calm_items (WalkedItems.hole is) l next m h = calm_items is l next m h
  calm_items (WalkedItems.item w is) l next m h =
      let c = cond l (marked next (mark_of w)) m in
      let r = no_refusal (visits next c w) (visits_items l (next + new_in w) m is) h in
      (calm w next c r.0, calm_items is l (next + new_in w) m r.1)

module _ (a : Name) where
  -- how often the name is that of a declarator that is handed out
  abbrev one : Note → ℕ
  one note = times a (each id_of note.entry) + times a (each id_of note.excluded)

  unfoldable pub used : List Visit → ℕ
  used [] = 0
  used (v ∷ vs) = one v.note + used vs

  used_append : (us vs : List Visit) → used (us ++ vs) ≡ used us + used vs
  unfolding used
  used_append [] vs = omega arith
  used_append (u ∷ us) vs = let h = used_append us vs in omega arith

  -- ---- through the walk

  module _ (w : ℕ → ℕ → Node → Walked) where
    abbrev Part : Node → Type 0
    Part n = (i j next m k : ℕ) → Calm (w i j n) → 0 < used (visits next m (w i j n)) → 0 < occurs a (bare k (w i j n))

    items_used : (i : ℕ) (is : Items) (j : ℕ) → AllItems Part is → (l : Bool) (next m k : ℕ) → CalmItems (each_item_of (w i) j is)
        → 0 < used (visits_items l next m (each_item_of (w i) j is)) → 0 < occurs_items a (bare_items k (each_item_of (w i) j is))
    unfolding each_item_of visits bare occurs used
    items_used i Items.none j p l next m k h u = absurd (omega arith)
    items_used i (Items.hole is) j p l next m k h u = items_used i is (suc j) p l next m k h u
    items_used i (Items.item n is) j p l next m k h u =
        let v = w i j n in
        let c = cond l (marked next (mark_of v)) m in
        let e = used_append (visits next c v) (visits_items l (next + new_in v) m (each_item_of (w i) (suc j) is)) in
        ⊎_elim
        (λ x. let o = p.0 i j next c k h.0 x in omega arith)
        (λ x. let o = items_used i is (suc j) p.1 l (next + new_in v) m (k + new_in v) h.1 x in omega arith)
        (sum_some (used (visits next c v)) (used (visits_items l (next + new_in v) m (each_item_of (w i) (suc j) is))) (omega arith))

    piece_used : (i : ℕ) (q : Piece) → AllPiece Part q → (l : Bool) (next m k : ℕ) → CalmPiece (each_piece (w i) q)
        → 0 < used (visits_piece l next m (each_piece (w i) q)) → 0 < occurs_piece a (bare_piece k (each_piece (w i) q))
    unfolding each_piece visits bare occurs used
    piece_used i (Piece.one n) p l next m k h u = p i 0 next m k h u
    piece_used i (Piece.list is) p l next m k h u = items_used i is 0 p l next m k h u
    piece_used i (Piece.text bs) p l next m k h u = absurd (omega arith)
    piece_used i (Piece.byte b) p l next m k h u = absurd (omega arith)
    piece_used i (Piece.mark b) p l next m k h u = absurd (omega arith)
    piece_used i (Piece.number b) p l next m k h u = absurd (omega arith)

    fields_used : (fs : Fields) (i : ℕ) → AllFields Part fs → (l : Bool) (next m k : ℕ) → CalmFields (each_field w i fs)
        → 0 < used (visits_fields l next m (each_field w i fs)) → 0 < occurs_fields a (bare_fields k (each_field w i fs))
    unfolding each_field visits bare occurs used
    fields_used Fields.done i p l next m k h u = absurd (omega arith)
    fields_used (Fields.absent fs) i p l next m k h u = fields_used fs (suc i) p l next m k h u
    fields_used (Fields.field q fs) i p l next m k h u =
        let v = each_piece (w i) q in
        let e = used_append (visits_piece l next m v) (visits_fields l (next + new_in_piece v) m (each_field w (suc i) fs)) in
        ⊎_elim
        (λ x. let o = piece_used i q p.0 l next m k h.0 x in omega arith)
        (λ x. let o = fields_used fs (suc i) p.1 l (next + new_in_piece v) m (k + new_in_piece v) h.1 x in omega arith)
        (sum_some (used (visits_piece l next m v)) (used (visits_fields l (next + new_in_piece v) m (each_field w (suc i) fs))) (omega arith))

    node_used : (note : Note) (r : Node) → Each Part r → (next m k : ℕ) → Calm (inside note w r) → 0 < used (visits next m (inside note w r))
        → (0 < one note → 0 < occurs a (bare k (inside note w r))) → 0 < occurs a (bare k (inside note w r))
    unfolding inside visits bare occurs used
    node_used note (node at j fs) p next m k h u f =
        ⊎_elim
        (λ x. f x)
        (λ x. let o = fields_used fs 0 p (is_container j) next m k h.1 x in omega arith)
        (sum_some (one note) (used (visits_fields (is_container j) next m (each_field w 0 fs))) u)

  walk_used : (f : ℕ) (c : Context) (n : Node) → weight n ≤ f → Good n → (next m k : ℕ) → Calm (walked c n) → 0 < used (visits next m (walked c n)) → 0 < occurs a (bare k (walked c n))
  walk_used zero c n l g next m k h u = let p = weight_pos n in absurd (omega arith)
  walk_used (suc f) c n l g next m k h u =
      let note = (rewrite c n).note in
      let r = (rewrite c n).result in
      let w : ℕ → ℕ → Node → Walked = λ i j x. walked (within c r i j) x in
      let e : walked c n ≡ inside note w r = walked_is c n in
      subst (λ (x : Walked). 0 < occurs a (bare k x)) (sym e)
      (node_used w note r
      (both_each Good (λ x. weight x < weight n) (Part w) (λ x g' l' i j next' m' k' h' u'. walk_used f (within c r i j) x (omega arith) g' next' m' k' h' u')
      r (parts r (rewrite_good c n g)) (falls c n))
      next m k (subst Calm e h) (subst (λ (x : Walked). 0 < used (visits next m x)) e u)
      (λ x. subst (λ (y : Walked). 0 < occurs a (bare k y)) e (stays_result a c n (λ z. rewrite_used a c n g x) k h)))

  pub walked_used : (c : Context) (n : Node) → Good n → (next m k : ℕ) → Calm (walked c n) → 0 < used (visits next m (walked c n)) → 0 < occurs a (bare k (walked c n))
  walked_used c n g = walk_used (weight n) c n (omega arith) g

  -- ---- what occurs is among the names of the tree

  temporary_occurs : (at j k : ℕ) (fs : WalkedFields) → IsTemporary fs → occurs_fields a (bare_fields k fs) ≡ 0
  unfolding bare occurs
  temporary_occurs at j k fs h = ap (λ (x : WalkedFields). occurs_fields a (bare_fields k x)) h.whole

  mutual
    unfolding bare occurs tokens names_in

    pub occurs_in : (k : ℕ) (w : Walked) → Formed w → 0 < occurs a (bare k w) → In a (names_in (tokens (bare k w)))
    occurs_in k (noted note at j fs) f h =
        by_test (eqb j 20)
        (λ e.
        let n = node at j (bare_fields k fs) in
        let z = temporary_occurs at j k fs (f.0 e) in
        by_test (same a (name_of n))
        (λ s. rw e (In.here (same_is a (name_of n) s)))
        (λ s. let h' : 0 < 0 + occurs_fields a (bare_fields k fs) = rw (e, s) at h in absurd (omega arith)))
        (λ e. let h' : 0 < 0 + occurs_fields a (bare_fields k fs) = rw e at h in rw e (in_fields k fs f.2 (omega arith)))

    in_fields : (k : ℕ) (fs : WalkedFields) → FormedFields fs → 0 < occurs_fields a (bare_fields k fs) → In a (names_in (tokens_fields (bare_fields k fs)))
    in_fields k WalkedFields.done f h = absurd (omega arith)
    in_fields k (WalkedFields.absent fs) f h = in_fields k fs f h
    in_fields k (WalkedFields.field p fs) f h =
        let l = names_in (tokens_piece (bare_piece k p)) in
        let r = names_in (tokens_fields (bare_fields (k + new_in_piece p) fs)) in
        subst (In a) (sym (names_joined (tokens_piece (bare_piece k p)) (tokens_fields (bare_fields (k + new_in_piece p) fs))))
        (⊎_elim (λ x. in_first r (in_piece k p f.0 x)) (λ x. in_second l (in_fields (k + new_in_piece p) fs f.1 x))
        (sum_some (occurs_piece a (bare_piece k p)) (occurs_fields a (bare_fields (k + new_in_piece p) fs)) h))

    in_piece : (k : ℕ) (p : WalkedPiece) → FormedPiece p → 0 < occurs_piece a (bare_piece k p) → In a (names_in (tokens_piece (bare_piece k p)))
    in_piece k (WalkedPiece.one w) f h = occurs_in k w f h
    in_piece k (WalkedPiece.list is) f h =
        subst (In a) (sym (names_joined (plains (wide_bytes (count (bare_items k is)))) (tokens_items (bare_items k is))))
        (in_second (names_in (plains (wide_bytes (count (bare_items k is))))) (in_items k is f h))
    in_piece k (WalkedPiece.text bs) f h = absurd (omega arith)
    in_piece k (WalkedPiece.byte b) f h = absurd (omega arith)
    in_piece k (WalkedPiece.mark b) f h = absurd (omega arith)
    in_piece k (WalkedPiece.number b) f h = absurd (omega arith)

    in_items : (k : ℕ) (is : WalkedItems) → FormedItems is → 0 < occurs_items a (bare_items k is) → In a (names_in (tokens_items (bare_items k is)))
    in_items k WalkedItems.none f h = absurd (omega arith)
    in_items k (WalkedItems.hole is) f h = in_items k is f h
    in_items k (WalkedItems.item w is) f h =
        let l = names_in (tokens (bare k w)) in
        let r = names_in (tokens_items (bare_items (k + new_in w) is)) in
        subst (In a) (sym (names_joined (tokens (bare k w)) (tokens_items (bare_items (k + new_in w) is))))
        (⊎_elim (λ x. in_first r (occurs_in k w f.0 x)) (λ x. in_second l (in_items (k + new_in w) is f.1 x))
        (sum_some (occurs a (bare k w)) (occurs_items a (bare_items (k + new_in w) is)) h))

-- ---- the names of the list

pure_names : (n : Node) → Pure n → names_in (tokens n) ≡ []
pure_names n h = ap names_in (pure_tokens n h) ∙ plains_names (encode n)

valued_names : (path : List ℕ) (stem at : ℕ) (v : Node) → Pure v → names_in (tokens (declares (temporary path stem at) v)) ≡ name_of (temporary path stem at) ∷ []
unfolding tokens names_in
valued_names path stem at v h =
    ap (λ (x : List Name). name_of (temporary path stem at) ∷ x) (names_joined (tokens v) [] ∙ ap (λ (x : List Name). x ++ []) (pure_names v h))

unvalued_names : (path : List ℕ) (stem at : ℕ) → names_in (tokens (declared (temporary path stem at))) ≡ name_of (temporary path stem at) ∷ []
unfolding tokens names_in
unvalued_names path stem at = refl

id_of_lem : (path : List ℕ) (stem at : ℕ) (v : Node) → id_of (declares (temporary path stem at) v) ≡ temporary path stem at
unfolding node_at_of piece_in
id_of_lem path stem at v = refl

id_bare : (path : List ℕ) (stem at : ℕ) → id_of (declared (temporary path stem at)) ≡ temporary path stem at
unfolding node_at_of piece_in
id_bare path stem at = refl

declares_names : (d : Node) → Declares d → names_in (tokens d) ≡ name_of (id_of d) ∷ []
declares_names d h =
    ⊎_elim
    (λ v. subst (λ (x : Node). names_in (tokens x) ≡ name_of (id_of x) ∷ []) (sym v.whole)
    (valued_names v.path v.stem v.place v.value v.pure ∙ ap (λ (x : Node). name_of x ∷ []) (sym (id_of_lem v.path v.stem v.place v.value))))
    (λ u. subst (λ (x : Node). names_in (tokens x) ≡ name_of (id_of x) ∷ []) (sym u.whole)
    (unvalued_names u.path u.stem u.place ∙ ap (λ (x : Node). name_of x ∷ []) (sym (id_bare u.path u.stem u.place))))
    h

over_first : (v : Visit) (vs : List Visit) → over entry_at (v ∷ vs) ≡ entry_at v ++ over entry_at vs
unfolding over
over_first v vs = refl

nothing_every : (P : Name → Type 0) → Every P (names_in (over machine_entry (over entry_at [])))
unfolding over names_in
nothing_every P = tt

entries_joined : (v : Visit) (vs : List Visit) → over machine_entry (over entry_at (v ∷ vs)) ≡ over machine_entry (entry_at v) ++ over machine_entry (over entry_at vs)
entries_joined v vs = ap (over machine_entry) (over_first v vs) ∙ over_append machine_entry (entry_at v) (over entry_at vs)

excluded_full : (vs : List Visit) → AllNotes Hands vs → Full Declares (excluded_in vs)
unfolding excluded_in
excluded_full [] n = tt
excluded_full (v ∷ vs) n =
    full_append Declares v.note.excluded (excluded_in vs) (full_weaker Valued Declares (λ d h. inl h) v.note.excluded n.0.excluded) (excluded_full vs n.1)

excluded_less : (a : Name) (vs : List Visit) → times a (each id_of (excluded_in vs)) ≤ used a vs
unfolding excluded_in used
excluded_less a [] = let z = no_ids a in omega arith
excluded_less a (v ∷ vs) =
    let h = excluded_less a vs in
    let e = ap (times a) (each_append id_of v.note.excluded (excluded_in vs)) in
    let t = times_append a (each id_of v.note.excluded) (each id_of (excluded_in vs)) in
    omega arith

module _ (P : Name → Type 0) where
  items_every : (ds : Items) → Full Declares ds → ((a : Name) → 0 < times a (each id_of ds) → P a) → Every P (names_in (tokens_items ds))
  unfolding tokens names_in each times
  items_every Items.none f h = tt
  items_every (Items.hole ds) f h = absurd f
  items_every (Items.item d ds) f h =
      subst (Every P) (sym (names_joined (tokens d) (tokens_items ds) ∙ ap (λ (x : List Name). x ++ names_in (tokens_items ds)) (declares_names d f.0)))
      (h (name_of (id_of d)) (rw (name_self (name_of (id_of d))) (omega arith)), items_every ds f.1 (λ a u. h a (omega arith)))

  entry_every : (v : Visit) → Full Declares v.note.entry → ((a : Name) → 0 < times a (each id_of v.note.entry) → P a) → Every P (names_in (over machine_entry (entry_at v)))
  unfolding entry_at over names_in
  entry_every v f h =
      by_test (is_empty v.note.entry)
      (λ e. rw (e, Every) tt)
      (λ e. rw (e, Every)
      (subst (λ (x : List (Token Name)). Every P (names_in x)) (sym (append-nil (tokens_items v.note.entry))) (items_every v.note.entry f h)))

  -- if the ids of all visits are such, so are the names of both parts of the list
  pub entries_every : (vs : List Visit) → AllNotes Hands vs → ((a : Name) → 0 < used a vs → P a) → Every P (names_in (over machine_entry (entries vs)))
  unfolding entries used
  entries_every [] n h = nothing_every P
  entries_every (v ∷ vs) n h =
      subst (Every P) (sym (ap names_in (entries_joined v vs) ∙ names_joined (over machine_entry (entry_at v)) (over machine_entry (over entry_at vs))))
      (every_append P (names_in (over machine_entry (entry_at v))) (names_in (over machine_entry (over entry_at vs)))
      (entry_every v n.0.entry (λ a u. h a (omega arith))) (entries_every vs n.1 (λ a u. h a (omega arith))))

  pub excluded_every : (vs : List Visit) → AllNotes Hands vs → ((a : Name) → 0 < used a vs → P a) → Every P (names_in (tokens_items (excluded_in vs)))
  excluded_every vs n h = items_every (excluded_in vs) (excluded_full vs n) (λ a u. let l = excluded_less a vs in h a (omega arith))
