-- Where writing an object pattern refuses nothing, neither does writing the value of its rest, with the copies of its keys.
-- Assumes nothing.
use mathlib.Core.Path.{◌≡◌, refl, sym, ap₂, ◌∙◌, subst}
use mathlib.Core.Bool.{Bool, true, false, cond, ◌&&◌, false≢true}
use mathlib.Core.List.{List, [], ◌∷◌, ◌++◌}
use mathlib.Core.Logic.{◌⊎◌, ⊎_elim}
use mathlib.Core.Logic.◌⊎◌.{inl, inr}
use Prim.Native.Nat.{ℕ, zero, suc, ◌+◌, ◌-◌, ◌≤◌}
use native.Mathlib.Omega.{arith}
use native.Mathlib.Decide.{dec_lt}
use lib.Dec.{eqb}
use lib.ListN.{length, get_or}
use borrow.Author.Tests.{eqb-true, lt-ltb, le-ltb}
use Rattle.tree.specs.Tree.{Node, Fields, Piece, Items, wide_bytes, count, depth, depth_fields, depth_items}
use Rattle.tree.specs.Tree.Node.{node}
use Rattle.tree.specs.Grammar.{Sort, Field, kind_of, form_at, fields_of, kinds, variants}
use Rattle.tree.specs.Grammar.Field.{must, may}
use Rattle.tree.specs.Grammar.Stage.{input}
use Rattle.tree.specs.WellFormed.{byte_in, Fits, FitFields, FitPiece, FitItems}
use Rattle.tree.proofs.Look.{kind_at}
use Rattle.lowering.specs.Parts.{position, kind, is, piece_in, node_at_of, items_at_of, stands, stands_in, is_empty}
use Rattle.lowering.specs.Patterns.{Shape, shape, has_rest_of, properties, key}
use Rattle.lowering.specs.Patterns.Shape.{object_pattern, array_pattern, leaf}
use Rattle.lowering.specs.Keys.{key_sort, entry_of, key_text}
use Rattle.lowering.specs.Walk.{Note, Walked, WalkedFields, WalkedPiece, WalkedItems}
use Rattle.lowering.specs.Walk.Walked.{noted}
use Rattle.lowering.specs.Weight.{walked}
use Rattle.lowering.specs.Made.{Context}
use Rattle.lowering.specs.Collect.{is_container, marked, mark_of}
use Rattle.lowering.proofs.All.{AllItems}
use Rattle.lowering.proofs.Cases.{by_test, by_shape, object_is, array_is, default_is, by_entry}
use Rattle.sink.specs.Machine.{Event}
use Rattle.direct.specs.Events.{Deed, Place, Emit, puts, lists, cell, number_in, hands_out, after, marks, count_in, map_in, written, deeds, deeds_fields, deeds_piece, deeds_items, context_of, emits}
use Rattle.direct.specs.Events.Deed.{does, refuses}
use Rattle.direct.specs.Emit.{say, ◌▷◌, inner, in_turn, call_head}
use Rattle.direct.specs.Views.{View, takes, object_at, object_rest_at, property_at, default_at, viewed_property, nameless, each_does, says_cell, emits_view, emits_property, is_other, emits_key}
use Rattle.direct.specs.Views.View.{replacing, taking}
use Rattle.direct.specs.Keys.{string_bytes_of, emits_excluded, entries, primitives, hoists, emits_keys, emits_keys_read, emits_rest}
use Rattle.direct.specs.Objects.{replaced_in, over_replaced}
use Rattle.direct.specs.Handed.{places_in, hands_place, hands_nested}
use Rattle.direct.specs.Assigned.{emits_nest, emits_target}
use Rattle.direct.specs.Declared.{emits_key_value, emits_own_keys, emits_own_pattern}
use Rattle.direct.proofs.ViewedPatterns.{view_rest, view_property}
use Rattle.direct.proofs.RestValues.{excluded_spelt, excluded_itself, excluded_omitted, excluded_saved, rest_none, rest_some}
use Rattle.direct.proofs.AssignmentsByPart.{target_nested, target_kept}
use Rattle.direct.proofs.DirectWaysOut.{key_plain, own_pattern_some}
use Rattle.outcome.specs.Named.{first_refused}
use Rattle.outcome.proofs.Refusals.{first, Sound, Silent, silent_none, sound_both, silent_sound, first_both, puts_silent, marks_silent, hands_first, hands_sound}
use Rattle.outcome.proofs.GoodNodes.{Good, Leaf, Is35, rest_leaf, properties_35}
use Rattle.outcome.proofs.FittingIsGood.{fits_good}

-- ---- rows that refuse the same

-- neither has a refusal 0, and their first refusals are one
record Steady (ds bs : List Deed) : Type 0 where
  left : Sound ds
  right : Sound bs
  same : first_refused ds ≡ first_refused bs

both_steady : (ds bs ds' bs' : List Deed) → Steady ds ds' → Steady bs bs' → Steady (ds ++ bs) (ds' ++ bs')
both_steady ds bs ds' bs' h k =
    record {
      left = sound_both ds bs h.left k.left;
      right = sound_both ds' bs' h.right k.right;
      same = first_both ds bs h.left ∙ ap₂ first h.same k.same ∙ sym (first_both ds' bs' h.right);
    }

silent_steady : (ds bs : List Deed) → Silent ds → Silent bs → Steady ds bs
silent_steady ds bs h k =
    record { left = silent_sound ds h; right = silent_sound bs k; same = silent_none ds h ∙ sym (silent_none bs k) }

hands_steady : (m m' : ℕ) (note : Note) → Steady (hands_out m note) (hands_out m' note)
hands_steady m m' note =
    record { left = hands_sound m note; right = hands_sound m' note; same = hands_first m note ∙ sym (hands_first m' note) }

cond_steady : (b : Bool) (ds ds' bs bs' : List Deed) → Steady ds ds' → Steady bs bs' → Steady (cond b ds bs) (cond b ds' bs')
cond_steady true ds ds' bs bs' h k = h
cond_steady false ds ds' bs bs' h k = k

written_steady : (at k : ℕ) (fs : WalkedFields) (ds bs : List Deed) → Steady ds bs → Steady (written at k fs ds) (written at k fs bs)
unfolding written
written_steady at k fs ds bs h =
    let t = does (Event.temporary (cell (number_in fs) at) (number_in fs)) ∷ [] in
    let e = does (Event.helper (number_in fs)) ∷ [] in
    let p = puts (k ∷ map_in fs ∷ []) in
    cond_steady (eqb k 20) t t (cond (eqb k 21) e (p ++ ds)) (cond (eqb k 21) e (p ++ bs)) (silent_steady t t tt tt)
    (cond_steady (eqb k 21) e e (p ++ ds) (p ++ bs) (silent_steady e e tt tt) (both_steady p ds p bs (silent_steady p p tt tt) h))

mutual
  unfolding deeds

  walked_steady : (w : Walked) (next m next' m' : ℕ) → Steady (deeds next m w) (deeds next' m' w)
  walked_steady (noted note at k fs) next m next' m' =
      let ds = deeds_fields (is_container k) next m fs in
      let bs = deeds_fields (is_container k) next' m' fs in
      both_steady (hands_out m note) (written at k fs ds) (hands_out m' note) (written at k fs bs)
      (hands_steady m m' note) (written_steady at k fs ds bs (fields_steady fs (is_container k) next m next' m'))

  fields_steady : (fs : WalkedFields) (l : Bool) (next m next' m' : ℕ) → Steady (deeds_fields l next m fs) (deeds_fields l next' m' fs)
  fields_steady WalkedFields.done l next m next' m' = silent_steady [] [] tt tt
  fields_steady (WalkedFields.absent fs) l next m next' m' = fields_steady fs l next m next' m'
  fields_steady (WalkedFields.field p fs) l next m next' m' =
      let ds = deeds_piece l next m p in
      let bs = deeds_piece l next' m' p in
      both_steady ds (deeds_fields l (after next ds) m fs) bs (deeds_fields l (after next' bs) m' fs)
      (piece_steady p l next m next' m') (fields_steady fs l (after next ds) m (after next' bs) m')

  piece_steady : (p : WalkedPiece) (l : Bool) (next m next' m' : ℕ) → Steady (deeds_piece l next m p) (deeds_piece l next' m' p)
  piece_steady (WalkedPiece.one w) l next m next' m' = walked_steady w next m next' m'
  piece_steady (WalkedPiece.list ws) l next m next' m' =
      let head = puts (wide_bytes (count_in ws)) in
      both_steady head (deeds_items l next m ws) head (deeds_items l next' m' ws) (silent_steady head head tt tt) (items_steady ws l next m next' m')
  piece_steady (WalkedPiece.text bs) l next m next' m' =
      let ds = wide_bytes (length bs) ++ bs in silent_steady (puts ds) (puts ds) (puts_silent ds) (puts_silent ds)
  piece_steady (WalkedPiece.byte b) l next m next' m' = silent_steady (puts (b ∷ [])) (puts (b ∷ [])) tt tt
  piece_steady (WalkedPiece.mark b) l next m next' m' = silent_steady (marks b) (marks b) (marks_silent b) (marks_silent b)
  piece_steady (WalkedPiece.number b) l next m next' m' = silent_steady (puts (wide_bytes b)) (puts (wide_bytes b)) tt tt

  items_steady : (ws : WalkedItems) (l : Bool) (next m next' m' : ℕ) → Steady (deeds_items l next m ws) (deeds_items l next' m' ws)
  items_steady WalkedItems.none l next m next' m' = silent_steady [] [] tt tt
  items_steady (WalkedItems.hole ws) l next m next' m' =
      let head = puts (0 ∷ []) in
      both_steady head (deeds_items l next m ws) head (deeds_items l next' m' ws) (silent_steady head head tt tt) (items_steady ws l next m next' m')
  items_steady (WalkedItems.item w ws) l next m next' m' =
      let k = cond l (marked next (mark_of w)) m in
      let k' = cond l (marked next' (mark_of w)) m' in
      let ds = deeds next k w in
      let bs = deeds next' k' w in
      both_steady ds (deeds_items l (after next ds) m ws) bs (deeds_items l (after next' bs) m' ws)
      (walked_steady w next k next' k') (items_steady ws l (after next ds) m (after next' bs) m')

-- ---- a node refuses the same whatever the marks

node_steady : (c c' : Place) (n : Node) → c.root ≡ c'.root → c.statement ≡ c'.statement → (m m' : ℕ) → Steady (emits c n m) (emits c' n m')
unfolding emits
node_steady c c' n r s m m' =
    let κ : Bool → Bool → Context = λ a b. record { path = []; root = a; statement = b } in
    subst (λ (k : Context). Steady (deeds m c.mark (walked (context_of c) n)) (deeds m' c'.mark (walked k n)))
    (ap₂ κ r s) (walked_steady (walked (context_of c) n) m c.mark m' c'.mark)

-- what is refused depends on no mark
pub steady : (c c' : Place) (n : Node) → c.root ≡ c'.root → c.statement ≡ c'.statement → (m m' : ℕ) → first_refused (emits c n m) ≡ first_refused (emits c' n m')
steady c c' n r s m m' = (node_steady c c' n r s m m').same

-- and no refusal is 0
pub emits_sound : (c : Place) (n : Node) (m : ℕ) → Sound (emits c n m)
emits_sound c n m = (node_steady c c n refl refl m m).left

-- ---- deeds one after another

none_left : (ds bs : List Deed) → first_refused (ds ++ bs) ≡ 0 → first_refused ds ≡ 0
unfolding first_refused
none_left [] bs h = refl
none_left (does e ∷ ds) bs h = none_left ds bs h
none_left (refuses r ∷ ds) bs h = h

none_right : (ds bs : List Deed) → Sound ds → first_refused (ds ++ bs) ≡ 0 → first_refused bs ≡ 0
unfolding first_refused
none_right [] bs k h = h
none_right (does e ∷ ds) bs k h = none_right ds bs k h
none_right (refuses zero ∷ ds) bs k h = absurd k
none_right (refuses (suc r) ∷ ds) bs k h = absurd (omega arith)

then_none : (ds bs : List Deed) → first_refused bs ≡ 0 → first_refused (ds ++ bs) ≡ first_refused ds
unfolding first_refused
then_none [] bs h = h
then_none (does e ∷ ds) bs h = then_none ds bs h
then_none (refuses r ∷ ds) bs h = refl

-- nothing is refused, whatever the next mark; at some next mark
record Quiet (e : Emit) : Type 0 where
  always : (m : ℕ) → first_refused (e m) ≡ 0

record Once (e : Emit) : Type 0 where
  next : ℕ
  none : first_refused (e next) ≡ 0

-- no refusal is 0
pub record Sounds (e : Emit) : Type 0 where
  pub always : (m : ℕ) → Sound (e m)

once_left : {e : Emit} (f : Emit) → Once (e ▷ f) → Once e
unfolding ◌▷◌
once_left {e = e} f h = record { next = h.next; none = none_left (e h.next) (f (after h.next (e h.next))) h.none }

module _ {e f : Emit} where
  once_right : Sounds e → Once (e ▷ f) → Once f
  unfolding ◌▷◌
  once_right k h =
      let m = after h.next (e h.next) in
      record { next = m; none = none_right (e h.next) (f m) (k.always h.next) h.none }

  quiet_then : Quiet e → Quiet f → Quiet (e ▷ f)
  unfolding ◌▷◌
  quiet_then h k = record { always = λ m. then_none (e m) (f (after m (e m))) (k.always (after m (e m))) ∙ h.always m }

  pub sounds_then : Sounds e → Sounds f → Sounds (e ▷ f)
  unfolding ◌▷◌
  sounds_then h k = record { always = λ m. sound_both (e m) (f (after m (e m))) (h.always m) (k.always (after m (e m))) }

module _ (ds : List Deed) (h : Silent ds) where
  say_quiet : Quiet (say ds)
  unfolding say
  say_quiet = record { always = λ m. silent_none ds h }

  pub say_sounds : Sounds (say ds)
  unfolding say
  say_sounds = record { always = λ m. silent_sound ds h }

pub node_sounds : (c : Place) (n : Node) → Sounds (emits c n)
node_sounds c n = record { always = emits_sound c n }

-- a node that once refuses nothing never does, at any place of an expression with the same root
once_quiet : (c d : Place) (n : Node) → c.root ≡ d.root → Once (emits (inner c) n) → Quiet (emits (inner d) n)
unfolding inner
once_quiet c d n r h = record { always = λ m. sym (steady (inner c) (inner d) n r refl h.next m) ∙ h.none }

-- ---- what holds of the value of a rest, if it holds of the copies of its keys

-- what events have, and two have one after the other if each has it
record Held (P : Emit → Type 0) : Type 0 where
  says : (ds : List Deed) → Silent ds → P (say ds)
  thens : {e f : Emit} → P e → P f → P (e ▷ f)

module _ {P : Emit → Type 0} (held : Held P) where
  cell_has : (stem at : ℕ) → P (says_cell stem at)
  unfolding says_cell
  cell_has stem at = held.says (does (Event.temporary (cell stem at) stem) ∷ []) tt

  turn_has : (f : Node → Emit) → ((n : Node) → P (f n)) → (ns : Items) → P (in_turn f ns)
  unfolding in_turn
  turn_has f h Items.none = held.says [] tt
  turn_has f h (Items.hole ns) = turn_has f h ns
  turn_has f h (Items.item n ns) = held.thens (h n) (turn_has f h ns)

  -- an entry is a copy of the key, or bytes, or a temporary
  excluded_has : (c : Place) (q : Node) → (is_other (key q) ≡ false → P (emits c (key q))) → P (emits_excluded c q)
  unfolding is_other
  excluded_has c q h =
      let bytes : (bs : List ℕ) → P (say (puts bs)) = λ bs. held.says (puts bs) (puts_silent bs) in
      by_entry (entry_of (key_sort (key q)))
      (λ e. subst P (sym (excluded_spelt c q e)) (bytes (string_bytes_of (key_text (key q)))))
      (λ e. subst P (sym (excluded_itself c q e)) (h (rw (e, is_other) refl)))
      (λ e. subst P (sym (excluded_omitted c q e)) (held.says [] tt))
      (λ e. subst P (sym (excluded_saved c q e)) (cell_has 4 (position q)))

  module _ (c : Place) (at : ℕ) (qs : Items) where
    keys_have : P (in_turn (emits_excluded c) qs) → P (emits_keys c qs)
    unfolding emits_keys
    keys_have h = held.thens (held.says (puts (32 ∷ 1 ∷ wide_bytes (entries qs))) tt) h

    read_has : P (in_turn (emits_excluded c) qs) → P (emits_keys_read c at qs)
    unfolding emits_keys_read
    read_has h = go (hoists c.root qs) (primitives qs)
      where
        go : (a b : Bool) → P (cond a (says_cell 2 at) (cond b (emits_keys c qs)
            (say (puts (29 ∷ 3 ∷ 30 ∷ 3 ∷ [])) ▷ emits_keys c qs ▷ say (puts (3 ∷ 0 ∷ 109 ∷ 97 ∷ 112 ∷ 1 ∷ 0 ∷ []) ++ (does (Event.helper 5) ∷ [])))))
        go true b = cell_has 2 at
        go false true = keys_have h
        go false false =
            held.thens (held.says (puts (29 ∷ 3 ∷ 30 ∷ 3 ∷ [])) tt)
            (held.thens (keys_have h) (held.says (puts (3 ∷ 0 ∷ 109 ∷ 97 ∷ 112 ∷ 1 ∷ 0 ∷ []) ++ (does (Event.helper 5) ∷ [])) tt))

  rest_has : (c : Place) (at : ℕ) (qs : Items) (s : Emit) → P s → (is_empty qs ≡ false → P (in_turn (emits_excluded (inner c)) qs)) → P (emits_rest c at qs s)
  rest_has c at qs s k h =
      by_test (is_empty qs)
      (λ e. subst P (sym (rest_none c at qs s e))
      (held.thens (held.says (call_head 2 2 ++ (puts (24 ∷ 1 ∷ 0 ∷ 0 ∷ 28 ∷ 1 ∷ 2 ∷ 0 ∷ []) ++ call_head 3 1)) tt) (held.thens k k)))
      (λ e. subst P (sym (rest_some c at qs s e)) (held.thens (held.says (call_head 4 2) tt) (held.thens k (read_has (inner c) at qs (h e)))))

quiets : Held Quiet
quiets = record { says = say_quiet; thens = quiet_then }

sounds : Held Sounds
sounds = record { says = say_sounds; thens = sounds_then }

pub cell_sounds : (stem at : ℕ) → Sounds (says_cell stem at)
cell_sounds stem at = cell_has sounds stem at

pub turn_sounds : (f : Node → Emit) → ((n : Node) → Sounds (f n)) → (ns : Items) → Sounds (in_turn f ns)
turn_sounds f h ns = turn_has sounds f h ns

pub rest_sounds : (c : Place) (at : ℕ) (qs : Items) (s : Emit) → Sounds s → Sounds (emits_rest c at qs s)
rest_sounds c at qs s h =
    rest_has sounds c at qs s h
    (λ _. turn_sounds (emits_excluded (inner c)) (λ q. excluded_has sounds (inner c) q (λ _. node_sounds (inner c) (key q))) qs)

-- ---- the patterns of input by the parts that stand

mutual
  data Pattern : Node → Type 0 where
    object : {at : ℕ} {ps : Items} → Properties ps → Pattern (object_at at ps)
    object_rest : {at : ℕ} {ps : Items} {r : Node} → Properties ps → Leaf r → Pattern (object_rest_at at ps r)
    array : {at : ℕ} {fs : Fields} → Pattern (node at 36 fs)
    default : {at : ℕ} {l r : Node} → Pattern l → Pattern (default_at at l r)
    other : {p : Node} → Leaf p → Pattern p

  data Properties : Items → Type 0 where
    none : Properties Items.none
    item : {at b : ℕ} {k x : Node} {qs : Items} → Pattern x → Properties qs → Properties (Items.item (property_at at k x b) qs)

-- a pattern has two forms: where it binds, and as a target
late_form : (i k : ℕ) → get_or (14 ∷ 14 ∷ 34 ∷ 35 ∷ 36 ∷ 37 ∷ []) i 0 ≡ k → 34 ≤ k → 64 + i ≡ k + 32
late_form zero k e h = absurd (omega arith)
late_form (suc zero) k e h = absurd (omega arith)
late_form (suc (suc zero)) k e h = omega arith
late_form (suc (suc (suc zero))) k e h = omega arith
late_form (suc (suc (suc (suc zero)))) k e h = omega arith
late_form (suc (suc (suc (suc (suc zero))))) k e h = omega arith
late_form (suc (suc (suc (suc (suc (suc i)))))) k e h = absurd (omega arith)

two_forms : (f k : ℕ) → kind_of f ≡ k → 34 ≤ k → (f ≡ k) ⊎ (f ≡ k + 32)
unfolding kind_of
two_forms f k e h = elim (dec_lt f 64) [
  | yes l ↦ let e' : f ≡ k = rw (lt-ltb f 64 l) at e in inl e'
  | no l ↦
      let e' : get_or (14 ∷ 14 ∷ 34 ∷ 35 ∷ 36 ∷ 37 ∷ []) (f - 64) 0 ≡ k = rw (le-ltb f 64 (omega arith)) at e in
      inr (omega (arith, late_form (f - 64) k e' h))
]

-- the fields of a node of a kind with two forms
by_form : {A : Type 0} {p at k : ℕ} {fs : Fields} → Fits input p (node at k fs) → 34 ≤ k → (FitFields input 0 (fields_of k) fs → A) → (FitFields input 0 (fields_of (k + 32)) fs → A) → A
by_form (Fits.fits {p = p} {k = k} {fs = fs} h r) l a b =
    ⊎_elim
    (λ e. a (subst (λ (f : ℕ). FitFields input 0 (fields_of f) fs) e r))
    (λ e. b (subst (λ (f : ℕ). FitFields input 0 (fields_of f) fs) e r))
    (two_forms (form_at input p k) k (kind_at input p k h) l)

-- fields one by one
must_is : {b : ℕ} {s : Sort} {ts : List Field} {fs : Fields} (P : Fields → Type 0) → FitFields input b (must s ∷ ts) fs
    → ((x : Piece) (gs : Fields) → FitPiece input b s x → FitFields input (byte_in x) ts gs → P (Fields.field x gs)) → P fs
must_is P (FitFields.field {p = x} {fs = gs} h r) k = k x gs h r

child_is : {b q : ℕ} {x : Piece} (P : Piece → Type 0) → FitPiece input b (Sort.child q) x → ((n : Node) → Fits input q n → P (Piece.one n)) → P x
child_is P (FitPiece.child {n = n} f) k = k n f

many_is : {b q : ℕ} {x : Piece} (P : Piece → Type 0) → FitPiece input b (Sort.many q) x → ((ps : Items) → FitItems input q false ps → P (Piece.list ps)) → P x
many_is P (FitPiece.many {is = ps} l f) k = k ps f

byte_is : {b low high : ℕ} {x : Piece} (P : Piece → Type 0) → FitPiece input b (Sort.byte low high) x → ((v : ℕ) → P (Piece.byte v)) → P x
byte_is P (FitPiece.byte {v = v} l h s) k = k v

ended : {b : ℕ} {fs : Fields} (P : Fields → Type 0) → FitFields input b [] fs → P Fields.done → P fs
ended P FitFields.done k = k

may_is : {b q : ℕ} {fs : Fields} (P : Fields → Type 0) → FitFields input b (may (Sort.child q) ∷ []) fs
    → P (Fields.absent Fields.done) → ((n : Node) → P (Fields.field (Piece.one n) Fields.done)) → P fs
may_is P (FitFields.absent {fs = gs} r) k l = ended (λ gs. P (Fields.absent gs)) r k
may_is P (FitFields.field {p = x} {fs = gs} h r) k l = child_is (λ x. P (Fields.field x gs)) h (λ n f. ended (λ gs. P (Fields.field (Piece.one n) gs)) r (l n))

-- given this for what has fewer levels
module _ (d : ℕ) (lower : (p : ℕ) (n : Node) → depth n ≤ d → Fits input p n → Pattern n) where
  property_drawn : {i q r low high : ℕ} {fs : Fields} (at : ℕ) (qs : Items) → FitFields input i (must (Sort.child q) ∷ must (Sort.child r) ∷ must (Sort.byte low high) ∷ []) fs
      → depth_fields fs ≤ d → Properties qs → Properties (Items.item (node at 35 fs) qs)
  unfolding depth
  property_drawn {r = r} at qs f l w =
      let P : Fields → Type 0 = λ fs. depth_fields fs ≤ d → Properties (Items.item (node at 35 fs) qs) in
      must_is P f (λ y gs g f. child_is (λ y. P (Fields.field y gs)) g (λ k h.
      must_is (λ gs. P (Fields.field (Piece.one k) gs)) f (λ y gs g f. child_is (λ y. P (Fields.field (Piece.one k) (Fields.field y gs))) g (λ x h.
      must_is (λ gs. P (Fields.field (Piece.one k) (Fields.field (Piece.one x) gs))) f
      (λ y gs g f. byte_is (λ y. P (Fields.field (Piece.one k) (Fields.field (Piece.one x) (Fields.field y gs)))) g (λ b.
      ended (λ gs. P (Fields.field (Piece.one k) (Fields.field (Piece.one x) (Fields.field (Piece.byte b) gs)))) f
      (λ l. Properties.item (lower r x (omega arith) h) w)))))))
      l

  properties_drawn : {q : ℕ} (ps : Items) → FitItems input q false ps → depth_items ps ≤ d → AllItems Is35 ps → Properties ps
  unfolding depth is fields_of kinds variants
  properties_drawn Items.none FitItems.none l k = Properties.none
  properties_drawn {q = q} (Items.item (node at j fs) qs) (FitItems.item f r) l k =
      let e : j ≡ 35 = eqb-true j 35 k.0 in
      let w = properties_drawn qs r (omega arith) k.1 in
      let f' : Fits input q (node at 35 fs) = subst (λ (j : ℕ). Fits input q (node at j fs)) e f in
      subst (λ (j : ℕ). Properties (Items.item (node at j fs) qs)) (sym e)
      (by_form f' (omega arith) (λ g. property_drawn at qs g (omega arith) w) (λ g. property_drawn at qs g (omega arith) w))
  properties_drawn {q = q} (Rattle.tree.specs.Tree.hole _) x4 l k = elim x4 [ ]

  object_drawn : {i q r : ℕ} {fs : Fields} (at : ℕ) → FitFields input i (must (Sort.many q) ∷ may (Sort.child r) ∷ []) fs → depth_fields fs ≤ d → Good (node at 34 fs) → Pattern (node at 34 fs)
  unfolding depth is items_at_of node_at_of piece_in
  object_drawn {r = r} at f l g =
      let P : Fields → Type 0 = λ fs. depth_fields fs ≤ d → Good (node at 34 fs) → Pattern (node at 34 fs) in
      must_is P f (λ y gs m f. many_is (λ y. P (Fields.field y gs)) m (λ ps h.
      may_is (λ gs. P (Fields.field (Piece.list ps) gs)) f
      (λ l g. Pattern.object (properties_drawn ps h (omega arith) (properties_35 (object_at at ps) refl g)))
      (λ x l g. Pattern.object_rest (properties_drawn ps h (omega arith) (properties_35 (object_rest_at at ps x) refl g)) (rest_leaf (object_rest_at at ps x) refl g))))
      l g

  default_drawn : {i q r : ℕ} {fs : Fields} (at : ℕ) → FitFields input i (must (Sort.child q) ∷ must (Sort.child r) ∷ []) fs → depth_fields fs ≤ d → Pattern (node at 37 fs)
  unfolding depth
  default_drawn {q = q} at f l =
      let P : Fields → Type 0 = λ fs. depth_fields fs ≤ d → Pattern (node at 37 fs) in
      must_is P f (λ y gs m f. child_is (λ y. P (Fields.field y gs)) m (λ x h.
      must_is (λ gs. P (Fields.field (Piece.one x) gs)) f (λ y gs m f. child_is (λ y. P (Fields.field (Piece.one x) (Fields.field y gs))) m (λ z k.
      ended (λ gs. P (Fields.field (Piece.one x) (Fields.field (Piece.one z) gs))) f
      (λ l. Pattern.default (lower q x (omega arith) h))))))
      l

of_kind : {p at k : ℕ} {fs : Fields} (j : ℕ) → eqb k j ≡ true → Fits input p (node at k fs) → (Fits input p (node at j fs) → Pattern (node at j fs)) → Pattern (node at k fs)
of_kind {p = p} {at = at} {k = k} {fs = fs} j h f a =
    let e : k ≡ j = eqb-true k j h in
    subst (λ (i : ℕ). Pattern (node at i fs)) (sym e) (a (subst (λ (i : ℕ). Fits input p (node at i fs)) e f))

levels_drawn : (d p : ℕ) (n : Node) → depth n ≤ d → Fits input p n → Pattern n
unfolding depth is fields_of kinds variants
levels_drawn zero p (node at k fs) l f = absurd (omega arith)
levels_drawn (suc d) p (node at k fs) l f =
    let n = node at k fs in
    let m : depth_fields fs ≤ d = omega arith in
    by_shape (shape n)
    (λ e. of_kind 34 (object_is n e) f (λ f.
    let g = (fits_good p (node at 34 fs) f).0 in
    by_form f (omega arith) (λ r. object_drawn d (levels_drawn d) at r m g) (λ r. object_drawn d (levels_drawn d) at r m g)))
    (λ e. of_kind 36 (array_is n e) f (λ f. Pattern.array))
    (λ e. of_kind 37 (default_is n e) f (λ f. by_form f (omega arith) (λ r. default_drawn d (levels_drawn d) at r m) (λ r. default_drawn d (levels_drawn d) at r m)))
    (λ e. Pattern.other e)

drawn : {p : ℕ} (n : Node) → Fits input p n → Pattern n
drawn {p = p} n f = levels_drawn (depth n) p n (omega arith) f

-- ---- the keys of a pattern, and their copies

pub key_sounds : (c : Place) (t : Bool) (at : ℕ) (k : Node) → Sounds (emits_key c t at k)
unfolding emits_key
key_sounds c t at k = go (t && is_other k)
  where
    go : (b : Bool) → Sounds (cond b (says_cell 4 at) (emits c k))
    go true = cell_sounds 4 at
    go false = node_sounds c k

pub property_sounds : (c : Place) (t : Bool) (v : View) (q : Node) → Sounds (emits_property c t v q)
unfolding emits_property
property_sounds c t v q = node_sounds c (viewed_property nameless t v q)

-- a property: its head, its key, its value, its flags
property_parts : (c : Place) (t : Bool) (v : View) (at : ℕ) (k x : Node) (b : ℕ) → Once (emits_property c t v (property_at at k x b))
    → Once (emits_key (inner c) t at k) × Once (emits_view (inner c) v x)
property_parts c t v at k x b h =
    let w = once_right (say_sounds (puts (35 ∷ 7 ∷ [])) tt) (subst Once (view_property c t v at k x b) h) in
    (once_left _ w, once_left _ (once_right (key_sounds (inner c) t at k) w))

-- where the properties refuse nothing, neither do the entries of their keys
keys_quiet : (c d : Place) (v : View) → c.root ≡ d.root → {ps : Items} → Properties ps → Once (each_does (emits_property c true v) ps) → Quiet (in_turn (emits_excluded (inner d)) ps)
unfolding each_does in_turn node_at_of piece_in
keys_quiet c d v r Properties.none h = say_quiet [] tt
keys_quiet c d v r (Properties.item {at = at} {b = b} {k = k} {x = x} {qs = qs} p ps) h =
    let q = property_at at k x b in
    let w = (property_parts c true v at k x b (once_left _ h)).0 in
    quiet_then (excluded_has quiets (inner d) q (λ e. once_quiet c d k r (subst Once (key_plain (inner c) at k true e) w)))
    (keys_quiet c d v r ps (once_right (property_sounds c true v q) h))

-- ---- objects with rest

-- where its rest is taken
module _ (c d : Place) (v : View) (t : takes v ≡ true) (same : c.root ≡ d.root) (at : ℕ) {ps : Items} (r : Node) (w : Properties ps) where
  taken_quiet : Once (emits_view c v (object_rest_at at ps r)) → Quiet (in_turn (emits_excluded (inner d)) ps)
  unfolding inner
  taken_quiet h =
      let head = puts (34 ∷ 1 ∷ wide_bytes (count ps)) in
      keys_quiet (inner c) d replacing same w (once_right (say_sounds head tt) (subst Once (view_rest c v t at ps r) h))

not_object : (p : Node) → Leaf p → is 34 p ≡ true → ⊥
unfolding shape is
not_object p l e = go (eqb (kind p) 34) l e
  where
    go : (a : Bool) → cond a object_pattern (cond (eqb (kind p) 36) array_pattern (cond (eqb (kind p) 37) Shape.default leaf)) ≡ leaf → a ≡ true → ⊥
    go true l e = let z : ◌≡◌ {A = ℕ} 0 1 = cc in absurd (omega arith)
    go false l e = false≢true e

-- an object with rest by its parts
data Resting : Node → Type 0 where
  parts : {at : ℕ} {ps : Items} {r : Node} → Properties ps → Leaf r → Resting (object_rest_at at ps r)

resting : {p : Node} → Pattern p → is 34 p ≡ true → has_rest_of p ≡ true → Resting p
unfolding is stands stands_in
resting (Pattern.object w) e h = absurd (false≢true h)
resting (Pattern.object_rest w l) e h = Resting.parts w l
resting Pattern.array e h = absurd (false≢true e)
resting (Pattern.default w) e h = absurd (false≢true e)
resting (Pattern.other {p = p} l) e h = absurd (not_object p l e)

-- its pattern need not be written if it has no properties
value_quiet : (c d : Place) {p : Node} → Resting p → c.root ≡ d.root → (s : Emit) → Quiet s → (is_empty (properties p) ≡ false → Once (emits_view c taking p))
    → (at : ℕ) → Quiet (emits_rest d at (properties p) s)
unfolding items_at_of piece_in
value_quiet c d (Resting.parts {at = i} {ps = ps} {r = r} w l) same s k h at =
    rest_has quiets d at ps s k (λ e. taken_quiet c d taking refl same i r w (h e))

-- ---- declarations

value_sounds : (c : Place) (q : Node) → Sounds (emits_key_value c q)
unfolding emits_key_value
value_sounds c q = go (is_other (key q))
  where
    go : (b : Bool) → Sounds (cond b (say (puts (5 ∷ 3 ∷ [])) ▷ says_cell 4 (position q) ▷ emits (inner c) (key q)) (say []))
    go true = sounds_then (say_sounds (puts (5 ∷ 3 ∷ [])) tt) (sounds_then (cell_sounds 4 (position q)) (node_sounds (inner c) (key q)))
    go false = say_sounds [] tt

pub own_sounds : (c : Place) (p : Node) → Sounds (emits_own_keys c p)
unfolding emits_own_keys
own_sounds c p = go (has_rest_of p)
  where
    go : (b : Bool) → Sounds (cond b (in_turn (emits_key_value c) (properties p)) (say []))
    go true = turn_sounds (emits_key_value c) (value_sounds c) (properties p)
    go false = say_sounds [] tt

-- the pattern is written, unless it has no properties
own_view : (c : Place) (p : Node) (s : Emit) → Once (emits_own_keys c p ▷ emits_own_pattern c p s) → is_empty (properties p) ≡ false → Once (emits_view (inner c) taking p)
own_view c p s h e =
    once_left _ (once_right (say_sounds (puts (5 ∷ 3 ∷ [])) tt) (subst Once (own_pattern_some c p s e) (once_right (own_sounds c p) h)))

-- the same of what a declaration writes for an object
pub own_calm : (c : Place) (place : ℕ) (p : Node) → Fits input place p → is 34 p ≡ true → has_rest_of p ≡ true
    → (s : Emit) → ((k : ℕ) → first_refused (s k) ≡ 0) → (m : ℕ) → first_refused ((emits_own_keys c p ▷ emits_own_pattern c p s) m) ≡ 0
    → (at m' : ℕ) → first_refused (emits_rest (inner c) at (properties p) s m') ≡ 0
own_calm c place p f e h s k m z at m' =
    (value_quiet (inner c) (inner c) (resting (drawn p f) e h) refl s (record { always = k }) (own_view c p s (record { next = m; none = z })) at).always m'

-- ---- the whole target

place_sounds : (v : View) (m : ℕ) (p : Node) → Sounds (hands_nested v m p)
unfolding hands_nested over_replaced hands_place
place_sounds v m p =
    sounds_then (say_sounds (does (Event.entry m (places_in v p)) ∷ []) tt)
    (turn_sounds hands_place (λ o. say_sounds (lists (5 ∷ 1 ∷ []) ++ (does (Event.listed_temporary (cell 1 (position o)) 1) ∷ [])) tt) (replaced_in v p))

-- its view is written in either way
target_view : (c : Place) (p : Node) → Once (emits_target c p) → Once (emits_view (inner c) taking p)
unfolding emits_nest inner
target_view c p h =
    by_test (is_empty (replaced_in taking p))
    (λ e. once_left _ (once_right (say_sounds (puts (27 ∷ 7 ∷ 1 ∷ [])) tt) (subst Once (target_kept c p e) h)))
    (λ e.
    let head = puts (28 ∷ 1 ∷ wide_bytes (suc (places_in taking p))) in
    once_left _ (once_right (say_sounds (puts (27 ∷ 7 ∷ 1 ∷ [])) tt) (once_right (say_sounds head tt) (once_right (place_sounds taking c.mark p) (subst Once (target_nested c p e) h)))))

-- where all that is written for the target of an object with rest refuses nothing, the value of its rest refuses nothing
pub target_value_calm : (c : Place) (place : ℕ) (p : Node) → Fits input place p → is 34 p ≡ true → has_rest_of p ≡ true → (m : ℕ) → first_refused (emits_target c p m) ≡ 0
    → (at : ℕ) (s : Emit) → ((k : ℕ) → first_refused (s k) ≡ 0) → (m' : ℕ) → first_refused (emits_rest (inner c) at (properties p) s m') ≡ 0
target_value_calm c place p f e h m z at s k m' =
    (value_quiet (inner c) (inner c) (resting (drawn p f) e h) refl s (record { always = k }) (λ _. target_view c p (record { next = m; none = z })) at).always m'
