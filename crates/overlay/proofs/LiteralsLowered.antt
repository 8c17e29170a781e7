-- Where the walk comes to a plain literal it leaves the same tree in every context: the literal rule over the properties, themselves
-- lowered.
-- Assumes nothing.
use mathlib.Core.Path.{◌≡◌, refl, sym, ap, ap₂, ◌∙◌}
use mathlib.Core.Bool.{Bool, true, false, cond, ◌||◌}
use mathlib.Core.List.{List}
use Prim.Native.Nat.{ℕ, zero, suc, ◌+◌}
use lib.Dec.{eqb}
use Rattle.tree.specs.Tree.{Node, Fields, Piece, Items}
use Rattle.tree.specs.Tree.Node.{node}
use Rattle.tree.specs.Tree.Fields.{done, absent, field}
use Rattle.tree.specs.Tree.Piece.{one, list, text, byte, mark, number}
use Rattle.tree.specs.Tree.Items.{none, hole, item}
use Rattle.lowering.specs.Parts.{is, piece_in, node_at_of, items_at_of, any, ◌+++◌}
use Rattle.lowering.specs.Made.{Context, S, object, helper}
use Rattle.lowering.specs.Literals.{Call, opened, closed, scan, literal}
use Rattle.lowering.specs.Literals.Call.{no_call, call}
use Rattle.lowering.specs.Walk.{Walked, rule_of, rewrite, within, inside, each_item_of, each_piece, each_field}
use Rattle.lowering.specs.Weight.{walked}
use Rattle.lowering.specs.Collect.{Name, new_in, new_in_piece, bare, bare_fields, bare_piece, bare_items, numbered, numbered_fields, numbered_piece, numbered_items}
use Rattle.lowering.proofs.Falls.{walked_is}
use Rattle.lowering.proofs.ItemLaws.{any_behind}
use Rattle.overlay.specs.Plain.{free, free_fields, free_piece, free_items, is_object, is_foreign, is_new}
use Rattle.overlay.specs.Law.{literal_of}
use Rattle.overlay.specs.Whole.{leaves}
use Rattle.overlay.proofs.LaidOn.{differ}
use Rattle.overlay.proofs.Free.{free_here, free_below}
use Rattle.overlay.proofs.Still.{still}
use Rattle.overlay.proofs.Plainly.{Opaque, Plain, PlainParts, PlainPart, no_part, next_part, spread, property, spread_of, property_of}
use Rattle.lowering.proofs.Cases.{by_test, or_left, or_right, and_left, and_right}

-- ---- the lowering from below: the parts first, and then the rule

unfoldable mutual
  pub lower : Node → Node
  lower (node at k fs) = cond (eqb k 24) (literal (node at k (lower_fields fs))) (node at k (lower_fields fs))

  pub lower_fields : Fields → Fields
  lower_fields done = done
  lower_fields (absent fs) = absent (lower_fields fs)
  lower_fields (field p fs) = field (lower_piece p) (lower_fields fs)

  pub lower_piece : Piece → Piece
  lower_piece (one n) = one (lower n)
  lower_piece (list is) = list (lower_items is)
  lower_piece (text bs) = text bs
  lower_piece (byte b) = byte b
  lower_piece (mark b) = mark b
  lower_piece (number b) = number b

  pub lower_items : Items → Items
  lower_items none = none
  lower_items (hole is) = hole (lower_items is)
  lower_items (item n is) = item (lower n) (lower_items is)

-- what holds no object literal or pattern stays
mutual
  unfolding lower is

  lower_same : (n : Node) → free is_object n ≡ true → lower n ≡ n
  lower_same (node at k fs) b =
      rw (or_left (eqb k 24) _ (free_here is_object (node at k fs) b)) (ap (λ (x : Fields). node at k x) (fields_same fs (free_below is_object at k fs b)))

  fields_same : (fs : Fields) → free_fields is_object fs ≡ true → lower_fields fs ≡ fs
  fields_same done b = refl
  fields_same (absent fs) b = ap absent (fields_same fs b)
  fields_same (field p fs) b = ap₂ field (piece_same p (and_left (free_piece is_object p) (free_fields is_object fs) b)) (fields_same fs (and_right (free_piece is_object p) (free_fields is_object fs) b))

  piece_same : (p : Piece) → free_piece is_object p ≡ true → lower_piece p ≡ p
  piece_same (one n) b = ap one (lower_same n b)
  piece_same (list is) b = ap list (items_same is b)
  piece_same (text bs) b = refl
  piece_same (byte x) b = refl
  piece_same (mark x) b = refl
  piece_same (number x) b = refl

  items_same : (is : Items) → free_items is_object is ≡ true → lower_items is ≡ is
  items_same none b = refl
  items_same (hole is) b = ap hole (items_same is b)
  items_same (item n is) b = ap₂ item (lower_same n (and_left (free is_object n) (free_items is_object is) b)) (items_same is (and_right (free is_object n) (free_items is_object is) b))

pub lower_opaque : {n : Node} → Opaque n → lower n ≡ n
lower_opaque {n} o = lower_same n o.without

-- ---- in every context the walk leaves y where it comes to x, and numbers temporaries by ns

module _ (ns : List Name) where
  abbrev pub Turns : Node → Node → Type 0
  Turns x y = (next : ℕ) (c : Context) → leaves ns next c x ≡ y

  pub data TurnsItems : Items → Items → Type 0 where
    turns_none : TurnsItems none none
    turns_hole : {is js : Items} → TurnsItems is js → TurnsItems (hole is) (hole js)
    turns_item : {x y : Node} {is js : Items} → Turns x y → TurnsItems is js → TurnsItems (item x is) (item y js)

  pub data TurnsPiece : Piece → Piece → Type 0 where
    turns_one : {x y : Node} → Turns x y → TurnsPiece (one x) (one y)
    turns_list : {is js : Items} → TurnsItems is js → TurnsPiece (list is) (list js)
    turns_text : {bs : List ℕ} → TurnsPiece (text bs) (text bs)
    turns_byte : {b : ℕ} → TurnsPiece (byte b) (byte b)
    turns_mark : {m : ℕ} → TurnsPiece (mark (suc m)) (mark (suc m))
    turns_number : {b : ℕ} → TurnsPiece (number b) (number b)

  pub data TurnsFields : Fields → Fields → Type 0 where
    turns_done : TurnsFields done done
    turns_absent : {fs gs : Fields} → TurnsFields fs gs → TurnsFields (absent fs) (absent gs)
    turns_field : {p q : Piece} {fs gs : Fields} → TurnsPiece p q → TurnsFields fs gs → TurnsFields (field p fs) (field q gs)

  pub items_turned : {is js : Items} → TurnsItems is js → (cs : ℕ → Context) (next j : ℕ) → numbered_items ns (bare_items next (each_item_of (λ j m. walked (cs j) m) j is)) ≡ js
  unfolding each_item_of bare numbered leaves
  items_turned turns_none cs next j = refl
  items_turned (turns_hole t) cs next j = ap hole (items_turned t cs next (suc j))
  items_turned (turns_item {x = x} a t) cs next j = ap₂ item (a next (cs j)) (items_turned t cs (next + new_in (walked (cs j) x)) (suc j))

  piece_turned : {p q : Piece} → TurnsPiece p q → (cs : ℕ → Context) (next : ℕ) → numbered_piece ns (bare_piece next (each_piece (λ j m. walked (cs j) m) p)) ≡ q
  unfolding each_piece bare numbered leaves
  piece_turned (turns_one a) cs next = ap one (a next (cs 0))
  piece_turned (turns_list t) cs next = ap list (items_turned t cs next 0)
  piece_turned turns_text cs next = refl
  piece_turned turns_byte cs next = refl
  piece_turned turns_mark cs next = refl
  piece_turned turns_number cs next = refl

  fields_turned : {fs gs : Fields} → TurnsFields fs gs → (cs : ℕ → ℕ → Context) (next i : ℕ) → numbered_fields ns (bare_fields next (each_field (λ i j m. walked (cs i j) m) i fs)) ≡ gs
  unfolding each_field bare numbered
  fields_turned turns_done cs next i = refl
  fields_turned (turns_absent t) cs next i = ap absent (fields_turned t cs next (suc i))
  fields_turned (turns_field {p = p} a t) cs next i = ap₂ field (piece_turned a (cs i) next) (fields_turned t cs (next + new_in_piece (each_piece (λ j m. walked (cs i j) m) p)) (suc i))

  -- what the rewriting leaves, its parts turned
  pub turn : (x : Node) (at k : ℕ) (fs gs : Fields) → ((c : Context) → (rewrite c x).result ≡ node at k fs) → eqb k 20 ≡ false → TurnsFields fs gs → Turns x (node at k gs)
  unfolding leaves inside bare numbered
  turn x at k fs gs r e t next c =
      ap (λ (w : Walked). numbered ns (bare next w)) (walked_is c x
      ∙ ap (λ (n : Node). inside (rewrite c x).note (λ i j m. walked (within c n i j) m) n) (r c))
      ∙ rw e (ap (λ (fs : Fields). node at k fs) (fields_turned t (λ i j. within c (node at k fs) i j) next 0))

  -- ---- what holds no object literal or pattern stays

  foreign_kind : (at k : ℕ) (fs : Fields) → is_foreign (node at k fs) ≡ false → eqb k 20 ≡ false
  foreign_kind at k fs e = or_left (eqb k 20) _ e

  pub foreign_new : (at k : ℕ) (fs : Fields) → is_foreign (node at k fs) ≡ false → is_new fs ≡ false
  foreign_new at k fs e = or_left (is_new fs) _ (or_right (eqb k 21) _ (or_right (eqb k 20) _ e))

  new_rest : (p : Piece) (fs : Fields) → is_new (field p fs) ≡ false → is_new fs ≡ false
  new_rest (one n) fs e = e
  new_rest (list is) fs e = e
  new_rest (text bs) fs e = e
  new_rest (byte b) fs e = e
  new_rest (mark zero) fs e = differ e
  new_rest (mark (suc m)) fs e = e
  new_rest (number b) fs e = e

  mutual
    stays : (n : Node) → free is_object n ≡ true → free is_foreign n ≡ true → Turns n n
    stays (node at k fs) b g =
        let f : is_foreign (node at k fs) ≡ false = free_here is_foreign (node at k fs) g in
        turn (node at k fs) at k fs fs (λ c. still c (node at k fs) b f) (foreign_kind at k fs f)
        (stay_fields fs (free_below is_object at k fs b) (free_below is_foreign at k fs g) (foreign_new at k fs f))

    pub stay_fields : (fs : Fields) → free_fields is_object fs ≡ true → free_fields is_foreign fs ≡ true → is_new fs ≡ false → TurnsFields fs fs
    stay_fields done b g e = turns_done
    stay_fields (absent fs) b g e = turns_absent (stay_fields fs b g e)
    stay_fields (field p fs) b g e =
        turns_field (stay_piece p (and_left (free_piece is_object p) (free_fields is_object fs) b) (and_left (free_piece is_foreign p) (free_fields is_foreign fs) g) fs e)
        (stay_fields fs (and_right (free_piece is_object p) (free_fields is_object fs) b) (and_right (free_piece is_foreign p) (free_fields is_foreign fs) g) (new_rest p fs e))

    stay_piece : (p : Piece) → free_piece is_object p ≡ true → free_piece is_foreign p ≡ true → (fs : Fields) → is_new (field p fs) ≡ false → TurnsPiece p p
    stay_piece (one n) b g fs e = turns_one (stays n b g)
    stay_piece (list is) b g fs e = turns_list (stay_items is b g)
    stay_piece (text bs) b g fs e = turns_text
    stay_piece (byte x) b g fs e = turns_byte
    stay_piece (mark zero) b g fs e = differ e
    stay_piece (mark (suc m)) b g fs e = turns_mark
    stay_piece (number x) b g fs e = turns_number

    stay_items : (is : Items) → free_items is_object is ≡ true → free_items is_foreign is ≡ true → TurnsItems is is
    stay_items none b g = turns_none
    stay_items (hole is) b g = turns_hole (stay_items is b g)
    stay_items (item n is) b g =
        turns_item (stays n (and_left (free is_object n) (free_items is_object is) b) (and_left (free is_foreign n) (free_items is_foreign is) g))
        (stay_items is (and_right (free is_object n) (free_items is_object is) b) (and_right (free is_foreign n) (free_items is_foreign is) g))

  pub opaque_turns : {n : Node} → Opaque n → Turns n n
  opaque_turns {n} o = stays n o.without o.accepted

  -- ---- what the literal rule makes

  helper_turns : (i : ℕ) → Turns (helper i) (helper i)
  unfolding rewrite rule_of
  helper_turns i = turn (helper i) 0 21 (field (byte i) done) (field (byte i) done) (λ c. refl) refl (turns_field turns_byte turns_done)

  -- a call of a helper
  pub call_turns : (i : ℕ) {xs ys : Items} → TurnsItems xs ys → Turns (node 0 29 (field (one (helper i)) (field (list xs) done))) (node 0 29 (field (one (helper i)) (field (list ys) done)))
  unfolding rewrite rule_of
  call_turns i {xs} {ys} t =
      turn (node 0 29 (field (one (helper i)) (field (list xs) done))) 0 29 (field (one (helper i)) (field (list xs) done)) (field (one (helper i)) (field (list ys) done)) (λ c. refl) refl
      (turns_field (turns_one (helper_turns i)) (turns_field (turns_list t) turns_done))

  abbrev is_spread : Node → Bool
  is_spread p = is 26 p

  pub object_turns : {ps qs : Items} → any is_spread ps ≡ false → TurnsItems ps qs → Turns (object ps) (object qs)
  unfolding rewrite rule_of literal items_at_of piece_in
  object_turns {ps} {qs} e t =
      turn (object ps) 0 24 (field (list ps) done) (field (list qs) done) (λ c. rw e refl) refl (turns_field (turns_list t) turns_done)

  append_turns : {is js xs ys : Items} → TurnsItems is js → TurnsItems xs ys → TurnsItems (is +++ xs) (js +++ ys)
  unfolding ◌+++◌
  append_turns turns_none u = u
  append_turns (turns_hole t) u = turns_hole (append_turns t u)
  append_turns (turns_item a t) u = turns_item a (append_turns t u)

  data TurnsCall : Call → Call → Type 0 where
    turns_no_call : TurnsCall no_call no_call
    turns_call : {xs ys : Items} → TurnsItems xs ys → TurnsCall (call (S xs)) (call (S ys))

  data TurnsParts : Items → Items → Type 0 where
    turns_no_part : TurnsParts none none
    turns_spread : {at : ℕ} {n m : Node} {ps qs : Items} → Turns n m → TurnsParts ps qs → TurnsParts (item (spread_of at n) ps) (item (spread_of at m) qs)
    turns_other : {p q : Node} {ps qs : Items} → is 26 p ≡ false → is 26 q ≡ false → Turns p q → TurnsParts ps qs → TurnsParts (item p ps) (item q qs)

  parts_items_lem : {ps qs : Items} → TurnsParts ps qs → any is_spread ps ≡ false → TurnsItems ps qs
  unfolding any is
  parts_items_lem turns_no_part e = turns_none
  parts_items_lem (turns_spread a t) e = differ e
  parts_items_lem (turns_other {p = p} {ps = ps} x y a t) e = turns_item a (parts_items_lem t (or_right (is 26 p) (any is_spread ps) e))

  parts_any : {ps qs : Items} → TurnsParts ps qs → any is_spread qs ≡ any is_spread ps
  unfolding any is
  parts_any turns_no_part = refl
  parts_any (turns_spread a t) = refl
  parts_any (turns_other x y a t) = ap₂ (λ (a b : Bool). a || b) (y ∙ sym x) (parts_any t)

  -- one node, its parts turned
  data Same : Node → Node → Type 0 where
    same : {at k : ℕ} {fs gs : Fields} → eqb k 20 ≡ false → TurnsFields fs gs → Same (node at k fs) (node at k gs)

  turn_same : (x : Node) {y z : Node} → ((c : Context) → (rewrite c x).result ≡ y) → Same y z → Turns x z
  turn_same x r (same {at = at} {k = k} {fs = fs} {gs = gs} e t) = turn x at k fs gs r e t

  opened_turns : {c d : Call} {ps qs : Items} → TurnsCall c d → any is_spread ps ≡ false → TurnsItems ps qs → TurnsItems (opened c ps) (opened d qs)
  unfolding opened any
  opened_turns turns_no_call e t = turns_item (object_turns e t) turns_none
  opened_turns (turns_call u) e turns_none = turns_item (call_turns 1 u) turns_none
  opened_turns (turns_call u) e (turns_hole t) = turns_item (call_turns 1 u) turns_none
  opened_turns (turns_call u) e (turns_item a t) =
      turns_item (call_turns 1 u) (turns_item (object_turns refl turns_none) (turns_item (object_turns e (turns_item a t)) turns_none))

  S-same : {xs ys : Items} → TurnsItems xs ys → Same (S xs) (S ys)
  S-same t = same refl (turns_field (turns_one (helper_turns 1)) (turns_field (turns_list t) turns_done))

  closed_turns : {c d : Call} {ps qs : Items} → TurnsCall c d → any is_spread ps ≡ false → TurnsItems ps qs → Same (closed c ps) (closed d qs)
  unfolding closed
  closed_turns turns_no_call e t = same refl (turns_field (turns_list t) turns_done)
  closed_turns (turns_call u) e turns_none = S-same u
  closed_turns (turns_call u) e (turns_hole t) = S-same u
  closed_turns (turns_call u) e (turns_item a t) = S-same (opened_turns (turns_call u) e (turns_item a t))

  scan_turns : {c d : Call} {pend pend' ps qs : Items} → TurnsCall c d → any is_spread pend ≡ false → TurnsItems pend pend' → TurnsParts ps qs → Same (scan c pend ps) (scan d pend' qs)
  unfolding scan any is node_at_of piece_in
  scan_turns u e t turns_no_part = closed_turns u e t
  scan_turns {c = c} {pend = pend} u e t (turns_spread {n = n} a r) =
      scan_turns {c = call (S (opened c pend +++ item n none))} (turns_call (append_turns (opened_turns u e t) (turns_item a turns_none))) refl turns_none r
  scan_turns {pend = pend} u e t (turns_other {p = p} {q = q} x y a r) =
      rw (x, scan) (rw (y, scan) (scan_turns u (any_behind is_spread pend p e x) (append_turns t (turns_item a turns_none)) r))

  -- ---- plain literals

  literal_turns : (at : ℕ) {ps qs : Items} → TurnsParts ps qs → Turns (literal_of at ps) (literal (literal_of at qs))
  unfolding rewrite rule_of literal items_at_of piece_in any
  literal_turns at {ps} {qs} t =
      by_test (any is_spread ps)
      (λ e. rw (parts_any t ∙ e) (turn_same (literal_of at ps) (λ c. rw e refl) (scan_turns turns_no_call refl turns_none t)))
      (λ e. rw (parts_any t ∙ e) (turn_same (literal_of at ps) (λ c. rw e refl) (same refl (turns_field (turns_list (parts_items_lem t e)) turns_done))))

  property_turns : (at : ℕ) (k v w : Node) (f : ℕ) → Opaque k → Turns v w → Turns (property_of at k v f) (property_of at k w f)
  unfolding rewrite rule_of
  property_turns at k v w f o t =
      turn (property_of at k v f) at 25 (field (one k) (field (one v) (field (byte f) done))) (field (one k) (field (one w) (field (byte f) done))) (λ c. refl) refl
      (turns_field (turns_one (opaque_turns o)) (turns_field (turns_one t) (turns_field turns_byte turns_done)))

  mutual
    unfolding lower is

    pub plain_turns : {n : Node} → Plain n → Turns n (lower n)
    plain_turns (Plain.opaque o) = λ next c. opaque_turns o next c ∙ sym (lower_opaque o)
    plain_turns (Plain.literal {at = at} {ps = ps} r) = literal_turns at (parts_turns r)

    parts_turns : {ps : Items} → PlainParts ps → TurnsParts ps (lower_items ps)
    parts_turns no_part = turns_no_part
    parts_turns (next_part r rs) = part_turns r (parts_turns rs)

    part_turns : {p : Node} {ps qs : Items} → PlainPart p → TurnsParts ps qs → TurnsParts (item p ps) (item (lower p) qs)
    part_turns (spread r) t = turns_spread (plain_turns r) t
    part_turns (property {at = at} {k = k} {v = v} {f = f} m y o r) t =
        turns_other refl refl (λ next c. property_turns at k v (lower v) f o (plain_turns r) next c ∙ ap (λ (x : Node). property_of at x (lower v) f) (sym (lower_opaque o))) t
