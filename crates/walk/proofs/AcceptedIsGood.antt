-- In a tree that was accepted each node is what the emitters ask of it.
-- Assumes nothing.
use mathlib.Core.Path.{◌≡◌, refl, sym, ap, ◌∙◌, subst, fun_ext}
use mathlib.Core.Bool.{Bool, true, false, cond, ◌&&◌, ◌||◌, true≢false}
use mathlib.Core.List.{List, [], ◌∷◌, ◌++◌}
use Prim.Native.Nat.{ℕ, zero, suc, ◌+◌, ◌-◌, ◌*◌, ◌/◌, ◌%◌, ◌<◌, ◌≤◌}
use native.Mathlib.Omega.{arith}
use native.Mathlib.Decide.{dec_lt}
use lib.Dec.{ltb, eqb}
use lib.ListN.{length, get_or, drop, length-drop}
use lib.Seq.{get_or-drop}
use borrow.Author.Tests.{ltb-true, le-ltb, eqb-true, not-true}
use Rattle.tree.specs.Tree.{Node, Fields, Piece, Items, wide_bytes, map_of, encode, encode_fields, encode_piece, marks, marks_fields, marks_piece}
use Rattle.tree.specs.Tree.Node.{node}
use Rattle.tree.specs.Tree.Items.{hole, item}
use Rattle.tree.specs.Grammar.{Sort, Field, kind_of, form_at, kinds, fields_of, map_ok, root, statement, literal}
use Rattle.tree.specs.Grammar.Sort.{child, chosen, many, gaps}
use Rattle.tree.specs.Grammar.Field.{must}
use Rattle.tree.specs.Grammar.Stage.{input}
use Rattle.tree.specs.Read.{Got, mapped, accepted, sort_in, byte_at, wide_at, chosen_place, read_item, read_items, read_list, read_field, read_slot, read_fields, read_node}
use Rattle.tree.specs.Read.Got.{got, refused}
use Rattle.tree.specs.Read.Refusal.{too_deep}
use Rattle.tree.specs.WellFormed.{Bytes, Fits, Counts}
use Rattle.tree.specs.Look.{look_fields, Seen, seen, seen_as, onward, quiet_at, look_item, look_items, look_field, look_slot, look_node}
use Rattle.tree.proofs.Within.{there, wide_there, map_byte}
use Rattle.tree.proofs.HoldsOfRead.{Holds, holds, of_mapped, of_accepted, of_joined, weaker}
use Rattle.tree.proofs.Sound.{Stands, SoundNode, SoundPiece, one_byte, two_bytes, field_sound, node_sound, bytes_at}
use Rattle.tree.proofs.Look.{layout, layouts, form_alike, kind_at, on_fits, on_byte, on_wide, slot_alike}
use Rattle.tree.specs.Note.{Note, loud, note_of, notes_of, notes_fields, notes_piece, notes_items}
use Rattle.tree.proofs.Laid.{All, all_left, all_right, all_map, all_join, Between}
use Rattle.tree.proofs.NotesKnown.{Noted}
use Rattle.tree.proofs.EndsTold.{Known, node_looks, field_looks, accepted_stands, fields_stand}
use Rattle.lowering.specs.Parts.{piece_in}
use Rattle.lowering.specs.Collect.{is_container, marked}
use Rattle.lowering.proofs.Cases.{by_test, and_left, and_right, or_other}
use Rattle.lowering.proofs.Quiet.{quiet_simple}
use Rattle.lowering.proofs.Accepted as lowering
use Rattle.lowering.proofs.Accepted.{Proper, NodeGood}
use Rattle.lowering.proofs.Accepted.Proper.{proper}
use Rattle.lowering.proofs.Simple.{positive}
use Rattle.pattern.proofs.KeyCases.{items_count}
use Rattle.sink.specs.Machine.{part}
use Rattle.direct.specs.Events.{Place, Emit, emits}
use Rattle.direct.specs.Emit.{marking, mark_here, as_mark, start_mark, emits_statement, emits_item}
use Rattle.direct.proofs.SimpleCopied.{emits_copied}
use Rattle.direct.proofs.StatementMarks.{emits_statement_lem}
use Rattle.direct.proofs.HeadShapes.{form_is, statement_fits, statement_24, statement_27, literal_anywhere}
use Rattle.walk.specs.Whole.{Leaf, hole_at, GoodItem, GoodItems, GoodList, GoodField, GoodSlot, GoodFields, Good}
use Rattle.walk.proofs.CutBytes.{read_self, part_cut}

-- ---- what two readings say of one thing, and the next mark

both_hold : {A : Type 0} (P Q : A → ℕ → ℕ → Type 0) (g : Got A) → Holds P g → Holds Q g → Holds (λ a q j. P a q j × Q a q j) g
both_hold P Q (got a q j) x y = (x, y)
both_hold P Q (refused n) x y = tt

counts_up : (k : ℕ) (ms : List ℕ) (j : ℕ) → Counts k ms j → k ≤ j
unfolding Counts
counts_up k [] j c = omega (arith, c)
counts_up k (m ∷ ms) j c = omega (arith, counts_up (k + 1) ms j c.1)

mark_positive : (k : ℕ) (x : Piece) (j : ℕ) → 0 < k → Counts k (marks_piece x) j → (m : ℕ) → x ≡ Piece.mark m → 0 < m
unfolding marks_piece Counts
mark_positive k x j pos c m e = let f : Counts k (m ∷ []) j = subst (λ (y : Piece). Counts k (marks_piece y) j) e c in omega (arith, f.0)

-- of a thing that was read: X, it ends where the look says, and the next mark is not 0
record Passed (X : Type 0) (s q j : ℕ) : Type 0 where
  held : X
  ends : s ≡ q
  positive : 0 < j

abbrev Past : {A : Type 0} → Type 0 → ℕ → A → ℕ → ℕ → Type 0
Past X s a q j = Passed X s q j

-- ---- the lists of a container hold statements or literals

stated : ℕ → Bool
stated p = eqb p statement || eqb p literal

stated_in : Sort → Bool
unfolding stated
stated_in (child p) = true
stated_in (chosen p q) = true
stated_in (many p) = stated p
stated_in (gaps p) = stated p
stated_in Sort.text = true
stated_in (Sort.byte low high) = true
stated_in Sort.mark = true
stated_in Sort.number = true

all_stated : List Field → Bool
unfolding stated_in
all_stated [] = true
all_stated (f ∷ fs) = stated_in (sort_in f) && all_stated fs

-- a kind above the patterns has one form, itself
late_low : (i : ℕ) → get_or (14 ∷ 14 ∷ 34 ∷ 35 ∷ 36 ∷ 37 ∷ []) i 0 ≤ 37
late_low zero = omega arith
late_low (suc zero) = omega arith
late_low (suc (suc zero)) = omega arith
late_low (suc (suc (suc zero))) = omega arith
late_low (suc (suc (suc (suc zero)))) = omega arith
late_low (suc (suc (suc (suc (suc zero))))) = omega arith
late_low (suc (suc (suc (suc (suc (suc i)))))) = omega arith

later_form : (f k : ℕ) → kind_of f ≡ k → 37 < k → f ≡ k
unfolding kind_of
later_form f k e h = elim (dec_lt f 64) [
  | yes l ↦ sym (lowering.early f l) ∙ e
  | no l ↦
      let z : get_or (14 ∷ 14 ∷ 34 ∷ 35 ∷ 36 ∷ 37 ∷ []) (f - 64) 0 ≡ k = rw (le-ltb f 64 (omega arith)) at e in
      absurd (omega (arith, late_low (f - 64)))
]

container_stated : (f : ℕ) → is_container (kind_of f) ≡ true → all_stated (fields_of f) ≡ true
unfolding is_container all_stated stated_in stated fields_of kinds
container_stated f h =
    let k : ℕ = kind_of f in
    let at : (m : ℕ) → f ≡ m → all_stated (fields_of m) ≡ true → all_stated (fields_of f) ≡ true = λ m e t. subst (λ (x : ℕ). all_stated (fields_of x) ≡ true) (sym e) t in
    let is : (m : ℕ) → eqb k m ≡ true → k ≡ m = λ m e. eqb-true k m e in
    by_test (eqb k 1 || eqb k 2 || eqb k 16 || eqb k 42)
    (λ d.
    by_test (eqb k 1 || eqb k 2 || eqb k 16)
    (λ b.
    by_test (eqb k 1 || eqb k 2)
    (λ e.
    by_test (eqb k 1)
    (λ a. at 1 (form_is f 1 (is 1 a) (omega arith) (omega arith) (λ z. omega arith)) refl)
    (λ a. at 2 (form_is f 2 (is 2 (or_other (eqb k 1) (eqb k 2) a e)) (omega arith) (omega arith) (λ z. omega arith)) refl))
    (λ e. at 16 (form_is f 16 (is 16 (or_other (eqb k 1 || eqb k 2) (eqb k 16) e b)) (omega arith) (omega arith) (λ z. omega arith)) refl))
    (λ b. at 42 (later_form f 42 (is 42 (or_other (eqb k 1 || eqb k 2 || eqb k 16) (eqb k 42) b d)) (omega arith)) refl))
    (λ d. at 44 (later_form f 44 (is 44 (or_other (eqb k 1 || eqb k 2 || eqb k 16 || eqb k 42) (eqb k 44) d h)) (omega arith)) refl)

-- ---- heads

-- a Spread has its argument
first_bit : (m : ℕ) → map_ok (must (child 3) ∷ []) m ≡ true → m % 2 ≡ 1
unfolding map_ok
first_bit m = go (m % 2) refl
  where
    go : (b : ℕ) → m % 2 ≡ b → cond (eqb b 0) false (eqb (m / 2) 0) ≡ true → b ≡ 1
    go zero e h = absurd (true≢false (sym h))
    go (suc b) e h = omega arith

spread_arg : (p k m : ℕ) → 0 < form_at input p k → map_ok (fields_of (form_at input p k)) m ≡ true → eqb k 26 ≡ true → m % 2 ≡ 1
unfolding fields_of kinds
spread_arg p k m h ok e =
    let f : ℕ = form_at input p k in
    let s : f ≡ 26 = form_is f 26 (kind_at input p k h ∙ eqb-true k 26 e) (omega arith) (omega arith) (λ z. omega arith) in
    first_bit m (subst (λ (x : ℕ). map_ok (fields_of x) m ≡ true) s ok)

-- neither a Temporary nor a Helper stands in input
no_temporary : {at k : ℕ} {fs : Fields} → Proper (node at k fs) → eqb k 20 ≡ false
no_temporary (proper a b c t u f) = t

no_helper : {at k : ℕ} {fs : Fields} → Proper (node at k fs) → eqb k 21 ≡ false
no_helper (proper a b c t u f) = u

-- ---- marks

statement_is : (c : Place) (n : Node) → 0 < start_mark n → emits_statement c n ≡ emits (marking c (start_mark n)) n
unfolding emits_statement
statement_is c n h = fun_ext (λ next. ap (λ (x : ℕ). emits (marking c x) n next) (positive next (start_mark n) h))

module _ (l : List ℕ) where
  -- bytes that stand in l from `at` on
  stands_part : (at q : ℕ) (bs : List ℕ) → Stands l at q bs → part at q l ≡ bs
  stands_part at q bs s = ap (λ (x : ℕ). part at x l) s.end ∙ part_cut l at bs (drop q l) s.cut

  -- the 16-bit number behind the first two bytes
  wide_behind : (at a b m : ℕ) (zs : List ℕ) → drop at l ≡ a ∷ b ∷ m % 256 ∷ m / 256 ∷ zs → wide_at l (onward l at 2) ≡ m
  unfolding wide_at byte_at
  wide_behind at a b m zs e =
      let n : length l - at ≡ length (a ∷ b ∷ m % 256 ∷ m / 256 ∷ zs) = sym (length-drop at l) ∙ ap length e in
      let s : length (a ∷ b ∷ m % 256 ∷ m / 256 ∷ zs) ≡ suc (suc (suc (suc (length zs)))) = refl in
      let o : onward l at 2 ≡ at + 2 = on_fits l at 2 (omega arith) in
      let x : get_or l (at + 2) 256 ≡ m % 256 = sym (get_or-drop at l 2 256) ∙ ap (λ (xs : List ℕ). get_or xs 2 256) e in
      let y : get_or l (at + 3) 256 ≡ m / 256 = sym (get_or-drop at l 3 256) ∙ ap (λ (xs : List ℕ). get_or xs 3 256) e in
      let z : at + 2 + 1 ≡ at + 3 = omega arith in
      ap (λ (i : ℕ). get_or l i 256 + 256 * get_or l (i + 1) 256) o
      ∙ ap (λ (i : ℕ). get_or l (at + 2) 256 + 256 * get_or l i 256) z
      ∙ ap (λ (v : ℕ). v + 256 * get_or l (at + 3) 256) x
      ∙ ap (λ (v : ℕ). m % 256 + 256 * v) y
      ∙ (omega arith)

  -- a statement begins with its mark
  record Starts (n : Node) (at k : ℕ) : Type 0 where
    behind : start_mark n ≡ wide_at l (onward l at 2)
    first : start_mark n ≡ k

  starts_with : (at kd m k q j : ℕ) (fs more : Fields) (x : ℕ) → fs ≡ Fields.field (Piece.mark m) more → Stands l at q (encode (node x kd fs)) → Counts k (marks (node x kd fs)) j → Starts (node x kd fs) at k
  unfolding start_mark piece_in encode encode_fields encode_piece marks marks_fields marks_piece Counts
  starts_with at kd m k q j fs more x e s c =
      let w : start_mark (node x kd fs) ≡ m = ap (λ (gs : Fields). as_mark (piece_in gs 0)) e in
      let cut : drop at l ≡ kd ∷ map_of fs ∷ m % 256 ∷ m / 256 ∷ encode_fields more ++ drop q l = s.cut ∙ ap (λ (gs : Fields). kd ∷ map_of fs ∷ encode_fields gs ++ drop q l) e in
      let f : Counts k (m ∷ marks_fields more) j = subst (λ (gs : Fields). Counts k (marks_fields gs) j) e c in
      record { behind = w ∙ sym (wide_behind at kd (map_of fs) m (encode_fields more ++ drop q l) cut); first = w ∙ f.0 }

  statement_starts : (d at k : ℕ) (n : Node) (q j : ℕ) → SoundNode l input d statement at k n q j → Starts n at k
  statement_starts d at k (node x kd fs) q j s =
      let m = statement_fits s.fits in
      starts_with at kd m.mark k q j fs m.more x m.fields s.part.stands s.part.marked

  -- what an item of a container does
  begins : (d p at k : ℕ) (n : Node) (q j : ℕ) → stated p ≡ true → 0 < k → SoundNode l input d p at k n q j → (c : Place) → emits_item true c n ≡ emits (marking c (wide_at l (onward l at 2))) n
  unfolding stated emits_item
  begins d p at k n q j t pos s c =
      by_test (eqb p statement)
      (λ e.
      let u : SoundNode l input d statement at k n q j = subst (λ (x : ℕ). SoundNode l input d x at k n q j) (eqb-true p statement e) s in
      let m : Starts n at k = statement_starts d at k n q j u in
      let h : 0 < start_mark n = omega (arith, m.first) in
      emits_statement_lem c n (statement_24 n u.fits) (statement_27 n u.fits) ∙ statement_is c n h ∙ ap (λ (x : ℕ). emits (marking c x) n) m.behind)
      (λ e.
      let u : Fits input literal n = subst (λ (x : ℕ). Fits input x n) (eqb-true p literal (or_other (eqb p statement) (eqb p literal) e t)) s.fits in
      fun_ext (λ next. ap (λ (f : Emit). f next) (literal_anywhere (marking c (marked next (mark_here c n))) (marking c (wide_at l (onward l at 2))) n u)))

  -- ---- lists of fields that are laid out alike ask the same

  module _ (R : ℕ → Seen Node) (G : ℕ → Type 0) (t : Bool) where
    by_layout_of : ℕ → ℕ → Type 0
    by_layout_of zero at = G at
    by_layout_of (suc zero) at = GoodList l R G t false at
    by_layout_of (suc (suc zero)) at = GoodList l R G t true at
    by_layout_of (suc (suc (suc zero))) at = GoodField l R G t Sort.text at
    by_layout_of (suc (suc (suc (suc zero)))) at = GoodField l R G t (Sort.byte 0 0) at
    by_layout_of (suc (suc (suc (suc (suc zero))))) at = GoodField l R G t Sort.mark at
    by_layout_of (suc (suc (suc (suc (suc (suc n)))))) at = GoodField l R G t Sort.number at

    field_layout : (s : Sort) (at : ℕ) → GoodField l R G t s at ≡ by_layout_of (layout s) at
    unfolding GoodField by_layout_of look_field
    field_layout (child p) at = refl
    field_layout (chosen p q) at = refl
    field_layout (many p) at = refl
    field_layout (gaps p) at = refl
    field_layout Sort.text at = refl
    field_layout (Sort.byte low high) at = refl
    field_layout Sort.mark at = refl
    field_layout Sort.number at = refl

    slot_as : (s u : Sort) (bit at : ℕ) → layout s ≡ layout u → GoodSlot l R G t s bit at → GoodSlot l R G t u bit at
    unfolding GoodSlot
    slot_as s u zero at e g = tt
    slot_as s u (suc bit) at e g = subst (λ (X : Type 0). X) (field_layout s at ∙ ap (λ (n : ℕ). by_layout_of n at) e ∙ sym (field_layout u at)) g

    fields_as : (fs gs : List Field) (m at : ℕ) → layouts fs ≡ layouts gs → GoodFields l R G t fs m at → GoodFields l R G t gs m at
    unfolding GoodFields
    fields_as [] [] m at e g = tt
    fields_as [] (u ∷ gs) m at e g = let z : ◌≡◌ {A = ℕ} 0 1 = cc in absurd (omega arith)
    fields_as (f ∷ fs) [] m at e g = let z : ◌≡◌ {A = ℕ} 0 1 = cc in absurd (omega arith)
    fields_as (f ∷ fs) (u ∷ gs) m at e g =
        let s : layout (sort_in f) ≡ layout (sort_in u) = cc in
        let next : (look_slot l R (sort_in f) (m % 2) at).next ≡ (look_slot l R (sort_in u) (m % 2) at).next = ap (λ (x : Seen (Fields → Fields)). x.next) (slot_alike l R (sort_in f) (sort_in u) (m % 2) at s) in
        let rest : GoodFields l R G t gs (m / 2) (look_slot l R (sort_in f) (m % 2) at).next = fields_as fs gs (m / 2) (look_slot l R (sort_in f) (m % 2) at).next (cc) g.1 in
        (slot_as (sort_in f) (sort_in u) (m % 2) at s g.0, subst (λ (q : ℕ). GoodFields l R G t gs (m / 2) q) next rest)

-- ---- what is known of a node that was read

-- its notes are known, and it ends within the tree
abbrev pub Fine : List ℕ → Note → Type 0
Fine l x = Known l x × (x.end ≤ 16384)

module _ (l : List ℕ) (bytes : (i : ℕ) → i < length l → byte_at l i < 256) where
  abbrev Tell : List Note → Type 0
  Tell ws = All (Fine l) ws

  known : (ws : List Note) → Tell ws → All (Known l) ws
  known ws a = all_map (Fine l) (Known l) (λ x v. v.0) ws a

  -- of a thing that was read: the next mark is not 0; if its notes are told, X, and it ends where the look says
  record Told (X : Type 0) (s : ℕ) (ws : List Note) (q j : ℕ) : Type 0 where
    positive : 0 < j
    then : Tell ws → X × (s ≡ q)

  -- of what is added to the rest: if the notes from it on are told, so are those of the rest
  record ItemTold (X : Type 0) (s : ℕ) (add : Items → Items) (q j : ℕ) : Type 0 where
    positive : 0 < j
    then : (is : Items) → Tell (notes_items (add is)) → X × (s ≡ q) × Tell (notes_items is)

  record SlotTold (X : Type 0) (s : ℕ) (add : Fields → Fields) (q j : ℕ) : Type 0 where
    positive : 0 < j
    then : (gs : Fields) → Tell (notes_fields (add gs)) → X × (s ≡ q) × Tell (notes_fields gs)

  record ReadNode (d p at k : ℕ) (n : Node) (q j : ℕ) : Type 0 where
    sound : SoundNode l input d p at k n q j
    looks : Tell (notes_of n) → look_node l d at ≡ seen n q
    good : Tell (notes_of n) → Good l d at

  module _ (d : ℕ) (below : (p at k : ℕ) → 0 < k → Holds (ReadNode d p at k) (read_node l input d p at k)) where
    abbrev R : ℕ → Seen Node
    R q = look_node l d q

    abbrev G : ℕ → Type 0
    G q = Good l d q

    abbrev r : ℕ → ℕ → ℕ → Got Node
    r p q j = read_node l input d p q j

    node_past : (p at k : ℕ) (n : Node) (q j : ℕ) → 0 < k → ReadNode d p at k n q j → Told (G at) (R at).next (notes_of n) q j
    node_past p at k n q j pos w =
        record { positive = omega (arith, counts_up k (marks n) j w.sound.part.marked); then = λ a. (w.good a, ap (λ (s : Seen Node). s.next) (w.looks a)) }

    -- ---- lists

    module _ (t : Bool) (p : ℕ) (c : t ≡ true → stated p ≡ true) where
      node_item : (h : Bool) (at k : ℕ) → 0 < k → hole_at l h at ≡ false → Holds {A = Items → Items} (ItemTold (GoodItem l R G t h at) (R at).next) (mapped (λ n is. item n is) (r p at k))
      unfolding notes_items
      node_item h at k pos e =
          of_mapped {B = Items → Items} (ItemTold (GoodItem l R G t h at) (R at).next) (λ n is. item n is) (r p at k)
          (weaker (ReadNode d p at k) _ (r p at k)
          (λ n q j w.
          let v = node_past p at k n q j pos w in
          record {
            positive = v.positive;
            then = λ is a.
                let b : Tell (notes_of n) = all_left (Fine l) (notes_of n) (notes_items is) a in
                let value : n ≡ (R at).value = sym (ap (λ (s : Seen Node). s.value) (w.looks b)) in (
                  record {
                    hole = λ z. absurd (true≢false (sym z ∙ e));
                    node = λ z. (v.then b).0;
                    begins = λ z y x. subst (λ (m : Node). emits_item true x m ≡ emits (marking x (wide_at l (onward l at 2))) m) value (begins l d p at k n q j (c y) pos w.sound x);
                  },
                  (v.then b).1,
                  all_right (Fine l) (notes_of n) (notes_items is) a,
                );
          })
          (below p at k pos))

      item_good : (h : Bool) (at k : ℕ) → 0 < k → Holds {A = Items → Items} (ItemTold (GoodItem l R G t h at) (look_item l R h at).next) (read_item l (r p) h at k)
      unfolding read_item look_item hole_at notes_items
      item_good true at k pos = go (eqb (byte_at l at) 0) refl
        where
          go : (b : Bool) → eqb (byte_at l at) 0 ≡ b → Holds {A = Items → Items} (ItemTold (GoodItem l R G t true at) (cond b (seen hole (onward l at 1)) (seen_as (λ n is. item n is) (R at))).next) (cond b (got hole (at + 1) k) (mapped (λ n is. item n is) (r p at k)))
          go true e =
              let v : byte_at l at ≡ 0 = eqb-true (byte_at l at) 0 e in
              let o : onward l at 1 ≡ at + 1 = on_byte l at (omega arith) in
              let s : part at (at + 1) l ≡ 0 ∷ [] = stands_part l at (at + 1) (byte_at l at ∷ []) (one_byte l at (omega arith)) ∙ ap (λ (x : ℕ). x ∷ []) v in
              record {
                positive = pos;
                then = λ is a. (
                  record {
                    hole = λ z. ap (λ (x : ℕ). part at x l) o ∙ s;
                    node = λ z. absurd (true≢false (sym e ∙ z));
                    begins = λ z. absurd (true≢false (sym e ∙ z));
                  },
                  o,
                  a,
                );
              }
          go false e = node_item true at k pos e
      item_good false at k pos = node_item false at k pos refl

      abbrev ItemsTold : Type 0 → ℕ → Items → ℕ → ℕ → Type 0
      ItemsTold X s is q j = Told X s (notes_items is) q j

      items_good : (h : Bool) (n at k : ℕ) → 0 < k → Holds (ItemsTold (GoodItems l R G t h n at) (look_items l R h n at).next) (read_items l (r p) h n at k)
      unfolding read_items look_items GoodItems
      items_good h zero at k pos = record { positive = pos; then = λ _. (tt, refl) }
      items_good h (suc n) at k pos =
          let X : Type 0 = GoodItem l R G t h at × GoodItems l R G t h n (look_item l R h at).next in
          let s : ℕ = (look_items l R h n (look_item l R h at).next).next in
          of_joined (ItemsTold X s) (λ add is. add is) (read_item l (r p) h at k) (λ q j. read_items l (r p) h n q j)
          (weaker {A = Items → Items} (ItemTold (GoodItem l R G t h at) (look_item l R h at).next) _ (read_item l (r p) h at k)
          (λ add q j w.
          weaker (ItemsTold (GoodItems l R G t h n q) (look_items l R h n q).next) _ (read_items l (r p) h n q j)
          (λ is z i v.
          record {
            positive = v.positive;
            then = λ a.
                let x : GoodItem l R G t h at × ((look_item l R h at).next ≡ q) × Tell (notes_items is) = w.then is a in
                let y : GoodItems l R G t h n q × ((look_items l R h n q).next ≡ z) = v.then x.2 in
                ((x.0, subst (λ (u : ℕ). GoodItems l R G t h n u) (sym x.1) y.0), ap (λ (u : ℕ). (look_items l R h n u).next) x.1 ∙ y.1);
          })
          (items_good h n q j w.positive))
          (item_good h at k pos))

      list_good : (h : Bool) (at k : ℕ) → 0 < k → Holds (ItemsTold (GoodList l R G t h at) (look_items l R h (wide_at l at) (onward l at 2)).next) (read_list l (r p) h at k)
      unfolding read_list
      list_good h at k pos =
          let s : ℕ = (look_items l R h (wide_at l at) (onward l at 2)).next in
          of_accepted (ItemsTold (GoodList l R G t h at) s) (ltb (wide_at l at) 65536) (read_items l (r p) h (wide_at l at) (at + 2) k) λ u.
          let w : wide_at l at < 65536 = ltb-true (wide_at l at) 65536 u in
          let o : onward l at 2 ≡ at + 2 = on_wide l at (wide_there l at w) in
          weaker (ItemsTold (GoodItems l R G t h (wide_at l at) (at + 2)) (look_items l R h (wide_at l at) (at + 2)).next) _ (read_items l (r p) h (wide_at l at) (at + 2) k)
          (λ is q j v.
          record {
            positive = v.positive;
            then = λ a. (
              record {
                head =
                    ap (λ (x : ℕ). part at x l) o ∙ stands_part l at (at + 2) (wide_bytes (wide_at l at)) (two_bytes l bytes at w)
                    ∙ ap (λ (x : ℕ). wide_bytes x) (sym (items_count l d h (wide_at l at) (onward l at 2)));
                small = w;
                items = subst (λ (x : ℕ). GoodItems l R G t h (wide_at l at) x) (sym o) (v.then a).0;
              },
              ap (λ (x : ℕ). (look_items l R h (wide_at l at) x).next) o ∙ (v.then a).1,
            );
          })
          (items_good h (wide_at l at) (at + 2) k pos)

    -- ---- fields

    abbrev PieceTold : Type 0 → ℕ → Piece → ℕ → ℕ → Type 0
    PieceTold X s x q j = Told X s (notes_piece x) q j

    sounds : (p at k : ℕ) → Holds (SoundNode l input d p at k) (r p at k)
    sounds p at k = node_sound l input bytes d p at k

    leaf_good : (s : Sort) (at k : ℕ) → 0 < k → Holds (PieceTold (Leaf l at (look_field l R s at).next (look_field l R s at).value) (look_field l R s at).next) (read_field l input r s at k)
    leaf_good s at k pos =
        let b : ℕ = byte_at l (at - 1) in
        let P : Piece → ℕ → ℕ → Type 0 = SoundPiece l input d b s at k in
        let Q : Piece → ℕ → ℕ → Type 0 = λ x q j. All (Known l) (notes_piece x) → look_field l R s at ≡ seen x q in
        weaker (λ x q j. P x q j × Q x q j) _ (read_field l input r s at k)
        (λ x q j w.
        let c : Counts k (marks_piece x) j = w.0.part.marked in
        let leaf : Leaf l at q x = record { bytes = stands_part l at q (encode_piece x) w.0.part.stands; positive = mark_positive k x j pos c } in
        record {
          positive = omega (arith, counts_up k (marks_piece x) j c);
          then = λ a.
              let e : look_field l R s at ≡ seen x q = w.1 (known (notes_piece x) a) in
              (subst (λ (y : Seen Piece). Leaf l at y.next y.value) (sym e) leaf, ap (λ (y : Seen Piece). y.next) e);
        })
        (both_hold P Q (read_field l input r s at k) (field_sound l input d bytes r sounds s b at k (λ z. refl)) (field_looks l input R r (λ p' q j. node_looks l input bytes d p' q j) s at k))

    one_good : (p at k : ℕ) → 0 < k → Holds (PieceTold (G at) (R at).next) (mapped Piece.one (r p at k))
    unfolding notes_piece
    one_good p at k pos =
        of_mapped (PieceTold (G at) (R at).next) Piece.one (r p at k)
        (weaker (ReadNode d p at k) _ (r p at k) (λ n q j w. node_past p at k n q j pos w) (below p at k pos))

    module _ (t : Bool) where
      field_good : (s : Sort) (at k : ℕ) → (t ≡ true → stated_in s ≡ true) → 0 < k → Holds (PieceTold (GoodField l R G t s at) (look_field l R s at).next) (read_field l input r s at k)
      unfolding read_field look_field GoodField stated_in notes_piece
      field_good (child p) at k c pos = one_good p at k pos
      field_good (chosen p q) at k c pos = one_good (chosen_place l p q at) at k pos
      field_good (many p) at k c pos =
          of_mapped (PieceTold (GoodList l R G t false at) (look_items l R false (wide_at l at) (onward l at 2)).next) Piece.list (read_list l (r p) false at k) (list_good t p c false at k pos)
      field_good (gaps p) at k c pos =
          of_mapped (PieceTold (GoodList l R G t true at) (look_items l R true (wide_at l at) (onward l at 2)).next) Piece.list (read_list l (r p) true at k) (list_good t p c true at k pos)
      field_good Sort.text at k c pos = leaf_good Sort.text at k pos
      field_good (Sort.byte low high) at k c pos = leaf_good (Sort.byte low high) at k pos
      field_good Sort.mark at k c pos = leaf_good Sort.mark at k pos
      field_good Sort.number at k c pos = leaf_good Sort.number at k pos

      slot_good : (s : Sort) (bit at k : ℕ) → (t ≡ true → stated_in s ≡ true) → 0 < k → Holds {A = Fields → Fields} (SlotTold (GoodSlot l R G t s bit at) (look_slot l R s bit at).next) (read_slot l input r s bit at k)
      unfolding read_slot look_slot GoodSlot notes_fields
      slot_good s zero at k c pos = record { positive = pos; then = λ gs a. (tt, refl, a) }
      slot_good s (suc bit) at k c pos =
          of_mapped {B = Fields → Fields} (SlotTold (GoodField l R G t s at) (look_field l R s at).next) (λ p fs. Fields.field p fs) (read_field l input r s at k)
          (weaker (PieceTold (GoodField l R G t s at) (look_field l R s at).next) _ (read_field l input r s at k)
          (λ x q j v. record {
            positive = v.positive;
            then = λ gs a.
                let y : GoodField l R G t s at × ((look_field l R s at).next ≡ q) = v.then (all_left (Fine l) (notes_piece x) (notes_fields gs) a) in
                (y.0, y.1, all_right (Fine l) (notes_piece x) (notes_fields gs) a);
          })
          (field_good s at k c pos))

      fields_good : (fs : List Field) (m at k : ℕ) → (t ≡ true → all_stated fs ≡ true) → 0 < k → Holds (λ gs q j. Tell (notes_fields gs) → GoodFields l R G t fs m at) (read_fields l input r fs m at k)
      unfolding read_fields GoodFields all_stated
      fields_good [] m at k c pos = λ _. tt
      fields_good (f ∷ fs) m at k c pos =
          let s : Sort = sort_in f in
          let X : Type 0 = GoodSlot l R G t s (m % 2) at × GoodFields l R G t fs (m / 2) (look_slot l R s (m % 2) at).next in
          of_joined (λ gs q j. Tell (notes_fields gs) → X) (λ add gs. add gs) (read_slot l input r s (m % 2) at k) (λ q j. read_fields l input r fs (m / 2) q j)
          (weaker {A = Fields → Fields} (SlotTold (GoodSlot l R G t s (m % 2) at) (look_slot l R s (m % 2) at).next) _ (read_slot l input r s (m % 2) at k)
          (λ add q j w.
          weaker (λ gs z i. Tell (notes_fields gs) → GoodFields l R G t fs (m / 2) q) _ (read_fields l input r fs (m / 2) q j)
          (λ gs z i v a.
          let x : GoodSlot l R G t s (m % 2) at × ((look_slot l R s (m % 2) at).next ≡ q) × Tell (notes_fields gs) = w.then gs a in
          (x.0, subst (λ (y : ℕ). GoodFields l R G t fs (m / 2) y) (sym x.1) (v x.2)))
          (fields_good fs (m / 2) q j (λ e. and_right (stated_in s) (all_stated fs) (c e)) w.positive))
          (slot_good s (m % 2) at k (λ e. and_left (stated_in s) (all_stated fs) (c e)) pos))

    -- ---- a node

    -- what its form says of it, and its fields by the form
    record Inside (p at : ℕ) (ws : List Note) : Type 0 where
      form : 0 < form_at input p (byte_at l at)
      map : map_ok (fields_of (form_at input p (byte_at l at))) (byte_at l (at + 1)) ≡ true
      fields : Tell ws → GoodFields l R G (is_container (byte_at l at)) (fields_of (form_at input p (byte_at l at))) (byte_at l (at + 1)) (at + 2)

    inside : (p at k : ℕ) → 0 < k → Holds (λ n q j. Inside p at (notes_of n)) (read_node l input (suc d) p at k)
    unfolding read_node notes_of
    inside p at k pos =
        let b : ℕ = byte_at l at in
        let f : ℕ = form_at input p b in
        let m : ℕ = byte_at l (at + 1) in
        let g : Got Fields = read_fields l input r (fields_of f) m (at + 2) k in
        let P : Node → ℕ → ℕ → Type 0 = λ n q j. Inside p at (notes_of n) in
        of_accepted P (ltb 0 f) (accepted (map_ok (fields_of f) m) (mapped (node at b) g)) λ t.
        let h : 0 < f = ltb-true 0 f t in
        of_accepted P (map_ok (fields_of f) m) (mapped (node at b) g) λ u.
        of_mapped P (node at b) g
        (weaker (λ gs q j. Tell (notes_fields gs) → GoodFields l R G (is_container b) (fields_of f) m (at + 2)) _ g
        (λ gs q j v. record { form = h; map = u; fields = λ a. v (all_left (Fine l) (notes_fields gs) (note_of (node at b gs) ∷ []) a) })
        (fields_good (is_container b) (fields_of f) m (at + 2) k (λ e. container_stated f (subst (λ (x : ℕ). is_container x ≡ true) (sym (kind_at input p b h)) e)) pos))

    kind_below : (p at : ℕ) → 0 < form_at input p (byte_at l at) → layouts (fields_of (form_at input p (byte_at l at))) ≡ layouts (fields_of (byte_at l at))
    kind_below p at h = form_alike (form_at input p (byte_at l at)) ∙ ap (λ (x : ℕ). layouts (fields_of x)) (kind_at input p (byte_at l at) h)

    -- its own note is the last
    own_end : (n : Node) → Tell (notes_of n) → (note_of n).end ≤ 16384
    unfolding notes_of
    own_end (node at b gs) a = (all_right (Fine l) (notes_fields gs) (note_of (node at b gs) ∷ []) a).0.1

    own_quiet : (n : Node) → Tell (notes_of n) → quiet_at l (note_of n).at ≡ true → loud n ≡ false
    unfolding notes_of
    own_quiet (node at b gs) a h = not-true (loud (node at b gs)) (sym (all_right (Fine l) (notes_fields gs) (note_of (node at b gs) ∷ []) a).0.0.quiet ∙ h)

    good_here : (p at k : ℕ) (n : Node) (q j : ℕ) → 0 < k → read_node l input (suc d) p at k ≡ got n q j → Tell (notes_of n) → Good l (suc d) at
    unfolding Good look_node encode
    good_here p at k n q j pos e a =
        let b : ℕ = byte_at l at in
        let s : SoundNode l input (suc d) p at k n q j = holds (SoundNode l input (suc d) p at k) (read_node l input (suc d) p at k) n q j (node_sound l input bytes (suc d) p at k) e in
        let w : Inside p at (notes_of n) = holds (λ n q j. Inside p at (notes_of n)) (read_node l input (suc d) p at k) n q j (inside p at k pos) e in
        let fine : NodeGood p at k n q j = holds (NodeGood p at k) (read_node l input (suc d) p at k) n q j (lowering.node_good l (suc d) p at k pos) e in
        let look : look_node l (suc d) at ≡ seen n q = accepted_stands l input bytes (suc d) p at k n q j (known (notes_of n) a) e in
        let last : (look_fields l R (fields_of b) (byte_at l (onward l at 1)) (onward l at 2)).next ≡ q = fields_stand l input bytes d p at k n q j (known (notes_of n) a) e in
        let here : Seen Node = look_node l (suc d) at in
        let value : n ≡ here.value = sym (ap (λ (x : Seen Node). x.value) look) in
        let next : q ≡ here.next = sym (ap (λ (x : Seen Node). x.next) look) in
        let u : SoundNode l input (suc d) p at k here.value here.next j = subst (λ (x : Seen Node). SoundNode l input (suc d) p at k x.value x.next j) (sym look) s in
        let ok : Proper here.value = subst Proper value fine.fine in
        let told : Tell (notes_of here.value) = subst (λ (x : Node). Tell (notes_of x)) value a in
        let i : at + 1 < length l = there l (at + 1) (map_byte (form_at input p b) (byte_at l (at + 1)) w.map) in
        let o : onward l at 1 ≡ at + 1 = on_fits l at 1 (omega arith) in
        let z : onward l at 2 ≡ at + 2 = on_fits l at 2 (omega arith) in
        let ends : at + length (encode here.value) ≤ 16384 = own_end here.value told in
        record {
          head = ap (λ (x : ℕ). part at x l) z ∙ part_cut l at (b ∷ map_of _ ∷ []) _ u.part.stands.cut;
          place = p;
          fits = u.fits;
          bytes = ap (λ (x : ℕ). part at x l) (last ∙ next) ∙ stands_part l at here.next (encode here.value) u.part.stands;
          noted = sym next ∙ sym last;
          stop = u.part.stands.end;
          limit = ends;
          quiet = λ v c. emits_copied here.value (quiet_simple here.value (own_quiet here.value told v)) ok c;
          simple = λ v. quiet_simple here.value (own_quiet here.value told v);
          arg = λ v. ap (λ (x : ℕ). byte_at l x % 2) o ∙ spread_arg p b (byte_at l (at + 1)) w.form w.map v;
          temporary = no_temporary ok;
          helper = no_helper ok;
          below = rw (o, z) (fields_as l R G (is_container b) _ _ _ _ (kind_below p at w.form) (w.fields a));
        }

    node_here_lem : (p at k : ℕ) (n : Node) (q j : ℕ) → 0 < k → read_node l input (suc d) p at k ≡ got n q j → ReadNode (suc d) p at k n q j
    node_here_lem p at k n q j pos e =
        record {
          sound = holds (SoundNode l input (suc d) p at k) (read_node l input (suc d) p at k) n q j (node_sound l input bytes (suc d) p at k) e;
          looks = λ a. accepted_stands l input bytes (suc d) p at k n q j (known (notes_of n) a) e;
          good = λ a. good_here p at k n q j pos e a;
        }

  reads : (d p at k : ℕ) → 0 < k → Holds (ReadNode d p at k) (read_node l input d p at k)
  unfolding read_node
  reads zero p at k pos = of_accepted (ReadNode zero p at k) (ltb 0 (form_at input p (byte_at l at))) (refused too_deep) (λ _. tt)
  reads (suc d) p at k pos =
      weaker (λ n q j. read_node l input (suc d) p at k ≡ got n q j) (ReadNode (suc d) p at k) (read_node l input (suc d) p at k)
      (λ n q j e. node_here_lem d (λ p' at' k' pos'. reads d p' at' k' pos') p at k n q j pos e) (read_self (read_node l input (suc d) p at k))

  -- the law: a node that was read, whose notes are told, is good; the next mark was not 0 where it begins
  pub node_good : (d p at k : ℕ) (n : Node) (q j : ℕ) → 0 < k → All (Fine l) (notes_of n) → read_node l input d p at k ≡ got n q j → Good l d at
  node_good d p at k n q j pos a e = (holds (ReadNode d p at k) (read_node l input d p at k) n q j (reads d p at k pos) e).good a

-- the law of a tree with its notes behind it
pub noted_good : (d : ℕ) (s : List ℕ) (n : Node) (q j : ℕ) → Bytes s → q ≤ 16384 → Noted d s n q j → Good s d 0
noted_good d s n q j b h w =
    node_good s (bytes_at s b) d root 0 1 n q j (omega arith)
    (all_join (Known s) (Between 0 q) (Fine s) (λ x v o. (v, omega (arith, o.2))) (notes_of n) w.told w.within) w.reads
