-- Fields of nodes as positions, case by case: what each function answers is the definition, where its callees answer so.
-- Assumes nothing.
use mathlib.Core.Path.{◌≡◌, refl, sym, ap, ◌∙◌}
use mathlib.Core.Bool.{Bool, true, false, not}
use mathlib.Core.List.{List, [], ◌∷◌}
use mathlib.Core.Option.{Option, some}
use Prim.Native.Nat.{ℕ, zero, suc, ◌+◌, ◌-◌, ◌/◌, ◌%◌, ◌<◌, ◌≤◌}
use native.Mathlib.Omega.{arith}
use native.Mathlib.Decide.{dec_lt}
use lib.Dec.{eqb}
use lib.ListN.{length}
use borrow.Author.Tests.{eq-eqb, ne_eqb, le-leb, lt-leb}
use Rattle.tree.specs.Tree.{Node, Fields}
use Rattle.tree.specs.Grammar.{Sort, Field, fields_of, kinds}
use Rattle.tree.specs.Rows.{sort_from, sort_of, fields_in_of}
use Rattle.tree.specs.Read.{byte_at, wide_at, sort_in}
use Rattle.tree.specs.Answer.{Peeked, found_value}
use Rattle.tree.specs.Look.{Seen, onward, look_field, look_slot, look_fields, look_node, seek_fields}
use Rattle.std.proofs.Common.{Some, None}
use Rattle.std.proofs.Common as std
use Rattle.tree.proofs.GrammarRows.{NoKey, row_done, row_first, first_sort}
use Rattle.tree.proofs.Skipping.{seek_none, seek_absent, seek_here}
use Rattle.lowering.specs.Parts.{stands_in, stands}
use Rattle.pattern.specs.declared.parts.Part.{Part}
use Rattle.pattern.specs.declared.parts.Part.TheVariants.{One}
use Rattle.pattern.specs.declared.parts.Place.{Place}
use Rattle.pattern.specs.declared.parts.Run.{Run}
use Rattle.pattern.specs.Parts.{Content, field_values, sort_at, text_of, part_of, part_in, part_at, item_place, place_of, run_of}

-- ---- the code of a field in a row

pub code_end : (row n : ℕ) → n ≤ 0 → sort_of (row % 512) ≡ sort_at (fields_in_of row) n
code_end row zero h = elim (dec_lt 0 row) [
  | yes g ↦ rw (row_first row g) (sym (first_sort row))
  | no g ↦ let z : row ≡ 0 = omega arith in let m : row % 512 ≡ 0 = omega arith in rw (row_done row z) (ap sort_of m)
]
code_end row (suc n) h = absurd (omega arith)

-- n fields on, i of them passed
pub code_more : (row n i : ℕ) → i < n → sort_at (fields_in_of (row / 1024)) (n - (i + 1)) ≡ sort_at (fields_in_of row) (n - i)
code_more row n i h =
    let s : n - i ≡ suc (n - (i + 1)) = omega arith in
    elim (dec_lt 0 row) [
      | yes g ↦ rw (s, row_first row g)
      | no g ↦ rw (s, row_done row (omega arith), row_done (row / 1024) (omega arith))
    ]

module _ (l : List ℕ) where
  -- ---- what a field holds

  -- a class of no arm is a mark's, a byte's or a number's
  other_class : (class a at : ℕ) → NoKey Unit 1 5 class → Content.plain ≡ part_of l (sort_from class a) at
  unfolding part_of
  other_class zero a at h = refl
  other_class (suc zero) a at h = absurd (h.0.0.0.0.1 refl)
  other_class (suc (suc zero)) a at h = absurd (h.0.0.0.1 refl)
  other_class (suc (suc (suc zero))) a at h = absurd (h.0.0.1 refl)
  other_class (suc (suc (suc (suc zero)))) a at h = absurd (h.0.1 refl)
  other_class (suc (suc (suc (suc (suc zero))))) a at h = absurd (h.1 refl)
  other_class (suc (suc (suc (suc (suc (suc zero)))))) a at h = refl
  other_class (suc (suc (suc (suc (suc (suc (suc zero))))))) a at h = refl
  other_class (suc (suc (suc (suc (suc (suc (suc (suc zero)))))))) a at h = refl
  other_class (suc (suc (suc (suc (suc (suc (suc (suc (suc zero))))))))) a at h = refl
  other_class (suc (suc (suc (suc (suc (suc (suc (suc (suc (suc n)))))))))) a at h = refl

  module _ (code at : ℕ) where
    held_class : (n : ℕ) → code / 32 ≡ n → part_of l (sort_from n (code % 32)) at ≡ part_of l (sort_of code) at
    held_class n e = ap (λ (m : ℕ). part_of l (sort_from m (code % 32)) at) (sym e)

    pub held_child : code / 32 ≡ 1 → Content.node at ≡ part_of l (sort_of code) at
    unfolding part_of
    held_child e = held_class 1 e

    pub held_chosen : code / 32 ≡ 2 → Content.node at ≡ part_of l (sort_of code) at
    unfolding part_of
    held_chosen e = held_class 2 e

    pub held_many : (n q : ℕ) → n ≡ wide_at l at → q ≡ onward l at 2 → code / 32 ≡ 3 → Content.list false n q ≡ part_of l (sort_of code) at
    unfolding part_of
    held_many n q v w e = rw (v, w) (held_class 3 e)

    pub held_gaps : (n q : ℕ) → n ≡ wide_at l at → q ≡ onward l at 2 → code / 32 ≡ 4 → Content.list true n q ≡ part_of l (sort_of code) at
    unfolding part_of
    held_gaps n q v w e = rw (v, w) (held_class 4 e)

    pub held_text : (r : Content) → r ≡ text_of l at → code / 32 ≡ 5 → r ≡ part_of l (sort_of code) at
    unfolding part_of
    held_text r v e = v ∙ held_class 5 e

    pub held_number : NoKey Unit 1 5 (code / 32) → Content.plain ≡ part_of l (sort_of code) at
    held_number h = other_class (code / 32) (code % 32) at h

  onward_le : (at m n : ℕ) → m ≤ n → onward l at m ≤ onward l at n
  unfolding onward
  onward_le at m n h = elim (dec_lt (length l) (at + n)) [
    | yes g ↦ rw (lt-leb (at + n) (length l) g) (elim (dec_lt (length l) (at + m)) [
      | yes i ↦ rw (lt-leb (at + m) (length l) i) (omega arith)
      | no i ↦ rw (le-leb (at + m) (length l) (omega arith)) (omega arith)
    ])
    | no g ↦ rw (le-leb (at + n) (length l) (omega arith), le-leb (at + m) (length l) (omega arith)) (omega arith)
  ]

  pub text_ends : (at n p q : ℕ) → p ≡ onward l at 2 → q ≡ onward l at (2 + n) → p ≤ q
  text_ends at n p q e f = let h : onward l at 2 ≤ onward l at (2 + n) = onward_le at 2 (2 + n) (omega arith) in rw (e, f) h

  pub text_held : (at n p q : ℕ) → n ≡ wide_at l at → p ≡ onward l at 2 → q ≡ onward l at (2 + n) → Content.text p (q - p) ≡ text_of l at
  unfolding text_of
  text_held at n p q v e f = rw (e, f, v)

  -- ---- a field that was searched for

  pub field_none : (d at i : ℕ) → d ≡ 0 → Content.absent ≡ part_at l d at i
  unfolding part_at
  field_none d at i z = rw z

  there : (s : Sort) (o : Option ℕ) (x : ℕ) → found_value (Some x) ≡ o → part_of l s x ≡ part_in l s o
  there s Option.none x e = let z : ◌≡◌ {A = ℕ} 0 1 = cc in absurd (omega arith)
  there s (some y) x e = let z : x ≡ y = cc in ap (part_of l s) z

  absent_there : (s : Sort) (o : Option ℕ) → found_value None ≡ o → Content.absent ≡ part_in l s o
  absent_there s Option.none e = refl
  absent_there s (some y) e = let z : ◌≡◌ {A = ℕ} 0 1 = cc in absurd (omega arith)

  module _ (d at i kind map row p q : ℕ) (z : d ≡ 0 → ⊥) (e : kind ≡ byte_at l at) (f : p ≡ onward l at 1) (g : map ≡ byte_at l p) (w : fields_in_of row ≡ fields_of kind) (v : q ≡ onward l at 2) where
    abbrev searched : Option ℕ
    searched = seek_fields l (look_node l (d - 1)) (fields_in_of row) map q i

    opened : part_in l (sort_at (fields_in_of row) i) searched ≡ part_at l d at i
    unfolding part_at
    opened = go d z
      where
        go : (d : ℕ) → (d ≡ 0 → ⊥) → part_in l (sort_at (fields_in_of row) i) (seek_fields l (look_node l (d - 1)) (fields_in_of row) map q i) ≡ part_at l d at i
        go zero z = absurd (z refl)
        go (suc d) z =
            let o : suc d - 1 ≡ d = omega arith in
            ap (λ (fs : List Field). part_in l (sort_at fs i) (seek_fields l (look_node l (suc d - 1)) fs map q i)) w ∙ rw (o, e, g, f, v)

    pub field_at : (r : Content) (code x : ℕ) (s : std.Option ℕ) → found_value s ≡ searched → s ≡ Some x → sort_of code ≡ sort_at (fields_in_of row) i → r ≡ part_of l (sort_of code) x → r ≡ part_at l d at i
    field_at r code x s a b c h = h ∙ ap (λ (t : Sort). part_of l t x) c ∙ there (sort_at (fields_in_of row) i) searched x (sym (ap found_value b) ∙ a) ∙ opened

    pub field_missing : (s : std.Option ℕ) → found_value s ≡ searched → s ≡ None → Content.absent ≡ part_at l d at i
    field_missing s a b = absent_there (sort_at (fields_in_of row) i) searched (sym (ap found_value b) ∙ a) ∙ opened

    -- the first field, which stands right behind the bit map
    pub first_past : row ≡ 0 → Content.absent ≡ part_at l d at i
    first_past h = field_missing None (seek_none l (look_node l (d - 1)) row map q i h) refl

    pub first_absent : i ≡ 0 → (row ≡ 0 → ⊥) → map % 2 ≡ 0 → Content.absent ≡ part_at l d at i
    first_absent y h t = field_missing None (seek_absent l (look_node l (d - 1)) row map q i h y t) refl

    pub first_at : (r : Content) → i ≡ 0 → (row ≡ 0 → ⊥) → (map % 2 ≡ 0 → ⊥) → r ≡ part_of l (sort_of (row % 512)) q → r ≡ part_at l d at i
    first_at r y h t x = field_at r (row % 512) q (Some q) (seek_here l (look_node l (d - 1)) row map q i h y t) refl (code_end row i (omega arith)) x

  -- ---- the key of a property, which stands right behind the bit map, and its value behind that

  pub key_at_lem : (d at k p m q : ℕ) → 0 < d → k ≡ byte_at l at → k ≡ 35 → p ≡ onward l at 1 → m ≡ byte_at l p → m % 2 ≡ 1 → q ≡ onward l at 2 → ◌≡◌ {A = Place} (record { left = d - 1; at = q }) (place_of d at (part_at l d at 0))
  unfolding part_at place_of part_of fields_of kinds seek_fields
  key_at_lem zero at k p m q z e y f g h v = absurd (omega arith)
  key_at_lem (suc d) at k p m q z e y f g h v =
      let o : suc d - 1 ≡ d = omega arith in
      let first : byte_at l (onward l at 1) % 2 ≡ 1 = rw (sym f, sym g) h in
      rw (v, sym e ∙ y, first, o)

  pub value_at_lem : (d at k p m q r : ℕ) → 0 < d → k ≡ byte_at l at → k ≡ 35 → p ≡ onward l at 1 → m ≡ byte_at l p → m % 4 ≡ 3 → q ≡ onward l at 2 → r ≡ (look_node l (d - 1) q).next → ◌≡◌ {A = Place} (record { left = d - 1; at = r }) (place_of d at (part_at l d at 1))
  unfolding part_at place_of part_of fields_of kinds seek_fields look_slot look_field
  value_at_lem zero at k p m q r z e y f g h v w = absurd (omega arith)
  value_at_lem (suc d) at k p m q r z e y f g h v w =
      let o : suc d - 1 ≡ d = omega arith in
      let first : byte_at l (onward l at 1) % 2 ≡ 1 = rw (sym f, sym g) (omega arith) in
      let second : byte_at l (onward l at 1) / 2 % 2 ≡ 1 = rw (sym f, sym g) (omega arith) in
      rw (w, v, sym e ∙ y, first, second, o)

  -- the name of a static key
  pub name_at_lem : (d at k p m q : ℕ) (r : Content) → (d ≡ 0 → ⊥) → k ≡ byte_at l at → k ≡ 38 → p ≡ onward l at 1 → m ≡ byte_at l p → m % 2 ≡ 1 → q ≡ onward l at 2 → r ≡ text_of l q → r ≡ part_at l d at 0
  unfolding part_at part_of fields_of kinds seek_fields
  name_at_lem zero at k p m q r z e y f g h v x = absurd (z refl)
  name_at_lem (suc d) at k p m q r z e y f g h v x =
      let first : byte_at l (onward l at 1) % 2 ≡ 1 = rw (sym f, sym g) h in
      x ∙ rw (v, sym e ∙ y, first)

  -- ---- whether a field stands, by the bit map

  unfoldable pub stands_by : List Field → ℕ → ℕ → Bool
  stands_by [] m i = false
  stands_by (f ∷ fs) m zero = eqb (m % 2) 1
  stands_by (f ∷ fs) m (suc i) = stands_by fs (m / 2) i

  bit_stands : (R : ℕ → Seen Node) (s : Sort) (bit at : ℕ) (fs : Fields) → bit < 2 → stands_in ((look_slot l R s bit at).value fs) 0 ≡ eqb bit 1
  unfolding look_slot stands_in
  bit_stands R s zero at fs h = refl
  bit_stands R s (suc zero) at fs h = refl
  bit_stands R s (suc (suc bit)) at fs h = absurd (omega arith)

  bit_later : (R : ℕ → Seen Node) (s : Sort) (bit at i : ℕ) (fs : Fields) → stands_in ((look_slot l R s bit at).value fs) (suc i) ≡ stands_in fs i
  unfolding look_slot stands_in
  bit_later R s zero at i fs = refl
  bit_later R s (suc bit) at i fs = refl

  pub fields_stand : (R : ℕ → Seen Node) (fs : List Field) (m at i : ℕ) → stands_in (look_fields l R fs m at).value i ≡ stands_by fs m i
  unfolding look_fields stands_by stands_in
  fields_stand R [] m at i = refl
  fields_stand R (f ∷ fs) m at zero = bit_stands R (sort_in f) (m % 2) at _ (omega arith)
  fields_stand R (f ∷ fs) m at (suc i) = bit_later R (sort_in f) (m % 2) at i _ ∙ fields_stand R fs (m / 2) (look_slot l R (sort_in f) (m % 2) at).next i

  pub stands_none : (d at i : ℕ) → d ≡ 0 → false ≡ stands i (look_node l d at).value
  unfolding stands look_node stands_in
  stands_none d at i z = rw z

  pub stands_start : (d at i kind map row p : ℕ) → (d ≡ 0 → ⊥) → kind ≡ byte_at l at → p ≡ onward l at 1 → map ≡ byte_at l p → fields_in_of row ≡ fields_of kind → stands_by (fields_in_of row) map (i - 0) ≡ stands i (look_node l d at).value
  unfolding stands look_node
  stands_start zero at i kind map row p z e f g w = absurd (z refl)
  stands_start (suc d) at i kind map row p z e f g w =
      let s : i - 0 ≡ i = omega arith in
      rw s
      (ap (λ (fs : List Field). stands_by fs map i) w ∙ rw (e, g, f) (sym (fields_stand (λ q. look_node l d q) (fields_of (byte_at l at)) (byte_at l (onward l at 1)) (onward l at 2) i)))

  pub stands_more : (row m n i : ℕ) → i < n → stands_by (fields_in_of (row / 1024)) (m / 2) (n - (i + 1)) ≡ stands_by (fields_in_of row) m (n - i)
  unfolding stands_by
  stands_more row m n i h =
      let s : n - i ≡ suc (n - (i + 1)) = omega arith in
      elim (dec_lt 0 row) [
        | yes g ↦ rw (s, row_first row g)
        | no g ↦ rw (s, row_done row (omega arith), row_done (row / 1024) (omega arith))
      ]

  pub stands_past : (row m n : ℕ) → row ≡ 0 → not (eqb row 0) ≡ stands_by (fields_in_of row) m n
  unfolding stands_by
  stands_past row m n z = ap (λ (x : ℕ). not (eqb x 0)) z ∙ rw (row_done row z)

  pub stands_end : (row m n i : ℕ) → n ≤ i → (row ≡ 0 → ⊥) → eqb (m % 2) 1 ≡ stands_by (fields_in_of row) m (n - i)
  unfolding stands_by
  stands_end row m n i h z = let s : n - i ≡ 0 = omega arith in rw (s, row_first row (omega arith))

  -- ---- an item

  pub item_hole : (h : Bool) (d at n : ℕ) → h ≡ true → Peeked l at n → n ≡ 0 → ◌≡◌ {A = Place} (record { left = 0; at = at }) (item_place l h d at)
  unfolding item_place
  item_hole h d at n t p z = rw (t, eq-eqb (byte_at l at) 0 (sym p.value ∙ z))

  pub item_other : (h : Bool) (d at n : ℕ) → h ≡ true → Peeked l at n → (n ≡ 0 → ⊥) → ◌≡◌ {A = Place} (record { left = d; at = at }) (item_place l h d at)
  unfolding item_place
  item_other h d at n t p z = rw (t, ne_eqb (byte_at l at) 0 (λ e. z (p.value ∙ e)))

  pub item_node : (h : Bool) (d at : ℕ) → h ≡ false → ◌≡◌ {A = Place} (record { left = d; at = at }) (item_place l h d at)
  unfolding item_place
  item_node h d at t = rw t

  -- ---- a field that holds a node or a list

  -- what holds a node has levels
  pub one_levels : (d at i q : ℕ) (r : std.Option Part) (p : Part) → r ≡ Some p → p ≡ One q → field_values r ≡ part_at l d at i → 1 ≤ d
  unfolding part_at
  one_levels zero at i q r p e g f = let w : Content.node q ≡ Content.absent = sym (ap field_values (e ∙ ap Some g)) ∙ f in let z : ◌≡◌ {A = ℕ} 0 1 = cc in absurd (omega arith)
  one_levels (suc d) at i q r p e g f = omega arith

  pub placed : (d at i : ℕ) (r : std.Option Part) (s : Place) → field_values r ≡ part_at l d at i → s ≡ place_of d at (field_values r) → s ≡ place_of d at (part_at l d at i)
  placed d at i r s f e = e ∙ ap (place_of d at) f

  pub run : (d at i : ℕ) (r : std.Option Part) (s : Run) → field_values r ≡ part_at l d at i → s ≡ run_of at (field_values r) → s ≡ run_of at (part_at l d at i)
  run d at i r s f e = e ∙ ap (run_of at) f
