-- The reader's cycle of calls, case by case: what each function answers is what the definition gives, where its callees answer so.
-- Assumes nothing.
use mathlib.Core.Path.{◌≡◌, refl, sym, ap, ◌∙◌}
use mathlib.Core.Bool.{Bool, true, false}
use mathlib.Core.List.{List, [], ◌∷◌}
use Prim.Native.Nat.{ℕ, zero, suc, ◌+◌, ◌-◌, ◌/◌, ◌%◌, ◌<◌, ◌≤◌}
use native.Mathlib.Omega.{arith}
use native.Mathlib.Decide.{dec_lt}
use lib.ListN.{length, get_or-eq_default}
use borrow.Author.Tests.{lt-ltb, le-ltb, le-leb, lt-leb, eq-eqb, ne_eqb}
use Rattle.tree.specs.Tree.{Node}
use Rattle.tree.specs.Grammar.{Sort, Field, form_at, fields_of, map_ok, root}
use Rattle.tree.specs.Grammar.Sort.{child, chosen, many, gaps, text, byte, mark, number}
use Rattle.tree.specs.Grammar.Stage.{input}
use Rattle.tree.specs.Rows.{sort_from, sort_of, fields_in_of}
use Rattle.tree.specs.Read.{Got, mapped, joined, byte_at, wide_at, chosen_place, read_item, read_items, read_list, read_field, read_slot, read_fields, read_node, read_tree, whole}
use Rattle.tree.specs.Read.Got.{got, refused}
use Rattle.tree.specs.Answer.{Peeked, Wide}
use Rattle.tree.proofs.AnswerByNumber.{read_to, end_same, answer}
use Rattle.tree.specs.declared.read.Reading.{Reading}
use Rattle.tree.specs.declared.read.Refusal.{Refusal}
use Rattle.tree.specs.declared.read.Refusal.TheVariants.{NotATree, TooDeep}
use Rattle.std.proofs.Common.{Result, Ok, Err}
use Rattle.tree.proofs.GrammarRows.{NoKey, no_key, no_kind, row_done, row_first, first_sort}

-- ---- the answer of a thing and the rest

pub answer_mapped : {A B : Type 0} (f : A → B) (g : Got A) → answer (mapped f g) ≡ answer g
unfolding answer
answer_mapped f (got a q k) = refl
answer_mapped f (refused n) = refl

abbrev then : Result Reading Refusal → (ℕ → ℕ → Result Reading Refusal) → Result Reading Refusal
then (Ok x) rest = rest x.end x.mark
then (Err n) rest = Err n

answer_joined : {A B C : Type 0} (f : A → B → C) (g : Got A) (rest : ℕ → ℕ → Got B) → answer (joined f g rest) ≡ then (answer g) (λ q k. answer (rest q k))
unfolding answer
answer_joined f (got a q k) rest = answer_mapped (f a) (rest q k)
answer_joined f (refused n) rest = refl

-- the thing was read, or refused
joined_read : {A B C : Type 0} (f : A → B → C) (g : Got A) (rest : ℕ → ℕ → Got B) (q k : ℕ) → read_to q k ≡ answer g → answer (rest q k) ≡ answer (joined f g rest)
joined_read f g rest q k e = ap (λ (x : Result Reading Refusal). then x (λ q k. answer (rest q k))) e ∙ sym (answer_joined f g rest)

joined_refused : {A B C : Type 0} (f : A → B → C) (g : Got A) (rest : ℕ → ℕ → Got B) (n : Refusal) → Err n ≡ answer g → Err n ≡ answer (joined f g rest)
joined_refused f g rest n e = ap (λ (x : Result Reading Refusal). then x (λ q k. answer (rest q k))) e ∙ sym (answer_joined f g rest)

-- a class of no arm is a number's
pub other_class : (class a : ℕ) → NoKey Unit 1 9 class → number ≡ sort_from class a
other_class zero a h = refl
other_class (suc c) a h = sym (get_or-eq_default (number ∷ child a ∷ chosen a (a + 1) ∷ many a ∷ gaps a ∷ text ∷ mark ∷ byte 0 a ∷ byte 1 a ∷ byte 2 a ∷ []) number {n = suc c} (no_key Unit 1 9 (suc c) h (omega arith)))

module _ (l : List ℕ) where
  -- ---- an item, and the items

  module _ (r : ℕ → ℕ → Got Node) where
    pub item_hole : (h : Bool) (at k n : ℕ) → h ≡ true → Peeked l at n → n ≡ 0 → read_to (at + 1) k ≡ answer (read_item l r h at k)
    unfolding read_item answer
    item_hole h at k n t p z = rw t (rw (eq-eqb (byte_at l at) 0 (sym p.value ∙ z)))

    pub item_other : (h : Bool) (at k n : ℕ) → h ≡ true → Peeked l at n → (n ≡ 0 → ⊥) → answer (r at k) ≡ answer (read_item l r h at k)
    unfolding read_item
    item_other h at k n t p z = rw t (rw (ne_eqb (byte_at l at) 0 (λ e. z (p.value ∙ e))) (sym (answer_mapped _ (r at k))))

    pub item_node : (h : Bool) (at k : ℕ) → h ≡ false → answer (r at k) ≡ answer (read_item l r h at k)
    unfolding read_item
    item_node h at k t = rw t (sym (answer_mapped _ (r at k)))

    -- of n items i are behind
    pub items_end : (h : Bool) (n i at k : ℕ) → n ≤ i → read_to at k ≡ answer (read_items l r h (n - i) at k)
    unfolding read_items answer
    items_end h n i at k z =
        let s : n - i ≡ 0 = omega arith in
        rw s

    pub items_read : (h : Bool) (n i at k q j : ℕ) → i < n → read_to q j ≡ answer (read_item l r h at k) → answer (read_items l r h (n - (i + 1)) q j) ≡ answer (read_items l r h (n - i) at k)
    unfolding read_items
    items_read h n i at k q j z e =
        let s : n - i ≡ suc (n - (i + 1)) = omega arith in
        rw s (joined_read (λ add is. add is) (read_item l r h at k) (λ q j. read_items l r h (n - (i + 1)) q j) q j e)

    pub items_refused : (h : Bool) (n i at k : ℕ) (e : Refusal) → i < n → Err e ≡ answer (read_item l r h at k) → Err e ≡ answer (read_items l r h (n - i) at k)
    unfolding read_items
    items_refused h n i at k e z w =
        let s : n - i ≡ suc (n - (i + 1)) = omega arith in
        rw s (joined_refused (λ add is. add is) (read_item l r h at k) (λ q j. read_items l r h (n - (i + 1)) q j) e w)

    pub list_open : (h : Bool) (n at k : ℕ) → Wide l at n → n ≤ 65535 → answer (read_items l r h n (at + 2) k) ≡ answer (read_list l r h at k)
    unfolding read_list
    list_open h n at k w z =
        let v : n ≡ wide_at l at = w.value in
        rw (lt-ltb (wide_at l at) 65536 (omega arith)) (ap (λ (m : ℕ). answer (read_items l r h m (at + 2) k)) v)

    pub list_missing : (h : Bool) (n at k : ℕ) → Wide l at n → 65535 < n → Err NotATree ≡ answer (read_list l r h at k)
    unfolding read_list answer
    list_missing h n at k w z =
        let v : n ≡ wide_at l at = w.value in
        rw (le-ltb (wide_at l at) 65536 (omega arith))

  -- ---- a field by its code, and the fields of a row

  module _ (r : ℕ → ℕ → ℕ → Got Node) where
    abbrev pub field_is : Sort → ℕ → ℕ → Result Reading Refusal
    field_is (child p) at k = answer (r p at k)
    field_is (chosen p q) at k = answer (r (chosen_place l p q at) at k)
    field_is (many p) at k = answer (read_list l (r p) false at k)
    field_is (gaps p) at k = answer (read_list l (r p) true at k)
    field_is text at k = answer (read_field l input r text at k)
    field_is (byte a b) at k = answer (read_field l input r (byte a b) at k)
    field_is mark at k = answer (read_field l input r mark at k)
    field_is number at k = answer (read_field l input r number at k)

    field_law : (s : Sort) (at k : ℕ) → field_is s at k ≡ answer (read_field l input r s at k)
    unfolding read_field
    field_law (child p) at k = sym (answer_mapped _ (r p at k))
    field_law (chosen p q) at k = sym (answer_mapped _ (r (chosen_place l p q at) at k))
    field_law (many p) at k = sym (answer_mapped _ (read_list l (r p) false at k))
    field_law (gaps p) at k = sym (answer_mapped _ (read_list l (r p) true at k))
    field_law text at k = refl
    field_law (byte a b) at k = refl
    field_law mark at k = refl
    field_law number at k = refl

    pub slot_absent : (s : Sort) (bit at k : ℕ) → bit ≡ 0 → read_to at k ≡ answer (read_slot l input r s bit at k)
    unfolding read_slot answer
    slot_absent s bit at k z = rw z

    slot_stands : (s : Sort) (bit at k : ℕ) → (bit ≡ 0 → ⊥) → field_is s at k ≡ answer (read_slot l input r s bit at k)
    unfolding read_slot
    slot_stands s zero at k n = absurd (n refl)
    slot_stands s (suc bit) at k n = field_law s at k ∙ sym (answer_mapped _ (read_field l input r s at k))

    module _ (code bit at k : ℕ) (stands : bit ≡ 0 → ⊥) where
      -- the field of a code whose class is n
      pub slot_class : (n : ℕ) → code / 32 ≡ n → field_is (sort_from n (code % 32)) at k ≡ answer (read_slot l input r (sort_of code) bit at k)
      slot_class n e = ap (λ (m : ℕ). field_is (sort_from m (code % 32)) at k) (sym e) ∙ slot_stands (sort_of code) bit at k stands

      pub slot_chosen : (p : ℕ) (s : Result Reading Refusal) → p ≡ chosen_place l (code % 32) (code % 32 + 1) at → s ≡ answer (r p at k) → code / 32 ≡ 2 → s ≡ answer (read_slot l input r (sort_of code) bit at k)
      slot_chosen p s v e c = e ∙ rw v (slot_class 2 c)

      -- the field of a code whose class has no arm of its own
      pub slot_number : NoKey Unit 1 9 (code / 32) → answer (read_field l input r number at k) ≡ answer (read_slot l input r (sort_of code) bit at k)
      slot_number h = ap (λ (s : Sort). field_is s at k) (other_class (code / 32) (code % 32) h) ∙ slot_stands (sort_of code) bit at k stands

    pub fields_end : (row m at k : ℕ) → row ≤ 0 → read_to at k ≡ answer (read_fields l input r (fields_in_of row) m at k)
    unfolding read_fields answer
    fields_end row m at k z = rw (row_done row (omega arith))

    -- the row's first field, and the rest
    fields_split : (row m at k : ℕ) → 0 < row → answer (read_fields l input r (fields_in_of row) m at k) ≡ answer (joined (λ add gs. add gs) (read_slot l input r (sort_of (row % 512)) (m % 2) at k) (λ q j. read_fields l input r (fields_in_of (row / 1024)) (m / 2) q j))
    unfolding read_fields
    fields_split row m at k h = rw (row_first row h, first_sort row)

    pub fields_read : (row m at k q j : ℕ) → 0 < row → read_to q j ≡ answer (read_slot l input r (sort_of (row % 512)) (m % 2) at k) → answer (read_fields l input r (fields_in_of (row / 1024)) (m / 2) q j) ≡ answer (read_fields l input r (fields_in_of row) m at k)
    fields_read row m at k q j h e = joined_read (λ add gs. add gs) (read_slot l input r (sort_of (row % 512)) (m % 2) at k) (λ q j. read_fields l input r (fields_in_of (row / 1024)) (m / 2) q j) q j e ∙ sym (fields_split row m at k h)

    pub fields_refused : (row m at k : ℕ) (n : Refusal) → 0 < row → Err n ≡ answer (read_slot l input r (sort_of (row % 512)) (m % 2) at k) → Err n ≡ answer (read_fields l input r (fields_in_of row) m at k)
    fields_refused row m at k n h e = joined_refused (λ add gs. add gs) (read_slot l input r (sort_of (row % 512)) (m % 2) at k) (λ q j. read_fields l input r (fields_in_of (row / 1024)) (m / 2) q j) n e ∙ sym (fields_split row m at k h)

  -- ---- a node

  open_node : (d p at k form map : ℕ) → (d ≡ 0 → ⊥) → form ≡ form_at input p (byte_at l at) → (form ≡ 0 → ⊥) → map ≡ byte_at l (at + 1) → map_ok (fields_of form) map ≡ true → answer (read_fields l input (read_node l input (d - 1)) (fields_of form) map (at + 2) k) ≡ answer (read_node l input d p at k)
  unfolding read_node
  open_node zero p at k form map z f n m ok = absurd (z refl)
  open_node (suc d) p at k form map z f n m ok =
      let s : suc d - 1 ≡ d = omega arith in
      let h : map_ok (fields_of (form_at input p (byte_at l at))) (byte_at l (at + 1)) ≡ true = rw (f, m) at ok in
      rw (s, f, m, lt-ltb 0 (form_at input p (byte_at l at)) (omega arith), h) (sym (answer_mapped (Node.node at (byte_at l at)) (read_fields l input (read_node l input d) (fields_of (form_at input p (byte_at l at))) (byte_at l (at + 1)) (at + 2) k)))

  shut_node : (d p at k form map : ℕ) → (d ≡ 0 → ⊥) → form ≡ form_at input p (byte_at l at) → (form ≡ 0 → ⊥) → map ≡ byte_at l (at + 1) → map_ok (fields_of form) map ≡ false → Err NotATree ≡ answer (read_node l input d p at k)
  unfolding read_node answer
  shut_node zero p at k form map z f n m bad = absurd (z refl)
  shut_node (suc d) p at k form map z f n m bad =
      let h : map_ok (fields_of (form_at input p (byte_at l at))) (byte_at l (at + 1)) ≡ false = rw (f, m) at bad in
      rw (lt-ltb 0 (form_at input p (byte_at l at)) (omega arith), h)

  pub node_in : (p at kind form : ℕ) → Peeked l at kind → form ≡ form_at input p kind → (form ≡ 0 → ⊥) → at < length l
  node_in p at kind form look found n = look.within (elim (dec_lt kind 64) [ yes h ↦ omega arith | no h ↦ absurd (n (found ∙ no_kind p kind (omega arith))) ])

  module _ (d p at k kind form : ℕ) (look : Peeked l at kind) (found : form ≡ form_at input p kind) where
    form_is : form ≡ form_at input p (byte_at l at)
    form_is = found ∙ ap (form_at input p) look.value

    pub node_wrong : form ≡ 0 → Err NotATree ≡ answer (read_node l input d p at k)
    unfolding read_node answer
    node_wrong z = elim d as (λ x. Err NotATree ≡ answer (read_node l input x p at k)) [
      | zero ↦ rw (le-ltb 0 (form_at input p (byte_at l at)) (omega (arith, form_is)))
      | suc x ↦ rw (le-ltb 0 (form_at input p (byte_at l at)) (omega (arith, form_is)))
    ]

    pub node_deep : (form ≡ 0 → ⊥) → d ≡ 0 → Err TooDeep ≡ answer (read_node l input d p at k)
    unfolding read_node answer
    node_deep n z = rw z (rw (lt-ltb 0 (form_at input p (byte_at l at)) (omega (arith, form_is))))

    module _ (map : ℕ) (stands : form ≡ 0 → ⊥) (deep : d ≡ 0 → ⊥) (next : Peeked l (at + 1) map) where
      pub node_map : map_ok (fields_of form) map ≡ false → Err NotATree ≡ answer (read_node l input d p at k)
      node_map bad = shut_node d p at k form map deep form_is stands next.value bad

      pub node_fields : map_ok (fields_of form) map ≡ true → (row : ℕ) → fields_in_of row ≡ fields_of form → answer (read_fields l input (read_node l input (d - 1)) (fields_in_of row) map (at + 2) k) ≡ answer (read_node l input d p at k)
      node_fields ok row rowed =
          ap (λ (fs : List Field). answer (read_fields l input (read_node l input (d - 1)) fs map (at + 2) k)) rowed
          ∙ open_node d p at k form map deep form_is stands next.value ok

  -- ---- the whole input

  module _ (d : ℕ) where
    pub tree_long : 16384 < length l → Err NotATree ≡ answer (read_tree input d l)
    unfolding read_tree answer
    tree_long h = rw (lt-leb (length l) 16384 h)

    whole_read : (g : Got Node) (q j : ℕ) → read_to q j ≡ answer g → q ≡ length l → read_to q j ≡ answer (whole l g)
    unfolding answer
    whole_read (got a p k) q j e z =
        let y : q ≡ p = end_same e in
        rw (eq-eqb p (length l) (sym y ∙ z)) e
    whole_read (refused n) q j e z = e

    whole_more : (g : Got Node) (q j : ℕ) → read_to q j ≡ answer g → (q ≡ length l → ⊥) → Err NotATree ≡ answer (whole l g)
    unfolding answer
    whole_more (got a p k) q j e z =
        let y : q ≡ p = end_same e in
        rw (ne_eqb p (length l) (λ w. z (y ∙ w)))
    whole_more (refused n) q j e z = let w : ◌≡◌ {A = ℕ} 0 1 = cc in absurd (omega arith)

    whole_refused : (g : Got Node) (n : Refusal) → Err n ≡ answer g → Err n ≡ answer (whole l g)
    unfolding answer
    whole_refused (got a p k) n e = let w : ◌≡◌ {A = ℕ} 0 1 = cc in absurd (omega arith)
    whole_refused (refused m) n e = e

    pub tree_read : (q j : ℕ) → length l ≤ 16384 → read_to q j ≡ answer (read_node l input d root 0 1) → q ≡ length l → read_to q j ≡ answer (read_tree input d l)
    unfolding read_tree
    tree_read q j h e z = rw (le-leb (length l) 16384 h) (whole_read (read_node l input d root 0 1) q j e z)

    pub tree_more : (q j : ℕ) → length l ≤ 16384 → read_to q j ≡ answer (read_node l input d root 0 1) → (q ≡ length l → ⊥) → Err NotATree ≡ answer (read_tree input d l)
    unfolding read_tree
    tree_more q j h e z = rw (le-leb (length l) 16384 h) (whole_more (read_node l input d root 0 1) q j e z)

    pub tree_refused : (n : Refusal) → length l ≤ 16384 → Err n ≡ answer (read_node l input d root 0 1) → Err n ≡ answer (read_tree input d l)
    unfolding read_tree
    tree_refused n h e = rw (le-leb (length l) 16384 h) (whole_refused (read_node l input d root 0 1) n e)
