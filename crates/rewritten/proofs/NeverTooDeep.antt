-- With as many levels as there are bytes left no node is too deep: so the reader of a node is its own body.
-- Assumes nothing.
use mathlib.Core.Path.{◌≡◌, refl, sym, ap, subst, ◌∙◌}
use mathlib.Core.Bool.{Bool, true, false, cond}
use mathlib.Core.List.{List, [], ◌∷◌}
use mathlib.Core.Logic.{⊎_elim}
use Prim.Native.Nat.{ℕ, zero, suc, ◌+◌, ◌/◌, ◌%◌, ◌<◌, ◌≤◌}
use native.Mathlib.Omega.{arith}
use native.Mathlib.Decide.{dec_lt}
use lib.Dec.{ltb, leb, eqb}
use lib.ListN.{length, take, drop, get_or-eq_default}
use borrow.Author.Tests.{le-ltb}
use Rattle.tree.specs.Tree.{Node, Piece}
use Rattle.tree.specs.Tree.Node.{node}
use Rattle.tree.specs.Tree.Fields.{field}
use Rattle.tree.specs.Tree.Piece.{one, list}
use Rattle.tree.specs.Tree.Items.{hole, item}
use Rattle.tree.specs.Grammar.{Sort, Field, Stage, root, form_at, fields_of, map_ok}
use Rattle.tree.specs.Grammar.Stage.{input, rewritten}
use Rattle.tree.specs.Grammar.Sort.{child, chosen, many, gaps, text, byte, mark, number}
use Rattle.tree.specs.Read.{Got, mapped, joined, accepted, sort_in, byte_at, wide_at, chosen_place, read_text, read_byte, read_mark, read_number, read_item, read_items, read_list, read_field, read_slot, read_fields, read_node, read_tree, whole, longest}
use Rattle.tree.specs.Read.Got.{got, refused}
use Rattle.tree.specs.Read.Refusal.{not_a_tree, too_deep}
use Rattle.tree.proofs.Limit.{limit_law}
use Rattle.tree.proofs.Within.{known}

-- what was read does not end before it starts, and nothing is refused as too deep
abbrev pub Sane : {A : Type 0} → ℕ → Got A → Type 0
Sane at (got a q k) = at ≤ q
Sane at (refused not_a_tree) = Unit {0}
Sane at (refused too_deep) = ⊥

sane_mapped : {A B : Type 0} (at : ℕ) (f : A → B) (g : Got A) → Sane at g → Sane at (mapped f g)
sane_mapped at f (got a q k) h = h
sane_mapped at f (refused not_a_tree) h = tt
sane_mapped at f (refused too_deep) h = h

sane_accepted : {A : Type 0} (at : ℕ) (b : Bool) (g : Got A) → (b ≡ true → Sane at g) → Sane at (accepted b g)
sane_accepted at true g h = h refl
sane_accepted at false g h = tt

sane_from : {A : Type 0} (at q : ℕ) (g : Got A) → at ≤ q → Sane q g → Sane at g
sane_from at q (got a r k) le h = omega arith
sane_from at q (refused not_a_tree) le h = tt
sane_from at q (refused too_deep) le h = h

sane_joined : {A B C : Type 0} (at : ℕ) (f : A → B → C) (g : Got A) (rest : ℕ → ℕ → Got B) → Sane at g → ((q j : ℕ) → at ≤ q → Sane q (rest q j)) → Sane at (joined f g rest)
sane_joined at f (got a q k) rest h t = sane_from at q (mapped (f a) (rest q k)) h (sane_mapped q (f a) (rest q k) (t q k h))
sane_joined at f (refused not_a_tree) rest h t = tt
sane_joined at f (refused too_deep) rest h t = h

sane_leaf : {A : Type 0} (at q k : ℕ) (b : Bool) (a : A) → at ≤ q → Sane at (accepted b (got a q k))
sane_leaf at q k true a h = h
sane_leaf at q k false a h = tt

module _ (l : List ℕ) where
  -- the readers below, from `low` on
  module _ (low : ℕ) (r : ℕ → ℕ → Got Node) (good : (at k : ℕ) → low ≤ at → Sane at (r at k)) where
    item_sane : (h : Bool) (at k : ℕ) → low ≤ at → Sane at (read_item l r h at k)
    unfolding read_item
    item_sane true at k le = go (eqb (byte_at l at) 0)
      where
        go : (b : Bool) → Sane at (cond b (got hole (at + 1) k) (mapped (λ n is. item n is) (r at k)))
        go true = omega arith
        go false = sane_mapped at (λ n is. item n is) (r at k) (good at k le)
    item_sane false at k le = sane_mapped at (λ n is. item n is) (r at k) (good at k le)

    items_sane : (h : Bool) (n at k : ℕ) → low ≤ at → Sane at (read_items l r h n at k)
    unfolding read_items
    items_sane h zero at k le = omega arith
    items_sane h (suc n) at k le = sane_joined at (λ add is. add is) (read_item l r h at k) (λ q j. read_items l r h n q j) (item_sane h at k le) (λ q j g. items_sane h n q j (omega arith))

    list_sane : (h : Bool) (at k : ℕ) → low ≤ at → Sane at (read_list l r h at k)
    unfolding read_list
    list_sane h at k le = sane_accepted at (ltb (wide_at l at) 65536) (read_items l r h (wide_at l at) (at + 2) k) (λ t. sane_from at (at + 2) (read_items l r h (wide_at l at) (at + 2) k) (omega arith) (items_sane h (wide_at l at) (at + 2) k (omega arith)))

  mark_sane : (stage : Stage) (at k : ℕ) → Sane at (read_mark l stage at k)
  unfolding read_mark
  mark_sane input at k = sane_accepted at (ltb (wide_at l at) 65536) (accepted (eqb (wide_at l at) k) (got (Piece.mark (wide_at l at)) (at + 2) (k + 1))) (λ t. sane_leaf at (at + 2) (k + 1) (eqb (wide_at l at) k) (Piece.mark (wide_at l at)) (omega arith))
  mark_sane rewritten at k = sane_leaf at (at + 2) k (ltb (wide_at l at) 65536) (Piece.mark (wide_at l at)) (omega arith)

  text_sane : (at k : ℕ) → Sane at (read_text l at k)
  unfolding read_text
  text_sane at k = sane_leaf at (at + 2 + wide_at l at) k (leb (at + 2 + wide_at l at) (length l)) (Piece.text (take (wide_at l at) (drop (at + 2) l))) (omega arith)

  byte_sane : (a b at k : ℕ) → Sane at (read_byte l a b at k)
  unfolding read_byte
  byte_sane a b at k =
      let v : Got Piece = got (Piece.byte (byte_at l at)) (at + 1) k in
      sane_accepted at (ltb (byte_at l at) 256) (accepted (leb a (byte_at l at)) (accepted (leb (byte_at l at) b) v))
      (λ t. sane_accepted at (leb a (byte_at l at)) (accepted (leb (byte_at l at) b) v) (λ u. sane_leaf at (at + 1) k (leb (byte_at l at) b) (Piece.byte (byte_at l at)) (omega arith)))

  number_sane : (at k : ℕ) → Sane at (read_number l at k)
  unfolding read_number
  number_sane at k = sane_leaf at (at + 2) k (ltb (wide_at l at) 65536) (Piece.number (wide_at l at)) (omega arith)

  module _ (stage : Stage) where
    module _ (low : ℕ) (r : ℕ → ℕ → ℕ → Got Node) (good : (p at k : ℕ) → low ≤ at → Sane at (r p at k)) where
      field_sane : (t : Sort) (at k : ℕ) → low ≤ at → Sane at (read_field l stage r t at k)
      unfolding read_field
      field_sane (child p) at k le = sane_mapped at one (r p at k) (good p at k le)
      field_sane (chosen p q) at k le = sane_mapped at one (r (chosen_place l p q at) at k) (good (chosen_place l p q at) at k le)
      field_sane (many p) at k le = sane_mapped at list (read_list l (r p) false at k) (list_sane low (r p) (good p) false at k le)
      field_sane (gaps p) at k le = sane_mapped at list (read_list l (r p) true at k) (list_sane low (r p) (good p) true at k le)
      field_sane text at k le = text_sane at k
      field_sane (byte a b) at k le = byte_sane a b at k
      field_sane mark at k le = mark_sane stage at k
      field_sane number at k le = number_sane at k

      slot_sane : (t : Sort) (bit at k : ℕ) → low ≤ at → Sane at (read_slot l stage r t bit at k)
      unfolding read_slot
      slot_sane t zero at k le = omega arith
      slot_sane t (suc bit) at k le = sane_mapped at (λ p fs. field p fs) (read_field l stage r t at k) (field_sane t at k le)

      fields_sane : (fs : List Field) (m at k : ℕ) → low ≤ at → Sane at (read_fields l stage r fs m at k)
      unfolding read_fields
      fields_sane [] m at k le = omega arith
      fields_sane (f ∷ fs) m at k le = sane_joined at (λ add gs. add gs) (read_slot l stage r (sort_in f) (m % 2) at k) (λ q j. read_fields l stage r fs (m / 2) q j) (slot_sane (sort_in f) (m % 2) at k le) (λ q j g. fields_sane fs (m / 2) q j (omega arith))

    past_end : (at : ℕ) → length l ≤ at → byte_at l at ≡ 256
    unfolding byte_at
    past_end at h = get_or-eq_default l 256 {n = at} h

    pub node_sane : (d p at k : ℕ) → length l ≤ at + d → Sane at (read_node l stage d p at k)
    unfolding read_node
    node_sane zero p at k h = sane_accepted at (ltb 0 (form_at stage p (byte_at l at))) (refused too_deep) (λ t. absurd (let e : byte_at l at ≡ 256 = past_end at (omega arith) in no_form (byte_at l at) e t))
      where
        no_form : (b : ℕ) → b ≡ 256 → ltb 0 (form_at stage p b) ≡ true → ⊥
        no_form b e t = elim (dec_lt 0 (form_at stage p b)) [ yes g ↦ let w : b < 64 = known stage p b g in omega arith | no g ↦ let u : ltb 0 (form_at stage p b) ≡ false = le-ltb 0 (form_at stage p b) (omega arith) in let w : ◌≡◌ {A = ℕ} 0 1 = cc in omega arith ]
    node_sane (suc d) p at k h =
        let f : ℕ = form_at stage p (byte_at l at) in
        let m : ℕ = byte_at l (at + 1) in
        sane_accepted at (ltb 0 f) (accepted (map_ok (fields_of f) m) (mapped (node at (byte_at l at)) (read_fields l stage (λ p' q j. read_node l stage d p' q j) (fields_of f) m (at + 2) k))) (λ t. sane_accepted at (map_ok (fields_of f) m) (mapped (node at (byte_at l at)) (read_fields l stage (λ p' q j. read_node l stage d p' q j) (fields_of f) m (at + 2) k)) (λ u.
        sane_mapped at (node at (byte_at l at)) (read_fields l stage (λ p' q j. read_node l stage d p' q j) (fields_of f) m (at + 2) k)
        (sane_from at (at + 2) (read_fields l stage (λ p' q j. read_node l stage d p' q j) (fields_of f) m (at + 2) k) (omega arith) (fields_sane (at + 2) (λ p' q j. read_node l stage d p' q j) (λ p' q j le. node_sane d p' q j (omega arith)) (fields_of f) m (at + 2) k (omega arith)))))

    not_deep : {A : Type 0} (at : ℕ) (g : Got A) → Sane at g → g ≡ refused too_deep → ⊥
    not_deep at g h e = subst (λ (x : Got _). Sane at x) e h

    -- more levels than bytes change nothing
    pub never_too_deep : (e d p at k : ℕ) → length l ≤ at + d → read_node l stage (d + e) p at k ≡ read_node l stage d p at k
    never_too_deep e d p at k h = ⊎_elim (λ w. absurd (not_deep at (read_node l stage d p at k) (node_sane d p at k h) w)) (λ w. w) (limit_law l stage e d p at k)

    -- with as many levels as bytes the reader of a node is its own body
    pub own_body : (p at k : ℕ) → read_node l stage (length l) p at k ≡ accepted (ltb 0 (form_at stage p (byte_at l at))) (accepted (map_ok (fields_of (form_at stage p (byte_at l at))) (byte_at l (at + 1))) (mapped (node at (byte_at l at)) (read_fields l stage (λ p' q j. read_node l stage (length l) p' q j) (fields_of (form_at stage p (byte_at l at))) (byte_at l (at + 1)) (at + 2) k)))
    unfolding read_node
    own_body p at k = sym (never_too_deep 1 (length l) p at k (omega arith)) ∙ ap (λ (d : ℕ). read_node l stage d p at k) (add_one (length l))
      where
        add_one : (n : ℕ) → n + 1 ≡ suc n
        add_one n = omega arith

    -- the whole tree
    pub tree_never_too_deep : (e : ℕ) → read_tree stage (length l + e) l ≡ read_tree stage (length l) l
    unfolding read_tree
    tree_never_too_deep e = ap (λ (g : Got Node). accepted (leb (length l) (longest stage)) (whole l g)) (never_too_deep e (length l) root 0 1 (omega arith))

    pub no_tree_too_deep : read_tree stage (length l) l ≡ refused too_deep → ⊥
    unfolding read_tree
    no_tree_too_deep e = not_deep 0 (read_tree stage (length l) l) (sane_accepted 0 (leb (length l) (longest stage)) (whole l (read_node l stage (length l) root 0 1)) (λ t. sane_whole (read_node l stage (length l) root 0 1) (node_sane (length l) root 0 1 (omega arith)))) e
      where
        sane_whole : (g : Got Node) → Sane 0 g → Sane 0 (whole l g)
        sane_whole (got n q k) h = sane_accepted 0 (eqb q (length l)) (got n q k) (λ t. h)
        sane_whole (refused not_a_tree) h = h
        sane_whole (refused too_deep) h = h
