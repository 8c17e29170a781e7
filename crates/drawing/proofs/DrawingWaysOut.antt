-- Nodes, fields and lists: one law for each way out of the code that draws them.
-- Assumes nothing.
use Rattle.std.proofs.Common.{◌≡◌, ℕ, zero, suc, ◌+◌, ◌-◌, ◌*◌, ◌/◌, ◌%◌, ◌<◌, ◌≤◌, Bool, true, false, cond, T, ltb, leb, List, [], ◌∷◌, ◌++◌, length, get_or, set, refl, ap, ◌∙◌, arith, leb→le, length-set, eq-eqb, ne_eqb}
use Rattle.tree.specs.Tree.{Node, Fields, Piece, Items, wide_bytes, encode, encode_fields, encode_piece, encode_items, map_of, count}
use Rattle.tree.specs.Tree.Node.{node}
use Rattle.tree.specs.Tree.Fields.{absent, field}
use Rattle.tree.specs.Tree.Piece.{one, list}
use Rattle.tree.specs.Tree.Items.{item}
use Rattle.tree.specs.Grammar.{Field, form_at, fields_of, kinds, variants}
use Rattle.tree.specs.Grammar.Stage.{input}
use Rattle.tree.specs.Read.{sort_in}
use Rattle.tree.specs.Rows.{field_of, fields_in_of, sort_from, sort_of}
use Rattle.tree.specs.WellFormed.{byte_in}
use Rattle.tree.proofs.Table.{both, both_left, both_right}
use Rattle.tree.proofs.GrammarRows.{NoKey, row_done, row_first, first_sort}
use Rattle.tree.proofs.ReaderCycle.{other_class}
use Rattle.drawing.specs.Xorshift.{step}
use Rattle.drawing.specs.Draw.{Drawn, mapped, joined, before, ends, kind_at, state_at, stands_at_of, settled_state, draw_items, draw_list, draw_number, draw_field, draw_fields, draw_node}
use Rattle.drawing.specs.Draw.Drawn.{drawn}
use Rattle.drawing.specs.Pen.{put, reach, Page, page, drew, drew_node, drew_items, drew_piece, drew_fields}
use Rattle.drawing.specs.declared.pen.Pen.{Pen}
use Rattle.drawing.proofs.DrawingWritten.{Put, Wide, pen, wrote, put_length, put_two, reach_two, put_again}

-- ---- a drawing inside another

pub drew_mapped : {A B : Type 0} (f : A → B) (bytes : B → List ℕ) (value : B → ℕ) (l : List ℕ) (at : ℕ) (g : Drawn A)
    → drew (λ a. bytes (f a)) (λ a. value (f a)) l at g ≡ drew bytes value l at (mapped f g)
unfolding drew
drew_mapped f bytes value l at (drawn a s b k) = refl

-- with bytes before it, and another value
drew_behind : {A B : Type 0} (f : A → B) (inner : A → List ℕ) (outer : B → List ℕ) (small : A → ℕ) (value : B → ℕ) (turned : ℕ → ℕ) (xs : List ℕ)
    → ((a : A) → outer (f a) ≡ xs ++ inner a) → ((a : A) → value (f a) ≡ turned (small a)) → (l l' : List ℕ) (at : ℕ) (h : Pen) (g : Drawn A)
    → page l' h ≡ drew inner small (put l at xs) (reach (length l) at xs) g
    → page l' (pen h.state h.more h.mark h.at (turned h.value)) ≡ drew outer value l at (mapped f g)
unfolding drew
drew_behind f inner outer small value turned xs b v l l' at h (drawn a s m k) e =
    rw (ap (λ (p : Page). p.bytes) e, ap (λ (p : Page). p.pen) e, b a, v a, put_two l at xs (inner a), reach_two (length l) at xs (inner a), put_length l at xs)

-- ---- lists

-- a node hands on no value
pub node_silent : (l l' : List ℕ) (at : ℕ) (h : Pen) (g : Drawn Node) → page l' h ≡ drew_node l at g → h.value ≡ 0
unfolding drew
node_silent l l' at h (drawn x s b k) e = ap (λ (p : Page). p.pen.value) e

unfoldable pub Counted : ℕ → Drawn Items → Type 0
Counted n (drawn is s b k) = count is ≡ n

counted_item : (n : ℕ) (x : Node) (g : Drawn Items) → Counted n g → Counted (suc n) (mapped (λ is. item x is) g)
unfolding Counted count
counted_item n x (drawn is s b k) e = ap suc e

counted_next : (n : ℕ) (g : Drawn Node) (rest : ℕ → ℕ → ℕ → Drawn Items) → ((s b k : ℕ) → Counted n (rest s b k)) → Counted (suc n) (joined (λ x is. item x is) g rest)
counted_next n (drawn x s b k) rest c = counted_item n x (rest s b k) (c s b k)

module _ (r : ℕ → ℕ → ℕ → Drawn Node) where
  counted : (n s b k : ℕ) → Counted n (draw_items r n s b k)
  unfolding Counted draw_items count
  counted zero s b k = refl
  counted (suc n) s b k = counted_next n (r s b k) (λ s' b' k'. draw_items r n s' b' k') (counted n)

  -- the count, and then the items
  list_counted : (n : ℕ) (l l₁ : List ℕ) (at a₁ : ℕ) (g : Drawn Items) → Counted n g → Wide l at n a₁ l₁ → drew_items l₁ a₁ g ≡ drew_piece l at (mapped list g)
  unfolding drew Counted encode_piece
  list_counted n l l₁ at a₁ (drawn is s b k) c e =
      rw (c, put_two l at (wide_bytes n) (encode_items is), reach_two (length l) at (wide_bytes n) (encode_items is), e.1, e.0, put_length l at (wide_bytes n))

  module _ (deep : Bool) (l : List ℕ) (at s b k : ℕ) where
    pub list_cut : (a₁ : ℕ) (l₁ : List ℕ) → true ≡ ends deep b → Wide l at 0 a₁ l₁ → page l₁ (pen s b k a₁ 0) ≡ drew_piece l at (mapped list (draw_list r deep s b k))
    unfolding draw_list drew encode_piece encode_items count put reach
    list_cut a₁ l₁ c e = rw (← c, e.1, e.0)

    pub list_drawn : (x n a₁ : ℕ) (l₁ l₂ : List ℕ) (h : Pen) → false ≡ ends deep b → x ≡ step s → n ≡ x % 4 → Wide l at n a₁ l₁ → page l₂ h ≡ drew_items l₁ a₁ (draw_items r n x b k)
        → page l₂ h ≡ drew_piece l at (mapped list (draw_list r deep s b k))
    unfolding draw_list
    list_drawn x n a₁ l₁ l₂ h c z m w e = e ∙ list_counted n l l₁ at a₁ (draw_items r n x b k) (counted n x b k) w ∙ rw (← c, ← z, ← m)

  items_behind : (x : Node) (l : List ℕ) (at : ℕ) (g : Drawn Items) → drew_items (put l at (encode x)) (reach (length l) at (encode x)) g ≡ drew_items l at (mapped (λ is. item x is) g)
  unfolding drew encode_items
  items_behind x l at (drawn is s b k) = rw (put_two l at (encode x) (encode_items is), reach_two (length l) at (encode x) (encode_items is), put_length l at (encode x))

  -- one item, and then the others
  item_next : (rest : ℕ → ℕ → ℕ → Drawn Items) (l l' : List ℕ) (at : ℕ) (h : Pen) (g : Drawn Node) → page l' h ≡ drew_node l at g
      → drew_items l' h.at (rest h.state h.more h.mark) ≡ drew_items l at (joined (λ x is. item x is) g rest)
  unfolding drew
  item_next rest l l' at h (drawn x s b k) e = rw (ap (λ (p : Page). p.bytes) e, ap (λ (p : Page). p.pen) e) (items_behind x l at (rest s b k))

  pub items_again : (n m : ℕ) (l l' : List ℕ) (g h : Pen) → 0 < n → m ≡ n - 1 → page l' h ≡ drew_node l g.at (r g.state g.more g.mark)
      → drew_items l' h.at (draw_items r m h.state h.more h.mark) ≡ drew_items l g.at (draw_items r n g.state g.more g.mark)
  unfolding draw_items
  items_again zero m l l' g h p q e = absurd (omega arith)
  items_again (suc n) m l l' g h p q e =
      let w : m ≡ n = omega arith in
      rw w (item_next (λ s b k. draw_items r n s b k) l l' g.at h (r g.state g.more g.mark) e)

  pub items_end : (n : ℕ) (l : List ℕ) (h : Pen) → n ≤ 0 → h.value ≡ 0 → page l h ≡ drew_items l h.at (draw_items r n h.state h.more h.mark)
  unfolding draw_items drew put reach encode_items
  items_end zero l h p v = rw (← v)
  items_end (suc n) l h p v = absurd (omega arith)

-- ---- a field by its code

module _ (r : ℕ → ℕ → ℕ → ℕ → Drawn Node) (deep : Bool) (code v : ℕ) (l : List ℕ) (at s b k : ℕ) (q : Page) where
  -- the field of a code whose class is n
  pub slot_class : (n : ℕ) → code / 32 ≡ n → q ≡ drew_piece l at (draw_field r deep v (sort_from n (code % 32)) s b k) → q ≡ drew_piece l at (draw_field r deep v (sort_of code) s b k)
  slot_class n e w = rw e w

  -- that whose class has no arm of its own
  pub slot_number : NoKey Unit 1 9 (code / 32) → q ≡ drew_piece l at (draw_number s b k) → q ≡ drew_piece l at (draw_field r deep v (sort_of code) s b k)
  unfolding draw_field
  slot_number h w = rw (← other_class (code / 32) (code % 32) h) w

  node_piece : (g : Drawn Node) → q ≡ drew_node l at g → q ≡ drew_piece l at (mapped one g)
  unfolding encode_piece
  node_piece g w = w ∙ drew_mapped one encode_piece byte_in l at g

  pub slot_node : code / 32 ≡ 1 → q ≡ drew_node l at (r (code % 32) s b k) → q ≡ drew_piece l at (draw_field r deep v (sort_of code) s b k)
  unfolding draw_field
  slot_node e w = slot_class 1 e (node_piece (r (code % 32) s b k) w)

  pub slot_first : code / 32 ≡ 2 → v ≡ 1 → q ≡ drew_node l at (r (code % 32) s b k) → q ≡ drew_piece l at (draw_field r deep v (sort_of code) s b k)
  unfolding draw_field
  slot_first e o w = slot_class 2 e (rw (eq-eqb v 1 o) (node_piece (r (code % 32) s b k) w))

  pub slot_second : code / 32 ≡ 2 → (v ≡ 1 → ⊥) → q ≡ drew_node l at (r (code % 32 + 1) s b k) → q ≡ drew_piece l at (draw_field r deep v (sort_of code) s b k)
  unfolding draw_field
  slot_second e o w = slot_class 2 e (rw (ne_eqb v 1 o) (node_piece (r (code % 32 + 1) s b k) w))

-- ---- fields

module _ (r : ℕ → ℕ → ℕ → ℕ → Drawn Node) (deep : Bool) where
  pub fields_done : (row v : ℕ) (l : List ℕ) (at s b k : ℕ) → row ≡ 0 → page l (pen s b k at 0) ≡ drew_fields l at (draw_fields r deep (fields_in_of row) v s b k)
  unfolding draw_fields drew put reach encode_fields map_of
  fields_done row v l at s b k e = rw (row_done row e)

  -- a field that stands, and the fields behind it
  field_next : (rest : ℕ → ℕ → ℕ → ℕ → Drawn Fields) (l l₁ l₂ : List ℕ) (at : ℕ) (h i : Pen) (g : Drawn Piece) → page l₁ h ≡ drew_piece l at g
      → page l₂ i ≡ drew_fields l₁ h.at (rest h.value h.state h.more h.mark)
      → page l₂ (pen i.state i.more i.mark i.at (1 + 2 * (i.value % 128))) ≡ drew_fields l at (before g rest)
  unfolding drew encode_fields map_of
  field_next rest l l₁ l₂ at h i (drawn p s b k) e f =
      drew_behind (λ fs. field p fs) encode_fields encode_fields (λ fs. map_of fs % 256) (λ fs. map_of fs % 256) (λ v. 1 + 2 * (v % 128)) (encode_piece p) (λ fs. refl) (λ fs. omega arith) l l₂ at i (rest (byte_in p) s b k)
      (f ∙ rw (ap (λ (p : Page). p.bytes) e, ap (λ (p : Page). p.pen) e))

  -- one that does not
  absent_next : (l l₁ : List ℕ) (at : ℕ) (i : Pen) (g : Drawn Fields) → page l₁ i ≡ drew_fields l at g
      → page l₁ (pen i.state i.more i.mark i.at (2 * (i.value % 128))) ≡ drew_fields l at (mapped absent g)
  unfolding put reach encode_fields map_of
  absent_next l l₁ at i g e =
      drew_behind (λ fs. absent fs) encode_fields encode_fields (λ fs. map_of fs % 256) (λ fs. map_of fs % 256) (λ v. 2 * (v % 128)) [] (λ fs. refl) (λ fs. omega arith) l l₁ at i g e

  module _ (row v : ℕ) (l : List ℕ) (at s b k t : ℕ) (some : row ≡ 0 → ⊥) where
    pub fields_stand : (l₁ l₂ : List ℕ) (h i : Pen) → true ≡ stands_at_of deep (field_of (row % 1024)) s b → t ≡ settled_state deep (field_of (row % 1024)) s b
        → page l₁ h ≡ drew_piece l at (draw_field r deep v (sort_of (row % 512)) t b k)
        → page l₂ i ≡ drew_fields l₁ h.at (draw_fields r deep (fields_in_of (row / 1024)) h.value h.state h.more h.mark)
        → page l₂ (pen i.state i.more i.mark i.at (1 + 2 * (i.value % 128))) ≡ drew_fields l at (draw_fields r deep (fields_in_of row) v s b k)
    unfolding draw_fields
    fields_stand l₁ l₂ h i a z e f =
        rw (row_first row (omega arith), ← a, first_sort row, ← z)
        (field_next (λ w s' b' k'. draw_fields r deep (fields_in_of (row / 1024)) w s' b' k') l l₁ l₂ at h i (draw_field r deep v (sort_of (row % 512)) t b k) e f)

    pub fields_skip : (l₁ : List ℕ) (i : Pen) → false ≡ stands_at_of deep (field_of (row % 1024)) s b → t ≡ settled_state deep (field_of (row % 1024)) s b
        → page l₁ i ≡ drew_fields l at (draw_fields r deep (fields_in_of (row / 1024)) 0 t b k)
        → page l₁ (pen i.state i.more i.mark i.at (2 * (i.value % 128))) ≡ drew_fields l at (draw_fields r deep (fields_in_of row) v s b k)
    unfolding draw_fields
    fields_skip l₁ i a z e = rw (row_first row (omega arith), ← a, ← z) (absent_next l l₁ at i (draw_fields r deep (fields_in_of (row / 1024)) 0 t b k) e)

-- ---- the bit map of a form is a byte

unfoldable pub twice : List Field → ℕ
twice [] = 1
twice (f ∷ fs) = 2 * twice fs

unfoldable pub Mapped : ℕ → Drawn Fields → Type 0
Mapped n (drawn fs s b k) = map_of fs < n

mapped_absent : (n : ℕ) (g : Drawn Fields) → Mapped n g → Mapped (2 * n) (mapped absent g)
unfolding Mapped map_of
mapped_absent n (drawn fs s b k) h = omega arith

mapped_field : (n : ℕ) (p : Piece) (g : Drawn Fields) → Mapped n g → Mapped (2 * n) (mapped (λ fs. field p fs) g)
unfolding Mapped map_of
mapped_field n p (drawn fs s b k) h = omega arith

mapped_before : (n : ℕ) (g : Drawn Piece) (rest : ℕ → ℕ → ℕ → ℕ → Drawn Fields) → ((v s b k : ℕ) → Mapped n (rest v s b k)) → Mapped (2 * n) (before g rest)
mapped_before n (drawn p s b k) rest h = mapped_field n p (rest (byte_in p) s b k) (h (byte_in p) s b k)

map_either : (n : ℕ) (c : Bool) (g h : Drawn Fields) → Mapped n g → Mapped n h → Mapped n (cond c g h)
map_either n true g h x y = x
map_either n false g h x y = y

pub map_below : (r : ℕ → ℕ → ℕ → ℕ → Drawn Node) (deep : Bool) (fs : List Field) (v s b k : ℕ) → Mapped (twice fs) (draw_fields r deep fs v s b k)
unfolding draw_fields twice Mapped map_of
map_below r deep [] v s b k = omega arith
map_below r deep (f ∷ fs) v s b k =
    map_either (2 * twice fs) (stands_at_of deep f s b) _ _
    (mapped_before (twice fs) (draw_field r deep v (sort_in f) (settled_state deep f s b) b k) (λ w s' b' k'. draw_fields r deep fs w s' b' k') (λ w s' b' k'. map_below r deep fs w s' b' k'))
    (mapped_absent (twice fs) (draw_fields r deep fs 0 (settled_state deep f s b) b k) (map_below r deep fs 0 (settled_state deep f s b) b k))

-- no form has more than six fields
unfoldable pub few_fields : List (List Field) → Bool
few_fields [] = true
few_fields (fs ∷ rest) = both (leb (twice fs) 64) (both (leb (length fs) 6) (few_fields rest))

few_at : (l : List (List Field)) → T (few_fields l) → (i : ℕ) → (twice (get_or l i []) ≤ 64) × (length (get_or l i []) ≤ 6)
unfolding few_fields twice
few_at [] t i = (omega arith, omega arith)
few_at (fs ∷ rest) t zero = (leb→le _ _ (both_left (leb (twice fs) 64) (both (leb (length fs) 6) (few_fields rest)) t), leb→le _ _ (both_left (leb (length fs) 6) (few_fields rest) (both_right (leb (twice fs) 64) (both (leb (length fs) 6) (few_fields rest)) t)))
few_at (fs ∷ rest) t (suc i) = few_at rest (both_right (leb (length fs) 6) (few_fields rest) (both_right (leb (twice fs) 64) (both (leb (length fs) 6) (few_fields rest)) t)) i

kinds_few : T (few_fields kinds)
unfolding few_fields twice kinds
kinds_few = tt

variants_few : T (few_fields variants)
unfolding few_fields twice variants
variants_few = tt

pub few : (f : ℕ) → (twice (fields_of f) ≤ 64) × (length (fields_of f) ≤ 6)
unfolding fields_of
few f = go (ltb f 64)
  where
    go : (c : Bool) → (twice (cond c (get_or kinds f []) (get_or variants (f - 64) [])) ≤ 64) × (length (cond c (get_or kinds f []) (get_or variants (f - 64) [])) ≤ 6)
    go true = few_at kinds kinds_few f
    go false = few_at variants variants_few (f - 64)

-- ---- nodes

-- no levels are left
pub node_none : (left p : ℕ) (l : List ℕ) (at s b k a₁ : ℕ) (l₁ : List ℕ) → left ≡ 0 → Wide l at 0 a₁ l₁ → page l₁ (pen s b k a₁ 0) ≡ drew_node l at (draw_node left p s b k)
unfolding draw_node drew encode encode_fields map_of
node_none left p l at s b k a₁ l₁ z e = rw (z, e.1, e.0)

-- the kind, a place for the bit map, the fields, and then the bit map
node_bytes : (kind m : ℕ) (xs l l₁ l₂ : List ℕ) (at a₁ a₂ : ℕ) → Put l at kind a₁ l₁ → Put l₁ a₁ 0 a₂ l₂ → set (put l₂ a₂ xs) a₁ m ≡ put l at (kind ∷ m ∷ xs)
unfolding put
node_bytes kind m xs l l₁ l₂ at a₁ a₂ e₁ e₂ = rw (e₂.1, e₂.0) (put_again l₁ a₁ 0 m xs ∙ rw (e₁.1, e₁.0))

node_end : (kind m : ℕ) (xs l l₁ l₂ : List ℕ) (at a₁ a₂ : ℕ) → Put l at kind a₁ l₁ → Put l₁ a₁ 0 a₂ l₂ → reach (length l₂) a₂ xs ≡ reach (length l) at (kind ∷ m ∷ xs)
unfolding reach
node_end kind m xs l l₁ l₂ at a₁ a₂ e₁ e₂ = rw (e₂.1, e₂.0, length-set l₁ a₁ 0, e₁.1, e₁.0, length-set l at kind)

node_close : (kind : ℕ) (l l₁ l₂ l₃ l₄ : List ℕ) (at a₁ a₂ a₃ : ℕ) (h : Pen) (g : Drawn Fields) → Mapped 64 g → Put l at kind a₁ l₁ → Put l₁ a₁ 0 a₂ l₂ → page l₃ h ≡ drew_fields l₂ a₂ g → Put l₃ a₁ h.value a₃ l₄
    → page l₄ (pen h.state h.more h.mark h.at 0) ≡ drew_node l at (mapped (node 0 kind) g)
unfolding drew Mapped encode
node_close kind l l₁ l₂ l₃ l₄ at a₁ a₂ a₃ h (drawn fs s b k) small e₁ e₂ e₃ e₄ =
    let byte : map_of fs % 256 ≡ map_of fs = omega arith in
    let val : h.value ≡ map_of fs = ap (λ (p : Page). p.pen.value) e₃ ∙ byte in
    let end : h.at ≡ reach (length l) at (kind ∷ map_of fs ∷ encode_fields fs) = ap (λ (p : Page). p.pen.at) e₃ ∙ node_end kind (map_of fs) (encode_fields fs) l l₁ l₂ at a₁ a₂ e₁ e₂ in
    let out : l₄ ≡ put l at (kind ∷ map_of fs ∷ encode_fields fs) = e₄.1 ∙ rw (ap (λ (p : Page). p.bytes) e₃, val) (node_bytes kind (map_of fs) (encode_fields fs) l l₁ l₂ at a₁ a₂ e₁ e₂) in
    rw (ap (λ (p : Page). p.pen.state) e₃, ap (λ (p : Page). p.pen.more) e₃, ap (λ (p : Page). p.pen.mark) e₃)
    (wrote encode (λ n. 0) (node 0 kind fs) s b k l l₄ at h.at 0 out end refl)

widen : (g : Drawn Fields) (x y : ℕ) → x ≤ y → Mapped x g → Mapped y g
unfolding Mapped
widen (drawn fs s b k) x y le q = omega arith

pub node_drawn : (left d p : ℕ) (l l₁ l₂ l₃ l₄ : List ℕ) (at a₁ a₂ a₃ s b k kind t form row m : ℕ) (h : Pen) → left ≡ suc d
    → (kind ≡ kind_at (leb d 1) p s b) × (t ≡ state_at (leb d 1) p s b) → form ≡ form_at input p kind → fields_in_of row ≡ fields_of form → m ≡ b - 1
    → Put l at kind a₁ l₁ → Put l₁ a₁ 0 a₂ l₂ → page l₃ h ≡ drew_fields l₂ a₂ (draw_fields (draw_node d) (leb d 1) (fields_in_of row) 0 t m k) → Put l₃ a₁ h.value a₃ l₄
    → page l₄ (pen h.state h.more h.mark h.at 0) ≡ drew_node l at (draw_node left p s b k)
unfolding draw_node
node_drawn left d p l l₁ l₂ l₃ l₄ at a₁ a₂ a₃ s b k kind t form row m h z c f w n e₁ e₂ e₃ e₄ =
    node_close kind l l₁ l₂ l₃ l₄ at a₁ a₂ a₃ h (draw_fields (draw_node d) (leb d 1) (fields_in_of row) 0 t m k)
    (widen (draw_fields (draw_node d) (leb d 1) (fields_in_of row) 0 t m k) (twice (fields_in_of row)) 64 (rw w (few form).0) (map_below (draw_node d) (leb d 1) (fields_in_of row) 0 t m k))
    e₁ e₂ e₃ e₄
    ∙ rw (z, ← c.0, ← c.1, ← n, ← f, ← w)

-- ---- what falls

pub fields_fall : (row : ℕ) → (row ≡ 0 → ⊥) → length (fields_in_of row) ≡ suc (length (fields_in_of (row / 1024)))
fields_fall row n = ap length (row_first row (omega arith))

pub row_few : (row form : ℕ) → fields_in_of row ≡ fields_of form → length (fields_in_of row) ≤ 6
row_few row form w = rw w (few form).1
