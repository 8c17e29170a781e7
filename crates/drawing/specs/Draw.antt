-- The drawn tree: top down, by the grammar's own data. Every draw is the next number of the generator.
use Rattle.std.specs.Prelude.{ℕ, zero, suc, ◌+◌, ◌-◌, ◌%◌, min, Bool, true, false, cond, ◌||◌, List, [], ◌∷◌, length, ◌==◌, nat_le, nat_lt, slice_index}
use Rattle.tree.specs.Tree.{Node, Fields, Piece, Items}
use Rattle.tree.specs.Tree.Node.{node}
use Rattle.tree.specs.Tree.Fields.{done, absent, field}
use Rattle.tree.specs.Tree.Piece.{one, list, text, byte, mark, number}
use Rattle.tree.specs.Tree.Items.{none, item}
use Rattle.tree.specs.Grammar.{Sort, Field, root, form_at, fields_of, places}
use Rattle.tree.specs.Grammar.Sort.{child, chosen, many, gaps}
use Rattle.tree.specs.Grammar.Field.{must, may}
use Rattle.tree.specs.Grammar.Stage.{input}
use Rattle.tree.specs.Read.{sort_in}
use Rattle.tree.specs.WellFormed.{byte_in}
use Rattle.drawing.specs.Xorshift.{step}

-- ---- the kinds allowed at a place, rising

-- of the n kinds from k on
unfoldable pub kinds_from : ℕ → ℕ → ℕ → List ℕ
kinds_from p zero k = []
kinds_from p (suc n) k = cond (nat_lt 0 (form_at input p k)) (k ∷ kinds_from p n (suc k)) (kinds_from p n (suc k))

unfoldable pub rising : ℕ → List ℕ
rising p = kinds_from p 64 0

-- ---- the shortest node of a place: lists empty, optional fields absent, texts of one byte, the nodes it must have the shortest in turn

-- the bytes of a field, where a table has the bytes of the shortest node of each place
unfoldable pub sort_bytes : List ℕ → Sort → ℕ
sort_bytes t (child p) = slice_index t p
sort_bytes t (chosen p q) = min (slice_index t p) (slice_index t q)
sort_bytes t (many p) = 2
sort_bytes t (gaps p) = 2
sort_bytes t Sort.text = 3
sort_bytes t (Sort.byte low high) = 1
sort_bytes t Sort.mark = 2
sort_bytes t Sort.number = 2

unfoldable pub form_bytes : List ℕ → List Field → ℕ
form_bytes t [] = 2
form_bytes t (must s ∷ fs) = sort_bytes t s + form_bytes t fs
form_bytes t (may s ∷ fs) = form_bytes t fs

unfoldable pub kind_bytes : List ℕ → ℕ → ℕ → ℕ
kind_bytes t p k = form_bytes t (fields_of (form_at input p k))

-- the best so far is the kind k with n bytes; a later one must be shorter
unfoldable pub least_of : List ℕ → ℕ → List ℕ → ℕ → ℕ → ℕ
least_of t p [] k n = k
least_of t p (j ∷ ks) k n = cond (nat_lt (kind_bytes t p j) n) (least_of t p ks j (kind_bytes t p j)) (least_of t p ks k n)

-- more than any node has
abbrev pub unknown : ℕ
unknown = 65536

unfoldable pub least_kind : List ℕ → ℕ → ℕ
least_kind t p = least_of t p (rising p) 0 unknown

-- the bytes of the shortest node of each place by a table with those of a level less
unfoldable pub better_from : List ℕ → List (List ℕ) → ℕ → List ℕ
better_from t [] p = []
better_from t (fs ∷ ps) p = kind_bytes t p (least_kind t p) ∷ better_from t ps (suc p)

unfoldable pub unknowns : List (List ℕ) → List ℕ
unknowns [] = []
unknowns (fs ∷ ps) = unknown ∷ unknowns ps

-- the bytes of the shortest node of each place, of at most n levels
unfoldable pub bytes_within : ℕ → List ℕ
bytes_within zero = unknowns places
bytes_within (suc n) = better_from (bytes_within n) places 0

-- three levels are enough: more change nothing (`enough`)
unfoldable pub shortest : ℕ → ℕ
shortest p = least_kind (bytes_within 3) p

-- ---- drawing

-- What is drawn, and then: the generator's state, how many nodes are still to be begun before all is cut short, the next mark.
pub data Drawn (A : Type 0) : Type 0 where
  drawn : A → ℕ → ℕ → ℕ → Drawn A

abbrev pub mapped : {A B : Type 0} → (A → B) → Drawn A → Drawn B
mapped f (drawn a s b k) = drawn (f a) s b k

abbrev pub joined : {A B C : Type 0} → (A → B → C) → Drawn A → (ℕ → ℕ → ℕ → Drawn B) → Drawn C
joined f (drawn a s b k) rest = mapped (f a) (rest s b k)

-- a field that stands, and the fields behind it, which get the byte that it holds
abbrev pub before : Drawn Piece → (ℕ → ℕ → ℕ → ℕ → Drawn Fields) → Drawn Fields
before (drawn p s b k) rest = mapped (field p) (rest (byte_in p) s b k)

-- from depth 12 on, and once 400 nodes are begun
unfoldable pub ends : Bool → ℕ → Bool
ends deep b = deep || b == 0

-- ---- r draws a node

unfoldable pub draw_items : (ℕ → ℕ → ℕ → Drawn Node) → ℕ → ℕ → ℕ → ℕ → Drawn Items
draw_items r zero s b k = drawn none s b k
draw_items r (suc n) s b k = joined (λ x is. item x is) (r s b k) (λ s' b' k'. draw_items r n s' b' k')

unfoldable pub draw_list : (ℕ → ℕ → ℕ → Drawn Node) → Bool → ℕ → ℕ → ℕ → Drawn Items
draw_list r deep s b k = cond (ends deep b) (drawn none s b k) (draw_items r (step s % 4) (step s) b k)

-- one letter
unfoldable pub draw_text : ℕ → ℕ → ℕ → Drawn Piece
draw_text s b k = drawn (text ((97 + step s % 26) ∷ [])) (step s) b k

unfoldable pub draw_number : ℕ → ℕ → ℕ → Drawn Piece
draw_number s b k = drawn (number (step s % 65536)) (step s) b k

-- A mark is a number of 16 bits. No drawing has so many that they come round (`drawn_accepted`).
unfoldable pub draw_mark : ℕ → ℕ → ℕ → Drawn Piece
draw_mark s b k = drawn (mark k) s b (suc k % 65536)

-- a lone value is not drawn
unfoldable pub draw_byte : ℕ → ℕ → ℕ → ℕ → ℕ → Drawn Piece
draw_byte low high s b k =
    cond (nat_le high low) (drawn (byte low) s b k) (drawn (byte (low + step s % suc (high - low))) (step s) b k)

-- ---- r draws a node at a place; v is the byte that the field before holds

unfoldable pub draw_field : (ℕ → ℕ → ℕ → ℕ → Drawn Node) → Bool → ℕ → Sort → ℕ → ℕ → ℕ → Drawn Piece
draw_field r deep v (child p) s b k = mapped one (r p s b k)
draw_field r deep v (chosen p q) s b k = mapped one (r (cond (v == 1) p q) s b k)
draw_field r deep v (many p) s b k = mapped list (draw_list (r p) deep s b k)
draw_field r deep v (gaps p) s b k = mapped list (draw_list (r p) deep s b k)
draw_field r deep v Sort.text s b k = draw_text s b k
draw_field r deep v (Sort.byte low high) s b k = draw_byte low high s b k
draw_field r deep v Sort.mark s b k = draw_mark s b k
draw_field r deep v Sort.number s b k = draw_number s b k

-- an optional field stands if its draw, made just before it, is odd
unfoldable pub stands_at_of : Bool → Field → ℕ → ℕ → Bool
stands_at_of deep (must t) s b = true
stands_at_of deep (may t) s b = cond (ends deep b) false (step s % 2 == 1)

unfoldable pub settled_state : Bool → Field → ℕ → ℕ → ℕ
settled_state deep (must t) s b = s
settled_state deep (may t) s b = cond (ends deep b) s (step s)

unfoldable pub draw_fields : (ℕ → ℕ → ℕ → ℕ → Drawn Node) → Bool → List Field → ℕ → ℕ → ℕ → ℕ → Drawn Fields
draw_fields r deep [] v s b k = drawn done s b k
draw_fields r deep (f ∷ fs) v s b k =
    cond (stands_at_of deep f s b)
    (before (draw_field r deep v (sort_in f) (settled_state deep f s b) b k) (λ w s' b' k'. draw_fields r deep fs w s' b' k'))
    (mapped absent (draw_fields r deep fs 0 (settled_state deep f s b) b k))

-- the kind at a place: a lone one, the shortest, or a drawn one
unfoldable pub kind_at : Bool → ℕ → ℕ → ℕ → ℕ
kind_at deep p s b =
    cond (nat_le (length (rising p)) 1) (slice_index (rising p) 0)
    (cond (ends deep b) (shortest p) (slice_index (rising p) (step s % length (rising p))))

unfoldable pub state_at : Bool → ℕ → ℕ → ℕ → ℕ
state_at deep p s b = cond (nat_le (length (rising p)) 1) s (cond (ends deep b) s (step s))

-- a node at a place, d levels left: with 13 left the depth is 1, with 2 left it is 12
unfoldable pub draw_node : ℕ → ℕ → ℕ → ℕ → ℕ → Drawn Node
draw_node zero p s b k = drawn (node 0 0 done) s b k  -- never met from `levels` on
draw_node (suc d) p s b k =
    mapped (node 0 (kind_at (nat_le d 1) p s b))
    (draw_fields (λ p' s' b' k'. draw_node d p' s' b' k') (nat_le d 1) (fields_of (form_at input p (kind_at (nat_le d 1) p s b))) 0 (state_at (nat_le d 1) p s b) (b - 1) k)

-- no drawn tree is deeper
abbrev pub levels : ℕ
levels = 13

-- once so many nodes are begun, the rest is cut short
abbrev pub most : ℕ
most = 400

unfoldable pub draw_tree : ℕ → Drawn Node
draw_tree seed = draw_node levels root seed most 1
