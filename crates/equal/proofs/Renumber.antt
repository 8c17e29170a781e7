-- Renumbering: what it does to the numbers, twice, and where two renumberings agree. The same of a tree and of a result.
-- Assumes nothing.
use mathlib.Core.Path.{◌≡◌, refl, sym, ap, ap₂, ◌∙◌}
use mathlib.Core.Bool.{Bool, true, false, cond}
use mathlib.Core.List.{List, [], ◌∷◌, ◌++◌}
use Prim.Native.Nat.{ℕ}
use lib.Dec.{eqb}
use Rattle.tree.specs.Tree.{Node, Fields, Piece, Items}
use Rattle.tree.specs.Tree.Node.{node}
use Rattle.tree.specs.Tree.Fields.{done, absent, field}
use Rattle.tree.specs.Tree.Piece.{one, list, text, byte, mark, number}
use Rattle.tree.specs.Tree.Items.{none, hole, item}
use Rattle.lowering.specs.Collect.{Entry, over}
use Rattle.lowering.proofs.Appearance.{In, here, in_first, in_second}
use Rattle.equal.specs.Canonical.{Written, numbers, numbers_fields, numbers_piece, numbers_items, renumbered, renumbered_fields, renumbered_piece, renumbered_items, numbers_list, numbers_written, each_entry, renumbered_written}
use Rattle.equal.proofs.PlacesByAppearance.{changed}

-- what is known of things that have numbers, and of their renumbering
pub record Renumbers {X : Type 0} (of : X → List ℕ) (to : (ℕ → ℕ) → X → X) : Type 0 where
  pub numbers : (f : ℕ → ℕ) (x : X) → of (to f x) ≡ changed f (of x)
  pub twice : (f g : ℕ → ℕ) (x : X) → to f (to g x) ≡ to (λ a. f (g a)) x
  pub agree : (f g : ℕ → ℕ) (x : X) → ((a : ℕ) → In a (of x) → f a ≡ g a) → to f x ≡ to g x
  pub nothing : (x : X) → to (λ a. a) x ≡ x

pub changed_append : (f : ℕ → ℕ) (xs ys : List ℕ) → changed f (xs ++ ys) ≡ changed f xs ++ changed f ys
changed_append f [] ys = refl
changed_append f (x ∷ xs) ys = ap (λ (zs : List ℕ). f x ∷ zs) (changed_append f xs ys)

-- ---- trees

number_changed : (f : ℕ → ℕ) (t : Bool) (b : ℕ) → cond t (cond t (f b) b ∷ []) [] ≡ changed f (cond t (b ∷ []) [])
number_changed f true b = refl
number_changed f false b = refl

number_twice : (f g : ℕ → ℕ) (t : Bool) (b : ℕ) → cond t (f (cond t (g b) b)) (cond t (g b) b) ≡ cond t (f (g b)) b
number_twice f g true b = refl
number_twice f g false b = refl

number_agree : (f g : ℕ → ℕ) (t : Bool) (b : ℕ) → ((a : ℕ) → In a (cond t (b ∷ []) []) → f a ≡ g a) → cond t (f b) b ≡ cond t (g b) b
number_agree f g true b h = h b (here refl)
number_agree f g false b h = refl

number_itself : (t : Bool) (b : ℕ) → cond t b b ≡ b
number_itself true b = refl
number_itself false b = refl

module _ (f : ℕ → ℕ) where
  mutual
    unfolding numbers renumbered

    node_numbers : (n : Node) → numbers (renumbered f n) ≡ changed f (numbers n)
    node_numbers (node at k fs) = fields_numbers (eqb k 20) fs

    fields_numbers : (t : Bool) (fs : Fields) → numbers_fields t (renumbered_fields f t fs) ≡ changed f (numbers_fields t fs)
    fields_numbers t done = refl
    fields_numbers t (absent fs) = fields_numbers t fs
    fields_numbers t (field p fs) =
        ap₂ (λ (xs ys : List ℕ). xs ++ ys) (piece_numbers t p) (fields_numbers false fs)
        ∙ sym (changed_append f (numbers_piece t p) (numbers_fields false fs))

    piece_numbers : (t : Bool) (p : Piece) → numbers_piece t (renumbered_piece f t p) ≡ changed f (numbers_piece t p)
    piece_numbers t (one n) = node_numbers n
    piece_numbers t (list is) = items_numbers is
    piece_numbers t (text bs) = refl
    piece_numbers t (byte b) = refl
    piece_numbers t (mark b) = refl
    piece_numbers t (number b) = number_changed f t b

    pub items_numbers : (is : Items) → numbers_items (renumbered_items f is) ≡ changed f (numbers_items is)
    items_numbers none = refl
    items_numbers (hole is) = items_numbers is
    items_numbers (item n is) =
        ap₂ (λ (xs ys : List ℕ). xs ++ ys) (node_numbers n) (items_numbers is) ∙ sym (changed_append f (numbers n) (numbers_items is))

module _ (f g : ℕ → ℕ) where
  mutual
    unfolding renumbered

    node_twice : (n : Node) → renumbered f (renumbered g n) ≡ renumbered (λ a. f (g a)) n
    node_twice (node at k fs) = ap (node at k) (fields_twice (eqb k 20) fs)

    fields_twice : (t : Bool) (fs : Fields) → renumbered_fields f t (renumbered_fields g t fs) ≡ renumbered_fields (λ a. f (g a)) t fs
    fields_twice t done = refl
    fields_twice t (absent fs) = ap absent (fields_twice t fs)
    fields_twice t (field p fs) = ap₂ field (piece_twice t p) (fields_twice false fs)

    piece_twice : (t : Bool) (p : Piece) → renumbered_piece f t (renumbered_piece g t p) ≡ renumbered_piece (λ a. f (g a)) t p
    piece_twice t (one n) = ap one (node_twice n)
    piece_twice t (list is) = ap list (items_twice is)
    piece_twice t (text bs) = refl
    piece_twice t (byte b) = refl
    piece_twice t (mark b) = refl
    piece_twice t (number b) = ap number (number_twice f g t b)

    items_twice : (is : Items) → renumbered_items f (renumbered_items g is) ≡ renumbered_items (λ a. f (g a)) is
    items_twice none = refl
    items_twice (hole is) = ap hole (items_twice is)
    items_twice (item n is) = ap₂ item (node_twice n) (items_twice is)

  -- f and g agree on the numbers
  abbrev Agree : List ℕ → Type 0
  Agree xs = (a : ℕ) → In a xs → f a ≡ g a

  pub first : (xs ys : List ℕ) → Agree (xs ++ ys) → Agree xs
  first xs ys h a i = h a (in_first ys i)

  pub second : (xs ys : List ℕ) → Agree (xs ++ ys) → Agree ys
  second xs ys h a i = h a (in_second xs i)

  mutual
    unfolding numbers renumbered

    node_agree : (n : Node) → Agree (numbers n) → renumbered f n ≡ renumbered g n
    node_agree (node at k fs) h = ap (node at k) (fields_agree (eqb k 20) fs h)

    fields_agree : (t : Bool) (fs : Fields) → Agree (numbers_fields t fs) → renumbered_fields f t fs ≡ renumbered_fields g t fs
    fields_agree t done h = refl
    fields_agree t (absent fs) h = ap absent (fields_agree t fs h)
    fields_agree t (field p fs) h =
        ap₂ field
        (piece_agree t p (first (numbers_piece t p) (numbers_fields false fs) h))
        (fields_agree false fs (second (numbers_piece t p) (numbers_fields false fs) h))

    piece_agree : (t : Bool) (p : Piece) → Agree (numbers_piece t p) → renumbered_piece f t p ≡ renumbered_piece g t p
    piece_agree t (one n) h = ap one (node_agree n h)
    piece_agree t (list is) h = ap list (items_agree is h)
    piece_agree t (text bs) h = refl
    piece_agree t (byte b) h = refl
    piece_agree t (mark b) h = refl
    piece_agree t (number b) h = ap number (number_agree f g t b h)

    items_agree : (is : Items) → Agree (numbers_items is) → renumbered_items f is ≡ renumbered_items g is
    items_agree none h = refl
    items_agree (hole is) h = ap hole (items_agree is h)
    items_agree (item n is) h =
        ap₂ item (node_agree n (first (numbers n) (numbers_items is) h)) (items_agree is (second (numbers n) (numbers_items is) h))

mutual
  unfolding renumbered

  node_itself : (n : Node) → renumbered (λ a. a) n ≡ n
  node_itself (node at k fs) = ap (node at k) (fields_itself (eqb k 20) fs)

  fields_itself : (t : Bool) (fs : Fields) → renumbered_fields (λ a. a) t fs ≡ fs
  fields_itself t done = refl
  fields_itself t (absent fs) = ap absent (fields_itself t fs)
  fields_itself t (field p fs) = ap₂ field (piece_itself t p) (fields_itself false fs)

  piece_itself : (t : Bool) (p : Piece) → renumbered_piece (λ a. a) t p ≡ p
  piece_itself t (one n) = ap one (node_itself n)
  piece_itself t (list is) = ap list (items_itself is)
  piece_itself t (text bs) = refl
  piece_itself t (byte b) = refl
  piece_itself t (mark b) = refl
  piece_itself t (number b) = ap number (number_itself t b)

  items_itself : (is : Items) → renumbered_items (λ a. a) is ≡ is
  items_itself none = refl
  items_itself (hole is) = ap hole (items_itself is)
  items_itself (item n is) = ap₂ item (node_itself n) (items_itself is)

pub trees : Renumbers numbers renumbered
trees = record { numbers = node_numbers; twice = node_twice; agree = node_agree; nothing = node_itself }

-- ---- results

-- an entry with other declarators
abbrev with : Entry → Items → Entry
with e is = record { containing = e.containing; declarators = is }

abbrev pub listed : List Entry → List ℕ
listed es = over (λ e. numbers_items e.declarators) es

entries_numbers : (f : ℕ → ℕ) (es : List Entry) → listed (each_entry (λ is. renumbered_items f is) es) ≡ changed f (listed es)
unfolding over each_entry
entries_numbers f [] = refl
entries_numbers f (e ∷ es) =
    ap₂ (λ (xs ys : List ℕ). xs ++ ys) (items_numbers f e.declarators) (entries_numbers f es)
    ∙ sym (changed_append f (numbers_items e.declarators) (listed es))

-- two changes of each entry's declarators that agree
pub each_same : (F G : Items → Items) → ((is : Items) → F is ≡ G is) → (es : List Entry) → each_entry F es ≡ each_entry G es
unfolding each_entry
each_same F G h [] = refl
each_same F G h (e ∷ es) = ap₂ (λ (is : Items) (ds : List Entry). with e is ∷ ds) (h e.declarators) (each_same F G h es)

-- one after another
pub each_twice : (F G : Items → Items) (es : List Entry) → each_entry F (each_entry G es) ≡ each_entry (λ is. F (G is)) es
unfolding each_entry
each_twice F G [] = refl
each_twice F G (e ∷ es) = ap (λ (ds : List Entry). with e (F (G e.declarators)) ∷ ds) (each_twice F G es)

each_itself : (es : List Entry) → each_entry (λ is. is) es ≡ es
unfolding each_entry
each_itself [] = refl
each_itself (e ∷ es) = ap (λ (ds : List Entry). e ∷ ds) (each_itself es)

entries_agree : (f g : ℕ → ℕ) (es : List Entry) → ((a : ℕ) → In a (listed es) → f a ≡ g a) → each_entry (λ is. renumbered_items f is) es ≡ each_entry (λ is. renumbered_items g is) es
unfolding over each_entry
entries_agree f g [] h = refl
entries_agree f g (e ∷ es) h =
    ap₂ (λ (is : Items) (ds : List Entry). with e is ∷ ds)
    (items_agree f g e.declarators (first f g (numbers_items e.declarators) (listed es) h))
    (entries_agree f g es (second f g (numbers_items e.declarators) (listed es) h))

-- a result by its parts
abbrev pub written : Node → List Entry → Items → Written
written n es excluded = record { tree = n; entries = es; excluded = excluded }

written_numbers : (f : ℕ → ℕ) (w : Written) → numbers_written (renumbered_written f w) ≡ changed f (numbers_written w)
unfolding numbers_written renumbered_written numbers_list
written_numbers f w =
    ap₂ (λ (xs ys : List ℕ). xs ++ ys) (node_numbers f w.tree)
    (ap₂ (λ (xs ys : List ℕ). xs ++ ys) (entries_numbers f w.entries) (items_numbers f w.excluded)
    ∙ sym (changed_append f (listed w.entries) (numbers_items w.excluded)))
    ∙ sym (changed_append f (numbers w.tree) (listed w.entries ++ numbers_items w.excluded))

written_twice : (f g : ℕ → ℕ) (w : Written) → renumbered_written f (renumbered_written g w) ≡ renumbered_written (λ a. f (g a)) w
unfolding renumbered_written
written_twice f g w =
    let t = node_twice f g w.tree in
    let e = each_twice (λ is. renumbered_items f is) (λ is. renumbered_items g is) w.entries
    ∙ each_same (λ is. renumbered_items f (renumbered_items g is)) (λ is. renumbered_items (λ a. f (g a)) is) (items_twice f g) w.entries in
    let x = items_twice f g w.excluded in
    λ j. written ((t) j) ((e) j) ((x) j)

written_agree : (f g : ℕ → ℕ) (w : Written) → ((a : ℕ) → In a (numbers_written w) → f a ≡ g a) → renumbered_written f w ≡ renumbered_written g w
unfolding numbers_written renumbered_written numbers_list
written_agree f g w h =
    let rest = second f g (numbers w.tree) (listed w.entries ++ numbers_items w.excluded) h in
    let t = node_agree f g w.tree (first f g (numbers w.tree) (listed w.entries ++ numbers_items w.excluded) h) in
    let e = entries_agree f g w.entries (first f g (listed w.entries) (numbers_items w.excluded) rest) in
    let x = items_agree f g w.excluded (second f g (listed w.entries) (numbers_items w.excluded) rest) in
    λ j. written ((t) j) ((e) j) ((x) j)

written_itself : (w : Written) → renumbered_written (λ a. a) w ≡ w
unfolding renumbered_written
written_itself w =
    let t = node_itself w.tree in
    let e = each_same (λ is. renumbered_items (λ a. a) is) (λ is. is) items_itself w.entries ∙ each_itself w.entries in
    let x = items_itself w.excluded in
    λ j. written ((t) j) ((e) j) ((x) j)

pub results : Renumbers numbers_written renumbered_written
results = record { numbers = written_numbers; twice = written_twice; agree = written_agree; nothing = written_itself }
