-- The law in a whole tree: declarations of the class as they are written, with the list of excluded keys of the whole program.
use Rattle.std.specs.Prelude.{◌≡◌, true, ◌||◌, List, [], ◌++◌, ℕ}
use Rattle.tree.specs.Tree.{Node, Items, wide_bytes, count, encode, encode_items}
use Rattle.tree.specs.Grammar.Stage.{input}
use Rattle.tree.specs.Read.{read_tree}
use Rattle.tree.specs.Read.Got.{got}
use Rattle.tree.specs.WellFormed.{Bytes}
use Rattle.lowering.specs.Parts.{is, node_at_of, items_at_of}
use Rattle.lowering.specs.Made.{Context}
use Rattle.lowering.specs.Walk.{rewrite}
use Rattle.lowering.specs.Weight.{walked}
use Rattle.lowering.specs.Collect.{Name, Visit, bare, visits, entries, excluded_in, names_of, numbered_items, first_refusal}
use Rattle.lowering.specs.Answer.{Lent, Result, lowering, top}
use Rattle.overlay.specs.Objects.{Key, Value, Props}
use Rattle.overlay.specs.Objects.Value.{inner}
use Rattle.overlay.specs.Run.{History as Read}
use Rattle.overlay.specs.Run.{Out as Laid}
use Rattle.overlay.specs.Run.Reply.{gives}
use Rattle.lowering.specs.Visits.{ItemAt, Stands, Visits}
use Rattle.overlay.specs.Whole.{leaves}
use Rattle.packing.specs.World.{History, World, seen, look}
use Rattle.packing.specs.World.Held.{lost, held}
use Rattle.packing.specs.World.Out.{ok}
use Rattle.packing.specs.Unpack.{Form, run_forms, forms_of}
use Rattle.packing.specs.Pack.{packs, numbered}
use Rattle.packing.specs.Class.{fits, unpacking_of}
use Rattle.packing.specs.Law.{Premises, Side, Unpacked}

-- bytes that are read as a tree, in whose walk nothing is refused
pub record Accepted : Type 0 where
  pub limit : ℕ
  pub bytes : List ℕ
  pub tree : Node
  pub end : ℕ
  pub next : ℕ
  pub are_bytes : Bytes bytes
  pub read : read_tree input limit bytes ≡ got tree end next
  pub unrefused : first_refusal (visits next 0 (walked top tree)) ≡ 0

module _ (a : Accepted) where
  -- what the walk hands out, node by node
  abbrev pub notes : List Visit
  notes = visits a.next 0 (walked top a.tree)

  -- the temporaries of the program in the order of their numbers
  abbrev pub names : List Name
  names = names_of (bare a.next (walked top a.tree)) (entries notes) (excluded_in notes)

  -- the tree that is written, and the declarators of excluded keys of the list
  abbrev pub written : Node
  written = leaves names a.next top a.tree

  abbrev pub handed_out_of : Items
  handed_out_of = numbered_items names (excluded_in notes)

  -- the declarators that are written where the walk comes to the declaration n in the context d, the next new mark being `next`
  abbrev pub forms_there : ℕ → Context → Node → List Form
  forms_there next d n = forms_of handed_out_of (items_at_of 2 (leaves names next d n))

-- a declaration of the class that stands in the tree, and to which the walk comes in the context d
pub record Declared (a : Accepted) (d : Context) (n : Node) : Type 0 where
  pub place : List ℕ
  pub stands : Stands [] a.tree place n
  pub visited : Visits top a.tree d n
  pub of_class : fits n ≡ true

-- ---- the law there, whole and in three parts

abbrev pub LandsThere : Type 0
LandsThere = (a : Accepted) (d : Context) (n : Node) → Declared a d n → (next : ℕ) (W : World) (it : ℕ) → Premises W (unpacking_of n) it
    → Unpacked W (unpacking_of n) it (forms_there a next d n)

-- the run ends, without a throw, and the object is as it was
abbrev pub Unpacks : Type 0
Unpacks = (a : Accepted) (d : Context) (n : Node) → Declared a d n → (next : ℕ) (W : World) (it : ℕ) → Premises W (unpacking_of n) it
    → (h : History) × (run_forms W (forms_there a next d n) [] ≡ ok h tt) × (W.own h it ≡ W.own [] it)

-- and then each enumerable own key is in its named binding with its value and not in the rest, or in the rest with its value and not
-- named; the rest has no other key
abbrev pub OneSide : Type 0
OneSide = (a : Accepted) (d : Context) (n : Node) → Declared a d n → (next : ℕ) (W : World) (it : ℕ) → Premises W (unpacking_of n) it
    → (h : History) × (p : Props) × (run_forms W (forms_there a next d n) [] ≡ ok h tt) × (W.named h (unpacking_of n).rest ≡ gives (inner p))
    × ((k : Key) (v : Value) → seen k (W.own [] it) ≡ held v → Side W (unpacking_of n).taken h p k v)
    × ((k : Key) → seen k (W.own [] it) ≡ lost → look k p ≡ lost)

-- and the packed object has exactly the enumerable own keys, with their values
abbrev pub Whole : Type 0
Whole = (a : Accepted) (d : Context) (n : Node) → Declared a d n → (next : ℕ) (W : World) (it : ℕ) → Premises W (unpacking_of n) it
    → (h : History) × (run_forms W (forms_there a next d n) [] ≡ ok h tt)
    × (g : Read) × (q : Props) × (packs W h (W.own [] it) (unpacking_of n).taken (unpacking_of n).rest ≡ Laid.ok g q)
    × ((k : Key) → look k q ≡ numbered (seen k (W.own [] it)))

-- ---- every declaration of the class

-- it is written as the walk leaves it; or it stands, as it is, in what is handed out: in a function in a key. What is handed out is not
-- walked
pub data Placed (a : Accepted) (n : Node) : Type 0 where
  in_tree : {d : Context} (next : ℕ) → Declared a d n → Stands [] (written a) d.path (leaves (names a) next d n) → Placed a n
  in_list_of : {d : Context} {x y : Node} {j : ℕ} {p : List ℕ} → Visits top a.tree d x → ItemAt (rewrite d x).note.entry j y → Stands [] y p n → Placed a n
  in_keys : {d : Context} {x y : Node} {j : ℕ} {p : List ℕ} → Visits top a.tree d x → ItemAt (rewrite d x).note.excluded j y → Stands [] y p n → Placed a n

-- The left of 7 ForIn(# left right body) or 8 ForOf(# left right body await=?) is lowered by the rule for heads. JavaScript has no pattern
-- with a starting value there (13.7.5; B.3.6 has names only), the grammar of trees does
abbrev pub NoHead : Accepted → Node → Type 0
NoHead a n = (p : List ℕ) (f : Node) → Stands [] a.tree p f → (is 7 f || is 8 f) ≡ true → node_at_of 1 f ≡ n → ⊥

abbrev pub Everywhere : Type 0
Everywhere = (a : Accepted) (p : List ℕ) (n : Node) → Stands [] a.tree p n → fits n ≡ true → NoHead a n → Placed a n

-- ---- and of a call: where it lowers, the bytes that it hands back are the tree that is written, and a list that ends with the declarators
-- of excluded keys

abbrev pub Writes : Type 0
Writes = (limit options : ℕ) (bytes : List ℕ) (s : Lent) (helpers mask : ℕ) (t l : List ℕ) → Bytes bytes → lowering limit options bytes s ≡ Result.lowered helpers mask t l
    → (a : Accepted) × (a.bytes ≡ bytes) × (t ≡ encode (written a)) × (front : List ℕ) × (l ≡ front ++ (wide_bytes (count (excluded_in (notes a))) ++ encode_items (handed_out_of a)))
