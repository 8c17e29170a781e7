-- What of object rest and spread is left in a result, and where.
use Rattle.std.specs.Prelude.{ℕ, ◌≡◌, Bool, true, false, ◌&&◌, ◌||◌, List, [], ◌∷◌, eqb}
use Rattle.tree.specs.Tree.{Node}
use Rattle.lowering.specs.Parts.{is, stands, items_at_of, any}
use Rattle.lowering.specs.Visits.{ItemAt, PartAt, Stands}
use Rattle.lowering.specs.Collect.{Entry}
use Rattle.equal.specs.Canonical.{Written}

-- an object pattern with a rest: 34 ObjectPattern(properties* rest?)
unfoldable pub keeps_rest : Node → Bool
keeps_rest n = is 34 n && stands 1 n

-- an object literal with a spread: 24 Object(properties*), 26 Spread(arg)
unfoldable pub keeps_spread : Node → Bool
keeps_spread n = is 24 n && any (λ p. is 26 p) (items_at_of 0 n)

-- one of both
unfoldable pub keeps : Node → Bool
keeps n = keeps_rest n || keeps_spread n

-- one of the nodes is so
unfoldable pub any_of : (Node → Bool) → List Node → Bool
any_of f [] = false
any_of f (n ∷ ns) = f n || any_of f ns

-- x, which stands at the path c, is reached from the pattern p, at the path a, through properties, items, array rests and the left of
-- defaults. The first says whether an array rest lies between
pub data Below : Bool → List ℕ → Node → List ℕ → Node → Type 0 where
  here : {a : List ℕ} {p : Node} → Below false a p a p
  property : {b : Bool} {a c : List ℕ} {p q v x : Node} {i j : ℕ} → is 34 p ≡ true → PartAt p 0 i q → PartAt q 1 j v → Below b (j ∷ 1 ∷ i ∷ 0 ∷ a) v c x → Below b a p c x
  item : {b : Bool} {a c : List ℕ} {p e x : Node} {j : ℕ} → is 36 p ≡ true → PartAt p 0 j e → Below b (j ∷ 0 ∷ a) e c x → Below b a p c x
  array_rest : {b : Bool} {a c : List ℕ} {p r x : Node} {j : ℕ} → is 36 p ≡ true → PartAt p 1 j r → Below b (j ∷ 1 ∷ a) r c x → Below true a p c x
  left : {b : Bool} {a c : List ℕ} {p l x : Node} {j : ℕ} → is 37 p ≡ true → PartAt p 0 j l → Below b (j ∷ 0 ∷ a) l c x → Below b a p c x

-- the rest of a Function is its field 4, that of an Arrow its field 1
unfoldable pub is_rest_field : Node → ℕ → Bool
is_rest_field h i = (is 14 h && eqb i 4) || (is 17 h && eqb i 1)

-- the sections of a result: its tree; of its list, the entries and the excluded keys
pub data Section : Type 0 where
  tree entry excluded : Section

-- Where x, at the path c, may be left in a section, by the node h around it, at the path a: in the tree an object pattern that keeps its rest, in
-- the list, which is not walked, a literal that keeps its spread too. There is no other place (proofs/Lowered)
pub data Exception (a : List ℕ) (h : Node) (c : List ℕ) (x : Node) : Section → Type 0 where
  -- (a) `var [...{...a}] = b`: below an array rest of a declarator with a value; so are patterns that were moved into one
  below_array_rest : {p : Node} {j : ℕ} → is 5 h ≡ true → stands 1 h ≡ true → PartAt h 0 j p → Below true (j ∷ 0 ∷ a) p c x → Exception a h c x Section.tree
  -- (b) `function (...{...a}) {}`
  rest_parameter : {b : Bool} {p : Node} {i j : ℕ} → is_rest_field h i ≡ true → PartAt h i j p → Below b (j ∷ i ∷ a) p c x → Exception a h c x Section.tree
  -- (c) a function without body
  without_body : {b : Bool} {q p : Node} {i j : ℕ} → is 14 h ≡ true → stands 5 h ≡ false → PartAt h 3 i q → PartAt q 0 j p → Below b (j ∷ 0 ∷ i ∷ 3 ∷ a) p c x → Exception a h c x Section.tree
  -- (d) `var {...a}`
  without_value : {b : Bool} {p : Node} {j : ℕ} → is 5 h ≡ true → stands 1 h ≡ false → PartAt h 0 j p → Below b (j ∷ 0 ∷ a) p c x → Exception a h c x Section.tree
  -- (e) `({[{...z}]: a, ...r} = s)`: in the value of a key's temporary, a key as it stands in the input
  in_key : {v : Node} {j : ℕ} → is 5 h ≡ true → PartAt h 1 j v → Stands (j ∷ 1 ∷ a) v c x → Exception a h c x Section.entry
  -- (f) in a Template that is an excluded key; h declares the array of them
  in_template : {v z : Node} {i j : ℕ} → is 5 h ≡ true → PartAt h 1 i v → PartAt v 0 j z → is 23 z ≡ true → Stands (j ∷ 0 ∷ i ∷ 1 ∷ a) z c x → Exception a h c x Section.excluded

-- ---- a whole result

-- d is a declarator of an entry
pub data EntryHas : List Entry → Node → Type 0 where
  here : {e : Entry} {es : List Entry} {j : ℕ} {d : Node} → ItemAt e.declarators j d → EntryHas (e ∷ es) d
  later : {e : Entry} {es : List Entry} {d : Node} → EntryHas es d → EntryHas (e ∷ es) d

-- t is the tree of the result w, a declarator of an entry, or one of excluded keys
pub data Of (w : Written) : Section → Node → Type 0 where
  tree : Of w Section.tree w.tree
  entry : {d : Node} → EntryHas w.entries d → Of w Section.entry d
  excluded : {j : ℕ} {d : Node} → ItemAt w.excluded j d → Of w Section.excluded d
