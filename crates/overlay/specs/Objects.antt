-- Keys, values, and the objects that literals make.
use Rattle.std.specs.Prelude.{ℕ, ◌+◌, ◌-◌, ◌*◌, ◌^◌, Bool, true, false, cond, not, ◌&&◌, ◌||◌, List, [], ◌∷◌, ◌++◌, eqb, ltb, leb}

-- ---- keys

-- a property key (ECMA-262, 6.1.7): a string by its bytes, or a symbol
pub data Key : Type 0 where
  name : List ℕ → Key
  symbol : ℕ → Key

abbrev pub same_text : List ℕ → List ℕ → Bool
same_text [] [] = true
same_text [] (y ∷ ys) = false
same_text (x ∷ xs) [] = false
same_text (x ∷ xs) (y ∷ ys) = eqb x y && same_text xs ys

unfoldable pub same : Key → Key → Bool
same (name s) (name t) = same_text s t
same (name s) (symbol n) = false
same (symbol m) (name t) = false
same (symbol m) (symbol n) = eqb m n

-- integer indices are 0 to 2 ^ 53 - 1 (6.1.7)
abbrev pub top : ℕ
top = 2 ^ 53

-- decimal digits read on from n; top if a byte is no digit or the number is no index
abbrev pub digits : List ℕ → ℕ → ℕ
digits [] n = cond (ltb n top) n top
digits (b ∷ bs) n = let r = digits bs (n * 10 + (b - 48)) in cond (leb 48 b && leb b 57) r top

-- the index that a string is, or top. No leading zero but in `0`
abbrev pub index_of : List ℕ → ℕ
index_of [] = top
index_of (b ∷ []) = digits (b ∷ []) 0
index_of (b ∷ c ∷ bs) = let r = digits (b ∷ c ∷ bs) 0 in cond (eqb b 48) top r

-- where a key stands among an object's keys (OrdinaryOwnPropertyKeys, 9.1.11.1): indices rising, then strings, then symbols.
-- Different keys of one rank stand in the order of their creation
unfoldable pub rank : Key → ℕ
rank (name s) = index_of s
rank (symbol n) = top + 1

abbrev pub is_name_of : Key → Bool
is_name_of (name s) = true
is_name_of (symbol n) = false

-- ---- values and objects

mutual
  -- a value of the outside, or an object that a literal made. Nothing else has a reference to an object while a literal makes it,
  -- so its properties are all there is to know of it
  pub data Value : Type 0 where
    outer : ℕ → Value
    inner : Props → Value

  -- own properties in the order of [[OwnPropertyKeys]]; each is an enumerable, writable, configurable data property
  pub data Props : Type 0 where
    empty : Props
    entry : Key → Value → Props → Props

-- CreateDataProperty (7.3.4): a key that is there keeps its place and gets the value, a new one is created
unfoldable pub put : Key → Value → Props → Props
put k v empty = entry k v empty
put k v (entry k' v' o) =
    let past = entry k' v' (put k v o) in
    cond (same k k') (entry k v o) (cond (ltb (rank k) (rank k')) (entry k v (entry k' v' o)) past)

-- the definitions of p, in the order of its keys, on t
abbrev pub overlay : Props → Props → Props
overlay empty t = t
overlay (entry k v p) t = overlay p (put k v t)

abbrev pub keys_of : Props → List Key
keys_of empty = []
keys_of (entry k v o) = k ∷ keys_of o

abbrev pub owns : Key → Props → Bool
owns k empty = false
owns k (entry l v o) = same k l || owns k o

-- the value of a key, or a default
abbrev pub find : Value → Key → Props → Value
find d k empty = d
find d k (entry l v o) = let r = find d k o in cond (same k l) v r

-- the entries of p for these keys, in their order
abbrev pub pick : Value → List Key → Props → Props
pick d [] p = empty
pick d (k ∷ ks) p = entry k (find d k p) (pick d ks p)

-- ---- lists of keys

abbrev pub filter : (Key → Bool) → List Key → List Key
filter f [] = []
filter f (k ∷ ks) = let r = filter f ks in cond (f k) (k ∷ r) r

-- strings, and then symbols
abbrev pub names_first : List Key → List Key
names_first ks = filter is_name_of ks ++ filter (λ k. not (is_name_of k)) ks
