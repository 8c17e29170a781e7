-- What the machine's bytes are. Each new temporary has a name; the tree and the list are rows of bytes and names, and a name is
-- shown by its number: from 1, by first appearance in the tree.
use Rattle.std.specs.Prelude.{ℕ, zero, suc, ◌+◌, ◌-◌, ◌/◌, ◌%◌, ◌<◌, ◌≡◌, Bool, true, false, cond, ◌||◌, List, [], ◌∷◌, ◌++◌, eqb, length, replicate}
use Rattle.sink.specs.declared.Helpers.{Helpers}
use Rattle.sink.specs.Machine.{Event, Ended, end_of, nothing, over, low, high, tree_limit, list_limit, cells}

-- an event, with the name of the temporary that it makes
pub data Named (A : Type 0) : Type 0 where
  put : ℕ → Named A
  helper : ℕ → Named A
  temporary : ℕ → ℕ → Named A
  new_mark : Named A
  make : ℕ → A → Named A
  listed : ℕ → Named A
  listed_temporary : ℕ → ℕ → A → Named A
  entry : ℕ → ℕ → Named A
  excluded : ℕ → Named A
  excluded_temporary : ℕ → ℕ → A → Named A
  declarator : Named A

-- a byte, or the node of a temporary with its stem
pub data Token (A : Type 0) : Type 0 where
  plain : ℕ → Token A
  temp : A → ℕ → Token A

module _ {A : Type 0} where
  unfoldable pub event_of : Named A → Event
  event_of (Named.put b) = Event.put b
  event_of (Named.helper h) = Event.helper h
  event_of (Named.temporary c stem) = Event.temporary c stem
  event_of Named.new_mark = Event.new_mark
  event_of (Named.make c a) = Event.make c
  event_of (Named.listed b) = Event.listed b
  event_of (Named.listed_temporary c stem a) = Event.listed_temporary c stem
  event_of (Named.entry m n) = Event.entry m n
  event_of (Named.excluded b) = Event.excluded b
  event_of (Named.excluded_temporary c stem a) = Event.excluded_temporary c stem
  event_of Named.declarator = Event.declarator

  unfoldable pub events_of : List (Named A) → List Event
  events_of [] = []
  events_of (e ∷ es) = event_of e ∷ events_of es

  -- ---- which temporary a cell stands for: the one that was made there last

  unfoldable pub renamed : (ℕ → A) → ℕ → A → ℕ → A
  renamed names c a d = cond (eqb d c) a (names d)

  unfoldable pub names_after : (ℕ → A) → Named A → ℕ → A
  names_after names (Named.put b) = names
  names_after names (Named.helper h) = names
  names_after names (Named.temporary c stem) = names
  names_after names Named.new_mark = names
  names_after names (Named.make c a) = renamed names c a
  names_after names (Named.listed b) = names
  names_after names (Named.listed_temporary c stem a) = renamed names c a
  names_after names (Named.entry m n) = names
  names_after names (Named.excluded b) = names
  names_after names (Named.excluded_temporary c stem a) = renamed names c a
  names_after names Named.declarator = names

  -- the next mark of a new statement
  unfoldable pub mark_after : ℕ → Named A → ℕ
  mark_after m (Named.put b) = m
  mark_after m (Named.helper h) = m
  mark_after m (Named.temporary c stem) = m
  mark_after m Named.new_mark = suc m
  mark_after m (Named.make c a) = m
  mark_after m (Named.listed b) = m
  mark_after m (Named.listed_temporary c stem a) = m
  mark_after m (Named.entry m' n) = m
  mark_after m (Named.excluded b) = m
  mark_after m (Named.excluded_temporary c stem a) = m
  mark_after m Named.declarator = m

  -- the same, after a run
  unfoldable pub names_over : (ℕ → A) → List (Named A) → ℕ → A
  names_over names [] = names
  names_over names (e ∷ es) = names_over (names_after names e) es

  unfoldable pub marks_over : ℕ → List (Named A) → ℕ
  marks_over m [] = m
  marks_over m (e ∷ es) = marks_over (mark_after m e) es

  -- ---- what an event adds to the tree, to the entries of the list, and to the excluded declarators

  unfoldable pub tree_of : (ℕ → A) → ℕ → Named A → List (Token A)
  tree_of names m (Named.put b) = plain b ∷ []
  tree_of names m (Named.helper h) = plain 21 ∷ plain 1 ∷ plain h ∷ []
  tree_of names m (Named.temporary c stem) = temp (names c) stem ∷ []
  tree_of names m Named.new_mark = plain (m % 256) ∷ plain (m / 256) ∷ []
  tree_of names m (Named.make c a) = []
  tree_of names m (Named.listed b) = []
  tree_of names m (Named.listed_temporary c stem a) = []
  tree_of names m (Named.entry m' n) = []
  tree_of names m (Named.excluded b) = []
  tree_of names m (Named.excluded_temporary c stem a) = []
  tree_of names m Named.declarator = []

  unfoldable pub list_of : Named A → List (Token A)
  list_of (Named.put b) = []
  list_of (Named.helper h) = []
  list_of (Named.temporary c stem) = []
  list_of Named.new_mark = []
  list_of (Named.make c a) = []
  list_of (Named.listed b) = plain b ∷ []
  list_of (Named.listed_temporary c stem a) = temp a stem ∷ []
  list_of (Named.entry m n) = plain (low m) ∷ plain (high m) ∷ plain (low n) ∷ plain (high n) ∷ []
  list_of (Named.excluded b) = []
  list_of (Named.excluded_temporary c stem a) = []
  list_of Named.declarator = []

  unfoldable pub keys_of : Named A → List (Token A)
  keys_of (Named.put b) = []
  keys_of (Named.helper h) = []
  keys_of (Named.temporary c stem) = []
  keys_of Named.new_mark = []
  keys_of (Named.make c a) = []
  keys_of (Named.listed b) = []
  keys_of (Named.listed_temporary c stem a) = []
  keys_of (Named.entry m n) = []
  keys_of (Named.excluded b) = plain b ∷ []
  keys_of (Named.excluded_temporary c stem a) = temp a stem ∷ []
  keys_of Named.declarator = plain 5 ∷ plain 3 ∷ []

  unfoldable pub tree_tokens : (ℕ → A) → ℕ → List (Named A) → List (Token A)
  tree_tokens names m [] = []
  tree_tokens names m (e ∷ es) = tree_of names m e ++ tree_tokens (names_after names e) (mark_after m e) es

  unfoldable pub list_tokens : List (Named A) → List (Token A)
  list_tokens [] = []
  list_tokens (e ∷ es) = list_of e ++ list_tokens es

  unfoldable pub keys_tokens : List (Named A) → List (Token A)
  keys_tokens [] = []
  keys_tokens (e ∷ es) = keys_of e ++ keys_tokens es

  -- ---- counts, helpers, names that are made

  unfoldable pub entry_in_of : Named A → ℕ
  entry_in_of (Named.put b) = 0
  entry_in_of (Named.helper h) = 0
  entry_in_of (Named.temporary c stem) = 0
  entry_in_of Named.new_mark = 0
  entry_in_of (Named.make c a) = 0
  entry_in_of (Named.listed b) = 0
  entry_in_of (Named.listed_temporary c stem a) = 0
  entry_in_of (Named.entry m n) = 1
  entry_in_of (Named.excluded b) = 0
  entry_in_of (Named.excluded_temporary c stem a) = 0
  entry_in_of Named.declarator = 0

  unfoldable pub declarator_in : Named A → ℕ
  declarator_in (Named.put b) = 0
  declarator_in (Named.helper h) = 0
  declarator_in (Named.temporary c stem) = 0
  declarator_in Named.new_mark = 0
  declarator_in (Named.make c a) = 0
  declarator_in (Named.listed b) = 0
  declarator_in (Named.listed_temporary c stem a) = 0
  declarator_in (Named.entry m n) = 0
  declarator_in (Named.excluded b) = 0
  declarator_in (Named.excluded_temporary c stem a) = 0
  declarator_in Named.declarator = 1

  unfoldable pub is_helper : ℕ → Named A → Bool
  is_helper k (Named.put b) = false
  is_helper k (Named.helper h) = eqb h k
  is_helper k (Named.temporary c stem) = false
  is_helper k Named.new_mark = false
  is_helper k (Named.make c a) = false
  is_helper k (Named.listed b) = false
  is_helper k (Named.listed_temporary c stem a) = false
  is_helper k (Named.entry m n) = false
  is_helper k (Named.excluded b) = false
  is_helper k (Named.excluded_temporary c stem a) = false
  is_helper k Named.declarator = false

  unfoldable pub made_by : Named A → List A
  made_by (Named.put b) = []
  made_by (Named.helper h) = []
  made_by (Named.temporary c stem) = []
  made_by Named.new_mark = []
  made_by (Named.make c a) = a ∷ []
  made_by (Named.listed b) = []
  made_by (Named.listed_temporary c stem a) = a ∷ []
  made_by (Named.entry m n) = []
  made_by (Named.excluded b) = []
  made_by (Named.excluded_temporary c stem a) = a ∷ []
  made_by Named.declarator = []

  unfoldable pub entries_in : List (Named A) → ℕ
  entries_in [] = 0
  entries_in (e ∷ es) = entry_in_of e + entries_in es

  unfoldable pub declarators_in : List (Named A) → ℕ
  declarators_in [] = 0
  declarators_in (e ∷ es) = declarator_in e + declarators_in es

  unfoldable pub uses_helper : ℕ → List (Named A) → Bool
  uses_helper k [] = false
  uses_helper k (e ∷ es) = is_helper k e || uses_helper k es

  unfoldable pub made_in_of : List (Named A) → List A
  made_in_of [] = []
  made_in_of (e ∷ es) = made_by e ++ made_in_of es

  unfoldable pub helpers_in : List (Named A) → Helpers
  helpers_in es =
      record {
        spread = uses_helper 1 es;
        extends = uses_helper 2 es;
        empty = uses_helper 3 es;
        without = uses_helper 4 es;
        key = uses_helper 5 es;
      }

  -- ---- bytes as events, and as tokens

  -- ---- runs that are proper: cells are cells, and each temporary that is made has a name of its own

  abbrev pub CellOk : Named A → Type 0
  CellOk (Named.put b) = Unit {0}
  CellOk (Named.helper h) = Unit {0}
  CellOk (Named.temporary c stem) = c < cells
  CellOk Named.new_mark = Unit {0}
  CellOk (Named.make c a) = c < cells
  CellOk (Named.listed b) = Unit {0}
  CellOk (Named.listed_temporary c stem a) = c < cells
  CellOk (Named.entry m n) = Unit {0}
  CellOk (Named.excluded b) = Unit {0}
  CellOk (Named.excluded_temporary c stem a) = c < cells
  CellOk Named.declarator = Unit {0}

  abbrev pub CellsOk : List (Named A) → Type 0
  CellsOk [] = Unit {0}
  CellsOk (e ∷ es) = CellOk e × CellsOk es

  abbrev pub Every : (A → Type 0) → List A → Type 0
  Every P [] = Unit {0}
  Every P (a ∷ l) = P a × Every P l

-- ---- numbers by first appearance, of names that a test tells apart

unfoldable pub one_up : ℕ → ℕ
one_up zero = 0
one_up (suc k) = suc (suc k)

module _ {A : Type 0} (alike : A → A → Bool) where
  -- each name is unlike those after it
  abbrev pub Apart : List A → Type 0
  Apart [] = Unit {0}
  Apart (a ∷ l) = Every (λ b. alike a b ≡ false) l × Apart l

  -- the place of a name in a list, from 1; 0 where it is not there
  unfoldable pub place : A → List A → ℕ
  place a [] = 0
  place a (b ∷ l) = cond (alike b a) 1 (one_up (place a l))

  -- the list with a name at its end, unless it is there
  unfoldable pub noted : ℕ → List A → A → List A
  noted zero seen a = seen ++ (a ∷ [])
  noted (suc k) seen a = seen

  -- the names after those that were seen, in the order of first appearance
  unfoldable pub order : List A → List (Token A) → List A
  order seen [] = seen
  order seen (plain b ∷ ts) = order seen ts
  order seen (temp a stem ∷ ts) = order (noted (place a seen) seen a) ts

  -- the bytes, each temporary with its number and its stem
  unfoldable pub shown : List A → List (Token A) → List ℕ
  shown o [] = []
  shown o (plain b ∷ ts) = b ∷ shown o ts
  shown o (temp a stem ∷ ts) = 20 ∷ 3 ∷ place a o % 256 ∷ place a o / 256 ∷ stem ∷ shown o ts

  -- the tree of a run whose first mark is m, where `names` says what the cells stand for at its start
  unfoldable pub order_of : (ℕ → A) → ℕ → List (Named A) → List A
  order_of names m es = order [] (tree_tokens names m es)

  unfoldable pub tree_bytes : (ℕ → A) → ℕ → List (Named A) → List ℕ
  tree_bytes names m es = shown (order_of names m es) (tree_tokens names m es)

  -- its list: a count of entries, the entries, a count of excluded declarators, those
  unfoldable pub list_bytes : (ℕ → A) → ℕ → List (Named A) → List ℕ
  list_bytes names m es =
      ((entries_in es % 256 ∷ entries_in es / 256 ∷ []) ++ shown (order_of names m es) (list_tokens es))
      ++ ((declarators_in es % 256 ∷ declarators_in es / 256 ∷ []) ++ shown (order_of names m es) (keys_tokens es))

-- ---- events alone: a temporary is named by the index of its making, k for the first

unfoldable pub name_each : ℕ → List Event → List (Named ℕ)
name_each k [] = []
name_each k (Event.put b ∷ es) = Named.put b ∷ name_each k es
name_each k (Event.helper h ∷ es) = Named.helper h ∷ name_each k es
name_each k (Event.temporary c stem ∷ es) = Named.temporary c stem ∷ name_each k es
name_each k (Event.new_mark ∷ es) = Named.new_mark ∷ name_each k es
name_each k (Event.make c ∷ es) = Named.make c k ∷ name_each (suc k) es
name_each k (Event.listed b ∷ es) = Named.listed b ∷ name_each k es
name_each k (Event.listed_temporary c stem ∷ es) = Named.listed_temporary c stem k ∷ name_each (suc k) es
name_each k (Event.entry m n ∷ es) = Named.entry m n ∷ name_each k es
name_each k (Event.excluded b ∷ es) = Named.excluded b ∷ name_each k es
name_each k (Event.excluded_temporary c stem ∷ es) = Named.excluded_temporary c stem k ∷ name_each (suc k) es
name_each k (Event.declarator ∷ es) = Named.declarator ∷ name_each k es

-- below 16384 is the name of a cell in which none was made
unfoldable pub own_name : ℕ → ℕ
own_name c = c

-- ---- what is handed back, for slices of a, b and w bytes

-- a slice of n bytes that begins with bs, then zeros
unfoldable pub filled : ℕ → List ℕ → List ℕ
filled n bs = bs ++ replicate (n - length bs) 0

unfoldable pub handed_back : ℕ → ℕ → ℕ → ℕ → List ℕ → List ℕ → Ended
handed_back a b w mask t l =
    cond (over tree_limit a (length t) || over list_limit b (length l))
    (nothing a b w)
    (end_of (filled a t) (filled b l) (replicate w 0) (record { fits = true; helpers = mask; tree = length t; list = length l }))
