-- The table of refusals (document 01, 'What the lowering hands back'): where 5, 6 and 11 are met, said of the walk without its levels, and when
-- each number is answered. That the walk refuses there and nowhere else is shown in proofs/RefusalsMet.antt, the table in proofs/Answered.antt.
use Rattle.std.specs.Prelude.{ℕ, suc, ◌≤◌, ◌<◌, ◌≡◌, true, false, ◌||◌, List}
use Rattle.tree.specs.Tree.{Node, Fields, Piece, Items, encode}
use Rattle.tree.specs.Tree.Node.{node}
use Rattle.tree.specs.Grammar.Stage.{input}
use Rattle.tree.specs.Read.{read_tree}
use Rattle.tree.specs.Read.Got.{got, refused}
use Rattle.tree.specs.Read.Refusal.{not_a_tree, too_deep}
use Rattle.lowering.specs.Parts.{is, node_at_of}
use Rattle.lowering.specs.Made.{Context}
use Rattle.lowering.specs.Patterns.{has_array_rest_over_object_rest}
use Rattle.lowering.specs.Declarations.{declaration_refusal}
use Rattle.lowering.specs.Assignments.{target, is_top, top_refusal}
use Rattle.lowering.specs.Walk.{rewrite, within}
use Rattle.lowering.specs.Weight.{walked}
use Rattle.lowering.specs.Collect.{bare, numbered, visits, first_refusal, entries, excluded_in, helper_mask, names_of, list_bytes}
use Rattle.lowering.specs.Refusals.{limit_outside, unknown_options, small_work, no_tree, deeper_tree, rest_below_array_rest, key_without_form, other_form, too_long_of}
use Rattle.lowering.specs.Answer.{Lent, Result, Outcome, fits, limit_refused, in_force, outcome_of, top}

-- ---- what the walk meets

-- the walk of n, which stands at c, comes to a node of which P holds: n itself, or one that the walk of a part of what n is rewritten to
-- comes to. `place` is where the parts stand, by the number of the field and the place in its list (0 where the field is no list)
mutual
  pub data Meets (P : Context → Node → Type 0) : Context → Node → Type 0 where
    here : {c : Context} {n : Node} → P c n → Meets P c n
    below : {c : Context} {n : Node} → MeetsIn P (within c (rewrite c n).result) (rewrite c n).result → Meets P c n

  -- in a part of a node
  pub data MeetsIn (P : Context → Node → Type 0) : (ℕ → ℕ → Context) → Node → Type 0 where
    parts : {place : ℕ → ℕ → Context} {at k : ℕ} {fs : Fields} → MeetsField P place 0 fs → MeetsIn P place (node at k fs)

  -- in one of the fields, the first of which has the number
  pub data MeetsField (P : Context → Node → Type 0) : (ℕ → ℕ → Context) → ℕ → Fields → Type 0 where
    absent : {place : ℕ → ℕ → Context} {i : ℕ} {fs : Fields} → MeetsField P place (suc i) fs → MeetsField P place i (Fields.absent fs)
    this : {place : ℕ → ℕ → Context} {i : ℕ} {p : Piece} {fs : Fields} → MeetsPiece P (place i) p → MeetsField P place i (Fields.field p fs)
    later : {place : ℕ → ℕ → Context} {i : ℕ} {p : Piece} {fs : Fields} → MeetsField P place (suc i) fs → MeetsField P place i (Fields.field p fs)

  -- in a field: the node, or the list
  pub data MeetsPiece (P : Context → Node → Type 0) : (ℕ → Context) → Piece → Type 0 where
    one : {place : ℕ → Context} {n : Node} → Meets P (place 0) n → MeetsPiece P place (Piece.one n)
    list : {place : ℕ → Context} {is : Items} → MeetsItem P place 0 is → MeetsPiece P place (Piece.list is)

  -- in one of the items, the first of which has the number
  pub data MeetsItem (P : Context → Node → Type 0) : (ℕ → Context) → ℕ → Items → Type 0 where
    hole : {place : ℕ → Context} {j : ℕ} {is : Items} → MeetsItem P place (suc j) is → MeetsItem P place j (Items.hole is)
    first : {place : ℕ → Context} {j : ℕ} {n : Node} {is : Items} → Meets P (place j) n → MeetsItem P place j (Items.item n is)
    after : {place : ℕ → Context} {j : ℕ} {n : Node} {is : Items} → MeetsItem P place (suc j) is → MeetsItem P place j (Items.item n is)

-- the bytes are accepted as a tree within the limit, and its walk comes to a node of which P holds
pub data TreeMeets (P : Context → Node → Type 0) (limit : ℕ) (tree : List ℕ) : Type 0 where
  accepted : (n : Node) (q next : ℕ) → read_tree input limit tree ≡ got n q next → Meets P top n → TreeMeets P limit tree

-- ---- the table's lines

-- 5: 'a walked assignment or for head whose target has an array rest with an object rest below it'. A for head is an assignment's if its
-- left is no Declaration
pub data Five (c : Context) (n : Node) : Type 0 where
  assignment : is 27 n ≡ true → has_array_rest_over_object_rest (target n) ≡ true → Five c n
  head : is 7 n || is 8 n ≡ true → is 4 (node_at_of 1 n) ≡ false → has_array_rest_over_object_rest (node_at_of 1 n) ≡ true → Five c n

-- a node at whose excluded keys the first refusal that is met is r. Keys are excluded by a Declaration and by an Assignment to an object with
-- rest; where 5 is met too, 5 comes first
pub data AtKeys (r : ℕ) (c : Context) (n : Node) : Type 0 where
  declaration : is 4 n ≡ true → declaration_refusal c n ≡ r → AtKeys r c n
  assignment : is 27 n ≡ true → has_array_rest_over_object_rest (target n) ≡ false → is_top (target n) ≡ true → top_refusal n ≡ r → AtKeys r c n

-- 6: 'an excluded key is a Literal whose form field is absent', and no string is promised; no key before it is refused
abbrev pub Six : Context → Node → Type 0
Six = AtKeys key_without_form

-- 11: 'an excluded key's form that differs from the promised string'; no key before it is refused
abbrev pub Eleven : Context → Node → Type 0
Eleven = AtKeys other_form

-- ---- the table, each line with what comes before it

-- limit, options and work of which none is refused
pub record Admitted (limit options : ℕ) (s : Lent) : Type 0 where
  pub allowed : limit_refused limit ≡ false
  pub known : options ≤ 15
  pub roomy : 65536 ≤ s.work_slice

-- the tree that is accepted, and the result that it would have
pub record Accepted (limit options : ℕ) (tree : List ℕ) (s : Lent) (n : Node) (next : ℕ) : Type 0 where
  pub admitted : Admitted limit options s
  pub end : ℕ
  pub read : read_tree input limit tree ≡ got n end next

-- the first refusal that the walk meets, 0 for none; tree and list of the result
abbrev pub met : Node → ℕ → ℕ
met n next = first_refusal (visits next 0 (walked top n))

abbrev pub result_tree : Node → ℕ → List ℕ
result_tree n next =
    let vs = visits next 0 (walked top n) in
    let m = bare next (walked top n) in
    encode (numbered (names_of m (entries vs) (excluded_in vs)) m)

abbrev pub result_list : Node → ℕ → List ℕ
result_list n next =
    let vs = visits next 0 (walked top n) in
    list_bytes (names_of (bare next (walked top n)) (entries vs) (excluded_in vs)) (entries vs) (excluded_in vs)

-- what is handed back, by the line of the table that applies
pub data HandedBack (limit options : ℕ) (tree : List ℕ) (s : Lent) : Result → Type 0 where
  nine : limit_refused limit ≡ true → HandedBack limit options tree s (Result.refusal limit_outside)
  one : limit_refused limit ≡ false → 15 < options → HandedBack limit options tree s (Result.refusal unknown_options)
  two : limit_refused limit ≡ false → options ≤ 15 → s.work_slice < 65536 → HandedBack limit options tree s (Result.refusal small_work)
  -- the reader's: the first of the two that is met in byte order, at one byte 3 (tree's proofs say which bytes these are)
  three : Admitted limit options s → read_tree input limit tree ≡ refused not_a_tree → HandedBack limit options tree s (Result.refusal no_tree)
  four : Admitted limit options s → read_tree input limit tree ≡ refused too_deep → HandedBack limit options tree s (Result.refusal deeper_tree)
  -- the walk's: the first that is met
  five : {n : Node} {next : ℕ} → Accepted limit options tree s n next → met n next ≡ rest_below_array_rest → Meets Five top n
      → HandedBack limit options tree s (Result.refusal rest_below_array_rest)
  six : {n : Node} {next : ℕ} → Accepted limit options tree s n next → met n next ≡ key_without_form → Meets Six top n
      → HandedBack limit options tree s (Result.refusal key_without_form)
  eleven : {n : Node} {next : ℕ} → Accepted limit options tree s n next → met n next ≡ other_form → Meets Eleven top n
      → HandedBack limit options tree s (Result.refusal other_form)
  -- the last
  seven : {n : Node} {next : ℕ} → Accepted limit options tree s n next → (Meets Five top n → ⊥) → (Meets Six top n → ⊥) → (Meets Eleven top n → ⊥)
      → fits s (result_tree n next) (result_list n next) ≡ false → HandedBack limit options tree s (Result.refusal too_long_of)
  -- none of them
  zero : {n : Node} {next : ℕ} → Accepted limit options tree s n next → (Meets Five top n → ⊥) → (Meets Six top n → ⊥) → (Meets Eleven top n → ⊥)
      → fits s (result_tree n next) (result_list n next) ≡ true
      → HandedBack limit options tree s (Result.lowered (helper_mask (bare next (walked top n))) (in_force options) (result_tree n next) (result_list n next))

-- every call hands back what its line says, and no line says anything else: each number is answered exactly if its line applies
pub record IsTable (limit options : ℕ) (tree : List ℕ) (s : Lent) (o : Outcome) : Type 0 where
  pub result : Result
  pub applies : HandedBack limit options tree s result
  pub is : o ≡ outcome_of s result
  pub only : (r : Result) → HandedBack limit options tree s r → o ≡ outcome_of s r
