-- What is answered of a tree, a list and a slice: 3, 12, 13 and 7 in this order, or the joined tree; and every byte of the slice.
use Rattle.std.specs.Prelude.{ℕ, ◌-◌, min, ◌≡◌, List, [], ◌∷◌, ◌++◌, Bool, true, false, cond, leb, length, replicate, Result, Ok, Err}
use Rattle.tree.specs.Tree.{Node, marks, encode}
use Rattle.tree.specs.Grammar.{among}
use Rattle.tree.specs.Read.{Got}
use Rattle.tree.specs.Read.Got.{got, refused}
use Rattle.lowering.specs.Collect.{Entry}
use Rattle.rewritten.specs.Rewritten.{distinct, read_rewritten}
use Rattle.joining.specs.List.{Handed, read_handed, inner_marks}
use Rattle.joining.specs.Join.{found, joined_tree}
use Rattle.joining.specs.declared.Refusal.{Refusal}
use Rattle.joining.specs.declared.Refusal.TheVariants.{NoTree, NoList, NotFound, TooLong}

pub data Outcome : Type 0 where
  refusal : ℕ → Outcome
  tree : List ℕ → Outcome

-- the marks of tree and list
unfoldable pub taken : Node → Handed → List ℕ
taken n h = marks n ++ inner_marks h

-- each entry's mark is that of a statement of a container
unfoldable pub all_found_of : List ℕ → List Entry → Bool
all_found_of ms [] = true
all_found_of ms (e ∷ es) = cond (among ms e.containing) (all_found_of ms es) false

-- 7: longer than a tree may be or than the slice
abbrev pub fitting : ℕ → List ℕ → Outcome
fitting room bytes = cond (leb (length bytes) (min room 32768)) (tree bytes) (refusal 7)

abbrev pub after_list_of : ℕ → Node → Got Handed → Outcome
after_list_of room n (got h q k) =
    cond (distinct (taken n h)) (cond (all_found_of (found n) h.entries) (fitting room (encode (joined_tree (taken n h) n h))) (refusal 13)) (refusal 12)
after_list_of room n (refused r) = refusal 12

abbrev pub after_tree : ℕ → List ℕ → Got Node → Outcome
after_tree room list (got n q k) = after_list_of room n (read_handed list)
after_tree room list (refused r) = refusal 3

-- for a slice of so many bytes
unfoldable pub outcome : List ℕ → List ℕ → ℕ → Outcome
outcome bytes list room = after_tree room list (read_rewritten bytes)

-- ---- what the entry hands back

abbrev pub answer_of : Outcome → ℕ
answer_of (refusal n) = n
answer_of (tree bytes) = 0

abbrev pub bytes_of : Outcome → List ℕ
bytes_of (refusal n) = []
bytes_of (tree bytes) = bytes

-- the slice: the tree, then zeros
unfoldable pub filled : List ℕ → ℕ → List ℕ
filled bytes room = bytes ++ replicate (room - length bytes) 0

-- a result and the slice after it
abbrev pub Answered : List ℕ → List ℕ → ℕ → ℕ → ℕ → List ℕ → Type 0
Answered bytes list room answer size out =
    (answer ≡ answer_of (outcome bytes list room))
    × (size ≡ length (bytes_of (outcome bytes list room)))
    × (out ≡ filled (bytes_of (outcome bytes list room)) room)

-- ---- the same inside

-- the number of a refusal
abbrev pub refusal_number : Refusal → ℕ
refusal_number NoTree = 3
refusal_number NoList = 12
refusal_number NotFound = 13
refusal_number TooLong = 7

-- the length of the joined tree, which the slice holds then; on a refusal the slice holds anything
abbrev pub Joins : List ℕ → List ℕ → ℕ → Result ℕ Refusal → List ℕ → Type 0
Joins bytes list room (Ok n) out = Answered bytes list room 0 n out
Joins bytes list room (Err r) out = outcome bytes list room ≡ refusal (refusal_number r)
