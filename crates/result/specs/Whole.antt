-- What a lowering hands back, held to the grammar of the rewritten stage.
use Rattle.std.specs.Prelude.{ℕ, ◌≡◌, List, [], true, false, ◌⊎◌, length}
use Rattle.tree.specs.Tree.{Node, depth, encode, placed}
use Rattle.tree.specs.Grammar.Stage.{input, rewritten}
use Rattle.tree.specs.Read.{read_tree}
use Rattle.tree.specs.Read.Got.{got}
use Rattle.tree.specs.WellFormed.{WellFormed}
use Rattle.rewritten.specs.Rewritten.{distinct, read_rewritten}
use Rattle.lowering.specs.Visits.{Stands}
use Rattle.equal.specs.Canonical.{Written}
use Rattle.equal.specs.Equal.{list_encoded}
use Rattle.equal.specs.Results.{result_by, own_names, entries_of}
use Rattle.printer.specs.Outcome as text
use Rattle.printer.specs.Outcome.{text_too_long}
use Rattle.joining.specs.List.{handed, FitHanded}
use Rattle.joining.specs.Answer.{outcome, answer_of}
use Rattle.result.specs.Left.{keeps_spread, keeps, Section, Of}
use Rattle.result.specs.Causes.{Caused}
use Rattle.result.specs.Texts.{TextIn, TextInList, Known}
use Rattle.result.specs.Marks.{copies_marks, result_marks, entries_found}
use Rattle.result.specs.Handed.{KeysOf}
use Rattle.result.specs.Leftover.{rest_left, leftover}

-- the result that the definition has for the tree n, whose next mark is `next`
abbrev pub result_of : ℕ → Node → Written
result_of next n = result_by (own_names next n) next n

-- tree and list t, l of an input: the tree is well formed in the rewritten stage, and read as what the definition has; it has no spread, what is
-- left in tree and list is one of the exceptions, with its cause in the input, and the test for loaders says whether a rest is left in the tree;
-- the list is one; each text is one of the input's, or the string of a number that such a text spells, or one of two that the rules put. A value
-- in the list is a key of the input (before temporaries have numbers; the input has none). Each entry's mark is found in the tree. If no key with
-- a mark inside is copied, the marks of tree and list are distinct, and so the tree is a rewritten tree; its text is answered with 0, or with 10
-- for a slice that is too short; and joining takes both: it answers 0, or 7 for a slice or a tree that is too long
pub record LoweredRewritten (limit : ℕ) (tree t l : List ℕ) : Type 0 where
  pub n : Node
  pub end : ℕ
  pub next : ℕ
  pub read : read_tree input limit tree ≡ got n end next
  pub is_tree : t ≡ encode (result_of next n).tree
  pub formed : WellFormed rewritten (depth (result_of next n).tree) (result_of next n).tree 1
  pub decoded : read_tree rewritten (length t) t ≡ got (placed (result_of next n).tree 0) (length t) 1
  pub spreads : (q : List ℕ) (x : Node) → Stands [] (result_of next n).tree q x → keeps_spread x ≡ false
  pub left : (section : Section) (m : Node) → Of (result_of next n) section m → (q : List ℕ) (x : Node) → Stands [] m q x → keeps x ≡ true → Caused n section [] m q x
  pub told : leftover t ≡ rest_left (placed (result_of next n).tree 0)
  pub is_list_lem : l ≡ list_encoded (result_of next n).entries (result_of next n).excluded
  pub listed : FitHanded (handed (result_of next n).entries (result_of next n).excluded)
  pub tree_texts : (bs : List ℕ) → TextIn (result_of next n).tree bs → Known n bs
  pub list_texts : (bs : List ℕ) → TextInList (result_of next n).entries (result_of next n).excluded bs → Known n bs
  pub keys : KeysOf n (entries_of next n)
  pub entered : entries_found (result_of next n) ≡ true
  pub apart : copies_marks n ≡ false → distinct (result_marks (result_of next n)) ≡ true
  pub accepted : copies_marks n ≡ false → read_rewritten t ≡ got (placed (result_of next n).tree 0) (length t) 1
  pub printed : copies_marks n ≡ false → (size : ℕ) → ((text.outcome (read_rewritten t) size).answer ≡ 0) ⊎ ((text.outcome (read_rewritten t) size).answer ≡ text_too_long)
  pub joined : copies_marks n ≡ false → (room : ℕ) → (answer_of (outcome t l room) ≡ 0) ⊎ (answer_of (outcome t l room) ≡ 7)
