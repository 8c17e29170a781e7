-- The tables that are filled while the tree is toured, and what they hold then.
use Rattle.std.specs.Prelude.{ℕ, ◌+◌, ◌-◌, ◌<◌, ◌≤◌, ◌≡◌, List, [], ◌∷◌, cond, ◌⊎◌, eqb, ltb, length, get_or, Option, Some, None}
use Rattle.tree.specs.Tree.{Node, marks}
use Rattle.tree.specs.Grammar.{among}
use Rattle.tree.specs.Grammar.Stage.{rewritten}
use Rattle.tree.specs.Read.{wide_at, read_tree}
use Rattle.tree.specs.Read.Got.{got}
use Rattle.rewritten.specs.Rewritten.{is_rewritten}
use Rattle.rewritten.specs.declared.step.Event as told
use Rattle.rewritten.specs.declared.step.Event.TheVariants.{Begins, Ends, Opens, Closes, Hole, Text, Byte, Mark, Number}
use Rattle.joining.specs.Join.{is_container}
use Rattle.joining.specs.Tables.{stored, chain}
use Rattle.joining.specs.Spots.{Spot, spot, spots}

abbrev pub In : {A : Type 0} → A → List A → Type 0
In x [] = ⊥
In x (y ∷ ys) = (x ≡ y) ⊎ In x ys

-- ---- a step

pub record Shelf : Type 0 where
  pub around : List ℕ
  pub earlier : List ℕ
  pub holds : List ℕ
  pub before : List ℕ
  pub latest : ℕ
  pub begun : ℕ

abbrev pub shelf : List ℕ → List ℕ → List ℕ → List ℕ → ℕ → ℕ → Shelf
shelf a e h b l n = record { around = a; earlier = e; holds = h; before = b; latest = l; begun = n }

-- the same, and nothing has just begun
abbrev pub passed_by : Shelf → Shelf
passed_by t = shelf t.around t.earlier t.holds t.before t.latest 0

-- a mark, which is that of the item that has just begun in the list at p
abbrev pub marked_in : Shelf → ℕ → Shelf
marked_in t p = shelf t.around t.earlier (stored t.holds p t.begun) (stored t.before t.begun (get_or t.holds p 0)) t.latest 0

-- a list of a container
abbrev pub opened_at : Shelf → ℕ → ℕ → Shelf
opened_at t at deep = shelf (stored t.around (deep + 1) at) (stored t.earlier at t.latest) (stored t.holds at 0) t.before at 0

-- what an event at a position adds, with so many frames open before it
abbrev pub added : Shelf → ℕ → ℕ → told.Event → Shelf
added t at deep (Begins p kind map) =
    shelf (stored t.around (deep + 1) (cond (is_container kind) 1 0)) t.earlier t.holds t.before t.latest (cond (ltb 1 (get_or t.around deep 0)) at 0)
added t at deep Ends = passed_by t
added t at deep (Opens n) =
    cond (eqb (get_or t.around deep 0) 1) (opened_at t at deep)
    (shelf (stored t.around (deep + 1) 0) t.earlier t.holds t.before t.latest 0)
added t at deep Closes = passed_by t
added t at deep Hole = passed_by t
added t at deep (Text p n) = passed_by t
added t at deep (Byte b) = passed_by t
added t at deep (Mark m) = cond (ltb 0 t.begun) (cond (ltb 0 deep) (marked_in t (get_or t.around (deep - 1) 0)) (passed_by t)) (passed_by t)
added t at deep (Number n) = passed_by t

-- ---- what they hold: the lists of containers, and the statements of each

pub record Files (tree earlier holds before : List ℕ) (latest : ℕ) (ss : List Spot) : Type 0 where
  pub filed : (p s : ℕ) → In p (chain earlier latest) → In s (chain before (get_or holds p 0)) → In (spot p s (wide_at tree (s + 2))) ss
  pub found : (x : Spot) → In x ss → In x.place (chain earlier latest) × In x.statement (chain before (get_or holds x.place 0)) × (wide_at tree (x.statement + 2) ≡ x.named)

-- a table of 65,536 bytes with 1 at each of some marks
pub record Notes (seen ms : List ℕ) : Type 0 where
  pub size : 65536 ≤ length seen
  pub at : (x : ℕ) → x < 65536 → get_or seen x 0 ≡ cond (among ms x) 1 0

-- how often a number stands
unfoldable pub times : ℕ → List ℕ → ℕ
times x [] = 0
times x (m ∷ ms) = cond (eqb m x) 1 0 + times x ms

-- enough is lent for the tour of a tree
pub record Lent (frames seen around earlier holds before : List ℕ) : Type 0 where
  pub enough : 16384 ≤ length frames
  pub marks : 65536 ≤ length seen
  pub deep : 16385 ≤ length around
  pub lists : 32768 ≤ length earlier
  pub lasts : 32768 ≤ length holds
  pub firsts : 32768 ≤ length before

-- the tables before it
pub record Ready (frames seen around earlier holds before : List ℕ) : Type 0 where
  pub lent : Lent frames seen around earlier holds before
  pub blank : Notes seen []
  pub root : get_or around 0 0 ≡ 0
  pub none : (p : ℕ) → get_or holds p 0 ≡ 0

-- and after it
pub record Collected (tree seen earlier holds before : List ℕ) (latest : ℕ) (n : Node) : Type 0 where
  pub met : List ℕ
  pub known : Notes seen met
  pub marked : (x : ℕ) → times x met ≡ times x (marks n)
  pub files : Files tree earlier holds before latest (spots 0 n)
  pub near : latest < 32768
  pub low : (p : ℕ) → get_or holds p 0 < 32768

-- document 01's number of what it answers: 3 where the bytes are no rewritten tree, else 0
abbrev pub found_number : Option ℕ → ℕ
found_number (Some latest) = 0
found_number None = 3

-- its values: the last of the containers' lists, from which the tables hold what they hold of the tree
abbrev pub FromLatest : List ℕ → List ℕ → List ℕ → List ℕ → List ℕ → Option ℕ → Type 0
FromLatest tree seen earlier holds before (Some latest) = (n : Node) (q k : ℕ) → read_tree rewritten (length tree) tree ≡ got n q k → Collected tree seen earlier holds before latest n
FromLatest tree seen earlier holds before None = Unit {0}

pub record Toured (tree seen earlier holds before : List ℕ) (r : Option ℕ) : Type 0 where
  pub number : found_number r ≡ cond (is_rewritten tree) 0 3
  pub values : FromLatest tree seen earlier holds before r
