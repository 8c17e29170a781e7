-- Literals in a whole tree: where the walk comes to them, and what it leaves there.
use Rattle.std.specs.Prelude.{◌≡◌, List, [], true, ℕ}
use Rattle.tree.specs.Tree.{Node, Items, encode}
use Rattle.tree.specs.Grammar.Stage.{input}
use Rattle.tree.specs.Read.{read_tree}
use Rattle.tree.specs.Read.Got.{got}
use Rattle.tree.specs.WellFormed.{Bytes, WellFormed}
use Rattle.lowering.specs.Parts.{is, ◌+++◌}
use Rattle.lowering.specs.Made.{Context}
use Rattle.lowering.specs.Walk.{rewrite}
use Rattle.lowering.specs.Visits.{ItemAt, Stands, Visits}
use Rattle.lowering.specs.Weight.{walked}
use Rattle.lowering.specs.Collect.{Name, bare, numbered, visits, first_refusal}
use Rattle.lowering.specs.Answer.{Lent, Result, lowering, top}
use Rattle.overlay.specs.Run.{Step, History, Outside, then, run}
use Rattle.overlay.specs.Plain.{given, plain}
use Rattle.overlay.specs.Law.{Fair, literal_of, lay_on}

-- what is written where the walk came to n, the next new mark being `next` and ns the names of the temporaries
unfoldable pub leaves : List Name → ℕ → Context → Node → Node
leaves ns next c n = numbered ns (bare next (walked c n))

-- ---- what is said of them

-- a node lowered by itself
abbrev pub lowered : Node → Node
lowered n = leaves [] 1 top n

-- the tree that is written has, at the path of the context in which the walk comes to m, what it leaves of m
abbrev pub Left : Type 0
Left = (ns : List Name) (next : ℕ) (c d : Context) (n m : Node) → Visits c n d m
    → (next' : ℕ) × Stands c.path (leaves ns next c n) d.path (leaves ns next' d m)

-- where the walk comes to a plain literal of an accepted tree, the literal lowered by itself is written. With the laws of `lowered` this
-- is the law in every tree
abbrev pub InPlace : Type 0
InPlace = (ns : List Name) (next : ℕ) (n m : Node) (d : Context) → Visits top n d m → given m ≡ true → plain m ≡ true
    → Stands [] (leaves ns next top n) d.path (lowered m)

-- where a call lowers, nothing is refused, and the bytes that it writes are those of what the walk leaves of the tree that it reads
abbrev pub Writes : Type 0
Writes = (limit options : ℕ) (bytes : List ℕ) (s : Lent) (helpers mask : ℕ) (t l : List ℕ) → lowering limit options bytes s ≡ Result.lowered helpers mask t l
    → (n : Node) × (q next : ℕ) × (ns : List Name) × (read_tree input limit bytes ≡ got n q next) × (first_refusal (visits next 0 (walked top n)) ≡ 0)
    × (t ≡ encode (leaves ns next top n))

-- ---- every literal is come to

-- the walk of n in the context c comes to m; or m stands in what the rewriting of a node hands out, as a list entry or an excluded key
pub data Comes (m : Node) (c : Context) (n : Node) : Type 0 where
  visited : {d : Context} → Visits c n d m → Comes m c n
  in_entry : {d : Context} {x y : Node} {j : ℕ} {p : List ℕ} → Visits c n d x → ItemAt (rewrite d x).note.entry j y → Stands [] y p m → Comes m c n
  in_excluded : {d : Context} {x y : Node} {j : ℕ} {p : List ℕ} → Visits c n d x → ItemAt (rewrite d x).note.excluded j y → Stands [] y p m → Comes m c n

-- So it is of each literal of an accepted tree. The rules for patterns and heads move literals about; none is changed, and none is lost
abbrev pub Reached : Type 0
Reached = (levels next : ℕ) (n : Node) → WellFormed input levels n next → first_refusal (visits next 0 (walked top n)) ≡ 0
    → (p : List ℕ) (m : Node) → Stands [] n p m → is 24 m ≡ true → Comes m top n

-- Together: a plain literal of an accepted tree is handed out, or the tree that is written has it lowered by itself at some place
pub data Lowered (m n written : Node) : Type 0 where
  in_tree : {p : List ℕ} → Stands [] written p (lowered m) → Lowered m n written
  in_list_of : {d : Context} {x y : Node} {j : ℕ} {p : List ℕ} → Visits top n d x → ItemAt (rewrite d x).note.entry j y → Stands [] y p m → Lowered m n written
  in_keys : {d : Context} {x y : Node} {j : ℕ} {p : List ℕ} → Visits top n d x → ItemAt (rewrite d x).note.excluded j y → Stands [] y p m → Lowered m n written

abbrev pub Everywhere : Type 0
Everywhere = (levels next : ℕ) (n : Node) → WellFormed input levels n next → first_refusal (visits next 0 (walked top n)) ≡ 0
    → (ns : List Name) (p : List ℕ) (m : Node) → Stands [] n p m → is 24 m ≡ true → plain m ≡ true → Lowered m n (leaves ns next top n)

-- ---- the whole in one statement: for each call that lowers, each plain literal in the tree that it reads, and each cut of it

-- The literal `{ps, qs}` lowered, and its front `{ps}` lowered with the back laid on it, do the same against every outside that meets the
-- premises. A front stands at another position and behind other marks than the whole, which plays no part
abbrev pub Cut : ℕ → Items → Items → Type 0
Cut at ps qs = (W : Outside) → Fair W → (how : Node → Step) (at' : ℕ) (h : History)
    → run W how (lowered (literal_of at (ps +++ qs))) h ≡ then (run W how (lowered (literal_of at' ps)) h) (λ h v. lay_on W qs v h)

abbrev pub OverlayEverywhere : Type 0
OverlayEverywhere = (limit options : ℕ) (bytes : List ℕ) (s : Lent) (helpers mask : ℕ) (t l : List ℕ) → Bytes bytes
    → lowering limit options bytes s ≡ Result.lowered helpers mask t l
    → (n written : Node) × (q next : ℕ) × (read_tree input limit bytes ≡ got n q next) × (t ≡ encode written)
    × ((p : List ℕ) (at : ℕ) (ps qs : Items) → Stands [] n p (literal_of at (ps +++ qs)) → plain (literal_of at (ps +++ qs)) ≡ true
    → Lowered (literal_of at (ps +++ qs)) n written × Cut at ps qs)
