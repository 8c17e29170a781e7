-- The overlay law.
use Rattle.std.specs.Prelude.{◌≡◌, true, false, List, ◌∷◌, ℕ}
use Rattle.tree.specs.Tree.{Node, Items}
use Rattle.tree.specs.Tree.Node.{node}
use Rattle.tree.specs.Tree.Fields.{done, field}
use Rattle.tree.specs.Tree.Piece.{list}
use Rattle.lowering.specs.Parts.{◌+++◌}
use Rattle.overlay.specs.Objects.{Key, Value, names_first}
use Rattle.overlay.specs.Objects.Value.{outer, inner}
use Rattle.overlay.specs.Run.{Step, History, Outside, Out, then, made, lacks_symbol, run, lay_all}
use Rattle.overlay.specs.Run.Step.{lists, reads}
use Rattle.overlay.specs.Run.Reply.{gives}
use Rattle.overlay.specs.Run.Out.{ok, threw, beyond, stuck}
use Rattle.overlay.specs.Plain.{plain, given}

-- ---- premises

-- of a value n of the outside that is copied. It is no proxy and no module namespace either: the listing and the reads are all that is
-- seen of a copy, and asking for enumerability does not throw
pub record Tame (W : Outside) (n : ℕ) : Type 0 where
  -- its getters leave its own keys and their enumerability alone
  pub steady : (h : History) (k k' : Key) → W.shown (reads (outer n) k ∷ h) n k' ≡ W.shown h n k'
  -- it lists strings before symbols, as every object of ECMA-262 does
  pub sorted : (h : History) (ks : List Key) → W.keys h n ≡ gives ks → names_first ks ≡ ks
  -- it has the symbols that it lists, as every object of ECMA-262 does
  pub owned : (h : History) (ks : List Key) → W.keys h n ≡ gives ks → lacks_symbol W (lists (outer n) ∷ h) n ks ≡ false
  -- it is no [[IsHTMLDDA]] object
  pub strict : W.loose n ≡ W.null n

pub record Fair (W : Outside) : Type 0 where
  -- each value that the law is about is so
  pub tamed : (n : ℕ) → W.tame n ≡ true → Tame W n
  -- Object.prototype holds no `get` or `set`, at no moment
  pub unmeddled : (h : History) → W.meddled h ≡ false
  -- the built-ins that S calls are as ECMA-262 makes them, and no index stands on Object.prototype or Array.prototype
  pub intact : (h : History) (ks : List Key) → W.gathers h ks ≡ names_first ks

-- ---- the law

-- 24 Object(properties*)
abbrev pub literal_of : ℕ → Items → Node
literal_of at ps = node at 24 (field (list ps) done)

-- the properties laid on the object that a value is, by ECMA-262
abbrev pub lay_on : Outside → Items → Value → History → Out Value
lay_on W ps (inner o) h = made (lay_all W ps o h)
lay_on W ps (outer n) h = stuck h

-- The object, the throw and the sequence of steps of the lowered whole are those of the lowered front with the back laid on it, cut
-- anywhere. Where a value is copied that the law is not about, those up to there are. `whole` lowers the one, `front` the other: in two
-- trees, so marks and temporaries around them may differ. That a lowering lowers at all is not said here: it is demand 2's
abbrev pub Overlay : (Node → Node) → (Node → Node) → Type 0
Overlay whole front = (W : Outside) → Fair W → (how : Node → Step) (at at' : ℕ) (ps qs : Items) (h : History)
    → given (literal_of at (ps +++ qs)) ≡ true → plain (literal_of at (ps +++ qs)) ≡ true
    → run W how (whole (literal_of at (ps +++ qs))) h ≡ then (run W how (front (literal_of at' ps)) h) (λ h v. lay_on W qs v h)

-- a lowered plain literal does what the literal itself does by ECMA-262
abbrev pub Faithful : (Node → Node) → Type 0
Faithful low = (W : Outside) → Fair W → (how : Node → Step) (n : Node) (h : History)
    → given n ≡ true → plain n ≡ true → run W how (low n) h ≡ run W how n h

-- ---- the law says something

-- the definitions say what happens
abbrev pub Moves : {A : Type 0} → Out A → Type 0
Moves (ok h a) = Unit {0}
Moves (threw h v) = Unit {0}
Moves (beyond h n) = Unit {0}
Moves (stuck h) = ⊥

-- they do of every plain literal
abbrev pub Described : Type 0
Described = (W : Outside) (how : Node → Step) (n : Node) (h : History) → given n ≡ true → plain n ≡ true → Moves (run W how n h)

-- ---- a history only grows, so equal histories are equal sequences of steps

abbrev pub history_of : {A : Type 0} → Out A → History
history_of (ok h a) = h
history_of (threw h v) = h
history_of (beyond h n) = h
history_of (stuck h) = h

-- the steps of h came first
pub data Later (h : History) : History → Type 0 where
  now : Later h h
  next : {g : History} (s : Step) → Later h g → Later h (s ∷ g)

abbrev pub Growing : Type 0
Growing = (W : Outside) (how : Node → Step) (n : Node) (h : History) → Later h (history_of (run W how n h))
