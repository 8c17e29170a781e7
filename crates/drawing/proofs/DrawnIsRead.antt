-- What a drawn tree is: the reader takes it, it is short, and the state after it is a seed again.
-- Assumes nothing.
use Rattle.std.proofs.Common.{◌≡◌, ℕ, suc, ◌+◌, ◌-◌, ◌<◌, ◌≤◌, Bool, true, false, cond, T, leb, ◌++◌, length, take, replicate, refl, arith, take_at, ne_eqb, le-leb}
use native.Mathlib.Decide.{dec_lt}
use Rattle.tree.specs.Tree.{Node, encode, placed}
use Rattle.tree.specs.Grammar.{root, places}
use Rattle.tree.specs.Grammar.Stage.{input}
use Rattle.tree.specs.Read.{Got, read_tree}
use Rattle.tree.specs.Read.Got.{got, refused}
use Rattle.tree.specs.WellFormed.{WellFormed}
use Rattle.tree.proofs.Complete.{complete}
use Rattle.drawing.specs.Draw.{Drawn, draw_tree}
use Rattle.drawing.specs.Draw.Drawn.{drawn}
use Rattle.drawing.specs.Outcome as out
use Rattle.drawing.specs.Outcome.{Handed, outcome, fitted}
use Rattle.drawing.proofs.Steps.{Live}
use Rattle.drawing.proofs.HoldsOfDrawn.{Holds, weaker}
use Rattle.drawing.proofs.Asks.{valid}
use Rattle.drawing.proofs.DrawnFits.{GoodNode, ok, node_good}

root_ok : T (ok 13 root)
unfolding ok valid places
root_ok = tt

tree_good : (seed : ℕ) → Holds (GoodNode 13 root seed 400 1) (draw_tree seed)
unfolding draw_tree
tree_good seed = node_good 13 root root_ok seed 400 1

-- at most 569 nodes of at most nine bytes
pub drawn_short : (seed : ℕ) → Holds (λ n s b j. length (encode n) ≤ 5121) (draw_tree seed)
drawn_short seed = weaker (GoodNode 13 root seed 400 1) (λ n s b j. length (encode n) ≤ 5121) (draw_tree seed) (λ n s b j g. omega (arith, g.size, g.over)) (tree_good seed)

-- marks 1, 2, 3.. up to the next, at most 13 levels
pub drawn_well_formed : (seed e : ℕ) → Holds (λ n s b j. WellFormed input (13 + e) n j) (draw_tree seed)
drawn_well_formed seed e =
    weaker (GoodNode 13 root seed 400 1) (λ n s b j. WellFormed input (13 + e) n j) (draw_tree seed)
    (λ n s b j g.
    let f = g.fit (omega (arith, g.size, g.over, g.pairs)) in
    record { fits = f.shape; marked = f.counts; level = omega (arith, g.level); short = omega (arith, g.size, g.over) })
    (tree_good seed)

-- the reader takes it at every limit from 13 on
pub drawn_accepted : (seed e : ℕ) → Holds (λ n s b j. read_tree input (13 + e) (encode n) ≡ got (placed n 0) (length (encode n)) j) (draw_tree seed)
drawn_accepted seed e =
    weaker (λ n s b j. WellFormed input (13 + e) n j) (λ n s b j. read_tree input (13 + e) (encode n) ≡ got (placed n 0) (length (encode n)) j) (draw_tree seed)
    (λ n s b j w. complete input (13 + e) n j w) (drawn_well_formed seed e)

-- a state that is not 0 stays so
pub drawn_live : (seed : ℕ) → Live seed → Holds (λ n s b j. Live s) (draw_tree seed)
drawn_live seed l = weaker (GoodNode 13 root seed 400 1) (λ n s b j. Live s) (draw_tree seed) (λ n s b j g. g.live l) (tree_good seed)

-- ---- the same of what the entry hands back

abbrev pub Taken : {A : Type 0} → Got A → Type 0
Taken (got a q k) = Unit {0}
Taken (refused n) = ⊥

apart : {A : Type 0} {n : ℕ} → ◌≡◌ {A = ℕ} (suc n) 0 → A
apart e = absurd (omega (arith, e))

module _ (size : ℕ) (n : Node) (s : ℕ) where
  by : Bool → Handed
  by c = cond c (record { answer = 0; next = s; long = length (encode n); bytes = encode n ++ replicate (size - length (encode n)) 0 }) (out.refused size 7)

  by_taken : (d j : ℕ) → read_tree input d (encode n) ≡ got (placed n 0) (length (encode n)) j → (c : Bool) → (by c).answer ≡ 0 → Taken (read_tree input d (take (by c).long (by c).bytes))
  unfolding by out.refused
  by_taken d j h true e = rw (take_at (encode n) (replicate (size - length (encode n)) 0) (length (encode n)) refl, h) tt
  by_taken d j h false e = apart e

  by_live : Live s → (c : Bool) → (by c).answer ≡ 0 → Live (by c).next
  unfolding by out.refused
  by_live l true e = l
  by_live l false e = apart e

module _ (size : ℕ) where
  fitted_taken : (d : ℕ) (g : Drawn Node) → Holds (λ n s b j. read_tree input d (encode n) ≡ got (placed n 0) (length (encode n)) j) g → (fitted size g).answer ≡ 0
      → Taken (read_tree input d (take (fitted size g).long (fitted size g).bytes))
  unfolding fitted by
  fitted_taken d (drawn n s b k) h e = by_taken size n s d k h (leb (length (encode n)) size) e

  fitted_live : (g : Drawn Node) → Holds (λ n s b j. Live s) g → (fitted size g).answer ≡ 0 → Live (fitted size g).next
  unfolding fitted by
  fitted_live (drawn n s b k) h e = by_live size n s h (leb (length (encode n)) size) e

  fitted_room : (g : Drawn Node) → Holds (λ n s b j. length (encode n) ≤ 5121) g → 5121 ≤ size → (fitted size g).answer ≡ 0
  unfolding fitted
  fitted_room (drawn n s b k) h r = rw (le-leb (length (encode n)) size (omega arith))

  module _ (seed : ℕ) (some : seed ≡ 0 → ⊥) where
    is_fitted : outcome seed size ≡ fitted size (draw_tree seed)
    unfolding outcome
    is_fitted = rw (ne_eqb seed 0 some)

    -- a slice of 5,121 bytes has room for every tree
    pub room_enough : 5121 ≤ size → (outcome seed size).answer ≡ 0
    room_enough r = rw is_fitted (fitted_room (draw_tree seed) (drawn_short seed) r)

    -- the bytes that are handed back are a tree that the reader takes
    pub handed_taken : (e : ℕ) → (outcome seed size).answer ≡ 0 → Taken (read_tree input (13 + e) (take (outcome seed size).long (outcome seed size).bytes))
    handed_taken e a = rw is_fitted (fitted_taken (13 + e) (draw_tree seed) (drawn_accepted seed e) (rw is_fitted at a))

    -- a series that goes on from the state handed back never meets 8
    pub next_live : seed < 4294967296 → (outcome seed size).answer ≡ 0 → Live (outcome seed size).next
    next_live h a =
        let p : 0 < seed = elim (dec_lt 0 seed) [ yes g ↦ g | no g ↦ absurd (some (omega arith)) ] in
        rw is_fitted (fitted_live (draw_tree seed) (drawn_live seed (record { fits = h; live = p })) (rw is_fitted at a))
