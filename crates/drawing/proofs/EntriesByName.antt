-- The two entries are what the request's words define, by name.
-- Assumes nothing.
use Rattle.std.proofs.Common.{◌≡◌, ℕ, ◌-◌, ◌<◌, ◌≤◌, List, ◌++◌, length, replicate, ap, ◌∙◌, eq-eqb, ne_eqb, le-leb}
use borrow.Author.Tests.{lt-leb}
use Rattle.tree.specs.Tree.{Node, encode}
use Rattle.drawing.specs.Draw.{draw_tree}
use Rattle.drawing.specs.Draw.Drawn.{drawn}
use Rattle.drawing.specs.Outcome.{Handed, handed, zero_seed, slice_too_short, refused, fitted, outcome}
use Rattle.drawing.specs.declared.Drawn.{Drawn as Result}
use Rattle.drawing.proofs.xorshift_next.Statement as next
use Rattle.drawing.proofs.xorshift_next.Met as next-proved
use Rattle.drawing.proofs.rest_spread_draw.Statement as draw
use Rattle.drawing.proofs.rest_spread_draw.Met as draw-proved

-- `xorshift_next`: the number and the new state are the step of the old state
pub next_steps : {M : Type 1} → next.statement M
next_steps = next-proved.met

-- `rest_spread_draw`: what is handed back and every byte of the slice are the definition's
pub draw_is : {M : Type 1} → draw.statement M
draw_is = draw-proved.met

-- ---- the definition, case by case

-- four numbers and bytes that are handed back
abbrev Back : Result → List ℕ → ℕ → ℕ → ℕ → List ℕ → Type 0
Back r l answer next long bytes = (r.answer ≡ answer) × (r.next ≡ next) × (r.tree_len ≡ long) × (l ≡ bytes)

module _ (seed size : ℕ) (r : Result) (l : List ℕ) (is : handed r l ≡ outcome seed size) where
  back : (h : Handed) → outcome seed size ≡ h → Back r l h.answer h.next h.long h.bytes
  back h e =
      let w : handed r l ≡ h = is ∙ e in
      (ap (λ (x : Handed). x.answer) w, ap (λ (x : Handed). x.next) w, ap (λ (x : Handed). x.long) w, ap (λ (x : Handed). x.bytes) w)

  pub draw_zero_seed : seed ≡ 0 → Back r l zero_seed 0 0 (replicate size 0)
  unfolding outcome refused
  draw_zero_seed z = back (refused size zero_seed) (rw (eq-eqb seed 0 z))

  module _ (some : seed ≡ 0 → ⊥) (n : Node) (s b k : ℕ) (tree : draw_tree seed ≡ drawn n s b k) where
    pub draw_fits : length (encode n) ≤ size → Back r l 0 s (length (encode n)) (encode n ++ replicate (size - length (encode n)) 0)
    unfolding outcome fitted
    draw_fits h = back (record { answer = 0; next = s; long = length (encode n); bytes = encode n ++ replicate (size - length (encode n)) 0 }) (rw (ne_eqb seed 0 some, tree, le-leb (length (encode n)) size h))

    pub draw_short : size < length (encode n) → Back r l slice_too_short 0 0 (replicate size 0)
    unfolding outcome fitted refused
    draw_short h = back (refused size slice_too_short) (rw (ne_eqb seed 0 some, tree, lt-leb (length (encode n)) size h))
