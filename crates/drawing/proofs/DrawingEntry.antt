-- The entry: one law for each way out.
-- Assumes nothing.
use Rattle.std.proofs.Common.{◌≡◌, ℕ, suc, ◌+◌, ◌-◌, ◌<◌, ◌≤◌, List, [], ◌∷◌, ◌++◌, length, replicate, sym, refl, ap, ◌∙◌, append_assoc, arith, length-append, eq-eqb, ne_eqb, le-leb}
use native.Mathlib.Decide.{dec_lt}
use lib.ListN.{length-replicate, replicate-append-replicate}
use lib.Seq.{set-append_seam}
use borrow.Author.Tests.{lt-leb}
use Rattle.tree.specs.Tree.{Node, encode}
use Rattle.drawing.specs.Draw.{Drawn, draw_node, draw_tree}
use Rattle.drawing.specs.Draw.Drawn.{drawn}
use Rattle.drawing.specs.Pen.{next, put, reach, Page, page, drew, drew_node}
use Rattle.drawing.specs.Outcome.{Handed, handed, refused, fitted, outcome}
use Rattle.drawing.specs.declared.Drawn.{Drawn as Result}
use Rattle.drawing.specs.declared.pen.Pen.{Pen}
use Rattle.drawing.proofs.DrawingWritten.{next_in_lem, next_le, put_length}

-- ---- the position behind bytes

pub reach_fits : (n at : ℕ) (xs : List ℕ) → at + length xs ≤ n → reach n at xs ≡ at + length xs
unfolding reach
reach_fits n at [] h = omega arith
reach_fits n at (x ∷ xs) h = rw (next_in_lem n at (omega arith)) (reach_fits n (suc at) xs (omega arith) ∙ omega arith)

reach_le : (n at : ℕ) (xs : List ℕ) → at ≤ reach n at xs
unfolding reach
reach_le n at [] = omega arith
reach_le n at (x ∷ xs) = omega (arith, next_le n at, reach_le n (next n at) xs)

pub reach_over : (n at : ℕ) (xs : List ℕ) → n < at + length xs → n < reach n at xs
unfolding reach
reach_over n at [] h = omega arith
reach_over n at (x ∷ xs) h = elim (dec_lt n at) [
  | yes g ↦ omega (arith, next_le n at, reach_le n (next n at) xs)
  | no g ↦ rw (next_in_lem n at (omega arith)) (reach_over n (suc at) xs (omega arith))
]

-- ---- bytes over others of the same number

put_onto : (pre xs ys zs : List ℕ) → length xs ≡ length ys → put (pre ++ (ys ++ zs)) (length pre) xs ≡ pre ++ (xs ++ zs)
unfolding put
put_onto pre [] [] zs e = refl
put_onto pre [] (y ∷ ys) zs e = absurd (omega (arith, e))
put_onto pre (x ∷ xs) [] zs e = absurd (omega (arith, e))
put_onto pre (x ∷ xs) (y ∷ ys) zs e =
    let end : next (length (pre ++ (y ∷ (ys ++ zs)))) (length pre) ≡ length (pre ++ (x ∷ [])) =
    next_in_lem (length (pre ++ (y ∷ (ys ++ zs)))) (length pre) (omega (arith, length-append pre (y ∷ (ys ++ zs)))) ∙ (omega (arith, length-append pre (x ∷ []))) in
    rw (end, set-append_seam pre y (ys ++ zs) x)
    (rw (← append_assoc pre (x ∷ []) (ys ++ zs)) (put_onto (pre ++ (x ∷ [])) xs ys zs (omega (arith, e)) ∙ append_assoc pre (x ∷ []) (xs ++ zs)))

pub put_zeros : (size : ℕ) (xs : List ℕ) → length xs ≤ size → put (replicate size 0) 0 xs ≡ xs ++ replicate (size - length xs) 0
put_zeros size xs h =
    let w : size ≡ length xs + (size - length xs) = omega arith in
    let split : replicate {A = ℕ} size 0 ≡ replicate (length xs) 0 ++ replicate (size - length xs) 0 =
    ap (λ (n : ℕ). replicate {A = ℕ} n 0) w ∙ sym (replicate-append-replicate {A = ℕ} (length xs) (size - length xs) 0) in
    rw split (put_onto [] xs (replicate (length xs) 0) (replicate (size - length xs) 0) (sym (length-replicate {A = ℕ} (length xs) 0)))

-- ---- the ways out

abbrev told : ℕ → ℕ → ℕ → List ℕ → Handed
told answer next long l = record { answer = answer; next = next; long = long; bytes = l }

pub zero_seed_lem : (seed : ℕ) (l l₁ : List ℕ) → seed ≡ 0 → l₁ ≡ replicate (length l) 0 → told 8 0 0 l₁ ≡ outcome seed (length l)
unfolding outcome refused
zero_seed_lem seed l l₁ z e = rw (eq-eqb seed 0 z, e)

module _ (seed : ℕ) (l l₁ l₂ : List ℕ) (h : Pen) (some : seed ≡ 0 → ⊥) (clear : l₁ ≡ replicate (length l) 0) where
  sized : length l₁ ≡ length l
  sized = ap length clear ∙ length-replicate {A = ℕ} (length l) 0

  same_size : (g : Drawn Node) → page l₂ h ≡ drew_node l₁ 0 g → length l₂ ≡ length l
  unfolding drew
  same_size (drawn n s b k) e = ap (λ (p : Page). length p.bytes) e ∙ put_length l₁ 0 (encode n) ∙ sized

  short_of : (g : Drawn Node) → page l₂ h ≡ drew_node l₁ 0 g → length l₂ < h.at → fitted (length l) g ≡ refused (length l) 7
  unfolding drew fitted
  short_of (drawn n s b k) e over =
      let size : length l₂ ≡ length l = same_size (drawn n s b k) e in
      let end : h.at ≡ reach (length l₁) 0 (encode n) = ap (λ (p : Page). p.pen.at) e in
      elim (dec_lt (length l) (length (encode n))) [
        | yes g ↦ rw (lt-leb (length (encode n)) (length l) g)
        | no g ↦ absurd (omega (arith, reach_fits (length l₁) 0 (encode n) (omega (arith, sized)), sized))
      ]

  pub too_short : (l₃ : List ℕ) → page l₂ h ≡ drew_node l₁ 0 (draw_node 13 0 seed 400 1) → length l₂ < h.at → l₃ ≡ replicate (length l₂) 0 → told 7 0 0 l₃ ≡ outcome seed (length l)
  unfolding outcome refused draw_tree
  too_short l₃ e over w = rw (ne_eqb seed 0 some, short_of (draw_node 13 0 seed 400 1) e over, w, same_size (draw_node 13 0 seed 400 1) e)

  fits_in : (g : Drawn Node) → page l₂ h ≡ drew_node l₁ 0 g → h.at ≤ length l₂ → told 0 h.state h.at l₂ ≡ fitted (length l) g
  unfolding drew fitted
  fits_in (drawn n s b k) e under =
      let size : length l₂ ≡ length l = same_size (drawn n s b k) e in
      let end : h.at ≡ reach (length l₁) 0 (encode n) = ap (λ (p : Page). p.pen.at) e in
      elim (dec_lt (length l) (length (encode n))) [
        | yes g ↦ absurd (omega (arith, reach_over (length l₁) 0 (encode n) (omega (arith, sized)), sized))
        | no g ↦
            let at : h.at ≡ length (encode n) = end ∙ reach_fits (length l₁) 0 (encode n) (omega (arith, sized)) ∙ omega arith in
            let out : l₂ ≡ encode n ++ replicate (length l - length (encode n)) 0 = ap (λ (p : Page). p.bytes) e ∙ rw clear (put_zeros (length l) (encode n) (omega arith)) in
            rw (le-leb (length (encode n)) (length l) (omega arith), ap (λ (p : Page). p.pen.state) e, at, out)
      ]

  pub drawn_in : page l₂ h ≡ drew_node l₁ 0 (draw_node 13 0 seed 400 1) → h.at ≤ length l₂ → told 0 h.state h.at l₂ ≡ outcome seed (length l)
  unfolding outcome draw_tree
  drawn_in e under = rw (ne_eqb seed 0 some) (fits_in (draw_node 13 0 seed 400 1) e under)

-- ---- the tree lies within the slice

long_in : (size : ℕ) (g : Drawn Node) → (fitted size g).long ≤ length (fitted size g).bytes
unfolding fitted refused
long_in size (drawn n s b k) = elim (dec_lt size (length (encode n))) [
  | yes h ↦ rw (lt-leb (length (encode n)) size h) (omega arith)
  | no h ↦ rw (le-leb (length (encode n)) size (omega arith)) (omega (arith, length-append (encode n) (replicate {A = ℕ} (size - length (encode n)) 0)))
]

outcome_in : (seed size : ℕ) → (outcome seed size).long ≤ length (outcome seed size).bytes
unfolding outcome refused
outcome_in seed size = elim (dec_lt 0 seed) [
  | yes h ↦ rw (ne_eqb seed 0 (λ e. omega (arith, e))) (long_in size (draw_tree seed))
  | no h ↦ rw (eq-eqb seed 0 (omega arith)) (omega arith)
]

pub handed_within : (seed : ℕ) (l l' : List ℕ) (r : Result) → handed r l' ≡ outcome seed (length l) → r.tree_len ≤ length l'
handed_within seed l l' r e = rw (ap (λ (h : Handed). h.long) e, ap (λ (h : Handed). h.bytes) e) (outcome_in seed (length l))
