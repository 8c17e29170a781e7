-- Every plain literal of an accepted tree is handed out, or is written lowered.
-- Assumes nothing.
use mathlib.Core.Path.{◌≡◌, refl, sym, ap, subst, ◌∙◌}
use mathlib.Core.Bool.{Bool, true, false, cond, ◌||◌}
use mathlib.Core.List.{List, [], ◌∷◌, ◌++◌}
use Prim.Native.Nat.{ℕ, suc, ◌+◌}
use native.Mathlib.Nat.{add-zero}
use native.Mathlib.Omega.{arith}
use lib.Dec.{eqb}
use borrow.Author.Tests.{eqb-true, eq-eqb}
use Rattle.tree.specs.Tree.{Node, Fields, Piece, Items}
use Rattle.tree.specs.Tree.Node.{node}
use Rattle.tree.specs.Grammar.Stage.{input}
use Rattle.tree.specs.Read.{read_tree}
use Rattle.tree.specs.Read.Got.{got}
use Rattle.tree.specs.WellFormed.{Bytes, WellFormed}
use Rattle.tree.proofs.Sound.{sound}
use Rattle.lowering.specs.Parts.{kind, is, node_at_of, ◌+++◌}
use Rattle.lowering.specs.Made.{Context}
use Rattle.lowering.specs.Walk.{Note, Walked, rewrite, within, inside, each_item_of, each_piece, each_field}
use Rattle.lowering.specs.Weight.{walked}
use Rattle.lowering.specs.Collect.{Visit, new_in, new_in_piece, is_container, marked, mark_of, visits, visits_fields, visits_piece, visits_items, first_refusal, Name}
use Rattle.lowering.specs.Answer.{top}
use Rattle.lowering.proofs.Notes.{AllNotes}
use Rattle.lowering.proofs.Falls.{walked_is}
use Rattle.overlay.specs.Plain.{plain}
use Rattle.lowering.specs.Visits.{ItemAt, NodeIn, FieldAt, PartAt, Stands, Visits}
use Rattle.overlay.specs.Whole.{leaves, Comes, Reached, Lowered, Everywhere, OverlayEverywhere}
use Rattle.overlay.specs.Law.{literal_of}
use Rattle.overlay.proofs.LaidOn.{differ}
use Rattle.overlay.proofs.TreesCompared.{same, same_is, same_self}
use Rattle.overlay.proofs.Visited.{Finds, comes}
use Rattle.overlay.proofs.Counted.{Apart, counted}
use Rattle.overlay.proofs.AcceptedGiven.{accepted_given}
use Rattle.overlay.proofs.LoweredInPlace.{zero_plus, plus_suc, in_place, lowered_overlays, writes}
use Rattle.lowering.proofs.Cases.{by_test}

-- ---- the note of each node that the walk comes to is among the notes that are collected

module _ (P : Note → Type 0) where
  abbrev All : List Visit → Type 0
  All vs = AllNotes P vs

  all_left : (us vs : List Visit) → All (us ++ vs) → All us
  all_left [] vs h = tt
  all_left (u ∷ us) vs h = (h.0, all_left us vs h.1)

  all_right : (us vs : List Visit) → All (us ++ vs) → All vs
  all_right [] vs h = h
  all_right (u ∷ us) vs h = all_right us vs h.1

  -- the notes of a walked node, somewhere
  abbrev Noted : Walked → Type 0
  Noted w = (next : ℕ) × (m : ℕ) × All (visits next m w)

  item_noted : {is : Items} {j : ℕ} {x : Node} → ItemAt is j x → (w : ℕ → Node → Walked) (j₀ : ℕ) (l : Bool) (next m : ℕ) → All (visits_items l next m (each_item_of w j₀ is)) → Noted (w (j₀ + j) x)
  unfolding each_item_of visits
  item_noted (ItemAt.first {x = x} {is = is}) w j₀ l next m h =
      subst (λ (y : ℕ). Noted (w y x)) (sym (add-zero j₀))
      (next, cond l (marked next (mark_of (w j₀ x))) m, all_left (visits next (cond l (marked next (mark_of (w j₀ x))) m) (w j₀ x)) (visits_items l (next + new_in (w j₀ x)) m (each_item_of w (suc j₀) is)) h)
  item_noted (ItemAt.behind {n = n} {x = x} {is = is} {j = j} a) w j₀ l next m h =
      subst (λ (y : ℕ). Noted (w y x)) (plus_suc j₀ j)
      (item_noted a w (suc j₀) l (next + new_in (w j₀ n)) m (all_right (visits next (cond l (marked next (mark_of (w j₀ n))) m) (w j₀ n)) (visits_items l (next + new_in (w j₀ n)) m (each_item_of w (suc j₀) is)) h))
  item_noted (ItemAt.behind_hole {x = x} {j = j} a) w j₀ l next m h = subst (λ (y : ℕ). Noted (w y x)) (plus_suc j₀ j) (item_noted a w (suc j₀) l next m h)

  piece_noted : {p : Piece} {j : ℕ} {x : Node} → NodeIn p j x → (w : ℕ → Node → Walked) (l : Bool) (next m : ℕ) → All (visits_piece l next m (each_piece w p)) → Noted (w j x)
  unfolding each_piece visits
  piece_noted NodeIn.one w l next m h = (next, m, h)
  piece_noted (NodeIn.list {x = x} {j = j} a) w l next m h = subst (λ (y : ℕ). Noted (w y x)) (zero_plus j) (item_noted a w 0 l next m h)

  field_noted : {fs : Fields} {i j : ℕ} {x : Node} → FieldAt fs i j x → (w : ℕ → ℕ → Node → Walked) (i₀ : ℕ) (l : Bool) (next m : ℕ) → All (visits_fields l next m (each_field w i₀ fs)) → Noted (w (i₀ + i) j x)
  unfolding each_field visits
  field_noted (FieldAt.first {p = p} {fs = fs} {j = j} {x = x} a) w i₀ l next m h =
      subst (λ (y : ℕ). Noted (w y j x)) (sym (add-zero i₀))
      (piece_noted a (w i₀) l next m (all_left (visits_piece l next m (each_piece (w i₀) p)) (visits_fields l (next + new_in_piece (each_piece (w i₀) p)) m (each_field w (suc i₀) fs)) h))
  field_noted (FieldAt.behind {p = p} {fs = fs} {i = i} {j = j} {x = x} a) w i₀ l next m h =
      subst (λ (y : ℕ). Noted (w y j x)) (plus_suc i₀ i)
      (field_noted a w (suc i₀) l (next + new_in_piece (each_piece (w i₀) p)) m (all_right (visits_piece l next m (each_piece (w i₀) p)) (visits_fields l (next + new_in_piece (each_piece (w i₀) p)) m (each_field w (suc i₀) fs)) h))
  field_noted (FieldAt.behind_absent {i = i} {j = j} {x = x} a) w i₀ l next m h = subst (λ (y : ℕ). Noted (w y j x)) (plus_suc i₀ i) (field_noted a w (suc i₀) l next m h)

  part_noted : {n x : Node} {i j : ℕ} → PartAt n i j x → (note : Note) (w : ℕ → ℕ → Node → Walked) (next m : ℕ) → All (visits next m (inside note w n)) → Noted (w i j x)
  unfolding inside visits
  part_noted (PartAt.part {k = k} {i = i} {j = j} {x = x} a) note w next m h = subst (λ (y : ℕ). Noted (w y j x)) (zero_plus i) (field_noted a w 0 (is_container k) next m h.1)

  here_noted : (note : Note) (w : ℕ → ℕ → Node → Walked) (n : Node) (next m : ℕ) → All (visits next m (inside note w n)) → P note
  unfolding inside visits
  here_noted note w (node at k fs) next m h = h.0

  pub visit_noted : {c d : Context} {n x : Node} → Visits c n d x → (next m : ℕ) → All (visits next m (walked c n)) → P (rewrite d x).note
  visit_noted (Visits.here {c = c} {n = n}) next m h =
      here_noted (rewrite c n).note (λ i j m. walked (within c (rewrite c n).result i j) m) (rewrite c n).result next m (subst (λ (w : Walked). All (visits next m w)) (walked_is c n) h)
  visit_noted (Visits.onward {c = c} {n = n} e a v) next m h =
      let r = part_noted a (rewrite c n).note (λ i j m. walked (within c (rewrite c n).result i j) m) next m (subst (λ (w : Walked). All (visits next m w)) (walked_is c n) h) in
      visit_noted v r.0 r.1 r.2

unrefused : (vs : List Visit) → first_refusal vs ≡ 0 → AllNotes (λ n. n.refusal ≡ 0) vs
unfolding first_refusal
unrefused [] e = tt
unrefused (v ∷ vs) e =
    by_test (eqb v.note.refusal 0)
    (λ z. (eqb-true v.note.refusal 0 z, unrefused vs (rw (z, first_refusal) at e)))
    (λ z. absurd (refuted (rw (z, first_refusal) at e) z))
  where
    refuted : v.note.refusal ≡ 0 → eqb v.note.refusal 0 ≡ false → ⊥
    refuted y z = differ (sym (eq-eqb v.note.refusal 0 y) ∙ z)

-- ---- every literal and Declaration

-- a literal, or a Declaration that is the left of no ForIn and ForOf
pub comes_to : (levels next : ℕ) (n : Node) → WellFormed input levels n next → first_refusal (visits next 0 (walked top n)) ≡ 0
    → (p : List ℕ) (m : Node) → Stands [] n p m → Apart (same m) [] n → (is 24 m || is 4 m) ≡ true → Comes m top n
comes_to levels next n w r p m s u k = go (comes (same m) top n (counted (same m) levels next n w s u k (same_self m)))
  where
    go : Finds (same m) top n → Comes m top n
    go (Finds.visited {d = d} {m = m'} v e) = Comes.visited (subst (λ (x : Node). Visits top n d x) (sym (same_is m m' e)) v)
    go (Finds.in_entry {y = y} {m = m'} {p = q} v i t e) = Comes.in_entry v i (subst (λ (x : Node). Stands [] y q x) (sym (same_is m m' e)) t)
    go (Finds.in_excluded {y = y} {m = m'} {p = q} v i t e) = Comes.in_excluded v i (subst (λ (x : Node). Stands [] y q x) (sym (same_is m m' e)) t)
    go (Finds.refused {d = d} {x = x} v q) =
        absurd (let z = visit_noted (λ n. n.refusal ≡ 0) v next 0 (unrefused (visits next 0 (walked top n)) r) in omega arith)

pub reached : Reached
unfolding is
reached levels next n w r p m s k = comes_to levels next n w r p m s (λ q f t l d. other (node_at_of 1 f) d) (rw k refl)
  where
    -- a literal is no Declaration
    other : (l : Node) → is 4 l ≡ true → same m l ≡ false
    other l d = by_test (same m l) (λ e. differ (sym d ∙ ap (is 4) (sym (same_is m l e)) ∙ rw (eqb-true (kind m) 24 k) refl)) (λ e. e)

pub everywhere : Everywhere
everywhere levels next n w r ns p m s k e = go (reached levels next n w r p m s k)
  where
    go : Comes m top n → Lowered m n (leaves ns next top n)
    go (Comes.visited {d = d} v) = Lowered.in_tree (in_place ns next n m d v (accepted_given levels next n w s) e)
    go (Comes.in_entry v i t) = Lowered.in_list_of v i t
    go (Comes.in_excluded v i t) = Lowered.in_keys v i t

-- ---- every plain literal of an accepted tree: what the reader accepts is well formed (tree's Sound)

pub accepted_everywhere : (levels : ℕ) (tree : List ℕ) (n : Node) (q next : ℕ) → Bytes tree → read_tree input levels tree ≡ got n q next → first_refusal (visits next 0 (walked top n)) ≡ 0
    → (ns : List Name) (p : List ℕ) (m : Node) → Stands [] n p m → is 24 m ≡ true → plain m ≡ true → Lowered m n (leaves ns next top n)
accepted_everywhere levels tree n q next b e = everywhere levels next n (sound input levels tree n q next b e).well_formed

-- ---- the law, of every call that lowers

pub overlay_everywhere : OverlayEverywhere
unfolding is
overlay_everywhere limit options bytes s helpers mask t l b e =
    let w = writes limit options bytes s helpers mask t l e in
    let f = (sound input limit bytes w.0 w.1 w.2 b w.4).well_formed in (
      w.0,
      leaves w.3 w.2 top w.0,
      w.1,
      w.2,
      w.4,
      w.6,
      λ p at ps qs m k. (
        everywhere limit w.2 w.0 f w.5 w.3 p (literal_of at (ps +++ qs)) m refl k,
        λ W fair how at' h. lowered_overlays W fair how at at' ps qs h (accepted_given limit w.2 w.0 f m) k,
      ),
    )
