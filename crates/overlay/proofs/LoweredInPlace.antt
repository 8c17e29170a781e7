-- The walk leaves a plain literal lowered at its place of the whole tree.
-- Assumes nothing.
use mathlib.Core.Path.{◌≡◌, sym, subst, ◌∙◌}
use mathlib.Core.Bool.{false}
use mathlib.Core.List.{List, []}
use Prim.Native.Nat.{ℕ, suc, ◌+◌}
use native.Mathlib.Nat.{add-zero}
use native.Mathlib.Omega.{arith}
use Rattle.tree.specs.Tree.{Node, Fields, Piece, Items, encode}
use Rattle.tree.specs.Grammar.Stage.{input}
use Rattle.tree.specs.Read.{read_tree}
use Rattle.tree.specs.Read.Got.{got}
use Rattle.lowering.specs.Parts.{is}
use Rattle.lowering.specs.Walk.{Note, Walked, rewrite, within, inside, each_item_of, each_piece, each_field}
use Rattle.lowering.specs.Weight.{walked}
use Rattle.lowering.specs.Collect.{Name, new_in, new_in_piece, bare, bare_fields, bare_piece, bare_items, numbered, numbered_fields, numbered_piece, numbered_items, visits, first_refusal, entries, excluded_in, names_of, list_bytes}
use Rattle.lowering.specs.Answer.{Lent, Result, lowering, top}
use Rattle.lowering.proofs.Falls.{walked_is}
use Rattle.lowering.proofs.CallLowers.{lowers}
use Rattle.overlay.specs.Plain.{given}
use Rattle.overlay.specs.Law.{Overlay}
use Rattle.lowering.specs.Visits.{ItemAt, NodeIn, FieldAt, PartAt, Stands, Visits}
use Rattle.overlay.specs.Whole.{leaves, lowered, Left, InPlace, Writes}
use Rattle.overlay.proofs.Plainly.{Plain, plain_rule}
use Rattle.overlay.proofs.LiteralsLowered.{plain_turns}
use Rattle.overlay.proofs.Overlay.{overlays}

pub zero_plus : (n : ℕ) → 0 + n ≡ n
zero_plus n = omega arith

pub plus_suc : (m n : ℕ) → suc m + n ≡ m + suc n
plus_suc m n = omega arith

item_to : {is : Items} {j : ℕ} (f : ℕ → Node) {m n : ℕ} → m ≡ n → ItemAt is j (f m) → ItemAt is j (f n)
item_to {is} {j} f e a = subst (λ (y : ℕ). ItemAt is j (f y)) e a

field_to : {fs : Fields} {i j : ℕ} (f : ℕ → Node) {m n : ℕ} → m ≡ n → FieldAt fs i j (f m) → FieldAt fs i j (f n)
field_to {fs} {i} {j} f e a = subst (λ (y : ℕ). FieldAt fs i j (f y)) e a

-- ---- a part of what is rewritten is a part of what is written

module _ (ns : List Name) where
  abbrev final : ℕ → Walked → Node
  final next w = numbered ns (bare next w)

  item_left : {is : Items} {j : ℕ} {x : Node} → ItemAt is j x → (w : ℕ → Node → Walked) (next j₀ : ℕ)
      → (next' : ℕ) × ItemAt (numbered_items ns (bare_items next (each_item_of w j₀ is))) j (final next' (w (j₀ + j) x))
  unfolding each_item_of bare numbered
  item_left (ItemAt.first {x = x}) w next j₀ = (next, item_to (λ y. final next (w y x)) (sym (add-zero j₀)) ItemAt.first)
  item_left (ItemAt.behind {n = n} {x = x} {j = j} a) w next j₀ =
      let r = item_left a w (next + new_in (w j₀ n)) (suc j₀) in
      (r.0, item_to (λ y. final r.0 (w y x)) (plus_suc j₀ j) (ItemAt.behind r.1))
  item_left (ItemAt.behind_hole {x = x} {j = j} a) w next j₀ =
      let r = item_left a w next (suc j₀) in
      (r.0, item_to (λ y. final r.0 (w y x)) (plus_suc j₀ j) (ItemAt.behind_hole r.1))

  piece_left : {p : Piece} {j : ℕ} {x : Node} → NodeIn p j x → (w : ℕ → Node → Walked) (next : ℕ)
      → (next' : ℕ) × NodeIn (numbered_piece ns (bare_piece next (each_piece w p))) j (final next' (w j x))
  unfolding each_piece bare numbered
  piece_left NodeIn.one w next = (next, NodeIn.one)
  piece_left (NodeIn.list {x = x} {j = j} a) w next = let r = item_left a w next 0 in (r.0, NodeIn.list (item_to (λ y. final r.0 (w y x)) (zero_plus j) r.1))

  field_left : {fs : Fields} {i j : ℕ} {x : Node} → FieldAt fs i j x → (w : ℕ → ℕ → Node → Walked) (next i₀ : ℕ)
      → (next' : ℕ) × FieldAt (numbered_fields ns (bare_fields next (each_field w i₀ fs))) i j (final next' (w (i₀ + i) j x))
  unfolding each_field bare numbered
  field_left (FieldAt.first {j = j} {x = x} a) w next i₀ =
      let r = piece_left a (w i₀) next in
      (r.0, field_to (λ y. final r.0 (w y j x)) (sym (add-zero i₀)) (FieldAt.first r.1))
  field_left (FieldAt.behind {p = p} {i = i} {j = j} {x = x} a) w next i₀ =
      let r = field_left a w (next + new_in_piece (each_piece (w i₀) p)) (suc i₀) in
      (r.0, field_to (λ y. final r.0 (w y j x)) (plus_suc i₀ i) (FieldAt.behind r.1))
  field_left (FieldAt.behind_absent {i = i} {j = j} {x = x} a) w next i₀ =
      let r = field_left a w next (suc i₀) in
      (r.0, field_to (λ y. final r.0 (w y j x)) (plus_suc i₀ i) (FieldAt.behind_absent r.1))

  part_left : {n x : Node} {i j : ℕ} → PartAt n i j x → is 20 n ≡ false → (note : Note) (w : ℕ → ℕ → Node → Walked) (next : ℕ)
      → (next' : ℕ) × PartAt (final next (inside note w n)) i j (final next' (w i j x))
  unfolding inside bare numbered is
  part_left (PartAt.part {i = i} {j = j} {x = x} a) e note w next =
      let r = field_left a w next 0 in
      (r.0, rw e (PartAt.part (field_to (λ y. final r.0 (w y j x)) (zero_plus i) r.1)))

pub left : Left
unfolding leaves within
left ns next c d n m Visits.here = (next, Stands.here)
left ns next c d n m (Visits.onward {x = x} {i = i} {j = j} e a v) =
    let r = (rewrite c n).result in
    let p = part_left ns a e (rewrite c n).note (λ i j m. walked (within c r i j) m) next in
    let s = left ns p.0 (within c r i j) d x m v in
    (s.0, subst (λ (w : Walked). Stands c.path (numbered ns (bare next w)) d.path (leaves ns s.0 d m)) (sym (walked_is c n)) (Stands.onward p.1 s.1))

-- ---- the literal at its place

pub in_place : InPlace
unfolding given
in_place ns next n m d v g e =
    let r : Plain m = plain_rule m e g in
    let s = left ns next top d n m v in
    subst (λ (x : Node). Stands [] (leaves ns next top n) d.path x) (plain_turns ns r s.0 d ∙ sym (plain_turns [] r 1 top)) s.1

pub lowered_overlays : Overlay lowered lowered
lowered_overlays = overlays [] [] 1 1 top top

-- ---- the bytes of the result

-- the tree and the list, with the names of the temporaries in the order of their numbers
abbrev pub Bytes_of : ℕ → Walked → List ℕ → List ℕ → Type 0
Bytes_of next w t l =
    let vs = visits next 0 w in
    let ns = names_of (bare next w) (entries vs) (excluded_in vs) in
    (first_refusal vs ≡ 0) × (t ≡ encode (numbered ns (bare next w))) × (l ≡ list_bytes ns (entries vs) (excluded_in vs))

-- what a call that lowers has read, and what it writes
pub call_writes : (limit options : ℕ) (bytes : List ℕ) (s : Lent) (helpers mask : ℕ) (t l : List ℕ) → lowering limit options bytes s ≡ Result.lowered helpers mask t l
    → (n : Node) × (q next : ℕ) × (read_tree input limit bytes ≡ got n q next) × Bytes_of next (walked top n) t l
call_writes limit options bytes s helpers mask t l e =
    let x = lowers helpers mask t l limit options bytes s e in (x.n, x.end, x.next, x.read, (x.unrefused, x.tree_bytes_lem, x.list_bytes_lem))

pub writes : Writes
unfolding leaves
writes limit options bytes s helpers mask t l e =
    let x = call_writes limit options bytes s helpers mask t l e in
    let vs = visits x.2 0 (walked top x.0) in
    (x.0, x.1, x.2, names_of (bare x.2 (walked top x.0)) (entries vs) (excluded_in vs), x.3, x.4.0, x.4.1)
