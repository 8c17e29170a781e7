-- The parts of a node that stands at a position are what its fields' positions say: for callers of the functions in parts.
-- Assumes nothing.
use mathlib.Core.Path.{◌≡◌, refl, sym, ap, subst, ◌∙◌}
use mathlib.Core.Bool.{Bool, true, false, cond, ◌&&◌, true≢false}
use mathlib.Core.List.{List}
use mathlib.Core.Option.{Option, some, map}
use Prim.Native.Nat.{ℕ, zero, suc, ◌+◌, ◌-◌, ◌%◌, ◌<◌, ◌≤◌}
use native.Mathlib.Omega.{arith}
use native.Mathlib.Decide.{dec_lt}
use lib.Dec.{eqb}
use lib.ListN.{length, take, drop, length-drop, drop_of_length-le}
use lib.Seq.{take_all, take-nil}
use borrow.Author.Tests.{le-leb, lt-leb}
use Rattle.tree.specs.Tree.{Node, Fields, Piece, Items}
use Rattle.tree.specs.Tree.Node.{node}
use Rattle.tree.specs.Tree.Fields.{done, absent, field}
use Rattle.tree.specs.Tree.Items.{none}
use Rattle.tree.specs.Grammar.{Sort, Field, fields_of, kinds}
use Rattle.tree.specs.Grammar.Sort.{child, chosen, many, gaps, text, byte, mark, number}
use Rattle.tree.specs.Read.{byte_at, wide_at}
use Rattle.tree.specs.Look as look
use Rattle.tree.specs.Look.{Seen, onward, look_items, look_field, look_slot, look_fields, look_node, seek_fields}
use Rattle.tree.proofs.Look.{piece_law}
use Rattle.lowering.specs.Parts.{nothing, kind, piece_in, stands_in, as_node, as_items_of, as_text, as_number, node_at_of, items_at_of, text_at_of, number_at, stands}
use Rattle.pattern.specs.declared.parts.Place.{Place}
use Rattle.pattern.specs.declared.parts.Run.{Run}
use Rattle.pattern.specs.Parts.{Content, sort_at, text_of, part_of, part_in, part_at, text_in_of, standing, item_place, place_of, run_of, node_here, items_here}

-- ---- fields with and without a default

abbrev or_none : Option Piece → Piece
or_none Option.none = Piece.number 0
or_none (some p) = p

piece_or : (fs : Fields) (i : ℕ) → piece_in fs i ≡ or_none (look.piece_in fs i)
unfolding piece_in look.piece_in
piece_or done i = refl
piece_or (absent fs) zero = refl
piece_or (absent fs) (suc i) = piece_or fs i
piece_or (field p fs) zero = refl
piece_or (field p fs) (suc i) = piece_or fs i

abbrev is_there : Option Piece → Bool
is_there Option.none = false
is_there (some p) = true

piece_there : (fs : Fields) (i : ℕ) → stands_in fs i ≡ is_there (look.piece_in fs i)
unfolding stands_in look.piece_in
piece_there done i = refl
piece_there (absent fs) zero = refl
piece_there (absent fs) (suc i) = piece_there fs i
piece_there (field p fs) zero = refl
piece_there (field p fs) (suc i) = piece_there fs i

-- ---- what is read of a part

-- a node without levels is as good as nothing
abbrev pub Blank : {A : Type 0} → (Node → A) → Type 0
Blank F = (at : ℕ) → F (node at 0 done) ≡ F nothing

module _ (l : List ℕ) where
  abbrev node_in_of : ℕ → Content → Node
  node_in_of d (Content.node q) = (look_node l d q).value
  node_in_of d (Content.list h n p) = nothing
  node_in_of d (Content.text p n) = nothing
  node_in_of d Content.plain = nothing
  node_in_of d Content.absent = nothing

  abbrev items_in : ℕ → Content → Items
  items_in d (Content.node q) = none
  items_in d (Content.list h n p) = (look_items l (look_node l d) h n p).value
  items_in d (Content.text p n) = none
  items_in d Content.plain = none
  items_in d Content.absent = none

  node_of : (d : ℕ) (s : Sort) (q : ℕ) → as_node (look_field l (look_node l d) s q).value ≡ node_in_of d (part_of l s q)
  unfolding look_field part_of text_of
  node_of d (child p) q = refl
  node_of d (chosen p r) q = refl
  node_of d (many p) q = refl
  node_of d (gaps p) q = refl
  node_of d text q = refl
  node_of d (byte a b) q = refl
  node_of d mark q = refl
  node_of d number q = refl

  items_of_lem : (d : ℕ) (s : Sort) (q : ℕ) → as_items_of (look_field l (look_node l d) s q).value ≡ items_in d (part_of l s q)
  unfolding look_field part_of text_of
  items_of_lem d (child p) q = refl
  items_of_lem d (chosen p r) q = refl
  items_of_lem d (many p) q = refl
  items_of_lem d (gaps p) q = refl
  items_of_lem d text q = refl
  items_of_lem d (byte a b) q = refl
  items_of_lem d mark q = refl
  items_of_lem d number q = refl

  node_opt : (d : ℕ) (s : Sort) (o : Option ℕ) → as_node (or_none (map (λ q. (look_field l (look_node l d) s q).value) o)) ≡ node_in_of d (part_in l s o)
  node_opt d s Option.none = refl
  node_opt d s (some q) = node_of d s q

  items_opt : (d : ℕ) (s : Sort) (o : Option ℕ) → as_items_of (or_none (map (λ q. (look_field l (look_node l d) s q).value) o)) ≡ items_in d (part_in l s o)
  items_opt d s Option.none = refl
  items_opt d s (some q) = items_of_lem d s q

  node_part : (d at i : ℕ) → node_at_of i (look_node l d at).value ≡ node_in_of (d - 1) (part_at l d at i)
  unfolding node_at_of look_node part_at piece_in
  node_part zero at i = refl
  node_part (suc d) at i =
      let o : suc d - 1 ≡ d = omega arith in
      let fs : List Field = fields_of (byte_at l at) in
      let m : ℕ = byte_at l (onward l at 1) in
      ap as_node (piece_or _ i ∙ ap or_none (piece_law l (λ q. look_node l d q) fs m (onward l at 2) i))
      ∙ node_opt d (sort_at fs i) (seek_fields l (λ q. look_node l d q) fs m (onward l at 2) i) ∙ rw o

  items_part : (d at i : ℕ) → items_at_of i (look_node l d at).value ≡ items_in (d - 1) (part_at l d at i)
  unfolding items_at_of look_node part_at piece_in
  items_part zero at i = refl
  items_part (suc d) at i =
      let o : suc d - 1 ≡ d = omega arith in
      let fs : List Field = fields_of (byte_at l at) in
      let m : ℕ = byte_at l (onward l at 1) in
      ap as_items_of (piece_or _ i ∙ ap or_none (piece_law l (λ q. look_node l d q) fs m (onward l at 2) i))
      ∙ items_opt d (sort_at fs i) (seek_fields l (λ q. look_node l d q) fs m (onward l at 2) i) ∙ rw o

  here : (d at i : ℕ) → part_at l (suc d) at i ≡ part_in l (sort_at (fields_of (byte_at l at)) i) (seek_fields l (look_node l d) (fields_of (byte_at l at)) (byte_at l (onward l at 1)) (onward l at 2) i)
  unfolding part_at
  here d at i = refl

  -- ---- the text in a field, and whether a field stands

  clamped : (q w : ℕ) → take w (drop (q + 2) l) ≡ take (onward l q (2 + w) - onward l q 2) (drop (onward l q 2) l)
  unfolding onward
  clamped q w = elim (dec_lt (length l) (q + 2)) [
    | yes h ↦
        let z : length l - length l ≡ 0 = omega arith in
        rw (lt-leb (q + 2) (length l) h, lt-leb (q + (2 + w)) (length l) (omega arith), z, drop_of_length-le l {i = q + 2} (omega arith)) (take-nil w)
    | no h ↦ elim (dec_lt (length l) (q + (2 + w))) [
      | yes g ↦
          rw (lt-leb (q + (2 + w)) (length l) g, le-leb (q + 2) (length l) (omega arith))
          (take_all w (drop (q + 2) l) (simp length-drop (omega arith)) ∙ sym (take_all (length l - (q + 2)) (drop (q + 2) l) (simp length-drop (omega arith))))
      | no g ↦
          let z : q + (2 + w) - (q + 2) ≡ w = omega arith in
          rw (le-leb (q + (2 + w)) (length l) (omega arith), le-leb (q + 2) (length l) (omega arith), z)
    ]
  ]

  text_of_lem : (d : ℕ) (s : Sort) (q : ℕ) → as_text (look_field l (look_node l d) s q).value ≡ text_in_of l (part_of l s q)
  unfolding look_field part_of text_of
  text_of_lem d (child p) q = refl
  text_of_lem d (chosen p r) q = refl
  text_of_lem d (many p) q = refl
  text_of_lem d (gaps p) q = refl
  text_of_lem d text q = clamped q (wide_at l q)
  text_of_lem d (byte a b) q = refl
  text_of_lem d mark q = refl
  text_of_lem d number q = refl

  text_opt : (d : ℕ) (s : Sort) (o : Option ℕ) → as_text (or_none (map (λ q. (look_field l (look_node l d) s q).value) o)) ≡ text_in_of l (part_in l s o)
  text_opt d s Option.none = refl
  text_opt d s (some q) = text_of_lem d s q

  pub text_part : (d at i : ℕ) → text_at_of i (look_node l d at).value ≡ text_in_of l (part_at l d at i)
  unfolding text_at_of look_node part_at piece_in
  text_part zero at i = refl
  text_part (suc d) at i =
      let fs : List Field = fields_of (byte_at l at) in
      let m : ℕ = byte_at l (onward l at 1) in
      ap as_text (piece_or _ i ∙ ap or_none (piece_law l (λ q. look_node l d q) fs m (onward l at 2) i))
      ∙ text_opt d (sort_at fs i) (seek_fields l (λ q. look_node l d q) fs m (onward l at 2) i)

  stands_of : (s : Sort) (q : ℕ) → true ≡ standing (part_of l s q)
  unfolding part_of text_of
  stands_of (child p) q = refl
  stands_of (chosen p r) q = refl
  stands_of (many p) q = refl
  stands_of (gaps p) q = refl
  stands_of text q = refl
  stands_of (byte a b) q = refl
  stands_of mark q = refl
  stands_of number q = refl

  stands_opt : (d : ℕ) (s : Sort) (o : Option ℕ) → is_there (map (λ q. (look_field l (look_node l d) s q).value) o) ≡ standing (part_in l s o)
  stands_opt d s Option.none = refl
  stands_opt d s (some q) = stands_of s q

  pub stands_part : (d at i : ℕ) → stands i (look_node l d at).value ≡ standing (part_at l d at i)
  unfolding stands look_node part_at stands_in
  stands_part zero at i = refl
  stands_part (suc d) at i =
      let fs : List Field = fields_of (byte_at l at) in
      let m : ℕ = byte_at l (onward l at 1) in
      piece_there _ i ∙ ap is_there (piece_law l (λ q. look_node l d q) fs m (onward l at 2) i)
      ∙ stands_opt d (sort_at fs i) (seek_fields l (λ q. look_node l d q) fs m (onward l at 2) i)

  -- ---- the node in a field

  module _ {A : Type 0} (F : Node → A) (blank : Blank F) where
    here_is : (d at : ℕ) (p : Content) → F (node_here l (place_of d at p)) ≡ F (node_in_of (d - 1) p)
    unfolding place_of look_node
    here_is d at (Content.node q) = refl
    here_is d at (Content.list h n p) = blank at
    here_is d at (Content.text p n) = blank at
    here_is d at Content.plain = blank at
    here_is d at Content.absent = blank at

    -- what is asked of the node in a field may be asked of the node at its place
    pub child_is : (d at i : ℕ) (s : Place) → s ≡ place_of d at (part_at l d at i) → F (node_here l s) ≡ F (node_at_of i (look_node l d at).value)
    child_is d at i s e = ap (λ (x : Place). F (node_here l x)) e ∙ here_is d at (part_at l d at i) ∙ ap F (sym (node_part d at i))

  -- its place has fewer levels
  place_falls : (d at : ℕ) (p : Content) → (d ≡ 0 → ⊥) → (place_of d at p).left < d
  unfolding place_of
  place_falls d at (Content.node q) z = omega arith
  place_falls d at (Content.list h n p) z = omega arith
  place_falls d at (Content.text p n) z = omega arith
  place_falls d at Content.plain z = omega arith
  place_falls d at Content.absent z = omega arith

  pub child_falls : (d at i : ℕ) (s : Place) → (d ≡ 0 → ⊥) → s ≡ place_of d at (part_at l d at i) → s.left < d
  child_falls d at i s z e = rw e (place_falls d at (part_at l d at i) z)

  -- that of a node in a node below has, too
  place_le : (d at : ℕ) (p : Content) → (place_of d at p).left ≤ d
  unfolding place_of
  place_le d at (Content.node q) = omega arith
  place_le d at (Content.list h n p) = omega arith
  place_le d at (Content.text p n) = omega arith
  place_le d at Content.plain = omega arith
  place_le d at Content.absent = omega arith

  pub child_below : (d e at i : ℕ) (s : Place) → (d ≡ 0 → ⊥) → s ≡ place_of (d - 1) at (part_at l e at i) → s.left < d
  child_below d e at i s z w = let h : (place_of (d - 1) at (part_at l e at i)).left ≤ d - 1 = place_le (d - 1) at (part_at l e at i) in rw w (omega arith)

  pub item_below : (d at : ℕ) (h : Bool) (s : Place) → (d ≡ 0 → ⊥) → s ≡ item_place l h (d - 1) at → s.left < d
  unfolding item_place
  item_below d at h s z e = rw e (go (h && eqb (byte_at l at) 0))
    where
      go : (b : Bool) → cond b 0 (d - 1) < d
      go true = omega arith
      go false = omega arith

  -- ---- the list in a field

  run_is : (d at : ℕ) (p : Content) → items_here l d (run_of at p) ≡ items_in d p
  unfolding run_of look_items
  run_is d at (Content.node q) = refl
  run_is d at (Content.list h n p) = refl
  run_is d at (Content.text p n) = refl
  run_is d at Content.plain = refl
  run_is d at Content.absent = refl

  pub list_is : (d at i : ℕ) (r : Run) → r ≡ run_of at (part_at l d at i) → items_here l (d - 1) r ≡ items_at_of i (look_node l d at).value
  list_is d at i r e = ap (items_here l (d - 1)) e ∙ run_is (d - 1) at (part_at l d at i) ∙ sym (items_part d at i)

  -- a kind's list of one sort: with the holes that the sort says
  abbrev Holed : Bool → Content → Type 0
  Holed b (Content.node q) = Unit {0}
  Holed b (Content.list h n p) = h ≡ b
  Holed b (Content.text p n) = Unit {0}
  Holed b Content.plain = Unit {0}
  Holed b Content.absent = Unit {0}

  many_holes : (p : ℕ) (o : Option ℕ) → Holed false (part_in l (many p) o)
  unfolding part_of
  many_holes p Option.none = tt
  many_holes p (some q) = refl

  gaps_holes : (p : ℕ) (o : Option ℕ) → Holed true (part_in l (gaps p) o)
  unfolding part_of
  gaps_holes p Option.none = tt
  gaps_holes p (some q) = refl

  run_holes : (b : Bool) (d at : ℕ) (p : Content) → Holed b p → (look_items l (look_node l d) b (run_of at p).count (run_of at p).from).value ≡ items_here l d (run_of at p)
  unfolding run_of look_items
  run_holes b d at (Content.node q) h = refl
  run_holes b d at (Content.list c n p) h = rw (← h)
  run_holes b d at (Content.text p n) h = refl
  run_holes b d at Content.plain h = refl
  run_holes b d at Content.absent h = refl

  object_holes : (d at : ℕ) → byte_at l at ≡ 34 → Holed false (part_at l d at 0)
  unfolding part_at fields_of kinds
  object_holes zero at e = tt
  object_holes (suc d) at e = rw e (many_holes 17 (seek_fields l (look_node l d) (fields_of 34) (byte_at l (onward l at 1)) (onward l at 2) 0))

  array_holes : (d at : ℕ) → byte_at l at ≡ 36 → Holed true (part_at l d at 0)
  unfolding part_at fields_of kinds
  array_holes zero at e = tt
  array_holes (suc d) at e = rw e (gaps_holes 18 (seek_fields l (look_node l d) (fields_of 36) (byte_at l (onward l at 1)) (onward l at 2) 0))

  pub object_list : (d at : ℕ) (r : Run) → byte_at l at ≡ 34 → r ≡ run_of at (part_at l d at 0) → (look_items l (look_node l (d - 1)) false r.count r.from).value ≡ items_at_of 0 (look_node l d at).value
  object_list d at r k e =
      ap (λ (x : Run). (look_items l (look_node l (d - 1)) false x.count x.from).value) e
      ∙ run_holes false (d - 1) at (part_at l d at 0) (object_holes d at k) ∙ run_is (d - 1) at (part_at l d at 0) ∙ sym (items_part d at 0)

  pub array_list : (d at : ℕ) (r : Run) → byte_at l at ≡ 36 → r ≡ run_of at (part_at l d at 0) → (look_items l (look_node l (d - 1)) true r.count r.from).value ≡ items_at_of 0 (look_node l d at).value
  array_list d at r k e =
      ap (λ (x : Run). (look_items l (look_node l (d - 1)) true x.count x.from).value) e
      ∙ run_holes true (d - 1) at (part_at l d at 0) (array_holes d at k) ∙ run_is (d - 1) at (part_at l d at 0) ∙ sym (items_part d at 0)

  -- ---- the kind

  pub kind_is : (d at k : ℕ) → (d ≡ 0 → ⊥) → k ≡ byte_at l at → kind (look_node l d at).value ≡ k
  unfolding look_node
  kind_is zero at k z e = absurd (z refl)
  kind_is (suc d) at k z e = sym e

  pub no_levels : (d at : ℕ) → d ≡ 0 → (look_node l d at).value ≡ node at 0 done
  unfolding look_node
  no_levels d at z = rw z

-- ---- the byte in the first field of a literal

not_there : (fs : Fields) → stands_in fs 0 ≡ false → as_number (piece_in fs 0) ≡ 0
unfolding stands_in piece_in
not_there done h = refl
not_there (absent fs) h = refl
not_there (field p fs) h = absurd (true≢false h)

module _ (l : List ℕ) where
  pub sort_absent : (d at : ℕ) → stands 0 (look_node l d at).value ≡ false → 0 ≡ number_at 0 (look_node l d at).value
  unfolding stands number_at
  sort_absent d at h = go (look_node l d at).value h
    where
      go : (n : Node) → stands 0 n ≡ false → 0 ≡ number_at 0 n
      go (node p k fs) h = sym (not_there fs h)

  first_byte : (R : ℕ → Seen Node) (low high bit at : ℕ) (fs : Fields) → stands_in ((look_slot l R (byte low high) bit at).value fs) 0 ≡ true → byte_at l at ≡ as_number (piece_in ((look_slot l R (byte low high) bit at).value fs) 0)
  unfolding look_slot look_field stands_in piece_in
  first_byte R low high zero at fs h = absurd (true≢false (sym h))
  first_byte R low high (suc bit) at fs h = refl

  pub sort_there : (d at : ℕ) → byte_at l at ≡ 22 → stands 0 (look_node l d at).value ≡ true → byte_at l (onward l at 2) ≡ number_at 0 (look_node l d at).value
  unfolding stands number_at look_node look_fields fields_of stands_in kinds
  sort_there zero at k h = absurd (true≢false (sym h))
  sort_there (suc d) at k h = go (byte_at l at) k h
    where
      go : (kind : ℕ) → kind ≡ 22
          → stands_in (look_fields l (λ q. look_node l d q) (fields_of kind) (byte_at l (onward l at 1)) (onward l at 2)).value 0 ≡ true
          → byte_at l (onward l at 2) ≡ as_number (piece_in (look_fields l (λ q. look_node l d q) (fields_of kind) (byte_at l (onward l at 1)) (onward l at 2)).value 0)
      go kind e =
          subst
          (λ (k : ℕ). stands_in (look_fields l (λ q. look_node l d q) (fields_of k) (byte_at l (onward l at 1)) (onward l at 2)).value 0 ≡ true
          → byte_at l (onward l at 2) ≡ as_number (piece_in (look_fields l (λ q. look_node l d q) (fields_of k) (byte_at l (onward l at 1)) (onward l at 2)).value 0))
          (sym e)
          (first_byte (λ q. look_node l d q) 1 6 (byte_at l (onward l at 1) % 2) (onward l at 2) _)
