-- The walk comes to every literal that it does not hand out.
-- Assumes nothing.
use mathlib.Core.Path.{◌≡◌, refl}
use mathlib.Core.Bool.{Bool, true, false}
use mathlib.Core.List.{List, [], ◌∷◌}
use Prim.Native.Nat.{ℕ, zero, suc, ◌≤◌, ◌<◌}
use native.Mathlib.Omega.{arith}
use lib.Dec.{eqb}
use Rattle.tree.specs.Tree.{Node, Fields, Piece, Items}
use Rattle.tree.specs.Tree.Node.{node}
use Rattle.lowering.specs.Parts.{is}
use Rattle.lowering.specs.Made.{Context}
use Rattle.lowering.specs.Walk.{rewrite, within}
use Rattle.lowering.specs.Weight.{weight}
use Rattle.lowering.proofs.Weights.{weight_pos, parts_fall}
use Rattle.lowering.proofs.Falls.{falls}
use Rattle.lowering.specs.Visits.{ItemAt, NodeIn, FieldAt, PartAt, Stands, Visits}
use Rattle.overlay.proofs.LiteralsCounted.{held, held_all, held_piece, held_items_of}
use Rattle.overlay.proofs.RulesKeepLiterals.{own, parts_held_of, stays, Kept, kept, refuses, keeps}
use Rattle.lowering.proofs.Cases.{by_test}
use Rattle.lowering.proofs.PartsAt.{part_at}

by_zero : {A : Type 0} (n : ℕ) → (n ≡ 0 → A) → (0 < n → A) → A
by_zero zero f g = f refl
by_zero (suc m) f g = g (omega arith)

module _ (wanted : Node → Bool) where
  -- ---- a part that counts

  find_item : (is : Items) → 0 < held_items_of wanted is → (j : ℕ) × (x : Node) × ItemAt is j x × (0 < held wanted x)
  unfolding held
  find_item Items.none h = absurd (omega arith)
  find_item (Items.hole is) h = let r = find_item is h in (suc r.0, r.1, ItemAt.behind_hole r.2, r.3)
  find_item (Items.item n is) h =
      by_zero (held wanted n)
      (λ z. let r = find_item is (omega arith) in (suc r.0, r.1, ItemAt.behind r.2, r.3))
      (λ p. (0, n, ItemAt.first, p))

  find_piece : (p : Piece) → 0 < held_piece wanted p → (j : ℕ) × (x : Node) × NodeIn p j x × (0 < held wanted x)
  unfolding held
  find_piece (Piece.one n) h = (0, n, NodeIn.one, h)
  find_piece (Piece.list is) h = let r = find_item is h in (r.0, r.1, NodeIn.list r.2, r.3)
  find_piece (Piece.text bs) h = absurd (omega arith)
  find_piece (Piece.byte b) h = absurd (omega arith)
  find_piece (Piece.mark b) h = absurd (omega arith)
  find_piece (Piece.number b) h = absurd (omega arith)

  find_field : (fs : Fields) → 0 < held_all wanted fs → (i : ℕ) × (j : ℕ) × (x : Node) × FieldAt fs i j x × (0 < held wanted x)
  unfolding held
  find_field Fields.done h = absurd (omega arith)
  find_field (Fields.absent fs) h = let r = find_field fs h in (suc r.0, r.1, r.2, FieldAt.behind_absent r.3, r.4)
  find_field (Fields.field p fs) h =
      by_zero (held_piece wanted p)
      (λ z. let r = find_field fs (omega arith) in (suc r.0, r.1, r.2, FieldAt.behind r.3, r.4))
      (λ q. let r = find_piece p q in (0, r.0, r.1, FieldAt.first r.2, r.3))

  find_part : (n : Node) → 0 < parts_held_of wanted n → (i : ℕ) × (j : ℕ) × (x : Node) × (is 20 n ≡ false) × PartAt n i j x × (0 < held wanted x)
  unfolding parts_held_of is
  find_part (node at k fs) h =
      by_test (eqb k 20)
      (λ e. absurd (let z : 0 < 0 = rw e at h in omega arith))
      (λ e. let r = find_field fs (rw e at h) in (r.0, r.1, r.2, e, PartAt.part r.3, r.4))

  own_wanted : (n : Node) → 0 < own wanted n → wanted n ≡ true
  own_wanted n h = by_test (wanted n) (λ e. e) (λ e. absurd (let z : 0 < 0 = rw e at h in omega arith))

  -- ---- in a tree by itself

  stands_in_lem : (f : ℕ) (n : Node) (p : List ℕ) → weight n ≤ f → 0 < held wanted n → (q : List ℕ) × (m : Node) × Stands p n q m × (wanted m ≡ true)
  stands_in_lem zero n p w h = absurd (let z = weight_pos n in omega arith)
  stands_in_lem (suc f) n p w h =
      let s = stays wanted n in
      by_zero (own wanted n)
      (λ z. let r = find_part n (omega arith) in
      let l = part_at (λ x. weight x < weight n) r.4 (parts_fall n) in
      let t = stands_in_lem f r.2 (r.1 ∷ r.0 ∷ p) (omega arith) r.5 in
      (t.0, t.1, Stands.onward {q = t.0} {m = t.1} r.4 t.2, t.3))
      (λ o. (p, n, Stands.here, own_wanted n o))

-- ---- the walk

-- it comes to a literal that passes a test; or such a literal stands in what is handed out; or something is refused
pub data Finds (wanted : Node → Bool) (c : Context) (n : Node) : Type 0 where
  visited : {d : Context} {m : Node} → Visits c n d m → wanted m ≡ true → Finds wanted c n
  in_entry : {d : Context} {x y m : Node} {j : ℕ} {p : List ℕ} → Visits c n d x → ItemAt (rewrite d x).note.entry j y → Stands [] y p m → wanted m ≡ true → Finds wanted c n
  in_excluded : {d : Context} {x y m : Node} {j : ℕ} {p : List ℕ} → Visits c n d x → ItemAt (rewrite d x).note.excluded j y → Stands [] y p m → wanted m ≡ true → Finds wanted c n
  refused : {d : Context} {x : Node} → Visits c n d x → 0 < (rewrite d x).note.refusal → Finds wanted c n

module _ (wanted : Node → Bool) where
  further : {c d : Context} {n x m : Node} {i j : ℕ} → is 20 (rewrite c n).result ≡ false → PartAt (rewrite c n).result i j x
      → Visits (within c (rewrite c n).result i j) x d m → Visits c n d m
  further e a v = Visits.onward e a v

  -- one more node around
  around : {c : Context} {n x : Node} {i j : ℕ} → is 20 (rewrite c n).result ≡ false → PartAt (rewrite c n).result i j x
      → Finds wanted (within c (rewrite c n).result i j) x → Finds wanted c n
  around e a (Finds.visited v w) = Finds.visited (further e a v) w
  around e a (Finds.in_entry v i s w) = Finds.in_entry (further e a v) i s w
  around e a (Finds.in_excluded v i s w) = Finds.in_excluded (further e a v) i s w
  around e a (Finds.refused v r) = Finds.refused (further e a v) r

  entry_comes : (c : Context) (n : Node) → 0 < held_items_of wanted (rewrite c n).note.entry → Finds wanted c n
  entry_comes c n h =
      let r = find_item wanted (rewrite c n).note.entry h in
      let s = stands_in_lem wanted (weight r.1) r.1 [] (omega arith) r.3 in
      Finds.in_entry Visits.here r.2 s.2 s.3

  excluded_comes : (c : Context) (n : Node) → 0 < held_items_of wanted (rewrite c n).note.excluded → Finds wanted c n
  excluded_comes c n h =
      let r = find_item wanted (rewrite c n).note.excluded h in
      let s = stands_in_lem wanted (weight r.1) r.1 [] (omega arith) r.3 in
      Finds.in_excluded Visits.here r.2 s.2 s.3

  -- given that the walk comes to it from each lighter node
  comes_next : (c : Context) (n : Node) → ((d : Context) (x : Node) → weight x < weight n → 0 < held wanted x → Finds wanted d x) → 0 < held wanted n → Kept wanted c n → Finds wanted c n
  comes_next c n rec h (refuses r) = Finds.refused Visits.here r
  comes_next c n rec h (kept k) =
      by_zero (own wanted n)
      (λ a. by_zero (held_items_of wanted (rewrite c n).note.entry)
      (λ b. by_zero (held_items_of wanted (rewrite c n).note.excluded)
      (λ d. let r = find_part wanted (rewrite c n).result (omega arith) in
      around r.3 r.4 (rec (within c (rewrite c n).result r.0 r.1) r.2 (part_at (λ x. weight x < weight n) r.4 (falls c n)) r.5))
      (λ d. excluded_comes c n d))
      (λ b. entry_comes c n b))
      (λ a. Finds.visited Visits.here (own_wanted wanted n a))

  comes_from : (f : ℕ) (c : Context) (n : Node) → weight n ≤ f → 0 < held wanted n → Finds wanted c n
  comes_from zero c n w h = absurd (let z = weight_pos n in omega arith)
  comes_from (suc f) c n w h = comes_next c n (λ d x l k. comes_from f d x (omega arith) k) h (keeps wanted c n)

  pub comes : (c : Context) (n : Node) → 0 < held wanted n → Finds wanted c n
  comes c n h = comes_from (weight n) c n (omega arith) h
