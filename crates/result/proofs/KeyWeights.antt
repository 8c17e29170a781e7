-- If no key beside a rest weighs anything, nothing that is handed out does.
-- Assumes nothing.
use mathlib.Core.Path.{◌≡◌, refl, sym, ◌∙◌}
use mathlib.Core.Bool.{Bool, true, false, cond, ◌&&◌}
use Prim.Native.Nat.{ℕ}
use native.Mathlib.Omega.{arith}
use lib.Dec.{eqb}
use Rattle.tree.specs.Tree.{Node, Fields, Piece, Items}
use Rattle.tree.specs.Tree.Node.{node}
use Rattle.lowering.specs.Parts.{is, stands, stands_in, items_at_of, piece_in, as_items_of, any}
use Rattle.lowering.specs.Made.{Context}
use Rattle.lowering.specs.Patterns.{properties, key}
use Rattle.lowering.specs.Weight.{weight, walked}
use Rattle.lowering.specs.Collect.{nodes, nodes_fields, nodes_piece, nodes_items, entries, excluded_in, visits}
use Rattle.lowering.proofs.All.{AllItems, weaker_items, none_passes}
use Rattle.lowering.proofs.Appearance.{In, in_first, in_second}
use Rattle.lowering.proofs.Cases.{by_test}
use Rattle.lowering.specs.Keys.{Key}
use Rattle.result.specs.Left.{keeps_rest}
use Rattle.result.specs.Causes.{Cause, holds_kept, shows, Without}
use Rattle.result.proofs.Occurring.{nodes_within}
use Rattle.result.proofs.Weighed.{weigh, weigh_all, weigh_piece, weigh_items, keys_in, keys_items, sources_in, keys_by, sources_by, key_by_lem, piece_most, at_most, list_most}
use Rattle.result.proofs.Copies.{Measure, XI}
use Rattle.result.proofs.Tallies.{walk_weighs, of_entries, list_weighs}
use Rattle.result.proofs.Distinct.{sources_none, key_none}

abbrev pub no_mark : ℕ → ℕ
no_mark m = 0

module _ {kin : Node → ℕ} (measure : Measure no_mark kin) where
  abbrev Light : Items → Type 0
  Light qs = AllItems (λ q. kin (key q) ≡ 0) qs

  -- its keys weigh nothing, if it keeps a rest
  abbrev Fine : Node → Type 0
  Fine p = keeps_rest p ≡ true → Light (properties p)

  keys_fine : (r : Bool) (qs : Items) → weigh_items no_mark kin qs ≡ 0 → (r ≡ true → Light qs) → keys_items no_mark kin r qs ≡ 0
  unfolding weigh
  keys_fine r Items.none h t = refl
  keys_fine r (Items.hole qs) h t = keys_fine r qs h t
  keys_fine r (Items.item q qs) h t =
      let a = keys_fine r qs (omega arith) (λ e. (t e).1) in
      let e = key_by_lem no_mark kin measure.none_kin r q in
      let u = at_most no_mark kin 0 q in
      let z = key_none no_mark kin measure.none_kin r (key q) (λ e. (t e).0) (omega arith) in
      omega arith

  besides_fine : (at k : ℕ) (fs : Fields) → weigh_all no_mark kin fs ≡ 0 → Fine (node at k fs) → cond (eqb k 34) (keys_in no_mark kin (stands_in fs 1) fs) (cond (eqb k 4) (sources_in no_mark kin fs 2) 0) ≡ 0
  unfolding keeps_rest is stands items_at_of
  besides_fine at k fs h t =
      let a = piece_most no_mark kin fs 0 in
      let a' = list_most no_mark kin (piece_in fs 0) in
      let c = piece_most no_mark kin fs 2 in
      let c' = list_most no_mark kin (piece_in fs 2) in
      let v = sources_by no_mark kin fs 2 ∙ sources_none no_mark kin measure.none_kin (as_items_of (piece_in fs 2)) (omega arith) in
      by_test (eqb k 34)
      (λ e. rw e (keys_by no_mark kin (stands_in fs 1) fs ∙ keys_fine (stands_in fs 1) (as_items_of (piece_in fs 0)) (omega arith) (λ r. t (rw (e, r) refl))))
      (λ e. rw e (under (eqb k 4) v))
    where
      under : (b : Bool) {x : ℕ} → x ≡ 0 → cond b x 0 ≡ 0
      under true v = v
      under false v = refl

  mutual
    unfolding weigh nodes

    fine_weighs : (m : Node) → ((p : Node) → In p (nodes m) → Fine p) → weigh no_mark kin m ≡ 0
    fine_weighs (node at k fs) h =
        let a = fine_fields fs (λ p i. h p (In.there i)) in
        let b = besides_fine at k fs a (h (node at k fs) (In.here refl)) in
        omega arith

    fine_fields : (fs : Fields) → ((p : Node) → In p (nodes_fields fs) → Fine p) → weigh_all no_mark kin fs ≡ 0
    fine_fields Fields.done h = refl
    fine_fields (Fields.absent fs) h = fine_fields fs h
    fine_fields (Fields.field p fs) h =
        let a = fine_piece p (λ x i. h x (in_first (nodes_fields fs) i)) in
        let b = fine_fields fs (λ x i. h x (in_second (nodes_piece p) i)) in
        omega arith

    fine_piece : (p : Piece) → ((x : Node) → In x (nodes_piece p) → Fine x) → weigh_piece no_mark kin p ≡ 0
    fine_piece (Piece.one m) h = fine_weighs m h
    fine_piece (Piece.list is) h = fine_items is h
    fine_piece (Piece.text bs) h = refl
    fine_piece (Piece.byte b) h = refl
    fine_piece (Piece.mark b) h = refl
    fine_piece (Piece.number b) h = refl

    fine_items : (is : Items) → ((p : Node) → In p (nodes_items is) → Fine p) → weigh_items no_mark kin is ≡ 0
    fine_items Items.none h = refl
    fine_items (Items.hole is) h = fine_items is h
    fine_items (Items.item m is) h =
        let a = fine_weighs m (λ x i. h x (in_first (nodes_items is) i)) in
        let b = fine_items is (λ x i. h x (in_second (nodes m) i)) in
        omega arith

  pub light_handed : (n : Node) → ((p : Node) → In p (nodes n) → keeps_rest p ≡ true → AllItems (λ q. kin (key q) ≡ 0) (properties p)) → (c : Context) (next : ℕ)
      → (of_entries measure (entries (visits next 0 (walked c n))) ≡ 0) × (XI measure (excluded_in (visits next 0 (walked c n))) ≡ 0)
  unfolding walked
  light_handed n h c next =
      let w = walk_weighs measure (weight n) c n in
      let z = fine_weighs n h in
      let g = list_weighs measure next 0 (walked c n) in
      (omega arith, omega arith)

-- no key is one of that sort with something left in it, if no node has the cause
pub light_keys : (sort : Key → Bool) (s : Cause) → ((p : Node) → shows s p ≡ keeps_rest p && any (λ q. holds_kept sort (key q)) (properties p)) → (n : Node) → Without s n
    → (p : Node) → In p (nodes n) → keeps_rest p ≡ true → AllItems (λ q. ◌≡◌ {A = ℕ} (cond (holds_kept sort (key q)) 1 0) 0) (properties p)
light_keys sort s same n h p i k =
    weaker_items (λ q. holds_kept sort (key q) ≡ false) (λ q. ◌≡◌ {A = ℕ} (cond (holds_kept sort (key q)) 1 0) 0) (λ q e. rw e refl) (properties p)
    (none_passes (λ q. holds_kept sort (key q)) (properties p) (rw k at (sym (same p) ∙ h p (nodes_within n i))))
