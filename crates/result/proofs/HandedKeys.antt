-- The values that a list hands out are keys of the input.
-- Assumes nothing.
use mathlib.Core.Path.{◌≡◌, refl, sym, subst}
use mathlib.Core.Bool.{true, false, cond, true≢false}
use mathlib.Core.List.{List, [], ◌∷◌}
use Prim.Native.Nat.{ℕ, suc}
use native.Mathlib.Omega.{arith}
use lib.Dec.{eqb}
use borrow.Author.Tests.{eqb-true}
use Rattle.tree.specs.Tree.{Node, Fields, Items, encode}
use Rattle.tree.specs.Tree.Node.{node}
use Rattle.tree.specs.Grammar.{Sort, Field, form_at, fields_of, allowed, places, form_in, kind_of, also, among, kinds}
use Rattle.tree.specs.Grammar.Stage.{rewritten}
use Rattle.tree.proofs.Complete.{not_hole}
use Rattle.lowering.specs.Parts.{kind, is, stands, stands_in, node_at_of, same_numbers, piece_in, as_node}
use Rattle.lowering.specs.Made.{Context}
use Rattle.lowering.specs.Patterns.{properties, key}
use Rattle.lowering.specs.Visits.{ItemAt}
use Rattle.lowering.specs.Weight.{walked}
use Rattle.lowering.specs.Collect.{Entry, nodes, entries, visits}
use Rattle.lowering.proofs.Appearance.{In, numbers_self}
use Rattle.lowering.proofs.Cases.{by_test, and_left}
use Rattle.lowering.proofs.All.{AllItems}
use Rattle.result.specs.Handed.{has_key, is_key_of, KeysOf}
use Rattle.result.specs.Left.{keeps_rest}
use Rattle.result.proofs.PlaceRows.{lone}
use Rattle.result.proofs.Lies.{Texts, Lies, LieFields, LiePiece, LieItems, apart, may_stand}
use Rattle.result.proofs.Handing.{EntriesLie}
use Rattle.result.proofs.Searched.{any_some}
use Rattle.result.proofs.Occurring.{any_in}
use Rattle.result.proofs.Weighed.{total}
use Rattle.result.proofs.Copies.{Measure}
use Rattle.result.proofs.Tallies.{of_entries}
use Rattle.result.proofs.KeyWeights.{no_mark, light_handed}

module _ (n : Node) where
  -- 1 for a node that is no key of n; where no node stands nothing is said
  abbrev unknown : Node → ℕ
  unknown k = cond (is_key_of n k) 0 (cond (eqb (kind k) 0) 0 1)

  none_kin : unknown (node 0 0 Fields.done) ≡ 0
  none_kin = by_test (is_key_of n (node 0 0 Fields.done)) (λ e. rw e refl) (λ e. rw e refl)

  known_none : (k : Node) → is_key_of n k ≡ true → unknown k ≡ 0
  known_none k e = rw e refl

  -- ---- those of n are

  all_at_lem : (P : Node → Type 0) (is : Items) → ((j : ℕ) (x : Node) → ItemAt is j x → P x) → AllItems P is
  all_at_lem P Items.none h = tt
  all_at_lem P (Items.hole is) h = all_at_lem P is (λ j x a. h (suc j) x (ItemAt.behind_hole a))
  all_at_lem P (Items.item m is) h = (h 0 m ItemAt.first, all_at_lem P is (λ j x a. h (suc j) x (ItemAt.behind a)))

  own_known : {p : Node} → In p (nodes n) → is 34 p ≡ true → {j : ℕ} {q : Node} → ItemAt (properties p) j q → is_key_of n (key q) ≡ true
  unfolding is_key_of has_key
  own_known {p = p} i e {q = q} a =
      any_in (has_key (key q)) i (rw e (any_some (λ x. same_numbers (encode (key x)) (encode (key q))) a (numbers_self (encode (key q)))))

  -- ---- what is handed out

  abbrev unknown_value : Node → ℕ
  unknown_value d = cond (stands 1 d) (unknown (node_at_of 1 d)) 0

  measure : Measure no_mark unknown
  unfolding stands stands_in node_at_of piece_in total
  measure =
      record {
        new = refl;
        none_kin = none_kin;
        entry = unknown_value;
        excluded = λ d. 0;
        excluded_item = λ k. 0;
        entry_bare = λ path stem at. refl;
        entry_key = λ path stem at k e. omega arith;
        excluded_array = λ path stem at ks. omega arith;
        item_string = λ s. refl;
        item_temporary = λ path stem at. refl;
        item_key = λ k. omega arith;
      }

  -- a value stands where an expression may, so it is a node
  value_fields : {T : Texts} {fs : Fields} → LieFields T 0 (Field.must (Sort.child 15) ∷ Field.may (Sort.child 3) ∷ []) fs → stands_in fs 1 ≡ true → eqb (kind (as_node (piece_in fs 1))) 0 ≡ false
  unfolding stands_in piece_in
  value_fields (LieFields.needed x (LieFields.absent y)) e = absurd (true≢false (sym e))
  value_fields (LieFields.needed x (LieFields.given (LiePiece.child (Lies.lies {k = k} z t u f)) y)) e =
      by_test (eqb k 0) (λ a. absurd (not_hole rewritten 3 k z (eqb-true k 0 a))) (λ a. a)
  value_fields (LieFields.needed x (LieFields.given (LiePiece.child (Lies.named z a b)) y)) e = refl

  value_node : {T : Texts} {d : Node} → Lies T 4 d → stands 1 d ≡ true → eqb (kind (node_at_of 1 d)) 0 ≡ false
  unfolding stands node_at_of form_in form_at allowed also among places kind_of fields_of kinds
  value_node {T = T} {d = node at k fs} l e =
      let q : k ≡ 5 = lone 4 5 k refl (may_stand l) in
      value_fields (apart 5 (subst (λ (x : ℕ). Lies T 4 (node at x fs)) q l) refl refl) e

  known_value : {T : Texts} {is : Items} → LieItems T 4 false is → total unknown_value is ≡ 0 → {j : ℕ} {d : Node} → ItemAt is j d → stands 1 d ≡ true → is_key_of n (node_at_of 1 d) ≡ true
  unfolding total
  known_value (LieItems.item {n = d} x a) h ItemAt.first e =
      by_test (is_key_of n (node_at_of 1 d))
      (λ k. k)
      (λ k. let z : unknown_value d ≡ 1 = rw (e, k, value_node x e) refl in absurd (omega arith))
  known_value (LieItems.item x a) h (ItemAt.behind i) e = known_value a (omega arith) i e
  known_value LieItems.none h i e = elim i [ ]

  known_entries : (T : Texts) (es : List Entry) → EntriesLie T es → of_entries measure es ≡ 0 → KeysOf n es
  unfolding of_entries measure
  known_entries T [] l h = tt
  known_entries T (e ∷ es) l h = (λ j d a s. known_value l.1 (omega arith) a s, known_entries T es l.2 (omega arith))

  pub keys_handed : (T : Texts) (c : Context) (next : ℕ) → EntriesLie T (entries (visits next 0 (walked c n))) → KeysOf n (entries (visits next 0 (walked c n)))
  unfolding keeps_rest
  keys_handed T c next l =
      known_entries T (entries (visits next 0 (walked c n))) l
      (light_handed measure n (λ p i k. all_at_lem (λ q. unknown (key q) ≡ 0) (properties p) (λ j q a. known_none (key q) (own_known i (and_left (is 34 p) (stands 1 p) k) a))) c next).0
