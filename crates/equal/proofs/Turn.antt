-- In one pass comes out the canonical form.
-- Assumes nothing.
use mathlib.Core.Path.{◌≡◌, refl, sym, ap, ap₂, ◌∙◌, subst}
use mathlib.Core.Bool.{Bool, true, false, cond, true≢false}
use mathlib.Core.List.{List, [], ◌∷◌, ◌++◌}
use Prim.Native.Nat.{ℕ, suc}
use lib.Dec.{eqb, eqb-suc-zero}
use lib.ListN.{length}
use borrow.Author.Tests.{eqb-true, eq-eqb}
use Rattle.tree.specs.Tree.{Node, Fields, Piece, Items}
use Rattle.tree.specs.Tree.Node.{node}
use Rattle.tree.specs.Tree.Fields.{done, absent, field}
use Rattle.tree.specs.Tree.Piece.{one, list, text, byte, mark, number}
use Rattle.tree.specs.Tree.Items.{none, hole, item}
use Rattle.lowering.specs.Collect.{except, distinct, number_in}
use Rattle.lowering.proofs.Appearance.{In, here, there}
use Rattle.lowering.proofs.Cases.{by_test}
use Rattle.equal.specs.Canonical.{numbers, numbers_fields, numbers_piece, numbers_items, renumbered, renumbered_fields, renumbered_piece, renumbered_items, place_of, canonical}
use Rattle.equal.specs.Met.{place_in, meet, place, met, met_fields, met_piece, met_items, in_turn, in_turn_fields, in_turn_piece, in_turn_items}
use Rattle.equal.proofs.PlacesByAppearance.{own_number}
use Rattle.equal.proofs.Renumber.{trees}

-- all of them met
unfoldable pub meet_all : List ℕ → List ℕ → List ℕ
meet_all ms [] = ms
meet_all ms (x ∷ xs) = meet_all (meet ms x) xs

meet_append : (ms xs ys : List ℕ) → meet_all ms (xs ++ ys) ≡ meet_all (meet_all ms xs) ys
unfolding meet_all
meet_append ms [] ys = refl
meet_append ms (x ∷ xs) ys = meet_append (meet ms x) xs ys

-- ---- the numbers met are those of the tree, met in byte order

number_met : (t : Bool) (ms : List ℕ) (b : ℕ) → cond t (meet ms b) ms ≡ meet_all ms (cond t (b ∷ []) [])
unfolding meet_all
number_met true ms b = refl
number_met false ms b = refl

mutual
  unfolding met numbers meet_all

  pub met_numbers : (n : Node) (ms : List ℕ) → met n ms ≡ meet_all ms (numbers n)
  met_numbers (node at k fs) ms = fields_met fs (eqb k 20) ms

  fields_met : (fs : Fields) (t : Bool) (ms : List ℕ) → met_fields fs t ms ≡ meet_all ms (numbers_fields t fs)
  fields_met done t ms = refl
  fields_met (absent fs) t ms = fields_met fs t ms
  fields_met (field p fs) t ms =
      fields_met fs false (met_piece p t ms)
      ∙ (ap (λ (ns : List ℕ). meet_all ns (numbers_fields false fs)) (piece_met p t ms) ∙ sym (meet_append ms (numbers_piece t p) (numbers_fields false fs)))

  piece_met : (p : Piece) (t : Bool) (ms : List ℕ) → met_piece p t ms ≡ meet_all ms (numbers_piece t p)
  piece_met (one n) t ms = met_numbers n ms
  piece_met (list is) t ms = items_met is ms
  piece_met (text bs) t ms = refl
  piece_met (byte b) t ms = refl
  piece_met (mark b) t ms = refl
  piece_met (number b) t ms = number_met t ms b

  items_met : (is : Items) (ms : List ℕ) → met_items is ms ≡ meet_all ms (numbers_items is)
  items_met none ms = refl
  items_met (hole is) ms = items_met is ms
  items_met (item n is) ms =
      items_met is (met n ms)
      ∙ (ap (λ (ns : List ℕ). meet_all ns (numbers_items is)) (met_numbers n ms) ∙ sym (meet_append ms (numbers n) (numbers_items is)))

-- ---- a place, once given, stays

meet_new : (ms : List ℕ) (a : ℕ) → eqb (place_in ms a) 0 ≡ true → meet ms a ≡ a ∷ ms
unfolding meet
meet_new ms a e = rw e

meet_old : (ms : List ℕ) (a : ℕ) → eqb (place_in ms a) 0 ≡ false → meet ms a ≡ ms
unfolding meet
meet_old ms a e = rw e

place_first : (ms : List ℕ) (a x : ℕ) → eqb a x ≡ true → place_in (a ∷ ms) x ≡ suc (length ms)
unfolding place_in
place_first ms a x e = rw e

place_other : (ms : List ℕ) (a x : ℕ) → eqb a x ≡ false → place_in (a ∷ ms) x ≡ place_in ms x
unfolding place_in
place_other ms a x e = rw e

-- what has a place in ms has the same in ns
abbrev Stays : List ℕ → List ℕ → Type 0
Stays ms ns = (x : ℕ) → eqb (place_in ms x) 0 ≡ false → place_in ns x ≡ place_in ms x

meet_stays : (ms : List ℕ) (b : ℕ) → Stays ms (meet ms b)
meet_stays ms b x h =
    by_test (eqb (place_in ms b) 0)
    (λ e.
    ap (λ (ns : List ℕ). place_in ns x) (meet_new ms b e)
    ∙ by_test (eqb b x)
    (λ f. absurd (true≢false (sym e ∙ (ap (λ (y : ℕ). eqb (place_in ms y) 0) (eqb-true b x f) ∙ h))))
    (λ f. place_other ms b x f))
    (λ e. ap (λ (ns : List ℕ). place_in ns x) (meet_old ms b e))

stays_on : (ls ms ns : List ℕ) → Stays ls ms → Stays ms ns → Stays ls ns
stays_on ls ms ns f g x h = let e = f x h in g x (ap (λ (y : ℕ). eqb y 0) e ∙ h) ∙ e

all_stay : (xs ms : List ℕ) → Stays ms (meet_all ms xs)
unfolding meet_all
all_stay [] ms x h = refl
all_stay (y ∷ xs) ms x h = stays_on ms (meet ms y) (meet_all (meet ms y) xs) (meet_stays ms y) (all_stay xs (meet ms y)) x h

-- what was met has a place, the one that it got
met_place : (ms : List ℕ) (b : ℕ) → (place_in (meet ms b) b ≡ place ms b) × (eqb (place_in (meet ms b) b) 0 ≡ false)
unfolding place
met_place ms b =
    by_test (eqb (place_in ms b) 0)
    (λ e.
    let f : place_in (meet ms b) b ≡ suc (length ms) = ap (λ (ns : List ℕ). place_in ns b) (meet_new ms b e) ∙ place_first ms b b (own_number b) in
    rw (f, e) (refl, eqb-suc-zero (length ms)))
    (λ e. rw (meet_old ms b e, e) (refl, refl))

-- ---- the pass gives the places that the numbers have in the end

number_turn : (t : Bool) (ms : List ℕ) (b : ℕ) (ns : List ℕ) → Stays (cond t (meet ms b) ms) ns → cond t (place ms b) b ≡ cond t (place_in ns b) b
number_turn true ms b ns h = let m = met_place ms b in sym (h b m.1 ∙ m.0)
number_turn false ms b ns h = refl

later_fields : (fs : Fields) (t : Bool) (ms ns : List ℕ) → Stays (met_fields fs t ms) ns → Stays ms ns
later_fields fs t ms ns h =
    stays_on ms (meet_all ms (numbers_fields t fs)) ns (all_stay (numbers_fields t fs) ms)
    (subst (λ (ls : List ℕ). Stays ls ns) (fields_met fs t ms) h)

later_items : (is : Items) (ms ns : List ℕ) → Stays (met_items is ms) ns → Stays ms ns
later_items is ms ns h =
    stays_on ms (meet_all ms (numbers_items is)) ns (all_stay (numbers_items is) ms)
    (subst (λ (ls : List ℕ). Stays ls ns) (items_met is ms) h)

module _ (ns : List ℕ) where
  mutual
    unfolding met in_turn renumbered

    turn_node : (n : Node) (ms : List ℕ) → Stays (met n ms) ns → in_turn n ms ≡ renumbered (place_in ns) n
    turn_node (node at k fs) ms h = ap (node at k) (turn_fields fs (eqb k 20) ms h)

    turn_fields : (fs : Fields) (t : Bool) (ms : List ℕ) → Stays (met_fields fs t ms) ns → in_turn_fields fs t ms ≡ renumbered_fields (place_in ns) t fs
    turn_fields done t ms h = refl
    turn_fields (absent fs) t ms h = ap absent (turn_fields fs t ms h)
    turn_fields (field p fs) t ms h =
        ap₂ field (turn_piece p t ms (later_fields fs false (met_piece p t ms) ns h)) (turn_fields fs false (met_piece p t ms) h)

    turn_piece : (p : Piece) (t : Bool) (ms : List ℕ) → Stays (met_piece p t ms) ns → in_turn_piece p t ms ≡ renumbered_piece (place_in ns) t p
    turn_piece (one n) t ms h = ap one (turn_node n ms h)
    turn_piece (list is) t ms h = ap list (turn_items is ms h)
    turn_piece (text bs) t ms h = refl
    turn_piece (byte b) t ms h = refl
    turn_piece (mark b) t ms h = refl
    turn_piece (number b) t ms h = ap number (number_turn t ms b ns h)

    turn_items : (is : Items) (ms : List ℕ) → Stays (met_items is ms) ns → in_turn_items is ms ≡ renumbered_items (place_in ns) is
    turn_items none ms h = refl
    turn_items (hole is) ms h = ap hole (turn_items is ms h)
    turn_items (item n is) ms h = ap₂ item (turn_node n ms (later_items is (met n ms) ns h)) (turn_items is (met n ms) h)

-- ---- and those are the places of first appearance

-- those that are not met yet
unfoldable unmet : List ℕ → List ℕ → List ℕ
unmet ms [] = []
unmet ms (y ∷ ys) = cond (eqb (place_in ms y) 0) (y ∷ unmet ms ys) (unmet ms ys)

unmet_none : (ys : List ℕ) → unmet [] ys ≡ ys
unfolding unmet place_in
unmet_none [] = refl
unmet_none (y ∷ ys) = ap (λ (zs : List ℕ). y ∷ zs) (unmet_none ys)

-- one that is met already is left out anyhow
met_except : (ms : List ℕ) (a : ℕ) → eqb (place_in ms a) 0 ≡ false → (ys : List ℕ) → unmet ms (except eqb a ys) ≡ unmet ms ys
unfolding unmet except
met_except ms a h [] = refl
met_except ms a h (y ∷ ys) =
    by_test (eqb a y)
    (λ e. rw (e, sym (ap (λ (z : ℕ). eqb (place_in ms z) 0) (eqb-true a y e)) ∙ h) (met_except ms a h ys))
    (λ e. rw e (by_test (eqb (place_in ms y) 0) (λ f. rw f (ap (λ (zs : List ℕ). y ∷ zs) (met_except ms a h ys))) (λ f. rw f (met_except ms a h ys))))

new_except : (ms : List ℕ) (a : ℕ) (ys : List ℕ) → unmet ms (except eqb a ys) ≡ unmet (a ∷ ms) ys
unfolding unmet except
new_except ms a [] = refl
new_except ms a (y ∷ ys) =
    by_test (eqb a y)
    (λ e. rw (e, place_first ms a y e, eqb-suc-zero (length ms)) (new_except ms a ys))
    (λ e. rw (e, place_other ms a y e) (by_test (eqb (place_in ms y) 0) (λ f. rw f (ap (λ (zs : List ℕ). y ∷ zs) (new_except ms a ys))) (λ f. rw f (new_except ms a ys))))

other_way : (a b : ℕ) → eqb a b ≡ false → eqb b a ≡ false
other_way a b h = by_test (eqb b a) (λ e. absurd (true≢false (sym (eq-eqb a b (sym (eqb-true b a e))) ∙ h))) (λ e. e)

in_rest : (x a : ℕ) (xs : List ℕ) → eqb x a ≡ false → In x (a ∷ xs) → In x xs
in_rest x a xs h (here e) = absurd (true≢false (sym (eq-eqb x a e) ∙ h))
in_rest x a xs h (there i) = i

-- the number of the first of a list, and of another
number_first : (from : ℕ) (a : ℕ) (ys : List ℕ) (x : ℕ) → eqb x a ≡ true → number_in eqb from (a ∷ ys) x ≡ from
unfolding number_in
number_first from a ys x e = rw e

number_next : (from : ℕ) (a : ℕ) (ys : List ℕ) (x : ℕ) → eqb x a ≡ false → number_in eqb from (a ∷ ys) x ≡ number_in eqb (suc from) ys x
unfolding number_in
number_next from a ys x e = rw e

unmet_new : (ms : List ℕ) (a : ℕ) (xs : List ℕ) → eqb (place_in ms a) 0 ≡ true → unmet ms (distinct eqb (a ∷ xs)) ≡ a ∷ unmet (a ∷ ms) (distinct eqb xs)
unfolding unmet distinct
unmet_new ms a xs e = rw e (ap (λ (zs : List ℕ). a ∷ zs) (new_except ms a (distinct eqb xs)))

unmet_old : (ms : List ℕ) (a : ℕ) (xs : List ℕ) → eqb (place_in ms a) 0 ≡ false → unmet ms (distinct eqb (a ∷ xs)) ≡ unmet ms (distinct eqb xs)
unfolding unmet distinct
unmet_old ms a xs e = rw e (met_except ms a e (distinct eqb xs))

-- a number that is not met yet gets its place behind those that are
place_later : (xs ms : List ℕ) (x : ℕ) → In x xs → eqb (place_in ms x) 0 ≡ true → place_in (meet_all ms xs) x ≡ number_in eqb (suc (length ms)) (unmet ms (distinct eqb xs)) x
unfolding meet_all
place_later (a ∷ xs) ms x i h =
    by_test (eqb (place_in ms a) 0)
    (λ e.
    rw (meet_new ms a e, unmet_new ms a xs e)
    (by_test (eqb x a)
    (λ f.
    let g : eqb a x ≡ true = eq-eqb a x (sym (eqb-true x a f)) in
    let p = place_first ms a x g in
    all_stay xs (a ∷ ms) x (ap (λ (y : ℕ). eqb y 0) p ∙ eqb-suc-zero (length ms)) ∙ (p ∙ sym (number_first (suc (length ms)) a (unmet (a ∷ ms) (distinct eqb xs)) x f)))
    (λ f.
    place_later xs (a ∷ ms) x (in_rest x a xs f i) (ap (λ (y : ℕ). eqb y 0) (place_other ms a x (other_way x a f)) ∙ h)
    ∙ sym (number_next (suc (length ms)) a (unmet (a ∷ ms) (distinct eqb xs)) x f))))
    (λ e.
    rw (meet_old ms a e, unmet_old ms a xs e)
    (place_later xs ms x
    (in_rest x a xs
    (by_test (eqb x a) (λ f. absurd (true≢false (sym h ∙ (ap (λ (y : ℕ). eqb (place_in ms y) 0) (eqb-true x a f) ∙ e)))) (λ f. f)) i)
    h))
place_later [] ms x i h = elim i [ ]

pub place_in_turn : (xs : List ℕ) (x : ℕ) → In x xs → place_in (meet_all [] xs) x ≡ place_of xs x
unfolding place_of place_in
place_in_turn xs x i = place_later xs [] x i refl ∙ ap (λ (ys : List ℕ). number_in eqb 1 ys x) (unmet_none (distinct eqb xs))

-- the canonical form, with nothing met before
pub in_turn_canonical : (n : Node) → in_turn n [] ≡ canonical n
unfolding canonical
in_turn_canonical n =
    let ns = met n [] in
    turn_node ns n [] (λ x h. refl)
    ∙ trees.agree (place_in ns) (place_of (numbers n)) n
    (λ x i. ap (λ (ls : List ℕ). place_in ls x) (met_numbers n []) ∙ place_in_turn (numbers n) x i)
