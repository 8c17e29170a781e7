-- Tables that count the entries of each list and of each statement are the changes of the tree.
-- Assumes nothing.
use Prim.Native.Nat.{ℕ, zero, suc, ◌+◌, ◌-◌, ◌/◌, ◌%◌, ◌<◌, ◌≤◌}
use mathlib.Core.Path.{◌≡◌, refl, sym, ap, ◌∙◌}
use mathlib.Core.List.{List, [], ◌∷◌, ◌++◌, append_assoc}
use mathlib.Core.Bool.{Bool, true, false, cond}
use mathlib.Core.Option.{Option, none, some}
use mathlib.Core.Logic.{◌⊎◌, inl, inr}
use native.Mathlib.Omega.{arith}
use native.Mathlib.Decide.{dec_lt}
use lib.Dec.{ltb}
use lib.ListN.{length, drop, length-append, length-drop}
use borrow.Author.Tests.{eq-eqb, ne_eqb, lt-ltb}
use Rattle.tree.specs.Tree.{Node, Fields, Piece, Items, map_of, count, wide_bytes, encode, encode_fields, encode_piece, encode_items}
use Rattle.tree.specs.Tree.Node.{node}
use Rattle.tree.specs.Tree.Fields.{done, absent, field}
use Rattle.tree.specs.Tree.Piece.{one, list, text, byte, mark, number}
use Rattle.tree.specs.Tree.Items.{hole, item}
use Rattle.tree.specs.Read.{wide_at}
use Rattle.lowering.specs.Collect.{Entry}
use Rattle.joining.specs.Join.{is_container, first_mark, own_mark, found_by, handed_to, handed_by, before}
use Rattle.joining.specs.Changes.{Change, keep, here, Kept, Count, Agrees, AgreesFields, AgreesPiece, AgreesItems}
use Rattle.joining.specs.Changes.Change.{behind, counted}
use Rattle.joining.specs.Spots.{Spot, spot, place_of, statement_of, spotted, owned, spots, spots_fields, spots_piece, spots_items, tally, shares, change_at}
use Rattle.tree.proofs.Complete.{wide_is, after}
use Rattle.tree.proofs.EncodedLengths.{node_long, count_short}

-- ---- bytes at a position

module _ (l : List ℕ) where
  pub after_two : (at a b : ℕ) (rest : List ℕ) → drop at l ≡ a ∷ b ∷ rest → drop (suc (suc at)) l ≡ rest
  after_two at a b rest e =
      let z : suc (suc at) ≡ at + 2 = omega arith in
      ap (λ (n : ℕ). drop n l) z ∙ after l at 2 (a ∷ b ∷ []) rest e refl

-- ---- what spots weigh

module _ (key : Spot → ℕ) (weight : ℕ → ℕ) where
  pub tally_append : (xs ys : List Spot) (p : ℕ) → tally key weight (xs ++ ys) p ≡ tally key weight xs p + tally key weight ys p
  unfolding tally
  tally_append [] ys p = omega arith
  tally_append (x ∷ xs) ys p = let e : tally key weight (xs ++ ys) p ≡ tally key weight xs p + tally key weight ys p = tally_append xs ys p in omega arith

  pub tally_other : (s : Spot) (xs : List Spot) (p : ℕ) → (key s ≡ p → ⊥) → tally key weight (s ∷ xs) p ≡ tally key weight xs p
  unfolding tally
  tally_other s xs p d = rw (ne_eqb (key s) p d) (omega arith)

abbrev pub Away : ℕ → ℕ → ℕ → Type 0
Away p lo hi = (p < lo) ⊎ (hi ≤ p)

away_in : (p lo hi lo' hi' : ℕ) → Away p lo hi → lo ≤ lo' → hi' ≤ hi → Away p lo' hi'
away_in p lo hi lo' hi' (inl h) a b = inl (omega arith)
away_in p lo hi lo' hi' (inr h) a b = inr (omega arith)

away_other : (p lo hi : ℕ) → Away p lo hi → lo < hi → p ≡ lo → ⊥
away_other p lo hi (inl h) g e = omega arith
away_other p lo hi (inr h) g e = omega arith

module _ (weight : ℕ → ℕ) where
  -- nothing has its list at p, if p is not x, nor stands at p
  abbrev None : ℕ → List Spot → ℕ → Type 0
  None x ss p = ((p ≡ x → ⊥) → tally place_of weight ss p ≡ 0) × (tally statement_of weight ss p ≡ 0)

  none_both : (x : ℕ) (xs ys : List Spot) (p : ℕ) → None x xs p → None x ys p → None x (xs ++ ys) p
  none_both x xs ys p a b = (
    λ d. let e : tally place_of weight xs p ≡ 0 = a.0 d in let f : tally place_of weight ys p ≡ 0 = b.0 d in omega (arith, tally_append place_of weight xs ys p),
    let e : tally statement_of weight xs p ≡ 0 = a.1 in let f : tally statement_of weight ys p ≡ 0 = b.1 in omega (arith, tally_append statement_of weight xs ys p),
  )

  none_nothing : (x p : ℕ) → None x [] p
  unfolding tally
  none_nothing x p = (λ d. refl, refl)

  own_none : (x at : ℕ) (m : Option ℕ) (p : ℕ) (b : Bool) → (p ≡ at → ⊥) → None x (cond b (spotted x at m) []) p
  own_none x at none p true d = none_nothing x p
  own_none x at (some m) p true d = (λ e. tally_other place_of weight (spot x at m) [] p (λ w. e (sym w)) ∙ (none_nothing x p).0 e, tally_other statement_of weight (spot x at m) [] p (λ w. d (sym w)) ∙ (none_nothing x p).1)
  own_none x at m p false d = none_nothing x p

  own_place : (x at : ℕ) (m : Option ℕ) (p : ℕ) (b : Bool) → (p ≡ x → ⊥) → tally place_of weight (cond b (spotted x at m) []) p ≡ 0
  unfolding tally
  own_place x at none p true d = refl
  own_place x at (some m) p true d = tally_other place_of weight (spot x at m) [] p (λ w. d (sym w))
  own_place x at m p false d = refl

  pub owned_place : (x at : ℕ) (n : Node) (p : ℕ) → (p ≡ x → ⊥) → tally place_of weight (owned x at n) p ≡ 0
  unfolding owned
  owned_place x at n p d = own_place x at (own_mark n) p (ltb 1 x) d

  pub owned_none : (x at : ℕ) (n : Node) (p : ℕ) → (p ≡ at → ⊥) → None x (owned x at n) p
  unfolding owned
  owned_none x at n p d = own_none x at (own_mark n) p (ltb 1 x) d

  any : (x y p : ℕ) (ss : List Spot) → (p ≡ y → ⊥) → None y ss p → None x ss p
  any x y p ss d a = (λ e. a.0 d, a.1)

  mutual
    unfolding spots spots_fields spots_piece spots_items encode encode_fields encode_piece encode_items

    pub node_none : (n : Node) (at p x : ℕ) → 0 < p → Away p (suc (suc at)) (at + length (encode n)) → None x (spots at n) p
    node_none (node old kind fs) at p x g a = fields_none (is_container kind) fs (suc (suc at)) p x g (away_in p (suc (suc at)) (at + suc (suc (length (encode_fields fs)))) (suc (suc at)) (suc (suc at) + length (encode_fields fs)) a (omega arith) (omega arith))

    pub fields_none : (c : Bool) (fs : Fields) (at p x : ℕ) → 0 < p → Away p at (at + length (encode_fields fs)) → None x (spots_fields c at fs) p
    fields_none c done at p x g a = none_nothing x p
    fields_none c (absent fs) at p x g a = fields_none c fs at p x g a
    fields_none c (field q fs) at p x g a =
        let z : length (encode_piece q ++ encode_fields fs) ≡ length (encode_piece q) + length (encode_fields fs) = length-append (encode_piece q) (encode_fields fs) in
        none_both x (spots_fields c (at + length (encode_piece q)) fs) (spots_piece c at q) p
        (fields_none c fs (at + length (encode_piece q)) p x g (away_in p at (at + length (encode_piece q ++ encode_fields fs)) (at + length (encode_piece q)) (at + length (encode_piece q) + length (encode_fields fs)) a (omega arith) (omega arith)))
        (piece_none c q at p x g (away_in p at (at + length (encode_piece q ++ encode_fields fs)) at (at + length (encode_piece q)) a (omega arith) (omega arith)))

    pub piece_none : (c : Bool) (q : Piece) (at p x : ℕ) → 0 < p → Away p at (at + length (encode_piece q)) → None x (spots_piece c at q) p
    piece_none c (one n) at p x g a = node_none n at p x g (away_in p at (at + length (encode n)) (suc (suc at)) (at + length (encode n)) a (omega arith) (omega arith))
    piece_none true (list is) at p x g a =
        any x at p (spots_items at (suc (suc at)) is) (away_other p at (at + suc (suc (length (encode_items is)))) a (omega arith))
        (items_none at is (suc (suc at)) p g (away_in p at (at + suc (suc (length (encode_items is)))) (suc (suc at)) (suc (suc at) + length (encode_items is)) a (omega arith) (omega arith)))
    piece_none false (list is) at p x g a =
        any x 0 p (spots_items 0 (suc (suc at)) is) (λ e. omega arith)
        (items_none 0 is (suc (suc at)) p g (away_in p at (at + suc (suc (length (encode_items is)))) (suc (suc at)) (suc (suc at) + length (encode_items is)) a (omega arith) (omega arith)))
    piece_none c (text bs) at p x g a = none_nothing x p
    piece_none c (byte b) at p x g a = none_nothing x p
    piece_none c (mark m) at p x g a = none_nothing x p
    piece_none c (number m) at p x g a = none_nothing x p

    pub items_none : (x : ℕ) (is : Items) (at p : ℕ) → 0 < p → Away p at (at + length (encode_items is)) → None x (spots_items x at is) p
    items_none x Items.none at p g a = none_nothing x p
    items_none x (hole is) at p g a = items_none x is (suc at) p g (away_in p at (at + suc (length (encode_items is))) (suc at) (suc at + length (encode_items is)) a (omega arith) (omega arith))
    items_none x (item n is) at p g a =
        let z : length (encode n ++ encode_items is) ≡ length (encode n) + length (encode_items is) = length-append (encode n) (encode_items is) in
        none_both x (spots_items x (at + length (encode n)) is) (spots at n ++ owned x at n) p
        (items_none x is (at + length (encode n)) p g (away_in p at (at + length (encode n ++ encode_items is)) (at + length (encode n)) (at + length (encode n) + length (encode_items is)) a (omega arith) (omega arith)))
        (none_both x (spots at n) (owned x at n) p
        (node_none n at p x g (away_in p at (at + length (encode n ++ encode_items is)) (suc (suc at)) (at + length (encode n)) a (omega arith) (omega arith)))
        (owned_none x at n p (away_other p at (at + length (encode n ++ encode_items is)) a (omega (arith, node_long n)))))

-- ---- the changes

absurd_some : {A : Type 0} (m : ℕ) → ◌≡◌ {A = Option ℕ} none (some m) → A
absurd_some m e = let z : ◌≡◌ {A = ℕ} 0 1 = cc in absurd (omega arith)

-- a tree's own mark stands behind its kind and bit map
first_mark_lem : (fs : Fields) (m : ℕ) → first_mark fs ≡ some m → (rest : List ℕ) × (encode_fields fs ≡ wide_bytes m ++ rest)
unfolding first_mark encode_fields encode_piece
first_mark_lem done m e = absurd_some m e
first_mark_lem (absent fs) m e = first_mark_lem fs m e
first_mark_lem (field (one n) fs) m e = absurd_some m e
first_mark_lem (field (list is) fs) m e = absurd_some m e
first_mark_lem (field (text bs) fs) m e = absurd_some m e
first_mark_lem (field (byte b) fs) m e = absurd_some m e
first_mark_lem (field (mark k) fs) m e = let same : k ≡ m = cc in (encode_fields fs, rw same refl)
first_mark_lem (field (number k) fs) m e = absurd_some m e

pub node_mark : (l : List ℕ) (n : Node) (at : ℕ) (rest : List ℕ) (m : ℕ) → drop at l ≡ encode n ++ rest → own_mark n ≡ some m → wide_at l (at + 2) ≡ m
unfolding encode
node_mark l (node old kind fs) at rest m e w =
    let f = first_mark_lem fs m w in
    let d : drop (suc (suc at)) l ≡ wide_bytes m ++ (f.0 ++ rest) = after_two l at kind (map_of fs) (encode_fields fs ++ rest) e ∙ ap (λ (bs : List ℕ). bs ++ rest) f.1 in
    let z : suc (suc at) ≡ at + 2 = omega arith in
    wide_is l (at + 2) m (f.0 ++ rest) (ap (λ (k : ℕ). drop k l) (sym z) ∙ d)

some_or_none : (l : List Items) → cond (ltb 0 (length l)) l [] ≡ l
some_or_none [] = refl
some_or_none (x ∷ xs) = rw (lt-ltb 0 (suc (length xs)) (omega arith)) refl

module _ (tree : List ℕ) (free : ℕ → ℕ) (es : List Entry) (more held : ℕ → ℕ) (small : length tree ≤ 32768) (few : (p : ℕ) → more p ≤ 16384) where
  abbrev ch : ℕ → Change
  ch = change_at tree es more held

  keeps : (p : ℕ) → more p ≡ 0 → held p ≡ 0 → ch p ≡ keep
  unfolding change_at
  keeps p a b = rw (a, b) refl

  -- from lo up to hi the tables say what the spots weigh
  abbrev Says : ℕ → ℕ → List Spot → Type 0
  Says lo hi ss = (p : ℕ) → lo ≤ p → p < hi → (more p ≡ tally place_of (shares es) ss p) × (held p ≡ tally statement_of (shares es) ss p)

  abbrev Nothing : ℕ → List Spot → Type 0
  Nothing p ss = (tally place_of (shares es) ss p ≡ 0) × (tally statement_of (shares es) ss p ≡ 0)

  says_left : (lo hi : ℕ) (xs ys : List Spot) → Says lo hi (xs ++ ys) → ((p : ℕ) → lo ≤ p → p < hi → Nothing p ys) → Says lo hi xs
  says_left lo hi xs ys s n p a b =
      let both = s p a b in
      let zero' = n p a b in
      let e : more p ≡ tally place_of (shares es) (xs ++ ys) p = both.0 in
      let f : held p ≡ tally statement_of (shares es) (xs ++ ys) p = both.1 in
      let g : tally place_of (shares es) ys p ≡ 0 = zero'.0 in
      let h : tally statement_of (shares es) ys p ≡ 0 = zero'.1 in
      (omega (arith, tally_append place_of (shares es) xs ys p), omega (arith, tally_append statement_of (shares es) xs ys p))

  says_right : (lo hi : ℕ) (xs ys : List Spot) → Says lo hi (xs ++ ys) → ((p : ℕ) → lo ≤ p → p < hi → Nothing p xs) → Says lo hi ys
  says_right lo hi xs ys s n p a b =
      let both = s p a b in
      let zero' = n p a b in
      let e : more p ≡ tally place_of (shares es) (xs ++ ys) p = both.0 in
      let f : held p ≡ tally statement_of (shares es) (xs ++ ys) p = both.1 in
      let g : tally place_of (shares es) xs p ≡ 0 = zero'.0 in
      let h : tally statement_of (shares es) xs p ≡ 0 = zero'.1 in
      (omega (arith, tally_append place_of (shares es) xs ys p), omega (arith, tally_append statement_of (shares es) xs ys p))

  says_keep : (p : ℕ) (ss : List Spot) → (more p ≡ tally place_of (shares es) ss p) × (held p ≡ tally statement_of (shares es) ss p) → Nothing p ss → ch p ≡ keep
  says_keep p ss s n = keeps p (s.0 ∙ n.0) (s.1 ∙ n.1)

  kept : (n lo : ℕ) → Says lo (lo + n) [] → Kept free es ch lo n
  unfolding Kept tally
  kept zero lo s = tt
  kept (suc n) lo s = (keeps lo (s lo (omega arith) (omega arith)).0 (s lo (omega arith) (omega arith)).1, kept n (suc lo) (λ p a b. s p (omega arith) (omega arith)))

  -- how many are new in a list
  here_plain : (is : Items) → here free es false is ≡ 0
  unfolding here
  here_plain Items.none = refl
  here_plain (hole is) = here_plain is
  here_plain (item n is) = let e : here free es false is ≡ 0 = here_plain is in omega arith

  own_weight : (x at : ℕ) (n : Node) → 1 < x → tally place_of (shares es) (owned x at n) x ≡ length (before free es true n)
  unfolding owned tally
  own_weight x at n h = rw (lt-ltb 1 x h) (go (own_mark n))
    where
      go : (m : Option ℕ) → tally place_of (shares es) (spotted x at m) x ≡ length (handed_by es m)
      go none = refl
      go (some m) = rw (eq-eqb x x refl) (omega arith)

  own_held : (x at : ℕ) (n : Node) → tally statement_of (shares es) (owned x at n) at ≡ length (before free es (ltb 1 x) n)
  unfolding owned tally
  own_held x at n = go (ltb 1 x) (own_mark n) refl
    where
      go : (b : Bool) (m : Option ℕ) → own_mark n ≡ m → tally statement_of (shares es) (cond b (spotted x at (own_mark n)) []) at ≡ length (handed_by es (found_by b n))
      go true none e = rw e refl
      go true (some m) e = rw e (rw (eq-eqb at at refl) (omega arith))
      go false m e = refl

  pub here_weight : (x : ℕ) (is : Items) (at : ℕ) → 1 < x → x < at → tally place_of (shares es) (spots_items x at is) x ≡ here free es true is
  unfolding spots_items here
  here_weight x Items.none at h g = (none_nothing (shares es) 0 x).0 (λ e. omega arith)
  here_weight x (hole is) at h g = here_weight x is (suc at) h (omega arith)
  here_weight x (item n is) at h g =
      let a : tally place_of (shares es) (spots_items x (at + length (encode n)) is) x ≡ here free es true is = here_weight x is (at + length (encode n)) h (omega arith) in
      let b : tally place_of (shares es) (spots at n) x ≡ 0 = (node_none (shares es) n at x 0 (omega arith) (inl (omega arith))).0 (λ e. omega arith) in
      let c : tally place_of (shares es) (owned x at n) x ≡ length (before free es true n) = own_weight x at n h in
      omega (arith, tally_append place_of (shares es) (spots_items x (at + length (encode n)) is) (spots at n ++ owned x at n) x, tally_append place_of (shares es) (spots at n) (owned x at n) x)

  item_change : (c : Bool) (n : Node) (at : ℕ) → more at ≡ 0 → held at ≡ length (before free es c n) → ((m : ℕ) → own_mark n ≡ some m → wide_at tree (at + 2) ≡ m) → ch at ≡ behind (before free es c n)
  unfolding change_at
  item_change c n at a b w = rw (a, b) (ap behind (go (found_by c n) (known c)))
    where
      known : (c : Bool) (m : ℕ) → found_by c n ≡ some m → wide_at tree (at + 2) ≡ m
      known true m e = w m e
      known false m e = absurd_some m e

      go : (o : Option ℕ) → ((m : ℕ) → o ≡ some m → wide_at tree (at + 2) ≡ m) → cond (ltb 0 (length (handed_by es o))) (handed_to es (wide_at tree (at + 2))) [] ≡ handed_by es o
      go none k = refl
      go (some m) k = rw (k m refl) (some_or_none (handed_to es m))

  list_count : (c : Bool) (is : Items) (at : ℕ) (rest : List ℕ) → 2 ≤ at → drop at tree ≡ encode_piece (list is) ++ rest → Says at (at + length (encode_piece (list is))) (spots_items (cond c at 0) (suc (suc at)) is) → Count free es ch at (count is) (here free es c is)
  unfolding Count Kept encode_piece change_at
  list_count c is at rest g e s = go c s
    where
      wide : wide_at tree at ≡ count is
      wide = wide_is tree at (count is) (encode_items is ++ rest) e

      counts : (m : ℕ) → more at ≡ m → 0 < m → ch at ≡ counted (count is + m)
      counts m w h = rw (w, lt-ltb 0 m h, wide) (ap counted under)
        where
          under : (count is + m) % 65536 ≡ count is + m
          under =
              let a : more at ≤ 16384 = few at in
              let b : length (drop at tree) ≡ length tree - at = length-drop at tree in
              let c : length (drop at tree) ≡ length ((wide_bytes (count is) ++ encode_items is) ++ rest) = ap length e in
              let d : length ((wide_bytes (count is) ++ encode_items is) ++ rest) ≡ suc (suc (length (encode_items is))) + length rest = length-append (wide_bytes (count is) ++ encode_items is) rest in
              let f : count is ≤ length (encode_items is) = count_short is in
              omega arith

      held_none : (x : ℕ) → tally statement_of (shares es) (spots_items x (suc (suc at)) is) at ≡ 0
      held_none x = (items_none (shares es) x is (suc (suc at)) at (omega arith) (inl (omega arith))).1

      second : (x : ℕ) → (suc at ≡ x → ⊥) → Says at (at + length (encode_piece (list is))) (spots_items x (suc (suc at)) is) → ch (suc at) ≡ keep
      second x d t = let n = items_none (shares es) x is (suc (suc at)) (suc at) (omega arith) (inl (omega arith)) in says_keep (suc at) (spots_items x (suc (suc at)) is) (t (suc at) (omega arith) (omega arith)) (n.0 d, n.1)

      go : (c : Bool) → Says at (at + length (encode_piece (list is))) (spots_items (cond c at 0) (suc (suc at)) is) → Count free es ch at (count is) (here free es c is)
      go false t =
          let n = items_none (shares es) 0 is (suc (suc at)) at (omega arith) (inl (omega arith)) in
          inr (here_plain is, (says_keep at (spots_items 0 (suc (suc at)) is) (t at (omega arith) (omega arith)) (n.0 (λ w. omega arith), n.1), (second 0 (λ w. omega arith) t, tt)))
      go true t = elim (dec_lt 0 (here free es true is)) [
        | yes h ↦ inl (counts (here free es true is) ((t at (omega arith) (omega arith)).0 ∙ here_weight at is (suc (suc at)) (omega arith) (omega arith)) h)
        | no h ↦
            let z : here free es true is ≡ 0 = omega arith in
            inr (z, (says_keep at (spots_items at (suc (suc at)) is) (t at (omega arith) (omega arith)) (here_weight at is (suc (suc at)) (omega arith) (omega arith) ∙ z, held_none at), (second at (λ w. omega arith) t, tt)))
      ]

  mutual
    unfolding Agrees AgreesFields AgreesPiece AgreesItems spots spots_fields spots_piece spots_items encode encode_fields encode_piece encode_items

    pub node_agrees : (n : Node) (at : ℕ) (rest : List ℕ) → drop at tree ≡ encode n ++ rest → Says (suc at) (at + length (encode n)) (spots at n) → Agrees free es ch at n
    node_agrees (node old kind fs) at rest e s =
        let n = node_none (shares es) (node old kind fs) at (suc at) 0 (omega arith) (inl (omega arith)) in (
          says_keep (suc at) (spots_fields (is_container kind) (suc (suc at)) fs) (s (suc at) (omega arith) (omega arith)) (n.0 (λ w. omega arith), n.1),
          fields_agree (is_container kind) fs (suc (suc at)) rest (omega arith) (after_two tree at kind (map_of fs) (encode_fields fs ++ rest) e) (λ p a b. s p (omega arith) (omega arith)),
        )

    pub fields_agree : (c : Bool) (fs : Fields) (at : ℕ) (rest : List ℕ) → 2 ≤ at → drop at tree ≡ encode_fields fs ++ rest → Says at (at + length (encode_fields fs)) (spots_fields c at fs) → AgreesFields free es ch c at fs
    fields_agree c done at rest g e s = tt
    fields_agree c (absent fs) at rest g e s = fields_agree c fs at rest g e s
    fields_agree c (field q fs) at rest g e s =
        let z : length (encode_piece q ++ encode_fields fs) ≡ length (encode_piece q) + length (encode_fields fs) = length-append (encode_piece q) (encode_fields fs) in
        let d : drop at tree ≡ encode_piece q ++ (encode_fields fs ++ rest) = e ∙ append_assoc (encode_piece q) (encode_fields fs) rest in (
          piece_agrees c q at (encode_fields fs ++ rest) g d
              (says_right at (at + length (encode_piece q)) (spots_fields c (at + length (encode_piece q)) fs) (spots_piece c at q) (λ p a b. s p a (omega arith))
              (λ p a b. let n = fields_none (shares es) c fs (at + length (encode_piece q)) p 0 (omega arith) (inl b) in (n.0 (λ w. omega arith), n.1))),
          fields_agree c fs (at + length (encode_piece q)) rest (omega arith) (after tree at (length (encode_piece q)) (encode_piece q) (encode_fields fs ++ rest) d refl)
              (says_left (at + length (encode_piece q)) (at + length (encode_piece q) + length (encode_fields fs)) (spots_fields c (at + length (encode_piece q)) fs) (spots_piece c at q) (λ p a b. s p (omega arith) (omega arith))
              (λ p a b. let n = piece_none (shares es) c q at p 0 (omega arith) (inr a) in (n.0 (λ w. omega arith), n.1))),
        )

    pub piece_agrees : (c : Bool) (q : Piece) (at : ℕ) (rest : List ℕ) → 2 ≤ at → drop at tree ≡ encode_piece q ++ rest → Says at (at + length (encode_piece q)) (spots_piece c at q) → AgreesPiece free es ch c at q
    piece_agrees c (one n) at rest g e s =
        let z = node_none (shares es) n at at 0 (omega arith) (inl (omega arith)) in (
          says_keep at (spots at n) (s at (omega arith) (omega (arith, node_long n))) (z.0 (λ w. omega arith), z.1),
          node_agrees n at rest e (λ p a b. s p (omega arith) b),
        )
    piece_agrees c (list is) at rest g e s = (
      list_count c is at rest g e s,
      items_agree c (cond c at 0) is (suc (suc at)) rest (chosen c) (lower c) (after_two tree at (count is % 256) (count is / 256) (encode_items is ++ rest) e) (λ p a b. s p (omega arith) (omega arith)),
    )
      where
        chosen : (c : Bool) → c ≡ ltb 1 (cond c at 0)
        chosen true = sym (lt-ltb 1 at (omega arith))
        chosen false = refl

        lower : (c : Bool) → cond c at 0 < suc (suc at)
        lower true = omega arith
        lower false = omega arith
    piece_agrees c (text bs) at rest g e s = kept (length (encode_piece (text bs))) at s
    piece_agrees c (byte b) at rest g e s = kept 1 at s
    piece_agrees c (mark m) at rest g e s = kept 2 at s
    piece_agrees c (number m) at rest g e s = kept 2 at s

    pub items_agree : (c : Bool) (x : ℕ) (is : Items) (at : ℕ) (rest : List ℕ) → c ≡ ltb 1 x → x < at → drop at tree ≡ encode_items is ++ rest → Says at (at + length (encode_items is)) (spots_items x at is) → AgreesItems free es ch c at is
    items_agree c x Items.none at rest k g e s = tt
    items_agree c x (hole is) at rest k g e s =
        let n = items_none (shares es) x is (suc at) at (omega arith) (inl (omega arith)) in
        let z : at + 1 ≡ suc at = omega arith in (
          says_keep at (spots_items x (suc at) is) (s at (omega arith) (omega arith)) (n.0 (λ w. omega arith), n.1),
          items_agree c x is (suc at) rest k (omega arith) (ap (λ (m : ℕ). drop m tree) (sym z) ∙ after tree at 1 (0 ∷ []) (encode_items is ++ rest) e refl) (λ p a b. s p (omega arith) (omega arith)),
        )
    items_agree c x (item n is) at rest k g e s =
        let z : length (encode n ++ encode_items is) ≡ length (encode n) + length (encode_items is) = length-append (encode n) (encode_items is) in
        let d : drop at tree ≡ encode n ++ (encode_items is ++ rest) = e ∙ append_assoc (encode n) (encode_items is) rest in
        let long : 2 ≤ length (encode n) = node_long n in
        let later = items_none (shares es) x is (at + length (encode n)) at (omega arith) (inl (omega arith)) in
        let inner = node_none (shares es) n at at 0 (omega arith) (inl (omega arith)) in
        let l₁ : tally place_of (shares es) (spots_items x (at + length (encode n)) is) at ≡ 0 = later.0 (λ w. omega arith) in
        let l₂ : tally statement_of (shares es) (spots_items x (at + length (encode n)) is) at ≡ 0 = later.1 in
        let i₁ : tally place_of (shares es) (spots at n) at ≡ 0 = inner.0 (λ w. omega arith) in
        let i₂ : tally statement_of (shares es) (spots at n) at ≡ 0 = inner.1 in
        let o₁ : tally place_of (shares es) (owned x at n) at ≡ 0 = owned_place (shares es) x at n at (λ w. omega arith) in
        let o₂ : tally statement_of (shares es) (owned x at n) at ≡ length (before free es (ltb 1 x) n) = own_held x at n in
        let here₁ : more at ≡ tally place_of (shares es) (spots_items x (at + length (encode n)) is ++ (spots at n ++ owned x at n)) at = (s at (omega arith) (omega arith)).0 in
        let here₂ : held at ≡ tally statement_of (shares es) (spots_items x (at + length (encode n)) is ++ (spots at n ++ owned x at n)) at = (s at (omega arith) (omega arith)).1 in
        let m₁ : more at ≡ 0 = omega (arith, tally_append place_of (shares es) (spots_items x (at + length (encode n)) is) (spots at n ++ owned x at n) at, tally_append place_of (shares es) (spots at n) (owned x at n) at) in
        let m₂ : held at ≡ length (before free es (ltb 1 x) n) = omega (arith, tally_append statement_of (shares es) (spots_items x (at + length (encode n)) is) (spots at n ++ owned x at n) at, tally_append statement_of (shares es) (spots at n) (owned x at n) at) in (
          item_change c n at m₁ (m₂ ∙ ap (λ (b : Bool). length (before free es b n)) (sym k)) (λ m w. node_mark tree n at (encode_items is ++ rest) m d w),
          node_agrees n at (encode_items is ++ rest) d
              (says_left (suc at) (at + length (encode n)) (spots at n) (owned x at n)
              (says_right (suc at) (at + length (encode n)) (spots_items x (at + length (encode n)) is) (spots at n ++ owned x at n) (λ p a b. s p (omega arith) (omega arith))
              (λ p a b. let o = items_none (shares es) x is (at + length (encode n)) p (omega arith) (inl b) in (o.0 (λ w. omega arith), o.1)))
              (λ p a b. let o = owned_none (shares es) x at n p (λ w. omega arith) in (o.0 (λ w. omega arith), o.1))),
          items_agree c x is (at + length (encode n)) rest k (omega arith) (after tree at (length (encode n)) (encode n) (encode_items is ++ rest) d refl)
              (says_left (at + length (encode n)) (at + length (encode n) + length (encode_items is)) (spots_items x (at + length (encode n)) is) (spots at n ++ owned x at n) (λ p a b. s p (omega arith) (omega arith))
              (λ p a b.
              let u = node_none (shares es) n at p 0 (omega arith) (inr a) in
              let v = owned_none (shares es) x at n p (λ w. omega arith) in
              let u₁ : tally place_of (shares es) (spots at n) p ≡ 0 = u.0 (λ w. omega arith) in
              let u₂ : tally statement_of (shares es) (spots at n) p ≡ 0 = u.1 in
              let v₁ : tally place_of (shares es) (owned x at n) p ≡ 0 = v.0 (λ w. omega arith) in
              let v₂ : tally statement_of (shares es) (owned x at n) p ≡ 0 = v.1 in
              (omega (arith, tally_append place_of (shares es) (spots at n) (owned x at n) p), omega (arith, tally_append statement_of (shares es) (spots at n) (owned x at n) p)))),
        )
