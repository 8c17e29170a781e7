-- Passing over the bytes of a tree once, with its changes, writes the joined tree.
-- Assumes nothing.
use Prim.Native.Nat.{ℕ, suc, ◌+◌, ◌*◌, ◌/◌, ◌%◌}
use mathlib.Core.Path.{◌≡◌, refl, sym, ap, ap₂, ◌∙◌}
use mathlib.Core.List.{List, [], ◌∷◌, ◌++◌}
use mathlib.Core.Bool.{Bool, false}
use native.Mathlib.Omega.{arith}
use mathlib.Core.Logic.{inl, inr}
use lib.ListN.{length, length-append}
use Rattle.tree.specs.Tree.{Node, Fields, Piece, Items, map_of, count, wide_bytes, encode, encode_fields, encode_piece, encode_items}
use Rattle.tree.specs.Tree.Node.{node}
use Rattle.tree.specs.Tree.Fields.{done, absent, field}
use Rattle.tree.specs.Tree.Piece.{one, list, text, byte, mark, number}
use Rattle.tree.specs.Tree.Items.{none, hole, item}
use Rattle.lowering.specs.Collect.{Entry}
use Rattle.joining.specs.Join.{is_container, before, vars, declaration, news, news_fields, news_piece, news_items, join, join_fields, join_piece, join_items}
use Rattle.joining.specs.Changes.{Change, keep, vars_encoded, here, written, Kept, Count, Agrees, AgreesFields, AgreesPiece, AgreesItems}
use Rattle.joining.specs.Changes.Change.{behind, counted}

append_assoc : (xs ys zs : List ℕ) → (xs ++ ys) ++ zs ≡ xs ++ (ys ++ zs)
append_assoc [] ys zs = refl
append_assoc (x ∷ xs) ys zs = ap (λ (l : List ℕ). x ∷ l) (append_assoc xs ys zs)

module _ (free : ℕ → ℕ) (es : List Entry) where
  -- `var`s before items are written before them
  vars_encoded_lem : (i : ℕ) (ds : List Items) (is : Items) → encode_items (vars free es i ds is) ≡ vars_encoded free es i ds ++ encode_items is
  unfolding vars vars_encoded encode_items
  vars_encoded_lem i [] is = refl
  vars_encoded_lem i (d ∷ ds) is =
      ap (λ (l : List ℕ). encode (declaration 1 (free i) d) ++ l) (vars_encoded_lem (suc i) ds is)
      ∙ sym (append_assoc (encode (declaration 1 (free i) d)) (vars_encoded free es (suc i) ds) (encode_items is))

  vars_count : (i : ℕ) (ds : List Items) (is : Items) → count (vars free es i ds is) ≡ length ds + count is
  unfolding vars count
  vars_count i [] is = let z : count is ≡ 0 + count is = omega arith in z
  vars_count i (d ∷ ds) is =
      let z : suc (length ds + count is) ≡ suc (length ds) + count is = omega arith in
      ap suc (vars_count (suc i) ds is) ∙ z

  -- the bit map and the counts of the joined tree
  map_joined : (c : Bool) (i : ℕ) (fs : Fields) → map_of (join_fields free es c i fs) ≡ map_of fs
  unfolding join_fields map_of
  map_joined c i done = refl
  map_joined c i (absent fs) = ap (λ (m : ℕ). 2 * m) (map_joined c i fs)
  map_joined c i (field p fs) = ap (λ (m : ℕ). 1 + 2 * m) (map_joined c (i + news_piece free es c p) fs)

  pub count_joined : (c : Bool) (i : ℕ) (is : Items) → count (join_items free es c i is) ≡ count is + here free es c is
  unfolding join_items count here
  count_joined c i none = refl
  count_joined c i (hole is) =
      let z : suc (count is + here free es c is) ≡ suc (count is) + here free es c is = omega arith in
      ap suc (count_joined c i is) ∙ z
  count_joined c i (item n is) =
      let rest : count (join_items free es c (i + length (before free es c n) + news free es n) is) ≡ count is + here free es c is = count_joined c (i + length (before free es c n) + news free es n) is in
      vars_count i (before free es c n) (item (join free es (i + length (before free es c n)) n) (join_items free es c (i + length (before free es c n) + news free es n) is))
      ∙ omega (arith, rest)

  module _ (ch : ℕ → Change) where
    abbrev W : List ℕ → ℕ → ℕ → List ℕ
    W bs p i = written free es ch false bs p i

    -- the same from the same place on
    same_place : (rest : List ℕ) (p q i j : ℕ) → p ≡ q → i ≡ j → W rest p i ≡ W rest q j
    same_place rest p q i j e f = ap₂ (λ (x y : ℕ). W rest x y) e f

    -- a byte that stays
    byte_kept : (b : ℕ) (bs : List ℕ) (p i : ℕ) → ch p ≡ keep → written free es ch false (b ∷ bs) p i ≡ b ∷ written free es ch false bs (suc p) i
    unfolding written vars_encoded vars encode_items
    byte_kept b bs p i e = let z : i + 0 ≡ i = omega arith in rw (e, z)

    kept : (xs rest : List ℕ) (p i : ℕ) → Kept free es ch p (length xs) → written free es ch false (xs ++ rest) p i ≡ xs ++ written free es ch false rest (p + length xs) i
    unfolding Kept
    kept [] rest p i k = let z : p ≡ p + 0 = omega arith in ap (λ (q : ℕ). written free es ch false rest q i) z
    kept (x ∷ xs) rest p i k =
        let z : suc p + length xs ≡ p + suc (length xs) = omega arith in
        byte_kept x (xs ++ rest) p i k.0
        ∙ ap (λ (l : List ℕ). x ∷ l) (kept xs rest (suc p) i k.1 ∙ ap (λ (q : ℕ). xs ++ written free es ch false rest q i) z)

    -- a byte behind `var`s
    byte_behind : (b : ℕ) (bs : List ℕ) (p i : ℕ) (ds : List Items) → ch p ≡ behind ds → W (b ∷ bs) p i ≡ vars_encoded free es i ds ++ (b ∷ W bs (suc p) (i + length ds))
    unfolding written
    byte_behind b bs p i ds e = rw e (append_assoc (vars_encoded free es i ds) (b ∷ []) (W bs (suc p) (i + length ds)))

    -- a count that becomes another
    count_changed : (a b : ℕ) (bs : List ℕ) (p i n : ℕ) → ch p ≡ counted n → W (a ∷ b ∷ bs) p i ≡ wide_bytes n ++ W bs (suc (suc p)) i
    unfolding written
    count_changed a b bs p i n e = let z : i + 0 ≡ i = omega arith in rw (e, z)

    kept_piece : (xs : List ℕ) (at i : ℕ) (rest : List ℕ) → Kept free es ch at (length xs) → W (xs ++ rest) at i ≡ xs ++ W rest (at + length xs) (i + 0)
    kept_piece xs at i rest k = let z : i ≡ i + 0 = omega arith in kept xs rest at i k ∙ ap (λ (j : ℕ). xs ++ W rest (at + length xs) j) z

    item_joined : (v m is rest : List ℕ) → v ++ (m ++ (is ++ rest)) ≡ (v ++ (m ++ is)) ++ rest
    item_joined v m is rest = ap (λ (l : List ℕ). v ++ l) (sym (append_assoc m is rest)) ∙ sym (append_assoc v (m ++ is) rest)

    count_written : (c : Bool) (is : Items) (at i : ℕ) (bs : List ℕ) → Count free es ch at (count is) (here free es c is) → W (wide_bytes (count is) ++ bs) at i ≡ wide_bytes (count (join_items free es c i is)) ++ W bs (suc (suc at)) i
    unfolding Count
    count_written c is at i bs (inl e) =
        count_changed (count is % 256) (count is / 256) bs at i (count is + here free es c is) e
        ∙ ap (λ (n : ℕ). wide_bytes n ++ W bs (suc (suc at)) i) (sym (count_joined c i is))
    count_written c is at i bs (inr k) =
        let none : here free es c is ≡ 0 = k.0 in
        let joined : count (join_items free es c i is) ≡ count is + here free es c is = count_joined c i is in
        let same : count is ≡ count (join_items free es c i is) = omega (arith, none, joined) in
        let z : at + 2 ≡ suc (suc at) = omega arith in
        kept (wide_bytes (count is)) bs at i k.1
        ∙ ap₂ (λ (n q : ℕ). wide_bytes n ++ W bs q i) same z

    mutual
      unfolding Agrees AgreesFields AgreesPiece AgreesItems join join_fields join_piece join_items news news_fields news_piece news_items encode encode_fields encode_piece encode_items map_of vars_encoded vars

      pub node_written : (n : Node) (at i : ℕ) (rest : List ℕ) (ds : List Items) → ch at ≡ behind ds → Agrees free es ch at n
          → W (encode n ++ rest) at i ≡ vars_encoded free es i ds ++ (encode (join free es (i + length ds) n) ++ W rest (at + length (encode n)) (i + length ds + news free es n))
      node_written (node old kind fs) at i rest ds e a =
          let z : suc (suc at) + length (encode_fields fs) ≡ at + suc (suc (length (encode_fields fs))) = omega arith in
          byte_behind kind (map_of fs ∷ (encode_fields fs ++ rest)) at i ds e
          ∙ ap (λ (l : List ℕ). vars_encoded free es i ds ++ (kind ∷ l))
          (byte_kept (map_of fs) (encode_fields fs ++ rest) (suc at) (i + length ds) a.0
          ∙ ap₂ (λ (m : ℕ) (l : List ℕ). m ∷ l) (sym (map_joined (is_container kind) (i + length ds) fs))
          (fields_written (is_container kind) fs (suc (suc at)) (i + length ds) rest a.1
          ∙ ap (λ (l : List ℕ). encode_fields (join_fields free es (is_container kind) (i + length ds) fs) ++ l)
          (same_place rest (suc (suc at) + length (encode_fields fs)) (at + suc (suc (length (encode_fields fs)))) (i + length ds + news_fields free es (is_container kind) fs) (i + length ds + news_fields free es (is_container kind) fs) z refl)))

      pub fields_written : (c : Bool) (fs : Fields) (at i : ℕ) (rest : List ℕ) → AgreesFields free es ch c at fs
          → W (encode_fields fs ++ rest) at i ≡ encode_fields (join_fields free es c i fs) ++ W rest (at + length (encode_fields fs)) (i + news_fields free es c fs)
      fields_written c done at i rest a = same_place rest at (at + 0) i (i + 0) (omega arith) (omega arith)
      fields_written c (absent fs) at i rest a = fields_written c fs at i rest a
      fields_written c (field p fs) at i rest a =
          let z : at + length (encode_piece p) + length (encode_fields fs) ≡ at + length (encode_piece p ++ encode_fields fs) = omega (arith, length-append (encode_piece p) (encode_fields fs)) in
          let y : i + news_piece free es c p + news_fields free es c fs ≡ i + (news_piece free es c p + news_fields free es c fs) = omega arith in
          ap (λ (l : List ℕ). W l at i) (append_assoc (encode_piece p) (encode_fields fs) rest)
          ∙ piece_written c p at i (encode_fields fs ++ rest) a.0
          ∙ ap (λ (l : List ℕ). encode_piece (join_piece free es c i p) ++ l)
          (fields_written c fs (at + length (encode_piece p)) (i + news_piece free es c p) rest a.1
          ∙ ap (λ (l : List ℕ). encode_fields (join_fields free es c (i + news_piece free es c p) fs) ++ l)
          (same_place rest (at + length (encode_piece p) + length (encode_fields fs)) (at + length (encode_piece p ++ encode_fields fs)) (i + news_piece free es c p + news_fields free es c fs) (i + (news_piece free es c p + news_fields free es c fs)) z y))
          ∙ sym (append_assoc (encode_piece (join_piece free es c i p)) (encode_fields (join_fields free es c (i + news_piece free es c p) fs)) (W rest (at + length (encode_piece p ++ encode_fields fs)) (i + (news_piece free es c p + news_fields free es c fs))))

      pub piece_written : (c : Bool) (p : Piece) (at i : ℕ) (rest : List ℕ) → AgreesPiece free es ch c at p
          → W (encode_piece p ++ rest) at i ≡ encode_piece (join_piece free es c i p) ++ W rest (at + length (encode_piece p)) (i + news_piece free es c p)
      piece_written c (one n) at i rest a =
          let z : i + 0 ≡ i = omega arith in
          node_written n at i rest [] a.0 a.1 ∙ rw z
      piece_written c (list is) at i rest a =
          let z : suc (suc at) + length (encode_items is) ≡ at + suc (suc (length (encode_items is))) = omega arith in
          count_written c is at i (encode_items is ++ rest) a.0
          ∙ ap (λ (l : List ℕ). wide_bytes (count (join_items free es c i is)) ++ l)
          (items_written c is (suc (suc at)) i rest a.1
          ∙ ap (λ (l : List ℕ). encode_items (join_items free es c i is) ++ l)
          (same_place rest (suc (suc at) + length (encode_items is)) (at + suc (suc (length (encode_items is)))) (i + news_items free es c is) (i + news_items free es c is) z refl))
      piece_written c (text bs) at i rest a = kept_piece (encode_piece (text bs)) at i rest a
      piece_written c (byte b) at i rest a = kept_piece (b ∷ []) at i rest a
      piece_written c (mark m) at i rest a = kept_piece (wide_bytes m) at i rest a
      piece_written c (number n) at i rest a = kept_piece (wide_bytes n) at i rest a

      pub items_written : (c : Bool) (is : Items) (at i : ℕ) (rest : List ℕ) → AgreesItems free es ch c at is
          → W (encode_items is ++ rest) at i ≡ encode_items (join_items free es c i is) ++ W rest (at + length (encode_items is)) (i + news_items free es c is)
      items_written c none at i rest a = same_place rest at (at + 0) i (i + 0) (omega arith) (omega arith)
      items_written c (hole is) at i rest a =
          let z : suc at + length (encode_items is) ≡ at + suc (length (encode_items is)) = omega arith in
          byte_kept 0 (encode_items is ++ rest) at i a.0
          ∙ ap (λ (l : List ℕ). 0 ∷ l)
          (items_written c is (suc at) i rest a.1
          ∙ ap (λ (l : List ℕ). encode_items (join_items free es c i is) ++ l)
          (same_place rest (suc at + length (encode_items is)) (at + suc (length (encode_items is))) (i + news_items free es c is) (i + news_items free es c is) z refl))
      items_written c (item n is) at i rest a =
          let z : at + length (encode n) + length (encode_items is) ≡ at + length (encode n ++ encode_items is) = omega (arith, length-append (encode n) (encode_items is)) in
          let y : i + length (before free es c n) + news free es n + news_items free es c is ≡ i + (length (before free es c n) + (news free es n + news_items free es c is)) = omega arith in
          ap (λ (l : List ℕ). W l at i) (append_assoc (encode n) (encode_items is) rest)
          ∙ node_written n at i (encode_items is ++ rest) (before free es c n) a.0 a.1
          ∙ ap (λ (l : List ℕ). vars_encoded free es i (before free es c n) ++ (encode (join free es (i + length (before free es c n)) n) ++ l))
          (items_written c is (at + length (encode n)) (i + length (before free es c n) + news free es n) rest a.2
          ∙ ap (λ (l : List ℕ). encode_items (join_items free es c (i + length (before free es c n) + news free es n) is) ++ l)
          (same_place rest (at + length (encode n) + length (encode_items is)) (at + length (encode n ++ encode_items is)) (i + length (before free es c n) + news free es n + news_items free es c is) (i + (length (before free es c n) + (news free es n + news_items free es c is))) z y))
          ∙ item_joined (vars_encoded free es i (before free es c n)) (encode (join free es (i + length (before free es c n)) n)) (encode_items (join_items free es c (i + length (before free es c n) + news free es n) is)) (W rest (at + length (encode n ++ encode_items is)) (i + (length (before free es c n) + (news free es n + news_items free es c is))))
          ∙ ap (λ (l : List ℕ). l ++ W rest (at + length (encode n ++ encode_items is)) (i + (length (before free es c n) + (news free es n + news_items free es c is))))
          (sym (vars_encoded_lem i (before free es c n) (item (join free es (i + length (before free es c n)) n) (join_items free es c (i + length (before free es c n) + news free es n) is))))
