-- A pass with a stack finds the statements of containers: over the events of a tree it adds the tree's, and leaves the stack as it was.
-- Assumes nothing.
use Prim.Native.Nat.{ℕ, suc, ◌+◌, ◌<◌, ◌≤◌}
use mathlib.Core.Path.{◌≡◌, refl, sym, ap, ap₂, ◌∙◌}
use mathlib.Core.List.{List, [], ◌∷◌, ◌++◌, append_assoc, append-nil}
use mathlib.Core.Bool.{Bool, true, false, cond}
use mathlib.Core.Option.{Option, none, some}
use native.Mathlib.Omega.{arith}
use lib.Dec.{eqb, ltb}
use lib.ListN.{length, length-append}
use borrow.Author.Tests.{lt-ltb, ltb-true}
use Rattle.tree.specs.Tree.{Node, Fields, Piece, Items, encode, encode_fields, encode_piece, encode_items}
use Rattle.tree.specs.Tree.Node.{node}
use Rattle.tree.specs.Tree.Fields.{done, absent, field}
use Rattle.tree.specs.Tree.Piece.{one, list, text, byte, mark, number}
use Rattle.tree.specs.Tree.Items.{hole, item}
use Rattle.rewritten.specs.Events.{Event, events, events_fields, events_piece, events_items}
use Rattle.rewritten.specs.Events.Event.{begins, ends, opens, closes}
use Rattle.rewritten.specs.Pass.{folded}
use Rattle.joining.specs.Join.{is_container, piece_mark, first_mark}
use Rattle.joining.specs.Spots.{Spot, spot, spotted, owned, spots, spots_fields, spots_piece, spots_items}

-- where the pass is; what is around it: 1 a container, its list's position for a list of one, else 0; the item of such a list that has just begun, else 0;
-- the statements that were met
pub record Walk : Type 0 where
  pub at : ℕ
  pub around : List ℕ
  pub begun : ℕ
  pub met : List Spot

abbrev pub walker : ℕ → List ℕ → ℕ → List Spot → Walk
walker p st b ss = record { at = p; around = st; begun = b; met = ss }

abbrev pub head_of : List ℕ → ℕ
head_of [] = 0
head_of (x ∷ xs) = x

abbrev pub tail_of : List ℕ → List ℕ
tail_of [] = []
tail_of (x ∷ xs) = xs

abbrev pub walks : Walk → Event → Walk
walks w (begins p kind map) = walker (suc (suc w.at)) (cond (is_container kind) 1 0 ∷ w.around) (cond (ltb 1 (head_of w.around)) w.at 0) w.met
walks w ends = walker w.at (tail_of w.around) 0 w.met
walks w (opens n) = walker (suc (suc w.at)) (cond (eqb (head_of w.around) 1) w.at 0 ∷ w.around) 0 w.met
walks w closes = walker w.at (tail_of w.around) 0 w.met
walks w Event.hole = walker (suc w.at) w.around 0 w.met
walks w (Event.text bs) = walker (suc (suc (w.at + length bs))) w.around 0 w.met
walks w (Event.byte b) = walker (suc w.at) w.around 0 w.met
walks w (Event.mark m) = walker (suc (suc w.at)) w.around 0 (cond (ltb 0 w.begun) (spot (head_of (tail_of w.around)) w.begun m ∷ w.met) w.met)
walks w (Event.number n) = walker (suc (suc w.at)) w.around 0 w.met

abbrev W : Walk → List Event → Walk
W = folded walks

same_walk : (p q : ℕ) (st : List ℕ) (xs ys : List Spot) (rest : List Event) → p ≡ q → xs ≡ ys → W (walker p st 0 xs) rest ≡ W (walker q st 0 ys) rest
same_walk p q st xs ys rest e f = ap₂ (λ (a : ℕ) (b : List Spot). W (walker a st 0 b) rest) e f

-- the item's own, if it begins at b
abbrev begun_by : ℕ → ℕ → Option ℕ → List Spot
begun_by b x m = cond (ltb 0 b) (spotted x b m) []

begun_none : (b x : ℕ) → begun_by b x none ≡ []
begun_none b x = go (ltb 0 b)
  where
    go : (t : Bool) → cond t (spotted x b none) [] ≡ []
    go true = refl
    go false = refl

begun_owned : (x at kind : ℕ) (old : ℕ) (fs : Fields) → (1 < x → 0 < at) → begun_by (cond (ltb 1 x) at 0) x (first_mark fs) ≡ owned x at (node old kind fs)
unfolding owned
begun_owned x at kind old fs h = go (ltb 1 x) refl
  where
    go : (b : Bool) → ltb 1 x ≡ b → begun_by (cond b at 0) x (first_mark fs) ≡ cond b (spotted x at (first_mark fs)) []
    go true e = rw (lt-ltb 0 at (h (ltb-true 1 x e))) refl
    go false e = refl

owned_plain : (c : Bool) (at : ℕ) (n : Node) → owned (cond c 1 0) at n ≡ []
unfolding owned
owned_plain true at n = refl
owned_plain false at n = refl

mutual
  unfolding folded events events_fields events_piece events_items spots spots_fields spots_piece spots_items encode encode_fields encode_piece encode_items first_mark

  pub node_walked : (n : Node) (x : ℕ) (st : List ℕ) (at b : ℕ) (ss : List Spot) (rest : List Event) → (1 < x → 0 < at)
      → W (walker at (x ∷ st) b ss) (events n ++ rest) ≡ W (walker (at + length (encode n)) (x ∷ st) 0 (spots at n ++ (owned x at n ++ ss))) rest
  node_walked (node old kind fs) x st at b ss rest h =
      let z : suc (suc at) + length (encode_fields fs) ≡ at + suc (suc (length (encode_fields fs))) = omega arith in
      ap (W (walker (suc (suc at)) (cond (is_container kind) 1 0 ∷ (x ∷ st)) (cond (ltb 1 x) at 0) ss)) (append_assoc (events_fields fs) (ends ∷ []) rest)
      ∙ fields_walked (is_container kind) fs x st (suc (suc at)) (cond (ltb 1 x) at 0) ss rest (omega arith)
      ∙ same_walk (suc (suc at) + length (encode_fields fs)) (at + suc (suc (length (encode_fields fs)))) (x ∷ st)
      (spots_fields (is_container kind) (suc (suc at)) fs ++ (begun_by (cond (ltb 1 x) at 0) x (first_mark fs) ++ ss))
      (spots_fields (is_container kind) (suc (suc at)) fs ++ (owned x at (node old kind fs) ++ ss)) rest z
      (ap (λ (l : List Spot). spots_fields (is_container kind) (suc (suc at)) fs ++ (l ++ ss)) (begun_owned x at kind old fs h))

  fields_walked : (c : Bool) (fs : Fields) (x : ℕ) (st : List ℕ) (at b : ℕ) (ss : List Spot) (rest : List Event) → 2 ≤ at
      → W (walker at (cond c 1 0 ∷ (x ∷ st)) b ss) (events_fields fs ++ (ends ∷ rest)) ≡ W (walker (at + length (encode_fields fs)) (x ∷ st) 0 (spots_fields c at fs ++ (begun_by b x (first_mark fs) ++ ss))) rest
  fields_walked c done x st at b ss rest g = same_walk at (at + 0) (x ∷ st) ss (begun_by b x none ++ ss) rest (omega arith) (ap (λ (l : List Spot). l ++ ss) (sym (begun_none b x)))
  fields_walked c (absent fs) x st at b ss rest g = fields_walked c fs x st at b ss rest g
  fields_walked c (field q fs) x st at b ss rest g =
      let z : at + length (encode_piece q) + length (encode_fields fs) ≡ at + length (encode_piece q ++ encode_fields fs) = omega (arith, length-append (encode_piece q) (encode_fields fs)) in
      ap (W (walker at (cond c 1 0 ∷ (x ∷ st)) b ss)) (append_assoc (events_piece q) (events_fields fs) (ends ∷ rest))
      ∙ piece_walked c q x st at b ss (events_fields fs ++ (ends ∷ rest)) g
      ∙ fields_walked c fs x st (at + length (encode_piece q)) 0 (spots_piece c at q ++ (begun_by b x (piece_mark q) ++ ss)) rest (omega arith)
      ∙ same_walk (at + length (encode_piece q) + length (encode_fields fs)) (at + length (encode_piece q ++ encode_fields fs)) (x ∷ st)
      (spots_fields c (at + length (encode_piece q)) fs ++ (spots_piece c at q ++ (begun_by b x (piece_mark q) ++ ss)))
      ((spots_fields c (at + length (encode_piece q)) fs ++ spots_piece c at q) ++ (begun_by b x (piece_mark q) ++ ss)) rest z
      (sym (append_assoc (spots_fields c (at + length (encode_piece q)) fs) (spots_piece c at q) (begun_by b x (piece_mark q) ++ ss)))

  piece_walked : (c : Bool) (q : Piece) (x : ℕ) (st : List ℕ) (at b : ℕ) (ss : List Spot) (rest : List Event) → 2 ≤ at
      → W (walker at (cond c 1 0 ∷ (x ∷ st)) b ss) (events_piece q ++ rest) ≡ W (walker (at + length (encode_piece q)) (cond c 1 0 ∷ (x ∷ st)) 0 (spots_piece c at q ++ (begun_by b x (piece_mark q) ++ ss))) rest
  piece_walked c (one n) x st at b ss rest g =
      node_walked n (cond c 1 0) (x ∷ st) at b ss rest (λ h. omega arith)
      ∙ same_walk (at + length (encode n)) (at + length (encode n)) (cond c 1 0 ∷ (x ∷ st)) (spots at n ++ (owned (cond c 1 0) at n ++ ss)) (spots at n ++ (begun_by b x none ++ ss)) rest refl
      (ap (λ (l : List Spot). spots at n ++ (l ++ ss)) (owned_plain c at n ∙ sym (begun_none b x)))
  piece_walked c (list is) x st at b ss rest g =
      let z : suc (suc at) + length (encode_items is) ≡ at + suc (suc (length (encode_items is))) = omega arith in
      ap₂ (λ (k : ℕ) (l : List Event). W (walker (suc (suc at)) (k ∷ (cond c 1 0 ∷ (x ∷ st))) 0 ss) l) (chosen c) (append_assoc (events_items is) (closes ∷ []) rest)
      ∙ items_walked is (cond c at 0) (cond c 1 0 ∷ (x ∷ st)) (suc (suc at)) ss (closes ∷ rest) (omega arith)
      ∙ same_walk (suc (suc at) + length (encode_items is)) (at + suc (suc (length (encode_items is)))) (cond c 1 0 ∷ (x ∷ st))
      (spots_items (cond c at 0) (suc (suc at)) is ++ ss) (spots_items (cond c at 0) (suc (suc at)) is ++ (begun_by b x none ++ ss)) rest z
      (ap (λ (l : List Spot). spots_items (cond c at 0) (suc (suc at)) is ++ (l ++ ss)) (sym (begun_none b x)))
    where
      chosen : (c : Bool) → cond (eqb (cond c 1 0) 1) at 0 ≡ cond c at 0
      chosen true = refl
      chosen false = refl
  piece_walked c (text bs) x st at b ss rest g =
      same_walk (suc (suc (at + length bs))) (at + suc (suc (length bs))) (cond c 1 0 ∷ (x ∷ st)) ss (begun_by b x none ++ ss) rest (omega arith) (ap (λ (l : List Spot). l ++ ss) (sym (begun_none b x)))
  piece_walked c (byte v) x st at b ss rest g =
      same_walk (suc at) (at + 1) (cond c 1 0 ∷ (x ∷ st)) ss (begun_by b x none ++ ss) rest (omega arith) (ap (λ (l : List Spot). l ++ ss) (sym (begun_none b x)))
  piece_walked c (mark m) x st at b ss rest g =
      same_walk (suc (suc at)) (at + 2) (cond c 1 0 ∷ (x ∷ st)) (cond (ltb 0 b) (spot x b m ∷ ss) ss) (begun_by b x (some m) ++ ss) rest (omega arith) (go (ltb 0 b))
    where
      go : (t : Bool) → cond t (spot x b m ∷ ss) ss ≡ cond t (spotted x b (some m)) [] ++ ss
      go true = refl
      go false = refl
  piece_walked c (number v) x st at b ss rest g =
      same_walk (suc (suc at)) (at + 2) (cond c 1 0 ∷ (x ∷ st)) ss (begun_by b x none ++ ss) rest (omega arith) (ap (λ (l : List Spot). l ++ ss) (sym (begun_none b x)))

  items_walked : (is : Items) (x : ℕ) (st : List ℕ) (at : ℕ) (ss : List Spot) (rest : List Event) → 2 ≤ at
      → W (walker at (x ∷ st) 0 ss) (events_items is ++ rest) ≡ W (walker (at + length (encode_items is)) (x ∷ st) 0 (spots_items x at is ++ ss)) rest
  items_walked Items.none x st at ss rest g = same_walk at (at + 0) (x ∷ st) ss ss rest (omega arith) refl
  items_walked (hole is) x st at ss rest g =
      items_walked is x st (suc at) ss rest (omega arith)
      ∙ same_walk (suc at + length (encode_items is)) (at + suc (length (encode_items is))) (x ∷ st) (spots_items x (suc at) is ++ ss) (spots_items x (suc at) is ++ ss) rest (omega arith) refl
  items_walked (item n is) x st at ss rest g =
      let z : at + length (encode n) + length (encode_items is) ≡ at + length (encode n ++ encode_items is) = omega (arith, length-append (encode n) (encode_items is)) in
      ap (W (walker at (x ∷ st) 0 ss)) (append_assoc (events n) (events_items is) rest)
      ∙ node_walked n x st at 0 ss (events_items is ++ rest) (λ h. omega arith)
      ∙ items_walked is x st (at + length (encode n)) (spots at n ++ (owned x at n ++ ss)) rest (omega arith)
      ∙ same_walk (at + length (encode n) + length (encode_items is)) (at + length (encode n ++ encode_items is)) (x ∷ st)
      (spots_items x (at + length (encode n)) is ++ (spots at n ++ (owned x at n ++ ss)))
      ((spots_items x (at + length (encode n)) is ++ (spots at n ++ owned x at n)) ++ ss) rest z
      (ap (λ (l : List Spot). spots_items x (at + length (encode n)) is ++ l) (sym (append_assoc (spots at n) (owned x at n) ss))
      ∙ sym (append_assoc (spots_items x (at + length (encode n)) is) (spots at n ++ owned x at n) ss))

-- the law: from the root
pub walked : (n : Node) → folded walks (walker 0 (0 ∷ []) 0 []) (events n) ≡ walker (length (encode n)) (0 ∷ []) 0 (spots 0 n)
unfolding folded owned
walked n =
    let z : 0 + length (encode n) ≡ length (encode n) = omega arith in
    ap (W (walker 0 (0 ∷ []) 0 [])) (sym (append-nil (events n)))
    ∙ node_walked n 0 [] 0 0 [] [] (λ h. omega arith)
    ∙ same_walk (0 + length (encode n)) (length (encode n)) (0 ∷ []) (spots 0 n ++ []) (spots 0 n) [] z (append-nil (spots 0 n))
