-- unmoved: with the new statements taken out the joined tree is the tree.
-- Assumes nothing.
use Prim.Native.Nat.{ℕ, suc, ◌+◌, ◌<◌, ◌≤◌}
use mathlib.Core.Path.{◌≡◌, refl, ap, ap₂, ◌∙◌}
use mathlib.Core.List.{List, [], ◌∷◌, ◌++◌}
use mathlib.Core.Bool.{Bool, true, false, not}
use mathlib.Core.Option.{Option, none, some}
use native.Mathlib.Omega.{arith}
use lib.ListN.{length}
use borrow.Author.Tests.{eq-eqb, lt-ltb}
use Rattle.tree.specs.Tree.{Node, Fields, Piece, Items, marks, marks_fields, marks_piece, marks_items}
use Rattle.tree.specs.Tree.Node.{node}
use Rattle.tree.specs.Tree.Fields.{done, absent, field}
use Rattle.tree.specs.Tree.Piece.{one, list, text, byte, mark, number}
use Rattle.tree.specs.Tree.Items.{hole, item}
use Rattle.tree.specs.Grammar.{among}
use Rattle.lowering.specs.Collect.{Entry}
use Rattle.joining.specs.List.{Handed, inner_marks}
use Rattle.joining.specs.Answer.{taken}
use Rattle.joining.specs.Join.{is_container, first_mark, own_mark, declaration, before, vars, news, news_fields, news_piece, news_items, join, join_fields, join_piece, join_items, fresh, headed, joined_by, joined_tree}
use Rattle.joining.specs.Without.{is_new, without, without_fields, without_piece, without_items}
use Rattle.joining.specs.Files.{times}
use Rattle.joining.proofs.Times.{times_append, among_times}
use Rattle.joining.proofs.JoinedWritten.{Program}
use Rattle.joining.proofs.Fresh.{fresh_lowest, fresh_below}

-- a tree's own mark is one of its marks
first_in : (fs : Fields) (m : ℕ) → first_mark fs ≡ some m → 0 < times m (marks_fields fs)
unfolding first_mark marks_fields marks_piece times
first_in done m e = let z : ◌≡◌ {A = ℕ} 0 1 = cc in absurd (omega arith)
first_in (absent fs) m e = first_in fs m e
first_in (field (one n) fs) m e = let z : ◌≡◌ {A = ℕ} 0 1 = cc in absurd (omega arith)
first_in (field (list is) fs) m e = let z : ◌≡◌ {A = ℕ} 0 1 = cc in absurd (omega arith)
first_in (field (text bs) fs) m e = let z : ◌≡◌ {A = ℕ} 0 1 = cc in absurd (omega arith)
first_in (field (byte b) fs) m e = let z : ◌≡◌ {A = ℕ} 0 1 = cc in absurd (omega arith)
first_in (field (mark k) fs) m e = let same : k ≡ m = cc in rw (same, eq-eqb m m refl) (omega arith)
first_in (field (number k) fs) m e = let z : ◌≡◌ {A = ℕ} 0 1 = cc in absurd (omega arith)

module _ (free : ℕ → ℕ) (es : List Entry) (new : ℕ → Bool) where
  abbrev pub Old : List ℕ → Type 0
  Old ms = (x : ℕ) → 0 < times x ms → new x ≡ false

  abbrev pub New : ℕ → ℕ → Type 0
  New i k = (j : ℕ) → i ≤ j → j < i + k → new (free j) ≡ true

  pub old_left : (a b : List ℕ) → Old (a ++ b) → Old a
  old_left a b h x g = h x (omega (arith, times_append x a b))

  pub old_right : (a b : List ℕ) → Old (a ++ b) → Old b
  old_right a b h x g = h x (omega (arith, times_append x a b))

  -- the `var`s go
  vars_out : (ds : List Items) (i : ℕ) (is : Items) → New i (length ds) → without_items new (vars free es i ds is) ≡ without_items new is
  unfolding vars without_items first_mark
  vars_out [] i is h = refl
  vars_out (d ∷ ds) i is h =
      rw (h i (omega arith) (omega arith)) (vars_out ds (suc i) is (λ j a b. h j (omega arith) (omega arith)))

  -- the own mark stays
  first_joined : (c : Bool) (i : ℕ) (fs : Fields) → first_mark (join_fields free es c i fs) ≡ first_mark fs
  unfolding first_mark join_fields join_piece
  first_joined c i done = refl
  first_joined c i (absent fs) = first_joined c i fs
  first_joined c i (field (one n) fs) = refl
  first_joined c i (field (list is) fs) = refl
  first_joined c i (field (text bs) fs) = refl
  first_joined c i (field (byte b) fs) = refl
  first_joined c i (field (mark m) fs) = refl
  first_joined c i (field (number m) fs) = refl

  pub own_joined : (i : ℕ) (n : Node) → own_mark (join free es i n) ≡ own_mark n
  unfolding join
  own_joined i (node at kind fs) = first_joined (is_container kind) i fs

  pub own_old : (n : Node) → Old (marks n) → is_new new (own_mark n) ≡ false
  unfolding marks
  own_old (node at kind fs) h = go (first_mark fs) refl
    where
      go : (o : Option ℕ) → first_mark fs ≡ o → is_new new (first_mark fs) ≡ false
      go none e = rw e refl
      go (some m) e = rw e (h m (first_in fs m e))

  mutual
    unfolding without without_fields without_piece without_items join join_fields join_piece join_items news news_fields news_piece news_items marks marks_fields marks_piece marks_items

    pub node_out : (n : Node) (i : ℕ) → Old (marks n) → New i (news free es n) → without new (join free es i n) ≡ n
    node_out (node at kind fs) i o h = ap (node at kind) (fields_out (is_container kind) fs i o h)

    fields_out : (c : Bool) (fs : Fields) (i : ℕ) → Old (marks_fields fs) → New i (news_fields free es c fs) → without_fields new (join_fields free es c i fs) ≡ fs
    fields_out c done i o h = refl
    fields_out c (absent fs) i o h = ap absent (fields_out c fs i o h)
    fields_out c (field p fs) i o h =
        ap₂ (λ (x : Piece) (y : Fields). field x y)
        (piece_out c p i (old_left (marks_piece p) (marks_fields fs) o) (λ j a b. h j a (omega arith)))
        (fields_out c fs (i + news_piece free es c p) (old_right (marks_piece p) (marks_fields fs) o) (λ j a b. h j (omega arith) (omega arith)))

    piece_out : (c : Bool) (p : Piece) (i : ℕ) → Old (marks_piece p) → New i (news_piece free es c p) → without_piece new (join_piece free es c i p) ≡ p
    piece_out c (one n) i o h = ap one (node_out n i o h)
    piece_out c (list is) i o h = ap list (items_out c is i o h)
    piece_out c (text bs) i o h = refl
    piece_out c (byte b) i o h = refl
    piece_out c (mark m) i o h = refl
    piece_out c (number m) i o h = refl

    items_out : (c : Bool) (is : Items) (i : ℕ) → Old (marks_items is) → New i (news_items free es c is) → without_items new (join_items free es c i is) ≡ is
    items_out c Items.none i o h = refl
    items_out c (hole is) i o h = ap hole (items_out c is i o h)
    items_out c (item n is) i o h =
        vars_out (before free es c n) i (item (join free es (i + length (before free es c n)) n) (join_items free es c (i + length (before free es c n) + news free es n) is)) (λ j a b. h j a (omega arith))
        ∙ rw (own_joined (i + length (before free es c n)) n, own_old n (old_left (marks n) (marks_items is) o))
        (ap₂ (λ (x : Node) (y : Items). item x y)
        (node_out n (i + length (before free es c n)) (old_left (marks n) (marks_items is) o) (λ j a b. h j (omega arith) (omega arith)))
        (items_out c is (i + length (before free es c n) + news free es n) (old_right (marks n) (marks_items is) o) (λ j a b. h j (omega arith) (omega arith))))

-- ---- the joined tree

-- what is not taken
abbrev pub untaken : List ℕ → ℕ → Bool
untaken ms m = not (among ms m)

pub given_new : (ms : List ℕ) (k : ℕ) → length ms + k < 65535 → (j : ℕ) → j < k → untaken ms (fresh ms j) ≡ true
given_new ms k h j g =
    let b : fresh ms j ≤ length ms + suc j = fresh_below ms j in
    ap not ((fresh_lowest ms j).free (omega arith)).1

pub marks_old : (n : Node) (h : Handed) (x : ℕ) → 0 < times x (marks n) → untaken (taken n h) x ≡ false
unfolding taken
marks_old n h x g = ap not (among_times x (marks n ++ inner_marks h) ∙ lt-ltb 0 (times x (marks n ++ inner_marks h)) (omega (arith, times_append x (marks n) (inner_marks h))))

head_out : (ms : List ℕ) (es : List Entry) (at : ℕ) (is ds : Items) → length ms + suc (news (fresh ms) es (node at 1 (field (list is) done))) < 65535 → ((x : ℕ) → 0 < times x (marks (node at 1 (field (list is) done))) → untaken ms x ≡ false)
    → without (untaken ms) (headed (declaration 3 (fresh ms 0) ds) (join (fresh ms) es 1 (node at 1 (field (list is) done)))) ≡ node at 1 (field (list is) done)
unfolding without join first_mark
head_out ms es at is ds few old =
    rw (given_new ms 1 (omega arith) 0 (omega arith))
    (node_out (fresh ms) es (untaken ms) (node at 1 (field (list is) done)) 1 old (λ j a b. given_new ms (suc (news (fresh ms) es (node at 1 (field (list is) done)))) few j (omega arith)))

-- the law, as long as there are marks enough: with what is not taken left out, the joined tree is the tree
pub unmoved : (n : Node) (h : Handed) → Program n → length (taken n h) + suc (news (fresh (taken n h)) h.entries n) < 65535 → without (untaken (taken n h)) (joined_tree (taken n h) n h) ≡ n
unfolding joined_tree
unmoved n h p few = go h.excluded
  where
    led : (ds : Items) → without (untaken (taken n h)) (headed (declaration 3 (fresh (taken n h) 0) ds) (join (fresh (taken n h)) h.entries 1 n)) ≡ n
    led ds = moved n p.is (marks_old n h) few
      where
        moved : (m : Node) → m ≡ node p.at 1 (field (list p.body) done) → ((x : ℕ) → 0 < times x (marks m) → untaken (taken n h) x ≡ false) → length (taken n h) + suc (news (fresh (taken n h)) h.entries m) < 65535
            → without (untaken (taken n h)) (headed (declaration 3 (fresh (taken n h) 0) ds) (join (fresh (taken n h)) h.entries 1 m)) ≡ m
        moved m e = rw e (λ old less. head_out (taken n h) h.entries p.at p.body ds less old)

    go : (ds : Items) → without (untaken (taken n h)) (joined_by (fresh (taken n h)) h.entries ds n) ≡ n
    go Items.none = node_out (fresh (taken n h)) h.entries (untaken (taken n h)) n 0 (marks_old n h) (λ j a b. given_new (taken n h) (suc (news (fresh (taken n h)) h.entries n)) few j (omega arith))
    go (hole ds) = led (hole ds)
    go (item d ds) = led (item d ds)
