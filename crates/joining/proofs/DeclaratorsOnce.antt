-- declarators-once: the declarators of the new statements are the list's, each once and in order; unmoved for whatever is read.
-- Assumes nothing.
use Prim.Native.Nat.{ℕ, suc, ◌+◌, ◌*◌, ◌<◌, ◌≤◌}
use mathlib.Core.Path.{◌≡◌, refl, sym, ap, ap₂, ◌∙◌}
use mathlib.Core.List.{List, [], ◌∷◌, ◌++◌, append_assoc, append-nil}
use mathlib.Core.Bool.{Bool, true, false, cond}
use mathlib.Core.Option.{Option, none, some}
use native.Mathlib.Omega.{arith}
use lib.ListN.{length, length-append}
use borrow.Author.Tests.{eq-eqb, ne_eqb, ltb-true}
use Rattle.tree.specs.Tree.{Node, Fields, Piece, Items, encode, marks, marks_fields, marks_piece, marks_items}
use Rattle.tree.specs.Tree.Node.{node}
use Rattle.tree.specs.Tree.Fields.{done, absent, field}
use Rattle.tree.specs.Tree.Piece.{one, list, text, byte, mark, number}
use Rattle.tree.specs.Tree.Items.{hole, item}
use Rattle.tree.specs.Grammar.{among}
use Rattle.tree.specs.WellFormed.{Bytes}
use Rattle.tree.specs.Read.Got.{got}
use Rattle.tree.proofs.Sound.{never}
use Rattle.rewritten.specs.Rewritten.{read_rewritten}
use Rattle.rewritten.proofs.RewrittenExact.{rewritten_sound}
use Rattle.rewritten.proofs.Marks.{by_same}
use Rattle.lowering.specs.Collect.{Entry, over}
use Rattle.lowering.proofs.ItemLaws.{over_append}
use Rattle.equal.specs.Equal.{list_encoded}
use Rattle.joining.specs.List.{Handed, read_handed, inner_marks}
use Rattle.joining.specs.Answer.{taken, all_found_of}
use Rattle.joining.specs.Join.{is_container, first_mark, found_by, as_list, found, found_fields, found_piece, found_items, declaration, handed_to, handed_by, before, vars, news, news_fields, news_piece, news_items, join, join_fields, join_piece, join_items, fresh, headed, joined_by, joined_tree}
use Rattle.joining.specs.Without.{lists_in, if_any, without, declared, declared_fields, declared_piece, declared_items}
use Rattle.joining.specs.Files.{times}
use Rattle.joining.proofs.Times.{among_times, distinct_once}
use Rattle.joining.proofs.Settling.{all_found}
use Rattle.joining.proofs.JoinedWritten.{Program, program}
use Rattle.joining.proofs.Unmoved.{Old, New, old_left, old_right, own_joined, own_old, untaken, given_new, marks_old, unmoved}
use Rattle.tree.proofs.EncodedLengths.{marks_long}
use Rattle.joining.proofs.Exact.{list_sound, list_long}

-- ---- how many there are

-- an entry is handed to as many statements as have its mark
entry_more : (e : Entry) (es : List Entry) (ms : List ℕ) → length (over (handed_to (e ∷ es)) ms) ≡ times e.containing ms + length (over (handed_to es) ms)
unfolding over handed_to times
entry_more e es [] = refl
entry_more e es (m ∷ ms) =
    let rest : length (over (handed_to (e ∷ es)) ms) ≡ times e.containing ms + length (over (handed_to es) ms) = entry_more e es ms in
    by_same e.containing m
    (λ w. rw (eq-eqb e.containing m w, eq-eqb m e.containing (sym w)) (omega (arith, length-append (handed_to es m) (over (handed_to (e ∷ es)) ms), length-append (handed_to es m) (over (handed_to es) ms))))
    (λ d. rw (ne_eqb e.containing m d, ne_eqb m e.containing (λ w. d (sym w))) (omega (arith, length-append (handed_to es m) (over (handed_to (e ∷ es)) ms), length-append (handed_to es m) (over (handed_to es) ms))))

entry_none : (ms : List ℕ) → length (over (handed_to []) ms) ≡ 0
unfolding over handed_to
entry_none [] = refl
entry_none (m ∷ ms) = entry_none ms

-- no more than entries, if no mark stands twice
pub handed_most : (es : List Entry) (ms : List ℕ) → ((x : ℕ) → times x ms ≤ 1) → length (over (handed_to es) ms) ≤ length es
handed_most [] ms once = let z : length (over (handed_to []) ms) ≡ 0 = entry_none ms in omega arith
handed_most (e ∷ es) ms once =
    let o : times e.containing ms ≤ 1 = once e.containing in
    let r : length (over (handed_to es) ms) ≤ length es = handed_most es ms once in
    omega (arith, entry_more e es ms)

-- as many as entries, if all are found
pub handed_all : (es : List Entry) (ms : List ℕ) → ((x : ℕ) → times x ms ≤ 1) → all_found_of ms es ≡ true → length (over (handed_to es) ms) ≡ length es
unfolding all_found_of
handed_all [] ms once f = entry_none ms
handed_all (e ∷ es) ms once f = go (among ms e.containing) refl f (λ g. handed_all es ms once g)
  where
    go : (b : Bool) → among ms e.containing ≡ b → cond b (all_found_of ms es) false ≡ true → (all_found_of ms es ≡ true → length (over (handed_to es) ms) ≡ length es) → length (over (handed_to (e ∷ es)) ms) ≡ suc (length es)
    go true w g later =
        let o : times e.containing ms ≤ 1 = once e.containing in
        let i : 0 < times e.containing ms = ltb-true 0 (times e.containing ms) (sym (among_times e.containing ms) ∙ w) in
        let r : length (over (handed_to es) ms) ≡ length es = later g in
        omega (arith, entry_more e es ms)
    go false w g later = never g

-- ---- which they are

module _ (free : ℕ → ℕ) (es : List Entry) where
  pub own_handed : (c : Bool) (n : Node) → over (handed_to es) (as_list (found_by c n)) ≡ before free es c n
  unfolding over
  own_handed c n = go (found_by c n)
    where
      go : (o : Option ℕ) → over (handed_to es) (as_list o) ≡ handed_by es o
      go none = refl
      go (some m) = append-nil (handed_to es m)

  items_split : (c : Bool) (n : Node) (is : Items) → over (handed_to es) ((as_list (found_by c n) ++ found n) ++ found_items c is) ≡ before free es c n ++ (over (handed_to es) (found n) ++ over (handed_to es) (found_items c is))
  items_split c n is =
      over_append (handed_to es) (as_list (found_by c n) ++ found n) (found_items c is)
      ∙ ap (λ (x : List Items). x ++ over (handed_to es) (found_items c is)) (over_append (handed_to es) (as_list (found_by c n)) (found n) ∙ ap (λ (x : List Items). x ++ over (handed_to es) (found n)) (own_handed c n))
      ∙ append_assoc (before free es c n) (over (handed_to es) (found n)) (over (handed_to es) (found_items c is))

  -- how many statements are new
  mutual
    unfolding news news_fields news_piece news_items found found_fields found_piece found_items over

    pub news_are : (n : Node) → news free es n ≡ length (over (handed_to es) (found n))
    news_are (node at kind fs) = news_fields_lem (is_container kind) fs

    news_fields_lem : (c : Bool) (fs : Fields) → news_fields free es c fs ≡ length (over (handed_to es) (found_fields c fs))
    news_fields_lem c done = refl
    news_fields_lem c (absent fs) = news_fields_lem c fs
    news_fields_lem c (field p fs) =
        let a : news_piece free es c p ≡ length (over (handed_to es) (found_piece c p)) = news_piece_lem c p in
        let b : news_fields free es c fs ≡ length (over (handed_to es) (found_fields c fs)) = news_fields_lem c fs in
        omega (arith, ap length (over_append (handed_to es) (found_piece c p) (found_fields c fs)), length-append (over (handed_to es) (found_piece c p)) (over (handed_to es) (found_fields c fs)))

    news_piece_lem : (c : Bool) (p : Piece) → news_piece free es c p ≡ length (over (handed_to es) (found_piece c p))
    news_piece_lem c (one n) = news_are n
    news_piece_lem c (list is) = news_items_lem c is
    news_piece_lem c (text bs) = refl
    news_piece_lem c (byte b) = refl
    news_piece_lem c (mark m) = refl
    news_piece_lem c (number m) = refl

    news_items_lem : (c : Bool) (is : Items) → news_items free es c is ≡ length (over (handed_to es) (found_items c is))
    news_items_lem c Items.none = refl
    news_items_lem c (hole is) = news_items_lem c is
    news_items_lem c (item n is) =
        let a : news free es n ≡ length (over (handed_to es) (found n)) = news_are n in
        let b : news_items free es c is ≡ length (over (handed_to es) (found_items c is)) = news_items_lem c is in
        omega (arith, ap length (items_split c n is), length-append (before free es c n) (over (handed_to es) (found n) ++ over (handed_to es) (found_items c is)), length-append (over (handed_to es) (found n)) (over (handed_to es) (found_items c is)))

  module _ (new : ℕ → Bool) where
    vars_declared : (ds : List Items) (i : ℕ) (is : Items) → New free es new i (length ds) → declared_items new (vars free es i ds is) ≡ ds ++ declared_items new is
    unfolding vars declared_items first_mark lists_in
    vars_declared [] i is h = refl
    vars_declared (d ∷ ds) i is h =
        rw (h i (omega arith) (omega arith)) (ap (λ (x : List Items). d ∷ x) (vars_declared ds (suc i) is (λ j a b. h j (omega arith) (omega arith))))

    mutual
      unfolding declared declared_fields declared_piece declared_items join join_fields join_piece join_items news news_fields news_piece news_items marks marks_fields marks_piece marks_items found found_fields found_piece found_items over

      pub node_declared : (n : Node) (i : ℕ) → Old free es new (marks n) → New free es new i (news free es n) → declared new (join free es i n) ≡ over (handed_to es) (found n)
      node_declared (node at kind fs) i o h = fields_declared (is_container kind) fs i o h

      fields_declared : (c : Bool) (fs : Fields) (i : ℕ) → Old free es new (marks_fields fs) → New free es new i (news_fields free es c fs) → declared_fields new (join_fields free es c i fs) ≡ over (handed_to es) (found_fields c fs)
      fields_declared c done i o h = refl
      fields_declared c (absent fs) i o h = fields_declared c fs i o h
      fields_declared c (field p fs) i o h =
          ap₂ (λ (x y : List Items). x ++ y)
          (piece_declared c p i (old_left free es new (marks_piece p) (marks_fields fs) o) (λ j a b. h j a (omega arith)))
          (fields_declared c fs (i + news_piece free es c p) (old_right free es new (marks_piece p) (marks_fields fs) o) (λ j a b. h j (omega arith) (omega arith)))
          ∙ sym (over_append (handed_to es) (found_piece c p) (found_fields c fs))

      piece_declared : (c : Bool) (p : Piece) (i : ℕ) → Old free es new (marks_piece p) → New free es new i (news_piece free es c p) → declared_piece new (join_piece free es c i p) ≡ over (handed_to es) (found_piece c p)
      piece_declared c (one n) i o h = node_declared n i o h
      piece_declared c (list is) i o h = items_declared c is i o h
      piece_declared c (text bs) i o h = refl
      piece_declared c (byte b) i o h = refl
      piece_declared c (mark m) i o h = refl
      piece_declared c (number m) i o h = refl

      items_declared : (c : Bool) (is : Items) (i : ℕ) → Old free es new (marks_items is) → New free es new i (news_items free es c is) → declared_items new (join_items free es c i is) ≡ over (handed_to es) (found_items c is)
      items_declared c Items.none i o h = refl
      items_declared c (hole is) i o h = items_declared c is i o h
      items_declared c (item n is) i o h =
          let k : ℕ = i + length (before free es c n) in
          vars_declared (before free es c n) i (item (join free es (i + length (before free es c n)) n) (join_items free es c (i + length (before free es c n) + news free es n) is)) (λ j a b. h j a (omega arith))
          ∙ rw (own_joined free es new (i + length (before free es c n)) n, own_old free es new n (old_left free es new (marks n) (marks_items is) o))
          (ap₂ (λ (x y : List Items). before free es c n ++ (x ++ y))
          (node_declared n (i + length (before free es c n)) (old_left free es new (marks n) (marks_items is) o) (λ j a b. h j (omega arith) (omega arith)))
          (items_declared c is (i + length (before free es c n) + news free es n) (old_right free es new (marks n) (marks_items is) o) (λ j a b. h j (omega arith) (omega arith)))
          ∙ sym (items_split c n is))

-- ---- the joined tree

head_declared : (ms : List ℕ) (es : List Entry) (at : ℕ) (is ds : Items) → length ms + suc (news (fresh ms) es (node at 1 (field (list is) done))) < 65535 → ((x : ℕ) → 0 < times x (marks (node at 1 (field (list is) done))) → untaken ms x ≡ false)
    → declared (untaken ms) (headed (declaration 3 (fresh ms 0) ds) (join (fresh ms) es 1 (node at 1 (field (list is) done)))) ≡ ds ∷ over (handed_to es) (found (node at 1 (field (list is) done)))
unfolding declared declared_fields declared_piece declared_items join join_fields join_piece first_mark lists_in
head_declared ms es at is ds few old =
    rw (given_new ms 1 (omega arith) 0 (omega arith))
    (ap (λ (x : List Items). ds ∷ x) (node_declared (fresh ms) es (untaken ms) (node at 1 (field (list is) done)) 1 old (λ j a b. given_new ms (suc (news (fresh ms) es (node at 1 (field (list is) done)))) few j (omega arith))))

tree_declared : (n : Node) (h : Handed) → Program n → length (taken n h) + suc (news (fresh (taken n h)) h.entries n) < 65535 → declared (untaken (taken n h)) (joined_tree (taken n h) n h) ≡ if_any h.excluded ++ over (handed_to h.entries) (found n)
unfolding joined_tree
tree_declared n h p few = go h.excluded
  where
    led : (ds : Items) → declared (untaken (taken n h)) (headed (declaration 3 (fresh (taken n h) 0) ds) (join (fresh (taken n h)) h.entries 1 n)) ≡ ds ∷ over (handed_to h.entries) (found n)
    led ds = moved n p.is (marks_old n h) few
      where
        moved : (m : Node) → m ≡ node p.at 1 (field (list p.body) done) → ((x : ℕ) → 0 < times x (marks m) → untaken (taken n h) x ≡ false) → length (taken n h) + suc (news (fresh (taken n h)) h.entries m) < 65535
            → declared (untaken (taken n h)) (headed (declaration 3 (fresh (taken n h) 0) ds) (join (fresh (taken n h)) h.entries 1 m)) ≡ ds ∷ over (handed_to h.entries) (found m)
        moved m e = rw e (λ old less. head_declared (taken n h) h.entries p.at p.body ds less old)

    go : (ds : Items) → declared (untaken (taken n h)) (joined_by (fresh (taken n h)) h.entries ds n) ≡ if_any ds ++ over (handed_to h.entries) (found n)
    go Items.none = node_declared (fresh (taken n h)) h.entries (untaken (taken n h)) n 0 (marks_old n h) (λ j a b. given_new (taken n h) (suc (news (fresh (taken n h)) h.entries n)) few j (omega arith))
    go (hole ds) = led (hole ds)
    go (item d ds) = led (item d ds)

-- ---- whatever is read

bounded : (n : Node) (h : Handed) → length (encode n) ≤ 32768 → length (list_encoded h.entries h.excluded) ≤ 16384 → ((z : ℕ) → times z (found n) ≤ 1) → length (taken n h) + suc (news (fresh (taken n h)) h.entries n) < 65535
unfolding taken
bounded n h t u once =
    let m : 2 * length (marks n) ≤ length (encode n) = marks_long n in
    let i : 2 * length (inner_marks h) + 4 * length h.entries ≤ length (list_encoded h.entries h.excluded) = list_long h in
    let c : length (over (handed_to h.entries) (found n)) ≤ length h.entries = handed_most h.entries (found n) once in
    let v : news (fresh (marks n ++ inner_marks h)) h.entries n ≡ length (over (handed_to h.entries) (found n)) = news_are (fresh (marks n ++ inner_marks h)) h.entries n in
    omega (arith, length-append (marks n) (inner_marks h))

-- a tree and a list that were read: the marks are enough, and nothing moves
pub record Placed (bytes : List ℕ) (n : Node) (h : Handed) : Type 0 where
  pub program : Program n
  pub enough : length (taken n h) + suc (news (fresh (taken n h)) h.entries n) < 65535
  pub once : (x : ℕ) → times x (found n) ≤ 1
  -- with the new statements taken out it is the tree, byte for byte
  pub unmoved' : encode (without (untaken (taken n h)) (joined_tree (taken n h) n h)) ≡ bytes
  -- the new statements declare the excluded keys, then what each statement is handed, in list order
  pub declarators : declared (untaken (taken n h)) (joined_tree (taken n h) n h) ≡ if_any h.excluded ++ over (handed_to h.entries) (found n)
  -- which is as many as there are entries
  pub every : all_found_of (found n) h.entries ≡ true → length (over (handed_to h.entries) (found n)) ≡ length h.entries

-- the law
pub declarators_once : (bytes l : List ℕ) (n : Node) (q k : ℕ) (h : Handed) (p j : ℕ) → Bytes bytes → Bytes l → read_rewritten bytes ≡ got n q k → read_handed l ≡ got h p j → Placed bytes n h
declarators_once bytes l n q k h p j x y e f =
    let a = rewritten_sound bytes n q k x e in
    let s = list_sound l y h p j f in
    let program' : Program n = program n a.tree.formed.fits in
    let once' : (z : ℕ) → times z (found n) ≤ 1 = λ z. let i : times z (found n) ≤ times z (marks n) = all_found z n in let o : times z (marks n) ≤ 1 = distinct_once (marks n) a.tree.apart z in omega arith in
    let few : length (taken n h) + suc (news (fresh (taken n h)) h.entries n) < 65535 = bounded n h a.tree.formed.short s.fits.short once' in
    record {
      program = program';
      enough = few;
      once = once';
      unmoved' = ap encode (unmoved n h program' few) ∙ a.bytes;
      declarators = tree_declared n h program' few;
      every = λ g. handed_all h.entries (found n) once' g;
    }
