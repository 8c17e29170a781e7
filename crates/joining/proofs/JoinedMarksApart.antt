-- The marks of the joined tree are distinct.
-- Assumes nothing.
use Prim.Native.Nat.{ℕ, zero, suc, ◌+◌, ◌<◌, ◌≤◌}
use mathlib.Core.Path.{◌≡◌, refl, sym, ap, subst, ◌∙◌}
use mathlib.Core.List.{List, [], ◌∷◌, ◌++◌}
use mathlib.Core.Bool.{Bool, true, cond, not}
use native.Mathlib.Omega.{arith}
use native.Mathlib.Decide.{dec_lt}
use lib.Dec.{eqb}
use lib.ListN.{length}
use borrow.Author.Tests.{eq-eqb, ne_eqb, lt-ltb}
use Rattle.tree.specs.Tree.{Node, Fields, Piece, Items, marks, marks_fields, marks_piece, marks_items}
use Rattle.tree.specs.Tree.Node.{node}
use Rattle.tree.specs.Tree.Fields.{done, absent, field}
use Rattle.tree.specs.Tree.Piece.{one, list, text, byte, mark, number}
use Rattle.tree.specs.Tree.Items.{hole, item}
use Rattle.tree.specs.Grammar.{among}
use Rattle.tree.proofs.Sound.{never}
use Rattle.rewritten.specs.Rewritten.{distinct}
use Rattle.rewritten.proofs.Marks.{by_same}
use Rattle.lowering.specs.Collect.{Entry, over}
use Rattle.lowering.proofs.ItemLaws.{over_append}
use Rattle.joining.specs.List.{Handed, inner_marks}
use Rattle.joining.specs.Answer.{taken}
use Rattle.joining.specs.Join.{is_container, found_by, as_list, found, found_fields, found_piece, found_items, declaration, handed_to, before, vars, news, news_fields, news_piece, news_items, join, join_fields, join_piece, join_items, fresh, headed, joined_by, joined_tree}
use Rattle.joining.specs.Files.{times}
use Rattle.joining.proofs.Times.{times_append, among_times, distinct_once, once_distinct}
use Rattle.joining.proofs.JoinedWritten.{Program}
use Rattle.joining.proofs.Fresh.{fresh_lowest, fresh_below}
use Rattle.joining.proofs.Unmoved.{untaken, given_new}
use Rattle.joining.proofs.DeclaratorsOnce.{own_handed}

-- the marks that are given, from the i-th on
unfoldable pub run : (ℕ → ℕ) → ℕ → ℕ → List ℕ
run free i zero = []
run free i (suc k) = free i ∷ run free (suc i) k

run_split : (free : ℕ → ℕ) (x i a b : ℕ) → times x (run free i (a + b)) ≡ times x (run free i a) + times x (run free (i + a) b)
unfolding run times
run_split free x i zero b =
    let none' : 0 + b ≡ b = omega arith in
    let here : i + 0 ≡ i = omega arith in
    let k : times x (run free i (0 + b)) ≡ times x (run free i b) = ap (λ (n : ℕ). times x (run free i n)) none' in
    let l : times x (run free (i + 0) b) ≡ times x (run free i b) = ap (λ (n : ℕ). times x (run free n b)) here in
    omega arith
run_split free x i (suc a) b =
    let more : suc a + b ≡ suc (a + b) = omega arith in
    let here : i + suc a ≡ suc i + a = omega arith in
    let r : times x (run free (suc i) (a + b)) ≡ times x (run free (suc i) a) + times x (run free (suc i + a) b) = run_split free x (suc i) a b in
    let k : times x (run free i (suc a + b)) ≡ times x (run free i (suc (a + b))) = ap (λ (n : ℕ). times x (run free i n)) more in
    let l : times x (run free (i + suc a) b) ≡ times x (run free (suc i + a) b) = ap (λ (n : ℕ). times x (run free n b)) here in
    omega arith

-- ---- how often a mark stands in the joined tree

module _ (x : ℕ) where
  -- among the declarators of some lists
  abbrev within : List Items → ℕ
  within ds = times x (over marks_items ds)

  within_append : (a b : List Items) → within (a ++ b) ≡ within a + within b
  within_append a b = ap (times x) (over_append marks_items a b) ∙ times_append x (over marks_items a) (over marks_items b)

  module _ (free : ℕ → ℕ) (es : List Entry) where
    -- among those that statements with these marks are handed
    abbrev given : List ℕ → ℕ
    given ms = within (over (handed_to es) ms)

    given_append : (a b : List ℕ) → given (a ++ b) ≡ given a + given b
    given_append a b = ap within (over_append (handed_to es) a b) ∙ within_append (over (handed_to es) a) (over (handed_to es) b)

    given_own : (c : Bool) (n : Node) → given (as_list (found_by c n)) ≡ within (before free es c n)
    given_own c n = ap within (own_handed free es c n)

    vars_marks : (ds : List Items) (i : ℕ) (is : Items) → times x (marks_items (vars free es i ds is)) ≡ times x (run free i (length ds)) + (within ds + times x (marks_items is))
    unfolding vars marks marks_fields marks_piece marks_items run times over
    vars_marks [] i is = omega arith
    vars_marks (d ∷ ds) i is =
        let r : times x (marks_items (vars free es (suc i) ds is)) ≡ times x (run free (suc i) (length ds)) + (within ds + times x (marks_items is)) = vars_marks ds (suc i) is in
        omega (arith, times_append x (marks_items d ++ []) (marks_items (vars free es (suc i) ds is)), times_append x (marks_items d) [], times_append x (marks_items d) (over marks_items ds))

    mutual
      unfolding join join_fields join_piece join_items news news_fields news_piece news_items marks marks_fields marks_piece marks_items found found_fields found_piece found_items over run times

      pub node_marks : (n : Node) (i : ℕ) → times x (marks (join free es i n)) ≡ times x (marks n) + (times x (run free i (news free es n)) + given (found n))
      node_marks (node at kind fs) i = fields_marks (is_container kind) fs i

      fields_marks : (c : Bool) (fs : Fields) (i : ℕ) → times x (marks_fields (join_fields free es c i fs)) ≡ times x (marks_fields fs) + (times x (run free i (news_fields free es c fs)) + given (found_fields c fs))
      fields_marks c done i = refl
      fields_marks c (absent fs) i = fields_marks c fs i
      fields_marks c (field p fs) i =
          let a : times x (marks_piece (join_piece free es c i p)) ≡ times x (marks_piece p) + (times x (run free i (news_piece free es c p)) + given (found_piece c p)) = piece_marks c p i in
          let b : times x (marks_fields (join_fields free es c (i + news_piece free es c p) fs)) ≡ times x (marks_fields fs) + (times x (run free (i + news_piece free es c p) (news_fields free es c fs)) + given (found_fields c fs)) = fields_marks c fs (i + news_piece free es c p) in
          let g : given (found_piece c p ++ found_fields c fs) ≡ given (found_piece c p) + given (found_fields c fs) = given_append (found_piece c p) (found_fields c fs) in
          omega (arith, times_append x (marks_piece (join_piece free es c i p)) (marks_fields (join_fields free es c (i + news_piece free es c p) fs)), times_append x (marks_piece p) (marks_fields fs), run_split free x i (news_piece free es c p) (news_fields free es c fs))

      piece_marks : (c : Bool) (p : Piece) (i : ℕ) → times x (marks_piece (join_piece free es c i p)) ≡ times x (marks_piece p) + (times x (run free i (news_piece free es c p)) + given (found_piece c p))
      piece_marks c (one n) i = node_marks n i
      piece_marks c (list is) i = items_marks c is i
      piece_marks c (text bs) i = refl
      piece_marks c (byte b) i = refl
      piece_marks c (mark m) i = omega arith
      piece_marks c (number m) i = refl

      items_marks : (c : Bool) (is : Items) (i : ℕ) → times x (marks_items (join_items free es c i is)) ≡ times x (marks_items is) + (times x (run free i (news_items free es c is)) + given (found_items c is))
      items_marks c Items.none i = refl
      items_marks c (hole is) i = items_marks c is i
      items_marks c (item n is) i =
          let j : ℕ = length (before free es c n) in
          let a : times x (marks (join free es (i + length (before free es c n)) n)) ≡ times x (marks n) + (times x (run free (i + length (before free es c n)) (news free es n)) + given (found n)) = node_marks n (i + length (before free es c n)) in
          let b : times x (marks_items (join_items free es c (i + length (before free es c n) + news free es n) is)) ≡ times x (marks_items is) + (times x (run free (i + length (before free es c n) + news free es n) (news_items free es c is)) + given (found_items c is)) = items_marks c is (i + length (before free es c n) + news free es n) in
          let v = vars_marks (before free es c n) i (item (join free es (i + length (before free es c n)) n) (join_items free es c (i + length (before free es c n) + news free es n) is)) in
          let g : given ((as_list (found_by c n) ++ found n) ++ found_items c is) ≡ given (as_list (found_by c n) ++ found n) + given (found_items c is) = given_append (as_list (found_by c n) ++ found n) (found_items c is) in
          let h : given (as_list (found_by c n) ++ found n) ≡ given (as_list (found_by c n)) + given (found n) = given_append (as_list (found_by c n)) (found n) in
          let o : given (as_list (found_by c n)) ≡ within (before free es c n) = given_own c n in
          let r : times x (run free i (length (before free es c n) + (news free es n + news_items free es c is))) ≡ times x (run free i (length (before free es c n))) + times x (run free (i + length (before free es c n)) (news free es n + news_items free es c is)) = run_split free x i (length (before free es c n)) (news free es n + news_items free es c is) in
          let s : times x (run free (i + length (before free es c n)) (news free es n + news_items free es c is)) ≡ times x (run free (i + length (before free es c n)) (news free es n)) + times x (run free (i + length (before free es c n) + news free es n) (news_items free es c is)) = run_split free x (i + length (before free es c n)) (news free es n) (news_items free es c is) in
          omega (arith, v, times_append x (marks (join free es (i + length (before free es c n)) n)) (marks_items (join_items free es c (i + length (before free es c n) + news free es n) is)), times_append x (marks n) (marks_items is))

  -- ---- no more often than in the list

  entry_gone : (free : ℕ → ℕ) (e : Entry) (es : List Entry) (ms : List ℕ) → times e.containing ms ≡ 0 → given free (e ∷ es) ms ≡ given free es ms
  unfolding over handed_to times
  entry_gone free e es [] w = refl
  entry_gone free e es (m ∷ ms) w = by_same m e.containing
      (λ s. absurd (let z : ◌≡◌ {A = ℕ} (cond (eqb m e.containing) 1 0) 1 = rw (eq-eqb m e.containing s) refl in omega arith))
      (λ d.
      let z : ◌≡◌ {A = ℕ} (cond (eqb m e.containing) 1 0) 0 = rw (ne_eqb m e.containing d) refl in
      let r : given free (e ∷ es) ms ≡ given free es ms = entry_gone free e es ms (omega arith) in
      rw (ne_eqb e.containing m (λ y. d (sym y))) (omega (arith, within_append (handed_to es m) (over (handed_to (e ∷ es)) ms), within_append (handed_to es m) (over (handed_to es) ms))))

  entry_once : (free : ℕ → ℕ) (e : Entry) (es : List Entry) (ms : List ℕ) → times e.containing ms ≤ 1 → given free (e ∷ es) ms ≤ times x (marks_items e.declarators) + given free es ms
  unfolding over handed_to times
  entry_once free e es [] w = omega arith
  entry_once free e es (m ∷ ms) w = by_same m e.containing
      (λ s.
      let z : ◌≡◌ {A = ℕ} (cond (eqb m e.containing) 1 0) 1 = rw (eq-eqb m e.containing s) refl in
      let r : given free (e ∷ es) ms ≡ given free es ms = entry_gone free e es ms (omega arith) in
      rw (eq-eqb e.containing m (sym s)) (omega (arith, times_append x (marks_items e.declarators) (over marks_items (handed_to es m ++ over (handed_to (e ∷ es)) ms)), within_append (handed_to es m) (over (handed_to (e ∷ es)) ms), within_append (handed_to es m) (over (handed_to es) ms))))
      (λ d.
      let z : ◌≡◌ {A = ℕ} (cond (eqb m e.containing) 1 0) 0 = rw (ne_eqb m e.containing d) refl in
      let r : given free (e ∷ es) ms ≤ times x (marks_items e.declarators) + given free es ms = entry_once free e es ms (omega arith) in
      rw (ne_eqb e.containing m (λ y. d (sym y))) (omega (arith, within_append (handed_to es m) (over (handed_to (e ∷ es)) ms), within_append (handed_to es m) (over (handed_to es) ms))))

  given_nothing : (free : ℕ → ℕ) (ms : List ℕ) → given free [] ms ≡ 0
  unfolding over handed_to times
  given_nothing free [] = refl
  given_nothing free (m ∷ ms) = given_nothing free ms

  pub given_most : (free : ℕ → ℕ) (es : List Entry) (ms : List ℕ) → ((y : ℕ) → times y ms ≤ 1) → given free es ms ≤ times x (over (λ (e : Entry). marks_items e.declarators) es)
  unfolding over times
  given_most free [] ms once = let z : given free [] ms ≡ 0 = given_nothing free ms in omega arith
  given_most free (e ∷ es) ms once =
      let r : given free es ms ≤ times x (over (λ (d : Entry). marks_items d.declarators) es) = given_most free es ms once in
      let o : given free (e ∷ es) ms ≤ times x (marks_items e.declarators) + given free es ms = entry_once free e es ms (once e.containing) in
      omega (arith, times_append x (marks_items e.declarators) (over (λ (d : Entry). marks_items d.declarators) es))

  -- ---- a mark is given once, and none that is taken

  run_none : (free : ℕ → ℕ) (k i : ℕ) → ((j : ℕ) → i ≤ j → j < i + k → free j ≡ x → ⊥) → times x (run free i k) ≡ 0
  unfolding run times
  run_none free zero i h = refl
  run_none free (suc k) i h =
      let rest : times x (run free (suc i) k) ≡ 0 = run_none free k (suc i) (λ j a b. h j (omega arith) (omega arith)) in
      rw (ne_eqb (free i) x (h i (omega arith) (omega arith))) (omega arith)

  abbrev Rising : (ℕ → ℕ) → ℕ → ℕ → Type 0
  Rising free i k = (j : ℕ) → i ≤ j → suc j < i + k → free j < free (suc j)

  run_above : (free : ℕ → ℕ) (k i : ℕ) → Rising free i k → x < free i → times x (run free i k) ≡ 0
  unfolding run times
  run_above free zero i r h = refl
  run_above free (suc zero) i r h = rw (ne_eqb (free i) x (λ e. absurd (omega arith))) refl
  run_above free (suc (suc k)) i r h =
      let up : free i < free (suc i) = r i (omega arith) (omega arith) in
      let rest : times x (run free (suc i) (suc k)) ≡ 0 = run_above free (suc k) (suc i) (λ j a b. r j (omega arith) (omega arith)) (omega arith) in
      rw (ne_eqb (free i) x (λ e. absurd (omega arith))) (omega arith)

  run_once : (free : ℕ → ℕ) (k i : ℕ) → Rising free i k → times x (run free i k) ≤ 1
  unfolding run times
  run_once free zero i r = omega arith
  run_once free (suc zero) i r = by_same (free i) x (λ e. rw (eq-eqb (free i) x e) (omega arith)) (λ d. rw (ne_eqb (free i) x d) (omega arith))
  run_once free (suc (suc k)) i r =
      let up : free i < free (suc i) = r i (omega arith) (omega arith) in
      let later : times x (run free (suc i) (suc k)) ≤ 1 = run_once free (suc k) (suc i) (λ j a b. r j (omega arith) (omega arith)) in
      by_same (free i) x
      (λ e. let rest : times x (run free (suc i) (suc k)) ≡ 0 = run_above free (suc k) (suc i) (λ j a b. r j (omega arith) (omega arith)) (omega arith) in rw (eq-eqb (free i) x e) (omega arith))
      (λ d. rw (ne_eqb (free i) x d) (omega arith))

-- ---- the whole

given_rising : (ms : List ℕ) (k : ℕ) → length ms + k < 65535 → (x : ℕ) → Rising x (fresh ms) 0 k
given_rising ms k h x j a b =
    let t : fresh ms (suc j) ≤ length ms + suc (suc j) = fresh_below ms (suc j) in
    ((fresh_lowest ms (suc j)).free (omega arith)).0

untaken_not : (ms : List ℕ) (m : ℕ) → untaken ms m ≡ true → 0 < times m ms → ⊥
untaken_not ms m e h =
    let z : among ms m ≡ true = among_times m ms ∙ lt-ltb 0 (times m ms) h in
    never (sym (ap not z) ∙ e)

-- a mark that is given or taken, not both
apart_run : (ms : List ℕ) (k : ℕ) → length ms + k < 65535 → (x : ℕ) → times x ms ≤ 1 → times x ms + times x (run (fresh ms) 0 k) ≤ 1
apart_run ms k h x o = elim (dec_lt 0 (times x ms)) [
  | yes g ↦ let z : times x (run (fresh ms) 0 k) ≡ 0 = run_none x (fresh ms) k 0 (λ j a b e. untaken_not ms x (ap (untaken ms) (sym e) ∙ given_new ms k h j (omega arith)) g) in omega arith
  | no g ↦ let z : times x (run (fresh ms) 0 k) ≤ 1 = run_once x (fresh ms) k 0 (given_rising ms k h x) in omega arith
]

run_shorter : (free : ℕ → ℕ) (x k : ℕ) → times x (run free 0 k) ≤ times x (run free 0 (suc k))
run_shorter free x k =
    let e : k + 1 ≡ suc k = omega arith in
    let s : times x (run free 0 (k + 1)) ≡ times x (run free 0 k) + times x (run free (0 + k) 1) = run_split free x 0 k 1 in
    subst (λ (n : ℕ). times x (run free 0 k) ≤ times x (run free 0 n)) e (omega arith)

head_marks : (x : ℕ) (free : ℕ → ℕ) (es : List Entry) (at : ℕ) (is ds : Items) → times x (marks (headed (declaration 3 (free 0) ds) (join free es 1 (node at 1 (field (list is) done))))) ≡ times x (marks (node at 1 (field (list is) done))) + (times x (run free 0 (suc (news free es (node at 1 (field (list is) done))))) + (given x free es (found (node at 1 (field (list is) done))) + times x (marks_items ds)))
unfolding join join_fields join_piece marks marks_fields marks_piece marks_items run times
head_marks x free es at is ds =
    let a : times x (marks_items (join_items free es (is_container 1) 1 is) ++ []) ≡ times x (marks_items is ++ []) + (times x (run free 1 (news free es (node at 1 (field (list is) done)))) + given x free es (found (node at 1 (field (list is) done)))) = node_marks x free es (node at 1 (field (list is) done)) 1 in
    omega (arith, times_append x ((marks_items ds ++ []) ++ marks_items (join_items free es (is_container 1) 1 is)) [], times_append x (marks_items ds ++ []) (marks_items (join_items free es (is_container 1) 1 is)), times_append x (marks_items ds) [], times_append x (marks_items (join_items free es (is_container 1) 1 is)) [])

joined_marks : (x : ℕ) (n : Node) (h : Handed) → Program n → times x (marks (joined_tree (taken n h) n h)) ≤ times x (marks n) + (times x (run (fresh (taken n h)) 0 (suc (news (fresh (taken n h)) h.entries n))) + (given x (fresh (taken n h)) h.entries (found n) + times x (marks_items h.excluded)))
unfolding joined_tree
joined_marks x n h p = go h.excluded
  where
    led : (ds : Items) → times x (marks (headed (declaration 3 (fresh (taken n h) 0) ds) (join (fresh (taken n h)) h.entries 1 n))) ≤ times x (marks n) + (times x (run (fresh (taken n h)) 0 (suc (news (fresh (taken n h)) h.entries n))) + (given x (fresh (taken n h)) h.entries (found n) + times x (marks_items ds)))
    led ds = moved n p.is
      where
        moved : (m : Node) → m ≡ node p.at 1 (field (list p.body) done) → times x (marks (headed (declaration 3 (fresh (taken n h) 0) ds) (join (fresh (taken n h)) h.entries 1 m))) ≤ times x (marks m) + (times x (run (fresh (taken n h)) 0 (suc (news (fresh (taken n h)) h.entries m))) + (given x (fresh (taken n h)) h.entries (found m) + times x (marks_items ds)))
        moved m e = rw e (omega (arith, head_marks x (fresh (taken n h)) h.entries p.at p.body ds))

    go : (ds : Items) → times x (marks (joined_by (fresh (taken n h)) h.entries ds n)) ≤ times x (marks n) + (times x (run (fresh (taken n h)) 0 (suc (news (fresh (taken n h)) h.entries n))) + (given x (fresh (taken n h)) h.entries (found n) + times x (marks_items ds)))
    go Items.none =
        let a : times x (marks (join (fresh (taken n h)) h.entries 0 n)) ≡ times x (marks n) + (times x (run (fresh (taken n h)) 0 (news (fresh (taken n h)) h.entries n)) + given x (fresh (taken n h)) h.entries (found n)) = node_marks x (fresh (taken n h)) h.entries n 0 in
        omega (arith, run_shorter (fresh (taken n h)) x (news (fresh (taken n h)) h.entries n))
    go (hole ds) = led (hole ds)
    go (item d ds) = led (item d ds)

taken_times : (x : ℕ) (n : Node) (h : Handed) → times x (taken n h) ≡ times x (marks n) + (times x (over (λ (e : Entry). marks_items e.declarators) h.entries) + times x (marks_items h.excluded))
unfolding taken inner_marks
taken_times x n h = times_append x (marks n) (over (λ (e : Entry). marks_items e.declarators) h.entries ++ marks_items h.excluded) ∙ ap (λ (k : ℕ). times x (marks n) + k) (times_append x (over (λ (e : Entry). marks_items e.declarators) h.entries) (marks_items h.excluded))

-- its marks are distinct
pub joined_apart : (n : Node) (h : Handed) → Program n → length (taken n h) + suc (news (fresh (taken n h)) h.entries n) < 65535 → ((x : ℕ) → times x (found n) ≤ 1) → distinct (taken n h) ≡ true → distinct (marks (joined_tree (taken n h) n h)) ≡ true
joined_apart n h p few once d = once_distinct (marks (joined_tree (taken n h) n h)) (λ x.
    let o : times x (taken n h) ≤ 1 = distinct_once (taken n h) d x in
    let a = joined_marks x n h p in
    let r : times x (taken n h) + times x (run (fresh (taken n h)) 0 (suc (news (fresh (taken n h)) h.entries n))) ≤ 1 = apart_run (taken n h) (suc (news (fresh (taken n h)) h.entries n)) few x o in
    let g : given x (fresh (taken n h)) h.entries (found n) ≤ times x (over (λ (e : Entry). marks_items e.declarators) h.entries) = given_most x (fresh (taken n h)) h.entries (found n) once in
    let t : times x (taken n h) ≡ times x (marks n) + (times x (over (λ (e : Entry). marks_items e.declarators) h.entries) + times x (marks_items h.excluded)) = taken_times x n h in
    omega arith)
