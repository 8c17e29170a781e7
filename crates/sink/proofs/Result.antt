-- What is handed back after any proper run of events: the whole tree and the whole list, each temporary with its number, if both
-- fit; else nothing.
-- Assumes nothing.
use mathlib.Core.Path.{◌≡◌, refl, sym, ap, ◌∙◌}
use mathlib.Core.Bool.{Bool, true, false, ◌||◌, or-false}
use mathlib.Core.List.{List, [], ◌∷◌, ◌++◌}
use Prim.Native.Nat.{ℕ, suc, ◌+◌, ◌-◌, ◌*◌, ◌/◌, ◌%◌, ◌<◌, ◌≤◌, min}
use native.Mathlib.Omega.{arith}
use lib.Dec.{eqb, ltb}
use lib.ListN.{length, get_or, take, drop, replicate, length-append, length-replicate, get_or-replicate, replicate-append-replicate}
use lib.Seq.{slice, take-append-add, drop_at, take_at}
use borrow.Author.Tests.{lt-ltb, le-ltb, ltb-false}
use Rattle.sink.specs.declared.Helpers.{Helpers}
use Rattle.sink.specs.declared.Sink.{Sink}
use Rattle.sink.specs.Machine.{State, state_of, with_list, with_helper, low, high, part, wide_in, set_wide, mask_of, no_helpers, start, closed, end_of, over, nothing, ended, finished, steps, all_list_of}
use Rattle.sink.specs.Shown.{Named, Token, Every, Apart, CellsOk, events_of, names_over, marks_over, tree_tokens, list_tokens, keys_tokens, entries_in, declarators_in, is_helper, uses_helper, helpers_in, made_in_of, place, order, order_of, shown, tree_bytes, list_bytes, filled, handed_back}
use Rattle.sink.proofs.Runs.{by_test, filled_none, length_filled, filled_wide, list_all}
use Rattle.sink.proofs.Names.{size, length_shown}
use Rattle.sink.proofs.Holds.{Free, Cells, shape}
use Rattle.sink.proofs.Events.{Held, held_events, helpers_over}
use Rattle.sink.proofs.Lengths.{Long, long_events, long_closed, over_cut}

-- ---- helpers: those of the run, and those before it

or_swap : (a b c : Bool) → a || (b || c) ≡ (b || a) || c
or_swap true true c = refl
or_swap true false c = refl
or_swap false true c = refl
or_swap false false c = refl

abbrev either : {A : Type 0} → List (Named A) → Helpers → Helpers
either es u =
    record {
      spread = uses_helper 1 es || u.spread;
      extends = uses_helper 2 es || u.extends;
      empty = uses_helper 3 es || u.empty;
      without = uses_helper 4 es || u.without;
      key = uses_helper 5 es || u.key;
    }

helpers_over_lem : {A : Type 0} (es : List (Named A)) (u : Helpers) → helpers_over u es ≡ either es u
unfolding uses_helper is_helper with_helper
helpers_over_lem [] u = refl
helpers_over_lem (Named.put b ∷ es) u = helpers_over_lem es u
helpers_over_lem (Named.helper h ∷ es) u =
    helpers_over_lem es (with_helper u h)
    ∙ (λ j. record {
      spread = (or_swap (uses_helper 1 es) (eqb h 1) u.spread) j;
      extends = (or_swap (uses_helper 2 es) (eqb h 2) u.extends) j;
      empty = (or_swap (uses_helper 3 es) (eqb h 3) u.empty) j;
      without = (or_swap (uses_helper 4 es) (eqb h 4) u.without) j;
      key = (or_swap (uses_helper 5 es) (eqb h 5) u.key) j;
    })
helpers_over_lem (Named.temporary c stem ∷ es) u = helpers_over_lem es u
helpers_over_lem (Named.new_mark ∷ es) u = helpers_over_lem es u
helpers_over_lem (Named.make c a ∷ es) u = helpers_over_lem es u
helpers_over_lem (Named.listed b ∷ es) u = helpers_over_lem es u
helpers_over_lem (Named.listed_temporary c stem a ∷ es) u = helpers_over_lem es u
helpers_over_lem (Named.entry m n ∷ es) u = helpers_over_lem es u
helpers_over_lem (Named.excluded b ∷ es) u = helpers_over_lem es u
helpers_over_lem (Named.excluded_temporary c stem a ∷ es) u = helpers_over_lem es u
helpers_over_lem (Named.declarator ∷ es) u = helpers_over_lem es u

helpers_all : {A : Type 0} (es : List (Named A)) → helpers_over no_helpers es ≡ helpers_in es
unfolding helpers_in
helpers_all es =
    helpers_over_lem es no_helpers
    ∙ (λ j. record {
      spread = (or-false (uses_helper 1 es)) j;
      extends = (or-false (uses_helper 2 es)) j;
      empty = (or-false (uses_helper 3 es)) j;
      without = (or-false (uses_helper 4 es)) j;
      key = (or-false (uses_helper 5 es)) j;
    })

-- ---- lists

wide_zeros : (k i : ℕ) → i + 1 < k → ◌≡◌ {A = ℕ} (wide_in (replicate k 0) i) 0
unfolding wide_in
wide_zeros k i h =
    let p : ◌≡◌ {A = ℕ} (get_or (replicate k 0) i 0) 0 = get_or-replicate k i 0 0 (omega arith) in
    let q : ◌≡◌ {A = ℕ} (get_or (replicate k 0) (i + 1) 0) 0 = get_or-replicate k (i + 1) 0 0 h in
    omega arith

two_zeros : (b : ℕ) → 2 ≤ b → replicate b 0 ≡ filled b (0 ∷ 0 ∷ [])
unfolding filled
two_zeros b h = let e : b ≡ suc (suc (b - 2)) = omega arith in ap (λ (k : ℕ). replicate k 0) e

part_of : (cs bs ys : List ℕ) (k n : ℕ) → length cs ≡ k → length bs ≡ n → part k (k + n) (cs ++ (bs ++ ys)) ≡ bs
unfolding part
part_of cs bs ys k n e f =
    ap (λ (i : ℕ). drop k (take (i + n) (cs ++ (bs ++ ys)))) (sym e)
    ∙ ap (drop k) (take-append-add cs (bs ++ ys) n)
    ∙ drop_at cs (take n (bs ++ ys)) k e
    ∙ take_at bs ys n f

first_two : (l : List ℕ) (e : ℕ) → set_wide (0 ∷ 0 ∷ l) 0 e ≡ low e ∷ high e ∷ l
unfolding set_wide
first_two l e = refl

keys_part : (cs bs : List ℕ) (w n : ℕ) → length cs ≡ 32768 → length bs ≡ n → part 32768 (32768 + n) (cs ++ filled w bs) ≡ bs
unfolding filled
keys_part cs bs w n e f = part_of cs bs (replicate (w - length bs) 0) 32768 n e f

module _ {A : Type 0} (alike : A → A → Bool) (same : (a b : A) → alike a b ≡ true → a ≡ b) (self : (a : A) → alike a a ≡ true) (a b w : ℕ) where
  -- ---- the first state

  first_cells : (names : ℕ → A) (k : ℕ) (later : List A) → k ≡ 32768 → ((c d : ℕ) → c < 16384 → d < 16384 → alike (names c) (names d) ≡ true → c ≡ d)
      → Every (λ x. (c : ℕ) → c < 16384 → alike x (names c) ≡ false) later → Apart alike later → Cells alike same self names (replicate k 0) [] [] [] later
  unfolding place
  first_cells names k later e p q r =
      record {
        long = length-replicate k 0 ∙ e;
        each = λ c h. wide_zeros k (2 * c) (omega arith);
        differ = p;
        once = λ x. omega arith;
        free = all_free later q;
        apart = r;
      }
    where
      all_free : (l : List A) → Every (λ x. (c : ℕ) → c < 16384 → alike x (names c) ≡ false) l → Every (λ x. Free alike same self names [] [] [] x) l
      all_free [] h = tt
      all_free (x ∷ l) h = (record { numberless = refl; unlisted = refl; kept = refl; other = h.0 }, all_free l h.1)

  first_held : (names : ℕ → A) (k m n : ℕ) (later : List A) → k ≡ 32768 → n ≡ k + w → 2 ≤ b → m ≤ 49151 → Cells alike same self names (replicate k 0) [] [] [] later
      → Held alike same self a b w (start a b n m) names [] [] [] [] 0 0 m no_helpers later
  unfolding start shown
  first_held names k m n later e f g h cells =
      let p : replicate a 0 ≡ filled a [] = filled_none a in
      let q : replicate b 0 ≡ filled b (0 ∷ 0 ∷ []) = two_zeros b g in
      let r : replicate n 0 ≡ replicate k 0 ++ filled w [] = ap (λ (i : ℕ). replicate i 0) f ∙ sym (replicate-append-replicate k w 0) ∙ ap (λ (l : List ℕ). replicate k 0 ++ l) (filled_none w) in
      record {
        cs = replicate k 0;
        is = λ j. state_of ((p) j) ((q) j) ((r) j) (record { tree = 0; list = 2; keys = 0; entries = 0; declarators = 0; next = 1; mark = m; helpers = no_helpers });
        cells = cells;
        few = omega arith;
        marks = omega arith;
        entries = omega arith;
        declarators = omega arith;
      }

  -- ---- the end

  module _ (B cs : List ℕ) (o : List A) (L X : List (Token A)) (e d m : ℕ) (u : Helpers) (long : length cs ≡ 32768)
      (small : e < 65536) (less : d < 65536) (treeRoom : length B ≤ 32768) (tree_slice : length B ≤ a) (listRoom : 4 + (size L + size X) ≤ 16384) (list_slice : 4 + (size L + size X) ≤ b) (keysRoom : size X ≤ w) where
    whole : List ℕ
    whole = ((e % 256 ∷ e / 256 ∷ []) ++ shown alike o L) ++ ((d % 256 ∷ d / 256 ∷ []) ++ shown alike o X)

    rest : List ℕ
    rest = low d ∷ high d ∷ shown alike o X

    whole_is : (low e ∷ high e ∷ shown alike o L) ++ rest ≡ whole
    unfolding whole rest low high
    whole_is =
        let p : e / 256 % 256 ≡ e / 256 = omega arith in
        let q : d / 256 % 256 ≡ d / 256 = omega arith in
        λ j. e % 256 ∷ (p) j ∷ (shown alike o L ++ (d % 256 ∷ (q) j ∷ shown alike o X))

    whole_long : length whole ≡ 4 + (size L + size X)
    unfolding whole
    whole_long = omega (arith, length-append (shown alike o L) (d % 256 ∷ d / 256 ∷ shown alike o X), length_shown alike o L, length_shown alike o X)

    counted : set_wide (filled b (0 ∷ 0 ∷ shown alike o L)) 0 e ≡ filled b (low e ∷ high e ∷ shown alike o L)
    counted = filled_wide b (0 ∷ 0 ∷ shown alike o L) 0 e (omega arith) ∙ ap (filled b) (first_two (shown alike o L) e)

    closed_shape : closed (shape alike same self a b w B cs o L X e d m u)
        ≡ state_of (filled a B) (filled b whole) (cs ++ filled w (shown alike o X))
        (record { tree = length B; list = length whole; keys = size X; entries = e; declarators = d; next = suc (length o); mark = m; helpers = u })
    unfolding closed rest
    closed_shape =
        let p : part 32768 (32768 + size X) (cs ++ filled w (shown alike o X)) ≡ shown alike o X = keys_part cs (shown alike o X) w (size X) long (length_shown alike o X) in
        let n : 2 + size L ≡ length (low e ∷ high e ∷ shown alike o L) = omega (arith, length_shown alike o L) in
        let z : length rest ≡ 2 + size X = omega (arith, length_shown alike o X) in
        let k : Sink = record { tree = length B; list = 2 + size L; keys = size X; entries = e; declarators = d; next = suc (length o); mark = m; helpers = u } in
        rw (lt-ltb (size X) 16385 (omega arith))
        ((λ j. all_list_of (state_of (filled a B) ((counted) j) (cs ++ filled w (shown alike o X)) k) (low d ∷ high d ∷ (p) j))
        ∙ list_all rest b (low e ∷ high e ∷ shown alike o L) (filled a B) (cs ++ filled w (shown alike o X)) k n (omega arith) (omega arith)
        ∙ ap (λ (l : List ℕ). state_of (filled a B) (filled b l) (cs ++ filled w (shown alike o X)) (with_list k (length l))) whole_is)

    ended_shape : (n : ℕ) → length (cs ++ filled w (shown alike o X)) ≡ n → finished (shape alike same self a b w B cs o L X e d m u)
        ≡ end_of (filled a B) (filled b whole) (replicate n 0) (record { fits = true; helpers = mask_of u; tree = length B; list = length whole })
    unfolding finished ended over
    ended_shape n h =
        let p : ltb (min 32768 (length (filled a B))) (length B) ≡ false = le-ltb (min 32768 (length (filled a B))) (length B) (omega (arith, length_filled a B tree_slice)) in
        let q : ltb (min 16384 (length (filled b whole))) (length whole) ≡ false = le-ltb (min 16384 (length (filled b whole))) (length whole) (omega (arith, whole_long, length_filled b whole (omega (arith, whole_long)))) in
        ap ended closed_shape ∙ rw (p, q) (ap (λ (k : ℕ). end_of (filled a B) (filled b whole) (replicate k 0) (record { fits = true; helpers = mask_of u; tree = length B; list = length whole })) h)

    -- the same, in the words of the result
    pub ended_whole : (n : ℕ) → length (cs ++ filled w (shown alike o X)) ≡ n → finished (shape alike same self a b w B cs o L X e d m u)
        ≡ end_of (filled a B) (filled b (((e % 256 ∷ e / 256 ∷ []) ++ shown alike o L) ++ ((d % 256 ∷ d / 256 ∷ []) ++ shown alike o X))) (replicate n 0)
        (record { fits = true; helpers = mask_of u; tree = length B; list = length (((e % 256 ∷ e / 256 ∷ []) ++ shown alike o L) ++ ((d % 256 ∷ d / 256 ∷ []) ++ shown alike o X)) })
    unfolding whole
    ended_whole n h = ended_shape n h

-- ---- too long

-- the end of a state by its lengths alone
pub ended_long : (a b n t l x : ℕ) (s : State) → Long a b n t l x s → over 32768 a t || over 16384 b l ≡ true → ended s ≡ nothing a b n
unfolding ended
ended_long a b n t l x s h e =
    let p : over 32768 (length s.out) s.sink.tree ≡ over 32768 a t = ap (λ (k : ℕ). over 32768 k s.sink.tree) h.out_slice ∙ ap (over 32768 a) h.tree ∙ over_cut 32768 a t in
    let q : over 16384 (length s.list) s.sink.list ≡ over 16384 b l = ap (λ (k : ℕ). over 16384 k s.sink.list) h.list_slice ∙ ap (over 16384 b) h.list ∙ over_cut 16384 b l in
    rw (p, q, e) (λ j. nothing (h.out_slice j) (h.list_slice j) (h.work_slice j))

pub first_long : (a b n m : ℕ) → Long a b n 0 2 0 (start a b n m)
unfolding start
first_long a b n m = record { tree = omega arith; list = omega arith; keys = omega arith; out_slice = length-replicate a 0; list_slice = length-replicate b 0; work_slice = length-replicate n 0 }

or_left : (x y : Bool) → x || y ≡ false → x ≡ false
or_left true y e = e
or_left false y e = refl

or_right : (x y : Bool) → x || y ≡ false → y ≡ false
or_right true y e = absurd (let z : ◌≡◌ {A = Bool} true false = e in let w : ◌≡◌ {A = ℕ} 0 1 = cc in omega arith)
or_right false y e = e

within : (limit slice k : ℕ) → over limit slice k ≡ false → k ≤ min limit slice
unfolding over
within limit slice k e = ltb-false (min limit slice) k e

-- ---- the theorem

module _ {A : Type 0} (alike : A → A → Bool) (same : (a b : A) → alike a b ≡ true → a ≡ b) (self : (a : A) → alike a a ≡ true)
    (a b n m : ℕ) (names : ℕ → A) (es : List (Named A)) (big : 49152 ≤ n) (marks : m ≤ 49151) (cells : CellsOk es)
    (differ : (c d : ℕ) → c < 16384 → d < 16384 → alike (names c) (names d) ≡ true → c ≡ d)
    (unlike : Every (λ x. (c : ℕ) → c < 16384 → alike x (names c) ≡ false) (made_in_of es)) (apart : Apart alike (made_in_of es)) where
  pub tree_long : length (tree_bytes alike names m es) ≡ size (tree_tokens names m es)
  unfolding tree_bytes
  tree_long = length_shown alike (order_of alike names m es) (tree_tokens names m es)

  pub list_long : length (list_bytes alike names m es) ≡ 4 + (size (list_tokens es) + size (keys_tokens es))
  unfolding list_bytes
  list_long =
      omega (
        arith,
        length-append (shown alike (order_of alike names m es) (list_tokens es)) (declarators_in es % 256 ∷ declarators_in es / 256 ∷ shown alike (order_of alike names m es) (keys_tokens es)),
        length_shown alike (order_of alike names m es) (list_tokens es),
        length_shown alike (order_of alike names m es) (keys_tokens es),
      )

  too_long : over 32768 a (length (tree_bytes alike names m es)) || over 16384 b (length (list_bytes alike names m es)) ≡ true → finished (steps (start a b n m) (events_of es)) ≡ nothing a b n
  unfolding finished
  too_long e =
      let h = long_closed a b n _ _ _ (steps (start a b n m) (events_of es)) big (long_events a b n es names m 0 2 0 (start a b n m) (first_long a b n m)) in
      let p : 0 + size (tree_tokens names m es) ≡ length (tree_bytes alike names m es) = omega (arith, tree_long) in
      let q : 2 + size (list_tokens es) + (2 + (0 + size (keys_tokens es))) ≡ length (list_bytes alike names m es) = omega (arith, list_long) in
      ended_long a b n (0 + size (tree_tokens names m es)) (2 + size (list_tokens es) + (2 + (0 + size (keys_tokens es)))) (0 + size (keys_tokens es)) (closed (steps (start a b n m) (events_of es))) h
      (ap (λ (k : ℕ). over 32768 a k || over 16384 b (2 + size (list_tokens es) + (2 + (0 + size (keys_tokens es))))) p ∙ ap (λ (k : ℕ). over 32768 a (length (tree_bytes alike names m es)) || over 16384 b k) q ∙ e)

  module _ (t : length (tree_bytes alike names m es) ≤ min 32768 a) (l : length (list_bytes alike names m es) ≤ min 16384 b) where
    held : Held alike same self a b (n - 32768) (steps (start a b n m) (events_of es)) (names_over names es) (order alike [] (tree_tokens names m es)) (shown alike (order alike [] (tree_tokens names m es)) (tree_tokens names m es))
        (list_tokens es) (keys_tokens es) (0 + entries_in es) (0 + declarators_in es) (marks_over m es) (helpers_over no_helpers es) []
    held =
        held_events alike same self a b (n - 32768) es (start a b n m) names [] [] [] [] 0 0 m no_helpers cells
        (first_held alike same self a b (n - 32768) names (n - (n - 32768)) m n (made_in_of es) (omega arith) (omega arith) (omega (arith, list_long)) marks
        (first_cells alike same self a b (n - 32768) names (n - (n - 32768)) (made_in_of es) (omega arith) differ unlike apart))
        (record { tree = omega (arith, tree_long); tree_slice = omega (arith, tree_long); list = omega (arith, list_long); list_slice = omega (arith, list_long); keys = omega (arith, list_long); keys_slice = omega (arith, list_long) })

    all_fits : finished (steps (start a b n m) (events_of es))
        ≡ end_of (filled a (tree_bytes alike names m es)) (filled b (list_bytes alike names m es)) (replicate n 0)
        (record { fits = true; helpers = mask_of (helpers_in es); tree = length (tree_bytes alike names m es); list = length (list_bytes alike names m es) })
    unfolding tree_bytes list_bytes order_of
    all_fits =
        let o : List A = order alike [] (tree_tokens names m es) in
        let cs = held.cs in
        let w : length (cs ++ filled (n - 32768) (shown alike o (keys_tokens es))) ≡ n
        = length-append cs (filled (n - 32768) (shown alike o (keys_tokens es))) ∙ omega (arith, held.cells.long, length_filled (n - 32768) (shown alike o (keys_tokens es)) (omega (arith, length_shown alike o (keys_tokens es), list_long))) in
        let x : 0 + entries_in es ≡ entries_in es = omega arith in
        let y : 0 + declarators_in es ≡ declarators_in es = omega arith in
        ap finished held.is
        ∙ (λ j. finished (shape alike same self a b (n - 32768) (shown alike o (tree_tokens names m es)) cs o (list_tokens es) (keys_tokens es) ((x) j) ((y) j) (marks_over m es) ((helpers_all es) j)))
        ∙ ended_whole alike same self a b (n - 32768) (shown alike o (tree_tokens names m es)) cs o (list_tokens es) (keys_tokens es) (entries_in es) (declarators_in es) (marks_over m es) (helpers_in es) held.cells.long
        (omega (arith, held.entries, list_long)) (omega (arith, held.declarators, list_long)) (omega (arith, t)) (omega (arith, t)) (omega (arith, l, list_long)) (omega (arith, l, list_long)) (omega (arith, l, list_long)) n w

  -- what is handed back after the run
  pub handed_back_lem : finished (steps (start a b n m) (events_of es)) ≡ handed_back a b n (mask_of (helpers_in es)) (tree_bytes alike names m es) (list_bytes alike names m es)
  unfolding handed_back
  handed_back_lem =
      by_test (over 32768 a (length (tree_bytes alike names m es)) || over 16384 b (length (list_bytes alike names m es)))
      (λ e. rw e (too_long e))
      (λ e. rw e (all_fits (within 32768 a (length (tree_bytes alike names m es)) (or_left (over 32768 a (length (tree_bytes alike names m es))) (over 16384 b (length (list_bytes alike names m es))) e))
      (within 16384 b (length (list_bytes alike names m es)) (or_right (over 32768 a (length (tree_bytes alike names m es))) (over 16384 b (length (list_bytes alike names m es))) e))))
