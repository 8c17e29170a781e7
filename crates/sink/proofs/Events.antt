-- Each event keeps what the machine holds, with what it adds, as long as there is room.
-- Assumes nothing.
use mathlib.Core.Path.{◌≡◌, refl, sym, ap, subst, ◌∙◌}
use mathlib.Core.Bool.{Bool, true, false}
use mathlib.Core.List.{List, [], ◌∷◌, ◌++◌, append_assoc, append-nil}
use Prim.Native.Nat.{ℕ, zero, suc, ◌+◌, ◌*◌, ◌/◌, ◌%◌, ◌<◌, ◌≤◌}
use native.Mathlib.Omega.{arith}
use lib.ListN.{length, length-append}
use borrow.Author.Tests.{lt-ltb}
use Rattle.sink.specs.declared.Helpers.{Helpers}
use Rattle.sink.specs.Machine.{State, state_of, low, high, one_more_of, set_wide, number_of, settle, listed_at, excluded_at, set_cell_in, with_helper, use_helper, next_mark, count_entry, count_declarator, all_tree, all_list_of, all_keys, put_entry, step, steps}
use Rattle.sink.specs.Shown.{Named, Token, CellOk, CellsOk, event_of, events_of, names_after, mark_after, names_over, marks_over, tree_of, list_of, keys_of, tree_tokens, list_tokens, keys_tokens, entry_in_of, entries_in, declarator_in, declarators_in, made_by, made_in_of, place, noted, order, shown, filled}
use Rattle.sink.specs.Shown.Token.{plain, temp}
use Rattle.sink.proofs.Runs.{by_test, length_wide, tree_all, list_all, keys_all, entry_all}
use Rattle.sink.proofs.Names.{size, count, spot, length_shown, count_append, size_append, spot_kept, spot_new, shown_append, shown_kept, order_append, place_new, place_le}
use Rattle.sink.proofs.Holds.{code, Cells, shape, cells_made, cells_numbered, set_cell_is, number_old, settle_old, number_new, settle_new, code_as, every_map}

-- what the helpers are after an event
abbrev pub helpers_after : {A : Type 0} → Helpers → Named A → Helpers
helpers_after u (Named.put b) = u
helpers_after u (Named.helper h) = with_helper u h
helpers_after u (Named.temporary c stem) = u
helpers_after u Named.new_mark = u
helpers_after u (Named.make c a) = u
helpers_after u (Named.listed b) = u
helpers_after u (Named.listed_temporary c stem a) = u
helpers_after u (Named.entry m n) = u
helpers_after u (Named.excluded b) = u
helpers_after u (Named.excluded_temporary c stem a) = u
helpers_after u Named.declarator = u

abbrev pub helpers_over : {A : Type 0} → Helpers → List (Named A) → Helpers
helpers_over u [] = u
helpers_over u (e ∷ es) = helpers_over (helpers_after u e) es

zero_code : (p cl sl cx sx : ℕ) → p ≡ 0 → cl ≡ 0 → cx ≡ 0 → 0 ≡ code p cl sl cx sx
zero_code zero zero sl zero sx e f g = refl
zero_code zero zero sl (suc n) sx e f g = absurd (omega arith)
zero_code zero (suc n) sl cx sx e f g = absurd (omega arith)
zero_code (suc n) cl sl cx sx e f g = absurd (omega arith)

list_code : (p cl sl cx sx : ℕ) → p ≡ 0 → cl ≡ 1 → 16386 + sl ≡ code p cl sl cx sx
list_code zero (suc n) sl cx sx e f = refl
list_code zero zero sl cx sx e f = absurd (omega arith)
list_code (suc n) cl sl cx sx e f = absurd (omega arith)

keys_code : (p cl sl cx sx : ℕ) → p ≡ 0 → cl ≡ 0 → cx ≡ 1 → 32768 + sx ≡ code p cl sl cx sx
keys_code zero zero sl (suc n) sx e f g = refl
keys_code zero zero sl zero sx e f g = absurd (omega arith)
keys_code zero (suc n) sl cx sx e f g = absurd (omega arith)
keys_code (suc n) cl sl cx sx e f g = absurd (omega arith)

pub high_small : (n : ℕ) → n < 65536 → high n ≡ n / 256
unfolding high
high_small n h = omega arith

low_is : (n : ℕ) → low n ≡ n % 256
unfolding low
low_is n = refl

-- the five bytes of a temporary
number_bytes_lem : (stem n : ℕ) → n < 65536 → 20 ∷ 3 ∷ low n ∷ high n ∷ stem ∷ [] ≡ 20 ∷ 3 ∷ n % 256 ∷ n / 256 ∷ stem ∷ []
number_bytes_lem stem n h = λ j. 20 ∷ 3 ∷ (low_is n) j ∷ (high_small n h) j ∷ stem ∷ []

module _ {A : Type 0} (alike : A → A → Bool) (same : (a b : A) → alike a b ≡ true → a ≡ b) (self : (a : A) → alike a a ≡ true) (a b w : ℕ) where
  pub record Held (s : State) (names : ℕ → A) (o : List A) (B : List ℕ) (L X : List (Token A)) (e d m : ℕ) (u : Helpers) (later : List A) : Type 0 where
    pub cs : List ℕ
    pub is : s ≡ shape alike same self a b w B cs o L X e d m u
    pub cells : Cells alike same self names cs o L X later
    pub few : 5 * length o ≤ length B
    pub marks : 2 * m ≤ 98302 + length B
    pub entries : 4 * e ≤ size L
    pub declarators : 2 * d ≤ size X

  -- bytes of the tree, of the list and of the excluded declarators, within limits and slices
  pub record Room (t l x : ℕ) : Type 0 where
    pub tree : t ≤ 32768
    pub tree_slice : t ≤ a
    pub list : 2 + l ≤ 16384
    pub list_slice : 2 + l ≤ b
    pub keys : x ≤ 16384
    pub keys_slice : x ≤ w

  -- ---- a row of plain bytes changes no cell

  plain_cells : (names : ℕ → A) (cs : List ℕ) (o : List A) (L X M Y : List (Token A)) (later : List A) → ((x : A) → count alike x M ≡ 0) → ((x : A) → count alike x Y ≡ 0)
      → Cells alike same self names cs o L X later → Cells alike same self names cs o (L ++ M) (X ++ Y) later
  plain_cells names cs o L X M Y later p q h =
      let f : (x : A) → count alike x (L ++ M) ≡ count alike x L = λ x. omega (arith, count_append alike x L M, p x) in
      let g : (x : A) → count alike x (X ++ Y) ≡ count alike x X = λ x. omega (arith, count_append alike x X Y, q x) in
      record {
        long = h.long;
        each = λ c k. h.each c k ∙ code_as (place alike (names c) o) (place alike (names c) o) (count alike (names c) L) (count alike (names c) (L ++ M)) (spot alike (names c) L) (spot alike (names c) (L ++ M)) (count alike (names c) X) (count alike (names c) (X ++ Y)) (spot alike (names c) X) (spot alike (names c) (X ++ Y))
            refl (f (names c)) (λ n z. spot_kept alike (names c) L M n z) (g (names c)) (λ n z. spot_kept alike (names c) X Y n z);
        differ = h.differ;
        once = λ x. omega (arith, f x, g x, h.once x);
        free = every_map alike same self later (λ x y. record { numberless = y.numberless; unlisted = f x ∙ y.unlisted; kept = g x ∙ y.kept; other = y.other }) h.free;
        apart = h.apart;
      }

  -- ---- runs of bytes

  module _ (names : ℕ → A) (o : List A) (B : List ℕ) (L X : List (Token A)) (e d m : ℕ) (u : Helpers) (later : List A) where
    pub tree_shape : (cs bs : List ℕ) → length B + length bs ≤ 32768 → length B + length bs ≤ a
        → all_tree (shape alike same self a b w B cs o L X e d m u) bs ≡ shape alike same self a b w (B ++ bs) cs o L X e d m u
    tree_shape cs bs h g = tree_all bs a B (filled b (0 ∷ 0 ∷ shown alike o L)) (cs ++ filled w (shown alike o X)) _ refl h g

    pub list_shape : (cs : List ℕ) (ts : List (Token A)) (bs : List ℕ) → shown alike o ts ≡ bs → 2 + (size L + size ts) ≤ 16384 → 2 + (size L + size ts) ≤ b
        → all_list_of (shape alike same self a b w B cs o L X e d m u) bs ≡ shape alike same self a b w B cs o (L ++ ts) X e d m u
    list_shape cs ts bs q h g =
        let n : length bs ≡ size ts = ap length (sym q) ∙ length_shown alike o ts in
        let k : length (0 ∷ 0 ∷ shown alike o L) ≡ 2 + size L = omega (arith, length_shown alike o L) in
        let p : (0 ∷ 0 ∷ shown alike o L) ++ bs ≡ 0 ∷ 0 ∷ shown alike o (L ++ ts) = ap (λ (l : List ℕ). 0 ∷ 0 ∷ l) (ap (λ (l : List ℕ). shown alike o L ++ l) (sym q) ∙ sym (shown_append alike o L ts)) in
        let r : length ((0 ∷ 0 ∷ shown alike o L) ++ bs) ≡ 2 + size (L ++ ts) = ap length p ∙ omega (arith, length_shown alike o (L ++ ts)) in
        list_all bs b (0 ∷ 0 ∷ shown alike o L) (filled a B) (cs ++ filled w (shown alike o X)) _ (sym k) (omega arith) (omega arith)
        ∙ (λ j. state_of (filled a B) (filled b ((p) j)) (cs ++ filled w (shown alike o X)) (record { tree = length B; list = (r) j; keys = size X; entries = e; declarators = d; next = suc (length o); mark = m; helpers = u }))

    pub keys_shape : (cs : List ℕ) (ts : List (Token A)) (bs : List ℕ) → length cs ≡ 32768 → shown alike o ts ≡ bs → size X + size ts ≤ 16384 → size X + size ts ≤ w
        → all_keys (shape alike same self a b w B cs o L X e d m u) bs ≡ shape alike same self a b w B cs o L (X ++ ts) e d m u
    keys_shape cs ts bs c q h g =
        let n : length bs ≡ size ts = ap length (sym q) ∙ length_shown alike o ts in
        let k : length (shown alike o X) ≡ size X = length_shown alike o X in
        let p : shown alike o X ++ bs ≡ shown alike o (X ++ ts) = ap (λ (l : List ℕ). shown alike o X ++ l) (sym q) ∙ sym (shown_append alike o X ts) in
        let r : length (shown alike o X ++ bs) ≡ size (X ++ ts) = ap length p ∙ length_shown alike o (X ++ ts) in
        keys_all bs cs w (shown alike o X) (filled a B) (filled b (0 ∷ 0 ∷ shown alike o L)) _ c (sym k) (omega arith) (omega arith)
        ∙ (λ j. state_of (filled a B) (filled b (0 ∷ 0 ∷ shown alike o L)) (cs ++ filled w ((p) j)) (record { tree = length B; list = 2 + size L; keys = (r) j; entries = e; declarators = d; next = suc (length o); mark = m; helpers = u }))

  -- the same, with what an event adds nothing to
  held_as : {s : State} {names : ℕ → A} {o : List A} {B B' : List ℕ} {L L' X X' : List (Token A)} {e e' d d' m : ℕ} {u : Helpers} {later : List A}
      → B ≡ B' → L ≡ L' → X ≡ X' → e ≡ e' → d ≡ d' → Held s names o B L X e d m u later → Held s names o B' L' X' e' d' m u later
  held_as {s} {names} {o} {B} {B'} {L} {L'} {X} {X'} {e} {e'} {d} {d'} {m} {u} {later} p q r t v h =
      subst (λ (y : List ℕ). Held s names o y L' X' e' d' m u later) p
      (subst (λ (y : List (Token A)). Held s names o B y X' e' d' m u later) q
      (subst (λ (y : List (Token A)). Held s names o B L y e' d' m u later) r
      (subst (λ (y : ℕ). Held s names o B L X y d' m u later) t (subst (λ (y : ℕ). Held s names o B L X e y m u later) v h))))

  none : {Y : Type 0} (l : List Y) → l ≡ l ++ []
  none l = sym (append-nil l)

  plus_none : (n : ℕ) → n ≡ n + 0
  plus_none n = omega arith

  -- ---- each event

  -- what is held after an event
  abbrev pub After : State → (ℕ → A) → List A → List ℕ → List (Token A) → List (Token A) → ℕ → ℕ → ℕ → Helpers → List A → Named A → Type 0
  After s names o B L X e d m u later ev =
      Held (step s (event_of ev)) (names_after names ev) (order alike o (tree_of names m ev)) (B ++ shown alike (order alike o (tree_of names m ev)) (tree_of names m ev))
      (L ++ list_of ev) (X ++ keys_of ev) (e + entry_in_of ev) (d + declarator_in ev) (mark_after m ev) (helpers_after u ev) later

  module _ (s : State) (names : ℕ → A) (o : List A) (B : List ℕ) (L X : List (Token A)) (e d m : ℕ) (u : Helpers) (later : List A) where
    held_put : (x : ℕ) → Held s names o B L X e d m u later → Room (length B + 1) (size L + 0) (size X + 0) → After s names o B L X e d m u later (Named.put x)
    unfolding step event_of names_after order tree_of shown list_of keys_of entry_in_of declarator_in mark_after all_tree
    held_put x h r =
        let n : length (B ++ (x ∷ [])) ≡ length B + 1 = length-append B (x ∷ []) in
        held_as refl (none L) (none X) (plus_none e) (plus_none d)
        (record {
          cs = h.cs;
          is = ap (λ (z : State). all_tree z (x ∷ [])) h.is ∙ tree_shape names o B L X e d m u later h.cs (x ∷ []) r.tree r.tree_slice;
          cells = h.cells;
          few = omega (arith, h.few);
          marks = omega (arith, h.marks);
          entries = h.entries;
          declarators = h.declarators;
        })

    held_helper : (x : ℕ) → Held s names o B L X e d m u later → Room (length B + 3) (size L + 0) (size X + 0) → After s names o B L X e d m u later (Named.helper x)
    unfolding step event_of names_after order tree_of shown list_of keys_of entry_in_of declarator_in mark_after use_helper
    held_helper x h r =
        let n : length (B ++ (21 ∷ 1 ∷ x ∷ [])) ≡ length B + 3 = length-append B (21 ∷ 1 ∷ x ∷ []) in
        held_as refl (none L) (none X) (plus_none e) (plus_none d)
        (record {
          cs = h.cs;
          is = ap (λ (z : State). all_tree (use_helper z x) (21 ∷ 1 ∷ x ∷ [])) h.is ∙ tree_shape names o B L X e d m (with_helper u x) later h.cs (21 ∷ 1 ∷ x ∷ []) r.tree r.tree_slice;
          cells = h.cells;
          few = omega (arith, h.few);
          marks = omega (arith, h.marks);
          entries = h.entries;
          declarators = h.declarators;
        })

    next_mark_lem : m < 65535 → one_more_of 65535 m ≡ suc m
    unfolding one_more_of
    next_mark_lem h = rw (lt-ltb m 65535 h) (omega arith)

    held_mark : Held s names o B L X e d m u later → Room (length B + 2) (size L + 0) (size X + 0) → After s names o B L X e d m u later Named.new_mark
    unfolding step event_of names_after order tree_of shown list_of keys_of entry_in_of declarator_in mark_after next_mark
    held_mark h r =
        let k : m < 65535 = omega (arith, h.marks, r.tree) in
        let n : length (B ++ (m % 256 ∷ m / 256 ∷ [])) ≡ length B + 2 = length-append B (m % 256 ∷ m / 256 ∷ []) in
        held_as refl (none L) (none X) (plus_none e) (plus_none d)
        (record {
          cs = h.cs;
          is = ap (λ (z : State). all_tree (next_mark z) (low z.sink.mark ∷ high z.sink.mark ∷ [])) h.is
              ∙ (λ j. all_tree (shape alike same self a b w B h.cs o L X e d ((next_mark_lem k) j) u) ((low_is m) j ∷ (high_small m (omega arith)) j ∷ []))
              ∙ tree_shape names o B L X e d (suc m) u later h.cs (m % 256 ∷ m / 256 ∷ []) r.tree r.tree_slice;
          cells = h.cells;
          few = omega (arith, h.few);
          marks = omega (arith, h.marks);
          entries = h.entries;
          declarators = h.declarators;
        })

    held_listed : (x : ℕ) → Held s names o B L X e d m u later → Room (length B + 0) (size L + 1) (size X + 0) → After s names o B L X e d m u later (Named.listed x)
    unfolding step event_of names_after order tree_of shown list_of keys_of entry_in_of declarator_in mark_after all_list_of
    held_listed x h r =
        let n : size (L ++ (plain x ∷ [])) ≡ size L + 1 = size_append L (plain x ∷ []) in
        held_as (none B) refl (none X) (plus_none e) (plus_none d)
        (record {
          cs = h.cs;
          is = ap (λ (z : State). all_list_of z (x ∷ [])) h.is ∙ list_shape names o B L X e d m u later h.cs (plain x ∷ []) (x ∷ []) refl r.list r.list_slice;
          cells = subst (λ (y : List (Token A)). Cells alike same self names h.cs o (L ++ (plain x ∷ [])) y later) (append-nil X) (plain_cells names h.cs o L X (plain x ∷ []) [] later (λ y. refl) (λ y. refl) h.cells);
          few = h.few;
          marks = h.marks;
          entries = omega (arith, h.entries);
          declarators = h.declarators;
        })

    held_excluded : (x : ℕ) → Held s names o B L X e d m u later → Room (length B + 0) (size L + 0) (size X + 1) → After s names o B L X e d m u later (Named.excluded x)
    unfolding step event_of names_after order tree_of shown list_of keys_of entry_in_of declarator_in mark_after all_keys
    held_excluded x h r =
        let n : size (X ++ (plain x ∷ [])) ≡ size X + 1 = size_append X (plain x ∷ []) in
        held_as (none B) (none L) refl (plus_none e) (plus_none d)
        (record {
          cs = h.cs;
          is = ap (λ (z : State). all_keys z (x ∷ [])) h.is ∙ keys_shape names o B L X e d m u later h.cs (plain x ∷ []) (x ∷ []) h.cells.long refl r.keys r.keys_slice;
          cells = subst (λ (y : List (Token A)). Cells alike same self names h.cs o y (X ++ (plain x ∷ [])) later) (append-nil L) (plain_cells names h.cs o L X [] (plain x ∷ []) later (λ y. refl) (λ y. refl) h.cells);
          few = h.few;
          marks = h.marks;
          entries = h.entries;
          declarators = omega (arith, h.declarators);
        })

    one_entry : e < 65535 → one_more_of 65535 e ≡ e + 1
    unfolding one_more_of
    one_entry h = rw (lt-ltb e 65535 h)

    entry_shape : (cs : List ℕ) (x y n : ℕ) → n ≡ e + 1 → 2 + (size L + 4) ≤ 16384 → 2 + (size L + 4) ≤ b
        → put_entry (shape alike same self a b w B cs o L X n d m u) x y
        ≡ shape alike same self a b w B cs o (L ++ (plain (low x) ∷ plain (high x) ∷ plain (low y) ∷ plain (high y) ∷ [])) X (e + 1) d m u
    unfolding shown
    entry_shape cs x y n q h g =
        let ts : List (Token A) = plain (low x) ∷ plain (high x) ∷ plain (low y) ∷ plain (high y) ∷ [] in
        let k : length (0 ∷ 0 ∷ shown alike o L) ≡ 2 + size L = omega (arith, length_shown alike o L) in
        let p : (0 ∷ 0 ∷ shown alike o L) ++ (low x ∷ high x ∷ low y ∷ high y ∷ []) ≡ 0 ∷ 0 ∷ shown alike o (L ++ ts) = ap (λ (l : List ℕ). 0 ∷ 0 ∷ l) (sym (shown_append alike o L ts)) in
        let r : length (0 ∷ 0 ∷ shown alike o L) + 4 ≡ 2 + size (L ++ ts) = omega (arith, size_append L ts) in
        entry_all b (0 ∷ 0 ∷ shown alike o L) (filled a B) (cs ++ filled w (shown alike o X)) _ x y (sym k) (omega arith) (omega arith)
        ∙ (λ j. state_of (filled a B) (filled b ((p) j)) (cs ++ filled w (shown alike o X)) (record { tree = length B; list = (r) j; keys = size X; entries = (q) j; declarators = d; next = suc (length o); mark = m; helpers = u }))

    held_entry : (x y : ℕ) → Held s names o B L X e d m u later → Room (length B + 0) (size L + 4) (size X + 0) → After s names o B L X e d m u later (Named.entry x y)
    unfolding step event_of names_after order tree_of shown list_of keys_of entry_in_of declarator_in mark_after count_entry
    held_entry x y h r =
        let ts : List (Token A) = plain (low x) ∷ plain (high x) ∷ plain (low y) ∷ plain (high y) ∷ [] in
        let n : size (L ++ ts) ≡ size L + 4 = size_append L ts in
        let k : e < 65535 = omega (arith, h.entries, r.list) in
        held_as (none B) refl (none X) refl (plus_none d)
        (record {
          cs = h.cs;
          is = ap (λ (z : State). put_entry (count_entry z) x y) h.is ∙ entry_shape h.cs x y (one_more_of 65535 e) (one_entry k) r.list r.list_slice;
          cells = subst (λ (z : List (Token A)). Cells alike same self names h.cs o (L ++ ts) z later) (append-nil X) (plain_cells names h.cs o L X ts [] later (λ z. refl) (λ z. refl) h.cells);
          few = h.few;
          marks = h.marks;
          entries = omega (arith, h.entries);
          declarators = h.declarators;
        })

    one_declarator : d < 65535 → one_more_of 65535 d ≡ d + 1
    unfolding one_more_of
    one_declarator h = rw (lt-ltb d 65535 h)

    held_declarator_lem : Held s names o B L X e d m u later → Room (length B + 0) (size L + 0) (size X + 2) → After s names o B L X e d m u later Named.declarator
    unfolding step event_of names_after order tree_of shown list_of keys_of entry_in_of declarator_in mark_after count_declarator
    held_declarator_lem h r =
        let ts : List (Token A) = plain 5 ∷ plain 3 ∷ [] in
        let n : size (X ++ ts) ≡ size X + 2 = size_append X ts in
        let k : d < 65535 = omega (arith, h.declarators, r.keys) in
        held_as (none B) (none L) refl (plus_none e) refl
        (record {
          cs = h.cs;
          is = ap (λ (z : State). all_keys (count_declarator z) (5 ∷ 3 ∷ [])) h.is
              ∙ (λ j. all_keys (shape alike same self a b w B h.cs o L X e ((one_declarator k) j) m u) (5 ∷ 3 ∷ []))
              ∙ keys_shape names o B L X e (d + 1) m u later h.cs ts (5 ∷ 3 ∷ []) h.cells.long refl r.keys r.keys_slice;
          cells = subst (λ (z : List (Token A)). Cells alike same self names h.cs o z (X ++ ts) later) (append-nil L) (plain_cells names h.cs o L X [] ts later (λ z. refl) (λ z. refl) h.cells);
          few = h.few;
          marks = h.marks;
          entries = h.entries;
          declarators = omega (arith, h.declarators);
        })

    -- ---- a new temporary

    one_name : (n : A) (stem : ℕ) (y : A) → alike y n ≡ false → count alike y (temp n stem ∷ []) ≡ 0
    one_name n stem y t = rw t

    at_most_one : (n : A) (stem : ℕ) (y : A) → count alike y (temp n stem ∷ []) ≤ 1
    at_most_one n stem y = by_test (alike y n) (λ t. rw t (omega arith)) (λ t. rw t (omega arith))

    is_one : (n : A) (stem : ℕ) → count alike n (temp n stem ∷ []) ≡ 1
    is_one n stem = rw (self n)

    set_cell_shape : (names' : ℕ → A) (cs : List ℕ) (more : List A) (c v : ℕ) → Cells alike same self names cs o L X more → c < 16384
        → set_cell_in (shape alike same self a b w B cs o L X e d m u) c v ≡ shape alike same self a b w B (set_wide cs (2 * c) v) o L X e d m u
    unfolding set_cell_in
    set_cell_shape names' cs more c v h k =
        ap (λ (y : List ℕ). state_of (filled a B) (filled b (0 ∷ 0 ∷ shown alike o L)) y (record { tree = length B; list = 2 + size L; keys = size X; entries = e; declarators = d; next = suc (length o); mark = m; helpers = u }))
        (set_cell_is alike same self names cs o L X more h c k (filled w (shown alike o X)) v)

    held_make : (c : ℕ) (n : A) → c < 16384 → Held s names o B L X e d m u (n ∷ later) → After s names o B L X e d m u later (Named.make c n)
    unfolding step event_of names_after order tree_of shown list_of keys_of entry_in_of declarator_in mark_after
    held_make c n k h =
        let f = h.cells.free.0 in
        held_as (none B) refl refl (plus_none e) (plus_none d)
        (record {
          cs = set_wide h.cs (2 * c) 0;
          is = ap (λ (z : State). set_cell_in z c 0) h.is ∙ set_cell_shape names h.cs (n ∷ later) c 0 h.cells k
              ∙ (λ j. shape alike same self a b w B (set_wide h.cs (2 * c) 0) o ((none L) j) ((none X) j) e d m u);
          cells = cells_made alike same self names h.cs o L X later n c 0 [] [] h.cells k (omega arith) (λ y t. refl) (λ y t. refl)
              (zero_code (place alike n o) (count alike n (L ++ [])) (spot alike n (L ++ [])) (count alike n (X ++ [])) (spot alike n (X ++ []))
              f.numberless (ap (count alike n) (append-nil L) ∙ f.unlisted) (ap (count alike n) (append-nil X) ∙ f.kept))
              (λ y. omega arith);
          few = h.few;
          marks = h.marks;
          entries = omega (arith, h.entries, size_append L []);
          declarators = omega (arith, h.declarators, size_append X []);
        })

    listed_at_lem : (at : ℕ) → at < 16381 → listed_at at ≡ 16384 + (at + 2)
    unfolding listed_at
    listed_at_lem at h = rw (lt-ltb at 16381 h)

    excluded_at_lem : (at : ℕ) → at < 16381 → excluded_at at ≡ 32768 + (at + 2)
    unfolding excluded_at
    excluded_at_lem at h = rw (lt-ltb at 16381 h)

    -- a temporary without a number shows 0
    shown_none : (n : A) (stem : ℕ) → place alike n o ≡ 0 → shown alike o (temp n stem ∷ []) ≡ 20 ∷ 3 ∷ 0 ∷ 0 ∷ stem ∷ []
    unfolding shown
    shown_none n stem e = ap (λ (v : ℕ). 20 ∷ 3 ∷ v % 256 ∷ v / 256 ∷ stem ∷ []) e

    held_listed_temporary : (c stem : ℕ) (n : A) → c < 16384 → Held s names o B L X e d m u (n ∷ later) → Room (length B + 0) (size L + 5) (size X + 0)
        → After s names o B L X e d m u later (Named.listed_temporary c stem n)
    unfolding step event_of names_after order tree_of list_of keys_of entry_in_of declarator_in mark_after shown
    held_listed_temporary c stem n k h r =
        let f = h.cells.free.0 in
        let ts : List (Token A) = temp n stem ∷ [] in
        let v : listed_at (2 + size L) ≡ 16386 + spot alike n (L ++ ts) = listed_at_lem (2 + size L) (omega (arith, r.list)) ∙ omega (arith, spot_new alike self n stem L f.unlisted) in
        let y : count alike n (L ++ ts) ≡ 1 = omega (arith, count_append alike n L ts, f.unlisted, is_one n stem) in
        let z : count alike n (X ++ []) ≡ 0 = ap (count alike n) (append-nil X) ∙ f.kept in
        let q : size (L ++ ts) ≡ size L + 5 = size_append L ts in
        held_as (none B) refl refl (plus_none e) (plus_none d)
        (record {
          cs = set_wide h.cs (2 * c) (listed_at (2 + size L));
          is = ap (λ (t : State). all_list_of (set_cell_in t c (listed_at t.sink.list)) (20 ∷ 3 ∷ 0 ∷ 0 ∷ stem ∷ [])) h.is
              ∙ ap (λ (t : State). all_list_of t (20 ∷ 3 ∷ 0 ∷ 0 ∷ stem ∷ [])) (set_cell_shape names h.cs (n ∷ later) c (listed_at (2 + size L)) h.cells k)
              ∙ list_shape names o B L X e d m u later (set_wide h.cs (2 * c) (listed_at (2 + size L))) ts (20 ∷ 3 ∷ 0 ∷ 0 ∷ stem ∷ []) (shown_none n stem f.numberless) r.list r.list_slice
              ∙ (λ j. shape alike same self a b w B (set_wide h.cs (2 * c) (listed_at (2 + size L))) o (L ++ ts) ((none X) j) e d m u);
          cells = cells_made alike same self names h.cs o L X later n c (listed_at (2 + size L)) ts [] h.cells k
              (omega (arith, v, spot_new alike self n stem L f.unlisted, r.list)) (one_name n stem) (λ x t. refl)
              (v ∙ list_code (place alike n o) (count alike n (L ++ ts)) (spot alike n (L ++ ts)) (count alike n (X ++ [])) (spot alike n (X ++ [])) f.numberless y)
              (λ x. omega (arith, at_most_one n stem x));
          few = h.few;
          marks = h.marks;
          entries = omega (arith, h.entries);
          declarators = omega (arith, h.declarators, size_append X []);
        })

    held_excluded_temporary : (c stem : ℕ) (n : A) → c < 16384 → Held s names o B L X e d m u (n ∷ later) → Room (length B + 0) (size L + 0) (size X + 5)
        → After s names o B L X e d m u later (Named.excluded_temporary c stem n)
    unfolding step event_of names_after order tree_of list_of keys_of entry_in_of declarator_in mark_after shown
    held_excluded_temporary c stem n k h r =
        let f = h.cells.free.0 in
        let ts : List (Token A) = temp n stem ∷ [] in
        let v : excluded_at (size X) ≡ 32768 + spot alike n (X ++ ts) = excluded_at_lem (size X) (omega (arith, r.keys)) ∙ omega (arith, spot_new alike self n stem X f.kept) in
        let y : count alike n (X ++ ts) ≡ 1 = omega (arith, count_append alike n X ts, f.kept, is_one n stem) in
        let z : count alike n (L ++ []) ≡ 0 = ap (count alike n) (append-nil L) ∙ f.unlisted in
        let q : size (X ++ ts) ≡ size X + 5 = size_append X ts in
        held_as (none B) refl refl (plus_none e) (plus_none d)
        (record {
          cs = set_wide h.cs (2 * c) (excluded_at (size X));
          is = ap (λ (t : State). all_keys (set_cell_in t c (excluded_at t.sink.keys)) (20 ∷ 3 ∷ 0 ∷ 0 ∷ stem ∷ [])) h.is
              ∙ ap (λ (t : State). all_keys t (20 ∷ 3 ∷ 0 ∷ 0 ∷ stem ∷ [])) (set_cell_shape names h.cs (n ∷ later) c (excluded_at (size X)) h.cells k)
              ∙ keys_shape names o B L X e d m u later (set_wide h.cs (2 * c) (excluded_at (size X))) ts (20 ∷ 3 ∷ 0 ∷ 0 ∷ stem ∷ []) (length_wide h.cs (2 * c) (excluded_at (size X)) ∙ h.cells.long) (shown_none n stem f.numberless) r.keys r.keys_slice
              ∙ (λ j. shape alike same self a b w B (set_wide h.cs (2 * c) (excluded_at (size X))) o ((none L) j) (X ++ ts) e d m u);
          cells = cells_made alike same self names h.cs o L X later n c (excluded_at (size X)) [] ts h.cells k
              (omega (arith, v, spot_new alike self n stem X f.kept, r.keys)) (λ x t. refl) (one_name n stem)
              (v ∙ keys_code (place alike n o) (count alike n (L ++ [])) (spot alike n (L ++ [])) (count alike n (X ++ ts)) (spot alike n (X ++ ts)) f.numberless z y)
              (λ x. omega (arith, at_most_one n stem x));
          few = h.few;
          marks = h.marks;
          entries = omega (arith, h.entries, size_append L []);
          declarators = omega (arith, h.declarators);
        })

    -- ---- a temporary of the tree

    -- by its place so far
    held_temporary : (c stem : ℕ) → c < 16384 → Held s names o B L X e d m u later → Room (length B + 5) (size L + 0) (size X + 0)
        → After s names o B L X e d m u later (Named.temporary c stem)
    unfolding step event_of names_after order tree_of list_of keys_of entry_in_of declarator_in mark_after shown noted
    held_temporary c stem k h r = go (place alike (names c) o) refl
      where
        small : length o < 6554
        small = omega (arith, h.few, r.tree)

        room : size L + 2 ≤ 16384
        room = omega (arith, r.list)

        -- the state once the cell has its number v, and the five bytes
        written : (o' : List A) (cs' : List ℕ) (v : ℕ) → v < 65536 → place alike (names c) o' ≡ v → number_of (shape alike same self a b w B h.cs o L X e d m u) c ≡ v
            → settle (shape alike same self a b w B h.cs o L X e d m u) c ≡ shape alike same self a b w B cs' o' L X e d m u
            → all_tree (settle s c) (20 ∷ 3 ∷ low (number_of s c) ∷ high (number_of s c) ∷ stem ∷ []) ≡ shape alike same self a b w (B ++ (20 ∷ 3 ∷ place alike (names c) o' % 256 ∷ place alike (names c) o' / 256 ∷ stem ∷ [])) cs' o' L X e d m u
        written o' cs' v g p q t =
            ap (λ (z : State). all_tree (settle z c) (20 ∷ 3 ∷ low (number_of z c) ∷ high (number_of z c) ∷ stem ∷ [])) h.is
            ∙ (λ j. all_tree ((t) j) (20 ∷ 3 ∷ low ((q) j) ∷ high ((q) j) ∷ stem ∷ []))
            ∙ ap (all_tree (shape alike same self a b w B cs' o' L X e d m u)) (number_bytes_lem stem v g)
            ∙ tree_shape names o' B L X e d m u later cs' (20 ∷ 3 ∷ v % 256 ∷ v / 256 ∷ stem ∷ []) r.tree r.tree_slice
            ∙ ap (λ (n : ℕ). shape alike same self a b w (B ++ (20 ∷ 3 ∷ n % 256 ∷ n / 256 ∷ stem ∷ [])) cs' o' L X e d m u) (sym p)

        longer : (l : List ℕ) → length l ≡ 5 → length (B ++ l) ≡ length B + 5
        longer l g = length-append B l ∙ ap (λ (n : ℕ). length B + n) g

        go : (p : ℕ) → place alike (names c) o ≡ p
            → Held (all_tree (settle s c) (20 ∷ 3 ∷ low (number_of s c) ∷ high (number_of s c) ∷ stem ∷ [])) names (noted alike p o (names c))
            (B ++ (20 ∷ 3 ∷ place alike (names c) (noted alike p o (names c)) % 256 ∷ place alike (names c) (noted alike p o (names c)) / 256 ∷ stem ∷ [])) (L ++ []) (X ++ []) (e + 0) (d + 0) m u later
        go zero q =
            let o' : List A = o ++ (names c ∷ []) in
            let bs : List ℕ = 20 ∷ 3 ∷ place alike (names c) o' % 256 ∷ place alike (names c) o' / 256 ∷ stem ∷ [] in
            let n : length (B ++ bs) ≡ length B + 5 = longer bs refl in
            held_as refl (none L) (none X) (plus_none e) (plus_none d)
            (record {
              cs = set_wide h.cs (2 * c) (suc (length o));
              is = written o' (set_wide h.cs (2 * c) (suc (length o))) (suc (length o)) (omega arith) (place_new alike self (names c) o q)
                  (number_new alike same self names a b w B h.cs o L X e d m u later h.cells c k (omega arith) room q)
                  (settle_new alike same self names a b w B h.cs o L X e d m u later h.cells c k (omega arith) room q);
              cells = cells_numbered alike same self names h.cs o L X later h.cells c k q (omega arith);
              few = omega (arith, h.few, length-append o (names c ∷ []));
              marks = omega (arith, h.marks);
              entries = h.entries;
              declarators = h.declarators;
            })
        go (suc p) q =
            let bs : List ℕ = 20 ∷ 3 ∷ place alike (names c) o % 256 ∷ place alike (names c) o / 256 ∷ stem ∷ [] in
            let n : length (B ++ bs) ≡ length B + 5 = longer bs refl in
            held_as refl (none L) (none X) (plus_none e) (plus_none d)
            (record {
              cs = h.cs;
              is = written o h.cs (suc p) (omega (arith, place_le alike (names c) o)) q
                  (number_old alike same self names a b w B h.cs o L X e d m u later h.cells c k (omega arith) room p q)
                  (settle_old alike same self names a b w B h.cs o L X e d m u later h.cells c k (omega arith) room p q);
              cells = h.cells;
              few = omega (arith, h.few);
              marks = omega (arith, h.marks);
              entries = h.entries;
              declarators = h.declarators;
            })

    -- any event
    pub held_event : (ev : Named A) → CellOk ev → Held s names o B L X e d m u (made_by ev ++ later)
        → Room (length B + size (tree_of names m ev)) (size L + size (list_of ev)) (size X + size (keys_of ev)) → After s names o B L X e d m u later ev
    unfolding made_by tree_of list_of keys_of
    held_event (Named.put x) k h r = held_put x h r
    held_event (Named.helper x) k h r = held_helper x h r
    held_event (Named.temporary c stem) k h r = held_temporary c stem k h r
    held_event Named.new_mark k h r = held_mark h r
    held_event (Named.make c n) k h r = held_make c n k h
    held_event (Named.listed x) k h r = held_listed x h r
    held_event (Named.listed_temporary c stem n) k h r = held_listed_temporary c stem n k h r
    held_event (Named.entry x y) k h r = held_entry x y h r
    held_event (Named.excluded x) k h r = held_excluded x h r
    held_event (Named.excluded_temporary c stem n) k h r = held_excluded_temporary c stem n k h r
    held_event Named.declarator k h r = held_declarator_lem h r

  -- ---- a run of events

  -- the bytes of the tree so far, and those of the rest
  tree_joined : (o : List A) (B : List ℕ) (x y : List (Token A))
      → (B ++ shown alike (order alike o x) x) ++ shown alike (order alike (order alike o x) y) y ≡ B ++ shown alike (order alike (order alike o x) y) (x ++ y)
  tree_joined o B x y =
      append_assoc B _ _
      ∙ ap (λ (l : List ℕ). B ++ (l ++ shown alike (order alike (order alike o x) y) y)) (sym (shown_kept alike self x y o))
      ∙ ap (λ (l : List ℕ). B ++ l) (sym (shown_append alike (order alike (order alike o x) y) x y))

  held_none : (s : State) (names : ℕ → A) (o : List A) (B : List ℕ) (L X : List (Token A)) (e d m : ℕ) (u : Helpers) → Held s names o B L X e d m u []
      → Held s names (order alike o []) (B ++ shown alike (order alike o []) []) (L ++ []) (X ++ []) (e + 0) (d + 0) m u []
  unfolding order shown
  held_none s names o B L X e d m u h = held_as (none B) (none L) (none X) (plus_none e) (plus_none d) h

  pub held_events : (es : List (Named A)) (s : State) (names : ℕ → A) (o : List A) (B : List ℕ) (L X : List (Token A)) (e d m : ℕ) (u : Helpers) → CellsOk es
      → Held s names o B L X e d m u (made_in_of es) → Room (length B + size (tree_tokens names m es)) (size L + size (list_tokens es)) (size X + size (keys_tokens es))
      → Held (steps s (events_of es)) (names_over names es) (order alike o (tree_tokens names m es)) (B ++ shown alike (order alike o (tree_tokens names m es)) (tree_tokens names m es))
      (L ++ list_tokens es) (X ++ keys_tokens es) (e + entries_in es) (d + declarators_in es) (marks_over m es) (helpers_over u es) []
  unfolding steps events_of tree_tokens list_tokens keys_tokens entries_in declarators_in made_in_of names_over marks_over
  held_events [] s names o B L X e d m u k h r = held_none s names o B L X e d m u h
  held_events (ev ∷ es) s names o B L X e d m u k h r =
      let x : List (Token A) = tree_of names m ev in
      let y : List (Token A) = tree_tokens (names_after names ev) (mark_after m ev) es in
      let o₁ : List A = order alike o x in
      let p : size (x ++ y) ≡ size x + size y = size_append x y in
      let q : size (list_of ev ++ list_tokens es) ≡ size (list_of ev) + size (list_tokens es) = size_append (list_of ev) (list_tokens es) in
      let t : size (keys_of ev ++ keys_tokens es) ≡ size (keys_of ev) + size (keys_tokens es) = size_append (keys_of ev) (keys_tokens es) in
      let first = held_event s names o B L X e d m u (made_in_of es) ev k.0 h
      (record { tree = omega (arith, r.tree); tree_slice = omega (arith, r.tree_slice); list = omega (arith, r.list); list_slice = omega (arith, r.list_slice); keys = omega (arith, r.keys); keys_slice = omega (arith, r.keys_slice) }) in
      let nB : length (B ++ shown alike o₁ x) ≡ length B + size x = length-append B (shown alike o₁ x) ∙ ap (λ (n : ℕ). length B + n) (length_shown alike o₁ x) in
      let nL : size (L ++ list_of ev) ≡ size L + size (list_of ev) = size_append L (list_of ev) in
      let nX : size (X ++ keys_of ev) ≡ size X + size (keys_of ev) = size_append X (keys_of ev) in
      let rest = held_events es (step s (event_of ev)) (names_after names ev) o₁ (B ++ shown alike o₁ x) (L ++ list_of ev) (X ++ keys_of ev) (e + entry_in_of ev) (d + declarator_in ev) (mark_after m ev) (helpers_after u ev) k.1 first
      (record { tree = omega (arith, r.tree); tree_slice = omega (arith, r.tree_slice); list = omega (arith, r.list); list_slice = omega (arith, r.list_slice); keys = omega (arith, r.keys); keys_slice = omega (arith, r.keys_slice) }) in
      let eE : e + entry_in_of ev + entries_in es ≡ e + (entry_in_of ev + entries_in es) = omega arith in
      let eD : d + declarator_in ev + declarators_in es ≡ d + (declarator_in ev + declarators_in es) = omega arith in
      subst (λ (z : List A). Held (steps (step s (event_of ev)) (events_of es)) (names_over (names_after names ev) es) z (B ++ shown alike z (x ++ y)) (L ++ (list_of ev ++ list_tokens es)) (X ++ (keys_of ev ++ keys_tokens es))
      (e + (entry_in_of ev + entries_in es)) (d + (declarator_in ev + declarators_in es)) (marks_over (mark_after m ev) es) (helpers_over (helpers_after u ev) es) [])
      (sym (order_append alike x y o))
      (held_as (tree_joined o B x y) (append_assoc L (list_of ev) (list_tokens es)) (append_assoc X (keys_of ev) (keys_tokens es)) eE eD rest)
