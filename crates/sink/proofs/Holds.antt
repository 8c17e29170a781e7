-- What the machine holds after a run of events that stays within the limits and the slices.
-- Assumes nothing.
use mathlib.Core.Path.{◌≡◌, refl, sym, ap, subst, ◌∙◌}
use mathlib.Core.Bool.{Bool, true, false}
use mathlib.Core.List.{List, [], ◌∷◌, ◌++◌}
use Prim.Native.Nat.{ℕ, zero, suc, ◌+◌, ◌-◌, ◌*◌, ◌<◌, ◌≤◌}
use native.Mathlib.Omega.{arith}
use lib.Dec.{eqb}
use lib.ListN.{length, length-append}
use borrow.Author.Tests.{lt-ltb, le-ltb, eq-eqb, ne_eqb, eqb-true, eqb-false}
use Rattle.sink.specs.declared.Helpers.{Helpers}
use Rattle.sink.specs.Machine.{State, state_of, one_more_of, wide_in, set_wide, cell_of, set_cell, known, patch_list, patch_work, number_of, settle}
use Rattle.sink.specs.Shown.{Token, Every, Apart, renamed, place, shown, filled}
use Rattle.sink.proofs.Runs.{by_test, unlike_sym, filled_wide, wide_right, wide_left, read_left, length_wide, read_same, read_other}
use Rattle.sink.proofs.Names.{wide_cons, size, count, spot, length_shown, count_append, place_le, place_other, place_new, spot_kept, spot_within, shown_other, shown_patch}

-- what a cell says of a name: its place, or where it stands among the list's tokens or the excluded ones
abbrev pub code : ℕ → ℕ → ℕ → ℕ → ℕ → ℕ
code (suc p) cl sl cx sx = suc p
code zero (suc n) sl cx sx = 16386 + sl
code zero zero sl (suc n) sx = 32768 + sx
code zero zero sl zero sx = 0

pub code_as : (p p' cl cl' sl sl' cx cx' sx sx' : ℕ) → p' ≡ p → cl' ≡ cl → ((k : ℕ) → cl ≡ suc k → sl' ≡ sl) → cx' ≡ cx → ((k : ℕ) → cx ≡ suc k → sx' ≡ sx)
    → code p cl sl cx sx ≡ code p' cl' sl' cx' sx'
code_as p p' cl cl' sl sl' cx cx' sx sx' e f g h i =
    ap (λ (x : ℕ). code x cl sl cx sx) (sym e) ∙ ap (λ (x : ℕ). code p' x sl cx sx) (sym f) ∙ ap (λ (x : ℕ). code p' cl' sl x sx) (sym h)
    ∙ inner p' cl' sl sl' cx' sx sx' (λ k q. g k (sym f ∙ q)) (λ k q. i k (sym h ∙ q))
  where
    inner : (p cl sl sl' cx sx sx' : ℕ) → ((k : ℕ) → cl ≡ suc k → sl' ≡ sl) → ((k : ℕ) → cx ≡ suc k → sx' ≡ sx) → code p cl sl cx sx ≡ code p cl sl' cx sx'
    inner (suc p) cl sl sl' cx sx sx' g i = refl
    inner zero (suc n) sl sl' cx sx sx' g i = ap (λ (x : ℕ). 16386 + x) (sym (g n refl))
    inner zero zero sl sl' (suc n) sx sx' g i = ap (λ (x : ℕ). 32768 + x) (sym (i n refl))
    inner zero zero sl sl' zero sx sx' g i = refl

module _ {A : Type 0} (alike : A → A → Bool) (same : (a b : A) → alike a b ≡ true → a ≡ b) (self : (a : A) → alike a a ≡ true) where
  abbrev pub code_of : List A → List (Token A) → List (Token A) → A → ℕ
  code_of o L X a = code (place alike a o) (count alike a L) (spot alike a L) (count alike a X) (spot alike a X)

  -- a name that nothing has yet
  pub record Free (names : ℕ → A) (o : List A) (L X : List (Token A)) (a : A) : Type 0 where
    pub numberless : place alike a o ≡ 0
    pub unlisted : count alike a L ≡ 0
    pub kept : count alike a X ≡ 0
    pub other : (c : ℕ) → c < 16384 → alike a (names c) ≡ false

  -- the cells say what they should, and the names that are still to be made are free
  pub record Cells (names : ℕ → A) (cs : List ℕ) (o : List A) (L X : List (Token A)) (later : List A) : Type 0 where
    pub long : length cs ≡ 32768
    pub each : (c : ℕ) → c < 16384 → wide_in cs (2 * c) ≡ code_of o L X (names c)
    pub differ : (c d : ℕ) → c < 16384 → d < 16384 → alike (names c) (names d) ≡ true → c ≡ d
    pub once : (a : A) → count alike a L + count alike a X ≤ 1
    pub free : Every (λ a. Free names o L X a) later
    pub apart : Apart alike later

  -- ---- a cell that is made anew

  pub every_map : {P Q : A → Type 0} (l : List A) → ((a : A) → P a → Q a) → Every P l → Every Q l
  every_map [] f e = tt
  every_map (a ∷ l) f e = (f a e.0, every_map l f e.1)

  every_two : {P Q R : A → Type 0} (l : List A) → ((a : A) → P a → Q a → R a) → Every P l → Every Q l → Every R l
  every_two [] f e g = tt
  every_two (a ∷ l) f e g = (f a e.0 g.0, every_two l f e.1 g.1)

  renamed_same : (names : ℕ → A) (c : ℕ) (a : A) → renamed names c a c ≡ a
  unfolding renamed
  renamed_same names c a = rw (eq-eqb c c refl)

  renamed_other : (names : ℕ → A) (c : ℕ) (a : A) (d : ℕ) → (d ≡ c → ⊥) → renamed names c a d ≡ names d
  unfolding renamed
  renamed_other names c a d h = rw (ne_eqb d c h)

  -- a name that is none of a row's does not change what the cells say when it is added there
  module _ (names : ℕ → A) (cs : List ℕ) (o : List A) (L X : List (Token A)) (later : List A) (a : A) (c v : ℕ) (M Y : List (Token A))
      (h : Cells names cs o L X (a ∷ later)) (k : c < 16384) (small : v < 65536)
      (rowsL : (b : A) → alike b a ≡ false → count alike b M ≡ 0) (rowsX : (b : A) → alike b a ≡ false → count alike b Y ≡ 0)
      (new : v ≡ code_of o (L ++ M) (X ++ Y) a) (few : (b : A) → count alike b M + count alike b Y ≤ 1) where
    none_L : (b : A) → alike b a ≡ false → count alike b (L ++ M) ≡ count alike b L
    none_L b e = omega (arith, count_append alike b L M, rowsL b e)

    none_X : (b : A) → alike b a ≡ false → count alike b (X ++ Y) ≡ count alike b X
    none_X b e = omega (arith, count_append alike b X Y, rowsX b e)

    says_other : (b : A) → alike b a ≡ false → code_of o L X b ≡ code_of o (L ++ M) (X ++ Y) b
    says_other b e =
        code_as (place alike b o) (place alike b o) (count alike b L) (count alike b (L ++ M)) (spot alike b L) (spot alike b (L ++ M)) (count alike b X) (count alike b (X ++ Y)) (spot alike b X) (spot alike b (X ++ Y))
        refl (none_L b e) (λ n q. spot_kept alike b L M n q) (none_X b e) (λ n q. spot_kept alike b X Y n q)

    said : (d : ℕ) → d < 16384 → wide_in (set_wide cs (2 * c) v) (2 * d) ≡ code_of o (L ++ M) (X ++ Y) (renamed names c a d)
    said d e =
        by_test (eqb d c)
        (λ t. let z : d ≡ c = eqb-true d c t in
        ap (λ (x : ℕ). wide_in (set_wide cs (2 * c) v) (2 * x)) z ∙ read_same cs (2 * c) v small (omega (arith, h.long)) ∙ new
        ∙ ap (code_of o (L ++ M) (X ++ Y)) (sym (renamed_same names c a) ∙ ap (renamed names c a) (sym z)))
        (λ t. let z : d ≡ c → ⊥ = eqb-false d c t in
        read_other cs c d v z ∙ h.each d e ∙ says_other (names d) (unlike_sym alike same self a (names d) (h.free.0.other d e))
        ∙ ap (code_of o (L ++ M) (X ++ Y)) (sym (renamed_other names c a d z)))

    still_differ : (d e : ℕ) → d < 16384 → e < 16384 → alike (renamed names c a d) (renamed names c a e) ≡ true → d ≡ e
    still_differ d e p q r =
        by_test (eqb d c)
        (λ t. let z : d ≡ c = eqb-true d c t in
        by_test (eqb e c)
        (λ u. z ∙ sym (eqb-true e c u))
        (λ u. absurd (let f : alike a (names e) ≡ true = sym (ap (λ (x : A). alike x (renamed names c a e)) (ap (renamed names c a) z ∙ renamed_same names c a) ∙ ap (alike a) (renamed_other names c a e (eqb-false e c u))) ∙ r in
        let y : ◌≡◌ {A = Bool} true false = sym f ∙ h.free.0.other e q in let w : ◌≡◌ {A = ℕ} 0 1 = cc in omega arith)))
        (λ t. let z : d ≡ c → ⊥ = eqb-false d c t in
        by_test (eqb e c)
        (λ u. absurd (let f : alike (names d) a ≡ true = sym (ap (λ (x : A). alike x (renamed names c a e)) (renamed_other names c a d z) ∙ ap (alike (names d)) (ap (renamed names c a) (eqb-true e c u) ∙ renamed_same names c a)) ∙ r in
        let y : ◌≡◌ {A = Bool} true false = sym f ∙ unlike_sym alike same self a (names d) (h.free.0.other d p) in let w : ◌≡◌ {A = ℕ} 0 1 = cc in omega arith))
        (λ u. h.differ d e p q (sym (ap (λ (x : A). alike x (renamed names c a e)) (renamed_other names c a d z) ∙ ap (alike (names d)) (renamed_other names c a e (eqb-false e c u))) ∙ r)))

    still_once : (b : A) → count alike b (L ++ M) + count alike b (X ++ Y) ≤ 1
    still_once b =
        by_test (alike b a)
        (λ t. let z : b ≡ a = same b a t in
        subst (λ (x : A). count alike x (L ++ M) + count alike x (X ++ Y) ≤ 1) (sym z)
        (omega (arith, count_append alike a L M, count_append alike a X Y, h.free.0.unlisted, h.free.0.kept, few a)))
        (λ t. omega (arith, none_L b t, none_X b t, h.once b))

    still_free : (b : A) → Free names o L X b → alike a b ≡ false → Free (renamed names c a) o (L ++ M) (X ++ Y) b
    still_free b f e =
        record {
          numberless = f.numberless;
          unlisted = none_L b (unlike_sym alike same self a b e) ∙ f.unlisted;
          kept = none_X b (unlike_sym alike same self a b e) ∙ f.kept;
          other = λ d q. by_test (eqb d c)
              (λ t. ap (alike b) (ap (renamed names c a) (eqb-true d c t) ∙ renamed_same names c a) ∙ unlike_sym alike same self a b e)
              (λ t. ap (alike b) (renamed_other names c a d (eqb-false d c t)) ∙ f.other d q);
        }

    pub cells_made : Cells (renamed names c a) (set_wide cs (2 * c) v) o (L ++ M) (X ++ Y) later
    cells_made =
        record {
          long = length_wide cs (2 * c) v ∙ h.long;
          each = said;
          differ = still_differ;
          once = still_once;
          free = every_two later still_free h.free.1 h.apart.0;
          apart = h.apart.1;
        }

  -- ---- a temporary of the tree: its cell has a number, or takes the next one

  module _ (names : ℕ → A) (cs : List ℕ) (o : List A) (L X : List (Token A)) (later : List A) (h : Cells names cs o L X later) (c : ℕ) (k : c < 16384) where
    pub cell_is : (ys : List ℕ) → cell_of (cs ++ ys) c ≡ code_of o L X (names c)
    unfolding cell_of
    cell_is ys = rw (lt-ltb c 16384 k) (read_left cs ys (2 * c) (omega (arith, h.long)) ∙ h.each c k)

    pub set_cell_is : (ys : List ℕ) (v : ℕ) → set_cell (cs ++ ys) c v ≡ set_wide cs (2 * c) v ++ ys
    unfolding set_cell
    set_cell_is ys v = rw (lt-ltb c 16384 k) (wide_left cs ys (2 * c) v (omega (arith, h.long)))

    unlike_cell : (d : ℕ) → d < 16384 → (d ≡ c → ⊥) → alike (names c) (names d) ≡ false
    unlike_cell d e z = by_test (alike (names c) (names d)) (λ t. absurd (z (sym (h.differ c d k e t)))) (λ t. t)

    module _ (p : place alike (names c) o ≡ 0) (few : length o < 16382) where
      cell_after : (d : ℕ) → d < 16384 → wide_in (set_wide cs (2 * c) (suc (length o))) (2 * d) ≡ code_of (o ++ (names c ∷ [])) L X (names d)
      cell_after d e =
          by_test (eqb d c)
          (λ t. let z : d ≡ c = eqb-true d c t in
          ap (λ (x : ℕ). wide_in (set_wide cs (2 * c) (suc (length o))) (2 * x)) z ∙ read_same cs (2 * c) (suc (length o)) (omega arith) (omega (arith, h.long))
          ∙ ap (λ (q : ℕ). code q (count alike (names c) L) (spot alike (names c) L) (count alike (names c) X) (spot alike (names c) X)) (sym (place_new alike self (names c) o p))
          ∙ ap (λ (x : ℕ). code_of (o ++ (names c ∷ [])) L X (names x)) (sym z))
          (λ t. let z : d ≡ c → ⊥ = eqb-false d c t in
          read_other cs c d (suc (length o)) z ∙ h.each d e
          ∙ ap (λ (q : ℕ). code q (count alike (names d) L) (spot alike (names d) L) (count alike (names d) X) (spot alike (names d) X)) (sym (place_other alike (names d) (names c) o (unlike_cell d e z))))

      pub cells_numbered : Cells names (set_wide cs (2 * c) (suc (length o))) (o ++ (names c ∷ [])) L X later
      cells_numbered =
          record {
            long = length_wide cs (2 * c) (suc (length o)) ∙ h.long;
            each = cell_after;
            differ = h.differ;
            once = h.once;
            free = every_map later
                (λ b f. record { numberless = place_other alike b (names c) o (unlike_sym alike same self b (names c) (f.other c k)) ∙ f.numberless; unlisted = f.unlisted; kept = f.kept; other = f.other })
                h.free;
            apart = h.apart;
          }

  -- the number goes to where the name stands
  module _ (o : List A) (L X : List (Token A)) (a : A) (p : place alike a o ≡ 0) (once : count alike a L + count alike a X ≤ 1) (few : length o < 16382) (room : size L + 2 ≤ 16384) where
    list_same : (b : ℕ) → count alike a L ≡ 0 → filled b (0 ∷ 0 ∷ shown alike o L) ≡ filled b (0 ∷ 0 ∷ shown alike (o ++ (a ∷ [])) L)
    list_same b e = ap (λ (l : List ℕ). filled b (0 ∷ 0 ∷ l)) (sym (shown_other alike a o L e))

    list_changed : (b n : ℕ) → count alike a L ≡ suc n
        → set_wide (filled b (0 ∷ 0 ∷ shown alike o L)) (16386 + spot alike a L - 16384) (suc (length o)) ≡ filled b (0 ∷ 0 ∷ shown alike (o ++ (a ∷ [])) L)
    list_changed b n e =
        let i : 16386 + spot alike a L - 16384 ≡ 1 + (1 + spot alike a L) = omega arith in
        let r : 1 + (1 + spot alike a L) + 1 < length (0 ∷ 0 ∷ shown alike o L) = omega (arith, length_shown alike o L, spot_within alike a L n e) in
        let u : count alike a L ≡ 1 = omega arith in
        ap (λ (x : ℕ). set_wide (filled b (0 ∷ 0 ∷ shown alike o L)) x (suc (length o))) i
        ∙ filled_wide b (0 ∷ 0 ∷ shown alike o L) (1 + (1 + spot alike a L)) (suc (length o)) r
        ∙ ap (filled b) (wide_cons 0 (0 ∷ shown alike o L) (1 + spot alike a L) (suc (length o))
        ∙ ap (λ (l : List ℕ). 0 ∷ l) (wide_cons 0 (shown alike o L) (spot alike a L) (suc (length o)) ∙ ap (λ (l : List ℕ). 0 ∷ l) (shown_patch alike same self a o L p (omega arith) u)))

    keys_same : (cs : List ℕ) (w : ℕ) → count alike a X ≡ 0 → cs ++ filled w (shown alike o X) ≡ cs ++ filled w (shown alike (o ++ (a ∷ [])) X)
    keys_same cs w e = ap (λ (l : List ℕ). cs ++ filled w l) (sym (shown_other alike a o X e))

    keys_changed : (cs : List ℕ) (w n : ℕ) → length cs ≡ 32768 → count alike a X ≡ suc n
        → set_wide (cs ++ filled w (shown alike o X)) (32768 + spot alike a X) (suc (length o)) ≡ cs ++ filled w (shown alike (o ++ (a ∷ [])) X)
    keys_changed cs w n d e =
        let r : spot alike a X + 1 < length (shown alike o X) = omega (arith, length_shown alike o X, spot_within alike a X n e) in
        let u : count alike a X ≡ 1 = omega arith in
        wide_right cs (filled w (shown alike o X)) (spot alike a X) 32768 (suc (length o)) d
        ∙ ap (λ (l : List ℕ). cs ++ l) (filled_wide w (shown alike o X) (spot alike a X) (suc (length o)) r ∙ ap (filled w) (shown_patch alike same self a o X p (omega arith) u))

    pub list_patched : (b cl cx : ℕ) → count alike a L ≡ cl → count alike a X ≡ cx
        → patch_list (code 0 cl (spot alike a L) cx (spot alike a X)) (suc (length o)) (filled b (0 ∷ 0 ∷ shown alike o L)) ≡ filled b (0 ∷ 0 ∷ shown alike (o ++ (a ∷ [])) L)
    unfolding patch_list
    list_patched b (suc n) cx e f =
        let q : spot alike a L + 2 ≤ size L = spot_within alike a L n e in
        rw (le-ltb (16386 + spot alike a L) 16384 (omega arith), lt-ltb (16386 + spot alike a L) 32768 (omega arith)) (list_changed b n e)
    list_patched b zero (suc n) e f = rw (le-ltb (32768 + spot alike a X) 16384 (omega arith), le-ltb (32768 + spot alike a X) 32768 (omega arith)) (list_same b e)
    list_patched b zero zero e f = list_same b e

    pub keys_patched : (cs : List ℕ) (w cl cx : ℕ) → length cs ≡ 32768 → count alike a L ≡ cl → count alike a X ≡ cx
        → patch_work (code 0 cl (spot alike a L) cx (spot alike a X)) (suc (length o)) (cs ++ filled w (shown alike o X)) ≡ cs ++ filled w (shown alike (o ++ (a ∷ [])) X)
    unfolding patch_work
    keys_patched cs w (suc n) cx d e f =
        let q : spot alike a L + 2 ≤ size L = spot_within alike a L n e in
        let z : count alike a X ≡ 0 = omega arith in
        rw (lt-ltb (16386 + spot alike a L) 32768 (omega arith)) (keys_same cs w z)
    keys_patched cs w zero (suc n) d e f = rw (le-ltb (32768 + spot alike a X) 32768 (omega arith)) (keys_changed cs w n d f)
    keys_patched cs w zero zero d e f = keys_same cs w f

  known_not : (cl sl cx sx : ℕ) → known (code 0 cl sl cx sx) ≡ false
  unfolding known
  known_not (suc n) sl cx sx = rw (lt-ltb 0 (16386 + sl) (omega arith)) (le-ltb (16386 + sl) 16384 (omega arith))
  known_not zero sl (suc n) sx = rw (lt-ltb 0 (32768 + sx) (omega arith)) (le-ltb (32768 + sx) 16384 (omega arith))
  known_not zero sl zero sx = refl

  known_is : (p : ℕ) → suc p < 16384 → known (suc p) ≡ true
  unfolding known
  known_is p h = rw (lt-ltb 0 (suc p) (omega arith)) (lt-ltb (suc p) 16384 h)

  -- ---- the state, by its parts: slices of a and b bytes, w bytes of the work slice after the cells

  abbrev pub shape : (a b w : ℕ) (B cs : List ℕ) (o : List A) (L X : List (Token A)) (e d m : ℕ) (u : Helpers) → State
  shape a b w B cs o L X e d m u =
      state_of (filled a B) (filled b (0 ∷ 0 ∷ shown alike o L)) (cs ++ filled w (shown alike o X))
      (record { tree = length B; list = 2 + size L; keys = size X; entries = e; declarators = d; next = suc (length o); mark = m; helpers = u })

  module _ (names : ℕ → A) (a b w : ℕ) (B cs : List ℕ) (o : List A) (L X : List (Token A)) (e d m : ℕ) (u : Helpers) (later : List A)
      (h : Cells names cs o L X later) (c : ℕ) (k : c < 16384) (few : length o < 16382) (room : size L + 2 ≤ 16384) where
    pub number_old : (p : ℕ) → place alike (names c) o ≡ suc p → number_of (shape a b w B cs o L X e d m u) c ≡ suc p
    unfolding number_of
    number_old p q =
        let v : cell_of (cs ++ filled w (shown alike o X)) c ≡ suc p = cell_is names cs o L X later h c k _ ∙ ap (λ (x : ℕ). code x (count alike (names c) L) (spot alike (names c) L) (count alike (names c) X) (spot alike (names c) X)) q in
        let y : known (cell_of (cs ++ filled w (shown alike o X)) c) ≡ true = ap known v ∙ known_is p (omega (arith, place_le alike (names c) o)) in
        rw y v

    pub settle_old : (p : ℕ) → place alike (names c) o ≡ suc p → settle (shape a b w B cs o L X e d m u) c ≡ shape a b w B cs o L X e d m u
    unfolding settle
    settle_old p q =
        let v : cell_of (cs ++ filled w (shown alike o X)) c ≡ suc p = cell_is names cs o L X later h c k _ ∙ ap (λ (x : ℕ). code x (count alike (names c) L) (spot alike (names c) L) (count alike (names c) X) (spot alike (names c) X)) q in
        let y : known (cell_of (cs ++ filled w (shown alike o X)) c) ≡ true = ap known v ∙ known_is p (omega (arith, place_le alike (names c) o)) in
        rw y

    cell_new : place alike (names c) o ≡ 0 → cell_of (cs ++ filled w (shown alike o X)) c ≡ code 0 (count alike (names c) L) (spot alike (names c) L) (count alike (names c) X) (spot alike (names c) X)
    cell_new q = cell_is names cs o L X later h c k _ ∙ ap (λ (x : ℕ). code x (count alike (names c) L) (spot alike (names c) L) (count alike (names c) X) (spot alike (names c) X)) q

    pub number_new : place alike (names c) o ≡ 0 → number_of (shape a b w B cs o L X e d m u) c ≡ suc (length o)
    unfolding number_of
    number_new q =
        let y : known (cell_of (cs ++ filled w (shown alike o X)) c) ≡ false = ap known (cell_new q) ∙ known_not (count alike (names c) L) (spot alike (names c) L) (count alike (names c) X) (spot alike (names c) X) in
        rw y

    next_number : one_more_of 16383 (suc (length o)) ≡ suc (length (o ++ (names c ∷ [])))
    unfolding one_more_of
    next_number = rw (lt-ltb (suc (length o)) 16383 (omega arith)) (omega (arith, length-append o (names c ∷ [])))

    pub settle_new : place alike (names c) o ≡ 0 → settle (shape a b w B cs o L X e d m u) c ≡ shape a b w B (set_wide cs (2 * c) (suc (length o))) (o ++ (names c ∷ [])) L X e d m u
    unfolding settle
    settle_new q =
        let y : known (cell_of (cs ++ filled w (shown alike o X)) c) ≡ false = ap known (cell_new q) ∙ known_not (count alike (names c) L) (spot alike (names c) L) (count alike (names c) X) (spot alike (names c) X) in
        let l : patch_list (cell_of (cs ++ filled w (shown alike o X)) c) (suc (length o)) (filled b (0 ∷ 0 ∷ shown alike o L)) ≡ filled b (0 ∷ 0 ∷ shown alike (o ++ (names c ∷ [])) L)
        = ap (λ (v : ℕ). patch_list v (suc (length o)) (filled b (0 ∷ 0 ∷ shown alike o L))) (cell_new q) ∙ list_patched o L X (names c) q (h.once (names c)) few room b _ _ refl refl in
        let x : patch_work (cell_of (cs ++ filled w (shown alike o X)) c) (suc (length o)) (cs ++ filled w (shown alike o X)) ≡ cs ++ filled w (shown alike (o ++ (names c ∷ [])) X)
        = ap (λ (v : ℕ). patch_work v (suc (length o)) (cs ++ filled w (shown alike o X))) (cell_new q) ∙ keys_patched o L X (names c) q (h.once (names c)) few room cs w _ _ h.long refl refl in
        let z : set_cell (patch_work (cell_of (cs ++ filled w (shown alike o X)) c) (suc (length o)) (cs ++ filled w (shown alike o X))) c (suc (length o)) ≡ set_wide cs (2 * c) (suc (length o)) ++ filled w (shown alike (o ++ (names c ∷ [])) X)
        = ap (λ (l : List ℕ). set_cell l c (suc (length o))) x ∙ set_cell_is names cs o L X later h c k _ (suc (length o)) in
        rw y
        (λ j. state_of (filled a B) ((l) j) ((z) j)
        (record { tree = length B; list = 2 + size L; keys = size X; entries = e; declarators = d; next = (next_number) j; mark = m; helpers = u }))
