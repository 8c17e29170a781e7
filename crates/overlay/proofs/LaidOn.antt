-- Definitions laid on an object one by one, or gathered in an object first.
-- Assumes nothing.
use mathlib.Core.Path.{◌≡◌, refl, sym, ap, ◌∙◌}
use mathlib.Core.Bool.{Bool, true, false, cond, ◌&&◌, not}
use mathlib.Core.List.{List, [], ◌∷◌}
use Prim.Native.Nat.{ℕ, ◌+◌, ◌*◌, ◌-◌, ◌<◌, ◌≤◌}
use native.Mathlib.Omega.{arith}
use lib.Dec.{eqb, ltb, leb}
use borrow.Author.Tests.{eq-eqb, eqb-true, lt-ltb, le-ltb, ltb-true, ltb-false}
use Rattle.overlay.specs.Objects.{Key, Value, Props, same_text, same, top, digits, index_of, rank, is_name_of, put, overlay, keys_of, find, pick, filter, names_first}
use Rattle.overlay.specs.Objects.Key.{name, symbol}
use Rattle.overlay.specs.Objects.Props.{empty, entry}
use Rattle.lowering.proofs.Cases.{by_test, and_left, and_right}

pub differ : {A : Type 0} → true ≡ false → A
differ e = absurd (let z : ◌≡◌ {A = ℕ} 0 1 = ap (λ (b : Bool). cond b 0 1) e in omega arith)

pub text_is : (s t : List ℕ) → same_text s t ≡ true → s ≡ t
text_is [] [] e = refl
text_is [] (y ∷ ys) e = differ (sym e)
text_is (x ∷ xs) [] e = differ (sym e)
text_is (x ∷ xs) (y ∷ ys) e =
    let p : x ≡ y = eqb-true x y (and_left (eqb x y) (same_text xs ys) e) in
    let q : xs ≡ ys = text_is xs ys (and_right (eqb x y) (same_text xs ys) e) in
    cc

pub text_same : (s : List ℕ) → same_text s s ≡ true
text_same [] = refl
text_same (x ∷ xs) = rw (eq-eqb x x refl, text_same xs) refl

pub same_is : (k l : Key) → same k l ≡ true → k ≡ l
unfolding same
same_is (name s) (name t) e = ap name (text_is s t e)
same_is (name s) (symbol n) e = differ (sym e)
same_is (symbol m) (name t) e = differ (sym e)
same_is (symbol m) (symbol n) e = ap symbol (eqb-true m n e)

pub same_self : (k : Key) → same k k ≡ true
unfolding same
same_self (name s) = text_same s
same_self (symbol n) = eq-eqb n n refl

same_sym : (k l : Key) → same k l ≡ false → same l k ≡ false
same_sym k l e = by_test (same l k) (λ p. differ (sym (same_self k) ∙ ap (λ (x : Key). same k x) (sym (same_is l k p)) ∙ e)) (λ p. p)

below_differs : (k l : Key) → rank k < rank l → same k l ≡ false
below_differs k l h = by_test (same k l) (λ p. let q : rank k ≡ rank l = ap rank (same_is k l p) in absurd (omega arith)) (λ p. p)

-- ---- one definition on an object that is not empty: three ways

module _ (k : Key) (v : Value) (l : Key) (w : Value) (o : Props) where
  put_same : same k l ≡ true → put k v (entry l w o) ≡ entry k v o
  unfolding put
  put_same e = simp e

  put_before : same k l ≡ false → rank k < rank l → put k v (entry l w o) ≡ entry k v (entry l w o)
  unfolding put
  put_before e h = simp (e, lt-ltb (rank k) (rank l) h)

  put_past : same k l ≡ false → (rank l ≤ rank k) → put k v (entry l w o) ≡ entry l w (put k v o)
  unfolding put
  put_past e h = simp (e, le-ltb (rank k) (rank l) h)

-- the three ways
by_way : {A : Type 0} (k l : Key) → (same k l ≡ true → A) → (same k l ≡ false → rank k < rank l → A) → (same k l ≡ false → rank l ≤ rank k → A) → A
by_way k l f g h =
    by_test (same k l) f
    (λ e. by_test (ltb (rank k) (rank l)) (λ t. g e (ltb-true (rank k) (rank l) t)) (λ t. h e (ltb-false (rank k) (rank l) t)))

put_first : (k : Key) (v w : Value) (o : Props) → put k v (entry k w o) ≡ entry k v o
put_first k v w o = put_same k v k w o (same_self k)

-- a later definition of a key wins
put_twice : (k : Key) (v w : Value) (t : Props) → put k v (put k w t) ≡ put k v t
unfolding put
put_twice k v w empty = put_first k v w empty
put_twice k v w (entry l u o) =
    by_way k l
    (λ e. ap (λ (x : Props). put k v x) (put_same k w l u o e) ∙ put_first k v w o ∙ sym (put_same k v l u o e))
    (λ e h. ap (λ (x : Props). put k v x) (put_before k w l u o e h) ∙ put_first k v w (entry l u o) ∙ sym (put_before k v l u o e h))
    (λ e h. ap (λ (x : Props). put k v x) (put_past k w l u o e h) ∙ put_past k v l u (put k w o) e h
    ∙ ap (λ (x : Props). entry l u x) (put_twice k v w o) ∙ sym (put_past k v l u o e h))

-- ---- definitions that change places

-- the key is met before one of a higher rank
data Found (k : Key) : Props → Type 0 where
  here : {v : Value} {o : Props} → Found k (entry k v o)
  there : {l : Key} {w : Value} {o : Props} → same k l ≡ false → rank l ≤ rank k → Found k o → Found k (entry l w o)

found_put : (k : Key) (v : Value) (t : Props) → Found k (put k v t)
unfolding put
found_put k v empty = here
found_put k v (entry l w o) =
    by_way k l
    (λ e. rw (put_same k v l w o e) here)
    (λ e h. rw (put_before k v l w o e h) here)
    (λ e h. rw (put_past k v l w o e h) (there e h (found_put k v o)))

same_rank : (k l : Key) → same k l ≡ true → rank k ≡ rank l
same_rank k l e = ap rank (same_is k l e)

found_kept : {k : Key} {t : Props} → Found k t → (j : Key) (w : Value) → same k j ≡ false → Found k (put j w t)
found_kept {k} (here {v = v} {o = o}) j w e =
    by_way j k
    (λ p. differ (sym p ∙ same_sym k j e))
    (λ p h. rw (put_before j w k v o p h) (there e (omega arith) here))
    (λ p h. rw (put_past j w k v o p h) here)
found_kept {k} (there {l = l} {w = u} {o = o} a b f) j w e =
    by_way j l
    (λ p. rw (put_same j w l u o p) (there e (omega (arith, same_rank j l p)) f))
    (λ p h. rw (put_before j w l u o p h) (there e (omega arith) (there a b f)))
    (λ p h. rw (put_past j w l u o p h) (there a b (found_kept f j w e)))

-- a key that is there already keeps its place
put_found : {k : Key} {t : Props} → Found k t → (v : Value) (j : Key) (w : Value) → same k j ≡ false → put k v (put j w t) ≡ put j w (put k v t)
put_found {k} (here {v = u} {o = o}) v j w e =
    by_way j k
    (λ p. differ (sym p ∙ same_sym k j e))
    (λ p h. ap (λ (x : Props). put k v x) (put_before j w k u o p h) ∙ put_past k v j w (entry k u o) e (omega arith)
    ∙ ap (λ (x : Props). entry j w x) (put_first k v u o) ∙ sym (put_before j w k v o p h) ∙ ap (λ (x : Props). put j w x) (sym (put_first k v u o)))
    (λ p h. ap (λ (x : Props). put k v x) (put_past j w k u o p h) ∙ put_first k v u (put j w o)
    ∙ sym (put_past j w k v o p h) ∙ ap (λ (x : Props). put j w x) (sym (put_first k v u o)))
put_found {k} (there {l = l} {w = u} {o = o} a b f) v j w e =
    let q : put j w (entry l u (put k v o)) ≡ put j w (put k v (entry l u o)) = ap (λ (x : Props). put j w x) (sym (put_past k v l u o a b)) in
    by_way j l
    (λ p. ap (λ (x : Props). put k v x) (put_same j w l u o p) ∙ put_past k v j w o e (omega (arith, same_rank j l p)) ∙ sym (put_same j w l u (put k v o) p) ∙ q)
    (λ p h. ap (λ (x : Props). put k v x) (put_before j w l u o p h) ∙ put_past k v j w (entry l u o) e (omega arith)
    ∙ ap (λ (x : Props). entry j w x) (put_past k v l u o a b) ∙ sym (put_before j w l u (put k v o) p h) ∙ q)
    (λ p h. ap (λ (x : Props). put k v x) (put_past j w l u o p h) ∙ put_past k v l u (put j w o) a b
    ∙ ap (λ (x : Props). entry l u x) (put_found f v j w e) ∙ sym (put_past j w l u (put k v o) p h) ∙ q)

-- keys of different rank stand by rank, whichever comes first
put_ranked : (k : Key) (v : Value) (j : Key) (w : Value) (t : Props) → rank k < rank j → put k v (put j w t) ≡ put j w (put k v t)
unfolding put
put_ranked k v j w empty r =
    put_before k v j w empty (below_differs k j r) r ∙ sym (put_past j w k v empty (same_sym k j (below_differs k j r)) (omega arith))
put_ranked k v j w (entry l u o) r =
    let kj : same k j ≡ false = below_differs k j r in
    let jk : same j k ≡ false = same_sym k j kj in
    let past : (x : Props) → put j w (entry k v x) ≡ entry k v (put j w x) = λ x. put_past j w k v x jk (omega arith) in
    by_way k l
    (λ p. let e : rank k ≡ rank l = same_rank k l p in
    let m : rank l < rank j = omega arith in
    ap (λ (x : Props). put k v x) (put_past j w l u o (same_sym l j (below_differs l j m)) (omega arith)) ∙ put_same k v l u (put j w o) p
    ∙ sym (past o) ∙ ap (λ (x : Props). put j w x) (sym (put_same k v l u o p)))
    (λ p h. let q : entry k v (put j w (entry l u o)) ≡ put j w (put k v (entry l u o)) = sym (past (entry l u o)) ∙ ap (λ (x : Props). put j w x) (sym (put_before k v l u o p h)) in
    by_way j l
    (λ s. ap (λ (x : Props). put k v x) (put_same j w l u o s) ∙ put_before k v j w o kj r ∙ ap (λ (x : Props). entry k v x) (sym (put_same j w l u o s)) ∙ q)
    (λ s i. ap (λ (x : Props). put k v x) (put_before j w l u o s i) ∙ put_before k v j w (entry l u o) kj r ∙ ap (λ (x : Props). entry k v x) (sym (put_before j w l u o s i)) ∙ q)
    (λ s i. ap (λ (x : Props). put k v x) (put_past j w l u o s i) ∙ put_before k v l u (put j w o) p h ∙ ap (λ (x : Props). entry k v x) (sym (put_past j w l u o s i)) ∙ q))
    (λ p h. let m : rank l < rank j = omega arith in
    let s : same j l ≡ false = same_sym l j (below_differs l j m) in
    ap (λ (x : Props). put k v x) (put_past j w l u o s (omega arith)) ∙ put_past k v l u (put j w o) p h
    ∙ ap (λ (x : Props). entry l u x) (put_ranked k v j w o r)
    ∙ sym (put_past j w l u (put k v o) s (omega arith)) ∙ ap (λ (x : Props). put j w x) (sym (put_past k v l u o p h)))

-- ---- objects in the order of their keys

-- the keys of o are others than k, and of no lower rank
abbrev pub After : Key → Props → Type 0
After k empty = Unit {0}
After k (entry l w o) = (same k l ≡ false) × (rank k ≤ rank l) × After k o

abbrev pub Canon : Props → Type 0
Canon empty = Unit {0}
Canon (entry k v o) = After k o × Canon o

after_put : (l k : Key) (v : Value) (o : Props) → After l o → same l k ≡ false → rank l ≤ rank k → After l (put k v o)
unfolding put
after_put l k v empty a e r = (e, r, tt)
after_put l k v (entry j w o) a e r =
    by_way k j
    (λ p. rw (put_same k v j w o p) (e, r, a.2))
    (λ p h. rw (put_before k v j w o p h) (e, r, a))
    (λ p h. rw (put_past k v j w o p h) (a.0, a.1, after_put l k v o a.2 e r))

after_below : (k l : Key) (o : Props) → rank k < rank l → After l o → After k o
after_below k l empty r a = tt
after_below k l (entry j w o) r a = (below_differs k j (omega (arith, a.1)), omega (arith, a.1), after_below k l o r a.2)

after_same : (k l : Key) (o : Props) → same k l ≡ true → After l o → After k o
after_same k l o e a = rw (same_is k l e) a

pub canon_put : (k : Key) (v : Value) (o : Props) → Canon o → Canon (put k v o)
unfolding put
canon_put k v empty c = (tt, tt)
canon_put k v (entry l w o) c =
    by_way k l
    (λ p. rw (put_same k v l w o p) (after_same k l o p c.0, c.1))
    (λ p h. rw (put_before k v l w o p h) ((p, omega arith, after_below k l o h c.0), c))
    (λ p h. rw (put_past k v l w o p h) (after_put l k v o c.0 (same_sym k l p) h, canon_put k v o c.1))

overlay_found : (k : Key) (v : Value) (o t : Props) → Found k t → After k o → put k v (overlay o t) ≡ overlay o (put k v t)
overlay_found k v empty t f a = refl
overlay_found k v (entry j w o) t f a =
    overlay_found k v o (put j w t) (found_kept f j w a.0) a.2 ∙ ap (λ (x : Props). overlay o x) (put_found f v j w a.0)

overlay_ranked : (k : Key) (v : Value) (l : Key) (o t : Props) → rank k < rank l → After l o → put k v (overlay o t) ≡ overlay o (put k v t)
overlay_ranked k v l empty t r a = refl
overlay_ranked k v l (entry j w o) t r a =
    overlay_ranked k v l o (put j w t) r a.2 ∙ ap (λ (x : Props). overlay o x) (put_ranked k v j w t (omega (arith, a.1)))

-- one more definition, gathered or not
pub overlay_put : (k : Key) (v : Value) (o t : Props) → Canon o → overlay (put k v o) t ≡ put k v (overlay o t)
unfolding put
overlay_put k v empty t c = refl
overlay_put k v (entry l w o) t c =
    by_way k l
    (λ p. ap (λ (x : Props). overlay x t) (put_same k v l w o p)
    ∙ ap (λ (x : Props). overlay o x) (sym (put_twice k v w t))
    ∙ sym (overlay_found k v o (put k w t) (found_put k w t) (after_same k l o p c.0))
    ∙ ap (λ (x : Key). put k v (overlay o (put x w t))) (same_is k l p))
    (λ p h. ap (λ (x : Props). overlay x t) (put_before k v l w o p h)
    ∙ ap (λ (x : Props). overlay o x) (sym (put_ranked k v l w t h))
    ∙ sym (overlay_ranked k v l o (put l w t) h c.0))
    (λ p h. ap (λ (x : Props). overlay x t) (put_past k v l w o p h) ∙ overlay_put k v o (put l w t) c.1)

pub canon_overlay : (p o : Props) → Canon o → Canon (overlay p o)
canon_overlay empty o c = c
canon_overlay (entry k v p) o c = canon_overlay p (put k v o) (canon_put k v o c)

-- ---- an object in order has its symbols last

cond_le : (b : Bool) (x y n : ℕ) → (b ≡ true → x ≤ n) → y ≤ n → cond b x y ≤ n
cond_le true x y n p q = p refl
cond_le false x y n p q = q

digits_le : (bs : List ℕ) (n : ℕ) → digits bs n ≤ top
digits_le [] n = cond_le (ltb n top) n top top (λ e. let h : n < top = ltb-true n top e in omega arith) (omega arith)
digits_le (b ∷ bs) n = cond_le (leb 48 b && leb b 57) (digits bs (n * 10 + (b - 48))) top top (λ e. digits_le bs (n * 10 + (b - 48))) (omega arith)

index_le : (s : List ℕ) → index_of s ≤ top
index_le [] = omega arith
index_le (b ∷ []) = digits_le (b ∷ []) 0
index_le (b ∷ c ∷ bs) = cond_le (eqb b 48) top (digits (b ∷ c ∷ bs) 0) top (λ e. omega arith) (digits_le (b ∷ c ∷ bs) 0)

-- a key of a symbol's rank is a symbol
symbol_rank : (k : Key) → top + 1 ≤ rank k → is_name_of k ≡ false
unfolding rank
symbol_rank (name s) h = absurd (omega (arith, index_le s))
symbol_rank (symbol n) h = refl

after_names : (n : ℕ) (o : Props) → After (symbol n) o → filter is_name_of (keys_of o) ≡ []
unfolding rank
after_names n empty a = refl
after_names n (entry k v o) a =
    let e : is_name_of k ≡ false = symbol_rank k a.1 in
    rw (e, after_names n o a.2) refl

after_symbols : (n : ℕ) (o : Props) → After (symbol n) o → filter (λ k. not (is_name_of k)) (keys_of o) ≡ keys_of o
unfolding rank
after_symbols n empty a = refl
after_symbols n (entry k v o) a =
    let e : is_name_of k ≡ false = symbol_rank k a.1 in
    rw (e, after_symbols n o a.2) refl

canon_names : (o : Props) → Canon o → names_first (keys_of o) ≡ keys_of o
canon_names empty c = refl
canon_names (entry (name s) v o) c = ap (λ (x : List Key). name s ∷ x) (canon_names o c.1)
canon_names (entry (symbol n) v o) c = rw (after_names n o c.0, after_symbols n o c.0) refl

-- ---- the entries of an object, picked by its keys

find_first : (d : Value) (k : Key) (v : Value) (o : Props) → find d k (entry k v o) ≡ v
find_first d k v o = rw (same_self k) refl

-- keys that are not k do not see an entry of k
abbrev Apart : Key → List Key → Type 0
Apart k [] = Unit {0}
Apart k (l ∷ ls) = (same k l ≡ false) × Apart k ls

pick_past : (d : Value) (k : Key) (v : Value) (o : Props) (ls : List Key) → Apart k ls → pick d ls (entry k v o) ≡ pick d ls o
pick_past d k v o [] a = refl
pick_past d k v o (l ∷ ls) a = rw (same_sym k l a.0, pick_past d k v o ls a.1) refl

after_apart : (k : Key) (o : Props) → After k o → Apart k (keys_of o)
after_apart k empty a = tt
after_apart k (entry l w o) a = (a.0, after_apart k o a.2)

pick_all : (d : Value) (o : Props) → Canon o → pick d (keys_of o) o ≡ o
pick_all d empty c = refl
pick_all d (entry k v o) c =
    ap (λ (x : Value). entry k x (pick d (keys_of o) (entry k v o))) (find_first d k v o)
    ∙ ap (λ (x : Props). entry k v x) (pick_past d k v o (keys_of o) (after_apart k o c.0) ∙ pick_all d o c.1)

-- strings first changes nothing
pub pick_names : (d : Value) (o : Props) → Canon o → pick d (names_first (keys_of o)) o ≡ o
pick_names d o c = ap (λ (ks : List Key). pick d ks o) (canon_names o c) ∙ pick_all d o c
