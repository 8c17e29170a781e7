-- Chains of positions that fall, and the search along them.
-- Assumes nothing.
use mathlib.Core.Path.{◌≡◌, refl, sym, ap, ◌∙◌}
use mathlib.Core.Bool.{Bool, true, false, cond}
use mathlib.Core.List.{List, [], ◌∷◌}
use mathlib.Core.Logic.{inl, inr}
use Prim.Native.Nat.{ℕ, zero, suc, ◌+◌, ◌<◌, ◌≤◌}
use native.Mathlib.Omega.{arith}
use lib.Dec.{ltb, eqb}
use lib.ListN.{length, get_or, set, length-set}
use lib.Seq.{set_out, get_or-set_same, get_or-set_other}
use borrow.Author.Tests.{lt-ltb, le-ltb, eq-eqb, ne_eqb, ltb-true, eqb-true}
use Rattle.tree.specs.Read.{wide_at}
use Rattle.tree.proofs.Sound.{never}
use Rattle.joining.specs.Tables.{stored, backward, chain_of, chain, place, among_statements, among_lists, searched}
use Rattle.std.specs.Prelude.{Option, Some, None}
use Rattle.joining.specs.declared.search.Place.{Place}
use Rattle.joining.specs.Files.{In}

-- ---- a table

pub put_in : (l : List ℕ) (i n : ℕ) → n < 65536 → set l i n ≡ stored l i n
unfolding stored
put_in l i n h = rw (lt-ltb n 65536 h) refl

pub put_past : (l : List ℕ) (i n : ℕ) → n < 65536 → length l ≤ i → l ≡ stored l i n
put_past l i n g h = sym (set_out l i n h) ∙ put_in l i n g

pub put_great : (l : List ℕ) (i n : ℕ) → 65536 ≤ n → l ≡ stored l i n
unfolding stored
put_great l i n h = rw (le-ltb n 65536 h) refl

pub stored_length : (l : List ℕ) (i n : ℕ) → length (stored l i n) ≡ length l
unfolding stored
stored_length l i n = go (ltb n 65536)
  where
    go : (b : Bool) → length (cond b (set l i n) l) ≡ length l
    go true = length-set l i n
    go false = refl

pub back_taken : (l : List ℕ) (i n : ℕ) → n ≡ get_or l i 0 → n < i → n ≡ backward l i
unfolding backward
back_taken l i n e h = rw (← e, lt-ltb n i h)

pub back_left : (l : List ℕ) (i n : ℕ) → n ≡ get_or l i 0 → i ≤ n → 0 ≡ backward l i
unfolding backward
back_left l i n e h = rw (← e, le-ltb n i h)

back_is : (l : List ℕ) (i : ℕ) → backward l i ≡ cond (ltb (get_or l i 0) i) (get_or l i 0) 0
unfolding backward
back_is l i = refl

-- ---- chains

pub back_less : (l : List ℕ) (i : ℕ) → backward l (suc i) ≤ i
unfolding backward
back_less l i = go (ltb (get_or l (suc i) 0) (suc i)) refl
  where
    go : (b : Bool) → ltb (get_or l (suc i) 0) (suc i) ≡ b → cond b (get_or l (suc i) 0) 0 ≤ i
    go true e = let h : get_or l (suc i) 0 < suc i = ltb-true (get_or l (suc i) 0) (suc i) e in omega arith
    go false e = omega arith

-- a number that is great enough plays no part
chain_same : (l : List ℕ) (m n i : ℕ) → i ≤ m → i ≤ n → chain_of l m i ≡ chain_of l n i
unfolding chain_of
chain_same l zero zero i h g = refl
chain_same l zero (suc n) zero h g = refl
chain_same l zero (suc n) (suc i) h g = absurd (omega arith)
chain_same l (suc m) zero zero h g = refl
chain_same l (suc m) zero (suc i) h g = absurd (omega arith)
chain_same l (suc m) (suc n) zero h g = refl
chain_same l (suc m) (suc n) (suc i) h g = ap (λ ps. suc i ∷ ps) (chain_same l m n (backward l (suc i)) (omega (arith, back_less l i)) (omega (arith, back_less l i)))

pub chain_step : (l : List ℕ) (i : ℕ) → 0 < i → chain l i ≡ i ∷ chain l (backward l i)
unfolding chain_of
chain_step l zero h = absurd (omega arith)
chain_step l (suc i) h = ap (λ ps. suc i ∷ ps) (chain_same l i (backward l (suc i)) (backward l (suc i)) (back_less l i) (omega arith))

pub chain_end : (l : List ℕ) (i : ℕ) → i ≤ 0 → chain l i ≡ []
unfolding chain_of
chain_end l zero h = refl
chain_end l (suc i) h = absurd (omega arith)

-- what is put at a position plays no part before it
chain_before : (l : List ℕ) (i v m j : ℕ) → j < i → chain_of (set l i v) m j ≡ chain_of l m j
unfolding chain_of
chain_before l i v zero j h = refl
chain_before l i v (suc m) zero h = refl
chain_before l i v (suc m) (suc j) h =
    let same : backward (set l i v) (suc j) ≡ backward l (suc j) = back_other j h in
    rw same (ap (λ ps. suc j ∷ ps) (chain_before l i v m (backward l (suc j)) (omega (arith, back_less l j))))
  where
    back_other : (j : ℕ) → suc j < i → backward (set l i v) (suc j) ≡ backward l (suc j)
    back_other j h = rw (back_is (set l i v) (suc j), back_is l (suc j), get_or-set_other l i (suc j) v 0 (λ e. omega arith)) refl

pub chain_set : (l : List ℕ) (i v j : ℕ) → j < i → chain (set l i v) j ≡ chain l j
chain_set l i v j h = chain_before l i v j j h

pub chain_add : (l : List ℕ) (i v : ℕ) → i < length l → v < i → chain (set l i v) i ≡ i ∷ chain l v
chain_add l i v g h =
    let back : backward (set l i v) i ≡ v = back_is (set l i v) i ∙ rw (get_or-set_same l i v 0 g, lt-ltb v i h) refl in
    chain_step (set l i v) i (omega arith) ∙ ap (λ (j : ℕ). i ∷ chain (set l i v) j) back ∙ ap (λ ps. i ∷ ps) (chain_set l i v v h)

chain_in : (l : List ℕ) (m i x : ℕ) → In x (chain_of l m i) → (0 < x) × (x ≤ i)
unfolding chain_of
chain_in l zero i x h = absurd h
chain_in l (suc m) zero x h = absurd h
chain_in l (suc m) (suc i) x (inl e) = (omega arith, omega arith)
chain_in l (suc m) (suc i) x (inr h) =
    let r = chain_in l m (backward l (suc i)) x h in
    let a : 0 < x = r.0 in
    let b : x ≤ backward l (suc i) = r.1 in
    (a, omega (arith, back_less l i))

pub chain_within : (l : List ℕ) (i x : ℕ) → In x (chain l i) → (0 < x) × (x ≤ i)
chain_within l i x h = chain_in l i i x h

-- ---- the search: what the rest of it gives is the answer, v

module _ (tree earlier holds before : List ℕ) (mark : ℕ) (v : Option Place) where
  abbrev pub Outer : ℕ → Type 0
  Outer p = among_lists tree mark holds before (chain earlier p) ≡ v

  abbrev pub Inner : ℕ → ℕ → Type 0
  Inner p s = among_statements tree mark p (chain before s) (among_lists tree mark holds before (chain earlier (backward earlier p))) ≡ v

  pub outer_enters : (p s : ℕ) → Outer p → 0 < p → s ≡ get_or holds p 0 → Inner p s
  unfolding among_lists
  outer_enters p s o h e = rw e (ap (among_lists tree mark holds before) (sym (chain_step earlier p h)) ∙ o)

  pub outer_ends : (p : ℕ) → Outer p → p ≤ 0 → None ≡ v
  unfolding among_lists
  outer_ends p o h = ap (among_lists tree mark holds before) (sym (chain_end earlier p h)) ∙ o

  pub inner_found : (p s : ℕ) → Inner p s → 0 < s → (w : ℕ) → w ≡ wide_at tree (s + 2) → w ≡ mark → Some (place p s) ≡ v
  unfolding among_statements
  inner_found p s i h w is e =
      let same : eqb (wide_at tree (s + 2)) mark ≡ true = eq-eqb (wide_at tree (s + 2)) mark (sym is ∙ e) in
      (rw (chain_step before s h, same) at i)

  pub inner_next : (p s t : ℕ) → Inner p s → 0 < s → (w : ℕ) → w ≡ wide_at tree (s + 2) → (w ≡ mark → ⊥) → t ≡ backward before s → Inner p t
  unfolding among_statements
  inner_next p s t i h w is d e =
      let other : eqb (wide_at tree (s + 2)) mark ≡ false = ne_eqb (wide_at tree (s + 2)) mark (λ x. d (is ∙ x)) in
      rw e (rw (chain_step before s h, other) at i)

  pub inner_ends : (p s q : ℕ) → Inner p s → s ≤ 0 → q ≡ backward earlier p → Outer q
  unfolding among_statements
  inner_ends p s q i h e = rw e (rw (chain_end before s h) at i)

pub outer_start : (tree earlier holds before : List ℕ) (mark latest : ℕ) → Outer tree earlier holds before mark (searched tree earlier holds before mark latest) latest
unfolding searched
outer_start tree earlier holds before mark latest = refl

-- ---- search-ends: it ends at a statement of a container that has the mark, or none has it

module _ (tree holds before : List ℕ) (mark : ℕ) where
  -- a statement of one of some lists has the mark
  pub record Has (ps : List ℕ) (r : Place) : Type 0 where
    pub within : In r.list ps
    pub stands : In r.statement (chain before (get_or holds r.list 0))
    pub marked : wide_at tree (r.statement + 2) ≡ mark

  -- no statement of any of them has it
  abbrev pub Lacks : List ℕ → Type 0
  Lacks ps = (p s : ℕ) → In p ps → In s (chain before (get_or holds p 0)) → wide_at tree (s + 2) ≡ mark → ⊥

  pub data Ended (ps : List ℕ) (r : Option Place) : Type 0 where
    found : (p : Place) → r ≡ Some p → Has ps p → Ended ps r
    lost : r ≡ None → Lacks ps → Ended ps r

  -- the same of the statements of one list
  data Passed (p : ℕ) (ss : List ℕ) (rest : Option Place) : Type 0 where
    one : (s : ℕ) → In s ss → wide_at tree (s + 2) ≡ mark → among_statements tree mark p ss rest ≡ Some (place p s) → Passed p ss rest
    none : ((s : ℕ) → In s ss → wide_at tree (s + 2) ≡ mark → ⊥) → among_statements tree mark p ss rest ≡ rest → Passed p ss rest

  statements_end : (p : ℕ) (ss : List ℕ) (rest : Option Place) → Passed p ss rest
  unfolding among_statements
  statements_end p [] rest = none (λ s i e. absurd i) refl
  statements_end p (s ∷ ss) rest = go (eqb (wide_at tree (s + 2)) mark) refl (statements_end p ss rest)
    where
      neither : eqb (wide_at tree (s + 2)) mark ≡ false → ((t : ℕ) → In t ss → wide_at tree (t + 2) ≡ mark → ⊥) → (t : ℕ) → In t (s ∷ ss) → wide_at tree (t + 2) ≡ mark → ⊥
      neither e n t (inl x) m = never (sym e ∙ eq-eqb (wide_at tree (s + 2)) mark (rw x at m))
      neither e n t (inr i) m = n t i m

      go : (b : Bool) → eqb (wide_at tree (s + 2)) mark ≡ b → Passed p ss rest → Passed p (s ∷ ss) rest
      go true e r = one s (inl refl) (eqb-true (wide_at tree (s + 2)) mark e) (rw e refl)
      go false e (one t i m w) = one t (inr i) m (rw e w)
      go false e (none n w) = none (neither e n) (rw e w)

  lists_end : (ps : List ℕ) → Ended ps (among_lists tree mark holds before ps)
  unfolding among_lists
  lists_end [] = lost refl (λ p s i j m. absurd i)
  lists_end (p ∷ ps) = go (statements_end p (chain before (get_or holds p 0)) (among_lists tree mark holds before ps)) (lists_end ps)
    where
      neither : ((s : ℕ) → In s (chain before (get_or holds p 0)) → wide_at tree (s + 2) ≡ mark → ⊥) → Lacks ps → Lacks (p ∷ ps)
      neither n f q s (inl x) j m = n s (rw x at j) m
      neither n f q s (inr i) j m = f q s i j m

      go : Passed p (chain before (get_or holds p 0)) (among_lists tree mark holds before ps) → Ended ps (among_lists tree mark holds before ps) → Ended (p ∷ ps) (among_statements tree mark p (chain before (get_or holds p 0)) (among_lists tree mark holds before ps))
      go (one s i m w) r = found (place p s) w (record { within = inl refl; stands = i; marked = m })
      go (none n w) (found r e h) = found r (w ∙ e) (record { within = inr h.within; stands = h.stands; marked = h.marked })
      go (none n w) (lost e f) = lost (w ∙ e) (neither n f)

  pub search_ends : (earlier : List ℕ) (latest : ℕ) → Ended (chain earlier latest) (searched tree earlier holds before mark latest)
  unfolding searched
  search_ends earlier latest = lists_end (chain earlier latest)
