-- Bytes written one after the other, and the next free mark.
-- Assumes nothing.
use mathlib.Core.Path.{◌≡◌, refl, sym, ap, ◌∙◌}
use mathlib.Core.Bool.{Bool, true, false, cond}
use mathlib.Core.List.{List, [], ◌∷◌, ◌++◌}
use Prim.Native.Nat.{ℕ, zero, suc, ◌+◌, ◌-◌, ◌%◌, ◌<◌, ◌≤◌, min}
use native.Mathlib.Omega.{arith}
use native.Mathlib.Decide.{dec_lt}
use lib.Dec.{eqb, ltb}
use lib.ListN.{length, get_or, set, take, drop, length-set, drop_of_length-le}
use lib.Seq.{drop-cons}
use borrow.Author.Tests.{eq-eqb, ne_eqb, lt-ltb, le-ltb}
use Rattle.tree.specs.Tree.{wide_bytes}
use Rattle.tree.specs.Read.{byte_at, wide_at}
use Rattle.drawing.specs.Pen.{next, put, reach}
use borrow.Rule.Slice.PartMut.{put_mid}
use Rattle.drawing.proofs.DrawingWritten.{Put, Wide, put_length, put_two, reach_two, next_in_lem}
use Rattle.drawing.proofs.DrawingEntry.{reach_fits}
use Rattle.std.proofs.lemmas.List.{length-take, length-drop}
use Rattle.std.proofs.lemmas.List.Edits.{sets, sets-eq}
use Rattle.std.proofs.lemmas.Grind.{common_steps}
use Rattle.joining.specs.Writing.{Copied, part, declared, free_from, free_after, var_bytes, var_last, vars_bytes, vars_last, before_bytes, before_last, step_bytes, step_last, step_skips, rest_bytes, Calm, Quiet, head_bytes, head_last, whole_bytes}

-- ---- one after the other

pub copied_none : (l : List ℕ) (at : ℕ) → Copied l at [] at l
unfolding put reach
copied_none l at = (refl, refl)

pub copied_then : (l : List ℕ) (at : ℕ) (xs ys : List ℕ) (a : ℕ) (m : List ℕ) (b : ℕ) (k : List ℕ) → Copied l at xs a m → Copied m a ys b k → Copied l at (xs ++ ys) b k
copied_then l at xs ys a m b k e f =
    let same : length m ≡ length l = ap length e.1 ∙ put_length l at xs in
    (f.0 ∙ rw (same, e.0) (sym (reach_two (length l) at xs ys)), f.1 ∙ rw (e.1, e.0) (sym (put_two l at xs ys)))

pub copied_one : (l : List ℕ) (at x a : ℕ) (m : List ℕ) → Put l at x a m → Copied l at (x ∷ []) a m
unfolding put reach
copied_one l at x a m e = e

-- ---- a part

take_first : (n x : ℕ) (xs : List ℕ) → 0 < n → take n (x ∷ xs) ≡ x ∷ take (n - 1) xs
take_first zero x xs h = absurd (omega arith)
take_first (suc n) x xs h = let e : n ≡ suc n - 1 = omega arith in ap (λ (m : ℕ). x ∷ take m xs) e

part_first : (l : List ℕ) (i stop : ℕ) → i < stop → i < length l → part i stop l ≡ get_or l i 0 ∷ part (i + 1) stop l
unfolding part
part_first l i stop h g =
    let e : suc i ≡ i + 1 = omega arith in
    let d : stop - i - 1 ≡ stop - (i + 1) = omega arith in
    ap (take (stop - i)) (drop-cons l i 0 g) ∙ take_first (stop - i) (get_or l i 0) (drop (suc i) l) (omega arith) ∙ rw (e, d)

take_none : (n : ℕ) (l : List ℕ) → n ≡ 0 → take n l ≡ []
take_none zero l e = refl
take_none (suc n) l e = absurd (omega arith)

take_nil : (n : ℕ) → take {A = ℕ} n [] ≡ []
take_nil zero = refl
take_nil (suc n) = refl

part_none : (l : List ℕ) (i stop end : ℕ) → end ≡ min stop (length l) → end ≤ i → part i stop l ≡ []
unfolding part
part_none l i stop end e h = elim (dec_lt i stop) [
  | yes g ↦ ap (take (stop - i)) (drop_of_length-le l {i = i} (omega (arith, e))) ∙ take_nil (stop - i)
  | no g ↦ take_none (stop - i) (drop i l) (omega arith)
]

-- ---- the loop that copies: what is left makes of it what is asked for

module _ (l₀ : List ℕ) (at : ℕ) (from : List ℕ) (start stop : ℕ) where
  pub record Copying (l : List ℕ) (p i : ℕ) : Type 0 where
    pub size : length l ≡ length l₀
    pub ends : reach (length l) p (part i stop from) ≡ reach (length l₀) at (part start stop from)
    pub bytes : put l p (part i stop from) ≡ put l₀ at (part start stop from)

  pub copying_next : (l : List ℕ) (p i end : ℕ) → Copying l p i → end ≡ min stop (length from) → i < end → (q : ℕ) (m : List ℕ) → Put l p (get_or from i 0) q m → Copying m q (i + 1)
  unfolding put reach
  copying_next l p i end c e h q m w =
      let first : part i stop from ≡ get_or from i 0 ∷ part (i + 1) stop from = part_first from i stop (omega (arith, e)) (omega (arith, e)) in
      let same : length m ≡ length l = ap length w.1 ∙ length-set l p (get_or from i 0) in
      record {
        size = same ∙ c.size;
        ends = rw (same, w.0) (ap (reach (length l) p) (sym first) ∙ c.ends);
        bytes = rw (w.0, w.1) (ap (put l p) (sym first) ∙ c.bytes);
      }

  pub copying_ends : (l : List ℕ) (p i end : ℕ) → Copying l p i → end ≡ min stop (length from) → end ≤ i → Copied l₀ at (part start stop from) p l
  unfolding put reach
  copying_ends l p i end c e h =
      let none : part i stop from ≡ [] = part_none from i stop end e h in
      (ap (reach (length l) p) (sym none) ∙ c.ends, ap (put l p) (sym none) ∙ c.bytes)

part_length : (l : List ℕ) (i stop : ℕ) → stop ≤ length l → length (part i stop l) ≡ stop - i
unfolding part
part_length l i stop h = omega (arith, length-take (stop - i) (drop i l), length-drop i l)

-- where there is room for them all they stand at once
put_sets : (l : List ℕ) (at : ℕ) (xs : List ℕ) → at + length xs ≤ length l → put l at xs ≡ sets l at xs
unfolding put
put_sets l at [] h = refl
put_sets l at (x ∷ xs) h =
    let n : next (length l) at ≡ suc at = next_in_lem (length l) at (omega arith) in
    rw n (put_sets (set l at x) (suc at) xs (omega (arith, length-set l at x)))

put_whole : (l : List ℕ) (at : ℕ) (xs : List ℕ) → at + length xs ≤ length l → put l at xs ≡ put_mid at (length xs) l xs
put_whole l at xs h = put_sets l at xs h ∙ sets-eq xs l at h ∙ grind (arith, common_steps)

pub block_written : (l : List ℕ) (at : ℕ) (from : List ℕ) (start stop : ℕ) → start ≤ stop → stop ≤ length from → at + (stop - start) ≤ length l → (k : ℕ) → k ≡ stop - start → (xs : List ℕ) → xs ≡ part start stop from → Copied l at (part start stop from) (at + (stop - start)) (put_mid at k l xs)
block_written l at from start stop h g r k d xs e =
    let n : length (part start stop from) ≡ stop - start = part_length from start stop g in
    (sym (reach_fits (length l) at (part start stop from) (omega arith) ∙ omega arith), rw (d, e, ← n) (sym (put_whole l at (part start stop from) (omega arith))))

-- ---- a Declaration

pub declared_put : (l : List ℕ) (at m kind : ℕ) (ds : List ℕ) (a₁ : ℕ) (l₁ : List ℕ) (a₂ : ℕ) (l₂ : List ℕ) (a₃ : ℕ) (l₃ : List ℕ) (a₄ : ℕ) (l₄ : List ℕ) (a₅ : ℕ) (l₅ : List ℕ)
    → Put l at 4 a₁ l₁ → Put l₁ a₁ 7 a₂ l₂ → Wide l₂ a₂ (m % 65536) a₃ l₃ → Put l₃ a₃ kind a₄ l₄ → Copied l₄ a₄ ds a₅ l₅ → Copied l at (declared m kind ds) a₅ l₅
unfolding declared
declared_put l at m kind ds a₁ l₁ a₂ l₂ a₃ l₃ a₄ l₄ a₅ l₅ p q w r c =
    copied_then l at (4 ∷ []) (7 ∷ (wide_bytes (m % 65536) ++ (kind ∷ ds))) a₁ l₁ a₅ l₅ (copied_one l at 4 a₁ l₁ p)
    (copied_then l₁ a₁ (7 ∷ []) (wide_bytes (m % 65536) ++ (kind ∷ ds)) a₂ l₂ a₅ l₅ (copied_one l₁ a₁ 7 a₂ l₂ q)
    (copied_then l₂ a₂ (wide_bytes (m % 65536)) (kind ∷ ds) a₃ l₃ a₅ l₅ w
    (copied_then l₃ a₃ (kind ∷ []) ds a₄ l₄ a₅ l₅ (copied_one l₃ a₃ kind a₄ l₄ r) c)))

-- ---- the next free mark

module _ (seen : List ℕ) where
  pub free_start : (m : ℕ) → free_from seen (65535 - m) m ≡ free_after seen m
  unfolding free_after
  free_start m = refl

  free_step : (n m b : ℕ) → 0 < n → b ≡ byte_at seen (m + 1) → free_from seen n m ≡ cond (eqb b 1) (free_from seen (n - 1) (m + 1)) (m + 1)
  unfolding free_from
  free_step zero m b h e = absurd (omega arith)
  free_step (suc n) m b h e =
      let d : suc n - 1 ≡ n = omega arith in
      let f : suc m ≡ m + 1 = omega arith in
      rw (d, f, ← e)

  pub free_found : (m b v : ℕ) → m < 65535 → free_from seen (65535 - m) m ≡ v → b ≡ byte_at seen (m + 1) → (b ≡ 1 → ⊥) → m + 1 ≡ v
  free_found m b v h w e d = sym (free_step (65535 - m) m b (omega arith) e ∙ rw (ne_eqb b 1 d)) ∙ w

  pub free_next : (m b v : ℕ) → m < 65535 → free_from seen (65535 - m) m ≡ v → b ≡ byte_at seen (m + 1) → b ≡ 1 → free_from seen (65535 - (m + 1)) (m + 1) ≡ v
  free_next m b v h w e d =
      let n : 65535 - m - 1 ≡ 65535 - (m + 1) = omega arith in
      ap (λ (k : ℕ). free_from seen k (m + 1)) (sym n) ∙ sym (free_step (65535 - m) m b (omega arith) e ∙ rw (eq-eqb b 1 d)) ∙ w

  pub free_last : (m v : ℕ) → 65535 ≤ m → free_from seen (65535 - m) m ≡ v → m ≡ v
  unfolding free_from
  free_last m v h w = ap (λ (k : ℕ). free_from seen k m) (none h) ∙ w
    where
      none : 65535 ≤ m → 0 ≡ 65535 - m
      none g = omega arith

-- ---- `var`s

module _ (list seen : List ℕ) (mark at end : ℕ) (l : List ℕ) (p last : ℕ) where
  pub var_written : (w m q : ℕ) (k : List ℕ) → w ≡ wide_at list at → w ≡ mark → m ≡ free_after seen last → Copied l p (declared m 1 (part (at + 2) end list)) q k → Copied l p (var_bytes list seen mark at end last) q k × (m ≡ var_last list seen mark at last)
  unfolding var_bytes var_last
  var_written w m q k is e f c = rw (eq-eqb (wide_at list at) mark (sym is ∙ e), ← f) (c, refl)

  pub var_passed : (w : ℕ) → w ≡ wide_at list at → (w ≡ mark → ⊥) → Copied l p (var_bytes list seen mark at end last) p l × (last ≡ var_last list seen mark at last)
  unfolding var_bytes var_last
  var_passed w is d = rw (ne_eqb (wide_at list at) mark (λ x. d (is ∙ x))) (copied_none l p, refl)

module _ (list ends seen : List ℕ) (mark : ℕ) (l₀ : List ℕ) (p₀ n₀ last₀ : ℕ) where
  pub record Telling (l : List ℕ) (p last at left : ℕ) : Type 0 where
    pub size : length l ≡ length l₀
    pub near : at < 65536
    pub stops : reach (length l) p (vars_bytes list ends seen mark left at last) ≡ reach (length l₀) p₀ (vars_bytes list ends seen mark n₀ 2 last₀)
    pub bytes : put l p (vars_bytes list ends seen mark left at last) ≡ put l₀ p₀ (vars_bytes list ends seen mark n₀ 2 last₀)
    pub given : vars_last list ends seen mark left at last ≡ vars_last list ends seen mark n₀ 2 last₀

  pub telling_start : (left : ℕ) → left ≡ n₀ → Telling l₀ p₀ last₀ 2 left
  telling_start left e = rw e (record { size = refl; near = omega arith; stops = refl; bytes = refl; given = refl })

  pub telling_next : (l : List ℕ) (p last at left less : ℕ) → Telling l p last at left → left ≡ suc less → (end : ℕ) → end ≡ get_or ends at 0 → end < 65536 → (q more : ℕ) (k : List ℕ) → Copied l p (var_bytes list seen mark at end last) q k × (more ≡ var_last list seen mark at last) → Telling k q more end less
  unfolding vars_bytes vars_last
  telling_next l p last at left less u d end e f q more k w =
      let t : Telling l p last at (suc less) = rw d at u in
      let same : length k ≡ length l = ap length w.0.1 ∙ put_length l p (var_bytes list seen mark at end last) in
      record {
        size = same ∙ t.size;
        near = f;
        stops = rw (same, w.0.0, w.1) (sym (reach_two (length l) p (var_bytes list seen mark at end last) (vars_bytes list ends seen mark less end (var_last list seen mark at last))) ∙ (rw (← e) at t.stops));
        bytes = rw (w.0.0, w.0.1, w.1) (sym (put_two l p (var_bytes list seen mark at end last) (vars_bytes list ends seen mark less end (var_last list seen mark at last))) ∙ (rw (← e) at t.bytes));
        given = rw w.1 (rw (← e) at t.given);
      }

  pub telling_ends : (l : List ℕ) (p last at left : ℕ) → Telling l p last at left → left ≤ 0 → Copied l₀ p₀ (vars_bytes list ends seen mark n₀ 2 last₀) p l × (last ≡ vars_last list ends seen mark n₀ 2 last₀)
  unfolding vars_bytes vars_last put reach
  telling_ends l p last at zero t h = ((t.stops, t.bytes), t.given)
  telling_ends l p last at (suc left) t h = absurd (omega arith)

-- ---- a byte of the tree

module _ (tree list ends seen held : List ℕ) (l : List ℕ) (at p last : ℕ) where
  pub before_some : (n w q more : ℕ) (k : List ℕ) → n ≡ get_or held p 0 → 0 < n → w ≡ wide_at tree (p + 2) → Copied l at (vars_bytes list ends seen w (wide_at list 0) 2 last) q k × (more ≡ vars_last list ends seen w (wide_at list 0) 2 last) → Copied l at (before_bytes tree list ends seen held p last) q k × (more ≡ before_last tree list ends seen held p last)
  unfolding before_bytes before_last
  before_some n w q more k e h f c = rw (← e, lt-ltb 0 n h, ← f) c

  pub before_none : (n : ℕ) → n ≡ get_or held p 0 → n ≤ 0 → Copied l at (before_bytes tree list ends seen held p last) at l × (last ≡ before_last tree list ends seen held p last)
  unfolding before_bytes before_last
  before_none n e h = rw (← e, le-ltb 0 n h) (copied_none l at, refl)

module _ (tree list ends seen more held : List ℕ) (l : List ℕ) (at p last : ℕ) where
  pub step_passed : (s : Bool) → s ≡ true → Copied l at (step_bytes tree list ends seen more held s p last) at l × (last ≡ step_last tree list ends seen more held s p last)
  unfolding step_bytes step_last
  step_passed s y = rw y (copied_none l at, refl)

  pub step_counted : (s : Bool) → s ≡ false → (n w q : ℕ) (k : List ℕ) → n ≡ get_or more p 0 → 0 < n → w ≡ wide_at tree p → Copied l at (wide_bytes ((w + n) % 65536)) q k → Copied l at (step_bytes tree list ends seen more held s p last) q k × (last ≡ step_last tree list ends seen more held s p last)
  unfolding step_bytes step_last
  step_counted s y n w q k e h f c = rw (y, ← e, lt-ltb 0 n h, ← f) (c, refl)

  pub step_kept : (s : Bool) → s ≡ false → (n a then : ℕ) (m : List ℕ) (b q : ℕ) (k : List ℕ) → n ≡ get_or more p 0 → n ≤ 0 → Copied l at (before_bytes tree list ends seen held p last) a m × (then ≡ before_last tree list ends seen held p last) → b ≡ get_or tree p 0 → Put m a b q k → Copied l at (step_bytes tree list ends seen more held s p last) q k × (then ≡ step_last tree list ends seen more held s p last)
  unfolding step_bytes step_last
  step_kept s y n a then m b q k e h c f w = rw (y, ← e, le-ltb 0 n h, ← f) (copied_then l at (before_bytes tree list ends seen held p last) (b ∷ []) a m q k c.0 (copied_one m a b q k w), c.1)

pub skips_passed : (more : List ℕ) (p : ℕ) (s : Bool) → s ≡ true → false ≡ step_skips more s p
unfolding step_skips
skips_passed more p s y = rw y refl

pub skips_else : (more : List ℕ) (p n : ℕ) (s : Bool) → s ≡ false → n ≡ get_or more p 0 → ltb 0 n ≡ step_skips more s p
unfolding step_skips
skips_else more p n s y e = rw (y, e) refl

-- ---- what is behind the head

module _ (tree list ends seen more held : List ℕ) (l₀ : List ℕ) (p₀ last₀ : ℕ) where
  pub record Passing (l : List ℕ) (at last : ℕ) (s : Bool) (p : ℕ) : Type 0 where
    pub size : length l ≡ length l₀
    pub stops : reach (length l) at (rest_bytes tree list ends seen more held (length tree - p) s p last) ≡ reach (length l₀) p₀ (rest_bytes tree list ends seen more held (length tree - 4) false 4 last₀)
    pub bytes : put l at (rest_bytes tree list ends seen more held (length tree - p) s p last) ≡ put l₀ p₀ (rest_bytes tree list ends seen more held (length tree - 4) false 4 last₀)

  pub passing_start : Passing l₀ p₀ last₀ false 4
  passing_start = record { size = refl; stops = refl; bytes = refl }

  rest_first : (n : ℕ) (s : Bool) (p last : ℕ) → 0 < n → rest_bytes tree list ends seen more held n s p last ≡ step_bytes tree list ends seen more held s p last ++ rest_bytes tree list ends seen more held (n - 1) (step_skips more s p) (p + 1) (step_last tree list ends seen more held s p last)
  unfolding rest_bytes
  rest_first zero s p last h = absurd (omega arith)
  rest_first (suc n) s p last h =
      let d : suc n - 1 ≡ n = omega arith in
      let f : suc p ≡ p + 1 = omega arith in
      rw (d, f)

  -- so many bytes at which nothing changes are copied, and so many are left
  rest_over : (d p q n last : ℕ) → p + d ≡ q → q ≤ length tree → Calm more p q → Calm held p q → rest_bytes tree list ends seen more held (d + n) false p last ≡ part p q tree ++ rest_bytes tree list ends seen more held n false q last
  unfolding rest_bytes step_bytes step_last step_skips before_bytes before_last
  rest_over zero p q n last e h c s =
      let f : p ≡ q = omega arith in
      let none : part q q tree ≡ [] = part_none tree q q (min q (length tree)) refl (omega arith) in
      let m : 0 + n ≡ n = omega arith in
      rw (f, none, m) refl
  rest_over (suc d) p q n last e h c s =
      let f : suc p ≡ p + 1 = omega arith in
      let m : suc d + n ≡ suc (d + n) = omega arith in
      rw (m, c p (omega arith) (omega arith), s p (omega arith) (omega arith), part_first tree p q (omega arith) (omega arith), f)
      (ap (λ (bs : List ℕ). get_or tree p 0 ∷ bs) (rest_over d (p + 1) q n last (omega arith) h (λ x a b. c x (omega arith) b) (λ x a b. s x (omega arith) b)))

  pub passing_over : (l : List ℕ) (at last : ℕ) (s : Bool) (p : ℕ) → Passing l at last s p → (end q : ℕ) → Quiet more held p end q × (s ≡ true → q ≡ p) → q ≤ length tree → (a : ℕ) (k : List ℕ) → Copied l at (part p q tree) a k → Passing k a last s q
  passing_over l at last s p g end q (c, f) h a k w =
      let same : length k ≡ length l = ap length w.1 ∙ put_length l at (part p q tree) in
      let over : rest_bytes tree list ends seen more held (length tree - p) s p last ≡ part p q tree ++ rest_bytes tree list ends seen more held (length tree - q) s q last = go s f in
      record {
        size = same ∙ g.size;
        stops = rw (same, w.0) (sym (reach_two (length l) at (part p q tree) (rest_bytes tree list ends seen more held (length tree - q) s q last)) ∙ ap (reach (length l) at) (sym over) ∙ g.stops);
        bytes = rw (w.0, w.1) (sym (put_two l at (part p q tree) (rest_bytes tree list ends seen more held (length tree - q) s q last)) ∙ ap (put l at) (sym over) ∙ g.bytes);
      }
    where
      go : (b : Bool) → (b ≡ true → q ≡ p) → rest_bytes tree list ends seen more held (length tree - p) b p last ≡ part p q tree ++ rest_bytes tree list ends seen more held (length tree - q) b q last
      go true e = let z : q ≡ p = e refl in let none : part p p tree ≡ [] = part_none tree p p (min p (length tree)) refl (omega arith) in rw (z, none) refl
      go false e =
          let u : p ≤ q = c.onward in
          let d : length tree - p ≡ (q - p) + (length tree - q) = omega arith in
          rw d (rest_over (q - p) p q (length tree - q) last (omega arith) h c.counts c.statements)

  pub passing_next : (l : List ℕ) (at last : ℕ) (s : Bool) (p : ℕ) → Passing l at last s p → p < length tree → (q then : ℕ) (k : List ℕ) (t : Bool) → Copied l at (step_bytes tree list ends seen more held s p last) q k × (then ≡ step_last tree list ends seen more held s p last) → t ≡ step_skips more s p → Passing k q then t (p + 1)
  passing_next l at last s p g h q then k t w e =
      let d : length tree - p - 1 ≡ length tree - (p + 1) = omega arith in
      let same : length k ≡ length l = ap length w.0.1 ∙ put_length l at (step_bytes tree list ends seen more held s p last) in
      let first : rest_bytes tree list ends seen more held (length tree - p) s p last ≡ step_bytes tree list ends seen more held s p last ++ rest_bytes tree list ends seen more held (length tree - (p + 1)) (step_skips more s p) (p + 1) (step_last tree list ends seen more held s p last) =
      rest_first (length tree - p) s p last (omega arith) ∙ rw d in
      record {
        size = same ∙ g.size;
        stops = rw (same, w.0.0, w.1, e) (sym (reach_two (length l) at (step_bytes tree list ends seen more held s p last) (rest_bytes tree list ends seen more held (length tree - (p + 1)) (step_skips more s p) (p + 1) (step_last tree list ends seen more held s p last))) ∙ ap (reach (length l) at) (sym first) ∙ g.stops);
        bytes = rw (w.0.0, w.0.1, w.1, e) (sym (put_two l at (step_bytes tree list ends seen more held s p last) (rest_bytes tree list ends seen more held (length tree - (p + 1)) (step_skips more s p) (p + 1) (step_last tree list ends seen more held s p last))) ∙ ap (put l at) (sym first) ∙ g.bytes);
      }

  rest_none : (n : ℕ) (s : Bool) (p last : ℕ) → n ≡ 0 → rest_bytes tree list ends seen more held n s p last ≡ []
  unfolding rest_bytes
  rest_none zero s p last e = refl
  rest_none (suc n) s p last e = absurd (omega arith)

  pub passing_ends : (l : List ℕ) (at last : ℕ) (s : Bool) (p : ℕ) → Passing l at last s p → length tree ≤ p → Copied l₀ p₀ (rest_bytes tree list ends seen more held (length tree - 4) false 4 last₀) at l
  unfolding put reach
  passing_ends l at last s p g h =
      let none : rest_bytes tree list ends seen more held (length tree - p) s p last ≡ [] = rest_none (length tree - p) s p last (omega arith) in
      (ap (reach (length l) at) (sym none) ∙ g.stops, ap (put l at) (sym none) ∙ g.bytes)

-- ---- the head, and all of it

module _ (tree list seen more : List ℕ) (excluded : ℕ) (l : List ℕ) (a : ℕ) (m : List ℕ) (c : Copied l 0 (part 0 2 tree) a m) (n k w : ℕ) (en : n ≡ wide_at tree 2) (ek : k ≡ get_or more 2 0) (ew : w ≡ wide_at list excluded) where
  pub head_plain : w ≡ 0 → (b : ℕ) (o : List ℕ) → Copied m a (wide_bytes ((n + k) % 65536)) b o → Copied l 0 (head_bytes tree list seen more excluded) b o × (0 ≡ head_last list seen excluded)
  unfolding head_bytes head_last
  head_plain e b o d = rw (eq-eqb (wide_at list excluded) 0 (sym ew ∙ e), ← en, ← ek) (copied_then l 0 (part 0 2 tree) (wide_bytes ((n + k) % 65536)) a m b o c d, refl)

  pub head_const : (w ≡ 0 → ⊥) → (b : ℕ) (o : List ℕ) (f : ℕ) → Copied m a (wide_bytes ((n + k + 1) % 65536)) b o → f ≡ free_after seen 0 → (q : ℕ) (r : List ℕ) → Copied o b (declared f 3 (part excluded (length list) list)) q r → Copied l 0 (head_bytes tree list seen more excluded) q r × (f ≡ head_last list seen excluded)
  unfolding head_bytes head_last
  head_const e b o f d g q r x =
      rw (ne_eqb (wide_at list excluded) 0 (λ z. e (ew ∙ z)), ← en, ← ek, ← g) (
        copied_then l 0 (part 0 2 tree) (wide_bytes ((n + k + 1) % 65536) ++ declared f 3 (part excluded (length list) list)) a m q r c
            (copied_then m a (wide_bytes ((n + k + 1) % 65536)) (declared f 3 (part excluded (length list) list)) b o q r d x),
        refl,
      )

pub whole_written : (tree list ends seen more held : List ℕ) (excluded : ℕ) (l : List ℕ) (a last : ℕ) (m : List ℕ) (q : ℕ) (k : List ℕ) → Copied l 0 (head_bytes tree list seen more excluded) a m × (last ≡ head_last list seen excluded) → Copied m a (rest_bytes tree list ends seen more held (length tree - 4) false 4 last) q k → Copied l 0 (whole_bytes tree list ends seen more held excluded) q k
unfolding whole_bytes
whole_written tree list ends seen more held excluded l a last m q k h r =
    copied_then l 0 (head_bytes tree list seen more excluded) (rest_bytes tree list ends seen more held (length tree - 4) false 4 (head_last list seen excluded)) a m q k h.0 (rw h.1 at r)
