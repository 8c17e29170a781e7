-- The marks of a result are distinct, if no key with a mark inside is copied: each stands at most once in tree and list.
-- Assumes nothing.
use mathlib.Core.Path.{◌≡◌, refl}
use mathlib.Core.Bool.{true, false}
use mathlib.Core.List.{List, [], ◌∷◌, ◌++◌}
use Prim.Native.Nat.{ℕ, zero, suc, ◌+◌, ◌≤◌, ◌<◌}
use native.Mathlib.Omega.{arith}
use lib.Dec.{eqb, ltb}
use borrow.Author.Tests.{eqb-true}
use Rattle.tree.specs.Tree.{Node, Items, marks, marks_items}
use Rattle.tree.specs.Grammar.{root}
use Rattle.tree.specs.Grammar.Stage.{input}
use Rattle.tree.specs.WellFormed.{Counts, Fits}
use Rattle.rewritten.specs.Rewritten.{distinct}
use Rattle.lowering.specs.Made.{Context}
use Rattle.lowering.specs.Walk.{Walked}
use Rattle.lowering.specs.Weight.{weight, walked}
use Rattle.lowering.specs.Collect.{Name, Entry, over, nodes, entries, excluded_in, new_in, bare, visits, numbered, numbered_items}
use Rattle.equal.specs.Canonical.{each_entry}
use Rattle.joining.specs.List.{handed, inner_marks}
use Rattle.joining.specs.Answer.{taken}
use Rattle.lowering.proofs.Cases.{by_test}
use Rattle.result.specs.Marks.{copies_at, copies_marks}
use Rattle.result.specs.Left.{any_of}
use Rattle.result.proofs.Weighed.{total, weigh}
use Rattle.result.proofs.Copies.{Measure}
use Rattle.result.proofs.Tallies.{tally, tally_append, marks_most, by_marks, left, given, walk_weighs, of_entries, list_weighs}
use Rattle.result.proofs.Distinct.{hit, before, counted_once, distinct_by, bare_once, bare_zero, numbered_tally, numbered_items_lem, numbered_entries, weighs_none, weighs_marks}

before_most : (m k : ℕ) → before m k ≤ 1
before_most m k = by_test (ltb m k) (λ e. rw e (omega arith)) (λ e. rw e (omega arith))

not_zero : (j : ℕ) → hit (suc j) 0 ≡ 0
not_zero j = by_test (eqb 0 (suc j)) (λ e. let q = eqb-true 0 (suc j) e in absurd (omega arith)) (λ e. rw e refl)

copies : (n : Node) → copies_marks n ≡ false → any_of copies_at (nodes n) ≡ false
unfolding copies_marks
copies n h = h

-- the marks inside the list, as the measure has them
total_tally : (f : ℕ → ℕ) (g : Node → ℕ) → ((d : Node) → g d ≡ tally f (marks d)) → (is : Items) → total g is ≡ tally f (marks_items is)
unfolding total marks tally
total_tally f g same Items.none = refl
total_tally f g same (Items.hole is) = total_tally f g same is
total_tally f g same (Items.item d is) = let a = same d in let r = total_tally f g same is in let c = tally_append f (marks d) (marks_items is) in omega arith

module _ {out : ℕ → ℕ} {kin : Node → ℕ} (measure : Measure out kin) (f : ℕ → ℕ) (same : (d : Node) → measure.entry d ≡ tally f (marks d)) where
  entries_tally : (es : List Entry) → of_entries measure es ≡ tally f (over (λ e. marks_items e.declarators) es)
  unfolding of_entries over tally
  entries_tally [] = refl
  entries_tally (e ∷ es) =
      let a = total_tally f measure.entry same e.declarators in
      let r = entries_tally es in
      let c = tally_append f (marks_items e.declarators) (over (λ e. marks_items e.declarators) es) in
      omega arith

module _ (ns : List Name) (c : Context) (n : Node) (next : ℕ) where
  abbrev w : Walked
  w = walked c n

  abbrev es : List Entry
  es = entries (visits next 0 w)

  abbrev ex : Items
  ex = excluded_in (visits next 0 w)

  abbrev written : List ℕ
  written = taken (numbered ns (bare next w)) (handed (each_entry (λ is. numbered_items ns is) es) (numbered_items ns ex))

  -- numbers aside
  written_most : (f : ℕ → ℕ) → tally f written ≤ tally f (marks (bare next w)) + (tally f (over (λ e. marks_items e.declarators) es) + tally f (marks_items ex))
  unfolding taken inner_marks
  written_most f =
      let t = numbered_tally f ns (bare next w) in
      let a = numbered_entries f ns es in
      let b = numbered_items_lem f ns ex in
      let l = over (λ e. marks_items e.declarators) (each_entry (λ is. numbered_items ns is) es) in
      let d = tally_append f (marks (numbered ns (bare next w))) (l ++ marks_items (numbered_items ns ex)) in
      let e = tally_append f l (marks_items (numbered_items ns ex)) in
      omega arith

  walked_weighs : {out : ℕ → ℕ} {kin : Node → ℕ} (measure : Measure out kin) → left measure w + given measure w ≤ weigh out kin n
  unfolding walked
  walked_weighs measure = walk_weighs measure (weight n) c n

  module _ (counts : Counts 1 (marks n) next) where
    positive : 0 < next
    unfolding Counts
    positive = go 1 (marks n) next counts (omega arith)
      where
        go : (k : ℕ) (ms : List ℕ) (j : ℕ) → Counts k ms j → 0 < k → 0 < j
        go k [] j e h = let q : k ≡ j = e in omega arith
        go k (m ∷ ms) j e h = go (k + 1) ms j e.1 (omega arith)

    zero_once : tally (hit 0) written ≤ 1
    unfolding tally marks by_marks
    zero_once =
        let kin : Node → ℕ = λ k. tally (hit 0) (marks k) in
        let measure : Measure (λ (x : ℕ). 0) kin = by_marks (hit 0) refl refl (λ k. omega arith) in
        let a = counted_once 0 1 (marks n) next counts in
        let b = before_most 0 next in
        let d : before 0 1 ≡ 1 = refl in
        let e = weighs_none (λ (x : ℕ). 0) kin refl (hit 0) (λ x h. refl) (λ k h. h) n (omega arith) in
        let f = walked_weighs measure in
        let g = list_weighs measure next 0 w in
        let h = entries_tally measure (hit 0) (λ d. refl) es in
        let i = total_tally (hit 0) measure.excluded (λ d. refl) ex in
        let j = bare_zero next w positive in
        let k = written_most (hit 0) in
        omega arith

    module _ (fits : Fits input root n) (none : copies_marks n ≡ false) where
      other_once : (m : ℕ) → tally (hit (suc m)) written ≤ 1
      unfolding by_marks
      other_once m =
          let out : ℕ → ℕ = hit (suc m) in
          let measure : Measure out (λ (k : Node). 0) = by_marks out (not_zero m) refl (λ k. let a = marks_most out (λ (k : Node). 0) k in omega arith) in
          let a = counted_once (suc m) 1 (marks n) next counts in
          let b = before_most (suc m) (next + new_in w) in
          let e = weighs_marks out fits (copies n none) in
          let f = walked_weighs measure in
          let g = list_weighs measure next 0 w in
          let h = entries_tally measure out (λ d. refl) es in
          let i = total_tally out measure.excluded (λ d. refl) ex in
          let j = bare_once measure (suc m) (λ x. refl) next w in
          let k = written_most out in
          omega arith

      once : (m : ℕ) → tally (hit m) written ≤ 1
      once zero = zero_once
      once (suc m) = other_once m

      -- no mark stands twice
      pub marks_apart : distinct written ≡ true
      marks_apart = distinct_by written once
