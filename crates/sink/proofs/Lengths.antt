-- Lengths after any run of events: exact up to the limits, one above them past that. Cells play no part.
-- Assumes nothing.
use mathlib.Core.Path.{◌≡◌, refl, sym, subst, ◌∙◌}
use mathlib.Core.Bool.{true, false}
use mathlib.Core.List.{List, [], ◌∷◌}
use Prim.Native.Nat.{ℕ, ◌+◌, ◌-◌, ◌*◌, ◌≤◌, min}
use native.Mathlib.Omega.{arith}
use lib.Dec.{ltb}
use lib.ListN.{length, length-set}
use lib.Seq.{length-slice}
use borrow.Author.Tests.{lt-ltb, le-ltb, ltb-true, ltb-false}
use Rattle.sink.specs.Machine.{State, state_of, with_list, low, high, part, set_wide, set_cell, known, cell_of, patch_list, patch_work, put_tree, put_list, put_keys, put_entry, settle, listed_at, excluded_at, set_cell_in, use_helper, next_mark, count_entry, count_declarator, all_tree, all_list_of, all_keys, step, steps, number_of, closed, over}
use Rattle.sink.specs.Shown.{Named, event_of, events_of, names_after, mark_after, tree_of, list_of, keys_of, tree_tokens, list_tokens, keys_tokens}
use Rattle.sink.proofs.Runs.{by_test, length_wide}
use Rattle.sink.proofs.Names.{size, size_append}

-- slices of a, b and n bytes; t bytes of the tree, l of the list, x of the excluded declarators
pub record Long (a b n t l x : ℕ) (s : State) : Type 0 where
  pub tree : s.sink.tree ≡ min t 32769
  pub list : s.sink.list ≡ min l 16385
  pub keys : s.sink.keys ≡ min x 16385
  pub out_slice : length s.out ≡ a
  pub list_slice : length s.list ≡ b
  pub work_slice : length s.work ≡ n

module _ (a b n : ℕ) where
  long_tree : (t l x c : ℕ) (s : State) → Long a b n t l x s → Long a b n (t + 1) l x (put_tree s c)
  unfolding put_tree
  long_tree t l x c s h =
      by_test (ltb s.sink.tree 32768)
      (λ e. let k = ltb-true s.sink.tree 32768 e in rw e (record { tree = omega (arith, h.tree); list = h.list; keys = h.keys; out_slice = length-set s.out s.sink.tree c ∙ h.out_slice; list_slice = h.list_slice; work_slice = h.work_slice }))
      (λ e. let k = ltb-false s.sink.tree 32768 e in rw e (record { tree = omega (arith, h.tree); list = h.list; keys = h.keys; out_slice = h.out_slice; list_slice = h.list_slice; work_slice = h.work_slice }))

  long_list : (t l x c : ℕ) (s : State) → Long a b n t l x s → Long a b n t (l + 1) x (put_list s c)
  unfolding put_list
  long_list t l x c s h =
      by_test (ltb s.sink.list 16384)
      (λ e. let k = ltb-true s.sink.list 16384 e in rw e (record { tree = h.tree; list = omega (arith, h.list); keys = h.keys; out_slice = h.out_slice; list_slice = length-set s.list s.sink.list c ∙ h.list_slice; work_slice = h.work_slice }))
      (λ e. let k = ltb-false s.sink.list 16384 e in rw e (record { tree = h.tree; list = omega (arith, h.list); keys = h.keys; out_slice = h.out_slice; list_slice = h.list_slice; work_slice = h.work_slice }))

  long_keys : (t l x c : ℕ) (s : State) → Long a b n t l x s → Long a b n t l (x + 1) (put_keys s c)
  unfolding put_keys
  long_keys t l x c s h =
      by_test (ltb s.sink.keys 16384)
      (λ e. let k = ltb-true s.sink.keys 16384 e in rw e (record { tree = h.tree; list = h.list; keys = omega (arith, h.keys); out_slice = h.out_slice; list_slice = h.list_slice; work_slice = length-set s.work (32768 + s.sink.keys) c ∙ h.work_slice }))
      (λ e. let k = ltb-false s.sink.keys 16384 e in rw e (record { tree = h.tree; list = h.list; keys = omega (arith, h.keys); out_slice = h.out_slice; list_slice = h.list_slice; work_slice = h.work_slice }))

  long_entry : (t l x c v : ℕ) (s : State) → Long a b n t l x s → Long a b n t (l + 4) x (put_entry s c v)
  unfolding put_entry
  long_entry t l x c v s h =
      by_test (ltb s.sink.list 16381)
      (λ e. let k = ltb-true s.sink.list 16381 e in
      rw e (record { tree = h.tree; list = omega (arith, h.list); keys = h.keys; out_slice = h.out_slice; list_slice = length_wide (set_wide s.list s.sink.list c) (s.sink.list + 2) v ∙ length_wide s.list s.sink.list c ∙ h.list_slice; work_slice = h.work_slice }))
      (λ e. let k = ltb-false s.sink.list 16381 e in
      rw e (record { tree = h.tree; list = omega (arith, h.list); keys = h.keys; out_slice = h.out_slice; list_slice = h.list_slice; work_slice = h.work_slice }))

  -- a length said in another way
  long_as : {t l x t' l' x' : ℕ} {s : State} → t ≡ t' → l ≡ l' → x ≡ x' → Long a b n t l x s → Long a b n t' l' x' s
  long_as p q r h =
      record { tree = omega (arith, h.tree); list = omega (arith, h.list); keys = omega (arith, h.keys); out_slice = h.out_slice; list_slice = h.list_slice; work_slice = h.work_slice }

  all_tree_lem : (bs : List ℕ) (t l x : ℕ) (s : State) → Long a b n t l x s → Long a b n (t + length bs) l x (all_tree s bs)
  unfolding all_tree
  all_tree_lem [] t l x s h = long_as (omega arith) refl refl h
  all_tree_lem (c ∷ bs) t l x s h = long_as (omega arith) refl refl (all_tree_lem bs (t + 1) l x (put_tree s c) (long_tree t l x c s h))

  pub all_list : (bs : List ℕ) (t l x : ℕ) (s : State) → Long a b n t l x s → Long a b n t (l + length bs) x (all_list_of s bs)
  unfolding all_list_of
  all_list [] t l x s h = long_as refl (omega arith) refl h
  all_list (c ∷ bs) t l x s h = long_as refl (omega arith) refl (all_list bs t (l + 1) x (put_list s c) (long_list t l x c s h))

  all_keys_lem : (bs : List ℕ) (t l x : ℕ) (s : State) → Long a b n t l x s → Long a b n t l (x + length bs) (all_keys s bs)
  unfolding all_keys
  all_keys_lem [] t l x s h = long_as refl refl (omega arith) h
  all_keys_lem (c ∷ bs) t l x s h = long_as refl refl (omega arith) (all_keys_lem bs t l (x + 1) (put_keys s c) (long_keys t l x c s h))

  -- ---- what changes no length

  set_cell_long : (w : List ℕ) (c v : ℕ) → length (set_cell w c v) ≡ length w
  unfolding set_cell
  set_cell_long w c v = by_test (ltb c 16384) (λ e. rw e (length_wide w (2 * c) v)) (λ e. rw e)

  patch_list_long : (v k : ℕ) (l : List ℕ) → length (patch_list v k l) ≡ length l
  unfolding patch_list
  patch_list_long v k l = by_test (ltb v 16384) (λ e. rw e) (λ e. rw e (by_test (ltb v 32768) (λ f. rw f (length_wide l (v - 16384) k)) (λ f. rw f)))

  patch_work_long : (v k : ℕ) (w : List ℕ) → length (patch_work v k w) ≡ length w
  unfolding patch_work
  patch_work_long v k w = by_test (ltb v 32768) (λ e. rw e) (λ e. rw e (length_wide w v k))

  long_cell : (t l x c v : ℕ) (s : State) → Long a b n t l x s → Long a b n t l x (set_cell_in s c v)
  unfolding set_cell_in
  long_cell t l x c v s h =
      record { tree = h.tree; list = h.list; keys = h.keys; out_slice = h.out_slice; list_slice = h.list_slice; work_slice = set_cell_long s.work c v ∙ h.work_slice }

  long_settle : (t l x c : ℕ) (s : State) → Long a b n t l x s → Long a b n t l x (settle s c)
  unfolding settle
  long_settle t l x c s h =
      by_test (known (cell_of s.work c)) (λ e. rw e h)
      (λ e. rw e
      (record {
        tree = h.tree;
        list = h.list;
        keys = h.keys;
        out_slice = h.out_slice;
        list_slice = patch_list_long (cell_of s.work c) s.sink.next s.list ∙ h.list_slice;
        work_slice = set_cell_long (patch_work (cell_of s.work c) s.sink.next s.work) c s.sink.next ∙ patch_work_long (cell_of s.work c) s.sink.next s.work ∙ h.work_slice;
      }))

  -- ---- events

  module _ {A : Type 0} (names : ℕ → A) (m : ℕ) (t l x : ℕ) (s : State) (h : Long a b n t l x s) where
    long_same : Long a b n (t + 0) (l + 0) (x + 0) s
    long_same = long_as (omega arith) (omega arith) (omega arith) h

    pub long_event : (ev : Named A) → Long a b n (t + size (tree_of names m ev)) (l + size (list_of ev)) (x + size (keys_of ev)) (step s (event_of ev))
    unfolding step event_of tree_of list_of keys_of use_helper next_mark count_entry count_declarator
    long_event (Named.put c) = long_as refl (omega arith) (omega arith) (long_tree t l x c s h)
    long_event (Named.helper c) =
        long_as refl (omega arith) (omega arith)
        (all_tree_lem (21 ∷ 1 ∷ c ∷ []) t l x (use_helper s c) (record { tree = h.tree; list = h.list; keys = h.keys; out_slice = h.out_slice; list_slice = h.list_slice; work_slice = h.work_slice }))
    long_event (Named.temporary c stem) =
        long_as refl (omega arith) (omega arith) (all_tree_lem (20 ∷ 3 ∷ low (number_of s c) ∷ high (number_of s c) ∷ stem ∷ []) t l x (settle s c) (long_settle t l x c s h))
    long_event Named.new_mark =
        long_as refl (omega arith) (omega arith)
        (all_tree_lem (low s.sink.mark ∷ high s.sink.mark ∷ []) t l x (next_mark s) (record { tree = h.tree; list = h.list; keys = h.keys; out_slice = h.out_slice; list_slice = h.list_slice; work_slice = h.work_slice }))
    long_event (Named.make c v) = long_cell (t + 0) (l + 0) (x + 0) c 0 s long_same
    long_event (Named.listed c) = long_as (omega arith) refl (omega arith) (long_list t l x c s h)
    long_event (Named.listed_temporary c stem v) =
        long_as (omega arith) refl (omega arith) (all_list (20 ∷ 3 ∷ 0 ∷ 0 ∷ stem ∷ []) t l x (set_cell_in s c (listed_at s.sink.list)) (long_cell t l x c (listed_at s.sink.list) s h))
    long_event (Named.entry c v) =
        long_as (omega arith) refl (omega arith)
        (long_entry t l x c v (count_entry s) (record { tree = h.tree; list = h.list; keys = h.keys; out_slice = h.out_slice; list_slice = h.list_slice; work_slice = h.work_slice }))
    long_event (Named.excluded c) = long_as (omega arith) (omega arith) refl (long_keys t l x c s h)
    long_event (Named.excluded_temporary c stem v) =
        long_as (omega arith) (omega arith) refl (all_keys_lem (20 ∷ 3 ∷ 0 ∷ 0 ∷ stem ∷ []) t l x (set_cell_in s c (excluded_at s.sink.keys)) (long_cell t l x c (excluded_at s.sink.keys) s h))
    long_event Named.declarator =
        long_as (omega arith) (omega arith) refl
        (all_keys_lem (5 ∷ 3 ∷ []) t l x (count_declarator s) (record { tree = h.tree; list = h.list; keys = h.keys; out_slice = h.out_slice; list_slice = h.list_slice; work_slice = h.work_slice }))

  pub long_events : {A : Type 0} (es : List (Named A)) (names : ℕ → A) (m t l x : ℕ) (s : State) → Long a b n t l x s
      → Long a b n (t + size (tree_tokens names m es)) (l + size (list_tokens es)) (x + size (keys_tokens es)) (steps s (events_of es))
  unfolding steps events_of tree_tokens list_tokens keys_tokens
  long_events [] names m t l x s h = long_as (omega arith) (omega arith) (omega arith) h
  long_events (ev ∷ es) names m t l x s h =
      long_as
      (omega (arith, size_append (tree_of names m ev) (tree_tokens (names_after names ev) (mark_after m ev) es)))
      (omega (arith, size_append (list_of ev) (list_tokens es)))
      (omega (arith, size_append (keys_of ev) (keys_tokens es)))
      (long_events es (names_after names ev) (mark_after m ev) (t + size (tree_of names m ev)) (l + size (list_of ev)) (x + size (keys_of ev)) (step s (event_of ev)) (long_event names m t l x s h ev))

  -- ---- the end

  -- the list's count is written, and what follows the entries
  head : State → State
  head s = state_of s.out (set_wide s.list 0 s.sink.entries) s.work s.sink

  tail : State → List ℕ
  tail s = low s.sink.declarators ∷ high s.sink.declarators ∷ part 32768 (32768 + s.sink.keys) s.work

  closed_in : (s : State) → ltb s.sink.keys 16385 ≡ true → all_list_of (head s) (tail s) ≡ closed s
  unfolding closed head tail
  closed_in s e = rw e

  closed_over : (s : State) → ltb s.sink.keys 16385 ≡ false → state_of s.out s.list s.work (with_list s.sink 16385) ≡ closed s
  unfolding closed
  closed_over s e = rw e

  long_head : (t l x : ℕ) (s : State) → Long a b n t l x s → Long a b n t l x (head s)
  unfolding head
  long_head t l x s h =
      record { tree = h.tree; list = h.list; keys = h.keys; out_slice = h.out_slice; list_slice = length_wide s.list 0 s.sink.entries ∙ h.list_slice; work_slice = h.work_slice }

  length_tail : (s : State) (x : ℕ) → s.sink.keys ≡ x → 32768 + x ≤ length s.work → length (tail s) ≡ 2 + x
  unfolding tail part
  length_tail s x e h =
      let y : length (part 32768 (32768 + s.sink.keys) s.work) ≡ 32768 + s.sink.keys - 32768 = length-slice 32768 (32768 + s.sink.keys) s.work (omega arith) in
      omega arith

  pub long_closed : (t l x : ℕ) (s : State) → 49152 ≤ n → Long a b n t l x s → Long a b n t (l + (2 + x)) x (closed s)
  long_closed t l x s large h =
      by_test (ltb s.sink.keys 16385)
      (λ e. let k = ltb-true s.sink.keys 16385 e in
      let z : s.sink.keys ≡ x = omega (arith, h.keys) in
      let y : length (tail s) ≡ 2 + x = length_tail s x z (omega (arith, h.work_slice)) in
      subst (λ (r : State). Long a b n t (l + (2 + x)) x r) (closed_in s e)
      (subst (λ (i : ℕ). Long a b n t (l + i) x (all_list_of (head s) (tail s))) y (all_list (tail s) t l x (head s) (long_head t l x s h))))
      (λ e. let k = ltb-false s.sink.keys 16385 e in
      subst (λ (r : State). Long a b n t (l + (2 + x)) x r) (closed_over s e)
      (record { tree = h.tree; list = omega (arith, h.keys); keys = h.keys; out_slice = h.out_slice; list_slice = h.list_slice; work_slice = h.work_slice }))

-- a length cut off above the limit is above it as much as the whole is
pub over_cut : (limit slice k : ℕ) → over limit slice (min k (limit + 1)) ≡ over limit slice k
unfolding over
over_cut limit slice k =
    by_test (ltb (min limit slice) k)
    (λ e. let h = ltb-true (min limit slice) k e in lt-ltb (min limit slice) (min k (limit + 1)) (omega arith) ∙ sym e)
    (λ e. let h = ltb-false (min limit slice) k e in le-ltb (min limit slice) (min k (limit + 1)) (omega arith) ∙ sym e)
