-- The machine begins with cleared cells; what stands in the work slice behind them does not matter: a byte there is read only where an excluded
-- declarator was written.
-- Assumes nothing.
use mathlib.Core.Path.{◌≡◌, refl, sym, ap, ap₂, ◌∙◌, subst}
use mathlib.Core.Bool.{Bool, true, false, cond, ◌||◌}
use mathlib.Core.List.{List, [], ◌∷◌, ◌++◌}
use Prim.Native.Nat.{ℕ, zero, suc, ◌+◌, ◌*◌, ◌<◌, ◌≤◌, min}
use native.Mathlib.Omega.{arith}
use native.Mathlib.Nat.{le_of_suc-le-suc, not-suc-le-zero}
use native.Mathlib.Decide.{dec_lt}
use native.Mathlib.Numerals.{add-one}
use lib.Dec.{ltb}
use lib.ListN.{length, get_or, set, take, drop, replicate, length-set, length-replicate}
use lib.Seq.{take-set-le, take-set-lt, take-suc-set, take-append_seam, get_or-take, length-take-le, length_front}
use borrow.Author.Tests.{lt-ltb, ltb-true}
use Rattle.sink.specs.declared.Sink.{Sink}
use Rattle.sink.specs.Machine.{Event, State, Ended, state_of, with_list, with_keys_of, with_next, low, high, part, wide_in, set_wide, put_tree, put_list, put_keys, put_entry, cell_of, set_cell, known, patch_list, patch_work, number_of, settle, listed_at, excluded_at, set_cell_in, use_helper, next_mark, count_entry, count_declarator, one_more_of, all_tree, all_list_of, all_keys, step, steps, closed, end_of, nothing, over, mask_of, ended, finished, start}
use Rattle.sink.specs.Machine.Event.{put, helper, temporary, new_mark, make, listed, listed_temporary, entry, excluded, excluded_temporary, declarator}
use Rattle.sink.proofs.Runs.{length_wide}

-- ---- two lists that begin alike

abbrev Alike : ℕ → List ℕ → List ℕ → Type 0
Alike n x y = take n x ≡ take n y

alike_set : (n : ℕ) (x y : List ℕ) (i b : ℕ) → Alike n x y → Alike n (set x i b) (set y i b)
alike_set n x y i b e = elim (dec_lt i n) [
  | yes h ↦ take-set-lt n x i b h ∙ ap (λ (l : List ℕ). set l i b) e ∙ sym (take-set-lt n y i b h)
  | no h ↦ take-set-le n x i b (omega arith) ∙ e ∙ sym (take-set-le n y i b (omega arith))
]

alike_more : (n : ℕ) (x y : List ℕ) (b : ℕ) → n < length x → n < length y → Alike n x y → Alike (n + 1) (set x n b) (set y n b)
alike_more n x y b h g e =
    ap (λ (m : ℕ). take m (set x n b)) (add-one n) ∙ take-suc-set x n b h ∙ ap (λ (l : List ℕ). l ++ (b ∷ [])) e
    ∙ sym (take-suc-set y n b g) ∙ ap (λ (m : ℕ). take m (set y n b)) (sym (add-one n))

take_less : (m n : ℕ) (x : List ℕ) → m ≤ n → take m (take n x) ≡ take m x
take_less zero n x h = refl
take_less (suc m) zero x h = absurd (not-suc-le-zero h)
take_less (suc m) (suc n) [] h = refl
take_less (suc m) (suc n) (a ∷ x) h = ap (λ (l : List ℕ). a ∷ l) (take_less m n x (le_of_suc-le-suc h))

alike_less : (m n : ℕ) (x y : List ℕ) → m ≤ n → Alike n x y → Alike m x y
alike_less m n x y h e = sym (take_less m n x h) ∙ ap (take m) e ∙ take_less m n y h

alike_at : (n : ℕ) (x y : List ℕ) (i : ℕ) → i < n → Alike n x y → get_or x i 0 ≡ get_or y i 0
alike_at n x y i h e = sym (get_or-take n x i 0 h) ∙ ap (λ (l : List ℕ). get_or l i 0) e ∙ get_or-take n y i 0 h

alike_wide : (n : ℕ) (x y : List ℕ) (i v : ℕ) → Alike n x y → Alike n (set_wide x i v) (set_wide y i v)
unfolding set_wide
alike_wide n x y i v e = alike_set n (set x i (low v)) (set y i (low v)) (i + 1) (high v) (alike_set n x y i (low v) e)

-- ---- two states that differ only in the work slice, and there behind the excluded declarators

-- up to where the work slice is as it should be, with so many bytes of excluded declarators
unfoldable pub reach : ℕ → ℕ
reach k = cond (ltb k 16385) (32768 + k) 32768

cells_within : (k : ℕ) → 32768 ≤ reach k
unfolding reach
cells_within k = go (ltb k 16385)
  where
    go : (b : Bool) → 32768 ≤ cond b (32768 + k) 32768
    go true = omega arith
    go false = omega arith

pub record Twins (s t : State) : Type 0 where
  pub out : List ℕ
  pub list : List ℕ
  pub one : List ℕ
  pub other : List ℕ
  pub sink : Sink
  pub first : s ≡ state_of out list one sink
  pub second : t ≡ state_of out list other sink
  pub roomy : 49152 ≤ length one
  pub long : length one ≡ length other
  pub alike : take (reach sink.keys) one ≡ take (reach sink.keys) other

twins : (o l x y : List ℕ) (k : Sink) → 49152 ≤ length x → length x ≡ length y → Alike (reach k.keys) x y → Twins (state_of o l x k) (state_of o l y k)
twins o l x y k r n e = record { out = o; list = l; one = x; other = y; sink = k; first = refl; second = refl; roomy = r; long = n; alike = e }

twins_cond : (b : Bool) (s₁ s₂ t₁ t₂ : State) → Twins s₁ t₁ → Twins s₂ t₂ → Twins (cond b s₁ s₂) (cond b t₁ t₂)
twins_cond true s₁ s₂ t₁ t₂ p q = p
twins_cond false s₁ s₂ t₁ t₂ p q = q

-- what keeps twins of the form above keeps all
Keeps : (State → State) → Type 0
Keeps f = (o l x y : List ℕ) (k : Sink) → 49152 ≤ length x → length x ≡ length y → Alike (reach k.keys) x y → Twins (f (state_of o l x k)) (f (state_of o l y k))

kept : (f : State → State) → Keeps f → (s t : State) → Twins s t → Twins (f s) (f t)
unfolding Keeps
kept f h s t p =
    subst (λ (z : State). Twins (f z) (f t)) (sym p.first)
    (subst (λ (z : State). Twins (f (state_of p.out p.list p.one p.sink)) (f z)) (sym p.second)
    (h p.out p.list p.one p.other p.sink p.roomy p.long p.alike))

keeps_tree : (b : ℕ) → Keeps (λ s. put_tree s b)
unfolding Keeps put_tree
keeps_tree b o l x y k r n e = twins_cond (ltb k.tree 32768) _ _ _ _ (twins _ l x y _ r n e) (twins o l x y _ r n e)

keeps_list : (b : ℕ) → Keeps (λ s. put_list s b)
unfolding Keeps put_list
keeps_list b o l x y k r n e = twins_cond (ltb k.list 16384) _ _ _ _ (twins o _ x y _ r n e) (twins o l x y _ r n e)

keeps_keys : (b : ℕ) → Keeps (λ s. put_keys s b)
unfolding Keeps put_keys reach
keeps_keys b o l x y k r n e = go (ltb k.keys 16384) refl
  where
    go : (c : Bool) → ltb k.keys 16384 ≡ c → Twins (cond c (state_of o l (set x (32768 + k.keys) b) (with_keys_of k (k.keys + 1))) (state_of o l x (with_keys_of k 16385))) (cond c (state_of o l (set y (32768 + k.keys) b) (with_keys_of k (k.keys + 1))) (state_of o l y (with_keys_of k 16385)))
    go true f =
        let h : k.keys < 16384 = ltb-true _ _ f in
        let i : ltb k.keys 16385 ≡ true = lt-ltb k.keys 16385 (omega arith) in
        let j : ltb (k.keys + 1) 16385 ≡ true = lt-ltb (k.keys + 1) 16385 (omega arith) in
        let u : Alike (32768 + k.keys) x y = subst (λ (c : Bool). Alike (cond c (32768 + k.keys) 32768) x y) i e in
        let a : 32768 + (k.keys + 1) ≡ 32768 + k.keys + 1 = omega arith in
        twins o l (set x (32768 + k.keys) b) (set y (32768 + k.keys) b) (with_keys_of k (k.keys + 1)) (omega (arith, length-set x (32768 + k.keys) b)) (length-set x (32768 + k.keys) b ∙ n ∙ sym (length-set y (32768 + k.keys) b))
        (subst (λ (c : Bool). Alike (cond c (32768 + (k.keys + 1)) 32768) (set x (32768 + k.keys) b) (set y (32768 + k.keys) b)) (sym j)
        (subst (λ (m : ℕ). Alike m (set x (32768 + k.keys) b) (set y (32768 + k.keys) b)) (sym a) (alike_more (32768 + k.keys) x y b (omega arith) (omega arith) u)))
    go false f = twins o l x y (with_keys_of k 16385) r n (alike_less 32768 (reach k.keys) x y (cells_within k.keys) e)

keeps_entry : (m c : ℕ) → Keeps (λ s. put_entry s m c)
unfolding Keeps put_entry
keeps_entry m c o l x y k r n e = twins_cond (ltb k.list 16381) _ _ _ _ (twins o _ x y _ r n e) (twins o l x y _ r n e)

-- a write at the same place in both
written : (o l x y : List ℕ) (k : Sink) (i v : ℕ) → 49152 ≤ length x → length x ≡ length y → Alike (reach k.keys) x y → Twins (state_of o l (set_wide x i v) k) (state_of o l (set_wide y i v) k)
written o l x y k i v r n e = twins o l (set_wide x i v) (set_wide y i v) k (omega (arith, length_wide x i v)) (length_wide x i v ∙ n ∙ sym (length_wide y i v)) (alike_wide (reach k.keys) x y i v e)

keeps_cell : (c v : ℕ) → Keeps (λ s. set_cell_in s c v)
unfolding Keeps set_cell_in set_cell
keeps_cell c v o l x y k r n e = go (ltb c 16384)
  where
    go : (b : Bool) → Twins (state_of o l (cond b (set_wide x (2 * c) v) x) k) (state_of o l (cond b (set_wide y (2 * c) v) y) k)
    go true = written o l x y k (2 * c) v r n e
    go false = twins o l x y k r n e

-- cells are read alike
cell_same : (x y : List ℕ) (k c : ℕ) → Alike (reach k) x y → cell_of x c ≡ cell_of y c
unfolding cell_of wide_in
cell_same x y k c e = go (ltb c 16384) refl
  where
    go : (b : Bool) → ltb c 16384 ≡ b → cond b (get_or x (2 * c) 0 + 256 * get_or x (2 * c + 1) 0) 0 ≡ cond b (get_or y (2 * c) 0 + 256 * get_or y (2 * c + 1) 0) 0
    go true f =
        let h : c < 16384 = ltb-true _ _ f in
        ap₂ (λ (a b : ℕ). a + 256 * b) (alike_at (reach k) x y (2 * c) (omega (arith, cells_within k)) e) (alike_at (reach k) x y (2 * c + 1) (omega (arith, cells_within k)) e)
    go false f = refl

keeps_patch : (v c : ℕ) → Keeps (λ s. state_of s.out (patch_list v s.sink.next s.list) (set_cell (patch_work v s.sink.next s.work) c s.sink.next) (with_next s.sink (one_more_of 16383 s.sink.next)))
unfolding Keeps patch_work set_cell_in
keeps_patch v c o l x y k r n e = go (ltb v 32768)
  where
    k' : Sink
    k' = with_next k (one_more_of 16383 k.next)

    l' : List ℕ
    l' = patch_list v k.next l

    cell : (s t : State) → Twins s t → Twins (set_cell_in s c k.next) (set_cell_in t c k.next)
    cell s t p = kept (λ s. set_cell_in s c k.next) (keeps_cell c k.next) s t p

    go : (b : Bool) → Twins (state_of o l' (set_cell (cond b x (set_wide x v k.next)) c k.next) k') (state_of o l' (set_cell (cond b y (set_wide y v k.next)) c k.next) k')
    go true = cell (state_of o l' x k') (state_of o l' y k') (twins o l' x y k' r n e)
    go false = cell (state_of o l' (set_wide x v k.next) k') (state_of o l' (set_wide y v k.next) k') (written o l' x y k' v k.next r n e)

keeps_settle : (c : ℕ) → Keeps (λ s. settle s c)
unfolding Keeps settle
keeps_settle c o l x y k r n e =
    subst (λ (v : ℕ). Twins (settle (state_of o l x k) c) (cond (known v) (state_of o l y k) (state_of o (patch_list v k.next l) (set_cell (patch_work v k.next y) c k.next) (with_next k (one_more_of 16383 k.next)))))
    (cell_same x y k.keys c e)
    (twins_cond (known (cell_of x c)) _ _ _ _ (twins o l x y k r n e) (keeps_patch (cell_of x c) c o l x y k r n e))

number_same : (c : ℕ) (s t : State) → Twins s t → number_of s c ≡ number_of t c
unfolding number_of
number_same c s t p =
    let f : State → ℕ = λ z. cond (known (cell_of z.work c)) (cell_of z.work c) z.sink.next in
    ap f p.first ∙ ap (λ (v : ℕ). cond (known v) v p.sink.next) (cell_same p.one p.other p.sink.keys c p.alike) ∙ ap f (sym p.second)

-- ---- runs of bytes, and the events

all_tree_lem : (bs : List ℕ) (s t : State) → Twins s t → Twins (all_tree s bs) (all_tree t bs)
unfolding all_tree
all_tree_lem [] s t p = p
all_tree_lem (b ∷ bs) s t p = all_tree_lem bs (put_tree s b) (put_tree t b) (kept (λ s. put_tree s b) (keeps_tree b) s t p)

all_list : (bs : List ℕ) (s t : State) → Twins s t → Twins (all_list_of s bs) (all_list_of t bs)
unfolding all_list_of
all_list [] s t p = p
all_list (b ∷ bs) s t p = all_list bs (put_list s b) (put_list t b) (kept (λ s. put_list s b) (keeps_list b) s t p)

all_keys_lem : (bs : List ℕ) (s t : State) → Twins s t → Twins (all_keys s bs) (all_keys t bs)
unfolding all_keys
all_keys_lem [] s t p = p
all_keys_lem (b ∷ bs) s t p = all_keys_lem bs (put_keys s b) (put_keys t b) (kept (λ s. put_keys s b) (keeps_keys b) s t p)

-- a number of the state beside the slices
pub sink_same : (s t : State) → Twins s t → s.sink ≡ t.sink
sink_same s t p = ap (λ (z : State). z.sink) p.first ∙ sym (ap (λ (z : State). z.sink) p.second)

twins_step : (e : Event) (s t : State) → Twins s t → Twins (step s e) (step t e)
unfolding step Keeps use_helper next_mark count_entry count_declarator
twins_step (put b) s t p = kept (λ s. put_tree s b) (keeps_tree b) s t p
twins_step (helper h) s t p = all_tree_lem (21 ∷ 1 ∷ h ∷ []) (use_helper s h) (use_helper t h) (kept (λ s. use_helper s h) (λ o l x y k r n e. twins o l x y _ r n e) s t p)
twins_step (temporary c stem) s t p =
    subst (λ (v : ℕ). Twins (all_tree (settle s c) (20 ∷ 3 ∷ low (number_of s c) ∷ high (number_of s c) ∷ stem ∷ [])) (all_tree (settle t c) (20 ∷ 3 ∷ low v ∷ high v ∷ stem ∷ []))) (number_same c s t p)
    (all_tree_lem (20 ∷ 3 ∷ low (number_of s c) ∷ high (number_of s c) ∷ stem ∷ []) (settle s c) (settle t c) (kept (λ s. settle s c) (keeps_settle c) s t p))
twins_step new_mark s t p =
    subst (λ (k : Sink). Twins (all_tree (next_mark s) (low s.sink.mark ∷ high s.sink.mark ∷ [])) (all_tree (next_mark t) (low k.mark ∷ high k.mark ∷ []))) (sink_same s t p)
    (all_tree_lem (low s.sink.mark ∷ high s.sink.mark ∷ []) (next_mark s) (next_mark t) (kept next_mark (λ o l x y k r n e. twins o l x y _ r n e) s t p))
twins_step (make c) s t p = kept (λ s. set_cell_in s c 0) (keeps_cell c 0) s t p
twins_step (listed b) s t p = kept (λ s. put_list s b) (keeps_list b) s t p
twins_step (listed_temporary c stem) s t p =
    all_list (20 ∷ 3 ∷ 0 ∷ 0 ∷ stem ∷ []) (set_cell_in s c (listed_at s.sink.list)) (set_cell_in t c (listed_at t.sink.list))
    (subst (λ (k : Sink). Twins (set_cell_in s c (listed_at s.sink.list)) (set_cell_in t c (listed_at k.list))) (sink_same s t p) (kept (λ z. set_cell_in z c (listed_at s.sink.list)) (keeps_cell c (listed_at s.sink.list)) s t p))
twins_step (entry m n) s t p = kept (λ s. put_entry s m n) (keeps_entry m n) (count_entry s) (count_entry t) (kept count_entry (λ o l x y k r n e. twins o l x y _ r n e) s t p)
twins_step (excluded b) s t p = kept (λ s. put_keys s b) (keeps_keys b) s t p
twins_step (excluded_temporary c stem) s t p =
    all_keys_lem (20 ∷ 3 ∷ 0 ∷ 0 ∷ stem ∷ []) (set_cell_in s c (excluded_at s.sink.keys)) (set_cell_in t c (excluded_at t.sink.keys))
    (subst (λ (k : Sink). Twins (set_cell_in s c (excluded_at s.sink.keys)) (set_cell_in t c (excluded_at k.keys))) (sink_same s t p) (kept (λ z. set_cell_in z c (excluded_at s.sink.keys)) (keeps_cell c (excluded_at s.sink.keys)) s t p))
twins_step declarator s t p = all_keys_lem (5 ∷ 3 ∷ []) (count_declarator s) (count_declarator t) (kept count_declarator (λ o l x y k r n e. twins o l x y _ r n e) s t p)

twins_steps : (es : List Event) (s t : State) → Twins s t → Twins (steps s es) (steps t es)
unfolding steps
twins_steps [] s t p = p
twins_steps (e ∷ es) s t p = twins_steps es (step s e) (step t e) (twins_step e s t p)

-- ---- the end

keeps_closed : Keeps closed
unfolding Keeps closed reach part
keeps_closed o l x y k r n e = go (ltb k.keys 16385) refl
  where
    keys : List ℕ → List ℕ
    keys w = low k.declarators ∷ high k.declarators ∷ part 32768 (32768 + k.keys) w

    begun : List ℕ → State
    begun w = state_of o (set_wide l 0 k.entries) w k

    go : (c : Bool) → ltb k.keys 16385 ≡ c → Twins (cond c (all_list_of (begun x) (keys x)) (state_of o l x (with_list k 16385))) (cond c (all_list_of (begun y) (keys y)) (state_of o l y (with_list k 16385)))
    go true f =
        let u : Alike (32768 + k.keys) x y = subst (λ (c : Bool). Alike (cond c (32768 + k.keys) 32768) x y) f e in
        subst (λ (z : List ℕ). Twins (all_list_of (begun x) (keys x)) (all_list_of (begun y) (low k.declarators ∷ high k.declarators ∷ drop 32768 z))) u
        (all_list (keys x) (begun x) (begun y) (twins o (set_wide l 0 k.entries) x y k r n e))
    go false f = twins o l x y (with_list k 16385) r n e

ended_same : (s t : State) → Twins s t → ended s ≡ ended t
unfolding ended
ended_same s t p =
    ap ended p.first ∙ ap (λ (m : ℕ). go m) p.long ∙ ap ended (sym p.second)
  where
    go : ℕ → Ended
    go m =
        cond (over 32768 (length p.out) p.sink.tree || over 16384 (length p.list) p.sink.list)
        (nothing (length p.out) (length p.list) m)
        (end_of p.out p.list (replicate m 0) (record { fits = true; helpers = mask_of p.sink.helpers; tree = p.sink.tree; list = p.sink.list }))

-- what is handed back is the same
pub finished_same : (es : List Event) (s t : State) → Twins s t → finished (steps s es) ≡ finished (steps t es)
unfolding finished
finished_same es s t p = ended_same (closed (steps s es)) (closed (steps t es)) (kept closed keeps_closed (steps s es) (steps t es) (twins_steps es s t p))

-- and the tree has as many bytes
pub tree_same : (es : List Event) (s t : State) → Twins s t → (steps s es).sink ≡ (steps t es).sink
tree_same es s t p = sink_same (steps s es) (steps t es) (twins_steps es s t p)

-- ---- the beginning

take_zeros : (n k : ℕ) → k ≤ n → take {A = ℕ} k (replicate n 0) ≡ replicate k 0
take_zeros n zero h = refl
take_zeros zero (suc k) h = absurd (not-suc-le-zero h)
take_zeros (suc n) (suc k) h = ap (λ (l : List ℕ). 0 ∷ l) (take_zeros n k (le_of_suc-le-suc h))

-- the cells alone are lent to be cleared
module _ (c : ℕ) (work : List ℕ) (least : c ≡ min (length work) 32768) where
  pub prefix_long : c ≡ length (take c work)
  prefix_long = sym (length-take-le c work (omega arith))

  pub prefix_kept : (ys : List ℕ) → length ys ≡ length (take c work) → length (ys ++ drop c work) ≡ length work
  prefix_kept ys e = length_front work ys c e

  pub begun_twins : (a b mark : ℕ) (o l ys : List ℕ) (k : Sink) → state_of o l ys k ≡ start a b (length (take c work)) mark → 65536 ≤ length work
      → Twins (state_of o l (ys ++ drop c work) k) (start a b (length work) mark)
  unfolding start reach
  begun_twins a b mark o l ys k e big =
      let n : c ≡ 32768 = omega arith in
      let y : ys ≡ replicate (length (take c work)) 0 = ap (λ (z : State). z.work) e in
      let g : length ys ≡ 32768 = ap length y ∙ length-replicate (length (take c work)) 0 ∙ sym prefix_long ∙ n in
      let h : length (ys ++ drop c work) ≡ length work = prefix_kept ys (ap length y ∙ length-replicate (length (take c work)) 0) in
      record {
        out = replicate a 0;
        list = replicate b 0;
        one = ys ++ drop c work;
        other = replicate (length work) 0;
        sink = (start a b 0 mark).sink;
        first =
            ap₂ (λ (x z : List ℕ). state_of x z (ys ++ drop c work) k) (ap (λ (z : State). z.out) e) (ap (λ (z : State). z.list) e)
            ∙ ap (λ (z : Sink). state_of (replicate a 0) (replicate b 0) (ys ++ drop c work) z) (ap (λ (z : State). z.sink) e);
        second = refl;
        roomy = omega (arith, h);
        long = h ∙ sym (length-replicate (length work) 0);
        alike =
            ap (λ (i : ℕ). take i (ys ++ drop c work)) (sym g) ∙ take-append_seam ys (drop c work)
            ∙ y ∙ ap (λ (i : ℕ). replicate {A = ℕ} i 0) (sym prefix_long ∙ n) ∙ sym (take_zeros (length work) 32768 (omega arith));
      }
