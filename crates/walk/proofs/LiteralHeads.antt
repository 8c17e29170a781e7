-- Object literals with spreads: counts, modes and heads as the code finds them.
-- Assumes nothing.
use mathlib.Core.Path.{◌≡◌, refl, sym, ap, ap₂, ◌∙◌}
use mathlib.Core.Bool.{Bool, true, false, cond, ◌&&◌, false≢true}
use mathlib.Core.List.{List, [], ◌∷◌, ◌++◌}
use Prim.Native.Nat.{ℕ, zero, suc, ◌+◌, ◌-◌, ◌%◌, ◌≤◌, ◌<◌}
use native.Mathlib.Omega.{arith}
use lib.Dec.{eqb, ltb}
use borrow.Author.Tests.{ne_eqb, eqb-true, eqb-false, lt-ltb, le-ltb}
use Rattle.tree.specs.Tree.{Node, Fields, Piece, Items, wide_bytes, count}
use Rattle.tree.specs.Tree.Items.{none, hole, item}
use Rattle.tree.specs.Read.{byte_at, wide_at}
use Rattle.tree.specs.Look.{Seen, seen, seen_as, onward, look_item, look_items, look_field, look_slot, look_fields, look_node}
use Rattle.tree.specs.Answer.{Peeked, Wide}
use Rattle.tree.specs.Tree.Node.{node}
use Rattle.tree.specs.Grammar.{fields_of, kinds}
use Rattle.lowering.specs.Parts.{is, ◌+++◌, any, items_at_of, piece_in}
use Rattle.direct.specs.Events.{Deed, puts}
use Rattle.direct.specs.Emit.{say, ◌▷◌, call_head}
use Rattle.direct.specs.Literals.{is_spread, mode_next, mode_after, head_at, inner_heads, last_head, heads, run, pending_head, no_call_of, nothing_pending, some_pending}
use Rattle.direct.proofs.LiteralsInOrder.{heads_append, run_all_lem, run_some}
use Rattle.direct.proofs.Threads.{say_say}
use Rattle.walk.specs.Run.{Going, Runs, Does}
use Rattle.walk.specs.Turns.{spread_at, pending_deeds}
use Rattle.walk.proofs.Running.{does_as, runs_does, runs_none, runs_then, runs_as}
use Rattle.walk.proofs.Opened.{look_solid}

-- ---- one property

pub mode_spread : (m : ℕ) (n : Node) (b : Bool) → b ≡ is_spread n → b ≡ true → nothing_pending ≡ mode_next m n
unfolding mode_next
mode_spread zero n b e h = rw (sym e, h) refl
mode_spread (suc m) n b e h = rw (sym e, h) refl

pub mode_none : (m : ℕ) (n : Node) (b : Bool) → b ≡ is_spread n → b ≡ false → m ≡ no_call_of → no_call_of ≡ mode_next m n
unfolding mode_next
mode_none zero n b e h z = rw (sym e, h) refl
mode_none (suc m) n b e h z = absurd (omega arith)

pub mode_other : (m : ℕ) (n : Node) (b : Bool) → b ≡ is_spread n → b ≡ false → (m ≡ no_call_of → ⊥) → some_pending ≡ mode_next m n
unfolding mode_next
mode_other zero n b e h z = absurd (z refl)
mode_other (suc m) n b e h z = rw (sym e, h) refl

pub head_none : {g : Going} (m : ℕ) (n : Node) (b : Bool) → b ≡ is_spread n → b ≡ false → Runs g g (head_at m n)
unfolding head_at
head_none m n b e h = runs_as runs_none (ap (λ (x : Bool). cond x (call_head 1 (cond (eqb m some_pending) 4 2)) []) (sym (sym e ∙ h)))

pub head_four : {g g' : Going} (m : ℕ) (n : Node) (b : Bool) → b ≡ is_spread n → b ≡ true → m ≡ some_pending → Runs g g' (call_head 1 4) → Runs g g' (head_at m n)
unfolding head_at
head_four m n b e h z d = rw (sym e, h, z) d

pub head_two : {g g' : Going} (m : ℕ) (n : Node) (b : Bool) → b ≡ is_spread n → b ≡ true → (m ≡ some_pending → ⊥) → Runs g g' (call_head 1 2) → Runs g g' (head_at m n)
unfolding head_at
head_two m n b e h z d = rw (sym e, h, ne_eqb m some_pending z) d

pub pending_none : {g : Going} (n : ℕ) → n ≡ 0 → Runs g g (pending_deeds n)
unfolding pending_deeds
pending_none n e = rw e runs_none

pub pending_some : {g g₁ g₂ g₃ g₄ : Going} (n : ℕ) → (n ≡ 0 → ⊥) → Runs g g₁ (puts (24 ∷ 1 ∷ [])) → Runs g₁ g₂ (puts (0 ∷ 0 ∷ [])) → Runs g₂ g₃ (puts (24 ∷ 1 ∷ []))
    → Runs g₃ g₄ (puts (wide_bytes (n % 65536))) → Runs g g₄ (pending_deeds n)
unfolding pending_deeds
pending_some n z a b c d =
    let bs = wide_bytes (n % 65536) in
    rw (ne_eqb n 0 z)
    (runs_then (puts (24 ∷ 1 ∷ [])) (puts (0 ∷ 0 ∷ 24 ∷ 1 ∷ bs)) a
    (runs_then (puts (0 ∷ 0 ∷ [])) (puts (24 ∷ 1 ∷ bs)) b
    (runs_then (puts (24 ∷ 1 ∷ [])) (puts bs) c d)))

-- what it does where the number fits its bytes
pending_is : (n : ℕ) → n < 65536 → pending_deeds n ≡ pending_head n
unfolding pending_deeds pending_head
pending_is zero h = refl
pending_is (suc n) h =
    let w : suc n % 65536 ≡ suc n = omega arith in
    ap₂ (λ (b : Bool) (k : ℕ). cond b [] (puts (24 ∷ 1 ∷ 0 ∷ 0 ∷ 24 ∷ 1 ∷ wide_bytes k))) (ne_eqb (suc n) 0 (λ z. omega arith)) w

pub does_pending : {g g' : Going} (n : ℕ) → Runs g g' (pending_deeds n) → n < 65536 → Does g g' (say (pending_head n))
does_pending n e h = runs_does (runs_as e (pending_is n h))

pub first_bit : (t : List ℕ) (at p m : ℕ) → p ≡ onward t at 1 → Peeked t p m → eqb (m % 2) 1 ≡ eqb (byte_at t (onward t at 1) % 2) 1
first_bit t at p m e w = ap (λ (x : ℕ). eqb (x % 2) 1) (w.value ∙ ap (λ (x : ℕ). byte_at t x) e)

module _ (t : List ℕ) where
  pub spread_none : (d at : ℕ) → d ≡ 0 → false ≡ is_spread (look_node t d at).value
  unfolding look_node is
  spread_none d at e = rw e refl

  pub spread_byte : (d at k : ℕ) → (d ≡ 0 → ⊥) → Peeked t at k → eqb k 26 ≡ is_spread (look_node t d at).value
  unfolding look_node is
  spread_byte zero at k z p = absurd (z refl)
  spread_byte (suc d) at k z p = rw p.value refl

  module _ (R : ℕ → Seen Node) where
    first : (n at q : ℕ) → 0 < n → q ≡ (R at).next → (look_items t R false n at).value ≡ item (R at).value (look_items t R false (n - 1) q).value
    unfolding look_items look_item
    first zero at q z e = absurd (omega arith)
    first (suc n) at q z e =
        let s : suc n - 1 ≡ n = omega arith in
        rw (s, e) refl

    last : (n at : ℕ) → n ≤ 0 → (look_items t R false n at).value ≡ none
    unfolding look_items
    last zero at z = refl
    last (suc n) at z = absurd (omega arith)

    pub next_item : (at q : ℕ) → q ≡ (R at).next → q ≡ (look_item t R false at).next
    unfolding look_item
    next_item at q e = e

    -- ---- the run of properties up to a spread

    pub run_end : (k n at : ℕ) → n ≤ 0 → k ≡ k + run (look_items t R false n at).value
    unfolding run
    run_end k n at z = rw (last n at z) (omega arith)

    pub run_stops : (k n at : ℕ) (b : Bool) → 0 < n → b ≡ is_spread (R at).value → b ≡ true → k ≡ k + run (look_items t R false n at).value
    unfolding run
    run_stops k n at b z e h = rw (first n at (R at).next z refl, sym e, h) (omega arith)

    pub run_more : (k n at q : ℕ) (b : Bool) → 0 < n → b ≡ is_spread (R at).value → b ≡ false → q ≡ (R at).next
        → k + 1 + run (look_items t R false (n - 1) q).value ≡ k + run (look_items t R false n at).value
    unfolding run
    run_more k n at q b z e h f = rw (first n at q z f, sym e, h) (omega arith)

    -- ---- modes

    pub mode_end : (m n at : ℕ) → n ≤ 0 → m ≡ mode_after m (look_items t R false n at).value
    unfolding mode_after
    mode_end m n at z = rw (last n at z) refl

    pub mode_more : (m k n at q : ℕ) → 0 < n → k ≡ mode_next m (R at).value → q ≡ (R at).next
        → mode_after k (look_items t R false (n - 1) q).value ≡ mode_after m (look_items t R false n at).value
    unfolding mode_after
    mode_more m k n at q z e f = rw (first n at q z f, e) refl

    -- ---- heads

    pub inner_none : {g : Going} (m n at : ℕ) → n ≡ 0 → Runs g g (inner_heads m (look_items t R false n at).value)
    unfolding inner_heads
    inner_none m n at z = rw (last n at (omega arith)) runs_none

    pub inner_first : {g g₁ g' : Going} (m n k q : ℕ) (at : ℕ) → (n ≡ 0 → ⊥) → k ≡ mode_next m (R at).value → q ≡ (R at).next
        → Runs g g₁ (inner_heads k (look_items t R false (n - 1) q).value) → Runs g₁ g' (head_at m (R at).value)
        → Runs g g' (inner_heads m (look_items t R false n at).value)
    unfolding inner_heads
    inner_first m n k q at z e f a b =
        runs_as (runs_then (inner_heads k (look_items t R false (n - 1) q).value) (head_at m (R at).value) a b) (rw (first n at q (omega arith) f, sym e) refl)

    add_join : (h : Bool) (at : ℕ) (is js : Items) → (look_item t R h at).value (is +++ js) ≡ (look_item t R h at).value is +++ js
    unfolding look_item ◌+++◌
    add_join true at is js = go (eqb (byte_at t at) 0)
      where
        go : (b : Bool) → (cond b (seen hole (onward t at 1)) (seen_as (λ n is. item n is) (R at))).value (is +++ js) ≡ (cond b (seen hole (onward t at 1)) (seen_as (λ n is. item n is) (R at))).value is +++ js
        go true = refl
        go false = refl
    add_join false at is js = refl

    pub halves : (h : Bool) (a b n at : ℕ) → n ≡ a + b → (look_items t R h n at).value ≡ (look_items t R h a at).value +++ (look_items t R h b (look_items t R h a at).next).value
    unfolding look_items ◌+++◌
    halves h zero b n at e = let s : n ≡ b = omega arith in rw s refl
    halves h (suc a) b zero at e = absurd (omega arith)
    halves h (suc a) b (suc n) at e =
        ap (λ (is : Items). (look_item t R h at).value is) (halves h a b n (look_item t R h at).next (omega arith))
        ∙ add_join h at (look_items t R h a (look_item t R h at).next).value (look_items t R h b (look_items t R h a (look_item t R h at).next).next).value

    pub inner_halves : {g g₁ g' : Going} (m n h q k : ℕ) (at : ℕ) → h ≤ n → q ≡ (look_items t R false h at).next → k ≡ mode_after m (look_items t R false h at).value
        → Runs g g₁ (inner_heads k (look_items t R false (n - h) q).value) → Runs g₁ g' (inner_heads m (look_items t R false h at).value)
        → Runs g g' (inner_heads m (look_items t R false n at).value)
    inner_halves m n h q k at z e f a b =
        let w : n ≡ h + (n - h) = omega arith in
        let ps : Items = (look_items t R false h at).value in
        let qs : Items = (look_items t R false (n - h) (look_items t R false h at).next).value in
        let u : inner_heads k (look_items t R false (n - h) q).value ≡ inner_heads (mode_after m ps) qs = rw (f, e) refl in
        runs_as (runs_then (inner_heads k (look_items t R false (n - h) q).value) (inner_heads m ps) a b)
        (ap (λ (ds : List Deed). ds ++ inner_heads m ps) u
        ∙ sym (heads_append m ps qs)
        ∙ ap (λ (is : Items). inner_heads m is) (sym (halves false h (n - h) n at w)))

    pub heads_last : {g g₁ g' : Going} (m k n at : ℕ) → k ≡ mode_after m (look_items t R false n at).value → k ≡ some_pending → Runs g g₁ (call_head 1 3)
        → Runs g₁ g' (inner_heads m (look_items t R false n at).value) → Runs g g' (heads m (look_items t R false n at).value)
    unfolding heads last_head
    heads_last m k n at e z a b = runs_as (runs_then (call_head 1 3) (inner_heads m (look_items t R false n at).value) a b) (rw (sym e, z) refl)

    pub heads_inner : {g g' : Going} (m k n at : ℕ) → k ≡ mode_after m (look_items t R false n at).value → (k ≡ some_pending → ⊥)
        → Runs g g' (inner_heads m (look_items t R false n at).value) → Runs g g' (heads m (look_items t R false n at).value)
    unfolding heads last_head
    heads_inner m k n at e z b = runs_as b (rw (sym e, ne_eqb k some_pending z) refl)

    -- ---- the head of the object

    pub run_bound : (n at : ℕ) → run (look_items t R false n at).value ≤ n
    unfolding look_items look_item run
    run_bound zero at = omega arith
    run_bound (suc n) at = go (is_spread (R at).value) (run_bound n (R at).next)
      where
        go : (b : Bool) → run (look_items t R false n (R at).next).value ≤ n → cond b 0 (suc (run (look_items t R false n (R at).next).value)) ≤ suc n
        go true h = omega arith
        go false h = omega arith

    pub opens : {g g₁ g₂ g₃ : Going} (n at k : ℕ) → k ≡ run (look_items t R false n at).value → Runs g g₁ (heads no_call_of (look_items t R false n at).value)
        → Runs g₁ g₂ (puts (24 ∷ 1 ∷ [])) → Runs g₂ g₃ (puts (wide_bytes (k % 65536)))
        → Runs g g₃ (heads no_call_of (look_items t R false n at).value ++ puts (24 ∷ 1 ∷ wide_bytes (run (look_items t R false n at).value % 65536)))
    opens n at k e a b c =
        let is = (look_items t R false n at).value in
        runs_as (runs_then (heads no_call_of is) (puts (24 ∷ 1 ∷ wide_bytes (k % 65536))) a (runs_then (puts (24 ∷ 1 ∷ [])) (puts (wide_bytes (k % 65536))) b c))
        (ap (λ (x : ℕ). heads no_call_of is ++ puts (24 ∷ 1 ∷ wide_bytes (x % 65536))) e)

    -- what it does where the number of items fits two bytes
    pub does_opening : {g g' : Going} (n at : ℕ) → Runs g g' (heads no_call_of (look_items t R false n at).value ++ puts (24 ∷ 1 ∷ wide_bytes (run (look_items t R false n at).value % 65536)))
        → n < 65536 → Does g g' (say (heads no_call_of (look_items t R false n at).value) ▷ say (puts (24 ∷ 1 ∷ wide_bytes (run (look_items t R false n at).value))))
    does_opening n at e h =
        let is = (look_items t R false n at).value in
        let w : run is % 65536 ≡ run is = omega (arith, run_bound n at) in
        does_as (runs_does (runs_as e (ap (λ (x : ℕ). heads no_call_of is ++ puts (24 ∷ 1 ∷ wide_bytes x)) w))) (sym (say_say (heads no_call_of is) (puts (24 ∷ 1 ∷ wide_bytes (run is)))))

    -- ---- a list without holes

    count_is : (n at : ℕ) → count (look_items t R false n at).value ≡ n
    unfolding look_items look_item count
    count_is zero at = refl
    count_is (suc n) at = ap (λ (x : ℕ). suc x) (count_is n (R at).next)

    run_tells : (n at k : ℕ) → k ≡ run (look_items t R false n at).value → ltb k n ≡ any is_spread (look_items t R false n at).value
    run_tells n at k e = go (any is_spread (look_items t R false n at).value) refl
      where
        go : (b : Bool) → any is_spread (look_items t R false n at).value ≡ b → ltb k n ≡ b
        go true h = lt-ltb k n (omega (arith, e, run_some (look_items t R false n at).value h, count_is n at))
        go false h = le-ltb k n (omega (arith, e, run_all_lem (look_items t R false n at).value (look_solid t R n at) h, count_is n at))

    -- the fields of an Object: its list, if the bit stands
    pub object_fields_lem : (b m q : ℕ) → b ≡ 24 → m % 2 ≡ 1
        → look_fields t R (fields_of b) m q ≡ seen (Fields.field (Piece.list (look_items t R false (wide_at t q) (onward t q 2)).value) Fields.done) (look_items t R false (wide_at t q) (onward t q 2)).next
    unfolding look_fields look_slot look_field fields_of kinds
    object_fields_lem b m q e f = rw (e, f) refl

    pub no_object_fields : (b m q : ℕ) → b ≡ 24 → m % 2 ≡ 0 → look_fields t R (fields_of b) m q ≡ seen (Fields.absent Fields.done) q
    unfolding look_fields look_slot look_field fields_of kinds
    no_object_fields b m q e f = rw (e, f) refl

  -- ---- whether a literal has a spread

  pub literal_none : (d at : ℕ) → d ≡ 0 → false ≡ any is_spread (items_at_of 0 (look_node t d at).value)
  unfolding look_node items_at_of piece_in any
  literal_none d at e = rw e refl

  literal_bare : (d at : ℕ) → byte_at t at ≡ 24 → byte_at t (onward t at 1) % 2 ≡ 0 → false ≡ any is_spread (items_at_of 0 (look_node t (suc d) at).value)
  unfolding look_node items_at_of piece_in any
  literal_bare d at k m =
      ap (λ (s : Seen Fields). any is_spread (items_at_of 0 (node at (byte_at t at) s.value))) (sym (no_object_fields (λ q. look_node t d q) (byte_at t at) (byte_at t (onward t at 1)) (onward t at 2) k m))

  literal_list : (d at : ℕ) → byte_at t at ≡ 24 → byte_at t (onward t at 1) % 2 ≡ 1
      → any is_spread (look_items t (look_node t d) false (wide_at t (onward t at 2)) (onward t (onward t at 2) 2)).value ≡ any is_spread (items_at_of 0 (look_node t (suc d) at).value)
  unfolding look_node items_at_of piece_in
  literal_list d at k m =
      ap (λ (s : Seen Fields). any is_spread (items_at_of 0 (node at (byte_at t at) s.value))) (sym (object_fields_lem (λ q. look_node t d q) (byte_at t at) (byte_at t (onward t at 1)) (onward t at 2) k m))

  -- of a literal it says what the literal has
  pub spread_literal : (d at : ℕ) → byte_at t at ≡ 24 → spread_at t d at ≡ any is_spread (items_at_of 0 (look_node t d at).value)
  unfolding spread_at
  spread_literal zero at k = literal_none zero at refl
  spread_literal (suc d) at k = go (eqb (byte_at t (onward t at 1) % 2) 1) refl
    where
      go : (b : Bool) → eqb (byte_at t (onward t at 1) % 2) 1 ≡ b
          → b && any is_spread (look_items t (look_node t d) false (wide_at t (onward t at 2)) (onward t (onward t at 2) 2)).value ≡ any is_spread (items_at_of 0 (look_node t (suc d) at).value)
      go true e = literal_list d at k (eqb-true (byte_at t (onward t at 1) % 2) 1 e)
      go false e = literal_bare d at k (let h = eqb-false (byte_at t (onward t at 1) % 2) 1 e in omega arith)

  -- and where it has one there are levels left
  pub spread_levels : (d at : ℕ) → spread_at t d at ≡ true → 0 < d
  unfolding spread_at
  spread_levels zero at e = absurd (false≢true e)
  spread_levels (suc d) at e = omega arith

  -- as the code finds it
  pub spreads_none : (d at : ℕ) → d ≡ 0 → false ≡ spread_at t d at
  unfolding spread_at
  spreads_none d at e = rw e refl

  pub spreads_bare : (d at : ℕ) → (d ≡ 0 → ⊥) → (b : Bool) → b ≡ eqb (byte_at t (onward t at 1) % 2) 1 → b ≡ false → false ≡ spread_at t d at
  unfolding spread_at
  spreads_bare zero at z b e h = absurd (z refl)
  spreads_bare (suc d) at z b e h = rw (sym e, h) refl

  pub spreads_runs : (d at q p n e k : ℕ) → (d ≡ 0 → ⊥) → (b : Bool) → b ≡ eqb (byte_at t (onward t at 1) % 2) 1 → b ≡ true → q ≡ onward t at 2 → p ≡ onward t q 2 → Wide t q n → e ≡ d - 1
      → k ≡ run (look_items t (look_node t e) false n p).value → ltb k n ≡ spread_at t d at
  unfolding spread_at
  spreads_runs zero at q p n e k z b g h u v w o r = absurd (z refl)
  spreads_runs (suc d) at q p n e k z b g h u v w o r =
      let i : e ≡ d = omega arith in
      let a : (look_items t (look_node t e) false n p).value ≡ (look_items t (look_node t d) false (wide_at t (onward t at 2)) (onward t (onward t at 2) 2)).value = rw (i, w.value, v, u) refl in
      run_tells (look_node t e) n p k r ∙ ap (λ (is : Items). any is_spread is) a ∙ rw (sym g, h) refl
