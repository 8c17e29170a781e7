-- Each step of the code is a step of the pass.
-- Assumes nothing.
use mathlib.Core.Path.{◌≡◌, refl, sym, ap, subst, ◌∙◌}
use mathlib.Core.Logic.{◌⊎◌, ⊎_elim}
use mathlib.Core.Bool.{Bool, true, false, cond, ◌&&◌}
use mathlib.Core.List.{List, [], ◌∷◌, ◌++◌, append-nil}
use Prim.Native.Nat.{ℕ, zero, suc, ◌+◌, ◌-◌, ◌/◌, ◌%◌, ◌<◌, ◌≤◌}
use native.Mathlib.Omega.{arith}
use native.Mathlib.Numerals.{add-one}
use lib.Dec.{eqb}
use lib.ListN.{length, get_or, set}
use lib.Seq.{get_or-set_same, get_or-set_other}
use Rattle.printer.specs.Layout.{word}
use Rattle.printer.specs.Places.{field_in, manner_in, past, noting, separator, begun, following, noted_at, opening, closing, item_seen, around, in_method_form, list_opening, listed, unlisted, list_closing, is_quasis, is_filled, leaves, text_bytes, spelled, text_past, is_quasi, number_bytes}
use Rattle.printer.specs.Text.{Cell, cell_text, left_over_of}
use Rattle.printer.specs.Text.Cell.{quasi, stop}
use Rattle.printer.specs.Entries.{Entry}
use Rattle.printer.specs.Machine.{Open, print, print_all, cell_at, cells_from, step_over, next_around, top_of, next_of, below}
use Rattle.printer.specs.Stacks.{frame_in, next_in, open_in, packed_frame, opens_in, text_at_of, cell_in_of, held_in, Buffer, write}
use Rattle.printer.specs.Turns.{state_in, moved, Small, Ready, count_by, Kept, Turned}
use Rattle.printer.specs.Logged.{entries_for, entries_in, deep_by}
use Rattle.printer.specs.declared.frame.Frame.{Frame}
use Rattle.printer.specs.declared.print.State.{State}
use Rattle.printer.proofs.Bits.{without_less}
use Rattle.printer.proofs.ArraysHeld.{unpacks, unpacked, pushed, popped, held_length, over_small}
use Rattle.printer.proofs.Fold.{at}
use Rattle.printer.proofs.LayoutNumbers.{NoneOf}
use Rattle.printer.proofs.PiecesWritten.{write_append}

-- ---- frames stay small

module _ (p : Frame) (x : ℕ) (w : Small p x) where
  small_next : (y : ℕ) → y < 16777216 → Small p y
  small_next y g = record { kind = w.kind; map = w.map; note = w.note; how = w.how; seen = w.seen; rem = w.rem; list = w.list; next = g }

  small_seen : (s y : ℕ) → s < 4 → y < 16777216 → Small (item_seen p s) y
  unfolding item_seen
  small_seen s y h g = record { kind = w.kind; map = w.map; note = w.note; how = w.how; seen = h; rem = w.rem; list = w.list; next = g }

  small_noting : (s y : ℕ) → s < 4 → y < 16777216 → Small (noting p s) y
  unfolding noting
  small_noting s y h g = record { kind = w.kind; map = w.map; note = w.note; how = w.how; seen = h; rem = omega (arith, without_less p.rem, w.rem); list = w.list; next = g }

  small_past : Small (past p) x
  unfolding past
  small_past = small_noting p.seen x w.seen w.next

  small_listed : (y : ℕ) → y < 16777216 → Small (listed p) y
  unfolding listed
  small_listed y g = record { kind = w.kind; map = w.map; note = w.note; how = w.how; seen = omega arith; rem = w.rem; list = omega arith; next = g }

  small_unlisted : (n : ℕ) → Small (unlisted p n) x
  unfolding unlisted
  small_unlisted n = small_noting (cond (eqb p.kind 4) p.seen (cond (eqb n 0) 0 1)) x (go (eqb p.kind 4) (eqb n 0)) w.next
    where
      go : (a b : Bool) → cond a p.seen (cond b 0 1) < 4
      go true b = w.seen
      go false true = omega arith
      go false false = omega arith

  pub small_around : (kind map y : ℕ) → y < 16777216 → Small (around p kind map) y
  unfolding around
  small_around kind map y g = go (eqb p.list 1) (eqb (in_method_form p kind map) 1)
    where
      go : (a b : Bool) → Small (cond a (item_seen p 1) (noting p (cond b 1 p.seen))) y
      go true b = small_seen 1 y (omega arith) g
      go false true = small_noting 1 y (omega arith) g
      go false false = small_noting p.seen y w.seen g

  small_text : (bs : List ℕ) → Small (text_past p bs) x
  unfolding text_past spelled
  small_text [] = small_noting p.seen x w.seen w.next
  small_text (b ∷ bs) = small_noting (cond (eqb p.kind 22 && eqb p.seen 0) 1 p.seen) x (go (eqb p.kind 22 && eqb p.seen 0)) w.next
    where
      go : (a : Bool) → cond a 1 p.seen < 4
      go true = omega arith
      go false = w.seen

  -- the place of the next quasi after a child
  next_small : (tree starts : List ℕ) (count : ℕ) → count < 65536 → next_around p (held_in tree starts count) x < 16777216
  next_small tree starts count h = go (is_filled p)
    where
      go : (a : Bool) → cond a (step_over (cell_at (held_in tree starts count) x) x) x < 16777216
      go true = over_small tree starts count x h w.next
      go false = w.next

-- a node that begins
pub begun_in : (p : Frame) (kind map note seen how f : ℕ) → f ≡ packed_frame (record { kind = kind; map = map; note = note; how = how; seen = seen; rem = map; list = 0 }) 0 → kind < 64 → map < 256 → note < 256 → how ≡ following p kind map note → how ≤ 63 → seen ≡ noted_at p kind → seen ≤ 2 → open_in f ≡ record { frame = begun p kind map note; next = 0 }
unfolding begun
begun_in p kind map note seen how f e hk hm hn hw lw hs ls =
    unpacked f _ 0 e (record { kind = hk; map = hm; note = hn; how = omega arith; seen = omega arith; rem = hm; list = omega arith; next = omega arith })
    ∙ ap (λ (z : ℕ). record { frame = record { kind = kind; map = map; note = note; how = z; seen = seen; rem = map; list = 0 }; next = 0 }) hw
    ∙ ap (λ (z : ℕ). record { frame = record { kind = kind; map = map; note = note; how = following p kind map note; seen = z; rem = map; list = 0 }; next = 0 }) hs

-- a list that opens has the manner of its field
pub listed_manner : (p l : ℕ) → l ≡ packed_frame (listed (frame_in p)) (next_in p) → manner_in (frame_in p) ≡ manner_in (frame_in l)
unfolding manner_in field_in listed
listed_manner p l e = sym (ap (λ (o : Open). manner_in o.frame) (unpacked l _ _ e (small_listed (frame_in p) (next_in p) (unpacks p) (next_in p) (unpacks p).next)))

-- ---- what is written

-- two pieces, one after the other
pub written : (b d e : Buffer) (u v : List ℕ) → d ≡ write b u → e ≡ write d v → e ≡ write b (u ++ v)
written b d e u v p q = q ∙ ap (λ (z : Buffer). write z v) p ∙ sym (write_append b u v)

-- ---- a state by its parts

pub same_state : {o p : Open} {st su : List Open} {h i : List Cell} → o ≡ p → st ≡ su → h ≡ i → at o.frame o.next st h [] ≡ at p.frame p.next su i []
same_state {o} {p} {st} {su} {h} {i} a b c =
    ap (λ (z : Open). at z.frame z.next st h []) a
    ∙ ap (λ (z : List Open). at p.frame p.next z h []) b
    ∙ ap (λ (z : List Cell). at p.frame p.next su z []) c

push : (stack : List ℕ) (level v : ℕ) (q : Frame) (x : ℕ) → level < length stack → v ≡ packed_frame q x → Small q x → opens_in (set stack level v) (level + 1) ≡ record { frame = q; next = x } ∷ opens_in stack level
push stack level v q x h e w = pushed stack level v h ∙ ap (λ (o : Open). o ∷ opens_in stack level) (unpacked v q x e w)

-- ---- steps

module _ (tree stack starts : List ℕ) (b after : Buffer) (s : State) where
  -- the frame, and the place of the next quasi
  abbrev f : Frame
  f = frame_in s.top

  abbrev x : ℕ
  x = next_in s.top

  w : Small f x
  w = unpacks s.top

  pub around_in : (kind map v : ℕ) → s.count < 65536 → v ≡ packed_frame (around f kind map) (next_around f (held_in tree starts s.count) x) → open_in v ≡ record { frame = around f kind map; next = next_around f (held_in tree starts s.count) x }
  around_in kind map v h e = unpacked v _ _ e (small_around f x w kind map _ (next_small f x w tree starts s.count h))

  pub begin_turned : (kind map note g v spot : ℕ) → s.count < 65536 → s.level < length stack → after ≡ write b (opening f kind map note (cond (is_filled f) (cell_text (cell_at (held_in tree starts s.count) x)) [])) → open_in g ≡ record { frame = begun f kind map note; next = 0 } → v ≡ packed_frame (around f kind map) (next_around f (held_in tree starts s.count) x) → Turned tree (set stack s.level v) starts b after (record { top = g; level = s.level + 1; count = s.count; spot = spot }) (print (state_in tree stack starts s) (Entry.node kind map note)) (s.level + 1) s.count
  unfolding print
  begin_turned kind map note g v spot hc hl hw hg hv =
      record {
        state = same_state hg (pushed stack s.level v hl ∙ ap (λ (o : Open). o ∷ opens_in stack s.level) (around_in kind map v hc hv)) refl;
        wrote = hw;
        level = refl;
        count = omega arith;
      }

  pub open_turned : (n l v top spot : ℕ) → s.count < 65536 → s.level < length stack → after ≡ write b (list_opening f) → v ≡ packed_frame (unlisted f n) x → l ≡ packed_frame (listed f) x → top ≡ packed_frame (frame_in l) (cond (is_quasis (frame_in l)) (s.count + 1) (next_in l)) → Turned tree (set stack s.level v) starts b after (record { top = top; level = s.level + 1; count = s.count; spot = spot }) (print (state_in tree stack starts s) (Entry.opens n)) (s.level + 1) s.count
  unfolding print
  open_turned n l v top spot hc hl hw hv he ht =
      let o : open_in l ≡ record { frame = listed f; next = x } = unpacked l (listed f) x he (small_listed f x w x w.next) in
      let e : s.count + 1 ≡ suc (length (held_in tree starts s.count)) = add-one s.count ∙ ap suc (sym (held_length tree starts s.count)) in
      let t : top ≡ packed_frame (listed f) (cond (is_quasis (listed f)) (suc (length (held_in tree starts s.count))) x) =
      ht
      ∙ ap (λ (z : Open). packed_frame z.frame (cond (is_quasis z.frame) (s.count + 1) z.next)) o
      ∙ ap (λ (z : ℕ). packed_frame (listed f) (cond (is_quasis (listed f)) z x)) e in
      record {
        state = same_state (unpacked top (listed f) _ t (small_listed f x w _ (go (is_quasis (listed f))))) (push stack s.level v (unlisted f n) x hl hv (small_unlisted f x w n)) refl;
        wrote = hw;
        level = refl;
        count = omega arith;
      }
    where
      go : (a : Bool) → cond a (suc (length (held_in tree starts s.count))) x < 16777216
      go true = omega (arith, held_length tree starts s.count)
      go false = w.next

  pub hole_turned : (v spot : ℕ) (r : State) → after ≡ write b (word (separator f)) → v ≡ packed_frame (item_seen f 2) x → r ≡ moved s v spot → Turned tree stack starts b after r (print (state_in tree stack starts s) Entry.hole) s.level s.count
  unfolding print
  hole_turned v spot r hw hv hr = rw hr (record {
    state = same_state (unpacked v _ _ hv (small_seen f x w 2 x (omega arith) w.next)) refl refl;
    wrote = hw;
    level = refl;
    count = omega arith;
  })

  pub quiet_turned : (v spot : ℕ) (r : State) → after ≡ b → v ≡ packed_frame (past f) x → r ≡ moved s v spot → Turned tree stack starts b after r (print (state_in tree stack starts s) Entry.quiet) s.level s.count
  unfolding print write
  quiet_turned v spot r hw hv hr = rw hr (record {
    state = same_state (unpacked v _ _ hv (small_past f x w)) refl refl;
    wrote = hw;
    level = refl;
    count = omega arith;
  })

  pub number_turned : (n v spot : ℕ) (r : State) → after ≡ write b (number_bytes f n) → v ≡ packed_frame (past f) x → r ≡ moved s v spot → Turned tree stack starts b after r (print (state_in tree stack starts s) (Entry.number n)) s.level s.count
  unfolding print
  number_turned n v spot r hw hv hr = rw hr (record {
    state = same_state (unpacked v _ _ hv (small_past f x w)) refl refl;
    wrote = hw;
    level = refl;
    count = omega arith;
  })

  pub text_turned : (bs : List ℕ) (y count : ℕ) (starts' : List ℕ) (v spot : ℕ) → after ≡ write b (text_bytes f bs) → y ≡ spelled f bs → v ≡ packed_frame (noting f y) x → Kept tree starts starts' s.count count (cond (is_quasi f) (quasi bs ∷ []) []) → Turned tree stack starts' b after (record { top = v; level = s.level; count = count; spot = spot }) (print (state_in tree stack starts s) (Entry.text bs)) s.level (s.count + 1)
  unfolding print text_past
  text_turned bs y count starts' v spot hw hy hv hk =
      record {
        state = same_state (unpacked v (text_past f bs) x (hv ∙ ap (λ (z : ℕ). packed_frame (noting f z) x) hy) (small_text f x w bs)) refl hk.cells;
        wrote = hw;
        level = refl;
        count = hk.few;
      }

  pub close_turned : (v top count : ℕ) (starts' : List ℕ) (spot : ℕ) → 0 < s.level → after ≡ write b (list_closing f ++ cond (leaves f) (left_over_of (cells_from (held_in tree starts s.count) x)) []) → v ≡ get_or stack (s.level - 1) 0 → top ≡ packed_frame (frame_in v) (cond (is_quasis f) x (next_in v)) → Kept tree starts starts' s.count count (cond (is_quasis f) (stop ∷ []) []) → Turned tree stack starts' b after (record { top = top; level = s.level - 1; count = count; spot = spot }) (print (state_in tree stack starts s) Entry.closes) (s.level - 1) (s.count + 1)
  unfolding print
  close_turned v top count starts' spot hl hw hv ht hk =
      let p : opens_in stack s.level ≡ open_in v ∷ opens_in stack (s.level - 1) = popped stack s.level hl ∙ ap (λ (z : ℕ). open_in z ∷ opens_in stack (s.level - 1)) (sym hv) in
      record {
        state = same_state (unpacked top _ _ ht (small_next (frame_in v) (next_in v) (unpacks v) _ (go (is_quasis f))) ∙ sym (ap (λ (z : List Open). record { frame = top_of z; next = cond (is_quasis f) x (next_of z) }) p)) (sym (ap below p)) hk.cells;
        wrote = hw;
        level = refl;
        count = hk.few;
      }
    where
      go : (a : Bool) → cond a x (next_in v) < 16777216
      go true = w.next
      go false = (unpacks v).next

  pub end_turned : (v spot : ℕ) → 0 < s.level → after ≡ write b (closing f) → v ≡ get_or stack (s.level - 1) 0 → Turned tree stack starts b after (record { top = v; level = s.level - 1; count = s.count; spot = spot }) (print (state_in tree stack starts s) Entry.ends) (s.level - 1) s.count
  unfolding print
  end_turned v spot hl hw hv =
      let p : opens_in stack s.level ≡ open_in v ∷ opens_in stack (s.level - 1) = popped stack s.level hl ∙ ap (λ (z : ℕ). open_in z ∷ opens_in stack (s.level - 1)) (sym hv) in
      record {
        state = same_state (sym (ap (λ (z : List Open). record { frame = top_of z; next = next_of z }) p)) (sym (ap below p)) refl;
        wrote = hw;
        level = refl;
        count = omega arith;
      }

-- ---- what is held

held_kept : (tree starts : List ℕ) (c d x : ℕ) → c ≤ d → held_in tree (set starts d x) c ≡ held_in tree starts c
unfolding held_in
held_kept tree starts zero d x h = refl
held_kept tree starts (suc c) d x h =
    ap (λ (l : List Cell). l ++ (cell_in_of tree (get_or (set starts d x) c 0) ∷ [])) (held_kept tree starts c d x (omega arith))
    ∙ ap (λ (z : ℕ). held_in tree starts c ++ (cell_in_of tree z ∷ [])) (get_or-set_other starts d c x 0 (λ e. absurd (omega arith)))

pub one_held : (tree starts : List ℕ) (c x : ℕ) → c < length starts → Kept tree starts (set starts c x) c (c + 1) (cell_in_of tree x ∷ [])
unfolding held_in
one_held tree starts c x h = record {
  few = omega arith;
  cells =
      ap (held_in tree (set starts c x)) (add-one c)
      ∙ ap (λ (l : List Cell). l ++ (cell_in_of tree (get_or (set starts c x) c 0) ∷ [])) (held_kept tree starts c c x (omega arith))
      ∙ ap (λ (z : ℕ). held_in tree starts c ++ (cell_in_of tree z ∷ [])) (get_or-set_same starts c x 0 h);
}

pub none_held : (tree starts : List ℕ) (c : ℕ) → Kept tree starts starts c c []
none_held tree starts c = record { few = omega arith; cells = sym (append-nil (held_in tree starts c)) }

-- a quasi by its position from 1 on
pub cell_within : (tree : List ℕ) (p : ℕ) → cell_in_of tree (p + 1) ≡ quasi (text_at_of tree p)
cell_within tree p = ap (cell_in_of tree) (add-one p)

-- ---- what holds at every code

pub record AtCodes (P : ℕ → Type 0) : Type 0 where
  pub c0 : P 0
  pub c1 : P 1
  pub c2 : P 2
  pub c3 : P 3
  pub c4 : P 4
  pub c5 : P 5
  pub c6 : P 6
  pub c7 : P 7
  pub c8 : P 8
  pub c9 : P 9
  pub c10 : P 10
  pub c11 : P 11
  pub c12 : P 12
  pub c13 : P 13
  pub past : (k : ℕ) → P (suc (suc (suc (suc (suc (suc (suc (suc (suc (suc (suc (suc (suc (suc k))))))))))))))

pub by_code : (P : ℕ → Type 0) → AtCodes P → (code : ℕ) → P code
by_code P h zero = h.c0
by_code P h (suc zero) = h.c1
by_code P h (suc (suc zero)) = h.c2
by_code P h (suc (suc (suc zero))) = h.c3
by_code P h (suc (suc (suc (suc zero)))) = h.c4
by_code P h (suc (suc (suc (suc (suc zero))))) = h.c5
by_code P h (suc (suc (suc (suc (suc (suc zero)))))) = h.c6
by_code P h (suc (suc (suc (suc (suc (suc (suc zero))))))) = h.c7
by_code P h (suc (suc (suc (suc (suc (suc (suc (suc zero)))))))) = h.c8
by_code P h (suc (suc (suc (suc (suc (suc (suc (suc (suc zero))))))))) = h.c9
by_code P h (suc (suc (suc (suc (suc (suc (suc (suc (suc (suc zero)))))))))) = h.c10
by_code P h (suc (suc (suc (suc (suc (suc (suc (suc (suc (suc (suc zero))))))))))) = h.c11
by_code P h (suc (suc (suc (suc (suc (suc (suc (suc (suc (suc (suc (suc zero)))))))))))) = h.c12
by_code P h (suc (suc (suc (suc (suc (suc (suc (suc (suc (suc (suc (suc (suc zero))))))))))))) = h.c13
by_code P h (suc (suc (suc (suc (suc (suc (suc (suc (suc (suc (suc (suc (suc (suc k)))))))))))))) = h.past k

pub by_leaf : (P : ℕ → Type 0) → P 10 → P 11 → P 12 → P 13 → (code : ℕ) → 9 < code → code < 14 → P code
by_leaf P c10 c11 c12 c13 =
    by_code (λ (c : ℕ). 9 < c → c < 14 → P c)
    (record {
      c0 = λ l m. absurd (omega arith);
      c1 = λ l m. absurd (omega arith);
      c2 = λ l m. absurd (omega arith);
      c3 = λ l m. absurd (omega arith);
      c4 = λ l m. absurd (omega arith);
      c5 = λ l m. absurd (omega arith);
      c6 = λ l m. absurd (omega arith);
      c7 = λ l m. absurd (omega arith);
      c8 = λ l m. absurd (omega arith);
      c9 = λ l m. absurd (omega arith);
      c10 = λ l m. c10;
      c11 = λ l m. c11;
      c12 = λ l m. c12;
      c13 = λ l m. c13;
      past = λ k l m. absurd (omega arith);
    })

-- ---- a number of the list by its code

-- codes that are no hole and no leaf, the last first
abbrev others : List ℕ
others = 9 ∷ 8 ∷ 6 ∷ 4 ∷ 3 ∷ 2 ∷ 1 ∷ []

-- of what is left from 8 on, 8 and 9 are none
pub past_nine : (code : ℕ) → NoneOf others code → 8 ≤ code → 9 < code
past_nine code o h =
    let a = o.1 in
    let b = o.0.1 in
    omega arith

module _ (tree stack starts stack' starts' : List ℕ) (b after : Buffer) (s r : State) where
  abbrev Turns : List Entry → ℕ → ℕ → Type 0
  Turns es deep most = Turned tree stack' starts' b after r (print_all (state_in tree stack starts s) es) deep most

  abbrev By : ℕ → ℕ → ℕ → Type 0
  By code n note = Ready stack starts s code n → Turns (entries_for tree code n note) (deep_by code s.level) (count_by code s.count)

  pub as_code : (v code : ℕ) → v % 16 ≡ code → By code (v / 16 % 65536) (v / 1048576 % 256) → Ready stack starts s (v % 16) (v / 16 % 65536) → Turns (entries_in tree v) (deep_by (v % 16) s.level) (count_by (v % 16) s.count)
  unfolding entries_in
  as_code v code e t = subst (λ (c : ℕ). By c (v / 16 % 65536) (v / 1048576 % 256)) (sym e) t

  pub leaf_by : (code n note : ℕ) → 9 < code → code < 14 → (n < 65535 → s.count < length starts → Turns (entries_for tree code n note) s.level (s.count + 1)) → By code n note
  leaf_by code n note =
      by_leaf (λ (c : ℕ). (n < 65535 → s.count < length starts → Turns (entries_for tree c n note) s.level (s.count + 1)) → By c n note)
      (λ t h. t h.0 h.1)
      (λ t h. t h.0 h.1)
      (λ t h. t h.0 h.1)
      (λ t h. t h.0 h.1)
      code

  -- every other number is a hole
  pub hole_by : (code n note : ℕ) → NoneOf others code → (14 ≤ code ⊎ code < 8) → Turns (Entry.hole ∷ []) s.level s.count → By code n note
  unfolding entries_for
  hole_by code n note =
      by_code (λ (c : ℕ). NoneOf others c → (14 ≤ c ⊎ c < 8) → Turns (Entry.hole ∷ []) s.level s.count → By c n note)
      (record {
        c0 = λ o w t h. t;
        c1 = λ o w. absurd (o.0.0.0.0.0.0.1 refl);
        c2 = λ o w. absurd (o.0.0.0.0.0.1 refl);
        c3 = λ o w. absurd (o.0.0.0.0.1 refl);
        c4 = λ o w. absurd (o.0.0.0.1 refl);
        c5 = λ o w t h. t;
        c6 = λ o w. absurd (o.0.0.1 refl);
        c7 = λ o w t h. t;
        c8 = λ o w. absurd (o.0.1 refl);
        c9 = λ o w. absurd (o.1 refl);
        c10 = λ o w. absurd (⊎_elim (λ h. omega arith) (λ h. omega arith) w);
        c11 = λ o w. absurd (⊎_elim (λ h. omega arith) (λ h. omega arith) w);
        c12 = λ o w. absurd (⊎_elim (λ h. omega arith) (λ h. omega arith) w);
        c13 = λ o w. absurd (⊎_elim (λ h. omega arith) (λ h. omega arith) w);
        past = λ k o w t h. t;
      })
      code
