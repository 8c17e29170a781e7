-- What stands next, way by way: the number tells the step of what is pending.
-- Assumes nothing.
use mathlib.Core.Path.{◌≡◌, refl, sym, ap, subst, ◌∙◌}
use mathlib.Core.Bool.{Bool, true, false, cond}
use mathlib.Core.List.{List, [], ◌∷◌}
use Prim.Native.Nat.{ℕ, zero, suc, ◌+◌, ◌-◌, ◌*◌, ◌/◌, ◌%◌, ◌<◌, ◌≤◌}
use native.Mathlib.Omega.{arith}
use native.Mathlib.Decide.{dec_lt}
use lib.Dec.{eqb}
use lib.ListN.{length, get_or, set, get_or-eq_default}
use lib.Seq.{set_out}
use borrow.Author.Tests.{lt-ltb, le-ltb, eq-eqb, ne_eqb, ltb-false, eqb-false}
use Rattle.tree.specs.Grammar.{Sort, form_at, fields_of, map_ok}
use Rattle.tree.specs.Grammar.Sort.{text, byte, mark, number}
use Rattle.tree.specs.Grammar.Stage.{rewritten}
use Rattle.tree.specs.Rows.{fields_in_of}
use Rattle.tree.specs.Read.{Got}
use Rattle.tree.specs.Answer.{Peeked, Wide}
use Rattle.rewritten.specs.Events.{Event}
use Rattle.rewritten.specs.Pending.{sorts}
use Rattle.rewritten.specs.Steps.{Planned, coming_at, coming_fields, coming_items, coming_piece, coming_node, list_sort, Took}
use Rattle.rewritten.specs.Look.{LeafIs, leaf_for, step_after, end_for, deeper, event_for, cursor_for, frames_for, next_for, step_for, Ahead, Coded, is_closed, rest_of}
use Rattle.rewritten.specs.declared.step.Cursor.{Cursor}
use Rattle.rewritten.specs.declared.step.Event as told
use Rattle.rewritten.specs.declared.step.Step.TheVariants.{Next, Refused, Full}
use Rattle.tree.specs.Look.{onward}
use Rattle.tree.proofs.Look.{on_fits}
use Rattle.tree.proofs.GrammarRows.{NoKey, no_key}
use Rattle.rewritten.proofs.LeafEvents as leaf
use Rattle.rewritten.proofs.Moves.{took_as, enter_wrong, enter_unfit, enter_inside, enter_node, full, enter_list_missing, enter_list, item_is_hole, leaf_took, top_node, top_list}

-- what is pending may be said in another way
pub ahead_as : {l : List ℕ} {at rest : ℕ} {g h : List ℕ → ℕ → Got (List Event)} {r : ℕ} → ((fs : List ℕ) (deep : ℕ) → g fs deep ≡ h fs deep) → Ahead l at rest h r → Ahead l at rest g r
ahead_as e a = record { so = λ fs deep. took_as (e fs deep) (a.so fs deep); fits = a.fits; low = a.low }

-- what was found has its code
pub coded : (code n : ℕ) → code < 16 → Coded code (code + 16 * n)
coded code n h = λ _. omega arith

-- nothing was found
pub coded_none : (code : ℕ) → Coded code 0
coded_none code = λ n. absurd (n refl)

module _ (l : List ℕ) (at rest : ℕ) (g : List ℕ → ℕ → Got (List Event)) where
  -- a code with a number above it
  ahead : (code n : ℕ) → code < 8 → ((fs : List ℕ) (deep : ℕ) → Took l fs (frames_for fs deep rest code) (g fs deep) at deep (step_for l fs at deep rest code n)) → ((code ≡ 0 → ⊥) → end_for at code n ≤ length l) → Ahead l at rest g (code + 16 * n)
  ahead code n h so fits =
      let a : (code + 16 * n) % 16 ≡ code = omega arith in
      let b : (code + 16 * n) / 16 ≡ n = omega arith in
      record { so = λ fs deep. rw (a, b) (so fs deep); fits = λ z. rw (a, b) (fits (λ e. z (a ∙ e))); low = rw a h }

  -- a node or a list begins, if there is a frame for it
  with_frame : (fs : List ℕ) (deep code n : ℕ) → at + 1 < length l → (deep < length fs → Took l fs (frames_for fs deep rest code) (g fs deep) at deep (step_for l fs at deep rest code n)) → (length fs ≤ deep → frames_for fs deep rest code ≡ set fs deep rest) → (length fs ≤ deep → step_for l fs at deep rest code n ≡ Full) → Took l fs (frames_for fs deep rest code) (g fs deep) at deep (step_for l fs at deep rest code n)
  with_frame fs deep code n i some kept none = elim (dec_lt deep (length fs)) [
    | yes h ↦ some h
    | no h ↦ let f : length fs ≤ deep = omega arith in rw (none f, kept f, set_out fs deep rest f) (full l fs (g fs deep) at deep f i)
  ]

module _ (l : List ℕ) (at : ℕ) where
  -- ---- a node

  module _ (p kind form : ℕ) (look : Peeked l at kind) (found : form ≡ form_at rewritten p kind) where
    pub node_wrong : form ≡ 0 → (rest : ℕ) → Ahead l at rest (λ fs deep. coming_node l fs p at deep rest) 0
    node_wrong z rest = ahead l at rest (λ fs deep. coming_node l fs p at deep rest) 0 0 (omega arith) (λ fs deep. enter_wrong l fs p at deep rest kind form look found z) (λ n. absurd (n refl))

    module _ (stands : form ≡ 0 → ⊥) (map row : ℕ) (next : Peeked l (at + 1) map) (rowed : sorts (fields_in_of row) ≡ sorts (fields_of form)) where
      pub node_unfit : map_ok (fields_of form) map ≡ false → (rest : ℕ) → Ahead l at rest (λ fs deep. coming_node l fs p at deep rest) 0
      node_unfit bad rest = ahead l at rest (λ fs deep. coming_node l fs p at deep rest) 0 0 (omega arith) (λ fs deep. enter_unfit l fs p at deep rest kind form look found stands map row next rowed bad) (λ n. absurd (n refl))

      pub node_fits : map_ok (fields_of form) map ≡ true → (r : ℕ) → Planned row map r → (rest : ℕ) → Ahead l at rest (λ fs deep. coming_node l fs p at deep rest) (1 + 16 * r)
      node_fits ok r plan rest =
          let i : at + 1 < length l = enter_inside l l p at 0 0 kind form look found stands map row next rowed ok in
          ahead l at rest (λ fs deep. coming_node l fs p at deep rest) 1 r (omega arith)
          (λ fs deep. with_frame l at rest (λ fs deep. coming_node l fs p at deep rest) fs deep 1 r i (λ h. rw (lt-ltb deep (length fs) h) (enter_node l fs p at deep rest kind form look found stands map row next rowed ok h r plan)) (λ h. refl) (λ h. rw (le-ltb deep (length fs) h)))
          (λ n. omega arith)

  -- ---- a list

  module _ (p : ℕ) (h : Bool) (n : ℕ) (wide : Wide l at n) where
    pub list_missing : 65535 < n → (rest : ℕ) → Ahead l at rest (λ fs deep. coming_piece l fs (list_sort h (p % 32)) at deep rest) 0
    list_missing m rest = ahead l at rest (λ fs deep. coming_piece l fs (list_sort h (p % 32)) at deep rest) 0 0 (omega arith) (λ fs deep. enter_list_missing l fs p h at deep rest n wide m) (λ z. absurd (z refl))

    pub list_begins : n ≤ 65535 → (low : ℕ) → low ≡ cond h 1 0 → low < 2 → (rest : ℕ) → Ahead l at rest (λ fs deep. coming_piece l fs (list_sort h (p % 32)) at deep rest) (2 + 16 * (64 * n + p % 32 * 2 + low))
    list_begins m low e s rest =
        let i : at + 1 < length l = wide.within (omega arith) in
        let w : ℕ = 64 * n + p % 32 * 2 + low in
        ahead l at rest (λ fs deep. coming_piece l fs (list_sort h (p % 32)) at deep rest) 2 w (omega arith)
        (λ fs deep. with_frame l at rest (λ fs deep. coming_piece l fs (list_sort h (p % 32)) at deep rest) fs deep 2 w i (λ f. rw (lt-ltb deep (length fs) f) (enter_list l fs p h at deep rest n wide m f w low refl e s)) (λ f. refl) (λ f. rw (le-ltb deep (length fs) f)))
        (λ z. omega arith)

  -- ---- a field that holds no node

  leaf_ahead : (s : Sort) (code n : ℕ) → code < 8 → LeafIs l s at (leaf_for at code n) → ((fs : List ℕ) (deep rest : ℕ) → step_for l fs at deep rest code n ≡ step_after (leaf_for at code n) deep rest) → ((fs : List ℕ) (deep rest : ℕ) → frames_for fs deep rest code ≡ fs) → ((code ≡ 0 → ⊥) → end_for at code n ≤ length l) → (rest : ℕ) → Ahead l at rest (λ fs deep. coming_piece l fs s at deep rest) (code + 16 * n)
  leaf_ahead s code n h is step kept fits rest = ahead l at rest (λ fs deep. coming_piece l fs s at deep rest) code n h (λ fs deep. rw (step fs deep rest, kept fs deep rest) (leaf_took l fs at deep rest s (leaf_for at code n) is.so)) fits

  leaf_missing : (s : Sort) → LeafIs l s at (leaf_for at 0 0) → (rest : ℕ) → Ahead l at rest (λ fs deep. coming_piece l fs s at deep rest) 0
  leaf_missing s is = leaf_ahead s 0 0 (omega arith) is (λ fs deep rest. refl) (λ fs deep rest. refl) (λ n. absurd (n refl))

  module _ (n : ℕ) (w : Wide l at n) where
    pub text_missing : 65535 < n → (rest : ℕ) → Ahead l at rest (λ fs deep. coming_piece l fs text at deep rest) 0
    text_missing h = leaf_missing text (leaf.text_missing l at n w h)

    pub text_short : n ≤ 65535 → length l - (at + 2) < n → (rest : ℕ) → Ahead l at rest (λ fs deep. coming_piece l fs text at deep rest) 0
    text_short h f = leaf_missing text (leaf.text_short l at n w h f)

    pub text_found : n ≤ 65535 → n ≤ length l - (at + 2) → (rest : ℕ) → Ahead l at rest (λ fs deep. coming_piece l fs text at deep rest) (3 + 16 * n)
    text_found h f = let is : LeafIs l text at (leaf_for at 3 n) = leaf.text_found l at n w h f in leaf_ahead text 3 n (omega arith) is (λ fs deep rest. refl) (λ fs deep rest. refl) (λ z. is.so.3)

    pub mark_found : n < 65536 → (rest : ℕ) → Ahead l at rest (λ fs deep. coming_piece l fs mark at deep rest) (4 + 16 * n)
    mark_found h = let is : LeafIs l mark at (leaf_for at 4 n) = leaf.mark_found l at n w h in leaf_ahead mark 4 n (omega arith) is (λ fs deep rest. refl) (λ fs deep rest. refl) (λ z. is.so.3)

    pub mark_missing : 65536 ≤ n → (rest : ℕ) → Ahead l at rest (λ fs deep. coming_piece l fs mark at deep rest) 0
    mark_missing h = leaf_missing mark (leaf.mark_missing l at n w h)

    pub number_found : n < 65536 → (rest : ℕ) → Ahead l at rest (λ fs deep. coming_piece l fs number at deep rest) (6 + 16 * n)
    number_found h = let is : LeafIs l number at (leaf_for at 6 n) = leaf.number_found l at n w h in leaf_ahead number 6 n (omega arith) is (λ fs deep rest. refl) (λ fs deep rest. refl) (λ z. is.so.3)

    pub number_missing : 65536 ≤ n → (rest : ℕ) → Ahead l at rest (λ fs deep. coming_piece l fs number at deep rest) 0
    number_missing h = leaf_missing number (leaf.number_missing l at n w h)

  module _ (a b n : ℕ) (p : Peeked l at n) where
    pub byte_found : n < 256 → a ≤ n → n ≤ b → (rest : ℕ) → Ahead l at rest (λ fs deep. coming_piece l fs (byte a b) at deep rest) (5 + 16 * n)
    byte_found h f g = let is : LeafIs l (byte a b) at (leaf_for at 5 n) = leaf.byte_found l a b at n p h f g in leaf_ahead (byte a b) 5 n (omega arith) is (λ fs deep rest. refl) (λ fs deep rest. refl) (λ z. is.so.3)

    pub byte_high : n < 256 → a ≤ n → b < n → (rest : ℕ) → Ahead l at rest (λ fs deep. coming_piece l fs (byte a b) at deep rest) 0
    byte_high h f g = leaf_missing (byte a b) (leaf.byte_high l a b at n p h f g)

    pub byte_low : n < 256 → n < a → (rest : ℕ) → Ahead l at rest (λ fs deep. coming_piece l fs (byte a b) at deep rest) 0
    byte_low h f = leaf_missing (byte a b) (leaf.byte_low l a b at n p h f)

    pub byte_missing : 256 ≤ n → (rest : ℕ) → Ahead l at rest (λ fs deep. coming_piece l fs (byte a b) at deep rest) 0
    byte_missing h = leaf_missing (byte a b) (leaf.byte_missing l a b at n p h)

  -- ---- a hole

  pub hole_ahead : (w b : ℕ) → 64 ≤ w → w % 2 ≡ 1 → Peeked l at b → b ≡ 0 → Ahead l at ((w - 64) * 2 + 1) (λ fs deep. coming_items l fs at deep w) 7
  hole_ahead w b some o look z = let i : at < length l = look.within (omega arith) in ahead l at ((w - 64) * 2 + 1) (λ fs deep. coming_items l fs at deep w) 7 0 (omega arith) (λ fs deep. item_is_hole l fs at deep w some o b look z) (λ n. omega arith)

  -- ---- the innermost task

  pub ahead_node : (top r : ℕ) → top % 2 ≡ 0 → ((top / 2 ≡ 0 → ⊥) → Ahead l at (top / 2 / 1024 * 2) (λ fs deep. coming_fields l fs at deep (top / 2)) r) → is_closed top ≡ false → Ahead l at (rest_of top) (λ fs deep. coming_at l fs at deep top) r
  ahead_node top r z a c =
      let t : eqb (top % 2) 0 ≡ true = eq-eqb (top % 2) 0 z in
      let some : top ≡ 0 → ⊥ = eqb-false top 0 (rw t at c) in
      rw t (ahead_as (λ fs deep. top_node l fs at deep top z) (a (λ e. some (omega arith))))

  pub ahead_list : (top r : ℕ) → (top % 2 ≡ 0 → ⊥) → (64 ≤ top / 2 → Ahead l at ((top / 2 - 64) * 2 + 1) (λ fs deep. coming_items l fs at deep (top / 2)) r) → is_closed top ≡ false → Ahead l at (rest_of top) (λ fs deep. coming_at l fs at deep top) r
  ahead_list top r z a c =
      let t : eqb (top % 2) 0 ≡ false = ne_eqb (top % 2) 0 z in
      let some : 128 ≤ top = ltb-false top 128 (rw t at c) in
      rw t (ahead_as (λ fs deep. top_list l fs at deep top z) (a (omega arith)))

-- ---- where the tour stands then

-- one byte, if no arm has its size
pub size_one : (at code n : ℕ) → NoKey Unit 1 6 code → at + 1 ≡ end_for at code n
size_one at zero n h = refl
size_one at (suc c) n h = sym (get_or-eq_default ((at + 1) ∷ (at + 2) ∷ (at + 2) ∷ (at + 2 + n) ∷ (at + 2) ∷ (at + 1) ∷ (at + 2) ∷ []) (at + 1) {n = suc c} (no_key Unit 1 6 (suc c) h (omega arith)))

module _ (l fs : List ℕ) (at deep rest code n size end : ℕ) (sized : (at : ℕ) → at + size ≡ end_for at code n) (went : end ≡ onward l at size) where
  -- the end is no end of the slice
  at_end : end_for at code n ≤ length l → end ≡ end_for at code n
  at_end h = let s : at + size ≡ end_for at code n = sized at in went ∙ on_fits l at size (omega arith) ∙ s

  -- a node or a list begins
  pub moved_deeper : (top : ℕ) (r : Cursor) → r ≡ record { at = end; deep = deeper fs deep; top = top } → record { at = end_for at code n; deep = deeper fs deep; top = top } ≡ cursor_for fs at deep rest code n → end_for at code n ≤ length l → r ≡ cursor_for fs at deep rest code n
  moved_deeper top r e is h = e ∙ ap (λ (x : ℕ). record { at = x; deep = deeper fs deep; top = top }) (at_end h) ∙ is

  module _ (a : code ≡ 1 → ⊥) (b : code ≡ 2 → ⊥) where
    no_other : {A : Type 0} (x y z : A) → x ≡ get_or (x ∷ y ∷ z ∷ []) code x
    no_other {A} x y z = go code a b
      where
        go : (c : ℕ) → (c ≡ 1 → ⊥) → (c ≡ 2 → ⊥) → x ≡ get_or (x ∷ y ∷ z ∷ []) c x
        go zero a b = refl
        go (suc c) a b = sym (get_or-eq_default (x ∷ y ∷ z ∷ []) x {n = suc c} (above c a b))
          where
            above : (c : ℕ) → (suc c ≡ 1 → ⊥) → (suc c ≡ 2 → ⊥) → 3 ≤ suc c
            above zero a b = absurd (a refl)
            above (suc zero) a b = absurd (b refl)
            above (suc (suc c)) a b = omega arith

    pub moved_kept : fs ≡ frames_for fs deep rest code
    moved_kept = no_other fs (set fs deep rest) (set fs deep rest)

    pub moved_on : end_for at code n ≤ length l → record { at = end; deep = deep; top = rest } ≡ cursor_for fs at deep rest code n
    moved_on h =
        ap (λ (x : ℕ). record { at = x; deep = deep; top = rest }) (at_end h)
        ∙ ap (λ (x : ℕ). record { at = end_for at code n; deep = x; top = rest }) (no_other deep (deeper fs deep) (deeper fs deep))
        ∙ ap (λ (x : ℕ). record { at = end_for at code n; deep = get_or (deep ∷ deeper fs deep ∷ deeper fs deep ∷ []) code deep; top = x }) (no_other rest (n * 2) (n * 2 + 1))

-- ---- the step

-- an event, unless there is no frame
pub step_goes : (l fs : List ℕ) (at deep rest code n : ℕ) → (code ≡ 0 → ⊥) → code < 8 → (step_for l fs at deep rest code n ≡ Full → ⊥) → step_for l fs at deep rest code n ≡ next_for l fs at deep rest code n
step_goes l fs at deep rest zero n some low full = absurd (some refl)
step_goes l fs at deep rest (suc zero) n some low full = elim (dec_lt deep (length fs)) [ yes h ↦ rw (lt-ltb deep (length fs) h) | no h ↦ absurd (full (rw (le-ltb deep (length fs) (omega arith)))) ]
step_goes l fs at deep rest (suc (suc zero)) n some low full = elim (dec_lt deep (length fs)) [ yes h ↦ rw (lt-ltb deep (length fs) h) | no h ↦ absurd (full (rw (le-ltb deep (length fs) (omega arith)))) ]
step_goes l fs at deep rest (suc (suc (suc zero))) n some low full = refl
step_goes l fs at deep rest (suc (suc (suc (suc zero)))) n some low full = refl
step_goes l fs at deep rest (suc (suc (suc (suc (suc zero))))) n some low full = refl
step_goes l fs at deep rest (suc (suc (suc (suc (suc (suc zero)))))) n some low full = refl
step_goes l fs at deep rest (suc (suc (suc (suc (suc (suc (suc zero))))))) n some low full = refl
step_goes l fs at deep rest (suc (suc (suc (suc (suc (suc (suc (suc k)))))))) n some low full = absurd (omega arith)

module _ (l fs : List ℕ) (at deep top : ℕ) (more : is_closed top ≡ false) (what : ℕ) (look : is_closed top ≡ false → Ahead l at (rest_of top) (λ fs deep. coming_at l fs at deep top) what) where
  pub within : (code : ℕ) → what % 16 ≡ code → (code ≡ 0 → ⊥) → end_for at code (what / 16) ≤ length l
  within code e some = rw e at ((look more).fits (λ z. some (sym e ∙ z)))

  module _ (rest : ℕ) (left : rest ≡ rest_of top) (later : List ℕ) (kept : later ≡ frames_for fs deep rest (what % 16)) where
    met : (code : ℕ) → what % 16 ≡ code → Took l fs later (coming_at l fs at deep top) at deep (step_for l fs at deep rest code (what / 16))
    met code e = rw (kept, left) (subst (λ (x : ℕ). Took l fs (frames_for fs deep (rest_of top) (what % 16)) (coming_at l fs at deep top) at deep (step_for l fs at deep (rest_of top) x (what / 16))) e ((look more).so fs deep))

    pub next_full : (code : ℕ) → what % 16 ≡ code → step_for l fs at deep rest code (what / 16) ≡ Full → Took l fs later (coming_at l fs at deep top) at deep Full
    next_full code e f = rw f at (met code e)

    pub next_refused : NoKey Unit 1 7 (what % 16) → Took l fs later (coming_at l fs at deep top) at deep Refused
    next_refused h = met 0 (none (what % 16) h (look more).low)
      where
        none : (code : ℕ) → NoKey Unit 1 7 code → code < 8 → code ≡ 0
        none zero h low = refl
        none (suc c) h low = let k : 8 ≤ suc c = no_key Unit 1 7 (suc c) h (omega arith) in absurd (omega arith)

    module _ (c : Cursor) (went : end_for at (what % 16) (what / 16) ≤ length l → c ≡ cursor_for fs at deep rest (what % 16) (what / 16)) where
      pub next_goes : (code : ℕ) → what % 16 ≡ code → (code ≡ 0 → ⊥) → (e : told.Event) → e ≡ event_for l at code (what / 16) → step_for l fs at deep rest code (what / 16) ≡ next_for l fs at deep rest code (what / 16) → Took l fs later (coming_at l fs at deep top) at deep (Next e c)
      next_goes code k some e is so =
          let d : c ≡ cursor_for fs at deep rest code (what / 16) = went ((look more).fits (λ z. some (sym k ∙ z))) ∙ ap (λ (x : ℕ). cursor_for fs at deep rest x (what / 16)) k in
          rw (is, d) (rw so at (met code k))
