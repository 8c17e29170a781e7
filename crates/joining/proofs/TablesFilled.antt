-- The tour of the tree fills the tables.
-- Assumes nothing.
use Prim.Native.Nat.{ℕ, zero, suc, ◌+◌, ◌-◌, ◌*◌, ◌/◌, ◌%◌, ◌<◌, ◌≤◌}
use mathlib.Core.Path.{◌≡◌, refl, sym, ap, ◌∙◌}
use mathlib.Core.List.{List, [], ◌∷◌}
use mathlib.Core.Bool.{Bool, true, false, cond}
use native.Mathlib.Omega.{arith}
use lib.Dec.{eqb}
use lib.ListN.{length, get_or, replicate, length-replicate}
use borrow.Author.Tests.{eq-eqb, ne_eqb}
use Rattle.tree.specs.Tree.{Node, encode}
use Rattle.tree.specs.Grammar.{among}
use Rattle.tree.specs.Grammar.Stage.{rewritten}
use Rattle.tree.specs.Read.{read_tree}
use Rattle.tree.specs.Read.Got.{got}
use Rattle.rewritten.specs.Events.{Event, events}
use Rattle.rewritten.specs.Pass.{folded}
use Rattle.rewritten.specs.Rewritten.{is_rewritten}
use Rattle.rewritten.specs.Steps.{start, coming_at, Took, Onward, event_in, closing_in, step_closed}
use Rattle.rewritten.specs.Look.{is_closed, rest_of, event_for, end_for, cursor_for, frames_for, Ahead, new_for, noted_for}
use Rattle.rewritten.specs.Marks.{noted}
use Rattle.rewritten.specs.declared.step.Cursor.{Cursor}
use Rattle.rewritten.specs.declared.step.Event as told
use Rattle.rewritten.specs.declared.step.Step.{Step}
use Rattle.rewritten.specs.declared.step.Step.TheVariants.{Next, Done}
use Rattle.rewritten.proofs.Pass.{coming, onward, Inside, tour_of_tree, Rest, rest_next, rest_done}
use Rattle.rewritten.proofs.Moves.{close_some}
use Rattle.rewritten.proofs.MarksReader.{Reading, reading_start, too_long, noted_is, closing_noted, closes, closed_ends, closed_next, ahead_refused, ahead_twice, steps, ahead_falls, ahead_next}
use Rattle.rewritten.proofs.Marks.{Knows, met_after, knows_next}
use Rattle.joining.specs.Spots.{spots}
use Rattle.joining.specs.Files.{Shelf, shelf, passed_by, added, Files, Notes, times, Lent, Ready, Collected, Toured}
use Rattle.std.specs.Prelude.{Some, None}
use Rattle.joining.proofs.FallingChains.{chain_end}
use Rattle.joining.proofs.Times.{met_times, node_times}
use Rattle.joining.proofs.Walk.{Walk, walker, walks, walked}
use Rattle.joining.proofs.Filing.{stack_of, Filed, filed_next}

pub knows : (seen ms : List ℕ) → Notes seen ms → Knows seen ms
knows seen ms n = record { size = n.size; at = n.at }

pub notes : (seen ms : List ℕ) → Knows seen ms → Notes seen ms
notes seen ms n = record { size = n.size; at = n.at }

pub record Collecting (l fs seen : List ℕ) (t : Shelf) (c : Cursor) (n : Node) (q k : ℕ) : Type 0 where
  pub rest : List Event
  pub comes : coming l fs c ≡ got rest q k
  pub walk : Walk
  pub will : folded walks walk rest ≡ walker (length (encode n)) (0 ∷ []) 0 (spots 0 n)
  pub filed : Filed l t c.at c.deep walk
  pub met : List ℕ
  pub known : Knows seen met
  pub marked : folded met_after met rest ≡ folded met_after [] (events n)

no_files : (tree e h b : List ℕ) → Files tree e h b 0 []
no_files tree e h b = record { filed = λ p s i j. absurd (rw (chain_end e 0 (omega arith)) at i); found = λ x i. absurd i }

collecting_start : (l fs seen a e h b : List ℕ) (n : Node) (q k : ℕ) → read_tree rewritten (length l) l ≡ got n q k → Ready fs seen a e h b → (c : Cursor) → c ≡ start → Collecting l fs seen (shelf a e h b 0 0) c n q k
unfolding stack_of
collecting_start l fs seen a e h b n q k w r c z = rw z (record {
  rest = events n;
  comes = (tour_of_tree l fs n q k w).1;
  walk = walker 0 (0 ∷ []) 0 [];
  will = walked n;
  filed = record {
    site = refl;
    stacked = ap (λ (x : ℕ). x ∷ []) (sym r.root);
    starts = refl;
    tall = r.lent.deep;
    lists = r.lent.lists;
    lasts = r.lent.lasts;
    firsts = r.lent.firsts;
    last = omega arith;
    low = λ p. rw (r.none p) (omega arith);
    inside = ((λ g. absurd (omega arith), λ g. absurd (omega arith)), tt);
    item = λ g. absurd (omega arith);
    files = no_files l e h b;
  };
  met = [];
  known = knows seen [] r.blank;
  marked = refl;
})

module _ (l fs later : List ℕ) (c : Cursor) (frames : ℕ) (i : Inside l fs c frames) (long : length l ≤ 32768) (r : Step) (t : Took l fs later (coming l fs c) c.at c.deep r) where
  module _ (e : told.Event) (d : Cursor) (w : r ≡ Next e d) where
    goes : Onward l fs later (coming l fs c) c.at c.deep e d
    goes = onward l fs later c r t e d w

    collecting_next : (seen seen' : List ℕ) (s s' : Shelf) (n : Node) (q k : ℕ) → Collecting l fs seen s c n q k → ((tree : List ℕ) → seen' ≡ noted seen (event_in tree e)) → s' ≡ added s c.at c.deep e → Collecting l later seen' s' d n q k
    unfolding folded
    collecting_next seen seen' s s' n q k g so be =
        let x : Rest (event_in l e) g.rest q k (coming l later d) = rest_next l fs later c g.rest q k g.comes e d goes in
        let in' : d.at ≤ length l = goes.inside i.inside in
        let room' : 2 * d.deep ≤ d.at = goes.room i.room in
        record {
          rest = x.rest;
          comes = x.comes;
          walk = walks g.walk (event_in l e);
          will = ap (folded walks g.walk) (sym x.is) ∙ g.will;
          filed = rw be (filed_next l s c.at c.deep g.walk g.filed e d.at d.deep goes.stands goes.level in' (omega arith) room' (goes.falls i.inside));
          met = met_after g.met (event_in l e);
          known = rw (so l) (knows_next l seen g.met c.at d.at g.known e goes.stands);
          marked = ap (folded met_after g.met) (sym x.is) ∙ g.marked;
        }

  collecting_ends : r ≡ Done → (seen : List ℕ) (s : Shelf) (n : Node) (q k : ℕ) → Collecting l fs seen s c n q k → Collected l seen s.earlier s.holds s.before s.latest n
  unfolding folded times
  collecting_ends w seen s n q k g =
      let none : g.rest ≡ [] = rest_done l fs later c g.rest q k g.comes r t w in
      let end : g.walk ≡ walker (length (encode n)) (0 ∷ []) 0 (spots 0 n) = ap (folded walks g.walk) (sym none) ∙ g.will in
      let ms : g.met ≡ folded met_after [] (events n) = ap (folded met_after g.met) (sym none) ∙ g.marked in
      record {
        met = g.met;
        known = notes seen g.met g.known;
        marked = λ x. ap (times x) ms ∙ met_times x (events n) [] ∙ ap (λ (y : ℕ). 0 + y) (node_times x n) ∙ omega arith;
        files = rw (ap (λ (v : Walk). v.met) end) at g.filed.files;
        near = let a : s.latest ≤ c.at - 1 = g.filed.last in let b : c.at ≤ length l = i.inside in omega arith;
        low = λ p. let a : get_or s.holds p 0 ≤ c.at - 1 = g.filed.low p in let b : c.at ≤ length l = i.inside in omega arith;
      }

-- ---- the tables before it

blank_notes : (seen : List ℕ) → 65536 ≤ length seen → ((x : ℕ) → get_or seen x 0 ≡ 0) → Notes seen []
unfolding among
blank_notes seen s z = record { size = s; at = λ x h. z x }

-- a table was cleared
abbrev Cleared : List ℕ → List ℕ → Type 0
Cleared l m = (length m ≡ length l) × ((x : ℕ) → get_or m x 0 ≡ 0)

pub cleared : (l m : List ℕ) → m ≡ replicate (length l) 0 → Cleared l m
cleared l m e = (ap length e ∙ length-replicate {A = ℕ} (length l) 0, λ x. ap (λ (t : List ℕ). get_or t x 0) e ∙ zeros (length l) x)
  where
    zeros : (n x : ℕ) → get_or {A = ℕ} (replicate n 0) x 0 ≡ 0
    zeros zero x = refl
    zeros (suc n) zero = refl
    zeros (suc n) (suc x) = zeros n x

pub ready : (frames seen around earlier holds before : List ℕ) → Lent frames seen around earlier holds before → (seen₁ around₁ holds₁ : List ℕ) → Cleared seen seen₁ → Cleared around around₁ → Cleared holds holds₁ → Ready frames seen₁ around₁ earlier holds₁ before
ready frames seen around earlier holds before n seen₁ around₁ holds₁ s a h = record {
  lent = record {
    enough = n.enough;
    marks = rw s.0 n.marks;
    deep = rw a.0 n.deep;
    lists = n.lists;
    lasts = rw h.0 n.lasts;
    firsts = n.firsts;
  };
  blank = blank_notes seen₁ (rw s.0 n.marks) s.1;
  root = a.1 0;
  none = h.1;
}

-- ---- the loop

pub record Touring (l fs₀ seen₀ a₀ e₀ h₀ b₀ fs seen a e h b : List ℕ) (c : Cursor) (latest begun : ℕ) : Type 0 where
  pub reads : Reading l fs seen c (length fs₀) (is_rewritten l)
  pub same₂ : length seen ≡ length seen₀
  pub same₃ : length a ≡ length a₀
  pub same₄ : length e ≡ length e₀
  pub same₅ : length h ≡ length h₀
  pub same₆ : length b ≡ length b₀
  pub will : (n : Node) (q k : ℕ) → read_tree rewritten (length l) l ≡ got n q k → Ready fs₀ seen₀ a₀ e₀ h₀ b₀ → Collecting l fs seen (shelf a e h b latest begun) c n q k

pub touring_start : (l fs seen a e h b : List ℕ) → length l ≤ 32768 → 65536 ≤ length seen → ((x : ℕ) → get_or seen x 0 ≡ 0) → (c : Cursor) → c ≡ start → Touring l fs seen a e h b fs seen a e h b c 0 0
touring_start l fs seen a e h b long s blank c z = record {
  reads = reading_start l fs seen long s blank c z;
  same₂ = refl;
  same₃ = refl;
  same₄ = refl;
  same₅ = refl;
  same₆ = refl;
  will = λ n q k w r. collecting_start l fs seen a e h b n q k w r c z;
}

closing_added : (t : Shelf) (at deep : ℕ) (node : Bool) → passed_by t ≡ added t at deep (closing_in node)
closing_added t at deep true = refl
closing_added t at deep false = refl

module _ (l fs₀ seen₀ a₀ e₀ h₀ b₀ fs seen a e h b : List ℕ) (c : Cursor) (latest begun : ℕ) (g : Touring l fs₀ seen₀ a₀ e₀ h₀ b₀ fs seen a e h b c latest begun) (long : length l ≤ 32768) where
  pub touring_deep : c.deep < 65536
  touring_deep = let x : 2 * c.deep ≤ c.at = g.reads.tour.room in let y : c.at ≤ length l = g.reads.tour.inside in omega arith

  touring_next : (later : List ℕ) (r : Step) → Took l fs later (coming l fs c) c.at c.deep r → (ev : told.Event) (d : Cursor) → r ≡ Next ev d → (seen' a' e' h' b' : List ℕ) (latest' begun' : ℕ) → Reading l later seen' d (length fs₀) (is_rewritten l) → ((tree : List ℕ) → seen' ≡ noted seen (event_in tree ev)) → shelf a' e' h' b' latest' begun' ≡ added (shelf a e h b latest begun) c.at c.deep ev
      → length seen' ≡ length seen → length a' ≡ length a → length e' ≡ length e → length h' ≡ length h → length b' ≡ length b → Touring l fs₀ seen₀ a₀ e₀ h₀ b₀ later seen' a' e' h' b' d latest' begun'
  touring_next later r t ev d w seen' a' e' h' b' latest' begun' rd so be k₂ k₃ k₄ k₅ k₆ = record {
    reads = rd;
    same₂ = k₂ ∙ g.same₂;
    same₃ = k₃ ∙ g.same₃;
    same₄ = k₄ ∙ g.same₄;
    same₅ = k₅ ∙ g.same₅;
    same₆ = k₆ ∙ g.same₆;
    will = λ n q k x y. collecting_next l fs later c (length fs₀) g.reads.tour long r t ev d w seen seen' (shelf a e h b latest begun) (shelf a' e' h' b' latest' begun') n q k (g.will n q k x y) so be;
  }

  -- ---- the innermost task is done

  module _ (done : is_closed c.top ≡ true) where
    shut : Took l fs fs (coming l fs c) c.at c.deep (step_closed fs c.at c.deep (eqb (c.top % 2) 0))
    shut = closes l fs seen c (length fs₀) (is_rewritten l) g.reads done

    pub tour_whole : c.deep ≡ 0 → c.at ≡ length l → Ready fs₀ seen₀ a₀ e₀ h₀ b₀ → Toured l seen e h b (Some latest)
    tour_whole z w rd = record {
      number = sym (ap (λ (y : Bool). cond y 0 3) (sym (closed_ends l fs seen c (length fs₀) (is_rewritten l) g.reads done z) ∙ eq-eqb c.at (length l) w));
      values = λ n q k x. collecting_ends l fs fs c (length fs₀) g.reads.tour long (step_closed fs c.at c.deep (eqb (c.top % 2) 0)) shut (ap (λ (y : ℕ). step_closed fs c.at y (eqb (c.top % 2) 0)) z) seen (shelf a e h b latest begun) n q k (g.will n q k x rd);
    }

    pub tour_part : c.deep ≡ 0 → (c.at ≡ length l → ⊥) → is_rewritten l ≡ false
    tour_part z w = sym (closed_ends l fs seen c (length fs₀) (is_rewritten l) g.reads done z) ∙ ne_eqb c.at (length l) w

    pub tour_closed : (c.deep ≡ 0 → ⊥) → (top : ℕ) → top ≡ get_or fs (c.deep - 1) 0 → Touring l fs₀ seen₀ a₀ e₀ h₀ b₀ fs seen a e h b (record { at = c.at; deep = c.deep - 1; top = top }) latest 0
    tour_closed n top w =
        touring_next fs (step_closed fs c.at c.deep (eqb (c.top % 2) 0)) shut (closing_in (eqb (c.top % 2) 0)) (record { at = c.at; deep = c.deep - 1; top = top }) (sym (close_some l fs c.at c.deep top (eqb (c.top % 2) 0) n w))
        seen a e h b latest 0 (closed_next l fs seen c (length fs₀) (is_rewritten l) g.reads done n top w) (λ tree. closing_noted seen tree (eqb (c.top % 2) 0)) (closing_added (shelf a e h b latest begun) c.at c.deep (eqb (c.top % 2) 0)) refl refl refl refl refl

  -- ---- what stands next

  module _ (more : is_closed c.top ≡ false) (what : ℕ) (look : is_closed c.top ≡ false → Ahead l c.at (rest_of c.top) (λ fs deep. coming_at l fs c.at deep c.top) what) where
    pub tour_refused : what % 16 ≡ 0 → is_rewritten l ≡ false
    tour_refused z = sym (ahead_refused l fs seen c (length fs₀) (is_rewritten l) g.reads more what look z)

    module _ (stands : what % 16 ≡ 0 → ⊥) (enough : 16384 ≤ length fs₀) (fresh : Bool) (new : fresh ≡ new_for seen (what % 16) (what / 16)) where
      pub tour_twice : fresh ≡ false → is_rewritten l ≡ false
      tour_twice n = sym (ahead_twice l fs seen c (length fs₀) (is_rewritten l) g.reads more what look stands long enough fresh new n)

      module _ (rest : ℕ) (left : rest ≡ rest_of c.top) (later : List ℕ) (kept : later ≡ frames_for fs c.deep rest (what % 16)) (d : Cursor) (went : end_for c.at (what % 16) (what / 16) ≤ length l → d ≡ cursor_for fs c.at c.deep rest (what % 16) (what / 16)) where
        pub tour_falls : (length l - d.at) + d.deep < (length l - c.at) + c.deep
        tour_falls = ahead_falls l fs seen c (length fs₀) (is_rewritten l) g.reads more what look stands long enough fresh new rest left later kept d went

        pub tour_ahead : length later ≡ length fs → fresh ≡ true → (seen' a' e' h' b' : List ℕ) (latest' begun' : ℕ) → seen' ≡ noted_for seen (what % 16) (what / 16) → shelf a' e' h' b' latest' begun' ≡ added (shelf a e h b latest begun) c.at c.deep (event_for l c.at (what % 16) (what / 16))
            → length seen' ≡ length seen → length a' ≡ length a → length e' ≡ length e → length h' ≡ length h → length b' ≡ length b → Touring l fs₀ seen₀ a₀ e₀ h₀ b₀ later seen' a' e' h' b' d latest' begun'
        tour_ahead same n seen' a' e' h' b' latest' begun' so be k₂ k₃ k₄ k₅ k₆ =
            touring_next later (Next (event_for l c.at (what % 16) (what / 16)) d) (steps l fs seen c (length fs₀) (is_rewritten l) g.reads more what look stands long enough fresh new rest left later kept d went) (event_for l c.at (what % 16) (what / 16)) d refl
            seen' a' e' h' b' latest' begun' (ahead_next l fs seen c (length fs₀) (is_rewritten l) g.reads more what look stands long enough fresh new rest left later kept d went same n seen' so)
            (λ tree. so ∙ noted_is l seen c.at (what / 16) tree (what % 16) stands (look more).low) be k₂ k₃ k₄ k₅ k₆

pub tour_long : (l : List ℕ) → 32768 < length l → is_rewritten l ≡ false
tour_long l h = sym (too_long l h)

-- no tree, by its number
pub toured_none : {l seen e h b : List ℕ} → is_rewritten l ≡ false → Toured l seen e h b None
toured_none r = record { number = sym (ap (λ (y : Bool). cond y 0 3) r); values = tt }
