-- The reader's loop: a pass that keeps the marks that were met, and a table that knows them.
-- Assumes nothing.
use mathlib.Core.Path.{◌≡◌, refl, sym, ap, ◌∙◌}
use mathlib.Core.Bool.{Bool, true, false, cond}
use mathlib.Core.List.{List, []}
use mathlib.Core.Option.{Option, none, some}
use Prim.Native.Nat.{ℕ, zero, suc, ◌+◌, ◌-◌, ◌/◌, ◌%◌, ◌<◌, ◌≤◌}
use native.Mathlib.Omega.{arith}
use lib.Dec.{eqb}
use borrow.Author.Tests.{eq-eqb, ne_eqb}
use lib.ListN.{length, get_or}
use Rattle.tree.specs.Tree.{Node, marks}
use Rattle.tree.specs.Grammar.Stage.{rewritten}
use Rattle.tree.specs.Read.{Got, accepted, read_tree}
use Rattle.tree.specs.Read.Got.{got, refused}
use Rattle.rewritten.specs.Rewritten.{distinct, checked, read_rewritten, is_got, is_rewritten}
use Rattle.rewritten.specs.Events.{Event}
use Rattle.rewritten.specs.Steps.{start, coming_at, Took, Onward, event_in, closing_in, step_closed}
use Rattle.rewritten.specs.Look.{is_closed, rest_of, event_for, end_for, cursor_for, frames_for, next_for, step_for, Ahead, new_for, noted_for}
use Rattle.rewritten.specs.Pass.{passed}
use Rattle.rewritten.specs.Marks.{meet, is_some, new_in, noted}
use Rattle.rewritten.specs.declared.step.Cursor.{Cursor}
use Rattle.rewritten.specs.declared.step.Event as told
use Rattle.rewritten.specs.declared.step.Step.{Step}
use Rattle.rewritten.specs.declared.step.Step.TheVariants.{Next, Done, Refused}
use Rattle.rewritten.proofs.Pass.{coming, onward, Inside, inside_start, inside_next, step_falls, concluded, concluded_start, concluded_next, concluded_whole, concluded_early, concluded_refused, passed_long, frames_suffice}
use Rattle.rewritten.proofs.Moves.{close_some, closed_top}
use Rattle.rewritten.proofs.Ahead.{step_goes, next_goes}
use Rattle.rewritten.proofs.Marks.{by_same, marks_distinct, Knows, knows_none, met_after, meets_new, meets_twice, met_twice, knows_next}

-- what the pass answers is the definition
read_is : (l : List ℕ) → passed meet is_some false (some []) (read_tree rewritten (length l) l) ≡ is_rewritten l
unfolding is_rewritten read_rewritten
read_is l = go (read_tree rewritten (length l) l)
  where
    as_got : (b : Bool) (n : Node) (q k : ℕ) → b ≡ is_got (accepted b (got n q k))
    as_got true n q k = refl
    as_got false n q k = refl

    go : (g : Got Node) → passed meet is_some false (some []) g ≡ is_got (checked g)
    go (got n q k) = marks_distinct n ∙ as_got (distinct (marks n)) n q k
    go (refused r) = refl

pub record Reading (l fs seen : List ℕ) (c : Cursor) (frames : ℕ) (v : Bool) : Type 0 where
  pub tour : Inside l fs c frames
  pub met : List ℕ
  pub known : Knows seen met
  pub will : concluded meet is_some false l (some met) (coming l fs c) ≡ v

pub reading_start : (l fs seen : List ℕ) → length l ≤ 32768 → 65536 ≤ length seen → ((x : ℕ) → get_or seen x 0 ≡ 0) → (c : Cursor) → c ≡ start → Reading l fs seen c (length fs) (is_rewritten l)
reading_start l fs seen h s z c e = rw e (record { tour = inside_start l fs; met = []; known = knows_none seen s z; will = concluded_start meet is_some false l fs (some []) h ∙ read_is l })

pub too_long : (l : List ℕ) → 32768 < length l → false ≡ is_rewritten l
too_long l h = passed_long meet is_some false l (some []) h ∙ read_is l

concluded_twice : (l : List ℕ) (g : Got (List Event)) → false ≡ concluded meet is_some false l none g
unfolding concluded
concluded_twice l (got es q k) = rw (met_twice es) (go (eqb q (length l)))
  where
    go : (b : Bool) → false ≡ cond b false false
    go true = refl
    go false = refl
concluded_twice l (refused r) = refl

module _ (l fs later seen : List ℕ) (c : Cursor) (frames : ℕ) (v : Bool) (g : Reading l fs seen c frames v) (r : Step) (t : Took l fs later (coming l fs c) c.at c.deep r) where
  module _ (e : told.Event) (d : Cursor) (w : r ≡ Next e d) where
    goes : Onward l fs later (coming l fs c) c.at c.deep e d
    goes = onward l fs later c r t e d w

    pub reading_falls : (length l - d.at) + d.deep < (length l - c.at) + c.deep
    reading_falls = step_falls l fs later c frames g.tour e d goes

    module _ (b : Bool) (is : (tree : List ℕ) → b ≡ new_in seen (event_in tree e)) where
      pub reading_next : length later ≡ length fs → b ≡ true → (after : List ℕ) → ((tree : List ℕ) → after ≡ noted seen (event_in tree e)) → Reading l later after d frames v
      reading_next same n after so = record {
        tour = inside_next l fs later c frames g.tour e d goes same;
        met = met_after g.met (event_in l e);
        known = rw (so l) (knows_next l seen g.met c.at d.at g.known e goes.stands);
        will =
            ap (λ (s : Option (List ℕ)). concluded meet is_some false l s (coming l later d)) (sym (meets_new l seen g.met c.at d.at g.known e goes.stands (sym (is l) ∙ n)))
            ∙ concluded_next meet is_some false l fs later c (some g.met) e d goes
            ∙ g.will;
      }

      pub reading_twice : b ≡ false → false ≡ v
      reading_twice n =
          concluded_twice l (coming l later d)
          ∙ ap (λ (s : Option (List ℕ)). concluded meet is_some false l s (coming l later d)) (sym (meets_twice l seen g.met c.at d.at g.known e goes.stands (sym (is l) ∙ n)))
          ∙ concluded_next meet is_some false l fs later c (some g.met) e d goes
          ∙ g.will

  pub reading_ends : r ≡ Done → eqb c.at (length l) ≡ v
  reading_ends w = by_same c.at (length l)
      (λ e. eq-eqb c.at (length l) e ∙ sym (concluded_whole meet is_some false l fs later c (some g.met) r t w e) ∙ g.will)
      (λ n. ne_eqb c.at (length l) n ∙ sym (concluded_early meet is_some false l fs later c (some g.met) r t w n) ∙ g.will)

  pub reading_refused : r ≡ Refused → false ≡ v
  reading_refused w = sym (concluded_refused meet is_some false l fs later c (some g.met) r t w) ∙ g.will

-- ---- the reader's own loop: it has no use for events but marks

module _ (l seen : List ℕ) (at n : ℕ) where
  new_is : (tree : List ℕ) (code : ℕ) → (code ≡ 0 → ⊥) → code < 8 → new_for seen code n ≡ new_in seen (event_in tree (event_for l at code n))
  unfolding new_in
  new_is tree zero stands low = absurd (stands refl)
  new_is tree (suc zero) stands low = refl
  new_is tree (suc (suc zero)) stands low = refl
  new_is tree (suc (suc (suc zero))) stands low = refl
  new_is tree (suc (suc (suc (suc zero)))) stands low = refl
  new_is tree (suc (suc (suc (suc (suc zero))))) stands low = refl
  new_is tree (suc (suc (suc (suc (suc (suc zero)))))) stands low = refl
  new_is tree (suc (suc (suc (suc (suc (suc (suc zero))))))) stands low = refl
  new_is tree (suc (suc (suc (suc (suc (suc (suc (suc k)))))))) stands low = absurd (omega arith)

  pub noted_is : (tree : List ℕ) (code : ℕ) → (code ≡ 0 → ⊥) → code < 8 → noted_for seen code n ≡ noted seen (event_in tree (event_for l at code n))
  unfolding noted
  noted_is tree zero stands low = absurd (stands refl)
  noted_is tree (suc zero) stands low = refl
  noted_is tree (suc (suc zero)) stands low = refl
  noted_is tree (suc (suc (suc zero))) stands low = refl
  noted_is tree (suc (suc (suc (suc zero)))) stands low = refl
  noted_is tree (suc (suc (suc (suc (suc zero))))) stands low = refl
  noted_is tree (suc (suc (suc (suc (suc (suc zero)))))) stands low = refl
  noted_is tree (suc (suc (suc (suc (suc (suc (suc zero))))))) stands low = refl
  noted_is tree (suc (suc (suc (suc (suc (suc (suc (suc k)))))))) stands low = absurd (omega arith)

closing_new : (seen tree : List ℕ) (node : Bool) → true ≡ new_in seen (event_in tree (closing_in node))
unfolding new_in
closing_new seen tree true = refl
closing_new seen tree false = refl

pub closing_noted : (seen tree : List ℕ) (node : Bool) → seen ≡ noted seen (event_in tree (closing_in node))
unfolding noted
closing_noted seen tree true = refl
closing_noted seen tree false = refl

module _ (l fs seen : List ℕ) (c : Cursor) (frames : ℕ) (v : Bool) (g : Reading l fs seen c frames v) where
  -- ---- the innermost task is done

  module _ (done : is_closed c.top ≡ true) where
    pub closes : Took l fs fs (coming l fs c) c.at c.deep (step_closed fs c.at c.deep (eqb (c.top % 2) 0))
    closes = closed_top l fs c.at c.deep c.top (eqb (c.top % 2) 0) (step_closed fs c.at c.deep (eqb (c.top % 2) 0)) done refl refl

    pub closed_ends : c.deep ≡ 0 → eqb c.at (length l) ≡ v
    closed_ends z = reading_ends l fs fs seen c frames v g (step_closed fs c.at c.deep (eqb (c.top % 2) 0)) closes (ap (λ (x : ℕ). step_closed fs c.at x (eqb (c.top % 2) 0)) z)

    pub closed_next : (c.deep ≡ 0 → ⊥) → (top : ℕ) → top ≡ get_or fs (c.deep - 1) 0 → Reading l fs seen (record { at = c.at; deep = c.deep - 1; top = top }) frames v
    closed_next n top e = reading_next l fs fs seen c frames v g (step_closed fs c.at c.deep (eqb (c.top % 2) 0)) closes (closing_in (eqb (c.top % 2) 0)) (record { at = c.at; deep = c.deep - 1; top = top }) (sym (close_some l fs c.at c.deep top (eqb (c.top % 2) 0) n e)) true (λ tree. closing_new seen tree (eqb (c.top % 2) 0)) refl refl seen (λ tree. closing_noted seen tree (eqb (c.top % 2) 0))

  -- ---- what stands next

  module _ (more : is_closed c.top ≡ false) (what : ℕ) (look : is_closed c.top ≡ false → Ahead l c.at (rest_of c.top) (λ fs deep. coming_at l fs c.at deep c.top) what) where
    pub ahead_refused : what % 16 ≡ 0 → false ≡ v
    ahead_refused z = reading_refused l fs (frames_for fs c.deep (rest_of c.top) (what % 16)) seen c frames v g (step_for l fs c.at c.deep (rest_of c.top) (what % 16) (what / 16)) ((look more).so fs c.deep) (ap (λ (x : ℕ). step_for l fs c.at c.deep (rest_of c.top) x (what / 16)) z)

    module _ (stands : what % 16 ≡ 0 → ⊥) (short : length l ≤ 32768) (enough : 16384 ≤ frames) where
      goes_on : step_for l fs c.at c.deep (rest_of c.top) (what % 16) (what / 16) ≡ next_for l fs c.at c.deep (rest_of c.top) (what % 16) (what / 16)
      goes_on = step_goes l fs c.at c.deep (rest_of c.top) (what % 16) (what / 16) stands (look more).low (λ e. frames_suffice l fs (frames_for fs c.deep (rest_of c.top) (what % 16)) c frames g.tour (step_for l fs c.at c.deep (rest_of c.top) (what % 16) (what / 16)) ((look more).so fs c.deep) e short enough)

      module _ (b : Bool) (new : b ≡ new_for seen (what % 16) (what / 16)) where
        is_new_lem : (tree : List ℕ) → b ≡ new_in seen (event_in tree (event_for l c.at (what % 16) (what / 16)))
        is_new_lem tree = new ∙ new_is l seen c.at (what / 16) tree (what % 16) stands (look more).low

        pub ahead_twice : b ≡ false → false ≡ v
        ahead_twice n = reading_twice l fs (frames_for fs c.deep (rest_of c.top) (what % 16)) seen c frames v g (step_for l fs c.at c.deep (rest_of c.top) (what % 16) (what / 16)) ((look more).so fs c.deep) (event_for l c.at (what % 16) (what / 16)) (cursor_for fs c.at c.deep (rest_of c.top) (what % 16) (what / 16)) goes_on b is_new_lem n

        module _ (rest : ℕ) (left : rest ≡ rest_of c.top) (later : List ℕ) (kept : later ≡ frames_for fs c.deep rest (what % 16)) (d : Cursor) (went : end_for c.at (what % 16) (what / 16) ≤ length l → d ≡ cursor_for fs c.at c.deep rest (what % 16) (what / 16)) where
          pub steps : Took l fs later (coming l fs c) c.at c.deep (Next (event_for l c.at (what % 16) (what / 16)) d)
          steps = next_goes l fs c.at c.deep c.top more what look rest left later kept d went (what % 16) refl stands (event_for l c.at (what % 16) (what / 16)) refl (rw left goes_on)

          pub ahead_falls : (length l - d.at) + d.deep < (length l - c.at) + c.deep
          ahead_falls = reading_falls l fs later seen c frames v g (Next (event_for l c.at (what % 16) (what / 16)) d) steps (event_for l c.at (what % 16) (what / 16)) d refl

          pub ahead_next : length later ≡ length fs → b ≡ true → (after : List ℕ) → after ≡ noted_for seen (what % 16) (what / 16) → Reading l later after d frames v
          ahead_next same n after so = reading_next l fs later seen c frames v g (Next (event_for l c.at (what % 16) (what / 16)) d) steps (event_for l c.at (what % 16) (what / 16)) d refl b is_new_lem same n after (λ tree. so ∙ noted_is l seen c.at (what / 16) tree (what % 16) stands (look more).low)
