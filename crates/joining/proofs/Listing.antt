-- The list: its declarator lists, its entries, and all of it.
-- Assumes nothing.
use Prim.Native.Nat.{ℕ, zero, suc, ◌+◌, ◌-◌, ◌*◌, ◌/◌, ◌%◌, ◌<◌, ◌≤◌}
use mathlib.Core.Path.{◌≡◌, refl, sym, ap, ◌∙◌}
use mathlib.Core.List.{List, [], ◌∷◌}
use mathlib.Core.Bool.{Bool, true, false, cond}
use mathlib.Core.Option.{Option, none, some}
use native.Mathlib.Omega.{arith}
use lib.Dec.{ltb}
use lib.ListN.{length, get_or, set}
use lib.Seq.{get_or-set_same, get_or-set_other}
use borrow.Author.Tests.{eq-eqb, ne_eqb, lt-ltb, le-ltb, le-leb, lt-leb}
use Rattle.tree.specs.Tree.{Items}
use Rattle.tree.specs.Grammar.{declarator}
use Rattle.tree.specs.Read.{Got, mapped, wide_at, read_list}
use Rattle.tree.specs.Read.Got.{got, refused}
use Rattle.tree.specs.Read.Refusal.{not_a_tree}
use Rattle.rewritten.specs.Events.{Event, events_items}
use Rattle.rewritten.specs.Pass.{folded}
use Rattle.rewritten.specs.Marks.{meet, new_in, noted}
use Rattle.rewritten.specs.Pending.{items_come, comes, pending, task_of, stack}
use Rattle.rewritten.specs.Pending.Task.{items}
use Rattle.rewritten.specs.Steps.{coming_at, Took, Onward, event_in}
use Rattle.rewritten.specs.declared.step.Cursor.{Cursor}
use Rattle.rewritten.specs.declared.step.Event as word
use Rattle.rewritten.specs.declared.step.Step.{Step}
use Rattle.rewritten.specs.declared.step.Step.TheVariants.{Next, Done, Refused, Full}
use Rattle.rewritten.proofs.Pass.{coming, onward as goes_on, Inside, inside_next, step_falls, frames_suffice, stands_on}
use Rattle.rewritten.proofs.Marks.{Knows, met_after, meets_new, meets_twice, met_twice, knows_next}
use Rattle.joining.specs.List.{read_declarators, longest_list}
use Rattle.joining.specs.Tables.{stored}
use Rattle.joining.specs.Files.{Notes}
use Rattle.joining.specs.Entries.{Told, tells, telling, onward, run_declarators, run_entries, run_head, run_list, Listed, Ended, ending_number, told_number, Ends as Answers, Within, IfAt}
use Rattle.joining.specs.Entries.Told.{lost, told}
use Rattle.std.specs.Prelude as prelude
use Rattle.std.specs.Prelude.{Some, None}
use Rattle.joining.proofs.FallingChains.{put_in}
use Rattle.joining.proofs.TablesFilled.{knows, notes}

-- ---- what the rest of the events tells

telling_event : (m m' : List ℕ) (e : Event) (g : Got (List Event)) → meet (some m) e ≡ some m' → telling m (mapped (λ es. e ∷ es) g) ≡ telling m' g
unfolding folded
telling_event m m' e (got es q k) w = ap (λ (o : Option (List ℕ)). tells (folded meet o es) q) w
telling_event m m' e (refused r) w = refl

telling_twice : (m : List ℕ) (e : Event) (g : Got (List Event)) → meet (some m) e ≡ none → telling m (mapped (λ es. e ∷ es) g) ≡ lost
unfolding folded
telling_twice m e (got es q k) w = ap (λ (o : Option (List ℕ)). tells (folded meet o es) q) w ∙ ap (λ (o : Option (List ℕ)). tells o q) (met_twice es)
telling_twice m e (refused r) w = refl

-- ---- a declarator list

-- its cursor: a list frame of the declarators' place
frame_is : (n : ℕ) → task_of (n * 128 + 17) ≡ items declarator false n
unfolding task_of
frame_is n =
    let a : (n * 128 + 17) % 2 ≡ 1 = omega arith in
    let b : (n * 128 + 17) / 2 ≡ n * 64 + 8 = omega arith in
    let c : (n * 64 + 8) / 2 % 32 ≡ 4 = omega arith in
    let d : (n * 64 + 8) % 2 ≡ 0 = omega arith in
    let e : (n * 64 + 8) / 64 ≡ n = omega arith in
    rw (a, b, c, d, e) refl

comes_first : (l fs : List ℕ) (at n : ℕ) → n < 65536 → n ≡ wide_at l at → coming_at l fs (at + 2) 0 (n * 128 + 17) ≡ mapped events_items (read_declarators l at 1)
unfolding coming_at stack pending comes items_come read_declarators read_list
comes_first l fs at n h w =
    ap (λ t. comes l t (at + 2) 1) (frame_is n)
    ∙ rw (← w, lt-ltb n 65536 h) refl

pub declarators_none : (l : List ℕ) (at n : ℕ) (met : List ℕ) → 65535 < n → n ≡ wide_at l at → run_declarators l at met ≡ lost
unfolding run_declarators read_declarators read_list
declarators_none l at n met h w = rw (← w, le-ltb n 65536 (omega arith)) refl

pub record Says (l fs seen : List ℕ) (c : Cursor) (v : Told) : Type 0 where
  pub met : List ℕ
  pub known : Knows seen met
  pub will : telling met (coming l fs c) ≡ v

pub record Declaring (l fs₀ seen₀ fs seen : List ℕ) (c : Cursor) (at : ℕ) : Type 0 where
  pub tour : Inside l fs c (length fs₀)
  pub low : at + 2 ≤ c.at
  pub same : length seen ≡ length seen₀
  pub says : (met : List ℕ) → Notes seen₀ met → Says l fs seen c (run_declarators l at met)

pub declaring_start : (l fs seen : List ℕ) (at n : ℕ) → n ≤ 65535 → n ≡ wide_at l at → at + 1 < length l → Declaring l fs seen fs seen (record { at = at + 2; deep = 0; top = n * 128 + 17 }) at
unfolding run_declarators
declaring_start l fs seen at n h w i = record {
  tour = record { size = refl; inside = omega arith; room = omega arith };
  low = omega arith;
  same = refl;
  says = λ met k. record { met = met; known = knows seen met k; will = ap (telling met) (comes_first l fs at n (omega arith) w) };
}

module _ (l fs₀ seen₀ fs seen : List ℕ) (c : Cursor) (at : ℕ) (g : Declaring l fs₀ seen₀ fs seen c at) (later : List ℕ) (r : Step) (t : Took l fs later (coming l fs c) c.at c.deep r) where
  module _ (e : word.Event) (d : Cursor) (w : r ≡ Next e d) where
    goes : Onward l fs later (coming l fs c) c.at c.deep e d
    goes = goes_on l fs later c r t e d w

    pub declaring_falls : (length l - d.at) + d.deep < (length l - c.at) + c.deep
    declaring_falls = step_falls l fs later c (length fs₀) g.tour e d goes

    module _ (b : Bool) (is : (tree : List ℕ) → b ≡ new_in seen (event_in tree e)) where
      pub declaring_next : length later ≡ length fs → b ≡ true → (after : List ℕ) → ((tree : List ℕ) → after ≡ noted seen (event_in tree e)) → length after ≡ length seen → Declaring l fs₀ seen₀ later after d at
      declaring_next same n after so k = record {
        tour = inside_next l fs later c (length fs₀) g.tour e d goes same;
        low = let a : at + 2 ≤ c.at = g.low in omega (arith, stands_on l c.at e d.at goes.stands);
        same = k ∙ g.same;
        says = λ met y.
            let s : Says l fs seen c (run_declarators l at met) = g.says met y in
            record {
              met = met_after s.met (event_in l e);
              known = rw (so l) (knows_next l seen s.met c.at d.at s.known e goes.stands);
              will =
                  sym (telling_event s.met (met_after s.met (event_in l e)) (event_in l e) (coming l later d) (meets_new l seen s.met c.at d.at s.known e goes.stands (sym (is l) ∙ n)))
                  ∙ ap (telling s.met) (sym goes.is)
                  ∙ s.will;
            };
      }

      pub declaring_twice : b ≡ false → (met : List ℕ) → Notes seen₀ met → run_declarators l at met ≡ lost
      declaring_twice n met y =
          let s : Says l fs seen c (run_declarators l at met) = g.says met y in
          sym s.will
          ∙ ap (telling s.met) goes.is
          ∙ telling_twice s.met (event_in l e) (coming l later d) (meets_twice l seen s.met c.at d.at s.known e goes.stands (sym (is l) ∙ n))

  pub declaring_ends : r ≡ Done → (met : List ℕ) → Notes seen₀ met → Ended seen c.at (run_declarators l at met)
  unfolding folded
  declaring_ends w met y =
      let s : Says l fs seen c (run_declarators l at met) = g.says met y in
      let d : (coming l fs c ≡ got [] c.at 1) × (later ≡ fs) = (rw w at t).so in
      record { met = s.met; is = sym s.will ∙ ap (telling s.met) d.0; known = notes seen s.met s.known }

  pub declaring_refused : r ≡ Refused → (met : List ℕ) → Notes seen₀ met → run_declarators l at met ≡ lost
  declaring_refused w met y =
      let s : Says l fs seen c (run_declarators l at met) = g.says met y in
      let d : (coming l fs c ≡ refused not_a_tree) × (later ≡ fs) = (rw w at t).so in
      sym s.will ∙ ap (telling s.met) d.0

  pub declaring_full : {A : Type 0} → r ≡ Full → 16384 ≤ length fs₀ → length l ≤ 32768 → A
  declaring_full w f h = absurd (frames_suffice l fs later c (length fs₀) g.tour r t w h f)

-- ---- the entries

-- what was told is where it ends
told_end : (l : List ℕ) (at : ℕ) (met m : List ℕ) (end : ℕ) → run_declarators l at met ≡ told end m → (ds : Items) (q k : ℕ) → read_declarators l at 1 ≡ got ds q k → end ≡ q
unfolding run_declarators
told_end l at met m end w ds q k e = go (folded meet (some met) (events_items ds)) (sym (ap (λ (g : Got Items). telling met (mapped events_items g)) e) ∙ w)
  where
    go : (o : Option (List ℕ)) → tells o q ≡ told end m → end ≡ q
    go none v = let z : ◌≡◌ {A = ℕ} 0 1 = cc in absurd (omega arith)
    go (some x) v = cc

listed_more : (l t : List ℕ) (n at : ℕ) → Listed l t (suc n) at ≡ (((ds : Items) (q k : ℕ) → read_declarators l (at + 2) 1 ≡ got ds q k → get_or t at 0 ≡ q) × Listed l t n (get_or t at 0))
unfolding Listed
listed_more l t n at = refl

pub record Lists (l ends seen : List ℕ) (left at : ℕ) (v : Told) : Type 0 where
  pub met : List ℕ
  pub known : Notes seen met
  pub will : run_entries l left at met ≡ v
  pub table : (ends' : List ℕ) → ((x : ℕ) → x < at → get_or ends' x 0 ≡ get_or ends x 0) → Listed l ends' left at → Listed l ends' (wide_at l 0) 2

pub record Listing (l fs₀ seen₀ ends₀ fs seen ends : List ℕ) (left at : ℕ) : Type 0 where
  pub same₁ : length fs ≡ length fs₀
  pub same₂ : length seen ≡ length seen₀
  pub same₃ : length ends ≡ length ends₀
  pub low : 2 ≤ at
  pub high : at ≤ length l
  pub lists : (met : List ℕ) → Notes seen₀ met → 16384 ≤ length fs₀ → length l ≤ 16384 → 16384 ≤ length ends₀ → Lists l ends seen left at (run_head l met)

pub listing_start : (l fs seen ends : List ℕ) (n : ℕ) → n ≡ wide_at l 0 → n ≤ 65535 → 0 + 1 < length l → Listing l fs seen ends fs seen ends n 2
unfolding run_head
listing_start l fs seen ends n w h i = record {
  same₁ = refl;
  same₂ = refl;
  same₃ = refl;
  low = omega arith;
  high = omega arith;
  lists = λ met k a b c. record {
    met = met;
    known = k;
    will = rw (← w, lt-ltb n 65536 (omega arith)) refl;
    table = λ ends' same f. rw (← w) f;
  };
}

pub listing_none : (l : List ℕ) (n : ℕ) (met : List ℕ) → n ≡ wide_at l 0 → 65535 < n → run_head l met ≡ lost
unfolding run_head
listing_none l n met w h = rw (← w, le-ltb n 65536 (omega arith)) refl

module _ (l fs₀ seen₀ ends₀ fs seen ends : List ℕ) (left at : ℕ) (g : Listing l fs₀ seen₀ ends₀ fs seen ends left at) (some : 0 < left) where
  step_first : (n : ℕ) → 0 < n → (met : List ℕ) → run_entries l n at met ≡ cond (ltb (wide_at l at) 65536) (onward (run_declarators l (at + 2) met) (λ q m. run_entries l (n - 1) q m)) lost
  unfolding run_entries
  step_first zero h met = absurd (omega arith)
  step_first (suc n) h met = let d : suc n - 1 ≡ n = omega arith in rw d refl

  pub listing_short : (n : ℕ) → n ≡ wide_at l at → 65535 < n → (met : List ℕ) → Notes seen₀ met → 16384 ≤ length fs₀ → length l ≤ 16384 → 16384 ≤ length ends₀ → run_head l met ≡ lost
  listing_short n w h met k a b c =
      let s : Lists l ends seen left at (run_head l met) = g.lists met k a b c in
      sym s.will ∙ step_first left some s.met ∙ rw (← w, le-ltb n 65536 (omega arith)) refl

  module _ (n : ℕ) (w : n ≡ wide_at l at) (h : n ≤ 65535) where
    pub listing_lost : ((met : List ℕ) → Notes seen met → 16384 ≤ length fs → length l ≤ 32768 → run_declarators l (at + 2) met ≡ lost) → (met : List ℕ) → Notes seen₀ met → 16384 ≤ length fs₀ → length l ≤ 16384 → 16384 ≤ length ends₀ → run_head l met ≡ lost
    listing_lost d met k a b c =
        let s : Lists l ends seen left at (run_head l met) = g.lists met k a b c in
        let e : run_declarators l (at + 2) s.met ≡ lost = d s.met s.known (rw g.same₁ a) (omega arith) in
        sym s.will ∙ step_first left some s.met ∙ rw (← w, lt-ltb n 65536 (omega arith), e) refl

    pub listing_next : (end : ℕ) (fs' seen' ends' : List ℕ) → length fs' ≡ length fs → length seen' ≡ length seen → (at + 2 + 2 ≤ end) × (end ≤ length l) → ((met : List ℕ) → Notes seen met → 16384 ≤ length fs → length l ≤ 32768 → Ended seen' end (run_declarators l (at + 2) met)) → ends' ≡ stored ends at end → length ends' ≡ length ends → (less : ℕ) → less ≡ left - 1 → Listing l fs₀ seen₀ ends₀ fs' seen' ends' less end
    listing_next end fs' seen' ends' k₁ k₂ bounds d put k₃ less z =
        let lo : at + 2 + 2 ≤ end = bounds.0 in
        let hi : end ≤ length l = bounds.1 in
        rw z (record {
          same₁ = k₁ ∙ g.same₁;
          same₂ = k₂ ∙ g.same₂;
          same₃ = k₃ ∙ g.same₃;
          low = omega arith;
          high = hi;
          lists = λ met k a b c.
              let s : Lists l ends seen left at (run_head l met) = g.lists met k a b c in
              let e : Ended seen' end (run_declarators l (at + 2) s.met) = d s.met s.known (rw g.same₁ a) (omega arith) in
              let same : ends' ≡ set ends at end = put ∙ sym (put_in ends at end (omega arith)) in
              let there : at < length ends = let x : length ends ≡ length ends₀ = g.same₃ in omega arith in
              record {
                met = e.met;
                known = e.known;
                will = sym (step_first left some s.met ∙ rw (← w, lt-ltb n 65536 (omega arith), e.is) refl) ∙ s.will;
                table = λ t agree f.
                    s.table t
                    (λ x below. agree x (omega arith) ∙ ap (λ (z : List ℕ). get_or z x 0) same ∙ get_or-set_other ends at x end 0 (λ y. omega arith))
                    (whole left t (agree at (omega arith) ∙ ap (λ (z : List ℕ). get_or z at 0) same ∙ get_or-set_same ends at end 0 there) (told_end l (at + 2) s.met e.met end e.is) some f);
              };
        })
      where
        whole : (n : ℕ) (t : List ℕ) → get_or t at 0 ≡ end → ((ds : Items) (q k : ℕ) → read_declarators l (at + 2) 1 ≡ got ds q k → end ≡ q) → 0 < n → Listed l t (n - 1) end → Listed l t n at
        whole zero t is so z f = absurd (omega arith)
        whole (suc n) t is so z f = let d : suc n - 1 ≡ n = omega arith in rw (listed_more l t n at, is) (so, rw d at f)

pub listing_ends : (l fs₀ seen₀ ends₀ fs seen ends : List ℕ) (left at : ℕ) → Listing l fs₀ seen₀ ends₀ fs seen ends left at → left ≤ 0 → (met : List ℕ) → Notes seen₀ met → 16384 ≤ length fs₀ → length l ≤ 16384 → 16384 ≤ length ends₀ → Ended seen at (run_head l met) × Listed l ends (wide_at l 0) 2
unfolding run_entries Listed
listing_ends l fs₀ seen₀ ends₀ fs seen ends zero at g z met k a b c =
    let s : Lists l ends seen 0 at (run_head l met) = g.lists met k a b c in
    (record { met = s.met; is = sym s.will; known = s.known }, s.table ends (λ x h. refl) tt)
listing_ends l fs₀ seen₀ ends₀ fs seen ends (suc left) at g z met k a b c = absurd (omega arith)

-- ---- all of it

module _ (l : List ℕ) where
  pub list_long : 16384 < length l → (met : List ℕ) → run_list l met ≡ lost
  unfolding run_list
  list_long h met = rw (lt-leb (length l) longest_list h) refl

  pub list_lost : length l ≤ 16384 → (met : List ℕ) → run_head l met ≡ lost → run_list l met ≡ lost
  unfolding run_list
  list_lost h met e = rw (le-leb (length l) longest_list h, e) refl

  module _ (h : length l ≤ 16384) (met : List ℕ) (seen : List ℕ) (at : ℕ) (first : Ended seen at (run_head l met)) where
    pub list_last_lost : run_declarators l at first.met ≡ lost → run_list l met ≡ lost
    unfolding run_list
    list_last_lost e = rw (le-leb (length l) longest_list h, first.is, e) refl

    pub list_short : (seen' : List ℕ) (end : ℕ) → Ended seen' end (run_declarators l at first.met) → (end ≡ length l → ⊥) → run_list l met ≡ lost
    unfolding run_list
    list_short seen' end e d = rw (le-leb (length l) longest_list h, first.is, e.is, ne_eqb end (length l) d) refl

    pub list_whole : (seen' : List ℕ) (end : ℕ) → Ended seen' end (run_declarators l at first.met) → end ≡ length l → Ended seen' at (run_list l met)
    unfolding run_list
    list_whole seen' end e d = record { met = e.met; is = rw (le-leb (length l) longest_list h, first.is, e.is, eq-eqb end (length l) d) refl; known = e.known }

-- ---- an answer by its number and values

pub answers_at : {q : ℕ} {seen : List ℕ} {v : Told} → Ended seen q v → Answers (Some q) seen v
answers_at e = record { number = sym (ap told_number e.is); values = e }

pub answers_lost : {seen : List ℕ} {v : Told} → v ≡ lost → Answers None seen v
answers_lost e = record { number = sym (ap told_number e); values = tt }

pub none_within : (r : prelude.Option ℕ) (low size : ℕ) → r ≡ None → Within r low size
none_within r low size e = rw e tt

pub none_answers : (r : prelude.Option ℕ) (seen : List ℕ) (v : Told) → r ≡ None → v ≡ lost → Answers r seen v
none_answers r seen v e w = rw e (answers_lost w)

pub none_if : (r : prelude.Option ℕ) (A : Type 0) → r ≡ None → IfAt r A
none_if r A e = rw e tt

pub at_within : (r : prelude.Option ℕ) (q low size : ℕ) → r ≡ Some q → Within r low size → (low ≤ q) × (q ≤ size)
at_within r q low size e w = rw e at w

pub at_ends : (r : prelude.Option ℕ) (q : ℕ) (seen : List ℕ) (v : Told) → r ≡ Some q → Answers r seen v → Ended seen q v
at_ends r q seen v e w = (rw e at w).values

pub missing_ends : (r : prelude.Option ℕ) (seen : List ℕ) (v : Told) → r ≡ None → Answers r seen v → v ≡ lost
missing_ends r seen v e w = go v (rw e at w).number
  where
    go : (v : Told) → ending_number None ≡ told_number v → v ≡ lost
    go lost z = refl
    go (told q m) z = absurd (omega arith)

pub at_then : (r : prelude.Option ℕ) (q : ℕ) (A : Type 0) → r ≡ Some q → IfAt r A → A
at_then r q A e w = rw e at w
