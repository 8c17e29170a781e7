-- A step of one side: its next event with the place, and what is to come then.
-- Assumes nothing.
use mathlib.Core.Path.{◌≡◌, refl, sym, ap, ap₂, subst, ◌∙◌}
use mathlib.Core.Bool.{Bool, true, false}
use mathlib.Core.List.{List, [], ◌∷◌}
use Prim.Native.Nat.{ℕ, suc, ◌+◌, ◌-◌, ◌<◌, ◌≤◌}
use native.Mathlib.Omega.{arith}
use lib.ListN.{length, get_or}
use Rattle.tree.specs.Tree.{Node}
use Rattle.tree.specs.Grammar.Stage.{rewritten}
use Rattle.tree.specs.Read.{read_tree}
use Rattle.tree.specs.Read.Got.{got}
use Rattle.rewritten.specs.Events.{Event, events}
use Rattle.rewritten.specs.Events.Event.{begins, ends, opens, closes}
use Rattle.rewritten.specs.Steps.{start, event_in, Stands, Took, Onward}
use Rattle.rewritten.specs.declared.step.Cursor.{Cursor}
use Rattle.rewritten.specs.declared.step.Event as told
use Rattle.rewritten.specs.declared.step.Event.TheVariants.{Begins, Ends, Opens, Closes, Hole, Text, Byte, Mark, Number}
use Rattle.rewritten.specs.declared.step.Step.{Step}
use Rattle.rewritten.specs.declared.step.Step.TheVariants.{Next, Done, Refused, Full}
use Rattle.rewritten.proofs.Pass.{coming, onward, Inside, inside_start, inside_next, step_falls, frames_suffice, tour_of_tree, Rest, rest_next, rest_done, rest_refused, stands_on}
use Rattle.equal.specs.Met.{meet}
use Rattle.ordering.specs.Order.{opens_temporary, met_by, placed_by, placed_all}
use Rattle.ordering.specs.Places.{PlacedAs}
use Rattle.ordering.specs.Sides.{Within, number_in, Coming, Moved}
use Rattle.ordering.specs.declared.place.Placed.{Placed}
use Rattle.ordering.specs.declared.side.Side.{Side}
use Rattle.std.specs.declared.option.Option.{Option}
use Rattle.std.specs.declared.option.Option.TheVariants.{Some, None}
use Rattle.ordering.proofs.TablePlaces.{knows_none, place_is, count_is, knows_placed, few_more}

-- ---- events

stands_within : (l : List ℕ) (at : ℕ) (e : told.Event) (q : ℕ) → Stands l at e q → q ≤ length l → Within l e
stands_within l at (Begins p kind map) q s h = tt
stands_within l at Ends q s h = tt
stands_within l at (Opens n) q s h = tt
stands_within l at Closes q s h = tt
stands_within l at Hole q s h = tt
stands_within l at (Text p n) q s h = let w : q ≡ p + n = s.3 in omega arith
stands_within l at (Byte b) q s h = tt
stands_within l at (Mark n) q s h = tt
stands_within l at (Number n) q s h = tt

abbrev held : Option ℕ → ℕ
held None = 0
held (Some n) = suc n

-- a number event, by its number
is_number : (l : List ℕ) (e : told.Event) (n : ℕ) → Some n ≡ number_in (event_in l e) → e ≡ Number n
is_number l (Begins p kind map) n w = let z : suc n ≡ 0 = ap held w in absurd (omega arith)
is_number l Ends n w = let z : suc n ≡ 0 = ap held w in absurd (omega arith)
is_number l (Opens m) n w = let z : suc n ≡ 0 = ap held w in absurd (omega arith)
is_number l Closes n w = let z : suc n ≡ 0 = ap held w in absurd (omega arith)
is_number l Hole n w = let z : suc n ≡ 0 = ap held w in absurd (omega arith)
is_number l (Text p m) n w = let z : suc n ≡ 0 = ap held w in absurd (omega arith)
is_number l (Byte b) n w = let z : suc n ≡ 0 = ap held w in absurd (omega arith)
is_number l (Mark m) n w = let z : suc n ≡ 0 = ap held w in absurd (omega arith)
is_number l (Number m) n w = let z : suc n ≡ suc m = ap held w in let e : m ≡ n = omega arith in ap Number e

-- what is no temporary's number stays as it is
record Plain (t : Bool) (numbers : List ℕ) (e : Event) : Type 0 where
  pub stays : placed_by t numbers e ≡ e
  pub none_met : met_by t numbers e ≡ numbers

plain_elsewhere : (numbers : List ℕ) (e : Event) → Plain false numbers e
plain_elsewhere numbers (begins at kind map) = record { stays = refl; none_met = refl }
plain_elsewhere numbers ends = record { stays = refl; none_met = refl }
plain_elsewhere numbers (opens n) = record { stays = refl; none_met = refl }
plain_elsewhere numbers closes = record { stays = refl; none_met = refl }
plain_elsewhere numbers Event.hole = record { stays = refl; none_met = refl }
plain_elsewhere numbers (Event.text bs) = record { stays = refl; none_met = refl }
plain_elsewhere numbers (Event.byte b) = record { stays = refl; none_met = refl }
plain_elsewhere numbers (Event.mark n) = record { stays = refl; none_met = refl }
plain_elsewhere numbers (Event.number n) = record { stays = refl; none_met = refl }

plain_other : (l : List ℕ) (numbers : List ℕ) (e : told.Event) → None ≡ number_in (event_in l e) → Plain true numbers (event_in l e)
plain_other l numbers (Begins p kind map) h = record { stays = refl; none_met = refl }
plain_other l numbers Ends h = record { stays = refl; none_met = refl }
plain_other l numbers (Opens n) h = record { stays = refl; none_met = refl }
plain_other l numbers Closes h = record { stays = refl; none_met = refl }
plain_other l numbers Hole h = record { stays = refl; none_met = refl }
plain_other l numbers (Text p n) h = record { stays = refl; none_met = refl }
plain_other l numbers (Byte b) h = record { stays = refl; none_met = refl }
plain_other l numbers (Mark n) h = record { stays = refl; none_met = refl }
plain_other l numbers (Number n) h = let z : 0 ≡ suc n = ap held h in absurd (omega arith)

-- ---- a side

-- where it starts
abbrev pub fresh : Cursor → Side
fresh c = record { cursor = c; temporary = false; met = 0 }

pub side_start : (l fs table : List ℕ) (n : Node) (q k : ℕ) → read_tree rewritten (length l) l ≡ got n q k → 16384 ≤ length fs → 65536 ≤ length table → ((x : ℕ) → get_or table x 0 ≡ 0) → (c : Cursor) → c ≡ start → Coming l fs table (fresh c) (placed_all false [] (events n))
side_start l fs table n q k w f t z c e =
    let g = tour_of_tree l fs n q k w in
    rw e (record {
      short = g.0;
      enough = f;
      tour = inside_start l fs;
      numbers = [];
      known = knows_none table t z;
      counted = refl;
      few = omega arith;
      left = events n;
      end = q;
      next = k;
      comes = g.1;
      placed = refl;
    })

-- what stays the same on either way
module _ (l fs later table : List ℕ) (s : Side) (es : List Event) (g : Coming l fs table s es) (same : length later ≡ length fs) (r : Step) (took : Took l fs later (coming l fs s.cursor) s.cursor.at s.cursor.deep r) where
  module _ (e : told.Event) (c : Cursor) (w : r ≡ Next e c) (t : Bool) (opened : (tree : List ℕ) → t ≡ opens_temporary (event_in tree e)) where
    o : Onward l fs later (coming l fs s.cursor) s.cursor.at s.cursor.deep e c
    o = onward l fs later s.cursor r took e c w

    left_rest : Rest (event_in l e) g.left g.end g.next (coming l later c)
    left_rest = rest_next l fs later s.cursor g.left g.end g.next g.comes e c o

    toured : Inside l later c (length later)
    toured = rw same (inside_next l fs later s.cursor (length fs) g.tour e c o same)

    first_placed : placed_by s.temporary g.numbers (event_in l e) ∷ placed_all (opens_temporary (event_in l e)) (met_by s.temporary g.numbers (event_in l e)) left_rest.rest ≡ es
    unfolding placed_all
    first_placed = sym (ap (placed_all s.temporary g.numbers) left_rest.is) ∙ g.placed

    fell : (length l - c.at) + c.deep < (length l - s.cursor.at) + s.cursor.deep
    fell = step_falls l fs later s.cursor (length fs) g.tour e c o

    -- an event that stays as it is
    side_plain : Plain s.temporary g.numbers (event_in l e) → Moved l later table s es (Some (e, record { cursor = c; temporary = t; met = s.met }))
    side_plain p = record {
      so = record {
        rest = placed_all t g.numbers left_rest.rest;
        is =
            sym first_placed
            ∙ ap₂ (λ (x : Event) (ms : List ℕ). x ∷ placed_all (opens_temporary (event_in l e)) ms left_rest.rest) p.stays p.none_met
            ∙ ap (λ (b : Bool). event_in l e ∷ placed_all b g.numbers left_rest.rest) (sym (opened l));
        then = record {
          short = g.short;
          enough = rw same g.enough;
          tour = toured;
          numbers = g.numbers;
          known = g.known;
          counted = g.counted;
          few = let a : s.cursor.at ≤ c.at = stands_on l s.cursor.at e c.at o.stands in let b : length g.numbers ≤ s.cursor.at = g.few in omega arith;
          left = left_rest.rest;
          end = g.end;
          next = g.next;
          comes = left_rest.comes;
          placed = refl;
        };
        within = stands_within l s.cursor.at e c.at o.stands (o.inside g.tour.inside);
        falls = fell;
      };
    }

    pub side_elsewhere : s.temporary ≡ false → Moved l later table s es (Some (e, record { cursor = c; temporary = t; met = s.met }))
    side_elsewhere h = side_plain (subst (λ (b : Bool). Plain b g.numbers (event_in l e)) (sym h) (plain_elsewhere g.numbers (event_in l e)))

    pub side_other : s.temporary ≡ true → ((tree : List ℕ) → None ≡ number_in (event_in tree e)) → Moved l later table s es (Some (e, record { cursor = c; temporary = t; met = s.met }))
    side_other h is = side_plain (subst (λ (b : Bool). Plain b g.numbers (event_in l e)) (sym h) (plain_other l g.numbers e (is l)))

    -- the number of a temporary
    pub side_number : s.temporary ≡ true → (n : ℕ) → ((tree : List ℕ) → Some n ≡ number_in (event_in tree e)) → (after : List ℕ) (placed : Placed) → (s.met < 65535 → PlacedAs table after s.met n placed) → Moved l later after s es (Some (Number placed.place, record { cursor = c; temporary = t; met = placed.met }))
    side_number h n is after placed p =
        let e-is : e ≡ Number n = is_number l e n (is l) in
        let b : length g.numbers ≤ s.cursor.at = g.few in
        let k : s.met ≡ length g.numbers = g.counted in
        let i : s.cursor.at ≤ length l = g.tour.inside in
        let m : length l ≤ 32768 = g.short in
        let now : PlacedAs table after s.met n placed = p (omega arith) in
        let st : Stands l s.cursor.at (Number n) c.at = subst (λ (x : told.Event). Stands l s.cursor.at x c.at) e-is o.stands in
        let small : n < 65536 = st.1 in
        let d : c.at ≡ s.cursor.at + 2 = st.2 in
        let v : length (meet g.numbers n) ≤ suc (length g.numbers) = few_more table g.numbers g.known n s.met small k after placed now in
        record {
          so = record {
            rest = placed_all t (meet g.numbers n) left_rest.rest;
            is =
                sym first_placed
                ∙ ap (λ (x : Bool). placed_by x g.numbers (event_in l e) ∷ placed_all (opens_temporary (event_in l e)) (met_by x g.numbers (event_in l e)) left_rest.rest) h
                ∙ ap (λ (x : Bool). placed_by true g.numbers (event_in l e) ∷ placed_all x (met_by true g.numbers (event_in l e)) left_rest.rest) (sym (opened l))
                ∙ ap (λ (x : told.Event). placed_by true g.numbers (event_in l x) ∷ placed_all t (met_by true g.numbers (event_in l x)) left_rest.rest) e-is
                ∙ ap (λ (x : ℕ). Event.number x ∷ placed_all t (meet g.numbers n) left_rest.rest) (sym (place_is table g.numbers g.known n s.met small k after placed now));
            then = record {
              short = g.short;
              enough = rw same g.enough;
              tour = toured;
              numbers = meet g.numbers n;
              known = knows_placed table g.numbers g.known n s.met small k after placed now;
              counted = count_is table g.numbers g.known n s.met small k after placed now;
              few = omega arith;
              left = left_rest.rest;
              end = g.end;
              next = g.next;
              comes = left_rest.comes;
              placed = refl;
            };
            within = tt;
            falls = fell;
          };
        }

  -- nothing is left
  pub side_done : r ≡ Done → Moved l later table s es None
  unfolding placed_all
  side_done w = record { so = sym g.placed ∙ ap (placed_all s.temporary g.numbers) (rest_done l fs later s.cursor g.left g.end g.next g.comes r took w) }

  -- a tree that was read is not refused, and has frames enough
  pub side_refused : r ≡ Refused → Moved l later table s es None
  side_refused w = absurd (rest_refused l fs later s.cursor g.left g.end g.next g.comes r took w)

  pub side_full : r ≡ Full → Moved l later table s es None
  side_full w = absurd (frames_suffice l fs later s.cursor (length fs) g.tour r took w g.short g.enough)
