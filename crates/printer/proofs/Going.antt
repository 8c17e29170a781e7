-- The second pass in code: its loop.
-- Assumes nothing.
use mathlib.Core.Path.{◌≡◌, refl, sym, ap, ◌∙◌}
use mathlib.Core.List.{List, [], ◌∷◌, ◌++◌, append-nil, append_assoc}
use Prim.Native.Nat.{ℕ, suc, ◌+◌, ◌*◌, ◌/◌, ◌%◌, ◌<◌, ◌≤◌}
use native.Mathlib.Omega.{arith}
use native.Mathlib.Numerals.{add-one}
use lib.ListN.{length, get_or}
use Rattle.tree.specs.Tree.{Node}
use Rattle.printer.specs.Text.{text_of, outside}
use Rattle.printer.specs.Entries.{Entry}
use Rattle.printer.specs.Machine.{Printing, print, print_all}
use Rattle.printer.specs.Logged.{entries_in, entries_to, deep_by, deep_to, bytes_by, bytes_to, Allowed, Sound, Logged}
use Rattle.printer.specs.Stacks.{packed_frame, opens_in, held_in, Buffer, write, buffer_in}
use Rattle.printer.specs.Turns.{state_in, unwritten, start, empty, Ready, count_by, Turned}
use Rattle.printer.specs.declared.print.State.{State}
use Rattle.printer.proofs.ArraysHeld.{unpacked}
use Rattle.printer.proofs.Fold.{at, print_all_append, text_led}
use Rattle.printer.proofs.PiecesWritten.{write_append}
use Rattle.printer.proofs.StepTurns.{same_state, by_code}

-- ---- what was written stands before what is to be written

step_out : (t : Printing) (e : Entry) → (print t e).out ≡ t.out ++ (print (unwritten t) e).out
unfolding print
step_out t (Entry.node kind map note) = refl
step_out t Entry.ends = refl
step_out t (Entry.opens n) = refl
step_out t Entry.closes = refl
step_out t Entry.hole = refl
step_out t (Entry.text bs) = refl
step_out t Entry.quiet = sym (append-nil t.out)
step_out t (Entry.number n) = refl

step_rest : (t : Printing) (e : Entry) → unwritten (print t e) ≡ unwritten (print (unwritten t) e)
unfolding print
step_rest t (Entry.node kind map note) = refl
step_rest t Entry.ends = refl
step_rest t (Entry.opens n) = refl
step_rest t Entry.closes = refl
step_rest t Entry.hole = refl
step_rest t (Entry.text bs) = refl
step_rest t Entry.quiet = refl
step_rest t (Entry.number n) = refl

steps_rest : (es : List Entry) (t : Printing) → unwritten (print_all t es) ≡ unwritten (print_all (unwritten t) es)
unfolding print_all
steps_rest [] t = refl
steps_rest (e ∷ es) t =
    steps_rest es (print t e)
    ∙ ap (λ (x : Printing). unwritten (print_all x es)) (step_rest t e)
    ∙ sym (steps_rest es (print (unwritten t) e))

steps_out : (es : List Entry) (t : Printing) → (print_all t es).out ≡ t.out ++ (print_all (unwritten t) es).out
unfolding print_all
steps_out [] t = sym (append-nil t.out)
steps_out (e ∷ es) t =
    steps_out es (print t e)
    ∙ ap (λ (l : List ℕ). l ++ (print_all (unwritten (print t e)) es).out) (step_out t e)
    ∙ append_assoc t.out (print (unwritten t) e).out (print_all (unwritten (print t e)) es).out
    ∙ ap (λ (x : Printing). t.out ++ ((print (unwritten t) e).out ++ (print_all x es).out)) (step_rest t e)
    ∙ ap (λ (l : List ℕ). t.out ++ l) (sym (steps_out es (print (unwritten t) e)))

-- ---- the loop

-- the state of the pass after the first i numbers
unfoldable pub ran : List ℕ → List ℕ → ℕ → Printing
ran tree log i = print_all (at outside 0 [] [] []) (entries_to tree log i)

pub record Going (tree log stack starts text₀ text : List ℕ) (s : State) (i : ℕ) : Type 0 where
  pub room : 16384 ≤ length stack
  pub quasis : 16384 ≤ length starts
  pub state : state_in tree stack starts s ≡ unwritten (ran tree log i)
  pub wrote : buffer_in text s.spot ≡ write (buffer_in text₀ empty) (ran tree log i).out
  pub level : s.level ≡ deep_to log i
  pub held : 2 * (s.count + s.level) ≤ bytes_to log i

pub going_start : (tree log stack starts text : List ℕ) → 16384 ≤ length stack → 16384 ≤ length starts → (s : State) → s ≡ start → Going tree log stack starts text text s 0
unfolding opens_in held_in ran print_all entries_to write deep_to bytes_to
going_start tree log stack starts text a d s z = rw z (record {
  room = a;
  quasis = d;
  state = same_state (unpacked (packed_frame outside 0) outside 0 refl (record { kind = omega arith; map = omega arith; note = omega arith; how = omega arith; seen = omega arith; rem = omega arith; list = omega arith; next = omega arith })) refl refl;
  wrote = refl;
  level = refl;
  held = omega arith;
})

module _ (tree log stack starts text₀ text : List ℕ) (s : State) (i : ℕ) (g : Going tree log stack starts text₀ text s i) (h : Sound log i) (v : ℕ) (w : v ≡ get_or log i 0) where
  least : bytes_to log i + bytes_by (v % 16) ≤ 32768
  unfolding bytes_to
  least = rw w h.within

  pub few_held : s.count < 65536
  few_held = omega (arith, g.held, least)

  pub ready : Ready stack starts s (v % 16) (v / 16 % 65536)
  ready =
      by_code (λ (c : ℕ). Allowed c (v / 16 % 65536) (deep_to log i) → bytes_to log i + bytes_by c ≤ 32768 → Ready stack starts s c (v / 16 % 65536))
      (record {
        c0 = λ t m. tt;
        c1 = λ t m. omega (arith, g.held, g.room, m);
        c2 = λ t m. omega (arith, g.held, g.room, m);
        c3 = texted;
        c4 = λ t m. tt;
        c5 = λ t m. tt;
        c6 = λ t m. tt;
        c7 = λ t m. tt;
        c8 = λ t m. omega (arith, g.level, t);
        c9 = λ t m. let b : 0 < s.level = omega (arith, g.level, t) in (b, omega (arith, g.held, g.quasis, b, m));
        c10 = texted;
        c11 = texted;
        c12 = texted;
        c13 = texted;
        past = λ k t m. tt;
      })
      (v % 16) (rw w h.allowed) least
    where
      texted : v / 16 % 65536 < 65535 → bytes_to log i + 2 ≤ 32768 → (v / 16 % 65536 < 65535) × (s.count < length starts)
      texted t m = (t, omega (arith, g.held, g.quasis, m))

  goes_held : Ready stack starts s (v % 16) (v / 16 % 65536) → 2 * (count_by (v % 16) s.count + deep_by (v % 16) s.level) ≤ bytes_to log i + bytes_by (v % 16)
  goes_held =
      by_code (λ (c : ℕ). Ready stack starts s c (v / 16 % 65536) → 2 * (count_by c s.count + deep_by c s.level) ≤ bytes_to log i + bytes_by c)
      (record {
        c0 = λ r. omega (arith, g.held);
        c1 = λ r. omega (arith, g.held);
        c2 = λ r. omega (arith, g.held);
        c3 = λ r. omega (arith, g.held);
        c4 = λ r. omega (arith, g.held);
        c5 = λ r. omega (arith, g.held);
        c6 = λ r. omega (arith, g.held);
        c7 = λ r. omega (arith, g.held);
        c8 = λ r. omega (arith, g.held);
        c9 = λ r. omega (arith, g.held, r.0);
        c10 = λ r. omega (arith, g.held);
        c11 = λ r. omega (arith, g.held);
        c12 = λ r. omega (arith, g.held);
        c13 = λ r. omega (arith, g.held);
        past = λ k r. omega (arith, g.held);
      })
      (v % 16)

  bytes_next : bytes_to log (suc i) ≡ bytes_to log i + bytes_by (v % 16)
  unfolding bytes_to
  bytes_next = ap (λ (x : ℕ). bytes_to log i + bytes_by (x % 16)) (sym w)

  deep_next : deep_to log (suc i) ≡ deep_by (v % 16) (deep_to log i)
  unfolding deep_to
  deep_next = ap (λ (x : ℕ). deep_by (x % 16) (deep_to log i)) (sym w)

  ran_next : ran tree log (suc i) ≡ print_all (ran tree log i) (entries_in tree v)
  unfolding ran entries_to
  ran_next =
      print_all_append (at outside 0 [] [] []) (entries_to tree log i) (entries_in tree (get_or log i 0))
      ∙ ap (λ (x : ℕ). print_all (print_all (at outside 0 [] [] []) (entries_to tree log i)) (entries_in tree x)) (sym w)

  pub going_next : (stack' starts' text' : List ℕ) (u : State) → length stack' ≡ length stack → length starts' ≡ length starts → Turned tree stack' starts' (buffer_in text s.spot) (buffer_in text' u.spot) u (print_all (state_in tree stack starts s) (entries_in tree v)) (deep_by (v % 16) s.level) (count_by (v % 16) s.count) → Going tree log stack' starts' text₀ text' u (i + 1)
  going_next stack' starts' text' u b f m =
      let r : Printing = ran tree log i in
      let es : List Entry = entries_in tree v in
      rw (add-one i) (record {
        room = rw b g.room;
        quasis = rw f g.quasis;
        state =
            m.state
            ∙ ap (λ (x : Printing). unwritten (print_all x es)) g.state
            ∙ sym (steps_rest es r)
            ∙ sym (ap (λ (x : Printing). unwritten x) ran_next);
        wrote =
            m.wrote
            ∙ ap (λ (x : Printing). write (buffer_in text s.spot) (print_all x es).out) g.state
            ∙ ap (λ (x : Buffer). write x (print_all (unwritten r) es).out) g.wrote
            ∙ sym (write_append (buffer_in text₀ empty) r.out (print_all (unwritten r) es).out)
            ∙ ap (write (buffer_in text₀ empty)) (sym (steps_out es r))
            ∙ sym (ap (λ (x : Printing). write (buffer_in text₀ empty) x.out) ran_next);
        level = m.level ∙ ap (deep_by (v % 16)) g.level ∙ sym deep_next;
        held = omega (arith, goes_held ready, m.count, m.level, bytes_next);
      })

pub going_done : (tree log stack starts text₀ text : List ℕ) (s : State) (i count : ℕ) → Going tree log stack starts text₀ text s i → i ≡ count → (t : Node) → Logged tree log count t → buffer_in text s.spot ≡ write (buffer_in text₀ empty) (text_of t)
unfolding ran
going_done tree log stack starts text₀ text s i count g e t w =
    g.wrote
    ∙ ap (write (buffer_in text₀ empty))
    (ap (λ (j : ℕ). (print_all (at outside 0 [] [] []) (entries_to tree log j)).out) e
    ∙ ap (λ (es : List Entry). (print_all (at outside 0 [] [] []) es).out) w.entries
    ∙ text_led t)
