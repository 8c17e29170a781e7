use mathlib.Core.Path.{◌≡◌, refl, ◌∙◌}
use borrow.Author.Rules.{rules}
use Rattle.std.specs.Prelude.{None}
use Prim.Native.Nat.{◌%◌}
use lib.Dec.{eqb}
use native.Mathlib.Omega.{arith}
use Rattle.rewritten.proofs.Moves as moves
use Rattle.rewritten.proofs.MarksReader as reader
use Rattle.rewritten.proofs.Tasks as task
use Rattle.printer.proofs.Recording as law
use Rattle.printer.proofs.Meeting as meet
use Rattle.printer.proofs.record.record.Goals as goal
use Rattle.printer.proofs.record.record.Goals.{else-class-gt2, then-class-gt2+else-class-lt5+else-class-eq6+else-class-lt10}

pub returns-then-tree-gt32768 : goal.returns-then-tree-gt32768
returns-then-tree-gt32768 c = λ _ _ _ _ _ _ _ _. law.recorded_no _ _ (reader.too_long c.args.tree.now c.if-tree-gt32768.true)

pub loop-count-init : goal.loop-count-init
loop-count-init c = (
  rw c.begin-cursor.ensures (omega arith),
  rw c.begin-cursor.ensures (omega arith),
  refl,
  refl,
  refl,
  refl,
  λ p. record {
    reading = reader.reading_start c.args.tree.now c.args.frames.now c.args.seen.now c.if-tree-gt32768.false p.marks p.clean _ c.begin-cursor.ensures;
    recording = law.recording_start c.args.tree.now c.args.frames.now c.args.stack.now c.args.log.now c.if-tree-gt32768.false p.depths p.numbers _ c.begin-cursor.ensures;
  },
)

pub returns-then-at-tree : goal.returns-then-at-tree
returns-then-at-tree c = λ a b d e f h i j. let x = c.loop-count.invariant.6 (record { kinds = a; fields = b; bits = d; enough = e; marks = f; clean = h; depths = i; numbers = j }) in law.recorded_yes _ _ _ _ _ _ x.reading (moves.found_true c.is_closed.ensures c.if-is_closed.true) _ _ _ x.recording c.if-deep-eq0.true refl c.if-at-tree.true

pub returns-else-at-tree : goal.returns-else-at-tree
returns-else-at-tree c = λ a b d e f h i j. let x = c.loop-count.invariant.6 (record { kinds = a; fields = b; bits = d; enough = e; marks = f; clean = h; depths = i; numbers = j }) in law.recorded_no _ _ (law.ends_early _ _ _ _ _ _ x.reading (moves.found_true c.is_closed.ensures c.if-is_closed.true) c.if-deep-eq0.true c.if-at-tree.false)

pub loop-count-preserved-then-is_closed : goal.loop-count-preserved-then-is_closed
loop-count-preserved-then-is_closed c = (
  c.loop-count.invariant.0,
  (omega (arith, c.loop-count.invariant.1, c.if-deep-eq0.false)),
  c.loop-count.invariant.2,
  c.loop-count.invariant.3,
  c.loop-count.invariant.4,
  c.keep_entry.auto.numbers ∙ c.loop-count.invariant.5,
  λ p.
      let x = c.loop-count.invariant.6 p in
      meet.next_as _ _ refl refl refl (c.keep_entry.ensures (meet.closing_fits (eqb (c.loop-count.cursor.top % 2) 0) _ c.closing.ensures)) (meet.closed_goes _ _ _ _ _ _ _ _ _ x.reading x.recording p.enough c.loop-count.invariant.1 (moves.found_true c.is_closed.ensures c.if-is_closed.true) c.if-deep-eq0.false _ c.frame_at.ensures _ c.closing.ensures),
)

pub returns-in_err-cursor : goal.returns-in_err-cursor
returns-in_err-cursor c = λ a b d e f h i j. let p : meet.Lent _ _ _ _ _ _ _ = record { kinds = a; fields = b; bits = d; enough = e; marks = f; clean = h; depths = i; numbers = j } in let x = c.loop-count.invariant.6 p in let y : c.from_residual.result ≡ None = search rules in rw y (law.recorded_no _ _ (meet.node_refused _ _ _ _ _ _ _ _ _ x.reading x.recording p.enough c.loop-count.invariant.1 (moves.found_true c.is_closed.ensures c.if-is_closed.false) _ c.rest_of-rest.ensures _ _ _ _ _ c.place_next-place.ensures c.if-place-lt33.true (c.node_met.ensures.0 p.kinds p.fields p.bits (omega (arith, c.loop-count.invariant.0, c.loop-count.invariant.1, c.if-tree-gt32768.false))) c.in_err-cursor.was))

pub loop-count-preserved-then-place-lt33 : goal.loop-count-preserved-then-place-lt33
loop-count-preserved-then-place-lt33 c = let h = rw c.in_ok-cursor.was at c.node_met.ensures.1 in (h.0, omega (arith, h.1, c.loop-count.invariant.1), c.node_met.auto.frames ∙ c.loop-count.invariant.2, c.loop-count.invariant.3, c.node_met.auto.stack ∙ c.loop-count.invariant.4, c.node_met.auto.log ∙ c.loop-count.invariant.5, λ p. let x = c.loop-count.invariant.6 p in meet.node_goes _ _ _ _ _ _ _ _ _ x.reading x.recording p.enough c.loop-count.invariant.1 (moves.found_true c.is_closed.ensures c.if-is_closed.false) _ c.rest_of-rest.ensures _ _ _ _ _ c.place_next-place.ensures c.if-place-lt33.true (c.node_met.ensures.0 p.kinds p.fields p.bits (omega (arith, c.loop-count.invariant.0, c.loop-count.invariant.1, c.if-tree-gt32768.false))) _ c.in_ok-cursor.was)

pub loop-count-smaller-then-top-eq1 : goal.loop-count-smaller-then-top-eq1
loop-count-smaller-then-top-eq1 c = let h = task.hole_ends _ _ _ _ _ (task.next_hole _ _ _ (moves.found_true c.is_closed.ensures c.if-is_closed.false) _ c.place_next-place.ensures c.if-place-lt33.false c.if-top-eq1.true) refl in (omega arith)

pub loop-count-preserved-then-top-eq1 : goal.loop-count-preserved-then-top-eq1
loop-count-preserved-then-top-eq1 c = let h = task.hole_ends _ _ _ _ _ (task.next_hole _ _ _ (moves.found_true c.is_closed.ensures c.if-is_closed.false) _ c.place_next-place.ensures c.if-place-lt33.false c.if-top-eq1.true) refl in (h, (omega (arith, c.loop-count.invariant.1)), c.loop-count.invariant.2, c.loop-count.invariant.3, c.loop-count.invariant.4, c.keep_entry-then-top-eq1.auto.numbers ∙ c.loop-count.invariant.5, λ p. let x = c.loop-count.invariant.6 p in meet.next_as _ _ refl refl refl (c.keep_entry-then-top-eq1.ensures (omega arith)) (meet.hole_goes _ _ _ _ _ _ _ _ _ x.reading x.recording p.enough c.loop-count.invariant.1 (moves.found_true c.is_closed.ensures c.if-is_closed.false) _ c.rest_of-rest.ensures (task.next_hole _ _ _ (moves.found_true c.is_closed.ensures c.if-is_closed.false) _ c.place_next-place.ensures c.if-place-lt33.false c.if-top-eq1.true)))

pub returns-in_err-cursor-2 : goal.returns-in_err-cursor-2
returns-in_err-cursor-2 c = λ a b d e f h i j. let p : meet.Lent _ _ _ _ _ _ _ = record { kinds = a; fields = b; bits = d; enough = e; marks = f; clean = h; depths = i; numbers = j } in let x = c.loop-count.invariant.6 p in let y : c.from_residual-in_err-cursor-2.result ≡ None = search rules in rw y (law.recorded_no _ _ (meet.text_refused _ _ _ _ _ _ _ _ _ x.reading x.recording p.enough c.loop-count.invariant.1 (moves.found_true c.is_closed.ensures c.if-is_closed.false) _ c.rest_of-rest.ensures _ _ c.if-top-eq1.false c.if-class-eq5.true c.text_met.ensures.0 c.in_err-cursor-2.was))

pub loop-count-preserved-then-class-eq5 : goal.loop-count-preserved-then-class-eq5
loop-count-preserved-then-class-eq5 c = let h = rw c.in_ok-cursor-2.was at c.text_met.ensures.1 in (h.0, omega (arith, h.1, c.loop-count.invariant.1), c.loop-count.invariant.2, c.loop-count.invariant.3, c.loop-count.invariant.4, c.text_met.auto.log ∙ c.loop-count.invariant.5, λ p. let x = c.loop-count.invariant.6 p in meet.text_goes _ _ _ _ _ _ _ _ _ x.reading x.recording p.enough c.loop-count.invariant.1 (moves.found_true c.is_closed.ensures c.if-is_closed.false) _ c.rest_of-rest.ensures _ _ c.if-top-eq1.false c.if-class-eq5.true c.text_met.ensures.0 _ c.in_ok-cursor-2.was)

pub returns-in_err-cursor-3 : goal.returns-in_err-cursor-3
returns-in_err-cursor-3 c = λ a b d e f h i j. let p : meet.Lent _ _ _ _ _ _ _ = record { kinds = a; fields = b; bits = d; enough = e; marks = f; clean = h; depths = i; numbers = j } in let x = c.loop-count.invariant.6 p in let y : c.from_residual-in_err-cursor-3.result ≡ None = search rules in rw y (law.recorded_no _ _ (meet.list_refused _ _ _ _ _ _ _ _ _ x.reading x.recording p.enough c.loop-count.invariant.1 (moves.found_true c.is_closed.ensures c.if-is_closed.false) _ c.rest_of-rest.ensures _ _ _ _ c.if-top-eq1.false c.if-class-gt2.true c.if-class-lt5.true _ refl (c.list_met.ensures.0 (omega (arith, c.loop-count.invariant.0, c.loop-count.invariant.1, c.if-tree-gt32768.false))) c.in_err-cursor-3.was))

pub loop-count-preserved-then-class-lt5 : goal.loop-count-preserved-then-class-lt5
loop-count-preserved-then-class-lt5 c = let h = rw c.in_ok-cursor-3.was at c.list_met.ensures.1 in (h.0, omega (arith, h.1, c.loop-count.invariant.1), c.list_met.auto.frames ∙ c.loop-count.invariant.2, c.loop-count.invariant.3, c.list_met.auto.stack ∙ c.loop-count.invariant.4, c.list_met.auto.log ∙ c.loop-count.invariant.5, λ p. let x = c.loop-count.invariant.6 p in meet.list_goes _ _ _ _ _ _ _ _ _ x.reading x.recording p.enough c.loop-count.invariant.1 (moves.found_true c.is_closed.ensures c.if-is_closed.false) _ c.rest_of-rest.ensures _ _ _ _ c.if-top-eq1.false c.if-class-gt2.true c.if-class-lt5.true _ refl (c.list_met.ensures.0 (omega (arith, c.loop-count.invariant.0, c.loop-count.invariant.1, c.if-tree-gt32768.false))) _ c.in_ok-cursor-3.was)

pub returns-in_err-cursor-4 : goal.returns-in_err-cursor-4
returns-in_err-cursor-4 c = λ a b d e f h i j. let p : meet.Lent _ _ _ _ _ _ _ = record { kinds = a; fields = b; bits = d; enough = e; marks = f; clean = h; depths = i; numbers = j } in let x = c.loop-count.invariant.6 p in let y : c.from_residual-in_err-cursor-4.result ≡ None = search rules in rw y (law.recorded_no _ _ (meet.mark_refused _ _ _ _ _ _ _ _ _ x.reading x.recording p.enough c.loop-count.invariant.1 (moves.found_true c.is_closed.ensures c.if-is_closed.false) _ c.rest_of-rest.ensures _ _ _ c.if-top-eq1.false c.if-class-eq6.true c.mark_met.ensures.0 c.in_err-cursor-4.was))

pub loop-count-preserved-then-class-eq6 : goal.loop-count-preserved-then-class-eq6
loop-count-preserved-then-class-eq6 c = let h = rw c.in_ok-cursor-4.was at c.mark_met.ensures.1 in (h.0, omega (arith, h.1, c.loop-count.invariant.1), c.loop-count.invariant.2, c.mark_met.auto.seen ∙ c.loop-count.invariant.3, c.loop-count.invariant.4, c.mark_met.auto.log ∙ c.loop-count.invariant.5, λ p. let x = c.loop-count.invariant.6 p in meet.mark_goes _ _ _ _ _ _ _ _ _ x.reading x.recording p.enough c.loop-count.invariant.1 (moves.found_true c.is_closed.ensures c.if-is_closed.false) _ c.rest_of-rest.ensures _ _ _ c.if-top-eq1.false c.if-class-eq6.true c.mark_met.ensures.0 _ c.in_ok-cursor-4.was)

pub returns-in_err-cursor-5 : goal.returns-in_err-cursor-5
returns-in_err-cursor-5 c = λ a b d e f h i j. let p : meet.Lent _ _ _ _ _ _ _ = record { kinds = a; fields = b; bits = d; enough = e; marks = f; clean = h; depths = i; numbers = j } in let x = c.loop-count.invariant.6 p in let y : c.from_residual-in_err-cursor-5.result ≡ None = search rules in rw y (law.recorded_no _ _ (meet.byte_refused _ _ _ _ _ _ _ _ _ x.reading x.recording p.enough c.loop-count.invariant.1 (moves.found_true c.is_closed.ensures c.if-is_closed.false) _ c.rest_of-rest.ensures _ _ c.if-top-eq1.false (omega (arith, c.if-class-eq5.false, c.if-class-lt5.false, c.if-class-eq6.false)) c.if-class-lt10.true c.byte_met.ensures.0 c.in_err-cursor-5.was))

pub loop-count-preserved-then-class-lt10 : goal.loop-count-preserved-then-class-lt10
loop-count-preserved-then-class-lt10 c = let h = rw c.in_ok-cursor-5.was at c.byte_met.ensures.1 in (h.0, omega (arith, h.1, c.loop-count.invariant.1), c.loop-count.invariant.2, c.loop-count.invariant.3, c.loop-count.invariant.4, c.byte_met.auto.log ∙ c.loop-count.invariant.5, λ p. let x = c.loop-count.invariant.6 p in meet.byte_goes _ _ _ _ _ _ _ _ _ x.reading x.recording p.enough c.loop-count.invariant.1 (moves.found_true c.is_closed.ensures c.if-is_closed.false) _ c.rest_of-rest.ensures _ _ c.if-top-eq1.false (omega (arith, c.if-class-eq5.false, c.if-class-lt5.false, c.if-class-eq6.false)) c.if-class-lt10.true c.byte_met.ensures.0 _ c.in_ok-cursor-5.was)

pub returns-in_err-cursor-6 : goal.returns-in_err-cursor-6
returns-in_err-cursor-6 c = λ a b d e f h i j. let p : meet.Lent _ _ _ _ _ _ _ = record { kinds = a; fields = b; bits = d; enough = e; marks = f; clean = h; depths = i; numbers = j } in let x = c.loop-count.invariant.6 p in let y : c.from_residual-in_err-cursor-6.result ≡ None = search rules in rw y (law.recorded_no _ _ (meet.number_refused _ _ _ _ _ _ _ _ _ x.reading x.recording p.enough c.loop-count.invariant.1 (moves.found_true c.is_closed.ensures c.if-is_closed.false) _ c.rest_of-rest.ensures _ _ _ c.place_next-place.ensures c.if-place-lt33.false c.if-top-eq1.false (λ y. (elim c.if-class-gt2.branch [ then-class-gt2+else-class-lt5+else-class-eq6+else-class-lt10 w ↦ omega (arith, w.if-class-lt10.false) | else-class-gt2 w ↦ omega (arith, y, w.if-class-gt2.false) ])) c.number_met.ensures.0 c.in_err-cursor-6.was))

pub loop-count-preserved : goal.loop-count-preserved
loop-count-preserved c = let h = rw c.in_ok-cursor-6.was at c.number_met.ensures.1 in (h.0, omega (arith, h.1, c.loop-count.invariant.1), c.loop-count.invariant.2, c.loop-count.invariant.3, c.loop-count.invariant.4, c.number_met.auto.log ∙ c.loop-count.invariant.5, λ p. let x = c.loop-count.invariant.6 p in meet.number_goes _ _ _ _ _ _ _ _ _ x.reading x.recording p.enough c.loop-count.invariant.1 (moves.found_true c.is_closed.ensures c.if-is_closed.false) _ c.rest_of-rest.ensures _ _ _ c.place_next-place.ensures c.if-place-lt33.false c.if-top-eq1.false (λ y. (elim c.if-class-gt2.branch [ then-class-gt2+else-class-lt5+else-class-eq6+else-class-lt10 w ↦ omega (arith, w.if-class-lt10.false) | else-class-gt2 w ↦ omega (arith, y, w.if-class-gt2.false) ])) c.number_met.ensures.0 _ c.in_ok-cursor-6.was)
