-- The overlay law of the lowering.
-- Assumes nothing.
use mathlib.Core.Path.{◌≡◌, refl, sym, ap, ◌∙◌}
use mathlib.Core.Bool.{Bool, true, false, cond, ◌&&◌}
use mathlib.Core.List.{List, ◌++◌, append_assoc, append-nil}
use Prim.Native.Nat.{ℕ}
use Rattle.tree.specs.Tree.{Node, Items, marks, marks_items}
use Rattle.tree.specs.Tree.Items.{none, hole, item}
use Rattle.lowering.specs.Parts.{is, node_at_of, items_at_of, number_at, piece_in, is_empty, only, any, ◌+++◌}
use Rattle.lowering.specs.Made.{Context}
use Rattle.lowering.specs.Made.{S}
use Rattle.lowering.specs.Literals.{opened, closed, scan, literal}
use Rattle.lowering.specs.Literals.Call.{no_call, call}
use Rattle.lowering.specs.Collect.{Name}
use Rattle.overlay.specs.Objects.{Value, Props}
use Rattle.overlay.specs.Objects.Props.{empty}
use Rattle.overlay.specs.Run.{Step, History, Outside, Out, Entry, then, made, put_entry, makes, keyed, defined, is_blank, run, lay, lay_all, copy}
use Rattle.overlay.specs.Run.Step.{evaluates, names}
use Rattle.overlay.specs.Run.Out.{ok, threw, beyond, stuck}
use Rattle.overlay.specs.Run.Entry.{pair}
use Rattle.overlay.specs.Plain.{free, free_items, is_foreign, given, plain, plain_parts, plain_part}
use Rattle.overlay.specs.Law.{Fair, literal_of, lay_on, Overlay, Faithful}
use Rattle.overlay.specs.Whole.{leaves}
use Rattle.overlay.proofs.PropertiesInTurn.{then_each, run_literal, run_scan, lay_append}
use Rattle.overlay.proofs.Plainly.{Plain, PlainParts, PlainPart, no_part, next_part, spread, property, property_of, plain_rule}
use Rattle.overlay.proofs.LiteralsLowered.{lower, lower_items, lower_opaque, plain_turns}
use Rattle.lowering.proofs.Cases.{by_test, and_left, and_right}
use Rattle.lowering.proofs.Clauses.{scan_spread, scan_other}

-- ---- what is lowered is the literal `{}` where it was, and nowhere else

blank_call : (xs pend ps : Items) → is_blank (scan (call (S xs)) pend ps) ≡ false
unfolding scan closed is_blank is
blank_call xs none none = refl
blank_call xs (hole qs) none = refl
blank_call xs (item q qs) none = refl
blank_call xs pend (hole ps) = blank_call xs pend ps
blank_call xs pend (item p ps) =
    by_test (is 26 p)
    (λ e. ap is_blank (scan_spread (call (S xs)) pend p ps e) ∙ blank_call (opened (call (S xs)) pend +++ only (node_at_of 0 p)) none ps)
    (λ e. ap is_blank (scan_other (call (S xs)) pend p ps e) ∙ blank_call xs (pend +++ only p) ps)

-- a property is pending, or comes
abbrev Some : Items → Items → Type 0
Some pend none = is_empty pend ≡ false
Some pend (hole ps) = Some pend ps
Some pend (item p ps) = Unit {0}

some_last : (pend : Items) (p : Node) (ps : Items) → Some (pend +++ only p) ps
unfolding is_empty ◌+++◌
some_last none p none = refl
some_last (hole qs) p none = refl
some_last (item q qs) p none = refl
some_last pend p (hole ps) = some_last pend p ps
some_last pend p (item q ps) = tt

blank_scan : (pend ps : Items) → Some pend ps → is_blank (scan no_call pend ps) ≡ false
unfolding scan closed is_blank is items_at_of piece_in
blank_scan pend none e = e
blank_scan pend (hole ps) e = blank_scan pend ps e
blank_scan pend (item p ps) e =
    by_test (is 26 p)
    (λ e. ap is_blank (scan_spread no_call pend p ps e) ∙ blank_call (opened no_call pend +++ only (node_at_of 0 p)) none ps)
    (λ e. ap is_blank (scan_other no_call pend p ps e) ∙ blank_scan (pend +++ only p) ps (some_last pend p ps))

blank_rule : (at : ℕ) (p : Node) (ps : Items) → is_blank (literal (literal_of at (item p ps))) ≡ false
unfolding literal is_blank is_empty is items_at_of piece_in
blank_rule at p ps = by_test (any (λ p. is 26 p) (item p ps)) (λ e. rw e (blank_scan none (item p ps) tt)) (λ e. rw e refl)

blank_lower : {n : Node} → Plain n → is_blank (lower n) ≡ is_blank n
unfolding lower literal is_blank is_empty any is items_at_of piece_in
blank_lower (Plain.opaque o) = ap is_blank (lower_opaque o)
blank_lower (Plain.literal no_part) = refl
blank_lower (Plain.literal {at = at} (next_part {p = p} {ps = ps} r rs)) = blank_rule at (lower p) (lower_items ps)

-- ---- a plain literal, lowered from below, does what it does

module _ (W : Outside) (fair : Fair W) where
  -- the rule and a literal that it leaves
  run_rule : (how : Node → Step) (at : ℕ) (qs : Items) (h : History) → run W how (literal (literal_of at qs)) h ≡ made (lay_all W qs empty h)
  unfolding literal items_at_of piece_in is
  run_rule how at qs h =
      by_test (any (λ p. is 26 p) qs)
      (λ e. rw e (run_scan W fair how qs h))
      (λ e. rw e (run_literal W how (literal_of at qs) h refl))

  -- the value of a property, lowered
  lay_property : (at : ℕ) (k v w : Node) (f : ℕ) → ((how : Node → Step) (h : History) → run W how w h ≡ run W how v h) → (o : Props) (h : History)
      → lay W (property_of at k w f) o h ≡ lay W (property_of at k v f) o h
  unfolding run defined makes keyed is node_at_of number_at piece_in
  lay_property at k v w f e o h =
      ap (λ (r : Out Entry). then r (λ h e. ok h (put_entry e o)))
      (ap (λ (r : Out Entry). cond (makes (property_of at k v f)) r (stuck h))
      (then_each (keyed W (property_of at k v f) h) (λ h key. ap (λ (r : Out Value). then r (λ h v. ok h (pair key v))) (e (λ n. names f key n) h))))

  mutual
    unfolding run lower is node_at_of piece_in

    pub plain_run : {n : Node} → Plain n → (how : Node → Step) (h : History) → run W how (lower n) h ≡ run W how n h
    plain_run (Plain.opaque o) how h = ap (λ (n : Node). run W how n h) (lower_opaque o)
    plain_run (Plain.literal {at = at} {ps = ps} r) how h = run_rule how at (lower_items ps) h ∙ ap made (parts_run r empty h)

    parts_run : {ps : Items} → PlainParts ps → (o : Props) (h : History) → lay_all W (lower_items ps) o h ≡ lay_all W ps o h
    parts_run no_part o h = refl
    parts_run (next_part {p = p} {ps = ps} r rs) o h =
        ap (λ (x : Out Props). then x (λ h o. lay_all W (lower_items ps) o h)) (part_run r o h) ∙ then_each (lay W p o h) (λ h o. parts_run rs o h)

    part_run : {p : Node} → PlainPart p → (o : Props) (h : History) → lay W (lower p) o h ≡ lay W p o h
    part_run (spread {n = n} r) o h =
        ap (λ (x : Out Value). then x (λ h v. copy W (is_blank (lower n)) v o h)) (plain_run r (λ n. evaluates n) h)
        ∙ ap (λ (b : Bool). then (run W (λ n. evaluates n) n h) (λ h v. copy W b v o h)) (blank_lower r)
    part_run (property {at = at} {k = k} {v = v} {f = f} m y q r) o h =
        ap (λ (x : Node). lay W (property_of at x (lower v) f) o h) (lower_opaque q)
        ∙ lay_property at k v (lower v) f (λ how h. plain_run r how h) o h

-- ---- the literal as the walk leaves it

-- in every context, behind any new marks and with any names of temporaries
pub faithful : (ns : List Name) (next : ℕ) (c : Context) → Faithful (leaves ns next c)
unfolding given
faithful ns next c W fair how n h g e =
    let r : Plain n = plain_rule n e g in
    ap (λ (x : Node). run W how x h) (plain_turns ns r next c) ∙ plain_run W fair r how h

-- ---- the cut

plain_front : (ps qs : Items) → plain_parts (ps +++ qs) ≡ true → plain_parts ps ≡ true
unfolding plain ◌+++◌
plain_front none qs e = refl
plain_front (hole ps) qs e = e
plain_front (item p ps) qs e =
    rw (and_left (plain_part p) (plain_parts (ps +++ qs)) e) (plain_front ps qs (and_right (plain_part p) (plain_parts (ps +++ qs)) e))

given_front : (ps qs : Items) → free_items is_foreign (ps +++ qs) ≡ true → free_items is_foreign ps ≡ true
unfolding ◌+++◌
given_front none qs e = refl
given_front (hole ps) qs e = given_front ps qs e
given_front (item p ps) qs e =
    rw (and_left (free is_foreign p) (free_items is_foreign (ps +++ qs)) e) (given_front ps qs (and_right (free is_foreign p) (free_items is_foreign (ps +++ qs)) e))

laid : (W : Outside) (qs : Items) (r : Out Props) → made (then r (λ h o. lay_all W qs o h)) ≡ then (made r) (λ h v. lay_on W qs v h)
laid W qs (ok h o) = refl
laid W qs (threw h v) = refl
laid W qs (beyond h n) = refl
laid W qs (stuck h) = refl

and_true : (a : Bool) → a ≡ true → (a && true) ≡ true
and_true a e = rw e refl

front_plain : (at at' : ℕ) (ps qs : Items) → plain (literal_of at (ps +++ qs)) ≡ true → plain (literal_of at' ps) ≡ true
unfolding plain
front_plain at at' ps qs e = and_true (plain_parts ps) (plain_front ps qs (and_left (plain_parts (ps +++ qs)) true e))

front_given : (at at' : ℕ) (ps qs : Items) → given (literal_of at (ps +++ qs)) ≡ true → given (literal_of at' ps) ≡ true
unfolding given is
front_given at at' ps qs e = and_true (free_items is_foreign ps) (given_front ps qs (and_left (free_items is_foreign (ps +++ qs)) true e))

-- the law follows from the corollary, of both lowerings
pub overlay_of : (whole front : Node → Node) → Faithful whole → Faithful front → Overlay whole front
unfolding is items_at_of piece_in
overlay_of whole front F G W fair how at at' ps qs h g e =
    F W fair how (literal_of at (ps +++ qs)) h g e
    ∙ run_literal W how (literal_of at (ps +++ qs)) h refl
    ∙ ap made (lay_append W ps qs empty h)
    ∙ laid W qs (lay_all W ps empty h)
    ∙ ap (λ (r : Out Value). then r (λ h v. lay_on W qs v h))
    (sym (G W fair how (literal_of at' ps) h (front_given at at' ps qs g) (front_plain at at' ps qs e) ∙ run_literal W how (literal_of at' ps) h refl))

-- the whole in one tree, the front in another
pub overlays : (ns ns' : List Name) (next next' : ℕ) (c c' : Context) → Overlay (leaves ns next c) (leaves ns' next' c')
overlays ns ns' next next' c c' = overlay_of (leaves ns next c) (leaves ns' next' c') (faithful ns next c) (faithful ns' next' c')

-- ---- fronts

-- an empty front is `{}`
pub empty_front : (ns : List Name) (next : ℕ) (c : Context) (at : ℕ) → leaves ns next c (literal_of at none) ≡ literal_of at none
unfolding lower literal any items_at_of piece_in
empty_front ns next c at = plain_turns ns (Plain.literal no_part) next c

items_marks : (ps qs : Items) → marks_items (ps +++ qs) ≡ marks_items ps ++ marks_items qs
unfolding marks ◌+++◌
items_marks none qs = refl
items_marks (hole ps) qs = items_marks ps qs
items_marks (item p ps) qs = ap (λ (x : List ℕ). marks p ++ x) (items_marks ps qs) ∙ sym (append_assoc (marks p) (marks_items ps) (marks_items qs))

-- cutting off the back changes no mark in front of it: those of the front come first
pub front_marks : (at at' : ℕ) (ps qs : Items) → marks (literal_of at (ps +++ qs)) ≡ marks (literal_of at' ps) ++ marks_items qs
unfolding marks
front_marks at at' ps qs =
    append-nil (marks_items (ps +++ qs)) ∙ items_marks ps qs ∙ ap (λ (x : List ℕ). x ++ marks_items qs) (sym (append-nil (marks_items ps)))
