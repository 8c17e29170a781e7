-- The invariant: what a rule leaves lies where the node lay, and what it hands out lies where declarators may stand. A clause for each rule.
-- Assumes nothing.
use mathlib.Core.Path.{◌≡◌, refl}
use mathlib.Core.Bool.{true, false}
use mathlib.Core.List.{List, [], ◌∷◌}
use Prim.Native.Nat.{ℕ, ◌<◌}
use native.Mathlib.Omega.{arith}
use Rattle.tree.specs.Tree.{Node, Fields}
use Rattle.tree.specs.Tree.Node.{node}
use Rattle.tree.specs.Grammar.{Sort, Field, form_at, fields_of, kinds}
use Rattle.tree.specs.Grammar.Stage.{rewritten}
use Rattle.lowering.specs.Parts.{is, node_at_of}
use Rattle.lowering.specs.Made.{Context}
use Rattle.lowering.specs.Patterns.{shape, has_object_rest, has_array_rest_over_object_rest}
use Rattle.lowering.specs.Patterns.Shape.{object_pattern}
use Rattle.lowering.specs.Declarations.{declaration_refusal}
use Rattle.lowering.specs.Assignments.{target, is_top, top_refusal}
use Rattle.lowering.specs.Walk.{Step, rewrite, step_declaration, step_top, step_assignment, step_for}
use Rattle.lowering.proofs.Clauses.{top_34, top_rest}
use Rattle.lowering.proofs.Cases.{by_number, by_test, shape_34}
use Rattle.result.proofs.PlaceRows.{form_7, form_8}
use Rattle.result.proofs.Lies.{Texts, is_made, Lies, LieItems, may_stand}
use Rattle.result.proofs.Literals.{literal_lies}
use Rattle.result.proofs.Declarations.{declaration_lies, declaration_excludes_lie}
use Rattle.result.proofs.Assignments.{assignment_view, assignment_takes, target_lies, value_lies, top_lies, top_entry_lies, top_excludes_lie, nested_lies, nested_entry_lies}
use Rattle.result.proofs.HeadsLie.{function_lies, arrow_lies, catch_lies, declaring_lies, assigning_head_lies}
use Rattle.result.proofs.ByRule.{by_rules}

-- what a step leaves and hands out
pub record Leaves (T : Texts) (p : ℕ) (s : Step) : Type 0 where
  pub tree : s.note.refusal ≡ 0 → Lies T p s.result
  pub entry : LieItems T 4 false s.note.entry
  pub excluded : LieItems T 4 false s.note.excluded

top_shape : (q : Node) → is_top q ≡ true → shape q ≡ object_pattern
unfolding is_top
top_shape q e = shape_34 q (top_34 q e)

module _ (c : Context) (p : ℕ) where
  abbrev Q : (T : Texts) → Node → Step → Type 0
  Q T n s = Lies T p n → Leaves T p s

  assignment_leaves : {T : Texts} (at : ℕ) (fs : Fields) → Q T (node at 27 fs) (step_assignment c (node at 27 fs))
  unfolding step_assignment step_top is
  assignment_leaves at fs l =
      let n = node at 27 fs in
      let v = assignment_view p n l refl in
      let t = assignment_takes p n l refl in
      by_test (has_array_rest_over_object_rest (target n))
      (λ a. rw (a, step_assignment) (record { tree = λ z. absurd (omega arith); entry = LieItems.none; excluded = LieItems.none }))
      (λ a. by_test (is_top (target n))
      (λ u. by_number (top_refusal n)
      (λ r k. rw (a, step_assignment) (rw u (rw (k, step_top) (record { tree = λ z. absurd (omega arith); entry = LieItems.none; excluded = LieItems.none }))))
      (λ k. rw (a, step_assignment) (rw u (rw (k, step_top)
      (let o : shape (target n) ≡ object_pattern = top_shape (target n) u in
      record {
        tree = λ z. top_lies c n (target_lies n v) o p t (value_lies n v) (top_rest (target n) u);
        entry = top_entry_lies c n (target_lies n v) o;
        excluded = top_excludes_lie c n (target_lies n v) o;
      })))))
      (λ u. by_test (has_object_rest (target n))
      (λ o. rw (a, step_assignment) (rw u (rw o (record { tree = λ z. nested_lies c p t n v; entry = nested_entry_lies c n v; excluded = LieItems.none }))))
      (λ o. rw (a, step_assignment) (rw u (rw o (record { tree = λ z. l; entry = LieItems.none; excluded = LieItems.none }))))))

  declaration_leaves : {T : Texts} (at : ℕ) (fs : Fields) → Q T (node at 4 fs) (step_declaration c (node at 4 fs))
  unfolding step_declaration is
  declaration_leaves at fs l =
      by_number (declaration_refusal c (node at 4 fs))
      (λ r e. rw (e, step_declaration) (record { tree = λ z. absurd (omega arith); entry = LieItems.none; excluded = LieItems.none }))
      (λ e. rw (e, step_declaration) (record { tree = λ z. declaration_lies c p (node at 4 fs) l refl; entry = LieItems.none; excluded = declaration_excludes_lie c p (node at 4 fs) l refl }))

  for_leaves : {T : Texts} (j : ℕ) (ts : List Field) → is_made j ≡ true → 0 < j → (0 < form_at rewritten p j → form_at rewritten p j ≡ j)
      → fields_of j ≡ Field.must Sort.mark ∷ Field.must (Sort.child 21) ∷ Field.must (Sort.child 3) ∷ Field.must (Sort.child 1) ∷ ts
      → (at : ℕ) (fs : Fields) → Q T (node at j fs) (step_for c (node at j fs))
  unfolding step_for
  for_leaves j ts e z g u at fs l =
      by_test (is 4 (node_at_of 1 (node at j fs)))
      (λ d. rw (d, step_for) (record { tree = λ y. declaring_lies c p j ts e z (g (may_stand l)) u l refl d; entry = LieItems.none; excluded = LieItems.none }))
      (λ d. by_test (has_array_rest_over_object_rest (node_at_of 1 (node at j fs)))
      (λ a. rw (d, step_for) (rw a (record { tree = λ y. absurd (omega arith); entry = LieItems.none; excluded = LieItems.none })))
      (λ a. rw (d, step_for) (rw a (record { tree = λ y. assigning_head_lies c p j ts e z (g (may_stand l)) u l refl d; entry = LieItems.none; excluded = LieItems.none }))))

  pub leaves : {T : Texts} (n : Node) → Lies T p n → Leaves T p (rewrite c n)
  unfolding fields_of kinds is
  leaves {T = T} = by_rules c (Q T) (record {
    literals = λ at fs l. record { tree = λ z. literal_lies p (node at 24 fs) l refl; entry = LieItems.none; excluded = LieItems.none };
    declarations = declaration_leaves;
    assignments = assignment_leaves;
    functions = λ at fs l. record { tree = λ z. function_lies c p (node at 14 fs) l refl; entry = LieItems.none; excluded = LieItems.none };
    arrows = λ at fs l. record { tree = λ z. arrow_lies c p (node at 17 fs) l refl; entry = LieItems.none; excluded = LieItems.none };
    catches = λ at fs l. record { tree = λ z. catch_lies c p (node at 10 fs) l refl; entry = LieItems.none; excluded = LieItems.none };
    for_ins = for_leaves 7 [] refl (omega arith) (form_7 p) refl;
    for_ofs = for_leaves 8 (Field.may (Sort.byte 0 1) ∷ []) refl (omega arith) (form_8 p) refl;
    nowhere = λ at k fs e₁ e₂ e₃ e₄ e₅ e₆ e₇ e₈ l. record { tree = λ z. l; entry = LieItems.none; excluded = LieItems.none };
  })
