-- What holds of each rule's step holds of the rewriting of every node.
-- Assumes nothing.
use mathlib.Core.Path.{◌≡◌, sym, subst}
use mathlib.Core.Bool.{false}
use Prim.Native.Nat.{ℕ}
use lib.Dec.{eqb}
use borrow.Author.Tests.{eqb-true}
use Rattle.tree.specs.Tree.{Node, Fields, Items}
use Rattle.tree.specs.Tree.Node.{node}
use Rattle.tree.specs.Tree.Items.{none}
use Rattle.lowering.specs.Parts.{is, node_at_of}
use Rattle.lowering.specs.Made.{Context}
use Rattle.lowering.specs.Patterns.{has_object_rest, has_array_rest_over_object_rest}
use Rattle.lowering.specs.Literals.{literal}
use Rattle.lowering.specs.Declarations.{declaration_excludes, declaration_refusal}
use Rattle.lowering.specs.Assignments.{target, is_top, top_refusal, top_entry, top_excludes, nested_entry}
use Rattle.lowering.specs.Heads.{function, function_makes, arrow, arrow_makes, catch, catch_makes}
use Rattle.lowering.specs.Walk.{Step, rewritten, unchanged, rule_of, rewrite, step_declaration, step_top, step_assignment, step_for}
use Rattle.lowering.proofs.Cases.{by_number, by_test}
use Rattle.lowering.proofs.Clauses.{others}

pub record Rules (c : Context) (Q : Node → Step → Type 0) : Type 0 where
  pub literals : (at : ℕ) (fs : Fields) → Q (node at 24 fs) (unchanged (literal (node at 24 fs)))
  pub declarations : (at : ℕ) (fs : Fields) → Q (node at 4 fs) (step_declaration c (node at 4 fs))
  pub assignments : (at : ℕ) (fs : Fields) → Q (node at 27 fs) (step_assignment c (node at 27 fs))
  pub functions : (at : ℕ) (fs : Fields) → Q (node at 14 fs) (rewritten (function_makes c (node at 14 fs)) (function c (node at 14 fs)))
  pub arrows : (at : ℕ) (fs : Fields) → Q (node at 17 fs) (rewritten (arrow_makes c (node at 17 fs)) (arrow c (node at 17 fs)))
  pub catches : (at : ℕ) (fs : Fields) → Q (node at 10 fs) (rewritten (catch_makes c (node at 10 fs)) (catch c (node at 10 fs)))
  pub for_ins : (at : ℕ) (fs : Fields) → Q (node at 7 fs) (step_for c (node at 7 fs))
  pub for_ofs : (at : ℕ) (fs : Fields) → Q (node at 8 fs) (step_for c (node at 8 fs))
  pub nowhere : (at k : ℕ) (fs : Fields) → eqb k 24 ≡ false → eqb k 4 ≡ false → eqb k 27 ≡ false → eqb k 14 ≡ false → eqb k 17 ≡ false → eqb k 10 ≡ false → eqb k 7 ≡ false → eqb k 8 ≡ false
      → Q (node at k fs) (unchanged (node at k fs))

module _ (c : Context) (Q : Node → Step → Type 0) (r : Rules c Q) where
  unfolded : (at : ℕ) (fs : Fields) → Q (node at 24 fs) (rewrite c (node at 24 fs)) × Q (node at 4 fs) (rewrite c (node at 4 fs)) × Q (node at 27 fs) (rewrite c (node at 27 fs))
      × Q (node at 14 fs) (rewrite c (node at 14 fs)) × Q (node at 17 fs) (rewrite c (node at 17 fs)) × Q (node at 10 fs) (rewrite c (node at 10 fs))
      × Q (node at 7 fs) (rewrite c (node at 7 fs)) × Q (node at 8 fs) (rewrite c (node at 8 fs))
  unfolding rewrite rule_of
  unfolded at fs = (r.literals at fs, r.declarations at fs, r.assignments at fs, r.functions at fs, r.arrows at fs, r.catches at fs, r.for_ins at fs, r.for_ofs at fs)

  pub by_rules : (n : Node) → Q n (rewrite c n)
  by_rules (node at k fs) =
      let P : ℕ → Type 0 = λ x. Q (node at x fs) (rewrite c (node at x fs)) in
      by_test (eqb k 24) (λ e. subst (λ (x : ℕ). Q (node at x fs) (rewrite c (node at x fs))) (sym (eqb-true k 24 e)) (unfolded at fs).0)
      (λ e₁. by_test (eqb k 4) (λ e. subst (λ (x : ℕ). Q (node at x fs) (rewrite c (node at x fs))) (sym (eqb-true k 4 e)) (unfolded at fs).1)
      (λ e₂. by_test (eqb k 27) (λ e. subst (λ (x : ℕ). Q (node at x fs) (rewrite c (node at x fs))) (sym (eqb-true k 27 e)) (unfolded at fs).2)
      (λ e₃. by_test (eqb k 14) (λ e. subst (λ (x : ℕ). Q (node at x fs) (rewrite c (node at x fs))) (sym (eqb-true k 14 e)) (unfolded at fs).3)
      (λ e₄. by_test (eqb k 17) (λ e. subst (λ (x : ℕ). Q (node at x fs) (rewrite c (node at x fs))) (sym (eqb-true k 17 e)) (unfolded at fs).4)
      (λ e₅. by_test (eqb k 10) (λ e. subst (λ (x : ℕ). Q (node at x fs) (rewrite c (node at x fs))) (sym (eqb-true k 10 e)) (unfolded at fs).5)
      (λ e₆. by_test (eqb k 7) (λ e. subst (λ (x : ℕ). Q (node at x fs) (rewrite c (node at x fs))) (sym (eqb-true k 7 e)) (unfolded at fs).6)
      (λ e₇. by_test (eqb k 8) (λ e. subst (λ (x : ℕ). Q (node at x fs) (rewrite c (node at x fs))) (sym (eqb-true k 8 e)) (unfolded at fs).7)
      (λ e₈. subst (λ (s : Step). Q (node at k fs) s) (sym (others c at k fs e₁ e₂ e₃ e₄ e₅ e₆ e₇ e₈)) (r.nowhere at k fs e₁ e₂ e₃ e₄ e₅ e₆ e₇ e₈)))))))))

-- ---- what is handed out

-- P of the entry and R of the excluded keys, by the four places where one of them is not empty
pub record Lists (c : Context) (P R : Items → Type 0) : Type 0 where
  pub entry_none : P none
  pub excluded_none : R none
  pub top_entry_lem : (n : Node) → P (top_entry c n)
  pub nested_entry_lem : (n : Node) → P (nested_entry c n)
  pub declaration_excluded : (n : Node) → R (declaration_excludes c n)
  pub top_excluded : (n : Node) → R (top_excludes c n)

module _ (c : Context) (P R : Items → Type 0) (h : Lists c P R) where
  abbrev Q : Node → Step → Type 0
  Q n s = P s.note.entry × R s.note.excluded

  nothing_handed : P none × R none
  nothing_handed = (h.entry_none, h.excluded_none)

  of_declarations : (at : ℕ) (fs : Fields) → Q (node at 4 fs) (step_declaration c (node at 4 fs))
  unfolding step_declaration
  of_declarations at fs =
      by_number (declaration_refusal c (node at 4 fs)) (λ r e. rw (e, step_declaration) nothing_handed) (λ e. rw (e, step_declaration) (h.entry_none, h.declaration_excluded (node at 4 fs)))

  of_assignments : (at : ℕ) (fs : Fields) → Q (node at 27 fs) (step_assignment c (node at 27 fs))
  unfolding step_assignment step_top
  of_assignments at fs =
      let n = node at 27 fs in
      by_test (has_array_rest_over_object_rest (target n))
      (λ a. rw (a, step_assignment) nothing_handed)
      (λ a. by_test (is_top (target n))
      (λ u. by_number (top_refusal n)
      (λ r k. rw (a, step_assignment) (rw u (rw (k, step_top) nothing_handed)))
      (λ k. rw (a, step_assignment) (rw u (rw (k, step_top) (h.top_entry_lem n, h.top_excluded n)))))
      (λ u. by_test (has_object_rest (target n))
      (λ o. rw (a, step_assignment) (rw u (rw o (h.nested_entry_lem n, h.excluded_none))))
      (λ o. rw (a, step_assignment) (rw u (rw o nothing_handed)))))

  of_fors : (k at : ℕ) (fs : Fields) → Q (node at k fs) (step_for c (node at k fs))
  unfolding step_for
  of_fors k at fs =
      let l = node_at_of 1 (node at k fs) in
      by_test (is 4 l)
      (λ d. rw (d, step_for) nothing_handed)
      (λ d. by_test (has_array_rest_over_object_rest l) (λ a. rw (d, step_for) (rw a nothing_handed)) (λ a. rw (d, step_for) (rw a nothing_handed)))

  pub by_lists : (n : Node) → P (rewrite c n).note.entry × R (rewrite c n).note.excluded
  by_lists = by_rules c Q (record {
    literals = λ at fs. nothing_handed;
    declarations = of_declarations;
    assignments = of_assignments;
    functions = λ at fs. nothing_handed;
    arrows = λ at fs. nothing_handed;
    catches = λ at fs. nothing_handed;
    for_ins = of_fors 7;
    for_ofs = of_fors 8;
    nowhere = λ at k fs e₁ e₂ e₃ e₄ e₅ e₆ e₇ e₈. nothing_handed;
  })
