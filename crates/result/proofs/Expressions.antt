-- The expressions that the rules make lie wherever an expression may stand.
-- Assumes nothing.
use mathlib.Core.Path.{◌≡◌, refl}
use mathlib.Core.Bool.{Bool, true, false, not, ◌||◌}
use mathlib.Core.List.{List, []}
use Prim.Native.Nat.{ℕ, ◌<◌, ◌≤◌}
use native.Mathlib.Omega.{arith}
use lib.Dec.{eqb, ltb}
use lib.ListN.{get_or}
use borrow.Author.Tests.{eqb-true}
use Rattle.tree.specs.Tree.{Node, Items}
use Rattle.tree.specs.Grammar.{places, allowed, also, among, kind_of, form_in, form_at, fields_of, kinds}
use Rattle.tree.specs.Grammar.Stage.{rewritten}
use Rattle.lowering.specs.Parts.{kind}
use Rattle.lowering.specs.Made.{temporary, helper, call, S, X, E, W, K, object, array, sequence, member, assign, string}
use Rattle.lowering.proofs.Cases.{by_test, or_other}
use Rattle.lowering.proofs.PlaceTests.{all_rows, row_at}
use Rattle.result.proofs.PlaceRows.{widened, covers, at_places, no_kind}
use Rattle.result.proofs.Lies.{Texts, Lies, LieFields, LiePiece, LieItems, make, may_stand, moved, lies_only}

-- every expression may stand at the place
abbrev pub Takes : ℕ → Type 0
Takes p = among (get_or places p []) 24 ≡ true

-- then so may the kind j
abbrev alike : ℕ → List ℕ → Bool
alike j r = not (among r 24) || eqb (form_in (widened r) j) j

expression_form : (j : ℕ) → ltb j 64 ≡ true → all_rows (alike j) places ≡ true → alike j [] ≡ true → (p : ℕ) → Takes p → form_at rewritten p j ≡ j
unfolding form_at allowed
expression_form j l a z p t =
    rw l (eqb-true (form_in (widened (get_or places p [])) j) j (or_other (not (among (get_or places p []) 24)) (eqb (form_in (widened (get_or places p [])) j) j) (rw t refl) (row_at (alike j) places p z a)))

-- a place where the kind j stands, j an expression's that is no name, takes every expression
abbrev shows : ℕ → List ℕ → Bool
shows j r = eqb (form_in (widened r) j) 0 || among r 24

pub takes_by : (j : ℕ) → ltb j 64 ≡ true → all_rows (shows j) places ≡ true → shows j [] ≡ true → (p : ℕ) → 0 < form_at rewritten p j → Takes p
unfolding form_at allowed
takes_by j l a z p h =
    by_test (eqb (form_in (widened (get_or places p [])) j) 0)
    (λ e. let y : form_in (widened (get_or places p [])) j ≡ 0 = eqb-true (form_in (widened (get_or places p [])) j) 0 e in absurd (let x : 0 < form_in (widened (get_or places p [])) j = rw l at h in omega arith))
    (λ e. or_other (eqb (form_in (widened (get_or places p [])) j) 0) (among (get_or places p []) 24) e (row_at (shows j) places p z a))

pub takes_24 : (p : ℕ) → 0 < form_at rewritten p 24 → Takes p
unfolding form_in kind_of places also among
takes_24 p h = takes_by 24 refl refl refl p h

pub takes_27 : (p : ℕ) → 0 < form_at rewritten p 27 → Takes p
unfolding form_in kind_of places also among
takes_27 p h = takes_by 27 refl refl refl p h

module _ (p : ℕ) (t : Takes p) where
  form_20 : form_at rewritten p 20 ≡ 20
  unfolding form_in kind_of places also among
  form_20 = expression_form 20 refl refl refl p t

  form_21 : form_at rewritten p 21 ≡ 21
  unfolding form_in kind_of places also among
  form_21 = expression_form 21 refl refl refl p t

  form_22 : form_at rewritten p 22 ≡ 22
  unfolding form_in kind_of places also among
  form_22 = expression_form 22 refl refl refl p t

  pub form_24 : form_at rewritten p 24 ≡ 24
  unfolding form_in kind_of places also among
  form_24 = expression_form 24 refl refl refl p t

  pub form_27 : form_at rewritten p 27 ≡ 27
  unfolding form_in kind_of places also among
  form_27 = expression_form 27 refl refl refl p t

  form_28 : form_at rewritten p 28 ≡ 28
  unfolding form_in kind_of places also among
  form_28 = expression_form 28 refl refl refl p t

  form_29 : form_at rewritten p 29 ≡ 29
  unfolding form_in kind_of places also among
  form_29 = expression_form 29 refl refl refl p t

  form_30 : form_at rewritten p 30 ≡ 30
  unfolding form_in kind_of places also among
  form_30 = expression_form 30 refl refl refl p t

  form_32 : form_at rewritten p 32 ≡ 32
  unfolding form_in kind_of places also among
  form_32 = expression_form 32 refl refl refl p t

  -- ---- the nodes

  pub temporary_lies : {T : Texts} {path : List ℕ} {stem at : ℕ} → 0 < stem → stem < 5 → Lies T p (temporary path stem at)
  temporary_lies a b = let z : 0 < form_at rewritten p 20 = omega (arith, form_20) in Lies.named z a b

  pub helper_lies : {T : Texts} {h : ℕ} → 1 ≤ h → h ≤ 5 → Lies T p (helper h)
  unfolding fields_of kinds
  helper_lies a b = make p 21 21 form_21 (omega arith) refl (LieFields.needed (LiePiece.byte a b (omega arith)) LieFields.done)

  pub call_lies : {T : Texts} {f : Node} {xs : Items} → Lies T 3 f → LieItems T 13 false xs → Lies T p (call f xs)
  unfolding fields_of kinds
  call_lies a b = make p 29 29 form_29 (omega arith) refl (LieFields.needed (LiePiece.child a) (LieFields.needed (LiePiece.many b) LieFields.done))

  pub object_lies : {T : Texts} {ps : Items} → LieItems T 12 false ps → Lies T p (object ps)
  unfolding fields_of kinds
  object_lies a = make p 24 24 form_24 (omega arith) refl (LieFields.needed (LiePiece.many a) LieFields.done)

  pub array_lies : {T : Texts} {xs : Items} → LieItems T 13 true xs → Lies T p (array xs)
  unfolding fields_of kinds
  array_lies a = make p 32 32 form_32 (omega arith) refl (LieFields.needed (LiePiece.gaps a) LieFields.done)

  pub sequence_lies : {T : Texts} {xs : Items} → LieItems T 3 false xs → Lies T p (sequence xs)
  unfolding fields_of kinds
  sequence_lies a = make p 28 28 form_28 (omega arith) refl (LieFields.needed (LiePiece.many a) LieFields.done)

  pub member_lies : {T : Texts} {a : Node} {name : List ℕ} → Lies T 3 a → T.holds name → Lies T p (member a name)
  unfolding fields_of kinds
  member_lies a b = make p 30 30 form_30 (omega arith) refl (LieFields.needed (LiePiece.child a) (LieFields.needed (LiePiece.text b) LieFields.done))

  pub assign_lies : {T : Texts} {left right : Node} → Lies T 19 left → Lies T 3 right → Lies T p (assign left right)
  unfolding fields_of kinds
  assign_lies a b =
      make p 27 27 form_27 (omega arith) refl
      (LieFields.needed (LiePiece.byte (omega arith) (omega arith) (omega arith)) (LieFields.needed (LiePiece.chosen a) (LieFields.needed (LiePiece.child b) LieFields.done)))

  pub string_lies : {T : Texts} {form : List ℕ} → T.holds form → Lies T p (string form)
  unfolding fields_of kinds
  string_lies {T = T} b =
      make p 22 22 form_22 (omega arith) refl
      (LieFields.needed (LiePiece.byte (omega arith) (omega arith) (omega arith)) (LieFields.needed (LiePiece.text T.empty) (LieFields.given (LiePiece.text b) LieFields.done)))

-- ---- the places of an expression and of an argument

pub takes_3 : Takes 3
unfolding places among
takes_3 = refl

pub takes_13 : Takes 13
unfolding places among
takes_13 = refl

-- an expression is an argument
pub argument : {T : Texts} {n : Node} → Lies T 3 n → Lies T 13 n
unfolding covers allowed places also among form_in kind_of
argument {n = n} l = moved 13 (at_places no_kind rewritten rewritten 3 13 refl (kind n) refl (may_stand l)) l

module _ (p : ℕ) (t : Takes p) where
  pub S-lies : {T : Texts} {xs : Items} → LieItems T 13 false xs → Lies T p (S xs)
  S-lies a = call_lies p t (helper_lies 3 takes_3 (omega arith) (omega arith)) a

  pub X-lies : {T : Texts} {a b : Node} → Lies T 13 a → Lies T 13 b → Lies T p (X a b)
  X-lies a b = call_lies p t (helper_lies 3 takes_3 (omega arith) (omega arith)) (LieItems.item a (lies_only b))

  pub E-lies : {T : Texts} {a : Node} → Lies T 13 a → Lies T p (E a)
  E-lies a = call_lies p t (helper_lies 3 takes_3 (omega arith) (omega arith)) (lies_only a)

  pub W-lies : {T : Texts} {a b : Node} → Lies T 13 a → Lies T 13 b → Lies T p (W a b)
  W-lies a b = call_lies p t (helper_lies 3 takes_3 (omega arith) (omega arith)) (LieItems.item a (lies_only b))

  pub K-lies : {T : Texts} → Lies T p K
  K-lies = helper_lies p t (omega arith) (omega arith)
