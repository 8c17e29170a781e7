-- The source of a pattern: what the builder's reads give.
-- Assumes nothing.
use mathlib.Core.Path.{◌≡◌, refl, sym, ap, ◌∙◌}
use mathlib.Core.Bool.{Bool, true, false, cond, not, ◌||◌}
use mathlib.Core.List.{List}
use Prim.Native.Nat.{ℕ}
use borrow.Author.Tests.{ne_eqb}
use Rattle.tree.specs.Tree.{Node}
use Rattle.tree.specs.Read.{byte_at}
use Rattle.tree.specs.Look.{look_node}
use Rattle.lowering.specs.Parts.{kind, is}
use Rattle.lowering.specs.Declarations.{is_name_of}
use Rattle.pattern.specs.declared.source.Read.{Read}
use Rattle.pattern.specs.declared.source.Read.TheVariants.{Expression, Temporary}
use Rattle.pattern.specs.declared.source.ReferenceBuilder.{ReferenceBuilder}
use Rattle.pattern.specs.declared.source.ReferenceBuilder.TheVariants.{Direct, Wanted, Held}
use Rattle.pattern.specs.Source.{Given, read_values, builder_of, held_in, read_of, place_read, after_read, Settled, Keeps}
use Rattle.pattern.proofs.NodeParts.{Blank, kind_is, no_levels}

-- ---- names

module _ (e : Node) where
  name_18 : kind e ≡ 18 → is_name_of e ≡ true
  unfolding is_name_of is
  name_18 k = rw k

  name_20 : kind e ≡ 20 → is_name_of e ≡ true
  unfolding is_name_of is
  name_20 k = rw k

  name_not : (kind e ≡ 18 → ⊥) → (kind e ≡ 20 → ⊥) → is_name_of e ≡ false
  unfolding is_name_of is
  name_not a b = rw (ne_eqb (kind e) 18 a, ne_eqb (kind e) 20 b)

pub name_blank : Blank is_name_of
unfolding is_name_of is
name_blank at = refl

module _ (l : List ℕ) where
  pub name_none : (d at : ℕ) → d ≡ 0 → false ≡ is_name_of (look_node l d at).value
  unfolding is_name_of is
  name_none d at z = rw (no_levels l d at z)

  module _ (d at k : ℕ) (z : d ≡ 0 → ⊥) (e : k ≡ byte_at l at) where
    pub name_reference : k ≡ 18 → true ≡ is_name_of (look_node l d at).value
    name_reference t = sym (name_18 (look_node l d at).value (kind_is l d at k z e ∙ t))

    pub name_temporary : k ≡ 20 → true ≡ is_name_of (look_node l d at).value
    name_temporary t = sym (name_20 (look_node l d at).value (kind_is l d at k z e ∙ t))

    pub name_other : (k ≡ 18 → ⊥) → (k ≡ 20 → ⊥) → false ≡ is_name_of (look_node l d at).value
    name_other a b = sym (name_not (look_node l d at).value (λ w. a (sym (kind_is l d at k z e) ∙ w)) (λ w. b (sym (kind_is l d at k z e) ∙ w)))

  -- ---- the builder

  module _ (d at cell stem : ℕ) (force : Bool) where
    pub built_forced : force ≡ true → Wanted d at cell stem ≡ builder_of l d at cell stem force
    unfolding builder_of
    built_forced e = rw e

    pub built_other : (b : Bool) → b ≡ is_name_of (look_node l d at).value → b ≡ false → Wanted d at cell stem ≡ builder_of l d at cell stem force
    unfolding builder_of
    built_other b n t = rw (sym n ∙ t) (go force)
      where
        go : (f : Bool) → Wanted d at cell stem ≡ cond (f || true) (Wanted d at cell stem) (Direct d at)
        go true = refl
        go false = refl

    pub built_name : (b : Bool) → force ≡ false → b ≡ is_name_of (look_node l d at).value → b ≡ true → Direct d at ≡ builder_of l d at cell stem force
    unfolding builder_of
    built_name b e n t = rw (e, sym n ∙ t)

-- ---- a read

module _ (b : ReferenceBuilder) where
  pub read_direct : (left at : ℕ) → b ≡ Direct left at → (Given.expression left at ≡ read_of b) × (Direct left at ≡ after_read b)
  unfolding read_of after_read
  read_direct left at e = (ap read_of (sym e), ap after_read (sym e))

  pub read_wanted : (left at cell stem : ℕ) → b ≡ Wanted left at cell stem → (Given.expression left at ≡ read_of b) × (Held cell stem ≡ after_read b)
  unfolding read_of after_read
  read_wanted left at cell stem e = (ap read_of (sym e), ap after_read (sym e))

  pub read_held : (cell stem : ℕ) → b ≡ Held cell stem → (Given.temporary cell stem ≡ read_of b) × (Held cell stem ≡ after_read b)
  unfolding read_of after_read
  read_held cell stem e = (ap read_of (sym e), ap after_read (sym e))

-- ---- where what was read stands

pub place_expression : (r : Read) (left at : ℕ) → r ≡ Expression left at → at ≡ place_read (read_values r)
unfolding place_read
place_expression r left at e = ap (λ (x : Read). place_read (read_values x)) (sym e)

pub place_temporary : (r : Read) (cell stem : ℕ) → r ≡ Temporary cell stem → cell ≡ place_read (read_values r)
unfolding place_read
place_temporary r cell stem e = ap (λ (x : Read). place_read (read_values x)) (sym e)

-- ---- reads, one after another

module _ (l : List ℕ) (d at cell stem : ℕ) where
  -- the first gives the expression
  pub first_read : (force : Bool) → read_of (builder_of l d at cell stem force) ≡ Given.expression d at
  unfolding builder_of read_of
  first_read force = go (force || not (is_name_of (look_node l d at).value))
    where
      go : (w : Bool) → read_of (cond w (Wanted d at cell stem) (Direct d at)) ≡ Given.expression d at
      go true = refl
      go false = refl

  -- later ones the temporary, or the name
  pub later_read : is_name_of (look_node l d at).value ≡ false → read_of (after_read (builder_of l d at cell stem false)) ≡ Given.temporary cell stem
  unfolding builder_of read_of after_read
  later_read h = rw h refl

  pub later_name : is_name_of (look_node l d at).value ≡ true → read_of (after_read (builder_of l d at cell stem false)) ≡ Given.expression d at
  unfolding builder_of read_of after_read
  later_name h = rw h refl

  -- a forced one gives the temporary, whatever the expression is
  pub later_forced : read_of (after_read (builder_of l d at cell stem true)) ≡ Given.temporary cell stem
  unfolding builder_of read_of after_read
  later_forced = refl

  -- so a name is settled from the start
  pub name_settled : is_name_of (look_node l d at).value ≡ true → Settled (builder_of l d at cell stem false)
  name_settled h = later_name h ∙ sym (first_read false)

-- any other once it is read
pub after_settled : (b : ReferenceBuilder) → Settled (after_read b)
unfolding read_of after_read
after_settled (Direct left at) = refl
after_settled (Wanted left at cell stem) = refl
after_settled (Held cell stem) = refl

pub settled_read : (b next : ReferenceBuilder) → next ≡ after_read b → Settled next
settled_read b next e = ap (λ (x : ReferenceBuilder). read_of (after_read x)) e ∙ after_settled b ∙ ap read_of (sym e)

pub keeps_read : (b next : ReferenceBuilder) → next ≡ after_read b → Keeps b next
keeps_read b next e s = (settled_read b next e, ap read_of e ∙ s)

pub keeps_same : (b : ReferenceBuilder) → Keeps b b
keeps_same b s = (s, refl)

pub keeps_then : (a b c : ReferenceBuilder) → Keeps a b → Keeps b c → Keeps a c
keeps_then a b c f g s = let x = f s in let y = g x.0 in (y.0, y.1 ∙ x.1)

-- a temporary that is there already
module _ (cell stem : ℕ) where
  pub held_is : Held cell stem ≡ held_in cell stem
  unfolding held_in
  held_is = refl

  pub held_read : read_of (held_in cell stem) ≡ Given.temporary cell stem
  unfolding held_in read_of
  held_read = refl

  pub held_settled : (b : ReferenceBuilder) → b ≡ held_in cell stem → Settled b
  unfolding held_in read_of after_read
  held_settled b e = ap (λ (x : ReferenceBuilder). read_of (after_read x)) e ∙ sym (ap read_of e)
