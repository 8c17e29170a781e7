-- What the code for rests, keys and parts is told of the scope: places with the answer for their root, and the place of a list's items by its mode.
-- Assumes nothing.
use mathlib.Core.Path.{◌≡◌, refl, sym, ap, ◌∙◌, subst}
use mathlib.Core.Bool.{Bool, true, false}
use Prim.Native.Nat.{ℕ}
use mathlib.Core.List.{List}
use Rattle.direct.specs.Events as events
use Rattle.direct.specs.Emit.{inner, unused, marking}
use Rattle.walk.specs.declared.modes.Deep.{Deep}
use Rattle.walk.specs.declared.modes.Deep.TheVariants.{Found, Reached}
use Rattle.walk.specs.declared.modes.Mode.{Mode}
use Rattle.walk.specs.declared.modes.Mode.TheVariants as modes
use Rattle.walk.specs.declared.place.Place.{Place}
use Rattle.walk.specs.Whole.{place_of, place_with}
use Rattle.walk.specs.Run.{Going}
use Rattle.walk.specs.Turns.{is_told, told_place, item_mode}
use Rattle.walk.proofs.ListTurns.{Turned, Sequenced}

-- ---- places

-- a place with the answer for its root: `place_with` of a place of the code
abbrev pub answered : Bool → events.Place → events.Place
answered root p = record { root = root; statement = p.statement; mark = p.mark }

module _ (root : Bool) {p q : events.Place} where
  pub with_same : q ≡ p → answered root q ≡ answered root p
  with_same e = ap (answered root) e

  -- the answer is the place's
  pub with_own : q ≡ p → root ≡ p.root → answered root q ≡ p
  with_own e h = ap (answered root) e ∙ ap (λ (r : Bool). answered r p) h

module _ (root : Bool) (p : events.Place) {q : events.Place} where
  pub with_inner : q ≡ inner p → answered root q ≡ inner (answered root p)
  unfolding inner
  with_inner e = ap (answered root) e

  module _ (h : root ≡ p.root) where
    pub own_inner : q ≡ inner p → answered root q ≡ inner p
    unfolding inner
    own_inner e = with_own root e h

    pub own_statement : (m : ℕ) → q ≡ unused (marking p m) → answered root q ≡ unused (marking p m)
    unfolding unused marking
    own_statement m e = with_own root e h

    pub own_marked : {i : events.Place} (m : ℕ) → i ≡ inner p → q ≡ marking i m → answered root q ≡ marking i m
    unfolding inner marking
    own_marked m f e = with_own root e (h ∙ ap (λ (x : events.Place). x.root) (sym f))

-- ---- lists

module _ (root : Bool) (c : Place) (mode : Mode) where
  pub told_with : is_told mode ≡ true → told_place mode root c ≡ place_with root c
  unfolding told_place
  told_with h = rw h refl

  pub told_own : is_told mode ≡ false → told_place mode root c ≡ place_of c
  unfolding told_place
  told_own h = rw h refl

-- the items of an array
pub item_told : (d : Deep) (m : Mode) → m ≡ item_mode d → is_told m ≡ true
unfolding is_told
item_told Found m e = ap is_told e
item_told (Reached r) m e = ap is_told e

-- one mode each
pub told_below : (d : Deep) → is_told (modes.Below d) ≡ true
unfolding is_told
told_below d = refl

pub told_value_lem : (d : Deep) → is_told (modes.Value d) ≡ true
unfolding is_told
told_value_lem d = refl

pub told_declarator : is_told modes.Declarator ≡ true
unfolding is_told
told_declarator = refl

pub untold_viewed : is_told modes.Viewed ≡ false
unfolding is_told
untold_viewed = refl

pub untold_moved_out : is_told modes.MovedOut ≡ false
unfolding is_told
untold_moved_out = refl

pub untold_property : (taken : Bool) → is_told (modes.Property taken) ≡ false
unfolding is_told
untold_property taken = refl

pub untold_excluded_key : is_told modes.ExcludedKey ≡ false
unfolding is_told
untold_excluded_key = refl

pub untold_key_value : is_told modes.KeyValue ≡ false
unfolding is_told
untold_key_value = refl

pub untold_binding : is_told modes.Binding ≡ false
unfolding is_told
untold_binding = refl

-- ---- a list and one of its items, at the place that is told or at their own

module _ (t : List ℕ) (root : Bool) (c : Place) (mode : Mode) (d at q : ℕ) (h : Bool) (g g' : Going) where
  pub items_with : (n : ℕ) → is_told mode ≡ true → Sequenced t mode (told_place mode root c) d h n at q g g' → Sequenced t mode (place_with root c) d h n at q g g'
  items_with n e s = subst (λ (p : events.Place). Sequenced t mode p d h n at q g g') (told_with root c mode e) s

  pub items_own : (n : ℕ) → is_told mode ≡ false → Sequenced t mode (told_place mode root c) d h n at q g g' → Sequenced t mode (place_of c) d h n at q g g'
  items_own n e s = subst (λ (p : events.Place). Sequenced t mode p d h n at q g g') (told_own root c mode e) s

  pub item_with : is_told mode ≡ true → Turned t mode (place_with root c) d h at q g g' → Turned t mode (told_place mode root c) d h at q g g'
  item_with e s = subst (λ (p : events.Place). Turned t mode p d h at q g g') (sym (told_with root c mode e)) s

  pub item_own : is_told mode ≡ false → Turned t mode (place_of c) d h at q g g' → Turned t mode (told_place mode root c) d h at q g g'
  item_own e s = subst (λ (p : events.Place). Turned t mode p d h at q g g') (sym (told_own root c mode e)) s
