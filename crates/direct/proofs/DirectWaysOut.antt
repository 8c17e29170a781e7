-- The direct form, one way out of each definition at a time.
-- Assumes nothing.
use mathlib.Core.Path.{◌≡◌, refl}
use mathlib.Core.Bool.{Bool, true, false}
use mathlib.Core.List.{[], ◌∷◌}
use Prim.Native.Nat.{ℕ}
use Rattle.tree.specs.Tree.{Node, Items}
use Rattle.lowering.specs.Parts.{position, node_at_of, items_at_of, piece_in, stands, stands_in, is_empty}
use Rattle.lowering.specs.Patterns.{properties}
use Rattle.lowering.specs.Declarations.{is_name_of, is_lowered}
use Rattle.direct.specs.Events.{Place, Emit, puts, emits}
use Rattle.direct.specs.Emit.{say, ◌▷◌, inner, in_turn}
use Rattle.direct.specs.Views.{object_at, object_rest_at, says_cell, emits_view, is_other, emits_key}
use Rattle.direct.specs.Views.View.{taking}
use Rattle.direct.specs.Keys.{emits_rest}
use Rattle.direct.specs.Declared.{emits_key_value, emits_own_keys, emits_own_pattern, emits_own_rest, emits_pattern, emits_lowered, emits_declarator}

-- ---- keys

module _ (c : Place) (at : ℕ) (k : Node) where
  pub key_plain : (t : Bool) → is_other k ≡ false → emits_key c t at k ≡ emits c k
  unfolding emits_key
  key_plain true e = rw e refl
  key_plain false e = refl

-- ---- declarators

module _ (d : Node) where
  pub declarator_lowered : (c : Place) → is_lowered d ≡ true → emits_declarator c d ≡ emits_lowered c (node_at_of 0 d) (node_at_of 1 d)
  unfolding emits_declarator
  declarator_lowered c e = rw e refl

  pub declarator_left : (c : Place) → is_lowered d ≡ false → emits_declarator c d ≡ emits (inner c) d
  unfolding emits_declarator
  declarator_left c e = rw e refl

module _ (c : Place) where
  pub lowered_name : (p init : Node) → is_name_of init ≡ true → emits_lowered c p init ≡ emits_pattern c p (emits (inner c) init)
  unfolding emits_lowered
  lowered_name p init e = rw e refl

  pub lowered_value : (p init : Node) → is_name_of init ≡ false
      → emits_lowered c p init ≡ say (puts (5 ∷ 3 ∷ [])) ▷ says_cell 3 (position p) ▷ emits (inner c) init ▷ emits_pattern c p (says_cell 3 (position p))
  unfolding emits_lowered
  lowered_value p init e = rw e refl

  pub own_keys_none : (at : ℕ) (ps : Items) → emits_own_keys c (object_at at ps) ≡ say []
  unfolding emits_own_keys stands stands_in
  own_keys_none at ps = refl

  pub own_keys_some : (at : ℕ) (ps : Items) (r : Node) → emits_own_keys c (object_rest_at at ps r) ≡ in_turn (emits_key_value c) ps
  unfolding emits_own_keys stands stands_in items_at_of piece_in
  own_keys_some at ps r = refl

  pub own_pattern_none : (p : Node) (s : Emit) → is_empty (properties p) ≡ true → emits_own_pattern c p s ≡ say []
  unfolding emits_own_pattern
  own_pattern_none p s e = rw e refl

  pub own_pattern_some : (p : Node) (s : Emit) → is_empty (properties p) ≡ false → emits_own_pattern c p s ≡ say (puts (5 ∷ 3 ∷ [])) ▷ emits_view (inner c) taking p ▷ s
  unfolding emits_own_pattern
  own_pattern_some p s e = rw e refl

  pub own_rest_none : (at : ℕ) (ps : Items) (s : Emit) → emits_own_rest c (object_at at ps) s ≡ say []
  unfolding emits_own_rest stands stands_in
  own_rest_none at ps s = refl

  pub own_rest_some : (at : ℕ) (ps : Items) (r : Node) (s : Emit)
      → emits_own_rest c (object_rest_at at ps r) s ≡ say (puts (5 ∷ 3 ∷ [])) ▷ emits (inner c) r ▷ emits_rest (inner c) at ps s
  unfolding emits_own_rest stands stands_in items_at_of node_at_of piece_in
  own_rest_some at ps r s = refl
