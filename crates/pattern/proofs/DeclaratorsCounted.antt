-- Declarators, counted, case by case; and the first refusal at the keys of a declaration.
-- Assumes nothing.
use mathlib.Core.Path.{◌≡◌, refl, sym, ap, subst, ◌∙◌}
use mathlib.Core.Bool.{Bool, true, false, cond, not, ◌&&◌}
use mathlib.Core.List.{List, ◌∷◌}
use Prim.Native.Nat.{ℕ, zero, suc, ◌+◌, ◌-◌, ◌<◌, ◌≤◌}
use native.Mathlib.Omega.{arith}
use lib.Dec.{eqb}
use borrow.Author.Tests.{eq-eqb, ne_eqb}
use Rattle.std.specs.Prelude.{Option, None}
use Rattle.std.specs.List.{FoldsTo}
use Rattle.tree.specs.Tree.{Node, Items, count}
use Rattle.tree.specs.Tree.Items.{none}
use Rattle.tree.specs.Read.{byte_at}
use Rattle.tree.specs.Answer.{Peeked}
use Rattle.tree.specs.Look.{look_item, look_node}
use Rattle.lowering.specs.Parts.{nothing, node_at_of, items_at_of, stands, only, gather, or_else, first}
use Rattle.lowering.specs.Made.{Context, declares, value_of}
use Rattle.lowering.specs.Patterns.{shape, objects_with_rest, objects_below}
use Rattle.lowering.specs.Keys.{keys_refusal}
use Rattle.lowering.specs.Rests.{has_no_properties}
use Rattle.lowering.specs.Declarations.{is_name_of, source, source_declarator, pattern_declarators, lower_declarator, is_lowered, declarators, lowered_in, declaration_refusal}
use Rattle.pattern.specs.declared.parts.Place.{Place}
use Rattle.pattern.specs.declared.parts.Run.{Run}
use Rattle.pattern.specs.Parts.{part_at, place_of, run_of, node_here}
use Rattle.pattern.specs.declared.tally.Refusal.{Refusal}
use Rattle.pattern.specs.Refusals.{refusal_number}
use Rattle.pattern.specs.Tally.{Totals, limited}
use Rattle.pattern.specs.Objects.{rests_tally}
use Rattle.pattern.specs.Declarators.{made, declarator_refusal, starts, run_starts, starts_in}
use Rattle.pattern.proofs.NodeParts.{Blank, child_is, list_is, kind_is, no_levels}
use Rattle.pattern.proofs.Below as below
use Rattle.pattern.proofs.CappedSums.{Adding, numbers, refusals, first_sum, Adds, sum_of, list_sum, sum_start, sum_more, sum_end, plus_right}
use Rattle.pattern.proofs.MovesCounted.{count_sum}
use Rattle.pattern.proofs.SourceReads.{name_blank}
use Rattle.pattern.proofs.Counting as counting
use Rattle.pattern.proofs.Searches as search
use Rattle.lowering.proofs.ItemLaws.{count_append}

pub made_sum : (t : Totals) (x y : ℕ) → x ≡ limited (t.temporaries + t.patterns) → y ≡ limited (x + t.objects) → y ≡ made t
unfolding made
made_sum t x y e f = f ∙ ap (λ (n : ℕ). limited (n + t.objects)) e

-- ---- the declarators of a pattern

abbrev pub pattern_count : Context → Node → Node → ℕ
pattern_count c s p = limited (count (pattern_declarators c p s))

pattern_blank : (c : Context) (s : Node) → Blank (pattern_count c s)
unfolding pattern_declarators shape
pattern_blank c s at = refl

pattern_bare : (c : Context) (s : Node) → pattern_count c s nothing ≡ 0
unfolding pattern_declarators shape count limited
pattern_bare c s = refl

abbrev refusing : Context → Node → ℕ
refusing c p = first keys_refusal (objects_below c p)

refusing_blank : (c : Context) → Blank (refusing c)
unfolding objects_with_rest shape Rattle.tree.specs.Tree.depth first
refusing_blank c at = refl

module _ (l : List ℕ) where
  pub pattern_none : (d at : ℕ) → d ≡ 0 → (c : Context) (s : Node) → 0 ≡ pattern_count c s (look_node l d at).value
  pattern_none d at z c s = sym (ap (pattern_count c s) (no_levels l d at z) ∙ pattern_blank c s at ∙ pattern_bare c s)

  module _ (d at k : ℕ) (z : d ≡ 0 → ⊥) (e : k ≡ byte_at l at) where
    abbrev here : Node
    here = (look_node l d at).value

    pub object_rest_lem : (t : Totals) (n : ℕ) (b : Bool) → k ≡ 34 → ((c : Context) → t ≡ rests_tally c here) → n ≡ made t → b ≡ stands 1 here → b ≡ true → (c : Context) (s : Node) → n ≡ pattern_count c s here
    object_rest_lem t n b y w v r i c s = v ∙ ap made (w c) ∙ counting.object_with_rest c here s (search.object_shape l d at k z e y) (sym r ∙ i)

    pub object_empty : (t : Totals) (n : ℕ) (b f : Bool) → k ≡ 34 → ((c : Context) → t ≡ rests_tally c here) → n ≡ made t → b ≡ stands 1 here → b ≡ false → f ≡ has_no_properties here → f ≡ true → (c : Context) (s : Node) → n ≡ pattern_count c s here
    object_empty t n b f y w v r i g h c s = v ∙ ap made (w c) ∙ counting.object_bare c here s (search.object_shape l d at k z e y) (sym r ∙ i) (sym g ∙ h)

    pub object_filled : (t : Totals) (n u : ℕ) (b f : Bool) → k ≡ 34 → ((c : Context) → t ≡ rests_tally c here) → n ≡ made t → b ≡ stands 1 here → b ≡ false → f ≡ has_no_properties here → f ≡ false → u ≡ limited (n + 1) → (c : Context) (s : Node) → u ≡ pattern_count c s here
    object_filled t n u b f y w v r i g h o c s =
        o ∙ ap (λ (x : ℕ). limited (x + 1)) (v ∙ ap made (w c)) ∙ counting.object_pattern_lem c here s (search.object_shape l d at k z e y) (sym r ∙ i) (sym g ∙ h)

    pub array_one : (t : Totals) (n u : ℕ) → k ≡ 36 → ((c : Context) → t ≡ rests_tally c here) → n ≡ made t → u ≡ limited (n + 1) → (c : Context) (s : Node) → u ≡ pattern_count c s here
    array_one t n u y w v o c s = o ∙ ap (λ (x : ℕ). limited (x + 1)) (v ∙ ap made (w c)) ∙ counting.array_declarators c here s (search.array_shape l d at k z e y)

    pub other_none : (k ≡ 34 → ⊥) → (k ≡ 36 → ⊥) → (c : Context) (s : Node) → 0 ≡ pattern_count c s here
    other_none a b c s =
        counting.no_declarators c here s
        (λ w. a (sym (kind_is l d at k z e) ∙ below.object_kind here w))
        (λ w. b (sym (kind_is l d at k z e) ∙ below.array_kind here w))

  -- ---- a declarator

  pub lowered_yes : (d at : ℕ) (b f : Bool) (s : Place) → b ≡ stands 1 (look_node l d at).value → b ≡ true → s ≡ place_of d at (part_at l d at 0) → f ≡ below.has (node_here l s) → f ≡ is_lowered (look_node l d at).value
  unfolding is_lowered
  lowered_yes d at b f s r i e a = a ∙ child_is l below.has below.has_blank d at 0 s e ∙ ap (λ (x : Bool). x && below.has (node_at_of 0 (look_node l d at).value)) (sym i ∙ r)

  pub lowered_no : (d at : ℕ) (b : Bool) → b ≡ stands 1 (look_node l d at).value → b ≡ false → false ≡ is_lowered (look_node l d at).value
  unfolding is_lowered
  lowered_no d at b r i = ap (λ (x : Bool). x && below.has (node_at_of 0 (look_node l d at).value)) (sym i ∙ r)

  module _ (d at : ℕ) (b : Bool) (y : b ≡ is_lowered (look_node l d at).value) where
    abbrev this : Node
    this = (look_node l d at).value

    pub kept_one : b ≡ false → (c : Context) → 1 ≡ limited (count (declarators c this))
    unfolding declarators count limited
    kept_one i c = rw (sym y ∙ i)

    lowered_count : (c : Context) → b ≡ true → count (declarators c this) ≡ count (source_declarator c (node_at_of 0 this) (node_at_of 1 this)) + count (pattern_declarators c (node_at_of 0 this) (source c (node_at_of 0 this) (node_at_of 1 this)))
    unfolding declarators lower_declarator
    lowered_count c i = rw (sym y ∙ i) (count_append (source_declarator c (node_at_of 0 this) (node_at_of 1 this)) (pattern_declarators c (node_at_of 0 this) (source c (node_at_of 0 this) (node_at_of 1 this))))

    module _ (i : b ≡ true) (p v : Place) (n : ℕ) (g : Bool) (e : p ≡ place_of d at (part_at l d at 0)) (w : (c : Context) (s : Node) → n ≡ pattern_count c s (node_here l p)) (f : v ≡ place_of d at (part_at l d at 1)) (a : g ≡ is_name_of (node_here l v)) where
      named : g ≡ is_name_of (node_at_of 1 this)
      named = a ∙ child_is l is_name_of name_blank d at 1 v f

      counted : (c : Context) → n ≡ pattern_count c (source c (node_at_of 0 this) (node_at_of 1 this)) (node_at_of 0 this)
      counted c = w c (source c (node_at_of 0 this) (node_at_of 1 this)) ∙ child_is l (pattern_count c (source c (node_at_of 0 this) (node_at_of 1 this))) (pattern_blank c (source c (node_at_of 0 this) (node_at_of 1 this))) d at 0 p e

      pub becomes_named : g ≡ true → (c : Context) → n ≡ limited (count (declarators c this))
      unfolding source_declarator count
      becomes_named t c =
          let m : ℕ = count (pattern_declarators c (node_at_of 0 this) (source c (node_at_of 0 this) (node_at_of 1 this))) in
          let o : m ≡ 0 + m = omega arith in
          counted c ∙ ap limited o
          ∙ ap limited (ap (λ (x : Bool). count (cond x none (only (declares (value_of c (node_at_of 0 this)) (node_at_of 1 this)))) + m) (sym t ∙ named) ∙ sym (lowered_count c i))

      pub becomes_other : (u : ℕ) → g ≡ false → u ≡ limited (1 + n) → (c : Context) → u ≡ limited (count (declarators c this))
      unfolding source_declarator count
      becomes_other u t o c =
          let m : ℕ = count (pattern_declarators c (node_at_of 0 this) (source c (node_at_of 0 this) (node_at_of 1 this))) in
          o ∙ ap (λ (x : ℕ). limited (1 + x)) (counted c) ∙ plus_right 1 m
          ∙ ap limited (ap (λ (x : Bool). count (cond x none (only (declares (value_of c (node_at_of 0 this)) (node_at_of 1 this)))) + m) (sym t ∙ named) ∙ sym (lowered_count c i))

    -- the first refusal
    pub refuses_yes : b ≡ true → (s : Place) (f : ℕ) → s ≡ place_of d at (part_at l d at 0) → ((c : Context) → f ≡ refusing c (node_here l s)) → (c : Context) → f ≡ declarator_refusal c this
    unfolding lowered_in
    refuses_yes i s f e a c = rw (sym y ∙ i) (a c ∙ child_is l (refusing c) (refusing_blank c) d at 0 s e)

    pub refuses_no : b ≡ false → (c : Context) → 0 ≡ declarator_refusal c this
    unfolding lowered_in first
    refuses_no i c = rw (sym y ∙ i)

  -- ---- the declarators of a declaration, one after the other

  abbrev pub declared_in : ℕ → ℕ → Items
  declared_in left at = items_at_of 2 (look_node l left at).value

  abbrev next : ℕ → Bool → ℕ → ℕ
  next d h at = (look_item l (look_node l d) h at).next

  -- whether an item is a hole, by the byte there
  is_hole : (h : Bool) (at : ℕ) → not h ≡ false → byte_at l at ≡ 0 → h && eqb (byte_at l at) 0 ≡ true
  is_hole true at y w = eq-eqb (byte_at l at) 0 w
  is_hole false at y w = cc

  pub no_holes : (h : Bool) (at : ℕ) → not h ≡ true → h && eqb (byte_at l at) 0 ≡ false
  no_holes true at e = cc
  no_holes false at e = refl

  pub no_hole : (h : Bool) (at n : ℕ) → Peeked l at n → (n ≡ 0 → ⊥) → h && eqb (byte_at l at) 0 ≡ false
  no_hole true at n p z = ne_eqb (byte_at l at) 0 (λ y. z (p.value ∙ y))
  no_hole false at n p z = refl

  module _ {T : Type 0} (R : T → ℕ → T → Type 0) where
    pub folds_none : (left at : ℕ) (t : T) → left ≡ 0 → FoldsTo R t (starts_in l left at) t
    unfolding part_at run_of starts
    folds_none left at t z = rw z refl

    pub folds_start : (left at : ℕ) (r : Run) (t u : T) → r ≡ run_of at (part_at l left at 2) → FoldsTo R t (starts l (left - 1) r.holes (r.count - 0) r.from) u → FoldsTo R t (starts_in l left at) u
    folds_start left at r t u e a = subst (λ (x : Run). FoldsTo R t (run_starts l (left - 1) x) u) e (let s : r.count - 0 ≡ r.count = omega arith in subst (λ (m : ℕ). FoldsTo R t (starts l (left - 1) r.holes m r.from) u) s a)

    pub folds_end : (d : ℕ) (h : Bool) (n i at : ℕ) (t : T) → n ≤ i → FoldsTo R t (starts l d h (n - i) at) t
    unfolding starts
    folds_end d h n i at t z = let s : n - i ≡ 0 = omega arith in rw s refl

    module _ (d : ℕ) (h : Bool) (n i at q : ℕ) (t u : T) (z : i < n) (g : q ≡ next d h at) where
      split : starts l d h (n - i) at ≡ cond (h && eqb (byte_at l at) 0) (starts l d h (n - (i + 1)) q) (at ∷ starts l d h (n - (i + 1)) q)
      unfolding starts
      split = let s : n - i ≡ suc (n - (i + 1)) = omega arith in rw (s, g) refl

      pub folds_hole : (j : T) → not h ≡ false → byte_at l at ≡ 0 → j ≡ t → FoldsTo R j (starts l d h (n - (i + 1)) q) u → FoldsTo R t (starts l d h (n - i) at) u
      folds_hole j y w e a =
          subst (λ (x : List ℕ). FoldsTo R t x u) (sym (split ∙ ap (λ (b : Bool). cond b (starts l d h (n - (i + 1)) q) (at ∷ starts l d h (n - (i + 1)) q)) (is_hole h at y w)))
          (subst (λ (x : T). FoldsTo R x (starts l d h (n - (i + 1)) q) u) e a)

      pub folds_node : (j : T) → h && eqb (byte_at l at) 0 ≡ false → R t at j → FoldsTo R j (starts l d h (n - (i + 1)) q) u → FoldsTo R t (starts l d h (n - i) at) u
      folds_node j y r a = subst (λ (x : List ℕ). FoldsTo R t x u) (sym (split ∙ ap (λ (b : Bool). cond b (starts l d h (n - (i + 1)) q) (at ∷ starts l d h (n - (i + 1)) q)) y)) (j, r, a)

  -- where R adds what f says of a node, a fold over the nodes is their sum
  module _ {T A : Type 0} (M : Adding A) (v : T → A) (f : Node → A) (R : T → ℕ → T → Type 0) (d : ℕ) (step : (t : T) (p : ℕ) (u : T) → R t p u → v u ≡ M.add (v t) (f (look_node l d p).value)) (w : A) where
    turned : (h : Bool) (n at : ℕ) (t x u : A) → x ≡ cond (h && eqb (byte_at l at) 0) M.empty (f (look_node l d at).value) → u ≡ M.add t x → Adds M t (list_sum M l f d h (suc n) at) w → Adds M u (list_sum M l f d h n (next d h at)) w
    turned h n at t x u e g a =
        let s : suc n - 1 ≡ n = omega arith in
        subst (λ (m : ℕ). Adds M u (list_sum M l f d h m (next d h at)) w) s (sum_more M l f d h (suc n) at (next d h at) t x u w (omega arith) e refl g a)

    pub folds_sum : (h : Bool) (n at : ℕ) (t u : T) → FoldsTo R t (starts l d h n at) u → Adds M (v t) (list_sum M l f d h n at) w → v u ≡ w
    unfolding starts
    folds_sum h zero at t u e a = ap v (sym e) ∙ sum_end M l f d h 0 at (v t) w (omega arith) a
    folds_sum h (suc n) at t u e a = go (h && eqb (byte_at l at) 0) refl e (λ x o b. folds_sum h n (next d h at) x u o b)
      where
        go : (b : Bool) → h && eqb (byte_at l at) 0 ≡ b → FoldsTo R t (cond b (starts l d h n (next d h at)) (at ∷ starts l d h n (next d h at))) u
            → ((x : T) → FoldsTo R x (starts l d h n (next d h at)) u → Adds M (v x) (list_sum M l f d h n (next d h at)) w → v u ≡ w) → v u ≡ w
        go true s o rest = rest t o (turned h n at (v t) M.empty (v t) (rw s refl) (sym a.1) a)
        go false s o rest = rest o.0 o.2 (turned h n at (v t) (f (look_node l d at).value) (v o.0) (rw s refl) (step t at o.0 o.1) a)

  -- ---- how many a declaration becomes, and its first refusal

  abbrev pub becoming : Context → Node → ℕ
  becoming c d = limited (count (declarators c d))

  pub becomes_all : (left at u : ℕ) (R : ℕ → ℕ → ℕ → Type 0) → ((t p u : ℕ) → R t p u → (c : Context) → u ≡ limited (t + becoming c (look_node l (left - 1) p).value)) → FoldsTo R 0 (starts_in l left at) u → (c : Context) → u ≡ limited (count (gather (declarators c) (declared_in left at)))
  becomes_all left at u R step e c =
      let r : Run = run_of at (part_at l left at 2) in
      folds_sum numbers (λ (x : ℕ). x) (becoming c) R (left - 1) (λ t p u a. step t p u a c) _ r.holes r.count r.from 0 u e
      (sum_start numbers l (becoming c) (left - 1) r.holes r.count r.from 0 _ refl (ap (sum_of numbers (becoming c)) (list_is l left at 2 r refl) ∙ count_sum (declarators c) (declared_in left at)))

  pub refuses_all : (left at : ℕ) (u : Option Refusal) (R : Option Refusal → ℕ → Option Refusal → Type 0) → ((t : Option Refusal) (p : ℕ) (u : Option Refusal) → R t p u → (c : Context) → refusal_number u ≡ or_else (refusal_number t) (declarator_refusal c (look_node l (left - 1) p).value)) → FoldsTo R None (starts_in l left at) u → (c : Context) → refusal_number u ≡ declaration_refusal c (look_node l left at).value
  unfolding declaration_refusal
  refuses_all left at u R step e c =
      let r : Run = run_of at (part_at l left at 2) in
      folds_sum refusals refusal_number (declarator_refusal c) R (left - 1) (λ t p u a. step t p u a c) _ r.holes r.count r.from None u e
      (sum_start refusals l (declarator_refusal c) (left - 1) r.holes r.count r.from 0 _ refl (ap (sum_of refusals (declarator_refusal c)) (list_is l left at 2 r refl) ∙ first_sum (declarator_refusal c) (declared_in left at)))
