-- What the counts say of the definition: objects, key temporaries, the first refusal, declarators.
-- Assumes nothing.
use mathlib.Core.Path.{◌≡◌, refl, sym, ap, ap₂, ◌∙◌}
use mathlib.Core.Bool.{Bool, true, false, cond}
use Prim.Native.Nat.{ℕ, zero, suc, ◌+◌, min}
use native.Mathlib.Omega.{arith}
use Rattle.tree.specs.Tree.{Node, Items, count, depth}
use Rattle.tree.specs.Tree.Items.{none, hole, item}
use Rattle.lowering.specs.Parts.{only, gather, or_else, first, ◌+++◌}
use Rattle.lowering.specs.Made.{Context, reference, declares}
use Rattle.lowering.specs.Patterns.{shape, properties, items_of, has_rest_of, left_of, value, key, with_values, replaced, replaced_below, objects_with_rest, objects_below}
use Rattle.lowering.specs.Patterns.Shape.{object_pattern, array_pattern}
use Rattle.lowering.specs.Keys.{key_sort, keys_refusal, key_temporaries, taken}
use Rattle.lowering.specs.Keys as keys
use Rattle.lowering.specs.Rests.{has_no_properties, rest_value}
use Rattle.lowering.specs.Declarations.{keys_before, pattern_declarator, rest_declarator, own, nested, nested_below, object_declarators, pattern_declarators}
use Rattle.pattern.specs.Tally as tally
use Rattle.pattern.specs.Tally.{Totals, limited, both, sum}
use Rattle.pattern.specs.Keys.{key_tally, keys_of, counts_by}
use Rattle.pattern.specs.Objects.{object_itself, object_tally, own_tally, objects_tally, rests_tally}
use Rattle.pattern.specs.Declarators.{made}
use Rattle.pattern.proofs.CappedSums.{tallies, sum_of, sum_append, sum_gather, plus_limited, plus_right, plus_both}
use Rattle.pattern.proofs.KeyCases.{temporaries_law, refusal_law}
use Rattle.pattern.proofs.RestsFound.{no_properties_kept, tally_kept, only_tally, rests_object}
use Rattle.lowering.proofs.ItemLaws.{count_append}
use Rattle.lowering.proofs.Cases.{by_shape}
use Rattle.lowering.proofs.WeightKeys.{values_rest}

-- ---- no item of what is found is a hole

abbrev Solid : Items → Type 0
Solid none = Unit {0}
Solid (hole is) = ⊥
Solid (item n is) = Solid is

solid_append : (is js : Items) → Solid is → Solid js → Solid (is +++ js)
unfolding ◌+++◌
solid_append none js h g = g
solid_append (hole is) js h g = absurd h
solid_append (item n is) js h g = solid_append is js h g

solid_gather : (f : Node → Items) → ((n : Node) → Solid (f n)) → (is : Items) → Solid (gather f is)
unfolding gather
solid_gather f h none = tt
solid_gather f h (hole is) = solid_gather f h is
solid_gather f h (item n is) = solid_append (f n) (gather f is) (h n) (solid_gather f h is)

solid_own : (b : Bool) (p : Node) → Solid (cond b (only p) none)
solid_own true p = tt
solid_own false p = tt

solid_objects : (c : Context) (d : ℕ) (p : Node) → Solid (objects_with_rest c d p)
unfolding objects_with_rest
solid_objects c zero p = tt
solid_objects c (suc d) p =
    by_shape (shape p)
    (λ s. rw (s, objects_with_rest) (solid_append (gather (λ q. objects_with_rest c d (value q)) (properties p)) (cond (has_rest_of p) (only (with_values (λ v. replaced c d v) p)) none) (solid_gather (λ q. objects_with_rest c d (value q)) (λ q. solid_objects c d (value q)) (properties p)) (solid_own (has_rest_of p) (with_values (λ v. replaced c d v) p))))
    (λ s. rw (s, objects_with_rest) (solid_gather (λ e. objects_with_rest c d e) (λ e. solid_objects c d e) (items_of p)))
    (λ s. rw (s, objects_with_rest) (solid_objects c d (left_of p)))
    (λ s. rw (s, objects_with_rest) tt)

-- ---- one object

-- keys are no objects
keys_plain : (s : keys.Key) (b : ℕ) → ((counts_by s b).objects ≡ 0) × ((counts_by s b).patterns ≡ 0)
keys_plain keys.Key.name b = (refl, refl)
keys_plain keys.Key.literal b = (refl, refl)
keys_plain keys.Key.template b = (refl, refl)
keys_plain keys.Key.private b = (refl, refl)
keys_plain keys.Key.again b = (refl, refl)
keys_plain keys.Key.other b = (refl, refl)

none_more : (a b : ℕ) → a ≡ 0 → b ≡ 0 → limited (a + b) ≡ 0
unfolding limited
none_more a b e f = omega arith

plain_items : (is : Items) → ((sum_of tallies (λ q. key_tally (key q)) is).objects ≡ 0) × ((sum_of tallies (λ q. key_tally (key q)) is).patterns ≡ 0)
unfolding sum both key_tally
plain_items none = (refl, refl)
plain_items (hole is) = plain_items is
plain_items (item q is) =
    let h = plain_items is in
    let a = keys_plain (key_sort (key q)) (keys.key_refusal (key q)) in
    (none_more _ _ a.0 h.0, none_more _ _ a.1 h.1)

or_nothing : (a : ℕ) → or_else a 0 ≡ a
unfolding or_else
or_nothing zero = refl
or_nothing (suc a) = refl

module _ (p : Node) where
  one_object_lem : (object_tally p).objects ≡ 1
  unfolding object_tally both object_itself keys_of limited
  one_object_lem = let h = (plain_items (properties p)).0 in omega arith

  its_pattern : (object_tally p).patterns ≡ cond (has_no_properties p) 0 1
  unfolding object_tally both object_itself keys_of limited
  its_pattern = go (has_no_properties p)
    where
      go : (b : Bool) → min ((sum_of tallies (λ q. key_tally (key q)) (properties p)).patterns + cond b 0 1) 65536 ≡ cond b 0 1
      go true = let h = (plain_items (properties p)).1 in omega arith
      go false = let h = (plain_items (properties p)).1 in omega arith

  its_keys : (c : Context) → (object_tally p).temporaries ≡ limited (count (key_temporaries c p))
  unfolding object_tally both object_itself limited
  its_keys c = let h = temporaries_law c p (keys_of p) refl in omega arith

  its_refusal : (object_tally p).refusal ≡ keys_refusal p
  unfolding object_tally both object_itself
  its_refusal = or_nothing (keys_of p).refusal ∙ refusal_law p (keys_of p) refl

-- ---- many

refusal_items : (is : Items) → (objects_tally is).refusal ≡ first keys_refusal is
unfolding sum both first
refusal_items none = refl
refusal_items (hole is) = refusal_items is
refusal_items (item p is) = ap₂ or_else (its_refusal p) (refusal_items is)

objects_count : (is : Items) → Solid is → (objects_tally is).objects ≡ limited (count is)
unfolding sum both count limited
objects_count none h = refl
objects_count (hole is) h = absurd h
objects_count (item p is) h =
    let a = one_object_lem p in
    let b = objects_count is h in
    omega arith

-- ---- what the thin functions answer

module _ (n : Node) (t : Totals) where
  pub objects_below_lem : (c : Context) → ((c : Context) → t ≡ rests_tally c n) → t.objects ≡ limited (count (objects_below c n))
  unfolding rests_tally
  objects_below_lem c e = ap (λ (x : Totals). x.objects) (e c) ∙ objects_count (objects_below c n) (solid_objects c (depth n) n)

  pub below_refuses : (c : Context) → ((c : Context) → t ≡ rests_tally c n) → t.refusal ≡ first keys_refusal (objects_below c n)
  unfolding rests_tally
  below_refuses c e = ap (λ (x : Totals). x.refusal) (e c) ∙ refusal_items (objects_below c n)

-- ---- declarators

made_is : (t : Totals) → made t ≡ limited (t.temporaries + t.patterns + t.objects)
unfolding made
made_is t = plus_limited (t.temporaries + t.patterns) t.objects

made_none : made tally.no_tally ≡ 0
unfolding made limited
made_none = refl

three : (a b c : ℕ) → limited (limited a + limited b + limited c) ≡ limited (a + b + c)
unfolding limited
three a b c = omega arith

made_both : (a b : Totals) → made (both a b) ≡ limited (made a + made b)
unfolding both
made_both a b =
    let x = a.temporaries in
    let y = a.patterns in
    let z = a.objects in
    let u = b.temporaries in
    let v = b.patterns in
    let w = b.objects in
    let s : x + u + (y + v) + (z + w) ≡ x + y + z + (u + v + w) = omega arith in
    made_is (both a b) ∙ three (x + u) (y + v) (z + w) ∙ ap limited s
    ∙ sym (ap₂ (λ (m n : ℕ). limited (m + n)) (made_is a) (made_is b) ∙ plus_limited (x + y + z) (limited (u + v + w)) ∙ plus_right (x + y + z) (u + v + w))

limited_nothing : limited 0 ≡ 0
unfolding limited
limited_nothing = refl

nothing_made : limited (count none) ≡ made (objects_tally none)
unfolding count sum
nothing_made = limited_nothing ∙ sym made_none

-- one list after another
append_made : (a b x y : Items) → limited (count a) ≡ made (objects_tally x) → limited (count b) ≡ made (objects_tally y) → limited (count (a +++ b)) ≡ made (objects_tally (x +++ y))
append_made a b x y e f =
    ap limited (count_append a b) ∙ sym (plus_both (count a) (count b)) ∙ ap₂ (λ (m n : ℕ). limited (m + n)) e f
    ∙ sym (ap made (sum_append tallies object_tally x y) ∙ made_both (objects_tally x) (objects_tally y))

append_swapped : (a b x y : Items) → limited (count a) ≡ made (objects_tally y) → limited (count b) ≡ made (objects_tally x) → limited (count (a +++ b)) ≡ made (objects_tally (x +++ y))
append_swapped a b x y e f =
    let s : count a + count b ≡ count b + count a = omega arith in
    ap limited (count_append a b ∙ s) ∙ sym (plus_both (count b) (count a)) ∙ ap₂ (λ (m n : ℕ). limited (m + n)) f e
    ∙ sym (ap made (sum_append tallies object_tally x y) ∙ made_both (objects_tally x) (objects_tally y))

-- those of one object with rest
abbrev own_count : Context → Node → ℕ
own_count c p = count (key_temporaries c p) + cond (has_no_properties p) 0 1 + 1

made_one : (c : Context) (p : Node) → made (object_tally p) ≡ limited (own_count c p)
made_one c p =
    made_is (object_tally p)
    ∙ ap (λ (x : ℕ). limited (x + (object_tally p).patterns + (object_tally p).objects)) (its_keys p c)
    ∙ ap₂ (λ (x y : ℕ). limited (limited (count (key_temporaries c p)) + x + y)) (its_pattern p) (one_object_lem p)
    ∙ go (cond (has_no_properties p) 0 1)
  where
    go : (n : ℕ) → limited (limited (count (key_temporaries c p)) + n + 1) ≡ limited (count (key_temporaries c p) + n + 1)
    go n =
        let s : limited (count (key_temporaries c p)) + n + 1 ≡ limited (count (key_temporaries c p)) + (n + 1) = omega arith in
        let r : count (key_temporaries c p) + (n + 1) ≡ count (key_temporaries c p) + n + 1 = omega arith in
        ap limited s ∙ plus_limited (count (key_temporaries c p)) (n + 1) ∙ ap limited r

own_count_lem : (c : Context) (p s : Node) → has_rest_of p ≡ true → count (own c p s) ≡ own_count c p
unfolding own keys_before pattern_declarator rest_declarator count
own_count_lem c p s e =
    rw e
    (count_append (key_temporaries c p) (cond (has_no_properties p) none (only (declares (taken c p) s)) +++ only (declares (Rattle.lowering.specs.Patterns.rest p) (rest_value c p s)))
    ∙ ap (λ (x : ℕ). count (key_temporaries c p) + x) (count_append (cond (has_no_properties p) none (only (declares (taken c p) s))) (only (declares (Rattle.lowering.specs.Patterns.rest p) (rest_value c p s))))
    ∙ go (has_no_properties p) (declares (taken c p) s) (declares (Rattle.lowering.specs.Patterns.rest p) (rest_value c p s)))
  where
    go : (b : Bool) (m n : Node) → count (key_temporaries c p) + (count (cond b none (only m)) + count (only n)) ≡ count (key_temporaries c p) + cond b 0 1 + 1
    go true m n = omega arith
    go false m n = omega arith

own_counted : (c : Context) (f : Node → Node) (p s : Node) → limited (count (cond (has_rest_of p) (own c (with_values f p) s) none)) ≡ made (objects_tally (cond (has_rest_of p) (only (with_values f p)) none))
unfolding sum count
own_counted c f p s = go (has_rest_of p) refl
  where
    go : (b : Bool) → has_rest_of p ≡ b → limited (count (cond b (own c (with_values f p) s) none)) ≡ made (objects_tally (cond b (only (with_values f p)) none))
    go true e = ap limited (own_count_lem c (with_values f p) s (values_rest f p ∙ e)) ∙ sym (made_one c (with_values f p)) ∙ ap made (sym (only_tally (with_values f p)))
    go false e = limited_nothing ∙ sym made_none

gather_made : (f g : Node → Items) → ((n : Node) → limited (count (f n)) ≡ made (objects_tally (g n))) → (is : Items) → limited (count (gather f is)) ≡ made (objects_tally (gather g is))
unfolding gather
gather_made f g h none = nothing_made
gather_made f g h (hole is) = gather_made f g h is
gather_made f g h (item n is) =
    append_made (f n) (gather f is) (g n) (gather g is) (h n) (gather_made f g h is)

four : (a b x y : Items) → count (a +++ b +++ x +++ y) ≡ count a + (count b + (count x + count y))
four a b x y =
    count_append a (b +++ x +++ y) ∙ ap (λ (n : ℕ). count a + n) (count_append b (x +++ y) ∙ ap (λ (n : ℕ). count b + n) (count_append x y))

counts_of : (r b : Bool) (ks is : Items) (m n : Node) → count (cond r ks none) + (count (cond b none (only m)) + (count is + count (cond r (only n) none))) ≡ cond r (count ks) 0 + (cond b 0 1 + (count is + cond r 1 0))
unfolding count
counts_of true true ks is m n = omega arith
counts_of true false ks is m n = omega arith
counts_of false true ks is m n = omega arith
counts_of false false ks is m n = omega arith

shuffled : (i k b : ℕ) → i + (k + b + 1) ≡ k + (b + (i + 1))
shuffled i k b = omega arith

module _ (c : Context) where
  -- the declarators that are found below a pattern
  nested_made : (d : ℕ) (p : Node) → limited (count (nested c d p)) ≡ made (objects_tally (objects_with_rest c d p))
  unfolding nested objects_with_rest
  nested_made zero p = nothing_made
  nested_made (suc d) p =
      let f : Node → Node = λ v. replaced c d v in
      by_shape (shape p)
      (λ s. rw (s, nested, objects_with_rest)
      (append_swapped (cond (has_rest_of p) (own c (with_values f p) (reference c p)) none) (gather (λ q. nested c d (value q)) (properties p)) (gather (λ q. objects_with_rest c d (value q)) (properties p)) (cond (has_rest_of p) (only (with_values f p)) none)
      (own_counted c f p (reference c p)) (gather_made (λ q. nested c d (value q)) (λ q. objects_with_rest c d (value q)) (λ q. nested_made d (value q)) (properties p))))
      (λ s. rw (s, nested, objects_with_rest) (gather_made (λ e. nested c d e) (λ e. objects_with_rest c d e) (λ e. nested_made d e) (items_of p)))
      (λ s. rw (s, nested, objects_with_rest) (nested_made d (left_of p)))
      (λ s. rw (s, nested, objects_with_rest) nothing_made)

  -- with the pattern's own depth
  pub nested_below_lem : (p : Node) → limited (count (nested_below c p)) ≡ made (rests_tally c p)
  unfolding rests_tally
  nested_below_lem p = nested_made (depth p) p

  -- an array pattern: one more, for the pattern
  pub array_declarators : (p s : Node) → shape p ≡ array_pattern → limited (made (rests_tally c p) + 1) ≡ limited (count (pattern_declarators c p s))
  unfolding pattern_declarators count
  array_declarators p s e =
      let o : count (nested_below c p) + 1 ≡ 1 + count (nested_below c p) = omega arith in
      ap (λ (x : ℕ). limited (x + 1)) (sym (nested_below_lem p)) ∙ plus_limited (count (nested_below c p)) 1
      ∙ rw (e, pattern_declarators) (ap limited (o ∙ sym (count_append (only (declares (replaced_below c p) s)) (nested_below c p))))

  pub no_declarators : (p s : Node) → (shape p ≡ object_pattern → ⊥) → (shape p ≡ array_pattern → ⊥) → 0 ≡ limited (count (pattern_declarators c p s))
  unfolding pattern_declarators count limited
  no_declarators p s a b =
      by_shape (shape p) (λ e. absurd (a e)) (λ e. absurd (b e)) (λ e. rw (e, pattern_declarators)) (λ e. rw (e, pattern_declarators))

  -- ---- an object pattern

  module _ (p s : Node) where
    abbrev inner : Items
    inner = gather (λ r. nested_below c (value r)) (properties p)

    abbrev emptied : Node
    emptied = with_values (λ v. replaced_below c v) p

    inner_made : limited (count inner) ≡ made (sum_of tallies (λ q. rests_tally c (value q)) (properties p))
    unfolding rests_tally
    inner_made =
        gather_made (λ r. nested_below c (value r)) (λ r. objects_below c (value r)) (λ r. nested_made (depth (value r)) (value r)) (properties p)
        ∙ ap made (sum_gather tallies object_tally (λ r. objects_below c (value r)) (properties p))

    all_made : shape p ≡ object_pattern → made (rests_tally c p) ≡ limited (count inner + made (own_tally p))
    all_made e =
        ap made (rests_object c p e) ∙ made_both (sum_of tallies (λ q. rests_tally c (value q)) (properties p)) (own_tally p)
        ∙ ap (λ (x : ℕ). limited (x + made (own_tally p))) (sym inner_made) ∙ plus_limited (count inner) (made (own_tally p))

    object_count : (r b : Bool) → has_rest_of p ≡ r → has_no_properties p ≡ b → count (object_declarators c p s) ≡ cond r (count (key_temporaries c emptied)) 0 + (cond b 0 1 + (count inner + cond r 1 0))
    unfolding object_declarators keys_before pattern_declarator rest_declarator
    object_count r b e f =
        rw (values_rest (λ v. replaced_below c v) p ∙ e, no_properties_kept (λ v. replaced_below c v) p ∙ f)
        (four (cond r (key_temporaries c emptied) none) (cond b none (only (declares (taken c emptied) s))) inner (cond r (only (declares (Rattle.lowering.specs.Patterns.rest emptied) (rest_value c emptied s))) none)
        ∙ counts_of r b (key_temporaries c emptied) inner (declares (taken c emptied) s) (declares (Rattle.lowering.specs.Patterns.rest emptied) (rest_value c emptied s)))

    object_is : shape p ≡ object_pattern → pattern_declarators c p s ≡ object_declarators c p s
    unfolding pattern_declarators
    object_is e = rw (e, pattern_declarators)

    pub object_with_rest : shape p ≡ object_pattern → has_rest_of p ≡ true → made (rests_tally c p) ≡ limited (count (pattern_declarators c p s))
    unfolding own_tally
    object_with_rest e r =
        all_made e ∙ rw (r, own_tally) (ap (λ (x : ℕ). limited (count inner + x)) (ap made (sym (tally_kept (λ v. replaced_below c v) p)) ∙ made_one c emptied)
        ∙ plus_right (count inner) (own_count c emptied) ∙ go (has_no_properties p) refl)
      where
        go : (b : Bool) → has_no_properties p ≡ b → limited (count inner + own_count c emptied) ≡ limited (count (pattern_declarators c p s))
        go b f =
            let k : ℕ = count (key_temporaries c emptied) in
            let o : count inner + (k + cond b 0 1 + 1) ≡ k + (cond b 0 1 + (count inner + 1)) = shuffled (count inner) k (cond b 0 1) in
            ap (λ (x : Bool). limited (count inner + (k + cond x 0 1 + 1))) (no_properties_kept (λ v. replaced_below c v) p ∙ f)
            ∙ ap limited (o ∙ sym (ap count (object_is e) ∙ object_count true b r f))

    pub object_bare : shape p ≡ object_pattern → has_rest_of p ≡ false → has_no_properties p ≡ true → made (rests_tally c p) ≡ limited (count (pattern_declarators c p s))
    unfolding own_tally
    object_bare e r f =
        let o : count inner + 0 ≡ 0 + (0 + (count inner + 0)) = omega arith in
        all_made e ∙ rw (r, own_tally) (ap (λ (x : ℕ). limited (count inner + x)) made_none ∙ ap limited (o ∙ sym (ap count (object_is e) ∙ object_count false true r f)))

    pub object_pattern_lem : shape p ≡ object_pattern → has_rest_of p ≡ false → has_no_properties p ≡ false → limited (made (rests_tally c p) + 1) ≡ limited (count (pattern_declarators c p s))
    unfolding own_tally
    object_pattern_lem e r f =
        let o : count inner + 0 + 1 ≡ 0 + (1 + (count inner + 0)) = omega arith in
        ap (λ (x : ℕ). limited (x + 1)) (all_made e) ∙ plus_limited (count inner + made (own_tally p)) 1
        ∙ rw (r, own_tally) (ap (λ (x : ℕ). limited (count inner + x + 1)) made_none ∙ ap limited (o ∙ sym (ap count (object_is e) ∙ object_count false false r f)))
