-- Laws of lists of nodes: one behind another, changed item by item, gathered, tested and counted.
-- Assumes nothing.
use mathlib.Core.Path.{◌≡◌, refl, ap, fun_ext, sym, ◌∙◌}
use mathlib.Core.Bool.{Bool, ◌||◌, true, false, or_assoc}
use mathlib.Core.List.{List, [], ◌∷◌, ◌++◌, append_assoc}
use Prim.Native.Nat.{ℕ, suc, ◌+◌}
use native.Mathlib.Omega.{arith}
use Rattle.tree.specs.Tree.{Items, Node, count}
use Rattle.tree.specs.Tree.Items.{none, hole, item}
use Rattle.lowering.specs.Parts.{◌+++◌, each, gather, only, any, first, is_empty}
use Rattle.lowering.specs.Collect.{Name, over, numbered, numbered_items}
use Rattle.lowering.proofs.Cases.{or_left, or_right}

pub items_assoc : (is js ks : Items) → (is +++ js) +++ ks ≡ is +++ (js +++ ks)
unfolding ◌+++◌
items_assoc Items.none js ks = refl
items_assoc (Items.hole is) js ks = ap Items.hole (items_assoc is js ks)
items_assoc (Items.item n is) js ks = ap (Items.item n) (items_assoc is js ks)

pub items_none : (is : Items) → is +++ Items.none ≡ is
unfolding ◌+++◌
items_none Items.none = refl
items_none (Items.hole is) = ap Items.hole (items_none is)
items_none (Items.item n is) = ap (Items.item n) (items_none is)

pub each_append : (f : Node → Node) (is js : Items) → each f (is +++ js) ≡ each f is +++ each f js
unfolding each ◌+++◌
each_append f none js = refl
each_append f (hole is) js = ap hole (each_append f is js)
each_append f (item n is) js = ap (item (f n)) (each_append f is js)

pub each_each : (f g : Node → Node) (is : Items) → each f (each g is) ≡ each (λ n. f (g n)) is
unfolding each
each_each f g Items.none = refl
each_each f g (Items.hole is) = ap Items.hole (each_each f g is)
each_each f g (Items.item n is) = ap (Items.item (f (g n))) (each_each f g is)

pub each_same : (f g : Node → Node) → ((n : Node) → f n ≡ g n) → (is : Items) → each f is ≡ each g is
each_same f g h is = ap (λ (k : Node → Node). each k is) (fun_ext h)

pub none_empty : is_empty Items.none ≡ true
unfolding is_empty
none_empty = refl

pub gather_none : (f : Node → Items) → gather f Items.none ≡ Items.none
unfolding gather
gather_none f = refl

pub gather_append : (f : Node → Items) (is js : Items) → gather f (is +++ js) ≡ gather f is +++ gather f js
unfolding gather ◌+++◌
gather_append f none js = refl
gather_append f (hole is) js = gather_append f is js
gather_append f (item n is) js = ap (λ (x : Items). f n +++ x) (gather_append f is js) ∙ sym (items_assoc (f n) (gather f is) (gather f js))

pub gather_only : (f : Node → Items) (n : Node) → gather f (only n) ≡ f n
unfolding gather
gather_only f n = items_none (f n)

pub gather_same : (f g : Node → Items) → ((n : Node) → f n ≡ g n) → (is : Items) → gather f is ≡ gather g is
gather_same f g h is = ap (λ (k : Node → Items). gather k is) (fun_ext h)

pub gather_each : (f : Node → Items) (g : Node → Node) (is : Items) → gather f (each g is) ≡ gather (λ n. f (g n)) is
unfolding each gather
gather_each f g Items.none = refl
gather_each f g (Items.hole is) = gather_each f g is
gather_each f g (Items.item n is) = ap (λ (js : Items). f (g n) +++ js) (gather_each f g is)

pub each_gather : (f : Node → Node) (g : Node → Items) (is : Items) → each f (gather g is) ≡ gather (λ n. each f (g n)) is
unfolding gather each
each_gather f g Items.none = refl
each_gather f g (Items.hole is) = each_gather f g is
each_gather f g (Items.item n is) = each_append f (g n) (gather g is) ∙ ap (λ (x : Items). each f (g n) +++ x) (each_gather f g is)

pub count_none : count Items.none ≡ 0
unfolding count
count_none = refl

pub count_append : (ns ms : Items) → count (ns +++ ms) ≡ count ns + count ms
unfolding count ◌+++◌
count_append Items.none ms = omega arith
count_append (Items.hole ns) ms = let e = count_append ns ms in omega arith
count_append (Items.item n ns) ms = let e = count_append ns ms in omega arith

pub count_each : (f : Node → Node) (is : Items) → count (each f is) ≡ count is
unfolding count each
count_each f Items.none = refl
count_each f (Items.hole is) = ap suc (count_each f is)
count_each f (Items.item n is) = ap suc (count_each f is)

pub any_append : (f : Node → Bool) (ns ms : Items) → any f (ns +++ ms) ≡ any f ns || any f ms
unfolding any ◌+++◌
any_append f Items.none ms = refl
any_append f (Items.hole ns) ms = any_append f ns ms
any_append f (Items.item n ns) ms = ap (λ (x : Bool). f n || x) (any_append f ns ms) ∙ sym (or_assoc (f n) (any f ns) (any f ms))

pub any_behind : (f : Node → Bool) (is : Items) (p : Node) → any f is ≡ false → f p ≡ false → any f (is +++ only p) ≡ false
unfolding any
any_behind f is p h e = any_append f is (only p) ∙ rw (h, e) refl

pub any_none : (u t : Node → Bool) → ((n : Node) → u n ≡ false → t n ≡ false) → (is : Items) → any u is ≡ false → any t is ≡ false
unfolding any
any_none u t h Items.none e = refl
any_none u t h (Items.hole is) e = any_none u t h is e
any_none u t h (Items.item n is) e = rw (h n (or_left (u n) (any u is) e)) (any_none u t h is (or_right (u n) (any u is) e))

pub first_empty : (f : Node → ℕ) → first f Items.none ≡ 0
unfolding first
first_empty f = refl

pub empty_each : (g : Node → Node) (qs : Items) → is_empty (each g qs) ≡ is_empty qs
unfolding is_empty each
empty_each g Items.none = refl
empty_each g (Items.hole qs) = refl
empty_each g (Items.item q qs) = refl

-- ---- what a list of anything leads to

pub over_append : {A B : Type 0} (f : A → List B) (us vs : List A) → over f (us ++ vs) ≡ over f us ++ over f vs
unfolding over
over_append f [] vs = refl
over_append f (u ∷ us) vs = ap (λ (x : List _). f u ++ x) (over_append f us vs) ∙ sym (append_assoc (f u) (over f us) (over f vs))

pub count_numbered : (ns : List Name) (is : Items) → count (numbered_items ns is) ≡ count is
unfolding count numbered
count_numbered ns none = refl
count_numbered ns (hole is) = ap suc (count_numbered ns is)
count_numbered ns (item n is) = ap suc (count_numbered ns is)
