-- What is looked up before something is written: one law for each way out.
-- Assumes nothing.
use mathlib.Core.Path.{◌≡◌, refl, sym, ap, ◌∙◌}
use mathlib.Core.Bool.{Bool, true, false, cond, not, false≢true}
use mathlib.Core.List.{List}
use Rattle.std.specs.Prelude.{Some, None}
use Prim.Native.Nat.{ℕ, zero, suc, ◌+◌, ◌-◌, ◌/◌, ◌%◌, ◌<◌, ◌≤◌}
use native.Mathlib.Omega.{arith}
use lib.Dec.{eqb, ltb}
use borrow.Author.Tests.{lt-ltb, le-ltb}
use Rattle.tree.specs.Tree.{Node, Items, count, depth}
use Rattle.tree.specs.Tree.Items.{none, hole, item}
use Rattle.tree.specs.Read.{byte_at}
use Rattle.tree.specs.Answer.{Peeked}
use Rattle.tree.specs.Look.{onward, look_item, look_items, look_node}
use Rattle.lowering.specs.Parts.{is, node_at_of, is_empty, gather}
use Rattle.lowering.specs.Patterns.{properties, items_of, rest, shape}
use Rattle.lowering.specs.Heads.{moved, is_moved, moved_from}
use Rattle.lowering.specs.Keys.{all_primitive, key_sort, entry_of}
use Rattle.lowering.specs.Keys as lowering
use Rattle.pattern.specs.declared.keys.Key.{Key}
use Rattle.pattern.specs.declared.keys.Key.TheVariants as variants
use Rattle.pattern.specs.declared.keys.Key.TheVariants.{Name, Literal, OtherForm, NoForm, Template, Private, Again, Other}
use Rattle.pattern.specs.Parts.{Content, part_at, text_in_of, standing}
use Rattle.pattern.specs.Numbers.{Numeral, spelled_as_of, is_string_of}
use Rattle.pattern.specs.Keys.{name_in_of, form_in, beside_form, literal_by, literal_in, literal_at, key_by, key_at, Becomes}
use Rattle.pattern.specs.Tally.{limited}
use Rattle.pattern.proofs.KeyCases.{key_is}
use Rattle.pattern.proofs.NodeParts.{kind_is}
use Rattle.pattern.proofs.CappedSums.{numbers, Adds, list_sum, sum_start, sum_more, sum_end}
use Rattle.pattern.proofs.MovesCounted.{count_sum}
use Rattle.pattern.proofs.KeyCases.{sort_name}
use Rattle.direct.specs.Events.{cell}
use Rattle.direct.specs.Views.{is_other}
use Rattle.direct.specs.Keys.{primitives, hoists}
use Rattle.direct.specs.Moved.{number}
use Rattle.direct.proofs.MovedMade.{number_join}
use Rattle.walk.specs.declared.look.KeyClass.{KeyClass}
use Rattle.walk.specs.declared.look.KeyClass.TheVariants.{AsString, AsItStands, LeftOut, AsTemporary}
use Rattle.walk.specs.Turns.{class_entry, start_of, cell_at}
use Rattle.lowering.proofs.ItemLaws.{count_append}
use Rattle.lowering.proofs.Cases.{by_shape}
use Rattle.lowering.specs.Keys.Entry.{spelt, itself, omitted, saved}

-- ---- tests

module _ {A : Type 0} (x a b : A) where
  pub when_yes : (t : Bool) → t ≡ true → x ≡ a → x ≡ cond t a b
  when_yes t e h = rw e h

  pub when_no : (t : Bool) → t ≡ false → x ≡ b → x ≡ cond t a b
  when_no t e h = rw e h

-- a test and the bool that it gives
module _ (b x : Bool) (e : b ≡ x) where
  pub denied : b ≡ false → x ≡ false
  denied h = sym e ∙ h

  pub undenied : b ≡ true → x ≡ true
  undenied h = sym e ∙ h

-- a test of what is not so
pub not_yes : (b n : Bool) → n ≡ not b → n ≡ true → b ≡ false
not_yes true n e h = absurd (false≢true (sym e ∙ h))
not_yes false n e h = refl

pub not_no : (b n : Bool) → n ≡ not b → n ≡ false → b ≡ true
not_no true n e h = refl
not_no false n e h = absurd (false≢true (sym h ∙ e))

-- ---- bits of a bit map

pub first_of : (t : List ℕ) (at p m : ℕ) → p ≡ onward t at 1 → Peeked t p m → m % 2 ≡ byte_at t (onward t at 1) % 2
first_of t at p m e w = ap (λ (x : ℕ). x % 2) (w.value ∙ ap (λ (x : ℕ). byte_at t x) e)

pub second_of_lem : (t : List ℕ) (at p m : ℕ) → p ≡ onward t at 1 → Peeked t p m → m / 2 % 2 ≡ byte_at t (onward t at 1) / 2 % 2
second_of_lem t at p m e w = ap (λ (x : ℕ). x / 2 % 2) (w.value ∙ ap (λ (x : ℕ). byte_at t x) e)

-- ---- cells

small : (at : ℕ) → at < 16384 → ltb at 16384 ≡ true
small at h = lt-ltb at 16384 h

pub cell_one : (s at : ℕ) → at < 16384 → s ≡ 2 → at + 1 ≡ cell_at s at
unfolding cell_at cell
cell_one s at h e = rw (small at h, e) refl

pub cell_two : (s at : ℕ) → at < 16384 → s ≡ 3 → at + 2 ≡ cell_at s at
unfolding cell_at cell
cell_two s at h e = rw (small at h, e) refl

pub cell_here : (s at : ℕ) → at < 16384 → (s ≡ 2 → ⊥) → (s ≡ 3 → ⊥) → at ≡ cell_at s at
unfolding cell_at cell
cell_here s at h a b = rw (small at h) (go s a b)
  where
    go : (s : ℕ) → (s ≡ 2 → ⊥) → (s ≡ 3 → ⊥) → at ≡ cell s at
    go zero a b = omega arith
    go (suc zero) a b = omega arith
    go (suc (suc zero)) a b = absurd (a refl)
    go (suc (suc (suc zero))) a b = absurd (b refl)
    go (suc (suc (suc (suc zero)))) a b = omega arith
    go (suc (suc (suc (suc (suc s))))) a b = omega arith

pub cell_beyond : (s at : ℕ) → 16384 ≤ at → at ≡ cell_at s at
unfolding cell_at
cell_beyond s at h = rw (le-ltb at 16384 h) refl

-- within the longest tree it is the cell
pub cell_within : (x s at : ℕ) → x ≡ cell_at s at → at < 16384 → x ≡ cell s at
unfolding cell_at
cell_within x s at e h = e ∙ ap (λ (b : Bool). cond b (cell s at) at) (small at h)

-- ---- keys

-- the class of a key that was read
abbrev pub class_of : Key → KeyClass
class_of (Name p n) = AsString
class_of (Literal p n) = AsString
class_of (variants.Number v) = AsString
class_of (OtherForm v) = AsString
class_of NoForm = AsString
class_of Template = AsItStands
class_of Private = LeftOut
class_of Again = AsItStands
class_of Other = AsTemporary

pub class_name : (p : Content) → class_of (name_in_of p) ≡ AsString
unfolding name_in_of
class_name (Content.node q) = refl
class_name (Content.list h n p) = refl
class_name (Content.text p n) = refl
class_name Content.plain = refl
class_name Content.absent = refl

class_form : (p : Content) → class_of (form_in p) ≡ AsString
unfolding form_in
class_form (Content.node q) = refl
class_form (Content.list h n p) = refl
class_form (Content.text p n) = refl
class_form Content.plain = refl
class_form Content.absent = refl

class_beside : (l : List ℕ) (v : ℕ) (k : Key) (p : Content) → class_of k ≡ AsString → class_of (beside_form l v k p) ≡ AsString
unfolding beside_form
class_beside l v k p h = go (standing p) (is_string_of v (spelled_as_of (text_in_of l p)))
  where
    go : (b f : Bool) → class_of (cond b (cond f (form_in p) (OtherForm v)) k) ≡ AsString
    go true true = class_form p
    go true false = refl
    go false f = h

class_literal : (l : List ℕ) (x : Numeral) (s p : Content) → class_of (literal_by l x s p) ≡ AsString
unfolding literal_by
class_literal l (Numeral.decimal v) s p = class_beside l v (form_in s) p (class_form s)
class_literal l (Numeral.hexadecimal v) s p = class_beside l v (variants.Number v) p refl
class_literal l Numeral.another s p = class_form p

pub class_here : (l : List ℕ) (d at : ℕ) → class_of (literal_at l d at) ≡ AsString
unfolding literal_at literal_in
class_here l d at = class_literal l _ (part_at l d at 1) (part_at l d at 2)

class_by : (s : lowering.Key) (p : Content) (k : Key) → class_of k ≡ AsString → class_entry (class_of (key_by s p k)) ≡ entry_of s
class_by lowering.Key.name p k h = ap class_entry (class_name p)
class_by lowering.Key.literal p k h = ap class_entry h
class_by lowering.Key.template p k h = refl
class_by lowering.Key.private p k h = refl
class_by lowering.Key.again p k h = refl
class_by lowering.Key.other p k h = refl

pub key_class : (l : List ℕ) (d at : ℕ) (r k : Key) → Becomes l d at r → r ≡ k → class_entry (class_of k) ≡ entry_of (key_sort (look_node l d at).value)
unfolding key_at
key_class l d at r k b e =
    ap (λ (x : Key). class_entry (class_of x)) (sym e ∙ key_is b.variant) ∙ class_by (key_sort (look_node l d at).value) (part_at l d at 0) (literal_at l d at) (class_here l d at)

-- a static key, by its kind
pub static_class : (l : List ℕ) (d at k : ℕ) → 0 < d → k ≡ byte_at l at → k ≡ 38 → class_entry AsString ≡ entry_of (key_sort (look_node l d at).value)
static_class l d at k z e y =
    ap entry_of (sym (sort_name (look_node l d at).value (kind_is l d at k (λ n. absurd (omega arith)) e ∙ y)))

-- whether an entry is a string, and whether a key is written as one, as a temporary
abbrev pub is_spelt : lowering.Entry → Bool
is_spelt spelt = true
is_spelt itself = false
is_spelt omitted = false
is_spelt saved = false

abbrev pub is_string : KeyClass → Bool
is_string AsString = true
is_string AsItStands = false
is_string LeftOut = false
is_string AsTemporary = false

abbrev pub is_temporary : KeyClass → Bool
is_temporary AsString = false
is_temporary AsItStands = false
is_temporary LeftOut = false
is_temporary AsTemporary = true

pub other_is : (k : Node) (n m : KeyClass) → class_entry n ≡ entry_of (key_sort k) → n ≡ m → is_temporary m ≡ is_other k
unfolding is_other
other_is k n m e f = go m ∙ ap is_saved (sym (ap class_entry f) ∙ e)
  where
    is_saved : lowering.Entry → Bool
    is_saved i = elim i [ spelt ↦ false | itself ↦ false | omitted ↦ false | saved ↦ true ]

    go : (c : KeyClass) → is_temporary c ≡ is_saved (class_entry c)
    go AsString = refl
    go AsItStands = refl
    go LeftOut = refl
    go AsTemporary = refl

-- ---- excluded keys that go out

pub hoisted_root : (r : Bool) (ps : Items) → r ≡ true → false ≡ hoists r ps
unfolding hoists
hoisted_root r ps e = rw e refl

pub hoisted_none : (r b : Bool) (ps : Items) → r ≡ false → b ≡ is_empty ps → b ≡ true → false ≡ hoists r ps
unfolding hoists
hoisted_none r b ps e f h = rw (e, sym f ∙ h) refl

pub hoisted_all : (r b a : Bool) (p : Node) → r ≡ false → b ≡ is_empty (properties p) → b ≡ false → a ≡ all_primitive p → a ≡ hoists r (properties p)
unfolding hoists primitives all_primitive
hoisted_all r b a p e f h w = rw (e, sym f ∙ h) w

-- one that is kept in a temporary, and any other
pub other_not : (k : Node) (n : KeyClass) → class_entry n ≡ entry_of (key_sort k) → (n ≡ AsTemporary → ⊥) → false ≡ is_other k
other_not k n e h = go n h ∙ other_is k n n e refl
  where
    go : (n : KeyClass) → (n ≡ AsTemporary → ⊥) → false ≡ is_temporary n
    go AsString h = refl
    go AsItStands h = refl
    go LeftOut h = refl
    go AsTemporary h = absurd (h refl)

-- ---- starting values

module _ (t : List ℕ) where
  pub start_some : (d at q r : ℕ) (b : Bool) → 0 < d → b ≡ eqb (byte_at t (onward t at 1) / 2 % 2) 1 → b ≡ true → q ≡ onward t at 2 → r ≡ (look_node t (d - 1) q).next → Some r ≡ start_of t d at
  unfolding start_of
  start_some zero at q r b z e h f g = absurd (omega arith)
  start_some (suc d) at q r b z e h f g =
      let k : suc d - 1 ≡ d = omega arith in
      ap Some (g ∙ rw (k, f) refl) ∙ when_yes (Some (look_node t d (onward t at 2)).next) _ _ _ (sym e ∙ h) refl

  pub start_none : (d at : ℕ) → (0 < d → eqb (byte_at t (onward t at 1) / 2 % 2) 1 ≡ false) → None ≡ start_of t d at
  unfolding start_of
  start_none zero at h = refl
  start_none (suc d) at h = when_no None _ _ _ (h (omega arith)) refl

-- ---- patterns that are moved out: none is a hole

number_gather : (f : Node → Items) → ((n : Node) → number (f n) ≡ count (f n)) → (is : Items) → number (gather f is) ≡ count (gather f is)
unfolding gather number count
number_gather f h none = refl
number_gather f h (hole is) = number_gather f h is
number_gather f h (item n is) =
    let a = number_join (f n) (gather f is) in
    let b = count_append (f n) (gather f is) in
    let x = h n in
    let y = number_gather f h is in
    omega arith

number_moved : (d : ℕ) (p : Node) → number (moved d p) ≡ count (moved d p)
unfolding moved number count
number_moved zero p = refl
number_moved (suc d) p =
    by_shape (shape p)
    (λ s. rw (s, moved) refl)
    (λ s. rw (s, moved)
    (let a = number_join (gather (λ e. moved d e) (items_of p)) (moved d (rest p)) in
    let b = count_append (gather (λ e. moved d e) (items_of p)) (moved d (rest p)) in
    let x = number_gather (λ e. moved d e) (λ e. number_moved d e) (items_of p) in
    let y = number_moved d (rest p) in
    omega arith))
    (λ s. rw (s, moved) refl)
    (λ s. rw (s, moved) refl)

number_from : (q : Node) → number (moved_from q) ≡ count (moved_from q)
unfolding moved_from number count
number_from q = go (is_moved q)
  where
    go : (b : Bool) → number (cond b (moved (depth (node_at_of 0 q)) (node_at_of 0 q)) none) ≡ count (cond b (moved (depth (node_at_of 0 q)) (node_at_of 0 q)) none)
    go true = number_moved (depth (node_at_of 0 q)) (node_at_of 0 q)
    go false = refl

-- of a list of Params or Declarators, counted one by one
module _ (l : List ℕ) where
  abbrev pub from : Node → ℕ
  from q = limited (count (moved_from q))

  abbrev pub MovedLeft : ℕ → ℕ → ℕ → ℕ → ℕ → ℕ → Type 0
  MovedLeft d n₀ p₀ n p t = Adds numbers t (list_sum numbers l from d false n p) (limited (number (gather moved_from (look_items l (look_node l d) false n₀ p₀).value)))

  pub moved_start : (d n p : ℕ) → MovedLeft d n p n p 0
  moved_start d n p =
      sum_start numbers l from d false n p 0 _ refl
      (count_sum moved_from (look_items l (look_node l d) false n p).value
      ∙ ap limited (sym (number_gather moved_from number_from (look_items l (look_node l d) false n p).value)))

  pub moved_more : (d n₀ p₀ n p q t x u : ℕ) → 0 < n → x ≡ from (look_node l d p).value → q ≡ (look_node l d p).next → u ≡ limited (t + x) → MovedLeft d n₀ p₀ n p t → MovedLeft d n₀ p₀ (n - 1) q u
  unfolding look_item
  moved_more d n₀ p₀ n p q t x u z e g v w = sum_more numbers l from d false n p q t x u _ z e g v w

  pub moved_end : (d n₀ p₀ n p t : ℕ) → n ≤ 0 → MovedLeft d n₀ p₀ n p t → t ≡ limited (number (gather moved_from (look_items l (look_node l d) false n₀ p₀).value))
  moved_end d n₀ p₀ n p t z w = sum_end numbers l from d false n p t _ z w
