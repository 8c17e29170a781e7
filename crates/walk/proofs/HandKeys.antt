-- What is handed out for the keys of an object, and for an object by its mode.
-- Assumes nothing.
use mathlib.Core.Path.{◌≡◌, refl, sym, ap, ap₂, ◌∙◌, subst}
use mathlib.Core.Bool.{Bool, true, false, false≢true}
use mathlib.Core.List.{List, [], ◌∷◌, ◌++◌}
use Prim.Native.Nat.{ℕ, suc, ◌+◌, ◌-◌, ◌/◌, ◌%◌, ◌≤◌, ◌<◌}
use native.Mathlib.Omega.{arith}
use lib.Dec.{eqb}
use lib.ListN.{length}
use Rattle.tree.specs.Tree.{Node, wide_bytes, count, encode}
use Rattle.tree.specs.Read.{byte_at}
use Rattle.tree.specs.Answer.{Wide}
use Rattle.tree.specs.Look.{Seen, onward, look_items, look_node}
use Rattle.lowering.specs.Parts.{position, is, items_at_of, piece_in}
use Rattle.lowering.specs.Made.{Context}
use Rattle.lowering.specs.Patterns.{properties, key}
use Rattle.lowering.specs.Keys as keys
use Rattle.lowering.specs.Keys.{key_sort, excluded_keys, entry_of, key_text}
use Rattle.lowering.specs.Keys.Key.{name, literal, template, private, again, other}
use Rattle.lowering.specs.Keys.Entry.{spelt, itself, omitted, saved}
use Rattle.lowering.proofs.All.{AllItems}
use Rattle.lowering.proofs.Cases.{by_test, by_key}
use Rattle.sink.specs.Machine.{part}
use Rattle.sink.specs.Machine.Event.{make, listed_temporary, excluded_temporary, declarator}
use Rattle.pattern.specs.declared.keys.Key.{Key}
use Rattle.pattern.specs.declared.keys.Key.TheVariants as variants
use Rattle.pattern.specs.declared.keys.Key.TheVariants.{Name, Literal, OtherForm, NoForm, Template, Private, Again, Other}
use Rattle.pattern.specs.Tally.{limited}
use Rattle.pattern.specs.Parts.{part_at}
use Rattle.pattern.specs.Keys.{name_in_of, literal_at, key_at, Becomes}
use Rattle.pattern.proofs.KeyCases.{key_is}
use Rattle.pattern.proofs.CountsFit.{counted_whole, excluded_fit}
use Rattle.direct.specs.Events as events
use Rattle.direct.specs.Events.{Emit, Deed, lists, excludes}
use Rattle.direct.specs.Events.Deed.{does}
use Rattle.direct.specs.Emit.{say, ◌▷◌, in_turn}
use Rattle.direct.specs.Views.{nameless, is_other}
use Rattle.direct.specs.Keys.{string_bytes_of, entries, hoists}
use Rattle.direct.specs.Handed.{place_made, key_made, keys_made, key_bytes, excludes_of, hands_key, hands_keys, hands_place, key_bytes_of}
use Rattle.direct.proofs.Threads.{say_say}
use Rattle.direct.proofs.RestValues.{entries_are}
use Rattle.walk.specs.declared.look.KeyClass.TheVariants.{AsString}
use Rattle.walk.specs.declared.hand.Own.{Own}
use Rattle.walk.specs.declared.hand.Own.TheVariants as own
use Rattle.walk.specs.declared.hand.KeyUse.{KeyUse}
use Rattle.walk.specs.declared.hand.KeyUse.TheVariants as use-of
use Rattle.walk.specs.Run.{Going, Does}
use Rattle.walk.specs.Whole.{GoodItems, Good}
use Rattle.walk.specs.Turns.{cell_at, own_of, key_of, class_entry, key_string}
use Rattle.walk.proofs.Running.{does_then, does_nothing, does_as}
use Rattle.walk.proofs.Opened.{position_here, good_copied, good_short, good_within, object_open, property_key}
use Rattle.walk.proofs.Hands.{at_level, list_from}
use Rattle.walk.proofs.Lookups.{cell_within, class_of, class_name, class_here, key_class, is_string, is_spelt}
use Rattle.walk.proofs.SourcesRead.{Spelt, entry_text, name_spelt, form_spelt, bare_spelt, string_is}

-- ---- cells

pub cell_1 : (at : ℕ) → at ≡ events.cell 1 at
unfolding events.cell
cell_1 at = omega arith

pub cell_4 : (at : ℕ) → at ≡ events.cell 4 at
unfolding events.cell
cell_4 at = omega arith

-- ---- one property, by a mode

module _ (q : Node) where
  key_excludes : say (excludes (key_bytes_of (key q))) ≡ key_of use-of.Excluded q
  unfolding key_of key_bytes key_bytes_of
  key_excludes = refl

  key_makes : key_made q ≡ key_of use-of.Made q
  unfolding key_of
  key_makes = refl

  key_hands : hands_key q ≡ key_of use-of.Listed q
  unfolding key_of
  key_hands = refl

  made_yes : is_other (key q) ≡ true → say (does (make (events.cell 4 (position q))) ∷ []) ≡ key_made q
  unfolding key_made
  made_yes e = rw e refl

  made_no : is_other (key q) ≡ false → say [] ≡ key_made q
  unfolding key_made
  made_no e = rw e refl

  hands_yes : is_other (key q) ≡ true → say (lists (5 ∷ 3 ∷ []) ++ (does (listed_temporary (events.cell 4 (position q)) 4) ∷ lists (encode (key q)))) ≡ hands_key q
  unfolding hands_key
  hands_yes e = rw e refl

  hands_no : is_other (key q) ≡ false → say [] ≡ hands_key q
  unfolding hands_key
  hands_no e = rw e refl

pub three_say : (a b c : List Deed) → say a ▷ say b ▷ say c ≡ say (a ++ (b ++ c))
three_say a b c = ap (λ (x : Emit). say a ▷ x) (say_say b c) ∙ say_say a (b ++ c)

module _ (t : List ℕ) (left d at k : ℕ) (mode : KeyUse) (e : d ≡ left - 1) (a : k ≡ onward t at 2) where
  pub key_excluded : {g g' : Going} → mode ≡ use-of.Excluded → (Good t d k → Does g g' (say (excludes (key_bytes_of (look_node t d k).value))))
      → Good t left at → byte_at t at ≡ 35 → Does g g' (key_of mode (look_node t left at).value)
  key_excluded {g = g} {g' = g'} m f good kind =
      at_level t (λ (x : ℕ). Does g g' (key_of mode (look_node t x at).value)) left d at e good
      (λ here.
      let n = (look_node t (suc d) at).value in
      does_as (f (property_key t d at here kind k a).1) (ap (λ (x : Node). say (excludes (key_bytes_of x))) (property_key t d at here kind k a).0 ∙ key_excludes n ∙ ap (λ (x : KeyUse). key_of x n) (sym m)))

  pub key_made_lem : {g g' : Going} (b : Bool) → b ≡ is_other (look_node t d k).value → b ≡ true → mode ≡ use-of.Made → Does g g' (say (does (make at) ∷ []))
      → Good t left at → byte_at t at ≡ 35 → Does g g' (key_of mode (look_node t left at).value)
  key_made_lem {g = g} {g' = g'} b f y m h good kind =
      at_level t (λ (x : ℕ). Does g g' (key_of mode (look_node t x at).value)) left d at e good
      (λ here.
      let n = (look_node t (suc d) at).value in
      let o : is_other (key n) ≡ true = ap is_other (sym (property_key t d at here kind k a).0) ∙ sym f ∙ y in
      let c : at ≡ events.cell 4 (position n) = cell_4 at ∙ ap (events.cell 4) (sym (position_here t (suc d) at)) in
      does_as h (ap (λ (x : ℕ). say (does (make x) ∷ [])) c ∙ made_yes n o ∙ key_makes n ∙ ap (λ (x : KeyUse). key_of x n) (sym m)))

  pub key_listed : {g g₁ g₂ g' : Going} (b : Bool) (end : ℕ) → b ≡ is_other (look_node t d k).value → b ≡ true → mode ≡ use-of.Listed → end ≡ (look_node t d k).next
      → Does g g₁ (say (lists (5 ∷ 3 ∷ []))) → Does g₁ g₂ (say (does (listed_temporary at 4) ∷ [])) → Does g₂ g' (say (lists (part k end t)))
      → Good t left at → byte_at t at ≡ 35 → Does g g' (key_of mode (look_node t left at).value)
  key_listed {g = g} {g' = g'} b end f y m w h i j good kind =
      at_level t (λ (x : ℕ). Does g g' (key_of mode (look_node t x at).value)) left d at e good
      (λ here.
      let n = (look_node t (suc d) at).value in
      let o : is_other (key n) ≡ true = ap is_other (sym (property_key t d at here kind k a).0) ∙ sym f ∙ y in
      let c : at ≡ events.cell 4 (position n) = cell_4 at ∙ ap (events.cell 4) (sym (position_here t (suc d) at)) in
      let bytes : part k end t ≡ encode (key n) = ap (λ (x : ℕ). part k x t) w ∙ good_copied t d k (property_key t d at here kind k a).1 ∙ ap encode (property_key t d at here kind k a).0 in
      does_as (does_then h (does_then i j))
      (three_say (lists (5 ∷ 3 ∷ [])) (does (listed_temporary at 4) ∷ []) (lists (part k end t))
      ∙ ap₂ (λ (x : ℕ) (bs : List ℕ). say (lists (5 ∷ 3 ∷ []) ++ (does (listed_temporary x 4) ∷ lists bs))) c bytes
      ∙ hands_yes n o ∙ key_hands n ∙ ap (λ (x : KeyUse). key_of x n) (sym m)))

  -- a key that wants no temporary
  module _ {g : Going} (b : Bool) (f : b ≡ is_other (look_node t d k).value) (y : b ≡ false) where
    key_none : (m : KeyUse) → ((n : Node) → is_other (key n) ≡ false → say [] ≡ key_of m n) → mode ≡ m → Good t left at → byte_at t at ≡ 35 → Does g g (key_of mode (look_node t left at).value)
    key_none m h u good kind =
        at_level t (λ (x : ℕ). Does g g (key_of mode (look_node t x at).value)) left d at e good
        (λ here.
        let n = (look_node t (suc d) at).value in
        let o : is_other (key n) ≡ false = ap is_other (sym (property_key t d at here kind k a).0) ∙ sym f ∙ y in
        does_as (does_nothing g) (h n o ∙ ap (λ (x : KeyUse). key_of x n) (sym u)))

    pub key_unmade : mode ≡ use-of.Made → Good t left at → byte_at t at ≡ 35 → Does g g (key_of mode (look_node t left at).value)
    key_unmade u = key_none use-of.Made (λ n o. made_no n o ∙ key_makes n) u

    pub key_unlisted : mode ≡ use-of.Listed → Good t left at → byte_at t at ≡ 35 → Does g g (key_of mode (look_node t left at).value)
    key_unlisted u = key_none use-of.Listed (λ n o. hands_no n o ∙ key_hands n) u

-- all properties of an object
module _ (t : List ℕ) (left d at q p n : ℕ) (e : d ≡ left - 1) (a : q ≡ onward t at 2) (b : p ≡ onward t q 2) (w : Wide t q n) where
  pub keys_do : {g g₁ : Going} (mode : KeyUse)
      → (GoodItems t (look_node t d) (Good t d) false false n p → AllItems (λ q. is 35 q ≡ true) (look_items t (look_node t d) false n p).value
      → Does g g₁ (in_turn (key_of mode) (look_items t (look_node t d) false n p).value))
      → Good t left at → byte_at t at ≡ 34 → Does g g₁ (in_turn (key_of mode) (properties (look_node t left at).value))
  unfolding items_at_of piece_in
  keys_do {g = g} {g₁ = g₁} mode k good kind =
      at_level t (λ (m : ℕ). Does g g₁ (in_turn (key_of mode) (properties (look_node t m at).value))) left d at e good
      (λ here.
      let u = object_open t d at here kind in
      let done = list_from t left d at q p n e a b w (λ (m y : ℕ). GoodItems t (look_node t d) (Good t d) false false m y → AllItems (λ q. is 35 q ≡ true) (look_items t (look_node t d) false m y).value → Does g g₁ (in_turn (key_of mode) (look_items t (look_node t d) false m y).value)) k u.list.good u.properties in
      by_test (eqb (byte_at t (onward t at 1) / 2 % 2) 1)
      (λ bit. does_as done (ap (λ (s : Seen Node). in_turn (key_of mode) (properties s.value)) (sym (u.resting bit))))
      (λ bit. does_as done (ap (λ (s : Seen Node). in_turn (key_of mode) (properties s.value)) (sym (u.plain bit)))))

-- ---- the bytes of a key

module _ (t : List ℕ) where
  -- a key as the code has it: where its bytes stand, and what they are
  pub record KeyAs (k : Node) (p n : ℕ) : Type 0 where
    pub small : n < 65536
    pub room : p + n ≤ length t
    pub bytes : string_bytes_of (part p (p + n) t) ≡ key_bytes_of k

  -- a key that is written as a string, by its class
  bytes_string : (k : Node) → entry_of (key_sort k) ≡ spelt → key_string k ≡ key_bytes_of k
  unfolding key_string key_bytes_of
  bytes_string k h = go (key_sort k) h
    where
      go : (s : keys.Key) → entry_of s ≡ spelt
          → ◌≡◌ {A = List ℕ}
          (elim (entry_of s) [ spelt ↦ string_bytes_of (key_text k) | itself ↦ [] | omitted ↦ [] | saved ↦ [] ])
          (elim s [
            | name ↦ string_bytes_of (key_text k)
            | literal ↦ string_bytes_of (key_text k)
            | template ↦ encode k
            | private ↦ []
            | again ↦ []
            | other ↦ []
          ])
      go name h = refl
      go literal h = refl
      go template h = absurd (false≢true (ap is_spelt h))
      go private h = absurd (false≢true (ap is_spelt h))
      go again h = absurd (false≢true (ap is_spelt h))
      go other h = absurd (false≢true (ap is_spelt h))

  as_spelt : (k : Node) (p n : ℕ) → entry_of (key_sort k) ≡ spelt → Spelt t k p n → KeyAs k p n
  as_spelt k p n h s = record { small = s.small; room = s.within; bytes = s.string ∙ bytes_string k h }

  module _ (d at : ℕ) where
    abbrev this : Node
    this = (look_node t d at).value

    -- what is not a string
    abbrev Plain : Node → Key → Type 0
    Plain k (Name p n) = Unit {0}
    Plain k (Literal p n) = Unit {0}
    Plain k (variants.Number v) = Unit {0}
    Plain k (OtherForm v) = Unit {0}
    Plain k NoForm = Unit {0}
    Plain k Template = encode k ≡ key_bytes_of k
    Plain k Private = [] ≡ key_bytes_of k
    Plain k Again = [] ≡ key_bytes_of k
    Plain k Other = [] ≡ key_bytes_of k

    class_plain : (k : Node) (x : Key) → class_of x ≡ AsString → Plain k x
    class_plain k (Name p n) h = tt
    class_plain k (Literal p n) h = tt
    class_plain k (variants.Number v) h = tt
    class_plain k (OtherForm v) h = tt
    class_plain k NoForm h = tt
    class_plain k Template h = absurd (false≢true (ap is_string h))
    class_plain k Private h = absurd (false≢true (ap is_string h))
    class_plain k Again h = absurd (false≢true (ap is_string h))
    class_plain k Other h = absurd (false≢true (ap is_string h))

    plain_is : Plain this (key_at t d at)
    unfolding key_at key_bytes_of
    plain_is =
        by_key (key_sort this)
        (λ s. rw s (class_plain this (name_in_of (part_at t d at 0)) (class_name (part_at t d at 0))))
        (λ s. rw s (class_plain this (literal_at t d at) (class_here t d at)))
        (λ s. rw s (rw (s, key_bytes_of) refl))
        (λ s. rw s (rw (s, key_bytes_of) refl))
        (λ s. rw s (rw (s, key_bytes_of) refl))
        (λ s. rw s (rw (s, key_bytes_of) refl))

    plain_as : (r x : Key) → r ≡ key_at t d at → r ≡ x → Plain this x
    plain_as r x e f = subst (Plain this) (sym e ∙ f) plain_is

  -- the ways out of `exclude_key`
  module _ (d at : ℕ) (r : Key) (b : Becomes t d at r) where
    abbrev that : Node
    that = (look_node t d at).value

    string_does : {g g' : Going} (p n : ℕ) → (n < 65536 → p + n ≤ length t → Does g g' (say (excludes (string_bytes_of (part p (p + n) t))))) → KeyAs that p n → Does g g' (say (excludes (key_bytes_of that)))
    string_does p n k a = does_as (k a.small a.room) (ap (λ (bs : List ℕ). say (excludes bs)) a.bytes)

    pub name_does : {g g' : Going} (p n : ℕ) → r ≡ Name p n → (n < 65536 → p + n ≤ length t → Does g g' (say (excludes (string_bytes_of (part p (p + n) t)))))
        → Good t d at → Does g g' (say (excludes (key_bytes_of that)))
    name_does p n f k good = string_does p n k (as_spelt that p n (sym (key_class t d at r (Name p n) b f)) (name_spelt t d at r b good p n f))

    pub literal_does : {g g' : Going} (p n : ℕ) → r ≡ Literal p n → (n < 65536 → p + n ≤ length t → Does g g' (say (excludes (string_bytes_of (part p (p + n) t)))))
        → Good t d at → Does g g' (say (excludes (key_bytes_of that)))
    literal_does p n f k good = string_does p n k (as_spelt that p n (sym (key_class t d at r (Literal p n) b f)) (form_spelt t d at r b good p n f))

    pub formless_does : {g g' : Going} → r ≡ NoForm → (0 < 65536 → 0 + 0 ≤ length t → Does g g' (say (excludes (string_bytes_of (part 0 (0 + 0) t)))))
        → Good t d at → Does g g' (say (excludes (key_bytes_of that)))
    formless_does f k good = string_does 0 0 k (as_spelt that 0 0 (sym (key_class t d at r NoForm b f)) (bare_spelt t d at r b good f))

    -- the digits of a number
    pub number_does : {g g' : Going} (x : Key) → r ≡ x → class_of x ≡ AsString → Does g g' (say (excludes (string_bytes_of (entry_text t x)))) → Good t d at → Does g g' (say (excludes (key_bytes_of that)))
    number_does x f h k good =
        does_as k (ap (λ (bs : List ℕ). say (excludes bs)) (sym (string_is t d at r x b f h) ∙ bytes_string that (sym (key_class t d at r x b f) ∙ ap class_entry h)))

    pub template_does : {g g' : Going} (end : ℕ) → r ≡ Template → end ≡ (look_node t d at).next → Does g g' (say (excludes (part at end t)))
        → Good t d at → Does g g' (say (excludes (key_bytes_of that)))
    template_does end f w k good =
        does_as k (ap (λ (bs : List ℕ). say (excludes bs)) (ap (λ (x : ℕ). part at x t) w ∙ good_copied t d at good ∙ plain_as d at r Template (key_is b.variant) f))

    nothing_does : {g : Going} → [] ≡ key_bytes_of that → Does g g (say (excludes (key_bytes_of that)))
    nothing_does {g = g} h = does_as (does_nothing g) (ap (λ (bs : List ℕ). say (excludes bs)) h)

    pub private_does : {g : Going} → r ≡ Private → Good t d at → Does g g (say (excludes (key_bytes_of that)))
    private_does f good = nothing_does (plain_as d at r Private (key_is b.variant) f)

    pub again_does : {g : Going} → r ≡ Again → Good t d at → Does g g (say (excludes (key_bytes_of that)))
    again_does f good = nothing_does (plain_as d at r Again (key_is b.variant) f)

    pub other_does : {g : Going} → r ≡ Other → Good t d at → Does g g (say (excludes (key_bytes_of that)))
    other_does f good = nothing_does (plain_as d at r Other (key_is b.variant) f)

-- ---- excluded keys

module _ (root : Bool) (o : Node) where
  excludes_yes : hoists root (properties o) ≡ true
      → say (does declarator ∷ does (excluded_temporary (events.cell 2 (position o)) 2) ∷ excludes (32 ∷ 1 ∷ wide_bytes (entries (properties o)))) ▷ in_turn (key_of use-of.Excluded) (properties o) ≡ excludes_of root o
  unfolding excludes_of key_of
  excludes_yes e = rw e refl

  excludes_no : hoists root (properties o) ≡ false → say [] ≡ excludes_of root o
  unfolding excludes_of
  excludes_no e = rw e refl

module _ (t : List ℕ) (left at : ℕ) (root b : Bool) (e : b ≡ hoists root (properties (look_node t left at).value)) where
  abbrev object : Node
  object = (look_node t left at).value

  pub exclude_none : {g : Going} → b ≡ false → Does g g (excludes_of root object)
  exclude_none {g = g} z = does_as (does_nothing g) (excludes_no root object (sym e ∙ z))

  -- their number
  number_is : Good t left at → (k : ℕ) → ((c : Context) → k ≡ limited (count (excluded_keys c object))) → (k ≡ entries (properties object)) × (k < 65536)
  number_is good k h =
      let a : count (excluded_keys nameless object) ≤ 16384 = let x = excluded_fit nameless object in let y = good_short t left at good in omega arith in
      let m : k ≡ count (excluded_keys nameless object) = h nameless ∙ counted_whole (count (excluded_keys nameless object)) 16384 a (omega arith) in
      (m ∙ entries_are nameless object, omega arith)

  pub exclude_does : {g g₁ g₂ : Going} (k x : ℕ) → b ≡ true → ((c : Context) → k ≡ limited (count (excluded_keys c object))) → x ≡ cell_at 2 at
      → (k < 65536 → Does g g₁ (say (does declarator ∷ does (excluded_temporary x 2) ∷ excludes (32 ∷ 1 ∷ wide_bytes k))))
      → (Good t left at → byte_at t at ≡ 34 → Does g₁ g₂ (in_turn (key_of use-of.Excluded) (properties object)))
      → Good t left at → byte_at t at ≡ 34 → Does g g₂ (excludes_of root object)
  exclude_does k x z h c f i good kind =
      let n = number_is good k h in
      let y : x ≡ events.cell 2 (position object) = cell_within _ _ _ c (omega (arith, good_within t left at good)) ∙ ap (events.cell 2) (sym (position_here t left at)) in
      does_as (does_then (f n.1) (i good kind))
      (ap₂ (λ (a m : ℕ). say (does declarator ∷ does (excluded_temporary a 2) ∷ excludes (32 ∷ 1 ∷ wide_bytes m)) ▷ in_turn (key_of use-of.Excluded) (properties object)) y n.0
      ∙ excludes_yes root object (sym e ∙ z))

-- ---- an object, by the mode

module _ (o : Node) where
  own_place : place_made o ≡ own_of own.Place o
  unfolding own_of
  own_place = refl

  own_keys : in_turn (key_of use-of.Made) (properties o) ≡ own_of own.Keys o
  unfolding own_of keys_made key_of
  own_keys = refl

  own_excludes : (root : Bool) → excludes_of root o ≡ own_of (own.Excluded root) o
  unfolding own_of
  own_excludes root = refl

  pub hands_turn : in_turn (key_of use-of.Listed) (properties o) ≡ hands_keys o
  unfolding hands_keys key_of
  hands_turn = refl

  place_made_lem : say (does (make (events.cell 1 (position o))) ∷ []) ≡ place_made o
  unfolding place_made
  place_made_lem = refl

  place_handed : say (lists (5 ∷ 1 ∷ []) ++ (does (listed_temporary (events.cell 1 (position o)) 1) ∷ [])) ≡ hands_place o
  unfolding hands_place
  place_handed = refl

module _ (t : List ℕ) (left at : ℕ) where
  abbrev object_at_lem : Node
  object_at_lem = (look_node t left at).value

  place : at ≡ events.cell 1 (position object_at_lem)
  place = cell_1 at ∙ ap (events.cell 1) (sym (position_here t left at))

  -- its place is listed
  pub object_listed : {g g₁ g' : Going} → Does g g₁ (say (lists (5 ∷ 1 ∷ []))) → Does g₁ g' (say (does (listed_temporary at 1) ∷ [])) → Does g g' (hands_place object_at_lem)
  object_listed k l =
      does_as (does_then k l)
      (say_say (lists (5 ∷ 1 ∷ [])) (does (listed_temporary at 1) ∷ [])
      ∙ ap (λ (x : ℕ). say (lists (5 ∷ 1 ∷ []) ++ (does (listed_temporary x 1) ∷ []))) place ∙ place_handed object_at_lem)

  module _ (mode : Own) where
    by_mode : {g g' : Going} (m : Own) → mode ≡ m → Does g g' (own_of m object_at_lem) → Does g g' (own_of mode object_at_lem)
    by_mode m e k = does_as k (ap (λ (x : Own). own_of x object_at_lem) (sym e))

    pub object_made : {g g' : Going} → mode ≡ own.Place → Does g g' (say (does (make at) ∷ [])) → Does g g' (own_of mode object_at_lem)
    object_made e k = by_mode own.Place e (does_as k (ap (λ (x : ℕ). say (does (make x) ∷ [])) place ∙ place_made_lem object_at_lem ∙ own_place object_at_lem))

    pub object_keys : {g g' : Going} → mode ≡ own.Keys → Does g g' (in_turn (key_of use-of.Made) (properties object_at_lem)) → Does g g' (own_of mode object_at_lem)
    object_keys e k = by_mode own.Keys e (does_as k (own_keys object_at_lem))

    pub object_excludes : {g g' : Going} (root : Bool) → mode ≡ own.Excluded root → Does g g' (excludes_of root object_at_lem) → Does g g' (own_of mode object_at_lem)
    object_excludes root e k = by_mode (own.Excluded root) e (does_as k (own_excludes object_at_lem root))
