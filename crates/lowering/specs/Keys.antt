-- Keys of an object pattern whose rest is taken (document 01, 'The rewriting', Keys; transform_property_key).
use Rattle.std.specs.Prelude.{Bool, true, false, cond, not, ◌&&◌, ◌||◌, List, [], ℕ, eqb}
use Rattle.std.proofs.Math.Option.{Option, none, some}
use Rattle.tree.specs.Tree.{Node, Items, count}
use Rattle.lowering.specs.Parts.{is, items_at_of, text_at_of, number_at, stands, same_numbers, without, only, gather, any, first, change_node}
use Rattle.lowering.specs.Numbers.{number_string}
use Rattle.lowering.specs.Refusals.{key_without_form, other_form}
use Rattle.lowering.specs.Made.{Context, string, key_of, declares}
use Rattle.lowering.specs.Patterns.{properties, key, has_rest_of, with_properties}

-- ---- keys by sort

-- `template` is one of one quasi; `again` is what can be read twice; `other` is every other expression
pub data Key : Type 0 where
  name literal template private again other : Key

-- the key's kind decides, and not the flags: 38 StaticKey(name'), 22 Literal(sort= spelling' form'?), 23 Template(quasis* exprs*?),
-- 39 PrivateKey(name'), 20 Temporary, 18 Reference(name' symbol+?) with its symbol
unfoldable pub key_sort : Node → Key
key_sort k =
    cond (is 38 k) name
    (cond (is 22 k) literal
    (cond (is 23 k && eqb (count (items_at_of 0 k)) 1) template
    (cond (is 39 k) private
    (cond (is 20 k || (is 18 k && stands 1 k)) again other))))

-- names, literals and templates of one quasi; a private key takes nothing away from this
unfoldable pub is_primitive : Node → Bool
is_primitive k = elim (key_sort k) [ name ↦ true | literal ↦ true | template ↦ true | private ↦ true | again ↦ false | other ↦ false ]

-- ---- what a key becomes among those that a rest leaves out

-- the string of its text, the key as it stands, nothing, or a temporary
pub data Entry : Type 0 where
  spelt itself omitted saved : Entry

abbrev pub entry_of : Key → Entry
entry_of name = spelt
entry_of literal = spelt
entry_of template = itself
entry_of private = omitted
entry_of again = itself
entry_of other = saved

-- the string that is promised for a literal, if one is (request 8): it is a number, sort 2, in one of the spellings that are meant
unfoldable pub promised : Node → Option (List ℕ)
promised k = cond (eqb (number_at 0 k) 2) (number_string (text_at_of 1 k)) none

-- the text of a literal: the string that is promised, else its form
unfoldable pub literal_text : Node → List ℕ
literal_text k = elim (promised k) [ some s ↦ s | none ↦ text_at_of 2 k ]

-- the text of a key that is spelt: a name is its own
unfoldable pub key_text : Node → List ℕ
key_text k = elim (key_sort k) [ name ↦ text_at_of 0 k | literal ↦ literal_text k | template ↦ [] | private ↦ [] | again ↦ [] | other ↦ [] ]

-- the refusal that a literal meets, or 0: 11 if its form stands and is not the string that is promised, 6 if there is neither
unfoldable pub literal_refusal : Node → ℕ
literal_refusal k =
    elim (promised k) [
      | some s ↦ cond (stands 2 k && not (same_numbers (text_at_of 2 k) s)) other_form 0
      | none ↦ cond (stands 2 k) 0 key_without_form
    ]

unfoldable pub key_refusal : Node → ℕ
key_refusal k = cond (is 22 k) (literal_refusal k) 0

-- ---- one property q

module _ (c : Context) where
  -- the entry that it adds to the excluded keys
  unfoldable pub excluded_key : Node → Items
  excluded_key q =
      elim (entry_of (key_sort (key q))) [
        | spelt ↦ only (string (key_text (key q)))
        | itself ↦ only (key q)
        | omitted ↦ Items.none
        | saved ↦ only (key_of c q)
      ]

  -- what is left of it in the pattern: a key that cannot be read again has become a temporary
  unfoldable pub kept_key : Node → Node
  kept_key q =
      elim (key_sort (key q)) [ name ↦ q | literal ↦ q | template ↦ q | private ↦ q | again ↦ q | other ↦ change_node 0 (λ k. key_of c q) q ]

  -- that temporary with its value
  unfoldable pub key_temporary : Node → Items
  key_temporary q =
      elim (key_sort (key q)) [
        | name ↦ Items.none
        | literal ↦ Items.none
        | template ↦ Items.none
        | private ↦ Items.none
        | again ↦ Items.none
        | other ↦ only (declares (key_of c q) (key q))
      ]

-- ---- all properties of the object pattern p

-- whether the keys may be taken as strings (all_primitives)
unfoldable pub all_primitive : Node → Bool
all_primitive p = not (any (λ q. not (is_primitive (key q))) (properties p))

-- the first refusal that is met at its keys, or 0
unfoldable pub keys_refusal : Node → ℕ
keys_refusal p = first (λ q. key_refusal (key q)) (properties p)

module _ (c : Context) where
  -- the keys that its rest leaves out
  unfoldable pub excluded_keys : Node → Items
  excluded_keys p = gather (excluded_key c) (properties p)

  -- the temporaries that go before it
  unfoldable pub key_temporaries : Node → Items
  key_temporaries p = gather (key_temporary c) (properties p)

  -- the pattern when its rest, if it has one, is taken
  unfoldable pub taken : Node → Node
  taken p = cond (has_rest_of p) (without 1 (with_properties (kept_key c) p)) p
