-- Examples, by computation: the smallest input for each place where something is left, and one whose marks are copied; and what comes of each.
use Rattle.std.specs.Prelude.{◌≡◌, refl, Bool, true, false, cond, List, [], ◌∷◌, ℕ}
use Rattle.tree.specs.Tree.{Node}
use Rattle.tree.specs.Grammar.Stage.{input}
use Rattle.tree.specs.Read.{Got, read_tree}
use Rattle.tree.specs.Read.Got.{got, refused}
use Rattle.lowering.specs.Answer.{Lent, highest_limit, lowering}
use Rattle.lowering.specs.Answer.Result.{lowered}
use Rattle.rewritten.specs.Rewritten.{is_rewritten}
use Rattle.lowering.specs.Collect.{nodes, list_nodes}
use Rattle.joining.specs.List.{Handed, read_handed}
use Rattle.result.specs.Left.{keeps, any_of}
use Rattle.result.specs.Causes.{Cause, shows}
use Rattle.result.specs.Leftover.{leftover}
use Rattle.result.specs.Marks.{copies_marks}

abbrev plenty : Lent
plenty = record { tree_slice = 32768; list_slice = 16384; work_slice = 65536 }

abbrev no_list : List ℕ
no_list = 0 ∷ 0 ∷ 0 ∷ 0 ∷ []

-- `var [...{...a}] = b`
abbrev below_array_rest : List ℕ
below_array_rest =
    1 ∷ 1 ∷ 1 ∷ 0 ∷ 4 ∷ 7 ∷ 1 ∷ 0 ∷ 1 ∷ 1 ∷ 0 ∷ 5 ∷ 3 ∷ 36 ∷ 3 ∷ 0 ∷ 0 ∷ 34 ∷ 3 ∷ 0 ∷ 0 ∷ 19 ∷ 1 ∷ 1 ∷ 0 ∷ 97 ∷ 18 ∷ 1 ∷ 1 ∷ 0 ∷ 98 ∷ []

-- `function (...{...a}) {}`
abbrev rest_parameter : List ℕ
rest_parameter =
    1 ∷ 1 ∷ 1 ∷ 0 ∷ 14 ∷ 59 ∷ 1 ∷ 0 ∷ 1 ∷ 0 ∷ 0 ∷ 34 ∷ 3 ∷ 0 ∷ 0 ∷ 19 ∷ 1 ∷ 1 ∷ 0 ∷ 97 ∷ 16 ∷ 2 ∷ 0 ∷ 0 ∷ []

-- a function without body and with the parameter `{...a}`
abbrev without_body : List ℕ
without_body =
    1 ∷ 1 ∷ 1 ∷ 0 ∷ 14 ∷ 11 ∷ 1 ∷ 0 ∷ 1 ∷ 1 ∷ 0 ∷ 15 ∷ 1 ∷ 34 ∷ 3 ∷ 0 ∷ 0 ∷ 19 ∷ 1 ∷ 1 ∷ 0 ∷ 97 ∷ []

-- `var {...a}`
abbrev without_value : List ℕ
without_value =
    1 ∷ 1 ∷ 1 ∷ 0 ∷ 4 ∷ 7 ∷ 1 ∷ 0 ∷ 1 ∷ 1 ∷ 0 ∷ 5 ∷ 1 ∷ 34 ∷ 3 ∷ 0 ∷ 0 ∷ 19 ∷ 1 ∷ 1 ∷ 0 ∷ 97 ∷ []

-- `expr {[{...z}]: a, ...r} = s`; its tree and its list
abbrev in_key : List ℕ
in_key =
    1 ∷ 1 ∷ 1 ∷ 0 ∷ 3 ∷ 3 ∷ 1 ∷ 0 ∷ 27 ∷ 7 ∷ 1 ∷ 34 ∷ 3 ∷ 1 ∷ 0 ∷ 35 ∷ 7 ∷ 24 ∷ 1 ∷ 1 ∷ 0 ∷ 26 ∷ 1 ∷ 18 ∷ 1 ∷ 1 ∷ 0 ∷ 122 ∷ 18 ∷ 1 ∷ 1 ∷ 0 ∷ 97 ∷ 1 ∷
    18 ∷ 1 ∷ 1 ∷ 0 ∷ 114 ∷ 18 ∷ 1 ∷ 1 ∷ 0 ∷ 115 ∷ []

abbrev in_key_tree : List ℕ
in_key_tree =
    1 ∷ 1 ∷ 1 ∷ 0 ∷ 3 ∷ 3 ∷ 1 ∷ 0 ∷ 28 ∷ 1 ∷ 3 ∷ 0 ∷ 27 ∷ 7 ∷ 1 ∷ 20 ∷ 3 ∷ 1 ∷ 0 ∷ 3 ∷ 18 ∷ 1 ∷ 1 ∷ 0 ∷ 115 ∷ 27 ∷ 7 ∷ 1 ∷ 34 ∷ 1 ∷ 1 ∷ 0 ∷ 35 ∷ 7 ∷
    20 ∷ 3 ∷ 2 ∷ 0 ∷ 4 ∷ 18 ∷ 1 ∷ 1 ∷ 0 ∷ 97 ∷ 1 ∷ 20 ∷ 3 ∷ 1 ∷ 0 ∷ 3 ∷ 27 ∷ 7 ∷ 1 ∷ 18 ∷ 1 ∷ 1 ∷ 0 ∷ 114 ∷ 29 ∷ 3 ∷ 21 ∷ 1 ∷ 4 ∷ 2 ∷ 0 ∷ 20 ∷ 3 ∷ 1
    ∷ 0 ∷ 3 ∷ 29 ∷ 3 ∷ 30 ∷ 3 ∷ 32 ∷ 1 ∷ 1 ∷ 0 ∷ 20 ∷ 3 ∷ 2 ∷ 0 ∷ 4 ∷ 3 ∷ 0 ∷ 109 ∷ 97 ∷ 112 ∷ 1 ∷ 0 ∷ 21 ∷ 1 ∷ 5 ∷ []

abbrev in_key_list : List ℕ
in_key_list =
    1 ∷ 0 ∷ 1 ∷ 0 ∷ 2 ∷ 0 ∷ 5 ∷ 1 ∷ 20 ∷ 3 ∷ 1 ∷ 0 ∷ 3 ∷ 5 ∷ 3 ∷ 20 ∷ 3 ∷ 2 ∷ 0 ∷ 4 ∷ 24 ∷ 1 ∷ 1 ∷ 0 ∷ 26 ∷ 1 ∷ 18 ∷ 1 ∷ 1 ∷ 0 ∷ 122 ∷ 0 ∷ 0 ∷ []

-- a block with `var {[k]: a, ...r} = s`, where k is a Template of one quasi with `{...z}` in its expressions; its tree and its list
abbrev in_excluded : List ℕ
in_excluded =
    1 ∷ 1 ∷ 1 ∷ 0 ∷ 2 ∷ 3 ∷ 1 ∷ 0 ∷ 1 ∷ 0 ∷ 4 ∷ 7 ∷ 2 ∷ 0 ∷ 1 ∷ 1 ∷ 0 ∷ 5 ∷ 3 ∷ 34 ∷ 3 ∷ 1 ∷ 0 ∷ 35 ∷ 7 ∷ 23 ∷ 3 ∷ 1 ∷ 0 ∷ 22 ∷ 7 ∷ 1 ∷ 1 ∷ 0 ∷ 113 ∷
    1 ∷ 0 ∷ 113 ∷ 1 ∷ 0 ∷ 24 ∷ 1 ∷ 1 ∷ 0 ∷ 26 ∷ 1 ∷ 18 ∷ 1 ∷ 1 ∷ 0 ∷ 122 ∷ 19 ∷ 1 ∷ 1 ∷ 0 ∷ 97 ∷ 1 ∷ 19 ∷ 1 ∷ 1 ∷ 0 ∷ 114 ∷ 18 ∷ 1 ∷ 1 ∷ 0 ∷ 115 ∷ []

abbrev in_excluded_tree : List ℕ
in_excluded_tree =
    1 ∷ 1 ∷ 1 ∷ 0 ∷ 2 ∷ 3 ∷ 1 ∷ 0 ∷ 1 ∷ 0 ∷ 4 ∷ 7 ∷ 2 ∷ 0 ∷ 1 ∷ 2 ∷ 0 ∷ 5 ∷ 3 ∷ 34 ∷ 1 ∷ 1 ∷ 0 ∷ 35 ∷ 7 ∷ 23 ∷ 3 ∷ 1 ∷ 0 ∷ 22 ∷ 7 ∷ 1 ∷ 1 ∷ 0 ∷ 113 ∷
    1 ∷ 0 ∷ 113 ∷ 1 ∷ 0 ∷ 29 ∷ 3 ∷ 21 ∷ 1 ∷ 1 ∷ 2 ∷ 0 ∷ 24 ∷ 1 ∷ 0 ∷ 0 ∷ 18 ∷ 1 ∷ 1 ∷ 0 ∷ 122 ∷ 19 ∷ 1 ∷ 1 ∷ 0 ∷ 97 ∷ 1 ∷ 18 ∷ 1 ∷ 1 ∷ 0 ∷ 115 ∷ 5 ∷
    3 ∷ 19 ∷ 1 ∷ 1 ∷ 0 ∷ 114 ∷ 29 ∷ 3 ∷ 21 ∷ 1 ∷ 4 ∷ 2 ∷ 0 ∷ 18 ∷ 1 ∷ 1 ∷ 0 ∷ 115 ∷ 20 ∷ 3 ∷ 1 ∷ 0 ∷ 2 ∷ []

abbrev in_excluded_list : List ℕ
in_excluded_list =
    0 ∷ 0 ∷ 1 ∷ 0 ∷ 5 ∷ 3 ∷ 20 ∷ 3 ∷ 1 ∷ 0 ∷ 2 ∷ 32 ∷ 1 ∷ 1 ∷ 0 ∷ 23 ∷ 3 ∷ 1 ∷ 0 ∷ 22 ∷ 7 ∷ 1 ∷ 1 ∷ 0 ∷ 113 ∷ 1 ∷ 0 ∷ 113 ∷ 1 ∷ 0 ∷ 24 ∷ 1 ∷ 1 ∷ 0 ∷
    26 ∷ 1 ∷ 18 ∷ 1 ∷ 1 ∷ 0 ∷ 122 ∷ []

-- document 01's listing, and its tree
abbrev listing : List ℕ
listing = 1 ∷ 1 ∷ 1 ∷ 0 ∷ 3 ∷ 3 ∷ 1 ∷ 0 ∷ 24 ∷ 1 ∷ 1 ∷ 0 ∷ 26 ∷ 1 ∷ 18 ∷ 1 ∷ 1 ∷ 0 ∷ 97 ∷ []

abbrev listing_tree : List ℕ
listing_tree = 1 ∷ 1 ∷ 1 ∷ 0 ∷ 3 ∷ 3 ∷ 1 ∷ 0 ∷ 29 ∷ 3 ∷ 21 ∷ 1 ∷ 1 ∷ 2 ∷ 0 ∷ 24 ∷ 1 ∷ 0 ∷ 0 ∷ 18 ∷ 1 ∷ 1 ∷ 0 ∷ 97 ∷ []

-- `` let {[`a`[function() { }]]: b, ...c} = d `` (lowering's `template_copied`), and its tree
abbrev mark_copied : List ℕ
mark_copied =
    1 ∷ 1 ∷ 1 ∷ 0 ∷ 4 ∷ 7 ∷ 1 ∷ 0 ∷ 2 ∷ 1 ∷ 0 ∷ 5 ∷ 3 ∷ 34 ∷ 3 ∷ 1 ∷ 0 ∷ 35 ∷ 7 ∷ 23 ∷ 3 ∷ 1 ∷ 0 ∷ 22 ∷ 7 ∷ 1 ∷ 1 ∷ 0 ∷ 97 ∷ 1 ∷ 0 ∷ 97 ∷ 1 ∷ 0 ∷ 14 ∷
    43 ∷ 2 ∷ 0 ∷ 2 ∷ 0 ∷ 0 ∷ 16 ∷ 2 ∷ 0 ∷ 0 ∷ 19 ∷ 1 ∷ 1 ∷ 0 ∷ 98 ∷ 1 ∷ 19 ∷ 1 ∷ 1 ∷ 0 ∷ 99 ∷ 18 ∷ 1 ∷ 1 ∷ 0 ∷ 100 ∷ []

abbrev mark_copied_tree : List ℕ
mark_copied_tree =
    1 ∷ 1 ∷ 1 ∷ 0 ∷ 4 ∷ 7 ∷ 1 ∷ 0 ∷ 2 ∷ 2 ∷ 0 ∷ 5 ∷ 3 ∷ 34 ∷ 1 ∷ 1 ∷ 0 ∷ 35 ∷ 7 ∷ 23 ∷ 3 ∷ 1 ∷ 0 ∷ 22 ∷ 7 ∷ 1 ∷ 1 ∷ 0 ∷ 97 ∷ 1 ∷ 0 ∷ 97 ∷ 1 ∷ 0 ∷ 14 ∷
    43 ∷ 2 ∷ 0 ∷ 2 ∷ 0 ∷ 0 ∷ 16 ∷ 2 ∷ 0 ∷ 0 ∷ 19 ∷ 1 ∷ 1 ∷ 0 ∷ 98 ∷ 1 ∷ 18 ∷ 1 ∷ 1 ∷ 0 ∷ 100 ∷ 5 ∷ 3 ∷ 19 ∷ 1 ∷ 1 ∷ 0 ∷ 99 ∷ 29 ∷ 3 ∷ 21 ∷ 1 ∷ 4 ∷ 2 ∷
    0 ∷ 18 ∷ 1 ∷ 1 ∷ 0 ∷ 100 ∷ 32 ∷ 1 ∷ 1 ∷ 0 ∷ 23 ∷ 3 ∷ 1 ∷ 0 ∷ 22 ∷ 7 ∷ 1 ∷ 1 ∷ 0 ∷ 97 ∷ 1 ∷ 0 ∷ 97 ∷ 1 ∷ 0 ∷ 14 ∷ 43 ∷ 2 ∷ 0 ∷ 2 ∷ 0 ∷ 0 ∷ 16 ∷ 2 ∷
    0 ∷ 0 ∷ []

-- the causes that occur in a tree
abbrev among : List Cause → Node → List Cause
among [] n = []
among (s ∷ ss) n = cond (any_of (shows s) (nodes n)) (s ∷ among ss n) (among ss n)

abbrev causes_of : Got Node → List Cause
causes_of (got n q k) = among (Cause.array_rest ∷ Cause.rest_parameter ∷ Cause.without_body ∷ Cause.without_value ∷ Cause.in_key ∷ Cause.in_template ∷ []) n
causes_of (refused r) = []

abbrev causes_in : List ℕ → List Cause
causes_in tree = causes_of (read_tree input highest_limit tree)

-- something is left in a list
abbrev kept_of : Got Handed → Bool
kept_of (got h q k) = any_of keeps (list_nodes h.entries h.excluded)
kept_of (refused r) = false

abbrev told_of_of : Got Node → Bool
told_of_of (got n q k) = copies_marks n
told_of_of (refused r) = false

pub record Examples : Type 0 where
  -- `var [...{...a}] = b` comes back as it is, and a rest is left
  pub below_array_rest_lowered : lowering highest_limit 0 below_array_rest plenty ≡ lowered 0 0 below_array_rest no_list
  pub below_array_rest_left : leftover below_array_rest ≡ true
  pub below_array_rest_cause : causes_in below_array_rest ≡ Cause.array_rest ∷ []
  -- `function (...{...a}) {}` comes back as it is, and a rest is left
  pub rest_parameter_lowered : lowering highest_limit 0 rest_parameter plenty ≡ lowered 0 0 rest_parameter no_list
  pub rest_parameter_left : leftover rest_parameter ≡ true
  pub rest_parameter_cause : causes_in rest_parameter ≡ Cause.rest_parameter ∷ []
  -- a function without body and with the parameter `{...a}` comes back as it is, and a rest is left
  pub without_body_lowered : lowering highest_limit 0 without_body plenty ≡ lowered 0 0 without_body no_list
  pub without_body_left : leftover without_body ≡ true
  pub without_body_cause : causes_in without_body ≡ Cause.without_body ∷ []
  -- `var {...a}` comes back as it is, and a rest is left
  pub without_value_lowered : lowering highest_limit 0 without_value plenty ≡ lowered 0 0 without_value no_list
  pub without_value_left : leftover without_value ≡ true
  pub without_value_cause : causes_in without_value ≡ Cause.without_value ∷ []
  -- the value of a key's temporary stands in the list as in the input, its spread too; the tree has nothing left
  pub in_key_lowered : lowering highest_limit 0 in_key plenty ≡ lowered 24 0 in_key_tree in_key_list
  pub in_key_rewritten : is_rewritten in_key_tree ≡ true
  pub in_key_none : leftover in_key_tree ≡ false
  pub in_key_left : kept_of (read_handed in_key_list) ≡ true
  pub in_key_cause : causes_in in_key ≡ Cause.in_key ∷ []
  -- such a Template stands among the excluded keys of the list as in the input, its spread too
  pub in_excluded_lowered : lowering highest_limit 0 in_excluded plenty ≡ lowered 9 0 in_excluded_tree in_excluded_list
  pub in_excluded_none : leftover in_excluded_tree ≡ false
  pub in_excluded_left : kept_of (read_handed in_excluded_list) ≡ true
  pub in_excluded_cause : causes_in in_excluded ≡ Cause.in_template ∷ []
  -- the function's mark stands twice, and the test tells
  pub mark_copied_lowered : lowering highest_limit 0 mark_copied plenty ≡ lowered 8 0 mark_copied_tree no_list
  pub mark_copied_twice : is_rewritten mark_copied_tree ≡ false
  pub mark_copied_told : told_of_of (read_tree input highest_limit mark_copied) ≡ true
  pub in_excluded_told : told_of_of (read_tree input highest_limit in_excluded) ≡ false
  -- the listing has no cause, and nothing is left
  pub listing_lowered : lowering highest_limit 0 listing plenty ≡ lowered 1 0 listing_tree no_list
  pub listing_rewritten : is_rewritten listing_tree ≡ true
  pub listing_none : leftover listing_tree ≡ false
  pub listing_causes : causes_in listing ≡ []
  -- no tree
  pub empty : leftover [] ≡ false

pub examples : Examples
unfolding
    Rattle.tree.specs.Tree.map_of Rattle.tree.specs.Tree.count Rattle.tree.specs.Tree.encode Rattle.tree.specs.Tree.placed
    Rattle.tree.specs.Tree.depth Rattle.tree.specs.Tree.marks Rattle.tree.specs.Grammar.places Rattle.tree.specs.Grammar.kind_of
    Rattle.tree.specs.Grammar.among Rattle.tree.specs.Grammar.also Rattle.tree.specs.Grammar.allowed Rattle.tree.specs.Grammar.form_in
    Rattle.tree.specs.Grammar.form_at Rattle.tree.specs.Grammar.kinds Rattle.tree.specs.Grammar.variants Rattle.tree.specs.Grammar.fields_of
    Rattle.tree.specs.Grammar.map_ok Rattle.tree.specs.Read.byte_at Rattle.tree.specs.Read.wide_at Rattle.tree.specs.Read.read_text
    Rattle.tree.specs.Read.read_byte Rattle.tree.specs.Read.read_mark Rattle.tree.specs.Read.read_number Rattle.tree.specs.Read.chosen_place
    Rattle.tree.specs.Read.read_item Rattle.tree.specs.Read.read_items Rattle.tree.specs.Read.read_list Rattle.tree.specs.Read.read_field
    Rattle.tree.specs.Read.read_slot Rattle.tree.specs.Read.read_fields Rattle.tree.specs.Read.read_node Rattle.tree.specs.Read.read_tree
    Rattle.lowering.specs.Parts.is Rattle.lowering.specs.Parts.piece_in Rattle.lowering.specs.Parts.stands_in
    Rattle.lowering.specs.Parts.change_in Rattle.lowering.specs.Parts.drop_in Rattle.lowering.specs.Parts.node_at_of
    Rattle.lowering.specs.Parts.items_at_of Rattle.lowering.specs.Parts.text_at_of Rattle.lowering.specs.Parts.number_at
    Rattle.lowering.specs.Parts.stands Rattle.lowering.specs.Parts.change Rattle.lowering.specs.Parts.on_node
    Rattle.lowering.specs.Parts.on_items Rattle.lowering.specs.Parts.without Rattle.lowering.specs.Parts.◌+++◌
    Rattle.lowering.specs.Parts.each Rattle.lowering.specs.Parts.gather Rattle.lowering.specs.Parts.any Rattle.lowering.specs.Parts.or_else
    Rattle.lowering.specs.Parts.first Rattle.lowering.specs.Parts.is_empty
    Rattle.lowering.specs.Patterns.shape Rattle.lowering.specs.Patterns.has_nested_object_rest
    Rattle.lowering.specs.Patterns.has_nested_array_rest Rattle.lowering.specs.Patterns.replaced
    Rattle.lowering.specs.Patterns.objects_with_rest
    Rattle.lowering.specs.Numbers.digit_of Rattle.lowering.specs.Numbers.are_digits Rattle.lowering.specs.Numbers.value_from
    Rattle.lowering.specs.Numbers.spelling_of_one Rattle.lowering.specs.Numbers.spelling_behind_zero Rattle.lowering.specs.Numbers.spelling_of
    Rattle.lowering.specs.Numbers.digits_up_to Rattle.lowering.specs.Numbers.digits_of Rattle.lowering.specs.Numbers.string_of
    Rattle.lowering.specs.Numbers.number_string Rattle.lowering.specs.Keys.key_sort Rattle.lowering.specs.Keys.is_primitive
    Rattle.lowering.specs.Keys.promised Rattle.lowering.specs.Keys.literal_text Rattle.lowering.specs.Keys.literal_refusal
    Rattle.lowering.specs.Keys.key_refusal Rattle.lowering.specs.Keys.key_text Rattle.lowering.specs.Keys.excluded_key
    Rattle.lowering.specs.Keys.kept_key Rattle.lowering.specs.Keys.key_temporary Rattle.lowering.specs.Keys.all_primitive
    Rattle.lowering.specs.Keys.keys_refusal Rattle.lowering.specs.Keys.excluded_keys Rattle.lowering.specs.Keys.key_temporaries
    Rattle.lowering.specs.Keys.taken Rattle.lowering.specs.Rests.mapped Rattle.lowering.specs.Rests.is_hoisted
    Rattle.lowering.specs.Rests.keys_read Rattle.lowering.specs.Rests.rest_value Rattle.lowering.specs.Rests.excluded_for
    Rattle.lowering.specs.Rests.rest_makes Rattle.lowering.specs.Literals.opened Rattle.lowering.specs.Literals.closed
    Rattle.lowering.specs.Literals.scan Rattle.lowering.specs.Literals.literal Rattle.lowering.specs.Declarations.is_name_of
    Rattle.lowering.specs.Declarations.source Rattle.lowering.specs.Declarations.source_declarator
    Rattle.lowering.specs.Declarations.keys_before Rattle.lowering.specs.Declarations.pattern_declarator
    Rattle.lowering.specs.Declarations.rest_declarator Rattle.lowering.specs.Declarations.own Rattle.lowering.specs.Declarations.nested
    Rattle.lowering.specs.Declarations.object_declarators Rattle.lowering.specs.Declarations.pattern_declarators
    Rattle.lowering.specs.Declarations.lower_declarator Rattle.lowering.specs.Declarations.inner_objects
    Rattle.lowering.specs.Declarations.declarator_makes Rattle.lowering.specs.Declarations.is_lowered
    Rattle.lowering.specs.Declarations.declarators Rattle.lowering.specs.Declarations.lowered_in
    Rattle.lowering.specs.Declarations.declaration Rattle.lowering.specs.Declarations.declaration_makes
    Rattle.lowering.specs.Declarations.declaration_excludes Rattle.lowering.specs.Declarations.declaration_refusal
    Rattle.lowering.specs.Assignments.is_top Rattle.lowering.specs.Assignments.nearest Rattle.lowering.specs.Assignments.top_refusal
    Rattle.lowering.specs.Assignments.parts_replaced Rattle.lowering.specs.Assignments.top_sequence
    Rattle.lowering.specs.Assignments.top_entry Rattle.lowering.specs.Assignments.top_excludes Rattle.lowering.specs.Assignments.top_makes
    Rattle.lowering.specs.Assignments.nested_sequence Rattle.lowering.specs.Assignments.nested_entry
    Rattle.lowering.specs.Assignments.nested_makes Rattle.lowering.specs.Heads.moved Rattle.lowering.specs.Heads.moved_pattern
    Rattle.lowering.specs.Heads.is_moved Rattle.lowering.specs.Heads.moved_from Rattle.lowering.specs.Heads.moved_out_of
    Rattle.lowering.specs.Heads.left_behind Rattle.lowering.specs.Heads.in_front Rattle.lowering.specs.Heads.in_body
    Rattle.lowering.specs.Heads.as_function_body Rattle.lowering.specs.Heads.as_block Rattle.lowering.specs.Heads.function
    Rattle.lowering.specs.Heads.function_makes Rattle.lowering.specs.Heads.arrow Rattle.lowering.specs.Heads.arrow_makes
    Rattle.lowering.specs.Heads.catch Rattle.lowering.specs.Heads.catch_makes Rattle.lowering.specs.Heads.declaring_head
    Rattle.lowering.specs.Heads.declaring_makes Rattle.lowering.specs.Heads.assigning_head Rattle.lowering.specs.Heads.assigning_makes
    Rattle.lowering.specs.Walk.step_declaration Rattle.lowering.specs.Walk.step_top Rattle.lowering.specs.Walk.step_assignment
    Rattle.lowering.specs.Walk.step_for Rattle.lowering.specs.Walk.rule_of Rattle.lowering.specs.Walk.rewrite
    Rattle.lowering.specs.Walk.opens_scope Rattle.lowering.specs.Walk.within Rattle.lowering.specs.Walk.each_item_of
    Rattle.lowering.specs.Walk.each_piece Rattle.lowering.specs.Walk.each_field Rattle.lowering.specs.Walk.inside
    Rattle.lowering.specs.Walk.walk Rattle.lowering.specs.Weight.is_head Rattle.lowering.specs.Weight.extra
    Rattle.lowering.specs.Weight.factor Rattle.lowering.specs.Weight.walked Rattle.lowering.specs.Weight.weight
    Rattle.lowering.specs.Collect.over Rattle.lowering.specs.Collect.is_container Rattle.lowering.specs.Collect.mark_in
    Rattle.lowering.specs.Collect.first_refusal Rattle.lowering.specs.Collect.entry_at Rattle.lowering.specs.Collect.entries
    Rattle.lowering.specs.Collect.excluded_in Rattle.lowering.specs.Collect.made_in_of Rattle.lowering.specs.Collect.list_nodes
    Rattle.lowering.specs.Collect.uses Rattle.lowering.specs.Collect.mask_from Rattle.lowering.specs.Collect.helper_mask
    Rattle.lowering.specs.Collect.name_of Rattle.lowering.specs.Parts.same_numbers Rattle.lowering.specs.Collect.same
    Rattle.lowering.specs.Collect.name_at Rattle.lowering.specs.Collect.except Rattle.lowering.specs.Collect.distinct
    Rattle.lowering.specs.Collect.number_in Rattle.lowering.specs.Collect.names_of Rattle.lowering.specs.Collect.with_number
    Rattle.lowering.specs.Collect.declarator_bytes Rattle.lowering.specs.Collect.entry_bytes Rattle.lowering.specs.Collect.list_bytes
    Rattle.lowering.specs.Collect.new_in Rattle.lowering.specs.Collect.bare Rattle.lowering.specs.Collect.visits
    Rattle.lowering.specs.Collect.nodes Rattle.lowering.specs.Collect.numbered Rattle.lowering.specs.Answer.fits
    Rattle.lowering.specs.Answer.fitted Rattle.lowering.specs.Answer.collected Rattle.lowering.specs.Answer.after_walk
    Rattle.lowering.specs.Answer.after_reading Rattle.lowering.specs.Answer.lowering Rattle.lowering.specs.Answer.filled
    Rattle.lowering.specs.Answer.outcome_of Rattle.lowering.specs.Answer.outcome Rattle.lowering.specs.Answer.in_force
    Rattle.result.specs.Leftover.leftover Rattle.result.specs.Leftover.rest_left Rattle.result.specs.Left.any_of
    Rattle.result.specs.Left.keeps_rest Rattle.result.specs.Left.keeps_spread Rattle.result.specs.Left.keeps
    Rattle.result.specs.Causes.lacks_value Rattle.result.specs.Causes.holds_kept Rattle.result.specs.Causes.shows
    Rattle.joining.specs.List.read_declarators Rattle.joining.specs.List.read_entry Rattle.joining.specs.List.read_entries
    Rattle.joining.specs.List.read_parts Rattle.joining.specs.List.read_handed Rattle.rewritten.specs.Pending.node_in_of
    Rattle.rewritten.specs.Rewritten.is_rewritten Rattle.rewritten.specs.Rewritten.read_rewritten
    Rattle.rewritten.specs.Rewritten.distinct Rattle.result.specs.Marks.holds_mark Rattle.result.specs.Marks.copies_at
    Rattle.result.specs.Marks.copies_marks
examples = record { below_array_rest_lowered = refl; below_array_rest_left = refl; below_array_rest_cause = refl; rest_parameter_lowered = refl; rest_parameter_left = refl; rest_parameter_cause = refl; without_body_lowered = refl; without_body_left = refl; without_body_cause = refl; without_value_lowered = refl; without_value_left = refl; without_value_cause = refl; in_key_lowered = refl; in_key_rewritten = refl; in_key_none = refl; in_key_left = refl; in_key_cause = refl; in_excluded_lowered = refl; in_excluded_none = refl; in_excluded_left = refl; in_excluded_cause = refl; mark_copied_lowered = refl; mark_copied_twice = refl; mark_copied_told = refl; in_excluded_told = refl; listing_lowered = refl; listing_rewritten = refl; listing_none = refl; listing_causes = refl; empty = refl }
