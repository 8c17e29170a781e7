-- What a key becomes: document 01's case for each variant.
use Rattle.std.specs.Prelude.{ℕ, ◌≡◌, Bool, cond, ◌&&◌, List, [], ◌∷◌, eqb, take, drop}
use Rattle.tree.specs.Tree.{Node, Items}
use Rattle.tree.specs.Tree.Items.{none}
use Rattle.tree.specs.Read.{byte_at}
use Rattle.tree.specs.Look.{look_node}
use Rattle.lowering.specs.Parts.{only, number_at}
use Rattle.lowering.specs.Made.{Context, string, key_of}
use Rattle.lowering.specs.Patterns as patterns
use Rattle.lowering.specs.Patterns.{properties}
use Rattle.lowering.specs.Keys.{key_sort, excluded_key}
use Rattle.lowering.specs.Numbers.{digits_of}
use Rattle.lowering.specs.Keys as lowering
use Rattle.pattern.specs.declared.keys.Key.{Key}
use Rattle.pattern.specs.declared.keys.Key.TheVariants as key
use Rattle.pattern.specs.declared.keys.Key.TheVariants.{Name, Literal, OtherForm, NoForm, Template, Private, Again, Other}
use Rattle.pattern.specs.Tally.{Totals, no_tally, both, sum}
use Rattle.pattern.specs.Parts.{Content, part_at, text_in_of, standing}
use Rattle.pattern.specs.Numbers.{Numeral, spelled_as_of, is_string_of}

-- ---- the variants

-- a name: where its bytes are
unfoldable pub name_in_of : Content → Key
name_in_of (Content.node q) = Name 0 0
name_in_of (Content.list h n p) = Name 0 0
name_in_of (Content.text p n) = Name p n
name_in_of Content.plain = Name 0 0
name_in_of Content.absent = Name 0 0

-- a literal: where the bytes of its form are, if it has one
unfoldable pub form_in : Content → Key
form_in (Content.node q) = Literal 0 0
form_in (Content.list h n p) = Literal 0 0
form_in (Content.text p n) = Literal p n
form_in Content.plain = Literal 0 0
form_in Content.absent = NoForm

module _ (tree : List ℕ) where
  -- a number of the value v beside its form: the form if it is the string of v; without a form, the other
  unfoldable pub beside_form : ℕ → Key → Content → Key
  beside_form v alone p = cond (standing p) (cond (is_string_of v (spelled_as_of (text_in_of tree p))) (form_in p) (OtherForm v)) alone

  -- a literal, by what its spelling is as a number; a decimal spelling is its own string
  unfoldable pub literal_by : Numeral → Content → Content → Key
  literal_by (Numeral.decimal v) s p = beside_form v (form_in s) p
  literal_by (Numeral.hexadecimal v) s p = beside_form v (key.Number v) p
  literal_by Numeral.another s p = form_in p

  -- a literal, by its sort, its spelling and its form
  unfoldable pub literal_in : ℕ → Content → Content → Key
  literal_in sort s p = literal_by (cond (eqb sort 2) (spelled_as_of (text_in_of tree s)) Numeral.another) s p

  -- the literal at a position
  unfoldable pub literal_at : ℕ → ℕ → Key
  literal_at d at = literal_in (number_at 0 (look_node tree d at).value) (part_at tree d at 1) (part_at tree d at 2)

-- a key of each sort, by what its name field holds, and what it is if it is a literal
abbrev pub key_by : lowering.Key → Content → Key → Key
key_by lowering.Key.name p k = name_in_of p
key_by lowering.Key.literal p k = k
key_by lowering.Key.template p k = Template
key_by lowering.Key.private p k = Private
key_by lowering.Key.again p k = Again
key_by lowering.Key.other p k = Other

-- the key at a position
unfoldable pub key_at : List ℕ → ℕ → ℕ → Key
key_at tree d at = key_by (key_sort (look_node tree d at).value) (part_at tree d at 0) (literal_at tree d at)

-- the number of the refusal, or 0
abbrev pub key_refusal : Key → ℕ
key_refusal (Name p n) = 0
key_refusal (Literal p n) = 0
key_refusal (key.Number v) = 0
key_refusal (OtherForm v) = 11
key_refusal NoForm = 6
key_refusal Template = 0
key_refusal Private = 0
key_refusal Again = 0
key_refusal Other = 0

-- the entry that the property q adds to the excluded keys
abbrev pub key_entry : List ℕ → Context → Node → Key → Items
key_entry tree c q (Name p n) = only (string (take n (drop p tree)))
key_entry tree c q (Literal p n) = only (string (take n (drop p tree)))
key_entry tree c q (key.Number v) = only (string (digits_of v))
key_entry tree c q (OtherForm v) = only (string (digits_of v))
key_entry tree c q NoForm = only (string [])
key_entry tree c q Template = only (patterns.key q)
key_entry tree c q Private = none
key_entry tree c q Again = only (patterns.key q)
key_entry tree c q Other = only (key_of c q)

-- document 01's sort of the key
abbrev pub sort_of_key : Key → lowering.Key
sort_of_key (Name p n) = lowering.Key.name
sort_of_key (Literal p n) = lowering.Key.literal
sort_of_key (key.Number v) = lowering.Key.literal
sort_of_key (OtherForm v) = lowering.Key.literal
sort_of_key NoForm = lowering.Key.literal
sort_of_key Template = lowering.Key.template
sort_of_key Private = lowering.Key.private
sort_of_key Again = lowering.Key.again
sort_of_key Other = lowering.Key.other

-- its values: where the bytes of its string start and how many there are, or the number whose digits it is
abbrev pub key_values : Key → List ℕ
key_values (Name p n) = p ∷ n ∷ []
key_values (Literal p n) = p ∷ n ∷ []
key_values (key.Number v) = v ∷ []
key_values (OtherForm v) = v ∷ []
key_values NoForm = []
key_values Template = []
key_values Private = []
key_values Again = []
key_values Other = []

-- r is k by its sort, the number of its refusal and its values
pub record Keyed (r k : Key) : Type 0 where
  pub sort : sort_of_key r ≡ sort_of_key k
  pub number : key_refusal r ≡ key_refusal k
  pub values : key_values r ≡ key_values k

-- what is promised of the key at a position: which it is, the entry of each property that has it, and the refusal
pub record Becomes (tree : List ℕ) (d at : ℕ) (r : Key) : Type 0 where
  pub variant : Keyed r (key_at tree d at)
  pub entry : (c : Context) (q : Node) → patterns.key q ≡ (look_node tree d at).value → excluded_key c q ≡ key_entry tree c q r
  pub refusal : lowering.key_refusal (look_node tree d at).value ≡ key_refusal r

-- ---- counts

abbrev pub counts : ℕ → ℕ → ℕ → ℕ → Totals
counts excluded temporaries computed refusal =
    record { excluded = excluded; temporaries = temporaries; computed = computed; refusal = refusal; objects = 0; patterns = 0 }

-- excluded keys, temporaries, keys that are not primitive; the refusal
unfoldable pub key_counts : Key → Totals
key_counts (Name p n) = counts 1 0 0 0
key_counts (Literal p n) = counts 1 0 0 0
key_counts (key.Number v) = counts 1 0 0 0
key_counts (OtherForm v) = counts 1 0 0 11
key_counts NoForm = counts 1 0 0 6
key_counts Template = counts 1 0 0 0
key_counts Private = counts 0 0 0 0
key_counts Again = counts 1 0 1 0
key_counts Other = counts 1 1 1 0

-- the same of a key of each sort, by its refusal if it is a literal
abbrev pub counts_by : lowering.Key → ℕ → Totals
counts_by lowering.Key.name r = counts 1 0 0 0
counts_by lowering.Key.literal r = counts 1 0 0 r
counts_by lowering.Key.template r = counts 1 0 0 0
counts_by lowering.Key.private r = counts 0 0 0 0
counts_by lowering.Key.again r = counts 1 0 1 0
counts_by lowering.Key.other r = counts 1 1 1 0

unfoldable pub key_tally : Node → Totals
key_tally k = counts_by (key_sort k) (lowering.key_refusal k)

-- of all keys of the object pattern p
unfoldable pub keys_of : Node → Totals
keys_of p = sum no_tally both (λ q. key_tally (patterns.key q)) (properties p)

-- of an item of its list; a hole adds nothing
unfoldable pub item_keys : List ℕ → Bool → ℕ → ℕ → Totals
item_keys tree holes d at = cond (holes && eqb (byte_at tree at) 0) no_tally (key_tally (patterns.key (look_node tree d at).value))
