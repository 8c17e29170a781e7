-- Which bytes are a rewritten tree, by computation.
use Rattle.std.specs.Prelude.{◌≡◌, refl, true, false, List, [], ◌∷◌, ℕ, zero, suc}
use Rattle.tree.specs.Tree.{marks, marks_fields, marks_piece, marks_items}
use Rattle.tree.specs.Grammar.{form_at, allowed, also, among, places, form_in, kind_of, fields_of, kinds, variants, map_ok}
use Rattle.tree.specs.Read.{read_tree, read_node, read_fields, read_slot, read_field, read_list, read_items, read_item, read_text, read_byte, read_mark, read_number, chosen_place, byte_at, wide_at}
use Rattle.rewritten.specs.Rewritten.{distinct, read_rewritten, is_rewritten}

-- n Parenthesised in each other around `a`
unfoldable pub parenthesised : ℕ → List ℕ
parenthesised zero = 18 ∷ 1 ∷ 1 ∷ 0 ∷ 97 ∷ []
parenthesised (suc n) = 31 ∷ 1 ∷ parenthesised n

-- a Program with a statement, the n below it
unfoldable pub nested : ℕ → List ℕ
nested n = 1 ∷ 1 ∷ 1 ∷ 0 ∷ 3 ∷ 3 ∷ 1 ∷ 0 ∷ parenthesised n

pub record Examples : Type 0 where
  -- `@0 a;`: 0 is a mark
  pub mark_zero : is_rewritten (1 ∷ 1 ∷ 1 ∷ 0 ∷ 3 ∷ 3 ∷ 0 ∷ 0 ∷ 18 ∷ 1 ∷ 1 ∷ 0 ∷ 97 ∷ []) ≡ true
  -- `@7 a; @7 b;`
  pub mark_twice : is_rewritten (1 ∷ 1 ∷ 2 ∷ 0 ∷ 3 ∷ 3 ∷ 7 ∷ 0 ∷ 18 ∷ 1 ∷ 1 ∷ 0 ∷ 97 ∷ 3 ∷ 3 ∷ 7 ∷ 0 ∷ 18 ∷ 1 ∷ 1 ∷ 0 ∷ 98 ∷ []) ≡ false
  -- `@8 a; @7 b;`: in any order
  pub marks_apart : is_rewritten (1 ∷ 1 ∷ 2 ∷ 0 ∷ 3 ∷ 3 ∷ 8 ∷ 0 ∷ 18 ∷ 1 ∷ 1 ∷ 0 ∷ 97 ∷ 3 ∷ 3 ∷ 7 ∷ 0 ∷ 18 ∷ 1 ∷ 1 ∷ 0 ∷ 98 ∷ []) ≡ true
  -- `S = a;`: a Helper is no target
  pub helper_target : is_rewritten (1 ∷ 1 ∷ 1 ∷ 0 ∷ 3 ∷ 3 ∷ 1 ∷ 0 ∷ 27 ∷ 7 ∷ 1 ∷ 21 ∷ 1 ∷ 1 ∷ 18 ∷ 1 ∷ 1 ∷ 0 ∷ 97 ∷ []) ≡ false
  -- `$ref1 = a;`
  pub temporary_target : is_rewritten (1 ∷ 1 ∷ 1 ∷ 0 ∷ 3 ∷ 3 ∷ 1 ∷ 0 ∷ 27 ∷ 7 ∷ 1 ∷ 20 ∷ 3 ∷ 1 ∷ 0 ∷ 1 ∷ 18 ∷ 1 ∷ 1 ∷ 0 ∷ 97 ∷ []) ≡ true
  -- a Temporary without its stem
  pub no_stem : is_rewritten (1 ∷ 1 ∷ 1 ∷ 0 ∷ 3 ∷ 3 ∷ 1 ∷ 0 ∷ 20 ∷ 1 ∷ 1 ∷ 0 ∷ []) ≡ false
  -- stems are 1 to 4
  pub stem_five : is_rewritten (1 ∷ 1 ∷ 1 ∷ 0 ∷ 3 ∷ 3 ∷ 1 ∷ 0 ∷ 20 ∷ 3 ∷ 1 ∷ 0 ∷ 5 ∷ []) ≡ false
  -- what document 01's listing prints
  pub listing : is_rewritten (1 ∷ 1 ∷ 1 ∷ 0 ∷ 3 ∷ 3 ∷ 1 ∷ 0 ∷ 29 ∷ 3 ∷ 21 ∷ 1 ∷ 1 ∷ 2 ∷ 0 ∷ 24 ∷ 1 ∷ 0 ∷ 0 ∷ 18 ∷ 1 ∷ 1 ∷ 0 ∷ 97 ∷ []) ≡ true
  -- 203 levels, more than input may have
  pub deep : is_rewritten (nested 200) ≡ true
  pub empty : is_rewritten [] ≡ false

pub examples : Examples
unfolding parenthesised nested is_rewritten read_rewritten distinct marks marks_fields marks_piece marks_items read_tree read_node read_fields read_slot read_field read_list read_items read_item read_text read_byte read_mark read_number chosen_place byte_at wide_at form_at allowed also among places form_in kind_of fields_of kinds variants map_ok
examples = record { mark_zero = refl; mark_twice = refl; marks_apart = refl; helper_target = refl; temporary_target = refl; no_stem = refl; stem_five = refl; listing = refl; deep = refl; empty = refl }
