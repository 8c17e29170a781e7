-- Request 10's cases by computation.
use Rattle.std.specs.Prelude.{◌≡◌, refl, [], ◌∷◌}
use Rattle.tree.specs.Tree.{marks, marks_fields, marks_piece, marks_items, encode, encode_fields, encode_piece, encode_items, map_of, count}
use Rattle.tree.specs.Grammar.{form_at, allowed, also, among, places, form_in, kind_of, fields_of, kinds, variants, map_ok}
use Rattle.tree.specs.Read.{read_tree, read_node, read_fields, read_slot, read_field, read_list, read_items, read_item, read_text, read_byte, read_mark, read_number, chosen_place, byte_at, wide_at}
use Rattle.lowering.specs.Collect.{over}
use Rattle.rewritten.specs.Rewritten.{distinct, read_rewritten}
use Rattle.rewritten.specs.Pending.{node_in_of}
use Rattle.joining.specs.List.{read_declarators, read_entry, read_entries, read_parts, read_handed, inner_marks}
use Rattle.joining.specs.Join.{first_mark, found, found_fields, found_piece, found_items, seek, fresh, handed_to, vars, news, news_fields, news_piece, news_items, join, join_fields, join_piece, join_items, joined_tree}
use Rattle.joining.specs.Answer.{taken, all_found_of, outcome}
use Rattle.joining.specs.Answer.Outcome.{refusal, tree}

pub record Examples : Type 0 where
  -- an empty list changes nothing
  pub empty_list : outcome (1 ∷ 1 ∷ 1 ∷ 0 ∷ 3 ∷ 3 ∷ 1 ∷ 0 ∷ 18 ∷ 1 ∷ 1 ∷ 0 ∷ 97 ∷ []) (0 ∷ 0 ∷ 0 ∷ 0 ∷ []) 32768 ≡ tree (1 ∷ 1 ∷ 1 ∷ 0 ∷ 3 ∷ 3 ∷ 1 ∷ 0 ∷ 18 ∷ 1 ∷ 1 ∷ 0 ∷ 97 ∷ [])
  -- 10.1: the `const` is the first statement
  pub const_first : outcome (1 ∷ 1 ∷ 1 ∷ 0 ∷ 3 ∷ 3 ∷ 1 ∷ 0 ∷ 18 ∷ 1 ∷ 1 ∷ 0 ∷ 97 ∷ []) (1 ∷ 0 ∷ 1 ∷ 0 ∷ 1 ∷ 0 ∷ 5 ∷ 1 ∷ 20 ∷ 3 ∷ 1 ∷ 0 ∷ 3 ∷ 1 ∷ 0 ∷ 5 ∷ 3 ∷ 20 ∷ 3 ∷ 2 ∷ 0 ∷ 2 ∷ 32 ∷ 1 ∷ 0 ∷ 0 ∷ []) 32768 ≡ tree (1 ∷ 1 ∷ 3 ∷ 0 ∷ 4 ∷ 7 ∷ 2 ∷ 0 ∷ 3 ∷ 1 ∷ 0 ∷ 5 ∷ 3 ∷ 20 ∷ 3 ∷ 2 ∷ 0 ∷ 2 ∷ 32 ∷ 1 ∷ 0 ∷ 0 ∷ 4 ∷ 7 ∷ 3 ∷ 0 ∷ 1 ∷ 1 ∷ 0 ∷ 5 ∷ 1 ∷ 20 ∷ 3 ∷ 1 ∷ 0 ∷ 3 ∷ 3 ∷ 3 ∷ 1 ∷ 0 ∷ 18 ∷ 1 ∷ 1 ∷ 0 ∷ 97 ∷ [])
  -- 10.2: the free marks 3, 4, 6, 7 in byte order; a Block's statement too
  pub free_marks : outcome (1 ∷ 1 ∷ 2 ∷ 0 ∷ 2 ∷ 3 ∷ 1 ∷ 0 ∷ 1 ∷ 0 ∷ 3 ∷ 3 ∷ 5 ∷ 0 ∷ 18 ∷ 1 ∷ 1 ∷ 0 ∷ 97 ∷ 3 ∷ 3 ∷ 2 ∷ 0 ∷ 18 ∷ 1 ∷ 1 ∷ 0 ∷ 98 ∷ []) (3 ∷ 0 ∷ 5 ∷ 0 ∷ 1 ∷ 0 ∷ 5 ∷ 1 ∷ 20 ∷ 3 ∷ 1 ∷ 0 ∷ 3 ∷ 2 ∷ 0 ∷ 2 ∷ 0 ∷ 5 ∷ 1 ∷ 20 ∷ 3 ∷ 2 ∷ 0 ∷ 3 ∷ 5 ∷ 1 ∷ 20 ∷ 3 ∷ 3 ∷ 0 ∷ 3 ∷ 5 ∷ 0 ∷ 1 ∷ 0 ∷ 5 ∷ 1 ∷ 20 ∷ 3 ∷ 4 ∷ 0 ∷ 3 ∷ 1 ∷ 0 ∷ 5 ∷ 1 ∷ 20 ∷ 3 ∷ 9 ∷ 0 ∷ 3 ∷ []) 32768 ≡ tree (1 ∷ 1 ∷ 4 ∷ 0 ∷ 4 ∷ 7 ∷ 3 ∷ 0 ∷ 3 ∷ 1 ∷ 0 ∷ 5 ∷ 1 ∷ 20 ∷ 3 ∷ 9 ∷ 0 ∷ 3 ∷ 2 ∷ 3 ∷ 1 ∷ 0 ∷ 3 ∷ 0 ∷ 4 ∷ 7 ∷ 4 ∷ 0 ∷ 1 ∷ 1 ∷ 0 ∷ 5 ∷ 1 ∷ 20 ∷ 3 ∷ 1 ∷ 0 ∷ 3 ∷ 4 ∷ 7 ∷ 6 ∷ 0 ∷ 1 ∷ 1 ∷ 0 ∷ 5 ∷ 1 ∷ 20 ∷ 3 ∷ 4 ∷ 0 ∷ 3 ∷ 3 ∷ 3 ∷ 5 ∷ 0 ∷ 18 ∷ 1 ∷ 1 ∷ 0 ∷ 97 ∷ 4 ∷ 7 ∷ 7 ∷ 0 ∷ 1 ∷ 2 ∷ 0 ∷ 5 ∷ 1 ∷ 20 ∷ 3 ∷ 2 ∷ 0 ∷ 3 ∷ 5 ∷ 1 ∷ 20 ∷ 3 ∷ 3 ∷ 0 ∷ 3 ∷ 3 ∷ 3 ∷ 2 ∷ 0 ∷ 18 ∷ 1 ∷ 1 ∷ 0 ∷ 98 ∷ [])
  -- the same, a slice as long as the result
  pub exact_slice : outcome (1 ∷ 1 ∷ 2 ∷ 0 ∷ 2 ∷ 3 ∷ 1 ∷ 0 ∷ 1 ∷ 0 ∷ 3 ∷ 3 ∷ 5 ∷ 0 ∷ 18 ∷ 1 ∷ 1 ∷ 0 ∷ 97 ∷ 3 ∷ 3 ∷ 2 ∷ 0 ∷ 18 ∷ 1 ∷ 1 ∷ 0 ∷ 98 ∷ []) (3 ∷ 0 ∷ 5 ∷ 0 ∷ 1 ∷ 0 ∷ 5 ∷ 1 ∷ 20 ∷ 3 ∷ 1 ∷ 0 ∷ 3 ∷ 2 ∷ 0 ∷ 2 ∷ 0 ∷ 5 ∷ 1 ∷ 20 ∷ 3 ∷ 2 ∷ 0 ∷ 3 ∷ 5 ∷ 1 ∷ 20 ∷ 3 ∷ 3 ∷ 0 ∷ 3 ∷ 5 ∷ 0 ∷ 1 ∷ 0 ∷ 5 ∷ 1 ∷ 20 ∷ 3 ∷ 4 ∷ 0 ∷ 3 ∷ 1 ∷ 0 ∷ 5 ∷ 1 ∷ 20 ∷ 3 ∷ 9 ∷ 0 ∷ 3 ∷ []) 91 ≡ tree (1 ∷ 1 ∷ 4 ∷ 0 ∷ 4 ∷ 7 ∷ 3 ∷ 0 ∷ 3 ∷ 1 ∷ 0 ∷ 5 ∷ 1 ∷ 20 ∷ 3 ∷ 9 ∷ 0 ∷ 3 ∷ 2 ∷ 3 ∷ 1 ∷ 0 ∷ 3 ∷ 0 ∷ 4 ∷ 7 ∷ 4 ∷ 0 ∷ 1 ∷ 1 ∷ 0 ∷ 5 ∷ 1 ∷ 20 ∷ 3 ∷ 1 ∷ 0 ∷ 3 ∷ 4 ∷ 7 ∷ 6 ∷ 0 ∷ 1 ∷ 1 ∷ 0 ∷ 5 ∷ 1 ∷ 20 ∷ 3 ∷ 4 ∷ 0 ∷ 3 ∷ 3 ∷ 3 ∷ 5 ∷ 0 ∷ 18 ∷ 1 ∷ 1 ∷ 0 ∷ 97 ∷ 4 ∷ 7 ∷ 7 ∷ 0 ∷ 1 ∷ 2 ∷ 0 ∷ 5 ∷ 1 ∷ 20 ∷ 3 ∷ 2 ∷ 0 ∷ 3 ∷ 5 ∷ 1 ∷ 20 ∷ 3 ∷ 3 ∷ 0 ∷ 3 ∷ 3 ∷ 3 ∷ 2 ∷ 0 ∷ 18 ∷ 1 ∷ 1 ∷ 0 ∷ 98 ∷ [])
  -- a byte shorter: 7
  pub no_room : outcome (1 ∷ 1 ∷ 2 ∷ 0 ∷ 2 ∷ 3 ∷ 1 ∷ 0 ∷ 1 ∷ 0 ∷ 3 ∷ 3 ∷ 5 ∷ 0 ∷ 18 ∷ 1 ∷ 1 ∷ 0 ∷ 97 ∷ 3 ∷ 3 ∷ 2 ∷ 0 ∷ 18 ∷ 1 ∷ 1 ∷ 0 ∷ 98 ∷ []) (3 ∷ 0 ∷ 5 ∷ 0 ∷ 1 ∷ 0 ∷ 5 ∷ 1 ∷ 20 ∷ 3 ∷ 1 ∷ 0 ∷ 3 ∷ 2 ∷ 0 ∷ 2 ∷ 0 ∷ 5 ∷ 1 ∷ 20 ∷ 3 ∷ 2 ∷ 0 ∷ 3 ∷ 5 ∷ 1 ∷ 20 ∷ 3 ∷ 3 ∷ 0 ∷ 3 ∷ 5 ∷ 0 ∷ 1 ∷ 0 ∷ 5 ∷ 1 ∷ 20 ∷ 3 ∷ 4 ∷ 0 ∷ 3 ∷ 1 ∷ 0 ∷ 5 ∷ 1 ∷ 20 ∷ 3 ∷ 9 ∷ 0 ∷ 3 ∷ []) 90 ≡ refusal 7
  -- 10.4: an entry without declarators
  pub no_declarators : outcome (1 ∷ 1 ∷ 1 ∷ 0 ∷ 3 ∷ 3 ∷ 1 ∷ 0 ∷ 18 ∷ 1 ∷ 1 ∷ 0 ∷ 97 ∷ []) (1 ∷ 0 ∷ 1 ∷ 0 ∷ 0 ∷ 0 ∷ 0 ∷ 0 ∷ []) 32768 ≡ tree (1 ∷ 1 ∷ 2 ∷ 0 ∷ 4 ∷ 7 ∷ 2 ∷ 0 ∷ 1 ∷ 0 ∷ 0 ∷ 3 ∷ 3 ∷ 1 ∷ 0 ∷ 18 ∷ 1 ∷ 1 ∷ 0 ∷ 97 ∷ [])
  -- entries of one mark in list order
  pub one_mark : outcome (1 ∷ 1 ∷ 1 ∷ 0 ∷ 3 ∷ 3 ∷ 1 ∷ 0 ∷ 18 ∷ 1 ∷ 1 ∷ 0 ∷ 97 ∷ []) (3 ∷ 0 ∷ 1 ∷ 0 ∷ 1 ∷ 0 ∷ 5 ∷ 1 ∷ 20 ∷ 3 ∷ 1 ∷ 0 ∷ 3 ∷ 1 ∷ 0 ∷ 1 ∷ 0 ∷ 5 ∷ 1 ∷ 20 ∷ 3 ∷ 2 ∷ 0 ∷ 3 ∷ 1 ∷ 0 ∷ 1 ∷ 0 ∷ 5 ∷ 1 ∷ 20 ∷ 3 ∷ 3 ∷ 0 ∷ 3 ∷ 0 ∷ 0 ∷ []) 32768 ≡ tree (1 ∷ 1 ∷ 4 ∷ 0 ∷ 4 ∷ 7 ∷ 2 ∷ 0 ∷ 1 ∷ 1 ∷ 0 ∷ 5 ∷ 1 ∷ 20 ∷ 3 ∷ 1 ∷ 0 ∷ 3 ∷ 4 ∷ 7 ∷ 3 ∷ 0 ∷ 1 ∷ 1 ∷ 0 ∷ 5 ∷ 1 ∷ 20 ∷ 3 ∷ 2 ∷ 0 ∷ 3 ∷ 4 ∷ 7 ∷ 4 ∷ 0 ∷ 1 ∷ 1 ∷ 0 ∷ 5 ∷ 1 ∷ 20 ∷ 3 ∷ 3 ∷ 0 ∷ 3 ∷ 3 ∷ 3 ∷ 1 ∷ 0 ∷ 18 ∷ 1 ∷ 1 ∷ 0 ∷ 97 ∷ [])
  -- 3 comes first
  pub no_tree_lem : outcome (1 ∷ 1 ∷ 1 ∷ 0 ∷ 3 ∷ 3 ∷ 1 ∷ 0 ∷ 18 ∷ 1 ∷ 1 ∷ 0 ∷ []) [] 32768 ≡ refusal 3
  -- 12: no bytes
  pub no_list_lem : outcome (1 ∷ 1 ∷ 1 ∷ 0 ∷ 3 ∷ 3 ∷ 1 ∷ 0 ∷ 18 ∷ 1 ∷ 1 ∷ 0 ∷ 97 ∷ []) [] 32768 ≡ refusal 12
  -- a byte behind the list
  pub byte_behind : outcome (1 ∷ 1 ∷ 1 ∷ 0 ∷ 3 ∷ 3 ∷ 1 ∷ 0 ∷ 18 ∷ 1 ∷ 1 ∷ 0 ∷ 97 ∷ []) (0 ∷ 0 ∷ 0 ∷ 0 ∷ 0 ∷ []) 32768 ≡ refusal 12
  -- a mark shared with the tree
  pub mark_shared : outcome (1 ∷ 1 ∷ 1 ∷ 0 ∷ 3 ∷ 3 ∷ 1 ∷ 0 ∷ 18 ∷ 1 ∷ 1 ∷ 0 ∷ 97 ∷ []) (0 ∷ 0 ∷ 1 ∷ 0 ∷ 5 ∷ 3 ∷ 19 ∷ 1 ∷ 1 ∷ 0 ∷ 107 ∷ 14 ∷ 11 ∷ 1 ∷ 0 ∷ 2 ∷ 0 ∷ 0 ∷ []) 32768 ≡ refusal 12
  -- 12 before 13
  pub list_before_mark : outcome (1 ∷ 1 ∷ 1 ∷ 0 ∷ 3 ∷ 3 ∷ 1 ∷ 0 ∷ 18 ∷ 1 ∷ 1 ∷ 0 ∷ 97 ∷ []) (1 ∷ 0 ∷ 7 ∷ 0 ∷ 1 ∷ 0 ∷ 5 ∷ 3 ∷ 19 ∷ 1 ∷ 1 ∷ 0 ∷ 107 ∷ 14 ∷ 11 ∷ 1 ∷ 0 ∷ 2 ∷ 0 ∷ 0 ∷ 0 ∷ 0 ∷ []) 32768 ≡ refusal 12
  -- a mark that nothing has
  pub not_found : outcome (1 ∷ 1 ∷ 1 ∷ 0 ∷ 3 ∷ 3 ∷ 1 ∷ 0 ∷ 18 ∷ 1 ∷ 1 ∷ 0 ∷ 97 ∷ []) (1 ∷ 0 ∷ 7 ∷ 0 ∷ 1 ∷ 0 ∷ 5 ∷ 1 ∷ 20 ∷ 3 ∷ 1 ∷ 0 ∷ 3 ∷ 0 ∷ 0 ∷ []) 32768 ≡ refusal 13
  -- 13 before 7
  pub mark_before_room : outcome (1 ∷ 1 ∷ 1 ∷ 0 ∷ 3 ∷ 3 ∷ 1 ∷ 0 ∷ 18 ∷ 1 ∷ 1 ∷ 0 ∷ 97 ∷ []) (1 ∷ 0 ∷ 7 ∷ 0 ∷ 0 ∷ 0 ∷ 0 ∷ 0 ∷ []) 0 ≡ refusal 13
  -- 10.5: a loop's body is not found
  pub loop_body : outcome (1 ∷ 1 ∷ 1 ∷ 0 ∷ 6 ∷ 17 ∷ 1 ∷ 0 ∷ 3 ∷ 3 ∷ 2 ∷ 0 ∷ 18 ∷ 1 ∷ 1 ∷ 0 ∷ 97 ∷ []) (1 ∷ 0 ∷ 2 ∷ 0 ∷ 0 ∷ 0 ∷ 0 ∷ 0 ∷ []) 32768 ≡ refusal 13

pub examples : Examples
unfolding outcome taken all_found_of joined_tree join join_fields join_piece join_items news news_fields news_piece news_items vars handed_to fresh seek first_mark found found_fields found_piece found_items inner_marks read_handed read_parts read_entries read_entry read_declarators over node_in_of read_rewritten distinct marks marks_fields marks_piece marks_items encode encode_fields encode_piece encode_items map_of count read_tree read_node read_fields read_slot read_field read_list read_items read_item read_text read_byte read_mark read_number chosen_place byte_at wide_at form_at allowed also among places form_in kind_of fields_of kinds variants map_ok
examples = record { empty_list = refl; const_first = refl; free_marks = refl; exact_slice = refl; no_room = refl; no_declarators = refl; one_mark = refl; no_tree_lem = refl; no_list_lem = refl; byte_behind = refl; mark_shared = refl; list_before_mark = refl; not_found = refl; mark_before_room = refl; loop_body = refl }
