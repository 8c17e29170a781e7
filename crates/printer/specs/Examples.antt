-- The text of whole trees by computation: docs/TEXT.md's examples, and names that need quotes.
use Rattle.std.specs.Prelude.{ℕ, ◌≡◌, refl, List, [], ◌∷◌, length}
use Rattle.tree.specs.Tree.{map_of, count, marks, marks_fields, marks_piece, marks_items}
use Rattle.tree.specs.Grammar.{places, among, also, allowed, kind_of, form_in, form_at, kinds, variants, fields_of, map_ok}
use Rattle.tree.specs.Grammar.Stage.{rewritten}
use Rattle.tree.specs.Read.{Got, mapped, read_tree, byte_at, wide_at, read_text, read_byte, read_mark, read_number, chosen_place, read_item, read_items, read_list, read_field, read_slot, read_fields, read_node}
use Rattle.tree.specs.Read.Got.{got}
use Rattle.rewritten.specs.Rewritten.{read_rewritten, distinct}
use Rattle.printer.specs.Outcome.{refusal, fitted, outcome}
use Rattle.printer.specs.Layout.{words, word, choices, chosen_word, layout, head_of, tail_of, close_of, lead_of, manner_of}
use Rattle.printer.specs.Names.{may_begin, may_follow, all_follow, bare, hex_digit, needs_escape, escaped_byte, escaped, in_quotes, decimal_from, decimal}
use Rattle.printer.specs.Places.{lowest_from, lowest, without_from, without, field_in, manner_in, noting, past, is_statement, is_wrapped, in_method_form, wrapping, separator, leading, joining, trailing, following, noted_at, begun, computed, opening, closing, item_seen, around, list_opening, listed, unlisted, list_closing, is_quasis, is_filled, leaves, literal_text, member_name, key_name, text_bytes, spelled, text_past, is_quasi, number_bytes}
use Rattle.printer.specs.Text.{note_from, left_over_of, held_node, held_fields, held_piece, held_items_of, text_node, text_fields, text_piece, text_items, text_of}

abbrev read : List ℕ → Got (List ℕ)
read l = mapped text_of (read_tree rewritten (length l) l)

-- a;⏎
statement_text : read (1 ∷ 1 ∷ 1 ∷ 0 ∷ 3 ∷ 3 ∷ 1 ∷ 0 ∷ 18 ∷ 1 ∷ 1 ∷ 0 ∷ 97 ∷ []) ≡ got (97 ∷ 59 ∷ 10 ∷ []) 13 1
unfolding map_of count places among also allowed kind_of form_in form_at kinds variants fields_of map_ok read_tree byte_at wide_at read_text read_byte read_mark read_number chosen_place read_item read_items read_list read_field read_slot read_fields read_node words word choices chosen_word layout head_of tail_of close_of lead_of manner_of may_begin may_follow all_follow bare hex_digit needs_escape escaped_byte escaped in_quotes decimal_from decimal lowest_from lowest without_from without field_in manner_in noting past is_statement is_wrapped in_method_form wrapping separator leading joining trailing following noted_at begun computed opening closing item_seen around list_opening listed unlisted list_closing is_quasis is_filled leaves literal_text member_name key_name text_bytes spelled text_past is_quasi number_bytes note_from left_over_of held_node held_fields held_piece held_items_of text_node text_fields text_piece text_items text_of
statement_text = refl

-- (x = (((a, b))));⏎
sequence_text : read (1 ∷ 1 ∷ 1 ∷ 0 ∷ 3 ∷ 3 ∷ 1 ∷ 0 ∷ 27 ∷ 7 ∷ 1 ∷ 18 ∷ 1 ∷ 1 ∷ 0 ∷ 120 ∷ 31 ∷ 1 ∷ 28 ∷ 1 ∷ 2 ∷ 0 ∷ 18 ∷ 1 ∷ 1 ∷ 0 ∷ 97 ∷ 18 ∷ 1 ∷ 1 ∷ 0 ∷ 98 ∷ []) ≡ got (40 ∷ 120 ∷ 32 ∷ 61 ∷ 32 ∷ 40 ∷ 40 ∷ 40 ∷ 97 ∷ 44 ∷ 32 ∷ 98 ∷ 41 ∷ 41 ∷ 41 ∷ 41 ∷ 59 ∷ 10 ∷ []) 32 1
unfolding map_of count places among also allowed kind_of form_in form_at kinds variants fields_of map_ok read_tree byte_at wide_at read_text read_byte read_mark read_number chosen_place read_item read_items read_list read_field read_slot read_fields read_node words word choices chosen_word layout head_of tail_of close_of lead_of manner_of may_begin may_follow all_follow bare hex_digit needs_escape escaped_byte escaped in_quotes decimal_from decimal lowest_from lowest without_from without field_in manner_in noting past is_statement is_wrapped in_method_form wrapping separator leading joining trailing following noted_at begun computed opening closing item_seen around list_opening listed unlisted list_closing is_quasis is_filled leaves literal_text member_name key_name text_bytes spelled text_past is_quasi number_bytes note_from left_over_of held_node held_fields held_piece held_items_of text_node text_fields text_piece text_items text_of
sequence_text = refl

-- let _value1 = (f()), {a: a} = _value1, r = (ObjectWithoutProperties(_value1, (["a"])));⏎
declaration_text : read (1 ∷ 1 ∷ 1 ∷ 0 ∷ 4 ∷ 7 ∷ 1 ∷ 0 ∷ 2 ∷ 3 ∷ 0 ∷ 5 ∷ 3 ∷ 20 ∷ 3 ∷ 1 ∷ 0 ∷ 3 ∷ 29 ∷ 3 ∷ 18 ∷ 1 ∷ 1 ∷ 0 ∷ 102 ∷ 0 ∷ 0 ∷ 5 ∷ 3 ∷ 34 ∷ 1 ∷ 1 ∷ 0 ∷ 35 ∷ 7 ∷ 38 ∷ 1 ∷ 1 ∷ 0 ∷ 97 ∷ 19 ∷ 1 ∷ 1 ∷ 0 ∷ 97 ∷ 2 ∷ 20 ∷ 3 ∷ 1 ∷ 0 ∷ 3 ∷ 5 ∷ 3 ∷ 19 ∷ 1 ∷ 1 ∷ 0 ∷ 114 ∷ 29 ∷ 3 ∷ 21 ∷ 1 ∷ 4 ∷ 2 ∷ 0 ∷ 20 ∷ 3 ∷ 1 ∷ 0 ∷ 3 ∷ 32 ∷ 1 ∷ 1 ∷ 0 ∷ 22 ∷ 7 ∷ 1 ∷ 0 ∷ 0 ∷ 1 ∷ 0 ∷ 97 ∷ []) ≡ got (108 ∷ 101 ∷ 116 ∷ 32 ∷ 95 ∷ 118 ∷ 97 ∷ 108 ∷ 117 ∷ 101 ∷ 49 ∷ 32 ∷ 61 ∷ 32 ∷ 40 ∷ 102 ∷ 40 ∷ 41 ∷ 41 ∷ 44 ∷ 32 ∷ 123 ∷ 97 ∷ 58 ∷ 32 ∷ 97 ∷ 125 ∷ 32 ∷ 61 ∷ 32 ∷ 95 ∷ 118 ∷ 97 ∷ 108 ∷ 117 ∷ 101 ∷ 49 ∷ 44 ∷ 32 ∷ 114 ∷ 32 ∷ 61 ∷ 32 ∷ 40 ∷ 79 ∷ 98 ∷ 106 ∷ 101 ∷ 99 ∷ 116 ∷ 87 ∷ 105 ∷ 116 ∷ 104 ∷ 111 ∷ 117 ∷ 116 ∷ 80 ∷ 114 ∷ 111 ∷ 112 ∷ 101 ∷ 114 ∷ 116 ∷ 105 ∷ 101 ∷ 115 ∷ 40 ∷ 95 ∷ 118 ∷ 97 ∷ 108 ∷ 117 ∷ 101 ∷ 49 ∷ 44 ∷ 32 ∷ 40 ∷ 91 ∷ 34 ∷ 97 ∷ 34 ∷ 93 ∷ 41 ∷ 41 ∷ 41 ∷ 59 ∷ 10 ∷ []) 82 1
unfolding map_of count places among also allowed kind_of form_in form_at kinds variants fields_of map_ok read_tree byte_at wide_at read_text read_byte read_mark read_number chosen_place read_item read_items read_list read_field read_slot read_fields read_node words word choices chosen_word layout head_of tail_of close_of lead_of manner_of may_begin may_follow all_follow bare hex_digit needs_escape escaped_byte escaped in_quotes decimal_from decimal lowest_from lowest without_from without field_in manner_in noting past is_statement is_wrapped in_method_form wrapping separator leading joining trailing following noted_at begun computed opening closing item_seen around list_opening listed unlisted list_closing is_quasis is_filled leaves literal_text member_name key_name text_bytes spelled text_past is_quasi number_bytes note_from left_over_of held_node held_fields held_piece held_items_of text_node text_fields text_piece text_items text_of
declaration_text = refl

-- ({"9a": a});\n(o["9a"]);\n
member_text : read (1 ∷ 1 ∷ 2 ∷ 0 ∷ 3 ∷ 3 ∷ 1 ∷ 0 ∷ 24 ∷ 1 ∷ 1 ∷ 0 ∷ 25 ∷ 7 ∷ 38 ∷ 1 ∷ 2 ∷ 0 ∷ 57 ∷ 97 ∷ 18 ∷ 1 ∷ 1 ∷ 0 ∷ 97 ∷ 0 ∷ 3 ∷ 3 ∷ 2 ∷ 0 ∷ 30 ∷ 3 ∷ 18 ∷ 1 ∷ 1 ∷ 0 ∷ 111 ∷ 2 ∷ 0 ∷ 57 ∷ 97 ∷ []) ≡ got (40 ∷ 123 ∷ 34 ∷ 57 ∷ 97 ∷ 34 ∷ 58 ∷ 32 ∷ 97 ∷ 125 ∷ 41 ∷ 59 ∷ 10 ∷ 40 ∷ 111 ∷ 91 ∷ 34 ∷ 57 ∷ 97 ∷ 34 ∷ 93 ∷ 41 ∷ 59 ∷ 10 ∷ []) 41 1
unfolding map_of count places among also allowed kind_of form_in form_at kinds variants fields_of map_ok read_tree byte_at wide_at read_text read_byte read_mark read_number chosen_place read_item read_items read_list read_field read_slot read_fields read_node words word choices chosen_word layout head_of tail_of close_of lead_of manner_of may_begin may_follow all_follow bare hex_digit needs_escape escaped_byte escaped in_quotes decimal_from decimal lowest_from lowest without_from without field_in manner_in noting past is_statement is_wrapped in_method_form wrapping separator leading joining trailing following noted_at begun computed opening closing item_seen around list_opening listed unlisted list_closing is_quasis is_filled leaves literal_text member_name key_name text_bytes spelled text_past is_quasi number_bytes note_from left_over_of held_node held_fields held_piece held_items_of text_node text_fields text_piece text_items text_of
member_text = refl

-- ({"9a": a});\n(o["9a"]);\n
key_text_lem : read (1 ∷ 1 ∷ 2 ∷ 0 ∷ 3 ∷ 3 ∷ 1 ∷ 0 ∷ 24 ∷ 1 ∷ 1 ∷ 0 ∷ 25 ∷ 7 ∷ 38 ∷ 1 ∷ 2 ∷ 0 ∷ 57 ∷ 97 ∷ 18 ∷ 1 ∷ 1 ∷ 0 ∷ 97 ∷ 0 ∷ 3 ∷ 3 ∷ 2 ∷ 0 ∷ 30 ∷ 3 ∷ 18 ∷ 1 ∷ 1 ∷ 0 ∷ 111 ∷ 2 ∷ 0 ∷ 57 ∷ 97 ∷ []) ≡ got (40 ∷ 123 ∷ 34 ∷ 57 ∷ 97 ∷ 34 ∷ 58 ∷ 32 ∷ 97 ∷ 125 ∷ 41 ∷ 59 ∷ 10 ∷ 40 ∷ 111 ∷ 91 ∷ 34 ∷ 57 ∷ 97 ∷ 34 ∷ 93 ∷ 41 ∷ 59 ∷ 10 ∷ []) 41 1
unfolding map_of count places among also allowed kind_of form_in form_at kinds variants fields_of map_ok read_tree byte_at wide_at read_text read_byte read_mark read_number chosen_place read_item read_items read_list read_field read_slot read_fields read_node words word choices chosen_word layout head_of tail_of close_of lead_of manner_of may_begin may_follow all_follow bare hex_digit needs_escape escaped_byte escaped in_quotes decimal_from decimal lowest_from lowest without_from without field_in manner_in noting past is_statement is_wrapped in_method_form wrapping separator leading joining trailing following noted_at begun computed opening closing item_seen around list_opening listed unlisted list_closing is_quasis is_filled leaves literal_text member_name key_name text_bytes spelled text_past is_quasi number_bytes note_from left_over_of held_node held_fields held_piece held_items_of text_node text_fields text_piece text_items text_of
key_text_lem = refl

-- (x = (class A extends (f()) {⏎k = 1;⏎static [s];⏎m() {⏎}⏎static get g() {⏎}⏎#p;⏎static {⏎a;⏎}⏎}));⏎(y = (class {⏎}));⏎
class_text : read (1 ∷ 1 ∷ 2 ∷ 0 ∷ 3 ∷ 3 ∷ 1 ∷ 0 ∷ 27 ∷ 7 ∷ 1 ∷ 18 ∷ 1 ∷ 1 ∷ 0 ∷ 120 ∷ 40 ∷ 7 ∷ 1 ∷ 0 ∷ 65 ∷ 29 ∷ 3 ∷ 18 ∷ 1 ∷ 1 ∷ 0 ∷ 102 ∷ 0 ∷ 0 ∷ 6 ∷ 0 ∷ 41 ∷ 7 ∷ 38 ∷ 1 ∷ 1 ∷ 0 ∷ 107 ∷ 22 ∷ 7 ∷ 2 ∷ 1 ∷ 0 ∷ 49 ∷ 1 ∷ 0 ∷ 49 ∷ 0 ∷ 41 ∷ 5 ∷ 18 ∷ 1 ∷ 1 ∷ 0 ∷ 115 ∷ 3 ∷ 41 ∷ 7 ∷ 38 ∷ 1 ∷ 1 ∷ 0 ∷ 109 ∷ 14 ∷ 43 ∷ 2 ∷ 0 ∷ 2 ∷ 0 ∷ 0 ∷ 16 ∷ 2 ∷ 0 ∷ 0 ∷ 4 ∷ 41 ∷ 7 ∷ 38 ∷ 1 ∷ 1 ∷ 0 ∷ 103 ∷ 14 ∷ 43 ∷ 3 ∷ 0 ∷ 2 ∷ 0 ∷ 0 ∷ 16 ∷ 2 ∷ 0 ∷ 0 ∷ 10 ∷ 41 ∷ 5 ∷ 39 ∷ 1 ∷ 1 ∷ 0 ∷ 112 ∷ 0 ∷ 42 ∷ 1 ∷ 1 ∷ 0 ∷ 3 ∷ 3 ∷ 4 ∷ 0 ∷ 18 ∷ 1 ∷ 1 ∷ 0 ∷ 97 ∷ 3 ∷ 3 ∷ 5 ∷ 0 ∷ 27 ∷ 7 ∷ 1 ∷ 18 ∷ 1 ∷ 1 ∷ 0 ∷ 121 ∷ 40 ∷ 4 ∷ 0 ∷ 0 ∷ []) ≡ got (40 ∷ 120 ∷ 32 ∷ 61 ∷ 32 ∷ 40 ∷ 99 ∷ 108 ∷ 97 ∷ 115 ∷ 115 ∷ 32 ∷ 65 ∷ 32 ∷ 101 ∷ 120 ∷ 116 ∷ 101 ∷ 110 ∷ 100 ∷ 115 ∷ 32 ∷ 40 ∷ 102 ∷ 40 ∷ 41 ∷ 41 ∷ 32 ∷ 123 ∷ 10 ∷ 107 ∷ 32 ∷ 61 ∷ 32 ∷ 49 ∷ 59 ∷ 10 ∷ 115 ∷ 116 ∷ 97 ∷ 116 ∷ 105 ∷ 99 ∷ 32 ∷ 91 ∷ 115 ∷ 93 ∷ 59 ∷ 10 ∷ 109 ∷ 40 ∷ 41 ∷ 32 ∷ 123 ∷ 10 ∷ 125 ∷ 10 ∷ 115 ∷ 116 ∷ 97 ∷ 116 ∷ 105 ∷ 99 ∷ 32 ∷ 103 ∷ 101 ∷ 116 ∷ 32 ∷ 103 ∷ 40 ∷ 41 ∷ 32 ∷ 123 ∷ 10 ∷ 125 ∷ 10 ∷ 35 ∷ 112 ∷ 59 ∷ 10 ∷ 115 ∷ 116 ∷ 97 ∷ 116 ∷ 105 ∷ 99 ∷ 32 ∷ 123 ∷ 10 ∷ 97 ∷ 59 ∷ 10 ∷ 125 ∷ 10 ∷ 125 ∷ 41 ∷ 41 ∷ 59 ∷ 10 ∷ 40 ∷ 121 ∷ 32 ∷ 61 ∷ 32 ∷ 40 ∷ 99 ∷ 108 ∷ 97 ∷ 115 ∷ 115 ∷ 32 ∷ 123 ∷ 10 ∷ 125 ∷ 41 ∷ 41 ∷ 59 ∷ 10 ∷ []) 132 1
unfolding map_of count places among also allowed kind_of form_in form_at kinds variants fields_of map_ok read_tree byte_at wide_at read_text read_byte read_mark read_number chosen_place read_item read_items read_list read_field read_slot read_fields read_node words word choices chosen_word layout head_of tail_of close_of lead_of manner_of may_begin may_follow all_follow bare hex_digit needs_escape escaped_byte escaped in_quotes decimal_from decimal lowest_from lowest without_from without field_in manner_in noting past is_statement is_wrapped in_method_form wrapping separator leading joining trailing following noted_at begun computed opening closing item_seen around list_opening listed unlisted list_closing is_quasis is_filled leaves literal_text member_name key_name text_bytes spelled text_past is_quasi number_bytes note_from left_over_of held_node held_fields held_piece held_items_of text_node text_fields text_piece text_items text_of
class_text = refl

-- switch (a) {⏎case 1:⏎b;⏎c;⏎case (f()):⏎default:⏎{⏎d;⏎}⏎}⏎switch (x) {⏎}⏎
switch_text : read (1 ∷ 1 ∷ 2 ∷ 0 ∷ 43 ∷ 7 ∷ 1 ∷ 0 ∷ 18 ∷ 1 ∷ 1 ∷ 0 ∷ 97 ∷ 3 ∷ 0 ∷ 44 ∷ 3 ∷ 22 ∷ 7 ∷ 2 ∷ 1 ∷ 0 ∷ 49 ∷ 1 ∷ 0 ∷ 49 ∷ 2 ∷ 0 ∷ 3 ∷ 3 ∷ 2 ∷ 0 ∷ 18 ∷ 1 ∷ 1 ∷ 0 ∷ 98 ∷ 3 ∷ 3 ∷ 3 ∷ 0 ∷ 18 ∷ 1 ∷ 1 ∷ 0 ∷ 99 ∷ 44 ∷ 3 ∷ 29 ∷ 3 ∷ 18 ∷ 1 ∷ 1 ∷ 0 ∷ 102 ∷ 0 ∷ 0 ∷ 0 ∷ 0 ∷ 44 ∷ 2 ∷ 1 ∷ 0 ∷ 2 ∷ 3 ∷ 4 ∷ 0 ∷ 1 ∷ 0 ∷ 3 ∷ 3 ∷ 5 ∷ 0 ∷ 18 ∷ 1 ∷ 1 ∷ 0 ∷ 100 ∷ 43 ∷ 7 ∷ 6 ∷ 0 ∷ 18 ∷ 1 ∷ 1 ∷ 0 ∷ 120 ∷ 0 ∷ 0 ∷ []) ≡ got (115 ∷ 119 ∷ 105 ∷ 116 ∷ 99 ∷ 104 ∷ 32 ∷ 40 ∷ 97 ∷ 41 ∷ 32 ∷ 123 ∷ 10 ∷ 99 ∷ 97 ∷ 115 ∷ 101 ∷ 32 ∷ 49 ∷ 58 ∷ 10 ∷ 98 ∷ 59 ∷ 10 ∷ 99 ∷ 59 ∷ 10 ∷ 99 ∷ 97 ∷ 115 ∷ 101 ∷ 32 ∷ 40 ∷ 102 ∷ 40 ∷ 41 ∷ 41 ∷ 58 ∷ 10 ∷ 100 ∷ 101 ∷ 102 ∷ 97 ∷ 117 ∷ 108 ∷ 116 ∷ 58 ∷ 10 ∷ 123 ∷ 10 ∷ 100 ∷ 59 ∷ 10 ∷ 125 ∷ 10 ∷ 125 ∷ 10 ∷ 115 ∷ 119 ∷ 105 ∷ 116 ∷ 99 ∷ 104 ∷ 32 ∷ 40 ∷ 120 ∷ 41 ∷ 32 ∷ 123 ∷ 10 ∷ 125 ∷ 10 ∷ []) 89 1
unfolding map_of count places among also allowed kind_of form_in form_at kinds variants fields_of map_ok read_tree byte_at wide_at read_text read_byte read_mark read_number chosen_place read_item read_items read_list read_field read_slot read_fields read_node words word choices chosen_word layout head_of tail_of close_of lead_of manner_of may_begin may_follow all_follow bare hex_digit needs_escape escaped_byte escaped in_quotes decimal_from decimal lowest_from lowest without_from without field_in manner_in noting past is_statement is_wrapped in_method_form wrapping separator leading joining trailing following noted_at begun computed opening closing item_seen around list_opening listed unlisted list_closing is_quasis is_filled leaves literal_text member_name key_name text_bytes spelled text_past is_quasi number_bytes note_from left_over_of held_node held_fields held_piece held_items_of text_node text_fields text_piece text_items text_of
switch_text = refl

-- ([,]);⏎([a, ,]);⏎([, a]);⏎([, ,]);⏎([a, ...b]);⏎
holes_text : read (1 ∷ 1 ∷ 5 ∷ 0 ∷ 3 ∷ 3 ∷ 1 ∷ 0 ∷ 32 ∷ 1 ∷ 1 ∷ 0 ∷ 0 ∷ 3 ∷ 3 ∷ 2 ∷ 0 ∷ 32 ∷ 1 ∷ 2 ∷ 0 ∷ 18 ∷ 1 ∷ 1 ∷ 0 ∷ 97 ∷ 0 ∷ 3 ∷ 3 ∷ 3 ∷ 0 ∷ 32 ∷ 1 ∷ 2 ∷ 0 ∷ 0 ∷ 18 ∷ 1 ∷ 1 ∷ 0 ∷ 97 ∷ 3 ∷ 3 ∷ 4 ∷ 0 ∷ 32 ∷ 1 ∷ 2 ∷ 0 ∷ 0 ∷ 0 ∷ 3 ∷ 3 ∷ 5 ∷ 0 ∷ 32 ∷ 1 ∷ 2 ∷ 0 ∷ 18 ∷ 1 ∷ 1 ∷ 0 ∷ 97 ∷ 26 ∷ 1 ∷ 18 ∷ 1 ∷ 1 ∷ 0 ∷ 98 ∷ []) ≡ got (40 ∷ 91 ∷ 44 ∷ 93 ∷ 41 ∷ 59 ∷ 10 ∷ 40 ∷ 91 ∷ 97 ∷ 44 ∷ 32 ∷ 44 ∷ 93 ∷ 41 ∷ 59 ∷ 10 ∷ 40 ∷ 91 ∷ 44 ∷ 32 ∷ 97 ∷ 93 ∷ 41 ∷ 59 ∷ 10 ∷ 40 ∷ 91 ∷ 44 ∷ 32 ∷ 44 ∷ 93 ∷ 41 ∷ 59 ∷ 10 ∷ 40 ∷ 91 ∷ 97 ∷ 44 ∷ 32 ∷ 46 ∷ 46 ∷ 46 ∷ 98 ∷ 93 ∷ 41 ∷ 59 ∷ 10 ∷ []) 71 1
unfolding map_of count places among also allowed kind_of form_in form_at kinds variants fields_of map_ok read_tree byte_at wide_at read_text read_byte read_mark read_number chosen_place read_item read_items read_list read_field read_slot read_fields read_node words word choices chosen_word layout head_of tail_of close_of lead_of manner_of may_begin may_follow all_follow bare hex_digit needs_escape escaped_byte escaped in_quotes decimal_from decimal lowest_from lowest without_from without field_in manner_in noting past is_statement is_wrapped in_method_form wrapping separator leading joining trailing following noted_at begun computed opening closing item_seen around list_opening listed unlisted list_closing is_quasis is_filled leaves literal_text member_name key_name text_bytes spelled text_past is_quasi number_bytes note_from left_over_of held_node held_fields held_piece held_items_of text_node text_fields text_piece text_items text_of
holes_text = refl

-- for (; ; )⏎let a;⏎
loop_text : read (1 ∷ 1 ∷ 1 ∷ 0 ∷ 6 ∷ 17 ∷ 1 ∷ 0 ∷ 4 ∷ 7 ∷ 2 ∷ 0 ∷ 2 ∷ 1 ∷ 0 ∷ 5 ∷ 1 ∷ 19 ∷ 1 ∷ 1 ∷ 0 ∷ 97 ∷ []) ≡ got (102 ∷ 111 ∷ 114 ∷ 32 ∷ 40 ∷ 59 ∷ 32 ∷ 59 ∷ 32 ∷ 41 ∷ 10 ∷ 108 ∷ 101 ∷ 116 ∷ 32 ∷ 97 ∷ 59 ∷ 10 ∷ []) 22 1
unfolding map_of count places among also allowed kind_of form_in form_at kinds variants fields_of map_ok read_tree byte_at wide_at read_text read_byte read_mark read_number chosen_place read_item read_items read_list read_field read_slot read_fields read_node words word choices chosen_word layout head_of tail_of close_of lead_of manner_of may_begin may_follow all_follow bare hex_digit needs_escape escaped_byte escaped in_quotes decimal_from decimal lowest_from lowest without_from without field_in manner_in noting past is_statement is_wrapped in_method_form wrapping separator leading joining trailing following noted_at begun computed opening closing item_seen around list_opening listed unlisted list_closing is_quasis is_filled leaves literal_text member_name key_name text_bytes spelled text_past is_quasi number_bytes note_from left_over_of held_node held_fields held_piece held_items_of text_node text_fields text_piece text_items text_of
loop_text = refl

-- function f() {⏎}⏎
function_text : read (1 ∷ 1 ∷ 1 ∷ 0 ∷ 14 ∷ 47 ∷ 1 ∷ 0 ∷ 1 ∷ 19 ∷ 1 ∷ 1 ∷ 0 ∷ 102 ∷ 0 ∷ 0 ∷ 16 ∷ 3 ∷ 0 ∷ 0 ∷ 0 ∷ 0 ∷ []) ≡ got (102 ∷ 117 ∷ 110 ∷ 99 ∷ 116 ∷ 105 ∷ 111 ∷ 110 ∷ 32 ∷ 102 ∷ 40 ∷ 41 ∷ 32 ∷ 123 ∷ 10 ∷ 125 ∷ 10 ∷ []) 22 1
unfolding map_of count places among also allowed kind_of form_in form_at kinds variants fields_of map_ok read_tree byte_at wide_at read_text read_byte read_mark read_number chosen_place read_item read_items read_list read_field read_slot read_fields read_node words word choices chosen_word layout head_of tail_of close_of lead_of manner_of may_begin may_follow all_follow bare hex_digit needs_escape escaped_byte escaped in_quotes decimal_from decimal lowest_from lowest without_from without field_in manner_in noting past is_statement is_wrapped in_method_form wrapping separator leading joining trailing following noted_at begun computed opening closing item_seen around list_opening listed unlisted list_closing is_quasis is_filled leaves literal_text member_name key_name text_bytes spelled text_past is_quasi number_bytes note_from left_over_of held_node held_fields held_piece held_items_of text_node text_fields text_piece text_items text_of
function_text = refl

-- (`a${x}bc`);⏎
template_text : read (1 ∷ 1 ∷ 1 ∷ 0 ∷ 3 ∷ 3 ∷ 1 ∷ 0 ∷ 23 ∷ 3 ∷ 3 ∷ 0 ∷ 22 ∷ 3 ∷ 1 ∷ 1 ∷ 0 ∷ 97 ∷ 22 ∷ 3 ∷ 1 ∷ 1 ∷ 0 ∷ 98 ∷ 22 ∷ 3 ∷ 1 ∷ 1 ∷ 0 ∷ 99 ∷ 1 ∷ 0 ∷ 18 ∷ 1 ∷ 1 ∷ 0 ∷ 120 ∷ []) ≡ got (40 ∷ 96 ∷ 97 ∷ 36 ∷ 123 ∷ 120 ∷ 125 ∷ 98 ∷ 99 ∷ 96 ∷ 41 ∷ 59 ∷ 10 ∷ []) 37 1
unfolding map_of count places among also allowed kind_of form_in form_at kinds variants fields_of map_ok read_tree byte_at wide_at read_text read_byte read_mark read_number chosen_place read_item read_items read_list read_field read_slot read_fields read_node words word choices chosen_word layout head_of tail_of close_of lead_of manner_of may_begin may_follow all_follow bare hex_digit needs_escape escaped_byte escaped in_quotes decimal_from decimal lowest_from lowest without_from without field_in manner_in noting past is_statement is_wrapped in_method_form wrapping separator leading joining trailing following noted_at begun computed opening closing item_seen around list_opening listed unlisted list_closing is_quasis is_filled leaves literal_text member_name key_name text_bytes spelled text_past is_quasi number_bytes note_from left_over_of held_node held_fields held_piece held_items_of text_node text_fields text_piece text_items text_of
template_text = refl

-- (`${a}${(f())}`);⏎
template_any_text : read (1 ∷ 1 ∷ 1 ∷ 0 ∷ 3 ∷ 3 ∷ 1 ∷ 0 ∷ 23 ∷ 3 ∷ 0 ∷ 0 ∷ 2 ∷ 0 ∷ 18 ∷ 1 ∷ 1 ∷ 0 ∷ 97 ∷ 29 ∷ 3 ∷ 18 ∷ 1 ∷ 1 ∷ 0 ∷ 102 ∷ 0 ∷ 0 ∷ []) ≡ got (40 ∷ 96 ∷ 36 ∷ 123 ∷ 97 ∷ 125 ∷ 36 ∷ 123 ∷ 40 ∷ 102 ∷ 40 ∷ 41 ∷ 41 ∷ 125 ∷ 96 ∷ 41 ∷ 59 ∷ 10 ∷ []) 28 1
unfolding map_of count places among also allowed kind_of form_in form_at kinds variants fields_of map_ok read_tree byte_at wide_at read_text read_byte read_mark read_number chosen_place read_item read_items read_list read_field read_slot read_fields read_node words word choices chosen_word layout head_of tail_of close_of lead_of manner_of may_begin may_follow all_follow bare hex_digit needs_escape escaped_byte escaped in_quotes decimal_from decimal lowest_from lowest without_from without field_in manner_in noting past is_statement is_wrapped in_method_form wrapping separator leading joining trailing following noted_at begun computed opening closing item_seen around list_opening listed unlisted list_closing is_quasis is_filled leaves literal_text member_name key_name text_bytes spelled text_past is_quasi number_bytes note_from left_over_of held_node held_fields held_piece held_items_of text_node text_fields text_piece text_items text_of
template_any_text = refl

-- "a\x22b";⏎
escape_text : read (1 ∷ 1 ∷ 1 ∷ 0 ∷ 3 ∷ 3 ∷ 1 ∷ 0 ∷ 22 ∷ 7 ∷ 1 ∷ 0 ∷ 0 ∷ 3 ∷ 0 ∷ 97 ∷ 34 ∷ 98 ∷ []) ≡ got (34 ∷ 97 ∷ 92 ∷ 120 ∷ 50 ∷ 50 ∷ 98 ∷ 34 ∷ 59 ∷ 10 ∷ []) 18 1
unfolding map_of count places among also allowed kind_of form_in form_at kinds variants fields_of map_ok read_tree byte_at wide_at read_text read_byte read_mark read_number chosen_place read_item read_items read_list read_field read_slot read_fields read_node words word choices chosen_word layout head_of tail_of close_of lead_of manner_of may_begin may_follow all_follow bare hex_digit needs_escape escaped_byte escaped in_quotes decimal_from decimal lowest_from lowest without_from without field_in manner_in noting past is_statement is_wrapped in_method_form wrapping separator leading joining trailing following noted_at begun computed opening closing item_seen around list_opening listed unlisted list_closing is_quasis is_filled leaves literal_text member_name key_name text_bytes spelled text_past is_quasi number_bytes note_from left_over_of held_node held_fields held_piece held_items_of text_node text_fields text_piece text_items text_of
escape_text = refl

-- {⏎a;⏎{⏎b;⏎}⏎}⏎for (; ; )⏎c;⏎for (x of y) {⏎}⏎
nested_text : read (1 ∷ 1 ∷ 3 ∷ 0 ∷ 2 ∷ 3 ∷ 1 ∷ 0 ∷ 2 ∷ 0 ∷ 3 ∷ 3 ∷ 2 ∷ 0 ∷ 18 ∷ 1 ∷ 1 ∷ 0 ∷ 97 ∷ 2 ∷ 3 ∷ 3 ∷ 0 ∷ 1 ∷ 0 ∷ 3 ∷ 3 ∷ 4 ∷ 0 ∷ 18 ∷ 1 ∷ 1 ∷ 0 ∷ 98 ∷ 6 ∷ 17 ∷ 5 ∷ 0 ∷ 3 ∷ 3 ∷ 6 ∷ 0 ∷ 18 ∷ 1 ∷ 1 ∷ 0 ∷ 99 ∷ 8 ∷ 15 ∷ 7 ∷ 0 ∷ 18 ∷ 1 ∷ 1 ∷ 0 ∷ 120 ∷ 18 ∷ 1 ∷ 1 ∷ 0 ∷ 121 ∷ 2 ∷ 3 ∷ 8 ∷ 0 ∷ 0 ∷ 0 ∷ []) ≡ got (123 ∷ 10 ∷ 97 ∷ 59 ∷ 10 ∷ 123 ∷ 10 ∷ 98 ∷ 59 ∷ 10 ∷ 125 ∷ 10 ∷ 125 ∷ 10 ∷ 102 ∷ 111 ∷ 114 ∷ 32 ∷ 40 ∷ 59 ∷ 32 ∷ 59 ∷ 32 ∷ 41 ∷ 10 ∷ 99 ∷ 59 ∷ 10 ∷ 102 ∷ 111 ∷ 114 ∷ 32 ∷ 40 ∷ 120 ∷ 32 ∷ 111 ∷ 102 ∷ 32 ∷ 121 ∷ 41 ∷ 32 ∷ 123 ∷ 10 ∷ 125 ∷ 10 ∷ []) 67 1
unfolding map_of count places among also allowed kind_of form_in form_at kinds variants fields_of map_ok read_tree byte_at wide_at read_text read_byte read_mark read_number chosen_place read_item read_items read_list read_field read_slot read_fields read_node words word choices chosen_word layout head_of tail_of close_of lead_of manner_of may_begin may_follow all_follow bare hex_digit needs_escape escaped_byte escaped in_quotes decimal_from decimal lowest_from lowest without_from without field_in manner_in noting past is_statement is_wrapped in_method_form wrapping separator leading joining trailing following noted_at begun computed opening closing item_seen around list_opening listed unlisted list_closing is_quasis is_filled leaves literal_text member_name key_name text_bytes spelled text_past is_quasi number_bytes note_from left_over_of held_node held_fields held_piece held_items_of text_node text_fields text_piece text_items text_of
nested_text = refl

-- function f(a = 1, ...b) {⏎"use strict";⏎return;⏎}⏎
parameters_text : read (1 ∷ 1 ∷ 1 ∷ 0 ∷ 14 ∷ 63 ∷ 1 ∷ 0 ∷ 1 ∷ 19 ∷ 1 ∷ 1 ∷ 0 ∷ 102 ∷ 1 ∷ 0 ∷ 15 ∷ 3 ∷ 19 ∷ 1 ∷ 1 ∷ 0 ∷ 97 ∷ 22 ∷ 7 ∷ 2 ∷ 1 ∷ 0 ∷ 49 ∷ 1 ∷ 0 ∷ 49 ∷ 19 ∷ 1 ∷ 1 ∷ 0 ∷ 98 ∷ 16 ∷ 3 ∷ 1 ∷ 0 ∷ 22 ∷ 7 ∷ 1 ∷ 12 ∷ 0 ∷ 34 ∷ 117 ∷ 115 ∷ 101 ∷ 32 ∷ 115 ∷ 116 ∷ 114 ∷ 105 ∷ 99 ∷ 116 ∷ 34 ∷ 10 ∷ 0 ∷ 117 ∷ 115 ∷ 101 ∷ 32 ∷ 115 ∷ 116 ∷ 114 ∷ 105 ∷ 99 ∷ 116 ∷ 1 ∷ 0 ∷ 11 ∷ 1 ∷ 2 ∷ 0 ∷ []) ≡ got (102 ∷ 117 ∷ 110 ∷ 99 ∷ 116 ∷ 105 ∷ 111 ∷ 110 ∷ 32 ∷ 102 ∷ 40 ∷ 97 ∷ 32 ∷ 61 ∷ 32 ∷ 49 ∷ 44 ∷ 32 ∷ 46 ∷ 46 ∷ 46 ∷ 98 ∷ 41 ∷ 32 ∷ 123 ∷ 10 ∷ 34 ∷ 117 ∷ 115 ∷ 101 ∷ 32 ∷ 115 ∷ 116 ∷ 114 ∷ 105 ∷ 99 ∷ 116 ∷ 34 ∷ 59 ∷ 10 ∷ 114 ∷ 101 ∷ 116 ∷ 117 ∷ 114 ∷ 110 ∷ 59 ∷ 10 ∷ 125 ∷ 10 ∷ []) 76 1
unfolding map_of count places among also allowed kind_of form_in form_at kinds variants fields_of map_ok read_tree byte_at wide_at read_text read_byte read_mark read_number chosen_place read_item read_items read_list read_field read_slot read_fields read_node words word choices chosen_word layout head_of tail_of close_of lead_of manner_of may_begin may_follow all_follow bare hex_digit needs_escape escaped_byte escaped in_quotes decimal_from decimal lowest_from lowest without_from without field_in manner_in noting past is_statement is_wrapped in_method_form wrapping separator leading joining trailing following noted_at begun computed opening closing item_seen around list_opening listed unlisted list_closing is_quasis is_filled leaves literal_text member_name key_name text_bytes spelled text_past is_quasi number_bytes note_from left_over_of held_node held_fields held_piece held_items_of text_node text_fields text_piece text_items text_of
parameters_text = refl

-- (f(([, a, ,])));⏎
array_text : read (1 ∷ 1 ∷ 1 ∷ 0 ∷ 3 ∷ 3 ∷ 1 ∷ 0 ∷ 29 ∷ 3 ∷ 18 ∷ 1 ∷ 1 ∷ 0 ∷ 102 ∷ 1 ∷ 0 ∷ 32 ∷ 1 ∷ 3 ∷ 0 ∷ 0 ∷ 18 ∷ 1 ∷ 1 ∷ 0 ∷ 97 ∷ 0 ∷ []) ≡ got (40 ∷ 102 ∷ 40 ∷ 40 ∷ 91 ∷ 44 ∷ 32 ∷ 97 ∷ 44 ∷ 32 ∷ 44 ∷ 93 ∷ 41 ∷ 41 ∷ 41 ∷ 59 ∷ 10 ∷ []) 28 1
unfolding map_of count places among also allowed kind_of form_in form_at kinds variants fields_of map_ok read_tree byte_at wide_at read_text read_byte read_mark read_number chosen_place read_item read_items read_list read_field read_slot read_fields read_node words word choices chosen_word layout head_of tail_of close_of lead_of manner_of may_begin may_follow all_follow bare hex_digit needs_escape escaped_byte escaped in_quotes decimal_from decimal lowest_from lowest without_from without field_in manner_in noting past is_statement is_wrapped in_method_form wrapping separator leading joining trailing following noted_at begun computed opening closing item_seen around list_opening listed unlisted list_closing is_quasis is_filled leaves literal_text member_name key_name text_bytes spelled text_past is_quasi number_bytes note_from left_over_of held_node held_fields held_piece held_items_of text_node text_fields text_piece text_items text_of
array_text = refl

-- (x = (class A extends (f()) {⏎k = 1;⏎static get g() {⏎}⏎#p;⏎static {⏎a;⏎}⏎}));⏎
members_text : read (1 ∷ 1 ∷ 1 ∷ 0 ∷ 3 ∷ 3 ∷ 1 ∷ 0 ∷ 27 ∷ 7 ∷ 1 ∷ 18 ∷ 1 ∷ 1 ∷ 0 ∷ 120 ∷ 40 ∷ 7 ∷ 1 ∷ 0 ∷ 65 ∷ 29 ∷ 3 ∷ 18 ∷ 1 ∷ 1 ∷ 0 ∷ 102 ∷ 0 ∷ 0 ∷ 4 ∷ 0 ∷ 41 ∷ 7 ∷ 38 ∷ 1 ∷ 1 ∷ 0 ∷ 107 ∷ 22 ∷ 7 ∷ 2 ∷ 1 ∷ 0 ∷ 49 ∷ 1 ∷ 0 ∷ 49 ∷ 0 ∷ 41 ∷ 7 ∷ 38 ∷ 1 ∷ 1 ∷ 0 ∷ 103 ∷ 14 ∷ 43 ∷ 2 ∷ 0 ∷ 2 ∷ 0 ∷ 0 ∷ 16 ∷ 2 ∷ 0 ∷ 0 ∷ 10 ∷ 41 ∷ 5 ∷ 39 ∷ 1 ∷ 1 ∷ 0 ∷ 112 ∷ 0 ∷ 42 ∷ 1 ∷ 1 ∷ 0 ∷ 3 ∷ 3 ∷ 3 ∷ 0 ∷ 18 ∷ 1 ∷ 1 ∷ 0 ∷ 97 ∷ []) ≡ got (40 ∷ 120 ∷ 32 ∷ 61 ∷ 32 ∷ 40 ∷ 99 ∷ 108 ∷ 97 ∷ 115 ∷ 115 ∷ 32 ∷ 65 ∷ 32 ∷ 101 ∷ 120 ∷ 116 ∷ 101 ∷ 110 ∷ 100 ∷ 115 ∷ 32 ∷ 40 ∷ 102 ∷ 40 ∷ 41 ∷ 41 ∷ 32 ∷ 123 ∷ 10 ∷ 107 ∷ 32 ∷ 61 ∷ 32 ∷ 49 ∷ 59 ∷ 10 ∷ 115 ∷ 116 ∷ 97 ∷ 116 ∷ 105 ∷ 99 ∷ 32 ∷ 103 ∷ 101 ∷ 116 ∷ 32 ∷ 103 ∷ 40 ∷ 41 ∷ 32 ∷ 123 ∷ 10 ∷ 125 ∷ 10 ∷ 35 ∷ 112 ∷ 59 ∷ 10 ∷ 115 ∷ 116 ∷ 97 ∷ 116 ∷ 105 ∷ 99 ∷ 32 ∷ 123 ∷ 10 ∷ 97 ∷ 59 ∷ 10 ∷ 125 ∷ 10 ∷ 125 ∷ 41 ∷ 41 ∷ 59 ∷ 10 ∷ []) 89 1
unfolding map_of count places among also allowed kind_of form_in form_at kinds variants fields_of map_ok read_tree byte_at wide_at read_text read_byte read_mark read_number chosen_place read_item read_items read_list read_field read_slot read_fields read_node words word choices chosen_word layout head_of tail_of close_of lead_of manner_of may_begin may_follow all_follow bare hex_digit needs_escape escaped_byte escaped in_quotes decimal_from decimal lowest_from lowest without_from without field_in manner_in noting past is_statement is_wrapped in_method_form wrapping separator leading joining trailing following noted_at begun computed opening closing item_seen around list_opening listed unlisted list_closing is_quasis is_filled leaves literal_text member_name key_name text_bytes spelled text_past is_quasi number_bytes note_from left_over_of held_node held_fields held_piece held_items_of text_node text_fields text_piece text_items text_of
members_text = refl

-- switch (a) {⏎case 1:⏎b;⏎default:⏎c;⏎}⏎
cases_text : read (1 ∷ 1 ∷ 1 ∷ 0 ∷ 43 ∷ 7 ∷ 1 ∷ 0 ∷ 18 ∷ 1 ∷ 1 ∷ 0 ∷ 97 ∷ 2 ∷ 0 ∷ 44 ∷ 3 ∷ 22 ∷ 7 ∷ 2 ∷ 1 ∷ 0 ∷ 49 ∷ 1 ∷ 0 ∷ 49 ∷ 1 ∷ 0 ∷ 3 ∷ 3 ∷ 2 ∷ 0 ∷ 18 ∷ 1 ∷ 1 ∷ 0 ∷ 98 ∷ 44 ∷ 2 ∷ 1 ∷ 0 ∷ 3 ∷ 3 ∷ 3 ∷ 0 ∷ 18 ∷ 1 ∷ 1 ∷ 0 ∷ 99 ∷ []) ≡ got (115 ∷ 119 ∷ 105 ∷ 116 ∷ 99 ∷ 104 ∷ 32 ∷ 40 ∷ 97 ∷ 41 ∷ 32 ∷ 123 ∷ 10 ∷ 99 ∷ 97 ∷ 115 ∷ 101 ∷ 32 ∷ 49 ∷ 58 ∷ 10 ∷ 98 ∷ 59 ∷ 10 ∷ 100 ∷ 101 ∷ 102 ∷ 97 ∷ 117 ∷ 108 ∷ 116 ∷ 58 ∷ 10 ∷ 99 ∷ 59 ∷ 10 ∷ 125 ∷ 10 ∷ []) 50 1
unfolding map_of count places among also allowed kind_of form_in form_at kinds variants fields_of map_ok read_tree byte_at wide_at read_text read_byte read_mark read_number chosen_place read_item read_items read_list read_field read_slot read_fields read_node words word choices chosen_word layout head_of tail_of close_of lead_of manner_of may_begin may_follow all_follow bare hex_digit needs_escape escaped_byte escaped in_quotes decimal_from decimal lowest_from lowest without_from without field_in manner_in noting past is_statement is_wrapped in_method_form wrapping separator leading joining trailing following noted_at begun computed opening closing item_seen around list_opening listed unlisted list_closing is_quasis is_filled leaves literal_text member_name key_name text_bytes spelled text_past is_quasi number_bytes note_from left_over_of held_node held_fields held_piece held_items_of text_node text_fields text_piece text_items text_of
cases_text = refl

-- `a;⏎` in a slice of 3 and of 2; no bytes in a slice of none
fits_three : outcome (read_rewritten (1 ∷ 1 ∷ 1 ∷ 0 ∷ 3 ∷ 3 ∷ 1 ∷ 0 ∷ 18 ∷ 1 ∷ 1 ∷ 0 ∷ 97 ∷ [])) 3 ≡ record { answer = 0; long = 3; bytes = 97 ∷ 59 ∷ 10 ∷ [] }
unfolding map_of count places among also allowed kind_of form_in form_at kinds variants fields_of map_ok read_tree byte_at wide_at read_text read_byte read_mark read_number chosen_place read_item read_items read_list read_field read_slot read_fields read_node words word choices chosen_word layout head_of tail_of close_of lead_of manner_of may_begin may_follow all_follow bare hex_digit needs_escape escaped_byte escaped in_quotes decimal_from decimal lowest_from lowest without_from without field_in manner_in noting past is_statement is_wrapped in_method_form wrapping separator leading joining trailing following noted_at begun computed opening closing item_seen around list_opening listed unlisted list_closing is_quasis is_filled leaves literal_text member_name key_name text_bytes spelled text_past is_quasi number_bytes note_from left_over_of held_node held_fields held_piece held_items_of text_node text_fields text_piece text_items text_of read_rewritten distinct marks marks_fields marks_piece marks_items refusal fitted
fits_three = refl

too_long_for_two : outcome (read_rewritten (1 ∷ 1 ∷ 1 ∷ 0 ∷ 3 ∷ 3 ∷ 1 ∷ 0 ∷ 18 ∷ 1 ∷ 1 ∷ 0 ∷ 97 ∷ [])) 2 ≡ record { answer = 10; long = 0; bytes = 0 ∷ 0 ∷ [] }
unfolding map_of count places among also allowed kind_of form_in form_at kinds variants fields_of map_ok read_tree byte_at wide_at read_text read_byte read_mark read_number chosen_place read_item read_items read_list read_field read_slot read_fields read_node words word choices chosen_word layout head_of tail_of close_of lead_of manner_of may_begin may_follow all_follow bare hex_digit needs_escape escaped_byte escaped in_quotes decimal_from decimal lowest_from lowest without_from without field_in manner_in noting past is_statement is_wrapped in_method_form wrapping separator leading joining trailing following noted_at begun computed opening closing item_seen around list_opening listed unlisted list_closing is_quasis is_filled leaves literal_text member_name key_name text_bytes spelled text_past is_quasi number_bytes note_from left_over_of held_node held_fields held_piece held_items_of text_node text_fields text_piece text_items text_of read_rewritten distinct marks marks_fields marks_piece marks_items refusal fitted
too_long_for_two = refl

no_tree_lem : outcome (read_rewritten []) 0 ≡ record { answer = 3; long = 0; bytes = [] }
unfolding map_of count places among also allowed kind_of form_in form_at kinds variants fields_of map_ok read_tree byte_at wide_at read_text read_byte read_mark read_number chosen_place read_item read_items read_list read_field read_slot read_fields read_node words word choices chosen_word layout head_of tail_of close_of lead_of manner_of may_begin may_follow all_follow bare hex_digit needs_escape escaped_byte escaped in_quotes decimal_from decimal lowest_from lowest without_from without field_in manner_in noting past is_statement is_wrapped in_method_form wrapping separator leading joining trailing following noted_at begun computed opening closing item_seen around list_opening listed unlisted list_closing is_quasis is_filled leaves literal_text member_name key_name text_bytes spelled text_past is_quasi number_bytes note_from left_over_of held_node held_fields held_piece held_items_of text_node text_fields text_piece text_items text_of read_rewritten distinct marks marks_fields marks_piece marks_items refusal fitted
no_tree_lem = refl

-- for (1; ; )⏎;⏎
head_text : read (1 ∷ 1 ∷ 1 ∷ 0 ∷ 6 ∷ 19 ∷ 1 ∷ 0 ∷ 22 ∷ 7 ∷ 2 ∷ 1 ∷ 0 ∷ 49 ∷ 1 ∷ 0 ∷ 49 ∷ 13 ∷ 1 ∷ 2 ∷ 0 ∷ []) ≡ got (102 ∷ 111 ∷ 114 ∷ 32 ∷ 40 ∷ 49 ∷ 59 ∷ 32 ∷ 59 ∷ 32 ∷ 41 ∷ 10 ∷ 59 ∷ 10 ∷ []) 21 1
unfolding map_of count places among also allowed kind_of form_in form_at kinds variants fields_of map_ok read_tree byte_at wide_at read_text read_byte read_mark read_number chosen_place read_item read_items read_list read_field read_slot read_fields read_node words word choices chosen_word layout head_of tail_of close_of lead_of manner_of may_begin may_follow all_follow bare hex_digit needs_escape escaped_byte escaped in_quotes decimal_from decimal lowest_from lowest without_from without field_in manner_in noting past is_statement is_wrapped in_method_form wrapping separator leading joining trailing following noted_at begun computed opening closing item_seen around list_opening listed unlisted list_closing is_quasis is_filled leaves literal_text member_name key_name text_bytes spelled text_past is_quasi number_bytes note_from left_over_of held_node held_fields held_piece held_items_of text_node text_fields text_piece text_items text_of
head_text = refl
