-- Worked examples that compute.
use Rattle.std.specs.Prelude.{◌≡◌, [], ◌∷◌, refl}
use Rattle.tree.specs.Tree.{encode, encode_fields, encode_piece, encode_items, map_of, count}
use Rattle.tree.specs.Grammar.{form_at, fields_of, kinds, variants, places, allowed, form_in, kind_of}
use Rattle.drawing.specs.Xorshift.{step, left, right}
use Rattle.drawing.specs.Draw.{draw_tree, draw_node, draw_fields, stands_at_of, settled_state, draw_field, draw_text, draw_number, draw_mark, draw_byte, draw_list, draw_items, ends, kind_at, state_at, rising, kinds_from, shortest, least_kind, least_of, kind_bytes, form_bytes, sort_bytes, bytes_within, better_from, unknowns}
use Rattle.drawing.specs.Outcome.{outcome, fitted, refused}

-- the first numbers of the seed of Marsaglia's paper
first_numbers : step 2463534242 ∷ step 723471715 ∷ step 2497366906 ∷ step 2064144800 ∷ [] ≡ 723471715 ∷ 2497366906 ∷ 2064144800 ∷ 2008045182 ∷ []
unfolding step left right
first_numbers = refl

-- the kinds of a statement, and its shortest
kinds_of_statement : rising 1 ≡ 2 ∷ 3 ∷ 4 ∷ 6 ∷ 7 ∷ 8 ∷ 9 ∷ 11 ∷ 12 ∷ 13 ∷ 14 ∷ 43 ∷ []
unfolding rising kinds_from form_at form_in allowed places kind_of
kinds_of_statement = refl

-- a whole tree in a slice that has two bytes more, and one that has a byte less
pub drawn_9000056 : outcome 9000056 24 ≡ record { answer = 0; next = 1433058910; long = 22; bytes = 1 ∷ 1 ∷ 3 ∷ 0 ∷ 3 ∷ 3 ∷ 1 ∷ 0 ∷ 22 ∷ 3 ∷ 4 ∷ 1 ∷ 0 ∷ 109 ∷ 11 ∷ 1 ∷ 2 ∷ 0 ∷ 11 ∷ 1 ∷ 3 ∷ 0 ∷ 0 ∷ 0 ∷ [] }
unfolding outcome fitted encode encode_fields encode_piece encode_items map_of count form_at fields_of kinds variants places allowed form_in kind_of step left right draw_tree draw_node draw_fields stands_at_of settled_state draw_field draw_text draw_number draw_mark draw_byte draw_list draw_items ends kind_at state_at rising kinds_from shortest least_kind least_of kind_bytes form_bytes sort_bytes bytes_within better_from unknowns
drawn_9000056 = refl

pub short_9000056 : outcome 9000056 3 ≡ record { answer = 7; next = 0; long = 0; bytes = 0 ∷ 0 ∷ 0 ∷ [] }
unfolding outcome fitted refused encode encode_fields encode_piece encode_items map_of count form_at fields_of kinds variants places allowed form_in kind_of step left right draw_tree draw_node draw_fields stands_at_of settled_state draw_field draw_text draw_number draw_mark draw_byte draw_list draw_items ends kind_at state_at rising kinds_from shortest least_kind least_of kind_bytes form_bytes sort_bytes bytes_within better_from unknowns
short_9000056 = refl

-- a zero seed comes before a short slice
pub zero_seed_lem : outcome 0 2 ≡ record { answer = 8; next = 0; long = 0; bytes = 0 ∷ 0 ∷ [] }
unfolding outcome refused
zero_seed_lem = refl
