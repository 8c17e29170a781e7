-- What is equal and what is not, by computation.
use Rattle.std.specs.Prelude.{◌≡◌, refl, true, false, List, [], ◌∷◌, ℕ}
use Rattle.tree.specs.Tree.{Node, map_of, count, encode}
use Rattle.tree.specs.Tree.Node.{node}
use Rattle.tree.specs.Tree.Fields.{done, absent, field}
use Rattle.tree.specs.Tree.Piece.{one, list, text, byte, mark, number}
use Rattle.tree.specs.Tree.Items.{none, item}
use Rattle.lowering.specs.Parts.{stands_in, drop_in, same_numbers}
use Rattle.lowering.specs.Made.{array, declared}
use Rattle.lowering.specs.Collect.{over, except, distinct, number_in}
use Rattle.equal.specs.Canonical.{Written, numbers, renumbered, place_of, canonical, numbers_list, numbers_written, each_entry, renumbered_written, canonical_written}
use Rattle.equal.specs.Equal.{is_equal, entry_encoded, list_encoded, is_equal_written, is_equal_before}
use Rattle.equal.specs.Unspelled.{unspelled_literal, unspelled}

-- a Program of one expression statement
abbrev pub program : Node → Node
program n = node 0 1 (field (list (item (node 0 3 (field (mark 1) (field (one n) done))) none)) done)

-- a number with its form; `0x10` and `16` have the same form
abbrev pub numeral : List ℕ → List ℕ → Node
numeral spelling form = node 0 22 (field (byte 2) (field (text spelling) (field (text form) done)))

abbrev pub hexadecimal : Node
hexadecimal = program (numeral (48 ∷ 120 ∷ 49 ∷ 48 ∷ []) (49 ∷ 54 ∷ []))

abbrev pub decimal : Node
decimal = program (numeral (49 ∷ 54 ∷ []) (49 ∷ 54 ∷ []))

-- a number without a form
abbrev pub formless : List ℕ → Node
formless spelling = program (node 0 22 (field (byte 2) (field (text spelling) (absent done))))

-- a temporary with its number and its stem
abbrev pub with_stem : ℕ → ℕ → Node
with_stem x stem = node 0 20 (field (number x) (field (byte stem) done))

-- an array of three
abbrev pub three : Node → Node → Node → Node
three a b c = array (item a (item b (item c none)))

-- a result: an array of two temporaries, and a list that declares one
abbrev pub result : ℕ → ℕ → ℕ → Written
result a b c =
    record {
      tree = array (item (with_stem a 1) (item (with_stem b 1) none));
      entries = record { containing = 1; declarators = item (declared (with_stem c 1)) none } ∷ [];
      excluded = none;
    }

-- `0x10;` and `16;`: equal before, not now
pub record Apart : Type 0 where
  pub hexadecimal_bytes :
      encode hexadecimal ≡ 1 ∷ 1 ∷ 1 ∷ 0 ∷ 3 ∷ 3 ∷ 1 ∷ 0 ∷ 22 ∷ 7 ∷ 2 ∷ 4 ∷ 0 ∷ 48 ∷ 120 ∷ 49 ∷ 48 ∷ 2 ∷ 0 ∷ 49 ∷ 54 ∷ []
  pub decimal_bytes : encode decimal ≡ 1 ∷ 1 ∷ 1 ∷ 0 ∷ 3 ∷ 3 ∷ 1 ∷ 0 ∷ 22 ∷ 7 ∷ 2 ∷ 2 ∷ 0 ∷ 49 ∷ 54 ∷ 2 ∷ 0 ∷ 49 ∷ 54 ∷ []
  pub equal_before : is_equal_before hexadecimal decimal ≡ true
  pub not_now : is_equal hexadecimal decimal ≡ false
  pub form_counted : is_equal_before decimal (program (numeral (49 ∷ 54 ∷ []) (49 ∷ []))) ≡ false
  pub formless_before : is_equal_before (formless (49 ∷ [])) (formless (50 ∷ [])) ≡ false

pub apart_examples : Apart
unfolding is_equal is_equal_before encode map_of count canonical numbers renumbered place_of distinct except number_in same_numbers unspelled unspelled_literal stands_in drop_in
apart_examples =
    record { hexadecimal_bytes = refl; decimal_bytes = refl; equal_before = refl; not_now = refl; form_counted = refl; formless_before = refl }

-- temporaries by first appearance; a stem counts, and so does a tree's temporary in its list
pub record Numbered : Type 0 where
  pub same_places : is_equal (three (with_stem 7 1) (with_stem 3 1) (with_stem 7 1)) (three (with_stem 1 1) (with_stem 9 1) (with_stem 1 1)) ≡ true
  pub other_places : is_equal (three (with_stem 7 1) (with_stem 3 1) (with_stem 7 1)) (three (with_stem 1 1) (with_stem 9 1) (with_stem 9 1)) ≡ false
  pub stem_kept : is_equal (three (with_stem 7 1) (with_stem 3 4) (with_stem 7 1)) (three (with_stem 1 1) (with_stem 9 4) (with_stem 1 1)) ≡ true
  pub stem_counts : is_equal (three (with_stem 7 1) (with_stem 3 4) (with_stem 7 1)) (three (with_stem 1 1) (with_stem 9 2) (with_stem 1 1)) ≡ false
  pub through_both : is_equal_written (result 5 4 4) (result 1 2 2) ≡ true
  pub list_apart : is_equal_written (result 5 4 4) (result 1 2 1) ≡ false

pub numbered_examples : Numbered
unfolding is_equal is_equal_written encode map_of count canonical canonical_written numbers numbers_list numbers_written renumbered renumbered_written each_entry entry_encoded list_encoded over place_of distinct except number_in same_numbers
numbered_examples =
    record { same_places = refl; other_places = refl; stem_kept = refl; stem_counts = refl; through_both = refl; list_apart = refl }
