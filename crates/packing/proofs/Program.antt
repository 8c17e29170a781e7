-- The law is about something: a program of two declarations is accepted, the walk comes to the second, and what is written of it is run with
-- the keys that the list of the program has for it.
-- Assumes nothing.
use mathlib.Core.Path.{◌≡◌, refl}
use mathlib.Core.Bool.{Bool, true, ◌&&◌}
use mathlib.Core.List.{List, [], ◌∷◌}
use Prim.Native.Nat.{ℕ}
use lib.Dec.{ltb}
use borrow.Author.Tests.{ltb-true}
use Rattle.lowering.proofs.Cases.{and_left, and_right}
use Rattle.tree.specs.Grammar.Stage.{input}
use Rattle.tree.specs.Read.{read_tree}
use Rattle.tree.specs.Read.Got.{got}
use Rattle.tree.specs.WellFormed.{Bytes}
use Rattle.lowering.specs.Made.{Context}
use Rattle.lowering.specs.Walk.{within}
use Rattle.lowering.specs.Weight.{walked}
use Rattle.lowering.specs.Parts.{items_at_of}
use Rattle.lowering.specs.Collect.{bare, visits, entries, excluded_in, names_of, numbered_items, first_refusal}
use Rattle.lowering.specs.Answer.{top}
use Rattle.overlay.specs.Objects.Key.{name}
use Rattle.lowering.specs.Visits.{ItemAt, NodeIn, FieldAt, PartAt, Stands, Visits}
use Rattle.overlay.specs.Whole.{leaves}
use Rattle.packing.specs.Unpack.{forms_of}
use Rattle.packing.specs.Unpack.Take.{taking}
use Rattle.packing.specs.Unpack.Form.{pattern, without}
use Rattle.packing.specs.Class.{fits}
use Rattle.packing.specs.Whole.{Accepted, Declared, forms_there}
use Rattle.packing.specs.Examples.{nb, nq, nt, program_bytes, second_of_two, block_of_two, program}

-- where the second stands
abbrev there : Context
there = within (within top program 0 0) block_of_two 1 1

-- the program is read, nothing is refused; and the second's declarators as they are written, whatever the next mark: W reads the second
-- array of the list
computed :
    (read_tree input 64 program_bytes ≡ got program 82 4) × (first_refusal (visits 4 0 (walked top program)) ≡ 0)
    × ((next : ℕ) → let notes = visits 4 0 (walked top program) in let names = names_of (bare 4 (walked top program)) (entries notes) (excluded_in notes) in
    forms_of (numbered_items names (excluded_in notes)) (items_at_of 2 (leaves names next there second_of_two)) ≡ pattern (taking (name nb) nb ∷ []) nt ∷ without nq nt (name nb ∷ []) ∷ [])
unfolding
    Rattle.tree.specs.Tree.count Rattle.tree.specs.Tree.depth Rattle.tree.specs.Grammar.places Rattle.tree.specs.Grammar.kind_of
    Rattle.tree.specs.Grammar.allowed Rattle.tree.specs.Grammar.form_in Rattle.tree.specs.Grammar.form_at
    Rattle.tree.specs.Grammar.kinds Rattle.tree.specs.Grammar.variants Rattle.tree.specs.Grammar.fields_of
    Rattle.tree.specs.Grammar.map_ok Rattle.tree.specs.Read.byte_at Rattle.tree.specs.Read.wide_at Rattle.tree.specs.Read.read_text
    Rattle.tree.specs.Read.read_byte Rattle.tree.specs.Read.read_mark Rattle.tree.specs.Read.read_item
    Rattle.tree.specs.Read.read_items Rattle.tree.specs.Read.read_list Rattle.tree.specs.Read.read_field
    Rattle.tree.specs.Read.read_slot Rattle.tree.specs.Read.read_fields Rattle.tree.specs.Read.read_node
    Rattle.tree.specs.Read.read_tree Rattle.lowering.specs.Parts.is Rattle.lowering.specs.Parts.piece_in
    Rattle.lowering.specs.Parts.stands_in Rattle.lowering.specs.Parts.change_in Rattle.lowering.specs.Parts.drop_in
    Rattle.lowering.specs.Parts.node_at_of Rattle.lowering.specs.Parts.items_at_of Rattle.lowering.specs.Parts.text_at_of
    Rattle.lowering.specs.Parts.number_at Rattle.lowering.specs.Parts.stands Rattle.lowering.specs.Parts.change
    Rattle.lowering.specs.Parts.on_node Rattle.lowering.specs.Parts.on_items Rattle.lowering.specs.Parts.without
    Rattle.lowering.specs.Parts.◌+++◌ Rattle.lowering.specs.Parts.each Rattle.lowering.specs.Parts.gather
    Rattle.lowering.specs.Parts.any Rattle.lowering.specs.Parts.is_empty Rattle.lowering.specs.Patterns.shape
    Rattle.lowering.specs.Patterns.has_nested_object_rest Rattle.lowering.specs.Patterns.replaced
    Rattle.lowering.specs.Patterns.objects_with_rest Rattle.lowering.specs.Keys.key_sort Rattle.lowering.specs.Keys.is_primitive
    Rattle.lowering.specs.Parts.or_else Rattle.lowering.specs.Parts.first
    Rattle.lowering.specs.Keys.promised Rattle.lowering.specs.Keys.literal_text Rattle.lowering.specs.Keys.literal_refusal
    Rattle.lowering.specs.Keys.key_refusal Rattle.lowering.specs.Keys.key_text Rattle.lowering.specs.Keys.excluded_key Rattle.lowering.specs.Keys.kept_key
    Rattle.lowering.specs.Keys.key_temporary Rattle.lowering.specs.Keys.all_primitive Rattle.lowering.specs.Keys.keys_refusal
    Rattle.lowering.specs.Keys.excluded_keys Rattle.lowering.specs.Keys.key_temporaries Rattle.lowering.specs.Keys.taken
    Rattle.lowering.specs.Rests.is_hoisted Rattle.lowering.specs.Rests.keys_read Rattle.lowering.specs.Rests.rest_value
    Rattle.lowering.specs.Rests.excluded_for Rattle.lowering.specs.Declarations.is_name_of Rattle.lowering.specs.Declarations.source
    Rattle.lowering.specs.Declarations.source_declarator Rattle.lowering.specs.Declarations.keys_before
    Rattle.lowering.specs.Declarations.pattern_declarator Rattle.lowering.specs.Declarations.rest_declarator
    Rattle.lowering.specs.Declarations.nested Rattle.lowering.specs.Declarations.object_declarators
    Rattle.lowering.specs.Declarations.pattern_declarators Rattle.lowering.specs.Declarations.lower_declarator
    Rattle.lowering.specs.Declarations.is_lowered Rattle.lowering.specs.Declarations.declarators
    Rattle.lowering.specs.Declarations.lowered_in Rattle.lowering.specs.Declarations.declaration
    Rattle.lowering.specs.Declarations.declaration_excludes Rattle.lowering.specs.Declarations.declaration_refusal
    Rattle.lowering.specs.Walk.step_declaration Rattle.lowering.specs.Walk.rule_of Rattle.lowering.specs.Walk.rewrite
    Rattle.lowering.specs.Walk.within Rattle.lowering.specs.Walk.each_item_of Rattle.lowering.specs.Walk.each_piece
    Rattle.lowering.specs.Walk.each_field Rattle.lowering.specs.Walk.inside Rattle.lowering.specs.Walk.walk
    Rattle.lowering.specs.Weight.extra Rattle.lowering.specs.Weight.factor Rattle.lowering.specs.Weight.walked
    Rattle.lowering.specs.Weight.weight Rattle.lowering.specs.Collect.over Rattle.lowering.specs.Collect.is_container
    Rattle.lowering.specs.Collect.mark_in Rattle.lowering.specs.Collect.first_refusal Rattle.lowering.specs.Collect.entry_at
    Rattle.lowering.specs.Collect.entries Rattle.lowering.specs.Collect.excluded_in Rattle.lowering.specs.Collect.list_nodes
    Rattle.lowering.specs.Collect.name_of Rattle.lowering.specs.Parts.same_numbers Rattle.lowering.specs.Collect.same
    Rattle.lowering.specs.Collect.name_at Rattle.lowering.specs.Collect.except Rattle.lowering.specs.Collect.distinct
    Rattle.lowering.specs.Collect.number_in Rattle.lowering.specs.Collect.names_of Rattle.lowering.specs.Collect.with_number
    Rattle.lowering.specs.Collect.new_in Rattle.lowering.specs.Collect.bare Rattle.lowering.specs.Collect.visits
    Rattle.lowering.specs.Collect.nodes Rattle.lowering.specs.Collect.numbered Rattle.overlay.specs.Whole.leaves
    Rattle.overlay.specs.Run.spelled Rattle.packing.specs.Unpack.forms_of Rattle.packing.specs.Unpack.form_of
    Rattle.packing.specs.Unpack.keys_read Rattle.packing.specs.Unpack.array_of
    Rattle.packing.specs.Unpack.same_temporary Rattle.packing.specs.Unpack.takes_of
    Rattle.packing.specs.Unpack.texts_of Rattle.packing.specs.Unpack.calls_helper Rattle.lowering.specs.Weight.is_head
    Rattle.lowering.specs.Walk.opens_scope
computed = (refl, refl, λ next. refl)

abbrev are_small : List ℕ → Bool
are_small [] = true
are_small (b ∷ bs) = ltb b 256 && are_small bs

small : (bs : List ℕ) → are_small bs ≡ true → Bytes bs
unfolding Bytes
small [] e = tt
small (b ∷ bs) e = (ltb-true b 256 (and_left (ltb b 256) (are_small bs) e), small bs (and_right (ltb b 256) (are_small bs) e))

pub accepted : Accepted
accepted = record { limit = 64; bytes = program_bytes; tree = program; end = 82; next = 4; are_bytes = small program_bytes refl; read = computed.0; unrefused = computed.1 }

pub declared : Declared accepted there second_of_two
unfolding
    Rattle.lowering.specs.Parts.is Rattle.lowering.specs.Parts.node_at_of Rattle.lowering.specs.Parts.items_at_of
    Rattle.lowering.specs.Parts.text_at_of Rattle.lowering.specs.Parts.number_at Rattle.lowering.specs.Parts.stands
    Rattle.lowering.specs.Parts.piece_in Rattle.lowering.specs.Parts.stands_in Rattle.lowering.specs.Walk.rewrite
    Rattle.lowering.specs.Walk.rule_of Rattle.lowering.specs.Walk.within Rattle.overlay.specs.Run.spelled
    Rattle.packing.specs.Unpack.takes_of Rattle.packing.specs.Class.fits Rattle.packing.specs.Class.is_shaped
    Rattle.packing.specs.Class.are_takes Rattle.packing.specs.Class.is_take Rattle.packing.specs.Class.is_key
    accepted
declared = record {
  place = 1 ∷ 1 ∷ 0 ∷ 0 ∷ [];
  stands = Stands.onward (PartAt.part (FieldAt.first (NodeIn.list ItemAt.first))) (Stands.onward (PartAt.part (FieldAt.behind (FieldAt.first (NodeIn.list (ItemAt.behind ItemAt.first))))) Stands.here);
  visited = Visits.onward refl (PartAt.part (FieldAt.first (NodeIn.list ItemAt.first)))
      (Visits.onward refl (PartAt.part (FieldAt.behind (FieldAt.first (NodeIn.list (ItemAt.behind ItemAt.first))))) Visits.here);
  of_class = refl;
}

pub forms_there_lem : (next : ℕ) → forms_there accepted next there second_of_two ≡ pattern (taking (name nb) nb ∷ []) nt ∷ without nq nt (name nb ∷ []) ∷ []
unfolding accepted
forms_there_lem = computed.2
