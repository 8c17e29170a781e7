-- What the fields of a node hold, as positions: a node's position, a list's length and first item, a text's bytes.
use Rattle.std.specs.Prelude.{ℕ, zero, suc, ◌+◌, ◌-◌, Bool, true, false, cond, ◌&&◌, List, [], eqb, get_or, take, drop}
use Rattle.std.proofs.Math.Option.{Option, some}
use Rattle.std.specs.Prelude as std
use Rattle.std.specs.Prelude.{Some, None}
use Rattle.tree.specs.Tree.{Node, Items}
use Rattle.tree.specs.Grammar.{Sort, Field, fields_of}
use Rattle.tree.specs.Grammar.Sort.{child, chosen, many, gaps, byte, mark, number}
use Rattle.tree.specs.Grammar.Field.{must}
use Rattle.tree.specs.Read.{byte_at, wide_at, sort_in}
use Rattle.tree.specs.Look.{onward, look_node, look_items, seek_fields}
use Rattle.pattern.specs.declared.parts.Part.{Part}
use Rattle.pattern.specs.declared.parts.Part.TheVariants.{One, Many, Text, Number}
use Rattle.pattern.specs.declared.parts.Place.{Place}
use Rattle.pattern.specs.declared.parts.Run.{Run}

-- what a field holds: a node, by its position; a list, by whether there may be holes, how many items it has and where the first
-- one starts; a text, by where its bytes start and how many there are; what has no parts; or nothing, as the field is absent
pub data Content : Type 0 where
  node : ℕ → Content
  list : Bool → ℕ → ℕ → Content
  text : ℕ → ℕ → Content
  plain : Content
  absent : Content

-- the values of each case of the code's answer. Document 01 has no number for it: nothing is refused
abbrev pub part_values : Part → Content
part_values (One q) = node q
part_values (Many r) = list r.holes r.count r.from
part_values (Text p n) = text p n
part_values Number = plain

abbrev pub field_values : std.Option Part → Content
field_values None = absent
field_values (Some p) = part_values p

-- what field i of the fields holds
abbrev pub sort_at : List Field → ℕ → Sort
sort_at fs i = sort_in (get_or fs i (must number))

module _ (tree : List ℕ) where
  -- the text at a position; its bytes end at the latest with the tree
  unfoldable pub text_of : ℕ → Content
  text_of at = text (onward tree at 2) (onward tree at (2 + wide_at tree at) - onward tree at 2)

  -- what a field of a sort holds at a position
  unfoldable pub part_of : Sort → ℕ → Content
  part_of (child p) at = node at
  part_of (chosen p q) at = node at
  part_of (many p) at = list false (wide_at tree at) (onward tree at 2)
  part_of (gaps p) at = list true (wide_at tree at) (onward tree at 2)
  part_of Sort.text at = text_of at
  part_of (byte low high) at = plain
  part_of mark at = plain
  part_of number at = plain

  abbrev pub part_in : Sort → Option ℕ → Content
  part_in s Option.none = absent
  part_in s (some at) = part_of s at

  -- field i of the node at a position, with d levels for the node and what is below it
  unfoldable pub part_at : ℕ → ℕ → ℕ → Content
  part_at zero at i = absent
  part_at (suc d) at i =
      part_in (sort_at (fields_of (byte_at tree at)) i)
      (seek_fields tree (look_node tree d) (fields_of (byte_at tree at)) (byte_at tree (onward tree at 1)) (onward tree at 2) i)

  -- the bytes of a text; past the end there is nothing to take
  abbrev pub text_in_of : Content → List ℕ
  text_in_of (node q) = []
  text_in_of (list h n p) = []
  text_in_of (text p n) = take n (drop p tree)
  text_in_of plain = []
  text_in_of absent = []

  -- an item of a list; a hole has no node
  unfoldable pub item_place : Bool → ℕ → ℕ → Place
  item_place holes d at = record { left = cond (holes && eqb (byte_at tree at) 0) 0 d; at = at }

  -- the node at a place
  abbrev pub node_here : Place → Node
  node_here s = (look_node tree s.left s.at).value

  -- the items of a run, with d levels for each
  abbrev pub items_here : ℕ → Run → Items
  items_here d r = (look_items tree (look_node tree d) r.holes r.count r.from).value

-- whether a field stands
abbrev pub standing : Content → Bool
standing (node q) = true
standing (list h n p) = true
standing (text p n) = true
standing plain = true
standing absent = false

-- the place of a node that a field holds, of a node with d levels at a position; without levels where it holds none
unfoldable pub place_of : ℕ → ℕ → Content → Place
place_of d at (node q) = record { left = d - 1; at = q }
place_of d at (list h n p) = record { left = 0; at = at }
place_of d at (text p n) = record { left = 0; at = at }
place_of d at plain = record { left = 0; at = at }
place_of d at absent = record { left = 0; at = at }

-- the list that a field holds
unfoldable pub run_of : ℕ → Content → Run
run_of at (node q) = record { holes = false; count = 0; from = at }
run_of at (list h n p) = record { holes = h; count = n; from = p }
run_of at (text p n) = record { holes = false; count = 0; from = at }
run_of at plain = record { holes = false; count = 0; from = at }
run_of at absent = record { holes = false; count = 0; from = at }
