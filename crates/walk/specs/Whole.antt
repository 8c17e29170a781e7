-- What the emitters ask of the bytes of a node: the node fits the grammar of input, each part's bytes are those of its encoding, and no mark is 0.
use Rattle.std.specs.Prelude.{ℕ, zero, suc, ◌+◌, ◌/◌, ◌%◌, ◌<◌, ◌≤◌, ◌≡◌, Bool, true, false, cond, ◌&&◌, List, [], ◌∷◌, eqb, length}
use Rattle.tree.specs.Tree.{Node, Piece, wide_bytes, map_of, count, encode, encode_piece}
use Rattle.tree.specs.Tree.Node.{node}
use Rattle.tree.specs.Grammar.{Sort, Field, fields_of}
use Rattle.tree.specs.Grammar.Stage.{input}
use Rattle.tree.specs.WellFormed.{Fits}
use Rattle.tree.specs.Grammar.Sort.{child, chosen, many, gaps, text, byte, mark, number}
use Rattle.tree.specs.Read.{byte_at, wide_at, sort_in}
use Rattle.tree.specs.Look.{Seen, onward, end_at, quiet_at, look_item, look_items, look_field, look_slot, look_fields, look_node}
use Rattle.lowering.specs.Collect.{is_container}
use Rattle.lowering.proofs.Simple.{Simple}
use Rattle.sink.specs.Machine.{part}
use Rattle.direct.specs.Events as events
use Rattle.direct.specs.Events.{Emit, puts, emits}
use Rattle.direct.specs.Emit.{say, marking, emits_item, emits_piece}
use Rattle.walk.specs.declared.place.Place.{Place}
use Rattle.walk.specs.Run.{Going, Does}

-- where a node stands, without the levels left
abbrev pub place_of : Place → events.Place
place_of c = record { root = c.root; statement = c.statement; mark = c.mark }

-- the same, told whether it is at root: nothing is read of its own root
abbrev pub place_with : Bool → Place → events.Place
place_with root c = record { root = root; statement = c.statement; mark = c.mark }

module _ (tree : List ℕ) where
  -- a piece without nodes: its bytes, from `at` up to q
  pub record Leaf (at q : ℕ) (p : Piece) : Type 0 where
    pub bytes : part at q tree ≡ encode_piece p
    pub positive : (m : ℕ) → p ≡ Piece.mark m → 0 < m

  -- a zero byte in place of an item
  unfoldable pub hole_at : Bool → ℕ → Bool
  hole_at h at = h && eqb (byte_at tree at) 0

  module _ (R : ℕ → Seen Node) where
    -- what an item does, and a field by its bit
    unfoldable pub item_deeds : Bool → events.Place → Bool → ℕ → Emit
    item_deeds l c h at = cond (hole_at h at) (say (puts (0 ∷ []))) (emits_item l c (R at).value)

    unfoldable pub slot_deeds : Bool → events.Place → Sort → ℕ → ℕ → Emit
    slot_deeds l c s zero at = say []
    slot_deeds l c s (suc b) at = emits_piece l c (look_field tree R s at).value

    module _ (G : ℕ → Type 0) (l : Bool) where
      pub record GoodItem (h : Bool) (at : ℕ) : Type 0 where
        pub hole : hole_at h at ≡ true → part at (onward tree at 1) tree ≡ 0 ∷ []
        pub node : hole_at h at ≡ false → G at
        -- in a container it does what it does with the number behind its first two bytes for the mark; a Literal does the same with any mark
        pub begins : hole_at h at ≡ false → l ≡ true → (c : events.Place) → emits_item true c (R at).value ≡ emits (marking c (wide_at tree (onward tree at 2))) (R at).value

      unfoldable pub GoodItems : Bool → ℕ → ℕ → Type 0
      GoodItems h zero at = Unit
      GoodItems h (suc n) at = GoodItem h at × GoodItems h n (look_item tree R h at).next

      pub record GoodList (h : Bool) (at : ℕ) : Type 0 where
        pub head : part at (onward tree at 2) tree ≡ wide_bytes (count (look_items tree R h (wide_at tree at) (onward tree at 2)).value)
        pub small : wide_at tree at < 65536
        pub items : GoodItems h (wide_at tree at) (onward tree at 2)

      unfoldable pub GoodField : Sort → ℕ → Type 0
      GoodField (child p) at = G at
      GoodField (chosen p q) at = G at
      GoodField (many p) at = GoodList false at
      GoodField (gaps p) at = GoodList true at
      GoodField text at = Leaf at (look_field tree R text at).next (look_field tree R text at).value
      GoodField (byte a b) at = Leaf at (look_field tree R (byte a b) at).next (look_field tree R (byte a b) at).value
      GoodField mark at = Leaf at (look_field tree R mark at).next (look_field tree R mark at).value
      GoodField number at = Leaf at (look_field tree R number at).next (look_field tree R number at).value

      unfoldable pub GoodSlot : Sort → ℕ → ℕ → Type 0
      GoodSlot s zero at = Unit
      GoodSlot s (suc b) at = GoodField s at

      unfoldable pub GoodFields : List Field → ℕ → ℕ → Type 0
      GoodFields [] m at = Unit
      GoodFields (f ∷ fs) m at = GoodSlot (sort_in f) (m % 2) at × GoodFields fs (m / 2) (look_slot tree R (sort_in f) (m % 2) at).next

  pub record GoodHere (R : ℕ → Seen Node) (G : Bool → List Field → ℕ → ℕ → Type 0) (at : ℕ) : Type 0 where
    pub head : part at (onward tree at 2) tree ≡ byte_at tree at ∷ map_of (look_fields tree R (fields_of (byte_at tree at)) (byte_at tree (onward tree at 1)) (onward tree at 2)).value ∷ []
    pub place : ℕ
    pub fits : Fits input place (node at (byte_at tree at) (look_fields tree R (fields_of (byte_at tree at)) (byte_at tree (onward tree at 1)) (onward tree at 2)).value)
    pub bytes : part at (look_fields tree R (fields_of (byte_at tree at)) (byte_at tree (onward tree at 1)) (onward tree at 2)).next tree ≡ encode (node at (byte_at tree at) (look_fields tree R (fields_of (byte_at tree at)) (byte_at tree (onward tree at 1)) (onward tree at 2)).value)
    -- its end is noted: where its fields end, and where its bytes do
    pub noted : end_at tree at ≡ (look_fields tree R (fields_of (byte_at tree at)) (byte_at tree (onward tree at 1)) (onward tree at 2)).next
    pub stop : end_at tree at ≡ at + length (encode (node at (byte_at tree at) (look_fields tree R (fields_of (byte_at tree at)) (byte_at tree (onward tree at 1)) (onward tree at 2)).value))
    -- and it stands within the longest tree, so every position in it is small
    pub limit : at + length (encode (node at (byte_at tree at) (look_fields tree R (fields_of (byte_at tree at)) (byte_at tree (onward tree at 1)) (onward tree at 2)).value)) ≤ 16384
    -- noted as quiet it is written as its bytes, wherever it stands
    pub quiet : quiet_at tree at ≡ true → (c : events.Place) → emits c (node at (byte_at tree at) (look_fields tree R (fields_of (byte_at tree at)) (byte_at tree (onward tree at 1)) (onward tree at 2)).value) ≡ say (puts (encode (node at (byte_at tree at) (look_fields tree R (fields_of (byte_at tree at)) (byte_at tree (onward tree at 1)) (onward tree at 2)).value)))
    -- and has no object rest and no spread in an object literal in it
    pub simple : quiet_at tree at ≡ true → Simple (node at (byte_at tree at) (look_fields tree R (fields_of (byte_at tree at)) (byte_at tree (onward tree at 1)) (onward tree at 2)).value)
    pub arg : eqb (byte_at tree at) 26 ≡ true → byte_at tree (onward tree at 1) % 2 ≡ 1
    pub temporary : eqb (byte_at tree at) 20 ≡ false
    pub helper : eqb (byte_at tree at) 21 ≡ false
    pub below : G (is_container (byte_at tree at)) (fields_of (byte_at tree at)) (byte_at tree (onward tree at 1)) (onward tree at 2)

  unfoldable pub Good : ℕ → ℕ → Type 0
  Good zero at = ⊥
  Good (suc d) at = GoodHere (λ q. look_node tree d q) (λ l fs m q. GoodFields (λ q. look_node tree d q) (λ q. Good d q) l fs m q) at

-- ---- contracts

-- the walk went over the node at a position and did with it what e says
abbrev pub Ruled : List ℕ → ℕ → ℕ → ℕ → Going → Going → (Node → Emit) → Type 0
Ruled tree d at q g g' e = (q ≡ (look_node tree d at).next) × (Good tree d at → Does g g' (e (look_node tree d at).value))

-- the same of a part of a good node
abbrev pub Emitted : List ℕ → ℕ → ℕ → ℕ → Going → Going → (Node → Emit) → Type 0
Emitted tree d at q g g' e = Good tree d at → (q ≡ (look_node tree d at).next) × Does g g' (e (look_node tree d at).value)

-- what is done for the node at a position; where the walk stands then is not said
abbrev pub Done : List ℕ → ℕ → ℕ → Going → Going → (Node → Emit) → Type 0
Done tree d at g g' e = Good tree d at → Does g g' (e (look_node tree d at).value)
