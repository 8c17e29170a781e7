-- The rewriting of one node, and the walk (document 01, 'The rewriting', first paragraph).
use Rattle.std.specs.Prelude.{ℕ, zero, suc, Bool, true, false, cond, not, ◌&&◌, ◌||◌, List, ◌∷◌, eqb}
use Rattle.tree.specs.Tree.{Node, Fields, Piece, Items}
use Rattle.tree.specs.Tree.Node.{node}
use Rattle.lowering.specs.Parts.{nothing, kind, is, node_at_of}
use Rattle.lowering.specs.Made.{Context}
use Rattle.lowering.specs.Patterns.{has_object_rest, has_array_rest_over_object_rest}
use Rattle.lowering.specs.Literals.{literal}
use Rattle.lowering.specs.Declarations.{declaration, declaration_makes, declaration_excludes, declaration_refusal}
use Rattle.lowering.specs.Assignments.{target, is_top, top_sequence, top_entry, top_excludes, top_makes, top_refusal, nested_sequence, nested_entry, nested_makes}
use Rattle.lowering.specs.Heads.{function, function_makes, arrow, arrow_makes, catch, catch_makes, declaring_head, declaring_makes, assigning_head, assigning_makes}
use Rattle.lowering.specs.Refusals.{rest_below_array_rest}

-- ---- what the rewriting of a node gives

-- what it hands out
pub record Note : Type 0 where
  pub refusal : ℕ  -- 0 for none
  pub made : Items  -- the temporaries that it makes, each once
  pub entry : Items  -- declarators that go before the containing statement
  pub excluded : Items  -- declarators of excluded keys

pub record Step : Type 0 where
  pub note : Note
  pub result : Node  -- what stands here now

-- a rewriting that hands nothing out but temporaries in the tree; one that changes nothing; one that refuses
abbrev pub rewritten : Items → Node → Step
rewritten made n = record { note = record { refusal = 0; made = made; entry = Items.none; excluded = Items.none }; result = n }

abbrev pub unchanged : Node → Step
unchanged n = rewritten Items.none n

abbrev pub refuse : ℕ → Step
refuse r = record { note = record { refusal = r; made = Items.none; entry = Items.none; excluded = Items.none }; result = nothing }

-- ---- the rules that can refuse

module _ (c : Context) where
  -- 4 Declaration
  unfoldable pub step_declaration : Node → Step
  step_declaration n =
      elim (declaration_refusal c n) [
        | suc r ↦ refuse (suc r)
        | zero ↦ record {
          note = record { refusal = 0; made = declaration_makes c n; entry = Items.none; excluded = declaration_excludes c n };
          result = declaration c n;
        }
      ]

  -- 27 Assignment to an object with rest
  unfoldable pub step_top : Node → Step
  step_top n =
      elim (top_refusal n) [
        | suc r ↦ refuse (suc r)
        | zero ↦ record {
          note = record { refusal = 0; made = top_makes c n; entry = top_entry c n; excluded = top_excludes c n };
          result = top_sequence c n;
        }
      ]

  -- 5 is looked for before the target's keys are
  unfoldable pub step_assignment : Node → Step
  step_assignment n =
      elim (has_array_rest_over_object_rest (target n)) [
        | true ↦ refuse rest_below_array_rest
        | false ↦
            elim (is_top (target n)) [
              | true ↦ step_top n
              | false ↦
                  elim (has_object_rest (target n)) [
                    | true ↦ record {
                      note = record { refusal = 0; made = nested_makes c n; entry = nested_entry c n; excluded = Items.none };
                      result = nested_sequence c n;
                    }
                    | false ↦ unchanged n
                  ]
            ]
      ]

  -- 7 ForIn and 8 ForOf; 5 is met here, before `right` is walked
  unfoldable pub step_for : Node → Step
  step_for n =
      elim (is 4 (node_at_of 1 n)) [
        | true ↦ rewritten (declaring_makes c n) (declaring_head c n)
        | false ↦
            elim (has_array_rest_over_object_rest (node_at_of 1 n)) [
              | true ↦ refuse rest_below_array_rest
              | false ↦ rewritten (assigning_makes c n) (assigning_head c n)
            ]
      ]

-- ---- one node

pub data Rule : Type 0 where
  literals declarations assignments functions arrows catches fors nowhere : Rule

-- the rule of a kind; at all other kinds nothing is rewritten
unfoldable pub rule_of : ℕ → Rule
rule_of k =
    cond (eqb k 24) literals
    (cond (eqb k 4) declarations
    (cond (eqb k 27) assignments
    (cond (eqb k 14) functions
    (cond (eqb k 17) arrows
    (cond (eqb k 10) catches
    (cond (eqb k 7 || eqb k 8) fors nowhere))))))

-- what becomes of the node n, which stands at c
unfoldable pub rewrite : Context → Node → Step
rewrite c n =
    elim (rule_of (kind n)) [
      | literals ↦ unchanged (literal n)
      | declarations ↦ step_declaration c n
      | assignments ↦ step_assignment c n
      | functions ↦ rewritten (function_makes c n) (function c n)
      | arrows ↦ rewritten (arrow_makes c n) (arrow c n)
      | catches ↦ rewritten (catch_makes c n) (catch c n)
      | fors ↦ step_for c n
      | nowhere ↦ unchanged n
    ]

-- ---- the walk

-- whether field i of a node of kind k lies in a scope that the node opens; Program's is the root (document 01, 'Tree bytes'). A Class's scope
-- has `super` and the members in it, a StaticBlock's its body (request 1). Of a Switch it has the cases, field 2, and not the discriminant
unfoldable pub opens_scope : ℕ → ℕ → Bool
opens_scope k i =
    eqb k 2 || eqb k 6 || eqb k 7 || eqb k 8 || eqb k 10 || eqb k 14 || eqb k 17 || eqb k 40 || eqb k 42
    || (eqb k 43 && eqb i 2)

-- where item j of field i of n stands
unfoldable pub within : Context → Node → ℕ → ℕ → Context
within c n i j =
    record {
      path = j ∷ i ∷ c.path;
      root = c.root && not (opens_scope (kind n) i);
      statement = is 3 n || (is 31 n && c.statement);
    }

-- a walked tree: each node with the note of its rewriting
mutual
  pub data Walked : Type 0 where
    noted : Note → ℕ → ℕ → WalkedFields → Walked  -- note, position, kind, fields

  pub data WalkedFields : Type 0 where
    done : WalkedFields
    absent : WalkedFields → WalkedFields
    field : WalkedPiece → WalkedFields → WalkedFields

  pub data WalkedPiece : Type 0 where
    one : Walked → WalkedPiece
    list : WalkedItems → WalkedPiece
    text : List ℕ → WalkedPiece
    byte : ℕ → WalkedPiece
    mark : ℕ → WalkedPiece
    number : ℕ → WalkedPiece

  pub data WalkedItems : Type 0 where
    none : WalkedItems
    hole : WalkedItems → WalkedItems
    item : Walked → WalkedItems → WalkedItems

-- each part of a node walked by w, which is told the number of the field and the place in its list (0 where the field is no list)
unfoldable pub each_item_of : (ℕ → Node → Walked) → ℕ → Items → WalkedItems
each_item_of w j Items.none = none
each_item_of w j (Items.hole is) = hole (each_item_of w (suc j) is)
each_item_of w j (Items.item n is) = item (w j n) (each_item_of w (suc j) is)

unfoldable pub each_piece : (ℕ → Node → Walked) → Piece → WalkedPiece
each_piece w (Piece.one n) = one (w 0 n)
each_piece w (Piece.list is) = list (each_item_of w 0 is)
each_piece w (Piece.text bs) = text bs
each_piece w (Piece.byte b) = byte b
each_piece w (Piece.mark b) = mark b
each_piece w (Piece.number b) = number b

unfoldable pub each_field : (ℕ → ℕ → Node → Walked) → ℕ → Fields → WalkedFields
each_field w i Fields.done = done
each_field w i (Fields.absent fs) = absent (each_field w (suc i) fs)
each_field w i (Fields.field p fs) = field (each_piece (w i) p) (each_field w (suc i) fs)

-- a node with its parts walked
unfoldable pub inside : Note → (ℕ → ℕ → Node → Walked) → Node → Walked
inside note w (node at k fs) = noted note at k (each_field w 0 fs)

-- top down, in field order: rewrite the node, then walk what that leaves. What is handed out is not walked. The number is how far down
-- the walk may go; there is always one that is enough (Weight), so the first line is never used
unfoldable pub walk : ℕ → Context → Node → Walked
walk zero c n = noted (unchanged n).note 0 0 done
walk (suc fuel) c n =
    let s = rewrite c n in
    inside s.note (λ i j m. walk fuel (within c s.result i j) m) s.result
