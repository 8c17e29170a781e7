-- What drawing leaves: the bytes written, and the pen.
use Rattle.std.specs.Prelude.{ℕ, suc, ◌%◌, cond, List, [], ◌∷◌, length, nat_le, slice_set}
use Rattle.tree.specs.Tree.{Node, Fields, Piece, Items, encode, encode_fields, encode_piece, encode_items, map_of}
use Rattle.tree.specs.WellFormed.{byte_in}
use Rattle.drawing.specs.Draw.{Drawn}
use Rattle.drawing.specs.Draw.Drawn.{drawn}
use Rattle.drawing.specs.declared.pen.Pen.{Pen}

-- the next position: past the end no more than one byte is counted
unfoldable pub next : ℕ → ℕ → ℕ
next size at = cond (nat_le at size) (suc at) at

-- bytes written one after the other; none past the end
unfoldable pub put : List ℕ → ℕ → List ℕ → List ℕ
put l at [] = l
put l at (x ∷ xs) = put (slice_set l at x) (next (length l) at) xs

-- the position after them
unfoldable pub reach : ℕ → ℕ → List ℕ → ℕ
reach size at [] = at
reach size at (x ∷ xs) = reach size (next size at) xs

-- a slice, and the pen over it
pub record Page : Type 0 where
  pub bytes : List ℕ
  pub pen : Pen

abbrev pub page : List ℕ → Pen → Page
page l g = record { bytes = l; pen = g }

-- What a drawing leaves of a slice and a position: its bytes written, and the pen behind them with the value that it hands on.
unfoldable pub drew : {A : Type 0} → (A → List ℕ) → (A → ℕ) → List ℕ → ℕ → Drawn A → Page
drew bytes value l at (drawn a s b k) =
    page (put l at (bytes a)) (record { state = s; more = b; mark = k; at = reach (length l) at (bytes a); value = value a })

abbrev pub drew_node : List ℕ → ℕ → Drawn Node → Page
drew_node = drew encode (λ n. 0)

abbrev pub drew_items : List ℕ → ℕ → Drawn Items → Page
drew_items = drew encode_items (λ is. 0)

-- a field hands on its byte
abbrev pub drew_piece : List ℕ → ℕ → Drawn Piece → Page
drew_piece = drew encode_piece byte_in

-- fields hand on their bit map
abbrev pub drew_fields : List ℕ → ℕ → Drawn Fields → Page
drew_fields = drew encode_fields (λ fs. map_of fs % 256)
