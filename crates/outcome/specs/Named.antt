-- The deeds of a walk with the names of the temporaries that are made, and a tree as a row of bytes and names.
use Rattle.std.specs.Prelude.{ℕ, zero, suc, Bool, cond, List, [], ◌∷◌, ◌++◌, eqb, length}
use Rattle.tree.specs.Tree.{Node, Fields, Piece, Items, wide_bytes, map_of, count, encode}
use Rattle.tree.specs.Tree.Node.{node}
use Rattle.tree.specs.Tree.Items.{none, hole, item}
use Rattle.lowering.specs.Parts.{node_at_of, number_at, stands, is_empty}
use Rattle.lowering.specs.Made.{id_of}
use Rattle.lowering.specs.Walk.{Note, Walked, WalkedFields, WalkedPiece, WalkedItems}
use Rattle.lowering.specs.Walk.Walked.{noted}
use Rattle.lowering.specs.Collect.{Name, name_of, new_in, new_in_piece, is_container, marked, mark_of}
use Rattle.lowering.specs.Answer.{Outcome}
use Rattle.sink.specs.Machine.{Event, Ended}
use Rattle.sink.specs.Shown.{Named, Token, names_after}
use Rattle.sink.specs.Shown.Named.{put, helper, temporary, new_mark, make, listed, listed_temporary, entry, excluded, excluded_temporary, declarator}
use Rattle.sink.specs.Shown.Token.{plain, temp}
use Rattle.direct.specs.Events.{Deed, cell, cell_of, stem_of, later, number_in, count_in, map_in}
use Rattle.direct.specs.Events.Deed.{does, refuses}

-- ---- deeds apart: what is refused first, and the events

-- the first refusal, or 0
unfoldable pub first_refused : List Deed → ℕ
first_refused [] = 0
first_refused (does e ∷ ds) = first_refused ds
first_refused (refuses r ∷ ds) = r

-- the events, refusals left out
unfoldable pub events_in : List Deed → List Event
events_in [] = []
events_in (does e ∷ ds) = e ∷ events_in ds
events_in (refuses r ∷ ds) = events_in ds

-- ---- named events, as in Events

abbrev pub Act : Type 0
Act = Named Name

unfoldable pub puts : List ℕ → List Act
puts [] = []
puts (b ∷ bs) = put b ∷ puts bs

unfoldable pub lists : List ℕ → List Act
lists [] = []
lists (b ∷ bs) = listed b ∷ lists bs

unfoldable pub excludes : List ℕ → List Act
excludes [] = []
excludes (b ∷ bs) = excluded b ∷ excludes bs

unfoldable pub made : Items → List Act
made none = []
made (hole ts) = made ts
made (item t ts) = cond (eqb (number_at 0 t) 2) (made ts) (make (cell_of t) (name_of t) ∷ made ts)

unfoldable pub handed : Items → List Act
handed none = []
handed (hole ds) = handed ds
handed (item d ds) =
    lists (5 ∷ cond (stands 1 d) 3 1 ∷ [])
    ++ (listed_temporary (cell_of (id_of d)) (stem_of (id_of d)) (name_of (id_of d)) ∷ cond (stands 1 d) (lists (encode (node_at_of 1 d))) [])
    ++ handed ds

unfoldable pub entered : ℕ → Items → List Act
entered m ds = cond (is_empty ds) [] (entry m (count ds) ∷ handed ds)

unfoldable pub excluded_keys : Items → List Act
excluded_keys none = []
excluded_keys (hole ds) = excluded_keys ds
excluded_keys (item d ds) =
    declarator ∷ excluded_temporary (cell_of (id_of d)) (stem_of (id_of d)) (name_of (id_of d)) ∷ excludes (encode (node_at_of 1 d)) ++ excluded_keys ds

unfoldable pub hands_out : ℕ → Note → List Act
hands_out m note =
    cond (is_empty note.entry) (made note.made) []
    ++ entered m note.entry
    ++ excluded_keys note.excluded

unfoldable pub marks : ℕ → List Act
marks zero = new_mark ∷ []
marks (suc m) = puts (wide_bytes (suc m))

unfoldable pub written : ℕ → ℕ → WalkedFields → List Act → List Act
written at k fs below =
    cond (eqb k 20) (temporary (cell (number_in fs) at) (number_in fs) ∷ [])
    (cond (eqb k 21) (helper (number_in fs) ∷ []) (puts (k ∷ map_in fs ∷ []) ++ below))

unfoldable mutual
  pub named : ℕ → ℕ → Walked → List Act
  named next m (noted note at k fs) = hands_out m note ++ written at k fs (named_fields (is_container k) next m fs)

  pub named_fields : Bool → ℕ → ℕ → WalkedFields → List Act
  named_fields l next m WalkedFields.done = []
  named_fields l next m (WalkedFields.absent fs) = named_fields l next m fs
  named_fields l next m (WalkedFields.field p fs) = named_piece l next m p ++ named_fields l (later next (new_in_piece p)) m fs

  pub named_piece : Bool → ℕ → ℕ → WalkedPiece → List Act
  named_piece l next m (WalkedPiece.one w) = named next m w
  named_piece l next m (WalkedPiece.list is) = puts (wide_bytes (count_in is)) ++ named_items l next m is
  named_piece l next m (WalkedPiece.text bs) = puts (wide_bytes (length bs) ++ bs)
  named_piece l next m (WalkedPiece.byte b) = put b ∷ []
  named_piece l next m (WalkedPiece.mark b) = marks b
  named_piece l next m (WalkedPiece.number b) = puts (wide_bytes b)

  pub named_items : Bool → ℕ → ℕ → WalkedItems → List Act
  named_items l next m WalkedItems.none = []
  named_items l next m (WalkedItems.hole is) = put 0 ∷ named_items l next m is
  named_items l next m (WalkedItems.item w is) =
      named next (cond l (marked next (mark_of w)) m) w ++ named_items l (later next (new_in w)) m is

-- ---- a tree as bytes and names: each Temporary is one token

unfoldable pub plains : List ℕ → List (Token Name)
plains [] = []
plains (b ∷ bs) = plain b ∷ plains bs

unfoldable mutual
  pub tokens : Node → List (Token Name)
  tokens (node at k fs) = cond (eqb k 20) (temp (name_of (node at k fs)) (stem_of (node at k fs)) ∷ []) (plain k ∷ plain (map_of fs) ∷ tokens_fields fs)

  pub tokens_fields : Fields → List (Token Name)
  tokens_fields Fields.done = []
  tokens_fields (Fields.absent fs) = tokens_fields fs
  tokens_fields (Fields.field p fs) = tokens_piece p ++ tokens_fields fs

  pub tokens_piece : Piece → List (Token Name)
  tokens_piece (Piece.one n) = tokens n
  tokens_piece (Piece.list is) = plains (wide_bytes (count is)) ++ tokens_items is
  tokens_piece (Piece.text bs) = plains (wide_bytes (length bs) ++ bs)
  tokens_piece (Piece.byte b) = plain b ∷ []
  tokens_piece (Piece.mark n) = plains (wide_bytes n)
  tokens_piece (Piece.number n) = plains (wide_bytes n)

  pub tokens_items : Items → List (Token Name)
  tokens_items none = []
  tokens_items (hole is) = plain 0 ∷ tokens_items is
  tokens_items (item n is) = tokens n ++ tokens_items is

-- ---- which name a cell stands for

-- after named events
unfoldable pub after : (ℕ → Name) → List Act → ℕ → Name
after names [] = names
after names (e ∷ es) = after (names_after names e) es

-- ---- what the machine's end says

-- the outcome of a lowering, from what the output machine hands back: 7 where it does not fit
unfoldable pub outcome_from : ℕ → Ended → Outcome
outcome_from options e =
    record {
      answer = cond e.written.fits 0 7;
      helpers = e.written.helpers;
      options = cond e.written.fits options 0;
      tree_length = e.written.tree;
      list_length_of = e.written.list;
      tree_out = e.out;
      list_out = e.list;
      work = e.work;
    }
