-- Where a node stands in its parent, and what it prints by that.
use Rattle.std.specs.Prelude.{ℕ, zero, suc, ◌+◌, ◌-◌, ◌*◌, ◌/◌, ◌%◌, ◌<◌, ◌≡◌, List, [], ◌∷◌, ◌++◌, Bool, true, false, cond, ◌||◌, ◌&&◌, ltb, eqb, get_or}
use Rattle.tree.specs.Grammar.{among}
use Rattle.printer.specs.Layout.{word, chosen_word, head_of, tail_of, close_of, lead_of, manner_of, filled, called, headed, quoted, parted, valued}
use Rattle.printer.specs.Names.{bare, in_quotes, decimal}
use Rattle.printer.specs.declared.frame.Frame.{Frame}

-- ---- the next field: the lowest bit of those still to come

unfoldable pub lowest_from : ℕ → ℕ → ℕ
lowest_from zero r = 0
lowest_from (suc f) r = elim (eqb r 0) [ true ↦ 0 | false ↦ elim (eqb (r % 2) 0) [ true ↦ suc (lowest_from f (r / 2)) | false ↦ 0 ] ]

unfoldable pub lowest : ℕ → ℕ
lowest r = lowest_from r r

unfoldable pub without_from : ℕ → ℕ → ℕ
without_from zero r = 0
without_from (suc f) r = elim (eqb r 0) [ true ↦ 0 | false ↦ elim (eqb (r % 2) 0) [ true ↦ 2 * without_from f (r / 2) | false ↦ r - 1 ] ]

unfoldable pub without : ℕ → ℕ
without r = without_from r r

-- the number of the next field, and its manner
unfoldable pub field_in : Frame → ℕ
field_in f = lowest f.rem

unfoldable pub manner_in : Frame → ℕ
manner_in f = manner_of f.kind (field_in f)

-- the frame once the next field is done, with what is noted
unfoldable pub noting : Frame → ℕ → Frame
noting f s = record { kind = f.kind; map = f.map; note = f.note; how = f.how; seen = s; rem = without f.rem; list = f.list }

unfoldable pub past : Frame → Frame
past f = noting f f.seen

-- ---- sorts of nodes, by kind and byte

unfoldable pub is_statement : ℕ → ℕ → Bool
is_statement kind note = among (2 ∷ 3 ∷ 4 ∷ 6 ∷ 7 ∷ 8 ∷ 9 ∷ 11 ∷ 12 ∷ 13 ∷ 43 ∷ []) kind || (eqb kind 14 && eqb note 1)

-- an expression that is not a name or literal
unfoldable pub is_wrapped : ℕ → ℕ → Bool
is_wrapped kind note = among (17 ∷ 23 ∷ 24 ∷ 27 ∷ 28 ∷ 29 ∷ 30 ∷ 31 ∷ 32 ∷ 33 ∷ 40 ∷ []) kind || (eqb kind 14 && eqb note 2)

-- method form: a flag 4, 8 or 16 stands and the value is a Function without a name
unfoldable pub in_method_form : Frame → ℕ → ℕ → ℕ
in_method_form p kind map = cond (eqb (manner_in p) valued) (cond (eqb kind 14) (cond (eqb (map / 4 % 2) 0) (cond (ltb 3 p.note) 1 0) 0) 0) 0

unfoldable pub wrapping : Frame → ℕ → ℕ → ℕ → ℕ
wrapping p kind map note = cond (eqb (in_method_form p kind map) 0) (cond (is_wrapped kind note) 1 0) 0

-- ---- a node that begins; p is what is around it

-- what parts an item from the one before
unfoldable pub separator : Frame → ℕ
separator p = cond (ltb 0 p.seen) (cond (eqb (manner_in p) called) 70 (cond (eqb (manner_in p) parted) 70 0)) 0

-- before it: what parts it, or what leads its field
unfoldable pub leading : Frame → ℕ → ℕ → ℕ
leading p kind map = cond (eqb p.list 1) (separator p) (chosen_word (lead_of p.kind (field_in p)) p.note p.map p.seen (in_method_form p kind map))

unfoldable pub joining : Frame → ℕ → ℕ → ℕ
joining p kind note =
    get_or
    (0 ∷ 0 ∷ 0 ∷ 0 ∷ 0 ∷ 0
    ∷ 74  -- filled: `${`
    ∷ cond (is_statement kind note) 52 0  -- called: a line end before a statement
    ∷ cond (eqb kind 2) 71 52  -- looped: a blank, or a line end
    ∷ [])
    (manner_in p) 0

-- behind it, but for the parenthesis
unfoldable pub trailing : Frame → Bool → ℕ
trailing p statement =
    get_or
    (50
    ∷ 52  -- lines
    ∷ 54  -- directives
    ∷ 56  -- caught
    ∷ 58  -- closed
    ∷ cond (eqb (p.note % 2) 0) 50 60  -- keyed
    ∷ 62  -- filled
    ∷ cond statement 52 50  -- called
    ∷ [])
    (manner_in p) 50

unfoldable pub following : Frame → ℕ → ℕ → ℕ → ℕ
following p kind map note = wrapping p kind map note + trailing p (is_statement kind note)

-- 1 for a Declaration in the head of a loop, 2 for a quasi
unfoldable pub noted_at : Frame → ℕ → ℕ
noted_at p kind = cond (eqb (manner_in p) headed) (cond (eqb kind 4) 1 0) (cond (eqb (manner_in p) quoted) 2 0)

-- a plain place: no quasi and nothing that joins stands there, nothing is noted, and the manner alone tells what stands behind; the
-- node is no Function, so it is not in method form
pub record Plain (m kind : ℕ) : Type 0 where
  pub manner : 4 < m → 10 < m
  pub other : kind ≡ 14 → ⊥

unfoldable pub begun : Frame → ℕ → ℕ → ℕ → Frame
begun p kind map note = record { kind = kind; map = map; note = note; how = following p kind map note; seen = noted_at p kind; rem = map; list = 0 }

-- `[` before a computed key
unfoldable pub computed : ℕ → ℕ → ℕ
computed kind note = cond (eqb (note % 2) 1) (cond (eqb kind 25) 67 (cond (eqb kind 35) 67 (cond (eqb kind 41) 67 0))) 0

unfoldable pub opening : Frame → ℕ → ℕ → ℕ → List ℕ → List ℕ
opening p kind map note quasi =
    word (leading p kind map)
    ++ (quasi
    ++ (word (joining p kind note)
    ++ (word (cond (eqb (wrapping p kind map note) 1) 64 0)
    ++ (word (chosen_word (head_of kind) note map (noted_at p kind) (in_method_form p kind map)) ++ word (computed kind note)))))

unfoldable pub closing : Frame → List ℕ
closing f = word (chosen_word (tail_of f.kind) f.note f.map f.seen 0) ++ word f.how

-- the parent after it: an item has come; or its field is done, in method form noted
unfoldable pub item_seen : Frame → ℕ → Frame
item_seen p s = record { kind = p.kind; map = p.map; note = p.note; how = p.how; seen = s; rem = p.rem; list = p.list }

unfoldable pub around : Frame → ℕ → ℕ → Frame
around p kind map = cond (eqb p.list 1) (item_seen p 1) (noting p (cond (eqb (in_method_form p kind map) 1) 1 p.seen))

-- ---- a list

unfoldable pub list_opening : Frame → List ℕ
list_opening f = word (chosen_word (lead_of f.kind (field_in f)) f.note f.map f.seen 0)

unfoldable pub listed : Frame → Frame
listed f = record { kind = f.kind; map = f.map; note = f.note; how = f.how; seen = 0; rem = f.rem; list = 1 }

-- the node after it: whether it had items is noted, but for a Declaration
unfoldable pub unlisted : Frame → ℕ → Frame
unlisted f n = noting f (cond (eqb f.kind 4) f.seen (cond (eqb n 0) 0 1))

unfoldable pub list_closing : Frame → List ℕ
list_closing l = word (chosen_word (close_of l.kind) l.note l.map l.seen 0)

-- the list of quasis; a list before whose items quasis stand
unfoldable pub is_quasis : Frame → Bool
is_quasis l = eqb (manner_in l) quoted

unfoldable pub is_filled : Frame → Bool
is_filled l = eqb (manner_in l) filled && eqb l.list 1

-- a list behind whose last item the quasis that are left stand: the expressions, or the quasis where no expressions stand
unfoldable pub leaves : Frame → Bool
leaves l = eqb (manner_in l) filled || (eqb (manner_in l) quoted && eqb (l.map / 2 % 2) 0)

-- ---- texts and numbers

-- a Literal's text: a quasi prints nothing here; a spelling, or the form in quotes if that is empty
unfoldable pub literal_text : Frame → List ℕ → List ℕ
literal_text f [] =
    cond (eqb f.seen 0)
    (cond (eqb (field_in f) 1) (cond (eqb (f.map / 4 % 2) 0) (in_quotes []) []) (in_quotes []))
    []
literal_text f (b ∷ bs) = cond (eqb f.seen 0) (cond (eqb (field_in f) 1) (b ∷ bs) (in_quotes (b ∷ bs))) []

-- `["..."]`
abbrev pub member_quoted : List ℕ → List ℕ
member_quoted bs = 91 ∷ (in_quotes bs ++ (93 ∷ []))

unfoldable pub member_name : List ℕ → List ℕ
member_name bs = cond (bare bs) (46 ∷ bs) (member_quoted bs)

unfoldable pub key_name : List ℕ → List ℕ
key_name bs = cond (bare bs) bs (in_quotes bs)

unfoldable pub text_bytes : Frame → List ℕ → List ℕ
text_bytes f bs =
    cond (eqb f.kind 22) (literal_text f bs)
    (cond (eqb f.kind 30) (member_name bs)
    (cond (eqb f.kind 38) (key_name bs)
    (word (chosen_word (lead_of f.kind (field_in f)) f.note f.map f.seen 0) ++ bs)))

-- a Literal that is spelled is noted
unfoldable pub spelled : Frame → List ℕ → ℕ
spelled f [] = f.seen
spelled f (b ∷ bs) = cond (eqb f.kind 22 && eqb f.seen 0) 1 f.seen

unfoldable pub text_past : Frame → List ℕ → Frame
text_past f bs = noting f (spelled f bs)

-- a quasi's spelling
unfoldable pub is_quasi : Frame → Bool
is_quasi f = eqb f.kind 22 && (eqb f.seen 2 && eqb (field_in f) 1)

unfoldable pub number_bytes : Frame → ℕ → List ℕ
number_bytes f n = cond (eqb f.kind 20) (decimal n) []
