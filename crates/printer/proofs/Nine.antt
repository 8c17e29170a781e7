-- At most nine bytes of text for a byte of tree, so 294,912 bytes hold every text.
-- Assumes nothing.
use mathlib.Core.Path.{◌≡◌, refl, sym, ap, subst, ◌∙◌}
use mathlib.Core.Bool.{Bool, true, false, cond, ◌||◌}
use mathlib.Core.List.{List, [], ◌∷◌, ◌++◌}
use Prim.Native.Nat.{ℕ, zero, suc, ◌+◌, ◌-◌, ◌*◌, ◌/◌, ◌%◌, ◌<◌, ◌≤◌}
use native.Mathlib.Omega.{arith}
use native.Mathlib.Decide.{dec_lt}
use lib.Dec.{T, ltb, leb, eqb, leb→le}
use lib.ListN.{length, get_or, length-append, get_or-eq_default}
use borrow.Author.Tests.{ne_eqb, le-ltb}
use Rattle.tree.specs.Tree.{Node, Fields, Piece, Items, map_of, count, encode, encode_fields, encode_piece, encode_items}
use Rattle.tree.specs.Tree.Node.{node}
use Rattle.tree.specs.Tree.Piece.{one, list, text, byte, mark, number}
use Rattle.tree.specs.Grammar.{Sort, Field, places, among, also, allowed, kind_of, form_in, form_at, kinds, variants, fields_of, literal, expression}
use Rattle.tree.specs.Grammar.Field.{must, may}
use Rattle.tree.specs.Grammar.Stage.{rewritten}
use Rattle.tree.specs.Read.{sort_in}
use Rattle.tree.specs.WellFormed.{Fits, FitFields, FitPiece, FitItems}
use Rattle.tree.proofs.Table.{both, both_left, both_right, below, below_at}
use Rattle.tree.proofs.Look.{kind_at}
use Rattle.tree.proofs.Sound.{never}
use Rattle.rewritten.specs.Rewritten.{Rewritten}
use Rattle.printer.specs.Layout.{words, word, chosen_word, layout, line_of, head_of, tail_of, close_of, lead_of, manner_of}
use Rattle.printer.specs.Places.{lowest, without, field_in, manner_in, noting, past, in_method_form, wrapping, separator, leading, joining, following, noted_at, begun, computed, opening, closing, item_seen, around, list_opening, listed, unlisted, list_closing, is_quasis, is_filled, leaves, text_bytes, text_past, is_quasi, number_bytes}
use Rattle.printer.specs.Names.{decimal}
use Rattle.printer.specs.Text.{Cell, note_of, first, later, left_over_of, around_node, after_piece, held_node, held_fields, held_piece, held_items_of, quasis_for, quasis_after, text_node, text_fields, text_piece, text_items, outside, text_of}
use Rattle.printer.specs.Text.Cell.{quasi}
use Rattle.printer.specs.declared.frame.Frame.{Frame}
use Rattle.printer.proofs.LayoutNumbers.{line_none}
use Rattle.printer.proofs.Bits.{lowest_even, lowest_odd, without_even, without_odd}
use Rattle.printer.proofs.Most.{mosts, most, chosen_most, leads_out, around_most, around_most_lem, text_most, decimal_most, weight, weight_append, left_most, first_most}

-- ---- the fields of a form

-- the bytes of a field that are its own: a count, a length, a number
width : Sort → ℕ
width (Sort.child p) = 0
width (Sort.chosen p q) = 0
width (Sort.many p) = 2
width (Sort.gaps p) = 2
width Sort.text = 2
width (Sort.byte low high) = 1
width Sort.mark = 2
width Sort.number = 2

-- those of the fields that must stand
base : List Field → ℕ
base [] = 0
base (must s ∷ fs) = width s + base fs
base (may s ∷ fs) = base fs

-- what a field prints besides what it holds: the end of a list, quotes, digits
extra : ℕ → Sort → ℕ
extra kind (Sort.child p) = 0
extra kind (Sort.chosen p q) = 0
extra kind (Sort.many p) = most (close_of kind)
extra kind (Sort.gaps p) = most (close_of kind)
extra kind Sort.text = 4
extra kind (Sort.byte low high) = 0
extra kind Sort.mark = 0
extra kind Sort.number = 5

-- of all fields from one on, with what leads each
fields_most : ℕ → ℕ → List Field → ℕ
fields_most kind i [] = 0
fields_most kind i (f ∷ fs) = (most (lead_of kind i) + extra kind (sort_in f)) + fields_most kind (suc i) fs

-- `[`; a Helper has none
bracket : ℕ → ℕ
bracket kind = cond (eqb kind 21) 0 1

-- a node's own bytes, at its form
own_most : ℕ → ℕ
own_most form = most (head_of (kind_of form)) + (bracket (kind_of form) + (most (tail_of (kind_of form)) + (fields_most (kind_of form) 0 (fields_of form) + around_most (kind_of form))))

nine_right : ℕ → Bool
nine_right form = leb (own_most form) (9 * (2 + base (fields_of form)))

nines : T (below 70 nine_right)
unfolding nine_right own_most bracket base width extra fields_most most mosts around_most head_of tail_of close_of lead_of layout word words kind_of fields_of kinds variants
nines = tt

no_variant : (j : ℕ) → 6 ≤ j → get_or variants j [] ≡ []
unfolding variants
no_variant j h = get_or-eq_default variants [] {n = j} h

nine_form : (form : ℕ) → own_most form ≤ 9 * (2 + base (fields_of form))
unfolding nine_right own_most bracket base fields_most most mosts around_most head_of tail_of layout word words kind_of fields_of
nine_form form = elim (dec_lt form 70) [
  | yes h ↦ leb→le (own_most form) (9 * (2 + base (fields_of form))) (below_at nine_right 70 nines form h)
  | no h ↦
      let k : get_or {A = ℕ} (14 ∷ 14 ∷ 34 ∷ 35 ∷ 36 ∷ 37 ∷ []) (form - 64) 0 ≡ 0 = get_or-eq_default {A = ℕ} (14 ∷ 14 ∷ 34 ∷ 35 ∷ 36 ∷ 37 ∷ []) 0 {n = form - 64} (omega arith) in
      let v : get_or variants (form - 64) [] ≡ [] = no_variant (form - 64) (omega arith) in
      rw (le-ltb form 64 (omega arith), k, v) (omega arith)
]

-- ---- the next field by its place

up : ℕ → ℕ → ℕ
up zero x = x
up (suc i) x = 2 * up i x

up_double : (i x : ℕ) → up i (2 * x) ≡ up (suc i) x
unfolding up
up_double zero x = refl
up_double (suc i) x = ap (λ (y : ℕ). 2 * y) (up_double i x)

up_some : (i x : ℕ) → 0 < x → 0 < up i x
unfolding up
up_some zero x h = h
up_some (suc i) x h = omega (arith, up_some i x h)

lowest_up : (i x : ℕ) → lowest (up i (1 + 2 * x)) ≡ i
unfolding up
lowest_up zero x = lowest_odd (1 + 2 * x) (λ e. absurd (omega arith)) (λ e. absurd (omega arith))
lowest_up (suc i) x =
    let h : 0 < up i (1 + 2 * x) = up_some i (1 + 2 * x) (omega arith) in
    let d : 2 * up i (1 + 2 * x) / 2 ≡ up i (1 + 2 * x) = omega arith in
    lowest_even (2 * up i (1 + 2 * x)) (λ e. absurd (omega arith)) (omega arith) ∙ ap (λ (y : ℕ). lowest y + 1) d ∙ (let e : lowest (up i (1 + 2 * x)) ≡ i = lowest_up i x in omega arith)

without_up : (i x : ℕ) → without (up i (1 + 2 * x)) ≡ up (suc i) x
unfolding up
without_up zero x = without_odd (1 + 2 * x) (λ e. absurd (omega arith)) (λ e. absurd (omega arith)) ∙ omega arith
without_up (suc i) x =
    let h : 0 < up i (1 + 2 * x) = up_some i (1 + 2 * x) (omega arith) in
    let d : 2 * up i (1 + 2 * x) / 2 ≡ up i (1 + 2 * x) = omega arith in
    without_even (2 * up i (1 + 2 * x)) (λ e. absurd (omega arith)) (omega arith) ∙ ap (λ (y : ℕ). without y * 2) d ∙ (let e : without (up i (1 + 2 * x)) ≡ 2 * up i x = without_up i x in omega arith)

-- the frame of a node whose fields from i on are those of m
record At (k i m h : ℕ) (f : Frame) : Type 0 where
  kind : f.kind ≡ k
  rem : f.rem ≡ up i m
  list : f.list ≡ 0
  how : f.how ≡ h

at_skip : (kind i x how : ℕ) (f : Frame) → At kind i (2 * x) how f → At kind (suc i) x how f
at_skip kind i x how f a = record { kind = a.kind; rem = a.rem ∙ up_double i x; list = a.list; how = a.how }

at_field : (kind i x how : ℕ) (f : Frame) → At kind i (1 + 2 * x) how f → field_in f ≡ i
unfolding field_in
at_field kind i x how f a = ap lowest a.rem ∙ lowest_up i x

at_noting : (kind i x how s : ℕ) (f : Frame) → At kind i (1 + 2 * x) how f → At kind (suc i) x how (noting f s)
unfolding noting
at_noting kind i x how s f a = record { kind = a.kind; rem = ap without a.rem ∙ without_up i x; list = a.list; how = a.how }

around_off : (f : Frame) (k m : ℕ) → f.list ≡ 0 → around f k m ≡ noting f (cond (eqb (in_method_form f k m) 1) 1 f.seen)
unfolding around
around_off f k m e = ap (λ (z : ℕ). cond (eqb z 1) (item_seen f 1) (noting f (cond (eqb (in_method_form f k m) 1) 1 f.seen))) e

around_on : (f : Frame) (k m : ℕ) → f.list ≡ 1 → around f k m ≡ item_seen f 1
unfolding around
around_on f k m e = ap (λ (z : ℕ). cond (eqb z 1) (item_seen f 1) (noting f (cond (eqb (in_method_form f k m) 1) 1 f.seen))) e

at_after : (kind i x how : ℕ) (f : Frame) (p : Piece) → At kind i (1 + 2 * x) how f → At kind (suc i) x how (after_piece f p)
unfolding unlisted text_past past
at_after kind i x how f (one (node at k fs)) a = subst (λ (g : Frame). At kind (suc i) x how g) (sym (around_off f k (map_of fs) a.list)) (at_noting kind i x how (cond (eqb (in_method_form f k (map_of fs)) 1) 1 f.seen) f a)
at_after kind i x how f (list is) a = at_noting kind i x how (cond (eqb f.kind 4) f.seen (cond (eqb (count is) 0) 0 1)) f a
at_after kind i x how f (text bs) a = at_noting kind i x how _ f a
at_after kind i x how f (byte b) a = at_noting kind i x how f.seen f a
at_after kind i x how f (mark n) a = at_noting kind i x how f.seen f a
at_after kind i x how f (number n) a = at_noting kind i x how f.seen f a

-- ---- own bytes

by : {A : Type 0} (k m : ℕ) → (k ≡ m → A) → ((k ≡ m → ⊥) → A) → A
by k m f g = elim (dec_lt k m) [ yes h ↦ g (λ e. absurd (omega arith)) | no h ↦ elim (dec_lt m k) [ yes i ↦ g (λ e. absurd (omega arith)) | no i ↦ f (omega arith) ] ]

computed_most : (kind note : ℕ) → length (word (computed kind note)) ≤ bracket kind
unfolding computed word words bracket
computed_most kind note =
    by kind 21
    (λ e. rw e (none (eqb (note % 2) 1)))
    (λ n. rw (ne_eqb kind 21 n) (go (eqb (note % 2) 1) (eqb kind 25) (eqb kind 35) (eqb kind 41)))
  where
    none : (a : Bool) → length (word (cond a 0 0)) ≤ 0
    none true = omega arith
    none false = omega arith

    go : (a b c d : Bool) → length (word (cond a (cond b 67 (cond c 67 (cond d 67 0))) 0)) ≤ 1
    go true true c d = omega arith
    go true false true d = omega arith
    go true false false true = omega arith
    go true false false false = omega arith
    go false b c d = omega arith

opening_most : (p : Frame) (kind map note : ℕ) (q : List ℕ) → length (opening p kind map note q) + length (word (following p kind map note)) ≤ leads_out p + (length q + (around_most kind + (most (head_of kind) + bracket kind)))
unfolding opening
opening_most p kind map note q =
    let a : List ℕ = word (chosen_word (head_of kind) note map (noted_at p kind) (in_method_form p kind map)) in
    omega (
      arith,
      around_most_lem p kind map note,
      computed_most kind note,
      chosen_most (head_of kind) note map (noted_at p kind) (in_method_form p kind map),
      length-append (word (chosen_word (head_of kind) note map (noted_at p kind) (in_method_form p kind map))) (word (computed kind note)),
      length-append (word (cond (eqb (wrapping p kind map note) 1) 64 0)) (word (chosen_word (head_of kind) note map (noted_at p kind) (in_method_form p kind map)) ++ word (computed kind note)),
      length-append (word (joining p kind note)) (word (cond (eqb (wrapping p kind map note) 1) 64 0) ++ (word (chosen_word (head_of kind) note map (noted_at p kind) (in_method_form p kind map)) ++ word (computed kind note))),
      length-append q (word (joining p kind note) ++ (word (cond (eqb (wrapping p kind map note) 1) 64 0) ++ (word (chosen_word (head_of kind) note map (noted_at p kind) (in_method_form p kind map)) ++ word (computed kind note)))),
      length-append (word (leading p kind map)) (q ++ (word (joining p kind note) ++ (word (cond (eqb (wrapping p kind map note) 1) 64 0) ++ (word (chosen_word (head_of kind) note map (noted_at p kind) (in_method_form p kind map)) ++ word (computed kind note))))),
    )

closing_most : (f : Frame) → length (closing f) ≤ most (tail_of f.kind) + length (word f.how)
unfolding closing
closing_most f = omega (arith, length-append (word (chosen_word (tail_of f.kind) f.note f.map f.seen 0)) (word f.how), chosen_most (tail_of f.kind) f.note f.map f.seen 0)

separator_most : (l : Frame) → length (word (separator l)) ≤ 2
unfolding separator word words
separator_most l = go (ltb 0 l.seen) (eqb (manner_in l) 7) (eqb (manner_in l) 11)
  where
    go : (a b c : Bool) → length (word (cond a (cond b 70 (cond c 70 0)) 0)) ≤ 2
    go true true c = omega arith
    go true false true = omega arith
    go true false false = omega arith
    go false b c = omega arith

number_most : (f : Frame) (n : ℕ) → n < 65536 → length (number_bytes f n) ≤ 5
unfolding number_bytes
number_most f n h = go (eqb f.kind 20)
  where
    go : (a : Bool) → length (cond a (decimal n) []) ≤ 5
    go true = decimal_most n h
    go false = omega arith

end_most : (l : Frame) (qs : List Cell) → length (list_closing l ++ cond (leaves l) (left_over_of qs) []) ≤ most (close_of l.kind) + weight qs
unfolding list_closing
end_most l qs =
    let w : length (cond (leaves l) (left_over_of qs) []) ≤ weight qs = go (leaves l) in
    omega (arith, length-append (word (chosen_word (close_of l.kind) l.note l.map l.seen 0)) (cond (leaves l) (left_over_of qs) []), chosen_most (close_of l.kind) l.note l.map l.seen 0)
  where
    go : (a : Bool) → length (cond a (left_over_of qs) []) ≤ weight qs
    go true = left_most qs
    go false = omega arith

-- ---- a list keeps its kind

record In (k : ℕ) (l : Frame) : Type 0 where
  kind : l.kind ≡ k
  list : l.list ≡ 1

in_listed : (kind : ℕ) (f : Frame) → f.kind ≡ kind → In kind (listed f)
unfolding listed
in_listed kind f e = record { kind = e; list = refl }

in_seen : (kind s : ℕ) (l : Frame) → In kind l → In kind (item_seen l s)
unfolding item_seen
in_seen kind s l i = record { kind = i.kind; list = i.list }

in_around : (kind : ℕ) (l : Frame) (n : Node) → In kind l → In kind (around_node l n)
in_around kind l (node at k fs) i = subst (λ (g : Frame). In kind g) (sym (around_on l k (map_of fs) i.list)) (in_seen kind 1 l i)

in_leads : (kind : ℕ) (l : Frame) → In kind l → leads_out l ≡ 0
unfolding leads_out
in_leads kind l i = ap (λ (z : ℕ). cond (eqb z 1) 0 (most (lead_of l.kind (field_in l)))) i.list

at_leads : (kind i x how : ℕ) (f : Frame) → At kind i (1 + 2 * x) how f → leads_out f ≡ most (lead_of kind i)
unfolding leads_out
at_leads kind i x how f a =
    ap (λ (z : ℕ). cond (eqb z 1) 0 (most (lead_of f.kind (field_in f)))) a.list
    ∙ ap (λ (z : ℕ). most (lead_of z (field_in f))) a.kind
    ∙ ap (λ (z : ℕ). most (lead_of kind z)) (at_field kind i x how f a)

lead_most : (kind i x how : ℕ) (f : Frame) → At kind i (1 + 2 * x) how f → length (list_opening f) ≤ most (lead_of kind i)
unfolding list_opening
lead_most kind i x how f a = rw (sym (at_field kind i x how f a), sym a.kind) (chosen_most (lead_of f.kind (field_in f)) f.note f.map f.seen 0)

in_end : (kind : ℕ) (l : Frame) → In kind l → (qs : List Cell) → length (list_closing l ++ cond (leaves l) (left_over_of qs) []) ≤ most (close_of kind) + weight qs
in_end kind l i qs = rw (sym i.kind) (end_most l qs)

nine_kind : (form kind : ℕ) → kind_of form ≡ kind → most (head_of kind) + (bracket kind + (most (tail_of kind) + (fields_most kind 0 (fields_of form) + around_most kind))) ≤ 9 * (2 + base (fields_of form))
unfolding own_most
nine_kind form kind e = rw (sym e) (nine_form form)

base_less : (f : Field) (fs : List Field) → base (f ∷ fs) ≤ width (sort_in f) + base fs
unfolding base
base_less (must s) fs = omega arith
base_less (may s) fs = omega arith

-- ---- quasis are in a Template alone

or_left : (a b : Bool) → (a || b) ≡ false → a ≡ false
or_left true b e = e
or_left false b e = refl

or_right : (a b : Bool) → (a || b) ≡ false → b ≡ false
or_right true b e = never (sym e)
or_right false b e = e

absent_at : (ms : List ℕ) → among ms 10 ≡ false → (j : ℕ) → eqb (get_or ms j 0) 10 ≡ false
unfolding among
absent_at [] e j = refl
absent_at (m ∷ ms) e zero = or_left (eqb m 10) (among ms 10) e
absent_at (m ∷ ms) e (suc j) = absent_at ms (or_right (eqb m 10) (among ms 10) e) j

plain_kind : ℕ → Bool
plain_kind kind = cond (eqb kind 23) true (cond (among (line_of kind).manners 10) false true)

plain_kinds : T (below 45 plain_kind)
unfolding plain_kind layout among
plain_kinds = tt

no_quasis : (kind : ℕ) → (kind ≡ 23 → ⊥) → (j : ℕ) → eqb (manner_of kind j) 10 ≡ false
unfolding manner_of plain_kind
no_quasis kind n j = elim (dec_lt kind 45) [
  | yes h ↦ absent_at (line_of kind).manners (go (among (line_of kind).manners 10) (rw (ne_eqb kind 23 n) at (below_at plain_kind 45 plain_kinds kind h))) j
  | no h ↦ rw (line_none kind (omega arith)) refl
]
  where
    go : (a : Bool) → T (cond a false true) → a ≡ false
    go true t = absurd t
    go false t = refl

-- which quasis wait at a field: none, or those of a Template
data Row (kind : ℕ) : ℕ → List Field → List Cell → Type 0 where
  plain : {i : ℕ} {ts : List Field} {qs : List Cell} → ((j : ℕ) → eqb (manner_of kind j) 10 ≡ false) → weight qs ≡ 0 → Row kind i ts qs
  quasis : kind ≡ 23 → Row kind 0 (must (Sort.many literal) ∷ may (Sort.many expression) ∷ []) []
  filling : {qs : List Cell} → kind ≡ 23 → Row kind 1 (may (Sort.many expression) ∷ []) qs
  over : {qs : List Cell} → Row kind 2 [] qs

row_tail : {kind i : ℕ} {f : Field} {ts : List Field} {qs : List Cell} → Row kind i (f ∷ ts) qs → Row kind (suc i) ts qs
row_tail (plain n z) = plain n z
row_tail (quasis e) = filling e
row_tail (filling e) = over

form_23 : (form : ℕ) → kind_of form ≡ 23 → form ≡ 23
unfolding kind_of
form_23 form = go (ltb form 64) (form - 64)
  where
    go : (a : Bool) (j : ℕ) → cond a form (get_or (14 ∷ 14 ∷ 34 ∷ 35 ∷ 36 ∷ 37 ∷ []) j 0) ≡ 23 → form ≡ 23
    go true j e = e
    go false zero e = absurd (omega arith)
    go false (suc zero) e = absurd (omega arith)
    go false (suc (suc zero)) e = absurd (omega arith)
    go false (suc (suc (suc zero))) e = absurd (omega arith)
    go false (suc (suc (suc (suc zero)))) e = absurd (omega arith)
    go false (suc (suc (suc (suc (suc zero))))) e = absurd (omega arith)
    go false (suc (suc (suc (suc (suc (suc j)))))) e = absurd (omega arith)

row_of : (form kind : ℕ) → kind_of form ≡ kind → Row kind 0 (fields_of form) []
unfolding fields_of kinds weight
row_of form kind w = by kind 23 (λ e. rw (form_23 form (w ∙ e)) (quasis e)) (λ n. plain (no_quasis kind n) refl)

-- a list at a field that holds no quasis passes on those that wait
same_quasis : (kind i x how : ℕ) (f : Frame) (qs : List Cell) (is : Items) → At kind i (1 + 2 * x) how f → eqb (manner_of kind i) 10 ≡ false → quasis_for f qs is ≡ qs
unfolding is_quasis manner_in field_in listed
same_quasis kind i x how f qs is a e = rw (a.kind, at_field', e) refl
  where
    at_field' : lowest f.rem ≡ i
    at_field' = ap lowest a.rem ∙ lowest_up i x

same_after : (kind i x how : ℕ) (f : Frame) (qs : List Cell) (p : Piece) → At kind i (1 + 2 * x) how f → eqb (manner_of kind i) 10 ≡ false → quasis_after f qs p ≡ qs
same_after kind i x how f qs (one n) a e = refl
same_after kind i x how f qs (list is) a e = same_quasis kind i x how f qs is a e
same_after kind i x how f qs (text bs) a e = refl
same_after kind i x how f qs (byte b) a e = refl
same_after kind i x how f qs (mark n) a e = refl
same_after kind i x how f qs (number n) a e = refl

-- ---- Literals, with what they hold

leaf : Sort → Bool
leaf (Sort.child p) = false
leaf (Sort.chosen p q) = false
leaf (Sort.many p) = false
leaf (Sort.gaps p) = false
leaf Sort.text = true
leaf (Sort.byte low high) = true
leaf Sort.mark = true
leaf Sort.number = true

leaf_row : List Field → Bool
leaf_row [] = true
leaf_row (f ∷ fs) = both (leaf (sort_in f)) (leaf_row fs)

held_text : (f : Frame) (bs : List ℕ) → weight (cond (is_quasi f) (quasi bs ∷ []) []) ≤ length bs
unfolding weight
held_text f bs = go (is_quasi f)
  where
    go : (a : Bool) → weight (cond a (quasi bs ∷ []) []) ≤ length bs
    go true = omega arith
    go false = omega arith

text_led : (kind i x how : ℕ) (f : Frame) (bs : List ℕ) → At kind i (1 + 2 * x) how f → length (text_bytes f bs) ≤ most (lead_of kind i) + (4 + 4 * length bs)
text_led kind i x how f bs a = rw (sym (at_field kind i x how f a), sym a.kind) (text_most f bs)

piece_leaf : {b : ℕ} {s : Sort} {p : Piece} → FitPiece rewritten b s p → T (leaf s) → (f : Frame) (kind i x how : ℕ) (qs : List Cell) → At kind i (1 + 2 * x) how f → (length (text_piece f qs p) + 2 * weight (held_piece f p)) + 9 * width s ≤ (most (lead_of kind i) + extra kind s) + 9 * length (encode_piece p)
unfolding text_piece held_piece encode_piece width extra leaf weight
piece_leaf (FitPiece.child g) t f kind i x how qs a = absurd t
piece_leaf (FitPiece.chosen g) t f kind i x how qs a = absurd t
piece_leaf (FitPiece.many c g) t f kind i x how qs a = absurd t
piece_leaf (FitPiece.gaps c g) t f kind i x how qs a = absurd t
piece_leaf (FitPiece.text {bs = bs} c g) t f kind i x how qs a = omega (arith, text_led kind i x how f bs a, held_text f bs)
piece_leaf (FitPiece.byte u v w) t f kind i x how qs a = omega arith
piece_leaf (FitPiece.mark c) t f kind i x how qs a = omega arith
piece_leaf (FitPiece.number {n = n} c) t f kind i x how qs a = omega (arith, number_most f n c)

at_closing : (kind i m how : ℕ) (f : Frame) → At kind i m how f → length (closing f) ≤ most (tail_of kind) + length (word how)
at_closing kind i m how f a = rw (sym a.kind, sym a.how) (closing_most f)

fields_leaf : {b : ℕ} {ts : List Field} {fs : Fields} → FitFields rewritten b ts fs → T (leaf_row ts) → (f : Frame) (kind i how : ℕ) (qs : List Cell) → At kind i (map_of fs) how f → (length (text_fields f qs fs) + 2 * weight (held_fields f fs)) + 9 * base ts ≤ most (tail_of kind) + (length (word how) + (fields_most kind i ts + 9 * length (encode_fields fs)))
unfolding text_fields held_fields encode_fields base fields_most leaf_row weight map_of
fields_leaf FitFields.done t f kind i how qs a = omega (arith, at_closing kind i 0 how f a)
fields_leaf (FitFields.absent {t = s} {ts = ts} {fs = fs} g) t f kind i how qs a = omega (arith, fields_leaf g (both_right (leaf s) (leaf_row ts) t) f kind (suc i) how qs (at_skip kind i (map_of fs) how f a))
fields_leaf (FitFields.field {f = r} {ts = ts} {p = p} {fs = fs} u g) t f kind i how qs a =
    let w : (length (text_piece f qs p) + 2 * weight (held_piece f p)) + 9 * width (sort_in r) ≤ (most (lead_of kind i) + extra kind (sort_in r)) + 9 * length (encode_piece p) = piece_leaf u (both_left (leaf (sort_in r)) (leaf_row ts) t) f kind i (map_of fs) how qs a in
    let v : (length (text_fields (after_piece f p) (quasis_after f qs p) fs) + 2 * weight (held_fields (after_piece f p) fs)) + 9 * base ts ≤ most (tail_of kind) + (length (word how) + (fields_most kind (suc i) ts + 9 * length (encode_fields fs))) = fields_leaf g (both_right (leaf (sort_in r)) (leaf_row ts) t) (after_piece f p) kind (suc i) how (quasis_after f qs p) (at_after kind i (map_of fs) how f p a) in
    omega (
      arith,
      length-append (text_piece f qs p) (text_fields (after_piece f p) (quasis_after f qs p) fs),
      length-append (encode_piece p) (encode_fields fs),
      weight_append (held_piece f p) (held_fields (after_piece f p) fs),
      base_less r ts,
    )

begun_at : (p : Frame) (kind map note : ℕ) → At kind 0 map (following p kind map note) (begun p kind map note)
unfolding begun up
begun_at p kind map note = record { kind = refl; rem = refl; list = refl; how = refl }

-- a node by its fields
node_by : (p : Frame) (kind map note form held : ℕ) (q t e : List ℕ) → kind_of form ≡ kind → (length t + held) + 9 * base (fields_of form) ≤ most (tail_of kind) + (length (word (following p kind map note)) + (fields_most kind 0 (fields_of form) + 9 * length e)) → length (opening p kind map note q ++ t) + held ≤ leads_out p + (length q + 9 * (2 + length e))
node_by p kind map note form held q t e w h = omega (arith, opening_most p kind map note q, nine_kind form kind w, length-append (opening p kind map note q) t)

literal_leaf : (kind : ℕ) → T (leaf_row (fields_of (form_at rewritten literal kind)))
unfolding form_at allowed also among places form_in kind_of leaf_row leaf fields_of kinds
literal_leaf kind = go (ltb kind 64) (eqb 22 kind)
  where
    go : (a b : Bool) → T (leaf_row (fields_of (cond a (cond b 22 0) 0)))
    go true true = tt
    go true false = tt
    go false b = tt

literal_node : {n : Node} → Fits rewritten literal n → (kind : ℕ) (l : Frame) → In kind l → (qs : List Cell) → length (text_node l qs n) + 2 * weight (held_node l n) ≤ length (cond (is_filled l) (first qs) []) + 9 * length (encode n)
unfolding text_node held_node encode
literal_node (Fits.fits {k = k} {fs = fs} pos ff) kind l i qs =
    let f : Frame = begun l k (map_of fs) (note_of fs) in
    let e : leads_out l ≡ 0 = in_leads kind l i in
    omega (
      arith,
      node_by l k (map_of fs) (note_of fs) (form_at rewritten literal k) (2 * weight (held_fields (begun l k (map_of fs) (note_of fs)) fs)) (cond (is_filled l) (first qs) []) (text_fields (begun l k (map_of fs) (note_of fs)) [] fs) (encode_fields fs) (kind_at rewritten literal k pos)
          (fields_leaf ff (literal_leaf k) (begun l k (map_of fs) (note_of fs)) k 0 (following l k (map_of fs) (note_of fs)) [] (begun_at l k (map_of fs) (note_of fs))),
    )

literal_items : {h : Bool} {is : Items} → FitItems rewritten literal h is → (kind : ℕ) (l : Frame) → In kind l → (qs : List Cell) → length (text_items l qs is) + 2 * weight (held_items_of l is) ≤ most (close_of kind) + (9 * length (encode_items is) + weight qs)
unfolding text_items held_items_of encode_items weight
literal_items FitItems.none kind l i qs = omega (arith, in_end kind l i qs)
literal_items (FitItems.hole {is = is} g) kind l i qs = omega (arith, length-append (word (separator l)) (text_items (item_seen l 2) qs is), separator_most l, literal_items g kind (item_seen l 2) (in_seen kind 2 l i) qs)
literal_items (FitItems.item {n = n} {is = is} u g) kind l i qs =
    let v : length (text_items (around_node l n) (cond (is_filled l) (later qs) qs) is) + 2 * weight (held_items_of (around_node l n) is) ≤ most (close_of kind) + (9 * length (encode_items is) + weight (cond (is_filled l) (later qs) qs)) = literal_items g kind (around_node l n) (in_around kind l n i) (cond (is_filled l) (later qs) qs) in
    omega (
      arith,
      literal_node u kind l i qs,
      first_most (is_filled l) qs,
      length-append (text_node l qs n) (text_items (around_node l n) (cond (is_filled l) (later qs) qs) is),
      length-append (encode n) (encode_items is),
      weight_append (held_node l n) (held_items_of (around_node l n) is),
    )

-- ---- all nodes

filled_not : eqb (manner_of 23 1) 10 ≡ false
unfolding manner_of layout
filled_not = refl

held_less : (f : Frame) (is : Items) → weight (quasis_for f [] is) ≤ weight (held_items_of (listed f) is)
unfolding weight
held_less f is = go (is_quasis (listed f))
  where
    go : (a : Bool) → weight (cond a (held_items_of (listed f) is) []) ≤ weight (held_items_of (listed f) is)
    go true = omega arith
    go false = omega arith

quasis_piece : {b : ℕ} {p : Piece} → FitPiece rewritten b (Sort.many literal) p → (f : Frame) (kind x how : ℕ) → At kind 0 (1 + 2 * x) how f → (length (text_piece f [] p) + weight (quasis_after f [] p)) + 9 * 2 ≤ (most (lead_of kind 0) + most (close_of kind)) + 9 * length (encode_piece p)
unfolding text_piece encode_piece
quasis_piece (FitPiece.many {is = is} c h) f kind x how a =
    omega (
      arith,
      literal_items h kind (listed f) (in_listed kind f a.kind) (quasis_for f [] is),
      held_less f is,
      lead_most kind 0 x how f a,
      length-append (list_opening f) (text_items (listed f) (quasis_for f [] is) is),
    )

list_nine : (f : Frame) (kind i x how : ℕ) (qs : List Cell) (is : Items) → At kind i (1 + 2 * x) how f → eqb (manner_of kind i) 10 ≡ false → length (text_items (listed f) (quasis_for f qs is) is) ≤ most (close_of kind) + (9 * length (encode_items is) + weight (quasis_for f qs is)) → length (text_piece f qs (list is)) + 9 * 2 ≤ (most (lead_of kind i) + most (close_of kind)) + (9 * length (encode_piece (list is)) + weight qs)
unfolding text_piece encode_piece
list_nine f kind i x how qs is a n h = omega (arith, h, ap weight (same_quasis kind i x how f qs is a n), lead_most kind i x how f a, length-append (list_opening f) (text_items (listed f) (quasis_for f qs is) is))

mutual
  unfolding text_node text_fields text_piece text_items encode encode_fields encode_piece encode_items map_of fields_most base width extra weight

  node_nine : {place : ℕ} {n : Node} → Fits rewritten place n → (p : Frame) (qs : List Cell) → length (text_node p qs n) ≤ leads_out p + (length (cond (is_filled p) (first qs) []) + 9 * length (encode n))
  node_nine (Fits.fits {p = place} {k = k} {fs = fs} pos ff) p qs =
      let w : length (text_fields (begun p k (map_of fs) (note_of fs)) [] fs) + 9 * base (fields_of (form_at rewritten place k)) ≤ most (tail_of k) + (length (word (following p k (map_of fs) (note_of fs))) + (fields_most k 0 (fields_of (form_at rewritten place k)) + (9 * length (encode_fields fs) + 0))) = fields_nine ff (begun p k (map_of fs) (note_of fs)) k 0 (following p k (map_of fs) (note_of fs)) [] (begun_at p k (map_of fs) (note_of fs)) (row_of (form_at rewritten place k) k (kind_at rewritten place k pos)) in
      omega (
        arith,
        node_by p k (map_of fs) (note_of fs) (form_at rewritten place k) 0 (cond (is_filled p) (first qs) []) (text_fields (begun p k (map_of fs) (note_of fs)) [] fs) (encode_fields fs) (kind_at rewritten place k pos) (omega (arith, w)),
      )

  fields_nine : {b : ℕ} {ts : List Field} {fs : Fields} → FitFields rewritten b ts fs → (f : Frame) (kind i how : ℕ) (qs : List Cell) → At kind i (map_of fs) how f → Row kind i ts qs → length (text_fields f qs fs) + 9 * base ts ≤ most (tail_of kind) + (length (word how) + (fields_most kind i ts + (9 * length (encode_fields fs) + weight qs)))
  fields_nine FitFields.done f kind i how qs a r = omega (arith, at_closing kind i 0 how f a)
  fields_nine (FitFields.absent {ts = ts} {fs = fs} g) f kind i how qs a r = omega (arith, fields_nine g f kind (suc i) how qs (at_skip kind i (map_of fs) how f a) (row_tail r))
  fields_nine (FitFields.field {f = s} {ts = ts} {p = p} {fs = fs} u g) f kind i how qs a (plain n z) =
      let e : quasis_after f qs p ≡ qs = same_after kind i (map_of fs) how f qs p a (n i) in
      let w : length (text_piece f qs p) + 9 * width (sort_in s) ≤ (most (lead_of kind i) + extra kind (sort_in s)) + (9 * length (encode_piece p) + weight qs) = piece_nine u f kind i (map_of fs) how qs a (n i) in
      let v : length (text_fields (after_piece f p) (quasis_after f qs p) fs) + 9 * base ts ≤ most (tail_of kind) + (length (word how) + (fields_most kind (suc i) ts + (9 * length (encode_fields fs) + weight (quasis_after f qs p)))) = fields_nine g (after_piece f p) kind (suc i) how (quasis_after f qs p) (at_after kind i (map_of fs) how f p a) (plain n (ap weight e ∙ z)) in
      omega (arith, z, ap weight e, base_less s ts, length-append (text_piece f qs p) (text_fields (after_piece f p) (quasis_after f qs p) fs), length-append (encode_piece p) (encode_fields fs))
  fields_nine (FitFields.field {p = p} u FitFields.done) f kind i how qs a (filling e) =
      let n : eqb (manner_of kind 1) 10 ≡ false = rw e filled_not in
      let w : length (text_piece f qs p) + 9 * 2 ≤ (most (lead_of kind 1) + most (close_of kind)) + (9 * length (encode_piece p) + weight qs) = piece_nine u f kind 1 0 how qs a n in
      omega (arith, length-append (text_piece f qs p) (closing (after_piece f p)), length-append (encode_piece p) [], at_closing kind 2 0 how (after_piece f p) (at_after kind 1 0 how f p a))
  fields_nine (FitFields.field {p = p} {fs = fs} u g) f kind i how qs a (quasis e) =
      let v : length (text_fields (after_piece f p) (quasis_after f [] p) fs) + 9 * 0 ≤ most (tail_of kind) + (length (word how) + (fields_most kind 1 (may (Sort.many expression) ∷ []) + (9 * length (encode_fields fs) + weight (quasis_after f [] p)))) = fields_nine g (after_piece f p) kind 1 how (quasis_after f [] p) (at_after kind 0 (map_of fs) how f p a) (filling e) in
      omega (arith, v, quasis_piece u f kind (map_of fs) how a, length-append (text_piece f [] p) (text_fields (after_piece f p) (quasis_after f [] p) fs), length-append (encode_piece p) (encode_fields fs))

  piece_nine : {b : ℕ} {s : Sort} {p : Piece} → FitPiece rewritten b s p → (f : Frame) (kind i x how : ℕ) (qs : List Cell) → At kind i (1 + 2 * x) how f → eqb (manner_of kind i) 10 ≡ false → length (text_piece f qs p) + 9 * width s ≤ (most (lead_of kind i) + extra kind s) + (9 * length (encode_piece p) + weight qs)
  piece_nine (FitPiece.child g) f kind i x how qs a n = omega (arith, node_nine g f qs, at_leads kind i x how f a, first_most (is_filled f) qs)
  piece_nine (FitPiece.chosen g) f kind i x how qs a n = omega (arith, node_nine g f qs, at_leads kind i x how f a, first_most (is_filled f) qs)
  piece_nine (FitPiece.many {is = is} c g) f kind i x how qs a n = list_nine f kind i x how qs is a n (items_nine g kind (listed f) (in_listed kind f a.kind) (quasis_for f qs is))
  piece_nine (FitPiece.gaps {is = is} c g) f kind i x how qs a n = list_nine f kind i x how qs is a n (items_nine g kind (listed f) (in_listed kind f a.kind) (quasis_for f qs is))
  piece_nine (FitPiece.text {bs = bs} c g) f kind i x how qs a n = omega (arith, text_led kind i x how f bs a)
  piece_nine (FitPiece.byte u v w) f kind i x how qs a n = omega arith
  piece_nine (FitPiece.mark c) f kind i x how qs a n = omega arith
  piece_nine (FitPiece.number {n = m} c) f kind i x how qs a n = omega (arith, number_most f m c)

  items_nine : {place : ℕ} {h : Bool} {is : Items} → FitItems rewritten place h is → (kind : ℕ) (l : Frame) → In kind l → (qs : List Cell) → length (text_items l qs is) ≤ most (close_of kind) + (9 * length (encode_items is) + weight qs)
  items_nine FitItems.none kind l i qs = omega (arith, in_end kind l i qs)
  items_nine (FitItems.hole {is = is} g) kind l i qs = omega (arith, length-append (word (separator l)) (text_items (item_seen l 2) qs is), separator_most l, items_nine g kind (item_seen l 2) (in_seen kind 2 l i) qs)
  items_nine (FitItems.item {n = n} {is = is} u g) kind l i qs =
      let v : length (text_items (around_node l n) (cond (is_filled l) (later qs) qs) is) ≤ most (close_of kind) + (9 * length (encode_items is) + weight (cond (is_filled l) (later qs) qs)) = items_nine g kind (around_node l n) (in_around kind l n i) (cond (is_filled l) (later qs) qs) in
      omega (
        arith,
        v,
        node_nine u l qs,
        in_leads kind l i,
        first_most (is_filled l) qs,
        length-append (text_node l qs n) (text_items (around_node l n) (cond (is_filled l) (later qs) qs) is),
        length-append (encode n) (encode_items is),
      )

none_waits : (a : Bool) → length {A = ℕ} (cond a (first []) []) ≡ 0
none_waits true = refl
none_waits false = refl

-- the law
pub nine_times : (n : Node) → Rewritten n → length (text_of n) ≤ 9 * length (encode n)
unfolding text_of leads_out most lead_of layout word words
nine_times n w = omega (arith, node_nine w.formed.fits outside [], none_waits (is_filled outside))

pub never_longer : (n : Node) → Rewritten n → length (text_of n) ≤ 294912
never_longer n w = omega (arith, nine_times n w, w.formed.short)
