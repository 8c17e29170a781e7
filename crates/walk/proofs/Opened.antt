-- What stands at a position where a good node of a kind stands: its bytes, its parts, and what is known of them.
-- Assumes nothing.
use mathlib.Core.Path.{◌≡◌, refl, sym, ap, ap₂, ◌∙◌, subst}
use mathlib.Core.Bool.{Bool, true, false, cond, not, ◌||◌, false≢true}
use mathlib.Core.List.{List, [], ◌∷◌, ◌++◌}
use mathlib.Core.Option.{Option}
use Prim.Native.Nat.{ℕ, zero, suc, ◌+◌, ◌-◌, ◌*◌, ◌/◌, ◌%◌, ◌≤◌, ◌<◌}
use native.Mathlib.Omega.{arith}
use native.Mathlib.Decide.{dec_lt}
use lib.Dec.{eqb, leb}
use lib.ListN.{length, get_or, take, drop, length-drop, length-append, take-append-drop}
use lib.Seq.{get_or-drop, take-nil}
use borrow.Author.Tests.{eqb-true, eqb-false, eq-eqb, ne_eqb, leb-true, leb-false, lt-leb, lt-ltb, le-ltb}
use Rattle.tree.specs.Tree.{Node, Fields, Piece, Items, wide_bytes, map_of, count, encode, encode_fields, encode_piece}
use Rattle.tree.specs.Tree.Node.{node}
use Rattle.tree.specs.Grammar.{Sort, Field, statement, expression, for_left, param, function_body, binding, binding_name, kind_of, form_at, fields_of, kinds, variants}
use Rattle.tree.specs.Grammar.Field.{must, may}
use Rattle.tree.specs.Grammar.Stage.{input}
use Rattle.tree.specs.WellFormed.{Fits, FitFields, FitPiece}
use Rattle.tree.specs.Read.{byte_at, wide_at}
use Rattle.tree.specs.Look.{Seen, seen, seen_as, onward, look_item, look_items, look_field, look_slot, look_fields, look_node}
use Rattle.tree.proofs.Look.{kind_at, on_fits}
use Rattle.tree.proofs.EncodedLengths.{node_long}
use Rattle.lowering.specs.Parts.{is, kind, position, node_at_of, piece_in, as_node}
use Rattle.lowering.specs.Patterns.{Shape, shape}
use Rattle.lowering.specs.Patterns as patterns
use Rattle.lowering.specs.Patterns.Shape.{leaf}
use Rattle.lowering.specs.Collect.{is_container}
use Rattle.lowering.proofs.Accepted.{NoHoles}
use Rattle.lowering.proofs.All.{AllItems, weaker_items}
use Rattle.lowering.proofs.Cases.{by_test}
use Rattle.pattern.proofs.KeyCases.{items_count}
use Rattle.outcome.proofs.Asked.{leaf_kind, Known, known}
use Rattle.sink.specs.Machine.{part}
use Rattle.direct.specs.Views.{object_at, object_rest_at, property_at, array_at, array_rest_at, default_at}
use Rattle.direct.specs.Declared.{declaration_at}
use Rattle.direct.specs.Assigned.{assignment_at}
use Rattle.direct.specs.Moved.{given, function_fields, arrow_fields, catch_fields, for_fields}
use Rattle.direct.proofs.HeadShapes.{FitGiven, function_fits, catch_fits, function_body_kind, param_kind, catch_body_kind, fields_in}
use Rattle.walk.specs.Whole.{GoodItems, GoodList, GoodField, GoodSlot, GoodFields, Good}
use Rattle.walk.proofs.CutBytes.{part_cut}

-- what is read without holes has none
pub look_solid : (t : List ℕ) (R : ℕ → Seen Node) (n at : ℕ) → NoHoles (look_items t R false n at).value
unfolding look_items look_item NoHoles
look_solid t R zero at = tt
look_solid t R (suc n) at = look_solid t R n (R at).next

-- ---- bytes that stand from a position on

drop_take : (i n : ℕ) (l : List ℕ) → drop i (take n l) ≡ take (n - i) (drop i l)
drop_take zero n l = let e : n - 0 ≡ n = omega arith in rw e refl
drop_take (suc i) zero l = let e : 0 - suc i ≡ 0 = omega arith in rw e refl
drop_take (suc i) (suc n) [] = sym (take-nil (suc n - suc i))
drop_take (suc i) (suc n) (x ∷ l) = let e : suc n - suc i ≡ n - i = omega arith in rw e (drop_take i n l)

-- and two more, where its first field is a node
encode_four : (at k : ℕ) (n : Node) (fs : Fields) → 4 ≤ length (encode (node at k (Fields.field (Piece.one n) fs)))
unfolding encode encode_fields encode_piece
encode_four at k n fs = omega (arith, node_long n, length-append (encode n) (encode_fields fs))

-- ---- bit maps

-- the fields that a list of them asks for have their bits, and no bit stands past the last
Mapped : List Field → ℕ → Type 0
Mapped [] m = m ≡ 0
Mapped (must s ∷ ts) m = (m % 2 ≡ 1) × Mapped ts (m / 2)
Mapped (may s ∷ ts) m = Mapped ts (m / 2)

field_mapped : (f : Field) (ts : List Field) (m : ℕ) → m % 2 ≡ 1 → Mapped ts (m / 2) → Mapped (f ∷ ts) m
unfolding Mapped
field_mapped (must s) ts m a b = (a, b)
field_mapped (may s) ts m a b = b

mapped : {b : ℕ} {ts : List Field} {fs : Fields} → FitFields input b ts fs → Mapped ts (map_of fs)
unfolding Mapped map_of
mapped FitFields.done = refl
mapped (FitFields.absent {ts = ts} {fs = fs} r) =
    let e : 2 * map_of fs / 2 ≡ map_of fs = omega arith in
    subst (λ (x : ℕ). Mapped ts x) (sym e) (mapped r)
mapped (FitFields.field {f = f} {ts = ts} {fs = fs} x r) =
    let e : (1 + 2 * map_of fs) / 2 ≡ map_of fs = omega arith in
    field_mapped f ts (1 + 2 * map_of fs) (omega arith) (subst (λ (x : ℕ). Mapped ts x) (sym e) (mapped r))

-- forms of one kind ask for the same
variant_mapped : (n m : ℕ) → Mapped (get_or variants n []) m → Mapped (fields_of (get_or (14 ∷ 14 ∷ 34 ∷ 35 ∷ 36 ∷ 37 ∷ []) n 0)) m
unfolding Mapped fields_of kinds variants
variant_mapped zero m h = h
variant_mapped (suc zero) m h = h
variant_mapped (suc (suc zero)) m h = h
variant_mapped (suc (suc (suc zero))) m h = h
variant_mapped (suc (suc (suc (suc zero)))) m h = h
variant_mapped (suc (suc (suc (suc (suc zero))))) m h = h
variant_mapped (suc (suc (suc (suc (suc (suc n)))))) m h = h

form_mapped : (f m : ℕ) → Mapped (fields_of f) m → Mapped (fields_of (kind_of f)) m
unfolding fields_of kind_of
form_mapped f m h = elim (dec_lt f 64) [
  | yes e ↦ let h' : Mapped (get_or kinds f []) m = rw (lt-ltb f 64 e) at h in rw (lt-ltb f 64 e, lt-ltb f 64 e) h'
  | no e ↦ let h' : Mapped (get_or variants (f - 64) []) m = rw (le-ltb f 64 (omega arith)) at h in rw (le-ltb f 64 (omega arith)) (variant_mapped (f - 64) m h')
]

fits_mapped : {p at k : ℕ} {fs : Fields} → Fits input p (node at k fs) → Mapped (fields_of k) (map_of fs)
fits_mapped (Fits.fits {p = p} {k = k} {fs = fs} h r) =
    subst (λ (x : ℕ). Mapped (fields_of x) (map_of fs)) (kind_at input p k h) (form_mapped (form_at input p k) (map_of fs) (mapped r))

-- a bit map whose first field stands, and whose second may
one_or_three : (m : ℕ) → m % 2 ≡ 1 → m / 2 / 2 ≡ 0 → m ≡ cond (eqb (m / 2 % 2) 1) 3 1
one_or_three m a b =
    by_test (eqb (m / 2 % 2) 1)
    (λ e. let z : m / 2 % 2 ≡ 1 = eqb-true (m / 2 % 2) 1 e in rw e (omega arith))
    (λ e. rw e (omega (arith, eqb-false (m / 2 % 2) 1 e)))

-- whose second field stands, and whose first may
two_or_three : (m : ℕ) → m / 2 % 2 ≡ 1 → m / 2 / 2 ≡ 0 → m ≡ cond (eqb (m % 2) 1) 3 2
two_or_three m a b =
    by_test (eqb (m % 2) 1)
    (λ e. let z : m % 2 ≡ 1 = eqb-true (m % 2) 1 e in rw e (omega arith))
    (λ e. rw e (omega (arith, eqb-false (m % 2) 1 e)))

even : (m : ℕ) → eqb (m % 2) 1 ≡ false → m % 2 ≡ 0
even m e = omega (arith, eqb-false (m % 2) 1 e)

-- bits 2, 4 and 5, as the fields are gone through
halved_2 : (m : ℕ) → m / 4 ≡ m / 2 / 2
halved_2 m = omega arith

halved_4 : (m : ℕ) → m / 16 ≡ m / 2 / 2 / 2 / 2
halved_4 m = let e : m / 16 ≡ m / 4 / 4 = omega arith in e ∙ ap (λ (x : ℕ). x / 4) (halved_2 m) ∙ halved_2 (m / 2 / 2)

halved_5 : (m : ℕ) → m / 32 ≡ m / 2 / 2 / 2 / 2 / 2
halved_5 m = let e : m / 32 ≡ m / 16 / 2 = omega arith in e ∙ ap (λ (x : ℕ). x / 2) (halved_4 m)

-- the bit map of a Function with a body, by whether its name and its rest stand
abbrev function_map : Bool → Bool → ℕ
function_map n r = cond n (cond r 63 47) (cond r 59 43)

function_map_lem : (m : ℕ) → m % 2 ≡ 1 → m / 2 % 2 ≡ 1 → m / 2 / 2 / 2 % 2 ≡ 1 → m / 2 / 2 / 2 / 2 / 2 / 2 ≡ 0 → eqb (m / 32 % 2) 1 ≡ true → m ≡ function_map (eqb (m / 4 % 2) 1) (eqb (m / 16 % 2) 1)
function_map_lem m a b c d e =
    let f : m / 2 / 2 / 2 / 2 / 2 % 2 ≡ 1 = ap (λ (x : ℕ). x % 2) (sym (halved_5 m)) ∙ eqb-true (m / 32 % 2) 1 e in
    by_test (eqb (m / 4 % 2) 1)
    (λ x.
    let u : m / 2 / 2 % 2 ≡ 1 = ap (λ (x : ℕ). x % 2) (sym (halved_2 m)) ∙ eqb-true (m / 4 % 2) 1 x in
    by_test (eqb (m / 16 % 2) 1)
    (λ y. let v : m / 2 / 2 / 2 / 2 % 2 ≡ 1 = ap (λ (x : ℕ). x % 2) (sym (halved_4 m)) ∙ eqb-true (m / 16 % 2) 1 y in rw (x, y) (omega arith))
    (λ y. let v : m / 2 / 2 / 2 / 2 % 2 ≡ 0 = ap (λ (x : ℕ). x % 2) (sym (halved_4 m)) ∙ even (m / 16) y in rw (x, y) (omega arith)))
    (λ x.
    let u : m / 2 / 2 % 2 ≡ 0 = ap (λ (x : ℕ). x % 2) (sym (halved_2 m)) ∙ even (m / 4) x in
    by_test (eqb (m / 16 % 2) 1)
    (λ y. let v : m / 2 / 2 / 2 / 2 % 2 ≡ 1 = ap (λ (x : ℕ). x % 2) (sym (halved_4 m)) ∙ eqb-true (m / 16 % 2) 1 y in rw (x, y) (omega arith))
    (λ y. let v : m / 2 / 2 / 2 / 2 % 2 ≡ 0 = ap (λ (x : ℕ). x % 2) (sym (halved_4 m)) ∙ even (m / 16) y in rw (x, y) (omega arith)))

-- of an Arrow, by whether its rest stands
arrow_map : (m : ℕ) → m % 2 ≡ 1 → m / 2 / 2 % 2 ≡ 1 → m / 2 / 2 / 2 ≡ 0 → m ≡ cond (eqb (m / 2 % 2) 1) 7 5
arrow_map m a b c =
    by_test (eqb (m / 2 % 2) 1)
    (λ x. let u : m / 2 % 2 ≡ 1 = eqb-true (m / 2 % 2) 1 x in rw x (omega arith))
    (λ x. let u : m / 2 % 2 ≡ 0 = omega (arith, eqb-false (m / 2 % 2) 1 x) in rw x (omega arith))

-- of a ForOf, by whether its await stands
loop_map : (m : ℕ) → m % 2 ≡ 1 → m / 2 % 2 ≡ 1 → m / 2 / 2 % 2 ≡ 1 → m / 2 / 2 / 2 % 2 ≡ 1 → m / 2 / 2 / 2 / 2 / 2 ≡ 0 → m ≡ cond (eqb (m / 16) 1) 31 15
loop_map m a b c d e =
    by_test (eqb (m / 16) 1)
    (λ x. let u : m / 16 ≡ 1 = eqb-true (m / 16) 1 x in rw x (omega arith))
    (λ x. rw x (omega (arith, eqb-false (m / 16) 1 x)))

-- ---- what is known of the parts

-- by the grammar
fits_known : {p at k : ℕ} {fs : Fields} → Fits input p (node at k fs) → Known k fs
fits_known (Fits.fits {p = p} {at = at} {k = k} {fs = fs} h r) = known p at k fs h r

leaf_shape : (n : Node) → leaf_kind (kind n) ≡ true → shape n ≡ leaf
unfolding shape
leaf_shape n h = go (eqb (kind n) 34) (eqb (kind n) 36) (eqb (kind n) 37) h
  where
    go : (a b c : Bool) → not (a || (b || c)) ≡ true → cond a Shape.object_pattern (cond b Shape.array_pattern (cond c Shape.default leaf)) ≡ leaf
    go true b c e = absurd (false≢true e)
    go false true c e = absurd (false≢true e)
    go false false true e = absurd (false≢true e)
    go false false false e = refl

-- the kind of each item, the test turned round
all_of : (k : ℕ) (ns : Items) → AllItems (λ n. eqb k (kind n) ≡ true) ns → AllItems (λ n. is k n ≡ true) ns
unfolding is
all_of k ns h = weaker_items (λ n. eqb k (kind n) ≡ true) (λ n. eqb (kind n) k ≡ true) (λ n e. eq-eqb (kind n) k (sym (eqb-true k (kind n) e))) ns h

-- a byte that stands first
byte_fits : {b low high v : ℕ} → FitPiece input b (Sort.byte low high) (Piece.byte v) → v < 256
byte_fits (FitPiece.byte l h s) = s

first_byte : {b low high v : ℕ} {ts : List Field} {fs : Fields} → FitFields input b (must (Sort.byte low high) ∷ ts) (Fields.field (Piece.byte v) fs) → v < 256
first_byte (FitFields.field h r) = byte_fits h

-- a node that may be absent, and the fields behind it
past_given : (o : Option Node) (fs : Fields) (i : ℕ) → piece_in (given o fs) (suc i) ≡ piece_in fs i
unfolding piece_in
past_given Option.none fs i = refl
past_given (Option.some n) fs i = refl

given_fits : (p : ℕ) (o : Option Node) (fs : Fields) (n : Node) → Piece.one n ≡ piece_in (given o fs) 0 → FitGiven p o → Fits input p n
unfolding piece_in
given_fits p Option.none fs n e f = let z : ◌≡◌ {A = ℕ} 0 1 = cc in absurd (omega arith)
given_fits p (Option.some m) fs n e f = subst (λ (x : Node). Fits input p x) (sym (ap as_node e)) f

-- the kinds of bodies and params
body_16 : (n : Node) → Fits input 8 n → is 16 n ≡ true
unfolding is
body_16 (node at k fs) f = eq-eqb k 16 (function_body_kind f)

param_15 : (n : Node) → Fits input 7 n → is 15 n ≡ true
unfolding is
param_15 (node at k fs) f = eq-eqb k 15 (param_kind f)

block_2 : (n : Node) → Fits input 5 n → is 2 n ≡ true
unfolding is
block_2 (node at k fs) f = eq-eqb k 2 (catch_body_kind f)

function_body_lem : (p at m s : ℕ) (o r : Option Node) (qs : Items) (b : Node) → Fits input p (node at 14 (function_fields m s o qs r b)) → is 16 b ≡ true
unfolding piece_in
function_body_lem p at m s o r qs b f =
    let w = function_fits f in
    let left : piece_in (function_fields m s o qs r b) 5 ≡ Piece.one b = past_given o (Fields.field (Piece.list qs) (given r (Fields.field (Piece.one b) Fields.done))) 2 ∙ past_given r (Fields.field (Piece.one b) Fields.done) 0 in
    let right : piece_in (Fields.field (Piece.mark w.mark) (Fields.field (Piece.byte w.sort) (given w.name (Fields.field (Piece.list w.params) (given w.rest (given w.body Fields.done)))))) 5 ≡ piece_in (given w.body Fields.done) 0 =
    past_given w.name (Fields.field (Piece.list w.params) (given w.rest (given w.body Fields.done))) 2 ∙ past_given w.rest (given w.body Fields.done) 0 in
    body_16 b (given_fits 8 w.body Fields.done b (sym left ∙ ap (λ (fs : Fields). piece_in fs 5) w.fields ∙ right) w.body_fits)

catch_param : {p at : ℕ} {q b : Node} → Fits input p (node at 10 (catch_fields q b)) → is 15 q ≡ true
unfolding piece_in
catch_param {q = q} {b = b} f =
    let w = catch_fits f in
    param_15 q (given_fits 7 w.param (Fields.field (Piece.one w.body) Fields.done) q (ap (λ (fs : Fields). piece_in fs 0) w.fields) w.param_fits)

catch_body : {p at : ℕ} {q b : Node} → Fits input p (node at 10 (catch_fields q b)) → is 2 b ≡ true
unfolding piece_in
catch_body {q = q} {b = b} f =
    let w = catch_fits f in
    let e : Piece.one b ≡ Piece.one w.body = ap (λ (fs : Fields). piece_in fs 1) w.fields ∙ past_given w.param (Fields.field (Piece.one w.body) Fields.done) 0 in
    block_2 b (subst (λ (x : Node). Fits input 5 x) (sym (ap as_node e)) w.body_fits)

module _ (t : List ℕ) where
  -- ---- positions

  pub on_on : (at m n : ℕ) → onward t (onward t at m) n ≡ onward t at (m + n)
  unfolding onward
  on_on at m n =
      by_test (leb (at + m) (length t))
      (λ e. rw e (ap (λ (x : ℕ). cond (leb x (length t)) x (length t)) (omega arith)))
      (λ e.
      let f : length t < at + m = leb-false (at + m) (length t) e in
      let a : leb (at + (m + n)) (length t) ≡ false = lt-leb (at + (m + n)) (length t) (omega arith) in
      rw (e, a)
      (by_test (leb (length t + n) (length t))
      (λ b. let z : length t + n ≤ length t = leb-true (length t + n) (length t) b in rw b (omega arith))
      (λ b. rw b refl)))

  -- bytes that stand from a position on, with others behind them
  pub record Front (at : ℕ) (bs : List ℕ) : Type 0 where
    pub more : List ℕ
    pub cut : drop at t ≡ bs ++ more

  front_room : (at : ℕ) (xs zs : List ℕ) → drop at t ≡ xs ++ zs → 0 < length xs → at + length xs ≤ length t
  front_room at xs zs e h =
      let n : length t - at ≡ length xs + length zs = sym (length-drop at t) ∙ ap length e ∙ length-append xs zs in
      omega arith

  front_part : (at : ℕ) (xs zs : List ℕ) → drop at t ≡ xs ++ zs → 0 < length xs → part at (onward t at (length xs)) t ≡ xs
  front_part at xs zs e h = ap (λ (x : ℕ). part at x t) (on_fits t at (length xs) (front_room at xs zs e h)) ∙ part_cut t at xs zs e

  part_front : (at q : ℕ) (bs : List ℕ) → part at q t ≡ bs → Front at bs
  unfolding part
  part_front at q bs e = record {
    more = drop (q - at) (drop at t);
    cut = sym (take-append-drop (q - at) (drop at t)) ∙ ap (λ (xs : List ℕ). xs ++ drop (q - at) (drop at t)) (sym (drop_take at q t) ∙ e);
  }

  -- ---- any good node

  pub no_good : (at : ℕ) {A : Type 0} → Good t 0 at → A
  unfolding Good
  no_good at g = absurd g

  pub kind_here : (d at : ℕ) → kind (look_node t (suc d) at).value ≡ byte_at t at
  unfolding look_node
  kind_here d at = refl

  pub is_here : (d at k : ℕ) → is k (look_node t (suc d) at).value ≡ eqb (byte_at t at) k
  unfolding look_node is
  is_here d at k = refl

  pub kind_byte : (d at k : ℕ) → Good t d at → is k (look_node t d at).value ≡ true → byte_at t at ≡ k
  kind_byte zero at k g e = no_good at g
  kind_byte (suc d) at k g e = eqb-true (byte_at t at) k (sym (is_here d at k) ∙ e)

  pub position_here : (d at : ℕ) → position (look_node t d at).value ≡ at
  unfolding look_node
  position_here zero at = refl
  position_here (suc d) at = refl

  pub good_copied : (d at : ℕ) → Good t d at → part at (look_node t d at).next t ≡ encode (look_node t d at).value
  unfolding Good look_node
  good_copied zero at g = absurd g
  good_copied (suc d) at g = ap (λ (x : ℕ). part at x t) g.noted ∙ g.bytes

  -- it ends within the longest tree
  pub good_end : (d at : ℕ) → Good t d at → at + length (encode (look_node t d at).value) ≤ 16384
  unfolding Good look_node
  good_end zero at g = absurd g
  good_end (suc d) at g = g.limit

  pub good_short : (d at : ℕ) → Good t d at → length (encode (look_node t d at).value) ≤ 16384
  good_short d at g = omega (arith, good_end d at g)

  pub good_fits : (d at : ℕ) → Good t d at → (p : ℕ) × Fits input p (look_node t d at).value
  unfolding Good look_node
  good_fits zero at g = absurd g
  good_fits (suc d) at g = (g.place, g.fits)

  -- its bytes from its position on
  pub good_front : (d at : ℕ) → Good t d at → Front at (encode (look_node t d at).value)
  good_front d at g = part_front at (look_node t d at).next (encode (look_node t d at).value) (good_copied d at g)

  -- it stands in the tree as a whole
  pub good_room : (d at : ℕ) → Good t d at → at + length (encode (look_node t d at).value) ≤ length t
  good_room d at g =
      let f : Front at (encode (look_node t d at).value) = good_front d at g in
      let n : 2 ≤ length (encode (look_node t d at).value) = node_long (look_node t d at).value in
      front_room at (encode (look_node t d at).value) f.more f.cut (omega arith)

  -- and ends where its bytes do
  pub good_next : (d at : ℕ) → Good t d at → (look_node t d at).next ≡ at + length (encode (look_node t d at).value)
  unfolding Good look_node
  good_next zero at g = absurd g
  good_next (suc d) at g = g.stop

  pub good_within : (d at : ℕ) → Good t d at → at + 2 ≤ 16384
  good_within d at g = omega (arith, good_end d at g, node_long (look_node t d at).value)

  pub good_two : (d at : ℕ) → Good t d at → onward t at 2 ≡ at + 2
  good_two d at g = let r : at + 2 ≤ length t = omega (arith, good_room d at g, node_long (look_node t d at).value) in on_fits t at 2 r

  pub good_one : (d at : ℕ) → Good t d at → onward t at 1 ≡ at + 1
  good_one d at g = let r : at + 1 ≤ length t = omega (arith, good_room d at g, node_long (look_node t d at).value) in on_fits t at 1 r

  pub end_as : (d at : ℕ) (n : Node) → (look_node t d at).value ≡ n → Good t d at → at + length (encode n) ≤ 16384
  end_as d at n e g = subst (λ (x : Node). at + length (encode x) ≤ 16384) e (good_end d at g)

module _ (t : List ℕ) (d at : ℕ) where
  -- ---- a good node of kind k with the bit map m

  -- the bit map says which fields stand
  map_here : Good t (suc d) at → byte_at t (onward t at 1) ≡ map_of (look_fields t (λ q. look_node t d q) (fields_of (byte_at t at)) (byte_at t (onward t at 1)) (onward t at 2)).value
  unfolding look_node encode byte_at
  map_here g =
      let f = good_front t (suc d) at g in
      ap (λ (x : ℕ). get_or t x 256) (good_one t (suc d) at g) ∙ sym (get_or-drop at t 1 256) ∙ ap (λ (xs : List ℕ). get_or xs 1 256) f.cut

  bits_here : (k : ℕ) → Good t (suc d) at → byte_at t at ≡ k → Mapped (fields_of k) (byte_at t (onward t at 1))
  unfolding Good
  bits_here k g e =
      subst (λ (x : ℕ). Mapped (fields_of x) (byte_at t (onward t at 1))) e
      (subst (λ (x : ℕ). Mapped (fields_of (byte_at t at)) x) (sym (map_here g)) (fits_mapped g.fits))

  module _ (k m : ℕ) (e : byte_at t at ≡ k) (f : byte_at t (onward t at 1) ≡ m) where
    -- what is seen of its fields
    abbrev fields_seen : Seen Fields
    fields_seen = look_fields t (λ q. look_node t d q) (fields_of k) m (onward t at 2)

    node_as : Good t (suc d) at → look_node t (suc d) at ≡ seen_as (node at k) fields_seen
    unfolding look_node Good
    node_as g =
        ap (λ (x : ℕ). seen (node at (byte_at t at) (look_fields t (λ q. look_node t d q) (fields_of (byte_at t at)) (byte_at t (onward t at 1)) (onward t at 2)).value) x) g.noted
        ∙ ap₂ (λ (x y : ℕ). seen_as (node at x) (look_fields t (λ q. look_node t d q) (fields_of x) y (onward t at 2))) e f

    below_as : Good t (suc d) at → GoodFields t (λ q. look_node t d q) (λ q. Good t d q) (is_container k) (fields_of k) m (onward t at 2)
    unfolding Good
    below_as g = rw (← e, ← f) g.below

    fits_as : (g : Good t (suc d) at) → (p : ℕ) × Fits input p (node at k fields_seen.value)
    fits_as g = let w = good_fits t (suc d) at g in (w.0, subst (λ (x : Seen Node). Fits input w.0 x.value) (node_as g) w.1)

    known_as : Good t (suc d) at → Known k fields_seen.value
    known_as g = fits_known (fits_as g).1

  -- where the node is known: its bytes, that it fits, its bit map
  pub front_as : (n : Node) → (look_node t (suc d) at).value ≡ n → Good t (suc d) at → Front t at (encode n)
  front_as n e g = subst (λ (x : Node). Front t at (encode x)) e (good_front t (suc d) at g)

  pub value_fits : (k : ℕ) (fs : Fields) → (look_node t (suc d) at).value ≡ node at k fs → Good t (suc d) at → (p : ℕ) × Fits input p (node at k fs)
  value_fits k fs e g = let w = good_fits t (suc d) at g in (w.0, subst (λ (x : Node). Fits input w.0 x) e w.1)

  pub value_known : (k : ℕ) (fs : Fields) → (look_node t (suc d) at).value ≡ node at k fs → Good t (suc d) at → Known k fs
  value_known k fs e g = fits_known (value_fits k fs e g).1

  pub value_map : (k : ℕ) (fs : Fields) → (look_node t (suc d) at).value ≡ node at k fs → Good t (suc d) at → byte_at t (onward t at 1) ≡ map_of fs
  unfolding encode byte_at
  value_map k fs e g =
      let f = front_as (node at k fs) e g in
      ap (λ (x : ℕ). get_or t x 256) (good_one t (suc d) at g) ∙ sym (get_or-drop at t 1 256) ∙ ap (λ (xs : List ℕ). get_or xs 1 256) f.cut

module _ (t : List ℕ) (d at : ℕ) where
  -- the bits of the bit map
  abbrev pub bit1 : Bool
  bit1 = eqb (byte_at t (onward t at 1) % 2) 1

  abbrev pub bit2 : Bool
  bit2 = eqb (byte_at t (onward t at 1) / 2 % 2) 1

  -- a list whose count stands at q: of a container if l, with holes if h
  pub record ListOpen (l h : Bool) (q : ℕ) : Type 0 where
    pub next2 : onward t q 2 ≡ q + 2
    pub small : wide_at t q < 65536
    pub head : part q (onward t q 2) t ≡ wide_bytes (wide_at t q)
    pub many : count (look_items t (look_node t d) h (wide_at t q) (onward t q 2)).value ≡ wide_at t q
    pub good : GoodItems t (look_node t d) (Good t d) l h (wide_at t q) (onward t q 2)

  abbrev pub items_from : Bool → ℕ → Seen Items
  items_from h q = look_items t (look_node t d) h (wide_at t q) (onward t q 2)

  -- 34 ObjectPattern(properties* rest?)
  pub record ObjectOpen : Type 0 where
    pub within : at + 4 ≤ 16384
    pub next2 : onward t at 2 ≡ at + 2
    pub head : part at (onward t (onward t at 2) 2) t ≡ 34 ∷ cond bit2 3 1 ∷ wide_bytes (wide_at t (onward t at 2))
    pub list : ListOpen false false (onward t at 2)
    pub properties : AllItems (λ q. is 35 q ≡ true) (items_from false (onward t at 2)).value
    pub plain : bit2 ≡ false → look_node t (suc d) at ≡ seen (object_at at (items_from false (onward t at 2)).value) (items_from false (onward t at 2)).next
    pub resting : bit2 ≡ true
        → look_node t (suc d) at
        ≡ seen (object_rest_at at (items_from false (onward t at 2)).value (look_node t d (items_from false (onward t at 2)).next).value) (look_node t d (items_from false (onward t at 2)).next).next
    pub rest : bit2 ≡ true → Good t d (items_from false (onward t at 2)).next
    pub leafy : bit2 ≡ true → shape (look_node t d (items_from false (onward t at 2)).next).value ≡ leaf

  -- 36 ArrayPattern(items* rest?)
  pub record ArrayOpen : Type 0 where
    pub next2 : onward t at 2 ≡ at + 2
    pub list : ListOpen false true (onward t at 2)
    pub head : part at (onward t (onward t at 2) 2) t ≡ 36 ∷ cond bit2 3 1 ∷ wide_bytes (wide_at t (onward t at 2))
    pub plain : bit2 ≡ false → look_node t (suc d) at ≡ seen (array_at at (items_from true (onward t at 2)).value) (items_from true (onward t at 2)).next
    pub resting : bit2 ≡ true
        → look_node t (suc d) at
        ≡ seen (array_rest_at at (items_from true (onward t at 2)).value (look_node t d (items_from true (onward t at 2)).next).value) (look_node t d (items_from true (onward t at 2)).next).next
    pub rest : bit2 ≡ true → Good t d (items_from true (onward t at 2)).next

  -- 35 PatternProperty(key value flags=)
  abbrev pub key_place : ℕ
  key_place = onward t at 2

  abbrev pub value_place : ℕ
  value_place = (look_node t d (onward t at 2)).next

  abbrev pub flags_place : ℕ
  flags_place = (look_node t d (look_node t d (onward t at 2)).next).next

  pub record PropertyOpen : Type 0 where
    pub head : part at (onward t at 2) t ≡ 35 ∷ 7 ∷ []
    pub whole : look_node t (suc d) at ≡ seen (property_at at (look_node t d key_place).value (look_node t d value_place).value (byte_at t flags_place)) (onward t flags_place 1)
    pub flags : part flags_place (onward t flags_place 1) t ≡ byte_at t flags_place ∷ []
    pub key : Good t d key_place
    pub value : Good t d value_place

  -- 37 Default(left right)
  pub record DefaultOpen : Type 0 where
    pub head : part at (onward t at 2) t ≡ 37 ∷ 3 ∷ []
    pub whole : look_node t (suc d) at ≡ seen (default_at at (look_node t d key_place).value (look_node t d value_place).value) flags_place
    pub left : Good t d key_place
    pub right : Good t d value_place

  -- 5 Declarator(id init?), 15 Param(pattern default?): k is 5 or 15
  pub record BinderOpen (k : ℕ) : Type 0 where
    pub within : at + 4 ≤ 16384
    pub head : part at (onward t at 2) t ≡ k ∷ cond bit2 3 1 ∷ []
    pub bare : bit2 ≡ false → look_node t (suc d) at ≡ seen (node at k (Fields.field (Piece.one (look_node t d key_place).value) (Fields.absent Fields.done))) value_place
    pub valued : bit2 ≡ true
        → look_node t (suc d) at ≡ seen (node at k (Fields.field (Piece.one (look_node t d key_place).value) (Fields.field (Piece.one (look_node t d value_place).value) Fields.done))) flags_place
    pub pattern : Good t d key_place
    pub value : bit2 ≡ true → Good t d value_place

  -- 4 Declaration(# kind= declarators*)
  pub record DeclarationOpen : Type 0 where
    pub head : part at (onward t at 5) t ≡ 4 ∷ 7 ∷ wide_bytes (wide_at t (onward t at 2)) ++ (byte_at t (onward t at 4) ∷ [])
    pub marked : 0 < wide_at t (onward t at 2)
    pub list : ListOpen false false (onward t at 5)
    pub declarators : AllItems (λ q. is 5 q ≡ true) (items_from false (onward t at 5)).value
    pub whole : look_node t (suc d) at
        ≡ seen (declaration_at at (wide_at t (onward t at 2)) (byte_at t (onward t at 4)) (items_from false (onward t at 5)).value) (items_from false (onward t at 5)).next

  -- 27 Assignment(op= left right)
  abbrev pub target_place : ℕ
  target_place = onward t at 3

  abbrev pub assigned_place : ℕ
  assigned_place = (look_node t d (onward t at 3)).next

  pub record AssignmentOpen : Type 0 where
    pub head : part at (onward t at 3) t ≡ 27 ∷ 7 ∷ byte_at t (onward t at 2) ∷ []
    pub op : byte_at t (onward t at 2) < 256
    pub whole : look_node t (suc d) at
        ≡ seen (assignment_at at (byte_at t (onward t at 2)) (look_node t d target_place).value (look_node t d assigned_place).value) (look_node t d assigned_place).next
    pub target : Good t d target_place
    pub value : Good t d assigned_place

  -- 2 Block(# body*)
  pub record BlockOpen : Type 0 where
    pub head : part at (onward t at 4) t ≡ 2 ∷ 3 ∷ wide_bytes (wide_at t (onward t at 2))
    pub marked : 0 < wide_at t (onward t at 2)
    pub list : ListOpen true false (onward t at 4)
    pub whole : look_node t (suc d) at
        ≡ seen (node at 2 (Fields.field (Piece.mark (wide_at t (onward t at 2))) (Fields.field (Piece.list (items_from false (onward t at 4)).value) Fields.done))) (items_from false (onward t at 4)).next

  -- 16 FunctionBody(directives*? body*)
  abbrev pub body_place : ℕ
  body_place = cond bit1 (items_from false (onward t at 2)).next (onward t at 2)

  pub record BodyOpen : Type 0 where
    pub head : part at (onward t at 2) t ≡ 16 ∷ cond bit1 3 2 ∷ []
    pub directives : bit1 ≡ true → ListOpen true false (onward t at 2)
    pub list : ListOpen true false body_place
    pub bare : bit1 ≡ false → look_node t (suc d) at ≡ seen (node at 16 (Fields.absent (Fields.field (Piece.list (items_from false body_place).value) Fields.done))) (items_from false body_place).next
    pub directed : bit1 ≡ true
        → look_node t (suc d) at
        ≡ seen (node at 16 (Fields.field (Piece.list (items_from false (onward t at 2)).value) (Fields.field (Piece.list (items_from false body_place).value) Fields.done))) (items_from false body_place).next

  -- a node that stands by a bit: the end of it, and the node
  abbrev pub end_if : Bool → ℕ → ℕ
  end_if b q = cond b (look_node t d q).next q

  abbrev pub given_if : Bool → ℕ → Option Node
  given_if true q = Option.some (look_node t d q).value
  given_if false q = Option.none

  -- 14 Function(# sort= name? params* rest? body?), with a body
  abbrev pub named_bit : Bool
  named_bit = eqb (byte_at t (onward t at 1) / 4 % 2) 1

  abbrev pub function_rest_bit : Bool
  function_rest_bit = eqb (byte_at t (onward t at 1) / 16 % 2) 1

  abbrev pub params_place : ℕ
  params_place = end_if named_bit (onward t at 5)

  abbrev pub function_body_place : ℕ
  function_body_place = end_if function_rest_bit (items_from false params_place).next

  pub record FunctionOpen : Type 0 where
    pub head : part at (onward t at 5) t ≡ 14 ∷ byte_at t (onward t at 1) ∷ wide_bytes (wide_at t (onward t at 2)) ++ (byte_at t (onward t at 4) ∷ [])
    pub marked : 0 < wide_at t (onward t at 2)
    pub name : named_bit ≡ true → Good t d (onward t at 5)
    pub list : ListOpen false false params_place
    pub params : AllItems (λ q. is 15 q ≡ true) (items_from false params_place).value
    pub rest : function_rest_bit ≡ true → Good t d (items_from false params_place).next
    pub body : Good t d function_body_place
    pub kind16 : is 16 (look_node t d function_body_place).value ≡ true
    pub map : byte_at t (onward t at 1)
        ≡ map_of (function_fields (wide_at t (onward t at 2)) (byte_at t (onward t at 4)) (given_if named_bit (onward t at 5)) (items_from false params_place).value (given_if function_rest_bit (items_from false params_place).next) (look_node t d function_body_place).value)
    pub whole : look_node t (suc d) at
        ≡ seen (node at 14 (function_fields (wide_at t (onward t at 2)) (byte_at t (onward t at 4)) (given_if named_bit (onward t at 5)) (items_from false params_place).value (given_if function_rest_bit (items_from false params_place).next) (look_node t d function_body_place).value))
        (look_node t d function_body_place).next

  -- 17 Arrow(params* rest? body)
  abbrev pub arrow_body_place : ℕ
  arrow_body_place = end_if bit2 (items_from false (onward t at 2)).next

  pub record ArrowOpen : Type 0 where
    pub head : part at (onward t at 2) t ≡ 17 ∷ byte_at t (onward t at 1) ∷ []
    pub list : ListOpen false false (onward t at 2)
    pub params : AllItems (λ q. is 15 q ≡ true) (items_from false (onward t at 2)).value
    pub rest : bit2 ≡ true → Good t d (items_from false (onward t at 2)).next
    pub body : Good t d arrow_body_place
    pub map : byte_at t (onward t at 1)
        ≡ map_of (arrow_fields (items_from false (onward t at 2)).value (given_if bit2 (items_from false (onward t at 2)).next) (look_node t d arrow_body_place).value)
    pub whole : look_node t (suc d) at
        ≡ seen (node at 17 (arrow_fields (items_from false (onward t at 2)).value (given_if bit2 (items_from false (onward t at 2)).next) (look_node t d arrow_body_place).value)) (look_node t d arrow_body_place).next

  -- 10 Catch(param? body), with a param
  pub record CatchOpen : Type 0 where
    pub head : part at (onward t at 2) t ≡ 10 ∷ 3 ∷ []
    pub param : Good t d key_place
    pub kind15 : is 15 (look_node t d key_place).value ≡ true
    pub body : Good t d value_place
    pub kind2 : is 2 (look_node t d value_place).value ≡ true
    pub whole : look_node t (suc d) at ≡ seen (node at 10 (Fields.field (Piece.one (look_node t d key_place).value) (Fields.field (Piece.one (look_node t d value_place).value) Fields.done))) flags_place

  -- 7 ForIn(# left right body), 8 ForOf(# left right body await=?): k is 7 or 8
  abbrev pub left_place : ℕ
  left_place = onward t at 4

  abbrev pub right_place : ℕ
  right_place = (look_node t d (onward t at 4)).next

  abbrev pub loop_place : ℕ
  loop_place = (look_node t d (look_node t d (onward t at 4)).next).next

  abbrev pub await_place : ℕ
  await_place = (look_node t d (look_node t d (look_node t d (onward t at 4)).next).next).next

  pub record LoopOpen (k : ℕ) (awaited : Bool) : Type 0 where
    pub more : Fields
    pub head : part at (onward t at 4) t ≡ k ∷ byte_at t (onward t at 1) ∷ wide_bytes (wide_at t (onward t at 2))
    pub marked : 0 < wide_at t (onward t at 2)
    pub left : Good t d left_place
    pub right : Good t d right_place
    pub body : Good t d loop_place
    pub map : byte_at t (onward t at 1) ≡ map_of (for_fields (wide_at t (onward t at 2)) (look_node t d left_place).value (look_node t d right_place).value (look_node t d loop_place).value more)
    pub whole : (look_node t (suc d) at).value ≡ node at k (for_fields (wide_at t (onward t at 2)) (look_node t d left_place).value (look_node t d right_place).value (look_node t d loop_place).value more)
    pub plain : awaited ≡ false → more ≡ cond (eqb k 8) (Fields.absent Fields.done) Fields.done
    pub awaits : awaited ≡ true → more ≡ Fields.field (Piece.byte (byte_at t await_place)) Fields.done
    pub flag : awaited ≡ true → part await_place (onward t await_place 1) t ≡ byte_at t await_place ∷ []
    pub ends : (look_node t (suc d) at).next ≡ cond awaited (onward t await_place 1) await_place

  -- ---- each is there where a good node of its kind stands

  list_open : (l h : Bool) (q : ℕ) → Good t (suc d) at → GoodList t (λ q. look_node t d q) (λ q. Good t d q) l h q → ListOpen l h q
  list_open l h q g w =
      let c : count (look_items t (look_node t d) h (wide_at t q) (onward t q 2)).value ≡ wide_at t q = items_count t d h (wide_at t q) (onward t q 2) in
      let e : part q (onward t q 2) t ≡ wide_bytes (wide_at t q) = w.head ∙ ap (λ (x : ℕ). wide_bytes x) c in
      let f = part_front t q (onward t q 2) (wide_bytes (wide_at t q)) e in
      let room : q + 2 ≤ length t = front_room t q (wide_bytes (wide_at t q)) f.more f.cut (omega arith) in
      record { next2 = on_fits t q 2 room; small = w.small; head = e; many = c; good = w.items }

  bytes_head : (bs : List ℕ) → Front t at bs → 0 < length bs → part at (onward t at (length bs)) t ≡ bs
  bytes_head bs f h = front_part t at bs f.more f.cut h

  child_within : (k : ℕ) (n : Node) (fs : Fields) → (look_node t (suc d) at).value ≡ node at k (Fields.field (Piece.one n) fs) → Good t (suc d) at → at + 4 ≤ 16384
  child_within k n fs e g = omega (arith, encode_four at k n fs, end_as t (suc d) at (node at k (Fields.field (Piece.one n) fs)) e g)

  list_within : (k : ℕ) (is : Items) (fs : Fields) → (look_node t (suc d) at).value ≡ node at k (Fields.field (Piece.list is) fs) → Good t (suc d) at → at + 4 ≤ 16384
  unfolding encode encode_fields encode_piece
  list_within k is fs e g = omega (arith, end_as t (suc d) at (node at k (Fields.field (Piece.list is) fs)) e g)

  -- ---- 34 ObjectPattern(properties* rest?)

  module _ (g : Good t (suc d) at) (k : byte_at t at ≡ 34) where
    object_bits : byte_at t (onward t at 1) ≡ cond bit2 3 1
    unfolding Mapped fields_of kinds
    object_bits = let w : Mapped (fields_of 34) (byte_at t (onward t at 1)) = bits_here t d at 34 g k in one_or_three (byte_at t (onward t at 1)) w.0 w.1

    object_plain : bit2 ≡ false → byte_at t (onward t at 1) ≡ 1
    object_plain b = object_bits ∙ ap (λ (x : Bool). cond x 3 1) b

    object_resting : bit2 ≡ true → byte_at t (onward t at 1) ≡ 3
    object_resting b = object_bits ∙ ap (λ (x : Bool). cond x 3 1) b

    object_node : bit2 ≡ false → look_node t (suc d) at ≡ seen (object_at at (items_from false (onward t at 2)).value) (items_from false (onward t at 2)).next
    unfolding look_fields look_slot look_field fields_of kinds
    object_node b = node_as t d at 34 1 k (object_plain b) g

    object_rest_lem : bit2 ≡ true
        → look_node t (suc d) at
        ≡ seen (object_rest_at at (items_from false (onward t at 2)).value (look_node t d (items_from false (onward t at 2)).next).value) (look_node t d (items_from false (onward t at 2)).next).next
    unfolding look_fields look_slot look_field fields_of kinds
    object_rest_lem b = node_as t d at 34 3 k (object_resting b) g

    object_list : GoodList t (λ q. look_node t d q) (λ q. Good t d q) false false (onward t at 2)
    unfolding GoodFields GoodSlot GoodField fields_of kinds is_container
    object_list =
        by_test bit2
        (λ b. (below_as t d at 34 3 k (object_resting b) g).0)
        (λ b. (below_as t d at 34 1 k (object_plain b) g).0)

    object_good : bit2 ≡ true → Good t d (items_from false (onward t at 2)).next
    unfolding GoodFields GoodSlot GoodField look_slot look_field fields_of kinds is_container
    object_good b = (below_as t d at 34 3 k (object_resting b) g).1.0

    object_properties : AllItems (λ n. is 35 n ≡ true) (items_from false (onward t at 2)).value
    unfolding look_fields look_slot look_field fields_of kinds piece_in
    object_properties =
        all_of 35 (items_from false (onward t at 2)).value
        (by_test bit2
        (λ b. (known_as t d at 34 3 k (object_resting b) g).properties refl)
        (λ b. (known_as t d at 34 1 k (object_plain b) g).properties refl))

    object_leaf : bit2 ≡ true → shape (look_node t d (items_from false (onward t at 2)).next).value ≡ leaf
    unfolding look_fields look_slot look_field fields_of kinds piece_in
    object_leaf b = leaf_shape (look_node t d (items_from false (onward t at 2)).next).value ((known_as t d at 34 3 k (object_resting b) g).rest refl)

    object_front : Front t at (34 ∷ cond bit2 3 1 ∷ wide_bytes (wide_at t (onward t at 2)))
    unfolding encode encode_fields encode_piece map_of
    object_front =
        let n : ℕ = wide_at t (onward t at 2) in
        let c : count (items_from false (onward t at 2)).value ≡ n = items_count t d false n (onward t (onward t at 2) 2) in
        by_test bit2
        (λ b. let f = front_as t d at (object_rest_at at _ _) (ap (λ (s : Seen Node). s.value) (object_rest_lem b)) g in rw (b, ← c) (record { more = _; cut = f.cut }))
        (λ b. let f = front_as t d at (object_at at _) (ap (λ (s : Seen Node). s.value) (object_node b)) g in rw (b, ← c) (record { more = _; cut = f.cut }))

    object_within : at + 4 ≤ 16384
    object_within =
        by_test bit2
        (λ b. list_within 34 _ _ (ap (λ (s : Seen Node). s.value) (object_rest_lem b)) g)
        (λ b. list_within 34 _ _ (ap (λ (s : Seen Node). s.value) (object_node b)) g)

  pub object_open : Good t (suc d) at → byte_at t at ≡ 34 → ObjectOpen
  object_open g k =
      let f = object_front g k in
      record {
        within = object_within g k;
        next2 = good_two t (suc d) at g;
        head = ap (λ (x : ℕ). part at x t) (on_on t at 2 2) ∙ bytes_head _ f (omega arith);
        list = list_open false false (onward t at 2) g (object_list g k);
        properties = object_properties g k;
        plain = object_node g k;
        resting = object_rest_lem g k;
        rest = object_good g k;
        leafy = object_leaf g k;
      }

  -- ---- 36 ArrayPattern(items* rest?)

  module _ (g : Good t (suc d) at) (k : byte_at t at ≡ 36) where
    array_bits : byte_at t (onward t at 1) ≡ cond bit2 3 1
    unfolding Mapped fields_of kinds
    array_bits = let w : Mapped (fields_of 36) (byte_at t (onward t at 1)) = bits_here t d at 36 g k in one_or_three (byte_at t (onward t at 1)) w.0 w.1

    array_plain : bit2 ≡ false → byte_at t (onward t at 1) ≡ 1
    array_plain b = array_bits ∙ ap (λ (x : Bool). cond x 3 1) b

    array_resting : bit2 ≡ true → byte_at t (onward t at 1) ≡ 3
    array_resting b = array_bits ∙ ap (λ (x : Bool). cond x 3 1) b

    array_node : bit2 ≡ false → look_node t (suc d) at ≡ seen (array_at at (items_from true (onward t at 2)).value) (items_from true (onward t at 2)).next
    unfolding look_fields look_slot look_field fields_of kinds
    array_node b = node_as t d at 36 1 k (array_plain b) g

    array_rest_lem : bit2 ≡ true
        → look_node t (suc d) at
        ≡ seen (array_rest_at at (items_from true (onward t at 2)).value (look_node t d (items_from true (onward t at 2)).next).value) (look_node t d (items_from true (onward t at 2)).next).next
    unfolding look_fields look_slot look_field fields_of kinds
    array_rest_lem b = node_as t d at 36 3 k (array_resting b) g

    array_list : GoodList t (λ q. look_node t d q) (λ q. Good t d q) false true (onward t at 2)
    unfolding GoodFields GoodSlot GoodField fields_of kinds is_container
    array_list =
        by_test bit2
        (λ b. (below_as t d at 36 3 k (array_resting b) g).0)
        (λ b. (below_as t d at 36 1 k (array_plain b) g).0)

    array_good : bit2 ≡ true → Good t d (items_from true (onward t at 2)).next
    unfolding GoodFields GoodSlot GoodField look_slot look_field fields_of kinds is_container
    array_good b = (below_as t d at 36 3 k (array_resting b) g).1.0

    array_front : Front t at (36 ∷ cond bit2 3 1 ∷ wide_bytes (wide_at t (onward t at 2)))
    unfolding encode encode_fields encode_piece map_of
    array_front =
        let n : ℕ = wide_at t (onward t at 2) in
        let c : count (items_from true (onward t at 2)).value ≡ n = items_count t d true n (onward t (onward t at 2) 2) in
        by_test bit2
        (λ b. let f = front_as t d at (array_rest_at at _ _) (ap (λ (s : Seen Node). s.value) (array_rest_lem b)) g in rw (b, ← c) (record { more = _; cut = f.cut }))
        (λ b. let f = front_as t d at (array_at at _) (ap (λ (s : Seen Node). s.value) (array_node b)) g in rw (b, ← c) (record { more = _; cut = f.cut }))

  pub array_open : Good t (suc d) at → byte_at t at ≡ 36 → ArrayOpen
  array_open g k =
      let f = array_front g k in
      record {
        next2 = good_two t (suc d) at g;
        list = list_open false true (onward t at 2) g (array_list g k);
        head = ap (λ (x : ℕ). part at x t) (on_on t at 2 2) ∙ bytes_head _ f (omega arith);
        plain = array_node g k;
        resting = array_rest_lem g k;
        rest = array_good g k;
      }

  -- ---- 35 PatternProperty(key value flags=)

  module _ (g : Good t (suc d) at) (k : byte_at t at ≡ 35) where
    property_bits : byte_at t (onward t at 1) ≡ 7
    unfolding Mapped fields_of kinds
    property_bits = let w : Mapped (fields_of 35) (byte_at t (onward t at 1)) = bits_here t d at 35 g k in omega (arith, w.0, w.1.0, w.1.1.0, w.1.1.1)

    property_node : look_node t (suc d) at
        ≡ seen (property_at at (look_node t d key_place).value (look_node t d value_place).value (byte_at t flags_place)) (onward t flags_place 1)
    unfolding look_fields look_slot look_field fields_of kinds
    property_node = node_as t d at 35 7 k property_bits g

    property_value : (look_node t (suc d) at).value ≡ property_at at (look_node t d key_place).value (look_node t d value_place).value (byte_at t flags_place)
    property_value = ap (λ (s : Seen Node). s.value) property_node

    property_head : part at (onward t at 2) t ≡ 35 ∷ 7 ∷ []
    unfolding encode encode_fields encode_piece map_of
    property_head = let f = front_as t d at (property_at at _ _ _) property_value g in bytes_head (35 ∷ 7 ∷ []) (record { more = _; cut = f.cut }) (omega arith)

  pub property_open : Good t (suc d) at → byte_at t at ≡ 35 → PropertyOpen
  unfolding GoodFields GoodSlot GoodField look_slot look_field fields_of kinds is_container encode_piece
  property_open g k =
      let w = below_as t d at 35 7 k (property_bits g k) g in
      record {
        head = property_head g k;
        whole = property_node g k;
        flags = w.1.1.0.bytes;
        key = w.0;
        value = w.1.0;
      }

  -- its key, which stands at q and is good
  pub property_key : Good t (suc d) at → byte_at t at ≡ 35 → (q : ℕ) → q ≡ onward t at 2 → ((look_node t d q).value ≡ patterns.key (look_node t (suc d) at).value) × Good t d q
  unfolding node_at_of piece_in
  property_key g k q e =
      let p = property_open g k in
      (ap (λ (x : ℕ). (look_node t d x).value) e ∙ ap (λ (s : Seen Node). patterns.key s.value) (sym p.whole), subst (λ (x : ℕ). Good t d x) (sym e) p.key)

  -- ---- 37 Default(left right)

  module _ (g : Good t (suc d) at) (k : byte_at t at ≡ 37) where
    default_bits : byte_at t (onward t at 1) ≡ 3
    unfolding Mapped fields_of kinds
    default_bits = let w : Mapped (fields_of 37) (byte_at t (onward t at 1)) = bits_here t d at 37 g k in omega (arith, w.0, w.1.0, w.1.1)

    default_node : look_node t (suc d) at ≡ seen (default_at at (look_node t d key_place).value (look_node t d value_place).value) flags_place
    unfolding look_fields look_slot look_field fields_of kinds
    default_node = node_as t d at 37 3 k default_bits g

    default_value : (look_node t (suc d) at).value ≡ default_at at (look_node t d key_place).value (look_node t d value_place).value
    default_value = ap (λ (s : Seen Node). s.value) default_node

    default_head : part at (onward t at 2) t ≡ 37 ∷ 3 ∷ []
    unfolding encode encode_fields encode_piece map_of
    default_head = let f = front_as t d at (default_at at _ _) default_value g in bytes_head (37 ∷ 3 ∷ []) (record { more = _; cut = f.cut }) (omega arith)

  pub default_open : Good t (suc d) at → byte_at t at ≡ 37 → DefaultOpen
  unfolding GoodFields GoodSlot GoodField look_slot look_field fields_of kinds is_container
  default_open g k =
      let w = below_as t d at 37 3 k (default_bits g k) g in
      record {
        head = default_head g k;
        whole = default_node g k;
        left = w.0;
        right = w.1.0;
      }

  -- ---- 5 Declarator(id init?), 15 Param(pattern default?)

  abbrev binder_fields : List Field
  binder_fields = must (Sort.child binding) ∷ may (Sort.child expression) ∷ []

  module _ (k : ℕ) (s : fields_of k ≡ binder_fields) (g : Good t (suc d) at) (e : byte_at t at ≡ k) where
    binder_bits : byte_at t (onward t at 1) ≡ cond bit2 3 1
    unfolding Mapped
    binder_bits =
        let w : Mapped binder_fields (byte_at t (onward t at 1)) = subst (λ (ts : List Field). Mapped ts (byte_at t (onward t at 1))) s (bits_here t d at k g e) in
        one_or_three (byte_at t (onward t at 1)) w.0 w.1

    binder_plain : bit2 ≡ false → byte_at t (onward t at 1) ≡ 1
    binder_plain b = binder_bits ∙ ap (λ (x : Bool). cond x 3 1) b

    binder_valued : bit2 ≡ true → byte_at t (onward t at 1) ≡ 3
    binder_valued b = binder_bits ∙ ap (λ (x : Bool). cond x 3 1) b

    binder_as : (m : ℕ) → byte_at t (onward t at 1) ≡ m → look_node t (suc d) at ≡ seen_as (node at k) (look_fields t (λ q. look_node t d q) binder_fields m (onward t at 2))
    binder_as m f = node_as t d at k m e f g ∙ ap (λ (ts : List Field). seen_as (node at k) (look_fields t (λ q. look_node t d q) ts m (onward t at 2))) s

    binder_bare : bit2 ≡ false → look_node t (suc d) at ≡ seen (node at k (Fields.field (Piece.one (look_node t d key_place).value) (Fields.absent Fields.done))) value_place
    unfolding look_fields look_slot look_field
    binder_bare b = binder_as 1 (binder_plain b)

    binder_both : bit2 ≡ true
        → look_node t (suc d) at ≡ seen (node at k (Fields.field (Piece.one (look_node t d key_place).value) (Fields.field (Piece.one (look_node t d value_place).value) Fields.done))) flags_place
    unfolding look_fields look_slot look_field
    binder_both b = binder_as 3 (binder_valued b)

    binder_below : (m : ℕ) → byte_at t (onward t at 1) ≡ m → GoodFields t (λ q. look_node t d q) (λ q. Good t d q) (is_container k) binder_fields m (onward t at 2)
    binder_below m f = subst (λ (ts : List Field). GoodFields t (λ q. look_node t d q) (λ q. Good t d q) (is_container k) ts m (onward t at 2)) s (below_as t d at k m e f g)

    binder_pattern : Good t d key_place
    unfolding GoodFields GoodSlot GoodField
    binder_pattern = by_test bit2 (λ b. (binder_below 3 (binder_valued b)).0) (λ b. (binder_below 1 (binder_plain b)).0)

    binder_value : bit2 ≡ true → Good t d value_place
    unfolding GoodFields GoodSlot GoodField look_slot look_field
    binder_value b = (binder_below 3 (binder_valued b)).1.0

    binder_head : part at (onward t at 2) t ≡ k ∷ cond bit2 3 1 ∷ []
    unfolding encode encode_fields encode_piece map_of
    binder_head =
        by_test bit2
        (λ b.
        let f = front_as t d at (node at k _) (ap (λ (s : Seen Node). s.value) (binder_both b)) g in
        rw b (bytes_head (k ∷ 3 ∷ []) (record { more = _; cut = f.cut }) (omega arith)))
        (λ b.
        let f = front_as t d at (node at k _) (ap (λ (s : Seen Node). s.value) (binder_bare b)) g in
        rw b (bytes_head (k ∷ 1 ∷ []) (record { more = _; cut = f.cut }) (omega arith)))

    binder_within : at + 4 ≤ 16384
    binder_within =
        by_test bit2
        (λ b. child_within k _ _ (ap (λ (s : Seen Node). s.value) (binder_both b)) g)
        (λ b. child_within k _ _ (ap (λ (s : Seen Node). s.value) (binder_bare b)) g)

    binder_open : BinderOpen k
    binder_open = record { within = binder_within; head = binder_head; bare = binder_bare; valued = binder_both; pattern = binder_pattern; value = binder_value }

  pub declarator_open : Good t (suc d) at → byte_at t at ≡ 5 → BinderOpen 5
  unfolding fields_of kinds
  declarator_open g e = binder_open 5 refl g e

  pub param_open : Good t (suc d) at → byte_at t at ≡ 15 → BinderOpen 15
  unfolding fields_of kinds
  param_open g e = binder_open 15 refl g e

  -- ---- 4 Declaration(# kind= declarators*)

  -- positions past a mark, and past a byte behind it
  on_four : onward t (onward t at 2) 2 ≡ onward t at 4
  on_four = on_on t at 2 2

  on_five : onward t (onward t (onward t at 2) 2) 1 ≡ onward t at 5
  on_five = ap (λ (x : ℕ). onward t x 1) on_four ∙ on_on t at 4 1

  module _ (g : Good t (suc d) at) (k : byte_at t at ≡ 4) where
    declaration_bits : byte_at t (onward t at 1) ≡ 7
    unfolding Mapped fields_of kinds
    declaration_bits = let w : Mapped (fields_of 4) (byte_at t (onward t at 1)) = bits_here t d at 4 g k in omega (arith, w.0, w.1.0, w.1.1.0, w.1.1.1)

    declaration_node : look_node t (suc d) at
        ≡ seen (declaration_at at (wide_at t (onward t at 2)) (byte_at t (onward t at 4)) (items_from false (onward t at 5)).value) (items_from false (onward t at 5)).next
    unfolding look_fields look_slot look_field fields_of kinds
    declaration_node = rw (← on_five, ← on_four) (node_as t d at 4 7 k declaration_bits g)

    declaration_value : (look_node t (suc d) at).value ≡ declaration_at at (wide_at t (onward t at 2)) (byte_at t (onward t at 4)) (items_from false (onward t at 5)).value
    declaration_value = ap (λ (s : Seen Node). s.value) declaration_node

    declaration_front : Front t at ((4 ∷ 7 ∷ wide_bytes (wide_at t (onward t at 2)) ++ (byte_at t (onward t at 4) ∷ [])) ++ wide_bytes (count (items_from false (onward t at 5)).value))
    unfolding encode encode_fields encode_piece map_of
    declaration_front = let f = front_as t d at (declaration_at at _ _ _) declaration_value g in record { more = _; cut = f.cut }

    declaration_kinds : AllItems (λ n. is 5 n ≡ true) (items_from false (onward t at 5)).value
    unfolding piece_in
    declaration_kinds =
        all_of 5 (items_from false (onward t at 5)).value ((value_known t d at 4 _ declaration_value g).declaration refl)

  pub declaration_open : Good t (suc d) at → byte_at t at ≡ 4 → DeclarationOpen
  unfolding GoodFields GoodSlot GoodField look_slot look_field fields_of kinds is_container
  declaration_open g k =
      let f = declaration_front g k in
      let w = below_as t d at 4 7 k (declaration_bits g k) g in
      record {
        head = bytes_head (4 ∷ 7 ∷ wide_bytes (wide_at t (onward t at 2)) ++ (byte_at t (onward t at 4) ∷ [])) (record { more = _; cut = f.cut }) (omega arith);
        marked = w.0.positive (wide_at t (onward t at 2)) refl;
        list = list_open false false (onward t at 5) g (subst (λ (q : ℕ). GoodList t (λ q. look_node t d q) (λ q. Good t d q) false false q) on_five w.1.1.0);
        declarators = declaration_kinds g k;
        whole = declaration_node g k;
      }

  -- ---- 27 Assignment(op= left right)

  module _ (g : Good t (suc d) at) (k : byte_at t at ≡ 27) where
    assignment_bits : byte_at t (onward t at 1) ≡ 7
    unfolding Mapped fields_of kinds
    assignment_bits = let w : Mapped (fields_of 27) (byte_at t (onward t at 1)) = bits_here t d at 27 g k in omega (arith, w.0, w.1.0, w.1.1.0, w.1.1.1)

    assignment_node : look_node t (suc d) at
        ≡ seen (assignment_at at (byte_at t (onward t at 2)) (look_node t d target_place).value (look_node t d assigned_place).value) (look_node t d assigned_place).next
    unfolding look_fields look_slot look_field fields_of kinds
    assignment_node =
        subst (λ (q : ℕ). look_node t (suc d) at ≡ seen (assignment_at at (byte_at t (onward t at 2)) (look_node t d q).value (look_node t d (look_node t d q).next).value) (look_node t d (look_node t d q).next).next)
        (on_on t at 2 1) (node_as t d at 27 7 k assignment_bits g)

    assignment_value : (look_node t (suc d) at).value ≡ assignment_at at (byte_at t (onward t at 2)) (look_node t d target_place).value (look_node t d assigned_place).value
    assignment_value = ap (λ (s : Seen Node). s.value) assignment_node

    assignment_front : Front t at (27 ∷ 7 ∷ byte_at t (onward t at 2) ∷ [])
    unfolding encode encode_fields encode_piece map_of
    assignment_front = let f = front_as t d at (assignment_at at _ _ _) assignment_value g in record { more = _; cut = f.cut }

    assignment_op : byte_at t (onward t at 2) < 256
    unfolding fields_of kinds
    assignment_op = first_byte (fields_in (value_fits t d at 27 _ assignment_value g).1 (omega arith) (omega arith) (λ e. omega arith))

  pub assignment_open : Good t (suc d) at → byte_at t at ≡ 27 → AssignmentOpen
  unfolding GoodFields GoodSlot GoodField look_slot look_field fields_of kinds is_container
  assignment_open g k =
      let f = assignment_front g k in
      let w = below_as t d at 27 7 k (assignment_bits g k) g in
      record {
        head = bytes_head _ f (omega arith);
        op = assignment_op g k;
        whole = assignment_node g k;
        target = subst (λ (q : ℕ). Good t d q) (on_on t at 2 1) w.1.0;
        value = subst (λ (q : ℕ). Good t d (look_node t d q).next) (on_on t at 2 1) w.1.1.0;
      }

  -- ---- 2 Block(# body*)

  module _ (g : Good t (suc d) at) (k : byte_at t at ≡ 2) where
    block_bits : byte_at t (onward t at 1) ≡ 3
    unfolding Mapped fields_of kinds
    block_bits = let w : Mapped (fields_of 2) (byte_at t (onward t at 1)) = bits_here t d at 2 g k in omega (arith, w.0, w.1.0, w.1.1)

    block_node : look_node t (suc d) at
        ≡ seen (node at 2 (Fields.field (Piece.mark (wide_at t (onward t at 2))) (Fields.field (Piece.list (items_from false (onward t at 4)).value) Fields.done))) (items_from false (onward t at 4)).next
    unfolding look_fields look_slot look_field fields_of kinds
    block_node = rw (← on_four) (node_as t d at 2 3 k block_bits g)

    block_front : Front t at ((2 ∷ 3 ∷ wide_bytes (wide_at t (onward t at 2))) ++ wide_bytes (count (items_from false (onward t at 4)).value))
    unfolding encode encode_fields encode_piece map_of
    block_front = let f = front_as t d at (node at 2 _) (ap (λ (s : Seen Node). s.value) block_node) g in record { more = _; cut = f.cut }

  pub block_open : Good t (suc d) at → byte_at t at ≡ 2 → BlockOpen
  unfolding GoodFields GoodSlot GoodField look_slot look_field fields_of kinds is_container
  block_open g k =
      let f = block_front g k in
      let w = below_as t d at 2 3 k (block_bits g k) g in
      record {
        head = bytes_head (2 ∷ 3 ∷ wide_bytes (wide_at t (onward t at 2))) (record { more = _; cut = f.cut }) (omega arith);
        marked = w.0.positive (wide_at t (onward t at 2)) refl;
        list = list_open true false (onward t at 4) g (subst (λ (q : ℕ). GoodList t (λ q. look_node t d q) (λ q. Good t d q) true false q) on_four w.1.0);
        whole = block_node g k;
      }

  -- ---- 16 FunctionBody(directives*? body*)

  module _ (g : Good t (suc d) at) (k : byte_at t at ≡ 16) where
    body_bits : byte_at t (onward t at 1) ≡ cond bit1 3 2
    unfolding Mapped fields_of kinds
    body_bits = let w : Mapped (fields_of 16) (byte_at t (onward t at 1)) = bits_here t d at 16 g k in two_or_three (byte_at t (onward t at 1)) w.0 w.1

    body_plain : bit1 ≡ false → byte_at t (onward t at 1) ≡ 2
    body_plain b = body_bits ∙ ap (λ (x : Bool). cond x 3 2) b

    body_directed : bit1 ≡ true → byte_at t (onward t at 1) ≡ 3
    body_directed b = body_bits ∙ ap (λ (x : Bool). cond x 3 2) b

    -- where the statements stand, by the bit
    abbrev body_from : Bool → ℕ
    body_from b = cond b (items_from false (onward t at 2)).next (onward t at 2)

    body_bare : bit1 ≡ false → look_node t (suc d) at ≡ seen (node at 16 (Fields.absent (Fields.field (Piece.list (items_from false body_place).value) Fields.done))) (items_from false body_place).next
    unfolding look_fields look_slot look_field fields_of kinds
    body_bare b =
        subst (λ (x : Bool). look_node t (suc d) at ≡ seen (node at 16 (Fields.absent (Fields.field (Piece.list (items_from false (body_from x)).value) Fields.done))) (items_from false (body_from x)).next)
        (sym b) (node_as t d at 16 2 k (body_plain b) g)

    body_both : bit1 ≡ true
        → look_node t (suc d) at
        ≡ seen (node at 16 (Fields.field (Piece.list (items_from false (onward t at 2)).value) (Fields.field (Piece.list (items_from false body_place).value) Fields.done))) (items_from false body_place).next
    unfolding look_fields look_slot look_field fields_of kinds
    body_both b =
        subst
        (λ (x : Bool).
        look_node t (suc d) at
        ≡ seen (node at 16 (Fields.field (Piece.list (items_from false (onward t at 2)).value) (Fields.field (Piece.list (items_from false (body_from x)).value) Fields.done))) (items_from false (body_from x)).next)
        (sym b) (node_as t d at 16 3 k (body_directed b) g)

    body_directives : bit1 ≡ true → GoodList t (λ q. look_node t d q) (λ q. Good t d q) true false (onward t at 2)
    unfolding GoodFields GoodSlot GoodField look_slot look_field fields_of kinds is_container
    body_directives b = (below_as t d at 16 3 k (body_directed b) g).0

    body_list : GoodList t (λ q. look_node t d q) (λ q. Good t d q) true false body_place
    unfolding GoodFields GoodSlot GoodField look_slot look_field fields_of kinds is_container
    body_list =
        by_test bit1
        (λ b. subst (λ (x : Bool). GoodList t (λ q. look_node t d q) (λ q. Good t d q) true false (body_from x)) (sym b) (below_as t d at 16 3 k (body_directed b) g).1.0)
        (λ b. subst (λ (x : Bool). GoodList t (λ q. look_node t d q) (λ q. Good t d q) true false (body_from x)) (sym b) (below_as t d at 16 2 k (body_plain b) g).1.0)

    body_head : part at (onward t at 2) t ≡ 16 ∷ cond bit1 3 2 ∷ []
    unfolding encode encode_fields encode_piece map_of
    body_head =
        by_test bit1
        (λ b.
        let f = front_as t d at (node at 16 _) (ap (λ (s : Seen Node). s.value) (body_both b)) g in
        rw b (bytes_head (16 ∷ 3 ∷ []) (record { more = _; cut = f.cut }) (omega arith)))
        (λ b.
        let f = front_as t d at (node at 16 _) (ap (λ (s : Seen Node). s.value) (body_bare b)) g in
        rw b (bytes_head (16 ∷ 2 ∷ []) (record { more = _; cut = f.cut }) (omega arith)))

  pub body_open : Good t (suc d) at → byte_at t at ≡ 16 → BodyOpen
  body_open g k = record {
    head = body_head g k;
    directives = λ b. list_open true false (onward t at 2) g (body_directives g k b);
    list = list_open true false body_place g (body_list g k);
    bare = body_bare g k;
    directed = body_both g k;
  }

  -- ---- 14 Function(# sort= name? params* rest? body?), with a body

  -- where the params and the body stand, by whether the name and the rest do
  abbrev params_at : Bool → ℕ
  params_at n = end_if n (onward t at 5)

  abbrev body_at : Bool → Bool → ℕ
  body_at n r = end_if r (items_from false (params_at n)).next

  record FunctionParts (n r : Bool) : Type 0 where
    name : n ≡ true → Good t d (onward t at 5)
    list : GoodList t (λ q. look_node t d q) (λ q. Good t d q) false false (params_at n)
    rest : r ≡ true → Good t d (items_from false (params_at n)).next
    body : Good t d (body_at n r)

  -- what is behind the sort
  abbrev function_more : List Field
  function_more = may (Sort.child binding_name) ∷ must (Sort.many param) ∷ may (Sort.child binding) ∷ may (Sort.child function_body) ∷ []

  module _ (g : Good t (suc d) at) (k : byte_at t at ≡ 14) where
    function_node : (n r : Bool) → byte_at t (onward t at 1) ≡ function_map n r
        → look_node t (suc d) at
        ≡ seen (node at 14 (function_fields (wide_at t (onward t at 2)) (byte_at t (onward t at 4)) (given_if n (onward t at 5)) (items_from false (params_at n)).value (given_if r (items_from false (params_at n)).next) (look_node t d (body_at n r)).value))
        (look_node t d (body_at n r)).next
    unfolding look_fields look_slot look_field fields_of kinds
    function_node true true e = rw (← on_five, ← on_four) (node_as t d at 14 63 k e g)
    function_node true false e = rw (← on_five, ← on_four) (node_as t d at 14 47 k e g)
    function_node false true e = rw (← on_five, ← on_four) (node_as t d at 14 59 k e g)
    function_node false false e = rw (← on_five, ← on_four) (node_as t d at 14 43 k e g)

    function_params : (n r : Bool) → byte_at t (onward t at 1) ≡ function_map n r → AllItems (λ q. is 15 q ≡ true) (items_from false (params_at n)).value
    unfolding piece_in
    function_params true r e = all_of 15 (items_from false (params_at true)).value ((value_known t d at 14 _ (ap (λ (s : Seen Node). s.value) (function_node true r e)) g).function refl)
    function_params false r e = all_of 15 (items_from false (params_at false)).value ((value_known t d at 14 _ (ap (λ (s : Seen Node). s.value) (function_node false r e)) g).function refl)

    function_parts : (n r : Bool) → byte_at t (onward t at 1) ≡ function_map n r → FunctionParts n r
    unfolding GoodFields GoodSlot GoodField look_slot look_field fields_of kinds is_container
    function_parts true true e =
        let w : GoodFields t (λ q. look_node t d q) (λ q. Good t d q) false function_more 15 (onward t at 5) = rw (← on_five) (below_as t d at 14 63 k e g).1.1 in
        record { name = λ x. w.0; list = w.1.0; rest = λ x. w.1.1.0; body = w.1.1.1.0 }
    function_parts true false e =
        let w : GoodFields t (λ q. look_node t d q) (λ q. Good t d q) false function_more 11 (onward t at 5) = rw (← on_five) (below_as t d at 14 47 k e g).1.1 in
        record { name = λ x. w.0; list = w.1.0; rest = λ x. absurd (false≢true x); body = w.1.1.1.0 }
    function_parts false true e =
        let w : GoodFields t (λ q. look_node t d q) (λ q. Good t d q) false function_more 14 (onward t at 5) = rw (← on_five) (below_as t d at 14 59 k e g).1.1 in
        record { name = λ x. absurd (false≢true x); list = w.1.0; rest = λ x. w.1.1.0; body = w.1.1.1.0 }
    function_parts false false e =
        let w : GoodFields t (λ q. look_node t d q) (λ q. Good t d q) false function_more 10 (onward t at 5) = rw (← on_five) (below_as t d at 14 43 k e g).1.1 in
        record { name = λ x. absurd (false≢true x); list = w.1.0; rest = λ x. absurd (false≢true x); body = w.1.1.1.0 }

    function_mark : (n r : Bool) → byte_at t (onward t at 1) ≡ function_map n r → 0 < wide_at t (onward t at 2)
    unfolding GoodFields GoodSlot GoodField look_slot look_field fields_of kinds is_container
    function_mark true true e = (below_as t d at 14 63 k e g).0.positive (wide_at t (onward t at 2)) refl
    function_mark true false e = (below_as t d at 14 47 k e g).0.positive (wide_at t (onward t at 2)) refl
    function_mark false true e = (below_as t d at 14 59 k e g).0.positive (wide_at t (onward t at 2)) refl
    function_mark false false e = (below_as t d at 14 43 k e g).0.positive (wide_at t (onward t at 2)) refl

    function_bits : eqb (byte_at t (onward t at 1) / 32 % 2) 1 ≡ true → byte_at t (onward t at 1) ≡ function_map named_bit function_rest_bit
    unfolding Mapped fields_of kinds
    function_bits b =
        let w : Mapped (fields_of 14) (byte_at t (onward t at 1)) = bits_here t d at 14 g k in
        function_map_lem (byte_at t (onward t at 1)) w.0 w.1.0 w.1.1.0 w.1.1.1 b

    function_front : (fs : Fields) → (look_node t (suc d) at).value ≡ node at 14 (Fields.field (Piece.mark (wide_at t (onward t at 2))) (Fields.field (Piece.byte (byte_at t (onward t at 4))) fs))
        → Front t at (14 ∷ byte_at t (onward t at 1) ∷ wide_bytes (wide_at t (onward t at 2)) ++ (byte_at t (onward t at 4) ∷ []))
    unfolding encode encode_fields encode_piece
    function_front fs e = let f = front_as t d at _ e g in rw (value_map t d at 14 _ e g) (record { more = _; cut = f.cut })

  pub function_open : Good t (suc d) at → byte_at t at ≡ 14 → eqb (byte_at t (onward t at 1) / 32 % 2) 1 ≡ true → FunctionOpen
  function_open g k b =
      let e = function_bits g k b in
      let n = function_node g k named_bit function_rest_bit e in
      let w = function_parts g k named_bit function_rest_bit e in
      let f = function_front g k _ (ap (λ (s : Seen Node). s.value) n) in
      record {
        head = bytes_head _ f (omega arith);
        marked = function_mark g k named_bit function_rest_bit e;
        name = w.name;
        list = list_open false false params_place g w.list;
        params = function_params g k named_bit function_rest_bit e;
        rest = w.rest;
        body = w.body;
        kind16 = function_body_lem _ _ _ _ (given_if named_bit (onward t at 5)) (given_if function_rest_bit (items_from false params_place).next) (items_from false params_place).value (look_node t d function_body_place).value (value_fits t d at 14 _ (ap (λ (s : Seen Node). s.value) n) g).1;
        map = value_map t d at 14 _ (ap (λ (s : Seen Node). s.value) n) g;
        whole = n;
      }

  -- ---- 17 Arrow(params* rest? body)

  abbrev arrow_at : Bool → ℕ
  arrow_at r = end_if r (items_from false (onward t at 2)).next

  record ArrowParts (r : Bool) : Type 0 where
    list : GoodList t (λ q. look_node t d q) (λ q. Good t d q) false false (onward t at 2)
    rest : r ≡ true → Good t d (items_from false (onward t at 2)).next
    body : Good t d (arrow_at r)

  module _ (g : Good t (suc d) at) (k : byte_at t at ≡ 17) where
    arrow_node : (r : Bool) → byte_at t (onward t at 1) ≡ cond r 7 5
        → look_node t (suc d) at
        ≡ seen (node at 17 (arrow_fields (items_from false (onward t at 2)).value (given_if r (items_from false (onward t at 2)).next) (look_node t d (arrow_at r)).value)) (look_node t d (arrow_at r)).next
    unfolding look_fields look_slot look_field fields_of kinds
    arrow_node true e = node_as t d at 17 7 k e g
    arrow_node false e = node_as t d at 17 5 k e g

    arrow_parts : (r : Bool) → byte_at t (onward t at 1) ≡ cond r 7 5 → ArrowParts r
    unfolding GoodFields GoodSlot GoodField look_slot look_field fields_of kinds is_container
    arrow_parts true e = let w = below_as t d at 17 7 k e g in record { list = w.0; rest = λ x. w.1.0; body = w.1.1.0 }
    arrow_parts false e = let w = below_as t d at 17 5 k e g in record { list = w.0; rest = λ x. absurd (false≢true x); body = w.1.1.0 }

    arrow_bits : byte_at t (onward t at 1) ≡ cond bit2 7 5
    unfolding Mapped fields_of kinds
    arrow_bits = let w : Mapped (fields_of 17) (byte_at t (onward t at 1)) = bits_here t d at 17 g k in arrow_map (byte_at t (onward t at 1)) w.0 w.1.0 w.1.1

    arrow_value : (look_node t (suc d) at).value ≡ node at 17 (arrow_fields (items_from false (onward t at 2)).value (given_if bit2 (items_from false (onward t at 2)).next) (look_node t d arrow_body_place).value)
    arrow_value = ap (λ (s : Seen Node). s.value) (arrow_node bit2 arrow_bits)

    arrow_params : AllItems (λ q. is 15 q ≡ true) (items_from false (onward t at 2)).value
    unfolding piece_in
    arrow_params = all_of 15 (items_from false (onward t at 2)).value ((value_known t d at 17 _ arrow_value g).arrow refl)

    arrow_front : Front t at (17 ∷ byte_at t (onward t at 1) ∷ wide_bytes (count (items_from false (onward t at 2)).value))
    unfolding encode encode_fields encode_piece
    arrow_front = let f = front_as t d at _ arrow_value g in rw (value_map t d at 17 _ arrow_value g) (record { more = _; cut = f.cut })

  pub arrow_open : Good t (suc d) at → byte_at t at ≡ 17 → ArrowOpen
  arrow_open g k =
      let f = arrow_front g k in
      let w = arrow_parts g k bit2 (arrow_bits g k) in
      record {
        head = bytes_head (17 ∷ byte_at t (onward t at 1) ∷ []) (record { more = _; cut = f.cut }) (omega arith);
        list = list_open false false (onward t at 2) g w.list;
        params = arrow_params g k;
        rest = w.rest;
        body = w.body;
        map = value_map t d at 17 _ (arrow_value g k) g;
        whole = arrow_node g k bit2 (arrow_bits g k);
      }

  -- ---- 10 Catch(param? body), with a param

  module _ (g : Good t (suc d) at) (k : byte_at t at ≡ 10) (b : bit1 ≡ true) where
    catch_bits : byte_at t (onward t at 1) ≡ 3
    unfolding Mapped fields_of kinds
    catch_bits =
        let w : Mapped (fields_of 10) (byte_at t (onward t at 1)) = bits_here t d at 10 g k in
        two_or_three (byte_at t (onward t at 1)) w.0 w.1 ∙ ap (λ (x : Bool). cond x 3 2) b

    catch_node : look_node t (suc d) at ≡ seen (node at 10 (Fields.field (Piece.one (look_node t d key_place).value) (Fields.field (Piece.one (look_node t d value_place).value) Fields.done))) flags_place
    unfolding look_fields look_slot look_field fields_of kinds
    catch_node = node_as t d at 10 3 k catch_bits g

    catch_value : (look_node t (suc d) at).value ≡ node at 10 (catch_fields (look_node t d key_place).value (look_node t d value_place).value)
    catch_value = ap (λ (s : Seen Node). s.value) catch_node

    catch_head : part at (onward t at 2) t ≡ 10 ∷ 3 ∷ []
    unfolding encode encode_fields encode_piece map_of
    catch_head = let f = front_as t d at _ catch_value g in bytes_head (10 ∷ 3 ∷ []) (record { more = _; cut = f.cut }) (omega arith)

  pub catch_open : Good t (suc d) at → byte_at t at ≡ 10 → bit1 ≡ true → CatchOpen
  unfolding GoodFields GoodSlot GoodField look_slot look_field fields_of kinds is_container
  catch_open g k b =
      let w = below_as t d at 10 3 k (catch_bits g k b) g in
      let f = value_fits t d at 10 _ (catch_value g k b) g in
      record {
        head = catch_head g k b;
        param = w.0;
        kind15 = catch_param f.1;
        body = w.1.0;
        kind2 = catch_body f.1;
        whole = catch_node g k b;
      }

  -- ---- 7 ForIn(# left right body), 8 ForOf(# left right body await=?)

  -- the head of either, by its fields
  loop_front : (k : ℕ) (n r b : Node) (more : Fields) → (look_node t (suc d) at).value ≡ node at k (for_fields (wide_at t (onward t at 2)) n r b more) → Good t (suc d) at
      → Front t at (k ∷ byte_at t (onward t at 1) ∷ wide_bytes (wide_at t (onward t at 2)))
  unfolding encode encode_fields encode_piece
  loop_front k n r b more e g = let f = front_as t d at _ e g in rw (value_map t d at k _ e g) (record { more = _; cut = f.cut })

  module _ (g : Good t (suc d) at) (k : byte_at t at ≡ 7) where
    for_in_bits : byte_at t (onward t at 1) ≡ 15
    unfolding Mapped fields_of kinds
    for_in_bits = let w : Mapped (fields_of 7) (byte_at t (onward t at 1)) = bits_here t d at 7 g k in omega (arith, w.0, w.1.0, w.1.1.0, w.1.1.1.0, w.1.1.1.1)

    for_in_node : look_node t (suc d) at
        ≡ seen (node at 7 (for_fields (wide_at t (onward t at 2)) (look_node t d left_place).value (look_node t d right_place).value (look_node t d loop_place).value Fields.done)) await_place
    unfolding look_fields look_slot look_field fields_of kinds
    for_in_node =
        subst
        (λ (q : ℕ).
        let r : ℕ = (look_node t d q).next in
        let b : ℕ = (look_node t d r).next in
        look_node t (suc d) at ≡ seen (node at 7 (for_fields (wide_at t (onward t at 2)) (look_node t d q).value (look_node t d r).value (look_node t d b).value Fields.done)) (look_node t d b).next)
        on_four (node_as t d at 7 15 k for_in_bits g)

  pub for_in_open : Good t (suc d) at → byte_at t at ≡ 7 → LoopOpen 7 false
  unfolding GoodFields GoodSlot GoodField look_slot look_field fields_of kinds is_container
  for_in_open g k =
      let w = below_as t d at 7 15 k (for_in_bits g k) g in
      let e = ap (λ (s : Seen Node). s.value) (for_in_node g k) in
      let f = loop_front 7 _ _ _ _ e g in
      record {
        more = Fields.done;
        head = bytes_head _ f (omega arith);
        marked = w.0.positive (wide_at t (onward t at 2)) refl;
        left = subst (λ (q : ℕ). Good t d q) on_four w.1.0;
        right = subst (λ (q : ℕ). Good t d (look_node t d q).next) on_four w.1.1.0;
        body = subst (λ (q : ℕ). Good t d (look_node t d (look_node t d q).next).next) on_four w.1.1.1.0;
        map = value_map t d at 7 _ e g;
        whole = e;
        plain = λ x. refl;
        awaits = λ x. absurd (false≢true x);
        flag = λ x. absurd (false≢true x);
        ends = ap (λ (s : Seen Node). s.next) (for_in_node g k);
      }

  -- by whether the await stands
  abbrev await_if : Bool → Fields
  await_if true = Fields.field (Piece.byte (byte_at t await_place)) Fields.done
  await_if false = Fields.absent Fields.done

  record LoopParts (a : Bool) : Type 0 where
    marked : 0 < wide_at t (onward t at 2)
    left : Good t d left_place
    right : Good t d right_place
    body : Good t d loop_place
    flag : a ≡ true → part await_place (onward t await_place 1) t ≡ byte_at t await_place ∷ []

  abbrev loop_more : List Field
  loop_more = must (Sort.child for_left) ∷ must (Sort.child expression) ∷ must (Sort.child statement) ∷ may (Sort.byte 0 1) ∷ []

  module _ (g : Good t (suc d) at) (k : byte_at t at ≡ 8) where
    for_of_bits : byte_at t (onward t at 1) ≡ cond (eqb (byte_at t (onward t at 1) / 16) 1) 31 15
    unfolding Mapped fields_of kinds
    for_of_bits =
        let w : Mapped (fields_of 8) (byte_at t (onward t at 1)) = bits_here t d at 8 g k in
        loop_map (byte_at t (onward t at 1)) w.0 w.1.0 w.1.1.0 w.1.1.1.0 w.1.1.1.1

    for_of_node : (a : Bool) → byte_at t (onward t at 1) ≡ cond a 31 15
        → look_node t (suc d) at
        ≡ seen (node at 8 (for_fields (wide_at t (onward t at 2)) (look_node t d left_place).value (look_node t d right_place).value (look_node t d loop_place).value (await_if a))) (cond a (onward t await_place 1) await_place)
    unfolding look_fields look_slot look_field fields_of kinds
    for_of_node true e =
        subst
        (λ (q : ℕ).
        let r : ℕ = (look_node t d q).next in
        let b : ℕ = (look_node t d r).next in
        let x : ℕ = (look_node t d b).next in
        look_node t (suc d) at
        ≡ seen (node at 8 (for_fields (wide_at t (onward t at 2)) (look_node t d q).value (look_node t d r).value (look_node t d b).value (Fields.field (Piece.byte (byte_at t x)) Fields.done))) (onward t x 1))
        on_four (node_as t d at 8 31 k e g)
    for_of_node false e =
        subst
        (λ (q : ℕ).
        let r : ℕ = (look_node t d q).next in
        let b : ℕ = (look_node t d r).next in
        look_node t (suc d) at ≡ seen (node at 8 (for_fields (wide_at t (onward t at 2)) (look_node t d q).value (look_node t d r).value (look_node t d b).value (Fields.absent Fields.done))) (look_node t d b).next)
        on_four (node_as t d at 8 15 k e g)

    for_of_parts : (a : Bool) → byte_at t (onward t at 1) ≡ cond a 31 15 → LoopParts a
    unfolding GoodFields GoodSlot GoodField look_slot look_field fields_of kinds is_container encode_piece
    for_of_parts true e =
        let u = below_as t d at 8 31 k e g in
        let w : GoodFields t (λ q. look_node t d q) (λ q. Good t d q) false loop_more 15 (onward t at 4) = rw (← on_four) u.1 in
        record { marked = u.0.positive (wide_at t (onward t at 2)) refl; left = w.0; right = w.1.0; body = w.1.1.0; flag = λ x. w.1.1.1.0.bytes }
    for_of_parts false e =
        let u = below_as t d at 8 15 k e g in
        let w : GoodFields t (λ q. look_node t d q) (λ q. Good t d q) false loop_more 7 (onward t at 4) = rw (← on_four) u.1 in
        record { marked = u.0.positive (wide_at t (onward t at 2)) refl; left = w.0; right = w.1.0; body = w.1.1.0; flag = λ x. absurd (false≢true x) }

  pub for_of_open : Good t (suc d) at → byte_at t at ≡ 8 → LoopOpen 8 (eqb (byte_at t (onward t at 1) / 16) 1)
  for_of_open g k =
      let a : Bool = eqb (byte_at t (onward t at 1) / 16) 1 in
      let n = for_of_node g k a (for_of_bits g k) in
      let w = for_of_parts g k a (for_of_bits g k) in
      let e = ap (λ (s : Seen Node). s.value) n in
      let f = loop_front 8 _ _ _ _ e g in
      record {
        more = await_if a;
        head = bytes_head _ f (omega arith);
        marked = w.marked;
        left = w.left;
        right = w.right;
        body = w.body;
        map = value_map t d at 8 _ e g;
        whole = e;
        plain = λ x. ap await_if x;
        awaits = λ x. ap await_if x;
        flag = w.flag;
        ends = ap (λ (s : Seen Node). s.next) n;
      }

-- ---- a pattern that is no object, no array and no default

pub leaf_here : (t : List ℕ) (d at k : ℕ) → k ≡ byte_at t at → (k ≡ 34 → ⊥) → (k ≡ 36 → ⊥) → (k ≡ 37 → ⊥) → shape (look_node t (suc d) at).value ≡ leaf
unfolding shape look_node
leaf_here t d at k h a b e =
    let x : eqb (byte_at t at) 34 ≡ false = ne_eqb (byte_at t at) 34 (λ z. a (h ∙ z)) in
    let y : eqb (byte_at t at) 36 ≡ false = ne_eqb (byte_at t at) 36 (λ z. b (h ∙ z)) in
    let w : eqb (byte_at t at) 37 ≡ false = ne_eqb (byte_at t at) 37 (λ z. e (h ∙ z)) in
    rw (x, y, w) refl
