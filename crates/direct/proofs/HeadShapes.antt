-- Well-formed heads, bodies and patterns that bind have the fields that the laws about heads speak of.
-- Assumes nothing.
use mathlib.Core.Path.{◌≡◌, refl, sym, ap, ap₂, ◌∙◌, subst}
use mathlib.Core.Option.{Option}
use mathlib.Core.Bool.{Bool, true, false, cond, ◌&&◌, false≢true}
use mathlib.Core.List.{List, [], ◌∷◌}
use mathlib.Core.Logic.{◌⊎◌, ⊎_elim}
use mathlib.Core.Logic.◌⊎◌.{inl, inr}
use Prim.Native.Nat.{ℕ, zero, suc, ◌-◌, ◌<◌}
use native.Mathlib.Omega.{arith}
use native.Mathlib.Decide.{dec_lt}
use lib.Dec.{eqb, ltb}
use borrow.Author.Tests.{eqb-true}
use Rattle.tree.specs.Tree.{Node, Fields, Piece, Items, map_of}
use Rattle.tree.specs.Tree.Node.{node}
use Rattle.tree.specs.Grammar.{Sort, Field, places, allowed, kind_of, form_in, form_at, fields_of, kinds, variants}
use Rattle.tree.specs.Grammar.Stage.{input}
use Rattle.tree.specs.Grammar.Field.{must, may}
use Rattle.tree.specs.Read.{sort_in}
use Rattle.tree.specs.WellFormed.{byte_in, Fits, FitFields, FitPiece, FitItems}
use Rattle.tree.proofs.Look.{kind_at}
use Rattle.lowering.specs.Parts.{is}
use Rattle.lowering.specs.Walk.{rule_of}
use Rattle.lowering.specs.Collect.{is_container}
use Rattle.lowering.proofs.Cases.{by_test, and_left, and_right}
use Rattle.direct.specs.Events.{Place, Emit, puts, emits}
use Rattle.direct.specs.Emit.{say, ◌▷◌, below, emits_piece, emits_parts, stays}
use Rattle.direct.proofs.OneLevel.{emits_nowhere}
use Rattle.direct.specs.Moved.{given, for_fields}
use Rattle.lowering.proofs.Accepted.{late, early, lately}

-- ---- forms

late_kind : (i k : ℕ) → late i ≡ k → 0 < k → k < 34 → (k ≡ 14) × (i < 2)
late_kind zero k e a b = (sym e, omega arith)
late_kind (suc zero) k e a b = (sym e, omega arith)
late_kind (suc (suc zero)) k e a b = absurd (omega arith)
late_kind (suc (suc (suc zero))) k e a b = absurd (omega arith)
late_kind (suc (suc (suc (suc zero)))) k e a b = absurd (omega arith)
late_kind (suc (suc (suc (suc (suc zero))))) k e a b = absurd (omega arith)
late_kind (suc (suc (suc (suc (suc (suc i)))))) k e a b = absurd (omega arith)

pub form_is : (f k : ℕ) → kind_of f ≡ k → 0 < k → k < 34 → (k ≡ 14 → ⊥) → f ≡ k
form_is f k e a b c = elim (dec_lt f 64) [
  | yes h ↦ sym (early f h) ∙ e
  | no h ↦ absurd (c (late_kind (f - 64) k (sym (lately f (omega arith)) ∙ e) a b).0)
]

form_14 : (f : ℕ) → kind_of f ≡ 14 → (f ≡ 14) ⊎ (f ≡ 64) ⊎ (f ≡ 65)
form_14 f e = elim (dec_lt f 64) [
  | yes h ↦ inl (sym (early f h) ∙ e)
  | no h ↦
      let l : f - 64 < 2 = (late_kind (f - 64) 14 (sym (lately f (omega arith)) ∙ e) (omega arith) (omega arith)).1 in
      elim (dec_lt f 65) [ yes g ↦ inr (inl (omega arith)) | no g ↦ inr (inr (omega arith)) ]
]

-- the fields of a node of a kind with one form
pub fields_in : {p at k : ℕ} {fs : Fields} → Fits input p (node at k fs) → 0 < k → k < 34 → (k ≡ 14 → ⊥) → FitFields input 0 (fields_of k) fs
fields_in (Fits.fits {p = p} {k = k} {fs = fs} pos ff) a b c =
    subst (λ (f : ℕ). FitFields input 0 (fields_of f) fs) (form_is (form_at input p k) k (kind_at input p k pos) a b c) ff

-- ---- fields one by one

record Led (s : Sort) (b : ℕ) (ts : List Field) (fs : Fields) : Type 0 where
  piece : Piece
  more : Fields
  same : fs ≡ Fields.field piece more
  piece_fits : FitPiece input b s piece
  more_fit : FitFields input (byte_in piece) ts more

led : {s : Sort} {b : ℕ} {ts : List Field} {fs : Fields} → FitFields input b (must s ∷ ts) fs → Led s b ts fs
led (FitFields.field {p = x} {fs = fs} h f) = record { piece = x; more = fs; same = refl; piece_fits = h; more_fit = f }

record Node-at (p : ℕ) (x : Piece) : Type 0 where
  part : Node
  same : x ≡ Piece.one part
  part_fits : Fits input p part

node_at : {b p : ℕ} {x : Piece} → FitPiece input b (Sort.child p) x → Node-at p x
node_at (FitPiece.child {n = n} h) = record { part = n; same = refl; part_fits = h }

record List-at (p : ℕ) (h : Bool) (x : Piece) : Type 0 where
  part : Items
  same : x ≡ Piece.list part
  part_fits : FitItems input p h part

list_at : {b p : ℕ} {x : Piece} → FitPiece input b (Sort.many p) x → List-at p false x
list_at (FitPiece.many {is = ns} l h) = record { part = ns; same = refl; part_fits = h }

record Mark-at (x : Piece) : Type 0 where
  part : ℕ
  same : x ≡ Piece.mark part

mark_at_lem : {b : ℕ} {x : Piece} → FitPiece input b Sort.mark x → Mark-at x
mark_at_lem (FitPiece.mark {m = m} l) = record { part = m; same = refl }

record Byte-at (x : Piece) : Type 0 where
  part : ℕ
  same : x ≡ Piece.byte part

byte_at_lem : {b low high : ℕ} {x : Piece} → FitPiece input b (Sort.byte low high) x → Byte-at x
byte_at_lem (FitPiece.byte {v = v} l h k) = record { part = v; same = refl }

ended : {b : ℕ} {fs : Fields} → FitFields input b [] fs → fs ≡ Fields.done
ended FitFields.done = refl

-- a node that may be absent
abbrev pub FitGiven : ℕ → Option Node → Type 0
FitGiven p Option.none = Unit {0}
FitGiven p (Option.some n) = Fits input p n

record Given-at (p : ℕ) (ts : List Field) (fs : Fields) : Type 0 where
  part : Option Node
  more : Fields
  same : fs ≡ given part more
  part_fits : FitGiven p part
  next : ℕ
  more_fit : FitFields input next ts more

given_at : {b p : ℕ} {ts : List Field} {fs : Fields} → FitFields input b (may (Sort.child p) ∷ ts) fs → Given-at p ts fs
given_at (FitFields.absent {fs = fs} f) = record { part = Option.none; more = fs; same = refl; part_fits = tt; next = 0; more_fit = f }
given_at (FitFields.field {p = x} {fs = fs} h f) =
    let n = node_at h in
    record { part = Option.some n.part; more = fs; same = ap (λ (y : Piece). Fields.field y fs) n.same; part_fits = n.part_fits; next = byte_in x; more_fit = f }

-- ---- functions; with a body the fields are functionFields

pub record FunctionFits (fs : Fields) : Type 0 where
  pub mark : ℕ
  pub sort : ℕ
  pub name : Option Node
  pub params : Items
  pub rest : Option Node
  pub body : Option Node
  pub fields : fs ≡ Fields.field (Piece.mark mark) (Fields.field (Piece.byte sort) (given name (Fields.field (Piece.list params) (given rest (given body Fields.done)))))
  pub body_fits : FitGiven 8 body

function_in : {i low high : ℕ} {fs : Fields}
    → FitFields input i (must Sort.mark ∷ must (Sort.byte low high) ∷ may (Sort.child 16) ∷ must (Sort.many 7) ∷ may (Sort.child 15) ∷ may (Sort.child 8) ∷ []) fs
    → FunctionFits fs
function_in f =
    let a = led f in
    let m = mark_at_lem a.piece_fits in
    let b = led a.more_fit in
    let s = byte_at_lem b.piece_fits in
    let n = given_at b.more_fit in
    let q = led n.more_fit in
    let qs = list_at q.piece_fits in
    let r = given_at q.more_fit in
    let d = given_at r.more_fit in
    record {
      mark = m.part;
      sort = s.part;
      name = n.part;
      params = qs.part;
      rest = r.part;
      body = d.part;
      fields =
          a.same
          ∙ ap₂ Fields.field m.same
          (b.same
          ∙ ap₂ Fields.field s.same
          (n.same
          ∙ ap (given n.part)
          (q.same ∙ ap₂ Fields.field qs.same (r.same ∙ ap (given r.part) (d.same ∙ ap (given d.part) (ended d.more_fit))))));
      body_fits = d.part_fits;
    }

-- the fields by the form
fields_at : {p at k : ℕ} {fs : Fields} → Fits input p (node at k fs) → FitFields input 0 (fields_of (form_at input p k)) fs
fields_at (Fits.fits pos ff) = ff

pub form_there : {p at k : ℕ} {fs : Fields} → Fits input p (node at k fs) → 0 < form_at input p k
form_there (Fits.fits pos ff) = pos

pub function_fits : {p at : ℕ} {fs : Fields} → Fits input p (node at 14 fs) → FunctionFits fs
unfolding fields_of kinds variants
function_fits {p = p} {fs = fs} f =
    let g : FitFields input 0 (fields_of (form_at input p 14)) fs = fields_at f in
    let at : (j : ℕ) → form_at input p 14 ≡ j → FitFields input 0 (fields_of j) fs = λ j e. subst (λ (x : ℕ). FitFields input 0 (fields_of x) fs) e g in
    ⊎_elim
    (λ e. function_in (at 14 e))
    (λ w. ⊎_elim (λ e. function_in (at 64 e)) (λ e. function_in (at 65 e)) w)
    (form_14 (form_at input p 14) (kind_at input p 14 (form_there f)))

-- ---- catches

pub record CatchFits (fs : Fields) : Type 0 where
  pub param : Option Node
  pub body : Node
  pub fields : fs ≡ given param (Fields.field (Piece.one body) Fields.done)
  pub param_fits : FitGiven 7 param
  pub body_fits : Fits input 5 body

catch_in : {i : ℕ} {fs : Fields} → FitFields input i (may (Sort.child 7) ∷ must (Sort.child 5) ∷ []) fs → CatchFits fs
catch_in f =
    let q = given_at f in
    let d = led q.more_fit in
    let b = node_at d.piece_fits in
    record {
      param = q.part;
      body = b.part;
      fields = q.same ∙ ap (given q.part) (d.same ∙ ap₂ Fields.field b.same (ended d.more_fit));
      param_fits = q.part_fits;
      body_fits = b.part_fits;
    }

pub catch_fits : {p at : ℕ} {fs : Fields} → Fits input p (node at 10 fs) → CatchFits fs
unfolding fields_of kinds
catch_fits f = catch_in (fields_in f (omega arith) (omega arith) (λ e. omega arith))

-- ---- loops

-- what stands behind the body
pub data Await : Fields → Type 0 where
  none : Await Fields.done
  absent : Await (Fields.absent Fields.done)
  byte : {b : ℕ} → Await (Fields.field (Piece.byte b) Fields.done)

pub record ForFits (fs : Fields) : Type 0 where
  pub mark : ℕ
  pub left : Node
  pub right : Node
  pub body : Node
  pub more : Fields
  pub fields : fs ≡ for_fields mark left right body more
  pub body_fits : Fits input 1 body
  pub awaits : Await more

for_in_lem : {i : ℕ} {ts : List Field} {fs : Fields} → ((j : ℕ) (gs : Fields) → FitFields input j ts gs → Await gs)
    → FitFields input i (must Sort.mark ∷ must (Sort.child 21) ∷ must (Sort.child 3) ∷ must (Sort.child 1) ∷ ts) fs
    → ForFits fs
for_in_lem w f =
    let a = led f in
    let m = mark_at_lem a.piece_fits in
    let b = led a.more_fit in
    let l = node_at b.piece_fits in
    let c = led b.more_fit in
    let r = node_at c.piece_fits in
    let d = led c.more_fit in
    let n = node_at d.piece_fits in
    record {
      mark = m.part;
      left = l.part;
      right = r.part;
      body = n.part;
      more = d.more;
      fields =
          a.same
          ∙ ap₂ Fields.field m.same
          (b.same ∙ ap₂ Fields.field l.same (c.same ∙ ap₂ Fields.field r.same (d.same ∙ ap (λ (x : Piece). Fields.field x d.more) n.same)));
      body_fits = n.part_fits;
      awaits = w (byte_in d.piece) d.more d.more_fit;
    }

no_await : {j : ℕ} {gs : Fields} → FitFields input j [] gs → Await gs
no_await f = subst Await (sym (ended f)) Await.none

await_in : {j low high : ℕ} {gs : Fields} → FitFields input j (may (Sort.byte low high) ∷ []) gs → Await gs
await_in (FitFields.absent f) = subst (λ (x : Fields). Await (Fields.absent x)) (sym (ended f)) Await.absent
await_in (FitFields.field h f) =
    let b = byte_at_lem h in
    subst Await (sym (ap₂ Fields.field b.same (ended f))) (Await.byte {b = b.part})

pub for_in_fits : {p at : ℕ} {fs : Fields} → Fits input p (node at 7 fs) → ForFits fs
unfolding fields_of kinds
for_in_fits f = for_in_lem (λ j gs. no_await) (fields_in f (omega arith) (omega arith) (λ e. omega arith))

pub for_of_fits : {p at : ℕ} {fs : Fields} → Fits input p (node at 8 fs) → ForFits fs
unfolding fields_of kinds
for_of_fits f = for_in_lem (λ j gs. await_in) (fields_in f (omega arith) (omega arith) (λ e. omega arith))

-- ---- Params and Declarators

one_form : (j k : ℕ) → 0 < cond (ltb k 64) (cond (eqb j k) j 0) 0 → k ≡ j
one_form j k h = go (ltb k 64) (eqb j k) refl h
  where
    go : (b d : Bool) → eqb j k ≡ d → 0 < cond b (cond d j 0) 0 → k ≡ j
    go true true e z = sym (eqb-true j k e)
    go true false e z = absurd (omega arith)
    go false d e z = absurd (omega arith)

-- at the places for them nothing else may stand
pub param_kind : {at k : ℕ} {fs : Fields} → Fits input 7 (node at k fs) → k ≡ 15
unfolding form_at allowed places form_in kind_of
param_kind {k = k} f = one_form 15 k (form_there f)

-- ---- bodies

pub function_body_kind : {at k : ℕ} {fs : Fields} → Fits input 8 (node at k fs) → k ≡ 16
unfolding form_at allowed places form_in kind_of
function_body_kind {k = k} f = one_form 16 k (form_there f)

pub catch_body_kind : {at k : ℕ} {fs : Fields} → Fits input 5 (node at k fs) → k ≡ 2
unfolding form_at allowed places form_in kind_of
catch_body_kind {k = k} f = one_form 2 k (form_there f)

-- a kind that may not stand at a place
never : {p : ℕ} (j : ℕ) → form_at input p j ≡ 0 → (n : Node) → Fits input p n → is j n ≡ false
unfolding is
never {p = p} j z (node at k fs) f =
    by_test (eqb k j)
    (λ e.
    let y : k ≡ j = eqb-true k j e in
    let h : 0 < form_at input p j = subst (λ (x : ℕ). 0 < form_at input p x) y (form_there f) in
    absurd (omega arith))
    (λ e. e)

-- neither an Object nor an Assignment is a statement
pub statement_24 : (n : Node) → Fits input 1 n → is 24 n ≡ false
unfolding form_at allowed places form_in kind_of
statement_24 n f = never 24 refl n f

pub statement_27 : (n : Node) → Fits input 1 n → is 27 n ≡ false
unfolding form_at allowed places form_in kind_of
statement_27 n f = never 27 refl n f

-- a statement begins with its mark

is_mark : Sort → Bool
is_mark (Sort.child p) = false
is_mark (Sort.chosen p q) = false
is_mark (Sort.many p) = false
is_mark (Sort.gaps p) = false
is_mark Sort.text = false
is_mark (Sort.byte low high) = false
is_mark Sort.mark = true
is_mark Sort.number = false

leads : Field → Bool
unfolding is_mark
leads (must s) = is_mark s
leads (may s) = false

leads_in : List Field → Bool
unfolding leads
leads_in [] = false
leads_in (f ∷ fs) = leads f

all_lead : List ℕ → Bool
unfolding leads_in
all_lead [] = true
all_lead (f ∷ fs) = leads_in (fields_of f) && all_lead fs

pub record StatementFits (fs : Fields) : Type 0 where
  pub mark : ℕ
  pub more : Fields
  pub fields : fs ≡ Fields.field (Piece.mark mark) more

mark_piece : {b : ℕ} {s : Sort} {x : Piece} → FitPiece input b s x → is_mark s ≡ true → Mark-at x
unfolding is_mark
mark_piece (FitPiece.child f) e = absurd (false≢true e)
mark_piece (FitPiece.chosen f) e = absurd (false≢true e)
mark_piece (FitPiece.many n f) e = absurd (false≢true e)
mark_piece (FitPiece.gaps n f) e = absurd (false≢true e)
mark_piece (FitPiece.text n f) e = absurd (false≢true e)
mark_piece (FitPiece.byte m n f) e = absurd (false≢true e)
mark_piece (FitPiece.mark {m = m} n) e = record { part = m; same = refl }
mark_piece (FitPiece.number n) e = absurd (false≢true e)

sort_leads : (f : Field) → leads f ≡ true → is_mark (sort_in f) ≡ true
unfolding leads
sort_leads (must s) e = e
sort_leads (may s) e = absurd (false≢true e)

mark_first_lem : {b : ℕ} {ts : List Field} {fs : Fields} → FitFields input b ts fs → leads_in ts ≡ true → StatementFits fs
unfolding leads_in leads
mark_first_lem FitFields.done e = absurd (false≢true e)
mark_first_lem (FitFields.absent f) e = absurd (false≢true e)
mark_first_lem (FitFields.field {f = g} {p = x} {fs = fs} h f) e =
    let m = mark_piece h (sort_leads g e) in
    record { mark = m.part; more = fs; fields = ap (λ (y : Piece). Fields.field y fs) m.same }

form_leads : (fs : List ℕ) (k : ℕ) → all_lead fs ≡ true → 0 < form_in fs k → leads_in (fields_of (form_in fs k)) ≡ true
unfolding form_in all_lead
form_leads [] k e h = absurd (omega arith)
form_leads (f ∷ fs) k e h =
    go (eqb (kind_of f) k) (and_left (leads_in (fields_of f)) (all_lead fs) e) (λ z. form_leads fs k (and_right (leads_in (fields_of f)) (all_lead fs) e) z) h
  where
    go : (b : Bool) → leads_in (fields_of f) ≡ true → (0 < form_in fs k → leads_in (fields_of (form_in fs k)) ≡ true) → 0 < cond b f (form_in fs k)
        → leads_in (fields_of (cond b f (form_in fs k))) ≡ true
    go true u r z = u
    go false u r z = r z

statements_lead : all_lead (allowed input 1) ≡ true
unfolding all_lead leads_in leads is_mark allowed places fields_of kinds variants
statements_lead = refl

statement_leads : (k : ℕ) → 0 < form_at input 1 k → leads_in (fields_of (form_at input 1 k)) ≡ true
unfolding form_at
statement_leads k h = go (ltb k 64) h
  where
    go : (b : Bool) → 0 < cond b (form_in (allowed input 1) k) 0 → leads_in (fields_of (cond b (form_in (allowed input 1) k) 0)) ≡ true
    go true z = form_leads (allowed input 1) k statements_lead z
    go false z = absurd (omega arith)

pub statement_fits : {at k : ℕ} {fs : Fields} → Fits input 1 (node at k fs) → StatementFits fs
statement_fits {k = k} f = mark_first_lem (fields_at f) (statement_leads k (form_there f))

-- ---- directives, which are Literals

bare_sort : Sort → Bool
bare_sort (Sort.child p) = false
bare_sort (Sort.chosen p q) = false
bare_sort (Sort.many p) = false
bare_sort (Sort.gaps p) = false
bare_sort Sort.text = true
bare_sort (Sort.byte low high) = true
bare_sort Sort.mark = true
bare_sort Sort.number = true

all_bare : List Field → Bool
all_bare [] = true
all_bare (f ∷ fs) = bare_sort (sort_in f) && all_bare fs

-- fields that hold no node do the same at any place
module _ (l k : Bool) (c d : Place) where
  bare_piece_lem : {b : ℕ} {s : Sort} {x : Piece} → FitPiece input b s x → bare_sort s ≡ true → emits_piece l c x ≡ emits_piece k d x
  unfolding bare_sort emits_piece
  bare_piece_lem (FitPiece.child f) e = absurd (false≢true e)
  bare_piece_lem (FitPiece.chosen f) e = absurd (false≢true e)
  bare_piece_lem (FitPiece.many n f) e = absurd (false≢true e)
  bare_piece_lem (FitPiece.gaps n f) e = absurd (false≢true e)
  bare_piece_lem (FitPiece.text n f) e = refl
  bare_piece_lem (FitPiece.byte m n f) e = refl
  bare_piece_lem (FitPiece.mark n) e = refl
  bare_piece_lem (FitPiece.number n) e = refl

bare_fields_lem : (l k : Bool) (c d : ℕ → Place) {b : ℕ} {ts : List Field} {fs : Fields} → FitFields input b ts fs → all_bare ts ≡ true → emits_parts l c fs ≡ emits_parts k d fs
unfolding all_bare emits_parts
bare_fields_lem l k c d FitFields.done e = refl
bare_fields_lem l k c d (FitFields.absent {t = t} {ts = ts} f) e = bare_fields_lem l k (λ i. c (suc i)) (λ i. d (suc i)) f (and_right (bare_sort t) (all_bare ts) e)
bare_fields_lem l k c d (FitFields.field {f = g} {ts = ts} h f) e =
    ap₂ (λ (x y : Emit). x ▷ y) (bare_piece_lem l k (c 0) (d 0) h (and_left (bare_sort (sort_in g)) (all_bare ts) e))
    (bare_fields_lem l k (λ i. c (suc i)) (λ i. d (suc i)) f (and_right (bare_sort (sort_in g)) (all_bare ts) e))

literal_kind : {at k : ℕ} {fs : Fields} → Fits input 10 (node at k fs) → k ≡ 22
unfolding form_at allowed places form_in kind_of
literal_kind {k = k} f = one_form 22 k (form_there f)

literal_22 : (c d : Place) (at : ℕ) (fs : Fields) → FitFields input 0 (fields_of 22) fs → emits c (node at 22 fs) ≡ emits d (node at 22 fs)
unfolding fields_of kinds all_bare bare_sort rule_of stays is_container
literal_22 c d at fs f =
    let n = node at 22 fs in
    emits_nowhere c n refl
    ∙ ap (λ (x : Emit). say (puts (22 ∷ map_of fs ∷ [])) ▷ x) (bare_fields_lem false false (below c n) (below d n) f refl)
    ∙ sym (emits_nowhere d n refl)

pub literal_anywhere : (c d : Place) (n : Node) → Fits input 10 n → emits c n ≡ emits d n
literal_anywhere c d (node at k fs) f =
    let e = literal_kind f in
    let g : Fits input 10 (node at 22 fs) = subst (λ (x : ℕ). Fits input 10 (node at x fs)) e f in
    subst (λ (x : ℕ). emits c (node at x fs) ≡ emits d (node at x fs)) (sym e) (literal_22 c d at fs (fields_in g (omega arith) (omega arith) (λ z. omega arith)))
