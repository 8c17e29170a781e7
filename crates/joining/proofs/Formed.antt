-- The joined tree keeps to the grammar.
-- Assumes nothing.
use Prim.Native.Nat.{ℕ, zero, suc, ◌+◌, ◌-◌, ◌<◌, ◌≤◌}
use mathlib.Core.Path.{◌≡◌, refl, sym, ap, ap₂, subst, ◌∙◌}
use mathlib.Core.List.{List, [], ◌∷◌, ◌++◌}
use mathlib.Core.Bool.{Bool, true, false, cond, ◌||◌}
use mathlib.Core.Option.{Option, none, some}
use native.Mathlib.Omega.{arith}
use native.Mathlib.Decide.{dec_lt}
use lib.Dec.{eqb, ltb}
use lib.ListN.{length, get_or, length-append}
use borrow.Author.Tests.{ne_eqb, lt-ltb, le-ltb}
use Rattle.tree.specs.Tree.{Node, Fields, Piece, Items, count, encode, encode_fields, encode_piece, encode_items}
use Rattle.tree.specs.Tree.Node.{node}
use Rattle.tree.specs.Tree.Fields.{done, field}
use Rattle.tree.specs.Tree.Piece.{one, list, text, byte, mark, number}
use Rattle.tree.specs.Tree.Items.{hole, item}
use Rattle.tree.specs.Grammar.{Sort, Field, root, among, places, allowed, also, kind_of, form_in, form_at, fields_of, kinds, variants}
use Rattle.tree.specs.Grammar.Field.{must, may}
use Rattle.tree.specs.Grammar.Stage.{rewritten}
use Rattle.tree.specs.WellFormed.{byte_in, Fits, FitFields, FitPiece, FitItems}
use Rattle.tree.specs.Read.{sort_in}
use Rattle.tree.proofs.Sound.{never}
use Rattle.tree.proofs.Look.{kind_at}
use Rattle.tree.proofs.EncodedLengths.{count_short}
use Rattle.rewritten.proofs.Marks.{by_same}
use Rattle.lowering.specs.Collect.{Entry}
use Rattle.joining.specs.List.{FitDeclarators, FitEntries}
use Rattle.joining.specs.Join.{is_container, piece_mark, first_mark, own_mark, declaration, handed_to, handed_by, before, vars, news, news_piece, join, join_fields, join_piece, join_items, headed, joined_by}
use Rattle.joining.proofs.JoinedWritten.{Program}

-- ---- containers hold statements, and a FunctionBody directives too

-- the places of their lists
abbrev held : ℕ → Bool
held p = among (1 ∷ 10 ∷ []) p

abbrev good_sort : Sort → Bool
good_sort (Sort.child p) = true
good_sort (Sort.chosen p q) = true
good_sort (Sort.many p) = held p
good_sort (Sort.gaps p) = false
good_sort Sort.text = true
good_sort (Sort.byte low high) = true
good_sort Sort.mark = true
good_sort Sort.number = true

unfoldable good : List Field → Bool
good [] = true
good (f ∷ fs) = cond (good_sort (sort_in f)) (good fs) false

good_first : (f : Field) (fs : List Field) → good (f ∷ fs) ≡ true → good_sort (sort_in f) ≡ true
unfolding good
good_first f fs h = go (good_sort (sort_in f)) h
  where
    go : (b : Bool) → cond b (good fs) false ≡ true → b ≡ true
    go true g = refl
    go false g = never g

good_rest : (f : Field) (fs : List Field) → good (f ∷ fs) ≡ true → good fs ≡ true
unfolding good
good_rest f fs h = go (good_sort (sort_in f)) h
  where
    go : (b : Bool) → cond b (good fs) false ≡ true → good fs ≡ true
    go true g = g
    go false g = never g

good_kind : (k : ℕ) → is_container k ≡ true → good (fields_of k) ≡ true
unfolding good fields_of kinds among
good_kind k c =
    by_same k 1 (λ e. rw e refl) (λ a.
    by_same k 2 (λ e. rw e refl) (λ b.
    by_same k 16 (λ e. rw e refl) (λ d.
    by_same k 42 (λ e. rw e refl) (λ f.
    by_same k 44 (λ e. rw e refl) (λ g.
    never (rw (ne_eqb 1 k (λ w. a (sym w)), ne_eqb 2 k (λ w. b (sym w)), ne_eqb 16 k (λ w. d (sym w)), ne_eqb 42 k (λ w. f (sym w)), ne_eqb 44 k (λ w. g (sym w))) at c))))))

no_variant : (n : ℕ) → is_container (get_or (14 ∷ 14 ∷ 34 ∷ 35 ∷ 36 ∷ 37 ∷ []) n 0) ≡ false
unfolding among
no_variant zero = refl
no_variant (suc zero) = refl
no_variant (suc (suc zero)) = refl
no_variant (suc (suc (suc zero))) = refl
no_variant (suc (suc (suc (suc zero)))) = refl
no_variant (suc (suc (suc (suc (suc zero))))) = refl
no_variant (suc (suc (suc (suc (suc (suc n)))))) = refl

-- a container has one form
one_form : (f k : ℕ) → kind_of f ≡ k → is_container k ≡ true → f ≡ k
unfolding kind_of
one_form f k e c = elim (dec_lt f 64) [
  | yes h ↦ rw (lt-ltb f 64 h) at e
  | no h ↦ never (sym (no_variant (f - 64)) ∙ ap (λ (x : ℕ). is_container x) (rw (le-ltb f 64 (omega arith)) at e) ∙ c)
]

good_at : (p k : ℕ) → 0 < form_at rewritten p k → is_container k ≡ true → good (fields_of (form_at rewritten p k)) ≡ true
good_at p k pos c = ap (λ (f : ℕ). good (fields_of f)) (one_form (form_at rewritten p k) k (kind_at rewritten p k pos) c) ∙ good_kind k c

-- ---- a directive has no mark

literal_only : (k : ℕ) → 0 < form_at rewritten 10 k → k ≡ 22
unfolding form_at allowed places also among form_in kind_of
literal_only k h = by_same k 22 (λ e. e) (λ d. absurd (nothing (ltb k 64) (rw (ne_eqb 22 k (λ w. d (sym w))) at h)))
  where
    nothing : (b : Bool) → 0 < cond b 0 0 → ⊥
    nothing true g = omega arith
    nothing false g = omega arith

literal_fields : fields_of (form_at rewritten 10 22) ≡ must (Sort.byte 1 6) ∷ must Sort.text ∷ may Sort.text ∷ []
unfolding form_at allowed places also among form_in kind_of fields_of kinds variants
literal_fields = refl

byte_piece : {b : ℕ} {t : Sort} {p : Piece} → FitPiece rewritten b t p → t ≡ Sort.byte 1 6 → piece_mark p ≡ none
byte_piece (FitPiece.child f) e = refl
byte_piece (FitPiece.chosen f) e = refl
byte_piece (FitPiece.many c f) e = refl
byte_piece (FitPiece.gaps c f) e = refl
byte_piece (FitPiece.text c f) e = refl
byte_piece (FitPiece.byte x y z) e = refl
byte_piece (FitPiece.mark c) e = let z : ◌≡◌ {A = ℕ} 0 1 = cc in absurd (omega arith)
byte_piece (FitPiece.number c) e = refl

no_mark : {b : ℕ} {ts : List Field} {fs : Fields} → FitFields rewritten b ts fs → ts ≡ must (Sort.byte 1 6) ∷ must Sort.text ∷ may Sort.text ∷ [] → first_mark fs ≡ none
unfolding first_mark
no_mark FitFields.done e = refl
no_mark (FitFields.absent g) e = let z : ◌≡◌ {A = ℕ} 0 1 = cc in absurd (omega arith)
no_mark (FitFields.field {f = f} {ts = ts} {p = p} {fs = gs} u g) e = let one' : f ≡ must (Sort.byte 1 6) = cc in byte_piece u (ap sort_in one')

own_none : {p : ℕ} {n : Node} → Fits rewritten p n → p ≡ 10 → own_mark n ≡ none
own_none (Fits.fits {p = p} {k = k} {fs = fs} pos ff) e =
    let at-ten : 0 < form_at rewritten 10 k = subst (λ (x : ℕ). 0 < form_at rewritten x k) e pos in
    let it : k ≡ 22 = literal_only k at-ten in
    no_mark ff (ap₂ (λ (x y : ℕ). fields_of (form_at rewritten x y)) e it ∙ literal_fields)

-- ---- a new statement is a statement

statement_form : form_at rewritten 1 4 ≡ 4
unfolding form_at allowed places also among form_in kind_of
statement_form = refl

declaration_fields_lem : fields_of 4 ≡ must Sort.mark ∷ must (Sort.byte 1 3) ∷ must (Sort.many 4) ∷ []
unfolding fields_of kinds variants
declaration_fields_lem = refl

behind_byte : {b d : ℕ} {t : Sort} {p : Piece} → FitPiece rewritten b t p → t ≡ Sort.many 4 → FitPiece rewritten d t p
behind_byte (FitPiece.child f) e = FitPiece.child f
behind_byte (FitPiece.chosen f) e = let z : ◌≡◌ {A = ℕ} 0 1 = cc in absurd (omega arith)
behind_byte (FitPiece.many c f) e = FitPiece.many c f
behind_byte (FitPiece.gaps c f) e = FitPiece.gaps c f
behind_byte (FitPiece.text c f) e = FitPiece.text c f
behind_byte (FitPiece.byte x y z) e = FitPiece.byte x y z
behind_byte (FitPiece.mark c) e = FitPiece.mark c
behind_byte (FitPiece.number c) e = FitPiece.number c

pub declaration_fits : (kind m : ℕ) (ds : Items) → 1 ≤ kind → kind ≤ 3 → m < 65536 → FitDeclarators ds → Fits rewritten 1 (declaration kind m ds)
declaration_fits kind m ds a b c d =
    let pos : 0 < form_at rewritten 1 4 = rw statement_form (omega arith) in
    let top : kind < 256 = omega arith in
    let fits' : FitFields rewritten 0 (must Sort.mark ∷ must (Sort.byte 1 3) ∷ must (Sort.many 4) ∷ []) (field (mark m) (field (byte kind) (field (list ds) done))) = FitFields.field (FitPiece.mark c) (FitFields.field (FitPiece.byte a b top) (FitFields.field (behind_byte d refl) FitFields.done)) in
    let all : FitFields rewritten 0 (fields_of (form_at rewritten 1 4)) (field (mark m) (field (byte kind) (field (list ds) done))) = subst (λ (ts : List Field). FitFields rewritten 0 ts (field (mark m) (field (byte kind) (field (list ds) done)))) (sym (ap fields_of statement_form ∙ declaration_fields_lem)) fits' in
    Fits.fits pos all

abbrev AllFit : List Items → Type 0
AllFit [] = Unit {0}
AllFit (d ∷ ds) = FitDeclarators d × AllFit ds

handed_fit : (es : List Entry) → FitEntries es → (m : ℕ) → AllFit (handed_to es m)
unfolding handed_to
handed_fit [] f m = tt
handed_fit (e ∷ es) f m = go (eqb e.containing m) (handed_fit es f.2 m)
  where
    go : (b : Bool) → AllFit (handed_to es m) → AllFit (cond b (e.declarators ∷ handed_to es m) (handed_to es m))
    go true r = (f.1, r)
    go false r = r

-- ---- through the tree

module _ (free : ℕ → ℕ) (es : List Entry) (small : (i : ℕ) → free i < 65536) (fe : FitEntries es) where
  vars_fit : (h : Bool) (ds : List Items) (i : ℕ) (is : Items) → AllFit ds → FitItems rewritten 1 h is → FitItems rewritten 1 h (vars free es i ds is)
  unfolding vars
  vars_fit h [] i is a g = g
  vars_fit h (d ∷ ds) i is a g = FitItems.item (declaration_fits 1 (free i) d (omega arith) (omega arith) (small i) a.0) (vars_fit h ds (suc i) is a.1 g)

  vars_long : (ds : List Items) (i : ℕ) (is : Items) → length (encode_items is) ≤ length (encode_items (vars free es i ds is))
  unfolding vars encode_items
  vars_long [] i is = omega arith
  vars_long (d ∷ ds) i is = let r : length (encode_items is) ≤ length (encode_items (vars free es (suc i) ds is)) = vars_long ds (suc i) is in omega (arith, length-append (encode (declaration 1 (free i) d)) (encode_items (vars free es (suc i) ds is)))

  by_fit : (o : Option ℕ) → AllFit (handed_by es o)
  by_fit none = tt
  by_fit (some m) = handed_fit es fe m

  marked_none : (o : Option ℕ) → o ≡ none → (i : ℕ) (is : Items) → vars free es i (handed_by es o) is ≡ is
  unfolding vars
  marked_none none e i is = refl
  marked_none (some m) e i is = let z : ◌≡◌ {A = ℕ} 0 1 = cc in absurd (omega arith)

  before_fit : (c : Bool) (p : ℕ) (h : Bool) (n : Node) (i : ℕ) (is : Items) → (c ≡ true → held p ≡ true) → Fits rewritten p n → FitItems rewritten p h is → FitItems rewritten p h (vars free es i (before free es c n) is)
  unfolding vars among
  before_fit false p h n i is q f g = g
  before_fit true p h n i is q f g =
      by_same p 1
      (λ e. subst (λ (x : ℕ). FitItems rewritten x h (vars free es i (before free es true n) is)) (sym e) (vars_fit h (before free es true n) i is (by_fit (own_mark n)) (subst (λ (x : ℕ). FitItems rewritten x h is) e g)))
      (λ a. by_same p 10
      (λ e. subst (λ (x : Items). FitItems rewritten p h x) (sym (marked_none (own_mark n) (own_none f e) i is)) g)
      (λ b. never (sym (ap₂ (λ (x y : Bool). cond x true (cond y true false)) (ne_eqb 1 p (λ w. a (sym w))) (ne_eqb 10 p (λ w. b (sym w)))) ∙ opened (eqb 1 p) (eqb 10 p) (q refl))))
    where
      opened : (x y : Bool) → (x || (y || false)) ≡ true → cond x true (cond y true false) ≡ true
      opened true y e = refl
      opened false true e = refl
      opened false false e = e

  byte_joined : (c : Bool) (i : ℕ) (p : Piece) → byte_in (join_piece free es c i p) ≡ byte_in p
  unfolding join_piece
  byte_joined c i (one n) = refl
  byte_joined c i (list is) = refl
  byte_joined c i (text bs) = refl
  byte_joined c i (byte b) = refl
  byte_joined c i (mark m) = refl
  byte_joined c i (number m) = refl

  mutual
    unfolding join join_fields join_piece join_items encode encode_fields encode_piece encode_items

    pub node_fit : {p : ℕ} {n : Node} → Fits rewritten p n → (i : ℕ) → length (encode (join free es i n)) ≤ 32768 → Fits rewritten p (join free es i n)
    node_fit (Fits.fits {p = p} {k = k} {fs = fs} pos ff) i s = Fits.fits pos (fields_fit (is_container k) ff (λ c. good_at p k pos c) i (omega arith))

    fields_fit : {b : ℕ} {ts : List Field} {fs : Fields} (c : Bool) → FitFields rewritten b ts fs → (c ≡ true → good ts ≡ true) → (i : ℕ) → length (encode_fields (join_fields free es c i fs)) ≤ 32768 → FitFields rewritten b ts (join_fields free es c i fs)
    fields_fit c FitFields.done q i s = FitFields.done
    fields_fit c (FitFields.absent {t = t} {ts = ts} {fs = gs} g) q i s = FitFields.absent (fields_fit c g (λ z. good_rest (may t) ts (q z)) i s)
    fields_fit c (FitFields.field {f = f} {ts = ts} {p = p} {fs = gs} u g) q i s =
        let l : length (encode_piece (join_piece free es c i p) ++ encode_fields (join_fields free es c (i + news_piece free es c p) gs)) ≡ length (encode_piece (join_piece free es c i p)) + length (encode_fields (join_fields free es c (i + news_piece free es c p) gs)) = length-append (encode_piece (join_piece free es c i p)) (encode_fields (join_fields free es c (i + news_piece free es c p) gs)) in
        FitFields.field (piece_fit c u (λ z. good_first f ts (q z)) i (omega arith))
        (subst (λ (x : ℕ). FitFields rewritten x ts (join_fields free es c (i + news_piece free es c p) gs)) (sym (byte_joined c i p)) (fields_fit c g (λ z. good_rest f ts (q z)) (i + news_piece free es c p) (omega arith)))

    piece_fit : {b : ℕ} {t : Sort} {p : Piece} (c : Bool) → FitPiece rewritten b t p → (c ≡ true → good_sort t ≡ true) → (i : ℕ) → length (encode_piece (join_piece free es c i p)) ≤ 32768 → FitPiece rewritten b t (join_piece free es c i p)
    piece_fit c (FitPiece.child f) q i s = FitPiece.child (node_fit f i s)
    piece_fit c (FitPiece.chosen f) q i s = FitPiece.chosen (node_fit f i s)
    piece_fit c (FitPiece.many {is = is} k f) q i s = let l : count (join_items free es c i is) ≤ length (encode_items (join_items free es c i is)) = count_short (join_items free es c i is) in let few : count (join_items free es c i is) < 65536 = omega arith in FitPiece.many {is = join_items free es c i is} few (items_fit c f q i (omega arith))
    piece_fit c (FitPiece.gaps {is = is} k f) q i s = let l : count (join_items free es c i is) ≤ length (encode_items (join_items free es c i is)) = count_short (join_items free es c i is) in let few : count (join_items free es c i is) < 65536 = omega arith in FitPiece.gaps {is = join_items free es c i is} few (items_fit c f (λ z. never (q z)) i (omega arith))
    piece_fit c (FitPiece.text k f) q i s = FitPiece.text k f
    piece_fit c (FitPiece.byte x y z) q i s = FitPiece.byte x y z
    piece_fit c (FitPiece.mark k) q i s = FitPiece.mark k
    piece_fit c (FitPiece.number k) q i s = FitPiece.number k

    pub items_fit : {p : ℕ} {h : Bool} {is : Items} (c : Bool) → FitItems rewritten p h is → (c ≡ true → held p ≡ true) → (i : ℕ) → length (encode_items (join_items free es c i is)) ≤ 32768 → FitItems rewritten p h (join_items free es c i is)
    items_fit c FitItems.none q i s = FitItems.none
    items_fit c (FitItems.hole f) q i s = FitItems.hole (items_fit c f q i (omega arith))
    items_fit c (FitItems.item {p = p} {h = h} {n = n} {is = is} u f) q i s =
        let x : length (encode_items (item (join free es (i + length (before free es c n)) n) (join_items free es c (i + length (before free es c n) + news free es n) is))) ≤ length (encode_items (vars free es i (before free es c n) (item (join free es (i + length (before free es c n)) n) (join_items free es c (i + length (before free es c n) + news free es n) is)))) = vars_long (before free es c n) i (item (join free es (i + length (before free es c n)) n) (join_items free es c (i + length (before free es c n) + news free es n) is)) in
        let l = length-append (encode (join free es (i + length (before free es c n)) n)) (encode_items (join_items free es c (i + length (before free es c n) + news free es n) is)) in
        before_fit c p h n i (item (join free es (i + length (before free es c n)) n) (join_items free es c (i + length (before free es c n) + news free es n) is)) q u
        (FitItems.item (node_fit u (i + length (before free es c n)) (omega arith)) (items_fit c f q (i + length (before free es c n) + news free es n) (omega arith)))

-- ---- a Program

root_form : form_at rewritten root 1 ≡ 1
unfolding form_at allowed places also among form_in kind_of
root_form = refl

root_fields : fields_of 1 ≡ must (Sort.many 1) ∷ []
unfolding fields_of kinds variants
root_fields = refl

list_items : {b : ℕ} {t : Sort} {p : Piece} → FitPiece rewritten b t p → t ≡ Sort.many 1 → (is : Items) → p ≡ list is → FitItems rewritten 1 false is
list_items (FitPiece.child f) e is w = let z : ◌≡◌ {A = ℕ} 0 1 = cc in absurd (omega arith)
list_items (FitPiece.chosen f) e is w = let z : ◌≡◌ {A = ℕ} 0 1 = cc in absurd (omega arith)
list_items (FitPiece.many {p = q} {is = js} c f) e is w =
    let here : q ≡ 1 = cc in
    let same : js ≡ is = cc in
    subst (λ (x : Items). FitItems rewritten 1 false x) same (subst (λ (x : ℕ). FitItems rewritten x false js) here f)
list_items (FitPiece.gaps c f) e is w = let z : ◌≡◌ {A = ℕ} 0 1 = cc in absurd (omega arith)
list_items (FitPiece.text c f) e is w = let z : ◌≡◌ {A = ℕ} 0 1 = cc in absurd (omega arith)
list_items (FitPiece.byte x y z) e is w = let z' : ◌≡◌ {A = ℕ} 0 1 = cc in absurd (omega arith)
list_items (FitPiece.mark c) e is w = let z : ◌≡◌ {A = ℕ} 0 1 = cc in absurd (omega arith)
list_items (FitPiece.number c) e is w = let z : ◌≡◌ {A = ℕ} 0 1 = cc in absurd (omega arith)

fields_items : {b : ℕ} {ts : List Field} {fs : Fields} → FitFields rewritten b ts fs → ts ≡ must (Sort.many 1) ∷ [] → (is : Items) → fs ≡ field (list is) done → FitItems rewritten 1 false is
fields_items FitFields.done e is w = let z : ◌≡◌ {A = ℕ} 0 1 = cc in absurd (omega arith)
fields_items (FitFields.absent g) e is w = let z : ◌≡◌ {A = ℕ} 0 1 = cc in absurd (omega arith)
fields_items (FitFields.field {f = f} {ts = ts} {p = p} {fs = gs} u g) e is w =
    let one' : f ≡ must (Sort.many 1) = cc in
    let here : p ≡ list is = cc in
    list_items u (ap sort_in one') is here

-- its statements
body_fits_lem : {p : ℕ} {n : Node} → Fits rewritten p n → p ≡ root → (at : ℕ) (is : Items) → n ≡ node at 1 (field (list is) done) → FitItems rewritten 1 false is
body_fits_lem (Fits.fits {p = p} {k = k} {fs = fs} pos ff) e at is w =
    let it : k ≡ 1 = cc in
    let inner : fs ≡ field (list is) done = cc in
    fields_items ff (ap₂ (λ (x y : ℕ). fields_of (form_at rewritten x y)) e it ∙ ap fields_of root_form ∙ root_fields) is inner

program_fits : (at : ℕ) (is : Items) → count is < 65536 → FitItems rewritten 1 false is → Fits rewritten root (node at 1 (field (list is) done))
program_fits at is few f =
    let pos : 0 < form_at rewritten root 1 = rw root_form (omega arith) in
    let inner : FitFields rewritten 0 (must (Sort.many 1) ∷ []) (field (list is) done) = FitFields.field (FitPiece.many {is = is} few f) FitFields.done in
    let all : FitFields rewritten 0 (fields_of (form_at rewritten root 1)) (field (list is) done) = subst (λ (ts : List Field). FitFields rewritten 0 ts (field (list is) done)) (sym (ap fields_of root_form ∙ root_fields)) inner in
    Fits.fits pos all

module _ (free : ℕ → ℕ) (es : List Entry) (small : (i : ℕ) → free i < 65536) (fe : FitEntries es) where
  head_fits : (at : ℕ) (is ds : Items) → FitItems rewritten 1 false is → FitDeclarators ds → length (encode (headed (declaration 3 (free 0) ds) (join free es 1 (node at 1 (field (list is) done))))) ≤ 32768 → Fits rewritten root (headed (declaration 3 (free 0) ds) (join free es 1 (node at 1 (field (list is) done))))
  unfolding join join_fields join_piece encode encode_fields encode_piece encode_items among
  head_fits at is ds f d s =
      let l = length-append (encode_items (item (declaration 3 (free 0) ds) (join_items free es true 1 is))) [] in
      let m = length-append (encode (declaration 3 (free 0) ds)) (encode_items (join_items free es true 1 is)) in
      let c : count (item (declaration 3 (free 0) ds) (join_items free es true 1 is)) ≤ length (encode_items (item (declaration 3 (free 0) ds) (join_items free es true 1 is))) = count_short (item (declaration 3 (free 0) ds) (join_items free es true 1 is)) in
      let few : count (item (declaration 3 (free 0) ds) (join_items free es true 1 is)) < 65536 = omega arith in
      let short : length (encode_items (join_items free es true 1 is)) ≤ 32768 = omega arith in
      program_fits at (item (declaration 3 (free 0) ds) (join_items free es true 1 is)) few (FitItems.item (declaration_fits 3 (free 0) ds (omega arith) (omega arith) (small 0) d) (items_fit free es small fe true f (λ z. refl) 1 short))

  -- the joined tree fits
  pub joined_fits : (n : Node) → Program n → Fits rewritten root n → (ds : Items) → FitDeclarators ds → length (encode (joined_by free es ds n)) ≤ 32768 → Fits rewritten root (joined_by free es ds n)
  joined_fits n p f Items.none d s = node_fit free es small fe f 0 s
  joined_fits n p f (hole ds) d s = led (hole ds) d n p.is (body_fits_lem f refl p.at p.body p.is) s
    where
      led : (ds : Items) → FitDeclarators ds → (m : Node) → m ≡ node p.at 1 (field (list p.body) done) → FitItems rewritten 1 false p.body → length (encode (headed (declaration 3 (free 0) ds) (join free es 1 m))) ≤ 32768 → Fits rewritten root (headed (declaration 3 (free 0) ds) (join free es 1 m))
      led ds d m e b = rw e (head_fits p.at p.body ds b d)
  joined_fits n p f (item x ds) d s = led (item x ds) d n p.is (body_fits_lem f refl p.at p.body p.is) s
    where
      led : (ds : Items) → FitDeclarators ds → (m : Node) → m ≡ node p.at 1 (field (list p.body) done) → FitItems rewritten 1 false p.body → length (encode (headed (declaration 3 (free 0) ds) (join free es 1 m))) ≤ 32768 → Fits rewritten root (headed (declaration 3 (free 0) ds) (join free es 1 m))
      led ds d m e b = rw e (head_fits p.at p.body ds b d)
