-- What is written by the tables is the joined tree.
-- Assumes nothing.
use Prim.Native.Nat.{ℕ, zero, suc, ◌+◌, ◌-◌, ◌%◌, ◌<◌, ◌≤◌}
use mathlib.Core.Path.{◌≡◌, refl, sym, ap, ap₂, ◌∙◌}
use mathlib.Core.List.{List, [], ◌∷◌, ◌++◌, append-nil}
use mathlib.Core.Bool.{Bool, true, false, cond}
use native.Mathlib.Omega.{arith}
use lib.Dec.{eqb, ltb}
use lib.ListN.{length, get_or, drop, length-append, length-drop}
use lib.Seq.{get_or-drop}
use borrow.Author.Tests.{eq-eqb, ne_eqb}
use Rattle.tree.specs.Tree.{Node, Fields, Piece, Items, map_of, count, wide_bytes, encode, encode_fields, encode_piece, encode_items}
use Rattle.tree.specs.Tree.Node.{node}
use Rattle.tree.specs.Tree.Fields.{done, field}
use Rattle.tree.specs.Tree.Piece.{list}
use Rattle.tree.specs.Tree.Items.{hole, item}
use Rattle.tree.specs.Grammar.{among, Sort, Field, root, statement, places, also, allowed, kind_of, form_in, form_at, fields_of, kinds, variants}
use Rattle.tree.specs.Grammar.Sort.{many}
use Rattle.tree.specs.Grammar.Field.{must}
use Rattle.tree.specs.Grammar.Stage.{rewritten}
use Rattle.tree.specs.WellFormed.{Fits, FitFields, FitPiece}
use Rattle.rewritten.proofs.Marks.{by_same}
use Rattle.tree.specs.Read.{byte_at, wide_at, sort_in}
use Rattle.lowering.specs.Collect.{Entry}
use Rattle.joining.specs.List.{handed}
use Rattle.joining.specs.Join.{handed_to, declaration, vars, seek, fresh, join, join_fields, join_piece, join_items, headed, joined_by, joined_tree}
use Rattle.joining.specs.Changes.{Change, vars_encoded, emits, skips, given, here, written}
use Rattle.joining.specs.Changes.Change.{behind, counted}
use Rattle.joining.specs.Writing.{part, declared, free_from, free_after, var_bytes, var_last, vars_bytes, vars_last, before_bytes, before_last, step_bytes, step_last, step_skips, rest_bytes, head_bytes, head_last, whole_bytes}
use Rattle.joining.specs.Spots.{Spot, place_of, statement_of, spots, spots_fields, spots_piece, spots_items, tally, shares, change_at}
use Rattle.joining.specs.Files.{Notes}
use Rattle.joining.specs.Settle.{Stand}
use Rattle.joining.proofs.Changes.{count_joined, items_written}
use Rattle.joining.proofs.Agree.{here_weight, items_agree}
use Rattle.lowering.proofs.ItemLaws.{count_none}
use Rattle.tree.proofs.Complete.{wide_is, after}
use Rattle.tree.proofs.EncodedLengths.{count_short}

byte_at_lem : (l : List ℕ) (x : ℕ) → x < length l → byte_at l x ≡ get_or l x 0
unfolding byte_at
byte_at_lem l x h = go l x h
  where
    go : (l : List ℕ) (x : ℕ) → x < length l → get_or l x 256 ≡ get_or l x 0
    go [] x h = absurd (omega arith)
    go (y ∷ l) zero h = refl
    go (y ∷ l) (suc x) h = go l x (omega arith)

seek_most : (taken : List ℕ) (most m : ℕ) → seek taken most m ≤ m + most
unfolding seek
seek_most taken zero m = omega arith
seek_most taken (suc most) m = go (among taken (suc m)) (seek_most taken most (suc m))
  where
    go : (b : Bool) → seek taken most (suc m) ≤ suc m + most → cond b (seek taken most (suc m)) (suc m) ≤ m + suc most
    go true h = omega arith
    go false h = omega arith

pub fresh_most : (taken : List ℕ) (i : ℕ) → fresh taken i ≤ 65535
unfolding fresh
fresh_most taken zero = omega (arith, seek_most taken 65535 0)
fresh_most taken (suc i) = let h : fresh taken i ≤ 65535 = fresh_most taken i in omega (arith, seek_most taken (65535 - fresh taken i) (fresh taken i))

-- a Declaration's bytes
declared_is : (kind m : ℕ) (ds : Items) → m ≤ 65535 → declared m kind (encode_piece (list ds)) ≡ encode (declaration kind m ds)
unfolding declared encode encode_fields encode_piece map_of
declared_is kind m ds h =
    let z : m % 65536 ≡ m = omega arith in
    rw z (ap (λ (bs : List ℕ). 4 ∷ 7 ∷ (wide_bytes m ++ (kind ∷ bs))) (sym (append-nil (wide_bytes (count ds) ++ encode_items ds))))

-- the mark that was given last, i of them standing before
unfoldable last_of : List ℕ → ℕ → ℕ
last_of taken zero = 0
last_of taken (suc i) = fresh taken i

last_none : (taken : List ℕ) → last_of taken 0 ≡ 0
unfolding last_of
last_none taken = refl

module _ (seen taken : List ℕ) (known : Notes seen taken) where
  free_same : (most m : ℕ) → m + most ≤ 65535 → free_from seen most m ≡ seek taken most m
  unfolding free_from seek
  free_same zero m h = refl
  free_same (suc most) m h =
      let s : 65536 ≤ length seen = known.size in
      let at : byte_at seen (suc m) ≡ cond (among taken (suc m)) 1 0 = byte_at_lem seen (suc m) (omega arith) ∙ known.at (suc m) (omega arith) in
      rw (at, free_same most (suc m) (omega arith)) (go (among taken (suc m)))
    where
      go : (b : Bool) → cond (eqb (cond b 1 0) 1) (seek taken most (suc m)) (suc m) ≡ cond b (seek taken most (suc m)) (suc m)
      go true = refl
      go false = refl

  after_last : (i : ℕ) → free_after seen (last_of taken i) ≡ fresh taken i
  unfolding free_after fresh last_of
  after_last zero = free_same 65535 0 (omega arith)
  after_last (suc i) = let h : fresh taken i ≤ 65535 = fresh_most taken i in free_same (65535 - fresh taken i) (fresh taken i) (omega arith)

  module _ (l ends : List ℕ) (es : List Entry) where
    abbrev VarsTold : List Entry → ℕ → ℕ → ℕ → Type 0
    VarsTold fs at i m =
        (vars_bytes l ends seen m (length fs) at (last_of taken i) ≡ vars_encoded (fresh taken) es i (handed_to fs m))
        × (vars_last l ends seen m (length fs) at (last_of taken i) ≡ last_of taken (i + length (handed_to fs m)))

    vars_told : (fs : List Entry) (at i m : ℕ) → Stand l ends at fs → VarsTold fs at i m
    unfolding vars_bytes vars_last var_bytes var_last vars_encoded vars encode_items handed_to Stand last_of
    vars_told [] at i m s = (refl, let z : i ≡ i + 0 = omega arith in ap (last_of taken) z)
    vars_told (e ∷ fs) at i m s = pick (wide_at l at) s.0 (λ j. vars_told fs (get_or ends at 0) j m s.2)
      where
        go : (b : Bool) → ((j : ℕ) → VarsTold fs (get_or ends at 0) j m)
            → (cond b (declared (free_after seen (last_of taken i)) 1 (part (at + 2) (get_or ends at 0) l)) [] ++ vars_bytes l ends seen m (length fs) (get_or ends at 0) (cond b (free_after seen (last_of taken i)) (last_of taken i)) ≡ encode_items (vars (fresh taken) es i (cond b (e.declarators ∷ handed_to fs m) (handed_to fs m)) Items.none))
            × (vars_last l ends seen m (length fs) (get_or ends at 0) (cond b (free_after seen (last_of taken i)) (last_of taken i)) ≡ last_of taken (i + length (cond b (e.declarators ∷ handed_to fs m) (handed_to fs m))))
        go true rest =
            let r = rest (suc i) in
            let z : suc i + length (handed_to fs m) ≡ i + suc (length (handed_to fs m)) = omega arith in
            rw (after_last i, s.1)
            (ap₂ (λ (a b : List ℕ). a ++ b) (declared_is 1 (fresh taken i) e.declarators (fresh_most taken i)) r.0, r.1 ∙ ap (last_of taken) z)
        go false rest = rest i

        pick : (w : ℕ) → w ≡ e.containing → ((j : ℕ) → VarsTold fs (get_or ends at 0) j m)
            → (cond (eqb w m) (declared (free_after seen (last_of taken i)) 1 (part (at + 2) (get_or ends at 0) l)) [] ++ vars_bytes l ends seen m (length fs) (get_or ends at 0) (cond (eqb w m) (free_after seen (last_of taken i)) (last_of taken i)) ≡ encode_items (vars (fresh taken) es i (cond (eqb e.containing m) (e.declarators ∷ handed_to fs m) (handed_to fs m)) Items.none))
            × (vars_last l ends seen m (length fs) (get_or ends at 0) (cond (eqb w m) (free_after seen (last_of taken i)) (last_of taken i)) ≡ last_of taken (i + length (cond (eqb e.containing m) (e.declarators ∷ handed_to fs m) (handed_to fs m))))
        pick w h rest = rw h (go (eqb e.containing m) rest)

    -- ---- the bytes of the tree, one after the other

    module _ (tree more held : List ℕ) (stand : Stand l ends 2 es) (all : length es ≡ wide_at l 0) where
      abbrev ch : ℕ → Change
      ch = change_at tree es (λ p. get_or more p 0) (λ p. get_or held p 0)

      abbrev ahead : ℕ → List Items
      ahead p = cond (ltb 0 (get_or held p 0)) (handed_to es (wide_at tree (p + 2))) []

      before_told : (p i : ℕ) → (before_bytes tree l ends seen held p (last_of taken i) ≡ vars_encoded (fresh taken) es i (ahead p)) × (before_last tree l ends seen held p (last_of taken i) ≡ last_of taken (i + length (ahead p)))
      unfolding before_bytes before_last vars_encoded vars encode_items
      before_told p i = go (ltb 0 (get_or held p 0))
        where
          go : (b : Bool) → (cond b (vars_bytes l ends seen (wide_at tree (p + 2)) (wide_at l 0) 2 (last_of taken i)) [] ≡ encode_items (vars (fresh taken) es i (cond b (handed_to es (wide_at tree (p + 2))) []) Items.none)) × (cond b (vars_last l ends seen (wide_at tree (p + 2)) (wide_at l 0) 2 (last_of taken i)) (last_of taken i) ≡ last_of taken (i + length (cond b (handed_to es (wide_at tree (p + 2))) [])))
          go true = rw (← all) (vars_told es 2 i (wide_at tree (p + 2)) stand)
          go false = (refl, let z : i ≡ i + 0 = omega arith in ap (last_of taken) z)

      rest_is : (bs : List ℕ) (s : Bool) (p i : ℕ) → drop p tree ≡ bs → rest_bytes tree l ends seen more held (length bs) s p (last_of taken i) ≡ written (fresh taken) es ch s bs p i
      unfolding rest_bytes written step_bytes step_last step_skips change_at
      rest_is [] s p i d = refl
      rest_is (b ∷ bs) true p i d = rest_is bs false (suc p) i (let z : suc p ≡ p + 1 = omega arith in ap (λ (n : ℕ). drop n tree) z ∙ after tree p 1 (b ∷ []) bs d refl)
      rest_is (b ∷ bs) false p i d = go (ltb 0 (get_or more p 0)) (λ s j. rest_is bs s (suc p) j (let z : suc p ≡ p + 1 = omega arith in ap (λ (n : ℕ). drop n tree) z ∙ after tree p 1 (b ∷ []) bs d refl))
        where
          first : get_or tree p 0 ≡ b
          first = let z : p + 0 ≡ p = omega arith in ap (λ (n : ℕ). get_or tree n 0) (sym z) ∙ sym (get_or-drop p tree 0 0) ∙ ap (λ (xs : List ℕ). get_or xs 0 0) d

          go : (c : Bool) → ((s : Bool) (j : ℕ) → rest_bytes tree l ends seen more held (length bs) s (suc p) (last_of taken j) ≡ written (fresh taken) es ch s bs (suc p) j)
              → cond c (wide_bytes ((wide_at tree p + get_or more p 0) % 65536)) (before_bytes tree l ends seen held p (last_of taken i) ++ (get_or tree p 0 ∷ [])) ++ rest_bytes tree l ends seen more held (length bs) c (suc p) (cond c (last_of taken i) (before_last tree l ends seen held p (last_of taken i)))
              ≡ emits (fresh taken) es (cond c (counted ((wide_at tree p + get_or more p 0) % 65536)) (behind (ahead p))) b i ++ written (fresh taken) es ch (skips (fresh taken) es (cond c (counted ((wide_at tree p + get_or more p 0) % 65536)) (behind (ahead p)))) bs (suc p) (i + given (fresh taken) es (cond c (counted ((wide_at tree p + get_or more p 0) % 65536)) (behind (ahead p))))
          go true rest = let z : i ≡ i + 0 = omega arith in ap (λ (xs : List ℕ). wide_bytes ((wide_at tree p + get_or more p 0) % 65536) ++ xs) (rest true i ∙ ap (λ (j : ℕ). written (fresh taken) es ch true bs (suc p) j) z)
          go false rest = let r = before_told p i in rw (r.0, r.1, first) (ap (λ (xs : List ℕ). (vars_encoded (fresh taken) es i (ahead p) ++ (b ∷ [])) ++ xs) (rest false (i + length (ahead p))))

-- ---- the Program

-- nothing else is a root
root_kind : (k : ℕ) → 0 < form_at rewritten root k → k ≡ 1
unfolding form_at allowed places also among form_in kind_of
root_kind k h = by_same k 1 (λ e. e) (λ d. absurd (none (ltb k 64) (rw (ne_eqb 1 k (λ w. d (sym w))) at h)))
  where
    none : (b : Bool) → 0 < cond b 0 0 → ⊥
    none true g = omega arith
    none false g = omega arith

root_fields : fields_of (form_at rewritten root 1) ≡ must (many statement) ∷ []
unfolding form_at allowed places also among form_in kind_of fields_of kinds variants
root_fields = refl

list_piece : {b : ℕ} {t : Sort} {p : Piece} → FitPiece rewritten b t p → t ≡ many statement → (is : Items) × (p ≡ list is)
list_piece (FitPiece.child f) e = let z : ◌≡◌ {A = ℕ} 0 1 = cc in absurd (omega arith)
list_piece (FitPiece.chosen f) e = let z : ◌≡◌ {A = ℕ} 0 1 = cc in absurd (omega arith)
list_piece (FitPiece.many {is = is} c f) e = (is, refl)
list_piece (FitPiece.gaps {is = is} c f) e = (is, refl)
list_piece (FitPiece.text c f) e = let z : ◌≡◌ {A = ℕ} 0 1 = cc in absurd (omega arith)
list_piece (FitPiece.byte x y z) e = let z' : ◌≡◌ {A = ℕ} 0 1 = cc in absurd (omega arith)
list_piece (FitPiece.mark c) e = let z : ◌≡◌ {A = ℕ} 0 1 = cc in absurd (omega arith)
list_piece (FitPiece.number c) e = let z : ◌≡◌ {A = ℕ} 0 1 = cc in absurd (omega arith)

no_fields : {b : ℕ} {ts : List Field} {fs : Fields} → FitFields rewritten b ts fs → ts ≡ [] → fs ≡ done
no_fields FitFields.done e = refl
no_fields (FitFields.absent g) e = let z : ◌≡◌ {A = ℕ} 0 1 = cc in absurd (omega arith)
no_fields (FitFields.field u g) e = let z : ◌≡◌ {A = ℕ} 0 1 = cc in absurd (omega arith)

program_fields : {b : ℕ} {ts : List Field} {fs : Fields} → FitFields rewritten b ts fs → ts ≡ must (many statement) ∷ [] → (is : Items) × (fs ≡ field (list is) done)
program_fields FitFields.done e = let z : ◌≡◌ {A = ℕ} 0 1 = cc in absurd (omega arith)
program_fields (FitFields.absent g) e = let z : ◌≡◌ {A = ℕ} 0 1 = cc in absurd (omega arith)
program_fields (FitFields.field {f = f} {ts = ts} {p = p} {fs = gs} u g) e =
    let one' : f ≡ must (many statement) = cc in
    let none' : ts ≡ [] = cc in
    let l = list_piece u (ap sort_in one') in
    let d : gs ≡ done = no_fields g none' in
    (l.0, ap₂ (λ (x : Piece) (y : Fields). field x y) l.1 d)

pub record Program (n : Node) : Type 0 where
  pub at : ℕ
  pub body : Items
  pub is : n ≡ node at 1 (field (list body) done)

pub program : (n : Node) → Fits rewritten root n → Program n
program (node at k fs) (Fits.fits pos ff) =
    let one' : k ≡ 1 = root_kind k pos in
    let f = program_fields ff (ap (λ (x : ℕ). fields_of (form_at rewritten root x)) one' ∙ root_fields) in
    record { at = at; body = f.0; is = ap₂ (λ (x : ℕ) (y : Fields). node at x y) one' f.1 }

spots_program : (old : ℕ) (is : Items) → spots 0 (node old 1 (field (list is) done)) ≡ spots_items 2 4 is
unfolding spots spots_fields spots_piece spots_items among
spots_program old is = refl

count_hole : (is : Items) → count (hole is) ≡ suc (count is)
unfolding count
count_hole is = refl

count_item : (n : Node) (is : Items) → count (item n is) ≡ suc (count is)
unfolding count
count_item n is = refl

count_some : (is : Items) → 0 < count is → count is ≡ 0 → ⊥
count_some is h e = omega arith

module _ (seen taken : List ℕ) (known : Notes seen taken) (l ends : List ℕ) (es : List Entry) (tree more held : List ℕ) (stand : Stand l ends 2 es) (all : length es ≡ wide_at l 0)
    (old : ℕ) (is : Items) (bytes : encode (node old 1 (field (list is) done)) ≡ tree) (small : length tree ≤ 32768) (few : (p : ℕ) → get_or more p 0 ≤ 16384)
    (more_is : (p : ℕ) → get_or more p 0 ≡ tally place_of (shares es) (spots 0 (node old 1 (field (list is) done))) p) (held_is : (p : ℕ) → get_or held p 0 ≡ tally statement_of (shares es) (spots 0 (node old 1 (field (list is) done))) p) where
  abbrev free : ℕ → ℕ
  free = fresh taken

  abbrev change : ℕ → Change
  change = change_at tree es (λ p. get_or more p 0) (λ p. get_or held p 0)

  first_two : part 0 2 tree ≡ 1 ∷ 1 ∷ []
  unfolding part encode encode_fields encode_piece map_of
  first_two = rw (← bytes) refl

  from_two : drop 2 tree ≡ wide_bytes (count is) ++ (encode_items is ++ [])
  unfolding encode encode_fields encode_piece
  from_two = rw (← bytes) refl

  from_four : drop 4 tree ≡ encode_items is ++ []
  unfolding encode encode_fields encode_piece
  from_four = rw (← bytes) refl

  own_count_lem : wide_at tree 2 ≡ count is
  own_count_lem = wide_is tree 2 (count is) (encode_items is ++ []) from_two

  own_more : get_or more 2 0 ≡ here free es true is
  own_more = more_is 2 ∙ ap (λ (ss : List Spot). tally place_of (shares es) ss 2) (spots_program old is) ∙ here_weight tree free es (λ p. get_or more p 0) (λ p. get_or held p 0) small few 2 is 4 (omega arith) (omega arith)

  long : 4 + length (encode_items is) ≤ 32768
  long = let a : length (drop 4 tree) ≡ length tree - 4 = length-drop 4 tree in let b : length (drop 2 tree) ≡ length tree - 2 = length-drop 2 tree in let c : length (drop 2 tree) ≡ suc (suc (length (encode_items is ++ []))) = ap length from_two in omega (arith, length-append (encode_items is) [])

  joined_count : (i : ℕ) → (wide_at tree 2 + get_or more 2 0 ≡ count (join_items free es true i is)) × (count (join_items free es true i is) < 65535)
  joined_count i =
      let a : count (join_items free es true i is) ≡ count is + here free es true is = count_joined free es true i is in
      let b : get_or more 2 0 ≡ here free es true is = own_more in
      let c : wide_at tree 2 ≡ count is = own_count_lem in
      let d : get_or more 2 0 ≤ 16384 = few 2 in
      let e : count is ≤ length (encode_items is) = count_short is in
      let f : 4 + length (encode_items is) ≤ 32768 = long in
      (omega arith, omega arith)

  behind_head : (i : ℕ) → rest_bytes tree l ends seen more held (length tree - 4) false 4 (last_of taken i) ≡ encode_items (join_items free es true i is)
  unfolding written
  behind_head i =
      let size : length tree - 4 ≡ length (encode_items is ++ []) = sym (length-drop 4 tree) ∙ ap length from_four in
      ap (λ (n : ℕ). rest_bytes tree l ends seen more held n false 4 (last_of taken i)) size
      ∙ rest_is seen taken known l ends es tree more held stand all (encode_items is ++ []) false 4 i from_four
      ∙ items_written free es change true is 4 i []
      (items_agree tree free es (λ p. get_or more p 0) (λ p. get_or held p 0) small few true 2 is 4 [] refl (omega arith) from_four
      (λ p a b. (more_is p ∙ ap (λ (ss : List Spot). tally place_of (shares es) ss p) (spots_program old is), held_is p ∙ ap (λ (ss : List Spot). tally statement_of (shares es) ss p) (spots_program old is))))
      ∙ append-nil (encode_items (join_items free es true i is))

  -- without excluded keys
  plain : (q : ℕ) → wide_at l q ≡ 0 → whole_bytes tree l ends seen more held q ≡ encode (join free es 0 (node old 1 (field (list is) done)))
  unfolding whole_bytes head_bytes head_last join join_fields join_piece encode encode_fields encode_piece map_of among last_of
  plain q w =
      let c = joined_count 0 in
      let small' : count (join_items free es true 0 is) < 65535 = c.1 in
      let m : count (join_items free es true 0 is) % 65536 ≡ count (join_items free es true 0 is) = omega arith in
      rw (eq-eqb (wide_at l q) 0 w, first_two, c.0, m) (
      ap (λ (xs : List ℕ). 1 ∷ 1 ∷ (wide_bytes (count (join_items free es true 0 is)) ++ xs)) (behind_head 0 ∙ sym (append-nil (encode_items (join_items free es true 0 is)))))

  -- with them
  led : (q : ℕ) (ds : Items) → (wide_at l q ≡ 0 → ⊥) → part q (length l) l ≡ encode_piece (list ds) → whole_bytes tree l ends seen more held q ≡ encode (headed (declaration 3 (free 0) ds) (join free es 1 (node old 1 (field (list is) done))))
  unfolding whole_bytes head_bytes head_last join join_fields join_piece encode_items count among map_of last_of
  led q ds w b =
      let c = joined_count 1 in
      let small' : count (join_items free es true 1 is) < 65535 = c.1 in
      let n : count (join_items free es true 1 is) + 1 ≡ suc (count (join_items free es true 1 is)) = omega arith in
      let m : suc (count (join_items free es true 1 is)) % 65536 ≡ suc (count (join_items free es true 1 is)) = omega arith in
      let f : free_after seen 0 ≡ free 0 = first_free in
      rw (ne_eqb (wide_at l q) 0 w, first_two, c.0, n, m, b, f)
      (ap (λ (xs : List ℕ). 1 ∷ 1 ∷ (wide_bytes (suc (count (join_items free es true 1 is))) ++ xs))
      (ap₂ (λ (xs ys : List ℕ). xs ++ ys) (declared_is 3 (free 0) ds (fresh_most taken 0)) (behind_head 1)
      ∙ sym (append-nil (encode (declaration 3 (free 0) ds) ++ encode_items (join_items free es true 1 is)))))
    where
      first_free : free_after seen 0 ≡ free 0
      first_free = ap (free_after seen) (sym (last_none taken)) ∙ after_last seen taken known 0

  -- all of it
  pub whole_is : (q : ℕ) (ds : Items) → part q (length l) l ≡ encode_piece (list ds) → drop q l ≡ encode_piece (list ds) ++ drop (length l) l → whole_bytes tree l ends seen more held q ≡ encode (joined_tree taken (node old 1 (field (list is) done)) (handed es ds))
  unfolding joined_tree encode_piece
  whole_is q ds b d = go ds b (wide_is l q (count ds) (encode_items ds ++ drop (length l) l) d)
    where
      go : (ds : Items) → part q (length l) l ≡ encode_piece (list ds) → wide_at l q ≡ count ds → whole_bytes tree l ends seen more held q ≡ encode (joined_by free es ds (node old 1 (field (list is) done)))
      go Items.none c w = plain q (w ∙ count_none)
      go (hole rest) c w = led q (hole rest) (λ z. count_some (hole rest) (omega (arith, count_hole rest)) (sym w ∙ z)) c
      go (item x rest) c w = led q (item x rest) (λ z. count_some (item x rest) (omega (arith, count_item x rest)) (sym w ∙ z)) c
