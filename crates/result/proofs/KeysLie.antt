-- Keys, and the values of rests: what they make lies where it is put.
-- Assumes nothing.
use mathlib.Core.Path.{◌≡◌, refl}
use mathlib.Core.Bool.{Bool, true, false, ◌&&◌, ◌||◌}
use mathlib.Core.List.{List}
use Prim.Native.Nat.{ℕ, zero, suc, ◌<◌}
use native.Mathlib.Omega.{arith}
use lib.Dec.{eqb}
use borrow.Author.Tests.{eqb-true}
use Rattle.tree.specs.Tree.{Node, Fields, Piece, count}
use Rattle.tree.specs.Tree.Node.{node}
use Rattle.tree.specs.Grammar.{Sort, Field, places, allowed, also, among, kind_of, form_in, form_at, fields_of, kinds}
use Rattle.tree.specs.Grammar.Stage.{rewritten}
use Rattle.lowering.specs.Parts.{kind, is, text_at_of, stands, piece_in, as_text, change}
use Rattle.lowering.specs.Made.{Context, key_of, declares}
use Rattle.lowering.specs.Patterns.{shape, key, has_rest_of, with_properties}
use Rattle.lowering.specs.Patterns.Shape.{object_pattern}
use Rattle.lowering.specs.Keys.{key_sort, key_text, excluded_key, kept_key, key_temporary, excluded_keys, key_temporaries, all_primitive, taken}
use Rattle.lowering.specs.Keys.Key.{name, literal, template, private, again, other}
use Rattle.lowering.specs.Rests.{has_no_properties, mapped, is_hoisted, keys_read, rest_value, excluded_for}
use Rattle.lowering.proofs.Cases.{by_test, and_left}
use Rattle.lowering.proofs.Clauses.{text_name, text_literal}
use Rattle.result.proofs.PlaceRows.{covers, at_places}
use Rattle.result.proofs.Lies.{Texts, Lies, LieFields, LiePiece, LieItems, make, fields_of_lem, moved, may_stand, lies_gather, lies_only, lies_if}
use Rattle.result.proofs.LyingPatterns.{property_at, pattern_at}
use Rattle.result.proofs.Expressions.{Takes, takes_3, takes_13, argument, temporary_lies, string_lies, array_lies, object_lies, sequence_lies, member_lies, call_lies, X-lies, E-lies, W-lies, K-lies}
use Rattle.result.proofs.LiteralTexts.{literal_holds}
use Rattle.result.proofs.PatternsLie.{properties_lies, properties_of, key_of_lem, key_changed, rest_dropped}

-- ---- texts that a node has

text_piece_lem : {T : Texts} {b d : ℕ} {s : Sort} {p : Piece} → LiePiece T b s p d → T.holds (as_text p)
text_piece_lem {T = T} (LiePiece.child a) = T.empty
text_piece_lem {T = T} (LiePiece.chosen a) = T.empty
text_piece_lem {T = T} (LiePiece.many a) = T.empty
text_piece_lem {T = T} (LiePiece.gaps a) = T.empty
text_piece_lem (LiePiece.text a) = a
text_piece_lem {T = T} (LiePiece.byte a b c) = T.empty
text_piece_lem {T = T} (LiePiece.mark a) = T.empty
text_piece_lem {T = T} (LiePiece.number a) = T.empty

text_in : {T : Texts} {b : ℕ} {ts : List Field} {fs : Fields} → LieFields T b ts fs → (i : ℕ) → T.holds (as_text (piece_in fs i))
unfolding piece_in
text_in {T = T} LieFields.done i = T.empty
text_in {T = T} (LieFields.absent a) zero = T.empty
text_in (LieFields.absent a) (suc i) = text_in a i
text_in (LieFields.needed x a) zero = text_piece_lem x
text_in (LieFields.needed x a) (suc i) = text_in a i
text_in (LieFields.given x a) zero = text_piece_lem x
text_in (LieFields.given x a) (suc i) = text_in a i

pub text_at : {T : Texts} {p : ℕ} (n : Node) → Lies T p n → is 20 n ≡ false → (i : ℕ) → T.holds (text_at_of i n)
unfolding text_at_of is
text_at (node at k fs) l e i = text_in (fields_of_lem l e).1 i

-- ---- a key by its sort

-- 38 and 39 are no expressions
unfoldable pub is_key_only : ℕ → Bool
is_key_only k = eqb k 38 || eqb k 39

-- a key that is one
pub key_expression : {T : Texts} (k : Node) → Lies T 11 k → is_key_only (kind k) ≡ false → Lies T 3 k
unfolding covers allowed places also among form_in kind_of is_key_only
key_expression k l e = moved 3 (at_places is_key_only rewritten rewritten 11 3 refl (kind k) e (may_stand l)) l

not_20_by : (j : ℕ) (n : Node) → eqb j 20 ≡ false → is j n ≡ true → is 20 n ≡ false
unfolding is
not_20_by j n h e = rw (eqb-true (kind n) j e) h

-- ---- what the sort of a key says of its kind

data KeyCase (k : Node) : Type 0 where
  is_name : key_sort k ≡ name → is 20 k ≡ false → KeyCase k
  is_literal : key_sort k ≡ literal → is 20 k ≡ false → KeyCase k
  is_template_lem : key_sort k ≡ template → is_key_only (kind k) ≡ false → KeyCase k
  is_private_lem : key_sort k ≡ private → KeyCase k
  is_again : key_sort k ≡ again → is_key_only (kind k) ≡ false → KeyCase k
  is_other_lem : key_sort k ≡ other → is_key_only (kind k) ≡ false → KeyCase k

key_case : (k : Node) → KeyCase k
unfolding key_sort is_key_only is
key_case k =
    by_test (is 38 k)
    (λ a. KeyCase.is_name (rw a refl) (not_20_by 38 k refl a))
    (λ a. by_test (is 22 k)
    (λ b. KeyCase.is_literal (rw (a, b) refl) (not_20_by 22 k refl b))
    (λ b. by_test (is 23 k && eqb (count (Rattle.lowering.specs.Parts.items_at_of 0 k)) 1)
    (λ c. KeyCase.is_template_lem (rw (a, b, c) refl) (rw (eqb-true (kind k) 23 (and_left (is 23 k) (eqb (count (Rattle.lowering.specs.Parts.items_at_of 0 k)) 1) c)) refl))
    (λ c. by_test (is 39 k)
    (λ d. KeyCase.is_private_lem (rw (a, b, c, d) refl))
    (λ d. by_test (is 20 k || (is 18 k && stands 1 k))
    (λ e. KeyCase.is_again (rw (a, b, c, d, e) refl) (rw (a, d) refl))
    (λ e. KeyCase.is_other_lem (rw (a, b, c, d, e) refl) (rw (a, d) refl))))))

pub same_shape : (f : Node → Node) (n : Node) → shape n ≡ object_pattern → shape (with_properties f n) ≡ object_pattern
unfolding shape change
same_shape f (node at k fs) e = e

module _ (c : Context) where
  key_of_lies : {T : Texts} (p : ℕ) → Takes p → (q : Node) → Lies T p (key_of c q)
  key_of_lies p t q = temporary_lies p t (omega arith) (omega arith)

  takes_11 : Takes 11
  unfolding places among
  takes_11 = refl

  excluded_key_lies : {T : Texts} (h : Bool) (q : Node) → Lies T 11 (key q) → LieItems T 13 h (excluded_key c q)
  unfolding excluded_key key_text
  excluded_key_lies {T = T} h q l = go (key_case (key q))
    where
      go : KeyCase (key q) → LieItems T 13 h (excluded_key c q)
      go (KeyCase.is_name e n) = rw (e, excluded_key) (lies_only (string_lies 13 takes_13 (rw (text_name (key q) e) (text_at (key q) l n 0))))
      go (KeyCase.is_literal e n) = rw (e, excluded_key) (lies_only (string_lies 13 takes_13 (rw (text_literal (key q) e) (literal_holds T.holds (key q) (λ s x. T.number (text_at_of 1 (key q)) s (text_at (key q) l n 1) x) (text_at (key q) l n 2)))))
      go (KeyCase.is_template_lem e n) = rw (e, excluded_key) (lies_only (argument (key_expression (key q) l n)))
      go (KeyCase.is_private_lem e) = rw (e, excluded_key) LieItems.none
      go (KeyCase.is_again e n) = rw (e, excluded_key) (lies_only (argument (key_expression (key q) l n)))
      go (KeyCase.is_other_lem e n) = rw (e, excluded_key) (lies_only (key_of_lies 13 takes_13 q))

  kept_key_lies : {T : Texts} (t : Bool) (q : Node) → Lies T (property_at t) q → Lies T (property_at t) (kept_key c q)
  unfolding kept_key
  kept_key_lies {T = T} t q l = go (key_case (key q))
    where
      go : KeyCase (key q) → Lies T (property_at t) (kept_key c q)
      go (KeyCase.is_name e n) = rw (e, kept_key) l
      go (KeyCase.is_literal e n) = rw (e, kept_key) l
      go (KeyCase.is_template_lem e n) = rw (e, kept_key) l
      go (KeyCase.is_private_lem e) = rw (e, kept_key) l
      go (KeyCase.is_again e n) = rw (e, kept_key) l
      go (KeyCase.is_other_lem e n) = rw (e, kept_key) (key_changed t (λ k. key_of c q) (λ k m. key_of_lies 11 takes_11 q) q l)

  -- ---- declarators

  pub declares_lies : {T : Texts} {id init : Node} → Lies T 15 id → Lies T 3 init → Lies T 4 (declares id init)
  unfolding form_at allowed places also among form_in kind_of fields_of kinds
  declares_lies a b = make 4 5 5 refl (omega arith) refl (LieFields.needed (LiePiece.child a) (LieFields.given (LiePiece.child b) LieFields.done))

  pub bound : {T : Texts} {path : List ℕ} {stem at : ℕ} → 0 < stem → stem < 5 → Lies T 15 (Rattle.lowering.specs.Made.temporary path stem at)
  bound a b = Lies.named (Rattle.result.proofs.LyingPatterns.temporary_form false false) a b

  key_temporary_lies : {T : Texts} (q : Node) → Lies T 11 (key q) → LieItems T 4 false (key_temporary c q)
  unfolding key_temporary
  key_temporary_lies {T = T} q l = go (key_case (key q))
    where
      go : KeyCase (key q) → LieItems T 4 false (key_temporary c q)
      go (KeyCase.is_name e n) = rw (e, key_temporary) LieItems.none
      go (KeyCase.is_literal e n) = rw (e, key_temporary) LieItems.none
      go (KeyCase.is_template_lem e n) = rw (e, key_temporary) LieItems.none
      go (KeyCase.is_private_lem e) = rw (e, key_temporary) LieItems.none
      go (KeyCase.is_again e n) = rw (e, key_temporary) LieItems.none
      go (KeyCase.is_other_lem e n) = rw (e, key_temporary) (lies_only (declares_lies (bound (omega arith) (omega arith)) (key_expression (key q) l n)))

  module _ {T : Texts} (t w : Bool) (p : Node) (l : Lies T (pattern_at t w) p) (o : shape p ≡ object_pattern) where
    pub excluded_keys_lie : (h : Bool) → LieItems T 13 h (excluded_keys c p)
    unfolding excluded_keys
    excluded_keys_lie h = lies_gather h (excluded_key c) (λ q m. excluded_key_lies h q (key_of_lem t q m)) (properties_of t w p l o)

    pub key_temporaries_lie : LieItems T 4 false (key_temporaries c p)
    unfolding key_temporaries
    key_temporaries_lie = lies_gather false (key_temporary c) (λ q m. key_temporary_lies q (key_of_lem t q m)) (properties_of t w p l o)

    -- the pattern when its rest is taken
    pub taken_lies : Lies T (pattern_at t w) (taken c p)
    unfolding taken
    taken_lies =
        by_test (has_rest_of p)
        (λ h. rw h (rest_dropped t w (with_properties (kept_key c) p) (properties_lies t w (kept_key c) (λ q m. kept_key_lies t q m) p l o) (same_shape (kept_key c) p o)))
        (λ h. rw h l)

    -- ---- the value of the rest

    pub keys_read_lies : Lies T 13 (keys_read c p)
    unfolding keys_read mapped
    keys_read_lies =
        by_test (is_hoisted c p)
        (λ h. rw h (temporary_lies 13 takes_13 (omega arith) (omega arith)))
        (λ h. by_test (all_primitive p)
        (λ a. rw (h, a) (array_lies 13 takes_13 (excluded_keys_lie true)))
        (λ a. rw (h, a) (call_lies 13 takes_13 (member_lies 3 takes_3 (array_lies 3 takes_3 (excluded_keys_lie true)) T.map) (lies_only (K-lies 13 takes_13)))))

    pub rest_value_lies : (s : Node) → Lies T 3 s → Lies T 3 (rest_value c p s)
    unfolding rest_value
    rest_value_lies s m =
        by_test (has_no_properties p)
        (λ h. rw h (X-lies 3 takes_3 (object_lies 13 takes_13 LieItems.none) (sequence_lies 13 takes_13 (LieItems.item (E-lies 3 takes_3 (argument m)) (lies_only m)))))
        (λ h. rw h (W-lies 3 takes_3 (argument m) keys_read_lies))

    pub excluded_for_lies : LieItems T 4 false (excluded_for c p)
    unfolding excluded_for
    excluded_for_lies =
        lies_if (is_hoisted c p)
        (λ h. lies_only (declares_lies (bound (omega arith) (omega arith)) (array_lies 3 takes_3 (excluded_keys_lie true))))
        (λ h. LieItems.none)
